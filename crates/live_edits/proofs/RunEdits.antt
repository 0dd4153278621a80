-- What an edit of a run touches.
use Rattle.std.proofs.Common.{◌≡◌, ◌++◌, ◌∙◌, ℕ, true, false, List, [], ◌∷◌, None, Some, refl, sym, ap, subst}
use Rattle.std.specs.Prelude.{slice_get}
use Rattle.target_base.specs.declared.types.OpId.{OpId}
use Rattle.target_base.specs.declared.types.Target.{Target}
use Rattle.meaning.specs.Live.{Among as Member}
use Rattle.mir_func.specs.declared.func.Block.{Block}
use Rattle.mir_func.specs.declared.func.Gap.{Gap}
use Rattle.mir_func.specs.declared.func.Instr.{Instr}
use Rattle.mir_func.specs.declared.func.Operand.{Operand}
use Rattle.mir_func.specs.Value.{Function, IsFunction}
use Rattle.mir_func.specs.At.{instr_at}
use Rattle.mir_func.specs.Edits.{HasBlock, block_place, made, inserted}
use Rattle.mir_meaning.specs.Paths.{Among, here, Step}
use Rattle.instr_effects.specs.declared.lane_acts.LaneAct.{LaneAct}
use Rattle.instr_effects.specs.LaneActs.{act_on}
use Rattle.instr_effects.specs.Steps.{Numbering}
use Rattle.live_lanes.specs.declared.order.Order.{Order}
use Rattle.live_lanes.proofs.Numbered.{among-left, among-right}
use Rattle.edit_laws.specs.Codes.{NamesTold, step_in}
use Rattle.edit_laws.specs.Deferred.{TouchesEdit}
use Rattle.edit_laws.specs.Edits.{Put, Replace, Erase, replaced, with_op, Stands, KeepsWays}
use Rattle.edit_laws.specs.LaneSteps.{LaneStep, lane_step}
use Rattle.edit_laws.specs.Reasons.{Touched, IsLike}
use Rattle.edit_laws.proofs.Codes.{doing-same}
use Rattle.live_edits.specs.declared.notes.TouchedInstr.{TouchedInstr}
use Rattle.live_edits.specs.ActChanges.{act_lanes, AreChanged}
use Rattle.live_edits.specs.Drafts.{IsOrderOf, IsPlaceOf}
use Rattle.live_edits.specs.Noted.{touched_lanes}
use Rattle.live_edits.specs.NotedTable.{AreActs}
use Rattle.live_edits.specs.Remade.{noted_step}
use Rattle.live_edits.specs.Runs.{Includes, AreActsAt, AreActsOf}
use Rattle.live_edits.proofs.NotedActs.{step-noted}
use Rattle.live_edits.proofs.RunLanes.{untold-absent, acts-name}
use Rattle.live_edits.proofs.RunPlaces.{member-place, place-member, in-block, one-place, new-stands, changed-there}

-- a further touched instruction

module _ (xs ys : List TouchedInstr) (x : TouchedInstr) (more : ys ≡ xs ++ x ∷ []) where
  pub touched-kept : (y : TouchedInstr) → Among y xs → Among y ys
  touched-kept y m = subst (Among y) (sym more) (among-left y xs (x ∷ []) m)

  pub touched-last : Among x ys
  touched-last = subst (Among x) (sym more) (among-right x xs (x ∷ []) here)

  -- a test of touched lanes tells its lanes
  pub tells-last : (touched : Touched) → Includes touched ys → (l : ℕ) → Among l (touched_lanes x) → touched l x.block x.id ≡ true
  tells-last touched all l m = all x touched-last l m

-- one is put

module _ (t : Target) (f : Function) (gap : Gap) (op : OpId) (os : List Operand) (block : HasBlock f gap.block) where
  abbrev after-put : Function
  after-put = inserted f gap op os

  pub put-touches : (num : Numbering) (touched : Touched) (acts : List LaneAct) → AreActsOf t after-put num f.next_id acts → ((l : ℕ) → Among l (act_lanes acts) → touched l (block_place gap.block f.blocks) f.next_id ≡ true) → TouchesEdit touched t f num (Put gap op os)
  put-touches num touched acts are told =
      let z = new-stands f gap op os block in
      let x : Instr = made f.next_id op os in
      let own : AreActs (step_in t f num x) acts = subst (λ (s : Step). AreActs s acts) (λ u. (doing-same t after-put f refl num x u).0) (are (block_place gap.block f.blocks) z.0 x z.1 refl) in
      acts-name (step_in t f num x) acts own (λ l. touched l (block_place gap.block f.blocks) f.next_id) told

-- one is replaced

-- where the same act is done to a lane, the same is done to it
same-steps : (l : ℕ) (s r : Step) (before after : List LaneAct) → s.id ≡ r.id → AreActs s before → AreActs r after → act_on before l ≡ act_on after l → lane_step l s ≡ lane_step l r
same-steps l s r before after id was will same = step-noted l s before was ∙ ((λ k. noted_step (record { id = id k; act = same k })) ∙ sym (step-noted l r after will))

module _ (t : Target) (f : Function) (o : Order) (id : ℕ) (op : OpId) (os : List Operand) (is : IsFunction f.blocks f.next_id) (order : IsOrderOf f o) where
  abbrev after-change : Function
  after-change = replaced f id op os

  pub change-touches : (num : Numbering) (touched : Touched) (g : Function) (p k : ℕ) (before after acts : List LaneAct) → g ≡ after-change → KeepsWays t f (Replace id op os) → IsPlaceOf f id (Some (p, k))
      → AreActsAt t f num p k before → AreActsAt t g num p k after → AreChanged before after acts → ((l : ℕ) → Among l (act_lanes acts) → touched l p id ≡ true) → TouchesEdit touched t f num (Replace id op os)
  change-touches num touched g p k before after acts change keeps found old new changed told = λ b x i at m own. go b x i at m own (member-place m)
    where
      go : (b : ℕ) (x : Block) (i : Instr) → slice_get f.blocks b ≡ Some x → Member i x.instrs → i.id ≡ id → (j : ℕ) × (slice_get x.instrs j ≡ Some i) → IsLike (λ l n. touched l b n) (step_in t f num i) (step_in t f num (with_op op os i))
      go b x i at m own z =
          let here = in-block f.blocks b z.0 x i at z.1 in
          let one = one-place f o is order b z.0 p k i found.0 here found.1 (own ∙ sym found.2) in
          let stands : Stands f id x i = record { block = place-member f.blocks b x at; instr = m; named = own } in
          let at-place : instr_at f.blocks p k ≡ Some i = found.1 ∙ ap (λ (y : Instr). Some y) (sym one.2) in
          let there : instr_at g.blocks p k ≡ Some (with_op op os i) = (λ u. instr_at (change u).blocks p k) ∙ changed-there f id op os p k i is at-place own in
          let tell : (l : ℕ) → Among l (act_lanes acts) → touched l b i.id ≡ true = λ l a. (λ u. touched l (one.0 u) (own u)) ∙ told l a in
          let was : AreActs (step_in t f num i) before = old i at-place in
          let will : AreActs (step_in t f num (with_op op os i)) after =
          subst (λ (s : Step). AreActs s after) (λ u. (doing-same t g f (ap (λ (h : Function). h.classes) change) num (with_op op os i) u).0) (new (with_op op os i) there) in
          let alike : (l : ℕ) → touched l b i.id ≡ false → lane_step l (step_in t f num i) ≡ lane_step l (step_in t f num (with_op op os i)) =
          λ l e. same-steps l (step_in t f num i) (step_in t f num (with_op op os i)) before after refl was will (changed.whole l (untold-absent (λ n. touched n b i.id) (act_lanes acts) tell l e)) in
          record {
            id = refl;
            leaves = (keeps x i stands).2;
            used = λ l e. ap (λ (s : LaneStep). s.used) (alike l e);
            writing = λ l e. ap (λ (s : LaneStep). s.writing) (alike l e);
          }

  pub no-change : (num : Numbering) (touched : Touched) → IsPlaceOf f id None → TouchesEdit touched t f num (Replace id op os)
  no-change num touched none = λ b x i at m own. let z = member-place m in absurd (none b z.0 i (in-block f.blocks b z.0 x i at z.1) own)

-- one is erased

module _ (t : Target) (f : Function) (o : Order) (id : ℕ) (is : IsFunction f.blocks f.next_id) (order : IsOrderOf f o) where
  pub erase-touches : (num : Numbering) (touched : Touched) (p k : ℕ) (acts : List LaneAct) → IsPlaceOf f id (Some (p, k)) → AreActsAt t f num p k acts → ((l : ℕ) → Among l (act_lanes acts) → touched l p id ≡ true) → TouchesEdit touched t f num (Erase id)
  erase-touches num touched p k acts found are told = λ b x i at m own. go b x i at own (member-place m)
    where
      go : (b : ℕ) (x : Block) (i : Instr) → slice_get f.blocks b ≡ Some x → i.id ≡ id → (j : ℕ) × (slice_get x.instrs j ≡ Some i) → NamesTold (λ l. touched l b i.id) (step_in t f num i)
      go b x i at own z =
          let one = one-place f o is order b z.0 p k i found.0 (in-block f.blocks b z.0 x i at z.1) found.1 (own ∙ sym found.2) in
          acts-name (step_in t f num i) acts (are i (found.1 ∙ ap (λ (y : Instr). Some y) (sym one.2))) (λ l. touched l b i.id) (λ l a. (λ u. touched l (one.0 u) (own u)) ∙ told l a)

  pub no-erase : (num : Numbering) (touched : Touched) → IsPlaceOf f id None → TouchesEdit touched t f num (Erase id)
  no-erase num touched none = λ b x i at m own. let z = member-place m in absurd (none b z.0 i (in-block f.blocks b z.0 x i at z.1) own)
