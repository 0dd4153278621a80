-- What the last edits that touched instructions noted is what these do still after one more edit.
use Rattle.std.proofs.Common.{◌≡◌, ◌++◌, ◌∙◌, ◌&&◌, ◌||◌, ◌⊎◌, inl, inr, ⊎_elim, ℕ, Bool, true, false, cond, List, [], ◌∷◌, None, Some, map, refl, sym, ap, subst, eqb-true, eq-eqb}
use Rattle.std.specs.Prelude.{nat_eq}
use Rattle.std.specs.List.{list_any}
use Rattle.target_base.specs.declared.types.OpId.{OpId}
use Rattle.target_base.specs.declared.types.Target.{Target}
use Rattle.mir_func.specs.declared.func.Gap.{Gap}
use Rattle.mir_func.specs.declared.func.Instr.{Instr}
use Rattle.mir_func.specs.declared.func.Operand.{Operand}
use Rattle.mir_func.specs.Value.{Function, IsFunction}
use Rattle.mir_func.specs.At.{instr_at}
use Rattle.mir_func.specs.Edits.{HasBlock, block_place, made, inserted}
use Rattle.mir_meaning.specs.Paths.{Among, has}
use Rattle.instr_effects.specs.declared.lane_acts.LaneAct.{LaneAct}
use Rattle.instr_effects.specs.LaneActs.{act_on, no_act, is_once}
use Rattle.instr_effects.specs.Steps.{Numbering}
use Rattle.live_lanes.specs.declared.order.Order.{Order}
use Rattle.live_lanes.specs.Coded.{Doing}
use Rattle.live_lanes.specs.Doing.{doing_of}
use Rattle.edit_laws.specs.Deferred.{idle, nothing}
use Rattle.edit_laws.specs.Edits.{Put, Replace, replaced, with_op}
use Rattle.edit_laws.proofs.Codes.{doing-same}
use Rattle.live_edits.specs.declared.notes.TouchedInstr.{TouchedInstr}
use Rattle.live_edits.specs.ActChanges.{act_lanes, AreChanged}
use Rattle.live_edits.specs.Drafts.{IsOrderOf, IsPlaceOf}
use Rattle.live_edits.specs.Noted.{TellLatest, TellsAct, step_act, touched_lanes, touches}
use Rattle.live_edits.specs.Runs.{AreActsAt, AreActsOf, AllSpared}
use Rattle.live_edits.proofs.ActChanges.{once-act, idle-act, idle-lanes}
use Rattle.live_edits.proofs.NotedActs.{none-on}
use Rattle.live_edits.proofs.RunPlaces.{one-place, new-stands, others-stand, other-stays, changed-there}

-- one more touched instruction

apart-last : (p : TouchedInstr → Bool) (xs : List TouchedInstr) (y : TouchedInstr) → list_any p (xs ++ y ∷ []) ≡ false → (list_any p xs ≡ false) × (p y ≡ false)
apart-last p [] y e = (refl, only (p y) e)
  where
    only : (u : Bool) → u || false ≡ false → u ≡ false
    only true h = h
    only false h = h
apart-last p (x ∷ xs) y e = go (p x) e (apart-last p xs y)
  where
    go : (u : Bool) → u || list_any p (xs ++ y ∷ []) ≡ false → (list_any p (xs ++ y ∷ []) ≡ false → (list_any p xs ≡ false) × (p y ≡ false)) → (u || list_any p xs ≡ false) × (p y ≡ false)
    go true h ih = absurd (let z : true ≡ false = h in cc)
    go false h ih = ih h

-- an instruction that isn't touched at a lane
untouched : (y : TouchedInstr) (l b id : ℕ) → y.id ≡ id → y.block ≡ b → touches y l b id ≡ false → has l (touched_lanes y) ≡ false
untouched y l b id own at e = sym (λ k. eq-eqb y.id id own k && (eq-eqb y.block b at k && has l (touched_lanes y))) ∙ e

same-id : (n m : ℕ) → (n ≡ m) ⊎ (nat_eq n m ≡ false)
same-id n m = go (nat_eq n m) refl
  where
    go : (u : Bool) → nat_eq n m ≡ u → (n ≡ m) ⊎ (nat_eq n m ≡ false)
    go true e = inl (eqb-true n m e)
    go false e = inr e

apart-id : (n m : ℕ) → (n ≡ m → ⊥) → nat_eq n m ≡ false
apart-id n m h = ⊎_elim (λ e. absurd (h e)) (λ e. e) (same-id n m)

ids-apart : (n m : ℕ) → nat_eq n m ≡ false → n ≡ m → ⊥
ids-apart n m e h = let z : true ≡ false = sym (eq-eqb n m h) ∙ e in absurd (cc)

module _ (t : Target) (f g : Function) (num : Numbering) (gone gone' : List ℕ) where
  pub tells-more : (y : TouchedInstr) → ((x : TouchedInstr) (a : LaneAct) → touches y a.lane x.block x.id ≡ false → TellsAct t f num gone x a → TellsAct t g num gone' x a)
      → ((a : LaneAct) → Among a y.acts.items → TellsAct t g num gone' y a) → (xs : List TouchedInstr) → TellLatest t f num gone xs → TellLatest t g num gone' (xs ++ y ∷ [])
  tells-more y kept own [] tell = ((λ a m e. own a m), tt)
  tells-more y kept own (x ∷ xs) tell = (
    (λ a m e. let z = apart-last (λ (w : TouchedInstr). touches w a.lane x.block x.id) xs y e in kept x a z.1 (tell.0 a m z.0)),
    tells-more y kept own xs tell.1,
  )

  pub tells-still : ((x : TouchedInstr) (a : LaneAct) → TellsAct t f num gone x a → TellsAct t g num gone' x a) → (xs : List TouchedInstr) → TellLatest t f num gone xs → TellLatest t g num gone' xs
  tells-still kept [] tell = tt
  tells-still kept (x ∷ xs) tell = ((λ a m e. kept x a (tell.0 a m e)), tells-still kept xs tell.1)

-- what an instruction does that isn't gone
stands-acting : (gone : List ℕ) (doing : Doing) (i : Instr) (l : ℕ) → has i.id gone ≡ false → step_act (doing i).0 l ≡ step_act ((idle gone doing) i).0 l
stands-acting gone doing i l e = ap (λ u. step_act (cond u (nothing i.id) (doing i)).0 l) (sym e)

-- one is put

module _ (t : Target) (f : Function) (gap : Gap) (op : OpId) (os : List Operand) (block : HasBlock f gap.block) (num : Numbering) (gone : List ℕ) where
  abbrev after-put : Function
  after-put = inserted f gap op os

  put-kept : (x : TouchedInstr) (a : LaneAct) → TellsAct t f num gone x a → TellsAct t after-put num gone x a
  put-kept x a z =
      let w = others-stand f gap op os x.block z.0 z.1 z.2 in
      (w.0, z.1, w.1, z.3, z.4 ∙ (λ u. step_act (cond (has z.1.id gone) (nothing z.1.id) (doing-same t f after-put refl num z.1 u)).0 a.lane))

  new-spared : AllSpared gone f (Put gap op os) → has f.next_id gone ≡ false
  new-spared spared = go (has f.next_id gone) refl
    where
      go : (u : Bool) → has f.next_id gone ≡ u → u ≡ false
      go true e = absurd ((spared f.next_id e).0 refl)
      go false e = refl

  pub put-tells : (xs ys : List TouchedInstr) (y : TouchedInstr) → ys ≡ xs ++ y ∷ [] → y.id ≡ f.next_id → y.block ≡ block_place gap.block f.blocks → AreActsOf t after-put num f.next_id y.acts.items → is_once y.acts.items ≡ true
      → AllSpared gone f (Put gap op os) → TellLatest t f num gone xs → TellLatest t after-put num gone ys
  put-tells xs ys y more own place are once spared tell =
      subst (λ (zs : List TouchedInstr). TellLatest t after-put num gone zs) (sym more) (tells-more t f after-put num gone gone y (λ x a e z. put-kept x a z) new xs tell)
    where
      new : (a : LaneAct) → Among a y.acts.items → TellsAct t after-put num gone y a
      new a m =
          let w = new-stands f gap op os block in
          let i : Instr = made f.next_id op os in (
            w.0,
            i,
            ap (λ p. instr_at after-put.blocks p w.0) place ∙ w.1,
            sym own,
            once-act y.acts.items a once m ∙ (are (block_place gap.block f.blocks) w.0 i w.1 refl a.lane ∙ stands-acting gone (doing_of t after-put num) i a.lane (new-spared spared)),
          )

-- one is replaced

module _ (t : Target) (f : Function) (o : Order) (id : ℕ) (op : OpId) (os : List Operand) (is : IsFunction f.blocks f.next_id) (order : IsOrderOf f o) (num : Numbering) (gone : List ℕ) where
  abbrev after-change : Function
  after-change = replaced f id op os

  other-kept : (x : TouchedInstr) (a : LaneAct) (z : TellsAct t f num gone x a) → (z.1.id ≡ id → ⊥) → TellsAct t after-change num gone x a
  other-kept x a z other =
      (z.0, z.1, other-stays f id op os x.block z.0 z.1 z.2 other, z.3, z.4 ∙ (λ u. step_act (cond (has z.1.id gone) (nothing z.1.id) (doing-same t f after-change refl num z.1 u)).0 a.lane))

  pub no-change-tells : (xs : List TouchedInstr) → IsPlaceOf f id None → TellLatest t f num gone xs → TellLatest t after-change num gone xs
  no-change-tells xs none tell = tells-still t f after-change num gone gone (λ x a z. other-kept x a z (none x.block z.0 z.1 z.2)) xs tell

  module _ (p k : ℕ) (before after : List LaneAct) (found : IsPlaceOf f id (Some (p, k))) (was : AreActsAt t f num p k before) (will : AreActsAt t after-change num p k after) (spared : AllSpared gone f (Replace id op os)) where
    id-spared : has id gone ≡ false
    id-spared = go (has id gone) refl
      where
        go : (u : Bool) → has id gone ≡ u → u ≡ false
        go true e = absurd (spared id e refl)
        go false e = refl

    -- the changed instruction does what is noted
    does-after : (i : Instr) (l : ℕ) → instr_at after-change.blocks p k ≡ Some i → i.id ≡ id → act_on after l ≡ step_act ((idle gone (doing_of t after-change num)) i).0 l
    does-after i l at own = will i at l ∙ stands-acting gone (doing_of t after-change num) i l (ap (λ n. has n gone) own ∙ id-spared)

    does-before : (i : Instr) (l : ℕ) → instr_at f.blocks p k ≡ Some i → i.id ≡ id → act_on before l ≡ step_act ((idle gone (doing_of t f num)) i).0 l
    does-before i l at own = was i at l ∙ stands-acting gone (doing_of t f num) i l (ap (λ n. has n gone) own ∙ id-spared)

    pub change-tells : (xs ys : List TouchedInstr) (y : TouchedInstr) → ys ≡ xs ++ y ∷ [] → y.id ≡ id → y.block ≡ p → AreChanged before after y.acts.items → TellLatest t f num gone xs → TellLatest t after-change num gone ys
    change-tells xs ys y more own place changed tell =
        subst (λ (zs : List TouchedInstr). TellLatest t after-change num gone zs) (sym more) (tells-more t f after-change num gone gone y kept new xs tell)
      where
        new : (a : LaneAct) → Among a y.acts.items → TellsAct t after-change num gone y a
        new a m =
            let there = changed-there f id op os p k found.0 is found.1 found.2 in (
              k,
              with_op op os found.0,
              ap (λ q. instr_at after-change.blocks q k) place ∙ there,
              found.2 ∙ sym own,
              changed.each a m ∙ does-after (with_op op os found.0) a.lane there found.2,
            )

        own-kept : (x : TouchedInstr) (a : LaneAct) (z : TellsAct t f num gone x a) → touches y a.lane x.block x.id ≡ false → z.1.id ≡ id → TellsAct t after-change num gone x a
        own-kept x a z e same =
            let one = one-place f o is order p k x.block z.0 found.0 z.1 found.1 z.2 (found.2 ∙ sym same) in
            let there = changed-there f id op os p k found.0 is found.1 found.2 in
            let at : instr_at f.blocks p k ≡ Some z.1 = found.1 ∙ ap (λ (i : Instr). Some i) one.2 in
            let lane : has a.lane (touched_lanes y) ≡ false = untouched y a.lane x.block x.id (own ∙ (sym same ∙ z.3)) (place ∙ one.0) e in (
              k,
              with_op op os found.0,
              ap (λ q. instr_at after-change.blocks q k) (sym one.0) ∙ there,
              ap (λ (i : Instr). i.id) one.2 ∙ z.3,
              z.4 ∙ (sym (does-before z.1 a.lane at same) ∙ (changed.whole a.lane lane ∙ does-after (with_op op os found.0) a.lane there found.2)),
            )

        kept : (x : TouchedInstr) (a : LaneAct) → touches y a.lane x.block x.id ≡ false → TellsAct t f num gone x a → TellsAct t after-change num gone x a
        kept x a e z = ⊎_elim (λ same. own-kept x a z e same) (λ h. other-kept x a z (ids-apart z.1.id id h)) (same-id z.1.id id)

-- one is erased

module _ (t : Target) (f : Function) (o : Order) (id : ℕ) (is : IsFunction f.blocks f.next_id) (order : IsOrderOf f o) (num : Numbering) (gone gone' : List ℕ) (goes : (n : ℕ) → has n gone' ≡ has n (id ∷ gone)) where
  other-stays-so : (x : TouchedInstr) (a : LaneAct) (z : TellsAct t f num gone x a) → (z.1.id ≡ id → ⊥) → TellsAct t f num gone' x a
  other-stays-so x a z other =
      let same : has z.1.id gone' ≡ has z.1.id gone = goes z.1.id ∙ ap (λ u. cond u true (has z.1.id gone)) (apart-id id z.1.id (λ e. other (sym e))) in
      (z.0, z.1, z.2, z.3, z.4 ∙ ap (λ u. step_act (cond u (nothing z.1.id) (doing_of t f num z.1)).0 a.lane) (sym same))

  -- one that is gone does nothing
  gone-idle : (i : Instr) (l : ℕ) → i.id ≡ id → no_act l ≡ step_act ((idle gone' (doing_of t f num)) i).0 l
  gone-idle i l own =
      let h : has i.id gone' ≡ true = goes i.id ∙ ap (λ u. cond u true (has i.id gone)) (eq-eqb id i.id (sym own)) in
      ap (λ u. step_act (cond u (nothing i.id) (doing_of t f num i)).0 l) (sym h)

  pub no-erase-tells : (xs : List TouchedInstr) → IsPlaceOf f id None → TellLatest t f num gone xs → TellLatest t f num gone' xs
  no-erase-tells xs none tell = tells-still t f f num gone gone' (λ x a z. other-stays-so x a z (none x.block z.0 z.1 z.2)) xs tell

  pub erase-tells : (p k : ℕ) (before : List LaneAct) → IsPlaceOf f id (Some (p, k)) → AreActsAt t f num p k before → (xs ys : List TouchedInstr) (y : TouchedInstr) → ys ≡ xs ++ y ∷ [] → y.id ≡ id → y.block ≡ p → y.acts.items ≡ map (λ (a : LaneAct). no_act a.lane) before
      → TellLatest t f num gone xs → TellLatest t f num gone' ys
  erase-tells p k before found was xs ys y more own place acts tell =
      subst (λ (zs : List TouchedInstr). TellLatest t f num gone' zs) (sym more) (tells-more t f f num gone gone' y kept new xs tell)
    where
      new : (a : LaneAct) → Among a y.acts.items → TellsAct t f num gone' y a
      new a m = (
        k,
        found.0,
        ap (λ q. instr_at f.blocks q k) place ∙ found.1,
        found.2 ∙ sym own,
        idle-act before a (subst (λ (zs : List LaneAct). Among a zs) acts m) ∙ gone-idle found.0 a.lane found.2,
      )

      -- at a lane that the instruction doesn't name it did nothing
      was-idle : (i : Instr) (l : ℕ) → instr_at f.blocks p k ≡ Some i → has l (act_lanes before) ≡ false → step_act ((idle gone (doing_of t f num)) i).0 l ≡ no_act l
      was-idle i l at none = go (has i.id gone)
        where
          go : (u : Bool) → step_act (cond u (nothing i.id) (doing_of t f num i)).0 l ≡ no_act l
          go true = refl
          go false = sym (was i at l) ∙ none-on before l none

      own-kept : (x : TouchedInstr) (a : LaneAct) (z : TellsAct t f num gone x a) → touches y a.lane x.block x.id ≡ false → z.1.id ≡ id → TellsAct t f num gone' x a
      own-kept x a z e same =
          let one = one-place f o is order p k x.block z.0 found.0 z.1 found.1 z.2 (found.2 ∙ sym same) in
          let at : instr_at f.blocks p k ≡ Some z.1 = found.1 ∙ ap (λ (i : Instr). Some i) one.2 in
          let lane : has a.lane (touched_lanes y) ≡ false = untouched y a.lane x.block x.id (own ∙ (sym same ∙ z.3)) (place ∙ one.0) e in
          let none : has a.lane (act_lanes before) ≡ false = ap (has a.lane) (sym (ap act_lanes acts ∙ idle-lanes before)) ∙ lane in
          (z.0, z.1, z.2, z.3, z.4 ∙ (was-idle z.1 a.lane at none ∙ gone-idle z.1 a.lane same))

      kept : (x : TouchedInstr) (a : LaneAct) → touches y a.lane x.block x.id ≡ false → TellsAct t f num gone x a → TellsAct t f num gone' x a
      kept x a e z = ⊎_elim (λ same. own-kept x a z e same) (λ h. other-stays-so x a z (ids-apart z.1.id id h)) (same-id z.1.id id)
