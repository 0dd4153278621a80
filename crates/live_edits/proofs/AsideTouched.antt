-- What edits touch where rows were taken away: at each touched instruction all lanes of these rows too.
use Rattle.std.proofs.Common.{◌≡◌, ◌⊎◌, inl, inr, ◌∙◌, ◌&&◌, ◌||◌, ℕ, Bool, true, false, List, refl, sym, ap, subst, eqb-true, eq-eqb}
use Rattle.std.specs.Prelude.{nat_eq}
use Rattle.std.specs.List.{list_any}
use Rattle.target_base.specs.declared.types.Target.{Target}
use Rattle.mir_func.specs.Value.{Function}
use Rattle.mir_meaning.specs.Paths.{Among, has}
use Rattle.instr_effects.specs.declared.lane_acts.LaneAct.{LaneAct}
use Rattle.instr_effects.specs.Steps.{Numbering}
use Rattle.live_lanes.proofs.Cells.{both, both-left, both-right}
use Rattle.edit_laws.specs.Reasons.{Touched}
use Rattle.live_edits.specs.declared.aside.AsideRow.{AsideRow}
use Rattle.live_edits.specs.declared.cells.CellNotes.{CellNotes}
use Rattle.live_edits.specs.declared.notes.TouchedInstr.{TouchedInstr}
use Rattle.live_edits.specs.Aside.{is_aside}
use Rattle.live_edits.specs.Noted.{HasNotes, touched_lanes, touches, touched_at}
use Rattle.live_edits.specs.Runs.{HasIds, Includes, LeavesAside, TakesAside}
use Rattle.live_edits.specs.Updated.{AreTold}
use Rattle.live_edits.proofs.AskMembers.{any-among, among-any, among-map}
use Rattle.live_edits.proofs.EditedNotes.{includes}

-- an instruction of an id is touched in a block
abbrev pub stands_in : List TouchedInstr → ℕ → ℕ → Bool
stands_in xs b id = list_any (λ (x : TouchedInstr). nat_eq x.id id && nat_eq x.block b) xs

-- it is touched at the lane, or at any, where the lane's row was taken away
abbrev pub touched_with : List AsideRow → List TouchedInstr → Touched
touched_with aside xs l b id = touched_at xs l b id || (is_aside aside l && stands_in xs b id)

or-left : (u v : Bool) → u ≡ true → (u || v) ≡ true
or-left true v e = refl
or-left false v e = absurd (let z : false ≡ true = e in cc)

or-right : (u v : Bool) → v ≡ true → (u || v) ≡ true
or-right true v e = refl
or-right false v e = e

or-cases : (u v : Bool) → (u || v) ≡ true → (u ≡ true) ⊎ (v ≡ true)
or-cases true v e = inl refl
or-cases false v e = inr e

or-none : (u v : Bool) → (u || (false && v)) ≡ u
or-none true v = refl
or-none false v = refl

module _ (aside : List AsideRow) (xs : List TouchedInstr) where
  pub includes-with : Includes (touched_with aside xs) xs
  includes-with x m l k = or-left (touched_at xs l x.block x.id) (is_aside aside l && stands_in xs x.block x.id) (includes xs x m l k)

  pub takes-aside : TakesAside (touched_with aside xs) aside xs
  takes-aside x m l e =
      or-right (touched_at xs l x.block x.id) (is_aside aside l && stands_in xs x.block x.id)
      (both (is_aside aside l) (stands_in xs x.block x.id) e
      (among-any (λ (y : TouchedInstr). nat_eq y.id x.id && nat_eq y.block x.block) x xs m (both (nat_eq x.id x.id) (nat_eq x.block x.block) (eq-eqb x.id x.id refl) (eq-eqb x.block x.block refl))))

  -- the ids of touched instructions are all that are told
  pub told-with : (ids : List ℕ) → HasIds xs ids → AreTold (touched_with aside xs) ids
  told-with ids all l b id e = go (or-cases (touched_at xs l b id) (is_aside aside l && stands_in xs b id) e)
    where
      own : (x : TouchedInstr) → Among x xs → nat_eq x.id id ≡ true → has id ids ≡ true
      own x m same = subst (λ n. has n ids ≡ true) (eqb-true x.id id same) (all x m)

      go : (touched_at xs l b id ≡ true) ⊎ ((is_aside aside l && stands_in xs b id) ≡ true) → has id ids ≡ true
      go (inl f) = let z = any-among (λ (y : TouchedInstr). touches y l b id) xs f in own z.0 z.1 (both-left (nat_eq z.0.id id) (nat_eq z.0.block b && has l (touched_lanes z.0)) z.2)
      go (inr f) =
          let z = any-among (λ (y : TouchedInstr). nat_eq y.id id && nat_eq y.block b) xs (both-right (is_aside aside l) (stands_in xs b id) f) in
          own z.0 z.1 (both-left (nat_eq z.0.id id) (nat_eq z.0.block b) z.2)

  -- at lanes whose rows stay nothing else is touched
  pub touched-left : (l b id : ℕ) → is_aside aside l ≡ false → touched_with aside xs l b id ≡ touched_at xs l b id
  touched-left l b id e = ap (λ u. touched_at xs l b id || (u && stands_in xs b id)) e ∙ or-none (touched_at xs l b id) (stands_in xs b id)

  -- the others have no notes
  pub no-note : (t : Target) (f : Function) (num : Numbering) (gone : List ℕ) (all : List CellNotes) → HasNotes t f num gone xs all → LeavesAside aside xs → (l : ℕ) → is_aside aside l ≡ true → (c : CellNotes) → Among c all → c.lane ≡ l → ⊥
  no-note t f num gone all h apart l e c m own =
      let n = h.filled c m in
      let w = h.none c m n.0 n.1 in
      let a = among-map (λ (a : LaneAct). a.lane) c.lane w.0.acts.items w.4 in
      let z : true ≡ false = sym e ∙ (ap (is_aside aside) (sym own ∙ a.2) ∙ apart w.0 w.1 a.0 a.1) in
      absurd (cc)
