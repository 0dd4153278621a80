-- A computed table tells of each lane that has a number exactly at which points it is live or occupied.
use Rattle.std.proofs.Common.{◌≡◌, ◌⊎◌, ℕ, suc, Bool, true, false, List, [], ◌∷◌, Option, Some, None, map, take, drop, inl, inr, refl, sym, ◌∙◌, subst}
use Rattle.std.specs.Prelude.{◌↔◌, slice_get}
use Rattle.target_base.specs.declared.types.Target.{Target}
use Rattle.meaning.specs.declared.types.Lane.{Lane}
use Rattle.meaning.specs.Live.{Among as Member, is_slot}
use Rattle.mir_func.specs.declared.func.Block.{Block}
use Rattle.mir_func.specs.declared.func.Instr.{Instr}
use Rattle.mir_func.specs.Value.{Function}
use Rattle.mir_meaning.specs.Points.{Start, Entry, Exit, OccupiedAt}
use Rattle.mir_meaning.specs.Rules.{V8}
use Rattle.mir_meaning.specs.declared.writing.LaneDef.{LaneDef}
use Rattle.mir_meaning.specs.Paths.{Step, Code, steps_of, writing_of}
use Rattle.slot_index.specs.Order.{number_of}
use Rattle.instr_effects.specs.Numbered.{number_in}
use Rattle.instr_effects.specs.Steps.{Numbering}
use Rattle.instr_effects.specs.Stepping.{tag_of}
use Rattle.live_laws.specs.Effects.Shaped.{is_proper}
use Rattle.live_laws.specs.Effects.Coded.{instr_step, is_early, numbered_code, spot_in, KeepsRules}
use Rattle.live_laws.proofs.Effects.Numbered.{number-law, occupied-law as occupied-number-law}
use Rattle.live_laws.proofs.Effects.Whole.{steps-at}
use Rattle.live_lanes.specs.declared.table.Table.{Table}
use Rattle.live_lanes.specs.Graph.{IsGrown}
use Rattle.live_lanes.specs.Table.{entry_rank, exit_rank}
use Rattle.live_lanes.specs.Entered.{rows_seen, causes, Rises, IsTableOf}
use Rattle.live_lanes.specs.Ordered.{ids_of, AreRising}
use Rattle.live_lanes.specs.Ends.{AreEnds}
use Rattle.live_lanes.specs.Doing.{IsComputed}
use Rattle.live_lanes.specs.Held.{held_at, AreRanked}
use Rattle.live_lanes.specs.Occupied.{writes_early, TellsHeld}
use Rattle.live_lanes.proofs.Occupied.{held-law}
use Rattle.live_laws.specs.Exact.Occupied.{TellsOccupiedLaw}
use Rattle.live_laws.proofs.Exact.Coded.{code-same}
use Rattle.live_laws.proofs.Exact.Same.{same-forth, same-back}
use Rattle.live_laws.proofs.Exact.Inside.{numbered, quiet, all, s, from, split, inside-law}

-- the first writing of a lane is early in both words
early-same : (l : ℕ) (ws : List LaneDef) → writes_early (writing_of l ws) ≡ elim (writing_of l ws) [ None ↦ false | Some w ↦ w.early ]
early-same l ws = go (writing_of l ws)
  where
    go : (q : Option LaneDef) → writes_early q ≡ elim q [ None ↦ false | Some w ↦ w.early ]
    go None = refl
    go (Some w) = refl

either : {A B X Y : Type 0} → A ↔ X → B ↔ Y → (A ⊎ B) ↔ (X ⊎ Y)
either {A} {B} {X} {Y} f g = (there, back)
  where
    there : A ⊎ B → X ⊎ Y
    there (inl a) = inl (f.0 a)
    there (inr b) = inr (g.0 b)

    back : X ⊎ Y → A ⊎ B
    back (inl x) = inl (f.1 x)
    back (inr y) = inr (g.1 y)

both-ways : {A B C D : Type 0} → A ↔ B → B ↔ C → D ↔ C → A ↔ D
both-ways f g h = ((λ a. h.1 (g.0 (f.0 a))), (λ d. f.1 (g.1 (h.0 d))))

of-same : (p q : Bool) → p ≡ q → (p ≡ true) ↔ (q ≡ true)
of-same p q e = ((λ h. sym e ∙ h), (λ h. e ∙ h))

module _ (t : Target) (f : Function) (x : Table) (computed : IsComputed t f x) (rules : KeepsRules t f) (last : (b : Block) (j : ℕ) (i : Instr) → Member b f.blocks → slice_get b.instrs j ≡ Some i → V8 t b j i ≡ true) where
  abbrev num : Numbering
  num = number_in x.lanes

  abbrev code : Code
  code = numbered_code t f num

  stands : IsTableOf code x.order.slots x.flow.items x.rows.rows.items
  stands = subst (λ c. IsTableOf c x.order.slots x.flow.items x.rows.rows.items) (code-same t f num rules) (computed.table (all t f x computed rules last))

  rising : (n : ℕ) (is : List Instr) → Rises x.order.slots n (map (instr_step t f num) is) → AreRising x.order.slots n (ids_of is)
  rising n [] r = r
  rising n (i ∷ is) r = (r.0, r.1, rising (number_of x.order.slots i.id) is r.2)

  pub ranked : AreRanked x.order.slots f.blocks
  ranked k b e = rising 0 b.instrs (subst (Rises x.order.slots 0) (steps-at t f num rules (numbered t f x computed rules last) k b e) (stands.numbered k))

  told : TellsHeld code x.order.slots x.rows.rows.items
  told = held-law code x.order.slots x.flow.items x.rows.rows.items stands
      (subst (λ c. IsGrown c (causes x.rows.rows.items)) (code-same t f num rules) (computed.grown (all t f x computed rules last)))
      (subst (λ c. AreEnds c x.order.slots x.rows.rows.items) (code-same t f num rules) (computed.ended (all t f x computed rules last)))

  module _ (l : Lane) (n : ℕ) (still : is_slot l ≡ false) (tagged : tag_of num (is_proper t) l ≡ Some n) where
    pub at-start : (k : ℕ) (b : Block) → slice_get f.blocks k ≡ Some b → (held_at x.order.slots (rows_seen x.rows.rows.items n k) 0 ≡ true) ↔ OccupiedAt t f (Start b.number) l
    at-start k b e =
        let number = (number-law t f num rules (numbered t f x computed rules last) l n still tagged).start k b e in
        both-ways (told.start n k) (
          (λ h. same-back code (quiet t f x computed rules last) h),
          (λ h. same-forth code (quiet t f x computed rules last) h ([], refl)),
        ) number

    module _ (id p k : ℕ) (at : spot_in id f.blocks ≡ Some (p, k)) where
      abbrev step : Step
      step = instr_step t f num (s t f x computed rules last id p k at).instr

      abbrev before : List Step
      before = take k (steps_of code p)

      abbrev rest : List Step
      rest = drop (suc k) (steps_of code p)

      named : step.id ≡ id
      named = (s t f x computed rules last id p k at).named

      pub at-entry : (held_at x.order.slots (rows_seen x.rows.rows.items n p) (entry_rank x.order.slots id) ≡ true) ↔ OccupiedAt t f (Entry id) l
      at-entry = subst (λ i. (held_at x.order.slots (rows_seen x.rows.rows.items n p) (entry_rank x.order.slots i) ≡ true) ↔ OccupiedAt t f (Entry id) l) named
          (both-ways (told.entry n p before step rest (split t f x computed rules last id p k at))
          (either ((λ h. same-back code (quiet t f x computed rules last) h), (λ h. same-forth code (quiet t f x computed rules last) h (before, split t f x computed rules last id p k at))) (of-same (writes_early (writing_of n step.writes)) (is_early n step) (early-same n step.writes)))
          ((occupied-number-law t f num rules (numbered t f x computed rules last) l n still tagged).entry id p k step rest at (from t f x computed rules last id p k at)))

      pub at-exit : (held_at x.order.slots (rows_seen x.rows.rows.items n p) (exit_rank x.order.slots id) ≡ true) ↔ OccupiedAt t f (Exit id) l
      at-exit = subst (λ i. (held_at x.order.slots (rows_seen x.rows.rows.items n p) (exit_rank x.order.slots i) ≡ true) ↔ OccupiedAt t f (Exit id) l) named
          (both-ways (told.exit n p before step rest (split t f x computed rules last id p k at))
          (either ((λ h. same-back code (quiet t f x computed rules last) h), (λ h. same-forth code (quiet t f x computed rules last) h (before, split t f x computed rules last id p k at))) ((λ h. h), (λ h. h)))
          ((occupied-number-law t f num rules (numbered t f x computed rules last) l n still tagged).exit id p k step rest at (from t f x computed rules last id p k at)))

pub occupied-law : TellsOccupiedLaw
occupied-law t f x computed rules last = record {
  ordered = (inside-law t f x computed rules last).ordered;
  ranked = ranked t f x computed rules last;
  start = λ l n still e k b g. at-start t f x computed rules last l n still e k b g;
  entry = λ l n still e id p k at. at-entry t f x computed rules last l n still e id p k at;
  exit = λ l n still e id p k at. at-exit t f x computed rules last l n still e id p k at;
}
