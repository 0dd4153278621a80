-- An instruction that is needed no more writes the range, and so touches it.
use Rattle.std.proofs.Common.{◌≡◌, ◌∷◌, ◌++◌, ◌∙◌, ◌+◌, ◌<◌, ◌≤◌, inr, ◌&&◌, not, ℕ, zero, suc, Bool, true, false, cond, List, [], Option, Some, None, filter, drop, length, map, refl, ap, subst, arith, eq-eqb}
use Rattle.std.specs.Prelude.{nat_eq, nat_lt, slice_get, is_some}
use Rattle.std.specs.List.{list_all, list_any}
use Rattle.std.proofs.lemmas.Bool.{lt-ltb, ltb-true}
use Rattle.target_base.specs.declared.types.Effect.{Effect}
use Rattle.target_base.specs.declared.types.Target.{Target}
use Rattle.target_base.specs.Rules.{is_phi}
use Rattle.target_base.proofs.Tests.{first_of_both, second_of_both}
use Rattle.meaning.specs.Code.{Code}
use Rattle.meaning.specs.declared.types.Lane.TheVariants.{VirtualLane}
use Rattle.meaning.specs.Live.{Among, here, there, Writing, is_slot}
use Rattle.mir_func.specs.declared.func.Block.{Block}
use Rattle.mir_func.specs.declared.func.Instr.{Instr}
use Rattle.mir_func.specs.Edits.{instr_place}
use Rattle.mir_func.specs.Value.{Function, id_count, id_total}
use Rattle.mir_func.specs.Binding.{does, effect_of, is_lowered_away, passes}
use Rattle.mir_func.proofs.ByPlace.{place_is}
use Rattle.mir_meaning.specs.Points.{AtFirst, block_rest, from_instr, has_instr, point_item, points_of, touches}
use Rattle.mir_meaning.specs.Codes.{block_end, blocks_code}
use Rattle.mir_meaning.specs.Registers.{is_reserved}
use Rattle.instr_effects.specs.Acts.{act_of, entered_writes}
use Rattle.instr_effects.specs.Owners.{owner_of}
use Rattle.instr_effects.specs.Numbered.{number_in}
use Rattle.instr_effects.specs.Steps.{Numbering}
use Rattle.instr_effects.proofs.Members.{filter-of, map-in}
use Rattle.live_lanes.specs.declared.table.Table.{Table}
use Rattle.live_lanes.proofs.Finding.{found-within}
use Rattle.live_laws.specs.Effects.Coded.{IsNumbered, KeepsRules}
use Rattle.live_laws.proofs.Effects.Instrs.{same-law, written-law}
use Rattle.live_laws.proofs.Effects.Tabled.{table-law}
use Rattle.live_laws.proofs.Exact.Spots.{drop-at}
use Rattle.live_laws.proofs.Touch.Cells.{any-of}
use Rattle.live_laws.proofs.Touch.Naming.{naming-law}
use Rattle.edit_laws.proofs.ErasedLast.{total-step}
use Rattle.live_edits.proofs.JoiningEdits.{count-step}
use Rattle.live_edits.proofs.RunPlaces.{member-place}
use Rattle.lowering_laws.proofs.Arrivals.{at-least}
use Rattle.spiller.specs.MaySpill.{MaySpill}
use Rattle.spiller.specs.Reaching.{AreFacts, Brings}
use Rattle.spiller.specs.Rematerialised.{Reading, all_readings, is_constant, is_needless, is_rematerialised, reaches}
use Rattle.spiller.specs.Setting.{Spilling}
use Rattle.spiller.proofs.EditSteps.{one_if}

-- the code from an instruction on

counted : (id k : ℕ) (i : Instr) (is : List Instr) → slice_get is k ≡ Some i → i.id ≡ id → 1 ≤ id_count id is
counted id k i [] e same = absurd (cc)
counted id zero i (j ∷ is) e same =
    let q : j ≡ i = cc in
    omega (arith, count-step id j is, ap one_if (eq-eqb j.id id (ap (λ (y : Instr). y.id) q ∙ same)))
counted id (suc k) i (j ∷ is) e same = omega (arith, count-step id j is, counted id k i is e same)

no-place : (id : ℕ) (is : List Instr) → id_count id is ≡ 0 → length is ≤ instr_place id is
no-place id [] none = omega arith
no-place id (i ∷ is) none = go (nat_eq i.id id) (count-step id i is) (no-place id is)
  where
    go : (u : Bool) → id_count id (i ∷ is) ≡ one_if u + id_count id is → (id_count id is ≡ 0 → length is ≤ instr_place id is) → length (i ∷ is) ≤ cond (not u) (1 + instr_place id is) 0
    go true step more = absurd (omega (arith, step, none))
    go false step more = let z : length is ≤ instr_place id is = more (omega (arith, step, none)) in omega (arith, z)

total-counted : (b : Block) (bs : List Block) (i : Instr) → Among b bs → Among i b.instrs → 1 ≤ id_total i.id bs
total-counted b [] i m mi = elim m [ ]
total-counted b (c ∷ bs) i here mi = let z = member-place mi in omega (arith, total-step i.id b bs, counted i.id z.0 i b.instrs z.1 refl)
total-counted b (c ∷ bs) i (there m) mi = omega (arith, total-step i.id c bs, total-counted b bs i m mi)

module _ (t : Target) (f : Function) where
  pub from-is : (b : Block) (bs : List Block) (i : Instr) → id_total i.id bs ≤ 1 → Among b bs → Among i b.instrs → (rest : Code) × (from_instr t f i.id bs ≡ point_item t f b i ∷ rest)
  from-is b [] i once m mi = elim m [ ]
  from-is b (c ∷ bs) i once here mi =
      let z = member-place mi in
      let place : instr_place i.id b.instrs ≡ z.0 = place_is i.id z.0 i b.instrs z.1 refl (omega (arith, once, total-step i.id b bs)) in
      let there : has_instr i.id b ≡ true = ap (λ k. nat_lt k (length b.instrs)) place ∙ lt-ltb z.0 (length b.instrs) (found-within b.instrs z.0 i z.1) in
      let ends : Code = block_end t f b bs ∷ blocks_code (point_item t f) t f bs in (
        map (point_item t f b) (drop (suc z.0) b.instrs) ++ ends,
        ap (λ u. cond u (block_rest t f b bs (instr_place i.id b.instrs)) (from_instr t f i.id bs)) there ∙ (ap (block_rest t f b bs) place ∙ ap (λ is. map (point_item t f b) is ++ ends) (drop-at b.instrs z.0 i z.1).0),
      )
  from-is b (c ∷ bs) i once (there m) mi =
      let z = from-is b bs i (omega (arith, once, total-step i.id c bs)) m mi in
      let none : id_count i.id c.instrs ≡ 0 = omega (arith, once, total-step i.id c bs, total-counted b bs i m mi) in
      let past : has_instr i.id c ≡ false = at-least (instr_place i.id c.instrs) (length c.instrs) (no-place i.id c.instrs none) in
      (z.0, ap (λ u. cond u (block_rest t f c bs (instr_place i.id c.instrs)) (from_instr t f i.id bs)) past ∙ z.1)

known-of : (q : Option Effect) → passes (λ e. not (is_lowered_away e)) q ≡ true → (is_some q ≡ true) × (passes is_phi q ≡ false)
known-of None h = absurd (cc)
known-of (Some e) h = (refl, go (is_phi e) refl h)
  where
    go : (u : Bool) → is_phi e ≡ u → not (is_lowered_away e) ≡ true → u ≡ false
    go true k g = absurd (cc)
    go false k g = refl

stands-once : (u : Bool) (n : ℕ) → n ≤ one_if u → n ≤ 1
stands-once true n h = h
stands-once false n h = omega (arith, h)

-- what writes a lane of a range touches it
pub written-touches : (t : Target) (f : Function) (x : Table) (v k : ℕ) → MaySpill t f x v → (b : Block) (i : Instr) → Among b f.blocks → Among i b.instrs → Writing (point_item t f b i) (VirtualLane v k) → touches v i ≡ true
written-touches t f x v k may b i mb mi w =
    let num : Numbering = number_in x.lanes in
    let rules : KeepsRules t f = may.lowered.rules in
    let numbered : IsNumbered t f num = table-law t f x.lanes may.computed.numbers rules in
    let known = known-of (effect_of t i) (may.lowered.lowered b i mb mi) in
    let tag = written-law t f num rules numbered b i mb mi w.0 w.1 (ap (is_reserved t) w.2) (ap is_slot w.2) in
    let u = (same-law t f num rules numbered b i mb mi).forth w.0.lane tag.0 tag.1 (ap is_slot w.2) (w.0, w.1, refl) in
    (naming-law t f num rules numbered b i mb mi known.0 known.1 v).back k (inr (act_of u.0, map-in act_of u.0 (entered_writes t f i) u.1, inr (ap owner_of (u.2 ∙ w.2))))

pub needless-touch : (s : Spilling) (x : Table) → MaySpill s.target s.func x s.range → AreFacts s.target s.func s.range s.facts → (b : Block) (i : Instr) → Among b s.func.blocks → Among i b.instrs → is_needless s i ≡ true → touches s.range i ≡ true
needless-touch s x may facts b i mb mi needless =
    let rs = filter (reaches s i) (all_readings s) in
    let some = ltb-true 0 (length rs) (second_of_both (does is_constant s.target i) (nat_lt 0 (length rs)) (first_of_both (does is_constant s.target i && nat_lt 0 (length rs)) (list_all (is_rematerialised s) rs) needless)) in
    of rs some (λ r m. (filter-of (reaches s i) r (all_readings s) m).1)
  where
    of : (rs : List Reading) → 0 < length rs → ((r : Reading) → Among r rs → reaches s i r ≡ true) → touches s.range i ≡ true
    of [] h t = absurd (omega (arith, h))
    of (r ∷ rs) h t =
        let y = any-of (λ j. list_any (λ k. s.facts.reaches i.id k j.id) r.lanes) r.by (t r here) in
        let z = any-of (λ k. s.facts.reaches i.id k y.0.id) r.lanes y.2 in
        let code : Code = points_of s.target s.func in
        let w = (facts.reach (i.id, z.0, y.0.id)).0 z.2 in
        let from = from-is s.target s.func b s.func.blocks i (stands-once (nat_lt i.id s.func.next_id) (id_total i.id s.func.blocks) (may.lowered.function.once i.id)) mb mi in
        written-touches s.target s.func x s.range z.0 may b i mb mi
        (subst (AtFirst (λ j q. Brings code (VirtualLane s.range z.0) j q (from_instr s.target s.func y.0.id s.func.blocks))) from.1 w.0).0
