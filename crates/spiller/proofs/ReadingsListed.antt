-- The readings of the places of instructions that touch the range, one after the other.
use Rattle.std.proofs.Common.{◌≡◌, ◌∙◌, ℕ, zero, suc, ◌+◌, ◌<◌, get_or, length, take, Bool, true, false, cond, ◌&&◌, List, [], ◌∷◌, Option, Some, None, flat_map, refl, sym, ap, subst, eq-eqb, eqb-true}
use Rattle.std.specs.Prelude.{drop, find, nat_eq, slice_get, slice_index}
use Rattle.std.specs.List.{AllByRecursion, list_all, position_or_len}
use Rattle.target_base.specs.declared.types.Effect.{Effect}
use Rattle.target_base.specs.declared.types.Effect.TheVariants as effects
use Rattle.target_base.specs.declared.types.Target.{Target}
use Rattle.target_base.proofs.Tests.{first_of_both}
use Rattle.meaning.specs.Live.{Among as Member}
use Rattle.mir_func.specs.declared.func.Operand.{Operand}
use Rattle.mir_func.specs.declared.func.Instr.{Instr}
use Rattle.mir_func.specs.declared.func.Block.{Block}
use Rattle.mir_func.specs.Value.{Function}
use Rattle.mir_func.specs.Binding.{does, effect_of, is_terminator, passes}
use Rattle.instr_effects.proofs.Loops.{get-same}
use Rattle.live_lanes.specs.declared.table.Table.{Table}
use Rattle.live_lanes.specs.Touching.{AreTouched, FindsInstrs}
use Rattle.live_laws.proofs.Effects.Blocks.{slice-member}
use Rattle.live_laws.proofs.Exact.Inside.{has-id}
use Rattle.live_laws.proofs.Touch.Touched.{touched-law}
use Rattle.live_laws.proofs.Effects.Moving.{some-same}
use Rattle.lowering_laws.proofs.BlockRules.{ordered}
use Rattle.spiller.specs.declared.plan.SpillView.{SpillView}
use Rattle.spiller.specs.MaySpill.{MaySpill}
use Rattle.spiller.specs.Listed.{Lists, keyed_by, keyed_effect, keyed_operands, keyed_readings, place_at, place_by}
use Rattle.spiller.specs.Placing.{IsPlainForm}
use Rattle.spiller.specs.Setting.{Spilling}
use Rattle.spiller.specs.declared.reaching.Definition.{Definition}
use Rattle.spiller.specs.declared.remat.RematUse.{RematUse}
use Rattle.spiller.specs.Views.{spilling_of}
use Rattle.live_laws.proofs.Touch.Sequence.{member-has}
use Rattle.spiller.proofs.ListSteps.{item-member, lists-got, lists-same}
use Rattle.spiller.proofs.ReachesTold.{Site, one-instr, site-of}
use Rattle.spiller.proofs.ReadingPlaces.{form, forms, in-line}
use Rattle.spiller.proofs.EndsDropped.{ends-dropped}
use Rattle.spiller.specs.Ends.{ends_of, block_ends}

known-of : (test : Effect → Bool) (q : Option Effect) → passes test q ≡ true → (e : Effect) × (q ≡ Some e) × (test e ≡ true)
known-of test None h = absurd (cc)
known-of test (Some e) h = (e, refl, h)

-- terminators are neither copies nor stores
pub ends-keyed : (s : Spilling) (is : List Instr) → list_all (does is_terminator s.target) is ≡ true → keyed_operands s is ≡ keyed_readings s is
ends-keyed s [] h = refl
ends-keyed s (i ∷ j ∷ is) h = refl
ends-keyed s (i ∷ []) h =
    let z = known-of is_terminator (effect_of s.target i) (first_of_both (does is_terminator s.target i) true h) in
    sym (ap (λ q. keyed_effect s i q i.operands) z.1 ∙ go z.0 z.2 i.operands)
  where
    go : (e : Effect) → is_terminator e ≡ true → (os : List Operand) → keyed_effect s i (Some e) os ≡ keyed_operands s (i ∷ [])
    go effects.Copy h os = absurd (cc)
    go effects.Spill h os = absurd (cc)
    go e h os = refl

pub ends-all : (t : Target) (is : List Instr) → ordered t is ≡ true → list_all (does is_terminator t) (ends_of t is) ≡ true
ends-all t [] o = refl
ends-all t (i ∷ is) o = go (does is_terminator t i) refl o (ends-all t is)
  where
    go : (b : Bool) → does is_terminator t i ≡ b → cond b (list_all (does is_terminator t) is) (ordered t is) ≡ true → (ordered t is ≡ true → list_all (does is_terminator t) (ends_of t is) ≡ true) → list_all (does is_terminator t) (cond b (i ∷ is) (ends_of t is)) ≡ true
    go true e q ih = λ k. e k && q k
    go false e q ih = ih q

find-at : (id : ℕ) (is : List Instr) (j : ℕ) (i : Instr) → slice_get is j ≡ Some i → i.id ≡ id → (k : Instr) × (m : ℕ) × (slice_get is m ≡ Some k) × (find (λ (x : Instr). nat_eq x.id id) is ≡ Some k) × (k.id ≡ id)
find-at id [] j i e named = absurd (cc)
find-at id (x ∷ is) j i e named = go (nat_eq x.id id) refl (rest j e (λ k h. find-at id is k i h named))
  where
    Found : List Instr → Type 0
    Found js = (k : Instr) × (m : ℕ) × (slice_get js m ≡ Some k) × (find (λ (x : Instr). nat_eq x.id id) js ≡ Some k) × (k.id ≡ id)

    rest : (j : ℕ) → slice_get (x ∷ is) j ≡ Some i → ((k : ℕ) → slice_get is k ≡ Some i → Found is) → nat_eq x.id id ≡ false → Found is
    rest zero e more f = let z : true ≡ false = sym (eq-eqb x.id id (ap (λ (y : Instr). y.id) (some-same x i e) ∙ named)) ∙ f in absurd (cc)
    rest (suc j) e more f = more j e

    go : (b : Bool) → nat_eq x.id id ≡ b → (nat_eq x.id id ≡ false → Found is) → (k : Instr) × (m : ℕ) × (slice_get (x ∷ is) m ≡ Some k) × (cond b (Some x) (find (λ (x : Instr). nat_eq x.id id) is) ≡ Some k) × (k.id ≡ id)
    go true f more = (x, 0, refl, refl, eqb-true x.id id f)
    go false f more = let z = more f in (z.0, suc z.1, z.2, z.3, z.4)

module _ (view : SpillView) (may : MaySpill view.target.now view.live.now.func view.live.now.table view.v) where
  abbrev t : Target
  t = view.target.now

  abbrev f : Function
  f = view.live.now.func

  abbrev x : Table
  x = view.live.now.table

  pub finds : FindsInstrs x f.blocks
  finds = (touched-law t f x may.computed may.lowered.rules may.last may.phis may.known).finds

  module _ (p j : ℕ) (b : Block) (i : Instr) (stands : slice_get f.blocks p ≡ Some b) (there : slice_get b.instrs j ≡ Some i) where
    at-home : slice_get f.blocks (slice_index x.order.block_of.items i.id) ≡ Some b
    at-home = ap (slice_get f.blocks) (may.computed.homes p b i.id stands (has-id b.instrs j i there)) ∙ stands

    mb : Member b f.blocks
    mb = slice-member f.blocks p b stands

    mi : Member i b.instrs
    mi = slice-member b.instrs j i there

    pub ends-are : (id : ℕ) → i.id ≡ id → block_ends view id ≡ ends_of t b.instrs
    ends-are id named =
        ap (λ n. block_ends view n) (sym named)
        ∙ (ap (λ q. elim q as (λ q. List Instr) [ None ↦ [] | Some c ↦ drop (position_or_len (does is_terminator t) c.instrs) c.instrs ]) at-home
        ∙ ends-dropped t b.instrs)

    -- where it is a terminator, and where not
    pub at-ends : does is_terminator t i ≡ true → place_at t b i ≡ ends_of t b.instrs
    at-ends e = ap (λ c. cond c (ends_of t b.instrs) (i ∷ [])) e

    pub at-one : does is_terminator t i ≡ false → place_at t b i ≡ i ∷ []
    at-one e = ap (λ c. cond c (ends_of t b.instrs) (i ∷ [])) e

    pub ends-formed : does is_terminator t i ≡ true → (js : List Instr) → js ≡ ends_of t b.instrs → AllByRecursion IsPlainForm js
    ends-formed e js is = subst (AllByRecursion IsPlainForm) (at-ends e ∙ sym is) (forms t f x view.v may b mb i mi)

    pub ends-listed : (s : Spilling) → s.target ≡ t → does is_terminator t i ≡ true → (js : List Instr) → js ≡ ends_of t b.instrs → keyed_operands s js ≡ keyed_readings s (place_at t b i)
    ends-listed s same e js is =
        ends-keyed s js (subst (λ w. list_all (does is_terminator w) js ≡ true) (sym same) (subst (λ ks. list_all (does is_terminator t) ks ≡ true) (sym is) (ends-all t b.instrs (in-line t f x view.v may b mb))))
        ∙ ap (keyed_readings s) (is ∙ sym (at-ends e))

    pub one-formed : IsPlainForm i
    one-formed = form t f x view.v may b mb i mi

    module _ (ids : List ℕ) (are : AreTouched x view.v ids) where
      pub place-by-is : (id : ℕ) → i.id ≡ id → place_by view id ≡ place_at t b i
      place-by-is id named =
          let z = find-at id b.instrs j i there named in
          let same : z.0 ≡ i = one-instr t f x view.v may ids are z.0 i (record { position = p; block = b; spot = z.1; stands = stands; there = z.2 }) (record { position = p; block = b; spot = j; stands = stands; there = there }) (z.4 ∙ sym named) in
          ap (λ q. elim q as (λ q. List Instr) [ None ↦ [] | Some c ↦ elim (find (λ (y : Instr). nat_eq y.id id) c.instrs) [ None ↦ [] | Some y ↦ place_at t c y ] ]) (ap (λ n. slice_get f.blocks (slice_index x.order.block_of.items n)) (sym named) ∙ at-home)
          ∙ (ap (λ q. elim q as (λ q. List Instr) [ None ↦ [] | Some y ↦ place_at t b y ]) z.3
          ∙ ap (place_at t b) same)

pub not-none : (i : Instr) → ◌≡◌ {A = Option Instr} None (Some i) → ⊥
not-none i e = absurd (cc)

-- one instruction more
pub touched-step : (view : SpillView) (may : MaySpill view.target.now view.live.now.func view.live.now.table view.v) (ids : List ℕ) (are : AreTouched view.live.now.table view.v ids) (ds : List Definition) (k d : ℕ) (mid new : List RematUse) → k < length ids
    → ((b : Block) (p j : ℕ) (i : Instr) → MaySpill view.target.now view.live.now.func view.live.now.table view.v → slice_get view.live.now.func.blocks p ≡ Some b → slice_get b.instrs j ≡ Some i → i.id ≡ get_or ids k d → Lists view ds (λ s. keyed_readings s (place_at view.target.now b i)) mid new)
    → Lists view ds (keyed_by view (take k ids)) [] mid → Lists view ds (keyed_by view (take (k + 1) ids)) [] new
touched-step view may ids are ds k d mid new h added was =
    let id = get_or ids k d in
    let z = site-of view.target.now view.live.now.func view.live.now.table view.v may ids are id (sym (are.named id) ∙ member-has id ids (item-member ids k id h (get-same ids k d id h))) in
    lists-got view ds (λ s n. keyed_readings s (place_by view n)) ids k d [] mid new h was
    (lists-same view ds (λ s. keyed_readings s (place_at view.target.now z.1.block z.0)) (λ s. keyed_readings s (place_by view id)) mid new
    (λ slot facts. ap (keyed_readings (spilling_of view slot facts)) (sym (place-by-is view may z.1.position z.1.spot z.1.block z.0 z.1.stands z.1.there ids are id z.2)))
    (added z.1.block z.1.position z.1.spot z.0 may z.1.stands z.1.there z.2))
