-- What a computed table has of the lanes of a range names the instructions that touch it.
use Rattle.std.proofs.Common.{◌≡◌, ◌⊎◌, inl, inr, ◌<◌, ◌+◌, ℕ, zero, suc, Bool, true, false, cond, not, List, Option, Some, None, map, filter, flat_map, refl, sym, ap, ◌∙◌, subst, arith}
use Rattle.std.specs.Prelude.{◌||◌, nat_lt, slice_get}
use Rattle.std.specs.List.{list_all}
use Rattle.std.proofs.lemmas.Bool.{ltb-true, ltb-false, lt-ltb}
use Rattle.target_base.specs.declared.types.Target.{Target}
use Rattle.target_base.specs.Rules.{is_phi}
use Rattle.meaning.specs.Live.{Among as Member}
use Rattle.mir_func.specs.declared.func.Block.{Block}
use Rattle.mir_func.specs.declared.func.Instr.{Instr}
use Rattle.mir_func.specs.Value.{Function}
use Rattle.mir_func.specs.Binding.{does}
use Rattle.mir_meaning.specs.Points.{touches, has_no_phis}
use Rattle.mir_meaning.specs.Rules.{V8}
use Rattle.slot_index.specs.Order.{ids}
use Rattle.instr_effects.specs.declared.owner.Owner.TheVariants as owners
use Rattle.instr_effects.specs.declared.row.LaneSpan.{LaneSpan}
use Rattle.instr_effects.specs.Numbers.{row_number_in}
use Rattle.instr_effects.specs.Numbered.{number_in}
use Rattle.instr_effects.specs.Row.{lane_in}
use Rattle.instr_effects.specs.Steps.{Numbering}
use Rattle.instr_effects.proofs.Members.{flat-of, flat-in, filter-of, filter-in, map-of, map-in}
use Rattle.live_laws.specs.Effects.Coded.{KeepsRules, IsNumbered}
use Rattle.live_laws.proofs.Effects.Lists.{all-of}
use Rattle.live_laws.proofs.Effects.Blocks.{member-slice}
use Rattle.live_laws.proofs.Effects.Moving.{some-same}
use Rattle.live_lanes.specs.declared.row.LaneRange.{LaneRange}
use Rattle.live_lanes.specs.declared.table.Table.{Table}
use Rattle.mir_meaning.specs.Paths.{Code, steps_of}
use Rattle.live_lanes.specs.Entered.{IsEntered}
use Rattle.live_lanes.specs.Ordered.{place_of, all_ids}
use Rattle.live_lanes.specs.Doing.{doing_of, lane_code, IsComputed}
use Rattle.live_lanes.specs.Touching.{names_lane, some_below, some_of, names_range, layout_key}
use Rattle.live_lanes.specs.Tells.{touching_ids, TellsTouched}
use Rattle.live_laws.proofs.Exact.Inside as inside
use Rattle.live_laws.proofs.Exact.Occupied.{occupied-law}
use Rattle.live_laws.specs.Touch.{is_known, are_known, Names, IsNamed, TouchedLaw}
use Rattle.live_laws.proofs.Touch.Naming.{naming-law}
use Rattle.live_laws.proofs.Touch.Cells.{names_step, lane-forth, lane-back, or-cases, or-left, or-right}
use Rattle.live_laws.proofs.Touch.Sequence.{Rise, rise-of, has-member, member-has, same-lists, rise-some, layout-rises, ids-of-all}
use Rattle.live_laws.proofs.Touch.Stepped.{step-forth, step-back, steps-there, steps-of-block}

-- lanes in a row

pub below-forth : (test : ℕ → Bool) (low n : ℕ) → some_below test low n ≡ true → (j : ℕ) × (j < n) × (test (low + j) ≡ true)
below-forth test low zero e = absurd (cc)
below-forth test low (suc n) e = go (or-cases (test (low + n)) (some_below test low n) e) (below-forth test low n)
  where
    go : (test (low + n) ≡ true) ⊎ (some_below test low n ≡ true) → (some_below test low n ≡ true → (j : ℕ) × (j < n) × (test (low + j) ≡ true)) → (j : ℕ) × (j < suc n) × (test (low + j) ≡ true)
    go (inl f) ih = (n, omega arith, f)
    go (inr f) ih = let z = ih f in let l = z.1 in (z.0, omega (arith, l), z.2)

pub below-back : (test : ℕ → Bool) (low n j : ℕ) → j < n → test (low + j) ≡ true → some_below test low n ≡ true
below-back test low zero j h e = absurd (omega arith)
below-back test low (suc n) j h e = go (nat_lt j n) refl (below-back test low n j)
  where
    go : (b : Bool) → nat_lt j n ≡ b → (j < n → test (low + j) ≡ true → some_below test low n ≡ true) → (test (low + n) || some_below test low n) ≡ true
    go true g ih = or-right (test (low + n)) (some_below test low n) (ih (ltb-true j n g) e)
    go false g ih = or-left (test (low + n)) (some_below test low n) (let k = ltb-false j n g in let same : j ≡ n = omega (arith, h, k) in subst (λ m. test (low + m) ≡ true) same e)

lane-of : (low count k n : ℕ) → lane_in low count k ≡ Some n → (k < count) × (n ≡ low + k)
lane-of low count k n e = go (nat_lt k count) refl e
  where
    go : (b : Bool) → nat_lt k count ≡ b → cond b (Some (low + k)) None ≡ Some n → (k < count) × (n ≡ low + k)
    go true g h = (ltb-true k count g, some-same n (low + k) (sym h))
    go false g h = absurd (cc)

lane-is : (low count k : ℕ) → k < count → lane_in low count k ≡ Some (low + k)
lane-is low count k h = ap (λ b. cond b (Some (low + k)) None) (lt-ltb k count h)

not-true : (b : Bool) → not b ≡ true → b ≡ false
not-true true e = absurd (cc)
not-true false e = refl

module _ (t : Target) (f : Function) (x : Table) (computed : IsComputed t f x) (rules : KeepsRules t f) (last : (b : Block) (j : ℕ) (i : Instr) → Member b f.blocks → slice_get b.instrs j ≡ Some i → V8 t b j i ≡ true) (plain : has_no_phis t f.blocks ≡ true) (known : are_known t f.blocks ≡ true) where
  abbrev num : Numbering
  num = number_in x.lanes

  abbrev rows : List LaneRange
  rows = x.rows.rows.items

  abbrev code : Code
  code = lane_code t f num

  numbered : IsNumbered t f num
  numbered = inside.numbered t f x computed rules last

  entered : IsEntered code rows
  entered = (computed.table (inside.all t f x computed rules last)).entered

  named : (b : Block) (i : Instr) → Member b f.blocks → Member i b.instrs → (v : ℕ) → IsNamed t f num v i
  named b i mb mi v =
      naming-law t f num rules numbered b i mb mi
      (all-of (is_known t) i b.instrs mi (all-of (λ c. list_all (is_known t) c.instrs) b f.blocks mb known))
      (not-true (does is_phi t i) (all-of (λ j. not (does is_phi t j)) i b.instrs mi (all-of (λ c. list_all (λ j. not (does is_phi t j)) c.instrs) b f.blocks mb plain))) v

  module _ (v : ℕ) where
    -- an instruction of that id touches the range
    abbrev Touches : ℕ → Type 0
    Touches id = (b : Block) × (i : Instr) × Member b f.blocks × Member i b.instrs × (i.id ≡ id) × (touches v i ≡ true)

    forth : (id : ℕ) → names_range x v id ≡ true → Touches id
    forth id e = go (slice_get x.lanes.ranges.items v) refl e
      where
        go : (q : Option LaneSpan) → slice_get x.lanes.ranges.items v ≡ q → some_of (names_lane id rows) q ≡ true → Touches id
        go None g h = absurd (cc)
        go (Some own) g h =
            let z = below-forth (names_lane id rows) own.first own.count h in
            let lane : num (owners.Range v z.0) ≡ Some (own.first + z.0) = ap (λ q. row_number_in q z.0) g ∙ lane-is own.first own.count z.0 z.1 in
            let y = lane-forth code rows entered (own.first + z.0) id z.2 in
            let w = steps-of-block (doing_of t f num) (λ n. place_of n f.blocks) f.blocks 0 f.blocks y.0 y.1 y.2 in
            let o = step-forth t f num w.1 (own.first + z.0) (ap (names_step (own.first + z.0)) (sym w.4) ∙ y.4) in
            let same : o.0 ≡ owners.Range v z.0 = numbered.numbering.names o.0 (owners.Range v z.0) (own.first + z.0) o.1 lane in
            (w.0, w.1, w.2, w.3, ap (λ s. s.id) (sym w.4) ∙ y.3, (named w.0 w.1 w.2 w.3 v).back z.0 (subst (Names t f w.1) same o.2))

    back : (id : ℕ) → Touches id → names_range x v id ≡ true
    back id z =
        let y = (named z.0 z.1 z.2 z.3 v).forth z.5 in
        subst (λ n. names_range x v n ≡ true) z.4 (go y.0 y.1 (slice_get x.lanes.ranges.items v) refl y.2 (step-back t f num z.1 y.1 (owners.Range v y.0) y.2 y.3))
      where
        go : (k n : ℕ) (q : Option LaneSpan) → slice_get x.lanes.ranges.items v ≡ q → row_number_in (slice_get x.lanes.ranges.items v) k ≡ Some n → names_step n (doing_of t f num z.1).0 ≡ true → names_range x v z.1.id ≡ true
        go k n None g h s = absurd (let e : None ≡ Some n = ap (λ q. row_number_in q k) (sym g) ∙ h in cc)
        go k n (Some own) g h s =
            let l = lane-of own.first own.count k n (ap (λ q. row_number_in q k) (sym g) ∙ h) in
            let at = member-slice z.0 f.blocks z.2 in
            let there : Member (doing_of t f num z.1).0 (steps_of code at.0) = subst (Member (doing_of t f num z.1).0) (sym (steps-there (doing_of t f num) (λ n. place_of n f.blocks) f.blocks 0 f.blocks at.0 z.0 at.1)) (map-in (λ i. (doing_of t f num i).0) z.1 z.0.instrs z.3) in
            let lane : names_lane z.1.id rows n ≡ true = lane-back code rows entered n at.0 (doing_of t f num z.1).0 there s in
            ap (some_of (names_lane z.1.id rows)) g ∙ below-back (names_lane z.1.id rows) own.first own.count k l.0 (ap (names_lane z.1.id rows) (sym l.1) ∙ lane)

    abbrev all : List Instr
    all = flat_map (λ b. b.instrs) f.blocks

    touching-of : (id : ℕ) → Member id (touching_ids f v) → Touches id
    touching-of id m =
        let z = map-of (λ (i : Instr). i.id) id (filter (touches v) all) m in
        let y = filter-of (touches v) z.0 all z.1 in
        let w = flat-of (λ (b : Block). b.instrs) z.0 f.blocks y.0 in
        (w.0, z.0, w.1, w.2, sym z.2, y.1)

    touching-in : (id : ℕ) → Touches id → Member id (touching_ids f v)
    touching-in id z = subst (λ n. Member n (touching_ids f v)) z.4 (map-in (λ (i : Instr). i.id) z.1 (filter (touches v) all) (filter-in (touches v) z.1 all (flat-in (λ (b : Block). b.instrs) z.1 z.0 f.blocks z.2 z.3) z.5))

    layout : ids x.order.slots ≡ map (λ i. i.id) all
    layout = computed.layout ∙ ids-of-all f.blocks

    rises : Rise (layout_key x.order.slots) (map (λ i. i.id) all)
    rises = subst (Rise (layout_key x.order.slots)) layout (layout-rises x.order.slots computed.numbered (λ y m. computed.short y (member-has y (all_ids f.blocks) (subst (Member y) computed.layout m))))

    pub touched : TellsTouched x f v
    touched found z =
        same-lists (layout_key x.order.slots) found (touching_ids f v) (rise-of (layout_key x.order.slots) found z.order) (rise-some (layout_key x.order.slots) (touches v) all rises)
        (λ y m. touching-in y (forth y (sym (z.named y) ∙ member-has y found m)))
        (λ y m. has-member y found (z.named y ∙ back y (touching-of y m)))

pub touched-law : TouchedLaw
touched-law t f x computed rules last plain known = record {
  finds = record { homes = computed.homes; ranked = (occupied-law t f x computed rules last).ranked };
  touched = λ v. touched t f x computed rules last plain known v;
}
