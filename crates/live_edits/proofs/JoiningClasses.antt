-- A computed table stays so where a range gets another class with the same lanes.
use Rattle.std.proofs.Common.{◌≡◌, ◌∷◌, ◌∙◌, ℕ, zero, suc, List, [], Option, Some, None, map, length, refl, sym, ap, subst}
use Rattle.std.specs.Prelude.{slice_get, slice_index, slice_set}
use Rattle.target_base.specs.declared.types.ClassId.{ClassId}
use Rattle.target_base.specs.declared.types.IndexId.{IndexId}
use Rattle.target_base.specs.declared.types.Target.{Target}
use Rattle.target_base.specs.declared.types.Unit.{Unit as UnitNumber}
use Rattle.target_base.specs.Registers.{lanes_of, units_of, widths_of_some}
use Rattle.meaning.specs.declared.types.Lane.TheVariants.{UnitLane, VirtualLane}
use Rattle.mir_func.specs.declared.func.Instr.{Instr}
use Rattle.mir_func.specs.declared.func.Loc.{Loc}
use Rattle.mir_func.specs.declared.func.Loc.TheVariants.{Fixed, Virtual}
use Rattle.mir_func.specs.Value.{Function}
use Rattle.mir_meaning.specs.Paths.{Code}
use Rattle.mir_meaning.specs.Registers.{located_lanes, located_widths, numbers, range_widths, whole_lanes}
use Rattle.instr_effects.specs.Numbered.{number_in, class_counts}
use Rattle.instr_effects.specs.Steps.{Numbering}
use Rattle.live_lanes.specs.Doing.{doing_of, lane_code}
use Rattle.live_lanes.specs.Ends.{AreEnds}
use Rattle.live_lanes.specs.Entered.{causes, IsTableOf}
use Rattle.live_lanes.specs.Graph.{IsGrown}
use Rattle.live_lanes.specs.Laws.{AllMatched}
use Rattle.live_lanes.specs.Ordered.{place_of}
use Rattle.edit_laws.proofs.Numbers.{bodies-do, entries-do}
use Rattle.edit_laws.proofs.Paired.{Paired, no_pairs, map-paired}
use Rattle.edit_laws.proofs.Walked.{SameLane, doing-same}
use Rattle.live_edits.specs.Folded.{NarrowLaw}

-- the class at a place of a list; none where there is no such place
abbrev class_in : List (Option ClassId) → ℕ → Option ClassId
class_in cs v = elim (slice_get cs v) as (λ q. Option ClassId) [ None ↦ None | Some c ↦ c ]

-- another class with the same widths is put at a place

set-widths : (t : Target) (c : Option ClassId) (cs : List (Option ClassId)) (v : ℕ) → widths_of_some t c ≡ widths_of_some t (class_in cs v) → (w : ℕ) → widths_of_some t (class_in cs w) ≡ widths_of_some t (class_in (slice_set cs v c) w)
set-widths t c [] v e w = refl
set-widths t c (d ∷ cs) zero e zero = sym e
set-widths t c (d ∷ cs) zero e (suc w) = refl
set-widths t c (d ∷ cs) (suc v) e zero = refl
set-widths t c (d ∷ cs) (suc v) e (suc w) = set-widths t c cs v e w

set-counts : (t : Target) (c : Option ClassId) (cs : List (Option ClassId)) (v : ℕ) → widths_of_some t c ≡ widths_of_some t (class_in cs v) → class_counts t cs ≡ class_counts t (slice_set cs v c)
set-counts t c [] v e = refl
set-counts t c (d ∷ cs) zero e = ap (λ ws. length ws ∷ class_counts t cs) (sym e)
set-counts t c (d ∷ cs) (suc v) e = ap (λ ns. length (widths_of_some t d) ∷ ns) (set-counts t c cs v e)

-- instructions do the same where ranges have the same widths

module _ (t : Target) (f g : Function) (num : Numbering) (same : (v : ℕ) → range_widths t f v ≡ range_widths t g v) where
  lanes-agree : (l : Loc) (x : Option IndexId) → Paired (SameLane t f g num num) (located_lanes t f l x) (located_lanes t g l x)
  lanes-agree (Virtual v) None =
      subst (λ ws. Paired (SameLane t f g num num) (map (VirtualLane v) (numbers 0 (length (range_widths t f v)))) (map (VirtualLane v) (numbers 0 (length ws)))) (same v)
      (map-paired (VirtualLane v) (VirtualLane v) (numbers 0 (length (range_widths t f v))) (λ k m. refl))
  lanes-agree (Virtual v) (Some x) = map-paired (VirtualLane v) (VirtualLane v) (lanes_of t x) (λ k m. refl)
  lanes-agree (Fixed r) x = map-paired (λ (u : UnitNumber). UnitLane u.0) (λ (u : UnitNumber). UnitLane u.0) (units_of t r) (λ u m. refl)

  widths-agree : (l : Loc) (x : Option IndexId) → located_widths t f l x ≡ located_widths t g l x
  widths-agree (Virtual v) None = same v
  widths-agree (Virtual v) (Some x) = ap (λ ws. map (slice_index ws) (lanes_of t x)) (same v)
  widths-agree (Fixed r) x = refl

  whole-agree : (l : Loc) → Paired (SameLane t f g num num) (whole_lanes t f l) (whole_lanes t g l)
  whole-agree (Virtual v) = lanes-agree (Virtual v) None
  whole-agree (Fixed r) = no_pairs

  do-same : (i : Instr) → doing_of t f num i ≡ doing_of t g num i
  do-same i =
      doing-same t f g num num (λ u. refl) i (λ o m. record { lanes = lanes-agree o.loc; widths = widths-agree o.loc o.index; whole = whole-agree o.loc }) (λ s e k. refl)

codes-same : (t : Target) (f : Function) (num : Numbering) (cs : List (Option ClassId)) → ((v : ℕ) → range_widths t f v ≡ range_widths t (record f { classes = cs }) v) → lane_code t f num ≡ lane_code t (record f { classes = cs }) num
codes-same t f num cs same =
    let g : Function = record f { classes = cs } in
    let old = doing_of t f num in
    let new = doing_of t g num in
    bodies-do old new (λ n. place_of n f.blocks) f.blocks (entries-do old new (λ n. place_of n f.blocks) f.blocks (λ b i m n. do-same t f g num same i)) 0 f.blocks (λ b i m n. do-same t f g num same i)

pub narrow-law : NarrowLaw
narrow-law t f x v c computed e =
    let g : Function = record f { classes = slice_set f.classes v c } in
    let num : Numbering = number_in x.lanes in
    let codes : lane_code t f num ≡ lane_code t g num = codes-same t f num (slice_set f.classes v c) (set-widths t c f.classes v e) in
    record {
      numbers = record { table = computed.numbers.table; reserved = computed.numbers.reserved; ranges = computed.numbers.ranges ∙ set-counts t c f.classes v e; slots = computed.numbers.slots };
      positions = computed.positions;
      homes = computed.homes;
      ways = computed.ways;
      layout = computed.layout;
      numbered = computed.numbered;
      short = computed.short;
      few = computed.few;
      table = subst (λ (q : Code). AllMatched q → IsTableOf q x.order.slots x.flow.items x.rows.rows.items) codes computed.table;
      grown = subst (λ (q : Code). AllMatched q → IsGrown q (causes x.rows.rows.items)) codes computed.grown;
      ended = subst (λ (q : Code). AllMatched q → AreEnds q x.order.slots x.rows.rows.items) codes computed.ended;
    }
