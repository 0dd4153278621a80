-- Steps of the greedy allocator tried on worked rows.
use Rattle.std.proofs.Common.{◌<◌, arith, ◌∷◌, ◌&&◌, cond, ℕ, Bool, zero, suc, true, false, subst, sym, refl, ap, inl, inr, ◌∙◌}
use Rattle.std.specs.Prelude.{◌≡◌, List, [], Option, Some, None, nat_eq, slice_get}
use Rattle.std.proofs.lemmas.Bool.{eq-eqb}
use Rattle.std.specs.List.{list_any}
use Rattle.meaning.specs.Code.{Code, found}
use Rattle.worked_examples.proofs.MachineCodeLemmas.Elsewhere.{never}
use Rattle.target_base.specs.declared.types.Unit.{Unit as UnitNumber}
use Rattle.target_base.specs.declared.types.Reg.{Reg}
use Rattle.target_base.specs.declared.types.Target.{Target}
use Rattle.target_base.specs.Numbers.{reg_number, unit_number}
use Rattle.target_base.specs.Mini.{mini_target}
use Rattle.target_base.specs.Registers.{units_of}
use Rattle.meaning.specs.Live.{Among, here, there}
use Rattle.meaning.specs.declared.types.Lane.{Lane}
use Rattle.meaning.specs.declared.types.Lane.TheVariants.{VirtualLane, UnitLane}
use Rattle.laws.proofs.Flow.{none_among}
use Rattle.laws.specs.Tables.{lists}
use Rattle.mir_func.specs.Value.{Function}
use Rattle.mir_meaning.specs.Codes.{item_of}
use Rattle.mir_meaning.specs.Points.{Point, Start, Entry, Exit, from_instr, HeldIn, OccupiedAt, RangesClash, UnitClash, points_of, point_item}
use Rattle.worked_examples.specs.MachineCode.Sample.{def, val, fixed, fixed_def, implicit, instr, block, function, gr32, eax, ecx, COPY, RET}
use Rattle.watchers.specs.declared.steps.Kind.TheVariants as kinds
use Rattle.watchers.specs.declared.steps.Step.TheVariants as steps
use Rattle.worked_examples.proofs.MachineCodeLemmas.Everywhere.{is_computed, point_test, range_points, occupied_lanes, occupied_at, some_decided, row, entering, leaving}
use Rattle.worked_examples.proofs.AllocatorExamples.Offering.{over_a_call, behind_the_call, call_computed, no_region, no_block, local_run}
use Rattle.worked_examples.proofs.AllocatorExamples.Splitting.{split_behind_the_call, local_split}
use Rattle.greedy_core.specs.State.{New, Split, State, Range, waiting, HasPriority, Highest}
use Rattle.greedy_core.specs.Step.{Passes, Spilling, IsFree, Has, NoneFree, Run, Does, Steps, Offered}
use Rattle.greedy_core.specs.Step as step

-- passes that answer nothing but candidates
abbrev only_candidates : List Reg → Passes
only_candidates rs = record {
  Slots = List ℕ;
  first_slots = λ f. [];
  adopted = λ w v slots. slots;
  candidates = λ t freqs f registers v. rs;
  Evicts = λ t freqs s v answer. ⊥;
  Spills = λ t f slots v x. ⊥;
}

-- a lane of the range lies in a unit that is occupied itself
abbrev in_occupied : Option UnitNumber → List Lane → Bool
in_occupied None ls = false
in_occupied (Some u) ls = lists ls (UnitLane u.0)

abbrev lies_on_unit : Target → ℕ → Reg → List Lane → Lane → Bool
lies_on_unit t v r ls (VirtualLane w k) = nat_eq w v && in_occupied (slice_get (units_of t r) k) ls
lies_on_unit t v r ls _ = false

module _ (t : Target) (f : Function) (n m : ℕ) (computed : is_computed t f n m ≡ true) where
  abbrev unit_test : ℕ → Reg → Point → Bool
  unit_test v r p = list_any (lies_on_unit t v r (occupied_lanes t f n m p)) (occupied_lanes t f n m p)

  -- a clash with a unit shows at its point
  unit_clash : (v : ℕ) (r : Reg) (u : UnitNumber) (c : UnitClash t f v r u) → unit_test v r c.0 ≡ true
  unit_clash v r u c =
      let ls = occupied_lanes t f n m c.0 in
      (some_decided (lies_on_unit t v r ls) ls (OccupiedAt t f c.0) (occupied_at t f n m computed c.0)).1 (
        VirtualLane v c.1.k,
        c.1.occupied,
        subst (λ b. b && in_occupied (slice_get (units_of t r) c.1.k) ls ≡ true) (sym (eq-eqb v v refl))
            (subst (λ o. in_occupied o ls ≡ true) (sym c.1.unit) ((occupied_at t f n m computed c.0 (UnitLane u.0)).1 c.2)),
      )

-- a range that gets what it is copied from
abbrev hinted : Function
hinted = function (gr32 ∷ []) (block 0 [] (ecx ∷ []) (
    instr 0 COPY (def 0 ∷ fixed ecx ∷ [])
    ∷ instr 1 COPY (fixed_def eax ∷ val 0 ∷ [])
    ∷ instr 2 RET (implicit eax ∷ []) ∷ []) ∷ [])

hinted_computed : is_computed mini_target hinted 5 12 ≡ true
unfolding mini_target points_of point_item item_of
hinted_computed = refl

-- no listed lane of %0 would lie in $ecx on a unit that is listed too
abbrev on_unit : List Lane → Bool
on_unit ls = list_any (lies_on_unit mini_target 0 (reg_number ecx) ls) ls

at_starts : (q : Bool) → on_unit (row mini_target hinted 5 12 (cond q (found 0 (points_of mini_target hinted)) [])) ≡ false
unfolding mini_target points_of point_item item_of
at_starts true = refl
at_starts false = refl

abbrev at_entry : Code → Bool
at_entry p = on_unit (entering mini_target hinted 5 12 p)

abbrev at_exit : Code → Bool
at_exit p = on_unit (leaving mini_target hinted 5 12 p)

never_at_entries : (id : ℕ) → at_entry (from_instr mini_target hinted id hinted.blocks) ≡ false
unfolding mini_target points_of point_item item_of
never_at_entries = never mini_target hinted at_entry refl refl

never_at_exits : (id : ℕ) → at_exit (from_instr mini_target hinted id hinted.blocks) ≡ false
unfolding mini_target points_of point_item item_of
never_at_exits = never mini_target hinted at_exit refl refl

never_at_starts : (n : ℕ) → on_unit (row mini_target hinted 5 12 (found n (points_of mini_target hinted))) ≡ false
unfolding mini_target points_of point_item item_of
never_at_starts n = at_starts (nat_eq 0 n)

-- so $ecx isn't live where %0 is
apart : (p : Point) → unit_test mini_target hinted 5 12 hinted_computed 0 (reg_number ecx) p ≡ false
apart (Start n) = never_at_starts n
apart (Entry id) = never_at_entries id
apart (Exit id) = never_at_exits id

abbrev hint_first : Passes
hint_first = only_candidates (reg_number ecx ∷ reg_number eax ∷ [])

abbrev before_run : State (List ℕ)
before_run = record { function = hinted; ranges = waiting New 0 ∷ []; greatest = 0; slots = []; queue = [] }

abbrev all_wait : State (List ℕ)
all_wait = record before_run { queue = (0, 536870911) ∷ [] }

abbrev all_placed : State (List ℕ)
all_placed = record before_run { ranges = record (waiting New 0) { register = Some (reg_number ecx) } ∷ [] }

hinted_priority : HasPriority mini_target before_run 0 536870911
unfolding mini_target points_of point_item item_of
hinted_priority = (waiting New 0, refl, point_test mini_target hinted 5 12 hinted_computed 0, range_points mini_target hinted 5 12 hinted_computed 0, refl)

no_register : (w : ℕ) (q : Reg) → slice_get (None ∷ []) w ≡ Some (Some q) → ⊥
no_register zero q e = absurd (cc)
no_register (suc w) q e = absurd (cc)

hint_is_free : IsFree hint_first mini_target (16384 ∷ []) before_run 0 (reg_number ecx)
hint_is_free = (
  (λ u c. let x : true ≡ false = sym (unit_clash mini_target hinted 5 12 hinted_computed 0 (reg_number ecx) u c) ∙ apart c.0 in absurd (cc)),
  (λ w q h c. no_register w q h),
)

first_of_one : (x : ℕ × ℕ) → Among x all_wait.queue → x ≡ (0, 536870911)
first_of_one x here = refl
first_of_one x (there a) = absurd (none_among x a)

hinted_highest : Highest all_wait.queue 0 536870911
hinted_highest = (here, λ w q a. inr (ap (λ p. p.1) (first_of_one (w, q) a), inl (sym (ap (λ p. p.0) (first_of_one (w, q) a)))))

-- one range, one step: it gets its hint
pub hint_taken : Run hint_first mini_target (16384 ∷ []) hinted 0 (steps.Begin 0 ∷ steps.Assign 0 (reg_number ecx) ∷ []) all_placed
hint_taken = (
  all_wait,
  steps.Assign 0 (reg_number ecx) ∷ [],
  (536870911 ∷ [], (hinted_priority, record {}), refl),
  step.goes (0, 536870911, waiting New 0, hinted_highest, refl, step.free (step.here hint_is_free)) (step.ended refl),
  refl,
)

-- %0 has $ebx over a call, and %1 is to be split or spilled
abbrev ebx : Reg
ebx = reg_number 3

abbrev deferred : Range
deferred = waiting Split 0

abbrev call_state : State (List ℕ)
call_state = record { function = over_a_call; ranges = record (waiting New 0) { register = Some ebx } ∷ deferred ∷ []; greatest = 0; slots = []; queue = [] }

abbrev four : Passes
four = only_candidates (reg_number 1 ∷ reg_number 0 ∷ reg_number 2 ∷ ebx ∷ [])

occupied_behind : (l : Lane) → lists (occupied_lanes mini_target over_a_call 5 12 (Exit 3)) l ≡ true → OccupiedAt mini_target over_a_call (Exit 3) l
occupied_behind l = (occupied_at mini_target over_a_call 5 12 call_computed (Exit 3) l).0

-- behind the call lane 0 of %1 would lie in a unit that is written, or that %0 has
held_behind : (r : Reg) (u : UnitNumber) → slice_get (units_of mini_target r) 0 ≡ Some u → HeldIn mini_target over_a_call 1 r (Exit 3) u
unfolding mini_target points_of point_item item_of
held_behind r u e = record { k = 0; occupied = occupied_behind (VirtualLane 1 0) refl; unit = e }

on_eax : UnitClash mini_target over_a_call 1 (reg_number 0) (unit_number 0)
unfolding mini_target points_of point_item item_of
on_eax = (Exit 3, held_behind (reg_number 0) (unit_number 0) refl, occupied_behind (UnitLane 0) refl)

on_ecx : UnitClash mini_target over_a_call 1 (reg_number 1) (unit_number 3)
unfolding mini_target points_of point_item item_of
on_ecx = (Exit 3, held_behind (reg_number 1) (unit_number 3) refl, occupied_behind (UnitLane 3) refl)

on_edx : UnitClash mini_target over_a_call 1 (reg_number 2) (unit_number 6)
unfolding mini_target points_of point_item item_of
on_edx = (Exit 3, held_behind (reg_number 2) (unit_number 6) refl, occupied_behind (UnitLane 6) refl)

with_zero : RangesClash mini_target over_a_call 1 ebx 0 ebx
unfolding mini_target points_of point_item item_of
with_zero = (Exit 3, unit_number 9, held_behind ebx (unit_number 9) refl, record { k = 0; occupied = occupied_behind (VirtualLane 0 0) refl; unit = refl })

none_free : NoneFree four mini_target (16384 ∷ []) call_state 1
none_free r here h = h.0 (unit_number 3) on_ecx
none_free r (there here) h = h.0 (unit_number 0) on_eax
none_free r (there (there here)) h = h.0 (unit_number 6) on_edx
none_free r (there (there (there here))) h = h.1 0 ebx refl with_zero
none_free r (there (there (there (there a)))) h = none_among r a

split_computed : is_computed mini_target split_behind_the_call 5 14 ≡ true
unfolding mini_target points_of point_item item_of
split_computed = refl

abbrev divided_state : State (List ℕ)
divided_state = record call_state { function = split_behind_the_call; ranges = record (waiting New 0) { register = Some ebx } ∷ deferred ∷ waiting New 1 ∷ waiting New 1 ∷ [] }

remainder_priority : HasPriority mini_target divided_state 2 536870910
unfolding mini_target points_of point_item item_of
remainder_priority = (waiting New 1, refl, point_test mini_target split_behind_the_call 5 14 split_computed 2, range_points mini_target split_behind_the_call 5 14 split_computed 2, refl)

part_priority : HasPriority mini_target divided_state 3 536870907
unfolding mini_target points_of point_item item_of
part_priority = (waiting New 1, refl, point_test mini_target split_behind_the_call 5 14 split_computed 3, range_points mini_target split_behind_the_call 5 14 split_computed 3, refl)

below : 0 < 3
below = omega arith

-- %1 is split into %2 and, for the stores behind the call, %3
pub call_divides : Does four mini_target (16384 ∷ []) call_state 1 deferred (steps.Divide 1 kinds.Local (Some (reg_number 0)) (2 ∷ 3 ∷ [])) (record divided_state { queue = (2, 536870910) ∷ (3, 536870907) ∷ [] })
call_divides =
    step.divide {o = record { kind = kinds.Local; register = Some (reg_number 0); marks = behind_the_call }} {g = split_behind_the_call}
    none_free refl (step.local below no_region no_block local_run) local_split
    (536870910 ∷ 536870907 ∷ [], (remainder_priority, (part_priority, record {})), refl)
