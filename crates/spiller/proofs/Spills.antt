-- A range is spilled where the edits of the plan are done over the classes of its tinies.
use Rattle.std.proofs.Common.{◌≡◌, ◌++◌, ◌∙◌, ◌+◌, ◌<◌, ◌≤◌, ◌⊎◌, inl, inr, ℕ, suc, Bool, true, false, cond, List, [], ◌∷◌, Option, Some, None, flat_map, length, map, take, refl, sym, ap, subst, arith, length-append}
use Rattle.std.specs.Prelude.{nat_lt}
use Rattle.std.specs.List.{zip}
use Rattle.std.proofs.lemmas.Bool.{ltb-true, ltb-false}
use Rattle.target_base.specs.declared.types.ClassId.{ClassId}
use Rattle.target_base.specs.declared.types.Target.{Target}
use Rattle.mir_func.specs.Value.{Function, IsFunction}
use Rattle.mir_meaning.specs.Registers.{numbers}
use Rattle.live_lanes.specs.declared.live.LiveFunc.{LiveFunc}
use Rattle.live_lanes.specs.Doing.{IsComputed}
use Rattle.live_laws.specs.Effects.Coded.{KeepsRules}
use Rattle.edit_laws.specs.Deferred.{SpareGone}
use Rattle.edit_laws.specs.Edits.{Edit, all_edited}
use Rattle.edit_laws.specs.Further.{KeepsLast, with_classes}
use Rattle.live_edits.specs.LiveRuns.{IsExact, MayBeEditedLive}
use Rattle.live_edits.specs.Runs.{HavePlaces, edits_of}
use Rattle.live_edits.proofs.DraftPlaces.{take-past}
use Rattle.spiller.specs.EditLaw.{PlansSpill, tiny_classes}
use Rattle.spiller.specs.Growing.{AreGiven, HasGrown, HasGrownSome, IsLeft, MayGrow, MaySpillNow}
use Rattle.spiller.specs.Reaching.{Facts}
use Rattle.spiller.specs.Setting.{Spilling}
use Rattle.spiller.specs.Slots.{Slots, original_of, own_slot, slot_of, with_ranges, with_slot}
use Rattle.spiller.specs.Spilled.{IsSpilled, all_changes, names_slot, setting_of, slots_after, spilled, tinies, tinies_of}
use Rattle.spiller.specs.Views.{Planned}
use Rattle.spiller.specs.WholePlan.{whole_plan}
use Rattle.spiller.proofs.NewRanges.{computed-of, grown-rules, none-some}
use Rattle.spiller.proofs.SpillLaw.{spill-edits-law}

length-both : {X Y : Type 0} (f : X → Y) (g : X → ℕ) (n : ℕ) (xs : List X) → length (zip (numbers n (length xs)) (map g xs)) ≡ length (map f xs)
length-both f g n [] = refl
length-both f g n (x ∷ xs) = ap suc (length-both f g (suc n) xs)

pub as-many : (s : Spilling) → length (tinies s) ≡ length (tiny_classes s)
unfolding tinies
as-many s = length-both (λ x. x.0) (λ x. x.1) (length s.func.classes) (flat_map tinies_of (all_changes s))

same-originals : (slots : Slots) (v : ℕ) (u : Bool) → (cond u (with_slot slots v) slots).originals ≡ slots.originals
same-originals slots v false = refl
same-originals slots v true = go (slot_of slots v)
  where
    go : (q : Option ℕ) → (elim q as (λ q. Slots) [ None ↦ record slots { given = slots.given ++ ((original_of slots v, own_slot slots v) ∷ []) } | Some n ↦ slots ]).originals ≡ slots.originals
    go None = refl
    go (Some n) = refl

module _ (x : LiveFunc) (slots : Slots) (v : ℕ) (facts : Facts) (now : MaySpillNow x slots v facts) (p : Planned) (is : p ≡ whole_plan (setting_of x.target x.func slots v facts)) where
  abbrev pub s : Spilling
  s = setting_of x.target x.func slots v facts

  plans : PlansSpill s p
  plans = subst (PlansSpill s) (sym is) (spill-edits-law s x.table now.may now.are_facts)

  -- the slots once the range has its slot, where the plan uses it
  abbrev pub kept : Slots
  kept = cond p.uses_slot (with_slot slots v) slots

  pub may-grow : (few : length x.func.classes + length p.classes ≤ 2147483648) (after : Slots) → after ≡ kept → MayGrow x after p.classes
  may-grow few after e = record {
    computed = now.may.computed;
    rules = now.may.lowered.rules;
    last = now.may.last;
    given = subst (AreGiven x.target) (sym plans.classes_are) now.classes;
    few = few;
    originals = ap (λ (w : Slots). length w.originals) e ∙ (ap (λ ns. length ns) (same-originals slots v p.uses_slot) ∙ now.originals);
  }

  pub grown-from : (few : length x.func.classes + length p.classes ≤ 2147483648) (after : Slots) (mid : LiveFunc) (then : Slots) → after ≡ kept → (MayGrow x after p.classes → HasGrown x after p.classes mid then) → HasGrown x kept p.classes mid then
  grown-from few after mid then e h = subst (λ k. HasGrown x k p.classes mid then) e (h (may-grow few after e))

  -- what is left where the ranges aren't made
  pub ranges-refused : (few : length x.func.classes + length p.classes ≤ 2147483648) (after : Slots) (mid : LiveFunc) (then : Slots) → after ≡ kept → (MayGrow x after p.classes → HasGrownSome x after p.classes mid then) → IsLeft x slots v (tiny_classes s) mid then
  ranges-refused few after mid then e h = record {
    given = p.uses_slot;
    grown = subst (λ cs. HasGrownSome x kept cs mid then) plans.classes_are (subst (λ k. HasGrownSome x k p.classes mid then) e (h (may-grow few after e)));
  }

  slot-same : kept ≡ cond (names_slot s.slot (spilled s)) (with_slot slots v) slots
  slot-same = go p.uses_slot (names_slot s.slot (spilled s)) refl refl plans.slot_used plans.slot_known
    where
      go : (u w : Bool) → p.uses_slot ≡ u → names_slot s.slot (spilled s) ≡ w → (p.uses_slot ≡ true → names_slot s.slot (spilled s) ≡ true) → (names_slot s.slot (spilled s) ≡ true → (p.uses_slot ≡ true) ⊎ (names_slot s.slot s.func ≡ true)) → cond u (with_slot slots v) slots ≡ cond w (with_slot slots v) slots
      go true true e f h k = refl
      go true false e f h k = absurd (let z : true ≡ false = sym (h e) ∙ f in cc)
      go false false e f h k = refl
      go false true e f h k = by (k f)
        where
          by : (p.uses_slot ≡ true) ⊎ (names_slot s.slot s.func ≡ true) → slots ≡ with_slot slots v
          by (inl q) = absurd (let z : true ≡ false = sym q ∙ e in cc)
          by (inr q) = sym (now.known q)

  pub count-is : length (spilled s).classes ≡ length x.func.classes + length p.classes
  unfolding spilled
  count-is = length-append x.func.classes (tiny_classes s) ∙ ap (λ (cs : List (Option ClassId)). length x.func.classes + length cs) (sym plans.classes_are)

  pub slots-are : with_ranges kept (length p.classes) ≡ slots_after slots s
  unfolding slots_after
  slots-are = (λ k. with_ranges (slot-same k) (ap (λ (cs : List (Option ClassId)). length cs) plans.classes_are k)) ∙ ap (with_ranges (cond (names_slot s.slot (spilled s)) (with_slot slots v) slots)) (sym (as-many s))

  module _ (few : length x.func.classes + length p.classes ≤ 2147483648) (mid : LiveFunc) (then : Slots) (has : HasGrown x kept p.classes mid then) (new : LiveFunc) where
    abbrev es : List Edit
    es = edits_of p.edits

    abbrev grown : Function
    grown = with_classes x.func p.classes

    func : mid.func ≡ grown
    func = has.further.func

    over : (P : Target → Function → Type 0) → P x.target grown → P mid.target mid.func
    over P h = subst (λ t. P t mid.func) (sym has.target) (subst (P x.target) (sym func) h)

    rules : KeepsRules x.target grown
    rules = subst (λ cs. KeepsRules x.target (with_classes x.func cs)) (take-past (length p.classes) p.classes (omega arith)) (grown-rules x kept p.classes (may-grow few kept refl) (length p.classes))

    pub may-edit : MayBeEditedLive mid es
    may-edit = record {
      computed = over (λ t f. IsComputed t f mid.table) has.further.computed;
      rules = over KeepsRules rules;
      last = over KeepsLast now.may.last;
      function = over (λ t f. IsFunction f.blocks f.next_id) now.may.lowered.function;
      blocks = over (λ t f. length f.blocks < 4294967296) now.may.blocks;
      places = over (λ t f. HavePlaces t f es) plans.edits.places;
      spare = over (λ t f. SpareGone [] f es) plans.edits.spare;
    }

    spilled-func : IsExact mid.target (all_edited mid.func es) new → new.func ≡ spilled s
    spilled-func exact = exact.func ∙ (ap (λ (f : Function). all_edited f es) func ∙ plans.edits.done)

    pub spill-done : (MayBeEditedLive mid es → IsExact mid.target (all_edited mid.func es) new) → IsSpilled x.target x.func slots v new.func then p.tinies
    spill-done h = record {
      facts = facts;
      are_facts = now.are_facts;
      func = spilled-func (h may-edit);
      slot = has.ranges ∙ slots-are;
      tinies = plans.tinies_are;
    }

    pub spill-exact : (MayBeEditedLive mid es → IsExact mid.target (all_edited mid.func es) new) → IsExact x.target new.func new
    spill-exact h =
        let exact = h may-edit in
        record { func = refl; computed = subst (λ t. IsComputed t new.func new.table) has.target (subst (λ f. IsComputed mid.target f new.table) (sym exact.func) exact.computed) }

    -- what is left where the edits aren't done
    pub spill-refused : (MayBeEditedLive mid es → IsExact mid.target mid.func new) → IsLeft x slots v (tiny_classes s) new then
    spill-refused h =
        let exact = h may-edit in
        let n : ℕ = length p.classes in
        let whole : mid.func ≡ with_classes x.func (take n p.classes) = func ∙ ap (with_classes x.func) (sym (take-past n p.classes (omega arith))) in
        let some : HasGrownSome x kept p.classes new then = record {
          count = n;
          few = omega arith;
          further = record { func = exact.func ∙ whole; computed = computed-of mid.target x.target mid.func (with_classes x.func (take n p.classes)) new has.target whole exact.computed };
          originals = n;
          ranges = has.ranges;
          nearly = inl refl;
        } in
        record { given = p.uses_slot; grown = subst (λ cs. HasGrownSome x kept cs new then) plans.classes_are some }

-- what is left where nothing is done
pub none-left : (x : LiveFunc) (slots : Slots) (v : ℕ) (facts : Facts) → MaySpillNow x slots v facts → (then : Slots) → then ≡ slots → IsLeft x slots v (tiny_classes (setting_of x.target x.func slots v facts)) x then
none-left x slots v facts now then e = record {
  given = false;
  grown = subst (λ w. HasGrownSome x slots (tiny_classes (setting_of x.target x.func slots v facts)) x w) (sym e) (none-some x slots (tiny_classes (setting_of x.target x.func slots v facts)) now.may.computed);
}

longer : (s : Spilling) → length s.func.classes ≤ length (spilled s).classes
unfolding spilled
longer s = omega (arith, length-append s.func.classes (tiny_classes s))

-- where the plan has too many tinies, so has the function behind the spill
pub too-many : (x : LiveFunc) (slots : Slots) (v : ℕ) (facts : Facts) → MaySpillNow x slots v facts → (p : Planned) → (length x.func.classes < 4294967296 → p ≡ whole_plan (setting_of x.target x.func slots v facts))
    → 1048576 < length x.func.classes + length p.classes → 1048576 < length (spilled (setting_of x.target x.func slots v facts)).classes
too-many x slots v facts now p h many = go (nat_lt (length x.func.classes) 4294967296) refl
  where
    go : (u : Bool) → nat_lt (length x.func.classes) 4294967296 ≡ u → 1048576 < length (spilled (setting_of x.target x.func slots v facts)).classes
    go true e = let n = count-is x slots v facts now p (h (ltb-true (length x.func.classes) 4294967296 e)) in omega (arith, many, n)
    go false e = let far : 4294967296 ≤ length x.func.classes = ltb-false (length x.func.classes) 4294967296 e in let n = longer (setting_of x.target x.func slots v facts) in omega (arith, far, n)
