-- The edits of a block, mark by mark.
use Rattle.std.proofs.Common.{◌≡◌, ◌++◌, ◌∙◌, ◌+◌, ◌<◌, ◌≤◌, ℕ, Bool, List, Option, length, get_or, take, drop, refl, sym, ap, append_assoc}
use Rattle.std.specs.Prelude.{OnOk, Ok, Err, flat_map}
use Rattle.std.specs.declared.result.Result.{Result}
use Rattle.std.proofs.lemmas.List.{drop_all, drop_more}
use Rattle.mir_func.specs.declared.func.Gap.{Gap}
use Rattle.mir_func.specs.declared.func.Instr.{Instr}
use Rattle.mir_func.specs.Value.{Function}
use Rattle.live_lanes.specs.declared.ask.labels.Mark.{Mark}
use Rattle.live_lanes.specs.declared.ask.labels.Spot.{Spot}
use Rattle.live_lanes.specs.declared.ask.labels.Spot.TheVariants.{Border, Gap as AtGap}
use Rattle.live_lanes.specs.Ordered.{ids_of}
use Rattle.live_lanes.specs.Table.{Numbers}
use Rattle.edit_laws.specs.Edits.{Edit}
use Rattle.split_kit.specs.PartEdits.{copy_edits, gap_edits, part_edits, stand_before}

pub ok-then : {T E : Type 0} (r : Result T E) (P Q : Type 0) → (P → Q) → OnOk r P → OnOk r Q
ok-then (Ok x) P Q f p = f p
ok-then (Err e) P Q f p = tt

pub no-gap : (s : Spot) → ((g : Gap) → s ≡ AtGap g → ⊥) → s ≡ Border
no-gap Border h = refl
no-gap (AtGap g) h = absurd (h g refl)

module _ (f : Function) (v : ℕ) (slots : Numbers) (live : Option ℕ → Bool) (own : List Instr) (ms : List Mark) (k : ℕ) (d : Mark) (held : ℕ) where
  abbrev left : ℕ → List Instr → List Mark → List Edit
  left = gap_edits f v slots live

  -- what is done at the mark, and behind it
  abbrev at_spot : Mark → Spot → List Edit
  at_spot m s = elim s [
    | Border ↦ left held own (drop (k + 1) ms)
    | AtGap g ↦ let count = stand_before slots g.before (ids_of own) in flat_map (part_edits f v held) (take count own) ++ (copy_edits f g (live g.before) held m.label ++ left m.label (drop count own) (drop (k + 1) ms))
  ]

  first-mark : k < length ms → left held own (drop k ms) ≡ at_spot (get_or ms k d) (get_or ms k d).spot
  first-mark h = ap (left held own) (drop_more ms k d h)

  pub gap-passed : (g : Gap) (now new goal : List Edit) → k < length ms → (get_or ms k d).spot ≡ AtGap g → now ++ left held own (drop k ms) ≡ goal
      → new ≡ now ++ (flat_map (part_edits f v held) (take (stand_before slots g.before (ids_of own)) own) ++ copy_edits f g (live g.before) held (get_or ms k d).label)
      → new ++ left (get_or ms k d).label (drop (stand_before slots g.before (ids_of own)) own) (drop (k + 1) ms) ≡ goal
  gap-passed g now new goal h at before step =
      let count : ℕ = stand_before slots g.before (ids_of own) in
      let xs : List Edit = flat_map (part_edits f v held) (take count own) in
      let ys : List Edit = copy_edits f g (live g.before) held (get_or ms k d).label in
      let zs : List Edit = left (get_or ms k d).label (drop count own) (drop (k + 1) ms) in
      ap (λ es. es ++ zs) step
      ∙ (append_assoc now (xs ++ ys) zs
      ∙ (ap (λ es. now ++ es) (append_assoc xs ys zs ∙ sym (first-mark h ∙ ap (at_spot (get_or ms k d)) at))
      ∙ before))

  pub border-passed : (now goal : List Edit) → k < length ms → (get_or ms k d).spot ≡ Border → now ++ left held own (drop k ms) ≡ goal → now ++ left held own (drop (k + 1) ms) ≡ goal
  border-passed now goal h at before = ap (λ es. now ++ es) (sym (first-mark h ∙ ap (at_spot (get_or ms k d)) at)) ∙ before

  pub all-passed : (now new goal : List Edit) → length ms ≤ k → now ++ left held own (drop k ms) ≡ goal → new ≡ now ++ flat_map (part_edits f v held) own → new ≡ goal
  all-passed now new goal h before step = step ∙ (ap (λ xs. now ++ left held own xs) (sym (drop_all k ms h)) ∙ before)
