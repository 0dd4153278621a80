-- The labels of blocks as they are added, row by row.
use Rattle.std.proofs.Common.{◌≡◌, ◌∙◌, ℕ, zero, suc, ◌+◌, ◌<◌, ◌≤◌, List, [], ◌∷◌, ◌++◌, Bool, true, false, cond, refl, sym, ap, subst, length, drop, get_or, filter, arith, append_assoc, append-nil, drop-cons, Option, None, Some}
use Rattle.std.specs.Prelude.{slice_get, flat_map}
use Rattle.std.specs.List.{list_all}
use Rattle.target_base.specs.declared.types.Target.{Target}
use Rattle.mir_func.specs.declared.func.Block.{Block}
use Rattle.mir_func.specs.Value.{Function}
use Rattle.mir_func.specs.Binding.{does, is_terminator}
use Rattle.live_lanes.specs.declared.ask.labels.Mark.{Mark}
use Rattle.live_lanes.specs.declared.live.LiveFunc.{LiveFunc}
use Rattle.split_choose.specs.declared.nets.BlockNodes.{BlockNodes}
use Rattle.split_choose.specs.declared.cuts.Sides.{Sides}
use Rattle.split_choose.specs.Offers.{View, first_id, before_terminators}
use Rattle.split_choose.specs.Seen.{ends_in_terminators}
use Rattle.split_choose.specs.Marks.{marks_in}
use Rattle.split_choose.specs.Cuts.{same_gap, change_at}
use Rattle.split_choose.specs.Labelled.{sides_of, behind_first, changes_in, side_marks, row_marks, rows_marks}
use Rattle.split_choose.proofs.Labelling.{all-got}

-- three parts behind one another
three-parts : (old a b c one two new : List Mark) → one ≡ old ++ a → two ≡ one ++ b → new ≡ two ++ c → new ≡ old ++ (a ++ b ++ c)
three-parts old a b c one two new e f g =
    g ∙ (ap (λ ms. ms ++ c) (f ∙ (ap (λ ms. ms ++ b) e ∙ append_assoc old a b)) ∙ append_assoc old (a ++ b) c)

-- the labels of one block: of its start, from its first gap on, and from the gap before its terminators on
pub labels_added : (t : Target) (f : Function) (v : ℕ) (view : View) (r : BlockNodes) (s : Sides) (old one two new : List Mark) (first end : Option ℕ) (middle is_one_gap : Bool)
    → one ≡ old ++ cond s.start (marks_in (slice_get f.blocks r.position) None 1) [] → two ≡ one ++ changes_in (slice_get f.blocks r.position) first s.start middle → new ≡ two ++ changes_in (slice_get f.blocks r.position) end middle s.end
    → middle ≡ behind_first r s is_one_gap → is_one_gap ≡ same_gap first end
    → ((b : Block) → slice_get f.blocks r.position ≡ Some b → first ≡ first_id b.instrs)
    → ((b : Block) → slice_get f.blocks r.position ≡ Some b → ends_in_terminators t b.instrs ≡ true → end ≡ first_id (filter (does is_terminator t) b.instrs))
    → list_all (λ b. ends_in_terminators t b.instrs) f.blocks ≡ true
    → new ≡ old ++ row_marks t f v view r s (slice_get f.blocks r.position)
labels_added t f v view r s old one two new first end middle is_one_gap e g h is gap at-first at-end ended = go (slice_get f.blocks r.position) refl
  where
    parts : (o : Option Block) → slice_get f.blocks r.position ≡ o → new ≡ old ++ (cond s.start (marks_in o None 1) [] ++ changes_in o first s.start middle ++ changes_in o end middle s.end)
    parts o at =
        three-parts old (cond s.start (marks_in (slice_get f.blocks r.position) None 1) []) (changes_in (slice_get f.blocks r.position) first s.start middle) (changes_in (slice_get f.blocks r.position) end middle s.end) one two new e g h
        ∙ ap (λ (q : Option Block). old ++ (cond s.start (marks_in q None 1) [] ++ changes_in q first s.start middle ++ changes_in q end middle s.end)) at

    none : (b : Bool) → old ++ (cond b [] [] ++ [] ++ []) ≡ old ++ []
    none true = refl
    none false = refl

    go : (o : Option Block) → slice_get f.blocks r.position ≡ o → new ≡ old ++ row_marks t f v view r s o
    go None at = parts None at ∙ none s.start
    go (Some b) at =
        let last = before_terminators t f v view b in
        let a : first ≡ first_id b.instrs = at-first b at in
        let z : end ≡ last = at-end b at (all-got (λ (c : Block). ends_in_terminators t c.instrs) f.blocks r.position b ended at) in
        let m : middle ≡ behind_first r s (same_gap (first_id b.instrs) last) = is ∙ ap (behind_first r s) (gap ∙ (ap (λ x. same_gap x end) a ∙ ap (same_gap (first_id b.instrs)) z)) in
        parts (Some b) at
        ∙ (ap (λ x. old ++ (cond s.start (marks_in (Some b) None 1) [] ++ change_at b.number x s.start middle ++ change_at b.number end middle s.end)) a
        ∙ (ap (λ x. old ++ (cond s.start (marks_in (Some b) None 1) [] ++ change_at b.number (first_id b.instrs) s.start middle ++ change_at b.number x middle s.end)) z
        ∙ ap (λ x. old ++ side_marks t f v view s.start x s.end b) m))

-- row by row

pub rows_first : (g : BlockNodes → List Mark) (rows : List BlockNodes) (new : List Mark) → new ≡ [] → new ++ flat_map g (drop 0 rows) ≡ flat_map g rows
rows_first g rows new e = ap (λ ms. ms ++ flat_map g (drop 0 rows)) e ∙ whole rows
  where
    whole : (rs : List BlockNodes) → flat_map g (drop 0 rs) ≡ flat_map g rs
    whole [] = refl
    whole (r ∷ rs) = refl

pub rows_next : (g : BlockNodes → List Mark) (rows : List BlockNodes) (k : ℕ) (d : BlockNodes) (old new : List Mark) → k < length rows → new ≡ old ++ g (get_or rows k d) → old ++ flat_map g (drop k rows) ≡ flat_map g rows
    → new ++ flat_map g (drop (k + 1) rows) ≡ flat_map g rows
rows_next g rows k d old new h made was =
    let e : suc k ≡ k + 1 = omega arith in
    let cut : drop k rows ≡ get_or rows k d ∷ drop (k + 1) rows = drop-cons rows k d h ∙ ap (λ j. get_or rows k d ∷ drop j rows) e in
    ap (λ ms. ms ++ flat_map g (drop (k + 1) rows)) made
    ∙ (append_assoc old (g (get_or rows k d)) (flat_map g (drop (k + 1) rows))
    ∙ (ap (λ rs. old ++ flat_map g rs) (sym cut) ∙ was))

pub rows_last : (g : BlockNodes → List Mark) (rows : List BlockNodes) (k : ℕ) (made : List Mark) → length rows ≤ k → made ++ flat_map g (drop k rows) ≡ flat_map g rows → made ≡ flat_map g rows
rows_last g rows k made h was = sym (append-nil made) ∙ (ap (λ rs. made ++ flat_map g rs) (sym (none rows k h)) ∙ was)
  where
    none : (rs : List BlockNodes) (j : ℕ) → length rs ≤ j → drop j rs ≡ []
    none [] zero le = refl
    none [] (suc j) le = refl
    none (r ∷ rs) zero le = absurd (omega (arith, le))
    none (r ∷ rs) (suc j) le = none rs j (omega (arith, le))

module _ (v : ℕ) (offers : View) (inside : List Bool) (rows : List BlockNodes) where
  pub row_added : (live own : LiveFunc) (k : ℕ) (d : BlockNodes) (s : Sides) (old new : List Mark) → live ≡ own → k < length rows → s ≡ sides_of inside (get_or rows k d)
      → (list_all (λ b. ends_in_terminators live.target b.instrs) live.func.blocks ≡ true → new ≡ old ++ row_marks live.target live.func v offers (get_or rows k d) s (slice_get live.func.blocks (get_or rows k d).position))
      → list_all (λ b. ends_in_terminators own.target b.instrs) own.func.blocks ≡ true
      → old ++ rows_marks own.target own.func v offers inside (drop k rows) ≡ rows_marks own.target own.func v offers inside rows
      → new ++ rows_marks own.target own.func v offers inside (drop (k + 1) rows) ≡ rows_marks own.target own.func v offers inside rows
  row_added live own k d s old new same h sides made ended was =
      let P : LiveFunc → Type 0 = λ l. list_all (λ b. ends_in_terminators l.target b.instrs) l.func.blocks ≡ true → new ≡ old ++ row_marks l.target l.func v offers (get_or rows k d) s (slice_get l.func.blocks (get_or rows k d).position) in
      rows_next (λ (r : BlockNodes). row_marks own.target own.func v offers r (sides_of inside r) (slice_get own.func.blocks r.position)) rows k d old new h
      (subst P same made ended ∙ ap (λ y. old ++ row_marks own.target own.func v offers (get_or rows k d) y (slice_get own.func.blocks (get_or rows k d).position)) sides) was
