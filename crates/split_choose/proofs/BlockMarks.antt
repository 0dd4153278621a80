-- The labels of the rows of a register's net are those of the blocks.
use Rattle.std.proofs.Common.{◌≡◌, ◌∙◌, ℕ, List, [], Bool, true, false, cond, refl, ap, None, Some}
use Rattle.std.specs.Prelude.{◌&&◌, slice_get, flat_map}
use Rattle.target_base.specs.declared.types.Target.{Target}
use Rattle.target_base.specs.declared.types.Reg.{Reg}
use Rattle.mir_func.specs.declared.func.Block.{Block}
use Rattle.mir_func.specs.Value.{Function}
use Rattle.live_lanes.specs.declared.ask.labels.Mark.{Mark}
use Rattle.cut_place.specs.Flows.{in_set}
use Rattle.split_choose.specs.declared.nets.BlockNodes.{BlockNodes}
use Rattle.split_choose.specs.Offers.{View, In, Out, first_id, before_terminators}
use Rattle.split_choose.specs.Nets.{node_if}
use Rattle.split_choose.specs.Cuts.{Choice, Bundle, Inner, same_gap, has_inside, enters, leaves, in_inside, in_start, in_end, from_first_gap, number_of, choice_marks}
use Rattle.split_choose.specs.Labelled.{is_node_in, sides_of, side_marks, row_marks, rows_marks}
use Rattle.split_choose.proofs.Telling.{IsUntold}
use Rattle.split_choose.proofs.Along.{Along, along-flat}
use Rattle.split_choose.proofs.BlockRows.{block_row, IsRowAt}

own-in : (inside : List Bool) (h : Bool) (n : ℕ) → is_node_in inside (node_if h n) false ≡ (h && in_set inside n)
own-in inside true n = refl
own-in inside false n = refl

side-in : (inside : List Bool) (l : Bool) (n : ℕ) (own : Bool) → is_node_in inside (node_if l n) own ≡ cond l (in_set inside n) own
side-in inside true n own = refl
side-in inside false n own = refl

exit-is : (m : Bool) (n : ℕ) → (elim (node_if m n) [ None ↦ false | Some j ↦ true ]) ≡ m
exit-is true n = refl
exit-is false n = refl

module _ (t : Target) (f : Function) (v : ℕ) (view : View) (freqs : List ℕ) (r : Reg) (inside : List Bool) where
  -- which nodes are in
  abbrev pub chosen : Choice
  chosen n = in_set inside (number_of t f v view r n)

  marks-at : (k : ℕ) (b : Block) → row_marks t f v view (block_row t f v view freqs r k b) (sides_of inside (block_row t f v view freqs r k b)) (Some b) ≡ choice_marks t f v view r chosen b
  marks-at k b =
      let row = block_row t f v view freqs r k b in
      let s = sides_of inside row in
      let g = same_gap (first_id b.instrs) (before_terminators t f v view b) in
      let i = in_inside t f v view r chosen b in
      let x = number_of t f v view r (Bundle (Out b.number)) in
      let own : s.inside ≡ i = own-in inside (has_inside t f v view r b) (number_of t f v view r (Inner b.number)) in
      let start : s.start ≡ in_start t f v view r chosen b =
      side-in inside (enters t f v view r b) (number_of t f v view r (Bundle (In b.number))) s.inside ∙ ap (cond (enters t f v view r b) (chosen (Bundle (In b.number)))) own in
      let end : s.end ≡ in_end t f v view r chosen b = side-in inside (leaves t f v view r b) x s.inside ∙ ap (cond (leaves t f v view r b) (chosen (Bundle (Out b.number)))) own in
      ap (λ y. side_marks t f v view y (cond ((elim (node_if (leaves t f v view r b) x) [ None ↦ false | Some j ↦ true ]) && g) y s.inside) s.end b) start
      ∙ (ap (λ y. side_marks t f v view (in_start t f v view r chosen b) (cond ((elim (node_if (leaves t f v view r b) x) [ None ↦ false | Some j ↦ true ]) && g) (in_start t f v view r chosen b) y) s.end b) own
      ∙ (ap (λ y. side_marks t f v view (in_start t f v view r chosen b) (cond (y && g) (in_start t f v view r chosen b) i) s.end b) (exit-is (leaves t f v view r b) x)
      ∙ ap (λ y. side_marks t f v view (in_start t f v view r chosen b) (from_first_gap t f v view r chosen b) y b) end))

  -- by whether the range is live at the block's entry and at its exit, and whether it has an inside
  abbrev marks-by : (l m h : Bool) → Block → List Mark
  marks-by l m h b =
      let own = h && chosen (Inner b.number) in
      let start = cond l (chosen (Bundle (In b.number))) own in
      let end = cond m (chosen (Bundle (Out b.number))) own in
      let middle = cond (m && same_gap (first_id b.instrs) (before_terminators t f v view b)) start own in
      side_marks t f v view start middle end b

  marks-none : (b : Block) → marks-by false false false b ≡ []
  marks-none b = refl

  -- a block in which the range has nothing has no labels
  untold-marks : (b : Block) → enters t f v view r b ≡ false → leaves t f v view r b ≡ false → has_inside t f v view r b ≡ false → choice_marks t f v view r chosen b ≡ []
  untold-marks b l m h =
      ap (λ y. marks-by y (leaves t f v view r b) (has_inside t f v view r b) b) l
      ∙ (ap (λ y. marks-by false y (has_inside t f v view r b) b) m
      ∙ (ap (λ y. marks-by false false y b) h ∙ marks-none b))

  pub labels-are : (rows : List BlockNodes) → Along (λ (row : BlockNodes). row.position) (IsRowAt t f v view freqs r) (IsUntold t f v view) 0 f.blocks rows
      → ((k : ℕ) (b : Block) → IsUntold t f v view k b → has_inside t f v view r b ≡ false) → ((k : ℕ) (b : Block) → IsUntold t f v view k b → leaves t f v view r b ≡ false)
      → rows_marks t f v view inside rows ≡ flat_map (choice_marks t f v view r chosen) f.blocks
  labels-are rows along none last =
      along-flat (λ (row : BlockNodes). row.position) (IsRowAt t f v view freqs r) (IsUntold t f v view)
      (λ (row : BlockNodes). row_marks t f v view row (sides_of inside row) (slice_get f.blocks row.position)) (choice_marks t f v view r chosen)
      (λ k b row is.
      ap (λ (y : BlockNodes). row_marks t f v view y (sides_of inside y) (slice_get f.blocks y.position)) is.same
      ∙ (ap (row_marks t f v view (block_row t f v view freqs r k b) (sides_of inside (block_row t f v view freqs r k b))) is.at ∙ marks-at k b))
      (λ k b untold. untold-marks b untold.live_in (last k b untold) (none k b untold))
      0 f.blocks rows along
