-- Where the part of a range in a register lies, span by span and block by block.
use Rattle.std.proofs.Common.{◌≡◌, ◌∙◌, ◌⊎◌, inl, inr, ℕ, zero, suc, ◌+◌, ◌<◌, ◌≤◌, List, [], ◌∷◌, ◌++◌, Bool, true, false, cond, refl, sym, ap, subst, length, arith, Option, None, Some, option_map}
use Rattle.std.specs.Prelude.{◌||◌, ◌&&◌, not, slice_get, flat_map, nat_eq}
use Rattle.std.specs.List.{list_any}
use Rattle.target_base.specs.declared.types.Target.{Target}
use Rattle.target_base.specs.declared.types.Reg.{Reg}
use Rattle.mir_func.specs.declared.func.Block.{Block}
use Rattle.mir_func.specs.Value.{Function}
use Rattle.mir_meaning.specs.Points.{Start, block_points}
use Rattle.live_lanes.specs.declared.ask.labels.Mark.{Mark}
use Rattle.split_choose.specs.declared.spans.Span.{Span}
use Rattle.split_choose.specs.declared.regions.InsidePart.{InsidePart as Where}
use Rattle.split_choose.specs.declared.regions.InsidePart.TheVariants as wheres
use Rattle.split_choose.specs.Bundles.{start_of, end_of, root_of, border_place, are_joined, ArePlaced}
use Rattle.split_choose.specs.Regions.{is_out, inside_at, inside_in}
use Rattle.split_choose.specs.Offers.{View, Border, In, Out, Inside, Nowhere, Whole, Head, Tail, live_at, is_clear, is_in, lives_in, lives_out, end_point, inside, inside_marks, region_marks}
use Rattle.split_choose.specs.Parts.{as_inside, marks_there}
use Rattle.split_choose.proofs.Telling.{IsTold, IsUntold}
use Rattle.split_choose.proofs.Along.{Along, along-flat}
use Rattle.split_choose.proofs.Barred.{live-out, out-is}

-- of whether the block is clear and holds a point, and whether it is live at its start and its end and these are in
same-place : (c p l i m o : Bool) → as_inside (cond (not c || not p) wheres.Nowhere (cond (not (l && not i) && not (m && not o)) wheres.All (cond (l && not (not i)) wheres.Start (cond (m && not (not o)) wheres.End wheres.Nowhere))))
    ≡ cond (not (c && p)) Nowhere (cond (not ((l && not i) || (m && not o))) Whole (cond (l && i) Head (cond (m && o) Tail Nowhere)))
same-place false p l i m o = refl
same-place true false l i m o = refl
same-place true true false i false o = refl
same-place true true false i true false = refl
same-place true true false i true true = refl
same-place true true true false false o = refl
same-place true true true false true false = refl
same-place true true true false true true = refl
same-place true true true true false o = refl
same-place true true true true true false = refl
same-place true true true true true true = refl

module _ (t : Target) (f : Function) (v : ℕ) (view : View) (ps : List ℕ) (placed : ArePlaced f.blocks) (one : (x y : Border) → view.one_bundle (x, y) ≡ are_joined f.blocks ps (x, y))
    (freqs : List ℕ) (spans : List Span) (r : Reg) (clear : Span → Bool)
    (cleared : (k : ℕ) (b : Block) (s : Span) → IsTold t f v view freqs spans k b s → clear s ≡ is_clear t f v view r b)
    (all : Along (λ (s : Span). s.position) (IsTold t f v view freqs spans) (IsUntold t f v view) 0 f.blocks spans) where
  starts-out : (k : ℕ) (b : Block) → slice_get f.blocks k ≡ Some b → is_out ps clear spans (start_of k) ≡ not (is_in t f v view r (In b.number))
  starts-out k b at = out-is t f v view ps placed one freqs spans r clear cleared all (In b.number) (start_of k) (ap (option_map start_of) (placed k b at))

  ends-out : (k : ℕ) (b : Block) → slice_get f.blocks k ≡ Some b → is_out ps clear spans (end_of k) ≡ not (is_in t f v view r (Out b.number))
  ends-out k b at = out-is t f v view ps placed one freqs spans r clear cleared all (Out b.number) (end_of k) (ap (option_map end_of) (placed k b at))

  -- that a block lies in the region, told by its tests
  abbrev where-of : (c p l i m o : Bool) → Where
  where-of c p l i m o = cond (not c || p) wheres.Nowhere (cond (not (l && i) && not (m && o)) wheres.All (cond (l && not i) wheres.Start (cond (m && not o) wheres.End wheres.Nowhere)))

  pub inside-is : (k : ℕ) (b : Block) (s : Span) → IsTold t f v view freqs spans k b s → as_inside (inside_in ps clear spans s) ≡ inside t f v view r b
  inside-is k b s told =
      let c = is_clear t f v view r b in
      let p = list_any view.is_point (block_points b) in
      let l = view.live (Start b.number) in
      let m = view.live (end_point b) in
      let i = is_in t f v view r (In b.number) in
      let o = is_in t f v view r (Out b.number) in
      let q = nat_eq (length s.stretches.items) 0 in
      let a : is_out ps clear spans (start_of s.position) ≡ not i = ap (λ n. is_out ps clear spans (start_of n)) told.position ∙ starts-out k b told.at in
      let z : is_out ps clear spans (end_of s.position) ≡ not o = ap (λ n. is_out ps clear spans (end_of n)) told.position ∙ ends-out k b told.at in
      ap (λ y. as_inside (where-of y q s.is_live_in (is_out ps clear spans (start_of s.position)) s.is_live_out (is_out ps clear spans (end_of s.position)))) (cleared k b s told)
      ∙ (ap (λ y. as_inside (where-of c y s.is_live_in (is_out ps clear spans (start_of s.position)) s.is_live_out (is_out ps clear spans (end_of s.position)))) told.points
      ∙ (ap (λ y. as_inside (where-of c (not p) y (is_out ps clear spans (start_of s.position)) s.is_live_out (is_out ps clear spans (end_of s.position)))) told.live_in
      ∙ (ap (λ y. as_inside (where-of c (not p) l y s.is_live_out (is_out ps clear spans (end_of s.position)))) a
      ∙ (ap (λ y. as_inside (where-of c (not p) l (not i) y (is_out ps clear spans (end_of s.position)))) told.live_out
      ∙ (ap (λ y. as_inside (where-of c (not p) l (not i) m y)) z
      ∙ (same-place c p l i m o
      ∙ ap (λ y. cond (not (c && p)) Nowhere (cond (not ((l && not i) || (y && not o))) Whole (cond (l && i) Head (cond (y && o) Tail Nowhere)))) (sym (live-out t f v view ps placed one k b told.at))))))))

  pub untold-inside : (k : ℕ) (b : Block) → IsUntold t f v view k b → inside t f v view r b ≡ Nowhere
  untold-inside k b untold =
      let rest = cond (not (lives_out t f v view r (In b.number) || lives_out t f v view r (Out b.number))) Whole (cond (lives_in t f v view r (In b.number)) Head (cond (lives_in t f v view r (Out b.number)) Tail Nowhere)) in
      ap (λ y. cond (not (is_clear t f v view r b && y)) Nowhere rest) untold.points ∙ ap (λ y. cond (not y) Nowhere rest) (and-none (is_clear t f v view r b))
    where
      and-none : (b : Bool) → (b && false) ≡ false
      and-none true = refl
      and-none false = refl

  -- the marks of the blocks with spans are those of the region
  pub marks-are : flat_map (λ s. marks_there t f v view (slice_get f.blocks s.position) (inside_in ps clear spans s)) spans ≡ region_marks t f v view r
  marks-are =
      along-flat (λ (s : Span). s.position) (IsTold t f v view freqs spans) (IsUntold t f v view)
      (λ (s : Span). marks_there t f v view (slice_get f.blocks s.position) (inside_in ps clear spans s)) (λ (b : Block). inside_marks t f v view b (inside t f v view r b))
      (λ k b s told.
      ap (λ n. marks_there t f v view (slice_get f.blocks n) (inside_in ps clear spans s)) told.position
      ∙ (ap (λ o. marks_there t f v view o (inside_in ps clear spans s)) told.at
      ∙ ap (inside_marks t f v view b) (inside-is k b s told)))
      (λ k b untold. ap (inside_marks t f v view b) (untold-inside k b untold))
      0 f.blocks spans all
