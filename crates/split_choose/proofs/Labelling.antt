-- The marks of the blocks of a region, block by block.
use Rattle.std.proofs.Common.{◌≡◌, ◌∙◌, ℕ, zero, suc, ◌+◌, ◌<◌, ◌≤◌, List, [], ◌∷◌, ◌++◌, Bool, true, refl, sym, ap, length, take, get_or, map, filter, arith, append_assoc, append-nil, Option, None, Some}
use Rattle.std.specs.Prelude.{slice_get, flat_map}
use Rattle.std.specs.List.{list_all}
use Rattle.std.proofs.lemmas.Bool.{and_parts}
use Rattle.std.proofs.lemmas.List.{take_more, take_all}
use Rattle.target_base.specs.declared.types.Target.{Target}
use Rattle.mir_func.specs.declared.func.Block.{Block}
use Rattle.mir_func.specs.Value.{Function}
use Rattle.mir_func.specs.Binding.{does, is_terminator}
use Rattle.live_lanes.specs.declared.ask.labels.Mark.{Mark}
use Rattle.split_choose.specs.declared.spans.Span.{Span}
use Rattle.split_choose.specs.declared.regions.InsidePart.{InsidePart as Where}
use Rattle.split_choose.specs.declared.regions.InsidePart.TheVariants as places
use Rattle.split_choose.specs.Offers.{View, first_id, at_start, at_gap}
use Rattle.split_choose.specs.Marks.{marks_in}
use Rattle.split_choose.specs.Seen.{ends_in_terminators}
use Rattle.split_choose.specs.Parts.{marks_there, marks_of}
use Rattle.split_choose.proofs.Walks.{mapped-at}

pub all-got : {X : Type 0} (g : X → Bool) (xs : List X) (j : ℕ) (x : X) → list_all g xs ≡ true → slice_get xs j ≡ Some x → g x ≡ true
all-got g [] j x h e = absurd (cc)
all-got g (y ∷ xs) zero x h e = let same : y ≡ x = cc in ap g (sym same) ∙ (and_parts (g y) (list_all g xs) h).0
all-got g (y ∷ xs) (suc j) x h e = all-got g xs j x (and_parts (g y) (list_all g xs) h).1 e

-- from the block's start to before its terminators
pub head_added : (t : Target) (f : Function) (v : ℕ) (view : View) (k : ℕ) (old mid new : List Mark) (end : Option ℕ) → mid ≡ old ++ marks_in (slice_get f.blocks k) None 1 → new ≡ mid ++ marks_in (slice_get f.blocks k) (Some end) 0
    → ((b : Block) → slice_get f.blocks k ≡ Some b → ends_in_terminators t b.instrs ≡ true → end ≡ first_id (filter (does is_terminator t) b.instrs)) → list_all (λ b. ends_in_terminators t b.instrs) f.blocks ≡ true
    → new ≡ old ++ marks_there t f v view (slice_get f.blocks k) places.Start
head_added t f v view k old mid new end e g at-end ended = go (slice_get f.blocks k) refl
  where
    joined : (o : Option Block) → slice_get f.blocks k ≡ o → new ≡ old ++ (marks_in o None 1 ++ marks_in o (Some end) 0)
    joined o at = g ∙ (ap (λ ms. ms ++ marks_in (slice_get f.blocks k) (Some end) 0) e ∙ (append_assoc old (marks_in (slice_get f.blocks k) None 1) (marks_in (slice_get f.blocks k) (Some end) 0)
        ∙ ap (λ p. old ++ (marks_in p None 1 ++ marks_in p (Some end) 0)) at))

    go : (o : Option Block) → slice_get f.blocks k ≡ o → new ≡ old ++ marks_there t f v view o places.Start
    go None at = joined None at
    go (Some b) at = joined (Some b) at ∙ ap (λ i. old ++ (at_start b.number 1 ∷ at_gap b.number i 0 ∷ [])) (at-end b at (all-got (λ (c : Block). ends_in_terminators t c.instrs) f.blocks k b ended at))

-- block by block

flat-append : {X Y : Type 0} (g : X → List Y) (xs ys : List X) → flat_map g (xs ++ ys) ≡ flat_map g xs ++ flat_map g ys
flat-append g [] ys = refl
flat-append g (x ∷ xs) ys = ap (λ zs. g x ++ zs) (flat-append g xs ys) ∙ sym (append_assoc (g x) (flat_map g xs) (flat_map g ys))

module _ (t : Target) (f : Function) (v : ℕ) (view : View) (inside : Span → Where) (spans : List Span) where
  pub marks_next : (insides : List Where) (k : ℕ) (s : Span) (here : Where) (old new : List Mark) → k < length spans → s ≡ get_or spans k s → insides ≡ map inside spans → here ≡ get_or insides k places.Nowhere
      → old ≡ marks_of t f v view inside (take k spans) → new ≡ old ++ marks_there t f v view (slice_get f.blocks s.position) here → new ≡ marks_of t f v view inside (take (k + 1) spans)
  marks_next insides k s here old new h at are is was made =
      let e : here ≡ inside s = is ∙ (ap (λ xs. get_or xs k places.Nowhere) are ∙ mapped-at inside spans k s places.Nowhere h at) in
      let own = λ (q : Span). marks_there t f v view (slice_get f.blocks q.position) (inside q) in
      made ∙ (ap (λ ms. ms ++ marks_there t f v view (slice_get f.blocks s.position) here) was
      ∙ (ap (λ i. marks_of t f v view inside (take k spans) ++ marks_there t f v view (slice_get f.blocks s.position) i) e
      ∙ sym (ap (marks_of t f v view inside) (take_more spans k s h ∙ ap (λ y. take k spans ++ y ∷ []) (sym at)) ∙ (flat-append own (take k spans) (s ∷ []) ∙ ap (λ ms. marks_of t f v view inside (take k spans) ++ ms) (append-nil (own s))))))

  pub marks_last : (k : ℕ) (made : List Mark) → length spans ≤ k → made ≡ marks_of t f v view inside (take k spans) → made ≡ marks_of t f v view inside spans
  marks_last k made h was = was ∙ ap (marks_of t f v view inside) (take_all k spans h)

pub marks_first : (t : Target) (f : Function) (v : ℕ) (view : View) (inside : Span → Where) (spans : List Span) → [] ≡ marks_of t f v view inside (take 0 spans)
marks_first t f v view inside [] = refl
marks_first t f v view inside (s ∷ spans) = refl
