-- Lines of slots so far.
use Rattle.std.proofs.Common.{◌≡◌, ◌∙◌, ℕ, ◌+◌, ◌<◌, ◌≤◌, List, [], ◌∷◌, ◌++◌, length, drop, get_or, sym, ap, arith, append_assoc, append-nil}
use Rattle.std.specs.Prelude.{flat_map}
use Rattle.std.proofs.lemmas.List.{at_drop_more, drop_all}
use Rattle.target_base.specs.declared.types.ClassId.{ClassId}
use Rattle.target_base.specs.declared.types.Target.{Target}
use Rattle.mir_text.specs.Document.{lines}
use Rattle.source_text.specs.Keys.{parts_of}
use Rattle.rewriter.specs.Head.{slot_line, head_with_slots}

-- the line of one slot more
pub lines_more : {X : Type 0} (f : X → List ℕ) (made new total : List ℕ) (xs : List X) (k : ℕ) (x d : X) → k < length xs → x ≡ get_or xs k d → new ≡ made ++ f x → made ++ flat_map f (drop k xs) ≡ total → new ++ flat_map f (drop (k + 1) xs) ≡ total
lines_more f made new total xs k x d h at grown was =
    let rest = flat_map f (drop (k + 1) xs) in
    let step : flat_map f (drop k xs) ≡ f x ++ rest = at_drop_more (flat_map f) xs k d h ∙ ap (λ z. f z ++ rest) (sym at) in
    ap (λ p. p ++ rest) grown ∙ (append_assoc made (f x) rest ∙ (ap (λ p. made ++ p) (sym step) ∙ was))

-- slots, of which there are some
pub head_of : (t : Target) (slots : List (ℕ × ClassId)) (head made : List ℕ) → 0 < length slots → made ≡ (parts_of (lines head)).above ++ (flat_map (slot_line t) slots ++ (parts_of (lines head)).below) → made ≡ head_with_slots t slots head
head_of t [] head made h e = absurd (omega arith)
head_of t (s ∷ ss) head made h e = e

-- no line more
pub lines_all : {X : Type 0} (f : X → List ℕ) (made total : List ℕ) (xs : List X) (k : ℕ) → length xs ≤ k → made ++ flat_map f (drop k xs) ≡ total → made ≡ total
lines_all f made total xs k h was = sym (append-nil made) ∙ (ap (λ ys. made ++ flat_map f ys) (sym (drop_all k xs h)) ∙ was)
