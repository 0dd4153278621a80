-- Texts all of whose lines are read, and lists that are made element by element.
use Rattle.std.proofs.Common.{◌≡◌, ℕ, ◌<◌, ◌+◌, List, [], ◌∷◌, ◌++◌, length, drop, get_or, map, ap, sym, ◌∙◌, append-nil, append_assoc}
use Rattle.std.proofs.lemmas.List.{at_drop_more}
use Rattle.mir_text.specs.Document.{lines}
use Rattle.mir_text.proofs.Lines.{lines_none}
use Rattle.source_text.specs.Keys.{text_of}

-- where no lines are left, the text is what it was to be
pub ended : (f : List (List ℕ) → List (List ℕ)) (text whole rest : List ℕ) → f [] ≡ [] → length rest ≡ 0 → text ++ text_of (f (lines rest)) ≡ whole → text ≡ whole
ended f text whole rest e none was = sym (append-nil text) ∙ (ap (λ ls. text ++ text_of ls) (sym (ap f (lines_none rest none) ∙ e)) ∙ was)

-- one element more
pub made_more :
    {X Y : Type 0} (f : X → Y) (made new whole : List Y) (xs : List X) (k : ℕ) (x : X) (y : Y) → k < length xs → x ≡ get_or xs k x → y ≡ f x → new ≡ made ++ y ∷ []
    → made ++ map f (drop k xs) ≡ whole → new ++ map f (drop (k + 1) xs) ≡ whole
made_more f made new whole xs k x y lt at is grown was =
    let rest = map f (drop (k + 1) xs) in
    let step : map f (drop k xs) ≡ y ∷ rest = at_drop_more (map f) xs k x lt ∙ (ap (λ z. f z ∷ rest) (sym at) ∙ ap (λ z. z ∷ rest) (sym is)) in
    ap (λ p. p ++ rest) grown ∙ (append_assoc made (y ∷ []) rest ∙ (ap (λ p. made ++ p) (sym step) ∙ was))
