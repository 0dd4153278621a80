-- Walks that write each element of a list in turn.
use Rattle.std.proofs.Common.{◌≡◌, ℕ, zero, suc, ◌+◌, ◌<◌, ◌≤◌, arith, List, [], ◌∷◌, ◌++◌, length, get_or, set, take, drop, refl, sym, ap, ◌∙◌, append_assoc}
use Rattle.std.proofs.lemmas.List.{take_more_set, take_all, append-nil}

-- what is done and what the rest gives stay the whole when an element is written
pub walk_more : {X : Type 0} (xs : List X) (k : ℕ) (y : X) (rest next total : List X) → k < length xs → take k xs ++ rest ≡ total → rest ≡ y ∷ next → take (k + 1) (set xs k y) ++ next ≡ total
walk_more xs k y rest next total h was is =
    rw (take_more_set xs k y h, append_assoc (take k xs) (y ∷ []) next, ← is) was

-- nothing is left behind the end
pub drop_all : {X : Type 0} (k : ℕ) (xs : List X) → length xs ≤ k → drop k xs ≡ []
drop_all zero [] h = refl
drop_all zero (x ∷ xs) h = absurd (omega arith)
drop_all (suc k) [] h = refl
drop_all (suc k) (x ∷ xs) h = drop_all k xs (omega arith)

-- at the end what is done is the whole
pub walk_all : {X : Type 0} (xs : List X) (k : ℕ) (rest total : List X) → length xs ≤ k → take k xs ++ rest ≡ total → rest ≡ [] → xs ≡ total
walk_all xs k rest total h was none =
    let t = take_all k xs h in
    let e = rw (t, none, append-nil xs) at was in
    e

-- a walk that puts pieces behind each other
pub piece_more : {X : Type 0} (made next piece rest left total : List X) → next ≡ made ++ piece → rest ≡ piece ++ left → made ++ rest ≡ total → next ++ left ≡ total
piece_more made next piece rest left total e is was = rw (e, append_assoc made piece left, ← is) was

pub pieces_all : {X : Type 0} (made rest total : List X) → rest ≡ [] → made ++ rest ≡ total → made ≡ total
pieces_all made rest total none was = let e = rw (none, append-nil made) at was in e
