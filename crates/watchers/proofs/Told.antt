-- A refusal while watchers are told.
use Rattle.std.proofs.Common.{◌≡◌, ℕ, ◌<◌, List, ◌++◌, map, take, drop, length, Result, Ok, Err, OnErr, ◌∙◌, ap, arith, get_or, set}
use Rattle.std.proofs.lemmas.List.{set-get_or, take_all, drop_all, append-nil}
use Rattle.watchers.specs.Told.{FirstBecame}

pub on_err : {T E P : Type 0} (r : Result T E) → P → OnErr r P
on_err (Ok x) p = tt
on_err (Err e) p = p

-- the one that refuses is put back as it was
pub first_became : {W : Type 0} (f : W → W) (old now : List W) (len i : ℕ) (x y : W) → len ≡ length old → length now ≡ length old → i < length old → now ≡ map f (take i old) ++ drop i old → y ≡ get_or now i x
    → FirstBecame f old (take len (set now i y ++ drop (length (set now i y)) old))
first_became f old now len i x y whole long inside told same =
    let kept : set now i y ≡ now = ap (set now i) same ∙ set-get_or now i x in
    let rest : take len (set now i y ++ drop (length (set now i y)) old) ≡ now =
    ap (λ l. take len (l ++ drop (length l) old)) kept ∙ ap (λ l. take len (now ++ l)) (drop_all (length now) old (omega (arith, long)))
    ∙ ap (take len) (append-nil now) ∙ take_all len now (omega (arith, whole, long)) in
    (i, omega (arith, inside), rest ∙ told)

-- a box whose value becomes what it is after a step is the box after that step
pub boxed : {I B : Type 0} {V : I → Type 0} (box : (i : I) × V i → B) (next : (b : (i : I) × V i) → V b.0) (a b : (i : I) × V i) (x : V a.0) → a ≡ b → x ≡ next a → box (a.0, x) ≡ box (b.0, next b)
boxed box next a b x same told = ap (λ y. box (a.0, y)) told ∙ ap (λ c. box (c.0, next c)) same
