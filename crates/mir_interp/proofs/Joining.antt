-- Lanes as one number where one is Undef or missing.
use Rattle.std.proofs.Common.{◌≡◌, ℕ, suc, zero, ◌+◌, ◌*◌, ◌^◌, ◌<◌, ◌≤◌, List, [], ◌∷◌, length, get_or, map, drop, Some, None, refl, sym, ap, ◌∙◌, arith}
use Rattle.std.proofs.lemmas.List.{length-map}
use Rattle.std.proofs.Math.Seq.{drop-cons}
use Rattle.meaning.specs.declared.types.Source.{Source}
use Rattle.meaning.specs.State.{State, fetch}
use Rattle.meaning.specs.Environment.{Environment, Value}
use Rattle.meaning.specs.Perform.{joined}

pub joined_missing : (i : ℕ) (ws : List ℕ) (vs : List Value) → i < length ws → length vs ≤ i → joined ws vs ≡ None
joined_missing i [] vs h g = absurd (omega arith)
joined_missing i (w ∷ ws) [] h g = refl
joined_missing i (w ∷ ws) (None ∷ vs) h g = refl
joined_missing zero (w ∷ ws) (Some n ∷ vs) h g = absurd (omega arith)
joined_missing (suc i) (w ∷ ws) (Some n ∷ vs) h g = rw (joined_missing i ws vs (omega arith) (omega arith)) refl

pub joined_undef : (i : ℕ) (ws : List ℕ) (vs : List Value) (d : Value) → i < length ws → i < length vs → get_or vs i d ≡ None → joined ws vs ≡ None
joined_undef i [] vs d h g e = absurd (omega arith)
joined_undef i (w ∷ ws) [] d h g e = refl
joined_undef i (w ∷ ws) (None ∷ vs) d h g e = refl
joined_undef zero (w ∷ ws) (Some n ∷ vs) d h g e = absurd (cc)
joined_undef (suc i) (w ∷ ws) (Some n ∷ vs) d h g e = rw (joined_undef i ws vs d (omega arith) (omega arith) e) refl

joined_some : (w : ℕ) (ws : List ℕ) (n : ℕ) (vs : List Value) (m : ℕ) → joined ws vs ≡ Some m → joined (w ∷ ws) (Some n ∷ vs) ≡ Some (n + 2 ^ w * m)
joined_some w ws n vs m e = rw e refl

get_or_mapped_at : {X Y : Type 0} (f : X → Y) (xs : List X) (i : ℕ) (d : X) (e : Y) → i < length xs → get_or (map f xs) i e ≡ f (get_or xs i d)
get_or_mapped_at f [] i d e h = absurd (omega arith)
get_or_mapped_at f (x ∷ xs) zero d e h = refl
get_or_mapped_at f (x ∷ xs) (suc i) d e h = get_or_mapped_at f xs i d e (omega arith)

get_or_mapped : {X Y : Type 0} (f : X → Y) (xs : List X) (i : ℕ) (d : X) → i < length xs → get_or (map f xs) i (f d) ≡ f (get_or xs i d)
get_or_mapped f xs i d h = get_or_mapped_at f xs i d (f d) h

pub joined_fetched_missing : (env : Environment) (st : State) (i : ℕ) (ws : List ℕ) (ss : List Source) → i < length ws → length ss ≤ i → joined ws (map (fetch env st) ss) ≡ None
joined_fetched_missing env st i ws ss h g =
    let e : length (map (fetch env st) ss) ≡ length ss = length-map ss (fetch env st) in
    joined_missing i ws (map (fetch env st) ss) h (omega (arith, e))

pub joined_fetched_undef : (env : Environment) (st : State) (i : ℕ) (ws : List ℕ) (ss : List Source) (s : Source) → i < length ws → i < length ss → s ≡ get_or ss i s → fetch env st s ≡ None → joined ws (map (fetch env st) ss) ≡ None
joined_fetched_undef env st i ws ss s h g e f =
    let n : length (map (fetch env st) ss) ≡ length ss = length-map ss (fetch env st) in
    joined_undef i ws (map (fetch env st) ss) (fetch env st s) h (omega (arith, n)) (get_or_mapped (fetch env st) ss i s g ∙ (ap (fetch env st) (sym e) ∙ f))

pub joined_fetched_more : (env : Environment) (st : State) (i j k : ℕ) (ws : List ℕ) (ss : List Source) (s : Source) (lane number n : ℕ) → j ≡ i → k ≡ suc i → i < length ws → i < length ss → s ≡ get_or ss i s → fetch env st s ≡ Some lane → joined (drop k ws) (drop k (map (fetch env st) ss)) ≡ Some number → n ≡ lane + 2 ^ get_or ws i 0 * number → joined (drop j ws) (drop j (map (fetch env st) ss)) ≡ Some n
joined_fetched_more env st i j k ws ss s lane number n ej ek h g e f inv en =
    let len : length (map (fetch env st) ss) ≡ length ss = length-map ss (fetch env st) in
    let lt : i < length (map (fetch env st) ss) = omega (arith, len) in
    let here : get_or (map (fetch env st) ss) i None ≡ Some lane = get_or_mapped_at (fetch env st) ss i s None g ∙ (ap (fetch env st) (sym e) ∙ f) in
    ap (λ t. joined (drop t ws) (drop t (map (fetch env st) ss))) ej
    ∙ (ap (λ t. joined t (drop i (map (fetch env st) ss))) (drop-cons ws i 0 h)
    ∙ (ap (λ t. joined (get_or ws i 0 ∷ drop (suc i) ws) t) (drop-cons (map (fetch env st) ss) i None lt)
    ∙ (ap (λ v. joined (get_or ws i 0 ∷ drop (suc i) ws) (v ∷ drop (suc i) (map (fetch env st) ss))) here
    ∙ (joined_some (get_or ws i 0) (drop (suc i) ws) lane (drop (suc i) (map (fetch env st) ss)) number (ap (λ t. joined (drop t ws) (drop t (map (fetch env st) ss))) (sym ek) ∙ inv)
    ∙ ap (λ t. Some t) (sym en)))))
