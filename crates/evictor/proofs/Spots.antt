-- The instructions that touch a range, each with the position of its block.
use Rattle.std.proofs.Common.{◌≡◌, ◌∙◌, ℕ, zero, suc, ◌+◌, ◌*◌, ◌<◌, List, [], ◌∷◌, ◌++◌, Bool, true, false, cond, refl, sym, ap, arith, map, length, get_or, take, ◌⊎◌, inl, inr, ◌≤◌, subst}
use Rattle.std.specs.Prelude.{◌&&◌, ◌||◌, filter, flat_map, count_by, Some, None, slice_get}
use Rattle.std.specs.List.{list_any, sum_by, zip, All}
use Rattle.std.proofs.lemmas.Bool.{or_parts}
use Rattle.std.proofs.lemmas.List.{map-append, length-map}
use Rattle.std.proofs.lemmas.Option.{slice_get_cases}
use Rattle.std.proofs.lemmas.List.Elements.{filter-append, All-append, All-nil, All-map, All-from_recursion, All-filter, All-weaker, All-cons, All-get_or}
use Rattle.std.proofs.lemmas.List.Sums.{sum_by-cons, sum_by-append}
use Rattle.mir_func.specs.declared.func.RegOp.{RegOp}
use Rattle.mir_func.specs.declared.func.Operand.{Operand}
use Rattle.mir_func.specs.declared.func.Operand.TheVariants as operands
use Rattle.mir_func.specs.declared.func.Instr.{Instr}
use Rattle.mir_func.specs.declared.func.Block.{Block}
use Rattle.mir_func.specs.Value.{Function}
use Rattle.mir_func.specs.Binding.{registers}
use Rattle.mir_meaning.specs.Points.{is_range, counts, touches}
use Rattle.block_freq.specs.Weights.{names, naming, block_uses, use_sum}
use Rattle.live_lanes.specs.declared.table.Table.{Table}
use Rattle.live_lanes.specs.Ordered.{AreHomes, ids_of}
use Rattle.mir_meaning.specs.Paths.{has}
use Rattle.live_lanes.specs.Touching.{AreTouched, FindsInstrs}
use Rattle.live_lanes.specs.Tells.{touching_ids, TellsTouched}
use Rattle.evictor.specs.Spots.{IsSpot, uses_at}

-- an instruction that doesn't touch a range names it in no operand that counts

nothing_more : {n : ℕ} → n ≡ 0 → 0 + n ≡ 0
nothing_more e = omega (arith, e)

no_operand : (v : ℕ) (os : List Operand) → list_any (λ o. is_range v o.loc && counts o) (registers os) ≡ false → count_by (names v) os ≡ 0
no_operand v [] h = refl
no_operand v (operands.Reg o ∷ os) h =
    let parts = or_parts (is_range v o.loc && counts o) (list_any (λ p. is_range v p.loc && counts p) (registers os)) h in
    sum_by-cons (λ p. cond (names v p) 1 0) (operands.Reg o) os ∙ ap (λ b. cond b 1 0 + count_by (names v) os) parts.0 ∙ nothing_more (no_operand v os parts.1)
no_operand v (o ∷ os) h = sum_by-cons (λ p. cond (names v p) 1 0) o os ∙ nothing_more (no_operand v os h)

pub naming_untouched : (v : ℕ) (i : Instr) → touches v i ≡ false → naming v i ≡ 0
naming_untouched v i h = no_operand v i.operands h

-- a sum over what passes a test, where nothing else counts

zero_first : (n : ℕ) → 0 + n ≡ n
zero_first n = omega arith

pub sum_kept : {X : Type 0} (f : X → ℕ) (p : X → Bool) → ((x : X) → p x ≡ false → f x ≡ 0) → (xs : List X) → sum_by f (filter p xs) ≡ sum_by f xs
sum_kept f p none [] = refl
sum_kept f p none (x ∷ xs) = go (p x) refl (sum_kept f p none xs)
  where
    go : (b : Bool) → p x ≡ b → sum_by f (filter p xs) ≡ sum_by f xs → sum_by f (cond b (x ∷ filter p xs) (filter p xs)) ≡ sum_by f (x ∷ xs)
    go true e rest = sum_by-cons f x (filter p xs) ∙ ap (λ n. f x + n) rest ∙ sym (sum_by-cons f x xs)
    go false e rest = rest ∙ sym (sum_by-cons f x xs ∙ ap (λ n. n + sum_by f xs) (none x e) ∙ zero_first (sum_by f xs))

sum_mapped : {X Y : Type 0} (f : Y → ℕ) (g : X → Y) (xs : List X) → sum_by f (map g xs) ≡ sum_by (λ x. f (g x)) xs
sum_mapped f g [] = refl
sum_mapped f g (x ∷ xs) = sum_by-cons f (g x) (map g xs) ∙ ap (λ n. f (g x) + n) (sum_mapped f g xs) ∙ sym (sum_by-cons (λ y. f (g y)) x xs)

abbrev pub spots : ℕ → ℕ → List Block → List (ℕ × Instr)
spots v k [] = []
spots v k (b ∷ bs) = map (λ i. (k, i)) (filter (touches v) b.instrs) ++ spots v (suc k) bs

mapped_twice : {X Y Z : Type 0} (f : Y → Z) (g : X → Y) (xs : List X) → map f (map g xs) ≡ map (λ x. f (g x)) xs
mapped_twice f g [] = refl
mapped_twice f g (x ∷ xs) = ap (λ ys. f (g x) ∷ ys) (mapped_twice f g xs)

pub mapped_at : {X Y : Type 0} (f : X → Y) (xs : List X) (k : ℕ) (d : Y) (e : X) → k < length xs → get_or (map f xs) k d ≡ f (get_or xs k e)
mapped_at f [] k d e h = absurd (omega arith)
mapped_at f (x ∷ xs) zero d e h = refl
mapped_at f (x ∷ xs) (suc k) d e h = mapped_at f xs k d e (omega arith)

-- their ids

pub ids_are : (v k : ℕ) (bs : List Block) → map (λ (s : ℕ × Instr). s.1.id) (spots v k bs) ≡ map (λ i. i.id) (filter (touches v) (flat_map (λ b. b.instrs) bs))
ids_are v k [] = refl
ids_are v k (b ∷ bs) =
    map-append (λ (s : ℕ × Instr). s.1.id) (map (λ i. (k, i)) (filter (touches v) b.instrs)) (spots v (suc k) bs)
    ∙ ap (λ ns. ns ++ map (λ (s : ℕ × Instr). s.1.id) (spots v (suc k) bs)) (mapped_twice (λ (s : ℕ × Instr). s.1.id) (λ i. (k, i)) (filter (touches v) b.instrs))
    ∙ ap (λ ns. map (λ i. i.id) (filter (touches v) b.instrs) ++ ns) (ids_are v (suc k) bs)
    ∙ sym (ap (map (λ i. i.id)) (filter-append (touches v) b.instrs (flat_map (λ c. c.instrs) bs)) ∙ map-append (λ i. i.id) (filter (touches v) b.instrs) (filter (touches v) (flat_map (λ c. c.instrs) bs)))

-- the sum of their uses

times_none : (a n : ℕ) → n ≡ 0 → a * n ≡ 0
times_none a n e = ap (λ m. a * m) e ∙ omega arith

block_part : (freqs : List ℕ) (v k : ℕ) (is : List Instr) → sum_by (uses_at freqs v) (map (λ i. (k, i)) (filter (touches v) is)) ≡ sum_by (λ i. get_or freqs k 0 * naming v i) is
block_part freqs v k is = sum_mapped (uses_at freqs v) (λ i. (k, i)) (filter (touches v) is) ∙ sum_kept (λ i. get_or freqs k 0 * naming v i) (touches v) (λ i e. times_none (get_or freqs k 0) (naming v i) (naming_untouched v i e)) is

sum_zero : {X : Type 0} (f : X → ℕ) (xs : List X) → ((x : X) → f x ≡ 0) → sum_by f xs ≡ 0
sum_zero f [] h = refl
sum_zero f (x ∷ xs) h = sum_by-cons f x xs ∙ ap (λ n. n + sum_by f xs) (h x) ∙ nothing_more (sum_zero f xs h)

zip_none : (fs : List ℕ) → zip {K = ℕ} {X = Block} fs [] ≡ []
zip_none [] = refl
zip_none (f ∷ fs) = refl

pub uses_from : (freqs : List ℕ) (v k : ℕ) (fs : List ℕ) (bs : List Block) → ((j : ℕ) → get_or freqs (k + j) 0 ≡ get_or fs j 0) → sum_by (uses_at freqs v) (spots v k bs) ≡ sum_by (block_uses v) (zip fs bs)
uses_from freqs v k fs [] h = sym (ap (sum_by (block_uses v)) (zip_none fs))
uses_from freqs v k [] (b ∷ bs) h =
    let here : get_or freqs k 0 ≡ 0 = ap (λ n. get_or freqs n 0) (omega arith) ∙ h 0 in
    sum_by-append (uses_at freqs v) (map (λ i. (k, i)) (filter (touches v) b.instrs)) (spots v (suc k) bs)
    ∙ ap (λ n. n + sum_by (uses_at freqs v) (spots v (suc k) bs)) (block_part freqs v k b.instrs ∙ sum_zero (λ i. get_or freqs k 0 * naming v i) b.instrs (λ i. ap (λ n. n * naming v i) here ∙ omega arith))
    ∙ nothing_more (uses_from freqs v (suc k) [] bs (λ j. ap (λ n. get_or freqs n 0) (omega arith) ∙ h (suc j)))
uses_from freqs v k (f ∷ fs) (b ∷ bs) h =
    let here : get_or freqs k 0 ≡ f = ap (λ n. get_or freqs n 0) (omega arith) ∙ h 0 in
    sum_by-append (uses_at freqs v) (map (λ i. (k, i)) (filter (touches v) b.instrs)) (spots v (suc k) bs)
    ∙ ap (λ n. n + sum_by (uses_at freqs v) (spots v (suc k) bs)) (block_part freqs v k b.instrs ∙ ap (λ g. sum_by (λ i. g * naming v i) b.instrs) here)
    ∙ ap (λ n. sum_by (λ i. f * naming v i) b.instrs + n) (uses_from freqs v (suc k) fs bs (λ j. ap (λ n. get_or freqs n 0) (omega arith) ∙ h (suc j)))
    ∙ sym (sum_by-cons (block_uses v) (f, b) (zip fs bs))

pub uses_are : (freqs : List ℕ) (v : ℕ) (bs : List Block) → sum_by (uses_at freqs v) (spots v 0 bs) ≡ use_sum bs freqs v
uses_are freqs v bs = uses_from freqs v 0 freqs bs (λ j. ap (λ n. get_or freqs n 0) (omega arith))

-- each stands at its place

abbrev IsThere : {X : Type 0} → List X → X → Type 0
IsThere xs x = (j : ℕ) × (slice_get xs j ≡ Some x)

in_list : {X : Type 0} (xs : List X) → All (IsThere xs) xs
in_list [] = All-nil (IsThere [])
in_list (x ∷ xs) = All-cons (IsThere (x ∷ xs)) x xs (zero, refl) (All-weaker (IsThere xs) (IsThere (x ∷ xs)) (λ y h. (suc h.0, h.1)) xs (in_list xs))

pub spots_from : (all : List Block) (v k : ℕ) (bs : List Block) → ((j : ℕ) → slice_get all (k + j) ≡ slice_get bs j) → All (IsSpot all) (spots v k bs)
spots_from all v k [] h = All-nil (IsSpot all)
spots_from all v k (b ∷ bs) h =
    let here : slice_get all k ≡ Some b = ap (slice_get all) (omega arith) ∙ h 0 in
    All-append (IsSpot all) (map (λ i. (k, i)) (filter (touches v) b.instrs)) (spots v (suc k) bs)
    (All-map (IsSpot all) (λ i. (k, i)) (filter (touches v) b.instrs) (All-filter (touches v) (λ i. IsSpot all (k, i)) b.instrs (All-weaker (IsThere b.instrs) (λ i. IsSpot all (k, i)) (λ i at. (b, at.0, here, at.1)) b.instrs (in_list b.instrs))))
    (spots_from all v (suc k) bs (λ j. ap (slice_get all) (omega arith) ∙ h (suc j)))

pub spots_are : (v : ℕ) (bs : List Block) → All (IsSpot bs) (spots v 0 bs)
spots_are v bs = spots_from bs v 0 bs (λ j. ap (slice_get bs) (omega arith))

-- the one with the id at some place of the list of ids

pub spot_of : (v k id : ℕ) (bs : List Block) (ids : List ℕ) → ids ≡ map (λ (s : ℕ × Instr). s.1.id) (spots v 0 bs) → k < length ids → id ≡ get_or ids k 0 → (s : ℕ × Instr) × (k < length (spots v 0 bs)) × (get_or (spots v 0 bs) k s ≡ s) × IsSpot bs s × (s.1.id ≡ id)
spot_of v k id bs ids e h at = go (slice_get_cases (spots v 0 bs) k).1
  where
    many : length ids ≡ length (spots v 0 bs)
    many = ap length e ∙ length-map (spots v 0 bs) (λ (s : ℕ × Instr). s.1.id)

    go : ((s : ℕ × Instr) × (k < length (spots v 0 bs)) × (slice_get (spots v 0 bs) k ≡ Some s) × (get_or (spots v 0 bs) k s ≡ s)) ⊎ ((length (spots v 0 bs) ≤ k) × (slice_get (spots v 0 bs) k ≡ None)) → (s : ℕ × Instr) × (k < length (spots v 0 bs)) × (get_or (spots v 0 bs) k s ≡ s) × IsSpot bs s × (s.1.id ≡ id)
    go (inl f) = (f.0, f.1, f.3, subst (IsSpot bs) f.3 (All-get_or (IsSpot bs) (spots v 0 bs) k f.0 f.1 (spots_are v bs)), sym (at ∙ ap (λ ns. get_or ns k 0) e ∙ get_or_mapped f.1 f.3))
      where
        get_or_mapped : k < length (spots v 0 bs) → get_or (spots v 0 bs) k f.0 ≡ f.0 → get_or (map (λ (s : ℕ × Instr). s.1.id) (spots v 0 bs)) k 0 ≡ f.0.1.id
        get_or_mapped inside is = mapped_at (λ (s : ℕ × Instr). s.1.id) (spots v 0 bs) k 0 f.0 inside ∙ ap (λ (s : ℕ × Instr). s.1.id) is
    go (inr f) = absurd (omega (arith, many, f.0))
