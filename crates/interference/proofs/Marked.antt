-- Numbers as bits of words, and those that are marked in rising order.
use Rattle.std.proofs.Common.{◌≡◌, ◌<◌, ◌≤◌, ◌⊎◌, ℕ, zero, suc, ◌+◌, ◌*◌, ◌-◌, ◌/◌, ◌%◌, ◌^◌, Bool, true, false, cond, length, List, [], ◌∷◌, ◌++◌, inl, inr, refl, sym, ap, ◌∙◌, arith, get_or, set, min, append-nil, append_assoc, w64}
use Rattle.std.specs.Prelude.{◌||◌, nat_eq, filter, bit_and, bit_or}
use Rattle.std.specs.Int.{bit_at, trailing_zeros}
use Rattle.std.proofs.lemmas.Bool.{ne_eqb, eq-eqb, cases_eq, cases_lt}
use Rattle.std.proofs.lemmas.List.{get_or-set_same, get_or-set_other, get_or_past}
use Rattle.std.proofs.lemmas.List.Elements.{filter-append}
use Rattle.std.proofs.lemmas.Nat.Bits.{bit_at_set_same, bit_at_set_other, bit_at-zero, bit_at-trailing_zeros, shr_and_one}
use Rattle.mir_meaning.specs.Registers.{numbers}
use Rattle.interference.specs.Marked.{word_bits, is_marked}

or-true : (b : Bool) → (true || b) ≡ true
or-true b = refl

-- one more number is marked
pub marked-more : (ws : List ℕ) (n w : ℕ) → n / 64 < length ws → is_marked (set ws (n / 64) (bit_or (get_or ws (n / 64) 0) (1 * 2 ^ (n % 64) % 2 ^ 64))) w ≡ (nat_eq n w || is_marked ws w)
marked-more ws n w h = go (cases_eq (w / 64) (n / 64)) (cases_eq (w % 64) (n % 64))
  where
    new : ℕ
    new = bit_or (get_or ws (n / 64) 0) (1 * 2 ^ (n % 64) % 2 ^ 64)

    go : (w / 64 ≡ n / 64) ⊎ ((w / 64 ≡ n / 64) → ⊥) → (w % 64 ≡ n % 64) ⊎ ((w % 64 ≡ n % 64) → ⊥) → is_marked (set ws (n / 64) new) w ≡ (nat_eq n w || is_marked ws w)
    go (inl a) (inl b) =
        let there : get_or (set ws (n / 64) new) (w / 64) 0 ≡ new = ap (λ k. get_or (set ws (n / 64) new) k 0) a ∙ get_or-set_same ws (n / 64) new 0 h in
        let bit : bit_at new (w % 64) ≡ 1 = ap (bit_at new) b ∙ bit_at_set_same w64 (get_or ws (n / 64) 0) (n % 64) (omega arith) in
        let same : n ≡ w = omega arith in
        ap (λ x. nat_eq x 1) (ap (λ x. bit_at x (w % 64)) there ∙ bit) ∙ sym (ap (λ t. t || is_marked ws w) (eq-eqb n w same))
    go (inl a) (inr b) =
        let there : get_or (set ws (n / 64) new) (w / 64) 0 ≡ new = ap (λ k. get_or (set ws (n / 64) new) k 0) a ∙ get_or-set_same ws (n / 64) new 0 h in
        let bit : bit_at new (w % 64) ≡ bit_at (get_or ws (n / 64) 0) (w % 64) = bit_at_set_other w64 (get_or ws (n / 64) 0) (n % 64) (omega arith) (w % 64) b in
        ap (λ x. nat_eq x 1) (ap (λ x. bit_at x (w % 64)) there ∙ bit ∙ ap (λ k. bit_at (get_or ws k 0) (w % 64)) (sym a)) ∙ sym (ap (λ t. t || is_marked ws w) (ne_eqb n w (λ e. b (ap (λ x. x % 64) (sym e)))))
    go (inr a) b =
        let there : get_or (set ws (n / 64) new) (w / 64) 0 ≡ get_or ws (w / 64) 0 = get_or-set_other ws (n / 64) (w / 64) new 0 a in
        ap (λ x. nat_eq (bit_at x (w % 64)) 1) there ∙ sym (ap (λ t. t || is_marked ws w) (ne_eqb n w (λ e. a (ap (λ x. x / 64) (sym e)))))

-- one without a word isn't
pub no-room : (ws : List ℕ) (n w : ℕ) → length ws ≤ n / 64 → w < length ws * 64 → is_marked ws w ≡ (nat_eq n w || is_marked ws w)
no-room ws n w h l = sym (ap (λ t. t || is_marked ws w) (ne_eqb n w (λ e. omega arith)))

pub past-none : (ws : List ℕ) (w : ℕ) → length ws * 64 ≤ w → is_marked ws w ≡ false
past-none ws w h = ap (λ x. nat_eq (bit_at x (w % 64)) 1) (get_or_past ws (w / 64) 0 (omega arith)) ∙ ap (λ x. nat_eq x 1) (bit_at-zero (w % 64))

pub numbers-cat : (a m n : ℕ) → numbers a (m + n) ≡ numbers a m ++ numbers (a + m) n
numbers-cat a zero n = let e : zero + n ≡ n = omega arith in let f : a + zero ≡ a = omega arith in ap (numbers a) e ∙ ap (λ x. numbers x n) (sym f)
numbers-cat a (suc m) n =
    let e : suc m + n ≡ suc (m + n) = omega arith in
    let f : suc a + m ≡ a + suc m = omega arith in
    ap (numbers a) e ∙ ap (λ xs. a ∷ xs) (numbers-cat (suc a) m n) ∙ ap (λ x. a ∷ (numbers (suc a) m ++ numbers x n)) f

pub filter-same : (p q : ℕ → Bool) (a n : ℕ) → ((x : ℕ) → a ≤ x → x < a + n → p x ≡ q x) → filter p (numbers a n) ≡ filter q (numbers a n)
filter-same p q a zero h = refl
filter-same p q a (suc n) h =
    let ih = filter-same p q (suc a) n (λ x lo hi. h x (omega arith) (omega arith)) in
    ap (λ b. cond b (a ∷ filter p (numbers (suc a) n)) (filter p (numbers (suc a) n))) (h a (omega arith) (omega arith)) ∙ ap (λ xs. cond (q a) (a ∷ xs) xs) ih

pub filter-none : (p : ℕ → Bool) (a n : ℕ) → ((x : ℕ) → a ≤ x → x < a + n → p x ≡ false) → filter p (numbers a n) ≡ []
filter-none p a zero h = refl
filter-none p a (suc n) h = ap (λ b. cond b (a ∷ filter p (numbers (suc a) n)) (filter p (numbers (suc a) n))) (h a (omega arith) (omega arith)) ∙ filter-none p (suc a) n (λ x lo hi. h x (omega arith) (omega arith))

-- more numbers, of which none passes
pub filter-more : (p : ℕ → Bool) (n m : ℕ) → n ≤ m → ((x : ℕ) → n ≤ x → x < m → p x ≡ false) → filter p (numbers 0 m) ≡ filter p (numbers 0 n)
filter-more p n m le h =
    let e : n + (m - n) ≡ m = omega arith in
    ap (λ k. filter p (numbers 0 k)) (sym e) ∙ ap (filter p) (numbers-cat 0 n (m - n)) ∙ filter-append p (numbers 0 n) (numbers (0 + n) (m - n))
    ∙ ap (λ xs. filter p (numbers 0 n) ++ xs) (filter-none p (0 + n) (m - n) (λ x lo hi. h x (omega arith) (omega arith))) ∙ append-nil (filter p (numbers 0 n))

abbrev pub bit_of : ℕ → ℕ → ℕ → Bool
bit_of first word n = nat_eq (bit_at word (n - first)) 1

-- the next bit of a word
pub bits-step : (first word k : ℕ) → filter (bit_of first word) (numbers first (k + 1)) ≡ filter (bit_of first word) (numbers first k) ++ cond (nat_eq (bit_at word k) 1) ((first + k) ∷ []) []
bits-step first word k =
    let e : first + k - first ≡ k = omega arith in
    ap (filter (bit_of first word)) (numbers-cat first k 1) ∙ filter-append (bit_of first word) (numbers first k) ((first + k) ∷ [])
    ∙ ap (λ j. filter (bit_of first word) (numbers first k) ++ cond (nat_eq (bit_at word j) 1) ((first + k) ∷ []) []) e

pub bits-are : word_bits ≡ 64
unfolding word_bits
bits-are = refl

-- a bit that is set, and one that isn't
pub bit_set : (first word k pushed : ℕ) (old made more : List ℕ) → bit_and (word / 2 ^ k) 1 ≡ 1 → pushed ≡ first + k → made ≡ old ++ filter (bit_of first word) (numbers first k) → more ≡ made ++ pushed ∷ [] → more ≡ old ++ filter (bit_of first word) (numbers first (k + 1))
bit_set first word k pushed old made more bit at was e =
    let b : bit_at word k ≡ 1 = sym (shr_and_one word k) ∙ bit in
    e ∙ ap (λ xs. xs ++ pushed ∷ []) was ∙ append_assoc old (filter (bit_of first word) (numbers first k)) (pushed ∷ [])
    ∙ ap (λ xs. old ++ xs) (ap (λ x. filter (bit_of first word) (numbers first k) ++ x ∷ []) at ∙ ap (λ t. filter (bit_of first word) (numbers first k) ++ cond t ((first + k) ∷ []) []) (sym (ap (λ x. nat_eq x 1) b)) ∙ sym (bits-step first word k))

pub bit_clear : (first word k : ℕ) (old made : List ℕ) → (bit_and (word / 2 ^ k) 1 ≡ 1 → ⊥) → made ≡ old ++ filter (bit_of first word) (numbers first k) → made ≡ old ++ filter (bit_of first word) (numbers first (k + 1))
bit_clear first word k old made none was =
    let b : nat_eq (bit_at word k) 1 ≡ false = ne_eqb (bit_at word k) 1 (λ e. none (shr_and_one word k ∙ e)) in
    was ∙ ap (λ xs. old ++ xs) (sym (bits-step first word k ∙ ap (λ t. filter (bit_of first word) (numbers first k) ++ cond t ((first + k) ∷ []) []) b ∙ append-nil (filter (bit_of first word) (numbers first k))))

pub bits_all : (first word k : ℕ) (old made : List ℕ) → k ≡ 64 → made ≡ old ++ filter (bit_of first word) (numbers first k) → made ≡ old ++ filter (bit_of first word) (numbers first word_bits)
bits_all first word k old made e was = was ∙ ap (λ j. old ++ filter (bit_of first word) (numbers first j)) (e ∙ sym bits-are)

module _ (ws : List ℕ) where
  abbrev pub AreSmall : Type 0
  AreSmall = (w : ℕ) → is_marked ws w ≡ true → w < 4294967296

  -- the bits of the next word
  pub word-step : (k n : ℕ) → n ≡ 64 → filter (is_marked ws) (numbers 0 (64 * (k + 1))) ≡ filter (is_marked ws) (numbers 0 (64 * k)) ++ filter (bit_of (64 * k) (get_or ws k 0)) (numbers (64 * k) n)
  word-step k n long =
      let e : 64 * (k + 1) ≡ 64 * k + n = omega arith in
      let z : 0 + 64 * k ≡ 64 * k = omega arith in
      ap (λ j. filter (is_marked ws) (numbers 0 j)) e ∙ ap (filter (is_marked ws)) (numbers-cat 0 (64 * k) n) ∙ filter-append (is_marked ws) (numbers 0 (64 * k)) (numbers (0 + 64 * k) n)
      ∙ ap (λ j. filter (is_marked ws) (numbers 0 (64 * k)) ++ filter (is_marked ws) (numbers j n)) z
      ∙ ap (λ xs. filter (is_marked ws) (numbers 0 (64 * k)) ++ xs) (filter-same (is_marked ws) (bit_of (64 * k) (get_or ws k 0)) (64 * k) n same)
    where
      same : (x : ℕ) → 64 * k ≤ x → x < 64 * k + n → is_marked ws x ≡ bit_of (64 * k) (get_or ws k 0) x
      same x lo hi =
          let a : x / 64 ≡ k = omega (arith, long) in
          let b : x % 64 ≡ x - 64 * k = omega (arith, long) in
          ap (λ j. nat_eq (bit_at (get_or ws j 0) (x % 64)) 1) a ∙ ap (λ j. nat_eq (bit_at (get_or ws k 0) j) 1) b

  pub word-none : (k n : ℕ) → n ≡ 64 → get_or ws k 0 ≡ 0 → filter (is_marked ws) (numbers 0 (64 * (k + 1))) ≡ filter (is_marked ws) (numbers 0 (64 * k))
  word-none k n long e =
      word-step k n long ∙ ap (λ x. filter (is_marked ws) (numbers 0 (64 * k)) ++ filter (bit_of (64 * k) x) (numbers (64 * k) n)) e
      ∙ ap (λ xs. filter (is_marked ws) (numbers 0 (64 * k)) ++ xs) (filter-none (bit_of (64 * k) 0) (64 * k) n (λ x lo hi. ap (λ y. nat_eq y 1) (bit_at-zero (x - 64 * k)))) ∙ append-nil (filter (is_marked ws) (numbers 0 (64 * k)))

  -- a word with a bit stands among those of small numbers
  pub word-small : (k : ℕ) → AreSmall → 0 < get_or ws k 0 → get_or ws k 0 < 2 ^ 64 → 64 * k + 64 ≤ 4294967296
  word-small k small some fits =
      let lowest = bit_at-trailing_zeros w64 (get_or ws k 0) some fits in
      let at : ℕ = 64 * k + trailing_zeros w64 (get_or ws k 0) in
      let bound : trailing_zeros w64 (get_or ws k 0) < 64 = lowest.0 in
      let a : at / 64 ≡ k = omega arith in
      let b : at % 64 ≡ trailing_zeros w64 (get_or ws k 0) = omega arith in
      let bit : bit_at (get_or ws (at / 64) 0) (at % 64) ≡ 1 = ap (λ j. bit_at (get_or ws j 0) (at % 64)) a ∙ ap (bit_at (get_or ws k 0)) b ∙ lowest.1 in
      let low = small at (ap (λ x. nat_eq x 1) bit) in
      omega arith

  -- all numbers that are marked
  pub all-words : (n : ℕ) → ((w : ℕ) → is_marked ws w ≡ true → w < n) → filter (is_marked ws) (numbers 0 (64 * length ws)) ≡ filter (is_marked ws) (numbers 0 n)
  all-words n h = go (cases_lt n (64 * length ws))
    where
      none : (x : ℕ) → n ≤ x → (u : Bool) → is_marked ws x ≡ u → is_marked ws x ≡ false
      none x le true e = absurd (let l = h x e in omega arith)
      none x le false e = e

      go : (n < 64 * length ws) ⊎ (64 * length ws ≤ n) → filter (is_marked ws) (numbers 0 (64 * length ws)) ≡ filter (is_marked ws) (numbers 0 n)
      go (inl le) = filter-more (is_marked ws) n (64 * length ws) (omega arith) (λ x lo hi. none x lo (is_marked ws x) refl)
      go (inr lt) = sym (filter-more (is_marked ws) (64 * length ws) n (omega arith) (λ x lo hi. past-none ws x (omega arith)))

  pub words_more : (k first : ℕ) (old made : List ℕ) → first ≡ 64 * k → old ≡ filter (is_marked ws) (numbers 0 (64 * k)) → made ≡ old ++ filter (bit_of first (get_or ws k 0)) (numbers first word_bits) → made ≡ filter (is_marked ws) (numbers 0 (64 * (k + 1)))
  words_more k first old made at was e =
      e ∙ ap (λ j. old ++ filter (bit_of j (get_or ws k 0)) (numbers j word_bits)) at ∙ ap (λ xs. xs ++ filter (bit_of (64 * k) (get_or ws k 0)) (numbers (64 * k) word_bits)) was ∙ sym (word-step k word_bits bits-are)

  -- a word that isn't 0 stands at a number that is told exactly
  pub word_place : (k first : ℕ) (xs : List ℕ) → xs ≡ ws → AreSmall → first ≡ min (64 * k) 4294967295 → (get_or xs k 0 ≡ 0 → ⊥) → get_or xs k 0 < 2 ^ 64 → (first ≡ 64 * k) × (first + 64 ≤ 4294967296)
  word_place k first xs same small at some fits =
      let e : get_or xs k 0 ≡ get_or ws k 0 = ap (λ l. get_or l k 0) same in
      let bound = word-small k small (omega (arith, some, e)) (omega (arith, fits, e)) in
      (omega arith, omega arith)
