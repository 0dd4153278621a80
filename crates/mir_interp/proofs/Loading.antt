-- Bytes that are loaded and stored, where addresses are taken modulo 2^128 on the way.
use Rattle.std.proofs.Common.{◌≡◌, ℕ, suc, zero, ◌+◌, ◌*◌, ◌/◌, ◌%◌, ◌^◌, ◌<◌, List, [], ◌∷◌, Some, None, refl, sym, ap, ◌∙◌, subst, arith, length, get_or, drop, ◌++◌, append_assoc}
use Rattle.std.proofs.Math.Nat.{mod-add-mod}
use Rattle.std.proofs.Math.Seq.{drop-cons}
use Rattle.meaning.specs.Environment.{Environment, Value}
use Rattle.meaning.specs.Perform.{Outside, combined, byte_at, loaded_bytes, loaded, stored_bytes, stored, high_bytes, low_byte}

combined_undef : (v : Value) (f : ℕ → ℕ → ℕ) → combined v None f ≡ None
combined_undef None f = refl
combined_undef (Some n) f = refl

-- addresses that are one modulo 2 ^ w stay so
pub next_same : (w a b n : ℕ) → a % 2 ^ w ≡ b % 2 ^ w → (a + n) % 2 ^ w ≡ (b + n) % 2 ^ w
next_same w a b n e = sym (mod-add-mod a (2 ^ w) n) ∙ (ap (λ t. (t + n) % 2 ^ w) e ∙ mod-add-mod b (2 ^ w) n)

pub loaded_bytes_same : (env : Environment) (o : Outside) (w a b n : ℕ) → a % 2 ^ w ≡ b % 2 ^ w → loaded_bytes env o w a n ≡ loaded_bytes env o w b n
loaded_bytes_same env o w a b zero e = refl
loaded_bytes_same env o w a b (suc n) e =
    ap (λ t. combined (byte_at env o.bytes t) (loaded_bytes env o w (a + 1) n) (λ x m. x + 256 * m)) e
    ∙ ap (λ v. combined (byte_at env o.bytes (b % 2 ^ w)) v (λ x m. x + 256 * m)) (loaded_bytes_same env o w (a + 1) (b + 1) n (next_same w a b 1 e))

pub loaded_same : (env : Environment) (o : Outside) (w a b : ℕ) (ls : List ℕ) → a % 2 ^ w ≡ b % 2 ^ w → loaded env o w a ls ≡ loaded env o w b ls
loaded_same env o w a b [] e = refl
loaded_same env o w a b (l ∷ ls) e =
    ap (λ v. v ∷ loaded env o w (a + l / 8) ls) (loaded_bytes_same env o w a b (l / 8) e)
    ∙ ap (λ vs. loaded_bytes env o w b (l / 8) ∷ vs) (loaded_same env o w (a + l / 8) (b + l / 8) ls (next_same w a b (l / 8) e))

pub load_step : (env : Environment) (o : Outside) (w a k x n : ℕ) → byte_at env o.bytes (a % 2 ^ w) ≡ Some x → loaded_bytes env o w (a + 1) k ≡ Some n → loaded_bytes env o w a (suc k) ≡ Some (x + 256 * n)
load_step env o w a k x n e f =
    ap (λ v. combined v (loaded_bytes env o w (a + 1) k) (λ y m. y + 256 * m)) e ∙ ap (λ v. combined (Some x) v (λ y m. y + 256 * m)) f

pub load_undef : (env : Environment) (o : Outside) (w a i n : ℕ) → i < n → byte_at env o.bytes ((a + i) % 2 ^ w) ≡ None → loaded_bytes env o w a n ≡ None
load_undef env o w a i zero h e = absurd (omega arith)
load_undef env o w a zero (suc n) h e =
    let f : a + 0 ≡ a = omega arith in
    ap (λ v. combined v (loaded_bytes env o w (a + 1) n) (λ y m. y + 256 * m)) (subst (λ t. byte_at env o.bytes (t % 2 ^ w) ≡ None) f e)
load_undef env o w a (suc i) (suc n) h e =
    let f : a + suc i ≡ (a + 1) + i = omega arith in
    ap (λ v. combined (byte_at env o.bytes (a % 2 ^ w)) v (λ y m. y + 256 * m)) (load_undef env o w (a + 1) i n (omega arith) (subst (λ t. byte_at env o.bytes (t % 2 ^ w) ≡ None) f e))
    ∙ combined_undef (byte_at env o.bytes (a % 2 ^ w)) (λ y m. y + 256 * m)

pub stored_bytes_same : (w a b : ℕ) (v : Value) (n : ℕ) (bs : List (ℕ × Value)) → a % 2 ^ w ≡ b % 2 ^ w → stored_bytes w a v n bs ≡ stored_bytes w b v n bs
stored_bytes_same w a b v zero bs e = refl
stored_bytes_same w a b v (suc n) bs e =
    stored_bytes_same w (a + 1) (b + 1) (high_bytes v) n ((a % 2 ^ w, low_byte v) ∷ bs) (next_same w a b 1 e)
    ∙ ap (λ t. stored_bytes w (b + 1) (high_bytes v) n ((t, low_byte v) ∷ bs)) e

pub stored_same : (w a b : ℕ) (ls : List ℕ) (vs : List Value) (bs : List (ℕ × Value)) → a % 2 ^ w ≡ b % 2 ^ w → stored w a ls vs bs ≡ stored w b ls vs bs
stored_same w a b [] vs bs e = refl
stored_same w a b (l ∷ ls) [] bs e = refl
stored_same w a b (l ∷ ls) (v ∷ vs) bs e =
    stored_same w (a + l / 8) (b + l / 8) ls vs (stored_bytes w a v (l / 8) bs) (next_same w a b (l / 8) e)
    ∙ ap (λ t. stored w (b + l / 8) ls vs t) (stored_bytes_same w a b v (l / 8) bs e)

pub stored_none : (w a : ℕ) (ls : List ℕ) (bs : List (ℕ × Value)) → stored w a ls [] bs ≡ bs
stored_none w a [] bs = refl
stored_none w a (l ∷ ls) bs = refl

-- one more lane is loaded
pub load_more : (env : Environment) (o : Outside) (w at more idx : ℕ) (ws : List ℕ) (out : List Value) (lane : Value) → idx < length ws → lane ≡ loaded_bytes env o w at (get_or ws idx 0 / 8) → more % 2 ^ w ≡ (at + get_or ws idx 0 / 8) % 2 ^ w → (out ++ lane ∷ []) ++ loaded env o w more (drop (idx + 1) ws) ≡ out ++ loaded env o w at (drop idx ws)
load_more env o w at more idx ws out lane h e f =
    let next : idx + 1 ≡ suc idx = omega arith in
    append_assoc out (lane ∷ []) (loaded env o w more (drop (idx + 1) ws))
    ∙ (ap (λ t. out ++ (lane ∷ loaded env o w more (drop t ws))) next
    ∙ (ap (λ t. out ++ (lane ∷ t)) (loaded_same env o w more (at + get_or ws idx 0 / 8) (drop (suc idx) ws) f)
    ∙ (ap (λ t. out ++ (t ∷ loaded env o w (at + get_or ws idx 0 / 8) (drop (suc idx) ws))) e
    ∙ ap (λ t. out ++ loaded env o w at t) (sym (drop-cons ws idx 0 h)))))

-- one more lane is stored
pub store_more : (w at more k : ℕ) (ws : List ℕ) (vs : List Value) (bs : List (ℕ × Value)) → k < length ws → k < length vs → more % 2 ^ w ≡ (at + get_or ws k 0 / 8) % 2 ^ w → stored w more (drop (k + 1) ws) (drop (k + 1) vs) (stored_bytes w at (get_or vs k None) (get_or ws k 0 / 8) bs) ≡ stored w at (drop k ws) (drop k vs) bs
store_more w at more k ws vs bs h g e =
    let next : k + 1 ≡ suc k = omega arith in
    ap (λ t. stored w more (drop t ws) (drop t vs) (stored_bytes w at (get_or vs k None) (get_or ws k 0 / 8) bs)) next
    ∙ (stored_same w more (at + get_or ws k 0 / 8) (drop (suc k) ws) (drop (suc k) vs) (stored_bytes w at (get_or vs k None) (get_or ws k 0 / 8) bs) e
    ∙ (ap (λ t. stored w at t (get_or vs k None ∷ drop (suc k) vs) bs) (sym (drop-cons ws k 0 h))
    ∙ ap (λ t. stored w at (drop k ws) t bs) (sym (drop-cons vs k None g))))
