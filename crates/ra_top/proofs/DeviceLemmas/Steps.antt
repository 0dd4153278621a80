-- What is kept of scanned bytes goes with their lines.
use Rattle.std.proofs.Common.{◌≡◌, ◌==◌, ℕ, ◌<◌, ◌≤◌, ◌+◌, ◌-◌, Bool, true, false, List, [], ◌∷◌, ◌++◌, length, take, fold, ◌⊎◌, inl, inr, length-take, refl, ap, sym, ◌∙◌, arith, min, nat_le, nat_lt, length-append, suc, zero, append-nil}
use Rattle.std.specs.Prelude.{◌&&◌, ◌||◌, if◌then◌else◌}
use Rattle.std.specs.List.{list_all}
use Rattle.std.proofs.lemmas.List.{take-take}
use Rattle.std.proofs.lemmas.Bool.{cases_lt}
use Rattle.std.proofs.lemmas.List.Folds.{list_all-append}
use Rattle.std.proofs.lemmas.List.Sums.{fold-append}
use Rattle.std.proofs.lemmas.Grind.{common_steps}
use Rattle.std.proofs.lemmas.Bool.Decides.{nat_tests}
use Rattle.ra_top.specs.declared.devices.pieces.PieceScan.{PieceScan}
use Rattle.ra_top.specs.Devices.Pieces.{Lines, no_lines, with_byte, lines_of, end_document, is_whole, held_most}
use Rattle.ra_top.specs.Devices.Scan.{scan_step, scan_of}

three : (n : ℕ) → nat_le 3 (min 4 n) ≡ nat_le 3 n
three n = grind (arith, nat_tests, common_steps)

just_three : (n : ℕ) → (min 4 n == 3) ≡ (n == 3)
just_three n = grind (arith, nat_tests, common_steps)

one_more : (n : ℕ) → min 4 (n + 1) ≡ (if nat_lt (min 4 n) 4 then min 4 n + 1 else 4)
one_more n = grind (arith, nat_tests, common_steps)

not_empty : (xs : List ℕ) (b : ℕ) (t : Bool) → (length (xs ++ b ∷ []) == 0 && t) ≡ false
not_empty xs b t = rw (length-append xs (b ∷ [])) (grind (arith, nat_tests, common_steps))

len_more : (xs : List ℕ) (b : ℕ) → length (xs ++ b ∷ []) ≡ length xs + 1
len_more xs b = length-append xs (b ∷ [])

and_true : (p q : Bool) → (p && (q && true)) ≡ (p && q)
and_true true true = refl
and_true true false = refl
and_true false q = refl

all_more : (p : ℕ → Bool) (xs : List ℕ) (b : ℕ) → list_all p (xs ++ b ∷ []) ≡ (list_all p xs && p b)
all_more p xs b = list_all-append p xs (b ∷ []) ∙ and_true (list_all p xs) (p b)

and_one : (p : Bool) → (p && true) ≡ p
and_one true = refl
and_one false = refl

one_and : (a p : Bool) → (a && (p && true)) ≡ ((a && true) && p)
one_and true p = and_one p
one_and false p = refl

two_and : (a c p : Bool) → (a && (c && (p && true))) ≡ ((a && (c && true)) && p)
two_and true c p = one_and c p
two_and false c p = refl

and_any : (a t p : Bool) → t ≡ true → a ≡ (a && (t || p))
and_any true t p e = rw e refl
and_any false t p e = refl

long : (n : ℕ) → nat_le 3 (suc (suc (suc n))) ≡ true
long n = grind (arith, nat_tests, common_steps)

front_more : (p : ℕ → Bool) (xs : List ℕ) (b : ℕ) → list_all p (take 3 (xs ++ b ∷ [])) ≡ (list_all p (take 3 xs) && (nat_le 3 (length xs) || p b))
front_more p [] b = and_one (p b)
front_more p (x ∷ []) b = one_and (p x) (p b)
front_more p (x ∷ y ∷ []) b = two_and (p x) (p y) (p b)
front_more p (x ∷ y ∷ z ∷ xs) b = and_any (list_all p (x ∷ y ∷ z ∷ [])) _ (p b) (long (length xs))

step_by : (l : Lines) (b : ℕ) (hit : Bool) → (b == 10) ≡ hit → scan_of (with_byte l b) ≡ scan_step (scan_of l) b
step_by l b true e = rw e (rw (three (length l.last), just_three (length l.last)) refl)
step_by l b false e =
    let n = length l.last in
    rw e (rw (three n, not_empty l.last b (end_document l.ended), len_more l.last b, one_more n, all_more (λ c. c == 46) l.last b, front_more (λ c. c == 45) l.last b) refl)

pub step_more : (l : Lines) (b : ℕ) → scan_of (with_byte l b) ≡ scan_step (scan_of l) b
step_more l b = step_by l b (b == 10) refl

pub scan_more : (l : Lines) (bs : List ℕ) → fold scan_step (scan_of l) bs ≡ scan_of (fold with_byte l bs)
scan_more l [] = refl
scan_more l (b ∷ bs) = ap (λ s. fold scan_step s bs) (sym (step_more l b)) ∙ scan_more (with_byte l b) bs

-- the scan of a text that goes on
pub scanned : (text bs : List ℕ) → fold scan_step (scan_of (lines_of text)) bs ≡ scan_of (lines_of (text ++ bs))
unfolding lines_of
scanned text bs = scan_more (lines_of text) bs ∙ ap scan_of (sym (fold-append with_byte no_lines text bs))

pub scan_of_none : (text : List ℕ) (s : PieceScan) → text ≡ [] → s ≡ record { begun = false; len = 0; dashes = true; dots = true; whole = false } → (length text ≤ held_most) × (s ≡ scan_of (lines_of text))
unfolding lines_of
scan_of_none text s none e = (rw none (omega arith), e ∙ rw none refl)

-- the scan of the text that is held, with a beginning of more bytes
pub held_scan : (text bs more : List ℕ) (s t : PieceScan) (n : ℕ) → s ≡ scan_of (lines_of text) → t ≡ fold scan_step s (take n bs) → more ≡ text ++ take n bs → t ≡ scan_of (lines_of more)
held_scan text bs more s t n is after e = after ∙ ap (λ x. fold scan_step x (take n bs)) is ∙ scanned text (take n bs) ∙ ap (λ m. scan_of (lines_of m)) (sym e)

-- no shorter beginning is whole
pub none_scanned : (text bs : List ℕ) (s : PieceScan) (n : ℕ) → s ≡ scan_of (lines_of text) → is_whole text ≡ false → ((j : ℕ) → 0 < j → j < n → (fold scan_step s (take j bs)).whole ≡ false) → (j : ℕ) → j < n → is_whole (text ++ take j bs) ≡ false
none_scanned text bs s n is none first zero below = rw (append-nil text) none
none_scanned text bs s n is none first (suc j) below =
    let known = first (suc j) (omega arith) below in
    let same : (fold scan_step s (take (suc j) bs)).whole ≡ is_whole (text ++ take (suc j) bs) = ap (λ x. x.whole) (ap (λ x. fold scan_step x (take (suc j) bs)) is ∙ scanned text (take (suc j) bs)) in
    sym same ∙ known

-- how many bytes fit
abbrev pub Fitting : List ℕ → List ℕ → ℕ → Type 0
Fitting text bytes m = (m ≡ min (held_most - length text) (length bytes)) × (length text ≤ held_most)

pub fed_within : (text bytes more : List ℕ) (n m : ℕ) → Fitting text bytes m → n ≤ length (take m bytes) → more ≡ text ++ take n (take m bytes) → length more ≤ held_most
fed_within text bytes more n m f h e = rw e (omega (arith, f.0, f.1, h, length-append text (take n (take m bytes)), length-take n (take m bytes), length-take m bytes))

pub fed_end : (text bytes more : List ℕ) (n m : ℕ) → Fitting text bytes m → n ≡ length (take m bytes) → more ≡ text ++ take n (take m bytes) → (n ≡ length bytes) ⊎ (length more ≡ held_most)
fed_end text bytes more n m f h e =
    let len = ap length e ∙ length-append text (take n (take m bytes)) in
    elim (cases_lt (held_most - length text) (length bytes)) [
      | inl l ↦ inr (omega (arith, f.0, f.1, h, l, len, length-take n (take m bytes), length-take m bytes))
      | inr l ↦ inl (omega (arith, f.0, f.1, h, l, length-take m bytes))
    ]

pub fed_take : (bytes : List ℕ) (n m j : ℕ) → n ≤ length (take m bytes) → j ≤ n → take j (take m bytes) ≡ take j bytes
fed_take bytes n m j h below = take-take j m bytes (omega (arith, h, below, length-take m bytes))
