-- A text that is cut at a byte, and the words of a line.
use Rattle.std.proofs.Common.{◌≡◌, ℕ, ◌<◌, ◌≤◌, ◌+◌, ◌-◌, ◌*◌, List, [], ◌∷◌, length, take, drop, Some, None, Bool, true, false, refl, ap, sym, ◌∙◌, arith, suc, cond, ltb, min, get_or, length-drop, take_all}
use Rattle.std.specs.Prelude.{◌==◌, filter}
use Rattle.std.specs.List.{onto_first, before_first, after_first, position, position_or_len}
use Rattle.std.proofs.lemmas.List.{drop-drop, drop_more}
use Rattle.std.proofs.lemmas.Grind.{common_steps}
use Rattle.target_desc.specs.Text.{parts, words, is_filled, value_from, number}

front_more : (b n : ℕ) (bs : List ℕ) → take (1 + n) (b ∷ bs) ≡ b ∷ take n bs
front_more b n bs = let e : 1 + n ≡ suc n = omega arith in rw e refl

back_more : (b n : ℕ) (bs : List ℕ) → drop (1 + n + 1) (b ∷ bs) ≡ drop (n + 1) bs
back_more b n bs = let e : 1 + n + 1 ≡ suc (n + 1) = omega arith in rw e refl

part_step : (end b : ℕ) (bs : List ℕ) (hit : Bool) → (b == end) ≡ hit → parts end (b ∷ bs) ≡ before_first (λ c. c == end) (b ∷ bs) ∷ parts end (after_first (λ c. c == end) (b ∷ bs))
unfolding parts
part_step end b bs true e = rw e refl
part_step end b [] false e = rw e refl
part_step end b (c ∷ cs) false e =
    let n = position_or_len (λ x. x == end) (c ∷ cs) in
    rw e (ap (onto_first b) (part_step end c cs (c == end) refl) ∙ (λ i. sym (front_more b n (c ∷ cs)) i ∷ parts end (sym (back_more b n (c ∷ cs)) i)))

-- the parts of a text: the first, and those of what stands behind it
pub parts_first : (end : ℕ) (bs : List ℕ) → 0 < length bs → parts end bs ≡ before_first (λ c. c == end) bs ∷ parts end (after_first (λ c. c == end) bs)
parts_first end [] h = absurd (omega arith)
parts_first end (b ∷ bs) h = part_step end b bs (b == end) refl

pub parts_none : (end : ℕ) (bs : List ℕ) → length bs ≡ 0 → parts end bs ≡ []
unfolding parts
parts_none end [] h = refl
parts_none end (b ∷ bs) h = absurd (omega arith)

is_place : (q n i : ℕ) → cond (ltb q n) (Some q) None ≡ Some i → (q ≡ i) × (q < n)
is_place q n i h = grind (arith, common_steps)

pub cut_there : (end : ℕ) (bs : List ℕ) (k : ℕ) → position (λ c. c == end) bs ≡ Some k → (take k bs ≡ before_first (λ c. c == end) bs) × (drop (k + 1) bs ≡ after_first (λ c. c == end) bs) × (k < length bs)
cut_there end bs k h =
    let n = position_or_len (λ c. c == end) bs in
    let place = is_place n (length bs) k h in
    (ap (λ m. take m bs) (sym place.0), ap (λ m. drop (m + 1) bs) (sym place.0), omega (arith, place.0, place.1))

-- what `&back[1..]` is after a split at k
pub rest_is : (bs : List ℕ) (k : ℕ) → take (length (drop k bs) - 1) (drop 1 (drop k bs)) ≡ drop (k + 1) bs
rest_is bs k = rw (drop-drop 1 k bs) (take_all _ (drop (k + 1) bs) (omega (arith, length-drop k bs, length-drop (k + 1) bs)))

pub words_none : (line : List ℕ) → length line ≡ 0 → words line ≡ []
words_none line h = ap (filter is_filled) (parts_none 32 line h)

-- digits that follow make a number no smaller
pub value_grows : (n : ℕ) (bs : List ℕ) → n ≤ value_from n bs
value_grows n [] = omega arith
value_grows n (b ∷ bs) = let h = value_grows (n * 10 + (b - 48)) bs in omega (arith, h)

pub number_past : (n v : ℕ) → 255 < n → n ≤ v → 255 ≡ min 255 v
number_past n v h e = grind (arith, common_steps)

-- a number that has grown past 255
pub number_over : (word : List ℕ) (n i x : ℕ) → value_from 0 word ≡ value_from n (drop i word) → i < length word → x ≡ n * 10 + (get_or word i 0 - 48) → 255 < x → 255 ≡ number word
number_over word n i x same h e past =
    let step : value_from n (drop i word) ≡ value_from (n * 10 + (get_or word i 0 - 48)) (drop (i + 1) word) = ap (value_from n) (drop_more word i 0 h) in
    let grows = value_grows (n * 10 + (get_or word i 0 - 48)) (drop (i + 1) word) in
    number_past x (value_from 0 word) past (rw (same, step, e) grows)
