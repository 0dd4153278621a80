-- Steps and ends of loops that add to a list.
use Rattle.std.proofs.Common.{◌≡◌, ◌<◌, ◌≤◌, ℕ, zero, suc, ◌+◌, List, [], ◌∷◌, ◌++◌, length, get_or, take, drop, map, flat_map, refl, sym, ap, ◌∙◌, append_assoc, arith, Some, None, ℤ, pos, drop_of_length-le}
use Rattle.std.proofs.lemmas.List.{map_more, flat_map_more, take_more, take_all, at_drop_more}
use Rattle.mir_meaning.specs.Registers.{numbers}
use Rattle.mir_func.specs.Binding.{immediate_of, as_immediate}
use Rattle.mir_func.specs.declared.func.Operand.{Operand}
use Rattle.mir_func.specs.declared.func.Operand.TheVariants as operands

pub mapped_more : {X Y : Type 0} (f : X → Y) (start now : List Y) (xs : List X) (i : ℕ) (x : X) → i < length xs → x ≡ get_or xs i x → now ≡ start ++ map f (take i xs) → now ++ f x ∷ [] ≡ start ++ map f (take (i + 1) xs)
mapped_more f start now xs i x h e so =
    ap (λ t. t ++ f x ∷ []) so ∙ append_assoc start (map f (take i xs)) (f x ∷ [])
    ∙ ap (λ t. start ++ t) (ap (λ y. map f (take i xs) ++ f y ∷ []) e ∙ sym (map_more f xs i x h))

pub mapped_all : {X Y : Type 0} (f : X → Y) (start now : List Y) (xs : List X) (i : ℕ) → length xs ≤ i → now ≡ start ++ map f (take i xs) → now ≡ start ++ map f xs
mapped_all f start now xs i h so = so ∙ ap (λ t. start ++ map f t) (take_all i xs h)

pub gathered_more : {X Y : Type 0} (f : X → List Y) (start now : List Y) (xs : List X) (i : ℕ) (x : X) → i < length xs → x ≡ get_or xs i x → now ≡ start ++ flat_map f (take i xs) → now ++ f x ≡ start ++ flat_map f (take (i + 1) xs)
gathered_more f start now xs i x h e so =
    ap (λ t. t ++ f x) so ∙ flat_map_more f start (take i xs) x
    ∙ ap (λ t. start ++ flat_map f t) (ap (λ y. take i xs ++ y ∷ []) e ∙ sym (take_more xs i x h))

pub gathered_all : {X Y : Type 0} (f : X → List Y) (start now : List Y) (xs : List X) (i : ℕ) → length xs ≤ i → now ≡ start ++ flat_map f (take i xs) → now ≡ start ++ flat_map f xs
gathered_all f start now xs i h so = so ∙ ap (λ t. start ++ flat_map f t) (take_all i xs h)

pub numbers_end : (n k : ℕ) → numbers n (suc k) ≡ numbers n k ++ (n + k) ∷ []
numbers_end n zero = let e : n ≡ n + 0 = omega arith in ap (λ m. m ∷ []) e
numbers_end n (suc k) = let e : suc n + k ≡ n + suc k = omega arith in ap (λ t. n ∷ t) (numbers_end (suc n) k) ∙ ap (λ m. n ∷ (numbers (suc n) k ++ m ∷ [])) e

map_join : {X Y : Type 0} (f : X → Y) (xs ys : List X) → map f (xs ++ ys) ≡ map f xs ++ map f ys
map_join f [] ys = refl
map_join f (x ∷ xs) ys = ap (λ t. f x ∷ t) (map_join f xs ys)

pub numbered_more : {Y : Type 0} (f : ℕ → Y) (k : ℕ) → map f (numbers 0 (k + 1)) ≡ map f (numbers 0 k) ++ f k ∷ []
numbered_more f k =
    let s : k + 1 ≡ suc k = omega arith in
    let z : 0 + k ≡ k = omega arith in
    ap (λ n. map f (numbers 0 n)) s ∙ ap (map f) (numbers_end 0 k) ∙ map_join f (numbers 0 k) ((0 + k) ∷ []) ∙ ap (λ n. map f (numbers 0 k) ++ f n ∷ []) z

-- lanes that are given sources

pub get-same : {X : Type 0} (xs : List X) (k : ℕ) (d e : X) → k < length xs → get_or xs k d ≡ get_or xs k e
get-same [] k d e h = absurd (omega arith)
get-same (x ∷ xs) zero d e h = refl
get-same (x ∷ xs) (suc k) d e h = get-same xs k d e (omega arith)

pub joined : {X : Type 0} (a b c x y : List X) → b ≡ a ++ x → c ≡ b ++ y → c ≡ a ++ (x ++ y)
joined a b c x y e f = f ∙ ap (λ t. t ++ y) e ∙ append_assoc a x y

-- the first immediate

some-same : {X : Type 0} (x y : X) → Some x ≡ Some y → x ≡ y
some-same x y e = cc

skip_immediate : (o : Operand) (os : List Operand) → as_immediate o ≡ None → immediate_of (o ∷ os) ≡ immediate_of os
skip_immediate (operands.Imm z) os e = absurd (cc)
skip_immediate o os e = refl

take_immediate : (o : Operand) (os : List Operand) (z : ℤ) → as_immediate o ≡ Some z → immediate_of (o ∷ os) ≡ z
take_immediate (operands.Imm y) os z e = let h : y ≡ z = some-same y z e in h
take_immediate (operands.Reg r) os z e = absurd (cc)
take_immediate (operands.Block n) os z e = absurd (cc)
take_immediate (operands.Stack n) os z e = absurd (cc)
take_immediate (operands.FixedStack n) os z e = absurd (cc)
take_immediate (operands.Symbol name) os z e = absurd (cc)
take_immediate (operands.Index x) os z e = absurd (cc)
take_immediate (operands.Mask m) os z e = absurd (cc)

pub immediate_more : (os : List Operand) (k : ℕ) (o : Operand) → k < length os → o ≡ get_or os k o → as_immediate o ≡ None → immediate_of (drop k os) ≡ immediate_of os → immediate_of (drop (k + 1) os) ≡ immediate_of os
immediate_more os k o h e n so = sym (at_drop_more immediate_of os k o h ∙ ap (λ x. immediate_of (x ∷ drop (k + 1) os)) (sym e) ∙ skip_immediate o (drop (k + 1) os) n) ∙ so

pub immediate_found : (os : List Operand) (k : ℕ) (o : Operand) (z : ℤ) → k < length os → o ≡ get_or os k o → as_immediate o ≡ Some z → immediate_of (drop k os) ≡ immediate_of os → z ≡ immediate_of os
immediate_found os k o z h e n so = sym (take_immediate o (drop (k + 1) os) z n) ∙ sym (at_drop_more immediate_of os k o h ∙ ap (λ x. immediate_of (x ∷ drop (k + 1) os)) (sym e)) ∙ so

pub immediate_none : (os : List Operand) (k : ℕ) → length os ≤ k → immediate_of (drop k os) ≡ immediate_of os → pos 0 ≡ immediate_of os
immediate_none os k h so = sym (ap immediate_of (drop_of_length-le os h)) ∙ so
