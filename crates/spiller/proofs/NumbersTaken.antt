-- The numbers that a set has while lists of them are added.
use Rattle.std.proofs.Common.{◌≡◌, ◌∙◌, ◌<◌, ◌+◌, ℕ, Bool, true, false, ◌||◌, List, [], ◌∷◌, ◌++◌, take, length, get_or, refl, sym, ap, add-one, arith}
use Rattle.std.specs.Prelude.{nat_eq, flat_map, filter_map, Option, Some, None}
use Rattle.std.specs.List.{cons_option}
use Rattle.std.specs.Ordering.{nat_cmp, match_ordering}
use Rattle.std.specs.declared.cmp.Ordering.{Ordering}
use Rattle.std.specs.declared.cmp.Ordering.TheVariants.{Less, Equal, Greater}
use Rattle.std.specs.BTreeSet.{insert_key}
use Rattle.std.proofs.Math.Bool.{or-false}
use Rattle.std.proofs.Math.Seq.{take-suc, take-length}
use Rattle.std.proofs.lemmas.Grind.{flat_map-append}
use Rattle.std.proofs.lemmas.List.Folds.{list_any-append}
use Rattle.std.proofs.lemmas.Map.Lookups.{exact_unsigned}
use Rattle.mir_meaning.specs.Registers.{numbers, has_number}
use Rattle.interference.proofs.Marked.{numbers-cat}
use Rattle.spiller.proofs.Basics.{or-swapped, or-twice}

behind : (a b c : Bool) → (a || (b || c)) ≡ ((b || a) || c)
behind true true c = refl
behind true false c = refl
behind false true c = refl
behind false false c = refl

pub inserted : (keys : List ℕ) (k n : ℕ) → has_number (insert_key nat_cmp keys k) n ≡ (nat_eq n k || has_number keys n)
inserted [] k n = refl
inserted (x ∷ xs) k n = go (nat_cmp k x) refl (inserted xs k n)
  where
    go : (r : Ordering) → nat_cmp k x ≡ r → has_number (insert_key nat_cmp xs k) n ≡ (nat_eq n k || has_number xs n) → has_number (match_ordering r (k ∷ x ∷ xs) (x ∷ xs) (x ∷ insert_key nat_cmp xs k)) n ≡ (nat_eq n k || has_number (x ∷ xs) n)
    go Less e rest = refl
    go Equal e rest = let same : k ≡ x = exact_unsigned k x e in or-twice (nat_eq n x) (has_number xs n) ∙ ap (λ y. nat_eq n y || has_number (x ∷ xs) n) (sym same)
    go Greater e rest = ap (λ h. nat_eq n x || h) rest ∙ or-swapped (nat_eq n x) (nat_eq n k) (has_number xs n)

-- the set new has these numbers and those of the set old
abbrev pub Adds : List ℕ → List ℕ → List ℕ → Type 0
Adds old added new = (n : ℕ) → has_number new n ≡ (has_number added n || has_number old n)

taken-more : {X : Type 0} (f : X → List ℕ) (xs : List X) (k : ℕ) (x : X) → k < length xs → x ≡ get_or xs k x → flat_map f (take (k + 1) xs) ≡ flat_map f (take k xs) ++ f x
taken-more {X = X} f xs k x h e =
    ap (λ j. flat_map f (take j xs)) (add-one k)
    ∙ ap (flat_map f) (take-suc xs k x h)
    ∙ flat_map-append f (take k xs) (get_or xs k x ∷ [])
    ∙ ap (λ ns. flat_map f (take k xs) ++ ns) (flat_map-one (get_or xs k x) ∙ ap f (sym e))
  where
    flat_map-one : (y : X) → flat_map f (y ∷ []) ≡ f y
    flat_map-one y = append-none (f y)
      where
        append-none : (ns : List ℕ) → ns ++ [] ≡ ns
        append-none [] = refl
        append-none (n ∷ ns) = ap (λ ms. n ∷ ms) (append-none ns)

-- the numbers of one more element
pub adds-more : {X : Type 0} (f : X → List ℕ) (xs : List X) (k : ℕ) (x : X) (old was new : List ℕ) → k < length xs → x ≡ get_or xs k x → Adds old (flat_map f (take k xs)) was → Adds was (f x) new → Adds old (flat_map f (take (k + 1) xs)) new
adds-more f xs k x old was new h e so is n =
    let ys = flat_map f (take k xs) in
    is n
    ∙ ap (λ b. has_number (f x) n || b) (so n)
    ∙ behind (has_number (f x) n) (has_number ys n) (has_number old n)
    ∙ ap (λ b. b || has_number old n) (sym (ap (λ ns. has_number ns n) (taken-more f xs k x h e) ∙ list_any-append (nat_eq n) ys (f x)))

pub adds-all : {X : Type 0} (f : X → List ℕ) (xs : List X) (k : ℕ) (old new : List ℕ) → k ≡ length xs → Adds old (flat_map f (take k xs)) new → Adds old (flat_map f xs) new
adds-all f xs k old new e so n = so n ∙ ap (λ ys. has_number (flat_map f ys) n || has_number old n) (ap (λ j. take j xs) e ∙ take-length xs)

-- a number alone
pub adds-one : (old new : List ℕ) (k : ℕ) → ((n : ℕ) → has_number new n ≡ (nat_eq n k || has_number old n)) → Adds old (k ∷ []) new
adds-one old new k is n = is n ∙ ap (λ b. b || has_number old n) (sym (or-false (nat_eq n k)))

-- one kind of list for another
pub adds-same : (added others old new : List ℕ) → added ≡ others → Adds old added new → Adds old others new
adds-same added others old new e is = λ n. is n ∙ ap (λ ns. has_number ns n || has_number old n) e

pub one-by-one : {X : Type 0} (h : X → Option ℕ) (xs : List X) → flat_map (λ x. filter_map h (x ∷ [])) xs ≡ filter_map h xs
one-by-one h [] = refl
one-by-one h (x ∷ xs) = go (h x) (one-by-one h xs)
  where
    go : (r : Option ℕ) → flat_map (λ x. filter_map h (x ∷ [])) xs ≡ filter_map h xs → cons_option r [] ++ flat_map (λ x. filter_map h (x ∷ [])) xs ≡ cons_option r (filter_map h xs)
    go None e = e
    go (Some n) e = ap (λ ns. n ∷ ns) e

pub adds-both : (xs ys was new : List ℕ) → Adds [] xs was → Adds was ys new → (n : ℕ) → has_number new n ≡ has_number (xs ++ ys) n
adds-both xs ys was new a b n =
    b n ∙ ap (λ h. has_number ys n || h) (a n) ∙ behind (has_number ys n) (has_number xs n) false ∙ or-false (has_number xs n || has_number ys n)
    ∙ sym (list_any-append (nat_eq n) xs ys)

-- one more number
pub numbers-more : (k : ℕ) (made new : List ℕ) → made ≡ numbers 0 k → new ≡ made ++ k ∷ [] → new ≡ numbers 0 (k + 1)
numbers-more k made new so is = is ∙ ap (λ ns. ns ++ k ∷ []) so ∙ sym (numbers-cat 0 k 1 ∙ ap (λ j. numbers 0 k ++ j ∷ []) (zero-on k))
  where
    zero-on : (k : ℕ) → 0 + k ≡ k
    zero-on k = omega arith
