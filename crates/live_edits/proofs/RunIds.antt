-- The ids that a set has once one is inserted, and those of touched instructions.
use Rattle.std.proofs.Common.{◌≡◌, ◌++◌, ◌∙◌, ◌<◌, ◌+◌, ⊎_elim, ℕ, Bool, true, false, cond, List, [], ◌∷◌, take, length, get_or, refl, sym, ap, append-nil, eqb-true, eq-eqb, ◌||◌}
use Rattle.std.specs.Prelude.{nat_eq}
use Rattle.std.specs.BTreeMap.{is_at}
use Rattle.std.specs.List.{list_any}
use Rattle.std.specs.Ordering.{nat_cmp, is_eq, match_ordering}
use Rattle.std.specs.declared.cmp.Ordering.{Ordering}
use Rattle.std.specs.declared.cmp.Ordering.TheVariants.{Less, Equal, Greater}
use Rattle.std.specs.BTreeSet.{insert_key}
use Rattle.std.proofs.lemmas.Map.Lookups.{exact_unsigned}
use Rattle.std.proofs.lemmas.Map.Views.{tells_apart}
use Rattle.mir_meaning.specs.Paths.{has}
use Rattle.slot_index.proofs.Ordered.{cmp_equal}
use Rattle.live_edits.specs.declared.notes.TouchedInstr.{TouchedInstr}
use Rattle.live_edits.specs.Runs.{HasIds}
use Rattle.live_edits.proofs.NotedLists.{taken-cases}

twice : (u h : Bool) → cond u true h ≡ cond u true (cond u true h)
twice true h = refl
twice false h = refl

turned : (u v h : Bool) → cond u true (cond v true h) ≡ cond v true (cond u true h)
turned true true h = refl
turned true false h = refl
turned false true h = refl
turned false false h = refl

pub has-inserted : (keys : List ℕ) (k n : ℕ) → has n (insert_key nat_cmp keys k) ≡ has n (k ∷ keys)
has-inserted [] k n = refl
has-inserted (x ∷ xs) k n = go (nat_cmp k x) refl (has-inserted xs k n)
  where
    go : (r : Ordering) → nat_cmp k x ≡ r → has n (insert_key nat_cmp xs k) ≡ has n (k ∷ xs) → has n (match_ordering r (k ∷ x ∷ xs) (x ∷ xs) (x ∷ insert_key nat_cmp xs k)) ≡ has n (k ∷ x ∷ xs)
    go Less e rest = refl
    go Equal e rest = let same : k ≡ x = exact_unsigned k x e in twice (nat_eq x n) (has n xs) ∙ ap (λ y. cond (nat_eq y n) true (has n (x ∷ xs))) (sym same)
    go Greater e rest = ap (λ h. cond (nat_eq x n) true h) rest ∙ turned (nat_eq x n) (nat_eq k n) (has n xs)

-- the ids that a set has

at-key : (id k : ℕ) → is_eq (nat_cmp id k) ≡ nat_eq k id
at-key id k = go (nat_eq k id) refl
  where
    other : (b : Bool) → is_eq (nat_cmp id k) ≡ b → nat_eq k id ≡ false → b ≡ false
    other true e f =
        let own : nat_eq k k ≡ true = eq-eqb k k refl in
        let none : nat_eq k k ≡ false = ap (λ n. nat_eq k n) (sym (tells_apart exact_unsigned id k e)) ∙ f in
        absurd (let z : true ≡ false = sym own ∙ none in cc)
    other false e f = refl

    go : (b : Bool) → nat_eq k id ≡ b → is_eq (nat_cmp id k) ≡ b
    go true e = ap (λ n. is_eq (nat_cmp id n)) (eqb-true k id e) ∙ ap is_eq (cmp_equal id)
    go false e = other (is_eq (nat_cmp id k)) refl e

pub keys-has : (id : ℕ) (keys : List ℕ) → list_any (is_at (nat_cmp id)) keys ≡ has id keys
keys-has id [] = refl
keys-has id (k ∷ keys) = ap (λ b. b || list_any (is_at (nat_cmp id)) keys) (at-key id k) ∙ go (nat_eq k id) (keys-has id keys)
  where
    go : (b : Bool) → list_any (is_at (nat_cmp id)) keys ≡ has id keys → b || list_any (is_at (nat_cmp id)) keys ≡ cond b true (has id keys)
    go true e = refl
    go false e = e

-- the ids of two lists

pub has-more : (n : ℕ) (xs ys zs : List ℕ) → has n ys ≡ has n zs → has n (xs ++ ys) ≡ has n (xs ++ zs)
has-more n [] ys zs e = e
has-more n (x ∷ xs) ys zs e = ap (λ h. cond (nat_eq x n) true h) (has-more n xs ys zs e)

has-between : (n k : ℕ) (xs ys : List ℕ) → has n (k ∷ xs ++ ys) ≡ has n (xs ++ k ∷ ys)
has-between n k [] ys = refl
has-between n k (x ∷ xs) ys = turned (nat_eq k n) (nat_eq x n) (has n (xs ++ ys)) ∙ ap (λ h. cond (nat_eq x n) true h) (has-between n k xs ys)

pub has-turned : (n : ℕ) (xs ys : List ℕ) → has n (xs ++ ys) ≡ has n (ys ++ xs)
has-turned n [] ys = ap (has n) (sym (append-nil ys))
has-turned n (x ∷ xs) ys = ap (λ h. cond (nat_eq x n) true h) (has-turned n xs ys) ∙ has-between n x ys xs

-- one more touched instruction

pub ids-more : (xs : List TouchedInstr) (k : ℕ) (x : TouchedInstr) (old new : List ℕ) → k < length xs → x ≡ get_or xs k x → HasIds (take k xs) old → ((n : ℕ) → has n new ≡ has n (x.id ∷ old)) → HasIds (take (k + 1) xs) new
ids-more xs k x old new h own so is y m = is y.id ∙ ⊎_elim (λ a. still (nat_eq x.id y.id) (so y a)) (λ e. ap (λ u. cond u true (has y.id old)) (eq-eqb x.id y.id (ap (λ (z : TouchedInstr). z.id) (sym e)))) (taken-cases xs k x h own y m)
  where
    still : (u : Bool) → has y.id old ≡ true → cond u true (has y.id old) ≡ true
    still true e = refl
    still false e = e
