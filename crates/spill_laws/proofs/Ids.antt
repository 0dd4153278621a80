-- The ids of a function after a spill: those that stay, and new ones, each once.
use Rattle.std.proofs.Common.{◌≡◌, ◌<◌, ◌≤◌, ◌+◌, ◌++◌, ◌∙◌, ℕ, suc, Bool, true, false, cond, List, [], ◌∷◌, length, map, flat_map, refl, sym, ap, subst, arith, eqb-true}
use Rattle.std.specs.Prelude.{◌==◌, if◌then◌else◌, nat_lt, None}
use Rattle.std.specs.List.{sum_by, zip}
use Rattle.std.proofs.lemmas.Bool.{ltb-false, ltb-true}
use Rattle.std.proofs.lemmas.List.Sums.{sum_by-append, sum_by-cons}
use Rattle.mir_func.specs.declared.func.Instr.{Instr}
use Rattle.mir_func.specs.declared.func.Block.{Block}
use Rattle.mir_func.specs.Value.{IsFunction, id_count, id_total}
use Rattle.meaning.specs.Live.{Among as Member, here as first, there as later}
use Rattle.mir_func.specs.declared.func.Loc.TheVariants.{Virtual}
use Rattle.spiller.specs.Setting.{Spilling, plain_definition, reload}
use Rattle.spiller.specs.Rematerialised.{places_of}
use Rattle.spiller.specs.Spilled.{Change, Seats, all_changes, block_changes, change, changes, in_place_of, new_ids, numbered_change, seats_from, spilled, spilled_block, tinies_of, with_ids, with_tinies}
use Rattle.spill_laws.proofs.Outcomes.{Outcome, goes, instrs-of, passed, places-whole, repeats, replaced, seated, stays}

abbrev weight : ℕ → Instr → ℕ
weight x i = cond (i.id == x) 1 0

abbrev total : ℕ → Block → ℕ
total x b = id_count x b.instrs

-- of the ids from n on and below m so many are x
record Counts (x n m k : ℕ) : Type 0 where
  pub below : x < n → k ≡ 0
  pub above : m ≤ x → k ≡ 0
  pub once : k ≤ 1

none : (x n m : ℕ) → Counts x n m 0
none x n m = record { below = λ h. refl; above = λ h. refl; once = omega arith }

one : (x n m : ℕ) → m ≡ n + 1 → Counts x n m (cond (n == x) 1 0)
one x n m s = go (n == x) refl
  where
    go : (b : Bool) → (n == x) ≡ b → Counts x n m (cond b 1 0)
    go true e = let same : n ≡ x = eqb-true n x e in record { below = λ h. omega arith; above = λ h. omega arith; once = omega arith }
    go false e = none x n m

both : (x n m p k l : ℕ) → n ≤ m → m ≤ p → Counts x n m k → Counts x m p l → Counts x n p (k + l)
both x n m p k l h g a b = record {
  below = λ s. (let one : k ≡ 0 = a.below s in let two : l ≡ 0 = b.below (omega arith) in omega arith);
  above = λ s. (let one : k ≡ 0 = a.above (omega arith) in let two : l ≡ 0 = b.above s in omega arith);
  once = go (nat_lt x m) refl;
}
  where
    go : (c : Bool) → nat_lt x m ≡ c → k + l ≤ 1
    go true e = let two : l ≡ 0 = b.below (ltb-true x m e) in let one : k ≤ 1 = a.once in omega arith
    go false e = let one : k ≡ 0 = a.above (ltb-false x m e) in let two : l ≤ 1 = b.once in omega arith

module _ (x : ℕ) where
  abbrev count : List Instr → ℕ
  count is = id_count x is

  count-append : (is js : List Instr) → count (is ++ js) ≡ count is + count js
  count-append is js = sum_by-append (weight x) is js

  count-cons : (i : Instr) (is : List Instr) → count (i ∷ is) ≡ weight x i + count is
  count-cons i is = sum_by-cons (weight x) i is

  -- new ids
  new-counts : (n m : ℕ) (is : List Instr) → m ≡ n + length is → Counts x n m (count (with_ids n is))
  new-counts n m [] e = none x n m
  new-counts n m (i ∷ is) e =
      subst (Counts x n m) (sym (count-cons (record i { id = n }) (with_ids (suc n) is)))
      (both x n (suc n) m (weight x (record i { id = n })) (count (with_ids (suc n) is)) (omega arith) (omega arith) (one x n (suc n) (omega arith)) (new-counts (suc n) m is (omega arith)))

  new-long : (n : ℕ) (is : List Instr) → length (with_ids n is) ≡ length is
  new-long n [] = refl
  new-long n (i ∷ is) = ap suc (new-long (suc n) is)

  module _ (s : Spilling) where
    -- the ids of a place stay, or go

    tinies-count : (z : Seats) (is : List Instr) → count (map (with_tinies s z) is) ≡ count is
    tinies-count z [] = refl
    tinies-count z (i ∷ is) = count-cons (with_tinies s z i) (map (with_tinies s z) is) ∙ (ap (λ k. weight x i + k) (tinies-count z is) ∙ sym (count-cons i is))

    own-count : (n c : ℕ) (is : List Instr) (y : Change) → Outcome s n c is y → count y.own ≤ count is
    own-count n c is y (stays k) = omega arith
    own-count n c is y (goes k) = omega arith
    own-count n c is y (replaced {i} {j} k) = omega (arith, count-cons (in_place_of i j) [], count-cons i [])
    own-count n c is y (repeats e g p q r) = omega arith
    own-count n c is y (passed {i} {k} {from} {to} p) = omega (arith, count-cons (in_place_of i (reload s.target k (plain_definition (Virtual c) None) from)) [], count-cons i [])
    own-count n c is y (seated k) = omega (arith, tinies-count (seats_from s c is) is)

    record Grown (n m : ℕ) (is js : List Instr) : Type 0 where
      pub added : ℕ
      pub counts : count js ≤ count is + added
      pub adds : Counts x n m added
      pub further : n ≤ m

    place-grown : (n c : ℕ) (p : List Instr) → Outcome s n c p (change s n c p) → Grown n (n + new_ids (numbered_change s n c p)) p (instrs-of (numbered_change s n c p))
    place-grown n c p h =
        let y = change s n c p in
        let before = with_ids n y.before in
        let behind = with_ids (n + length y.before) y.behind in
        let lb : length before ≡ length y.before = new-long n y.before in
        let lh : length behind ≡ length y.behind = new-long (n + length y.before) y.behind in
        let own : count y.own ≤ count p = own-count n c p y h in
        record {
          added = count before + count behind;
          counts = omega (arith, count-append before (y.own ++ behind), count-append y.own behind, own);
          adds =
              both x n (n + length y.before) (n + (length before + length behind)) (count before) (count behind) (omega arith) (omega arith)
              (new-counts n (n + length y.before) y.before refl) (new-counts (n + length y.before) (n + (length before + length behind)) y.behind (omega arith));
          further = omega arith;
        }

    -- places in order

    places-grown : (n c : ℕ) (ps : List (List Instr)) → ((p : List Instr) → Member p ps → (n c : ℕ) → Outcome s n c p (change s n c p)) → Grown n (n + sum_by new_ids (changes s n c ps)) (flat_map (λ p. p) ps) (flat_map instrs-of (changes s n c ps))
    places-grown n c [] h = record { added = 0; counts = omega arith; adds = none x n (n + 0); further = omega arith }
    places-grown n c (p ∷ ps) h =
        let y = numbered_change s n c p in
        let m = n + new_ids y in
        let d = c + length y.tinies in
        let rest = changes s m d ps in
        let a = place-grown n c p (h p first n c) in
        let b = places-grown m d ps (λ q k. h q (later k)) in
        let all : sum_by new_ids (y ∷ rest) ≡ new_ids y + sum_by new_ids rest = sum_by-cons new_ids y rest in
        record {
          added = a.added + b.added;
          counts = omega (arith, count-append (instrs-of y) (flat_map instrs-of rest), count-append p (flat_map (λ q. q) ps), a.counts, b.counts);
          adds =
              both x n m (n + sum_by new_ids (y ∷ rest)) a.added b.added (omega arith) (omega (arith, all))
              a.adds (subst (λ k. Counts x m k b.added) (omega (arith, all)) b.adds);
          further = omega arith;
        }

    -- blocks in layout

    record Blocks (n m : ℕ) (bs cs : List Block) : Type 0 where
      pub added : ℕ
      pub counts : id_total x cs ≤ id_total x bs + added
      pub adds : Counts x n m added
      pub further : n ≤ m

    abbrev IsOrderly : Block → Type 0
    IsOrderly b = (p : List Instr) → Member p (places_of s.target b) → (n c : ℕ) → Outcome s n c p (change s n c p)

    blocks-grown : (n c : ℕ) (bs : List Block) → ((b : Block) → Member b bs → IsOrderly b) → Blocks n (n + sum_by (sum_by new_ids) (block_changes s n c bs)) bs (map spilled_block (zip bs (block_changes s n c bs)))
    blocks-grown n c [] h = record { added = 0; counts = omega arith; adds = none x n (n + 0); further = omega arith }
    blocks-grown n c (b ∷ bs) h =
        let xs = changes s n c (places_of s.target b) in
        let m = n + sum_by new_ids xs in
        let rest = block_changes s m (c + length (tinies_of xs)) bs in
        let a = places-grown n c (places_of s.target b) (h b first) in
        let old : count (flat_map (λ p. p) (places_of s.target b)) ≡ count b.instrs = ap count (places-whole s.target b.instrs) in
        let z = blocks-grown m (c + length (tinies_of xs)) bs (λ d k. h d (later k)) in
        let all : sum_by (sum_by new_ids) (xs ∷ rest) ≡ sum_by new_ids xs + sum_by (sum_by new_ids) rest = sum_by-cons (sum_by new_ids) xs rest in
        record {
          added = a.added + z.added;
          counts = omega (arith, sum_by-cons (total x) (spilled_block (b, xs)) (map spilled_block (zip bs rest)), sum_by-cons (total x) b bs, a.counts, z.counts, old);
          adds =
              both x n m (n + sum_by (sum_by new_ids) (xs ∷ rest)) a.added z.added (omega arith) (omega (arith, all))
              a.adds (subst (λ k. Counts x m k z.added) (omega (arith, all)) z.adds);
          further = omega arith;
        }

module _ (s : Spilling) (orderly : (b : Block) → Member b s.func.blocks → (p : List Instr) → Member p (places_of s.target b) → (n c : ℕ) → Outcome s n c p (change s n c p)) (is : IsFunction s.func.blocks s.func.next_id) where
  some-block : (n c : ℕ) (bs : List Block) → 0 < length bs → 0 < length (map spilled_block (zip bs (block_changes s n c bs)))
  some-block n c [] h = h
  some-block n c (b ∷ bs) h = omega arith

  bounded : (x n m a k l : ℕ) → n ≤ m → Counts x n m l → a ≤ k + l → k ≤ (if nat_lt x n then 1 else 0) → a ≤ (if nat_lt x m then 1 else 0)
  bounded x n m a k l h d e g = go (nat_lt x n) (nat_lt x m) refl refl g
    where
      go : (p q : Bool) → nat_lt x n ≡ p → nat_lt x m ≡ q → k ≤ (if p then 1 else 0) → a ≤ (if q then 1 else 0)
      go true true y z w = let nothing : l ≡ 0 = d.below (ltb-true x n y) in omega arith
      go true false y z w = absurd (omega (arith, ltb-true x n y, ltb-false x m z))
      go false true y z w = let once : l ≤ 1 = d.once in omega arith
      go false false y z w = let nothing : l ≡ 0 = d.above (ltb-false x m z) in omega arith

  pub spilled-function : IsFunction (spilled s).blocks (spilled s).next_id
  unfolding spilled
  spilled-function = record {
    nonempty = some-block s.func.next_id (length s.func.classes) s.func.blocks is.nonempty;
    once = λ x. (
        let n = s.func.next_id in
        let xs = all_changes s in
        let g = blocks-grown x s n (length s.func.classes) s.func.blocks orderly in
        bounded x n (n + sum_by (sum_by new_ids) xs) (id_total x (map spilled_block (zip s.func.blocks xs))) (id_total x s.func.blocks) g.added g.further g.adds g.counts (is.once x));
  }
