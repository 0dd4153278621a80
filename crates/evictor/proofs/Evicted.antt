-- Which ranges in the way may be evicted, and at what cost.
use Rattle.std.proofs.Common.{◌≡◌, ◌∙◌, ℕ, zero, suc, ◌+◌, ◌<◌, ◌≤◌, List, [], ◌∷◌, ◌++◌, Bool, true, false, cond, refl, sym, ap, arith, map, length, get_or, take, drop}
use Rattle.std.specs.Prelude.{◌&&◌, ◌||◌, ◌==◌, not, nat_lt, max, filter, Option, Some, None, option_map}
use Rattle.std.specs.List.{list_all, fold}
use Rattle.std.proofs.lemmas.Bool.{lt-ltb}
use Rattle.std.proofs.lemmas.List.{drop_more, take_more, take_all, map-append}
use Rattle.std.proofs.lemmas.List.Sums.{fold_push}
use Rattle.std.proofs.lemmas.List.Folds.{list_all-append, list_all_more, list_all_at}
use Rattle.target_base.specs.declared.types.Reg.{Reg}
use Rattle.mir_meaning.specs.Registers.{numbers}
use Rattle.evictor.specs.Cheapest.{Setting, is_tiny, cascade, number, weight, may_lose, clashers, qualifies, cost}
use Rattle.evictor.specs.Settings.{limit, is_within, cost_within, eviction, eviction_of, eviction_at}
use Rattle.evictor.specs.declared.choice.Eviction.{Eviction}
use Rattle.evictor.proofs.Tops.{and_parts, and_true, all_agree}

-- a test of all, element by element

pub all_next : {X : Type 0} (f : X → Bool) (xs : List X) (k : ℕ) (x : X) (total : Bool) → k < length xs → x ≡ get_or xs k x → f x ≡ true → list_all f (drop k xs) ≡ total → list_all f (drop (k + 1) xs) ≡ total
all_next f xs k x total h at passes was =
    let e : list_all f (drop k xs) ≡ (f x && list_all f (drop (k + 1) xs)) = rw (drop_more xs k x h, ← at) refl in
    sym (ap (λ c. c && list_all f (drop (k + 1) xs)) passes) ∙ (sym e ∙ was)

pub all_lost : {X : Type 0} (f : X → Bool) (xs : List X) (k : ℕ) (x : X) (total : Bool) → k < length xs → x ≡ get_or xs k x → f x ≡ false → list_all f (drop k xs) ≡ total → false ≡ total
all_lost f xs k x total h at passes was =
    let e : list_all f (drop k xs) ≡ (f x && list_all f (drop (k + 1) xs)) = rw (drop_more xs k x h, ← at) refl in
    sym (ap (λ c. c && list_all f (drop (k + 1) xs)) passes) ∙ (sym e ∙ was)

pub ruleset alls = (all_next, all_lost)

-- the greatest weight, element by element

abbrev pub IsCost : Option ℕ → (ℕ → ℕ) → List ℕ → ℕ → Type 0
IsCost m weigh ws cost = (list_all (is_within m) (map weigh ws) ≡ true) × (cost ≡ fold max 0 (map weigh ws))

split : (weigh : ℕ → ℕ) (ws : List ℕ) (k : ℕ) → k < length ws → map weigh (take (k + 1) ws) ≡ map weigh (take k ws) ++ weigh (get_or ws k 0) ∷ []
split weigh ws k h = ap (map weigh) (take_more ws k 0 h) ∙ map-append weigh (take k ws) (get_or ws k 0 ∷ [])

pub costs_more : (m : Option ℕ) (weigh : ℕ → ℕ) (ws : List ℕ) (k own cost : ℕ) → k < length ws → own ≡ weigh (get_or ws k 0) → is_within m own ≡ true → IsCost m weigh (take k ws) cost → IsCost m weigh (take (k + 1) ws) (max cost own)
costs_more m weigh ws k own cost h is passes was =
    let n = split weigh ws k h in (
      ap (list_all (is_within m)) n ∙ (list_all-append (is_within m) (map weigh (take k ws)) (weigh (get_or ws k 0) ∷ []) ∙ and_true (list_all (is_within m) (map weigh (take k ws))) (is_within m (weigh (get_or ws k 0)) && true) was.0 (and_true (is_within m (weigh (get_or ws k 0))) true (ap (is_within m) (sym is) ∙ passes) refl)),
      ap (λ c. max c own) was.1 ∙ (ap (max (fold max 0 (map weigh (take k ws)))) is ∙ sym (ap (fold max 0) n ∙ fold_push max 0 (map weigh (take k ws)) (weigh (get_or ws k 0)))),
    )

mapped_at : (weigh : ℕ → ℕ) (ws : List ℕ) (k : ℕ) → k < length ws → (k < length (map weigh ws)) × (get_or (map weigh ws) k 0 ≡ weigh (get_or ws k 0))
mapped_at weigh [] k h = absurd (omega arith)
mapped_at weigh (w ∷ ws) zero h = (omega arith, refl)
mapped_at weigh (w ∷ ws) (suc k) h = let rest = mapped_at weigh ws k (omega arith) in (omega (arith, rest.0), rest.1)

pub costs_lost : (m : Option ℕ) (weigh : ℕ → ℕ) (ws : List ℕ) (k own : ℕ) → k < length ws → own ≡ weigh (get_or ws k 0) → is_within m own ≡ false → None ≡ cost_within m (map weigh ws)
costs_lost m weigh ws k own h is fails =
    let at = mapped_at weigh ws k h in
    sym (ap (λ b. cond b (Some (fold max 0 (map weigh ws))) None) (list_all_at (is_within m) (map weigh ws) k 0 at.0 (ap (is_within m) at.1 ∙ (ap (is_within m) (sym is) ∙ fails))))

pub costs_all : (m : Option ℕ) (weigh : ℕ → ℕ) (ws : List ℕ) (k cost : ℕ) → length ws ≤ k → IsCost m weigh (take k ws) cost → Some cost ≡ cost_within m (map weigh ws)
costs_all m weigh ws k cost h was =
    let all : take k ws ≡ ws = take_all k ws h in
    ap (λ c. Some c) was.1 ∙ (ap (λ (vs : List ℕ). Some (fold max 0 (map weigh vs))) all ∙ sym (ap (λ b. cond b (Some (fold max 0 (map weigh ws))) None) (sym (ap (λ (vs : List ℕ). list_all (is_within m) (map weigh vs)) all) ∙ was.0)))

pub ruleset costs = (costs_more, costs_lost, costs_all)

-- both parts of what a range in the way must be

all_both : {X : Type 0} (p q : X → Bool) (xs : List X) → list_all (λ x. p x && q x) xs ≡ (list_all p xs && list_all q xs)
all_both p q [] = refl
all_both p q (x ∷ xs) = ap (λ b. (p x && q x) && b) (all_both p q xs) ∙ order (p x) (q x) (list_all p xs) (list_all q xs)
  where
    order : (a b c d : Bool) → ((a && b) && (c && d)) ≡ ((a && c) && (b && d))
    order true true c d = refl
    order true false true d = refl
    order true false false d = refl
    order false b c d = refl

all_mapped : {X Y : Type 0} (p : Y → Bool) (g : X → Y) (xs : List X) → list_all p (map g xs) ≡ list_all (λ x. p (g x)) xs
all_mapped p g [] = refl
all_mapped p g (x ∷ xs) = ap (λ b. p (g x) && b) (all_mapped p g xs)

module _ (s : Setting) where
  -- but for its weight
  abbrev pub goes : ℕ → Bool
  goes w = not (is_tiny s.ranking w) && nat_lt (cascade s.ranking w) (number s.ranking s.range)

  pub lighter : (w : ℕ) → (is_tiny s.ranking s.range || nat_lt (weight s w) (weight s s.range)) ≡ is_within (limit s) (weight s w)
  lighter w = go (is_tiny s.ranking s.range)
    where
      go : (b : Bool) → (b || nat_lt (weight s w) (weight s s.range)) ≡ is_within (cond b None (Some (weight s s.range))) (weight s w)
      go true = refl
      go false = refl

  pub goes_lighter : (w : ℕ) → may_lose s w ≡ (goes w && is_within (limit s) (weight s w))
  goes_lighter w = ap (λ b. not (is_tiny s.ranking w) && nat_lt (cascade s.ranking w) (number s.ranking s.range) && b) (lighter w)

  pub all_may : (ws : List ℕ) → list_all (may_lose s) ws ≡ (list_all goes ws && list_all (is_within (limit s)) (map (weight s) ws))
  all_may ws = all_agree (may_lose s) (λ w. goes w && is_within (limit s) (weight s w)) goes_lighter ws ∙ (all_both goes (λ w. is_within (limit s) (weight s w)) ws ∙ ap (λ b. list_all goes ws && b) (sym (all_mapped (is_within (limit s)) (weight s) ws)))

  -- the ranges in the way in a register, where no unit is

  pub may_by : (n : ℕ) (ws : List ℕ) (a : Bool) → n ≡ number s.ranking s.range → a ≡ list_all (λ w. not (is_tiny s.ranking w) && nat_lt (cascade s.ranking w) n) ws → a ≡ list_all goes ws
  may_by n ws a e is = is ∙ ap (λ m. list_all (λ w. not (is_tiny s.ranking w) && nat_lt (cascade s.ranking w) m) ws) e

  pub refused : (r : Reg) (ws : List ℕ) → ws ≡ clashers s r → list_all goes ws ≡ false → None ≡ eviction_at s r
  refused r ws e fails =
      let all : list_all (may_lose s) (clashers s r) ≡ false = ap (list_all (may_lose s)) (sym e) ∙ (all_may ws ∙ ap (λ b. b && list_all (is_within (limit s)) (map (weight s) ws)) fails) in
      sym (ap (λ b. cond b (Some (eviction s r)) None) (ap (λ b. not (s.facts.fixed r) && b) all ∙ none (not (s.facts.fixed r))))
    where
      none : (b : Bool) → (b && false) ≡ false
      none true = refl
      none false = refl

  pub taken : (r : Reg) (ws : List ℕ) (cost : Option ℕ) → ws ≡ clashers s r → s.facts.fixed r ≡ false → list_all goes ws ≡ true → cost ≡ cost_within (limit s) (map (weight s) ws) → option_map (eviction_of r ws) cost ≡ eviction_at s r
  taken r ws cost e free passes is =
      let all : list_all (may_lose s) (clashers s r) ≡ list_all (is_within (limit s)) (map (weight s) ws) = ap (list_all (may_lose s)) (sym e) ∙ (all_may ws ∙ ap (λ b. b && list_all (is_within (limit s)) (map (weight s) ws)) passes) in
      let q : qualifies s r ≡ list_all (is_within (limit s)) (map (weight s) ws) = ap (λ b. not b && list_all (may_lose s) (clashers s r)) free ∙ all in
      ap (option_map (eviction_of r ws)) is ∙ (go (list_all (is_within (limit s)) (map (weight s) ws)) ∙ (ap (λ (vs : List ℕ). cond (list_all (is_within (limit s)) (map (weight s) ws)) (Some (eviction_of r vs (fold max 0 (map (weight s) vs)))) None) e ∙ ap (λ b. cond b (Some (eviction s r)) None) (sym q)))
    where
      go : (b : Bool) → option_map (eviction_of r ws) (cond b (Some (fold max 0 (map (weight s) ws))) None) ≡ cond b (Some (eviction_of r ws (fold max 0 (map (weight s) ws)))) None
      go true = refl
      go false = refl

  pub keeps : (n w own : ℕ) (m : Option ℕ) (a within : Bool) → n ≡ number s.ranking s.range → m ≡ limit s → a ≡ (not (is_tiny s.ranking w) && nat_lt (cascade s.ranking w) n) → a ≡ true → own ≡ weight s w → within ≡ is_within m own → not within ≡ not (may_lose s w)
  keeps n w own m a within e l is passes o i =
      let g : goes w ≡ true = sym (is ∙ ap (λ k. not (is_tiny s.ranking w) && nat_lt (cascade s.ranking w) k) e) ∙ passes in
      ap not (i ∙ (ap (λ x. is_within x own) l ∙ (ap (is_within (limit s)) o ∙ sym (goes_lighter w ∙ ap (λ b. b && is_within (limit s) (weight s w)) g))))

  pub loses : (n w : ℕ) (a : Bool) → n ≡ number s.ranking s.range → a ≡ (not (is_tiny s.ranking w) && nat_lt (cascade s.ranking w) n) → a ≡ false → true ≡ not (may_lose s w)
  loses n w a e is fails =
      let g : goes w ≡ false = sym (is ∙ ap (λ k. not (is_tiny s.ranking w) && nat_lt (cascade s.ranking w) k) e) ∙ fails in
      sym (ap not (goes_lighter w ∙ ap (λ b. b && is_within (limit s) (weight s w)) g))
