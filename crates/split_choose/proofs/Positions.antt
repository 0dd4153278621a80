-- The positions of the blocks of a range.
use Rattle.std.proofs.Common.{◌≡◌, ◌≢◌, ◌∙◌, ◌⊎◌, inl, inr, ℕ, zero, suc, ◌+◌, ◌<◌, ◌≤◌, List, [], ◌∷◌, ◌++◌, Bool, true, false, arith, refl, sym, ap, length, take, map, append_assoc, append-nil, Option, None, Some, eqb}
use Rattle.std.specs.Prelude.{nat_eq, ◌||◌, slice_get, option_map, flat_map}
use Rattle.std.specs.List.{list_any, dedup, Contains}
use Rattle.std.proofs.lemmas.Bool.{cases_eq, eq-eqb, ne_eqb, or_left, or_right}
use Rattle.std.proofs.lemmas.List.{map-append, take_all}
use Rattle.std.proofs.lemmas.List.Kept.{Contains-dedup_nat, Contains-from_dedup}
use Rattle.std.proofs.lemmas.Grind.{flat_map-append}
use Rattle.mir_meaning.specs.Registers.{numbers}
use Rattle.instr_effects.specs.Numbered.{number_in}
use Rattle.instr_effects.specs.declared.owner.Owner.TheVariants as owners
use Rattle.live_lanes.specs.declared.row.Cell.{Cell}
use Rattle.live_lanes.specs.declared.table.Table.{Table}
use Rattle.split_choose.specs.Built.{lane_positions, range_positions}
use Rattle.split_choose.proofs.Building.{numbers_next, take-next, take-last}

module _ (cs : List Cell) (n : ℕ) (base old : List ℕ) (was : old ≡ base ++ map (λ c. c.block) (take n cs)) where
  pub block-added : (p : ℕ) → Some p ≡ option_map (λ c. c.block) (slice_get cs n) → old ++ p ∷ [] ≡ base ++ map (λ c. c.block) (take (n + 1) cs)
  block-added p is = go (slice_get cs n) refl
    where
      go : (o : Option Cell) → slice_get cs n ≡ o → old ++ p ∷ [] ≡ base ++ map (λ (c : Cell). c.block) (take (n + 1) cs)
      go None e = let q : Some p ≡ None = is ∙ ap (option_map (λ (c : Cell). c.block)) e in cc
      go (Some c) e =
          let q : Some p ≡ Some c.block = is ∙ ap (option_map (λ (c : Cell). c.block)) e in
          let same : p ≡ c.block = cc in
          ap (λ xs. xs ++ p ∷ []) was
          ∙ (append_assoc base (map (λ (c : Cell). c.block) (take n cs)) (p ∷ [])
          ∙ (ap (λ m. base ++ (map (λ (c : Cell). c.block) (take n cs) ++ m ∷ [])) same
          ∙ ap (λ xs. base ++ xs) (sym (ap (map (λ (c : Cell). c.block)) (take-next cs n c e) ∙ map-append (λ (c : Cell). c.block) (take n cs) (c ∷ [])))))

  pub block-missing : None ≡ option_map (λ c. c.block) (slice_get cs n) → old ≡ base ++ map (λ c. c.block) (take (n + 1) cs)
  block-missing is = go (slice_get cs n) refl
    where
      go : (o : Option Cell) → slice_get cs n ≡ o → old ≡ base ++ map (λ (c : Cell). c.block) (take (n + 1) cs)
      go (Some c) e = let q : None ≡ Some c.block = is ∙ ap (option_map (λ (c : Cell). c.block)) e in cc
      go None e = was ∙ ap (λ xs. base ++ map (λ (c : Cell). c.block) xs) (sym (take-last cs n e))

pub blocks-all : (cs : List Cell) (n : ℕ) (base old : List ℕ) → length cs ≤ n → old ≡ base ++ map (λ c. c.block) (take n cs) → old ≡ base ++ map (λ c. c.block) cs
blocks-all cs n base old h was = was ∙ ap (λ xs. base ++ map (λ (c : Cell). c.block) xs) (take_all n cs h)

module _ (x : Table) (v n : ℕ) (old : List ℕ) (was : old ≡ range_positions x v n) where
  pub lane-added : (o : Option ℕ) → o ≡ number_in x.lanes (owners.Range v n) → old ++ lane_positions x o ≡ range_positions x v (n + 1)
  lane-added o is =
      let f : ℕ → List ℕ = λ j. lane_positions x (number_in x.lanes (owners.Range v j)) in
      ap (λ xs. xs ++ lane_positions x o) was
      ∙ (ap (λ xs. range_positions x v n ++ xs) (ap (lane_positions x) is ∙ sym (append-nil (f n)))
      ∙ sym (ap (flat_map f) (numbers_next n) ∙ flat_map-append f (numbers 0 n) (n ∷ [])))

  pub lane-missing : None ≡ number_in x.lanes (owners.Range v n) → old ≡ range_positions x v (n + 1)
  lane-missing is = sym (append-nil old) ∙ lane-added None is

-- members

pub both-ways : (a b : Bool) → (a ≡ true → b ≡ true) → (b ≡ true → a ≡ true) → a ≡ b
both-ways true true f g = refl
both-ways true false f g = sym (f refl)
both-ways false true f g = g refl
both-ways false false f g = refl

pub contained : (xs : List ℕ) (k : ℕ) → list_any (nat_eq k) xs ≡ true → Contains xs k
contained [] k h = absurd (cc)
contained (x ∷ xs) k h = go (cases_eq k x) (contained xs k)
  where
    go : (k ≡ x) ⊎ (k ≢ x) → (list_any (nat_eq k) xs ≡ true → Contains xs k) → Contains (x ∷ xs) k
    go (inl e) ih = (0, omega arith, sym e)
    go (inr d) ih = let r = ih (sym (ap (λ b. b || list_any (nat_eq k) xs) (ne_eqb k x d)) ∙ h) in (suc r.0, (let z : r.0 < length xs = r.1 in omega arith), r.2)

pub found-in : (xs : List ℕ) (k : ℕ) → Contains xs k → list_any (nat_eq k) xs ≡ true
found-in [] k c = absurd (let h : c.0 < 0 = c.1 in omega arith)
found-in (x ∷ xs) k (zero, h, e) = or_left (nat_eq k x) (list_any (nat_eq k) xs) (eq-eqb k x (sym e))
found-in (x ∷ xs) k (suc j, h, e) = or_right (nat_eq k x) (list_any (nat_eq k) xs) (found-in xs k (j, omega arith, e))

pub any-dedup : (xs : List ℕ) (k : ℕ) → list_any (nat_eq k) (dedup eqb xs) ≡ list_any (nat_eq k) xs
any-dedup xs k = both-ways (list_any (nat_eq k) (dedup eqb xs)) (list_any (nat_eq k) xs) (λ h. found-in xs k (Contains-from_dedup eqb xs k (contained (dedup eqb xs) k h))) (λ h. found-in (dedup eqb xs) k (Contains-dedup_nat xs k (contained xs k h)))
