-- Whether a range is live at a block's border, cell by cell and lane by lane.
use Rattle.std.proofs.Common.{◌≡◌, ◌∙◌, ◌⊎◌, inl, inr, ℕ, zero, suc, ◌+◌, ◌<◌, ◌≤◌, List, [], ◌∷◌, Bool, true, false, cond, refl, sym, ap, length, take, arith, Option, None, Some, add-one}
use Rattle.std.specs.Prelude.{nat_lt, slice_get, option_map}
use Rattle.std.specs.List.{list_any}
use Rattle.std.proofs.lemmas.Bool.{or_from, or_left, or_parts, or_right, lt-ltb, ltb-true, cases_lt, true≢false}
use Rattle.std.proofs.lemmas.List.{take_all}
use Rattle.instr_effects.specs.declared.row.LaneSpan.{LaneSpan}
use Rattle.instr_effects.specs.Numbers.{row_number_in}
use Rattle.live_lanes.specs.declared.row.Cell.{Cell}
use Rattle.live_lanes.specs.Extents.{lanes_count}
use Rattle.live_lanes.specs.Touching.{some_below, some_of}
use Rattle.split_choose.specs.Blocks.{some_at}

module _ (g : ℕ → Bool) where
  here-any : (cs : List Cell) (k : ℕ) → some_at g (option_map (λ c. c.block) (slice_get cs k)) ≡ true → list_any (λ c. g c.block) cs ≡ true
  here-any [] k h = absurd (true≢false (sym h))
  here-any (c ∷ cs) zero h = or_left (g c.block) (list_any (λ d. g d.block) cs) h
  here-any (c ∷ cs) (suc k) h = or_right (g c.block) (list_any (λ d. g d.block) cs) (here-any cs k h)

  not-here : (cs : List Cell) (k : ℕ) → some_at g (option_map (λ c. c.block) (slice_get cs k)) ≡ false → list_any (λ c. g c.block) (take k cs) ≡ false → list_any (λ c. g c.block) (take (suc k) cs) ≡ false
  not-here [] zero h was = refl
  not-here [] (suc k) h was = refl
  not-here (c ∷ cs) zero h was = or_from (g c.block) false h refl
  not-here (c ∷ cs) (suc k) h was =
      let p = or_parts (g c.block) (list_any (λ (d : Cell). g d.block) (take k cs)) was in
      or_from (g c.block) (list_any (λ (d : Cell). g d.block) (take (suc k) cs)) p.0 (not-here cs k h p.1)

  pub cell_found : (cs : List Cell) (k : ℕ) (r : Bool) → r ≡ some_at g (option_map (λ c. c.block) (slice_get cs k)) → r ≡ true → true ≡ list_any (λ c. g c.block) cs
  cell_found cs k r e h = sym (here-any cs k (sym e ∙ h))

  pub cell_next : (cs : List Cell) (k : ℕ) (r : Bool) → r ≡ some_at g (option_map (λ c. c.block) (slice_get cs k)) → r ≡ false → list_any (λ c. g c.block) (take k cs) ≡ false → list_any (λ c. g c.block) (take (k + 1) cs) ≡ false
  cell_next cs k r e h was = ap (λ n. list_any (λ (c : Cell). g c.block) (take n cs)) (add-one k) ∙ not-here cs k (sym e ∙ h) was

  pub cell_none : (cs : List Cell) (k : ℕ) → length cs ≤ k → list_any (λ c. g c.block) (take k cs) ≡ false → false ≡ list_any (λ c. g c.block) cs
  cell_none cs k h was = sym (ap (list_any (λ (c : Cell). g c.block)) (sym (take_all k cs h)) ∙ was)

-- one of the lanes before the k-th passes the test
abbrev pub some_until : (ℕ → Bool) → Option LaneSpan → ℕ → Bool
some_until g None k = false
some_until g (Some own) k = some_below g own.first k

module _ (g : ℕ → Bool) where
  pub none_yet : (o : Option LaneSpan) → some_until g o 0 ≡ false
  none_yet None = refl
  none_yet (Some own) = refl

  below-any : (first k n : ℕ) → k < n → g (first + k) ≡ true → some_below g first n ≡ true
  below-any first k zero h t = absurd (omega arith)
  below-any first k (suc n) h t = go (λ l. below-any first k n l t) (cases_lt k n)
    where
      go : (k < n → some_below g first n ≡ true) → (k < n) ⊎ (n ≤ k) → some_below g first (suc n) ≡ true
      go ih (inl l) = or_right (g (first + n)) (some_below g first n) (ih l)
      go ih (inr l) = let e : k ≡ n = omega arith in or_left (g (first + n)) (some_below g first n) (sym (ap (λ m. g (first + m)) e) ∙ t)

  pub lane_found : (o : Option LaneSpan) (k : ℕ) (r : Bool) → r ≡ some_at g (row_number_in o k) → r ≡ true → true ≡ some_of g o
  lane_found None k r e h = absurd (true≢false (sym h ∙ e))
  lane_found (Some own) k r e h = go (nat_lt k own.count) refl
    where
      go : (b : Bool) → nat_lt k own.count ≡ b → true ≡ some_below g own.first own.count
      go true f = sym (below-any own.first k own.count (ltb-true k own.count f) (sym (ap (λ c. some_at g (cond c (Some (own.first + k)) None)) f) ∙ (sym e ∙ h)))
      go false f = absurd (true≢false (sym h ∙ (e ∙ ap (λ c. some_at g (cond c (Some (own.first + k)) None)) f)))

  pub lane_next : (o : Option LaneSpan) (k : ℕ) (r : Bool) → r ≡ some_at g (row_number_in o k) → r ≡ false → some_until g o k ≡ false → k < lanes_count o → some_until g o (k + 1) ≡ false
  lane_next None k r e h was lt = refl
  lane_next (Some own) k r e h was lt =
      let inside : nat_lt k own.count ≡ true = lt-ltb k own.count lt in
      let here : g (own.first + k) ≡ false = sym (ap (λ c. some_at g (cond c (Some (own.first + k)) None)) inside) ∙ (sym e ∙ h) in
      ap (some_below g own.first) (add-one k) ∙ or_from (g (own.first + k)) (some_below g own.first k) here was

  pub lane_none : (o : Option LaneSpan) (k : ℕ) → lanes_count o ≤ k → k ≤ lanes_count o → some_until g o k ≡ false → false ≡ some_of g o
  lane_none None k h l was = refl
  lane_none (Some own) k h l was = let e : k ≡ own.count = omega arith in sym (ap (some_below g own.first) (sym e) ∙ was)
