-- The points of all blocks are those of the blocks in which some lane has a cell.
use Rattle.std.proofs.Common.{◌≡◌, ◌<◌, ◌≤◌, ℕ, zero, suc, ◌+◌, Bool, true, false, cond, length, List, [], ◌∷◌, Option, None, Some, refl, sym, ap, ◌∙◌, subst, arith, get_or}
use Rattle.std.specs.Prelude.{nat_eq, nat_lt, slice_get, min, ◌||◌}
use Rattle.std.proofs.lemmas.Bool.{eqb-true, eq-eqb, lt-ltb, ltb-true, ltb-false}
use Rattle.std.proofs.lemmas.Option.{slice_get-get_or, slice_get_past}
use Rattle.mir_func.specs.declared.func.Block.{Block}
use Rattle.instr_effects.specs.declared.row.LaneSpan.{LaneSpan}
use Rattle.instr_effects.specs.Row.{lane_in}
use Rattle.instr_effects.specs.Numbers.{row_number_in}
use Rattle.live_lanes.specs.declared.row.LaneRange.{LaneRange}
use Rattle.live_lanes.specs.declared.table.Table.{Table}
use Rattle.live_lanes.specs.Table.{Numbers, unseen, entry_rank, exit_rank}
use Rattle.live_lanes.specs.Entered.{rows_seen}
use Rattle.live_lanes.specs.Ordered.{ids_of}
use Rattle.live_lanes.specs.Held.{held_at, any_held, inside, passing, block_held, sum_below, lanes_held, range_held, IsLastBefore, AreUnseen}
use Rattle.live_lanes.proofs.Tallied.{passing-zero}

-- where nothing is seen of the lanes, none is live or occupied
none-any : (slots : Numbers) (rows : List LaneRange) (first count b at : ℕ) → AreUnseen rows first count b → any_held slots rows first count b at ≡ false
none-any slots rows first zero b at h = refl
none-any slots rows first (suc n) b at h =
    ap (λ v. held_at slots v at || any_held slots rows first n b at) (h n (omega arith)) ∙ none-any slots rows first n b at (λ k lt. h k (omega arith))

module _ (x : Table) (bs : List Block) where
  abbrev told : ℕ → ℕ → Option Block → ℕ → ℕ
  told first count q b = elim q [ None ↦ 0 | Some h ↦ passing x.order.slots (any_held x.order.slots x.rows.rows.items first count b) (ids_of h.instrs) ]

  pub block-none : (first count b : ℕ) → AreUnseen x.rows.rows.items first count b → block_held x bs first count b ≡ 0
  block-none first count b h = go (slice_get bs b)
    where
      go : (q : Option Block) → told first count q b ≡ 0
      go None = refl
      go (Some c) = passing-zero x.order.slots (any_held x.order.slots x.rows.rows.items first count b) (λ at. none-any x.order.slots x.rows.rows.items first count b at h) (ids_of c.instrs)

  pub block-past : (first count b : ℕ) → length bs ≤ b → 0 ≡ block_held x bs first count b
  block-past first count b h = sym (ap (λ q. told first count q b) (slice_get_past bs b h))

  pub block-here : (first count b n : ℕ) (h : Block) → b < length bs → h ≡ get_or bs b h → n ≡ passing x.order.slots (any_held x.order.slots x.rows.rows.items first count b) (ids_of h.instrs) → n ≡ block_held x bs first count b
  block-here first count b n h within own e = e ∙ sym (ap (λ q. told first count q b) (slice_get-get_or bs b h within ∙ ap (λ c. Some c) (sym own)))

  any-same : (b at first first' count count' : ℕ) → ((k : ℕ) → lane_in first count k ≡ lane_in first' count' k) → any_held x.order.slots x.rows.rows.items first count b at ≡ any_held x.order.slots x.rows.rows.items first' count' b at
  any-same b at first first' count count' h = go (nat_lt count' count) refl (nat_lt count count') refl
    where
      lane-none : (f c k : ℕ) → nat_lt k c ≡ false → lane_in f c k ≡ None
      lane-none f c k e = ap (λ t. cond t (Some (f + k)) None) e

      lane-some : (f c k : ℕ) → nat_lt k c ≡ true → lane_in f c k ≡ Some (f + k)
      lane-some f c k e = ap (λ t. cond t (Some (f + k)) None) e

      never : (c : ℕ) → nat_lt c c ≡ false
      never c = low (nat_lt c c) refl
        where
          low : (u : Bool) → nat_lt c c ≡ u → nat_lt c c ≡ false
          low true e = let z = ltb-true c c e in absurd (omega arith)
          low false e = e

      some-injective : (a c : ℕ) → Some a ≡ Some c → a ≡ c
      some-injective a c e = cc

      same-count : (c : ℕ) → ((k : ℕ) → lane_in first c k ≡ lane_in first' c k) → any_held x.order.slots x.rows.rows.items first c b at ≡ any_held x.order.slots x.rows.rows.items first' c b at
      same-count zero g = refl
      same-count (suc n) g =
          let here : first + n ≡ first' + n = some-injective (first + n) (first' + n) (sym (lane-some first (suc n) n (lt-ltb n (suc n) (omega arith))) ∙ g n ∙ lane-some first' (suc n) n (lt-ltb n (suc n) (omega arith))) in
          let equal : first ≡ first' = omega arith in
          ap (λ f. any_held x.order.slots x.rows.rows.items f (suc n) b at) equal

      go : (u : Bool) → nat_lt count' count ≡ u → (w : Bool) → nat_lt count count' ≡ w → any_held x.order.slots x.rows.rows.items first count b at ≡ any_held x.order.slots x.rows.rows.items first' count' b at
      go true e w f = absurd (let z : Some (first + count') ≡ None = sym (lane-some first count count' e) ∙ h count' ∙ lane-none first' count' count' (never count') in cc)
      go false e true f = absurd (let z : None ≡ Some (first' + count) = sym (lane-none first count count (never count)) ∙ h count ∙ lane-some first' count' count f in cc)
      go false e false f =
          let a = ltb-false count' count e in
          let c = ltb-false count count' f in
          let equal : count ≡ count' = omega arith in
          same-count count (λ k. h k ∙ ap (λ n. lane_in first' n k) (sym equal)) ∙ ap (λ n. any_held x.order.slots x.rows.rows.items first' n b at) equal

module _ (f : ℕ → ℕ) where
  -- blocks without points add nothing
  sum-skip : (block n : ℕ) → block < n → ((b : ℕ) → block < b → b < n → f b ≡ 0) → sum_below f n ≡ f block + sum_below f block
  sum-skip block zero lt none = absurd (omega arith)
  sum-skip block (suc n) lt none = go (nat_eq block n) refl (λ l. sum-skip block n l (λ b more less. none b more (omega arith)))
    where
      unequal : nat_eq block n ≡ false → (block ≡ n) → ⊥
      unequal e q = let z : true ≡ false = sym (eq-eqb block n q) ∙ e in absurd (cc)

      go : (u : Bool) → nat_eq block n ≡ u → (block < n → sum_below f n ≡ f block + sum_below f block) → sum_below f (suc n) ≡ f block + sum_below f block
      go true e ih = ap (λ m. f m + sum_below f m) (sym (eqb-true block n e))
      go false e ih =
          let below : block < n = omega (arith, unequal e) in
          let zero-here = none n below (omega arith) in
          omega (arith, zero-here, ih below)

  pub sum-none : (n : ℕ) → ((b : ℕ) → b < n → f b ≡ 0) → sum_below f n ≡ 0
  sum-none zero none = refl
  sum-none (suc n) none = let a = none n (omega arith) in let b = sum-none n (λ k lt. none k (omega arith)) in omega (arith, a, b)

  pub sum-step : (Empty : ℕ → Type 0) (bound block total got result all : ℕ) → ((b : ℕ) → Empty b → f b ≡ 0) → IsLastBefore Empty bound (Some block) → total + sum_below f bound ≡ all → got ≡ f block → result ≡ min (total + got) 18446744073709551615 → all < 18446744073709551616 → result + sum_below f block ≡ all
  sum-step Empty bound block total got result all none last sum e g few =
      let skip = sum-skip block bound last.0 (λ b more less. none b (last.1 b more less)) in
      omega (arith, skip, sum, e, g, few)

  pub sum-end : (Empty : ℕ → Type 0) (bound total all : ℕ) → ((b : ℕ) → Empty b → f b ≡ 0) → IsLastBefore Empty bound None → total + sum_below f bound ≡ all → total ≡ all
  sum-end Empty bound total all none last sum = let z = sum-none bound (λ b lt. none b (last b lt)) in omega (arith, z, sum)

sum-same : (f g : ℕ → ℕ) → ((b : ℕ) → f b ≡ g b) → (n : ℕ) → sum_below f n ≡ sum_below g n
sum-same f g h zero = refl
sum-same f g h (suc n) = ap (λ a. a + sum_below f n) (h n) ∙ ap (λ a. g n + a) (sum-same f g h n)

passing-same : (slots : Numbers) (p q : ℕ → Bool) → ((at : ℕ) → p at ≡ q at) → (ids : List ℕ) → passing slots p ids ≡ passing slots q ids
passing-same slots p q h ids = ap (λ b. cond b 1 0 + inside slots p ids) (h 0) ∙ ap (λ n. cond (q 0) 1 0 + n) (each ids)
  where
    each : (ids : List ℕ) → inside slots p ids ≡ inside slots q ids
    each [] = refl
    each (id ∷ ids) =
        ap (λ b. cond b 1 0 + (cond (p (exit_rank slots id)) 1 0 + inside slots p ids)) (h (entry_rank slots id))
        ∙ ap (λ b. cond (q (entry_rank slots id)) 1 0 + (cond b 1 0 + inside slots p ids)) (h (exit_rank slots id))
        ∙ ap (λ n. cond (q (entry_rank slots id)) 1 0 + (cond (q (exit_rank slots id)) 1 0 + n)) (each ids)

-- the lanes of a range
pub range-same : (x : Table) (bs : List Block) (v first count : ℕ) → ((k : ℕ) → lane_in first count k ≡ row_number_in (slice_get x.lanes.ranges.items v) k) → range_held x bs v ≡ sum_below (block_held x bs first count) (length bs)
range-same x bs v first count h = go (slice_get x.lanes.ranges.items v) refl
  where
    block-same : (own : LaneSpan) → ((k : ℕ) → lane_in first count k ≡ lane_in own.first own.count k) → (b : ℕ) → block_held x bs own.first own.count b ≡ block_held x bs first count b
    block-same own g b = each (slice_get bs b)
      where
        each : (q : Option Block) → told x bs own.first own.count q b ≡ told x bs first count q b
        each None = refl
        each (Some c) = passing-same x.order.slots (any_held x.order.slots x.rows.rows.items own.first own.count b) (any_held x.order.slots x.rows.rows.items first count b) (λ at. sym (any-same x bs b at first own.first count own.count g)) (ids_of c.instrs)

    no-lanes : ((k : ℕ) → lane_in first count k ≡ None) → (b : ℕ) → AreUnseen x.rows.rows.items first count b
    no-lanes g b k lt = absurd (let z : Some (first + k) ≡ None = sym (ap (λ t. cond t (Some (first + k)) None) (lt-ltb k count lt)) ∙ g k in cc)

    go : (q : Option LaneSpan) → slice_get x.lanes.ranges.items v ≡ q → range_held x bs v ≡ sum_below (block_held x bs first count) (length bs)
    go None e =
        ap (lanes_held x bs) e
        ∙ sym (sum-none (block_held x bs first count) (length bs) (λ b lt. block-none x bs first count b (no-lanes (λ k. h k ∙ ap (λ q. row_number_in q k) e) b)))
    go (Some own) e =
        ap (lanes_held x bs) e
        ∙ sum-same (block_held x bs own.first own.count) (block_held x bs first count) (block-same own (λ k. h k ∙ ap (λ q. row_number_in q k) e)) (length bs)
