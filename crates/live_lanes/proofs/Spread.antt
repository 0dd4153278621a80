-- Where a range has points: the blocks, the first of them, and the least number at which points there begin.
use Rattle.std.proofs.Common.{◌≡◌, ◌≢◌, ◌<◌, ◌≤◌, ◌⊎◌, ◌+◌, ℕ, Bool, true, false, cond, not, ◌&&◌, List, [], ◌∷◌, Option, None, Some, inl, inr, refl, sym, ap, ◌∙◌, subst, arith, min, eq-eqb, ne_eqb}
use Rattle.std.specs.Prelude.{◌||◌, find, nat_eq, nat_lt, option_map, reverse, slice_get}
use Rattle.std.specs.List.{list_any}
use Rattle.std.specs.Option.{option_or}
use Rattle.std.proofs.lemmas.Bool.{cases_eq, cases_lt, ltb-true}
use Rattle.std.proofs.lemmas.List.{reverse-append}
use Rattle.std.proofs.lemmas.List.Folds.{find-append}
use Rattle.mir_meaning.specs.Paths.{Among, here, there}
use Rattle.instr_effects.specs.declared.row.LaneSpan.{LaneSpan}
use Rattle.instr_effects.specs.Numbers.{row_number_in}
use Rattle.live_lanes.specs.declared.row.Cell.{Cell}
use Rattle.live_lanes.specs.declared.table.Table.{Table}
use Rattle.live_lanes.specs.Extents.{extents_in, lanes_count, some_extents}
use Rattle.live_lanes.specs.Spread.{HasPoints, IsFirst, LaneHasPoints, has_points, cell_has_points, is_elsewhere, lesser}
use Rattle.live_lanes.specs.Table.{descends, find_cell, is_below, is_none}
use Rattle.live_lanes.proofs.Cells.{below-none, both-left, both-right}

-- the least of numbers

pub lesser-first : (P Q R : ℕ → Type 0) → ((n : ℕ) → R n → P n ⊎ Q n) → ((n : ℕ) → P n → R n) → ((n : ℕ) → Q n → R n) → (p q : Option ℕ) → IsFirst P p → IsFirst Q q → IsFirst R (lesser p q)
lesser-first P Q R out with-p with-q None None f g = λ n r. go n (out n r)
  where
    go : (n : ℕ) → P n ⊎ Q n → ⊥
    go n (inl h) = f n h
    go n (inr h) = g n h
lesser-first P Q R out with-p with-q None (Some b) f g = (with-q b g.0, λ n r. go n (out n r))
  where
    go : (n : ℕ) → P n ⊎ Q n → b ≤ n
    go n (inl h) = absurd (f n h)
    go n (inr h) = g.1 n h
lesser-first P Q R out with-p with-q (Some a) None f g = (with-p a f.0, λ n r. go n (out n r))
  where
    go : (n : ℕ) → P n ⊎ Q n → a ≤ n
    go n (inl h) = f.1 n h
    go n (inr h) = absurd (g n h)
lesser-first P Q R out with-p with-q (Some a) (Some b) f g = (least (cases_lt a b), λ n r. go n (out n r))
  where
    least : (a < b) ⊎ (b ≤ a) → R (min a b)
    least (inl h) = let e : a ≡ min a b = omega arith in subst R e (with-p a f.0)
    least (inr h) = let e : b ≡ min a b = omega arith in subst R e (with-q b g.0)

    go : (n : ℕ) → P n ⊎ Q n → min a b ≤ n
    go n (inl h) = let z = f.1 n h in omega arith
    go n (inr h) = let z = g.1 n h in omega arith

-- the same of lanes one after the other

abbrev pub Below : (ℕ → ℕ → Type 0) → ℕ → ℕ → Type 0
Below L k n = (j : ℕ) × (j < k) × L j n

pub more-first : (L : ℕ → ℕ → Type 0) (k : ℕ) (p q r : Option ℕ) → r ≡ lesser p q → IsFirst (Below L k) p → IsFirst (L k) q → IsFirst (Below L (k + 1)) r
more-first L k p q r e f g =
    subst (IsFirst (Below L (k + 1))) (sym e)
    (lesser-first (Below L k) (L k) (Below L (k + 1)) out (λ n z. (z.0, omega (arith, z.1), z.2)) (λ n h. (k, omega arith, h)) p q f g)
  where
    out : (n : ℕ) → Below L (k + 1) n → Below L k n ⊎ L k n
    out n (j, lt, h) = go (cases_lt j k)
      where
        go : (j < k) ⊎ (k ≤ j) → Below L k n ⊎ L k n
        go (inl l) = inl (j, l, h)
        go (inr l) = let e : j ≡ k = omega arith in inr (subst (λ i. L i n) e h)

pub first-same : (P Q : ℕ → Type 0) → ((n : ℕ) → P n → Q n) → ((n : ℕ) → Q n → P n) → (o : Option ℕ) → IsFirst P o → IsFirst Q o
first-same P Q f g None h = λ n q. h n (g n q)
first-same P Q f g (Some a) h = (f a h.0, λ n q. h.1 n (g n q))

-- a list that isn't empty has an element

pub some-among : {X : Type 0} (xs : List X) → not (is_none xs) ≡ true → (x : X) × Among x xs
some-among [] h = absurd (cc)
some-among (x ∷ xs) h = (x, here)

pub among-some : {X : Type 0} {x : X} {xs : List X} → Among x xs → not (is_none xs) ≡ true
among-some here = refl
among-some (there m) = refl

-- the lanes of a range

pub lane-has : (x : Table) (v k b : ℕ) → LaneHasPoints x v k b → HasPoints x v b
lane-has x v k b (l, e, h) = let z = some-among (extents_in x l b) h in (z.0, record { lane = k; number = l; numbered = e; among = z.1 })

pub has-lane : (x : Table) (v b : ℕ) → HasPoints x v b → (k : ℕ) × LaneHasPoints x v k b
has-lane x v b (e, i) = (i.lane, (i.number, i.numbered, among-some i.among))

pub lane-below : (q : Option LaneSpan) (k l : ℕ) → row_number_in q k ≡ Some l → k < lanes_count q
lane-below None k l e = absurd (cc)
lane-below (Some own) k l e = go (nat_lt k own.count) refl e
  where
    go : (u : Bool) → nat_lt k own.count ≡ u → cond u (Some (own.first + k)) None ≡ Some l → k < own.count
    go true f g = ltb-true k own.count f
    go false f g = absurd (cc)

pub points-lane : (x : Table) (v b n : ℕ) → lanes_count (slice_get x.lanes.ranges.items v) ≤ n → HasPoints x v b → Below (LaneHasPoints x v) n b
points-lane x v b n le h =
    let z = has-lane x v b h in
    let lt = lane-below (slice_get x.lanes.ranges.items v) z.0 z.1.0 z.1.1 in
    (z.0, omega (arith, lt, le), z.1)

-- the cells of a lane

not-not : (t : Bool) → not t ≡ true → t ≡ false
not-not true e = absurd (cc)
not-not false e = refl

own-cell : (c : Cell) (cs : List Cell) → has_points (c ∷ cs) c.block ≡ cell_has_points c
own-cell c cs = ap (λ t. not (is_none (some_extents (cond t (Some c) (find_cell c.block cs))))) (eq-eqb c.block c.block refl)

other-cell : (c : Cell) (cs : List Cell) (b : ℕ) → (c.block ≡ b → ⊥) → has_points (c ∷ cs) b ≡ has_points cs b
other-cell c cs b ne = ap (λ t. not (is_none (some_extents (cond t (Some c) (find_cell b cs))))) (ne_eqb c.block b ne)

-- points behind a cell are in blocks before it
lower : (c : Cell) (cs : List Cell) (b : ℕ) → descends (c ∷ cs) ≡ true → has_points cs b ≡ true → b < c.block
lower c cs b d h = go (cases_lt b c.block)
  where
    none : find_cell b cs ≡ None → has_points cs b ≡ false
    none e = ap (λ q. not (is_none (some_extents q))) e

    go : (b < c.block) ⊎ (c.block ≤ b) → b < c.block
    go (inl l) = l
    go (inr l) = absurd (let z = none (below-none c.block b cs (both-left (is_below c.block cs) (descends cs) d) (both-right (is_below c.block cs) (descends cs) d) l) in cc)

-- points are in the block of the first cell, or in those of the others
pub cell-points : (c : Cell) (cs : List Cell) (b : ℕ) → has_points (c ∷ cs) b ≡ true → ((c.block ≡ b) × (cell_has_points c ≡ true)) ⊎ ((c.block ≡ b → ⊥) × (has_points cs b ≡ true))
cell-points c cs b h = go (cases_eq c.block b)
  where
    go : (c.block ≡ b) ⊎ (c.block ≡ b → ⊥) → ((c.block ≡ b) × (cell_has_points c ≡ true)) ⊎ ((c.block ≡ b → ⊥) × (has_points cs b ≡ true))
    go (inl e) = inl (e, sym (own-cell c cs) ∙ ap (has_points (c ∷ cs)) e ∙ h)
    go (inr ne) = inr (ne, sym (other-cell c cs b ne) ∙ h)

abbrev block_of : Option Cell → Option ℕ
block_of q = option_map (λ c. c.block) q

abbrev Points : List Cell → ℕ → Type 0
Points cs b = has_points cs b ≡ true

one-more : (c : Cell) (cs : List Cell) → descends (c ∷ cs) ≡ true → (q : Option Cell) → IsFirst (Points cs) (block_of q) → (t : Bool) → cell_has_points c ≡ t → IsFirst (Points (c ∷ cs)) (block_of (option_or q (cond t (Some c) None)))
one-more c cs d None f true e = (own-cell c cs ∙ e, λ b h. go b (cell-points c cs b h))
  where
    go : (b : ℕ) → ((c.block ≡ b) × (cell_has_points c ≡ true)) ⊎ ((c.block ≡ b → ⊥) × (has_points cs b ≡ true)) → c.block ≤ b
    go b (inl z) = let y = z.0 in omega arith
    go b (inr z) = absurd (f b z.1)
one-more c cs d None f false e = λ b h. go b (cell-points c cs b h)
  where
    go : (b : ℕ) → ((c.block ≡ b) × (cell_has_points c ≡ true)) ⊎ ((c.block ≡ b → ⊥) × (has_points cs b ≡ true)) → ⊥
    go b (inl z) = absurd (let y = z.1 in cc)
    go b (inr z) = f b z.1
one-more c cs d (Some a) f t e = (other-cell c cs a.block (λ g. let z = lower c cs a.block d f.0 in absurd (omega (arith, z, g))) ∙ f.0, λ b h. go b (cell-points c cs b h))
  where
    go : (b : ℕ) → ((c.block ≡ b) × (cell_has_points c ≡ true)) ⊎ ((c.block ≡ b → ⊥) × (has_points cs b ≡ true)) → a.block ≤ b
    go b (inl z) = let y = z.0 in let l = lower c cs a.block d f.0 in omega arith
    go b (inr z) = f.1 b z.1

pub first-points : (cs : List Cell) → descends cs ≡ true → IsFirst (λ b. has_points cs b ≡ true) (option_map (λ c. c.block) (find cell_has_points (reverse cs)))
first-points [] d = λ b h. absurd (cc)
first-points (c ∷ cs) d =
    subst (λ q. IsFirst (Points (c ∷ cs)) (block_of q)) (sym (ap (find cell_has_points) (reverse-append (c ∷ []) cs) ∙ find-append cell_has_points (reverse cs) (c ∷ [])))
    (one-more c cs d (find cell_has_points (reverse cs)) (first-points cs (both-right (is_below c.block cs) (descends cs) d)) (cell_has_points c) refl)

-- cells with points in other blocks

pub elsewhere-points : (block : ℕ) (cs : List Cell) → descends cs ≡ true → list_any (is_elsewhere block) cs ≡ true → (b : ℕ) × (b ≢ block) × (has_points cs b ≡ true)
elsewhere-points block [] d h = absurd (cc)
elsewhere-points block (c ∷ cs) d h = go (is_elsewhere block c) refl h (elsewhere-points block cs (both-right (is_below c.block cs) (descends cs) d))
  where
    off : not (nat_eq c.block block) ≡ true → c.block ≢ block
    off f e = absurd (let z = eq-eqb c.block block e in let y = not-not (nat_eq c.block block) f in cc)

    go : (t : Bool) → is_elsewhere block c ≡ t → (t || list_any (is_elsewhere block) cs) ≡ true → (list_any (is_elsewhere block) cs ≡ true → (b : ℕ) × (b ≢ block) × (has_points cs b ≡ true)) → (b : ℕ) × (b ≢ block) × (has_points (c ∷ cs) b ≡ true)
    go true e f ih = (c.block, off (both-left (not (nat_eq c.block block)) (cell_has_points c) e), own-cell c cs ∙ both-right (not (nat_eq c.block block)) (cell_has_points c) e)
    go false e f ih =
        let z = ih f in
        (z.0, z.1, other-cell c cs z.0 (λ g. let l = lower c cs z.0 d z.2 in absurd (omega (arith, l, g))) ∙ z.2)

pub points-elsewhere : (block : ℕ) (cs : List Cell) (b : ℕ) → b ≢ block → has_points cs b ≡ true → list_any (is_elsewhere block) cs ≡ true
points-elsewhere block [] b ne h = absurd (cc)
points-elsewhere block (c ∷ cs) b ne h = go (cell-points c cs b h) (points-elsewhere block cs b ne)
  where
    left : (t u : Bool) → t ≡ true → (t || u) ≡ true
    left true u e = refl
    left false u e = absurd (cc)

    right : (t u : Bool) → u ≡ true → (t || u) ≡ true
    right true u e = refl
    right false u e = e

    two : (t u : Bool) → t ≡ true → u ≡ true → (t && u) ≡ true
    two true u e f = f
    two false u e f = absurd (cc)

    go : ((c.block ≡ b) × (cell_has_points c ≡ true)) ⊎ ((c.block ≡ b → ⊥) × (has_points cs b ≡ true)) → (has_points cs b ≡ true → list_any (is_elsewhere block) cs ≡ true) → list_any (is_elsewhere block) (c ∷ cs) ≡ true
    go (inl z) ih = left (is_elsewhere block c) (list_any (is_elsewhere block) cs) (two (not (nat_eq c.block block)) (cell_has_points c) (ap not (ne_eqb c.block block (λ e. ne (sym z.0 ∙ e)))) z.1)
    go (inr z) ih = right (is_elsewhere block c) (list_any (is_elsewhere block) cs) (ih z.1)
