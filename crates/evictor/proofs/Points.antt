-- A range has at most the points of its function, and so a weight that its use sum tells.
use Rattle.std.proofs.Common.{◌≡◌, ◌∙◌, ℕ, zero, suc, Bool, true, false, ◌+◌, ◌*◌, ◌<◌, ◌≤◌, ◌/◌, ◌-◌, ◌^◌, min, List, [], ◌∷◌, refl, sym, ap, arith, map, length, get_or, take, subst}
use Rattle.std.specs.Prelude.{Option, Some, None, slice_get}
use Rattle.std.specs.List.{sum_by}
use Rattle.std.proofs.lemmas.Bool.Decides.{nat_tests}
use Rattle.std.proofs.lemmas.Nat.{le-div, mul-le, div-add-mod'}
use Rattle.std.proofs.lemmas.List.{length-map}
use Rattle.std.proofs.lemmas.List.Sums.{sum_by_more, sum_by-cons}
use Rattle.mir_func.specs.declared.func.Instr.{Instr}
use Rattle.mir_func.specs.declared.func.Block.{Block}
use Rattle.instr_effects.specs.declared.row.LaneSpan.{LaneSpan}
use Rattle.live_lanes.specs.declared.table.Table.{Table}
use Rattle.live_lanes.specs.Table.{Numbers, entry_rank, exit_rank}
use Rattle.live_lanes.specs.Ordered.{ids_of}
use Rattle.live_lanes.specs.Held.{any_held, one, inside, passing, block_held, sum_below, lanes_held, range_held}
use Rattle.evictor.specs.Spots.{points_of, points_in}
use Rattle.evictor.specs.Settings.{is_within}

-- of a block

one_most : (b : Bool) → one b ≤ 1
one_most true = omega arith
one_most false = omega arith

inside_most : (slots : Numbers) (test : ℕ → Bool) (ids : List ℕ) → inside slots test ids ≤ 2 * length ids
inside_most slots test [] = omega arith
inside_most slots test (id ∷ ids) = omega (arith, one_most (test (entry_rank slots id)), one_most (test (exit_rank slots id)), inside_most slots test ids)

abbrev most_of : Option Block → ℕ
most_of None = 0
most_of (Some h) = points_of h

block_most : (x : Table) (bs : List Block) (first count b : ℕ) → block_held x bs first count b ≤ most_of (slice_get bs b)
block_most x bs first count b = go (slice_get bs b)
  where
    go : (q : Option Block) → elim q [ None ↦ 0 | Some h ↦ passing x.order.slots (any_held x.order.slots x.rows.rows.items first count b) (ids_of h.instrs) ] ≤ most_of q
    go None = omega arith
    go (Some h) =
        let test = any_held x.order.slots x.rows.rows.items first count b in
        let start : one (test 0) ≤ 1 = one_most (test 0) in
        let ends : inside x.order.slots test (ids_of h.instrs) ≤ 2 * length (ids_of h.instrs) = inside_most x.order.slots test (ids_of h.instrs) in
        let many : length (ids_of h.instrs) ≡ length h.instrs = length-map h.instrs (λ (i : Instr). i.id) in
        let all : one (test 0) + inside x.order.slots test (ids_of h.instrs) ≤ 1 + 2 * length h.instrs = omega (arith, start, ends, many) in
        all

-- of all blocks

sum_shift : (f : ℕ → ℕ) (n : ℕ) → sum_below f (suc n) ≡ f 0 + sum_below (λ k. f (suc k)) n
sum_shift f zero = omega arith
sum_shift f (suc n) = omega (arith, sum_shift f n)

all_most : (f : ℕ → ℕ) (bs : List Block) → ((b : ℕ) → f b ≤ most_of (slice_get bs b)) → sum_below f (length bs) ≤ points_in bs
all_most f [] le = omega arith
all_most f (h ∷ bs) le =
    let first : slice_get (h ∷ bs) 0 ≡ Some h = cc in
    let own : f 0 ≤ points_of h = subst (λ q. f 0 ≤ most_of q) first (le 0) in
    let more : points_in (h ∷ bs) ≡ points_of h + points_in bs = sum_by-cons points_of h bs in
    omega (arith, sum_shift f (length bs), own, more, all_most (λ k. f (suc k)) bs (λ b. le (suc b)))

pub range_most : (x : Table) (bs : List Block) (v : ℕ) → range_held x bs v ≤ points_in bs
range_most x bs v = go (slice_get x.lanes.ranges.items v)
  where
    go : (q : Option LaneSpan) → lanes_held x bs q ≤ points_in bs
    go None = omega arith
    go (Some own) = all_most (block_held x bs own.first own.count) bs (block_most x bs own.first own.count)

pub counts_more : (m i s own : ℕ) (bs : List Block) (b : Block) → i < length bs → b ≡ get_or bs i b → own ≡ min (points_of b) m → s ≡ min (points_in (take i bs)) m → min (s + own) m ≡ min (points_in (take (i + 1) bs)) m
counts_more m i s own bs b h at is was =
    let more = sum_by_more points_of bs i b h in
    let n : points_in (take (i + 1) bs) ≡ points_in (take i bs) + points_of b = rw (← at) at more in
    omega (arith, n)

pub ruleset counts = (counts_more)

-- weights

lighter : (n most held : ℕ) → held ≤ most → n / (most + 8) ≤ n / (held + 8)
lighter n most held h =
    let q = n / (most + 8) in
    le-div q n (held + 8) (omega arith) (omega (arith, mul-le q (held + 8) q (most + 8) (omega arith) (omega (arith, h)), div-add-mod' n (most + 8)))

pub weighs_least : (u uses product most held p : ℕ) → 1024 * u < 2 ^ 128 → uses ≡ min u (2 ^ 128 - 1) → product ≡ min (uses * 1024) (2 ^ 128 - 1) → held < 2 ^ 64 → held ≤ p → most ≡ min p (2 ^ 64 - 1) → product / (most + 8) ≤ 1024 * u / (held + 8)
weighs_least u uses product most held p small summed times few within counted =
    let whole : product ≡ 1024 * u = omega arith in
    let below : held ≤ most = omega arith in
    omega (arith, ap (λ n. n / (most + 8)) whole, lighter (1024 * u) most held below)

pub too_heavy : (m : Option ℕ) (least weight : ℕ) → least ≤ weight → is_within m least ≡ false → is_within m weight ≡ false
too_heavy None least weight h e = cc
too_heavy (Some k) least weight h e = grind (arith, nat_tests)
