-- Eviction: which register a range takes from others, and which ranges lose it.
use Rattle.std.specs.Prelude.{◌≡◌, ℕ, Bool, true, false, cond, not, ◌+◌, ◌&&◌, ◌||◌, ◌==◌, nat_lt, max, List, map, filter, length, find, Option, Some, None, option_map, slice_get, unwrap_or}
use Rattle.std.specs.List.{list_all, fold}
use Rattle.target_base.specs.declared.types.Reg.{Reg}
use Rattle.target_base.specs.declared.types.Unit.{Unit as UnitNumber}
use Rattle.target_base.specs.declared.types.Target.{Target}
use Rattle.mir_func.specs.Value.{Function}
use Rattle.mir_meaning.specs.Registers.{numbers, has_number}
use Rattle.mir_meaning.specs.Points.{UnitClash, RangesClash, PointCount, Tests}
use Rattle.block_freq.specs.Weights.{weight_of}
use Rattle.evictor.specs.declared.ranks.Stage.{Stage}
use Rattle.evictor.specs.declared.ranks.Stage.TheVariants as stages
use Rattle.evictor.specs.Candidates.{Assignment, candidates}

-- What a run knows of ranges besides their registers, by their numbers: stages, cascades, and the greatest cascade
-- that was given.
pub record Ranking : Type 0 where
  pub stages : List Stage
  pub cascades : List ℕ
  pub greatest : ℕ

-- the stage of a tiny
abbrev pub is_tiny_stage : Option Stage → Bool
is_tiny_stage (Some stages.Tiny) = true
is_tiny_stage _ = false

-- a tiny was made by spilling, for one place
abbrev pub is_tiny : Ranking → ℕ → Bool
is_tiny k v = is_tiny_stage (slice_get k.stages v)

-- the cascade of a range; 0 where none was given
abbrev pub cascade : Ranking → ℕ → ℕ
cascade k v = unwrap_or (slice_get k.cascades v) 0

-- the number that a range compares with the cascades of others: its own cascade, or else one that is new
abbrev pub number : Ranking → ℕ → ℕ
number k v = cond (cascade k v == 0) (k.greatest + 1) (cascade k v)

-- an assigned range clashes with v, where v has the register
abbrev pub InTheWay : Target → Function → Assignment → ℕ → Reg → ℕ → Type 0
InTheWay t f a v r w = (q : Reg) × (a w ≡ Some q) × RangesClash t f v r w q

-- some unit itself is live or written where v would hold it
abbrev pub UnitInTheWay : Target → Function → ℕ → Reg → Type 0
UnitInTheWay t f v r = (u : UnitNumber) × UnitClash t f v r u

-- what an eviction asks of live points: whether a unit itself is in the way of v in a register, whether a range is,
-- and how many points each range has
pub record Facts : Type 0 where
  pub fixed : Reg → Bool
  pub in_the_way : Reg → ℕ → Bool
  pub points : ℕ → ℕ

-- this is so of a range that has no register
pub record AreFacts (t : Target) (f : Function) (a : Assignment) (v : ℕ) (facts : Facts) : Type 0 where
  pub fixed : Tests (UnitInTheWay t f v) facts.fixed
  pub ranges : Tests (λ (p : Reg × ℕ). InTheWay t f a v p.0 p.1) (λ p. facts.in_the_way p.0 p.1)
  pub points : (w : ℕ) → PointCount t f w (facts.points w)

-- what the choice is made by
pub record Setting : Type 0 where
  pub func : Function
  pub freqs : List ℕ
  pub ranking : Ranking
  pub range : ℕ
  pub facts : Facts

-- the ranges in the way in a register, by number
abbrev pub clashers : Setting → Reg → List ℕ
clashers s r = filter (s.facts.in_the_way r) (numbers 0 (length s.func.classes))

-- the spill weight of a range
abbrev pub weight : Setting → ℕ → ℕ
weight s w = weight_of s.func.blocks s.freqs w (s.facts.points w)

-- A range in the way may be evicted: it is no tiny, its cascade is lower and, unless v is a tiny itself, so is its weight.
abbrev pub may_lose : Setting → ℕ → Bool
may_lose s w =
    not (is_tiny s.ranking w)
    && nat_lt (cascade s.ranking w) (number s.ranking s.range)
    && (is_tiny s.ranking s.range || nat_lt (weight s w) (weight s s.range))

-- no unit is in the way itself, and all ranges in the way may be evicted
abbrev pub qualifies : Setting → Reg → Bool
qualifies s r = not (s.facts.fixed r) && list_all (may_lose s) (clashers s r)

-- the greatest weight in the way
abbrev pub cost : Setting → Reg → ℕ
cost s r = fold max 0 (map (weight s) (clashers s r))

-- less weight is in the way of the first register than of the second, or as much and fewer ranges
abbrev pub is_cheaper : Setting → Reg → Reg → Bool
is_cheaper s q r = nat_lt (cost s q) (cost s r) || (cost s q == cost s r && nat_lt (length (clashers s q)) (length (clashers s r)))

-- The first of those that qualify than which none is cheaper.
abbrev pub first_cheapest : Setting → List Reg → Option Reg
first_cheapest s rs = find (λ r. list_all (λ q. not (is_cheaper s q r)) rs) rs

-- The register that the range takes, of these candidates, and the ranges that are evicted. None where none qualifies.
unfoldable pub cheapest_of : Setting → List Reg → Option (Reg × List ℕ)
cheapest_of s rs = option_map (λ r. (r, clashers s r)) (first_cheapest s (filter (qualifies s) rs))

-- the answer for a range that has no register, among its candidates
pub record IsCheapest (t : Target) (f : Function) (a : Assignment) (freqs : List ℕ) (ranking : Ranking) (v : ℕ) (answer : Option (Reg × List ℕ)) : Type 0 where
  pub facts : Facts
  pub are_facts : AreFacts t f a v facts
  pub answered : answer ≡ cheapest_of (record { func = f; freqs = freqs; ranking = ranking; range = v; facts = facts }) (candidates t f a freqs v)

-- the range evicts, or is evicted
abbrev pub is_marked : ℕ → List ℕ → ℕ → Bool
is_marked v victims w = w == v || has_number victims w

-- the cascades behind an eviction: v and all that it evicts have the number that it compared with
abbrev pub cascades_after : Ranking → ℕ → List ℕ → List ℕ
cascades_after k v victims = map (λ w. cond (is_marked v victims w) (number k v) (cascade k w)) (numbers 0 (length k.cascades))

-- the ranking behind it; stages stay
abbrev pub ranking_after : Ranking → ℕ → List ℕ → Ranking
ranking_after k v victims = record k { cascades = cascades_after k v victims; greatest = max k.greatest (number k v) }

-- the registers behind it: v has the one that it takes, and those that are evicted have none
abbrev pub assignment_after : Assignment → ℕ → Reg → List ℕ → Assignment
assignment_after a v r victims w = cond (w == v) (Some r) (cond (has_number victims w) None (a w))
