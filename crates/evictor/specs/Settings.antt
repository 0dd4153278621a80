-- What the choice of an eviction is made by in the code's terms, and what its answer rests on.
use Rattle.std.specs.Prelude.{◌≡◌, ◌<◌, ◌+◌, ◌*◌, ◌^◌, ℕ, Bool, true, cond, not, ◌&&◌, ◌||◌, ◌==◌, nat_lt, max, List, map, length, Option, Some, None, option_map, slice_get, unwrap_or, IfSome}
use Rattle.std.specs.List.{fold, list_all}
use Rattle.target_base.specs.declared.types.Reg.{Reg}
use Rattle.mir_func.specs.Value.{Function}
use Rattle.block_freq.specs.Weights.{use_sum, weight_of}
use Rattle.live_lanes.specs.declared.table.Table.{Table}
use Rattle.interference.specs.declared.matrix.Matrix.{Matrix}
use Rattle.evictor.specs.declared.ranks.Ranks.{Ranks}
use Rattle.evictor.specs.declared.choice.Eviction.{Eviction}
use Rattle.evictor.specs.declared.choice.RangeWeight.{RangeWeight}
use Rattle.live_lanes.specs.Held.{range_held}
use Rattle.live_lanes.specs.Looks.{InOrder}
use Rattle.interference.specs.Clashes.{is_fixed, is_in_way}
use Rattle.live_lanes.specs.Tells.{TellsInstrs}
use Rattle.evictor.specs.Spots.{IsUseSum}
use Rattle.evictor.specs.Cheapest.{Ranking, Facts, Setting, is_tiny, weight, qualifies, cost, clashers}

-- the stages and cascades of the code
abbrev pub ranking_of : Ranks → Ranking
ranking_of k = record { stages = k.stages; cascades = k.cascades; greatest = k.greatest }

-- what a matrix and its table tell of live points
abbrev pub facts_of : Matrix → ℕ → Facts
facts_of m v = record {
  fixed = is_fixed m v;
  in_the_way = is_in_way m v;
  points = λ w. range_held m.live.table m.live.func.blocks w;
}

-- what the choice for a range is made by
abbrev pub setting_of : Matrix → List ℕ → Ranks → ℕ → Setting
setting_of m freqs k v = record { func = m.live.func; freqs = freqs; ranking = ranking_of k; range = v; facts = facts_of m v }

-- the spill weight of a range
abbrev pub weight_in : Matrix → List ℕ → ℕ → ℕ
weight_in m freqs w = weight_of m.live.func.blocks freqs w (range_held m.live.table m.live.func.blocks w)

-- the use sum of a range, where it is known
abbrev pub known_uses : List (Option ℕ) → ℕ → Option ℕ
known_uses uses w = unwrap_or (slice_get uses w) None

-- weights rest on this: the table is in order and tells which instructions touch each range, the numbers are small enough, and
-- use sums that are known are right
pub record Weighs (x : Table) (f : Function) (freqs : List ℕ) (sums : List (Option ℕ)) : Type 0 where
  pub order : InOrder x
  pub tells : TellsInstrs f x
  pub points : (w : ℕ) → range_held x f.blocks w < 2 ^ 64
  pub uses : (w : ℕ) → 1024 * use_sum f.blocks freqs w < 2 ^ 128
  pub known : (w : ℕ) → IfSome (known_uses sums w) (IsUseSum f.blocks freqs w)

-- a range with its weight
abbrev pub weighed : ℕ → ℕ → RangeWeight
weighed w n = record { range = w; weight = n }

-- that is the weight of the range
abbrev pub IsWeighed : Matrix → List ℕ → RangeWeight → Type 0
IsWeighed m freqs k = k.weight ≡ weight_in m freqs k.range

-- the weight that those in the way must have less of; none where the range is a tiny
abbrev pub limit : Setting → Option ℕ
limit s = cond (is_tiny s.ranking s.range) None (Some (weight s s.range))

-- it is less than that
abbrev pub is_within : Option ℕ → ℕ → Bool
is_within None n = true
is_within (Some m) n = nat_lt n m

-- the greatest of these weights, if all are within the limit
abbrev pub cost_within : Option ℕ → List ℕ → Option ℕ
cost_within m ns = cond (list_all (is_within m) ns) (Some (fold max 0 ns)) None

-- a register with those that lose it, and the greatest of their weights
abbrev pub eviction_of : Reg → List ℕ → ℕ → Eviction
eviction_of r victims cost = record { register = r; cost = cost; victims = victims }

-- what giving the range a register costs, and those that lose theirs
abbrev pub eviction : Setting → Reg → Eviction
eviction s r = eviction_of r (clashers s r) (cost s r)

-- the same, where it may be given
abbrev pub eviction_at : Setting → Reg → Option Eviction
eviction_at s r = cond (qualifies s r) (Some (eviction s r)) None

-- the first costs less, or as much with fewer victims
abbrev pub costs_less : Eviction → Eviction → Bool
costs_less a b = nat_lt a.cost b.cost || (a.cost == b.cost && nat_lt (length a.victims) (length b.victims))

-- what of an eviction is answered
abbrev pub answer_of : Option Eviction → Option (Reg × List ℕ)
answer_of e = option_map (λ x. (x.register, x.victims)) e
