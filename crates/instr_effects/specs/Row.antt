-- Lanes with numbers in a row.
use Rattle.std.specs.Prelude.{ℕ, ◌+◌, cond, nat_lt, Option, Some, None}

-- the number of lane k of lanes in a row
abbrev pub lane_in : ℕ → ℕ → ℕ → Option ℕ
lane_in first count k = cond (nat_lt k count) (Some (first + k)) None
