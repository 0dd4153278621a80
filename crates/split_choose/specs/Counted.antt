-- When what the blocks of a function and a range in them cost can be counted.
use Rattle.std.specs.Prelude.{◌≡◌, ◌≤◌, ◌+◌, ℕ, true, nat_le, List, length, zip}
use Rattle.std.specs.List.{list_all, sum_by}
use Rattle.mir_func.specs.Value.{Function}
use Rattle.block_freq.specs.Weights.{block_uses, use_sum}

-- each block has a frequency, and these and the uses of the range together fit 128 bits
pub record AreCounted (f : Function) (freqs : List ℕ) (v : ℕ) : Type 0 where
  pub many : length freqs ≡ length f.blocks
  pub fits : sum_by (λ n. n) freqs + use_sum f.blocks freqs v ≤ 340282366920938463463374607431768211455

-- The function has few blocks, in each of which the frequency, and the frequency times the operands that name the range, are at most 2 ^ 112.
pub record IsSmall (f : Function) (freqs : List ℕ) (v : ℕ) : Type 0 where
  pub few : length f.blocks ≤ 1024
  pub frequencies : list_all (λ n. nat_le n 5192296858534827628530496329220096) freqs ≡ true
  pub uses : list_all (λ b. nat_le (block_uses v b) 5192296858534827628530496329220096) (zip freqs f.blocks) ≡ true
