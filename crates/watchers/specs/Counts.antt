-- How often each kind of step was told.
use Rattle.std.specs.Prelude.{ℕ, ◌+◌, ◌-◌, ◌^◌, List, ◌++◌, codes, min}
use Rattle.std.specs.Fmt.{decimal}
use Rattle.watchers.specs.declared.steps.Step.{Step}
use Rattle.watchers.specs.declared.steps.Step.TheVariants as steps

-- one more, but a count that has reached 2 ^ 64 - 1 stands there
abbrev pub one_more : ℕ → ℕ
one_more n = min (n + 1) (2 ^ 64 - 1)

-- the beginnings of runs aren't counted
pub record Counts : Type 0 where
  pub assigned : ℕ
  pub evicted : ℕ
  pub deferred : ℕ
  pub divided : ℕ
  pub spilled : ℕ
  pub placed : ℕ

abbrev pub no_counts : Counts
no_counts = record { assigned = 0; evicted = 0; deferred = 0; divided = 0; spilled = 0; placed = 0 }

-- the counts after a step
abbrev pub counted : Counts → Step → Counts
counted c (steps.Begin k) = c
counted c (steps.Assign v r) = record c { assigned = one_more c.assigned }
counted c (steps.Evict v r out) = record c { evicted = one_more c.evicted }
counted c (steps.Defer v) = record c { deferred = one_more c.deferred }
counted c (steps.Divide v kind r parts) = record c { divided = one_more c.divided }
counted c (steps.Spill v tinies) = record c { spilled = one_more c.spilled }
counted c (steps.Place cs) = record c { placed = one_more c.placed }

abbrev pub counts_line : Counts → List ℕ
counts_line c =
    codes "assign " ++ (decimal c.assigned ++ (codes " evict " ++ (decimal c.evicted ++ (codes " defer " ++ (decimal c.deferred
    ++ (codes " split " ++ (decimal c.divided ++ (codes " spill " ++ (decimal c.spilled ++ (codes " place " ++ decimal c.placed))))))))))
