-- Counted calls, of which those whose numbers are listed fail.
use Rattle.std.specs.Prelude.{◌==◌, ℕ, ◌+◌, ◌-◌, ◌^◌, Bool, List, min}
use Rattle.std.specs.List.{list_any}

-- one more, where that fits 64 bits
abbrev pub raised : ℕ → ℕ
raised n = min (n + 1) (2 ^ 64 - 1)

-- whether the list holds the number of a call
abbrev pub is_listed : List ℕ → ℕ → Bool
is_listed fails call = list_any (λ n. n == call) fails

-- whether the call after so many is to fail
abbrev pub is_due : List ℕ → ℕ → Bool
is_due fails calls = is_listed fails (raised calls)
