-- How often each register was given.
use Rattle.std.specs.Prelude.{ℕ, List, [], ◌∷◌, ◌++◌, codes, if◌then◌else◌, ◌==◌, nat_le, Option, Some, None, slice_get}
use Rattle.std.specs.Fmt.{decimal}
use Rattle.target_base.specs.declared.types.Target.{Target}
use Rattle.target_base.specs.declared.types.Reg.{Reg}
use Rattle.watchers.specs.declared.steps.Step.{Step}
use Rattle.watchers.specs.declared.steps.Step.TheVariants as steps
use Rattle.watchers.specs.declared.pressure.RegisterCount.{RegisterCount}
use Rattle.watchers.specs.Lines.{name_of}
use Rattle.watchers.specs.Counts.{one_more}

-- a register that was given for the first time
abbrev pub first_given : Target → Reg → RegisterCount
first_given t r = record { register = r; name = name_of t r; count = 1 }

-- a register that was given before
abbrev pub given_again : RegisterCount → RegisterCount
given_again g = record g { count = one_more g.count }

-- The entries, in target order, after one more register is given: its count rises, or it gets an
-- entry, before those of later registers.
abbrev pub given_once : Target → List RegisterCount → Reg → List RegisterCount
given_once t [] r = first_given t r ∷ []
given_once t (g ∷ gs) r =
    if nat_le r.0 g.register.0 then (if g.register.0 == r.0 then given_again g ∷ gs else first_given t r ∷ g ∷ gs)
    else g ∷ given_once t gs r

-- after the registers of a place are given, each once
abbrev pub given_all : Target → List RegisterCount → List (ℕ × Reg) → List RegisterCount
given_all t gs [] = gs
given_all t gs (c ∷ cs) = given_all t (given_once t gs c.1) cs

-- the entries after a step
abbrev pub given_by : Target → List RegisterCount → Step → List RegisterCount
given_by t gs (steps.Begin k) = gs
given_by t gs (steps.Assign v r) = given_once t gs r
given_by t gs (steps.Evict v r out) = given_once t gs r
given_by t gs (steps.Defer v) = gs
given_by t gs (steps.Divide v kind r parts) = gs
given_by t gs (steps.Spill v tinies) = gs
given_by t gs (steps.Place cs) = given_all t gs cs

abbrev pub given_line : RegisterCount → List ℕ
given_line g = codes "given $" ++ (g.name ++ (codes " " ++ decimal g.count))

abbrev pub line_in : Option RegisterCount → List ℕ
line_in None = []
line_in (Some g) = given_line g

-- the line of the k-th entry
abbrev pub given_line_at : List RegisterCount → ℕ → List ℕ
given_line_at gs k = line_in (slice_get gs k)
