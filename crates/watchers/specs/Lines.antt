-- The lines of steps.
use Rattle.std.specs.Prelude.{ℕ, List, [], ◌++◌, Option, Some, None, codes, slice_get}
use Rattle.std.specs.List.{flat_map}
use Rattle.std.specs.Fmt.{decimal}
use Rattle.target_base.specs.declared.types.Target.{Target}
use Rattle.target_base.specs.declared.types.Reg.{Reg}
use Rattle.target_base.specs.declared.types.RegDesc.{RegDesc}
use Rattle.watchers.specs.declared.steps.Step.{Step}
use Rattle.watchers.specs.declared.steps.Step.TheVariants as steps
use Rattle.watchers.specs.declared.steps.Kind.{Kind}
use Rattle.watchers.specs.declared.steps.Kind.TheVariants as kinds

abbrev pub name_in : Option RegDesc → List ℕ
name_in None = []
name_in (Some d) = d.name

-- the name of a register; a register that the target lacks has an empty one
abbrev pub name_of : Target → Reg → List ℕ
name_of t r = name_in (slice_get t.regs r.0)

-- a range, as ` %5`
abbrev pub range_text : ℕ → List ℕ
range_text v = codes " %" ++ decimal v

-- ranges, as ` %5 %6`
abbrev pub ranges_text : List ℕ → List ℕ
ranges_text vs = flat_map range_text vs

-- a register, as ` $eax`
abbrev pub register_text : Target → Reg → List ℕ
register_text t r = codes " $" ++ name_of t r

-- a register, if there is one
abbrev pub optional_text : Target → Option Reg → List ℕ
optional_text t None = []
optional_text t (Some r) = register_text t r

-- a range and its register, as ` %5 $eax`
abbrev pub choice_text : Target → ℕ × Reg → List ℕ
choice_text t c = range_text c.0 ++ register_text t c.1

abbrev pub choices_text : Target → List (ℕ × Reg) → List ℕ
choices_text t cs = flat_map (choice_text t) cs

-- how a range is split
abbrev pub kind_text : Kind → List ℕ
kind_text kinds.Region = codes " region"
kind_text kinds.Block = codes " block"
kind_text kinds.Local = codes " local"

-- the line of a step
abbrev pub step_line : Target → Step → List ℕ
step_line t (steps.Begin k) = codes "function " ++ decimal k
step_line t (steps.Assign v r) = codes "assign" ++ (range_text v ++ register_text t r)
step_line t (steps.Evict v r out) = codes "evict" ++ (range_text v ++ (register_text t r ++ ranges_text out))
step_line t (steps.Defer v) = codes "defer" ++ range_text v
step_line t (steps.Divide v kind r parts) = codes "split" ++ (range_text v ++ (kind_text kind ++ (optional_text t r ++ (codes " ->" ++ ranges_text parts))))
step_line t (steps.Spill v tinies) = codes "spill" ++ (range_text v ++ (codes " ->" ++ ranges_text tinies))
step_line t (steps.Place cs) = codes "place" ++ choices_text t cs
