-- Whether classes are those of a target.
use Rattle.std.specs.Prelude.{Bool, true, Option, Some, None, nat_lt, length}
use Rattle.target_base.specs.declared.types.ClassId.{ClassId}
use Rattle.target_base.specs.declared.types.Target.{Target}

-- the class, where there is one, is one of the target
abbrev pub is_class : Target → Option ClassId → Bool
is_class t None = true
is_class t (Some c) = nat_lt c.0 (length t.classes)
