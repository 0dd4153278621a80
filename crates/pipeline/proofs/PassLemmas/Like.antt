-- What is said of a function under a target is said of its like.
use Rattle.std.specs.Prelude.{◌≡◌}
use Rattle.std.proofs.Common.{subst}
use Rattle.target_base.specs.declared.types.Target.{Target}
use Rattle.mir_func.specs.Value.{Function}

pub moved : (P : Target → Function → Type 0) (t t2 : Target) (f f2 : Function) → t ≡ t2 → f ≡ f2 → P t f → P t2 f2
moved P t t2 f f2 et ef p = subst (P t2) ef (subst (λ s. P s f) et p)
