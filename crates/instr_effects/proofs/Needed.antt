-- Which uses have to be defined, operand by operand.
use Rattle.std.proofs.Common.{◌≡◌, Bool, true, false, cond, not, List, [], ◌∷◌, Option, refl, ap, sym, ◌∙◌}
use Rattle.std.specs.List.{cons_option, filter_map}
use Rattle.target_base.specs.declared.types.Role.{Role}
use Rattle.mir_func.specs.declared.func.Operand.{Operand}
use Rattle.mir_func.specs.Binding.{after_first, explicit_bound, explicit_operands, explicit_roles, first_role, is_implicit_operand}
use Rattle.mir_func.proofs.Bound.{bound_step}
use Rattle.mir_meaning.specs.Items.{explicit_needs, needs_value}

-- the same for operands that take these explicit roles
abbrev seated_needs : List Role → List Operand → List Bool
seated_needs qs os = filter_map needs_value (explicit_bound qs (explicit_operands os))

-- those behind the first operand
abbrev needs_behind : List Role → Operand → List Operand → Bool → List Bool
needs_behind qs o os implicit = cond implicit (seated_needs qs os) (cons_option (needs_value (first_role qs, o)) (seated_needs (after_first qs) os))

needs-step : (qs : List Role) (o : Operand) (os : List Operand) → seated_needs qs (o ∷ os) ≡ needs_behind qs o os (is_implicit_operand o)
needs-step qs o os = by (is_implicit_operand o)
  where
    by : (b : Bool) → filter_map needs_value (explicit_bound qs (cond (not b) (o ∷ explicit_operands os) (explicit_operands os))) ≡ needs_behind qs o os b
    by true = refl
    by false = ap (filter_map needs_value) (bound_step qs o (explicit_operands os))

-- an explicit operand takes the next role
pub needs_seen : (rs left : List Role) (o : Operand) (r : Option Role) → is_implicit_operand o ≡ false → r ≡ first_role (explicit_roles rs) → explicit_roles left ≡ after_first (explicit_roles rs) → (os : List Operand) → explicit_needs rs (o ∷ os) ≡ cons_option (needs_value (r, o)) (explicit_needs left os)
needs_seen rs left o r h e g os =
    needs-step (explicit_roles rs) o os
    ∙ (ap (needs_behind (explicit_roles rs) o os) h
    ∙ (ap (λ q. cons_option (needs_value (q, o)) (seated_needs (after_first (explicit_roles rs)) os)) (sym e)
    ∙ ap (λ qs. cons_option (needs_value (r, o)) (seated_needs qs os)) (sym g)))

-- an implicit one takes none of them
pub needs_passed : (rs : List Role) (o : Operand) → is_implicit_operand o ≡ true → (os : List Operand) → explicit_needs rs (o ∷ os) ≡ explicit_needs rs os
needs_passed rs o h os = needs-step (explicit_roles rs) o os ∙ ap (needs_behind (explicit_roles rs) o os) h
