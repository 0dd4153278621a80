-- Operands with their roles, one after the other, and what is numbered.
use Rattle.std.proofs.Common.{◌≡◌, ℕ, ◌+◌, suc, Bool, true, false, cond, not, List, [], ◌∷◌, ◌++◌, map, filter, length, Option, Some, None, refl, ap, sym, ◌∙◌, arith}
use Rattle.std.specs.List.{cons_option, filter_map}
use Rattle.target_base.specs.declared.types.Role.{Role}
use Rattle.mir_func.specs.declared.func.RegOp.{RegOp}
use Rattle.mir_func.specs.declared.func.Operand.{Operand}
use Rattle.mir_func.specs.declared.func.Operand.TheVariants as operands
use Rattle.mir_func.specs.Binding.{Bound, Definition, after_first, definition_in, definitions, explicit_bound, explicit_operands, explicit_roles, first_role, is_definition, is_early, is_implicit_operand, numbered, passes, registers}

-- the first operand takes the first role
pub bound_step : (rs : List Role) (o : Operand) (os : List Operand) → explicit_bound rs (o ∷ os) ≡ (first_role rs, o) ∷ explicit_bound (after_first rs) os
bound_step [] o os = refl
bound_step (r ∷ rs) o os = refl

-- without operands there is nothing
pub bound_none : (rs : List Role) → explicit_bound rs [] ≡ []
bound_none [] = refl
bound_none (r ∷ rs) = refl

-- the operands with roles are the operands
pub bound_operands : (rs : List Role) (os : List Operand) → map (λ b. b.1) (explicit_bound rs os) ≡ os
bound_operands rs [] = ap (map (λ b. b.1)) (bound_none rs)
bound_operands rs (o ∷ os) = ap (map (λ b. b.1)) (bound_step rs o os) ∙ ap (λ xs. o ∷ xs) (bound_operands (after_first rs) os)

-- changed operands take the same roles
pub bound_changed : (change : Operand → Operand) (rs : List Role) (os : List Operand) → explicit_bound rs (map change os) ≡ map (λ b. (b.0, change b.1)) (explicit_bound rs os)
bound_changed change rs [] = bound_none rs ∙ ap (map (λ b. (b.0, change b.1))) (sym (bound_none rs))
bound_changed change rs (o ∷ os) =
    bound_step rs (change o) (map change os)
    ∙ (ap (λ bs. (first_role rs, change o) ∷ bs) (bound_changed change (after_first rs) os)
    ∙ ap (map (λ b. (b.0, change b.1))) (sym (bound_step rs o os)))

-- numbered things are the things
pub numbered_things : {X : Type 0} (n : ℕ) (xs : List X) → map (λ p. p.1) (numbered n xs) ≡ xs
numbered_things n [] = refl
numbered_things n (x ∷ xs) = ap (λ ys. x ∷ ys) (numbered_things (suc n) xs)

-- things behind others are numbered on
pub numbered_append : {X : Type 0} (n : ℕ) (xs ys : List X) → numbered n (xs ++ ys) ≡ numbered n xs ++ numbered (n + length xs) ys
numbered_append n [] ys = let e : n + 0 ≡ n = omega arith in ap (λ k. numbered k ys) (sym e)
numbered_append n (x ∷ xs) ys =
    let e : suc n + length xs ≡ n + length (x ∷ xs) = omega arith in
    ap (λ zs. (n, x) ∷ zs) (numbered_append (suc n) xs ys ∙ ap (λ k. numbered (suc n) xs ++ numbered k ys) e)

-- the explicit definitions of operands that take these explicit roles
abbrev pub seated_definitions : List Role → List Operand → List Definition
seated_definitions qs os = filter_map definition_in (explicit_bound qs (explicit_operands os))

-- the definitions of operands behind the first
abbrev pub definitions_behind : List Role → Operand → List Operand → Bool → List Definition
definitions_behind qs o os implicit = cond implicit (seated_definitions qs os) (cons_option (definition_in (first_role qs, o)) (seated_definitions (after_first qs) os))

pub definitions_step : (qs : List Role) (o : Operand) (os : List Operand) → seated_definitions qs (o ∷ os) ≡ definitions_behind qs o os (is_implicit_operand o)
definitions_step qs o os = by (is_implicit_operand o)
  where
    by : (b : Bool) → filter_map definition_in (explicit_bound qs (cond (not b) (o ∷ explicit_operands os) (explicit_operands os))) ≡ definitions_behind qs o os b
    by true = refl
    by false = ap (filter_map definition_in) (bound_step qs o (explicit_operands os))

pub definitions_none : (qs : List Role) → seated_definitions qs [] ≡ []
definitions_none qs = ap (filter_map definition_in) (bound_none qs)
