-- Tests of explicit definitions, operand by operand.
use Rattle.std.proofs.Common.{◌≡◌, ◌∙◌, ℕ, ◌+◌, ◌<◌, ◌≤◌, Bool, true, false, ◌||◌, List, Option, Some, None, length, get_or, drop, refl, sym, ap}
use Rattle.std.specs.List.{list_any, cons_option}
use Rattle.target_base.specs.declared.types.Role.{Role}
use Rattle.mir_func.specs.declared.func.Operand.{Operand}
use Rattle.mir_func.specs.Binding.{Definition, after_first, definition_in, definitions, explicit_roles, first_role, is_implicit_operand, passes}
use Rattle.mir_func.proofs.Bound.{definitions_none}
use Rattle.instr_effects.proofs.Defined.{definitions_at, definitions_passed, definitions_seen}
use Rattle.phi_elim.proofs.Walks.{drop_all}

module _ (p : Definition → Bool) (rs : List Role) (k : ℕ) (os : List Operand) (total : Bool) where
  any_option : (m : Option Definition) (ds : List Definition) → list_any p (cons_option m ds) ≡ (passes p m || list_any p ds)
  any_option None ds = refl
  any_option (Some d) ds = refl

  -- an implicit operand is none of them
  pub early_passed : (o : Operand) → k < length os → o ≡ get_or os k o → is_implicit_operand o ≡ true → list_any p (definitions rs (drop k os)) ≡ total → list_any p (definitions rs (drop (k + 1) os)) ≡ total
  early_passed o h at implicit was = sym (ap (list_any p) (definitions_at rs rs os k o None h at (definitions_passed rs o implicit))) ∙ was

  module _ (o : Operand) (r : Option Role) (left : List Role) (h : k < length os) (at : o ≡ get_or os k o) (explicit : is_implicit_operand o ≡ false) (role : r ≡ first_role (explicit_roles rs)) (behind : explicit_roles left ≡ after_first (explicit_roles rs)) where
    step : (b : Bool) → passes p (definition_in (r, o)) ≡ b → list_any p (definitions rs (drop k os)) ≡ (b || list_any p (definitions left (drop (k + 1) os)))
    step b e = ap (list_any p) (definitions_at rs left os k o (definition_in (r, o)) h at (definitions_seen rs left o r explicit role behind)) ∙ any_option (definition_in (r, o)) (definitions left (drop (k + 1) os)) ∙ ap (λ c. c || list_any p (definitions left (drop (k + 1) os))) e

    pub early_next : passes p (definition_in (r, o)) ≡ false → list_any p (definitions rs (drop k os)) ≡ total → list_any p (definitions left (drop (k + 1) os)) ≡ total
    early_next fails was = sym (step false fails) ∙ was

    pub early_found : passes p (definition_in (r, o)) ≡ true → list_any p (definitions rs (drop k os)) ≡ total → true ≡ total
    early_found holds was = sym (step true holds) ∙ was

  pub early_none : length os ≤ k → list_any p (definitions rs (drop k os)) ≡ total → false ≡ total
  early_none h was = sym (ap (λ xs. list_any p (definitions rs xs)) (drop_all k os h) ∙ ap (list_any p) (definitions_none (explicit_roles rs))) ∙ was

pub ruleset earlies = (early_passed, early_next, early_found, early_none)
