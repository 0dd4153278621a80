-- The writes of instructions that are early.
use Rattle.std.proofs.Common.{ℕ, suc, Bool, true, false, cond, not, List, [], ◌∷◌, ◌++◌, Some, map, filter, length, ap}
use Rattle.target_base.specs.declared.types.Effect.{Effect}
use Rattle.target_base.specs.declared.types.Effect.TheVariants as effects
use Rattle.target_base.specs.declared.types.OpaqueKind.{OpaqueKind}
use Rattle.target_base.specs.declared.types.OpaqueKind.TheVariants as kinds
use Rattle.target_base.specs.declared.types.Role.{Role}
use Rattle.target_base.specs.declared.types.Target.{Target}
use Rattle.meaning.specs.declared.types.Lane.{Lane}
use Rattle.meaning.specs.declared.types.Lane.TheVariants.{UnitLane}
use Rattle.meaning.specs.declared.types.Fill.TheVariants.{Computed}
use Rattle.meaning.specs.Lanes.{Writes}
use Rattle.mir_func.specs.declared.func.RegOp.{RegOp}
use Rattle.mir_func.specs.declared.func.Operand.{Operand}
use Rattle.mir_func.specs.declared.func.Operand.TheVariants as operands
use Rattle.mir_func.specs.declared.func.Instr.{Instr}
use Rattle.mir_func.specs.Value.{Function}
use Rattle.mir_func.specs.Binding.{definitions, implicit_roles, roles_of}
use Rattle.mir_meaning.specs.Registers.{operand_lanes, located_lanes, undefined_lanes, use_sources, is_reserved}
use Rattle.mir_meaning.specs.Items.{write, moved, undefined, computed, defined_undef, given_constant, constant_lanes, constant_of, parts, all_lanes, implicit_definitions, implicit_writes, further_writes, opaque_clobbers, defined_lanes, kept, is_flags, answered, clobbered, unreserved}
use Rattle.instr_effects.specs.Acts.{call_writes, is_call, unpreserved}
use Rattle.instr_effects.proofs.Members.{member-none, member-elim, filter-of}
use Rattle.live_laws.proofs.Effects.Flags.{Uniform, uniform-none, uniform-undefined, uniform-moved, uniform-join}

uniform-computed : (b : Bool) (n : ℕ) (ls : List Lane) → Uniform b (computed b n ls)
uniform-computed b n [] w m = absurd (member-none w m)
uniform-computed b n (l ∷ ls) w m = member-elim w (write b l (Computed n)) (computed b (suc n) ls) (λ e. ap (λ v. v.early) e) (λ k. uniform-computed b (suc n) ls w k) m

module _ (t : Target) (f : Function) where
  pub uniform-undef : (os : List Operand) → Uniform false (defined_undef t f os)
  uniform-undef [] = uniform-none false
  uniform-undef (operands.Reg d ∷ os) = uniform-undefined false (operand_lanes t f d ++ undefined_lanes t f d)
  uniform-undef (o ∷ os) = uniform-none false

  pub uniform-constant : (early : Bool) (os : List Operand) → Uniform early (given_constant t f early os)
  uniform-constant early [] = uniform-none early
  uniform-constant early (operands.Reg d ∷ []) = uniform-none early
  uniform-constant early (operands.Reg d ∷ o ∷ os) = uniform-join early (moved early (operand_lanes t f d) (constant_lanes t f d (constant_of _ o))) (undefined early (undefined_lanes t f d)) (uniform-moved early (operand_lanes t f d) (constant_lanes t f d (constant_of _ o))) (uniform-undefined early (undefined_lanes t f d))
  uniform-constant early (o ∷ os) = uniform-none early

  pub uniform-parts : (d : RegOp) (os : List Operand) → Uniform false (parts t f d os)
  uniform-parts d [] = uniform-none false
  uniform-parts d (operands.Reg s ∷ operands.Index x ∷ os) = uniform-join false (moved false (located_lanes t f d.loc (Some x)) (use_sources t f s)) (parts t f d os) (uniform-moved false (located_lanes t f d.loc (Some x)) (use_sources t f s)) (uniform-parts d os)
  uniform-parts d os = uniform-none false

  pub uniform-call : (e : Effect) (os : List Operand) → Uniform false (call_writes t e os)
  uniform-call e os = go (is_call e)
    where
      go : (b : Bool) → Uniform false (cond b (undefined false (map UnitLane (unpreserved t os))) [])
      go true = uniform-undefined false (map UnitLane (unpreserved t os))
      go false = uniform-none false

  uniform-kept : (ws : Writes) → Uniform false ws → Uniform false (kept t ws)
  uniform-kept ws u w m = u w (filter-of (λ v. not (is_reserved t v.lane)) w ws m).0

  uniform-implicit : (e : Effect) (rs : List Role) (os : List Operand) → Uniform false (implicit_writes t f e rs os)
  uniform-implicit effects.Cmp rs os =
      uniform-kept (computed false 0 (all_lanes t f (filter (is_flags rs) (implicit_definitions os))) ++ undefined false (all_lanes t f (implicit_definitions os)))
      (uniform-join false (computed false 0 (all_lanes t f (filter (is_flags rs) (implicit_definitions os)))) (undefined false (all_lanes t f (implicit_definitions os))) (uniform-computed false 0 (all_lanes t f (filter (is_flags rs) (implicit_definitions os)))) (uniform-undefined false (all_lanes t f (implicit_definitions os))))
  uniform-implicit effects.Call rs os = uniform-join false (computed false 0 (answered t f os)) (undefined false (clobbered t os)) (uniform-computed false 0 (answered t f os)) (uniform-undefined false (clobbered t os))
  uniform-implicit e rs os = uniform-undefined false (unreserved t (all_lanes t f (implicit_definitions os)))

  uniform-clobbers : (kind : OpaqueKind) (os : List Operand) → Uniform false (opaque_clobbers t kind os)
  uniform-clobbers kinds.Call os = uniform-undefined false (clobbered t os)
  uniform-clobbers kind os = uniform-none false

  pub uniform-further : (e : Effect) (i : Instr) → Uniform false (further_writes t f e i)
  uniform-further (effects.Opaque kind) i =
      let n = length (defined_lanes t f (definitions (roles_of t i) i.operands)) in
      let lanes = all_lanes t f (implicit_definitions i.operands) in
      uniform-join false (computed false n lanes) (opaque_clobbers t kind i.operands) (uniform-computed false n lanes) (uniform-clobbers kind i.operands)
  uniform-further e i = uniform-implicit e (implicit_roles (roles_of t i)) i.operands
