-- A copy between registers of one class keeps the rules on its operands, widths, classes, indexes and definitions.
use Rattle.std.proofs.Common.{◌≡◌, ◌∷◌, ◌++◌, ◌∙◌, ◌&&◌, ◌||◌, not, ℕ, Bool, true, false, List, Option, Some, None, map, length, refl, sym, ap, subst, arith, eqb-true, []}
use Rattle.std.specs.Prelude.{◌==◌, is_some, slice_get}
use Rattle.std.specs.List.{list_all}
use Rattle.target_base.specs.declared.types.ClassId.{ClassId}
use Rattle.target_base.specs.declared.types.Effect.{Effect}
use Rattle.target_base.specs.declared.types.Effect.TheVariants as effects
use Rattle.target_base.specs.declared.types.OpcodeDesc.{OpcodeDesc}
use Rattle.target_base.specs.declared.types.Role.{Role}
use Rattle.target_base.specs.declared.types.Target.{Target}
use Rattle.target_base.specs.Numbers.{op_number}
use Rattle.target_base.specs.Registers.{fits, widths_of_some}
use Rattle.target_base.specs.Rules.{is_copy, starts_with_the_five}
use Rattle.target_base.specs.Storage.{same_numbers}
use Rattle.target_base.proofs.Lookups.{same_numbers_refl}
use Rattle.target_base.proofs.Sound.{opcodes_sound}
use Rattle.target_base.proofs.Tests.{first_of_both, second_of_both}
use Rattle.mir_func.specs.declared.func.Loc.TheVariants.{Virtual}
use Rattle.mir_func.specs.declared.func.RegOp.{RegOp}
use Rattle.mir_func.specs.declared.func.Operand.{Operand}
use Rattle.mir_func.specs.declared.func.Operand.TheVariants as operands
use Rattle.mir_func.specs.declared.func.Instr.{Instr}
use Rattle.mir_func.specs.Value.{Function}
use Rattle.mir_func.specs.Edits.{made}
use Rattle.mir_func.specs.Binding.{Bound, bound, class_of, does, explicit_bound, explicit_roles, implicit_bound, implicit_roles, numbered, passes, puts_together, roles_of}
use Rattle.mir_meaning.specs.declared.Form.TheVariants as forms
use Rattle.mir_meaning.specs.Rules.{V1, V2, V3, V4, V12, defined_lanes, early_fits, has_lanes, in_operand_class, is_opaque, is_taken_reserved, no_two_share, operands_fit, same_widths, subregs_fit, undef_fits, undef_uses_fit, widths_fit}
use Rattle.live_laws.specs.Effects.Shaped.{IsShaped}
use Rattle.split_kit.specs.Split.{whole}
use Rattle.split_laws.proofs.Ends.{copy-effect}

or-true : (b : Bool) → (b || true) ≡ true
or-true true = refl
or-true false = refl

-- the description of COPY

copy-is : (e : Effect) → is_copy e ≡ true → e ≡ effects.Copy
copy-is effects.Copy h = refl
copy-is e h = absurd (cc)

no-roles : (rs : List Role) → (length rs == 0) ≡ true → rs ≡ []
no-roles [] e = refl
no-roles (r ∷ rs) e = absurd (let z = eqb-true (length (r ∷ rs)) 0 e in omega arith)

record IsCopy (os : List OpcodeDesc) : Type 0 where
  pub desc : OpcodeDesc
  there : slice_get os 0 ≡ Some desc
  effect : desc.effect ≡ effects.Copy
  roles : desc.roles ≡ []

first-copies : (os : List OpcodeDesc) → starts_with_the_five os ≡ true → IsCopy os
first-copies [] e = absurd (cc)
first-copies (a ∷ []) e = absurd (cc)
first-copies (a ∷ b ∷ []) e = absurd (cc)
first-copies (a ∷ b ∷ c ∷ []) e = absurd (cc)
first-copies (a ∷ b ∷ c ∷ x ∷ []) e = absurd (cc)
first-copies (a ∷ b ∷ c ∷ x ∷ y ∷ os) e =
    let q = first_of_both _ _ (first_of_both _ _ (first_of_both _ _ (first_of_both _ _ e))) in
    record {
      desc = a;
      there = refl;
      effect = copy-is a.effect (second_of_both _ _ (first_of_both _ _ q));
      roles = no-roles a.roles (second_of_both _ _ q);
    }

copy-desc : (t : Target) → IsCopy t.opcodes
copy-desc t =
    let all = opcodes_sound t.name t.version t.units t.regs t.reserved t.indexes t.classes t.masks t.opcodes t.sound in
    first-copies t.opcodes (second_of_both _ _ (first_of_both _ _ (first_of_both _ _ all)))

module _ (t : Target) (g : Function) (id from to : ℕ) (class : class_of g to ≡ class_of g from) (some : is_some (class_of g from) ≡ true) where
  abbrev os : List Operand
  os = whole true to ∷ whole false from ∷ []

  abbrev x : Instr
  x = made id (op_number 0) os

  abbrev register : Bool → ℕ → RegOp
  register def v = record { loc = Virtual v; index = None; def = def; implicit = false; undef = false; early = false; renamable = false; tie = None }

  abbrev d : RegOp
  d = register true to

  abbrev s : RegOp
  s = register false from

  abbrev bs : List Bound
  bs = (None, operands.Reg d) ∷ (None, operands.Reg s) ∷ []

  desc : IsCopy t.opcodes
  desc = copy-desc t

  bare : roles_of t x ≡ []
  bare = ap (λ (q : Option OpcodeDesc). elim q as (λ q. List Role) [ None ↦ [] | Some z ↦ z.roles ]) desc.there ∙ desc.roles

  bound-is : bound t x ≡ bs
  bound-is = λ k. explicit_bound (explicit_roles (bare k)) os ++ map (implicit_bound (implicit_roles (bare k))) []

  one : V1 t g x ≡ true
  unfolding V1
  one =
      subst (λ q. elim q as (λ q. Bool) [ None ↦ true | Some z ↦ operands_fit t g z os z.effect ] ≡ true) (sym desc.there)
      (ap (operands_fit t g desc.desc os) desc.effect)

  in-class : (o : RegOp) → in_operand_class t g effects.Copy (None, operands.Reg o) ≡ true
  in-class o = or-true (not (has_lanes t g o) || is_taken_reserved t effects.Copy None o.loc)

  wide : same_widths t g d s ≡ true
  wide =
      ap (λ b. not (has_lanes t g d && has_lanes t g s) || b) (ap (λ q. same_numbers (widths_of_some t q) (widths_of_some t (class_of g from))) class ∙ same_numbers_refl (widths_of_some t (class_of g from)))
      ∙ or-true (not (has_lanes t g d && has_lanes t g s))

  two : V2 t g x ≡ true
  unfolding V2
  two =
      subst (λ q. elim q as (λ q. Bool) [ None ↦ true | Some z ↦ list_all (in_operand_class t g z.effect) (bound t x) && widths_fit t g z.effect os ] ≡ true) (sym desc.there)
      ((λ k. list_all (in_operand_class t g (desc.effect k)) (bound-is k) && widths_fit t g (desc.effect k) os)
      ∙ (λ k. (in-class d k && (in-class s k && true)) && (wide k && true && true)))

  known : is_some (class_of g to) ≡ true
  known = ap is_some class ∙ some

  three : V3 g x ≡ true
  unfolding V3
  three = λ k. known k && (some k && true)

  index-none : (q : Option ClassId) → elim q as (λ q. Bool) [ None ↦ true | Some c ↦ fits t c None ] ≡ true
  index-none None = refl
  index-none (Some c) = refl

  four : V4 t g x ≡ true
  unfolding V4
  four = λ k. (index-none (class_of g to) k && (index-none (class_of g from) k && true)) && (not (ap (passes puts_together) (copy-effect t id os) k) || subregs_fit t g os)

  twelve : V12 t forms.Source g x ≡ true
  unfolding V12
  twelve =
      λ k. list_all (undef_fits forms.Source (d ∷ s ∷ [])) (d ∷ [])
      && no_two_share (map (defined_lanes t g (does is_opaque t x)) (d ∷ []))
      && list_all (early_fits t g (bound-is k)) (numbered 0 (bound-is k))
      && undef_uses_fit (ap (passes is_opaque) (copy-effect t id os) k) (bound-is k)

  pub copy-shape : IsShaped t g x
  copy-shape = record { operands = one; widths = two; classes = three; indexes = four; definitions = twelve }
