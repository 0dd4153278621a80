-- Where stores and reloads, and no other instructions, name the slots, they do so by their roles.
use Rattle.std.proofs.Common.{◌≡◌, ◌∙◌, ◌&&◌, ◌||◌, not, ℕ, Bool, true, false, cond, List, [], ◌∷◌, Option, Some, None, map, refl, sym, ap, subst}
use Rattle.std.specs.Bool.{beq}
use Rattle.std.specs.List.{list_all}
use Rattle.target_base.specs.declared.types.ClassId.{ClassId}
use Rattle.target_base.specs.declared.types.Effect.{Effect}
use Rattle.target_base.specs.declared.types.Effect.TheVariants as effects
use Rattle.target_base.specs.declared.types.Role.{Role}
use Rattle.target_base.specs.declared.types.Role.TheVariants as roles
use Rattle.target_base.specs.declared.types.Target.{Target}
use Rattle.target_base.specs.Roles.{is_implicit, is_slot}
use Rattle.target_base.proofs.Tests.{first_of_both, second_of_both}
use Rattle.meaning.specs.Live.{Among as Member}
use Rattle.mir_func.specs.declared.func.Operand.{Operand}
use Rattle.mir_func.specs.declared.func.Operand.TheVariants as operands
use Rattle.mir_func.specs.declared.func.Instr.{Instr}
use Rattle.mir_func.specs.Value.{Function}
use Rattle.mir_func.specs.Binding.{Bound, bound, effect_of, explicit_bound, explicit_operands, explicit_roles, implicit_bound, implicit_registers, implicit_roles, is_implicit_operand, passes, roles_of, takes_many}
use Rattle.mir_meaning.specs.Rules.{explicit_fit, fits_at, fits_opaque, fits_role, is_opaque, spills_or_reloads}
use Rattle.instr_effects.proofs.Members.{either-elim, filter-of, map-of, member-elim, member-none}
use Rattle.live_laws.specs.Effects.Shaped.{IsShaped}
use Rattle.live_laws.proofs.Effects.Lists.{all-of}
use Rattle.live_laws.proofs.Touch.Roles.{fit, has_roles, met}
use Rattle.lowering_laws.proofs.Formed.{all-by}
use Rattle.lowering_laws.proofs.Rolled.{bare-roles}
use Rattle.lowering_laws.proofs.Seated.{bound-operand, bound-role}
use Rattle.join_laws.proofs.Named.{known}
use Rattle.slot_laws.proofs.Shaped.{lacks, no-slot, role-lacks}
use Rattle.valid_laws.specs.Rules.{SlotsByEffect, is_given_slot, slot_role_fits, slot_effect_fits}
use Rattle.valid_laws.proofs.Slots.{unbound}

-- an explicit operand that fits takes a role
seat-fits : (t : Target) (e : Effect) (rs : List Role) (os : List Operand) → explicit_fit t e rs os ≡ true → (q : Option Role) (x : Operand) → Member (q, x) (explicit_bound rs os) → (r : Role) × (q ≡ Some r) × (fits_at t e r x ≡ true)
seat-fits t e rs [] w q x m = absurd (member-none (q, x) m)
seat-fits t e [] (y ∷ os) w q x m = absurd (cc)
seat-fits t e (s ∷ rs) (y ∷ os) w q x m =
    let rest = cond (takes_many s) (s ∷ rs) rs in
    member-elim (q, x) (Some s, y) (explicit_bound rest os)
    (λ k. (s, ap (λ (b : Bound). b.0) k, ap (λ (b : Bound). fits_at t e s b.1) k ∙ first_of_both (fits_at t e s y) (explicit_fit t e rest os) w))
    (λ k. seat-fits t e rest os (second_of_both (fits_at t e s y) (explicit_fit t e rest os) w) q x k) m

or-none : (a : Bool) → (a || false) ≡ true → a ≡ true
or-none true e = refl
or-none false e = absurd (cc)

slot-is : (r : Role) → is_slot r ≡ true → r ≡ roles.Slot
slot-is roles.Slot e = refl
slot-is r e = absurd (cc)

abbrev HasRoles : Effect → Type 0
HasRoles e = has_roles e ≡ true

module _ (t : Target) (f : Function) (i : Instr) (e : Effect) (is : effect_of t i ≡ Some e) (shaped : IsShaped t f i) where
  abbrev rs : List Role
  rs = explicit_roles (roles_of t i)

  abbrev Seated : Option Role → Operand → Type 0
  Seated q x = Member (q, x) (explicit_bound rs (explicit_operands i.operands))

  seat : HasRoles e → (q : Option Role) (x : Operand) → Seated q x → (r : Role) × (q ≡ Some r) × (fits_at t e r x ≡ true) × Member r (roles_of t i)
  seat h q x m =
      let z = met t f i e is shaped.operands in
      let same : roles_of t i ≡ z.0.roles = ap (λ y. elim y as (λ y. List Role) [ None ↦ [] | Some d ↦ d.roles ]) z.1 in
      let y = seat-fits t e (explicit_roles z.0.roles) (explicit_operands i.operands) (fit t f i e is shaped.operands h).explicit q x (subst (λ rs. Member (q, x) (explicit_bound (explicit_roles rs) (explicit_operands i.operands))) same m) in
      let there = bound-role rs (explicit_operands i.operands) y.0 x (subst (λ p. Seated p x) y.1 m) in
      (y.0, y.1, y.2, (filter-of (λ r. not (is_implicit r)) y.0 (roles_of t i) there).0)

  lacks-role : HasRoles e → (r : Role) → is_implicit r ≡ false → lacks r e ≡ true → Member r (roles_of t i) → ⊥
  lacks-role h r n l m = role-lacks t f i e is shaped.operands h r n l m

  -- a frame object of a store or a reload takes the role of a slot
  object-slot : HasRoles e → is_opaque e ≡ false → lacks roles.Frame e ≡ true → ((k : ClassId) → lacks (roles.Address k) e ≡ true) → (q : Option Role) (n : ℕ) → Seated q (operands.Stack n) → passes is_slot q ≡ true
  object-slot h plain none other q n m =
      let z = seat h q (operands.Stack n) m in
      ap (passes is_slot) z.1 ∙ by z.0 (or-none (fits_role z.0 (operands.Stack n)) (subst (λ b. (fits_role z.0 (operands.Stack n) || (b && fits_opaque t z.0 (operands.Stack n))) ≡ true) plain z.2)) z.3
    where
      by : (r : Role) → fits_role r (operands.Stack n) ≡ true → Member r (roles_of t i) → is_slot r ≡ true
      by roles.Slot k j = refl
      by roles.Frame k j = absurd (lacks-role h roles.Frame refl none j)
      by (roles.Address c) k j = absurd (lacks-role h (roles.Address c) refl (other c) j)
      by r k j = absurd (cc)

  -- no other opcode has such a role
  object-other : spills_or_reloads e ≡ false → (q : Option Role) (n : ℕ) → Seated q (operands.Stack n) → passes is_slot q ≡ false
  object-other other q n m = go (has_roles e) refl
    where
      at : has_roles e ≡ true → (r : Role) → Member r (roles_of t i) → (u : Bool) → is_slot r ≡ u → u ≡ false
      at h r j false s = refl
      at h r j true s = absurd (lacks-role h roles.Slot refl (no-slot e other) (subst (λ x. Member x (roles_of t i)) (slot-is r s) j))

      go : (h : Bool) → has_roles e ≡ h → passes is_slot q ≡ false
      go true h = let z = seat h q (operands.Stack n) m in ap (passes is_slot) z.1 ∙ at h z.0 z.3 (is_slot z.0) refl
      go false h = ap (passes is_slot) (unbound (explicit_operands i.operands) (q, operands.Stack n) (subst (λ rs. Member (q, operands.Stack n) (explicit_bound (explicit_roles rs) (explicit_operands i.operands))) (bare-roles t i e is h) m))

  object-role : (q : Option Role) (n : ℕ) → Seated q (operands.Stack n) → passes is_slot q ≡ spills_or_reloads e
  object-role q n m = go e refl
    where
      go : (x : Effect) → e ≡ x → passes is_slot q ≡ spills_or_reloads e
      go effects.Spill g = object-slot (ap has_roles g) (ap is_opaque g) (ap (lacks roles.Frame) g) (λ k. ap (lacks (roles.Address k)) g) q n m ∙ sym (ap spills_or_reloads g)
      go effects.Reload g = object-slot (ap has_roles g) (ap is_opaque g) (ap (lacks roles.Frame) g) (λ k. ap (lacks (roles.Address k)) g) q n m ∙ sym (ap spills_or_reloads g)
      go x g = object-other (ap spills_or_reloads g) q n m ∙ sym (ap spills_or_reloads g)

  module _ (slots : List (ℕ × ClassId)) (named : list_all (slot_effect_fits t slots i) i.operands ≡ true) where
    one : (b : Bound) → Member b (bound t i) → slot_role_fits slots b ≡ true
    one (q, operands.Stack n) m =
        either-elim (q, operands.Stack n) (explicit_bound rs (explicit_operands i.operands)) (map (implicit_bound (implicit_roles (roles_of t i))) (implicit_registers i.operands))
        (λ k.
        let there = (filter-of (λ o. not (is_implicit_operand o)) (operands.Stack n) i.operands (bound-operand rs (explicit_operands i.operands) q (operands.Stack n) k)).0 in
        let was = all-of (slot_effect_fits t slots i) (operands.Stack n) i.operands there named in
        ap (λ u. beq u (is_given_slot slots n)) (object-role q n k ∙ sym (ap (passes spills_or_reloads) is)) ∙ was)
        (λ k. absurd (let y = map-of (implicit_bound (implicit_roles (roles_of t i))) (q, operands.Stack n) (implicit_registers i.operands) k in let z : operands.Stack n ≡ operands.Reg y.0 = ap (λ (x : Bound). x.1) y.2 in cc))
        m
    one (q, operands.Reg z) m = refl
    one (q, operands.Imm z) m = refl
    one (q, operands.Block z) m = refl
    one (q, operands.FixedStack z) m = refl
    one (q, operands.Symbol z) m = refl
    one (q, operands.Index z) m = refl
    one (q, operands.Mask z) m = refl

    pub all-fit : list_all (slot_role_fits slots) (bound t i) ≡ true
    all-fit = all-by (slot_role_fits slots) (bound t i) one

pub slots-by-effect : SlotsByEffect
slots-by-effect t f slots low frames named = record {
  frames = frames;
  operands = λ b i mb mi.
      let e = known t i (low.lowered b i mb mi) in
      all-fit t f i e.0.0 e.0.1 (low.rules.shaped b i mb mi) slots (named b i mb mi);
}
