-- Classes behind lowering are the target's.
use Rattle.std.proofs.Common.{◌≡◌, ◌<◌, ◌∷◌, ◌++◌, ℕ, zero, suc, Bool, true, false, List, Option, Some, None, drop, length, refl, sym, ap, subst, arith, eqb-true, []}
use Rattle.std.specs.Prelude.{◌==◌, is_some, nat_lt, option_and_then, slice_get}
use Rattle.std.specs.List.{list_all}
use Rattle.std.proofs.lemmas.Bool.{ltb-true}
use Rattle.target_base.specs.declared.types.ClassId.{ClassId}
use Rattle.target_base.specs.declared.types.OpcodeDesc.{OpcodeDesc}
use Rattle.target_base.specs.declared.types.Role.{Role}
use Rattle.target_base.specs.declared.types.Role.TheVariants as roles
use Rattle.target_base.specs.declared.types.Target.{Target}
use Rattle.target_base.specs.Registers.{IsClass}
use Rattle.target_base.specs.Roles.{role_class, role_known}
use Rattle.target_base.specs.Rules.{is_opcode_desc, starts_with_the_five}
use Rattle.target_base.proofs.Sound.{opcodes_sound}
use Rattle.target_base.proofs.Tests.{first_of_both, second_of_both}
use Rattle.meaning.specs.Live.{Among}
use Rattle.mir_func.specs.declared.func.Loc.{Loc}
use Rattle.mir_func.specs.declared.func.Loc.TheVariants.{Fixed, Virtual}
use Rattle.mir_func.specs.declared.func.Op.{Op}
use Rattle.mir_func.specs.declared.func.Op.TheVariants as ops
use Rattle.mir_func.specs.declared.func.Instr.{Instr}
use Rattle.mir_func.specs.Value.{Function}
use Rattle.mir_func.specs.Binding.{known_opcode, roles_of}
use Rattle.phi_elim.specs.Phis.{all_instrs, located_class, phis_lowered}
use Rattle.two_address.specs.Lowered.{class_aside, class_if, classes_made, form_classes, form_of, instr_classes, next_range, ties_lowered}
use Rattle.two_address.specs.Sequences.{is_input, parts_of}
use Rattle.two_address.specs.Ties.{definition_class, ties_in}
use Rattle.two_address.specs.declared.forms.InstrLowering.{InstrLowering}
use Rattle.two_address.specs.declared.forms.InstrLowering.TheVariants as forms
use Rattle.instr_effects.proofs.Members.{either-elim, flat-of, member-elim, member-none}
use Rattle.live_laws.specs.Effects.Shaped.{AreClasses}
use Rattle.live_laws.proofs.Effects.Blocks.{member-slice, slice-member}
use Rattle.live_laws.proofs.Effects.Lists.{all-of}
use Rattle.live_laws.proofs.Effects.Moving.{some-same}
use Rattle.lowering_laws.specs.Blocks.{LoweredClasses}
use Rattle.lowering_laws.proofs.Eliminated.{eliminated-classes}

-- classes of roles are the target's

no-roles : (rs : List Role) → (length rs == 0) ≡ true → rs ≡ []
no-roles [] e = refl
no-roles (r ∷ rs) e = absurd (let z = eqb-true (length (r ∷ rs)) 0 e in omega arith)

module _ (t : Target) where
  abbrev pub AreKnown : List Role → Type 0
  AreKnown rs = list_all (role_known (length t.classes) (length t.regs)) rs ≡ true

  none-known : (a d : OpcodeDesc) → Some a ≡ Some d → (length a.roles == 0) ≡ true → AreKnown d.roles
  none-known a d e h = subst (λ (z : OpcodeDesc). AreKnown z.roles) (some-same a d e) (ap (list_all (role_known (length t.classes) (length t.regs))) (no-roles a.roles h))

  desc-known : (os : List OpcodeDesc) (k : ℕ) (d : OpcodeDesc) → slice_get os k ≡ Some d → starts_with_the_five os ≡ true → list_all (is_opcode_desc t.units t.regs t.classes) (drop 5 os) ≡ true → AreKnown d.roles
  desc-known [] k d g five rest = absurd (cc)
  desc-known (a ∷ []) k d g five rest = absurd (cc)
  desc-known (a ∷ b ∷ []) k d g five rest = absurd (cc)
  desc-known (a ∷ b ∷ c ∷ []) k d g five rest = absurd (cc)
  desc-known (a ∷ b ∷ c ∷ x ∷ []) k d g five rest = absurd (cc)
  desc-known (a ∷ b ∷ c ∷ x ∷ y ∷ os) zero d g five rest = let q = first_of_both _ _ (first_of_both _ _ (first_of_both _ _ (first_of_both _ _ five))) in none-known a d g (second_of_both _ _ q)
  desc-known (a ∷ b ∷ c ∷ x ∷ y ∷ os) (suc zero) d g five rest = let q = second_of_both _ _ (first_of_both _ _ (first_of_both _ _ (first_of_both _ _ five))) in none-known b d g (second_of_both _ _ q)
  desc-known (a ∷ b ∷ c ∷ x ∷ y ∷ os) (suc (suc zero)) d g five rest = let q = second_of_both _ _ (first_of_both _ _ (first_of_both _ _ five)) in none-known c d g (second_of_both _ _ q)
  desc-known (a ∷ b ∷ c ∷ x ∷ y ∷ os) (suc (suc (suc zero))) d g five rest = let q = second_of_both _ _ (first_of_both _ _ five) in none-known x d g (second_of_both _ _ q)
  desc-known (a ∷ b ∷ c ∷ x ∷ y ∷ os) (suc (suc (suc (suc zero)))) d g five rest = let q = second_of_both _ _ five in none-known y d g (second_of_both _ _ q)
  desc-known (a ∷ b ∷ c ∷ x ∷ y ∷ os) (suc (suc (suc (suc (suc k))))) d g five rest =
      let good = all-of (is_opcode_desc t.units t.regs t.classes) d os (slice-member os k d g) rest in
      second_of_both _ _ (first_of_both _ _ (first_of_both _ _ good))

  pub roles-known : (i : Instr) → AreKnown (roles_of t i)
  roles-known i = by i.op
    where
      at : (q : Option OpcodeDesc) (k : ℕ) → slice_get t.opcodes k ≡ q → AreKnown (elim q as (λ q. List Role) [ None ↦ [] | Some d ↦ d.roles ])
      at None k g = refl
      at (Some d) k g =
          let all = opcodes_sound t.name t.version t.units t.regs t.reserved t.indexes t.classes t.masks t.opcodes t.sound in
          desc-known t.opcodes k d g (second_of_both _ _ (first_of_both _ _ (first_of_both _ _ all))) (second_of_both _ _ (first_of_both _ _ all))

      by : (o : Op) → AreKnown (elim (known_opcode t o) as (λ q. List Role) [ None ↦ [] | Some d ↦ d.roles ])
      by (ops.Known o) = at (slice_get t.opcodes o.0) o.0 refl
      by (ops.Excluded name) = refl

  below : (a c : ClassId) → Some a ≡ Some c → (n : ℕ) → nat_lt a.0 n ≡ true → c.0 < n
  below a c e n h = subst (λ (k : ClassId). k.0 < n) (some-same a c e) (ltb-true a.0 n h)

  role-classed : (m : ℕ) (r : Role) (c : ClassId) → role_class r ≡ Some c → role_known (length t.classes) m r ≡ true → IsClass t c
  role-classed m (roles.Def k) c e h = below k c e (length t.classes) h
  role-classed m (roles.Early k) c e h = below k c e (length t.classes) h
  role-classed m (roles.Read k) c e h = below k c e (length t.classes) h
  role-classed m (roles.Tied k n) c e h = below k c e (length t.classes) h
  role-classed m (roles.Value (Some k)) c e h = below k c e (length t.classes) h
  role-classed m (roles.Value None) c e h = absurd (cc)
  role-classed m r c e h = absurd (cc)

  definition-classed : (i : Instr) (n : ℕ) (c : ClassId) → definition_class (roles_of t i) n ≡ Some c → IsClass t c
  definition-classed i n c e = go (slice_get (roles_of t i) n) refl e
    where
      go : (q : Option Role) → slice_get (roles_of t i) n ≡ q → option_and_then role_class q ≡ Some c → IsClass t c
      go None g h = absurd (cc)
      go (Some r) g h = role-classed (length t.regs) r c h (all-of (role_known (length t.classes) (length t.regs)) r (roles_of t i) (slice-member (roles_of t i) n r g) (roles-known i))

  chosen : (b : Bool) (k : Option ClassId) (c : ClassId) → Among (Some c) (class_if b k) → k ≡ Some c
  chosen true k c m = member-elim (Some c) k [] (λ e. sym e) (λ j. absurd (member-none (Some c) j)) m
  chosen false k c m = absurd (member-none (Some c) m)

  module _ (f : Function) (classes : AreClasses t f) where
    located : (l : Loc) (c : ClassId) → located_class f.classes l ≡ Some c → IsClass t c
    located (Virtual w) c g = classes w c g
    located (Fixed q) c g = absurd (cc)

    of-form : (n : ℕ) (i : Instr) (form : InstrLowering) (c : ClassId) → Among (Some c) (form_classes t f.classes n i form) → IsClass t c
    of-form n i (forms.Copy d s) c m = absurd (member-none (Some c) m)
    of-form n i (forms.Sequence v) c m = located (Virtual v) c (chosen (is_input (Virtual v) (parts_of (drop 1 i.operands))) (located_class f.classes (Virtual v)) c m)
    of-form n i (forms.Insertion v a p) c m = located (Virtual v) c (chosen (is_input (Virtual v) (p ∷ [])) (located_class f.classes (Virtual v)) c m)
    of-form n i forms.Other c m =
        let z = flat-of (class_aside (roles_of t i)) (Some c) (ties_in t n i) m in
        definition-classed i z.0.number c (chosen (is_some z.0.aside) (definition_class (roles_of t i) z.0.number) c z.2)

    of-made : (n : ℕ) (is : List Instr) (c : ClassId) → Among (Some c) (classes_made t f.classes n is) → IsClass t c
    of-made n [] c m = absurd (member-none (Some c) m)
    of-made n (i ∷ is) c m =
        either-elim (Some c) (instr_classes t f.classes n i) (classes_made t f.classes (next_range t f.classes n i) is)
        (λ k. of-form n i (form_of t i) c k) (λ k. of-made (next_range t f.classes n i) is c k) m

    ties-classes : AreClasses t (ties_lowered t f)
    unfolding ties_lowered
    ties-classes v c e = go (slice_get (f.classes ++ classes_made t f.classes (length f.classes) (all_instrs f.blocks)) v) refl e
      where
        go : (q : Option (Option ClassId)) → slice_get (f.classes ++ classes_made t f.classes (length f.classes) (all_instrs f.blocks)) v ≡ q → elim q as (λ q. Option ClassId) [ None ↦ None | Some y ↦ y ] ≡ Some c → IsClass t c
        go None g h = absurd (cc)
        go (Some q) g h =
            let new = classes_made t f.classes (length f.classes) (all_instrs f.blocks) in
            let m : Among (Some c) (f.classes ++ new) = subst (λ x. Among x (f.classes ++ new)) h (slice-member (f.classes ++ new) v q g) in
            either-elim (Some c) f.classes new
            (λ k. let w = member-slice (Some c) f.classes k in classes w.0 c (ap (λ q. elim q as (λ q. Option ClassId) [ None ↦ None | Some y ↦ y ]) w.1))
            (λ k. of-made (length f.classes) (all_instrs f.blocks) c k) m

pub lowered_classes : LoweredClasses
lowered_classes t f classes = ties-classes t (phis_lowered t f) (eliminated-classes t f classes)
