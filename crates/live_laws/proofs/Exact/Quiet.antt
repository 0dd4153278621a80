-- Behind a terminator stand terminators, which write units alone; phis read virtual registers.
use Rattle.std.proofs.Common.{◌≡◌, ◌⊎◌, ℕ, suc, Bool, true, false, cond, not, ◌&&◌, ◌||◌, List, [], ◌∷◌, ◌++◌, Option, Some, None, map, length, take, refl, sym, ap, ◌∙◌, subst, inl, inr}
use Rattle.std.specs.Prelude.{slice_get}
use Rattle.target_base.specs.declared.types.Effect.{Effect}
use Rattle.target_base.specs.declared.types.Effect.TheVariants as effects
use Rattle.target_base.specs.declared.types.IndexId.{IndexId}
use Rattle.target_base.specs.declared.types.OpaqueKind.TheVariants as kinds
use Rattle.target_base.specs.declared.types.Role.{Role}
use Rattle.target_base.specs.declared.types.Role.TheVariants as roles
use Rattle.target_base.specs.declared.types.Target.{Target}
use Rattle.target_base.specs.Registers.{units_of, lanes_of}
use Rattle.target_base.specs.Roles.{is_silent, is_implicit, has_shape, roles_fit, is_block, is_immediate, is_rest, is_use as is_use_role, is_definition as is_definition_role}
use Rattle.target_base.proofs.Tests.{first_of_both, second_of_both}
use Rattle.meaning.specs.declared.types.Lane.{Lane}
use Rattle.meaning.specs.declared.types.Lane.TheVariants.{VirtualLane, UnitLane, SlotLane}
use Rattle.meaning.specs.declared.types.Write.{Write}
use Rattle.meaning.specs.Lanes.{Writes}
use Rattle.meaning.specs.Live.{Among as Member, here as first, there as later}
use Rattle.mir_func.specs.declared.func.Loc.{Loc}
use Rattle.mir_func.specs.declared.func.Loc.TheVariants.{Virtual, Fixed}
use Rattle.mir_func.specs.declared.func.RegOp.{RegOp}
use Rattle.mir_func.specs.declared.func.Operand.{Operand}
use Rattle.mir_func.specs.declared.func.Operand.TheVariants as operands
use Rattle.mir_func.specs.declared.func.Instr.{Instr}
use Rattle.mir_func.specs.Value.{Function}
use Rattle.mir_func.specs.Binding.{effect_of, roles_of, is_terminator, definitions, registers, implicit_registers, explicit_operands, explicit_roles, is_use, is_virtual}
use Rattle.mir_meaning.specs.Registers.{numbers, range_widths, located_lanes, operand_lanes}
use Rattle.mir_meaning.specs.Items.{undefined, results, all_lanes, explicit_definitions, implicit_definitions}
use Rattle.mir_meaning.specs.Rules.{V1, fits_at, fits_opaque, fits_role, is_opaque, is_virtual_use, result_and, phi_pairs}
use Rattle.instr_effects.specs.declared.owner.Owner.{Owner}
use Rattle.instr_effects.specs.declared.owner.Owner.TheVariants as owners
use Rattle.instr_effects.specs.Owners.{owner_of}
use Rattle.instr_effects.specs.Acts.{entered_writes, effect_acts}
use Rattle.instr_effects.specs.Ends.{pairs_of, pairs_behind}
use Rattle.instr_effects.proofs.Members.{member-none, member-elim, in-either, flat-of, filter-of, map-of}
use Rattle.instr_effects.proofs.Defined.{results-of, definition-of}
use Rattle.live_laws.proofs.Touch.Roles.{Fit, fit, fit-role, has_roles, known-shape, met, none-counted, roles-sound}
use Rattle.live_laws.proofs.Effects.Moved.{undefined-lane}
use Rattle.live_laws.proofs.Effects.Lists.{all-of}
use Rattle.live_laws.proofs.Effects.Shapes.{fits-of}
use Rattle.live_laws.proofs.Effects.Blocks.{member-slice}

-- a step behind another is that of an instruction behind the other's
pub stands-behind : {X Y : Type 0} (g : X → Y) (xs : List X) (before : List Y) (s : Y) (rest : List Y) (r : Y) → map g xs ≡ before ++ s ∷ rest → Member r rest → (j : ℕ) × (i : X) × (o : X) × (slice_get xs j ≡ Some i) × (r ≡ g i) × Member o (take j xs) × (s ≡ g o)
stands-behind g [] [] s rest r e m = absurd (cc)
stands-behind g [] (y ∷ ys) s rest r e m = absurd (cc)
stands-behind {X} {Y} g (x ∷ xs) [] s rest r e m =
    let z = map-of g r xs (subst (Member r) (sym (tail (g x) s (map g xs) rest e)) m) in
    let k = member-slice z.0 xs z.1 in
    (suc k.0, z.0, x, k.1, z.2, first, sym (head (g x) s (map g xs) rest e))
  where
    head : (a b : Y) (xs ys : List Y) → a ∷ xs ≡ b ∷ ys → a ≡ b
    head a b xs ys e = cc

    tail : (a b : Y) (xs ys : List Y) → a ∷ xs ≡ b ∷ ys → xs ≡ ys
    tail a b xs ys e = cc
stands-behind {X} {Y} g (x ∷ xs) (y ∷ ys) s rest r e m =
    let z = stands-behind g xs ys s rest r (tail (g x) y (map g xs) (ys ++ s ∷ rest) e) m in
    (suc z.0, z.1, z.2, z.3, z.4, later z.5, z.6)
  where
    tail : (a b : Y) (xs ys : List Y) → a ∷ xs ≡ b ∷ ys → xs ≡ ys
    tail a b xs ys e = cc

-- the lane is one of a virtual register
abbrev pub is_range_lane : Lane → Bool
is_range_lane (VirtualLane v k) = true
is_range_lane _ = false

abbrev is_range_owner : Owner → Bool
is_range_owner (owners.Range v k) = true
is_range_owner _ = false

owner-range : (l : Lane) → is_range_owner (owner_of l) ≡ is_range_lane l
owner-range (VirtualLane v k) = refl
owner-range (UnitLane u) = refl
owner-range (SlotLane s k w) = refl

pub same-range : (l a : Lane) → owner_of l ≡ owner_of a → is_range_lane l ≡ is_range_lane a
same-range l a e = sym (owner-range l) ∙ ap is_range_owner e ∙ owner-range a

module _ (t : Target) (f : Function) where
  virtual-lanes : (x : Loc) (q : Option IndexId) (l : Lane) → is_virtual x ≡ true → Member l (located_lanes t f x q) → is_range_lane l ≡ true
  virtual-lanes (Virtual v) None l e m = let z = map-of (VirtualLane v) l (numbers 0 (length (range_widths t f v))) m in ap is_range_lane z.2
  virtual-lanes (Virtual v) (Some x) l e m = let z = map-of (VirtualLane v) l (lanes_of t x) m in ap is_range_lane z.2
  virtual-lanes (Fixed r) q l e m = absurd (cc)

  fixed-lanes : (x : Loc) (q : Option IndexId) (l : Lane) → is_virtual x ≡ false → Member l (located_lanes t f x q) → is_range_lane l ≡ false
  fixed-lanes (Virtual v) q l e m = absurd (cc)
  fixed-lanes (Fixed r) q l e m = let z = map-of (λ u. UnitLane u.0) l (units_of t r) m in ap is_range_lane z.2

  -- uses of phis are virtual

  pair-virtual : (os : List Operand) (p : RegOp × ℕ) → phi_pairs os ≡ true → Member p (pairs_of os) → is_virtual_use p.0 ≡ true
  pair-virtual [] p e m = absurd (member-none p m)
  pair-virtual (operands.Reg s ∷ operands.Block n ∷ os) p e m =
      member-elim p (s, n) (pairs_of os) (λ h. ap is_virtual_use (ap (λ q. q.0) h) ∙ first_of_both (is_virtual_use s) (phi_pairs os) e) (λ k. pair-virtual os p (second_of_both (is_virtual_use s) (phi_pairs os) e) k) m
  pair-virtual os p e m = absurd (cc)

  behind-virtual : (os : List Operand) (p : RegOp × ℕ) → result_and phi_pairs os ≡ true → Member p (pairs_behind os) → is_virtual p.0.loc ≡ true
  behind-virtual [] p e m = absurd (cc)
  behind-virtual (operands.Reg d ∷ os) p e m = second_of_both _ _ (pair-virtual os p (second_of_both _ _ e) m)
  behind-virtual (o ∷ os) p e m = absurd (cc)

  pub phi-virtual : (i : Instr) (s : RegOp) (n : ℕ) (l : Lane) → effect_of t i ≡ Some effects.Phi → V1 t f i ≡ true → Member (s, n) (pairs_behind i.operands) → Member l (operand_lanes t f s) → is_range_lane l ≡ true
  phi-virtual i s n l e v m k = let d = fits-of t f i effects.Phi e v in virtual-lanes s.loc s.index l (behind-virtual i.operands (s, n) d.1 m) k

-- terminators have no roles of definitions

no-definition : (r : Role) → is_implicit r ≡ true → is_definition_role r ≡ false
no-definition (roles.Def k) e = absurd (cc)
no-definition (roles.Early k) e = absurd (cc)
no-definition r e = refl

-- none of the roles that pass these tests is a definition's
abbrev NoneDefines : List (Role → Bool) → Type 0
NoneDefines [] = Unit {0}
NoneDefines (test ∷ tests) = ((r : Role) → test r ≡ true → is_definition_role r ≡ false) × NoneDefines tests

shaped-role : (tests : List (Role → Bool)) (rs : List Role) (r : Role) → NoneDefines tests → has_shape tests rs ≡ true → Member r rs → is_definition_role r ≡ false
shaped-role [] rs r n e m = no-definition r (all-of is_implicit r rs m e)
shaped-role (test ∷ tests) [] r n e m = absurd (cc)
shaped-role (test ∷ tests) (x ∷ rs) r n e m = member-elim r x rs (λ h. n.0 r (ap test h ∙ first_of_both (test x) (has_shape tests rs) e)) (λ k. shaped-role tests rs r n.1 (second_of_both (test x) (has_shape tests rs) e) k) m

block-role : (r : Role) → is_block r ≡ true → is_definition_role r ≡ false
block-role (roles.Def k) e = absurd (cc)
block-role (roles.Early k) e = absurd (cc)
block-role r e = refl

immediate-role : (r : Role) → is_immediate r ≡ true → is_definition_role r ≡ false
immediate-role (roles.Def k) e = absurd (cc)
immediate-role (roles.Early k) e = absurd (cc)
immediate-role r e = refl

use-role : (r : Role) → is_use_role r ≡ true → is_definition_role r ≡ false
use-role (roles.Def k) e = absurd (cc)
use-role (roles.Early k) e = absurd (cc)
use-role r e = refl

rest-role : (r : Role) → is_rest r ≡ true → is_definition_role r ≡ false
rest-role (roles.Def k) e = absurd (cc)
rest-role (roles.Early k) e = absurd (cc)
rest-role r e = refl

terminator-role : (t : Target) (e : Effect) (rs : List Role) (r : Role) → is_terminator e ≡ true → roles_fit t.units t.regs t.classes e rs ≡ true → Member r rs → is_definition_role r ≡ false
terminator-role t effects.Jump rs r h g m = shaped-role (is_block ∷ []) rs r (block-role, tt) (known-shape t effects.Jump rs (is_block ∷ []) refl g) m
terminator-role t effects.Jcc rs r h g m = shaped-role (is_block ∷ is_immediate ∷ []) rs r (block-role, (immediate-role, tt)) (known-shape t effects.Jcc rs (is_block ∷ is_immediate ∷ []) refl g) m
terminator-role t effects.Jnz rs r h g m = shaped-role (is_use_role ∷ is_block ∷ []) rs r (use-role, (block-role, tt)) (known-shape t effects.Jnz rs (is_use_role ∷ is_block ∷ []) refl g) m
terminator-role t effects.Ret rs r h g m = shaped-role (is_rest ∷ []) rs r (rest-role, tt) (known-shape t effects.Ret rs (is_rest ∷ []) refl g) m
terminator-role t (effects.Opaque kinds.Branch) rs r h g m = none-counted is_definition_role rs r (first_of_both _ _ (first_of_both _ _ (second_of_both _ _ g))) m
terminator-role t (effects.Opaque kinds.Return) rs r h g m = none-counted is_definition_role rs r (first_of_both _ _ (first_of_both _ _ (second_of_both _ _ g))) m
terminator-role t e rs r h g m = absurd (cc)

use-defines : (d : RegOp) → d.def ≡ true → is_use d ≡ true → ⊥
use-defines d e h = go d.def e (first_of_both (not d.def) (not d.implicit) h)
  where
    go : (b : Bool) → b ≡ true → not b ≡ true → ⊥
    go true e h = cc
    go false e h = cc

definition-role : (r : Role) (d : RegOp) → d.def ≡ true → fits_role r (operands.Reg d) ≡ true → is_definition_role r ≡ true
definition-role (roles.Def k) d e h = refl
definition-role (roles.Early k) d e h = refl
definition-role (roles.Read k) d e h = absurd (use-defines d e h)
definition-role (roles.Tied k n) d e h = absurd (use-defines d e h)
definition-role (roles.Address k) d e h = absurd (use-defines d e h)
definition-role roles.Any d e h = absurd (use-defines d e h)
definition-role roles.Rest d e h = absurd (use-defines d e (first_of_both (is_use d) (not (is_virtual d.loc)) h))
definition-role r d e h = absurd (cc)

-- what a role takes at an opaque opcode alone is no definition
opaque-use : (t : Target) (r : Role) (d : RegOp) → d.def ≡ true → fits_opaque t r (operands.Reg d) ≡ true → ⊥
opaque-use t (roles.Value None) d e h = use-defines d e (first_of_both (is_use d) _ h)
opaque-use t (roles.Value (Some k)) d e h = use-defines d e h
opaque-use t roles.Any d e h = use-defines d e (first_of_both (is_use d) _ h)
opaque-use t r d e h = cc

definition-at : (t : Target) (e : Effect) (r : Role) (d : RegOp) → d.def ≡ true → fits_at t e r (operands.Reg d) ≡ true → is_definition_role r ≡ true
definition-at t e r d q h = go (fits_role r (operands.Reg d)) refl h
  where
    go : (b : Bool) → fits_role r (operands.Reg d) ≡ b → (b || (is_opaque e && fits_opaque t r (operands.Reg d))) ≡ true → is_definition_role r ≡ true
    go true g k = definition-role r d q g
    go false g k = absurd (opaque-use t r d q (second_of_both (is_opaque e) (fits_opaque t r (operands.Reg d)) k))

explicit-there : (os : List Operand) (d : RegOp) → Member d (registers os) → d.implicit ≡ false → Member (operands.Reg d) (explicit_operands os)
explicit-there [] d m e = absurd (member-none d m)
explicit-there (operands.Reg x ∷ os) d m e = member-elim d x (registers os) (λ h. at (x.implicit) (ap (λ q. q.implicit) (sym h) ∙ e) h) (λ k. past x.implicit (explicit-there os d k e)) m
  where
    at : (b : Bool) → b ≡ false → d ≡ x → Member (operands.Reg d) (cond (not b) (operands.Reg x ∷ explicit_operands os) (explicit_operands os))
    at true g h = absurd (cc)
    at false g h = subst (λ q. Member (operands.Reg d) (operands.Reg q ∷ explicit_operands os)) h first

    past : (b : Bool) → Member (operands.Reg d) (explicit_operands os) → Member (operands.Reg d) (cond (not b) (operands.Reg x ∷ explicit_operands os) (explicit_operands os))
    past true k = k
    past false k = later k
explicit-there (operands.Imm z ∷ os) d m e = later (explicit-there os d m e)
explicit-there (operands.Block z ∷ os) d m e = later (explicit-there os d m e)
explicit-there (operands.Stack z ∷ os) d m e = later (explicit-there os d m e)
explicit-there (operands.FixedStack z ∷ os) d m e = later (explicit-there os d m e)
explicit-there (operands.Symbol z ∷ os) d m e = later (explicit-there os d m e)
explicit-there (operands.Index z ∷ os) d m e = later (explicit-there os d m e)
explicit-there (operands.Mask z ∷ os) d m e = later (explicit-there os d m e)

-- a terminator's opcode is none of the five
terminator-roles : (e : Effect) → is_terminator e ≡ true → has_roles e ≡ true
terminator-roles effects.Copy h = absurd (cc)
terminator-roles effects.Phi h = absurd (cc)
terminator-roles effects.ImplicitDef h = absurd (cc)
terminator-roles effects.RegSequence h = absurd (cc)
terminator-roles effects.InsertSubreg h = absurd (cc)
terminator-roles e h = refl

module _ (t : Target) (f : Function) (i : Instr) (e : Effect) (known : effect_of t i ≡ Some e) (ends : is_terminator e ≡ true) (rule : V1 t f i ≡ true) where
  fitting : Fit t f (met t f i e known rule).0 i.operands e
  fitting = fit t f i e known rule (terminator-roles e ends)

  no-explicit : (d : RegOp) → Member d (explicit_definitions i.operands) → ⊥
  no-explicit d m =
      let desc = (met t f i e known rule).0 in
      let z = filter-of (λ o. o.def && not o.implicit) d (registers i.operands) m in
      let there = explicit-there i.operands d z.0 (plain d.implicit (second_of_both d.def (not d.implicit) z.1)) in
      let r = fit-role t e (explicit_roles desc.roles) (explicit_operands i.operands) (operands.Reg d) fitting.explicit there in
      let role = definition-at t e r.0 d (first_of_both d.def (not d.implicit) z.1) r.2 in
      let none = terminator-role t e desc.roles r.0 ends (roles-sound t f i e known rule (terminator-roles e ends)) (filter-of (λ q. not (is_implicit q)) r.0 desc.roles r.1).0 in
      cc
    where
      plain : (b : Bool) → not b ≡ true → b ≡ false
      plain true h = absurd (cc)
      plain false h = refl

  implicit-fixed : (d : RegOp) → Member d (implicit_definitions i.operands) → is_virtual d.loc ≡ false
  implicit-fixed d m =
      let z = filter-of (λ o. o.def) d (implicit_registers i.operands) m in
      let one = all-of (λ o. not (is_virtual o.loc) && not (is_silent (met t f i e known rule).0.effect)) d (implicit_registers i.operands) z.0 fitting.implicit in
      plain (is_virtual d.loc) (first_of_both _ _ one)
    where
      plain : (b : Bool) → not b ≡ true → b ≡ false
      plain true h = absurd (cc)
      plain false h = refl

  abbrev W : Writes
  W = undefined false (all_lanes t f (implicit_definitions i.operands)) ++ []

  counted-only : (e : Effect) (rs : List Role) → is_terminator e ≡ true → effect_acts t f e rs i.operands ≡ results t f 0 (definitions rs i.operands) ++ W
  counted-only effects.Jump rs h = refl
  counted-only effects.Jcc rs h = refl
  counted-only effects.Jnz rs h = refl
  counted-only effects.Ret rs h = refl
  counted-only (effects.Opaque kinds.Branch) rs h = refl
  counted-only (effects.Opaque kinds.Return) rs h = refl
  counted-only e rs h = absurd (cc)

  acts-are : entered_writes t f i ≡ results t f 0 (definitions (roles_of t i) i.operands) ++ W
  unfolding entered_writes
  acts-are = ap (λ (o : Option Effect). elim o [ None ↦ [] | Some x ↦ effect_acts t f x (roles_of t i) i.operands ]) known ∙ counted-only e (roles_of t i) ends

  -- it writes units alone
  pub writes-units : (w : Write) → Member w (entered_writes t f i) → is_range_lane w.lane ≡ false
  writes-units w m = go (in-either w (results t f 0 (definitions (roles_of t i) i.operands)) W (subst (Member w) acts-are m))
    where
      implicit : Member w (undefined false (all_lanes t f (implicit_definitions i.operands))) ⊎ Member w [] → is_range_lane w.lane ≡ false
      implicit (inl k) =
          let z = flat-of (operand_lanes t f) w.lane (implicit_definitions i.operands) (undefined-lane false w (all_lanes t f (implicit_definitions i.operands)) k) in
          fixed-lanes t f z.0.loc z.0.index w.lane (implicit-fixed z.0 z.1) z.2
      implicit (inr k) = absurd (member-none w k)

      go : Member w (results t f 0 (definitions (roles_of t i) i.operands)) ⊎ Member w (undefined false (all_lanes t f (implicit_definitions i.operands)) ++ []) → is_range_lane w.lane ≡ false
      go (inl k) = let z = results-of t f 0 (definitions (roles_of t i) i.operands) w k in absurd (no-explicit z.0.1 (definition-of (roles_of t i) i.operands z.0 z.2))
      go (inr k) = implicit (in-either w (undefined false (all_lanes t f (implicit_definitions i.operands))) [] k)
