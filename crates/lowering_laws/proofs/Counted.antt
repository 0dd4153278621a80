-- A counted instruction, its operands, its tied pairs, and what lowering does about its ties.
use Rattle.std.proofs.Common.{◌≡◌, ◌∙◌, ◌&&◌, ◌||◌, ◌≤◌, not, ℕ, Bool, true, false, cond, List, Option, Some, None, map, flat_map, length, refl, sym, ap, subst}
use Rattle.std.specs.Prelude.{filter_map, option_and_then, option_map}
use Rattle.std.specs.List.{list_all}
use Rattle.target_base.specs.declared.types.ClassId.{ClassId}
use Rattle.target_base.specs.declared.types.Effect.{Effect}
use Rattle.target_base.specs.declared.types.OpcodeDesc.{OpcodeDesc}
use Rattle.target_base.specs.declared.types.Role.{Role}
use Rattle.target_base.specs.declared.types.Role.TheVariants as roles
use Rattle.target_base.specs.declared.types.Target.{Target}
use Rattle.target_base.specs.Registers.{widths_of_some}
use Rattle.target_base.specs.Roles.{is_definition as is_definition_role, is_silent, role_class}
use Rattle.target_base.specs.Rules.{is_copy}
use Rattle.target_base.specs.Storage.{same_numbers}
use Rattle.target_base.proofs.Tests.{first_of_both, second_of_both}
use Rattle.meaning.specs.Live.{Among}
use Rattle.meaning.specs.declared.types.Lane.{Lane}
use Rattle.meaning.specs.declared.types.Source.TheVariants.{FromLane}
use Rattle.mir_func.specs.declared.func.Loc.{Loc}
use Rattle.mir_func.specs.declared.func.Loc.TheVariants.{Fixed, Virtual}
use Rattle.mir_func.specs.declared.func.RegOp.{RegOp}
use Rattle.mir_func.specs.declared.func.Operand.{Operand}
use Rattle.mir_func.specs.declared.func.Operand.TheVariants as operands
use Rattle.mir_func.specs.declared.func.Instr.{Instr}
use Rattle.mir_func.specs.Value.{Function}
use Rattle.mir_func.specs.Binding.{Bound, TiedPair, asked_class, bound, class_of, effect_of, explicit_bound, explicit_operands, explicit_roles, implicit_bound, implicit_registers, implicit_roles, is_definition, is_use, is_virtual, known_opcode, puts_together, register_at, roles_of, same_loc, tied_pair}
use Rattle.mir_meaning.specs.Registers.{numbers, operand_lanes, operand_widths, range_lanes, range_widths}
use Rattle.mir_meaning.specs.Renaming.{IsFixed}
use Rattle.mir_meaning.specs.Rules.{V2, has_class, has_lanes, in_operand_class, same_widths, widths_fit}
use Rattle.phi_elim.specs.Moves.{destination_of, source_of, whole_definition}
use Rattle.two_address.specs.Classes.{seated}
use Rattle.two_address.specs.Lowered.{class_aside}
use Rattle.two_address.specs.Ties.{definition_class, tie_aside, tie_to, ties_in, undef_use_of, untied, use_of}
use Rattle.two_address.specs.declared.ties.Move.{Move}
use Rattle.two_address.specs.declared.ties.Tie.{Tie}
use Rattle.instr_effects.proofs.Members.{left-in, map-in}
use Rattle.live_laws.proofs.Effects.Lists.{all-of}
use Rattle.live_laws.proofs.Effects.Moved.{Apart}
use Rattle.live_laws.proofs.Effects.Shapes.{lanes-there}
use Rattle.live_laws.proofs.Touch.Roles.{has_roles}
use Rattle.live_laws.specs.Effects.Shaped.{AreClasses}
use Rattle.lowering_laws.proofs.Built.{old-not-new}
use Rattle.lowering_laws.proofs.Classes.{lanes-stay, widths-stay}
use Rattle.lowering_laws.proofs.Found.{place, place-there, register-missed}
use Rattle.lowering_laws.proofs.Made.{Stands}
use Rattle.lowering_laws.proofs.Olds.{is_old, use-old}
use Rattle.lowering_laws.proofs.Operands.{named, shaped}
use Rattle.lowering_laws.proofs.Replaced.{h, made}
use Rattle.lowering_laws.proofs.Rolled.{DefinedBy, defined-by, numbers-differ}
use Rattle.lowering_laws.proofs.Ruled.{InstrRules}
use Rattle.lowering_laws.proofs.Seated.{IsPair, bound-operand, pair-fits, pair-is, register-in, register-there, same-numbers, seated-pair, seated-use, told-of}
use Rattle.lowering_laws.proofs.Traced.{is_lane_of}
use Rattle.lowering_laws.proofs.Tying.{IsTie, Kind, aside, blank, copied as copied_kind, fixed, is_read, numbers-apart, own, tie-found, tie_numbers, ties-are}
use Rattle.lowering_laws.proofs.Widths.{bound-class}

not-true : (b : Bool) → not b ≡ true → b ≡ false
not-true true e = absurd (cc)
not-true false e = refl

pub definition-class : (q : Role) → is_definition_role q ≡ true → (k : ClassId) × (role_class q ≡ Some k) × (asked_class q ≡ Some k)
definition-class (roles.Def k) e = (k, refl, refl)
definition-class (roles.Early k) e = (k, refl, refl)
definition-class q e = absurd (cc)

-- rule 2 of an operand with its role
pub operand-class : (t : Target) (f : Function) (i : Instr) (e : Effect) → effect_of t i ≡ Some e → V2 t f i ≡ true → (x : Bound) → Among x (bound t i) → in_operand_class t f e x ≡ true
unfolding V2
operand-class t f i e known two x m = go (known_opcode t i.op) two known
  where
    same : (x y : Effect) → Some x ≡ Some y → x ≡ y
    same x y g = cc

    go : (q : Option OpcodeDesc) → elim q [ None ↦ true | Some d ↦ list_all (in_operand_class t f d.effect) (bound t i) && widths_fit t f d.effect i.operands ] ≡ true → option_map (λ d. d.effect) q ≡ Some e → in_operand_class t f e x ≡ true
    go None w g = absurd (cc)
    go (Some d) w g = subst (λ y. in_operand_class t f y x ≡ true) (same d.effect e g) (all-of (in_operand_class t f d.effect) x (bound t i) m (first_of_both (list_all (in_operand_class t f d.effect) (bound t i)) (widths_fit t f d.effect i.operands) w))

-- a counted instruction of a function without phis: its rules, its effect, and where the classes of the registers stand
-- that its ties need
pub record CountedInstr : Type 0 where
  pub t : Target
  pub f : Function
  pub classes : AreClasses t f
  pub i : Instr
  pub r : InstrRules t f i
  pub e : Effect
  pub known : effect_of t i ≡ Some e
  pub counts : is_silent e ≡ false
  pub rolled : has_roles e ≡ true
  pub form : (is_copy e ≡ false) × (puts_together e ≡ false)
  pub c : ℕ
  pub stands : Stands (h t f).classes (length f.classes) c (flat_map (class_aside (roles_of t i)) (ties_in t c i))

module _ (site : CountedInstr) where
  open site use {t, f, classes, i, r, e, known, rolled, c, stands}

  abbrev H : Function
  H = h t f

  abbrev n : ℕ
  n = length f.classes

  abbrev os : List Operand
  os = i.operands

  abbrev rs : List Role
  rs = roles_of t i

  abbrev bs : List Bound
  bs = seated t i

  abbrev ps : List TiedPair
  ps = filter_map (tied_pair i.operands) (seated t i)

  abbrev T : List Tie
  T = ties_in t c i

  -- operands

  class-there : (o : RegOp) → Among (operands.Reg o) os → has_class f o.loc ≡ true
  class-there o m = (named t f i r o (register-in o os m)).class

  pub known-lanes : (o : RegOp) → Among (operands.Reg o) os → has_lanes t f o ≡ true
  known-lanes o m = lanes-there t f i (shaped t f i r) o (register-in o os m)

  pub lanes-own : (o : RegOp) → Among (operands.Reg o) os → operand_lanes t H o ≡ operand_lanes t f o
  lanes-own o m = lanes-stay t f (made t f) o.loc o.index (class-there o m)

  pub widths-own : (o : RegOp) → Among (operands.Reg o) os → operand_widths t H o ≡ operand_widths t f o
  widths-own o m = widths-stay t f (made t f) o.loc o.index (class-there o m)

  pub fixed-there : (o : RegOp) → Among (operands.Reg o) os → o.implicit ≡ true → IsFixed o.loc
  fixed-there o m = (named t f i r o (register-in o os m)).fixed

  pub old-lane : (o : RegOp) → Among (operands.Reg o) os → (l : Lane) → Among l (operand_lanes t H o) → is_old n l ≡ true
  old-lane o m l k = use-old t f (record o { undef = false }) (class-there o m) (FromLane l) (map-in FromLane l (operand_lanes t f o) (subst (Among l) (lanes-own o m) k))

  -- a lane of a further register is none of an operand
  pub old-missed : (o : RegOp) → Among (operands.Reg o) os → (x : ℕ) → n ≤ x → (l : Lane) → is_lane_of x l ≡ true → place (operand_lanes t H o) l ≡ None
  old-missed o m x low l own' = go (place (operand_lanes t H o) l) refl
    where
      go : (q : Option ℕ) → place (operand_lanes t H o) l ≡ q → place (operand_lanes t H o) l ≡ None
      go None g = g
      go (Some k) g = absurd (let z = old-not-new n x l (old-lane o m l (place-there (operand_lanes t H o) l k g).0) low in cc)

  -- and an old lane none of a further register
  pub new-missed : (x : ℕ) → n ≤ x → (l : Lane) → is_old n l ≡ true → place (range_lanes t H x) l ≡ None
  new-missed x low l o = register-missed x (numbers 0 (length (range_widths t H x))) l (old-not-new n x l o low)

  -- pairs

  pub from : (p : TiedPair) → Among p ps → (x : Bound) × Among x bs × (tied_pair os x ≡ Some p)
  from p m = told-of (tied_pair os) p bs m

  pub says : (p : TiedPair) (m : Among p ps) → IsPair os (from p m).0.0 (from p m).0.1 p
  says p m = pair-is os (from p m).0.0 (from p m).0.1 p (from p m).2

  pub u-bound : (p : TiedPair) (m : Among p ps) → Among ((from p m).0.0, operands.Reg p.tied_use) bs
  u-bound p m = subst (λ x. Among ((from p m).0.0, x) bs) (says p m).0 (from p m).1

  pub u-there : (p : TiedPair) → Among p ps → Among (operands.Reg p.tied_use) os
  u-there p m = bound-operand (explicit_roles rs) os (from p m).0.0 (operands.Reg p.tied_use) (u-bound p m)

  pub d-at : (p : TiedPair) → Among p ps → register_at os p.number ≡ Some p.definition
  d-at p m = (says p m).2

  pub d-there : (p : TiedPair) → Among p ps → Among (operands.Reg p.definition) os
  d-there p m = register-there os p.number p.definition (d-at p m)

  pub defines : (p : TiedPair) → Among p ps → DefinedBy t f i e known rolled r.one p
  defines p m = defined-by t f i e known rolled r.one p m

  pub d-def : (p : TiedPair) → Among p ps → p.definition.def ≡ true
  d-def p m = first_of_both p.definition.def (not p.definition.implicit) (defines p m).is

  pub used : (p : TiedPair) → Among p ps → is_use p.tied_use ≡ true
  used p m = seated-use t f i e known rolled r.one p m

  pub u-def : (p : TiedPair) → Among p ps → p.tied_use.def ≡ false
  u-def p m = not-true p.tied_use.def (first_of_both (not p.tied_use.def) (not p.tied_use.implicit) (used p m))

  u-implicit : (p : TiedPair) → Among p ps → p.tied_use.implicit ≡ false
  u-implicit p m = not-true p.tied_use.implicit (second_of_both (not p.tied_use.def) (not p.tied_use.implicit) (used p m))

  pub u-plain : (p : TiedPair) → Among p ps → is_definition p.tied_use ≡ false
  u-plain p m = λ k. u-def p m k && not p.tied_use.implicit

  abbrev BothVirtual : TiedPair → Type 0
  BothVirtual p = (v : ℕ) × (p.definition.loc ≡ Virtual v) × (same_widths t f p.definition p.tied_use ≡ true)

  pub virtual : (p : TiedPair) → Among p ps → is_virtual p.tied_use.loc ≡ true → BothVirtual p
  virtual p m g = by p.definition.loc p.tied_use.loc (same_widths t f p.definition p.tied_use) g (pair-fits t f i p r.eleven (seated-pair t f i e known rolled r.one p m))
    where
      by : (l m : Loc) (w : Bool) → is_virtual m ≡ true → cond (is_virtual l && is_virtual m) w (same_loc l m) ≡ true → (v : ℕ) × (l ≡ Virtual v) × (w ≡ true)
      by (Virtual v) (Virtual x) w g q = (v, refl, q)
      by (Fixed x) (Virtual y) w g q = absurd (cc)
      by l (Fixed x) w g q = absurd (cc)

  pub wide : (p : TiedPair) (m : Among p ps) → is_virtual p.tied_use.loc ≡ true → operand_widths t H p.definition ≡ operand_widths t H p.tied_use
  wide p m g = widths-own p.definition (d-there p m) ∙ (same-numbers (operand_widths t f p.definition) (operand_widths t f p.tied_use) (both (has_lanes t f p.definition) (has_lanes t f p.tied_use) (known-lanes p.definition (d-there p m)) (known-lanes p.tied_use (u-there p m)) (virtual p m g).2) ∙ sym (widths-own p.tied_use (u-there p m)))
    where
      both : (x y : Bool) → x ≡ true → y ≡ true → (not (x && y) || same_numbers (operand_widths t f p.definition) (operand_widths t f p.tied_use)) ≡ true → same_numbers (operand_widths t f p.definition) (operand_widths t f p.tied_use) ≡ true
      both true true g k q = q
      both true false g k q = absurd (cc)
      both false y g k q = absurd (cc)

  -- the register that stands in for a definition has its widths
  pub aside-wide : (p : TiedPair) (m : Among p ps) → is_virtual p.tied_use.loc ≡ true → (x : ℕ) → class_of H x ≡ definition_class rs p.number → range_widths t H x ≡ operand_widths t H p.definition
  aside-wide p m g x is =
      let d = defines p m in
      let k = definition-class d.role d.defines in
      let v = virtual p m g in
      ap (widths_of_some t) (is ∙ (ap (option_and_then role_class) d.at ∙ k.1))
      ∙ (sym (bound-class t f classes e d.role k.0 p.definition v.0 v.1 k.2 (known-lanes p.definition (d-there p m)) (operand-class t f i e known r.two (Some d.role, operands.Reg p.definition) (left-in (Some d.role, operands.Reg p.definition) (explicit_bound (explicit_roles rs) (explicit_operands os)) (map (implicit_bound (implicit_roles rs)) (implicit_registers os)) d.takes)))
      ∙ sym (widths-own p.definition (d-there p m)))

  -- ties

  pub numbers-apart-all : Apart (map (λ (p : TiedPair). p.number) ps)
  numbers-apart-all = numbers-differ t f i e known rolled r.one

  pub apart : Apart (tie_numbers T)
  apart = numbers-apart bs c ps numbers-apart-all

  pub tie-is : (tie : Tie) → Among tie T → IsTie bs H rs n ps tie
  tie-is tie m = ties-are bs H rs n ps c ps (λ p k. k) stands tie m

  pub the-tie : (tie : Tie) → Among tie T → tie_to tie.number T ≡ tie
  the-tie tie m = tie-found T tie apart m

  -- a tie by a register that stands in
  pub record IsAside (tie : Tie) (x : ℕ) : Type 0 where
    pub pair : TiedPair
    pub member : Among pair ps
    pub number : tie.number ≡ pair.number
    pub virtual_use : is_virtual pair.tied_use.loc ≡ true
    pub plain : pair.tied_use.undef ≡ false
    pub low : n ≤ x
    pub class : class_of H x ≡ definition_class rs pair.number
    pub is : tie ≡ tie_aside x pair

  pub aside-is : (tie : Tie) → Among tie T → (x : ℕ) → tie.aside ≡ Some x → IsAside tie x
  aside-is tie m x g = by (tie-is tie m) (tie-is tie m).kind
    where
      none : (z : Tie) → tie ≡ z → z.aside ≡ None → ⊥
      none z q w = let y : None ≡ Some x = sym w ∙ (ap (λ (k : Tie). k.aside) (sym q) ∙ g) in cc

      by : (z : IsTie bs H rs n ps tie) → Kind z.new z.pair (is_read bs z.pair) tie → IsAside tie x
      by z (fixed a q) = absurd (none (untied z.pair.number) q refl)
      by z (blank a u q) = absurd (none (record (untied z.pair.number) { reading = Some (undef_use_of z.pair.definition) }) q refl)
      by z (own a u l w q) = absurd (none (record (untied z.pair.number) { reading = Some (use_of z.pair.definition) }) q refl)
      by z (copied_kind a u w q) = absurd (none (record (untied z.pair.number) { reading = Some (use_of z.pair.definition); before = Some (record { to = destination_of z.pair.definition; from = source_of z.pair.tied_use }) }) q refl)
      by z (aside a u q) =
          let new = z.stands x g in
          let y = z.class (g ∙ ap Some (sym new)) in
          record { pair = z.pair; member = z.member; number = z.number; virtual_use = a; plain = u; low = subst (λ k. n ≤ k) new y.0; class = ap (class_of H) (sym new) ∙ y.1; is = q ∙ ap (λ k. tie_aside k z.pair) new }

  -- a tie by a copy into the definition's own register, which nothing else reads
  pub record IsCopied (tie : Tie) : Type 0 where
    pub pair : TiedPair
    pub member : Among pair ps
    pub number : tie.number ≡ pair.number
    pub virtual_use : is_virtual pair.tied_use.loc ≡ true
    pub plain : pair.tied_use.undef ≡ false
    pub alone : is_read bs pair ≡ false
    pub is : tie ≡ record (untied pair.number) { reading = Some (use_of pair.definition); before = Some (record { to = destination_of pair.definition; from = source_of pair.tied_use }) }

  -- what is copied before the instruction
  pub data MoveIs (tie : Tie) (m : Move) : Type 0 where
    into_new : (x : ℕ) → tie.aside ≡ Some x → (z : IsAside tie x) → m ≡ record { to = whole_definition x; from = source_of z.pair.tied_use } → MoveIs tie m
    into_own : (z : IsCopied tie) → m ≡ record { to = destination_of z.pair.definition; from = source_of z.pair.tied_use } → MoveIs tie m

  pub move-is : (tie : Tie) → Among tie T → (m : Move) → tie.before ≡ Some m → MoveIs tie m
  move-is tie a m g = by (tie-is tie a) (tie-is tie a).kind
    where
      none : (z : Tie) → tie ≡ z → z.before ≡ None → ⊥
      none z q w = let y : None ≡ Some m = sym w ∙ (ap (λ (k : Tie). k.before) (sym q) ∙ g) in cc

      same : (x y : Move) → Some x ≡ Some y → x ≡ y
      same x y g = cc

      by : (z : IsTie bs H rs n ps tie) → Kind z.new z.pair (is_read bs z.pair) tie → MoveIs tie m
      by z (fixed k q) = absurd (none (untied z.pair.number) q refl)
      by z (blank k u q) = absurd (none (record (untied z.pair.number) { reading = Some (undef_use_of z.pair.definition) }) q refl)
      by z (own k u l w q) = absurd (none (record (untied z.pair.number) { reading = Some (use_of z.pair.definition) }) q refl)
      by z (copied_kind k u w q) = into_own (record { pair = z.pair; member = z.member; number = z.number; virtual_use = k; plain = u; alone = w; is = q }) (same m (record { to = destination_of z.pair.definition; from = source_of z.pair.tied_use }) (sym g ∙ ap (λ (y : Tie). y.before) q))
      by z (aside k u q) =
          let s : tie.aside ≡ Some z.new = ap (λ (y : Tie). y.aside) q in
          let y = z.class s in
          into_new z.new s (record { pair = z.pair; member = z.member; number = z.number; virtual_use = k; plain = u; low = y.0; class = y.1; is = q }) (same m (record { to = whole_definition z.new; from = source_of z.pair.tied_use }) (sym g ∙ ap (λ (y : Tie). y.before) q))
