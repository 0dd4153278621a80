-- An instruction that stays keeps the rules, in a function where the registers that it names have the classes that they had.
use Rattle.std.proofs.Common.{◌≡◌, ◌∷◌, ◌∙◌, ◌&&◌, ◌||◌, not, ℕ, Bool, true, false, List, Option, Some, None, map, filter, length, refl, sym, ap, subst, []}
use Rattle.std.specs.Prelude.{◌==◌, is_some, option_map}
use Rattle.std.specs.List.{list_all, list_any}
use Rattle.target_base.specs.declared.types.Effect.{Effect}
use Rattle.target_base.specs.declared.types.Effect.TheVariants as effects
use Rattle.target_base.specs.declared.types.OpcodeDesc.{OpcodeDesc}
use Rattle.target_base.specs.declared.types.Target.{Target}
use Rattle.target_base.specs.Registers.{lanes_of}
use Rattle.target_base.proofs.Tests.{first_of_both}
use Rattle.meaning.specs.Live.{Among, here, there}
use Rattle.mir_func.specs.declared.func.RegOp.{RegOp}
use Rattle.mir_func.specs.declared.func.Operand.{Operand}
use Rattle.mir_func.specs.declared.func.Operand.TheVariants as operands
use Rattle.mir_func.specs.declared.func.Instr.{Instr}
use Rattle.mir_func.specs.Value.{Function}
use Rattle.mir_func.specs.Binding.{Bound, as_register, bound, class_of, does, effect_of, explicit_bound, explicit_operands, explicit_roles, implicit_bound, implicit_registers, implicit_roles, is_early, is_implicit_operand, is_lowered_away, known_opcode, numbered, passes, puts_together, registers, roles_of, ties_to}
use Rattle.mir_meaning.specs.declared.Form.TheVariants as forms
use Rattle.mir_meaning.specs.Rules.{V1, V2, V3, V4, V12, clashing_lanes, defined_lanes, early_fits, explicit_fit, implicit_fit, implicit_last, lanes_fit, has_class, has_home, in_operand_class, index_fits, is_opaque, no_two_share, operands_fit, readings_besides, share_a_lane, subregs_fit, undef_fits, undef_uses_fit, widths_fit}
use Rattle.instr_effects.proofs.Members.{either-elim, filter-of, map-of}
use Rattle.lowering_laws.proofs.Seated.{bound-operand, register-in, register-of, told-of}
use Rattle.live_laws.specs.Effects.Shaped.{IsShaped}
use Rattle.live_laws.proofs.Effects.Shapes.{class-there}
use Rattle.lowering_laws.proofs.RulesStay.{class-stays, clashing, defines, has-lanes, in-class, index-stays, numbered-of, same-register, wide, widths}
use Rattle.lowering_laws.proofs.RulesStay as before
use Rattle.spill_laws.specs.Laws.{StaysKeepRules}

-- tests and values that are the same of each member

all-same : {X : Type 0} (p q : X → Bool) (xs : List X) → ((x : X) → Among x xs → p x ≡ q x) → list_all p xs ≡ list_all q xs
all-same p q [] h = refl
all-same p q (x ∷ xs) h = λ k. h x here k && all-same p q xs (λ y m. h y (there m)) k

any-same : {X : Type 0} (p q : X → Bool) (xs : List X) → ((x : X) → Among x xs → p x ≡ q x) → list_any p xs ≡ list_any q xs
any-same p q [] h = refl
any-same p q (x ∷ xs) h = λ k. h x here k || any-same p q xs (λ y m. h y (there m)) k

map-same : {X Y : Type 0} (p q : X → Y) (xs : List X) → ((x : X) → Among x xs → p x ≡ q x) → map p xs ≡ map q xs
map-same p q [] h = refl
map-same p q (x ∷ xs) h = λ k. h x here k ∷ map-same p q xs (λ y m. h y (there m)) k

module _ (t : Target) (f g : Function) (stay : (v : ℕ) → is_some (class_of f v) ≡ true → class_of g v ≡ class_of f v) (i : Instr) (s : IsShaped t f i) (low : does (λ e. not (is_lowered_away e)) t i ≡ true) where
  abbrev Classed : List Operand → Type 0
  Classed os = (o : RegOp) → Among o (registers os) → has_class f o.loc ≡ true

  slot-lanes : (os : List Operand) → Classed os → lanes_fit t g os ≡ lanes_fit t f os
  slot-lanes (operands.Reg o ∷ x ∷ operands.Imm z ∷ os) h = refl
  slot-lanes (operands.Reg o ∷ x ∷ operands.Index y ∷ os) h = λ k. not (has-lanes t f g stay o.loc o.index (h o here) k) || length (lanes_of t y) == length (widths t f g stay o.loc o.index (h o here) k)
  slot-lanes os h = refl

  fit : (d : OpcodeDesc) (os : List Operand) (e : Effect) → Classed os → operands_fit t g d os e ≡ operands_fit t f d os e
  fit d os effects.Spill h = λ k. implicit_last os && explicit_fit t effects.Spill (explicit_roles d.roles) (explicit_operands os) && implicit_fit d (implicit_registers os) && slot-lanes os h k
  fit d os effects.Reload h = λ k. implicit_last os && explicit_fit t effects.Reload (explicit_roles d.roles) (explicit_operands os) && implicit_fit d (implicit_registers os) && slot-lanes os h k
  fit d os e h = refl

  together : (e : Effect) (os : List Operand) → not (is_lowered_away e) ≡ true → Classed os → widths_fit t g e os ≡ widths_fit t f e os
  together effects.Copy (operands.Reg d ∷ operands.Reg o ∷ os) n h = λ k. wide t f g stay d o (h d here) (h o (there here)) k && has_home t d.loc o.loc && has_home t o.loc d.loc
  together effects.Copy os n h = refl
  together effects.Phi os n h = absurd (cc)
  together effects.RegSequence os n h = absurd (cc)
  together effects.InsertSubreg os n h = absurd (cc)
  together e os n h = refl

  abbrev bs : List Bound
  bs = bound t i

  abbrev defs : List RegOp
  defs = filter (λ (o : RegOp). o.def) (registers i.operands)

  classed : Classed i.operands
  classed o m = class-there t f i s o m

  bound-classed : (x : Bound) → Among x bs → (o : RegOp) → x.1 ≡ operands.Reg o → has_class f o.loc ≡ true
  bound-classed x m o e =
      let rs = roles_of t i in
      either-elim x (explicit_bound (explicit_roles rs) (explicit_operands i.operands)) (map (implicit_bound (implicit_roles rs)) (implicit_registers i.operands))
      (λ k.
      let y = bound-operand (explicit_roles rs) (explicit_operands i.operands) x.0 x.1 k in
      let z = (filter-of (λ q. not (is_implicit_operand q)) x.1 i.operands y).0 in
      classed o (register-in o i.operands (subst (λ q. Among q i.operands) e z)))
      (λ k.
      let y = map-of (implicit_bound (implicit_roles rs)) x (implicit_registers i.operands) k in
      let z = (filter-of (λ (q : RegOp). q.implicit) y.0 (registers i.operands) y.1).0 in
      subst (λ (q : RegOp). has_class f q.loc ≡ true) (same-register y.0 o (sym (ap (λ (b : Bound). b.1) y.2) ∙ e)) (classed y.0 z))
      m

  one : V1 t g i ≡ true
  unfolding V1
  one = by (known_opcode t i.op) s.operands
    where
      by : (q : Option OpcodeDesc) → elim q [ None ↦ true | Some d ↦ operands_fit t f d i.operands d.effect ] ≡ true → elim q [ None ↦ true | Some d ↦ operands_fit t g d i.operands d.effect ] ≡ true
      by None e = refl
      by (Some d) e = fit d i.operands d.effect classed ∙ e

  two : V2 t g i ≡ true
  unfolding V2
  two = by (known_opcode t i.op) low s.widths
    where
      by : (q : Option OpcodeDesc) → passes (λ e. not (is_lowered_away e)) (option_map (λ d. d.effect) q) ≡ true → elim q [ None ↦ true | Some d ↦ list_all (in_operand_class t f d.effect) bs && widths_fit t f d.effect i.operands ] ≡ true → elim q [ None ↦ true | Some d ↦ list_all (in_operand_class t g d.effect) bs && widths_fit t g d.effect i.operands ] ≡ true
      by None n e = refl
      by (Some d) n e = (λ k. all-same (in_operand_class t g d.effect) (in_operand_class t f d.effect) bs (λ x m. in-class t f g stay d.effect x (bound-classed x m)) k && together d.effect i.operands n classed k) ∙ e

  three : V3 g i ≡ true
  unfolding V3
  three = before.all-more (λ (o : RegOp). has_class f o.loc) (λ (o : RegOp). has_class g o.loc) (registers i.operands) (λ o h. class-stays t f g stay o.loc h) s.classes

  unput : does puts_together t i ≡ false
  unput = go (effect_of t i) low
    where
      by : (e : Effect) → not (is_lowered_away e) ≡ true → puts_together e ≡ false
      by effects.Phi h = absurd (cc)
      by effects.RegSequence h = absurd (cc)
      by effects.InsertSubreg h = absurd (cc)
      by e h = refl

      go : (q : Option Effect) → passes (λ e. not (is_lowered_away e)) q ≡ true → passes puts_together q ≡ false
      go None h = refl
      go (Some e) h = by e h

  four : V4 t g i ≡ true
  unfolding V4
  four =
      (λ k. all-same (λ (o : RegOp). index_fits t g o.loc o.index) (λ (o : RegOp). index_fits t f o.loc o.index) (registers i.operands) (λ o m. index-stays t f g stay o.loc o.index (classed o m)) k && (not (unput k) || subregs_fit t g i.operands))
      ∙ (λ k. first_of_both (list_all (λ (o : RegOp). index_fits t f o.loc o.index) (registers i.operands)) (not (does puts_together t i) || subregs_fit t f i.operands) s.indexes k && true)

  readings-classed : (k : ℕ) (u : RegOp) → Among u (readings_besides k bs) → has_class f u.loc ≡ true
  readings-classed k u m =
      let others = filter (λ (b : Bound). not (passes (ties_to k) b.0)) bs in
      let a = (filter-of (λ (o : RegOp). not o.def && not o.undef) u (registers (map (λ (b : Bound). b.1) others)) m).0 in
      let b = told-of as_register u (map (λ (b : Bound). b.1) others) a in
      let c = map-of (λ (b : Bound). b.1) b.0 others b.1 in
      let d = (filter-of (λ (b : Bound). not (passes (ties_to k) b.0)) c.0 bs c.1).0 in
      bound-classed c.0 d u (sym c.2 ∙ register-of b.0 u b.2)

  early-stays : (x : ℕ × Bound) → Among x (numbered 0 bs) → early_fits t g bs x ≡ early_fits t f bs x
  early-stays (k, (q, operands.Reg d)) m =
      let hd : has_class f d.loc ≡ true = bound-classed (q, operands.Reg d) (numbered-of 0 bs (k, (q, operands.Reg d)) m) d refl in
      λ s. not (passes is_early q) || not (any-same (λ u. share_a_lane (clashing_lanes t g d) (clashing_lanes t g u)) (λ u. share_a_lane (clashing_lanes t f d) (clashing_lanes t f u)) (readings_besides k bs) (λ u mu. λ z. share_a_lane (clashing t f g stay d hd z) (clashing t f g stay u (readings-classed k u mu) z)) s)
  early-stays (k, (q, x)) m = refl

  twelve : V12 t forms.Source g i ≡ true
  unfolding V12
  twelve =
      (λ k. list_all (undef_fits forms.Source (registers i.operands)) defs
      && no_two_share (map-same (defined_lanes t g (does is_opaque t i)) (defined_lanes t f (does is_opaque t i)) defs (λ d m. defines t f g stay (does is_opaque t i) d (classed d (filter-of (λ (o : RegOp). o.def) d (registers i.operands) m).0)) k)
      && all-same (early_fits t g bs) (early_fits t f bs) (numbered 0 bs) early-stays k
      && undef_uses_fit (does is_opaque t i) bs)
      ∙ s.definitions

  pub stays-shaped : IsShaped t g i
  stays-shaped = record { operands = one; widths = two; classes = three; indexes = four; definitions = twelve }

pub stays_keep_rules : StaysKeepRules
stays_keep_rules t f g i stay s low = stays-shaped t f g stay i s low
