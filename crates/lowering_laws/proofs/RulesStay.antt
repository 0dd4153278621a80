-- An instruction keeps the rules in a function where the registers that it names have the classes that they had.
use Rattle.std.proofs.Common.{◌≡◌, ◌∷◌, ◌∙◌, ◌&&◌, ◌||◌, not, ℕ, suc, Bool, true, false, cond, List, Option, Some, None, map, filter, flat_map, length, refl, sym, ap, subst, []}
use Rattle.std.specs.Prelude.{is_some, option_and_then, option_map, option_to_list, slice_index}
use Rattle.std.specs.List.{list_all, list_any}
use Rattle.target_base.specs.declared.types.ClassId.{ClassId}
use Rattle.target_base.specs.declared.types.Effect.{Effect}
use Rattle.target_base.specs.declared.types.Effect.TheVariants as effects
use Rattle.target_base.specs.declared.types.IndexId.{IndexId}
use Rattle.target_base.specs.declared.types.OpcodeDesc.{OpcodeDesc}
use Rattle.target_base.specs.declared.types.Target.{Target}
use Rattle.target_base.specs.Registers.{fits, lanes_of, widths_of_some}
use Rattle.target_base.specs.Storage.{same_numbers}
use Rattle.target_base.proofs.Tests.{first_of_both, second_of_both}
use Rattle.meaning.specs.Live.{Among, here, there}
use Rattle.meaning.specs.declared.types.Lane.TheVariants.{VirtualLane}
use Rattle.mir_func.specs.declared.func.Loc.{Loc}
use Rattle.mir_func.specs.declared.func.Loc.TheVariants.{Fixed, Virtual}
use Rattle.mir_func.specs.declared.func.RegOp.{RegOp}
use Rattle.mir_func.specs.declared.func.Operand.{Operand}
use Rattle.mir_func.specs.declared.func.Operand.TheVariants as operands
use Rattle.mir_func.specs.declared.func.Instr.{Instr}
use Rattle.mir_func.specs.Value.{Function}
use Rattle.mir_func.specs.Binding.{Bound, TiedPair, as_register, asked_class, bound, class_of, does, explicit_bound, explicit_operands, explicit_roles, implicit_bound, implicit_registers, implicit_roles, is_early, is_implicit_operand, is_virtual, known_opcode, numbered, passes, puts_together, registers, roles_of, same_loc, tied_pair, tied_pairs, ties_to}
use Rattle.mir_meaning.specs.Items.{unreserved}
use Rattle.mir_meaning.specs.Registers.{located_lanes, located_widths, numbers}
use Rattle.mir_meaning.specs.declared.Form.TheVariants as forms
use Rattle.mir_meaning.specs.Rules.{V1, V2, V3, V4, V11, V12, V15, are_apart, at_index, clashing_lanes, defined_lanes, early_fits, flags_fit, has_class, has_home, has_lanes_at, in_operand_class, index_fits, index_of, is_opaque, is_taken_reserved, lies_in, no_two_share, operands_fit, parts_fit, readings_besides, register_lies_in, same_widths, share_a_lane, spills_or_reloads, subregs_fit, tie_fits, undef_fits, undef_uses_fit, widths_fit}
use Rattle.instr_effects.proofs.Members.{either-elim, filter-of, map-of, member-elim, member-none}
use Rattle.lowering_laws.proofs.Operands.{named}
use Rattle.lowering_laws.proofs.Ruled.{InstrRules}
use Rattle.lowering_laws.proofs.Seated.{bound-operand, pair-is, register-in, register-of, register-there, told-of}

-- tests and values that are the same of each member

all-same : {X : Type 0} (p q : X → Bool) (xs : List X) → ((x : X) → Among x xs → p x ≡ q x) → list_all p xs ≡ list_all q xs
all-same p q [] h = refl
all-same p q (x ∷ xs) h = λ k. h x here k && all-same p q xs (λ y m. h y (there m)) k

any-same : {X : Type 0} (p q : X → Bool) (xs : List X) → ((x : X) → Among x xs → p x ≡ q x) → list_any p xs ≡ list_any q xs
any-same p q [] h = refl
any-same p q (x ∷ xs) h = λ k. h x here k || any-same p q xs (λ y m. h y (there m)) k

map-same : {X Y : Type 0} (p q : X → Y) (xs : List X) → ((x : X) → Among x xs → p x ≡ q x) → map p xs ≡ map q xs
map-same p q [] h = refl
map-same p q (x ∷ xs) h = λ k. h x here k ∷ map-same p q xs (λ y m. h y (there m)) k

pub all-more : {X : Type 0} (p q : X → Bool) (xs : List X) → ((x : X) → p x ≡ true → q x ≡ true) → list_all p xs ≡ true → list_all q xs ≡ true
all-more p q [] h e = refl
all-more p q (x ∷ xs) h e = λ k. h x (first_of_both (p x) (list_all p xs) e) k && all-more p q xs h (second_of_both (p x) (list_all p xs) e) k

pub numbered-of : {X : Type 0} (n : ℕ) (xs : List X) (x : ℕ × X) → Among x (numbered n xs) → Among x.1 xs
numbered-of n [] x m = absurd (member-none x m)
numbered-of n (y ∷ xs) x m = member-elim x (n, y) (numbered (suc n) xs) (λ e. subst (λ z. Among z (y ∷ xs)) (sym (ap (λ z. z.1) e)) here) (λ k. there (numbered-of (suc n) xs x k)) m

pub same-register : (p o : RegOp) → operands.Reg p ≡ operands.Reg o → p ≡ o
same-register p o e = cc

module _ (t : Target) (f g : Function) (stay : (v : ℕ) → is_some (class_of f v) ≡ true → class_of g v ≡ class_of f v) where
  -- what is said of a register that has a class

  pub class-stays : (l : Loc) → has_class f l ≡ true → has_class g l ≡ true
  class-stays (Virtual v) h = ap is_some (stay v h) ∙ h
  class-stays (Fixed r) h = refl

  pub has-lanes : (l : Loc) (x : Option IndexId) → has_class f l ≡ true → has_lanes_at t g l x ≡ has_lanes_at t f l x
  has-lanes (Virtual v) x h = ap (passes (λ c. fits t c x)) (stay v h)
  has-lanes (Fixed r) x h = refl

  pub lanes : (l : Loc) (x : Option IndexId) → has_class f l ≡ true → located_lanes t g l x ≡ located_lanes t f l x
  lanes (Virtual v) None h = ap (λ q. map (VirtualLane v) (numbers 0 (length (widths_of_some t q)))) (stay v h)
  lanes (Virtual v) (Some x) h = refl
  lanes (Fixed r) x h = refl

  pub widths : (l : Loc) (x : Option IndexId) → has_class f l ≡ true → located_widths t g l x ≡ located_widths t f l x
  widths (Virtual v) None h = ap (widths_of_some t) (stay v h)
  widths (Virtual v) (Some x) h = ap (λ q. map (slice_index (widths_of_some t q)) (lanes_of t x)) (stay v h)
  widths (Fixed r) x h = refl

  pub index-stays : (l : Loc) (x : Option IndexId) → has_class f l ≡ true → index_fits t g l x ≡ index_fits t f l x
  index-stays (Virtual v) x h = ap (λ q. elim q as (λ q. Bool) [ None ↦ true | Some c ↦ fits t c x ]) (stay v h)
  index-stays (Fixed r) x h = refl

  pub lies-within : (k : ClassId) (l : Loc) (x : Option IndexId) → has_class f l ≡ true → register_lies_in t g k l x ≡ register_lies_in t f k l x
  lies-within k (Virtual v) x h = ap (passes (λ c. lies_in t k c x)) (stay v h)
  lies-within k (Fixed r) x h = refl

  pub wide : (a b : RegOp) → has_class f a.loc ≡ true → has_class f b.loc ≡ true → same_widths t g a b ≡ same_widths t f a b
  wide a b ha hb = λ k. not (has-lanes a.loc a.index ha k && has-lanes b.loc b.index hb k) || same_numbers (widths a.loc a.index ha k) (widths b.loc b.index hb k)

  pub clashing : (o : RegOp) → has_class f o.loc ≡ true → clashing_lanes t g o ≡ clashing_lanes t f o
  clashing o h = λ k. cond (has-lanes o.loc o.index h k) (unreserved t (lanes o.loc o.index h k)) []

  pub defines : (opaque : Bool) (d : RegOp) → has_class f d.loc ≡ true → defined_lanes t g opaque d ≡ defined_lanes t f opaque d
  defines true d h = λ k. cond (has-lanes d.loc d.index h k) (lanes d.loc d.index h k) []
  defines false d h = clashing d h

  -- and of operands whose registers have classes

  abbrev Classed : List Operand → Type 0
  Classed os = (o : RegOp) → Among o (registers os) → has_class f o.loc ≡ true

  subregs : (os : List Operand) → Classed os → subregs_fit t g os ≡ subregs_fit t f os
  subregs (operands.Reg d ∷ os) h = all-same (λ x. index_fits t g d.loc (Some x)) (λ x. index_fits t f d.loc (Some x)) (flat_map index_of os) (λ x m. index-stays d.loc (Some x) (h d here))
  subregs os h = refl

  parts : (d : RegOp) (os : List Operand) → has_class f d.loc ≡ true → Classed os → parts_fit t g d os ≡ parts_fit t f d os
  parts d (operands.Reg s ∷ operands.Index x ∷ os) hd h = λ k. wide s (at_index d x) (h s here) hd k && parts d os hd (λ o m. h o (there m)) k
  parts d os hd h = refl

  together : (e : Effect) (os : List Operand) → Classed os → widths_fit t g e os ≡ widths_fit t f e os
  together effects.Copy (operands.Reg d ∷ operands.Reg s ∷ os) h = λ k. wide d s (h d here) (h s (there here)) k && has_home t d.loc s.loc && has_home t s.loc d.loc
  together effects.Phi (operands.Reg d ∷ os) h = all-same (same_widths t g d) (same_widths t f d) (registers os) (λ o m. wide d o (h d here) (h o (there m)))
  together effects.RegSequence (operands.Reg d ∷ os) h = λ k. are_apart t os && parts d os (h d here) (λ o m. h o (there m)) k
  together effects.InsertSubreg (operands.Reg d ∷ operands.Reg a ∷ operands.Reg b ∷ operands.Index x ∷ os) h = λ k. wide a d (h a (there here)) (h d here) k && wide b (at_index d x) (h b (there (there here))) (h d here) k
  together e os h = refl

  fit : (d : OpcodeDesc) (os : List Operand) (e : Effect) → spills_or_reloads e ≡ false → operands_fit t g d os e ≡ operands_fit t f d os e
  fit d os effects.Spill h = absurd (cc)
  fit d os effects.Reload h = absurd (cc)
  fit d os e h = refl

  pub in-class : (e : Effect) (x : Bound) → ((o : RegOp) → x.1 ≡ operands.Reg o → has_class f o.loc ≡ true) → in_operand_class t g e x ≡ in_operand_class t f e x
  in-class e (r, operands.Reg o) h =
      let c : has_class f o.loc ≡ true = h o refl in
      λ k. not (has-lanes o.loc o.index c k) || is_taken_reserved t e r o.loc || all-same (λ q. register_lies_in t g q o.loc o.index) (λ q. register_lies_in t f q o.loc o.index) (option_to_list (option_and_then asked_class r)) (λ q m. lies-within q o.loc o.index c) k
  in-class e (r, x) h = refl

  module _ (i : Instr) (r : InstrRules t f i) (n : ℕ) where
    abbrev j : Instr
    j = record i { id = n }

    abbrev bs : List Bound
    bs = bound t i

    abbrev defs : List RegOp
    defs = filter (λ (o : RegOp). o.def) (registers i.operands)

    classed : Classed i.operands
    classed o m = (named t f i r o m).class

    bound-classed : (x : Bound) → Among x bs → (o : RegOp) → x.1 ≡ operands.Reg o → has_class f o.loc ≡ true
    bound-classed x m o e =
        let rs = roles_of t i in
        either-elim x (explicit_bound (explicit_roles rs) (explicit_operands i.operands)) (map (implicit_bound (implicit_roles rs)) (implicit_registers i.operands))
        (λ k.
        let y = bound-operand (explicit_roles rs) (explicit_operands i.operands) x.0 x.1 k in
        let z = (filter-of (λ q. not (is_implicit_operand q)) x.1 i.operands y).0 in
        classed o (register-in o i.operands (subst (λ q. Among q i.operands) e z)))
        (λ k.
        let y = map-of (implicit_bound (implicit_roles rs)) x (implicit_registers i.operands) k in
        let z = (filter-of (λ (q : RegOp). q.implicit) y.0 (registers i.operands) y.1).0 in
        subst (λ (q : RegOp). has_class f q.loc ≡ true) (same-register y.0 o (sym (ap (λ (b : Bound). b.1) y.2) ∙ e)) (classed y.0 z))
        m

    not-true : (b : Bool) → not b ≡ true → b ≡ false
    not-true true e = absurd (cc)
    not-true false e = refl

    none-spilled : does spills_or_reloads t i ≡ false
    unfolding V15
    none-spilled = not-true (does spills_or_reloads t i) r.fifteen

    one : V1 t g j ≡ true
    unfolding V1
    one = by (known_opcode t i.op) none-spilled r.one
      where
        by : (q : Option OpcodeDesc) → passes spills_or_reloads (option_map (λ d. d.effect) q) ≡ false → elim q [ None ↦ true | Some d ↦ operands_fit t f d i.operands d.effect ] ≡ true → elim q [ None ↦ true | Some d ↦ operands_fit t g d i.operands d.effect ] ≡ true
        by None s e = refl
        by (Some d) s e = fit d i.operands d.effect s ∙ e

    two : V2 t g j ≡ true
    unfolding V2
    two = by (known_opcode t i.op) r.two
      where
        by : (q : Option OpcodeDesc) → elim q [ None ↦ true | Some d ↦ list_all (in_operand_class t f d.effect) bs && widths_fit t f d.effect i.operands ] ≡ true → elim q [ None ↦ true | Some d ↦ list_all (in_operand_class t g d.effect) bs && widths_fit t g d.effect i.operands ] ≡ true
        by None e = refl
        by (Some d) e = (λ k. all-same (in_operand_class t g d.effect) (in_operand_class t f d.effect) bs (λ x m. in-class d.effect x (bound-classed x m)) k && together d.effect i.operands classed k) ∙ e

    three : V3 g j ≡ true
    unfolding V3
    three = all-more (λ (o : RegOp). has_class f o.loc) (λ (o : RegOp). has_class g o.loc) (registers i.operands) (λ o h. class-stays o.loc h) r.three

    four : V4 t g j ≡ true
    unfolding V4
    four =
        (λ k. all-same (λ (o : RegOp). index_fits t g o.loc o.index) (λ (o : RegOp). index_fits t f o.loc o.index) (registers i.operands) (λ o m. index-stays o.loc o.index (classed o m)) k && (not (does puts_together t i) || subregs i.operands classed k))
        ∙ r.four

    tie-stays : (p : TiedPair) → Among p (tied_pairs t i) → tie_fits t forms.Source g p.definition p.tied_use ≡ tie_fits t forms.Source f p.definition p.tied_use
    tie-stays p m =
        let z = told-of (tied_pair i.operands) p bs m in
        let y = pair-is i.operands z.0.0 z.0.1 p z.2 in
        let d = classed p.definition (register-in p.definition i.operands (register-there i.operands p.number p.definition y.2)) in
        let u = bound-classed z.0 z.1 p.tied_use y.0 in
        λ k. cond (is_virtual p.definition.loc && is_virtual p.tied_use.loc) (wide p.definition p.tied_use d u k) (same_loc p.definition.loc p.tied_use.loc)

    eleven : V11 t forms.Source g j ≡ true
    unfolding V11
    eleven = (λ k. list_all flags_fit bs && all-same (λ (p : TiedPair). tie_fits t forms.Source g p.definition p.tied_use) (λ (p : TiedPair). tie_fits t forms.Source f p.definition p.tied_use) (tied_pairs t i) tie-stays k) ∙ r.eleven

    readings-classed : (k : ℕ) (u : RegOp) → Among u (readings_besides k bs) → has_class f u.loc ≡ true
    readings-classed k u m =
        let others = filter (λ (b : Bound). not (passes (ties_to k) b.0)) bs in
        let a = (filter-of (λ (o : RegOp). not o.def && not o.undef) u (registers (map (λ (b : Bound). b.1) others)) m).0 in
        let b = told-of as_register u (map (λ (b : Bound). b.1) others) a in
        let c = map-of (λ (b : Bound). b.1) b.0 others b.1 in
        let d = (filter-of (λ (b : Bound). not (passes (ties_to k) b.0)) c.0 bs c.1).0 in
        bound-classed c.0 d u (sym c.2 ∙ register-of b.0 u b.2)

    early-stays : (x : ℕ × Bound) → Among x (numbered 0 bs) → early_fits t g bs x ≡ early_fits t f bs x
    early-stays (k, (q, operands.Reg d)) m =
        let hd : has_class f d.loc ≡ true = bound-classed (q, operands.Reg d) (numbered-of 0 bs (k, (q, operands.Reg d)) m) d refl in
        λ s. not (passes is_early q) || not (any-same (λ u. share_a_lane (clashing_lanes t g d) (clashing_lanes t g u)) (λ u. share_a_lane (clashing_lanes t f d) (clashing_lanes t f u)) (readings_besides k bs) (λ u mu. λ z. share_a_lane (clashing d hd z) (clashing u (readings-classed k u mu) z)) s)
    early-stays (k, (q, x)) m = refl

    twelve : V12 t forms.Source g j ≡ true
    unfolding V12
    twelve =
        (λ k. list_all (undef_fits forms.Source (registers i.operands)) defs
        && no_two_share (map-same (defined_lanes t g (does is_opaque t i)) (defined_lanes t f (does is_opaque t i)) defs (λ d m. defines (does is_opaque t i) d (classed d (filter-of (λ (o : RegOp). o.def) d (registers i.operands) m).0)) k)
        && all-same (early_fits t g bs) (early_fits t f bs) (numbered 0 bs) early-stays k
        && undef_uses_fit (does is_opaque t i) bs)
        ∙ r.twelve

    fifteen : V15 t forms.Source g j ≡ true
    unfolding V15
    fifteen = r.fifteen

    pub rules-stay : InstrRules t g j
    rules-stay = record { known = r.known; one = one; two = two; three = three; four = four; eleven = eleven; twelve = twelve; fifteen = fifteen }
