-- An instruction keeps the rules on its operands, widths, classes, indexes and definitions in a function with further classes.
use Rattle.std.proofs.Common.{◌≡◌, ◌∷◌, ◌++◌, ◌∙◌, ◌&&◌, ◌||◌, ◌⊎◌, inl, inr, not, ℕ, zero, suc, Bool, true, false, cond, List, Option, Some, None, map, filter, length, refl, sym, ap, subst, []}
use Rattle.std.specs.Prelude.{◌==◌, flat_map, is_some, option_and_then, option_to_list, slice_get, slice_index}
use Rattle.std.specs.List.{list_all, list_any}
use Rattle.target_base.specs.declared.types.ClassId.{ClassId}
use Rattle.target_base.specs.declared.types.Effect.{Effect}
use Rattle.target_base.specs.declared.types.Effect.TheVariants as effects
use Rattle.target_base.specs.declared.types.IndexId.{IndexId}
use Rattle.target_base.specs.declared.types.OpcodeDesc.{OpcodeDesc}
use Rattle.target_base.specs.declared.types.Target.{Target}
use Rattle.target_base.specs.Registers.{IsClass, fits, lanes_of, widths_of_some}
use Rattle.target_base.specs.Storage.{same_numbers}
use Rattle.meaning.specs.declared.types.Lane.TheVariants.{VirtualLane}
use Rattle.meaning.specs.Live.{Among as Member, here, there}
use Rattle.mir_func.specs.declared.func.Block.{Block}
use Rattle.mir_func.specs.declared.func.Loc.{Loc}
use Rattle.mir_func.specs.declared.func.Loc.TheVariants.{Fixed, Virtual}
use Rattle.mir_func.specs.declared.func.RegOp.{RegOp}
use Rattle.mir_func.specs.declared.func.Operand.{Operand}
use Rattle.mir_func.specs.declared.func.Operand.TheVariants as operands
use Rattle.mir_func.specs.declared.func.Instr.{Instr}
use Rattle.mir_func.specs.Value.{Function}
use Rattle.mir_func.specs.Binding.{Bound, asked_class, bound, class_of, does, explicit_bound, explicit_operands, explicit_roles, implicit_bound, implicit_registers, implicit_roles, is_early, known_opcode, numbered, passes, puts_together, registers, roles_of, ties_to}
use Rattle.mir_func.proofs.Bound.{bound_operands, numbered_things}
use Rattle.mir_meaning.specs.Items.{unreserved}
use Rattle.mir_meaning.specs.Registers.{located_lanes, located_widths, numbers}
use Rattle.mir_meaning.specs.declared.Form.TheVariants as forms
use Rattle.mir_meaning.specs.Rules.{V1, V2, V3, V4, V5, V7, V12, at_index, clashing_lanes, defined_lanes, early_fits, explicit_fit, implicit_fit, implicit_last, has_class, has_home, has_lanes_at, in_operand_class, index_fits, index_of, is_opaque, is_reserved_register, lanes_fit, lies_in, no_two_share, operands_fit, parts_fit, are_apart, readings_besides, register_lies_in, same_widths, share_a_lane, subregs_fit, takes_reserved, undef_fits, undef_uses_fit, values_fit, widths_fit}
use Rattle.instr_effects.proofs.Members.{map-in}
use Rattle.instr_effects.proofs.Tables.{slice-left}
use Rattle.live_laws.specs.Effects.Coded.{KeepsRules}
use Rattle.live_laws.specs.Effects.Shaped.{IsShaped}
use Rattle.live_laws.proofs.Effects.Shapes.{class-there}
use Rattle.live_laws.proofs.Effects.Blocks.{slice-member}
use Rattle.live_edits.proofs.JoiningMembers.{filter-member}
use Rattle.live_edits.proofs.JoiningPlaces.{map-member}
use Rattle.edit_laws.specs.Further.{with_classes}
use Rattle.spiller.proofs.Basics.{map-same}

-- tests that agree on members

all-same : {X : Type 0} (p q : X → Bool) (xs : List X) → ((x : X) → Member x xs → p x ≡ q x) → list_all p xs ≡ list_all q xs
all-same p q [] h = refl
all-same p q (x ∷ xs) h = λ k. h x here k && all-same p q xs (λ y m. h y (there m)) k

any-same : {X : Type 0} (p q : X → Bool) (xs : List X) → ((x : X) → Member x xs → p x ≡ q x) → list_any p xs ≡ list_any q xs
any-same p q [] h = refl
any-same p q (x ∷ xs) h = λ k. h x here k || any-same p q xs (λ y m. h y (there m)) k

either-member : {X : Type 0} (P : X → Type 0) (xs ys : List X) (y : X) → Member y (xs ++ ys) → ((x : X) → Member x xs → P x) → ((x : X) → Member x ys → P x) → P y
either-member P [] ys y a p q = q y a
either-member P (x ∷ xs) ys y here p q = p x here
either-member P (x ∷ xs) ys y (there a) p q = either-member P xs ys y a (λ z m. p z (there m)) q

registers-member : (o : RegOp) (os : List Operand) → Member o (registers os) → Member (operands.Reg o) os
registers-member o [] m = elim m [ ]
registers-member o (operands.Reg p ∷ os) here = here
registers-member o (operands.Reg p ∷ os) (there m) = there (registers-member o os m)
registers-member o (operands.Imm z ∷ os) m = there (registers-member o os m)
registers-member o (operands.Block z ∷ os) m = there (registers-member o os m)
registers-member o (operands.Stack z ∷ os) m = there (registers-member o os m)
registers-member o (operands.FixedStack z ∷ os) m = there (registers-member o os m)
registers-member o (operands.Symbol z ∷ os) m = there (registers-member o os m)
registers-member o (operands.Index z ∷ os) m = there (registers-member o os m)
registers-member o (operands.Mask z ∷ os) m = there (registers-member o os m)

-- further classes

get-either : {X : Type 0} (xs ys : List X) (k : ℕ) (x : X) → slice_get (xs ++ ys) k ≡ Some x → (slice_get xs k ≡ Some x) ⊎ Member x ys
get-either [] ys k x e = inr (slice-member ys k x e)
get-either (y ∷ xs) ys zero x e = inl e
get-either (y ∷ xs) ys (suc k) x e = get-either xs ys k x e

abbrev class_at : Option (Option ClassId) → Option ClassId
class_at q = elim q as (λ q. Option ClassId) [ None ↦ None | Some c ↦ c ]

module _ (t : Target) (f : Function) (cs : List (Option ClassId)) where
  abbrev g : Function
  g = with_classes f cs

  class-same : (w : ℕ) → has_class f (Virtual w) ≡ true → class_of g w ≡ class_of f w
  class-same w h = go (slice_get f.classes w) refl h
    where
      go : (q : Option (Option ClassId)) → slice_get f.classes w ≡ q → is_some (class_at q) ≡ true → class_at (slice_get (f.classes ++ cs) w) ≡ class_at (slice_get f.classes w)
      go None e h = absurd (let z : false ≡ true = h in cc)
      go (Some c) e h = ap class_at (slice-left f.classes cs w c e ∙ sym e)

  -- a register with a class

  has-lanes : (l : Loc) (x : Option IndexId) → has_class f l ≡ true → has_lanes_at t g l x ≡ has_lanes_at t f l x
  has-lanes (Virtual w) x h = ap (passes (λ c. fits t c x)) (class-same w h)
  has-lanes (Fixed r) x h = refl

  widths : (l : Loc) (x : Option IndexId) → has_class f l ≡ true → located_widths t g l x ≡ located_widths t f l x
  widths (Virtual w) None h = ap (widths_of_some t) (class-same w h)
  widths (Virtual w) (Some x) h = ap (λ q. map (slice_index (widths_of_some t q)) (lanes_of t x)) (class-same w h)
  widths (Fixed r) x h = refl

  indexed : (l : Loc) (x : Option IndexId) → has_class f l ≡ true → index_fits t g l x ≡ index_fits t f l x
  indexed (Virtual w) x h = ap (λ q. elim q as (λ q. Bool) [ None ↦ true | Some c ↦ fits t c x ]) (class-same w h)
  indexed (Fixed r) x h = refl

  lies : (k : ClassId) (l : Loc) (x : Option IndexId) → has_class f l ≡ true → register_lies_in t g k l x ≡ register_lies_in t f k l x
  lies k (Virtual w) x h = ap (passes (λ c. lies_in t k c x)) (class-same w h)
  lies k (Fixed r) x h = refl

  classed : (l : Loc) → has_class f l ≡ true → has_class g l ≡ has_class f l
  classed (Virtual w) h = ap is_some (class-same w h)
  classed (Fixed r) h = refl

  lanes : (l : Loc) (x : Option IndexId) → has_class f l ≡ true → located_lanes t g l x ≡ located_lanes t f l x
  lanes (Virtual w) None h = ap (λ q. map (VirtualLane w) (numbers 0 (length (widths_of_some t q)))) (class-same w h)
  lanes (Virtual w) (Some x) h = refl
  lanes (Fixed r) x h = refl

  wide : (a b : RegOp) → has_class f a.loc ≡ true → has_class f b.loc ≡ true → same_widths t g a b ≡ same_widths t f a b
  wide a b p q = λ k. not (has-lanes a.loc a.index p k && has-lanes b.loc b.index q k) || same_numbers (widths a.loc a.index p k) (widths b.loc b.index q k)

  clashing : (o : RegOp) → has_class f o.loc ≡ true → clashing_lanes t g o ≡ clashing_lanes t f o
  clashing o h = λ k. cond (has-lanes o.loc o.index h k) (unreserved t (lanes o.loc o.index h k)) []

  defines : (opaque : Bool) (d : RegOp) → has_class f d.loc ≡ true → defined_lanes t g opaque d ≡ defined_lanes t f opaque d
  defines true d h = λ k. cond (has-lanes d.loc d.index h k) (lanes d.loc d.index h k) []
  defines false d h = clashing d h

  -- operands with classes

  abbrev AllClassed : List Operand → Type 0
  AllClassed os = (o : RegOp) → Member o (registers os) → has_class f o.loc ≡ true

  abbrev Classed : Operand → Type 0
  Classed (operands.Reg o) = has_class f o.loc ≡ true
  Classed o = Unit {0}

  fit-lanes : (os : List Operand) → AllClassed os → lanes_fit t g os ≡ lanes_fit t f os
  fit-lanes (operands.Reg o ∷ s ∷ operands.Index x ∷ os) h = λ k. not (has-lanes o.loc o.index (h o here) k) || length (lanes_of t x) == length (widths o.loc o.index (h o here) k)
  fit-lanes os h = refl

  fit-values : (e : Effect) (os : List Operand) → AllClassed os → values_fit t g e os ≡ values_fit t f e os
  fit-values effects.Spill os h = fit-lanes os h
  fit-values effects.Reload os h = fit-lanes os h
  fit-values e os h = refl

  fit : (d : OpcodeDesc) (os : List Operand) (e : Effect) → AllClassed os → operands_fit t g d os e ≡ operands_fit t f d os e
  fit d os effects.Spill h = ap (λ u. implicit_last os && explicit_fit t effects.Spill (explicit_roles d.roles) (explicit_operands os) && implicit_fit d (implicit_registers os) && u) (fit-values effects.Spill os h)
  fit d os effects.Reload h = ap (λ u. implicit_last os && explicit_fit t effects.Reload (explicit_roles d.roles) (explicit_operands os) && implicit_fit d (implicit_registers os) && u) (fit-values effects.Reload os h)
  fit d os e h = refl

  in-class : (e : Effect) (b : Bound) → Classed b.1 → in_operand_class t g e b ≡ in_operand_class t f e b
  in-class e (r, operands.Reg o) h =
      λ k. not (has-lanes o.loc o.index h k) || (is_opaque e && passes takes_reserved r && is_reserved_register t o.loc) || list_all (λ c. lies c o.loc o.index h k) (option_to_list (option_and_then asked_class r))
  in-class e (r, o) h = refl

  fit-parts : (d : RegOp) (os : List Operand) → has_class f d.loc ≡ true → AllClassed os → parts_fit t g d os ≡ parts_fit t f d os
  fit-parts d (operands.Reg s ∷ operands.Index x ∷ os) p h = λ k. wide s (at_index d x) (h s here) p k && fit-parts d os p (λ o m. h o (there m)) k
  fit-parts d os p h = refl

  fit-widths : (e : Effect) (os : List Operand) → AllClassed os → widths_fit t g e os ≡ widths_fit t f e os
  fit-widths effects.Copy (operands.Reg d ∷ operands.Reg s ∷ os) h = ap (λ u. u && has_home t d.loc s.loc && has_home t s.loc d.loc) (wide d s (h d here) (h s (there here)))
  fit-widths effects.Phi (operands.Reg d ∷ os) h = all-same (same_widths t g d) (same_widths t f d) (registers os) (λ o m. wide d o (h d here) (h o (there m)))
  fit-widths effects.RegSequence (operands.Reg d ∷ os) h = ap (λ u. are_apart t os && u) (fit-parts d os (h d here) (λ o m. h o (there m)))
  fit-widths effects.InsertSubreg (operands.Reg d ∷ operands.Reg a ∷ operands.Reg b ∷ operands.Index x ∷ os) h =
      λ k. wide a d (h a (there here)) (h d here) k && wide b (at_index d x) (h b (there (there here))) (h d here) k
  fit-widths e os h = refl

  fit-subregs : (os : List Operand) → AllClassed os → subregs_fit t g os ≡ subregs_fit t f os
  fit-subregs (operands.Reg d ∷ os) h = all-same (λ x. index_fits t g d.loc (Some x)) (λ x. index_fits t f d.loc (Some x)) (flat_map index_of os) (λ x m. indexed d.loc (Some x) (h d here))
  fit-subregs os h = refl

  module _ (i : Instr) (shaped : IsShaped t f i) where
    all-classed : AllClassed i.operands
    all-classed = class-there t f i shaped

    each-classed : (o : Operand) → Member o i.operands → Classed o
    each-classed (operands.Reg o) m = all-classed o (reg-in o i.operands m)
      where
        reg-in : (o : RegOp) (os : List Operand) → Member (operands.Reg o) os → Member o (registers os)
        reg-in o [] m = elim m [ ]
        reg-in o (operands.Reg p ∷ os) here = here
        reg-in o (operands.Reg p ∷ os) (there m) = there (reg-in o os m)
        reg-in o (operands.Imm z ∷ os) (there m) = reg-in o os m
        reg-in o (operands.Block z ∷ os) (there m) = reg-in o os m
        reg-in o (operands.Stack z ∷ os) (there m) = reg-in o os m
        reg-in o (operands.FixedStack z ∷ os) (there m) = reg-in o os m
        reg-in o (operands.Symbol z ∷ os) (there m) = reg-in o os m
        reg-in o (operands.Index z ∷ os) (there m) = reg-in o os m
        reg-in o (operands.Mask z ∷ os) (there m) = reg-in o os m
    each-classed o m = tt

    abbrev bs : List Bound
    bs = bound t i

    bound-classed : (b : Bound) → Member b bs → Classed b.1
    bound-classed b m =
        let es = explicit_roles (roles_of t i) in
        let is = implicit_roles (roles_of t i) in
        either-member (λ (x : Bound). Classed x.1) (explicit_bound es (explicit_operands i.operands)) (map (implicit_bound is) (implicit_registers i.operands)) b m
        (λ x n. each-classed x.1 (filter-member _ i.operands x.1 (subst (Member x.1) (bound_operands es (explicit_operands i.operands)) (map-in (λ (c : Bound). c.1) x (explicit_bound es (explicit_operands i.operands)) n))))
        (λ x n. let z = map-member (implicit_bound is) (implicit_registers i.operands) x n in subst (λ (c : Bound). Classed c.1) (sym z.2) (all-classed z.0 (filter-member _ (registers i.operands) z.0 z.1)))

    one : V1 t g i ≡ V1 t f i
    unfolding V1
    one = by (known_opcode t i.op)
      where
        by : (q : Option OpcodeDesc) → elim q as (λ q. Bool) [ None ↦ true | Some d ↦ operands_fit t g d i.operands d.effect ] ≡ elim q as (λ q. Bool) [ None ↦ true | Some d ↦ operands_fit t f d i.operands d.effect ]
        by None = refl
        by (Some d) = fit d i.operands d.effect all-classed

    two : V2 t g i ≡ V2 t f i
    unfolding V2
    two = by (known_opcode t i.op)
      where
        by : (q : Option OpcodeDesc) → elim q as (λ q. Bool) [ None ↦ true | Some d ↦ list_all (in_operand_class t g d.effect) bs && widths_fit t g d.effect i.operands ] ≡ elim q as (λ q. Bool) [ None ↦ true | Some d ↦ list_all (in_operand_class t f d.effect) bs && widths_fit t f d.effect i.operands ]
        by None = refl
        by (Some d) = λ k. all-same (in_operand_class t g d.effect) (in_operand_class t f d.effect) bs (λ b m. in-class d.effect b (bound-classed b m)) k && fit-widths d.effect i.operands all-classed k

    three : V3 g i ≡ V3 f i
    unfolding V3
    three = all-same (λ (o : RegOp). has_class g o.loc) (λ (o : RegOp). has_class f o.loc) (registers i.operands) (λ o m. classed o.loc (all-classed o m))

    four : V4 t g i ≡ V4 t f i
    unfolding V4
    four = λ k. all-same (λ (o : RegOp). index_fits t g o.loc o.index) (λ (o : RegOp). index_fits t f o.loc o.index) (registers i.operands) (λ o m. indexed o.loc o.index (all-classed o m)) k && (not (does puts_together t i) || fit-subregs i.operands all-classed k)

    besides-classed : (n : ℕ) (u : RegOp) → Member u (readings_besides n bs) → has_class f u.loc ≡ true
    besides-classed n u m =
        let others = filter (λ (b : Bound). not (passes (ties_to n) b.0)) bs in
        let r : Member u (registers (map (λ (b : Bound). b.1) others)) = filter-member _ (registers (map (λ (b : Bound). b.1) others)) u m in
        let z = map-member (λ (b : Bound). b.1) others (operands.Reg u) (registers-member u (map (λ (b : Bound). b.1) others) r) in
        subst Classed (sym z.2) (bound-classed z.0 (filter-member _ bs z.0 z.1))

    fit-early : (p : ℕ × Bound) → Classed p.1.1 → early_fits t g bs p ≡ early_fits t f bs p
    fit-early (n, (r, operands.Reg d)) h =
        ap (λ u. not (passes is_early r) || not u)
        (any-same (λ u. share_a_lane (clashing_lanes t g d) (clashing_lanes t g u)) (λ u. share_a_lane (clashing_lanes t f d) (clashing_lanes t f u)) (readings_besides n bs) (λ u m k. share_a_lane (clashing d h k) (clashing u (besides-classed n u m) k)))
    fit-early (n, (r, o)) h = refl

    twelve : V12 t forms.Source g i ≡ V12 t forms.Source f i
    unfolding V12
    twelve =
        let opaque = does is_opaque t i in
        let ds = filter (λ (o : RegOp). o.def) (registers i.operands) in
        λ k. list_all (undef_fits forms.Source (registers i.operands)) ds
        && no_two_share (map-same (defined_lanes t g opaque) (defined_lanes t f opaque) ds (λ d m. defines opaque d (all-classed d (filter-member _ (registers i.operands) d m))) k)
        && all-same (early_fits t g bs) (early_fits t f bs) (numbered 0 bs) (λ p m. fit-early p (bound-classed p.1 (subst (Member p.1) (numbered_things 0 bs) (map-in (λ (q : ℕ × Bound). q.1) p (numbered 0 bs) m)))) k
        && undef_uses_fit opaque bs

    pub shape-kept : IsShaped t g i
    shape-kept = record { operands = one ∙ shaped.operands; widths = two ∙ shaped.widths; classes = three ∙ shaped.classes; indexes = four ∙ shaped.indexes; definitions = twelve ∙ shaped.definitions }

  class-is : (v : ℕ) (c : ClassId) → ((v : ℕ) (c : ClassId) → class_of f v ≡ Some c → IsClass t c) → ((c : ClassId) → Member (Some c) cs → IsClass t c) → class_of g v ≡ Some c → IsClass t c
  class-is v c old new e = go (slice_get (f.classes ++ cs) v) refl e
    where
      go : (q : Option (Option ClassId)) → slice_get (f.classes ++ cs) v ≡ q → class_at q ≡ Some c → IsClass t c
      go None h k = absurd (cc)
      go (Some p) h k = either (get-either f.classes cs v p h)
        where
          either : (slice_get f.classes v ≡ Some p) ⊎ Member p cs → IsClass t c
          either (inl a) = old v c (ap class_at a ∙ k)
          either (inr m) = new c (subst (λ (q : Option ClassId). Member q cs) k m)

  block-rule : (k : ℕ) (b : Block) → V5 f k b ≡ true → V5 g k b ≡ true
  unfolding V5
  block-rule k b h = h

  phi-rule : (k : ℕ) (b : Block) (j : ℕ) (i : Instr) → V7 t forms.Source f k b j i ≡ true → V7 t forms.Source g k b j i ≡ true
  unfolding V7
  phi-rule k b j i h = h

  pub rules-kept : ((c : ClassId) → Member (Some c) cs → IsClass t c) → KeepsRules t f → KeepsRules t g
  rules-kept new rules = record {
    classes = λ v c e. class-is v c rules.classes new e;
    shaped = λ b i m n. shape-kept i (rules.shaped b i m n);
    blocks = λ k b e. block-rule k b (rules.blocks k b e);
    phis = λ k b j i e d. phi-rule k b j i (rules.phis k b j i e d);
  }
