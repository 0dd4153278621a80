-- The rules of an instruction hold where its slots went to others.
use Rattle.std.proofs.Common.{◌≡◌, ℕ, Bool, true, false, cond, not, ◌&&◌, ◌||◌, List, [], ◌∷◌, Option, Some, None, map, filter, take, length, refl, sym, ap, ◌∙◌}
use Rattle.std.specs.Prelude.{◌==◌, nat_eq, option_map, option_to_list, option_and_then}
use Rattle.std.specs.Bool.{beq}
use Rattle.std.specs.List.{list_all, list_any}
use Rattle.std.proofs.lemmas.Bool.{eqb-true, eq-eqb, or_parts}
use Rattle.target_base.specs.declared.types.ClassId.{ClassId}
use Rattle.target_base.specs.declared.types.Effect.{Effect}
use Rattle.target_base.specs.declared.types.Effect.TheVariants as effects
use Rattle.target_base.specs.declared.types.IndexId.{IndexId}
use Rattle.target_base.specs.declared.types.OpcodeDesc.{OpcodeDesc}
use Rattle.target_base.specs.declared.types.Target.{Target}
use Rattle.target_base.specs.Registers.{lanes_of}
use Rattle.target_base.specs.Roles.{is_slot}
use Rattle.target_base.specs.Rules.{is_phi}
use Rattle.target_base.specs.Storage.{same_numbers}
use Rattle.target_base.proofs.Tests.{first_of_both}
use Rattle.meaning.specs.Live.{Among as Member, here as first, there as later}
use Rattle.mir_func.specs.declared.func.Loc.{Loc}
use Rattle.mir_func.specs.declared.func.Loc.TheVariants.{Virtual, Fixed}
use Rattle.mir_func.specs.declared.func.RegOp.{RegOp}
use Rattle.mir_func.specs.declared.func.Operand.{Operand}
use Rattle.mir_func.specs.declared.func.Operand.TheVariants as operands
use Rattle.mir_func.specs.declared.func.Instr.{Instr}
use Rattle.mir_func.specs.declared.func.Block.{Block}
use Rattle.mir_func.specs.Value.{Function}
use Rattle.mir_func.specs.Binding.{Bound, TiedPair, asked_class, bound, does, effect_of, explicit_operands, explicit_roles, is_early, is_lowered_away, is_terminator, known_opcode, numbered, passes, puts_together, registers}
use Rattle.mir_meaning.specs.declared.Form.TheVariants as forms
use Rattle.mir_meaning.specs.Items.{unreserved}
use Rattle.mir_meaning.specs.Rules.{V1, V2, V3, V4, V7, V8, V11, V12, V15, clashing_lanes, early_fits, explicit_fit, flags_fit, has_class, has_home, has_lanes, has_lanes_at, implicit_fit, in_operand_class, index_fits, is_condition, is_early_definition, is_free_undef, is_opaque, is_taken_reserved, defined_lanes, undef_uses_fit, is_spill_slot, lanes_fit, no_two_share, operands_fit, readings_besides, register_lies_in, same_widths, share_a_lane, slot_fits, subregs_fit, tie_fits, undef_fits, values_fit, widths_fit}
use Rattle.instr_effects.proofs.Members.{filter-in, filter-of}
use Rattle.live_laws.proofs.Effects.Lists.{any-in}
use Rattle.slot_laws.specs.Homes.{block_moved, function_moved, instr_moved, goes, slot_moved}
use Rattle.slot_laws.proofs.Alike.{lanes-alike, widths-alike}
use Rattle.slot_laws.proofs.Merged.{map-alike}
use Rattle.slot_laws.proofs.Operands.{all-alike, all-map, any-alike, any-map, bound-renamed, copy-fits, explicit-fits, explicit-renamed, immediate-stays, implicit-stay, last-fits, numbered-stay, registers-stay, besides-stay, bound_moved, take-map, ties-stay, undef-fits}
use Rattle.slot_laws.proofs.Ruled.{InstrRules}

-- what a list has that passes a test
any-of : {X : Type 0} (p : X → Bool) (xs : List X) → list_any p xs ≡ true → (x : X) × Member x xs × (p x ≡ true)
any-of p [] e = absurd (cc)
any-of {X} p (x ∷ xs) e = go (p x) refl e (any-of p xs)
  where
    go : (b : Bool) → p x ≡ b → (b || list_any p xs) ≡ true → (list_any p xs ≡ true → (y : X) × Member y xs × (p y ≡ true)) → (y : X) × Member y (x ∷ xs) × (p y ≡ true)
    go true g k ih = (x, first, g)
    go false g k ih = let z = ih k in (z.0, later z.1, z.2)

module _ (t : Target) (home : ℕ → ℕ) (head : List ℕ) (f : Function) where
  abbrev g : Function
  g = function_moved home head f

  -- the lanes of registers are those that they were

  known-lanes : (o : RegOp) → has_lanes t g o ≡ has_lanes t f o
  known-lanes o = at o.loc o.index
    where
      at : (l : Loc) (x : Option IndexId) → has_lanes_at t g l x ≡ has_lanes_at t f l x
      at (Virtual v) x = refl
      at (Fixed r) x = refl

  clashing-alike : (o : RegOp) → clashing_lanes t g o ≡ clashing_lanes t f o
  clashing-alike o = λ k. cond (known-lanes o k) (unreserved t (lanes-alike t home head f o k)) []

  widths-same : (a b : RegOp) → same_widths t g a b ≡ same_widths t f a b
  widths-same a b = λ k. not (known-lanes a k && known-lanes b k) || same_numbers (widths-alike t home head f a k) (widths-alike t home head f b k)

  -- rule 1

  lanes-fit : (os : List Operand) → lanes_fit t g (map (slot_moved home) os) ≡ lanes_fit t f os
  lanes-fit (operands.Reg o ∷ s ∷ operands.Imm z ∷ os) = refl
  lanes-fit (operands.Reg o ∷ s ∷ operands.Index x ∷ os) = λ k. not (known-lanes o k) || length (lanes_of t x) == length (widths-alike t home head f o k)
  lanes-fit _ = refl

  values-fit : (e : Effect) (os : List Operand) → values_fit t g e (map (slot_moved home) os) ≡ values_fit t f e os
  values-fit effects.Jcc os = ap is_condition (immediate-stays home os)
  values-fit effects.Spill os = lanes-fit os
  values-fit effects.Reload os = lanes-fit os
  values-fit _ os = refl

  operands-fit : (d : OpcodeDesc) (os : List Operand) (e : Effect) → is_lowered_away e ≡ false → operands_fit t g d (map (slot_moved home) os) e ≡ operands_fit t f d os e
  operands-fit d os effects.Copy l = copy-fits home os
  operands-fit d os effects.ImplicitDef l = undef-fits home os
  operands-fit d os effects.Phi l = absurd (cc)
  operands-fit d os effects.RegSequence l = absurd (cc)
  operands-fit d os effects.InsertSubreg l = absurd (cc)
  operands-fit d os e l =
      λ k. last-fits home os k
      && (ap (explicit_fit t e (explicit_roles d.roles)) (explicit-renamed home os) ∙ explicit-fits home t e (explicit_roles d.roles) (explicit_operands os)) k
      && implicit_fit d (implicit-stay home os k)
      && values-fit e os k

  module _ (i : Instr) (low : does is_lowered_away t i ≡ false) where
    one-same : V1 t g (instr_moved home i) ≡ V1 t f i
    unfolding V1
    one-same = go (known_opcode t i.op) low
      where
        go : (q : Option OpcodeDesc) → passes is_lowered_away (option_map (λ d. d.effect) q) ≡ false → elim q as (λ x. Bool) [ None ↦ true | Some d ↦ operands_fit t g d (map (slot_moved home) i.operands) d.effect ] ≡ elim q as (λ x. Bool) [ None ↦ true | Some d ↦ operands_fit t f d i.operands d.effect ]
        go None l = refl
        go (Some d) l = operands-fit d i.operands d.effect l

  -- rule 2

  lies : (k : ClassId) (l : Loc) (x : Option IndexId) → register_lies_in t g k l x ≡ register_lies_in t f k l x
  lies k (Virtual v) x = refl
  lies k (Fixed r) x = refl

  in-class : (e : Effect) (b : Bound) → in_operand_class t g e (bound_moved home b) ≡ in_operand_class t f e b
  in-class e (r, operands.Reg o) =
      λ k. not (known-lanes o k) || is_taken_reserved t e r o.loc || all-alike (λ c. register_lies_in t f c o.loc o.index) (λ c. register_lies_in t g c o.loc o.index) (λ c. lies c o.loc o.index) (option_to_list (option_and_then asked_class r)) k
  in-class e (r, _) = refl

  fit-widths : (e : Effect) (os : List Operand) → is_lowered_away e ≡ false → widths_fit t g e (map (slot_moved home) os) ≡ widths_fit t f e os
  fit-widths effects.Copy (operands.Reg d ∷ operands.Reg s ∷ os) l = λ k. widths-same d s k && has_home t d.loc s.loc && has_home t s.loc d.loc
  fit-widths effects.Phi os l = absurd (cc)
  fit-widths effects.RegSequence os l = absurd (cc)
  fit-widths effects.InsertSubreg os l = absurd (cc)
  fit-widths _ os l = refl

  module _ (i : Instr) (low : does is_lowered_away t i ≡ false) where
    two-same : V2 t g (instr_moved home i) ≡ V2 t f i
    unfolding V2
    two-same =
        ap (λ bs. elim (known_opcode t i.op) as (λ x. Bool) [ None ↦ true | Some d ↦ list_all (in_operand_class t g d.effect) bs && widths_fit t g d.effect (map (slot_moved home) i.operands) ]) (bound-renamed home t i)
        ∙ go (known_opcode t i.op) low
      where
        go : (q : Option OpcodeDesc) → passes is_lowered_away (option_map (λ d. d.effect) q) ≡ false
            → elim q as (λ x. Bool) [ None ↦ true | Some d ↦ list_all (in_operand_class t g d.effect) (map (bound_moved home) (bound t i)) && widths_fit t g d.effect (map (slot_moved home) i.operands) ]
            ≡ elim q as (λ x. Bool) [ None ↦ true | Some d ↦ list_all (in_operand_class t f d.effect) (bound t i) && widths_fit t f d.effect i.operands ]
        go None l = refl
        go (Some d) l = λ k. all-map (in_operand_class t f d.effect) (in_operand_class t g d.effect) (bound_moved home) (in-class d.effect) (bound t i) k && fit-widths d.effect i.operands l k

  -- rules 3 and 4

  class-same : (l : Loc) → has_class g l ≡ has_class f l
  class-same (Virtual v) = refl
  class-same (Fixed r) = refl

  index-same : (l : Loc) (x : Option IndexId) → index_fits t g l x ≡ index_fits t f l x
  index-same (Virtual v) x = refl
  index-same (Fixed r) x = refl

  three-same : (i : Instr) → V3 g (instr_moved home i) ≡ V3 f i
  unfolding V3
  three-same i = ap (list_all (λ (o : RegOp). has_class g o.loc)) (registers-stay home i.operands) ∙ all-alike (λ (o : RegOp). has_class f o.loc) (λ (o : RegOp). has_class g o.loc) (λ o. class-same o.loc) (registers i.operands)

  four-kept : (i : Instr) → does puts_together t i ≡ false → V4 t f i ≡ true → V4 t g (instr_moved home i) ≡ true
  unfolding V4
  four-kept i n e =
      let all : list_all (λ (o : RegOp). index_fits t g o.loc o.index) (registers (map (slot_moved home) i.operands)) ≡ true =
      ap (list_all (λ (o : RegOp). index_fits t g o.loc o.index)) (registers-stay home i.operands) ∙ all-alike (λ (o : RegOp). index_fits t f o.loc o.index) (λ (o : RegOp). index_fits t g o.loc o.index) (λ o. index-same o.loc o.index) (registers i.operands) ∙ first_of_both _ _ e in
      λ k. all k && (not (n k) || subregs_fit t g (map (slot_moved home) i.operands))

  -- rule 8

  eight-kept : (b : Block) (j : ℕ) (i : Instr) → V8 t b j i ≡ true → V8 t (block_moved home b) j (instr_moved home i) ≡ true
  unfolding V8
  eight-kept b j i e =
      (λ k. does is_terminator t i || not ((ap (list_any (does is_terminator t)) (take-map (instr_moved home) j b.instrs) ∙ any-map (does is_terminator t) (does is_terminator t) (instr_moved home) (λ x. refl) (take j b.instrs)) k)) ∙ e

  -- rule 11

  flags-same : (b : Bound) → flags_fit (bound_moved home b) ≡ flags_fit b
  flags-same (r, operands.Reg o) = refl
  flags-same (r, _) = refl

  eleven-same : (i : Instr) → V11 t forms.Allocated g (instr_moved home i) ≡ V11 t forms.Allocated f i
  unfolding V11
  eleven-same i =
      λ k. (ap (list_all flags_fit) (bound-renamed home t i) ∙ all-map flags_fit flags_fit (bound_moved home) flags-same (bound t i)) k
      && ap (list_all (λ (p : TiedPair). tie_fits t forms.Allocated f p.definition p.tied_use)) (ties-stay home t i) k

  -- rule 12

  early-same : (bs : List Bound) (p : ℕ × Bound) → early_fits t g (map (bound_moved home) bs) (p.0, bound_moved home p.1) ≡ early_fits t f bs p
  early-same bs (n, (r, operands.Reg d)) =
      λ k. not (passes is_early r)
      || not ((ap (list_any (λ (u : RegOp). share_a_lane (clashing_lanes t g d) (clashing_lanes t g u))) (besides-stay home n bs)
      ∙ any-alike (λ (u : RegOp). share_a_lane (clashing_lanes t f d) (clashing_lanes t f u)) (λ (u : RegOp). share_a_lane (clashing_lanes t g d) (clashing_lanes t g u)) (λ u. λ j. share_a_lane (clashing-alike d j) (clashing-alike u j)) (readings_besides n bs)) k)
  early-same bs (n, (r, _)) = refl

  defined-alike : (b : Bool) (o : RegOp) → defined_lanes t g b o ≡ defined_lanes t f b o
  defined-alike true o = λ k. cond (known-lanes o k) (lanes-alike t home head f o k) []
  defined-alike false o = clashing-alike o

  -- an operand of a slot is no register, wherever its slot goes
  free-same : (b : Bound) → is_free_undef (bound_moved home b) ≡ is_free_undef b
  free-same (r, operands.Reg o) = refl
  free-same (r, _) = refl

  twelve-same : (i : Instr) → V12 t forms.Allocated g (instr_moved home i) ≡ V12 t forms.Allocated f i
  unfolding V12
  twelve-same i =
      let os = registers i.operands in
      (λ k. list_all (undef_fits forms.Allocated (registers-stay home i.operands k)) (filter (λ (o : RegOp). o.def) (registers-stay home i.operands k))
      && no_two_share (map (defined_lanes t g (does is_opaque t i)) (filter (λ (o : RegOp). o.def) (registers-stay home i.operands k)))
      && list_all (early_fits t g (bound-renamed home t i k)) ((ap (numbered 0) (bound-renamed home t i) ∙ numbered-stay home 0 (bound t i)) k)
      && undef_uses_fit (does is_opaque t i) (bound-renamed home t i k))
      ∙ (λ k. list_all (undef_fits forms.Allocated os) (filter (λ (o : RegOp). o.def) os)
      && no_two_share (map-alike (defined_lanes t g (does is_opaque t i)) (defined_lanes t f (does is_opaque t i)) (defined-alike (does is_opaque t i)) (filter (λ (o : RegOp). o.def) os) k)
      && all-map (early_fits t f (bound t i)) (early_fits t g (map (bound_moved home) (bound t i))) (λ (p : ℕ × Bound). (p.0, bound_moved home p.1)) (early-same (bound t i)) (numbered 0 (bound t i)) k
      && not (does is_opaque t i && any-map is_early_definition is_early_definition (bound_moved home) (λ b. refl) (bound t i) k && any-map is_free_undef is_free_undef (bound_moved home) free-same (bound t i) k))

  -- rule 15: spill slots go to spill slots, and other frame objects stay

  module _ (homes : (n : ℕ) → home (home n) ≡ home n) (stays : (n : ℕ) → is_spill_slot f n ≡ false → home n ≡ n) (spills : (n : ℕ) → is_spill_slot f n ≡ true → is_spill_slot f (home n) ≡ true) where
    abbrev has : ℕ → ℕ × Bool → Bool
    has n o = nat_eq o.0 n && o.1

    abbrev keeps : ℕ × Bool → Bool
    keeps o = not (goes home o.0)

    -- a home that was a spill slot is one
    kept-spill : (n : ℕ) → is_spill_slot f (home n) ≡ true → is_spill_slot g (home n) ≡ true
    kept-spill n e =
        let z = any-of (has (home n)) f.frames e in
        let same : z.0.0 ≡ home n = eqb-true z.0.0 (home n) (first_of_both _ _ z.2) in
        let here : home z.0.0 ≡ z.0.0 = ap (home) same ∙ homes n ∙ sym same in
        let kept : keeps z.0 ≡ true = ap (λ b. not (not b)) (eq-eqb (home z.0.0) z.0.0 here) in
        any-in (has (home n)) z.0 (filter keeps f.frames) (filter-in keeps z.0 f.frames z.1 kept) z.2

    -- no other is one
    was-spill : (n : ℕ) → is_spill_slot g n ≡ true → is_spill_slot f n ≡ true
    was-spill n e =
        let z = any-of (has n) (filter keeps f.frames) e in
        any-in (has n) z.0 f.frames (filter-of keeps z.0 f.frames z.1).0 z.2

    home-same : (n : ℕ) → is_spill_slot g (home n) ≡ is_spill_slot f n
    home-same n = go (is_spill_slot f n) refl
      where
        none : (b : Bool) → is_spill_slot g n ≡ b → is_spill_slot f n ≡ false → is_spill_slot g n ≡ false
        none true h e = absurd (let k : is_spill_slot f n ≡ true = was-spill n h in cc)
        none false h e = h

        go : (b : Bool) → is_spill_slot f n ≡ b → is_spill_slot g (home n) ≡ is_spill_slot f n
        go true e = kept-spill n (spills n e) ∙ sym e
        go false e = ap (is_spill_slot g) (stays n e) ∙ none (is_spill_slot g n) refl e ∙ sym e

    slot-same : (b : Bound) → slot_fits g (bound_moved home b) ≡ slot_fits f b
    slot-same (r, operands.Stack n) = ap (beq (passes is_slot r)) (home-same n)
    slot-same (r, _) = refl

    fifteen-same : (i : Instr) → V15 t forms.Allocated g (instr_moved home i) ≡ V15 t forms.Allocated f i
    unfolding V15
    fifteen-same i = ap (list_all (slot_fits g)) (bound-renamed home t i) ∙ all-map (slot_fits f) (slot_fits g) (bound_moved home) slot-same (bound t i)

    apart : (q : Option Effect) → passes is_lowered_away q ≡ false → passes puts_together q ≡ false
    apart None e = refl
    apart (Some x) e = (or_parts (is_phi x) (puts_together x) e).1

    seven-kept : (k : ℕ) (b : Block) (j : ℕ) (i : Instr) → V7 t forms.Allocated f k b j i ≡ true → V7 t forms.Allocated g k (block_moved home b) j (instr_moved home i) ≡ true
    unfolding V7
    seven-kept k b j i e = e

    -- all rules of an instruction
    pub instr-obeys : (k : ℕ) (b : Block) (j : ℕ) (i : Instr) → does is_lowered_away t i ≡ false → InstrRules t f k b j i → InstrRules t g k (block_moved home b) j (instr_moved home i)
    instr-obeys k b j i low r = record {
      known = r.known;
      one = one-same i low ∙ r.one;
      two = two-same i low ∙ r.two;
      three = three-same i ∙ r.three;
      four = four-kept i (apart (effect_of t i) low) r.four;
      seven = seven-kept k b j i r.seven;
      eight = eight-kept b j i r.eight;
      eleven = eleven-same i ∙ r.eleven;
      twelve = twelve-same i ∙ r.twelve;
      fifteen = fifteen-same i ∙ r.fifteen;
    }
