-- Each instruction of the right shape is the step that is entered for it.
use Rattle.std.proofs.Common.{◌≡◌, ◌⊎◌, inl, inr, ◌≤◌, ℕ, zero, suc, Bool, true, false, cond, not, ◌&&◌, ◌||◌, List, [], ◌∷◌, ◌++◌, Option, Some, None, map, length, refl, sym, ap, ◌∙◌, subst, append-nil, eqb-true, arith}
use Rattle.std.specs.Prelude.{◌==◌, option_map}
use Rattle.target_base.specs.declared.types.Effect.{Effect}
use Rattle.target_base.specs.declared.types.Effect.TheVariants as effects
use Rattle.target_base.specs.declared.types.Role.{Role}
use Rattle.target_base.specs.declared.types.Target.{Target}
use Rattle.target_base.specs.Registers.{lanes_of}
use Rattle.target_base.specs.Roles.{is_silent}
use Rattle.target_base.specs.Rules.{is_phi}
use Rattle.target_base.proofs.Tests.{first_of_both, second_of_both}
use Rattle.meaning.specs.declared.types.Lane.{Lane}
use Rattle.meaning.specs.declared.types.Lane.TheVariants.{VirtualLane, UnitLane, SlotLane}
use Rattle.meaning.specs.declared.types.Source.{Source}
use Rattle.meaning.specs.declared.types.Source.TheVariants.{FromLane}
use Rattle.meaning.specs.declared.types.Write.{Write}
use Rattle.meaning.specs.Lanes.{Writes, Reads}
use Rattle.meaning.specs.Code.{Edge, Item, Silent, Counted}
use Rattle.meaning.specs.Live.{Among as Member, here as first, there as later, reads_of, writes_of, exits_of as edges_of, is_slot}
use Rattle.mir_func.specs.declared.func.RegOp.{RegOp}
use Rattle.mir_func.specs.declared.func.Operand.{Operand}
use Rattle.mir_func.specs.declared.func.Operand.TheVariants as operands
use Rattle.mir_func.specs.declared.func.Instr.{Instr}
use Rattle.mir_func.specs.declared.func.Block.{Block}
use Rattle.mir_func.specs.Value.{Function}
use Rattle.mir_func.specs.Binding.{registers, effect_of, roles_of, is_early_clobber, definitions, does, passes, is_terminator, puts_together}
use Rattle.mir_meaning.specs.Registers.{numbers, located_lanes, operand_lanes, operand_widths, undefined_lanes, use_sources, is_reserved, slot_lane_numbers}
use Rattle.mir_meaning.specs.Items.{parts, results, all_lanes, implicit_definitions, further_writes, silent_reads, silent_writes, rest_of, values, counted_writes, moved, undefined, copied, reloaded, spilled, sequenced, inserted, defined_undef, given_constant, lanes_beside, at_all_widths, uses}
use Rattle.mir_meaning.specs.Codes.{item_of, effect_item, ways_out, way, target_of}
use Rattle.mir_meaning.specs.Points.{point_item}
use Rattle.mir_meaning.specs.Rules.{is_whole_definition, is_virtual_use, result_and, index_pairs, insertion, has_class, has_lanes, lanes_fit, subregs_fit, widths_fit, spills_or_reloads}
use Rattle.mir_meaning.specs.Paths.{IsMatched}
use Rattle.mir_meaning.specs.Stands.{Tags, IsStep}
use Rattle.instr_effects.specs.Owners.{owner_of}
use Rattle.instr_effects.specs.Acts.{call_writes, silent_acts, entered_reads, entered_writes, effect_acts, effect_reads, filled_whole, stored}
use Rattle.instr_effects.specs.Steps.{Numbering}
use Rattle.instr_effects.specs.Stepping.{tag_of, step_of, IsNumbering, NamesTagged, IsPlain}
use Rattle.instr_effects.proofs.Members.{left-in, in-either}
use Rattle.instr_effects.proofs.Plain.{plain-law}
use Rattle.instr_effects.proofs.CountedSteps.{counted-law}
use Rattle.instr_effects.proofs.Writes.{located-long}
use Rattle.instr_effects.proofs.Defined.{definitions_operands}
use Rattle.live_laws.specs.Effects.Shaped.{is_proper, AreClasses, IsShaped, SlotsTagged}
use Rattle.live_laws.specs.Effects.Coded.{KeepsRules, IsNumbered}
use Rattle.live_laws.specs.Effects.Laws.{InstrLaw, MatchedLaw}
use Rattle.live_laws.proofs.Effects.Moving.{moving-law}
use Rattle.live_laws.proofs.Effects.Moved.{IsGiven, given-moving}
use Rattle.live_laws.proofs.Effects.Matched.{plain-matched, given-matched}
use Rattle.live_laws.proofs.Effects.Flags.{Uniform, uniform-none, uniform-undefined, uniform-moved, uniform-join, uniform-same, Wrote, WroteEarly, IsSame}
use Rattle.live_laws.proofs.Effects.Definitions.{definitions-clear, results-agree, Clear}
use Rattle.live_laws.proofs.Effects.FlagsOf.{uniform-undef, uniform-constant, uniform-parts, uniform-further, uniform-call}
use Rattle.live_laws.proofs.Effects.Shapes.{fits-of, widths-of, class-there, lanes-there, subregs-there, same-lanes}
use Rattle.live_laws.proofs.Effects.Silent.{one-lane, Named, copy-given, reload-given, spill-given, uses-long}
use Rattle.live_laws.proofs.Effects.Together.{empty-plain, undefined-plain, constant-plain, sequence-plain, insert-plain}

pub others-proper : (t : Target) (l : Lane) → is_slot l ≡ false → is_proper t l ≡ true
others-proper t (VirtualLane v k) e = refl
others-proper t (UnitLane u) e = refl
others-proper t (SlotLane s k w) e = absurd (cc)

pub slots-free : (t : Target) (l : Lane) → is_slot l ≡ true → is_reserved t l ≡ false
slots-free t (VirtualLane v k) e = absurd (cc)
slots-free t (UnitLane u) e = absurd (cc)
slots-free t (SlotLane s k w) e = refl

numbers-long : (n k : ℕ) → length (numbers n k) ≡ k
numbers-long n zero = refl
numbers-long n (suc k) = ap (λ m. suc m) (numbers-long (suc n) k)

-- a slot has no more lanes than the register beside it
few-lanes : (t : Target) (f : Function) (o : RegOp) (s : ℕ) (k : Operand) (os : List Operand) → has_lanes t f o ≡ true → lanes_fit t f (operands.Reg o ∷ operands.Stack s ∷ k ∷ os) ≡ true → length (slot_lane_numbers t (operand_widths t f o) k) ≤ length (operand_widths t f o)
few-lanes t f o s (operands.Index x) os h e = go (has_lanes t f o) h e
  where
    go : (b : Bool) → b ≡ true → (not b || length (lanes_of t x) == length (operand_widths t f o)) ≡ true → length (lanes_of t x) ≤ length (operand_widths t f o)
    go true h e = let g : length (lanes_of t x) ≡ length (operand_widths t f o) = eqb-true (length (lanes_of t x)) (length (operand_widths t f o)) e in omega arith
    go false h e = absurd (cc)
few-lanes t f o s (operands.Reg r) os h e = let g : length (numbers 0 (length (operand_widths t f o))) ≡ length (operand_widths t f o) = numbers-long 0 (length (operand_widths t f o)) in omega arith
few-lanes t f o s (operands.Imm z) os h e = let g : length (numbers 0 (length (operand_widths t f o))) ≡ length (operand_widths t f o) = numbers-long 0 (length (operand_widths t f o)) in omega arith
few-lanes t f o s (operands.Block n) os h e = let g : length (numbers 0 (length (operand_widths t f o))) ≡ length (operand_widths t f o) = numbers-long 0 (length (operand_widths t f o)) in omega arith
few-lanes t f o s (operands.Stack n) os h e = let g : length (numbers 0 (length (operand_widths t f o))) ≡ length (operand_widths t f o) = numbers-long 0 (length (operand_widths t f o)) in omega arith
few-lanes t f o s (operands.FixedStack n) os h e = let g : length (numbers 0 (length (operand_widths t f o))) ≡ length (operand_widths t f o) = numbers-long 0 (length (operand_widths t f o)) in omega arith
few-lanes t f o s (operands.Symbol n) os h e = let g : length (numbers 0 (length (operand_widths t f o))) ≡ length (operand_widths t f o) = numbers-long 0 (length (operand_widths t f o)) in omega arith
few-lanes t f o s (operands.Mask n) os h e = let g : length (numbers 0 (length (operand_widths t f o))) ≡ length (operand_widths t f o) = numbers-long 0 (length (operand_widths t f o)) in omega arith

module _ (t : Target) (f : Function) (num : Numbering) (classes : AreClasses t f) (names : IsNumbering (is_reserved t) num) where
  abbrev T : Tags
  T = tag_of num (is_proper t)

  tagged-proper : (l : Lane) (n : ℕ) → T l ≡ Some n → is_proper t l ≡ true
  tagged-proper l n e = go (is_proper t l) e
    where
      go : (b : Bool) → cond b (num (owner_of l)) None ≡ Some n → b ≡ true
      go true f = refl
      go false f = absurd (cc)

  module _ (out : List Edge) (id : ℕ) where
    -- the lanes that the item writes have numbers, but for reserved ones and those of slots
    abbrev WritesNumbered : Item → Type 0
    WritesNumbered x = (w : Write) → Member w (writes_of x) → is_reserved t w.lane ≡ false → is_slot w.lane ≡ false → (n : ℕ) × (T w.lane ≡ Some n)

    abbrev Is : Item → Bool → Reads → Writes → Type 0
    Is x b rs ws = IsStep (is_reserved t) T out x (step_of num id b rs ws) × IsMatched (step_of num id b rs ws) × IsSame T (writes_of x) ws × WritesNumbered x

    tag-number : (l : Lane) (n : ℕ) → T l ≡ Some n → num (owner_of l) ≡ Some n
    tag-number l n e = go (is_proper t l) e
      where
        go : (b : Bool) → cond b (num (owner_of l)) None ≡ Some n → num (owner_of l) ≡ Some n
        go true f = f
        go false f = absurd (cc)

    plain-forth : (x : Item) (ws : Writes) → IsPlain (is_reserved t) T x ws → (l : Lane) (n : ℕ) → T l ≡ Some n → is_slot l ≡ false → Wrote l (writes_of x) → Wrote l ws
    plain-forth x ws p l n e s z = let y = p.covered z.0 z.1 (ap (is_reserved t) z.2 ∙ names.free l n (tag-number l n e)) in (y.0, y.1, y.2 ∙ z.2)

    plain-back : (x : Item) (ws : Writes) → IsPlain (is_reserved t) T x ws → (l : Lane) (n : ℕ) → T l ≡ Some n → is_slot l ≡ false → Wrote l ws → Wrote l (writes_of x)
    plain-back x ws p l n e s z = let y = p.covers z.0 z.1 (ap (is_reserved t) z.2 ∙ names.free l n (tag-number l n e)) in (y.0, y.1, y.2 ∙ z.2)

    plain-numbered : (x : Item) (ws : Writes) → IsPlain (is_reserved t) T x ws → WritesNumbered x
    plain-numbered x ws p w m r s = let y = p.covered w m r in let z = p.written y.0 y.1 (ap (is_reserved t) y.2 ∙ r) in (z.0, ap T (sym y.2) ∙ z.1)

    plain-is : (rs : Reads) (W ws : Writes) (flag : Bool) → Uniform flag W → Uniform flag ws → IsPlain (is_reserved t) T (Silent rs W) ws → Is (Silent rs W) false rs ws
    plain-is rs W ws flag u v p = (
      (plain-law (is_reserved t) num (is_proper t) names (others-proper t)).1 (Silent rs W) out id false ws refl p,
      plain-matched num id false rs ws p.unmoved,
      uniform-same T flag W ws u v (plain-forth (Silent rs W) ws p) (plain-back (Silent rs W) ws p),
      plain-numbered (Silent rs W) ws p,
    )

    given-is : (early : Bool) (ds : List Lane) (ss : List Source) (xs ys : List Lane) → IsGiven (is_reserved t) T (Silent [] (moved early ds ss ++ undefined early xs)) early ds ss xs ys → Is (Silent [] (moved early ds ss ++ undefined early xs)) false [] (moved early ds ss ++ undefined early ys)
    given-is early ds ss xs ys g = (
      moving-law (is_reserved t) num (is_proper t) names (others-proper t) (slots-free t) (Silent [] (moved early ds ss ++ undefined early xs)) out id (moved early ds ss ++ undefined early ys)
          (given-moving (is_reserved t) T (Silent [] (moved early ds ss ++ undefined early xs)) early ds ss xs ys g refl refl refl refl),
      given-matched num names.names id early ds ss ys g.apart g.once,
      uniform-same T early (moved early ds ss ++ undefined early xs) (moved early ds ss ++ undefined early ys) (uniform-join early (moved early ds ss) (undefined early xs) (uniform-moved early ds ss) (uniform-undefined early xs)) (uniform-join early (moved early ds ss) (undefined early ys) (uniform-moved early ds ss) (uniform-undefined early ys)) forth back,
      writes-numbered,
    )
      where
        forth : (l : Lane) (n : ℕ) → tag_of num (is_proper t) l ≡ Some n → is_slot l ≡ false → Wrote l (moved early ds ss ++ undefined early xs) → Wrote l (moved early ds ss ++ undefined early ys)
        forth l n e s z = let y = g.covered z.0 z.1 in (y.0, y.1, sym (one-lane l y.0.lane (ap owner_of (sym z.2) ∙ sym y.2) s))

        back : (l : Lane) (n : ℕ) → tag_of num (is_proper t) l ≡ Some n → is_slot l ≡ false → Wrote l (moved early ds ss ++ undefined early ys) → Wrote l (moved early ds ss ++ undefined early xs)
        back l n e s z = g.closed l n e z.0 z.1 (ap owner_of z.2)

        writes-numbered : WritesNumbered (Silent [] (moved early ds ss ++ undefined early xs))
        writes-numbered w m r s =
            let y = g.covered w m in
            let same : w.lane ≡ y.0.lane = one-lane w.lane y.0.lane (sym y.2) s in
            let z = g.written y.0 y.1 (ap (is_reserved t) (sym same) ∙ r) in
            (z.0, ap T same ∙ z.1)

    empty-is : Is (Silent [] []) false [] []
    empty-is = plain-is [] [] [] false (uniform-none false) (uniform-none false) (empty-plain t f T)

    -- COPY
    copy-is : (os : List Operand) → Named t f T os → Is (Silent [] (copied t f os)) false [] (copied t f os)
    copy-is [] n = empty-is
    copy-is (operands.Reg d ∷ []) n = empty-is
    copy-is (operands.Reg d ∷ operands.Reg s ∷ os) n =
        given-is false (operand_lanes t f d) (use_sources t f s) (undefined_lanes t f d) (undefined_lanes t f d) (copy-given t f T (Silent [] (copied t f (operands.Reg d ∷ operands.Reg s ∷ os))) d s os n)
    copy-is (operands.Reg d ∷ o ∷ os) n = empty-is
    copy-is (o ∷ os) n = empty-is

    abbrev Slots : List Operand → Type 0
    Slots os = (o : RegOp) (s : ℕ) (k : Operand) (rest : List Operand) (l : Lane) → os ≡ operands.Reg o ∷ operands.Stack s ∷ k ∷ rest → Member l (lanes_beside t f o s k) → (n : ℕ) × (T l ≡ Some n)

    -- RELOAD
    reload-is : (early : Bool) (os : List Operand) → Named t f T os → Slots os → Is (Silent [] (reloaded t f early os)) false [] (reloaded t f early os)
    reload-is early [] n h = empty-is
    reload-is early (operands.Reg o ∷ []) n h = empty-is
    reload-is early (operands.Reg o ∷ operands.Stack s ∷ []) n h = empty-is
    reload-is early (operands.Reg o ∷ operands.Stack s ∷ k ∷ os) n h =
        let ws = reloaded t f early (operands.Reg o ∷ operands.Stack s ∷ k ∷ os) in
        given-is early (operand_lanes t f o) (map FromLane (lanes_beside t f o s k)) (undefined_lanes t f o) (undefined_lanes t f o) (reload-given t f T (Silent [] ws) early o s k (operands.Stack s ∷ k ∷ os) n (λ l m. h o s k os l refl m))
    reload-is early (operands.Reg o ∷ k ∷ os) n h = empty-is
    reload-is early (o ∷ os) n h = empty-is

    -- SPILL
    spill-is : (os : List Operand) → Named t f T os → Slots os → ((o : RegOp) → Member o (registers os) → has_lanes t f o ≡ true) → lanes_fit t f os ≡ true → Is (Silent [] (spilled t f os)) false [] (stored t f os)
    spill-is [] n h g e = empty-is
    spill-is (operands.Reg o ∷ []) n h g e = empty-is
    spill-is (operands.Reg o ∷ operands.Stack s ∷ []) n h g e = empty-is
    spill-is (operands.Reg o ∷ operands.Stack s ∷ k ∷ os) n h g e =
        let W = spilled t f (operands.Reg o ∷ operands.Stack s ∷ k ∷ os) in
        let M = moved false (lanes_beside t f o s k) (use_sources t f o) in
        let given = spill-given t f T tagged-proper (Silent [] W) o s k (operands.Stack s ∷ k ∷ os) n (λ l m. h o s k os l refl m) (few-lanes t f o s k os (g o first) e) in
        let step = given-is false (lanes_beside t f o s k) (use_sources t f o) (at_all_widths t s (slot_lane_numbers t (operand_widths t f o) k)) [] given in
        subst (λ ws. Is (Silent [] W) false [] ws) (append-nil M) step
    spill-is (operands.Reg o ∷ k ∷ os) n h g e = empty-is
    spill-is (o ∷ os) n h g e = empty-is

    -- REG_SEQUENCE
    sequence-is : (os : List Operand) → Named t f T os → result_and index_pairs os ≡ true → ((o : RegOp) → Member o (registers os) → has_class f o.loc ≡ true) → subregs_fit t f os ≡ true → Is (Silent (map (use_sources t f) (uses os)) (sequenced t f os)) false (map (use_sources t f) (uses os)) (filled_whole t f os)
    sequence-is [] n e g h = absurd (cc)
    sequence-is (operands.Reg d ∷ os) n e g h =
        plain-is (map (use_sources t f) (uses (operands.Reg d ∷ os))) (sequenced t f (operands.Reg d ∷ os)) (undefined false (operand_lanes t f d)) false (uniform-join false (parts t f d os) (undefined false (operand_lanes t f d)) (uniform-parts t f d os) (uniform-undefined false (operand_lanes t f d))) (uniform-undefined false (operand_lanes t f d))
        (sequence-plain t f T classes d os n (first_of_both (is_whole_definition d) (index_pairs os) e) (second_of_both (is_whole_definition d) (index_pairs os) e) (g d first) h)
    sequence-is (o ∷ os) n e g h = absurd (cc)

    -- INSERT_SUBREG
    insert-is : (os : List Operand) → Named t f T os → result_and insertion os ≡ true → ((o : RegOp) → Member o (registers os) → has_class f o.loc ≡ true) → ((o : RegOp) → Member o (registers os) → has_lanes t f o ≡ true) → subregs_fit t f os ≡ true → widths_fit t f effects.InsertSubreg os ≡ true → Is (Silent (map (use_sources t f) (uses os)) (inserted t f os)) false (map (use_sources t f) (uses os)) (filled_whole t f os)
    insert-is [] n e g k h w = absurd (cc)
    insert-is (operands.Reg d ∷ operands.Reg a ∷ operands.Reg b ∷ operands.Index x ∷ []) n e g k h w =
        let os = operands.Reg d ∷ operands.Reg a ∷ operands.Reg b ∷ operands.Index x ∷ [] in
        let rest = second_of_both (is_whole_definition d) (is_virtual_use a && is_virtual_use b) e in
        let same : length (operand_widths t f a) ≡ length (operand_widths t f d) = same-lanes t f a d (k a (later first)) (k d first) (first_of_both _ _ w) in
        let long : length (operand_widths t f a) ≡ length (use_sources t f a) = uses-long t f a in
        let lanes : length (operand_widths t f d) ≡ length (operand_lanes t f d) = located-long t f d.loc d.index in
        plain-is (map (use_sources t f) (uses os)) (inserted t f os) (undefined false (operand_lanes t f d)) false (uniform-join false (moved false (located_lanes t f d.loc (Some x)) (use_sources t f b)) (moved false (operand_lanes t f d) (use_sources t f a)) (uniform-moved false (located_lanes t f d.loc (Some x)) (use_sources t f b)) (uniform-moved false (operand_lanes t f d) (use_sources t f a))) (uniform-undefined false (operand_lanes t f d))
        (insert-plain t f T classes d a b x [] n (first_of_both (is_whole_definition d) (is_virtual_use a && is_virtual_use b) e) (first_of_both (is_virtual_use a) (is_virtual_use b) rest) (second_of_both (is_virtual_use a) (is_virtual_use b) rest) (g d first) (first_of_both _ _ h) (omega arith))
    insert-is (operands.Reg d ∷ os) n e g k h w = absurd (let q = second_of_both (is_whole_definition d) (insertion os) e in cc)
    insert-is (o ∷ os) n e g k h w = absurd (cc)

  module _ (b : Block) (i : Instr) (shaped : IsShaped t f i) (named : NamesTagged t f T i) (slots : SlotsTagged t f T i) where
    abbrev out : List Edge
    out = ways_out t f b

    abbrev early : Bool
    early = is_early_clobber (roles_of t i)

    abbrev Goal : Item → Bool → Reads → Writes → Type 0
    Goal x l rs ws = Is out i.id x l rs ws

    abbrev placed : Effect → Item
    placed e = cond (is_phi e) (Silent [] (defined_undef t f i.operands)) (effect_item t f b i e)

    slots-of : does spills_or_reloads t i ≡ true → Slots out i.id i.operands
    slots-of e o s k rest l g m = slots o s k rest l e g m

    silent-is : (e : Effect) → effect_of t i ≡ Some e → is_silent e ≡ true → Goal (placed e) (is_terminator e) (effect_reads t f e i) (effect_acts t f e (roles_of t i) i.operands)
    silent-is effects.Copy known h = copy-is out i.id i.operands named.lanes
    silent-is effects.Phi known h = plain-is out i.id [] (defined_undef t f i.operands) (defined_undef t f i.operands) false (uniform-undef t f i.operands) (uniform-undef t f i.operands) (undefined-plain t f T i.operands named.lanes)
    silent-is effects.ImplicitDef known h = plain-is out i.id [] (defined_undef t f i.operands) (defined_undef t f i.operands) false (uniform-undef t f i.operands) (uniform-undef t f i.operands) (undefined-plain t f T i.operands named.lanes)
    silent-is effects.RegSequence known h =
        let d = fits-of t f i effects.RegSequence known shaped.operands in
        sequence-is out i.id i.operands named.lanes d.1 (class-there t f i shaped) (subregs-there t f i shaped (ap (passes puts_together) known))
    silent-is effects.InsertSubreg known h =
        let d = fits-of t f i effects.InsertSubreg known shaped.operands in
        insert-is out i.id i.operands named.lanes d.1 (class-there t f i shaped) (lanes-there t f i shaped) (subregs-there t f i shaped (ap (passes puts_together) known)) (widths-of t f i effects.InsertSubreg known shaped.widths)
    silent-is effects.Const known h = plain-is out i.id [] (given_constant t f early i.operands) (given_constant t f early i.operands) early (uniform-constant t f early i.operands) (uniform-constant t f early i.operands) (constant-plain t f T early i.operands named.lanes)
    silent-is effects.Addr known h = plain-is out i.id [] (given_constant t f early i.operands) (given_constant t f early i.operands) early (uniform-constant t f early i.operands) (uniform-constant t f early i.operands) (constant-plain t f T early i.operands named.lanes)
    silent-is effects.Spill known h =
        let d = fits-of t f i effects.Spill known shaped.operands in
        spill-is out i.id i.operands named.lanes (slots-of (ap (passes spills_or_reloads) known)) (lanes-there t f i shaped) (second_of_both _ _ d.1)
    silent-is effects.Reload known h = reload-is out i.id early i.operands named.lanes (slots-of (ap (passes spills_or_reloads) known))
    silent-is e known h = absurd (cc)

    -- the item and what is entered, by the effect

    point-is : (q : Option Effect) → effect_of t i ≡ q → point_item t f b i ≡ cond (passes is_phi q) (Silent [] (defined_undef t f i.operands)) (elim q [ None ↦ Silent [] [] | Some e ↦ effect_item t f b i e ])
    unfolding point_item item_of
    point-is q known = ap (λ (o : Option Effect). cond (passes is_phi o) (Silent [] (defined_undef t f i.operands)) (elim o [ None ↦ Silent [] [] | Some e ↦ effect_item t f b i e ])) known

    abbrev acts-in : Option Effect → Writes
    acts-in o = elim o [ None ↦ [] | Some e ↦ effect_acts t f e (roles_of t i) i.operands ]

    acts-are : (q : Option Effect) → effect_of t i ≡ q → entered_writes t f i ≡ acts-in q
    unfolding entered_writes
    acts-are q known = ap (λ (o : Option Effect). acts-in o) known

    abbrev reads-in : Option Effect → Reads
    reads-in o = elim o [ None ↦ [] | Some e ↦ effect_reads t f e i ]

    reads-are : (q : Option Effect) → effect_of t i ≡ q → entered_reads t f i ≡ reads-in q
    unfolding entered_reads
    reads-are q known = ap (λ (o : Option Effect). reads-in o) known

    swap : (x y : Item) (k l : Bool) (rs qs : Reads) (ws vs : Writes) → x ≡ y → k ≡ l → rs ≡ qs → ws ≡ vs → Goal y l qs vs → Goal x k rs ws
    swap x y k l rs qs ws vs p q r s g = subst (λ a. Goal a k rs ws) (sym p) (subst (λ a. Goal y a rs ws) (sym q) (subst (λ a. Goal y l a ws) (sym r) (subst (λ a. Goal y l qs a) (sym s) g)))

    -- a counted instruction
    no-phi : (e : Effect) → is_silent e ≡ false → is_phi e ≡ false
    no-phi effects.Phi h = absurd (cc)
    no-phi e h = refl

    abbrev by-kind : Bool → Bool → Effect → Item
    by-kind p s e = cond p (Silent [] (defined_undef t f i.operands)) (cond s (Silent (silent_reads t f e i.operands) (silent_writes t f e early i.operands)) (Counted (rest_of t f e i) (map (λ v. v.0) (values t f e i)) (counted_writes t f e i) (option_map (way t f b.number) (target_of i.operands)) (cond (is_terminator e) (ways_out t f b) [])))

    counted-item : (e : Effect) → is_silent e ≡ false → (edges_of (placed e) ≡ cond (is_terminator e) (ways_out t f b) []) × (reads_of (placed e) ≡ effect_reads t f e i) × (writes_of (placed e) ≡ counted_writes t f e i)
    counted-item e h = go (is_phi e) (is_silent e) (no-phi e h) h
      where
        go : (p s : Bool) → p ≡ false → s ≡ false → (edges_of (by-kind p s e) ≡ cond (is_terminator e) (ways_out t f b) []) × (reads_of (by-kind p s e) ≡ cond s (silent_reads t f e i.operands) (map (λ v. v.0) (values t f e i))) × (writes_of (by-kind p s e) ≡ counted_writes t f e i)
        go false false g h = (refl, refl, refl)
        go false true g h = absurd (cc)
        go true s g h = absurd (cc)

    counted-same : (e : Effect) (rs : List Role) → effect_of t i ≡ Some e → is_silent e ≡ false → (x : Item) → writes_of x ≡ counted_writes t f e i → ((l : Lane) (n : ℕ) → T l ≡ Some n → is_slot l ≡ false → Wrote l (writes_of x) → Wrote l (entered_writes t f i)) → ((l : Lane) (n : ℕ) → T l ≡ Some n → is_slot l ≡ false → Wrote l (entered_writes t f i) → Wrote l (writes_of x)) → IsSame T (writes_of x) (entered_writes t f i)
    counted-same e rs known h x is forth back =
        let X = results t f 0 (definitions (roles_of t i) i.operands) in
        let I = further_writes t f e i in
        let Y = undefined false (all_lanes t f (implicit_definitions i.operands)) ++ call_writes t e i.operands in
        let entered : entered_writes t f i ≡ X ++ Y = acts-are (Some e) known ∙ ap (λ q. cond q (silent_acts t f e early i.operands) (X ++ Y)) h in
        record {
          results = X;
          others = Y;
          parted = entered;
          agreed = λ l n g v w mv mw a b. results-agree t f 0 (definitions (roles_of t i) i.operands) clear v w mv mw (a ∙ sym b) (ap (is_reserved t) a ∙ names.free l n (tag-number out i.id l n g));
          late_others = uniform-join false (undefined false (all_lanes t f (implicit_definitions i.operands))) (call_writes t e i.operands) (uniform-undefined false (all_lanes t f (implicit_definitions i.operands))) (uniform-call t f e i.operands);
          forth = forth;
          back = back;
          early = λ l n g s z. result-of l z.0 z.2 z.3 (in-either z.0 X I (subst (Member z.0) is z.1));
          only = λ l n g s z. (z.0, subst (Member z.0) (sym is) (left-in z.0 X I z.1), z.2, z.3);
        }
      where
        clear : Clear t f (map (λ d. d.1) (definitions (roles_of t i) i.operands))
        clear = subst (λ ds. Clear t f ds) (sym (definitions_operands (roles_of t i) i.operands)) (definitions-clear t f i (lanes-there t f i shaped) shaped.definitions)

        result-of : (l : Lane) (w : Write) → w.lane ≡ l → w.early ≡ true → Member w (results t f 0 (definitions (roles_of t i) i.operands)) ⊎ Member w (further_writes t f e i) → WroteEarly l (results t f 0 (definitions (roles_of t i) i.operands))
        result-of l w a b (inl m) = (w, m, a, b)
        result-of l w a b (inr m) = absurd (let k = uniform-further t f e i w m in cc)

    go-known : (e : Effect) → effect_of t i ≡ Some e → (s : Bool) → is_silent e ≡ s → Goal (point_item t f b i) (does is_terminator t i) (entered_reads t f i) (entered_writes t f i)
    go-known e known true h = swap (point_item t f b i) (placed e) (does is_terminator t i) (is_terminator e) (entered_reads t f i) (effect_reads t f e i) (entered_writes t f i) (effect_acts t f e (roles_of t i) i.operands) (point-is (Some e) known) (ap (passes is_terminator) known) (reads-are (Some e) known) (acts-are (Some e) known) (silent-is e known h)
    go-known e known false h =
        let item = counted-item e h in
        let plain = counted-law t f T b i e known h named in
        let exits = ap edges_of (point-is (Some e) known) ∙ item.0 ∙ sym (ap (λ k. cond k (ways_out t f b) []) (ap (passes is_terminator) known)) in
        let step = (plain-law (is_reserved t) num (is_proper t) names (others-proper t)).1 (point_item t f b i) out i.id (does is_terminator t i) (entered_writes t f i) exits plain in
        let matched = plain-matched num i.id (does is_terminator t i) (reads_of (point_item t f b i)) (entered_writes t f i) plain.unmoved in
        subst (λ rs. Goal (point_item t f b i) (does is_terminator t i) rs (entered_writes t f i)) (ap reads_of (point-is (Some e) known) ∙ item.1 ∙ sym (reads-are (Some e) known)) (step, matched, counted-same e (roles_of t i) known h (point_item t f b i) (ap writes_of (point-is (Some e) known) ∙ item.2) (plain-forth out i.id (point_item t f b i) (entered_writes t f i) plain) (plain-back out i.id (point_item t f b i) (entered_writes t f i) plain), plain-numbered out i.id (point_item t f b i) (entered_writes t f i) plain)

    go : (q : Option Effect) → effect_of t i ≡ q → Goal (point_item t f b i) (does is_terminator t i) (entered_reads t f i) (entered_writes t f i)
    go None known = swap (point_item t f b i) (Silent [] []) (does is_terminator t i) false (entered_reads t f i) [] (entered_writes t f i) [] (point-is None known) (ap (passes is_terminator) known) (reads-are None known) (acts-are None known) (empty-is out i.id)
    go (Some e) known = go-known e known (is_silent e) refl

    pub instr-is : Goal (point_item t f b i) (does is_terminator t i) (entered_reads t f i) (entered_writes t f i)
    instr-is = go (effect_of t i) refl

pub instr-law : InstrLaw
instr-law t f num classes names b i shaped named slots = (instr-is t f num classes names b i shaped named slots).0

pub matched-law : MatchedLaw
matched-law t f num rules numbered b i mb mi = (instr-is t f num rules.classes numbered.numbering b i (rules.shaped b i mb mi) (numbered.names b i mb mi) (numbered.slots b i mb mi)).1

pub same-law : (t : Target) (f : Function) (num : Numbering) (rules : KeepsRules t f) (numbered : IsNumbered t f num) (b : Block) (i : Instr) → Member b f.blocks → Member i b.instrs → IsSame (tag_of num (is_proper t)) (writes_of (point_item t f b i)) (entered_writes t f i)
same-law t f num rules numbered b i mb mi = (instr-is t f num rules.classes numbered.numbering b i (rules.shaped b i mb mi) (numbered.names b i mb mi) (numbered.slots b i mb mi)).2

-- a lane that an instruction writes has a number, but for reserved ones and those of slots
pub written-law : (t : Target) (f : Function) (num : Numbering) (rules : KeepsRules t f) (numbered : IsNumbered t f num) (b : Block) (i : Instr) → Member b f.blocks → Member i b.instrs → (w : Write) → Member w (writes_of (point_item t f b i)) → is_reserved t w.lane ≡ false → is_slot w.lane ≡ false → (n : ℕ) × (tag_of num (is_proper t) w.lane ≡ Some n)
written-law t f num rules numbered b i mb mi = (instr-is t f num rules.classes numbered.numbering b i (rules.shaped b i mb mi) (numbered.names b i mb mi) (numbered.slots b i mb mi)).3
