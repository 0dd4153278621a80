-- INSERT_SUBREG becomes two copies, the first of the register into which the part is put, and a third where the part is of
-- the result's own register.
use Rattle.std.proofs.Common.{◌≡◌, inl, ◌∷◌, ◌++◌, ◌∙◌, ◌&&◌, ◌||◌, ◌≤◌, not, ℕ, Bool, true, false, cond, List, Option, Some, None, map, flat_map, length, refl, sym, ap, subst, append-nil, arith, []}
use Rattle.std.specs.Prelude.{is_none, slice_get}
use Rattle.target_base.specs.declared.types.Effect.TheVariants as effects
use Rattle.target_base.specs.declared.types.IndexId.{IndexId}
use Rattle.target_base.specs.declared.types.Target.{Target}
use Rattle.target_base.specs.Registers.{lanes_of, widths_of_some}
use Rattle.target_base.specs.Rules.{is_copy, is_insert_subreg, is_reg_sequence}
use Rattle.target_base.proofs.Tests.{first_of_both, second_of_both}
use Rattle.meaning.specs.Code.{Silent}
use Rattle.meaning.specs.Lanes.{Writes, filled, settled}
use Rattle.meaning.specs.Live.{Among, here, there}
use Rattle.meaning.specs.declared.types.Lane.{Lane}
use Rattle.meaning.specs.declared.types.Lane.TheVariants.{VirtualLane}
use Rattle.meaning.specs.declared.types.Source.TheVariants.{FromLane, Undef}
use Rattle.mir_func.specs.declared.func.Loc.{Loc}
use Rattle.mir_func.specs.declared.func.Loc.TheVariants.{Fixed, Virtual}
use Rattle.mir_func.specs.declared.func.RegOp.{RegOp}
use Rattle.mir_func.specs.declared.func.Operand.{Operand}
use Rattle.mir_func.specs.declared.func.Operand.TheVariants as operands
use Rattle.mir_func.specs.declared.func.Instr.{Instr}
use Rattle.mir_func.specs.declared.func.Block.{Block}
use Rattle.mir_func.specs.Value.{Function}
use Rattle.mir_func.specs.Binding.{class_of, effect_of, is_definition, is_virtual, passes, puts_together, register_at, registers, same_loc}
use Rattle.mir_meaning.specs.Registers.{located_lanes, located_widths, numbers, operand_lanes, operand_widths, range_lanes, range_widths, use_sources}
use Rattle.mir_meaning.specs.Items.{moved, silent_reads, undefined, inserted}
use Rattle.mir_meaning.specs.Codes.{item_of}
use Rattle.mir_meaning.specs.Rules.{at_index, has_class, has_lanes, index_fits, is_virtual_use, is_whole_definition, result_and, same_widths, subregs_fit, widths_fit, insertion}
use Rattle.phi_elim.specs.Moves.{copy_of, move_of, whole_definition, whole_use}
use Rattle.phi_elim.specs.Phis.{located_class}
use Rattle.two_address.specs.Lowered.{copy_form, form_lowered, form_of, insertion_form, instr_lowered, part_of_two, sequence_form, ties_lowered, virtual_in, virtual_loc}
use Rattle.two_address.specs.Sequences.{filled_lanes, into_part, is_input, keeping_text}
use Rattle.two_address.specs.Ties.{undefined_first}
use Rattle.two_address.specs.declared.forms.InstrLowering.TheVariants as forms
use Rattle.two_address.specs.declared.sequences.SubregInput.{SubregInput}
use Rattle.live_laws.proofs.Effects.Moved.{Apart}
use Rattle.live_laws.proofs.Effects.Shapes.{lanes-there, same-lanes, subregs-there, widths-of}
use Rattle.live_laws.proofs.Touch.Roles.{met}
use Rattle.lowering_laws.proofs.Classes.{AllNamed, class-stays, lanes-stay}
use Rattle.lowering_laws.proofs.Lowering.{map-append}
use Rattle.lowering_laws.proofs.Operands.{named, shaped}
use Rattle.lowering_laws.proofs.Replaced.{InstrStep, h, made}
use Rattle.lowering_laws.proofs.Unmoved.{known-item, loc-sym}
use Rattle.lowering_laws.proofs.Ruled.{InstrRules}
use Rattle.lowering_laws.proofs.Silently.{first-used, lanes-apart, lanes-count}
use Rattle.lowering_laws.proofs.Traced.{is_lane_of, is_written, lanes_by, moved-apart, silents, undefined-apart}
use Rattle.lowering_laws.proofs.Undefs.{GivesAlike, Leaves, moved-among}
use Rattle.live_laws.specs.Effects.Shaped.{AreClasses}
use Rattle.mir_func.specs.Binding.{is_use}
use Rattle.instr_effects.proofs.Members.{map-of}
use Rattle.lowering_laws.proofs.Classes.{widths-stay}
use Rattle.live_laws.proofs.Effects.Lists.{lanes-apart as lanes-apart-of}
use Rattle.two_address.specs.Lowered.{class_if, instr_classes, form_classes}
use Rattle.lowering_laws.proofs.Assembled.{source-leaves, AllFit, Works, given, gives, in-other, in-own, into, undef-first as undef-first-of, upon}
use Rattle.lowering_laws.proofs.Built.{covered-moves, old-not-new, whole_copy}
use Rattle.lowering_laws.proofs.Defined.{named-once}
use Rattle.lowering_laws.proofs.Found.{moved-missed, place, place-there}
use Rattle.lowering_laws.proofs.Made.{Stands, stands-class}
use Rattle.lowering_laws.proofs.Parted.{map-length, moved-written}
use Rattle.lowering_laws.proofs.Puts.{AllMoves, append-moves, copy-whole-item, index-within, lanes-known, move-is, moves-item, old-lanes, puts}
use Rattle.live_laws.proofs.Touch.Effects.{numbers-long}
use Rattle.std.specs.Prelude.{slice_index}
use Rattle.lowering_laws.proofs.Silently.{same-own}

not-true : (b : Bool) → not b ≡ true → b ≡ false
not-true true e = absurd (cc)
not-true false e = refl

module _ (t : Target) (f : Function) (all : AllNamed f f.blocks) (classes : AreClasses t f) (b : Block) (i : Instr) (r : InstrRules t f i) where
  abbrev H : Function
  H = h t f

  abbrev G : Function
  G = ties_lowered t f

  abbrev n : ℕ
  n = length f.classes

  module _ (known : effect_of t i ≡ Some effects.InsertSubreg) (c : ℕ) (stands : Stands (h t f).classes (length f.classes) c (instr_classes t f.classes c i)) (d a s : RegOp) (x : IndexId) (are : i.operands ≡ operands.Reg d ∷ operands.Reg a ∷ operands.Reg s ∷ operands.Index x ∷ []) (is-def : is_definition d ≡ true) (v : ℕ) (at : d.loc ≡ Virtual v) (index : d.index ≡ None) (a-used : is_virtual_use a ≡ true) (s-used : is_virtual_use s ≡ true) where
    abbrev p : SubregInput
    p = record { input = s; index = x }

    abbrev ps : List SubregInput
    ps = p ∷ []

    abbrev N : ℕ
    N = length (range_widths t H v)

    abbrev base : ℕ → Writes
    base w = moved false (lanes_by w (numbers 0 N)) (use_sources t H a)

    abbrev starts : ℕ → List Writes
    starts w = base w ∷ []

    abbrev ws : Writes
    ws = given t H v ps ++ base v

    there' : (o : RegOp) → Among o (d ∷ a ∷ s ∷ []) → Among o (registers i.operands)
    there' o m = subst (λ os. Among o (registers os)) (sym are) m

    class-there : (o : RegOp) → Among o (d ∷ a ∷ s ∷ []) → has_class f o.loc ≡ true
    class-there o m = (named t f i r o (there' o m)).class

    own-item : item_of t H b i ≡ Silent (silent_reads t H effects.InsertSubreg i.operands) ws
    own-item =
        known-item t H b i effects.InsertSubreg known
        ∙ ap (λ ws. Silent (silent_reads t H effects.InsertSubreg i.operands) ws)
        (ap (λ os. inserted t H os) are ∙ ((λ k. moved false (located_lanes t H (at k) (Some x)) (use_sources t H s) ++ moved false (located_lanes t H (at k) (index k)) (use_sources t H a)) ∙ ap (λ xs. xs ++ base v) (sym (append-nil (gives t H v p)))))

    -- widths

    wide : (same_widths t f a d ≡ true) × (same_widths t f s (at_index d x) ≡ true)
    wide =
        let w : widths_fit t f effects.InsertSubreg (operands.Reg d ∷ operands.Reg a ∷ operands.Reg s ∷ operands.Index x ∷ []) ≡ true = subst (λ os. widths_fit t f effects.InsertSubreg os ≡ true) are (widths-of t f i effects.InsertSubreg known r.two) in
        (first_of_both (same_widths t f a d) (same_widths t f s (at_index d x)) w, second_of_both (same_widths t f a d) (same_widths t f s (at_index d x)) w)

    known-lanes : (o : RegOp) → Among o (d ∷ a ∷ s ∷ []) → has_lanes t f o ≡ true
    known-lanes o m = lanes-there t f i (shaped t f i r) o (there' o m)

    part-fits : index_fits t f d.loc (Some x) ≡ true
    part-fits = first_of_both (index_fits t f d.loc (Some x)) true (subst (λ os. subregs_fit t f os ≡ true) are (subregs-there t f i (shaped t f i r) (ap (passes puts_together) known)))

    whole-long : N ≤ length (operand_lanes t H a)
    whole-long =
        let same = same-lanes t f a d (known-lanes a (there here)) (known-lanes d here) wide.0 in
        let one = ap length (lanes-stay t f (made t f) a.loc a.index (class-there a (there here))) in
        let two = ap length (widths-stay t f (made t f) (Virtual v) None (ap (has_class f) (sym at) ∙ class-there d here)) in
        let three = lanes-count t f a.loc a.index in
        let five : length (operand_widths t f d) ≡ length (located_widths t f (Virtual v) None) = λ k. length (located_widths t f (at k) (index k)) in
        omega (arith, same, one, two, three, five)

    part-long : length (lanes_of t x) ≤ length (operand_lanes t H s)
    part-long =
        let same = same-lanes t f s (at_index d x) (known-lanes s (there (there here))) (lanes-known t f d.loc x (class-there d here) part-fits) wide.1 in
        let one = ap length (lanes-stay t f (made t f) s.loc s.index (class-there s (there (there here)))) in
        let three = lanes-count t f s.loc s.index in
        let five : length (operand_widths t f (at_index d x)) ≡ length (located_widths t f (Virtual v) (Some x)) = λ k. length (located_widths t f (at k) (Some x)) in
        let six = map-length (slice_index (range_widths t f v)) (lanes_of t x) in
        omega (arith, same, one, three, five, six)

    -- a register that isn't that of the part
    fit-at : (w : ℕ) → (s.undef ≡ false → (l : Lane) → Among l (operand_lanes t H s) → is_lane_of w l ≡ false) → AllFit t H w ps
    fit-at w h = (record { long = part-long; other = h }, tt)

    alone : Apart (filled_lanes t ps)
    alone = subst Apart (sym (append-nil (lanes_of t x))) (lanes-apart-of t x)

    works : (w : ℕ) → AllFit t H w ps → Works t H v N ps base starts n w
    works w fit l = upon t H w (base w) (λ l q. moved-apart w (numbers 0 N) (use_sources t H a) l q) ps fit alone l

    -- where the result is `undef`, no operand that is read has its register
    undef-apart : d.undef ≡ true → (o : RegOp) → Among o (a ∷ s ∷ []) → o.def ≡ false → o.undef ≡ false → (l : Lane) → Among l (operand_lanes t H o) → is_lane_of v l ≡ false
    undef-apart u o m def plain l k = lanes-apart t H v o.loc o.index (subst (λ q. same_loc o.loc q ≡ false) at (go (same_loc o.loc d.loc) refl)) l k
      where
        go : (y : Bool) → same_loc o.loc d.loc ≡ y → same_loc o.loc d.loc ≡ false
        go false e = e
        go true e = absurd (let z = named-once t f i r.twelve d o (there' d here) (first_of_both d.def (not d.implicit) is-def) u (same-own d.loc) (there' o (there m)) (λ y. def y || not (plain y)) e in let w : o.def ≡ d.def = ap (λ (q : RegOp). q.def) z in let v = first_of_both d.def (not d.implicit) is-def in cc)

    a-def : a.def ≡ false
    a-def = not-true a.def (first_of_both (not a.def) (not a.implicit) (first_of_both (is_use a) (is_virtual a.loc) a-used))

    s-def : s.def ≡ false
    s-def = not-true s.def (first_of_both (not s.def) (not s.implicit) (first_of_both (is_use s) (is_virtual s.loc) s-used))

    sources-long : length (numbers 0 N) ≤ length (use_sources t H a)
    sources-long =
        let one = numbers-long 0 N in
        let two = map-length (cond a.undef (λ (l : Lane). Undef) FromLane) (operand_lanes t H a) in
        let three = whole-long in
        omega (arith, one, two, three)

    with-undef : (u : Bool) → d.undef ≡ u → (wss : List Writes) → GivesAlike n ws wss → GivesAlike n ws (cond u (undefined false (range_lanes t H v) ∷ []) [] ++ wss)
    with-undef false u wss g = g
    with-undef true u wss g = undef-first-of t H v N ps base starts n wss g (fit-at v (λ plain l m. undef-apart u s (there here) s-def plain l m)) leaves covers
      where
        leaves : (l : Lane) → is_written (base v) l ≡ true → Leaves (lanes_by v (numbers 0 N)) (settled (filled (base v) l))
        leaves l w = source-leaves v (undefined false (lanes_by v (numbers 0 N))) (λ l q. undefined-apart v (numbers 0 N) l q) a.undef (operand_lanes t H a) (λ plain l m. undef-apart u a here a-def plain l m) (settled (filled (base v) l)) (moved-among false (lanes_by v (numbers 0 N)) (use_sources t H a) l w)

        covers : (l : Lane) → is_written (base v) l ≡ false → place (lanes_by v (numbers 0 N)) l ≡ None
        covers l w = go (place (lanes_by v (numbers 0 N)) l) refl
          where
            go : (q : Option ℕ) → place (lanes_by v (numbers 0 N)) l ≡ q → place (lanes_by v (numbers 0 N)) l ≡ None
            go None e = e
            go (Some k) e = absurd (let z = map-of (VirtualLane v) l (numbers 0 N) (place-there (lanes_by v (numbers 0 N)) l k e).0 in let y = moved-written v (numbers 0 N) (use_sources t H a) z.0 sources-long z.1 in let q : is_written (base v) l ≡ true = ap (is_written (base v)) z.2 ∙ y in cc)

    -- the instructions that it becomes

    abbrev copy-whole : Bool → List Instr
    copy-whole y = cond y (copy_of (whole_definition v) (whole_use c) ∷ []) []

    abbrev front : ℕ → List Instr
    front to = move_of (whole_definition to) a ∷ into_part to p ∷ []

    insertion-is : form_of t i ≡ forms.Insertion v a p
    insertion-is =
        (λ k. cond (passes is_copy (known k)) (copy_form (register_at i.operands 0) (register_at i.operands 1))
        (cond (passes is_reg_sequence (known k)) (sequence_form (virtual_in (register_at i.operands 0)))
        (cond (passes is_insert_subreg (known k)) (insertion_form (virtual_in (register_at (are k) 0)) (register_at (are k) 1) (part_of_two (slice_get (are k) 2) (slice_get (are k) 3))) forms.Other)))
        ∙ (λ k. insertion_form (virtual_loc (at k)) (Some a) (p ∷ []))

    lowers : (y : Bool) → is_input (Virtual v) ps ≡ y → instr_lowered t f.classes c i ≡ undefined_first (operands.Reg d) ++ keeping_text i (front (cond y c v) ++ copy-whole y)
    lowers y is =
        ap (λ q. flat_map undefined_first i.operands ++ form_lowered t f.classes c i q) insertion-is
        ∙ ((λ k. flat_map undefined_first (are k) ++ keeping_text i (front (cond (is k) c v) ++ copy-whole (is k)))
        ∙ ((λ k. (undefined_first (operands.Reg d) ++ (first-used a (first_of_both _ _ a-used) k ++ (first-used s (first_of_both _ _ s-used) k ++ []))) ++ keeping_text i (front (cond y c v) ++ copy-whole y))
        ∙ ap (λ xs. xs ++ keeping_text i (front (cond y c v) ++ copy-whole y)) (append-nil (undefined_first (operands.Reg d)))))

    front-items : (to : ℕ) → range_widths t H to ≡ range_widths t H v → (q : Block) → map (item_of t G q) (front to) ≡ silents (starts to ++ into t H to ps)
    front-items to same q = λ k. (moves-item t f to None a long-whole q (move_of (whole_definition to) a) refl refl ∙ (λ j. Silent [] (moved false (lanes_by to (numbers 0 (length (same j)))) (use_sources t H a)))) k ∷ (moves-item t f to (Some x) s long-part q (into_part to p) refl refl k ∷ [])
      where
        long-whole : length (located_lanes t H (Virtual to) None) ≤ length (operand_lanes t H a)
        long-whole = let one = lanes-count t H (Virtual to) None in let two = ap length same in let three = whole-long in omega (arith, one, two, three)

        long-part : length (located_lanes t H (Virtual to) (Some x)) ≤ length (operand_lanes t H s)
        long-part = let one = map-length (VirtualLane to) (lanes_of t x) in let two = part-long in omega (arith, one, two)

    class-new : is_input (Virtual v) ps ≡ true → class_of H c ≡ class_of H v
    class-new is =
        let one : Stands H.classes n c (class_if (is_input (Virtual v) ps) (located_class f.classes (Virtual v))) = subst (λ q. Stands H.classes n c (form_classes t f.classes c i q)) insertion-is stands in
        let two : Stands H.classes n c (located_class f.classes (Virtual v) ∷ []) = subst (λ (y : Bool). Stands H.classes n c (class_if y (located_class f.classes (Virtual v)))) is one in
        stands-class H n c (located_class f.classes (Virtual v)) [] two ∙ sym (class-stays t f (made t f) v (ap (has_class f) (sym at) ∙ class-there d here))

    front-moves : (to : ℕ) → AllMoves (front to)
    front-moves to = (move-is (whole_definition to) a, (move-is (record (whole_definition to) { index = Some p.index }) p.input, tt))

    pub inserted-keeps : InstrStep t f b c i
    inserted-keeps = go (is_input (Virtual v) ps) refl
      where
        go : (y : Bool) → is_input (Virtual v) ps ≡ y → InstrStep t f b c i
        go false is =
            puts t f all b i r effects.InsertSubreg known (refl, refl) c d is-def v at (silent_reads t H effects.InsertSubreg i.operands) ws own-item (front v ++ []) (starts v ++ into t H v ps) (front-moves v) (λ e. cc) (lowers false is) (front-items v refl)
            (with-undef d.undef refl (starts v ++ into t H v ps) (in-own t H v N ps base starts n (works v (fit-at v (λ plain l m. lanes-apart t H v s.loc s.index (loc-sym (Virtual v) s.loc ∙ apart-from (same_loc (Virtual v) s.loc) is) l m)))))
          where
            apart-from : (y : Bool) → (y || false) ≡ false → y ≡ false
            apart-from false e = refl
            apart-from true e = absurd (cc)
        go true is =
            puts t f all b i r effects.InsertSubreg known (refl, refl) c d is-def v at (silent_reads t H effects.InsertSubreg i.operands) ws own-item (front c ++ copy-whole true) ((starts c ++ into t H c ps) ++ (whole_copy v c N ∷ [])) (append-moves (front c) (copy-whole true) (front-moves c) (inl refl, tt)) (λ e. cc) (lowers true is)
            (λ q. map-append (item_of t G q) (front c) (copy-whole true) ∙ ((λ k. front-items c same q k ++ (copy-whole-item t f v c same q k ∷ [])) ∙ sym (map-append (λ ws. Silent [] ws) (starts c ++ into t H c ps) (whole_copy v c N ∷ []))))
            (with-undef d.undef refl ((starts c ++ into t H c ps) ++ (whole_copy v c N ∷ []))
            (in-other t H v N ps base starts n c stands.above (works c (fit-at c (λ plain l m. old-not-new n c l (old-lanes t f s (class-there s (there (there here))) l m) stands.above))) (λ l q. moved-apart c (numbers 0 N) (use_sources t H a) l q) (λ k h. covered-moves v c (use_sources t H a) N k sources-long h) (λ l q. moved-missed false (lanes_by v (numbers 0 N)) (use_sources t H a) l q) within))
          where
            same : range_widths t H c ≡ range_widths t H v
            same = ap (widths_of_some t) (class-new is)

            within : (k : ℕ) → Among k (filled_lanes t ps) → Among k (numbers 0 N)
            within k m = index-within t f classes v x (ap (has_class f) (sym at) ∙ class-there d here) (ap (λ l. index_fits t f l (Some x)) (sym at) ∙ part-fits) k (subst (Among k) (append-nil (lanes_of t x)) m)

  pub inserted-step : effect_of t i ≡ Some effects.InsertSubreg → (c : ℕ) → Stands (h t f).classes (length f.classes) c (instr_classes t f.classes c i) → InstrStep t f b c i
  inserted-step known c stands = by i.operands refl (met t f i effects.InsertSubreg known r.one).3
    where
      located : (d a s : RegOp) (x : IndexId) → i.operands ≡ operands.Reg d ∷ operands.Reg a ∷ operands.Reg s ∷ operands.Index x ∷ [] → (l : Loc) → d.loc ≡ l → (y : Option IndexId) → d.index ≡ y → is_definition d ≡ true → is_virtual l ≡ true → is_none y ≡ true → is_virtual_use a ≡ true → is_virtual_use s ≡ true → InstrStep t f b c i
      located d a s x are (Virtual v) at None index g p q a-used s-used = inserted-keeps known c stands d a s x are g v at index a-used s-used
      located d a s x are (Fixed z) at y index g p q a-used s-used = absurd (cc)
      located d a s x are (Virtual v) at (Some y) index g p q a-used s-used = absurd (cc)

      rest : (d : RegOp) (os : List Operand) → i.operands ≡ operands.Reg d ∷ os → is_whole_definition d ≡ true → insertion os ≡ true → InstrStep t f b c i
      rest d (operands.Reg a ∷ operands.Reg s ∷ operands.Index x ∷ []) are w e =
          let front = first_of_both (is_definition d && is_virtual d.loc) (is_none d.index) w in
          located d a s x are d.loc refl d.index refl (first_of_both (is_definition d) (is_virtual d.loc) front) (second_of_both (is_definition d) (is_virtual d.loc) front) (second_of_both (is_definition d && is_virtual d.loc) (is_none d.index) w) (first_of_both (is_virtual_use a) (is_virtual_use s) e) (second_of_both (is_virtual_use a) (is_virtual_use s) e)
      rest d os are w e = absurd (cc)

      by : (os : List Operand) → i.operands ≡ os → result_and insertion os ≡ true → InstrStep t f b c i
      by (operands.Reg d ∷ os) are e = rest d os are (first_of_both (is_whole_definition d) (insertion os) e) (second_of_both (is_whole_definition d) (insertion os) e)
      by os are e = absurd (cc)
