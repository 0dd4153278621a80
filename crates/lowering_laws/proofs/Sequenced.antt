-- REG_SEQUENCE becomes a copy for each part, and another one where a part is of the register that is built.
use Rattle.std.proofs.Common.{◌≡◌, ◌⊎◌, inl, inr, ◌∷◌, ◌++◌, ◌∙◌, ◌&&◌, ◌||◌, not, ℕ, zero, suc, Bool, true, false, cond, List, Option, Some, None, map, flat_map, length, drop, refl, sym, ap, subst, append-nil, arith, []}
use Rattle.std.specs.Prelude.{is_none, is_some, slice_get}
use Rattle.std.specs.List.{list_all, range_with_len}
use Rattle.target_base.specs.declared.types.ClassId.{ClassId}
use Rattle.target_base.specs.declared.types.Effect.TheVariants as effects
use Rattle.target_base.specs.declared.types.IndexId.{IndexId}
use Rattle.target_base.specs.declared.types.Target.{Target}
use Rattle.target_base.specs.Registers.{lanes_of, widths_of_some}
use Rattle.target_base.specs.Rules.{is_copy, is_insert_subreg, is_reg_sequence}
use Rattle.target_base.proofs.Tests.{first_of_both, second_of_both}
use Rattle.meaning.specs.Code.{Silent}
use Rattle.meaning.specs.Lanes.{Writes, filled, settled}
use Rattle.meaning.specs.Live.{Among, here, there}
use Rattle.meaning.specs.declared.types.Lane.{Lane}
use Rattle.meaning.specs.declared.types.Lane.TheVariants.{VirtualLane}
use Rattle.meaning.specs.declared.types.Fill.TheVariants.{Moved}
use Rattle.meaning.specs.declared.types.Source.TheVariants.{FromLane, Undef}
use Rattle.mir_func.specs.declared.func.Loc.{Loc}
use Rattle.mir_func.specs.declared.func.Loc.TheVariants.{Fixed, Virtual}
use Rattle.mir_func.specs.declared.func.RegOp.{RegOp}
use Rattle.mir_func.specs.declared.func.Operand.{Operand}
use Rattle.mir_func.specs.declared.func.Operand.TheVariants as operands
use Rattle.mir_func.specs.declared.func.Instr.{Instr}
use Rattle.mir_func.specs.declared.func.Block.{Block}
use Rattle.mir_func.specs.Value.{Function}
use Rattle.mir_func.specs.Binding.{class_of, does, effect_of, is_definition, is_virtual, passes, puts_together, register_at, registers, same_loc}
use Rattle.mir_meaning.specs.Registers.{has_number, located_lanes, located_widths, numbers, operand_lanes, operand_widths, range_lanes, range_widths, use_sources}
use Rattle.mir_meaning.specs.Items.{moved, parts, sequenced, silent_reads, undefined}
use Rattle.mir_meaning.specs.Codes.{item_of}
use Rattle.mir_meaning.specs.Rules.{are_apart, at_index, has_class, has_lanes, index_fits, index_of, index_pairs, is_virtual_use, is_whole_definition, parts_fit, result_and, same_widths, subregs_fit, widths_fit}
use Rattle.phi_elim.specs.Moves.{copy_of, undefining, whole_definition, whole_use}
use Rattle.phi_elim.specs.Phis.{located_class}
use Rattle.two_address.specs.Lowered.{copy_form, form_lowered, form_of, insertion_form, instr_lowered, part_of_two, sequence_form, ties_lowered, virtual_in, virtual_loc}
use Rattle.two_address.specs.Sequences.{beginning, fill_all, filled_lanes, into_part, is_input, keeping_text, parts_of, sequence_lowered}
use Rattle.two_address.specs.Ties.{undefined_first}
use Rattle.two_address.specs.declared.forms.InstrLowering.TheVariants as forms
use Rattle.two_address.specs.declared.sequences.SubregInput.{SubregInput}
use Rattle.instr_effects.proofs.Members.{in-either, member-elim, member-none}
use Rattle.live_laws.proofs.Effects.Lists.{all-of, distinct-apart}
use Rattle.live_laws.proofs.Effects.Moved.{Apart}
use Rattle.live_laws.proofs.Effects.Shapes.{lanes-there, same-lanes, subregs-there, widths-of}
use Rattle.live_laws.proofs.Touch.Roles.{met}
use Rattle.lowering_laws.proofs.Classes.{AllNamed, class-stays, lanes-stay}
use Rattle.lowering_laws.proofs.Lowering.{map-append}
use Rattle.lowering_laws.proofs.Operands.{named, shaped}
use Rattle.lowering_laws.proofs.Placed.{undef-item}
use Rattle.lowering_laws.proofs.Plain.{same-classes}
use Rattle.lowering_laws.proofs.Replaced.{InstrStep, h, made}
use Rattle.lowering_laws.proofs.Unmoved.{known-item, loc-sym}
use Rattle.lowering_laws.proofs.Ruled.{InstrRules}
use Rattle.lowering_laws.proofs.Same.{undef-alike}
use Rattle.lowering_laws.proofs.Silently.{first-used, lanes-apart, lanes-count}
use Rattle.lowering_laws.proofs.Traced.{filled-free, filled-left, filled-right, is_lane_of, is_written, lanes_by, silents, traced, undefined-apart}
use Rattle.lowering_laws.proofs.Undefs.{GivesAlike, Leaves, undefined-given}
use Rattle.live_laws.specs.Effects.Shaped.{AreClasses}
use Rattle.mir_func.specs.Binding.{is_use}
use Rattle.std.proofs.Common.{append_assoc, ◌<◌}
use Rattle.two_address.specs.Lowered.{class_if, instr_classes, form_classes}
use Rattle.lowering_laws.proofs.Assembled.{AllFit, Works, given, given-written, in-other, in-own, in-turn, into, undef-first as undef-first-of, upon}
use Rattle.lowering_laws.proofs.Built.{covered-undefined, old-not-new, whole_copy}
use Rattle.lowering_laws.proofs.Defined.{named-once}
use Rattle.lowering_laws.proofs.Found.{place, undefined-found, undefined-missed}
use Rattle.lowering_laws.proofs.Made.{Stands, stands-class}
use Rattle.lowering_laws.proofs.Parted.{map-length, number-there, ranged, undefined-lane}
use Rattle.lowering_laws.proofs.Puts.{AllMoves, append-moves, copy-whole-item, index-within, lanes-known, move-is, moves-item, old-lanes, puts}
use Rattle.std.specs.Prelude.{slice_index}
use Rattle.lowering_laws.proofs.Silently.{same-own}
use Rattle.lowering_laws.proofs.Widths.{class-long}

not-true : (b : Bool) → not b ≡ true → b ≡ false
not-true true e = absurd (cc)
not-true false e = refl

no-or : (a b : Bool) → (a || b) ≡ false → (a ≡ false) × (b ≡ false)
no-or true b e = absurd (cc)
no-or false b e = (refl, e)

-- operands in pairs, as parts
data Pairs : List Operand → List SubregInput → Type 0 where
  done : Pairs [] []
  more : {s : RegOp} {x : IndexId} {os : List Operand} {ps : List SubregInput} → is_virtual_use s ≡ true → Pairs os ps → Pairs (operands.Reg s ∷ operands.Index x ∷ os) (record { input = s; index = x } ∷ ps)

pairs-of : (os : List Operand) → index_pairs os ≡ true → Pairs os (parts_of os)
pairs-of [] e = done
pairs-of (operands.Reg s ∷ operands.Index x ∷ os) e = more (first_of_both (is_virtual_use s) (index_pairs os) e) (pairs-of os (second_of_both (is_virtual_use s) (index_pairs os) e))
pairs-of os e = absurd (cc)

pairs-first : {os : List Operand} {ps : List SubregInput} → Pairs os ps → flat_map undefined_first os ≡ []
pairs-first done = refl
pairs-first (more {s = s} e xs) = λ k. first-used s (first_of_both _ _ e) k ++ pairs-first xs k

-- each is a use
pairs-used : {os : List Operand} {ps : List SubregInput} → Pairs os ps → (o : RegOp) → Among o (registers os) → o.def ≡ false
pairs-used done o m = absurd (member-none o m)
pairs-used (more {s = s} {os = os} e xs) o m = member-elim o s (registers os) (λ q. ap (λ (x : RegOp). x.def) q ∙ not-true s.def (first_of_both (not s.def) (not s.implicit) (first_of_both (is_use s) (is_virtual s.loc) e))) (λ k. pairs-used xs o k) m

module _ (t : Target) (f : Function) (all : AllNamed f f.blocks) (classes : AreClasses t f) (b : Block) (i : Instr) (r : InstrRules t f i) where
  abbrev H : Function
  H = h t f

  abbrev G : Function
  G = ties_lowered t f

  abbrev n : ℕ
  n = length f.classes

  -- what a sequence gives, by its parts
  parts-are : (v : ℕ) (d : RegOp) → d.loc ≡ Virtual v → {os : List Operand} {ps : List SubregInput} → Pairs os ps → parts t H d os ≡ given t H v ps
  parts-are v d at done = refl
  parts-are v d at (more {s = s} {x = x} e xs) = λ k. moved false (located_lanes t H (at k) (Some x)) (use_sources t H s) ++ parts-are v d at xs k

  numbers-are : {os : List Operand} {ps : List SubregInput} → Pairs os ps → flat_map (lanes_of t) (flat_map index_of os) ≡ filled_lanes t ps
  numbers-are done = refl
  numbers-are (more {x = x} e xs) = ap (λ ns. lanes_of t x ++ ns) (numbers-are xs)

  -- the parts of a valid sequence fit register w, where it is none of theirs that are read
  all-fit : (w : ℕ) (d : RegOp) {os : List Operand} {ps : List SubregInput} → Pairs os ps → ((s : RegOp) → Among s (registers os) → (has_class f s.loc ≡ true) × (has_lanes t f s ≡ true)) → has_class f d.loc ≡ true → (v : ℕ) → d.loc ≡ Virtual v → list_all (λ x. index_fits t f d.loc (Some x)) (flat_map index_of os) ≡ true → parts_fit t f d os ≡ true → ((s : RegOp) → Among s (registers os) → s.undef ≡ false → (l : Lane) → Among l (operand_lanes t H s) → is_lane_of w l ≡ false) → AllFit t H w ps
  all-fit w d done known class v at indexes widths apart = tt
  all-fit w d (more {s = s} {x = x} {os = os} {ps = ps} e xs) known class v at indexes widths apart =
      let here' = known s here in
      let fits-at = first_of_both (index_fits t f d.loc (Some x)) (list_all (λ y. index_fits t f d.loc (Some y)) (flat_map index_of os)) indexes in
      let same = same-lanes t f s (at_index d x) here'.1 (lanes-known t f d.loc x class fits-at) (first_of_both (same_widths t f s (at_index d x)) (parts_fit t f d os) widths) in
      let one = ap length (lanes-stay t f (made t f) s.loc s.index here'.0) in
      let three = lanes-count t f s.loc s.index in
      let five : length (operand_widths t f (at_index d x)) ≡ length (located_widths t f (Virtual v) (Some x)) = λ k. length (located_widths t f (at k) (Some x)) in
      let six = map-length (slice_index (range_widths t f v)) (lanes_of t x) in (
        record { long = omega (arith, same, one, three, five, six); other = apart s here },
        all-fit w d xs (λ p m. known p (there m)) class v at (second_of_both (index_fits t f d.loc (Some x)) (list_all (λ y. index_fits t f d.loc (Some y)) (flat_map index_of os)) indexes) (second_of_both (same_widths t f s (at_index d x)) (parts_fit t f d os) widths) (λ p m. apart p (there m)),
      )

  -- an index of a part fits the register
  part-index : (d : RegOp) {os : List Operand} {ps : List SubregInput} → Pairs os ps → list_all (λ x. index_fits t f d.loc (Some x)) (flat_map index_of os) ≡ true → (k : ℕ) → Among k (filled_lanes t ps) → (x : IndexId) × (index_fits t f d.loc (Some x) ≡ true) × Among k (lanes_of t x)
  part-index d done indexes k m = absurd (member-none k m)
  part-index d (more {x = x} {os = os} {ps = ps} e xs) indexes k m =
      go (in-either k (lanes_of t x) (filled_lanes t ps) m) (part-index d xs (second_of_both (index_fits t f d.loc (Some x)) (list_all (λ y. index_fits t f d.loc (Some y)) (flat_map index_of os)) indexes) k)
    where
      Found : Type 0
      Found = (x : IndexId) × (index_fits t f d.loc (Some x) ≡ true) × Among k (lanes_of t x)

      go : Among k (lanes_of t x) ⊎ Among k (filled_lanes t ps) → (Among k (filled_lanes t ps) → Found) → Found
      go (inl q) ih = (x, first_of_both (index_fits t f d.loc (Some x)) (list_all (λ y. index_fits t f d.loc (Some y)) (flat_map index_of os)) indexes, q)
      go (inr q) ih = ih q

  into-items : (w : ℕ) (a : Block) (ps : List SubregInput) → AllFit t H w ps → map (item_of t G a) (map (into_part w) ps) ≡ silents (into t H w ps)
  into-items w a [] x = refl
  into-items w a (p ∷ ps) x = λ k. moves-item t f w (Some p.index) p.input (let one = map-length (VirtualLane w) (lanes_of t p.index) in let two = x.0.long in omega (arith, one, two)) a (into_part w p) refl refl k ∷ into-items w a ps x.1 k

  parts-moves : (w : ℕ) (ps : List SubregInput) → AllMoves (map (into_part w) ps)
  parts-moves w [] = tt
  parts-moves w (p ∷ ps) = (move-is (record (whole_definition w) { index = Some p.index }) p.input, parts-moves w ps)

  begun-moves : (k : Option ClassId) (w : ℕ) (ps : List SubregInput) → AllMoves (beginning t k w ps)
  begun-moves k w ps = go (fill_all t k ps)
    where
      go : (y : Bool) → AllMoves (cond y [] (undefining (whole_definition w) ∷ []))
      go true = tt
      go false = (inr refl, tt)

  module _ (known : effect_of t i ≡ Some effects.RegSequence) (c : ℕ) (stands : Stands (h t f).classes (length f.classes) c (instr_classes t f.classes c i)) (d : RegOp) (rest : List Operand) (are : i.operands ≡ operands.Reg d ∷ rest) (pairs : index_pairs rest ≡ true) (is-def : is_definition d ≡ true) (v : ℕ) (at : d.loc ≡ Virtual v) (index : d.index ≡ None) where
    abbrev qs : List SubregInput
    qs = parts_of rest

    abbrev N : ℕ
    N = length (range_widths t H v)

    abbrev class : Option ClassId
    class = located_class f.classes (Virtual v)

    abbrev base : ℕ → Writes
    base w = undefined false (lanes_by w (numbers 0 N))

    abbrev starts : ℕ → List Writes
    starts w = cond (fill_all t class qs) [] (base w ∷ [])

    abbrev ws : Writes
    ws = given t H v qs ++ base v

    there' : (o : RegOp) → Among o (d ∷ registers rest) → Among o (registers i.operands)
    there' o m = subst (λ os. Among o (registers os)) (sym are) m

    has : (o : RegOp) → Among o (d ∷ registers rest) → (has_class f o.loc ≡ true) × (has_lanes t f o ≡ true)
    has o m = ((named t f i r o (there' o m)).class, lanes-there t f i (shaped t f i r) o (there' o m))

    own-class : has_class f (Virtual v) ≡ true
    own-class = ap (has_class f) (sym at) ∙ (has d here).0

    widths : widths_fit t f effects.RegSequence (operands.Reg d ∷ rest) ≡ true
    widths = subst (λ os. widths_fit t f effects.RegSequence os ≡ true) are (widths-of t f i effects.RegSequence known r.two)

    indexes : list_all (λ x. index_fits t f d.loc (Some x)) (flat_map index_of rest) ≡ true
    indexes = subst (λ os. subregs_fit t f os ≡ true) are (subregs-there t f i (shaped t f i r) (ap (passes puts_together) known))

    fit : (w : ℕ) → ((s : RegOp) → Among s (registers rest) → s.undef ≡ false → (l : Lane) → Among l (operand_lanes t H s) → is_lane_of w l ≡ false) → AllFit t H w qs
    fit w apart = all-fit w d (pairs-of rest pairs) (λ s m. has s (there m)) (has d here).0 v at indexes (second_of_both (are_apart t rest) (parts_fit t f d rest) widths) apart

    distinct : Apart (filled_lanes t qs)
    distinct = subst Apart (numbers-are (pairs-of rest pairs)) (distinct-apart (flat_map (lanes_of t) (flat_map index_of rest)) (first_of_both (are_apart t rest) (parts_fit t f d rest) widths))

    class-same : widths_of_some t class ≡ range_widths t H v
    class-same = sym (ap (widths_of_some t) (class-stays t f (made t f) v own-class))

    own-item : item_of t H b i ≡ Silent (silent_reads t H effects.RegSequence i.operands) ws
    own-item =
        known-item t H b i effects.RegSequence known
        ∙ ap (λ ws. Silent (silent_reads t H effects.RegSequence i.operands) ws)
        (ap (λ os. sequenced t H os) are ∙ (λ k. parts-are v d at (pairs-of rest pairs) k ++ undefined false (located_lanes t H (at k) (index k))))

    base-own : (w : ℕ) (l : Lane) → is_lane_of w l ≡ false → is_written (base w) l ≡ false
    base-own w l e = undefined-apart w (numbers 0 N) l e

    works : (w : ℕ) → AllFit t H w qs → Works t H v N qs base starts n w
    works w x l = go (fill_all t class qs) refl
      where
        go : (y : Bool) → fill_all t class qs ≡ y → traced (cond y [] (base w ∷ []) ++ into t H w qs) (FromLane l) ≡ settled (filled (given t H w qs ++ base w) l)
        go false q = upon t H w (base w) (base-own w) qs x distinct l
        go true q = in-turn t H w qs x distinct l ∙ by (is_written (given t H w qs) l) refl
          where
            filled-all : (m : ℕ) → Among m (numbers 0 N) → Among m (filled_lanes t qs)
            filled-all m k = number-there (filled_lanes t qs) m (all-of (has_number (filled_lanes t qs)) m (numbers 0 N) k (subst (λ ms. list_all (has_number (filled_lanes t qs)) ms ≡ true) (ap (λ ws. range_with_len 0 (length ws)) class-same ∙ ranged 0 N) q))

            none-else : is_written (given t H w qs) l ≡ false → (y : Bool) → is_written (base w) l ≡ y → is_written (base w) l ≡ false
            none-else g false e = e
            none-else g true e = absurd (let z = undefined-lane w (numbers 0 N) l e in let u : is_written (given t H w qs) l ≡ true = ap (is_written (given t H w qs)) z.1 ∙ given-written t H w qs x z.0 (filled-all z.0 z.2) in cc)

            by : (y : Bool) → is_written (given t H w qs) l ≡ y → settled (filled (given t H w qs) l) ≡ settled (filled (given t H w qs ++ base w) l)
            by true g = ap settled (sym (filled-left (given t H w qs) (base w) l g))
            by false g = ap settled (filled-free (given t H w qs) l g ∙ sym (filled-right (given t H w qs) (base w) l g ∙ filled-free (base w) l (none-else g (is_written (base w) l) refl)))

    undef-apart : d.undef ≡ true → (o : RegOp) → Among o (registers rest) → o.undef ≡ false → (l : Lane) → Among l (operand_lanes t H o) → is_lane_of v l ≡ false
    undef-apart u o m plain l k = lanes-apart t H v o.loc o.index (subst (λ q. same_loc o.loc q ≡ false) at (go (same_loc o.loc d.loc) refl)) l k
      where
        def : o.def ≡ false
        def = pairs-used (pairs-of rest pairs) o m

        go : (y : Bool) → same_loc o.loc d.loc ≡ y → same_loc o.loc d.loc ≡ false
        go false e = e
        go true e = absurd (let z = named-once t f i r.twelve d o (there' d here) (first_of_both d.def (not d.implicit) is-def) u (same-own d.loc) (there' o (there m)) (λ y. def y || not (plain y)) e in let w : o.def ≡ d.def = ap (λ (q : RegOp). q.def) z in let v = first_of_both d.def (not d.implicit) is-def in cc)

    with-undef : (u : Bool) → d.undef ≡ u → (wss : List Writes) → GivesAlike n ws wss → GivesAlike n ws (cond u (undefined false (range_lanes t H v) ∷ []) [] ++ wss)
    with-undef false u wss g = g
    with-undef true u wss g = undef-first-of t H v N qs base starts n wss g (fit v (λ s m plain l k. undef-apart u s m plain l k)) leaves covers
      where
        leaves : (l : Lane) → is_written (base v) l ≡ true → Leaves (lanes_by v (numbers 0 N)) (settled (filled (base v) l))
        leaves l w = subst (Leaves (lanes_by v (numbers 0 N))) (sym (undefined-given false (lanes_by v (numbers 0 N)) l w)) refl

        covers : (l : Lane) → is_written (base v) l ≡ false → place (lanes_by v (numbers 0 N)) l ≡ None
        covers l w = go (place (lanes_by v (numbers 0 N)) l) refl
          where
            go : (q : Option ℕ) → place (lanes_by v (numbers 0 N)) l ≡ q → place (lanes_by v (numbers 0 N)) l ≡ None
            go None e = e
            go (Some k) e = absurd (let z = undefined-found false (lanes_by v (numbers 0 N)) l k e in let y : Moved Undef ≡ Moved (FromLane l) = sym z ∙ filled-free (base v) l w in cc)

    -- the instructions that it becomes

    abbrev copy-whole : Bool → List Instr
    copy-whole y = cond y (copy_of (whole_definition v) (whole_use c) ∷ []) []

    abbrev front : ℕ → List Instr
    front to = beginning t class to qs ++ map (into_part to) qs

    sequence-is : form_of t i ≡ forms.Sequence v
    sequence-is =
        (λ k. cond (passes is_copy (known k)) (copy_form (register_at i.operands 0) (register_at i.operands 1))
        (cond (passes is_reg_sequence (known k)) (sequence_form (virtual_in (register_at (are k) 0)))
        (cond (does is_insert_subreg t i) (insertion_form (virtual_in (register_at i.operands 0)) (register_at i.operands 1) (part_of_two (slice_get i.operands 2) (slice_get i.operands 3))) forms.Other)))
        ∙ (λ k. sequence_form (virtual_loc (at k)))

    lowers : (y : Bool) → is_input (Virtual v) qs ≡ y → instr_lowered t f.classes c i ≡ undefined_first (operands.Reg d) ++ keeping_text i (front (cond y c v) ++ copy-whole y)
    lowers y is =
        ap (λ q. flat_map undefined_first i.operands ++ form_lowered t f.classes c i q) sequence-is
        ∙ ((λ k. flat_map undefined_first (are k) ++ sequence_lowered t f.classes c i v (parts_of (drop 1 (are k))))
        ∙ ((λ k. (undefined_first (operands.Reg d) ++ pairs-first (pairs-of rest pairs) k) ++ keeping_text i (beginning t class (cond (is k) c v) qs ++ (map (into_part (cond (is k) c v)) qs ++ copy-whole (is k))))
        ∙ (λ k. append-nil (undefined_first (operands.Reg d)) k ++ keeping_text i (sym (append_assoc (beginning t class (cond y c v) qs) (map (into_part (cond y c v)) qs) (copy-whole y)) k))))

    starts-items : (to : ℕ) → range_widths t H to ≡ range_widths t H v → (a : Block) → map (item_of t G a) (beginning t class to qs) ≡ silents (starts to)
    starts-items to same a = go (fill_all t class qs)
      where
        go : (y : Bool) → map (item_of t G a) (cond y [] (undefining (whole_definition to) ∷ [])) ≡ silents (cond y [] (base to ∷ []))
        go true = refl
        go false = ap (λ x. x ∷ []) (undef-item t G a (undefining (whole_definition to)) refl ∙ ap (λ ws. Silent [] ws) (undef-alike t H G (same-classes t f) (operands.Reg (whole_definition to) ∷ []) ∙ (ap (undefined false) (append-nil (range_lanes t H to)) ∙ (λ k. undefined false (lanes_by to (numbers 0 (length (same k))))))))

    front-items : (to : ℕ) → range_widths t H to ≡ range_widths t H v → AllFit t H to qs → (a : Block) → map (item_of t G a) (front to) ≡ silents (starts to ++ into t H to qs)
    front-items to same x a =
        map-append (item_of t G a) (beginning t class to qs) (map (into_part to) qs)
        ∙ ((λ k. starts-items to same a k ++ into-items to a qs x k)
        ∙ sym (map-append (λ ws. Silent [] ws) (starts to) (into t H to qs)))

    front-moves : (to : ℕ) → AllMoves (front to)
    front-moves to = append-moves (beginning t class to qs) (map (into_part to) qs) (begun-moves class to qs) (parts-moves to qs)

    class-new : is_input (Virtual v) qs ≡ true → class_of H c ≡ class_of H v
    class-new is =
        let one : Stands H.classes n c (class_if (is_input (Virtual v) (parts_of (drop 1 i.operands))) class) = subst (λ q. Stands H.classes n c (form_classes t f.classes c i q)) sequence-is stands in
        let two : Stands H.classes n c (class_if (is_input (Virtual v) qs) class) = subst (λ os. Stands H.classes n c (class_if (is_input (Virtual v) (parts_of (drop 1 os))) class)) are one in
        let three : Stands H.classes n c (class ∷ []) = subst (λ (y : Bool). Stands H.classes n c (class_if y class)) is two in
        stands-class H n c class [] three ∙ sym (class-stays t f (made t f) v own-class)

    -- a register has a lane, so that there is an instruction
    some-lane : 0 < length (widths_of_some t class)
    some-lane = go (class_of f v) refl own-class
      where
        go : (q : Option ClassId) → class_of f v ≡ q → is_some q ≡ true → 0 < length (widths_of_some t (class_of f v))
        go None e g = absurd (cc)
        go (Some k) e g = subst (λ q. 0 < length (widths_of_some t q)) (sym e) (class-long t k (classes v k e))

    some-front : (to : ℕ) (ys : List Instr) → front to ++ ys ≡ [] → ⊥
    some-front to ys e = by (parts_of rest) refl (beginning t class to qs) refl
      where
        all-none : (k : ℕ) → 0 < k → list_all (has_number []) (range_with_len 0 k) ≡ true → ⊥
        all-none zero l e = absurd (omega arith)
        all-none (suc k) l e = cc

        by : (ps : List SubregInput) → qs ≡ ps → (xs : List Instr) → beginning t class to qs ≡ xs → ⊥
        by ps is (x ∷ xs) q = let z : ((x ∷ xs) ++ map (into_part to) qs) ++ ys ≡ [] = (λ k. (sym q k ++ map (into_part to) qs) ++ ys) ∙ e in cc
        by (p ∷ ps) is [] q = let z : (map (into_part to) (p ∷ ps)) ++ ys ≡ [] = (λ k. (sym q k ++ map (into_part to) (sym is k)) ++ ys) ∙ e in cc
        by [] is [] q = all-none (length (widths_of_some t class)) some-lane (filled-up (fill_all t class []) refl)
          where
            filled-up : (y : Bool) → fill_all t class [] ≡ y → fill_all t class [] ≡ true
            filled-up true g = g
            filled-up false g = absurd (let z : undefining (whole_definition to) ∷ [] ≡ [] = (λ k. cond (sym g k) [] (undefining (whole_definition to) ∷ [])) ∙ ((λ k. beginning t class to (sym is k)) ∙ q) in cc)

    pub sequenced-keeps : InstrStep t f b c i
    sequenced-keeps = go (is_input (Virtual v) qs) refl
      where
        go : (y : Bool) → is_input (Virtual v) qs ≡ y → InstrStep t f b c i
        go false is =
            puts t f all b i r effects.RegSequence known (refl, refl) c d is-def v at (silent_reads t H effects.RegSequence i.operands) ws own-item (front v ++ []) (starts v ++ into t H v qs) (append-moves (front v) [] (front-moves v) tt) (some-front v []) (lowers false is) (λ a. ap (map (item_of t G a)) (append-nil (front v)) ∙ front-items v refl own-fit a)
            (with-undef d.undef refl (starts v ++ into t H v qs) (in-own t H v N qs base starts n (works v own-fit)))
          where
            none-is : (ps : List SubregInput) {os : List Operand} → Pairs os ps → is_input (Virtual v) ps ≡ false → (s : RegOp) → Among s (registers os) → same_loc (Virtual v) s.loc ≡ false
            none-is ps done e s m = absurd (member-none s m)
            none-is ps (more {s = q} {os = os} {ps = more-ps} w xs) e s m =
                let z = no-or (same_loc (Virtual v) q.loc) (is_input (Virtual v) more-ps) e in
                member-elim s q (registers os) (λ y. ap (λ (x : RegOp). same_loc (Virtual v) x.loc) y ∙ z.0) (λ k. none-is more-ps xs z.1 s k) m

            own-fit : AllFit t H v qs
            own-fit = fit v (λ s m plain l k. lanes-apart t H v s.loc s.index (loc-sym (Virtual v) s.loc ∙ none-is qs (pairs-of rest pairs) is s m) l k)
        go true is =
            puts t f all b i r effects.RegSequence known (refl, refl) c d is-def v at (silent_reads t H effects.RegSequence i.operands) ws own-item (front c ++ copy-whole true) ((starts c ++ into t H c qs) ++ (whole_copy v c N ∷ [])) (append-moves (front c) (copy-whole true) (front-moves c) (inl refl, tt)) (some-front c (copy-whole true)) (lowers true is)
            (λ a. map-append (item_of t G a) (front c) (copy-whole true) ∙ ((λ k. front-items c same other-fit a k ++ (copy-whole-item t f v c same a k ∷ [])) ∙ sym (map-append (λ ws. Silent [] ws) (starts c ++ into t H c qs) (whole_copy v c N ∷ []))))
            (with-undef d.undef refl ((starts c ++ into t H c qs) ++ (whole_copy v c N ∷ []))
            (in-other t H v N qs base starts n c stands.above (works c other-fit) (base-own c) (λ k g. covered-undefined v c N k g) (λ l q. undefined-missed false (lanes_by v (numbers 0 N)) l q) within))
          where
            same : range_widths t H c ≡ range_widths t H v
            same = ap (widths_of_some t) (class-new is)

            other-fit : AllFit t H c qs
            other-fit = fit c (λ s m plain l k. old-not-new n c l (old-lanes t f s (has s (there m)).0 l k) stands.above)

            within : (k : ℕ) → Among k (filled_lanes t qs) → Among k (numbers 0 N)
            within k m = let z = part-index d (pairs-of rest pairs) indexes k m in index-within t f classes v z.0 own-class (ap (λ l. index_fits t f l (Some z.0)) (sym at) ∙ z.1) k z.2

  pub sequenced-step : effect_of t i ≡ Some effects.RegSequence → (c : ℕ) → Stands (h t f).classes (length f.classes) c (instr_classes t f.classes c i) → InstrStep t f b c i
  sequenced-step known c stands = by i.operands refl (met t f i effects.RegSequence known r.one).3
    where
      located : (d : RegOp) (rest : List Operand) → i.operands ≡ operands.Reg d ∷ rest → index_pairs rest ≡ true → is_definition d ≡ true → (l : Loc) → d.loc ≡ l → (y : Option IndexId) → d.index ≡ y → is_virtual l ≡ true → is_none y ≡ true → InstrStep t f b c i
      located d rest are pairs g (Virtual v) at None index p q = sequenced-keeps known c stands d rest are pairs g v at index
      located d rest are pairs g (Fixed w) at y index p q = absurd (cc)
      located d rest are pairs g (Virtual v) at (Some y) index p q = absurd (cc)

      by : (os : List Operand) → i.operands ≡ os → result_and index_pairs os ≡ true → InstrStep t f b c i
      by (operands.Reg d ∷ rest) are e =
          let w = first_of_both (is_whole_definition d) (index_pairs rest) e in
          let front = first_of_both (is_definition d && is_virtual d.loc) (is_none d.index) w in
          located d rest are (second_of_both (is_whole_definition d) (index_pairs rest) e) (first_of_both (is_definition d) (is_virtual d.loc) front) d.loc refl d.index refl (second_of_both (is_definition d) (is_virtual d.loc) front) (second_of_both (is_definition d && is_virtual d.loc) (is_none d.index) w)
      by os are e = absurd (cc)
