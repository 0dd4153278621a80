-- No instruction of a valid source behind lowering names a range in `undef` uses alone.
use Rattle.std.proofs.Common.{◌≡◌, ◌∷◌, ◌++◌, ◌∙◌, ◌&&◌, ◌+◌, not, ℕ, Bool, true, false, cond, List, Option, Some, None, map, flat_map, length, drop, refl, sym, ap, subst, []}
use Rattle.std.specs.Prelude.{is_none, slice_get}
use Rattle.std.specs.List.{list_all}
use Rattle.target_base.specs.declared.types.ClassId.{ClassId}
use Rattle.target_base.specs.declared.types.Effect.{Effect}
use Rattle.target_base.specs.declared.types.Effect.TheVariants as effects
use Rattle.target_base.specs.declared.types.IndexId.{IndexId}
use Rattle.target_base.specs.declared.types.Target.{Target}
use Rattle.target_base.specs.Rules.{is_copy, is_insert_subreg, is_phi, is_reg_sequence}
use Rattle.target_base.proofs.Tests.{first_of_both, second_of_both}
use Rattle.meaning.specs.Live.{Among, here, there}
use Rattle.mir_func.specs.declared.func.Loc.{Loc}
use Rattle.mir_func.specs.declared.func.Loc.TheVariants.{Fixed, Virtual}
use Rattle.mir_func.specs.declared.func.RegOp.{RegOp}
use Rattle.mir_func.specs.declared.func.Operand.{Operand}
use Rattle.mir_func.specs.declared.func.Operand.TheVariants as operands
use Rattle.mir_func.specs.declared.func.Op.TheVariants as ops
use Rattle.mir_func.specs.declared.func.Instr.{Instr}
use Rattle.mir_func.specs.declared.func.Block.{Block}
use Rattle.mir_func.specs.Value.{Function}
use Rattle.mir_func.specs.Binding.{does, effect_of, explicit_bound, explicit_roles, is_definition, is_virtual, numbered as with_numbers, passes, puts_together, register_at}
use Rattle.mir_meaning.specs.Points.{has_no_phis}
use Rattle.mir_meaning.specs.Rules.{copy_fits, implicit_def_fits, index_pairs, insertion, is_whole_definition, result_and}
use Rattle.phi_elim.specs.Moves.{copy_of, destination_of, implicit_def_op, move_of, undefining, whole_definition, whole_use}
use Rattle.phi_elim.specs.Numbered.{blocks_numbered, numbered}
use Rattle.phi_elim.specs.Phis.{located_class, phis_lowered}
use Rattle.two_address.specs.Lowered.{blocks_lowered, classes_made, copy_form, form_lowered, form_of, instr_lowered, instrs_lowered, insertion_form, next_range, part_of_two, sequence_form, ties_lowered, virtual_in, virtual_loc}
use Rattle.two_address.specs.Sequences.{at_last, beginning, built, fill_all, into_part, is_input, keeping_text, parts_of}
use Rattle.two_address.specs.Ties.{copy_lowered, retied_operand, retied_use, tied_lowered, undefined_first, undefined_whole, with_ties}
use Rattle.two_address.specs.declared.forms.InstrLowering.TheVariants as forms
use Rattle.two_address.specs.declared.sequences.SubregInput.{SubregInput}
use Rattle.instr_effects.proofs.Members.{member-elim, member-none}
use Rattle.live_laws.proofs.Effects.Lists.{all-of}
use Rattle.live_laws.proofs.Touch.Roles.{has_roles, met}
use Rattle.live_laws.specs.Effects.Shaped.{AreClasses}
use Rattle.lowering_laws.specs.Named.{LoweredTouchesNamed, TouchesItsRanges}
use Rattle.lowering_laws.proofs.Blocks.{phis_are_gone}
use Rattle.lowering_laws.proofs.Eliminated.{eliminated-classes, eliminated-rules}
use Rattle.lowering_laws.proofs.NamedTies.{AllTouch, copy-counted, move-counted, next-touch, none-touch, one-counted, or-true, plain-counts, tied-touches, touch-append, touch-flat, two-counted, undefining-counted}
use Rattle.lowering_laws.proofs.Operands.{known-effect}
use Rattle.lowering_laws.proofs.Plain.{none-tied, other-form}
use Rattle.lowering_laws.proofs.Rolled.{bare-roles, undef-untied}
use Rattle.lowering_laws.proofs.Ruled.{EachRules, InstrRules, all-rules, each-rules}

not-true : (b : Bool) → not b ≡ true → b ≡ false
not-true true e = absurd (cc)
not-true false e = refl

-- before an `undef` definition

whole-touch : (l : Loc) → AllTouch (undefined_whole l)
whole-touch (Virtual v) = next-touch (undefining (whole_definition v)) [] (undefining-counted (whole_definition v) refl) none-touch
whole-touch (Fixed r) = none-touch

first-touch : (o : Operand) → AllTouch (undefined_first o)
first-touch (operands.Reg p) = go (is_definition p && p.undef)
  where
    go : (y : Bool) → AllTouch (cond y (undefined_whole p.loc) [])
    go true = whole-touch p.loc
    go false = none-touch
first-touch o = none-touch

-- copies of parts

parts-touch : (to : ℕ) (ps : List SubregInput) → AllTouch (map (into_part to) ps)
parts-touch to [] = none-touch
parts-touch to (p ∷ ps) = next-touch (into_part to p) (map (into_part to) ps) (move-counted (record (whole_definition to) { index = Some p.index }) p.input refl) (parts-touch to ps)

last-touch : (c v : ℕ) (ps : List SubregInput) → AllTouch (at_last c v ps)
last-touch c v ps = go (is_input (Virtual v) ps)
  where
    go : (y : Bool) → AllTouch (cond y (copy_of (whole_definition v) (whole_use c) ∷ []) [])
    go true = next-touch (copy_of (whole_definition v) (whole_use c)) [] (copy-counted (whole_definition v) (whole_use c) refl refl) none-touch
    go false = none-touch

begun-touch : (t : Target) (k : Option ClassId) (to : ℕ) (ps : List SubregInput) → AllTouch (beginning t k to ps)
begun-touch t k to ps = go (fill_all t k ps)
  where
    go : (y : Bool) → AllTouch (cond y [] (undefining (whole_definition to) ∷ []))
    go true = none-touch
    go false = next-touch (undefining (whole_definition to)) [] (undefining-counted (whole_definition to) refl) none-touch

kept-touch : (i : Instr) (xs : List Instr) → AllTouch xs → AllTouch (keeping_text i xs)
kept-touch i [] h = h
kept-touch i (x ∷ xs) h = next-touch (record x { flags = i.flags; tail = i.tail }) xs (h x here) (λ y m. h y (there m))

module _ (t : Target) (f : Function) (classes : AreClasses t f) (i : Instr) (r : InstrRules t f i) (c : ℕ) where
  abbrev Lowers : Type 0
  Lowers = AllTouch (form_lowered t f.classes c i (form_of t i))

  -- COPY and IMPLICIT_DEF

  copy-touches : (d s : RegOp) → TouchesItsRanges (copy_lowered i d s)
  copy-touches d s = go s.undef refl
    where
      go : (y : Bool) → s.undef ≡ y → TouchesItsRanges (cond y (record i { op = ops.Known implicit_def_op; operands = operands.Reg (destination_of d) ∷ [] }) (record i { operands = operands.Reg (record d { undef = false }) ∷ operands.Reg s ∷ [] }))
      go true e = one-counted (record i { op = ops.Known implicit_def_op; operands = operands.Reg (destination_of d) ∷ [] }) (destination_of d) refl refl
      go false e = two-counted (record i { operands = operands.Reg (record d { undef = false }) ∷ operands.Reg s ∷ [] }) (record d { undef = false }) s refl (or-true d.def) (plain-counts s e)

  copy-form-touches : effect_of t i ≡ Some effects.Copy → Lowers
  copy-form-touches known = by i.operands refl (met t f i effects.Copy known r.one).3
    where
      by : (os : List Operand) → i.operands ≡ os → copy_fits os ≡ true → Lowers
      by (operands.Reg d ∷ operands.Reg s ∷ []) are e =
          let form : form_of t i ≡ forms.Copy d s =
          λ k. cond (passes is_copy (known k)) (copy_form (register_at (are k) 0) (register_at (are k) 1))
          (cond (does is_reg_sequence t i) (sequence_form (virtual_in (register_at i.operands 0)))
          (cond (does is_insert_subreg t i) (insertion_form (virtual_in (register_at i.operands 0)) (register_at i.operands 1) (part_of_two (slice_get i.operands 2) (slice_get i.operands 3))) forms.Other)) in
          subst (λ x. AllTouch (form_lowered t f.classes c i x)) (sym form) (next-touch (copy_lowered i d s) [] (copy-touches d s) none-touch)
      by _ are e = absurd (cc)

  undef-form-touches : effect_of t i ≡ Some effects.ImplicitDef → Lowers
  undef-form-touches known = by i.operands refl (met t f i effects.ImplicitDef known r.one).3
    where
      by : (os : List Operand) → i.operands ≡ os → implicit_def_fits os ≡ true → Lowers
      by (operands.Reg d ∷ []) are e =
          let x : Instr = record i { operands = operands.Reg (record d { undef = false }) ∷ [] } in
          let lowered : tied_lowered t f.classes c i ≡ x ∷ [] =
          (λ k. with_ties t f.classes (none-tied t i effects.ImplicitDef known c (undef-untied t i known) k) i)
          ∙ ((λ k. record i { operands = map (retied_operand t f.classes []) (with_numbers 0 (explicit_bound (explicit_roles (bare-roles t i effects.ImplicitDef known refl k)) (are k))) } ∷ [])
          ∙ (λ k. record i { operands = operands.Reg (cond (e k) (record d { undef = false }) (retied_use t f.classes [] None d)) ∷ [] } ∷ [])) in
          subst (λ y. AllTouch (form_lowered t f.classes c i y)) (sym (other-form t i effects.ImplicitDef known refl refl))
          (subst AllTouch (sym lowered) (next-touch x [] (one-counted x (record d { undef = false }) refl (or-true d.def)) none-touch))
      by _ are e = absurd (cc)

  -- REG_SEQUENCE and INSERT_SUBREG

  sequence-touches : (v : ℕ) → AllTouch (form_lowered t f.classes c i (forms.Sequence v))
  sequence-touches v =
      let ps = parts_of (drop 1 i.operands) in
      let to = built c v ps in
      let k = located_class f.classes (Virtual v) in
      kept-touch i (beginning t k to ps ++ (map (into_part to) ps ++ at_last c v ps)) (touch-append (beginning t k to ps) (map (into_part to) ps ++ at_last c v ps) (begun-touch t k to ps) (touch-append (map (into_part to) ps) (at_last c v ps) (parts-touch to ps) (last-touch c v ps)))

  insertion-touches : (v : ℕ) (a : RegOp) (p : SubregInput) → AllTouch (form_lowered t f.classes c i (forms.Insertion v a p))
  insertion-touches v a p =
      let to = built c v (p ∷ []) in
      kept-touch i (move_of (whole_definition to) a ∷ into_part to p ∷ at_last c v (p ∷ []))
      (next-touch (move_of (whole_definition to) a) (into_part to p ∷ at_last c v (p ∷ [])) (move-counted (whole_definition to) a refl)
      (next-touch (into_part to p) (at_last c v (p ∷ [])) (move-counted (record (whole_definition to) { index = Some p.index }) p.input refl) (last-touch c v (p ∷ []))))

  sequence-form-touches : effect_of t i ≡ Some effects.RegSequence → Lowers
  sequence-form-touches known = by i.operands refl (met t f i effects.RegSequence known r.one).3
    where
      at : (d : RegOp) (rest : List Operand) → i.operands ≡ operands.Reg d ∷ rest → (l : Loc) → d.loc ≡ l → is_virtual l ≡ true → Lowers
      at d rest are (Virtual v) loc e =
          let form : form_of t i ≡ forms.Sequence v =
          (λ k. cond (passes is_copy (known k)) (copy_form (register_at i.operands 0) (register_at i.operands 1))
          (cond (passes is_reg_sequence (known k)) (sequence_form (virtual_in (register_at (are k) 0)))
          (cond (does is_insert_subreg t i) (insertion_form (virtual_in (register_at i.operands 0)) (register_at i.operands 1) (part_of_two (slice_get i.operands 2) (slice_get i.operands 3))) forms.Other)))
          ∙ (λ k. sequence_form (virtual_loc (loc k))) in
          subst (λ x. AllTouch (form_lowered t f.classes c i x)) (sym form) (sequence-touches v)
      at d rest are (Fixed q) loc e = absurd (cc)

      by : (os : List Operand) → i.operands ≡ os → result_and index_pairs os ≡ true → Lowers
      by (operands.Reg d ∷ rest) are e = at d rest are d.loc refl (second_of_both (is_definition d) (is_virtual d.loc) (first_of_both (is_definition d && is_virtual d.loc) (is_none d.index) (first_of_both (is_whole_definition d) (index_pairs rest) e)))
      by os are e = absurd (cc)

  insertion-form-touches : effect_of t i ≡ Some effects.InsertSubreg → Lowers
  insertion-form-touches known = by i.operands refl (met t f i effects.InsertSubreg known r.one).3
    where
      at : (d a s : RegOp) (x : IndexId) → i.operands ≡ operands.Reg d ∷ operands.Reg a ∷ operands.Reg s ∷ operands.Index x ∷ [] → (l : Loc) → d.loc ≡ l → is_virtual l ≡ true → Lowers
      at d a s x are (Virtual v) loc e =
          let p : SubregInput = record { input = s; index = x } in
          let form : form_of t i ≡ forms.Insertion v a p =
          (λ k. cond (passes is_copy (known k)) (copy_form (register_at i.operands 0) (register_at i.operands 1))
          (cond (passes is_reg_sequence (known k)) (sequence_form (virtual_in (register_at (are k) 0)))
          (cond (passes is_insert_subreg (known k)) (insertion_form (virtual_in (register_at (are k) 0)) (register_at (are k) 1) (part_of_two (slice_get (are k) 2) (slice_get (are k) 3))) forms.Other)))
          ∙ (λ k. insertion_form (virtual_loc (loc k)) (Some a) (p ∷ [])) in
          subst (λ z. AllTouch (form_lowered t f.classes c i z)) (sym form) (insertion-touches v a p)
      at d a s x are (Fixed q) loc e = absurd (cc)

      rest : (d : RegOp) (os : List Operand) → i.operands ≡ operands.Reg d ∷ os → is_virtual d.loc ≡ true → insertion os ≡ true → Lowers
      rest d (operands.Reg a ∷ operands.Reg s ∷ operands.Index x ∷ []) are w e = at d a s x are d.loc refl w
      rest d os are w e = absurd (cc)

      by : (os : List Operand) → i.operands ≡ os → result_and insertion os ≡ true → Lowers
      by (operands.Reg d ∷ os) are e = rest d os are (second_of_both (is_definition d) (is_virtual d.loc) (first_of_both (is_definition d && is_virtual d.loc) (is_none d.index) (first_of_both (is_whole_definition d) (insertion os) e))) (second_of_both (is_whole_definition d) (insertion os) e)
      by os are e = absurd (cc)

  -- by its effect

  other-touches : (e : Effect) → effect_of t i ≡ Some e → is_copy e ≡ false → puts_together e ≡ false → has_roles e ≡ true → Lowers
  other-touches e known one two rolled = subst (λ x. AllTouch (form_lowered t f.classes c i x)) (sym (other-form t i e known one two)) (tied-touches t f classes i r e known rolled c)

  by-effect : (e : Effect) → effect_of t i ≡ Some e → is_phi e ≡ false → Lowers
  by-effect effects.Copy q p = copy-form-touches q
  by-effect effects.ImplicitDef q p = undef-form-touches q
  by-effect effects.Phi q p = absurd (cc)
  by-effect effects.RegSequence q p = sequence-form-touches q
  by-effect effects.InsertSubreg q p = insertion-form-touches q
  by-effect e q p = other-touches e q refl refl refl

  instr-touches : does is_phi t i ≡ false → AllTouch (instr_lowered t f.classes c i)
  instr-touches plain =
      let e = known-effect t f i r in
      touch-append (flat_map undefined_first i.operands) (form_lowered t f.classes c i (form_of t i)) (touch-flat undefined_first i.operands (λ o m. first-touch o)) (by-effect e.0 e.1 (sym (ap (passes is_phi) e.1) ∙ plain))

numbered-touch : (n : ℕ) (is : List Instr) → AllTouch is → AllTouch (numbered n is)
numbered-touch n [] h = h
numbered-touch n (i ∷ is) h = next-touch (record i { id = n }) (numbered (n + 1) is) (h i here) (numbered-touch (n + 1) is (λ x m. h x (there m)))

module _ (t : Target) (f : Function) (plain : has_no_phis t f.blocks ≡ true) (classes : AreClasses t f) (rules : EachRules t f) where
  instrs-touch : (b : Block) → Among b f.blocks → (c : ℕ) (is : List Instr) → ((i : Instr) → Among i is → Among i b.instrs) → AllTouch (instrs_lowered t f.classes c is)
  instrs-touch b mb c [] w = none-touch
  instrs-touch b mb c (i ∷ is) w =
      let no-phi = not-true (does is_phi t i) (all-of (λ x. not (does is_phi t x)) i b.instrs (w i here) (all-of (λ (d : Block). list_all (λ x. not (does is_phi t x)) d.instrs) b f.blocks mb plain)) in
      touch-append (instr_lowered t f.classes c i) (instrs_lowered t f.classes (next_range t f.classes c i) is) (instr-touches t f classes i (rules b i mb (w i here)) c no-phi) (instrs-touch b mb (next_range t f.classes c i) is (λ x m. w x (there m)))

  blocks-touch : (n c : ℕ) (bs : List Block) → ((b : Block) → Among b bs → Among b f.blocks) → (d : Block) → Among d (blocks_numbered n (blocks_lowered t f.classes c bs)) → AllTouch d.instrs
  blocks-touch n c [] w d m = absurd (member-none d m)
  blocks-touch n c (b ∷ bs) w d m =
      let L = instrs_lowered t f.classes c b.instrs in
      let rest = blocks_numbered (n + length L) (blocks_lowered t f.classes (c + length (classes_made t f.classes c b.instrs)) bs) in
      member-elim d (record b { instrs = numbered n L }) rest
      (λ e. subst (λ (x : Block). AllTouch x.instrs) (sym e) (numbered-touch n L (instrs-touch b (w b here) c b.instrs (λ i k. k))))
      (λ k. blocks-touch (n + length L) (c + length (classes_made t f.classes c b.instrs)) bs (λ x j. w x (there j)) d k) m

  all-touch : (d : Block) → Among d (ties_lowered t f).blocks → AllTouch d.instrs
  unfolding ties_lowered
  all-touch d m = blocks-touch 0 (length f.classes) f.blocks (λ b k. k) d m

pub lowered_touches_named : LoweredTouchesNamed
lowered_touches_named t f valid classes b i mb mi =
    all-touch t (phis_lowered t f) (phis_are_gone t f) (eliminated-classes t f classes) (eliminated-rules t f (each-rules t f (all-rules t f valid.shape))) b mb i mi
