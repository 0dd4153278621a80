-- Behind lowering of ties each instruction is in lowered form.
use Rattle.std.proofs.Common.{◌≡◌, ◌∷◌, ◌++◌, ◌∙◌, ◌&&◌, ◌+◌, not, ℕ, Bool, true, false, cond, List, Option, Some, None, map, flat_map, length, drop, refl, sym, ap, subst, []}
use Rattle.std.specs.Prelude.{is_none, slice_get}
use Rattle.std.specs.List.{list_all, list_any}
use Rattle.target_base.specs.declared.types.ClassId.{ClassId}
use Rattle.target_base.specs.declared.types.Effect.{Effect}
use Rattle.target_base.specs.declared.types.Effect.TheVariants as effects
use Rattle.target_base.specs.declared.types.IndexId.{IndexId}
use Rattle.target_base.specs.declared.types.Target.{Target}
use Rattle.target_base.specs.Rules.{is_copy, is_insert_subreg, is_phi, is_reg_sequence}
use Rattle.target_base.proofs.Tests.{first_of_both, second_of_both}
use Rattle.meaning.specs.Live.{Among, here, there}
use Rattle.mir_func.specs.declared.func.Loc.{Loc}
use Rattle.mir_func.specs.declared.func.Loc.TheVariants.{Fixed, Virtual}
use Rattle.mir_func.specs.declared.func.RegOp.{RegOp}
use Rattle.mir_func.specs.declared.func.Operand.{Operand}
use Rattle.mir_func.specs.declared.func.Operand.TheVariants as operands
use Rattle.mir_func.specs.declared.func.Op.TheVariants as ops
use Rattle.mir_func.specs.declared.func.Instr.{Instr}
use Rattle.mir_func.specs.declared.func.Block.{Block}
use Rattle.mir_func.specs.Value.{Function}
use Rattle.mir_func.specs.Binding.{does, effect_of, explicit_bound, explicit_roles, is_definition, is_lowered_away, is_virtual, numbered as with_numbers, passes, puts_together, register_at, registers}
use Rattle.mir_meaning.specs.Points.{has_no_phis}
use Rattle.mir_meaning.specs.Rules.{copy_fits, implicit_def_fits, index_pairs, insertion, is_whole_definition, result_and}
use Rattle.phi_elim.specs.Moves.{destination_of, implicit_def_op, move_of, whole_definition}
use Rattle.phi_elim.specs.Numbered.{blocks_numbered}
use Rattle.phi_elim.specs.Phis.{located_class, phis_lowered}
use Rattle.two_address.specs.Lowered.{blocks_lowered, classes_made, copy_form, form_lowered, form_of, instr_lowered, instrs_lowered, insertion_form, next_range, part_of_two, sequence_form, ties_lowered, virtual_in, virtual_loc}
use Rattle.two_address.specs.Sequences.{at_last, beginning, built, into_part, parts_of}
use Rattle.two_address.specs.Ties.{copy_lowered, retied_operand, retied_use, tied_lowered, undefined_first, with_ties}
use Rattle.two_address.specs.declared.forms.InstrLowering.TheVariants as forms
use Rattle.two_address.specs.declared.sequences.SubregInput.{SubregInput}
use Rattle.live_laws.proofs.Effects.Lists.{all-of}
use Rattle.live_laws.proofs.Touch.Roles.{has_roles, met}
use Rattle.lowering_laws.specs.Form.{is_lowered, is_undef_definition}
use Rattle.lowering_laws.specs.Laws.{LoweredForm, NoneLoweredAway}
use Rattle.lowering_laws.proofs.Blocks.{phis_are_gone}
use Rattle.lowering_laws.proofs.Eliminated.{eliminated-rules}
use Rattle.lowering_laws.proofs.Formed.{AllFormed, Formed, begun-formed, copy-formed, first-formed, formed-append, formed-flat, formed-numbered, kept-formed, last-formed, move-formed, parts-formed, undef-formed}
use Rattle.lowering_laws.proofs.FormedTies.{tied-formed}
use Rattle.lowering_laws.proofs.Operands.{known-effect}
use Rattle.lowering_laws.proofs.Placed.{undef-effect}
use Rattle.lowering_laws.proofs.Plain.{none-tied, other-form}
use Rattle.lowering_laws.proofs.Rolled.{bare-roles, undef-untied}
use Rattle.lowering_laws.proofs.Ruled.{EachRules, InstrRules, all-rules, each-rules}

not-true : (b : Bool) → not b ≡ true → b ≡ false
not-true true e = absurd (cc)
not-true false e = refl

module _ (t : Target) (cs : List (Option ClassId)) (f : Function) (i : Instr) (r : InstrRules t f i) (c : ℕ) where
  abbrev Lowers : Type 0
  Lowers = AllFormed t (form_lowered t cs c i (form_of t i))

  -- COPY and IMPLICIT_DEF

  copy-lowered-formed : (d s : RegOp) → effect_of t i ≡ Some effects.Copy → Formed t (copy_lowered i d s)
  copy-lowered-formed d s known = go s.undef refl
    where
      go : (y : Bool) → s.undef ≡ y → Formed t (cond y (record i { op = ops.Known implicit_def_op; operands = operands.Reg (destination_of d) ∷ [] }) (record i { operands = operands.Reg (record d { undef = false }) ∷ operands.Reg s ∷ [] }))
      go true e =
          let x : Instr = record i { op = ops.Known implicit_def_op; operands = operands.Reg (destination_of d) ∷ [] } in
          undef-formed t x (destination_of d) (undef-effect t x refl) refl refl
      go false e = copy-formed t (record i { operands = operands.Reg (record d { undef = false }) ∷ operands.Reg s ∷ [] }) (record d { undef = false }) s known refl refl e

  copy-form-formed : effect_of t i ≡ Some effects.Copy → Lowers
  copy-form-formed known = by i.operands refl (met t f i effects.Copy known r.one).3
    where
      by : (os : List Operand) → i.operands ≡ os → copy_fits os ≡ true → Lowers
      by (operands.Reg d ∷ operands.Reg s ∷ []) are e =
          let form : form_of t i ≡ forms.Copy d s =
          λ k. cond (passes is_copy (known k)) (copy_form (register_at (are k) 0) (register_at (are k) 1))
          (cond (does is_reg_sequence t i) (sequence_form (virtual_in (register_at i.operands 0)))
          (cond (does is_insert_subreg t i) (insertion_form (virtual_in (register_at i.operands 0)) (register_at i.operands 1) (part_of_two (slice_get i.operands 2) (slice_get i.operands 3))) forms.Other)) in
          subst (λ x. AllFormed t (form_lowered t cs c i x)) (sym form) (copy-lowered-formed d s known, tt)
      by _ are e = absurd (cc)

  undef-form-formed : effect_of t i ≡ Some effects.ImplicitDef → Lowers
  undef-form-formed known = by i.operands refl (met t f i effects.ImplicitDef known r.one).3
    where
      by : (os : List Operand) → i.operands ≡ os → implicit_def_fits os ≡ true → Lowers
      by (operands.Reg d ∷ []) are e =
          let x : Instr = record i { operands = operands.Reg (record d { undef = false }) ∷ [] } in
          let lowered : tied_lowered t cs c i ≡ x ∷ [] =
          (λ k. with_ties t cs (none-tied t i effects.ImplicitDef known c (undef-untied t i known) k) i)
          ∙ ((λ k. record i { operands = map (retied_operand t cs []) (with_numbers 0 (explicit_bound (explicit_roles (bare-roles t i effects.ImplicitDef known refl k)) (are k))) } ∷ [])
          ∙ (λ k. record i { operands = operands.Reg (cond (e k) (record d { undef = false }) (retied_use t cs [] None d)) ∷ [] } ∷ [])) in
          subst (λ y. AllFormed t (form_lowered t cs c i y)) (sym (other-form t i effects.ImplicitDef known refl refl))
          (subst (AllFormed t) (sym lowered) (undef-formed t x (record d { undef = false }) known refl refl, tt))
      by _ are e = absurd (cc)

  -- REG_SEQUENCE and INSERT_SUBREG

  sequence-formed : (v : ℕ) → AllFormed t (form_lowered t cs c i (forms.Sequence v))
  sequence-formed v =
      let ps = parts_of (drop 1 i.operands) in
      let to = built c v ps in
      let k = located_class cs (Virtual v) in
      kept-formed t i (beginning t k to ps ++ (map (into_part to) ps ++ at_last c v ps)) (formed-append t (beginning t k to ps) (map (into_part to) ps ++ at_last c v ps) (begun-formed t k to ps) (formed-append t (map (into_part to) ps) (at_last c v ps) (parts-formed t to ps) (last-formed t c v ps)))

  insertion-formed : (v : ℕ) (a : RegOp) (p : SubregInput) → AllFormed t (form_lowered t cs c i (forms.Insertion v a p))
  insertion-formed v a p =
      let to = built c v (p ∷ []) in
      kept-formed t i (move_of (whole_definition to) a ∷ into_part to p ∷ at_last c v (p ∷ [])) (move-formed t (whole_definition to) a refl, (move-formed t (record (whole_definition to) { index = Some p.index }) p.input refl, last-formed t c v (p ∷ [])))

  sequence-form-formed : effect_of t i ≡ Some effects.RegSequence → Lowers
  sequence-form-formed known = by i.operands refl (met t f i effects.RegSequence known r.one).3
    where
      at : (d : RegOp) (rest : List Operand) → i.operands ≡ operands.Reg d ∷ rest → (l : Loc) → d.loc ≡ l → is_virtual l ≡ true → Lowers
      at d rest are (Virtual v) loc e =
          let form : form_of t i ≡ forms.Sequence v =
          (λ k. cond (passes is_copy (known k)) (copy_form (register_at i.operands 0) (register_at i.operands 1))
          (cond (passes is_reg_sequence (known k)) (sequence_form (virtual_in (register_at (are k) 0)))
          (cond (does is_insert_subreg t i) (insertion_form (virtual_in (register_at i.operands 0)) (register_at i.operands 1) (part_of_two (slice_get i.operands 2) (slice_get i.operands 3))) forms.Other)))
          ∙ (λ k. sequence_form (virtual_loc (loc k))) in
          subst (λ x. AllFormed t (form_lowered t cs c i x)) (sym form) (sequence-formed v)
      at d rest are (Fixed q) loc e = absurd (cc)

      by : (os : List Operand) → i.operands ≡ os → result_and index_pairs os ≡ true → Lowers
      by (operands.Reg d ∷ rest) are e = at d rest are d.loc refl (second_of_both (is_definition d) (is_virtual d.loc) (first_of_both (is_definition d && is_virtual d.loc) (is_none d.index) (first_of_both (is_whole_definition d) (index_pairs rest) e)))
      by os are e = absurd (cc)

  insertion-form-formed : effect_of t i ≡ Some effects.InsertSubreg → Lowers
  insertion-form-formed known = by i.operands refl (met t f i effects.InsertSubreg known r.one).3
    where
      at : (d a s : RegOp) (x : IndexId) → i.operands ≡ operands.Reg d ∷ operands.Reg a ∷ operands.Reg s ∷ operands.Index x ∷ [] → (l : Loc) → d.loc ≡ l → is_virtual l ≡ true → Lowers
      at d a s x are (Virtual v) loc e =
          let p : SubregInput = record { input = s; index = x } in
          let form : form_of t i ≡ forms.Insertion v a p =
          (λ k. cond (passes is_copy (known k)) (copy_form (register_at i.operands 0) (register_at i.operands 1))
          (cond (passes is_reg_sequence (known k)) (sequence_form (virtual_in (register_at (are k) 0)))
          (cond (passes is_insert_subreg (known k)) (insertion_form (virtual_in (register_at (are k) 0)) (register_at (are k) 1) (part_of_two (slice_get (are k) 2) (slice_get (are k) 3))) forms.Other)))
          ∙ (λ k. insertion_form (virtual_loc (loc k)) (Some a) (p ∷ [])) in
          subst (λ z. AllFormed t (form_lowered t cs c i z)) (sym form) (insertion-formed v a p)
      at d a s x are (Fixed q) loc e = absurd (cc)

      rest : (d : RegOp) (os : List Operand) → i.operands ≡ operands.Reg d ∷ os → is_virtual d.loc ≡ true → insertion os ≡ true → Lowers
      rest d (operands.Reg a ∷ operands.Reg s ∷ operands.Index x ∷ []) are w e = at d a s x are d.loc refl w
      rest d os are w e = absurd (cc)

      by : (os : List Operand) → i.operands ≡ os → result_and insertion os ≡ true → Lowers
      by (operands.Reg d ∷ os) are e = rest d os are (second_of_both (is_definition d) (is_virtual d.loc) (first_of_both (is_definition d && is_virtual d.loc) (is_none d.index) (first_of_both (is_whole_definition d) (insertion os) e))) (second_of_both (is_whole_definition d) (insertion os) e)
      by os are e = absurd (cc)

  -- by its effect

  other-formed : (e : Effect) → effect_of t i ≡ Some e → is_copy e ≡ false → puts_together e ≡ false → has_roles e ≡ true → Lowers
  other-formed e known one two rolled = subst (λ x. AllFormed t (form_lowered t cs c i x)) (sym (other-form t i e known one two)) (tied-formed t f i r e known rolled cs c)

  by-effect : (e : Effect) → effect_of t i ≡ Some e → is_phi e ≡ false → Lowers
  by-effect effects.Copy q p = copy-form-formed q
  by-effect effects.ImplicitDef q p = undef-form-formed q
  by-effect effects.Phi q p = absurd (cc)
  by-effect effects.RegSequence q p = sequence-form-formed q
  by-effect effects.InsertSubreg q p = insertion-form-formed q
  by-effect e q p = other-formed e q refl refl refl

  instr-formed : does is_phi t i ≡ false → AllFormed t (instr_lowered t cs c i)
  instr-formed plain =
      let e = known-effect t f i r in
      formed-append t (flat_map undefined_first i.operands) (form_lowered t cs c i (form_of t i)) (formed-flat t undefined_first i.operands (λ o m. first-formed t o)) (by-effect e.0 e.1 (sym (ap (passes is_phi) e.1) ∙ plain))

module _ (t : Target) (f : Function) (plain : has_no_phis t f.blocks ≡ true) (rules : EachRules t f) where
  instrs-formed : (b : Block) → Among b f.blocks → (c : ℕ) (is : List Instr) → ((i : Instr) → Among i is → Among i b.instrs) → AllFormed t (instrs_lowered t f.classes c is)
  instrs-formed b mb c [] w = tt
  instrs-formed b mb c (i ∷ is) w =
      let no-phi = not-true (does is_phi t i) (all-of (λ x. not (does is_phi t x)) i b.instrs (w i here) (all-of (λ (d : Block). list_all (λ x. not (does is_phi t x)) d.instrs) b f.blocks mb plain)) in
      formed-append t (instr_lowered t f.classes c i) (instrs_lowered t f.classes (next_range t f.classes c i) is) (instr-formed t f.classes f i (rules b i mb (w i here)) c no-phi) (instrs-formed b mb (next_range t f.classes c i) is (λ x m. w x (there m)))

  blocks-formed : (n c : ℕ) (bs : List Block) → ((b : Block) → Among b bs → Among b f.blocks) → list_all (λ (b : Block). list_all (is_lowered t) b.instrs) (blocks_numbered n (blocks_lowered t f.classes c bs)) ≡ true
  blocks-formed n c [] w = refl
  blocks-formed n c (b ∷ bs) w =
      let L = instrs_lowered t f.classes c b.instrs in
      λ k. formed-numbered t n L (instrs-formed b (w b here) c b.instrs (λ i m. m)) k && blocks-formed (n + length L) (c + length (classes_made t f.classes c b.instrs)) bs (λ x m. w x (there m)) k

  all-formed : list_all (λ (b : Block). list_all (is_lowered t) b.instrs) (ties_lowered t f).blocks ≡ true
  unfolding ties_lowered
  all-formed = blocks-formed 0 (length f.classes) f.blocks (λ b m. m)

-- so none is lowered away

weaker : {X : Type 0} (p q : X → Bool) (xs : List X) → ((x : X) → p x ≡ true → q x ≡ true) → list_all p xs ≡ true → list_all q xs ≡ true
weaker p q [] h e = refl
weaker p q (x ∷ xs) h e = λ k. h x (first_of_both (p x) (list_all p xs) e) k && weaker p q xs h (second_of_both (p x) (list_all p xs) e) k

pub kept : (t : Target) (i : Instr) → is_lowered t i ≡ true → not (does is_lowered_away t i) ≡ true
kept t i e = first_of_both (not (does is_lowered_away t i)) (not (list_any is_undef_definition (registers i.operands))) (first_of_both _ _ (first_of_both _ _ e))

pub none_lowered_away : NoneLoweredAway
none_lowered_away t f shape plain =
    weaker (λ (b : Block). list_all (is_lowered t) b.instrs) (λ (b : Block). list_all (λ i. not (does is_lowered_away t i)) b.instrs) (ties_lowered t f).blocks
    (λ b. weaker (is_lowered t) (λ i. not (does is_lowered_away t i)) b.instrs (kept t)) (all-formed t f plain (each-rules t f (all-rules t f shape)))

pub lowered_form : LoweredForm
lowered_form t f valid = all-formed t (phis_lowered t f) (phis_are_gone t f) (eliminated-rules t f (each-rules t f (all-rules t f valid.shape)))
