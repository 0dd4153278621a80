-- Behind lowering of ties each instruction can be spelled.
use Rattle.std.proofs.Common.{◌≡◌, ◌∷◌, ◌++◌, ◌+◌, ◌<◌, ◌&&◌, ◌||◌, not, ℕ, Bool, true, false, cond, List, Option, Some, None, drop, flat_map, map, length, refl, sym, subst, arith, []}
use Rattle.std.specs.Prelude.{option_and_then, slice_get}
use Rattle.std.specs.List.{list_any}
use Rattle.target_base.specs.Registers.{IsIndex}
use Rattle.target_base.specs.Rules.{is_copy, is_insert_subreg, is_reg_sequence}
use Rattle.target_base.specs.declared.types.ClassId.{ClassId}
use Rattle.target_base.specs.declared.types.Target.{Target}
use Rattle.meaning.specs.Live.{Among, here, there}
use Rattle.mir_func.specs.declared.func.Loc.{Loc}
use Rattle.mir_func.specs.declared.func.Loc.TheVariants.{Fixed, Virtual}
use Rattle.mir_func.specs.declared.func.Op.TheVariants as ops
use Rattle.mir_func.specs.declared.func.RegOp.{RegOp}
use Rattle.mir_func.specs.declared.func.Operand.{Operand}
use Rattle.mir_func.specs.declared.func.Operand.TheVariants as operands
use Rattle.mir_func.specs.declared.func.Instr.{Instr}
use Rattle.mir_func.specs.declared.func.Block.{Block}
use Rattle.mir_func.specs.Binding.{as_register, does, is_definition, register_at}
use Rattle.mir_text.specs.Print.{is_explicit_def}
use Rattle.phi_elim.specs.Moves.{copy_of, destination_of, implicit_def_op, move_of, undefining, whole_definition, whole_use}
use Rattle.phi_elim.specs.Numbered.{blocks_numbered, numbered}
use Rattle.phi_elim.specs.Phis.{located_class}
use Rattle.two_address.specs.Lowered.{blocks_lowered, classes_made, copy_form, form_lowered, form_of, instr_lowered, instrs_lowered, insertion_form, next_range, part_of_two, sequence_form, virtual_in}
use Rattle.two_address.specs.Sequences.{at_last, beginning, built, fill_all, into_part, is_input, keeping_text, part, parts_of}
use Rattle.two_address.specs.Ties.{copy_lowered, undefined_first, undefined_whole}
use Rattle.two_address.specs.declared.forms.InstrLowering.{InstrLowering}
use Rattle.two_address.specs.declared.forms.InstrLowering.TheVariants as forms
use Rattle.two_address.specs.declared.sequences.SubregInput.{SubregInput}
use Rattle.instr_effects.proofs.Members.{either-elim, member-elim, member-none}
use Rattle.live_laws.proofs.Effects.Blocks.{slice-member}
use Rattle.writable_laws.specs.Writable.{definitions_first}
use Rattle.writable_laws.proofs.Fitting.{OperandsFit, InstrsFit, InstrFits, BlockFits, OperandFits, RegisterFits, append-each, block-with, copy-fits, flat-each, move-fits, next-each, none-each, numbered-each, one-first, one-fits, two-fits, undef-known, undefining-fits}
use Rattle.writable_laws.proofs.PhisFit.{in-drop}
use Rattle.writable_laws.proofs.TiesFit.{tied-fits}

module _ (t : Target) where
  -- before an `undef` definition

  whole-fits : (l : Loc) → InstrsFit t (undefined_whole l)
  whole-fits (Virtual v) = next-each t (undefining (whole_definition v)) [] (undefining-fits t (whole_definition v) tt) (none-each t)
  whole-fits (Fixed r) = none-each t

  first-fits : (o : Operand) → InstrsFit t (undefined_first o)
  first-fits (operands.Reg p) = go (is_definition p && p.undef)
    where
      go : (y : Bool) → InstrsFit t (cond y (undefined_whole p.loc) [])
      go true = whole-fits p.loc
      go false = none-each t
  first-fits o = none-each t

  -- parts of REG_SEQUENCE and INSERT_SUBREG

  abbrev RegOpFits : RegOp → Type 0
  RegOpFits o = RegisterFits t o.loc o.index

  abbrev PartFits : SubregInput → Type 0
  PartFits p = RegOpFits p.input × IsIndex t p.index

  abbrev PartsFit : List SubregInput → Type 0
  PartsFit ps = (p : SubregInput) → Among p ps → PartFits p

  no-parts : PartsFit []
  no-parts p m = absurd (member-none p m)

  part-fits : (a b : Operand) → OperandFits t a → OperandFits t b → PartsFit (part a b)
  part-fits (operands.Reg o) (operands.Index x) h g = λ p m. member-elim p (record { input = o; index = x }) [] (λ e. subst PartFits (sym e) (h, g)) (λ k. absurd (member-none p k)) m
  part-fits a b h g = no-parts

  parts-fits : (os : List Operand) → OperandsFit t os → PartsFit (parts_of os)
  parts-fits [] h = no-parts
  parts-fits (a ∷ []) h = no-parts
  parts-fits (a ∷ b ∷ os) h = λ p m. either-elim p (part a b) (parts_of os) (λ k. part-fits a b (h a here) (h b (there here)) p k) (λ k. parts-fits os (λ o j. h o (there (there j))) p k) m

  moves-fits : (to : ℕ) (ps : List SubregInput) → PartsFit ps → InstrsFit t (map (into_part to) ps)
  moves-fits to [] h = none-each t
  moves-fits to (p ∷ ps) h = next-each t (into_part to p) (map (into_part to) ps) (move-fits t (record (whole_definition to) { index = Some p.index }) p.input (h p here).1 (h p here).0) (moves-fits to ps (λ q m. h q (there m)))

  last-fits : (c v : ℕ) (ps : List SubregInput) → InstrsFit t (at_last c v ps)
  last-fits c v ps = go (is_input (Virtual v) ps)
    where
      go : (y : Bool) → InstrsFit t (cond y (copy_of (whole_definition v) (whole_use c) ∷ []) [])
      go true = next-each t (copy_of (whole_definition v) (whole_use c)) [] (copy-fits t (whole_definition v) (whole_use c) tt tt refl) (none-each t)
      go false = none-each t

  begun-fits : (k : Option ClassId) (to : ℕ) (ps : List SubregInput) → InstrsFit t (beginning t k to ps)
  begun-fits k to ps = go (fill_all t k ps)
    where
      go : (y : Bool) → InstrsFit t (cond y [] (undefining (whole_definition to) ∷ []))
      go true = none-each t
      go false = next-each t (undefining (whole_definition to)) [] (undefining-fits t (whole_definition to) tt) (none-each t)

  kept-fits : (i : Instr) → InstrFits t i → (xs : List Instr) → InstrsFit t xs → InstrsFit t (keeping_text i xs)
  kept-fits i z [] h = h
  kept-fits i z (x ∷ xs) h =
      let w = h x here in
      next-each t (record x { flags = i.flags; tail = i.tail }) xs (record { opcode = w.opcode; flags = z.flags; order = w.order; operands = w.operands; tail = z.tail }) (λ y m. h y (there m))

  -- what an instruction is rewritten as

  abbrev FormFits : InstrLowering → Type 0
  FormFits (forms.Copy d s) = RegOpFits d × RegOpFits s × (definitions_first (operands.Reg d ∷ operands.Reg s ∷ []) ≡ true)
  FormFits (forms.Sequence v) = Unit {0}
  FormFits (forms.Insertion v a p) = RegOpFits a × PartFits p
  FormFits forms.Other = Unit {0}

  two-first : (o p : Operand) (os : List Operand) → definitions_first (o ∷ p ∷ os) ≡ true → definitions_first (o ∷ p ∷ []) ≡ true
  two-first o p os = go (is_explicit_def o)
    where
      fewer : (a b : Bool) → not (a || b) ≡ true → not (a || false) ≡ true
      fewer true b e = absurd (cc)
      fewer false b e = refl

      go : (a : Bool) → cond a (definitions_first (p ∷ os)) (not (list_any is_explicit_def (p ∷ os))) ≡ true → cond a (definitions_first (p ∷ [])) (not (list_any is_explicit_def (p ∷ []))) ≡ true
      go true e = one-first p
      go false e = fewer (is_explicit_def p) (list_any is_explicit_def os) e

  copy-form-fits : (os : List Operand) → OperandsFit t os → definitions_first os ≡ true → FormFits (copy_form (register_at os 0) (register_at os 1))
  copy-form-fits (operands.Reg d ∷ operands.Reg s ∷ os) h e = (h (operands.Reg d) here, h (operands.Reg s) (there here), two-first (operands.Reg d) (operands.Reg s) os e)
  copy-form-fits os h e = tt

  sequence-form-fits : (q : Option ℕ) → FormFits (sequence_form q)
  sequence-form-fits None = tt
  sequence-form-fits (Some v) = tt

  abbrev OptionalFits : Option RegOp → Type 0
  OptionalFits None = Unit {0}
  OptionalFits (Some o) = RegOpFits o

  register-fits : (os : List Operand) → OperandsFit t os → (k : ℕ) → OptionalFits (register_at os k)
  register-fits os h k = go (slice_get os k) refl
    where
      one : (o : Operand) → OperandFits t o → OptionalFits (as_register o)
      one (operands.Reg o) g = g
      one o g = tt

      go : (q : Option Operand) → slice_get os k ≡ q → OptionalFits (option_and_then as_register q)
      go None e = tt
      go (Some o) e = one o (h o (slice-member os k o e))

  two-parts : (os : List Operand) → OperandsFit t os → (j k : ℕ) → PartsFit (part_of_two (slice_get os j) (slice_get os k))
  two-parts os h j k = go (slice_get os j) (slice_get os k) refl refl
    where
      go : (p q : Option Operand) → slice_get os j ≡ p → slice_get os k ≡ q → PartsFit (part_of_two p q)
      go (Some a) (Some b) e g = part-fits a b (h a (slice-member os j a e)) (h b (slice-member os k b g))
      go (Some a) None e g = no-parts
      go None q e g = no-parts

  insertion-form-fits : (q : Option ℕ) (a : Option RegOp) (ps : List SubregInput) → OptionalFits a → PartsFit ps → FormFits (insertion_form q a ps)
  insertion-form-fits (Some v) (Some a) (p ∷ []) h g = (h, g p here)
  insertion-form-fits q a ps h g = tt

  form-fits : (i : Instr) → InstrFits t i → FormFits (form_of t i)
  form-fits i h = copy (does is_copy t i)
    where
      os : List Operand
      os = i.operands

      put : (y : Bool) → FormFits (cond y (insertion_form (virtual_in (register_at i.operands 0)) (register_at i.operands 1) (part_of_two (slice_get i.operands 2) (slice_get i.operands 3))) forms.Other)
      put true = insertion-form-fits (virtual_in (register_at i.operands 0)) (register_at i.operands 1) (part_of_two (slice_get i.operands 2) (slice_get i.operands 3)) (register-fits i.operands h.operands 1) (two-parts i.operands h.operands 2 3)
      put false = tt

      sequence : (y : Bool) → FormFits (cond y (sequence_form (virtual_in (register_at i.operands 0))) (cond (does is_insert_subreg t i) (insertion_form (virtual_in (register_at i.operands 0)) (register_at i.operands 1) (part_of_two (slice_get i.operands 2) (slice_get i.operands 3))) forms.Other))
      sequence true = sequence-form-fits (virtual_in (register_at i.operands 0))
      sequence false = put (does is_insert_subreg t i)

      copy : (y : Bool) → FormFits (cond y (copy_form (register_at i.operands 0) (register_at i.operands 1)) (cond (does is_reg_sequence t i) (sequence_form (virtual_in (register_at i.operands 0))) (cond (does is_insert_subreg t i) (insertion_form (virtual_in (register_at i.operands 0)) (register_at i.operands 1) (part_of_two (slice_get i.operands 2) (slice_get i.operands 3))) forms.Other)))
      copy true = copy-form-fits i.operands h.operands h.order
      copy false = sequence (does is_reg_sequence t i)

  copied-fits : (i : Instr) (d s : RegOp) → InstrFits t i → RegOpFits d → RegOpFits s → definitions_first (operands.Reg d ∷ operands.Reg s ∷ []) ≡ true → InstrFits t (copy_lowered i d s)
  copied-fits i d s z h g e = go s.undef
    where
      go : (y : Bool) → InstrFits t (cond y (record i { op = ops.Known implicit_def_op; operands = operands.Reg (destination_of d) ∷ [] }) (record i { operands = operands.Reg (record d { undef = false }) ∷ operands.Reg s ∷ [] }))
      go true = record { opcode = undef-known t; flags = z.flags; order = one-first (operands.Reg (destination_of d)); operands = one-fits t (operands.Reg (destination_of d)) h; tail = z.tail }
      go false = record { opcode = z.opcode; flags = z.flags; order = e; operands = two-fits t (operands.Reg (record d { undef = false })) (operands.Reg s) h g; tail = z.tail }

  lowered-fits : (cs : List (Option ClassId)) (c : ℕ) (i : Instr) → InstrFits t i → (x : InstrLowering) → FormFits x → InstrsFit t (form_lowered t cs c i x)
  lowered-fits cs c i z (forms.Copy d s) h = next-each t (copy_lowered i d s) [] (copied-fits i d s z h.0 h.1 h.2) (none-each t)
  lowered-fits cs c i z (forms.Sequence v) h =
      let ps = parts_of (drop 1 i.operands) in
      let to = built c v ps in
      let k = located_class cs (Virtual v) in
      kept-fits i z (beginning t k to ps ++ (map (into_part to) ps ++ at_last c v ps))
      (append-each t (beginning t k to ps) (map (into_part to) ps ++ at_last c v ps) (begun-fits k to ps) (append-each t (map (into_part to) ps) (at_last c v ps) (moves-fits to ps (parts-fits (drop 1 i.operands) (λ o m. z.operands o (in-drop 1 i.operands o m)))) (last-fits c v ps)))
  lowered-fits cs c i z (forms.Insertion v a p) h =
      let to = built c v (p ∷ []) in
      kept-fits i z (move_of (whole_definition to) a ∷ into_part to p ∷ at_last c v (p ∷ []))
      (next-each t (move_of (whole_definition to) a) (into_part to p ∷ at_last c v (p ∷ [])) (move-fits t (whole_definition to) a tt h.0)
      (next-each t (into_part to p) (at_last c v (p ∷ [])) (move-fits t (record (whole_definition to) { index = Some p.index }) p.input h.1.1 h.1.0) (last-fits c v (p ∷ []))))
  lowered-fits cs c i z forms.Other h = tied-fits t cs c i z

  instr-fits : (cs : List (Option ClassId)) (c : ℕ) (i : Instr) → InstrFits t i → InstrsFit t (instr_lowered t cs c i)
  instr-fits cs c i z = append-each t (flat_map undefined_first i.operands) (form_lowered t cs c i (form_of t i)) (flat-each t undefined_first i.operands (λ o m. first-fits o)) (lowered-fits cs c i z (form_of t i) (form-fits i z))

  instrs-fits : (cs : List (Option ClassId)) (c : ℕ) (is : List Instr) → InstrsFit t is → InstrsFit t (instrs_lowered t cs c is)
  instrs-fits cs c [] h = none-each t
  instrs-fits cs c (i ∷ is) h = append-each t (instr_lowered t cs c i) (instrs_lowered t cs (next_range t cs c i) is) (instr-fits cs c i (h i here)) (instrs-fits cs (next_range t cs c i) is (λ x m. h x (there m)))

  pub tied-blocks-fits : (cs : List (Option ClassId)) (n c : ℕ) (bs : List Block) → ((b : Block) → Among b bs → BlockFits t b) → (d : Block) → Among d (blocks_numbered n (blocks_lowered t cs c bs)) → BlockFits t d
  tied-blocks-fits cs n c [] w d m = absurd (member-none d m)
  tied-blocks-fits cs n c (b ∷ bs) w d m =
      let L = instrs_lowered t cs c b.instrs in
      let z = w b here in
      let c' = c + length (classes_made t cs c b.instrs) in
      member-elim d (record b { instrs = numbered n L }) (blocks_numbered (n + length L) (blocks_lowered t cs c' bs))
      (λ e. subst (BlockFits t) (sym e) (block-with t b (numbered n L) z.header (numbered-each t n L (instrs-fits cs c b.instrs z.instrs))))
      (λ k. tied-blocks-fits cs (n + length L) c' bs (λ x q. w x (there q)) d k) m

  pub tied-begun : (cs : List (Option ClassId)) (n c : ℕ) (bs : List Block) → 0 < length bs → 0 < length (blocks_numbered n (blocks_lowered t cs c bs))
  tied-begun cs n c [] h = h
  tied-begun cs n c (b ∷ bs) h = omega arith
