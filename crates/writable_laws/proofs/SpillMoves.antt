-- Stores, reloads and repeated instructions of a spill can be spelled.
use Rattle.std.proofs.Common.{◌≡◌, ◌∷◌, ◌<◌, ◌≤◌, ◌∙◌, ◌||◌, not, ℕ, Bool, true, false, cond, List, Option, Some, None, drop, flat_map, length, refl, sym, ap, subst, arith, []}
use Rattle.std.specs.Prelude.{option_and_then}
use Rattle.std.specs.List.{list_any}
use Rattle.target_base.specs.Registers.{HasIndex, regs_of, reload_place, spill_place}
use Rattle.target_base.specs.Rules.{reloads, spills}
use Rattle.target_base.specs.declared.types.ClassId.{ClassId}
use Rattle.target_base.specs.declared.types.IndexId.{IndexId}
use Rattle.target_base.specs.declared.types.Target.{Target}
use Rattle.target_base.proofs.Tests.{position_within}
use Rattle.meaning.specs.Live.{Among, here}
use Rattle.mir_func.specs.declared.func.Op.TheVariants as ops
use Rattle.mir_func.specs.declared.func.RegOp.{RegOp}
use Rattle.mir_func.specs.declared.func.Operand.{Operand}
use Rattle.mir_func.specs.declared.func.Operand.TheVariants as operands
use Rattle.mir_func.specs.declared.func.Instr.{Instr}
use Rattle.mir_func.specs.declared.func.Block.{Block}
use Rattle.mir_func.specs.Binding.{is_definition}
use Rattle.mir_text.specs.Print.{is_explicit_def}
use Rattle.instr_effects.proofs.Members.{filter-of, flat-of, member-elim}
use Rattle.join_laws.proofs.Operands.{range-is}
use Rattle.spiller.specs.Rematerialised.{Reading, Wish, if_serves, reaches, reaching, repeatable_class, repeated, repeated_for, serves}
use Rattle.spiller.specs.Setting.{Spilling, in_own_slot, is_own, lanes_named, opcode, reload, store}
use Rattle.spiller.specs.Spilled.{in_place_of}
use Rattle.writable_laws.specs.Writable.{definitions_first, most_number}
use Rattle.writable_laws.proofs.PhisFit.{in-drop}
use Rattle.writable_laws.proofs.Fitting.{OperandsFit, IsKnown, InstrFits, BlockFits, OperandFits, RegisterFits, copy-known, no-flags, no-tail, two-fits}

-- the order of operands

pub none-first : (os : List Operand) → list_any is_explicit_def os ≡ false → definitions_first os ≡ true
none-first [] e = refl
none-first (o ∷ os) e = go (is_explicit_def o) e
  where
    go : (a : Bool) → (a || list_any is_explicit_def os) ≡ false → cond a (definitions_first os) (not (list_any is_explicit_def os)) ≡ true
    go true e = absurd (cc)
    go false e = ap not e

head-first : (o : Operand) (os : List Operand) → list_any is_explicit_def os ≡ false → definitions_first (o ∷ os) ≡ true
head-first o os e = go (is_explicit_def o)
  where
    go : (a : Bool) → cond a (definitions_first os) (not (list_any is_explicit_def os)) ≡ true
    go true = none-first os e
    go false = ap not e

behind-head : (os : List Operand) → definitions_first os ≡ true → definitions_first (drop 1 os) ≡ true
behind-head [] e = refl
behind-head (o ∷ os) e = go (is_explicit_def o) e
  where
    past : (a : Bool) → not a ≡ true → a ≡ false
    past true e = absurd (cc)
    past false e = refl

    go : (a : Bool) → cond a (definitions_first os) (not (list_any is_explicit_def os)) ≡ true → definitions_first os ≡ true
    go true e = e
    go false e = none-first os (past (list_any is_explicit_def os) e)

more-fits : (t : Target) (o : Operand) (os : List Operand) → OperandFits t o → OperandsFit t os → OperandsFit t (o ∷ os)
more-fits t o os h g x m = member-elim x o os (λ e. subst (OperandFits t) (sym e) h) (λ k. g x k) m

-- opcodes

module _ (t : Target) where
  opcode-known : (q : Option ℕ) → ((n : ℕ) → q ≡ Some n → n < length t.opcodes) → IsKnown t (ops.Known (opcode q))
  opcode-known None h = copy-known t
  opcode-known (Some n) h = h n refl

  spill-known : (k : Option ClassId) → IsKnown t (ops.Known (opcode (option_and_then (spill_place t) k)))
  spill-known None = copy-known t
  spill-known (Some c) = opcode-known (spill_place t c) (λ n e. position_within (spills t.classes (regs_of t c)) t.opcodes n e)

  reload-known : (k : Option ClassId) → IsKnown t (ops.Known (opcode (option_and_then (reload_place t) k)))
  reload-known None = copy-known t
  reload-known (Some c) = opcode-known (reload_place t c) (λ n e. position_within (reloads t.classes (regs_of t c)) t.opcodes n e)

  -- what names a slot: no definition
  pub record SlotFits (slot : List Operand) : Type 0 where
    pub fits : OperandsFit t slot
    pub none : list_any is_explicit_def slot ≡ false

  pub store-fits : (k : Option ClassId) (o : RegOp) (slot : List Operand) → RegisterFits t o.loc o.index → SlotFits slot → InstrFits t (store t k o slot)
  store-fits k o slot h g = record { opcode = spill-known k; flags = no-flags; order = head-first (operands.Reg o) slot g.none; operands = more-fits t (operands.Reg o) slot h g.fits; tail = no-tail }

  pub reload-fits : (k : Option ClassId) (o : RegOp) (slot : List Operand) → RegisterFits t o.loc o.index → SlotFits slot → InstrFits t (reload t k o slot)
  reload-fits k o slot h g = record { opcode = reload-known k; flags = no-flags; order = head-first (operands.Reg o) slot g.none; operands = more-fits t (operands.Reg o) slot h g.fits; tail = no-tail }

  pub repeated-fits : (d : Instr) (o : RegOp) → InstrFits t d → RegisterFits t o.loc o.index → is_definition o ≡ true → InstrFits t (repeated d o)
  repeated-fits d o z h e = record {
    opcode = z.opcode;
    flags = no-flags;
    order = ap (λ y. cond y (definitions_first (drop 1 d.operands)) (not (list_any is_explicit_def (drop 1 d.operands)))) e ∙ behind-head d.operands z.order;
    operands = more-fits t (operands.Reg o) (drop 1 d.operands) h (λ x m. z.operands x (in-drop 1 d.operands x m));
    tail = no-tail;
  }

  pub placed-fits : (i x : Instr) → InstrFits t i → InstrFits t x → InstrFits t (in_place_of i x)
  placed-fits i x z w = record { opcode = w.opcode; flags = z.flags; order = w.order; operands = w.operands; tail = z.tail }

  pub id-fits : (n : ℕ) (x : Instr) → InstrFits t x → InstrFits t (record x { id = n })
  id-fits n x w = record { opcode = w.opcode; flags = w.flags; order = w.order; operands = w.operands; tail = w.tail }

module _ (s : Spilling) (slot : s.slot ≤ most_number) where
  pub own-slot : (x : Option IndexId) → HasIndex s.target x → SlotFits s.target (in_own_slot s x)
  own-slot None h = record { fits = two-fits s.target (operands.Stack s.slot) (lanes_named None) slot (omega arith); none = refl }
  own-slot (Some x) h = record { fits = two-fits s.target (operands.Stack s.slot) (lanes_named (Some x)) slot h; none = refl }

  -- the index of an operand of the range
  pub own-index : (o : RegOp) → is_own s o ≡ true → RegisterFits s.target o.loc o.index → HasIndex s.target o.index
  own-index o e h = subst (λ l. RegisterFits s.target l o.index) (range-is s.range o.loc e) h

  served : (wish : Wish) (ds : List Instr) (d : Instr) → if_serves s.target wish ds ≡ Some d → Among d ds
  served wish [] d e = absurd (cc)
  served wish (x ∷ []) d e = go (serves s.target wish (repeatable_class s.target x)) e
    where
      same : (a b : Instr) → Some a ≡ Some b → a ≡ b
      same a b e = cc

      go : (b : Bool) → cond b (Some x) None ≡ Some d → Among d (x ∷ [])
      go true g = subst (λ y. Among y (x ∷ [])) (same x d g) here
      go false g = absurd (cc)
  served wish (x ∷ y ∷ xs) d e = absurd (cc)

  pub repeats-fits : ((b : Block) → Among b s.func.blocks → BlockFits s.target b) → (r : Reading) (d : Instr) → repeated_for s r ≡ Some d → InstrFits s.target d
  repeats-fits w r d e =
      let m = (filter-of (λ x. reaches s x r) d (flat_map (λ (b : Block). b.instrs) s.func.blocks) (served r.wish (reaching s r) d e)).0 in
      let z = flat-of (λ (b : Block). b.instrs) d s.func.blocks m in
      (w z.0 z.1).instrs d z.2
