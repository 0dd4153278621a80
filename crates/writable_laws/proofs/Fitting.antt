-- Instructions that can be spelled, but for the numbers of their ranges.
use Rattle.std.proofs.Common.{◌≡◌, ◌∷◌, ◌++◌, ◌+◌, ◌<◌, ◌≤◌, ◌∙◌, ◌||◌, not, ℕ, Bool, true, false, cond, List, Option, Some, None, flat_map, map, length, refl, sym, ap, subst, arith, zero, suc, []}
use Rattle.std.specs.Prelude.{slice_get}
use Rattle.std.specs.List.{list_any}
use Rattle.std.proofs.lemmas.Bool.{ltb-true}
use Rattle.target_base.specs.Registers.{HasIndex, IsIndex, IsOpcode, IsReg}
use Rattle.target_base.specs.declared.types.IndexId.{IndexId}
use Rattle.target_base.specs.declared.types.OpcodeDesc.{OpcodeDesc}
use Rattle.target_base.specs.declared.types.Target.{Target}
use Rattle.meaning.specs.Live.{Among, here, there}
use Rattle.mir_func.specs.declared.func.Loc.{Loc}
use Rattle.mir_func.specs.declared.func.Loc.TheVariants as locs
use Rattle.mir_func.specs.declared.func.Op.{Op}
use Rattle.mir_func.specs.declared.func.Op.TheVariants as ops
use Rattle.mir_func.specs.declared.func.RegOp.{RegOp}
use Rattle.mir_func.specs.declared.func.Operand.{Operand}
use Rattle.mir_func.specs.declared.func.Operand.TheVariants as operands
use Rattle.mir_func.specs.declared.func.Instr.{Instr}
use Rattle.mir_func.specs.declared.func.Block.{Block}
use Rattle.mir_func.specs.Value.{Function}
use Rattle.mir_func.specs.Edits.{made}
use Rattle.mir_func.specs.Binding.{is_definition, known_opcode, registers}
use Rattle.target_base.specs.declared.types.Effect.{Effect}
use Rattle.mir_meaning.specs.Renaming.{renamed_instr, renamed_operand}
use Rattle.mir_meaning.specs.Rules.{V3, has_class}
use Rattle.mir_lines.specs.Bytes.{skip, behind_word}
use Rattle.mir_lines.specs.Instructions.{begins_tail, tail_at, without_comment}
use Rattle.mir_lines.specs.Parts.{joined}
use Rattle.mir_lines.specs.Registers.{is_tail_word, words_at}
use Rattle.mir_text.specs.Print.{is_explicit_def}
use Rattle.phi_elim.specs.Moves.{copy_of, copy_op, implicit_def_op, move_of, source_of, undefining, whole_definition, whole_use}
use Rattle.phi_elim.specs.Numbered.{numbered}
use Rattle.instr_effects.proofs.Members.{either-elim, flat-of, member-elim, member-none}
use Rattle.live_laws.proofs.Effects.Lists.{all-of}
use Rattle.lowering_laws.proofs.Olds.{class-old}
use Rattle.lowering_laws.proofs.Placed.{copy-effect, undef-effect}
use Rattle.lowering_laws.proofs.Seated.{register-in}
use Rattle.writable_laws.specs.Writable.{AreFlags, CanSpell, CanSpellHeader, CanSpellOpcode, CanSpellOperand, CanSpellRegister, IsImmediate, IsSymbol, IsTail, definitions_first, most_number}

below_length : {A : Type 0} (xs : List A) (j : ℕ) (x : A) → slice_get xs j ≡ Some x → j < length xs
below_length [] j x e = absurd (cc)
below_length (y ∷ ys) zero x e = omega arith
below_length (y ∷ ys) (suc j) x e = let h = below_length ys j x e in omega arith

abbrev pub RegisterFits : Target → Loc → Option IndexId → Type 0
RegisterFits t (locs.Virtual v) index = HasIndex t index
RegisterFits t (locs.Fixed r) index = IsReg t r × (index ≡ None)

abbrev pub OperandFits : Target → Operand → Type 0
OperandFits t (operands.Reg o) = RegisterFits t o.loc o.index
OperandFits t (operands.Imm z) = IsImmediate z
OperandFits t (operands.Block n) = n ≤ most_number
OperandFits t (operands.Stack n) = n ≤ most_number
OperandFits t (operands.FixedStack n) = n ≤ most_number
OperandFits t (operands.Symbol text) = IsSymbol t text
OperandFits t (operands.Index x) = IsIndex t x
OperandFits t (operands.Mask m) = m.0 < length t.masks

abbrev pub IsKnown : Target → Op → Type 0
IsKnown t (ops.Known o) = IsOpcode t o
IsKnown t (ops.Excluded name) = ⊥

abbrev pub OperandsFit : Target → List Operand → Type 0
OperandsFit t os = (o : Operand) → Among o os → OperandFits t o

-- the opcode is the target's, and all but the numbers of ranges can be spelled
pub record InstrFits (t : Target) (i : Instr) : Type 0 where
  pub opcode : IsKnown t i.op
  pub flags : AreFlags i.flags
  pub order : definitions_first i.operands ≡ true
  pub operands : OperandsFit t i.operands
  pub tail : IsTail i.tail

-- from an instruction that can be spelled, and back

fits-register : (t : Target) (f : Function) (l : Loc) (x : Option IndexId) → CanSpellRegister t f l x → RegisterFits t l x
fits-register t f (locs.Virtual v) x h = h.1
fits-register t f (locs.Fixed r) x h = h

fits-operand : (t : Target) (f : Function) (o : Operand) → CanSpellOperand t f o → OperandFits t o
fits-operand t f (operands.Reg o) h = fits-register t f o.loc o.index h
fits-operand t f (operands.Imm z) h = h
fits-operand t f (operands.Block n) h = h
fits-operand t f (operands.Stack n) h = h
fits-operand t f (operands.FixedStack n) h = h
fits-operand t f (operands.Symbol text) h = h
fits-operand t f (operands.Index x) h = h
fits-operand t f (operands.Mask m) h = h

spelled-register : (t : Target) (g : Function) (l : Loc) (x : Option IndexId) → RegisterFits t l x → has_class g l ≡ true → CanSpellRegister t g l x
spelled-register t g (locs.Virtual v) x h e = (ltb-true v (length g.classes) (class-old g v e), h)
spelled-register t g (locs.Fixed r) x h e = h

spelled-operand : (t : Target) (g : Function) (o : Operand) → OperandFits t o → ((p : RegOp) → o ≡ operands.Reg p → has_class g p.loc ≡ true) → CanSpellOperand t g o
spelled-operand t g (operands.Reg o) h e = spelled-register t g o.loc o.index h (e o refl)
spelled-operand t g (operands.Imm z) h e = h
spelled-operand t g (operands.Block n) h e = h
spelled-operand t g (operands.Stack n) h e = h
spelled-operand t g (operands.FixedStack n) h e = h
spelled-operand t g (operands.Symbol text) h e = h
spelled-operand t g (operands.Index x) h e = h
spelled-operand t g (operands.Mask m) h e = h

known-of : (t : Target) (o : Op) (d : OpcodeDesc) → known_opcode t o ≡ Some d → IsKnown t o
known-of t (ops.Known o) d e = below_length t.opcodes o.0 d e
known-of t (ops.Excluded name) d e = absurd (cc)

opcode-of : (t : Target) (o : Op) (os : List Operand) (tail : List ℕ) → IsKnown t o → CanSpellOpcode t o os tail
opcode-of t (ops.Known o) os tail h = h
opcode-of t (ops.Excluded name) os tail h = absurd h

pub fits-of : (t : Target) (f : Function) (i : Instr) (d : OpcodeDesc) → known_opcode t i.op ≡ Some d → CanSpell t f i → InstrFits t i
fits-of t f i d e h = record {
  opcode = known-of t i.op d e;
  flags = h.flags;
  order = h.order;
  operands = λ o m. fits-operand t f o (h.operands o m);
  tail = h.tail;
}

pub spelled-of : (t : Target) (g : Function) (i : Instr) → InstrFits t i → V3 g i ≡ true → CanSpell t g i
unfolding V3
spelled-of t g i h e = record {
  opcode = opcode-of t i.op i.operands i.tail h.opcode;
  flags = h.flags;
  order = h.order;
  operands = λ o m. spelled-operand t g o (h.operands o m) (λ p q. all-of (λ (x : RegOp). has_class g x.loc) p (registers i.operands) (register-in p i.operands (subst (λ x. Among x i.operands) q m)) e);
  tail = h.tail;
}

-- instructions that passes make

pub no-flags : AreFlags []
unfolding words_at joined skip
no-flags = record { words = []; read = refl; spelled = refl }

pub no-tail : IsTail []
unfolding tail_at without_comment begins_tail skip behind_word is_tail_word
no-tail = record { read = refl; bare = refl; line = refl }

known-effect : (t : Target) (o : Op) (e : Effect) → (q : Option OpcodeDesc) → known_opcode t o ≡ q → elim q as (λ q. Option Effect) [ None ↦ None | Some d ↦ Some d.effect ] ≡ Some e → IsKnown t o
known-effect t o e None g h = absurd (cc)
known-effect t o e (Some d) g h = known-of t o d g

pub copy-known : (t : Target) → IsKnown t (ops.Known copy_op)
copy-known t = let i = copy_of (whole_definition 0) (whole_use 0) in known-effect t i.op _ (known_opcode t i.op) refl (copy-effect t i refl)

pub undef-known : (t : Target) → IsKnown t (ops.Known implicit_def_op)
undef-known t = let i = undefining (whole_definition 0) in known-effect t i.op _ (known_opcode t i.op) refl (undef-effect t i refl)

pub one-fits : (t : Target) (o : Operand) → OperandFits t o → OperandsFit t (o ∷ [])
one-fits t o h x m = member-elim x o [] (λ e. subst (OperandFits t) (sym e) h) (λ k. absurd (member-none x k)) m

pub two-fits : (t : Target) (o p : Operand) → OperandFits t o → OperandFits t p → OperandsFit t (o ∷ p ∷ [])
two-fits t o p h g x m = member-elim x o (p ∷ []) (λ e. subst (OperandFits t) (sym e) h) (λ k. one-fits t p g x k) m

-- the order of one operand, and of two the first of which defines or the second of which doesn't

pub one-first : (o : Operand) → definitions_first (o ∷ []) ≡ true
one-first o = go (is_explicit_def o)
  where
    go : (y : Bool) → cond y (definitions_first []) (not (list_any is_explicit_def [])) ≡ true
    go true = refl
    go false = refl

pub defined-first : (o p : Operand) → is_explicit_def o ≡ true → definitions_first (o ∷ p ∷ []) ≡ true
defined-first o p e = ap (λ y. cond y (definitions_first (p ∷ [])) (not (list_any is_explicit_def (p ∷ [])))) e ∙ one-first p

pub use-second : (o p : Operand) → is_explicit_def p ≡ false → definitions_first (o ∷ p ∷ []) ≡ true
use-second o p e = go (is_explicit_def o)
  where
    none : not (list_any is_explicit_def (p ∷ [])) ≡ true
    none = λ k. not (e k || false)

    go : (y : Bool) → cond y (definitions_first (p ∷ [])) (not (list_any is_explicit_def (p ∷ []))) ≡ true
    go true = one-first p
    go false = none

-- a COPY of any id
pub made-copy : (t : Target) (n : ℕ) (d s : RegOp) → RegisterFits t d.loc d.index → RegisterFits t s.loc s.index → definitions_first (operands.Reg d ∷ operands.Reg s ∷ []) ≡ true → InstrFits t (made n copy_op (operands.Reg d ∷ operands.Reg s ∷ []))
made-copy t n d s h g e = record {
  opcode = copy-known t;
  flags = no-flags;
  order = e;
  operands = two-fits t (operands.Reg d) (operands.Reg s) h g;
  tail = no-tail;
}

pub copy-fits : (t : Target) (d s : RegOp) → RegisterFits t d.loc d.index → RegisterFits t s.loc s.index → definitions_first (operands.Reg d ∷ operands.Reg s ∷ []) ≡ true → InstrFits t (copy_of d s)
copy-fits t d s h g e = made-copy t 0 d s h g e

pub undefining-fits : (t : Target) (d : RegOp) → RegisterFits t d.loc d.index → InstrFits t (undefining d)
undefining-fits t d h = record {
  opcode = undef-known t;
  flags = no-flags;
  order = one-first (operands.Reg d);
  operands = one-fits t (operands.Reg d) h;
  tail = no-tail;
}

pub move-fits : (t : Target) (to from : RegOp) → RegisterFits t to.loc to.index → RegisterFits t from.loc from.index → InstrFits t (move_of to from)
move-fits t to from h g = go from.undef
  where
    go : (y : Bool) → InstrFits t (cond y (undefining to) (copy_of to (source_of from)))
    go true = undefining-fits t to h
    go false = copy-fits t to (source_of from) h g (use-second (operands.Reg to) (operands.Reg (source_of from)) refl)

-- Other operands in the places of these: each can be spelled, and definitions stay where they are.

pub record KeepsOrder (t : Target) (os ps : List Operand) : Type 0 where
  pub fits : OperandsFit t ps
  pub none : list_any is_explicit_def ps ≡ list_any is_explicit_def os
  pub order : definitions_first ps ≡ definitions_first os

pub none-ordered : (t : Target) → KeepsOrder t [] []
none-ordered t = record { fits = λ o m. absurd (member-none o m); none = refl; order = refl }

pub next-ordered : (t : Target) (o p : Operand) (os ps : List Operand) → OperandFits t p → is_explicit_def p ≡ is_explicit_def o → KeepsOrder t os ps → KeepsOrder t (o ∷ os) (p ∷ ps)
next-ordered t o p os ps h e z = record {
  fits = λ x m. member-elim x p ps (λ q. subst (OperandFits t) (sym q) h) (λ k. z.fits x k) m;
  none = λ k. e k || z.none k;
  order = λ k. cond (e k) (z.order k) (not (z.none k));
}

pub map-ordered : (t : Target) (g : Operand → Operand) (os : List Operand) → ((o : Operand) → Among o os → OperandFits t (g o) × (is_explicit_def (g o) ≡ is_explicit_def o)) → KeepsOrder t os (map g os)
map-ordered t g [] h = none-ordered t
map-ordered t g (o ∷ os) h = let z = h o here in next-ordered t o (g o) os (map g os) z.0 z.1 (map-ordered t g os (λ x m. h x (there m)))

-- A register operand in the place of another has its flags.
pub renamed-fits : (t : Target) (r : RegOp → RegOp) (i : Instr) → InstrFits t i → ((o : RegOp) → RegisterFits t o.loc o.index → RegisterFits t (r o).loc (r o).index × (is_definition (r o) ≡ is_definition o)) → InstrFits t (renamed_instr r i)
renamed-fits t r i z h =
    let w = map-ordered t (renamed_operand r) i.operands (λ o m. one o (z.operands o m)) in
    record { opcode = z.opcode; flags = z.flags; order = w.order ∙ z.order; operands = w.fits; tail = z.tail }
  where
    one : (o : Operand) → OperandFits t o → OperandFits t (renamed_operand r o) × (is_explicit_def (renamed_operand r o) ≡ is_explicit_def o)
    one (operands.Reg o) g = h o g
    one o g = (g, refl)

-- lists of instructions

abbrev pub InstrsFit : Target → List Instr → Type 0
InstrsFit t xs = (x : Instr) → Among x xs → InstrFits t x

pub none-each : (t : Target) → InstrsFit t []
none-each t x m = absurd (member-none x m)

pub next-each : (t : Target) (y : Instr) (ys : List Instr) → InstrFits t y → InstrsFit t ys → InstrsFit t (y ∷ ys)
next-each t y ys h g x m = member-elim x y ys (λ e. subst (InstrFits t) (sym e) h) (λ k. g x k) m

pub append-each : (t : Target) (xs ys : List Instr) → InstrsFit t xs → InstrsFit t ys → InstrsFit t (xs ++ ys)
append-each t xs ys h g x m = either-elim x xs ys (λ k. h x k) (λ k. g x k) m

pub flat-each : {A : Type 0} (t : Target) (g : A → List Instr) (xs : List A) → ((x : A) → Among x xs → InstrsFit t (g x)) → InstrsFit t (flat_map g xs)
flat-each t g xs h y m = let z = flat-of g y xs m in h z.0 z.1 y z.2

pub numbered-each : (t : Target) (n : ℕ) (is : List Instr) → InstrsFit t is → InstrsFit t (numbered n is)
numbered-each t n [] h = h
numbered-each t n (i ∷ is) h =
    let z = h i here in
    next-each t (record i { id = n }) (numbered (n + 1) is) (record { opcode = z.opcode; flags = z.flags; order = z.order; operands = z.operands; tail = z.tail }) (numbered-each t (n + 1) is (λ x m. h x (there m)))

-- blocks

pub record BlockFits (t : Target) (b : Block) : Type 0 where
  pub header : CanSpellHeader t b
  pub instrs : InstrsFit t b.instrs

-- a block with other instructions
pub block-with : (t : Target) (b : Block) (is : List Instr) → CanSpellHeader t b → InstrsFit t is → BlockFits t (record b { instrs = is })
block-with t b is h g = record {
  header = record { number = h.number; name = h.name; attributes = h.attributes; successors = h.successors; liveins = h.liveins };
  instrs = g;
}
