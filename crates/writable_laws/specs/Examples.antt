-- What the definition takes and what it refuses, on examples.
use Rattle.std.specs.Prelude.{◌≡◌, ◌++◌, ℕ, Bool, true, false, List, [], ◌∷◌, codes, length, Option, Some, None, pos, negsuc}
use Rattle.target_base.specs.declared.types.IndexId.{IndexId}
use Rattle.target_base.specs.declared.types.Reg.{Reg}
use Rattle.target_base.specs.declared.types.Target.{Target}
use Rattle.target_base.specs.Numbers.{index_number}
use Rattle.mir_func.specs.declared.func.Block.{Block}
use Rattle.mir_func.specs.declared.func.Edge.{Edge}
use Rattle.mir_func.specs.declared.func.Loc.{Loc}
use Rattle.mir_func.specs.declared.func.Loc.TheVariants as locs
use Rattle.mir_func.specs.declared.func.RegOp.{RegOp}
use Rattle.mir_func.specs.declared.func.Operand.TheVariants as operands
use Rattle.mir_func.specs.Value.{Function}
use Rattle.writable_laws.specs.Writable.{AreAttributes, AreFlags, CanSpellEdge, CanSpellHeader, CanSpellOperand, HasHead, IsImmediate, IsSymbol, IsTail, IsWritable, ReadsNames, definitions_first}

-- a function with these key lines and frame objects, and no block yet
abbrev pub headed : List ℕ → List (ℕ × Bool) → Function
headed head frames = record { name = codes "f"; head = head; classes = []; frames = frames; blocks = []; next_id = 0 }

abbrev pub name_line : List ℕ
name_line = codes "name: f\n"

abbrev pub slot_lines : List ℕ
slot_lines = codes "stack:\n  - { id: 7, type: spill-slot, size: 4 }\n"

abbrev pub body_line : List ℕ
body_line = codes "body: |\n"

-- Key lines give the name and the frame objects.
abbrev pub TakesHead : Type 0
TakesHead = (t : Target) → HasHead t (headed (name_line ++ (slot_lines ++ body_line)) ((7, true) ∷ []))

-- A head without its body line, with a key of virtual registers, with a line behind the body's, without the last newline, and
-- one that declares other frame objects are none.
abbrev pub RefusesHead : Type 0
RefusesHead =
    (t : Target)
    → (HasHead t (headed name_line []) → ⊥)
    × (HasHead t (headed (name_line ++ (codes "liveins:\n" ++ body_line)) []) → ⊥)
    × (HasHead t (headed (name_line ++ (body_line ++ codes "stack:\n")) []) → ⊥)
    × (HasHead t (headed (name_line ++ codes "body: |") []) → ⊥)
    × (HasHead t (headed (name_line ++ (slot_lines ++ body_line)) ((8, true) ∷ [])) → ⊥)

abbrev pub TakesText : Type 0
TakesText =
    IsTail (codes ":: (load (s32) from %ir.p)") × IsTail (codes ", debug-location !5") × IsTail []
    × AreFlags (codes "frame-setup nsw") × AreFlags [] × AreAttributes (codes "%ir-block.0, align 4")

-- A tail that begins as none does, after a space, or with a comment; flags with a space too many, or that a tail begins with;
-- attributes over two lines.
abbrev pub RefusesText : Type 0
RefusesText =
    (IsTail (codes "note") → ⊥) × (IsTail (codes " :: (load)") → ⊥) × (IsTail (codes ":: a ; b") → ⊥)
    × (AreFlags (codes "frame-setup  nsw") → ⊥) × (AreFlags (codes "debug-location") → ⊥) × (AreAttributes (codes "a\nb") → ⊥)

-- a use of a register
abbrev pub used : Loc → Option IndexId → RegOp
used l x = record { loc = l; index = x; def = false; implicit = false; undef = false; early = false; renamable = false; tie = None }

-- immediates at the ends of the range, and next to them
abbrev pub BoundsImmediates : Type 0
BoundsImmediates =
    IsImmediate (pos 18446744073709551615) × (IsImmediate (pos 18446744073709551616) → ⊥)
    × IsImmediate (negsuc 9223372036854775807) × (IsImmediate (negsuc 9223372036854775808) → ⊥)

-- A fixed register with an index; a virtual one that the function doesn't have, or with an index that the target doesn't have; a
-- frame object of too large a number; and a definition behind a use.
abbrev pub RefusesOperands : Type 0
RefusesOperands =
    ((t : Target) (f : Function) (r : Reg) (x : IndexId) → CanSpellOperand t f (operands.Reg (used (locs.Fixed r) (Some x))) → ⊥)
    × ((t : Target) (f : Function) → CanSpellOperand t f (operands.Reg (used (locs.Virtual (length f.classes)) None)) → ⊥)
    × ((t : Target) (f : Function) (v : ℕ) → CanSpellOperand t f (operands.Reg (used (locs.Virtual v) (Some (index_number (length t.indexes))))) → ⊥)
    × ((t : Target) (f : Function) → CanSpellOperand t f (operands.Stack 2147483648) → ⊥)
    × ((u d : RegOp) → u.def ≡ false → d.def ≡ true → d.implicit ≡ false → definitions_first (operands.Reg u ∷ operands.Reg d ∷ []) ≡ false)

-- Symbols, where the target opts in none of the forms that it may. One with a space in its name is none, nor is one that has no name.
abbrev pub TakesSymbols : Type 0
TakesSymbols =
    (t : Target) → t.options.pool ≡ false → t.options.offsets ≡ false
    → IsSymbol t (codes "@g") × IsSymbol t (codes "@\"a b\"") × (IsSymbol t (codes "@g h") → ⊥) × (IsSymbol t (codes "@") → ⊥)

-- a block of a name with a space, or of too large a number, and an edge of too great a probability
abbrev pub RefusesHeaders : Type 0
RefusesHeaders =
    ((t : Target) (b : Block) → b.name ≡ codes "a b" → CanSpellHeader t b → ⊥) × ((t : Target) (b : Block) → b.number ≡ 2147483648 → CanSpellHeader t b → ⊥)
    × ((e : Edge) → e.prob ≡ 2147483649 → CanSpellEdge e → ⊥)

-- a function of one block without instructions, of a name and a text in parentheses
abbrev pub one_block : Function
one_block = record (headed (name_line ++ (slot_lines ++ body_line)) ((7, true) ∷ [])) {
  blocks = record { number = 3; name = codes "entry.1"; attributes = codes "align 4"; successors = []; liveins = []; instrs = [] } ∷ [];
}

abbrev pub TakesFunction : Type 0
TakesFunction = (t : Target) → ReadsNames t → IsWritable t one_block
