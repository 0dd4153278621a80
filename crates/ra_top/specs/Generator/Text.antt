-- The text of the generated function.
use Rattle.std.specs.Prelude.{ℕ, List, [], ◌++◌, ◌+◌, ◌*◌, ◌/◌, ◌%◌, ◌==◌, zero, suc, if◌then◌else◌, codes}
use Rattle.std.specs.Fmt.{decimal}
use Rattle.ra_top.specs.declared.generator.source.InstrNumbers.{InstrNumbers}
use Rattle.ra_top.specs.declared.generator.source.Jump.{Jump}

-- Numbers.

-- the number behind x in the source
unfoldable pub next : ℕ → ℕ
next x = (x * 1103515245 + 12345) % 2147483648

-- what is drawn below a bound where x is the source's number
abbrev pub drawn : ℕ → ℕ → ℕ
drawn x bound = x / 65536 % bound

-- the numbers of an instruction, drawn behind x, and where the source then is
abbrev pub numbers : ℕ → InstrNumbers
numbers x = record {
  a = drawn (next x) 24;
  c = drawn (next (next x)) 24;
  d = drawn (next (next (next x))) 24;
  kind = drawn (next (next (next (next x)))) 6;
}

abbrev pub behind_instr : ℕ → ℕ
behind_instr x = next (next (next (next x)))

-- the numbers of a comparison and a jump, drawn behind x, and where the source then is
abbrev pub jump : ℕ → Jump
jump x = record {
  a = drawn (next x) 24;
  c = drawn (next (next x)) 24;
  to = drawn (next (next (next x))) 401 + 1;
}

abbrev pub behind_jump : ℕ → ℕ
behind_jump x = next (next (next x))

-- Lines.

-- a register gets a number
abbrev pub register_line : ℕ → ℕ → List ℕ
register_line v n = codes "    %" ++ (decimal v ++ (codes ":gr32 = MOV32ri " ++ (decimal n ++ codes "\n")))

-- d becomes what an instruction of this name makes of a and c
abbrev pub operation_line : List ℕ → ℕ → ℕ → ℕ → List ℕ
operation_line name d a c =
    codes "    %" ++ (decimal d ++ (codes " = " ++ (name ++ (codes " %" ++ (decimal a ++ (codes ", %" ++ (decimal c ++ codes ", implicit-def $eflags\n")))))))

-- d becomes what stands behind a name
abbrev pub move_line : List ℕ → ℕ → ℕ → List ℕ
move_line name d a = codes "    %" ++ (decimal d ++ (codes " = " ++ (name ++ (decimal a ++ codes "\n"))))

-- c is stored at a
abbrev pub store_line : ℕ → ℕ → List ℕ
store_line a c = codes "    STORE32mr %" ++ (decimal a ++ (codes ", 0, %" ++ (decimal c ++ codes "\n")))

-- an instruction by its kind
abbrev pub instr_line : InstrNumbers → List ℕ
instr_line n =
    if n.kind == 0 then operation_line (codes "ADD32rr") n.d n.a n.c
    else (if n.kind == 1 then operation_line (codes "SUB32rr") n.d n.a n.c
    else (if n.kind == 2 then operation_line (codes "XOR32rr") n.d n.a n.c
    else (if n.kind == 3 then move_line (codes "MOV32ri ") n.d n.a
    else (if n.kind == 4 then move_line (codes "COPY %") n.d n.a else store_line n.a n.c))))

-- a comparison, and the jump that it decides
abbrev pub jump_lines : Jump → List ℕ
jump_lines j =
    codes "    CMP32rr %" ++ (decimal j.a ++ (codes ", %" ++ (decimal j.c ++ (codes ", implicit-def $eflags\n    JCC %bb." ++ (decimal j.to ++ codes ", 5, implicit $eflags\n")))))

-- The first so many of each, drawn behind x, and where the source then is.

unfoldable pub behind_registers : ℕ → ℕ → ℕ
behind_registers zero x = x
behind_registers (suc n) x = next (behind_registers n x)

unfoldable pub register_lines : ℕ → ℕ → List ℕ
register_lines zero x = []
register_lines (suc n) x = register_lines n x ++ register_line n (drawn (next (behind_registers n x)) 1000)

unfoldable pub behind_instrs : ℕ → ℕ → ℕ
behind_instrs zero x = x
behind_instrs (suc n) x = behind_instr (behind_instrs n x)

unfoldable pub instr_lines : ℕ → ℕ → List ℕ
instr_lines zero x = []
instr_lines (suc n) x = instr_lines n x ++ instr_line (numbers (behind_instrs n x))

-- a block: 12 instructions, a comparison and a jump
abbrev pub block_lines : ℕ → ℕ → List ℕ
block_lines b x = codes "  bb." ++ (decimal b ++ (codes ":\n" ++ (instr_lines 12 x ++ jump_lines (jump (behind_instrs 12 x)))))

abbrev pub behind_block : ℕ → ℕ
behind_block x = behind_jump (behind_instrs 12 x)

unfoldable pub behind_blocks : ℕ → ℕ → ℕ
behind_blocks zero x = x
behind_blocks (suc n) x = behind_block (behind_blocks n x)

-- the blocks from 1 on
unfoldable pub blocks_lines : ℕ → ℕ → List ℕ
blocks_lines zero x = []
blocks_lines (suc n) x = blocks_lines n x ++ block_lines (suc n) (behind_blocks n x)

-- The text for a seed.

abbrev pub head_lines : List ℕ
head_lines = codes "---\nname: g\nbody: |\n  bb.0:\n"

abbrev pub last_lines : List ℕ
last_lines = codes "  bb.401:\n    $eax = COPY %0\n    RET implicit $eax\n...\n"

-- 24 registers get numbers; 400 blocks; and one that returns
abbrev pub generated_text : ℕ → List ℕ
generated_text seed = head_lines ++ (register_lines 24 seed ++ (blocks_lines 400 (behind_registers 24 seed) ++ last_lines))
