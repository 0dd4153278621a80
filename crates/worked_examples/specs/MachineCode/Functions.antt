-- The functions of the examples, in the order of their instructions' ids.
use Rattle.std.specs.Prelude.{ℕ, negsuc, List, [], ◌∷◌}
use Rattle.mir_func.specs.declared.func.Instr.{Instr}
use Rattle.mir_func.specs.declared.func.Operand.{Operand}
use Rattle.mir_func.specs.declared.func.Operand.TheVariants as operands
use Rattle.mir_func.specs.declared.func.RegOp.{RegOp}
use Rattle.mir_func.specs.Value.{Function}
use Rattle.worked_examples.specs.MachineCode.Sample.{virtual, as_def, as_undef, part, op, def, val, fixed_def, fixed, implicit_def, implicit, imm, to_block, subreg, symbol, csr, frame, instr, block, function, gr32, gr8, grp, eax, ecx, edx, ax, al, ah, p0, eflags, sub_8, sub_lo32, sub_hi32, COPY, PHI, IMPLICIT_DEF, REG_SEQUENCE, MOV32ri, MOV8ri, ADD32rr, ADD32ri, ADD8rr, UDIV32rr, MADD32, MLA32, CMP32rr, STORE32mr, JMP, JCC, CALL, RET}

abbrev pub flags_defined : List Operand
flags_defined = implicit_def eflags ∷ []

abbrev pub ret : ℕ → Instr
ret id = instr id RET (implicit eax ∷ [])

-- a sum of a register with itself, its first operand tied
abbrev pub tied_add : Function
tied_add = function (gr32 ∷ gr32 ∷ []) (block 0 [] (eax ∷ []) (
    instr 0 COPY (def 0 ∷ fixed eax ∷ [])
    ∷ instr 1 ADD32rr (def 1 ∷ val 0 ∷ val 0 ∷ flags_defined)
    ∷ instr 2 COPY (fixed_def eax ∷ val 1 ∷ [])
    ∷ ret 3 ∷ []) ∷ [])

-- the same, allocated
abbrev pub tied_add_allocated : Function
tied_add_allocated = function [] (block 0 [] (eax ∷ []) (
    instr 0 ADD32rr (fixed_def eax ∷ fixed eax ∷ fixed eax ∷ flags_defined)
    ∷ ret 1 ∷ []) ∷ [])

-- $eax divided by what is put into $ecx
abbrev pub quotient : Instr → Operand → Function
quotient divisor by = function (gr32 ∷ []) (block 0 [] (eax ∷ []) (
    divisor
    ∷ instr 1 UDIV32rr (fixed_def edx ∷ fixed eax ∷ by ∷ flags_defined)
    ∷ instr 2 RET (implicit edx ∷ []) ∷ []) ∷ [])

abbrev pub zero_divisor : Function
zero_divisor = quotient (instr 0 MOV32ri (fixed_def ecx ∷ imm 0 ∷ [])) (fixed ecx)

abbrev pub undefined_divisor : Function
undefined_divisor = quotient (instr 0 IMPLICIT_DEF (def 0 ∷ [])) (val 0)

-- minus 2, as a constant and as what is added to 0
abbrev pub minus_two : Function
minus_two = function [] (block 0 [] [] (
    instr 0 MOV32ri (fixed_def eax ∷ operands.Imm (negsuc 1) ∷ [])
    ∷ instr 1 MOV32ri (fixed_def ecx ∷ imm 0 ∷ [])
    ∷ instr 2 ADD32ri (fixed_def ecx ∷ fixed ecx ∷ operands.Imm (negsuc 1) ∷ flags_defined)
    ∷ instr 3 RET (implicit eax ∷ implicit ecx ∷ []) ∷ []) ∷ [])

-- `undef %0.sub_8 = ..` leaves the other lanes Undef; all of %0 is stored
abbrev pub half_undefined : Function
half_undefined = function (gr32 ∷ []) (block 0 [] [] (
    instr 0 MOV8ri (op (as_undef (part (as_def (virtual 0)) sub_8)) ∷ imm 5 ∷ [])
    ∷ instr 1 STORE32mr (frame ∷ imm 3 ∷ val 0 ∷ [])
    ∷ instr 2 RET [] ∷ []) ∷ [])

-- two phis that swap, once round for each store
abbrev pub swap : Function
swap = function (gr32 ∷ gr32 ∷ gr32 ∷ gr32 ∷ []) (
    block 0 (1 ∷ []) (eax ∷ ecx ∷ []) (instr 0 COPY (def 0 ∷ fixed eax ∷ []) ∷ instr 1 COPY (def 1 ∷ fixed ecx ∷ []) ∷ [])
    ∷ block 1 (1 ∷ []) [] (
    instr 2 PHI (def 2 ∷ val 0 ∷ to_block 0 ∷ val 3 ∷ to_block 1 ∷ [])
    ∷ instr 3 PHI (def 3 ∷ val 1 ∷ to_block 0 ∷ val 2 ∷ to_block 1 ∷ [])
    ∷ instr 4 STORE32mr (frame ∷ imm 0 ∷ val 2 ∷ [])
    ∷ instr 5 JMP (to_block 1 ∷ []) ∷ [])
    ∷ [])

-- the halves of a register, put together the other way round at once
abbrev pub turned : Function
turned = function (grp ∷ []) (block 0 [] (p0 ∷ []) (
    instr 0 COPY (def 0 ∷ fixed p0 ∷ [])
    ∷ instr 1 REG_SEQUENCE (def 0 ∷ op (part (virtual 0) sub_hi32) ∷ subreg sub_lo32 ∷ op (part (virtual 0) sub_lo32) ∷ subreg sub_hi32 ∷ [])
    ∷ instr 2 COPY (fixed_def p0 ∷ val 0 ∷ [])
    ∷ instr 3 RET (implicit p0 ∷ []) ∷ []) ∷ [])

-- two lanes of $ax, each a register of its own
abbrev pub two_lanes : Function
two_lanes = function (gr8 ∷ gr8 ∷ gr8 ∷ []) (block 0 [] (ax ∷ []) (
    instr 0 COPY (def 0 ∷ fixed al ∷ [])
    ∷ instr 1 COPY (def 1 ∷ fixed ah ∷ [])
    ∷ instr 2 ADD8rr (def 2 ∷ val 0 ∷ val 1 ∷ flags_defined)
    ∷ instr 3 COPY (fixed_def al ∷ val 2 ∷ [])
    ∷ instr 4 RET (implicit al ∷ []) ∷ []) ∷ [])

-- a call in a loop
abbrev pub call_in_loop : Function
call_in_loop = function (gr32 ∷ gr32 ∷ []) (
    block 0 (1 ∷ []) (eax ∷ []) (instr 0 COPY (def 0 ∷ fixed eax ∷ []) ∷ [])
    ∷ block 1 (1 ∷ 2 ∷ []) [] (
    instr 1 CALL (symbol ∷ csr ∷ implicit_def eax ∷ [])
    ∷ instr 2 COPY (def 1 ∷ fixed eax ∷ [])
    ∷ instr 3 CMP32rr (val 0 ∷ val 1 ∷ flags_defined)
    ∷ instr 4 JCC (to_block 1 ∷ imm 5 ∷ implicit eflags ∷ []) ∷ [])
    ∷ block 2 [] [] (instr 5 COPY (fixed_def eax ∷ val 0 ∷ []) ∷ ret 6 ∷ [])
    ∷ [])

-- %0 and %1 only move round a loop; nothing reads them
abbrev pub idle_loop : Function
idle_loop = function (gr8 ∷ gr8 ∷ []) (
    block 0 (1 ∷ []) (al ∷ []) (instr 0 COPY (def 0 ∷ fixed al ∷ []) ∷ [])
    ∷ block 1 (1 ∷ []) [] (instr 1 COPY (def 1 ∷ val 0 ∷ []) ∷ instr 2 COPY (def 0 ∷ val 1 ∷ []) ∷ instr 3 JMP (to_block 1 ∷ []) ∷ [])
    ∷ [])

-- `undef %0.sub_8 = ..` begins %0; without `undef` its other lanes are read from before
abbrev pub begins : (RegOp → RegOp) → Function
begins mark = function (gr32 ∷ []) (block 0 [] [] (
    instr 0 MOV8ri (op (mark (part (as_def (virtual 0)) sub_8)) ∷ imm 5 ∷ [])
    ∷ instr 1 COPY (fixed_def eax ∷ val 0 ∷ [])
    ∷ ret 2 ∷ []) ∷ [])

-- a range that is read and never written
abbrev pub never_written : Function
never_written = function (gr32 ∷ []) (block 0 [] [] (instr 0 COPY (fixed_def eax ∷ val 0 ∷ []) ∷ ret 1 ∷ []) ∷ [])

-- a fixed register that is live into the second block, where these are listed
abbrev pub across : List ℕ → Function
across listed = function [] (block 0 (1 ∷ []) (al ∷ []) [] ∷ block 1 [] listed (instr 0 RET (implicit al ∷ []) ∷ []) ∷ [])

-- three operands in the two registers of one class
abbrev pub crowded : Instr
crowded = instr 3 MADD32 (def 3 ∷ val 0 ∷ val 1 ∷ val 2 ∷ flags_defined)

abbrev pub crowd : List ℕ → Instr → Function
crowd classes last = function classes (block 0 [] (eax ∷ ecx ∷ edx ∷ []) (
    instr 0 COPY (def 0 ∷ fixed eax ∷ [])
    ∷ instr 1 COPY (def 1 ∷ fixed ecx ∷ [])
    ∷ instr 2 COPY (def 2 ∷ fixed edx ∷ [])
    ∷ last
    ∷ instr 4 RET [] ∷ []) ∷ [])

-- reloads into three tinies for one instruction, of which the first may lie in any register
abbrev pub chosen : Instr
chosen = instr 3 MLA32 (def 3 ∷ val 0 ∷ val 1 ∷ val 2 ∷ flags_defined)
