-- Worked examples of spilling, each with what a model of the tool gives, which was written apart from these definitions.
use Rattle.std.proofs.Common.{◌≡◌, ◌∷◌, refl, []}
use Rattle.std.specs.Prelude.{map, List}
use Rattle.target_base.specs.Mini.{mini_target}
use Rattle.mir_func.specs.declared.func.Block.{Block}
use Rattle.mir_func.specs.Value.{Function}
use Rattle.spiller.specs.Spilled.{spilled, tinies, slots_after}
use Rattle.spiller.proofs.Sample.{seen, seen_over, paired_target, function, block, instr, facts, slots_of, some_class, def, val, part_def, part_val, undef_fixed, fixed_def, fixed, implicit_def, implicit, imm, to_block, subreg, slot, symbol, csr, COPY, IMPLICIT_DEF, MOV32ri, ADD8rr, CMP32rr, STORE32mr, JCC, JNZ32, CALL, RET, NOP, SPILL32, SPILL8, SPILL64, RELOAD32, RELOAD8, RELOAD64, LDP, LDPOST}

-- A constant that one definition makes is repeated where it is read; it isn't needed before, and there is no slot.
abbrev constant_repeated_before : Function
constant_repeated_before = function 5 (0 ∷ 0 ∷ []) (
    block 0 [] (1 ∷ []) (
    instr 0 MOV32ri (def 0 ∷ imm 7 ∷ []) ∷
    instr 1 COPY (def 1 ∷ fixed 1 ∷ []) ∷
    instr 2 CALL (symbol ∷ csr ∷ []) ∷
    instr 3 STORE32mr (val 1 ∷ imm 0 ∷ val 0 ∷ []) ∷
    instr 4 RET [] ∷ []) ∷ [])

abbrev constant_repeated_after : List Block
constant_repeated_after = (
    block 0 [] (1 ∷ []) (
    instr 0 COPY (def 1 ∷ fixed 1 ∷ []) ∷
    instr 0 CALL (symbol ∷ csr ∷ []) ∷
    instr 0 MOV32ri (def 2 ∷ imm 7 ∷ []) ∷
    instr 0 STORE32mr (val 1 ∷ imm 0 ∷ val 2 ∷ []) ∷
    instr 0 RET [] ∷ []) ∷ [])

pub constant_repeated :
    seen constant_repeated_before (slots_of (0 ∷ 1 ∷ []) [] []) 0 (facts ((0, 0) ∷ (0, 1) ∷ (0, 2) ∷ (1, 0) ∷ (1, 1) ∷ (1, 2) ∷ (2, 0) ∷ (2, 1) ∷ (2, 2) ∷ []) ((0, 0, 3) ∷ (0, 1, 3) ∷ (0, 2, 3) ∷ []))
    ≡ (constant_repeated_after, map some_class (0 ∷ 0 ∷ 0 ∷ []), ((2, 3) ∷ []), slots_of (0 ∷ 1 ∷ 2 ∷ []) [] [])
unfolding mini_target spilled tinies slots_after
constant_repeated = refl

-- Two definitions reach the reading: both are stored, and it is reloaded.
abbrev pub two_reach_before : Function
two_reach_before = function 7 (0 ∷ 0 ∷ []) (
    block 0 (2 ∷ 1 ∷ []) (1 ∷ []) (
    instr 0 MOV32ri (def 0 ∷ imm 7 ∷ []) ∷
    instr 1 COPY (def 1 ∷ fixed 1 ∷ []) ∷
    instr 2 JNZ32 (val 1 ∷ to_block 2 ∷ []) ∷ []) ∷
    block 1 (2 ∷ []) [] (
    instr 3 MOV32ri (def 0 ∷ imm 9 ∷ []) ∷ []) ∷
    block 2 [] [] (
    instr 4 CALL (symbol ∷ csr ∷ []) ∷
    instr 5 STORE32mr (val 1 ∷ imm 0 ∷ val 0 ∷ []) ∷
    instr 6 RET [] ∷ []) ∷ [])

abbrev two_reach_after : List Block
two_reach_after = (
    block 0 (2 ∷ 1 ∷ []) (1 ∷ []) (
    instr 0 MOV32ri (def 2 ∷ imm 7 ∷ []) ∷
    instr 0 SPILL32 (val 2 ∷ slot 0 ∷ imm 0 ∷ []) ∷
    instr 0 COPY (def 1 ∷ fixed 1 ∷ []) ∷
    instr 0 JNZ32 (val 1 ∷ to_block 2 ∷ []) ∷ []) ∷
    block 1 (2 ∷ []) [] (
    instr 0 MOV32ri (def 3 ∷ imm 9 ∷ []) ∷
    instr 0 SPILL32 (val 3 ∷ slot 0 ∷ imm 0 ∷ []) ∷ []) ∷
    block 2 [] [] (
    instr 0 CALL (symbol ∷ csr ∷ []) ∷
    instr 0 RELOAD32 (def 4 ∷ slot 0 ∷ imm 0 ∷ []) ∷
    instr 0 STORE32mr (val 1 ∷ imm 0 ∷ val 4 ∷ []) ∷
    instr 0 RET [] ∷ []) ∷ [])

pub two_reach :
    seen two_reach_before (slots_of (0 ∷ 1 ∷ []) [] []) 0 (facts ((0, 0) ∷ (0, 1) ∷ (0, 2) ∷ (1, 0) ∷ (1, 1) ∷ (1, 2) ∷ (2, 0) ∷ (2, 1) ∷ (2, 2) ∷ (3, 0) ∷ (3, 1) ∷ (3, 2) ∷ (4, 0) ∷ (4, 1) ∷ (4, 2) ∷ []) ((0, 0, 5) ∷ (0, 1, 5) ∷ (0, 2, 5) ∷ (3, 0, 5) ∷ (3, 1, 5) ∷ (3, 2, 5) ∷ []))
    ≡ (two_reach_after, map some_class (0 ∷ 0 ∷ 0 ∷ 0 ∷ 0 ∷ []), ((2, 0) ∷ (3, 4) ∷ (4, 8) ∷ []), slots_of (0 ∷ 1 ∷ 2 ∷ 3 ∷ 4 ∷ []) ((0, 0) ∷ []) [])
unfolding mini_target spilled tinies slots_after
two_reach = refl

-- A copy to a fixed register of the constant's class becomes the constant.
abbrev repeated_for_a_copy_before : Function
repeated_for_a_copy_before = function 4 (0 ∷ []) (
    block 0 [] [] (
    instr 0 MOV32ri (def 0 ∷ imm 7 ∷ []) ∷
    instr 1 CALL (symbol ∷ csr ∷ []) ∷
    instr 2 COPY (fixed_def 0 ∷ val 0 ∷ []) ∷
    instr 3 RET (implicit 0 ∷ []) ∷ []) ∷ [])

abbrev repeated_for_a_copy_after : List Block
repeated_for_a_copy_after = (
    block 0 [] [] (
    instr 0 CALL (symbol ∷ csr ∷ []) ∷
    instr 0 MOV32ri (fixed_def 0 ∷ imm 7 ∷ []) ∷
    instr 0 RET (implicit 0 ∷ []) ∷ []) ∷ [])

pub repeated_for_a_copy :
    seen repeated_for_a_copy_before (slots_of (0 ∷ []) [] []) 0 (facts ((0, 0) ∷ (0, 1) ∷ (0, 2) ∷ (1, 0) ∷ (1, 1) ∷ (1, 2) ∷ []) ((0, 0, 2) ∷ (0, 1, 2) ∷ (0, 2, 2) ∷ []))
    ≡ (repeated_for_a_copy_after, map some_class (0 ∷ []), [], slots_of (0 ∷ []) [] [])
unfolding mini_target spilled tinies slots_after
repeated_for_a_copy = refl

-- A constant that nobody reads gets its tiny, and no store.
abbrev never_read_before : Function
never_read_before = function 2 (0 ∷ []) (
    block 0 [] [] (
    instr 0 MOV32ri (def 0 ∷ imm 7 ∷ []) ∷
    instr 1 RET [] ∷ []) ∷ [])

abbrev never_read_after : List Block
never_read_after = (
    block 0 [] [] (
    instr 0 MOV32ri (def 1 ∷ imm 7 ∷ []) ∷
    instr 0 RET [] ∷ []) ∷ [])

pub never_read :
    seen never_read_before (slots_of (0 ∷ []) [] []) 0 (facts [] [])
    ≡ (never_read_after, map some_class (0 ∷ 0 ∷ []), ((1, 0) ∷ []), slots_of (0 ∷ 1 ∷ []) [] [])
unfolding mini_target spilled tinies slots_after
never_read = refl

-- A copy to the range becomes a store. The reload for a terminator stands before the first of them.
abbrev before_terminators_before : Function
before_terminators_before = function 8 (0 ∷ 0 ∷ []) (
    block 0 (2 ∷ 1 ∷ []) (0 ∷ 1 ∷ []) (
    instr 0 COPY (def 0 ∷ fixed 0 ∷ []) ∷
    instr 1 COPY (def 1 ∷ fixed 1 ∷ []) ∷
    instr 2 CALL (symbol ∷ csr ∷ []) ∷
    instr 3 CMP32rr (val 1 ∷ val 1 ∷ implicit_def 18 ∷ []) ∷
    instr 4 JCC (to_block 2 ∷ imm 4 ∷ implicit 18 ∷ []) ∷
    instr 5 JNZ32 (val 0 ∷ to_block 2 ∷ []) ∷ []) ∷
    block 1 [] [] (
    instr 6 RET [] ∷ []) ∷
    block 2 [] [] (
    instr 7 RET [] ∷ []) ∷ [])

abbrev before_terminators_after : List Block
before_terminators_after = (
    block 0 (2 ∷ 1 ∷ []) (0 ∷ 1 ∷ []) (
    instr 0 SPILL32 (fixed 0 ∷ slot 0 ∷ imm 0 ∷ []) ∷
    instr 0 COPY (def 1 ∷ fixed 1 ∷ []) ∷
    instr 0 CALL (symbol ∷ csr ∷ []) ∷
    instr 0 CMP32rr (val 1 ∷ val 1 ∷ implicit_def 18 ∷ []) ∷
    instr 0 RELOAD32 (def 2 ∷ slot 0 ∷ imm 0 ∷ []) ∷
    instr 0 JCC (to_block 2 ∷ imm 4 ∷ implicit 18 ∷ []) ∷
    instr 0 JNZ32 (val 2 ∷ to_block 2 ∷ []) ∷ []) ∷
    block 1 [] [] (
    instr 0 RET [] ∷ []) ∷
    block 2 [] [] (
    instr 0 RET [] ∷ []) ∷ [])

pub before_terminators :
    seen before_terminators_before (slots_of (0 ∷ 1 ∷ []) [] []) 0 (facts ((0, 0) ∷ (0, 1) ∷ (0, 2) ∷ (1, 0) ∷ (1, 1) ∷ (1, 2) ∷ (2, 0) ∷ (2, 1) ∷ (2, 2) ∷ (3, 0) ∷ (3, 1) ∷ (3, 2) ∷ (4, 0) ∷ (4, 1) ∷ (4, 2) ∷ []) ((0, 0, 5) ∷ (0, 1, 5) ∷ (0, 2, 5) ∷ []))
    ≡ (before_terminators_after, map some_class (0 ∷ 0 ∷ 0 ∷ []), ((2, 5) ∷ []), slots_of (0 ∷ 1 ∷ 2 ∷ []) ((0, 0) ∷ []) [])
unfolding mini_target spilled tinies slots_after
before_terminators = refl

-- A definition without a value becomes a store of an `undef` register; a copy is stored though nothing reads it.
abbrev undefined_stored_before : Function
undefined_stored_before = function 5 (0 ∷ []) (
    block 0 [] (0 ∷ []) (
    instr 0 COPY (def 0 ∷ fixed 0 ∷ []) ∷
    instr 1 IMPLICIT_DEF (def 0 ∷ []) ∷
    instr 2 CALL (symbol ∷ csr ∷ []) ∷
    instr 3 NOP (val 0 ∷ []) ∷
    instr 4 RET [] ∷ []) ∷ [])

abbrev undefined_stored_after : List Block
undefined_stored_after = (
    block 0 [] (0 ∷ []) (
    instr 0 SPILL32 (fixed 0 ∷ slot 0 ∷ imm 0 ∷ []) ∷
    instr 0 SPILL32 (undef_fixed 0 ∷ slot 0 ∷ imm 0 ∷ []) ∷
    instr 0 CALL (symbol ∷ csr ∷ []) ∷
    instr 0 RELOAD32 (def 1 ∷ slot 0 ∷ imm 0 ∷ []) ∷
    instr 0 NOP (val 1 ∷ []) ∷
    instr 0 RET [] ∷ []) ∷ [])

pub undefined_stored :
    seen undefined_stored_before (slots_of (0 ∷ []) [] []) 0 (facts ((1, 0) ∷ (1, 1) ∷ (1, 2) ∷ (2, 0) ∷ (2, 1) ∷ (2, 2) ∷ []) ((1, 0, 3) ∷ (1, 1, 3) ∷ (1, 2, 3) ∷ []))
    ≡ (undefined_stored_after, map some_class (0 ∷ 0 ∷ []), ((1, 4) ∷ []), slots_of (0 ∷ 1 ∷ []) ((0, 0) ∷ []) [])
unfolding mini_target spilled tinies slots_after
undefined_stored = refl

-- A tied use shares the definition's tiny, which is numbered and reloaded behind those of the other uses. Lanes are named by indexes. One way of reading at two operands gets one tiny.
abbrev tied_part_before : Function
tied_part_before = function 4 (0 ∷ []) (
    block 0 [] (0 ∷ []) (
    instr 0 COPY (def 0 ∷ fixed 0 ∷ []) ∷
    instr 1 ADD8rr (part_def 0 0 ∷ part_val 0 0 ∷ part_val 0 1 ∷ implicit_def 18 ∷ []) ∷
    instr 2 STORE32mr (val 0 ∷ imm 0 ∷ val 0 ∷ []) ∷
    instr 3 RET [] ∷ []) ∷ [])

abbrev tied_part_after : List Block
tied_part_after = (
    block 0 [] (0 ∷ []) (
    instr 0 SPILL32 (fixed 0 ∷ slot 0 ∷ imm 0 ∷ []) ∷
    instr 0 RELOAD8 (def 1 ∷ slot 0 ∷ subreg 1 ∷ []) ∷
    instr 0 RELOAD8 (def 2 ∷ slot 0 ∷ subreg 0 ∷ []) ∷
    instr 0 ADD8rr (def 2 ∷ val 2 ∷ val 1 ∷ implicit_def 18 ∷ []) ∷
    instr 0 SPILL8 (val 2 ∷ slot 0 ∷ subreg 0 ∷ []) ∷
    instr 0 RELOAD32 (def 3 ∷ slot 0 ∷ imm 0 ∷ []) ∷
    instr 0 STORE32mr (val 3 ∷ imm 0 ∷ val 3 ∷ []) ∷
    instr 0 RET [] ∷ []) ∷ [])

pub tied_part :
    seen tied_part_before (slots_of (0 ∷ []) [] []) 0 (facts ((0, 0) ∷ (0, 1) ∷ (0, 2) ∷ (1, 0) ∷ (1, 1) ∷ (1, 2) ∷ []) ((0, 0, 1) ∷ (0, 1, 1) ∷ (0, 1, 2) ∷ (0, 2, 2) ∷ (1, 0, 2) ∷ []))
    ≡ (tied_part_after, map some_class (0 ∷ 2 ∷ 2 ∷ 0 ∷ []), ((1, 3) ∷ (2, 3) ∷ (3, 6) ∷ []), slots_of (0 ∷ 1 ∷ 2 ∷ 3 ∷ []) ((0, 0) ∷ []) [])
unfolding mini_target spilled tinies slots_after
tied_part = refl

-- A copy between different lanes of the range goes through a tiny, whose place is the store.
abbrev copied_within_the_range_before : Function
copied_within_the_range_before = function 4 (0 ∷ []) (
    block 0 [] (0 ∷ []) (
    instr 0 COPY (def 0 ∷ fixed 0 ∷ []) ∷
    instr 1 COPY (part_def 0 0 ∷ part_val 0 1 ∷ []) ∷
    instr 2 STORE32mr (val 0 ∷ imm 0 ∷ val 0 ∷ []) ∷
    instr 3 RET [] ∷ []) ∷ [])

abbrev copied_within_the_range_after : List Block
copied_within_the_range_after = (
    block 0 [] (0 ∷ []) (
    instr 0 SPILL32 (fixed 0 ∷ slot 0 ∷ imm 0 ∷ []) ∷
    instr 0 RELOAD8 (def 1 ∷ slot 0 ∷ subreg 1 ∷ []) ∷
    instr 0 SPILL8 (val 1 ∷ slot 0 ∷ subreg 0 ∷ []) ∷
    instr 0 RELOAD32 (def 2 ∷ slot 0 ∷ imm 0 ∷ []) ∷
    instr 0 STORE32mr (val 2 ∷ imm 0 ∷ val 2 ∷ []) ∷
    instr 0 RET [] ∷ []) ∷ [])

pub copied_within_the_range :
    seen copied_within_the_range_before (slots_of (0 ∷ []) [] []) 0 (facts ((0, 1) ∷ (0, 2) ∷ (1, 0) ∷ (1, 1) ∷ (1, 2) ∷ []) ((0, 1, 1) ∷ (0, 1, 2) ∷ (0, 2, 2) ∷ (1, 0, 2) ∷ []))
    ≡ (copied_within_the_range_after, map some_class (0 ∷ 2 ∷ 0 ∷ []), ((1, 2) ∷ (2, 4) ∷ []), slots_of (0 ∷ 1 ∷ 2 ∷ []) ((0, 0) ∷ []) [])
unfolding mini_target spilled tinies slots_after
copied_within_the_range = refl

-- A copy from the range becomes a reload of the other register.
abbrev copied_out_of_it_before : Function
copied_out_of_it_before = function 6 (0 ∷ 0 ∷ []) (
    block 0 [] (0 ∷ []) (
    instr 0 COPY (def 0 ∷ fixed 0 ∷ []) ∷
    instr 1 CALL (symbol ∷ csr ∷ []) ∷
    instr 2 COPY (def 1 ∷ val 0 ∷ []) ∷
    instr 3 CALL (symbol ∷ csr ∷ []) ∷
    instr 4 STORE32mr (val 1 ∷ imm 4 ∷ val 1 ∷ []) ∷
    instr 5 RET [] ∷ []) ∷ [])

abbrev copied_out_of_it_after : List Block
copied_out_of_it_after = (
    block 0 [] (0 ∷ []) (
    instr 0 SPILL32 (fixed 0 ∷ slot 0 ∷ imm 0 ∷ []) ∷
    instr 0 CALL (symbol ∷ csr ∷ []) ∷
    instr 0 RELOAD32 (def 1 ∷ slot 0 ∷ imm 0 ∷ []) ∷
    instr 0 CALL (symbol ∷ csr ∷ []) ∷
    instr 0 STORE32mr (val 1 ∷ imm 4 ∷ val 1 ∷ []) ∷
    instr 0 RET [] ∷ []) ∷ [])

pub copied_out_of_it :
    seen copied_out_of_it_before (slots_of (0 ∷ 1 ∷ []) [] []) 0 (facts ((0, 0) ∷ (0, 1) ∷ (0, 2) ∷ (1, 0) ∷ (1, 1) ∷ (1, 2) ∷ []) ((0, 0, 2) ∷ (0, 1, 2) ∷ (0, 2, 2) ∷ []))
    ≡ (copied_out_of_it_after, map some_class (0 ∷ 0 ∷ []), [], slots_of (0 ∷ 1 ∷ []) ((0, 0) ∷ []) [])
unfolding mini_target spilled tinies slots_after
copied_out_of_it = refl

-- Then the other range is spilled: the reload becomes one into a tiny, and a store of it.
abbrev from_slot_to_slot_before : Function
from_slot_to_slot_before = function 8 (0 ∷ 0 ∷ []) (
    block 0 [] (0 ∷ []) (
    instr 6 SPILL32 (fixed 0 ∷ slot 0 ∷ imm 0 ∷ []) ∷
    instr 1 CALL (symbol ∷ csr ∷ []) ∷
    instr 7 RELOAD32 (def 1 ∷ slot 0 ∷ imm 0 ∷ []) ∷
    instr 3 CALL (symbol ∷ csr ∷ []) ∷
    instr 4 STORE32mr (val 1 ∷ imm 4 ∷ val 1 ∷ []) ∷
    instr 5 RET [] ∷ []) ∷ [])

abbrev from_slot_to_slot_after : List Block
from_slot_to_slot_after = (
    block 0 [] (0 ∷ []) (
    instr 0 SPILL32 (fixed 0 ∷ slot 0 ∷ imm 0 ∷ []) ∷
    instr 0 CALL (symbol ∷ csr ∷ []) ∷
    instr 0 RELOAD32 (def 2 ∷ slot 0 ∷ imm 0 ∷ []) ∷
    instr 0 SPILL32 (val 2 ∷ slot 1 ∷ imm 0 ∷ []) ∷
    instr 0 CALL (symbol ∷ csr ∷ []) ∷
    instr 0 RELOAD32 (def 3 ∷ slot 1 ∷ imm 0 ∷ []) ∷
    instr 0 STORE32mr (val 3 ∷ imm 4 ∷ val 3 ∷ []) ∷
    instr 0 RET [] ∷ []) ∷ [])

pub from_slot_to_slot :
    seen from_slot_to_slot_before (slots_of (0 ∷ 1 ∷ []) ((0, 0) ∷ []) []) 1 (facts ((7, 0) ∷ (7, 1) ∷ (7, 2) ∷ (3, 0) ∷ (3, 1) ∷ (3, 2) ∷ []) ((7, 0, 4) ∷ (7, 1, 4) ∷ (7, 2, 4) ∷ []))
    ≡ (from_slot_to_slot_after, map some_class (0 ∷ 0 ∷ 0 ∷ 0 ∷ []), ((2, 3) ∷ (3, 6) ∷ []), slots_of (0 ∷ 1 ∷ 2 ∷ 3 ∷ []) ((0, 0) ∷ (1, 1) ∷ []) [])
unfolding mini_target spilled tinies slots_after
from_slot_to_slot = refl

-- The same where both come from one range and share its slot: the reload goes.
abbrev from_its_own_slot_before : Function
from_its_own_slot_before = function 8 (0 ∷ 0 ∷ []) (
    block 0 [] (0 ∷ []) (
    instr 6 SPILL32 (fixed 0 ∷ slot 0 ∷ imm 0 ∷ []) ∷
    instr 1 CALL (symbol ∷ csr ∷ []) ∷
    instr 7 RELOAD32 (def 1 ∷ slot 0 ∷ imm 0 ∷ []) ∷
    instr 3 CALL (symbol ∷ csr ∷ []) ∷
    instr 4 STORE32mr (val 1 ∷ imm 4 ∷ val 1 ∷ []) ∷
    instr 5 RET [] ∷ []) ∷ [])

abbrev from_its_own_slot_after : List Block
from_its_own_slot_after = (
    block 0 [] (0 ∷ []) (
    instr 0 SPILL32 (fixed 0 ∷ slot 0 ∷ imm 0 ∷ []) ∷
    instr 0 CALL (symbol ∷ csr ∷ []) ∷
    instr 0 CALL (symbol ∷ csr ∷ []) ∷
    instr 0 RELOAD32 (def 2 ∷ slot 0 ∷ imm 0 ∷ []) ∷
    instr 0 STORE32mr (val 2 ∷ imm 4 ∷ val 2 ∷ []) ∷
    instr 0 RET [] ∷ []) ∷ [])

pub from_its_own_slot :
    seen from_its_own_slot_before (slots_of (0 ∷ 0 ∷ []) ((0, 0) ∷ []) []) 1 (facts ((7, 0) ∷ (7, 1) ∷ (7, 2) ∷ (3, 0) ∷ (3, 1) ∷ (3, 2) ∷ []) ((7, 0, 4) ∷ (7, 1, 4) ∷ (7, 2, 4) ∷ []))
    ≡ (from_its_own_slot_after, map some_class (0 ∷ 0 ∷ 0 ∷ []), ((2, 4) ∷ []), slots_of (0 ∷ 0 ∷ 2 ∷ []) ((0, 0) ∷ []) [])
unfolding mini_target spilled tinies slots_after
from_its_own_slot = refl

-- Two definitions of one range, of its halves: a tiny and a store for each.
abbrev two_halves_before : Function
two_halves_before = function 5 (0 ∷ 4 ∷ []) (
    block 0 [] (2 ∷ []) (
    instr 0 COPY (def 0 ∷ fixed 2 ∷ []) ∷
    instr 1 LDP (part_def 1 3 ∷ part_def 1 4 ∷ val 0 ∷ imm 0 ∷ []) ∷
    instr 2 CALL (symbol ∷ csr ∷ []) ∷
    instr 3 COPY (fixed_def 16 ∷ val 1 ∷ []) ∷
    instr 4 RET (implicit 16 ∷ []) ∷ []) ∷ [])

abbrev two_halves_after : List Block
two_halves_after = (
    block 0 [] (2 ∷ []) (
    instr 0 COPY (def 0 ∷ fixed 2 ∷ []) ∷
    instr 0 LDP (def 2 ∷ def 3 ∷ val 0 ∷ imm 0 ∷ []) ∷
    instr 0 SPILL32 (val 2 ∷ slot 0 ∷ subreg 3 ∷ []) ∷
    instr 0 SPILL32 (val 3 ∷ slot 0 ∷ subreg 4 ∷ []) ∷
    instr 0 CALL (symbol ∷ csr ∷ []) ∷
    instr 0 RELOAD64 (fixed_def 16 ∷ slot 0 ∷ imm 0 ∷ []) ∷
    instr 0 RET (implicit 16 ∷ []) ∷ []) ∷ [])

pub two_halves :
    seen_over paired_target two_halves_before (slots_of (0 ∷ 1 ∷ []) [] []) 1 (facts ((1, 0) ∷ (1, 1) ∷ (1, 2) ∷ (1, 3) ∷ (1, 4) ∷ (1, 5) ∷ (2, 0) ∷ (2, 1) ∷ (2, 2) ∷ (2, 3) ∷ (2, 4) ∷ (2, 5) ∷ []) ((1, 0, 3) ∷ (1, 1, 3) ∷ (1, 2, 3) ∷ (1, 3, 3) ∷ (1, 4, 3) ∷ (1, 5, 3) ∷ []))
    ≡ (two_halves_after, map some_class (0 ∷ 4 ∷ 0 ∷ 0 ∷ []), ((2, 1) ∷ (3, 1) ∷ []), slots_of (0 ∷ 1 ∷ 2 ∷ 3 ∷ []) ((1, 0) ∷ []) [])
unfolding spilled tinies slots_after
two_halves = refl

-- The use that is tied to one of two definitions is reloaded into that one's tiny, behind the other readings. The other definition isn't live behind, and isn't stored.
abbrev tied_half_before : Function
tied_half_before = function 4 (4 ∷ []) (
    block 0 [] (16 ∷ []) (
    instr 0 COPY (def 0 ∷ fixed 16 ∷ []) ∷
    instr 1 LDPOST (part_def 0 3 ∷ part_def 0 4 ∷ part_val 0 3 ∷ part_val 0 4 ∷ []) ∷
    instr 2 STORE32mr (part_val 0 3 ∷ imm 0 ∷ part_val 0 3 ∷ []) ∷
    instr 3 RET [] ∷ []) ∷ [])

abbrev tied_half_after : List Block
tied_half_after = (
    block 0 [] (16 ∷ []) (
    instr 0 SPILL64 (fixed 16 ∷ slot 0 ∷ imm 0 ∷ []) ∷
    instr 0 RELOAD32 (def 1 ∷ slot 0 ∷ subreg 4 ∷ []) ∷
    instr 0 RELOAD32 (def 2 ∷ slot 0 ∷ subreg 3 ∷ []) ∷
    instr 0 LDPOST (def 2 ∷ def 3 ∷ val 2 ∷ val 1 ∷ []) ∷
    instr 0 SPILL32 (val 2 ∷ slot 0 ∷ subreg 3 ∷ []) ∷
    instr 0 RELOAD32 (def 4 ∷ slot 0 ∷ subreg 3 ∷ []) ∷
    instr 0 STORE32mr (val 4 ∷ imm 0 ∷ val 4 ∷ []) ∷
    instr 0 RET [] ∷ []) ∷ [])

pub tied_half :
    seen_over paired_target tied_half_before (slots_of (0 ∷ []) [] []) 0 (facts ((0, 0) ∷ (0, 1) ∷ (0, 2) ∷ (0, 3) ∷ (0, 4) ∷ (0, 5) ∷ (1, 0) ∷ (1, 1) ∷ (1, 2) ∷ []) ((0, 0, 1) ∷ (0, 1, 1) ∷ (0, 2, 1) ∷ (0, 3, 1) ∷ (0, 4, 1) ∷ (0, 5, 1) ∷ (1, 0, 2) ∷ (1, 1, 2) ∷ (1, 2, 2) ∷ []))
    ≡ (tied_half_after, map some_class (4 ∷ 0 ∷ 0 ∷ 0 ∷ 0 ∷ []), ((1, 3) ∷ (2, 3) ∷ (3, 3) ∷ (4, 6) ∷ []), slots_of (0 ∷ 1 ∷ 2 ∷ 3 ∷ 4 ∷ []) ((0, 0) ∷ []) [])
unfolding spilled tinies slots_after
tied_half = refl

-- A use that is tied to another range's definition is no matter of this range.
abbrev tied_beside_before : Function
tied_beside_before = function 5 (0 ∷ 0 ∷ []) (
    block 0 [] (0 ∷ 1 ∷ []) (
    instr 0 COPY (def 0 ∷ fixed 0 ∷ []) ∷
    instr 1 COPY (def 1 ∷ fixed 1 ∷ []) ∷
    instr 2 LDPOST (def 1 ∷ def 0 ∷ val 1 ∷ val 0 ∷ []) ∷
    instr 3 STORE32mr (val 1 ∷ imm 0 ∷ val 0 ∷ []) ∷
    instr 4 RET [] ∷ []) ∷ [])

abbrev tied_beside_after : List Block
tied_beside_after = (
    block 0 [] (0 ∷ 1 ∷ []) (
    instr 0 SPILL32 (fixed 0 ∷ slot 0 ∷ imm 0 ∷ []) ∷
    instr 0 COPY (def 1 ∷ fixed 1 ∷ []) ∷
    instr 0 RELOAD32 (def 2 ∷ slot 0 ∷ imm 0 ∷ []) ∷
    instr 0 LDPOST (def 1 ∷ def 3 ∷ val 1 ∷ val 2 ∷ []) ∷
    instr 0 SPILL32 (val 3 ∷ slot 0 ∷ imm 0 ∷ []) ∷
    instr 0 RELOAD32 (def 4 ∷ slot 0 ∷ imm 0 ∷ []) ∷
    instr 0 STORE32mr (val 1 ∷ imm 0 ∷ val 4 ∷ []) ∷
    instr 0 RET [] ∷ []) ∷ [])

pub tied_beside :
    seen_over paired_target tied_beside_before (slots_of (0 ∷ 1 ∷ []) [] []) 0 (facts ((0, 0) ∷ (0, 1) ∷ (0, 2) ∷ (1, 0) ∷ (1, 1) ∷ (1, 2) ∷ (2, 0) ∷ (2, 1) ∷ (2, 2) ∷ []) ((0, 0, 2) ∷ (0, 1, 2) ∷ (0, 2, 2) ∷ (2, 0, 3) ∷ (2, 1, 3) ∷ (2, 2, 3) ∷ []))
    ≡ (tied_beside_after, map some_class (0 ∷ 0 ∷ 0 ∷ 0 ∷ 0 ∷ []), ((2, 3) ∷ (3, 3) ∷ (4, 6) ∷ []), slots_of (0 ∷ 1 ∷ 2 ∷ 3 ∷ 4 ∷ []) ((0, 0) ∷ []) [])
unfolding spilled tinies slots_after
tied_beside = refl
