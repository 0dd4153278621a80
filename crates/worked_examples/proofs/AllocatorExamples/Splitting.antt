-- Splits tried on worked rows.
use Rattle.std.specs.Prelude.{◌≡◌, ℕ, true, List, [], ◌∷◌, Option, Some, None, refl}
use Rattle.target_base.specs.Mini.{mini_target}
use Rattle.mir_func.specs.Value.{Function}
use Rattle.mir_meaning.specs.Codes.{item_of}
use Rattle.mir_meaning.specs.Points.{points_of, point_item}
use Rattle.worked_examples.specs.MachineCode.Sample.{def, val, fixed, imm, symbol, csr, to_block, implicit, implicit_def, instr, block, function, gr32, eax, ecx, eflags, COPY, STORE32mr, CMP32rr, JCC, CALL, RET}
use Rattle.live_lanes.specs.declared.ask.labels.Mark.{Mark}
use Rattle.live_lanes.specs.declared.ask.labels.Spot.TheVariants as spots
use Rattle.split_kit.specs.Split.{Split, parts, split_by}
use Rattle.worked_examples.proofs.MachineCodeLemmas.Everywhere.{is_computed, live_test, range_live}

abbrev at_start : ℕ → ℕ → Mark
at_start n label = record { block = n; spot = spots.Border; label = label }

abbrev at_gap : ℕ → Option ℕ → ℕ → Mark
at_gap n before label = record { block = n; spot = spots.Gap (record { block = n; before = before }); label = label }

-- %1 is to be split behind the call
abbrev pub over_a_call : Function
over_a_call = record (function (gr32 ∷ gr32 ∷ []) (block 0 [] (eax ∷ ecx ∷ []) (
    instr 0 COPY (def 0 ∷ fixed eax ∷ [])
    ∷ instr 1 COPY (def 1 ∷ fixed ecx ∷ [])
    ∷ instr 2 STORE32mr (val 0 ∷ imm 0 ∷ val 0 ∷ [])
    ∷ instr 3 CALL (symbol ∷ csr ∷ [])
    ∷ instr 4 STORE32mr (val 1 ∷ imm 0 ∷ val 0 ∷ [])
    ∷ instr 5 STORE32mr (val 1 ∷ imm 4 ∷ val 1 ∷ [])
    ∷ instr 6 RET [] ∷ []) ∷ [])) { next_id = 7 }

-- %2 is what is left of it, and %3 lives from before the first store to behind the second
abbrev pub split_behind_the_call : Function
split_behind_the_call = record (function (gr32 ∷ gr32 ∷ gr32 ∷ gr32 ∷ []) (block 0 [] (eax ∷ ecx ∷ []) (
    instr 0 COPY (def 0 ∷ fixed eax ∷ [])
    ∷ instr 1 COPY (def 2 ∷ fixed ecx ∷ [])
    ∷ instr 2 STORE32mr (val 0 ∷ imm 0 ∷ val 0 ∷ [])
    ∷ instr 3 CALL (symbol ∷ csr ∷ [])
    ∷ instr 7 COPY (def 3 ∷ val 2 ∷ [])
    ∷ instr 4 STORE32mr (val 3 ∷ imm 0 ∷ val 0 ∷ [])
    ∷ instr 5 STORE32mr (val 3 ∷ imm 4 ∷ val 3 ∷ [])
    ∷ instr 6 RET [] ∷ []) ∷ [])) { next_id = 8 }

abbrev pub behind_the_call : List Mark
behind_the_call = at_gap 0 (Some 4) 1 ∷ at_gap 0 (Some 6) 0 ∷ []

pub call_computed : is_computed mini_target over_a_call 5 12 ≡ true
unfolding mini_target points_of point_item item_of
call_computed = refl

pub local_split : Split mini_target over_a_call 1 behind_the_call split_behind_the_call
unfolding mini_target points_of point_item item_of split_by
local_split = (live_test mini_target over_a_call 5 12 call_computed 1, range_live mini_target over_a_call 5 12 call_computed 1, refl)

pub local_parts : parts over_a_call behind_the_call ≡ 2 ∷ 3 ∷ []
local_parts = refl

-- two loops, the second with a call
abbrev two_loops : Function
two_loops = record (function (gr32 ∷ gr32 ∷ []) (
    block 0 (1 ∷ []) (eax ∷ ecx ∷ []) (instr 0 COPY (def 0 ∷ fixed eax ∷ []) ∷ instr 1 COPY (def 1 ∷ fixed ecx ∷ []) ∷ [])
    ∷ block 1 (1 ∷ 2 ∷ []) [] (
    instr 2 STORE32mr (val 0 ∷ imm 0 ∷ val 0 ∷ [])
    ∷ instr 3 CMP32rr (val 0 ∷ val 1 ∷ implicit_def eflags ∷ [])
    ∷ instr 4 JCC (to_block 1 ∷ imm 5 ∷ implicit eflags ∷ []) ∷ [])
    ∷ block 2 (3 ∷ []) [] []
    ∷ block 3 (3 ∷ 4 ∷ []) [] (
    instr 5 CALL (symbol ∷ csr ∷ [])
    ∷ instr 6 STORE32mr (val 1 ∷ imm 0 ∷ val 1 ∷ [])
    ∷ instr 7 CMP32rr (val 1 ∷ val 1 ∷ implicit_def eflags ∷ [])
    ∷ instr 8 JCC (to_block 3 ∷ imm 5 ∷ implicit eflags ∷ []) ∷ [])
    ∷ block 4 [] [] (instr 9 STORE32mr (val 0 ∷ imm 0 ∷ val 1 ∷ []) ∷ instr 10 RET [] ∷ [])
    ∷ [])) { next_id = 11 }

-- %0 in the first loop and up to the second is %3, and %2 behind; the copy stands at the end of a block without instructions
abbrev loops_split : Function
loops_split = record (function (gr32 ∷ gr32 ∷ gr32 ∷ gr32 ∷ []) (
    block 0 (1 ∷ []) (eax ∷ ecx ∷ []) (instr 0 COPY (def 3 ∷ fixed eax ∷ []) ∷ instr 1 COPY (def 1 ∷ fixed ecx ∷ []) ∷ [])
    ∷ block 1 (1 ∷ 2 ∷ []) [] (
    instr 2 STORE32mr (val 3 ∷ imm 0 ∷ val 3 ∷ [])
    ∷ instr 3 CMP32rr (val 3 ∷ val 1 ∷ implicit_def eflags ∷ [])
    ∷ instr 4 JCC (to_block 1 ∷ imm 5 ∷ implicit eflags ∷ []) ∷ [])
    ∷ block 2 (3 ∷ []) [] (instr 11 COPY (def 2 ∷ val 3 ∷ []) ∷ [])
    ∷ block 3 (3 ∷ 4 ∷ []) [] (
    instr 5 CALL (symbol ∷ csr ∷ [])
    ∷ instr 6 STORE32mr (val 1 ∷ imm 0 ∷ val 1 ∷ [])
    ∷ instr 7 CMP32rr (val 1 ∷ val 1 ∷ implicit_def eflags ∷ [])
    ∷ instr 8 JCC (to_block 3 ∷ imm 5 ∷ implicit eflags ∷ []) ∷ [])
    ∷ block 4 [] [] (instr 9 STORE32mr (val 2 ∷ imm 0 ∷ val 1 ∷ []) ∷ instr 10 RET [] ∷ [])
    ∷ [])) { next_id = 12 }

abbrev first_loop : List Mark
first_loop = at_start 0 1 ∷ at_start 1 1 ∷ at_start 2 1 ∷ at_gap 2 None 0 ∷ []

loops_computed : is_computed mini_target two_loops 8 26 ≡ true
unfolding mini_target points_of point_item item_of
loops_computed = refl

pub region_split : Split mini_target two_loops 0 first_loop loops_split
unfolding mini_target points_of point_item item_of split_by
region_split = (live_test mini_target two_loops 8 26 loops_computed 0, range_live mini_target two_loops 8 26 loops_computed 0, refl)
