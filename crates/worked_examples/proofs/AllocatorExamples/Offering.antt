-- Offers tried on worked rows.
use Rattle.std.specs.Prelude.{◌≡◌, zero, suc, List, [], ◌∷◌, Some, None, true, refl}
use Rattle.target_base.specs.declared.types.Reg.{Reg}
use Rattle.target_base.specs.Numbers.{reg_number}
use Rattle.target_base.specs.Mini.{mini_target}
use Rattle.meaning.specs.Live.{here, there}
use Rattle.mir_func.specs.Value.{Function}
use Rattle.mir_meaning.specs.Codes.{item_of}
use Rattle.mir_meaning.specs.Points.{points_of, point_item}
use Rattle.worked_examples.specs.MachineCode.Sample.{def, val, fixed, imm, symbol, csr, to_block, implicit, implicit_def, instr, block, function, gr32, eax, ecx, eflags, COPY, STORE32mr, CMP32rr, JCC, CALL, RET}
use Rattle.live_lanes.specs.declared.ask.labels.Mark.{Mark}
use Rattle.split_choose.specs.Offers.{Border, In, OneBundle, Out, Local, PerBlock, Region, Shows, View, at_gap, at_start, back, edge, itself, onward}
use Rattle.worked_examples.proofs.MachineCodeLemmas.Everywhere.{is_computed, live_test, point_test, range_live, range_points}
use Rattle.worked_examples.proofs.AllocatorExamples.Held.{held_by_others, held_test}
use Rattle.worked_examples.proofs.AllocatorExamples.Bundles.{bundle_test, one_bundle}

abbrev ebx : Reg
ebx = reg_number 3

-- %0 has $ebx, over the call; %1 is to be split
abbrev pub over_a_call : Function
over_a_call = record (function (gr32 ∷ gr32 ∷ []) (block 0 [] (eax ∷ ecx ∷ []) (
    instr 0 COPY (def 0 ∷ fixed eax ∷ [])
    ∷ instr 1 COPY (def 1 ∷ fixed ecx ∷ [])
    ∷ instr 2 STORE32mr (val 0 ∷ imm 0 ∷ val 0 ∷ [])
    ∷ instr 3 CALL (symbol ∷ csr ∷ [])
    ∷ instr 4 STORE32mr (val 1 ∷ imm 0 ∷ val 0 ∷ [])
    ∷ instr 5 STORE32mr (val 1 ∷ imm 4 ∷ val 1 ∷ [])
    ∷ instr 6 RET [] ∷ []) ∷ [])) { next_id = 7 }

abbrev pub behind_the_call : List Mark
behind_the_call = at_gap 0 (Some 4) 1 ∷ at_gap 0 (Some 6) 0 ∷ []

pub call_computed : is_computed mini_target over_a_call 5 12 ≡ true
unfolding mini_target points_of point_item item_of
call_computed = refl

abbrev alone : Border → Border
alone x = x

abbrev call_view : View
call_view = record {
  live = live_test mini_target over_a_call 5 12 call_computed 1;
  is_point = point_test mini_target over_a_call 5 12 call_computed 1;
  held = held_test mini_target over_a_call 5 12 call_computed (Some ebx ∷ None ∷ []) 1;
  one_bundle = bundle_test over_a_call.blocks alone;
}

call_shown : Shows mini_target over_a_call (Some ebx ∷ None ∷ []) 1 call_view
call_shown = record {
  live = λ p j. range_live mini_target over_a_call 5 12 call_computed 1 p;
  is_point = λ p j. range_points mini_target over_a_call 5 12 call_computed 1 p;
  held = λ u p j. held_by_others mini_target over_a_call 5 12 call_computed (Some ebx ∷ None ∷ []) 1 (u, p);
  one_bundle = one_bundle over_a_call.blocks alone refl (λ x. itself);
}

pub no_region : Region mini_target over_a_call (Some ebx ∷ None ∷ []) (16384 ∷ []) 1 None
unfolding mini_target points_of point_item item_of
no_region = (call_view, call_shown, refl)

pub no_block : PerBlock mini_target over_a_call (Some ebx ∷ None ∷ []) 1 None
unfolding mini_target points_of point_item item_of
no_block = (call_view, call_shown, refl)

-- a run of the two stores behind the call, in $eax
pub local_run : Local mini_target over_a_call (Some ebx ∷ None ∷ []) 1 (Some (reg_number 0, behind_the_call))
unfolding mini_target points_of point_item item_of
local_run = (call_view, call_shown, refl)

-- two loops, the second with a call; %1 has $ebx
abbrev two_loops : Function
two_loops = record (function (gr32 ∷ gr32 ∷ []) (
    block 0 (1 ∷ []) (eax ∷ ecx ∷ []) (instr 0 COPY (def 0 ∷ fixed eax ∷ []) ∷ instr 1 COPY (def 1 ∷ fixed ecx ∷ []) ∷ [])
    ∷ block 1 (1 ∷ 2 ∷ []) [] (
    instr 2 STORE32mr (val 0 ∷ imm 0 ∷ val 0 ∷ [])
    ∷ instr 3 CMP32rr (val 0 ∷ val 1 ∷ implicit_def eflags ∷ [])
    ∷ instr 4 JCC (to_block 1 ∷ imm 5 ∷ implicit eflags ∷ []) ∷ [])
    ∷ block 2 (3 ∷ []) [] []
    ∷ block 3 (3 ∷ 4 ∷ []) [] (
    instr 5 CALL (symbol ∷ csr ∷ [])
    ∷ instr 6 STORE32mr (val 1 ∷ imm 0 ∷ val 1 ∷ [])
    ∷ instr 7 CMP32rr (val 1 ∷ val 1 ∷ implicit_def eflags ∷ [])
    ∷ instr 8 JCC (to_block 3 ∷ imm 5 ∷ implicit eflags ∷ []) ∷ [])
    ∷ block 4 [] [] (instr 9 STORE32mr (val 0 ∷ imm 0 ∷ val 1 ∷ []) ∷ instr 10 RET [] ∷ [])
    ∷ [])) { next_id = 11 }

loops_computed : is_computed mini_target two_loops 8 26 ≡ true
unfolding mini_target points_of point_item item_of
loops_computed = refl

-- the ends of the first blocks of the two loops' bundles stand for them
abbrev stands : Border → Border
stands (In (suc zero)) = Out 0
stands (Out (suc zero)) = Out 0
stands (In (suc (suc zero))) = Out 0
stands (In (suc (suc (suc zero)))) = Out 2
stands (Out (suc (suc (suc zero)))) = Out 2
stands (In (suc (suc (suc (suc zero))))) = Out 2
stands x = x

reached : (x : Border) → OneBundle two_loops.blocks (x, stands x)
reached (In zero) = itself
reached (In (suc zero)) = back (edge here here)
reached (In (suc (suc zero))) = onward (back (edge (there here) (there here))) (onward (edge (there here) here) (back (edge here here)))
reached (In (suc (suc (suc zero)))) = back (edge (there (there here)) here)
reached (In (suc (suc (suc (suc zero))))) = onward (back (edge (there (there (there here))) (there here))) (onward (edge (there (there (there here))) here) (back (edge (there (there here)) here)))
reached (In (suc (suc (suc (suc (suc n)))))) = itself
reached (Out zero) = itself
reached (Out (suc zero)) = onward (edge (there here) here) (back (edge here here))
reached (Out (suc (suc zero))) = itself
reached (Out (suc (suc (suc zero)))) = onward (edge (there (there (there here))) here) (back (edge (there (there here)) here))
reached (Out (suc (suc (suc (suc n))))) = itself

abbrev loops_view : View
loops_view = record {
  live = live_test mini_target two_loops 8 26 loops_computed 0;
  is_point = point_test mini_target two_loops 8 26 loops_computed 0;
  held = held_test mini_target two_loops 8 26 loops_computed (None ∷ Some ebx ∷ []) 0;
  one_bundle = bundle_test two_loops.blocks stands;
}

loops_shown : Shows mini_target two_loops (None ∷ Some ebx ∷ []) 0 loops_view
loops_shown = record {
  live = λ p j. range_live mini_target two_loops 8 26 loops_computed 0 p;
  is_point = λ p j. range_points mini_target two_loops 8 26 loops_computed 0 p;
  held = λ u p j. held_by_others mini_target two_loops 8 26 loops_computed (None ∷ Some ebx ∷ []) 0 (u, p);
  one_bundle = one_bundle two_loops.blocks stands refl reached;
}

-- the first loop and what leads to it and from it, up to the second, in $eax
pub loop_region : Region mini_target two_loops (None ∷ Some ebx ∷ []) (16384 ∷ 32767 ∷ 16383 ∷ 32765 ∷ 16382 ∷ []) 0 (Some (reg_number 0, at_start 0 1 ∷ at_start 1 1 ∷ at_start 2 1 ∷ at_gap 2 None 0 ∷ []))
unfolding mini_target points_of point_item item_of
loop_region = (loops_view, loops_shown, refl)

-- by block, the first loop alone has two places
pub loop_block : PerBlock mini_target two_loops (None ∷ Some ebx ∷ []) 0 (Some (at_gap 1 (Some 2) 1 ∷ at_gap 1 (Some 4) 0 ∷ []))
unfolding mini_target points_of point_item item_of
loop_block = (loops_view, loops_shown, refl)
