-- Coalescing tried on worked rows.
use Rattle.std.proofs.Common.{sym, subst}
use Rattle.meaning.specs.Live.{here}
use Rattle.meaning.specs.declared.types.Lane.TheVariants.{VirtualLane}
use Rattle.std.specs.Prelude.{◌≡◌, ℕ, [], ◌∷◌, Some, None, true, refl}
use Rattle.target_base.specs.Numbers.{index_number}
use Rattle.target_base.specs.Mini.{mini_target}
use Rattle.mir_func.specs.Value.{Function}
use Rattle.mir_meaning.specs.Codes.{item_of}
use Rattle.mir_meaning.specs.Points.{Exit, LiveAt, points_of, point_item}
use Rattle.worked_examples.specs.MachineCode.Sample.{virtual, as_def, part, op, def, val, fixed_def, fixed, implicit_def, implicit, imm, instr, block, function, gr32, grp, eax, edx, p0, eflags, sub_lo32, sub_hi32, COPY, IMPLICIT_DEF, ADD32rr, MOV32ri, RET}
use Rattle.worked_examples.proofs.MachineCodeLemmas.Everywhere.{is_computed, live_at}
use Rattle.worked_examples.proofs.MachineCodeLemmas.Quieted.{quieted}
use Rattle.live_edits.specs.declared.fold.Join.{Join}
use Rattle.live_edits.specs.Folded.{image}
use Rattle.join_laws.specs.Quiet.{IsQuiet}
use Rattle.join_laws.specs.Joined.{Joined, copies_in_order, join_at}
use Rattle.join_laws.specs.Joined as tried

abbrev NOP : ℕ
NOP = 44

-- a sum of a register with itself, in lowered form: the tied use has a copy
abbrev added : Function
added = function (gr32 ∷ gr32 ∷ []) (block 0 [] (eax ∷ []) (
    instr 0 COPY (def 0 ∷ fixed eax ∷ [])
    ∷ instr 4 COPY (def 1 ∷ val 0 ∷ [])
    ∷ instr 1 ADD32rr (def 1 ∷ val 1 ∷ val 0 ∷ implicit_def eflags ∷ [])
    ∷ instr 2 COPY (fixed_def eax ∷ val 1 ∷ [])
    ∷ instr 3 RET (implicit eax ∷ []) ∷ []) ∷ [])

-- %1 is %0 from now on, and the copy is gone
abbrev added_joined : Function
added_joined = function (gr32 ∷ gr32 ∷ []) (block 0 [] (eax ∷ []) (
    instr 0 COPY (def 0 ∷ fixed eax ∷ [])
    ∷ instr 1 ADD32rr (def 0 ∷ val 0 ∷ val 0 ∷ implicit_def eflags ∷ [])
    ∷ instr 2 COPY (fixed_def eax ∷ val 0 ∷ [])
    ∷ instr 3 RET (implicit eax ∷ []) ∷ []) ∷ [])

abbrev one_into_zero : Join
one_into_zero = record { keep = 0; gone = 1; index = None }

added_computed : is_computed mini_target added 5 12 ≡ true
unfolding mini_target points_of point_item item_of
added_computed = refl

added_quiet : IsQuiet mini_target added one_into_zero
unfolding mini_target points_of point_item item_of
added_quiet = quieted mini_target added 5 12 (image mini_target one_into_zero) added_computed refl

-- the sum's copy is joined
pub sum_joins : Joined mini_target (16384 ∷ []) added (one_into_zero ∷ []) added_joined
unfolding mini_target
sum_joins = tried.joins (refl, added_quiet) tried.done

-- what a register is put together from: a copy into its low half
abbrev halves : Function
halves = function (gr32 ∷ grp ∷ gr32 ∷ []) (block 0 [] (edx ∷ []) (
    instr 0 COPY (def 0 ∷ fixed edx ∷ [])
    ∷ instr 4 COPY (op (part (as_def (virtual 1)) sub_lo32) ∷ val 0 ∷ [])
    ∷ instr 5 IMPLICIT_DEF (op (part (as_def (virtual 1)) sub_hi32) ∷ [])
    ∷ instr 2 COPY (fixed_def p0 ∷ val 1 ∷ [])
    ∷ instr 3 RET (implicit p0 ∷ []) ∷ []) ∷ [])

-- %0 is the low half of %1 from now on
abbrev halves_joined : Function
halves_joined = function (gr32 ∷ grp ∷ gr32 ∷ []) (block 0 [] (edx ∷ []) (
    instr 0 COPY (op (part (as_def (virtual 1)) sub_lo32) ∷ fixed edx ∷ [])
    ∷ instr 5 IMPLICIT_DEF (op (part (as_def (virtual 1)) sub_hi32) ∷ [])
    ∷ instr 2 COPY (fixed_def p0 ∷ val 1 ∷ [])
    ∷ instr 3 RET (implicit p0 ∷ []) ∷ []) ∷ [])

abbrev zero_into_half : Join
zero_into_half = record { keep = 1; gone = 0; index = Some (index_number sub_lo32) }

halves_computed : is_computed mini_target halves 5 12 ≡ true
unfolding mini_target points_of point_item item_of
halves_computed = refl

halves_quiet : IsQuiet mini_target halves zero_into_half
unfolding mini_target points_of point_item item_of
halves_quiet = quieted mini_target halves 5 12 (image mini_target zero_into_half) halves_computed refl

-- a range joins lanes of another
pub half_joins : Joined mini_target (16384 ∷ []) halves (zero_into_half ∷ []) halves_joined
unfolding mini_target
half_joins = tried.joins (refl, halves_quiet) tried.done

-- the low half of %1 is written while %0, from which it was copied, is read later
abbrev read_later : Function
read_later = function (gr32 ∷ grp ∷ []) (block 0 [] (eax ∷ []) (
    instr 0 COPY (def 0 ∷ fixed eax ∷ [])
    ∷ instr 1 COPY (op (part (as_def (virtual 1)) sub_lo32) ∷ val 0 ∷ [])
    ∷ instr 2 NOP (op (part (virtual 1) sub_lo32) ∷ [])
    ∷ instr 3 MOV32ri (op (part (as_def (virtual 1)) sub_lo32) ∷ imm 3 ∷ [])
    ∷ instr 4 NOP (val 0 ∷ op (part (virtual 1) sub_lo32) ∷ [])
    ∷ instr 5 RET [] ∷ []) ∷ [])

later_computed : is_computed mini_target read_later 5 12 ≡ true
unfolding mini_target points_of point_item item_of
later_computed = refl

later_lives : LiveAt mini_target read_later (Exit 3) (VirtualLane 0 0)
unfolding mini_target points_of point_item item_of
later_lives = (live_at mini_target read_later 5 12 later_computed (Exit 3) (VirtualLane 0 0)).0 refl

not_quiet : IsQuiet mini_target read_later zero_into_half → ⊥
unfolding mini_target points_of point_item item_of
not_quiet q = ((q.1.1.1.1.0) _ here refl (VirtualLane 0 0) refl refl).0 later_lives

same_join : (j : Join) → Some zero_into_half ≡ Some j → zero_into_half ≡ j
same_join j e = cc

-- so the copy is tried and stays
pub later_stays : Joined mini_target (16384 ∷ []) read_later [] read_later
unfolding mini_target
later_stays = tried.stays (λ j h. not_quiet (subst (IsQuiet mini_target read_later) (sym (same_join j h.0)) h.1)) tried.done
