-- Worked examples of eviction, each with what a model of the tool gives, which was written apart from these definitions.
use Rattle.std.proofs.Common.{◌≡◌, ◌∷◌, refl, []}
use Rattle.std.specs.Prelude.{ℕ, cond, ◌&&◌, nat_eq, List, map, Option, Some, None, slice_index}
use Rattle.std.specs.List.{list_any}
use Rattle.target_base.specs.declared.types.Reg.{Reg}
use Rattle.target_base.specs.Numbers.{reg_number}
use Rattle.target_base.specs.Mini.{mini_target}
use Rattle.mir_func.specs.Value.{Function}
use Rattle.evictor.specs.declared.ranks.Stage.{Stage}
use Rattle.evictor.specs.declared.ranks.Stage.TheVariants as stages
use Rattle.evictor.specs.Candidates.{candidates}
use Rattle.evictor.specs.Cheapest.{Facts, cheapest_of, ranking_after, assignment_after}
use Rattle.block_freq.specs.Weights.{weight_of}
use Rattle.spiller.proofs.Sample.{function, block, instr, def, val, fixed, implicit_def, imm, symbol, csr, COPY, CMP32rr, STORE32mr, STORE8mr, CALL, RET}

-- the registers of ranges, by a list
abbrev found : List (ℕ × ℕ) → ℕ → Option Reg
found [] v = None
found (p ∷ ps) v = cond (nat_eq p.0 v) (Some (reg_number p.1)) (found ps v)

-- facts by lists: registers in which a unit is in the way, those in which a range is, with the range, and the points of each range
abbrev facts : List ℕ → List (ℕ × ℕ) → List ℕ → Facts
facts fixed ways points = record {
  fixed = λ r. list_any (nat_eq r.0) fixed;
  in_the_way = λ r w. list_any (λ p. nat_eq p.0 r.0 && nat_eq p.1 w) ways;
  points = slice_index points;
}

-- New, Split and Tiny by numbers
abbrev stage : ℕ → Stage
stage n = cond (nat_eq n 0) stages.New (cond (nat_eq n 1) stages.Split stages.Tiny)

-- the choice for a range, of its candidates: by frequencies, registers, stages, cascades and the greatest of these
abbrev chosen : Function → List ℕ → List (ℕ × ℕ) → List ℕ → List ℕ → ℕ → ℕ → Facts → Option (Reg × List ℕ)
chosen f freqs registers ranks cascades greatest v facts =
    cheapest_of (record { func = f; freqs = freqs; ranking = record { stages = map stage ranks; cascades = cascades; greatest = greatest }; range = v; facts = facts }) (candidates mini_target f (found registers) freqs v)

abbrev taken : ℕ → List ℕ → Option (Reg × List ℕ)
taken r victims = Some (reg_number r, victims)

-- Three ranges live across a call, behind which $ebx alone keeps its value.
abbrev three_across : Function
three_across = function 7 (0 ∷ 0 ∷ 0 ∷ []) (
    block 0 [] (0 ∷ 1 ∷ 2 ∷ []) (
    instr 0 COPY (def 0 ∷ fixed 0 ∷ []) ∷
    instr 1 COPY (def 1 ∷ fixed 1 ∷ []) ∷
    instr 2 COPY (def 2 ∷ fixed 2 ∷ []) ∷
    instr 3 CALL (symbol ∷ csr ∷ []) ∷
    instr 4 STORE32mr (val 0 ∷ imm 0 ∷ val 1 ∷ []) ∷
    instr 5 STORE32mr (val 2 ∷ imm 4 ∷ val 2 ∷ []) ∷
    instr 6 RET [] ∷ []) ∷ [])

-- The second takes $ebx from the first, which weighs less.
pub lighter_is_evicted :
    chosen three_across (16384 ∷ []) ((0, 3) ∷ []) (0 ∷ 0 ∷ 0 ∷ []) (0 ∷ 0 ∷ 0 ∷ []) 0 1 (facts (0 ∷ 1 ∷ 2 ∷ []) ((3, 0) ∷ []) (8 ∷ 6 ∷ 6 ∷ []))
    ≡ taken 3 (0 ∷ [])
unfolding mini_target cheapest_of
lighter_is_evicted = refl

-- It doesn't where both have one cascade.
pub not_of_its_cascade :
    chosen three_across (16384 ∷ []) ((0, 3) ∷ []) (0 ∷ 0 ∷ 0 ∷ []) (1 ∷ 1 ∷ 0 ∷ []) 1 1 (facts (0 ∷ 1 ∷ 2 ∷ []) ((3, 0) ∷ []) (8 ∷ 6 ∷ 6 ∷ []))
    ≡ None
unfolding mini_target cheapest_of
not_of_its_cascade = refl

-- The third, which has no cascade, compares with one that is new.
pub a_new_cascade :
    chosen three_across (16384 ∷ []) ((1, 3) ∷ []) (0 ∷ 0 ∷ 0 ∷ []) (1 ∷ 1 ∷ 0 ∷ []) 1 2 (facts (0 ∷ 1 ∷ 2 ∷ []) ((3, 1) ∷ []) (8 ∷ 6 ∷ 6 ∷ []))
    ≡ taken 3 (1 ∷ [])
unfolding mini_target cheapest_of
a_new_cascade = refl

-- Of a lower cascade alone it may not be taken either: the third weighs more.
pub not_from_a_heavier :
    chosen three_across (16384 ∷ []) ((2, 3) ∷ []) (0 ∷ 0 ∷ 0 ∷ []) (2 ∷ 0 ∷ 1 ∷ []) 2 0 (facts (0 ∷ 1 ∷ 2 ∷ []) ((3, 2) ∷ []) (8 ∷ 6 ∷ 6 ∷ []))
    ≡ None
unfolding mini_target cheapest_of
not_from_a_heavier = refl

-- A tiny takes it from any range that is none, and has a lower cascade.
pub a_tiny_takes_from_a_heavier :
    chosen three_across (16384 ∷ []) ((2, 3) ∷ []) (2 ∷ 0 ∷ 0 ∷ []) (2 ∷ 0 ∷ 1 ∷ []) 2 0 (facts (0 ∷ 1 ∷ 2 ∷ []) ((3, 2) ∷ []) (8 ∷ 6 ∷ 6 ∷ []))
    ≡ taken 3 (2 ∷ [])
unfolding mini_target cheapest_of
a_tiny_takes_from_a_heavier = refl

-- Nothing is taken from a tiny.
pub not_from_a_tiny :
    chosen three_across (16384 ∷ []) ((0, 3) ∷ []) (2 ∷ 0 ∷ 0 ∷ []) (0 ∷ 0 ∷ 0 ∷ []) 0 1 (facts (0 ∷ 1 ∷ 2 ∷ []) ((3, 0) ∷ []) (8 ∷ 6 ∷ 6 ∷ []))
    ≡ None
unfolding mini_target cheapest_of
not_from_a_tiny = refl

-- The weights of the three.
pub weights :
    map (λ (p : ℕ × ℕ). weight_of three_across.blocks (16384 ∷ []) p.0 p.1) ((0, 8) ∷ (1, 6) ∷ (2, 6) ∷ []) ≡ 2097152 ∷ 2396745 ∷ 3595117 ∷ []
weights = refl

-- Two ranges in the halves of $ax, one in $ecx, and one that may be in $eax or $ecx alone.
abbrev two_halves : Function
two_halves = function 11 (2 ∷ 2 ∷ 0 ∷ 3 ∷ []) (
    block 0 [] (4 ∷ 1 ∷ 2 ∷ []) (
    instr 0 COPY (def 0 ∷ fixed 8 ∷ []) ∷
    instr 1 COPY (def 1 ∷ fixed 12 ∷ []) ∷
    instr 2 COPY (def 2 ∷ fixed 1 ∷ []) ∷
    instr 3 COPY (def 3 ∷ fixed 2 ∷ []) ∷
    instr 4 CMP32rr (val 3 ∷ val 3 ∷ implicit_def 18 ∷ []) ∷
    instr 5 STORE32mr (val 3 ∷ imm 0 ∷ val 3 ∷ []) ∷
    instr 6 STORE32mr (val 2 ∷ imm 0 ∷ val 2 ∷ []) ∷
    instr 7 STORE8mr (val 3 ∷ imm 0 ∷ val 0 ∷ []) ∷
    instr 8 STORE8mr (val 3 ∷ imm 0 ∷ val 1 ∷ []) ∷
    instr 9 STORE32mr (val 3 ∷ imm 4 ∷ val 2 ∷ []) ∷
    instr 10 RET [] ∷ []) ∷ [])

-- Two ranges in $al and $ah lose them, since the one in $ecx weighs more than each of them.
pub two_are_evicted :
    chosen two_halves (16384 ∷ []) ((0, 8) ∷ (1, 12) ∷ (2, 1) ∷ []) (0 ∷ 0 ∷ 0 ∷ 0 ∷ []) (0 ∷ 0 ∷ 0 ∷ 0 ∷ []) 0 3 (facts [] ((0, 0) ∷ (0, 1) ∷ (1, 2) ∷ []) (14 ∷ 14 ∷ 14 ∷ 12 ∷ []))
    ≡ taken 0 (0 ∷ 1 ∷ [])
unfolding mini_target cheapest_of
two_are_evicted = refl

-- At equal weights the fewest lose their registers.
pub fewer_are_evicted :
    chosen two_halves (0 ∷ []) ((0, 8) ∷ (1, 12) ∷ (2, 1) ∷ []) (0 ∷ 0 ∷ 0 ∷ 2 ∷ []) (0 ∷ 0 ∷ 0 ∷ 0 ∷ []) 0 3 (facts [] ((0, 0) ∷ (0, 1) ∷ (1, 2) ∷ []) (14 ∷ 14 ∷ 14 ∷ 12 ∷ []))
    ≡ taken 1 (2 ∷ [])
unfolding mini_target cheapest_of
fewer_are_evicted = refl

-- A range whose copy hints at $ecx, the second register of its class, with a range in the way in each.
abbrev hinted_to_the_second : Function
hinted_to_the_second = function 8 (3 ∷ 3 ∷ 3 ∷ []) (
    block 0 [] (1 ∷ 2 ∷ []) (
    instr 0 COPY (def 0 ∷ fixed 2 ∷ []) ∷
    instr 1 COPY (def 1 ∷ fixed 2 ∷ []) ∷
    instr 2 COPY (def 2 ∷ fixed 1 ∷ []) ∷
    instr 3 STORE32mr (val 0 ∷ imm 0 ∷ val 1 ∷ []) ∷
    instr 4 STORE32mr (val 2 ∷ imm 0 ∷ val 0 ∷ []) ∷
    instr 5 STORE32mr (val 2 ∷ imm 4 ∷ val 1 ∷ []) ∷
    instr 6 STORE32mr (val 2 ∷ imm 4 ∷ val 2 ∷ []) ∷
    instr 7 RET [] ∷ []) ∷ [])

-- At a full tie the first candidate is taken, which is the hint.
pub the_hint_comes_first :
    chosen hinted_to_the_second (0 ∷ []) ((0, 0) ∷ (1, 1) ∷ []) (0 ∷ 0 ∷ 2 ∷ []) (0 ∷ 0 ∷ 0 ∷ []) 0 2 (facts [] ((0, 0) ∷ (1, 1) ∷ []) (8 ∷ 8 ∷ 8 ∷ []))
    ≡ taken 1 (1 ∷ [])
unfolding mini_target cheapest_of
the_hint_comes_first = refl

-- Behind the second eviction of the three the range that takes the register and the one that loses it have the new cascade.
pub new_cascades :
    ranking_after (record { stages = map stage (0 ∷ 1 ∷ 0 ∷ []); cascades = 1 ∷ 1 ∷ 0 ∷ []; greatest = 1 }) 2 (1 ∷ [])
    ≡ record { stages = map stage (0 ∷ 1 ∷ 0 ∷ []); cascades = 1 ∷ 2 ∷ 2 ∷ []; greatest = 2 }
new_cascades = refl

-- The one has the register then, and the other has none.
pub new_registers : map (assignment_after (found ((1, 3) ∷ [])) 2 (reg_number 3) (1 ∷ [])) (0 ∷ 1 ∷ 2 ∷ []) ≡ None ∷ None ∷ Some (reg_number 3) ∷ []
new_registers = refl
