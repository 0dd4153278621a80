-- The ways out of a function's blocks, as the ends of pieces go by them.
use Rattle.std.proofs.Common.{◌≡◌, ◌<◌, ◌≤◌, ℕ, Bool, true, false, cond, List, [], ◌∷◌, Option, None, Some, map, refl, sym, ap, ◌∙◌, subst, arith}
use Rattle.std.specs.Prelude.{slice_get, filter}
use Rattle.slot_index.specs.Order.{number_of}
use Rattle.target_base.specs.declared.types.Target.{Target}
use Rattle.mir_func.specs.declared.func.Block.{Block}
use Rattle.mir_func.specs.declared.func.Instr.{Instr}
use Rattle.mir_func.specs.Binding.{does, is_terminator}
use Rattle.live_lanes.specs.declared.compute.flow.BlockFlow.{BlockFlow}
use Rattle.live_lanes.specs.declared.row.LaneRange.{LaneRange}
use Rattle.mir_meaning.specs.Paths.{Among, exits_of, has}
use Rattle.live_lanes.specs.Ways.{successors}
use Rattle.live_lanes.specs.Table.{Numbers}
use Rattle.live_lanes.specs.Ordered.{ids_of, AreRising}
use Rattle.live_lanes.specs.Flowing.{terminator_ids}
use Rattle.live_lanes.specs.Coded.{Doing, code_of, IsMade}
use Rattle.live_lanes.specs.Lasting.{AreOutward}
use Rattle.live_lanes.proofs.Coded.{has-among, among-has, exits-is}

rising-lower : (slots : Numbers) (m n : ℕ) (ids : List ℕ) → m ≤ n → AreRising slots n ids → AreRising slots m ids
rising-lower slots m n [] h r = tt
rising-lower slots m n (id ∷ ids) h r = (let low = r.0 in omega (arith, low, h), r.1, r.2)

-- some of the instructions, in their order
some-rising : (slots : Numbers) (test : Instr → Bool) (n : ℕ) (is : List Instr) → AreRising slots n (ids_of is) → AreRising slots n (map (λ i. i.id) (filter test is))
some-rising slots test n [] r = tt
some-rising slots test n (i ∷ is) r = go (test i) (some-rising slots test (number_of slots i.id) is r.2)
  where
    go : (t : Bool) → AreRising slots (number_of slots i.id) (map (λ j. j.id) (filter test is)) → AreRising slots n (map (λ j. j.id) (cond t (i ∷ filter test is) (filter test is)))
    go true ih = (r.0, r.1, ih)
    go false ih = rising-lower slots n (number_of slots i.id) (map (λ j. j.id) (filter test is)) (let low = r.0 in omega (arith, low)) ih

pub outward : (t : Target) (doing : Doing) (place : ℕ → Option ℕ) (bs : List Block) (slots : Numbers) (flow : List BlockFlow) (rows : List LaneRange) → IsMade t doing place bs slots flow rows → AreOutward (code_of doing place bs) slots flow
outward t doing place bs slots flow rows made = record {
  onward = λ b x m. has-among x (exits_of (code_of doing place bs) b) (ap (has x) (exits-is t doing place bs slots flow rows made b) ∙ sym (made.ways.successors b x) ∙ among-has x (successors flow b) m);
  whole = λ b x m. has-among x (successors flow b) (made.ways.successors b x ∙ ap (has x) (sym (exits-is t doing place bs slots flow rows made b)) ∙ among-has x (exits_of (code_of doing place bs) b) m);
  rising = λ b. subst (AreRising slots 0) (sym (made.ways.terminators b)) (go b (slice_get bs b) refl);
}
  where
    go : (b : ℕ) (q : Option Block) → slice_get bs b ≡ q → AreRising slots 0 (elim q [ None ↦ [] | Some c ↦ terminator_ids t c.instrs ])
    go b None e = tt
    go b (Some c) e = some-rising slots (does is_terminator t) 0 c.instrs (made.rising b c e)
