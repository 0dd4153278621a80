use Rattle.std.proofs.Common.{◌≡◌, ◌∙◌, ◌∷◌, ℕ, Some, ap, sym, subst, drop}
use Rattle.std.specs.Prelude.{IfOk, slice_get}
use Rattle.mir_func.specs.declared.func.Block.{Block}
use Rattle.mir_func.specs.declared.func.Instr.{Instr}
use Rattle.interference.specs.declared.tiny.Tiny.{Tiny}
use Rattle.live_lanes.specs.declared.live.LiveFunc.{LiveFunc}
use Rattle.live_lanes.specs.Looks.{InOrder}
use Rattle.live_lanes.specs.Touching.{FindsInstrs}
use Rattle.place_solve.specs.Tinies.{tiny_choice, place_among}
use Rattle.place_solve.proofs.Placed.{same-tiny}
use Rattle.place_solve.proofs.tinies.solve.Goals as goal

pub returns-in-Some-clause-exact : goal.returns-in-Some-clause-exact
returns-in-Some-clause-exact c = λ first others s.
    let ts = c.args.tinies.now in
    let answers : LiveFunc → Tiny → Type 0 = λ l one. IfOk c.solve_from.result (λ q. InOrder l.table → FindsInstrs l.table l.func.blocks → (p j : ℕ) (b : Block) (i : Instr) → slice_get l.func.blocks p ≡ Some b → slice_get b.instrs j ≡ Some i → i.id ≡ one.at → q ≡ tiny_choice l.target l.func l.table ts one (place_among l.target (drop j b.instrs))) in
    let same : c.in-Some.first.now ≡ first = same-tiny c.in-Some.first.now first (c.in-Some.ensures.value ∙ ap (λ xs. slice_get xs 0) (c.as_slice.ensures ∙ s)) in
    subst (λ one. answers c.args.m.now.live one) same (subst (λ l. answers l c.in-Some.first.now) c.live.ensures c.solve_from.ensures)
