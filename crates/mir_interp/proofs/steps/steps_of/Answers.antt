use Rattle.std.proofs.Common.{◌≡◌, ◌∙◌, ◌++◌, sym, ap, arith, [], length, map, drop, drop_of_length-le, append-nil}
use Rattle.mir_meaning.specs.Codes.{code_of, item_of, blocks_code}
use Rattle.mir_interp.specs.Decoded.{bare, code_of_steps}
use Rattle.mir_interp.proofs.Writing.{same_blocks}
use Rattle.mir_interp.proofs.steps.steps_of.Goals as goal

pub returns : goal.returns
unfolding code_of
returns c =
    let none : drop c.loop-k.k c.args.f.now.blocks ≡ [] = drop_of_length-le c.args.f.now.blocks (let e = ap length (same_blocks _ _ c.f.view_is) in let d = ap length c.as_slice-blocks.ensures in omega (arith, e, d)) in
    sym (append-nil (code_of_steps c.loop-k.out)) ∙ (ap (λ t. code_of_steps c.loop-k.out ++ map bare (blocks_code (item_of c.args.t.now c.args.f.now) c.args.t.now c.args.f.now t)) (sym none) ∙ c.loop-k.invariant)
