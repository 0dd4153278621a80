use Rattle.std.proofs.Common.{◌+◌, ◌≤◌, ◌∙◌, ap, sym, subst, arith, []}
use Rattle.meaning.specs.Perform as meaning
use Rattle.mir_interp.specs.Decoded.{code_of_steps}
use Rattle.mir_interp.specs.Holds.{held_by}
use Rattle.mir_interp.specs.Stands.{Stands, given_by}
use Rattle.mir_interp.proofs.Going.{ran}
use Rattle.mir_interp.proofs.machine.run.Goals as goal

pub returns : goal.returns
returns g c = λ env h.
    let o : meaning.Outside = record { bytes = []; calls = 0 } in
    let names = sym (c.as_slice-names.ensures ∙ c.in_ok-symbols.ensures) in
    let stands = subst (λ t. Stands (given_by g.W.World.entry g.W.World.byte g.W.World.frame g.W.World.symbol g.W.World.answer c.args.world.now) t c.args.n env) names h in
    let room : o.calls + c.args.n ≤ c.args.n = omega arith in
    ran c.args.target.now c.args.f.now env c.args.n (code_of_steps c.as_slice-decoded.result.now) (held_by c.begin.new.store) c.new-3.result c.go.new.machine.events c.in_ok-end.end
    (ap code_of_steps c.as_slice-decoded.ensures ∙ c.in_ok-steps.ensures) (c.in_ok-begin.ensures _ c.args.n env h c.in_ok-store.ensures) c.new-3.ensures (c.in_ok-end.ensures c.args.n env stands o (c.new-2.ensures env) room)
