use Rattle.std.proofs.Common.{◌∙◌, sym, ap, suc, drop}
use Rattle.std.specs.Prelude.{option_map}
use Rattle.meaning.specs.Code.{entered, continued, target_place}
use Rattle.mir_interp.specs.Decoded.{edge_of, code_of_steps}
use Rattle.mir_interp.specs.Holds.{held_by}
use Rattle.mir_interp.specs.Kinds.{control_of}
use Rattle.mir_interp.proofs.machine.go_on.Goals as goal

pub returns-in_ok-place-in-Taken : goal.returns-in_ok-place-in-Taken
returns-in_ok-place-in-Taken g c = λ m env h next o.
    let edge = option_map edge_of c.args.transfer.now.target.now in
    ap (λ k. continued (control_of k) (next (drop (suc c.args.transfer.now.at) (code_of_steps c.args.steps.now)) (held_by c.args.store.now) o) (next (target_place (code_of_steps c.args.steps.now) edge) (entered env edge (held_by c.args.store.now)) o)) c.in-Taken.is
    ∙ (ap (λ p. next p (entered env edge (held_by c.args.store.now)) o) (sym c.in_ok-place-in-Taken.ensures.place)
    ∙ ap (λ s. next (drop c.in_ok-place-in-Taken.place (code_of_steps c.args.steps.now)) s o) (sym (c.in_ok-place-in-Taken.ensures.state m env h)))
