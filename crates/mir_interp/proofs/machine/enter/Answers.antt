use Rattle.std.proofs.Common.{◌∙◌, sym, ap, []}
use Rattle.std.specs.Prelude.{option_map}
use Rattle.meaning.specs.State.{written}
use Rattle.meaning.specs.Code.{entered}
use Rattle.mir_interp.specs.Decoded.{edge_of}
use Rattle.mir_interp.specs.Holds.{held_by}
use Rattle.mir_interp.proofs.machine.enter.Goals as goal

pub returns-in_ok-write-in-Some-clause-state : goal.returns-in_ok-write-in-Some-clause-state
returns-in_ok-write-in-Some-clause-state g c = λ m env h.
    c.in_ok-write-in-Some.ensures m env h
    ∙ (ap (λ t. written env [] t (held_by c.args.store.now)) c.as_slice.ensures
    ∙ sym (ap (λ t. entered env (option_map edge_of t) (held_by c.args.store.now)) c.in-Some.is))

pub returns-in-None-clause-state : goal.returns-in-None-clause-state
returns-in-None-clause-state g c = λ m env h. sym (ap (λ t. entered env (option_map edge_of t) (held_by c.args.store.now)) c.in-None.is)
