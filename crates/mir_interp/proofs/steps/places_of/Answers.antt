use Rattle.std.proofs.Common.{◌+◌, ◌-◌, arith, length}
use Rattle.std.specs.Prelude.{nat_eq}
use Rattle.std.specs.HashMap.{get}
use Rattle.mir_interp.proofs.Placing.{place_next}
use Rattle.mir_interp.proofs.steps.places_of.Goals as goal

pub loop-k-preserved : goal.loop-k-preserved
loop-k-preserved c = λ n.
    place_next n c.args.steps.now (length c.args.steps.now - 1 - c.loop-k.k) (length c.args.steps.now - (c.loop-k.k + 1)) (length c.args.steps.now - c.loop-k.k) (length c.args.steps.now) c.index-steps-at.result (get nat_eq c.loop-k.places n) (get nat_eq c.note_place.new.places n) (omega arith) (omega arith) (omega arith) c.index-steps-at.is (c.loop-k.invariant n) (c.in_ok-note_place.ensures n)
