use Rattle.std.proofs.Common.{◌∙◌, ap, arith}
use Rattle.std.proofs.lemmas.List.{take_all}
use Rattle.spiller.specs.Walks.{lists}
use Rattle.spiller.proofs.ReadingSets.{set-more}
use Rattle.spiller.proofs.reaching.set_of.Goals as goal

pub readings-preserved : goal.readings-preserved
readings-preserved c =
    set-more c.args.readings.now c.readings.reading-index (record { lane = 0; by = 0 }) c.readings.all.keys c.insert.new.self.keys c.readings-test.true c.in_ok-insert.ensures.keys c.readings.invariant

pub returns : goal.returns
returns c = λ k i. c.readings.invariant k i ∙ ap (λ rs. lists rs k i) (take_all c.readings.reading-index c.args.readings.now (omega arith))
