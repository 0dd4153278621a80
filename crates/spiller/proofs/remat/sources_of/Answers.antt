use Rattle.std.proofs.Common.{◌∙◌, ap, arith, flat_map}
use Rattle.std.proofs.lemmas.List.{take_all}
use Rattle.spiller.specs.Listed.{told_sources}
use Rattle.spiller.specs.Readings.{placed_at, sources_at}
use Rattle.spiller.proofs.PlacedSources.{sources-step}
use Rattle.spiller.proofs.remat.sources_of.Goals as goal

pub readings-preserved : goal.readings-preserved
readings-preserved c =
    sources-step c.args.readings.now c.readings.reading-index c.reading-item.result (sources_at c.readings.sources) (sources_at c.add_source.new.sources) c.readings-test.true c.reading-item.is c.readings.invariant c.in_ok-add_source.ensures

pub returns : goal.returns
returns c = λ n. c.readings.invariant n ∙ ap (λ us. placed_at n (flat_map told_sources us)) (take_all c.readings.reading-index c.args.readings.now (omega arith))
