use Rattle.ra_top.proofs.GeneratorLemmas.Numbers.{next_is}
use Rattle.ra_top.proofs.generator.source.NumberSource.advance.Goals as goal

pub returns : goal.returns
returns c = next_is c.args.self.now.x
