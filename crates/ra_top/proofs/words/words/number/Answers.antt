use Rattle.ra_top.proofs.WordLemmas.Digits.{read_one, read_all, below_power, power, digit_at}
use Rattle.ra_top.proofs.words.words.number.Goals as goal

pub loop-b-preserved : goal.loop-b-preserved
loop-b-preserved c = record {
  value = read_one c.args.digits.now c.loop-b.b-index c.loop-b.n _ c.loop-b-test.true c.loop-b.invariant.value;
  within = below_power c.loop-b.n _ c.loop-b.b-index _ c.loop-b.invariant.within (digit_at c.args.digits.now c.loop-b.b-index c.loop-b-test.true c.requires) (power c.loop-b.b-index);
}

pub returns-clause-value : goal.returns-clause-value
returns-clause-value c = read_all c.args.digits.now c.loop-b.b-index c.loop-b.n _ c.loop-b-test.false c.loop-b.invariant.value
