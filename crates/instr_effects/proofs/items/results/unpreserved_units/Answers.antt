use Rattle.std.proofs.Common.{◌≤◌, arith, length, rules}
use Rattle.std.proofs.lemmas.Grind.{common_steps}
use Rattle.target_base.proofs.Sound.{units_count}
use Rattle.instr_effects.proofs.ItemLemmas.Numbers.{numbers_step}
use Rattle.instr_effects.proofs.items.results.unpreserved_units.Goals as goal

pub overflow_cast-u-end : goal.overflow_cast-u-end
overflow_cast-u-end c =
    let n : length c.args.t.now.units ≤ 512 = units_count _ _ _ _ _ _ _ _ _ c.args.t.now.sound in
    search rules

pub loop-u-preserved : goal.loop-u-preserved
loop-u-preserved c = let e = numbers_step c.loop-u.u (length c.args.t.now.units) (omega arith) in grind (arith, common_steps, e)
