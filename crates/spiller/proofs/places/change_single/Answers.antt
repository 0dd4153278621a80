use Rattle.std.proofs.Common.{◌∙◌, sym}
use Rattle.spiller.specs.Readings.{goes_in, source_in}
use Rattle.spiller.proofs.Singles.{has-effect}
use Rattle.spiller.proofs.places.change_single.Goals as goal

pub returns-in-None : goal.returns-in-None
returns-in-None c facts w p j b is_block is_instr plain touched =
    absurd (has-effect c.args.view facts (source_in c.args.remat.now) (goes_in c.args.remat.now) w p j b c.args.instr.now is_block is_instr (sym c.effect_of.ensures ∙ c.in-None.is))

pub returns-in-Some : goal.returns-in-Some
returns-in-Some c facts w p j b is_block is_instr plain touched =
    c.change_by_effect.ensures facts w p j b is_block is_instr plain touched (sym c.effect_of.ensures ∙ c.in-Some.is)
