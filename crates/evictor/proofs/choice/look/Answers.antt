use Rattle.std.proofs.Common.{◌≡◌, ◌∙◌, sym}
use Rattle.evictor.specs.Cheapest.{may_lose}
use Rattle.evictor.specs.Settings.{setting_of}
use Rattle.evictor.proofs.Tops.{not_true}
use Rattle.evictor.proofs.Known.{way_known}
use Rattle.evictor.proofs.Choosing.{kept_out}
use Rattle.evictor.proofs.choice.look.Goals as goal

pub returns-in_ok-lost-in-Some-clause-kept : goal.returns-in_ok-lost-in-Some-clause-kept
returns-in_ok-lost-in-Some-clause-kept c = λ ordered weighs number weight yes.
    let view = c.args.view in
    let s = setting_of view.m.now view.freqs.now view.ranks.now view.range in
    let way = c.in-Some.ensures ordered in
    kept_out s c.args.r c.in-Some.w way (way_known view.m.now view.range c.in-Some.w c.args.r ordered way) (not_true (may_lose s c.in-Some.w) (sym (c.in_ok-lost-in-Some.ensures.keeps weighs number weight) ∙ (sym c.way_of.ensures.kept ∙ yes)))
