use Rattle.std.proofs.Common.{◌≡◌, refl, sym, false}
use Rattle.evictor.specs.Cheapest.{weight}
use Rattle.evictor.specs.Settings.{setting_of}
use Rattle.evictor.proofs.Evicted.{keeps}
use Rattle.evictor.proofs.choice.lost_weight.Goals as goal

pub returns-then-is_too_heavy-clause-keeps : goal.returns-then-is_too_heavy-clause-keeps
returns-then-is_too_heavy-clause-keeps c = λ weighs number limit.
    let view = c.args.view in
    let s = setting_of view.m.now view.freqs.now view.ranks.now view.range in
    keeps s view.number c.args.w (weight s c.args.w) view.weight c.may_lose.result false number limit c.may_lose.ensures c.if-not-may_lose.false refl (sym (c.is_too_heavy.ensures c.if-is_too_heavy.true weighs))
