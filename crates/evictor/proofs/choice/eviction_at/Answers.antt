use Rattle.evictor.specs.Settings.{setting_of}
use Rattle.evictor.proofs.Clashing.{not_taken, fixed_not, is_fixed_there, are_in_way}
use Rattle.evictor.proofs.choice.eviction_at.Goals as goal

pub returns-then-way : goal.returns-then-way
returns-then-way c = λ ordered weighs number weight.
    let view = c.args.view in
    not_taken (setting_of view.m.now view.freqs.now view.ranks.now view.range) c.args.r (c.in_ok-way.ensures.kept ordered weighs number weight c.if-way.true)

pub returns-in-Fixed : goal.returns-in-Fixed
returns-in-Fixed c = λ ordered weighs number weight.
    let view = c.args.view in
    let s = setting_of view.m.now view.freqs.now view.ranks.now view.range in
    not_taken s c.args.r (fixed_not s c.args.r (is_fixed_there view.m.now view.range c.args.r c.in_ok-clashers.field-0 (c.in_ok-clashers.ensures ordered) c.in-Fixed.is))

pub returns-in_ok-found-in-Ranges : goal.returns-in_ok-found-in-Ranges
returns-in_ok-found-in-Ranges c = λ ordered weighs number weight.
    let view = c.args.view in
    let way = are_in_way view.m.now view.freqs.now view.ranks.now view.range c.args.r c.in_ok-clashers.field-0 c.in-Ranges.victims ordered (c.in_ok-clashers.ensures ordered) c.in-Ranges.is in
    c.in_ok-found-in-Ranges.ensures weighs (c.in_ok-way.ensures.known weighs) number weight way.0 way.1
