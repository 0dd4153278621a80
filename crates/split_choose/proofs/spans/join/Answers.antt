use Rattle.std.proofs.Common.{◌∙◌, sym, ap, slice_get, Bool}
use Rattle.live_lanes.specs.declared.ask.extent.Stretch.{Stretch}
use Rattle.split_choose.proofs.Building.{already}
use Rattle.split_choose.proofs.spans.join.Goals as goal

pub returns-then-stands_at : goal.returns-then-stands_at
returns-then-stands_at c = λ (p : Stretch → Bool). already p c.args.stretches.now.items c.args.place c.args.stretch (sym (ap (λ ss. slice_get ss c.args.place) c.as_slice.ensures.value) ∙ c.stands_at.ensures c.if-stands_at.true)
