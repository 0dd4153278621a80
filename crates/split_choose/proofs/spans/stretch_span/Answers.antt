use Rattle.std.proofs.Common.{ap, Bool}
use Rattle.live_lanes.specs.declared.ask.extent.Stretch.{Stretch}
use Rattle.split_choose.specs.Built.{told}
use Rattle.split_choose.proofs.Building.{pointwise}
use Rattle.split_choose.proofs.spans.stretch_span.Goals as goal

pub returns : goal.returns
returns c = ap (λ (f : (Stretch → Bool) → Bool). record (told c.args.span.now) { stretches = f }) (pointwise c.in_ok-add_stretches.ensures)
