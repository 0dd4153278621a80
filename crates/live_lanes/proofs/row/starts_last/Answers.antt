use Rattle.std.proofs.Common.{rules, sym, ◌∙◌}
use Rattle.std.specs.Prelude.{nat_eq}
use Rattle.live_lanes.specs.Table.{begun}
use Rattle.live_lanes.proofs.Last.{last-tells, last-map}
use Rattle.live_lanes.proofs.row.starts_last.Goals as goal

pub returns-in-Some : goal.returns-in-Some
returns-in-Some c = last-tells (λ s. nat_eq s.start c.args.id) c.args.segments.now c.in-Some.last.now c.in-Some.ensures.value ∙ sym (last-map begun (λ s. nat_eq s.start c.args.id) c.args.segments.now)
