use Rattle.std.proofs.Common.{subst, ◌&&◌, ℕ, Option}
use Rattle.std.specs.Prelude.{nat_eq}
use Rattle.rewriter.specs.LiveUnits.{Marks, some_enters}
use Rattle.rewriter.proofs.live_units.LiveUnits.mark_held.Goals as goal

pub returns : goal.returns
returns c = subst (λ (o : Option ℕ). Marks (λ p w. nat_eq c.args.u.0 w && some_enters c.args.live.now.table o p) c.args.self.now c.mark_some_lane.new.self) c.lane_of.ensures c.mark_some_lane.ensures
