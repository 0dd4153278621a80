use Rattle.std.proofs.Common.{subst, sym, ◌&&◌, ℕ, Option}
use Rattle.std.specs.Prelude.{nat_eq}
use Rattle.rewriter.specs.LiveUnits.{Marks, some_enters}
use Rattle.rewriter.proofs.Marked.{no_lane}
use Rattle.rewriter.proofs.live_units.LiveUnits.mark_some_lane.Goals as goal

pub returns-in-None : goal.returns-in-None
returns-in-None c =
    subst (λ (o : Option ℕ). Marks (λ p w. nat_eq c.args.u.0 w && some_enters c.args.live.now.table o p) c.args.self.now c.args.self.now) (sym c.in-None.is) (no_lane c.args.live.now.table c.args.u.0 c.args.self.now)

pub returns-in-Some : goal.returns-in-Some
returns-in-Some c =
    subst (λ (o : Option ℕ). Marks (λ p w. nat_eq c.args.u.0 w && some_enters c.args.live.now.table o p) c.args.self.now c.mark_lane.new.self) (sym c.in-Some.is) c.mark_lane.ensures
