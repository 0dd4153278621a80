use Rattle.std.proofs.Common.{subst, ◌&&◌, ℕ, Option}
use Rattle.std.specs.Prelude.{nat_eq}
use Rattle.rewriter.specs.LiveUnits.{Marks, is_at}
use Rattle.rewriter.proofs.live_units.LiveUnits.mark_cell.Goals as goal

pub returns : goal.returns
returns c = subst (λ (o : Option ℕ). Marks (λ p w. nat_eq c.args.u.0 w && is_at o p) c.args.self.now c.mark_at.new.self) c.entered_block.ensures c.mark_at.ensures
