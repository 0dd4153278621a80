use Rattle.std.proofs.Common.{subst, sym, ◌&&◌, ℕ, Option}
use Rattle.std.specs.Prelude.{nat_eq}
use Rattle.rewriter.specs.LiveUnits.{Marks, is_at}
use Rattle.rewriter.proofs.Marked.{marked_nowhere}
use Rattle.rewriter.proofs.live_units.LiveUnits.mark_at.Goals as goal

pub returns-in-None : goal.returns-in-None
returns-in-None c =
    subst (λ (o : Option ℕ). Marks (λ p w. nat_eq c.args.u.0 w && is_at o p) c.args.self.now c.args.self.now) (sym c.in-None.is) (marked_nowhere c.args.u.0 c.args.self.now)

pub returns-in-Some : goal.returns-in-Some
returns-in-Some c = subst (λ (o : Option ℕ). Marks (λ p w. nat_eq c.args.u.0 w && is_at o p) c.args.self.now c.mark.new.self) (sym c.in-Some.is) c.mark.ensures
