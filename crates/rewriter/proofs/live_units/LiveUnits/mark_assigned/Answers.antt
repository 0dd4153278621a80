use Rattle.std.proofs.Common.{subst, ◌∙◌, ap, List}
use Rattle.target_base.specs.declared.types.Target.{Target}
use Rattle.target_base.specs.declared.types.Unit.{Unit as UnitNumber}
use Rattle.rewriter.specs.LiveUnits.{Marks, holds_live, assigned_units}
use Rattle.rewriter.proofs.live_units.LiveUnits.mark_assigned.Goals as goal

pub returns : goal.returns
returns c =
    subst (λ (us : List UnitNumber). Marks (holds_live c.args.live.now.table c.args.v 0 us) c.args.self.now c.mark_range.new.self) (c.assigned_units.ensures ∙ ap (λ (t : Target). assigned_units t c.args.r) c.target.ensures) c.mark_range.ensures
