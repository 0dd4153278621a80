use Rattle.std.proofs.Common.{sym, ◌∙◌}
use Rattle.std.proofs.lemmas.List.{length-map}
use Rattle.target_base.specs.Storage.{widths, unit_width}
use Rattle.target_base.proofs.Lookups.{same_numbers_lengths}
use Rattle.place_solve.proofs.widths.have_widths.Goals as goal

pub returns-then-units-wanted : goal.returns-then-units-wanted
returns-then-units-wanted c = sym (same_numbers_lengths (widths c.args.target.now.units c.args.units.now) c.args.wanted.now (λ e. c.if-units-wanted.true (sym (length-map c.args.units.now (unit_width c.args.target.now.units)) ∙ e)))
