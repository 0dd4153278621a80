use Rattle.std.proofs.Common.{◌∙◌, ap, sym, [], ◌∷◌}
use Rattle.target_base.specs.Storage.{widths, same_numbers}
use Rattle.target_desc.proofs.Shaped.{too_few, too_many}
use Rattle.target_desc.proofs.roles.is_flags.Goals as goal

pub returns-in_default : goal.returns-in_default
returns-in_default c = sym (ap (λ us. same_numbers (widths c.args.units.now us) (1 ∷ 1 ∷ 1 ∷ [])) (sym c.units_at.ensures) ∙ too_few c.args.units.now c.units_at.result.now c.in_default.len_below)

pub returns-in_default-2 : goal.returns-in_default-2
returns-in_default-2 c = sym (ap (λ us. same_numbers (widths c.args.units.now us) (1 ∷ 1 ∷ 1 ∷ [])) (sym c.units_at.ensures) ∙ too_many c.args.units.now c.units_at.result.now c.in_default.len_at_least)
