use Rattle.std.proofs.Common.{◌∙◌, ap, sym}
use Rattle.std.specs.Prelude.{option_copied}
use Rattle.mir_func.specs.Binding.{does}
use Rattle.live_laws.proofs.Effects.Moving.{some-same}
use Rattle.spiller.specs.Rematerialised.{is_constant}
use Rattle.spiller.proofs.remat.is_repeatable_id.Goals as goal

pub returns-in-Some : goal.returns-in-Some
returns-in-Some c = λ finds p j b i e g h.
    let same = some-same c.in-Some.instr.now i (sym (ap option_copied c.in-Some.is) ∙ c.instr.ensures finds p j b i e g h) in
    c.is_repeatable.ensures ∙ ap (does is_constant c.args.view.target.now) same
