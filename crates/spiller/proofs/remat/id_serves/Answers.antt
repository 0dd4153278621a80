use Rattle.std.proofs.Common.{◌∙◌, ap, sym}
use Rattle.std.specs.Prelude.{option_copied}
use Rattle.live_laws.proofs.Effects.Moving.{some-same}
use Rattle.spiller.specs.Rematerialised.{repeatable_class, serves}
use Rattle.spiller.specs.Views.{wish_of}
use Rattle.spiller.proofs.remat.id_serves.Goals as goal

pub returns-in-Some : goal.returns-in-Some
returns-in-Some c = λ finds p j b i e g h.
    let t = c.args.view.target.now in
    let same = some-same c.in-Some.instr.now i (sym (ap option_copied c.in-Some.is) ∙ c.instr.ensures finds p j b i e g h) in
    c.serves.ensures ∙ ap (serves t (wish_of c.args.wish)) (c.repeatable_class.ensures ∙ ap (repeatable_class t) same)
