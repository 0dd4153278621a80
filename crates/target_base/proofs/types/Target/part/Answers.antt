use Rattle.std.proofs.Common.{sym, ◌∙◌}
use Rattle.target_base.proofs.Lookups.{taken_there, part_found}
use Rattle.target_base.proofs.types.Target.part.Goals as goal

pub returns-clause-value : goal.returns-clause-value
returns-clause-value c =
    let v = sym c.part_at.ensures.value in
    v ∙ taken_there c.part_at.result c.args.c c.unwrap_or.result c.unwrap_or.ensures (λ e. part_found c.args.self.now c.args.c c.args.i c.requires.class c.requires.index c.requires.fits (v ∙ e))
