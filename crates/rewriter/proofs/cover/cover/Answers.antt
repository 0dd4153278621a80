use Rattle.std.proofs.Common.{◌∙◌, ap}
use Rattle.std.proofs.lemmas.Result.{IfOk-weaker}
use Rattle.machine_verify.specs.Liveins.{is_set}
use Rattle.rewriter.proofs.Covers.{cover_of}
use Rattle.rewriter.proofs.cover.cover.Goals as goal

pub returns : goal.returns
returns c =
    IfOk-weaker c.flagged_registers.result _ _
    (λ made e. cover_of c.args.target.now (is_set c.args.live.now) c.as_slice.result.now c.args.rs.now made c.requires.registers (λ r h. ap (λ fs. is_set fs r) c.as_slice.ensures ∙ c.in_ok-flags.ensures r h) e)
    c.flagged_registers.ensures
