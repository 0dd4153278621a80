use Rattle.std.proofs.lemmas.Result.{IfOk-weaker}
use Rattle.live_laws.proofs.Effects.Blocks.{member-slice}
use Rattle.spiller.proofs.NothingRepeated.{tells-nothing}
use Rattle.spiller.proofs.ReadingsListed.{finds}
use Rattle.spiller.proofs.remat.plan_remat.Goals as goal

pub returns-then-not-has_repeatable : goal.returns-then-not-has_repeatable
returns-then-not-has_repeatable c = λ facts may are tell.
    let view = c.args.view in
    tells-nothing view may c.args.touched.now are view.slot facts tell
    (λ b i mb mi h.
    let p = member-slice b view.live.now.func.blocks mb in
    let j = member-slice i b.instrs mi in
    c.has_repeatable.ensures c.if-not-has_repeatable.true (finds view may) p.0 j.0 b i p.1 j.1 h)
    c.no_remat.result c.no_remat.ensures.sources c.no_remat.ensures.deleted

pub returns : goal.returns
returns c =
    IfOk-weaker c.plan_repeated.result _ _
    (λ r h facts may are tell. h c.args.view.slot facts may are tell)
    c.plan_repeated.ensures
