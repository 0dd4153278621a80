use Rattle.std.proofs.lemmas.Result.{on_ok_weaker}
use Rattle.spiller.specs.Views.{planned, spilling_of}
use Rattle.spiller.proofs.MarkLoop.{ends-met, ends-planned}
use Rattle.spiller.proofs.spilled.change_ends.Goals as goal

pub returns : goal.returns
returns c facts m may is same ends =
    let view = c.args.view in
    let js = c.ends_at.result.now in
    let are = ends-met view m may.may is c.args.id same js c.ends_at.ensures ends in
    on_ok_weaker c.change_terminators.result (λ h. ends-planned view m may.may is c.args.id same (spilling_of view view.slot facts) js (planned c.args.plan.now) (planned c.change_terminators.new.plan) c.ends_at.ensures are h)
    (c.change_terminators.ensures.terminators facts may is.position m.block is.there are)
