use Rattle.std.proofs.Common.{◌≡◌, subst}
use Rattle.std.specs.Prelude.{OnOk}
use Rattle.spiller.specs.Views.{own_setting, planned}
use Rattle.spiller.specs.Additions.{with_addition}
use Rattle.live_laws.proofs.Effects.Moving.{some-same}
use Rattle.spiller.proofs.Behind.{repeated-put}
use Rattle.spiller.proofs.plan.Plan.put_repeated.Goals as goal

pub returns-clause-plan : goal.returns-clause-plan
returns-clause-plan c finds d there named =
    let same = some-same c.in-Some.instr.now d (c.in-Some.ensures finds there.0 there.1 there.2 d there.3 there.4 named) in
    let e = repeated-put (own_setting c.args.view) c.args.gap c.op_of.result c.in_ok-operands.operands d c.in-Some.instr.now c.args.register same c.op_of.ensures c.in_ok-operands.ensures in
    subst (λ a. OnOk c.put.result (planned c.put.new.self ≡ with_addition a (planned c.args.self.now))) e c.put.ensures
