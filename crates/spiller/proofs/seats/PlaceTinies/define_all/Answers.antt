use Rattle.std.proofs.Common.{◌++◌, ◌∙◌, ap, flat_map, map, take}
use Rattle.mir_func.specs.Binding.{numbered}
use Rattle.spiller.specs.Views.{gap_before, own_setting, planned}
use Rattle.spiller.specs.Additions.{definitions_given, own_definitions, with_addition}
use Rattle.spiller.specs.Seating.{defined_tiny}
use Rattle.spiller.proofs.Steps.{define-more-plan, define-more-tinies, flat-take}
use Rattle.spiller.proofs.seats.PlaceTinies.define_all.Goals as goal

pub instrs-preserved : goal.instrs-preserved
instrs-preserved c =
    let s = own_setting c.args.view in
    let gap = gap_before c.args.view c.args.at in
    let d = own_definitions s in
    let k = c.instrs.instr-index in
    let i = c.instr-item.result in
    let ds = flat_map d (take k c.args.instrs.now) in
    let all = flat-take d c.args.instrs.now k i c.instrs-test.true c.instr-item.is in
    let new = c.in_ok-define.ensures in
    let p = planned c.args.plan.now in
    let q = planned c.instrs.plan in
    let r = planned c.define.new.plan in
    let inv = c.instrs.invariant in
    let tinies = new.tinies ∙ ap (λ x. c.instrs.self.definitions.items ++ map defined_tiny (numbered q.next_range (d x))) c.get.ensures in
    let plan = new.plan ∙ ap (λ x. with_addition (definitions_given s gap c.args.at (numbered q.next_range (d x))) q) c.get.ensures in
    record {
      reads = new.reads ∙ inv.reads;
      tinies = define-more-tinies s gap c.args.at ds (d i) _ p q c.args.self.now.definitions.items c.instrs.self.definitions.items c.define.new.self.definitions.items all inv.plan inv.tinies tinies;
      plan = define-more-plan s gap c.args.at ds (d i) _ p q r all inv.plan plan;
    }
