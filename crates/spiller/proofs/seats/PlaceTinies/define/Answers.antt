use Rattle.std.proofs.Common.{◌≡◌, ◌<◌, ◌∙◌, List, [], get_or, length, subst}
use Rattle.std.specs.List.{cons_option}
use Rattle.mir_func.specs.declared.func.Operand.{Operand}
use Rattle.mir_func.specs.Binding.{explicit_roles}
use Rattle.spiller.specs.Spilled.{own_definition}
use Rattle.spiller.specs.Views.{gap_before, own_setting, planned}
use Rattle.spiller.proofs.Steps.{define-plan, define-tinies, range-behind}
use Rattle.spiller.proofs.seats.PlaceTinies.define.Goals as goal

pub operands-preserved : goal.operands-preserved
operands-preserved c =
    let s = own_setting c.args.view in
    let i = c.args.instr.now in
    let g = own_definition s i in
    let gap = gap_before c.args.view c.args.at in
    let qs = explicit_roles c.operands.roles.now in
    let next = explicit_roles c.next_role-role.result.1.now in
    let r = c.next_role-role.result.0 in
    let k = c.operands.number in
    let o = c.operand-item.result in
    let h = subst (λ (os : List Operand). k < length os) c.as_slice-operand-items.ensures c.operands-test.true in
    let is = subst (λ (os : List Operand). o ≡ get_or os k o) c.as_slice-operand-items.ensures c.operand-item.is in
    let role = c.next_role-role.ensures in
    let new = c.in_ok-define_operand.ensures in
    let p = planned c.operands.plan in
    let q = planned c.define_operand.new.plan in
    record {
      reads = new.reads ∙ c.operands.invariant.reads;
      tinies = define-tinies g qs next r k i.operands o c.operands.plan.next_range c.define_operand.new.plan.next_range c.operands.self.definitions.items c.define_operand.new.self.definitions.items _ h is role.role role.left (range-behind s gap c.args.at p q (cons_option (g (k, (r, o))) []) new.plan) new.tinies c.operands.invariant.tinies;
      plan = define-plan s gap c.args.at g qs next r k i.operands o p q _ h is role.role role.left new.plan c.operands.invariant.plan;
    }
