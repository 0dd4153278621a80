use Rattle.std.proofs.Common.{◌≡◌, drop, map}
use Rattle.std.specs.Prelude.{filter_map}
use Rattle.mir_func.specs.Binding.{explicit_bound, explicit_roles}
use Rattle.spiller.specs.Views.{own_setting, planned}
use Rattle.spiller.specs.Additions.{put_into, tied_reload_of, tied_reloads, tied_use, with_addition}
use Rattle.spiller.specs.Seating.{defined_as}
use Rattle.spiller.proofs.seats.reload_tied.Given as goal

-- what is planned, with the reloads by the operands that are left
abbrev pub invariant-operands : goal.invariant-operands
invariant-operands l =
    let s = own_setting l.view in
    let left = filter_map (tied_use l.view.v l.tiny.number) (explicit_bound (explicit_roles l.roles) (drop l.operand-index l.instr.operands)) in
    with_addition (put_into s l.gap (map (tied_reload_of s l.tiny.range l.tiny.indexed_class.class) left)) (planned l.plan)
    ≡ with_addition (put_into s l.gap (tied_reloads s (l.tiny.range, defined_as l.instr l.tiny.number l.tiny.indexed_class))) (planned l.fn.plan)
