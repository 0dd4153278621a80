use Rattle.std.proofs.Common.{◌≡◌, drop}
use Rattle.std.specs.Prelude.{filter_map}
use Rattle.std.specs.List.{list_any}
use Rattle.mir_func.specs.Binding.{explicit_bound, explicit_roles}
use Rattle.mir_meaning.specs.Places.{same_use}
use Rattle.spiller.specs.Additions.{own_use, own_uses}
use Rattle.spiller.specs.Views.{way_of}
use Rattle.spiller.proofs.remat.reads_so.Given as goal

-- the operands that are left decide
abbrev pub invariant-operands : goal.invariant-operands
invariant-operands l =
    let v = l.view.v in
    let t = l.view.target.now in
    let f = l.view.live.now.func in
    list_any (same_use (way_of v l.way)) (own_uses t f v l.instr) ≡ list_any (same_use (way_of v l.way)) (filter_map (own_use t f v) (explicit_bound (explicit_roles l.roles) (drop l.operand-index l.instr.operands)))
