use Rattle.std.proofs.Common.{◌≡◌, ◌++◌, drop, map}
use Rattle.std.specs.Prelude.{filter_map}
use Rattle.mir_func.specs.Binding.{explicit_bound, explicit_roles}
use Rattle.mir_meaning.specs.Places.{each_once}
use Rattle.spiller.specs.Views.{way_of}
use Rattle.spiller.specs.Additions.{own_use, own_uses}
use Rattle.spiller.proofs.seats.add_ways.Given as goal

-- the ways so far, and those by the operands that are left
abbrev pub invariant-operands : goal.invariant-operands
invariant-operands l =
    let v = l.view.v in
    let t = l.view.target.now in
    let f = l.view.live.now.func in
    let now = map (way_of v) l.ways.items in
    let before = map (way_of v) l.fn.ways.items in
    now ++ each_once now (filter_map (own_use t f v) (explicit_bound (explicit_roles l.roles) (drop l.operand-index l.instr.operands))) ≡ before ++ each_once before (own_uses t f v l.instr)
