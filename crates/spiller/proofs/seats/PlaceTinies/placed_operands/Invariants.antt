use Rattle.std.proofs.Common.{◌≡◌, ◌++◌, drop, map}
use Rattle.mir_func.specs.Binding.{explicit_bound, explicit_roles, numbered}
use Rattle.spiller.specs.Spilled.{numbered_operands}
use Rattle.spiller.specs.Views.{own_setting}
use Rattle.spiller.specs.Seating.{placed_operand}
use Rattle.spiller.proofs.seats.PlaceTinies.placed_operands.Given as goal

-- the operands so far, and those that are left
abbrev pub invariant-operands : goal.invariant-operands
invariant-operands l =
    let put = placed_operand (own_setting l.view) l.self.reads.items l.self.definitions.items l.instr.id in
    l.operands ++ map put (numbered l.number (explicit_bound (explicit_roles l.roles) (drop l.number l.instr.operands))) ≡ map put (numbered_operands l.view.target.now l.instr)
