use Rattle.target_base.specs.declared.types.OpcodeDesc.{OpcodeDesc}
use Rattle.mir_read.proofs.Distinct.{names_begin}
use Rattle.mir_read.proofs.names.opcode_names.Goals as goal

pub loop-d-init : goal.loop-d-init
loop-d-init c = rw c.new-names.ensures (names_begin {X = OpcodeDesc} (λ d. d.name) c.args.opcodes.now c.requires.distinct)
