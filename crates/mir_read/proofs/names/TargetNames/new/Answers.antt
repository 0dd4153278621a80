use Rattle.mir_read.proofs.TargetNames.{regs_few, regs_distinct, indexes_few, indexes_distinct, classes_few, classes_distinct, masks_few, masks_distinct, opcodes_few, opcodes_distinct, flags_distinct}
use Rattle.mir_read.proofs.names.TargetNames.new.Goals as goal

pub reg_names-requires-clause-few : goal.reg_names-requires-clause-few
reg_names-requires-clause-few c = rw c.as_slice.ensures (regs_few c.args.target.now)

pub reg_names-requires-clause-distinct : goal.reg_names-requires-clause-distinct
reg_names-requires-clause-distinct c = rw c.as_slice.ensures (regs_distinct c.args.target.now)

pub index_names-requires-clause-few : goal.index_names-requires-clause-few
index_names-requires-clause-few c = rw c.as_slice-2.ensures (indexes_few c.args.target.now)

pub index_names-requires-clause-distinct : goal.index_names-requires-clause-distinct
index_names-requires-clause-distinct c = rw c.as_slice-2.ensures (indexes_distinct c.args.target.now)

pub class_names-requires-clause-few : goal.class_names-requires-clause-few
class_names-requires-clause-few c = rw c.as_slice-3.ensures (classes_few c.args.target.now)

pub class_names-requires-clause-distinct : goal.class_names-requires-clause-distinct
class_names-requires-clause-distinct c = rw c.as_slice-3.ensures (classes_distinct c.args.target.now)

pub mask_names-requires-clause-few : goal.mask_names-requires-clause-few
mask_names-requires-clause-few c = rw c.as_slice-4.ensures (masks_few c.args.target.now)

pub mask_names-requires-clause-distinct : goal.mask_names-requires-clause-distinct
mask_names-requires-clause-distinct c = rw c.as_slice-4.ensures (masks_distinct c.args.target.now)

pub opcode_names-requires-clause-few : goal.opcode_names-requires-clause-few
opcode_names-requires-clause-few c = rw c.as_slice-5.ensures (opcodes_few c.args.target.now)

pub opcode_names-requires-clause-distinct : goal.opcode_names-requires-clause-distinct
opcode_names-requires-clause-distinct c = rw c.as_slice-5.ensures (opcodes_distinct c.args.target.now)

pub flag_words-requires : goal.flag_words-requires
flag_words-requires c = rw c.as_slice-6.ensures (flags_distinct c.args.target.now)

pub invariant_of-result : goal.invariant_of-result
invariant_of-result c = record {
  regs = c.in_ok-reg_names.ensures.few;
  indexes = c.in_ok-index_names.ensures.few;
  classes = c.in_ok-class_names.ensures.few;
  masks = c.in_ok-mask_names.ensures.few;
  opcodes = c.in_ok-opcode_names.ensures.few;
}
