use Rattle.target_desc.proofs.Ended.{few_units, flags_at_end}
use Rattle.target_desc.proofs.read.TargetReader.end.Goals as goal

pub reserved_of-requires : goal.reserved_of-requires
reserved_of-requires c = rw c.get-draft.ensures (few_units c.args.self.draft c.args.self.sound)

pub options_of-requires : goal.options_of-requires
options_of-requires c = rw c.get-draft.ensures (flags_at_end c.args.self.draft c.args.self.sound)
