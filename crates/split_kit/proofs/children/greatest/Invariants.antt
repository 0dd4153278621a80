use Rattle.std.proofs.Common.{◌≡◌, drop}
use Rattle.std.specs.Prelude.{max}
use Rattle.split_kit.specs.Split.{greatest_label}
use Rattle.split_kit.proofs.children.greatest.Given as goal

abbrev pub invariant-marks : goal.invariant-marks
invariant-marks l = max l.most (greatest_label (drop l.mark-index l.marks)) ≡ greatest_label l.marks
