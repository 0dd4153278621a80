-- How many elements a list has.
use Rattle.std.proofs.Common.{◌≡◌, ℕ, ◌≤◌, ◌+◌, List, length, arith}
use Rattle.std.specs.Borrow.{Bor}
use Rattle.mir_lines.specs.declared.raw.RawOperand.{RawOperand}
use Rattle.mir_lines.specs.declared.instructions.OperandSide.{OperandSide}
use Rattle.mir_lines.specs.declared.instructions.OperandSide.TheVariants as parts
use Rattle.mir_lines.specs.declared.instructions.ListTail.TheVariants as links
use Rattle.mir_lines.specs.Instructions.{IsShorter, AreFew}

pub are_few : (part : OperandSide) (m n k r : ℕ) (p : List RawOperand × Bor (List ℕ)) → length p.0 ≡ k + 1 → k + r ≤ m + n → IsShorter (links.End p.1) part r → AreFew part m n p
are_few parts.Definitions m n k r p e h s = omega arith
are_few parts.Others m n k r p e h s = omega arith

pub no_longer : (part : OperandSide) (r : ℕ) (rest : Bor (List ℕ)) → IsShorter (links.End rest) part r → length rest.now ≤ r
no_longer parts.Definitions r rest s = omega arith
no_longer parts.Others r rest s = s

pub ruleset few = (are_few, no_longer)
