use Rattle.std.proofs.Common.{◌≡◌, ◌≤◌, ◌+◌, length, take}
use Rattle.std.specs.Prelude.{◌==◌}
use Rattle.std.specs.List.{suffix_len}
use Rattle.mir_lines.proofs.lexer.skip_back.Given as goal

abbrev pub invariant-spaces : goal.invariant-spaces
invariant-spaces l = record {
  within : l.n ≤ length l.text;
  same : l.n + suffix_len (λ b. b == 32) l.text ≡ length l.text + suffix_len (λ b. b == 32) (take l.n l.text);
}

abbrev pub decreases-spaces : goal.decreases-spaces
decreases-spaces l = l.n
