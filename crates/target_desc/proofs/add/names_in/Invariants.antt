use Rattle.std.proofs.Common.{◌≡◌, ◌≤◌, length, take, map, fold, []}
use Rattle.target_desc.specs.Drafts.{name_in}
use Rattle.word_set.specs.Words.{with_name}
use Rattle.target_desc.proofs.add.names_in.Given as goal

abbrev pub invariant-loop-row : goal.invariant-loop-row
invariant-loop-row l = record {
  few : length l.names ≤ l.row-index;
  same : l.names ≡ fold with_name [] (map name_in (take l.row-index l.rows));
}
