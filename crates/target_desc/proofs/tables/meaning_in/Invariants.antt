use Rattle.std.proofs.Common.{◌≡◌, drop, map}
use Rattle.target_desc.specs.Words.{meaning_in, row_of}
use Rattle.target_desc.proofs.tables.meaning_in.Given as goal

abbrev pub invariant-loop-row : goal.invariant-loop-row
invariant-loop-row g l = meaning_in (map row_of l.table) l.word ≡ meaning_in (map row_of (drop l.row-index l.table)) l.word
