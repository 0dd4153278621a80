use Rattle.std.proofs.Common.{◌≡◌, ◌++◌, [], true, drop}
use Rattle.mir_meaning.specs.Agreement.{all_alike, blocks_alike}
use Rattle.alloc_check.specs.Bare.{first_bare, second_bare, blocks_bare}
use Rattle.alloc_check.specs.Compared.{Goes, first_from, second_from}
use Rattle.alloc_check.proofs.rows.rows_of.Given as goal

abbrev pub invariant-loop-k : goal.invariant-loop-k
invariant-loop-k l = (first_bare l.rows ++ blocks_bare l.t l.f (drop l.k l.f.blocks) ≡ blocks_bare l.t l.f l.f.blocks) × (second_bare l.rows ++ blocks_bare l.t l.g (drop l.k l.g.blocks) ≡ blocks_bare l.t l.g l.g.blocks)
    × (all_alike blocks_alike l.f.blocks l.g.blocks ≡ true → Goes true [] (first_from l.t l.f 0) (second_from l.t l.f l.g 0) l.rows (first_from l.t l.f l.k) (second_from l.t l.f l.g l.k))
