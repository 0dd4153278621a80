use Rattle.std.proofs.Common.{◌≡◌, ◌++◌, ◌≤◌, true, drop, length}
use Rattle.meaning.specs.Code.{Code}
use Rattle.mir_meaning.specs.Agreement.{all_alike, blocks_alike}
use Rattle.alloc_check.specs.Bare.{first_bare, second_bare, items}
use Rattle.alloc_check.specs.Compared.{Goes, first_items, second_items}
use Rattle.alloc_check.proofs.rows.push_instrs.Given as goal

abbrev pub invariant-loop-i : goal.invariant-loop-i
invariant-loop-i l = (l.j ≤ length l.pair.c.now.instrs) × (first_bare l.rows ++ items l.t l.pair.f.now l.pair.b.now (drop l.i-index l.pair.b.now.instrs) ≡ first_bare l.initial.rows ++ items l.t l.pair.f.now l.pair.b.now l.pair.b.now.instrs) × (second_bare l.rows ++ items l.t l.pair.g.now l.pair.c.now (drop l.j l.pair.c.now.instrs) ≡ second_bare l.initial.rows ++ items l.t l.pair.g.now l.pair.c.now l.pair.c.now.instrs)
    × (all_alike blocks_alike l.pair.f.now.blocks l.pair.g.now.blocks ≡ true → (p q : Code) →
    Goes true l.initial.rows (first_items l.t l.pair.f.now l.pair.b.now l.pair.b.now.instrs ++ p) (second_items l.t l.pair.f.now l.pair.g.now l.pair.b.now l.pair.c.now l.pair.c.now.instrs ++ q) l.rows (first_items l.t l.pair.f.now l.pair.b.now (drop l.i-index l.pair.b.now.instrs) ++ p) (second_items l.t l.pair.f.now l.pair.g.now l.pair.b.now l.pair.c.now (drop l.j l.pair.c.now.instrs) ++ q))
