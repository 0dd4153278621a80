use Rattle.std.proofs.Common.{◌≡◌, ◌∷◌, ◌++◌, ◌-◌, ◌≤◌, true, drop, length}
use Rattle.mir_func.specs.declared.func.Block.{Block}
use Rattle.mir_func.specs.Value.{Function}
use Rattle.meaning.specs.Code.{Code, Item}
use Rattle.alloc_check.specs.Bare.{first_bare, second_bare, items}
use Rattle.alloc_check.specs.Compared.{Goes, is_loud, second_items}
use Rattle.alloc_check.proofs.rows.push_seconds.Given as goal

abbrev pub invariant-loop-j : goal.invariant-loop-j
invariant-loop-j l = (l.from ≤ l.j) × (l.j ≤ length l.c.instrs) × (first_bare l.rows ≡ first_bare l.initial.rows) × (second_bare l.rows ++ items l.t l.g l.c (drop l.j l.c.instrs) ≡ second_bare l.initial.rows ++ items l.t l.g l.c (drop l.from l.c.instrs))
    × ((f : Function) (b : Block) (i : Item) (p q : Code) → is_loud i ≡ true → Goes true l.initial.rows (i ∷ p) (second_items l.t f l.g b l.c (drop l.from l.c.instrs) ++ q) l.rows (i ∷ p) (second_items l.t f l.g b l.c (drop l.j l.c.instrs) ++ q))

abbrev pub decreases-loop-j : goal.decreases-loop-j
decreases-loop-j l = length l.c.instrs - l.j
