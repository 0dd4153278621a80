-- What a list ends as, where a `&mut` to an element is returned.
use Rattle.std.specs.Prelude.{ℕ, List, slice_set}
use Rattle.std.specs.Borrow.{Lends, Fml, RattleType, MutBor}
use Rattle.target_base.specs.contracts.list.List.{the_row}

-- once the borrow r ends, element i is what r shows last
abbrev pub LendsElement : (T : RattleType) → MutBor (List T.Denot) → ℕ → MutBor T.Denot → Fml
LendsElement T s i r = Lends (the_row T) T s r (slice_set s.now i)
