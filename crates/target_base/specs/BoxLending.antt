-- What a box and a list of boxes end as, where a `&mut` to a value in them is returned.
use Rattle.std.specs.Prelude.{ℕ, List, slice_set}
use Rattle.std.specs.Borrow.{Lends, Fml, RattleType, MutBor}
use Rattle.target_base.specs.contracts.boxed.Boxed.{the_row}
use Rattle.target_base.specs.contracts.boxed.BoxedList.{the_row as list_row}

-- once the borrow r ends, the box holds what r shows last
abbrev pub LendsValue : (T : RattleType) → MutBor T.Denot → MutBor T.Denot → Fml
LendsValue T s r = Lends (the_row T) T s r (λ w. w)

-- once the borrow r ends, element i is what r shows last
abbrev pub LendsItem : (T : RattleType) → MutBor (List T.Denot) → ℕ → MutBor T.Denot → Fml
LendsItem T s i r = Lends (list_row T) T s r (slice_set s.now i)
