-- What holds behind a refusal.
use Rattle.std.specs.Prelude.{OnErr, Result, Ok, Err}

pub on-err : {T E P : Type 0} (r : Result T E) → P → OnErr r P
on-err (Ok x) p = tt
on-err (Err e) p = p
