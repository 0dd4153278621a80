use Rattle.std.proofs.Common.{◌≡◌, drop}
use Rattle.watchers.specs.RegisterCounts.{given_all}
use Rattle.watchers.proofs.pressure.given_all.Given as goal

-- what is left, over what was made, gives the whole
abbrev pub invariant-choices : goal.invariant-choices
invariant-choices l = given_all l.target l.made.items (drop l.r-index l.r-items) ≡ given_all l.target l.fn.given l.fn.choices
