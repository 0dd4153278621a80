-- The source of some bits of a constant has these bits.
use Rattle.std.specs.Prelude.{◌≡◌, ℕ, Some}
use Rattle.meaning.specs.declared.types.Constant.{Constant}
use Rattle.meaning.specs.Environment.{Environment, bits_of, constant_source}
use Rattle.meaning.specs.State.{State, fetch}

abbrev pub SourcesHaveTheirBits : Type 0
SourcesHaveTheirBits = (env : Environment) (state : State) (c : Constant) (low width : ℕ) → fetch env state (constant_source c low width) ≡ Some (bits_of env c low width)
