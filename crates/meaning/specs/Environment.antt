-- What a run finds: plain data, in which whatever isn't listed is 0.
use Rattle.std.specs.Prelude.{ℕ, ◌+◌, ◌-◌, ◌/◌, ◌%◌, ◌^◌, ℤ, pos, negsuc, cond, nat_eq, List, [], ◌∷◌, Option, Some, None, slice_index_or}
use Rattle.target_base.specs.Storage.{same_numbers}
use Rattle.meaning.specs.declared.types.Source.{Source}
use Rattle.meaning.specs.declared.types.Source.TheVariants.{Bits}
pub use Rattle.meaning.specs.declared.types.Constant.{Constant}
pub use Rattle.meaning.specs.declared.types.Constant.TheVariants.{Immediate, StackAddress, FixedStackAddress, SymbolAddress}

-- None is Undef
abbrev pub Value : Type 0
Value = Option ℕ

-- numbers by their keys
abbrev pub Table : Type 0
Table = List (ℕ × ℕ)

pub record Environment : Type 0 where
  -- what each unit holds at the start
  pub entry : List (ℕ × Value)
  -- the byte at each address
  pub bytes : Table
  -- the address of each frame object and of each fixed one
  pub stack : Table
  pub fixed_stack : Table
  -- the address of each symbol, by its spelling
  pub symbols : List (List ℕ × ℕ)
  -- the lanes that each call answers
  pub answers : List (List ℕ)

abbrev pub number_at : Table → ℕ → ℕ
number_at [] k = 0
number_at (e ∷ es) k = cond (nat_eq e.0 k) e.1 (number_at es k)

abbrev pub address_of : List (List ℕ × ℕ) → List ℕ → ℕ
address_of [] name = 0
address_of (e ∷ es) name = cond (same_numbers e.0 name) e.1 (address_of es name)

abbrev pub value_at : List (ℕ × Value) → ℕ → Value
value_at [] k = Some 0
value_at (e ∷ es) k = cond (nat_eq e.0 k) e.1 (value_at es k)

abbrev pub modulo : ℕ → Value → Value
modulo w None = None
modulo w (Some n) = Some (n % 2 ^ w)

-- what a unit of that width holds at the start
abbrev pub entry_value : Environment → ℕ → ℕ → Value
entry_value env width u = modulo width (value_at env.entry u)

abbrev pub byte_of : Environment → ℕ → ℕ
byte_of env a = number_at env.bytes a % 256

-- lane j, of that width, of the answer to call k
abbrev pub answer : Environment → ℕ → ℕ → ℕ → ℕ
answer env k j width = slice_index_or (slice_index_or env.answers k []) j 0 % 2 ^ width

-- a signed number modulo 2 ^ w
abbrev pub residue : ℤ → ℕ → ℕ
residue (pos n) w = n % 2 ^ w
residue (negsuc n) w = 2 ^ w - 1 - n % 2 ^ w

-- a constant modulo 2 ^ w; an address is a number of 64 bits
abbrev pub constant_residue : Environment → Constant → ℕ → ℕ
constant_residue env (Immediate n) w = n % 2 ^ w
constant_residue env (StackAddress n) w = number_at env.stack n % 2 ^ 64 % 2 ^ w
constant_residue env (FixedStackAddress n) w = number_at env.fixed_stack n % 2 ^ 64 % 2 ^ w
constant_residue env (SymbolAddress name) w = address_of env.symbols name % 2 ^ 64 % 2 ^ w

-- so many bits of a constant from bit `low` on
abbrev pub bits_of : Environment → Constant → ℕ → ℕ → ℕ
bits_of env c low width = constant_residue env c (low + width) / 2 ^ low

-- So many bits of a constant from bit `low` on, as a source. Of a number nothing counts but these bits, so that
-- equal bits of two numbers are one source.
abbrev pub constant_source : Constant → ℕ → ℕ → Source
constant_source (Immediate n) low width = Bits (Immediate (n % 2 ^ (low + width) / 2 ^ low)) 0 width
constant_source c low width = Bits c low width
