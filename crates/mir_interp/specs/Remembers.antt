-- What lies outside the lanes, by chunks of bytes and a count of calls.
use Rattle.std.specs.Prelude.{◌≡◌, ℕ, ◌/◌, ◌%◌, nat_eq, cond, List, [], Option, Some, None, slice_index_or}
use Rattle.std.specs.Map.{lookup}
use Rattle.meaning.specs.Environment.{Environment, Value, byte_of}
use Rattle.meaning.specs.Perform as meaning
use Rattle.mir_interp.specs.declared.memory.MemoryLine.{MemoryLine}
use Rattle.mir_interp.specs.declared.memory.Memory.{Memory}
use Rattle.mir_interp.specs.declared.external.ExternalState.{ExternalState}

-- the cells of a chunk; none where it is missing
abbrev pub unless_missing : Option MemoryLine → List (Option Value)
unless_missing None = []
unless_missing (Some c) = c.cells

-- the cells of the chunk of a number in the map
abbrev pub cells_in : List (ℕ × MemoryLine) → ℕ → List (Option Value)
cells_in es n = unless_missing (lookup (nat_eq n) es)

-- the cells of the chunk of a number
abbrev pub cells_of : Memory → ℕ → List (Option Value)
cells_of m n = cond (nat_eq n m.number) m.at_hand.cells (cells_in m.chunks.entries n)

-- what was stored to an address
abbrev pub stored_at : Memory → ℕ → Option Value
stored_at m a = slice_index_or (cells_of m (a / 16)) (a % 16) None

-- the environment's byte where nothing was stored
abbrev pub unless_stored : Environment → ℕ → Option Value → Value
unless_stored env a None = Some (byte_of env a)
unless_stored env a (Some v) = v

abbrev pub remembered : Environment → Memory → ℕ → Value
remembered env m a = unless_stored env a (stored_at m a)

-- the memory has the bytes that were stored, the newest first
abbrev pub Matches : Environment → Memory → List (ℕ × Value) → Type 0
Matches env m bs = (a : ℕ) → meaning.byte_at env bs a ≡ remembered env m a

pub record Remembers (env : Environment) (m : ExternalState) (o : meaning.Outside) : Type 0 where
  pub bytes : Matches env m.bytes o.bytes
  pub calls : m.calls ≡ o.calls
