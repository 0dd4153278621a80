-- What calls of files or of a sink do to what is told of them.
use Rattle.std.specs.Prelude.{◌≡◌, ℕ, ◌<◌, ◌≤◌, ◌+◌, ◌^◌, ◌⊎◌, List, [], ◌++◌, length, take, drop, Option, Some, IfSome, Result, Ok, Err}
use Rattle.ra_top.specs.declared.devices.device.Failed.{Failed}

-- a count of faults rose, or it stands at its greatest value
abbrev pub Rose : ℕ → ℕ → Type 0
Rose old new = (old < new) ⊎ ((old ≡ new) × (new + 1 ≡ 2 ^ 64))

-- a call fails only where the count rose, and one that succeeds leaves it
abbrev pub HasCause : {A : Type 0} → ℕ → ℕ → Result A Failed → Type 0
HasCause old new (Ok x) = new ≡ old
HasCause old new (Err e) = Rose old new

-- n of the bytes that were left were taken, into the front of a piece
pub record Takes (left : List ℕ) (new : Option (List ℕ)) (piece : List ℕ) (n : ℕ) : Type 0 where
  pub within : n ≤ length left
  pub rest : new ≡ Some (drop n left)
  pub bytes : take n piece ≡ take n left
  pub end : n ≡ 0 → 0 < length piece → left ≡ []

-- some first part of the bytes was written after what was there
abbrev pub WritesPart : Option (List ℕ) → Option (List ℕ) → List ℕ → Type 0
WritesPart old new bytes = IfSome old (λ w. (k : ℕ) × (k ≤ length bytes) × (new ≡ Some (w ++ take k bytes)))

-- all of them were
abbrev pub WritesAll : Option (List ℕ) → Option (List ℕ) → List ℕ → Type 0
WritesAll old new bytes = IfSome old (λ w. new ≡ Some (w ++ bytes))
