-- What of a file isn't taken yet.
use Rattle.std.specs.Prelude.{◌≡◌, ℕ, false, List, [], ◌++◌, Option, Some, IfSome}
use Rattle.ra_top.specs.Devices.Pieces.{is_whole}
use Rattle.ra_top.specs.declared.devices.moves.FileStop.{FileStop}
use Rattle.ra_top.specs.declared.devices.moves.FileStop.TheVariants as stops

-- What is left of the file, where it is told, is this rest, and what was not taken of it goes on from
-- a chunk. Of what was not taken before, a text was taken.
abbrev pub Taken : Option (List ℕ) → List ℕ → Option (List ℕ) → List ℕ → List ℕ → Type 0
Taken old_left old_chunk left chunk text =
    IfSome old_left (λ l. (rest : List ℕ) × (left ≡ Some rest) × (old_chunk ++ l ≡ text ++ (chunk ++ rest)))

-- a text is all that was not taken
abbrev pub IsRest : Option (List ℕ) → List ℕ → List ℕ → Type 0
IsRest left chunk text = IfSome left (λ l. chunk ++ l ≡ text)

-- where a read failed, all that was read is in the piece, and it isn't whole
abbrev pub StopsBeforeWhole : FileStop → List ℕ → List ℕ → Type 0
StopsBeforeWhole stops.Failed piece chunk = (chunk ≡ []) × (is_whole piece ≡ false)
StopsBeforeWhole (stops.Memory e) piece chunk = Unit {0}
