-- Worked rows: what pieces tell of a lane in a block.
use Rattle.std.proofs.Common.{◌≡◌, ℕ, true, false, List, [], ◌∷◌, Option, None, Some, refl}
use Rattle.live_lanes.specs.declared.ask.extent.ChangedPiece.{ChangedPiece}
use Rattle.live_lanes.specs.declared.ask.extent.Extent.{Extent}
use Rattle.live_lanes.specs.declared.row.PieceEnd.TheVariants as ends
use Rattle.live_edits.specs.Told.{is_told, untold}

abbrev piece : Option ℕ → ChangedPiece
piece start = record { lane = 5; block = 1; start = start }

-- up to a reading by instruction 7; from a writing by 8 up to the block's end; and from one by 9 on, which nothing reads
abbrev before : List Extent
before = record { start = None; early = false; end = ends.Entry 7 } ∷ record { start = Some 8; early = false; end = ends.Last } ∷ record { start = Some 9; early = true; end = ends.Never } ∷ []

-- Instruction 7 went, and so did the first piece; 10 writes the lane, and the piece of 8 ends there.
abbrev after : List Extent
after = record { start = Some 8; early = false; end = ends.Entry 10 } ∷ record { start = Some 10; early = false; end = ends.Last } ∷ record { start = Some 9; early = true; end = ends.Never } ∷ []

abbrev told : List ChangedPiece
told = piece (Some 10) ∷ piece None ∷ piece (Some 8) ∷ []

-- these pieces tell all that changed there, and none that is left out does
told-all : untold (is_told told 5 1) after ≡ untold (is_told told 5 1) before
told-all = refl

one-left : untold (is_told told 5 1) before ≡ record { start = Some 9; early = true; end = ends.Never } ∷ []
one-left = refl

-- they tell nothing of another block
other-block : untold (is_told told 5 2) before ≡ before
other-block = refl
