-- Nothing is written, or read.
use Rattle.std.proofs.Common.{◌≡◌, ℕ, List, [], Option, Some, None, false, refl, ap, sym, append-nil, arith}
use Rattle.ra_top.specs.Devices.Pieces.{is_whole, NoneWhole, lines_of}
use Rattle.ra_top.specs.Devices.Device.{WritesAll}

pub writes_none : (old : Option (List ℕ)) → WritesAll old old []
writes_none None = tt
writes_none (Some w) = ap Some (sym (append-nil w))

-- nothing is no whole piece, and has no part that is
pub none_of_nothing : NoneWhole []
none_of_nothing j below = absurd (omega arith)

pub nothing_whole : is_whole [] ≡ false
unfolding lines_of
nothing_whole = refl
