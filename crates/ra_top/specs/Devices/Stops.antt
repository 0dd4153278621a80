-- Why a file was not read.
use Rattle.std.specs.Prelude.{◌≡◌, ℕ}
use Rattle.ra_top.specs.Devices.Device.{Rose}
use Rattle.ra_top.specs.declared.devices.moves.FileStop.{FileStop}
use Rattle.ra_top.specs.declared.devices.moves.FileStop.TheVariants as stops

-- a failed call only where the count of faults rose; for want of memory it is as it was
abbrev pub StopHasCause : ℕ → ℕ → FileStop → Type 0
StopHasCause old new stops.Failed = Rose old new
StopHasCause old new (stops.Memory e) = new ≡ old
