-- Counts that stand at their greatest value.
use Rattle.std.proofs.Common.{ℕ, ◌<◌, ◌-◌, ◌^◌, inl, inr, arith}
use Rattle.std.proofs.lemmas.Bool.{cases_lt}
use Rattle.ra_top.specs.Devices.Calls.{raised}
use Rattle.ra_top.specs.Devices.Device.{Rose}

pub raised_rose : (n : ℕ) → n < 2 ^ 64 → Rose n (raised n)
raised_rose n h = elim (cases_lt n (2 ^ 64 - 1)) [ inl l ↦ inl (omega arith) | inr l ↦ inr (omega arith, omega arith) ]
