-- A sink in memory.
use Rattle.std.specs.Prelude.{◌==◌, ℕ, ◌-◌, ◌^◌, Bool, not, ◌&&◌, ◌||◌, if◌then◌else◌, List, [], ◌++◌, Result, Ok, Err, take, length, min}
use Rattle.ra_top.specs.Devices.Calls.{raised, is_due}
use Rattle.ra_top.specs.declared.devices.device.Failed.{Failed}

-- what was written, the room for it, the calls that fail, the most bytes that a call takes, and how
-- many calls and faults there were
pub record SinkState : Type 0 where
  pub bytes : List ℕ
  pub room : ℕ
  pub fails : List ℕ
  pub most : ℕ
  pub calls : ℕ
  pub faults : ℕ

-- a sink that has not been called
abbrev pub sink : ℕ → List ℕ → SinkState
sink room fails = record { bytes = []; room = room; fails = fails; most = 2 ^ 64 - 1; calls = 0; faults = 0 }

-- how many bytes a write may take: what fits into the room that is left, and the step allows
abbrev pub fitting : ℕ → SinkState → ℕ
fitting n s = min (min n s.most) (s.room - length s.bytes)

-- a write succeeds: the call is not to fail, and there is room or nothing to write
abbrev pub can_write : ℕ → SinkState → Bool
can_write n s = not (is_due s.fails s.calls) && (n == 0 || not (fitting n s == 0))

abbrev pub write_answer : ℕ → SinkState → Result ℕ Failed
write_answer n s = if can_write n s then Ok (fitting n s) else Err record {}

-- after a call of write
abbrev pub was_written : List ℕ → SinkState → SinkState
was_written piece s = record s { bytes = s.bytes ++ (if can_write (length piece) s then take (fitting (length piece) s) piece else []); calls = raised s.calls; faults = if can_write (length piece) s then s.faults else raised s.faults }
