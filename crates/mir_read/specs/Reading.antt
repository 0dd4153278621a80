-- What a function answers for a line, unless memory runs out.
use Rattle.std.specs.Prelude.{◌≡◌, Option, Some, None, Result, Ok, Err}
use Rattle.mir_lines.specs.declared.stop.LineStop.{LineStop}
use Rattle.mir_lines.specs.declared.stop.LineStop.TheVariants as line_stops
use Rattle.mir_read.specs.declared.stop.TextKind.{TextKind}
use Rattle.mir_read.specs.declared.stop.TextKind.TheVariants as kinds
use Rattle.mir_read.specs.declared.stop.ReadStop.{ReadStop}
use Rattle.mir_read.specs.declared.stop.ReadStop.TheVariants as stops

infixl 10 ◌>>=◌
-- one test after another; the first that fails is the fault
abbrev pub ◌>>=◌ : {A B : Type 0} → Result A TextKind → (A → Result B TextKind) → Result B TextKind
Ok x >>= f = f x
Err kind >>= f = Err kind

-- a test that fails with this kind where there is nothing
abbrev pub or_fault : {A : Type 0} → TextKind → Option A → Result A TextKind
or_fault kind None = Err kind
or_fault kind (Some x) = Ok x

abbrev pub as_token : LineStop → ReadStop
as_token line_stops.Token = stops.Fault kinds.Token
as_token (line_stops.Memory e) = stops.Memory e

abbrev pub FailsLine : {Y : Type 0} → ReadStop → Result Y TextKind → Type 0
FailsLine (stops.Fault kind) read = read ≡ Err kind
FailsLine (stops.Memory e) read = Unit {0}

abbrev pub GivesLine : {Y : Type 0} → Result Y ReadStop → Result Y TextKind → Type 0
GivesLine (Ok x) read = read ≡ Ok x
GivesLine (Err e) read = FailsLine e read

-- what a function leaves behind for a line, unless memory runs out
abbrev pub LeavesLine : {U Y : Type 0} → Result U ReadStop → Y → Result Y TextKind → Type 0
LeavesLine (Ok x) y read = read ≡ Ok y
LeavesLine (Err e) y read = FailsLine e read
