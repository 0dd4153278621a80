-- How large a document grows.
use Rattle.std.proofs.Common.{◌≡◌, ℕ, ◌≤◌, ◌+◌, Ok, Err, arith}
use Rattle.std.proofs.lemmas.List.{length-map}
use Rattle.std.specs.Prelude.{Result, IfOk}
use Rattle.mir_read.specs.declared.keys.Keys.{Keys}
use Rattle.mir_text.specs.declared.reading.BodyReader.{BodyReader}
use Rattle.mir_text.specs.declared.document.State.{State}
use Rattle.mir_text.specs.declared.document.State.TheVariants as states
use Rattle.mir_func.specs.Value.{Function}
use Rattle.mir_read.specs.Keys.{AddsToKeys}
use Rattle.mir_read.specs.Body.{BodyValue, operands_of}
use Rattle.mir_read.specs.Ranges.{class_in}
use Rattle.mir_text.specs.BodyLines.{reading_of, function_of, IsFunctionWithin, IsReadingWithin, AddsToReading}
use Rattle.mir_text.specs.Document.{AreKeysWithin, IsStateWithin}

pub function_grows : (m n : ℕ) (f : Function) → IsFunctionWithin m f → m ≤ n → IsFunctionWithin n f
function_grows m n f h le = record { ids = omega (arith, h.ids, le); ranges = omega (arith, h.ranges, le); operands = omega (arith, h.operands, le); frames = omega (arith, h.frames, le) }

pub reading_grows : (m n : ℕ) (r : BodyReader) → IsReadingWithin m r → m ≤ n → IsReadingWithin n r
reading_grows m n r h le = record {
  frames = omega (arith, h.frames, le);
  registers = omega (arith, h.registers, le);
  names = omega (arith, h.names, le);
  given = omega (arith, h.given, le);
  headers = omega (arith, h.headers, le);
  ids = omega (arith, h.ids, le);
  operands = omega (arith, h.operands, le);
}

pub keys_grow : (m n : ℕ) (k : Keys) → AreKeysWithin m k → m ≤ n → AreKeysWithin n k
keys_grow m n k h le = record { frames = omega (arith, h.frames, le); registers = omega (arith, h.registers, le) }

pub keys_add : (m d : ℕ) (k l : Keys) → AreKeysWithin m k → AddsToKeys d k l → AreKeysWithin (m + d) l
keys_add m d k l h a = record { frames = omega (arith, h.frames, a.frames); registers = omega (arith, h.registers, a.registers) }

pub state_grows : (m n : ℕ) (s : State) → IsStateWithin m s → m ≤ n → IsStateWithin n s
state_grows m n (states.Outside before) h le = tt
state_grows m n states.Ir h le = tt
state_grows m n (states.Keys before k) h le = keys_grow m n k h le
state_grows m n (states.Body before r) h le = reading_grows m n r h le
state_grows m n states.EndOfIr h le = tt
state_grows m n (states.Function before f) h le = function_grows m n f h le

pub reading_adds : (m d : ℕ) (r s : BodyReader) → IsReadingWithin m r → AddsToReading d r s → IsReadingWithin (m + d) s
reading_adds m d r s h a = record {
  frames = omega (arith, h.frames, a.frames);
  registers = omega (arith, h.registers, a.registers);
  names = omega (arith, h.names, a.names);
  given = omega (arith, h.given, a.given);
  headers = omega (arith, h.headers, a.headers);
  ids = omega (arith, h.ids, a.ids);
  operands = omega (arith, h.operands, a.operands);
}

pub reading_begins : (n : ℕ) (k : Keys) → AreKeysWithin n k → IsReadingWithin n (reading_of k)
reading_begins n k h = record {
  frames = h.frames;
  registers = h.registers;
  names = omega arith;
  given = omega arith;
  headers = omega arith;
  ids = omega arith;
  operands = omega arith;
}

-- the function of a body whose last block has ended
pub function_small : (n : ℕ) (r : BodyReader) (b : BodyValue) → IsReadingWithin n r → b.next_id ≡ r.body.next_id → operands_of b ≡ operands_of r.body → IsFunctionWithin n (function_of r b)
unfolding function_of
function_small n r b h i o = record {
  ids = omega (arith, i, h.ids);
  ranges = omega (arith, length-map r.ranges.given class_in, h.given);
  operands = omega (arith, o, h.operands);
  frames = h.frames;
}

-- what holds of an answer, where something stronger does
pub if_ok : {T E : Type 0} (r : Result T E) (P Q : T → Type 0) → ((x : T) → P x → Q x) → IfOk r P → IfOk r Q
if_ok (Ok x) P Q f h = f x h
if_ok (Err e) P Q f h = tt
