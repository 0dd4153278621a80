-- Files in memory.
use Rattle.std.specs.Prelude.{ℕ, ◌+◌, ◌-◌, ◌^◌, Bool, not, ◌&&◌, if◌then◌else◌, List, [], ◌++◌, Option, None, Result, Ok, Err, is_some, unwrap_or, take, drop, length, min, slice_get, position, nat_eq, option_map, option_and_then, Vec, String}
use Rattle.std.specs.Global.{Global}
use Rattle.std.specs.Cmp.Lexicographic.{pointwise}
use Rattle.std.specs.String.{string_bytes}
use Rattle.ra_top.specs.Devices.Calls.{raised, is_due}
use Rattle.ra_top.specs.declared.devices.device.Failed.{Failed}

-- a name and the bytes of its file
abbrev pub File : Type 0
File = List ℕ × List ℕ

abbrev pub file_of : String Global × Vec ℕ Global → File
file_of f = (string_bytes f.0, f.1.items)

-- the files, the calls that fail, the most bytes that a read gives, the place of the file that is
-- read and how far it is read, and how many calls and faults there were
pub record FilesState : Type 0 where
  pub files : List File
  pub fails : List ℕ
  pub most : ℕ
  pub place : Option ℕ
  pub at : ℕ
  pub calls : ℕ
  pub faults : ℕ

-- the place of the first file of a name
abbrev pub place_of : List ℕ → List File → Option ℕ
place_of name files = position (λ f. pointwise nat_eq f.0 name) files

-- the bytes of the first file of a name
abbrev pub file_named : List ℕ → List File → Option (List ℕ)
file_named name files = option_and_then (λ k. option_map (λ f. f.1) (slice_get files k)) (place_of name files)

-- the bytes of the file at a place from a byte on
abbrev pub left_of : Option ℕ → ℕ → List File → Option (List ℕ)
left_of place at files = option_and_then (λ k. option_map (λ f. drop at f.1) (slice_get files k)) place

-- the bytes of the file that is read which are left
abbrev pub bytes_left : FilesState → Option (List ℕ)
bytes_left s = left_of s.place s.at s.files

-- files that have not been called
abbrev pub store : List File → List ℕ → FilesState
store files fails = record { files = files; fails = fails; most = 2 ^ 64 - 1; place = None; at = 0; calls = 0; faults = 0 }

-- the file can be begun: the call is not to fail and the name is there
abbrev pub can_start : List ℕ → FilesState → Bool
can_start name s = not (is_due s.fails s.calls) && is_some (place_of name s.files)

-- after a call of start
abbrev pub started : List ℕ → FilesState → FilesState
started name s = record s { place = place_of name s.files; at = 0; calls = raised s.calls; faults = if can_start name s then s.faults else raised s.faults }

-- the file can be read on: the call is not to fail and a file was begun
abbrev pub can_read : FilesState → Bool
can_read s = not (is_due s.fails s.calls) && is_some (bytes_left s)

-- how many bytes a read gives into a piece: what is left, fits, and the step allows
abbrev pub read_count : ℕ → FilesState → ℕ
read_count room s = if can_read s then min (min room s.most) (length (unwrap_or (bytes_left s) [])) else 0

abbrev pub read_answer : ℕ → FilesState → Result ℕ Failed
read_answer room s = if can_read s then Ok (read_count room s) else Err record {}

-- a piece after a read
abbrev pub read_piece : List ℕ → FilesState → List ℕ
read_piece piece s = take (read_count (length piece) s) (unwrap_or (bytes_left s) []) ++ drop (read_count (length piece) s) piece

-- after a call of read
abbrev pub was_read : ℕ → FilesState → FilesState
was_read room s = record s { at = s.at + read_count room s; calls = raised s.calls; faults = if can_read s then s.faults else raised s.faults }
