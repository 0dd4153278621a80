-- What is kept of the bytes of a piece while they are scanned.
use Rattle.std.specs.Prelude.{◌==◌, ℕ, ◌+◌, true, false, ◌&&◌, ◌||◌, if◌then◌else◌, length, take, nat_le, nat_lt, min}
use Rattle.std.specs.List.{list_all, list_any}
use Rattle.ra_top.specs.declared.devices.pieces.PieceScan.{PieceScan}
use Rattle.ra_top.specs.Devices.Pieces.{Lines, begins_document, end_document}

abbrev pub scan_step : PieceScan → ℕ → PieceScan
scan_step s b =
    if b == 10 then record { begun = (nat_le 3 s.len && s.dashes) || s.begun; len = 0; dashes = true; dots = true; whole = (s.len == 3 && s.dots) && s.begun }
    else record { begun = s.begun; len = if nat_lt s.len 4 then s.len + 1 else 4; dashes = s.dashes && (nat_le 3 s.len || b == 45); dots = s.dots && b == 46; whole = false }

-- what is known of a text with these lines
abbrev pub scan_of : Lines → PieceScan
scan_of l = record {
  begun = list_any begins_document l.ended;
  len = min 4 (length l.last);
  dashes = list_all (λ b. b == 45) (take 3 l.last);
  dots = list_all (λ b. b == 46) l.last;
  whole = length l.last == 0 && end_document l.ended;
}
