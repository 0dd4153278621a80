use Rattle.std.proofs.Common.{◌≡◌, ◌<◌, ◌*◌, ℕ, true, ◌&&◌, length, drop}
use Rattle.std.specs.Prelude.{not, ◌||◌, nat_eq}
use Rattle.std.specs.List.{list_all}
use Rattle.interference.specs.Clashes.{begins_by, is_taken_by}
use Rattle.interference.specs.Marked.{is_marked}
use Rattle.interference.proofs.held.mark_met.Given as goal

-- the ranges of what is gone through are marked
abbrev pub invariant-stretches : goal.invariant-stretches
invariant-stretches l = record {
  room : length l.marks.words.items ≡ length l.fn.marks.words.items;
  marked : list_all (begins_by l.slots l.at.last) l.stretches ≡ true → (w : ℕ) → w < length l.fn.marks.words.items * 64
      → is_marked l.marks.words.items w ≡ ((not (nat_eq w l.but) && is_taken_by l.slots (drop l.k l.stretches) w l.at) || is_marked l.fn.marks.words.items w);
}
