use Rattle.std.proofs.Common.{◌≡◌, ◌<◌, ◌*◌, ℕ, ◌&&◌, length}
use Rattle.std.specs.Prelude.{not, ◌||◌, nat_eq}
use Rattle.interference.specs.Clashes.{held_of, AreApart, AreFilled, is_taken_by}
use Rattle.interference.specs.Parts.{parts_of, before}
use Rattle.interference.specs.Marked.{is_marked}
use Rattle.interference.proofs.held.HeldList.mark.Given as goal

-- what is left and what is marked are all that is to be marked
abbrev pub invariant-parts : goal.invariant-parts
invariant-parts l = record {
  room : length l.marks.words.items ≡ length l.fn.marks.words.items;
  marked : AreFilled l.self → AreApart l.slots 0 (held_of l.self) → (w : ℕ) → w < length l.fn.marks.words.items * 64
      → ((not (nat_eq w l.but) && is_taken_by l.slots (before (parts_of l.self) l.gap l.part) w l.at) || is_marked l.marks.words.items w)
      ≡ ((not (nat_eq w l.but) && is_taken_by l.slots (held_of l.self) w l.at) || is_marked l.fn.marks.words.items w);
}
