-- A range's slot apart from the range.
use Rattle.std.specs.Prelude.{◌≡◌, ℕ, true, ◌∷◌}
use Rattle.target_base.specs.declared.types.Target.{Target}
use Rattle.meaning.specs.declared.types.Lane.TheVariants.{SlotLane, VirtualLane}
use Rattle.meaning.specs.Code.{Code, Item}
use Rattle.meaning.specs.Live.{in_order}
use Rattle.mir_func.specs.Value.{Function}
use Rattle.mir_meaning.specs.Points.{OccupiedAt, Point}
use Rattle.spiller.specs.Setting.{Spilling}
use Rattle.spill_laws.specs.Standing.{IsSite, code_from}

-- At no point are a lane of the range and a lane of the slot both live or written.
abbrev pub SlotApart : Target → Function → ℕ → ℕ → Type 0
SlotApart t f v n = (p : Point) (k j w : ℕ) → OccupiedAt t f p (VirtualLane v k) → OccupiedAt t f p (SlotLane n j w) → ⊥

-- Where the slot is apart, the item of each instruction is a site.
abbrev pub SitesApart : Type 0
SitesApart = (s : Spilling) (d : ℕ) (x : Item) (p : Code) → SlotApart s.target s.func s.range s.slot → code_from s d ≡ x ∷ p → in_order x ≡ true → IsSite s d x p
