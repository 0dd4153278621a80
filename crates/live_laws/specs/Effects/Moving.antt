-- Items that only move lanes.
use Rattle.std.specs.Prelude.{◌≡◌, ◌⊎◌, ℕ, Bool, true, false, [], Some}
use Rattle.meaning.specs.declared.types.Lane.{Lane}
use Rattle.meaning.specs.declared.types.Source.TheVariants.{FromLane}
use Rattle.meaning.specs.declared.types.Fill.TheVariants.{Moved}
use Rattle.meaning.specs.declared.types.Write.{Write}
use Rattle.meaning.specs.Lanes.{Writes}
use Rattle.meaning.specs.Code.{Item}
use Rattle.meaning.specs.Live.{Among as Member, reads_of, exits_of, in_order, Feeds, is_slot}
use Rattle.mir_meaning.specs.Stands.{Tags}
use Rattle.instr_effects.specs.declared.owner.Owner.{Owner}
use Rattle.instr_effects.specs.Owners.{owner_of}

-- some of the writes gives lane a what lane l held
abbrev pub Moves : Writes → Lane → Lane → Type 0
Moves ws l a = (w : Write) × Member w ws × (w.lane ≡ a) × (w.fill ≡ Moved (FromLane l))

-- none of the writes is of a lane of this owner
abbrev pub Unwritten : Writes → Owner → Type 0
Unwritten ws o = (w : Write) → Member w ws → owner_of w.lane ≡ o → ⊥

-- An item that reads nothing whatever is live behind it, entered as writes `ws`: these move what it moves, each lane once.
pub record IsMoving (reserved : Lane → Bool) (tag : Tags) (i : Item) (ws : Writes) : Type 0 where
  pub ordered : in_order i ≡ true
  pub ends : exits_of i ≡ []
  pub quiet : reads_of i ≡ []
  pub given : (l a : Lane) → reserved l ≡ false → Feeds i l a → (l ≡ a) ⊎ Moves ws l a
  pub left : (a : Lane) (n : ℕ) → tag a ≡ Some n → Feeds i a a → Unwritten ws (owner_of a) ⊎ Moves ws a a
  pub gives : (l a : Lane) → Moves ws l a → Feeds i l a
  pub stays : (l : Lane) → Unwritten ws (owner_of l) → Feeds i l l
  pub once : (l m a c : Lane) → Moves ws l a → Moves ws m c → owner_of l ≡ owner_of m → owner_of a ≡ owner_of c
  pub sources : (l a : Lane) → Moves ws l a → reserved l ≡ false → (n : ℕ) × (tag l ≡ Some n)
  pub written : (w : Write) → Member w ws → reserved w.lane ≡ false → (n : ℕ) × (tag w.lane ≡ Some n)
  pub unslotted : (l a : Lane) → Moves ws l a → is_slot a ≡ true → is_slot l ≡ false
