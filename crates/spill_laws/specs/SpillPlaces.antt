-- Each place of a function in which a range is spilled stands.
use Rattle.std.specs.Prelude.{◌≡◌, ◌≤◌, ◌+◌, ℕ, not, true, false, length, map, slice_get, List, [], ◌∷◌, Option, Some}
use Rattle.target_base.specs.declared.types.ClassId.{ClassId}
use Rattle.meaning.specs.Code.{Code}
use Rattle.meaning.specs.Live.{Among as Member}
use Rattle.mir_func.specs.declared.func.Instr.{Instr}
use Rattle.mir_func.specs.declared.func.Block.{Block}
use Rattle.mir_func.specs.Value.{Function}
use Rattle.mir_func.specs.Binding.{class_of, does, is_lowered_away, is_terminator}
use Rattle.mir_meaning.specs.Codes.{item_of}
use Rattle.spiller.specs.Rematerialised.{places_of}
use Rattle.spiller.specs.Setting.{Spilling}
use Rattle.spiller.specs.Spilled.{change, numbered_change}
use Rattle.spill_laws.specs.Named.{HasFixedUndefs}
use Rattle.spill_laws.specs.Standing.{IsSetting, PlaceStands, instrs_of}
use Rattle.spill_laws.specs.TinyPlaces.{AreAt, IsBlock}

-- one instruction that is no terminator, or terminators
pub data IsPart (s : Spilling) : List Instr → Type 0 where
  alone : {i : Instr} → does is_terminator s.target i ≡ false → IsPart s (i ∷ [])
  ends : {is : List Instr} → ((i : Instr) → Member i is → does is_terminator s.target i ≡ true) → IsPart s is

-- A place of block b, which p follows, and what it becomes in block c of g: ids are given from n on, and tinies, which have
-- their classes, from r on.
pub record IsPlace (s : Spilling) (g : Function) (b c : Block) (is : List Instr) (p : Code) (n r : ℕ) : Type 0 where
  pub setting : IsSetting s g
  pub blocks : IsBlock s g b c
  pub block : Member b s.func.blocks
  pub place : Member is (places_of s.target b)
  pub part : IsPart s is
  pub opcodes : (i : Instr) → Member i is → does (λ e. not (is_lowered_away e)) s.target i ≡ true
  pub once : (i j : Instr) → Member i is → Member j is → i.id ≡ j.id → i ≡ j
  pub undefs : HasFixedUndefs s.target s.func
  pub at : AreAt s b is p
  pub further : length s.func.classes ≤ r
  pub tinies : (j : ℕ) (k : Option ClassId) → slice_get (map (λ x. x.0) (change s n r is).tinies) j ≡ Some k → class_of g (r + j) ≡ k

-- It stands.
abbrev pub SpillPlacesStand : Type 0
SpillPlacesStand =
    (s : Spilling) (g : Function) (b c : Block) (is : List Instr) (p : Code) (n r : ℕ) → IsPlace s g b c is p n r
    → PlaceStands s (map (item_of s.target s.func b) is) (map (item_of s.target g c) (instrs_of (numbered_change s n r is))) p
