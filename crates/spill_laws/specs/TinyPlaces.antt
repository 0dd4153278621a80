-- Places that get tinies: the instruction or the terminators, with tinies in place of the range, between what is loaded before them
-- and what is stored behind them.
use Rattle.std.specs.Prelude.{◌≡◌, ◌++◌, ℕ, true, false, map, List, [], ◌∷◌}
use Rattle.meaning.specs.Code.{Code}
use Rattle.meaning.specs.Live.{Among as Member}
use Rattle.mir_func.specs.declared.func.Instr.{Instr}
use Rattle.mir_func.specs.declared.func.Block.{Block}
use Rattle.mir_func.specs.Value.{Function}
use Rattle.mir_func.specs.Binding.{does, is_terminator, puts_together}
use Rattle.mir_meaning.specs.Codes.{item_of, way}
use Rattle.lowering_laws.proofs.Classes.{AreNamed}
use Rattle.spiller.specs.Rematerialised.{places_of}
use Rattle.spiller.specs.Setting.{Spilling}
use Rattle.spiller.specs.Spilled.{place_change}
use Rattle.spill_laws.specs.Laws.{HasTinies, KeepsClasses}
use Rattle.spill_laws.specs.Named.{HasFixedUndefs}
use Rattle.spill_laws.specs.Standing.{ChangeStands, IsInside, IsSetting, IsSite, PlaceStands, instrs_of}

-- Block c of g in place of block b: it has its number and its successors, and neither function has phis on its ways.
pub record IsBlock (s : Spilling) (g : Function) (b c : Block) : Type 0 where
  pub number : c.number ≡ b.number
  pub successors : c.successors ≡ b.successors
  pub bare : (n m : ℕ) → (way s.target s.func n m).phis ≡ []
  pub bare_behind : (n m : ℕ) → (way s.target g n m).phis ≡ []

-- An instruction that stays is the item that it was.
abbrev pub ItemsStay : Type 0
ItemsStay =
    (s : Spilling) (g : Function) (b c : Block) (i : Instr) → KeepsClasses s g → IsBlock s g b c → does puts_together s.target i ≡ false → AreNamed s.func i.operands
    → item_of s.target g c i ≡ item_of s.target s.func b i

-- Instructions of block b, one after the other, which p follows in the code of the function: behind each no lane of the range's
-- slot is live or written where one of the range is, and where it leads is one of its ways out.
abbrev pub AreAt : Spilling → Block → List Instr → Code → Type 0
AreAt s b [] p = Unit {0}
AreAt s b (i ∷ is) p = IsSite s i.id (item_of s.target s.func b i) (map (item_of s.target s.func b) is ++ p) × IsInside (item_of s.target s.func b i) × AreAt s b is p

-- A place of block b, which p follows, gets tinies that are numbered from n on, and stands in block c of g.
pub record GetsTinies (s : Spilling) (g : Function) (b c : Block) (is : List Instr) (p : Code) (n : ℕ) : Type 0 where
  pub setting : IsSetting s g
  pub blocks : IsBlock s g b c
  pub block : Member b s.func.blocks
  pub place : Member is (places_of s.target b)
  pub tinies : HasTinies s g n is
  pub undefs : HasFixedUndefs s.target s.func
  pub at : AreAt s b is p

-- An instruction that is no terminator stands with its tinies.
abbrev pub TinyPlacesStand : Type 0
TinyPlacesStand =
    (s : Spilling) (g : Function) (b c : Block) (i : Instr) (p : Code) (n : ℕ) → GetsTinies s g b c (i ∷ []) p n → does is_terminator s.target i ≡ false
    → ChangeStands s g b c i p (place_change s n (i ∷ []))

-- So do the terminators of a block.
abbrev pub TerminatorPlacesStand : Type 0
TerminatorPlacesStand =
    (s : Spilling) (g : Function) (b c : Block) (is : List Instr) (p : Code) (n : ℕ) → GetsTinies s g b c is p n → ((i : Instr) → Member i is → does is_terminator s.target i ≡ true)
    → PlaceStands s (map (item_of s.target s.func b) is) (map (item_of s.target g c) (instrs_of (place_change s n is))) p
