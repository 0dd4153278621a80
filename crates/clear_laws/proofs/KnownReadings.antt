-- Readings by operands at a place are among all readings of the range.
use Rattle.std.proofs.Common.{◌≡◌, ◌∷◌, true, List, Option, Some, flat_map, map, refl, sym, subst, []}
use Rattle.std.specs.List.{list_any}
use Rattle.target_base.specs.declared.types.Effect.{Effect}
use Rattle.target_base.specs.declared.types.Effect.TheVariants as effects
use Rattle.meaning.specs.Live.{Among as Member}
use Rattle.mir_func.specs.declared.func.Operand.{Operand}
use Rattle.mir_func.specs.declared.func.Instr.{Instr}
use Rattle.mir_func.specs.declared.func.Block.{Block}
use Rattle.mir_func.specs.Binding.{TiedPair, effect_of}
use Rattle.mir_meaning.specs.Places.{Variable, same_use}
use Rattle.instr_effects.proofs.Members.{filter-in, flat-in, left-in, map-in, right-in}
use Rattle.live_laws.proofs.Effects.Lists.{any-in}
use Rattle.spiller.specs.Rematerialised.{Never, Reading, all_readings, effect_readings, operand_readings, own_variables, place_readings, places_of, reading_of, tied_readings, way_reading, ways_read}
use Rattle.spiller.specs.Setting.{Spilling}

pub plain-readings : (s : Spilling) (i : Instr) (e : Option Effect) (os : List Operand) → (e ≡ Some effects.Copy → ⊥) → (e ≡ Some effects.Spill → ⊥) → effect_readings s i e os ≡ operand_readings s (i ∷ [])
plain-readings s i (Some effects.Copy) os n m = absurd (n refl)
plain-readings s i (Some effects.Spill) os n m = absurd (m refl)
plain-readings s i e os n m = refl

-- an instruction that reads in this way is among those of the way's reading
pub reader-in : (s : Spilling) (p : List Instr) (v u : Variable) (i : Instr) → Member i p → Member u (own_variables s i) → same_use v u ≡ true → Member i (way_reading s p v).by
reader-in s p v u i mi m e = filter-in (λ j. list_any (same_use v) (own_variables s j)) i p mi (any-in (same_use v) u (own_variables s i) m e)

module _ (s : Spilling) (b : Block) (p : List Instr) (block : Member b s.func.blocks) (place : Member p (places_of s.target b))
    (plain : (i : Instr) → p ≡ i ∷ [] → (effect_of s.target i ≡ Some effects.Copy → ⊥) × (effect_of s.target i ≡ Some effects.Spill → ⊥)) where
  readings : (q : List Instr) → p ≡ q → place_readings s q ≡ operand_readings s q
  readings [] e = refl
  readings (i ∷ []) e = let n = plain i e in plain-readings s i (effect_of s.target i) i.operands n.0 n.1
  readings (i ∷ (j ∷ is)) e = refl

  known : (r : Reading) → Member r (operand_readings s p) → Member r (all_readings s)
  known r m = flat-in (λ (c : Block). flat_map (place_readings s) (places_of s.target c)) r b s.func.blocks block (flat-in (place_readings s) r p (places_of s.target b) place (subst (Member r) (sym (readings p refl)) m))

  abbrev by-ways : List Reading
  by-ways = map (way_reading s p) (ways_read s p)

  abbrev tied-at : Instr → List Reading
  tied-at i = map (λ (y : TiedPair). reading_of s (i ∷ []) y.tied_use.index Never) (tied_readings s i)

  pub way-known : (v : Variable) → Member v (ways_read s p) → Member (way_reading s p v) (all_readings s)
  way-known v m = known (way_reading s p v) (left-in (way_reading s p v) by-ways (flat_map tied-at p) (map-in (way_reading s p) v (ways_read s p) m))

  pub tied-known : (i : Instr) (y : TiedPair) → Member i p → Member y (tied_readings s i) → Member (reading_of s (i ∷ []) y.tied_use.index Never) (all_readings s)
  tied-known i y mi m =
      let r = reading_of s (i ∷ []) y.tied_use.index Never in
      known r (right-in r by-ways (flat_map tied-at p) (flat-in tied-at r i p mi (map-in (λ (x : TiedPair). reading_of s (i ∷ []) x.tied_use.index Never) y (tied_readings s i) m)))
