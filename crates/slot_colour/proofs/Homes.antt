-- Colouring moves slots to homes.
use Rattle.std.proofs.Common.{◌≡◌, ◌≤◌, ◌⊎◌, ℕ, Bool, true, false, not, List, [], ◌∷◌, map, filter, inl, inr, refl, sym, subst}
use Rattle.std.proofs.lemmas.Bool.{cases_eq}
use Rattle.target_base.specs.declared.types.Target.{Target}
use Rattle.mir_func.specs.declared.func.Operand.{Operand}
use Rattle.mir_func.specs.declared.func.Operand.TheVariants as operands
use Rattle.mir_func.specs.declared.func.Instr.{Instr}
use Rattle.mir_func.specs.declared.func.Block.{Block}
use Rattle.mir_func.specs.Value.{Function}
use Rattle.slot_laws.specs.Homes.{AreHomes, block_moved, function_moved, instr_moved, slot_moved, spill_count}
use Rattle.slot_laws.proofs.Coloured.{moving-keeps-valid}
use Rattle.slot_laws.proofs.Fewer.{moving-keeps-count}
use Rattle.slot_laws.proofs.Refined.{moving-refines}
use Rattle.slot_colour.specs.declared.choice.TakenSlot.{TakenSlot}
use Rattle.slot_colour.specs.Lines.{kept_in}
use Rattle.slot_colour.specs.Colouring.{chosen, coloured, home_of, is_gone, merged, renamed, renamed_block, renamed_instr}
use Rattle.slot_colour.specs.Kept.{AreOnce, IsKept, KeepsAll, KeepsCount, NoticesClashes}
use Rattle.slot_colour.proofs.Chosen.{home-apart, home-home, home-spills, home-stays}

module _ (taken : List TakenSlot) where
  operand-is : (o : Operand) → renamed taken o ≡ slot_moved (home_of taken) o
  operand-is (operands.Stack n) = refl
  operand-is _ = refl

  operands-are : (os : List Operand) → map (renamed taken) os ≡ map (slot_moved (home_of taken)) os
  operands-are [] = refl
  operands-are (o ∷ os) = λ k. operand-is o k ∷ operands-are os k

  instrs-are : (is : List Instr) → map (renamed_instr taken) is ≡ map (instr_moved (home_of taken)) is
  instrs-are [] = refl
  instrs-are (i ∷ is) = λ k. record i { operands = operands-are i.operands k } ∷ instrs-are is k

  blocks-are : (bs : List Block) → map (renamed_block taken) bs ≡ map (block_moved (home_of taken)) bs
  blocks-are [] = refl
  blocks-are (b ∷ bs) = λ k. record b { instrs = instrs-are b.instrs k } ∷ blocks-are bs k

  pub merged-is : (f : Function) → merged taken f ≡ function_moved (home_of taken) (kept_in (is_gone taken) f.head) f
  merged-is f = λ k. record f { head = kept_in (is_gone taken) f.head; frames = filter (λ o. not (is_gone taken o.0)) f.frames; blocks = blocks-are f.blocks k }

-- the choice gives homes
pub are-homes : (t : Target) (f : Function) (clash : ℕ → ℕ → Bool) → AreOnce f → NoticesClashes t f clash → AreHomes t f (home_of (chosen clash f))
are-homes t f clash once notices = record {
  settled = home-home clash f once;
  spills = home-spills clash f once;
  stays = home-stays clash f once;
  apart = λ s r p k w j x o u e. one s r (notices s r (p, (k, w, o), (j, x, u))) (notices r s (p, (j, x, u), (k, w, o))) e (cases_eq s r);
}
  where
    no : (s r : ℕ) → clash s r ≡ true → clash r s ≡ true → (clash s r ≡ false) ⊎ (clash r s ≡ false) → ⊥
    no s r c d (inl g) = cc
    no s r c d (inr g) = cc

    one : (s r : ℕ) → clash s r ≡ true → clash r s ≡ true → home_of (chosen clash f) s ≡ home_of (chosen clash f) r → (s ≡ r) ⊎ (s ≡ r → ⊥) → s ≡ r
    one s r c d e (inl g) = g
    one s r c d e (inr g) = absurd (no s r c d (home-apart clash f once s r g e))

pub keeps-count : KeepsCount
unfolding coloured
keeps-count clash f = subst (λ g. spill_count g ≤ spill_count f) (sym (merged-is (chosen clash f) f)) (moving-keeps-count (home_of (chosen clash f)) (kept_in (is_gone (chosen clash f)) f.head) f)

pub keeps-all : KeepsAll
unfolding coloured
keeps-all t f clash allocated once notices =
    let home : ℕ → ℕ = home_of (chosen clash f) in
    let homes = are-homes t f clash once notices in
    let head = kept_in (is_gone (chosen clash f)) f.head in
    let both = moving-refines t home head f allocated homes in
    subst (IsKept t f) (sym (merged-is (chosen clash f) f)) (record {
      count = moving-keeps-count home head f;
      valid = moving-keeps-valid t home head f allocated homes;
      forth = both.0;
      back = both.1;
    })
