-- A run begins with siblings apart.
use Rattle.std.proofs.Common.{◌≡◌, ◌<◌, ◌+◌, ◌∙◌, ℕ, true, false, List, [], Some, None, length, sym, ap, subst, arith}
use Rattle.std.specs.Prelude.{slice_get}
use Rattle.target_base.specs.declared.types.Target.{Target}
use Rattle.meaning.specs.Live.{Among as Member}
use Rattle.mir_func.specs.Value.{Function}
use Rattle.mir_meaning.specs.Registers.{numbers}
use Rattle.instr_effects.proofs.Members.{member-none}
use Rattle.lowering_laws.specs.Shapes.{IsLowered}
use Rattle.spiller.specs.Slots.{Slots, original_of, slot_among}
use Rattle.ready_laws.specs.Frames.{HasNoSlots}
use Rattle.sibling_laws.specs.Siblings.{AreSiblingsApart, FirstSiblingsApart, KnowsOriginals}
use Rattle.sibling_laws.proofs.Originals.{get-numbers, length-numbers, number-below, original-is}
use Rattle.sibling_laws.proofs.SlotsNamed.{occupied-named}

module _ (t : Target) (f : Function) (s : Slots) (none : s.given ≡ []) (own : s.originals ≡ numbers 0 (length f.classes)) where
  not-given : (x : ℕ × ℕ) → Member x s.given → ⊥
  not-given x m = member-none x (subst (Member x) none m)

  first-known : KnowsOriginals f s
  first-known = record {
    each = ap (λ (os : List ℕ). length os) own ∙ length-numbers 0 (length f.classes);
    within = λ o m. let a = number-below 0 (length f.classes) o (subst (Member o) own m) in omega (arith, a);
    owners = λ x m. absurd (not-given x m);
    once = λ x y m k e. absurd (not-given x m);
  }

  itself : (v : ℕ) → v < length f.classes → original_of s v ≡ v
  itself v h = original-is s v (0 + v) (ap (λ os. slice_get os v) own ∙ get-numbers 0 (length f.classes) v h) ∙ omega arith

  first-apart : IsLowered t f → HasNoSlots t f → AreSiblingsApart t f s
  first-apart low plain = record {
    ranges = λ v w hv hw other same p a b. other (sym (itself v hv) ∙ (same ∙ itself w hw));
    slots = λ v n h e. absurd (let z : None ≡ Some n = sym (ap (λ gs. slot_among gs (original_of s v)) none) ∙ e in cc);
    given = λ n p z.
        let y = occupied-named t f low n p z in
        absurd (let q : true ≡ false = sym y.moves ∙ plain.opcodes y.block y.instr y.in_function y.in_block in cc);
  }

pub first-siblings-apart : FirstSiblingsApart
first-siblings-apart t f s low plain first own = (first-known t f s first.given own, first-apart t f s first.given own low plain)
