-- The parts of a range that is split get its original, one after the other.
use Rattle.std.proofs.Common.{◌≡◌, ◌<◌, ◌+◌, ◌++◌, ◌∙◌, ℕ, zero, suc, cond, [], ◌∷◌, length, replicate, append-nil, append_assoc, sym, ap, refl, arith, eq-eqb}
use Rattle.std.proofs.lemmas.List.{length-append}
use Rattle.mir_meaning.specs.Registers.{numbers}
use Rattle.spiller.specs.Slots.{Slots, original_of, with_original}
use Rattle.split_kit.specs.Split.{greatest_label}
use Rattle.sibling_laws.specs.Splits.{PartsAreAdopted, all_adopted, with_parts}
use Rattle.sibling_laws.proofs.Originals.{original-old}

in-turn : (n : ℕ) (s : Slots) (v a : ℕ) → a ≡ length s.originals → v < a → all_adopted (numbers a n) v s ≡ with_parts s v n
in-turn zero s v a e h = sym (ap (λ os. record s { originals = os }) (append-nil s.originals))
in-turn (suc n) s v a e h =
    let o = original_of s v in
    let more : Slots = record s { originals = s.originals ++ o ∷ [] } in
    let one : with_original s a o ≡ more = ap (λ b. cond b more s) (eq-eqb a (length s.originals) e) in
    let stays : original_of more v ≡ o = original-old s more (o ∷ []) refl v (omega (arith, h, e)) in
    let long : suc a ≡ length more.originals = let l = length-append s.originals (o ∷ []) in omega (arith, e, l) in
    ap (all_adopted (numbers (suc a) n) v) one
    ∙ (in-turn n more v (suc a) long (omega (arith, h))
    ∙ (ap (λ x. record s { originals = (s.originals ++ o ∷ []) ++ replicate n x }) stays
    ∙ ap (λ os. record s { originals = os }) (append_assoc s.originals (o ∷ []) (replicate n o))))

pub parts-are-adopted : PartsAreAdopted
parts-are-adopted f s v ms e h = in-turn (greatest_label ms + 1) s v (length f.classes + 0) (omega (arith, e)) (omega (arith, h))
