-- Slots that are taken one after another.
use Rattle.std.proofs.Common.{◌≡◌, ℕ, suc, ◌<◌, ◌+◌, Bool, List, [], ◌∷◌, ◌++◌, length, drop, get_or, ap, sym, ◌∙◌, arith}
use Rattle.std.proofs.Math.Seq.{drop-cons}
use Rattle.slot_colour.specs.declared.lines.FrameLine.{FrameLine}
use Rattle.slot_colour.specs.declared.choice.TakenSlot.{TakenSlot}
use Rattle.slot_colour.specs.Colouring.{placed, taken_on}

pub taken-next :
    (clash : ℕ → ℕ → Bool) (lines : List FrameLine) (taken new whole : List TakenSlot) (ns : List ℕ) (k : ℕ) (slot : TakenSlot) → k < length ns
    → slot ≡ placed clash lines taken (get_or ns k 0) → new ≡ taken ++ slot ∷ []
    → taken_on clash lines taken (drop k ns) ≡ whole → taken_on clash lines new (drop (k + 1) ns) ≡ whole
taken-next clash lines taken new whole ns k slot lt made grown was =
    let next : k + 1 ≡ suc k = omega arith in
    let left : drop k ns ≡ get_or ns k 0 ∷ drop (k + 1) ns = drop-cons ns k 0 lt ∙ ap (λ j. get_or ns k 0 ∷ drop j ns) (sym next) in
    ap (λ ts. taken_on clash lines ts (drop (k + 1) ns)) (grown ∙ ap (λ s. taken ++ s ∷ []) made) ∙ (sym (ap (taken_on clash lines taken) left) ∙ was)
