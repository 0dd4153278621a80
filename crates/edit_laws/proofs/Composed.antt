-- Edits one after the other.
use Rattle.std.proofs.Common.{◌≡◌, ◌∷◌, ◌∙◌, ℕ, Bool, List, [], refl, sym}
use Rattle.mir_func.specs.Value.{Function}
use Rattle.mir_meaning.specs.Paths.{Code, Step}
use Rattle.instr_effects.specs.Numbered.{number_in}
use Rattle.live_lanes.specs.declared.table.Table.{Table}
use Rattle.live_lanes.specs.Doing.{IsComputed, lane_code}
use Rattle.live_laws.proofs.Exact.Inside.{all}
use Rattle.edit_laws.specs.Codes.{AllCodesLaw}
use Rattle.edit_laws.specs.Edits.{Edit, edited, all_edited}
use Rattle.edit_laws.specs.Steps.{AreAlike, IsApart, AreSteps, no_steps, step_stays, step_goes, step_comes, AreCodes}
use Rattle.edit_laws.specs.Tables.{AllTableLaw}
use Rattle.edit_laws.proofs.Codes.{codes-law, lane-codes}
use Rattle.edit_laws.proofs.Edited.{Never, NeverBoth}
use Rattle.edit_laws.proofs.Further.{classes-stay, with-lanes}
use Rattle.edit_laws.proofs.Kept.{kept-law}
use Rattle.edit_laws.proofs.Placed.{same-blocks}

module _ (told : ℕ → Bool) where
  alike-then : (s r x : Step) → AreAlike told s r → AreAlike told r x → AreAlike told s x
  alike-then s r x h k = record {
    id = h.id ∙ k.id;
    leaves = h.leaves ∙ k.leaves;
    used = λ l o. h.used l o ∙ k.used l o;
    written = λ l o. h.written l o ∙ k.written l o;
    apart = h.apart;
  }

  apart-before : (s r : Step) → AreAlike told s r → IsApart told r → IsApart told s
  apart-before s r h k = record { leaves = h.leaves ∙ k.leaves; unused = λ l o. h.used l o ∙ k.unused l o; unwritten = λ l o. h.written l o ∙ k.unwritten l o }

  apart-after : (r x : Step) → IsApart told r → AreAlike told r x → IsApart told x
  apart-after r x h k = record { leaves = sym k.leaves ∙ h.leaves; unused = λ l o. sym (k.used l o) ∙ h.unused l o; unwritten = λ l o. sym (k.written l o) ∙ h.unwritten l o }

  behind-stays : {s r : Step} {ss rs us : List Step} → AreAlike told s r → ((vs : List Step) → AreSteps told rs vs → AreSteps told ss vs) → AreSteps told (r ∷ rs) us → AreSteps told (s ∷ ss) us
  behind-stays {s = s} {r = r} h on (step_stays {r = x} {rs = vs} k c) = step_stays (alike-then s r x h k) (on vs c)
  behind-stays {s = s} {r = r} h on (step_goes {rs = vs} k c) = step_goes (apart-before s r h k) (on vs c)
  behind-stays h on (step_comes k c) = step_comes k (behind-stays h on c)

  behind-comes : {r : Step} {ss rs us : List Step} → IsApart told r → ((vs : List Step) → AreSteps told rs vs → AreSteps told ss vs) → AreSteps told (r ∷ rs) us → AreSteps told ss us
  behind-comes {r = r} h on (step_stays {r = x} {rs = vs} k c) = step_comes (apart-after r x h k) (on vs c)
  behind-comes h on (step_goes {rs = vs} k c) = on vs c
  behind-comes h on (step_comes k c) = step_comes k (behind-comes h on c)

  steps-then : {ss rs us : List Step} → AreSteps told ss rs → AreSteps told rs us → AreSteps told ss us
  steps-then no_steps b = b
  steps-then (step_stays h a) b = behind-stays h (λ vs c. steps-then a c) b
  steps-then (step_goes h a) b = step_goes h (steps-then a b)
  steps-then (step_comes h a) b = behind-comes h (λ vs c. steps-then a c) b

  pub codes-then : (old mid new : Code) → AreCodes told old mid → AreCodes told mid new → AreCodes told old new
  codes-then old mid new x y = record { steps = λ b. steps-then (x.steps b) (y.steps b); last = λ b. x.last b ∙ y.last b; exits = λ b. x.exits b ∙ y.exits b }

pub all-codes-law : AllCodesLaw
all-codes-law t f [] num told keeps tells =
    lane-codes t f f refl num told Never Never NeverBoth (record { goes = λ i z. absurd z; comes = λ j z. absurd z; both = λ i j z. absurd z }) (same-blocks Never Never NeverBoth f.blocks) tells
all-codes-law t f (e ∷ es) num told keeps tells =
    codes-then told (lane_code t f num) (lane_code t (edited f e) num) (lane_code t (all_edited (edited f e) es) num) (codes-law t f e num told keeps.0 tells.0) (all-codes-law t (edited f e) es num told keeps.1 tells.1)

pub all-classes-stay : (f : Function) (es : List Edit) → (all_edited f es).classes ≡ f.classes
all-classes-stay f [] = refl
all-classes-stay f (e ∷ es) = all-classes-stay (edited f e) es ∙ classes-stay f e

pub all-table-law : AllTableLaw
all-table-law t f es x y told keeps computed rules last numbers tells laid rows right =
    let z : Table = record x { lanes = y.lanes } in
    let still : IsComputed t f z = with-lanes t f (all_edited f es) x y.lanes computed rules last laid.numbers (all-classes-stay f es) numbers in
    kept-law t f (all_edited f es) z y told still (all t f z still rules last) laid (all-codes-law t f es (number_in y.lanes) told keeps tells) rows right
