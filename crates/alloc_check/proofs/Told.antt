-- What is told of agreement, by what was found.
use Rattle.std.proofs.Common.{◌≡◌, ◌<◌, ◌∙◌, ℕ, true, List, Option, Some, None, Result, Ok, Err, IfOk, length, refl, sym, ap}
use Rattle.std.specs.Prelude.{slice_get}
use Rattle.std.specs.Option.{option_or}
use Rattle.target_base.specs.declared.types.Target.{Target}
use Rattle.meaning.specs.declared.types.Row.{Row}
use Rattle.mir_func.specs.declared.func.Place.{Place}
use Rattle.mir_func.specs.Value.{Function}
use Rattle.mir_meaning.specs.declared.Form.TheVariants as forms
use Rattle.mir_meaning.specs.Valid.{Fault, FirstFault, IsValid}
use Rattle.mir_meaning.specs.Codes.{code_of}
use Rattle.mir_meaning.specs.Agreement.{Agrees, FirstDoubt, all_alike, blocks_alike, block_doubt, counted_places, invalid, of_block, of_fact, of_partner, partner_doubt}
use Rattle.mir_meaning.proofs.Faults.{law_of_faults}
use Rattle.alloc_check.specs.declared.check.Verdict.{Verdict}
use Rattle.alloc_check.specs.declared.check.Verdict.TheVariants.{Yes, No}
use Rattle.alloc_check.specs.Compared.{compared, ordered}
use Rattle.alloc_check.specs.Families.{HoldsWith}
use Rattle.alloc_check.specs.Doubt.{AgreesInShared, Confirms, Doubts, IsNth, Lacking, LacksFact, MarkersAlike, SharedFactsHold}
use Rattle.alloc_check.specs.Verdict.{AreAlike, IfNo, IfYes, Judges, JudgesFacts, TellsAgreement, TellsUnlike}
use Rattle.alloc_check.proofs.Matching.{blocks-match, doubt-none}
use Rattle.alloc_check.proofs.Markers.{facts-shared, has-shared, shared-facts, shared-has}
use Rattle.alloc_check.proofs.Places.{first-lacks, holds-shared, none-holds, none-lacks, shared-holds, some-at}
use Rattle.alloc_check.proofs.Uncounted.{some-counts}

module _ (t : Target) (f g : Function) where
  abbrev Matches : Type 0
  Matches = all_alike blocks_alike f.blocks g.blocks ≡ true

  -- functions that don't match have a place for it
  pub told-unlike : (p : Place) → option_or (block_doubt t f g) (partner_doubt t f g) ≡ Some p → (v : Verdict) → block_doubt t f g ≡ None → partner_doubt t f g ≡ None → JudgesFacts t f g v
  told-unlike p e v blocks partners = absurd (doubt-none (block_doubt t f g) (partner_doubt t f g) p e blocks partners)

  module _ (some : 0 < length f.blocks) where
    -- codes that don't pair
    pub told-none :
        (made : Option (List Row)) → made ≡ None → (Matches → made ≡ compared (code_of t f) (code_of t (ordered f g))) → (p : Place) → IsNth (counted_places t f) 0 p →
        block_doubt t f g ≡ None → partner_doubt t f g ≡ None → JudgesFacts t f g (No p)
    told-none made is exact p nth blocks partners =
        let alike = blocks-match t f g some blocks in
        let none : None ≡ compared (code_of t f) (code_of t (ordered f g)) = sym is ∙ exact alike in
        let at = some-at (counted_places t f) 0 (some-counts t f g alike partners none) in
        (none-holds t f g alike none, none-lacks t f g alike none p (at.1 ∙ ap Some (sym (nth at.0 at.1))))

    -- rows that were searched
    pub told-rows :
        (made : Option (List Row)) (rows : List Row) → made ≡ Some rows → (Matches → made ≡ compared (code_of t f) (code_of t (ordered f g))) → (v : Verdict) → Judges t f g rows v → IfNo (Lacking t f g rows) v →
        block_doubt t f g ≡ None → partner_doubt t f g ≡ None → JudgesFacts t f g v
    told-rows made rows is exact v judges lacking blocks partners = go v judges lacking
      where
        alike : Matches
        alike = blocks-match t f g some blocks

        pairs : Some rows ≡ compared (code_of t f) (code_of t (ordered f g))
        pairs = sym is ∙ exact alike

        go : (v : Verdict) → Judges t f g rows v → IfNo (Lacking t f g rows) v → JudgesFacts t f g v
        go Yes j l = holds-shared t f g alike rows pairs j
        go (No p) j l = ((λ h. j (shared-holds t f g alike rows pairs h)), first-lacks t f g alike rows pairs p l)

  same-place : (p q : Place) → ◌≡◌ {A = Verdict} (No p) (No q) → p ≡ q
  same-place p q e = cc

  none-some : (o : Option Place) (p : Place) → o ≡ Some p → o ≡ None → ⊥
  none-some o p e h = absurd (cc)

  module _ (valid : IsValid t forms.Allocated g) where
    confirms : AreAlike t f g → SharedFactsHold t f g → Confirms t f g
    confirms alike facts = record {
      shared = record { valid = valid; blocks = alike.blocks; partners = alike.partners; facts = facts };
      agrees = λ markers. record { valid = valid; blocks = alike.blocks; partners = alike.partners; facts = shared-facts t f g markers facts };
    }

    of-block : (p q : Place) → block_doubt t f g ≡ Some q → p ≡ q → Doubts t f g p
    of-block p q e same = record {
      shared = λ a. none-some (block_doubt t f g) q e a.blocks;
      disagree = λ a. none-some (block_doubt t f g) q e a.blocks;
      first = λ markers. of_block valid (e ∙ ap Some (sym same));
    }

    of-partner : (p q : Place) → block_doubt t f g ≡ None → partner_doubt t f g ≡ Some q → p ≡ q → Doubts t f g p
    of-partner p q blocks e same = record {
      shared = λ a. none-some (partner_doubt t f g) q e a.partners;
      disagree = λ a. none-some (partner_doubt t f g) q e a.partners;
      first = λ markers. of_partner valid blocks (e ∙ ap Some (sym same));
    }

    of-fact : (p : Place) → block_doubt t f g ≡ None → partner_doubt t f g ≡ None → (SharedFactsHold t f g → ⊥) → LacksFact t f g p → Doubts t f g p
    of-fact p blocks partners none lacks = record {
      shared = λ a. none a.facts;
      disagree = λ a. none (facts-shared t f g a.facts);
      first = λ markers. of_fact valid blocks partners lacks.is (λ m lt. shared-has t f g markers m (lacks.before m lt)) (λ h. lacks.lacks (has-shared t f g lacks.number h));
    }

    doubts : (p : Place) → TellsUnlike t f g (No p) → (block_doubt t f g ≡ None → partner_doubt t f g ≡ None → JudgesFacts t f g (No p)) → (o q : Option Place) → block_doubt t f g ≡ o → partner_doubt t f g ≡ q → Doubts t f g p
    doubts p unlike judged (Some x) q e h = of-block p x e (same-place p x (unlike x (ap (λ o. option_or o (partner_doubt t f g)) e)))
    doubts p unlike judged None (Some x) e h = of-partner p x e h (same-place p x (unlike x ((λ k. option_or (e k) (h k)))))
    doubts p unlike judged None None e h = let j = judged e h in of-fact p e h j.0 j.1

    pub tells : (v : Verdict) → IfYes (AreAlike t f g) v → TellsUnlike t f g v → (block_doubt t f g ≡ None → partner_doubt t f g ≡ None → JudgesFacts t f g v) → TellsAgreement t f g v
    tells Yes alike unlike judged = confirms alike (judged alike.blocks alike.partners)
    tells (No p) alike unlike judged = doubts p unlike judged (block_doubt t f g) (partner_doubt t f g) refl refl

  pub tells-invalid : (fault : Fault) → FirstFault t forms.Allocated g fault → TellsAgreement t f g (No fault.0)
  tells-invalid fault h =
      let alone : IsValid t forms.Allocated g → ⊥ = (law_of_faults t forms.Allocated g fault fault h).0 in
      record { shared = λ a. alone a.valid; disagree = λ a. alone a.valid; first = λ markers. invalid h }

-- the same of an answer that memory may refuse
pub tells-ok :
    {E : Type 0} (t : Target) (f g : Function) → IsValid t forms.Allocated g → (r : Result Verdict E) → IfOk r (IfYes (AreAlike t f g)) → IfOk r (TellsUnlike t f g) →
    IfOk r (λ v. block_doubt t f g ≡ None → partner_doubt t f g ≡ None → JudgesFacts t f g v) → IfOk r (TellsAgreement t f g)
tells-ok t f g valid (Ok v) alike unlike judged = tells t f g valid v alike unlike judged
tells-ok t f g valid (Err e) alike unlike judged = tt
