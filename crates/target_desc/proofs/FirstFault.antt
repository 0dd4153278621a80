-- Reading line by line, in both directions.
use Rattle.std.proofs.Common.{◌≡◌, ℕ, ◌+◌, List, [], ◌∷◌, ◌++◌, length, Some, None, Ok, Err, Option, Result, refl, ap, sym, ◌∙◌, arith}
use Rattle.std.proofs.lemmas.List.{append-nil}
use Rattle.target_desc.specs.declared.fault.TargetKind.{TargetKind}
use Rattle.target_desc.specs.declared.fault.TargetKind.TheVariants as kinds
use Rattle.target_desc.specs.declared.fault.TargetFault.{TargetFault}
use Rattle.target_desc.specs.declared.draft.Draft.{Draft}
use Rattle.target_desc.specs.Text.{lines}
use Rattle.target_desc.specs.Drafts.{empty_draft}
use Rattle.target_desc.specs.Ending.{Parts, ended}
use Rattle.target_desc.specs.Reading.{line_after, lines_after, then_at, at_end, spelled}
use Rattle.target_desc.specs.Laws.{Lead, FailsNext, IsFirstFault, Spells, SpellsOrFails}

-- the same of lines behind a draft, the next of which has the number n
pub record FailsFrom (n : ℕ) (d : Draft) (ls : List (List ℕ)) (fault : TargetFault) : Type 0 where
  pub before : List (List ℕ)
  pub rest : List (List ℕ)
  pub draft : Draft
  pub whole : ls ≡ before ++ rest
  pub number : fault.line ≡ n + length before
  pub stand : Lead d before draft
  pub fails : FailsNext draft rest fault.kind

pub record SpellsFrom (d : Draft) (ls : List (List ℕ)) (p : Parts) : Type 0 where
  pub draft : Draft
  pub stand : Lead d ls draft
  pub whole : ended draft ≡ Some p

end_spells : (n : ℕ) (d : Draft) (o : Option Parts) (p : Parts) → ended d ≡ o → at_end n o ≡ Ok p → SpellsFrom d [] p
end_spells n d None p e h = absurd (cc)
end_spells n d (Some q) p e h = record { draft = d; stand = refl; whole = cc }

end_fails : (n : ℕ) (d : Draft) (o : Option Parts) (f : TargetFault) → ended d ≡ o → at_end n o ≡ Err f → FailsFrom n d [] f
end_fails n d (Some q) f e h = absurd (cc)
end_fails n d None f e h =
    let fault : record { line = n; kind = kinds.End } ≡ f = cc in
    record {
      before = [];
      rest = [];
      draft = d;
      whole = refl;
      number = sym (ap (λ x. x.line) fault) ∙ omega arith;
      stand = refl;
      fails = (sym (ap (λ x. x.kind) fault), e);
    }

spells_more : (d after : Draft) (line : List ℕ) (more : List (List ℕ)) (p : Parts) → line_after d line ≡ Ok after → SpellsFrom after more p → SpellsFrom d (line ∷ more) p
spells_more d after line more p e s = record { draft = s.draft; stand = (after, e, s.stand); whole = s.whole }

fails_more : (n : ℕ) (d after : Draft) (line : List ℕ) (more : List (List ℕ)) (f : TargetFault) → line_after d line ≡ Ok after → FailsFrom (n + 1) after more f → FailsFrom n d (line ∷ more) f
fails_more n d after line more f e s = record {
  before = line ∷ s.before;
  rest = s.rest;
  draft = s.draft;
  whole = ap (λ ls. line ∷ ls) s.whole;
  number = s.number ∙ omega arith;
  stand = (after, e, s.stand);
  fails = s.fails;
}

fails_here : (n : ℕ) (d : Draft) (line : List ℕ) (more : List (List ℕ)) (kind : TargetKind) (f : TargetFault) → line_after d line ≡ Err kind → record { line = n; kind = kind } ≡ f → FailsFrom n d (line ∷ more) f
fails_here n d line more kind f e fault = record {
  before = [];
  rest = line ∷ more;
  draft = d;
  whole = refl;
  number = sym (ap (λ x. x.line) fault) ∙ omega arith;
  stand = refl;
  fails = e ∙ ap Err (ap (λ x. x.kind) fault);
}

step_spells : (n : ℕ) (d : Draft) (line : List ℕ) (more : List (List ℕ)) (r : Result Draft TargetKind) (p : Parts) → line_after d line ≡ r
    → ((after : Draft) → lines_after (n + 1) after more ≡ Ok p → SpellsFrom after more p)
    → then_at n r (λ after. lines_after (n + 1) after more) ≡ Ok p → SpellsFrom d (line ∷ more) p
step_spells n d line more (Ok after) p e rest h = spells_more d after line more p e (rest after h)
step_spells n d line more (Err kind) p e rest h = absurd (cc)

step_fails : (n : ℕ) (d : Draft) (line : List ℕ) (more : List (List ℕ)) (r : Result Draft TargetKind) (f : TargetFault) → line_after d line ≡ r
    → ((after : Draft) → lines_after (n + 1) after more ≡ Err f → FailsFrom (n + 1) after more f)
    → then_at n r (λ after. lines_after (n + 1) after more) ≡ Err f → FailsFrom n d (line ∷ more) f
step_fails n d line more (Ok after) f e rest h = fails_more n d after line more f e (rest after h)
step_fails n d line more (Err kind) f e rest h = fails_here n d line more kind f e (let same : record { line = n; kind = kind } ≡ f = cc in same)

spells_from : (n : ℕ) (d : Draft) (ls : List (List ℕ)) (p : Parts) → lines_after n d ls ≡ Ok p → SpellsFrom d ls p
unfolding lines_after
spells_from n d [] p h = end_spells n d (ended d) p refl h
spells_from n d (line ∷ more) p h = step_spells n d line more (line_after d line) p refl (λ after. spells_from (n + 1) after more p) h

fails_from : (n : ℕ) (d : Draft) (ls : List (List ℕ)) (f : TargetFault) → lines_after n d ls ≡ Err f → FailsFrom n d ls f
unfolding lines_after
fails_from n d [] f h = end_fails n d (ended d) f refl h
fails_from n d (line ∷ more) f h = step_fails n d line more (line_after d line) f refl (λ after. fails_from (n + 1) after more f) h

-- lines that stand lead on
led : (n : ℕ) (d e : Draft) (before rest : List (List ℕ)) → Lead d before e → lines_after n d (before ++ rest) ≡ lines_after (n + length before) e rest
unfolding lines_after
led n d e [] rest s = (λ i. lines_after (same i) (s i) rest)
  where
    same : n ≡ n + 0
    same = omega arith
led n d e (line ∷ more) rest s =
    ap (λ r. then_at n r (λ after. lines_after (n + 1) after (more ++ rest))) s.1 ∙ led (n + 1) s.0 e more rest s.2 ∙ ap (λ k. lines_after k e rest) (omega arith)

fails_so : (n : ℕ) (d : Draft) (rest : List (List ℕ)) (kind : TargetKind) → FailsNext d rest kind → lines_after n d rest ≡ Err (record { line = n; kind = kind })
unfolding lines_after
fails_so n d [] kind h = ap (at_end n) h.1 ∙ ap (λ k. Err (record { line = n; kind = k })) (sym h.0)
fails_so n d (line ∷ more) kind h = ap (λ r. then_at n r (λ after. lines_after (n + 1) after more)) h

spelled_so : (d : Draft) (n : ℕ) (p : Parts) → ended d ≡ Some p → lines_after n d [] ≡ Ok p
unfolding lines_after
spelled_so d n p h = ap (at_end n) h

to_first_fault : (text : List ℕ) (f : TargetFault) → FailsFrom 1 empty_draft (lines text) f → IsFirstFault text f
to_first_fault text f s = record { before = s.before; rest = s.rest; draft = s.draft; whole = s.whole; number = s.number ∙ omega arith; stand = s.stand; fails = s.fails }

from_first_fault : (text : List ℕ) (f : TargetFault) → IsFirstFault text f → spelled text ≡ Err f
from_first_fault text f s =
    ap (lines_after 1 empty_draft) s.whole ∙ led 1 empty_draft s.draft s.before s.rest s.stand ∙ fails_so (1 + length s.before) s.draft s.rest f.kind s.fails
    ∙ ap (λ k. Err (record { line = k; kind = f.kind })) (let same : 1 + length s.before ≡ f.line = omega (arith, s.number) in same)

from_spells : (text : List ℕ) (p : Parts) → Spells text p → spelled text ≡ Ok p
from_spells text p s =
    ap (lines_after 1 empty_draft) (sym (append-nil (lines text))) ∙ led 1 empty_draft s.draft (lines text) [] s.stand ∙ spelled_so s.draft (1 + length (lines text)) p s.whole

pub spells_or_fails : SpellsOrFails
spells_or_fails = (
  λ text p h. let s = spells_from 1 empty_draft (lines text) p h in record { draft = s.draft; stand = s.stand; whole = s.whole },
  from_spells,
  λ text f h. to_first_fault text f (fails_from 1 empty_draft (lines text) f h),
  from_first_fault,
)
