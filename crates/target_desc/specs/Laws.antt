-- What the reading of a text tells of its lines.
use Rattle.std.specs.Prelude.{◌≡◌, ℕ, List, [], ◌∷◌, ◌++◌, ◌+◌, length, Some, None, Ok, Err}
use Rattle.target_base.specs.Mini.{mini_target}
use Rattle.target_desc.specs.declared.fault.TargetKind.{TargetKind}
use Rattle.target_desc.specs.declared.fault.TargetKind.TheVariants as kinds
use Rattle.target_desc.specs.declared.fault.TargetFault.{TargetFault}
use Rattle.target_desc.specs.declared.draft.Draft.{Draft}
use Rattle.target_desc.specs.Text.{lines}
use Rattle.target_desc.specs.Drafts.{empty_draft}
use Rattle.target_desc.specs.Ending.{Parts, parts_of, ended}
use Rattle.target_desc.specs.Reading.{line_after, spelled}
use Rattle.target_desc.specs.MiniText.{mini_text}
use Rattle.target_base.specs.declared.types.Target.{Target}
use Rattle.target_desc.specs.Printed.{target_text}

-- each of these lines stands after those before it, and together they lead from the first draft to the second
abbrev pub Lead : Draft → List (List ℕ) → Draft → Type 0
Lead d [] e = d ≡ e
Lead d (line ∷ more) e = (after : Draft) × (line_after d line ≡ Ok after) × Lead after more e

-- the next line doesn't stand by this test, or there is none and something lacks
abbrev pub FailsNext : Draft → List (List ℕ) → TargetKind → Type 0
FailsNext d [] kind = (kind ≡ kinds.End) × (ended d ≡ None)
FailsNext d (line ∷ more) kind = line_after d line ≡ Err kind

-- the fault comes behind lines that all stand
pub record IsFirstFault (text : List ℕ) (fault : TargetFault) : Type 0 where
  pub before : List (List ℕ)
  pub rest : List (List ℕ)
  pub draft : Draft
  pub whole : lines text ≡ before ++ rest
  pub number : fault.line ≡ length before + 1
  pub stand : Lead empty_draft before draft
  pub fails : FailsNext draft rest fault.kind

-- all lines stand, and nothing lacks
pub record Spells (text : List ℕ) (p : Parts) : Type 0 where
  pub draft : Draft
  pub stand : Lead empty_draft (lines text) draft
  pub whole : ended draft ≡ Some p

-- a text spells one target, or has one first fault
abbrev pub SpellsOrFails : Type 0
SpellsOrFails =
    ((text : List ℕ) (p : Parts) → spelled text ≡ Ok p → Spells text p)
    × ((text : List ℕ) (p : Parts) → Spells text p → spelled text ≡ Ok p)
    × ((text : List ℕ) (fault : TargetFault) → spelled text ≡ Err fault → IsFirstFault text fault)
    × ((text : List ℕ) (fault : TargetFault) → IsFirstFault text fault → spelled text ≡ Err fault)

abbrev pub MiniIsSpelled : Type 0
MiniIsSpelled = spelled mini_text ≡ Ok (parts_of mini_target)

-- the printed text of a target spells that target
abbrev pub PrintedIsSpelled : Type 0
PrintedIsSpelled = (t : Target) → spelled (target_text (parts_of t)) ≡ Ok (parts_of t)
