-- What the command `gen` answers.
use Rattle.std.specs.Prelude.{◌≡◌, ℕ, List}
use Rattle.pipeline.specs.declared.guarded.stop.FunctionStop.TheVariants as stops
use Rattle.ra_top.specs.Report.Summary.Generated.{IsGenText, IfGenRefused}
use Rattle.ra_top.specs.declared.commands.answer.Answer.{Answer}
use Rattle.ra_top.specs.declared.commands.answer.Answer.TheVariants as answers
use Rattle.ra_top.specs.declared.commands.status.Status.{Status}
use Rattle.ra_top.specs.declared.commands.status.Status.TheVariants as status
use Rattle.ra_top.specs.Commands.Status.{invalid_words, unassignable_words}

-- why `gen` says nothing of a seed
abbrev pub GenRefuses : ℕ → Status → List ℕ → Type 0
GenRefuses seed (status.Limit l) detail = IfGenRefused seed (stops.Limit l)
GenRefuses seed (status.Invalid x) detail = (name : List ℕ) × IfGenRefused seed (stops.Invalid name x) × (detail ≡ invalid_words name x)
GenRefuses seed (status.Unassignable p) detail = (name : List ℕ) × IfGenRefused seed (stops.Unassignable name p) × (detail ≡ unassignable_words name p)
GenRefuses seed status.NotYet detail = IfGenRefused seed stops.NotYet
GenRefuses seed s detail = ⊥

-- the summary for a seed, or why there is none
abbrev pub IsGenAnswer : ℕ → Answer → Type 0
IsGenAnswer seed (answers.Text text) = ⊥
IsGenAnswer seed (answers.Last text) = IsGenText seed text
IsGenAnswer seed (answers.Refused s detail) = GenRefuses seed s detail
