-- Lines that are read one after another.
use Rattle.std.proofs.Common.{◌≡◌, ℕ, ◌+◌, List, ◌∷◌, length, Option, Some, None, Ok, Err, ap, sym, ◌∙◌}
use Rattle.std.specs.Prelude.{option_map}
use Rattle.target_base.specs.declared.types.Target.{Target}
use Rattle.target_desc.specs.declared.fault.TargetKind.TheVariants as kinds
use Rattle.target_desc.specs.declared.fault.TargetLineStop.{TargetLineStop}
use Rattle.target_desc.specs.declared.fault.TargetLineStop.TheVariants as line_stops
use Rattle.target_desc.specs.declared.draft.Draft.{Draft}
use Rattle.target_desc.specs.Text.{lines}
use Rattle.target_desc.specs.Ending.{parts_of, ended}
use Rattle.target_desc.specs.Reading.{line_after, lines_after, then_at, at_end, stop_at, Fails, FailsLine}
use Rattle.target_desc.proofs.Cut.{parts_none}

-- behind a line that stands
pub line_goes : (n : ℕ) (d after : Draft) (line : List ℕ) (more : List (List ℕ)) → line_after d line ≡ Ok after → lines_after n d (line ∷ more) ≡ lines_after (n + 1) after more
unfolding lines_after
line_goes n d after line more h = ap (λ r. then_at n r (λ d2. lines_after (n + 1) d2 more)) h

-- at a line that doesn't
pub line_stops_at : (n : ℕ) (d : Draft) (line : List ℕ) (more : List (List ℕ)) (stop : TargetLineStop) → FailsLine stop (line_after d line) → Fails (stop_at n stop) (lines_after n d (line ∷ more))
unfolding lines_after
line_stops_at n d line more (line_stops.Fault kind) h = ap (λ r. then_at n r (λ d2. lines_after (n + 1) d2 more)) h
line_stops_at n d line more (line_stops.Memory e) h = tt

-- behind the last line
lines_end : (n : ℕ) (d : Draft) (rest : List ℕ) → length rest ≡ 0 → lines_after n d (lines rest) ≡ at_end n (ended d)
unfolding lines_after
lines_end n d rest h = ap (lines_after n d) (parts_none 10 rest h)

pub ends_without : (n : ℕ) (d : Draft) (rest : List ℕ) (t : Option Target) → length rest ≡ 0 → option_map parts_of t ≡ ended d → t ≡ None → lines_after n d (lines rest) ≡ Err (record { line = n; kind = kinds.End })
ends_without n d rest t h e f = lines_end n d rest h ∙ ap (at_end n) (sym e) ∙ ap (λ o. at_end n (option_map parts_of o)) f

pub ends_with : (n : ℕ) (d : Draft) (rest : List ℕ) (t : Option Target) (target : Target) → length rest ≡ 0 → option_map parts_of t ≡ ended d → t ≡ Some target → lines_after n d (lines rest) ≡ Ok (parts_of target)
ends_with n d rest t target h e f = lines_end n d rest h ∙ ap (at_end n) (sym e) ∙ ap (λ o. at_end n (option_map parts_of o)) f
