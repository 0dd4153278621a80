use Rattle.std.proofs.Common.{◌≡◌, ◌++◌, not, drop}
use Rattle.std.specs.List.{filter}
use Rattle.slot_colour.specs.Colouring.{is_gone}
use Rattle.slot_colour.proofs.renamed.kept_frames.Given as goal

abbrev pub invariant-objects : goal.invariant-objects
invariant-objects l = l.made ++ filter (λ o. not (is_gone l.taken o.0)) (drop l.object-index l.frames) ≡ filter (λ o. not (is_gone l.taken o.0)) l.frames
