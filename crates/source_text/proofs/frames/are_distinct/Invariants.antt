use Rattle.std.proofs.Common.{◌≡◌, drop}
use Rattle.std.specs.Prelude.{nat_eq}
use Rattle.target_base.specs.Names.{is_distinct}
use Rattle.source_text.proofs.frames.are_distinct.Given as goal

abbrev pub invariant-objects : goal.invariant-objects
invariant-objects l = is_distinct (λ o p. nat_eq o.0 p.0) (drop l.k l.objects) ≡ is_distinct (λ o p. nat_eq o.0 p.0) l.objects
