use Rattle.std.proofs.Common.{◌∙◌, ℕ, List, sym, ap}
use Rattle.std.specs.Prelude.{Option, nat_eq, position}
use Rattle.target_base.specs.declared.types.IndexId.{IndexId}
use Rattle.coalescer.specs.Asked.{place_in}
use Rattle.coalescer.proofs.quiet.place_in.Goals as goal

pub returns-in-Some : goal.returns-in-Some
returns-in-Some c =
    c.lane_place.ensures
    ∙ ap (λ (ls : List ℕ). position (λ l. nat_eq l c.args.k) ls) c.lanes_at.ensures
    ∙ sym (ap (λ (q : Option IndexId). place_in c.args.target.now q c.args.k) c.in-Some.is)
