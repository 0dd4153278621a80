use Rattle.std.proofs.Common.{◌≡◌, None, ap, sym, ◌∙◌}
use Rattle.std.proofs.lemmas.Option.{same_Some}
use Rattle.mir_func.specs.declared.func.Instr.{Instr}
use Rattle.mir_func.specs.At.{instr_at}
use Rattle.live_edits.proofs.DraftPlaces.{found-none}
use Rattle.live_edits.proofs.draft.Draft.find.Goals as goal

pub returns-else-instr-id-clause-place : goal.returns-else-instr-id-clause-place
returns-else-instr-id-clause-place c = λ order.
    let d = c.args.self.now in
    found-none d.func d.order c.args.id c.block_of-position.result c.place_in-place.result order c.block_of-position.ensures (c.place_in-place.ensures.place order)
    (λ j e own. c.if-instr-id.false (ap (λ (i : Instr). i.id) (same_Some c.in-Some.instr.now j (c.in-Some.ensures ∙ e)) ∙ own))

pub returns-in-None-clause-place : goal.returns-in-None-clause-place
returns-in-None-clause-place c = λ order.
    let d = c.args.self.now in
    found-none d.func d.order c.args.id c.block_of-position.result c.place_in-place.result order c.block_of-position.ensures (c.place_in-place.ensures.place order)
    (λ j e own. let none : instr_at d.func.blocks c.block_of-position.result c.place_in-place.result ≡ None = sym c.in-None.ensures in absurd (cc))
