use Rattle.std.proofs.Common.{◌∙◌, sym, arith, subst}
use Rattle.meaning.specs.Perform.{stored}
use Rattle.mir_interp.specs.Remembers.{Matches}
use Rattle.mir_interp.proofs.Reading.{widths_past, widths_there}
use Rattle.mir_interp.proofs.perform.Executor.put.Goals as goal

pub returns-then-width_count-le1-clause-bytes : goal.returns-then-width_count-le1-clause-bytes
returns-then-width_count-le1-clause-bytes g c = λ env bs m.
    subst (λ t. Matches env c.args.outside.now.bytes (stored c.args.w c.args.a t c.args.lanes.now bs)) (sym (widths_past c.args.self.now.rest.now.widths 1 (omega arith))) m

pub returns-clause-bytes : goal.returns-clause-bytes
returns-clause-bytes g c = λ env bs m.
    let own = (c.as_slice-own_widths.ensures ∙ c.get-own.ensures) ∙ sym (widths_there c.args.self.now.rest.now.widths 1 c.get-own.result.now (omega arith)) in
    subst (λ t. Matches env c.store.new.self.bytes (stored c.args.w c.args.a t c.args.lanes.now bs)) own (c.in_ok-store.ensures.bytes env bs m)
