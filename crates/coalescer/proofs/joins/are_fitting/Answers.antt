use Rattle.std.proofs.Common.{◌∙◌, ◌&&◌, ℕ, sym, arith}
use Rattle.std.proofs.lemmas.List.Folds.{list_all_at, list_all_more}
use Rattle.coalescer.specs.Coalescing.{fits_instr, instr_of}
use Rattle.coalescer.proofs.joins.are_fitting.Goals as goal

pub returns-then-not-fits_instr : goal.returns-then-not-fits_instr
returns-then-not-fits_instr c = λ may.
    let test = λ (id : ℕ). fits_instr c.args.target.now c.args.live.now.func c.args.part.keep c.args.part.index c.args.part.gone (instr_of c.args.live.now.func id) in
    sym (list_all_at test c.args.ids.now c.ids.id-index 0 (omega arith) (sym (c.fits_instr.ensures may) ∙ c.if-not-fits_instr.true))

pub ids-preserved : goal.ids-preserved
ids-preserved c = λ may.
    let test = λ (id : ℕ). fits_instr c.args.target.now c.args.live.now.func c.args.part.keep c.args.part.index c.args.part.gone (instr_of c.args.live.now.func id) in
    list_all_more test c.args.ids.now c.ids.id-index 0 (omega arith) ∙ (λ k. c.ids.invariant may k && (sym (c.fits_instr.ensures may) ∙ c.if-not-fits_instr.false) k)
