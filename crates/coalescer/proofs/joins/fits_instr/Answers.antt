use Rattle.std.proofs.Common.{◌∙◌, ◌∷◌, [], ap}
use Rattle.std.specs.List.{list_all}
use Rattle.target_base.specs.declared.types.IndexId.{IndexId}
use Rattle.mir_func.specs.declared.func.Operand.{Operand}
use Rattle.live_edits.specs.Folded.{composed}
use Rattle.join_laws.specs.Joined.{fits_range, index_on}
use Rattle.coalescer.specs.Coalescing.{fits_instr, fits_operands}
use Rattle.coalescer.proofs.Facts.{tells}
use Rattle.coalescer.proofs.Fitting.{each-operand}
use Rattle.coalescer.proofs.joins.fits_instr.Goals as goal

pub returns-in-Some : goal.returns-in-Some
returns-in-Some c = λ may.
    let t = c.args.target.now in
    let f = c.args.live.now.func in
    let a = c.args.part.keep in
    let x = c.args.part.index in
    let b = c.args.part.gone in
    c.fits_operands.ensures
    ∙ ap (list_all (λ (o : Operand). fits_operands t f a x b (o ∷ []))) c.as_slice.ensures
    ∙ each-operand (λ (y : IndexId). fits_range t f a (composed t x y)) (index_on b) c.in-Some.instr.now.operands
    ∙ ap (fits_instr t f a x b) (c.in-Some.ensures (tells t c.args.live.now may).finds may.lowered.function)

pub returns-in-None : goal.returns-in-None
returns-in-None c = λ may. ap (fits_instr c.args.target.now c.args.live.now.func c.args.part.keep c.args.part.index c.args.part.gone) (c.in-None.ensures (tells c.args.target.now c.args.live.now may).finds may.lowered.function)
