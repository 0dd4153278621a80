use Rattle.std.proofs.Common.{arith, map, ap, ◌≡◌, ◌∙◌}
use Rattle.mir_func.specs.declared.func.Instr.{Instr}
use Rattle.mir_meaning.specs.Places.{instr_variables}
use Rattle.place_solve.specs.Choice.{need_of}
use Rattle.place_solve.specs.Once.{all_once}
use Rattle.place_solve.proofs.Once.{instr_next}
use Rattle.place_solve.proofs.variables.variables_of.Goals as goal

pub each-preserved : goal.each-preserved
each-preserved c =
    let t = c.args.target.now in
    let f = c.args.f.now in
    let made = map need_of c.each.variables.items in
    let e : c.get-i.result.now ≡ c.i-item.result = cc in
    let s : map need_of c.add_variables.new.variables.items ≡ all_once made (instr_variables t f c.get-i.result.now) = c.in_ok-add_variables.ensures in
    let n : map need_of c.add_variables.new.variables.items ≡ all_once made (instr_variables t f c.i-item.result) = s ∙ ap (λ (i : Instr). all_once made (instr_variables t f i)) e in
    instr_next t f c.args.instrs.now c.each.i-index made (map need_of c.add_variables.new.variables.items) _ c.i-item.result (omega arith) c.i-item.is n c.each.invariant
