use Rattle.std.proofs.lemmas.Result.{err_from_is_err_and}
use Rattle.mir_text.proofs.reading.BodyReader.instr_line.Goals as goal

pub returns-in_err-named-clause-value : goal.returns-in_err-named-clause-value
returns-in_err-named-clause-value c =
    let p = err_from_is_err_and c.from_residual-in_err-named.result c.from_residual-in_err-named.ensures.1 in
    rw (p.1, p.2) tt
