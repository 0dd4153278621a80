use Rattle.std.proofs.Common.{◌∙◌, Ok, Err, ap, length, arith}
use Rattle.ra_top.proofs.GeneratorLemmas.Read.{reads, few_of}
use Rattle.ra_top.proofs.generator.reading.generate.Goals as goal

pub returns-in-Ok-clause-value : goal.returns-in-Ok-clause-value
returns-in-Ok-clause-value c =
    c.function_of.ensures.value ∙ reads c.args.target.now c.args.seed c.as_slice.result.now (Ok c.in-Ok.doc) (c.as_slice.ensures ∙ c.in_ok-text.ensures.text) c.in-Ok.ensures.exact

pub returns-in-Ok-clause-few : goal.returns-in-Ok-clause-few
returns-in-Ok-clause-few c =
    few_of c.function_of.result (length c.as_slice.result.now) 4194304 (c.function_of.ensures.few (length c.as_slice.result.now) c.in-Ok.ensures.bulk)
    (let e = ap length c.as_slice.ensures in let s = c.in_ok-text.ensures.short in omega (arith, e, s))

pub returns-in-Err-Fault-clause-value : goal.returns-in-Err-Fault-clause-value
returns-in-Err-Fault-clause-value c =
    reads c.args.target.now c.args.seed c.as_slice.result.now (Err c.in-Err-Fault.field-0-0) (c.as_slice.ensures ∙ c.in_ok-text.ensures.text) (rw c.in-Err-Fault.field-0-is at c.in-Err-Fault.ensures.exact)
