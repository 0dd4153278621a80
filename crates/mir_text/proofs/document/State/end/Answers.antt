use Rattle.mir_text.proofs.document.State.end.Goals as goal

pub returns-in-Outside-clause-within : goal.returns-in-Outside-clause-within
returns-in-Outside-clause-within c = λ n h. tt

pub returns-in-EndOfIr-clause-within : goal.returns-in-EndOfIr-clause-within
returns-in-EndOfIr-clause-within c = λ n h. tt

pub returns-in-Function-clause-within : goal.returns-in-Function-clause-within
returns-in-Function-clause-within c = rw (c.in-Function.is, c.into_inner.ensures) (λ n h. h)
