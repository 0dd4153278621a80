use Rattle.std.proofs.Common.{ℕ, ◌+◌, length, arith}
use Rattle.mir_text.specs.Document.{line_after, IsStateWithin}
use Rattle.mir_text.specs.declared.document.State.{State}
use Rattle.mir_text.proofs.Within.{state_grows, if_ok}
use Rattle.mir_text.proofs.document.State.line.Goals as goal

pub returns-in-Outside-clause-value : goal.returns-in-Outside-clause-value
unfolding line_after
returns-in-Outside-clause-value c = rw c.in-Outside.is c.outside_line.ensures.value

pub returns-in-Outside-clause-within : goal.returns-in-Outside-clause-within
returns-in-Outside-clause-within c =
    if_ok c.outside_line.result (λ s. IsStateWithin 0 s) (λ (s : State). (n : ℕ) → IsStateWithin n c.args.self → IsStateWithin (n + length c.args.line.now) s) (λ s h n k. state_grows 0 (n + length c.args.line.now) s h (omega arith)) c.outside_line.ensures.within

pub returns-in-Ir-clause-value : goal.returns-in-Ir-clause-value
unfolding line_after
returns-in-Ir-clause-value c = rw c.in-Ir.is c.ir_line.ensures.value

pub returns-in-Ir-clause-within : goal.returns-in-Ir-clause-within
returns-in-Ir-clause-within c =
    if_ok c.ir_line.result (λ s. IsStateWithin 0 s) (λ (s : State). (n : ℕ) → IsStateWithin n c.args.self → IsStateWithin (n + length c.args.line.now) s) (λ s h n k. state_grows 0 (n + length c.args.line.now) s h (omega arith)) c.ir_line.ensures.within

pub key_line-requires : goal.key_line-requires
key_line-requires c = rw c.in-Keys.is at c.requires.small

pub returns-in-Keys-clause-value : goal.returns-in-Keys-clause-value
unfolding line_after
returns-in-Keys-clause-value c = rw c.in-Keys.is c.key_line.ensures.value

pub returns-in-Keys-clause-within : goal.returns-in-Keys-clause-within
returns-in-Keys-clause-within c = rw c.in-Keys.is c.key_line.ensures.within

pub body_or_end-requires-clause-small : goal.body_or_end-requires-clause-small
body_or_end-requires-clause-small c = rw c.in-Body.is at c.requires.small

pub returns-in-Body-clause-value : goal.returns-in-Body-clause-value
unfolding line_after
returns-in-Body-clause-value c = rw c.in-Body.is c.body_or_end.ensures.value

pub returns-in-Body-clause-within : goal.returns-in-Body-clause-within
returns-in-Body-clause-within c = rw c.in-Body.is c.body_or_end.ensures.within
