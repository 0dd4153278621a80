use Rattle.std.proofs.Common.{◌≡◌, ℕ, ◌<◌, ◌%◌, ◌^◌, ◌∙◌, true, false, nat_eq, ap, sym, rules, arith}
use Rattle.meaning.specs.Environment.{answer}
use Rattle.mir_interp.proofs.Performing.{told_next, told_taken}
use Rattle.mir_interp.proofs.perform.Executor.answered_branch.Goals as goal

pub returns-then-told-eq0 : goal.returns-then-told-eq0
returns-then-told-eq0 g c = λ n env h lt.
    let zero : 0 < 2 ^ 64 = omega arith in
    let told : c.low_bits-told.result ≡ answer env c.args.call 0 8 = c.low_bits-told.ensures ∙ (ap (λ x. x % 2 ^ 8) c.answer.ensures ∙ sym (h.answer c.args.call 0 8 lt zero)) in
    told_next env c.args.call c.low_bits-told.result told (search rules)

pub returns-else-told-eq0 : goal.returns-else-told-eq0
returns-else-told-eq0 g c = λ n env h lt.
    let zero : 0 < 2 ^ 64 = omega arith in
    let told : c.low_bits-told.result ≡ answer env c.args.call 0 8 = c.low_bits-told.ensures ∙ (ap (λ x. x % 2 ^ 8) c.answer.ensures ∙ sym (h.answer c.args.call 0 8 lt zero)) in
    told_taken env c.args.call c.low_bits-told.result told (search rules)
