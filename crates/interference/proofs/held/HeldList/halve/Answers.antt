use Rattle.std.proofs.Common.{◌≡◌, ◌<◌, ◌/◌, ℕ, length, drop, ap, ◌∙◌, arith}
use Rattle.interference.proofs.Written.{from-there, held-two, filled-halves}
use Rattle.interference.proofs.held.HeldList.halve.Goals as goal

pub returns-clause-held : goal.returns-clause-held
returns-clause-held c =
    let vs = c.args.self.now.parts.items in
    let v = c.index-there.result.now in
    let n : ℕ = c.len-half.result / 2 in
    let low : c.args.part < length vs = omega arith in
    let late : c.in_ok-rest.rest.items ≡ drop n v.items = c.in_ok-rest.ensures.items ∙ from-there n c.as_slice.result.now v.items c.as_slice.ensures.value in
    held-two vs c.insert.new.self.items c.args.part n v c.in_ok-rest.rest c.index_mut.result.now c.truncate.new.self low c.index-there.ensures late c.in_ok-insert.ensures.items c.index_mut.ensures.value c.truncate.ensures.items

pub returns-clause-filled : goal.returns-clause-filled
returns-clause-filled c = λ two full more.
    let vs = c.args.self.now.parts.items in
    let v = c.index-there.result.now in
    let n : ℕ = c.len-half.result / 2 in
    let low : c.args.part < length vs = omega arith in
    let late : c.in_ok-rest.rest.items ≡ drop n v.items = c.in_ok-rest.ensures.items ∙ from-there n c.as_slice.result.now v.items c.as_slice.ensures.value in
    let long : c.len-half.result ≡ length v.items = omega arith in
    filled-halves vs c.insert.new.self.items c.args.part n v c.in_ok-rest.rest c.index_mut.result.now c.truncate.new.self low c.index-there.ensures late c.in_ok-insert.ensures.items c.index_mut.ensures.value c.truncate.ensures.items two (ap (λ m. m / 2) long) full
