use Rattle.std.proofs.Common.{◌≡◌, ◌<◌, ◌*◌, ◌/◌, ◌%◌, ◌^◌, ap, ◌∙◌, length, set, get_or, arith}
use Rattle.std.specs.Prelude.{bit_or}
use Rattle.std.proofs.lemmas.List.{get_or_default}
use Rattle.interference.specs.Marked.{is_marked}
use Rattle.interference.proofs.Marked.{marked-more}
use Rattle.interference.proofs.marks.Marks.mark.Goals as goal

pub returns-then-at-len-clause-marked : goal.returns-then-at-len-clause-marked
returns-then-at-len-clause-marked c = λ w lt.
    let ws = c.args.self.now.words.items in
    let n = c.args.n in
    let room : n / 64 < length ws = omega arith in
    let was : c.index_mut.result.now ≡ get_or ws (n / 64) 0 = c.index_mut.ensures.value ∙ get_or_default ws (n / 64) c.index_mut.result.now 0 room in
    ap (λ x. is_marked (set ws (n / 64) (bit_or x (1 * 2 ^ (n % 64) % 2 ^ 64))) w) was ∙ marked-more ws n w room
