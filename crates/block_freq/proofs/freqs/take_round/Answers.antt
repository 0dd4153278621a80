use Rattle.std.proofs.Common.{◌≡◌, length, take, arith}
use Rattle.std.proofs.lemmas.List.{take_all}
use Rattle.block_freq.proofs.Rounds.{round_is}
use Rattle.block_freq.proofs.freqs.take_round.Goals as goal

pub returns : goal.returns
returns c =
    let l : length c.edges.next ≡ length c.args.last.now = omega arith in
    let t : take c.edges.e-index c.args.edges.now ≡ c.args.edges.now = take_all _ _ (omega arith) in
    round_is c.args.edges.now c.args.last.now c.edges.next l (λ b h. rw t at c.edges.invariant b h)
