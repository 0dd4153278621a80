use Rattle.std.proofs.Common.{◌≡◌, ◌∙◌, true, refl, ap, sym, arith}
use Rattle.std.proofs.lemmas.Bool.Decides.{Decides-eqb}
use Rattle.std.proofs.lemmas.Slice.Eq.{slice_eq-Decides}
use Rattle.block_freq.specs.Frequencies.{round}
use Rattle.block_freq.proofs.Rounds.{rounds_more, rounds_capped, rounds_over, round_capped}
use Rattle.block_freq.proofs.freqs.run_rounds.Goals as goal

pub rounds-preserved : goal.rounds-preserved
rounds-preserved c =
    c.copy_from_slice.ensures.after ∙ (c.take_round.ensures ∙ (ap (round c.args.edges.now) c.rounds.invariant ∙ sym (rounds_more c.args.edges.now c.rounds.k c.args.last.now)))

pub returns-then-eq-clause-value : goal.returns-then-eq-clause-value
returns-then-eq-clause-value c =
    let same : c.rounds.last ≡ c.take_round.new.next = (slice_eq-Decides Decides-eqb c.rounds.last c.take_round.new.next true c.if-eq.ensures).0 refl in
    rounds_over c.args.edges.now c.rounds.k c.args.last.now c.rounds.last (omega arith) c.rounds.invariant (same ∙ c.take_round.ensures)

pub returns-then-eq-clause-capped : goal.returns-then-eq-clause-capped
returns-then-eq-clause-capped c =
    let same : c.rounds.last ≡ c.take_round.new.next = (slice_eq-Decides Decides-eqb c.rounds.last c.take_round.new.next true c.if-eq.ensures).0 refl in
    rw (same ∙ c.take_round.ensures) (round_capped c.args.edges.now c.rounds.last)

pub returns-clause-capped : goal.returns-clause-capped
returns-clause-capped c = rw c.rounds.invariant (rounds_capped c.args.edges.now c.rounds.k c.args.last.now (omega arith))
