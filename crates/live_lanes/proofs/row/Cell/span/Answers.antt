use Rattle.std.proofs.Common.{◌≡◌, ◌≤◌, ◌<◌, ℕ, List, true, false, sym, ap, ◌∙◌, subst, arith}
use Rattle.live_lanes.specs.Table.{Begun, Seen, seen_cell, end_in, end_rank, piece_at}
use Rattle.live_lanes.specs.Reach.{reaches}
use Rattle.live_lanes.specs.Held.{next_rank, begins_at}
use Rattle.live_lanes.proofs.Held.{early-held, exit-held, live-held, none-held, reached}
use Rattle.live_lanes.proofs.row.Cell.span.Goals as goal

pub returns-then-next-at-clause-span : goal.returns-then-next-at-clause-span
returns-then-next-at-clause-span c = λ r.
    let slots = c.args.slots.now in
    let v : Seen = seen_cell c.args.self.now in
    let next : c.next_rank-next.result ≡ next_rank slots v.segments (piece_at slots c.args.at v.segments) = c.next_rank-next.ensures ∙ ap (next_rank slots v.segments) (c.piece_at-index.ensures.piece r) in
    let low : c.next_rank-next.result ≤ c.args.at = c.if-next-at.true in
    record {
      further = omega arith;
      same = early-held slots v r c.args.at c.requires (omega arith);
    }

pub returns-then-reaches-clause-span : goal.returns-then-reaches-clause-span
returns-then-reaches-clause-span c = λ r.
    let slots = c.args.slots.now in
    let v : Seen = seen_cell c.args.self.now in
    let n : c.piece_at-index.result ≡ piece_at slots c.args.at v.segments = c.piece_at-index.ensures.piece r in
    let next : c.next_rank-next.result ≡ next_rank slots v.segments (piece_at slots c.args.at v.segments) = c.next_rank-next.ensures ∙ ap (next_rank slots v.segments) n in
    let end : c.end_of-end.result ≡ end_in v (piece_at slots c.args.at v.segments) = c.end_of-end.ensures ∙ ap (end_in v) n in
    let live : reaches slots (end_in v (piece_at slots c.args.at v.segments)) c.args.at ≡ true = ap (λ e. reaches slots e c.args.at) (sym end) ∙ sym c.reaches.ensures ∙ c.if-reaches.true in
    let last : c.rank.result ≡ end_rank slots (end_in v (piece_at slots c.args.at v.segments)) = c.rank.ensures ∙ ap (end_rank slots) end in
    let here : c.args.at ≤ c.rank.result = subst (λ k. c.args.at ≤ k) (sym c.rank.ensures) (reached slots c.end_of-end.result c.args.at (sym c.reaches.ensures ∙ c.if-reaches.true)) in
    let above : c.args.at < c.next_rank-next.result = c.if-next-at.false in
    record {
      further = omega (arith, c.min.ensures, c.saturating_add.ensures, here, above, c.requires);
      same = λ x le lt. live-held slots v r c.args.at live x le (omega (arith, c.min.ensures, next, lt)) (omega (arith, c.min.ensures, c.saturating_add.ensures, last, lt));
    }

pub returns-then-begins_at-clause-span : goal.returns-then-begins_at-clause-span
returns-then-begins_at-clause-span c = λ r.
    let slots = c.args.slots.now in
    let v : Seen = seen_cell c.args.self.now in
    let n : c.piece_at-index.result ≡ piece_at slots c.args.at v.segments = c.piece_at-index.ensures.piece r in
    let begins : begins_at slots c.args.at v.segments (piece_at slots c.args.at v.segments) ≡ true = ap (begins_at slots c.args.at v.segments) (sym n) ∙ sym c.begins_at.ensures ∙ c.if-begins_at.true in
    record {
      further = omega arith;
      same = exit-held slots v r c.args.at begins;
    }

pub returns-clause-span : goal.returns-clause-span
returns-clause-span c = λ r.
    let slots = c.args.slots.now in
    let v : Seen = seen_cell c.args.self.now in
    let n : c.piece_at-index.result ≡ piece_at slots c.args.at v.segments = c.piece_at-index.ensures.piece r in
    let next : c.next_rank-next.result ≡ next_rank slots v.segments (piece_at slots c.args.at v.segments) = c.next_rank-next.ensures ∙ ap (next_rank slots v.segments) n in
    let end : c.end_of-end.result ≡ end_in v (piece_at slots c.args.at v.segments) = c.end_of-end.ensures ∙ ap (end_in v) n in
    let dead : reaches slots (end_in v (piece_at slots c.args.at v.segments)) c.args.at ≡ false = ap (λ e. reaches slots e c.args.at) (sym end) ∙ sym c.reaches.ensures ∙ c.if-reaches.false in
    let none : begins_at slots c.args.at v.segments (piece_at slots c.args.at v.segments) ≡ false = ap (begins_at slots c.args.at v.segments) (sym n) ∙ sym c.begins_at.ensures ∙ c.if-begins_at.false in
    let above : c.args.at < c.next_rank-next.result = c.if-next-at.false in
    record {
      further = above;
      same = λ x le lt. none-held slots v r c.args.at (omega arith) dead none x le (omega arith);
    }
