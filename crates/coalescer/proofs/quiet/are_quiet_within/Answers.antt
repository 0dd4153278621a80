use Rattle.std.proofs.Common.{◌≡◌, ◌∙◌, ◌<◌, ℕ, true, map, length, take, sym, ap, subst, arith}
use Rattle.std.specs.List.{list_all}
use Rattle.std.proofs.lemmas.List.{length-map}
use Rattle.live_lanes.specs.Table.{Begun, Numbers, begun, entry_rank, rises_from, seen_cell}
use Rattle.coalescer.specs.Asked.{first_writing, is_quiet_writing}
use Rattle.coalescer.proofs.Along.{part, part-passes, before-first, behind-last}
use Rattle.coalescer.proofs.Writings.{at-writing, writing-fails, writing-more}
use Rattle.coalescer.proofs.quiet.are_quiet_within.Goals as goal

pub writings-init : goal.writings-init
writings-init c = λ may rh rt.
    let slots = c.args.live.now.table.order.slots in
    let test = λ (s : Begun). is_quiet_writing c.args.target.now c.args.live.now c.args.pair.own c.args.pair.other (seen_cell c.args.there.now) s in
    let zs = map begun c.args.here.now.segments.items in
    let first = subst (λ (sl : Numbers). rises_from sl 0 zs ≡ true → c.first_writing-i.result ≡ first_writing sl c.args.at.first zs) c.slots.ensures c.first_writing-i.ensures.value rh in
    subst (λ (n : ℕ). list_all (part slots test c.args.at) (take n zs) ≡ true) (sym first) (before-first slots test c.args.at zs)

pub returns-then-entry_rank-at : goal.returns-then-entry_rank-at
returns-then-entry_rank-at c = λ may rh rt.
    let slots = c.args.live.now.table.order.slots in
    let test = λ (s : Begun). is_quiet_writing c.args.target.now c.args.live.now c.args.pair.own c.args.pair.other (seen_cell c.args.there.now) s in
    let items = c.args.here.now.segments.items in
    let d = c.index.result.now in
    let k = c.writings.i in
    let within : k < length items = omega arith in
    let entry : c.entry_rank.result ≡ entry_rank slots d.start = c.entry_rank.ensures ∙ ap (λ (sl : Numbers). entry_rank sl d.start) c.slots-in-writings.ensures in
    let late : c.args.at.last < entry_rank slots d.start = omega (arith, entry) in
    let there = subst (λ (s : Begun). c.args.at.last < entry_rank slots s.start) (sym (at-writing test items k d within c.index.ensures)) late in (
      (λ e. behind-last slots test c.args.at 0 (map begun items) k (begun d) rh (let l = length-map items begun in omega (arith, l, within)) there (c.writings.invariant may rh rt)),
      (λ e. absurd (cc)),
    )

pub returns-then-not-is_quiet_writing : goal.returns-then-not-is_quiet_writing
returns-then-not-is_quiet_writing c = λ may rh rt.
    let test = λ (s : Begun). is_quiet_writing c.args.target.now c.args.live.now c.args.pair.own c.args.pair.other (seen_cell c.args.there.now) s in (
      (λ e. absurd (cc)),
      (λ e. writing-fails test c.args.here.now.segments.items c.writings.i c.index-in-writings.result.now (omega arith) c.index-in-writings.ensures (sym (c.is_quiet_writing.ensures may rt) ∙ c.if-not-is_quiet_writing.true)),
    )

pub writings-preserved : goal.writings-preserved
writings-preserved c = λ may rh rt.
    let slots = c.args.live.now.table.order.slots in
    let test = λ (s : Begun). is_quiet_writing c.args.target.now c.args.live.now c.args.pair.own c.args.pair.other (seen_cell c.args.there.now) s in
    let d = c.index-in-writings.result.now in
    writing-more (part slots test c.args.at) c.args.here.now.segments.items c.writings.i d (omega arith) c.index-in-writings.ensures (c.writings.invariant may rh rt) (part-passes slots test c.args.at (begun d) (sym (c.is_quiet_writing.ensures may rt) ∙ c.if-not-is_quiet_writing.false))
