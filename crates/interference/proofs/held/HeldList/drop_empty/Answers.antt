use Rattle.std.proofs.Common.{◌≡◌, ◌<◌, length, map, List, ap, ◌∙◌, arith}
use Rattle.std.specs.Prelude.{flat_map, Vec}
use Rattle.std.specs.Global.{Global}
use Rattle.std.specs.List.{list_any}
use Rattle.interference.specs.declared.held.RangeExtent.{RangeExtent}
use Rattle.interference.specs.Clashes.{is_none, part_of}
use Rattle.interference.proofs.Placed.{filled-part, empty-part}
use Rattle.interference.proofs.Written.{held-removed, filled-removed, filled-left}
use Rattle.interference.proofs.held.HeldList.drop_empty.Goals as goal

pub returns-then-not-is_empty-clause-filled : goal.returns-then-not-is_empty-clause-filled
returns-then-not-is_empty-clause-filled c = λ low others more.
    let v = c.index.result.now in
    let long : v.len ≡ length v.items = omega arith in
    filled-left c.args.self.now.parts.items c.args.part v v low c.index.ensures (filled-part v.items v.len c.is_empty.result long c.is_empty.ensures c.if-not-is_empty.true) (others more)

pub returns-clause-held : goal.returns-clause-held
returns-clause-held c =
    let vs = c.args.self.now.parts.items in
    let v = c.index.result.now in
    let low : c.args.part < length vs = omega arith in
    let long : v.len ≡ length v.items = omega arith in
    ap (λ (ns : List (Vec RangeExtent Global)). flat_map part_of ns) c.remove.ensures.items ∙ held-removed vs c.args.part v v low c.index.ensures (empty-part v.items v.len c.is_empty.result long c.is_empty.ensures c.if-not-is_empty.false)

pub returns-clause-filled : goal.returns-clause-filled
returns-clause-filled c = λ low others more.
    let vs = c.args.self.now.parts.items in
    let v = c.index.result.now in
    let several : 1 < length vs = omega arith in
    ap (λ (ns : List (Vec RangeExtent Global)). list_any is_none (map part_of ns)) c.remove.ensures.items ∙ filled-removed vs c.args.part v v low c.index.ensures (others several)
