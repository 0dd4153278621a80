use Rattle.std.proofs.Common.{rules, ◌<◌, ◌≤◌, length, vec_len, arith}
use Rattle.std.specs.Vec.{with_items}
use Rattle.ra_top.proofs.DeviceLemmas.Chunks.{filled_none}
use Rattle.ra_top.proofs.devices.chunk.Chunk.fill.Goals as goal

pub returns-clause-end : goal.returns-clause-end
returns-clause-end g c = λ none.
    let room : 0 < length c.read.new.piece = search rules in
    let filled = with_items c.self.inside.bytes c.read.new.piece in
    let within : c.in_ok-self-inside.field-0 ≤ vec_len c.self.inside.bytes = search rules in
    filled_none _ _ c.read.new.piece filled.items c.in_ok-self-inside.field-0 room (omega (arith, within, filled.ok.0)) c.in_ok-self-inside.ensures.takes none
