use Rattle.std.proofs.Common.{◌≤◌, length, subst, sym}
use Rattle.ra_top.proofs.DeviceLemmas.Chunks.{skipped}
use Rattle.ra_top.proofs.devices.chunk.Chunk.skip.Goals as goal

pub returns : goal.returns
returns c =
    let within = subst (λ t. c.args.n ≤ length t) (sym c.self.view_is) c.requires in
    rw (← c.self.view_is) (skipped c.self.inside.bytes.items c.self.inside.from c.self.inside.to c.args.n within)
