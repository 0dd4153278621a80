use Rattle.std.proofs.Common.{◌≡◌, ◌∙◌, refl, map, Some, None}
use Rattle.split_choose.specs.Built.{told}
use Rattle.split_choose.proofs.Placed.{home-of, stands-there}
use Rattle.split_choose.proofs.Using.{used-there}
use Rattle.split_choose.proofs.spans.add_uses.Goals as goal

pub returns-in-Some : goal.returns-in-Some
returns-in-Some c finds s site at up =
    let live = c.args.live.now in
    let found = c.in-Some.ensures finds s.position site.place site.block s.instr site.found (stands-there live.target live.table live.func.blocks s finds site) at in
    used-there live.target c.target.result.now c.args.v c.position_of.result s.position c.in-Some.instr.now s.instr s (map told c.args.spans.now) (map told c.add_uses_at.new.spans) c.target.ensures found refl (c.position_of.ensures ∙ home-of live.target live.table live.func.blocks s finds site c.args.id at) refl (c.add_uses_at.ensures up)

pub returns-in_default : goal.returns-in_default
returns-in_default c finds s site at up =
    let live = c.args.live.now in
    let found : None ≡ Some s.instr = c.in_default.ensures finds s.position site.place site.block s.instr site.found (stands-there live.target live.table live.func.blocks s finds site) at in
    cc
