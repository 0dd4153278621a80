use Rattle.std.proofs.Common.{refl}
use Rattle.interference.specs.Clashes.{held_of}
use Rattle.interference.proofs.Owned.{spare-absent, spare-taken}
use Rattle.interference.proofs.held.HeldList.remove.Goals as goal

pub returns-in_default-clause-held : goal.returns-in_default-clause-held
returns-in_default-clause-held c = λ filled apart one. spare-absent c.args.range c.args.start (held_of c.args.self.now) (held_of c.args.self.now) (c.in_default.ensures filled apart) refl

pub returns-clause-held : goal.returns-clause-held
returns-clause-held c = λ filled apart one.
    let found = c.in-Some.ensures filled apart in
    spare-taken c.args.range c.args.start found.held (held_of c.args.self.now) (held_of c.cut.new.self) found.is (c.cut.ensures.held found.held found.some found.there) one
