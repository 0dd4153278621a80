use Rattle.interference.specs.Clashes.{held_of}
use Rattle.interference.proofs.Owned.{spare-absent, spare-taken}
use Rattle.interference.proofs.PutBack.{logs-one}
use Rattle.interference.proofs.held.HeldList.take_piece.Goals as goal

pub returns-in_default-clause-ok : goal.returns-in_default-clause-ok
returns-in_default-clause-ok c =
    let hs = held_of c.args.self.now in
    record { filled = λ full. full; held = λ full apart one. spare-absent c.args.at.now.range c.args.start hs hs (c.in_default.ensures full apart) (λ i. hs) }

pub returns-clause-ok : goal.returns-clause-ok
returns-clause-ok c = record {
  filled = c.cut.ensures.filled;
  held = λ full apart one.
      let found = c.in-Some.ensures full apart in
      spare-taken c.args.at.now.range c.args.start found.held (held_of c.args.self.now) (held_of c.cut.new.self) found.is (c.cut.ensures.held found.held found.some found.there) one;
}

pub returns-clause-logged : goal.returns-clause-logged
returns-clause-logged c =
    let saved = c.in_ok-save.ensures.ok in
    logs-one c.args.at.now c.args.log.now.items c.save.new.log.items c.args.self.now c.cut.new.self saved.0 saved.1 (saved.2 c.cut.new.self (λ several. c.cut.ensures.part (c.is_single.ensures several)))
