use Rattle.std.proofs.Common.{◌≡◌, true, false}
use Rattle.interference.proofs.PutBack.{logs-one}
use Rattle.interference.proofs.held.HeldList.put_at.Goals as goal

pub returns-clause-logged : goal.returns-clause-logged
returns-clause-logged c = λ within.
    let saved = c.in_ok-save.ensures.ok in
    logs-one c.args.at.now c.args.log.now.items c.save.new.log.items c.args.self.now c.add.new.self saved.0 saved.1 (saved.2 c.add.new.self (λ (e : true ≡ false). absurd (cc)))
