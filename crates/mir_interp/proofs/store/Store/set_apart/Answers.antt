use Rattle.std.proofs.Common.{◌∙◌, ap, cond, Some}
use Rattle.std.specs.Map.{lookup}
use Rattle.mir_interp.specs.Holds.{key_of, same_key, unless_absent}
use Rattle.mir_interp.proofs.Keys.{same_keys, put_or_left}
use Rattle.mir_interp.proofs.store.Store.set_apart.Goals as goal

pub returns-clause-apart : goal.returns-clause-apart
returns-clause-apart c = λ m.
    let u = c.in_ok-insert.ensures.updates.0 (key_of m) in
    let old = lookup (same_key (key_of m)) c.args.self.now.others.entries in
    ap unless_absent u
    ∙ (ap (λ k. unless_absent (cond (same_key k (key_of m)) (Some c.args.held) old)) c.key_of.ensures
    ∙ (ap (λ b. unless_absent (cond b (Some c.args.held) old)) (same_keys c.args.l m)
    ∙ put_or_left _ c.args.held old))
