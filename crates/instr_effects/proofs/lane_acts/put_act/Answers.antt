use Rattle.std.proofs.Common.{◌≡◌, sym, ap, ◌∙◌, Some, None}
use Rattle.std.specs.Prelude.{position, slice_set}
use Rattle.instr_effects.specs.LaneActs.{is_on}
use Rattle.instr_effects.proofs.LaneActs.{set_put, push_put, put-told, put-stands}
use Rattle.instr_effects.proofs.lane_acts.put_act.Goals as goal

pub returns-in-Some-clause-told : goal.returns-in-Some-clause-told
returns-in-Some-clause-told c =
    let old = c.args.acts.now.items in
    let a = c.args.act in
    let there : position (is_on a.lane) old ≡ Some c.in-Some.at = sym (c.place_of.ensures ∙ ap (position (is_on a.lane)) c.as_slice.ensures.value) ∙ c.in-Some.is in
    put-told old (slice_set old c.in-Some.at a) a (set_put old a c.in-Some.at there)

pub returns-in-Some-clause-once : goal.returns-in-Some-clause-once
returns-in-Some-clause-once c =
    let old = c.args.acts.now.items in
    let a = c.args.act in
    let there : position (is_on a.lane) old ≡ Some c.in-Some.at = sym (c.place_of.ensures ∙ ap (position (is_on a.lane)) c.as_slice.ensures.value) ∙ c.in-Some.is in
    put-stands old (slice_set old c.in-Some.at a) a (set_put old a c.in-Some.at there)

pub returns-in_ok-push-in-None-clause-told : goal.returns-in_ok-push-in-None-clause-told
returns-in_ok-push-in-None-clause-told c =
    let old = c.args.acts.now.items in
    let a = c.args.act in
    let none : position (is_on a.lane) old ≡ None = sym (c.place_of.ensures ∙ ap (position (is_on a.lane)) c.as_slice.ensures.value) ∙ c.in-None.is in
    put-told old c.push.new.self.items a (c.in_ok-push-in-None.ensures.items ∙ push_put old a none)

pub returns-in_ok-push-in-None-clause-once : goal.returns-in_ok-push-in-None-clause-once
returns-in_ok-push-in-None-clause-once c =
    let old = c.args.acts.now.items in
    let a = c.args.act in
    let none : position (is_on a.lane) old ≡ None = sym (c.place_of.ensures ∙ ap (position (is_on a.lane)) c.as_slice.ensures.value) ∙ c.in-None.is in
    put-stands old c.push.new.self.items a (c.in_ok-push-in-None.ensures.items ∙ push_put old a none)
