use Rattle.evictor.specs.Hints.{assignment_of}
use Rattle.evictor.proofs.Hinted.{hint_found, hint_none}
use Rattle.evictor.proofs.hints.hint_at.Goals as goal

pub returns-in-None-hint_of_copy : goal.returns-in-None-hint_of_copy
returns-in-None-hint_of_copy c = λ finds s at is.
    let a = c.args in
    let found = (rw c.live-live.ensures at c.in-Some.ensures) finds s.0 at.1 at.0 s.1 at.2 at.3 is in
    hint_none a.m.now.live.target a.m.now.live.func (assignment_of a.m.now) a.freqs.now a.v s c.in-Some.instr.now (cc) c.in-None-hint_of_copy.ensures

pub returns-in-Some-hint_of_copy : goal.returns-in-Some-hint_of_copy
returns-in-Some-hint_of_copy c = λ finds s at is.
    let a = c.args in
    let found = (rw c.live-live.ensures at c.in-Some.ensures) finds s.0 at.1 at.0 s.1 at.2 at.3 is in
    hint_found a.m.now.live.target a.m.now.live.func (assignment_of a.m.now) a.m.now.live.table.order.block_of.items a.freqs.now a.v a.id s c.position_of.result c.frequency_at.result c.in-Some-hint_of_copy.r c.in-Some.instr.now finds.homes at is (rw c.live-live.ensures at c.position_of.ensures) c.frequency_at.ensures (cc) c.in-Some-hint_of_copy.ensures

pub returns-in-None : goal.returns-in-None
returns-in-None c = λ finds s at is.
    let found = (rw c.live-live.ensures at c.in-None.ensures) finds s.0 at.1 at.0 s.1 at.2 at.3 is in
    cc
