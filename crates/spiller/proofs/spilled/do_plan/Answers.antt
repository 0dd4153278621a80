use Rattle.std.proofs.Common.{subst}
use Rattle.interference.specs.Listed.{KeepsLists}
use Rattle.live_edits.proofs.DraftEdits.{any-err}
use Rattle.spiller.specs.Growing.{HasGrown, HasGrownSome, MayGrow}
use Rattle.spiller.specs.SlotMaps.{slots_of}
use Rattle.spiller.specs.Views.{planned}
use Rattle.spiller.proofs.Spills.{grown-from, may-edit, may-grow, none-left, ranges-refused, spill-done, spill-exact, spill-refused}
use Rattle.spiller.proofs.spilled.do_plan.Goals as goal

pub returns-clause-ok : goal.returns-clause-ok
returns-clause-ok c = λ facts now is few.
    let x = c.args.m.now.live in
    let slots = slots_of c.args.slots.now in
    let has = grown-from x slots c.args.v facts now (planned c.args.plan) is few (slots_of c.keep_slot.new.slots) c.make_ranges.new.m.live (slots_of c.make_ranges.new.slots) (c.in_ok-keep_slot.ensures.ok now.free) (subst (λ cs. MayGrow x (slots_of c.keep_slot.new.slots) cs → HasGrown x (slots_of c.keep_slot.new.slots) cs c.make_ranges.new.m.live (slots_of c.make_ranges.new.slots)) c.as_slice.ensures.value c.in_ok-make_ranges.ensures.ok) in
    spill-done x slots c.args.v facts now (planned c.args.plan) is few c.make_ranges.new.m.live (slots_of c.make_ranges.new.slots) has c.edit_all.new.self.live c.in_ok-edit_all.ensures.ok

pub returns-clause-exact : goal.returns-clause-exact
returns-clause-exact c = λ facts now is few.
    let x = c.args.m.now.live in
    let slots = slots_of c.args.slots.now in
    let has = grown-from x slots c.args.v facts now (planned c.args.plan) is few (slots_of c.keep_slot.new.slots) c.make_ranges.new.m.live (slots_of c.make_ranges.new.slots) (c.in_ok-keep_slot.ensures.ok now.free) (subst (λ cs. MayGrow x (slots_of c.keep_slot.new.slots) cs → HasGrown x (slots_of c.keep_slot.new.slots) cs c.make_ranges.new.m.live (slots_of c.make_ranges.new.slots)) c.as_slice.ensures.value c.in_ok-make_ranges.ensures.ok) in
    spill-exact x slots c.args.v facts now (planned c.args.plan) is few c.make_ranges.new.m.live (slots_of c.make_ranges.new.slots) has c.edit_all.new.self.live c.in_ok-edit_all.ensures.ok

pub returns-clause-kept : goal.returns-clause-kept
returns-clause-kept c = λ facts now is few keeps clear.
    let x = c.args.m.now.live in
    let slots = slots_of c.args.slots.now in
    let has = grown-from x slots c.args.v facts now (planned c.args.plan) is few (slots_of c.keep_slot.new.slots) c.make_ranges.new.m.live (slots_of c.make_ranges.new.slots) (c.in_ok-keep_slot.ensures.ok now.free) (subst (λ cs. MayGrow x (slots_of c.keep_slot.new.slots) cs → HasGrown x (slots_of c.keep_slot.new.slots) cs c.make_ranges.new.m.live (slots_of c.make_ranges.new.slots)) c.as_slice.ensures.value c.in_ok-make_ranges.ensures.ok) in
    c.in_ok-edit_all.ensures.kept (may-edit x slots c.args.v facts now (planned c.args.plan) is few c.make_ranges.new.m.live (slots_of c.make_ranges.new.slots) has c.edit_all.new.self.live) (subst (λ cs. MayGrow x (slots_of c.keep_slot.new.slots) cs → KeepsLists c.args.m.now → KeepsLists c.make_ranges.new.m) c.as_slice.ensures.value c.make_ranges.ensures.lists (may-grow x slots c.args.v facts now (planned c.args.plan) is few (slots_of c.keep_slot.new.slots) (c.in_ok-keep_slot.ensures.ok now.free)) keeps) clear

pub returns-in_err-keep_slot-clause-err : goal.returns-in_err-keep_slot-clause-err
returns-in_err-keep_slot-clause-err c = any-err c.from_residual.result _ (λ facts now is few.
    none-left c.args.m.now.live (slots_of c.args.slots.now) c.args.v facts now (slots_of c.keep_slot.new.slots) c.in_err-keep_slot.ensures.err)

pub returns-in_err-keep_slot-clause-refused : goal.returns-in_err-keep_slot-clause-refused
returns-in_err-keep_slot-clause-refused c = any-err c.from_residual.result _ (λ facts now is few keeps. keeps)

pub returns-in_err-make_ranges-clause-err : goal.returns-in_err-make_ranges-clause-err
returns-in_err-make_ranges-clause-err c = any-err c.from_residual-in_err-make_ranges.result _ (λ facts now is few.
    let x = c.args.m.now.live in
    let slots = slots_of c.args.slots.now in
    ranges-refused x slots c.args.v facts now (planned c.args.plan) is few (slots_of c.keep_slot.new.slots) c.make_ranges.new.m.live (slots_of c.make_ranges.new.slots) (c.in_ok-keep_slot.ensures.ok now.free)
    (subst (λ cs. MayGrow x (slots_of c.keep_slot.new.slots) cs → HasGrownSome x (slots_of c.keep_slot.new.slots) cs c.make_ranges.new.m.live (slots_of c.make_ranges.new.slots)) c.as_slice.ensures.value c.in_err-make_ranges.ensures.err))

pub returns-in_err-make_ranges-clause-refused : goal.returns-in_err-make_ranges-clause-refused
returns-in_err-make_ranges-clause-refused c = any-err c.from_residual-in_err-make_ranges.result _ (λ facts now is few keeps.
    let x = c.args.m.now.live in
    let slots = slots_of c.args.slots.now in
    subst (λ cs. MayGrow x (slots_of c.keep_slot.new.slots) cs → KeepsLists c.args.m.now → KeepsLists c.make_ranges.new.m) c.as_slice.ensures.value c.make_ranges.ensures.lists (may-grow x slots c.args.v facts now (planned c.args.plan) is few (slots_of c.keep_slot.new.slots) (c.in_ok-keep_slot.ensures.ok now.free)) keeps)

pub returns-in_err-edit_all-clause-err : goal.returns-in_err-edit_all-clause-err
returns-in_err-edit_all-clause-err c = any-err c.from_residual-in_err-edit_all.result _ (λ facts now is few.
    let x = c.args.m.now.live in
    let slots = slots_of c.args.slots.now in
    let has = grown-from x slots c.args.v facts now (planned c.args.plan) is few (slots_of c.keep_slot.new.slots) c.make_ranges.new.m.live (slots_of c.make_ranges.new.slots) (c.in_ok-keep_slot.ensures.ok now.free) (subst (λ cs. MayGrow x (slots_of c.keep_slot.new.slots) cs → HasGrown x (slots_of c.keep_slot.new.slots) cs c.make_ranges.new.m.live (slots_of c.make_ranges.new.slots)) c.as_slice.ensures.value c.in_ok-make_ranges.ensures.ok) in
    spill-refused x slots c.args.v facts now (planned c.args.plan) is few c.make_ranges.new.m.live (slots_of c.make_ranges.new.slots) has c.edit_all.new.self.live c.in_err-edit_all.ensures.err)

pub returns-in_err-edit_all-clause-refused : goal.returns-in_err-edit_all-clause-refused
returns-in_err-edit_all-clause-refused c = any-err c.from_residual-in_err-edit_all.result _ (λ facts now is few keeps.
    let x = c.args.m.now.live in
    let slots = slots_of c.args.slots.now in
    let has = grown-from x slots c.args.v facts now (planned c.args.plan) is few (slots_of c.keep_slot.new.slots) c.make_ranges.new.m.live (slots_of c.make_ranges.new.slots) (c.in_ok-keep_slot.ensures.ok now.free) (subst (λ cs. MayGrow x (slots_of c.keep_slot.new.slots) cs → HasGrown x (slots_of c.keep_slot.new.slots) cs c.make_ranges.new.m.live (slots_of c.make_ranges.new.slots)) c.as_slice.ensures.value c.in_ok-make_ranges.ensures.ok) in
    c.in_err-edit_all.ensures.refused (may-edit x slots c.args.v facts now (planned c.args.plan) is few c.make_ranges.new.m.live (slots_of c.make_ranges.new.slots) has c.edit_all.new.self.live) (subst (λ cs. MayGrow x (slots_of c.keep_slot.new.slots) cs → KeepsLists c.args.m.now → KeepsLists c.make_ranges.new.m) c.as_slice.ensures.value c.make_ranges.ensures.lists (may-grow x slots c.args.v facts now (planned c.args.plan) is few (slots_of c.keep_slot.new.slots) (c.in_ok-keep_slot.ensures.ok now.free)) keeps))
