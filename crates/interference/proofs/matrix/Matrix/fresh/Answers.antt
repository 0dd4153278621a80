use Rattle.std.proofs.Common.{◌≡◌, [], ◌∷◌, length, Some, refl, ap, ◌∙◌, arith}
use Rattle.std.proofs.lemmas.List.{length_push}
use Rattle.mir_func.specs.Value.{Function}
use Rattle.interference.proofs.Assigned.{grown-kept, same-kept, taken-back}
use Rattle.interference.proofs.NewRange.{no-more, own-extents, still-computed, still-extents}
use Rattle.interference.proofs.matrix.Matrix.fresh.Goals as goal

pub returns-in-Ok-clause-kept : goal.returns-in-Ok-clause-kept
returns-in-Ok-clause-kept c = λ few same keeps.
    let made = c.in-Ok.ensures.ok few in
    grown-kept c.args.self.now _ keeps refl c.fresh.ensures.target c.in_ok-push.ensures.items (ap (λ (f : Function). length f.classes) made.1 ∙ length_push c.args.self.now.live.func.classes (Some c.args.class)) (ap (λ (f : Function). f.blocks) made.1) same

pub returns-in-Err-clause-kept : goal.returns-in-Err-clause-kept
returns-in-Err-clause-kept c = λ few same keeps.
    let rs = c.args.self.now.registers in
    let long : c.len-count.result ≡ length rs.items = omega arith in
    same-kept c.args.self.now _ keeps refl c.fresh.ensures.target (c.truncate.ensures.items ∙ taken-back rs.items c.push.new.self.items c.len-count.result long c.in_ok-push.ensures.items) c.in-Err.ensures.err same

pub returns-in-Ok-clause-computed : goal.returns-in-Ok-clause-computed
returns-in-Ok-clause-computed c = λ few computed rules last.
    let old = c.args.self.now.live in
    let new = c.fresh.new.self in
    still-computed old.target new.target old.func new.func (Some c.args.class ∷ []) old.table new.table computed rules last c.fresh.ensures.target (c.in-Ok.ensures.ok few).1 c.fresh.ensures.numbers c.fresh.ensures.further

pub returns-in-Err-clause-computed : goal.returns-in-Err-clause-computed
returns-in-Err-clause-computed c = λ few computed rules last.
    let old = c.args.self.now.live in
    let new = c.fresh.new.self in
    still-computed old.target new.target old.func new.func [] old.table new.table computed rules last c.fresh.ensures.target (no-more old.func new.func c.in-Err.ensures.err) c.fresh.ensures.numbers c.fresh.ensures.further

pub returns-in-Ok-clause-extents : goal.returns-in-Ok-clause-extents
returns-in-Ok-clause-extents c = λ few computed rules last le.
    let old = c.args.self.now.live in
    let new = c.fresh.new.self in
    still-extents old.target new.target old.func new.func (Some c.args.class ∷ []) old.table new.table computed rules last c.fresh.ensures.target (c.in-Ok.ensures.ok few).1 c.fresh.ensures.numbers c.fresh.ensures.further (length c.args.self.now.registers.items) le

pub returns-in-Err-clause-extents : goal.returns-in-Err-clause-extents
returns-in-Err-clause-extents c = λ few computed rules last le.
    let old = c.args.self.now.live in
    let new = c.fresh.new.self in
    still-extents old.target new.target old.func new.func [] old.table new.table computed rules last c.fresh.ensures.target (no-more old.func new.func c.in-Err.ensures.err) c.fresh.ensures.numbers c.fresh.ensures.further (length c.args.self.now.registers.items) le

pub returns-in-Ok-clause-lists : goal.returns-in-Ok-clause-lists
returns-in-Ok-clause-lists c = λ few computed rules last keeps.
    let long : length c.args.self.now.registers.items ≡ length c.args.self.now.live.func.classes = keeps.ordered.registers in
    returns-in-Ok-clause-kept c few (returns-in-Ok-clause-extents c few computed rules last (omega (arith, long))) keeps

pub returns-in-Err-clause-lists : goal.returns-in-Err-clause-lists
returns-in-Err-clause-lists c = λ few computed rules last keeps.
    let long : length c.args.self.now.registers.items ≡ length c.args.self.now.live.func.classes = keeps.ordered.registers in
    returns-in-Err-clause-kept c few (returns-in-Err-clause-extents c few computed rules last (omega (arith, long))) keeps

pub returns-in_err-push-clause-extents : goal.returns-in_err-push-clause-extents
returns-in_err-push-clause-extents c = λ few computed rules last le.
    let old = c.args.self.now.live in
    own-extents old.target old.func old.table (length c.args.self.now.registers.items) computed rules last
