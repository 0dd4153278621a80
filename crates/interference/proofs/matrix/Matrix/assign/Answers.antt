use Rattle.std.proofs.Common.{◌≡◌, ◌<◌, ℕ, Bool, None, Some, Option, cond, length, List, refl, sym, ap, ◌∙◌, subst, arith, eq-eqb}
use Rattle.std.specs.Prelude.{nat_eq}
use Rattle.std.proofs.lemmas.List.{length-set}
use Rattle.target_base.specs.declared.types.Reg.{Reg}
use Rattle.target_base.specs.Registers.{units_of}
use Rattle.interference.specs.declared.matrix.Matrix.{Matrix}
use Rattle.interference.specs.Clashes.{register_in, holds}
use Rattle.interference.specs.Changes.{others_of}
use Rattle.interference.specs.Listed.{KeepsLists, RangeHasRoom}
use Rattle.interference.proofs.Owned.{others-twice}
use Rattle.interference.proofs.Assigned.{register-set, cond-twice, room-for, given-kept, refused-kept, same-lists}
use Rattle.interference.proofs.matrix.Matrix.assign.Goals as goal

pub returns-in-Ok-clause-live : goal.returns-in-Ok-clause-live
returns-in-Ok-clause-live c = ap (λ (m : Matrix). m.live) c.set_register.ensures.rest ∙ c.unassign.ensures.live

pub returns-in-Ok-clause-count : goal.returns-in-Ok-clause-count
returns-in-Ok-clause-count c = ap length c.set_register.ensures.registers ∙ length-set c.unassign.new.self.registers.items c.args.v (Some c.args.p) ∙ c.unassign.ensures.count

pub returns-in-Ok-clause-given : goal.returns-in-Ok-clause-given
returns-in-Ok-clause-given c = λ known w.
    let m = c.args.self.now in
    let n = c.unassign.new.self in
    let v = c.args.v in
    let same = c.unassign.ensures.count in
    let lt : v < length n.registers.items = omega arith in
    ap (λ (rs : List (Option Reg)). register_in rs w) c.set_register.ensures.registers ∙ register-set n.registers.items v (Some c.args.p) lt w
    ∙ ap (cond (nat_eq v w) (Some c.args.p)) (c.unassign.ensures.registers w) ∙ cond-twice (nat_eq v w) (Some c.args.p) (register_in m.registers.items w)

pub returns-in-Ok-clause-kept : goal.returns-in-Ok-clause-kept
returns-in-Ok-clause-kept c = λ may.
    let m = c.args.self.now in
    let n = c.unassign.new.self in
    let v = c.args.v in
    let keeps : KeepsLists n = c.unassign.ensures.kept may.keeps in
    let held : (u b : ℕ) → holds n u b ≡ others_of v (holds m u b) = c.unassign.ensures.held may.keeps in
    let none : register_in n.registers.items v ≡ None = c.unassign.ensures.registers v ∙ ap (λ (t : Bool). cond t None (register_in m.registers.items v)) (eq-eqb v v refl) in
    let room : RangeHasRoom n.live.table v (units_of n.live.target c.args.p) n.held = room-for m n v c.args.p may c.unassign.ensures.live keeps none held in
    let known = may.known in
    let same = c.unassign.ensures.count in
    let lt : v < length n.registers.items = omega arith in
    subst KeepsLists (sym c.set_register.ensures.rest) (given-kept n v keeps c.args.p c.set_register.new.self.registers c.add_range.new.self lt c.set_register.ensures.registers (c.in-Ok.ensures.ok room))

pub returns-in-Ok-clause-others : goal.returns-in-Ok-clause-others
returns-in-Ok-clause-others c = λ may u b.
    let m = c.args.self.now in
    let n = c.unassign.new.self in
    let v = c.args.v in
    let keeps : KeepsLists n = c.unassign.ensures.kept may.keeps in
    let held : (u b : ℕ) → holds n u b ≡ others_of v (holds m u b) = c.unassign.ensures.held may.keeps in
    let none : register_in n.registers.items v ≡ None = c.unassign.ensures.registers v ∙ ap (λ (t : Bool). cond t None (register_in m.registers.items v)) (eq-eqb v v refl) in
    let room : RangeHasRoom n.live.table v (units_of n.live.target c.args.p) n.held = room-for m n v c.args.p may c.unassign.ensures.live keeps none held in
    let fills = c.in-Ok.ensures.ok room in
    ap (λ (x : Matrix). others_of v (holds x u b)) c.set_register.ensures.rest ∙ fills.others.others u b ∙ ap (others_of v) (held u b) ∙ others-twice v (holds m u b)

pub returns-in-Err-clause-kept : goal.returns-in-Err-clause-kept
returns-in-Err-clause-kept c = λ may.
    let m = c.args.self.now in
    let n = c.unassign.new.self in
    let v = c.args.v in
    let keeps : KeepsLists n = c.unassign.ensures.kept may.keeps in
    let held : (u b : ℕ) → holds n u b ≡ others_of v (holds m u b) = c.unassign.ensures.held may.keeps in
    let none : register_in n.registers.items v ≡ None = c.unassign.ensures.registers v ∙ ap (λ (t : Bool). cond t None (register_in m.registers.items v)) (eq-eqb v v refl) in
    let room : RangeHasRoom n.live.table v (units_of n.live.target c.args.p) n.held = room-for m n v c.args.p may c.unassign.ensures.live keeps none held in
    refused-kept n v keeps none c.args.p c.add_range.new.self c.remove_range.new.self (c.in-Err.ensures.err room) c.remove_range.ensures

pub returns-in-Err-clause-others : goal.returns-in-Err-clause-others
returns-in-Err-clause-others c = λ may u b.
    let m = c.args.self.now in
    let n = c.unassign.new.self in
    let v = c.args.v in
    let keeps : KeepsLists n = c.unassign.ensures.kept may.keeps in
    let held : (u b : ℕ) → holds n u b ≡ others_of v (holds m u b) = c.unassign.ensures.held may.keeps in
    let none : register_in n.registers.items v ≡ None = c.unassign.ensures.registers v ∙ ap (λ (t : Bool). cond t None (register_in m.registers.items v)) (eq-eqb v v refl) in
    let room : RangeHasRoom n.live.table v (units_of n.live.target c.args.p) n.held = room-for m n v c.args.p may c.unassign.ensures.live keeps none held in
    ap (others_of v) (same-lists n v keeps none c.args.p c.add_range.new.self c.remove_range.new.self (c.in-Err.ensures.err room) c.remove_range.ensures u b) ∙ ap (others_of v) (held u b) ∙ others-twice v (holds m u b)
