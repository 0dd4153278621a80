use Rattle.std.proofs.Common.{None, Option, length, List, sym, ap, ◌∙◌, subst}
use Rattle.std.proofs.lemmas.List.{length-set}
use Rattle.target_base.specs.declared.types.Reg.{Reg}
use Rattle.interference.specs.declared.matrix.Matrix.{Matrix}
use Rattle.interference.specs.Clashes.{register_in, holds}
use Rattle.interference.specs.Listed.{KeepsLists}
use Rattle.interference.proofs.Assigned.{register-none, register-gone, taken-kept, taken-lists, without}
use Rattle.interference.proofs.matrix.Matrix.unassign.Goals as goal

pub returns-in_default-clause-registers : goal.returns-in_default-clause-registers
returns-in_default-clause-registers c = register-none c.args.self.now.registers.items c.args.v (sym c.in_default.ensures)

pub returns-in_default-clause-held : goal.returns-in_default-clause-held
returns-in_default-clause-held c = λ keeps. without c.args.self.now c.args.v keeps (sym c.in_default.ensures)

pub returns-clause-live : goal.returns-clause-live
returns-clause-live c = ap (λ (m : Matrix). m.live) c.set_register.ensures.rest

pub returns-clause-count : goal.returns-clause-count
returns-clause-count c = ap length c.set_register.ensures.registers ∙ length-set c.args.self.now.registers.items c.args.v None

pub returns-clause-registers : goal.returns-clause-registers
returns-clause-registers c = λ w. ap (λ (rs : List (Option Reg)). register_in rs w) c.set_register.ensures.registers ∙ register-gone c.args.self.now.registers.items c.args.v w

pub returns-clause-kept : goal.returns-clause-kept
returns-clause-kept c = λ keeps. subst KeepsLists (sym c.set_register.ensures.rest)
    (taken-kept c.args.self.now c.args.v keeps c.in-Some.p (sym c.in-Some.ensures) c.set_register.new.self.registers c.remove_range.new.self c.set_register.ensures.registers c.remove_range.ensures)

pub returns-clause-held : goal.returns-clause-held
returns-clause-held c = λ keeps u b. ap (λ (m : Matrix). holds m u b) c.set_register.ensures.rest
    ∙ taken-lists c.args.self.now c.args.v keeps c.in-Some.p (sym c.in-Some.ensures) c.set_register.new.self.registers c.remove_range.new.self c.set_register.ensures.registers c.remove_range.ensures u b
