-- A register that kept lists tell as free is free for the range, and the range may be assigned to it.
use Rattle.std.proofs.Common.{◌≡◌, ◌<◌, ⊎_elim, ℕ, Bool, true, false, not, ◌&&◌, List, Option, None, Some, length, refl, sym, ap, ◌∙◌, subst, arith}
use Rattle.std.specs.Prelude.{◌≢◌, slice_get}
use Rattle.std.specs.List.{list_any}
use Rattle.std.proofs.lemmas.Bool.{cases_lt}
use Rattle.std.proofs.lemmas.Option.{slice_get_past, slice_get_within}
use Rattle.target_base.specs.declared.types.Reg.{Reg}
use Rattle.target_base.specs.declared.types.Target.{Target}
use Rattle.target_base.specs.declared.types.Unit.{Unit as UnitNumber}
use Rattle.target_base.specs.Registers.{regs_of}
use Rattle.target_base.specs.Storage.{is_unreserved}
use Rattle.meaning.specs.Live.{Among as Member}
use Rattle.mir_func.specs.Value.{Function}
use Rattle.mir_meaning.specs.Points.{RangesClash, UnitClash}
use Rattle.instr_effects.proofs.Members.{filter-of}
use Rattle.live_lanes.proofs.Cells.{both-left, both-right}
use Rattle.live_laws.proofs.Effects.Lists.{any-in}
use Rattle.live_laws.proofs.Effects.Shapes.{numbers-in}
use Rattle.lowering_laws.specs.Shapes.{IsLowered}
use Rattle.interference.specs.declared.matrix.Matrix.{Matrix}
use Rattle.interference.specs.Clashes.{is_fixed, is_free, is_in_way, ranges_of, register_in}
use Rattle.interference.specs.Listed.{KeepsLists, LiesInTurn}
use Rattle.spiller.specs.Slots.{Slots}
use Rattle.rewriter.specs.Physical.{register_of}
use Rattle.clear_laws.specs.Apart.{SuitsRange}
use Rattle.alloc_laws.specs.Clashes.Facts.{IsExact}
use Rattle.alloc_laws.proofs.Clashes.Facts.{exact-tests, unreserved-same, way-back}
use Rattle.alloc_laws.proofs.Clashes.Kept.{kept-law}
use Rattle.state_laws.specs.Clear.{FreeIsFreeFor, FreeMayBeHeld, IsOfState}

-- what stands at a number of a list
inside : (rs : List (Option Reg)) (w : ℕ) (q : Reg) → register_in rs w ≡ Some q → w < length rs
inside rs w q e = ⊎_elim (λ lt. lt) (λ le. absurd (let z : None ≡ Some q = sym (ap (λ (o : Option (Option Reg)). elim o [ None ↦ None | Some p ↦ p ]) (slice_get_past rs w le)) ∙ e in cc)) (cases_lt w (length rs))

never-both : (b : Bool) → not b ≡ true → b ≡ true → ⊥
never-both true e f = cc
never-both false e f = cc

module _ (m : Matrix) (s : Slots) (state : IsOfState m s) (keeps : KeepsLists m) where
  abbrev t : Target
  t = m.live.target

  abbrev f : Function
  f = m.live.func

  low : IsLowered t f
  low = state.state.ready.run.lowered

  kept : IsExact m × LiesInTurn m
  kept = kept-law m state.computed low.rules low.terminators keeps

  module _ (v : ℕ) (r : Reg) (suits : SuitsRange t f v r) (free : is_free m v r ≡ true) where
    unreserved : is_unreserved t.reserved t.regs r ≡ true
    unreserved = (filter-of (is_unreserved t.reserved t.regs) r (regs_of t suits.0) suits.2).1

    -- no range with a register clashes with it there,
    pub no-range : (w : ℕ) (q : Reg) → v ≢ w → register_of m.registers.items w ≡ Some q → RangesClash t f v r w q → ⊥
    no-range w q differ assigned clash =
        let way : is_in_way m v r w ≡ true = way-back m state.computed low.rules low.terminators kept.0.holds v r w differ (q, assigned, clash) in
        let lt = inside m.registers.items w q assigned in
        never-both (list_any (is_in_way m v r) (ranges_of m)) (both-right (not (is_fixed m v r)) (not (list_any (is_in_way m v r) (ranges_of m))) free)
        (any-in (is_in_way m v r) w (ranges_of m) (numbers-in w 0 (length m.registers.items) (omega arith) (omega (arith, lt))) way)

    -- and no unit does
    pub no-unit : (u : UnitNumber) → UnitClash t f v r u → ⊥
    no-unit u clash = never-both (is_fixed m v r) (both-left (not (is_fixed m v r)) (not (list_any (is_in_way m v r) (ranges_of m))) free) (unreserved-same m state.computed low.rules low.terminators v r unreserved ∙ (exact-tests m kept.0 v r).1 (u, clash))

    pub known : v < length m.registers.items
    known = subst (λ n. v < n) (sym state.registers) (slice_get_within f.classes v (Some suits.0) suits.1)

pub free_is_free_for : FreeIsFreeFor
free_is_free_for m s v r state keeps suits free = record { suits = suits; ranges = no-range m s state keeps v r suits free; units = no-unit m s state keeps v r suits free }

pub free_may_be_held : FreeMayBeHeld
free_may_be_held m s v r state keeps suits free = record { keeps = keeps; lies = (kept m s state keeps).1; known = known m s state keeps v r suits free; free = free }
