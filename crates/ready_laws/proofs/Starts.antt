-- What is live where a function begins, in one direction.
use Rattle.std.proofs.Common.{◌≡◌, ◌&&◌, ◌||◌, ◌∙◌, not, ℕ, Bool, true, false, List, [], Some, length, map, flat_map, refl, sym, ap, arith}
use Rattle.std.specs.Prelude.{slice_get}
use Rattle.std.specs.List.{list_all, list_any}
use Rattle.std.proofs.lemmas.Bool.{not-true}
use Rattle.target_base.specs.declared.types.Reg.{Reg}
use Rattle.target_base.specs.declared.types.Target.{Target}
use Rattle.target_base.specs.declared.types.Unit.{Unit as UnitNumber}
use Rattle.target_base.specs.Registers.{is_reserved_unit, units_of}
use Rattle.meaning.specs.Live.{Among as Member}
use Rattle.meaning.specs.declared.types.Lane.TheVariants.{UnitLane}
use Rattle.mir_func.specs.declared.func.Block.{Block}
use Rattle.mir_meaning.specs.Points.{LiveAt, Start}
use Rattle.mir_meaning.specs.Registers.{has_number, numbers}
use Rattle.mir_meaning.specs.declared.Form.TheVariants as forms
use Rattle.mir_meaning.specs.Valid.{LiveInto, V13, listed_units, listing_fits, may_list}
use Rattle.live_lanes.specs.declared.live.LiveFunc.{LiveFunc}
use Rattle.live_lanes.specs.Doing.{IsComputed}
use Rattle.live_laws.proofs.Effects.Lists.{all-of}
use Rattle.live_laws.proofs.Effects.Shapes.{numbers-in}
use Rattle.lowering_laws.specs.Shapes.{IsLowered}
use Rattle.lowering_laws.proofs.Formed.{all-by}
use Rattle.split_laws.proofs.Copies.{number-below}
use Rattle.rewriter.specs.LiveUnits.{is_live_unit}
use Rattle.rewriter.specs.Laws.{HoldsLive, itself, lane}
use Rattle.valid_laws.proofs.Liveins.{found-units-tell}
use Rattle.ready_laws.specs.Starts.{ListedHasStart, ListsStart, StartIsListed, WithinKeepsListed}

first-two : (a b c : Bool) → (a && b && c) ≡ true → (a ≡ true) × (b ≡ true)
first-two true true true e = (refl, refl)
first-two true true false e = absurd (cc)
first-two true false c e = absurd (cc)
first-two false b c e = absurd (cc)

module _ (t : Target) (b : Block) where
  -- the unit is listed if it is live
  abbrev is-listed : (ℕ → Bool) → ℕ → Bool
  is-listed test u = not (test u) || has_number (listed_units t b) u

  abbrev all-listed : (ℕ → Bool) → Bool
  all-listed test = list_all (is-listed test) (numbers 0 (length t.units))

  parts : (test : ℕ → Bool) → listing_fits t 0 b test ≡ true → (all-listed test ≡ true) × (list_any (is_reserved_unit t) (listed_units t b) ≡ false)
  parts test e =
      let z = first-two (all-listed test) (not (list_any (is_reserved_unit t) (listed_units t b))) (may_list t 0 b) e in
      (z.0, not-true (list_any (is_reserved_unit t) (listed_units t b)) z.1)

pub start-is-listed : StartIsListed
start-is-listed t f start = record {
  starts = start.starts;
  listed = λ b e u h live.
      let was = start.entry b e in
      sym (ap (λ x. not x || has_number (listed_units t b) u) ((was.1 u).1 live))
      ∙ all-of (is-listed t b was.0) u (numbers 0 (length t.units)) (numbers-in u 0 (length t.units) (omega arith) (omega arith)) (parts t b was.0 was.2).0;
  unreserved = λ b e. let was = start.entry b e in (parts t b was.0 was.2).1;
}

pub within-keeps-listed : WithinKeepsListed
within-keeps-listed t f g within l = record {
  starts = λ c e w k h. let z = within c e in let y = z.1.ranges w k h in l.starts z.0 z.1.there y.0 y.1 y.2;
  listed = λ c e u n h.
      let z = within c e in
      ap (λ (ls : List Reg). has_number (map (λ (x : UnitNumber). x.0) (flat_map (units_of t) ls)) u) z.1.liveins ∙ l.listed z.0 z.1.there u n (z.1.units u h);
  unreserved = λ c e.
      let z = within c e in
      ap (λ (ls : List Reg). list_any (is_reserved_unit t) (map (λ (x : UnitNumber). x.0) (flat_map (units_of t) ls))) z.1.liveins ∙ l.unreserved z.0 z.1.there;
}

module _ (live : LiveFunc) (computed : IsComputed live.target live.func live.table) (low : IsLowered live.target live.func) (l : ListsStart live.target live.func) (b : Block) (e : slice_get live.func.blocks 0 ≡ Some b) where
  abbrev t : Target
  t = live.target

  abbrev test : ℕ → Bool
  test = is_live_unit live [] 0

  -- no range stands in a register, so that only a unit that is live itself holds something live
  alone : (u : ℕ) → HoldsLive t live.func [] b.number u → LiveAt t live.func (Start b.number) (UnitLane u)
  alone u (itself h) = h
  alone u (lane v k r is x h) = absurd (cc)

  tests : LiveInto t live.func b.number test
  tests u =
      let z = found-units-tell live [] computed (record { rules = low.rules; last = λ c j i mc q. low.terminators c j i mc q }) (omega arith) 0 b e u in
      ((λ h. alone u (z.0 h)), (λ h. z.1 (itself h)))

  each : (u : ℕ) → Member u (numbers 0 (length t.units)) → is-listed t b test u ≡ true
  each u m = go (test u) refl
    where
      go : (x : Bool) → test u ≡ x → (not x || has_number (listed_units t b) u) ≡ true
      go true h = l.listed b e u (let n = number-below 0 (length t.units) u m in omega arith) ((tests u).0 h)
      go false h = refl

  fits : listing_fits t 0 b test ≡ true
  fits = λ k. all-by (is-listed t b test) (numbers 0 (length t.units)) each k && not (l.unreserved b e k) && may_list t 0 b

  entry : V13 t forms.Source live.func 0 b
  entry = (test, tests, fits)

pub listed-has-start : ListedHasStart
listed-has-start live computed low l = record { starts = l.starts; entry = entry live computed low l }
