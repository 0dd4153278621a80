-- Where all ranges in the way of a range have lost their registers, nothing is in its way.
use Rattle.std.proofs.Common.{◌≡◌, ◌<◌, ◌≤◌, ◌⊎◌, inl, inr, ℕ, Bool, true, false, cond, not, ◌&&◌, List, [], ◌∷◌, Option, None, Some, length, filter, refl, sym, ap, ◌∙◌, subst, arith, eq-eqb}
use Rattle.std.specs.Prelude.{◌||◌, nat_eq, nat_le}
use Rattle.std.specs.List.{list_any}
use Rattle.std.proofs.lemmas.Bool.{cases_lt}
use Rattle.std.proofs.lemmas.Option.{slice_get_past}
use Rattle.target_base.specs.declared.types.Reg.{Reg}
use Rattle.target_base.specs.Registers.{units_of}
use Rattle.meaning.specs.Live.{Among as Member}
use Rattle.mir_meaning.specs.Registers.{has_number}
use Rattle.instr_effects.proofs.Members.{filter-in}
use Rattle.live_lanes.specs.declared.ask.extent.Extent.{Extent}
use Rattle.live_lanes.specs.declared.ask.extent.Stretch.{Stretch}
use Rattle.live_lanes.specs.declared.live.LiveFunc.{LiveFunc}
use Rattle.live_lanes.specs.Table.{Numbers}
use Rattle.live_lanes.specs.Extents.{first_rank, last_rank, is_met}
use Rattle.live_lanes.proofs.Cells.{both}
use Rattle.live_laws.proofs.Effects.Lists.{any-in}
use Rattle.live_laws.proofs.Effects.Shapes.{numbers-in}
use Rattle.interference.specs.declared.held.RangeExtent.{RangeExtent}
use Rattle.interference.specs.declared.matrix.Clash.TheVariants as clashes
use Rattle.interference.specs.declared.matrix.Matrix.{Matrix}
use Rattle.interference.specs.Changes.{own_of}
use Rattle.interference.specs.Clashes.{Points, clash_at, holds, is_fixed, is_free, is_in_way, is_taken_at, is_taken_by, points_in, range_points, ranges_of, register_in, touches}
use Rattle.interference.specs.Listed.{KeepsLists, extents_by}
use Rattle.state_laws.specs.Clear.{EvictedIsFree}

none-any : {X : Type 0} (xs : List X) → list_any (λ x. false) xs ≡ false
none-any [] = refl
none-any (x ∷ xs) = none-any xs

and-none : (a b : Bool) → b ≡ false → (a && b) ≡ false
and-none true b e = e
and-none false b e = refl

-- an extent has one of these points
abbrev meets : Numbers → Stretch → Extent → Bool
meets slots at e = nat_le (first_rank slots e) at.last && nat_le at.first (last_rank slots e)

-- a range holds one of some points by a list just where an extent of its own there does
taken-own : (slots : Numbers) (w : ℕ) (at : Stretch) (hs : List RangeExtent) → is_taken_by slots hs w at ≡ list_any (meets slots at) (own_of w hs)
taken-own slots w at [] = refl
taken-own slots w at (h ∷ hs) = go (nat_eq h.range w) (taken-own slots w at hs)
  where
    go : (u : Bool) → is_taken_by slots hs w at ≡ list_any (meets slots at) (own_of w hs) → ((u && touches slots at h) || is_taken_by slots hs w at) ≡ list_any (meets slots at) (cond u (h.extent ∷ own_of w hs) (own_of w hs))
    go true ih = ap (λ b. touches slots at h || b) ih
    go false ih = ih

-- by a register a range holds such a point, and would be in the way of another one in a register

abbrev has_at : LiveFunc → ℕ → Option Reg → Points → Bool
has_at l w q s = list_any (meets l.table.order.slots s.at) (extents_by l.target l.table w q s.unit s.block)

abbrev stands_in_way : LiveFunc → ℕ → Reg → ℕ → Option Reg → Bool
stands_in_way l v r w q = not (nat_eq w v) && list_any (has_at l w q) (range_points l.table v 0 (units_of l.target r))

module _ (m : Matrix) (keeps : KeepsLists m) where
  taken-at : (w : ℕ) (s : Points) → is_taken_at m w s ≡ has_at m.live w (register_in m.registers.items w) s
  taken-at w s = taken-own m.live.table.order.slots w s.at (holds m s.unit s.block) ∙ ap (list_any (meets m.live.table.order.slots s.at)) (keeps.listed w s.unit s.block)

  way-by : (v : ℕ) (r : Reg) (w : ℕ) → is_in_way m v r w ≡ stands_in_way m.live v r w (register_in m.registers.items w)
  way-by v r w = λ i. not (nat_eq w v) && list_any (λ s. taken-at w s i) (points_in m v r)

-- without a register it isn't in the way
no-way : (l : LiveFunc) (v : ℕ) (r : Reg) (w : ℕ) → stands_in_way l v r w None ≡ false
no-way l v r w = and-none (not (nat_eq w v)) (list_any (has_at l w None) (range_points l.table v 0 (units_of l.target r))) (none-any (range_points l.table v 0 (units_of l.target r)))

module _ (m n : Matrix) (v : ℕ) (r : Reg) (ws : List ℕ) (kept : KeepsLists m) (keeps : KeepsLists n) (live : n.live ≡ m.live) (lost : (w : ℕ) → register_in n.registers.items w ≡ cond (has_number ws w) None (register_in m.registers.items w)) (clash : clash_at m v r ≡ clashes.Ranges ws) where
  cleared : (is_fixed m v r ≡ false) × (filter (is_in_way m v r) (ranges_of m) ≡ ws)
  cleared = go (is_fixed m v r) refl clash
    where
      go : (u : Bool) → is_fixed m v r ≡ u → cond u clashes.Fixed (clashes.Ranges (filter (is_in_way m v r) (ranges_of m))) ≡ clashes.Ranges ws → (is_fixed m v r ≡ false) × (filter (is_in_way m v r) (ranges_of m) ≡ ws)
      go true e h = absurd (cc)
      go false e h = (e, cc)

  fixed-none : is_fixed n v r ≡ false
  fixed-none = ap (λ (l : LiveFunc). list_any (λ (s : Points). is_met l.table s.unit s.block s.at) (range_points l.table v 0 (units_of l.target r))) live ∙ cleared.0

  -- a range that isn't among those wasn't in the way
  outside : (w : ℕ) → has_number ws w ≡ false → is_in_way m v r w ≡ false
  outside w other = go (is_in_way m v r w) refl (cases_lt w (length m.registers.items))
    where
      go : (u : Bool) → is_in_way m v r w ≡ u → (w < length m.registers.items) ⊎ (length m.registers.items ≤ w) → is_in_way m v r w ≡ false
      go false e c = e
      go true e (inl lt) =
          let member : Member w ws = subst (Member w) cleared.1 (filter-in (is_in_way m v r) w (ranges_of m) (numbers-in w 0 (length m.registers.items) (omega arith) (omega (arith, lt))) e) in
          let among : has_number ws w ≡ true = any-in (nat_eq w) w ws member (eq-eqb w w refl) in
          absurd (let z : true ≡ false = sym among ∙ other in cc)
      go true e (inr le) =
          let none : register_in m.registers.items w ≡ None = ap (λ (q : Option (Option Reg)). elim q [ None ↦ None | Some p ↦ p ]) (slice_get_past m.registers.items w le) in
          way-by m kept v r w ∙ ap (stands_in_way m.live v r w) none ∙ no-way m.live v r w

  no-longer : (w : ℕ) → is_in_way n v r w ≡ false
  no-longer w =
      way-by n keeps v r w ∙ ap (λ l. stands_in_way l v r w (register_in n.registers.items w)) live ∙ ap (stands_in_way m.live v r w) (lost w)
      ∙ go (has_number ws w) refl
    where
      go : (u : Bool) → has_number ws w ≡ u → stands_in_way m.live v r w (cond u None (register_in m.registers.items w)) ≡ false
      go true e = no-way m.live v r w
      go false e = sym (way-by m kept v r w) ∙ outside w e

  free-then : is_free n v r ≡ true
  free-then = both (not (is_fixed n v r)) (not (list_any (is_in_way n v r) (ranges_of n))) (ap not fixed-none) (ap not ((λ i. list_any (λ w. no-longer w i) (ranges_of n)) ∙ none-any (ranges_of n)))

pub evicted_is_free : EvictedIsFree
evicted_is_free m n v r ws kept keeps live lost clash = free-then m n v r ws kept keeps live lost clash
