-- What a matrix tells of the points at which something else than a range holds a unit.
use Rattle.std.proofs.Common.{◌≡◌, ◌<◌, ◌+◌, ◌⊎◌, ℕ, Bool, true, false, cond, not, ◌&&◌, List, Option, None, Some, map, length, inl, inr, refl, sym, ap, ◌∙◌, subst, arith, ne_eqb}
use Rattle.std.specs.Prelude.{◌≢◌, ◌||◌, Decides, nat_eq, nat_le, slice_get, option_map}
use Rattle.std.proofs.lemmas.Bool.{eqb-false, leb-true, le-leb}
use Rattle.target_base.specs.declared.types.Reg.{Reg}
use Rattle.target_base.specs.declared.types.Unit.{Unit as UnitNumber}
use Rattle.target_base.specs.declared.types.Target.{Target}
use Rattle.target_base.specs.Numbers.{unit_number}
use Rattle.target_base.specs.Registers.{units_of, is_reserved_unit}
use Rattle.meaning.specs.declared.types.Lane.TheVariants.{VirtualLane, UnitLane}
use Rattle.meaning.specs.Live.{Among as Member}
use Rattle.mir_func.specs.declared.func.Block.{Block}
use Rattle.mir_func.specs.declared.func.Instr.{Instr}
use Rattle.mir_func.specs.Value.{Function}
use Rattle.mir_meaning.specs.Points.{Point, Start, Entry, Exit, OccupiedAt, HeldIn, block_points, all_points}
use Rattle.mir_meaning.specs.Registers.{is_reserved}
use Rattle.mir_meaning.specs.Rules.{V8}
use Rattle.instr_effects.specs.declared.owner.Owner.TheVariants as owners
use Rattle.instr_effects.specs.Numbers.{unit_number_in}
use Rattle.instr_effects.specs.Numbered.{number_in}
use Rattle.instr_effects.proofs.Tables.{slice-numbers}
use Rattle.instr_effects.proofs.Members.{member-none, flat-of}
use Rattle.live_laws.specs.Effects.Coded.{KeepsRules}
use Rattle.live_laws.proofs.Effects.Blocks.{slice-member, member-slice, slice-map}
use Rattle.live_laws.proofs.Effects.Lists.{any-in}
use Rattle.live_lanes.specs.declared.ask.extent.Extent.{Extent}
use Rattle.live_lanes.specs.declared.table.Table.{Table}
use Rattle.live_lanes.specs.Table.{Numbers}
use Rattle.live_lanes.specs.Doing.{IsComputed}
use Rattle.live_lanes.specs.Extents.{first_rank, last_rank, is_met, extents_in}
use Rattle.live_lanes.proofs.Cells.{both, both-left, both-right}
use Rattle.live_lanes.proofs.Held.{or-left, or-right}
use Rattle.interference.specs.Listed.{lane_extents}
use Rattle.live_laws.proofs.Exact.Coded.{place-is}
use Rattle.live_laws.proofs.Exact.Everywhere.{numbered-at}
use Rattle.live_laws.proofs.Exact.Inside.{has-id}
use Rattle.interference.specs.declared.held.RangeExtent.{RangeExtent}
use Rattle.interference.specs.declared.matrix.Matrix.{Matrix}
use Rattle.interference.specs.Clashes.{register_in, holds, touches, is_taken, is_held}
use Rattle.alloc_laws.specs.Clashes.Holds.{IsIn, Holds}
use Rattle.alloc_laws.specs.Clashes.Facts.{IsExact}
use Rattle.split_choose.specs.Offers.{HeldByOthers, TestsPoints}
use Rattle.split_choose.specs.Seen.{home_of, rank_of, at_home, only, seen_held}
use Rattle.point_laws.specs.Covered.{rank_of as covered_rank}
use Rattle.point_laws.proofs.Pieces.{any-of}
use Rattle.point_laws.proofs.Points.{Placed, held, held-is, held-extent, extent-held, met-of, met-in, points-of}

either-of : (a b : Bool) → (a || b) ≡ true → (a ≡ true) ⊎ (b ≡ true)
either-of true b e = inl refl
either-of false b e = inr e

off : (b : Bool) → not b ≡ true → b ≡ false
off true e = absurd (cc)
off false e = refl

-- points have the same ranks in both words
pub rank-same : (slots : Numbers) (p : Point) → rank_of slots p ≡ covered_rank slots p
rank-same slots (Start n) = refl
rank-same slots (Entry id) = refl
rank-same slots (Exit id) = refl

same-unit : (a b : UnitNumber) → a.0 ≡ b.0 → a ≡ b
same-unit a b e = ap unit_number e

-- the register of a range stands among those of ranges
register-there : (rs : List (Option Reg)) (w : ℕ) (q : Reg) → register_in rs w ≡ Some q → slice_get rs w ≡ Some (Some q)
register-there rs w q e = go (slice_get rs w) e
  where
    go : (o : Option (Option Reg)) → elim o [ None ↦ None | Some r ↦ r ] ≡ Some q → o ≡ Some (Some q)
    go None g = absurd (cc)
    go (Some r) g = ap Some g

register-of : (rs : List (Option Reg)) (w : ℕ) (q : Reg) → slice_get rs w ≡ Some (Some q) → register_in rs w ≡ Some q
register-of rs w q e = ap (λ (o : Option (Option Reg)). elim o [ None ↦ None | Some r ↦ r ]) e

unit-in : (us : List UnitNumber) (k u : ℕ) → slice_get (map (λ n. n.0) us) k ≡ Some u → (n : UnitNumber) × (slice_get us k ≡ Some n) × (n.0 ≡ u)
unit-in us k u e = go (slice_get us k) refl (sym (slice-map (λ n. n.0) us k) ∙ e)
  where
    go : (o : Option UnitNumber) → slice_get us k ≡ o → option_map (λ n. n.0) o ≡ Some u → (n : UnitNumber) × (slice_get us k ≡ Some n) × (n.0 ≡ u)
    go None g h = absurd (cc)
    go (Some n) g h = (n, g, cc)

lane-numbered : (x : Table) (q : Option ℕ) (p : ℕ) (e : Extent) → Member e (lane_extents x q p) → (n : ℕ) × (q ≡ Some n) × Member e (extents_in x n p)
lane-numbered x None p e j = absurd (member-none e j)
lane-numbered x (Some n) p e j = (n, refl, j)

module _ (m : Matrix) (computed : IsComputed m.live.target m.live.func m.live.table) (rules : KeepsRules m.live.target m.live.func) (last : (b : Block) (j : ℕ) (i : Instr) → Member b m.live.func.blocks → slice_get b.instrs j ≡ Some i → V8 m.live.target b j i ≡ true) where
  abbrev t : Target
  t = m.live.target

  abbrev f : Function
  f = m.live.func

  abbrev x : Table
  x = m.live.table

  abbrev ranks : Numbers
  ranks = x.order.slots

  abbrev is-held : ℕ → ℕ → ℕ → Bool
  is-held n p at = held t f x computed rules last n p at

  -- each point of the function stands in the block in which it is looked for

  pub point-placed : (p : Point) → Member p (all_points f) → Placed f p
  point-placed p j =
      let b = flat-of block_points p f.blocks j in
      let k = member-slice b.0 f.blocks b.1 in
      record { position = k.0; block = b.0; at = k.1; member = b.2 }

  pub home-is : (p : Point) (z : Placed f p) → home_of x f.blocks p ≡ Some z.position
  home-is p z = points-of z.block (λ q. home_of x f.blocks q ≡ Some z.position) (place-is t f (number_in x.lanes) rules z.position z.block z.at) inside p z.member
    where
      inside : (i : Instr) → Member i z.block.instrs → (home_of x f.blocks (Entry i.id) ≡ Some z.position) × (home_of x f.blocks (Exit i.id) ≡ Some z.position)
      inside i j =
          let k = member-slice i z.block.instrs j in
          let home = ap Some (computed.homes z.position z.block i.id z.at (has-id z.block.instrs k.0 i k.1)) in
          (home, home)

  -- the number of a unit that isn't reserved
  number-of-unit : (u : ℕ) → u < length t.units → is_reserved_unit t u ≡ false → unit_number_in x.lanes.reserved.items u ≡ Some u
  number-of-unit u known free =
      let zero-on : 0 + u ≡ u = omega arith in
      let flag : slice_get x.lanes.reserved.items u ≡ Some (is_reserved_unit t u) = ap (λ bs. slice_get bs u) computed.numbers.reserved ∙ slice-numbers (is_reserved_unit t) 0 (length t.units) u known ∙ ap (λ n. Some (is_reserved_unit t n)) zero-on in
      ap (λ (q : Option Bool). elim q [ None ↦ None | Some b ↦ cond b None (Some u) ]) (flag ∙ ap Some free)

  module _ (holding : Holds m) (v : ℕ) (u : UnitNumber) (known : u.0 < length t.units) (free : is_reserved_unit t u.0 ≡ false) (p : Point) (z : Placed f p) where
    abbrev rank : ℕ
    rank = covered_rank ranks p

    abbrev ByOthers : Type 0
    ByOthers = HeldByOthers t f m.registers.items v (u, p)

    number : unit_number_in x.lanes.reserved.items u.0 ≡ Some u.0
    number = number-of-unit u.0 known free

    -- the unit by itself

    met-forth : is_met x u.0 z.position (only rank) ≡ true → OccupiedAt t f p (UnitLane u.0)
    met-forth h =
        let at = met-of t f x computed rules last u.0 z.position (only rank) h in
        let lies = at.1 in
        let same : at.0 ≡ rank = omega (arith, lies) in
        (held-is t f x computed rules last (UnitLane u.0) u.0 refl number z.position z.block z.at p z.member).0 (ap (is-held u.0 z.position) (sym same) ∙ at.2)

    met-back : OccupiedAt t f p (UnitLane u.0) → is_met x u.0 z.position (only rank) ≡ true
    met-back h = met-in t f x computed rules last u.0 z.position (only rank) rank (omega arith, omega arith) ((held-is t f x computed rules last (UnitLane u.0) u.0 refl number z.position z.block z.at p z.member).1 h)

    -- another range

    taken-forth : is_taken ranks (holds m u.0 z.position) v (only rank) ≡ true → (w : ℕ) × (q : Reg) × (w ≢ v) × (slice_get m.registers.items w ≡ Some (Some q)) × HeldIn t f w q p u
    taken-forth h =
        let g = any-of (λ d. not (nat_eq d.range v) && touches ranks (only rank) d) (holds m u.0 z.position) h in
        by g.1 (slice-member (holds m u.0 z.position) g.0 g.1 g.2) (off (nat_eq g.1.range v) (both-left (not (nat_eq g.1.range v)) (touches ranks (only rank) g.1) g.3)) (both-right (not (nat_eq g.1.range v)) (touches ranks (only rank) g.1) g.3)
      where
        by : (d : RangeExtent) → Member d (holds m u.0 z.position) → nat_eq d.range v ≡ false → touches ranks (only rank) d ≡ true → (w : ℕ) × (q : Reg) × (w ≢ v) × (slice_get m.registers.items w ≡ Some (Some q)) × HeldIn t f w q p u
        by d j other meets =
            let there = (holding u.0 z.position d).0 j in
            let q = there.1 in
            let lane = lane-numbered x (number_in x.lanes (owners.Range d.range there.0)) z.position d.extent there.2 in
            let unit = unit-in (units_of t q.0) there.0 u.0 q.2 in
            let low = leb-true (first_rank ranks d.extent) rank (both-left (nat_le (first_rank ranks d.extent) rank) (nat_le rank (last_rank ranks d.extent)) meets) in
            let high = leb-true rank (last_rank ranks d.extent) (both-right (nat_le (first_rank ranks d.extent) rank) (nat_le rank (last_rank ranks d.extent)) meets) in
            let on = extent-held t f x computed rules last lane.0 z.position rank d.extent lane.2 (low, high) in (
              d.range,
              q.0,
              (λ same. eqb-false d.range v other same),
              register-there m.registers.items d.range q.0 q.1,
              record {
                k = there.0;
                occupied = (held-is t f x computed rules last (VirtualLane d.range there.0) lane.0 refl lane.1 z.position z.block z.at p z.member).0 on;
                unit = unit.1 ∙ ap Some (same-unit unit.0 u unit.2);
              },
            )

    taken-back : (w : ℕ) (q : Reg) → (w ≢ v) → slice_get m.registers.items w ≡ Some (Some q) → HeldIn t f w q p u → is_taken ranks (holds m u.0 z.position) v (only rank) ≡ true
    taken-back w q other assigned g =
        let n = numbered-at t f x computed rules last (VirtualLane w g.k) refl p g.occupied in
        let on = (held-is t f x computed rules last (VirtualLane w g.k) n.0 refl n.1 z.position z.block z.at p z.member).1 g.occupied in
        let e = held-extent t f x computed rules last n.0 z.position rank on in
        let d : RangeExtent = record { range = w; extent = e.0 } in
        let there : IsIn m w g.k u.0 = (q, register-of m.registers.items w q assigned, slice-map (λ i. i.0) (units_of t q) g.k ∙ ap (option_map (λ i. i.0)) g.unit) in
        let listed : Member d (holds m u.0 z.position) = (holding u.0 z.position d).1 (g.k, there, subst (λ o. Member e.0 (lane_extents x o z.position)) (sym n.1) e.1) in
        let meets : touches ranks (only rank) d ≡ true = both (nat_le (first_rank ranks e.0) rank) (nat_le rank (last_rank ranks e.0)) (le-leb (first_rank ranks e.0) rank e.2.0) (le-leb rank (last_rank ranks e.0) e.2.1) in
        any-in (λ c. not (nat_eq c.range v) && touches ranks (only rank) c) d (holds m u.0 z.position) listed (both (not (nat_eq w v)) (touches ranks (only rank) d) (ap not (ne_eqb w v other)) meets)

    -- together

    forth : is_held m u.0 v z.position (only rank) ≡ true → ByOthers
    forth h = go (either-of (is_met x u.0 z.position (only rank)) (is_taken ranks (holds m u.0 z.position) v (only rank)) h)
      where
        go : (is_met x u.0 z.position (only rank) ≡ true) ⊎ (is_taken ranks (holds m u.0 z.position) v (only rank) ≡ true) → ByOthers
        go (inl g) = inl (met-forth g)
        go (inr g) = inr (taken-forth g)

    back : ByOthers → is_held m u.0 v z.position (only rank) ≡ true
    back (inl h) = or-left (is_met x u.0 z.position (only rank)) (is_taken ranks (holds m u.0 z.position) v (only rank)) (met-back h)
    back (inr (w, q, other, assigned, h)) = or-right (is_met x u.0 z.position (only rank)) (is_taken ranks (holds m u.0 z.position) v (only rank)) (taken-back w q other assigned h)

    seen-is : seen_held m v (u, p) ≡ is_held m u.0 v z.position (only rank)
    seen-is = ap (λ q. at_home (λ b. is_held m u.0 v b (only (rank_of ranks p))) q) (home-is p z) ∙ ap (λ r. is_held m u.0 v z.position (only r)) (rank-same ranks p)

    shown : Decides (seen_held m v (u, p)) ByOthers
    shown = ((λ h. forth (sym seen-is ∙ h)), (λ h. seen-is ∙ back h))

-- An exact matrix tells of each unit of the target that isn't reserved where something else than the range holds it: it is live or occupied
-- by itself there, or a stretch of another range that is listed for it covers the point.
pub held-shown :
    (m : Matrix) → IsExact m → (v : ℕ) (u : UnitNumber) → u.0 < length m.live.target.units → is_reserved m.live.target (UnitLane u.0) ≡ false
    → TestsPoints m.live.func (λ p. HeldByOthers m.live.target m.live.func m.registers.items v (u, p)) (λ p. seen_held m v (u, p))
held-shown m exact v u known free p j = shown m exact.computed exact.rules exact.last exact.holds v u known free p (point-placed m exact.computed exact.rules exact.last p j)
