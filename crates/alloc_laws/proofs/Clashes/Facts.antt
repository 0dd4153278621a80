-- What a matrix tells of clashes.
use Rattle.std.proofs.Common.{◌≡◌, ◌≤◌, ◌<◌, ◌+◌, ◌⊎◌, ℕ, zero, suc, Bool, true, false, cond, not, ◌&&◌, List, [], ◌∷◌, Option, None, Some, map, length, inl, inr, refl, sym, ap, ◌∙◌, subst, arith, eqb-true, eq-eqb, ne_eqb}
use Rattle.std.specs.Prelude.{◌≢◌, ◌||◌, Decides, is_some, nat_eq, nat_le, nat_lt, slice_get, flat_map, option_map}
use Rattle.std.specs.List.{list_any}
use Rattle.std.proofs.lemmas.Bool.{leb-true, leb-false, le-leb, ltb-true}
use Rattle.std.proofs.lemmas.List.{length-map}
use Rattle.mir_meaning.specs.Registers.{numbers}
use Rattle.target_base.specs.Registers.{is_reserved_unit, units_of}
use Rattle.std.proofs.lemmas.Option.{slice_get_within, get_or_from_slice_get}
use Rattle.target_base.specs.declared.types.Reg.{Reg}
use Rattle.target_base.specs.declared.types.RegDesc.{RegDesc}
use Rattle.target_base.specs.declared.types.Unit.{Unit as UnitNumber}
use Rattle.target_base.specs.declared.types.Target.{Target}
use Rattle.target_base.specs.Numbers.{unit_number}
use Rattle.target_base.specs.Storage.{units_in, is_among, is_unreserved}
use Rattle.target_base.specs.Rules.{is_reg_desc}
use Rattle.target_base.proofs.Tests.{first_of_both, second_of_both, each_passes}
use Rattle.target_base.proofs.Sound.{regs_sound}
use Rattle.meaning.specs.declared.types.Lane.TheVariants.{VirtualLane, UnitLane}
use Rattle.meaning.specs.Live.{Among as Member, here as first, there as later}
use Rattle.mir_func.specs.declared.func.Block.{Block}
use Rattle.mir_func.specs.declared.func.Instr.{Instr}
use Rattle.mir_func.specs.Value.{Function}
use Rattle.mir_meaning.specs.Points.{Point, OccupiedAt, block_points, RangesClash, Tests, PointCount}
use Rattle.mir_meaning.specs.Rules.{V8}
use Rattle.instr_effects.specs.declared.owner.Owner.{Owner}
use Rattle.instr_effects.specs.declared.owner.Owner.TheVariants as owners
use Rattle.instr_effects.specs.Numbers.{unit_number_in}
use Rattle.instr_effects.specs.Numbered.{number_in, reserved_units}
use Rattle.instr_effects.proofs.Tables.{slice-numbers}
use Rattle.instr_effects.proofs.Members.{member-none, in-either, left-in, right-in, flat-of, flat-in, map-of, map-in}
use Rattle.live_laws.specs.Effects.Coded.{KeepsRules}
use Rattle.live_laws.proofs.Effects.Blocks.{slice-member, slice-map}
use Rattle.live_laws.proofs.Effects.Lists.{any-in, all-of}
use Rattle.live_lanes.specs.declared.ask.extent.Extent.{Extent}
use Rattle.live_lanes.specs.declared.ask.extent.Stretch.{Stretch}
use Rattle.live_lanes.specs.declared.row.Cell.{Cell}
use Rattle.live_lanes.specs.declared.table.Table.{Table}
use Rattle.live_lanes.specs.Table.{Numbers, find_cell}
use Rattle.live_lanes.specs.Doing.{IsComputed}
use Rattle.live_lanes.specs.Entered.{cells_of}
use Rattle.live_lanes.specs.Extents.{cell_extents, first_rank, last_rank, stretch_of, is_met, some_extents, extents_in}
use Rattle.live_lanes.specs.Held.{range_held}
use Rattle.live_lanes.proofs.Cells.{both, both-left, both-right, found-block}
use Rattle.interference.specs.Listed.{lane_extents}
use Rattle.live_laws.proofs.Exact.Everywhere.{numbered-at}
use Rattle.live_laws.proofs.Exact.Pointed.{points-law}
use Rattle.interference.specs.declared.held.RangeExtent.{RangeExtent}
use Rattle.interference.specs.declared.matrix.Matrix.{Matrix}
use Rattle.interference.specs.Clashes.{Points, register_in, holds, touches, is_taken_by, cell_points, lane_points, range_points, points_in, is_fixed_at, is_taken_at, is_fixed, is_in_way}
use Rattle.evictor.specs.Cheapest.{UnitInTheWay, InTheWay, Facts, AreFacts}
use Rattle.evictor.specs.Hints.{assignment_of}
use Rattle.point_laws.specs.Covered.{rank_of, LiesIn}
use Rattle.alloc_laws.specs.Clashes.Holds.{IsIn, IsHolding, Holds}
use Rattle.alloc_laws.specs.Clashes.Facts.{IsExact, ClashesLaw, FactsLaw}
use Rattle.alloc_laws.proofs.Clashes.Free.{no-pieces}
use Rattle.point_laws.proofs.Pieces.{any-of}
use Rattle.point_laws.proofs.Cells.{cell-found, found-member}
use Rattle.point_laws.proofs.Covered.{piece-there}
use Rattle.point_laws.proofs.Points.{Placed, held, held-is, placed, held-extent, common, met-of, met-in, covers-all}

-- the extents of a lane, over its cells

module _ (x : Table) where
  abbrev slots : Numbers
  slots = x.order.slots

  abbrev lane_at : ℕ → List Cell
  lane_at n = cells_of x.rows.rows.items n

  abbrev point_of : ℕ → ℕ → Extent → Points
  point_of u p e = record { unit = u; block = p; at = stretch_of slots e }

  -- what a lane would take of a unit are its extents
  lane-of : (u n : ℕ) (s : Points) → Member s (flat_map (cell_points slots u) (lane_at n)) → (p : ℕ) × (e : Extent) × Member e (extents_in x n p) × (s ≡ point_of u p e)
  lane-of u n s m =
      let c = flat-of (cell_points slots u) s (lane_at n) m in
      let e = map-of (point_of u c.0.block) s (cell_extents c.0) c.2 in
      (c.0.block, e.0, subst (λ o. Member e.0 (some_extents o)) (sym (cell-found x.rows.rows.items n c.0 c.1)) e.1, e.2)

  lane-in : (u n p : ℕ) (e : Extent) → Member e (extents_in x n p) → Member (point_of u p e) (flat_map (cell_points slots u) (lane_at n))
  lane-in u n p e m = go (find_cell p (lane_at n)) refl m
    where
      go : (o : Option Cell) → find_cell p (lane_at n) ≡ o → Member e (some_extents o) → Member (point_of u p e) (flat_map (cell_points slots u) (lane_at n))
      go None f j = absurd (member-none e j)
      go (Some c) f j =
          let here : c.block ≡ p = found-block p (lane_at n) c f in
          flat-in (cell_points slots u) (point_of u p e) c (lane_at n) (found-member p (lane_at n) c f) (subst (λ q. Member (point_of u q e) (cell_points slots u c)) here (map-in (point_of u c.block) e (cell_extents c) j))

  -- a lane of a range, its unit, and an extent of it
  pub record Taken (v j : ℕ) (us : List UnitNumber) (s : Points) : Type 0 where
    pub k : ℕ
    pub unit : UnitNumber
    pub at : slice_get us k ≡ Some unit
    pub number : ℕ
    pub numbered : number_in x.lanes (owners.Range v (j + k)) ≡ Some number
    pub position : ℕ
    pub extent : Extent
    pub member : Member extent (extents_in x number position)
    pub same : s ≡ point_of unit.0 position extent

  range-of : (v j : ℕ) (us : List UnitNumber) (s : Points) → Member s (range_points x v j us) → Taken v j us s
  range-of v j [] s m = absurd (member-none s m)
  range-of v j (u ∷ us) s m = go (number_in x.lanes (owners.Range v j)) refl (in-either s (lane_points x u.0 (number_in x.lanes (owners.Range v j))) (range_points x v (suc j) us) m) (range-of v (suc j) us s)
    where
      more : Taken v (suc j) us s → Taken v j (u ∷ us) s
      more z = let e : suc j + z.k ≡ j + suc z.k = omega arith in record { k = suc z.k; unit = z.unit; at = z.at; number = z.number; numbered = ap (λ n. number_in x.lanes (owners.Range v n)) (sym e) ∙ z.numbered; position = z.position; extent = z.extent; member = z.member; same = z.same }

      here : (q : Option ℕ) → number_in x.lanes (owners.Range v j) ≡ q → Member s (lane_points x u.0 q) → Taken v j (u ∷ us) s
      here None e k = absurd (member-none s k)
      here (Some n) e k = let z = lane-of u.0 n s k in let zero-on : j + 0 ≡ j = omega arith in record { k = 0; unit = u; at = refl; number = n; numbered = ap (λ i. number_in x.lanes (owners.Range v i)) zero-on ∙ e; position = z.0; extent = z.1; member = z.2; same = z.3 }

      go : (q : Option ℕ) → number_in x.lanes (owners.Range v j) ≡ q → Member s (lane_points x u.0 (number_in x.lanes (owners.Range v j))) ⊎ Member s (range_points x v (suc j) us) → (Member s (range_points x v (suc j) us) → Taken v (suc j) us s) → Taken v j (u ∷ us) s
      go q e (inl k) ih = here q e (subst (λ o. Member s (lane_points x u.0 o)) e k)
      go q e (inr k) ih = more (ih k)

  range-in : (v j : ℕ) (us : List UnitNumber) (k : ℕ) (u : UnitNumber) (n p : ℕ) (e : Extent) → slice_get us k ≡ Some u → number_in x.lanes (owners.Range v (j + k)) ≡ Some n → Member e (extents_in x n p) → Member (point_of u.0 p e) (range_points x v j us)
  range-in v j [] k u n p e a b m = absurd (cc)
  range-in v j (w ∷ us) zero u n p e a b m =
      let same : w ≡ u = cc in
      let zero-on : j + 0 ≡ j = omega arith in
      let known : number_in x.lanes (owners.Range v j) ≡ Some n = ap (λ i. number_in x.lanes (owners.Range v i)) (sym zero-on) ∙ b in
      left-in (point_of u.0 p e) (lane_points x w.0 (number_in x.lanes (owners.Range v j))) (range_points x v (suc j) us)
      (subst (λ z. Member (point_of u.0 p e) (lane_points x z.0 (number_in x.lanes (owners.Range v j)))) (sym same) (subst (λ o. Member (point_of u.0 p e) (lane_points x u.0 o)) (sym known) (lane-in u.0 n p e m)))
  range-in v j (w ∷ us) (suc k) u n p e a b m =
      let on : j + suc k ≡ suc j + k = omega arith in
      right-in (point_of u.0 p e) (lane_points x w.0 (number_in x.lanes (owners.Range v j))) (range_points x v (suc j) us) (range-in v (suc j) us k u n p e a (ap (λ i. number_in x.lanes (owners.Range v i)) (sym on) ∙ b) m)

reserved-long : (t : Target) → length (reserved_units t) ≡ length t.units
reserved-long t = length-map (numbers 0 (length t.units)) (is_reserved_unit t) ∙ long 0 (length t.units)
  where
    long : (a n : ℕ) → length (numbers a n) ≡ n
    long a zero = refl
    long a (suc n) = ap suc (long (suc a) n)

any-agree : {X : Type 0} (p q : X → Bool) (xs : List X) → ((y : X) → Member y xs → p y ≡ q y) → list_any p xs ≡ list_any q xs
any-agree p q [] h = refl
any-agree p q (y ∷ xs) h = ap (λ b. b || list_any p xs) (h y first) ∙ ap (λ b. q y || b) (any-agree p q xs (λ z j. h z (later j)))

-- the units of a register are units of the target
unit-known : (t : Target) (o : Option RegDesc) (k : ℕ) → slice_get t.regs k ≡ o → (u : UnitNumber) → Member u (units_in o) → u.0 < length t.units
unit-known t None k e u m = absurd (member-none u m)
unit-known t (Some d) k e u m =
    let all = second_of_both _ _ (first_of_both _ _ (regs_sound t.name t.version t.units t.regs t.reserved t.indexes t.classes t.masks t.opcodes t.sound)) in
    let p = each_passes (is_reg_desc t.version t.units) t.regs k d (slice_get_within t.regs k d e) all in
    let r = rw (get_or_from_slice_get t.regs k d d e) at p in
    ltb-true _ _ (all-of (λ v. nat_lt v.0 (length t.units)) u d.units m (second_of_both _ _ (first_of_both _ _ (first_of_both _ _ r))))

module _ (m : Matrix) (computed : IsComputed m.live.target m.live.func m.live.table) (rules : KeepsRules m.live.target m.live.func) (last : (b : Block) (j : ℕ) (i : Instr) → Member b m.live.func.blocks → slice_get b.instrs j ≡ Some i → V8 m.live.target b j i ≡ true) where
  abbrev t : Target
  t = m.live.target

  abbrev f : Function
  f = m.live.func

  abbrev x : Table
  x = m.live.table

  abbrev ranks : Numbers
  ranks = x.order.slots

  abbrev is-held : ℕ → ℕ → ℕ → Bool
  is-held n p at = held t f x computed rules last n p at

  spot-in : (v k : ℕ) (p : Point) (z : Placed f p) → OccupiedAt t f p (VirtualLane v k) → (n : ℕ) × (number_in x.lanes (owners.Range v k) ≡ Some n) × (is-held n z.position (rank_of ranks p) ≡ true)
  spot-in v k p z h =
      let n = numbered-at t f x computed rules last (VirtualLane v k) refl p h in
      (n.0, n.1, (held-is t f x computed rules last (VirtualLane v k) n.0 refl n.1 z.position z.block z.at p z.member).1 h)

  occupied-there : (v k n p : ℕ) (b : Block) (q : Point) → number_in x.lanes (owners.Range v k) ≡ Some n → slice_get f.blocks p ≡ Some b → Member q (block_points b) → is-held n p (rank_of ranks q) ≡ true → OccupiedAt t f q (VirtualLane v k)
  occupied-there v k n p b q numbered at member h = (held-is t f x computed rules last (VirtualLane v k) n refl numbered p b at q member).0 h

  points-of : (v : ℕ) (r : Reg) (s : Points) → Member s (points_in m v r) → Taken x v 0 (units_of t r) s
  points-of v r s j = range-of x v 0 (units_of t r) s j

  numbered-by : (v k : ℕ) (q : Option ℕ) → number_in x.lanes (owners.Range v (0 + k)) ≡ q → number_in x.lanes (owners.Range v k) ≡ q
  numbered-by v k q e = let same : 0 + k ≡ k = omega arith in ap (λ i. number_in x.lanes (owners.Range v i)) (sym same) ∙ e

  numbered-as : (v k : ℕ) (q : Option ℕ) → number_in x.lanes (owners.Range v k) ≡ q → number_in x.lanes (owners.Range v (0 + k)) ≡ q
  numbered-as v k q e = let same : 0 + k ≡ k = omega arith in ap (λ i. number_in x.lanes (owners.Range v i)) same ∙ e

  -- a point at which a range would hold a unit lies in one of the stretches that it would take
  record Stretched (v : ℕ) (r : Reg) (u : UnitNumber) (position at : ℕ) : Type 0 where
    extent : Extent
    number : ℕ
    listed : Member extent (extents_in x number position)
    points : Member (point_of x u.0 position extent) (points_in m v r)
    lies : LiesIn (stretch_of ranks extent) at

  stretched : (v : ℕ) (r : Reg) (u : UnitNumber) (k : ℕ) (p : Point) (z : Placed f p) → OccupiedAt t f p (VirtualLane v k) → slice_get (units_of t r) k ≡ Some u → Stretched v r u z.position (rank_of ranks p)
  stretched v r u k p z h unit =
      let n = spot-in v k p z h in
      let e = held-extent t f x computed rules last n.0 z.position (rank_of ranks p) n.2 in
      record {
        extent = e.0;
        number = n.0;
        listed = e.1;
        points = range-in x v 0 (units_of t r) k u n.0 z.position e.0 unit (numbered-as v k (Some n.0) n.1) e.1;
        lies = e.2;
      }

  -- units

  -- the unit isn't reserved
  abbrev is_numbered : ℕ → Bool
  is_numbered u = is_some (unit_number_in x.lanes.reserved.items u)

  -- an unreserved unit of the range's is live or occupied at some of the points that the range would take of it
  abbrev is_exact_at : Points → Bool
  is_exact_at s = is_numbered s.unit && is_fixed_at m s

  abbrev pub is_exact : ℕ → Reg → Bool
  is_exact v r = list_any is_exact_at (points_in m v r)

  unit-same : (u n : ℕ) → unit_number_in x.lanes.reserved.items u ≡ Some n → n ≡ u
  unit-same u n e = go (slice_get x.lanes.reserved.items u) e
    where
      go : (o : Option Bool) → elim o [ None ↦ None | Some b ↦ cond b None (Some u) ] ≡ Some n → n ≡ u
      go None g = absurd (cc)
      go (Some true) g = absurd (cc)
      go (Some false) g = cc

  number-there : (u : ℕ) → is_numbered u ≡ true → unit_number_in x.lanes.reserved.items u ≡ Some u
  number-there u h = go (unit_number_in x.lanes.reserved.items u) refl h
    where
      go : (o : Option ℕ) → unit_number_in x.lanes.reserved.items u ≡ o → is_some o ≡ true → unit_number_in x.lanes.reserved.items u ≡ Some u
      go None e g = absurd (cc)
      go (Some n) e g = e ∙ ap Some (unit-same u n e)

  exact-forth : (v : ℕ) (r : Reg) → is_exact v r ≡ true → UnitInTheWay t f v r
  exact-forth v r h =
      let y = any-of is_exact_at (points_in m v r) h in
      let z = points-of v r y.1 (slice-member (points_in m v r) y.0 y.1 y.2) in
      let told : (is_numbered z.unit.0 && is_met x z.unit.0 z.position (stretch_of ranks z.extent)) ≡ true = ap is_exact_at (sym z.same) ∙ y.3 in
      let number = number-there z.unit.0 (both-left (is_numbered z.unit.0) (is_met x z.unit.0 z.position (stretch_of ranks z.extent)) told) in
      let at = met-of t f x computed rules last z.unit.0 z.position (stretch_of ranks z.extent) (both-right (is_numbered z.unit.0) (is_met x z.unit.0 z.position (stretch_of ranks z.extent)) told) in
      let e = held-extent t f x computed rules last z.unit.0 z.position at.0 at.2 in
      let w = common t f x computed rules last z.number z.unit.0 z.position at.0 z.extent e.0 z.member e.1 at.1 e.2 in (
        z.unit,
        (
          w.point,
          record { k = z.k; occupied = occupied-there v z.k z.number z.position w.block w.point (numbered-by v z.k (Some z.number) z.numbered) w.at w.member w.one; unit = z.at },
          (held-is t f x computed rules last (UnitLane z.unit.0) z.unit.0 refl number z.position w.block w.at w.point w.member).0 w.other,
        ),
      )

  exact-back : (v : ℕ) (r : Reg) → UnitInTheWay t f v r → is_exact v r ≡ true
  exact-back v r (u, (p, h, occupied)) =
      let z : Placed f p = placed t f x computed rules last (UnitLane u.0) p occupied in
      let s = stretched v r u h.k p z h.occupied h.unit in
      let n = numbered-at t f x computed rules last (UnitLane u.0) refl p occupied in
      let same = unit-same u.0 n.0 n.1 in
      let there = (held-is t f x computed rules last (UnitLane u.0) n.0 refl n.1 z.position z.block z.at p z.member).1 occupied in
      let met = met-in t f x computed rules last u.0 z.position (stretch_of ranks s.extent) (rank_of ranks p) s.lies (subst (λ k. is-held k z.position (rank_of ranks p) ≡ true) same there) in
      any-in is_exact_at (point_of x u.0 z.position s.extent) (points_in m v r) s.points (both (is_numbered u.0) (is_met x u.0 z.position (stretch_of ranks s.extent)) (ap is_some n.1) met)

  -- the look-ups test the same, where each unit that they come to is unreserved or else nowhere live or occupied
  exact-same : (v : ℕ) (r : Reg) → ((u : UnitNumber) (p : ℕ) (s : Stretch) → Member u (units_of t r) → is_met x u.0 p s ≡ true → is_numbered u.0 ≡ true) → is_fixed m v r ≡ is_exact v r
  exact-same v r h = any-agree (is_fixed_at m) is_exact_at (points_in m v r) agree
    where
      both-same : (a b : Bool) → (b ≡ true → a ≡ true) → b ≡ (a && b)
      both-same true b g = refl
      both-same false true g = sym (g refl)
      both-same false false g = refl

      agree : (s : Points) → Member s (points_in m v r) → is_fixed_at m s ≡ is_exact_at s
      agree s j =
          let z = points-of v r s j in
          subst (λ q. is_fixed_at m q ≡ is_exact_at q) (sym z.same) (both-same (is_numbered z.unit.0) (is_met x z.unit.0 z.position (stretch_of ranks z.extent)) (λ g. h z.unit z.position (stretch_of ranks z.extent) (slice-member (units_of t r) z.k z.unit z.at) g))

  -- the number of an unreserved unit
  flag-at : (u : ℕ) → u < length t.units → slice_get x.lanes.reserved.items u ≡ Some (is_reserved_unit t u)
  flag-at u h = let zero-on : 0 + u ≡ u = omega arith in ap (λ bs. slice_get bs u) computed.numbers.reserved ∙ slice-numbers (is_reserved_unit t) 0 (length t.units) u h ∙ ap (λ n. Some (is_reserved_unit t n)) zero-on

  pub unreserved-same : (v : ℕ) (r : Reg) → is_unreserved t.reserved t.regs r ≡ true → is_fixed m v r ≡ is_exact v r
  unreserved-same v r h = exact-same v r numbered
    where
      off : (b : Bool) → not b ≡ true → b ≡ false
      off true e = absurd (cc)
      off false e = refl

      numbered : (u : UnitNumber) (p : ℕ) (s : Stretch) → Member u (units_of t r) → is_met x u.0 p s ≡ true → is_numbered u.0 ≡ true
      numbered u p s j met =
          let free : is_reserved_unit t u.0 ≡ false = off (is_reserved_unit t u.0) (all-of (λ w. not (is_among t.reserved w)) u (units_of t r) j h) in
          let known = unit-known t (slice_get t.regs r.0) r.0 refl u j in
          let number : unit_number_in x.lanes.reserved.items u.0 ≡ Some u.0 = ap (λ (q : Option Bool). elim q [ None ↦ None | Some b ↦ cond b None (Some u.0) ]) (flag-at u.0 known ∙ ap Some free) in
          ap is_some number

  module _ (first-units : (u : ℕ) → u < length x.lanes.reserved.items → slice_get x.lanes.owners.items u ≡ Some (owners.Unit u)) where
    few : (u : ℕ) → u < length t.units → u < length x.lanes.reserved.items
    few u h = let e = ap (λ bs. length bs) computed.numbers.reserved in let long = reserved-long t in omega (arith, h, e, long)

    -- only a unit has its number
    owner-of-unit : (u : ℕ) → u < length t.units → (o : Owner) → number_in x.lanes o ≡ Some u → o ≡ owners.Unit u
    owner-of-unit u h o e = let a = computed.numbers.table.owned o u e in let b = first-units u (few u h) in let c : Some o ≡ Some (owners.Unit u) = sym a ∙ b in cc

    -- a lane with points that has a unit's number is that unit, and this isn't reserved
    unit-numbered : (u p : ℕ) (at : ℕ) → u < length t.units → is-held u p at ≡ true → is_numbered u ≡ true
    unit-numbered u p at h g = go (unit_number_in x.lanes.reserved.items u) refl
      where
        none : unit_number_in x.lanes.reserved.items u ≡ None → ⊥
        none e =
            let z = held-extent t f x computed rules last u p at g in
            no-pieces t f x computed rules last u (λ o. let same = owner-of-unit u h o.0 o.1 in let k : number_in x.lanes (owners.Unit u) ≡ Some u = ap (number_in x.lanes) (sym same) ∙ o.1 in let n : None ≡ Some u = sym e ∙ k in cc) p z.0 (piece-there t f x computed rules last u p z.0 z.1)

        go : (o : Option ℕ) → unit_number_in x.lanes.reserved.items u ≡ o → is_some o ≡ true
        go (Some n) e = refl
        go None e = absurd (none e)

    pub first-same : (v : ℕ) (r : Reg) → is_fixed m v r ≡ is_exact v r
    first-same v r = exact-same v r (λ u p s j met. let at = met-of t f x computed rules last u.0 p s met in unit-numbered u.0 p at.0 (unit-known t (slice_get t.regs r.0) r.0 refl u j) at.2)

  -- ranges

  abbrev pub InWay : ℕ → Reg → ℕ → Type 0
  InWay v r w = (q : Reg) × (register_in m.registers.items w ≡ Some q) × RangesClash t f v r w q

  lane-numbered : (q : Option ℕ) (p : ℕ) (e : Extent) → Member e (lane_extents x q p) → (n : ℕ) × (q ≡ Some n) × Member e (extents_in x n p)
  lane-numbered None p e j = absurd (member-none e j)
  lane-numbered (Some n) p e j = (n, refl, j)

  unit-in : (q : Reg) (k u : ℕ) → slice_get (map (λ n. n.0) (units_of t q)) k ≡ Some u → (n : UnitNumber) × (slice_get (units_of t q) k ≡ Some n) × (n.0 ≡ u)
  unit-in q k u e = go (slice_get (units_of t q) k) refl (sym (slice-map (λ n. n.0) (units_of t q) k) ∙ e)
    where
      go : (o : Option UnitNumber) → slice_get (units_of t q) k ≡ o → option_map (λ n. n.0) o ≡ Some u → (n : UnitNumber) × (slice_get (units_of t q) k ≡ Some n) × (n.0 ≡ u)
      go None g h = absurd (cc)
      go (Some n) g h = (n, g, cc)

  same-unit : (a b : UnitNumber) → a.0 ≡ b.0 → a ≡ b
  same-unit a b e = ap unit_number e

  shared : (n p k : ℕ) (d e : Extent) → Member d (extents_in x n p) → Member e (extents_in x k p) → first_rank ranks e ≤ last_rank ranks d → first_rank ranks d ≤ last_rank ranks e → (at : ℕ) × LiesIn (stretch_of ranks d) at × LiesIn (stretch_of ranks e) at
  shared n p k d e i j high low = go (nat_le (first_rank ranks d) (first_rank ranks e)) refl
    where
      fills-d : first_rank ranks d ≤ last_rank ranks d
      fills-d = (covers-all t f x computed rules last).filled n p d i

      fills-e : first_rank ranks e ≤ last_rank ranks e
      fills-e = (covers-all t f x computed rules last).filled k p e j

      go : (u : Bool) → nat_le (first_rank ranks d) (first_rank ranks e) ≡ u → (at : ℕ) × LiesIn (stretch_of ranks d) at × LiesIn (stretch_of ranks e) at
      go true g = (first_rank ranks e, (leb-true (first_rank ranks d) (first_rank ranks e) g, high), (omega arith, fills-e))
      go false g = let lt = leb-false (first_rank ranks d) (first_rank ranks e) g in (first_rank ranks d, (omega arith, fills-d), (omega (arith, lt), low))

  -- two ranges clash where lanes of theirs that they hold in one unit have extents with a number in common
  lanes-clash : (v w : ℕ) (r q : Reg) (j k : ℕ) (u : UnitNumber) (p : ℕ) (d e : Extent) → slice_get (units_of t r) j ≡ Some u → slice_get (units_of t q) k ≡ Some u
      → Member d (lane_extents x (number_in x.lanes (owners.Range v j)) p) → Member e (lane_extents x (number_in x.lanes (owners.Range w k)) p)
      → first_rank ranks e ≤ last_rank ranks d → first_rank ranks d ≤ last_rank ranks e → RangesClash t f v r w q
  lanes-clash v w r q j k u p d e one other first-member second-member high low =
      let a = lane-numbered (number_in x.lanes (owners.Range v j)) p d first-member in
      let b = lane-numbered (number_in x.lanes (owners.Range w k)) p e second-member in
      let at = shared a.0 p b.0 d e a.2 b.2 high low in
      let c = common t f x computed rules last a.0 b.0 p at.0 d e a.2 b.2 at.1 at.2 in (
        c.point,
        u,
        record { k = j; occupied = occupied-there v j a.0 p c.block c.point a.1 c.at c.member c.one; unit = one },
        record { k = k; occupied = occupied-there w k b.0 p c.block c.point b.1 c.at c.member c.other; unit = other },
      )

  -- and so do two that hold one unit by their registers
  pub holders-clash : (u p : ℕ) (d e : RangeExtent) (g : IsHolding m u p d) (h : IsHolding m u p e) → first_rank ranks e.extent ≤ last_rank ranks d.extent → first_rank ranks d.extent ≤ last_rank ranks e.extent
      → RangesClash t f d.range g.1.0 e.range h.1.0
  holders-clash u p d e (j, (r, has, at), one) (k, (q, owns, there), other) high low =
      let a = unit-in r j u at in
      let b = unit-in q k u there in
      lanes-clash d.range e.range r q j k a.0 p d.extent e.extent a.1 (b.1 ∙ ap Some (same-unit b.0 a.0 (b.2 ∙ sym a.2))) one other high low

  module _ (holding : Holds m) (v : ℕ) where
    way-forth : (r : Reg) (w : ℕ) → is_in_way m v r w ≡ true → InWay v r w
    way-forth r w h =
        let y = any-of (is_taken_at m w) (points_in m v r) (both-right (not (nat_eq w v)) (list_any (is_taken_at m w) (points_in m v r)) h) in
        let z = points-of v r y.1 (slice-member (points_in m v r) y.0 y.1 y.2) in
        let taken : is_taken_by ranks (holds m z.unit.0 z.position) w (stretch_of ranks z.extent) ≡ true = ap (is_taken_at m w) (sym z.same) ∙ y.3 in
        let g = any-of (λ d. nat_eq d.range w && touches ranks (stretch_of ranks z.extent) d) (holds m z.unit.0 z.position) taken in
        by z g.1 (slice-member (holds m z.unit.0 z.position) g.0 g.1 g.2) (eqb-true g.1.range w (both-left (nat_eq g.1.range w) (touches ranks (stretch_of ranks z.extent) g.1) g.3)) (both-right (nat_eq g.1.range w) (touches ranks (stretch_of ranks z.extent) g.1) g.3)
      where
        by : {s : Points} (z : Taken x v 0 (units_of t r) s) (d : RangeExtent) → Member d (holds m z.unit.0 z.position) → d.range ≡ w → touches ranks (stretch_of ranks z.extent) d ≡ true → InWay v r w
        by z d j same meets =
            let held-there = (holding z.unit.0 z.position d).0 j in
            let q = held-there.1 in
            let unit = unit-in q.0 held-there.0 z.unit.0 q.2 in
            let high = leb-true (first_rank ranks d.extent) (last_rank ranks z.extent) (both-left (nat_le (first_rank ranks d.extent) (last_rank ranks z.extent)) (nat_le (first_rank ranks z.extent) (last_rank ranks d.extent)) meets) in
            let low = leb-true (first_rank ranks z.extent) (last_rank ranks d.extent) (both-right (nat_le (first_rank ranks d.extent) (last_rank ranks z.extent)) (nat_le (first_rank ranks z.extent) (last_rank ranks d.extent)) meets) in
            let member : Member z.extent (lane_extents x (number_in x.lanes (owners.Range v z.k)) z.position) = subst (λ o. Member z.extent (lane_extents x o z.position)) (sym (numbered-by v z.k (Some z.number) z.numbered)) z.member in (
              q.0,
              subst (λ i. register_in m.registers.items i ≡ Some q.0) same q.1,
              subst (λ i. RangesClash t f v r i q.0) same (lanes-clash v d.range r q.0 z.k held-there.0 z.unit z.position z.extent d.extent z.at (unit.1 ∙ ap Some (same-unit unit.0 z.unit unit.2)) member held-there.2 high low),
            )

    pub way-back : (r : Reg) (w : ℕ) → v ≢ w → InWay v r w → is_in_way m v r w ≡ true
    way-back r w differ (q, assigned, (p, u, h, g)) =
        let z : Placed f p = placed t f x computed rules last (VirtualLane v h.k) p h.occupied in
        let s = stretched v r u h.k p z h.occupied h.unit in
        let n = spot-in w g.k p z g.occupied in
        let e = held-extent t f x computed rules last n.0 z.position (rank_of ranks p) n.2 in
        let d : RangeExtent = record { range = w; extent = e.0 } in
        let there : IsIn m w g.k u.0 = (q, assigned, slice-map (λ i. i.0) (units_of t q) g.k ∙ ap (option_map (λ i. i.0)) g.unit) in
        let listed : Member d (holds m u.0 z.position) = (holding u.0 z.position d).1 (g.k, there, subst (λ o. Member e.0 (lane_extents x o z.position)) (sym n.1) e.1) in
        let meets : touches ranks (stretch_of ranks s.extent) d ≡ true = overlapping s.extent e.0 (rank_of ranks p) s.lies e.2 in
        let taken : is_taken_by ranks (holds m u.0 z.position) w (stretch_of ranks s.extent) ≡ true = any-in (λ c. nat_eq c.range w && touches ranks (stretch_of ranks s.extent) c) d (holds m u.0 z.position) listed (both (nat_eq w w) (touches ranks (stretch_of ranks s.extent) d) (eq-eqb w w refl) meets) in
        both (not (nat_eq w v)) (list_any (is_taken_at m w) (points_in m v r)) (ap not (ne_eqb w v (λ same. differ (sym same)))) (any-in (is_taken_at m w) (point_of x u.0 z.position s.extent) (points_in m v r) s.points taken)
      where
        overlapping : (c d : Extent) (at : ℕ) → LiesIn (stretch_of ranks c) at → LiesIn (stretch_of ranks d) at → (nat_le (first_rank ranks d) (last_rank ranks c) && nat_le (first_rank ranks c) (last_rank ranks d)) ≡ true
        overlapping c d at i j = both (nat_le (first_rank ranks d) (last_rank ranks c)) (nat_le (first_rank ranks c) (last_rank ranks d)) (le-leb (first_rank ranks d) (last_rank ranks c) (omega (arith, i, j))) (le-leb (first_rank ranks c) (last_rank ranks d) (omega (arith, i, j)))

module _ (m : Matrix) (exact : IsExact m) (v : ℕ) where
  pub exact-tests : Tests (UnitInTheWay m.live.target m.live.func v) (is_exact m exact.computed exact.rules exact.last v)
  exact-tests r = (exact-forth m exact.computed exact.rules exact.last v r, exact-back m exact.computed exact.rules exact.last v r)

  module _ (none : register_in m.registers.items v ≡ None) where
    pub way-tests : Tests (λ (p : Reg × ℕ). InTheWay m.live.target m.live.func (assignment_of m) v p.0 p.1) (λ p. is_in_way m v p.0 p.1)
    way-tests p = (
      way-forth m exact.computed exact.rules exact.last exact.holds v p.0 p.1,
      λ way. way-back m exact.computed exact.rules exact.last exact.holds v p.0 p.1 (λ same. let a : None ≡ Some way.0 = sym none ∙ ap (register_in m.registers.items) same ∙ way.1 in cc) way,
    )

    counted : (w : ℕ) → PointCount m.live.target m.live.func w (range_held m.live.table m.live.func.blocks w)
    counted w = (points-law m.live.target m.live.func m.live.table exact.computed exact.rules exact.last).count w

    -- what an eviction asks, with the units of all registers told of right
    abbrev pub told_facts : Facts
    told_facts = record { fixed = is_exact m exact.computed exact.rules exact.last v; in_the_way = is_in_way m v; points = λ w. range_held m.live.table m.live.func.blocks w }

    pub are-facts : AreFacts m.live.target m.live.func (assignment_of m) v told_facts
    are-facts = record { fixed = exact-tests; ranges = way-tests; points = counted }

decided : {P : Type 0} (a b : Bool) → a ≡ b → Decides b P → Decides a P
decided {P} a b e d = subst (λ c. Decides c P) (sym e) d

pub clashes-law : ClashesLaw
clashes-law m exact v none = record {
  fixed = λ r free. decided (is_fixed m v r) (is_exact m exact.computed exact.rules exact.last v r) (unreserved-same m exact.computed exact.rules exact.last v r free) (exact-tests m exact v r);
  ranges = way-tests m exact v none;
}

pub facts-law : FactsLaw
facts-law m exact v none =
    let facts = are-facts m exact v none in
    record {
      fixed = λ r. decided (is_fixed m v r) (is_exact m exact.computed exact.rules exact.last v r) (first-same m exact.computed exact.rules exact.last exact.computed.numbers.table.units v r) (exact-tests m exact v r);
      ranges = facts.ranges;
      points = facts.points;
    }
