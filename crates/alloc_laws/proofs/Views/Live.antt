-- A computed table tells of a range at which points of the function it is live, and at which it has a lane.
use Rattle.std.proofs.Common.{◌≡◌, ◌⊎◌, ◌<◌, ℕ, zero, suc, ◌+◌, Bool, true, false, cond, [], ◌∷◌, Option, Some, None, inl, inr, refl, sym, ap, ◌∙◌, subst, arith, eqb-true, eq-eqb}
use Rattle.std.specs.Prelude.{◌↔◌, ◌||◌, Decides, flat_map, nat_eq, nat_lt, slice_get}
use Rattle.std.specs.Ordering.{nat_cmp}
use Rattle.std.specs.BTreeMap.{get}
use Rattle.std.proofs.lemmas.Bool.{ltb-true, lt-ltb}
use Rattle.target_base.specs.declared.types.Target.{Target}
use Rattle.meaning.specs.declared.types.Lane.TheVariants.{VirtualLane}
use Rattle.meaning.specs.Live.{Among as Member}
use Rattle.mir_func.specs.declared.func.Block.{Block}
use Rattle.mir_func.specs.declared.func.Instr.{Instr}
use Rattle.mir_func.specs.Value.{Function}
use Rattle.mir_meaning.specs.Points.{Point, Start, Entry, Exit, LiveAt, OccupiedAt, RangePoint, block_points, all_points}
use Rattle.mir_meaning.specs.Rules.{V8}
use Rattle.instr_effects.specs.declared.row.LaneSpan.{LaneSpan}
use Rattle.instr_effects.specs.Numbers.{row_number_in}
use Rattle.instr_effects.specs.Numbered.{number_in}
use Rattle.instr_effects.specs.Stepping.{tag_of}
use Rattle.instr_effects.proofs.Members.{member-none, member-elim, flat-of}
use Rattle.live_laws.specs.Effects.Shaped.{is_proper}
use Rattle.live_laws.specs.Effects.Coded.{spot_in, KeepsRules}
use Rattle.live_laws.proofs.Effects.Blocks.{member-slice, place-block}
use Rattle.live_lanes.specs.declared.table.Table.{Table}
use Rattle.live_lanes.specs.Table.{entry_rank, exit_rank}
use Rattle.live_lanes.specs.Graph.{is_live}
use Rattle.live_lanes.specs.Entered.{causes, rows_seen}
use Rattle.live_lanes.specs.Ordered.{place_of}
use Rattle.live_lanes.specs.Marks.{marked_at}
use Rattle.live_lanes.specs.Doing.{IsComputed}
use Rattle.live_lanes.specs.Looks.{entry_at, exit_at}
use Rattle.live_lanes.specs.Held.{held_at}
use Rattle.live_lanes.specs.Touching.{some_below, some_of, some_lane}
use Rattle.live_laws.specs.Exact.Laws.{TellsInside}
use Rattle.live_laws.specs.Exact.Occupied.{TellsOccupied}
use Rattle.live_laws.proofs.Exact.Coded.{place-same, place-is}
use Rattle.live_laws.proofs.Exact.Computed.{computed-law}
use Rattle.live_laws.proofs.Exact.Everywhere.{spot-at, no-start, numbered-at}
use Rattle.live_laws.proofs.Exact.Inside.{home, inside-law}
use Rattle.live_laws.proofs.Exact.Occupied.{occupied-law}
use Rattle.split_choose.specs.Offers.{RangeLive, TestsPoints}
use Rattle.split_choose.specs.Seen.{at_home, seen_live, seen_point}
use Rattle.alloc_laws.specs.Views.{LiveShownLaw, PointsShownLaw}

-- one of the lanes passes just where there is such a lane

some-forth : (test : ℕ → Bool) (low count : ℕ) → some_below test low count ≡ true → (j : ℕ) × (j < count) × (test (low + j) ≡ true)
some-forth test low zero h = absurd (cc)
some-forth test low (suc n) h = go (test (low + n)) refl h (some-forth test low n)
  where
    go : (u : Bool) → test (low + n) ≡ u → (u || some_below test low n) ≡ true → (some_below test low n ≡ true → (j : ℕ) × (j < n) × (test (low + j) ≡ true)) → (j : ℕ) × (j < suc n) × (test (low + j) ≡ true)
    go true e g ih = (n, omega arith, e)
    go false e g ih = let z = ih g in let near = z.1 in (z.0, omega (arith, near), z.2)

some-back : (test : ℕ → Bool) (low count j : ℕ) → j < count → test (low + j) ≡ true → some_below test low count ≡ true
some-back test low zero j lt h = absurd (omega arith)
some-back test low (suc n) j lt h = go (nat_eq j n) refl (λ k. some-back test low n j k h)
  where
    unequal : nat_eq j n ≡ false → (j ≡ n) → ⊥
    unequal e q = let z : true ≡ false = sym (eq-eqb j n q) ∙ e in absurd (cc)

    last : (u w : Bool) → w ≡ true → (u || w) ≡ true
    last true w e = refl
    last false w e = e

    go : (u : Bool) → nat_eq j n ≡ u → (j < n → some_below test low n ≡ true) → (test (low + n) || some_below test low n) ≡ true
    go true e ih = ap (λ u. u || some_below test low n) (ap (λ k. test (low + k)) (sym (eqb-true j n e)) ∙ h)
    go false e ih = last (test (low + n)) (some_below test low n) (ih (omega (arith, unequal e, lt)))

-- a point of a block is its start, or the entry or the exit of an instruction of it
abbrev OfInstr : Block → Point → Type 0
OfInstr b p = (i : Instr) × Member i b.instrs × ((p ≡ Entry i.id) ⊎ (p ≡ Exit i.id))

point-of : (b : Block) (p : Point) → Member p (block_points b) → (p ≡ Start b.number) ⊎ OfInstr b p
point-of b p m = member-elim p (Start b.number) (flat_map (λ (i : Instr). Entry i.id ∷ Exit i.id ∷ []) b.instrs) (λ e. inl e) (λ k. inr (inside (flat-of (λ (i : Instr). Entry i.id ∷ Exit i.id ∷ []) p b.instrs k))) m
  where
    inside : ((i : Instr) × Member i b.instrs × Member p (Entry i.id ∷ Exit i.id ∷ [])) → OfInstr b p
    inside (i, n, k) = (i, n, member-elim p (Entry i.id) (Exit i.id ∷ []) (λ e. inl e) (λ j. member-elim p (Exit i.id) [] (λ e. inr e) (λ h. absurd (member-none p h)) j) k)

module _ (t : Target) (f : Function) (x : Table) (v : ℕ) where
  -- the number of a lane of the range
  abbrev tag : ℕ → Option ℕ
  tag k = tag_of (number_in x.lanes) (is_proper t) (VirtualLane v k)

  -- a test of numbers tells of the range what it tells of its lanes
  decided : (test : ℕ → Bool) (P : ℕ → Type 0) → ((k : ℕ) → P k → (n : ℕ) × (tag k ≡ Some n)) → ((k n : ℕ) → tag k ≡ Some n → (test n ≡ true) ↔ P k) → Decides (some_lane x v test) ((k : ℕ) × P k)
  decided test P number each = go (slice_get x.lanes.ranges.items v) refl
    where
      go : (q : Option LaneSpan) → slice_get x.lanes.ranges.items v ≡ q → Decides (some_of test q) ((k : ℕ) × P k)
      go None e = ((λ h. absurd (cc)), (λ z. absurd (let n = number z.0 z.1 in let h : None ≡ Some n.0 = sym (ap (λ q. row_number_in q z.0) e) ∙ n.1 in cc)))
      go (Some own) e = (
        (λ h. let z = some-forth test own.first own.count h in (z.0, (each z.0 (own.first + z.0) (tagged z.0 z.1)).0 z.2)),
        (λ z. let n = number z.0 z.1 in let lt = within z.0 n.0 n.1 in some-back test own.first own.count z.0 lt ((each z.0 (own.first + z.0) (tagged z.0 lt)).1 z.1)),
      )
        where
          tagged : (k : ℕ) → k < own.count → tag k ≡ Some (own.first + k)
          tagged k lt = ap (λ q. row_number_in q k) e ∙ ap (λ u. cond u (Some (own.first + k)) None) (lt-ltb k own.count lt)

          within : (k n : ℕ) → tag k ≡ Some n → k < own.count
          within k n m = near (nat_lt k own.count) refl (sym (ap (λ q. row_number_in q k) e) ∙ m)
            where
              near : (u : Bool) → nat_lt k own.count ≡ u → cond {A = Option ℕ} u (Some (own.first + k)) None ≡ Some n → k < own.count
              near true g h = ltb-true k own.count g
              near false g h = absurd (cc)

  -- the same of a test that answers false where a lane has no number
  told : (test : Option ℕ → Bool) (P : ℕ → Type 0) → test None ≡ false → ((k : ℕ) → (test (tag k) ≡ true) ↔ P k) → Decides (some_lane x v (λ l. test (Some l))) ((k : ℕ) × P k)
  told test P none each = decided (λ l. test (Some l)) P (λ k h. has-one (tag k) ((each k).1 h)) (λ k n e. subst (λ q. (test q ≡ true) ↔ P k) e (each k))
    where
      has-one : (q : Option ℕ) → test q ≡ true → (n : ℕ) × (q ≡ Some n)
      has-one None h = absurd (let z : false ≡ true = sym none ∙ h in cc)
      has-one (Some n) h = (n, refl)

  module _ (computed : IsComputed t f x) (rules : KeepsRules t f) (last : (b : Block) (j : ℕ) (i : Instr) → Member b f.blocks → slice_get b.instrs j ≡ Some i → V8 t b j i ≡ true) where
    abbrev HasSpot : ℕ → Type 0
    HasSpot id = (p : ℕ) × (k : ℕ) × (spot_in id f.blocks ≡ Some (p, k))

    -- an instruction of the function is found
    spot-of : (b : Block) (i : Instr) (id : ℕ) → Member b f.blocks → Member i b.instrs → id ≡ i.id → HasSpot id
    spot-of b i id m n e = let k = member-slice b f.blocks m in let z = spot-at t f x computed rules last k.0 b i k.1 n in subst HasSpot (sym e) (k.0, z.0, z.1)

    entry-spot : (id : ℕ) → Member (Entry id) (all_points f) → HasSpot id
    entry-spot id m = let z = flat-of block_points (Entry id) f.blocks m in go z.0 z.1 (point-of z.0 (Entry id) z.2)
      where
        go : (b : Block) → Member b f.blocks → (Entry id ≡ Start b.number) ⊎ OfInstr b (Entry id) → HasSpot id
        go b n (inl e) = absurd (cc)
        go b n (inr (i, k, inl e)) = spot-of b i id n k (cc)
        go b n (inr (i, k, inr e)) = absurd (cc)

    exit-spot : (id : ℕ) → Member (Exit id) (all_points f) → HasSpot id
    exit-spot id m = let z = flat-of block_points (Exit id) f.blocks m in go z.0 z.1 (point-of z.0 (Exit id) z.2)
      where
        go : (b : Block) → Member b f.blocks → (Exit id ≡ Start b.number) ⊎ OfInstr b (Exit id) → HasSpot id
        go b n (inl e) = absurd (cc)
        go b n (inr (i, k, inl e)) = absurd (cc)
        go b n (inr (i, k, inr e)) = spot-of b i id n k (cc)

    -- a test by the position of a block tells of its start
    starts : (test : ℕ → Bool) (P : Point → ℕ → Type 0) → ((n k : ℕ) → P (Start n) k → OccupiedAt t f (Start n) (VirtualLane v k)) → ((k : ℕ) (b : Block) → slice_get f.blocks k ≡ Some b → Decides (test k) ((j : ℕ) × P (Start b.number) j)) → (n : ℕ) → Decides (at_home test (place_of n f.blocks)) ((j : ℕ) × P (Start n) j)
    starts test P held each n = go (place_of n f.blocks) refl
      where
        go : (q : Option ℕ) → place_of n f.blocks ≡ q → Decides (at_home test q) ((j : ℕ) × P (Start n) j)
        go None g = ((λ h. absurd (cc)), (λ z. absurd (no-start t f x computed rules last (VirtualLane v z.0) n g (held n z.0 z.1))))
        go (Some k) g =
            let b = place-block n f.blocks k (sym (place-same n f.blocks) ∙ g) in
            subst (λ m. Decides (test k) ((j : ℕ) × P (Start m) j)) b.2 (each k b.0 b.1)

    -- where the range is live

    inside : TellsInside t f x
    inside = inside-law t f x computed rules last

    live-start : (k : ℕ) (b : Block) → slice_get f.blocks k ≡ Some b → Decides (some_lane x v (λ l. is_live (causes x.rows.rows.items l k 0))) (RangeLive t f v (Start b.number))
    live-start k b g = told (λ q. marked_at x.rows.rows.items q (Some k)) (λ j. LiveAt t f (Start b.number) (VirtualLane v j)) refl (λ j. subst (λ q. (marked_at x.rows.rows.items (tag j) q ≡ true) ↔ LiveAt t f (Start b.number) (VirtualLane v j)) at (computed-law t f x computed rules last (VirtualLane v j) refl k b g))
      where
        at : get nat_cmp x.order.positions b.number ≡ Some k
        at = computed.positions b.number ∙ place-is t f (number_in x.lanes) rules k b g

    live : TestsPoints f (RangeLive t f v) (seen_live x f.blocks v)
    live (Start n) m = starts (λ b. some_lane x v (λ l. is_live (causes x.rows.rows.items l b 0))) (λ p k. LiveAt t f p (VirtualLane v k)) (λ n k h. h) live-start n
    live (Entry id) m = let z = entry-spot id m in told (λ q. entry_at x q id) (λ k. LiveAt t f (Entry id) (VirtualLane v k)) refl (λ k. inside.entry (VirtualLane v k) refl id z.0 z.1 z.2)
    live (Exit id) m = let z = exit-spot id m in told (λ q. exit_at x q id) (λ k. LiveAt t f (Exit id) (VirtualLane v k)) refl (λ k. inside.exit (VirtualLane v k) refl refl id z.0 z.1 z.2)

    -- where it has a lane

    occupied : TellsOccupied t f x
    occupied = occupied-law t f x computed rules last

    -- a test of the lanes in a block tells where it tells of those that have numbers
    held : (p : Point) (b at : ℕ) → ((k n : ℕ) → tag k ≡ Some n → (held_at x.order.slots (rows_seen x.rows.rows.items n b) at ≡ true) ↔ OccupiedAt t f p (VirtualLane v k)) → Decides (some_lane x v (λ l. held_at x.order.slots (rows_seen x.rows.rows.items l b) at)) (RangePoint t f v p)
    held p b at each = decided (λ l. held_at x.order.slots (rows_seen x.rows.rows.items l b) at) (λ k. OccupiedAt t f p (VirtualLane v k)) (λ k h. numbered-at t f x computed rules last (VirtualLane v k) refl p h) each

    points : TestsPoints f (RangePoint t f v) (seen_point x f.blocks v)
    points (Start n) m = starts (λ b. some_lane x v (λ l. held_at x.order.slots (rows_seen x.rows.rows.items l b) 0)) (λ p k. OccupiedAt t f p (VirtualLane v k)) (λ n k h. h) (λ k b g. held (Start b.number) k 0 (λ j n e. occupied.start (VirtualLane v j) n refl e k b g)) n
    points (Entry id) m =
        let z = entry-spot id m in
        subst (λ b. Decides (some_lane x v (λ l. held_at x.order.slots (rows_seen x.rows.rows.items l b) (entry_rank x.order.slots id))) (RangePoint t f v (Entry id))) (sym (home t f x computed rules last id z.0 z.1 z.2))
        (held (Entry id) z.0 (entry_rank x.order.slots id) (λ k n e. occupied.entry (VirtualLane v k) n refl e id z.0 z.1 z.2))
    points (Exit id) m =
        let z = exit-spot id m in
        subst (λ b. Decides (some_lane x v (λ l. held_at x.order.slots (rows_seen x.rows.rows.items l b) (exit_rank x.order.slots id))) (RangePoint t f v (Exit id))) (sym (home t f x computed rules last id z.0 z.1 z.2))
        (held (Exit id) z.0 (exit_rank x.order.slots id) (λ k n e. occupied.exit (VirtualLane v k) n refl e id z.0 z.1 z.2))

pub live-shown : LiveShownLaw
live-shown t f x computed rules last v = live t f x v computed rules last

pub points-shown : PointsShownLaw
points-shown t f x computed rules last v = points t f x v computed rules last
