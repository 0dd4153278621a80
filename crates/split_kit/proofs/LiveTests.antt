-- A computed table tells at which points some lane of the range is live.
use Rattle.std.proofs.Common.{◌≡◌, ◌<◌, ℕ, zero, suc, ◌+◌, ◌-◌, Bool, true, false, cond, List, [], ◌∷◌, Option, Some, None, length, refl, sym, ap, ◌∙◌, subst, arith, eqb-true, eq-eqb}
use Rattle.std.specs.Prelude.{◌↔◌, ◌||◌, ◌&&◌, Decides, is_some, nat_eq, nat_lt, option_map, slice_get}
use Rattle.std.specs.Ordering.{nat_cmp}
use Rattle.std.specs.BTreeMap.{get}
use Rattle.std.proofs.lemmas.Bool.{ltb-true, lt-ltb}
use Rattle.target_base.specs.declared.types.Target.{Target}
use Rattle.meaning.specs.Code.{Code}
use Rattle.meaning.specs.declared.types.Lane.{Lane}
use Rattle.meaning.specs.declared.types.Lane.TheVariants.{VirtualLane}
use Rattle.meaning.specs.Live.{Among as Member, Live, LiveAfter, here, there}
use Rattle.mir_func.specs.declared.func.Block.{Block}
use Rattle.mir_func.specs.declared.func.Instr.{Instr}
use Rattle.mir_func.specs.Edits.{instr_place}
use Rattle.mir_func.specs.Value.{Function}
use Rattle.mir_meaning.specs.Points.{Point, Start, Entry, Exit, AtFirst, LiveAt, OccupiedAt, Tests, block_rest, from_instr, has_instr, has_no_phis, points_of}
use Rattle.mir_meaning.specs.Registers.{is_reserved}
use Rattle.mir_meaning.specs.Rules.{V8}
use Rattle.instr_effects.specs.declared.row.LaneSpan.{LaneSpan}
use Rattle.instr_effects.specs.Numbers.{row_number_in}
use Rattle.instr_effects.specs.Numbered.{number_in}
use Rattle.instr_effects.specs.Stepping.{tag_of}
use Rattle.live_laws.specs.Effects.Shaped.{is_proper}
use Rattle.live_laws.specs.Effects.Coded.{one_on, spot_in, KeepsRules}
use Rattle.live_laws.specs.Touch.{are_known}
use Rattle.live_laws.proofs.Effects.Blocks.{member-slice, place-block}
use Rattle.live_lanes.specs.declared.ask.labels.Mark.{Mark}
use Rattle.live_lanes.specs.declared.table.Table.{Table}
use Rattle.live_lanes.specs.Graph.{is_live}
use Rattle.live_lanes.specs.Entered.{causes}
use Rattle.live_lanes.specs.Ordered.{place_of}
use Rattle.live_lanes.specs.Marks.{marked_at}
use Rattle.live_lanes.specs.Doing.{IsComputed}
use Rattle.live_lanes.specs.Looks.{entry_at, exit_at}
use Rattle.live_lanes.specs.Tells.{TellsInstrs}
use Rattle.live_lanes.specs.Touching.{leaves_block, leaves_last, some_below, some_of, some_lane}
use Rattle.live_laws.specs.Exact.Laws.{TellsInside}
use Rattle.live_laws.proofs.Exact.Coded.{place-same, place-is}
use Rattle.live_laws.proofs.Exact.Computed.{computed-law}
use Rattle.live_laws.proofs.Exact.Everywhere.{spot-at, no-start}
use Rattle.live_laws.proofs.Exact.Inside.{inside-law}
use Rattle.live_laws.proofs.Touch.Touched.{touched-law}
use Rattle.split_kit.specs.PartEdits.{AreInTurn, ShowsParts}
use Rattle.split_kit.specs.Split.{RangeLive, last_point}

abbrev pub at_home : (ℕ → Bool) → Option ℕ → Bool
at_home test None = false
at_home test (Some b) = test b

-- the instruction is there, and the test holds
abbrev pub if_there : List Block → ℕ → Bool → Bool
if_there bs id u = is_some (spot_in id bs) && u

-- one of the lanes passes just where there is such a lane

some-forth : (test : ℕ → Bool) (low count : ℕ) → some_below test low count ≡ true → (j : ℕ) × (j < count) × (test (low + j) ≡ true)
some-forth test low zero h = absurd (cc)
some-forth test low (suc n) h = go (test (low + n)) refl h (some-forth test low n)
  where
    go : (u : Bool) → test (low + n) ≡ u → (u || some_below test low n) ≡ true → (some_below test low n ≡ true → (j : ℕ) × (j < n) × (test (low + j) ≡ true)) → (j : ℕ) × (j < suc n) × (test (low + j) ≡ true)
    go true e g ih = (n, omega arith, e)
    go false e g ih = let z = ih g in let near = z.1 in (z.0, omega (arith, near), z.2)

some-back : (test : ℕ → Bool) (low count j : ℕ) → j < count → test (low + j) ≡ true → some_below test low count ≡ true
some-back test low zero j lt h = absurd (omega arith)
some-back test low (suc n) j lt h = go (nat_eq j n) refl (λ k. some-back test low n j k h)
  where
    unequal : nat_eq j n ≡ false → (j ≡ n) → ⊥
    unequal e q = let z : true ≡ false = sym (eq-eqb j n q) ∙ e in absurd (cc)

    last : (u w : Bool) → w ≡ true → (u || w) ≡ true
    last true w e = refl
    last false w e = e

    go : (u : Bool) → nat_eq j n ≡ u → (j < n → some_below test low n ≡ true) → (test (low + n) || some_below test low n) ≡ true
    go true e ih = ap (λ u. u || some_below test low n) (ap (λ k. test (low + k)) (sym (eqb-true j n e)) ∙ h)
    go false e ih = last (test (low + n)) (some_below test low n) (ih (omega (arith, unequal e, lt)))

-- an instruction that isn't there has no points

none-of : {X Y : Type 0} (g : X → Y) (q : Option X) → option_map g q ≡ None → q ≡ None
none-of g None h = refl
none-of g (Some x) h = absurd (cc)

from-none : (t : Target) (f : Function) (id : ℕ) (bs : List Block) → spot_in id bs ≡ None → from_instr t f id bs ≡ []
from-none t f id [] e = refl
from-none t f id (b ∷ bs) e = go (has_instr id b) refl e (from-none t f id bs)
  where
    go : (u : Bool) → has_instr id b ≡ u → cond {A = Option (ℕ × ℕ)} u (Some (0, instr_place id b.instrs)) (option_map one_on (spot_in id bs)) ≡ None → (spot_in id bs ≡ None → from_instr t f id bs ≡ []) → from_instr t f id (b ∷ bs) ≡ []
    go true g h ih = absurd (cc)
    go false g h ih = ap (λ q. cond q (block_rest t f b bs (instr_place id b.instrs)) (from_instr t f id bs)) g ∙ ih (none-of one_on (spot_in id bs) h)

no-live : (reserved : Lane → Bool) (code : Code) (l : Lane) → Live reserved code [] l → ⊥
no-live reserved code l h = elim h [ ]

-- the last instruction

last-of : (p : Point) (i : Instr) (is : List Instr) → (j : Instr) × (last_point p (i ∷ is) ≡ Exit j.id) × (slice_get (i ∷ is) (length (i ∷ is) - 1) ≡ Some j) × Member j (i ∷ is)
last-of p i [] = (i, refl, refl, here)
last-of p i (k ∷ is) =
    let z = last-of (Exit i.id) k is in
    let n : length (i ∷ k ∷ is) - 1 ≡ suc (length (k ∷ is) - 1) = omega arith in
    (z.0, z.1, ap (slice_get (i ∷ k ∷ is)) n ∙ z.2, there z.3)

-- the points at which some lane of a range is live by the table
abbrev pub table_live : Table → Function → ℕ → Point → Bool
table_live x f v (Start n) = at_home (λ b. some_lane x v (λ l. is_live (causes x.rows.rows.items l b 0))) (place_of n f.blocks)
table_live x f v (Entry id) = if_there f.blocks id (some_lane x v (λ l. entry_at x (Some l) id))
table_live x f v (Exit id) = if_there f.blocks id (some_lane x v (λ l. exit_at x (Some l) id))

module _ (t : Target) (f : Function) (x : Table) (v : ℕ) where
  -- the number of a lane of the range
  abbrev tag : ℕ → Option ℕ
  tag k = tag_of (number_in x.lanes) (is_proper t) (VirtualLane v k)

  -- a test of numbers tells of the range what it tells of its lanes
  decided : (test : ℕ → Bool) (P : ℕ → Type 0) → ((k : ℕ) → P k → (n : ℕ) × (tag k ≡ Some n)) → ((k n : ℕ) → tag k ≡ Some n → (test n ≡ true) ↔ P k) → Decides (some_lane x v test) ((k : ℕ) × P k)
  decided test P number each = go (slice_get x.lanes.ranges.items v) refl
    where
      go : (q : Option LaneSpan) → slice_get x.lanes.ranges.items v ≡ q → Decides (some_of test q) ((k : ℕ) × P k)
      go None e = ((λ h. absurd (cc)), (λ z. absurd (let n = number z.0 z.1 in let h : None ≡ Some n.0 = sym (ap (λ q. row_number_in q z.0) e) ∙ n.1 in cc)))
      go (Some own) e = (
        (λ h. let z = some-forth test own.first own.count h in (z.0, (each z.0 (own.first + z.0) (tagged z.0 z.1)).0 z.2)),
        (λ z. let n = number z.0 z.1 in let lt = within z.0 n.0 n.1 in some-back test own.first own.count z.0 lt ((each z.0 (own.first + z.0) (tagged z.0 lt)).1 z.1)),
      )
        where
          tagged : (k : ℕ) → k < own.count → tag k ≡ Some (own.first + k)
          tagged k lt = ap (λ q. row_number_in q k) e ∙ ap (λ u. cond u (Some (own.first + k)) None) (lt-ltb k own.count lt)

          within : (k n : ℕ) → tag k ≡ Some n → k < own.count
          within k n m = near (nat_lt k own.count) refl (sym (ap (λ q. row_number_in q k) e) ∙ m)
            where
              near : (u : Bool) → nat_lt k own.count ≡ u → cond {A = Option ℕ} u (Some (own.first + k)) None ≡ Some n → k < own.count
              near true g h = ltb-true k own.count g
              near false g h = absurd (cc)

  -- the same of a test that answers false where a lane has no number
  told : (test : Option ℕ → Bool) (P : ℕ → Type 0) → test None ≡ false → ((k : ℕ) → (test (tag k) ≡ true) ↔ P k) → Decides (some_lane x v (λ l. test (Some l))) ((k : ℕ) × P k)
  told test P none each = decided (λ l. test (Some l)) P (λ k h. has-one (tag k) ((each k).1 h)) (λ k n e. subst (λ q. (test q ≡ true) ↔ P k) e (each k))
    where
      has-one : (q : Option ℕ) → test q ≡ true → (n : ℕ) × (q ≡ Some n)
      has-one None h = absurd (let z : false ≡ true = sym none ∙ h in cc)
      has-one (Some n) h = (n, refl)

  module _ (computed : IsComputed t f x) (rules : KeepsRules t f) (last : (b : Block) (j : ℕ) (i : Instr) → Member b f.blocks → slice_get b.instrs j ≡ Some i → V8 t b j i ≡ true) where
    -- a test by the position of a block tells of its start
    starts : (test : ℕ → Bool) (P : Point → ℕ → Type 0) → ((n k : ℕ) → P (Start n) k → OccupiedAt t f (Start n) (VirtualLane v k)) → ((k : ℕ) (b : Block) → slice_get f.blocks k ≡ Some b → Decides (test k) ((j : ℕ) × P (Start b.number) j)) → (n : ℕ) → Decides (at_home test (place_of n f.blocks)) ((j : ℕ) × P (Start n) j)
    starts test P held each n = go (place_of n f.blocks) refl
      where
        go : (q : Option ℕ) → place_of n f.blocks ≡ q → Decides (at_home test q) ((j : ℕ) × P (Start n) j)
        go None g = ((λ h. absurd (cc)), (λ z. absurd (no-start t f x computed rules last (VirtualLane v z.0) n g (held n z.0 z.1))))
        go (Some k) g =
            let b = place-block n f.blocks k (sym (place-same n f.blocks) ∙ g) in
            subst (λ m. Decides (test k) ((j : ℕ) × P (Start m) j)) b.2 (each k b.0 b.1)

    -- where the range is live

    inside : TellsInside t f x
    inside = inside-law t f x computed rules last

    live-start : (k : ℕ) (b : Block) → slice_get f.blocks k ≡ Some b → Decides (some_lane x v (λ l. is_live (causes x.rows.rows.items l k 0))) (RangeLive t f v (Start b.number))
    live-start k b g = told (λ q. marked_at x.rows.rows.items q (Some k)) (λ j. LiveAt t f (Start b.number) (VirtualLane v j)) refl (λ j. subst (λ q. (marked_at x.rows.rows.items (tag j) q ≡ true) ↔ LiveAt t f (Start b.number) (VirtualLane v j)) at (computed-law t f x computed rules last (VirtualLane v j) refl k b g))
      where
        at : get nat_cmp x.order.positions b.number ≡ Some k
        at = computed.positions b.number ∙ place-is t f (number_in x.lanes) rules k b g

    pub live : Tests (RangeLive t f v) (table_live x f v)
    live (Start n) = starts (λ b. some_lane x v (λ l. is_live (causes x.rows.rows.items l b 0))) (λ p k. LiveAt t f p (VirtualLane v k)) (λ n k h. h) live-start n
    live (Entry id) = go (spot_in id f.blocks) refl
      where
        go : (q : Option (ℕ × ℕ)) → spot_in id f.blocks ≡ q → Decides (is_some q && some_lane x v (λ l. entry_at x (Some l) id)) (RangeLive t f v (Entry id))
        go None e = ((λ h. absurd (cc)), (λ z. absurd (no-live (is_reserved t) (points_of t f) (VirtualLane v z.0) (subst (λ c. Live (is_reserved t) (points_of t f) c (VirtualLane v z.0)) (from-none t f id f.blocks e) z.1))))
        go (Some (p, k)) e = told (λ q. entry_at x q id) (λ k. LiveAt t f (Entry id) (VirtualLane v k)) refl (λ j. inside.entry (VirtualLane v j) refl id p k e)
    live (Exit id) = go (spot_in id f.blocks) refl
      where
        go : (q : Option (ℕ × ℕ)) → spot_in id f.blocks ≡ q → Decides (is_some q && some_lane x v (λ l. exit_at x (Some l) id)) (RangeLive t f v (Exit id))
        go None e = ((λ h. absurd (cc)), (λ z. absurd (subst (λ c. AtFirst (λ i p. LiveAfter (is_reserved t) (points_of t f) i p (VirtualLane v z.0)) c) (from-none t f id f.blocks e) z.1)))
        go (Some (p, k)) e = told (λ q. exit_at x q id) (λ k. LiveAt t f (Exit id) (VirtualLane v k)) refl (λ j. inside.exit (VirtualLane v j) refl refl id p k e)

    -- what it tells at gaps

    there-is : (k : ℕ) (b : Block) (i : Instr) → slice_get f.blocks k ≡ Some b → Member i b.instrs → (u : Bool) → if_there f.blocks i.id u ≡ u
    there-is k b i e m u = let z = spot-at t f x computed rules last k b i e m in ap (λ q. is_some q && u) z.1

    seen-entry : (b : Block) (i : Instr) → Member b f.blocks → Member i b.instrs → table_live x f v (Entry i.id) ≡ some_lane x v (λ l. entry_at x (Some l) i.id)
    seen-entry b i m n = let k = member-slice b f.blocks m in there-is k.0 b i k.1 n (some_lane x v (λ l. entry_at x (Some l) i.id))

    seen-end : (k : ℕ) (b : Block) → slice_get f.blocks k ≡ Some b → table_live x f v (last_point (Start b.number) b.instrs) ≡ leaves_block x v k (Some b)
    seen-end k b e = go b.instrs (λ i m u. there-is k b i e m u)
      where
        place : place_of b.number f.blocks ≡ Some k
        place = place-is t f (number_in x.lanes) rules k b e

        go : (is : List Instr) → ((i : Instr) → Member i is → (u : Bool) → if_there f.blocks i.id u ≡ u) → table_live x f v (last_point (Start b.number) is) ≡ leaves_last x v k (slice_get is (length is - 1))
        go [] h = ap (at_home (λ b. some_lane x v (λ l. is_live (causes x.rows.rows.items l b 0)))) place
        go (i ∷ is) h =
            let z = last-of (Start b.number) i is in
            ap (table_live x f v) z.1
            ∙ (h z.0 z.3 (some_lane x v (λ l. exit_at x (Some l) z.0.id))
            ∙ ap (leaves_last x v k) (sym z.2))

    pub shown : (ms : List Mark) → has_no_phis t f.blocks ≡ true → are_known t f.blocks ≡ true → length f.classes < 2147483648 → AreInTurn f ms → ShowsParts x f v ms (table_live x f v)
    shown ms phis known few turn =
        let tells : TellsInstrs f x = touched-law t f x computed rules last phis known in
        record {
          order = inside.ordered;
          finds = tells.finds;
          positions = λ k b e. computed.positions b.number ∙ place-is t f (number_in x.lanes) rules k b e;
          touched = tells.touched v;
          seen = record { entry = seen-entry; end = seen-end };
          few = few;
          marks = turn;
        }
