-- At which points a lane is live, as a computed table tells it.
use Rattle.std.proofs.Common.{◌≡◌, inl, ℕ, suc, Bool, true, false, cond, not, ◌&&◌, List, [], ◌∷◌, ◌++◌, Option, None, Some, map, refl, sym, ap, ◌∙◌, subst, arith}
use Rattle.std.specs.Prelude.{◌||◌, Decides, nat_eq, nat_lt, slice_get, slice_index}
use Rattle.std.specs.List.{list_any}
use Rattle.std.proofs.lemmas.Bool.{ltb-true, ne_eqb, le-leb, lt-leb, or_from, and_right}
use Rattle.slot_index.specs.Order.{number_of}
use Rattle.target_base.specs.declared.types.Target.{Target}
use Rattle.meaning.specs.declared.types.Lane.{Lane}
use Rattle.meaning.specs.declared.types.Lane.TheVariants.{VirtualLane}
use Rattle.meaning.specs.Code.{Code as Places}
use Rattle.meaning.specs.Live.{Among as Member, Live as LivePlace, LiveAfter, OccupiedBefore, OccupiedAfter}
use Rattle.mir_func.specs.declared.func.Block.{Block}
use Rattle.mir_func.specs.declared.func.Instr.{Instr}
use Rattle.mir_func.specs.Value.{Function}
use Rattle.mir_meaning.specs.Registers.{is_reserved}
use Rattle.mir_meaning.specs.Points.{Point, Start, Entry, Exit, points_of, from_instr, AtFirst, LiveAt, OccupiedAt, Tests}
use Rattle.mir_meaning.specs.Rules.{V8}
use Rattle.mir_meaning.specs.Paths.{Step, Code, steps_of}
use Rattle.instr_effects.specs.declared.owner.Owner.TheVariants as owners
use Rattle.instr_effects.specs.Numbered.{number_in}
use Rattle.instr_effects.specs.Steps.{Numbering}
use Rattle.live_laws.specs.Effects.Coded.{spot_in, KeepsRules}
use Rattle.live_laws.specs.Exact.Occupied.{TellsOccupied}
use Rattle.live_laws.proofs.Effects.Blocks.{place-block, slice-member}
use Rattle.live_laws.proofs.Exact.Coded.{place-is, place-same}
use Rattle.live_laws.proofs.Exact.Everywhere.{spot-at, numbered-at, no-start, no-entry, no-exit}
use Rattle.live_laws.proofs.Exact.Inside.{all, has-id, inside-law}
use Rattle.live_laws.proofs.Exact.Occupied.{occupied-law}
use Rattle.live_laws.proofs.Touch.Stepped.{steps-there}
use Rattle.live_lanes.specs.declared.row.LaneRange.{LaneRange}
use Rattle.live_lanes.specs.declared.table.Table.{Table}
use Rattle.live_lanes.specs.Graph.{writes_in}
use Rattle.live_lanes.specs.Table.{Numbers, Begun, Seen, entry_rank, exit_rank, end_rank, end_in, piece_at, rises_from}
use Rattle.live_lanes.specs.Entered.{start_of, starts, rows_seen, IsTableOf}
use Rattle.live_lanes.specs.Ends.{row_at}
use Rattle.live_lanes.specs.Held.{held_at, writes_at}
use Rattle.live_lanes.specs.Looks.{entry_at, exit_at}
use Rattle.live_lanes.specs.Ordered.{place_of}
use Rattle.live_lanes.specs.Reach.{is_never, reaches}
use Rattle.live_lanes.specs.Doing.{doing_of, lane_code, IsComputed}
use Rattle.live_lanes.proofs.Cells.{both-left, both-right}
use Rattle.live_lanes.proofs.Numbered.{entry-piece, exit-piece}
use Rattle.interval_laws.specs.Told.{number_live, told_live}

-- at a block's start the first piece alone tells

module _ (slots : Numbers) where
  none-written : (low : ℕ) (ss : List Begun) → rises_from slots low ss ≡ true → list_any (writes_at slots 0) ss ≡ false
  none-written low [] r = refl
  none-written low (s ∷ ss) r =
      let above = ltb-true low (number_of slots s.start) (both-left (nat_lt low (number_of slots s.start)) (rises_from slots (number_of slots s.start) ss) r) in
      or_from (writes_at slots 0 s) (list_any (writes_at slots 0) ss)
      (or_from (nat_eq (exit_rank slots s.start) 0) (s.early && nat_eq (entry_rank slots s.start) 0) (ne_eqb (exit_rank slots s.start) 0 (λ q. omega (arith, q))) (and_right s.early (nat_eq (entry_rank slots s.start) 0) (ne_eqb (entry_rank slots s.start) 0 (λ q. omega (arith, q, above)))))
      (none-written (number_of slots s.start) ss (both-right (nat_lt low (number_of slots s.start)) (rises_from slots (number_of slots s.start) ss) r))

  first-piece : (ss : List Begun) → piece_at slots 0 ss ≡ 0
  first-piece [] = refl
  first-piece (s ∷ ss) = ap (λ b. cond b (suc (piece_at slots 0 ss)) 0) (lt-leb (exit_rank slots s.start) 0 (omega arith))

  pub held-start : (v : Seen) → rises_from slots 0 v.segments ≡ true → held_at slots v 0 ≡ not (is_never v.end)
  held-start v r =
      ap (λ b. reaches slots (end_in v (piece_at slots 0 v.segments)) 0 || b) (none-written 0 v.segments r)
      ∙ ap (λ n. reaches slots (end_in v n) 0 || false) (first-piece v.segments)
      ∙ ap (λ b. (not (is_never v.end) && b) || false) (le-leb 0 (end_rank slots v.end) (omega arith))
      ∙ go (is_never v.end)
    where
      go : (b : Bool) → ((not b && true) || false) ≡ not b
      go true = refl
      go false = refl

nothing : {reserved : Lane → Bool} {code : Places} {l : Lane} → LivePlace reserved code [] l → ⊥
nothing h = elim h [ ]

-- a lane of a range that is live is occupied
module _ (t : Target) (f : Function) (v k : ℕ) where
  abbrev l : Lane
  l = VirtualLane v k

  pub live-occupied : (p : Point) → LiveAt t f p l → OccupiedAt t f p l
  live-occupied (Start n) h = h
  live-occupied (Entry id) h = go (from_instr t f id f.blocks) h
    where
      go : (c : Places) → LivePlace (is_reserved t) (points_of t f) c l → AtFirst (λ i p. OccupiedBefore (is_reserved t) (points_of t f) i p l) c
      go [] g = nothing g
      go (i ∷ c) g = (inl g, refl)
  live-occupied (Exit id) h = go (from_instr t f id f.blocks) h
    where
      go : (c : Places) → AtFirst (λ i p. LiveAfter (is_reserved t) (points_of t f) i p l) c → AtFirst (λ i p. OccupiedAfter (is_reserved t) (points_of t f) i p l) c
      go [] g = g
      go (i ∷ c) g = (inl g, refl)

map-append : {X Y : Type 0} (g : X → Y) (xs ys : List X) → map g (xs ++ ys) ≡ map g xs ++ map g ys
map-append g [] ys = refl
map-append g (x ∷ xs) ys = ap (λ zs. g x ∷ zs) (map-append g xs ys)

member-of : {X : Type 0} (x : X) (u w : List X) (xs : List X) → xs ≡ u ++ x ∷ w → (k : ℕ) × (slice_get xs k ≡ Some x)
member-of {X} x u w xs e = let z = go u in (z.0, ap (λ ys. slice_get ys z.0) e ∙ z.1)
  where
    go : (u : List X) → (k : ℕ) × (slice_get (u ++ x ∷ w) k ≡ Some x)
    go [] = (0, refl)
    go (y ∷ u) = let z = go u in (suc z.0, z.1)

module _ (t : Target) (f : Function) (x : Table) (computed : IsComputed t f x) (rules : KeepsRules t f) (last : (b : Block) (j : ℕ) (i : Instr) → Member b f.blocks → slice_get b.instrs j ≡ Some i → V8 t b j i ≡ true) where
  abbrev num : Numbering
  num = number_in x.lanes

  abbrev slots : Numbers
  slots = x.order.slots

  abbrev rows : List LaneRange
  rows = x.rows.rows.items

  abbrev code : Code
  code = lane_code t f num

  abbrev pub step : Instr → Step
  step i = (doing_of t f num i).0

  pub table : IsTableOf code slots x.flow.items rows
  table = computed.table (all t f x computed rules last)

  tells : TellsOccupied t f x
  tells = occupied-law t f x computed rules last

  module _ (v k : ℕ) where
    abbrev is-live : Point → Type 0
    is-live p = LiveAt t f p (VirtualLane v k)

    never : (p : Point) → (is-live p → ⊥) → Decides false (is-live p)
    never p none = ((λ h. absurd (cc)), (λ z. absurd (none z)))

    no-number : number_in x.lanes (owners.Range v k) ≡ None → (p : Point) → is-live p → ⊥
    no-number e p h = let z = numbered-at t f x computed rules last (VirtualLane v k) refl p (live-occupied t f v k p h) in let g : None ≡ Some z.0 = sym e ∙ z.1 in cc

    module _ (n : ℕ) (e : number_in x.lanes (owners.Range v k) ≡ Some n) where
      decided : (p : Point) → Decides (number_live x f.blocks n p) (is-live p)
      decided (Start m) = go (place_of m f.blocks) refl
        where
          go : (q : Option ℕ) → place_of m f.blocks ≡ q → Decides (elim q [ None ↦ false | Some p ↦ held_at slots (rows_seen rows n p) 0 ]) (is-live (Start m))
          go None g = never (Start m) (λ z. no-start t f x computed rules last (VirtualLane v k) m g z)
          go (Some p) g =
              let b = place-block m f.blocks p (sym (place-same m f.blocks) ∙ g) in
              subst (λ y. Decides (held_at slots (rows_seen rows n p) 0) (is-live (Start y))) b.2 (tells.start (VirtualLane v k) n refl e p b.0 b.1)
      decided (Entry id) = go (spot_in id f.blocks) refl
        where
          go : (q : Option (ℕ × ℕ)) → spot_in id f.blocks ≡ q → Decides (elim q [ None ↦ false | Some p ↦ entry_at x (Some n) id ]) (is-live (Entry id))
          go None g = never (Entry id) (λ z. no-entry t f x computed rules last (VirtualLane v k) id g (live-occupied t f v k (Entry id) z))
          go (Some (p, j)) g = subst (λ q. Decides (entry_at x q id) (is-live (Entry id))) e ((inside-law t f x computed rules last).entry (VirtualLane v k) refl id p j g)
      decided (Exit id) = go (spot_in id f.blocks) refl
        where
          go : (q : Option (ℕ × ℕ)) → spot_in id f.blocks ≡ q → Decides (elim q [ None ↦ false | Some p ↦ exit_at x (Some n) id ]) (is-live (Exit id))
          go None g = never (Exit id) (λ z. no-exit t f x computed rules last (VirtualLane v k) id g (live-occupied t f v k (Exit id) z))
          go (Some (p, j)) g = subst (λ q. Decides (exit_at x q id) (is-live (Exit id))) e ((inside-law t f x computed rules last).exit (VirtualLane v k) refl refl id p j g)

    pub tests : Tests is-live (told_live x f.blocks v k)
    tests p = go (number_in x.lanes (owners.Range v k)) refl
      where
        go : (q : Option ℕ) → number_in x.lanes (owners.Range v k) ≡ q → Decides (elim q [ None ↦ false | Some n ↦ number_live x f.blocks n p ]) (is-live p)
        go None e = never p (no-number e p)
        go (Some n) e = decided n e p

  -- what is told in a block
  module _ (n p : ℕ) (b : Block) (at : slice_get f.blocks p ≡ Some b) where
    abbrev seen-here : Seen
    seen-here = rows_seen rows n p

    pub steps-are : steps_of code p ≡ map step b.instrs
    steps-are = steps-there (doing_of t f num) (λ m. place_of m f.blocks) f.blocks 0 f.blocks p b at

    pub pieces-are : map start_of seen-here.segments ≡ starts n (map step b.instrs)
    pieces-are = ap (λ h. h.segments) (table.entered n p) ∙ ap (starts n) steps-are

    are : map start_of seen-here.segments ≡ starts n (steps_of code p)
    are = ap (λ h. h.segments) (table.entered n p)

    split : (u : List Instr) (i : Instr) (w : List Instr) → b.instrs ≡ u ++ i ∷ w → steps_of code p ≡ map step u ++ step i ∷ map step w
    split u i w e = steps-are ∙ ap (map step) e ∙ map-append step u (i ∷ w)

    spot : (u : List Instr) (i : Instr) (w : List Instr) → b.instrs ≡ u ++ i ∷ w → (j : ℕ) × (spot_in i.id f.blocks ≡ Some (p, j)) × (slice_index x.order.block_of.items i.id ≡ p)
    spot u i w e =
        let j = member-of i u w b.instrs e in
        let z = spot-at t f x computed rules last p b i at (slice-member b.instrs j.0 i j.1) in
        (z.0, z.1, computed.homes p b i.id at (has-id b.instrs j.0 i j.1))

    pub live-entry : (u : List Instr) (i : Instr) (w : List Instr) → b.instrs ≡ u ++ i ∷ w → number_live x f.blocks n (Entry i.id) ≡ reaches slots (end_in seen-here (writes_in n (map step u))) (entry_rank slots i.id)
    live-entry u i w e =
        let z = spot u i w e in
        ap (λ q. elim q [ None ↦ false | Some p ↦ entry_at x (Some n) i.id ]) z.1
        ∙ ap (λ h. row_at slots rows n h (entry_rank slots i.id)) z.2
        ∙ ap (λ m. reaches slots (end_in seen-here m) (entry_rank slots i.id)) (entry-piece code slots table.numbered n p seen-here.segments are (map step u) (step i) (map step w) (split u i w e))

    pub live-exit : (u : List Instr) (i : Instr) (w : List Instr) → b.instrs ≡ u ++ i ∷ w → number_live x f.blocks n (Exit i.id) ≡ reaches slots (end_in seen-here (writes_in n (map step (u ++ i ∷ [])))) (exit_rank slots i.id)
    live-exit u i w e =
        let z = spot u i w e in
        ap (λ q. elim q [ None ↦ false | Some p ↦ exit_at x (Some n) i.id ]) z.1
        ∙ ap (λ h. row_at slots rows n h (exit_rank slots i.id)) z.2
        ∙ ap (λ m. reaches slots (end_in seen-here m) (exit_rank slots i.id)) (exit-piece code slots table.numbered n p seen-here.segments are (map step u) (step i) (map step w) (split u i w e) ∙ ap (writes_in n) (sym (map-append step u (i ∷ []))))

    pub live-start : number_live x f.blocks n (Start b.number) ≡ not (is_never seen-here.end)
    live-start = ap (λ q. elim q [ None ↦ false | Some y ↦ held_at slots (rows_seen rows n y) 0 ]) (place-is t f num rules p b at) ∙ held-start slots seen-here ((inside-law t f x computed rules last).ordered n p)
