-- A range is live at a border of a block just where it is at one of a block that a lane of it is in.
use Rattle.std.proofs.Common.{◌≡◌, ◌∙◌, ◌⊎◌, inl, inr, ℕ, zero, suc, ◌+◌, ◌-◌, ◌<◌, List, [], ◌∷◌, Bool, true, false, cond, refl, sym, ap, length, arith, Option, None, Some}
use Rattle.std.specs.Prelude.{◌||◌, nat_eq, nat_lt, slice_get, slice_index, option_map, find, flat_map}
use Rattle.std.specs.List.{list_any}
use Rattle.std.proofs.lemmas.Bool.{and_parts, and_from, or_cases, or_left, or_right, eqb-true, lt-ltb, ltb-true, true≢false}
use Rattle.target_base.specs.declared.types.Target.{Target}
use Rattle.instr_effects.specs.declared.row.LaneSpan.{LaneSpan}
use Rattle.mir_func.specs.declared.func.Instr.{Instr}
use Rattle.mir_func.specs.declared.func.Block.{Block}
use Rattle.mir_func.specs.Value.{Function}
use Rattle.mir_meaning.specs.Points.{Point, Start, Exit}
use Rattle.live_lanes.specs.declared.row.Cell.{Cell}
use Rattle.live_lanes.specs.declared.row.LaneRange.{LaneRange}
use Rattle.live_lanes.specs.declared.table.Table.{Table}
use Rattle.live_lanes.specs.Table.{Seen, unseen, seen, seen_in, find_cell, exit_rank}
use Rattle.live_lanes.specs.Reach.{seen_at}
use Rattle.live_lanes.specs.Ends.{row_at}
use Rattle.live_lanes.specs.Graph.{is_live}
use Rattle.live_lanes.specs.Entered.{causes, cells_of, rows_seen}
use Rattle.live_lanes.specs.Looks.{exit_at}
use Rattle.mir_meaning.specs.Paths.{has}
use Rattle.live_lanes.specs.Ordered.{place_of, ids_of}
use Rattle.live_lanes.specs.Touching.{some_lane, some_of, some_below, leaves_last, leaves_block}
use Rattle.split_choose.specs.Seen.{seen_live, at_home, FindsPlaces}
use Rattle.split_choose.specs.Offers.{View, In, Out, live_at, borders, last_point, end_point}
use Rattle.split_choose.specs.Blocks.{at_border, lane_at_border}
use Rattle.split_choose.proofs.Placed.{has-at}

-- cells

cell-found : (g : ℕ → Bool) (k : ℕ) (cs : List Cell) (c : Cell) → find_cell k cs ≡ Some c → g k ≡ true → list_any (λ d. g d.block) cs ≡ true
cell-found g k [] c e h = cc
cell-found g k (d ∷ cs) c e h = go (nat_eq d.block k) refl (cell-found g k cs c)
  where
    go : (b : Bool) → nat_eq d.block k ≡ b → (find_cell k cs ≡ Some c → g k ≡ true → list_any (λ r. g r.block) cs ≡ true) → list_any (λ r. g r.block) (d ∷ cs) ≡ true
    go true f ih = or_left (g d.block) (list_any (λ (r : Cell). g r.block) cs) (ap g (eqb-true d.block k f) ∙ h)
    go false f ih = or_right (g d.block) (list_any (λ (r : Cell). g r.block) cs) (ih (sym (ap (λ q. cond q (Some d) (find_cell k cs)) f) ∙ e) h)

-- where something is seen of a lane in a block, the lane has a cell there
seen-cell : (look : Seen → Bool) → look unseen ≡ false → (g : ℕ → Bool) (rows : List LaneRange) (l k : ℕ) → look (rows_seen rows l k) ≡ true → g k ≡ true → list_any (λ c. g c.block) (cells_of rows l) ≡ true
seen-cell look none g rows l k h t = go (slice_get rows l) refl
  where
    go : (o : Option LaneRange) → slice_get rows l ≡ o → list_any (λ c. g c.block) (cells_of rows l) ≡ true
    go None e = absurd (true≢false (sym h ∙ (ap (λ q. look (elim q [ None ↦ unseen | Some r ↦ seen_in r.cells.items k ])) e ∙ none)))
    go (Some r) e = ap (λ q. list_any (λ (c : Cell). g c.block) (elim q [ None ↦ [] | Some r ↦ r.cells.items ])) e ∙ in-row (find_cell k r.cells.items) refl
      where
        there : look (seen_in r.cells.items k) ≡ true
        there = sym (ap (λ q. look (elim q [ None ↦ unseen | Some r ↦ seen_in r.cells.items k ])) e) ∙ h

        in-row : (o : Option Cell) → find_cell k r.cells.items ≡ o → list_any (λ c. g c.block) r.cells.items ≡ true
        in-row None f = absurd (true≢false (sym there ∙ (ap (λ q. look (seen q)) f ∙ none)))
        in-row (Some c) f = cell-found g k r.cells.items c f t

-- lanes

below-weaker : (p q : ℕ → Bool) → ((l : ℕ) → p l ≡ true → q l ≡ true) → (first n : ℕ) → some_below p first n ≡ true → some_below q first n ≡ true
below-weaker p q w first zero h = h
below-weaker p q w first (suc n) h = go (or_cases (p (first + n)) (some_below p first n) h) (below-weaker p q w first n)
  where
    go : (p (first + n) ≡ true) ⊎ (some_below p first n ≡ true) → (some_below p first n ≡ true → some_below q first n ≡ true) → some_below q first (suc n) ≡ true
    go (inl a) ih = or_left (q (first + n)) (some_below q first n) (w (first + n) a)
    go (inr a) ih = or_right (q (first + n)) (some_below q first n) (ih a)

lane-weaker : (x : Table) (v : ℕ) (p q : ℕ → Bool) → ((l : ℕ) → p l ≡ true → q l ≡ true) → some_lane x v p ≡ true → some_lane x v q ≡ true
lane-weaker x v p q w h = go (slice_get x.lanes.ranges.items v) h
  where
    go : (o : Option LaneSpan) → some_of p o ≡ true → some_of q o ≡ true
    go None a = a
    go (Some own) a = below-weaker p q w own.first own.count a

below-some : (p : ℕ → Bool) (first n : ℕ) → some_below p first n ≡ true → (l : ℕ) × (p l ≡ true)
below-some p first zero h = absurd (true≢false (sym h))
below-some p first (suc n) h = go (or_cases (p (first + n)) (some_below p first n) h) (below-some p first n)
  where
    go : (p (first + n) ≡ true) ⊎ (some_below p first n ≡ true) → (some_below p first n ≡ true → (l : ℕ) × (p l ≡ true)) → (l : ℕ) × (p l ≡ true)
    go (inl a) ih = (first + n, a)
    go (inr a) ih = ih a

lane-some : (x : Table) (v : ℕ) (p : ℕ → Bool) → some_lane x v p ≡ true → (l : ℕ) × (p l ≡ true)
lane-some x v p h = go (slice_get x.lanes.ranges.items v) h
  where
    go : (o : Option LaneSpan) → some_of p o ≡ true → (l : ℕ) × (p l ≡ true)
    go None a = absurd (true≢false (sym a))
    go (Some own) a = below-some p own.first own.count a

any-cell : (g : ℕ → Bool) (cs : List Cell) → list_any (λ c. g c.block) cs ≡ true → (k : ℕ) × (g k ≡ true)
any-cell g [] h = absurd (true≢false (sym h))
any-cell g (c ∷ cs) h = go (or_cases (g c.block) (list_any (λ (d : Cell). g d.block) cs) h) (any-cell g cs)
  where
    go : (g c.block ≡ true) ⊎ (list_any (λ d. g d.block) cs ≡ true) → (list_any (λ d. g d.block) cs ≡ true → (k : ℕ) × (g k ≡ true)) → (k : ℕ) × (g k ≡ true)
    go (inl a) ih = (c.block, a)
    go (inr a) ih = ih a

get-there : {X : Type 0} (xs : List X) (k : ℕ) → k < length xs → (x : X) × (slice_get xs k ≡ Some x)
get-there [] k h = absurd (omega arith)
get-there (x ∷ xs) zero h = (x, refl)
get-there (x ∷ xs) (suc k) h = get-there xs k (omega arith)

get-within : {X : Type 0} (xs : List X) (k : ℕ) (x : X) → slice_get xs k ≡ Some x → k < length xs
get-within [] k x e = cc
get-within (y ∷ xs) zero x e = omega arith
get-within (y ∷ xs) (suc k) x e = let h : k < length xs = get-within xs k x e in omega arith

-- the block of a number

find-placed : (n k : ℕ) (bs : List Block) (b : Block) → place_of n bs ≡ Some k → slice_get bs k ≡ Some b → find (λ c. nat_eq c.number n) bs ≡ Some b
find-placed n k [] b e at = cc
find-placed n k (c ∷ bs) b e at = go (nat_eq c.number n) (place_of n bs) refl refl (λ m h g. find-placed n m bs b h g)
  where
    placed-there : (o : Option ℕ) (d : Bool) → nat_eq c.number n ≡ d → cond d (Some 0) (option_map (λ m. suc m) (place_of n bs)) ≡ Some k
    placed-there o d f = sym (ap (λ q. cond q (Some 0) (option_map (λ m. suc m) (place_of n bs))) f) ∙ e

    go : (d : Bool) (o : Option ℕ) → nat_eq c.number n ≡ d → place_of n bs ≡ o → ((m : ℕ) → place_of n bs ≡ Some m → slice_get bs m ≡ Some b → find (λ r. nat_eq r.number n) bs ≡ Some b) → find (λ r. nat_eq r.number n) (c ∷ bs) ≡ Some b
    go true o f p ih = let q : Some 0 ≡ Some k = placed-there o true f in let z : 0 ≡ k = cc in rw f (ap (slice_get (c ∷ bs)) z ∙ at)
    go false None f p ih = let q : None ≡ Some k = sym (ap (option_map (λ m. suc m)) p) ∙ placed-there None false f in cc
    go false (Some m) f p ih =
        let q : Some (suc m) ≡ Some k = sym (ap (option_map (λ m. suc m)) p) ∙ placed-there (Some m) false f in
        let z : suc m ≡ k = cc in
        rw f (ih m p (ap (slice_get (c ∷ bs)) z ∙ at))

-- the point at a block's end

last-cons : (p : Point) (i : Instr) (is : List Instr) → (j : Instr) × (slice_get (i ∷ is) (length (i ∷ is) - 1) ≡ Some j) × (last_point p (i ∷ is) ≡ Exit j.id)
last-cons p i [] = (i, refl, refl)
last-cons p i (j ∷ is) =
    let n : suc (suc (length is)) - 1 ≡ suc (suc (length is) - 1) = omega arith in
    let r = last-cons (Exit i.id) j is in
    (r.0, ap (slice_get (i ∷ j ∷ is)) n ∙ r.1, r.2)

last-stands : (is : List Instr) (n : ℕ) (j : Instr) → slice_get is n ≡ Some j → has j.id (ids_of is) ≡ true
last-stands is n j e = has-at is n j e

module _ (t : Target) (f : Function) (x : Table) (v : ℕ) (view : View) (finds : FindsPlaces t f x v) (lives : (p : Point) → view.live p ≡ seen_live x f.blocks v p) where
  into : ℕ → Bool
  into k = some_lane x v (λ l. is_live (causes x.rows.rows.items l k 0))

  pub at-start : (b : Block) (k : ℕ) → slice_get f.blocks k ≡ Some b → view.live (Start b.number) ≡ some_lane x v (λ l. is_live (causes x.rows.rows.items l k 0))
  at-start b k at = lives (Start b.number) ∙ ap (at_home (λ c. some_lane x v (λ l. is_live (causes x.rows.rows.items l c 0)))) (finds.placed k b at)

  pub at-end : (b : Block) (k : ℕ) → slice_get f.blocks k ≡ Some b → (is : List Instr) → b.instrs ≡ is → view.live (last_point (Start b.number) is) ≡ leaves_last x v k (slice_get is (length is - 1))
  at-end b k at [] e = at-start b k at
  at-end b k at (i ∷ is) e =
      let r = last-cons (Start b.number) i is in
      ap view.live r.2 ∙ (lives (Exit r.0.id) ∙ sym (ap (leaves_last x v k) r.1))

  border-at : (b : Block) (k : ℕ) → slice_get f.blocks k ≡ Some b → (live_at t f v view (In b.number) || live_at t f v view (Out b.number)) ≡ (some_lane x v (λ l. is_live (causes x.rows.rows.items l k 0)) || leaves_block x v k (slice_get f.blocks k))
  border-at b k at =
      let first = at-start b k at in
      let last : live_at t f v view (Out b.number) ≡ leaves_block x v k (slice_get f.blocks k) =
      ap (λ o. elim o [ None ↦ false | Some c ↦ view.live (end_point c) ]) (find-placed b.number k f.blocks b (finds.placed k b at) at) ∙ (at-end b k at b.instrs refl ∙ sym (ap (leaves_block x v k) at)) in
      ap (λ c. c || live_at t f v view (Out b.number)) first ∙ ap (λ c. some_lane x v (λ l. is_live (causes x.rows.rows.items l k 0)) || c) last

  -- a border at which the range is live is one of a block at some position
  border-of : (bs : List Block) (o : ℕ) → ((j : ℕ) (b : Block) → slice_get bs j ≡ Some b → slice_get f.blocks (o + j) ≡ Some b)
      → list_any (live_at t f v view) (flat_map (λ b. In b.number ∷ Out b.number ∷ []) bs) ≡ true
      → (k : ℕ) × (b : Block) × (slice_get f.blocks k ≡ Some b) × ((live_at t f v view (In b.number) || live_at t f v view (Out b.number)) ≡ true)
  border-of [] o at h = absurd (true≢false (sym h))
  border-of (b ∷ bs) o at h = go (live_at t f v view (In b.number)) refl (live_at t f v view (Out b.number)) refl (border-of bs (suc o) (λ j c e. (let m : suc o + j ≡ o + suc j = omega arith in ap (slice_get f.blocks) m ∙ at (suc j) c e)))
    where
      here : slice_get f.blocks o ≡ Some b
      here = let e : o ≡ o + 0 = omega arith in ap (slice_get f.blocks) e ∙ at 0 b refl

      go : (p : Bool) → live_at t f v view (In b.number) ≡ p → (q : Bool) → live_at t f v view (Out b.number) ≡ q
          → (list_any (live_at t f v view) (flat_map (λ c. In c.number ∷ Out c.number ∷ []) bs) ≡ true → (k : ℕ) × (c : Block) × (slice_get f.blocks k ≡ Some c) × ((live_at t f v view (In c.number) || live_at t f v view (Out c.number)) ≡ true))
          → (k : ℕ) × (c : Block) × (slice_get f.blocks k ≡ Some c) × ((live_at t f v view (In c.number) || live_at t f v view (Out c.number)) ≡ true)
      go true e q g ih = (o, b, here, or_left (live_at t f v view (In b.number)) (live_at t f v view (Out b.number)) e)
      go false e true g ih = (o, b, here, or_right (live_at t f v view (In b.number)) (live_at t f v view (Out b.number)) g)
      go false e false g ih = ih (sym (ap (λ c. c || (live_at t f v view (Out b.number) || list_any (live_at t f v view) (flat_map (λ (c : Block). In c.number ∷ Out c.number ∷ []) bs))) e
          ∙ ap (λ c. c || list_any (live_at t f v view) (flat_map (λ (c : Block). In c.number ∷ Out c.number ∷ []) bs)) g) ∙ h)

  border-there : (bs : List Block) (j : ℕ) (b : Block) → slice_get bs j ≡ Some b → (live_at t f v view (In b.number) || live_at t f v view (Out b.number)) ≡ true
      → list_any (live_at t f v view) (flat_map (λ b. In b.number ∷ Out b.number ∷ []) bs) ≡ true
  border-there [] j b e h = cc
  border-there (c ∷ bs) zero b e h =
      let q : c ≡ b = cc in
      let g : (live_at t f v view (In c.number) || live_at t f v view (Out c.number)) ≡ true = ap (λ (d : Block). live_at t f v view (In d.number) || live_at t f v view (Out d.number)) q ∙ h in
      go (or_cases (live_at t f v view (In c.number)) (live_at t f v view (Out c.number)) g)
    where
      rest : Bool
      rest = list_any (live_at t f v view) (flat_map (λ d. In d.number ∷ Out d.number ∷ []) bs)

      go : (live_at t f v view (In c.number) ≡ true) ⊎ (live_at t f v view (Out c.number) ≡ true) → (live_at t f v view (In c.number) || (live_at t f v view (Out c.number) || rest)) ≡ true
      go (inl a) = or_left (live_at t f v view (In c.number)) (live_at t f v view (Out c.number) || rest) a
      go (inr a) = or_right (live_at t f v view (In c.number)) (live_at t f v view (Out c.number) || rest) (or_left (live_at t f v view (Out c.number)) rest a)
  border-there (c ∷ bs) (suc j) b e h =
      let rest = list_any (live_at t f v view) (flat_map (λ (d : Block). In d.number ∷ Out d.number ∷ []) bs) in
      or_right (live_at t f v view (In c.number)) (live_at t f v view (Out c.number) || rest) (or_right (live_at t f v view (Out c.number)) rest (border-there bs j b e h))

  -- where the range is live at a border of the block, one of its lanes has a cell there
  lane-there : (k : ℕ) (b : Block) → slice_get f.blocks k ≡ Some b → at_border x f.blocks v k ≡ true → (some_lane x v (λ l. is_live (causes x.rows.rows.items l k 0)) || leaves_block x v k (slice_get f.blocks k)) ≡ true
      → some_lane x v (lane_at_border x f.blocks v) ≡ true
  lane-there k b at border h = go (or_cases (some_lane x v (λ l. is_live (causes x.rows.rows.items l k 0))) (leaves_block x v k (slice_get f.blocks k)) h)
    where
      from-start : some_lane x v (λ l. is_live (causes x.rows.rows.items l k 0)) ≡ true → some_lane x v (lane_at_border x f.blocks v) ≡ true
      from-start = lane-weaker x v (λ l. is_live (causes x.rows.rows.items l k 0)) (lane_at_border x f.blocks v)
          (λ l a. seen-cell (λ s. is_live s.cause) refl (at_border x f.blocks v) x.rows.rows.items l k a border)

      from-end : (o : Option Instr) → slice_get b.instrs (length b.instrs - 1) ≡ o → leaves_last x v k o ≡ true → some_lane x v (lane_at_border x f.blocks v) ≡ true
      from-end None e a = from-start a
      from-end (Some i) e a =
          let home : slice_index x.order.block_of.items i.id ≡ k = finds.instrs.homes k b i.id at (last-stands b.instrs (length b.instrs - 1) i e) in
          lane-weaker x v (λ l. exit_at x (Some l) i.id) (lane_at_border x f.blocks v)
          (λ l c. seen-cell (λ s. seen_at x.order.slots s (exit_rank x.order.slots i.id)) refl (at_border x f.blocks v) x.rows.rows.items l k
          (ap (λ n. row_at x.order.slots x.rows.rows.items l n (exit_rank x.order.slots i.id)) (sym home) ∙ c) border) a

      go : (some_lane x v (λ l. is_live (causes x.rows.rows.items l k 0)) ≡ true) ⊎ (leaves_block x v k (slice_get f.blocks k) ≡ true) → some_lane x v (lane_at_border x f.blocks v) ≡ true
      go (inl a) = from-start a
      go (inr a) = from-end (slice_get b.instrs (length b.instrs - 1)) refl (sym (ap (leaves_block x v k) at) ∙ a)

  to-lane : list_any (live_at t f v view) (borders t f v view) ≡ true → some_lane x v (lane_at_border x f.blocks v) ≡ true
  to-lane h =
      let r = border-of f.blocks 0 (λ j b e. (let z : 0 + j ≡ j = omega arith in ap (slice_get f.blocks) z ∙ e)) h in
      let here = sym (border-at r.1 r.0 r.2) ∙ r.3 in
      lane-there r.0 r.1 r.2 (and_from (nat_lt r.0 (length f.blocks)) (some_lane x v (λ l. is_live (causes x.rows.rows.items l r.0 0)) || leaves_block x v r.0 (slice_get f.blocks r.0)) (lt-ltb r.0 (length f.blocks) (get-within f.blocks r.0 r.1 r.2)) here) here

  from-lane : some_lane x v (lane_at_border x f.blocks v) ≡ true → list_any (live_at t f v view) (borders t f v view) ≡ true
  from-lane h =
      let l = lane-some x v (lane_at_border x f.blocks v) h in
      let k = any-cell (at_border x f.blocks v) (cells_of x.rows.rows.items l.0) l.1 in
      let p = and_parts (nat_lt k.0 (length f.blocks)) (some_lane x v (λ l. is_live (causes x.rows.rows.items l k.0 0)) || leaves_block x v k.0 (slice_get f.blocks k.0)) k.1 in
      let b = get-there f.blocks k.0 (ltb-true k.0 (length f.blocks) p.0) in
      border-there f.blocks k.0 b.0 b.1 (border-at b.0 k.0 b.1 ∙ p.1)

  pub borders-by-lanes : some_lane x v (lane_at_border x f.blocks v) ≡ list_any (live_at t f v view) (borders t f v view)
  borders-by-lanes = same (some_lane x v (lane_at_border x f.blocks v)) (list_any (live_at t f v view) (borders t f v view)) from-lane to-lane
    where
      same : (a b : Bool) → (a ≡ true → b ≡ true) → (b ≡ true → a ≡ true) → a ≡ b
      same true b p q = sym (p refl)
      same false true p q = q refl
      same false false p q = refl
