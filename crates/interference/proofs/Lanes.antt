-- Tables of lists into which a range's extents are put, cell by cell and lane by lane.
use Rattle.std.proofs.Common.{◌≡◌, ◌<◌, ◌≤◌, ◌+◌, ◌⊎◌, ℕ, zero, suc, Bool, true, false, cond, ◌&&◌, length, take, List, [], ◌∷◌, ◌++◌, Option, None, Some, inl, inr, refl, sym, ap, ◌∙◌, subst, arith, append-nil, eqb-true, eq-eqb}
use Rattle.std.specs.Prelude.{◌||◌, nat_eq, slice_get, is_some}
use Rattle.std.specs.List.{list_any}
use Rattle.std.proofs.lemmas.Bool.{ltb-true}
use Rattle.std.proofs.lemmas.List.{take_all}
use Rattle.live_lanes.specs.declared.ask.extent.Extent.{Extent}
use Rattle.live_lanes.specs.declared.row.Cell.{Cell}
use Rattle.live_lanes.specs.declared.row.LaneRange.{LaneRange}
use Rattle.live_lanes.specs.declared.table.Table.{Table}
use Rattle.live_lanes.specs.Table.{Numbers, find_cell, descends, is_below}
use Rattle.live_lanes.specs.Entered.{cells_of}
use Rattle.live_lanes.specs.Extents.{cell_extents, stretch_of, some_extents}
use Rattle.live_lanes.proofs.Cells.{is-found, both-left, both-right}
use Rattle.interference.specs.declared.held.HeldList.{HeldList}
use Rattle.interference.specs.declared.unit_table.UnitTable.{UnitTable}
use Rattle.interference.specs.Clashes.{AreApart, AreFilled, held_of, held_of_some, list_in, is_taken}
use Rattle.interference.specs.Changes.{others_of, own_of}
use Rattle.interference.specs.Listed.{lane_extents, listed, AreInTurn, has_some, IsFront, HasRoom, IsKept, IsBegun, IsFilled, ChangesAt, ChangesCell, AreSorted, KeepsOthers, Lots, LaneHasRoom, with_lane, Begins, Fills}
use Rattle.interference.proofs.Owned.{taken-others}
use Rattle.interference.proofs.Lots.{holds-is, is_at, at-both, or_cell, this_cell, find-last, take-next}

-- the cells of a lane, each in a block of its own

rows-fall : (rows : List LaneRange) (n : ℕ) → descends (cells_of rows n) ≡ true
rows-fall rows n = go (slice_get rows n)
  where
    go : (o : Option LaneRange) → descends (elim o [ None ↦ [] | Some r ↦ r.cells.items ]) ≡ true
    go None = refl
    go (Some r) = r.sorted

falls : (y : Cell) (ys : List Cell) (j : ℕ) (z : Cell) → descends (y ∷ ys) ≡ true → slice_get ys j ≡ Some z → z.block < y.block
falls y [] j z d e = absurd (cc)
falls y (w ∷ ys) zero z d e =
    let same : w ≡ z = cc in
    subst (λ q. q.block < y.block) same (ltb-true w.block y.block (both-left (is_below y.block (w ∷ ys)) (descends (w ∷ ys)) d))
falls y (w ∷ ys) (suc j) z d e =
    let low = ltb-true w.block y.block (both-left (is_below y.block (w ∷ ys)) (descends (w ∷ ys)) d) in
    let ih = falls w ys j z (both-right (is_below y.block (w ∷ ys)) (descends (w ∷ ys)) d) e in omega arith

-- ahead of a cell stands none of its block
none-ahead : (cs : List Cell) (i : ℕ) (c : Cell) → descends cs ≡ true → slice_get cs i ≡ Some c → find_cell c.block (take i cs) ≡ None
none-ahead [] i c d e = absurd (cc)
none-ahead (x ∷ cs) zero c d e = refl
none-ahead (x ∷ cs) (suc i) c d e = go (nat_eq x.block c.block) refl (none-ahead cs i c (both-right (is_below x.block cs) (descends cs) d) e)
  where
    go : (u : Bool) → nat_eq x.block c.block ≡ u → find_cell c.block (take i cs) ≡ None → cond u (Some x) (find_cell c.block (take i cs)) ≡ None
    go true f ih = absurd (let low = falls x cs i c d e in let same : x.block ≡ c.block = eqb-true x.block c.block f in omega arith)
    go false f ih = ih

found-front : (p : ℕ) (cs : List Cell) (n : ℕ) (d : Cell) → find_cell p (take n cs) ≡ Some d → find_cell p cs ≡ Some d
found-front p cs zero d e = absurd (cc)
found-front p [] (suc n) d e = absurd (cc)
found-front p (y ∷ cs) (suc n) d e = step (nat_eq y.block p) e (found-front p cs n d)
  where
    step : (t : Bool) → cond t (Some y) (find_cell p (take n cs)) ≡ Some d → (find_cell p (take n cs) ≡ Some d → find_cell p cs ≡ Some d) → cond t (Some y) (find_cell p cs) ≡ Some d
    step true f ih = f
    step false f ih = ih f

module _ (x : Table) (v : ℕ) where
  abbrev slots : Numbers
  slots = x.order.slots

  -- what the range holds, and the first cells of a lane
  abbrev pub with_cells : ℕ → List Cell → UnitTable → Lots
  with_cells unit cs a u b = own_of v (listed a u b) ++ cond (nat_eq unit u) (some_extents (find_cell b cs)) []

  pub fills-none : (unit : ℕ) (a : UnitTable) → AreSorted slots a → Fills slots v (with_cells unit [] a) a a
  fills-none unit a sorted = record {
    sorted = sorted;
    others = record { there = λ u b. refl; others = λ u b. refl };
    own = λ u b. sym (nothing u b);
  }
    where
      nothing : (u b : ℕ) → own_of v (listed a u b) ++ cond {A = List Extent} (nat_eq unit u) [] [] ≡ own_of v (listed a u b)
      nothing u b = go (nat_eq unit u)
        where
          go : (t : Bool) → own_of v (listed a u b) ++ cond {A = List Extent} t [] [] ≡ own_of v (listed a u b)
          go true = append-nil (own_of v (listed a u b))
          go false = append-nil (own_of v (listed a u b))

  some-none : (es : List Extent) → has_some es ≡ false → es ≡ []
  some-none [] e = refl
  some-none (y ∷ es) e = absurd (cc)

  module _ (unit lane : ℕ) (old cur new : UnitTable) (i : ℕ) (c : Cell) (at : slice_get (cells_of x.rows.rows.items lane) i ≡ Some c) (room : LaneHasRoom x v unit (Some lane) old) (so : Fills slots v (with_cells unit (take i (cells_of x.rows.rows.items lane)) old) old cur) where
    abbrev cells : List Cell
    cells = cells_of x.rows.rows.items lane

    found : find_cell c.block cells ≡ Some c
    found = is-found cells i c (rows-fall x.rows.rows.items lane) at

    ahead : find_cell c.block (take i cells) ≡ None
    ahead = none-ahead cells i c (rows-fall x.rows.rows.items lane) at

    here-extents : lane_extents x (Some lane) c.block ≡ cell_extents c
    here-extents = ap some_extents found

    own-none : own_of v (listed cur unit c.block) ≡ []
    own-none =
        so.own unit c.block
        ∙ ap (λ es. es ++ cond (nat_eq unit unit) (some_extents (find_cell c.block (take i cells))) []) (room.none c.block)
        ∙ ap (λ q. cond (nat_eq unit unit) (some_extents q) []) ahead
        ∙ same-cond (nat_eq unit unit)
      where
        same-cond : (t : Bool) → cond {A = List Extent} t [] [] ≡ []
        same-cond true = refl
        same-cond false = refl

    -- the list of the cell's block has room
    has-room : (l : HeldList) → list_in cur unit c.block ≡ Some l → HasRoom slots v (cell_extents c) l
    has-room l e =
        let is = holds-is cur unit c.block (Some l) e in
        record {
          filled = so.sorted.filled unit c.block l e;
          apart = subst (AreApart slots 0) is (so.sorted.apart unit c.block);
          none = ap (own_of v) (sym is) ∙ own-none;
          turns = subst (AreInTurn slots 0) here-extents (room.turns c.block);
          clear = any-same (cell_extents c) (λ y. is_taken slots (held_of l) v (stretch_of slots y)) (λ y. is_taken slots (listed old unit c.block) v (stretch_of slots y)) (λ y. taken-same y is) ∙ subst (λ es. list_any (λ y. is_taken slots (listed old unit c.block) v (stretch_of slots y)) es ≡ false) here-extents (room.clear c.block);
        }
      where
        any-same : (es : List Extent) (p q : Extent → Bool) → ((y : Extent) → p y ≡ q y) → list_any p es ≡ list_any q es
        any-same [] p q f = refl
        any-same (y ∷ es) p q f = ap (λ b. b || list_any p es) (f y) ∙ ap (λ b. q y || b) (any-same es p q f)

        taken-same : (y : Extent) → listed cur unit c.block ≡ held_of l → is_taken slots (held_of l) v (stretch_of slots y) ≡ is_taken slots (listed old unit c.block) v (stretch_of slots y)
        taken-same y is =
            ap (λ hs. is_taken slots hs v (stretch_of slots y)) (sym is) ∙ sym (taken-others slots v (stretch_of slots y) (listed cur unit c.block))
            ∙ ap (λ hs. is_taken slots hs v (stretch_of slots y)) (so.others.others unit c.block) ∙ taken-others slots v (stretch_of slots y) (listed old unit c.block)

    -- without a list there is nothing to put in
    no-list : list_in cur unit c.block ≡ None → cell_extents c ≡ []
    no-list e = sym here-extents ∙ go (has_some (lane_extents x (Some lane) c.block)) refl
      where
        go : (t : Bool) → has_some (lane_extents x (Some lane) c.block) ≡ t → lane_extents x (Some lane) c.block ≡ []
        go true f = absurd (let z : true ≡ false = sym (room.there c.block f) ∙ sym (so.others.there unit c.block) ∙ ap is_some e in cc)
        go false f = some-none (lane_extents x (Some lane) c.block) f

    own-here : with_cells unit (take (i + 1) cells) old unit c.block ≡ cell_extents c
    own-here =
        ap (λ es. es ++ cond (nat_eq unit unit) (some_extents (find_cell c.block (take (i + 1) cells))) []) (room.none c.block)
        ∙ ap (λ t. cond t (some_extents (find_cell c.block (take (i + 1) cells))) []) (eq-eqb unit unit refl)
        ∙ ap some_extents (ap (find_cell c.block) (take-next cells i c at) ∙ find-last c.block (take i cells) c ∙ ap (λ q. or_cell q (this_cell c.block c)) ahead ∙ ap (λ t. cond t (Some c) None) (eq-eqb c.block c.block refl))

    own-else : (u b : ℕ) → is_at unit c.block u b ≡ false → with_cells unit (take (i + 1) cells) old u b ≡ with_cells unit (take i cells) old u b
    own-else u b e = ap (λ es. own_of v (listed old u b) ++ es) (go (nat_eq unit u) e)
      where
        skip : (q : Option Cell) → nat_eq c.block b ≡ false → or_cell q (this_cell b c) ≡ q
        skip None g = ap (λ t. cond t (Some c) None) g
        skip (Some d) g = refl

        go : (t : Bool) → (t && nat_eq c.block b) ≡ false → cond t (some_extents (find_cell b (take (i + 1) cells))) [] ≡ cond t (some_extents (find_cell b (take i cells))) []
        go true f = ap some_extents (ap (find_cell b) (take-next cells i c at) ∙ find-last b (take i cells) c ∙ skip (find_cell b (take i cells)) f)
        go false f = refl

    same-place : (f : UnitTable) (u p : ℕ) → is_at unit c.block u p ≡ true → list_in f u p ≡ list_in f unit c.block
    same-place f u p e = let z = at-both unit c.block u p e in ap (λ y. list_in f y p) (sym z.0) ∙ ap (λ y. list_in f unit y) (sym z.1)

    -- how the list there changes
    module _ (P : HeldList → HeldList → Type 0) (change : ChangesAt P unit c.block cur new) (kept : (l k : HeldList) → P l k → HasRoom slots v (cell_extents c) l → IsKept slots v l k) where
      abbrev At : Type 0
      At = ((l : HeldList) × (k : HeldList) × (list_in cur unit c.block ≡ Some l) × (list_in new unit c.block ≡ Some k) × P l k) ⊎ ((list_in cur unit c.block ≡ None) × (list_in new unit c.block ≡ None))

      here-at : At
      here-at = go (list_in cur unit c.block) refl
        where
          go : (o : Option HeldList) → list_in cur unit c.block ≡ o → At
          go None e = inr (e, change.none e)
          go (Some l) e = let z = change.here l e in inl (l, z.0, e, z.1, z.2)

      filled-now : (u p : ℕ) (l : HeldList) (t : Bool) → is_at unit c.block u p ≡ t → list_in new u p ≡ Some l → AreFilled l
      filled-now u p l true e f = go here-at
        where
          go : At → AreFilled l
          go (inl (m, k, a, b, z)) = let q : Some k ≡ Some l = sym b ∙ sym (same-place new u p e) ∙ f in let same : k ≡ l = cc in subst AreFilled same (kept m k z (has-room m a)).filled
          go (inr (a, b)) = absurd (let q : None ≡ Some l = sym b ∙ sym (same-place new u p e) ∙ f in cc)
      filled-now u p l false e f = so.sorted.filled u p l (sym (change.other u p e) ∙ f)

      apart-now : (u p : ℕ) (t : Bool) → is_at unit c.block u p ≡ t → AreApart slots 0 (listed new u p)
      apart-now u p true e = go here-at
        where
          go : At → AreApart slots 0 (listed new u p)
          go (inl (m, k, a, b, z)) = subst (AreApart slots 0) (sym (holds-is new u p (Some k) (same-place new u p e ∙ b))) (kept m k z (has-room m a)).apart
          go (inr (a, b)) = subst (AreApart slots 0) (sym (holds-is new u p None (same-place new u p e ∙ b))) tt
      apart-now u p false e = subst (λ o. AreApart slots 0 (held_of_some o)) (sym (change.other u p e)) (so.sorted.apart u p)

      there-now : (u p : ℕ) (t : Bool) → is_at unit c.block u p ≡ t → is_some (list_in new u p) ≡ is_some (list_in cur u p)
      there-now u p true e = ap is_some (same-place new u p e) ∙ go here-at ∙ sym (ap is_some (same-place cur u p e))
        where
          go : At → is_some (list_in new unit c.block) ≡ is_some (list_in cur unit c.block)
          go (inl (l, k, a, b, z)) = ap is_some b ∙ sym (ap is_some a)
          go (inr (a, b)) = ap is_some b ∙ sym (ap is_some a)
      there-now u p false e = ap is_some (change.other u p e)

      others-now : (u p : ℕ) (t : Bool) → is_at unit c.block u p ≡ t → others_of v (listed new u p) ≡ others_of v (listed cur u p)
      others-now u p true e = go here-at
        where
          go : At → others_of v (listed new u p) ≡ others_of v (listed cur u p)
          go (inl (l, k, a, b, z)) = ap (others_of v) (holds-is new u p (Some k) (same-place new u p e ∙ b)) ∙ (kept l k z (has-room l a)).others ∙ sym (ap (others_of v) (holds-is cur u p (Some l) (same-place cur u p e ∙ a)))
          go (inr (a, b)) = ap (others_of v) (holds-is new u p None (same-place new u p e ∙ b)) ∙ sym (ap (others_of v) (holds-is cur u p None (same-place cur u p e ∙ a)))
      others-now u p false e = ap (λ o. others_of v (held_of_some o)) (change.other u p e)

      sorted-now : AreSorted slots new
      sorted-now = record { filled = λ u p l e. filled-now u p l (is_at unit c.block u p) refl e; apart = λ u p. apart-now u p (is_at unit c.block u p) refl }

      keeps-now : KeepsOthers v old new
      keeps-now = record {
        there = λ u p. there-now u p (is_at unit c.block u p) refl ∙ so.others.there u p;
        others = λ u p. others-now u p (is_at unit c.block u p) refl ∙ so.others.others u p;
      }

      -- what the range holds there now
      own-now : (Q : List Extent → List Extent → Type 0) → ((l k : HeldList) → P l k → HasRoom slots v (cell_extents c) l → Q (own_of v (held_of k)) (cell_extents c)) → Q [] [] → (u p : ℕ) → is_at unit c.block u p ≡ true → Q (own_of v (listed new u p)) (cell_extents c)
      own-now Q f none u p e = go here-at
        where
          go : At → Q (own_of v (listed new u p)) (cell_extents c)
          go (inl (l, k, a, b, z)) = subst (λ hs. Q (own_of v hs) (cell_extents c)) (sym (holds-is new u p (Some k) (same-place new u p e ∙ b))) (f l k z (has-room l a))
          go (inr (a, b)) = subst (λ hs. Q (own_of v hs) (cell_extents c)) (sym (holds-is new u p None (same-place new u p e ∙ b))) (subst (Q []) (sym (no-list a)) none)

    own-at : (u p : ℕ) → is_at unit c.block u p ≡ true → with_cells unit (take (i + 1) cells) old u p ≡ cell_extents c
    own-at u p e = let z = at-both unit c.block u p e in ap (λ y. with_cells unit (take (i + 1) cells) old y p) (sym z.0) ∙ ap (λ y. with_cells unit (take (i + 1) cells) old unit y) (sym z.1) ∙ own-here

    pub fills-more : ChangesAt (IsFilled slots v (cell_extents c)) unit c.block cur new → Fills slots v (with_cells unit (take (i + 1) cells) old) old new
    fills-more change = record {
      sorted = sorted-now (IsFilled slots v (cell_extents c)) change (λ l k f room. f.kept room);
      others = keeps-now (IsFilled slots v (cell_extents c)) change (λ l k f room. f.kept room);
      own = λ u p. go u p (is_at unit c.block u p) refl;
    }
      where
        go : (u p : ℕ) (t : Bool) → is_at unit c.block u p ≡ t → own_of v (listed new u p) ≡ with_cells unit (take (i + 1) cells) old u p
        go u p true e = own-now (IsFilled slots v (cell_extents c)) change (λ l k f room. f.kept room) (λ es fs. es ≡ fs) (λ l k f room. f.own room) refl u p e ∙ sym (own-at u p e)
        go u p false e = ap (λ o. own_of v (held_of_some o)) (change.other u p e) ∙ so.own u p ∙ sym (own-else u p e)

    -- what stands after a refusal
    pub begins-more : ChangesAt (IsBegun slots v (cell_extents c)) unit c.block cur new → Begins slots v (with_lane x v unit (Some lane) old) old new
    begins-more change = record {
      sorted = sorted-now (IsBegun slots v (cell_extents c)) change (λ l k f room. f.kept room);
      others = keeps-now (IsBegun slots v (cell_extents c)) change (λ l k f room. f.kept room);
      own = λ u p. go u p (is_at unit c.block u p) refl;
    }
      where
        whole : (u p : ℕ) → is_at unit c.block u p ≡ true → with_lane x v unit (Some lane) old u p ≡ cell_extents c
        whole u p e =
            let z = at-both unit c.block u p e in
            ap (λ y. with_lane x v unit (Some lane) old y p) (sym z.0) ∙ ap (λ y. with_lane x v unit (Some lane) old unit y) (sym z.1)
            ∙ ap (λ es. es ++ cond (nat_eq unit unit) (lane_extents x (Some lane) c.block) []) (room.none c.block)
            ∙ ap (λ t. cond t (lane_extents x (Some lane) c.block) []) (eq-eqb unit unit refl) ∙ here-extents

        front-cells : (u p : ℕ) → IsFront (with_cells unit (take i cells) old u p) (with_lane x v unit (Some lane) old u p)
        front-cells u p = go (nat_eq unit u) (find_cell p (take i cells)) refl
          where
            go : (t : Bool) (q : Option Cell) → find_cell p (take i cells) ≡ q → IsFront (own_of v (listed old u p) ++ cond t (some_extents (find_cell p (take i cells))) []) (own_of v (listed old u p) ++ cond t (lane_extents x (Some lane) p) [])
            go true None e = (
              lane_extents x (Some lane) p,
              ap (λ es. es ++ lane_extents x (Some lane) p) (sym (append-nil (own_of v (listed old u p))) ∙ ap (λ r. own_of v (listed old u p) ++ some_extents r) (sym e)),
            )
            go true (Some d) e = (
              [],
              ap (λ r. own_of v (listed old u p) ++ some_extents r) (found-front p cells i d e ∙ sym e) ∙ sym (append-nil (own_of v (listed old u p) ++ some_extents (find_cell p (take i cells)))),
            )
            go false q e = ([], sym (append-nil (own_of v (listed old u p) ++ [])))

        go : (u p : ℕ) (t : Bool) → is_at unit c.block u p ≡ t → IsFront (own_of v (listed new u p)) (with_lane x v unit (Some lane) old u p)
        go u p true e = subst (IsFront (own_of v (listed new u p))) (sym (whole u p e)) (own-now (IsBegun slots v (cell_extents c)) change (λ l k f room. f.kept room) IsFront (λ l k f room. f.own room) ([], refl) u p e)
        go u p false e = subst (λ es. IsFront es (with_lane x v unit (Some lane) old u p)) (sym (ap (λ o. own_of v (held_of_some o)) (change.other u p e) ∙ so.own u p)) (front-cells u p)

  none-past : {X : Type 0} (xs : List X) (i : ℕ) → slice_get xs i ≡ None → i < length xs → ⊥
  none-past [] i e h = omega arith
  none-past (y ∷ xs) zero e h = cc
  none-past (y ∷ xs) (suc i) e h = none-past xs i e (omega arith)

  pub fills-cell : (unit lane : ℕ) (old cur new : UnitTable) (i : ℕ) → i < length (cells_of x.rows.rows.items lane) → LaneHasRoom x v unit (Some lane) old → Fills slots v (with_cells unit (take i (cells_of x.rows.rows.items lane)) old) old cur
      → ChangesCell (IsFilled slots v) unit (slice_get (cells_of x.rows.rows.items lane) i) cur new → Fills slots v (with_cells unit (take (i + 1) (cells_of x.rows.rows.items lane)) old) old new
  fills-cell unit lane old cur new i h room so change = go (slice_get (cells_of x.rows.rows.items lane) i) refl change
    where
      go : (o : Option Cell) → slice_get (cells_of x.rows.rows.items lane) i ≡ o → ChangesCell (IsFilled slots v) unit o cur new → Fills slots v (with_cells unit (take (i + 1) (cells_of x.rows.rows.items lane)) old) old new
      go None e f = absurd (none-past (cells_of x.rows.rows.items lane) i e h)
      go (Some c) e f = fills-more unit lane old cur new i c e room so f

  pub begins-cell : (unit lane : ℕ) (old cur new : UnitTable) (i : ℕ) → i < length (cells_of x.rows.rows.items lane) → LaneHasRoom x v unit (Some lane) old → Fills slots v (with_cells unit (take i (cells_of x.rows.rows.items lane)) old) old cur
      → ChangesCell (IsBegun slots v) unit (slice_get (cells_of x.rows.rows.items lane) i) cur new → Begins slots v (with_lane x v unit (Some lane) old) old new
  begins-cell unit lane old cur new i h room so change = go (slice_get (cells_of x.rows.rows.items lane) i) refl change
    where
      go : (o : Option Cell) → slice_get (cells_of x.rows.rows.items lane) i ≡ o → ChangesCell (IsBegun slots v) unit o cur new → Begins slots v (with_lane x v unit (Some lane) old) old new
      go None e f = absurd (none-past (cells_of x.rows.rows.items lane) i e h)
      go (Some c) e f = begins-more unit lane old cur new i c e room so f

  pub fills-same : (es fs : Lots) (a b : UnitTable) → ((u p : ℕ) → es u p ≡ fs u p) → Fills slots v es a b → Fills slots v fs a b
  fills-same es fs a b same f = record { sorted = f.sorted; others = f.others; own = λ u p. f.own u p ∙ same u p }

  pub fills-all : (unit lane i : ℕ) (a b : UnitTable) → length (cells_of x.rows.rows.items lane) ≤ i → Fills slots v (with_cells unit (take i (cells_of x.rows.rows.items lane)) a) a b → Fills slots v (with_lane x v unit (Some lane) a) a b
  fills-all unit lane i a b le f = fills-same (with_cells unit (take i (cells_of x.rows.rows.items lane)) a) (with_lane x v unit (Some lane) a) a b (λ u p. ap (λ cs. own_of v (listed a u p) ++ cond (nat_eq unit u) (some_extents (find_cell p cs)) []) (take_all i (cells_of x.rows.rows.items lane) le)) f

  pub fills-no-lane : (unit : ℕ) (a : UnitTable) → AreSorted slots a → Fills slots v (with_lane x v unit None a) a a
  fills-no-lane unit a sorted = fills-none unit a sorted
