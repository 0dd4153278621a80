-- Lives of pieces that are logged, changed and taken back.
use Rattle.std.proofs.Common.{◌≡◌, ◌<◌, ◌≤◌, ℕ, zero, suc, Bool, true, false, cond, ◌&&◌, length, List, [], ◌∷◌, ◌++◌, ◌⊎◌, inl, inr, refl, sym, ap, ◌∙◌, map, arith, eqb-true, append-nil}
use Rattle.std.specs.Prelude.{nat_eq, slice_get, Result, IsOk, OnOk}
use Rattle.std.specs.declared.result.Result.TheVariants as results
use Rattle.mir_meaning.specs.Paths.{Among}
use Rattle.live_lanes.specs.declared.row.Cause.{Cause}
use Rattle.live_lanes.specs.declared.row.LaneRange.{LaneRange}
use Rattle.live_lanes.specs.declared.row.LaneUse.{LaneUse}
use Rattle.live_lanes.specs.declared.row.PieceEnd.{PieceEnd}
use Rattle.live_edits.specs.declared.pieces.PieceSpot.{PieceSpot}
use Rattle.live_lanes.specs.Table.{Seen, Begun, begun_cause, begun_end, begun_with_cause, begun_with_end, changed_at, cause_in, end_in, with_cause, with_end}
use Rattle.live_lanes.specs.Entered.{start_of, shape, rows_seen}
use Rattle.live_lanes.specs.Marks.{KeepsCauses}
use Rattle.live_lanes.proofs.Basics.{none-among}
use Rattle.live_lanes.proofs.Cells.{both}
use Rattle.live_lanes.proofs.Growth.{shape-cause}
use Rattle.live_lanes.proofs.Numbered.{among-cases}
use Rattle.live_lanes.proofs.Segments.{changed-past}
use Rattle.live_edits.specs.declared.log.Former.{Former}
use Rattle.live_edits.specs.declared.log.Former.TheVariants as formers
use Rattle.live_edits.specs.declared.log.LoggedRows.{LoggedRows}
use Rattle.live_edits.specs.declared.cell_change.CellChange.{CellChange}
use Rattle.live_edits.specs.CellChanges.{seen_changed, fits_in, reading_added, reading_removed}
use Rattle.live_edits.specs.Logged.{has_cell, room_of, cell_there, is_life, IsLogged, LogsLives}
use Rattle.live_edits.specs.Pieces.{node_of, IsThere, KeepsPieces}
use Rattle.live_edits.specs.Changes.{ChangesCell, AddsCells, LogsLife, TakesBack}
use Rattle.live_edits.proofs.KeptPieces.{end-cause}
use Rattle.live_edits.proofs.ReadingsChanged.{reading-back}

-- a piece that gets its own cause or end stays
segment-own-cause : (ss : List Begun) (k : ℕ) → changed_at k (begun_with_cause (begun_cause (slice_get ss k))) ss ≡ ss
segment-own-cause [] k = refl
segment-own-cause (s ∷ ss) zero = refl
segment-own-cause (s ∷ ss) (suc k) = ap (λ t. s ∷ t) (segment-own-cause ss k)

own-cause : (v : Seen) (n : ℕ) → with_cause v n (cause_in v n) ≡ v
own-cause v zero = refl
own-cause v (suc k) = ap (λ t. record v { segments = t }) (segment-own-cause v.segments k)

segment-own-end : (ss : List Begun) (k : ℕ) → changed_at k (begun_with_end (begun_end (slice_get ss k))) ss ≡ ss
segment-own-end [] k = refl
segment-own-end (s ∷ ss) zero = refl
segment-own-end (s ∷ ss) (suc k) = ap (λ t. s ∷ t) (segment-own-end ss k)

own-end : (v : Seen) (n : ℕ) → with_end v n (end_in v n) ≡ v
own-end v zero = refl
own-end v (suc k) = ap (λ t. record v { segments = t }) (segment-own-end v.segments k)

-- an element that is changed twice
changed-twice : {X : Type 0} (f g h : X → X) → ((x : X) → g (f x) ≡ h x) → (k : ℕ) (xs : List X) → changed_at k g (changed_at k f xs) ≡ changed_at k h xs
changed-twice f g h e k [] = refl
changed-twice f g h e zero (x ∷ xs) = ap (λ t. t ∷ xs) (e x)
changed-twice f g h e (suc k) (x ∷ xs) = ap (λ t. x ∷ t) (changed-twice f g h e k xs)

cause-twice : (v : Seen) (n : ℕ) (c d : Cause) → with_cause (with_cause v n c) n d ≡ with_cause v n d
cause-twice v zero c d = refl
cause-twice v (suc k) c d = ap (λ t. record v { segments = t }) (changed-twice (begun_with_cause c) (begun_with_cause d) (begun_with_cause d) (λ s. refl) k v.segments)

end-twice : (v : Seen) (n : ℕ) (c d : PieceEnd) → with_end (with_end v n c) n d ≡ with_end v n d
end-twice v zero c d = refl
end-twice v (suc k) c d = ap (λ t. record v { segments = t }) (changed-twice (begun_with_end c) (begun_with_end d) (begun_with_end d) (λ s. refl) k v.segments)

cause-before-end : (v : Seen) (n : ℕ) (c : Cause) (e : PieceEnd) → with_cause (with_end v n e) n c ≡ with_end (with_cause v n c) n e
cause-before-end v zero c e = refl
cause-before-end v (suc k) c e =
    ap (λ t. record v { segments = t }) (changed-twice (begun_with_end e) (begun_with_cause c) (λ s. record s { cause = c; end = e }) (λ s. refl) k v.segments
    ∙ sym (changed-twice (begun_with_cause c) (begun_with_end e) (λ s. record s { cause = c; end = e }) (λ s. refl) k v.segments))

-- the life of a piece is put back
abbrev pub PutsBack : ℕ → (Seen → Seen) → Type 0
PutsBack n change = (v : Seen) → with_end (with_cause (change v) n (cause_in v n)) n (end_in v n) ≡ v

pub cause-back : (n : ℕ) (c : Cause) → PutsBack n (λ v. with_cause v n c)
cause-back n c v = ap (λ w. with_end w n (end_in v n)) (cause-twice v n c (cause_in v n) ∙ own-cause v n) ∙ own-end v n

pub end-back : (n : ℕ) (e : PieceEnd) → PutsBack n (λ v. with_end v n e)
end-back n e v =
    ap (λ w. with_end w n (end_in v n)) (cause-before-end v n (cause_in v n) e ∙ ap (λ w. with_end w n e) (own-cause v n))
    ∙ (end-twice v n e (end_in v n) ∙ own-end v n)

-- cells come that say nothing, and nothing is logged
pub added-logged : (x y : LoggedRows) → AddsCells x.rows.rows.items y.rows.rows.items → y.log.items ≡ x.log.items → IsLogged x y
added-logged x y a e = record {
  added = [];
  list = e ∙ sym (append-nil x.log.items);
  back = a.seen;
  lanes = a.lanes;
  cells = a.cells;
  rooms = a.rooms;
  there = λ f m. absurd (none-among f m);
}

pub added-lives : (x y : LoggedRows) → AddsCells x.rows.rows.items y.rows.rows.items → y.log.items ≡ x.log.items → LogsLives x y
unfolding added-logged
added-lives x y a e = record { logged = added-logged x y a e; lives = λ f m. absurd (none-among f m) }

pub added-pieces : (old new : List LaneRange) → AddsCells old new → KeepsPieces old new
added-pieces old new a = record {
  shapes = λ l b. ap shape (a.seen l b);
  ends = λ l b n. ap (λ v. end_in v n) (a.seen l b);
  lanes = a.lanes;
}

pub added-causes : (old new : List LaneRange) → AddsCells old new → KeepsCauses old new
added-causes old new a = record {
  causes = λ l b n. ap (λ v. cause_in v n) (a.seen l b);
  shapes = λ l b. ap shape (a.seen l b);
  lanes = a.lanes;
}

-- a life is logged, and then the piece changes
module _ (x y : LoggedRows) (new : List LaneRange) (spot : PieceSpot) (change : Seen → Seen) (p : LogsLife x y spot) (q : ChangesCell y.rows.rows.items new spot.lane spot.block change) where
  abbrev at : ℕ → ℕ → Bool
  at l b = nat_eq spot.lane l && nat_eq spot.block b

  abbrev own : Seen
  own = rows_seen x.rows.rows.items spot.lane spot.block

  -- where it is at one of these, the cell is the piece's own
  pub at-own : {X : Type 0} (f : Seen → X) (l b : ℕ) → at l b ≡ true → f (rows_seen x.rows.rows.items l b) ≡ f own
  at-own f l b e = go (nat_eq spot.lane l) (nat_eq spot.block b) refl refl e
    where
      go : (u v : Bool) → nat_eq spot.lane l ≡ u → nat_eq spot.block b ≡ v → (u && v) ≡ true → f (rows_seen x.rows.rows.items l b) ≡ f own
      go true true d e h =
          let k : spot.lane ≡ l = eqb-true spot.lane l d in
          let m : spot.block ≡ b = eqb-true spot.block b e in
          sym (λ i. f (rows_seen x.rows.rows.items (k i) (m i)))
      go true false d e h = absurd (cc)
      go false v d e h = absurd (cc)

  changed : (l b : ℕ) → rows_seen new l b ≡ cond (at l b) (change (rows_seen x.rows.rows.items l b)) (rows_seen x.rows.rows.items l b)
  changed l b = q.seen l b ∙ ap (λ v. cond (at l b) (change v) v) (p.rows.seen l b)

  -- what the change leaves stays
  pub told-same : {X : Type 0} (f : Seen → X) → ((v : Seen) → f (change v) ≡ f v) → (l b : ℕ) → f (rows_seen new l b) ≡ f (rows_seen x.rows.rows.items l b)
  told-same f same l b = ap f (changed l b) ∙ go (at l b) (rows_seen x.rows.rows.items l b)
    where
      go : (t : Bool) (v : Seen) → f (cond t (change v) v) ≡ f v
      go true v = same v
      go false v = refl

  pub own-changed : (l b : ℕ) → rows_seen new l b ≡ cond (at l b) (change own) (rows_seen x.rows.rows.items l b)
  own-changed l b = changed l b ∙ go (at l b) refl
    where
      go : (t : Bool) → at l b ≡ t → cond t (change (rows_seen x.rows.rows.items l b)) (rows_seen x.rows.rows.items l b) ≡ cond t (change own) (rows_seen x.rows.rows.items l b)
      go true e = at-own change l b e
      go false e = refl

  pub same-lanes : length new ≡ length x.rows.rows.items
  same-lanes = q.lanes ∙ p.rows.lanes

pub life-logged : (x y z : LoggedRows) (spot : PieceSpot) (change : Seen → Seen) → LogsLife x y spot → ChangesCell y.rows.rows.items z.rows.rows.items spot.lane spot.block change → z.log.items ≡ y.log.items → PutsBack spot.index change → IsLogged x z
life-logged x y z spot change p q e back = record {
  added = former ∷ [];
  list = e ∙ p.list;
  back = λ l b. ap (λ v. cond (at l b) (with_end (with_cause v spot.index (cause_in own spot.index)) spot.index (end_in own spot.index)) v) (own-changed x y z.rows.rows.items spot change p q l b) ∙ put l b (at l b) refl;
  lanes = same-lanes x y z.rows.rows.items spot change p q;
  cells = λ l b h. q.cells l b ∙ p.rows.cells l b h;
  rooms = λ l b. let f = p.rows.rooms l b in let g = q.rooms l b in omega (arith, f, g);
  there = λ f m. there f (among-cases f former [] m);
}
  where
    own : Seen
    own = rows_seen x.rows.rows.items spot.lane spot.block

    former : Former
    former = formers.Life spot (cause_in own spot.index) (end_in own spot.index)

    at : ℕ → ℕ → Bool
    at l b = nat_eq spot.lane l && nat_eq spot.block b

    put : (l b : ℕ) (t : Bool) → at l b ≡ t → cond t (with_end (with_cause (cond t (change own) (rows_seen x.rows.rows.items l b)) spot.index (cause_in own spot.index)) spot.index (end_in own spot.index)) (cond t (change own) (rows_seen x.rows.rows.items l b)) ≡ rows_seen x.rows.rows.items l b
    put l b true d = back own ∙ sym (at-own x y z.rows.rows.items spot change p q (λ v. v) l b d)
    put l b false d = refl

    there : (f : Former) → (f ≡ former) ⊎ Among f [] → cell_there z.rows.rows.items f ≡ true
    there f (inl d) = ap (cell_there z.rows.rows.items) d ∙ (q.cells spot.lane spot.block ∙ p.there)
    there f (inr m) = absurd (none-among f m)

pub life-lives : (x y z : LoggedRows) (spot : PieceSpot) (change : Seen → Seen) → LogsLife x y spot → ChangesCell y.rows.rows.items z.rows.rows.items spot.lane spot.block change → z.log.items ≡ y.log.items → PutsBack spot.index change → LogsLives x z
unfolding life-logged
life-lives x y z spot change p q e back = record { logged = life-logged x y z spot change p q e back; lives = λ f m. go f (among-cases f former [] m) }
  where
    former : Former
    former = formers.Life spot (cause_in (rows_seen x.rows.rows.items spot.lane spot.block) spot.index) (end_in (rows_seen x.rows.rows.items spot.lane spot.block) spot.index)

    go : (f : Former) → (f ≡ former) ⊎ Among f [] → is_life f ≡ true
    go f (inl d) = ap is_life d
    go f (inr m) = absurd (none-among f m)

pub cause-pieces : (x y : LoggedRows) (new : List LaneRange) (spot : PieceSpot) (cause : Cause) → LogsLife x y spot → ChangesCell y.rows.rows.items new spot.lane spot.block (λ v. with_cause v spot.index cause) → KeepsPieces x.rows.rows.items new
cause-pieces x y new spot cause p q = record {
  shapes = told-same x y new spot (λ v. with_cause v spot.index cause) p q shape (λ v. shape-cause v spot.index cause);
  ends = λ l b n. told-same x y new spot (λ v. with_cause v spot.index cause) p q (λ v. end_in v n) (λ v. end-cause v spot.index n cause) l b;
  lanes = same-lanes x y new spot (λ v. with_cause v spot.index cause) p q;
}

-- another end changes no cause and no shape
changed-cause : (e : PieceEnd) (ss : List Begun) (m j : ℕ) → begun_cause (slice_get (changed_at m (begun_with_end e) ss) j) ≡ begun_cause (slice_get ss j)
changed-cause e [] m j = refl
changed-cause e (s ∷ ss) zero zero = refl
changed-cause e (s ∷ ss) zero (suc j) = refl
changed-cause e (s ∷ ss) (suc m) zero = refl
changed-cause e (s ∷ ss) (suc m) (suc j) = changed-cause e ss m j

cause-after : (v : Seen) (n k : ℕ) (e : PieceEnd) → cause_in (with_end v n e) k ≡ cause_in v k
cause-after v zero zero e = refl
cause-after v zero (suc k) e = refl
cause-after v (suc n) zero e = refl
cause-after v (suc n) (suc k) e = changed-cause e v.segments n k

changed-starts : (e : PieceEnd) (ss : List Begun) (m : ℕ) → map start_of (changed_at m (begun_with_end e) ss) ≡ map start_of ss
changed-starts e [] m = refl
changed-starts e (s ∷ ss) zero = refl
changed-starts e (s ∷ ss) (suc m) = ap (λ t. start_of s ∷ t) (changed-starts e ss m)

shape-after : (v : Seen) (n : ℕ) (e : PieceEnd) → shape (with_end v n e) ≡ shape v
shape-after v zero e = refl
shape-after v (suc n) e = ap (λ t. record (shape v) { segments = t }) (changed-starts e v.segments n)

pub end-causes : (x y : LoggedRows) (new : List LaneRange) (spot : PieceSpot) (end : PieceEnd) → LogsLife x y spot → ChangesCell y.rows.rows.items new spot.lane spot.block (λ v. with_end v spot.index end) → KeepsCauses x.rows.rows.items new
end-causes x y new spot end p q = record {
  causes = λ l b n. told-same x y new spot (λ v. with_end v spot.index end) p q (λ v. cause_in v n) (λ v. cause-after v spot.index n end) l b;
  shapes = told-same x y new spot (λ v. with_end v spot.index end) p q shape (λ v. shape-after v spot.index end);
  lanes = same-lanes x y new spot (λ v. with_end v spot.index end) p q;
}

-- a piece that isn't there gets no end
end-past : (v : Seen) (n : ℕ) (e : PieceEnd) → length v.segments < n → with_end v n e ≡ v
end-past v zero e h = absurd (omega arith)
end-past v (suc k) e h = ap (λ t. record v { segments = t }) (changed-past (begun_with_end e) v.segments k (omega arith))

pub end-absent : (x y : LoggedRows) (new : List LaneRange) (spot : PieceSpot) (end : PieceEnd) → LogsLife x y spot → ChangesCell y.rows.rows.items new spot.lane spot.block (λ v. with_end v spot.index end) → spot.lane < length x.rows.rows.items → (IsThere x.rows.rows.items (node_of spot) → ⊥) → (l b : ℕ) → rows_seen new l b ≡ rows_seen x.rows.rows.items l b
end-absent x y new spot end p q h none l b =
    own-changed x y new spot (λ v. with_end v spot.index end) p q l b ∙ go (at l b) refl
  where
    own : Seen
    own = rows_seen x.rows.rows.items spot.lane spot.block

    at : ℕ → ℕ → Bool
    at l b = nat_eq spot.lane l && nat_eq spot.block b

    past : length own.segments < spot.index
    past = let far : spot.index ≤ length own.segments → ⊥ = λ w. none (record { lane = h; piece = w }) in omega (arith, far)

    go : (t : Bool) → at l b ≡ t → cond t (with_end own spot.index end) (rows_seen x.rows.rows.items l b) ≡ rows_seen x.rows.rows.items l b
    go true e = end-past own spot.index end past ∙ sym (at-own x y new spot (λ v. with_end v spot.index end) p q (λ v. v) l b e)
    go false e = refl

-- a change is logged
pub change-logged : (x z : LoggedRows) (mid : List LaneRange) (lane block : ℕ) (change back : CellChange) → AddsCells x.rows.rows.items mid → has_cell mid lane block ≡ true → ChangesCell mid z.rows.rows.items lane block (seen_changed change) → seen_changed back (rows_seen z.rows.rows.items lane block) ≡ rows_seen mid lane block → fits_in back (room_of z.rows.rows.items lane block) ≡ true → z.log.items ≡ x.log.items ++ formers.Shape lane block back ∷ [] → IsLogged x z
change-logged x z mid lane block change back a has q undone fits list = record {
  added = formers.Shape lane block back ∷ [];
  list = list;
  back = λ l b. go l b (nat_eq lane l) (nat_eq block b) refl refl;
  lanes = q.lanes ∙ a.lanes;
  cells = λ l b h. q.cells l b ∙ a.cells l b h;
  rooms = λ l b. let f = a.rooms l b in let g = q.rooms l b in omega (arith, f, g);
  there = λ f m. there-is f (among-cases f (formers.Shape lane block back) [] m);
}
  where
    go : (l b : ℕ) (t u : Bool) → nat_eq lane l ≡ t → nat_eq block b ≡ u → cond (nat_eq lane l && nat_eq block b) (seen_changed back (rows_seen z.rows.rows.items l b)) (rows_seen z.rows.rows.items l b) ≡ rows_seen x.rows.rows.items l b
    go l b true true e f =
        (λ i. cond (e i && f i) (seen_changed back (rows_seen z.rows.rows.items l b)) (rows_seen z.rows.rows.items l b))
        ∙ ((λ i. seen_changed back (rows_seen z.rows.rows.items (sym (eqb-true lane l e) i) (sym (eqb-true block b f) i))) ∙ (undone ∙ ((λ i. rows_seen mid (eqb-true lane l e i) (eqb-true block b f i)) ∙ a.seen l b)))
    go l b true false e f =
        (λ i. cond (e i && f i) (seen_changed back (rows_seen z.rows.rows.items l b)) (rows_seen z.rows.rows.items l b))
        ∙ (q.seen l b ∙ ((λ i. cond (e i && f i) (seen_changed change (rows_seen mid l b)) (rows_seen mid l b)) ∙ a.seen l b))
    go l b false u e f =
        (λ i. cond (e i && nat_eq block b) (seen_changed back (rows_seen z.rows.rows.items l b)) (rows_seen z.rows.rows.items l b))
        ∙ (q.seen l b ∙ ((λ i. cond (e i && nat_eq block b) (seen_changed change (rows_seen mid l b)) (rows_seen mid l b)) ∙ a.seen l b))

    there-is : (f : Former) → (f ≡ formers.Shape lane block back) ⊎ Among f [] → cell_there z.rows.rows.items f ≡ true
    there-is f (inl e) = ap (cell_there z.rows.rows.items) e ∙ both (has_cell z.rows.rows.items lane block) (fits_in back (room_of z.rows.rows.items lane block)) (q.cells lane block ∙ has) fits
    there-is f (inr m) = absurd (none-among f m)

-- a change is taken back
pub shape-back : (old new : List LaneRange) (lane block : ℕ) (change : CellChange) → ChangesCell old new lane block (seen_changed change) → TakesBack old new (formers.Shape lane block change)
shape-back old new lane block change p = record { seen = p.seen; cells = p.cells; rooms = p.rooms; lanes = p.lanes }

pub shape-taken : {B E : Type 0} (old new : List LaneRange) (lane block : ℕ) (change : CellChange) (r : Result B E) → IsOk r → OnOk r (ChangesCell old new lane block (λ v. seen_changed change v)) → TakesBack old new (formers.Shape lane block change)
shape-taken old new lane block change (results.Ok b) ok p = shape-back old new lane block change p
shape-taken old new lane block change (results.Err e) ok p = absurd (let f : false ≡ true = ok in cc)

-- a reading that comes is logged
pub read-logged : (x z : LoggedRows) (mid : List LaneRange) (spot : PieceSpot) (at : ℕ) (r : LaneUse) → AddsCells x.rows.rows.items mid → has_cell mid spot.lane spot.block ≡ true → ChangesCell mid z.rows.rows.items spot.lane spot.block (λ v. reading_added spot.index at r v) → z.log.items ≡ x.log.items ++ formers.Read spot at ∷ [] → IsLogged x z
read-logged x z mid spot at r a has q list = record {
  added = formers.Read spot at ∷ [];
  list = list;
  back = λ l b. ap (λ v. cond (own l b) (reading_removed spot.index at v) v) (q.seen l b) ∙ (go (own l b) (rows_seen mid l b) ∙ a.seen l b);
  lanes = q.lanes ∙ a.lanes;
  cells = λ l b h. q.cells l b ∙ a.cells l b h;
  rooms = λ l b. let f = a.rooms l b in let g = q.rooms l b in omega (arith, f, g);
  there = λ f m. there f (among-cases f (formers.Read spot at) [] m);
}
  where
    own : ℕ → ℕ → Bool
    own l b = nat_eq spot.lane l && nat_eq spot.block b

    go : (t : Bool) (v : Seen) → cond t (reading_removed spot.index at (cond t (reading_added spot.index at r v) v)) (cond t (reading_added spot.index at r v) v) ≡ v
    go true v = reading-back spot.index at r v
    go false v = refl

    there : (f : Former) → (f ≡ formers.Read spot at) ⊎ Among f [] → cell_there z.rows.rows.items f ≡ true
    there f (inl e) = ap (cell_there z.rows.rows.items) e ∙ (q.cells spot.lane spot.block ∙ has)
    there f (inr m) = absurd (none-among f m)
