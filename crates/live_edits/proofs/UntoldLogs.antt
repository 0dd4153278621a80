-- What taking logged changes back leaves of pieces that aren't told.
use Rattle.std.proofs.Common.{◌≡◌, ◌∙◌, ◌<◌, ◌≤◌, ◌⊎◌, inl, inr, ℕ, zero, suc, Bool, true, false, cond, ◌&&◌, length, List, [], ◌∷◌, ◌++◌, Option, None, Some, map, refl, sym, ap, subst, arith}
use Rattle.std.specs.Prelude.{nat_eq, not, slice_get, option_map}
use Rattle.std.specs.List.{insert, remove}
use Rattle.std.proofs.lemmas.List.Elements.{filter-append}
use Rattle.std.proofs.lemmas.Option.{slice_get-map}
use Rattle.mir_meaning.specs.Paths.{Among, here, there}
use Rattle.live_lanes.specs.declared.ask.extent.ChangedPiece.{ChangedPiece}
use Rattle.live_lanes.specs.declared.ask.extent.Extent.{Extent}
use Rattle.live_lanes.specs.declared.row.Cause.{Cause}
use Rattle.live_lanes.specs.declared.row.LaneRange.{LaneRange}
use Rattle.live_lanes.specs.declared.row.LaneUse.{LaneUse}
use Rattle.live_lanes.specs.declared.row.PieceEnd.{PieceEnd}
use Rattle.live_lanes.specs.Entered.{rows_seen}
use Rattle.live_lanes.specs.Extents.{block_extent}
use Rattle.live_lanes.specs.Reach.{is_never}
use Rattle.live_lanes.specs.Table.{Begun, Seen, begun, changed_at, begun_with_cause, begun_with_end, with_cause, with_end}
use Rattle.live_edits.specs.declared.cell_change.CellChange.{CellChange}
use Rattle.live_edits.specs.declared.cell_change.CellChange.TheVariants as changes
use Rattle.live_edits.specs.declared.cells.CellNotes.{CellNotes}
use Rattle.live_edits.specs.declared.log.Former.{Former}
use Rattle.live_edits.specs.declared.log.Former.TheVariants as formers
use Rattle.live_edits.specs.CellChanges.{seen_changed, piece_readings, readings_changed, reading_into, reading_removed, begun_with_writing, has_place}
use Rattle.live_edits.specs.Logged.{AllSeen, taken_back, all_taken_back, is_life}
use Rattle.live_edits.specs.Told.{begun_extent, begun_left, untold, listed, seen_extents, start_at, piece_back, piece_named, AreNamedTold, AreWritingsTold, IsNotedAndLogged, KeepsUntold, StaysOrShrinks}
use Rattle.live_edits.proofs.CellsRemade.{at-lane, at-block}
use Rattle.live_edits.proofs.Untold.{changed-told, inserted-told, removed-left, readings-extents}

abbrev start : Begun → ℕ
start s = s.start

changed-cause : (c : Cause) (k : ℕ) (ss : List Begun) → map begun_extent (changed_at k (begun_with_cause c) ss) ≡ map begun_extent ss
changed-cause c k [] = refl
changed-cause c zero (s ∷ ss) = refl
changed-cause c (suc k) (s ∷ ss) = ap (λ t. begun_extent s ∷ t) (changed-cause c k ss)

changed-starts : (change : Begun → Begun) → ((s : Begun) → (change s).start ≡ s.start) → (k : ℕ) (ss : List Begun) → map start (changed_at k change ss) ≡ map start ss
changed-starts change same k [] = refl
changed-starts change same zero (s ∷ ss) = ap (λ i. i ∷ map start ss) (same s)
changed-starts change same (suc k) (s ∷ ss) = ap (λ t. s.start ∷ t) (changed-starts change same k ss)

-- one cell, in which a test tells pieces by what begins them
module _ (told : Option ℕ → Bool) where
  abbrev left : List Begun → List Extent
  left ss = untold told (map begun_extent ss)

  abbrev count : Bool → ℕ → ℕ
  count t n = cond (not t) (suc n) n

  counted : (t : Bool) (e : Extent) (es : List Extent) → length (cond (not t) (e ∷ es) es) ≡ count t (length es)
  counted true e es = refl
  counted false e es = refl

  -- as many are left where one changes, but for what begins it
  as-many : (change : Begun → Begun) → ((s : Begun) → (change s).start ≡ s.start) → (k : ℕ) (ss : List Begun) → length (left (changed_at k change ss)) ≡ length (left ss)
  as-many change same k [] = refl
  as-many change same zero (s ∷ ss) =
      counted (told (Some (change s).start)) (begun_extent (change s)) (left ss) ∙ ap (λ i. count (told (Some i)) (length (left ss))) (same s) ∙ sym (counted (told (Some s.start)) (begun_extent s) (left ss))
  as-many change same (suc k) (s ∷ ss) =
      counted (told (Some s.start)) (begun_extent s) (left (changed_at k change ss)) ∙ ap (count (told (Some s.start))) (as-many change same k ss) ∙ sym (counted (told (Some s.start)) (begun_extent s) (left ss))

  life-many : (v : Seen) (n : ℕ) (c : Cause) (e : PieceEnd) → length (begun_left told (with_end (with_cause v n c) n e)) ≡ length (begun_left told v)
  life-many v zero c e = refl
  life-many v (suc k) c e = as-many (begun_with_end e) (λ s. refl) k (changed_at k (begun_with_cause c) v.segments) ∙ as-many (begun_with_cause c) (λ s. refl) k v.segments

  readings-many : (change : List LaneUse → List LaneUse) (n : ℕ) (v : Seen) → length (begun_left told (readings_changed change n v)) ≡ length (begun_left told v)
  readings-many change n v = ap (λ xs. length (untold told xs)) (readings-extents v n (change (piece_readings v.readings v.segments n)))

  -- none comes that isn't told
  change-many : (l b : ℕ) (c : CellChange) (v : Seen) → ((p : ChangedPiece) → piece_back l b c ≡ Some p → told p.start ≡ true) → length (begun_left told (seen_changed c v)) ≤ length (begun_left told v)
  change-many l b (changes.Readings index readings) v h = let e = readings-many (λ rs. readings.items) index v in omega (arith, e)
  change-many l b (changes.SetReading index at into) v h = let e = readings-many (changed_at at (reading_into into)) index v in omega (arith, e)
  change-many l b (changes.Writing at early from) v h = let e = as-many (begun_with_writing early from) (λ s. refl) at v.segments in omega (arith, e)
  change-many l b (changes.Begin at piece room) v h = go (has_place at room (length v.segments))
    where
      go : (t : Bool) → length (begun_left told (cond t (record v { segments = insert v.segments at (begun piece) }) v)) ≤ length (begun_left told v)
      go true = let e = ap length (inserted-told told (begun piece) at v.segments (h _ refl)) in omega (arith, e)
      go false = omega arith
  change-many l b (changes.Join at) v h = go (removed-left told at v.segments)
    where
      go : (left (remove v.segments at) ≡ left v.segments) ⊎ (length (left (remove v.segments at)) < length (left v.segments)) → length (left (remove v.segments at)) ≤ length (left v.segments)
      go (inl e) = let n = ap length e in omega (arith, n)
      go (inr n) = omega (arith, n)

  -- the piece that begins with the block
  first-told : (e : PieceEnd) (xs : List Extent) → told None ≡ true → untold told (listed (block_extent e) ++ xs) ≡ untold told xs
  first-told e xs t = go (is_never e)
    where
      go : (u : Bool) → untold told (listed (cond u None (Some (record { start = None; early = false; end = e }))) ++ xs) ≡ untold told xs
      go true = refl
      go false = ap (λ u. cond (not u) (record { start = None; early = false; end = e } ∷ untold told xs) (untold told xs)) t

  -- a piece that is told gets another life
  life-untold : (v : Seen) (n : ℕ) (c : Cause) (e : PieceEnd) → ((s : Option ℕ) → start_at v n ≡ Some s → told s ≡ true) → untold told (seen_extents (with_end (with_cause v n c) n e)) ≡ untold told (seen_extents v)
  life-untold v zero c e h = first-told e (map begun_extent v.segments) (h None refl) ∙ sym (first-told v.end (map begun_extent v.segments) (h None refl))
  life-untold v (suc k) c e h =
      filter-append (λ x. not (told x.start)) first (map begun_extent (changed_at k (begun_with_end e) now))
      ∙ (ap (λ xs. untold told first ++ xs) (changed-told told (begun_with_end e) k now (λ s i. let t = own s i in (t, t)) ∙ ap (untold told) (changed-cause c k v.segments))
      ∙ sym (filter-append (λ x. not (told x.start)) first (map begun_extent v.segments)))
    where
      first : List Extent
      first = listed (block_extent v.end)

      now : List Begun
      now = changed_at k (begun_with_cause c) v.segments

      -- it begins as before
      same : option_map start (slice_get now k) ≡ option_map start (slice_get v.segments k)
      same = sym (slice_get-map start now k) ∙ (ap (λ xs. slice_get xs k) (changed-starts (begun_with_cause c) (λ s. refl) k v.segments) ∙ slice_get-map start v.segments k)

      begins : (o : Option Begun) (i : ℕ) → Some i ≡ option_map start o → option_map (λ s. Some s.start) o ≡ Some (Some i)
      begins None i e = absurd (cc)
      begins (Some s) i e = let f : i ≡ s.start = cc in ap (λ j. Some (Some j)) (sym f)

      own : (s : Begun) → slice_get now k ≡ Some s → told (Some s.start) ≡ true
      own s i = h (Some s.start) (begins (slice_get v.segments k) s.start (sym (ap (option_map start) i) ∙ same))

-- lives change nothing of what begins pieces

life-starts : (v : Seen) (n : ℕ) (c : Cause) (e : PieceEnd) → map start (with_end (with_cause v n c) n e).segments ≡ map start v.segments
life-starts v zero c e = refl
life-starts v (suc k) c e = changed-starts (begun_with_end e) (λ s. refl) k (changed_at k (begun_with_cause c) v.segments) ∙ changed-starts (begun_with_cause c) (λ s. refl) k v.segments

start-same : (v w : Seen) (n : ℕ) → map start v.segments ≡ map start w.segments → start_at v n ≡ start_at w n
start-same v w zero e = refl
start-same v w (suc k) e =
    begins (slice_get v.segments k) ∙ ap (option_map (λ i. Some i)) (sym (slice_get-map start v.segments k) ∙ (ap (λ xs. slice_get xs k) e ∙ slice_get-map start w.segments k)) ∙ sym (begins (slice_get w.segments k))
  where
    begins : (o : Option Begun) → option_map (λ s. Some s.start) o ≡ option_map (λ i. Some i) (option_map start o)
    begins None = refl
    begins (Some s) = refl

-- all cells
module _ (told : ℕ → ℕ → Option ℕ → Bool) (rows : List LaneRange) where
  abbrev is_at : ℕ → ℕ → ℕ → ℕ → Bool
  is_at lane block l b = nat_eq lane l && nat_eq block b

  -- the piece that a change brings back is of its own cell
  own-back : (lane block : ℕ) (change : CellChange) → ((p : ChangedPiece) → piece_back lane block change ≡ Some p → told p.lane p.block p.start ≡ true) → (p : ChangedPiece) → piece_back lane block change ≡ Some p → told lane block p.start ≡ true
  own-back lane block (changes.Begin at piece room) h p i =
      let own : ChangedPiece = record { lane = lane; block = block; start = Some piece.start } in
      let same : own ≡ p = cc in
      subst (λ (q : ChangedPiece). told lane block q.start ≡ true) same (h own refl)
  own-back lane block (changes.Readings index readings) h p i = absurd (cc)
  own-back lane block (changes.SetReading index at into) h p i = absurd (cc)
  own-back lane block (changes.Writing at early from) h p i = absurd (cc)
  own-back lane block (changes.Join at) h p i = absurd (cc)

  -- one change that is taken back

  back-many : (e : Former) (seen : AllSeen) → ((p : ChangedPiece) → piece_named rows e ≡ Some p → told p.lane p.block p.start ≡ true) → (l b : ℕ) → length (begun_left (told l b) (taken_back e seen l b)) ≤ length (begun_left (told l b) (seen l b))
  back-many (formers.Life spot cause end) seen h l b = go (is_at spot.lane spot.block l b)
    where
      go : (t : Bool) → length (begun_left (told l b) (cond t (with_end (with_cause (seen l b) spot.index cause) spot.index end) (seen l b))) ≤ length (begun_left (told l b) (seen l b))
      go true = let e = life-many (told l b) (seen l b) spot.index cause end in omega (arith, e)
      go false = omega arith
  back-many (formers.Shape lane block change) seen h l b = go (is_at lane block l b) refl
    where
      own : is_at lane block l b ≡ true → (p : ChangedPiece) → piece_back l b change ≡ Some p → told l b p.start ≡ true
      own e =
          subst (λ k. (p : ChangedPiece) → piece_back k b change ≡ Some p → told k b p.start ≡ true) (at-lane lane block l b e)
          (subst (λ k. (p : ChangedPiece) → piece_back lane k change ≡ Some p → told lane k p.start ≡ true) (at-block lane block l b e) (own-back lane block change h))

      go : (t : Bool) → is_at lane block l b ≡ t → length (begun_left (told l b) (cond t (seen_changed change (seen l b)) (seen l b))) ≤ length (begun_left (told l b) (seen l b))
      go true e = change-many (told l b) l b change (seen l b) (own e)
      go false e = omega arith
  back-many (formers.Read spot at) seen h l b = go (is_at spot.lane spot.block l b)
    where
      go : (t : Bool) → length (begun_left (told l b) (cond t (reading_removed spot.index at (seen l b)) (seen l b))) ≤ length (begun_left (told l b) (seen l b))
      go true = let e = readings-many (told l b) (λ rs. remove rs at) spot.index (seen l b) in omega (arith, e)
      go false = omega arith

  -- all of them
  all-back-many : (es : List Former) (seen : AllSeen) → AreNamedTold told rows es → (l b : ℕ) → length (begun_left (told l b) (all_taken_back es seen l b)) ≤ length (begun_left (told l b) (seen l b))
  all-back-many [] seen h l b = omega arith
  all-back-many (e ∷ es) seen h l b =
      let one = back-many e (all_taken_back es seen) (h e here) l b in
      let rest = all-back-many es seen (λ f m. h f (there m)) l b in
      omega (arith, one, rest)

  -- Lives that are taken back: the same pieces stay, and those that aren't told keep their extents.
  record IsKept (l b : ℕ) (now was : Seen) : Type 0 where
    starts : map start now.segments ≡ map start was.segments
    extents : untold (told l b) (seen_extents now) ≡ untold (told l b) (seen_extents was)

  life-back : (e : Former) (seen : AllSeen) → is_life e ≡ true → ((p : ChangedPiece) → piece_named rows e ≡ Some p → told p.lane p.block p.start ≡ true) → (l b : ℕ) → map start (seen l b).segments ≡ map start (rows_seen rows l b).segments
      → IsKept l b (taken_back e seen l b) (seen l b)
  life-back (formers.Shape lane block change) seen life h l b same = absurd (cc)
  life-back (formers.Read spot at) seen life h l b same = absurd (cc)
  life-back (formers.Life spot cause end) seen life h l b same = go (is_at spot.lane spot.block l b) refl
    where
      own : (s : Option ℕ) → start_at (rows_seen rows spot.lane spot.block) spot.index ≡ Some s → told spot.lane spot.block s ≡ true
      own s i = h (record { lane = spot.lane; block = spot.block; start = s }) (ap (option_map (λ t. record { lane = spot.lane; block = spot.block; start = t })) i)

      here-own : is_at spot.lane spot.block l b ≡ true → (s : Option ℕ) → start_at (rows_seen rows l b) spot.index ≡ Some s → told l b s ≡ true
      here-own e =
          subst (λ k. (s : Option ℕ) → start_at (rows_seen rows k b) spot.index ≡ Some s → told k b s ≡ true) (at-lane spot.lane spot.block l b e)
          (subst (λ k. (s : Option ℕ) → start_at (rows_seen rows spot.lane k) spot.index ≡ Some s → told spot.lane k s ≡ true) (at-block spot.lane spot.block l b e) own)

      go : (t : Bool) → is_at spot.lane spot.block l b ≡ t → IsKept l b (cond t (with_end (with_cause (seen l b) spot.index cause) spot.index end) (seen l b)) (seen l b)
      go true e = record {
        starts = life-starts (seen l b) spot.index cause end;
        extents = life-untold (told l b) (seen l b) spot.index cause end (λ s i. here-own e s (sym (start-same (seen l b) (rows_seen rows l b) spot.index same) ∙ i));
      }
      go false e = record { starts = refl; extents = refl }

  all-lives-back : (es : List Former) → ((e : Former) → Among e es → is_life e ≡ true) → AreNamedTold told rows es → (l b : ℕ) → IsKept l b (all_taken_back es (rows_seen rows) l b) (rows_seen rows l b)
  all-lives-back [] lives h l b = record { starts = refl; extents = refl }
  all-lives-back (e ∷ es) lives h l b =
      let rest = all-lives-back es (λ f m. lives f (there m)) (λ f m. h f (there m)) l b in
      let one = life-back e (all_taken_back es (rows_seen rows)) (lives e here) (h e here) l b rest.starts in
      record { starts = one.starts ∙ rest.starts; extents = one.extents ∙ rest.extents }

  -- made anew by notes, and then brought up to date
  pub pieces-kept : (old : List LaneRange) (log : List Former) (all : List CellNotes) → IsNotedAndLogged old rows log all → AreWritingsTold told all → AreNamedTold told rows log → (l b : ℕ)
      → untold (told l b) (seen_extents (rows_seen rows l b)) ≡ untold (told l b) (seen_extents (rows_seen old l b))
  pieces-kept old log all d written named l b =
      sym (ap (λ v. untold (told l b) (seen_extents v)) (sym (d.lives_back l b)) ∙ (all-lives-back d.lives d.are_lives (λ e m. named e (d.lives_in e m)) l b).extents)
      ∙ (filter-append test (listed (block_extent made.end)) (map begun_extent made.segments)
      ∙ ((λ i. untold (told l b) (listed (block_extent (kept.first i))) ++ all-left kept.begun i)
      ∙ sym (filter-append test (listed (block_extent was.end)) (map begun_extent was.segments))))
    where
      test : Extent → Bool
      test e = not (told l b e.start)

      made : Seen
      made = rows_seen d.made l b

      was : Seen
      was = rows_seen old l b

      kept : KeepsUntold (told l b) was made
      kept = d.remade told written l b

      many : length (begun_left (told l b) was) ≤ length (begun_left (told l b) made)
      many =
          subst (λ v. length (begun_left (told l b) v) ≤ length (begun_left (told l b) made)) (d.shapes_back l b)
          (all-back-many d.shapes (rows_seen d.made) (λ e m. named e (d.shapes_in e m)) l b)

      all-left : StaysOrShrinks (begun_left (told l b) was) (begun_left (told l b) made) → begun_left (told l b) made ≡ begun_left (told l b) was
      all-left (inl e) = e
      all-left (inr h) = absurd (omega (arith, h, many))
