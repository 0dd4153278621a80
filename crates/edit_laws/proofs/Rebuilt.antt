-- Cells that are made anew have the pieces of the code, with the causes and the ends of before.
use Rattle.std.proofs.Common.{◌≡◌, ◌∷◌, ◌++◌, ◌∙◌, ◌<◌, ℕ, Bool, true, false, cond, List, [], Option, Some, None, refl, sym, ap, subst, map, append-nil, append_assoc, arith, eq-eqb, eqb-true}
use Rattle.std.specs.Prelude.{nat_eq}
use Rattle.slot_index.specs.Order.{number_of}
use Rattle.mir_meaning.specs.declared.writing.LaneDef.{LaneDef}
use Rattle.mir_meaning.specs.Paths.{Code, Step, steps_of, last_of, has, is_present, Use, Unused, Certain, Into, use_of, writing_of}
use Rattle.live_lanes.specs.declared.compute.flow.BlockFlow.{BlockFlow}
use Rattle.live_lanes.specs.declared.row.Cause.{Cause}
use Rattle.live_lanes.specs.declared.row.LaneRange.{LaneRange}
use Rattle.live_lanes.specs.declared.row.LaneUse.{LaneUse}
use Rattle.live_lanes.specs.declared.row.PieceEnd.{PieceEnd}
use Rattle.live_lanes.specs.Table.{Numbers, Begun, Seen, unseen, begun_cause, begun_end, changed_last, ends_with, new_begun, starts_last, with_last, with_reading}
use Rattle.live_lanes.specs.Entered.{Shape, shape, Start, start_of, reading, reading_of, readings_until, starts, shape_of, rows_seen, Rises, IsNumbered, IsTableOf}
use Rattle.live_lanes.specs.Entering.{AreApart, enter_all}
use Rattle.live_lanes.proofs.Gathered.{added, after_step, bare, bare-step, fresh-step, IsFresh, pieces, pieces-more}
use Rattle.live_lanes.proofs.Growth.{piece-law}
use Rattle.live_lanes.proofs.Stepped.{appended, appended-starts, last_readings, used, written}
use Rattle.edit_laws.specs.CarriedRows.{started, CopiesPieces}
use Rattle.edit_laws.specs.Rebuilt.{lane_used, lane_written, lane_entered, rebuilt, copied_piece, copied, HasPieces, RebuiltLaw, UntouchedLaw, IsRebuilt, made_anew, stays, RebuiltRowsLaw}
use Rattle.edit_laws.specs.Reasons.{AreEdited, edit_none, edit_stays, edit_comes}
use Rattle.edit_laws.proofs.CarriedRows.{found-first}
use Rattle.edit_laws.proofs.Deferred.{none-written}
use Rattle.edit_laws.proofs.Needs.{get-map}

-- a reading behind those of other instructions

last-new : (r : LaneUse) (rs : List LaneUse) → ends_with r.id rs ≡ false → with_last r rs ≡ rs ++ r ∷ []
last-new r rs e = ap (λ t. cond t rs (rs ++ r ∷ [])) e

abbrev cell : Bool → Cause → PieceEnd → List LaneUse → List Begun → Seen
cell q c e rs ss = record { is_read_last = q; cause = c; end = e; readings = rs; segments = ss }

segments-new : (r : LaneUse) (q : Bool) (c : Cause) (e : PieceEnd) (rs : List LaneUse) (s : Begun) (ss : List Begun) → ends_with r.id (last_readings (cell q c e rs (s ∷ ss))) ≡ false
    → changed_last (λ x. record x { readings = with_last r x.readings }) (s ∷ ss) ≡ changed_last (λ x. record x { readings = x.readings ++ r ∷ [] }) (s ∷ ss)
segments-new r q c e rs s [] h = ap (λ x. record s { readings = x } ∷ []) (last-new r s.readings h)
segments-new r q c e rs s (t ∷ ss) h = ap (λ x. s ∷ x) (segments-new r q c e rs t ss h)

reading-in : (r : LaneUse) (q : Bool) (c : Cause) (e : PieceEnd) (rs : List LaneUse) (ss : List Begun) → ends_with r.id (last_readings (cell q c e rs ss)) ≡ false → with_reading r (cell q c e rs ss) ≡ appended r (cell q c e rs ss)
reading-in r q c e rs [] h = ap (λ x. cell q c e x []) (last-new r rs h)
reading-in r q c e rs (s ∷ ss) h = ap (λ x. cell q c e rs x) (segments-new r q c e rs s ss h)

reading-new : (r : LaneUse) (v : Seen) → ends_with r.id (last_readings v) ≡ false → with_reading r v ≡ appended r v
reading-new r v h = reading-in r v.is_read_last v.cause v.end v.readings v.segments h

used-is : (id : ℕ) (u : Use) (v : Seen) → ends_with id (last_readings v) ≡ false → lane_used id u v ≡ used id u v
used-is id Unused v h = refl
used-is id Certain v h = reading-new (reading id None) v h
used-is id (Into a) v h = reading-new (reading id (Some a)) v h

used-starts : (id : ℕ) (u : Use) (v : Seen) → starts_last id (used id u v).segments ≡ starts_last id v.segments
used-starts id Unused v = refl
used-starts id Certain v = appended-starts (reading id None) id v
used-starts id (Into a) v = appended-starts (reading id (Some a)) id v

written-is : (id : ℕ) (q : Option LaneDef) (v : Seen) → starts_last id v.segments ≡ false → lane_written id q v ≡ written id q v
written-is id None v h = refl
written-is id (Some w) v h = ap (λ t. cond t v (record v { segments = v.segments ++ new_begun id w.early w.from ∷ [] })) h

entered-is : (l : ℕ) (s : Step) (v : Seen) → IsFresh s.id v → lane_entered l s v ≡ after_step l s v
entered-is l s v f =
    ap (λ u. lane_written s.id (writing_of l s.writes) u) (used-is s.id (use_of l s) v f.reads)
    ∙ written-is s.id (writing_of l s.writes) (used s.id (use_of l s) v) (used-starts s.id (use_of l s) v ∙ f.begins)

-- all instructions of a block

filled : (l : ℕ) (ss : List Step) (v : Seen) (done : List Step) → AreApart ss → ((id : ℕ) → has id (map (λ s. s.id) ss) ≡ true → IsFresh id v) → bare v ≡ pieces l done → bare (enter_all (lane_entered l) ss v) ≡ pieces l (done ++ ss)
filled l [] v done apart fresh known = known ∙ ap (pieces l) (sym (append-nil done))
filled l (s ∷ ss) v done apart fresh known =
    let own : has s.id (s.id ∷ map (λ x. x.id) ss) ≡ true = ap (λ t. cond t true (has s.id (map (λ (x : Step). x.id) ss))) (eq-eqb s.id s.id refl) in
    let next : Seen = after_step l s v in
    let done' : bare next ≡ pieces l (done ++ s ∷ []) = bare-step l s v ∙ (ap (added l s) known ∙ sym (pieces-more l s done)) in
    ap (λ u. bare (enter_all (lane_entered l) ss u)) (entered-is l s v (fresh s.id own))
    ∙ (filled l ss next (done ++ s ∷ []) apart.1 later done' ∙ ap (pieces l) (append_assoc done (s ∷ []) ss))
  where
    later : (id : ℕ) → has id (map (λ (x : Step). x.id) ss) ≡ true → IsFresh id (after_step l s v)
    later id m = go (nat_eq s.id id) refl
      where
        go : (t : Bool) → nat_eq s.id id ≡ t → IsFresh id (after_step l s v)
        go true f =
            let z : has id (map (λ (x : Step). x.id) ss) ≡ false = ap (λ k. has k (map (λ (x : Step). x.id) ss)) (sym (eqb-true s.id id f)) ∙ apart.0 in
            absurd (cc)
        go false f = fresh-step l id s v f (fresh id (ap (λ t. cond t true (has id (map (λ (x : Step). x.id) ss))) f ∙ m))

pub rebuilt-law : RebuiltLaw
rebuilt-law l ss apart =
    let so : bare (rebuilt l ss) ≡ pieces l ss = filled l ss unseen [] apart (λ id m. record { reads = refl; begins = refl }) refl in
    record { readings = ap (λ (v : Shape). v.readings) so; segments = ap (λ (v : Shape). v.segments) so }

-- instructions whose numbers rise have single ids

above : (slots : Numbers) (n : ℕ) (ss : List Step) (id : ℕ) → Rises slots n ss → has id (map (λ s. s.id) ss) ≡ true → n < number_of slots id
above slots n [] id r m = absurd (let z : false ≡ true = m in cc)
above slots n (s ∷ ss) id r m = go (nat_eq s.id id) refl m (above slots (number_of slots s.id) ss id r.2)
  where
    go : (u : Bool) → nat_eq s.id id ≡ u → cond u true (has id (map (λ (x : Step). x.id) ss)) ≡ true → (has id (map (λ (x : Step). x.id) ss) ≡ true → number_of slots s.id < number_of slots id) → n < number_of slots id
    go true e h rest = subst (λ k. n < number_of slots k) (eqb-true s.id id e) r.0
    go false e h rest = omega (arith, r.0, rest h)

pub apart-of : (slots : Numbers) (n : ℕ) (ss : List Step) → Rises slots n ss → AreApart ss
apart-of slots n [] r = tt
apart-of slots n (s ∷ ss) r = (go (has s.id (map (λ (x : Step). x.id) ss)) refl, apart-of slots (number_of slots s.id) ss r.2)
  where
    go : (u : Bool) → has s.id (map (λ (x : Step). x.id) ss) ≡ u → u ≡ false
    go true e = absurd (let h = above slots (number_of slots s.id) ss s.id r.2 e in omega (arith, h))
    go false e = refl

-- causes and ends of before

starts-copied : (was : Seen) (ss : List Begun) → map start_of (map (copied_piece was) ss) ≡ map start_of ss
starts-copied was [] = refl
starts-copied was (s ∷ ss) = ap (λ xs. start_of s ∷ xs) (starts-copied was ss)

copies-anew : (was made : Seen) → CopiesPieces was (copied was made)
copies-anew was made = record {
  first_cause = refl;
  first_end = refl;
  piece_cause = λ k s e. let g = get-map (copied_piece was) made.segments k s e in sym (ap (λ (y : Begun). y.cause) g.2) ∙ ap (λ (y : Begun). begun_cause (started y.start was.segments)) g.2;
  piece_end = λ k s e. let g = get-map (copied_piece was) made.segments k s e in sym (ap (λ (y : Begun). y.end) g.2) ∙ ap (λ (y : Begun). begun_end (started y.start was.segments)) g.2;
}

module _ (old new : Code) (slots slots' : Numbers) (flow : List BlockFlow) (x z : List LaneRange) (t : IsTableOf old slots flow x) (last : (b : ℕ) → last_of old b ≡ last_of new b) (numbered : IsNumbered new slots') where
  last-kept : (l b : ℕ) → (rows_seen x l b).is_read_last ≡ has l (last_of new b)
  last-kept l b = ap (λ (v : Shape). v.is_read_last) (t.entered l b) ∙ ap (has l) (last b)

  pub cell-shape : (l b : ℕ) → IsRebuilt old new l b (rows_seen x l b) (rows_seen z l b) → shape (rows_seen z l b) ≡ shape_of new l b
  cell-shape l b (stays same e) = ap shape e ∙ (t.entered l b ∙ same)
  cell-shape l b (made_anew e) =
      let was : Seen = rows_seen x l b in
      let made : Seen = rebuilt l (steps_of new b) in
      let has-pieces : HasPieces l (steps_of new b) made = rebuilt-law l (steps_of new b) (apart-of slots' 0 (steps_of new b) (numbered b)) in
      let segments : map start_of (map (copied_piece was) made.segments) ≡ starts l (steps_of new b) = starts-copied was made.segments ∙ has-pieces.segments in
      ap shape e ∙ (λ k. record { is_read_last = last-kept l b k; readings = has-pieces.readings k; segments = segments k })

  copies-self : (l b : ℕ) → CopiesPieces (rows_seen x l b) (rows_seen x l b)
  copies-self l b = record {
    first_cause = refl;
    first_end = refl;
    piece_cause = λ k s e. sym (ap begun_cause (found-first slots 0 (rows_seen x l b).segments k s (piece-law old slots flow x t l b) e));
    piece_end = λ k s e. sym (ap begun_end (found-first slots 0 (rows_seen x l b).segments k s (piece-law old slots flow x t l b) e));
  }

  pub cell-copies : (l b : ℕ) → IsRebuilt old new l b (rows_seen x l b) (rows_seen z l b) → CopiesPieces (rows_seen x l b) (rows_seen z l b)
  cell-copies l b (stays same e) = subst (CopiesPieces (rows_seen x l b)) (sym e) (copies-self l b)
  cell-copies l b (made_anew e) = subst (CopiesPieces (rows_seen x l b)) (sym e) (copies-anew (rows_seen x l b) (rebuilt l (steps_of new b)))

pub rebuilt-rows-law : RebuiltRowsLaw
rebuilt-rows-law old new slots slots' flow flow' x z t r = record {
  table = record {
    entered = λ l b. cell-shape old new slots slots' flow x z t r.last r.numbered l b (r.cells l b);
    numbered = r.numbered;
    ways = r.ways;
    matched = r.matched;
    few = r.few;
  };
  copies = λ l b. cell-copies old new slots slots' flow x z t r.last r.numbered l b (r.cells l b);
}

-- where nothing is touched

module _ (touched : ℕ → ℕ → Bool) (l : ℕ) (none : (id : ℕ) → touched l id ≡ false) where
  readings-same : {ss rs : List Step} → AreEdited touched ss rs → readings_until l ss ≡ readings_until l rs
  readings-same edit_none = refl
  readings-same (edit_stays {s = s} {r = r} h a) = λ k. reading_of (h.id k) (h.used l (none r.id) k) ++ cond (is_present (h.writing l (none r.id) k)) [] (readings-same a k)
  readings-same (edit_comes {r = r} {rs = rs} h a) = readings-same a ∙ sym (λ k. reading_of r.id (h.unused l (none r.id) k) ++ cond (h.unwritten l (none r.id) k) [] (readings_until l rs))

  starts-same : {ss rs : List Step} → AreEdited touched ss rs → starts l ss ≡ starts l rs
  starts-same edit_none = refl
  starts-same (edit_stays {s = s} {r = r} h a) =
      λ k. elim (h.writing l (none r.id) k) as (λ q. List Start) [ None ↦ starts-same a k | Some w ↦ record { start = h.id k; early = w.early; from = w.from; readings = readings-same a k } ∷ starts-same a k ]
  starts-same (edit_comes {r = r} {rs = rs} h a) =
      starts-same a
      ∙ sym (λ k. elim (none-written (writing_of l r.writes) (h.unwritten l (none r.id)) k) as (λ q. List Start) [ None ↦ starts l rs | Some w ↦ record { start = r.id; early = w.early; from = w.from; readings = readings_until l rs } ∷ starts l rs ])

pub untouched-law : UntouchedLaw
untouched-law touched old new l b e none =
    λ k. record { is_read_last = has l (e.last b k); readings = readings-same (λ a i. touched a b i) l none (e.steps b) k; segments = starts-same (λ a i. touched a b i) l none (e.steps b) k }
