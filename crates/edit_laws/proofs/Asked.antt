-- The reasons that count as a table tells them are those that do.
use Rattle.std.proofs.Common.{◌≡◌, ◌⊎◌, ℕ, true, length, List, [], ◌∷◌, ◌++◌, Option, None, Some, refl, sym, ap, ◌∙◌, subst, inl, inr}
use Rattle.mir_meaning.specs.Paths.{Among, here, Step, Code, steps_of, last_of, Use, Unused, Certain, Into, use_of, is_written}
use Rattle.live_lanes.specs.declared.compute.flow.BlockFlow.{BlockFlow}
use Rattle.live_lanes.specs.declared.row.Cause.{Cause}
use Rattle.live_lanes.specs.declared.row.Cause.TheVariants as reasons
use Rattle.live_lanes.specs.declared.row.LaneUse.{LaneUse}
use Rattle.live_lanes.specs.declared.row.LaneRange.{LaneRange}
use Rattle.live_lanes.specs.Graph.{is_live, writes_in}
use Rattle.live_lanes.specs.Ways.{successors, terminators}
use Rattle.live_lanes.specs.Table.{Numbers, exit_rank, readings_in}
use Rattle.live_lanes.specs.Entered.{Shape, reading, reading_of, rows_seen, causes, IsTableOf}
use Rattle.live_lanes.specs.Growth.{piece_in_rows}
use Rattle.live_lanes.specs.Lasting.{AreOutward}
use Rattle.live_lanes.proofs.Basics.{none-among, among-append}
use Rattle.live_lanes.proofs.Coded.{has-among, among-has}
use Rattle.live_lanes.proofs.Numbered.{among-cases}
use Rattle.live_lanes.proofs.Whole.{piece-readings, readings-there}
use Rattle.edit_laws.specs.Chains.{Node}
use Rattle.edit_laws.specs.Reasons.{IsReason, for_reading, for_move, for_exit, for_end, for_phi, counts}
use Rattle.edit_laws.specs.Asked.{IsFound, found_phi, found_reading, found_move, found_exit, found_end, AsksLaw}
use Rattle.edit_laws.proofs.Carried.{reason-moves, matched-written}
use Rattle.edit_laws.proofs.Needs.{reads-in, moved-use, count-is, readings-are, entry-at, exit-at, read-there}

-- a reading in any case
certain-use : (i id : ℕ) (u : Use) → Among (reading id None) (reading_of i u) → (u ≡ Certain) × (i ≡ id)
certain-use i id Unused m = absurd (none-among (reading id None) m)
certain-use i id Certain m = go (among-cases (reading id None) (reading i None) [] m)
  where
    go : (reading id None ≡ reading i None) ⊎ Among (reading id None) [] → (Certain ≡ Certain) × (i ≡ id)
    go (inl e) = (refl, ap (λ (r : LaneUse). r.id) (sym e))
    go (inr c) = absurd (none-among (reading id None) c)
certain-use i id (Into a) m = go (among-cases (reading id None) (reading i (Some a)) [] m)
  where
    go : (reading id None ≡ reading i (Some a)) ⊎ Among (reading id None) [] → (Into a ≡ Certain) × (i ≡ id)
    go (inl e) = absurd (let z : None ≡ Some a = ap (λ (r : LaneUse). r.into) e in cc)
    go (inr c) = absurd (none-among (reading id None) c)

module _ (code : Code) (slots : Numbers) (flow : List BlockFlow) (rows : List LaneRange) (t : IsTableOf code slots flow rows) (out : AreOutward code slots flow) where
  -- what is found is a reason that counts

  abbrev Counting : ℕ → ℕ → ℕ → Cause → Type 0
  Counting l b n c = (o : Option Node) × IsReason code l b n c o × (counts (causes rows) o ≡ true)

  read-in : (l b n : ℕ) (d : LaneUse) → Among d (readings_in (rows_seen rows l b) n) → Among d (piece-readings l (steps_of code b) n)
  read-in l b n d m = subst (Among d) (readings-are code slots flow rows t l b n) m

  phi-counts : (l b : ℕ) → (rows_seen rows l b).is_read_last ≡ true → Counting l b (length (rows_seen rows l b).segments) reasons.Phi
  phi-counts l b e =
      let a : Among l (last_of code b) = has-among l (last_of code b) (sym (ap (λ (h : Shape). h.is_read_last) (t.entered l b)) ∙ e) in
      (None, reason-moves (for_phi a) (sym (count-is code slots flow rows t l b)) refl refl, refl)

  reading-counts : (l b n id : ℕ) → Among (reading id None) (readings_in (rows_seen rows l b) n) → Counting l b n (reasons.Reading id)
  reading-counts l b n id m =
      let z = reads-in l (reading id None) (steps_of code b) n (read-in l b n (reading id None) m) in
      let y = certain-use z.1.id id (use_of l z.1) z.4 in
      (None, reason-moves (for_reading z.0 z.1 z.2 z.3 y.0) z.5 (ap reasons.Reading y.1) refl, refl)

  move-counts : (l b n a id : ℕ) → Among (reading id (Some a)) (readings_in (rows_seen rows l b) n) → is_live (causes rows a b (piece_in_rows slots rows a b (exit_rank slots id))) ≡ true → Counting l b n (reasons.Reading id)
  move-counts l b n a id m live =
      let z = reads-in l (reading id (Some a)) (steps_of code b) n (read-in l b n (reading id (Some a)) m) in
      let y = moved-use z.1.id id a (use_of l z.1) z.4 in
      let w : is_written a z.1 ≡ true = matched-written z.1 l a (t.matched b z.1 (subst (Among z.1) (sym z.3) (among-append z.1 z.0 z.2))) y.0 in
      let at : piece_in_rows slots rows a b (exit_rank slots id) ≡ writes_in a (z.0 ++ z.1 ∷ []) = ap (λ k. piece_in_rows slots rows a b (exit_rank slots k)) (sym y.1) ∙ exit-at code slots flow rows t a b z.0 z.1 z.2 z.3 in
      (Some (a, b, writes_in a (z.0 ++ z.1 ∷ [])), reason-moves (for_move z.0 z.1 z.2 z.3 y.0 w) z.5 (ap reasons.Reading y.1) refl, ap (λ k. is_live (causes rows a b k)) (sym at) ∙ live)

  exit-counts : (l b x id : ℕ) → Among id (terminators flow b) → Among x (successors flow b) → is_live (causes rows l x 0) ≡ true → Counting l b (piece_in_rows slots rows l b (exit_rank slots id)) (reasons.Follower x)
  exit-counts l b x id i a live =
      let z = t.ways.terminates b id i in
      let at : piece_in_rows slots rows l b (exit_rank slots id) ≡ writes_in l (z.0 ++ z.1 ∷ []) = ap (λ k. piece_in_rows slots rows l b (exit_rank slots k)) (sym z.4) ∙ exit-at code slots flow rows t l b z.0 z.1 z.2 z.3 in
      (Some (l, x, 0), reason-moves (for_exit z.0 z.1 z.2 z.3 z.5 (out.onward b x a)) (sym at) refl refl, live)

  end-counts : (l b x : ℕ) → Among x (successors flow b) → is_live (causes rows l x 0) ≡ true → Counting l b (length (rows_seen rows l b).segments) (reasons.Follower x)
  end-counts l b x a live = (Some (l, x, 0), reason-moves (for_end (out.onward b x a)) (sym (count-is code slots flow rows t l b)) refl refl, live)

  found-counts : {n : Node} {c : Cause} → IsFound slots flow rows n c → Counting n.0 n.1 n.2 c
  found-counts (found_phi {l = l} {b = b} e) = phi-counts l b e
  found-counts (found_reading {l = l} {b = b} {n = n} {id = id} m) = reading-counts l b n id m
  found-counts (found_move {l = l} {b = b} {n = n} {a = a} {id = id} m live) = move-counts l b n a id m live
  found-counts (found_exit {l = l} {b = b} {x = x} {id = id} i a live) = exit-counts l b x id i a live
  found-counts (found_end {l = l} {b = b} {x = x} a live) = end-counts l b x a live

  -- a reason that counts is found

  certain-there : (l b : ℕ) (us : List Step) (s : Step) (vs : List Step) → steps_of code b ≡ us ++ s ∷ vs → use_of l s ≡ Certain → Among (reading s.id None) (readings_in (rows_seen rows l b) (writes_in l us))
  certain-there l b us s vs e u =
      let own : Among (reading s.id None) (reading_of s.id (use_of l s)) = subst (λ v. Among (reading s.id None) (reading_of s.id v)) (sym u) here in
      let inside : Among (reading s.id None) (piece-readings l (steps_of code b) (writes_in l us)) = subst (λ ss. Among (reading s.id None) (piece-readings l ss (writes_in l us))) (sym e) (readings-there l (reading s.id None) us s vs own) in
      subst (Among (reading s.id None)) (sym (readings-are code slots flow rows t l b (writes_in l us))) inside

  moved-there : (l a b : ℕ) (us : List Step) (s : Step) (vs : List Step) → steps_of code b ≡ us ++ s ∷ vs → use_of l s ≡ Into a → Among (reading s.id (Some a)) (readings_in (rows_seen rows l b) (writes_in l us))
  moved-there l a b us s vs e u =
      subst (λ k. Among (reading s.id (Some a)) (readings_in (rows_seen rows l b) k)) (entry-at code slots flow rows t l b us s vs e) (read-there code slots flow rows t l a b us s vs e u)

  found-of : {l b n : ℕ} {c : Cause} {o : Option Node} → IsReason code l b n c o → counts (causes rows) o ≡ true → IsFound slots flow rows (l, b, n) c
  found-of (for_reading {l = l} {b = b} us s vs e u) live = found_reading (certain-there l b us s vs e u)
  found-of (for_move {l = l} {a = a} {b = b} us s vs e u w) live =
      found_move (moved-there l a b us s vs e u) (ap (λ k. is_live (causes rows a b k)) (exit-at code slots flow rows t a b us s vs e) ∙ live)
  found-of (for_exit {l = l} {b = b} {x = x} us s vs e k a) live =
      let i : Among s.id (terminators flow b) = t.ways.leaves b s (subst (Among s) (sym e) (among-append s us vs)) k in
      subst (λ m. IsFound slots flow rows (l, b, m) (reasons.Follower x)) (exit-at code slots flow rows t l b us s vs e) (found_exit i (out.whole b x a) live)
  found-of (for_end {l = l} {b = b} {x = x} a) live =
      subst (λ m. IsFound slots flow rows (l, b, m) (reasons.Follower x)) (count-is code slots flow rows t l b) (found_end (out.whole b x a) live)
  found-of (for_phi {l = l} {b = b} a) live =
      subst (λ m. IsFound slots flow rows (l, b, m) reasons.Phi) (count-is code slots flow rows t l b) (found_phi (ap (λ (h : Shape). h.is_read_last) (t.entered l b) ∙ among-has l (last_of code b) a))

pub asks-law : AsksLaw
asks-law code slots flow rows t out asked queue inside whole = record {
  inside = λ r a. (inside r a).0;
  founded = λ r a. found-counts code slots flow rows t out (inside r a).1;
  whole = λ n a dead c o reason live. whole n a dead c (found-of code slots flow rows t out reason live);
}
