-- Causes and ends that are copied by the instructions that begin pieces are carried over.
use Rattle.std.proofs.Common.{◌≡◌, ◌<◌, ℕ, zero, suc, Bool, true, false, cond, ltb, List, [], ◌∷◌, ◌++◌, Option, None, Some, refl, sym, ap, ◌∙◌, subst, arith, eqb-true, eq-eqb}
use Rattle.std.specs.Prelude.{nat_eq, slice_get}
use Rattle.std.proofs.lemmas.Bool.{ltb-true}
use Rattle.slot_index.specs.Order.{number_of}
use Rattle.mir_meaning.specs.declared.writing.LaneDef.{LaneDef}
use Rattle.mir_meaning.specs.Paths.{Step, Code, steps_of, writing_of, is_present, is_written}
use Rattle.live_lanes.specs.declared.compute.flow.BlockFlow.{BlockFlow}
use Rattle.live_lanes.specs.declared.row.LaneRange.{LaneRange}
use Rattle.live_lanes.specs.Graph.{is_live, writes_in}
use Rattle.live_lanes.specs.Table.{Numbers, Begun, begun_cause, begun_end, cause_in, end_in, rises_from}
use Rattle.live_lanes.specs.Entered.{Start, start_of, starts, readings_until, rows_seen, causes, IsTableOf}
use Rattle.live_lanes.specs.Ends.{row_end}
use Rattle.live_lanes.proofs.Basics.{writes-more}
use Rattle.live_lanes.proofs.Cells.{both-left, both-right}
use Rattle.live_lanes.proofs.Growth.{piece-law}
use Rattle.live_lanes.proofs.Sources.{starts-at, starts-there}
use Rattle.edit_laws.specs.Reasons.{Begins, at_start, at_write, IsKept, carried}
use Rattle.edit_laws.specs.CarriedRows.{started, CopiesPieces, CarriedRowsLaw}
use Rattle.edit_laws.proofs.Begun.{one-number}
use Rattle.edit_laws.proofs.Needs.{map-get, get-map, starts-are}

some-begun : (s t : Begun) → Some s ≡ Some t → s ≡ t
some-begun s t e = cc

-- the pieces of a cell have other starts, since their numbers rise

above : (slots : Numbers) (m : ℕ) (ss : List Begun) (k : ℕ) (s : Begun) → rises_from slots m ss ≡ true → slice_get ss k ≡ Some s → m < number_of slots s.start
above slots m [] k s r e = absurd (cc)
above slots m (x ∷ ss) zero s r e =
    let h = ltb-true m (number_of slots x.start) (both-left (ltb m (number_of slots x.start)) (rises_from slots (number_of slots x.start) ss) r) in
    let z : number_of slots x.start ≡ number_of slots s.start = ap (λ (t : Begun). number_of slots t.start) (some-begun x s e) in
    omega (arith, h, z)
above slots m (x ∷ ss) (suc k) s r e =
    let h = ltb-true m (number_of slots x.start) (both-left (ltb m (number_of slots x.start)) (rises_from slots (number_of slots x.start) ss) r) in
    let ih = above slots (number_of slots x.start) ss k s (both-right (ltb m (number_of slots x.start)) (rises_from slots (number_of slots x.start) ss) r) e in
    omega (arith, h, ih)

pub found-first : (slots : Numbers) (m : ℕ) (ss : List Begun) (k : ℕ) (s : Begun) → rises_from slots m ss ≡ true → slice_get ss k ≡ Some s → started s.start ss ≡ Some s
found-first slots m [] k s r e = absurd (cc)
found-first slots m (x ∷ ss) zero s r e =
    let z : x ≡ s = some-begun x s e in
    ap (λ u. cond u (Some x) (started s.start ss)) (eq-eqb x.start s.start (ap (λ (t : Begun). t.start) z)) ∙ ap Some z
found-first slots m (x ∷ ss) (suc k) s r e =
    let rest : rises_from slots (number_of slots x.start) ss ≡ true = both-right (ltb m (number_of slots x.start)) (rises_from slots (number_of slots x.start) ss) r in
    ap (λ u. cond u (Some x) (started s.start ss)) (other (above slots (number_of slots x.start) ss k s rest e) (nat_eq x.start s.start) refl) ∙ found-first slots (number_of slots x.start) ss k s rest e
  where
    other : number_of slots x.start < number_of slots s.start → (u : Bool) → nat_eq x.start s.start ≡ u → nat_eq x.start s.start ≡ false
    other lt true h = absurd (let z : number_of slots x.start ≡ number_of slots s.start = ap (number_of slots) (eqb-true x.start s.start h) in omega (arith, z, lt))
    other lt false h = h

find-place : (id : ℕ) (ss : List Begun) (s : Begun) → started id ss ≡ Some s → (k : ℕ) × (slice_get ss k ≡ Some s) × (s.start ≡ id)
find-place id [] s e = absurd (cc)
find-place id (x ∷ ss) s e = go (nat_eq x.start id) refl e (λ f. find-place id ss s f)
  where
    go : (u : Bool) → nat_eq x.start id ≡ u → cond u (Some x) (started id ss) ≡ Some s → (started id ss ≡ Some s → (k : ℕ) × (slice_get ss k ≡ Some s) × (s.start ≡ id)) → (k : ℕ) × (slice_get (x ∷ ss) k ≡ Some s) × (s.start ≡ id)
    go true h f ih = (0, f, ap (λ (t : Begun). t.start) (sym (some-begun x s f)) ∙ eqb-true x.start id h)
    go false h f ih = let z = ih f in (suc z.0, z.1, z.2)

-- pieces of the code, and those of a table of it

module _ (code : Code) (slots : Numbers) (flow : List BlockFlow) (rows : List LaneRange) (t : IsTableOf code slots flow rows) (l b : ℕ) where
  abbrev segments : List Begun
  segments = (rows_seen rows l b).segments

  abbrev SegmentOf : ℕ → ℕ → Type 0
  SegmentOf n id = (k : ℕ) × (g : Begun) × (n ≡ suc k) × (slice_get segments k ≡ Some g) × (g.start ≡ id)

  written-segment : (us : List Step) (s : Step) (vs : List Step) → steps_of code b ≡ us ++ s ∷ vs → (o : Option LaneDef) → writing_of l s.writes ≡ o → is_present o ≡ true → (g : Begun) × (slice_get segments (writes_in l us) ≡ Some g) × (g.start ≡ s.id)
  written-segment us s vs e None f w = absurd (cc)
  written-segment us s vs e (Some d) f w =
      let there = ap (λ ss. slice_get (starts l ss) (writes_in l us)) e ∙ starts-there l us s vs d f in
      let g = get-map start_of segments (writes_in l us) (record { start = s.id; early = d.early; from = d.from; readings = readings_until l vs }) (ap (λ (ss : List Start). slice_get ss (writes_in l us)) (starts-are code slots flow rows t l b) ∙ there) in
      (g.0, g.1, ap (λ (z : Start). z.start) g.2)

  segment-of : {n : ℕ} {o : Option ℕ} → Begins code l b n o → (id : ℕ) → o ≡ Some id → SegmentOf n id
  segment-of at_start id e = absurd (let z : None ≡ Some id = e in cc)
  segment-of (at_write us s vs e w) id g =
      let same : Some s.id ≡ Some id = g in
      let i : s.id ≡ id = cc in
      let z = written-segment us s vs e (writing_of l s.writes) refl w in
      (writes_in l us, z.0, writes-more l us s w, z.1, z.2 ∙ i)

  begins-at : (k : ℕ) (g : Begun) → slice_get segments k ≡ Some g → Begins code l b (suc k) (Some g.start)
  begins-at k g f =
      let z = starts-at l (steps_of code b) k (start_of g) (ap (λ (ss : List Start). slice_get ss k) (sym (starts-are code slots flow rows t l b)) ∙ map-get start_of segments k g f) in
      let w : is_written l z.step ≡ true = ap is_present z.writes in
      subst (λ n. Begins code l b n (Some g.start)) z.number (subst (λ i. Begins code l b (writes_in l (z.before ++ z.step ∷ [])) (Some i)) (sym z.id) (at_write z.before z.step z.rest z.split w))

module _ (old new : Code) (slots slots' : Numbers) (flow flow' : List BlockFlow) (x y : List LaneRange) (t : IsTableOf old slots flow x) (t' : IsTableOf new slots' flow' y) (l b : ℕ) (copies : CopiesPieces (rows_seen x l b) (rows_seen y l b)) where
  -- a piece that begins as one of before
  abbrev pub Alike : ℕ → ℕ → Type 0
  Alike m n = (causes y l b n ≡ causes x l b m) × (row_end y l b n ≡ row_end x l b m)

  first-alike : (m n : ℕ) → m ≡ 0 → n ≡ 0 → Alike m n
  first-alike m n e f = (
    ap (cause_in (rows_seen y l b)) f ∙ (copies.first_cause ∙ sym (ap (cause_in (rows_seen x l b)) e)),
    ap (end_in (rows_seen y l b)) f ∙ (copies.first_end ∙ sym (ap (end_in (rows_seen x l b)) e)),
  )

  segment-alike : (m n id : ℕ) → SegmentOf old slots flow x t l b m id → SegmentOf new slots' flow' y t' l b n id → Alike m n
  segment-alike m n id p q =
      let found : started q.1.start (rows_seen x l b).segments ≡ Some p.1 = ap (λ i. started i (rows_seen x l b).segments) (q.4 ∙ sym p.4) ∙ found-first slots 0 (rows_seen x l b).segments p.0 p.1 (piece-law old slots flow x t l b) p.3 in (
        ap (cause_in (rows_seen y l b)) q.2 ∙ (ap begun_cause q.3 ∙ (copies.piece_cause q.0 q.1 q.3 ∙ (ap begun_cause (found ∙ sym p.3) ∙ sym (ap (cause_in (rows_seen x l b)) p.2)))),
        ap (end_in (rows_seen y l b)) q.2 ∙ (ap begun_end q.3 ∙ (copies.piece_end q.0 q.1 q.3 ∙ (ap begun_end (found ∙ sym p.3) ∙ sym (ap (end_in (rows_seen x l b)) p.2)))),
      )

  pub alike : (m n : ℕ) (start : Option ℕ) → Begins old l b m start → Begins new l b n start → Alike m n
  alike m n None u v = first-alike m n (one-number old slots t.numbered u at_start refl) (one-number new slots' t'.numbered v at_start refl)
  alike m n (Some id) u v = segment-alike m n id (segment-of old slots flow x t l b u id refl) (segment-of new slots' flow' y t' l b v id refl)

  -- a live piece began so before
  pub kept : (n : ℕ) → is_live (causes y l b n) ≡ true → IsKept old new l b n
  kept zero live = record { number = 0; start = None; before = at_start; after = at_start }
  kept (suc k) live = go (slice_get (rows_seen y l b).segments k) refl live
    where
      began : (g : Begun) → slice_get (rows_seen y l b).segments k ≡ Some g → (o : Option Begun) → started g.start (rows_seen x l b).segments ≡ o → is_live (begun_cause o) ≡ true → IsKept old new l b (suc k)
      began g f None e h = absurd (cc)
      began g f (Some s) e h =
          let z = find-place g.start (rows_seen x l b).segments s e in
          record {
            number = suc z.0;
            start = Some g.start;
            before = subst (λ i. Begins old l b (suc z.0) (Some i)) z.2 (begins-at old slots flow x t l b z.0 s z.1);
            after = begins-at new slots' flow' y t' l b k g f;
          }

      go : (o : Option Begun) → slice_get (rows_seen y l b).segments k ≡ o → is_live (begun_cause o) ≡ true → IsKept old new l b (suc k)
      go None f h = absurd (cc)
      go (Some g) f h = began g f (started g.start (rows_seen x l b).segments) refl (ap is_live (sym (copies.piece_cause k g f)) ∙ h)

pub carried-rows-law : CarriedRowsLaw
carried-rows-law touched old new slots slots' flow flow' x y t t' copies = record {
  carried = record {
    kept = λ l b m n start u v. carried (alike old new slots slots' flow flow' x y t t' l b (copies l b) m n start u v).0;
    live = λ l b n live. kept old new slots slots' flow flow' x y t t' l b (copies l b) n live;
  };
  ends = λ l b m n start u v. (alike old new slots slots' flow flow' x y t t' l b (copies l b) m n start u v).1;
}
