-- What leads to a piece as a table tells it is what does.
use Rattle.std.proofs.Common.{◌≡◌, ◌⊎◌, ℕ, zero, suc, true, length, List, [], ◌∷◌, ◌++◌, Option, None, Some, refl, sym, ap, ◌∙◌, subst, inl, inr, arith, map, append_assoc}
use Rattle.std.specs.Prelude.{slice_get, option_map}
use Rattle.std.proofs.lemmas.List.{length-map}
use Rattle.mir_meaning.specs.Paths.{Among, here, Step, Code, steps_of, Use, Unused, Certain, Into, use_of, is_written, is_present}
use Rattle.live_lanes.specs.declared.compute.flow.BlockFlow.{BlockFlow}
use Rattle.live_lanes.specs.declared.row.Cause.{Cause}
use Rattle.live_lanes.specs.declared.row.Cause.TheVariants as causes
use Rattle.live_lanes.specs.declared.row.LaneUse.{LaneUse}
use Rattle.live_lanes.specs.declared.row.LaneRange.{LaneRange}
use Rattle.live_lanes.specs.Graph.{Causes, writes_in}
use Rattle.live_lanes.specs.Ways.{predecessors, terminators}
use Rattle.live_lanes.specs.Table.{Numbers, Begun, entry_rank, exit_rank, begun_readings, readings_in, moved_at, moved_in}
use Rattle.live_lanes.specs.Entered.{Start, start_of, Shape, starts, readings_until, reading, reading_of, rows_seen, IsTableOf}
use Rattle.live_lanes.specs.Growth.{piece_in_rows}
use Rattle.live_lanes.proofs.Basics.{none-among, among-append, writes-append, writes-more}
use Rattle.live_lanes.proofs.Numbered.{among-cases, entry-piece, exit-piece}
use Rattle.live_lanes.proofs.Pieces.{start_readings, reads-at, length-starts}
use Rattle.live_lanes.proofs.Sources.{starts-at, starts-there, moved-segment}
use Rattle.live_lanes.proofs.Whole.{piece-readings, readings-there}
use Rattle.edit_laws.specs.Chains.{Node}
use Rattle.edit_laws.specs.Reasons.{IsReason, for_reading, for_move, for_exit, for_end, for_phi, ReasonFor, cause_of}
use Rattle.edit_laws.specs.Update.{Request, Wanted}
use Rattle.edit_laws.specs.Needs.{IsNeed, need_end, need_exit, need_move, NeedsLaw, NeedsServeLaw}
use Rattle.edit_laws.proofs.Begun.{one-split}
use Rattle.edit_laws.proofs.Carried.{reason-moves}

some-node : (n m : Node) → Some n ≡ Some m → n ≡ m
some-node n m e = cc

-- elements of lists that are made of others

pub map-get : {X Y : Type 0} (f : X → Y) (xs : List X) (k : ℕ) (x : X) → slice_get xs k ≡ Some x → slice_get (map f xs) k ≡ Some (f x)
map-get f [] k x e = absurd (cc)
map-get f (y ∷ xs) zero x e = let z : y ≡ x = cc in ap (λ t. Some (f t)) z
map-get f (y ∷ xs) (suc k) x e = map-get f xs k x e

pub get-map : {X Y : Type 0} (f : X → Y) (xs : List X) (k : ℕ) (y : Y) → slice_get (map f xs) k ≡ Some y → (x : X) × (slice_get xs k ≡ Some x) × (f x ≡ y)
get-map f [] k y e = absurd (cc)
get-map f (x ∷ xs) zero y e = (x, refl, cc)
get-map f (x ∷ xs) (suc k) y e = get-map f xs k y e

segment-readings : (segments : List Begun) (k : ℕ) → begun_readings (slice_get segments k) ≡ start_readings (slice_get (map start_of segments) k)
segment-readings [] k = refl
segment-readings (s ∷ ss) zero = refl
segment-readings (s ∷ ss) (suc k) = segment-readings ss k

-- an instruction of which the piece of a number has a reading
abbrev pub HasReading : ℕ → LaneUse → List Step → ℕ → Type 0
HasReading a d ss k = (us : List Step) × (s : Step) × (vs : List Step) × (ss ≡ us ++ s ∷ vs) × Among d (reading_of s.id (use_of a s)) × (writes_in a us ≡ k)

pub reads-in : (a : ℕ) (d : LaneUse) (ss : List Step) (k : ℕ) → Among d (piece-readings a ss k) → HasReading a d ss k
reads-in a d ss zero m = let z = reads-at a d ss m in (z.before, z.step, z.rest, z.split, z.reads, z.unwritten)
reads-in a d ss (suc k) m = go (slice_get (starts a ss) k) refl m
  where
    go : (o : Option Start) → slice_get (starts a ss) k ≡ o → Among d (start_readings o) → HasReading a d ss (suc k)
    go None f n = absurd (none-among d n)
    go (Some st) f n =
        let g = starts-at a ss k st f in
        let z = reads-at a d g.rest (subst (Among d) g.readings n) in
        let p : writes_in a (g.before ++ g.step ∷ z.before) ≡ writes_in a ((g.before ++ g.step ∷ []) ++ z.before) = ap (writes_in a) (sym (append_assoc g.before (g.step ∷ []) z.before)) in
        let q = writes-append a (g.before ++ g.step ∷ []) z.before in
        let x = g.number in
        let y = z.unwritten in
        let count : writes_in a (g.before ++ g.step ∷ z.before) ≡ suc k = omega (arith, p, q, x, y) in
        let split : ss ≡ (g.before ++ g.step ∷ z.before) ++ z.step ∷ z.rest = g.split ∙ (ap (λ ys. g.before ++ g.step ∷ ys) z.split ∙ sym (append_assoc g.before (g.step ∷ z.before) (z.step ∷ z.rest))) in
        (g.before ++ g.step ∷ z.before, z.step, z.rest, split, z.reads, count)

-- a reading that says into which lane it is moved
pub moved-use : (i id a : ℕ) (u : Use) → Among (reading id (Some a)) (reading_of i u) → (u ≡ Into a) × (i ≡ id)
moved-use i id a Unused m = absurd (none-among (reading id (Some a)) m)
moved-use i id a Certain m = go (among-cases (reading id (Some a)) (reading i None) [] m)
  where
    go : (reading id (Some a) ≡ reading i None) ⊎ Among (reading id (Some a)) [] → (Certain ≡ Into a) × (i ≡ id)
    go (inl e) = absurd (let z : Some a ≡ None = ap (λ (r : LaneUse). r.into) e in cc)
    go (inr c) = absurd (none-among (reading id (Some a)) c)
moved-use i id a (Into c) m = go (among-cases (reading id (Some a)) (reading i (Some c)) [] m)
  where
    go : (reading id (Some a) ≡ reading i (Some c)) ⊎ Among (reading id (Some a)) [] → (Into c ≡ Into a) × (i ≡ id)
    go (inl e) =
        let z : Some a ≡ Some c = ap (λ (r : LaneUse). r.into) e in
        let y : a ≡ c = cc in
        (ap Into (sym y), ap (λ (r : LaneUse). r.id) (sym e))
    go (inr d) = absurd (none-among (reading id (Some a)) d)

module _ (code : Code) (slots : Numbers) (flow : List BlockFlow) (rows : List LaneRange) (t : IsTableOf code slots flow rows) where
  pub starts-are : (l b : ℕ) → map start_of (rows_seen rows l b).segments ≡ starts l (steps_of code b)
  starts-are l b = ap (λ (h : Shape). h.segments) (t.entered l b)

  pub count-is : (l b : ℕ) → length (rows_seen rows l b).segments ≡ writes_in l (steps_of code b)
  count-is l b = sym (length-map (rows_seen rows l b).segments start_of) ∙ (ap (λ (ss : List Start). length ss) (starts-are l b) ∙ length-starts l (steps_of code b))

  pub readings-are : (a b k : ℕ) → readings_in (rows_seen rows a b) k ≡ piece-readings a (steps_of code b) k
  readings-are a b zero = ap (λ (h : Shape). h.readings) (t.entered a b)
  readings-are a b (suc k) = segment-readings (rows_seen rows a b).segments k ∙ ap (λ (ss : List Start). start_readings (slice_get ss k)) (starts-are a b)

  pub entry-at : (l b : ℕ) (us : List Step) (s : Step) (vs : List Step) → steps_of code b ≡ us ++ s ∷ vs → piece_in_rows slots rows l b (entry_rank slots s.id) ≡ writes_in l us
  entry-at l b us s vs e = entry-piece code slots t.numbered l b (rows_seen rows l b).segments (starts-are l b) us s vs e

  pub exit-at : (l b : ℕ) (us : List Step) (s : Step) (vs : List Step) → steps_of code b ≡ us ++ s ∷ vs → piece_in_rows slots rows l b (exit_rank slots s.id) ≡ writes_in l (us ++ s ∷ [])
  exit-at l b us s vs e = exit-piece code slots t.numbered l b (rows_seen rows l b).segments (starts-are l b) us s vs e

  -- each need is a reason

  end-reason : (l b x : ℕ) → Among b (predecessors flow x) → IsReason code l b (length (rows_seen rows l b).segments) (causes.Follower x) (Some (l, x, 0))
  end-reason l b x a = reason-moves (for_end (t.ways.forth b x a)) (sym (count-is l b)) refl refl

  exit-reason : (l b x id : ℕ) → Among b (predecessors flow x) → Among id (terminators flow b) → IsReason code l b (piece_in_rows slots rows l b (exit_rank slots id)) (causes.Follower x) (Some (l, x, 0))
  exit-reason l b x id a i =
      let z = t.ways.terminates b id i in
      let at : piece_in_rows slots rows l b (exit_rank slots id) ≡ writes_in l (z.0 ++ z.1 ∷ []) = ap (λ k. piece_in_rows slots rows l b (exit_rank slots k)) (sym z.4) ∙ exit-at l b z.0 z.1 z.2 z.3 in
      reason-moves (for_exit z.0 z.1 z.2 z.3 z.5 (t.ways.forth b x a)) (sym at) refl refl

  move-reason : (l b n a id : ℕ) → moved_in (rows_seen rows l b) n ≡ Some (id, a) → Among (reading id (Some l)) (readings_in (rows_seen rows a b) (piece_in_rows slots rows a b (entry_rank slots id))) → IsReason code a b (piece_in_rows slots rows a b (entry_rank slots id)) (causes.Reading id) (Some (l, b, n))
  move-reason l b n a id m r =
      let q = moved-segment (rows_seen rows l b) n id a m in
      let g = starts-at l (steps_of code b) q.k (start_of q.segment) (ap (λ (ss : List Start). slice_get ss q.k) (sym (starts-are l b)) ∙ map-get start_of (rows_seen rows l b).segments q.k q.segment q.there) in
      let own : g.step.id ≡ id = sym g.id ∙ q.start in
      let z = reads-in a (reading id (Some l)) (steps_of code b) (piece_in_rows slots rows a b (entry_rank slots id)) (subst (Among (reading id (Some l))) (readings-are a b (piece_in_rows slots rows a b (entry_rank slots id))) r) in
      let y = moved-use z.1.id id l (use_of a z.1) z.4 in
      let same : z.1 ≡ g.step = (one-split slots 0 (steps_of code b) z.0 z.1 z.2 g.before g.step g.rest (t.numbered b) z.3 g.split (y.1 ∙ sym own)).1 in
      let u : use_of a g.step ≡ Into l = ap (use_of a) (sym same) ∙ y.0 in
      let w : is_written l g.step ≡ true = ap is_present g.writes in
      let at : piece_in_rows slots rows a b (entry_rank slots id) ≡ writes_in a g.before = ap (λ k. piece_in_rows slots rows a b (entry_rank slots k)) (sym own) ∙ entry-at a b g.before g.step g.rest g.split in
      let number : writes_in l (g.before ++ g.step ∷ []) ≡ n = g.number ∙ sym q.index_is in
      reason-moves (for_move g.before g.step g.rest g.split u w) (sym at) (ap causes.Reading own) (λ k. Some (l, b, number k))

  need-reason : {m : Node} {r : Request} → IsNeed slots flow rows m r → ReasonFor code r.node r.cause (Some m)
  need-reason (need_end {l = l} {b = b} {x = x} a) = end-reason l b x a
  need-reason (need_exit {l = l} {b = b} {x = x} {id = id} a i) = exit-reason l b x id a i
  need-reason (need_move {l = l} {b = b} {n = n} {a = a} {id = id} m r) = move-reason l b n a id m r

  -- each reason is among the needs

  abbrev Needed : Node → Node → Cause → Type 0
  Needed m n c = (r : Request) × IsNeed slots flow rows m r × (r.node ≡ n) × (r.cause ≡ c)

  -- what the instruction moves begins the piece, and is read so
  move-there : (l a b : ℕ) (us : List Step) (s : Step) (vs : List Step) → steps_of code b ≡ us ++ s ∷ vs → use_of l s ≡ Into a → moved_in (rows_seen rows a b) (writes_in a (us ++ s ∷ [])) ≡ Some (s.id, l)
  move-there l a b us s vs e u =
      let f = (t.matched b s (subst (Among s) (sym e) (among-append s us vs))).filled l a u in
      let there = ap (λ ss. slice_get (starts a ss) (writes_in a us)) e ∙ starts-there a us s vs f.0 f.1 in
      let g = get-map start_of (rows_seen rows a b).segments (writes_in a us) (record { start = s.id; early = f.0.early; from = f.0.from; readings = readings_until a vs }) (ap (λ (ss : List Start). slice_get ss (writes_in a us)) (starts-are a b) ∙ there) in
      let number : writes_in a (us ++ s ∷ []) ≡ suc (writes_in a us) = writes-more a us s (ap is_present f.1) in
      let source : g.0.from ≡ Some l = ap (λ (z : Start). z.from) g.2 ∙ f.2 in
      let first : g.0.start ≡ s.id = ap (λ (z : Start). z.start) g.2 in
      ap (moved_in (rows_seen rows a b)) number ∙ (ap moved_at g.1 ∙ (ap (option_map {U = ℕ × ℕ} (λ z. (g.0.start, z))) source ∙ (λ k. Some (first k, l))))

  pub read-there : (l a b : ℕ) (us : List Step) (s : Step) (vs : List Step) → steps_of code b ≡ us ++ s ∷ vs → use_of l s ≡ Into a → Among (reading s.id (Some a)) (readings_in (rows_seen rows l b) (piece_in_rows slots rows l b (entry_rank slots s.id)))
  read-there l a b us s vs e u =
      let own : Among (reading s.id (Some a)) (reading_of s.id (use_of l s)) = subst (λ v. Among (reading s.id (Some a)) (reading_of s.id v)) (sym u) here in
      let inside : Among (reading s.id (Some a)) (piece-readings l (steps_of code b) (writes_in l us)) = subst (λ ss. Among (reading s.id (Some a)) (piece-readings l ss (writes_in l us))) (sym e) (readings-there l (reading s.id (Some a)) us s vs own) in
      subst (λ k. Among (reading s.id (Some a)) (readings_in (rows_seen rows l b) k)) (sym (entry-at l b us s vs e)) (subst (Among (reading s.id (Some a))) (sym (readings-are l b (writes_in l us))) inside)

  reason-need : {l b n : ℕ} {c : Cause} {o : Option Node} → IsReason code l b n c o → (m : Node) → o ≡ Some m → Needed m (l, b, n) c
  reason-need (for_reading us s vs e u) m g = absurd (let z : None ≡ Some m = g in cc)
  reason-need (for_move {l = l} {a = a} {b = b} us s vs e u w) m g =
      let at = entry-at l b us s vs e in
      let need : IsNeed slots flow rows (a, b, writes_in a (us ++ s ∷ [])) (record { node = (l, b, piece_in_rows slots rows l b (entry_rank slots s.id)); cause = causes.Reading s.id }) = need_move (move-there l a b us s vs e u) (read-there l a b us s vs e u) in
      (record { node = (l, b, piece_in_rows slots rows l b (entry_rank slots s.id)); cause = causes.Reading s.id }, subst (λ (z : Node). IsNeed slots flow rows z (record { node = (l, b, piece_in_rows slots rows l b (entry_rank slots s.id)); cause = causes.Reading s.id })) (some-node (a, b, writes_in a (us ++ s ∷ [])) m g) need, (λ k. (l, b, at k)), refl)
  reason-need (for_exit {l = l} {b = b} {x = x} us s vs e k a) m g =
      let at = exit-at l b us s vs e in
      let leaves : Among s.id (terminators flow b) = t.ways.leaves b s (subst (Among s) (sym e) (among-append s us vs)) k in
      let need : IsNeed slots flow rows (l, x, 0) (record { node = (l, b, piece_in_rows slots rows l b (exit_rank slots s.id)); cause = causes.Follower x }) = need_exit (t.ways.back b x a) leaves in
      (record { node = (l, b, piece_in_rows slots rows l b (exit_rank slots s.id)); cause = causes.Follower x }, subst (λ (z : Node). IsNeed slots flow rows z (record { node = (l, b, piece_in_rows slots rows l b (exit_rank slots s.id)); cause = causes.Follower x })) (some-node (l, x, 0) m g) need, (λ k. (l, b, at k)), refl)
  reason-need (for_end {l = l} {b = b} {x = x} a) m g =
      let at = count-is l b in
      let need : IsNeed slots flow rows (l, x, 0) (record { node = (l, b, length (rows_seen rows l b).segments); cause = causes.Follower x }) = need_end (t.ways.back b x a) in
      (record { node = (l, b, length (rows_seen rows l b).segments); cause = causes.Follower x }, subst (λ (z : Node). IsNeed slots flow rows z (record { node = (l, b, length (rows_seen rows l b).segments); cause = causes.Follower x })) (some-node (l, x, 0) m g) need, (λ k. (l, b, at k)), refl)
  reason-need (for_phi a) m g = absurd (let z : None ≡ Some m = g in cc)

pub needs-law : NeedsLaw
needs-law code slots flow rows t m queue inside whole = record {
  reasons = λ r a. need-reason code slots flow rows t (inside r a);
  whole = λ n c reason. let z = reason-need code slots flow rows t reason m refl in (z.0, whole z.0 z.1, z.2, z.3);
}

pub needs-serve-law : NeedsServeLaw
needs-serve-law code m queue needs = record { lead = record { reasons = needs.reasons; whole = wanted }; told = told }
  where
    wanted : (n : Node) (c : Cause) → ReasonFor code n c (Some m) → Wanted n queue
    wanted n c r = let z = needs.whole n c r in (z.0, z.1, z.2)

    told : (why : Causes) → ((r : Request) → Among r queue → cause_of why r.node ≡ r.cause → ⊥) → (n : Node) → ReasonFor code n (cause_of why n) (Some m) → ⊥
    told why none n reason =
        let z = needs.whole n (cause_of why n) reason in
        none z.0 z.1 (ap (λ (k : Node). cause_of why k) z.2 ∙ sym z.3)
