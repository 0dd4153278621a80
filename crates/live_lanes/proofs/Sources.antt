-- Raising what leads to a live piece.
use Rattle.std.proofs.Common.{◌≡◌, ◌<◌, ◌≤◌, ℕ, zero, suc, true, cond, length, List, [], ◌∷◌, ◌++◌, ◌⊎◌, Option, None, Some, refl, sym, ap, ◌∙◌, subst, inl, inr, arith, map, get_or, append-nil}
use Rattle.std.specs.Prelude.{slice_get, option_map}
use Rattle.std.proofs.lemmas.Option.{slice_get_cases}
use Rattle.mir_meaning.specs.declared.writing.LaneDef.{LaneDef}
use Rattle.live_lanes.specs.declared.compute.flow.BlockFlow.{BlockFlow}
use Rattle.live_lanes.specs.declared.row.Cause.TheVariants as why
use Rattle.live_lanes.specs.declared.row.LaneUse.{LaneUse}
use Rattle.live_lanes.specs.declared.row.LaneRange.{LaneRange}
use Rattle.live_lanes.specs.declared.table.PieceSpot.{PieceSpot}
use Rattle.mir_meaning.specs.Paths.{Among, Step, Code, steps_of, Use, Unused, Certain, Into, use_of, writing_of, is_written, is_present, IsMatched}
use Rattle.live_lanes.specs.Graph.{is_live, writes_in, Founded, by_reading, by_move}
use Rattle.live_lanes.specs.Table.{Numbers, Seen, unseen, Begun, moved_at, moved_in, entry_rank}
use Rattle.live_lanes.specs.Entered.{Start, start_of, shape, starts, readings_until, reading_of, shape_of, rows_seen, causes, IsTableOf}
use Rattle.live_lanes.specs.Growth.{piece_in_rows, Raised, AllFounded, Grew, SourcesLive, RaisesPredecessors}
use Rattle.live_lanes.proofs.Basics.{among-append, writes-append, writes-more, writes-head}
use Rattle.live_lanes.proofs.Growth.{founded-kept, raised-grew, raised-live, grew-refl}
use Rattle.live_lanes.proofs.Numbered.{entry-piece}
use Rattle.live_lanes.proofs.Rows.{row_seen}
use Rattle.live_lanes.proofs.Sound.{splits}

some-inj : {X : Type 0} (x y : X) → Some x ≡ Some y → x ≡ y
some-inj x y e = cc

some-none : {X : Type 0} (x : X) → Some x ≡ None → ⊥
some-none x e = cc

-- the instruction that begins a piece
pub record Begins (l k : ℕ) (st : Start) (steps : List Step) : Type 0 where
  pub before : List Step
  pub step : Step
  pub rest : List Step
  pub writing : LaneDef
  pub split : steps ≡ before ++ step ∷ rest
  pub writes : writing_of l step.writes ≡ Some writing
  pub id : st.start ≡ step.id
  pub from : st.from ≡ writing.from
  pub number : writes_in l (before ++ step ∷ []) ≡ suc k
  pub readings : st.readings ≡ readings_until l rest

written : (l : ℕ) (s : Step) (w : LaneDef) → writing_of l s.writes ≡ Some w → is_written l s ≡ true
written l s w e = ap is_present e

pub starts-at : (l : ℕ) (steps : List Step) (k : ℕ) (st : Start) → slice_get (starts l steps) k ≡ Some st → Begins l k st steps
starts-at l [] k st e = absurd (cc)
starts-at l (s ∷ ss) k st e = go (writing_of l s.writes) refl k e (λ k' e'. starts-at l ss k' st e')
  where
    skip : writing_of l s.writes ≡ None → (k : ℕ) → Begins l k st ss → Begins l k st (s ∷ ss)
    skip n k z = record {
      before = s ∷ z.before;
      step = z.step;
      rest = z.rest;
      writing = z.writing;
      split = ap (λ t. s ∷ t) z.split;
      writes = z.writes;
      id = z.id;
      from = z.from;
      number = ap (λ b. cond b (suc (writes_in l (z.before ++ z.step ∷ []))) (writes_in l (z.before ++ z.step ∷ []))) (ap is_present n) ∙ z.number;
      readings = z.readings;
    }

    past : (w : LaneDef) → writing_of l s.writes ≡ Some w → (k : ℕ) → Begins l k st ss → Begins l (suc k) st (s ∷ ss)
    past w n k z = record {
      before = s ∷ z.before;
      step = z.step;
      rest = z.rest;
      writing = z.writing;
      split = ap (λ t. s ∷ t) z.split;
      writes = z.writes;
      id = z.id;
      from = z.from;
      number = ap (λ b. cond b (suc (writes_in l (z.before ++ z.step ∷ []))) (writes_in l (z.before ++ z.step ∷ []))) (ap is_present n) ∙ ap suc z.number;
      readings = z.readings;
    }

    first : (w : LaneDef) → writing_of l s.writes ≡ Some w → record { start = s.id; early = w.early; from = w.from; readings = readings_until l ss } ≡ st → Begins l 0 st (s ∷ ss)
    first w n f = record {
      before = [];
      step = s;
      rest = ss;
      writing = w;
      split = refl;
      writes = n;
      id = ap (λ t. t.start) (sym f);
      from = ap (λ t. t.from) (sym f);
      number = ap (λ b. cond b 1 0) (ap is_present n);
      readings = ap (λ t. t.readings) (sym f);
    }

    some : (x y : Start) → Some x ≡ Some y → x ≡ y
    some x y f = cc

    go : (o : Option LaneDef) → writing_of l s.writes ≡ o → (k : ℕ) → slice_get (elim o [ None ↦ starts l ss | Some w ↦ record { start = s.id; early = w.early; from = w.from; readings = readings_until l ss } ∷ starts l ss ]) k ≡ Some st → ((k' : ℕ) → slice_get (starts l ss) k' ≡ Some st → Begins l k' st ss) → Begins l k st (s ∷ ss)
    go None n k f ih = skip n k (ih k f)
    go (Some w) n zero f ih = first w n (some (record { start = s.id; early = w.early; from = w.from; readings = readings_until l ss }) st f)
    go (Some w) n (suc k) f ih = past w n k (ih k f)

-- a piece that an instruction begins is there
pub starts-there : (l : ℕ) (before : List Step) (s : Step) (rest : List Step) (w : LaneDef) → writing_of l s.writes ≡ Some w → slice_get (starts l (before ++ s ∷ rest)) (writes_in l before) ≡ Some (record { start = s.id; early = w.early; from = w.from; readings = readings_until l rest })
starts-there l [] s rest w e = ap (λ o. slice_get (elim o [ None ↦ starts l rest | Some w ↦ record { start = s.id; early = w.early; from = w.from; readings = readings_until l rest } ∷ starts l rest ]) 0) e
starts-there l (x ∷ before) s rest w e = go (writing_of l x.writes) (starts-there l before s rest w e)
  where
    go : (o : Option LaneDef) → slice_get (starts l (before ++ s ∷ rest)) (writes_in l before) ≡ Some (record { start = s.id; early = w.early; from = w.from; readings = readings_until l rest }) → slice_get (elim o [ None ↦ starts l (before ++ s ∷ rest) | Some w' ↦ record { start = x.id; early = w'.early; from = w'.from; readings = readings_until l (before ++ s ∷ rest) } ∷ starts l (before ++ s ∷ rest) ]) (cond (is_present o) (suc (writes_in l before)) (writes_in l before)) ≡ Some (record { start = s.id; early = w.early; from = w.from; readings = readings_until l rest })
    go None ih = ih
    go (Some w') ih = ih

-- two instructions that begin the same piece are one
pub same-begin : (l : ℕ) (steps us : List Step) (u : Step) (vs before : List Step) (s : Step) (rest : List Step) → steps ≡ us ++ u ∷ vs → steps ≡ before ++ s ∷ rest → is_written l u ≡ true → is_written l s ≡ true → writes_in l (us ++ u ∷ []) ≡ writes_in l (before ++ s ∷ []) → (us ≡ before) × (u ≡ s)
same-begin l steps us u vs before s rest e f wu ws n = go (splits [] 0 l us (u ∷ vs) before (s ∷ rest) (sym e ∙ f))
  where
    behind : (mid : List Step) → before ≡ us ++ mid → u ∷ vs ≡ mid ++ s ∷ rest → (us ≡ before) × (u ≡ s)
    behind [] p q = (sym (p ∙ append-nil us), cc)
    behind (y ∷ m) p q =
        let one : y ≡ u = cc in
        let count = ap (writes_in l) p ∙ writes-append l us (y ∷ m) in
        let more = writes-head l y m (subst (λ t. is_written l t ≡ true) (sym one) wu) in
        let x = writes-more l us u wu in
        let z = writes-more l before s ws in
        absurd (omega arith)

    go : ((mid : List Step) × (before ≡ us ++ mid) × (u ∷ vs ≡ mid ++ s ∷ rest)) ⊎ ((t : Step) × (mid : List Step) × (us ≡ before ++ t ∷ mid) × (s ∷ rest ≡ t ∷ (mid ++ u ∷ vs))) → (us ≡ before) × (u ≡ s)
    go (inl z) = behind z.0 z.1 z.2
    go (inr z) =
        let one : z.0 ≡ s = cc in
        let count = ap (writes_in l) z.2 ∙ writes-append l before (z.0 ∷ z.1) in
        let more = writes-head l z.0 z.1 (subst (λ t. is_written l t ≡ true) (sym one) ws) in
        let x = writes-more l us u wu in
        let y = writes-more l before s ws in
        absurd (omega arith)

map-get : {X Y : Type 0} (f : X → Y) (xs : List X) (k : ℕ) (x : X) → slice_get xs k ≡ Some x → slice_get (map f xs) k ≡ Some (f x)
map-get f [] k x e = absurd (cc)
map-get f (y ∷ xs) zero x e = let z : y ≡ x = cc in ap (λ t. Some (f t)) z
map-get f (y ∷ xs) (suc k) x e = map-get f xs k x e

get-map : {X Y : Type 0} (f : X → Y) (xs : List X) (k : ℕ) (y : Y) → slice_get (map f xs) k ≡ Some y → (x : X) × (slice_get xs k ≡ Some x) × (f x ≡ y)
get-map f [] k y e = absurd (cc)
get-map f (x ∷ xs) zero y e = (x, refl, cc)
get-map f (x ∷ xs) (suc k) y e = get-map f xs k y e

-- the piece that a move begins
pub record Moved (v : Seen) (index id from : ℕ) : Type 0 where
  pub k : ℕ
  pub segment : Begun
  pub index_is : index ≡ suc k
  pub there : slice_get v.segments k ≡ Some segment
  pub start : segment.start ≡ id
  pub source : segment.from ≡ Some from

pub moved-segment : (v : Seen) (index id from : ℕ) → moved_in v index ≡ Some (id, from) → Moved v index id from
moved-segment v zero id from e = absurd (cc)
moved-segment v (suc k) id from e = go (slice_get v.segments k) refl e
  where
    source : (o : Option ℕ) (start : ℕ) → option_map {U = ℕ × ℕ} (λ f. (start, f)) o ≡ Some (id, from) → (start ≡ id) × (o ≡ Some from)
    source None start g = absurd (cc)
    source (Some f) start g = let p : (start, f) ≡ (id, from) = some-inj (start, f) (id, from) g in (ap (λ t. t.0) p, ap (λ t. Some t.1) p)

    go : (o : Option Begun) → slice_get v.segments k ≡ o → moved_at o ≡ Some (id, from) → Moved v (suc k) id from
    go None f g = absurd (cc)
    go (Some s) f g = let z = source s.from s.start g in record { k = k; segment = s; index_is = refl; there = f; start = z.0; source = z.1 }

module _ (code : Code) (slots : Numbers) (flow : List BlockFlow) (rows : List LaneRange) (t : IsTableOf code slots flow rows) where
  starts-are : (l b : ℕ) → map start_of (rows_seen rows l b).segments ≡ starts l (steps_of code b)
  starts-are l b = ap (λ s. s.segments) (t.entered l b)

  -- nothing is read or written of a lane that has no row
  unused : (a : ℕ) (steps before : List Step) (s : Step) (rest : List Step) → steps ≡ before ++ s ∷ rest → starts a steps ≡ [] → readings_until a steps ≡ [] → use_of a s ≡ Unused
  unused a steps [] s rest e n r = go (use_of a s) (sym (ap (readings_until a) e) ∙ r)
    where
      go : (u : Use) → reading_of s.id u ++ cond (is_written a s) [] (readings_until a rest) ≡ [] → u ≡ Unused
      go Unused f = refl
      go Certain f = absurd (cc)
      go (Into x) f = absurd (cc)
  unused a [] (x ∷ before) s rest e n r = absurd (cc)
  unused a (y ∷ steps) (x ∷ before) s rest e n r = let tail-same : steps ≡ before ++ s ∷ rest = cc in go (writing_of a y.writes) refl n r (λ n' r'. unused a steps before s rest tail-same n' r')
    where
      tail : (xs ys : List LaneUse) → xs ++ ys ≡ [] → ys ≡ []
      tail [] ys f = f
      tail (z ∷ xs) ys f = absurd (cc)

      go : (o : Option LaneDef) → writing_of a y.writes ≡ o → ◌≡◌ {A = List Start} (elim o [ None ↦ starts a steps | Some w ↦ record { start = y.id; early = w.early; from = w.from; readings = readings_until a steps } ∷ starts a steps ]) [] → reading_of y.id (use_of a y) ++ cond (is_present (writing_of a y.writes)) [] (readings_until a steps) ≡ [] → (starts a steps ≡ [] → readings_until a steps ≡ [] → use_of a s ≡ Unused) → use_of a s ≡ Unused
      go None f g h ih = ih g (tail (reading_of y.id (use_of a y)) (readings_until a steps) (ap (λ o. reading_of y.id (use_of a y) ++ cond (is_present o) [] (readings_until a steps)) (sym f) ∙ h))
      go (Some w) f g h ih = absurd (cc)

  used-in : (a b : ℕ) (before : List Step) (s : Step) (rest : List Step) → steps_of code b ≡ before ++ s ∷ rest → (use_of a s ≡ Unused → ⊥) → a < length rows
  used-in a b before s rest e ne = go (slice_get_cases rows a).1
    where
      go : ((x : LaneRange) × (a < length rows) × (slice_get rows a ≡ Some x) × (get_or rows a x ≡ x)) ⊎ ((length rows ≤ a) × (slice_get rows a ≡ None)) → a < length rows
      go (inl z) = z.1
      go (inr z) =
          let none : shape unseen ≡ shape_of code a b = sym (ap (λ o. shape (row_seen o b)) z.1) ∙ t.entered a b in
          absurd (ne (unused a (steps_of code b) before s rest e (sym (ap (λ h. h.segments) none)) (sym (ap (λ h. h.readings) none))))

  -- nothing moves into a lane that begins no piece
  pub sources-none : (l b n : ℕ) (x : List PieceSpot) → (n ≡ 0 → ⊥) → moved_in (rows_seen rows l b) n ≡ None → Grew code rows rows x x × SourcesLive code (causes rows) l b n
  sources-none l b n x ne none = (grew-refl code rows x, record { exits = λ z. absurd (ne z); move = λ a before s rest e u m. absurd (no a before s rest e u m) })
    where
      no : (a : ℕ) (before : List Step) (s : Step) (rest : List Step) → steps_of code b ≡ before ++ s ∷ rest → use_of a s ≡ Into l → n ≡ writes_in l (before ++ s ∷ []) → ⊥
      no a before s rest e u m =
          let f = (t.matched b s (subst (Among s) (sym e) (among-append s before rest))).filled a l u in
          let there = ap (λ ss. slice_get (starts l ss) (writes_in l before)) e ∙ starts-there l before s rest f.0 f.1 in
          let g = get-map start_of (rows_seen rows l b).segments (writes_in l before) (record { start = s.id; early = f.0.early; from = f.0.from; readings = readings_until l rest }) (ap (λ ss. slice_get ss (writes_in l before)) (starts-are l b) ∙ there) in
          let number : n ≡ suc (writes_in l before) = m ∙ writes-more l before s (ap is_present f.1) in
          let source : g.0.from ≡ Some a = ap (λ z. z.from) g.2 ∙ f.2 in
          let move : moved_in (rows_seen rows l b) n ≡ Some (g.0.start, a) = ap (moved_in (rows_seen rows l b)) number ∙ ap moved_at g.1 ∙ ap (option_map {U = ℕ × ℕ} (λ z. (g.0.start, z))) source in
          some-none (g.0.start, a) (sym move ∙ none)

-- a piece that begins with its block: its lane is raised at the exits before
pub sources-first : (code : Code) (slots : Numbers) (flow : List BlockFlow) (old new : List LaneRange) (l b n : ℕ) (x y : List PieceSpot) → IsTableOf code slots flow old → n ≡ 0 → is_live (causes old l b n) ≡ true → RaisesPredecessors slots flow old new l b x y → Grew code old new x y × SourcesLive code (causes new) l b n
sources-first code slots flow old new l b n x y t z live r =
    let g = r code t (ap (λ k. is_live (causes old l b k)) (sym z) ∙ live) in
    (g.0, record { exits = λ _ p a. g.1 p a; move = λ a before s rest e u m. absurd (no a before s rest e u m) })
  where
    no : (a : ℕ) (before : List Step) (s : Step) (rest : List Step) → steps_of code b ≡ before ++ s ∷ rest → use_of a s ≡ Into l → n ≡ writes_in l (before ++ s ∷ []) → ⊥
    no a before s rest e u m =
        let f = (t.matched b s (subst (Among s) (sym e) (among-append s before rest))).filled a l u in
        let more = writes-more l before s (ap is_present f.1) in
        absurd (omega (arith, m, z, more))

-- a piece that begins with a move: the lane that is moved is raised at the instruction
module _ (code : Code) (slots : Numbers) (flow : List BlockFlow) (old new : List LaneRange) (l b n id from : ℕ) (x y : List PieceSpot) (t : IsTableOf code slots flow old) (live : is_live (causes old l b n) ≡ true) (m : Moved (rows_seen old l b) n id from) where
  begins : Begins l m.k (start_of m.segment) (steps_of code b)
  begins = starts-at l (steps_of code b) m.k (start_of m.segment) (ap (λ ss. slice_get ss m.k) (sym (starts-are code slots flow old t l b)) ∙ map-get start_of (rows_seen old l b).segments m.k m.segment m.there)

  number : n ≡ writes_in l (begins.before ++ begins.step ∷ [])
  number = m.index_is ∙ sym begins.number

  id-is : begins.step.id ≡ id
  id-is = sym begins.id ∙ m.start

  source : begins.writing.from ≡ Some from
  source = sym begins.from ∙ m.source

  matched : IsMatched begins.step
  matched = t.matched b begins.step (subst (Among begins.step) (sym begins.split) (among-append begins.step begins.before begins.rest))

  is-used : use_of from begins.step ≡ Unused → ⊥
  is-used = matched.used from l begins.writing begins.writes source

  pub moved-in : from < length old
  moved-in = used-in code slots flow old t from b begins.before begins.step begins.rest begins.split is-used

  at : piece_in_rows slots old from b (entry_rank slots id) ≡ writes_in from begins.before
  at = ap (λ i. piece_in_rows slots old from b (entry_rank slots i)) (sym id-is) ∙ entry-piece code slots t.numbered from b (rows_seen old from b).segments (starts-are code slots flow old t from b) begins.before begins.step begins.rest begins.split

  right : Raised slots old new from b (entry_rank slots id) (why.Reading id) x y → causes new from b (piece_in_rows slots old from b (entry_rank slots id)) ≡ why.Reading id → ((l' b' k : ℕ) → is_live (causes old l' b' k) ≡ true → causes new l' b' k ≡ causes old l' b' k) → AllFounded code (causes old) → Founded code (causes new) from b (piece_in_rows slots old from b (entry_rank slots id))
  right r c kept f = subst (Founded code (causes new) from b) (sym at) (go (use_of from begins.step) refl)
    where
      cause : causes new from b (writes_in from begins.before) ≡ why.Reading begins.step.id
      cause = ap (causes new from b) (sym at) ∙ c ∙ ap why.Reading (sym id-is)

      moved : Founded code (causes new) l b (writes_in l (begins.before ++ begins.step ∷ []))
      moved = subst (Founded code (causes new) l b) number (founded-kept code (causes old) (causes new) kept (f l b n live))

      go : (u : Use) → use_of from begins.step ≡ u → Founded code (causes new) from b (writes_in from begins.before)
      go Unused e = absurd (is-used e)
      go Certain e = by_reading begins.before begins.step begins.rest begins.split cause e
      go (Into a) e =
          let same : a ≡ l = matched.once from l a begins.writing begins.writes source e in
          by_move begins.before begins.step begins.rest begins.split cause (e ∙ ap Into same) (ap is_present begins.writes) moved

  pub sources-moved : Raised slots old new from b (entry_rank slots id) (why.Reading id) x y → Grew code old new x y × SourcesLive code (causes new) l b n
  sources-moved r = (raised-grew code slots old new from b (entry_rank slots id) (why.Reading id) x y r refl (right r), record { exits = λ z. absurd (let i = m.index_is in omega arith); move = move })
    where
      raised : is_live (causes new from b (writes_in from begins.before)) ≡ true
      raised = ap (λ k. is_live (causes new from b k)) (sym at) ∙ raised-live code slots old new from b (entry_rank slots id) (why.Reading id) x y r refl

      move : (a : ℕ) (before : List Step) (s : Step) (rest : List Step) → steps_of code b ≡ before ++ s ∷ rest → use_of a s ≡ Into l → n ≡ writes_in l (before ++ s ∷ []) → is_live (causes new a b (writes_in a before)) ≡ true
      move a before s rest e u k =
          let f = (t.matched b s (subst (Among s) (sym e) (among-append s before rest))).filled a l u in
          let p = same-begin l (steps_of code b) begins.before begins.step begins.rest before s rest begins.split e (ap is_present begins.writes) (ap is_present f.1) (sym number ∙ k) in
          let q : Some begins.writing ≡ Some f.0 = sym begins.writes ∙ ap (λ z. writing_of l z.writes) p.1 ∙ f.1 in
          let r1 : begins.writing ≡ f.0 = some-inj begins.writing f.0 q in
          let r2 : Some from ≡ Some a = sym source ∙ ap (λ z. z.from) r1 ∙ f.2 in
          let r3 : from ≡ a = some-inj from a r2 in
          subst (λ z. is_live (causes new z b (writes_in z before)) ≡ true) r3 (subst (λ z. is_live (causes new from b (writes_in from z)) ≡ true) p.0 raised)
