-- What a table tells of live and occupied lanes is what the code that it is made of does.
use Rattle.std.proofs.Common.{◌≡◌, ◌<◌, ◌≤◌, ◌⊎◌, ℕ, zero, suc, ◌+◌, ◌*◌, Bool, true, false, cond, ◌&&◌, leb, List, [], ◌∷◌, ◌++◌, Option, None, Some, map, inl, inr, refl, sym, ap, ◌∙◌, subst, arith}
use Rattle.std.specs.Prelude.{◌↔◌, ◌||◌, nat_eq, nat_le, not}
use Rattle.std.specs.List.{list_any}
use Rattle.std.proofs.lemmas.Bool.{eq-eqb, ne_eqb, leb-true, le-leb}
use Rattle.slot_index.specs.Order.{number_of}
use Rattle.mir_meaning.specs.declared.writing.LaneDef.{LaneDef}
use Rattle.live_lanes.specs.declared.compute.flow.BlockFlow.{BlockFlow}
use Rattle.live_lanes.specs.declared.row.PieceEnd.{PieceEnd}
use Rattle.live_lanes.specs.declared.row.PieceEnd.TheVariants as ends
use Rattle.live_lanes.specs.declared.row.LaneRange.{LaneRange}
use Rattle.live_lanes.specs.Paths.{Live}
use Rattle.mir_meaning.specs.Paths.{Step, Code, steps_of, writing_of, is_written, is_present, Entry, Exit}
use Rattle.live_lanes.specs.Graph.{Causes, is_live, writes_in, IsClosed, IsGrown}
use Rattle.live_lanes.specs.Table.{Numbers, Begun, Seen, entry_rank, exit_rank, end_rank, end_in, is_begun, piece_at}
use Rattle.live_lanes.specs.Entered.{Start, start_of, starts, readings_until, rows_seen, causes, Rises, IsTableOf}
use Rattle.live_lanes.specs.Ends.{Counts, AreEnds, row_end, reaches}
use Rattle.live_lanes.specs.Ends as counting
use Rattle.live_lanes.specs.Reach.{is_never, seen_at}
use Rattle.live_lanes.specs.Held.{writes_at, held_at}
use Rattle.live_lanes.specs.Occupied.{writes_early, HeldLaw}
use Rattle.live_lanes.proofs.Cells.{both, both-left}
use Rattle.live_lanes.proofs.Ending.{live-counted}
use Rattle.live_lanes.proofs.Grown.{start-law}
use Rattle.live_lanes.proofs.Looked.{look-law}

-- writings by the starts of pieces

abbrev start_writes : Numbers → ℕ → Start → Bool
start_writes slots at s = nat_eq (exit_rank slots s.start) at || (s.early && nat_eq (entry_rank slots s.start) at)

any-starts : (slots : Numbers) (at : ℕ) (ss : List Begun) → list_any (writes_at slots at) ss ≡ list_any (start_writes slots at) (map start_of ss)
any-starts slots at [] = refl
any-starts slots at (s ∷ ss) = ap (λ b. writes_at slots at s || b) (any-starts slots at ss)

abbrev begin : ℕ → Step → List Step → LaneDef → Start
begin l s ss w = record { start = s.id; early = w.early; from = w.from; readings = readings_until l ss }

and-false : (a b : Bool) → b ≡ false → (a && b) ≡ false
and-false true b e = e
and-false false b e = refl

or-first : (a b : Bool) → a ≡ false → (a || b) ≡ b
or-first true b e = absurd (cc)
or-first false b e = refl

or-last : (a b : Bool) → b ≡ false → (a || b) ≡ a
or-last true b e = refl
or-last false b e = e

module _ (slots : Numbers) (l : ℕ) where
  -- no writing at a point that all exits and entries are behind
  none-behind : (at n : ℕ) (ss : List Step) → Rises slots n ss → at ≤ n * 2 + 1 → list_any (start_writes slots at) (starts l ss) ≡ false
  none-behind at n [] r h = refl
  none-behind at n (s ∷ ss) r h = go (writing_of l s.writes) (let low = r.0 in none-behind at (number_of slots s.id) ss r.2 (omega arith))
    where
      none : (w : LaneDef) → start_writes slots at (begin l s ss w) ≡ false
      none w =
          let low = r.0 in
          or-first (nat_eq (exit_rank slots s.id) at) (w.early && nat_eq (entry_rank slots s.id) at) (ne_eqb (exit_rank slots s.id) at (λ e. omega arith)) ∙ and-false w.early (nat_eq (entry_rank slots s.id) at) (ne_eqb (entry_rank slots s.id) at (λ e. omega arith))

      go : (o : Option LaneDef) → list_any (start_writes slots at) (starts l ss) ≡ false → list_any (start_writes slots at) (elim o [ None ↦ starts l ss | Some w ↦ begin l s ss w ∷ starts l ss ]) ≡ false
      go None ih = ih
      go (Some w) ih = or-first (start_writes slots at (begin l s ss w)) (list_any (start_writes slots at) (starts l ss)) (none w) ∙ ih

  -- the number of an instruction is above those before it
  above : (n : ℕ) (before : List Step) (s : Step) (rest : List Step) → Rises slots n (before ++ s ∷ rest) → n < number_of slots s.id
  above n [] s rest r = r.0
  above n (x ∷ before) s rest r = let low = r.0 in let ih = above (number_of slots x.id) before s rest r.2 in omega (arith, low, ih)

  -- instructions before it write at none of its points
  skip : (at : ℕ) (x : Step) (ss : List Step) → exit_rank slots x.id < at → list_any (start_writes slots at) (starts l (x ∷ ss)) ≡ list_any (start_writes slots at) (starts l ss)
  skip at x ss h = go (writing_of l x.writes)
    where
      none : (w : LaneDef) → start_writes slots at (begin l x ss w) ≡ false
      none w = or-first (nat_eq (exit_rank slots x.id) at) (w.early && nat_eq (entry_rank slots x.id) at) (ne_eqb (exit_rank slots x.id) at (λ e. omega arith)) ∙ and-false w.early (nat_eq (entry_rank slots x.id) at) (ne_eqb (entry_rank slots x.id) at (λ e. omega arith))

      go : (o : Option LaneDef) → list_any (start_writes slots at) (elim o [ None ↦ starts l ss | Some w ↦ begin l x ss w ∷ starts l ss ]) ≡ list_any (start_writes slots at) (starts l ss)
      go None = refl
      go (Some w) = or-first (start_writes slots at (begin l x ss w)) (list_any (start_writes slots at) (starts l ss)) (none w)

  exit-writes : (n : ℕ) (before : List Step) (s : Step) (rest : List Step) → Rises slots n (before ++ s ∷ rest) → list_any (start_writes slots (exit_rank slots s.id)) (starts l (before ++ s ∷ rest)) ≡ is_written l s
  exit-writes n [] s rest r = go (writing_of l s.writes) (none-behind (exit_rank slots s.id) (number_of slots s.id) rest r.2 (omega arith))
    where
      go : (o : Option LaneDef) → list_any (start_writes slots (exit_rank slots s.id)) (starts l rest) ≡ false → list_any (start_writes slots (exit_rank slots s.id)) (elim o [ None ↦ starts l rest | Some w ↦ begin l s rest w ∷ starts l rest ]) ≡ is_present o
      go None e = e
      go (Some w) e = ap (λ b. (b || (w.early && nat_eq (entry_rank slots s.id) (exit_rank slots s.id))) || list_any (start_writes slots (exit_rank slots s.id)) (starts l rest)) (eq-eqb (exit_rank slots s.id) (exit_rank slots s.id) refl)
  exit-writes n (x ∷ before) s rest r =
      let more = above (number_of slots x.id) before s rest r.2 in
      skip (exit_rank slots s.id) x (before ++ s ∷ rest) (omega arith) ∙ exit-writes (number_of slots x.id) before s rest r.2

  entry-writes : (n : ℕ) (before : List Step) (s : Step) (rest : List Step) → Rises slots n (before ++ s ∷ rest) → list_any (start_writes slots (entry_rank slots s.id)) (starts l (before ++ s ∷ rest)) ≡ writes_early (writing_of l s.writes)
  entry-writes n [] s rest r = go (writing_of l s.writes) (none-behind (entry_rank slots s.id) (number_of slots s.id) rest r.2 (omega arith))
    where
      here : (u : Bool) → (u && nat_eq (entry_rank slots s.id) (entry_rank slots s.id)) ≡ u
      here true = eq-eqb (entry_rank slots s.id) (entry_rank slots s.id) refl
      here false = refl

      go : (o : Option LaneDef) → list_any (start_writes slots (entry_rank slots s.id)) (starts l rest) ≡ false → list_any (start_writes slots (entry_rank slots s.id)) (elim o [ None ↦ starts l rest | Some w ↦ begin l s rest w ∷ starts l rest ]) ≡ writes_early o
      go None e = e
      go (Some w) e =
          or-last (start_writes slots (entry_rank slots s.id) (begin l s rest w)) (list_any (start_writes slots (entry_rank slots s.id)) (starts l rest)) e
          ∙ or-first (nat_eq (exit_rank slots s.id) (entry_rank slots s.id)) (w.early && nat_eq (entry_rank slots s.id) (entry_rank slots s.id)) (ne_eqb (exit_rank slots s.id) (entry_rank slots s.id) (λ q. omega arith))
          ∙ here w.early
  entry-writes n (x ∷ before) s rest r =
      let more = above (number_of slots x.id) before s rest r.2 in
      skip (entry_rank slots s.id) x (before ++ s ∷ rest) (omega arith) ∙ entry-writes (number_of slots x.id) before s rest r.2

-- one of two tests passes

either : {A B : Type 0} (p q u : Bool) → (p ≡ true) ↔ A → q ≡ u → ((u ≡ true) ↔ B) → ((p || q) ≡ true) ↔ (A ⊎ B)
either {A} {B} true q u f e g = ((λ h. inl (f.0 refl)), (λ h. refl))
either {A} {B} false q u f e g = ((λ h. inr (g.0 (sym e ∙ h))), back)
  where
    back : A ⊎ B → q ≡ true
    back (inl a) = absurd (let z : false ≡ true = f.1 a in cc)
    back (inr b) = e ∙ g.1 b

only : {A : Type 0} (p q : Bool) → (p ≡ true) ↔ A → q ≡ false → ((p || q) ≡ true) ↔ A
only {A} p q f e = subst (λ b. (b ≡ true) ↔ A) (sym (or-last p q e)) f

self : {A : Type 0} → A ↔ A
self = ((λ a. a), (λ a. a))

-- a piece with points that count is live
counts-live : (code : Code) (why : Causes) (l b n : ℕ) (e : PieceEnd) → IsClosed code why → Counts code why l b n e → is_live (why l b n) ≡ true
counts-live code why l b n e closed (counting.reads before s rest eq w u) = subst (λ k. is_live (why l b k) ≡ true) w (closed.reading b l before s rest eq u)
counts-live code why l b n e closed (counting.moves a before s rest eq w u h) = subst (λ k. is_live (why l b k) ≡ true) w (closed.move b l a before s rest eq u h)
counts-live code why l b n e closed (counting.leaves x before s rest eq w g a h) = subst (λ k. is_live (why l b k) ≡ true) w (closed.exit b l x before s rest eq g a h)
counts-live code why l b n e closed (counting.goes x w a h) = subst (λ k. is_live (why l b k) ≡ true) w (closed.end b l x a h)
counts-live code why l b n e closed (counting.phi w a) = subst (λ k. is_live (why l b k) ≡ true) w (closed.phi b l a)

first-piece : (slots : Numbers) (ss : List Begun) → piece_at slots 0 ss ≡ 0
first-piece slots [] = refl
first-piece slots (s ∷ ss) = ap (λ b. cond b (suc (piece_at slots 0 ss)) 0) (late (leb (exit_rank slots s.start) 0) refl)
  where
    late : (u : Bool) → leb (exit_rank slots s.start) 0 ≡ u → leb (exit_rank slots s.start) 0 ≡ false
    late true e = let z = leb-true (exit_rank slots s.start) 0 e in absurd (omega arith)
    late false e = e

module _ (code : Code) (slots : Numbers) (flow : List BlockFlow) (rows : List LaneRange) (t : IsTableOf code slots flow rows) (grown : IsGrown code (causes rows)) (ended : AreEnds code slots rows) (l b : ℕ) where
  abbrev v : Seen
  v = rows_seen rows l b

  abbrev last : PieceEnd
  last = row_end rows l b 0

  are : map start_of v.segments ≡ starts l (steps_of code b)
  are = ap (λ h. h.segments) (t.entered l b)

  -- at a block's start

  none-at-start : list_any (writes_at slots 0) v.segments ≡ false
  none-at-start = any-starts slots 0 v.segments ∙ ap (list_any (start_writes slots 0)) are ∙ none-behind slots l 0 0 (steps_of code b) (t.numbered b) (omega arith)

  never-none : (e : PieceEnd) → e ≡ ends.Never → reaches slots e 0 ≡ true → ⊥
  never-none e q r = let z : false ≡ true = ap (λ x. reaches slots x 0) (sym q) ∙ r in absurd (cc)

  start-live : reaches slots last 0 ≡ true → Live code b (Entry (steps_of code b)) l
  start-live r = (start-law code (causes rows) t.matched grown l b).0 (go (ended l b 0).counts)
    where
      go : (last ≡ ends.Never) ⊎ Counts code (causes rows) l b 0 last → is_live (causes rows l b 0) ≡ true
      go (inl q) = absurd (never-none last q r)
      go (inr c) = counts-live code (causes rows) l b 0 last grown.closed c

  ranked : (e : PieceEnd) → 0 < end_rank slots e → reaches slots e 0 ≡ true
  ranked ends.Never h = absurd (omega arith)
  ranked (ends.Entry id) h = le-leb 0 (end_rank slots (ends.Entry id)) (omega arith)
  ranked (ends.Exit id) h = le-leb 0 (end_rank slots (ends.Exit id)) (omega arith)
  ranked ends.Last h = le-leb 0 (end_rank slots ends.Last) (omega arith)

  live-start : Live code b (Entry (steps_of code b)) l → reaches slots last 0 ≡ true
  live-start h =
      let z = live-counted code slots (causes rows) t.matched grown t.numbered h [] refl in
      let high = (ended l b 0).last z.0 z.1 in
      ranked last (above-zero z.0 z.1 high)
    where
      above-zero : (e : PieceEnd) → Counts code (causes rows) l b 0 e → end_rank slots e ≤ end_rank slots last → 0 < end_rank slots last
      above-zero e (counting.reads before s rest eq w u) h = let low = above slots l 0 before s rest (subst (Rises slots 0) eq (t.numbered b)) in omega (arith, low, h)
      above-zero e (counting.moves a before s rest eq w u g) h = let low = above slots l 0 before s rest (subst (Rises slots 0) eq (t.numbered b)) in omega (arith, low, h)
      above-zero e (counting.leaves x before s rest eq w g a i) h = omega (arith, h)
      above-zero e (counting.goes x w a i) h = omega (arith, h)
      above-zero e (counting.phi w a) h = omega (arith, h)

  pub start-told : (held_at slots v 0 ≡ true) ↔ Live code b (Entry (steps_of code b)) l
  start-told = only (seen_at slots v 0) (list_any (writes_at slots 0) v.segments) (subst (λ n. (reaches slots (end_in v n) 0 ≡ true) ↔ Live code b (Entry (steps_of code b)) l) (sym (first-piece slots v.segments)) (start-live, live-start)) none-at-start

  -- at an instruction

  module _ (before : List Step) (s : Step) (rest : List Step) (e : steps_of code b ≡ before ++ s ∷ rest) where
    rising : Rises slots 0 (before ++ s ∷ rest)
    rising = subst (Rises slots 0) e (t.numbered b)

    pub entry-told : (held_at slots v (entry_rank slots s.id) ≡ true) ↔ (Live code b (Entry (s ∷ rest)) l ⊎ (writes_early (writing_of l s.writes) ≡ true))
    entry-told = either (seen_at slots v (entry_rank slots s.id)) (list_any (writes_at slots (entry_rank slots s.id)) v.segments) (writes_early (writing_of l s.writes)) ((look-law code slots flow rows t grown ended).entry l b before s rest e) (any-starts slots (entry_rank slots s.id) v.segments ∙ ap (list_any (start_writes slots (entry_rank slots s.id))) (are ∙ ap (starts l) e) ∙ entry-writes slots l 0 before s rest rising) self

    pub exit-told : (held_at slots v (exit_rank slots s.id) ≡ true) ↔ (Live code b (Exit s rest) l ⊎ (is_written l s ≡ true))
    exit-told = either (seen_at slots v (exit_rank slots s.id)) (list_any (writes_at slots (exit_rank slots s.id)) v.segments) (is_written l s) ((look-law code slots flow rows t grown ended).exit l b before s rest e) (any-starts slots (exit_rank slots s.id) v.segments ∙ ap (list_any (start_writes slots (exit_rank slots s.id))) (are ∙ ap (starts l) e) ∙ exit-writes slots l 0 before s rest rising) self

pub held-law : HeldLaw
held-law code slots flow rows t grown ended = record {
  start = λ l b. start-told code slots flow rows t grown ended l b;
  entry = λ l b before s rest e. entry-told code slots flow rows t grown ended l b before s rest e;
  exit = λ l b before s rest e. exit-told code slots flow rows t grown ended l b before s rest e;
}
