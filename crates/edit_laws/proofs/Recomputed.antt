-- Ends that are computed anew after edits, and those that stay, are right.
use Rattle.std.proofs.Common.{◌≡◌, ◌<◌, ◌≤◌, ◌⊎◌, ℕ, zero, suc, Bool, true, false, cond, ltb, length, List, [], ◌∷◌, ◌++◌, Option, None, Some, refl, sym, ap, ◌∙◌, subst, inl, inr, arith, append-nil}
use Rattle.std.specs.Prelude.{slice_get}
use Rattle.std.proofs.lemmas.Bool.{ltb-true, ltb-false}
use Rattle.std.proofs.lemmas.List.{length-map}
use Rattle.std.proofs.lemmas.Option.{slice_get_past}
use Rattle.target_base.specs.declared.types.Target.{Target}
use Rattle.mir_func.specs.Value.{Function}
use Rattle.mir_meaning.specs.Paths.{Among, here, there, Step, Code, steps_of, is_present, is_written}
use Rattle.live_lanes.specs.declared.row.Cause.{Cause}
use Rattle.live_lanes.specs.declared.row.LaneRange.{LaneRange}
use Rattle.live_lanes.specs.declared.row.PieceEnd.{PieceEnd}
use Rattle.live_lanes.specs.declared.row.PieceEnd.TheVariants as ends
use Rattle.live_lanes.specs.declared.table.Table.{Table}
use Rattle.live_lanes.specs.Graph.{Causes, writes_in, IsGrown}
use Rattle.live_lanes.specs.Table.{Numbers, Seen, Begun, begun_end, end_in}
use Rattle.live_lanes.specs.Entered.{Shape, start_of, IsNumbered, causes, rows_seen}
use Rattle.live_lanes.specs.Ends.{Counts, reads, moves, leaves, goes, phi, IsEnd, row_end, AreEnds}
use Rattle.live_lanes.specs.Laws.{AllMatched}
use Rattle.live_lanes.specs.Doing.{IsComputed}
use Rattle.live_lanes.proofs.Basics.{none-among, among-append, writes-append, writes-more, writes-same, step-into}
use Rattle.live_lanes.proofs.Numbered.{among-cases}
use Rattle.live_lanes.proofs.Pieces.{length-starts}
use Rattle.edit_laws.specs.Chains.{Node, cause_at, same_node}
use Rattle.edit_laws.specs.Kept.{code_in, IsLaidOut}
use Rattle.edit_laws.specs.Reasons.{IsReason, Touched, IsNew, IsEditOf, Begins, at_start, at_write, IsKept, AreCarried, AreListed}
use Rattle.edit_laws.specs.Steps.{AreCodes}
use Rattle.edit_laws.specs.Update.{IsUpdated, AreUpdated}
use Rattle.edit_laws.specs.Recomputed.{AreRecomputed, HaveAllPieces, RecomputedLaw, TableRecomputedLaw}
use Rattle.edit_laws.proofs.Begun.{begins-more}
use Rattle.edit_laws.proofs.Chains.{same-is}
use Rattle.edit_laws.proofs.Counterparts.{Pair, pair-to}
use Rattle.edit_laws.proofs.Ended.{ends-law}
use Rattle.edit_laws.proofs.Fallen.{other-is}
use Rattle.edit_laws.proofs.Grown.{same-all}
use Rattle.edit_laws.proofs.Lasted.{lasting}
use Rattle.edit_laws.proofs.Others.{gone-law}
use Rattle.edit_laws.proofs.Risen.{update-law}

pub among-or-not : (n : Node) (ns : List Node) → Among n ns ⊎ (Among n ns → ⊥)
among-or-not n [] = inr (λ a. none-among n a)
among-or-not n (k ∷ ns) = go (same_node n k) refl (among-or-not n ns)
  where
    apart : same_node n k ≡ false → (Among n ns → ⊥) → (n ≡ k) ⊎ Among n ns → ⊥
    apart e out (inl g) = other-is n k g e
    apart e out (inr a) = out a

    go : (u : Bool) → same_node n k ≡ u → Among n ns ⊎ (Among n ns → ⊥) → Among n (k ∷ ns) ⊎ (Among n (k ∷ ns) → ⊥)
    go true e ih = inl (subst (λ z. Among n (z ∷ ns)) (same-is n k e) here)
    go false e (inl a) = inl (there a)
    go false e (inr out) = inr (λ a. apart e out (among-cases n k ns a))

-- behind the pieces of a block nothing counts, and the rows hold no end

past-begun : (ss : List Begun) (k : ℕ) → length ss ≤ k → begun_end (slice_get ss k) ≡ ends.Never
past-begun ss k h = ap begun_end (slice_get_past ss k h)

past-end : (v : Seen) (n : ℕ) → length v.segments < n → end_in v n ≡ ends.Never
past-end v zero h = absurd (omega arith)
past-end v (suc k) h = past-begun v.segments k (omega arith)

writes-within : (l : ℕ) (ss before rest : List Step) → ss ≡ before ++ rest → writes_in l before ≤ writes_in l ss
writes-within l ss before rest e = let h = ap (writes_in l) e ∙ writes-append l before rest in omega (arith, h)

counts-within : (code : Code) (l b : ℕ) {why : Causes} {n : ℕ} {p : PieceEnd} → Counts code why l b n p → n ≤ writes_in l (steps_of code b)
counts-within code l b (reads before s rest e w u) = let h = writes-within l (steps_of code b) before (s ∷ rest) e in omega (arith, h, w)
counts-within code l b (moves a before s rest e w u live) = let h = writes-within l (steps_of code b) before (s ∷ rest) e in omega (arith, h, w)
counts-within code l b (leaves x before s rest e w t m live) = let h = writes-within l (steps_of code b) (before ++ s ∷ []) rest (step-into (steps_of code b) before s rest e) in omega (arith, h, w)
counts-within code l b (goes x w m live) = omega (arith, w)
counts-within code l b (phi w m) = omega (arith, w)

never-end : (code : Code) (slots : Numbers) (why : Causes) (l b n : ℕ) → writes_in l (steps_of code b) < n → IsEnd code slots why l b n ends.Never
never-end code slots why l b n past = record { counts = inl refl; last = λ p c. absurd (let h = counts-within code l b c in omega (arith, h, past)) }

-- each number up to the last is that of a piece
begins-from : (code : Code) (l b n : ℕ) (done rest : List Step) (o : Option ℕ) → steps_of code b ≡ done ++ rest → Begins code l b (writes_in l done) o → writes_in l done ≤ n → n ≤ writes_in l (steps_of code b) → (q : Option ℕ) × Begins code l b n q
begins-from code l b n done [] o e x low high =
    let w = ap (writes_in l) (e ∙ append-nil done) in
    let same : writes_in l done ≡ n = omega (arith, w, low, high) in
    (o, subst (λ k. Begins code l b k o) same x)
begins-from code l b n done (s ∷ rest) o e x low high =
    go (ltb (writes_in l done) n) refl (λ h. begins-from code l b n (done ++ s ∷ []) rest (cond (is_written l s) (Some s.id) o) (step-into (steps_of code b) done s rest e) (begins-more code o done s rest e x (is_written l s) refl) h high)
  where
    next : writes_in l done < n → (u : Bool) → is_written l s ≡ u → writes_in l (done ++ s ∷ []) ≤ n
    next lt true w = let h = writes-more l done s w in omega (arith, lt, h)
    next lt false w = let h = writes-same l done s w in omega (arith, lt, h)

    go : (u : Bool) → ltb (writes_in l done) n ≡ u → (writes_in l (done ++ s ∷ []) ≤ n → (q : Option ℕ) × Begins code l b n q) → (q : Option ℕ) × Begins code l b n q
    go true g more = more (next (ltb-true (writes_in l done) n g) (is_written l s) refl)
    go false g more =
        let h = ltb-false (writes_in l done) n g in
        let same : writes_in l done ≡ n = omega (arith, h, low) in
        (o, subst (λ k. Begins code l b k o) same x)

-- the same of the pieces of a lane
pub record IsLaneRecomputed (old new : Code) (slots : Numbers) (before : Causes) (list again : List Node) (x y : List LaneRange) (l : ℕ) : Type 0 where
  pub listed : (b n : ℕ) → Among {A = Node} (l, b, n) list → Among {A = Node} (l, b, n) again
  pub leading : (b n : ℕ) (m : Node) (c : Cause) → IsReason new l b n c (Some m) → (cause_at (causes y) m ≡ cause_at before m → ⊥) → Among {A = Node} (l, b, n) again
  pub right : (b n : ℕ) → Among {A = Node} (l, b, n) again → IsEnd new slots (causes y) l b n (row_end y l b n)
  pub kept : (b m n : ℕ) (start : Option ℕ) → Begins old l b m start → Begins new l b n start → (Among {A = Node} (l, b, n) again → ⊥) → row_end y l b n ≡ row_end x l b m

module _ (touched : Touched) (old new : Code) (slots slots' : Numbers) (x y : List LaneRange) (before : Causes) (list again : List Node) (grown : IsGrown old (causes x)) (numbered : IsNumbered old slots) (numbered' : IsNumbered new slots') (matched-old : AllMatched old) (matched : AllMatched new) (edit : IsEditOf touched old new) (kept : AreCarried touched old new (causes x) before) (listed : AreListed touched new list) (ended : AreEnds old slots x) (lane : ℕ) (pieces : (b : ℕ) → length (rows_seen y lane b).segments ≡ writes_in lane (steps_of new b)) (are : IsLaneRecomputed old new slots' before list again x y lane) where
  -- a piece begins as one of before, or it is listed
  abbrev Found : ℕ → ℕ → ℕ → Type 0
  Found l b n = IsKept old new l b n ⊎ Among {A = Node} (l, b, n) list

  written : (l b : ℕ) (us : List Step) (r : Step) (vs : List Step) → steps_of new b ≡ us ++ r ∷ vs → is_written l r ≡ true → (t : Bool) → touched l b r.id ≡ t → ((s : Step) × Pair touched old new slots' numbered' edit list listed b s r) ⊎ IsNew (λ k i. touched k b i) r → Found l b (writes_in l (us ++ r ∷ []))
  written l b us r vs e w true t from = inr (listed l b us r vs e t).1
  written l b us r vs e w false t (inl z) =
      let p = z.1 in
      let s : Step = z.0 in
      let v : is_written l s ≡ true = ap is_present (p.like.writing l t) ∙ w in
      inl (record {
        number = writes_in l (p.before ++ s ∷ []);
        start = Some r.id;
        before = subst (λ i. Begins old l b (writes_in l (p.before ++ s ∷ [])) (Some i)) p.like.id (at_write p.before s p.rest p.e v);
        after = at_write us r vs e w;
      })
  written l b us r vs e w false t (inr h) = absurd (let z : true ≡ false = sym w ∙ h.unwritten l t in cc)

  found : {l b n : ℕ} {o : Option ℕ} → Begins new l b n o → Found l b n
  found at_start = inl (record { number = 0; start = None; before = at_start; after = at_start })
  found {l = l} {b = b} (at_write us r vs e w) =
      written l b us r vs e w (touched l b r.id) refl (pair-to touched old new slots' numbered' edit list listed b r (subst (Among r) (sym e) (among-append r us vs)))

  -- one whose end isn't computed anew leads to none that died or came alive
  same-life : (b n : ℕ) → (Among {A = Node} (lane, b, n) again → ⊥) → (c : Cause) (m : Node) → IsReason new lane b n c (Some m) → cause_at (causes y) m ≡ cause_at before m
  same-life b n out c m r = go (cause_at (causes y) m) (cause_at before m) refl refl
    where
      apart : (cause_at (causes y) m ≡ cause_at before m → ⊥) → ⊥
      apart differs = out (are.leading b n m c r differs)

      go : (u v : Bool) → cause_at (causes y) m ≡ u → cause_at before m ≡ v → cause_at (causes y) m ≡ cause_at before m
      go true true e f = e ∙ sym f
      go false false e f = e ∙ sym f
      go true false e f = absurd (apart (λ g. let z : true ≡ false = sym e ∙ (g ∙ f) in cc))
      go false true e f = absurd (apart (λ g. let z : false ≡ true = sym e ∙ (g ∙ f) in cc))

  stays : (b n : ℕ) → (Among {A = Node} (lane, b, n) again → ⊥) → Found lane b n → IsEnd new slots' (causes y) lane b n (row_end y lane b n)
  stays b n out (inl k) =
      subst (IsEnd new slots' (causes y) lane b n) (sym (are.kept b k.number n k.start k.before k.after out))
      (lasting touched old new slots slots' (causes x) before (causes y) grown numbered numbered' matched-old matched edit kept list listed lane b k.number n k.start k.before k.after (λ a. out (are.listed b n a)) (same-life b n out) (row_end x lane b k.number)
      (ended lane b k.number))
  stays b n out (inr a) = absurd (out (are.listed b n a))

  pub lane-ends : (b n : ℕ) → IsEnd new slots' (causes y) lane b n (row_end y lane b n)
  lane-ends b n = go (ltb (writes_in lane (steps_of new b)) n) refl
    where
      inside : Found lane b n → Among {A = Node} (lane, b, n) again ⊎ (Among {A = Node} (lane, b, n) again → ⊥) → IsEnd new slots' (causes y) lane b n (row_end y lane b n)
      inside k (inl a) = are.right b n a
      inside k (inr out) = stays b n out k

      begun : n ≤ writes_in lane (steps_of new b) → (q : Option ℕ) × Begins new lane b n q
      begun h = begins-from new lane b n [] (steps_of new b) None refl at_start (omega arith) h

      go : (u : Bool) → ltb (writes_in lane (steps_of new b)) n ≡ u → IsEnd new slots' (causes y) lane b n (row_end y lane b n)
      go true e =
          let past : writes_in lane (steps_of new b) < n = ltb-true (writes_in lane (steps_of new b)) n e in
          let count = pieces b in
          subst (IsEnd new slots' (causes y) lane b n) (sym (past-end (rows_seen y lane b) n (omega (arith, past, count)))) (never-end new slots' (causes y) lane b n past)
      go false e = inside (found (begun (ltb-false (writes_in lane (steps_of new b)) n e)).1) (among-or-not (lane, b, n) again)

pub recomputed-law : RecomputedLaw
recomputed-law touched old new slots slots' x y before list again grown numbered numbered' matched-old matched edit kept listed ended pieces are l b n =
    lane-ends touched old new slots slots' x y before list again grown numbered numbered' matched-old matched edit kept listed ended l (pieces l) at-lane b n
  where
    at-lane : IsLaneRecomputed old new slots' before list again x y l
    at-lane = record {
      listed = λ b n. are.listed (l, b, n);
      leading = λ b n. are.leading (l, b, n);
      right = λ b n. are.right (l, b, n);
      kept = are.kept l;
    }

module _ (t : Target) (f g : Function) (x y : Table) (computed : IsComputed t f x) (matched : AllMatched (code_in t f x)) (laid : IsLaidOut t g y) (touched : Touched) (standing : Code) (slots : Numbers) (before : Causes) (changed again : List Node) (numbered : IsNumbered standing slots) (matched-new : AllMatched standing) (u : IsUpdated touched (code_in t f x) standing (causes x.rows.rows.items) before (causes y.rows.rows.items) changed) (gone : AreCodes (λ l. false) standing (code_in t g y)) (are : AreRecomputed (code_in t f x) standing slots before u.list again x.rows.rows.items y.rows.rows.items) where
  abbrev old-rows : List LaneRange
  old-rows = x.rows.rows.items

  abbrev new-rows : List LaneRange
  new-rows = y.rows.rows.items

  was-grown : IsGrown (code_in t f x) (causes old-rows)
  was-grown = computed.grown matched

  was-numbered : IsNumbered (code_in t f x) x.order.slots
  was-numbered = (computed.table matched).numbered

  brought : AreUpdated standing before (causes new-rows) changed
  brought = update-law touched (code_in t f x) standing x.order.slots slots (causes old-rows) before (causes new-rows) changed was-grown was-numbered numbered matched-new u

  all-pieces : AllMatched (code_in t g y) → HaveAllPieces standing new-rows
  all-pieces all l b =
      sym (length-map (rows_seen new-rows l b).segments start_of)
      ∙ (ap (λ (h : Shape). length h.segments) ((laid.table all).entered l b)
      ∙ (length-starts l (steps_of (code_in t g y) b)
      ∙ sym (same-all (λ l. false) (gone.steps b) l refl)))

  standing-ends : AllMatched (code_in t g y) → AreEnds standing slots new-rows
  standing-ends all =
      recomputed-law touched (code_in t f x) standing x.order.slots slots old-rows new-rows before u.list again was-grown was-numbered numbered matched matched-new u.edited u.carried u.listed (computed.ended matched)
      (all-pieces all) are

  ended-now : AllMatched (code_in t g y) → AreEnds (code_in t g y) y.order.slots new-rows
  ended-now all l b n =
      ends-law (λ l. false) standing (code_in t g y) slots y.order.slots (causes new-rows) (causes new-rows) gone numbered (laid.table all).numbered (λ l b n o. refl) l b n refl (row_end new-rows l b n)
      (standing-ends all l b n)

  computed-again : IsComputed t g y
  computed-again = record {
    numbers = laid.numbers;
    positions = laid.positions;
    homes = laid.homes;
    ways = laid.ways;
    layout = laid.layout;
    numbered = laid.numbered;
    short = laid.short;
    few = laid.few;
    table = laid.table;
    grown = λ all. gone-law standing (code_in t g y) (causes new-rows) gone brought.grown;
    ended = ended-now;
  }

pub table-recomputed-law : TableRecomputedLaw
table-recomputed-law t f g x y computed matched laid touched standing slots before changed again numbered matched-new u gone are =
    computed-again t f g x y computed matched laid touched standing slots before changed again numbered matched-new u gone are
