-- Growing a table of causes.
use Rattle.std.proofs.Common.{◌≡◌, ◌<◌, ◌≤◌, ℕ, zero, suc, Bool, true, false, cond, ◌&&◌, List, [], ◌∷◌, ◌++◌, ◌⊎◌, refl, sym, ap, ◌∙◌, subst, inl, inr, arith, map, length, append_assoc, append-nil, eqb-true, eq-eqb}
use Rattle.std.specs.Prelude.{slice_get, nat_eq}
use Rattle.std.proofs.Math.Dec.{eqb-zero-suc, eqb-suc-zero, eqb-suc-suc}
use Rattle.live_lanes.specs.declared.row.Cause.{Cause}
use Rattle.live_lanes.specs.declared.row.LaneRange.{LaneRange}
use Rattle.live_lanes.specs.declared.table.PieceSpot.{PieceSpot}
use Rattle.mir_meaning.specs.Paths.{Among, here, there, Code, steps_of}
use Rattle.live_lanes.specs.Graph.{Causes, is_live, writes_in, Founded, by_reading, by_move, by_exit, by_end, by_phi}
use Rattle.live_lanes.specs.Table.{Numbers, Seen, Begun, leading, is_begun, cause_in, begun_cause, with_cause, changed_at, begun_with_cause, raised_seen}
use Rattle.live_lanes.specs.Entered.{start_of, shape, rows_seen, causes}
use Rattle.live_lanes.specs.Growth.{spot, PieceLaw, piece_in_rows, raised_spots, RaisedAt, Raised, AllFounded, Grew}
use Rattle.live_lanes.proofs.Basics.{none-among}
use Rattle.live_lanes.proofs.Numbered.{segments-rise, among-split, among-left, among-right}

pub piece-law : PieceLaw
piece-law code slots flow rows t l b = segments-rise slots l 0 (steps_of code b) (rows_seen rows l b).segments (t.numbered b) (ap (λ s. s.segments) (t.entered l b))

-- what is founded stays so where live pieces keep their causes
pub founded-kept : (code : Code) (old new : Causes) → ((l b n : ℕ) → is_live (old l b n) ≡ true → new l b n ≡ old l b n) → {l b n : ℕ} → Founded code old l b n → Founded code new l b n
founded-kept code old new k (by_reading {l = l} {b = b} before s rest e c u) = by_reading before s rest e (k l b (writes_in l before) (ap is_live c) ∙ c) u
founded-kept code old new k (by_move {l = l} {a = a} {b = b} before s rest e c u w f) = by_move before s rest e (k l b (writes_in l before) (ap is_live c) ∙ c) u w (founded-kept code old new k f)
founded-kept code old new k (by_exit {l = l} {b = b} {x = x} before s rest e c t a f) = by_exit before s rest e (k l b (writes_in l (before ++ s ∷ [])) (ap is_live c) ∙ c) t a (founded-kept code old new k f)
founded-kept code old new k (by_end {l = l} {b = b} {x = x} c a f) = by_end (k l b (writes_in l (steps_of code b)) (ap is_live c) ∙ c) a (founded-kept code old new k f)
founded-kept code old new k (by_phi {l = l} {b = b} c a) = by_phi (k l b (writes_in l (steps_of code b)) (ap is_live c) ∙ c) a

changed-cause : (c : Cause) (ss : List Begun) (m j : ℕ) → m < length ss → begun_cause (slice_get (changed_at m (begun_with_cause c) ss) j) ≡ cond (nat_eq m j) c (begun_cause (slice_get ss j))
changed-cause c [] m j h = absurd (omega arith)
changed-cause c (s ∷ ss) zero zero h = refl
changed-cause c (s ∷ ss) zero (suc j) h = sym (ap (λ t. cond t c (begun_cause (slice_get ss j))) (eqb-zero-suc j))
changed-cause c (s ∷ ss) (suc m) zero h = sym (ap (λ t. cond t c s.cause) (eqb-suc-zero m))
changed-cause c (s ∷ ss) (suc m) (suc j) h = changed-cause c ss m j (omega arith) ∙ sym (ap (λ t. cond t c (begun_cause (slice_get ss j))) (eqb-suc-suc m j))

pub with-cause : (v : Seen) (n k : ℕ) (c : Cause) → n ≤ length v.segments → cause_in (with_cause v n c) k ≡ cond (nat_eq n k) c (cause_in v k)
with-cause v zero zero c h = refl
with-cause v zero (suc k) c h = sym (ap (λ t. cond t c (begun_cause (slice_get v.segments k))) (eqb-zero-suc k))
with-cause v (suc n) zero c h = sym (ap (λ t. cond t c v.cause) (eqb-suc-zero n))
with-cause v (suc n) (suc k) c h = changed-cause c v.segments n k (omega arith) ∙ sym (ap (λ t. cond t c (begun_cause (slice_get v.segments k))) (eqb-suc-suc n k))

changed-starts : (c : Cause) (ss : List Begun) (m : ℕ) → map start_of (changed_at m (begun_with_cause c) ss) ≡ map start_of ss
changed-starts c [] m = refl
changed-starts c (s ∷ ss) zero = refl
changed-starts c (s ∷ ss) (suc m) = ap (λ t. start_of s ∷ t) (changed-starts c ss m)

pub shape-cause : (v : Seen) (n : ℕ) (c : Cause) → shape (with_cause v n c) ≡ shape v
shape-cause v zero c = refl
shape-cause v (suc n) c = ap (λ t. record (shape v) { segments = t }) (changed-starts c v.segments n)

leading-le : {X : Type 0} (test : X → Bool) (xs : List X) → leading test xs ≤ length xs
leading-le test [] = omega arith
leading-le test (x ∷ xs) = go (test x) (leading-le test xs)
  where
    go : (t : Bool) → leading test xs ≤ length xs → cond t (suc (leading test xs)) 0 ≤ length (x ∷ xs)
    go true h = omega arith
    go false h = omega arith

raised-cause : (t : Bool) (v : Seen) (n k : ℕ) (c : Cause) → n ≤ length v.segments → cause_in (raised_seen t v n c) k ≡ cond t (cause_in v k) (cond (nat_eq n k) c (cause_in v k))
raised-cause true v n k c h = refl
raised-cause false v n k c h = with-cause v n k c h

raised-shape : (t : Bool) (v : Seen) (n : ℕ) (c : Cause) → shape (raised_seen t v n c) ≡ shape v
raised-shape true v n c = refl
raised-shape false v n c = shape-cause v n c

pub grew-refl : (code : Code) (rows : List LaneRange) (from : List PieceSpot) → Grew code rows rows from from
grew-refl code rows from = record {
  shapes = λ l b. refl;
  kept = λ l b n h. refl;
  added = [];
  list = sym (append-nil from);
  listed = λ l b n h. inl h;
  risen = λ x a. absurd (none-among x a);
  founded = λ f. f;
  lanes = refl;
}

pub grew-trans : (code : Code) (a b c : List LaneRange) (x y z : List PieceSpot) → Grew code a b x y → Grew code b c y z → Grew code a c x z
grew-trans code a b c x y z f g = record {
  shapes = λ l n. g.shapes l n ∙ f.shapes l n;
  kept = λ l n k h. g.kept l n k (ap is_live (f.kept l n k h) ∙ h) ∙ f.kept l n k h;
  added = f.added ++ g.added;
  list = g.list ∙ ap (λ t. t ++ g.added) f.list ∙ append_assoc x f.added g.added;
  listed = λ l n k h. second l n k (g.listed l n k h);
  risen = λ s m. go s (among-split s f.added g.added m);
  founded = λ h. g.founded (f.founded h);
  lanes = g.lanes ∙ f.lanes;
}
  where
    first : (l n k : ℕ) → (is_live (causes a l n k) ≡ true) ⊎ Among (spot l n k) f.added → (is_live (causes a l n k) ≡ true) ⊎ Among (spot l n k) (f.added ++ g.added)
    first l n k (inl h) = inl h
    first l n k (inr m) = inr (among-left (spot l n k) f.added g.added m)

    second : (l n k : ℕ) → (is_live (causes b l n k) ≡ true) ⊎ Among (spot l n k) g.added → (is_live (causes a l n k) ≡ true) ⊎ Among (spot l n k) (f.added ++ g.added)
    second l n k (inl h) = first l n k (f.listed l n k h)
    second l n k (inr m) = inr (among-right (spot l n k) f.added g.added m)

    go : (s : PieceSpot) → Among s f.added ⊎ Among s g.added → is_live (causes c s.lane s.block s.index) ≡ true
    go s (inl m) = let h = f.risen s m in ap is_live (g.kept s.lane s.block s.index h) ∙ h
    go s (inr m) = g.risen s m

one : {A : Type 0} (x y : A) → Among x (y ∷ []) → x ≡ y
one x y here = refl
one x y (there a) = absurd (none-among x a)

-- a raised piece with a right cause
module _ (code : Code) (old new : List LaneRange) (lane block n : ℕ) (cause : Cause) (from to : List PieceSpot) (within : n ≤ length (rows_seen old lane block).segments) (r : RaisedAt old new lane block n cause from to) (alive : is_live cause ≡ true) where
  abbrev live : Bool
  live = is_live (causes old lane block n)

  cause-after : (l b k : ℕ) → causes new l b k ≡ cond (nat_eq lane l && nat_eq block b) (cond live (causes old lane block k) (cond (nat_eq n k) cause (causes old lane block k))) (causes old l b k)
  cause-after l b k = ap (λ v. cause_in v k) (r.seen l b) ∙ go (nat_eq lane l && nat_eq block b)
    where
      go : (t : Bool) → cause_in (cond t (raised_seen live (rows_seen old lane block) n cause) (rows_seen old l b)) k ≡ cond t (cond live (causes old lane block k) (cond (nat_eq n k) cause (causes old lane block k))) (causes old l b k)
      go true = raised-cause live (rows_seen old lane block) n k cause within
      go false = refl

  same-place : (l b : ℕ) → (nat_eq lane l && nat_eq block b) ≡ true → (lane ≡ l) × (block ≡ b)
  same-place l b e = go (nat_eq lane l) (nat_eq block b) refl refl e
    where
      go : (t u : Bool) → nat_eq lane l ≡ t → nat_eq block b ≡ u → (t && u) ≡ true → (lane ≡ l) × (block ≡ b)
      go true true f g h = (eqb-true lane l f, eqb-true block b g)
      go true false f g h = absurd (cc)
      go false u f g h = absurd (cc)

  -- the causes after: the piece's is new, if it wasn't live, and all others stay
  pub cases : (l b k : ℕ) → ((live ≡ false) × (lane ≡ l) × (block ≡ b) × (n ≡ k) × (causes new l b k ≡ cause)) ⊎ (causes new l b k ≡ causes old l b k)
  cases l b k = place (nat_eq lane l && nat_eq block b) refl
    where
      here' : (lane ≡ l) × (block ≡ b) → (t u : Bool) → live ≡ t → nat_eq n k ≡ u → causes new l b k ≡ cond t (causes old lane block k) (cond u cause (causes old lane block k)) → ((live ≡ false) × (lane ≡ l) × (block ≡ b) × (n ≡ k) × (causes new l b k ≡ cause)) ⊎ (causes new l b k ≡ causes old l b k)
      here' p true u f g e = inr (e ∙ ap (λ x. causes old x block k) p.0 ∙ ap (λ x. causes old l x k) p.1)
      here' p false true f g e = inl (f, p.0, p.1, eqb-true n k g, e)
      here' p false false f g e = inr (e ∙ ap (λ x. causes old x block k) p.0 ∙ ap (λ x. causes old l x k) p.1)

      place : (t : Bool) → (nat_eq lane l && nat_eq block b) ≡ t → ((live ≡ false) × (lane ≡ l) × (block ≡ b) × (n ≡ k) × (causes new l b k ≡ cause)) ⊎ (causes new l b k ≡ causes old l b k)
      place true e = here' (same-place l b e) live (nat_eq n k) refl refl (cause-after l b k ∙ ap (λ t. cond t (cond live (causes old lane block k) (cond (nat_eq n k) cause (causes old lane block k))) (causes old l b k)) e)
      place false e = inr (cause-after l b k ∙ ap (λ t. cond t (cond live (causes old lane block k) (cond (nat_eq n k) cause (causes old lane block k))) (causes old l b k)) e)

  kept : (l b k : ℕ) → is_live (causes old l b k) ≡ true → causes new l b k ≡ causes old l b k
  kept l b k h = go (cases l b k)
    where
      go : ((live ≡ false) × (lane ≡ l) × (block ≡ b) × (n ≡ k) × (causes new l b k ≡ cause)) ⊎ (causes new l b k ≡ causes old l b k) → causes new l b k ≡ causes old l b k
      go (inl z) =
          let e : causes old lane block n ≡ causes old l b k = ap (λ x. causes old x block n) z.1 ∙ ap (λ x. causes old l x n) z.2 ∙ ap (causes old l b) z.3 in
          let f : false ≡ true = sym z.0 ∙ ap is_live e ∙ h in
          absurd (cc)
      go (inr e) = e

  -- the piece is live after
  pub at-live : is_live (causes new lane block n) ≡ true
  at-live = go live refl (cause-after lane block n ∙ ap (λ t. cond t (cond live (causes old lane block n) (cond (nat_eq n n) cause (causes old lane block n))) (causes old lane block n)) same)
    where
      both-true : (t u : Bool) → t ≡ true → u ≡ true → (t && u) ≡ true
      both-true true u e f = f
      both-true false u e f = absurd (cc)

      same : (nat_eq lane lane && nat_eq block block) ≡ true
      same = both-true (nat_eq lane lane) (nat_eq block block) (eq-eqb lane lane refl) (eq-eqb block block refl)

      go : (t : Bool) → live ≡ t → causes new lane block n ≡ cond live (causes old lane block n) (cond (nat_eq n n) cause (causes old lane block n)) → is_live (causes new lane block n) ≡ true
      go true e f = ap is_live (f ∙ ap (λ t. cond t (causes old lane block n) (cond (nat_eq n n) cause (causes old lane block n))) e) ∙ e
      go false e f = ap is_live (f ∙ ap (λ t. cond t (causes old lane block n) (cond (nat_eq n n) cause (causes old lane block n))) e ∙ ap (λ t. cond t cause (causes old lane block n)) (eq-eqb n n refl)) ∙ alive

  pub at-grew : (causes new lane block n ≡ cause → ((l b k : ℕ) → is_live (causes old l b k) ≡ true → causes new l b k ≡ causes old l b k) → AllFounded code (causes old) → Founded code (causes new) lane block n) → Grew code old new from to
  at-grew right = record {
    shapes = λ l b. ap shape (r.seen l b) ∙ shapes (nat_eq lane l && nat_eq block b) l b refl;
    kept = kept;
    added = raised_spots live (spot lane block n);
    list = r.list;
    listed = λ l b k h. listed l b k h (cases l b k);
    risen = λ x a. risen live x a;
    founded = λ f l b k h. founded f l b k h (cases l b k);
    lanes = r.lanes;
  }
    where
      shapes : (t : Bool) (l b : ℕ) → (nat_eq lane l && nat_eq block b) ≡ t → shape (cond t (raised_seen live (rows_seen old lane block) n cause) (rows_seen old l b)) ≡ shape (rows_seen old l b)
      shapes true l b e = let p = same-place l b e in raised-shape live (rows_seen old lane block) n cause ∙ ap (λ x. shape (rows_seen old x block)) p.0 ∙ ap (λ x. shape (rows_seen old l x)) p.1
      shapes false l b e = refl

      listed : (l b k : ℕ) → is_live (causes new l b k) ≡ true → ((live ≡ false) × (lane ≡ l) × (block ≡ b) × (n ≡ k) × (causes new l b k ≡ cause)) ⊎ (causes new l b k ≡ causes old l b k) → (is_live (causes old l b k) ≡ true) ⊎ Among (spot l b k) (raised_spots live (spot lane block n))
      listed l b k h (inl z) =
          let e : spot lane block n ≡ spot l b k = ap (λ x. spot x block n) z.1 ∙ ap (λ x. spot l x n) z.2 ∙ ap (spot l b) z.3 in
          inr (subst (λ t. Among (spot l b k) (raised_spots t (spot lane block n))) (sym z.0) (subst (λ x. Among x (spot lane block n ∷ [])) e here))
      listed l b k h (inr e) = inl (ap is_live (sym e) ∙ h)

      risen : (t : Bool) (x : PieceSpot) → Among x (raised_spots t (spot lane block n)) → is_live (causes new x.lane x.block x.index) ≡ true
      risen true x a = absurd (none-among x a)
      risen false x a = only (among-split x [] (spot lane block n ∷ []) a)
        where
          only : Among x [] ⊎ Among x (spot lane block n ∷ []) → is_live (causes new x.lane x.block x.index) ≡ true
          only (inl b) = absurd (none-among x b)
          only (inr b) = subst (λ y. is_live (causes new y.lane y.block y.index) ≡ true) (sym (one x (spot lane block n) b)) at-live

      founded : AllFounded code (causes old) → (l b k : ℕ) → is_live (causes new l b k) ≡ true → ((live ≡ false) × (lane ≡ l) × (block ≡ b) × (n ≡ k) × (causes new l b k ≡ cause)) ⊎ (causes new l b k ≡ causes old l b k) → Founded code (causes new) l b k
      founded f l b k h (inl z) =
          let at : causes new lane block n ≡ causes new l b k = ap (λ x. causes new x block n) z.1 ∙ ap (λ x. causes new l x n) z.2 ∙ ap (causes new l b) z.3 in
          let g = right (at ∙ z.4) kept f in
          subst (λ k'. Founded code (causes new) l b k') z.3 (subst (λ b'. Founded code (causes new) l b' n) z.2 (subst (λ l'. Founded code (causes new) l' block n) z.1 g))
      founded f l b k h (inr e) = founded-kept code (causes old) (causes new) kept (f l b k (ap is_live (sym e) ∙ h))

-- the same of the piece at the point of a rank
module _ (code : Code) (slots : Numbers) (old new : List LaneRange) (lane block at : ℕ) (cause : Cause) (from to : List PieceSpot) (r : Raised slots old new lane block at cause from to) (alive : is_live cause ≡ true) where
  pub raised-live : is_live (causes new lane block (piece_in_rows slots old lane block at)) ≡ true
  raised-live = at-live code old new lane block (piece_in_rows slots old lane block at) cause from to (leading-le (is_begun slots at) (rows_seen old lane block).segments) r alive

  pub raised-grew : (causes new lane block (piece_in_rows slots old lane block at) ≡ cause → ((l b k : ℕ) → is_live (causes old l b k) ≡ true → causes new l b k ≡ causes old l b k) → AllFounded code (causes old) → Founded code (causes new) lane block (piece_in_rows slots old lane block at)) → Grew code old new from to
  raised-grew right = at-grew code old new lane block (piece_in_rows slots old lane block at) cause from to (leading-le (is_begun slots at) (rows_seen old lane block).segments) r alive right
