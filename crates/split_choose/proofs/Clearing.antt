-- What is held along stretches of a block's points is held at points of the block.
use Rattle.std.proofs.Common.{◌≡◌, ◌∙◌, ◌⊎◌, inl, inr, ℕ, zero, suc, ◌+◌, ◌*◌, ◌<◌, ◌≤◌, Bool, true, false, cond, List, [], ◌∷◌, ◌++◌, refl, sym, ap, subst, arith, eq-eqb, eqb-true, map, max, min}
use Rattle.std.specs.Prelude.{nat_le, nat_eq, filter, not, ◌&&◌, ◌||◌}
use Rattle.std.specs.List.{list_all, list_any}
use Rattle.std.proofs.lemmas.Bool.{leb-true, le-leb, lt-leb, leb-false, false≢true, true≢false, and_parts, and_from, or_left, or_right, or_from, or_parts, cases_lt}
use Rattle.std.proofs.lemmas.List.Folds.{list_all-map}
use Rattle.meaning.specs.Live.{Among, here, there}
use Rattle.mir_func.specs.declared.func.Instr.{Instr}
use Rattle.mir_func.specs.declared.func.Block.{Block}
use Rattle.mir_meaning.specs.Points.{Point, Start, Entry, Exit, block_points}
use Rattle.live_lanes.specs.declared.ask.extent.Stretch.{Stretch}
use Rattle.live_lanes.specs.Table.{Numbers, entry_rank, exit_rank}
use Rattle.split_choose.specs.Seen.{rank_of, only}
use Rattle.split_choose.specs.Spanned.{is_covered, is_rank_in}
use Rattle.split_choose.specs.Clearing.{cut}
use Rattle.split_choose.proofs.Covers.{among-cases}
use Rattle.split_choose.proofs.Spread.{instr_points}

-- tests of all and of some

pub all-of : {X : Type 0} (f : X → Bool) (xs : List X) → ((x : X) → Among x xs → f x ≡ true) → list_all f xs ≡ true
all-of f [] h = refl
all-of f (x ∷ xs) h = and_from (f x) (list_all f xs) (h x here) (all-of f xs (λ y m. h y (there m)))

pub all-among : {X : Type 0} (f : X → Bool) (xs : List X) (x : X) → list_all f xs ≡ true → Among x xs → f x ≡ true
all-among f [] x h m = elim m [ ]
all-among {X} f (y ∷ ys) x h m = go (among-cases x y ys m) (all-among f ys x (and_parts (f y) (list_all f ys) h).1)
  where
    go : (x ≡ y) ⊎ Among x ys → (Among x ys → f x ≡ true) → f x ≡ true
    go (inl e) ih = ap f e ∙ (and_parts (f y) (list_all f ys) h).0
    go (inr n) ih = ih n

pub some-among : {X : Type 0} (f : X → Bool) (xs : List X) → list_any f xs ≡ true → (x : X) × Among x xs × (f x ≡ true)
some-among f [] h = absurd (false≢true h)
some-among {X} f (x ∷ xs) h = go (f x) refl (some-among f xs)
  where
    later : ((y : X) × Among y xs × (f y ≡ true)) → (y : X) × Among y (x ∷ xs) × (f y ≡ true)
    later r = (r.0, there r.1, r.2)

    go : (b : Bool) → f x ≡ b → (list_any f xs ≡ true → (y : X) × Among y xs × (f y ≡ true)) → (y : X) × Among y (x ∷ xs) × (f y ≡ true)
    go true e ih = (x, here, e)
    go false e ih = later (ih (sym (ap (λ b. b || list_any f xs) e) ∙ h))

pub some-of : {X : Type 0} (f : X → Bool) (xs : List X) (x : X) → Among x xs → f x ≡ true → list_any f xs ≡ true
some-of f [] x m e = elim m [ ]
some-of f (y ∷ ys) x m e = go (among-cases x y ys m) (some-of f ys x)
  where
    go : (x ≡ y) ⊎ Among x ys → (Among x ys → f x ≡ true → list_any f ys ≡ true) → list_any f (y ∷ ys) ≡ true
    go (inl q) ih = or_left (f y) (list_any f ys) (ap f (sym q) ∙ e)
    go (inr n) ih = or_right (f y) (list_any f ys) (ih n e)

pub both-ways : (a b : Bool) → (a ≡ true → b ≡ true) → (b ≡ true → a ≡ true) → a ≡ b
both-ways true b f g = sym (f refl)
both-ways false true f g = g refl
both-ways false false f g = refl

pub by-test : (b : Bool) (P : Type 0) → (b ≡ true → P) → (b ≡ false → P) → P
by-test true P f g = f refl
by-test false P f g = g refl

pub from-no : (b : Bool) → not b ≡ true → b ≡ false
from-no true e = absurd (false≢true e)
from-no false e = refl

pub to-no : (b : Bool) → b ≡ false → not b ≡ true
to-no true e = absurd (true≢false e)
to-no false e = refl

pub from-not-no : (b : Bool) → not b ≡ false → b ≡ true
from-not-no true f = refl
from-not-no false f = absurd (true≢false f)

pub second : (a b : Bool) → a ≡ true → (not a || b) ≡ true → b ≡ true
second true b e h = h
second false b e h = absurd (false≢true e)

pub same-test : {X : Type 0} (f g : X → Bool) (xs : List X) → ((x : X) → Among x xs → f x ≡ g x) → list_all f xs ≡ list_all g xs
same-test f g [] h = refl
same-test f g (x ∷ xs) h = ap (λ b. b && list_all f xs) (h x here) ∙ ap (λ b. g x && b) (same-test f g xs (λ y m. h y (there m)))

pub filter-among : {X : Type 0} (f : X → Bool) (xs : List X) (x : X) → Among x xs → f x ≡ true → Among x (filter f xs)
filter-among f [] x m e = elim m [ ]
filter-among {X} f (y ∷ ys) x m e = go (among-cases x y ys m) (f y) refl (filter-among f ys x)
  where
    go : (x ≡ y) ⊎ Among x ys → (b : Bool) → f y ≡ b → (Among x ys → f x ≡ true → Among x (filter f ys)) → Among x (filter f (y ∷ ys))
    go (inl q) true g ih = let P : X → Type 0 = λ z. Among z (filter f (y ∷ ys)) in subst P (sym q) (rw g here)
    go (inl q) false g ih = absurd (true≢false (sym e ∙ (ap f q ∙ g)))
    go (inr n) true g ih = rw g (there (ih n e))
    go (inr n) false g ih = rw g (ih n e)

pub among-filter : {X : Type 0} (f : X → Bool) (xs : List X) (x : X) → Among x (filter f xs) → Among x xs × (f x ≡ true)
among-filter f [] x m = elim m [ ]
among-filter {X} f (y ∷ ys) x m = go (f y) refl m (among-filter f ys x)
  where
    more : Among x ys × (f x ≡ true) → Among x (y ∷ ys) × (f x ≡ true)
    more r = (there r.0, r.1)

    first : f y ≡ true → (x ≡ y) ⊎ Among x (filter f ys) → (Among x (filter f ys) → Among x ys × (f x ≡ true)) → Among x (y ∷ ys) × (f x ≡ true)
    first g (inl q) ih = let P : X → Type 0 = λ z. Among x (z ∷ ys) in (subst P q here, ap f q ∙ g)
    first g (inr n) ih = more (ih n)

    go : (b : Bool) → f y ≡ b → Among x (cond b (y ∷ filter f ys) (filter f ys)) → (Among x (filter f ys) → Among x ys × (f x ≡ true)) → Among x (y ∷ ys) × (f x ≡ true)
    go true g n ih = first g (among-cases x y (filter f ys) n) ih
    go false g n ih = more (ih n)

-- a rank of the block is that of a point of it

-- such a point of these instructions
abbrev HasPoint : Numbers → List Instr → ℕ → Type 0
HasPoint slots is r = (p : Point) × Among p (instr_points is) × (rank_of slots p ≡ r)

instr-point : (slots : Numbers) (is : List Instr) (r : ℕ) → list_any (λ i. nat_eq r (entry_rank slots i.id) || nat_eq r (exit_rank slots i.id)) is ≡ true → HasPoint slots is r
instr-point slots [] r h = absurd (false≢true h)
instr-point slots (i ∷ is) r h = go (nat_eq r (entry_rank slots i.id)) (nat_eq r (exit_rank slots i.id)) refl refl (instr-point slots is r)
  where
    later : HasPoint slots is r → HasPoint slots (i ∷ is) r
    later f = (f.0, there (there f.1), f.2)

    go : (a b : Bool) → nat_eq r (entry_rank slots i.id) ≡ a → nat_eq r (exit_rank slots i.id) ≡ b → (list_any (λ (k : Instr). nat_eq r (entry_rank slots k.id) || nat_eq r (exit_rank slots k.id)) is ≡ true → HasPoint slots is r) → HasPoint slots (i ∷ is) r
    go true b e f ih = (Entry i.id, here, sym (eqb-true r (entry_rank slots i.id) e))
    go false true e f ih = (Exit i.id, there here, sym (eqb-true r (exit_rank slots i.id) f))
    go false false e f ih = later (ih (sym (rw (e, f) refl) ∙ h))

pub rank-point : (slots : Numbers) (b : Block) (r : ℕ) → is_rank_in slots b.instrs r ≡ true → (p : Point) × Among p (block_points b) × (rank_of slots p ≡ r)
rank-point slots b r h = go (nat_eq r 0) refl
  where
    go : (u : Bool) → nat_eq r 0 ≡ u → (p : Point) × Among p (block_points b) × (rank_of slots p ≡ r)
    go true e = (Start b.number, here, sym (eqb-true r 0 e))
    go false e = let f = instr-point slots b.instrs r (sym (rw e refl) ∙ h) in (f.0, there f.1, f.2)

-- Units are held at a point of the block wherever they are held along points of it that begin at one.
module _ {U : Type 0} (held : U → Stretch → Bool) (units : List U) where
  abbrev pub along : List Stretch → U → Bool
  along ss u = list_any (λ s. held u s) ss

  -- none is held
  abbrev pub alone : List Stretch → Bool
  alone ss = not (list_any (along ss) units)

  -- the same of a stretch that may have no points
  abbrev pub clear_part : Stretch → Bool
  clear_part s = not (nat_le s.first s.last) || alone (s ∷ [])

  -- one of them is, along one of the stretches
  record IsHeld (ss : List Stretch) : Type 0 where
    unit : U
    named : Among unit units
    at : Stretch
    among : Among at ss
    is : held unit at ≡ true

  not-alone : (ss : List Stretch) → IsHeld ss → alone ss ≡ true → ⊥
  not-alone ss h a = true≢false (sym (some-of (along ss) units h.unit h.named (some-of (λ x. held h.unit x) ss h.at h.among h.is)) ∙ from-no (list_any (along ss) units) a)

  alone-held : (ss : List Stretch) → alone ss ≡ false → IsHeld ss
  alone-held ss e =
      let r = some-among (along ss) units (from-not-no (list_any (along ss) units) e) in
      let q = some-among (λ (s : Stretch). held r.0 s) ss r.2 in
      record { unit = r.0; named = r.1; at = q.0; among = q.1; is = q.2 }

  held-in : (s : Stretch) (ss : List Stretch) → Among s ss → IsHeld (s ∷ []) → IsHeld ss
  held-in s ss m h = go (among-cases h.at s [] h.among)
    where
      go : (h.at ≡ s) ⊎ Among h.at [] → IsHeld ss
      go (inl e) = record { unit = h.unit; named = h.named; at = s; among = m; is = ap (held h.unit) (sym e) ∙ h.is }
      go (inr n) = elim n [ ]

  held-alone : (s : Stretch) (ss : List Stretch) (h : IsHeld ss) → h.at ≡ s → IsHeld (s ∷ [])
  held-alone s ss h e = record { unit = h.unit; named = h.named; at = s; among = here; is = ap (held h.unit) (sym e) ∙ h.is }

  -- all together or one after the other
  pub alone-parts : (ss : List Stretch) → list_all (λ s. nat_le s.first s.last) ss ≡ true → alone ss ≡ list_all clear_part ss
  alone-parts ss full = both-ways (alone ss) (list_all clear_part ss)
      (λ a. all-of clear_part ss (λ s m. by-test (alone (s ∷ [])) (clear_part s ≡ true) (λ e. or_right (not (nat_le s.first s.last)) (alone (s ∷ [])) e) (λ e. absurd (not-alone ss (held-in s ss m (alone-held (s ∷ []) e)) a))))
      (λ a. by-test (alone ss) (alone ss ≡ true) (λ e. e) (λ e. absurd (back (alone-held ss e) a)))
    where
      back : IsHeld ss → list_all clear_part ss ≡ true → ⊥
      back h a = not-alone (h.at ∷ []) (held-alone h.at ss h refl) (second (nat_le h.at.first h.at.last) (alone (h.at ∷ [])) (all-among (λ (s : Stretch). nat_le s.first s.last) ss h.at full h.among) (all-among clear_part ss h.at a h.among))

  -- at a point alone
  abbrev pub is_free_at : ℕ → Bool
  is_free_at r = list_all (λ u. not (held u (only r))) units

  module _ (P : ℕ → Type 0) (wider : (u : U) (r : ℕ) (s : Stretch) → s.first ≤ r → r ≤ s.last → held u (only r) ≡ true → held u s ≡ true)
      (meets : (u : U) (s : Stretch) → s.first ≤ s.last → P s.first → held u s ≡ true → (r : ℕ) × P r × (s.first ≤ r) × (r ≤ s.last) × (held u (only r) ≡ true))
      (X : Type 0) (rank : X → ℕ) (ps : List X) (found : (r : ℕ) → P r → (p : X) × Among p ps × (rank p ≡ r)) where
    no-held : (parts : List Stretch) (r : ℕ) (u : U) → Among u units → list_all clear_part parts ≡ true → is_covered parts r ≡ true → held u (only r) ≡ true → ⊥
    no-held parts r u m a c h =
        let f = some-among (λ (s : Stretch). nat_le s.first r && nat_le r s.last) parts c in
        let ends = and_parts (nat_le f.0.first r) (nat_le r f.0.last) f.2 in
        let lo : f.0.first ≤ r = leb-true f.0.first r ends.0 in
        let hi : r ≤ f.0.last = leb-true r f.0.last ends.1 in
        let full : nat_le f.0.first f.0.last ≡ true = le-leb f.0.first f.0.last (omega (arith, lo, hi)) in
        not-alone (f.0 ∷ []) (record { unit = u; named = m; at = f.0; among = here; is = wider u r f.0 lo hi h })
        (second (nat_le f.0.first f.0.last) (alone (f.0 ∷ [])) full (all-among clear_part parts f.0 a f.1))

    free-at : (parts : List Stretch) (r : ℕ) → list_all clear_part parts ≡ true → is_covered parts r ≡ true → is_free_at r ≡ true
    free-at parts r a c = all-of (λ u. not (held u (only r))) units
        (λ u m. by-test (held u (only r)) (not (held u (only r)) ≡ true) (λ h. absurd (no-held parts r u m a c h)) (λ h. to-no (held u (only r)) h))

    -- where a unit is held in one of the stretches it is so at one of the points
    record HeldPoint (s : Stretch) : Type 0 where
      point : X
      among : Among point ps
      low : s.first ≤ rank point
      high : rank point ≤ s.last
      taken : is_free_at (rank point) ≡ true → ⊥

    held-point : (s : Stretch) → s.first ≤ s.last → P s.first → alone (s ∷ []) ≡ false → HeldPoint s
    held-point s le first e = by_unit (alone-held (s ∷ []) e)
      where
        by_point : (u : U) → Among u units → (r : ℕ) → s.first ≤ r → r ≤ s.last → held u (only r) ≡ true → ((p : X) × Among p ps × (rank p ≡ r)) → HeldPoint s
        by_point u m r lo hi h (p, k, same) = record {
          point = p;
          among = k;
          low = omega (arith, lo, same);
          high = omega (arith, hi, same);
          taken = λ f. true≢false (sym h ∙ (ap (λ x. held u (only x)) (sym same) ∙ from-no (held u (only (rank p))) (all-among (λ y. not (held y (only (rank p)))) units u f m)));
        }

        by_rank : (u : U) → Among u units → ((r : ℕ) × P r × (s.first ≤ r) × (r ≤ s.last) × (held u (only r) ≡ true)) → HeldPoint s
        by_rank u m (r, at, lo, hi, h) = by_point u m r lo hi h (found r at)

        by_place : (h : IsHeld (s ∷ [])) → (h.at ≡ s) ⊎ Among h.at [] → HeldPoint s
        by_place h (inl q) = by_rank h.unit h.named (meets h.unit s le first (ap (held h.unit) (sym q) ∙ h.is))
        by_place h (inr n) = elim n [ ]

        by_unit : IsHeld (s ∷ []) → HeldPoint s
        by_unit h = by_place h (among-cases h.at s [] h.among)

    -- none is held along the stretches just where none is at any of these points that lies in them
    pub clear-points : (ss parts : List Stretch) (inside : ℕ → Bool) (g : X → Bool)
        → ((s : Stretch) → Among s parts → P s.first)
        → ((r : ℕ) → is_covered parts r ≡ (inside r && is_covered ss r))
        → ((p : X) → Among p ps → g p ≡ (not (is_covered ss (rank p)) || is_free_at (rank p)))
        → list_all clear_part parts ≡ list_all g (filter (λ p. inside (rank p)) ps)
    clear-points ss parts inside g begun same tests =
        both-ways (list_all clear_part parts) (list_all g (filter (λ p. inside (rank p)) ps))
        (λ a. all-of g (filter (λ p. inside (rank p)) ps) (λ p m. forth a p (among-filter (λ q. inside (rank q)) ps p m)))
        (λ a. all-of clear_part parts (λ s m. by-test (nat_le s.first s.last) (clear_part s ≡ true)
        (λ le. or_right (not (nat_le s.first s.last)) (alone (s ∷ [])) (by-test (alone (s ∷ [])) (alone (s ∷ []) ≡ true) (λ e. e) (λ e. absurd (back a s m (held-point s (leb-true s.first s.last le) (begun s m) e)))))
        (λ le. or_left (not (nat_le s.first s.last)) (alone (s ∷ [])) (to-no (nat_le s.first s.last) le))))
      where
        forth : list_all clear_part parts ≡ true → (p : X) → Among p ps × (inside (rank p) ≡ true) → g p ≡ true
        forth a p (m, in_it) = tests p m ∙ by-test (is_covered ss (rank p)) ((not (is_covered ss (rank p)) || is_free_at (rank p)) ≡ true)
            (λ c. or_right (not (is_covered ss (rank p))) (is_free_at (rank p)) (free-at parts (rank p) a (same (rank p) ∙ and_from (inside (rank p)) (is_covered ss (rank p)) in_it c)))
            (λ c. or_left (not (is_covered ss (rank p))) (is_free_at (rank p)) (to-no (is_covered ss (rank p)) c))

        back : list_all g (filter (λ p. inside (rank p)) ps) ≡ true → (s : Stretch) → Among s parts → HeldPoint s → ⊥
        back a s m h =
            let r = rank h.point in
            let c : is_covered parts r ≡ true = some-of (λ (x : Stretch). nat_le x.first r && nat_le r x.last) parts s m (and_from (nat_le s.first r) (nat_le r s.last) (le-leb s.first r h.low) (le-leb r s.last h.high)) in
            let both = and_parts (inside r) (is_covered ss r) (sym (same r) ∙ c) in
            let passes : g h.point ≡ true = all-among g (filter (λ p. inside (rank p)) ps) h.point a (filter-among (λ p. inside (rank p)) ps h.point h.among both.0) in
            h.taken (second (is_covered ss r) (is_free_at r) both.1 (sym (tests h.point h.among) ∙ passes))

    -- along cut stretches
    pub clear-cut : (ss : List Stretch) (low high : ℕ) (g : X → Bool)
        → P low → ((s : Stretch) → Among s ss → P s.first)
        → ((p : X) → Among p ps → g p ≡ (not (is_covered ss (rank p)) || is_free_at (rank p)))
        → list_all (λ s. clear_part (cut low high s)) ss ≡ list_all g (filter (λ p. nat_le low (rank p) && nat_le (rank p) high) ps)
    clear-cut ss low high g first begun tests =
        sym (list_all-map clear_part (cut low high) ss)
        ∙ clear-points ss (map (cut low high) ss) (λ r. nat_le low r && nat_le r high) g (starts ss begun) (λ r. cut-covered r ss) tests
      where
        later-of : (a : ℕ) → P a → P (max a low)
        later-of a h = go (cases_lt a low)
          where
            go : (a < low) ⊎ (low ≤ a) → P (max a low)
            go (inl lt) = let e : low ≡ max a low = omega arith in subst P e first
            go (inr le) = let e : a ≡ max a low = omega arith in subst P e h

        starts : (xs : List Stretch) → ((s : Stretch) → Among s xs → P s.first) → (s : Stretch) → Among s (map (cut low high) xs) → P s.first
        starts [] b s m = elim m [ ]
        starts (x ∷ xs) b s m = go (among-cases s (cut low high x) (map (cut low high) xs) m) (starts xs (λ y n. b y (there n)) s)
          where
            go : (s ≡ cut low high x) ⊎ Among s (map (cut low high) xs) → (Among s (map (cut low high) xs) → P s.first) → P s.first
            go (inl e) ih = let Q : Stretch → Type 0 = λ y. P y.first in subst Q (sym e) (later-of x.first (b x here))
            go (inr n) ih = ih n

        one-covered : (r : ℕ) (x : Stretch) → (nat_le (max x.first low) r && nat_le r (min x.last high)) ≡ ((nat_le low r && nat_le r high) && (nat_le x.first r && nat_le r x.last))
        one-covered r x = both-ways (nat_le (max x.first low) r && nat_le r (min x.last high)) ((nat_le low r && nat_le r high) && (nat_le x.first r && nat_le r x.last))
            (λ h. let p = and_parts (nat_le (max x.first low) r) (nat_le r (min x.last high)) h in
            let a : max x.first low ≤ r = leb-true (max x.first low) r p.0 in
            let b : r ≤ min x.last high = leb-true r (min x.last high) p.1 in
            and_from (nat_le low r && nat_le r high) (nat_le x.first r && nat_le r x.last)
            (and_from (nat_le low r) (nat_le r high) (le-leb low r (omega arith)) (le-leb r high (omega arith)))
            (and_from (nat_le x.first r) (nat_le r x.last) (le-leb x.first r (omega arith)) (le-leb r x.last (omega arith))))
            (λ h. let p = and_parts (nat_le low r && nat_le r high) (nat_le x.first r && nat_le r x.last) h in
            let q = and_parts (nat_le low r) (nat_le r high) p.0 in
            let k = and_parts (nat_le x.first r) (nat_le r x.last) p.1 in
            let a : low ≤ r = leb-true low r q.0 in
            let b : r ≤ high = leb-true r high q.1 in
            let c : x.first ≤ r = leb-true x.first r k.0 in
            let d : r ≤ x.last = leb-true r x.last k.1 in
            and_from (nat_le (max x.first low) r) (nat_le r (min x.last high)) (le-leb (max x.first low) r (omega arith)) (le-leb r (min x.last high) (omega arith)))

        spread-and : (a b c : Bool) → ((a && b) || (a && c)) ≡ (a && (b || c))
        spread-and true b c = refl
        spread-and false b c = refl

        none-and : (a : Bool) → false ≡ (a && false)
        none-and true = refl
        none-and false = refl

        cut-covered : (r : ℕ) (xs : List Stretch) → is_covered (map (cut low high) xs) r ≡ ((nat_le low r && nat_le r high) && is_covered xs r)
        cut-covered r [] = none-and (nat_le low r && nat_le r high)
        cut-covered r (x ∷ xs) =
            ap (λ b. b || is_covered (map (cut low high) xs) r) (one-covered r x)
            ∙ (ap (λ b. ((nat_le low r && nat_le r high) && (nat_le x.first r && nat_le r x.last)) || b) (cut-covered r xs)
            ∙ spread-and (nat_le low r && nat_le r high) (nat_le x.first r && nat_le r x.last) (is_covered xs r))

    -- along all of them
    pub clear-all : (ss : List Stretch) (g : X → Bool) → list_all (λ s. nat_le s.first s.last) ss ≡ true
        → ((s : Stretch) → Among s ss → P s.first)
        → ((p : X) → Among p ps → g p ≡ (not (is_covered ss (rank p)) || is_free_at (rank p)))
        → alone ss ≡ list_all g ps
    clear-all ss g full begun tests =
        alone-parts ss full ∙ (clear-points ss ss (λ r. true) g begun (λ r. refl) tests ∙ ap (list_all g) (every ps))
      where
        every : (xs : List X) → filter (λ p. true) xs ≡ xs
        every [] = refl
        every (x ∷ xs) = ap (λ ys. x ∷ ys) (every xs)
