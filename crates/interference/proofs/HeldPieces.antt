-- A list that holds some extents of ranges that don't clash gets one more.
use Rattle.std.proofs.Common.{◌≡◌, ◌∙◌, ◌<◌, ◌≤◌, ◌⊎◌, inl, inr, ⊎_elim, ℕ, Bool, true, false, cond, not, ◌&&◌, List, [], ◌∷◌, ◌++◌, Option, None, Some, refl, sym, ap, subst, arith, append-nil, eqb-true, eq-eqb}
use Rattle.std.specs.Prelude.{◌||◌, nat_eq, nat_le, filter}
use Rattle.std.proofs.lemmas.Bool.{leb-true, leb-false, le-leb}
use Rattle.std.proofs.lemmas.List.{append_cancel_left}
use Rattle.std.proofs.lemmas.List.Elements.{filter-append}
use Rattle.mir_meaning.specs.Paths.{Among, here, there}
use Rattle.live_lanes.specs.declared.ask.extent.Extent.{Extent}
use Rattle.live_lanes.specs.Table.{Numbers}
use Rattle.live_lanes.specs.Extents.{first_rank, last_rank, begins_with, is_same_start}
use Rattle.live_lanes.proofs.Basics.{none-among}
use Rattle.live_lanes.proofs.Held.{le-false}
use Rattle.live_lanes.proofs.Numbered.{among-cases, among-right, among-split}
use Rattle.interference.specs.declared.held.RangeExtent.{RangeExtent}
use Rattle.interference.specs.Clashes.{AreApart, begins_by}
use Rattle.interference.specs.Changes.{is_piece, own_of, IsInserted}
use Rattle.interference.specs.EditedLists.{Whole, ComesBehind, AreInRow, LieApart, AreSeparate, HoldsThose, or_piece, but_piece, any_extent}
use Rattle.interference.proofs.Owned.{own-append, own-others, others-spared, own-spared, rest-none}
use Rattle.interference.proofs.Parts.{extent-le, apart-filter}

-- filters

pub filter-all : {X : Type 0} (p : X → Bool) (xs : List X) → ((x : X) → Among x xs → p x ≡ true) → filter p xs ≡ xs
filter-all p [] h = refl
filter-all p (x ∷ xs) h = (λ i. cond (h x here i) (x ∷ filter p xs) (filter p xs)) ∙ ap (λ t. x ∷ t) (filter-all p xs (λ y m. h y (there m)))

filter-none : {X : Type 0} (p : X → Bool) (xs : List X) → ((x : X) → Among x xs → p x ≡ false) → filter p xs ≡ []
filter-none p [] h = refl
filter-none p (x ∷ xs) h = (λ i. cond (h x here i) (x ∷ filter p xs) (filter p xs)) ∙ filter-none p xs (λ y m. h y (there m))

pub filter-alike : {X : Type 0} (p q : X → Bool) (xs : List X) → ((x : X) → Among x xs → p x ≡ q x) → filter p xs ≡ filter q xs
filter-alike p q [] h = refl
filter-alike p q (x ∷ xs) h = λ i. cond (h x here i) (x ∷ filter-alike p q xs (λ y m. h y (there m)) i) (filter-alike p q xs (λ y m. h y (there m)) i)

pub filter-among : {X : Type 0} (p : X → Bool) (x : X) (xs : List X) → Among x (filter p xs) → Among x xs × (p x ≡ true)
filter-among p x [] m = absurd (none-among x m)
filter-among p x (y ∷ ys) m = go (λ k. let z = filter-among p x ys k in (there z.0, z.1)) (p y) refl m
  where
    go : (Among x (filter p ys) → Among x (y ∷ ys) × (p x ≡ true)) → (u : Bool) → p y ≡ u → Among x (cond u (y ∷ filter p ys) (filter p ys)) → Among x (y ∷ ys) × (p x ≡ true)
    go rest true e k = ⊎_elim (λ (f : x ≡ y). (subst (λ z. Among z (y ∷ ys)) (sym f) here, ap p f ∙ e)) rest (among-cases x y (filter p ys) k)
    go rest false e k = rest k

-- what a range holds of a list that is filtered by extents
own-filtered : (p : Extent → Bool) (v : ℕ) (hs : List RangeExtent) → own_of v (filter (λ h. p h.extent) hs) ≡ filter p (own_of v hs)
own-filtered p v [] = refl
own-filtered p v (h ∷ hs) = go (p h.extent) (nat_eq h.range v) refl refl (own-filtered p v hs)
  where
    rest : List RangeExtent
    rest = filter (λ x. p x.extent) hs

    own : List Extent
    own = own_of v hs

    go : (a b : Bool) → p h.extent ≡ a → nat_eq h.range v ≡ b → own_of v rest ≡ filter p own → own_of v (cond (p h.extent) (h ∷ rest) rest) ≡ filter p (cond (nat_eq h.range v) (h.extent ∷ own) own)
    go true true e f ih =
        (λ i. own_of v (cond (e i) (h ∷ rest) rest))
        ∙ ((λ i. cond (f i) (h.extent ∷ ih i) (ih i))
        ∙ sym ((λ i. filter p (cond (f i) (h.extent ∷ own) own)) ∙ (λ i. cond (e i) (h.extent ∷ filter p own) (filter p own))))
    go true false e f ih =
        (λ i. own_of v (cond (e i) (h ∷ rest) rest)) ∙ ((λ i. cond (f i) (h.extent ∷ ih i) (ih i)) ∙ sym (λ i. filter p (cond (f i) (h.extent ∷ own) own)))
    go false true e f ih =
        (λ i. own_of v (cond (e i) (h ∷ rest) rest)) ∙ (ih ∙ sym ((λ i. filter p (cond (f i) (h.extent ∷ own) own)) ∙ (λ i. cond (e i) (h.extent ∷ filter p own) (filter p own))))
    go false false e f ih = (λ i. own_of v (cond (e i) (h ∷ rest) rest)) ∙ (ih ∙ sym (λ i. filter p (cond (f i) (h.extent ∷ own) own)))

-- what another range than v holds of a list without a piece of v
other-spared : (v w : ℕ) (start : Option ℕ) → nat_eq w v ≡ false → (hs : List RangeExtent) → own_of w (filter (λ h. not (is_piece v start h)) hs) ≡ own_of w hs
other-spared v w start ne hs = sym (own-others v w (filter (λ h. not (is_piece v start h)) hs) ne) ∙ (ap (own_of w) (others-spared v start hs) ∙ own-others v w hs ne)

passing-among : {X : Type 0} (p : X → Bool) (x : X) (xs : List X) → Among x xs → p x ≡ true → Among x (filter p xs)
passing-among p x [] m t = absurd (none-among x m)
passing-among p x (y ∷ ys) m t = go (among-cases x y ys m) (passing-among p x ys)
  where
    later : (u : Bool) → Among x (filter p ys) → Among x (cond u (y ∷ filter p ys) (filter p ys))
    later true k = there k
    later false k = k

    go : (x ≡ y) ⊎ Among x ys → (Among x ys → p x ≡ true → Among x (filter p ys)) → Among x (cond (p y) (y ∷ filter p ys) (filter p ys))
    go (inl e) ih = subst (λ b. Among x (cond b (y ∷ filter p ys) (filter p ys))) (sym t ∙ ap p e) (subst (λ z. Among z (y ∷ filter p ys)) (sym e) here)
    go (inr k) ih = later (p y) (ih k t)

none-passes : {X : Type 0} (p : X → Bool) (xs : List X) → filter p xs ≡ [] → (x : X) → Among x xs → p x ≡ false
none-passes p xs e x m = go (p x) refl
  where
    go : (u : Bool) → p x ≡ u → u ≡ false
    go true t = absurd (none-among x (subst (Among x) e (passing-among p x xs m t)))
    go false t = refl

-- a member of a list is held by its range
pub own-among : (x : RangeExtent) (hs : List RangeExtent) → Among x hs → Among x.extent (own_of x.range hs)
own-among x [] m = absurd (none-among x m)
own-among x (h ∷ hs) m = go (among-cases x h hs m) (own-among x hs)
  where
    later : (u : Bool) → Among x.extent (own_of x.range hs) → Among x.extent (cond u (h.extent ∷ own_of x.range hs) (own_of x.range hs))
    later true k = there k
    later false k = k

    go : (x ≡ h) ⊎ Among x hs → (Among x hs → Among x.extent (own_of x.range hs)) → Among x.extent (cond (nat_eq h.range x.range) (h.extent ∷ own_of x.range hs) (own_of x.range hs))
    go (inl e) ih =
        let same : h.range ≡ x.range = ap (λ (y : RangeExtent). y.range) (sym e) in
        subst (λ b. Among x.extent (cond b (h.extent ∷ own_of x.range hs) (own_of x.range hs))) (sym (eq-eqb h.range x.range same)) (subst (λ (y : RangeExtent). Among x.extent (y.extent ∷ own_of x.range hs)) e here)
    go (inr k) ih = later (nat_eq h.range x.range) (ih k)

same-self : (a : Option ℕ) → is_same_start a a ≡ true
same-self None = refl
same-self (Some n) = eq-eqb n n refl

same-start-turned : (a b : Option ℕ) → is_same_start a b ≡ is_same_start b a
same-start-turned None None = refl
same-start-turned None (Some b) = refl
same-start-turned (Some a) None = refl
same-start-turned (Some a) (Some b) = go (nat_eq a b) (nat_eq b a) refl refl
  where
    go : (u w : Bool) → nat_eq a b ≡ u → nat_eq b a ≡ w → nat_eq a b ≡ nat_eq b a
    go true true e f = e ∙ sym f
    go false false e f = e ∙ sym f
    go true false e f = absurd (let z : true ≡ false = sym (eq-eqb b a (sym (eqb-true a b e))) ∙ f in cc)
    go false true e f = absurd (let z : true ≡ false = sym (eq-eqb a b (sym (eqb-true b a f))) ∙ e in cc)

-- extents in a row, around one of them
record IsAround (slots : Numbers) (e : Extent) (xs : List Extent) : Type 0 where
  front : List Extent
  rest : List Extent
  is : xs ≡ front ++ e ∷ rest
  before : (f : Extent) → Among f front → ComesBehind slots f e
  behind : (f : Extent) → Among f rest → ComesBehind slots e f

around : (slots : Numbers) (e : Extent) (xs : List Extent) → AreInRow slots xs → Among e xs → IsAround slots e xs
around slots e [] row m = absurd (none-among e m)
around slots e (x ∷ xs) row m = go (among-cases e x xs m) (around slots e xs row.1)
  where
    go : (e ≡ x) ⊎ Among e xs → (Among e xs → IsAround slots e xs) → IsAround slots e (x ∷ xs)
    go (inl same) ih = record { front = []; rest = xs; is = ap (λ y. y ∷ xs) (sym same); before = λ f k. absurd (none-among f k); behind = λ f k. subst (λ y. ComesBehind slots y f) (sym same) (row.0 f k) }
    go (inr k) ih =
        let z = ih k in
        record {
          front = x ∷ z.front;
          rest = z.rest;
          is = ap (λ y. x ∷ y) z.is;
          before = λ f n. ⊎_elim (λ (g : f ≡ x). subst (λ y. ComesBehind slots y e) (sym g) (row.0 e k)) (λ (n : Among f z.front). z.before f n) (among-cases f x z.front n);
          behind = z.behind;
        }

-- a stretch comes between others
apart-insert : (slots : Numbers) (h : RangeExtent) (n : ℕ) (front rest : List RangeExtent) → AreApart slots n (front ++ rest) → n ≤ first_rank slots h.extent → ((x : RangeExtent) → Among x front → last_rank slots x.extent ≤ first_rank slots h.extent)
    → ((x : RangeExtent) → Among x rest → last_rank slots h.extent ≤ first_rank slots x.extent) → AreApart slots n (front ++ h ∷ rest)
apart-insert slots h n [] [] a le f r = (le, tt)
apart-insert slots h n [] (x ∷ rest) a le f r = (le, (r x here, a.1))
apart-insert slots h n (x ∷ front) rest a le f r = (a.0, apart-insert slots h (last_rank slots x.extent) front rest a.1 (f x here) (λ y m. f y (there m)) r)

module _ (slots : Numbers) (whole : Whole) (sep : AreSeparate slots whole) (test : ℕ → Extent → Bool) (v : ℕ) (e : Extent) (m : Among e (whole v)) (hs : List RangeExtent) (holds : HoldsThose slots whole test hs) where
  abbrev first : ℕ
  first = first_rank slots e

  abbrev h : RangeExtent
  h = record { range = v; extent = e }

  abbrev bare : List RangeExtent
  bare = filter (λ x. not (is_piece v e.start x)) hs

  abbrev begun : Extent → Bool
  begun x = nat_le (first_rank slots x) first

  abbrev other : Extent → Bool
  other x = not (begins_with e.start x)

  z : IsAround slots e (whole v)
  z = around slots e (whole v) (sep.rows v) m

  abbrev t : Extent → Bool
  t = test v

  -- what the range holds without the piece
  own-bare : own_of v bare ≡ filter other (filter t (whole v))
  own-bare = own-spared v e.start hs ∙ ap (filter other) (holds.own v)

  in-bare : (x : RangeExtent) → Among x bare → Among x.extent (whole x.range)
  in-bare x k = (filter-among (test x.range) x.extent (whole x.range) (subst (Among x.extent) (holds.own x.range) (own-among x hs (filter-among (λ y. not (is_piece v e.start y)) x hs k).0))).0

  -- it is the range's own, and stands before or behind, or it is another range's
  stands : (x : RangeExtent) → Among x bare → (ComesBehind slots x.extent e ⊎ ComesBehind slots e x.extent) ⊎ LieApart slots x.extent e
  stands x k = go (nat_eq x.range v) refl
    where
      not-same : other x.extent ≡ true → x.extent ≡ e → ⊥
      not-same passed g = let w : false ≡ true = ap not (sym (same-self e.start)) ∙ (ap (λ (y : Extent). not (begins_with e.start y)) (sym g) ∙ passed) in cc

      own : x.range ≡ v → ComesBehind slots x.extent e ⊎ ComesBehind slots e x.extent
      own same =
          let held : Among x.extent (own_of v bare) = subst (λ w. Among x.extent (own_of w bare)) same (own-among x bare k) in
          let passed = filter-among other x.extent (filter t (whole v)) (subst (Among x.extent) own-bare held) in
          let place : Among x.extent (z.front ++ e ∷ z.rest) = subst (Among x.extent) z.is (filter-among t x.extent (whole v) passed.0).0 in
          ⊎_elim (λ (f : Among x.extent z.front). inl (z.before x.extent f))
          (λ (f : Among x.extent (e ∷ z.rest)). ⊎_elim (λ (g : x.extent ≡ e). absurd (not-same passed.1 g)) (λ (g : Among x.extent z.rest). inr (z.behind x.extent g)) (among-cases x.extent e z.rest f))
          (among-split x.extent z.front (e ∷ z.rest) place)

      go : (u : Bool) → nat_eq x.range v ≡ u → (ComesBehind slots x.extent e ⊎ ComesBehind slots e x.extent) ⊎ LieApart slots x.extent e
      go true f = inl (own (eqb-true x.range v f))
      go false f = inr (sep.clear x.range v (λ same. let w : true ≡ false = sym (eq-eqb x.range v same) ∙ f in cc) x.extent e (in-bare x k) m)

  ends-before : (x : RangeExtent) → Among x bare → first_rank slots x.extent ≤ first → last_rank slots x.extent ≤ first
  ends-before x k le = go (stands x k)
    where
      go : (ComesBehind slots x.extent e ⊎ ComesBehind slots e x.extent) ⊎ LieApart slots x.extent e → last_rank slots x.extent ≤ first
      go (inl (inl c)) = c.behind
      go (inl (inr c)) = absurd (let later = c.later in omega arith)
      go (inr (inl c)) = omega (arith, c)
      go (inr (inr c)) = absurd (let own = extent-le slots e in omega (arith, own, c, le))

  begins-behind : (x : RangeExtent) → Among x bare → first < first_rank slots x.extent → last_rank slots e ≤ first_rank slots x.extent
  begins-behind x k lt = go (stands x k)
    where
      go : (ComesBehind slots x.extent e ⊎ ComesBehind slots e x.extent) ⊎ LieApart slots x.extent e → last_rank slots e ≤ first_rank slots x.extent
      go (inl (inl c)) = absurd (let later = c.later in omega arith)
      go (inl (inr c)) = c.behind
      go (inr (inl c)) = absurd (let own = extent-le slots x.extent in omega (arith, own, c, lt))
      go (inr (inr c)) = omega (arith, c)

  module _ (new : List RangeExtent) (put : IsInserted (filter (begins_by slots first) bare) h bare new) where
    abbrev ahead : List RangeExtent
    ahead = filter (begins_by slots first) bare

    late : (x : RangeExtent) → Among x put.rest → first < first_rank slots x.extent
    late x k = leb-false (first_rank slots x.extent) first (none-passes (begins_by slots first) put.rest (rest-none (begins_by slots first) bare put.rest put.was) x k)

    new-apart : AreApart slots 0 new
    new-apart =
        subst (AreApart slots 0) (sym put.is)
        (apart-insert slots h 0 ahead put.rest (subst (AreApart slots 0) put.was (apart-filter slots (λ x. not (is_piece v e.start x)) 0 hs holds.apart)) (omega arith)
        (λ x k. let y = filter-among (begins_by slots first) x bare k in ends-before x y.0 (leb-true (first_rank slots x.extent) first y.1))
        (λ x k. begins-behind x (subst (Among x) (sym put.was) (among-right x ahead put.rest k)) (late x k)))

    -- what the range holds then

    other-front : (x : Extent) → Among x z.front → other x ≡ true
    other-front x k = ap not (same-start-turned x.start e.start ∙ (z.before x k).starts)

    other-rest : (x : Extent) → Among x z.rest → other x ≡ true
    other-rest x k = ap not (z.behind x k).starts

    left : own_of v bare ≡ filter t z.front ++ filter t z.rest
    left =
        own-bare
        ∙ (ap (λ xs. filter other (filter t xs)) z.is
        ∙ (ap (filter other) (filter-append t z.front (e ∷ z.rest))
        ∙ (filter-append other (filter t z.front) (filter t (e ∷ z.rest))
        ∙ (λ i. filter-all other (filter t z.front) (λ x k. other-front x (filter-among t x z.front k).0) i ++ behind (t e) i))))
      where
        rest-all : filter other (filter t z.rest) ≡ filter t z.rest
        rest-all = filter-all other (filter t z.rest) (λ x k. other-rest x (filter-among t x z.rest k).0)

        behind : (u : Bool) → filter other (cond u (e ∷ filter t z.rest) (filter t z.rest)) ≡ filter t z.rest
        behind true = (λ i. cond (not (same-self e.start i)) (e ∷ filter other (filter t z.rest)) (filter other (filter t z.rest))) ∙ rest-all
        behind false = rest-all

    own-ahead : own_of v ahead ≡ filter t z.front
    own-ahead =
        own-filtered begun v bare
        ∙ (ap (filter begun) left
        ∙ (filter-append begun (filter t z.front) (filter t z.rest)
        ∙ ((λ i. filter-all begun (filter t z.front) (λ x k. let c = (z.before x (filter-among t x z.front k).0).later in le-leb (first_rank slots x) first (omega (arith, c))) i ++ filter-none begun (filter t z.rest) (λ x k. le-false (first_rank slots x) first (z.behind x (filter-among t x z.rest k).0).later) i)
        ∙ append-nil (filter t z.front))))

    own-rest : own_of v put.rest ≡ filter t z.rest
    own-rest =
        append_cancel_left (filter t z.front) (own_of v put.rest) (filter t z.rest)
        (ap (λ xs. xs ++ own_of v put.rest) (sym own-ahead) ∙ (sym (own-append v ahead put.rest) ∙ (ap (own_of v) (sym put.was) ∙ left)))

    abbrev more : ℕ → Extent → Bool
    more = or_piece test v e.start

    -- the test passes no other extent of the range
    as-before : (x : Extent) → begins_with e.start x ≡ false → t x ≡ more v x
    as-before x f = sym ((λ i. t x || (nat_eq v v && f i)) ∙ none (t x) (nat_eq v v))
      where
        none : (a b : Bool) → (a || (b && false)) ≡ a
        none true b = refl
        none false true = refl
        none false false = refl

    passes : more v e ≡ true
    passes = (λ i. t e || (eq-eqb v v refl i && same-self e.start i)) ∙ always (t e)
      where
        always : (a : Bool) → (a || true) ≡ true
        always true = refl
        always false = refl

    own-new : own_of v new ≡ filter (more v) (whole v)
    own-new =
        ap (own_of v) put.is
        ∙ (own-append v ahead (h ∷ put.rest)
        ∙ ((λ i. own-ahead i ++ cond (eq-eqb v v refl i) (e ∷ own-rest i) (own-rest i))
        ∙ sym (ap (filter (more v)) z.is
        ∙ (filter-append (more v) z.front (e ∷ z.rest)
        ∙ (λ i. sym (filter-alike t (more v) z.front (λ x k. as-before x (same-start-turned x.start e.start ∙ (z.before x k).starts))) i
        ++ cond (passes i) (e ∷ sym (filter-alike t (more v) z.rest (λ x k. as-before x (z.behind x k).starts)) i) (sym (filter-alike t (more v) z.rest (λ x k. as-before x (z.behind x k).starts)) i))))))

    own-other : (w : ℕ) → nat_eq w v ≡ false → own_of w new ≡ filter (more w) (whole w)
    own-other w ne =
        ap (own_of w) put.is
        ∙ (own-append w ahead (h ∷ put.rest)
        ∙ ((λ i. own_of w ahead ++ cond (turned i) (e ∷ own_of w put.rest) (own_of w put.rest))
        ∙ (sym (own-append w ahead put.rest)
        ∙ (ap (own_of w) (sym put.was)
        ∙ (other-spared v w e.start ne hs
        ∙ (holds.own w ∙ filter-alike (test w) (more w) (whole w) (λ x k. sym ((λ i. test w x || (ne i && begins_with e.start x)) ∙ none (test w x)))))))))
      where
        none : (a : Bool) → (a || false) ≡ a
        none true = refl
        none false = refl

        turned : nat_eq v w ≡ false
        turned = go (nat_eq v w) refl
          where
            go : (u : Bool) → nat_eq v w ≡ u → u ≡ false
            go true f = let y : true ≡ false = sym (eq-eqb w v (sym (eqb-true v w f))) ∙ ne in y
            go false f = refl

    pub piece-put : HoldsThose slots whole more new
    piece-put = record { own = λ w. go w (nat_eq w v) refl; apart = new-apart }
      where
        go : (w : ℕ) (u : Bool) → nat_eq w v ≡ u → own_of w new ≡ filter (more w) (whole w)
        go w true f = subst (λ n. own_of n new ≡ filter (more n) (whole n)) (sym (eqb-true w v f)) own-new
        go w false f = own-other w f

filter-twice : {X : Type 0} (p q : X → Bool) (xs : List X) → filter p (filter q xs) ≡ filter (λ x. q x && p x) xs
filter-twice p q [] = refl
filter-twice p q (x ∷ xs) = go (q x) (filter-twice p q xs)
  where
    go : (u : Bool) → filter p (filter q xs) ≡ filter (λ y. q y && p y) xs → filter p (cond u (x ∷ filter q xs) (filter q xs)) ≡ cond (u && p x) (x ∷ filter (λ y. q y && p y) xs) (filter (λ y. q y && p y) xs)
    go true ih = ap (λ t. cond (p x) (x ∷ t) t) ih
    go false ih = ih

-- a list whose numbers of points are others, and which holds all that ranges had
pub whole-held : (slots : Numbers) (whole : Whole) (hs : List RangeExtent) → ((v : ℕ) → own_of v hs ≡ whole v) → AreApart slots 0 hs → HoldsThose slots whole any_extent hs
whole-held slots whole hs own apart = record { own = λ v. own v ∙ sym (filter-all (any_extent v) (whole v) (λ x m. refl)); apart = apart }

-- a piece is taken out
pub piece-gone : (slots : Numbers) (whole : Whole) (test : ℕ → Extent → Bool) (v : ℕ) (start : Option ℕ) (hs new : List RangeExtent) → HoldsThose slots whole test hs → new ≡ filter (λ h. not (is_piece v start h)) hs → HoldsThose slots whole (but_piece test v start) new
piece-gone slots whole test v start hs new holds is = record {
  own = λ w. ap (own_of w) is ∙ go w (nat_eq w v) refl;
  apart = subst (AreApart slots 0) (sym is) (apart-filter slots (λ h. not (is_piece v start h)) 0 hs holds.apart);
}
  where
    none : (a b : Bool) → (a && not (false && b)) ≡ a
    none true b = refl
    none false b = refl

    go : (w : ℕ) (u : Bool) → nat_eq w v ≡ u → own_of w (filter (λ h. not (is_piece v start h)) hs) ≡ filter (but_piece test v start w) (whole w)
    go w true e =
        let same : w ≡ v = eqb-true w v e in
        ap (λ n. own_of n (filter (λ h. not (is_piece v start h)) hs)) same
        ∙ (own-spared v start hs
        ∙ (ap (filter (λ x. not (begins_with start x))) (holds.own v)
        ∙ (filter-twice (λ x. not (begins_with start x)) (test v) (whole v)
        ∙ (filter-alike (λ x. test v x && not (begins_with start x)) (but_piece test v start v) (whole v) (λ x m i. test v x && not (sym (eq-eqb v v refl) i && begins_with start x))
        ∙ ap (λ n. filter (but_piece test v start n) (whole n)) (sym same)))))
    go w false e =
        other-spared v w start e hs
        ∙ (holds.own w ∙ filter-alike (test w) (but_piece test v start w) (whole w) (λ x m. sym ((λ i. test w x && not (e i && begins_with start x)) ∙ none (test w x) (begins_with start x))))

-- what passes the test is the same of other extents
pub whole-changed : (slots : Numbers) (old new : Whole) (test : ℕ → Extent → Bool) (hs : List RangeExtent) → HoldsThose slots old test hs → ((v : ℕ) → filter (test v) (new v) ≡ filter (test v) (old v)) → HoldsThose slots new test hs
whole-changed slots old new test hs holds same = record { own = λ v. holds.own v ∙ sym (same v); apart = holds.apart }

-- a piece that a range hasn't needn't be put in
pub no-piece : (slots : Numbers) (whole : Whole) (test : ℕ → Extent → Bool) (v : ℕ) (start : Option ℕ) (hs : List RangeExtent) → HoldsThose slots whole test hs → ((e : Extent) → Among e (whole v) → begins_with start e ≡ false) → HoldsThose slots whole (or_piece test v start) hs
no-piece slots whole test v start hs holds none = record { own = λ w. holds.own w ∙ filter-alike (test w) (or_piece test v start w) (whole w) (λ x m. sym (go w x m (nat_eq w v) refl)); apart = holds.apart }
  where
    or-false : (a b : Bool) → (a || (b && false)) ≡ a
    or-false true b = refl
    or-false false true = refl
    or-false false false = refl

    or-none : (a b : Bool) → (a || (false && b)) ≡ a
    or-none true b = refl
    or-none false b = refl

    go : (w : ℕ) (x : Extent) → Among x (whole w) → (u : Bool) → nat_eq w v ≡ u → or_piece test v start w x ≡ test w x
    go w x m true e = (λ i. test w x || (nat_eq w v && none x (subst (λ n. Among x (whole n)) (eqb-true w v e) m) i)) ∙ or-false (test w x) (nat_eq w v)
    go w x m false e = (λ i. test w x || (e i && begins_with start x)) ∙ or-none (test w x) (begins_with start x)

-- where the test passes all that ranges have, the list holds all of it
pub all-held : (slots : Numbers) (whole : Whole) (test : ℕ → Extent → Bool) (hs : List RangeExtent) → HoldsThose slots whole test hs → ((v : ℕ) (e : Extent) → Among e (whole v) → test v e ≡ true) → (v : ℕ) → own_of v hs ≡ whole v
all-held slots whole test hs holds all v = holds.own v ∙ filter-all (test v) (whole v) (all v)
