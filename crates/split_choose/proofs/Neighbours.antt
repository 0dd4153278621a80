-- Touched places one behind the other: where they stand in blocks.
use Rattle.std.proofs.Common.{◌≡◌, ◌∙◌, ◌⊎◌, inl, inr, ℕ, zero, suc, ◌+◌, ◌-◌, ◌*◌, ◌<◌, ◌≤◌, Bool, true, false, cond, List, [], ◌∷◌, ◌++◌, refl, sym, ap, subst, arith, eq-eqb, eqb-true, length, map, append_assoc, Option, None, Some}
use Rattle.std.specs.Prelude.{nat_le, nat_eq, filter, flat_map, slice_get, not, ◌&&◌, ◌||◌}
use Rattle.std.specs.List.{list_all, list_any}
use Rattle.std.proofs.lemmas.Bool.{false≢true, true≢false, cases_lt, or_parts, or_from}
use Rattle.std.proofs.lemmas.List.{map-append}
use Rattle.slot_index.specs.Order.{number_of}
use Rattle.target_base.specs.declared.types.Target.{Target}
use Rattle.meaning.specs.Live.{Among, here, there}
use Rattle.mir_func.specs.declared.func.Instr.{Instr}
use Rattle.mir_func.specs.declared.func.Block.{Block}
use Rattle.mir_func.specs.Value.{Function}
use Rattle.mir_func.specs.Binding.{does, is_terminator}
use Rattle.mir_meaning.specs.Points.{touches}
use Rattle.mir_meaning.specs.Paths.{has}
use Rattle.live_lanes.specs.Table.{Numbers, entry_rank, exit_rank}
use Rattle.live_lanes.specs.Ordered.{ids_of, AreRising}
use Rattle.split_choose.specs.Offers.{View, Touched, last_id, touching, terminators, end_place}
use Rattle.split_choose.specs.Seen.{ends_in_terminators}
use Rattle.split_choose.proofs.Covers.{among-cases}
use Rattle.split_choose.proofs.Ranked.{among-left, among-right}
use Rattle.split_choose.proofs.Spread.{has-cases, has-more, has-first, place-among, get-left, get-right}
use Rattle.split_choose.proofs.Placed.{parts-of, touching-before}

-- elements one behind the other of lists of blocks

module _ {X : Type 0} (places : Block → List X) where
  -- both are of one block
  pub record OneBlock (bs : List Block) (p q : X) : Type 0 where
    pub before : List Block
    pub block : Block
    pub behind : List Block
    pub parts : bs ≡ before ++ block ∷ behind
    pub place : ℕ
    pub first : slice_get (places block) place ≡ Some p
    pub second : slice_get (places block) (suc place) ≡ Some q

  -- they are of two, between which none has any
  pub record TwoBlocks (bs : List Block) (p q : X) : Type 0 where
    pub before : List Block
    pub one : Block
    pub between : List Block
    pub other : Block
    pub behind : List Block
    pub parts : bs ≡ before ++ one ∷ (between ++ other ∷ behind)
    pub first : Among p (places one)
    pub second : Among q (places other)
    pub none : (c : Block) → Among c between → places c ≡ []

  -- the first of them
  record FirstBlock (bs : List Block) (q : X) : Type 0 where
    between : List Block
    other : Block
    behind : List Block
    parts : bs ≡ between ++ other ∷ behind
    second : Among q (places other)
    none : (c : Block) → Among c between → places c ≡ []

  first-block : (bs : List Block) (q : X) → slice_get (flat_map places bs) 0 ≡ Some q → FirstBlock bs q
  first-block [] q e = absurd (cc)
  first-block (b ∷ bs) q e = go (places b) refl (first-block bs q)
    where
      more : places b ≡ [] → FirstBlock bs q → FirstBlock (b ∷ bs) q
      more none r = record {
        between = b ∷ r.between;
        other = r.other;
        behind = r.behind;
        parts = ap (λ cs. b ∷ cs) r.parts;
        second = r.second;
        none = λ c m. (elim (among-cases c b r.between m) [ inl f ↦ ap places f ∙ none | inr n ↦ r.none c n ]);
      }

      go : (ps : List X) → places b ≡ ps → (slice_get (flat_map places bs) 0 ≡ Some q → FirstBlock bs q) → FirstBlock (b ∷ bs) q
      go [] f ih = more f (ih (sym (ap (λ ps. slice_get (ps ++ flat_map places bs) 0) f) ∙ e))
      go (p ∷ ps) f ih =
          let same : Some p ≡ Some q = sym (ap (λ rs. slice_get (rs ++ flat_map places bs) 0) f) ∙ e in
          record {
            between = [];
            other = b;
            behind = bs;
            parts = refl;
            second = place-among q (places b) 0 (ap (λ rs. slice_get rs 0) f ∙ same);
            none = λ c m. elim m [ ];
          }

  pub neighbours : (bs : List Block) (a : ℕ) (p q : X) → slice_get (flat_map places bs) a ≡ Some p → slice_get (flat_map places bs) (suc a) ≡ Some q → OneBlock bs p q ⊎ TwoBlocks bs p q
  neighbours [] a p q e f = absurd (cc)
  neighbours (b ∷ bs) a p q e f = go (cases_lt a (length (places b))) (λ k. neighbours bs k p q)
    where
      rest : List X
      rest = flat_map places bs

      later : OneBlock bs p q ⊎ TwoBlocks bs p q → OneBlock (b ∷ bs) p q ⊎ TwoBlocks (b ∷ bs) p q
      later (inl r) = inl (record { before = b ∷ r.before; block = r.block; behind = r.behind; parts = ap (λ cs. b ∷ cs) r.parts; place = r.place; first = r.first; second = r.second })
      later (inr r) = inr (record { before = b ∷ r.before; one = r.one; between = r.between; other = r.other; behind = r.behind; parts = ap (λ cs. b ∷ cs) r.parts; first = r.first; second = r.second; none = r.none })

      within : slice_get (places b) a ≡ Some p → (suc a < length (places b)) ⊎ (length (places b) ≤ suc a) → a < length (places b) → OneBlock (b ∷ bs) p q ⊎ TwoBlocks (b ∷ bs) p q
      within g (inl h) lt = inl (record { before = []; block = b; behind = bs; parts = refl; place = a; first = g; second = sym (get-left (places b) (flat_map places bs) (suc a) h) ∙ f })
      within g (inr h) lt =
          let z : suc a ≡ length (places b) + 0 = omega arith in
          let r = first-block bs q (sym (ap (slice_get (places b ++ flat_map places bs)) z ∙ get-right (places b) (flat_map places bs) 0) ∙ f) in
          inr (record { before = []; one = b; between = r.between; other = r.other; behind = r.behind; parts = ap (λ cs. b ∷ cs) r.parts; first = place-among p (places b) a g; second = r.second; none = r.none })

      go : (a < length (places b)) ⊎ (length (places b) ≤ a) → ((k : ℕ) → slice_get (flat_map places bs) k ≡ Some p → slice_get (flat_map places bs) (suc k) ≡ Some q → OneBlock bs p q ⊎ TwoBlocks bs p q) → OneBlock (b ∷ bs) p q ⊎ TwoBlocks (b ∷ bs) p q
      go (inl h) ih = within (sym (get-left (places b) (flat_map places bs) a h) ∙ e) (cases_lt (suc a) (length (places b))) h
      go (inr h) ih =
          let z : a ≡ length (places b) + (a - length (places b)) = omega arith in
          let y : suc a ≡ length (places b) + suc (a - length (places b)) = omega arith in
          later (ih (a - length (places b)) (sym (ap (slice_get (places b ++ flat_map places bs)) z ∙ get-right (places b) (flat_map places bs) (a - length (places b))) ∙ e)
          (sym (ap (slice_get (places b ++ flat_map places bs)) y ∙ get-right (places b) (flat_map places bs) (suc (a - length (places b)))) ∙ f))

-- ids

pub has-left : (id : ℕ) (xs ys : List ℕ) → has id xs ≡ true → has id (xs ++ ys) ≡ true
has-left id [] ys h = absurd (false≢true h)
has-left id (x ∷ xs) ys h = go (has-cases id x xs h) (has-left id xs ys)
  where
    go : (x ≡ id) ⊎ (has id xs ≡ true) → (has id xs ≡ true → has id (xs ++ ys) ≡ true) → has id (x ∷ (xs ++ ys)) ≡ true
    go (inl e) ih = has-first id x (xs ++ ys) e
    go (inr g) ih = has-more id x (xs ++ ys) (ih g)

pub has-right : (id : ℕ) (xs ys : List ℕ) → has id ys ≡ true → has id (xs ++ ys) ≡ true
has-right id [] ys h = h
has-right id (x ∷ xs) ys h = has-more id x (xs ++ ys) (has-right id xs ys h)

pub has-among : (i : Instr) (is : List Instr) → Among i is → has i.id (ids_of is) ≡ true
has-among i [] m = elim m [ ]
has-among i (j ∷ is) m = go (among-cases i j is m) (has-among i is)
  where
    go : (i ≡ j) ⊎ Among i is → (Among i is → has i.id (ids_of is) ≡ true) → has i.id (ids_of (j ∷ is)) ≡ true
    go (inl e) ih = has-first i.id j.id (ids_of is) (ap (λ (x : Instr). x.id) (sym e))
    go (inr n) ih = has-more i.id j.id (ids_of is) (ih n)

has-filter : (f : Instr → Bool) (id : ℕ) (is : List Instr) → has id (ids_of (filter f is)) ≡ true → has id (ids_of is) ≡ true
has-filter f id [] h = h
has-filter f id (i ∷ is) h = go (f i) refl (has-filter f id is)
  where
    go : (b : Bool) → f i ≡ b → (has id (ids_of (filter f is)) ≡ true → has id (ids_of is) ≡ true) → has id (ids_of (i ∷ is)) ≡ true
    go false e ih = has-more id i.id (ids_of is) (ih (sym (ap (λ b. has id (ids_of (cond b (i ∷ filter f is) (filter f is)))) e) ∙ h))
    go true e ih = by_place (has-cases id i.id (ids_of (filter f is)) (sym (ap (λ b. has id (ids_of (cond b (i ∷ filter f is) (filter f is)))) e) ∙ h))
      where
        by_place : (i.id ≡ id) ⊎ (has id (ids_of (filter f is)) ≡ true) → has id (ids_of (i ∷ is)) ≡ true
        by_place (inl d) = has-first id i.id (ids_of is) d
        by_place (inr d) = has-more id i.id (ids_of is) (ih d)

has-last : (i : Instr) (is : List Instr) → has (last_id i.id is) (ids_of (i ∷ is)) ≡ true
has-last i [] = has-first i.id i.id [] refl
has-last i (j ∷ is) = has-more (last_id j.id is) i.id (ids_of (j ∷ is)) (has-last j is)

-- numbers that rise

module _ (slots : Numbers) where
  rising-from : (m n : ℕ) (ids : List ℕ) → n ≤ m → AreRising slots m ids → AreRising slots n ids
  rising-from m n [] le r = tt
  rising-from m n (x ∷ xs) le r = let a : m < number_of slots x = r.0 in (omega arith, r.1, r.2)

  rising-above : (n id : ℕ) (ids : List ℕ) → AreRising slots n ids → has id ids ≡ true → n < number_of slots id
  rising-above n id [] r h = absurd (false≢true h)
  rising-above n id (x ∷ xs) r h = go (has-cases id x xs h) (rising-above (number_of slots x) id xs r.2)
    where
      go : (x ≡ id) ⊎ (has id xs ≡ true) → (has id xs ≡ true → number_of slots x < number_of slots id) → n < number_of slots id
      go (inl e) ih = let P : ℕ → Type 0 = λ k. n < number_of slots k in subst P e r.0
      go (inr g) ih = let a : n < number_of slots x = r.0 in let b = ih g in omega (arith, b)

  pub rising-apart : (n x y : ℕ) (xs ys : List ℕ) → AreRising slots n (xs ++ ys) → has x xs ≡ true → has y ys ≡ true → number_of slots x < number_of slots y
  rising-apart n x y [] ys r h k = absurd (false≢true h)
  rising-apart n x y (z ∷ zs) ys r h k = go (has-cases x z zs h) (rising-apart (number_of slots z) x y zs ys r.2)
    where
      go : (z ≡ x) ⊎ (has x zs ≡ true) → (has x zs ≡ true → has y ys ≡ true → number_of slots x < number_of slots y) → number_of slots x < number_of slots y
      go (inl e) ih = let P : ℕ → Type 0 = λ w. number_of slots w < number_of slots y in subst P e (rising-above (number_of slots z) y (zs ++ ys) r.2 (has-right y zs ys k))
      go (inr g) ih = ih g k

  rising-filter : (f : Instr → Bool) (n : ℕ) (is : List Instr) → AreRising slots n (ids_of is) → AreRising slots n (ids_of (filter f is))
  rising-filter f n [] r = tt
  rising-filter f n (i ∷ is) r = go (f i) refl (rising-filter f (number_of slots i.id) is r.2)
    where
      go : (b : Bool) → f i ≡ b → AreRising slots (number_of slots i.id) (ids_of (filter f is)) → AreRising slots n (ids_of (filter f (i ∷ is)))
      go true e ih = rw e (r.0, r.1, ih)
      go false e ih = let a : n < number_of slots i.id = r.0 in rw e (rising-from (number_of slots i.id) n (ids_of (filter f is)) (omega arith) ih)

-- the touched places of a block

module _ (t : Target) (f : Function) (v : ℕ) (view : View) where
  abbrev pub one_place : Block → Instr → Touched
  one_place b i = record { block = b.number; first = i.id; last = i.id; is_end = false }

  abbrev pub places_in : Block → List Touched
  places_in b = map (one_place b) (touching t f v view b) ++ end_place t f v view b (terminators t f v view b)

  -- the place lies in the block
  pub record LiesIn (b : Block) (p : Touched) : Type 0 where
    pub number : p.block ≡ b.number
    pub first : has p.first (ids_of b.instrs) ≡ true
    pub last : has p.last (ids_of b.instrs) ≡ true

  single-lies : (b : Block) (is : List Instr) (p : Touched) → ((id : ℕ) → has id (ids_of is) ≡ true → has id (ids_of b.instrs) ≡ true) → Among p (map (one_place b) is) → LiesIn b p
  single-lies b [] p sub m = elim m [ ]
  single-lies b (i ∷ is) p sub m = go (among-cases p (one_place b i) (map (one_place b) is) m) (single-lies b is p (λ id h. sub id (has-more id i.id (ids_of is) h)))
    where
      own : has i.id (ids_of b.instrs) ≡ true
      own = sub i.id (has-first i.id i.id (ids_of is) refl)

      go : (p ≡ one_place b i) ⊎ Among p (map (one_place b) is) → (Among p (map (one_place b) is) → LiesIn b p) → LiesIn b p
      go (inl e) ih = subst (LiesIn b) (sym e) (record { number = refl; first = own; last = own })
      go (inr n) ih = ih n

  end-lies : (b : Block) (is : List Instr) (p : Touched) → ((id : ℕ) → has id (ids_of is) ≡ true → has id (ids_of b.instrs) ≡ true) → Among p (end_place t f v view b is) → LiesIn b p
  end-lies b [] p sub m = elim m [ ]
  end-lies b (i ∷ is) p sub m = go (list_any (touches v) (i ∷ is)) m
    where
      whole : Touched
      whole = record { block = b.number; first = i.id; last = last_id i.id is; is_end = true }

      only : (p ≡ whole) ⊎ Among p [] → LiesIn b p
      only (inl e) = subst (LiesIn b) (sym e) (record { number = refl; first = sub i.id (has-first i.id i.id (ids_of is) refl); last = sub (last_id i.id is) (has-last i is) })
      only (inr n) = elim n [ ]

      go : (c : Bool) → Among p (cond c (whole ∷ []) []) → LiesIn b p
      go true n = only (among-cases p whole [] n)
      go false n = elim n [ ]

  among-parts : {X : Type 0} (x : X) (xs ys : List X) → Among x (xs ++ ys) → Among x xs ⊎ Among x ys
  among-parts x [] ys m = inr m
  among-parts {X} x (z ∷ xs) ys m = go (among-cases x z (xs ++ ys) m) (among-parts x xs ys)
    where
      more : Among x xs ⊎ Among x ys → Among x (z ∷ xs) ⊎ Among x ys
      more (inl a) = inl (there a)
      more (inr a) = inr a

      go : (x ≡ z) ⊎ Among x (xs ++ ys) → (Among x (xs ++ ys) → Among x xs ⊎ Among x ys) → Among x (z ∷ xs) ⊎ Among x ys
      go (inl e) ih = let P : X → Type 0 = λ w. Among x (w ∷ xs) in inl (subst P e here)
      go (inr n) ih = more (ih n)

  pub place-lies : (b : Block) (p : Touched) → Among p (places_in b) → LiesIn b p
  place-lies b p m = go (among-parts p (map (one_place b) (touching t f v view b)) (end_place t f v view b (terminators t f v view b)) m)
    where
      go : Among p (map (one_place b) (touching t f v view b)) ⊎ Among p (end_place t f v view b (terminators t f v view b)) → LiesIn b p
      go (inl n) = single-lies b (touching t f v view b) p (λ id h. has-filter (λ i. touches v i && not (does is_terminator t i)) id b.instrs h) n
      go (inr n) = end-lies b (terminators t f v view b) p (λ id h. has-filter (does is_terminator t) id b.instrs h) n

  -- one behind another ends behind its first instruction
  module _ (slots : Numbers) (b : Block) where
    next-behind : (n : ℕ) (is : List Instr) (ends : List Touched) (j : ℕ) (p q : Touched) → AreRising slots n (ids_of is) → ((k : ℕ) → slice_get ends (suc k) ≡ None)
        → ((e : Touched) → Among e ends → (id : ℕ) → has id (ids_of is) ≡ true → number_of slots id < number_of slots e.last)
        → slice_get (map (one_place b) is ++ ends) j ≡ Some p → slice_get (map (one_place b) is ++ ends) (suc j) ≡ Some q → number_of slots p.first < number_of slots q.last
    next-behind n [] ends j p q r few above e g = absurd (let h = few j in cc)
    next-behind n (i ∷ []) ends zero p q r few above e g =
        let same : one_place b i ≡ p = cc in
        let P : Touched → Type 0 = λ w. number_of slots w.first < number_of slots q.last in
        subst P same (above q (place-among q ends 0 g) i.id (has-first i.id i.id [] refl))
    next-behind n (i ∷ []) ends (suc j) p q r few above e g = absurd (let h = few j in cc)
    next-behind n (i ∷ k ∷ is) ends zero p q r few above e g =
        let same : one_place b i ≡ p = cc in
        let other : one_place b k ≡ q = cc in
        let P : Touched → Type 0 = λ w. number_of slots w.first < number_of slots q.last in
        let Q : Touched → Type 0 = λ w. number_of slots i.id < number_of slots w.last in
        subst P same (subst Q other r.2.0)
    next-behind n (i ∷ k ∷ is) ends (suc j) p q r few above e g =
        next-behind (number_of slots i.id) (k ∷ is) ends j p q r.2 few (λ x m id h. above x m id (has-more id i.id (ids_of (k ∷ is)) h)) e g

    few-ends : (is : List Instr) (k : ℕ) → slice_get (end_place t f v view b is) (suc k) ≡ None
    few-ends [] k = refl
    few-ends (i ∷ is) k = go (list_any (touches v) (i ∷ is))
      where
        whole : Touched
        whole = record { block = b.number; first = i.id; last = last_id i.id is; is_end = true }

        go : (c : Bool) → slice_get (cond c (whole ∷ []) []) (suc k) ≡ None
        go true = refl
        go false = refl

    end-last : (is : List Instr) (e : Touched) → Among e (end_place t f v view b is) → has e.last (ids_of is) ≡ true
    end-last [] e m = elim m [ ]
    end-last (i ∷ is) e m = go (list_any (touches v) (i ∷ is)) m
      where
        whole : Touched
        whole = record { block = b.number; first = i.id; last = last_id i.id is; is_end = true }

        only : (e ≡ whole) ⊎ Among e [] → has e.last (ids_of (i ∷ is)) ≡ true
        only (inl q) = ap (λ (w : Touched). has w.last (ids_of (i ∷ is))) q ∙ has-last i is
        only (inr n) = elim n [ ]

        go : (c : Bool) → Among e (cond c (whole ∷ []) []) → has e.last (ids_of (i ∷ is)) ≡ true
        go true n = only (among-cases e whole [] n)
        go false n = elim n [ ]

    pub place-next : (j : ℕ) (p q : Touched) → ends_in_terminators t b.instrs ≡ true → AreRising slots 0 (ids_of b.instrs) → slice_get (places_in b) j ≡ Some p → slice_get (places_in b) (suc j) ≡ Some q → number_of slots p.first < number_of slots q.last
    place-next j p q ended r e g =
        let head = filter (λ (i : Instr). not (does is_terminator t i)) b.instrs in
        let tail = filter (does is_terminator t) b.instrs in
        let both : AreRising slots 0 (ids_of head ++ ids_of tail) = subst (AreRising slots 0) (ap ids_of (parts-of t b.instrs ended) ∙ map-append (λ (i : Instr). i.id) head tail) r in
        next-behind 0 (touching t f v view b) (end_place t f v view b tail) j p q
        (rising-filter slots (λ i. touches v i && not (does is_terminator t i)) 0 b.instrs r)
        (few-ends tail)
        (λ x m id h. rising-apart slots 0 id x.last (ids_of head) (ids_of tail) both
        (has-filter (touches v) id head (ap (λ is. has id (ids_of is)) (touching-before t v b.instrs) ∙ h))
        (end-last tail x m))
        e g

  -- where there is none, no instruction touches the range
  untouched-end : (b : Block) (is : List Instr) → end_place t f v view b is ≡ [] → list_any (touches v) is ≡ false
  untouched-end b [] e = refl
  untouched-end b (i ∷ is) e = go (list_any (touches v) (i ∷ is)) refl e
    where
      whole : Touched
      whole = record { block = b.number; first = i.id; last = last_id i.id is; is_end = true }

      go : (c : Bool) → list_any (touches v) (i ∷ is) ≡ c → cond c (whole ∷ []) [] ≡ [] → list_any (touches v) (i ∷ is) ≡ false
      go true h g = absurd (cc)
      go false h g = h

  untouched-all : (is : List Instr) → filter (λ i. touches v i && not (does is_terminator t i)) is ≡ [] → list_any (touches v) (filter (does is_terminator t) is) ≡ false → list_any (touches v) is ≡ false
  untouched-all [] a b = refl
  untouched-all (i ∷ is) a b = go (touches v i) (does is_terminator t i) refl refl (untouched-all is)
    where
      go : (x y : Bool) → touches v i ≡ x → does is_terminator t i ≡ y → (filter (λ k. touches v k && not (does is_terminator t k)) is ≡ [] → list_any (touches v) (filter (does is_terminator t) is) ≡ false → list_any (touches v) is ≡ false) → list_any (touches v) (i ∷ is) ≡ false
      go true true e g ih = absurd (true≢false (sym (rw (g, e) refl) ∙ b))
      go true false e g ih = absurd (let z : i ∷ filter (λ (k : Instr). touches v k && not (does is_terminator t k)) is ≡ [] = sym (rw (e, g) refl) ∙ a in cc)
      go false true e g ih = or_from (touches v i) (list_any (touches v) is) e (ih (sym (rw e refl) ∙ a) (or_parts (touches v i) (list_any (touches v) (filter (does is_terminator t) is)) (sym (rw g refl) ∙ b)).1)
      go false false e g ih = or_from (touches v i) (list_any (touches v) is) e (ih (sym (rw e refl) ∙ a) (sym (rw g refl) ∙ b))

  map-none : {X Y : Type 0} (g : X → Y) (xs : List X) (ys : List Y) → map g xs ++ ys ≡ [] → (xs ≡ []) × (ys ≡ [])
  map-none g [] ys e = (refl, e)
  map-none g (x ∷ xs) ys e = absurd (cc)

  pub untouched : (b : Block) → places_in b ≡ [] → list_any (touches v) b.instrs ≡ false
  untouched b e =
      let parts = map-none (one_place b) (touching t f v view b) (end_place t f v view b (terminators t f v view b)) e in
      untouched-all b.instrs parts.0 (untouched-end b (terminators t f v view b) parts.1)
