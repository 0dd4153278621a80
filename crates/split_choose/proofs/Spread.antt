-- The points of blocks: how their ranks rise, and those from an instruction of one block to an instruction of another.
use Rattle.std.proofs.Common.{◌≡◌, ◌≢◌, ◌∙◌, ◌⊎◌, inl, inr, ℕ, zero, suc, ◌+◌, ◌*◌, ◌<◌, ◌≤◌, Bool, true, false, cond, List, [], ◌∷◌, ◌++◌, refl, sym, ap, subst, arith, eq-eqb, eqb-true, length, map, append_assoc, Option, None, Some}
use Rattle.std.specs.Prelude.{nat_le, nat_eq, filter, flat_map, slice_get, slice_index, ◌&&◌}
use Rattle.std.specs.List.{list_all}
use Rattle.std.proofs.lemmas.Bool.{leb-true, le-leb, lt-leb, false≢true, true≢false, cases_lt}
use Rattle.std.proofs.lemmas.Grind.{flat_map-append}
use Rattle.std.proofs.lemmas.List.Folds.{list_all-append}
use Rattle.slot_index.specs.Order.{number_of}
use Rattle.meaning.specs.Live.{Among, here, there}
use Rattle.mir_func.specs.declared.func.Instr.{Instr}
use Rattle.mir_func.specs.declared.func.Block.{Block}
use Rattle.mir_meaning.specs.Points.{Point, Start, Entry, Exit, block_points}
use Rattle.mir_meaning.specs.Paths.{has}
use Rattle.live_lanes.specs.Table.{Numbers, entry_rank, exit_rank}
use Rattle.live_lanes.specs.Ordered.{ids_of, AreRising, AreHomes}
use Rattle.split_choose.specs.Offers.{same_point, from_point, to_point}
use Rattle.split_choose.specs.Seen.{rank_of}
use Rattle.split_choose.specs.Clearing.{points_between}
use Rattle.split_choose.proofs.Covers.{among-cases}
use Rattle.split_choose.proofs.Ranked.{among-left, among-right, AreRanked, ranked-from, ranked-above, from-ranked, to-ranked, between-ranked, later-among, from-in, from-past, to-in, to-past, Lacks, lacks-rest, lacks-append}

-- the points of instructions
abbrev pub instr_points : List Instr → List Point
instr_points is = flat_map (λ i. Entry i.id ∷ Exit i.id ∷ []) is

-- an instruction's points are among them

pub has-more : (id x : ℕ) (xs : List ℕ) → has id xs ≡ true → has id (x ∷ xs) ≡ true
has-more id x xs h = go (nat_eq x id) refl
  where
    go : (b : Bool) → nat_eq x id ≡ b → has id (x ∷ xs) ≡ true
    go true e = rw e refl
    go false e = rw e h

pub has-first : (id x : ℕ) (xs : List ℕ) → x ≡ id → has id (x ∷ xs) ≡ true
has-first id x xs e = rw (eq-eqb x id e) refl

pub has-cases : (id x : ℕ) (xs : List ℕ) → has id (x ∷ xs) ≡ true → (x ≡ id) ⊎ (has id xs ≡ true)
has-cases id x xs h = go (nat_eq x id) refl
  where
    go : (b : Bool) → nat_eq x id ≡ b → (x ≡ id) ⊎ (has id xs ≡ true)
    go true e = inl (eqb-true x id e)
    go false e = inr (sym (ap (λ b. cond b true (has id xs)) e) ∙ h)

-- the point of an instruction of that id
pub data IsPointOf (is : List Instr) (p : Point) : Type 0 where
  entry : (id : ℕ) → has id (ids_of is) ≡ true → p ≡ Entry id → IsPointOf is p
  exit : (id : ℕ) → has id (ids_of is) ≡ true → p ≡ Exit id → IsPointOf is p

pub entry-among : (id : ℕ) (is : List Instr) → has id (ids_of is) ≡ true → Among (Entry id) (instr_points is)
entry-among id [] h = absurd (false≢true h)
entry-among id (i ∷ is) h = go (has-cases id i.id (ids_of is) h) (entry-among id is)
  where
    go : (i.id ≡ id) ⊎ (has id (ids_of is) ≡ true) → (has id (ids_of is) ≡ true → Among (Entry id) (instr_points is)) → Among (Entry id) (instr_points (i ∷ is))
    go (inl e) ih = let P : ℕ → Type 0 = λ k. Among (Entry k) (instr_points (i ∷ is)) in subst P e here
    go (inr g) ih = there (there (ih g))

pub exit-among : (id : ℕ) (is : List Instr) → has id (ids_of is) ≡ true → Among (Exit id) (instr_points is)
exit-among id [] h = absurd (false≢true h)
exit-among id (i ∷ is) h = go (has-cases id i.id (ids_of is) h) (exit-among id is)
  where
    go : (i.id ≡ id) ⊎ (has id (ids_of is) ≡ true) → (has id (ids_of is) ≡ true → Among (Exit id) (instr_points is)) → Among (Exit id) (instr_points (i ∷ is))
    go (inl e) ih = let P : ℕ → Type 0 = λ k. Among (Exit k) (instr_points (i ∷ is)) in subst P e (there here)
    go (inr g) ih = there (there (ih g))

pub point-of : (p : Point) (is : List Instr) → Among p (instr_points is) → IsPointOf is p
point-of p [] m = elim m [ ]
point-of p (i ∷ is) m = go (among-cases p (Entry i.id) (Exit i.id ∷ instr_points is) m) (point-of p is)
  where
    more : IsPointOf is p → IsPointOf (i ∷ is) p
    more (entry id h e) = entry id (has-more id i.id (ids_of is) h) e
    more (exit id h e) = exit id (has-more id i.id (ids_of is) h) e

    rest : (p ≡ Exit i.id) ⊎ Among p (instr_points is) → (Among p (instr_points is) → IsPointOf is p) → IsPointOf (i ∷ is) p
    rest (inl e) ih = exit i.id (has-first i.id i.id (ids_of is) refl) e
    rest (inr n) ih = more (ih n)

    go : (p ≡ Entry i.id) ⊎ Among p (Exit i.id ∷ instr_points is) → (Among p (instr_points is) → IsPointOf is p) → IsPointOf (i ∷ is) p
    go (inl e) ih = entry i.id (has-first i.id i.id (ids_of is) refl) e
    go (inr n) ih = rest (among-cases p (Exit i.id) (instr_points is) n) ih

-- their ranks rise, and are small

pub points-ranked : (slots : Numbers) (n : ℕ) (is : List Instr) → AreRising slots n (ids_of is) → AreRanked (rank_of slots) (n * 2 + 2) (instr_points is)
points-ranked slots n [] r = tt
points-ranked slots n (i ∷ is) r =
    let lo : n < number_of slots i.id = r.0 in
    let rest : AreRanked (rank_of slots) (number_of slots i.id * 2 + 2) (instr_points is) = points-ranked slots (number_of slots i.id) is r.2 in
    (omega arith, (omega arith, ranked-from (rank_of slots) (number_of slots i.id * 2 + 2) (suc (number_of slots i.id * 2 + 1)) (instr_points is) (omega arith) rest))

pub block-ranked : (slots : Numbers) (b : Block) → AreRising slots 0 (ids_of b.instrs) → AreRanked (rank_of slots) 0 (block_points b)
block-ranked slots b r = (omega arith, ranked-from (rank_of slots) (0 * 2 + 2) 1 (instr_points b.instrs) (omega arith) (points-ranked slots 0 b.instrs r))

pub number-small : (slots : Numbers) (n id : ℕ) (ids : List ℕ) → AreRising slots n ids → has id ids ≡ true → number_of slots id < 18446744073709551616
number-small slots n id [] r h = absurd (false≢true h)
number-small slots n id (x ∷ xs) r h = go (has-cases id x xs h) (number-small slots (number_of slots x) id xs r.2)
  where
    go : (x ≡ id) ⊎ (has id xs ≡ true) → (has id xs ≡ true → number_of slots id < 18446744073709551616) → number_of slots id < 18446744073709551616
    go (inl e) ih = let P : ℕ → Type 0 = λ k. number_of slots k < 18446744073709551616 in subst P e r.1
    go (inr g) ih = ih g

pub rank-small : (slots : Numbers) (b : Block) (p : Point) → AreRising slots 0 (ids_of b.instrs) → Among p (block_points b) → rank_of slots p ≤ 340282366920938463463374607431768211455
rank-small slots b p r m = go (among-cases p (Start b.number) (instr_points b.instrs) m)
  where
    at : IsPointOf b.instrs p → rank_of slots p ≤ 340282366920938463463374607431768211455
    at (entry id h e) = let s = number-small slots 0 id (ids_of b.instrs) r h in let q : rank_of slots p ≡ number_of slots id * 2 = ap (rank_of slots) e in omega (arith, s, q)
    at (exit id h e) = let s = number-small slots 0 id (ids_of b.instrs) r h in let q : rank_of slots p ≡ number_of slots id * 2 + 1 = ap (rank_of slots) e in omega (arith, s, q)

    go : (p ≡ Start b.number) ⊎ Among p (instr_points b.instrs) → rank_of slots p ≤ 340282366920938463463374607431768211455
    go (inl e) = let q : rank_of slots p ≡ 0 = ap (rank_of slots) e in omega (arith, q)
    go (inr n) = at (point-of p b.instrs n)

-- an instruction's points are in no other block

entry-is : (id x : ℕ) → Entry id ≡ Entry x → id ≡ x
entry-is id x e = let f : Point → ℕ = λ p. elim p [ Start n ↦ 0 | Entry n ↦ n | Exit n ↦ 0 ] in ap f e

exit-is : (id x : ℕ) → Exit id ≡ Exit x → id ≡ x
exit-is id x e = let f : Point → ℕ = λ p. elim p [ Start n ↦ 0 | Entry n ↦ 0 | Exit n ↦ n ] in ap f e

entry-not-start : (id x : ℕ) → Entry id ≡ Start x → ⊥
entry-not-start id x e = let f : Point → Bool = λ p. elim p [ Start n ↦ true | Entry n ↦ false | Exit n ↦ false ] in false≢true (ap f e)

exit-not-start : (id x : ℕ) → Exit id ≡ Start x → ⊥
exit-not-start id x e = let f : Point → Bool = λ p. elim p [ Start n ↦ true | Entry n ↦ false | Exit n ↦ false ] in false≢true (ap f e)

entry-not-exit : (id x : ℕ) → Entry id ≡ Exit x → ⊥
entry-not-exit id x e = let f : Point → Bool = λ p. elim p [ Start n ↦ true | Entry n ↦ false | Exit n ↦ true ] in false≢true (ap f e)

exit-not-entry : (id x : ℕ) → Exit id ≡ Entry x → ⊥
exit-not-entry id x e = let f : Point → Bool = λ p. elim p [ Start n ↦ true | Entry n ↦ true | Exit n ↦ false ] in false≢true (ap f e)

entry-has : (id : ℕ) (b : Block) → Among (Entry id) (block_points b) → has id (ids_of b.instrs) ≡ true
entry-has id b m = go (among-cases (Entry id) (Start b.number) (instr_points b.instrs) m)
  where
    at : IsPointOf b.instrs (Entry id) → has id (ids_of b.instrs) ≡ true
    at (entry x h e) = ap (λ k. has k (ids_of b.instrs)) (entry-is id x e) ∙ h
    at (exit x h e) = absurd (entry-not-exit id x e)

    go : (Entry id ≡ Start b.number) ⊎ Among (Entry id) (instr_points b.instrs) → has id (ids_of b.instrs) ≡ true
    go (inl e) = absurd (entry-not-start id b.number e)
    go (inr n) = at (point-of (Entry id) b.instrs n)

exit-has : (id : ℕ) (b : Block) → Among (Exit id) (block_points b) → has id (ids_of b.instrs) ≡ true
exit-has id b m = go (among-cases (Exit id) (Start b.number) (instr_points b.instrs) m)
  where
    at : IsPointOf b.instrs (Exit id) → has id (ids_of b.instrs) ≡ true
    at (entry x h e) = absurd (exit-not-entry id x e)
    at (exit x h e) = ap (λ k. has k (ids_of b.instrs)) (exit-is id x e) ∙ h

    go : (Exit id ≡ Start b.number) ⊎ Among (Exit id) (instr_points b.instrs) → has id (ids_of b.instrs) ≡ true
    go (inl e) = absurd (exit-not-start id b.number e)
    go (inr n) = at (point-of (Exit id) b.instrs n)

-- none of the blocks has an instruction of that id
abbrev pub AreWithout : ℕ → List Block → Type 0
AreWithout id bs = (c : Block) → Among c bs → has id (ids_of c.instrs) ≡ false

without-entry : (id : ℕ) (bs : List Block) → AreWithout id bs → Lacks (Entry id) (flat_map block_points bs)
without-entry id [] w = λ m. elim m [ ]
without-entry id (b ∷ bs) w =
    lacks-append (Entry id) (block_points b) (flat_map block_points bs) (λ m. true≢false (sym (entry-has id b m) ∙ w b here)) (without-entry id bs (λ c m. w c (there m)))

without-exit : (id : ℕ) (bs : List Block) → AreWithout id bs → Lacks (Exit id) (flat_map block_points bs)
without-exit id [] w = λ m. elim m [ ]
without-exit id (b ∷ bs) w =
    lacks-append (Exit id) (block_points b) (flat_map block_points bs) (λ m. true≢false (sym (exit-has id b m) ∙ w b here)) (without-exit id bs (λ c m. w c (there m)))

-- places in lists

pub among-place : {X : Type 0} (x : X) (xs : List X) → Among x xs → (j : ℕ) × (slice_get xs j ≡ Some x) × (j < length xs)
among-place x [] m = elim m [ ]
among-place {X} x (y ∷ ys) m = go (among-cases x y ys m) (among-place x ys)
  where
    go : (x ≡ y) ⊎ Among x ys → (Among x ys → (j : ℕ) × (slice_get ys j ≡ Some x) × (j < length ys)) → (j : ℕ) × (slice_get (y ∷ ys) j ≡ Some x) × (j < length (y ∷ ys))
    go (inl e) ih = (0, ap (λ z. Some z) (sym e), omega arith)
    go (inr n) ih = let r = ih n in let l = r.2 in (suc r.0, r.1, omega (arith, l))

pub place-among : {X : Type 0} (x : X) (xs : List X) (j : ℕ) → slice_get xs j ≡ Some x → Among x xs
place-among x [] j e = absurd (cc)
place-among {X} x (y ∷ ys) zero e = let q : y ≡ x = cc in let P : X → Type 0 = λ z. Among x (z ∷ ys) in subst P (sym q) here
place-among x (y ∷ ys) (suc j) e = there (place-among x ys j e)

pub get-left : {X : Type 0} (xs ys : List X) (j : ℕ) → j < length xs → slice_get (xs ++ ys) j ≡ slice_get xs j
get-left [] ys j h = absurd (omega arith)
get-left (x ∷ xs) ys zero h = refl
get-left (x ∷ xs) ys (suc j) h = get-left xs ys j (omega arith)

pub get-right : {X : Type 0} (xs ys : List X) (j : ℕ) → slice_get (xs ++ ys) (length xs + j) ≡ slice_get ys j
get-right [] ys j = let e : 0 + j ≡ j = omega arith in ap (slice_get ys) e
get-right (x ∷ xs) ys j = let e : suc (length xs) + j ≡ suc (length xs + j) = omega arith in ap (slice_get (x ∷ (xs ++ ys))) e ∙ get-right xs ys j

pub get-at : {X : Type 0} (xs : List X) (y : X) (ys : List X) → slice_get (xs ++ y ∷ ys) (length xs) ≡ Some y
get-at xs y ys = let e : length xs ≡ length xs + 0 = omega arith in ap (slice_get (xs ++ y ∷ ys)) e ∙ get-right xs (y ∷ ys) 0

-- blocks before another have none of its instructions
pub without-before : (bs : List Block) (homes : List ℕ) (pre : List Block) (b : Block) (post : List Block) (id : ℕ) → AreHomes bs homes → bs ≡ pre ++ b ∷ post → has id (ids_of b.instrs) ≡ true → AreWithout id pre
without-before bs homes pre b post id at parts h = λ c m. go c (has id (ids_of c.instrs)) refl (among-place c pre m)
  where
    mine : slice_index homes id ≡ length pre
    mine = at (length pre) b id (ap (λ cs. slice_get cs (length pre)) parts ∙ get-at pre b post) h

    go : (c : Block) (u : Bool) → has id (ids_of c.instrs) ≡ u → ((j : ℕ) × (slice_get pre j ≡ Some c) × (j < length pre)) → has id (ids_of c.instrs) ≡ false
    go c false e r = e
    go c true e (j, g, lt) =
        let other : slice_index homes id ≡ j = at j c id (ap (λ cs. slice_get cs j) parts ∙ (get-left pre (b ∷ post) j lt ∙ g)) e in
        absurd (omega (arith, mine, other, lt))

-- a test of two of which one is passed

filter-left : {X : Type 0} (f h : X → Bool) (xs : List X) → ((x : X) → Among x xs → h x ≡ true) → filter (λ x. f x && h x) xs ≡ filter f xs
filter-left f h [] all = refl
filter-left f h (x ∷ xs) all = go (f x) refl (filter-left f h xs (λ y m. all y (there m)))
  where
    go : (b : Bool) → f x ≡ b → filter (λ y. f y && h y) xs ≡ filter f xs → filter (λ y. f y && h y) (x ∷ xs) ≡ filter f (x ∷ xs)
    go true e ih = rw (e, all x here) (ap (λ ys. x ∷ ys) ih)
    go false e ih = rw e ih

filter-right : {X : Type 0} (f h : X → Bool) (xs : List X) → ((x : X) → Among x xs → f x ≡ true) → filter (λ x. f x && h x) xs ≡ filter h xs
filter-right f h [] all = refl
filter-right f h (x ∷ xs) all = go (h x) refl (filter-right f h xs (λ y m. all y (there m)))
  where
    go : (b : Bool) → h x ≡ b → filter (λ y. f y && h y) xs ≡ filter h xs → filter (λ y. f y && h y) (x ∷ xs) ≡ filter h (x ∷ xs)
    go true e ih = rw (all x here, e) (ap (λ ys. x ∷ ys) ih)
    go false e ih = rw (all x here, e) ih

module _ (slots : Numbers) (g : Point → Bool) (bs : List Block) (homes : List ℕ) (at : AreHomes bs homes) where
  -- from an instruction to another one of its block
  pub within-block : (pre : List Block) (b : Block) (post : List Block) (p q : ℕ) → bs ≡ pre ++ b ∷ post → AreRising slots 0 (ids_of b.instrs) → has p (ids_of b.instrs) ≡ true → has q (ids_of b.instrs) ≡ true
      → entry_rank slots p ≤ exit_rank slots q → points_between slots (entry_rank slots p) (exit_rank slots q) b ≡ to_point (Exit q) (from_point (Entry p) (flat_map block_points bs))
  within-block pre b post p q parts r hp hq le =
      let pin : Among (Entry p) (block_points b) = there (entry-among p b.instrs hp) in
      let qin : Among (Exit q) (block_points b) = there (exit-among q b.instrs hq) in
      let ranked = block-ranked slots b r in
      let rest = flat_map block_points post in
      let whole : flat_map block_points bs ≡ flat_map block_points pre ++ (block_points b ++ rest) = ap (flat_map block_points) parts ∙ flat_map-append block_points pre (b ∷ post) in
      let lacks = without-entry p pre (without-before bs homes pre b post p at parts hp) in
      let begun : from_point (Entry p) (flat_map block_points bs) ≡ from_point (Entry p) (block_points b) ++ rest =
      ap (from_point (Entry p)) whole ∙ (from-past (Entry p) (flat_map block_points pre) (block_points b ++ rest) lacks ∙ from-in (Entry p) (block_points b) rest pin) in
      let same = between-ranked (rank_of slots) 0 (block_points b) (Entry p) (Exit q) ranked pin qin le in
      let there_too = later-in p q b ranked pin qin le in
      same ∙ (sym (to-in (Exit q) (from_point (Entry p) (block_points b)) rest there_too) ∙ sym (ap (to_point (Exit q)) begun))
    where
      later-in : (p q : ℕ) (b : Block) → AreRanked (rank_of slots) 0 (block_points b) → Among (Entry p) (block_points b) → Among (Exit q) (block_points b) → entry_rank slots p ≤ exit_rank slots q → Among (Exit q) (from_point (Entry p) (block_points b))
      later-in p q b ranked pin qin le = later-among (rank_of slots) 0 (block_points b) (Entry p) (Exit q) ranked pin qin le

  -- from an instruction of one block to one of a later block
  pub across-blocks : (pre : List Block) (b : Block) (mid : List Block) (c : Block) (post : List Block) (p q : ℕ) → bs ≡ pre ++ b ∷ (mid ++ c ∷ post) → AreRising slots 0 (ids_of b.instrs) → AreRising slots 0 (ids_of c.instrs)
      → has p (ids_of b.instrs) ≡ true → has q (ids_of c.instrs) ≡ true → list_all g (flat_map block_points mid) ≡ true
      → (list_all g (points_between slots (entry_rank slots p) 340282366920938463463374607431768211455 b) && list_all g (points_between slots 0 (exit_rank slots q) c)) ≡ list_all g (to_point (Exit q) (from_point (Entry p) (flat_map block_points bs)))
  across-blocks pre b mid c post p q parts rb rc hp hq passed =
      let pin : Among (Entry p) (block_points b) = there (entry-among p b.instrs hp) in
      let qin : Among (Exit q) (block_points c) = there (exit-among q c.instrs hq) in
      let later = flat_map block_points post in
      let between = flat_map block_points mid in
      let rest = between ++ (block_points c ++ later) in
      let whole : flat_map block_points bs ≡ flat_map block_points pre ++ (block_points b ++ rest) =
      ap (flat_map block_points) parts ∙ (flat_map-append block_points pre (b ∷ (mid ++ c ∷ post)) ∙ ap (λ ps. flat_map block_points pre ++ (block_points b ++ ps)) (flat_map-append block_points mid (c ∷ post))) in
      let before : AreWithout p pre = without-before bs homes pre b (mid ++ c ∷ post) p at parts hp in
      let begun : from_point (Entry p) (flat_map block_points bs) ≡ from_point (Entry p) (block_points b) ++ rest =
      ap (from_point (Entry p)) whole ∙ (from-past (Entry p) (flat_map block_points pre) (block_points b ++ rest) (without-entry p pre before) ∙ from-in (Entry p) (block_points b) rest pin) in
      let away : AreWithout q (pre ++ b ∷ mid) = without-before bs homes (pre ++ b ∷ mid) c post q at (parts ∙ sym (append_assoc pre (b ∷ mid) (c ∷ post))) hq in
      let lacks_b : Lacks (Exit q) (block_points b) = λ m. true≢false (sym (exit-has q b m) ∙ away b (among-right b pre (b ∷ mid) here)) in
      let lacks_mid : Lacks (Exit q) between = without-exit q mid (λ d m. away d (among-right d pre (b ∷ mid) (there m))) in
      let ended : to_point (Exit q) (from_point (Entry p) (flat_map block_points bs)) ≡ from_point (Entry p) (block_points b) ++ (between ++ to_point (Exit q) (block_points c)) =
      ap (to_point (Exit q)) begun
      ∙ (to-past (Exit q) (from_point (Entry p) (block_points b)) rest (lacks-rest (Entry p) (Exit q) (block_points b) lacks_b)
      ∙ ap (λ ps. from_point (Entry p) (block_points b) ++ ps) (to-past (Exit q) between (block_points c ++ later) lacks_mid ∙ ap (λ ps. between ++ ps) (to-in (Exit q) (block_points c) later qin))) in
      let first : points_between slots (entry_rank slots p) 340282366920938463463374607431768211455 b ≡ from_point (Entry p) (block_points b) =
      filter-left (λ x. nat_le (entry_rank slots p) (rank_of slots x)) (λ x. nat_le (rank_of slots x) 340282366920938463463374607431768211455) (block_points b) (λ x m. le-leb (rank_of slots x) 340282366920938463463374607431768211455 (rank-small slots b x rb m))
      ∙ from-ranked (rank_of slots) 0 (block_points b) (Entry p) (block-ranked slots b rb) pin in
      let second : points_between slots 0 (exit_rank slots q) c ≡ to_point (Exit q) (block_points c) =
      filter-right (λ x. nat_le 0 (rank_of slots x)) (λ x. nat_le (rank_of slots x) (exit_rank slots q)) (block_points c) (λ x m. le-leb 0 (rank_of slots x) (omega arith))
      ∙ to-ranked (rank_of slots) 0 (block_points c) (Exit q) (block-ranked slots c rc) qin in
      ap (λ ps. list_all g ps && list_all g (points_between slots 0 (exit_rank slots q) c)) first
      ∙ (ap (λ ps. list_all g (from_point (Entry p) (block_points b)) && list_all g ps) second
      ∙ sym (ap (list_all g) ended
      ∙ (list_all-append g (from_point (Entry p) (block_points b)) (between ++ to_point (Exit q) (block_points c))
      ∙ ap (λ u. list_all g (from_point (Entry p) (block_points b)) && u) (list_all-append g between (to_point (Exit q) (block_points c)) ∙ ap (λ u. u && list_all g (to_point (Exit q) (block_points c))) passed))))
