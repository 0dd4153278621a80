-- Touched places: those of the blocks one after the other are those that instructions belong to.
use Rattle.std.proofs.Common.{◌≡◌, ◌∙◌, ℕ, zero, suc, ◌+◌, ◌-◌, ◌<◌, List, [], ◌∷◌, ◌++◌, Bool, true, false, cond, refl, sym, ap, length, arith, map, append_assoc, append-nil, Option, None, Some}
use Rattle.std.specs.Prelude.{◌&&◌, filter, flat_map, not, nat_eq, nat_lt, slice_get, slice_index, fold, unwrap_or}
use Rattle.std.specs.List.{list_all, list_any}
use Rattle.std.proofs.lemmas.Bool.{and_parts, and_from, and_right, not_from_false, not-true, ne_eqb, eq-eqb, ltb-true, lt-ltb}
use Rattle.std.proofs.lemmas.List.Elements.{filter-append}
use Rattle.std.proofs.lemmas.List.Folds.{list_all-append}
use Rattle.std.proofs.lemmas.List.Sums.{fold-append}
use Rattle.std.proofs.lemmas.List.{map-append}
use Rattle.target_base.specs.declared.types.Target.{Target}
use Rattle.mir_func.specs.declared.func.Instr.{Instr}
use Rattle.mir_func.specs.declared.func.Block.{Block}
use Rattle.mir_func.specs.Value.{Function}
use Rattle.mir_func.specs.Edits.{block_place}
use Rattle.mir_func.specs.Binding.{does, is_terminator}
use Rattle.mir_meaning.specs.Points.{touches}
use Rattle.live_lanes.specs.declared.table.Table.{Table}
use Rattle.mir_meaning.specs.Paths.{has}
use Rattle.live_lanes.specs.Ordered.{ids_of}
use Rattle.live_lanes.specs.Touching.{FindsInstrs}
use Rattle.split_choose.specs.declared.places.TouchedPlace.{TouchedPlace}
use Rattle.split_choose.specs.Seen.{ends_in_terminators}
use Rattle.split_choose.specs.Offers.{View, first_id, last_id, touching, terminators, end_place}
use Rattle.split_choose.specs.Places.{placed, single, ending, place_in, ends_at, is_ended_at, joined, end_places, block_places, places_from, Site, IsSite, site_id, sites_from, place_at}
use Rattle.split_choose.proofs.Ends.{filter_every}

-- the instructions of a block are those before its terminators, and these

pub parts-of : (t : Target) (is : List Instr) → ends_in_terminators t is ≡ true → is ≡ filter (λ i. not (does is_terminator t i)) is ++ filter (does is_terminator t) is
parts-of t [] h = refl
parts-of t (i ∷ is) h = go (parts-of t is) (does is_terminator t i) refl
  where
    none-left : (js : List Instr) → list_all (does is_terminator t) js ≡ true → filter (λ j. not (does is_terminator t j)) js ≡ []
    none-left [] a = refl
    none-left (j ∷ js) a = let p = and_parts (does is_terminator t j) (list_all (does is_terminator t) js) a in rw p.0 (none-left js p.1)

    go : (ends_in_terminators t is ≡ true → is ≡ filter (λ j. not (does is_terminator t j)) is ++ filter (does is_terminator t) is) → (b : Bool) → does is_terminator t i ≡ b
        → i ∷ is ≡ filter (λ j. not (does is_terminator t j)) (i ∷ is) ++ filter (does is_terminator t) (i ∷ is)
    go ih true e =
        let a : list_all (does is_terminator t) is ≡ true = sym (ap (λ b. cond b (list_all (does is_terminator t) is) (ends_in_terminators t is)) e) ∙ h in
        rw (e, none-left is a, filter_every (does is_terminator t) is a) refl
    go ih false e =
        let a : ends_in_terminators t is ≡ true = sym (ap (λ b. cond b (list_all (does is_terminator t) is) (ends_in_terminators t is)) e) ∙ h in
        rw e (ap (λ js. i ∷ js) (ih a))

-- those that touch the range and aren't terminators
pub touching-before : (t : Target) (v : ℕ) (is : List Instr) → filter (touches v) (filter (λ i. not (does is_terminator t i)) is) ≡ filter (λ i. touches v i && not (does is_terminator t i)) is
touching-before t v [] = refl
touching-before t v (i ∷ is) = go (touching-before t v is) (does is_terminator t i) (touches v i) refl refl
  where
    go : filter (touches v) (filter (λ j. not (does is_terminator t j)) is) ≡ filter (λ j. touches v j && not (does is_terminator t j)) is → (b c : Bool) → does is_terminator t i ≡ b → touches v i ≡ c
        → filter (touches v) (filter (λ j. not (does is_terminator t j)) (i ∷ is)) ≡ filter (λ j. touches v j && not (does is_terminator t j)) (i ∷ is)
    go ih true true e f = rw (e, f) ih
    go ih true false e f = rw (e, f) ih
    go ih false true e f = rw (e, f) (ap (λ js. i ∷ js) ih)
    go ih false false e f = rw (e, f) ih

-- each is a place of its own
singles : (t : Target) (k : ℕ) (among is : List Instr) (p : Instr → Bool) → map (place_in t k among) (filter p (filter (λ i. not (does is_terminator t i)) is)) ≡ map (single k) (filter p (filter (λ i. not (does is_terminator t i)) is))
singles t k among [] p = refl
singles t k among (i ∷ is) p = go (singles t k among is p) (does is_terminator t i) (p i) refl refl
  where
    go : map (place_in t k among) (filter p (filter (λ j. not (does is_terminator t j)) is)) ≡ map (single k) (filter p (filter (λ j. not (does is_terminator t j)) is)) → (b c : Bool) → does is_terminator t i ≡ b → p i ≡ c
        → map (place_in t k among) (filter p (filter (λ j. not (does is_terminator t j)) (i ∷ is))) ≡ map (single k) (filter p (filter (λ j. not (does is_terminator t j)) (i ∷ is)))
    go ih true c e f = rw e ih
    go ih false true e f = rw (e, f, e) (ap (λ ps. single k i ∷ ps) ih)
    go ih false false e f = rw (e, f) ih

-- the terminators are one place

last-behind : (id : ℕ) (is : List Instr) (i : Instr) (js : List Instr) → last_id id (is ++ i ∷ js) ≡ last_id i.id js
last-behind id [] i js = refl
last-behind id (h ∷ is) i js = last-behind h.id is i js

-- the places of several terminators of the block
same-ends : (t : Target) (k : ℕ) (among is : List Instr) (e : TouchedPlace) (p : Instr → Bool) → list_all (does is_terminator t) is ≡ true → ((i : Instr) → ending t k among i ≡ e)
    → map (place_in t k among) (filter p is) ≡ map (λ _. e) (filter p is)
same-ends t k among [] e p h same = refl
same-ends t k among (i ∷ is) e p h same = go (same-ends t k among is e p (and_parts (does is_terminator t i) (list_all (does is_terminator t) is) h).1 same) (p i) refl
  where
    here : place_in t k among i ≡ e
    here = rw (and_parts (does is_terminator t i) (list_all (does is_terminator t) is) h).0 (same i)

    go : map (place_in t k among) (filter p is) ≡ map (λ _. e) (filter p is) → (b : Bool) → p i ≡ b → map (place_in t k among) (filter p (i ∷ is)) ≡ map (λ _. e) (filter p (i ∷ is))
    go ih true f = rw (f, here) (ap (λ ps. e ∷ ps) ih)
    go ih false f = rw f ih

-- joining

add-singles : (k : ℕ) (is : List Instr) (made : List TouchedPlace) → fold joined made (map (single k) is) ≡ made ++ map (single k) is
add-singles k [] made = sym (append-nil made)
add-singles k (i ∷ is) made = add-singles k is (made ++ single k i ∷ []) ∙ append_assoc made (single k i ∷ []) (map (single k) is)

last-of : {X : Type 0} (xs : List X) (x : X) → slice_get (xs ++ x ∷ []) (length (xs ++ x ∷ []) - 1) ≡ Some x
last-of [] x = refl
last-of (y ∷ []) x = refl
last-of (y ∷ z ∷ xs) x =
    let n : suc (suc (length (xs ++ x ∷ []))) - 1 ≡ suc (suc (length (xs ++ x ∷ [])) - 1) = omega arith in
    ap (slice_get (y ∷ z ∷ (xs ++ x ∷ []))) n ∙ last-of (z ∷ xs) x

joined-again : (e : TouchedPlace) (made : List TouchedPlace) → e.is_end ≡ true → is_ended_at e.position made ≡ true → joined made e ≡ made
joined-again e made h ended = rw (h, ended) refl

add-again : (e : TouchedPlace) (is : List Instr) (made : List TouchedPlace) → e.is_end ≡ true → is_ended_at e.position made ≡ true → fold joined made (map (λ _. e) is) ≡ made
add-again e [] made h ended = refl
add-again e (i ∷ is) made h ended = ap (λ m. fold joined m (map (λ _. e) is)) (joined-again e made h ended) ∙ add-again e is made h ended

joined-new : (e : TouchedPlace) (made : List TouchedPlace) → is_ended_at e.position made ≡ false → joined made e ≡ made ++ e ∷ []
joined-new e made fresh = go e.is_end refl
  where
    go : (b : Bool) → e.is_end ≡ b → joined made e ≡ made ++ e ∷ []
    go true h = rw (h, fresh) refl
    go false h = rw h refl

ended-now : (e : TouchedPlace) (made : List TouchedPlace) → e.is_end ≡ true → is_ended_at e.position (made ++ e ∷ []) ≡ true
ended-now e made h = ap (ends_at e.position) (last-of made e) ∙ (rw h (eq-eqb e.position e.position refl))

add-ends : (e : TouchedPlace) (is : List Instr) (made : List TouchedPlace) → e.is_end ≡ true → is_ended_at e.position made ≡ false → fold joined made (map (λ _. e) is) ≡ made ++ elim is [ [] ↦ [] | i ∷ js ↦ e ∷ [] ]
add-ends e [] made h fresh = sym (append-nil made)
add-ends e (i ∷ is) made h fresh = ap (λ m. fold joined m (map (λ _. e) is)) (joined-new e made fresh) ∙ add-again e is (made ++ e ∷ []) h (ended-now e made h)

-- no place of the block's terminators is among those

abbrev ends-not : ℕ → TouchedPlace → Bool
ends-not k p = not (p.is_end && nat_eq p.position k)

last-passes : (f : TouchedPlace → Bool) (xs : List TouchedPlace) (p : TouchedPlace) → slice_get xs (length xs - 1) ≡ Some p → list_all f xs ≡ true → f p ≡ true
last-passes f [] p e a = cc
last-passes f (x ∷ []) p e a = let q : x ≡ p = cc in ap f (sym q) ∙ (and_parts (f x) true a).0
last-passes f (x ∷ y ∷ xs) p e a =
    let n : suc (suc (length xs)) - 1 ≡ suc (suc (length xs) - 1) = omega arith in
    last-passes f (y ∷ xs) p (sym (ap (slice_get (x ∷ y ∷ xs)) n) ∙ e) (and_parts (f x) (list_all f (y ∷ xs)) a).1

not-ended : (k : ℕ) (ps : List TouchedPlace) → list_all (ends-not k) ps ≡ true → is_ended_at k ps ≡ false
not-ended k ps a = go (slice_get ps (length ps - 1)) refl
  where
    go : (o : Option TouchedPlace) → slice_get ps (length ps - 1) ≡ o → ends_at k o ≡ false
    go None e = refl
    go (Some p) e = not-true (p.is_end && nat_eq p.position k) (last-passes (ends-not k) ps p e a)

singles-end-not : (k : ℕ) (is : List Instr) → list_all (ends-not k) (map (single k) is) ≡ true
singles-end-not k [] = refl
singles-end-not k (i ∷ is) = singles-end-not k is

-- places before a position
abbrev before : ℕ → List TouchedPlace → Bool
before k ps = list_all (λ p. nat_lt p.position k) ps

end-before : (k : ℕ) (ps : List TouchedPlace) → before k ps ≡ true → list_all (ends-not k) ps ≡ true
end-before k [] h = refl
end-before k (p ∷ ps) h =
    let q = and_parts (nat_lt p.position k) (before k ps) h in
    let lt : p.position < k = ltb-true p.position k q.0 in
    and_from (ends-not k p) (list_all (ends-not k) ps) (not_from_false (p.is_end && nat_eq p.position k) (and_right p.is_end (nat_eq p.position k) (ne_eqb p.position k (λ e. absurd (omega arith))))) (end-before k ps q.1)

-- the places of a block

by-any : {X Y : Type 0} (f : X → Bool) (xs : List X) (ys : List Y) → elim (filter f xs) [ [] ↦ [] | i ∷ js ↦ ys ] ≡ cond (list_any f xs) ys []
by-any f [] ys = refl
by-any {X} {Y} f (x ∷ xs) ys = go (by-any f xs ys) (f x) refl
  where
    go : elim (filter f xs) [ [] ↦ [] | i ∷ js ↦ ys ] ≡ cond (list_any f xs) ys [] → (b : Bool) → f x ≡ b → elim (filter f (x ∷ xs)) [ [] ↦ [] | i ∷ js ↦ ys ] ≡ cond (list_any f (x ∷ xs)) ys []
    go ih true e = rw e refl
    go ih false e = rw e ih

every-filter : {X : Type 0} (f : X → Bool) (xs : List X) → list_all f (filter f xs) ≡ true
every-filter f [] = refl
every-filter f (x ∷ xs) = go (every-filter f xs) (f x) refl
  where
    go : list_all f (filter f xs) ≡ true → (b : Bool) → f x ≡ b → list_all f (filter f (x ∷ xs)) ≡ true
    go ih true e = rw (e, e) ih
    go ih false e = rw e ih

module _ (t : Target) (v k : ℕ) (is : List Instr) (ended : ends_in_terminators t is ≡ true) where
  ends-join : (made : List TouchedPlace) → list_all (ends-not k) made ≡ true → (ends : List Instr) → filter (does is_terminator t) is ≡ ends
      → fold joined made (map (place_in t k is) (filter (touches v) ends)) ≡ made ++ end_places v k ends
  ends-join made fresh [] e = sym (append-nil made)
  ends-join made fresh (c ∷ cs) e =
      ap (fold joined made) (same-ends t k is (c ∷ cs) whole (touches v) (sym (ap (list_all (does is_terminator t)) e) ∙ every-filter (does is_terminator t) is) same)
      ∙ add-ends whole (filter (touches v) (c ∷ cs)) made refl (not-ended k made fresh)
      ∙ ap (λ ps. made ++ ps) (by-any (touches v) (c ∷ cs) (whole ∷ []))
    where
      whole : TouchedPlace
      whole = record { position = k; first = c.id; last = last_id c.id cs; is_end = true }

      same : (i : Instr) → ending t k is i ≡ whole
      same i =
          let parts : is ≡ filter (λ h. not (does is_terminator t h)) is ++ (c ∷ cs) = parts-of t is ended ∙ ap (λ js. filter (λ h. not (does is_terminator t h)) is ++ js) e in
          let at-last : last_id i.id is ≡ last_id c.id cs = ap (last_id i.id) parts ∙ last-behind i.id (filter (λ h. not (does is_terminator t h)) is) c cs in
          let at-first : unwrap_or (first_id (filter (does is_terminator t) is)) i.id ≡ c.id = ap (λ js. unwrap_or (first_id js) i.id) e in
          rw (at-first, at-last) refl

  pub block-joins : (made : List TouchedPlace) → list_all (ends-not k) made ≡ true → fold joined made (map (place_in t k is) (filter (touches v) is)) ≡ made ++ block_places t v k is
  block-joins made fresh =
      ap (fold joined made) (ap (map (place_in t k is)) parted ∙ map-append (place_in t k is) (filter (touches v) head) (filter (touches v) (filter (does is_terminator t) is)))
      ∙ (fold-append joined made (map (place_in t k is) (filter (touches v) head)) (map (place_in t k is) (filter (touches v) (filter (does is_terminator t) is)))
      ∙ (ap (λ m. fold joined m (map (place_in t k is) (filter (touches v) (filter (does is_terminator t) is)))) begun
      ∙ (ends-join (made ++ map (single k) touched) still-fresh (filter (does is_terminator t) is) refl
      ∙ append_assoc made (map (single k) touched) (end_places v k (filter (does is_terminator t) is)))))
    where
      head : List Instr
      head = filter (λ h. not (does is_terminator t h)) is

      touched : List Instr
      touched = filter (λ h. touches v h && not (does is_terminator t h)) is

      parted : filter (touches v) is ≡ filter (touches v) head ++ filter (touches v) (filter (does is_terminator t) is)
      parted = ap (filter (touches v)) (parts-of t is ended) ∙ filter-append (touches v) head (filter (does is_terminator t) is)

      begun : fold joined made (map (place_in t k is) (filter (touches v) head)) ≡ made ++ map (single k) touched
      begun = ap (fold joined made) (singles t k is is (touches v) ∙ ap (map (single k)) (touching-before t v is)) ∙ add-singles k touched made

      still-fresh : list_all (ends-not k) (made ++ map (single k) touched) ≡ true
      still-fresh = list_all-append (ends-not k) made (map (single k) touched) ∙ and_from (list_all (ends-not k) made) (list_all (ends-not k) (map (single k) touched)) fresh (singles-end-not k touched)

-- those of several blocks

before-more : (k : ℕ) (ps : List TouchedPlace) → before k ps ≡ true → before (suc k) ps ≡ true
before-more k [] h = refl
before-more k (p ∷ ps) h =
    let q = and_parts (nat_lt p.position k) (before k ps) h in
    let lt : p.position < k = ltb-true p.position k q.0 in
    and_from (nat_lt p.position (suc k)) (before (suc k) ps) (lt-ltb p.position (suc k) (omega arith)) (before-more k ps q.1)

singles-before : (k : ℕ) (is : List Instr) → before (suc k) (map (single k) is) ≡ true
singles-before k [] = refl
singles-before k (i ∷ is) = and_from (nat_lt k (suc k)) (before (suc k) (map (single k) is)) (lt-ltb k (suc k) (omega arith)) (singles-before k is)

end-is-before : (v k : ℕ) (is : List Instr) → before (suc k) (end_places v k is) ≡ true
end-is-before v k [] = refl
end-is-before v k (i ∷ is) = go (list_any (touches v) (i ∷ is)) refl
  where
    go : (b : Bool) → list_any (touches v) (i ∷ is) ≡ b → before (suc k) (end_places v k (i ∷ is)) ≡ true
    go true e = rw e (and_from (nat_lt k (suc k)) true (lt-ltb k (suc k) (omega arith)) refl)
    go false e = rw e refl

block-before : (t : Target) (v k : ℕ) (is : List Instr) → before (suc k) (block_places t v k is) ≡ true
block-before t v k is =
    let touched = filter (λ (h : Instr). touches v h && not (does is_terminator t h)) is in
    list_all-append (λ p. nat_lt p.position (suc k)) (map (single k) touched) (end_places v k (filter (does is_terminator t) is))
    ∙ and_from (before (suc k) (map (single k) touched)) (before (suc k) (end_places v k (filter (does is_terminator t) is))) (singles-before k touched) (end-is-before v k (filter (does is_terminator t) is))

sited : (t : Target) (k : ℕ) (among is : List Instr) → map (place_at t) (map (λ i. record { position = k; among = among; instr = i }) is) ≡ map (place_in t k among) is
sited t k among [] = refl
sited t k among (i ∷ is) = ap (λ ps. place_in t k among i ∷ ps) (sited t k among is)

pub blocks-join : (t : Target) (v k : ℕ) (bs : List Block) (made : List TouchedPlace) → list_all (λ b. ends_in_terminators t b.instrs) bs ≡ true → before k made ≡ true
    → fold joined made (map (place_at t) (sites_from v k bs)) ≡ made ++ places_from t v k bs
blocks-join t v k [] made ended h = sym (append-nil made)
blocks-join t v k (b ∷ bs) made ended h =
    let here = filter (touches v) b.instrs in
    let ends = and_parts (ends_in_terminators t b.instrs) (list_all (λ (c : Block). ends_in_terminators t c.instrs) bs) ended in
    let first = map (place_in t k b.instrs) here in
    let rest = map (place_at t) (sites_from v (suc k) bs) in
    let split : map (place_at t) (sites_from v k (b ∷ bs)) ≡ first ++ rest =
    map-append (place_at t) (map (λ i. record { position = k; among = b.instrs; instr = i }) here) (sites_from v (suc k) bs) ∙ ap (λ ps. ps ++ rest) (sited t k b.instrs here) in
    let next : before (suc k) (made ++ block_places t v k b.instrs) ≡ true =
    list_all-append (λ (p : TouchedPlace). nat_lt p.position (suc k)) made (block_places t v k b.instrs) ∙ and_from (before (suc k) made) (before (suc k) (block_places t v k b.instrs)) (before-more k made h) (block-before t v k b.instrs) in
    ap (fold joined made) split
    ∙ (fold-append joined made first rest
    ∙ (ap (λ m. fold joined m rest) (block-joins t v k b.instrs ends.0 made (end-before k made h))
    ∙ (blocks-join t v (suc k) bs (made ++ block_places t v k b.instrs) ends.1 next
    ∙ append_assoc made (block_places t v k b.instrs) (places_from t v (suc k) bs))))

-- with the positions of blocks in place of their numbers

module _ (t : Target) (f : Function) (v : ℕ) (view : View) (bs : List Block) where
  singles-placed : (b : Block) (k : ℕ) (is : List Instr) → block_place b.number bs ≡ k → map (single k) is ≡ map (placed bs) (map (λ i. record { block = b.number; first = i.id; last = i.id; is_end = false }) is)
  singles-placed b k [] e = refl
  singles-placed b k (i ∷ is) e = rw e (ap (λ ps. single k i ∷ ps) (singles-placed b k is e))

  end-placed : (b : Block) (k : ℕ) (is : List Instr) → block_place b.number bs ≡ k → end_places v k is ≡ map (placed bs) (end_place t f v view b is)
  end-placed b k [] e = refl
  end-placed b k (i ∷ is) e = go (list_any (touches v) (i ∷ is)) refl
    where
      go : (c : Bool) → list_any (touches v) (i ∷ is) ≡ c → end_places v k (i ∷ is) ≡ map (placed bs) (end_place t f v view b (i ∷ is))
      go true h = rw (h, e) refl
      go false h = rw h refl

  pub blocks-placed : (k : ℕ) (cs : List Block) → ((j : ℕ) (b : Block) → slice_get cs j ≡ Some b → block_place b.number bs ≡ k + j)
      → places_from t v k cs ≡ map (placed bs) (flat_map (λ b. map (λ i. record { block = b.number; first = i.id; last = i.id; is_end = false }) (touching t f v view b) ++ end_place t f v view b (terminators t f v view b)) cs)
  blocks-placed k [] at = refl
  blocks-placed k (b ∷ cs) at =
      let here : block_place b.number bs ≡ k = at 0 b refl ∙ omega arith in
      let ones = map (λ (i : Instr). record { block = b.number; first = i.id; last = i.id; is_end = false }) (touching t f v view b) in
      let ends = end_place t f v view b (terminators t f v view b) in
      let rest = flat_map (λ (c : Block). map (λ (i : Instr). record { block = c.number; first = i.id; last = i.id; is_end = false }) (touching t f v view c) ++ end_place t f v view c (terminators t f v view c)) cs in
      let ih = blocks-placed (suc k) cs (λ j c e. at (suc j) c e ∙ omega arith) in
      let one = singles-placed b k (touching t f v view b) here in
      let two = end-placed b k (terminators t f v view b) here in
      let parts : map (placed bs) ((ones ++ ends) ++ rest) ≡ (map (placed bs) ones ++ map (placed bs) ends) ++ map (placed bs) rest =
      map-append (placed bs) (ones ++ ends) rest ∙ ap (λ ps. ps ++ map (placed bs) rest) (map-append (placed bs) ones ends) in
      ap (λ ps. (ps ++ end_places v k (filter (does is_terminator t) b.instrs)) ++ places_from t v (suc k) cs) one
      ∙ (ap (λ ps. (map (placed bs) ones ++ ps) ++ places_from t v (suc k) cs) two
      ∙ (ap (λ ps. (map (placed bs) ones ++ map (placed bs) ends) ++ ps) ih ∙ sym parts))

-- where instructions are found

pub has-at : (is : List Instr) (j : ℕ) (i : Instr) → slice_get is j ≡ Some i → has i.id (ids_of is) ≡ true
has-at [] j i e = cc
has-at (h ∷ is) zero i e = let q : h ≡ i = cc in let same : nat_eq h.id i.id ≡ true = eq-eqb h.id i.id (ap (λ (x : Instr). x.id) q) in rw same refl
has-at (h ∷ is) (suc j) i e = go (nat_eq h.id i.id) refl (has-at is j i e)
  where
    go : (b : Bool) → nat_eq h.id i.id ≡ b → has i.id (ids_of is) ≡ true → has i.id (ids_of (h ∷ is)) ≡ true
    go true f ih = rw f refl
    go false f ih = rw f ih

module _ (t : Target) (x : Table) (bs : List Block) (s : Site) (finds : FindsInstrs x bs) (site : IsSite t bs s) where
  pub home-of : (id : ℕ) → site_id s ≡ id → slice_index x.order.block_of.items id ≡ s.position
  home-of id e = ap (slice_index x.order.block_of.items) (sym e) ∙ finds.homes s.position site.block s.instr.id site.found (ap (λ is. has s.instr.id (ids_of is)) site.same ∙ has-at s.among site.place s.instr site.stands)

  pub stands-there : slice_get site.block.instrs site.place ≡ Some s.instr
  stands-there = ap (λ is. slice_get is site.place) site.same ∙ site.stands

pub alone : (t : Target) (s : Site) (k id : ℕ) → does is_terminator t s.instr ≡ false → k ≡ s.position → site_id s ≡ id → Some (record { position = k; first = id; last = id; is_end = false }) ≡ Some (place_at t s)
alone t s k id not-term at named = rw (not-term, at, ← named) refl

pub among-ends : (t : Target) (s : Site) → does is_terminator t s.instr ≡ true → ending t s.position s.among s.instr ≡ place_at t s
among-ends t s term = rw term refl
