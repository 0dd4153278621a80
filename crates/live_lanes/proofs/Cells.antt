-- Finding, putting and changing cells of a row.
use Rattle.std.proofs.Common.{◌≡◌, ◌≢◌, ◌<◌, ◌≤◌, ℕ, zero, suc, Bool, true, false, cond, ◌&&◌, eqb, ltb, length, List, [], ◌∷◌, ◌⊎◌, Option, None, Some, refl, sym, ap, ◌∙◌, subst, inl, inr, arith, get_or, set, eq-eqb, eqb-true}
use Rattle.std.specs.Prelude.{slice_get, nat_eq, is_some}
use Rattle.std.specs.List.{insert, AllWithin}
use Rattle.std.proofs.lemmas.Bool.Decides.{eqb_tells}
use Rattle.std.proofs.lemmas.Bool.{ltb-true, ltb-false, lt-ltb, false≢true}
use Rattle.std.specs.List.Sorted.{IsPartitionedBy}
use Rattle.std.proofs.lemmas.Option.{slice_get-get_or, slice_get_cases}
use Rattle.live_lanes.specs.declared.row.Cell.{Cell}
use Rattle.live_lanes.specs.Table.{leading, find_cell, cell_room, is_before, is_below, descends, Seen, seen, seen_in, seen_cell, unseen}

-- where a search by halves ends, so many elements pass the test
pub partition-leading : {X : Type 0} (test : X → Bool) (xs : List X) (i : ℕ) → i ≤ length xs → AllWithin (λ y. test y ≡ true) xs 0 i → AllWithin (λ y. test y ≡ false) xs i (length xs) → i ≡ leading test xs
partition-leading test [] i w p q = omega arith
partition-leading test (x ∷ xs) zero w p q = sym (ap (λ b. cond b (suc (leading test xs)) 0) (q 0 x (omega arith) (omega arith)))
partition-leading test (x ∷ xs) (suc i) w p q =
    let ih = partition-leading test xs i (omega arith) (λ k d l h. p (suc k) d (omega arith) (omega arith)) (λ k d l h. q (suc k) d (omega arith) (omega arith)) in
    let first = p 0 x (omega arith) (omega arith) in
    ap suc ih ∙ sym (ap (λ b. cond b (suc (leading test xs)) 0) first)

pub both-left : (a b : Bool) → (a && b) ≡ true → a ≡ true
both-left true b e = refl
both-left false b e = absurd (cc)

pub both-right : (a b : Bool) → (a && b) ≡ true → b ≡ true
both-right true b e = e
both-right false b e = absurd (cc)

pub both : (a b : Bool) → a ≡ true → b ≡ true → (a && b) ≡ true
both true b e f = f
both false b e f = absurd (cc)

-- no cell of a block stands behind one of a lower block
pub below-none : (n b : ℕ) (cs : List Cell) → is_below n cs ≡ true → descends cs ≡ true → n ≤ b → find_cell b cs ≡ None
below-none n b [] h d w = refl
below-none n b (c ∷ cs) h d w =
    let low : c.block < n = ltb-true c.block n h in
    let ih = below-none c.block b cs (both-left (is_below c.block cs) (descends cs) d) (both-right (is_below c.block cs) (descends cs) d) (omega arith) in
    go (eqb_tells c.block b) low ih
  where
    go : ((eqb c.block b ≡ true) × (c.block ≡ b)) ⊎ ((eqb c.block b ≡ false) × (c.block ≢ b)) → c.block < n → find_cell b cs ≡ None → find_cell b (c ∷ cs) ≡ None
    go (inl x) low ih = absurd (let e = x.1 in omega arith)
    go (inr x) low ih = ap (λ t. cond t (Some c) (find_cell b cs)) x.0 ∙ ih

-- the cell at the place where a search ends, if it is one of the block
abbrev pub of_block : ℕ → Option Cell → Option Cell
of_block b None = None
of_block b (Some c) = cond (nat_eq c.block b) (Some c) None

past : (b : ℕ) (c : Cell) (cs : List Cell) → descends (c ∷ cs) ≡ true → c.block < b → find_cell b cs ≡ None
past b c cs d h = below-none c.block b cs (both-left (is_below c.block cs) (descends cs) d) (both-right (is_below c.block cs) (descends cs) d) (omega arith)

pub found-at : (b : ℕ) (cs : List Cell) → descends cs ≡ true → find_cell b cs ≡ of_block b (slice_get cs (leading (is_before b) cs))
found-at b [] d = refl
found-at b (c ∷ cs) d = go (eqb_tells c.block b) (ltb b c.block) refl (found-at b cs (both-right (is_below c.block cs) (descends cs) d)) (past b c cs d)
  where
    at : (t : Bool) → ltb b c.block ≡ t → of_block b (slice_get (c ∷ cs) (leading (is_before b) (c ∷ cs))) ≡ of_block b (slice_get (c ∷ cs) (cond t (suc (leading (is_before b) cs)) 0))
    at t f = ap (λ x. of_block b (slice_get (c ∷ cs) (cond x (suc (leading (is_before b) cs)) 0))) f

    go : ((eqb c.block b ≡ true) × (c.block ≡ b)) ⊎ ((eqb c.block b ≡ false) × (c.block ≢ b)) → (t : Bool) → ltb b c.block ≡ t → find_cell b cs ≡ of_block b (slice_get cs (leading (is_before b) cs)) → (c.block < b → find_cell b cs ≡ None) → find_cell b (c ∷ cs) ≡ of_block b (slice_get (c ∷ cs) (leading (is_before b) (c ∷ cs)))
    go (inl x) true f ih none = absurd (let h = ltb-true b c.block f in let e = x.1 in omega arith)
    go (inl x) false f ih none = ap (λ t. cond t (Some c) (find_cell b cs)) x.0 ∙ sym (at false f ∙ ap (λ t. cond t (Some c) None) x.0)
    go (inr x) true f ih none = ap (λ t. cond t (Some c) (find_cell b cs)) x.0 ∙ ih ∙ sym (at true f)
    go (inr x) false f ih none =
        let h : b ≤ c.block → ⊥ = λ w. not-lower w f x.1 in
        ap (λ t. cond t (Some c) (find_cell b cs)) x.0 ∙ none (omega (arith, h)) ∙ sym (at false f ∙ ap (λ t. cond t (Some c) None) x.0)
      where
        not-lower : b ≤ c.block → ltb b c.block ≡ false → c.block ≢ b → ⊥
        not-lower w g ne = let y = ltb-false b c.block g in ne (omega arith)

-- the blocks of cells fall
pub fall-le : (cs : List Cell) (i j : ℕ) (d : Cell) → descends cs ≡ true → i ≤ j → j < length cs → (get_or cs j d).block ≤ (get_or cs i d).block
fall-le [] i j d s w h = absurd (omega arith)
fall-le (c ∷ cs) zero zero d s w h = omega arith
fall-le (c ∷ cs) zero (suc j) d s w h = go cs (both-left (is_below c.block cs) (descends cs) s) (fall-le cs 0 j d (both-right (is_below c.block cs) (descends cs) s) (omega arith) (omega arith)) (omega arith)
  where
    go : (cs : List Cell) → is_below c.block cs ≡ true → (get_or cs j d).block ≤ (get_or cs 0 d).block → j < length cs → (get_or cs j d).block ≤ c.block
    go [] b ih l = absurd (omega arith)
    go (x ∷ xs) b ih l = let h = ltb-true x.block c.block b in omega arith
fall-le (c ∷ cs) (suc i) zero d s w h = absurd (omega arith)
fall-le (c ∷ cs) (suc i) (suc j) d s w h = fall-le cs i j d (both-right (is_below c.block cs) (descends cs) s) (omega arith) (omega arith)

pub parted : (b : ℕ) (cs : List Cell) → descends cs ≡ true → IsPartitionedBy (is_before b) cs
parted b cs s i j d w h e = lt-ltb b (get_or cs i d).block (let x = ltb-true b (get_or cs j d).block e in let y = fall-le cs i j d s w h in omega arith)

-- where the search ends at a cell of the block, that is the block's
pub here-there : (b : ℕ) (cs : List Cell) (at : ℕ) (d : Cell) → descends cs ≡ true → at ≡ leading (is_before b) cs → at < length cs → (get_or cs at d).block ≡ b → slice_get cs at ≡ find_cell b cs
here-there b cs at d s e h same = sym (found-at b cs s ∙ ap (λ k. of_block b (slice_get cs k)) (sym e) ∙ there (slice_get cs at) (slice_get-get_or cs at d h))
  where
    there : (o : Option Cell) → o ≡ Some (get_or cs at d) → of_block b o ≡ o
    there None f = refl
    there (Some x) f =
        let y : x ≡ get_or cs at d = cc in
        ap (λ t. cond t (Some x) None) (eq-eqb x.block b (ap (λ z. z.block) y ∙ same))

pub not-here : (b : ℕ) (cs : List Cell) (at : ℕ) → descends cs ≡ true → at ≡ leading (is_before b) cs → ((d : Cell) → at < length cs → (get_or cs at d).block ≢ b) → find_cell b cs ≡ None
not-here b cs at s e ne = found-at b cs s ∙ ap (λ k. of_block b (slice_get cs k)) (sym e) ∙ go (slice_get_cases cs at).1
  where
    go : ((x : Cell) × (at < length cs) × (slice_get cs at ≡ Some x) × (get_or cs at x ≡ x)) ⊎ ((length cs ≤ at) × (slice_get cs at ≡ None)) → of_block b (slice_get cs at) ≡ None
    go (inl z) = ap (of_block b) z.2 ∙ ap (λ t. cond t (Some z.0) None) (other (eqb_tells z.0.block b))
      where
        other : ((eqb z.0.block b ≡ true) × (z.0.block ≡ b)) ⊎ ((eqb z.0.block b ≡ false) × (z.0.block ≢ b)) → nat_eq z.0.block b ≡ false
        other (inl y) = absurd (ne z.0 z.1 (ap (λ c. c.block) z.3 ∙ y.1))
        other (inr y) = y.0
    go (inr z) = ap (of_block b) z.1

below-insert : (n b : ℕ) (cs : List Cell) (x : Cell) → x.block ≡ b → b < n → is_below n cs ≡ true → is_below n (insert cs (leading (is_before b) cs) x) ≡ true
below-insert n b [] x e h f = lt-ltb x.block n (omega arith)
below-insert n b (c ∷ cs) x e h f = go (ltb b c.block)
  where
    go : (t : Bool) → is_below n (insert (c ∷ cs) (cond t (suc (leading (is_before b) cs)) 0) x) ≡ true
    go true = f
    go false = lt-ltb x.block n (omega arith)

pub insert-descends : (b : ℕ) (cs : List Cell) (x : Cell) → x.block ≡ b → descends cs ≡ true → find_cell b cs ≡ None → descends (insert cs (leading (is_before b) cs) x) ≡ true
insert-descends b [] x e s f = refl
insert-descends b (c ∷ cs) x e s f = go (eqb_tells c.block b) (ltb b c.block) refl (λ g. insert-descends b cs x e (both-right (is_below c.block cs) (descends cs) s) g)
  where
    go : ((eqb c.block b ≡ true) × (c.block ≡ b)) ⊎ ((eqb c.block b ≡ false) × (c.block ≢ b)) → (t : Bool) → ltb b c.block ≡ t → (find_cell b cs ≡ None → descends (insert cs (leading (is_before b) cs) x) ≡ true) → descends (insert (c ∷ cs) (cond t (suc (leading (is_before b) cs)) 0) x) ≡ true
    go (inl y) t g ih = absurd (some-none c (sym (ap (λ t. cond t (Some c) (find_cell b cs)) y.0) ∙ f))
      where
        some-none : (z : Cell) → Some z ≡ None → ⊥
        some-none z h = cc
    go (inr y) true g ih = both (is_below c.block (insert cs (leading (is_before b) cs) x)) (descends (insert cs (leading (is_before b) cs) x)) (below-insert c.block b cs x e (ltb-true b c.block g) (both-left (is_below c.block cs) (descends cs) s)) (ih (sym (ap (λ t. cond t (Some c) (find_cell b cs)) y.0) ∙ f))
    go (inr y) false g ih = both (ltb c.block x.block) (descends (c ∷ cs)) (lt-ltb c.block x.block (let h = ltb-false b c.block g in let ne = y.1 in omega arith)) s

pub insert-find : (b q : ℕ) (cs : List Cell) (x : Cell) → x.block ≡ b → find_cell b cs ≡ None → find_cell q (insert cs (leading (is_before b) cs) x) ≡ cond (nat_eq b q) (Some x) (find_cell q cs)
insert-find b q [] x e f = ap (λ n. cond (nat_eq n q) (Some x) None) e
insert-find b q (c ∷ cs) x e f = go (eqb_tells c.block b) (ltb b c.block) (λ g. insert-find b q cs x e g)
  where
    some-none : (z : Cell) → Some z ≡ None → ⊥
    some-none z h = cc

    swap : (t u : Bool) → (t ≡ true → u ≡ true → ⊥) → (o : Option Cell) → cond t (Some c) (cond u (Some x) o) ≡ cond u (Some x) (cond t (Some c) o)
    swap true true h o = absurd (h refl refl)
    swap true false h o = refl
    swap false u h o = refl

    apart : c.block ≢ b → nat_eq c.block q ≡ true → nat_eq b q ≡ true → ⊥
    apart ne g h = ne (eqb-true c.block q g ∙ sym (eqb-true b q h))

    go : ((eqb c.block b ≡ true) × (c.block ≡ b)) ⊎ ((eqb c.block b ≡ false) × (c.block ≢ b)) → (t : Bool) → (find_cell b cs ≡ None → find_cell q (insert cs (leading (is_before b) cs) x) ≡ cond (nat_eq b q) (Some x) (find_cell q cs)) → find_cell q (insert (c ∷ cs) (cond t (suc (leading (is_before b) cs)) 0) x) ≡ cond (nat_eq b q) (Some x) (cond (nat_eq c.block q) (Some c) (find_cell q cs))
    go (inl y) t ih = absurd (some-none c (sym (ap (λ t. cond t (Some c) (find_cell b cs)) y.0) ∙ f))
    go (inr y) true ih = ap (λ o. cond (nat_eq c.block q) (Some c) o) (ih (sym (ap (λ t. cond t (Some c) (find_cell b cs)) y.0) ∙ f)) ∙ swap (nat_eq c.block q) (nat_eq b q) (apart y.1) (find_cell q cs)
    go (inr y) false ih = ap (λ n. cond (nat_eq n q) (Some x) (cond (nat_eq c.block q) (Some c) (find_cell q cs))) e

pub insert-there : (b : ℕ) (cs : List Cell) (x : Cell) → slice_get (insert cs (leading (is_before b) cs) x) (leading (is_before b) cs) ≡ Some x
insert-there b [] x = refl
insert-there b (c ∷ cs) x = go (ltb b c.block) (insert-there b cs x)
  where
    go : (t : Bool) → slice_get (insert cs (leading (is_before b) cs) x) (leading (is_before b) cs) ≡ Some x → slice_get (insert (c ∷ cs) (cond t (suc (leading (is_before b) cs)) 0) x) (cond t (suc (leading (is_before b) cs)) 0) ≡ Some x
    go true ih = ih
    go false ih = refl

member-below : (n : ℕ) (cs : List Cell) (at : ℕ) (c : Cell) → is_below n cs ≡ true → descends cs ≡ true → slice_get cs at ≡ Some c → c.block < n
member-below n [] at c b s e = absurd (cc)
member-below n (x ∷ cs) zero c b s e = let y : x ≡ c = cc in let z = ap (λ t. t.block) y in let h = ltb-true x.block n b in omega arith
member-below n (x ∷ cs) (suc at) c b s e = let h = ltb-true x.block n b in let ih = member-below x.block cs at c (both-left (is_below x.block cs) (descends cs) s) (both-right (is_below x.block cs) (descends cs) s) e in omega arith

below-set : (n : ℕ) (cs : List Cell) (at : ℕ) (c x : Cell) → is_below n cs ≡ true → slice_get cs at ≡ Some c → x.block ≡ c.block → is_below n (set cs at x) ≡ true
below-set n [] at c x b e f = b
below-set n (y ∷ cs) zero c x b e f = let z : y ≡ c = cc in lt-ltb x.block n (let h = ltb-true y.block n b in let w = ap (λ t. t.block) z in omega arith)
below-set n (y ∷ cs) (suc at) c x b e f = b

-- a cell of a row is changed, but not its block
pub set-descends : (cs : List Cell) (at : ℕ) (c x : Cell) → descends cs ≡ true → slice_get cs at ≡ Some c → x.block ≡ c.block → descends (set cs at x) ≡ true
set-descends [] at c x s e f = refl
set-descends (y ∷ cs) zero c x s e f =
    let z : y ≡ c = cc in
    let same : y.block ≡ x.block = ap (λ t. t.block) z ∙ sym f in
    both (is_below x.block cs) (descends cs) (subst (λ n. is_below n cs ≡ true) same (both-left (is_below y.block cs) (descends cs) s)) (both-right (is_below y.block cs) (descends cs) s)
set-descends (y ∷ cs) (suc at) c x s e f =
    let low = both-left (is_below y.block cs) (descends cs) s in
    let rest = both-right (is_below y.block cs) (descends cs) s in
    both (is_below y.block (set cs at x)) (descends (set cs at x)) (below-set y.block cs at c x low e f) (set-descends cs at c x rest e f)

pub set-find : (q : ℕ) (cs : List Cell) (at : ℕ) (c x : Cell) → descends cs ≡ true → slice_get cs at ≡ Some c → x.block ≡ c.block → find_cell q (set cs at x) ≡ cond (nat_eq c.block q) (Some x) (find_cell q cs)
set-find q [] at c x s e f = absurd (cc)
set-find q (y ∷ cs) zero c x s e f =
    let z : y ≡ c = cc in
    ap (λ n. cond (nat_eq n q) (Some x) (find_cell q cs)) f ∙ twice (nat_eq c.block q) ∙ ap (λ t. cond (nat_eq c.block q) (Some x) (cond (nat_eq t.block q) (Some t) (find_cell q cs))) (sym z)
  where
    twice : (t : Bool) → cond t (Some x) (find_cell q cs) ≡ cond t (Some x) (cond t (Some c) (find_cell q cs))
    twice true = refl
    twice false = refl
set-find q (y ∷ cs) (suc at) c x s e f =
    let low = both-left (is_below y.block cs) (descends cs) s in
    let rest = both-right (is_below y.block cs) (descends cs) s in
    let below = member-below y.block cs at c low rest e in
    ap (λ o. cond (nat_eq y.block q) (Some y) o) (set-find q cs at c x rest e f) ∙ swap (nat_eq y.block q) (nat_eq c.block q) (apart below) (find_cell q cs)
  where
    swap : (t u : Bool) → (t ≡ true → u ≡ true → ⊥) → (o : Option Cell) → cond t (Some y) (cond u (Some x) o) ≡ cond u (Some x) (cond t (Some y) o)
    swap true true h o = absurd (h refl refl)
    swap true false h o = refl
    swap false u h o = refl

    apart : c.block < y.block → nat_eq y.block q ≡ true → nat_eq c.block q ≡ true → ⊥
    apart b g h = let i = eqb-true y.block q g in let j = eqb-true c.block q h in omega arith

-- the cell that a search finds is one of its block
pub found-block : (b : ℕ) (cs : List Cell) (c : Cell) → find_cell b cs ≡ Some c → c.block ≡ b
found-block b [] c e = absurd (cc)
found-block b (x ∷ cs) c e = go (nat_eq x.block b) refl e (λ g. found-block b cs c g)
  where
    go : (t : Bool) → nat_eq x.block b ≡ t → cond t (Some x) (find_cell b cs) ≡ Some c → (find_cell b cs ≡ Some c → c.block ≡ b) → c.block ≡ b
    go true f g ih = let z : x ≡ c = cc in ap (λ t. t.block) (sym z) ∙ eqb-true x.block b f
    go false f g ih = ih g

-- an empty cell put into a row changes nothing that is seen
pub insert-seen : (b q : ℕ) (cs : List Cell) (x : Cell) → x.block ≡ b → find_cell b cs ≡ None → seen_cell x ≡ unseen → seen_in (insert cs (leading (is_before b) cs) x) q ≡ seen_in cs q
insert-seen b q cs x e f u = ap seen (insert-find b q cs x e f) ∙ go (nat_eq b q) refl
  where
    go : (t : Bool) → nat_eq b q ≡ t → seen (cond t (Some x) (find_cell q cs)) ≡ seen (find_cell q cs)
    go true g = u ∙ sym (ap seen (subst (λ n. find_cell n cs ≡ None) (eqb-true b q g) f))
    go false g = refl

pub cell-here : (b : ℕ) (cs : List Cell) (at : ℕ) (x : Cell) → descends cs ≡ true → at ≡ leading (is_before b) cs → at < length cs → x ≡ get_or cs at x → x.block ≡ b → Some x ≡ find_cell b cs
cell-here b cs at x s e h f g = ap Some f ∙ sym (slice_get-get_or cs at x h) ∙ here-there b cs at x s e h (ap (λ c. c.block) (sym f) ∙ g)

pub cell-elsewhere : (b : ℕ) (cs : List Cell) (at : ℕ) (x : Cell) → descends cs ≡ true → at ≡ leading (is_before b) cs → at < length cs → x ≡ get_or cs at x → (x.block ≡ b → ⊥) → None ≡ find_cell b cs
cell-elsewhere b cs at x s e h f g = sym (not-here b cs at s e (λ d h' k. g (ap (λ c. c.block) (f ∙ default cs at x d h') ∙ k)))
  where
    default : (cs : List Cell) (at : ℕ) (x d : Cell) → at < length cs → get_or cs at x ≡ get_or cs at d
    default [] at x d h = absurd (omega arith)
    default (c ∷ cs) zero x d h = refl
    default (c ∷ cs) (suc at) x d h = default cs at x d (omega arith)

pub cell-behind : (b : ℕ) (cs : List Cell) (at : ℕ) → descends cs ≡ true → at ≡ leading (is_before b) cs → length cs ≤ at → None ≡ find_cell b cs
cell-behind b cs at s e h = sym (not-here b cs at s e (λ d h' k. omega arith))

-- where there is a cell of the block, the search ends at it
pub there-found : (b : ℕ) (cs : List Cell) (at : ℕ) → descends cs ≡ true → at ≡ leading (is_before b) cs → is_some (find_cell b cs) ≡ true → (at < length cs) × (slice_get cs at ≡ find_cell b cs)
there-found b cs at s e h = go (slice_get_cases cs at).1
  where
    found : find_cell b cs ≡ of_block b (slice_get cs at)
    found = found-at b cs s ∙ ap (λ k. of_block b (slice_get cs k)) (sym e)

    some : (t : Bool) (x : Cell) → is_some (cond t (Some x) None) ≡ true → cond t (Some x) None ≡ Some x
    some true x k = refl
    some false x k = absurd (cc)

    go : ((x : Cell) × (at < length cs) × (slice_get cs at ≡ Some x) × (get_or cs at x ≡ x)) ⊎ ((length cs ≤ at) × (slice_get cs at ≡ None)) → (at < length cs) × (slice_get cs at ≡ find_cell b cs)
    go (inl z) =
        let f : find_cell b cs ≡ cond (nat_eq z.0.block b) (Some z.0) None = found ∙ ap (of_block b) z.2 in
        let g = some (nat_eq z.0.block b) z.0 (ap is_some (sym f) ∙ h) in
        (z.1, z.2 ∙ sym (f ∙ g))
    go (inr z) = absurd (let f : find_cell b cs ≡ None = found ∙ ap (of_block b) z.1 in let g : false ≡ true = ap is_some (sym f) ∙ h in false≢true g)

pub none-found : (b : ℕ) (cs : List Cell) → is_some (find_cell b cs) ≡ false → find_cell b cs ≡ None
none-found b cs h = go (find_cell b cs) refl
  where
    go : (o : Option Cell) → find_cell b cs ≡ o → o ≡ None
    go None e = refl
    go (Some x) e = absurd (let g : true ≡ false = ap is_some (sym e) ∙ h in cc)

-- an empty cell is put where the search for its block ends
module _ (b : ℕ) (cs : List Cell) (at : ℕ) (x : Cell) (s : descends cs ≡ true) (e : at ≡ leading (is_before b) cs) (none : is_some (find_cell b cs) ≡ false) (block : x.block ≡ b) where
  pub put-descends : (t : Bool) (ys : List Cell) → ys ≡ cond t (insert cs at x) cs → descends ys ≡ true
  put-descends true ys f = ap descends f ∙ ap (λ n. descends (insert cs n x)) e ∙ insert-descends b cs x block s (none-found b cs none)
  put-descends false ys f = ap descends f ∙ s

  same-test : (n : ℕ) → nat_eq n n ≡ true
  same-test n = eq-eqb n n refl

  pub put-there : (ys : List Cell) → ys ≡ insert cs at x → (at < length ys) × (slice_get ys at ≡ find_cell b ys)
  put-there ys f =
      let here : slice_get ys at ≡ Some x = ap (λ zs. slice_get zs at) f ∙ ap (λ n. slice_get (insert cs n x) n) e ∙ insert-there b cs x in
      let found : find_cell b ys ≡ Some x = ap (find_cell b) f ∙ ap (λ n. find_cell b (insert cs n x)) e ∙ insert-find b b cs x block (none-found b cs none) ∙ ap (λ t. cond t (Some x) (find_cell b cs)) (same-test b) in
      (inside ys here, here ∙ sym found)
    where
      inside : (zs : List Cell) → slice_get zs at ≡ Some x → at < length zs
      inside zs h = go (slice_get_cases zs at).1
        where
          go : ((y : Cell) × (at < length zs) × (slice_get zs at ≡ Some y) × (get_or zs at y ≡ y)) ⊎ ((length zs ≤ at) × (slice_get zs at ≡ None)) → at < length zs
          go (inl z) = z.1
          go (inr z) = absurd (let k : Some x ≡ None = sym h ∙ z.1 in cc)

  pub put-same : seen_cell x ≡ unseen → (ys : List Cell) → ys ≡ insert cs at x → (q : ℕ) → seen_in ys q ≡ seen_in cs q
  put-same u ys f q = ap (λ zs. seen_in zs q) f ∙ ap (λ n. seen_in (insert cs n x) q) e ∙ insert-seen b q cs x block (none-found b cs none) u

-- the cell of a block is changed; its cells saw what those of an older row did
module _ (b : ℕ) (cs : List Cell) (at : ℕ) (x y : Cell) (s : descends cs ≡ true) (h : at < length cs) (there : slice_get cs at ≡ find_cell b cs) (is : x ≡ get_or cs at x) (block : y.block ≡ x.block) where
  found : slice_get cs at ≡ Some x
  found = slice_get-get_or cs at x h ∙ ap Some (sym is)

  of_b : x.block ≡ b
  of_b = found-block b cs x (sym there ∙ found)

  pub change-descends : descends (set cs at y) ≡ true
  change-descends = set-descends cs at x y s found block

  -- what is seen in the block before
  pub seen-before : seen_in cs b ≡ seen_cell x
  seen-before = ap seen (sym there ∙ found)

  pub change-seen : (f : Seen → Seen) (old : ℕ → Seen) → ((q : ℕ) → seen_in cs q ≡ old q) → seen_cell y ≡ f (seen_cell x) → (q : ℕ) → seen_in (set cs at y) q ≡ cond (nat_eq b q) (f (old b)) (old q)
  change-seen f old same e q =
      ap seen (set-find q cs at x y s found block) ∙ ap (λ n. seen (cond (nat_eq n q) (Some y) (find_cell q cs))) of_b ∙ out (nat_eq b q)
    where
      new : seen_cell y ≡ f (old b)
      new = e ∙ ap f (sym seen-before ∙ same b)

      out : (t : Bool) → seen (cond t (Some y) (find_cell q cs)) ≡ cond t (f (old b)) (old q)
      out true = new
      out false = same q

-- a cell of a row is the one that its block finds
pub is-found : (cs : List Cell) (at : ℕ) (c : Cell) → descends cs ≡ true → slice_get cs at ≡ Some c → find_cell c.block cs ≡ Some c
is-found [] at c s e = absurd (cc)
is-found (x ∷ cs) zero c s e =
    let y : x ≡ c = cc in
    subst (λ z. find_cell z.block (x ∷ cs) ≡ Some z) y (ap (λ t. cond t (Some x) (find_cell x.block cs)) (eq-eqb x.block x.block refl))
is-found (x ∷ cs) (suc at) c s e =
    let low = both-left (is_below x.block cs) (descends cs) s in
    let rest = both-right (is_below x.block cs) (descends cs) s in
    let below = member-below x.block cs at c low rest e in
    ap (λ t. cond t (Some x) (find_cell c.block cs)) (other below (eqb_tells x.block c.block)) ∙ is-found cs at c rest e
  where
    other : c.block < x.block → ((eqb x.block c.block ≡ true) × (x.block ≡ c.block)) ⊎ ((eqb x.block c.block ≡ false) × (x.block ≢ c.block)) → nat_eq x.block c.block ≡ false
    other b (inl y) = absurd (let z = y.1 in omega arith)
    other b (inr y) = y.0

pub cell-seen : (b : ℕ) (cs : List Cell) (at : ℕ) (x : Cell) → at < length cs → slice_get cs at ≡ find_cell b cs → x ≡ get_or cs at x → seen_cell x ≡ seen_in cs b
cell-seen b cs at x h there is = sym (ap seen (sym there ∙ slice_get-get_or cs at x h ∙ ap Some (sym is)))

-- no cell goes where one is put
pub put-kept : (b : ℕ) (cs : List Cell) (at : ℕ) (x : Cell) → descends cs ≡ true → at ≡ leading (is_before b) cs → is_some (find_cell b cs) ≡ false → x.block ≡ b → (ys : List Cell) → ys ≡ insert cs at x → (q : ℕ) → is_some (find_cell q cs) ≡ true → is_some (find_cell q ys) ≡ true
put-kept b cs at x s e none block ys f q h =
    ap (λ zs. is_some (find_cell q zs)) f ∙ (ap (λ n. is_some (find_cell q (insert cs n x))) e ∙ (ap is_some (insert-find b q cs x block (none-found b cs none)) ∙ go (nat_eq b q)))
  where
    go : (t : Bool) → is_some (cond t (Some x) (find_cell q cs)) ≡ true
    go true = refl
    go false = h

-- nor any room
pub put-rooms : (b : ℕ) (cs : List Cell) (at : ℕ) (x : Cell) → descends cs ≡ true → at ≡ leading (is_before b) cs → is_some (find_cell b cs) ≡ false → x.block ≡ b → (ys : List Cell) → ys ≡ insert cs at x → (q : ℕ) → cell_room (find_cell q cs) ≤ cell_room (find_cell q ys)
put-rooms b cs at x s e none block ys f q =
    go (nat_eq b q) refl (ap (λ zs. cell_room (find_cell q zs)) f ∙ (ap (λ n. cell_room (find_cell q (insert cs n x))) e ∙ ap cell_room (insert-find b q cs x block (none-found b cs none))))
  where
    go : (t : Bool) → nat_eq b q ≡ t → cell_room (find_cell q ys) ≡ cell_room (cond t (Some x) (find_cell q cs)) → cell_room (find_cell q cs) ≤ cell_room (find_cell q ys)
    go true g h = let gone : cell_room (find_cell q cs) ≡ 0 = ap (λ n. cell_room (find_cell n cs)) (sym (eqb-true b q g)) ∙ ap cell_room (none-found b cs none) in omega (arith, gone)
    go false g h = omega (arith, h)
