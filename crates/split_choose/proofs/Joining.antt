-- Ends of blocks are joined with the starts of those that follow, one after the other.
use Rattle.std.proofs.Common.{◌≡◌, ◌≢◌, ◌∙◌, ◌⊎◌, inl, inr, ℕ, zero, suc, ◌+◌, ◌*◌, ◌<◌, ◌≤◌, List, [], ◌∷◌, ◌++◌, Bool, true, false, cond, refl, sym, ap, length, set, take, get_or, min, max, subst, arith}
use Rattle.std.specs.Prelude.{nat_eq, Decides}
use Rattle.std.proofs.lemmas.Bool.{cases_eq, cases_lt, eqb-true, eq-eqb, false≢true}
use Rattle.std.proofs.lemmas.List.{get_or_past, take_more, take_all, get_or_default, length-set}
use Rattle.mir_meaning.specs.Registers.{numbers}
use Rattle.mir_meaning.specs.Paths.{has}
use Rattle.split_choose.specs.Bundles.{start_of, end_of, Linked, itself, edge, back, onward, parent_of, root_of, AreEarlier, IsForest, AreJoined, StayJoined, SameRoots, IsClosed, Joins, AreBundles}
use Rattle.split_choose.proofs.Roots.{settled, root_falls, set-parent, set-falls, merged-keeps, merged-joins, linked-above, shortened-root, are_bundles}

-- numbers in lists

pub has-push : (m n : ℕ) (ns : List ℕ) → has m (ns ++ n ∷ []) ≡ true → (has m ns ≡ true) ⊎ (n ≡ m)
has-push m n [] h = go (nat_eq n m) refl h
  where
    go : (b : Bool) → nat_eq n m ≡ b → cond b true false ≡ true → (false ≡ true) ⊎ (n ≡ m)
    go true e h = inr (eqb-true n m e)
    go false e h = inl h
has-push m n (x ∷ xs) h = go (nat_eq x m) h (has-push m n xs)
  where
    go : (b : Bool) → cond b true (has m (xs ++ n ∷ [])) ≡ true → (has m (xs ++ n ∷ []) ≡ true → (has m xs ≡ true) ⊎ (n ≡ m)) → (cond b true (has m xs) ≡ true) ⊎ (n ≡ m)
    go true h ih = inl refl
    go false h ih = ih h

pub has-at : (ns : List ℕ) (i n : ℕ) → i < length ns → n ≡ get_or ns i n → has n ns ≡ true
has-at [] i n h e = absurd (omega arith)
has-at (x ∷ xs) zero n h e = ap (λ b. cond b true (has n xs)) (eq-eqb x n (sym e))
has-at (x ∷ xs) (suc i) n h e = go (nat_eq x n) (has-at xs i n (omega arith) e)
  where
    go : (b : Bool) → has n xs ≡ true → cond b true (has n xs) ≡ true
    go true h = refl
    go false h = h

-- one border is named in place of another

module _ (next : ℕ → List ℕ) (count : ℕ) (ps : List ℕ) (k n : ℕ) (forest : IsForest next count ps) (follows : has n (next k) ≡ true) (at_k : k < count) (at_n : n < count) (big small : ℕ) (order : small ≤ big) (ways : (root_of ps (end_of k) ≡ big) × (root_of ps (start_of n) ≡ small) ⊎ (root_of ps (end_of k) ≡ small) × (root_of ps (start_of n) ≡ big)) where
  big_within : big < length ps
  big_within =
      let a : root_of ps (end_of k) ≤ end_of k = root_falls ps forest.earlier (length ps) (end_of k) in
      let b : root_of ps (start_of n) ≤ start_of n = root_falls ps forest.earlier (length ps) (start_of n) in
      let s = forest.size in elim ways [ inl q ↦ (let e = q.0 in omega arith) | inr q ↦ (let e = q.1 in omega arith) ]

  is_root : (z : ℕ) → ((x : ℕ) × (root_of ps x ≡ z)) → parent_of ps z ≡ z
  is_root z (x, e) = let P : ℕ → Type 0 = λ r. parent_of ps r ≡ r in subst P e (settled ps forest.earlier x)

  is_big : parent_of ps big ≡ big
  is_big = elim ways [ inl q ↦ is_root big (end_of k, q.0) | inr q ↦ is_root big (start_of n, q.1) ]

  is_small : parent_of ps small ≡ small
  is_small = elim ways [ inl q ↦ is_root small (start_of n, q.1) | inr q ↦ is_root small (end_of k, q.0) ]

  roots_linked : Linked next (root_of ps (end_of k), root_of ps (start_of n))
  roots_linked =
      onward (back (linked-above next ps forest.sound (length ps) (end_of k)))
      (onward (edge k n follows) (linked-above next ps forest.sound (length ps) (start_of n)))

  big_linked : Linked next (big, small)
  big_linked = go ways
    where
      go : (root_of ps (end_of k) ≡ big) × (root_of ps (start_of n) ≡ small) ⊎ (root_of ps (end_of k) ≡ small) × (root_of ps (start_of n) ≡ big) → Linked next (big, small)
      go (inl q) = let P : ℕ → Type 0 = λ a. Linked next (a, small) in let Q : ℕ → Type 0 = λ b. Linked next (root_of ps (end_of k), b) in subst P q.0 (subst Q q.1 roots_linked)
      go (inr q) = let P : ℕ → Type 0 = λ a. Linked next (a, big) in let Q : ℕ → Type 0 = λ b. Linked next (root_of ps (end_of k), b) in back (subst P q.0 (subst Q q.1 roots_linked))

  pub forest_joined : IsForest next count (set ps big small)
  forest_joined = record {
    size = length-set ps big small ∙ forest.size;
    earlier = set-falls ps big small forest.earlier order;
    sound = λ x. go x (set-parent ps big small x big_within);
  }
    where
      go : (x : ℕ) → ((x ≡ big) × (parent_of (set ps big small) x ≡ small)) ⊎ ((x ≢ big) × (parent_of (set ps big small) x ≡ parent_of ps x)) → Linked next (x, parent_of (set ps big small) x)
      go x (inl q) = let P : ℕ → Type 0 = λ a. Linked next (a, small) in let Q : ℕ → Type 0 = λ b. Linked next (x, b) in subst Q (sym q.1) (subst P (sym q.0) big_linked)
      go x (inr q) = let Q : ℕ → Type 0 = λ b. Linked next (x, b) in subst Q (sym q.1) (forest.sound x)

  pub stay_joined : StayJoined ps (set ps big small)
  stay_joined = merged-keeps ps forest.earlier big small order big_within is_big is_small

  pub are_joined : root_of (set ps big small) (end_of k) ≡ root_of (set ps big small) (start_of n)
  are_joined = merged-joins ps forest.earlier big small order big_within is_big is_small (end_of k) (start_of n) ways

-- the next of those that follow a block

pub join_first : (next : ℕ → List ℕ) (count : ℕ) (ps : List ℕ) (k : ℕ) → IsForest next count ps → Joins next count ps ps k (take 0 (next k))
join_first next count ps k f = record { forest = f; stay = λ x y e. e; joined = λ n h. absurd (false≢true h) }

pub join_next : (next : ℕ → List ℕ) (count : ℕ) (old ps ns made : List ℕ) (k i n a b : ℕ) → IsClosed next count → ns ≡ next k → i < length ns → n ≡ get_or ns i n → a ≡ root_of ps (start_of n) → b ≡ root_of ps (end_of k) → made ≡ set ps (max a b) (min a b)
    → Joins next count old ps k (take i ns) → Joins next count old made k (take (i + 1) ns)
join_next next count old ps ns made k i n a b closed are at is a_is b_is set_is was = by_order (cases_lt a b)
  where
    follows : has n (next k) ≡ true
    follows = let P : List ℕ → Type 0 = λ ms. has n ms ≡ true in subst P are (has-at ns i n at is)

    at_k : k < count
    at_k = go (cases_lt k count)
      where
        go : (k < count) ⊎ (count ≤ k) → k < count
        go (inl h) = h
        go (inr h) = let bad : n < 0 = closed.ends k h n follows in omega arith

    at_n : n < count
    at_n = closed.within k at_k n follows

    with_ends : (big small : ℕ) → made ≡ set ps big small → small ≤ big → (root_of ps (end_of k) ≡ big) × (root_of ps (start_of n) ≡ small) ⊎ (root_of ps (end_of k) ≡ small) × (root_of ps (start_of n) ≡ big) → Joins next count old made k (take (i + 1) ns)
    with_ends big small e order ways =
        let P : List ℕ → Type 0 = λ qs. Joins next count old qs k (take (i + 1) ns) in
        let stay : StayJoined ps (set ps big small) = stay_joined next count ps k n was.forest follows at_k at_n big small order ways in
        subst P (sym e) (record {
          forest = forest_joined next count ps k n was.forest follows at_k at_n big small order ways;
          stay = λ x y same. stay x y (was.stay x y same);
          joined = λ m h. joins stay m (has-push m n (take i ns) (let Q : List ℕ → Type 0 = λ ms. has m ms ≡ true in subst Q (take_more ns i n at ∙ ap (λ y. take i ns ++ y ∷ []) (sym is)) h));
        })
      where
        joins : StayJoined ps (set ps big small) → (m : ℕ) → (has m (take i ns) ≡ true) ⊎ (n ≡ m) → root_of (set ps big small) (end_of k) ≡ root_of (set ps big small) (start_of m)
        joins stay m (inl h) = stay (end_of k) (start_of m) (was.joined m h)
        joins stay m (inr h) = are_joined next count ps k n was.forest follows at_k at_n big small order ways ∙ ap (λ x. root_of (set ps big small) (start_of x)) h

    by_order : (a < b) ⊎ (b ≤ a) → Joins next count old made k (take (i + 1) ns)
    by_order (inl h) =
        let big : max a b ≡ b = omega arith in let small : min a b ≡ a = omega arith in
        with_ends b a (set_is ∙ (ap (λ x. set ps x (min a b)) big ∙ ap (set ps b) small)) (omega arith) (inl (sym b_is, sym a_is))
    by_order (inr h) =
        let big : max a b ≡ a = omega arith in let small : min a b ≡ b = omega arith in
        with_ends a b (set_is ∙ (ap (λ x. set ps x (min a b)) big ∙ ap (set ps a) small)) h (inr (sym b_is, sym a_is))

pub join_step : (next : ℕ → List ℕ) (count : ℕ) (old ps ns made : List ℕ) (k i s t : ℕ) → ns ≡ next k → i < length ns → (get_or ns i 0 < 2147483648 → s ≡ start_of (get_or ns i 0)) → (k < 2147483648 → t ≡ end_of k) → made ≡ set ps (max (root_of ps s) (root_of ps t)) (min (root_of ps s) (root_of ps t))
    → IsClosed next count → Joins next count old ps k (take i (next k)) → Joins next count old made k (take (i + 1) (next k))
join_step next count old ps ns made k i s t are at s_is t_is set_is closed was =
    let P : List ℕ → Type 0 = λ ms. Joins next count old made k (take (i + 1) ms) in
    let Q : List ℕ → Type 0 = λ ms. Joins next count old ps k (take i ms) in
    let few = closed.few in let kc = at_k in let nc = at_n in
    subst P are (join_next next count old ps ns made k i (get_or ns i 0) (root_of ps s) (root_of ps t) closed are at read
    (ap (root_of ps) (s_is (omega arith))) (ap (root_of ps) (t_is (omega arith))) set_is (subst Q (sym are) was))
  where
    read : get_or ns i 0 ≡ get_or ns i (get_or ns i 0)
    read = get_or_default ns i 0 (get_or ns i 0) at

    follows : has (get_or ns i 0) (next k) ≡ true
    follows = let P : List ℕ → Type 0 = λ ms. has (get_or ns i 0) ms ≡ true in subst P are (has-at ns i (get_or ns i 0) at read)

    at_k : k < count
    at_k = go (cases_lt k count)
      where
        go : (k < count) ⊎ (count ≤ k) → k < count
        go (inl h) = h
        go (inr h) = let bad : get_or ns i 0 < 0 = closed.ends k h (get_or ns i 0) follows in omega arith

    at_n : get_or ns i 0 < count
    at_n = closed.within k at_k (get_or ns i 0) follows

pub join_last : (next : ℕ → List ℕ) (count : ℕ) (old ps ns : List ℕ) (k i : ℕ) → ns ≡ next k → length ns ≤ i → Joins next count old ps k (take i ns) → Joins next count old ps k (next k)
join_last next count old ps ns k i are h was = let P : List ℕ → Type 0 = λ ms. Joins next count old ps k ms in subst P (take_all i ns h ∙ are) was

pub earlier_set : (ps made : List ℕ) (a b : ℕ) → made ≡ set ps (max a b) (min a b) → AreEarlier ps → AreEarlier made
earlier_set ps made a b e f = let P : List ℕ → Type 0 = AreEarlier in subst P (sym e) (set-falls ps (max a b) (min a b) f (omega arith))

pub ruleset joins = (join_first, join_next, join_last, earlier_set)

-- borders name at once what stands for them

pub shorten_earlier : (ps made : List ℕ) (b r : ℕ) → r ≡ root_of ps b → made ≡ set ps b r → AreEarlier ps → AreEarlier made
shorten_earlier ps made b r is e f =
    let P : List ℕ → Type 0 = AreEarlier in
    subst P (sym e) (set-falls ps b r f (let h : root_of ps b ≤ b = root_falls ps f (length ps) b in omega arith))

pub shorten_same : (old ps made : List ℕ) (b r : ℕ) → r ≡ root_of ps b → made ≡ set ps b r → AreEarlier ps → SameRoots old ps → SameRoots old made
shorten_same old ps made b r is e f same =
    let P : List ℕ → Type 0 = λ qs. SameRoots old qs in
    subst P (sym (e ∙ ap (set ps b) is)) (λ x. shortened-root ps f b x ∙ same x)

pub same_first : (ps : List ℕ) → SameRoots ps ps
same_first ps x = refl

pub ruleset shortens = (shorten_earlier, shorten_same, same_first)

-- all blocks

number-at : (n k x : ℕ) → x < k → get_or (numbers n k) x x ≡ n + x
number-at n k x h = go n k x x h
  where
    go : (n k x d : ℕ) → x < k → get_or (numbers n k) x d ≡ n + x
    go n zero x d h = absurd (omega arith)
    go n (suc k) zero d h = omega arith
    go n (suc k) (suc x) d h = let ih : get_or (numbers (suc n) k) x d ≡ suc n + x = go (suc n) k x d (omega arith) in omega arith

numbers-length : (n k : ℕ) → length (numbers n k) ≡ k
numbers-length n zero = refl
numbers-length n (suc k) = ap suc (numbers-length (suc n) k)

pub alone_parent : (k x : ℕ) → parent_of (numbers 0 k) x ≡ x
alone_parent k x = go (cases_lt x k)
  where
    go : (x < k) ⊎ (k ≤ x) → parent_of (numbers 0 k) x ≡ x
    go (inl h) = let e = number-at 0 k x h in omega arith
    go (inr h) = get_or_past (numbers 0 k) x x (let e = numbers-length 0 k in omega arith)

pub alone_earlier : (ps : List ℕ) (k : ℕ) → ps ≡ numbers 0 k → AreEarlier ps
alone_earlier ps k e x = let P : List ℕ → Type 0 = λ qs. parent_of qs x ≤ x in subst P (sym e) (let a = alone_parent k x in omega arith)

pub alone_forest : (next : ℕ → List ℕ) (count : ℕ) → IsForest next count (numbers 0 (2 * count))
alone_forest next count = record {
  size = numbers-length 0 (2 * count);
  earlier = alone_earlier (numbers 0 (2 * count)) (2 * count) refl;
  sound = λ x. let P : ℕ → Type 0 = λ y. Linked next (x, y) in subst P (sym (alone_parent (2 * count) x)) itself;
}

-- so many blocks are joined with those that follow them
pub record JoinsBelow (next : ℕ → List ℕ) (count : ℕ) (ps : List ℕ) (k : ℕ) : Type 0 where
  pub forest : IsForest next count ps
  pub joined : (j : ℕ) → j < k → AreJoined ps j (next j)

pub below_first : (next : ℕ → List ℕ) (count : ℕ) (ps : List ℕ) (n : ℕ) → n ≡ 2 * count → ps ≡ numbers 0 n → JoinsBelow next count ps 0
below_first next count ps n e is = record {
  forest = (let P : List ℕ → Type 0 = IsForest next count in subst P (sym (is ∙ ap (numbers 0) e)) (alone_forest next count));
  joined = λ j h. absurd (omega arith);
}

pub below_next : (next : ℕ → List ℕ) (count : ℕ) (ps made : List ℕ) (k : ℕ) → JoinsBelow next count ps k → Joins next count ps made k (next k) → JoinsBelow next count made (k + 1)
below_next next count ps made k was j = record {
  forest = j.forest;
  joined = λ i h. go i h (cases_eq i k);
}
  where
    go : (i : ℕ) → i < k + 1 → (i ≡ k) ⊎ (i ≡ k → ⊥) → AreJoined made i (next i)
    go i h (inl e) = let P : ℕ → Type 0 = λ x. AreJoined made x (next x) in subst P (sym e) j.joined
    go i h (inr d) = λ n f. j.stay (end_of i) (start_of n) (was.joined i (omega arith) n f)

pub below_last : (next : ℕ → List ℕ) (count : ℕ) (ps made : List ℕ) (k : ℕ) → IsClosed next count → count ≤ k → JoinsBelow next count ps k → SameRoots ps made → AreBundles next made
below_last next count ps made k closed h was same x y =
    let d = are_bundles next ps was.forest.sound all x y in
    let P : ℕ → Type 0 = λ a. Decides (nat_eq a (root_of made y)) (Linked next (x, y)) in
    let Q : ℕ → Type 0 = λ b. Decides (nat_eq (root_of ps x) b) (Linked next (x, y)) in
    subst P (sym (same x)) (subst Q (sym (same y)) d)
  where
    all : (j : ℕ) → AreJoined ps j (next j)
    all j = go (cases_lt j count)
      where
        go : (j < count) ⊎ (count ≤ j) → AreJoined ps j (next j)
        go (inl a) = was.joined j (omega arith)
        go (inr a) = λ n f. let bad : n < 0 = closed.ends j a n f in absurd (omega arith)

pub ruleset made = (alone_earlier, below_first, below_next, below_last)
