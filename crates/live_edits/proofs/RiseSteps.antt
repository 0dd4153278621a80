-- What is asked for comes alive where it isn't live, as far as a loop over it has come.
use Rattle.std.proofs.Common.{◌≡◌, ◌<◌, ◌≤◌, ◌⊎◌, ℕ, zero, suc, ◌+◌, true, false, length, List, [], ◌∷◌, ◌++◌, inl, inr, sym, ap, ◌∙◌, subst, arith, map, get_or, take, drop, append_assoc, append-nil}
use Rattle.std.proofs.Math.Seq.{drop-cons, take-suc}
use Rattle.std.proofs.lemmas.List.{map-append, take_all, drop_all}
use Rattle.mir_meaning.specs.Paths.{Among, here, there, Code}
use Rattle.live_lanes.specs.declared.row.LaneRange.{LaneRange}
use Rattle.live_edits.specs.declared.pieces.PieceSpot.{PieceSpot}
use Rattle.live_lanes.specs.Entered.{causes}
use Rattle.live_lanes.proofs.Basics.{none-among, among-append}
use Rattle.live_lanes.proofs.Numbered.{among-cases, among-left, among-right, among-split}
use Rattle.edit_laws.specs.Chains.{Node, cause_at}
use Rattle.edit_laws.specs.RowCause.{GivesCause}
use Rattle.edit_laws.specs.Update.{given, Request, Wanted, Rise, Rises, rising, rose, rise, RiseStep, passes, rises}
use Rattle.edit_laws.proofs.RowCause.{row-cause-law}
use Rattle.edit_laws.proofs.Runs.{runs-follow}
use Rattle.live_edits.specs.declared.pieces.Need.{Need}
use Rattle.live_edits.specs.Pieces.{node_of, nodes_of, HasAll, request_of, requests_of, IsThere, AreThere, KeepsPieces}
use Rattle.live_edits.specs.Updated.{Raises}
use Rattle.live_edits.proofs.RiseThere.{there-kept}

-- the element that a loop comes to

pub rest-at : {X : Type 0} (xs : List X) (k : ℕ) (x d : X) → k < length xs → x ≡ get_or xs k d → drop k xs ≡ x ∷ drop (k + 1) xs
rest-at xs k x d h e =
    let n : suc k ≡ k + 1 = omega arith in
    drop-cons xs k d h ∙ (ap (λ y. y ∷ drop (suc k) xs) (sym e) ∙ ap (λ m. x ∷ drop m xs) n)

pub first-at : {X : Type 0} (xs : List X) (k : ℕ) (x d : X) → k < length xs → x ≡ get_or xs k d → take (k + 1) xs ≡ take k xs ++ x ∷ []
first-at xs k x d h e =
    let n : k + 1 ≡ suc k = omega arith in
    ap (λ m. take m xs) n ∙ (take-suc xs k d h ∙ ap (λ y. take k xs ++ y ∷ []) (sym e))

among-get : {X : Type 0} (xs : List X) (k : ℕ) (d : X) → k < length xs → Among (get_or xs k d) xs
among-get [] k d h = absurd (omega arith)
among-get (y ∷ xs) zero d h = here
among-get (y ∷ xs) (suc k) d h = there (among-get xs k d (omega arith))

pub among-at : {X : Type 0} (xs : List X) (k : ℕ) (x d : X) → k < length xs → x ≡ get_or xs k d → Among x xs
among-at xs k x d h e = subst (λ y. Among y xs) (sym e) (among-get xs k d h)

pub among-map : {X Y : Type 0} (f : X → Y) (x : X) (xs : List X) → Among x xs → Among (f x) (map f xs)
among-map f x [] a = absurd (none-among x a)
among-map f x (y ∷ xs) a = go (among-cases x y xs a) (λ b. among-map f x xs b)
  where
    go : (x ≡ y) ⊎ Among x xs → (Among x xs → Among (f x) (map f xs)) → Among (f x) (f y ∷ map f xs)
    go (inl e) k = subst (λ z. Among (f x) (f z ∷ map f xs)) e here
    go (inr b) k = there (k b)

-- pieces behind others

pub nodes-both : (xs ys : List PieceSpot) → nodes_of (xs ++ ys) ≡ nodes_of xs ++ nodes_of ys
nodes-both xs ys = map-append node_of xs ys

pub node-behind : (ms : List Node) (xs : List PieceSpot) (x : PieceSpot) → ms ++ nodes_of (xs ++ x ∷ []) ≡ (ms ++ nodes_of xs) ++ node_of x ∷ []
node-behind ms xs x = ap (λ ys. ms ++ ys) (nodes-both xs (x ∷ [])) ∙ sym (append_assoc ms (nodes_of xs) (node_of x ∷ []))

pub only : {X : Type 0} (x y : X) → Among x (y ∷ []) → x ≡ y
only x y a = go (among-cases x y [] a)
  where
    go : (x ≡ y) ⊎ Among x [] → x ≡ y
    go (inl e) = e
    go (inr b) = absurd (none-among x b)

pub node-last : (xs : List PieceSpot) (x : PieceSpot) → Among (node_of x) (nodes_of (xs ++ x ∷ []))
node-last xs x = among-map node_of x (xs ++ x ∷ []) (among-append x xs [])

pub node-before : (n : Node) (xs ys : List PieceSpot) → Among n (nodes_of xs) → Among n (nodes_of (xs ++ ys))
node-before n xs ys a = subst (Among n) (sym (nodes-both xs ys)) (among-left n (nodes_of xs) (nodes_of ys) a)

pub node-after : (n : Node) (xs ys : List PieceSpot) → Among n (nodes_of ys) → Among n (nodes_of (xs ++ ys))
node-after n xs ys a = subst (Among n) (sym (nodes-both xs ys)) (among-right n (nodes_of xs) (nodes_of ys) a)

pub node-either : (n : Node) (xs ys : List PieceSpot) → Among n (nodes_of (xs ++ ys)) → Among n (nodes_of xs) ⊎ Among n (nodes_of ys)
node-either n xs ys a = among-split n (nodes_of xs) (nodes_of ys) (subst (Among n) (nodes-both xs ys) a)

-- as far as the loop has come
pub record SomeRaised (old new : List LaneRange) (queue : List Need) (k : ℕ) (from to around around' : List PieceSpot) : Type 0 where
  pub added : List PieceSpot
  pub list : to ≡ from ++ added
  pub rises : (code : Code) (ms cs : List Node) → AreThere old queue → Rises code (rising (causes old) (requests_of queue) ms cs) (rising (causes new) (requests_of (drop k queue)) (ms ++ nodes_of added) (cs ++ nodes_of added))
  pub kept : (n : Node) → Among n (nodes_of around) → Among n (nodes_of around')
  pub beside : (r : Request) → Among r (requests_of (take k queue)) → Among r.node (nodes_of added) ⊎ Among r.node (nodes_of around')
  pub wanted : (n : Node) → Among n (nodes_of added) → Wanted n (requests_of queue)

pub raised-none : (rows : List LaneRange) (queue : List Need) (from around : List PieceSpot) → SomeRaised rows rows queue 0 from from around around
raised-none rows queue from around = record {
  added = [];
  list = sym (append-nil from);
  rises = λ code ms cs t. subst (λ xs. Rises code (rising (causes rows) (requests_of queue) ms cs) (rising (causes rows) (requests_of queue) xs (cs ++ []))) (sym (append-nil ms)) (subst (λ xs. Rises code (rising (causes rows) (requests_of queue) ms cs) (rising (causes rows) (requests_of queue) ms xs)) (sym (append-nil cs)) rose);
  kept = λ n a. a;
  beside = λ r a. absurd (none-among r a);
  wanted = λ n a. absurd (none-among n a);
}

pub raised-all : (old new : List LaneRange) (queue : List Need) (k : ℕ) (from to around around' : List PieceSpot) → length queue ≤ k → SomeRaised old new queue k from to around around' → Raises old new queue from to around around'
raised-all old new queue k from to around around' h so = record {
  added = so.added;
  list = so.list;
  rises = λ code ms cs t. subst (λ q. Rises code (rising (causes old) (requests_of queue) ms cs) (rising (causes new) (requests_of q) (ms ++ nodes_of so.added) (cs ++ nodes_of so.added))) (drop_all k queue h) (so.rises code ms cs t);
  kept = so.kept;
  beside = λ r a. so.beside r (subst (λ q. Among r (requests_of q)) (sym (take_all k queue h)) a);
  wanted = so.wanted;
}

module _ (old mid : List LaneRange) (queue : List Need) (k : ℕ) (from to around around' : List PieceSpot) (so : SomeRaised old mid queue k from to around around') (x d : Need) (within : k < length queue) (is : x ≡ get_or queue k d) where
  -- the run up to the first request that is left
  before : (code : Code) (ms cs : List Node) → AreThere old queue → Rises code (rising (causes old) (requests_of queue) ms cs) (rising (causes mid) (request_of x ∷ requests_of (drop (k + 1) queue)) (ms ++ nodes_of so.added) (cs ++ nodes_of so.added))
  before code ms cs t = subst (λ q. Rises code (rising (causes old) (requests_of queue) ms cs) (rising (causes mid) (requests_of q) (ms ++ nodes_of so.added) (cs ++ nodes_of so.added))) (rest-at queue k x d within is) (so.rises code ms cs t)

  one-more : (code : Code) (ms cs : List Node) (e : Rise) → AreThere old queue → RiseStep code (rising (causes mid) (request_of x ∷ requests_of (drop (k + 1) queue)) (ms ++ nodes_of so.added) (cs ++ nodes_of so.added)) e → Rises code (rising (causes old) (requests_of queue) ms cs) e
  one-more code ms cs e t s = runs-follow.rises code _ _ _ (before code ms cs t) (rise s rose)

  request-first : (r : Request) → Among r (requests_of (take (k + 1) queue)) → Among r (requests_of (take k queue)) ⊎ (r ≡ request_of x)
  request-first r a = go (among-split r (requests_of (take k queue)) (request_of x ∷ []) (subst (Among r) (ap requests_of (first-at queue k x d within is) ∙ map-append request_of (take k queue) (x ∷ [])) a))
    where
      go : Among r (requests_of (take k queue)) ⊎ Among r (request_of x ∷ []) → Among r (requests_of (take k queue)) ⊎ (r ≡ request_of x)
      go (inl b) = inl b
      go (inr b) = inr (only r (request_of x) b)

  own : Among (request_of x) (requests_of queue)
  own = among-map request_of x queue (among-at queue k x d within is)

  -- the piece is live already
  pub raised-passes : (around'' : List PieceSpot) → HasAll around'' (around' ++ x.spot ∷ []) → cause_at (causes mid) (node_of x.spot) ≡ true → SomeRaised old mid queue (k + 1) from to around around''
  raised-passes around'' e live = record {
    added = so.added;
    list = so.list;
    rises = λ code ms cs t. one-more code ms cs _ t (passes live);
    kept = λ n a. grown n (so.kept n a);
    beside = λ r a. beside r (request-first r a);
    wanted = so.wanted;
  }
    where
      grown : (n : Node) → Among n (nodes_of around') → Among n (nodes_of around'')
      grown n a = e n (node-before n around' (x.spot ∷ []) a)

      old-beside : (r : Request) → Among r.node (nodes_of so.added) ⊎ Among r.node (nodes_of around') → Among r.node (nodes_of so.added) ⊎ Among r.node (nodes_of around'')
      old-beside r (inl a) = inl a
      old-beside r (inr a) = inr (grown r.node a)

      beside : (r : Request) → Among r (requests_of (take k queue)) ⊎ (r ≡ request_of x) → Among r.node (nodes_of so.added) ⊎ Among r.node (nodes_of around'')
      beside r (inl a) = old-beside r (so.beside r a)
      beside r (inr f) = inr (e r.node (subst (λ n. Among n (nodes_of (around' ++ x.spot ∷ []))) (ap (λ (q : Request). q.node) (sym f)) (node-last around' x.spot)))

  -- it isn't, and comes alive
  pub raised-rises : (new : List LaneRange) (to' : List PieceSpot) → KeepsPieces old mid → to' ≡ to ++ x.spot ∷ [] → cause_at (causes mid) (node_of x.spot) ≡ false → (IsThere mid (node_of x.spot) → GivesCause mid new (node_of x.spot) x.cause) → SomeRaised old new queue (k + 1) from to' around around'
  raised-rises new to' keeps e dead gives = record {
    added = so.added ++ x.spot ∷ [];
    list = e ∙ (ap (λ ys. ys ++ x.spot ∷ []) so.list ∙ append_assoc from so.added (x.spot ∷ []));
    rises = run;
    kept = so.kept;
    beside = λ r a. beside r (request-first r a);
    wanted = λ n a. wanted n (node-either n so.added (x.spot ∷ []) a);
  }
    where
      run : (code : Code) (ms cs : List Node) → AreThere old queue → Rises code (rising (causes old) (requests_of queue) ms cs) (rising (causes new) (requests_of (drop (k + 1) queue)) (ms ++ nodes_of (so.added ++ x.spot ∷ [])) (cs ++ nodes_of (so.added ++ x.spot ∷ [])))
      run code ms cs t =
          let g = row-cause-law mid new (node_of x.spot) x.cause (gives (there-kept old mid keeps (node_of x.spot) (t (request_of x) own))) in
          let q = requests_of (drop (k + 1) queue) in
          let ms' = ms ++ nodes_of so.added in
          let cs' = cs ++ nodes_of so.added in
          let end : rising (given (causes mid) (node_of x.spot) x.cause) q (ms' ++ node_of x.spot ∷ []) (cs' ++ node_of x.spot ∷ []) ≡ rising (causes new) q (ms ++ nodes_of (so.added ++ x.spot ∷ [])) (cs ++ nodes_of (so.added ++ x.spot ∷ [])) =
          (λ i. rising (sym g.causes_are i) q (sym (node-behind ms so.added x.spot) i) (sym (node-behind cs so.added x.spot) i)) in
          subst (λ z. Rises code (rising (causes old) (requests_of queue) ms cs) z) end (one-more code ms cs _ t (rises dead))

      beside : (r : Request) → Among r (requests_of (take k queue)) ⊎ (r ≡ request_of x) → Among r.node (nodes_of (so.added ++ x.spot ∷ [])) ⊎ Among r.node (nodes_of around')
      beside r (inl a) = old-beside (so.beside r a)
        where
          old-beside : Among r.node (nodes_of so.added) ⊎ Among r.node (nodes_of around') → Among r.node (nodes_of (so.added ++ x.spot ∷ [])) ⊎ Among r.node (nodes_of around')
          old-beside (inl b) = inl (node-before r.node so.added (x.spot ∷ []) b)
          old-beside (inr b) = inr b
      beside r (inr f) = inl (subst (λ n. Among n (nodes_of (so.added ++ x.spot ∷ []))) (ap (λ (q : Request). q.node) (sym f)) (node-last so.added x.spot))

      wanted : (n : Node) → Among n (nodes_of so.added) ⊎ Among n (node_of x.spot ∷ []) → Wanted n (requests_of queue)
      wanted n (inl a) = so.wanted n a
      wanted n (inr a) = (request_of x, own, sym (only n (node_of x.spot) a))
