-- Lists that have all pieces of other ones.
use Rattle.std.proofs.Common.{◌≡◌, ◌⊎◌, ◌<◌, ◌-◌, ℕ, zero, suc, refl, arith, Bool, true, ◌&&◌, nat_eq, eqb-true, length, get_or, List, [], ◌∷◌, ◌++◌, sym, subst, inl, inr, append_assoc, append-nil}
use Rattle.mir_meaning.specs.Paths.{Among}
use Rattle.live_lanes.proofs.Cells.{both-left, both-right}
use Rattle.live_edits.specs.declared.pieces.PieceSpot.{PieceSpot}
use Rattle.live_edits.specs.Pieces.{node_of, nodes_of, HasAll}
use Rattle.live_edits.proofs.RiseSteps.{among-at, among-map, only, node-before, node-after, node-either}

pub has-equal : (xs ys : List PieceSpot) → xs ≡ ys → HasAll xs ys
has-equal xs ys e n a = subst (λ zs. Among n (nodes_of zs)) (sym e) a

-- nothing was added yet
pub has-first : (xs : List PieceSpot) → HasAll xs (xs ++ [])
has-first xs = has-equal xs (xs ++ []) (sym (append-nil xs))

-- a piece is there already
pub has-own : (xs : List PieceSpot) (p : PieceSpot) → Among (node_of p) (nodes_of xs) → HasAll xs (xs ++ p ∷ [])
has-own xs p a n b = go (node-either n xs (p ∷ []) b)
  where
    go : Among n (nodes_of xs) ⊎ Among n (nodes_of (p ∷ [])) → Among n (nodes_of xs)
    go (inl c) = c
    go (inr c) = subst (λ m. Among m (nodes_of xs)) (sym (only n (node_of p) c)) a

-- and the longer list has no other ones
pub only-own : (xs : List PieceSpot) (p : PieceSpot) → HasAll (xs ++ p ∷ []) xs
only-own xs p n a = node-before n xs (p ∷ []) a

-- lists are added one after the other
pub has-both : (from between to more last : List PieceSpot) → HasAll between (from ++ more) → HasAll to (between ++ last) → HasAll to (from ++ (more ++ last))
has-both from between to more last f g n a = go (node-either n (from ++ more) last (subst (λ ys. Among n (nodes_of ys)) (sym (append_assoc from more last)) a))
  where
    go : Among n (nodes_of (from ++ more)) ⊎ Among n (nodes_of last) → Among n (nodes_of to)
    go (inl b) = g n (node-before n between last (f n b))
    go (inr b) = g n (node-after n between last b)

pub only-both : (from between to more last : List PieceSpot) → HasAll (from ++ more) between → HasAll (between ++ last) to → HasAll (from ++ (more ++ last)) to
only-both from between to more last f g n a = subst (λ ys. Among n (nodes_of ys)) (append_assoc from more last) (go (node-either n between last (g n a)))
  where
    go : Among n (nodes_of between) ⊎ Among n (nodes_of last) → Among n (nodes_of ((from ++ more) ++ last))
    go (inl b) = node-before n (from ++ more) last (f n b)
    go (inr b) = node-after n (from ++ more) last b

-- the same behind both
pub has-before : (xs ys more : List PieceSpot) → HasAll xs ys → HasAll (xs ++ more) (ys ++ more)
has-before xs ys more f n a = go (node-either n ys more a)
  where
    go : Among n (nodes_of ys) ⊎ Among n (nodes_of more) → Among n (nodes_of (xs ++ more))
    go (inl b) = node-before n xs more (f n b)
    go (inr b) = node-after n xs more b

pub last-within : (n : ℕ) → (n ≡ 0 → ⊥) → n - 1 < n
last-within zero h = absurd (h refl)
last-within (suc n) h = omega arith

-- a piece that is the same as one that stands in a list is there
pub same-among : (xs : List PieceSpot) (k : ℕ) (x s d : PieceSpot) → k < length xs → x ≡ get_or xs k d → ((nat_eq x.lane s.lane && nat_eq x.block s.block) && nat_eq x.index s.index) ≡ true → Among (node_of s) (nodes_of xs)
same-among xs k x s d h e all =
    let lane : Bool = nat_eq x.lane s.lane in
    let block : Bool = nat_eq x.block s.block in
    let index : Bool = nat_eq x.index s.index in
    let first = both-left (lane && block) index all in
    let l : x.lane ≡ s.lane = eqb-true x.lane s.lane (both-left lane block first) in
    let b : x.block ≡ s.block = eqb-true x.block s.block (both-right lane block first) in
    let n : x.index ≡ s.index = eqb-true x.index s.index (both-right (lane && block) index all) in
    let is : node_of x ≡ node_of s = (λ i. (l i, b i, n i)) in
    subst (λ m. Among m (nodes_of xs)) is (among-map node_of x xs (among-at xs k x d h e))
