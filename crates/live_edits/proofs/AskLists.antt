-- What is asked for of some pieces, and of one more.
use Rattle.std.proofs.Common.{◌≡◌, ◌⊎◌, inl, inr, ◌<◌, ◌+◌, ℕ, false, length, List, [], ◌∷◌, ◌++◌, take, get_or, append_assoc, sym, ap, ◌∙◌, subst}
use Rattle.std.proofs.lemmas.List.{map_push, map_more}
use Rattle.mir_meaning.specs.Paths.{Among, here}
use Rattle.live_lanes.specs.declared.compute.flow.BlockFlow.{BlockFlow}
use Rattle.live_lanes.specs.declared.row.Cause.{Cause}
use Rattle.live_lanes.specs.declared.row.LaneRange.{LaneRange}
use Rattle.live_edits.specs.declared.pieces.PieceSpot.{PieceSpot}
use Rattle.live_lanes.specs.Table.{Numbers}
use Rattle.live_lanes.specs.Entered.{causes}
use Rattle.live_lanes.proofs.Basics.{none-among}
use Rattle.live_lanes.proofs.Numbered.{among-cases, among-left, among-right, among-split}
use Rattle.edit_laws.specs.Asked.{IsFound}
use Rattle.edit_laws.specs.Chains.{Node, cause_at}
use Rattle.edit_laws.specs.Update.{Request, Wanted}
use Rattle.live_edits.specs.declared.pieces.Need.{Need}
use Rattle.live_edits.specs.Pieces.{node_of, nodes_of, request_of, requests_of}
use Rattle.live_edits.specs.Updated.{AsksFor}

one-of : {X : Type 0} (x y : X) → Among x (y ∷ []) → x ≡ y
one-of x y m = go (among-cases x y [] m)
  where
    go : (x ≡ y) ⊎ Among x [] → x ≡ y
    go (inl e) = e
    go (inr a) = absurd (none-among x a)

module _ (slots : Numbers) (flow : List BlockFlow) (rows : List LaneRange) (ps : List PieceSpot) (k : ℕ) (d : PieceSpot) (within : k < length ps) (from mid : List Need) (asks : AsksFor slots flow rows (take k ps) from mid) where
  nodes-more : nodes_of (take (k + 1) ps) ≡ nodes_of (take k ps) ++ node_of (get_or ps k d) ∷ []
  nodes-more = map_more node_of ps k d within

  node-before : (n : Node) → Among n (nodes_of (take k ps)) → Among n (nodes_of (take (k + 1) ps))
  node-before n m = subst (Among n) (sym nodes-more) (among-left n (nodes_of (take k ps)) (node_of (get_or ps k d) ∷ []) m)

  node-here : Among (node_of (get_or ps k d)) (nodes_of (take (k + 1) ps))
  node-here = subst (Among (node_of (get_or ps k d))) (sym nodes-more) (among-right (node_of (get_or ps k d)) (nodes_of (take k ps)) (node_of (get_or ps k d) ∷ []) here)

  node-cases : (n : Node) → Among n (nodes_of (take (k + 1) ps)) → Among n (nodes_of (take k ps)) ⊎ (n ≡ node_of (get_or ps k d))
  node-cases n m = go (among-split n (nodes_of (take k ps)) (node_of (get_or ps k d) ∷ []) (subst (Among n) nodes-more m))
    where
      go : Among n (nodes_of (take k ps)) ⊎ Among n (node_of (get_or ps k d) ∷ []) → Among n (nodes_of (take k ps)) ⊎ (n ≡ node_of (get_or ps k d))
      go (inl a) = inl a
      go (inr a) = inr (one-of n (node_of (get_or ps k d)) a)

  -- one that has no reason, or is live
  pub asks-same : (to : List Need) → to ≡ mid → (cause_at (causes rows) (node_of (get_or ps k d)) ≡ false → (c : Cause) → IsFound slots flow rows (node_of (get_or ps k d)) c → ⊥) → AsksFor slots flow rows (take (k + 1) ps) from to
  asks-same to e none = record {
    added = asks.added;
    list = e ∙ asks.list;
    each = λ r m. let z = asks.each r m in (node-before r.node z.0, z.1);
    whole = λ n m dead c f. whole n dead c f (node-cases n m);
  }
    where
      whole : (n : Node) → cause_at (causes rows) n ≡ false → (c : Cause) → IsFound slots flow rows n c → Among n (nodes_of (take k ps)) ⊎ (n ≡ node_of (get_or ps k d)) → Wanted n (requests_of asks.added)
      whole n dead c f (inl a) = asks.whole n a dead c f
      whole n dead c f (inr e) = absurd (none (ap (cause_at (causes rows)) (sym e) ∙ dead) c (subst (λ t. IsFound slots flow rows t c) e f))

  -- one that has a reason
  pub asks-more : (to : List Need) (cause : Cause) → to ≡ mid ++ record { spot = get_or ps k d; cause = cause } ∷ [] → IsFound slots flow rows (node_of (get_or ps k d)) cause → AsksFor slots flow rows (take (k + 1) ps) from to
  asks-more to cause e found = record {
    added = asks.added ++ need ∷ [];
    list = e ∙ (ap (λ q. q ++ need ∷ []) asks.list ∙ append_assoc from asks.added (need ∷ []));
    each = λ r m. each r (request-cases r m);
    whole = λ n m dead c f. whole n dead c f (node-cases n m);
  }
    where
      need : Need
      need = record { spot = get_or ps k d; cause = cause }

      requests-more : requests_of (asks.added ++ need ∷ []) ≡ requests_of asks.added ++ request_of need ∷ []
      requests-more = map_push request_of asks.added need

      request-cases : (r : Request) → Among r (requests_of (asks.added ++ need ∷ [])) → Among r (requests_of asks.added) ⊎ (r ≡ request_of need)
      request-cases r m = go (among-split r (requests_of asks.added) (request_of need ∷ []) (subst (Among r) requests-more m))
        where
          go : Among r (requests_of asks.added) ⊎ Among r (request_of need ∷ []) → Among r (requests_of asks.added) ⊎ (r ≡ request_of need)
          go (inl a) = inl a
          go (inr a) = inr (one-of r (request_of need) a)

      each : (r : Request) → Among r (requests_of asks.added) ⊎ (r ≡ request_of need) → Among r.node (nodes_of (take (k + 1) ps)) × IsFound slots flow rows r.node r.cause
      each r (inl a) = let z = asks.each r a in (node-before r.node z.0, z.1)
      each r (inr e) = subst (λ (q : Request). Among q.node (nodes_of (take (k + 1) ps)) × IsFound slots flow rows q.node q.cause) (sym e) (node-here, found)

      whole : (n : Node) → cause_at (causes rows) n ≡ false → (c : Cause) → IsFound slots flow rows n c → Among n (nodes_of (take k ps)) ⊎ (n ≡ node_of (get_or ps k d)) → Wanted n (requests_of (asks.added ++ need ∷ []))
      whole n dead c f (inl a) = let z = asks.whole n a dead c f in (z.0, subst (Among z.0) (sym requests-more) (among-left z.0 (requests_of asks.added) (request_of need ∷ []) z.1), z.2)
      whole n dead c f (inr e) = (request_of need, subst (Among (request_of need)) (sym requests-more) (among-right (request_of need) (requests_of asks.added) (request_of need ∷ []) here), sym e)
