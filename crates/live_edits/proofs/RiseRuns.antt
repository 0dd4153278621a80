-- All that leads to what came alive comes alive, as far as the loop over it has come.
use Rattle.std.proofs.Common.{◌≡◌, ◌<◌, ◌≤◌, ◌⊎◌, ℕ, ◌+◌, length, List, [], ◌∷◌, ◌++◌, Some, inl, inr, sym, ap, ◌∙◌, subst, arith, get_or, take, drop, append_assoc}
use Rattle.std.proofs.lemmas.List.{take_all, drop_all, take-append-le, drop-append-le}
use Rattle.mir_meaning.specs.Paths.{Among, Code}
use Rattle.live_lanes.specs.declared.compute.flow.BlockFlow.{BlockFlow}
use Rattle.live_lanes.specs.declared.row.Cause.{Cause}
use Rattle.live_lanes.specs.declared.row.LaneRange.{LaneRange}
use Rattle.live_edits.specs.declared.pieces.PieceSpot.{PieceSpot}
use Rattle.live_lanes.specs.Table.{Numbers}
use Rattle.live_lanes.specs.Entered.{causes, IsTableOf}
use Rattle.live_lanes.specs.Lasting.{AllRise}
use Rattle.live_lanes.proofs.Growth.{piece-law}
use Rattle.edit_laws.specs.Chains.{Node}
use Rattle.edit_laws.specs.Needs.{AreNeeds}
use Rattle.edit_laws.specs.Reasons.{ReasonFor}
use Rattle.edit_laws.specs.Update.{Wanted, Rises, rising, rise, follows}
use Rattle.edit_laws.proofs.Needs.{needs-law, needs-serve-law}
use Rattle.edit_laws.proofs.Runs.{runs-follow}
use Rattle.live_edits.specs.declared.pieces.Need.{Need}
use Rattle.live_edits.specs.Pieces.{node_of, nodes_of, requests_of, IsThere, AreThere, KeepsPieces}
use Rattle.live_edits.specs.Updated.{AreNeedsOf, Raises, Revives}
use Rattle.live_edits.proofs.RiseThere.{there-kept, table-stays, need-there}
use Rattle.live_edits.proofs.RiseSteps.{rest-at, first-at, among-at, among-map, only, nodes-both, node-before, node-after, node-either}

-- as far as the loop over what came alive has come
pub record SomeRisen (slots : Numbers) (flow : List BlockFlow) (old new : List LaneRange) (queue : List Need) (k : ℕ) (risen around around' : List PieceSpot) : Type 0 where
  pub rises : (code : Code) (asked : List Node) → IsTableOf code slots flow old → AreThere old queue → Rises code (rising (causes old) (requests_of queue) [] asked) (rising (causes new) [] (nodes_of (drop k risen)) (asked ++ nodes_of risen))
  pub stand : (code : Code) → IsTableOf code slots flow old → AreThere old queue → (n : Node) → Among n (nodes_of risen) → IsThere new n
  pub kept : (n : Node) → Among n (nodes_of around) → Among n (nodes_of around')
  pub beside : (code : Code) → IsTableOf code slots flow old → AreThere old queue → (m : Node) → Among m (nodes_of (take k risen)) → (n : Node) (c : Cause) → ReasonFor code n c (Some m) → Among n (nodes_of risen) ⊎ Among n (nodes_of around')

pub risen-first : (slots : Numbers) (flow : List BlockFlow) (old new : List LaneRange) (queue : List Need) (risen around around' : List PieceSpot) → KeepsPieces old new → Raises old new queue [] risen around around' → SomeRisen slots flow old new queue 0 risen around around'
risen-first slots flow old new queue risen around around' keeps r = record {
  rises = λ code asked t th. subst (λ ys. Rises code (rising (causes old) (requests_of queue) [] asked) (rising (causes new) [] (nodes_of ys) (asked ++ nodes_of ys))) (sym r.list) (r.rises code [] asked th);
  stand = λ code t th n a. stands th n (r.wanted n (subst (λ ys. Among n (nodes_of ys)) r.list a));
  kept = r.kept;
  beside = λ code t th m a. absurd (elim a [ ]);
}
  where
    stands : AreThere old queue → (n : Node) → Wanted n (requests_of queue) → IsThere new n
    stands th n w = there-kept old new keeps n (subst (IsThere old) w.2 (th w.0 w.1))

module _ (slots : Numbers) (flow : List BlockFlow) (old mid new : List LaneRange) (queue : List Need) (k : ℕ) (risen around around' : List PieceSpot) (so : SomeRisen slots flow old mid queue k risen around around') (keeps : KeepsPieces old mid) (more : KeepsPieces mid new) (x d : PieceSpot) (within : k < length risen) (is : x ≡ get_or risen k d) (needs : List Need) (found : AllRise slots mid → AreNeedsOf slots flow mid (node_of x) needs) (risen' around'' : List PieceSpot) (r : Raises mid new needs risen risen' around' around'') where
  table : (code : Code) → IsTableOf code slots flow old → IsTableOf code slots flow mid
  table code t = table-stays old mid keeps code slots flow t

  own : (code : Code) → IsTableOf code slots flow old → AreNeedsOf slots flow mid (node_of x) needs
  own code t = found (piece-law code slots flow mid (table code t))

  lead : (code : Code) → IsTableOf code slots flow old → AreNeeds code (node_of x) (requests_of needs)
  lead code t = let o = own code t in needs-law code slots flow mid (table code t) (node_of x) (requests_of needs) o.each o.whole

  x-among : Among (node_of x) (nodes_of risen)
  x-among = among-map node_of x risen (among-at risen k x d within is)

  needs-there : (code : Code) → IsTableOf code slots flow old → AreThere old queue → AreThere mid needs
  needs-there code t th q a = let o = own code t in need-there slots flow mid (o.each q a) (so.stand code t th (node_of x) x-among)

  -- what is left behind the piece, and what came alive with it
  rest-nodes : nodes_of (drop (k + 1) risen) ++ nodes_of r.added ≡ nodes_of (drop (k + 1) risen')
  rest-nodes =
      let h : k + 1 ≤ length risen = omega arith in
      sym (nodes-both (drop (k + 1) risen) r.added) ∙ (ap nodes_of (sym (drop-append-le (k + 1) risen r.added h)) ∙ ap (λ ys. nodes_of (drop (k + 1) ys)) (sym r.list))

  all-nodes : (asked : List Node) → (asked ++ nodes_of risen) ++ nodes_of r.added ≡ asked ++ nodes_of risen'
  all-nodes asked = append_assoc asked (nodes_of risen) (nodes_of r.added) ∙ ap (λ ys. asked ++ ys) (sym (nodes-both risen r.added) ∙ ap nodes_of (sym r.list))

  more-run : (code : Code) (asked : List Node) → IsTableOf code slots flow old → AreThere old queue → Rises code (rising (causes mid) [] (nodes_of (drop k risen)) (asked ++ nodes_of risen)) (rising (causes new) [] (nodes_of (drop (k + 1) risen')) (asked ++ nodes_of risen'))
  more-run code asked t th =
      let serve = needs-serve-law code (node_of x) (requests_of needs) (lead code t) in
      let run = r.rises code (nodes_of (drop (k + 1) risen)) (asked ++ nodes_of risen) (needs-there code t th) in
      let after : Rises code (rising (causes mid) [] (node_of x ∷ nodes_of (drop (k + 1) risen)) (asked ++ nodes_of risen)) (rising (causes new) [] (nodes_of (drop (k + 1) risen) ++ nodes_of r.added) ((asked ++ nodes_of risen) ++ nodes_of r.added)) = rise (follows (requests_of needs) serve.lead) run in
      let begin : rising (causes mid) [] (node_of x ∷ nodes_of (drop (k + 1) risen)) (asked ++ nodes_of risen) ≡ rising (causes mid) [] (nodes_of (drop k risen)) (asked ++ nodes_of risen) = ap (λ ys. rising (causes mid) [] (nodes_of ys) (asked ++ nodes_of risen)) (sym (rest-at risen k x d within is)) in
      let end : rising (causes new) [] (nodes_of (drop (k + 1) risen) ++ nodes_of r.added) ((asked ++ nodes_of risen) ++ nodes_of r.added) ≡ rising (causes new) [] (nodes_of (drop (k + 1) risen')) (asked ++ nodes_of risen') = (λ i. rising (causes new) [] (rest-nodes i) (all-nodes asked i)) in
      subst (λ z. Rises code (rising (causes mid) [] (nodes_of (drop k risen)) (asked ++ nodes_of risen)) z) end (subst (λ c. Rises code c (rising (causes new) [] (nodes_of (drop (k + 1) risen) ++ nodes_of r.added) ((asked ++ nodes_of risen) ++ nodes_of r.added))) begin after)

  in-new : (n : Node) → Among n (nodes_of risen) → Among n (nodes_of risen')
  in-new n a = subst (λ ys. Among n (nodes_of ys)) (sym r.list) (node-before n risen r.added a)

  added-new : (n : Node) → Among n (nodes_of r.added) → Among n (nodes_of risen')
  added-new n a = subst (λ ys. Among n (nodes_of ys)) (sym r.list) (node-after n risen r.added a)

  -- the first ones, and the piece
  first-nodes : (m : Node) → Among m (nodes_of (take (k + 1) risen')) → Among m (nodes_of (take k risen)) ⊎ (m ≡ node_of x)
  first-nodes m a = go (node-either m (take k risen) (x ∷ []) (subst (λ ys. Among m (nodes_of ys)) e a))
    where
      e : take (k + 1) risen' ≡ take k risen ++ x ∷ []
      e =
          let h : k + 1 ≤ length risen = omega arith in
          ap (take (k + 1)) r.list ∙ (take-append-le (k + 1) risen r.added h ∙ first-at risen k x d within is)

      go : Among m (nodes_of (take k risen)) ⊎ Among m (nodes_of (x ∷ [])) → Among m (nodes_of (take k risen)) ⊎ (m ≡ node_of x)
      go (inl b) = inl b
      go (inr b) = inr (only m (node_of x) b)

  pub risen-more : SomeRisen slots flow old new queue (k + 1) risen' around around''
  risen-more = record {
    rises = λ code asked t th. runs-follow.rises code _ _ _ (so.rises code asked t th) (more-run code asked t th);
    stand = λ code t th n a. there-kept mid new more n (stands code t th n (node-either n risen r.added (subst (λ ys. Among n (nodes_of ys)) r.list a)));
    kept = λ n a. r.kept n (so.kept n a);
    beside = λ code t th m a n c w. beside code t th m (first-nodes m a) n c w;
  }
    where
      by-wanted : (code : Code) → IsTableOf code slots flow old → AreThere old queue → (n : Node) → Wanted n (requests_of needs) → IsThere mid n
      by-wanted code t th n w = subst (IsThere mid) w.2 (needs-there code t th w.0 w.1)

      stands : (code : Code) → IsTableOf code slots flow old → AreThere old queue → (n : Node) → Among n (nodes_of risen) ⊎ Among n (nodes_of r.added) → IsThere mid n
      stands code t th n (inl a) = so.stand code t th n a
      stands code t th n (inr a) = by-wanted code t th n (r.wanted n a)

      as-before : (n : Node) → Among n (nodes_of risen) ⊎ Among n (nodes_of around') → Among n (nodes_of risen') ⊎ Among n (nodes_of around'')
      as-before n (inl a) = inl (in-new n a)
      as-before n (inr a) = inr (r.kept n a)

      now : (n : Node) → Among n (nodes_of r.added) ⊎ Among n (nodes_of around'') → Among n (nodes_of risen') ⊎ Among n (nodes_of around'')
      now n (inl a) = inl (added-new n a)
      now n (inr a) = inr a

      beside : (code : Code) → IsTableOf code slots flow old → AreThere old queue → (m : Node) → Among m (nodes_of (take k risen)) ⊎ (m ≡ node_of x) → (n : Node) (c : Cause) → ReasonFor code n c (Some m) → Among n (nodes_of risen') ⊎ Among n (nodes_of around'')
      beside code t th m (inl a) n c w = as-before n (so.beside code t th m a n c w)
      beside code t th m (inr e) n c w =
          let l = lead code t in
          let z = l.whole n c (subst (λ y. ReasonFor code n c (Some y)) e w) in
          now n (subst (λ y. Among y (nodes_of r.added) ⊎ Among y (nodes_of around'')) z.2 (r.beside z.0 z.1))

pub risen-all : (slots : Numbers) (flow : List BlockFlow) (old new : List LaneRange) (queue : List Need) (k : ℕ) (risen around around' : List PieceSpot) → length risen ≤ k → SomeRisen slots flow old new queue k risen around around' → Revives slots flow old new queue risen around around'
risen-all slots flow old new queue k risen around around' h so = record {
  rises = λ code asked t th. subst (λ ys. Rises code (rising (causes old) (requests_of queue) [] asked) (rising (causes new) [] (nodes_of ys) (asked ++ nodes_of risen))) (drop_all k risen h) (so.rises code asked t th);
  kept = so.kept;
  beside = λ code t th m a. so.beside code t th m (subst (λ ys. Among m (nodes_of ys)) (sym (take_all k risen h)) a);
}
