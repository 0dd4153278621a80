-- What the parts of an update do, joined.
use Rattle.std.proofs.Common.{◌≡◌, ◌⊎◌, ℕ, List, [], ◌++◌, Some, inl, inr, sym, ap, ◌∙◌, subst, append_assoc}
use Rattle.std.specs.Prelude.{Result, Ok, Err, OnOk}
use Rattle.std.proofs.lemmas.List.{map-append}
use Rattle.mir_meaning.specs.Paths.{Among, Code}
use Rattle.live_lanes.specs.declared.compute.flow.BlockFlow.{BlockFlow}
use Rattle.live_lanes.specs.declared.row.Cause.{Cause}
use Rattle.live_lanes.specs.declared.row.LaneRange.{LaneRange}
use Rattle.live_edits.specs.declared.pieces.PieceSpot.{PieceSpot}
use Rattle.live_lanes.specs.Table.{Numbers}
use Rattle.live_lanes.specs.Entered.{causes, IsTableOf}
use Rattle.live_lanes.specs.Lasting.{AllRise}
use Rattle.live_lanes.proofs.Growth.{piece-law}
use Rattle.live_lanes.proofs.Numbered.{among-split}
use Rattle.edit_laws.specs.Chains.{Node}
use Rattle.edit_laws.specs.Reasons.{ReasonFor, Touched}
use Rattle.edit_laws.specs.Update.{Falls, falling, Asks, Rises, rising}
use Rattle.edit_laws.proofs.Asked.{asks-law}
use Rattle.edit_laws.proofs.Runs.{runs-follow}
use Rattle.live_edits.specs.declared.pieces.Need.{Need}
use Rattle.live_edits.specs.Pieces.{nodes_of, HasAll, request_of, requests_of, IsThere, AreThere, KeepsPieces}
use Rattle.live_edits.specs.Updated.{AreTold, IsCarriedOver, LooksAgain, LetsFall, AsksFor, Revives, EndsAgain, AreUpdated}
use Rattle.live_edits.proofs.EndSteps.{right-same}
use Rattle.live_edits.proofs.RiseSteps.{nodes-both, node-before, node-after}
use Rattle.live_edits.proofs.RiseThere.{table-stays, found-there}

-- what follows from what holds of an Ok
pub on-ok : {T E : Type 0} (r : Result T E) {P Q : Type 0} → OnOk r P → (P → Q) → OnOk r Q
on-ok (Ok x) h f = f h
on-ok (Err e) h f = tt

-- what is asked of the pieces of one list is asked of those of another that has the same
pub asks-alike : (slots : Numbers) (flow : List BlockFlow) (rows : List LaneRange) (xs ys : List PieceSpot) (from to : List Need) → HasAll xs ys → HasAll ys xs → AsksFor slots flow rows xs from to → AsksFor slots flow rows ys from to
asks-alike slots flow rows xs ys from to f g x = record {
  added = x.added;
  list = x.list;
  each = λ r a. let e = x.each r a in (g r.node e.0, e.1);
  whole = λ n a. x.whole n (f n a);
}

-- each part as its contract tells it, from rows to rows
pub record DoesParts (ids : List ℕ) (slots : Numbers) (flow : List BlockFlow) (r0 r1 r2 r3 r4 : List LaneRange) (suspects start first fallen around around' : List PieceSpot) (some queue : List Need) (risen again : List PieceSpot) : Type 0 where
  pub looks : LooksAgain ids slots flow r0 r1 suspects first
  pub looks_keep : KeepsPieces r0 r1
  pub falls : LetsFall slots flow r1 r2 first fallen start around
  pub falls_keep : KeepsPieces r1 r2
  pub asks : AllRise slots r2 → AsksFor slots flow r2 suspects [] some
  pub asks_more : AllRise slots r2 → AsksFor slots flow r2 fallen some queue
  pub revives : Revives slots flow r2 r3 queue risen around around'
  pub rises_keep : KeepsPieces r2 r3
  pub ends : AllRise slots r3 → EndsAgain slots flow r3 r4 (nodes_of again)
  pub starts : HasAll start suspects
  pub all : HasAll again (around' ++ risen)

module _ (ids : List ℕ) (slots : Numbers) (flow : List BlockFlow) (r0 r1 r2 r3 r4 : List LaneRange) (suspects start first fallen around around' : List PieceSpot) (some queue : List Need) (risen again : List PieceSpot) (d : DoesParts ids slots flow r0 r1 r2 r3 r4 suspects start first fallen around around' some queue risen again) (touched : Touched) (code : Code) (told : AreTold touched ids) (over : IsCarriedOver touched code slots flow r0 (nodes_of suspects)) where
  t1 : IsTableOf code slots flow r1
  t1 = table-stays r0 r1 d.looks_keep code slots flow over.table

  t2 : IsTableOf code slots flow r2
  t2 = table-stays r1 r2 d.falls_keep code slots flow t1

  t3 : IsTableOf code slots flow r3
  t3 = table-stays r2 r3 d.rises_keep code slots flow t2

  fallen-is : (nodes_of suspects ++ nodes_of first) ++ nodes_of d.falls.more ≡ nodes_of suspects ++ nodes_of fallen
  fallen-is = append_assoc (nodes_of suspects) (nodes_of first) (nodes_of d.falls.more) ∙ ap (λ ys. nodes_of suspects ++ ys) (sym (nodes-both first d.falls.more) ∙ ap nodes_of (sym d.falls.list))

  falls-all : Falls touched code (falling (causes r0) (nodes_of suspects) [] (nodes_of suspects)) (falling (causes r2) [] [] (nodes_of suspects ++ nodes_of fallen))
  falls-all =
      subst (λ qs. Falls touched code (falling (causes r0) (nodes_of suspects) [] (nodes_of suspects)) (falling (causes r2) [] [] qs)) fallen-is
      (runs-follow.falls touched code _ _ _ (d.looks touched code told over) (d.falls.falls touched code (nodes_of suspects ++ nodes_of first) t1))

  first-asks : AsksFor slots flow r2 suspects [] some
  first-asks = d.asks (piece-law code slots flow r2 t2)

  more-asks : AsksFor slots flow r2 fallen some queue
  more-asks = d.asks_more (piece-law code slots flow r2 t2)

  queue-is : requests_of first-asks.added ++ requests_of more-asks.added ≡ requests_of queue
  queue-is = sym (map-append request_of first-asks.added more-asks.added) ∙ (ap (λ ys. requests_of (ys ++ more-asks.added)) (sym first-asks.list) ∙ ap requests_of (sym more-asks.list))

  asks-all : Asks code (causes r2) (nodes_of suspects ++ nodes_of fallen) (requests_of queue)
  asks-all =
      let x = asks-law code slots flow r2 t2 over.outward (nodes_of suspects) (requests_of first-asks.added) first-asks.each first-asks.whole in
      let y = asks-law code slots flow r2 t2 over.outward (nodes_of fallen) (requests_of more-asks.added) more-asks.each more-asks.whole in
      subst (λ q. Asks code (causes r2) (nodes_of suspects ++ nodes_of fallen) q) queue-is (runs-follow.both code (causes r2) (nodes_of suspects) (nodes_of fallen) (requests_of first-asks.added) (requests_of more-asks.added) x y)

  all-there : AreThere r2 queue
  all-there r a = go (among-split r (requests_of first-asks.added) (requests_of more-asks.added) (subst (Among r) (sym queue-is) a))
    where
      go : Among r (requests_of first-asks.added) ⊎ Among r (requests_of more-asks.added) → IsThere r2 r.node
      go (inl b) = found-there slots flow r2 (first-asks.each r b).1
      go (inr b) = found-there slots flow r2 (more-asks.each r b).1

  ends-again : EndsAgain slots flow r3 r4 (nodes_of again)
  ends-again = d.ends (piece-law code slots flow r3 t3)

  rises-all : Rises code (rising (causes r2) (requests_of queue) [] (nodes_of suspects ++ nodes_of fallen)) (rising (causes r4) [] [] ((nodes_of suspects ++ nodes_of fallen) ++ nodes_of risen))
  rises-all =
      let same : causes r3 ≡ causes r4 = sym (λ i. λ l b n. ends-again.causes_stay l b n i) in
      subst (λ w. Rises code (rising (causes r2) (requests_of queue) [] (nodes_of suspects ++ nodes_of fallen)) (rising w [] [] ((nodes_of suspects ++ nodes_of fallen) ++ nodes_of risen))) same (d.revives.rises code (nodes_of suspects ++ nodes_of fallen) t2 all-there)

  again-list : (n : Node) → Among n (nodes_of suspects) → Among n (nodes_of again)
  again-list n a = d.all n (node-before n around' risen (d.revives.kept n (d.falls.kept n (d.starts n a))))

  again-around : (n : Node) → Among n (nodes_of around') → Among n (nodes_of again)
  again-around n a = d.all n (node-before n around' risen a)

  again-risen : (n : Node) → Among n (nodes_of risen) → Among n (nodes_of again)
  again-risen n a = d.all n (node-after n around' risen a)

  needs-again : (m : Node) → Among m (nodes_of fallen) ⊎ Among m (nodes_of risen) → (n : Node) (c : Cause) → ReasonFor code n c (Some m) → Among n (nodes_of again)
  needs-again m (inl a) n c w = again-around n (d.revives.kept n (d.falls.beside code t1 m a n c w))
  needs-again m (inr a) n c w = go (d.revives.beside code t2 all-there m a n c w)
    where
      go : Among n (nodes_of risen) ⊎ Among n (nodes_of around') → Among n (nodes_of again)
      go (inl b) = again-risen n b
      go (inr b) = again-around n b

  pub parts-update : AreUpdated touched code slots flow r0 r4 (nodes_of suspects)
  parts-update = record {
    shapes_stay = λ l b. ends-again.shapes_stay l b ∙ (d.rises_keep.shapes l b ∙ (d.falls_keep.shapes l b ∙ d.looks_keep.shapes l b));
    between = causes r2;
    fallen = nodes_of fallen;
    falls = falls-all;
    queue = requests_of queue;
    asks = asks-all;
    risen = nodes_of risen;
    rises = rises-all;
    again = nodes_of again;
    with_list = again-list;
    with_needs = λ m a n c w. needs-again m (among-split m (nodes_of fallen) (nodes_of risen) a) n c w;
    ended = λ n a. ends-again.ended n a ∙ sym (right-same slots flow r3 r4 ends-again.shapes_stay ends-again.causes_stay n.0 n.1 n.2);
    kept = λ n a. ends-again.kept n a ∙ (d.rises_keep.ends n.0 n.1 n.2 ∙ (d.falls_keep.ends n.0 n.1 n.2 ∙ d.looks_keep.ends n.0 n.1 n.2));
  }
