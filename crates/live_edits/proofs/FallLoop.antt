-- Along the list of fallen pieces all falls that is live for their sake.
use Rattle.std.proofs.Common.{◌≡◌, ◌<◌, ◌≤◌, ◌⊎◌, ℕ, zero, suc, ◌+◌, length, take, drop, get_or, List, [], ◌∷◌, ◌++◌, Some, refl, sym, ap, ◌∙◌, subst, inl, inr, arith, append_assoc, append-nil, drop-cons}
use Rattle.std.proofs.Math.Seq.{take-suc}
use Rattle.std.proofs.lemmas.List.{map-append, drop-append-le, take-append-le}
use Rattle.mir_meaning.specs.Paths.{Among, here, there, Code}
use Rattle.live_lanes.specs.declared.compute.flow.BlockFlow.{BlockFlow}
use Rattle.live_lanes.specs.declared.row.Cause.{Cause}
use Rattle.live_lanes.specs.declared.row.LaneRange.{LaneRange}
use Rattle.live_edits.specs.declared.pieces.PieceSpot.{PieceSpot}
use Rattle.live_lanes.specs.Table.{Numbers}
use Rattle.live_lanes.specs.Entered.{causes, IsTableOf}
use Rattle.live_lanes.specs.Lasting.{AllRise}
use Rattle.live_lanes.proofs.Basics.{none-among}
use Rattle.live_lanes.proofs.Growth.{piece-law}
use Rattle.live_lanes.proofs.Numbered.{among-cases, among-split}
use Rattle.edit_laws.specs.Chains.{Node}
use Rattle.edit_laws.specs.Needs.{AreNeeds, NeedsServe}
use Rattle.edit_laws.specs.Reasons.{ReasonFor, Touched}
use Rattle.edit_laws.specs.Update.{Fall, Falls, falling, fell, fall, told, Request}
use Rattle.edit_laws.proofs.Needs.{needs-law, needs-serve-law}
use Rattle.edit_laws.proofs.Runs.{runs-follow}
use Rattle.live_edits.specs.declared.pieces.Need.{Need}
use Rattle.live_edits.specs.Pieces.{node_of, nodes_of, HasAll, request_of, requests_of, KeepsPieces}
use Rattle.live_edits.specs.Updated.{AreNeedsOf, LetsFall}
use Rattle.live_edits.specs.Fallen.{spots_of, LosesAll}
use Rattle.live_edits.proofs.FallNeeds.{nodes-append, table-stays}
use Rattle.live_edits.proofs.RiseSteps.{node-before, node-after}

-- as far as the loop over the fallen pieces has come
pub record FallsSome (slots : Numbers) (flow : List BlockFlow) (old new : List LaneRange) (k : ℕ) (first fallen around around' : List PieceSpot) : Type 0 where
  pub more : List PieceSpot
  pub list : fallen ≡ first ++ more
  pub falls : (touched : Touched) (code : Code) (asked : List Node) → IsTableOf code slots flow old → Falls touched code (falling (causes old) [] (nodes_of first) asked) (falling (causes new) [] (nodes_of (drop k fallen)) (asked ++ nodes_of more))
  pub kept : (n : Node) → Among n (nodes_of around) → Among n (nodes_of around')
  pub beside : (code : Code) → IsTableOf code slots flow old → (m : Node) → Among m (nodes_of (take k fallen)) → (n : Node) (c : Cause) → ReasonFor code n c (Some m) → Among n (nodes_of around')

pub falls-none : (slots : Numbers) (flow : List BlockFlow) (rows : List LaneRange) (fallen around : List PieceSpot) → FallsSome slots flow rows rows 0 fallen fallen around around
falls-none slots flow rows fallen around = record {
  more = [];
  list = sym (append-nil fallen);
  falls = λ touched code asked t. subst (λ (d : Fall). Falls touched code (falling (causes rows) [] (nodes_of fallen) asked) d) (λ k. falling (causes rows) [] (nodes_of fallen) (sym (append-nil asked) k)) fell;
  kept = λ n a. a;
  beside = λ code t m a. absurd (none-among m a);
}

among-nodes : (n : Node) (needs : List Need) (r : Request) → Among r (requests_of needs) → r.node ≡ n → Among n (nodes_of (spots_of needs))
among-nodes n [] r a e = absurd (none-among r a)
among-nodes n (x ∷ needs) r a e = go (among-cases r (request_of x) (requests_of needs) a) (λ b. among-nodes n needs r b e)
  where
    go : (r ≡ request_of x) ⊎ Among r (requests_of needs) → (Among r (requests_of needs) → Among n (nodes_of (spots_of needs))) → Among n (nodes_of (spots_of (x ∷ needs)))
    go (inl f) ih = subst (λ z. Among z (nodes_of (spots_of (x ∷ needs)))) (sym (ap (λ (q : Request). q.node) f) ∙ e) here
    go (inr b) ih = there (ih b)

-- one piece more
module _ (slots : Numbers) (flow : List BlockFlow) (old mid new : List LaneRange) (k : ℕ) (x : PieceSpot) (needs : List Need) (first between fallen around around' around'' : List PieceSpot) (s : FallsSome slots flow old mid k first between around around') (within : k < length between) (is : x ≡ get_or between k x) (found : AllRise slots mid → AreNeedsOf slots flow mid (node_of x) needs) (y : LosesAll mid new needs between fallen) (are : HasAll around'' (around' ++ spots_of needs)) (pieces : KeepsPieces old mid) where
  -- the first pieces of the longer list
  taken : take (suc k) fallen ≡ take k between ++ x ∷ []
  taken = ap (take (suc k)) y.list ∙ (take-append-le (suc k) between y.more (omega arith) ∙ (take-suc between k x within ∙ ap (λ z. take k between ++ z ∷ []) (sym is)))

  rest-before : drop k between ≡ x ∷ drop (suc k) between
  rest-before = drop-cons between k x within ∙ ap (λ z. z ∷ drop (suc k) between) (sym is)

  rest-after : drop (suc k) fallen ≡ drop (suc k) between ++ y.more
  rest-after = ap (drop (suc k)) y.list ∙ drop-append-le (suc k) between y.more (omega arith)

  kept-more : (n : Node) → Among n (nodes_of around') → Among n (nodes_of around'')
  kept-more n a = are n (node-before n around' (spots_of needs) a)

  module _ (code : Code) (t : IsTableOf code slots flow old) where
    t' : IsTableOf code slots flow mid
    t' = table-stays code slots flow old mid t pieces

    of-piece : AreNeedsOf slots flow mid (node_of x) needs
    of-piece = found (λ l b. piece-law code slots flow mid t' l b)

    are-needs : AreNeeds code (node_of x) (requests_of needs)
    are-needs = needs-law code slots flow mid t' (node_of x) (requests_of needs) of-piece.each of-piece.whole

    serve : NeedsServe code (node_of x) (requests_of needs)
    serve = needs-serve-law code (node_of x) (requests_of needs) are-needs

    falls-on : (touched : Touched) (asked : List Node) → Falls touched code (falling (causes mid) [] (nodes_of (drop k between)) asked) (falling (causes new) [] (nodes_of (drop (suc k) fallen)) (asked ++ nodes_of y.more))
    falls-on touched asked =
        subst (λ (zs : List PieceSpot). Falls touched code (falling (causes mid) [] (nodes_of zs) asked) (falling (causes new) [] (nodes_of (drop (suc k) fallen)) (asked ++ nodes_of y.more))) (sym rest-before)
        (subst (λ (zs : List Node). Falls touched code (falling (causes mid) [] (node_of x ∷ nodes_of (drop (suc k) between)) asked) (falling (causes new) [] zs (asked ++ nodes_of y.more))) (sym (ap nodes_of rest-after ∙ map-append node_of (drop (suc k) between) y.more))
        (runs-follow.falls touched code _ _ _
        (y.falls touched code slots flow (node_of x) (nodes_of (drop (suc k) between)) asked t' are-needs.reasons)
        (fall (told (serve.told (causes new) (y.lost code slots flow (node_of x) t' are-needs.reasons))) fell)))

    beside-more : (n' : Node) → Among n' (nodes_of (take (suc k) fallen)) → (n : Node) (c : Cause) → ReasonFor code n c (Some n') → Among n (nodes_of around'')
    beside-more n' a n c r = go (among-split n' (nodes_of (take k between)) (node_of x ∷ []) (subst (Among n') (ap nodes_of taken ∙ map-append node_of (take k between) (x ∷ [])) a))
      where
        own : n' ≡ node_of x → Among n (nodes_of around'')
        own e =
            let w = are-needs.whole n c (subst (λ (z : Node). ReasonFor code n c (Some z)) e r) in
            are n (node-after n around' (spots_of needs) (among-nodes n needs w.0 w.1 w.2))

        last : (n' ≡ node_of x) ⊎ Among n' [] → Among n (nodes_of around'')
        last (inl e) = own e
        last (inr b) = absurd (none-among n' b)

        go : Among n' (nodes_of (take k between)) ⊎ Among n' (node_of x ∷ []) → Among n (nodes_of around'')
        go (inl b) = kept-more n (s.beside code t n' b n c r)
        go (inr b) = last (among-cases n' (node_of x) [] b)

  falls-next : FallsSome slots flow old new (suc k) first fallen around around''
  falls-next = record {
    more = s.more ++ y.more;
    list = y.list ∙ (ap (λ zs. zs ++ y.more) s.list ∙ append_assoc first s.more y.more);
    falls = λ touched code asked t.
        subst (λ (zs : List Node). Falls touched code (falling (causes old) [] (nodes_of first) asked) (falling (causes new) [] (nodes_of (drop (suc k) fallen)) zs)) (nodes-append asked s.more y.more)
        (runs-follow.falls touched code _ _ _ (s.falls touched code asked t) (falls-on code t touched (asked ++ nodes_of s.more)));
    kept = λ n a. kept-more n (s.kept n a);
    beside = λ code t n' a n c r. beside-more code t n' a n c r;
  }

  pub falls-more : FallsSome slots flow old new (k + 1) first fallen around around''
  falls-more = subst (λ j. FallsSome slots flow old new j first fallen around around'') (let e : suc k ≡ k + 1 = omega arith in e) falls-next

drop-all : (xs : List PieceSpot) (k : ℕ) → length xs ≤ k → drop k xs ≡ []
drop-all [] zero h = refl
drop-all [] (suc k) h = refl
drop-all (x ∷ xs) zero h = absurd (omega arith)
drop-all (x ∷ xs) (suc k) h = drop-all xs k (omega arith)

take-all : (xs : List PieceSpot) (k : ℕ) → length xs ≤ k → take k xs ≡ xs
take-all [] zero h = refl
take-all [] (suc k) h = refl
take-all (x ∷ xs) zero h = absurd (omega arith)
take-all (x ∷ xs) (suc k) h = ap (λ t. x ∷ t) (take-all xs k (omega arith))

pub falls-all : (slots : Numbers) (flow : List BlockFlow) (old new : List LaneRange) (k : ℕ) (first fallen around around' : List PieceSpot) → FallsSome slots flow old new k first fallen around around' → length fallen ≤ k → LetsFall slots flow old new first fallen around around'
falls-all slots flow old new k first fallen around around' s h = record {
  more = s.more;
  list = s.list;
  falls = λ touched code asked t. subst (λ (zs : List PieceSpot). Falls touched code (falling (causes old) [] (nodes_of first) asked) (falling (causes new) [] (nodes_of zs) (asked ++ nodes_of s.more))) (drop-all fallen k h) (s.falls touched code asked t);
  kept = s.kept;
  beside = λ code t m a. s.beside code t m (subst (λ zs. Among m (nodes_of zs)) (sym (take-all fallen k h)) a);
}
