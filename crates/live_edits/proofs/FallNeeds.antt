-- What is live for the sake of a piece that fell takes a cause that rests on none, or falls too.
use Rattle.std.proofs.Common.{◌≡◌, ◌<◌, ◌⊎◌, ℕ, suc, ◌+◌, Bool, true, false, length, take, get_or, List, [], ◌∷◌, ◌++◌, None, Some, refl, sym, ap, ◌∙◌, subst, inl, inr, arith, append_assoc, append-nil}
use Rattle.std.proofs.Math.Seq.{take-suc}
use Rattle.std.proofs.lemmas.List.{map-append}
use Rattle.mir_meaning.specs.Paths.{Among, here, Code}
use Rattle.live_lanes.specs.declared.compute.flow.BlockFlow.{BlockFlow}
use Rattle.live_lanes.specs.declared.row.Cause.{Cause}
use Rattle.live_lanes.specs.declared.row.LaneRange.{LaneRange}
use Rattle.live_edits.specs.declared.pieces.PieceSpot.{PieceSpot}
use Rattle.live_lanes.specs.Graph.{is_live}
use Rattle.live_lanes.specs.Table.{Numbers}
use Rattle.live_lanes.specs.Entered.{causes, IsTableOf}
use Rattle.live_lanes.proofs.Basics.{none-among}
use Rattle.live_lanes.proofs.Numbered.{among-cases, among-left, among-right, among-split}
use Rattle.edit_laws.specs.Chains.{Node}
use Rattle.edit_laws.specs.Reasons.{ReasonFor, cause_of, Touched}
use Rattle.edit_laws.specs.RowCause.{HasGiven}
use Rattle.edit_laws.specs.Update.{Fall, Falls, falling, fell, fall, takes_too, falls_too, given, Request}
use Rattle.edit_laws.proofs.Carried.{reason-live, reason-moves}
use Rattle.edit_laws.proofs.Fallen.{Given, given-cases, other-is}
use Rattle.edit_laws.proofs.Rechecked.{certain-cause-law}
use Rattle.edit_laws.proofs.RowCause.{row-cause-law}
use Rattle.edit_laws.proofs.Runs.{runs-follow}
use Rattle.live_edits.specs.declared.pieces.Need.{Need}
use Rattle.live_edits.specs.Pieces.{node_of, nodes_of, HasAll, request_of, requests_of, KeepsPieces}
use Rattle.live_edits.specs.Updated.{certain_at, LosesCause, ListsFallen, unless_live}
use Rattle.live_edits.specs.Fallen.{spots_of, AllLeadTo, LosesAll}
use Rattle.live_edits.proofs.FallReasons.{dead-none, reasons-apart}
use Rattle.live_edits.proofs.KeptPieces.{live-there}
use Rattle.live_edits.proofs.SpotLists.{has-both}

-- rows stay a table while causes change
pub table-stays : (code : Code) (slots : Numbers) (flow : List BlockFlow) (old new : List LaneRange) → IsTableOf code slots flow old → KeepsPieces old new → IsTableOf code slots flow new
table-stays code slots flow old new t k = record {
  entered = λ l b. k.shapes l b ∙ t.entered l b;
  numbered = t.numbered;
  ways = t.ways;
  matched = t.matched;
  few = subst (λ n. n < 4294967296) (sym k.lanes) t.few;
}

-- the nodes of lists one behind the other
pub nodes-append : (ns : List Node) (xs ys : List PieceSpot) → (ns ++ nodes_of xs) ++ nodes_of ys ≡ ns ++ nodes_of (xs ++ ys)
nodes-append ns xs ys = append_assoc ns (nodes_of xs) (nodes_of ys) ∙ ap (λ zs. ns ++ zs) (sym (map-append node_of xs ys))

pub spots-append : (xs ys : List Need) → spots_of (xs ++ ys) ≡ spots_of xs ++ spots_of ys
spots-append xs ys = map-append (λ n. n.spot) xs ys

-- One need is seen to. A cause that rests on the piece and is still there was there before, and isn't the need.
pub record LosesOne (old new : List LaneRange) (need : Need) (first fallen : List PieceSpot) : Type 0 where
  pub more : List PieceSpot
  pub list : fallen ≡ first ++ more
  pub falls : (touched : Touched) (code : Code) (slots : Numbers) (flow : List BlockFlow) (m : Node) (ws asked : List Node) → IsTableOf code slots flow old → ReasonFor code (node_of need.spot) need.cause (Some m) → Falls touched code (falling (causes old) [] (m ∷ ws) asked) (falling (causes new) [] ((m ∷ ws) ++ nodes_of more) (asked ++ nodes_of more))
  pub left : (code : Code) (slots : Numbers) (flow : List BlockFlow) (m : Node) → IsTableOf code slots flow old → ReasonFor code (node_of need.spot) need.cause (Some m) → (n : Node) (c : Cause) → ReasonFor code n c (Some m) → cause_of (causes new) n ≡ c → (cause_of (causes old) n ≡ c) × (n ≡ node_of need.spot → c ≡ need.cause → ⊥)

-- the need isn't a cause
pub passes-one : (rows : List LaneRange) (need : Need) (fallen : List PieceSpot) → (cause_of (causes rows) (node_of need.spot) ≡ need.cause → ⊥) → LosesOne rows rows need fallen fallen
passes-one rows need fallen none = record {
  more = [];
  list = sym (append-nil fallen);
  falls = λ touched code slots flow m ws asked t r. subst (λ (d : Fall). Falls touched code (falling (causes rows) [] (m ∷ ws) asked) d) (λ k. falling (causes rows) [] (sym (append-nil (m ∷ ws)) k) (sym (append-nil asked) k)) fell;
  left = λ code slots flow m t r n c q e. (e, λ g h. none (ap (λ (z : Node). cause_of (causes rows) z) (sym g) ∙ (e ∙ h)));
}

-- the need is the cause of its piece
module _ (old new : List LaneRange) (need : Need) (first fallen : List PieceSpot) (is : cause_of (causes old) (node_of need.spot) ≡ need.cause) (loses : LosesCause old new need.spot) (listed : ListsFallen old need.spot first fallen) where
  abbrev node : Node
  node = node_of need.spot

  abbrev certain : Cause
  certain = certain_at old node

  abbrev more : List PieceSpot
  more = unless_live (is_live certain) need.spot

  module _ (code : Code) (slots : Numbers) (flow : List BlockFlow) (m : Node) (t : IsTableOf code slots flow old) (r : ReasonFor code node need.cause (Some m)) where
    has-given : HasGiven old new node certain
    has-given = row-cause-law old new node certain (loses (live-there old node.0 node.1 node.2 (ap is_live is ∙ reason-live r)))

    own : ReasonFor code node (cause_of (causes old) node) (Some m)
    own = reason-moves r refl (sym is) refl

    sure : is_live certain ≡ true → ReasonFor code node certain None
    sure = (certain-cause-law code slots flow old t node.0 node.1 node.2).reason

    one-falls : (touched : Touched) (ws asked : List Node) (u : Bool) → is_live certain ≡ u → Falls touched code (falling (causes old) [] (m ∷ ws) asked) (falling (given (causes old) node certain) [] ((m ∷ ws) ++ nodes_of (unless_live u need.spot)) (asked ++ nodes_of (unless_live u need.spot)))
    one-falls touched ws asked true e =
        subst (λ (d : Fall). Falls touched code (falling (causes old) [] (m ∷ ws) asked) d) (λ k. falling (given (causes old) node certain) [] (sym (append-nil (m ∷ ws)) k) (sym (append-nil asked) k))
        (fall (takes_too node certain own (sure e)) fell)
    one-falls touched ws asked false e =
        subst (λ (c : Cause). Falls touched code (falling (causes old) [] (m ∷ ws) asked) (falling (given (causes old) node c) [] ((m ∷ ws) ++ node ∷ []) (asked ++ node ∷ []))) (sym (dead-none certain e))
        (fall (falls_too node own) fell)

    one-left : (n : Node) (c : Cause) → ReasonFor code n c (Some m) → cause_of (causes new) n ≡ c → (cause_of (causes old) n ≡ c) × (n ≡ node → c ≡ need.cause → ⊥)
    one-left n c q e = go (given-cases (causes old) node certain n)
      where
        now : cause_of (given (causes old) node certain) n ≡ c
        now = sym (ap (λ w. cause_of w n) has-given.causes_are) ∙ e

        go : Given (causes old) node certain n → (cause_of (causes old) n ≡ c) × (n ≡ node → c ≡ need.cause → ⊥)
        go (inl x) =
            let same : certain ≡ c = sym x.2 ∙ now in
            let rests : ReasonFor code node certain None = sure (ap is_live same ∙ reason-live q) in
            let moved : ReasonFor code node c (Some m) = subst (λ (z : Node). ReasonFor code z c (Some m)) x.1 q in
            absurd (reasons-apart code slots t.numbered m (reason-moves rests refl same refl) moved)
        go (inr x) = (sym x.1 ∙ now, λ g h. other-is n node g x.0)

  pub loses-one : LosesOne old new need first fallen
  loses-one = record {
    more = more;
    list = listed;
    falls = λ touched code slots flow m ws asked t r.
        subst (λ (w : ℕ → ℕ → ℕ → Cause). Falls touched code (falling (causes old) [] (m ∷ ws) asked) (falling w [] ((m ∷ ws) ++ nodes_of more) (asked ++ nodes_of more))) (sym (has-given code slots flow m t r).causes_are)
        (one-falls code slots flow m t r touched ws asked (is_live certain) refl);
    left = one-left;
  }

pub loses-none : (rows : List LaneRange) (fallen : List PieceSpot) → LosesAll rows rows [] fallen fallen
loses-none rows fallen = record {
  more = [];
  list = sym (append-nil fallen);
  falls = λ touched code slots flow m ws asked t lead. subst (λ (d : Fall). Falls touched code (falling (causes rows) [] (m ∷ ws) asked) d) (λ k. falling (causes rows) [] (sym (append-nil (m ∷ ws)) k) (sym (append-nil asked) k)) fell;
  lost = λ code slots flow m t lead r a. absurd (none-among r a);
}

-- one need more
module _ (old mid new : List LaneRange) (needs : List Need) (need : Need) (first between fallen : List PieceSpot) (x : LosesAll old mid needs first between) (pieces : KeepsPieces old mid) (y : LosesOne mid new need between fallen) where
  abbrev all : List Need
  all = needs ++ need ∷ []

  requests-are : requests_of all ≡ requests_of needs ++ request_of need ∷ []
  requests-are = map-append request_of needs (need ∷ [])

  module _ (code : Code) (slots : Numbers) (flow : List BlockFlow) (m : Node) (t : IsTableOf code slots flow old) (lead : AllLeadTo code m all) where
    lead-left : AllLeadTo code m needs
    lead-left r a = lead r (subst (Among r) (sym requests-are) (among-left r (requests_of needs) (request_of need ∷ []) a))

    lead-last : ReasonFor code (node_of need.spot) need.cause (Some m)
    lead-last = lead (request_of need) (subst (Among (request_of need)) (sym requests-are) (among-right (request_of need) (requests_of needs) (request_of need ∷ []) here))

    t' : IsTableOf code slots flow mid
    t' = table-stays code slots flow old mid t pieces

    more-falls : (touched : Touched) (ws asked : List Node) → Falls touched code (falling (causes old) [] (m ∷ ws) asked) (falling (causes new) [] ((m ∷ ws) ++ nodes_of (x.more ++ y.more)) (asked ++ nodes_of (x.more ++ y.more)))
    more-falls touched ws asked =
        subst (λ (d : Fall). Falls touched code (falling (causes old) [] (m ∷ ws) asked) d) (λ k. falling (causes new) [] (nodes-append (m ∷ ws) x.more y.more k) (nodes-append asked x.more y.more k))
        (runs-follow.falls touched code _ _ _ (x.falls touched code slots flow m ws asked t lead-left) (y.falls touched code slots flow m (ws ++ nodes_of x.more) (asked ++ nodes_of x.more) t' lead-last))

    more-lost : (r : Request) → Among r (requests_of all) → cause_of (causes new) r.node ≡ r.cause → ⊥
    more-lost r a e = go (among-split r (requests_of needs) (request_of need ∷ []) (subst (Among r) requests-are a))
      where
        left : (cause_of (causes mid) r.node ≡ r.cause) × (r.node ≡ node_of need.spot → r.cause ≡ need.cause → ⊥)
        left = y.left code slots flow m t' lead-last r.node r.cause (lead r a) e

        last : (r ≡ request_of need) ⊎ Among r [] → ⊥
        last (inl g) = left.1 (ap (λ (q : Request). q.node) g) (ap (λ (q : Request). q.cause) g)
        last (inr b) = none-among r b

        go : Among r (requests_of needs) ⊎ Among r (request_of need ∷ []) → ⊥
        go (inl b) = x.lost code slots flow m t lead-left r b left.0
        go (inr b) = last (among-cases r (request_of need) [] b)

  pub loses-more : LosesAll old new all first fallen
  loses-more = record {
    more = x.more ++ y.more;
    list = y.list ∙ (ap (λ zs. zs ++ y.more) x.list ∙ append_assoc first x.more y.more);
    falls = λ touched code slots flow m ws asked t lead. more-falls code slots flow m t lead touched ws asked;
    lost = more-lost;
  }

-- the needs up to the next

pub taken-more : (needs : List Need) (k : ℕ) (d : Need) → k < length needs → take (k + 1) needs ≡ take k needs ++ get_or needs k d ∷ []
taken-more needs k d h = ap (λ j. take j needs) (let e : k + 1 ≡ suc k = omega arith in e) ∙ take-suc needs k d h

pub around-more : (from between to : List PieceSpot) (needs : List Need) (need : Need) → HasAll between (from ++ spots_of needs) → HasAll to (between ++ need.spot ∷ []) → HasAll to (from ++ spots_of (needs ++ need ∷ []))
around-more from between to needs need e f =
    subst (λ xs. HasAll to (from ++ xs)) (sym (spots-append needs (need ∷ []))) (has-both from between to (spots_of needs) (need.spot ∷ []) e f)
