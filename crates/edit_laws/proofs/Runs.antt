-- Runs of steps one after the other, and what is asked for of several pieces.
use Rattle.std.proofs.Common.{◌≡◌, ◌⊎◌, ◌↔◌, true, false, List, ◌++◌, Option, inl, inr}
use Rattle.mir_meaning.specs.Paths.{Among, Code}
use Rattle.live_lanes.specs.declared.row.Cause.{Cause}
use Rattle.live_lanes.specs.Graph.{Causes}
use Rattle.live_lanes.proofs.Numbered.{among-left, among-right, among-split}
use Rattle.edit_laws.specs.Chains.{Node, cause_at}
use Rattle.edit_laws.specs.Reasons.{ReasonFor, counts, Touched}
use Rattle.edit_laws.specs.Update.{Fall, Falls, fell, fall, Request, Wanted, HasReason, Asks, Rise, Rises, rose, rise, RunsFollow}

falls-then : {touched : Touched} {code : Code} {c d e : Fall} → Falls touched code c d → Falls touched code d e → Falls touched code c e
falls-then fell y = y
falls-then (fall x xs) y = fall x (falls-then xs y)

rises-then : {code : Code} {c d e : Rise} → Rises code c d → Rises code d e → Rises code c e
rises-then rose y = y
rises-then (rise x xs) y = rise x (rises-then xs y)

wanted-left : (n : Node) (queue queue' : List Request) → Wanted n queue → Wanted n (queue ++ queue')
wanted-left n queue queue' w = (w.0, among-left w.0 queue queue' w.1, w.2)

wanted-right : (n : Node) (queue queue' : List Request) → Wanted n queue' → Wanted n (queue ++ queue')
wanted-right n queue queue' w = (w.0, among-right w.0 queue queue' w.1, w.2)

module _ (code : Code) (why : Causes) (asked asked' : List Node) (queue queue' : List Request) (x : Asks code why asked queue) (y : Asks code why asked' queue') where
  asks-both : Asks code why (asked ++ asked') (queue ++ queue')
  asks-both = record {
    inside = λ r a. inside r (among-split r queue queue' a);
    founded = λ r a. founded r (among-split r queue queue' a);
    whole = λ n a dead c o reason live. whole n (among-split n asked asked' a) dead c o reason live;
  }
    where
      inside : (r : Request) → Among r queue ⊎ Among r queue' → Among r.node (asked ++ asked')
      inside r (inl a) = among-left r.node asked asked' (x.inside r a)
      inside r (inr a) = among-right r.node asked asked' (y.inside r a)

      founded : (r : Request) → Among r queue ⊎ Among r queue' → HasReason code why r
      founded r (inl a) = x.founded r a
      founded r (inr a) = y.founded r a

      whole : (n : Node) → Among n asked ⊎ Among n asked' → cause_at why n ≡ false → (c : Cause) (o : Option Node) → ReasonFor code n c o → counts why o ≡ true → Wanted n (queue ++ queue')
      whole n (inl a) dead c o reason live = wanted-left n queue queue' (x.whole n a dead c o reason live)
      whole n (inr a) dead c o reason live = wanted-right n queue queue' (y.whole n a dead c o reason live)

asks-alike : (code : Code) (why : Causes) (asked asked' : List Node) (queue : List Request) → ((n : Node) → Among n asked ↔ Among n asked') → Asks code why asked queue → Asks code why asked' queue
asks-alike code why asked asked' queue same x = record {
  inside = λ r a. (same r.node).0 (x.inside r a);
  founded = x.founded;
  whole = λ n a dead c o reason live. x.whole n ((same n).1 a) dead c o reason live;
}

pub runs-follow : RunsFollow
runs-follow = record {
  falls = λ touched code c d e x y. falls-then x y;
  rises = λ code c d e x y. rises-then x y;
  both = asks-both;
  alike = asks-alike;
}
