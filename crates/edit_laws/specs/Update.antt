-- The causes of live pieces brought up to date after edits: what lost its cause falls, and what has a reason comes alive again.
use Rattle.std.specs.Prelude.{◌≡◌, ◌⊎◌, ◌↔◌, ℕ, Bool, true, false, cond, List, [], ◌∷◌, ◌++◌, Option, None, Some}
use Rattle.mir_meaning.specs.Paths.{Among, Step, Code, steps_of, Into, use_of}
use Rattle.live_lanes.specs.declared.row.Cause.{Cause}
use Rattle.live_lanes.specs.declared.row.Cause.TheVariants as causes
use Rattle.live_lanes.specs.declared.row.PieceEnd.{PieceEnd}
use Rattle.live_lanes.specs.Graph.{Causes, is_live, writes_in, IsGrown}
use Rattle.live_lanes.specs.Table.{Numbers}
use Rattle.live_lanes.specs.Entered.{IsNumbered}
use Rattle.live_lanes.specs.Ends.{IsEnd}
use Rattle.live_lanes.specs.Laws.{AllMatched}
use Rattle.edit_laws.specs.Chains.{Node, Notes, cause_at, same_node, StandFirm}
use Rattle.edit_laws.specs.Reasons.{ReasonFor, cause_of, counts, Touched, IsEditOf, Begins, AreCarried, AreListed}
use Rattle.edit_laws.specs.Steps.{AreCodes, AreRight, KeepOthers}

-- The cause of a piece that is looked at again holds as before: it isn't live, or an instruction that isn't touched at all reads
-- it, or a path leads from it to the blocks that follow.
pub data Holds (touched : Touched) (code : Code) (why : Causes) : ℕ → ℕ → ℕ → Type 0 where
  holds_dead : {l b n : ℕ} → is_live (why l b n) ≡ false → Holds touched code why l b n
  holds_reading : {l b : ℕ} (before : List Step) (s : Step) (rest : List Step) → steps_of code b ≡ before ++ s ∷ rest → why l b (writes_in l before) ≡ causes.Reading s.id → ((a : ℕ) → touched a b s.id ≡ false) → Holds touched code why l b (writes_in l before)
  holds_exit : {l b x : ℕ} (before : List Step) (s : Step) (rest : List Step) → steps_of code b ≡ before ++ s ∷ rest → why l b (writes_in l (before ++ s ∷ [])) ≡ causes.Follower x → s.leaves ≡ true → Holds touched code why l b (writes_in l (before ++ s ∷ []))
  holds_end : {l b x : ℕ} → why l b (writes_in l (steps_of code b)) ≡ causes.Follower x → Holds touched code why l b (writes_in l (steps_of code b))

-- a piece gets another cause
abbrev pub given : Causes → Node → Cause → Causes
given why k c l b n = cond (same_node (l, b, n) k) c (why l b n)

-- todo: pieces that are still to be looked at; lost: those that fell, and what was live for their sake is still to be seen to;
-- asked: those that may have a reason again
pub record Fall : Type 0 where
  pub why : Causes
  pub todo : List Node
  pub lost : List Node
  pub asked : List Node

abbrev pub falling : Causes → List Node → List Node → List Node → Fall
falling why todo lost asked = record { why = why; todo = todo; lost = lost; asked = asked }

-- A listed piece is looked at again: its cause holds, or it takes one that needs no other piece, or it falls. Then what is live for
-- the sake of a lost one takes such a cause or falls, and at last nothing is.
pub data FallStep (touched : Touched) (code : Code) : Fall → Fall → Type 0 where
  stays : {why : Causes} {n : Node} {ns ws qs : List Node} → Holds touched code why n.0 n.1 n.2 → FallStep touched code (falling why (n ∷ ns) ws qs) (falling why ns ws qs)
  takes : {why : Causes} {n : Node} {ns ws qs : List Node} (c : Cause) → cause_at why n ≡ true → ReasonFor code n c None → FallStep touched code (falling why (n ∷ ns) ws qs) (falling (given why n c) ns ws qs)
  falls : {why : Causes} {n : Node} {ns ws qs : List Node} → FallStep touched code (falling why (n ∷ ns) ws qs) (falling (given why n causes.None) ns (ws ++ n ∷ []) (qs ++ n ∷ []))
  takes_too : {why : Causes} {w : Node} {ws qs : List Node} (n : Node) (c : Cause) → ReasonFor code n (cause_of why n) (Some w) → ReasonFor code n c None → FallStep touched code (falling why [] (w ∷ ws) qs) (falling (given why n c) [] (w ∷ ws) qs)
  falls_too : {why : Causes} {w : Node} {ws qs : List Node} (n : Node) → ReasonFor code n (cause_of why n) (Some w) → FallStep touched code (falling why [] (w ∷ ws) qs) (falling (given why n causes.None) [] ((w ∷ ws) ++ n ∷ []) (qs ++ n ∷ []))
  told : {why : Causes} {w : Node} {ws qs : List Node} → ((n : Node) → ReasonFor code n (cause_of why n) (Some w) → ⊥) → FallStep touched code (falling why [] (w ∷ ws) qs) (falling why [] ws qs)

pub data Falls (touched : Touched) (code : Code) : Fall → Fall → Type 0 where
  fell : {c : Fall} → Falls touched code c c
  fall : {c d e : Fall} → FallStep touched code c d → Falls touched code d e → Falls touched code c e

-- a piece is to come alive for a cause
pub record Request : Type 0 where
  pub node : Node
  pub cause : Cause

abbrev pub Wanted : Node → List Request → Type 0
Wanted n queue = (r : Request) × Among r queue × (r.node ≡ n)

-- its cause is a reason that counts
abbrev pub HasReason : Code → Causes → Request → Type 0
HasReason code why r = (o : Option Node) × ReasonFor code r.node r.cause o × (counts why o ≡ true)

-- what is asked for: of some pieces those that aren't live and have a reason that counts
pub record Asks (code : Code) (why : Causes) (asked : List Node) (queue : List Request) : Type 0 where
  pub inside : (r : Request) → Among r queue → Among r.node asked
  pub founded : (r : Request) → Among r queue → HasReason code why r
  pub whole : (n : Node) → Among n asked → cause_at why n ≡ false → (c : Cause) (o : Option Node) → ReasonFor code n c o → counts why o ≡ true → Wanted n queue

-- what leads to a piece: all that have a reason which rests on it
pub record LeadTo (code : Code) (m : Node) (queue : List Request) : Type 0 where
  pub reasons : (r : Request) → Among r queue → ReasonFor code r.node r.cause (Some m)
  pub whole : (n : Node) (c : Cause) → ReasonFor code n c (Some m) → Wanted n queue

-- risen: pieces that came alive, and what leads to them is still to be asked for; changed: all that may have died or come alive
pub record Rise : Type 0 where
  pub why : Causes
  pub queue : List Request
  pub risen : List Node
  pub changed : List Node

abbrev pub rising : Causes → List Request → List Node → List Node → Rise
rising why queue risen changed = record { why = why; queue = queue; risen = risen; changed = changed }

-- What is asked for is live already, or comes alive. Then what leads to the first that came alive is asked for.
pub data RiseStep (code : Code) : Rise → Rise → Type 0 where
  passes : {why : Causes} {r : Request} {q : List Request} {ms cs : List Node} → cause_at why r.node ≡ true → RiseStep code (rising why (r ∷ q) ms cs) (rising why q ms cs)
  rises : {why : Causes} {r : Request} {q : List Request} {ms cs : List Node} → cause_at why r.node ≡ false → RiseStep code (rising why (r ∷ q) ms cs) (rising (given why r.node r.cause) q (ms ++ r.node ∷ []) (cs ++ r.node ∷ []))
  follows : {why : Causes} {m : Node} {ms cs : List Node} (q : List Request) → LeadTo code m q → RiseStep code (rising why [] (m ∷ ms) cs) (rising why q ms cs)

pub data Rises (code : Code) : Rise → Rise → Type 0 where
  rose : {c : Rise} → Rises code c c
  rise : {c d e : Rise} → RiseStep code c d → Rises code d e → Rises code c e

-- Of a table that was grown before edits: what is carried over falls and comes alive again.
pub record IsUpdated (touched : Touched) (old new : Code) (was before after : Causes) (changed : List Node) : Type 0 where
  pub edited : IsEditOf touched old new
  pub carried : AreCarried touched old new was before
  pub list : List Node
  pub listed : AreListed touched new list
  pub between : Causes
  pub asked : List Node
  pub falls : Falls touched new (falling before list [] list) (falling between [] [] asked)
  pub queue : List Request
  pub asks : Asks new between asked queue
  pub rises : Rises new (rising between queue [] asked) (rising after [] [] changed)

-- what isn't among these is live in both or in neither
abbrev pub KeepLives : List Node → Causes → Causes → Type 0
KeepLives changed why why' = (n : Node) → Among n changed ⊎ (cause_at why' n ≡ cause_at why n)

-- Then live pieces stand firm, so that they are founded, and nothing counts in any other: the table is grown.
pub record AreUpdated (new : Code) (before after : Causes) (changed : List Node) : Type 0 where
  pub notes : Notes
  pub firm : StandFirm new after notes
  pub grown : IsGrown new after
  pub right : (test : ℕ → Bool) → AreRight test new after
  pub kept : KeepLives changed before after

abbrev pub UpdateLaw : Type 0
UpdateLaw =
    (touched : Touched) (old new : Code) (slots slots' : Numbers) (was before after : Causes) (changed : List Node) → IsGrown old was → IsNumbered old slots → IsNumbered new slots'
    → AllMatched new → IsUpdated touched old new was before after changed → AreUpdated new before after changed

-- no other lane is copied into one that the test tells
abbrev pub CopiedApart : (ℕ → Bool) → Code → Type 0
CopiedApart test code = (b : ℕ) (s : Step) → Among s (steps_of code b) → (l a : ℕ) → test l ≡ false → use_of l s ≡ Into a → test a ≡ false

-- Where the lanes of all that is touched are told, all others keep their causes.
abbrev pub OthersLaw : Type 0
OthersLaw =
    (test : ℕ → Bool) (touched : Touched) (old new : Code) (was before after : Causes) (changed : List Node) → CopiedApart test new
    → (u : IsUpdated touched old new was before after changed) → ((n : Node) → Among n u.list → test n.0 ≡ true) → KeepOthers test before after

-- Instructions that do nothing to lanes may go then: the table stays grown.
abbrev pub GoneLaw : Type 0
GoneLaw = (old new : Code) (why : Causes) → AreCodes (λ l. false) old new → IsGrown old why → IsGrown new why

-- a piece has a reason that rests on one of these
abbrev pub LeadsInto : Code → List Node → Node → Type 0
LeadsInto code nodes n = (c : Cause) × (k : Node) × ReasonFor code n c (Some k) × Among k nodes

-- A piece that isn't listed, and leads to none that died or came alive, ends where it did.
abbrev pub LastingLaw : Type 0
LastingLaw =
    (touched : Touched) (old new : Code) (slots slots' : Numbers) (was before after : Causes) (list changed : List Node) → IsGrown old was → IsNumbered old slots → IsNumbered new slots' → AllMatched old → AllMatched new
    → IsEditOf touched old new → AreCarried touched old new was before → AreListed touched new list → KeepLives changed before after
    → (l b m n : ℕ) (start : Option ℕ) → Begins old l b m start → Begins new l b n start → (Among {A = Node} (l, b, n) list → ⊥) → (LeadsInto new changed (l, b, n) → ⊥)
    → (end : PieceEnd) → IsEnd old slots was l b m end → IsEnd new slots' after l b n end

-- Runs follow one another. What is asked for of two lists of pieces is asked for of both, in whichever order and as often as they stand.
pub record RunsFollow : Type 0 where
  pub falls : (touched : Touched) (code : Code) (c d e : Fall) → Falls touched code c d → Falls touched code d e → Falls touched code c e
  pub rises : (code : Code) (c d e : Rise) → Rises code c d → Rises code d e → Rises code c e
  pub both : (code : Code) (why : Causes) (asked asked' : List Node) (queue queue' : List Request) → Asks code why asked queue → Asks code why asked' queue' → Asks code why (asked ++ asked') (queue ++ queue')
  pub alike : (code : Code) (why : Causes) (asked asked' : List Node) (queue : List Request) → ((n : Node) → Among n asked ↔ Among n asked') → Asks code why asked queue → Asks code why asked' queue
