-- Why pieces are to be live, and how the pieces of an edited function stand to those of before.
use Rattle.std.specs.Prelude.{◌≡◌, ℕ, Bool, true, false, List, [], ◌∷◌, ◌++◌, Option, None, Some}
use Rattle.mir_meaning.specs.Paths.{Among, Step, Code, steps_of, last_of, exits_of, Unused, Certain, Into, use_of, is_written, writing_of}
use Rattle.live_lanes.specs.declared.row.Cause.{Cause}
use Rattle.live_lanes.specs.declared.row.Cause.TheVariants as causes
use Rattle.live_lanes.specs.Graph.{Causes, is_live, writes_in}
use Rattle.edit_laws.specs.Chains.{Node, cause_at}

-- The cause is a reason for the piece to be live. It rests on another piece's being live, or on none.
pub data IsReason (code : Code) : ℕ → ℕ → ℕ → Cause → Option Node → Type 0 where
  for_reading : {l b : ℕ} (before : List Step) (s : Step) (rest : List Step) → steps_of code b ≡ before ++ s ∷ rest → use_of l s ≡ Certain → IsReason code l b (writes_in l before) (causes.Reading s.id) None
  for_move : {l a b : ℕ} (before : List Step) (s : Step) (rest : List Step) → steps_of code b ≡ before ++ s ∷ rest → use_of l s ≡ Into a → is_written a s ≡ true → IsReason code l b (writes_in l before) (causes.Reading s.id) (Some (a, b, writes_in a (before ++ s ∷ [])))
  for_exit : {l b x : ℕ} (before : List Step) (s : Step) (rest : List Step) → steps_of code b ≡ before ++ s ∷ rest → s.leaves ≡ true → Among x (exits_of code b) → IsReason code l b (writes_in l (before ++ s ∷ [])) (causes.Follower x) (Some (l, x, 0))
  for_end : {l b x : ℕ} → Among x (exits_of code b) → IsReason code l b (writes_in l (steps_of code b)) (causes.Follower x) (Some (l, x, 0))
  for_phi : {l b : ℕ} → Among l (last_of code b) → IsReason code l b (writes_in l (steps_of code b)) causes.Phi None

abbrev pub ReasonFor : Code → Node → Cause → Option Node → Type 0
ReasonFor code n c o = IsReason code n.0 n.1 n.2 c o

-- why the piece is live
abbrev pub cause_of : Causes → Node → Cause
cause_of why n = why n.0 n.1 n.2

-- a reason that rests on this counts
abbrev pub counts : Causes → Option Node → Bool
counts why None = true
counts why (Some m) = cause_at why m

-- whether the instruction of an id does something else to a lane than before: by lane, block position and id
abbrev pub Touched : Type 0
Touched = ℕ → ℕ → ℕ → Bool

-- an instruction of a block and what edits make of it: lanes at which it isn't touched are used and written alike
pub record IsLike (touched : ℕ → ℕ → Bool) (s r : Step) : Type 0 where
  pub id : s.id ≡ r.id
  pub leaves : s.leaves ≡ r.leaves
  pub used : (l : ℕ) → touched l r.id ≡ false → use_of l s ≡ use_of l r
  pub writing : (l : ℕ) → touched l r.id ≡ false → writing_of l s.writes ≡ writing_of l r.writes

-- one that comes uses and writes none of these, and is no terminator
pub record IsNew (touched : ℕ → ℕ → Bool) (r : Step) : Type 0 where
  pub leaves : r.leaves ≡ false
  pub unused : (l : ℕ) → touched l r.id ≡ false → use_of l r ≡ Unused
  pub unwritten : (l : ℕ) → touched l r.id ≡ false → is_written l r ≡ false

-- The instructions of a block before and after edits. One that is to go still stands there, and does nothing.
pub data AreEdited (touched : ℕ → ℕ → Bool) : List Step → List Step → Type 0 where
  edit_none : AreEdited touched [] []
  edit_stays : {s r : Step} {ss rs : List Step} → IsLike touched s r → AreEdited touched ss rs → AreEdited touched (s ∷ ss) (r ∷ rs)
  edit_comes : {r : Step} {ss rs : List Step} → IsNew touched r → AreEdited touched ss rs → AreEdited touched ss (r ∷ rs)

pub record IsEditOf (touched : Touched) (old new : Code) : Type 0 where
  pub steps : (b : ℕ) → AreEdited (λ l i. touched l b i) (steps_of old b) (steps_of new b)
  pub last : (b : ℕ) → last_of old b ≡ last_of new b
  pub exits : (b : ℕ) → exits_of old b ≡ exits_of new b

-- the piece of a number begins with its block, or with the writing of the instruction of an id
pub data Begins (code : Code) : ℕ → ℕ → ℕ → Option ℕ → Type 0 where
  at_start : {l b : ℕ} → Begins code l b 0 None
  at_write : {l b : ℕ} (before : List Step) (s : Step) (rest : List Step) → steps_of code b ≡ before ++ s ∷ rest → is_written l s ≡ true → Begins code l b (writes_in l (before ++ s ∷ [])) (Some s.id)

-- a piece of the second code that begins as one of the first does
pub record IsKept (old new : Code) (l b n : ℕ) : Type 0 where
  pub number : ℕ
  pub start : Option ℕ
  pub before : Begins old l b number start
  pub after : Begins new l b n start

-- The instruction of an id is touched at a lane that it writes, and at all that it moves there: its piece may have come anew.
pub record IsRenewed (touched : Touched) (code : Code) (l b id : ℕ) : Type 0 where
  pub written : touched l b id ≡ true
  pub moved : (k : ℕ) (before : List Step) (s : Step) (rest : List Step) → steps_of code b ≡ before ++ s ∷ rest → s.id ≡ id → use_of k s ≡ Into l → touched k b id ≡ true

-- a piece that begins as one of before has its cause, or it isn't live and came anew
pub data IsCarried (touched : Touched) (code : Code) (l b : ℕ) : Cause → Cause → Option ℕ → Type 0 where
  carried : {c d : Cause} {start : Option ℕ} → d ≡ c → IsCarried touched code l b c d start
  renewed : {c d : Cause} {id : ℕ} → is_live d ≡ false → IsRenewed touched code l b id → IsCarried touched code l b c d (Some id)

-- of pieces that begin as before; no others are live
pub record AreCarried (touched : Touched) (old new : Code) (was why : Causes) : Type 0 where
  pub kept : (l b m n : ℕ) (start : Option ℕ) → Begins old l b m start → Begins new l b n start → IsCarried touched new l b (was l b m) (why l b n) start
  pub live : (l b n : ℕ) → is_live (why l b n) ≡ true → IsKept old new l b n

-- the pieces on both sides of all that is touched are listed
abbrev pub AreListed : Touched → Code → List Node → Type 0
AreListed touched code list =
    (l b : ℕ) (before : List Step) (s : Step) (rest : List Step) → steps_of code b ≡ before ++ s ∷ rest → touched l b s.id ≡ true
    → Among {A = Node} (l, b, writes_in l before) list × Among {A = Node} (l, b, writes_in l (before ++ s ∷ [])) list
