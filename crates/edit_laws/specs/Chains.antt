-- Causes by the pieces that they rest on, and chains of them.
use Rattle.std.specs.Prelude.{◌≡◌, ℕ, Bool, true, false, cond, ◌&&◌, nat_eq, List, [], ◌∷◌, ◌++◌, Option, None, Some}
use Rattle.mir_meaning.specs.Paths.{Among, Step, Code, steps_of, last_of, exits_of, Certain, Into, use_of, is_written}
use Rattle.live_lanes.specs.declared.row.Cause.TheVariants as causes
use Rattle.live_lanes.specs.Graph.{Causes, is_live, writes_in, Founded}

-- a piece: its lane, the position of its block, and its number there
abbrev pub Node : Type 0
Node = ℕ × ℕ × ℕ

abbrev pub cause_at : Causes → Node → Bool
cause_at why n = is_live (why n.0 n.1 n.2)

-- The cause of a piece is right, and rests on another piece's being live, or on none: one step of the rules by which pieces are founded.
pub data RestsOn (code : Code) (why : Causes) : ℕ → ℕ → ℕ → Option Node → Type 0 where
  on_reading : {l b : ℕ} (before : List Step) (s : Step) (rest : List Step) → steps_of code b ≡ before ++ s ∷ rest → why l b (writes_in l before) ≡ causes.Reading s.id → use_of l s ≡ Certain → RestsOn code why l b (writes_in l before) None
  on_move : {l a b : ℕ} (before : List Step) (s : Step) (rest : List Step) → steps_of code b ≡ before ++ s ∷ rest → why l b (writes_in l before) ≡ causes.Reading s.id → use_of l s ≡ Into a → is_written a s ≡ true → RestsOn code why l b (writes_in l before) (Some (a, b, writes_in a (before ++ s ∷ [])))
  on_exit : {l b x : ℕ} (before : List Step) (s : Step) (rest : List Step) → steps_of code b ≡ before ++ s ∷ rest → why l b (writes_in l (before ++ s ∷ [])) ≡ causes.Follower x → s.leaves ≡ true → Among x (exits_of code b) → RestsOn code why l b (writes_in l (before ++ s ∷ [])) (Some (l, x, 0))
  on_end : {l b x : ℕ} → why l b (writes_in l (steps_of code b)) ≡ causes.Follower x → Among x (exits_of code b) → RestsOn code why l b (writes_in l (steps_of code b)) (Some (l, x, 0))
  on_phi : {l b : ℕ} → why l b (writes_in l (steps_of code b)) ≡ causes.Phi → Among l (last_of code b) → RestsOn code why l b (writes_in l (steps_of code b)) None

-- what each piece rests on, as it is noted
abbrev pub Notes : Type 0
Notes = Node → Option Node

-- along the notes one comes from the piece to one that rests on none
pub data Ends (on : Notes) : Node → Type 0 where
  at_none : {n : Node} → on n ≡ None → Ends on n
  at_next : {n m : Node} → on n ≡ Some m → Ends on m → Ends on n

-- each live piece has a right cause, rests on what is noted, which is live, and its chain ends
pub record StandFirm (code : Code) (why : Causes) (on : Notes) : Type 0 where
  pub right : (n : Node) → cause_at why n ≡ true → RestsOn code why n.0 n.1 n.2 (on n)
  pub live : (n m : Node) → cause_at why n ≡ true → on n ≡ Some m → cause_at why m ≡ true
  pub ends : (n : Node) → cause_at why n ≡ true → Ends on n

-- then all live pieces are founded
abbrev pub FirmLaw : Type 0
FirmLaw = (code : Code) (why : Causes) (on : Notes) → StandFirm code why on → (l b n : ℕ) → is_live (why l b n) ≡ true → Founded code why l b n

abbrev pub same_node : Node → Node → Bool
same_node n m = nat_eq n.0 m.0 && (nat_eq n.1 m.1 && nat_eq n.2 m.2)

-- another note at a piece
abbrev pub noted : Notes → Node → Option Node → Notes
noted on k v n = cond (same_node n k) v (on n)

-- Chains still end where a piece comes to rest on none, as when it falls: no graph is asked.
abbrev pub CutLaw : Type 0
CutLaw = (on : Notes) (k n : Node) → Ends on n → Ends (noted on k None) n

-- They still end where a piece that wasn't live comes to rest on a live one, if live ones rest on live ones.
abbrev pub RiseLaw : Type 0
RiseLaw =
    (on : Notes) (alive : Node → Bool) → ((n m : Node) → alive n ≡ true → on n ≡ Some m → alive m ≡ true) → (k m : Node) → alive k ≡ false → alive m ≡ true → Ends on m
    → ((n : Node) → alive n ≡ true → Ends on n → Ends (noted on k (Some m)) n) × Ends (noted on k (Some m)) k
