-- A function by what its instructions do to lanes, which go by numbers, and which lanes are live in it.
use Rattle.std.specs.Prelude.{◌≡◌, ℕ, zero, suc, ◌+◌, Bool, true, false, cond, nat_eq, List, [], ◌∷◌, ◌++◌, Option, None, Some, slice_get, find}
use Rattle.mir_meaning.specs.declared.writing.LaneDef.{LaneDef}

-- x is one of them
pub data Among {A : Type 0} (x : A) : List A → Type 0 where
  here : {xs : List A} → Among x (x ∷ xs)
  there : {y : A} {xs : List A} → Among x xs → Among x (y ∷ xs)

-- an instruction: the lanes that it reads in any case, those that it writes, and whether paths lead from its exit to the blocks that follow
pub record Step : Type 0 where
  pub id : ℕ
  pub reads : List ℕ
  pub writes : List LaneDef
  pub leaves : Bool

-- a block: its instructions, the lanes that phis of blocks that follow read at its end, and the positions of these blocks
pub record Body : Type 0 where
  pub steps : List Step
  pub last : List ℕ
  pub exits : List ℕ

-- blocks by their positions in the layout
abbrev pub Code : Type 0
Code = List Body

abbrev pub steps_of : Code → ℕ → List Step
steps_of code b = elim (slice_get code b) [ None ↦ [] | Some x ↦ x.steps ]

abbrev pub last_of : Code → ℕ → List ℕ
last_of code b = elim (slice_get code b) [ None ↦ [] | Some x ↦ x.last ]

abbrev pub exits_of : Code → ℕ → List ℕ
exits_of code b = elim (slice_get code b) [ None ↦ [] | Some x ↦ x.exits ]

abbrev pub has : ℕ → List ℕ → Bool
has l [] = false
has l (x ∷ xs) = cond (nat_eq x l) true (has l xs)

-- of two writings of a lane the first counts
abbrev pub writing_of : ℕ → List LaneDef → Option LaneDef
writing_of l [] = None
writing_of l (w ∷ ws) = cond (nat_eq w.lane l) (Some w) (writing_of l ws)

abbrev pub is_some_number : ℕ → Option ℕ → Bool
is_some_number l None = false
is_some_number l (Some x) = nat_eq x l

-- how an instruction uses a lane: not at all, in any case, or where a lane that it fills is live behind it
pub data Use : Type 0 where
  Unused Certain : Use
  Into : (lane : ℕ) → Use

-- of two moves of a lane the first counts
abbrev pub move_of : ℕ → List LaneDef → Use
move_of l [] = Unused
move_of l (w ∷ ws) = cond (is_some_number l w.from) (Into w.lane) (move_of l ws)

abbrev pub use_of : ℕ → Step → Use
use_of l s = cond (has l s.reads) Certain (move_of l s.writes)

abbrev pub is_present : {X : Type 0} → Option X → Bool
is_present None = false
is_present (Some x) = true

abbrev pub is_written : ℕ → Step → Bool
is_written l s = is_present (writing_of l s.writes)

-- the entry of the first of these instructions, which end a block, or the block's end; the exit of an instruction before others
pub data Point : Type 0 where
  Entry : (rest : List Step) → Point
  Exit : (s : Step) (rest : List Step) → Point

-- A lane is live at a point of the block at a position: some path leads to a reading with no writing between. A move reads a
-- lane exactly where the lane that it fills is live behind it.
pub data Live (code : Code) : ℕ → Point → ℕ → Type 0 where
  reads : {b : ℕ} {s : Step} {rest : List Step} {l : ℕ} → use_of l s ≡ Certain → Live code b (Entry (s ∷ rest)) l
  moves : {b : ℕ} {s : Step} {rest : List Step} {l a : ℕ} → use_of l s ≡ Into a → Live code b (Exit s rest) a → Live code b (Entry (s ∷ rest)) l
  passes : {b : ℕ} {s : Step} {rest : List Step} {l : ℕ} → is_written l s ≡ false → Live code b (Exit s rest) l → Live code b (Entry (s ∷ rest)) l
  next : {b : ℕ} {s : Step} {rest : List Step} {l : ℕ} → Live code b (Entry rest) l → Live code b (Exit s rest) l
  leaps : {b x : ℕ} {s : Step} {rest : List Step} {l : ℕ} → s.leaves ≡ true → Among x (exits_of code b) → Live code x (Entry (steps_of code x)) l → Live code b (Exit s rest) l
  goes : {b x : ℕ} {l : ℕ} → Among x (exits_of code b) → Live code x (Entry (steps_of code x)) l → Live code b (Entry []) l
  phi : {b : ℕ} {l : ℕ} → Among l (last_of code b) → Live code b (Entry []) l
  -- paths lead from the exit of a terminator to the readings of phis too
  leaps_phi : {b : ℕ} {s : Step} {rest : List Step} {l : ℕ} → s.leaves ≡ true → Among l (last_of code b) → Live code b (Exit s rest) l

-- a lane is moved exactly into the lane that says so, or it is read in any case
pub record IsMatched (s : Step) : Type 0 where
  pub filled : (l a : ℕ) → use_of l s ≡ Into a → (w : LaneDef) × (writing_of a s.writes ≡ Some w) × (w.from ≡ Some l)
  pub used : (l a : ℕ) (w : LaneDef) → writing_of a s.writes ≡ Some w → w.from ≡ Some l → use_of l s ≡ Unused → ⊥
  pub once : (l a c : ℕ) (w : LaneDef) → writing_of a s.writes ≡ Some w → w.from ≡ Some l → use_of l s ≡ Into c → c ≡ a
