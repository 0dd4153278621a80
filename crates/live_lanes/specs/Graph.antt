-- The pieces of lanes in blocks, which pieces are live, and why. A piece begins at a block's start or with a writing, and lasts
-- until the next writing or the block's end. Pieces go by lane, block position and number: 0 begins with the block.
use Rattle.std.specs.Prelude.{◌≡◌, ℕ, zero, suc, ◌+◌, Bool, true, false, cond, List, [], ◌∷◌, ◌++◌}
use Rattle.live_lanes.specs.declared.row.Cause.{Cause}
use Rattle.live_lanes.specs.declared.row.Cause.TheVariants as causes
use Rattle.mir_meaning.specs.Paths.{Among, Step, Code, steps_of, last_of, exits_of, Use, Certain, Into, use_of, is_written}

-- how many of the instructions write the lane: the number of the piece behind them
abbrev pub writes_in : ℕ → List Step → ℕ
writes_in l [] = 0
writes_in l (s ∷ ss) = cond (is_written l s) (suc (writes_in l ss)) (writes_in l ss)

-- why each piece is live
abbrev pub Causes : Type 0
Causes = ℕ → ℕ → ℕ → Cause

abbrev pub is_live : Cause → Bool
is_live causes.None = false
is_live (causes.Reading id) = true
is_live (causes.Follower x) = true
is_live causes.Phi = true

-- a piece in which a reading counts, or an exit, is live
pub record IsClosed (code : Code) (why : Causes) : Type 0 where
  pub reading : (b l : ℕ) (before : List Step) (s : Step) (rest : List Step) → steps_of code b ≡ before ++ s ∷ rest → use_of l s ≡ Certain → is_live (why l b (writes_in l before)) ≡ true
  pub move : (b l a : ℕ) (before : List Step) (s : Step) (rest : List Step) → steps_of code b ≡ before ++ s ∷ rest → use_of l s ≡ Into a → is_live (why a b (writes_in a (before ++ s ∷ []))) ≡ true → is_live (why l b (writes_in l before)) ≡ true
  pub exit : (b l x : ℕ) (before : List Step) (s : Step) (rest : List Step) → steps_of code b ≡ before ++ s ∷ rest → s.leaves ≡ true → Among x (exits_of code b) → is_live (why l x 0) ≡ true → is_live (why l b (writes_in l (before ++ s ∷ []))) ≡ true
  pub end : (b l x : ℕ) → Among x (exits_of code b) → is_live (why l x 0) ≡ true → is_live (why l b (writes_in l (steps_of code b))) ≡ true
  pub phi : (b l : ℕ) → Among l (last_of code b) → is_live (why l b (writes_in l (steps_of code b))) ≡ true

-- along the causes of a piece one comes to a reading that needs no other lane
pub data Founded (code : Code) (why : Causes) : ℕ → ℕ → ℕ → Type 0 where
  by_reading : {l b : ℕ} (before : List Step) (s : Step) (rest : List Step) → steps_of code b ≡ before ++ s ∷ rest → why l b (writes_in l before) ≡ causes.Reading s.id → use_of l s ≡ Certain → Founded code why l b (writes_in l before)
  by_move : {l a b : ℕ} (before : List Step) (s : Step) (rest : List Step) → steps_of code b ≡ before ++ s ∷ rest → why l b (writes_in l before) ≡ causes.Reading s.id → use_of l s ≡ Into a → is_written a s ≡ true → Founded code why a b (writes_in a (before ++ s ∷ [])) → Founded code why l b (writes_in l before)
  by_exit : {l b x : ℕ} (before : List Step) (s : Step) (rest : List Step) → steps_of code b ≡ before ++ s ∷ rest → why l b (writes_in l (before ++ s ∷ [])) ≡ causes.Follower x → s.leaves ≡ true → Among x (exits_of code b) → Founded code why l x 0 → Founded code why l b (writes_in l (before ++ s ∷ []))
  by_end : {l b x : ℕ} → why l b (writes_in l (steps_of code b)) ≡ causes.Follower x → Among x (exits_of code b) → Founded code why l x 0 → Founded code why l b (writes_in l (steps_of code b))
  by_phi : {l b : ℕ} → why l b (writes_in l (steps_of code b)) ≡ causes.Phi → Among l (last_of code b) → Founded code why l b (writes_in l (steps_of code b))

-- exactly the pieces at whose start the lane is live are marked so, each with a cause
pub record IsGrown (code : Code) (why : Causes) : Type 0 where
  pub closed : IsClosed code why
  pub founded : (l b n : ℕ) → is_live (why l b n) ≡ true → Founded code why l b n
