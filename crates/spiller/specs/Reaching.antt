-- Which definitions of a range reach which of its readings, along the paths of liveness.
use Rattle.std.specs.Prelude.{◌≡◌, ℕ, Bool, true, ◌⊎◌, List, ◌∷◌}
use Rattle.target_base.specs.declared.types.Target.{Target}
use Rattle.meaning.specs.declared.types.Lane.{Lane}
use Rattle.meaning.specs.declared.types.Lane.TheVariants.{VirtualLane}
use Rattle.meaning.specs.declared.types.Source.{Source}
use Rattle.meaning.specs.declared.types.Source.TheVariants.{FromLane}
use Rattle.meaning.specs.Code.{Edge, Item, Code, found}
use Rattle.meaning.specs.Live.{Among, reads_of, exits_of, in_order, is_slot, Writing, KeptAfter}
use Rattle.mir_meaning.specs.Stands.{Reaches as Fills}
use Rattle.mir_func.specs.Value.{Function}
use Rattle.mir_meaning.specs.Registers.{is_reserved}
use Rattle.mir_meaning.specs.Points.{Exit, LiveAt, AtFirst, Tests, points_of, from_instr}

-- A path leads from one place of a code to another, and no instruction on it writes the lane. The code has no phis.
pub data Leads (code : Code) (l : Lane) : Code → Code → Type 0 where
  stays : {p : Code} → Leads code l p p
  passes : {i : Item} {p q : Code} → in_order i ≡ true → (Writing i l → ⊥) → Leads code l p q → Leads code l (i ∷ p) q
  leaps : {i : Item} {p q : Code} {e : Edge} → Among e (exits_of i) → (Writing i l → ⊥) → Leads code l (found e.block code) q → Leads code l (i ∷ p) q

-- what the first instruction of a place writes to the lane is there still at the other place, on some path
abbrev pub Brings : Code → Lane → Item → Code → Code → Type 0
Brings code l i p q = Writing i l × ((in_order i ≡ true) × Leads code l p q ⊎ (e : Edge) × Among e (exits_of i) × Leads code l (found e.block code) q)

-- An instruction, which p follows, reads the lane: in any case, or where a lane that it fills from it is live behind it or reserved.
-- A slot's lane is one lane at all its widths.
abbrev pub Reads : (Lane → Bool) → Code → Lane → Item → Code → Type 0
Reads reserved code l i p =
    ((ss : List Source) × Among ss (reads_of i) × Among (FromLane l) ss)
    ⊎ ((a : Lane) × (Writing i a ⊎ (is_slot a ≡ true)) × Fills i l a × KeptAfter reserved code i p a)

-- instruction d writes lane k of the range, instruction i reads it, and a path leads from the exit of d to the entry
-- of i on which nothing writes it: this definition reaches this reading
abbrev pub Reaches : Target → Function → ℕ → ℕ → ℕ → ℕ → Type 0
Reaches t f v d k i =
    let code = points_of t f in
    AtFirst (λ x p. Brings code (VirtualLane v k) x p (from_instr t f i f.blocks)) (from_instr t f d f.blocks)
    × AtFirst (Reads (is_reserved t) code (VirtualLane v k)) (from_instr t f i f.blocks)

-- what spilling asks of paths: whether lane k of the range is live at the exit of an instruction, by its id; and
-- whether the definition of lane k by an instruction reaches a reading by another
pub record Facts : Type 0 where
  pub live_behind : ℕ → ℕ → Bool
  pub reaches : ℕ → ℕ → ℕ → Bool

-- the tests tell this of a range of the function
pub record AreFacts (t : Target) (f : Function) (v : ℕ) (facts : Facts) : Type 0 where
  pub live : Tests (λ (p : ℕ × ℕ). LiveAt t f (Exit p.0) (VirtualLane v p.1)) (λ p. facts.live_behind p.0 p.1)
  pub reach : Tests (λ (p : ℕ × ℕ × ℕ). Reaches t f v p.0 p.1 p.2) (λ p. facts.reaches p.0 p.1 p.2)
