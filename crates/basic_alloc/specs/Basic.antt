-- The choice of the basic allocator: the register that a range takes, and the ranges that are ousted from it.
use Rattle.std.specs.Prelude.{◌≡◌, ℕ, Bool, cond, not, ◌&&◌, ◌||◌, nat_lt, List, [], map, length, find, Option, Some, None}
use Rattle.std.specs.List.{list_all, list_any}
use Rattle.target_base.specs.declared.types.Reg.{Reg}
use Rattle.target_base.specs.declared.types.Target.{Target}
use Rattle.mir_func.specs.Value.{Function}
use Rattle.mir_meaning.specs.Registers.{numbers, has_number}
use Rattle.evictor.specs.declared.ranks.Stage.{Stage}
use Rattle.evictor.specs.declared.ranks.Stage.TheVariants as stages
use Rattle.evictor.specs.Candidates.{Assignment, candidates}
use Rattle.evictor.specs.Cheapest.{Ranking, Facts, AreFacts, Setting, is_tiny, cascade, clashers, weight}
use Rattle.basic_alloc.specs.declared.choice.Choice.{Choice}
use Rattle.basic_alloc.specs.declared.choice.Choice.TheVariants as choices

-- What a run of the basic allocator knows of ranges besides their registers: of n ranges these are the tinies, and
-- there is no other stage and no cascade.
abbrev pub stage_among : List ℕ → ℕ → Stage
stage_among tinies v = cond (has_number tinies v) stages.Tiny stages.New

abbrev pub stages_of : ℕ → List ℕ → List Stage
stages_of n tinies = map (stage_among tinies) (numbers 0 n)

abbrev pub tiny_ranking : ℕ → List ℕ → Ranking
tiny_ranking n tinies = record { stages = stages_of n tinies; cascades = []; greatest = 0 }

-- no range has a cascade, as in a run of the basic allocator
pub record HasNoCascades (k : Ranking) : Type 0 where
  pub none : (v : ℕ) → cascade k v ≡ 0
  pub greatest : k.greatest ≡ 0

-- nothing is in the way in a register
abbrev pub is_free : Setting → Reg → Bool
is_free s r = not (s.facts.fixed r) && not (list_any (s.facts.in_the_way r) (numbers 0 (length s.func.classes)))

-- A range in the way may be ousted: it is no tiny and, unless v is a tiny itself, it weighs less.
abbrev pub may_be_ousted : Setting → ℕ → Bool
may_be_ousted s w = not (is_tiny s.ranking w) && (is_tiny s.ranking s.range || nat_lt (weight s w) (weight s s.range))

-- no unit is in the way itself, and all ranges in the way may be ousted
abbrev pub may_oust : Setting → Reg → Bool
may_oust s r = not (s.facts.fixed r) && list_all (may_be_ousted s) (clashers s r)

-- what is done where no register is free: the ranges in the way in the one that was found, if one was, are ousted
abbrev pub oust : Setting → Option Reg → Choice
oust s None = choices.Neither
oust s (Some r) = choices.Oust r (clashers s r)

-- a free register is taken, if one was found
abbrev pub take_or : Option Reg → Choice → Choice
take_or None otherwise = otherwise
take_or (Some r) otherwise = choices.Take r

-- The choice among these candidates: the first that is free; else the first from which all in the way may be ousted.
unfoldable pub choice_of : Setting → List Reg → Choice
choice_of s rs = take_or (find (is_free s) rs) (oust s (find (may_oust s) rs))

-- the choice for a range that has no register, among its candidates, where these are the tinies
pub record IsChoice (t : Target) (f : Function) (a : Assignment) (freqs tinies : List ℕ) (v : ℕ) (choice : Choice) : Type 0 where
  pub facts : Facts
  pub are_facts : AreFacts t f a v facts
  pub chosen :
      choice ≡ choice_of (record { func = f; freqs = freqs; ranking = tiny_ranking (length f.classes) tinies; range = v; facts = facts }) (candidates t f a freqs v)
