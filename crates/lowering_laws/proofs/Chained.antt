-- Two functions whose blocks are in step by relations for the starts of blocks: the second refines the first.
use Rattle.std.proofs.Common.{◌≡◌, ◌∷◌, ◌++◌, ◌∙◌, ℕ, Bool, true, false, cond, List, Option, Some, None, map, refl, sym, ap, subst, []}
use Rattle.std.specs.Prelude.{option_map}
use Rattle.target_base.specs.declared.types.Target.{Target}
use Rattle.meaning.specs.Code.{BlockEnd, BlockStart, start_state}
use Rattle.meaning.specs.Environment.{Environment}
use Rattle.meaning.specs.Lanes.{Writes}
use Rattle.meaning.specs.Live.{Among, here, there}
use Rattle.meaning.specs.Relations.{Everything, Rel, Within, along}
use Rattle.meaning.specs.Rows.{first_edges, first_falls, first_of_rows, second_edges, second_falls, second_of_rows}
use Rattle.meaning.specs.declared.types.Row.{Row}
use Rattle.meaning.specs.declared.types.Row.TheVariants.{BothEnd, BothStart}
use Rattle.meaning.specs.declared.types.EdgePair.{EdgePair}
use Rattle.laws.proofs.Agreeing.{Agrees}
use Rattle.laws.proofs.Core.{Coupled, Exits, Plan, law_of_rows}
use Rattle.mir_func.specs.declared.func.Block.{Block}
use Rattle.mir_func.specs.declared.func.Edge.{Edge as Successor}
use Rattle.mir_func.specs.Value.{Function}
use Rattle.mir_meaning.specs.Codes.{block_end, blocks_code, code_of, fallen_into, first_number, given_of, item_of, meaning_of, refines, way}
use Rattle.lowering_laws.proofs.Stretches.{Stretch, first-append, second-append}

-- the block into which a block falls is the next
falls-next : (b : Bool) (bs : List Block) (m : ℕ) → cond b (first_number bs) None ≡ Some m → first_number bs ≡ Some m
falls-next true bs m e = e
falls-next false bs m e = absurd (cc)

among-none : {A : Type 0} (x : A) → Among x [] → ⊥
among-none x m = elim m [ ]

module _ (t : Target) (f g : Function) (K : Plan) where
  -- a way from block n into block m in both
  abbrev pub both-ways : ℕ → ℕ → EdgePair
  both-ways n m = record { block = m; first = (way t f n m).phis; second = (way t g n m).phis }

  abbrev pub ends-ways : ℕ → List Successor → List EdgePair
  ends-ways n ss = map (λ e. both-ways n e.block) ss

  pub first-ways : (n : ℕ) (ss : List Successor) → first_edges (ends-ways n ss) ≡ map (λ e. way t f n e.block) ss
  first-ways n [] = refl
  first-ways n (s ∷ ss) = ap (λ es. way t f n s.block ∷ es) (first-ways n ss)

  pub second-ways : (n : ℕ) (ss : List Successor) → second_edges (ends-ways n ss) ≡ map (λ e. way t g n e.block) ss
  second-ways n [] = refl
  second-ways n (s ∷ ss) = ap (λ es. way t g n s.block ∷ es) (second-ways n ss)

  -- block c of the second, which the blocks `after` of the first follow, is in step with block b of the first
  pub record BlockStep (b c : Block) (after after' : List Block) : Type 1 where
    pub number : c.number ≡ b.number
    pub successors : c.successors ≡ b.successors
    pub falls : fallen_into t c after' ≡ fallen_into t b after
    pub before_end : Rel
    pub stretch : Stretch K (K b.number) before_end (map (item_of t f b) b.instrs) (map (item_of t g c) c.instrs)
    pub exits : (s : Successor) → Among s b.successors → Within (K s.block) (along (both-ways b.number s.block) before_end)
    pub below : (m : ℕ) → fallen_into t b after ≡ Some m → Within (K m) (along (both-ways b.number m) before_end)

  -- blocks of both side by side
  pub data BlocksStep : List Block → List Block → Type 1 where
    done : BlocksStep [] []
    more : {b c : Block} {bs cs : List Block} → BlockStep b c bs cs → BlocksStep bs cs → BlocksStep (b ∷ bs) (c ∷ cs)

  -- what holds at the start of the first of these blocks is within a relation
  abbrev pub Enters : List Block → Rel → Type 0
  Enters [] R = Unit {0}
  Enters (b ∷ bs) R = Within (K b.number) R

  both-falls : ℕ → Option ℕ → Option (Writes × Writes)
  both-falls n q = option_map (λ m. ((way t f n m).phis, (way t g n m).phis)) q

  first-falls : (n : ℕ) (q : Option ℕ) → first_falls (both-falls n q) ≡ option_map (λ m. (way t f n m).phis) q
  unfolding both-falls
  first-falls n None = refl
  first-falls n (Some m) = refl

  second-falls : (n : ℕ) (q : Option ℕ) → second_falls (both-falls n q) ≡ option_map (λ m. (way t g n m).phis) q
  unfolding both-falls
  second-falls n None = refl
  second-falls n (Some m) = refl

  end-row : Block → List Block → Row
  end-row b after = BothEnd (both-falls b.number (fallen_into t b after)) (ends-ways b.number b.successors)

  all-rows : {bs cs : List Block} → BlocksStep bs cs → List Row
  all-rows done = []
  all-rows (more {b = b} {bs = bs} x xs) = BothStart b.number ∷ (x.stretch.rows ++ (end-row b bs ∷ all-rows xs))

  first-end : (b : Block) (after : List Block) → BlockEnd (first_falls (both-falls b.number (fallen_into t b after))) (first_edges (ends-ways b.number b.successors)) ≡ block_end t f b after
  first-end b after = λ i. BlockEnd (first-falls b.number (fallen_into t b after) i) (first-ways b.number b.successors i)

  second-end : (b c : Block) (after after' : List Block) → BlockStep b c after after' → BlockEnd (second_falls (both-falls b.number (fallen_into t b after))) (second_edges (ends-ways b.number b.successors)) ≡ block_end t g c after'
  second-end b c after after' x =
      (λ i. BlockEnd (second-falls b.number (fallen_into t b after) i) (second-ways b.number b.successors i))
      ∙ (λ i. BlockEnd (option_map (λ m. (way t g (sym x.number i) m).phis) (sym x.falls i)) (map (λ e. way t g (sym x.number i) e.block) (sym x.successors i)))

  first-all : {bs cs : List Block} (s : BlocksStep bs cs) → first_of_rows (all-rows s) ≡ blocks_code (item_of t f) t f bs
  unfolding all-rows end-row
  first-all done = refl
  first-all (more {b = b} {bs = bs} x xs) =
      ap (λ p. BlockStart b.number ∷ p)
      (first-append x.stretch.rows (end-row b bs ∷ all-rows xs)
      ∙ (λ i. x.stretch.first i ++ (first-end b bs i ∷ first-all xs i)))

  second-all : {bs cs : List Block} (s : BlocksStep bs cs) → second_of_rows (all-rows s) ≡ blocks_code (item_of t g) t g cs
  unfolding all-rows end-row
  second-all done = refl
  second-all (more {b = b} {c = c} {bs = bs} {cs = cs} x xs) =
      ap (λ p. BlockStart b.number ∷ p)
      (second-append x.stretch.rows (end-row b bs ∷ all-rows xs)
      ∙ (λ i. x.stretch.second i ++ (second-end b c bs cs x i ∷ second-all xs i)))
      ∙ ap (λ n. BlockStart n ∷ (map (item_of t g c) c.instrs ++ (block_end t g c cs ∷ blocks_code (item_of t g) t g cs))) (sym x.number)

  pub exits-within : (n : ℕ) (R : Rel) (ss : List Successor) → ((s : Successor) → Among s ss → Within (K s.block) (along (both-ways n s.block) R)) → Exits K (ends-ways n ss) R
  exits-within n R [] h e m = absurd (among-none e m)
  exits-within n R (s ∷ ss) h e here = h s here
  exits-within n R (s ∷ ss) h e (there m) = exits-within n R ss (λ x k. h x (there k)) e m

  enters-next : (bs : List Block) (m : ℕ) (R : Rel) → first_number bs ≡ Some m → Within (K m) R → Enters bs R
  enters-next [] m R e w = tt
  enters-next (b ∷ bs) m R e w = subst (λ n. Within (K n) R) (sym (some-number b.number m e)) w
    where
      some-number : (a b : ℕ) → Some a ≡ Some b → a ≡ b
      some-number a b e = cc

  enters-any : (bs : List Block) → Enters bs Everything
  enters-any [] = tt
  enters-any (b ∷ bs) = λ s t k. tt

  all-coupled : {bs cs : List Block} (s : BlocksStep bs cs) (R : Rel) → Enters bs R → Coupled K (all-rows s) R
  unfolding all-rows end-row both-falls
  all-coupled done R e = tt
  all-coupled (more {b = b} {c = c} {bs = bs} {cs = cs} x xs) R e =
      (e, x.stretch.leads (end-row b bs ∷ all-rows xs) (at-end (fallen_into t b bs) refl (λ S k. all-coupled xs S k)))
    where
      at-end : (q : Option ℕ) → fallen_into t b bs ≡ q → ((S : Rel) → Enters bs S → Coupled K (all-rows xs) S) → Coupled K (BothEnd (both-falls b.number q) (ends-ways b.number b.successors) ∷ all-rows xs) x.before_end
      at-end None h on = (exits-within b.number x.before_end b.successors x.exits, on Everything (enters-any bs))
      at-end (Some m) h on = (
        exits-within b.number x.before_end b.successors x.exits,
        on (along (both-ways b.number m) x.before_end) (enters-next bs m (along (both-ways b.number m) x.before_end) (falls-next _ bs m h) (x.below m h)),
      )

  -- the second does what the first does
  pub blocks-refine : BlocksStep f.blocks g.blocks → (R : Rel) → Enters f.blocks R → ((env : Environment) → Agrees env R (start_state env (given_of t f)) (start_state env (given_of t g))) → refines t f g
  unfolding meaning_of code_of
  blocks-refine s R e agrees = law_of_rows (meaning_of t f) (meaning_of t g) K (all-rows s) R (first-all s) (second-all s) (all-coupled s R e) agrees
