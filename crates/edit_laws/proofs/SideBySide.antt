-- Codes of blocks that stand side by side, of whose instructions it is known what they do.
use Rattle.std.proofs.Common.{◌≡◌, ◌∷◌, ◌++◌, ◌∙◌, ℕ, zero, suc, ◌+◌, cond, List, [], Option, Some, None, refl, ap, subst, map, flat_map, arith}
use Rattle.std.specs.Prelude.{nat_eq, option_map, slice_get}
use Rattle.mir_func.specs.declared.func.Block.{Block}
use Rattle.mir_func.specs.declared.func.Instr.{Instr}
use Rattle.mir_meaning.specs.Paths.{Body, Step, steps_of, last_of, exits_of}
use Rattle.live_lanes.specs.Coded.{Doing, bodies_from, code_of, entries, last_at, lanes_at}
use Rattle.live_lanes.specs.Entering.{EnteredStep}
use Rattle.live_lanes.specs.Flowing.{edge_places}
use Rattle.live_lanes.specs.Ordered.{place_of}

abbrev pub done_by : Doing → List Instr → List Step
done_by d is = map (λ i. (d i).0) is

-- the lanes that phis of these instructions read at the end of a block
abbrev pub read_at_ends : Doing → (ℕ → Option ℕ) → ℕ → List Instr → List ℕ
read_at_ends d place b is = flat_map (λ (e : EnteredStep). flat_map (lanes_at place b) e.1) (map d is)

-- blocks from a position on, whose instructions stand so to each other
pub data AreSideBySide (R : ℕ → List Step → List Step → Type 0) (d d' : Doing) : ℕ → List Block → List Block → Type 0 where
  no_more : {n : ℕ} → AreSideBySide R d d' n [] []
  one_more : {n : ℕ} {b c : Block} {bs cs : List Block} → b.number ≡ c.number → b.successors ≡ c.successors → R n (done_by d b.instrs) (done_by d' c.instrs)
      → ((place : ℕ → Option ℕ) (k : ℕ) → read_at_ends d place k b.instrs ≡ read_at_ends d' place k c.instrs) → AreSideBySide R d d' (suc n) bs cs → AreSideBySide R d d' n (b ∷ bs) (c ∷ cs)

-- a position behind another
abbrev pub behind : ℕ → ℕ → ℕ
behind n zero = n
behind n (suc k) = behind (suc n) k

behind-is : (n k : ℕ) → behind n k ≡ n + k
behind-is n zero = omega arith
behind-is n (suc k) = let e : suc n + k ≡ n + suc k = omega arith in behind-is (suc n) k ∙ e

pub behind-none : (k : ℕ) → behind 0 k ≡ k
behind-none k = let e : 0 + k ≡ k = omega arith in behind-is 0 k ∙ e

module _ (R : ℕ → List Step → List Step → Type 0) (empty : (n : ℕ) → R n [] []) (d d' : Doing) where
  places-same : (m n : ℕ) {bs cs : List Block} → AreSideBySide R d d' n bs cs → place_of m bs ≡ place_of m cs
  places-same m n no_more = refl
  places-same m n (one_more number successors steps ends rest) = λ k. cond (nat_eq (number k) m) (Some 0) (option_map (λ x. suc x) (places-same m (suc n) rest k))

  lasts-same : (place : ℕ → Option ℕ) (k n : ℕ) {bs cs : List Block} → AreSideBySide R d d' n bs cs → last_at place (entries d bs) k ≡ last_at place (entries d' cs) k
  lasts-same place k n no_more = refl
  lasts-same place k n (one_more number successors steps ends rest) = λ i. ends place k i ++ lasts-same place k (suc n) rest i

  module _ (bs cs : List Block) (beside : AreSideBySide R d d' 0 bs cs) where
    abbrev first-place : ℕ → Option ℕ
    first-place n = place_of n bs

    abbrev second-place : ℕ → Option ℕ
    second-place n = place_of n cs

    same-place : first-place ≡ second-place
    same-place = λ k. λ n. places-same n 0 beside k

    last-same : (n : ℕ) → last_at first-place (entries d bs) n ≡ last_at second-place (entries d' cs) n
    last-same n = lasts-same first-place n 0 beside ∙ ap (λ p. last_at p (entries d' cs) n) same-place

    -- a block and its counterpart
    pub record BodiesBeside (n : ℕ) (x y : Option Body) : Type 0 where
      pub steps : R n (elim x as (λ o. List Step) [ None ↦ [] | Some z ↦ z.steps ]) (elim y as (λ o. List Step) [ None ↦ [] | Some z ↦ z.steps ])
      pub last : elim x as (λ o. List ℕ) [ None ↦ [] | Some z ↦ z.last ] ≡ elim y as (λ o. List ℕ) [ None ↦ [] | Some z ↦ z.last ]
      pub exits : elim x as (λ o. List ℕ) [ None ↦ [] | Some z ↦ z.exits ] ≡ elim y as (λ o. List ℕ) [ None ↦ [] | Some z ↦ z.exits ]

    bodies-beside : (n : ℕ) {us vs : List Block} → AreSideBySide R d d' n us vs → (k : ℕ) → BodiesBeside (behind n k) (slice_get (bodies_from d first-place bs n us) k) (slice_get (bodies_from d' second-place cs n vs) k)
    bodies-beside n no_more k = record { steps = empty (behind n k); last = refl; exits = refl }
    bodies-beside n (one_more number successors steps ends rest) zero = record { steps = steps; last = last-same n; exits = λ k. edge_places (same-place k) (successors k) }
    bodies-beside n (one_more number successors steps ends rest) (suc k) = bodies-beside (suc n) rest k

    -- the codes of the blocks, position by position
    pub record AreCodesBeside : Type 0 where
      pub steps : (k : ℕ) → R k (steps_of (code_of d first-place bs) k) (steps_of (code_of d' second-place cs) k)
      pub last : (k : ℕ) → last_of (code_of d first-place bs) k ≡ last_of (code_of d' second-place cs) k
      pub exits : (k : ℕ) → exits_of (code_of d first-place bs) k ≡ exits_of (code_of d' second-place cs) k

    pub codes-beside : AreCodesBeside
    codes-beside = record {
      steps = λ k. subst (λ m. R m (steps_of (code_of d first-place bs) k) (steps_of (code_of d' second-place cs) k)) (behind-none k) (bodies-beside 0 beside k).steps;
      last = λ k. (bodies-beside 0 beside k).last;
      exits = λ k. (bodies-beside 0 beside k).exits;
    }
