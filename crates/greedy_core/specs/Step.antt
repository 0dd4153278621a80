-- The greedy allocator: its steps, and the run from a prepared function to the state in which no range waits.
use Rattle.std.specs.Prelude.{◌≡◌, ℕ, zero, suc, Bool, true, false, cond, ◌+◌, ◌<◌, ◌≤◌, nat_eq, max, List, [], ◌∷◌, ◌++◌, map, filter, drop, length, zip, Option, Some, None, slice_get}
use Rattle.target_base.specs.declared.types.Unit.{Unit as UnitNumber}
use Rattle.target_base.specs.declared.types.Reg.{Reg}
use Rattle.target_base.specs.declared.types.Target.{Target}
use Rattle.target_base.specs.Rules.{is_spill}
use Rattle.mir_func.specs.declared.func.Instr.{Instr}
use Rattle.mir_func.specs.declared.func.Block.{Block}
use Rattle.mir_func.specs.Value.{Function}
use Rattle.mir_func.specs.Edits.{instr_place}
use Rattle.meaning.specs.Live.{Among}
use Rattle.mir_func.specs.Binding.{class_of, does, is_terminator}
use Rattle.mir_meaning.specs.Registers.{numbers, has_number}
use Rattle.mir_meaning.specs.Points.{Entry, RangesClash, UnitClash, Tests, has_instr}
use Rattle.mir_meaning.specs.Places.{Copying, Needs, Variable, variable, place_of, copy_place, solutions, UnitsOf}
use Rattle.watchers.specs.declared.steps.Kind.{Kind}
use Rattle.watchers.specs.declared.steps.Kind.TheVariants as kinds
use Rattle.watchers.specs.declared.steps.Step.{Step}
use Rattle.watchers.specs.declared.steps.Step.TheVariants as steps
use Rattle.live_lanes.specs.declared.ask.labels.Mark.{Mark}
use Rattle.split_kit.specs.Split.{parts, Split as SplitInto}
use Rattle.split_choose.specs.Offers.{Region, PerBlock, Local, first_of}
use Rattle.greedy_core.specs.State.{Stage, New, Split, Tiny, Range, waiting, State, is_named, Knows, with_ranges, Queued, Highest, taken_out}

-- what spilling a range makes: the function, the slots, and the tinies in order, each with its place
pub record Spilling (Slots : Type 0) : Type 0 where
  pub function : Function
  pub slots : Slots
  pub tinies : List (ℕ × ℕ)

-- what the steps take from other passes, each by the definition of that pass
pub record Passes : Type 1 where
  -- what is known of slots, and of the original of each range
  pub Slots : Type 0
  -- that of a prepared function
  pub first_slots : Function → Slots
  -- the first range gets the original of the second
  pub adopted : ℕ → ℕ → Slots → Slots
  -- the registers that a range may take, the hint first, where ranges have these registers
  pub candidates : Target → List ℕ → Function → List (Option Reg) → ℕ → List Reg
  -- of those that the range may take from others, the cheapest, with the ranges that lose theirs; or there is none
  pub Evicts : Target → List ℕ → State Slots → ℕ → Option (Reg × List ℕ) → Type 0
  -- the range is spilled
  pub Spills : Target → Function → Slots → ℕ → Spilling Slots → Type 0

-- the first of a list of which P holds
pub data First {X : Type 0} (P : X → Type 0) : List X → X → Type 0 where
  here : {x : X} {xs : List X} → P x → First P (x ∷ xs) x
  later : {x y : X} {xs : List X} → (P x → ⊥) → First P xs y → First P (x ∷ xs) y

-- a split that is offered
pub record Offer : Type 0 where
  pub kind : Kind
  pub register : Option Reg
  pub marks : List Mark

-- the range is to be split or spilled
abbrev pub is_split : Stage → Bool
is_split Split = true
is_split _ = false

-- the range was made for the place of this instruction
abbrev pub is_tiny_at : ℕ → Stage → Bool
is_tiny_at at (Tiny id) = nat_eq id at
is_tiny_at at _ = false

abbrev pub is_tiny : Stage → Bool
is_tiny (Tiny at) = true
is_tiny _ = false

-- the number with which a range evicts: its own, or the next after the greatest
abbrev pub eviction_number : ℕ → ℕ → ℕ
eviction_number greatest zero = greatest + 1
eviction_number greatest (suc n) = suc n

-- the instructions from one on, to the end of its block
abbrev pub instrs_from : ℕ → List Block → List Instr
instrs_from id [] = []
instrs_from id (b ∷ bs) = cond (has_instr id b) (drop (instr_place id b.instrs) b.instrs) (instrs_from id bs)

-- The place of tinies: an instruction, or the terminators from it on. A store where a reload into a tiny and the store
-- of it stand for one copy has the place of that copy.
abbrev pub tiny_place : Target → Function → List ℕ → List Instr → Needs
tiny_place t f vs [] = place_of t f []
tiny_place t f vs (i ∷ is) =
    cond (does is_spill t i) (copy_place (map (λ v. variable Copying v None (class_of f v)) vs) (Entry i.id))
    (place_of t f (i ∷ cond (does is_terminator t i) is []))

-- the variables of a place that these ranges are
abbrev pub variables_of : List ℕ → Needs → List Variable
variables_of vs p = filter (λ x. has_number vs x.range) p.variables

module _ (P : Passes) (t : Target) (freqs : List ℕ) where
  abbrev pub Here : Type 0
  Here = State P.Slots

  -- the registers that ranges have, by their numbers
  abbrev pub registers : Here → List (Option Reg)
  registers s = map (λ r. r.register) s.ranges

  -- range w has register q
  abbrev pub Has : Here → ℕ → Reg → Type 0
  Has s w q = slice_get (registers s) w ≡ Some (Some q)

  -- in the register the range clashes with no unit that is live or written itself, and with no range that has a register
  abbrev pub IsFree : Here → ℕ → Reg → Type 0
  IsFree s v p = ((u : UnitNumber) → UnitClash t s.function v p u → ⊥) × ((w : ℕ) (q : Reg) → Has s w q → RangesClash t s.function v p w q → ⊥)

  abbrev pub candidates : Here → ℕ → List Reg
  candidates s v = P.candidates t freqs s.function (registers s) v

  abbrev pub NoneFree : Here → ℕ → Type 0
  NoneFree s v = (p : Reg) → Among p (candidates s v) → IsFree s v p → ⊥

  -- the range gets the register
  abbrev pub assigned : ℕ → Reg → Here → Here
  assigned v p s = with_ranges (λ r. record r { register = Some p }) (v ∷ []) s

  -- each range gets its register
  abbrev pub all_assigned : List (ℕ × Reg) → Here → Here
  all_assigned [] s = s
  all_assigned (c ∷ cs) s = all_assigned cs (assigned c.0 c.1 s)

  -- these ranges have no register any more
  abbrev pub unassigned : List ℕ → Here → Here
  unassigned vs s = with_ranges (λ r. record r { register = None }) vs s

  -- the range takes the register, the victims lose theirs, and all take its number
  abbrev pub evicted : ℕ → Reg → List ℕ → ℕ → Here → Here
  evicted v p victims number s = record (assigned v p (with_ranges (λ r. record r { cascade = number }) (v ∷ victims) (unassigned victims s))) { greatest = max s.greatest number }

  -- the split that is offered to a range of this depth: region before block before local, and none from depth 3 on
  pub data Offered (s : Here) (v depth : ℕ) : Option Offer → Type 0 where
    deep : 3 ≤ depth → Offered s v depth None
    region : {p : Reg} {ms : List Mark} → depth < 3 → Region t s.function (registers s) freqs v (Some (p, ms)) → Offered s v depth (Some (record { kind = kinds.Region; register = Some p; marks = ms }))
    block : {ms : List Mark} → depth < 3 → Region t s.function (registers s) freqs v None → PerBlock t s.function (registers s) v (Some ms) → Offered s v depth (Some (record { kind = kinds.Block; register = None; marks = ms }))
    local : {p : Reg} {ms : List Mark} → depth < 3 → Region t s.function (registers s) freqs v None → PerBlock t s.function (registers s) v None → Local t s.function (registers s) v (Some (p, ms)) → Offered s v depth (Some (record { kind = kinds.Local; register = Some p; marks = ms }))
    nothing : depth < 3 → Region t s.function (registers s) freqs v None → PerBlock t s.function (registers s) v None → Local t s.function (registers s) v None → Offered s v depth None

  abbrev pub adopted_all : List ℕ → ℕ → P.Slots → P.Slots
  adopted_all [] v slots = slots
  adopted_all (w ∷ ws) v slots = adopted_all ws v (P.adopted w v slots)

  -- the parts of a split range are new, one deeper, and have its original
  abbrev pub divided : Function → List ℕ → ℕ → ℕ → Here → Here
  divided g children v depth s = record s {
    function = g;
    ranges = s.ranges ++ map (λ w. waiting New (depth + 1)) children;
    slots = adopted_all children v s.slots;
  }

  -- a spilled range leaves tinies, each for its place
  abbrev pub spilled : Spilling P.Slots → Here → Here
  spilled x s = record s { function = x.function; ranges = s.ranges ++ map (λ w. waiting (Tiny w.1) 0) x.tinies; slots = x.slots }

  -- the tinies of a place, by their numbers
  abbrev pub tinies_at : Here → ℕ → List ℕ
  tinies_at s at = filter (λ v. is_there v) (numbers 0 (length s.ranges))
    where
      is_there : ℕ → Bool
      is_there v = elim (slice_get s.ranges v) [ None ↦ false | Some r ↦ is_tiny_at at r.stage ]

  -- the least choice of registers that serves for the tinies of a place together
  abbrev pub Chosen : Here → ℕ → List (ℕ × Reg) → Type 0
  Chosen s at cs =
      let needs = tiny_place t s.function (tinies_at s at) (instrs_from at s.function.blocks) in
      let xs = variables_of (tinies_at s at) needs in
      (entry : ℕ → Bool) × (exit : ℕ → Bool) × UnitsOf t s.function needs entry exit
      × (ps : List Reg) × (first_of (solutions t entry exit xs) ≡ Some ps) × (cs ≡ zip (map (λ x. x.range) xs) ps)

  -- range w is no tiny and clashes with one of these choices
  abbrev pub InTheWay : Here → List (ℕ × Reg) → ℕ → Type 0
  InTheWay s cs w =
      (r : Range) × (q : Reg) × (c : ℕ × Reg)
      × Knows s w r × (is_tiny r.stage ≡ false) × (r.register ≡ Some q) × Among c cs × RangesClash t s.function c.0 c.1 w q

  -- these are all ranges in the way, by their numbers
  abbrev pub AllInTheWay : Here → List (ℕ × Reg) → List ℕ → Type 0
  AllInTheWay s cs ws = (test : ℕ → Bool) × Tests (InTheWay s cs) test × (ws ≡ filter test (numbers 0 (length s.ranges)))

  -- the ranges of the place leave the queue and lose what registers they have
  abbrev pub released : List ℕ → Here → Here
  released vs s = unassigned vs (taken_out vs s)

  -- What is done for range v, of which r is known, once it is taken out of the queue: the first case that applies.
  pub data Does (s : Here) (v : ℕ) (r : Range) : Step → Here → Type 0 where
    free : {p : Reg} → First (IsFree s v) (candidates s v) p → Does s v r (steps.Assign v p) (assigned v p s)
    evict : {p : Reg} {victims : List ℕ} {s' : Here} →
        NoneFree s v → is_split r.stage ≡ false → P.Evicts t freqs s v (Some (p, victims)) →
        Queued t victims (evicted v p victims (eviction_number s.greatest r.cascade) s) s' →
        Does s v r (steps.Evict v p victims) s'
    defer : {s' : Here} →
        NoneFree s v → r.stage ≡ New → P.Evicts t freqs s v None →
        Queued t (v ∷ []) (with_ranges (λ x. record x { stage = Split }) (v ∷ []) s) s' →
        Does s v r (steps.Defer v) s'
    divide : {o : Offer} {g : Function} {s' : Here} →
        NoneFree s v → r.stage ≡ Split → Offered s v r.depth (Some o) → SplitInto t s.function v o.marks g →
        Queued t (filter (is_named g) (parts s.function o.marks)) (divided g (parts s.function o.marks) v r.depth s) s' →
        Does s v r (steps.Divide v o.kind o.register (parts s.function o.marks)) s'
    spill : {x : Spilling P.Slots} {s' : Here} →
        NoneFree s v → r.stage ≡ Split → Offered s v r.depth None → P.Spills t s.function s.slots v x →
        Queued t (map (λ w. w.0) x.tinies) (spilled x s) s' →
        Does s v r (steps.Spill v (map (λ w. w.0) x.tinies)) s'
    place : {at : ℕ} {cs : List (ℕ × Reg)} {ws : List ℕ} {s' : Here} →
        NoneFree s v → r.stage ≡ Tiny at → P.Evicts t freqs s v None → Chosen s at cs →
        AllInTheWay (released (tinies_at s at) s) cs ws →
        Queued t ws (all_assigned cs (unassigned ws (released (tinies_at s at) s))) s' →
        Does s v r (steps.Place cs) s'

  -- one step: the range that comes first is taken out of the queue, and the first case that applies is done
  abbrev pub Next : Here → Step → Here → Type 0
  Next s e s' = (v : ℕ) × (p : ℕ) × (r : Range) × Highest s.queue v p × Knows s v r × Does (taken_out (v ∷ []) s) v r e s'

  -- the steps from a state to the one in which no range waits
  pub data Steps : Here → List Step → Here → Type 0 where
    ended : {s : Here} → s.queue ≡ [] → Steps s [] s
    goes : {s s' last : Here} {e : Step} {es : List Step} → Next s e s' → Steps s' es last → Steps s (e ∷ es) last

  -- the first state of a prepared function: all ranges that it names wait
  abbrev pub FirstState : Function → Here → Type 0
  FirstState f s =
      Queued t (filter (is_named f) (numbers 0 (length f.classes)))
      (record { function = f; ranges = map (λ c. waiting New 0) f.classes; greatest = 0; slots = P.first_slots f; queue = [] }) s

  -- the run over a prepared function, the k-th of its file: its steps, from that of its beginning on, and its last state
  abbrev pub Run : Function → ℕ → List Step → Here → Type 0
  Run f k journal last = (s : Here) × (es : List Step) × FirstState f s × Steps s es last × (journal ≡ steps.Begin k ∷ es)
