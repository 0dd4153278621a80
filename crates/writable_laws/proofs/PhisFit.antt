-- Behind phi elimination each instruction can be spelled.
use Rattle.std.proofs.Common.{◌≡◌, ◌∷◌, ◌++◌, ◌+◌, ◌<◌, ℕ, zero, suc, Bool, true, false, cond, List, Some, filter, take, drop, length, refl, sym, subst, arith, []}
use Rattle.std.specs.Prelude.{find, ◌==◌}
use Rattle.std.specs.List.{position_or_len}
use Rattle.target_base.specs.declared.types.Target.{Target}
use Rattle.target_base.specs.Rules.{is_phi}
use Rattle.meaning.specs.Live.{Among, here, there}
use Rattle.mir_func.specs.declared.func.Op.TheVariants as ops
use Rattle.mir_func.specs.declared.func.Operand.{Operand}
use Rattle.mir_func.specs.declared.func.Operand.TheVariants as operands
use Rattle.mir_func.specs.declared.func.Instr.{Instr}
use Rattle.mir_func.specs.declared.func.Block.{Block}
use Rattle.mir_func.specs.Value.{Function}
use Rattle.mir_func.specs.Edits.{block_place}
use Rattle.mir_func.specs.Binding.{does, is_terminator}
use Rattle.phi_elim.specs.declared.arrivals.Arrival.{Arrival}
use Rattle.phi_elim.specs.Moves.{copy_op, whole_definition, whole_use}
use Rattle.phi_elim.specs.Numbered.{blocks_numbered, numbered}
use Rattle.phi_elim.specs.Phis.{all_in_place, all_instrs, arrival, arrivals_in, arrivals_of, arriving, arriving_at, before_terminators, from_incoming, in_place, instr_arrivals, lowered_blocks, phi_count, phi_number, phis_lowered}
use Rattle.instr_effects.proofs.Members.{either-elim, filter-of, flat-of, map-of, member-elim, member-none}
use Rattle.lowering_laws.proofs.Eliminated.{eliminated-classes, eliminated-rules}
use Rattle.lowering_laws.proofs.PhiBlocks.{phis_keep_block_rules}
use Rattle.lowering_laws.proofs.Ruled.{EachRules, all-rules, each-rules}
use Rattle.writable_laws.specs.Writable.{IsWritable, definitions_first}
use Rattle.writable_laws.specs.Laws.{PhisStayWritable}
use Rattle.writable_laws.proofs.Fitting.{OperandsFit, InstrsFit, InstrFits, BlockFits, OperandFits, RegisterFits, append-each, block-with, copy-known, move-fits, next-each, numbered-each, one-first, one-fits, fits-of, two-fits, use-second}
use Rattle.writable_laws.proofs.Whole.{writable-behind}

pub found-among : {X : Type 0} (p : X → Bool) (xs : List X) (x : X) → find p xs ≡ Some x → Among x xs
found-among p [] x e = absurd (cc)
found-among {X} p (y ∷ xs) x e = go (p y) e (found-among p xs x)
  where
    some-is : (a b : X) → Some a ≡ Some b → a ≡ b
    some-is a b q = cc

    go : (b : Bool) → cond b (Some y) (find p xs) ≡ Some x → (find p xs ≡ Some x → Among x xs) → Among x (y ∷ xs)
    go true q ih = subst (λ z. Among z (y ∷ xs)) (some-is y x q) here
    go false q ih = there (ih q)

in-take : {A : Type 0} (n : ℕ) (xs : List A) (x : A) → Among x (take n xs) → Among x xs
in-take zero xs x m = absurd (member-none x m)
in-take (suc n) [] x m = absurd (member-none x m)
in-take (suc n) (y ∷ xs) x m = member-elim x y (take n xs) (λ e. subst (λ z. Among z (y ∷ xs)) (sym e) here) (λ k. there (in-take n xs x k)) m

pub in-drop : {A : Type 0} (n : ℕ) (xs : List A) (x : A) → Among x (drop n xs) → Among x xs
in-drop zero xs x m = m
in-drop (suc n) [] x m = absurd (member-none x m)
in-drop (suc n) (y ∷ xs) x m = there (in-drop n xs x m)

module _ (t : Target) where
  -- in the places of phis

  incoming-fits : (c : ℕ) (os : List Operand) → OperandsFit t os → OperandsFit t (from_incoming c os)
  incoming-fits c [] h = one-fits t (operands.Reg (whole_use c)) tt
  incoming-fits c (d ∷ os) h = two-fits t d (operands.Reg (whole_use c)) (h d here) tt

  incoming-order : (c : ℕ) (os : List Operand) → definitions_first (from_incoming c os) ≡ true
  incoming-order c [] = one-first (operands.Reg (whole_use c))
  incoming-order c (d ∷ os) = use-second d (operands.Reg (whole_use c)) refl

  place-fits : (c : ℕ) (i : Instr) → InstrFits t i → InstrFits t (in_place t c i)
  place-fits c i h = go (does is_phi t i)
    where
      go : (y : Bool) → InstrFits t (cond y (record i { op = ops.Known copy_op; operands = from_incoming c i.operands }) i)
      go true = record { opcode = copy-known t; flags = h.flags; order = incoming-order c i.operands; operands = incoming-fits c i.operands h.operands; tail = h.tail }
      go false = h

  placed-fits : (c : ℕ) (is : List Instr) → InstrsFit t is → InstrsFit t (all_in_place t c is)
  placed-fits c [] h = h
  placed-fits c (i ∷ is) h = next-each t (in_place t c i) (all_in_place t (c + phi_number t i) is) (place-fits c i (h i here)) (placed-fits (c + phi_number t i) is (λ x m. h x (there m)))

  -- copies into incoming registers

  abbrev ArrivalsFit : List Arrival → Type 0
  ArrivalsFit arrs = (a : Arrival) → Among a arrs → RegisterFits t a.from.loc a.from.index

  append-arrive : (xs ys : List Arrival) → ArrivalsFit xs → ArrivalsFit ys → ArrivalsFit (xs ++ ys)
  append-arrive xs ys h g a m = either-elim a xs ys (λ k. h a k) (λ k. g a k) m

  none-arrive : ArrivalsFit []
  none-arrive a m = absurd (member-none a m)

  pair-arrives : (bs : List Block) (c : ℕ) (a b : Operand) → OperandFits t a → ArrivalsFit (arrival bs c a b)
  pair-arrives bs c (operands.Reg s) (operands.Block n) h = λ x m. member-elim x (record { block = block_place n bs; to = c; from = s }) [] (λ e. subst (λ (z : Arrival). RegisterFits t z.from.loc z.from.index) (sym e) h) (λ k. absurd (member-none x k)) m
  pair-arrives bs c a b h = none-arrive

  pairs-arrive : (bs : List Block) (c : ℕ) (os : List Operand) → OperandsFit t os → ArrivalsFit (arrivals_of bs c os)
  pairs-arrive bs c [] h = none-arrive
  pairs-arrive bs c (a ∷ []) h = none-arrive
  pairs-arrive bs c (a ∷ b ∷ os) h = append-arrive (arrival bs c a b) (arrivals_of bs c os) (pair-arrives bs c a b (h a here)) (pairs-arrive bs c os (λ o m. h o (there (there m))))

  instr-arrives : (bs : List Block) (c : ℕ) (i : Instr) → InstrFits t i → ArrivalsFit (instr_arrivals t bs c i)
  instr-arrives bs c i h = go (does is_phi t i)
    where
      go : (y : Bool) → ArrivalsFit (cond y (arrivals_of bs c (drop 1 i.operands)) [])
      go true = pairs-arrive bs c (drop 1 i.operands) (λ o m. h.operands o (in-drop 1 i.operands o m))
      go false = none-arrive

  all-arrive : (bs : List Block) (c : ℕ) (is : List Instr) → InstrsFit t is → ArrivalsFit (arrivals_in t bs c is)
  all-arrive bs c [] h = none-arrive
  all-arrive bs c (i ∷ is) h = append-arrive (instr_arrivals t bs c i) (arrivals_in t bs (c + phi_number t i) is) (instr-arrives bs c i (h i here)) (all-arrive bs (c + phi_number t i) is (λ x m. h x (there m)))

  arriving-fits : (arrs : List Arrival) → ArrivalsFit arrs → (k : ℕ) → InstrsFit t (arriving_at arrs k)
  arriving-fits arrs h k x m =
      let xs = filter (λ (a : Arrival). a.block == k) arrs in
      let z = map-of arriving x xs m in
      let w = filter-of (λ (a : Arrival). a.block == k) z.0 arrs z.1 in
      subst (InstrFits t) (sym z.2) (move-fits t (whole_definition z.0.to) z.0.from tt (h z.0 w.0))

  before-fits : (new is : List Instr) → InstrsFit t new → InstrsFit t is → InstrsFit t (before_terminators t new is)
  before-fits new is h g =
      let n = position_or_len (does is_terminator t) is in
      append-each t (take n is) (new ++ drop n is) (λ x m. g x (in-take n is x m)) (append-each t new (drop n is) h (λ x m. g x (in-drop n is x m)))

  blocks-fits : (arrs : List Arrival) → ArrivalsFit arrs → (n k c : ℕ) (bs : List Block) → ((b : Block) → Among b bs → BlockFits t b) → (d : Block) → Among d (blocks_numbered n (lowered_blocks t arrs k c bs)) → BlockFits t d
  blocks-fits arrs h n k c [] w d m = absurd (member-none d m)
  blocks-fits arrs h n k c (b ∷ bs) w d m =
      let L = before_terminators t (arriving_at arrs k) (all_in_place t c b.instrs) in
      let z = w b here in
      member-elim d (record b { instrs = numbered n L }) (blocks_numbered (n + length L) (lowered_blocks t arrs (k + 1) (c + phi_count t b.instrs) bs))
      (λ e. subst (BlockFits t) (sym e) (block-with t b (numbered n L) z.header (numbered-each t n L (before-fits (arriving_at arrs k) (all_in_place t c b.instrs) (arriving-fits arrs h k) (placed-fits c b.instrs z.instrs)))))
      (λ j. blocks-fits arrs h (n + length L) (k + 1) (c + phi_count t b.instrs) bs (λ x q. w x (there q)) d j) m

  some-blocks : (arrs : List Arrival) (n k c : ℕ) (bs : List Block) → 0 < length bs → 0 < length (blocks_numbered n (lowered_blocks t arrs k c bs))
  some-blocks arrs n k c [] h = h
  some-blocks arrs n k c (b ∷ bs) h = omega arith

-- the blocks of a writable function whose opcodes are the target's
pub source-fits : (t : Target) (f : Function) → EachRules t f → IsWritable t f → (b : Block) → Among b f.blocks → BlockFits t b
source-fits t f rules w b m = record {
  header = w.headers b m;
  instrs = λ i k. (let d = (rules b i m k).known in fits-of t f i d.0 d.1 (w.instrs b i m k));
}

module _ (t : Target) (f : Function) (rules : EachRules t f) (w : IsWritable t f) where
  all-fits : InstrsFit t (all_instrs f.blocks)
  all-fits i m = let z = flat-of (λ (b : Block). b.instrs) i f.blocks m in (source-fits t f rules w z.0 z.1).instrs i z.2

  pub phis-fits : (d : Block) → Among d (phis_lowered t f).blocks → BlockFits t d
  unfolding phis_lowered
  phis-fits d m =
      let c = length f.classes in
      let arrs = arrivals_in t f.blocks c (all_instrs f.blocks) in
      blocks-fits t arrs (all-arrive t f.blocks c (all_instrs f.blocks) all-fits) 0 0 c f.blocks (λ b k. source-fits t f rules w b k) d m

  pub phis-begun : 0 < length (phis_lowered t f).blocks
  unfolding phis_lowered
  phis-begun = let c = length f.classes in some-blocks t (arrivals_in t f.blocks c (all_instrs f.blocks)) 0 0 c f.blocks w.begun

pub phi-head : (t : Target) (f : Function) → (phis_lowered t f).head ≡ f.head
unfolding phis_lowered
phi-head t f = refl

pub phi-name : (t : Target) (f : Function) → (phis_lowered t f).name ≡ f.name
unfolding phis_lowered
phi-name t f = refl

pub phi-frames : (t : Target) (f : Function) → (phis_lowered t f).frames ≡ f.frames
unfolding phis_lowered
phi-frames t f = refl

pub phis_stay_writable : PhisStayWritable
phis_stay_writable t f valid w few =
    let rules = each-rules t f (all-rules t f valid.shape) in
    let new = eliminated-rules t f rules in
    writable-behind t f (phis_lowered t f) w (phi-head t f) (phi-name t f) (phi-frames t f) few (eliminated-classes t f w.classes) (phis-begun t f rules w)
    (phis-fits t f rules w)
    (λ b i mb mi. (new b i mb mi).one)
    (λ b i mb mi. (new b i mb mi).three)
    (λ k b e. (phis_keep_block_rules t f valid.shape).nine k b e)
