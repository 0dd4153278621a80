-- The arrivals of the phis so far, and of one more.
use Rattle.std.proofs.Common.{◌≡◌, ℕ, zero, suc, ◌+◌, ◌*◌, ◌/◌, ◌<◌, ◌≤◌, min, Bool, true, false, cond, List, [], ◌∷◌, ◌++◌, length, get_or, take, drop, refl, ap, sym, ◌∙◌, arith, append_assoc, add_assoc, length-drop}
use Rattle.std.specs.List.{sum_by, flat_map}
use Rattle.std.proofs.lemmas.List.{drop_more}
use Rattle.std.proofs.lemmas.List.Sums.{sum_by-cons, sum_by-append}
use Rattle.std.proofs.lemmas.List.Concat.{flat_map-append}
use Rattle.target_base.specs.declared.types.Target.{Target}
use Rattle.mir_func.specs.declared.func.Operand.{Operand}
use Rattle.mir_func.specs.declared.func.Instr.{Instr}
use Rattle.mir_func.specs.declared.func.Block.{Block}
use Rattle.phi_elim.specs.Phis.{arrival, arrivals_of, instr_arrivals, arrivals_in, phi_number, phi_count, all_instrs}
use Rattle.phi_elim.specs.Numbered.{instr_count}

-- operands behind a pair
pub pair_more : (bs : List Block) (c k : ℕ) (os : List Operand) (a b : Operand) → k < length os / 2 → a ≡ get_or os (2 * k) a → b ≡ get_or os (2 * k + 1) b → arrivals_of bs c (drop (2 * k) os) ≡ arrival bs c a b ++ arrivals_of bs c (drop (2 * (k + 1)) os)
pair_more bs c k os a b h at next =
    let first = drop_more os (2 * k) a (omega arith) in
    let second = drop_more os (2 * k + 1) b (omega arith) in
    let e : 2 * (k + 1) ≡ 2 * k + 1 + 1 = omega arith in
    rw (e, first, second, ← at, ← next) refl

short : (bs : List Block) (c : ℕ) (os : List Operand) → length os ≤ 1 → arrivals_of bs c os ≡ []
short bs c [] h = refl
short bs c (a ∷ []) h = refl
short bs c (a ∷ b ∷ os) h = absurd (omega arith)

pub pairs_all : (bs : List Block) (c k : ℕ) (os : List Operand) → length os / 2 ≤ k → arrivals_of bs c (drop (2 * k) os) ≡ []
pairs_all bs c k os h = short bs c (drop (2 * k) os) (omega (arith, length-drop (2 * k) os))

-- without the first operand, where there is one
pub drop_first : (os : List Operand) → drop (min (length os) 1) os ≡ drop 1 os
drop_first [] = refl
drop_first (o ∷ os) = let e : min (suc (length os)) 1 ≡ 1 = omega arith in rw e refl

-- an instruction more
pub instrs_more : (t : Target) (bs : List Block) (c i : ℕ) (is : List Instr) (x : Instr) → i < length is → x ≡ get_or is i x → arrivals_in t bs c (drop i is) ≡ instr_arrivals t bs c x ++ arrivals_in t bs (c + phi_number t x) (drop (i + 1) is)
instrs_more t bs c i is x h at = rw (drop_more is i x h, ← at) refl

arrivals_in-append : (t : Target) (bs : List Block) (c : ℕ) (is js : List Instr) → arrivals_in t bs c (is ++ js) ≡ arrivals_in t bs c is ++ arrivals_in t bs (c + phi_count t is) js
arrivals_in-append t bs c [] js = let e : c + 0 ≡ c = omega arith in rw e refl
arrivals_in-append t bs c (i ∷ is) js =
    let e : c + phi_number t i + phi_count t is ≡ c + phi_count t (i ∷ is) = omega (arith, sum_by-cons (phi_number t) i is) in
    rw (arrivals_in-append t bs (c + phi_number t i) is js, e, append_assoc) refl

-- a block more
pub blocks_more : (t : Target) (all : List Block) (c i : ℕ) (bs : List Block) (b : Block) → i < length bs → b ≡ get_or bs i b → arrivals_in t all c (all_instrs (drop i bs)) ≡ arrivals_in t all c b.instrs ++ arrivals_in t all (c + phi_count t b.instrs) (all_instrs (drop (i + 1) bs))
blocks_more t all c i bs b h at = rw (drop_more bs i b h, ← at) (arrivals_in-append t all c b.instrs (all_instrs (drop (i + 1) bs)))

pub instr_count_more : (i : ℕ) (bs : List Block) (b : Block) → i < length bs → b ≡ get_or bs i b → instr_count (drop i bs) ≡ length b.instrs + instr_count (drop (i + 1) bs)
instr_count_more i bs b h at = rw (drop_more bs i b h, ← at) (sum_by-cons (λ (x : Block). length x.instrs) b (drop (i + 1) bs))

number_small : (t : Bool) → cond t 1 0 ≤ 1
number_small true = omega arith
number_small false = omega arith

pub phi_number_small : (t : Target) (i : Instr) → phi_number t i ≤ 1
phi_number_small t i = number_small _

pub phi_count_small : (t : Target) (is : List Instr) → phi_count t is ≤ length is
phi_count_small t [] = omega arith
phi_count_small t (i ∷ is) = omega (arith, sum_by-cons (phi_number t) i is, phi_number_small t i, phi_count_small t is)

-- a list that is made of pieces, one for each instruction, block by block
pub pieces_more : {X Y : Type 0} (f : X → List Y) (i : ℕ) (xs : List X) (x : X) → i < length xs → x ≡ get_or xs i x → flat_map f (drop i xs) ≡ f x ++ flat_map f (drop (i + 1) xs)
pieces_more f i xs x h at = rw (drop_more xs i x h, ← at) refl

pub block_pieces_more : {Y : Type 0} (f : Instr → List Y) (i : ℕ) (bs : List Block) (b : Block) → i < length bs → b ≡ get_or bs i b → flat_map f (all_instrs (drop i bs)) ≡ flat_map f b.instrs ++ flat_map f (all_instrs (drop (i + 1) bs))
block_pieces_more f i bs b h at = rw (drop_more bs i b h, ← at) (flat_map-append f b.instrs (all_instrs (drop (i + 1) bs)))

pub ruleset arriving = (pair_more, pairs_all, drop_first, instrs_more, blocks_more, instr_count_more, phi_number_small, phi_count_small, pieces_more, block_pieces_more)
