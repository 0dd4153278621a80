-- How large a function is behind phi elimination.
use Rattle.std.proofs.Common.{◌≡◌, ℕ, zero, suc, ◌+◌, ◌*◌, ◌^◌, ◌<◌, ◌≤◌, Bool, true, false, cond, eqb, nat_le, nat_lt, leb, ltb, if◌then◌else◌, List, [], ◌∷◌, ◌++◌, length, take, drop, map, filter, refl, ap, sym, ◌∙◌, arith, length-append, length-drop, take-append-drop, Option}
use Rattle.std.specs.List.{sum_by, flat_map, count_by, position_or_len}
use Rattle.std.proofs.lemmas.List.{length-map}
use Rattle.std.proofs.lemmas.List.Sums.{sum_by-cons, sum_by-append, length-filter, count_by-le-length}
use Rattle.std.proofs.lemmas.Bool.Decides.{nat_tests}
use Rattle.target_base.specs.declared.types.Target.{Target}
use Rattle.target_base.specs.declared.types.ClassId.{ClassId}
use Rattle.target_base.specs.Rules.{is_phi}
use Rattle.mir_func.specs.declared.func.Operand.{Operand}
use Rattle.mir_func.specs.declared.func.Operand.TheVariants as operands
use Rattle.mir_func.specs.declared.func.RegOp.{RegOp}
use Rattle.mir_func.specs.declared.func.Instr.{Instr}
use Rattle.mir_func.specs.declared.func.Block.{Block}
use Rattle.mir_func.specs.Value.{Function, IsFunction, id_count, id_total}
use Rattle.mir_func.specs.Binding.{does, is_terminator}
use Rattle.phi_elim.specs.declared.arrivals.Arrival.{Arrival}
use Rattle.phi_elim.specs.Moves.{copy_of, undefining, move_of, whole_definition, source_of}
use Rattle.phi_elim.specs.Numbered.{numbered, blocks_numbered, instr_count}
use Rattle.phi_elim.specs.Bulk.{bulk, operand_count}
use Rattle.phi_elim.specs.Phis.{arrival, arrivals_of, instr_arrivals, arrivals_in, phi_number, phi_count, all_instrs, from_incoming, in_place, all_in_place, arriving, arriving_at, before_terminators, lowered_block, lowered_blocks, incoming_class, result_class, phis_lowered}
use Rattle.phi_elim.proofs.Arriving.{phi_number_small, phi_count_small}

-- instructions and operands of all blocks

length_of : Block → ℕ
length_of b = length b.instrs

operands_in : Block → ℕ
operands_in b = operand_count b.instrs

pub instr_count-cons : (b : Block) (bs : List Block) → instr_count (b ∷ bs) ≡ length b.instrs + instr_count bs
unfolding length_of
instr_count-cons b bs = sum_by-cons length_of b bs

pub length-all_instrs : (bs : List Block) → length (all_instrs bs) ≡ instr_count bs
length-all_instrs [] = refl
length-all_instrs (b ∷ bs) = omega (arith, length-append b.instrs (all_instrs bs), length-all_instrs bs, instr_count-cons b bs)

-- all operands of blocks
abbrev pub operand_total : List Block → ℕ
operand_total bs = sum_by (λ b. operand_count b.instrs) bs

pub operand_total-cons : (b : Block) (bs : List Block) → operand_total (b ∷ bs) ≡ operand_count b.instrs + operand_total bs
unfolding operands_in
operand_total-cons b bs = sum_by-cons operands_in b bs

operands_of : Instr → ℕ
operands_of i = length i.operands

pub operand_count-cons : (i : Instr) (is : List Instr) → operand_count (i ∷ is) ≡ length i.operands + operand_count is
unfolding operands_of
operand_count-cons i is = sum_by-cons operands_of i is

pub operand_count-append : (is js : List Instr) → operand_count (is ++ js) ≡ operand_count is + operand_count js
unfolding operands_of
operand_count-append is js = sum_by-append operands_of is js

pub operand_count-all : (bs : List Block) → operand_count (all_instrs bs) ≡ operand_total bs
operand_count-all [] = refl
operand_count-all (b ∷ bs) = omega (arith, operand_count-append b.instrs (all_instrs bs), operand_count-all bs, operand_total-cons b bs)

-- distinct ids below a number: no more instructions than that

same_id : ℕ → Instr → ℕ
same_id x i = cond (eqb i.id x) 1 0

id_count-cons : (x : ℕ) (i : Instr) (is : List Instr) → id_count x (i ∷ is) ≡ same_id x i + id_count x is
unfolding same_id
id_count-cons x i is = sum_by-cons (same_id x) i is

id_count-append : (x : ℕ) (is js : List Instr) → id_count x (is ++ js) ≡ id_count x is + id_count x js
unfolding same_id
id_count-append x is js = sum_by-append (same_id x) is js

ids_in : ℕ → Block → ℕ
ids_in x b = id_count x b.instrs

pub id_total-cons : (x : ℕ) (b : Block) (bs : List Block) → id_total x (b ∷ bs) ≡ id_count x b.instrs + id_total x bs
unfolding ids_in
id_total-cons x b bs = sum_by-cons (ids_in x) b bs

id_count-all : (x : ℕ) (bs : List Block) → id_count x (all_instrs bs) ≡ id_total x bs
id_count-all x [] = refl
id_count-all x (b ∷ bs) = omega (arith, id_count-append x b.instrs (all_instrs bs), id_count-all x bs, id_total-cons x b bs)

-- how many instructions have ids below n
abbrev pub seen : ℕ → List Instr → ℕ
seen zero is = 0
seen (suc n) is = id_count n is + seen n is

at_most_one : (x n c : ℕ) → c ≤ (if nat_lt x n then 1 else 0) → c ≤ 1
at_most_one x n c h = grind (arith, nat_tests)

seen_small : (m n : ℕ) (is : List Instr) → ((x : ℕ) → id_count x is ≤ (if nat_lt x n then 1 else 0)) → seen m is ≤ m
seen_small zero n is h = omega arith
seen_small (suc m) n is h = let one = at_most_one m n (id_count m is) (h m) in omega (arith, one, seen_small m n is h)

below_step : (id n : ℕ) → cond (ltb id (suc n)) 1 0 ≡ cond (eqb id n) 1 0 + cond (ltb id n) 1 0
below_step id n = grind (arith, nat_tests)

below_none : (id : ℕ) → let none : ℕ = 0 in cond (ltb id 0) 1 0 ≡ none
below_none id = grind (arith, nat_tests)

seen-cons : (n : ℕ) (i : Instr) (is : List Instr) → seen n (i ∷ is) ≡ cond (ltb i.id n) 1 0 + seen n is
unfolding same_id
seen-cons zero i is = omega (arith, below_none i.id)
seen-cons (suc n) i is = omega (arith, id_count-cons n i is, seen-cons n i is, below_step i.id n)

one_at_most : (b : Bool) → cond b 1 0 ≤ 1
one_at_most true = omega arith
one_at_most false = omega arith

is_below : (id n c r : ℕ) → c ≡ cond (eqb id id) 1 0 + r → c ≤ (if nat_lt id n then 1 else 0) → 1 ≤ cond (ltb id n) 1 0
is_below id n c r e h = grind (arith, nat_tests)

still : (x n a c r : ℕ) → c ≡ a + r → c ≤ (if nat_lt x n then 1 else 0) → r ≤ (if nat_lt x n then 1 else 0)
still x n a c r e h = omega (arith, e, h)

all_seen : (n : ℕ) (is : List Instr) → ((x : ℕ) → id_count x is ≤ (if nat_lt x n then 1 else 0)) → length is ≡ seen n is
unfolding same_id
all_seen n [] h = sym (seen_none n)
  where
    seen_none : (m : ℕ) → seen m [] ≡ 0
    seen_none zero = refl
    seen_none (suc m) = omega (arith, seen_none m)
all_seen n (i ∷ is) h =
    let here = is_below i.id n (id_count i.id (i ∷ is)) (id_count i.id is) (id_count-cons i.id i is) (h i.id) in
    let rest = all_seen n is (λ x. still x n (same_id x i) (id_count x (i ∷ is)) (id_count x is) (id_count-cons x i is) (h x)) in
    omega (arith, here, one_at_most (ltb i.id n), rest, seen-cons n i is)

pub instrs_below : (n : ℕ) (bs : List Block) → ((x : ℕ) → id_total x bs ≤ (if nat_lt x n then 1 else 0)) → instr_count bs ≤ n
instrs_below n bs h =
    let flat : (x : ℕ) → id_count x (all_instrs bs) ≤ (if nat_lt x n then 1 else 0) = λ x. rw (id_count-all x bs) (h x) in
    omega (arith, length-all_instrs bs, all_seen n (all_instrs bs) flat, seen_small n n (all_instrs bs) flat)

-- arrivals: one for two operands at most

arrival_small : (bs : List Block) (c : ℕ) (a b : Operand) → length (arrival bs c a b) ≤ 1
arrival_small bs c (operands.Reg s) (operands.Block n) = omega arith
arrival_small bs c _ _ = omega arith

arrivals_of_small : (bs : List Block) (c : ℕ) (os : List Operand) → 2 * length (arrivals_of bs c os) ≤ length os
arrivals_of_small bs c [] = omega arith
arrivals_of_small bs c (a ∷ []) = omega arith
arrivals_of_small bs c (a ∷ b ∷ os) = omega (arith, length-append (arrival bs c a b) (arrivals_of bs c os), arrival_small bs c a b, arrivals_of_small bs c os)

if_phi : (t : Bool) (arrs : List Arrival) (n : ℕ) → 2 * length arrs ≤ n → 2 * length (cond t arrs []) ≤ n
if_phi true arrs n h = h
if_phi false arrs n h = omega arith

instr_arrivals_small : (t : Target) (bs : List Block) (c : ℕ) (i : Instr) → 2 * length (instr_arrivals t bs c i) ≤ length i.operands
instr_arrivals_small t bs c i = if_phi (does is_phi t i) (arrivals_of bs c (drop 1 i.operands)) (length i.operands) (omega (arith, arrivals_of_small bs c (drop 1 i.operands), length-drop 1 i.operands))

arrivals_in_small : (t : Target) (bs : List Block) (c : ℕ) (is : List Instr) → 2 * length (arrivals_in t bs c is) ≤ operand_count is
arrivals_in_small t bs c [] = omega arith
arrivals_in_small t bs c (i ∷ is) = omega (arith, length-append (instr_arrivals t bs c i) (arrivals_in t bs (c + phi_number t i) is), instr_arrivals_small t bs c i, arrivals_in_small t bs (c + phi_number t i) is, operand_count-cons i is)

-- the block at place k: its instructions and those that arrive

length-all_in_place : (t : Target) (c : ℕ) (is : List Instr) → length (all_in_place t c is) ≡ length is
length-all_in_place t c [] = refl
length-all_in_place t c (i ∷ is) = ap suc (length-all_in_place t (c + phi_number t i) is)

length-put : {X : Type 0} (n : ℕ) (new is : List X) → length (take n is ++ (new ++ drop n is)) ≡ length is + length new
length-put n new is = omega (arith, length-append (take n is) (new ++ drop n is), length-append new (drop n is), length-append (take n is) (drop n is), ap length (take-append-drop n is))

operands-put : (n : ℕ) (new is : List Instr) → operand_count (take n is ++ (new ++ drop n is)) ≡ operand_count is + operand_count new
operands-put n new is = omega (arith, operand_count-append (take n is) (new ++ drop n is), operand_count-append new (drop n is), operand_count-append (take n is) (drop n is), ap operand_count (take-append-drop n is))

here : ℕ → Arrival → Bool
here k a = eqb a.block k

from_here : ℕ → Arrival → Bool
from_here k a = leb k a.block

here_or_later : (k b : ℕ) → cond (leb k b) 1 0 ≡ cond (eqb b k) 1 0 + cond (leb (k + 1) b) 1 0
here_or_later k b = grind (arith, nat_tests)

-- what arrives from place k on, arrives there or from the next place on
from_here_split : (k : ℕ) (arrs : List Arrival) → count_by (from_here k) arrs ≡ count_by (here k) arrs + count_by (from_here (k + 1)) arrs
unfolding here from_here
from_here_split k [] = refl
from_here_split k (a ∷ arrs) = omega (arith, sum_by-cons (λ (x : Arrival). cond (leb k x.block) 1 0) a arrs, sum_by-cons (λ (x : Arrival). cond (eqb x.block k) 1 0) a arrs, sum_by-cons (λ (x : Arrival). cond (leb (k + 1) x.block) 1 0) a arrs, from_here_split k arrs, here_or_later k a.block)

length-arriving_at : (arrs : List Arrival) (k : ℕ) → length (arriving_at arrs k) ≡ count_by (here k) arrs
unfolding here
length-arriving_at arrs k = length-map (filter (here k) arrs) arriving ∙ length-filter (here k) arrs

length-lowered_block : (t : Target) (arrs : List Arrival) (k c : ℕ) (b : Block) → length (lowered_block t arrs k c b).instrs ≡ length b.instrs + count_by (here k) arrs
length-lowered_block t arrs k c b = omega (arith, length-put (position_or_len (does is_terminator t) (all_in_place t c b.instrs)) (arriving_at arrs k) (all_in_place t c b.instrs), length-all_in_place t c b.instrs, length-arriving_at arrs k)

lowered_from : (t : Target) (arrs : List Arrival) (k c : ℕ) (bs : List Block) → instr_count (lowered_blocks t arrs k c bs) ≤ instr_count bs + count_by (from_here k) arrs
lowered_from t arrs k c [] = omega arith
lowered_from t arrs k c (b ∷ bs) =
    omega (arith, instr_count-cons (lowered_block t arrs k c b) (lowered_blocks t arrs (k + 1) (c + phi_count t b.instrs) bs), instr_count-cons b bs, length-lowered_block t arrs k c b, from_here_split k arrs, lowered_from t arrs (k + 1) (c + phi_count t b.instrs) bs)

pub lowered_count : (t : Target) (arrs : List Arrival) (c : ℕ) (bs : List Block) → instr_count (lowered_blocks t arrs 0 c bs) ≤ instr_count bs + length arrs
lowered_count t arrs c bs = omega (arith, lowered_from t arrs 0 c bs, count_by-le-length (from_here 0) arrs)

-- their operands

move_small : (u : Bool) (a b : Instr) → length a.operands ≤ 2 → length b.operands ≤ 2 → length (cond u a b).operands ≤ 2
move_small true a b ha hb = ha
move_small false a b ha hb = hb

arriving_small : (a : Arrival) → length (arriving a).operands ≤ 2
arriving_small a = move_small a.from.undef (undefining (whole_definition a.to)) (copy_of (whole_definition a.to) (source_of a.from)) (omega arith) (omega arith)

all_arriving_small : (arrs : List Arrival) → operand_count (map arriving arrs) ≤ 2 * length arrs
all_arriving_small [] = omega arith
all_arriving_small (a ∷ arrs) = omega (arith, operand_count-cons (arriving a) (map arriving arrs), arriving_small a, all_arriving_small arrs)

arriving_at_small : (arrs : List Arrival) (k : ℕ) → operand_count (arriving_at arrs k) ≤ 2 * count_by (here k) arrs
unfolding here
arriving_at_small arrs k = omega (arith, all_arriving_small (filter (here k) arrs), length-filter (here k) arrs)

from_incoming_small : (c : ℕ) (os : List Operand) → length (from_incoming c os) ≤ length os + 1
from_incoming_small c [] = omega arith
from_incoming_small c (o ∷ os) = omega arith

in_place_by : (p : Bool) (r i : Instr) → length r.operands ≤ length i.operands + 1 → length (cond p r i).operands ≤ length i.operands + cond p 1 0
in_place_by true r i h = h
in_place_by false r i h = omega arith

in_place_small : (t : Target) (c : ℕ) (i : Instr) → length (in_place t c i).operands ≤ length i.operands + phi_number t i
in_place_small t c i = in_place_by (does is_phi t i) _ i (from_incoming_small c i.operands)

all_in_place_small : (t : Target) (c : ℕ) (is : List Instr) → operand_count (all_in_place t c is) ≤ operand_count is + phi_count t is
all_in_place_small t c [] = omega arith
all_in_place_small t c (i ∷ is) = omega (arith, operand_count-cons (in_place t c i) (all_in_place t (c + phi_number t i) is), operand_count-cons i is, sum_by-cons (phi_number t) i is, in_place_small t c i, all_in_place_small t (c + phi_number t i) is)

lowered_block_small : (t : Target) (arrs : List Arrival) (k c : ℕ) (b : Block) → operand_count (lowered_block t arrs k c b).instrs ≤ operand_count b.instrs + length b.instrs + 2 * count_by (here k) arrs
lowered_block_small t arrs k c b = omega (arith, operands-put (position_or_len (does is_terminator t) (all_in_place t c b.instrs)) (arriving_at arrs k) (all_in_place t c b.instrs), all_in_place_small t c b.instrs, phi_count_small t b.instrs, arriving_at_small arrs k)

operands_from : (t : Target) (arrs : List Arrival) (k c : ℕ) (bs : List Block) → operand_total (lowered_blocks t arrs k c bs) ≤ operand_total bs + instr_count bs + 2 * count_by (from_here k) arrs
operands_from t arrs k c [] = omega arith
operands_from t arrs k c (b ∷ bs) =
    omega (arith, operand_total-cons (lowered_block t arrs k c b) (lowered_blocks t arrs (k + 1) (c + phi_count t b.instrs) bs), operand_total-cons b bs, instr_count-cons b bs, lowered_block_small t arrs k c b, from_here_split k arrs, operands_from t arrs (k + 1) (c + phi_count t b.instrs) bs)

-- ids given anew change no operands

operands-numbered : (n : ℕ) (is : List Instr) → operand_count (numbered n is) ≡ operand_count is
operands-numbered n [] = refl
operands-numbered n (i ∷ is) =
    let first : Instr = record i { id = n } in
    omega (arith, operand_count-cons first (numbered (n + 1) is), operand_count-cons i is, operands-numbered (n + 1) is)

pub operand_total-numbered : (n : ℕ) (bs : List Block) → operand_total (blocks_numbered n bs) ≡ operand_total bs
operand_total-numbered n [] = refl
operand_total-numbered n (b ∷ bs) =
    let first : Block = record b { instrs = numbered n b.instrs } in
    omega (arith, operand_total-cons first (blocks_numbered (n + length b.instrs) bs), operand_total-cons b bs, operands-numbered n b.instrs, operand_total-numbered (n + length b.instrs) bs)

-- one range more for a phi

class_small : (p : Bool) (c : Option ClassId) → length (cond p (c ∷ []) []) ≤ 1
class_small true c = omega arith
class_small false c = omega arith

classes_small : (t : Target) (cs : List (Option ClassId)) (is : List Instr) → length (flat_map (incoming_class t cs) is) ≤ length is
classes_small t cs [] = omega arith
classes_small t cs (i ∷ is) = omega (arith, length-append (incoming_class t cs i) (flat_map (incoming_class t cs) is), class_small (does is_phi t i) (result_class cs i.operands), classes_small t cs is)

-- the whole

pub lowered_bulk : (t : Target) (f : Function) → IsFunction f.blocks f.next_id → bulk (phis_lowered t f) ≤ 8 * bulk f
unfolding phis_lowered
lowered_bulk t f sound =
    let c = length f.classes in
    let is = all_instrs f.blocks in
    let arrs = arrivals_in t f.blocks c is in
    let bs = lowered_blocks t arrs 0 c f.blocks in
    omega (arith, instrs_below f.next_id f.blocks sound.once, length-append f.classes (flat_map (incoming_class t f.classes) is), classes_small t f.classes is, length-all_instrs f.blocks, lowered_count t arrs c f.blocks, operand_total-numbered 0 bs, operands_from t arrs 0 c f.blocks, count_by-le-length (from_here 0) arrs, arrivals_in_small t f.blocks c is, operand_count-all f.blocks)

-- there is room for the ids
pub lowered_room : (t : Target) (f : Function) → IsFunction f.blocks f.next_id → bulk f ≤ 2 ^ 24 → instr_count (lowered_blocks t (arrivals_in t f.blocks (length f.classes) (all_instrs f.blocks)) 0 (length f.classes) f.blocks) < 2 ^ 32
lowered_room t f sound h =
    let c = length f.classes in
    let is = all_instrs f.blocks in
    omega (arith, instrs_below f.next_id f.blocks sound.once, lowered_count t (arrivals_in t f.blocks c is) c f.blocks, arrivals_in_small t f.blocks c is, operand_count-all f.blocks)

pub ruleset sizes = (lowered_bulk, lowered_room)
