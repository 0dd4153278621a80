-- An edit by id or by gap is the edit at the place where they stand, since ids are distinct.
use Rattle.std.proofs.Common.{◌≡◌, ℕ, ◌≤◌, ◌+◌, Bool, true, false, cond, not, zero, suc, List, [], ◌∷◌, length, map, Some, refl, ap, sym, ◌∙◌, arith, eq-eqb}
use Rattle.std.specs.Prelude.{◌==◌, nat_lt, slice_get}
use Rattle.std.specs.Option.{option_map_or}
use Rattle.std.specs.List.{insert, remove}
use Rattle.std.proofs.lemmas.List.Sums.{sum_by-cons}
use Rattle.std.proofs.lemmas.Option.{none-some, same_Some}
use Rattle.target_base.specs.declared.types.OpId.{OpId}
use Rattle.mir_func.specs.declared.func.Block.{Block}
use Rattle.mir_func.specs.declared.func.Gap.{Gap}
use Rattle.mir_func.specs.declared.func.Instr.{Instr}
use Rattle.mir_func.specs.declared.func.Op.{Op}
use Rattle.mir_func.specs.declared.func.Operand.{Operand}
use Rattle.mir_func.specs.Value.{Function, IsFunction, id_count, id_total}
use Rattle.mir_func.specs.Edits.{made, block_place, instr_place, gap_place, update, put, inserted, deleted, changed_in}
use Rattle.mir_func.specs.At.{instrs_at, instr_at, put_at, has_room_at, inserted_at, removed_at, with_operation, replaced_at}
use Rattle.mir_func.proofs.Places.{update_past}
use Rattle.mir_func.proofs.Standing.{remove_past}

abbrev one_if : Bool → ℕ
one_if t = cond t 1 0

-- the place of an id, where n is that in the list behind an instruction, and t says whether this has it
abbrev pub place_behind : ℕ → Bool → ℕ
place_behind n t = cond (not t) (1 + n) 0

count_step : (id : ℕ) (i : Instr) (is : List Instr) → id_count id (i ∷ is) ≡ one_if (i.id == id) + id_count id is
count_step id i is = sum_by-cons (λ (x : Instr). one_if (x.id == id)) i is

total_step : (id : ℕ) (b : Block) (bs : List Block) → id_total id (b ∷ bs) ≡ id_count id b.instrs + id_total id bs
total_step id b bs = sum_by-cons (λ (x : Block). id_count id x.instrs) b bs

-- an id that doesn't stand in a list has no place there
no_place : (id : ℕ) (is : List Instr) → id_count id is ≡ 0 → length is ≤ instr_place id is
no_place id [] none = omega arith
no_place id (i ∷ is) none = by (i.id == id) (count_step id i is) (no_place id is)
  where
    by : (t : Bool) → id_count id (i ∷ is) ≡ one_if t + id_count id is → (id_count id is ≡ 0 → length is ≤ instr_place id is) → length (i ∷ is) ≤ place_behind (instr_place id is) t
    by true step rest = absurd (omega arith)
    by false step rest = let behind : length is ≤ instr_place id is = rest (omega arith) in omega arith

-- an instruction that stands at a place is counted
counted : (id k : ℕ) (i : Instr) (is : List Instr) → slice_get is k ≡ Some i → i.id ≡ id → 1 ≤ id_count id is
counted id k i [] at is_id = absurd (none-some i at)
counted id zero i (j ∷ js) at is_id =
    let own = ap one_if (eq-eqb j.id id (ap (λ (x : Instr). x.id) (same_Some j i at) ∙ is_id)) in
    omega (arith, count_step id j js, own)
counted id (suc k) i (j ∷ js) at is_id = omega (arith, count_step id j js, counted id k i js at is_id)

-- an instruction whose id stands once stands at the place of its id
pub place_is : (id k : ℕ) (i : Instr) (is : List Instr) → slice_get is k ≡ Some i → i.id ≡ id → id_count id is ≤ 1 → instr_place id is ≡ k
place_is id k i [] at is_id once = absurd (none-some i at)
place_is id zero i (j ∷ js) at is_id once =
    ap (place_behind (instr_place id js)) (eq-eqb j.id id (ap (λ (x : Instr). x.id) (same_Some j i at) ∙ is_id))
place_is id (suc k) i (j ∷ js) at is_id once = by (j.id == id) (count_step id j js) (counted id k i js at is_id) (place_is id k i js at is_id)
  where
    by : (t : Bool) → id_count id (j ∷ js) ≡ one_if t + id_count id js → 1 ≤ id_count id js → (id_count id js ≤ 1 → instr_place id js ≡ k) → place_behind (instr_place id js) t ≡ suc k
    by true step some rest = absurd (omega arith)
    by false step some rest = let behind : instr_place id js ≡ k = rest (omega arith) in omega arith

-- the same in a function's blocks
total_counted : (id p k : ℕ) (i : Instr) (bs : List Block) → instr_at bs p k ≡ Some i → i.id ≡ id → 1 ≤ id_total id bs
total_counted id p k i [] at is_id = absurd (none-some i at)
total_counted id zero k i (b ∷ bs) at is_id = omega (arith, total_step id b bs, counted id k i b.instrs at is_id)
total_counted id (suc p) k i (b ∷ bs) at is_id = omega (arith, total_step id b bs, total_counted id p k i bs at is_id)

count_within : (id p : ℕ) (bs : List Block) → id_count id (instrs_at bs p) ≤ id_total id bs
count_within id p [] = omega arith
count_within id zero (b ∷ bs) = omega (arith, total_step id b bs)
count_within id (suc p) (b ∷ bs) = omega (arith, total_step id b bs, count_within id p bs)

at_most_one : (t : Bool) (n : ℕ) → n ≤ one_if t → n ≤ 1
at_most_one true n h = h
at_most_one false n h = omega arith

-- in a function an id stands once at most
stands_once : (f : Function) (id : ℕ) → IsFunction f.blocks f.next_id → id_total id f.blocks ≤ 1
stands_once f id is = at_most_one (nat_lt id f.next_id) (id_total id f.blocks) (is.once id)

-- a change of the instructions at a place, of each block at the place of an id there
abbrev by_id : (ℕ → List Instr → List Instr) → ℕ → Block → Block
by_id change id b = record b { instrs = change (instr_place id b.instrs) b.instrs }

abbrev by_place : (ℕ → List Instr → List Instr) → ℕ → Block → Block
by_place change k b = record b { instrs = change k b.instrs }

-- past the end it changes nothing
abbrev StaysPast : (ℕ → List Instr → List Instr) → Type 0
StaysPast change = (k : ℕ) (is : List Instr) → length is ≤ k → change k is ≡ is

unnamed_block : (change : ℕ → List Instr → List Instr) → StaysPast change → (id : ℕ) (b : Block) → id_count id b.instrs ≡ 0 → by_id change id b ≡ b
unnamed_block change stays id b none = ap (λ is. record b { instrs = is }) (stays (instr_place id b.instrs) b.instrs (no_place id b.instrs none))

unnamed : (change : ℕ → List Instr → List Instr) → StaysPast change → (id : ℕ) (bs : List Block) → id_total id bs ≡ 0 → map (by_id change id) bs ≡ bs
unnamed change stays id [] none = refl
unnamed change stays id (b ∷ bs) none =
    let step = total_step id b bs in
    ap (λ x. x ∷ map (by_id change id) bs) (unnamed_block change stays id b (omega arith)) ∙ ap (λ xs. b ∷ xs) (unnamed change stays id bs (omega arith))

-- a change of each block at an id that stands once is one at its place
at_once : (change : ℕ → List Instr → List Instr) → StaysPast change → (id p k : ℕ) (i : Instr) (bs : List Block) → instr_at bs p k ≡ Some i → i.id ≡ id → id_total id bs ≤ 1 → map (by_id change id) bs ≡ update p (by_place change k) bs
at_once change stays id p k i [] at is_id once = absurd (none-some i at)
at_once change stays id zero k i (b ∷ bs) at is_id once =
    let step = total_step id b bs in
    let here = counted id k i b.instrs at is_id in
    let place = place_is id k i b.instrs at is_id (omega arith) in
    ap (λ x. x ∷ map (by_id change id) bs) (ap (λ n. record b { instrs = change n b.instrs }) place) ∙ ap (λ xs. by_place change k b ∷ xs) (unnamed change stays id bs (omega arith))
at_once change stays id (suc p) k i (b ∷ bs) at is_id once =
    let step = total_step id b bs in
    let behind = total_counted id p k i bs at is_id in
    ap (λ x. x ∷ map (by_id change id) bs) (unnamed_block change stays id b (omega arith)) ∙ ap (λ xs. b ∷ xs) (at_once change stays id p k i bs at is_id (omega arith))

-- to take out the instruction at a place is to delete that of its id
pub removed_is_deleted : (f : Function) (p k : ℕ) (i : Instr) → IsFunction f.blocks f.next_id → instr_at f.blocks p k ≡ Some i → removed_at f p k ≡ deleted f i.id
removed_is_deleted f p k i is at =
    ap (λ bs. record f { blocks = bs }) (sym (at_once (λ n xs. remove xs n) (λ n xs h. remove_past xs n h) i.id p k i f.blocks at refl (stands_once f i.id is)))

-- to replace the instruction at a place is to change that of its id
pub replaced_is_changed : (f : Function) (p k : ℕ) (i : Instr) (op : Op) (operands : List Operand) → IsFunction f.blocks f.next_id → instr_at f.blocks p k ≡ Some i → replaced_at f p k op operands ≡ record f { blocks = map (changed_in i.id (with_operation op operands)) f.blocks }
replaced_is_changed f p k i op operands is at =
    let change = with_operation op operands in
    ap (λ bs. record f { blocks = bs }) (sym (at_once (λ n xs. update n change xs) (λ n xs h. update_past change xs n h) i.id p k i f.blocks at refl (stands_once f i.id is)))

-- the gap before an instruction is at its place
pub gap_before_is : (f : Function) (p k : ℕ) (i : Instr) → IsFunction f.blocks f.next_id → instr_at f.blocks p k ≡ Some i → gap_place (Some i.id) (instrs_at f.blocks p) ≡ k
gap_before_is f p k i is at =
    place_is i.id k i (instrs_at f.blocks p) at refl (omega (arith, count_within i.id p f.blocks, stands_once f i.id is))

-- two changes that make the same of the element at a place
update_alike : {X : Type 0} (f g : X → X) (xs : List X) (i : ℕ) → ((x : X) → slice_get xs i ≡ Some x → f x ≡ g x) → update i f xs ≡ update i g xs
update_alike f g [] i alike = refl
update_alike f g (x ∷ xs) zero alike = ap (λ y. y ∷ xs) (alike x refl)
update_alike f g (x ∷ xs) (suc i) alike = ap (λ ys. x ∷ ys) (update_alike f g xs i alike)

-- to put an instruction at the place of a gap is to put it into the gap
pub inserted_is_put : (f : Function) (gap : Gap) (p k : ℕ) (op : OpId) (operands : List Operand) → p ≡ block_place gap.block f.blocks → k ≡ gap_place gap.before (instrs_at f.blocks p) → has_room_at f p ≡ true → inserted_at f p k op operands ≡ inserted f gap op operands
inserted_is_put f gap p k op operands at_block at_gap room =
    let x = made f.next_id op operands in
    let change = put gap.before x in
    let alike = λ (b : Block) (read : slice_get f.blocks p ≡ Some b). ap (λ n. record b { instrs = insert b.instrs n x }) (at_gap ∙ ap (λ o. gap_place gap.before (option_map_or (λ (c : Block). c.instrs) o [])) read) in
    ap (λ t. cond t (record f { blocks = update p (put_at k x) f.blocks; next_id = f.next_id + 1 }) f) room
    ∙ (ap (λ bs. record f { blocks = bs; next_id = f.next_id + 1 })
    (update_alike (put_at k x) change f.blocks p alike ∙ ap (λ n. update n change f.blocks) at_block))
