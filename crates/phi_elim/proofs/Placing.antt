-- Instructions put in their places.
use Rattle.std.proofs.Common.{◌≡◌, ℕ, zero, suc, ◌+◌, ◌<◌, ◌≤◌, Bool, true, false, cond, eqb, List, [], ◌∷◌, ◌++◌, length, get_or, set, take, drop, map, filter, refl, ap, sym, ◌∙◌, arith, append_assoc, length-append, ◌-◌, take-append-drop, append-nil, length-drop}
use Rattle.std.specs.List.{sum_by, insert}
use Rattle.std.proofs.lemmas.List.{map-append, get_or_default, drop_more, drop-set-lt, length-take-le, take_at, drop_at}
use Rattle.std.proofs.lemmas.List.Sums.{sum_by-cons}
use Rattle.std.proofs.lemmas.List.Elements.{filter_more}
use Rattle.std.proofs.lemmas.List.Edits.{insert-append_right, insert-append_left, insert_end}
use Rattle.target_base.specs.declared.types.Target.{Target}
use Rattle.mir_func.specs.declared.func.Instr.{Instr}
use Rattle.mir_func.specs.declared.func.Block.{Block}
use Rattle.phi_elim.specs.declared.arrivals.Arrival.{Arrival}
use Rattle.phi_elim.specs.Phis.{in_place, all_in_place, phi_number, phi_count, arriving, arriving_at, lowered_block, lowered_blocks}
use Rattle.phi_elim.specs.Numbered.{instr_count}
use Rattle.phi_elim.proofs.Walks.{walk_more}
use Rattle.phi_elim.proofs.Arriving.{instr_count_more}

-- one instruction more
pub place_more : (t : Target) (c k : ℕ) (is total : List Instr) (x y : Instr) → k < length is → x ≡ get_or is k x → y ≡ in_place t c x → take k is ++ all_in_place t c (drop k is) ≡ total → take (k + 1) (set is k y) ++ all_in_place t (c + phi_number t x) (drop (k + 1) (set is k y)) ≡ total
place_more t c k is total x y h at made was =
    let rest : all_in_place t c (drop k is) ≡ y ∷ all_in_place t (c + phi_number t x) (drop (k + 1) is) = rw (drop_more is k x h, ← at, made) refl in
    rw (drop-set-lt (k + 1) is k y (omega arith)) (walk_more is k y _ _ total h was rest)

pub count_more : (t : Target) (k : ℕ) (is : List Instr) (x y : Instr) → k < length is → x ≡ get_or is k x → phi_count t (drop k is) ≡ phi_number t x + phi_count t (drop (k + 1) (set is k y))
count_more t k is x y h at = rw (drop-set-lt (k + 1) is k y (omega arith), drop_more is k x h, ← at) (sum_by-cons (phi_number t) x (drop (k + 1) is))

-- one block more
pub block_more : (t : Target) (arrs : List Arrival) (c k : ℕ) (bs total : List Block) (x y : Block) → k < length bs → x ≡ get_or bs k x → y ≡ lowered_block t arrs k c x → take k bs ++ lowered_blocks t arrs k c (drop k bs) ≡ total → take (k + 1) (set bs k y) ++ lowered_blocks t arrs (k + 1) (c + phi_count t x.instrs) (drop (k + 1) (set bs k y)) ≡ total
block_more t arrs c k bs total x y h at made was =
    let rest : lowered_blocks t arrs k c (drop k bs) ≡ y ∷ lowered_blocks t arrs (k + 1) (c + phi_count t x.instrs) (drop (k + 1) bs) = rw (drop_more bs k x h, ← at, made) refl in
    rw (drop-set-lt (k + 1) bs k y (omega arith)) (walk_more bs k y _ _ total h was rest)

pub instr_count_left : (k : ℕ) (bs : List Block) (x y : Block) → k < length bs → x ≡ get_or bs k x → instr_count (drop k bs) ≡ length x.instrs + instr_count (drop (k + 1) (set bs k y))
instr_count_left k bs x y h at = rw (drop-set-lt (k + 1) bs k y (omega arith)) (instr_count_more k bs x h at)

-- an instruction behind those that were put in
inserted_behind : {X : Type 0} (p q r : List X) (n : ℕ) (y : X) → n ≡ length p + length q → insert (p ++ (q ++ r)) n y ≡ p ++ ((q ++ y ∷ []) ++ r)
inserted_behind p q r n y e =
    let m : n - length p ≡ length q = omega arith in
    let inner : insert (q ++ r) (length q) y ≡ (q ++ y ∷ []) ++ r = insert-append_left q r (length q) y (omega arith) ∙ ap (λ s. s ++ r) (insert_end q y) in
    insert-append_right p (q ++ r) (length p) n y refl (omega arith) ∙ rw (m, inner) refl

pub arriving_none : (is : List Instr) (at : ℕ) → is ≡ take at is ++ drop at is
arriving_none is at = sym (take-append-drop at is)

step_of : (t : Bool) (p q r is next : List Instr) (n : ℕ) (y : Instr) (more : List Instr) → n ≡ length p + length q → is ≡ p ++ (q ++ r) → next ≡ cond t (insert is n y) is → more ≡ q ++ cond t (y ∷ []) [] → next ≡ p ++ (more ++ r)
step_of true p q r is next n y more e was made m = made ∙ rw (was, m) (inserted_behind p q r n y e)
step_of false p q r is next n y more e was made m = made ∙ rw (was, m, append-nil q) refl

map_if : (t : Bool) (a : Arrival) → map arriving (cond t (a ∷ []) []) ≡ cond t (arriving a ∷ []) []
map_if true a = refl
map_if false a = refl

pub arriving_at_more : (arrs : List Arrival) (i k : ℕ) (a : Arrival) → i < length arrs → a ≡ get_or arrs i a → arriving_at (take (i + 1) arrs) k ≡ arriving_at (take i arrs) k ++ cond (eqb a.block k) (arriving a ∷ []) []
arriving_at_more arrs i k a h at =
    let f = filter_more (λ (x : Arrival). eqb x.block k) arrs i a h in
    let g = rw (← at) at f in
    ap (map arriving) g ∙ (map-append arriving (filter (λ (x : Arrival). eqb x.block k) (take i arrs)) (cond (eqb a.block k) (a ∷ []) []) ∙ ap (λ s. arriving_at (take i arrs) k ++ s) (map_if (eqb a.block k) a))

before_last : (old q p r is : List Instr) (at behind : ℕ) → p ≡ take at old → r ≡ drop at old → at ≤ length old → behind ≡ length old - at → is ≡ p ++ (q ++ r) → length is - behind ≡ length p + length q
before_last old q p r is at behind hp hr within e was =
    let lp : length p ≡ at = rw hp (length-take-le at old within) in
    let lr : length r ≡ length old - at = rw hr (length-drop at old) in
    omega (arith, ap length was, length-append p (q ++ r), length-append q r)

pub arrival_more : (arrs : List Arrival) (i k behind at : ℕ) (a : Arrival) (old is next : List Instr) → i < length arrs → a ≡ get_or arrs i a → at ≤ length old → behind ≡ length old - at → is ≡ take at old ++ (arriving_at (take i arrs) k ++ drop at old) → next ≡ cond (eqb a.block k) (insert is (length is - behind) (arriving a)) is → next ≡ take at old ++ (arriving_at (take (i + 1) arrs) k ++ drop at old)
arrival_more arrs i k behind at a old is next h is_at within e was made =
    step_of (eqb a.block k) (take at old) (arriving_at (take i arrs) k) (drop at old) is next (length is - behind) (arriving a) (arriving_at (take (i + 1) arrs) k) (before_last old (arriving_at (take i arrs) k) (take at old) (drop at old) is at behind refl refl within e was) was made (arriving_at_more arrs i k a h is_at)

pub arrival_read_more : (arrs : List Arrival) (i k behind at : ℕ) (d : Arrival) (old is next : List Instr) → i < length arrs → at ≤ length old → behind ≡ length old - at → is ≡ take at old ++ (arriving_at (take i arrs) k ++ drop at old) → next ≡ cond (eqb (get_or arrs i d).block k) (insert is (length is - behind) (arriving (get_or arrs i d))) is → next ≡ take at old ++ (arriving_at (take (i + 1) arrs) k ++ drop at old)
arrival_read_more arrs i k behind at d old is next h within e was made =
    arrival_more arrs i k behind at (get_or arrs i d) old is next h (get_or_default arrs i d (get_or arrs i d) h) within e was made

length_put : (old q : List Instr) (at : ℕ) → at ≤ length old → length (take at old ++ (q ++ drop at old)) ≡ length old + length q
length_put old q at h = omega (arith, length-append (take at old) (q ++ drop at old), length-append q (drop at old), length-take-le at old h, length-drop at old)

-- what stands behind is still there
pub still_behind : (old q is : List Instr) (at behind : ℕ) → at ≤ length old → behind ≡ length old - at → is ≡ take at old ++ (q ++ drop at old) → behind ≤ length is
still_behind old q is at behind h e was = omega (arith, ap length was, length_put old q at h)

pub length-lowered_blocks : (t : Target) (arrs : List Arrival) (k c : ℕ) (bs : List Block) → length (lowered_blocks t arrs k c bs) ≡ length bs
length-lowered_blocks t arrs k c [] = refl
length-lowered_blocks t arrs k c (b ∷ bs) = ap suc (length-lowered_blocks t arrs (k + 1) (c + phi_count t b.instrs) bs)

pub ruleset placing = (place_more, count_more, block_more, instr_count_left, arriving_none, arrival_more, still_behind)
