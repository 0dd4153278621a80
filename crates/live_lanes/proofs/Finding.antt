-- Instructions are found by their numbers, which rise along each block.
use Rattle.std.proofs.Common.{◌≡◌, ◌<◌, ◌≤◌, ℕ, zero, suc, Bool, true, false, cond, eqb, eq-eqb, ltb, length, List, [], ◌∷◌, Option, None, Some, refl, sym, ap, ◌∙◌, subst, arith, get_or}
use Rattle.std.specs.Prelude.{slice_get, slice_index, slice_index_or, nat_lt}
use Rattle.std.specs.List.Sorted.{IsPartitionedBy}
use Rattle.std.proofs.lemmas.Bool.{ltb-true, lt-ltb, le-ltb}
use Rattle.std.proofs.lemmas.Option.{slice_get-get_or}
use Rattle.slot_index.specs.Order.{number_of}
use Rattle.mir_func.specs.declared.func.Instr.{Instr}
use Rattle.mir_func.specs.declared.func.Block.{Block}
use Rattle.mir_meaning.specs.Paths.{has}
use Rattle.live_lanes.specs.Table.{Numbers, leading}
use Rattle.live_lanes.specs.Ordered.{ids_of, AreRising, AreHomes}

-- the instruction stands before the one of that number
abbrev pub stands_before : Numbers → ℕ → Instr → Bool
stands_before slots n i = nat_lt (number_of slots i.id) n

above : (slots : Numbers) (n m : ℕ) (is : List Instr) (j : ℕ) (d : Instr) → AreRising slots n (ids_of is) → m ≤ n → j < length is → m < number_of slots (get_or is j d).id
above slots n m [] j d r w h = absurd (omega arith)
above slots n m (i ∷ is) zero d r w h = let x = r.0 in omega arith
above slots n m (i ∷ is) (suc j) d r w h = let x = r.0 in above slots (number_of slots i.id) m is j d r.2 (omega arith) (omega arith)

rising-le : (slots : Numbers) (n : ℕ) (is : List Instr) (i j : ℕ) (d : Instr) → AreRising slots n (ids_of is) → i ≤ j → j < length is → number_of slots (get_or is i d).id ≤ number_of slots (get_or is j d).id
rising-le slots n [] i j d r w h = absurd (omega arith)
rising-le slots n (x ∷ is) zero zero d r w h = omega arith
rising-le slots n (x ∷ is) zero (suc j) d r w h = let y = above slots (number_of slots x.id) (number_of slots x.id) is j d r.2 (omega arith) (omega arith) in omega arith
rising-le slots n (x ∷ is) (suc i) zero d r w h = absurd (omega arith)
rising-le slots n (x ∷ is) (suc i) (suc j) d r w h = rising-le slots (number_of slots x.id) is i j d r.2 (omega arith) (omega arith)

pub before-parted : (slots : Numbers) (n : ℕ) (is : List Instr) → AreRising slots 0 (ids_of is) → IsPartitionedBy (stands_before slots n) is
before-parted slots n is r i j d w h e =
    let x = ltb-true (number_of slots (get_or is j d).id) n e in
    let y = rising-le slots 0 is i j d r w h in
    lt-ltb (number_of slots (get_or is i d).id) n (omega arith)

some-inj : {X : Type 0} (x y : X) → Some x ≡ Some y → x ≡ y
some-inj x y e = cc

leading-there : (slots : Numbers) (n : ℕ) (is : List Instr) (j : ℕ) (i : Instr) → AreRising slots n (ids_of is) → slice_get is j ≡ Some i → (leading (stands_before slots (number_of slots i.id)) is ≡ j) × (n < number_of slots i.id)
leading-there slots n [] j i r e = absurd (cc)
leading-there slots n (x ∷ is) zero i r e =
    let same = some-inj x i e in
    let high : n < number_of slots i.id = subst (λ y. n < number_of slots y.id) same r.0 in
    let none : ltb (number_of slots x.id) (number_of slots i.id) ≡ false = subst (λ y. ltb (number_of slots x.id) (number_of slots y.id) ≡ false) same (le-ltb (number_of slots x.id) (number_of slots x.id) (omega arith)) in
    (ap (λ b. cond b (suc (leading (stands_before slots (number_of slots i.id)) is)) 0) none, high)
leading-there slots n (x ∷ is) (suc j) i r e =
    let ih = leading-there slots (number_of slots x.id) is j i r.2 e in
    let low : number_of slots x.id < number_of slots i.id = ih.1 in
    let one : ltb (number_of slots x.id) (number_of slots i.id) ≡ true = lt-ltb (number_of slots x.id) (number_of slots i.id) low in
    let first = r.0 in
    (ap (λ b. cond b (suc (leading (stands_before slots (number_of slots i.id)) is)) 0) one ∙ ap suc ih.0, omega arith)

-- so many instructions stand before one as its place says
pub stands-there : (slots : Numbers) (is : List Instr) (j : ℕ) (i : Instr) → AreRising slots 0 (ids_of is) → slice_get is j ≡ Some i → leading (stands_before slots (number_of slots i.id)) is ≡ j
stands-there slots is j i r e = (leading-there slots 0 is j i r e).0

-- an id of the instructions of a block
pub id-there : (is : List Instr) (j : ℕ) (i : Instr) (id : ℕ) → slice_get is j ≡ Some i → i.id ≡ id → has id (ids_of is) ≡ true
id-there [] j i id e f = absurd (cc)
id-there (x ∷ is) zero i id e f = ap (λ t. cond t true (has id (ids_of is))) (eq-eqb x.id id (ap (λ y. y.id) (some-inj x i e) ∙ f))
id-there (x ∷ is) (suc j) i id e f = go (eqb x.id id) (id-there is j i id e f)
  where
    go : (t : Bool) → has id (ids_of is) ≡ true → cond t true (has id (ids_of is)) ≡ true
    go true ih = refl
    go false ih = ih

-- the position of the block of an instruction that is found
pub home-of : (bs : List Block) (homes : List ℕ) (p j : ℕ) (b : Block) (i : Instr) (id : ℕ) → AreHomes bs homes → slice_get bs p ≡ Some b → slice_get b.instrs j ≡ Some i → i.id ≡ id → slice_index homes id ≡ p
home-of bs homes p j b i id h e f g = h p b id e (id-there b.instrs j i id f g)

pub found-within : {X : Type 0} (xs : List X) (p : ℕ) (x : X) → slice_get xs p ≡ Some x → p < length xs
found-within [] p x e = absurd (cc)
found-within (y ∷ xs) zero x e = omega arith
found-within (y ∷ xs) (suc p) x e = let ih = found-within xs p x e in omega arith

-- what is read at a place is what stands there
pub read-there : {X : Type 0} (xs : List X) (at p : ℕ) (x d : X) → at ≡ p → slice_get xs p ≡ Some x → slice_index_or xs at d ≡ x
read-there xs at p x d e f =
    let within = found-within xs p x f in
    some-inj (slice_index_or xs at d) x (ap (λ k. Some (slice_index_or xs k d)) e ∙ sym (slice_get-get_or xs p d within) ∙ f)
