-- Elements behind as many others of a list, and blocks and instructions by their numbers there.
use Rattle.std.proofs.Common.{◌≡◌, ◌∷◌, ◌++◌, ◌∙◌, ◌+◌, ◌≤◌, not, ℕ, Bool, true, false, cond, List, [], Some, refl, ap, length, arith, eq-eqb}
use Rattle.std.specs.Prelude.{nat_eq, nat_lt, slice_get, ◌||◌}
use Rattle.std.specs.List.{insert, remove}
use Rattle.std.proofs.Math.Seq.{take-append_seam, drop-append_seam}
use Rattle.std.proofs.lemmas.List.Sums.{sum_by-append, sum_by-cons}
use Rattle.mir_func.specs.declared.func.Block.{Block}
use Rattle.mir_func.specs.declared.func.Instr.{Instr}
use Rattle.mir_func.specs.Value.{IsFunction, id_count, id_total}
use Rattle.mir_func.specs.Edits.{block_place, instr_place, update}
use Rattle.mir_func.proofs.ByPlace.{place_is}
use Rattle.mir_meaning.specs.Paths.{has}
use Rattle.mir_meaning.specs.Registers.{has_number}
use Rattle.mir_meaning.specs.Rules.{block_numbers}
use Rattle.meaning.specs.Live.{Among, here, there}
use Rattle.live_lanes.specs.Ordered.{ids_of}
use Rattle.live_edits.proofs.JoiningLaw.{same-other}

pub get-seat : {X : Type 0} (xs : List X) (y : X) (ys : List X) → slice_get (xs ++ y ∷ ys) (length xs) ≡ Some y
get-seat [] y ys = refl
get-seat (x ∷ xs) y ys = get-seat xs y ys

pub update-seat : {X : Type 0} (f : X → X) (xs : List X) (y : X) (ys : List X) → update (length xs) f (xs ++ y ∷ ys) ≡ xs ++ f y ∷ ys
update-seat f [] y ys = refl
update-seat f (x ∷ xs) y ys = ap (λ zs. x ∷ zs) (update-seat f xs y ys)

pub insert-seat : {X : Type 0} (xs ys : List X) (z : X) → insert (xs ++ ys) (length xs) z ≡ xs ++ z ∷ ys
insert-seat xs ys z = λ k. take-append_seam xs ys k ++ z ∷ drop-append_seam xs ys k

pub remove-seat : {X : Type 0} (xs : List X) (y : X) (ys : List X) → remove (xs ++ y ∷ ys) (length xs) ≡ xs ++ ys
remove-seat [] y ys = refl
remove-seat (x ∷ xs) y ys = ap (λ zs. x ∷ zs) (remove-seat xs y ys)

pub among-seat : {X : Type 0} (xs : List X) (y : X) (ys : List X) → Among y (xs ++ y ∷ ys)
among-seat [] y ys = here
among-seat (x ∷ xs) y ys = there (among-seat xs y ys)

pub has-seat : (done : List Instr) (i : Instr) (is : List Instr) → has i.id (ids_of (done ++ i ∷ is)) ≡ true
has-seat [] i is = ap (λ u. cond u true (has i.id (ids_of is))) (eq-eqb i.id i.id refl)
has-seat (j ∷ done) i is = go (nat_eq j.id i.id) (has-seat done i is)
  where
    go : (u : Bool) → has i.id (ids_of (done ++ i ∷ is)) ≡ true → cond u true (has i.id (ids_of (done ++ i ∷ is))) ≡ true
    go true h = refl
    go false h = h

neither : (u v : Bool) → u || v ≡ false → (u ≡ false) × (v ≡ false)
neither true v h = absurd (let z : true ≡ false = h in cc)
neither false v h = (refl, h)

-- a block stands where the first of its number does, if none before has it
pub block-seat : (pre : List Block) (b : Block) (post : List Block) → has_number (block_numbers pre) b.number ≡ false → block_place b.number (pre ++ b ∷ post) ≡ length pre
block-seat [] b post e = ap (λ u. cond (not u) (1 + block_place b.number post) 0) (eq-eqb b.number b.number refl)
block-seat (c ∷ pre) b post e =
    let both = neither (nat_eq b.number c.number) (has_number (block_numbers pre) b.number) e in
    ap (λ u. cond (not u) (1 + block_place b.number (pre ++ b ∷ post)) 0) (same-other b.number c.number both.0)
    ∙ (ap (λ k. 1 + k) (block-seat pre b post both.1) ∙ omega arith)

-- no id stands twice in a block of a function
pub once-in : (pre : List Block) (b : Block) (post : List Block) (n x : ℕ) → IsFunction (pre ++ b ∷ post) n → id_count x b.instrs ≤ 1
once-in pre b post n x is = go (nat_lt x n) (is.once x)
  where
    go : (u : Bool) → id_total x (pre ++ b ∷ post) ≤ cond u 1 0 → id_count x b.instrs ≤ 1
    go true h = omega (arith, h, sum_by-append (λ (c : Block). id_count x c.instrs) pre (b ∷ post), sum_by-cons (λ (c : Block). id_count x c.instrs) b post)
    go false h = omega (arith, h, sum_by-append (λ (c : Block). id_count x c.instrs) pre (b ∷ post), sum_by-cons (λ (c : Block). id_count x c.instrs) b post)

-- an instruction stands where the first of its id does
pub instr-seat : (pre : List Block) (b : Block) (post : List Block) (n : ℕ) (done : List Instr) (i : Instr) (is : List Instr) → b.instrs ≡ done ++ i ∷ is → IsFunction (pre ++ b ∷ post) n → instr_place i.id (done ++ i ∷ is) ≡ length done
instr-seat pre b post n done i is e h =
    place_is i.id (length done) i (done ++ i ∷ is) (get-seat done i is) refl (let c : id_count i.id b.instrs ≤ 1 = once-in pre b post n i.id h in let d : id_count i.id b.instrs ≡ id_count i.id (done ++ i ∷ is) = ap (id_count i.id) e in omega (arith, c, d))
