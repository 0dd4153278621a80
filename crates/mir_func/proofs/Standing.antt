-- What stands at a place, and edits there.
use Rattle.std.proofs.Common.{◌≡◌, ℕ, ◌<◌, ◌≤◌, ◌+◌, ◌^◌, true, false, List, [], ◌∷◌, ◌++◌, length, get_or, drop, min, suc, Some, None, refl, ap, sym, ◌∙◌, inl, inr, arith, leb}
use Rattle.std.specs.Prelude.{◌⊎◌, ◌&&◌, nat_lt, slice_get}
use Rattle.std.specs.Option.{option_map_or}
use Rattle.std.specs.List.{insert, remove}
use Rattle.std.proofs.lemmas.Bool.Decides.{leb_tells, nat_tests}
use Rattle.std.proofs.lemmas.List.{take_all, drop_all, append-nil}
use Rattle.std.proofs.lemmas.List.Edits.{insert_end}
use Rattle.std.proofs.lemmas.Option.{slice_get_read, slice_get_past}
use Rattle.mir_func.specs.declared.func.Block.{Block}
use Rattle.mir_func.specs.declared.func.Instr.{Instr}
use Rattle.mir_func.specs.declared.func.Op.{Op}
use Rattle.mir_func.specs.declared.func.Operand.{Operand}
use Rattle.mir_func.specs.Value.{Function}
use Rattle.mir_func.specs.At.{instrs_at, instr_at, has_room_at, operation}

-- the instructions of a block that was read
pub instrs_read : (bs : List Block) (p : ℕ) (b : Block) → p < length bs → b ≡ get_or bs p b → instrs_at bs p ≡ b.instrs
instrs_read bs p b h at = ap (λ o. option_map_or (λ (x : Block). x.instrs) o []) (slice_get_read bs (length bs) p b refl h at)

-- past the last block there are none
pub instrs_past : (bs : List Block) (p : ℕ) → length bs ≤ p → instrs_at bs p ≡ []
instrs_past bs p h = ap (λ o. option_map_or (λ (x : Block). x.instrs) o []) (slice_get_past bs p h)

-- an instruction that was read in a block that was read
pub instr_read : (bs : List Block) (p k : ℕ) (b : Block) (i : Instr) → p < length bs → b ≡ get_or bs p b → k < length b.instrs → i ≡ get_or b.instrs k i → instr_at bs p k ≡ Some i
instr_read bs p k b i h at g here = ap (λ (is : List Instr). slice_get is k) (instrs_read bs p b h at) ∙ slice_get_read b.instrs (length b.instrs) k i refl g here

-- past the last instruction of a block there is none
pub instr_past : (bs : List Block) (p k : ℕ) (b : Block) → p < length bs → b ≡ get_or bs p b → length b.instrs ≤ k → instr_at bs p k ≡ None
instr_past bs p k b h at g = ap (λ (is : List Instr). slice_get is k) (instrs_read bs p b h at) ∙ slice_get_past b.instrs k g

-- past the last block there is none
pub instr_nowhere : (bs : List Block) (p k : ℕ) → length bs ≤ p → instr_at bs p k ≡ None
instr_nowhere bs p k h = ap (λ (is : List Instr). slice_get is k) (instrs_past bs p h)

-- past the end is at the end
insert_past : {X : Type 0} (xs : List X) (i : ℕ) (y : X) → length xs ≤ i → insert xs i y ≡ xs ++ y ∷ []
insert_past xs i y h = ap (λ front. front ++ y ∷ drop i xs) (take_all i xs h) ∙ ap (λ back. xs ++ y ∷ back) (drop_all i xs h)

pub insert_min : {X : Type 0} (xs : List X) (i j : ℕ) (y : X) → j ≡ min i (length xs) → insert xs j y ≡ insert xs i y
insert_min xs i j y e = by (leb_tells i (length xs))
  where
    by : ((leb i (length xs) ≡ true) × (i ≤ length xs)) ⊎ ((leb i (length xs) ≡ false) × (length xs < i)) → insert xs j y ≡ insert xs i y
    by (inl h) = let at : j ≡ i = omega (arith, h.1) in ap (λ k. insert xs k y) at
    by (inr h) =
        let at : j ≡ length xs = omega (arith, h.1) in
        let past : length xs ≤ i = omega (arith, h.1) in
        ap (λ k. insert xs k y) at ∙ (insert_end xs y ∙ sym (insert_past xs i y past))

-- past the end nothing is taken out
pub remove_past : {X : Type 0} (xs : List X) (i : ℕ) → length xs ≤ i → remove xs i ≡ xs
remove_past xs i h =
    let behind : length xs ≤ suc i = omega arith in
    ap (λ front. front ++ drop (suc i) xs) (take_all i xs h) ∙ (ap (λ back. xs ++ back) (drop_all (suc i) xs behind) ∙ append-nil xs)

-- whether there is room
pub room_at : (p count next : ℕ) → p < count → next + 1 < 2 ^ 32 → (nat_lt p count && nat_lt (next + 1) (2 ^ 32)) ≡ true
room_at p count next h room = grind (arith, nat_tests)

pub room_within : (f : Function) (p : ℕ) → has_room_at f p ≡ true → p < length f.blocks
room_within f p room = grind (arith, nat_tests)

-- what an instruction that was read does
pub operation_read : (xs : List Instr) (k : ℕ) (i : Instr) (other : Op × List Operand) → k < length xs → i ≡ get_or xs k i → option_map_or operation (slice_get xs k) other ≡ operation i
operation_read xs k i other h found = ap (λ o. option_map_or operation o other) (slice_get_read xs (length xs) k i refl h found)

pub operation_past : (xs : List Instr) (k : ℕ) (other : Op × List Operand) → length xs ≤ k → option_map_or operation (slice_get xs k) other ≡ other
operation_past xs k other h = ap (λ o. option_map_or operation o other) (slice_get_past xs k h)
