-- What was put or replaced at a place is taken back there.
use Rattle.std.proofs.Common.{◌≡◌, ℕ, ◌<◌, ◌≤◌, ◌+◌, ◌-◌, true, cond, zero, suc, List, [], ◌∷◌, length, Some, refl, ap, sym, ◌∙◌, arith, eq-eqb}
use Rattle.std.specs.Prelude.{slice_get}
use Rattle.std.specs.List.{insert, remove}
use Rattle.std.proofs.lemmas.List.Edits.{length-insert, get_or-insert_at}
use Rattle.std.proofs.lemmas.Option.{same_Some, slice_get-get_or}
use Rattle.target_base.specs.declared.types.OpId.{OpId}
use Rattle.mir_func.specs.declared.func.Block.{Block}
use Rattle.mir_func.specs.declared.func.Instr.{Instr}
use Rattle.mir_func.specs.declared.func.Op.{Op}
use Rattle.mir_func.specs.declared.func.Operand.{Operand}
use Rattle.mir_func.specs.Value.{Function}
use Rattle.mir_func.specs.Edits.{made, update}
use Rattle.mir_func.specs.At.{instrs_at, instr_at, put_at, cut_at, changed_at, has_room_at, inserted_at, has_last_id, retracted_at, with_operation, replaced_at}
use Rattle.mir_func.proofs.Standing.{room_within}

-- a new element stands where it was put
slice_get-insert : {X : Type 0} (xs : List X) (k : ℕ) (x : X) → k ≤ length xs → slice_get (insert xs k x) k ≡ Some x
slice_get-insert xs k x h =
    let within : k < length (insert xs k x) = omega (arith, length-insert xs k x h) in
    slice_get-get_or (insert xs k x) k x within ∙ ap Some (get_or-insert_at xs k x x h)

-- and is taken out again
remove-insert : {X : Type 0} (xs : List X) (k : ℕ) (x : X) → k ≤ length xs → remove (insert xs k x) k ≡ xs
remove-insert [] zero x h = refl
remove-insert [] (suc k) x h = absurd (omega arith)
remove-insert (y ∷ ys) zero x h = refl
remove-insert (y ∷ ys) (suc k) x h = ap (λ zs. y ∷ zs) (remove-insert ys k x (omega arith))

instr_put : (bs : List Block) (p k : ℕ) (x : Instr) → p < length bs → k ≤ length (instrs_at bs p) → instr_at (update p (put_at k x) bs) p k ≡ Some x
instr_put [] p k x h g = absurd (omega arith)
instr_put (b ∷ bs) zero k x h g = slice_get-insert b.instrs k x g
instr_put (b ∷ bs) (suc p) k x h g = instr_put bs p k x (omega arith) g

blocks_back : (bs : List Block) (p k : ℕ) (x : Instr) → k ≤ length (instrs_at bs p) → update p (cut_at k) (update p (put_at k x) bs) ≡ bs
blocks_back [] p k x h = refl
blocks_back (b ∷ bs) zero k x h = ap (λ is. (record b { instrs = is }) ∷ bs) (remove-insert b.instrs k x h)
blocks_back (b ∷ bs) (suc p) k x h = ap (λ cs. b ∷ cs) (blocks_back bs p k x h)

-- the function with one more instruction
abbrev grown : Function → ℕ → ℕ → OpId → List Operand → Function
grown f p k op operands = record f { blocks = update p (put_at k (made f.next_id op operands)) f.blocks; next_id = f.next_id + 1 }

-- the new instruction stands at its place
pub stands-law : (f : Function) (p k : ℕ) (op : OpId) (operands : List Operand) → has_room_at f p ≡ true → k ≤ length (instrs_at f.blocks p) → instr_at (inserted_at f p k op operands).blocks p k ≡ Some (made f.next_id op operands)
stands-law f p k op operands room h =
    ap (λ t. instr_at (cond t (grown f p k op operands) f).blocks p k) room ∙ instr_put f.blocks p k (made f.next_id op operands) (room_within f p room) h

pub retracted-law : (f : Function) (p k : ℕ) (op : OpId) (operands : List Operand) → has_room_at f p ≡ true → k ≤ length (instrs_at f.blocks p) → retracted_at (inserted_at f p k op operands) p k ≡ f
retracted-law f p k op operands room h =
    let x = made f.next_id op operands in
    let g = grown f p k op operands in
    let cut = record g { blocks = update p (cut_at k) g.blocks; next_id = g.next_id - 1 } in
    let next : f.next_id + 1 - 1 ≡ f.next_id = omega arith in
    ap (λ t. retracted_at (cond t g f) p k) room
    ∙ ap (λ o. cond (has_last_id g o) cut g) (instr_put f.blocks p k x (room_within f p room) h)
    ∙ ap (λ t. cond t cut g) (eq-eqb (f.next_id + 1) (f.next_id + 1) refl)
    ∙ ap (λ bs. record f { blocks = bs; next_id = f.next_id + 1 - 1 }) (blocks_back f.blocks p k x h)
    ∙ ap (λ n. record f { next_id = n }) next

-- an element that is changed back
update_back : {X : Type 0} (f g : X → X) (xs : List X) (k : ℕ) (x : X) → slice_get xs k ≡ Some x → g (f x) ≡ x → update k g (update k f xs) ≡ xs
update_back f g [] k x at back = refl
update_back f g (y ∷ ys) zero x at back = let e = same_Some y x at in ap (λ z. z ∷ ys) (ap (λ z. g (f z)) e ∙ (back ∙ sym e))
update_back f g (y ∷ ys) (suc k) x at back = ap (λ zs. y ∷ zs) (update_back f g ys k x at back)

blocks_restored : (op : Op) (operands : List Operand) (bs : List Block) (p k : ℕ) (i : Instr) → instr_at bs p k ≡ Some i → update p (changed_at k (with_operation i.op i.operands)) (update p (changed_at k (with_operation op operands)) bs) ≡ bs
blocks_restored op operands [] p k i at = refl
blocks_restored op operands (b ∷ bs) zero k i at =
    ap (λ is. (record b { instrs = is }) ∷ bs) (update_back (with_operation op operands) (with_operation i.op i.operands) b.instrs k i at refl)
blocks_restored op operands (b ∷ bs) (suc p) k i at = ap (λ cs. b ∷ cs) (blocks_restored op operands bs p k i at)

pub restored-law : (f : Function) (p k : ℕ) (i : Instr) (op : Op) (operands : List Operand) → instr_at f.blocks p k ≡ Some i → replaced_at (replaced_at f p k op operands) p k i.op i.operands ≡ f
restored-law f p k i op operands at = ap (λ bs. record f { blocks = bs }) (blocks_restored op operands f.blocks p k i at)
