-- The pass so far, and one instruction or block more.
use Rattle.std.proofs.Common.{◌≡◌, ℕ, suc, ◌+◌, ◌<◌, ◌≤◌, Bool, true, false, List, [], ◌∷◌, ◌++◌, length, get_or, set, take, drop, Option, Some, None, is_some, refl, ap, sym, ◌∙◌, arith, append_assoc, length-append}
use Rattle.std.specs.List.{filter_map, flat_map, cons_option}
use Rattle.std.proofs.lemmas.List.{drop_more, drop-set-lt, length-map}
use Rattle.target_base.specs.declared.types.ClassId.{ClassId}
use Rattle.target_base.specs.declared.types.Role.{Role}
use Rattle.target_base.specs.declared.types.Target.{Target}
use Rattle.mir_func.specs.declared.func.Loc.TheVariants.{Virtual}
use Rattle.mir_func.specs.declared.func.Operand.{Operand}
use Rattle.mir_func.specs.declared.func.Instr.{Instr}
use Rattle.mir_func.specs.declared.func.Block.{Block}
use Rattle.mir_func.specs.Binding.{Bound, TiedPair, explicit_bound, explicit_roles, roles_of, tied_pair}
use Rattle.mir_func.proofs.Bound.{bound_operands}
use Rattle.phi_elim.specs.Bulk.{operand_count}
use Rattle.phi_elim.specs.Phis.{all_instrs, located_class}
use Rattle.phi_elim.specs.Numbered.{instr_count}
use Rattle.phi_elim.proofs.Walks.{walk_more, piece_more}
use Rattle.phi_elim.proofs.Arriving.{instr_count_more}
use Rattle.phi_elim.proofs.Sizes.{operand_count-cons, operand_count-append}
use Rattle.two_address.specs.declared.forms.InstrLowering.{InstrLowering}
use Rattle.two_address.specs.declared.forms.InstrLowering.TheVariants as forms
use Rattle.two_address.specs.declared.ties.Tie.{Tie}
use Rattle.two_address.specs.Classes.{seated}
use Rattle.two_address.specs.Sequences.{is_input, parts_of}
use Rattle.two_address.specs.Ties.{definition_class, tie_among, number_behind, ties_among, ties_in}
use Rattle.two_address.specs.Lowered.{class_if, class_aside, form_of, form_classes, instr_lowered, instr_classes, next_range, instrs_lowered, classes_made, blocks_lowered}

pub class_if_small : (b : Bool) (k : Option ClassId) → length (class_if b k) ≤ 1
class_if_small true k = omega arith
class_if_small false k = omega arith

classes_aside_small : (rs : List Role) (ties : List Tie) → length (flat_map (class_aside rs) ties) ≤ length ties
classes_aside_small rs [] = omega arith
classes_aside_small rs (tie ∷ ties) = omega (arith, length-append (class_aside rs tie) (flat_map (class_aside rs) ties), class_if_small (is_some tie.aside) (definition_class rs tie.number), classes_aside_small rs ties)

length-ties_among : (bs : List Bound) (c : ℕ) (ps : List TiedPair) → length (ties_among bs c ps) ≡ length ps
length-ties_among bs c [] = refl
length-ties_among bs c (p ∷ ps) = ap suc (length-ties_among bs (number_behind c (tie_among bs c p)) ps)

pairs_small : (f : Bound → Option TiedPair) (bs : List Bound) → length (filter_map f bs) ≤ length bs
pairs_small f [] = omega arith
pairs_small f (b ∷ bs) = go (f b) (pairs_small f bs)
  where
    go : (p : Option TiedPair) → length (filter_map f bs) ≤ length bs → length (cons_option p (filter_map f bs)) ≤ length (b ∷ bs)
    go None ih = omega arith
    go (Some p) ih = omega arith

pub length-bound : (qs : List Role) (os : List Operand) → length (explicit_bound qs os) ≡ length os
length-bound qs os = sym (length-map (explicit_bound qs os) (λ b. b.1)) ∙ ap length (bound_operands qs os)

-- a tie for each operand at most
ties_in_small : (t : Target) (c : ℕ) (i : Instr) → length (ties_in t c i) ≤ length i.operands
ties_in_small t c i = omega (arith, length-ties_among (seated t i) c (filter_map (tied_pair i.operands) (seated t i)), pairs_small (tied_pair i.operands) (seated t i), length-bound (explicit_roles (roles_of t i)) i.operands)

form_classes_small : (t : Target) (cs : List (Option ClassId)) (c : ℕ) (i : Instr) (f : InstrLowering) → length (form_classes t cs c i f) ≤ 1 + length i.operands
form_classes_small t cs c i (forms.Copy d s) = omega arith
form_classes_small t cs c i (forms.Sequence v) = omega (arith, class_if_small (is_input (Virtual v) (parts_of (drop 1 i.operands))) (located_class cs (Virtual v)))
form_classes_small t cs c i (forms.Insertion v a p) = omega (arith, class_if_small (is_input (Virtual v) (p ∷ [])) (located_class cs (Virtual v)))
form_classes_small t cs c i forms.Other = omega (arith, classes_aside_small (roles_of t i) (ties_in t c i), ties_in_small t c i)

-- an instruction needs one register for each operand at most, or one
pub instr_classes_small : (t : Target) (cs : List (Option ClassId)) (c : ℕ) (i : Instr) → length (instr_classes t cs c i) ≤ 1 + length i.operands
instr_classes_small t cs c i = form_classes_small t cs c i (form_of t i)

pub classes_made_small : (t : Target) (cs : List (Option ClassId)) (c : ℕ) (is : List Instr) → length (classes_made t cs c is) ≤ length is + operand_count is
classes_made_small t cs c [] = omega arith
classes_made_small t cs c (i ∷ is) = omega (arith, length-append (instr_classes t cs c i) (classes_made t cs (next_range t cs c i) is), instr_classes_small t cs c i, classes_made_small t cs (next_range t cs c i) is, operand_count-cons i is)

-- the next range number, by the classes made so far
next_is : (t : Target) (cs : List (Option ClassId)) (n : ℕ) (i : Instr) (made next : List (Option ClassId)) → next ≡ made ++ instr_classes t cs (n + length made) i → n + length next ≡ next_range t cs (n + length made) i
next_is t cs n i made next e = omega (arith, ap length e, length-append made (instr_classes t cs (n + length made) i))

pub instr_more : (t : Target) (cs : List (Option ClassId)) (n k : ℕ) (is : List Instr) (x : Instr) (made next : List (Option ClassId)) (out after total : List Instr) → k < length is → x ≡ get_or is k x → next ≡ made ++ instr_classes t cs (n + length made) x → after ≡ out ++ instr_lowered t cs (n + length made) x → out ++ instrs_lowered t cs (n + length made) (drop k is) ≡ total → after ++ instrs_lowered t cs (n + length next) (drop (k + 1) is) ≡ total
instr_more t cs n k is x made next out after total h at e out_is was =
    let m : instrs_lowered t cs (n + length made) (drop k is) ≡ instr_lowered t cs (n + length made) x ++ instrs_lowered t cs (next_range t cs (n + length made) x) (drop (k + 1) is) = rw (drop_more is k x h, ← at) refl in
    rw (next_is t cs n x made next e) (piece_more out after _ _ _ total out_is m was)

pub class_more : (t : Target) (cs : List (Option ClassId)) (n k : ℕ) (is : List Instr) (x : Instr) (made next total : List (Option ClassId)) → k < length is → x ≡ get_or is k x → next ≡ made ++ instr_classes t cs (n + length made) x → made ++ classes_made t cs (n + length made) (drop k is) ≡ total → next ++ classes_made t cs (n + length next) (drop (k + 1) is) ≡ total
class_more t cs n k is x made next total h at e was =
    let m : classes_made t cs (n + length made) (drop k is) ≡ instr_classes t cs (n + length made) x ++ classes_made t cs (next_range t cs (n + length made) x) (drop (k + 1) is) = rw (drop_more is k x h, ← at) refl in
    rw (next_is t cs n x made next e) (piece_more made next _ _ _ total e m was)

pub made_small : (t : Target) (cs : List (Option ClassId)) (c : ℕ) (x : Instr) (made next : List (Option ClassId)) → next ≡ made ++ instr_classes t cs c x → length next ≤ length made + 1 + length x.operands
made_small t cs c x made next e = omega (arith, ap length e, length-append made (instr_classes t cs c x), instr_classes_small t cs c x)

-- the operands of the instructions that are left
pub operands_left : (k : ℕ) (is : List Instr) (x : Instr) → k < length is → x ≡ get_or is k x → operand_count (drop k is) ≡ length x.operands + operand_count (drop (k + 1) is)
operands_left k is x h at = rw (drop_more is k x h, ← at) (operand_count-cons x (drop (k + 1) is))

-- blocks

pub classes_made-append : (t : Target) (cs : List (Option ClassId)) (c : ℕ) (is js : List Instr) → classes_made t cs c (is ++ js) ≡ classes_made t cs c is ++ classes_made t cs (c + length (classes_made t cs c is)) js
classes_made-append t cs c [] js = let e : c + 0 ≡ c = omega arith in rw e refl
classes_made-append t cs c (i ∷ is) js =
    let n = next_range t cs c i in
    let e : n + length (classes_made t cs n is) ≡ c + length (instr_classes t cs c i ++ classes_made t cs n is) = omega (arith, length-append (instr_classes t cs c i) (classes_made t cs n is)) in
    rw (classes_made-append t cs n is js, e, append_assoc) refl

block_next : (t : Target) (cs : List (Option ClassId)) (n : ℕ) (is : List Instr) (made next : List (Option ClassId)) → next ≡ made ++ classes_made t cs (n + length made) is → n + length next ≡ n + length made + length (classes_made t cs (n + length made) is)
block_next t cs n is made next e = omega (arith, ap length e, length-append made (classes_made t cs (n + length made) is))

pub block_more : (t : Target) (cs : List (Option ClassId)) (n k : ℕ) (bs total : List Block) (x y : Block) (made next : List (Option ClassId)) → k < length bs → x ≡ get_or bs k x → y ≡ record x { instrs = instrs_lowered t cs (n + length made) x.instrs } → next ≡ made ++ classes_made t cs (n + length made) x.instrs → take k bs ++ blocks_lowered t cs (n + length made) (drop k bs) ≡ total → take (k + 1) (set bs k y) ++ blocks_lowered t cs (n + length next) (drop (k + 1) (set bs k y)) ≡ total
block_more t cs n k bs total x y made next h at is e was =
    let rest : blocks_lowered t cs (n + length made) (drop k bs) ≡ y ∷ blocks_lowered t cs (n + length made + length (classes_made t cs (n + length made) x.instrs)) (drop (k + 1) bs) = rw (drop_more bs k x h, ← at, is) refl in
    rw (drop-set-lt (k + 1) bs k y (omega arith), block_next t cs n x.instrs made next e) (walk_more bs k y _ _ total h was rest)

pub block_class_more : (t : Target) (cs : List (Option ClassId)) (n k : ℕ) (bs : List Block) (x y : Block) (made next total : List (Option ClassId)) → k < length bs → x ≡ get_or bs k x → next ≡ made ++ classes_made t cs (n + length made) x.instrs → made ++ classes_made t cs (n + length made) (all_instrs (drop k bs)) ≡ total → next ++ classes_made t cs (n + length next) (all_instrs (drop (k + 1) (set bs k y))) ≡ total
block_class_more t cs n k bs x y made next total h at e was =
    let m : classes_made t cs (n + length made) (all_instrs (drop k bs)) ≡ classes_made t cs (n + length made) x.instrs ++ classes_made t cs (n + length made + length (classes_made t cs (n + length made) x.instrs)) (all_instrs (drop (k + 1) bs)) = rw (drop_more bs k x h, ← at) (classes_made-append t cs (n + length made) x.instrs (all_instrs (drop (k + 1) bs))) in
    rw (drop-set-lt (k + 1) bs k y (omega arith), block_next t cs n x.instrs made next e) (piece_more made next _ _ _ total e m was)

pub block_small : (t : Target) (cs : List (Option ClassId)) (c : ℕ) (is : List Instr) (made next : List (Option ClassId)) → next ≡ made ++ classes_made t cs c is → length next ≤ length made + length is + operand_count is
block_small t cs c is made next e = omega (arith, ap length e, length-append made (classes_made t cs c is), classes_made_small t cs c is)

-- the instructions and the operands of the blocks that are left
pub instr_count_left : (k : ℕ) (bs : List Block) (x y : Block) → k < length bs → x ≡ get_or bs k x → instr_count (drop k bs) ≡ length x.instrs + instr_count (drop (k + 1) (set bs k y))
instr_count_left k bs x y h at = rw (drop-set-lt (k + 1) bs k y (omega arith)) (instr_count_more k bs x h at)

pub operand_count_left : (k : ℕ) (bs : List Block) (x y : Block) → k < length bs → x ≡ get_or bs k x → operand_count (all_instrs (drop k bs)) ≡ operand_count x.instrs + operand_count (all_instrs (drop (k + 1) (set bs k y)))
operand_count_left k bs x y h at = rw (drop-set-lt (k + 1) bs k y (omega arith), drop_more bs k x h, ← at) (operand_count-append x.instrs (all_instrs (drop (k + 1) bs)))

pub length-blocks_lowered : (t : Target) (cs : List (Option ClassId)) (c : ℕ) (bs : List Block) → length (blocks_lowered t cs c bs) ≡ length bs
length-blocks_lowered t cs c [] = refl
length-blocks_lowered t cs c (b ∷ bs) = ap suc (length-blocks_lowered t cs (c + length (classes_made t cs c b.instrs)) bs)
