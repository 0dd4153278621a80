-- How large a function is behind the pass.
use Rattle.std.proofs.Common.{◌≡◌, ℕ, suc, ◌+◌, ◌*◌, ◌^◌, ◌<◌, ◌≤◌, Bool, true, false, cond, not, ◌&&◌, List, [], ◌∷◌, ◌++◌, length, drop, map, Option, Some, None, slice_get, refl, ap, subst, sym, ◌∙◌, arith, length-append, length-drop}
use Rattle.std.specs.List.{flat_map, filter_map, cons_option}
use Rattle.std.specs.Option.{option_and_then, option_map}
use Rattle.std.proofs.lemmas.List.{length-map}
use Rattle.target_base.specs.declared.types.ClassId.{ClassId}
use Rattle.target_base.specs.declared.types.Role.{Role}
use Rattle.target_base.specs.declared.types.Target.{Target}
use Rattle.target_base.specs.Rules.{is_copy, is_reg_sequence, is_insert_subreg}
use Rattle.mir_func.specs.declared.func.Loc.{Loc}
use Rattle.mir_func.specs.declared.func.Loc.TheVariants.{Virtual, Fixed}
use Rattle.mir_func.specs.declared.func.RegOp.{RegOp}
use Rattle.mir_func.specs.declared.func.Operand.{Operand}
use Rattle.mir_func.specs.declared.func.Operand.TheVariants as operands
use Rattle.mir_func.specs.declared.func.Op.TheVariants as ops
use Rattle.mir_func.specs.declared.func.Instr.{Instr}
use Rattle.mir_func.specs.declared.func.Block.{Block}
use Rattle.mir_func.specs.Value.{Function, IsFunction}
use Rattle.mir_func.specs.Binding.{Bound, TiedPair, does, explicit_roles, roles_of, register_at, is_definition, numbered, paired_with, tied_number, tied_pair}
use Rattle.mir_func.proofs.Bound.{bound_operands}
use Rattle.phi_elim.specs.Moves.{implicit_def_op, whole_definition, whole_use, source_of, destination_of, copy_of, undefining, move_of}
use Rattle.phi_elim.specs.Numbered.{instr_count}
use Rattle.phi_elim.specs.Bulk.{bulk, operand_count}
use Rattle.phi_elim.specs.Phis.{all_instrs, located_class}
use Rattle.phi_elim.proofs.Sizes.{instr_count-cons, operand_count-cons, operand_count-append, operand_total, operand_total-cons, operand_total-numbered, instrs_below}
use Rattle.two_address.specs.declared.ties.Move.{Move}
use Rattle.two_address.specs.declared.ties.Tie.{Tie}
use Rattle.two_address.specs.declared.sequences.SubregInput.{SubregInput}
use Rattle.two_address.specs.declared.forms.InstrLowering.{InstrLowering}
use Rattle.two_address.specs.declared.forms.InstrLowering.TheVariants as forms
use Rattle.two_address.specs.Classes.{seated}
use Rattle.two_address.specs.Ties.{copies, use_of, undef_use_of, untied, tie_aside, tie_among, number_behind, ties_among, ties_in, undefined_whole, undefined_first, with_operands, tied_lowered, copy_lowered}
use Rattle.two_address.specs.Sequences.{part, parts_of, is_input, built, into_part, at_last, fill_all, beginning, keeping_text, sequence_lowered, insertion_lowered}
use Rattle.two_address.specs.Lowered.{virtual_in, part_of_two, copy_form, sequence_form, insertion_form, class_aside, form_of, form_lowered, form_classes, instr_lowered, instr_classes, next_range, instrs_lowered, classes_made, blocks_lowered, ties_lowered}
use Rattle.two_address.proofs.Steps.{class_if_small, length-bound, classes_made-append}

-- instructions and their operands together
abbrev pub weigh : List Instr → ℕ
weigh xs = length xs + operand_count xs

weigh-append : (xs ys : List Instr) → weigh (xs ++ ys) ≡ weigh xs + weigh ys
weigh-append xs ys = omega (arith, length-append xs ys, operand_count-append xs ys)

weigh-cons : (x : Instr) (xs : List Instr) → weigh (x ∷ xs) ≡ 1 + length x.operands + weigh xs
weigh-cons x xs = omega (arith, operand_count-cons x xs)

-- most instructions

copies_small : (m : Option Move) → weigh (copies m) ≤ 3
copies_small None = omega arith
copies_small (Some m) = omega (arith, weigh-cons (copy_of m.to m.from) [])

operands_stay : (t : Target) (cs : List (Option ClassId)) (ties : List Tie) (i : Instr) → length (with_operands t cs ties i).operands ≡ length i.operands
operands_stay t cs ties i = length-map (numbered 0 (seated t i)) _ ∙ (length-numbered 0 (seated t i) ∙ length-bound (explicit_roles (roles_of t i)) i.operands)
  where
    length-numbered : (n : ℕ) (bs : List Bound) → length (numbered n bs) ≡ length bs
    length-numbered n [] = refl
    length-numbered n (b ∷ bs) = ap suc (length-numbered (suc n) bs)

-- the copies that ties ask for and the ranges that they take
weight : List Role → List Tie → ℕ
weight rs ties = weigh (flat_map (λ tie. copies tie.before) ties) + weigh (flat_map (λ tie. copies tie.after) ties) + length (flat_map (class_aside rs) ties)

weight-cons : (rs : List Role) (tie : Tie) (ties : List Tie) → weight rs (tie ∷ ties) ≡ weigh (copies tie.before) + weigh (copies tie.after) + length (class_aside rs tie) + weight rs ties
unfolding weight
weight-cons rs tie ties = omega (arith, weigh-append (copies tie.before) (flat_map (λ tie. copies tie.before) ties), weigh-append (copies tie.after) (flat_map (λ tie. copies tie.after) ties), length-append (class_aside rs tie) (flat_map (class_aside rs) ties))

-- an `undef` use asks for none
tie_by : (rs : List Role) (c : ℕ) (p : TiedPair) (v u s read : Bool) →
    let d = p.definition in
    let tie = cond (not v) (untied p.number) (cond u (record (untied p.number) { reading = Some (undef_use_of d) }) (cond s (record (untied p.number) { reading = Some (use_of d) }) (cond read (tie_aside c p) (record (untied p.number) { reading = Some (use_of d); before = Some (record { to = destination_of d; from = source_of p.tied_use }) })))) in
    weigh (copies tie.before) + weigh (copies tie.after) + length (class_aside rs tie) + cond u 2 0 ≤ 7
tie_by rs c p false true s read = omega arith
tie_by rs c p false false s read = omega arith
tie_by rs c p true true s read = omega arith
tie_by rs c p true false true read = omega arith
tie_by rs c p true false false true = omega (arith, copies_small (tie_aside c p).before, copies_small (tie_aside c p).after)
tie_by rs c p true false false false = omega (arith, copies_small (Some (record { to = destination_of p.definition; from = source_of p.tied_use })))

tie_small : (rs : List Role) (bs : List Bound) (c : ℕ) (p : TiedPair) → let tie = tie_among bs c p in weigh (copies tie.before) + weigh (copies tie.after) + length (class_aside rs tie) + cond p.tied_use.undef 2 0 ≤ 7
tie_small rs bs c p = tie_by rs c p _ _ _ _

-- the tied use is the operand
pair_uses : (os : List Operand) (b : Bound) (p : TiedPair) → tied_pair os b ≡ Some p → b.1 ≡ operands.Reg p.tied_use
pair_uses os (r, operands.Reg u) p e = by_number (option_and_then tied_number r) e
  where
    by_definition : (n : ℕ) (d : Option RegOp) → option_map (λ d. record { number = n; definition = d; tied_use = u }) d ≡ Some p → u ≡ p.tied_use
    by_definition n None e = cc
    by_definition n (Some d) e = let f : record { number = n; definition = d; tied_use = u } ≡ p = cc in ap (λ q. q.tied_use) f

    by_number : (n : Option ℕ) → paired_with os u n ≡ Some p → operands.Reg u ≡ operands.Reg p.tied_use
    by_number None e = cc
    by_number (Some n) e = ap operands.Reg (by_definition n (register_at os n) e)
pair_uses os (r, _) p e = cc

undefined_by : (b u : Bool) (l : Loc) → weigh (cond (b && u) (undefined_whole l) []) ≤ cond u 2 0
undefined_by true true (Virtual v) = omega (arith, weigh-cons (undefining (whole_definition v)) [])
undefined_by true true (Fixed r) = omega arith
undefined_by true false l = omega arith
undefined_by false true l = omega arith
undefined_by false false l = omega arith

two_small : (u : Bool) → cond u 2 0 ≤ 2
two_small true = omega arith
two_small false = omega arith

undefined_small : (o : Operand) → weigh (undefined_first o) ≤ 2
undefined_small (operands.Reg o) = omega (arith, undefined_by (is_definition o) o.undef o.loc, two_small o.undef)
undefined_small _ = omega arith

all_undefined_small : (os : List Operand) → weigh (flat_map undefined_first os) ≤ 2 * length os
all_undefined_small [] = omega arith
all_undefined_small (o ∷ os) = omega (arith, weigh-append (undefined_first o) (flat_map undefined_first os), undefined_small o, all_undefined_small os)

-- an operand that is `undef` asks for one instruction at most, and another one for two copies and a range
ties_small : (rs : List Role) (all : List Bound) (os : List Operand) (c : ℕ) (bs : List Bound) → weigh (flat_map undefined_first (map (λ b. b.1) bs)) + weight rs (ties_among all c (filter_map (tied_pair os) bs)) ≤ 7 * length bs
unfolding weight
ties_small rs all os c [] = omega arith
ties_small rs all os c (b ∷ bs) = go (λ n. ties_small rs all os n bs) (tied_pair os b) refl
  where
    go : ((n : ℕ) → weigh (flat_map undefined_first (map (λ b. b.1) bs)) + weight rs (ties_among all n (filter_map (tied_pair os) bs)) ≤ 7 * length bs) → (p : Option TiedPair) → tied_pair os b ≡ p → weigh (undefined_first b.1 ++ flat_map undefined_first (map (λ b. b.1) bs)) + weight rs (ties_among all c (cons_option p (filter_map (tied_pair os) bs))) ≤ 7 * length (b ∷ bs)
    go ih None e = omega (arith, weigh-append (undefined_first b.1) (flat_map undefined_first (map (λ b. b.1) bs)), undefined_small b.1, ih c)
    go ih (Some p) e =
        let tie = tie_among all c p in
        let here = subst (λ o. weigh (undefined_first o) ≤ cond p.tied_use.undef 2 0) (sym (pair_uses os b p e)) (undefined_by (is_definition p.tied_use) p.tied_use.undef p.tied_use.loc) in
        omega (arith, weigh-append (undefined_first b.1) (flat_map undefined_first (map (λ b. b.1) bs)), here, tie_small rs all c p, weight-cons rs tie (ties_among all (number_behind c tie) (filter_map (tied_pair os) bs)), ih (number_behind c tie))

tied_small : (t : Target) (cs : List (Option ClassId)) (c : ℕ) (i : Instr) → weigh (flat_map undefined_first i.operands) + weigh (tied_lowered t cs c i) + length (flat_map (class_aside (roles_of t i)) (ties_in t c i)) ≤ 1 + 8 * length i.operands
unfolding weight
tied_small t cs c i =
    let ties = ties_in t c i in
    let before = flat_map (λ tie. copies tie.before) ties in
    let after = flat_map (λ tie. copies tie.after) ties in
    let qs = explicit_roles (roles_of t i) in
    let all = subst (λ os. weigh (flat_map undefined_first os) + weight (roles_of t i) ties ≤ 7 * length (seated t i)) (bound_operands qs i.operands) (ties_small (roles_of t i) (seated t i) i.operands c (seated t i)) in
    omega (arith, all, length-bound qs i.operands, weigh-append before (with_operands t cs ties i ∷ after), weigh-cons (with_operands t cs ties i) after, operands_stay t cs ties i)

-- copies

either_small : (u : Bool) (a b : Instr) → length a.operands ≤ 2 → length b.operands ≤ 2 → length (cond u a b).operands ≤ 2
either_small true a b ha hb = ha
either_small false a b ha hb = hb

copy_small : (i : Instr) (d s : RegOp) → length (copy_lowered i d s).operands ≤ 2
copy_small i d s = either_small s.undef (record i { op = ops.Known implicit_def_op; operands = operands.Reg (destination_of d) ∷ [] }) (record i { operands = operands.Reg (record d { undef = false }) ∷ operands.Reg s ∷ [] }) (omega arith) (omega arith)

move_small : (to from : RegOp) → length (move_of to from).operands ≤ 2
move_small to from = either_small from.undef (undefining to) (copy_of to (source_of from)) (omega arith) (omega arith)

-- sequences

part_small : (a b : Operand) → length (part a b) ≤ 1
part_small (operands.Reg o) (operands.Index x) = omega arith
part_small _ _ = omega arith

parts_small : (os : List Operand) → 2 * length (parts_of os) ≤ length os
parts_small [] = omega arith
parts_small (a ∷ []) = omega arith
parts_small (a ∷ b ∷ os) = omega (arith, length-append (part a b) (parts_of os), part_small a b, parts_small os)

into_parts_small : (to : ℕ) (ps : List SubregInput) → weigh (map (into_part to) ps) ≤ 3 * length ps
into_parts_small to [] = omega arith
into_parts_small to (p ∷ ps) = omega (arith, weigh-cons (into_part to p) (map (into_part to) ps), move_small (record (whole_definition to) { index = Some p.index }) p.input, into_parts_small to ps)

begun_small : (b : Bool) (to : ℕ) → weigh (cond b [] (undefining (whole_definition to) ∷ [])) ≤ 2
begun_small true to = omega arith
begun_small false to = omega (arith, weigh-cons (undefining (whole_definition to)) [])

ended_small : (b : Bool) (v c : ℕ) → weigh (cond b (copy_of (whole_definition v) (whole_use c) ∷ []) []) ≤ 3
ended_small true v c = omega (arith, weigh-cons (copy_of (whole_definition v) (whole_use c)) [])
ended_small false v c = omega arith

text_weighs_nothing : (i : Instr) (xs : List Instr) → weigh (keeping_text i xs) ≡ weigh xs
text_weighs_nothing i [] = refl
text_weighs_nothing i (x ∷ xs) =
    let first : Instr = record x { flags = i.flags; tail = i.tail } in
    omega (arith, weigh-cons first xs, weigh-cons x xs)

sequence_small : (t : Target) (cs : List (Option ClassId)) (c : ℕ) (i : Instr) (v : ℕ) (ps : List SubregInput) → weigh (sequence_lowered t cs c i v ps) ≤ 5 + 3 * length ps
sequence_small t cs c i v ps =
    let to = built c v ps in
    let first = beginning t (located_class cs (Virtual v)) to ps in
    omega (arith, text_weighs_nothing i (first ++ (map (into_part to) ps ++ at_last c v ps)), weigh-append first (map (into_part to) ps ++ at_last c v ps), weigh-append (map (into_part to) ps) (at_last c v ps), begun_small (fill_all t (located_class cs (Virtual v)) ps) to, into_parts_small to ps, ended_small (is_input (Virtual v) ps) v c)

insertion_small : (c : ℕ) (i : Instr) (v : ℕ) (a : RegOp) (p : SubregInput) → weigh (insertion_lowered c i v a p) ≤ 9
insertion_small c i v a p =
    let to = built c v (p ∷ []) in
    let last = at_last c v (p ∷ []) in
    omega (arith, text_weighs_nothing i (move_of (whole_definition to) a ∷ into_part to p ∷ last), weigh-cons (move_of (whole_definition to) a) (into_part to p ∷ last), weigh-cons (into_part to p) last, move_small (whole_definition to) a, move_small (record (whole_definition to) { index = Some p.index }) p.input, ended_small (is_input (Virtual v) (p ∷ [])) v c)

-- an insertion has operands

form_with : Bool → Bool → Bool → List Operand → InstrLowering
form_with x y z os =
    cond x (copy_form (register_at os 0) (register_at os 1))
    (cond y (sequence_form (virtual_in (register_at os 0)))
    (cond z (insertion_form (virtual_in (register_at os 0)) (register_at os 1) (part_of_two (slice_get os 2) (slice_get os 3)))
    forms.Other))

none_without : (x y z : Bool) (v : ℕ) (a : RegOp) (p : SubregInput) → form_with x y z [] ≡ forms.Insertion v a p → ⊥
unfolding form_with
none_without true y z v a p e = cc
none_without false true z v a p e = cc
none_without false false true v a p e = cc
none_without false false false v a p e = cc

some_operands : (x y z : Bool) (os : List Operand) (v : ℕ) (a : RegOp) (p : SubregInput) → form_with x y z os ≡ forms.Insertion v a p → 1 ≤ length os
some_operands x y z [] v a p e = absurd (none_without x y z v a p e)
some_operands x y z (o ∷ os) v a p e = omega arith

insertion_has_operands : (t : Target) (i : Instr) (v : ℕ) (a : RegOp) (p : SubregInput) → form_of t i ≡ forms.Insertion v a p → 1 ≤ length i.operands
unfolding form_with
insertion_has_operands t i v a p e = some_operands (does is_copy t i) (does is_reg_sequence t i) (does is_insert_subreg t i) i.operands v a p e

-- instructions and blocks

form_small : (t : Target) (cs : List (Option ClassId)) (c : ℕ) (i : Instr) (f : InstrLowering) → form_of t i ≡ f → weigh (flat_map undefined_first i.operands) + weigh (form_lowered t cs c i f) + length (form_classes t cs c i f) ≤ 8 + 8 * length i.operands
form_small t cs c i (forms.Copy d s) e = omega (arith, all_undefined_small i.operands, weigh-cons (copy_lowered i d s) [], copy_small i d s)
form_small t cs c i (forms.Sequence v) e =
    let ps = parts_of (drop 1 i.operands) in
    omega (arith, all_undefined_small i.operands, sequence_small t cs c i v ps, parts_small (drop 1 i.operands), length-drop 1 i.operands, class_if_small (is_input (Virtual v) ps) (located_class cs (Virtual v)))
form_small t cs c i (forms.Insertion v a p) e = omega (arith, all_undefined_small i.operands, insertion_small c i v a p, insertion_has_operands t i v a p e, class_if_small (is_input (Virtual v) (p ∷ [])) (located_class cs (Virtual v)))
form_small t cs c i forms.Other e = omega (arith, tied_small t cs c i)

instr_small : (t : Target) (cs : List (Option ClassId)) (c : ℕ) (i : Instr) → weigh (instr_lowered t cs c i) + length (instr_classes t cs c i) ≤ 8 + 8 * length i.operands
instr_small t cs c i = omega (arith, weigh-append (flat_map undefined_first i.operands) (form_lowered t cs c i (form_of t i)), form_small t cs c i (form_of t i) refl)

instrs_small : (t : Target) (cs : List (Option ClassId)) (c : ℕ) (is : List Instr) → weigh (instrs_lowered t cs c is) + length (classes_made t cs c is) ≤ 8 * weigh is
instrs_small t cs c [] = omega arith
instrs_small t cs c (i ∷ is) =
    let n = next_range t cs c i in
    omega (arith, weigh-append (instr_lowered t cs c i) (instrs_lowered t cs n is), length-append (instr_classes t cs c i) (classes_made t cs n is), instr_small t cs c i, instrs_small t cs n is, weigh-cons i is)

blocks_small : (t : Target) (cs : List (Option ClassId)) (c : ℕ) (bs : List Block) → instr_count (blocks_lowered t cs c bs) + operand_total (blocks_lowered t cs c bs) + length (classes_made t cs c (all_instrs bs)) ≤ 8 * instr_count bs + 8 * operand_total bs
blocks_small t cs c [] = omega arith
blocks_small t cs c (b ∷ bs) =
    let n = c + length (classes_made t cs c b.instrs) in
    let first : Block = record b { instrs = instrs_lowered t cs c b.instrs } in
    let rest = blocks_lowered t cs n bs in
    omega (arith, instr_count-cons first rest, operand_total-cons first rest, instr_count-cons b bs, operand_total-cons b bs, ap length (classes_made-append t cs c b.instrs (all_instrs bs)), length-append (classes_made t cs c b.instrs) (classes_made t cs n (all_instrs bs)), instrs_small t cs c b.instrs, blocks_small t cs n bs)

pub lowered_bulk : (t : Target) (f : Function) → IsFunction f.blocks f.next_id → bulk (ties_lowered t f) ≤ 8 * bulk f
unfolding ties_lowered
lowered_bulk t f sound =
    let c = length f.classes in
    let is = all_instrs f.blocks in
    let bs = blocks_lowered t f.classes c f.blocks in
    omega (arith, instrs_below f.next_id f.blocks sound.once, length-append f.classes (classes_made t f.classes c is), blocks_small t f.classes c f.blocks, operand_total-numbered 0 bs)

-- there is room for the ids
pub lowered_room : (t : Target) (f : Function) → IsFunction f.blocks f.next_id → bulk f ≤ 2 ^ 27 → instr_count (blocks_lowered t f.classes (length f.classes) f.blocks) < 2 ^ 32
lowered_room t f sound h = omega (arith, instrs_below f.next_id f.blocks sound.once, blocks_small t f.classes (length f.classes) f.blocks)

pub ruleset sizes = (lowered_bulk, lowered_room)
