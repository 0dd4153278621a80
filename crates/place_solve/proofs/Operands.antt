-- The variables of operands, one after the other.
use Rattle.std.proofs.Common.{◌≡◌, ℕ, suc, ◌+◌, ◌<◌, ◌≤◌, Bool, true, false, cond, not, ◌&&◌, ◌||◌, List, [], ◌∷◌, length, get_or, drop, Option, Some, None, refl, ap, sym, ◌∙◌, arith}
use Rattle.std.specs.List.{list_any, filter_map, cons_option}
use Rattle.std.proofs.lemmas.List.{drop_more}
use Rattle.target_base.specs.declared.types.ClassId.{ClassId}
use Rattle.target_base.specs.declared.types.Role.{Role}
use Rattle.target_base.specs.declared.types.Target.{Target}
use Rattle.target_base.specs.Roles.{is_tied, is_any}
use Rattle.target_base.specs.Rules.{is_copy}
use Rattle.mir_func.specs.declared.func.Loc.{Loc}
use Rattle.mir_func.specs.declared.func.Loc.TheVariants.{Virtual, Fixed}
use Rattle.mir_func.specs.declared.func.RegOp.{RegOp}
use Rattle.mir_func.specs.declared.func.Operand.{Operand}
use Rattle.mir_func.specs.declared.func.Operand.TheVariants as operands
use Rattle.mir_func.specs.declared.func.Instr.{Instr}
use Rattle.mir_func.specs.Value.{Function}
use Rattle.mir_func.specs.Binding.{Bound, passes, does, is_early, ties_to, numbered, moving_class, any_class, asked_class, operand_class, is_virtual}
use Rattle.bound_operands.specs.declared.BoundOperand.{BoundOperand}
use Rattle.bound_operands.specs.Seen.{seen, seen_all}
use Rattle.mir_meaning.specs.Registers.{operand_widths}
use Rattle.mir_meaning.specs.Places.{Kind as Use, Using, Defining, Variable as Need, variable, copy_variable, register_variable, operand_variable, operand_variables, copy_variables, moves_alone, instr_variables}
use Rattle.phi_elim.specs.Phis.{located_class}
use Rattle.phi_elim.proofs.Walks.{drop_all}
use Rattle.two_address.specs.Classes.{class_asked}
use Rattle.place_solve.specs.Once.{once_more, once_if, all_once, operand_use, is_left_out, numbered_variable, virtual_sides, side_variables}
use Rattle.place_solve.proofs.Once.{once_option}

-- the class that is asked

moving_is : (t : Target) (f : Function) (o : RegOp) (l : Loc) → moving_class t (located_class f.classes l) o ≡ any_class t f o l
moving_is t f o (Virtual v) = refl
moving_is t f o (Fixed r) = refl

pub class_is : (t : Target) (f : Function) (r : Option Role) (o : RegOp) → class_asked t f.classes r o ≡ operand_class t f r o
class_is t f None o = refl
class_is t f (Some r) o = ap (λ c. cond (is_any r) c (asked_class r)) (moving_is t f o o.loc)

-- the variable of a register operand

left_out : {X Y : Type 0} (d u : Bool) (a b : Y) (g : Y → X) → cond d (Some (g a)) (cond u None (Some (g b))) ≡ cond (not d && u) None (Some (g (cond d a b)))
left_out true u a b g = refl
left_out false u a b g = refl

register_of : (t : Target) (f : Function) (tied : Bool) (r : Option Role) (o : RegOp) (v : ℕ) → register_variable t f tied r o (Virtual v) ≡ cond (is_left_out r o) None (Some (variable (operand_use tied r o) v o.index (operand_class t f r o)))
register_of t f tied r o v = left_out o.def (o.undef || passes is_tied r) (Defining tied (passes is_early r)) Using (λ (u : Use). variable u v o.index (operand_class t f r o))

pub register_lost : (t : Target) (f : Function) (tied : Bool) (r : Option Role) (o : RegOp) (v : ℕ) (b : Bool) → o.loc ≡ Virtual v → b ≡ is_left_out r o → b ≡ true → None ≡ register_variable t f tied r o o.loc
register_lost t f tied r o v b at is holds =
    let e : is_left_out r o ≡ true = sym is ∙ holds in
    sym (ap (λ (l : Loc). register_variable t f tied r o l) at ∙ (register_of t f tied r o v ∙ ap (λ (c : Bool). cond c None (Some (variable (operand_use tied r o) v o.index (operand_class t f r o)))) e))

pub register_made : (t : Target) (f : Function) (tied : Bool) (r : Option Role) (o : RegOp) (v : ℕ) (b : Bool) (u : Use) (c : Option ClassId) → o.loc ≡ Virtual v → b ≡ is_left_out r o → b ≡ false → u ≡ operand_use tied r o → c ≡ operand_class t f r o → Some (variable u v o.index c) ≡ register_variable t f tied r o o.loc
register_made t f tied r o v b u c at is fails used class =
    let e : is_left_out r o ≡ false = sym is ∙ fails in
    let m : register_variable t f tied r o o.loc ≡ Some (variable (operand_use tied r o) v o.index (operand_class t f r o)) = ap (λ (l : Loc). register_variable t f tied r o l) at ∙ (register_of t f tied r o v ∙ ap (λ (d : Bool). cond d None (Some (variable (operand_use tied r o) v o.index (operand_class t f r o)))) e) in
    ap (λ (w : Use). Some (variable w v o.index c)) used ∙ (ap (λ (d : Option ClassId). Some (variable (operand_use tied r o) v o.index d)) class ∙ sym m)

pub ruleset register_is = (register_lost, register_made)

-- the walk over operands with their roles

numbered_at : (k : ℕ) (xs : List BoundOperand) (x : BoundOperand) → k < length xs → x ≡ get_or xs k x → numbered k (seen_all (drop k xs)) ≡ (k, seen x) ∷ numbered (k + 1) (seen_all (drop (k + 1) xs))
numbered_at k xs x h at = let e : suc k ≡ k + 1 = omega arith in ap (λ ys. numbered k (seen_all ys)) (drop_more xs k x h) ∙ ap (λ y. (k, seen y) ∷ numbered (suc k) (seen_all (drop (k + 1) xs))) (sym at) ∙ ap (λ n. (k, seen x) ∷ numbered n (seen_all (drop (k + 1) xs))) e

module _ (t : Target) (f : Function) (bs : List Bound) (xs : List BoundOperand) (k : ℕ) where
  pub bound_put : (made next total : List Need) (x : BoundOperand) (tied : Bool) (v : Option Need) → k < length xs → x ≡ get_or xs k x → tied ≡ list_any (λ b. passes (ties_to k) b.0) bs → v ≡ operand_variable t f tied (seen x) → next ≡ once_if made v → all_once made (filter_map (numbered_variable t f bs) (numbered k (seen_all (drop k xs)))) ≡ total → all_once next (filter_map (numbered_variable t f bs) (numbered (k + 1) (seen_all (drop (k + 1) xs)))) ≡ total
  bound_put made next total x tied v h at is made_of e was =
      let rest : List Need = filter_map (numbered_variable t f bs) (numbered (k + 1) (seen_all (drop (k + 1) xs))) in
      let m : filter_map (numbered_variable t f bs) (numbered k (seen_all (drop k xs))) ≡ cons_option v rest = ap (filter_map (numbered_variable t f bs)) (numbered_at k xs x h at) ∙ ap (λ c. cons_option (operand_variable t f c (seen x)) rest) (sym is) ∙ ap (λ w. cons_option w rest) (sym made_of) in
      ap (λ ns. all_once ns rest) e ∙ (sym (once_option made v rest) ∙ (ap (all_once made) (sym m) ∙ was))

  pub bound_end : (made total : List Need) → length xs ≤ k → all_once made (filter_map (numbered_variable t f bs) (numbered k (seen_all (drop k xs)))) ≡ total → made ≡ total
  bound_end made total h was = sym (ap (λ ys. all_once made (filter_map (numbered_variable t f bs) (numbered k (seen_all ys)))) (drop_all k xs h)) ∙ was

pub ruleset bound_walk = (bound_put, bound_end)

-- a copy

copy_case : (b : Bool) (t : Target) (f : Function) (d : RegOp) → cond b (copy_variable t (operand_widths t f d) ∷ []) [] ≡ side_variables t f (cond b (Some d) None)
copy_case true t f d = refl
copy_case false t f d = refl

pub copies_are : (t : Target) (f : Function) (os : List Operand) → copy_variables t f os ≡ side_variables t f (virtual_sides os)
copies_are t f [] = refl
copies_are t f (a ∷ []) = one_operand t f a
  where
    one_operand : (t : Target) (f : Function) (a : Operand) → copy_variables t f (a ∷ []) ≡ []
    one_operand t f (operands.Reg o) = refl
    one_operand t f (operands.Imm n) = refl
    one_operand t f (operands.Block n) = refl
    one_operand t f (operands.Stack n) = refl
    one_operand t f (operands.FixedStack n) = refl
    one_operand t f (operands.Symbol n) = refl
    one_operand t f (operands.Index n) = refl
    one_operand t f (operands.Mask n) = refl
copies_are t f (operands.Reg d ∷ operands.Reg s ∷ os) = copy_case (is_virtual d.loc && is_virtual s.loc) t f d
copies_are t f (operands.Reg d ∷ operands.Imm n ∷ os) = refl
copies_are t f (operands.Reg d ∷ operands.Block n ∷ os) = refl
copies_are t f (operands.Reg d ∷ operands.Stack n ∷ os) = refl
copies_are t f (operands.Reg d ∷ operands.FixedStack n ∷ os) = refl
copies_are t f (operands.Reg d ∷ operands.Symbol n ∷ os) = refl
copies_are t f (operands.Reg d ∷ operands.Index n ∷ os) = refl
copies_are t f (operands.Reg d ∷ operands.Mask n ∷ os) = refl
copies_are t f (operands.Imm n ∷ b ∷ os) = refl
copies_are t f (operands.Block n ∷ b ∷ os) = refl
copies_are t f (operands.Stack n ∷ b ∷ os) = refl
copies_are t f (operands.FixedStack n ∷ b ∷ os) = refl
copies_are t f (operands.Symbol n ∷ b ∷ os) = refl
copies_are t f (operands.Index n ∷ b ∷ os) = refl
copies_are t f (operands.Mask n ∷ b ∷ os) = refl

pub copy_put : (t : Target) (f : Function) (os : List Operand) (s : Option RegOp) (d : RegOp) (n : Need) (old new : List Need) → s ≡ virtual_sides os → s ≡ Some d → n ≡ copy_variable t (operand_widths t f d) → new ≡ once_more old n → new ≡ all_once old (copy_variables t f os)
copy_put t f os s d n old new is some made e =
    let m : copy_variables t f os ≡ copy_variable t (operand_widths t f d) ∷ [] = copies_are t f os ∙ ap (side_variables t f) (sym is ∙ some) in
    e ∙ (ap (once_more old) made ∙ ap (all_once old) (sym m))

pub copy_none : (t : Target) (f : Function) (os : List Operand) (s : Option RegOp) (old new : List Need) → s ≡ virtual_sides os → s ≡ None → new ≡ old → new ≡ all_once old (copy_variables t f os)
copy_none t f os s old new is none e =
    let m : copy_variables t f os ≡ [] = copies_are t f os ∙ ap (side_variables t f) (sym is ∙ none) in
    e ∙ ap (all_once old) (sym m)

pub ruleset copy_added = (copy_put, copy_none)

-- an instruction

pub instr_copy : (t : Target) (f : Function) (i : Instr) (b : Bool) (os : List Operand) (old new : List Need) → b ≡ does is_copy t i → b ≡ true → os ≡ i.operands → new ≡ all_once old (copy_variables t f os) → new ≡ all_once old (instr_variables t f i)
instr_copy t f i b os old new is holds o e =
    let m : instr_variables t f i ≡ copy_variables t f os = ap (λ (c : Bool). cond c (copy_variables t f i.operands) (cond (does moves_alone t i) [] (operand_variables t f i))) (sym is ∙ holds) ∙ ap (copy_variables t f) (sym o) in
    e ∙ ap (all_once old) (sym m)

pub instr_alone : (t : Target) (f : Function) (i : Instr) (b c : Bool) (old new : List Need) → b ≡ does is_copy t i → b ≡ false → c ≡ does moves_alone t i → c ≡ true → new ≡ old → new ≡ all_once old (instr_variables t f i)
instr_alone t f i b c old new is fails alone holds e =
    let m : instr_variables t f i ≡ [] = ap (λ (d : Bool). cond d (copy_variables t f i.operands) (cond (does moves_alone t i) [] (operand_variables t f i))) (sym is ∙ fails) ∙ ap (λ (d : Bool). cond d [] (operand_variables t f i)) (sym alone ∙ holds) in
    e ∙ ap (all_once old) (sym m)

pub instr_operands : (t : Target) (f : Function) (i : Instr) (b c : Bool) (old new : List Need) → b ≡ does is_copy t i → b ≡ false → c ≡ does moves_alone t i → c ≡ false → new ≡ all_once old (operand_variables t f i) → new ≡ all_once old (instr_variables t f i)
instr_operands t f i b c old new is fails alone none e =
    let m : instr_variables t f i ≡ operand_variables t f i = ap (λ (d : Bool). cond d (copy_variables t f i.operands) (cond (does moves_alone t i) [] (operand_variables t f i))) (sym is ∙ fails) ∙ ap (λ (d : Bool). cond d [] (operand_variables t f i)) (sym alone ∙ none) in
    e ∙ ap (all_once old) (sym m)

pub ruleset instr_added = (instr_copy, instr_alone, instr_operands)
