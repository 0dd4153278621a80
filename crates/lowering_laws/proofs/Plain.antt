-- Instructions without ties and `undef` operands, and those that have no form of their own.
use Rattle.std.proofs.Common.{◌≡◌, ◌∷◌, ◌++◌, ◌∙◌, ◌&&◌, ◌||◌, not, ℕ, suc, Bool, true, false, cond, List, Option, Some, None, map, flat_map, refl, sym, ap, []}
use Rattle.std.specs.Prelude.{filter_map, option_and_then, slice_get, unwrap_or}
use Rattle.std.specs.List.{cons_option, list_all, list_any}
use Rattle.target_base.specs.declared.types.ClassId.{ClassId}
use Rattle.target_base.specs.declared.types.Effect.{Effect}
use Rattle.target_base.specs.declared.types.Role.{Role}
use Rattle.target_base.specs.declared.types.Role.TheVariants as roles
use Rattle.target_base.specs.declared.types.Target.{Target}
use Rattle.target_base.specs.Roles.{is_implicit, is_tied}
use Rattle.target_base.specs.Rules.{is_copy, is_insert_subreg, is_reg_sequence}
use Rattle.target_base.proofs.Tests.{first_of_both, second_of_both}
use Rattle.mir_func.specs.declared.func.RegOp.{RegOp}
use Rattle.mir_func.specs.declared.func.Operand.{Operand}
use Rattle.mir_func.specs.declared.func.Operand.TheVariants as operands
use Rattle.mir_func.specs.declared.func.Instr.{Instr}
use Rattle.mir_func.specs.Value.{Function}
use Rattle.mir_func.specs.Binding.{TiedPair, effect_of, explicit_bound, explicit_roles, is_definition, is_virtual, numbered, passes, puts_together, register_at, roles_of, takes_many, tied_number, tied_pair}
use Rattle.two_address.specs.Classes.{class_asked, first_register, seated}
use Rattle.two_address.specs.Lowered.{copy_form, form_of, insertion_form, part_of_two, sequence_form, ties_lowered, virtual_in}
use Rattle.two_address.specs.Ties.{retied, retied_operand, tie_to, ties_among, ties_in, undef_fixed, undefined_first, undefined_whole}
use Rattle.two_address.specs.declared.forms.InstrLowering.TheVariants as forms
use Rattle.lowering_laws.proofs.Replaced.{h}

module _ (t : Target) (f : Function) where
  -- both functions have the same classes
  pub same-classes : (h t f).classes ≡ (ties_lowered t f).classes
  unfolding ties_lowered
  same-classes = refl

-- instructions without ties and `undef` operands

-- an `undef` operand
abbrev pub is_undef : Operand → Bool
is_undef (operands.Reg o) = o.undef
is_undef o = false

not-true : (b : Bool) → not b ≡ true → b ≡ false
not-true true e = absurd (cc)
not-true false e = refl

pub no-or : (a b : Bool) → (a || b) ≡ false → (a ≡ false) × (b ≡ false)
no-or true b e = absurd (cc)
no-or false b e = (refl, e)

and-none : (a : Bool) → (a && false) ≡ false
and-none true = refl
and-none false = refl

none-pair : (os : List Operand) (r : Option Role) (o : Operand) → passes is_tied r ≡ false → tied_pair os (r, o) ≡ None
none-pair os None (operands.Reg u) h = refl
none-pair os (Some (roles.Tied k n)) (operands.Reg u) h = absurd (cc)
none-pair os (Some q) (operands.Reg u) h = refl
none-pair os r o h = refl

pub next-untied : (r : Role) (rs : List Role) → list_any is_tied (r ∷ rs) ≡ false → list_any is_tied (cond (takes_many r) (r ∷ rs) rs) ≡ false
next-untied r rs h = go (takes_many r)
  where
    go : (y : Bool) → list_any is_tied (cond y (r ∷ rs) rs) ≡ false
    go true = h
    go false = (no-or (is_tied r) (list_any is_tied rs) h).1

none-kept : (os : List Operand) (x : Option TiedPair) (xs : List TiedPair) → x ≡ None → xs ≡ [] → cons_option x xs ≡ []
none-kept os None xs e q = q
none-kept os (Some y) xs e q = absurd (cc)

untied-pairs : (os : List Operand) (rs : List Role) (qs : List Operand) → list_any is_tied rs ≡ false → filter_map (tied_pair os) (explicit_bound rs qs) ≡ []
untied-pairs os rs [] h = refl
untied-pairs os [] (o ∷ qs) h = none-kept os (tied_pair os (None, o)) (filter_map (tied_pair os) (explicit_bound [] qs)) (none-pair os None o refl) (untied-pairs os [] qs h)
untied-pairs os (r ∷ rs) (o ∷ qs) h =
    let rest = cond (takes_many r) (r ∷ rs) rs in
    none-kept os (tied_pair os (Some r, o)) (filter_map (tied_pair os) (explicit_bound rest qs)) (none-pair os (Some r) o (no-or (is_tied r) (list_any is_tied rs) h).0) (untied-pairs os rest qs (next-untied r rs h))

explicit-untied : (rs : List Role) → list_any is_tied rs ≡ false → list_any is_tied (explicit_roles rs) ≡ false
explicit-untied [] h = refl
explicit-untied (r ∷ rs) h = go (is_implicit r) (no-or (is_tied r) (list_any is_tied rs) h) (explicit-untied rs (no-or (is_tied r) (list_any is_tied rs) h).1)
  where
    go : (y : Bool) → (is_tied r ≡ false) × (list_any is_tied rs ≡ false) → list_any is_tied (explicit_roles rs) ≡ false → list_any is_tied (cond (not y) (r ∷ explicit_roles rs) (explicit_roles rs)) ≡ false
    go true p ih = ih
    go false p ih = (λ k. p.0 k || list_any is_tied (explicit_roles rs)) ∙ ih

module _ (t : Target) (cs : List (Option ClassId)) where
  same-register : (n : ℕ) (r : Option Role) (p : RegOp) → p.undef ≡ false → retied t cs [] n r p ≡ p
  same-register n r p e = go (is_definition p) (option_and_then tied_number r)
    where
      by : (a b : Bool) (x : RegOp) → cond (a && b && false) x p ≡ p
      by true true x = refl
      by true false x = refl
      by false true x = refl
      by false false x = refl

      go : (y : Bool) (q : Option ℕ) → cond y (record p { undef = false }) (elim q as (λ q. RegOp) [ None ↦ cond (is_virtual p.loc && not p.def && p.undef) (undef_fixed p (first_register t (class_asked t cs r p))) p | Some m ↦ unwrap_or (tie_to m []).reading p ]) ≡ p
      go true q = λ k. record p { undef = sym e k }
      go false None = (λ k. cond (is_virtual p.loc && not p.def && e k) (undef_fixed p (first_register t (class_asked t cs r p))) p) ∙ by (is_virtual p.loc) (not p.def) (undef_fixed p (first_register t (class_asked t cs r p)))
      go false (Some m) = refl

  same-operand : (n : ℕ) (r : Option Role) (o : Operand) → not (is_undef o) ≡ true → retied_operand t cs [] (n, (r, o)) ≡ o
  same-operand n r (operands.Reg p) e = ap operands.Reg (same-register n r p (not-true p.undef e))
  same-operand n r o e = refl

  pub same-operands : (n : ℕ) (rs : List Role) (os : List Operand) → list_all (λ o. not (is_undef o)) os ≡ true → map (retied_operand t cs []) (numbered n (explicit_bound rs os)) ≡ os
  same-operands n rs [] h = refl
  same-operands n [] (o ∷ os) h = λ k. same-operand n None o (first_of_both _ _ h) k ∷ same-operands (suc n) [] os (second_of_both _ _ h) k
  same-operands n (r ∷ rs) (o ∷ os) h = λ k. same-operand n (Some r) o (first_of_both _ _ h) k ∷ same-operands (suc n) (cond (takes_many r) (r ∷ rs) rs) os (second_of_both _ _ h) k

none-first : (o : Operand) → not (is_undef o) ≡ true → undefined_first o ≡ []
none-first (operands.Reg p) e = (λ k. cond (is_definition p && not-true p.undef e k) (undefined_whole p.loc) []) ∙ ap (λ y. cond y (undefined_whole p.loc) []) (and-none (is_definition p))
none-first o e = refl

pub none-before : (os : List Operand) → list_all (λ o. not (is_undef o)) os ≡ true → flat_map undefined_first os ≡ []
none-before [] h = refl
none-before (o ∷ os) h = λ k. none-first o (first_of_both _ _ h) k ++ none-before os (second_of_both _ _ h) k

module _ (t : Target) (i : Instr) (e : Effect) (known : effect_of t i ≡ Some e) where
  -- an opcode that none of the other rewritings is for
  pub other-form : is_copy e ≡ false → puts_together e ≡ false → form_of t i ≡ forms.Other
  other-form one two =
      let z = no-or (is_reg_sequence e) (is_insert_subreg e) two in
      λ k. cond ((ap (passes is_copy) known ∙ one) k) (copy_form (register_at i.operands 0) (register_at i.operands 1))
      (cond ((ap (passes is_reg_sequence) known ∙ z.0) k) (sequence_form (virtual_in (register_at i.operands 0)))
      (cond ((ap (passes is_insert_subreg) known ∙ z.1) k) (insertion_form (virtual_in (register_at i.operands 0)) (register_at i.operands 1) (part_of_two (slice_get i.operands 2) (slice_get i.operands 3))) forms.Other))

  -- an opcode that ties nothing
  pub none-tied : (c : ℕ) → list_any is_tied (roles_of t i) ≡ false → ties_in t c i ≡ []
  none-tied c h = ap (ties_among (seated t i) c) (untied-pairs i.operands (explicit_roles (roles_of t i)) i.operands (explicit-untied (roles_of t i) h))
