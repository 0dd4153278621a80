-- Which instructions name blocks, by the roles of their opcodes: branches alone.
use Rattle.std.proofs.Common.{◌≡◌, ◌∙◌, ◌||◌, ℕ, zero, suc, Bool, true, false, not, List, [], ◌∷◌, Option, Some, None, refl, sym, ap, subst, take}
use Rattle.std.specs.Prelude.{count_by, flat_map, nat_eq, slice_get}
use Rattle.std.specs.List.{list_any}
use Rattle.std.proofs.lemmas.Bool.{or_parts, not-true}
use Rattle.target_base.specs.declared.types.Effect.{Effect}
use Rattle.target_base.specs.declared.types.Effect.TheVariants as effects
use Rattle.target_base.specs.declared.types.ClassDesc.{ClassDesc}
use Rattle.target_base.specs.declared.types.OpaqueKind.{OpaqueKind}
use Rattle.target_base.specs.declared.types.OpaqueKind.TheVariants as kinds
use Rattle.target_base.specs.declared.types.OpcodeDesc.{OpcodeDesc}
use Rattle.target_base.specs.declared.types.Role.{Role}
use Rattle.target_base.specs.declared.types.Role.TheVariants as roles
use Rattle.target_base.specs.declared.types.Target.{Target}
use Rattle.target_base.specs.Roles.{explicit_shape, has_shape, is_block, is_implicit, is_silent, opaque_fit, roles_fit, shape_fits}
use Rattle.target_base.proofs.Tests.{first_of_both, second_of_both}
use Rattle.meaning.specs.Live.{Among as Member, here as first, there as later}
use Rattle.mir_func.specs.declared.func.Operand.{Operand}
use Rattle.mir_func.specs.declared.func.Operand.TheVariants as operands
use Rattle.mir_func.specs.declared.func.Instr.{Instr}
use Rattle.mir_func.specs.Value.{Function}
use Rattle.mir_func.specs.Binding.{does, effect_of, explicit_operands, explicit_roles, is_branch, is_implicit_operand, is_terminator, roles_of}
use Rattle.mir_meaning.specs.Codes.{ends_without_terminator, target_of}
use Rattle.mir_meaning.specs.Rules.{V1, fits_at, is_opaque, block_of, named_blocks}
use Rattle.instr_effects.proofs.Members.{filter-in, filter-of, flat-in, member-elim, member-none}
use Rattle.live_laws.proofs.Effects.Lists.{all-of}
use Rattle.live_laws.proofs.Effects.Moving.{some-same}
use Rattle.live_laws.proofs.Touch.Roles.{fit, fit-role, has_roles, met, none-counted, roles-sound}

-- roles that an effect lacks

abbrev tests_of : Option (List (Role → Bool)) → List (Role → Bool)
tests_of None = []
tests_of (Some tests) = tests

-- no opaque opcode of the kind has the role: only branches have a target
abbrev opaque_lacks : Role → OpaqueKind → Bool
opaque_lacks roles.Target kinds.Branch = false
opaque_lacks roles.Target kind = true
opaque_lacks r kind = false

-- the effect's explicit roles pass the role nowhere
abbrev lacks : Role → Effect → Bool
lacks r (effects.Opaque kind) = opaque_lacks r kind
lacks r e = not (list_any (λ (test : Role → Bool). test r) (tests_of (explicit_shape e)))

-- only branches name blocks
no-target : (e : Effect) → is_branch e ≡ false → lacks roles.Target e ≡ true
no-target effects.Jump h = absurd (cc)
no-target effects.Jcc h = absurd (cc)
no-target effects.Jnz h = absurd (cc)
no-target (effects.Opaque kinds.Branch) h = absurd (cc)
no-target e h = refl

shape-lacks : (tests : List (Role → Bool)) (rs : List Role) (r : Role) → is_implicit r ≡ false → list_any (λ (test : Role → Bool). test r) tests ≡ false → has_shape tests rs ≡ true → Member r rs → ⊥
shape-lacks [] rs r n l h m = let e : is_implicit r ≡ true = all-of is_implicit r rs m h in cc
shape-lacks (test ∷ tests) [] r n l h m = member-none r m
shape-lacks (test ∷ tests) (x ∷ rs) r n l h m =
    let z = or_parts (test r) (list_any (λ (q : Role → Bool). q r) tests) l in
    let p : test x ≡ true = first_of_both (test x) (has_shape tests rs) h in
    member-elim r x rs (λ e. let q : test r ≡ test x = ap test e in let w : test r ≡ false = z.0 in cc) (λ k. shape-lacks tests rs r n z.1 (second_of_both (test x) (has_shape tests rs) h) k) m

by-shape : (q : Option (List (Role → Bool))) (rs : List Role) (r : Role) → is_implicit r ≡ false → list_any (λ (test : Role → Bool). test r) (tests_of q) ≡ false → shape_fits q rs ≡ true → Member r rs → ⊥
by-shape None rs r n l h m = cc
by-shape (Some tests) rs r n l h m = shape-lacks tests rs r n l h m

targetless : (rs : List Role) → nat_eq (count_by is_block rs) 0 ≡ true → Member roles.Target rs → ⊥
targetless rs h m = let e : is_block roles.Target ≡ false = none-counted is_block rs roles.Target h m in cc

by-kind : (classes : List ClassDesc) (kind : OpaqueKind) (rs : List Role) (r : Role) → opaque_lacks r kind ≡ true → opaque_fit classes kind rs ≡ true → Member r rs → ⊥
by-kind classes kinds.Plain rs roles.Target l h m = targetless rs (first_of_both _ _ (second_of_both _ _ h)) m
by-kind classes kinds.Branch rs roles.Target l h m = cc
by-kind classes kinds.Call rs roles.Target l h m = targetless rs (second_of_both _ _ (first_of_both _ _ (second_of_both _ _ h))) m
by-kind classes kinds.Return rs roles.Target l h m = targetless rs (second_of_both _ _ (first_of_both _ _ (second_of_both _ _ h))) m
by-kind classes kind rs r l h m = cc

by-effect : (t : Target) (e : Effect) (rs : List Role) (r : Role) → is_implicit r ≡ false → lacks r e ≡ true → roles_fit t.units t.regs t.classes e rs ≡ true → Member r rs → ⊥
by-effect t effects.Copy rs r n l h m = cc
by-effect t effects.Phi rs r n l h m = cc
by-effect t effects.ImplicitDef rs r n l h m = cc
by-effect t effects.RegSequence rs r n l h m = cc
by-effect t effects.InsertSubreg rs r n l h m = cc
by-effect t (effects.Opaque kind) rs r n l h m = by-kind t.classes kind rs r l h m
by-effect t e rs r n l h m = by-shape (explicit_shape e) rs r n (not-true _ l) (first_of_both _ _ (first_of_both _ _ (first_of_both _ _ (first_of_both _ _ (first_of_both _ _ h))))) m

-- the roles of an instruction of the effect
module _ (t : Target) (f : Function) (i : Instr) (e : Effect) (known : effect_of t i ≡ Some e) (rule : V1 t f i ≡ true) (some : has_roles e ≡ true) where
  roles-are : roles_of t i ≡ (met t f i e known rule).0.roles
  roles-are = ap (λ (q : Option OpcodeDesc). elim q [ None ↦ [] | Some d ↦ d.roles ]) (met t f i e known rule).1

  role-lacks : (r : Role) → is_implicit r ≡ false → lacks r e ≡ true → Member r (roles_of t i) → ⊥
  role-lacks r n l m = by-effect t e (met t f i e known rule).0.roles r n l (roles-sound t f i e known rule some) (subst (Member r) roles-are m)

-- blocks that are named

target-in : (n : ℕ) (os : List Operand) → target_of os ≡ Some n → Member (operands.Block n) os
target-in n [] e = absurd (cc)
target-in n (operands.Block k ∷ os) e = subst (λ x. Member (operands.Block n) (operands.Block x ∷ os)) (sym (some-same k n e)) first
target-in n (o ∷ os) e = later (target-in n os e)

-- an explicit operand that is a block takes the role of a target
block-role : (t : Target) (e : Effect) (r : Role) (n : ℕ) → fits_at t e r (operands.Block n) ≡ true → r ≡ roles.Target
block-role t e roles.Target n h = refl
block-role t e (roles.Value None) n h = absurd (let k = second_of_both (is_opaque e) false h in cc)
block-role t e (roles.Value (Some c)) n h = absurd (let k = second_of_both (is_opaque e) false h in cc)
block-role t e r n h = absurd (let k = second_of_both (is_opaque e) false h in cc)

module _ (t : Target) (f : Function) (i : Instr) (e : Effect) (known : effect_of t i ≡ Some e) (rule : V1 t f i ≡ true) where
  -- of instructions with roles only branches name blocks
  pub target-branches : (n : ℕ) → has_roles e ≡ true → target_of i.operands ≡ Some n → is_branch e ≡ true
  target-branches n some g = go (is_branch e) refl
    where
      go : (b : Bool) → is_branch e ≡ b → is_branch e ≡ true
      go true h = h
      go false h =
          let d = (met t f i e known rule).0 in
          let m = filter-in (λ o. not (is_implicit_operand o)) (operands.Block n) i.operands (target-in n i.operands g) refl in
          let z = fit-role t e (explicit_roles d.roles) (explicit_operands i.operands) (operands.Block n) (fit t f i e known rule some).explicit m in
          let r = (filter-of (λ (r : Role). not (is_implicit r)) z.0 d.roles z.1).0 in
          let r' : Member z.0 (roles_of t i) = subst (Member z.0) (sym (roles-are t f i e known rule some)) r in
          absurd (role-lacks t f i e known rule some roles.Target refl (no-target e h) (subst (λ x. Member x (roles_of t i)) (block-role t e z.0 n z.2) r'))

-- the block that an instruction names is among those that it names
pub target-named : (n : ℕ) (i : Instr) → target_of i.operands ≡ Some n → Member n (named_blocks i)
target-named n i e = go i.operands (target-in n i.operands e)
  where
    go : (os : List Operand) → Member (operands.Block n) os → Member n (flat_map block_of os)
    go os m = flat-in block_of n (operands.Block n) os m first

-- the effects of instructions that are lowered

pub counted-roles : (e : Effect) → is_silent e ≡ false → has_roles e ≡ true
counted-roles effects.Copy h = absurd (cc)
counted-roles effects.Phi h = absurd (cc)
counted-roles effects.ImplicitDef h = absurd (cc)
counted-roles effects.RegSequence h = absurd (cc)
counted-roles effects.InsertSubreg h = absurd (cc)
counted-roles e h = refl

pub branch-ends : (e : Effect) → is_branch e ≡ true → is_terminator e ≡ true
branch-ends effects.Jump h = refl
branch-ends effects.Jcc h = refl
branch-ends effects.Jnz h = refl
branch-ends (effects.Opaque kinds.Branch) h = refl
branch-ends e h = absurd (cc)

-- in an open block stands no terminator, since the last instruction is none
module _ (t : Target) where
  all-ends : (is : List Instr) → ((j : ℕ) (i : Instr) → slice_get is j ≡ Some i → does is_terminator t i ≡ true) → ends_without_terminator t is ≡ true → is ≡ []
  all-ends [] h e = refl
  all-ends (i ∷ []) h e = absurd (let k = h 0 i refl in let n : not true ≡ true = ap not (sym k) ∙ e in cc)
  all-ends (i ∷ k ∷ is) h e = absurd (let n = all-ends (k ∷ is) (λ j y g. h (suc j) y g) e in cc)

  shorter : (i : Instr) (is : List Instr) → ends_without_terminator t (i ∷ is) ≡ true → ends_without_terminator t is ≡ true
  shorter i [] e = refl
  shorter i (k ∷ is) e = e

  past-one : (b : Bool) → (b || not true) ≡ true → b ≡ true
  past-one true e = refl
  past-one false e = e

  pub no-terminators : (is : List Instr) → ((j : ℕ) (y : Instr) → slice_get is j ≡ Some y → (does is_terminator t y || not (list_any (does is_terminator t) (take j is))) ≡ true) → ends_without_terminator t is ≡ true → (i : Instr) → Member i is → does is_terminator t i ≡ false
  no-terminators [] h e i m = absurd (member-none i m)
  no-terminators (x ∷ is) h e i m = go (does is_terminator t x) refl (λ more k. no-terminators is more (shorter x is e) i k)
    where
      behind : does is_terminator t x ≡ true → (j : ℕ) (y : Instr) → slice_get (x ∷ is) j ≡ Some y → does is_terminator t y ≡ true
      behind g zero y q = ap (does is_terminator t) (sym (some-instr x y q)) ∙ g
        where
          some-instr : (a b : Instr) → Some a ≡ Some b → a ≡ b
          some-instr a b e = cc
      behind g (suc j) y q = past-one (does is_terminator t y) (subst (λ b. (does is_terminator t y || not (b || list_any (does is_terminator t) (take j is))) ≡ true) g (h (suc j) y q))

      go : (b : Bool) → does is_terminator t x ≡ b → (((j : ℕ) (y : Instr) → slice_get is j ≡ Some y → (does is_terminator t y || not (list_any (does is_terminator t) (take j is))) ≡ true) → Member i is → does is_terminator t i ≡ false) → does is_terminator t i ≡ false
      go true g rest = absurd (let n = all-ends (x ∷ is) (behind g) e in cc)
      go false g rest =
          member-elim i x is (λ q. ap (does is_terminator t) q ∙ g)
          (rest (λ j y q. subst (λ b. (does is_terminator t y || not (b || list_any (does is_terminator t) (take j is))) ≡ true) g (h (suc j) y q))) m
