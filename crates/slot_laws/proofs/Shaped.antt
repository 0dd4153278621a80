-- Which operands name frame objects and blocks, by the roles of their opcodes.
use Rattle.std.proofs.Common.{◌≡◌, ℕ, Bool, true, false, cond, not, List, [], ◌∷◌, Option, Some, None, map, refl, sym, ap, subst}
use Rattle.std.specs.Prelude.{count_by, flat_map, nat_eq}
use Rattle.std.specs.Bool.{beq}
use Rattle.std.specs.List.{list_any}
use Rattle.std.proofs.lemmas.Bool.{or_parts, not-true}
use Rattle.target_base.specs.declared.types.Effect.{Effect}
use Rattle.target_base.specs.declared.types.Effect.TheVariants as effects
use Rattle.target_base.specs.declared.types.ClassDesc.{ClassDesc}
use Rattle.target_base.specs.declared.types.OpaqueKind.{OpaqueKind}
use Rattle.target_base.specs.declared.types.OpaqueKind.TheVariants as kinds
use Rattle.target_base.specs.declared.types.OpcodeDesc.{OpcodeDesc}
use Rattle.target_base.specs.declared.types.Role.{Role}
use Rattle.target_base.specs.declared.types.Role.TheVariants as roles
use Rattle.target_base.specs.declared.types.Target.{Target}
use Rattle.target_base.specs.Roles.{are_in_order, behind, behind_many, explicit_shape, has_shape, is_block, is_definition as is_definition_role, is_implicit, is_operand, is_slot, opaque_fit, roles_fit, shape_fits}
use Rattle.target_base.proofs.Tests.{first_of_both, second_of_both}
use Rattle.meaning.specs.Live.{Among as Member, here as first, there as later}
use Rattle.mir_func.specs.declared.func.Operand.{Operand}
use Rattle.mir_func.specs.declared.func.Operand.TheVariants as operands
use Rattle.mir_func.specs.declared.func.Instr.{Instr}
use Rattle.mir_func.specs.Value.{Function}
use Rattle.mir_func.specs.Binding.{Bound, effect_of, passes, bound, explicit_bound, explicit_operands, explicit_roles, implicit_bound, implicit_roles, implicit_registers, is_implicit_operand, is_branch, is_lowered_away, roles_of, takes_many}
use Rattle.mir_meaning.specs.declared.Form.TheVariants as forms
use Rattle.mir_meaning.specs.Codes.{target_of}
use Rattle.mir_meaning.specs.Rules.{V1, V15, fits_at, is_opaque, is_spill_slot, slot_fits, spills_or_reloads, copy_fits, implicit_def_fits, operands_fit, block_of, named_blocks}
use Rattle.instr_effects.proofs.Members.{member-none, member-elim, left-in, filter-in, filter-of, flat-in}
use Rattle.live_laws.proofs.Effects.Lists.{all-of}
use Rattle.live_laws.proofs.Effects.Moving.{some-same}
use Rattle.live_laws.proofs.Touch.Roles.{fit, fit-role, has_roles, met, none-counted, roles-sound}
use Rattle.slot_laws.specs.Homes.{slot_moved}

-- roles that an effect lacks

abbrev pub tests_of : Option (List (Role → Bool)) → List (Role → Bool)
tests_of None = []
tests_of (Some tests) = tests

-- no opaque opcode of the kind has the role: none has a slot, and only branches have a target
abbrev opaque_lacks : Role → OpaqueKind → Bool
opaque_lacks roles.Slot kind = true
opaque_lacks roles.Target kinds.Branch = false
opaque_lacks roles.Target kind = true
opaque_lacks r kind = false

-- the effect's explicit roles pass the role nowhere
abbrev pub lacks : Role → Effect → Bool
lacks r (effects.Opaque kind) = opaque_lacks r kind
lacks r e = not (list_any (λ (test : Role → Bool). test r) (tests_of (explicit_shape e)))

-- only stores to slots and reloads have slots, and only branches name blocks
pub no-slot : (e : Effect) → spills_or_reloads e ≡ false → lacks roles.Slot e ≡ true
no-slot effects.Spill h = absurd (cc)
no-slot effects.Reload h = absurd (cc)
no-slot (effects.Opaque kind) h = refl
no-slot e h = refl

pub no-target : (e : Effect) → is_branch e ≡ false → lacks roles.Target e ≡ true
no-target effects.Jump h = absurd (cc)
no-target effects.Jcc h = absurd (cc)
no-target effects.Jnz h = absurd (cc)
no-target (effects.Opaque kinds.Branch) h = absurd (cc)
no-target e h = refl

shape-lacks : (tests : List (Role → Bool)) (rs : List Role) (r : Role) → is_implicit r ≡ false → list_any (λ (test : Role → Bool). test r) tests ≡ false → has_shape tests rs ≡ true → Member r rs → ⊥
shape-lacks [] rs r n l h m = let e : is_implicit r ≡ true = all-of is_implicit r rs m h in cc
shape-lacks (test ∷ tests) [] r n l h m = member-none r m
shape-lacks (test ∷ tests) (x ∷ rs) r n l h m =
    let z = or_parts (test r) (list_any (λ (q : Role → Bool). q r) tests) l in
    let p : test x ≡ true = first_of_both (test x) (has_shape tests rs) h in
    member-elim r x rs (λ e. let q : test r ≡ test x = ap test e in let w : test r ≡ false = z.0 in cc) (λ k. shape-lacks tests rs r n z.1 (second_of_both (test x) (has_shape tests rs) h) k) m

by-shape : (q : Option (List (Role → Bool))) (rs : List Role) (r : Role) → is_implicit r ≡ false → list_any (λ (test : Role → Bool). test r) (tests_of q) ≡ false → shape_fits q rs ≡ true → Member r rs → ⊥
by-shape None rs r n l h m = cc
by-shape (Some tests) rs r n l h m = shape-lacks tests rs r n l h m

-- a role that passes no test stands behind those at the beginning that pass it
behind-stays : (test : Role → Bool) (r : Role) (rs : List Role) → test r ≡ false → Member r rs → Member r (behind test rs)
behind-stays test r [] e m = m
behind-stays test r (x ∷ rs) e m = go (test x) refl (λ k. behind-stays test r rs e k)
  where
    go : (b : Bool) → test x ≡ b → (Member r rs → Member r (behind test rs)) → Member r (cond b (behind test rs) (x ∷ rs))
    go true h stays = member-elim r x rs (λ g. absurd (let k : test r ≡ test x = ap test g in cc)) stays m
    go false h stays = m

many-stays : (rs : List Role) → Member roles.Slot rs → Member roles.Slot (behind_many rs)
many-stays (roles.Any ∷ rs) m = member-elim roles.Slot roles.Any rs (λ e. absurd (cc)) (λ k. k) m
many-stays (roles.Rest ∷ rs) m = member-elim roles.Slot roles.Rest rs (λ e. absurd (cc)) (λ k. k) m
many-stays rs m = m

slotless : (rs : List Role) → are_in_order rs ≡ true → Member roles.Slot rs → ⊥
slotless rs h m =
    let definitions = behind-stays is_definition_role roles.Slot rs refl m in
    let operands = behind-stays is_operand roles.Slot (behind is_definition_role rs) refl definitions in
    let left = many-stays (behind is_operand (behind is_definition_role rs)) operands in
    let e : is_implicit roles.Slot ≡ true = all-of is_implicit roles.Slot (behind_many (behind is_operand (behind is_definition_role rs))) left h in
    cc

targetless : (rs : List Role) → nat_eq (count_by is_block rs) 0 ≡ true → Member roles.Target rs → ⊥
targetless rs h m = let e : is_block roles.Target ≡ false = none-counted is_block rs roles.Target h m in cc

by-kind : (classes : List ClassDesc) (kind : OpaqueKind) (rs : List Role) (r : Role) → opaque_lacks r kind ≡ true → opaque_fit classes kind rs ≡ true → Member r rs → ⊥
by-kind classes kind rs roles.Slot l h m = slotless rs (first_of_both _ _ (first_of_both _ _ (first_of_both _ _ h))) m
by-kind classes kinds.Plain rs roles.Target l h m = targetless rs (first_of_both _ _ (second_of_both _ _ h)) m
by-kind classes kinds.Branch rs roles.Target l h m = cc
by-kind classes kinds.Call rs roles.Target l h m = targetless rs (second_of_both _ _ (first_of_both _ _ (second_of_both _ _ h))) m
by-kind classes kinds.Return rs roles.Target l h m = targetless rs (second_of_both _ _ (first_of_both _ _ (second_of_both _ _ h))) m
by-kind classes kind rs r l h m = cc

by-effect : (t : Target) (e : Effect) (rs : List Role) (r : Role) → is_implicit r ≡ false → lacks r e ≡ true → roles_fit t.units t.regs t.classes e rs ≡ true → Member r rs → ⊥
by-effect t effects.Copy rs r n l h m = cc
by-effect t effects.Phi rs r n l h m = cc
by-effect t effects.ImplicitDef rs r n l h m = cc
by-effect t effects.RegSequence rs r n l h m = cc
by-effect t effects.InsertSubreg rs r n l h m = cc
by-effect t (effects.Opaque kind) rs r n l h m = by-kind t.classes kind rs r l h m
by-effect t e rs r n l h m = by-shape (explicit_shape e) rs r n (not-true _ l) (first_of_both _ _ (first_of_both _ _ (first_of_both _ _ (first_of_both _ _ (first_of_both _ _ h))))) m

-- the roles of an instruction of the effect
module _ (t : Target) (f : Function) (i : Instr) (e : Effect) (known : effect_of t i ≡ Some e) (rule : V1 t f i ≡ true) (some : has_roles e ≡ true) where
  roles-are : roles_of t i ≡ (met t f i e known rule).0.roles
  roles-are = ap (λ (q : Option OpcodeDesc). elim q [ None ↦ [] | Some d ↦ d.roles ]) (met t f i e known rule).1

  pub role-lacks : (r : Role) → is_implicit r ≡ false → lacks r e ≡ true → Member r (roles_of t i) → ⊥
  role-lacks r n l m = by-effect t e (met t f i e known rule).0.roles r n l (roles-sound t f i e known rule some) (subst (Member r) roles-are m)

-- operands with their roles

abbrev as_bound : Option Role → Operand → Bound
as_bound r o = (r, o)

-- an explicit operand has a role of these, or none
pub bound-in : (rs : List Role) (os : List Operand) (o : Operand) → Member o os → (r : Option Role) × Member (as_bound r o) (explicit_bound rs os) × ((q : Role) → r ≡ Some q → Member q rs)
bound-in rs [] o m = absurd (member-none o m)
bound-in [] (x ∷ os) o m =
    member-elim o x os
    (λ e. (None, subst (λ y. Member (as_bound None o) (as_bound None y ∷ explicit_bound [] os)) e first, (λ q g. absurd (cc))))
    (λ k. let z = bound-in [] os o k in (z.0, later z.1, z.2))
    m
bound-in (r ∷ rs) (x ∷ os) o m =
    member-elim o x os
    (λ e. (Some r, subst (λ y. Member (as_bound (Some r) o) (as_bound (Some r) y ∷ explicit_bound (cond (takes_many r) (r ∷ rs) rs) os)) e first, (λ q g. subst (λ z. Member z (r ∷ rs)) (some-same r q g) first)))
    (λ k. let z = bound-in (cond (takes_many r) (r ∷ rs) rs) os o k in (z.0, later z.1, (λ q g. within (takes_many r) q (z.2 q g))))
    m
  where
    within : (b : Bool) (q : Role) → Member q (cond b (r ∷ rs) rs) → Member q (r ∷ rs)
    within true q k = k
    within false q k = later k

slot-is : (r : Role) → is_slot r ≡ true → r ≡ roles.Slot
slot-is roles.Slot e = refl
slot-is r e = absurd (cc)

-- a frame object beside a role that isn't a slot's isn't a spill slot
alone : (b c : Bool) → beq b c ≡ true → b ≡ false → c ≡ false
alone true c e g = absurd (cc)
alone false true e g = absurd (cc)
alone false false e g = refl

module _ (t : Target) (f : Function) (i : Instr) (e : Effect) (known : effect_of t i ≡ Some e) (rule : V1 t f i ≡ true) (slots : V15 t forms.Allocated f i ≡ true) (other : spills_or_reloads e ≡ false) where
  no-slot-role : (r : Option Role) → has_roles e ≡ true → ((q : Role) → r ≡ Some q → Member q (explicit_roles (roles_of t i))) → passes is_slot r ≡ false
  no-slot-role None some g = refl
  no-slot-role (Some q) some g = go (is_slot q) refl
    where
      go : (b : Bool) → is_slot q ≡ b → is_slot q ≡ false
      go false h = h
      go true h =
          let m = (filter-of (λ (r : Role). not (is_implicit r)) q (roles_of t i) (g q refl)).0 in
          absurd (role-lacks t f i e known rule some roles.Slot refl (no-slot e other) (subst (λ r. Member r (roles_of t i)) (slot-is q h) m))

  unspilled : (n : ℕ) → has_roles e ≡ true → Member (operands.Stack n) i.operands → is_spill_slot f n ≡ false
  unfolding V15
  unspilled n some m =
      let os = explicit_operands i.operands in
      let rs = explicit_roles (roles_of t i) in
      let z = bound-in rs os (operands.Stack n) (filter-in (λ o. not (is_implicit_operand o)) (operands.Stack n) i.operands m refl) in
      let there : Member (as_bound z.0 (operands.Stack n)) (bound t i) = left-in (as_bound z.0 (operands.Stack n)) (explicit_bound rs os) (map (implicit_bound (implicit_roles (roles_of t i))) (implicit_registers i.operands)) z.1 in
      alone (passes is_slot z.0) (is_spill_slot f n) (all-of (slot_fits f) (as_bound z.0 (operands.Stack n)) (bound t i) there slots) (no-slot-role z.0 some z.2)

-- operands that stay

module _ (home : ℕ → ℕ) where
  operands-stay : (os : List Operand) → ((n : ℕ) → Member (operands.Stack n) os → home n ≡ n) → map (slot_moved home) os ≡ os
  operands-stay [] g = refl
  operands-stay (operands.Stack n ∷ os) g = λ k. operands.Stack (g n first k) ∷ operands-stay os (λ j m. g j (later m)) k
  operands-stay (o ∷ os) g = ap (λ ys. o ∷ ys) (operands-stay os (λ j m. g j (later m)))

  copy-stays : (os : List Operand) → copy_fits os ≡ true → map (slot_moved home) os ≡ os
  copy-stays (operands.Reg d ∷ operands.Reg s ∷ []) e = refl
  copy-stays _ e = absurd (cc)

  undef-stays : (os : List Operand) → implicit_def_fits os ≡ true → map (slot_moved home) os ≡ os
  undef-stays (operands.Reg d ∷ []) e = refl
  undef-stays _ e = absurd (cc)

  module _ (t : Target) (f : Function) (i : Instr) (e : Effect) (known : effect_of t i ≡ Some e) (rule : V1 t f i ≡ true) (slots : V15 t forms.Allocated f i ≡ true) (other : spills_or_reloads e ≡ false) (lowered : is_lowered_away e ≡ false) (stays : (n : ℕ) → is_spill_slot f n ≡ false → home n ≡ n) where
    -- all operands of an instruction but a store to a slot or a reload stay
    pub instr-stays : map (slot_moved home) i.operands ≡ i.operands
    instr-stays = go e refl
      where
        some : has_roles e ≡ true → map (slot_moved home) i.operands ≡ i.operands
        some s = operands-stay i.operands (λ n m. stays n (unspilled t f i e known rule slots other n s m))

        go : (x : Effect) → e ≡ x → map (slot_moved home) i.operands ≡ i.operands
        go effects.Copy g = copy-stays i.operands (subst (λ x. operands_fit t f (met t f i e known rule).0 i.operands x ≡ true) g (met t f i e known rule).3)
        go effects.ImplicitDef g = undef-stays i.operands (subst (λ x. operands_fit t f (met t f i e known rule).0 i.operands x ≡ true) g (met t f i e known rule).3)
        go effects.Phi g = absurd (let h : is_lowered_away e ≡ true = ap is_lowered_away g in cc)
        go effects.RegSequence g = absurd (let h : is_lowered_away e ≡ true = ap is_lowered_away g in cc)
        go effects.InsertSubreg g = absurd (let h : is_lowered_away e ≡ true = ap is_lowered_away g in cc)
        go x g = some (ap has_roles g)

-- blocks that are named

target-in : (n : ℕ) (os : List Operand) → target_of os ≡ Some n → Member (operands.Block n) os
target-in n [] e = absurd (cc)
target-in n (operands.Block k ∷ os) e = subst (λ x. Member (operands.Block n) (operands.Block x ∷ os)) (sym (some-same k n e)) first
target-in n (o ∷ os) e = later (target-in n os e)

-- an explicit operand that is a block takes the role of a target
block-role : (t : Target) (e : Effect) (r : Role) (n : ℕ) → fits_at t e r (operands.Block n) ≡ true → r ≡ roles.Target
block-role t e roles.Target n h = refl
block-role t e (roles.Value None) n h = absurd (let k = second_of_both (is_opaque e) false h in cc)
block-role t e (roles.Value (Some c)) n h = absurd (let k = second_of_both (is_opaque e) false h in cc)
block-role t e r n h = absurd (let k = second_of_both (is_opaque e) false h in cc)

copy-target : (os : List Operand) → copy_fits os ≡ true → target_of os ≡ None
copy-target (operands.Reg d ∷ operands.Reg s ∷ []) e = refl
copy-target _ e = absurd (cc)

undef-target : (os : List Operand) → implicit_def_fits os ≡ true → target_of os ≡ None
undef-target (operands.Reg d ∷ []) e = refl
undef-target _ e = absurd (cc)

module _ (t : Target) (f : Function) (i : Instr) (e : Effect) (known : effect_of t i ≡ Some e) (rule : V1 t f i ≡ true) where
  -- of instructions with roles only branches name blocks
  pub target-branches : (n : ℕ) → has_roles e ≡ true → target_of i.operands ≡ Some n → is_branch e ≡ true
  target-branches n some g = go (is_branch e) refl
    where
      go : (b : Bool) → is_branch e ≡ b → is_branch e ≡ true
      go true h = h
      go false h =
          let d = (met t f i e known rule).0 in
          let m = filter-in (λ o. not (is_implicit_operand o)) (operands.Block n) i.operands (target-in n i.operands g) refl in
          let z = fit-role t e (explicit_roles d.roles) (explicit_operands i.operands) (operands.Block n) (fit t f i e known rule some).explicit m in
          let r = (filter-of (λ (r : Role). not (is_implicit r)) z.0 d.roles z.1).0 in
          let r' : Member z.0 (roles_of t i) = subst (Member z.0) (sym (roles-are t f i e known rule some)) r in
          absurd (role-lacks t f i e known rule some roles.Target refl (no-target e h) (subst (λ x. Member x (roles_of t i)) (block-role t e z.0 n z.2) r'))

-- the block that an instruction names is among those that it names
pub target-named : (n : ℕ) (i : Instr) → target_of i.operands ≡ Some n → Member n (named_blocks i)
target-named n i e = go i.operands (target-in n i.operands e)
  where
    go : (os : List Operand) → Member (operands.Block n) os → Member n (flat_map block_of os)
    go os m = flat-in block_of n (operands.Block n) os m first
