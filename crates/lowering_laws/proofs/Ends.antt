-- Terminators of a valid source: they write no virtual register, they alone name blocks, and these are successors.
use Rattle.std.proofs.Common.{◌≡◌, ◌⊎◌, inl, inr, ◌∷◌, ◌++◌, ◌∙◌, ◌&&◌, ◌||◌, not, ℕ, zero, suc, Bool, true, false, cond, List, Option, Some, None, filter, length, drop, take, refl, sym, ap, subst, []}
use Rattle.std.specs.Prelude.{count_by, nat_eq, option_to_list, slice_get}
use Rattle.std.specs.List.{list_any}
use Rattle.std.proofs.lemmas.Bool.{and_right, or_parts}
use Rattle.target_base.specs.declared.types.ClassDesc.{ClassDesc}
use Rattle.target_base.specs.declared.types.Effect.{Effect}
use Rattle.target_base.specs.declared.types.Effect.TheVariants as effects
use Rattle.target_base.specs.declared.types.OpaqueKind.{OpaqueKind}
use Rattle.target_base.specs.declared.types.OpaqueKind.TheVariants as kinds
use Rattle.target_base.specs.declared.types.Role.{Role}
use Rattle.target_base.specs.declared.types.Role.TheVariants as roles
use Rattle.target_base.specs.declared.types.Target.{Target}
use Rattle.target_base.specs.Roles.{explicit_shape, has_shape, is_block, is_implicit, opaque_fit, roles_fit, shape_fits}
use Rattle.target_base.specs.Rules.{is_phi}
use Rattle.target_base.proofs.Tests.{first_of_both, second_of_both}
use Rattle.meaning.specs.Code.{Item, Silent}
use Rattle.meaning.specs.Lanes.{Writes, same_lane}
use Rattle.meaning.specs.Live.{Among as Member, here as first, there as later, writes_of}
use Rattle.meaning.specs.declared.types.Lane.{Lane}
use Rattle.meaning.specs.declared.types.Lane.TheVariants.{SlotLane, UnitLane, VirtualLane}
use Rattle.meaning.specs.declared.types.Write.{Write}
use Rattle.mir_func.specs.declared.func.Operand.{Operand}
use Rattle.mir_func.specs.declared.func.Operand.TheVariants as operands
use Rattle.mir_func.specs.declared.func.Instr.{Instr}
use Rattle.mir_func.specs.declared.func.Block.{Block}
use Rattle.mir_func.specs.Value.{Function}
use Rattle.mir_func.specs.Binding.{definitions, does, effect_of, explicit_operands, explicit_roles, is_branch, is_implicit_operand, is_terminator, passes, roles_of}
use Rattle.mir_meaning.specs.Registers.{has_number}
use Rattle.mir_meaning.specs.Items.{all_lanes, computed, counted_writes, defined_lanes, further_writes, implicit_definitions, results, undefined, unreserved}
use Rattle.mir_meaning.specs.Codes.{effect_item, ends_without_terminator, fallen_into, falls_through, first_number, is_open, item_of, target_of}
use Rattle.mir_meaning.specs.Rules.{V1, V8, V9, block_of, branch_targets, copy_fits, fits_at, implicit_def_fits, index_pairs, insertion, is_opaque, is_virtual_use, lists_once, named_blocks, operands_fit, result_and, successors_of}
use Rattle.instr_effects.specs.Acts.{effect_acts, entered_writes}
use Rattle.instr_effects.proofs.Members.{either-elim, filter-in, filter-of, flat-in, flat-of, in-either, left-in, member-elim, member-none, right-in}
use Rattle.live_laws.proofs.Effects.Blocks.{member-slice}
use Rattle.live_laws.proofs.Effects.Lists.{all-of}
use Rattle.live_laws.proofs.Effects.Moved.{undefined-in, undefined-lane}
use Rattle.live_laws.proofs.Effects.Moving.{some-same}
use Rattle.live_laws.proofs.Exact.Quiet.{is_range_lane, writes-units}
use Rattle.live_laws.proofs.Touch.Roles.{fit, fit-role, has_roles, met, none-counted, roles-sound}
use Rattle.lowering_laws.proofs.Ruled.{AllRules}
use Rattle.lowering_laws.proofs.Traced.{is_written}

-- roles of other effects name no block

tests_of : Option (List (Role → Bool)) → List (Role → Bool)
tests_of None = []
tests_of (Some tests) = tests

shape-lacks : (tests : List (Role → Bool)) (rs : List Role) → list_any (λ (test : Role → Bool). test roles.Target) tests ≡ false → has_shape tests rs ≡ true → Member roles.Target rs → ⊥
shape-lacks [] rs l h m = let e : is_implicit roles.Target ≡ true = all-of is_implicit roles.Target rs m h in cc
shape-lacks (test ∷ tests) [] l h m = member-none roles.Target m
shape-lacks (test ∷ tests) (x ∷ rs) l h m =
    let z = or_parts (test roles.Target) (list_any (λ (q : Role → Bool). q roles.Target) tests) l in
    let p : test x ≡ true = first_of_both (test x) (has_shape tests rs) h in
    member-elim roles.Target x rs (λ e. let q : test roles.Target ≡ test x = ap test e in let w : test roles.Target ≡ false = z.0 in cc) (λ k. shape-lacks tests rs z.1 (second_of_both (test x) (has_shape tests rs) h) k) m

by-shape : (q : Option (List (Role → Bool))) (rs : List Role) → list_any (λ (test : Role → Bool). test roles.Target) (tests_of q) ≡ false → shape_fits q rs ≡ true → Member roles.Target rs → ⊥
unfolding tests_of
by-shape None rs l h m = cc
by-shape (Some tests) rs l h m = shape-lacks tests rs l h m

targetless : (rs : List Role) → nat_eq (count_by is_block rs) 0 ≡ true → Member roles.Target rs → ⊥
targetless rs h m = let e : is_block roles.Target ≡ false = none-counted is_block rs roles.Target h m in cc

by-kind : (classes : List ClassDesc) (kind : OpaqueKind) (rs : List Role) → is_branch (effects.Opaque kind) ≡ false → opaque_fit classes kind rs ≡ true → Member roles.Target rs → ⊥
by-kind classes kinds.Plain rs l h m = targetless rs (first_of_both _ _ (second_of_both _ _ h)) m
by-kind classes kinds.Branch rs l h m = cc
by-kind classes kinds.Call rs l h m = targetless rs (second_of_both _ _ (first_of_both _ _ (second_of_both _ _ h))) m
by-kind classes kinds.Return rs l h m = targetless rs (second_of_both _ _ (first_of_both _ _ (second_of_both _ _ h))) m

no-target : (e : Effect) → is_branch e ≡ false → list_any (λ (test : Role → Bool). test roles.Target) (tests_of (explicit_shape e)) ≡ false
unfolding tests_of
no-target effects.Jump h = absurd (cc)
no-target effects.Jcc h = absurd (cc)
no-target effects.Jnz h = absurd (cc)
no-target e h = refl

by-effect : (t : Target) (e : Effect) (rs : List Role) → has_roles e ≡ true → is_branch e ≡ false → roles_fit t.units t.regs t.classes e rs ≡ true → Member roles.Target rs → ⊥
by-effect t effects.Copy rs s l h m = cc
by-effect t effects.Phi rs s l h m = cc
by-effect t effects.ImplicitDef rs s l h m = cc
by-effect t effects.RegSequence rs s l h m = cc
by-effect t effects.InsertSubreg rs s l h m = cc
by-effect t (effects.Opaque kind) rs s l h m = by-kind t.classes kind rs l h m
by-effect t e rs s l h m = by-shape (explicit_shape e) rs (no-target e l) (first_of_both _ _ (first_of_both _ _ (first_of_both _ _ (first_of_both _ _ (first_of_both _ _ h))))) m

-- blocks that are named

target-in : (n : ℕ) (os : List Operand) → target_of os ≡ Some n → Member (operands.Block n) os
target-in n [] e = absurd (cc)
target-in n (operands.Block k ∷ os) e = subst (λ x. Member (operands.Block n) (operands.Block x ∷ os)) (sym (some-same k n e)) first
target-in n (o ∷ os) e = later (target-in n os e)

-- an explicit operand that is a block takes the role of a target
block-role : (t : Target) (e : Effect) (r : Role) (n : ℕ) → fits_at t e r (operands.Block n) ≡ true → r ≡ roles.Target
block-role t e roles.Target n h = refl
block-role t e (roles.Value None) n h = absurd (let k = second_of_both (is_opaque e) false h in cc)
block-role t e (roles.Value (Some c)) n h = absurd (let k = second_of_both (is_opaque e) false h in cc)
block-role t e r n h = absurd (let k = second_of_both (is_opaque e) false h in cc)

copy-target : (os : List Operand) → copy_fits os ≡ true → target_of os ≡ None
copy-target (operands.Reg d ∷ operands.Reg s ∷ []) e = refl
copy-target _ e = absurd (cc)

undef-target : (os : List Operand) → implicit_def_fits os ≡ true → target_of os ≡ None
undef-target (operands.Reg d ∷ []) e = refl
undef-target _ e = absurd (cc)

indexes-target : (os : List Operand) → index_pairs os ≡ true → target_of os ≡ None
indexes-target [] e = refl
indexes-target (operands.Reg s ∷ operands.Index x ∷ os) e = indexes-target os (second_of_both (is_virtual_use s) (index_pairs os) e)
indexes-target os e = absurd (cc)

insertion-target : (os : List Operand) → insertion os ≡ true → target_of os ≡ None
insertion-target (operands.Reg a ∷ operands.Reg b ∷ operands.Index x ∷ []) e = refl
insertion-target _ e = absurd (cc)

result-target : (test : List Operand → Bool) → ((os : List Operand) → test os ≡ true → target_of os ≡ None) → (os : List Operand) → result_and test os ≡ true → target_of os ≡ None
result-target test by (operands.Reg d ∷ os) e = by os (second_of_both _ _ e)
result-target test by os e = absurd (cc)

module _ (t : Target) (f : Function) (i : Instr) (e : Effect) (known : effect_of t i ≡ Some e) (rule : V1 t f i ≡ true) where
  branch-named : has_roles e ≡ true → is_branch e ≡ false → (n : ℕ) → target_of i.operands ≡ Some n → ⊥
  branch-named some h n g =
      let d = (met t f i e known rule).0 in
      let m = filter-in (λ o. not (is_implicit_operand o)) (operands.Block n) i.operands (target-in n i.operands g) refl in
      let z = fit-role t e (explicit_roles d.roles) (explicit_operands i.operands) (operands.Block n) (fit t f i e known rule some).explicit m in
      let r = (filter-of (λ (r : Role). not (is_implicit r)) z.0 d.roles z.1).0 in
      by-effect t e d.roles some h (roles-sound t f i e known rule some) (subst (λ x. Member x d.roles) (block-role t e z.0 n z.2) r)

  none-of-target : (q : Option ℕ) → ((n : ℕ) → q ≡ Some n → ⊥) → q ≡ None
  none-of-target None h = refl
  none-of-target (Some n) h = absurd (h n refl)

  pub names-none : does is_phi t i ≡ false → is_branch e ≡ false → target_of i.operands ≡ None
  names-none plain h = go e refl (met t f i e known rule).3
    where
      go : (x : Effect) → e ≡ x → operands_fit t f (met t f i e known rule).0 i.operands e ≡ true → target_of i.operands ≡ None
      go effects.Copy g w = copy-target i.operands (subst (λ x. operands_fit t f (met t f i e known rule).0 i.operands x ≡ true) g w)
      go effects.ImplicitDef g w = undef-target i.operands (subst (λ x. operands_fit t f (met t f i e known rule).0 i.operands x ≡ true) g w)
      go effects.Phi g w = absurd (let k : does is_phi t i ≡ true = ap (passes is_phi) (known ∙ ap Some g) in cc)
      go effects.RegSequence g w = result-target index_pairs indexes-target i.operands (subst (λ x. operands_fit t f (met t f i e known rule).0 i.operands x ≡ true) g w)
      go effects.InsertSubreg g w = result-target insertion insertion-target i.operands (subst (λ x. operands_fit t f (met t f i e known rule).0 i.operands x ≡ true) g w)
      go x g w = none-of-target (target_of i.operands) (λ n q. branch-named (ap has_roles g) h n q)

  -- a terminator writes no virtual register

  module _ (ends : is_terminator e ≡ true) where
    abbrev defs : Writes
    defs = results t f 0 (definitions (roles_of t i) i.operands)

    abbrev ls : List Lane
    ls = all_lanes t f (implicit_definitions i.operands)

    entered-by : (x : Effect) → is_terminator x ≡ true → effect_acts t f x (roles_of t i) i.operands ≡ defs ++ (undefined false ls ++ [])
    entered-by effects.Jump h = refl
    entered-by effects.Jcc h = refl
    entered-by effects.Jnz h = refl
    entered-by effects.Ret h = refl
    entered-by (effects.Opaque kinds.Branch) h = refl
    entered-by (effects.Opaque kinds.Return) h = refl
    entered-by x h = absurd (cc)

    entered : entered_writes t f i ≡ defs ++ (undefined false ls ++ [])
    unfolding entered_writes
    entered = ap (λ (o : Option Effect). elim o [ None ↦ [] | Some x ↦ effect_acts t f x (roles_of t i) i.operands ]) known ∙ entered-by e ends

    defs-free : (w : Write) → Member w defs → is_range_lane w.lane ≡ false
    defs-free w m = writes-units t f i e known ends rule w (subst (Member w) (sym entered) (left-in w defs (undefined false ls ++ []) m))

    lane-free : (l : Lane) → Member l ls → is_range_lane l ≡ false
    lane-free l m =
        let z = undefined-in false l ls m in
        ap is_range_lane (sym z.2) ∙ writes-units t f i e known ends rule z.0 (subst (Member z.0) (sym entered) (right-in z.0 defs (undefined false ls ++ []) (left-in z.0 (undefined false ls) [] z.1)))

    computed-lane : (n : ℕ) (ks : List Lane) (w : Write) → Member w (computed false n ks) → Member w.lane ks
    computed-lane n [] w m = absurd (member-none w m)
    computed-lane n (k ∷ ks) w m = member-elim w _ (computed false (suc n) ks) (λ q. subst (λ y. Member y (k ∷ ks)) (sym (ap (λ (x : Write). x.lane) q)) first) (λ r. later (computed-lane (suc n) ks w r)) m

    implicit-free : (w : Write) → Member w (undefined false (unreserved t ls)) → is_range_lane w.lane ≡ false
    implicit-free w m = lane-free w.lane (filter-of _ w.lane ls (undefined-lane false w (unreserved t ls) m)).0

    opaque-free : (n : ℕ) (w : Write) → Member w (computed false n ls ++ []) → is_range_lane w.lane ≡ false
    opaque-free n w m = either-elim w (computed false n ls) [] (λ k. lane-free w.lane (computed-lane n ls w k)) (λ k. absurd (member-none w k)) m

    further-free : (x : Effect) → is_terminator x ≡ true → (w : Write) → Member w (further_writes t f x i) → is_range_lane w.lane ≡ false
    further-free effects.Jump h w m = implicit-free w m
    further-free effects.Jcc h w m = implicit-free w m
    further-free effects.Jnz h w m = implicit-free w m
    further-free effects.Ret h w m = implicit-free w m
    further-free (effects.Opaque kinds.Branch) h w m = opaque-free (length (defined_lanes t f (definitions (roles_of t i) i.operands))) w m
    further-free (effects.Opaque kinds.Return) h w m = opaque-free (length (defined_lanes t f (definitions (roles_of t i) i.operands))) w m
    further-free x h w m = absurd (cc)

    counted-free : (w : Write) → Member w (counted_writes t f e i) → is_range_lane w.lane ≡ false
    counted-free w m = either-elim w defs (further_writes t f e i) (defs-free w) (further-free e ends w) m

    none-written : (ws : Writes) → ((w : Write) → Member w ws → is_range_lane w.lane ≡ false) → (v k : ℕ) → is_written ws (VirtualLane v k) ≡ false
    none-written [] h v k = refl
    none-written (w ∷ ws) h v k = λ q. other w.lane (h w first) q || none-written ws (λ y m. h y (later m)) v k q
      where
        other : (l : Lane) → is_range_lane l ≡ false → same_lane l (VirtualLane v k) ≡ false
        other (VirtualLane a b) e = absurd (cc)
        other (UnitLane u) e = refl
        other (SlotLane s a b) e = refl

    ends-writes : (x : Effect) (b : Block) → is_terminator x ≡ true → writes_of (effect_item t f b i x) ≡ counted_writes t f x i
    ends-writes effects.Jump b h = refl
    ends-writes effects.Jcc b h = refl
    ends-writes effects.Jnz b h = refl
    ends-writes effects.Ret b h = refl
    ends-writes (effects.Opaque kinds.Branch) b h = refl
    ends-writes (effects.Opaque kinds.Return) b h = refl
    ends-writes x b h = absurd (cc)

    pub ends-free : (b : Block) (v k : ℕ) → is_written (writes_of (item_of t f b i)) (VirtualLane v k) ≡ false
    unfolding item_of
    ends-free b v k =
        ap (λ (o : Option Effect). is_written (writes_of (elim o as (λ o. Item) [ None ↦ Silent [] [] | Some x ↦ effect_item t f b i x ])) (VirtualLane v k)) known
        ∙ (ap (λ ws. is_written ws (VirtualLane v k)) (ends-writes e b ends) ∙ none-written (counted_writes t f e i) counted-free v k)

-- what a block names and falls into is among its successors

branch-ends : (e : Effect) → is_branch e ≡ true → is_terminator e ≡ true
branch-ends effects.Jump h = refl
branch-ends effects.Jcc h = refl
branch-ends effects.Jnz h = refl
branch-ends (effects.Opaque kinds.Branch) h = refl
branch-ends e h = absurd (cc)

none-of : {X : Type 0} (p : X → Bool) (xs : List X) → ((x : X) → Member x xs → p x ≡ false) → list_any p xs ≡ false
none-of p [] g = refl
none-of p (x ∷ xs) g = λ k. g x first k || none-of p xs (λ y m. g y (later m)) k

module _ (t : Target) where
  all-ends : (is : List Instr) → ((j : ℕ) (i : Instr) → slice_get is j ≡ Some i → does is_terminator t i ≡ true) → ends_without_terminator t is ≡ true → is ≡ []
  all-ends [] h e = refl
  all-ends (i ∷ []) h e = absurd (let k = h 0 i refl in let n : not true ≡ true = ap not (sym k) ∙ e in cc)
  all-ends (i ∷ k ∷ is) h e = absurd (let n = all-ends (k ∷ is) (λ j y g. h (suc j) y g) e in cc)

  shorter : (i : Instr) (is : List Instr) → ends_without_terminator t (i ∷ is) ≡ true → ends_without_terminator t is ≡ true
  shorter i [] e = refl
  shorter i (k ∷ is) e = e

  past-one : (b : Bool) → (b || not true) ≡ true → b ≡ true
  past-one true e = refl
  past-one false e = e

  no-terminators : (is : List Instr) → ((j : ℕ) (y : Instr) → slice_get is j ≡ Some y → (does is_terminator t y || not (list_any (does is_terminator t) (take j is))) ≡ true) → ends_without_terminator t is ≡ true → (i : Instr) → Member i is → does is_terminator t i ≡ false
  no-terminators [] h e i m = absurd (member-none i m)
  no-terminators (x ∷ is) h e i m = go (does is_terminator t x) refl (λ more k. no-terminators is more (shorter x is e) i k)
    where
      behind : does is_terminator t x ≡ true → (j : ℕ) (y : Instr) → slice_get (x ∷ is) j ≡ Some y → does is_terminator t y ≡ true
      behind g zero y q = ap (does is_terminator t) (sym (some-same x y q)) ∙ g
      behind g (suc j) y q = past-one (does is_terminator t y) (subst (λ b. (does is_terminator t y || not (b || list_any (does is_terminator t) (take j is))) ≡ true) g (h (suc j) y q))

      go : (b : Bool) → does is_terminator t x ≡ b → (((j : ℕ) (y : Instr) → slice_get is j ≡ Some y → (does is_terminator t y || not (list_any (does is_terminator t) (take j is))) ≡ true) → Member i is → does is_terminator t i ≡ false) → does is_terminator t i ≡ false
      go true g rest = absurd (let n = all-ends (x ∷ is) (behind g) e in cc)
      go false g rest =
          member-elim i x is (λ q. ap (does is_terminator t) q ∙ g)
          (rest (λ j y q. subst (λ b. (does is_terminator t y || not (b || list_any (does is_terminator t) (take j is))) ≡ true) g (h (suc j) y q))) m

module _ (t : Target) (f : Function) (k : ℕ) (b : Block) (after : List Block) (behind : drop (suc k) f.blocks ≡ after) (rules : AllRules t f k b) where
  rule-one : (i : Instr) → Member i b.instrs → V1 t f i ≡ true
  rule-one i m = let j = member-slice i b.instrs m in (rules.instrs j.0 i j.1).own.one

  wrong : list_any (λ i. does is_branch t i && not (V1 t f i)) b.instrs ≡ false
  wrong = none-of (λ i. does is_branch t i && not (V1 t f i)) b.instrs (λ i m. and_right (does is_branch t i) (not (V1 t f i)) (ap not (rule-one i m)))

  follow : (is_open t b || lists_once (successors_of b) (branch_targets t b.instrs ++ option_to_list (fallen_into t b after))) ≡ true
  unfolding V9
  follow =
      sym (λ q. wrong q || is_open t b || lists_once (successors_of b) (branch_targets t b.instrs ++ option_to_list (fallen_into t b (behind q))))
      ∙ rules.block.nine

  open-ends : is_open t b ≡ true → (i : Instr) → Member i b.instrs → does is_terminator t i ≡ false
  unfolding V8
  open-ends e = no-terminators t b.instrs (λ j i g. (rules.instrs j i g).eight) (second_of_both _ _ e)

  open-targets : is_open t b ≡ true → (n : ℕ) → Member n (branch_targets t b.instrs) → ⊥
  open-targets e n m =
      let z = flat-of named_blocks n (filter (does is_branch t) b.instrs) m in
      let y = filter-of (does is_branch t) z.0 b.instrs z.1 in
      let k = open-ends e z.0 y.0 in
      let h = ends-too (effect_of t z.0) y.1 in
      cc
    where
      ends-too : (q : Option Effect) → passes is_branch q ≡ true → passes is_terminator q ≡ true
      ends-too None h = absurd (cc)
      ends-too (Some x) h = branch-ends x h

  open-falls : is_open t b ≡ true → fallen_into t b after ≡ None
  open-falls e = ap (λ c. cond (falls_through t b.instrs && not c) (first_number after) None) e ∙ out (falls_through t b.instrs)
    where
      out : (c : Bool) → cond (c && false) (first_number after) None ≡ None
      out true = refl
      out false = refl

  no-way : is_open t b ≡ true → (n : ℕ) → Member n (branch_targets t b.instrs ++ option_to_list (fallen_into t b after)) → ⊥
  no-way e n m = go (in-either n (branch_targets t b.instrs) (option_to_list (fallen_into t b after)) m)
    where
      go : Member n (branch_targets t b.instrs) ⊎ Member n (option_to_list (fallen_into t b after)) → ⊥
      go (inl k) = open-targets e n k
      go (inr k) = member-none n (subst (λ o. Member n (option_to_list o)) (open-falls e) k)

  followed : (n : ℕ) → Member n (branch_targets t b.instrs ++ option_to_list (fallen_into t b after)) → has_number (successors_of b) n ≡ true
  followed n m = go (is_open t b) refl follow
    where
      go : (c : Bool) → is_open t b ≡ c → (c || lists_once (successors_of b) (branch_targets t b.instrs ++ option_to_list (fallen_into t b after))) ≡ true → has_number (successors_of b) n ≡ true
      go true e h = absurd (no-way e n m)
      go false e h = all-of (has_number (successors_of b)) n _ m (second_of_both _ _ h)

  pub falls-followed : (n : ℕ) → fallen_into t b after ≡ Some n → has_number (successors_of b) n ≡ true
  falls-followed n e = followed n (right-in n (branch_targets t b.instrs) (option_to_list (fallen_into t b after)) (subst (λ o. Member n (option_to_list o)) (sym e) first))

  pub target-followed : (i : Instr) (e : Effect) → effect_of t i ≡ Some e → Member i b.instrs → does is_phi t i ≡ false → (n : ℕ) → target_of i.operands ≡ Some n → has_number (successors_of b) n ≡ true
  target-followed i e known m plain n g = go (is_branch e) refl
    where
      go : (c : Bool) → is_branch e ≡ c → has_number (successors_of b) n ≡ true
      go false h = absurd (let z : target_of i.operands ≡ None = names-none t f i e known (rule-one i m) plain h in cc)
      go true h =
          let does-branch : does is_branch t i ≡ true = ap (passes is_branch) known ∙ h in
          let named = flat-in named_blocks n i (filter (does is_branch t) b.instrs) (filter-in (does is_branch t) i b.instrs m does-branch) (flat-in block_of n (operands.Block n) i.operands (target-in n i.operands g) first) in
          followed n (left-in n (branch_targets t b.instrs) (option_to_list (fallen_into t b after)) named)

-- only a branch isn't passed by
pub no-branch : (t : Target) (i : Instr) (e : Effect) → effect_of t i ≡ Some e → does is_terminator t i ≡ false → is_branch e ≡ false
no-branch t i e known h = go (is_branch e) refl
  where
    go : (c : Bool) → is_branch e ≡ c → is_branch e ≡ false
    go false g = g
    go true g = absurd (let z : does is_terminator t i ≡ true = ap (passes is_terminator) known ∙ branch-ends e g in cc)
