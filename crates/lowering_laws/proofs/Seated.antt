-- Operands with their roles, and the one pair that an instruction ties.
use Rattle.std.proofs.Common.{◌≡◌, ◌∷◌, ◌∙◌, ◌&&◌, ◌||◌, not, ℕ, Bool, true, false, cond, List, Option, Some, None, map, refl, sym, ap, subst, eqb-true, []}
use Rattle.std.specs.Prelude.{filter_map, nat_eq, option_and_then, option_map, slice_get, ◌==◌}
use Rattle.std.specs.List.{cons_option, list_all}
use Rattle.target_base.specs.declared.types.Effect.{Effect}
use Rattle.target_base.specs.declared.types.Effect.TheVariants as effects
use Rattle.target_base.specs.declared.types.OpcodeDesc.{OpcodeDesc}
use Rattle.target_base.specs.declared.types.Role.{Role}
use Rattle.target_base.specs.declared.types.Role.TheVariants as roles
use Rattle.target_base.specs.declared.types.Target.{Target}
use Rattle.target_base.specs.Roles.{is_tied}
use Rattle.target_base.specs.Storage.{same_numbers}
use Rattle.target_base.proofs.Tests.{first_of_both, second_of_both}
use Rattle.meaning.specs.Live.{Among, here, there}
use Rattle.mir_func.specs.declared.func.RegOp.{RegOp}
use Rattle.mir_func.specs.declared.func.Operand.{Operand}
use Rattle.mir_func.specs.declared.func.Operand.TheVariants as operands
use Rattle.mir_func.specs.declared.func.Instr.{Instr}
use Rattle.mir_func.specs.Value.{Function}
use Rattle.mir_func.specs.Binding.{TiedPair, as_register, bound, effect_of, explicit_bound, explicit_operands, explicit_roles, implicit_bound, implicit_registers, implicit_roles, is_implicit_operand, is_use, passes, paired_with, register_at, registers, roles_of, takes_many, tied_number, tied_pair, tied_pairs, ties_to}
use Rattle.mir_meaning.specs.Rules.{V1, V11, explicit_fit, fits_at, implicit_last, is_opaque, operands_fit, tie_fits}
use Rattle.mir_meaning.specs.declared.Form.TheVariants as source_form
use Rattle.two_address.specs.Classes.{seated}
use Rattle.instr_effects.proofs.Members.{left-in, member-elim, member-none}
use Rattle.live_laws.proofs.Effects.Blocks.{slice-member}
use Rattle.live_laws.proofs.Effects.Lists.{all-of}
use Rattle.live_laws.proofs.Touch.Roles.{has_roles, met}

pub same-numbers : (ms ns : List ℕ) → same_numbers ms ns ≡ true → ms ≡ ns
same-numbers [] [] e = refl
same-numbers [] (n ∷ ns) e = absurd (cc)
same-numbers (m ∷ ms) [] e = absurd (cc)
same-numbers (m ∷ ms) (n ∷ ns) e = λ k. eqb-true m n (first_of_both (m == n) (same_numbers ms ns) e) k ∷ same-numbers ms ns (second_of_both (m == n) (same_numbers ms ns) e) k

some-one : {X : Type 0} (x y : X) → Some x ≡ Some y → x ≡ y
some-one x y e = cc

-- members of what is told of some

pub told-of : {X Y : Type 0} (g : X → Option Y) (y : Y) (xs : List X) → Among y (filter_map g xs) → (x : X) × Among x xs × (g x ≡ Some y)
told-of g y [] m = absurd (member-none y m)
told-of {X} {Y} g y (x ∷ xs) m = go (g x) refl m (told-of g y xs)
  where
    go : (q : Option Y) → g x ≡ q → Among y (cons_option q (filter_map g xs)) → (Among y (filter_map g xs) → (z : X) × Among z xs × (g z ≡ Some y)) → (z : X) × Among z (x ∷ xs) × (g z ≡ Some y)
    go None e k ih = let z = ih k in (z.0, there z.1, z.2)
    go (Some w) e k ih = member-elim y w (filter_map g xs) (λ q. (x, here, e ∙ ap Some (sym q))) (λ j. let z = ih j in (z.0, there z.1, z.2)) k

pub told-in : {X Y : Type 0} (g : X → Option Y) (y : Y) (x : X) (xs : List X) → Among x xs → g x ≡ Some y → Among y (filter_map g xs)
told-in g y x [] m e = absurd (member-none x m)
told-in {X} {Y} g y x (z ∷ xs) m e = member-elim x z xs (λ q. subst (λ w. Among y (cons_option w (filter_map g xs))) (sym (ap g (sym q) ∙ e)) here) (λ k. go (g z) (told-in g y x xs k e)) m
  where
    go : (q : Option Y) → Among y (filter_map g xs) → Among y (cons_option q (filter_map g xs))
    go None k = k
    go (Some w) k = there k

pub register-in : (o : RegOp) (os : List Operand) → Among (operands.Reg o) os → Among o (registers os)
register-in o os m = told-in as_register o (operands.Reg o) os m refl

pub register-of : (x : Operand) (o : RegOp) → as_register x ≡ Some o → x ≡ operands.Reg o
register-of (operands.Reg p) o e = ap operands.Reg (some-one p o e)
register-of x o e = absurd (cc)

pub register-there : (os : List Operand) (n : ℕ) (d : RegOp) → register_at os n ≡ Some d → Among (operands.Reg d) os
register-there os n d e = go (slice_get os n) refl e
  where
    go : (q : Option Operand) → slice_get os n ≡ q → option_and_then as_register q ≡ Some d → Among (operands.Reg d) os
    go None g h = absurd (cc)
    go (Some x) g h = subst (λ y. Among y os) (register-of x d h) (slice-member os n x g)

-- an operand that takes a role is among the operands, and the role among the roles

pub bound-operand : (rs : List Role) (os : List Operand) (r : Option Role) (o : Operand) → Among (r, o) (explicit_bound rs os) → Among o os
bound-operand rs [] r o m = absurd (member-none (r, o) m)
bound-operand [] (x ∷ os) r o m = member-elim (r, o) (None, x) (explicit_bound [] os) (λ q. subst (λ y. Among y (x ∷ os)) (sym (ap (λ b. b.1) q)) here) (λ k. there (bound-operand [] os r o k)) m
bound-operand (s ∷ rs) (x ∷ os) r o m =
    let rest = cond (takes_many s) (s ∷ rs) rs in
    member-elim (r, o) (Some s, x) (explicit_bound rest os) (λ q. subst (λ y. Among y (x ∷ os)) (sym (ap (λ b. b.1) q)) here) (λ k. there (bound-operand rest os r o k)) m

pub bound-role : (rs : List Role) (os : List Operand) (r : Role) (o : Operand) → Among (Some r, o) (explicit_bound rs os) → Among r rs
bound-role rs [] r o m = absurd (member-none (Some r, o) m)
bound-role [] (x ∷ os) r o m = member-elim (Some r, o) (None, x) (explicit_bound [] os) (λ q. absurd (let z : Some r ≡ None = ap (λ b. b.0) q in cc)) (λ k. bound-role [] os r o k) m
bound-role (s ∷ rs) (x ∷ os) r o m =
    let rest = cond (takes_many s) (s ∷ rs) rs in
    member-elim (Some r, o) (Some s, x) (explicit_bound rest os) (λ q. subst (λ y. Among y (s ∷ rs)) (sym (some-one r s (ap (λ b. b.0) q))) here) (λ k. within (takes_many s) (bound-role rest os r o k)) m
  where
    within : (y : Bool) → Among r (cond y (s ∷ rs) rs) → Among r (s ∷ rs)
    within true k = k
    within false k = there k

-- each operand takes some role, or none
pub some-role : (rs : List Role) (os : List Operand) (o : Operand) → Among o os → (r : Option Role) × Among (r, o) (explicit_bound rs os)
some-role rs [] o m = absurd (member-none o m)
some-role [] (x ∷ os) o m = member-elim o x os (λ q. (None, subst (λ y. Among (None, y) ((None, x) ∷ explicit_bound [] os)) (sym q) here)) (λ k. let z = some-role [] os o k in (z.0, there z.1)) m
some-role (s ∷ rs) (x ∷ os) o m =
    let rest = cond (takes_many s) (s ∷ rs) rs in
    member-elim o x os (λ q. (Some s, subst (λ y. Among (Some s, y) ((Some s, x) ∷ explicit_bound rest os)) (sym q) here)) (λ k. let z = some-role rest os o k in (z.0, there z.1)) m

-- tied operands stand among the explicit ones

pub none-explicit : (os : List Operand) → list_all is_implicit_operand os ≡ true → explicit_operands os ≡ []
none-explicit [] e = refl
none-explicit (x ∷ os) e = (λ k. cond (not (first_of_both (is_implicit_operand x) (list_all is_implicit_operand os) e k)) (x ∷ explicit_operands os) (explicit_operands os)) ∙ none-explicit os (second_of_both (is_implicit_operand x) (list_all is_implicit_operand os) e)

one-alone : (r : Role) → is_tied r ≡ true → takes_many r ≡ true → ⊥
one-alone (roles.Tied k n) e h = cc
one-alone r e h = cc

-- the operand takes that role among the explicit ones, and fits it
abbrev Seats : Target → Effect → List Role → List Operand → Role → Operand → Type 0
Seats t e rs os r o = Among (Some r, o) (explicit_bound rs os) × (fits_at t e r o ≡ true)

-- what holds of the operands that are left
abbrev Further : Target → Effect → List Operand → Role → Operand → Type 0
Further t e os r o = (rest : List Role) → implicit_last os ≡ true → explicit_fit t e rest (explicit_operands os) ≡ true → Among (Some r, o) (explicit_bound rest os) → Seats t e rest (explicit_operands os) r o

seated-explicit : (t : Target) (e : Effect) (rs : List Role) (os : List Operand) → implicit_last os ≡ true → explicit_fit t e rs (explicit_operands os) ≡ true → (r : Role) (o : Operand) → is_tied r ≡ true → Among (Some r, o) (explicit_bound rs os) → Seats t e rs (explicit_operands os) r o
seated-explicit t e rs [] last fits r o tied m = absurd (member-none (Some r, o) m)
seated-explicit t e rs (x ∷ os) last fits r o tied m = go (is_implicit_operand x) refl (λ rest later h k. seated-explicit t e rest os later h r o tied k)
  where
    by : (rs : List Role) → Further t e os r o → implicit_last os ≡ true → explicit_fit t e rs (x ∷ explicit_operands os) ≡ true → Among (Some r, o) (explicit_bound rs (x ∷ os)) → Seats t e rs (x ∷ explicit_operands os) r o
    by [] more later h k = absurd (cc)
    by (s ∷ rs) more later h k =
        let rest = cond (takes_many s) (s ∷ rs) rs in
        member-elim (Some r, o) (Some s, x) (explicit_bound rest os)
        (λ q. (
          subst (λ b. Among b ((Some s, x) ∷ explicit_bound rest (explicit_operands os))) (sym q) here,
          (λ n. fits_at t e (some-one r s (ap (λ b. b.0) q) n) (ap (λ b. b.1) q n)) ∙ first_of_both (fits_at t e s x) (explicit_fit t e rest (explicit_operands os)) h,
        ))
        (λ j. let z = more rest later (second_of_both (fits_at t e s x) (explicit_fit t e rest (explicit_operands os)) h) j in (there z.0, z.1)) k

    go : (y : Bool) → is_implicit_operand x ≡ y → Further t e os r o → Seats t e rs (explicit_operands (x ∷ os)) r o
    go true q more =
        let all : list_all is_implicit_operand os ≡ true = subst (λ b. cond b (list_all is_implicit_operand os) (implicit_last os) ≡ true) q last in
        let bare : explicit_operands (x ∷ os) ≡ [] = none-explicit (x ∷ os) (λ k. q k && all k) in
        let many : list_all takes_many rs ≡ true = subst (λ qs. explicit_fit t e rs qs ≡ true) bare fits in
        absurd (one-alone r tied (all-of takes_many r rs (bound-role rs (x ∷ os) r o m) many))
    go false q more =
        let front : explicit_operands (x ∷ os) ≡ x ∷ explicit_operands os = λ k. cond (not (q k)) (x ∷ explicit_operands os) (explicit_operands os) in
        let later : implicit_last os ≡ true = subst (λ b. cond b (list_all is_implicit_operand os) (implicit_last os) ≡ true) q last in
        subst (λ qs. Seats t e rs qs r o) (sym front) (by rs more later (subst (λ qs. explicit_fit t e rs qs ≡ true) front fits) m)

-- an operand that fits a tied role is a use
tied-use : (t : Target) (e : Effect) (r : Role) (u : RegOp) → is_tied r ≡ true → fits_at t e r (operands.Reg u) ≡ true → is_use u ≡ true
tied-use t e (roles.Tied k n) u g h = either (is_use u) (is_opaque e) h
  where
    either : (a b : Bool) → (a || (b && false)) ≡ true → a ≡ true
    either true b h = refl
    either false true h = absurd (cc)
    either false false h = absurd (cc)
tied-use t e r u g h = absurd (cc)

-- what a tied pair says

abbrev pub pair_with : ℕ → RegOp → RegOp → TiedPair
pair_with n d u = record { number = n; definition = d; tied_use = u }

abbrev pub IsPair : List Operand → Option Role → Operand → TiedPair → Type 0
IsPair os r o p = (o ≡ operands.Reg p.tied_use) × (option_and_then tied_number r ≡ Some p.number) × (register_at os p.number ≡ Some p.definition)

pub pair-is : (os : List Operand) (r : Option Role) (o : Operand) (p : TiedPair) → tied_pair os (r, o) ≡ Some p → IsPair os r o p
pair-is os r (operands.Reg u) p e = go (option_and_then tied_number r) refl e
  where
    at : (n : ℕ) → option_and_then tied_number r ≡ Some n → (q : Option RegOp) → register_at os n ≡ q → option_map (λ (x : RegOp). pair_with n x u) q ≡ Some p → IsPair os r (operands.Reg u) p
    at n f None g h = absurd (cc)
    at n f (Some d) g h =
        let same : pair_with n d u ≡ p = some-one (pair_with n d u) p h in
        ((λ k. operands.Reg (same k).tied_use), f ∙ (λ k. Some (same k).number), subst (λ (z : TiedPair). register_at os z.number ≡ Some z.definition) same g)

    go : (q : Option ℕ) → option_and_then tied_number r ≡ q → paired_with os u q ≡ Some p → IsPair os r (operands.Reg u) p
    go None f h = absurd (cc)
    go (Some n) f h = at n f (register_at os n) refl h
pair-is os r o p e = absurd (cc)

pub pair-of : (os : List Operand) (r : Option Role) (u : RegOp) (n : ℕ) (d : RegOp) → option_and_then tied_number r ≡ Some n → register_at os n ≡ Some d → tied_pair os (r, operands.Reg u) ≡ Some (pair_with n d u)
pair-of os r u n d f g = ap (paired_with os u) f ∙ ap (option_map (λ (x : RegOp). pair_with n x u)) g

pub role-tied : (r : Option Role) (n : ℕ) → option_and_then tied_number r ≡ Some n → (q : Role) × (r ≡ Some q) × (is_tied q ≡ true)
role-tied None n e = absurd (cc)
role-tied (Some (roles.Tied k m)) n e = (roles.Tied k m, refl, refl)
role-tied (Some q) n e = absurd (cc)

pub tied-to : (r : Option Role) (n : ℕ) → passes (ties_to n) r ≡ true → option_and_then tied_number r ≡ Some n
tied-to None n e = absurd (cc)
tied-to (Some q) n e = go (tied_number q) e
  where
    go : (x : Option ℕ) → passes (nat_eq n) x ≡ true → x ≡ Some n
    go None h = absurd (cc)
    go (Some m) h = ap Some (sym (eqb-true n m h))

-- an instruction's pairs by all operands are those by its explicit ones

pub last-fits : (t : Target) (f : Function) (d : OpcodeDesc) (os : List Operand) (e : Effect) → has_roles e ≡ true → operands_fit t f d os e ≡ true → (implicit_last os ≡ true) × (explicit_fit t e (explicit_roles d.roles) (explicit_operands os) ≡ true)
last-fits t f d os effects.Copy h g = absurd (cc)
last-fits t f d os effects.ImplicitDef h g = absurd (cc)
last-fits t f d os effects.Phi h g = absurd (cc)
last-fits t f d os effects.RegSequence h g = absurd (cc)
last-fits t f d os effects.InsertSubreg h g = absurd (cc)
last-fits t f d os e h g = (first_of_both _ _ (first_of_both _ _ (first_of_both _ _ g)), second_of_both _ _ (first_of_both _ _ (first_of_both _ _ g)))

module _ (t : Target) (f : Function) (i : Instr) (e : Effect) (known : effect_of t i ≡ Some e) (h : has_roles e ≡ true) (one : V1 t f i ≡ true) (p : TiedPair) (m : Among p (filter_map (tied_pair i.operands) (seated t i))) where
  pair-seats : (r : Role) × (x : Operand) × Seats t e (explicit_roles (roles_of t i)) (explicit_operands i.operands) r x × (is_tied r ≡ true) × IsPair i.operands (Some r) x p × (tied_pair i.operands (Some r, x) ≡ Some p)
  pair-seats =
      let z = told-of (tied_pair i.operands) p (seated t i) m in
      let w = met t f i e known one in
      let fits = last-fits t f w.0 i.operands e h w.3 in
      let same : w.0.roles ≡ roles_of t i = ap (λ q. elim q as (λ q. List Role) [ None ↦ [] | Some d ↦ d.roles ]) (sym w.1) in
      let y = pair-is i.operands z.0.0 z.0.1 p z.2 in
      let x = role-tied z.0.0 p.number y.1 in
      let member : Among (Some x.0, z.0.1) (seated t i) = subst (λ (r : Option Role). Among (r, z.0.1) (seated t i)) x.1 z.1 in
      let seats = seated-explicit t e (explicit_roles (roles_of t i)) i.operands fits.0 (subst (λ rs. explicit_fit t e (explicit_roles rs) (explicit_operands i.operands) ≡ true) same fits.1) x.0 z.0.1 x.2 member in
      (x.0, z.0.1, seats, x.2, subst (λ (r : Option Role). IsPair i.operands r z.0.1 p) x.1 y, ap (λ (r : Option Role). tied_pair i.operands (r, z.0.1)) (sym x.1) ∙ z.2)

  -- a pair by all operands is one by the explicit ones
  pub seated-pair : Among p (tied_pairs t i)
  seated-pair =
      let z = pair-seats in
      told-in (tied_pair i.operands) p (Some z.0, z.1) (bound t i) (left-in (Some z.0, z.1) (explicit_bound (explicit_roles (roles_of t i)) (explicit_operands i.operands)) (map (implicit_bound (implicit_roles (roles_of t i))) (implicit_registers i.operands)) z.2.0) z.5

  -- it ties a use
  pub seated-use : is_use p.tied_use ≡ true
  seated-use = let z = pair-seats in tied-use t e z.0 p.tied_use z.3 (ap (fits_at t e z.0) (sym z.4.0) ∙ z.2.1)

pub pair-fits : (t : Target) (f : Function) (i : Instr) (p : TiedPair) → V11 t source_form.Source f i ≡ true → Among p (tied_pairs t i) → tie_fits t source_form.Source f p.definition p.tied_use ≡ true
unfolding V11
pair-fits t f i p e m = all-of (λ (q : TiedPair). tie_fits t source_form.Source f q.definition q.tied_use) p (tied_pairs t i) m (second_of_both _ _ e)
