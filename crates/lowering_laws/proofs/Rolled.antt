-- What the rules of targets tell of ties: each ties a use to a definition, no two to one, and terminators tie nothing.
use Rattle.std.proofs.Common.{◌≡◌, ◌∷◌, ◌++◌, ◌∙◌, ◌&&◌, ◌||◌, ◌≤◌, not, ℕ, zero, suc, Bool, true, false, cond, List, Option, Some, None, map, filter, flat_map, length, drop, refl, sym, ap, subst, eqb-true, arith, []}
use Rattle.std.specs.Prelude.{◌==◌, count_by, filter_map, nat_eq, nat_le, option_and_then, option_map, slice_get}
use Rattle.std.specs.List.{cons_option, list_all, list_any}
use Rattle.std.proofs.lemmas.Bool.{leb-true}
use Rattle.std.proofs.lemmas.List.Sums.{length-filter}
use Rattle.target_base.specs.declared.types.ClassId.{ClassId}
use Rattle.target_base.specs.declared.types.Effect.{Effect}
use Rattle.target_base.specs.declared.types.Effect.TheVariants as effects
use Rattle.target_base.specs.declared.types.OpaqueKind.{OpaqueKind}
use Rattle.target_base.specs.declared.types.OpcodeDesc.{OpcodeDesc}
use Rattle.target_base.specs.declared.types.OpaqueKind.TheVariants as kinds
use Rattle.target_base.specs.declared.types.Role.{Role}
use Rattle.target_base.specs.declared.types.Role.TheVariants as roles
use Rattle.target_base.specs.declared.types.Target.{Target}
use Rattle.target_base.specs.Roles.{behind, behind_many, defines, defines_within, has_shape, is_block, is_definition as is_definition_role, is_frame_or_symbol, is_immediate, is_implicit, is_operand, is_rest, is_tied, is_use as is_use_role, opaque_tie_fits, roles_fit, tie_fits, tied_to, ties_fit}
use Rattle.target_base.specs.Rules.{is_opcode_desc, starts_with_the_five}
use Rattle.target_base.proofs.Sound.{opcodes_sound}
use Rattle.target_base.proofs.Tests.{first_of_both, second_of_both}
use Rattle.meaning.specs.Live.{Among, here, there}
use Rattle.mir_func.specs.declared.func.RegOp.{RegOp}
use Rattle.mir_func.specs.declared.func.Operand.{Operand}
use Rattle.mir_func.specs.declared.func.Operand.TheVariants as operands
use Rattle.mir_func.specs.declared.func.Op.{Op}
use Rattle.mir_func.specs.declared.func.Op.TheVariants as ops
use Rattle.mir_func.specs.declared.func.Instr.{Instr}
use Rattle.mir_func.specs.Value.{Function}
use Rattle.mir_func.specs.Binding.{TiedPair, effect_of, explicit_bound, explicit_operands, explicit_roles, is_definition, is_implicit_operand, is_terminator, is_use, is_virtual, known_opcode, register_at, roles_of, takes_many, tied_number, tied_pair}
use Rattle.mir_meaning.specs.Rules.{V1, explicit_fit, fits_at, implicit_last, is_opaque, is_reserved_register}
use Rattle.two_address.specs.Classes.{seated}
use Rattle.instr_effects.proofs.Members.{filter-in, filter-of, flat-in, map-of, member-elim, member-none}
use Rattle.live_laws.proofs.Effects.Blocks.{slice-member}
use Rattle.live_laws.proofs.Effects.Lists.{all-of, distinct-apart}
use Rattle.live_laws.proofs.Effects.Moved.{Apart}
use Rattle.live_laws.proofs.Touch.Roles.{fit-role, has_roles, known-shape, met, none-counted, roles-sound}
use Rattle.lowering_laws.proofs.Seated.{bound-role, last-fits, none-explicit, pair-is, register-of, role-tied, told-of}

-- the role of that number is a definition's, and so are those before it
pub data Leads : ℕ → List Role → Role → Type 0 where
  first : {r : Role} {rs : List Role} → is_definition_role r ≡ true → Leads 0 (r ∷ rs) r
  later : {n : ℕ} {q r : Role} {rs : List Role} → is_definition_role q ≡ true → Leads n rs r → Leads (suc n) (q ∷ rs) r

pub leads-definition : {n : ℕ} {rs : List Role} {r : Role} → Leads n rs r → is_definition_role r ≡ true
leads-definition (first g) = g
leads-definition (later g l) = leads-definition l

leads-there : {n : ℕ} {rs : List Role} {r : Role} → Leads n rs r → Among r rs
leads-there (first g) = here
leads-there (later g l) = there (leads-there l)

pub leads-at : {n : ℕ} {rs : List Role} {r : Role} → Leads n rs r → slice_get rs n ≡ Some r
leads-at (first g) = refl
leads-at (later g l) = leads-at l

operand-plain : (r : Role) → is_operand r ≡ true → is_definition_role r ≡ false
operand-plain (roles.Def k) e = absurd (cc)
operand-plain (roles.Early k) e = absurd (cc)
operand-plain r e = refl

implicit-plain : (r : Role) → is_implicit r ≡ true → is_definition_role r ≡ false
implicit-plain (roles.Def k) e = absurd (cc)
implicit-plain (roles.Early k) e = absurd (cc)
implicit-plain r e = refl

many-plain : (r : Role) (rs : List Role) → list_all is_implicit (behind_many (r ∷ rs)) ≡ true → (is_definition_role r ≡ false) × (list_all is_implicit rs ≡ true)
many-plain roles.Any rs e = (refl, e)
many-plain roles.Rest rs e = (refl, e)
many-plain r rs e = (implicit-plain r (first_of_both (is_implicit r) (list_all is_implicit rs) e), second_of_both (is_implicit r) (list_all is_implicit rs) e)

-- behind the definitions stands none
none-later : (rs : List Role) → list_all is_implicit (behind_many (behind is_operand rs)) ≡ true → (r : Role) → Among r rs → is_definition_role r ≡ false
none-later [] e r m = absurd (member-none r m)
none-later (q ∷ rs) e r m = go (is_operand q) refl e (λ h k. none-later rs h r k)
  where
    go : (y : Bool) → is_operand q ≡ y → list_all is_implicit (behind_many (cond y (behind is_operand rs) (q ∷ rs))) ≡ true → (list_all is_implicit (behind_many (behind is_operand rs)) ≡ true → Among r rs → is_definition_role r ≡ false) → is_definition_role r ≡ false
    go true g h ih = member-elim r q rs (λ z. ap is_definition_role z ∙ operand-plain q g) (λ k. ih h k) m
    go false g h ih =
        let z = many-plain q rs h in
        member-elim r q rs (λ x. ap is_definition_role x ∙ z.0) (λ k. implicit-plain r (all-of is_implicit r rs k z.1)) m

some-role-is : (q r : Role) → Some q ≡ Some r → q ≡ r
some-role-is q r e = cc

leads-in-order : (rs : List Role) → list_all is_implicit (behind_many (behind is_operand (behind is_definition_role rs))) ≡ true → (n : ℕ) (r : Role) → slice_get rs n ≡ Some r → is_definition_role r ≡ true → Leads n rs r
leads-in-order [] o n r e d = absurd (cc)
leads-in-order (q ∷ rs) o n r e d = go (is_definition_role q) refl o (λ h k g. leads-in-order rs h k r g d)
  where
    Later : Type 0
    Later = list_all is_implicit (behind_many (behind is_operand (behind is_definition_role rs))) ≡ true → (k : ℕ) → slice_get rs k ≡ Some r → Leads k rs r

    at : (n : ℕ) → slice_get (q ∷ rs) n ≡ Some r → is_definition_role q ≡ true → list_all is_implicit (behind_many (behind is_operand (behind is_definition_role rs))) ≡ true → Later → Leads n (q ∷ rs) r
    at zero e g h ih = subst (λ z. Leads 0 (z ∷ rs) r) (sym (some-role-is q r e)) (first d)
    at (suc n) e g h ih = later g (ih h n e)

    go : (y : Bool) → is_definition_role q ≡ y → list_all is_implicit (behind_many (behind is_operand (cond y (behind is_definition_role rs) (q ∷ rs)))) ≡ true → Later → Leads n (q ∷ rs) r
    go true g h ih = at n e g h ih
    go false g h ih = absurd (let z = none-later (q ∷ rs) h r (slice-member (q ∷ rs) n r e) in cc)

defined-first : (k : ClassId) (rs : List Role) → defines k rs ≡ true → (r : Role) × Leads 0 rs r
defined-first k (roles.Def c ∷ rs) e = (roles.Def c, first refl)
defined-first k (roles.Early c ∷ rs) e = (roles.Early c, first refl)
defined-first k rs e = absurd (cc)

pub at-number : (t : Target) (k : ClassId) (q : Option Role) → defines_within t.classes k q ≡ true → (r : Role) × (q ≡ Some r) × (is_definition_role r ≡ true)
at-number t k (Some (roles.Def c)) e = (roles.Def c, refl, refl)
at-number t k (Some (roles.Early c)) e = (roles.Early c, refl, refl)
at-number t k q e = absurd (cc)

tied-leads : (t : Target) (rs : List Role) (k : ClassId) (n : ℕ) → Among (roles.Tied k n) rs → ties_fit rs ≡ true → (r : Role) × Leads n rs r
tied-leads t rs k n m e =
    let z = all-of (tie_fits rs) (roles.Tied k n) rs m (second_of_both (nat_le (count_by is_tied rs) 1) (list_all (tie_fits rs) rs) e) in
    let y = defined-first k rs (second_of_both (nat_eq n 0) (defines k rs) z) in
    (y.0, subst (λ x. Leads x rs y.0) (sym (eqb-true n 0 (first_of_both (nat_eq n 0) (defines k rs) z))) y.1)

-- a tied role names a definition that leads
pub role-leads : (t : Target) (e : Effect) (rs : List Role) → roles_fit t.units t.regs t.classes e rs ≡ true → has_roles e ≡ true → (k : ClassId) (n : ℕ) → Among (roles.Tied k n) rs → (r : Role) × Leads n rs r
role-leads t effects.Copy rs h g k n m = absurd (cc)
role-leads t effects.Phi rs h g k n m = absurd (cc)
role-leads t effects.ImplicitDef rs h g k n m = absurd (cc)
role-leads t effects.RegSequence rs h g k n m = absurd (cc)
role-leads t effects.InsertSubreg rs h g k n m = absurd (cc)
role-leads t (effects.Opaque kind) rs h g k n m =
    let order = first_of_both _ _ (first_of_both _ _ (first_of_both _ _ h)) in
    let each = all-of (opaque_tie_fits t.classes rs) (roles.Tied k n) rs m (second_of_both _ _ (first_of_both _ _ h)) in
    let z = at-number t k (slice_get rs n) (second_of_both _ _ each) in
    (z.0, leads-in-order rs order n z.0 z.1 z.2)
role-leads t e rs h g k n m = tied-leads t rs k n m (second_of_both _ _ (first_of_both _ _ (first_of_both _ _ (first_of_both _ _ (first_of_both _ _ h)))))

tied-count : (rs : List Role) → length (flat_map tied_to rs) ≡ length (filter is_tied rs)
tied-count [] = refl
tied-count (roles.Tied k n ∷ rs) = ap suc (tied-count rs)
tied-count (r ∷ rs) = tied-count rs

few-apart : (ns : List ℕ) → length ns ≤ 1 → Apart ns
few-apart [] h = tt
few-apart (n ∷ []) h = ((λ m. member-none n m), tt)
few-apart (n ∷ k ∷ ns) h = absurd (omega arith)

ties-few : (rs : List Role) → ties_fit rs ≡ true → Apart (flat_map tied_to rs)
ties-few rs e =
    let one = leb-true (count_by is_tied rs) 1 (first_of_both (nat_le (count_by is_tied rs) 1) (list_all (tie_fits rs) rs) e) in
    let two = tied-count rs in
    let three = length-filter is_tied rs in
    few-apart (flat_map tied_to rs) (omega (arith, one, two, three))

-- no two roles are tied to one definition
ties-apart : (t : Target) (e : Effect) (rs : List Role) → roles_fit t.units t.regs t.classes e rs ≡ true → has_roles e ≡ true → Apart (flat_map tied_to rs)
ties-apart t effects.Copy rs h g = absurd (cc)
ties-apart t effects.Phi rs h g = absurd (cc)
ties-apart t effects.ImplicitDef rs h g = absurd (cc)
ties-apart t effects.RegSequence rs h g = absurd (cc)
ties-apart t effects.InsertSubreg rs h g = absurd (cc)
ties-apart t (effects.Opaque kind) rs h g = distinct-apart (flat_map tied_to rs) (second_of_both _ _ (first_of_both _ _ (first_of_both _ _ h)))
ties-apart t e rs h g = ties-few rs (second_of_both _ _ (first_of_both _ _ (first_of_both _ _ (first_of_both _ _ (first_of_both _ _ h)))))

-- terminators define nothing, and so tie nothing

shape-first : (test : Role → Bool) (tests : List (Role → Bool)) {n : ℕ} {rs : List Role} {r : Role} → has_shape (test ∷ tests) rs ≡ true → Leads n rs r → (q : Role) × (test q ≡ true) × (is_definition_role q ≡ true)
shape-first test tests {rs = []} h l = elim l [ ]
shape-first test tests {rs = q ∷ rs} h (first g) = (q, first_of_both (test q) (has_shape tests rs) h, g)
shape-first test tests {rs = q ∷ rs} h (later g l) = (q, first_of_both (test q) (has_shape tests rs) h, g)

block-plain : (r : Role) → is_block r ≡ true → is_definition_role r ≡ true → ⊥
block-plain roles.Target e d = cc
block-plain r e d = cc

use-plain : (r : Role) → is_use_role r ≡ true → is_definition_role r ≡ true → ⊥
use-plain (roles.Read k) e d = cc
use-plain (roles.Tied k n) e d = cc
use-plain r e d = cc

rest-plain : (r : Role) → is_rest r ≡ true → is_definition_role r ≡ true → ⊥
rest-plain roles.Rest e d = cc
rest-plain r e d = cc

none-defined : (t : Target) (kind : OpaqueKind) (rs : List Role) (n : ℕ) (r : Role) → nat_eq (count_by is_definition_role rs) 0 ≡ true → Leads n rs r → ⊥
none-defined t kind rs n r e l = let z = none-counted is_definition_role rs r e (leads-there l) in let y = leads-definition l in cc

terminator-leads : (t : Target) (e : Effect) (rs : List Role) → roles_fit t.units t.regs t.classes e rs ≡ true → is_terminator e ≡ true → (n : ℕ) (r : Role) → Leads n rs r → ⊥
terminator-leads t effects.Jump rs h g n r l = let z = shape-first is_block [] (known-shape t effects.Jump rs (is_block ∷ []) refl h) l in block-plain z.0 z.1 z.2
terminator-leads t effects.Jcc rs h g n r l = let z = shape-first is_block (is_immediate ∷ []) (known-shape t effects.Jcc rs (is_block ∷ is_immediate ∷ []) refl h) l in block-plain z.0 z.1 z.2
terminator-leads t effects.Jnz rs h g n r l = let z = shape-first is_use_role (is_block ∷ []) (known-shape t effects.Jnz rs (is_use_role ∷ is_block ∷ []) refl h) l in use-plain z.0 z.1 z.2
terminator-leads t effects.Ret rs h g n r l = let z = shape-first is_rest [] (known-shape t effects.Ret rs (is_rest ∷ []) refl h) l in rest-plain z.0 z.1 z.2
terminator-leads t (effects.Opaque kinds.Branch) rs h g n r l = none-defined t kinds.Branch rs n r (first_of_both _ _ (first_of_both _ _ (second_of_both _ _ h))) l
terminator-leads t (effects.Opaque kinds.Return) rs h g n r l = none-defined t kinds.Return rs n r (first_of_both _ _ (first_of_both _ _ (second_of_both _ _ h))) l
terminator-leads t e rs h g n r l = absurd (cc)

-- the pairs of an instruction

implicit-untied : (r : Role) → is_implicit r ≡ true → tied_to r ≡ []
implicit-untied (roles.Tied k n) e = absurd (cc)
implicit-untied r e = refl

explicit-tied : (rs : List Role) → flat_map tied_to (explicit_roles rs) ≡ flat_map tied_to rs
explicit-tied [] = refl
explicit-tied (r ∷ rs) = go (is_implicit r) refl (explicit-tied rs)
  where
    go : (y : Bool) → is_implicit r ≡ y → flat_map tied_to (explicit_roles rs) ≡ flat_map tied_to rs → flat_map tied_to (cond (not y) (r ∷ explicit_roles rs) (explicit_roles rs)) ≡ tied_to r ++ flat_map tied_to rs
    go true e ih = λ k. sym (implicit-untied r e) k ++ ih k
    go false e ih = ap (λ ns. tied_to r ++ ns) ih

pub tied-role : (q : Role) (n : ℕ) → tied_number q ≡ Some n → (k : ClassId) × (q ≡ roles.Tied k n)
tied-role (roles.Tied k m) n e = (k, ap (roles.Tied k) (same m n e))
  where
    same : (a b : ℕ) → Some a ≡ Some b → a ≡ b
    same a b e = cc
tied-role q n e = absurd (cc)

abbrev numbers_of : List Operand → List Role → List Operand → List ℕ
numbers_of os rs qs = map (λ (p : TiedPair). p.number) (filter_map (tied_pair os) (explicit_bound rs qs))

number-in : (os : List Operand) (rs : List Role) (qs : List Operand) (n : ℕ) → Among n (numbers_of os rs qs) → Among n (flat_map tied_to rs)
number-in os rs qs n m =
    let z = map-of (λ (p : TiedPair). p.number) n (filter_map (tied_pair os) (explicit_bound rs qs)) m in
    let y = told-of (tied_pair os) z.0 (explicit_bound rs qs) z.1 in
    let x = pair-is os y.0.0 y.0.1 z.0 y.2 in
    let w = role-tied y.0.0 z.0.number x.1 in
    let v = tied-role w.0 z.0.number (subst (λ q. option_and_then tied_number q ≡ Some z.0.number) w.1 x.1) in
    let there' : Among w.0 rs = bound-role rs qs w.0 y.0.1 (subst (λ q. Among (q, y.0.1) (explicit_bound rs qs)) w.1 y.1) in
    flat-in tied_to n w.0 rs there' (subst (λ q. Among n (tied_to q)) (sym v.1) (subst (λ q. Among n (q ∷ [])) z.2 here))

apart-behind : (xs ys : List ℕ) → Apart (xs ++ ys) → Apart ys
apart-behind [] ys p = p
apart-behind (x ∷ xs) ys p = apart-behind xs ys p.1

pairs-apart : (os : List Operand) (rs : List Role) (qs : List Operand) → Apart (flat_map tied_to rs) → Apart (numbers_of os rs qs)
pairs-apart os rs [] a = tt
pairs-apart os [] (o ∷ qs) a = go (tied_pair os (None, o)) refl (pairs-apart os [] qs a)
  where
    go : (q : Option TiedPair) → tied_pair os (None, o) ≡ q → Apart (numbers_of os [] qs) → Apart (map (λ (p : TiedPair). p.number) (cons_option q (filter_map (tied_pair os) (explicit_bound [] qs))))
    go None e ih = ih
    go (Some p) e ih = absurd (let z = pair-is os None o p e in let y = z.1 in cc)
pairs-apart os (r ∷ rs) (o ∷ qs) a = go (tied_pair os (Some r, o)) refl (pairs-apart os rest qs (left (takes_many r)))
  where
    rest : List Role
    rest = cond (takes_many r) (r ∷ rs) rs

    left : (y : Bool) → Apart (flat_map tied_to (cond y (r ∷ rs) rs))
    left true = a
    left false = apart-behind (tied_to r) (flat_map tied_to rs) a

    none : (k : ClassId) (n : ℕ) → r ≡ roles.Tied k n → Among n (numbers_of os rest qs) → ⊥
    none k n e m =
        let many : takes_many r ≡ false = ap takes_many e in
        let m' : Among n (numbers_of os rs qs) = subst (λ (y : Bool). Among n (numbers_of os (cond y (r ∷ rs) rs) qs)) many m in
        let a' : Apart (n ∷ flat_map tied_to rs) = subst (λ q. Apart (tied_to q ++ flat_map tied_to rs)) e a in
        a'.0 (number-in os rs qs n m')

    go : (q : Option TiedPair) → tied_pair os (Some r, o) ≡ q → Apart (numbers_of os rest qs) → Apart (map (λ (p : TiedPair). p.number) (cons_option q (filter_map (tied_pair os) (explicit_bound rest qs))))
    go None e ih = ih
    go (Some p) e ih = let z = pair-is os (Some r) o p e in let y = tied-role r p.number z.1 in ((λ m. none y.0 p.number y.1 m), ih)

-- the operand of a definition's role

pub definition-explicit : (r : Role) → is_definition_role r ≡ true → (is_implicit r ≡ false) × (takes_many r ≡ false)
definition-explicit (roles.Def k) e = (refl, refl)
definition-explicit (roles.Early k) e = (refl, refl)
definition-explicit r e = absurd (cc)

pub definition-fits : (t : Target) (e : Effect) (r : Role) (d : RegOp) → is_definition_role r ≡ true → fits_at t e r (operands.Reg d) ≡ true → is_definition d ≡ true
definition-fits t e (roles.Def k) d g h = either (is_definition d) (is_opaque e) h
  where
    either : (a b : Bool) → (a || (b && false)) ≡ true → a ≡ true
    either true b h = refl
    either false true h = absurd (cc)
    either false false h = absurd (cc)
definition-fits t e (roles.Early k) d g h = either (is_definition d) (is_opaque e) h
  where
    either : (a b : Bool) → (a || (b && false)) ≡ true → a ≡ true
    either true b h = refl
    either false true h = absurd (cc)
    either false false h = absurd (cc)
definition-fits t e r d g h = absurd (cc)

pub front-role : (q : Role) (rs : List Role) → is_definition_role q ≡ true → explicit_roles (q ∷ rs) ≡ q ∷ explicit_roles rs
front-role q rs g = ap (λ (y : Bool). cond (not y) (q ∷ explicit_roles rs) (explicit_roles rs)) (definition-explicit q g).0

-- an operand that takes a definition's role isn't implicit
pub explicit-front : (t : Target) (e : Effect) (q : Role) (rs : List Role) (x : Operand) (os : List Operand) → is_definition_role q ≡ true → implicit_last (x ∷ os) ≡ true → explicit_fit t e (explicit_roles (q ∷ rs)) (explicit_operands (x ∷ os)) ≡ true → (is_implicit_operand x ≡ false) × (implicit_last os ≡ true) × (fits_at t e q x ≡ true) × (explicit_fit t e (explicit_roles rs) (explicit_operands os) ≡ true)
explicit-front t e q rs x os g last fits = go (is_implicit_operand x) refl
  where
    go : (y : Bool) → is_implicit_operand x ≡ y → (is_implicit_operand x ≡ false) × (implicit_last os ≡ true) × (fits_at t e q x ≡ true) × (explicit_fit t e (explicit_roles rs) (explicit_operands os) ≡ true)
    go true z =
        let all : list_all is_implicit_operand os ≡ true = subst (λ (b : Bool). cond b (list_all is_implicit_operand os) (implicit_last os) ≡ true) z last in
        let bare : explicit_operands (x ∷ os) ≡ [] = none-explicit (x ∷ os) (λ k. z k && all k) in
        let many : list_all takes_many (q ∷ explicit_roles rs) ≡ true = subst (λ qs. explicit_fit t e qs [] ≡ true) (front-role q rs g) (subst (λ qs. explicit_fit t e (explicit_roles (q ∷ rs)) qs ≡ true) bare fits) in
        absurd (let a = first_of_both (takes_many q) (list_all takes_many (explicit_roles rs)) many in let b = (definition-explicit q g).1 in cc)
    go false z =
        let front : explicit_operands (x ∷ os) ≡ x ∷ explicit_operands os = λ k. cond (not (z k)) (x ∷ explicit_operands os) (explicit_operands os) in
        let later' : implicit_last os ≡ true = subst (λ (b : Bool). cond b (list_all is_implicit_operand os) (implicit_last os) ≡ true) z last in
        let both : explicit_fit t e (q ∷ explicit_roles rs) (x ∷ explicit_operands os) ≡ true = subst (λ qs. explicit_fit t e qs (x ∷ explicit_operands os) ≡ true) (front-role q rs g) (subst (λ qs. explicit_fit t e (explicit_roles (q ∷ rs)) qs ≡ true) front fits) in
        let more = second_of_both (fits_at t e q x) (explicit_fit t e (cond (takes_many q) (q ∷ explicit_roles rs) (explicit_roles rs)) (explicit_operands os)) both in
        (z, later', first_of_both (fits_at t e q x) (explicit_fit t e (cond (takes_many q) (q ∷ explicit_roles rs) (explicit_roles rs)) (explicit_operands os)) both, subst (λ (y : Bool). explicit_fit t e (cond y (q ∷ explicit_roles rs) (explicit_roles rs)) (explicit_operands os) ≡ true) (definition-explicit q g).1 more)

abbrev Takes : Target → Effect → List Role → List Operand → Role → RegOp → Type 0
Takes t e rs os r d = (is_definition d ≡ true) × Among (Some r, operands.Reg d) (explicit_bound (explicit_roles rs) (explicit_operands os))

definition-at : (t : Target) (e : Effect) {n : ℕ} {rs : List Role} {r : Role} → Leads n rs r → (os : List Operand) → implicit_last os ≡ true → explicit_fit t e (explicit_roles rs) (explicit_operands os) ≡ true → (d : RegOp) → register_at os n ≡ Some d → Takes t e rs os r d
definition-at t e l [] last fits d at = absurd (cc)
definition-at t e (first {r = r} {rs = rs} g) (x ∷ os) last fits d at =
    let z = explicit-front t e r rs x os g last fits in
    let is : x ≡ operands.Reg d = register-of x d at in
    let front : explicit_operands (x ∷ os) ≡ x ∷ explicit_operands os = λ k. cond (not (z.0 k)) (x ∷ explicit_operands os) (explicit_operands os) in
    let own : Among (Some r, x) (explicit_bound (r ∷ explicit_roles rs) (x ∷ explicit_operands os)) = here in (
      definition-fits t e r d g (ap (fits_at t e r) (sym is) ∙ z.2),
      subst (λ y. Among (Some r, y) (explicit_bound (explicit_roles (r ∷ rs)) (explicit_operands (x ∷ os)))) is
          (subst (λ qs. Among (Some r, x) (explicit_bound qs (explicit_operands (x ∷ os)))) (sym (front-role r rs g)) (subst (λ qs. Among (Some r, x) (explicit_bound (r ∷ explicit_roles rs) qs)) (sym front) own)),
    )
definition-at t e (later {q = q} {r = r} {rs = rs} g l) (x ∷ os) last fits d at =
    let z = explicit-front t e q rs x os g last fits in
    let ih = definition-at t e l os z.1 z.3 d at in
    let front : explicit_operands (x ∷ os) ≡ x ∷ explicit_operands os = λ k. cond (not (z.0 k)) (x ∷ explicit_operands os) (explicit_operands os) in
    let own : Among (Some r, operands.Reg d) (explicit_bound (q ∷ explicit_roles rs) (x ∷ explicit_operands os)) = there (subst (λ (y : Bool). Among (Some r, operands.Reg d) (explicit_bound (cond y (q ∷ explicit_roles rs) (explicit_roles rs)) (explicit_operands os))) (sym (definition-explicit q g).1) ih.1) in
    (ih.0, subst (λ qs. Among (Some r, operands.Reg d) (explicit_bound qs (explicit_operands (x ∷ os)))) (sym (front-role q rs g)) (subst (λ qs. Among (Some r, operands.Reg d) (explicit_bound (q ∷ explicit_roles rs) qs)) (sym front) own))

module _ (t : Target) (f : Function) (i : Instr) (e : Effect) (known : effect_of t i ≡ Some e) (h : has_roles e ≡ true) (one : V1 t f i ≡ true) where
  pub fit-roles : roles_fit t.units t.regs t.classes e (roles_of t i) ≡ true
  fit-roles =
      let w = met t f i e known one in
      subst (λ rs. roles_fit t.units t.regs t.classes e rs ≡ true) (ap (λ q. elim q as (λ q. List Role) [ None ↦ [] | Some d ↦ d.roles ]) (sym w.1)) (roles-sound t f i e known one h)

  -- explicit operands stand first, and fit their roles
  pub fit-operands : (implicit_last i.operands ≡ true) × (explicit_fit t e (explicit_roles (roles_of t i)) (explicit_operands i.operands) ≡ true)
  fit-operands =
      let w = met t f i e known one in
      let z = last-fits t f w.0 i.operands e h w.3 in
      (z.0, subst (λ rs. explicit_fit t e (explicit_roles rs) (explicit_operands i.operands) ≡ true) (ap (λ q. elim q as (λ q. List Role) [ None ↦ [] | Some d ↦ d.roles ]) (sym w.1)) z.1)

  -- no two pairs have one number
  pub numbers-differ : Apart (map (λ (p : TiedPair). p.number) (filter_map (tied_pair i.operands) (seated t i)))
  numbers-differ = pairs-apart i.operands (explicit_roles (roles_of t i)) i.operands (subst Apart (sym (explicit-tied (roles_of t i))) (ties-apart t e (roles_of t i) fit-roles h))

  -- the definition of a pair takes its role
  pub record DefinedBy (p : TiedPair) : Type 0 where
    pub role : Role
    pub at : slice_get (roles_of t i) p.number ≡ Some role
    pub defines : is_definition_role role ≡ true
    pub is : is_definition p.definition ≡ true
    pub takes : Among (Some role, operands.Reg p.definition) (explicit_bound (explicit_roles (roles_of t i)) (explicit_operands i.operands))

  pub pair-leads : (p : TiedPair) → Among p (filter_map (tied_pair i.operands) (seated t i)) → ((r : Role) × Leads p.number (roles_of t i) r) × (register_at i.operands p.number ≡ Some p.definition)
  pair-leads p m =
      let y = told-of (tied_pair i.operands) p (seated t i) m in
      let x = pair-is i.operands y.0.0 y.0.1 p y.2 in
      let w = role-tied y.0.0 p.number x.1 in
      let v = tied-role w.0 p.number (subst (λ q. option_and_then tied_number q ≡ Some p.number) w.1 x.1) in
      let there' : Among w.0 (explicit_roles (roles_of t i)) = bound-role (explicit_roles (roles_of t i)) i.operands w.0 y.0.1 (subst (λ q. Among (q, y.0.1) (seated t i)) w.1 y.1) in
      (role-leads t e (roles_of t i) fit-roles h v.0 p.number (subst (λ q. Among q (roles_of t i)) v.1 (explicit-of w.0 (roles_of t i) there')), x.2)
    where
      explicit-of : (r : Role) (rs : List Role) → Among r (explicit_roles rs) → Among r rs
      explicit-of r [] m = absurd (member-none r m)
      explicit-of r (q ∷ rs) m = go (is_implicit q) m (explicit-of r rs)
        where
          go : (y : Bool) → Among r (cond (not y) (q ∷ explicit_roles rs) (explicit_roles rs)) → (Among r (explicit_roles rs) → Among r rs) → Among r (q ∷ rs)
          go true k ih = there (ih k)
          go false k ih = member-elim r q (explicit_roles rs) (λ z. subst (λ x. Among r (x ∷ rs)) z here) (λ j. there (ih j)) k

  pub defined-by : (p : TiedPair) → Among p (filter_map (tied_pair i.operands) (seated t i)) → DefinedBy p
  defined-by p m =
      let z = pair-leads p m in
      let y = fit-operands in
      let x = definition-at t e z.0.1 i.operands y.0 y.1 p.definition z.1 in
      record { role = z.0.0; at = leads-at z.0.1; defines = leads-definition z.0.1; is = x.0; takes = x.1 }

  -- a terminator ties nothing
  pub terminator-untied : is_terminator e ≡ true → filter_map (tied_pair i.operands) (seated t i) ≡ []
  terminator-untied g = go (filter_map (tied_pair i.operands) (seated t i)) (λ p m. let z = pair-leads p m in terminator-leads t e (roles_of t i) fit-roles g p.number z.0.0 z.0.1)
    where
      go : (ps : List TiedPair) → ((p : TiedPair) → Among p ps → ⊥) → ps ≡ []
      go [] n = refl
      go (p ∷ ps) n = absurd (n p here)

-- silent instructions tie nothing

desc-is : (a d : OpcodeDesc) → Some a ≡ Some d → a ≡ d
desc-is a d e = cc

implicit-none : (rs : List Role) → list_all is_implicit rs ≡ true → list_any is_tied rs ≡ false
implicit-none [] e = refl
implicit-none (r ∷ rs) e = λ k. one r (first_of_both (is_implicit r) (list_all is_implicit rs) e) k || implicit-none rs (second_of_both (is_implicit r) (list_all is_implicit rs) e) k
  where
    one : (r : Role) → is_implicit r ≡ true → is_tied r ≡ false
    one (roles.Tied k n) e = absurd (cc)
    one r e = refl

pair-untied : (test : Role → Bool) → ((r : Role) → test r ≡ true → is_tied r ≡ false) → (rs : List Role) → has_shape (is_definition_role ∷ test ∷ []) rs ≡ true → list_any is_tied rs ≡ false
pair-untied test h [] e = absurd (cc)
pair-untied test h (r ∷ []) e = absurd (let z = second_of_both (is_definition_role r) false e in cc)
pair-untied test h (r ∷ q ∷ rs) e =
    let more = second_of_both (is_definition_role r) (test q && list_all is_implicit rs) e in
    λ k. first' r (first_of_both (is_definition_role r) (test q && list_all is_implicit rs) e) k || (h q (first_of_both (test q) (list_all is_implicit rs) more) k || implicit-none rs (second_of_both (test q) (list_all is_implicit rs) more) k)
  where
    first' : (r : Role) → is_definition_role r ≡ true → is_tied r ≡ false
    first' (roles.Tied k n) e = absurd (cc)
    first' r e = refl

immediate-untied : (r : Role) → is_immediate r ≡ true → is_tied r ≡ false
immediate-untied (roles.Tied k n) e = absurd (cc)
immediate-untied r e = refl

object-untied : (r : Role) → is_frame_or_symbol r ≡ true → is_tied r ≡ false
object-untied (roles.Tied k n) e = absurd (cc)
object-untied r e = refl

pub const-untied : (t : Target) (f : Function) (i : Instr) → effect_of t i ≡ Some effects.Const → V1 t f i ≡ true → list_any is_tied (roles_of t i) ≡ false
const-untied t f i known one = pair-untied is_immediate immediate-untied (roles_of t i) (known-shape t effects.Const (roles_of t i) (is_definition_role ∷ is_immediate ∷ []) refl (fit-roles t f i effects.Const known refl one))

pub addr-untied : (t : Target) (f : Function) (i : Instr) → effect_of t i ≡ Some effects.Addr → V1 t f i ≡ true → list_any is_tied (roles_of t i) ≡ false
addr-untied t f i known one = pair-untied is_frame_or_symbol object-untied (roles_of t i) (known-shape t effects.Addr (roles_of t i) (is_definition_role ∷ is_frame_or_symbol ∷ []) refl (fit-roles t f i effects.Addr known refl one))

no-roles : (rs : List Role) → (length rs == 0) ≡ true → rs ≡ []
no-roles [] e = refl
no-roles (r ∷ rs) e = absurd (let z = eqb-true (length (r ∷ rs)) 0 e in omega arith)

none-shaped : (t : Target) (e : Effect) (rs : List Role) → has_roles e ≡ false → roles_fit t.units t.regs t.classes e rs ≡ true → ⊥
none-shaped t effects.Copy rs h g = cc
none-shaped t effects.Phi rs h g = cc
none-shaped t effects.ImplicitDef rs h g = cc
none-shaped t effects.RegSequence rs h g = cc
none-shaped t effects.InsertSubreg rs h g = cc
none-shaped t e rs h g = cc

bare-desc : (t : Target) (os : List OpcodeDesc) (k : ℕ) (d : OpcodeDesc) → slice_get os k ≡ Some d → has_roles d.effect ≡ false → starts_with_the_five os ≡ true → list_all (is_opcode_desc t.units t.regs t.classes) (drop 5 os) ≡ true → d.roles ≡ []
bare-desc t [] k d g h five rest = absurd (cc)
bare-desc t (a ∷ []) k d g h five rest = absurd (cc)
bare-desc t (a ∷ b ∷ []) k d g h five rest = absurd (cc)
bare-desc t (a ∷ b ∷ c ∷ []) k d g h five rest = absurd (cc)
bare-desc t (a ∷ b ∷ c ∷ x ∷ []) k d g h five rest = absurd (cc)
bare-desc t (a ∷ b ∷ c ∷ x ∷ y ∷ os) zero d g h five rest = let q = first_of_both _ _ (first_of_both _ _ (first_of_both _ _ (first_of_both _ _ five))) in subst (λ z. z.roles ≡ []) (desc-is a d g) (no-roles a.roles (second_of_both _ _ q))
bare-desc t (a ∷ b ∷ c ∷ x ∷ y ∷ os) (suc zero) d g h five rest = let q = second_of_both _ _ (first_of_both _ _ (first_of_both _ _ (first_of_both _ _ five))) in subst (λ z. z.roles ≡ []) (desc-is b d g) (no-roles b.roles (second_of_both _ _ q))
bare-desc t (a ∷ b ∷ c ∷ x ∷ y ∷ os) (suc (suc zero)) d g h five rest = let q = second_of_both _ _ (first_of_both _ _ (first_of_both _ _ five)) in subst (λ z. z.roles ≡ []) (desc-is c d g) (no-roles c.roles (second_of_both _ _ q))
bare-desc t (a ∷ b ∷ c ∷ x ∷ y ∷ os) (suc (suc (suc zero))) d g h five rest = let q = second_of_both _ _ (first_of_both _ _ five) in subst (λ z. z.roles ≡ []) (desc-is x d g) (no-roles x.roles (second_of_both _ _ q))
bare-desc t (a ∷ b ∷ c ∷ x ∷ y ∷ os) (suc (suc (suc (suc zero)))) d g h five rest = let q = second_of_both _ _ five in subst (λ z. z.roles ≡ []) (desc-is y d g) (no-roles y.roles (second_of_both _ _ q))
bare-desc t (a ∷ b ∷ c ∷ x ∷ y ∷ os) (suc (suc (suc (suc (suc k))))) d g h five rest = let good = all-of (is_opcode_desc t.units t.regs t.classes) d os (slice-member os k d g) rest in absurd (none-shaped t d.effect d.roles h (second_of_both _ _ good))

-- the opcodes that belong to every target have no roles
pub bare-roles : (t : Target) (i : Instr) (e : Effect) → effect_of t i ≡ Some e → has_roles e ≡ false → roles_of t i ≡ []
bare-roles t i e known h = by i.op known
  where
    at : (q : Option OpcodeDesc) (k : ℕ) → slice_get t.opcodes k ≡ q → option_map (λ (d : OpcodeDesc). d.effect) q ≡ Some e → elim q as (λ q. List Role) [ None ↦ [] | Some d ↦ d.roles ] ≡ []
    at None k g w = refl
    at (Some d) k g w =
        let all = opcodes_sound t.name t.version t.units t.regs t.reserved t.indexes t.classes t.masks t.opcodes t.sound in
        let same : d.effect ≡ e = cc in
        bare-desc t t.opcodes k d g (ap has_roles same ∙ h) (second_of_both _ _ (first_of_both _ _ (first_of_both _ _ all))) (second_of_both _ _ (first_of_both _ _ all))

    by : (o : Op) → option_map (λ (d : OpcodeDesc). d.effect) (known_opcode t o) ≡ Some e → elim (known_opcode t o) as (λ q. List Role) [ None ↦ [] | Some d ↦ d.roles ] ≡ []
    by (ops.Known o) w = at (slice_get t.opcodes o.0) o.0 refl w
    by (ops.Excluded name) w = refl

pub undef-untied : (t : Target) (i : Instr) → effect_of t i ≡ Some effects.ImplicitDef → list_any is_tied (roles_of t i) ≡ false
undef-untied t i known = ap (list_any is_tied) (bare-roles t i effects.ImplicitDef known refl)

-- a terminator has no explicit definition

abbrev NoneDefine : List (Role → Bool) → Type 0
NoneDefine [] = Unit {0}
NoneDefine (test ∷ tests) = ((q : Role) → test q ≡ true → is_definition_role q ≡ false) × NoneDefine tests

none-by-shape : (tests : List (Role → Bool)) → NoneDefine tests → (rs : List Role) → has_shape tests rs ≡ true → (r : Role) → Among r rs → is_definition_role r ≡ false
none-by-shape [] h rs e r m = implicit-plain r (all-of is_implicit r rs m e)
none-by-shape (test ∷ tests) h [] e r m = absurd (member-none r m)
none-by-shape (test ∷ tests) h (q ∷ rs) e r m = member-elim r q rs (λ z. ap is_definition_role z ∙ h.0 q (first_of_both (test q) (has_shape tests rs) e)) (λ k. none-by-shape tests h.1 rs (second_of_both (test q) (has_shape tests rs) e) r k) m

block-none : (q : Role) → is_block q ≡ true → is_definition_role q ≡ false
block-none roles.Target e = refl
block-none q e = absurd (cc)

use-none : (q : Role) → is_use_role q ≡ true → is_definition_role q ≡ false
use-none (roles.Read k) e = refl
use-none (roles.Tied k n) e = refl
use-none q e = absurd (cc)

rest-none : (q : Role) → is_rest q ≡ true → is_definition_role q ≡ false
rest-none roles.Rest e = refl
rest-none q e = absurd (cc)

immediate-none : (q : Role) → is_immediate q ≡ true → is_definition_role q ≡ false
immediate-none roles.Imm e = refl
immediate-none q e = absurd (cc)

terminator-roles : (t : Target) (e : Effect) (rs : List Role) → roles_fit t.units t.regs t.classes e rs ≡ true → is_terminator e ≡ true → (r : Role) → Among r rs → is_definition_role r ≡ false
terminator-roles t effects.Jump rs h g r m = none-by-shape (is_block ∷ []) (block-none, tt) rs (known-shape t effects.Jump rs (is_block ∷ []) refl h) r m
terminator-roles t effects.Jcc rs h g r m = none-by-shape (is_block ∷ is_immediate ∷ []) (block-none, (immediate-none, tt)) rs (known-shape t effects.Jcc rs (is_block ∷ is_immediate ∷ []) refl h) r m
terminator-roles t effects.Jnz rs h g r m = none-by-shape (is_use_role ∷ is_block ∷ []) (use-none, (block-none, tt)) rs (known-shape t effects.Jnz rs (is_use_role ∷ is_block ∷ []) refl h) r m
terminator-roles t effects.Ret rs h g r m = none-by-shape (is_rest ∷ []) (rest-none, tt) rs (known-shape t effects.Ret rs (is_rest ∷ []) refl h) r m
terminator-roles t (effects.Opaque kinds.Branch) rs h g r m = none-counted is_definition_role rs r (first_of_both _ _ (first_of_both _ _ (second_of_both _ _ h))) m
terminator-roles t (effects.Opaque kinds.Return) rs h g r m = none-counted is_definition_role rs r (first_of_both _ _ (first_of_both _ _ (second_of_both _ _ h))) m
terminator-roles t e rs h g r m = absurd (cc)

-- an explicit definition takes a definition's role

pub defined-role : (t : Target) (e : Effect) (r : Role) (d : RegOp) → is_definition d ≡ true → fits_at t e r (operands.Reg d) ≡ true → is_definition_role r ≡ true
defined-role t e r d g h = by r h
  where
    unused : is_use d ≡ false
    unused = λ k. not (first_of_both d.def (not d.implicit) g k) && not d.implicit

    plain : (a : Bool) → (false || (a && false)) ≡ false
    plain true = refl
    plain false = refl

    value : (a b : Bool) → (false || (a && (false && b))) ≡ false
    value true b = refl
    value false b = refl

    used : ((is_use d || (is_opaque e && false)) ≡ true) → ⊥
    used h = let z = sym ((λ k. unused k || (is_opaque e && false)) ∙ plain (is_opaque e)) ∙ h in cc

    by : (r : Role) → fits_at t e r (operands.Reg d) ≡ true → is_definition_role r ≡ true
    by (roles.Def k) h = refl
    by (roles.Early k) h = refl
    by (roles.Read k) h = absurd (used h)
    by (roles.Tied k n) h = absurd (used h)
    by (roles.Address k) h = absurd (used h)
    by (roles.Value None) h = absurd (let z = sym ((λ k. false || (is_opaque e && (unused k && is_reserved_register t d.loc))) ∙ value (is_opaque e) (is_reserved_register t d.loc)) ∙ h in cc)
    by (roles.Value (Some k)) h = absurd (let z = sym ((λ k. false || (is_opaque e && unused k)) ∙ plain (is_opaque e)) ∙ h in cc)
    by roles.Any h = absurd (let z = sym ((λ k. unused k || (is_opaque e && (unused k && is_reserved_register t d.loc))) ∙ value (is_opaque e) (is_reserved_register t d.loc)) ∙ h in cc)
    by roles.Rest h = absurd (let z = sym ((λ k. (unused k && not (is_virtual d.loc)) || (is_opaque e && false)) ∙ plain (is_opaque e)) ∙ h in cc)
    by r h = absurd (let z = sym (plain (is_opaque e)) ∙ h in cc)

pub terminator-plain : (t : Target) (f : Function) (i : Instr) (e : Effect) → effect_of t i ≡ Some e → has_roles e ≡ true → V1 t f i ≡ true → is_terminator e ≡ true → (o : RegOp) → Among (operands.Reg o) i.operands → is_definition o ≡ false
terminator-plain t f i e known h one ends o m = go (is_definition o) refl
  where
    go : (y : Bool) → is_definition o ≡ y → is_definition o ≡ false
    go false g = g
    go true g =
        let explicit : not (is_implicit_operand (operands.Reg o)) ≡ true = second_of_both o.def (not o.implicit) g in
        let z = fit-role t e (explicit_roles (roles_of t i)) (explicit_operands i.operands) (operands.Reg o) (fit-operands t f i e known h one).1 (filter-in (λ x. not (is_implicit_operand x)) (operands.Reg o) i.operands m explicit) in
        let y = filter-of (λ (r : Role). not (is_implicit r)) z.0 (roles_of t i) z.1 in
        let a = terminator-roles t e (roles_of t i) (fit-roles t f i e known h one) ends z.0 y.0 in
        let b = defined-role t e z.0 o g z.2 in
        absurd (let c : true ≡ false = sym b ∙ a in cc)
