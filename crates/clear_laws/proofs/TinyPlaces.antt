-- Each operand of the range at a place has a tiny, with the widths of its lanes: that of its definition, or that of its way of reading.
use Rattle.std.proofs.Common.{◌≡◌, ◌≤◌, ◌⊎◌, inl, inr, ◌+◌, ◌∷◌, ◌∙◌, ◌&&◌, ◌||◌, not, ℕ, suc, zero, Bool, true, false, cond, List, Option, Some, None, flat_map, length, map, refl, sym, ap, subst, arith, eqb-true, eq-eqb, []}
use Rattle.std.specs.Prelude.{filter_map, find, is_none, nat_eq, option_and_then, option_map, slice_get}
use Rattle.std.specs.List.{list_all, list_any}
use Rattle.target_base.specs.declared.types.ClassId.{ClassId}
use Rattle.target_base.specs.declared.types.Effect.{Effect}
use Rattle.target_base.specs.declared.types.IndexId.{IndexId}
use Rattle.target_base.specs.declared.types.Role.{Role}
use Rattle.target_base.specs.declared.types.Role.TheVariants as roles
use Rattle.target_base.specs.declared.types.Target.{Target}
use Rattle.target_base.specs.Registers.{IsClass, move_class, widths_of, widths_of_some}
use Rattle.target_base.specs.Roles.{is_any, is_definition as is_definition_role, is_implicit, is_tied}
use Rattle.target_base.proofs.Tests.{first_of_both, second_of_both}
use Rattle.meaning.specs.Live.{Among as Member, here as first, there as later}
use Rattle.mir_func.specs.declared.func.Loc.TheVariants.{Virtual}
use Rattle.mir_func.specs.declared.func.RegOp.{RegOp}
use Rattle.mir_func.specs.declared.func.Operand.{Operand}
use Rattle.mir_func.specs.declared.func.Operand.TheVariants as operands
use Rattle.mir_func.specs.declared.func.Instr.{Instr}
use Rattle.mir_func.specs.Value.{Function}
use Rattle.mir_func.specs.Binding.{Bound, any_class, as_register, asked_class, bound, class_of, explicit_bound, explicit_operands, explicit_roles, implicit_bound, implicit_registers, implicit_roles, is_early, is_virtual, moving_class as operand_moving, numbered, operand_class, passes, register_at, registers, roles_of, same_index, same_loc, takes_many, tied_number, tied_pair, tied_pairs}
use Rattle.mir_meaning.specs.Places.{Defining, Using, Variable, each_once, has_tied_use, is_defining, operand_variable, operand_variables, register_variable, same_class, same_use, variable}
use Rattle.mir_meaning.specs.Registers.{range_widths}
use Rattle.mir_meaning.specs.Rules.{explicit_fit, fits_at, implicit_last, in_operand_class, is_free_undef, is_opaque}
use Rattle.two_address.specs.Classes.{seated as with_roles}
use Rattle.instr_effects.proofs.Members.{filter-in, filter-of, flat-in, flat-of, left-in, member-elim, member-none}
use Rattle.live_laws.proofs.Effects.Lists.{all-of, any-in}
use Rattle.live_laws.proofs.Effects.Moving.{some-same}
use Rattle.live_laws.proofs.Effects.Shapes.{class-there, index-there, lanes-there}
use Rattle.lowering_laws.specs.Form.{shares_register}
use Rattle.lowering_laws.proofs.Counted.{operand-class}
use Rattle.lowering_laws.proofs.Rolled.{Leads, defined-by, definition-explicit, explicit-front, first as leads-first, fit-operands, fit-roles, front-role, later as leads-later, role-leads, tied-role}
use Rattle.lowering_laws.proofs.RulesStay.{same-register}
use Rattle.lowering_laws.proofs.Seated.{bound-role, pair-of, pair_with, register-in, role-tied, told-in, told-of}
use Rattle.lowering_laws.proofs.Widths.{bound-class}
use Rattle.spiller.specs.Rematerialised.{own_variables, ways_read}
use Rattle.spiller.specs.Setting.{Spilling, is_own, own_lanes}
use Rattle.spiller.specs.Spilled.{OwnDefinition, Seats, definitions_in, numbered_operands, own_definition, tiny_defined, tiny_read}
use Rattle.spill_laws.specs.Laws.{HasTinies}
use Rattle.spill_laws.proofs.Beside.{definition-tiny, way-tiny}
use Rattle.spill_laws.proofs.Ranges.{numbered-of}
use Rattle.spill_laws.proofs.Seated.{among-explicit, seat-of}
use Rattle.spill_laws.proofs.SlotPlaces.{width}
use Rattle.spill_laws.proofs.SpillItems.{OwnMove, own-at, own-move, own-widths-are}
use Rattle.spill_laws.proofs.TinyRules.{last, operand-there, own-explicit}
use Rattle.spill_laws.proofs.TinySeats.{Rolled, low-number, one-number, place_seats, rolled-by}
use Rattle.spill_laws.proofs.Touched.{UndefsFixed}
use Rattle.spill_laws.proofs.TinyForm.{range-same}

-- lists

find-some : {X : Type 0} (test : X → Bool) (xs : List X) (x : X) → Member x xs → test x ≡ true → (y : X) × (find test xs ≡ Some y) × Member y xs × (test y ≡ true)
find-some test [] x m e = absurd (member-none x m)
find-some {X = X} test (y ∷ xs) x m e = go (test y) refl (λ k. find-some test xs x k e)
  where
    go : (b : Bool) → test y ≡ b → (Member x xs → (w : X) × (find test xs ≡ Some w) × Member w xs × (test w ≡ true)) → (w : X) × (cond b (Some y) (find test xs) ≡ Some w) × Member w (y ∷ xs) × (test w ≡ true)
    go true g ih = (y, refl, first, g)
    go false g ih = member-elim x y xs (λ q. absurd (let h : test y ≡ true = ap test (sym q) ∙ e in cc)) (λ k. let w = ih k in (w.0, w.1, later w.2, w.3)) m

pub numbered-in : {X : Type 0} (n : ℕ) (xs : List X) (x : X) → Member x xs → (k : ℕ) × Member (k, x) (numbered n xs)
numbered-in n [] x m = absurd (member-none x m)
numbered-in {X = X} n (y ∷ xs) x m =
    member-elim x y xs
    (λ e. (n, subst (λ z. Member (n, z) (numbered n (y ∷ xs))) (sym e) first))
    (λ k. let w = numbered-in (suc n) xs x k in (w.0, later w.1)) m

-- the operand of a number, with its role
numbered-at : (m : ℕ) (rs : List Role) (os : List Operand) (j : ℕ) (x : Operand) → slice_get os j ≡ Some x → (r : Option Role) × Member (m + j, (r, x)) (numbered m (explicit_bound rs os))
numbered-at m rs [] j x e = absurd (cc)
numbered-at m [] (o ∷ os) zero x e = (None, subst (λ q. Member q (numbered m (explicit_bound [] (o ∷ os)))) (λ k. (nothing m k, (None, head o x e k))) first)
  where
    nothing : (m : ℕ) → m ≡ m + 0
    nothing m = omega arith

    head : (a b : Operand) → Some a ≡ Some b → a ≡ b
    head a b e = cc
numbered-at m (r ∷ rs) (o ∷ os) zero x e = (Some r, subst (λ q. Member q (numbered m (explicit_bound (r ∷ rs) (o ∷ os)))) (λ k. (nothing m k, (Some r, head o x e k))) first)
  where
    nothing : (m : ℕ) → m ≡ m + 0
    nothing m = omega arith

    head : (a b : Operand) → Some a ≡ Some b → a ≡ b
    head a b e = cc
numbered-at m [] (o ∷ os) (suc j) x e = let w = numbered-at (suc m) [] os j x e in (w.0, later (subst (λ k. Member (k, (w.0, x)) (numbered (suc m) (explicit_bound [] os))) (one m j) w.1))
  where
    one : (m j : ℕ) → suc m + j ≡ m + suc j
    one m j = omega arith
numbered-at m (r ∷ rs) (o ∷ os) (suc j) x e =
    let w = numbered-at (suc m) (cond (takes_many r) (r ∷ rs) rs) os j x e in
    (w.0, later (subst (λ k. Member (k, (w.0, x)) (numbered (suc m) (explicit_bound (cond (takes_many r) (r ∷ rs) rs) os))) (one m j) w.1))
  where
    one : (m j : ℕ) → suc m + j ≡ m + suc j
    one m j = omega arith

-- a use stands beside itself or one like it
once-has : (seen vs : List Variable) (v : Variable) → same_use v v ≡ true → Member v vs → (list_any (same_use v) seen ≡ true) ⊎ ((u : Variable) × Member u (each_once seen vs) × (same_use v u ≡ true))
once-has seen [] v e m = absurd (member-none v m)
once-has seen (x ∷ vs) v e m = go (list_any (same_use x) seen) refl (λ k. once-has seen vs v e k) (λ k. once-has (x ∷ seen) vs v e k)
  where
    Has : List Variable → List Variable → Type 0
    Has seen us = (list_any (same_use v) seen ≡ true) ⊎ ((u : Variable) × Member u us × (same_use v u ≡ true))

    or-else : (a b : Bool) → (a || b) ≡ true → (a ≡ true) ⊎ (b ≡ true)
    or-else true b e = inl refl
    or-else false b e = inr e

    tail : Has (x ∷ seen) (each_once (x ∷ seen) vs) → Has seen (x ∷ each_once (x ∷ seen) vs)
    tail (inr z) = inr (z.0, later z.1, z.2)
    tail (inl h) = by (or-else (same_use v x) (list_any (same_use v) seen) h)
      where
        by : (same_use v x ≡ true) ⊎ (list_any (same_use v) seen ≡ true) → Has seen (x ∷ each_once (x ∷ seen) vs)
        by (inl q) = inr (x, first, q)
        by (inr q) = inl q

    go : (b : Bool) → list_any (same_use x) seen ≡ b → (Member v vs → Has seen (each_once seen vs)) → (Member v vs → Has (x ∷ seen) (each_once (x ∷ seen) vs)) → Has seen (cond b (each_once seen vs) (x ∷ each_once (x ∷ seen) vs))
    go true g one two = member-elim v x vs (λ q. inl (ap (λ y. list_any (same_use y) seen) q ∙ g)) one m
    go false g one two = member-elim v x vs (λ q. inr (x, first, ap (same_use v) (sym q) ∙ e)) (λ k. tail (two k)) m

same-class-is : (x y : Option ClassId) → same_class x y ≡ true → x ≡ y
same-class-is None None h = refl
same-class-is (Some x) (Some y) h = ap (λ n. Some (record { 0 = n })) (eqb-true x.0 y.0 h)
same-class-is None (Some y) h = absurd (cc)
same-class-is (Some x) None h = absurd (cc)

same-index-is : (x y : Option IndexId) → same_index x y ≡ true → x ≡ y
same-index-is None None h = refl
same-index-is (Some x) (Some y) h = ap (λ n. Some (record { 0 = n })) (eqb-true x.0 y.0 h)
same-index-is None (Some y) h = absurd (cc)
same-index-is (Some x) None h = absurd (cc)

class-itself : (x : Option ClassId) → same_class x x ≡ true
class-itself None = refl
class-itself (Some x) = eq-eqb x.0 x.0 refl

index-itself : (x : Option IndexId) → same_index x x ≡ true
index-itself None = refl
index-itself (Some x) = eq-eqb x.0 x.0 refl

use-itself : (v : ℕ) (x : Option IndexId) (k : Option ClassId) → same_use (variable Using v x k) (variable Using v x k) ≡ true
use-itself v x k = λ j. eq-eqb v v refl j && index-itself x j && class-itself k j

-- the definition to which a role ties is there
not-either : (b : Bool) → (false || (b && false)) ≡ true → ⊥
not-either true e = cc
not-either false e = cc

definition-register : (t : Target) (e : Effect) (r : Role) (x : Operand) → is_definition_role r ≡ true → fits_at t e r x ≡ true → (d : RegOp) × (x ≡ operands.Reg d)
definition-register t e r (operands.Reg d) g h = (d, refl)
definition-register t e (roles.Def k) x g h = absurd (not-either (is_opaque e) h)
definition-register t e (roles.Early k) x g h = absurd (not-either (is_opaque e) h)
definition-register t e r x g h = absurd (cc)

definition-there : (t : Target) (e : Effect) {n : ℕ} {rs : List Role} {r : Role} → Leads n rs r → (os : List Operand) → implicit_last os ≡ true → explicit_fit t e (explicit_roles rs) (explicit_operands os) ≡ true → (d : RegOp) × (slice_get os n ≡ Some (operands.Reg d))
definition-there t e (leads-first {r = r} {rs = rs} g) [] last fits = absurd (let a = first_of_both (takes_many r) (list_all takes_many (explicit_roles rs)) (subst (λ qs. explicit_fit t e qs [] ≡ true) (front-role r rs g) fits) in let b = (definition-explicit r g).1 in cc)
definition-there t e (leads-first {r = r} {rs = rs} g) (x ∷ os) last fits =
    let z = explicit-front t e r rs x os g last fits in
    let y = definition-register t e r x g z.2 in
    (y.0, ap Some y.1)
definition-there t e (leads-later {q = q} {r = r} {rs = rs} g l) [] last fits = absurd (let a = first_of_both (takes_many q) (list_all takes_many (explicit_roles rs)) (subst (λ qs. explicit_fit t e qs [] ≡ true) (front-role q rs g) fits) in let b = (definition-explicit q g).1 in cc)
definition-there t e (leads-later {q = q} {r = r} {rs = rs} g l) (x ∷ os) last fits =
    let z = explicit-front t e q rs x os g last fits in
    definition-there t e l os z.1 z.3

module _ (s : Spilling) (g : Function) (c : ℕ) (p : List Instr) (h : HasTinies s g c p) where
  abbrev t : Target
  t = s.target

  abbrev f : Function
  f = s.func

  abbrev z : Seats
  z = place_seats s g c p h

  module _ (i : Instr) (mi : Member i p) where
    abbrev os : List Operand
    os = i.operands

    abbrev es : List Role
    es = explicit_roles (roles_of s.target i)

    role-effect : Rolled t i
    role-effect = rolled-by t i (h.placed i mi)

    -- an operand of the range, by its number
    pub record IsOwn (k : ℕ) (q : Option Role) (o : RegOp) : Type 0 where
      pub among : Member (k, (q, operands.Reg o)) (numbered_operands t i)
      pub own : is_own s o ≡ true

    -- its class has the widths of its lanes
    pub record OwnClass (q : Option Role) (o : RegOp) : Type 0 where
      pub class : ClassId
      pub is : operand_class t f q o ≡ Some class
      pub known : IsClass t class
      pub wide : widths_of t class ≡ map (width s) (own_lanes s o.index)

    module _ (k : ℕ) (q : Option Role) (o : RegOp) (own : IsOwn k q o) where
      inside : Member (operands.Reg o) os
      inside = operand-there s g c p h i mi k q o own.among

      pub register-inside : Member o (registers os)
      register-inside = register-in o os inside

      pub at-range : o.loc ≡ Virtual s.range
      at-range = own-at s.range o.loc own.own

      in-bound : Member (q, operands.Reg o) (explicit_bound es os)
      in-bound = numbered-of 0 (explicit_bound es os) (k, (q, operands.Reg o)) own.among

      pub explicit-own : o.implicit ≡ false
      explicit-own = own-explicit s g c p h i mi o inside own.own

      in-explicit : Member (q, operands.Reg o) (explicit_bound es (explicit_operands os))
      in-explicit = among-explicit es os q (operands.Reg o) (last s g c p h i mi) explicit-own in-bound

      pub in-all : Member (q, operands.Reg o) (bound t i)
      in-all = left-in (q, operands.Reg o) (explicit_bound es (explicit_operands os)) (map (implicit_bound (implicit_roles (roles_of t i))) (implicit_registers os)) in-explicit

      pub class-own : OwnClass q o
      class-own =
          let r = role-effect in
          let shaped = h.shaped i mi in
          let w = seat-of t f h.classes i shaped r.effect r.known r.rolled o s.range at-range register-inside q in-explicit in
          let m = own-move s h.classes o.loc o.index own.own (class-there t f i shaped o register-inside) (index-there t f i shaped o register-inside) in
          record {
            class = w.2.class;
            is = ap (λ x. operand_class t f x o) w.1 ∙ w.2.is;
            known = w.2.is_class;
            wide = by w.0 w.2.class w.2.is m (operand-class t f i r.effect r.known shaped.widths (q, operands.Reg o) in-all) w.1;
          }
        where
          both-moving : (x : Option ClassId) (a b : ClassId) → operand_moving t x o ≡ Some a → option_and_then (λ d. move_class t d o.index) x ≡ Some b → a ≡ b
          both-moving None a b u w = absurd (cc)
          both-moving (Some d) a b u w = some-same a b (sym u ∙ w)

          by : (r : Role) (a : ClassId) → operand_class t f (Some r) o ≡ Some a → (m : OwnMove s o.index) → in_operand_class t f (role-effect).effect (q, operands.Reg o) ≡ true → q ≡ Some r → widths_of t a ≡ map (width s) (own_lanes s o.index)
          by r a e m lies is = go (is_any r) refl e
            where
              go : (b : Bool) → is_any r ≡ b → cond b (any_class t f o o.loc) (asked_class r) ≡ Some a → widths_of t a ≡ map (width s) (own_lanes s o.index)
              go true n e = ap (widths_of t) (both-moving (class_of f s.range) a m.class (sym (ap (any_class t f o) at-range) ∙ e) m.is) ∙ m.wide
              go false n e =
                  sym (bound-class t f h.classes (role-effect).effect r a o s.range at-range e (lanes-there t f i (h.shaped i mi) o register-inside) (subst (λ y. in_operand_class t f (role-effect).effect (y, operands.Reg o) ≡ true) is lies))
                  ∙ own-widths-are s o own.own

      -- a tiny with these widths
      pub record HasWidths (n : ℕ) : Type 0 where
        pub class : ClassId
        pub is : class_of g n ≡ Some class
        pub known : IsClass t class
        pub wide : range_widths t g n ≡ map (width s) (own_lanes s o.index)
        pub further : length f.classes ≤ n

      pub widths-by : (n : ℕ) (d : Option ClassId) → class_of g n ≡ d → d ≡ operand_class t f q o → c ≤ n → HasWidths n
      widths-by n d a e low =
          let w = class-own in
          let is : class_of g n ≡ Some w.class = a ∙ (e ∙ w.is) in
          record { class = w.class; is = is; known = w.known; wide = ap (widths_of_some t) is ∙ w.wide; further = let v = h.further in omega (arith, low, v) }

      -- the tiny of a definition
      pub record DefinedTiny (n : ℕ) : Type 0 where
        pub by : OwnDefinition
        pub among : Member (n, by) z.definitions
        pub instr : by.by ≡ i
        pub number : by.number ≡ k
        pub index : by.index ≡ o.index
        pub class : by.class ≡ operand_class t f q o
        pub has : HasWidths n

      abbrev one : OwnDefinition
      one = record { by = i; number = k; index = o.index; class = operand_class s.target s.func q o }

      abbrev made : Instr → ℕ → Option Role → RegOp → OwnDefinition
      made j n r u = record { by = j; number = n; index = u.index; class = operand_class s.target s.func r u }

      -- a definition of the range with this instruction's id and this number
      definition-is : (d : OwnDefinition) → Member d (definitions_in s p) → d.by.id ≡ i.id → d.number ≡ k → d ≡ one
      definition-is d m id number = let y = flat-of (λ j. filter_map (own_definition s j) (numbered_operands s.target j)) d p m in go y.0 y.1 (told-of (own_definition s y.0) d (numbered_operands s.target y.0) y.2)
        where
          at : (n : ℕ) (r : Option Role) (u : RegOp) → Member (n, (r, operands.Reg u)) (numbered_operands s.target i) → n ≡ k → made i n r u ≡ one
          at n r u a e =
              let same = one-number 0 (explicit_bound es os) k (r, operands.Reg u) (q, operands.Reg o) (subst (λ x. Member (x, (r, operands.Reg u)) (numbered_operands s.target i)) e a) own.among in
              let reg = same-register u o (ap (λ (b : Bound). b.1) same) in
              λ x. record { by = i; number = e x; index = (reg x).index; class = operand_class s.target s.func (ap (λ (b : Bound). b.0) same x) (reg x) }

          told : (j : Instr) → Member j p → (n : ℕ) (r : Option Role) (x : Operand) → Member (n, (r, x)) (numbered_operands s.target j) → own_definition s j (n, (r, x)) ≡ Some d → d ≡ one
          told j mj n r (operands.Reg u) a e = by (is_own s u && u.def) e
            where
              by : (b : Bool) → cond b (Some (made j n r u)) None ≡ Some d → d ≡ one
              by false e = absurd (cc)
              by true e =
                  let is = some-same (made j n r u) d e in
                  let same : j ≡ i = h.once j i mj mi (ap (λ (y : OwnDefinition). y.by.id) is ∙ id) in
                  sym is ∙ (ap (λ y. made y n r u) same ∙ at n r u (subst (λ y. Member (n, (r, operands.Reg u)) (numbered_operands s.target y)) same a) (ap (λ (y : OwnDefinition). y.number) is ∙ number))
          told j mj n r x a e = absurd (cc)

          go : (j : Instr) → Member j p → (w : ℕ × Bound) × Member w (numbered_operands s.target j) × (own_definition s j w ≡ Some d) → d ≡ one
          go j mj w = told j mj w.0.0 w.0.1.0 w.0.1.1 w.1 w.2

      pub tiny-at : o.def ≡ true → (n : ℕ) × (tiny_defined z i k ≡ Some n) × DefinedTiny n
      tiny-at def =
          let ways = length (ways_read s p) in
          let here : Member one (definitions_in s p) = flat-in (λ j. filter_map (own_definition s j) (numbered_operands s.target j)) one i p mi (told-in (own_definition s i) one (k, (q, operands.Reg o)) (numbered_operands s.target i) own.among (λ x. cond (own.own x && def x) (Some one) None)) in
          let y = numbered-in (c + ways) (definitions_in s p) one here in
          let test : ℕ × OwnDefinition → Bool = λ x. nat_eq x.1.by.id i.id && nat_eq x.1.number k in
          let w = find-some test z.definitions (y.0, one) y.1 (λ x. eq-eqb i.id i.id refl x && eq-eqb k k refl x) in
          let id = eqb-true w.0.1.by.id i.id (first_of_both (nat_eq w.0.1.by.id i.id) (nat_eq w.0.1.number k) w.3) in
          let number = eqb-true w.0.1.number k (second_of_both (nat_eq w.0.1.by.id i.id) (nat_eq w.0.1.number k) w.3) in
          let is = definition-is w.0.1 (numbered-of (c + ways) (definitions_in s p) w.0 w.2) id number in
          let low = low-number (c + ways) (definitions_in s p) w.0 w.2 in (
            w.0.0,
            ap (option_map (λ (x : ℕ × OwnDefinition). x.0)) w.1,
            record {
              by = w.0.1;
              among = w.2;
              instr = ap (λ (x : OwnDefinition). x.by) is;
              number = number;
              index = ap (λ (x : OwnDefinition). x.index) is;
              class = ap (λ (x : OwnDefinition). x.class) is;
              has = widths-by w.0.0 w.0.1.class (definition-tiny s g c p h.tinies w.0 w.2) (ap (λ (x : OwnDefinition). x.class) is) (omega (arith, low));
            },
          )

      -- the tiny of a way of reading
      pub record WayTiny (n : ℕ) : Type 0 where
        pub way : Variable
        pub among : Member (n, way) z.ways
        pub read : Member way (ways_read s p)
        pub index : way.index ≡ o.index
        pub class : way.class ≡ operand_class t f q o
        pub reads : list_any (same_use way) (own_variables s i) ≡ true
        pub has : HasWidths n

      abbrev its : Variable
      its = variable Using s.range o.index (operand_class s.target s.func q o)

      -- it is among the instruction's variables, where it is read and not tied
      in-variables : o.def ≡ false → o.undef ≡ false → option_and_then tied_number q ≡ None → Member (variable Using s.range o.index (operand_class s.target s.func q o)) (own_variables s i)
      in-variables used plain untied =
          let y = numbered-in 0 (bound t i) (q, operands.Reg o) in-all in
          filter-in (λ (x : Variable). nat_eq x.range s.range) its (operand_variables t f i)
          (told-in (λ (x : ℕ × Bound). operand_variable t f (has_tied_use t i x.0) x.1) its (y.0, (q, operands.Reg o)) (numbered 0 (bound t i)) y.1
          (ap (register_variable t f (has_tied_use t i y.0) q o) at-range ∙ (λ j. cond (used j) (Some (variable (Defining (has_tied_use t i y.0) (passes is_early q)) s.range o.index (operand_class t f q o))) (cond (plain j || not-tied q untied j) None (Some its)))))
          (eq-eqb s.range s.range refl)
        where
          not-tied : (q : Option Role) → option_and_then tied_number q ≡ None → passes is_tied q ≡ false
          not-tied None e = refl
          not-tied (Some (roles.Tied k n)) e = absurd (cc)
          not-tied (Some r) e = by r e
            where
              by : (r : Role) → tied_number r ≡ None → is_tied r ≡ false
              by (roles.Tied k n) e = absurd (cc)
              by r e = refl

      pub way-at : o.def ≡ false → o.undef ≡ false → option_and_then tied_number q ≡ None → (n : ℕ) × (tiny_read s z q o ≡ Some n) × WayTiny n
      way-at used plain untied =
          let v = its in
          let m = in-variables used plain untied in
          let all = flat_map (own_variables s) p in
          let u = kept-use (once-has [] all v (use-itself s.range o.index (operand_class t f q o)) (flat-in (own_variables s) v i p mi m)) in
          let parts = use-parts u.0 u.2 in
          let read : Member u.0 (ways_read s p) = filter-in (λ (x : Variable). not (is_defining x.kind)) u.0 (each_once [] all) u.1 parts.0 in
          let y = numbered-in c (ways_read s p) u.0 read in
          let w = find-some (λ (x : ℕ × Variable). same_use v x.1) z.ways (y.0, u.0) y.1 u.2 in
          let again = use-parts w.0.1 w.3 in
          let low = low-number c (ways_read s p) w.0 w.2 in (
            w.0.0,
            ap (option_map (λ (x : ℕ × Variable). x.0)) w.1,
            record {
              way = w.0.1;
              among = w.2;
              read = numbered-of c (ways_read s p) w.0 w.2;
              index = again.2;
              class = again.3;
              reads = any-in (same_use w.0.1) v (own_variables s i) m (use-fits w.0.1 again.0 again.1 again.2 again.3);
              has = widths-by w.0.0 w.0.1.class (way-tiny s g c p h.tinies w.0 w.2) again.3 low;
            },
          )
        where
          kept-use : (list_any (same_use (variable Using s.range o.index (operand_class s.target s.func q o))) [] ≡ true) ⊎ ((u : Variable) × Member u (each_once [] (flat_map (own_variables s) p)) × (same_use (variable Using s.range o.index (operand_class s.target s.func q o)) u ≡ true))
              → (u : Variable) × Member u (each_once [] (flat_map (own_variables s) p)) × (same_use (variable Using s.range o.index (operand_class s.target s.func q o)) u ≡ true)
          kept-use (inl e) = absurd (cc)
          kept-use (inr u) = u

          not-or : (b : Bool) → not b ≡ true → not (b || false) ≡ true
          not-or true e = absurd (cc)
          not-or false e = refl

          use-fits : (u : Variable) → not (is_defining u.kind) ≡ true → u.range ≡ s.range → u.index ≡ o.index → u.class ≡ operand_class s.target s.func q o → same_use u its ≡ true
          use-fits u a b d e = λ j. not-or (is_defining u.kind) a j && (ap (λ n. nat_eq n s.range) b ∙ eq-eqb s.range s.range refl) j && (ap (λ x. same_index x o.index) d ∙ index-itself o.index) j && (ap (λ x. same_class x (operand_class t f q o)) e ∙ class-itself (operand_class t f q o)) j

          use-parts : (u : Variable) → same_use (variable Using s.range o.index (operand_class s.target s.func q o)) u ≡ true → (not (is_defining u.kind) ≡ true) × (u.range ≡ s.range) × (u.index ≡ o.index) × (u.class ≡ operand_class s.target s.func q o)
          use-parts u e =
              let a = first_of_both _ (same_class (operand_class t f q o) u.class) e in
              let b = first_of_both _ (same_index o.index u.index) a in (
                first_of_both (not (is_defining u.kind)) (nat_eq s.range u.range) b,
                sym (eqb-true s.range u.range (second_of_both (not (is_defining u.kind)) (nat_eq s.range u.range) b)),
                sym (same-index-is o.index u.index (second_of_both _ (same_index o.index u.index) a)),
                sym (same-class-is (operand_class t f q o) u.class (second_of_both _ (same_class (operand_class t f q o) u.class) e)),
              )

      -- the definition to which its role ties it
      pub record TiedTo (j : ℕ) : Type 0 where
        pub role : Option Role
        pub operand : RegOp
        pub is : IsOwn j role operand
        pub def : operand.def ≡ true
        pub index : operand.index ≡ o.index
        pub pair : Member (pair_with j operand o) (tied_pairs t i)

      pub tied-to : (j : ℕ) → option_and_then tied_number q ≡ Some j → TiedTo j
      tied-to j ties =
          let r = role-effect in
          let shaped = h.shaped i mi in
          let fits = fit-operands t f i r.effect r.known r.rolled shaped.operands in
          let u = role-tied q j ties in
          let v = tied-role u.0 j (subst (λ y. option_and_then tied_number y ≡ Some j) u.1 ties) in
          let own-role = bound-role es os u.0 (operands.Reg o) (subst (λ y. Member (y, operands.Reg o) (explicit_bound es os)) u.1 in-bound) in
          let leads = role-leads t r.effect (roles_of t i) (fit-roles t f i r.effect r.known r.rolled shaped.operands) r.rolled v.0 j (subst (λ y. Member y (roles_of t i)) v.1 (filter-of (λ (y : Role). not (is_implicit y)) u.0 (roles_of t i) own-role).0) in
          let d = definition-there t r.effect leads.1 os fits.0 fits.1 in
          let at : register_at os j ≡ Some d.0 = ap (option_and_then as_register) d.1 in
          let pair = pair_with j d.0 o in
          let is-pair = pair-of os q o j d.0 ties at in
          let inside = told-in (tied_pair os) pair (q, operands.Reg o) (bound t i) in-all is-pair in
          let shares = all-of shares_register pair (tied_pairs t i) inside (second_of_both _ _ (h.lowered i mi)) in
          let range = range-same s.range d.0.loc o.loc (first_of_both (same_loc d.0.loc o.loc) (same_index d.0.index o.index) shares) in
          let defines = (defined-by t f i r.effect r.known r.rolled shaped.operands pair (told-in (tied_pair os) pair (q, operands.Reg o) (with_roles t i) in-bound is-pair)).is in
          let y = numbered-at 0 es os j (operands.Reg d.0) d.1 in
          record {
            role = y.0;
            operand = d.0;
            is = record { among = subst (λ n. Member (n, (y.0, operands.Reg d.0)) (numbered_operands t i)) (nothing j) y.1; own = range ∙ own.own };
            def = first_of_both d.0.def (not d.0.implicit) defines;
            index = same-index-is d.0.index o.index (second_of_both (same_loc d.0.loc o.loc) (same_index d.0.index o.index) shares);
            pair = inside;
          }
        where
          nothing : (n : ℕ) → 0 + n ≡ n
          nothing n = omega arith

      -- an `undef` use of the range is tied
      pub undef-tied : UndefsFixed t i → o.def ≡ false → o.undef ≡ true → option_and_then tied_number q ≡ None → ⊥
      undef-tied fixed used undef untied =
          let free : is_free_undef (q, operands.Reg o) ≡ true = λ k. not (used k) && undef k && is_none (untied k) in
          let a = fixed q o in-all free in
          let b : is_virtual o.loc ≡ true = ap is_virtual at-range in
          cc
