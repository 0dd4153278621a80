-- The class of an operand of the range, by its role: it is there, and has as many lanes as the operand.
use Rattle.std.proofs.Common.{◌≡◌, ◌∙◌, ◌&&◌, ◌||◌, not, ℕ, Bool, true, false, cond, List, [], ◌∷◌, Option, Some, None, length, map, refl, sym, ap, subst}
use Rattle.std.specs.Prelude.{is_some, option_map, slice_index}
use Rattle.std.specs.List.{list_all}
use Rattle.target_base.specs.declared.types.ClassId.{ClassId}
use Rattle.target_base.specs.declared.types.Effect.{Effect}
use Rattle.target_base.specs.declared.types.IndexId.{IndexId}
use Rattle.target_base.specs.declared.types.OpcodeDesc.{OpcodeDesc}
use Rattle.target_base.specs.declared.types.Role.{Role}
use Rattle.target_base.specs.declared.types.Role.TheVariants as roles
use Rattle.target_base.specs.declared.types.Target.{Target}
use Rattle.target_base.specs.Registers.{IsClass, fits, lanes_of, widths_of, widths_of_some}
use Rattle.target_base.specs.Roles.{is_any, is_silent}
use Rattle.target_base.proofs.Tests.{first_of_both, second_of_both}
use Rattle.meaning.specs.Live.{Among as Member, here as first, there as later}
use Rattle.mir_func.specs.declared.func.Loc.TheVariants.{Virtual}
use Rattle.mir_func.specs.declared.func.RegOp.{RegOp}
use Rattle.mir_func.specs.declared.func.Operand.{Operand}
use Rattle.mir_func.specs.declared.func.Operand.TheVariants as operands
use Rattle.mir_func.specs.declared.func.Instr.{Instr}
use Rattle.mir_func.specs.Value.{Function}
use Rattle.mir_func.specs.Binding.{Bound, any_class, asked_class, bound, class_of, effect_of, explicit_bound, explicit_operands, explicit_roles, implicit_bound, implicit_registers, implicit_roles, is_implicit_operand, is_use, is_virtual, known_opcode, moving_class as operand_moving, operand_class, registers, roles_of, takes_many}
use Rattle.mir_meaning.specs.Registers.{located_widths, operand_widths}
use Rattle.mir_meaning.specs.Rules.{V2, explicit_fit, has_class, index_fits, fits_at, implicit_last, in_operand_class, is_opaque, is_reserved_register, widths_fit}
use Rattle.instr_effects.proofs.Members.{filter-in, left-in, member-elim, member-none}
use Rattle.live_laws.specs.Effects.Shaped.{AreClasses, IsShaped}
use Rattle.live_laws.proofs.Effects.Lists.{all-of}
use Rattle.live_laws.proofs.Effects.Moving.{some-same}
use Rattle.live_laws.proofs.Effects.Shapes.{class-there, index-there, lanes-there}
use Rattle.live_laws.proofs.Touch.Roles.{fit, has_roles, met}
use Rattle.lowering_laws.proofs.Rolled.{fit-operands}
use Rattle.lowering_laws.proofs.Seated.{bound-operand}
use Rattle.lowering_laws.proofs.Widths.{bound-class, through_index}
use Rattle.spill_laws.specs.Laws.{SeatsHaveClasses}
use Rattle.spill_laws.proofs.Classes.{move-of}
use Rattle.spill_laws.proofs.Ranges.{bound-known, operand-known}

-- operands that fit take roles

pub fits-role : (t : Target) (e : Effect) (rs : List Role) (os : List Operand) (r : Option Role) (x : Operand) → explicit_fit t e rs os ≡ true → Member (r, x) (explicit_bound rs os) → (q : Role) × (r ≡ Some q) × (fits_at t e q x ≡ true)
fits-role t e rs [] r x h m = absurd (member-none (r, x) m)
fits-role t e [] (y ∷ os) r x h m = absurd (cc)
fits-role t e (q ∷ rs) (y ∷ os) r x h m =
    let rest = cond (takes_many q) (q ∷ rs) rs in
    member-elim (r, x) (Some q, y) (explicit_bound rest os)
    (λ z. (q, ap (λ (b : Bound). b.0) z, ap (λ (b : Bound). fits_at t e q b.1) z ∙ first_of_both (fits_at t e q y) (explicit_fit t e rest os) h))
    (λ z. fits-role t e rest os r x (second_of_both (fits_at t e q y) (explicit_fit t e rest os) h) z) m

-- what takes a role among all operands, and isn't implicit, takes it among the explicit ones
pub among-explicit : (rs : List Role) (os : List Operand) (r : Option Role) (x : Operand) → implicit_last os ≡ true → is_implicit_operand x ≡ false → Member (r, x) (explicit_bound rs os) → Member (r, x) (explicit_bound rs (explicit_operands os))
among-explicit rs [] r x last n m = m
among-explicit rs (y ∷ os) r x last n m = go (is_implicit_operand y) refl (λ ss after k. among-explicit ss os r x after n k)
  where
    Later : Type 0
    Later = (ss : List Role) → implicit_last os ≡ true → Member (r, x) (explicit_bound ss os) → Member (r, x) (explicit_bound ss (explicit_operands os))

    by : (rs : List Role) → implicit_last os ≡ true → Later → Member (r, x) (explicit_bound rs (y ∷ os)) → Member (r, x) (explicit_bound rs (y ∷ explicit_operands os))
    by [] after ih k = member-elim (r, x) (None, y) (explicit_bound [] os) (λ e. subst (λ (b : Bound). Member b ((None, y) ∷ explicit_bound [] (explicit_operands os))) (sym e) first) (λ j. later (ih [] after j)) k
    by (s ∷ ss) after ih k =
        let rest = cond (takes_many s) (s ∷ ss) ss in
        member-elim (r, x) (Some s, y) (explicit_bound rest os) (λ e. subst (λ (b : Bound). Member b ((Some s, y) ∷ explicit_bound rest (explicit_operands os))) (sym e) first) (λ j. later (ih rest after j)) k

    go : (b : Bool) → is_implicit_operand y ≡ b → Later → Member (r, x) (explicit_bound rs (explicit_operands (y ∷ os)))
    go true g ih =
        let all : list_all is_implicit_operand os ≡ true = subst (λ (b : Bool). cond b (list_all is_implicit_operand os) (implicit_last os) ≡ true) g last in
        absurd (let z = all-of is_implicit_operand x (y ∷ os) (bound-operand rs (y ∷ os) r x m) (λ k. g k && all k) in cc)
    go false g ih =
        let after : implicit_last os ≡ true = subst (λ (b : Bool). cond b (list_all is_implicit_operand os) (implicit_last os) ≡ true) g last in
        subst (λ ys. Member (r, x) (explicit_bound rs ys)) (sym (λ k. cond (not (g k)) (y ∷ explicit_operands os) (explicit_operands os))) (by rs after ih m)

module _ (t : Target) (f : Function) (classes : AreClasses t f) (i : Instr) (shaped : IsShaped t f i) (e : Effect) (known : effect_of t i ≡ Some e) (rolled : has_roles e ≡ true) where
  two : list_all (in_operand_class t f e) (bound t i) ≡ true
  unfolding V2
  two = go (known_opcode t i.op) shaped.widths known
    where
      go : (q : Option OpcodeDesc) → elim q [ None ↦ true | Some d ↦ list_all (in_operand_class t f d.effect) (bound t i) && widths_fit t f d.effect i.operands ] ≡ true → option_map (λ d. d.effect) q ≡ Some e → list_all (in_operand_class t f e) (bound t i) ≡ true
      go None h g = absurd (cc)
      go (Some d) h g = subst (λ x. list_all (in_operand_class t f x) (bound t i) ≡ true) (some-same d.effect e g) (first_of_both (list_all (in_operand_class t f d.effect) (bound t i)) (widths_fit t f d.effect i.operands) h)

  module _ (o : RegOp) (v : ℕ) (at : o.loc ≡ Virtual v) where
    -- a virtual register is no implicit operand
    pub not-implicit : Member o (registers i.operands) → o.implicit ≡ false
    not-implicit m = go o.implicit refl
      where
        go : (b : Bool) → o.implicit ≡ b → o.implicit ≡ false
        go false h = h
        go true h =
            let d = (met t f i e known shaped.operands).0 in
            let all = (fit t f i e known shaped.operands rolled).implicit in
            let one = all-of (λ (x : RegOp). not (is_virtual x.loc) && not (is_silent d.effect)) o (implicit_registers i.operands) (filter-in (λ (x : RegOp). x.implicit) o (registers i.operands) m h) all in
            absurd (let z : not (is_virtual (Virtual v)) ≡ true = sym (ap (λ l. not (is_virtual l)) at) ∙ first_of_both (not (is_virtual o.loc)) (not (is_silent d.effect)) one in cc)

    module _ (there : Member o (registers i.operands)) where
      pub record Seat (q : Role) : Type 0 where
        pub class : ClassId
        pub is : operand_class t f (Some q) o ≡ Some class
        pub is_class : IsClass t class
        pub long : length (operand_widths t f o) ≡ length (widths_of t class)

      module _ (q : Role) (m : Member (Some q, operands.Reg o) (bound t i)) where
        asked : (k : ClassId) → asked_class q ≡ Some k → is_any q ≡ false → Seat q
        asked k a n =
            let is : operand_class t f (Some q) o ≡ Some k = ap (λ b. cond b (any_class t f o o.loc) (asked_class q)) n ∙ a in
            record {
              class = k;
              is = is;
              is_class = operand-known t f i (Some q) o k (bound-known t f i (Some q) (operands.Reg o) m) is;
              long = ap length (bound-class t f classes e q k o v at a (lanes-there t f i shaped o there) (all-of (in_operand_class t f e) (Some q, operands.Reg o) (bound t i) m two));
            }

        through : (b : ClassId) → class_of f v ≡ Some b → (x : Option IndexId) → located_widths t f (Virtual v) x ≡ through_index t b x
        through b d None = ap (widths_of_some t) d
        through b d (Some y) = ap (λ c. map (slice_index (widths_of_some t c)) (lanes_of t y)) d

        any : is_any q ≡ true → Seat q
        any n = go (class_of f v) refl (class-there t f i shaped o there) (index-there t f i shaped o there)
          where
            by : (b : ClassId) → class_of f v ≡ Some b → fits t b o.index ≡ true → Seat q
            by b d z =
                let w = move-of t b o.index (classes v b d) z in
                record {
                  class = w.class;
                  is = (λ k. cond (n k) (any_class t f o (at k)) (asked_class q)) ∙ (ap (λ c. operand_moving t c o) d ∙ w.is);
                  is_class = w.known;
                  long = ap length ((λ k. located_widths t f (at k) o.index) ∙ through b d o.index) ∙ sym w.long;
                }

            go : (c : Option ClassId) → class_of f v ≡ c → has_class f o.loc ≡ true → index_fits t f o.loc o.index ≡ true → Seat q
            go None d c z = absurd (let w : is_some (class_of f v) ≡ true = subst (λ l. has_class f l ≡ true) at c in cc)
            go (Some b) d c z = by b d (sym (ap (λ c. elim c as (λ c. Bool) [ None ↦ true | Some k ↦ fits t k o.index ]) d) ∙ subst (λ l. index_fits t f l o.index ≡ true) at z)

        not-reserved : is_reserved_register t o.loc ≡ false
        not-reserved = ap (is_reserved_register t) at

      value-none : (a b c : Bool) → c ≡ false → (false || (a && (b && c))) ≡ true → ⊥
      value-none true true c h e = cc
      value-none true false c h e = cc
      value-none false b c h e = cc

      rest-none : (a b c d : Bool) → b ≡ true → ((a && not b) || (c && false)) ≡ true → ⊥
      rest-none true true true d h e = cc
      rest-none true true false d h e = cc
      rest-none false true true d h e = cc
      rest-none false true false d h e = cc
      rest-none a false c d h e = cc

      plain-none : (a : Bool) → (false || (a && false)) ≡ true → ⊥
      plain-none true e = cc
      plain-none false e = cc

      pub seat : (q : Role) → Member (Some q, operands.Reg o) (bound t i) → fits_at t e q (operands.Reg o) ≡ true → Seat q
      seat (roles.Def k) m h = asked (roles.Def k) m k refl refl
      seat (roles.Early k) m h = asked (roles.Early k) m k refl refl
      seat (roles.Read k) m h = asked (roles.Read k) m k refl refl
      seat (roles.Tied k n) m h = asked (roles.Tied k n) m k refl refl
      seat (roles.Address k) m h = asked (roles.Address k) m k refl refl
      seat (roles.Value (Some k)) m h = asked (roles.Value (Some k)) m k refl refl
      seat (roles.Value None) m h = absurd (value-none (is_opaque e) (is_use o) (is_reserved_register t o.loc) (ap (is_reserved_register t) at) h)
      seat roles.Any m h = any roles.Any m refl
      seat roles.Rest m h = absurd (rest-none (is_use o) (is_virtual o.loc) (is_opaque e) true (ap is_virtual at) h)
      seat r m h = absurd (plain-none (is_opaque e) h)

      -- by its place among all operands
      pub seat-of : (r : Option Role) → Member (r, operands.Reg o) (explicit_bound (explicit_roles (roles_of t i)) (explicit_operands i.operands)) → (q : Role) × (r ≡ Some q) × Seat q
      seat-of r m =
          let w = fit-operands t f i e known rolled shaped.operands in
          let z = fits-role t e (explicit_roles (roles_of t i)) (explicit_operands i.operands) r (operands.Reg o) w.1 m in
          let n = left-in (r, operands.Reg o) (explicit_bound (explicit_roles (roles_of t i)) (explicit_operands i.operands)) (map (implicit_bound (implicit_roles (roles_of t i))) (implicit_registers i.operands)) m in
          (z.0, z.1, seat z.0 (subst (λ x. Member (x, operands.Reg o) (bound t i)) z.1 n) z.2)

pub seats_have_classes : SeatsHaveClasses
seats_have_classes t f i e o v r classes shaped known rolled at named m =
    let z = seat-of t f classes i shaped e known rolled o v at named r m in
    (z.2.class, ap (λ x. operand_class t f x o) z.1 ∙ z.2.is, z.2.is_class, z.2.long)
