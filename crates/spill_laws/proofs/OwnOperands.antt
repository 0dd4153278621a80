-- Operands that are the range at a place with tinies: their classes have their lane widths, and each definition and each way of
-- reading has a tiny of these widths.
use Rattle.std.proofs.Common.{◌≡◌, ◌∷◌, ◌∙◌, ◌&&◌, ◌||◌, ◌+◌, ◌≤◌, append-nil, not, ℕ, suc, zero, Bool, true, false, cond, List, Option, Some, None, flat_map, length, map, refl, sym, ap, subst, arith, eq-eqb, eqb-true, []}
use Rattle.std.specs.Prelude.{filter_map, nat_eq, option_and_then, option_map}
use Rattle.std.specs.List.{cons_option, list_any}
use Rattle.target_base.specs.declared.types.ClassId.{ClassId}
use Rattle.target_base.specs.declared.types.IndexId.{IndexId}
use Rattle.target_base.specs.declared.types.Role.{Role}
use Rattle.target_base.specs.declared.types.Role.TheVariants as roles
use Rattle.target_base.specs.declared.types.Target.{Target}
use Rattle.target_base.specs.Registers.{IsClass, move_class, widths_of, widths_of_some}
use Rattle.target_base.specs.Roles.{is_any, is_implicit, is_tied}
use Rattle.target_base.proofs.Tests.{first_of_both, second_of_both}
use Rattle.meaning.specs.Live.{Among as Member, here as first, there as later}
use Rattle.mir_func.specs.declared.func.Loc.{Loc}
use Rattle.mir_func.specs.declared.func.Loc.TheVariants.{Fixed, Virtual}
use Rattle.mir_func.specs.declared.func.RegOp.{RegOp}
use Rattle.mir_func.specs.declared.func.Operand.{Operand}
use Rattle.mir_func.specs.declared.func.Operand.TheVariants as operands
use Rattle.mir_func.specs.declared.func.Instr.{Instr}
use Rattle.mir_func.specs.Value.{Function}
use Rattle.mir_func.specs.Binding.{Bound, TiedPair, any_class, as_register, asked_class, bound, class_of, explicit_bound, explicit_operands, explicit_roles, implicit_bound, implicit_registers, implicit_roles, is_early, moving_class as operand_moving, numbered, operand_class, passes, register_at, registers, roles_of, same_index, same_loc, takes_many, tied_number, tied_pair, tied_pairs}
use Rattle.mir_meaning.specs.Places.{Defining, Using, Variable, each_once, has_tied_use, is_defining, operand_variable, operand_variables, register_variable, same_use, variable}
use Rattle.mir_meaning.specs.Points.{is_range}
use Rattle.mir_meaning.specs.Registers.{operand_widths, range_widths}
use Rattle.instr_effects.proofs.Members.{filter-in, filter-of, flat-in, flat-of, left-in, member-elim, member-none}
use Rattle.live_laws.proofs.Effects.Lists.{all-of, any-in}
use Rattle.live_laws.proofs.Effects.Moving.{some-same}
use Rattle.live_laws.proofs.Effects.Shapes.{class-there, index-there, lanes-there}
use Rattle.lowering_laws.specs.Form.{shares_register}
use Rattle.lowering_laws.proofs.Counted.{operand-class}
use Rattle.lowering_laws.proofs.Formed.{tied-seat}
use Rattle.two_address.specs.Classes.{seated as with_roles}
use Rattle.lowering_laws.proofs.Rolled.{defined-by, fit-operands, fit-roles, role-leads, tied-role}
use Rattle.lowering_laws.proofs.RulesStay.{widths}
use Rattle.lowering_laws.proofs.Seated.{bound-role, pair-of, pair_with, register-in, register-of, role-tied, told-in, told-of}
use Rattle.lowering_laws.proofs.Widths.{bound-class}
use Rattle.spiller.specs.Setting.{Spilling, is_own, own_lanes}
use Rattle.spiller.specs.Rematerialised.{own_variables, way_reading, ways_read}
use Rattle.spiller.specs.Spilled.{OwnDefinition, Seats, definitions_in, numbered_operands, own_definition, seats_from, tiny_defined, tiny_read}
use Rattle.spill_laws.specs.Laws.{HasTinies}
use Rattle.spill_laws.proofs.Beside.{definition-tiny, way-tiny}
use Rattle.spill_laws.proofs.Copies.{range-is}
use Rattle.spill_laws.proofs.Given.{operand-at, operand-wide, same-index-is}
use Rattle.spill_laws.proofs.Ranges.{numbered-of, once-of}
use Rattle.spill_laws.proofs.SameUses.{finds, numbered-in, once-there, one-use, use-same, use-turned}
use Rattle.spill_laws.proofs.Seated.{among-explicit, fits-role}
use Rattle.spill_laws.proofs.SlotPlaces.{width}
use Rattle.spill_laws.proofs.SpillItems.{own-move, own-widths-are}
use Rattle.spill_laws.proofs.TinyForm.{range-same}
use Rattle.spill_laws.proofs.TinyRules.{last, operand-there, own-explicit, own-number, rolled}
use Rattle.spill_laws.proofs.TinySeats.{low-number, one-number}
use Rattle.spill_laws.proofs.Touched.{definition-there}

-- a definition of the range by an instruction
pub record Defines (s : Spilling) (i : Instr) (d : OwnDefinition) : Type 0 where
  pub role : Option Role
  pub operand : RegOp
  pub among : Member (d.number, (role, operands.Reg operand)) (numbered_operands s.target i)
  pub own : is_own s operand ≡ true
  pub def : operand.def ≡ true
  pub by : d.by ≡ i
  pub index : d.index ≡ operand.index
  pub class : d.class ≡ operand_class s.target s.func role operand

pub defines-of : (s : Spilling) (i : Instr) (d : OwnDefinition) → Member d (filter_map (own_definition s i) (numbered_operands s.target i)) → Defines s i d
defines-of s i d m = let w = told-of (own_definition s i) d (numbered_operands s.target i) m in go w.0.0 w.0.1.0 w.0.1.1 w.1 w.2
  where
    go : (n : ℕ) (r : Option Role) (x : Operand) → Member (n, (r, x)) (numbered_operands s.target i) → own_definition s i (n, (r, x)) ≡ Some d → Defines s i d
    go n r (operands.Reg o) m e = by (is_own s o) o.def refl refl e
      where
        one : is_own s o ≡ true → o.def ≡ true → Defines s i (record { by = i; number = n; index = o.index; class = operand_class s.target s.func r o })
        one own def = record { role = r; operand = o; among = m; own = own; def = def; by = refl; index = refl; class = refl }

        by : (a b : Bool) → is_own s o ≡ a → o.def ≡ b → cond (a && b) (Some (record { by = i; number = n; index = o.index; class = operand_class s.target s.func r o })) None ≡ Some d → Defines s i d
        by true true own def e = subst (Defines s i) (some-same (record { by = i; number = n; index = o.index; class = operand_class s.target s.func r o }) d e) (one own def)
        by true false own def e = absurd (cc)
        by false b own def e = absurd (cc)
    go n r x m e = absurd (cc)

-- what has the number of a definition is that definition
module _ (s : Spilling) (i : Instr) where
  its-number : (j : ℕ) (v : Bound) (d : OwnDefinition) → own_definition s i (j, v) ≡ Some d → d.number ≡ j
  its-number j (r, operands.Reg o) d e = go (is_own s o && o.def) e
    where
      go : (b : Bool) → cond b (Some (record { by = i; number = j; index = o.index; class = operand_class s.target s.func r o })) None ≡ Some d → d.number ≡ j
      go true e = ap (λ (x : OwnDefinition). x.number) (sym (some-same (record { by = i; number = j; index = o.index; class = operand_class s.target s.func r o }) d e))
      go false e = absurd (cc)
  its-number j (r, x) d e = absurd (cc)

  low : (j : ℕ) (bs : List Bound) (d : OwnDefinition) → Member d (filter_map (own_definition s i) (numbered j bs)) → j ≤ d.number
  low j bs d m =
      let w = told-of (own_definition s i) d (numbered j bs) m in
      let a = low-number j bs w.0 w.1 in
      let b = its-number w.0.0 w.0.1 d w.2 in
      omega (arith, a, b)

  by-number : (j m : ℕ) (bs : List Bound) (x y : ℕ × OwnDefinition) → Member x (numbered m (filter_map (own_definition s i) (numbered j bs))) → Member y (numbered m (filter_map (own_definition s i) (numbered j bs))) → x.1.number ≡ y.1.number → x ≡ y
  by-number j m [] x y a b e = absurd (member-none x a)
  by-number j m (v ∷ bs) x y a b e = go (own_definition s i (j, v)) refl a b (λ k. by-number (suc j) k bs x y)
    where
      far : (d : OwnDefinition) → d.number ≡ j → (u w : ℕ × OwnDefinition) → u ≡ (m, d) → Member w (numbered (suc m) (filter_map (own_definition s i) (numbered (suc j) bs))) → u.1.number ≡ w.1.number → ⊥
      far d at u w is k q =
          let a = low (suc j) bs w.1 (numbered-of (suc m) (filter_map (own_definition s i) (numbered (suc j) bs)) w k) in
          let b : u.1.number ≡ j = ap (λ (v : ℕ × OwnDefinition). v.1.number) is ∙ at in
          omega (arith, a, b, q)

      go : (q : Option OwnDefinition) → own_definition s i (j, v) ≡ q → Member x (numbered m (cons_option q (filter_map (own_definition s i) (numbered (suc j) bs)))) → Member y (numbered m (cons_option q (filter_map (own_definition s i) (numbered (suc j) bs))))
          → ((k : ℕ) → Member x (numbered k (filter_map (own_definition s i) (numbered (suc j) bs))) → Member y (numbered k (filter_map (own_definition s i) (numbered (suc j) bs))) → x.1.number ≡ y.1.number → x ≡ y) → x ≡ y
      go None q a b ih = ih m a b e
      go (Some d) q a b ih =
          let at = its-number j v d q in
          member-elim x (m, d) (numbered (suc m) (filter_map (own_definition s i) (numbered (suc j) bs)))
          (λ u. member-elim y (m, d) (numbered (suc m) (filter_map (own_definition s i) (numbered (suc j) bs))) (λ w. u ∙ sym w) (λ k. absurd (far d at x y u k e)) b)
          (λ u. member-elim y (m, d) (numbered (suc m) (filter_map (own_definition s i) (numbered (suc j) bs))) (λ w. absurd (far d at y x w u (sym e))) (λ k. ih (suc m) u k e) b) a

  pub definition-once : (m : ℕ) (x y : ℕ × OwnDefinition) → Member x (numbered m (definitions_in s (i ∷ []))) → Member y (numbered m (definitions_in s (i ∷ []))) → x.1.number ≡ y.1.number → x ≡ y
  definition-once m x y a b e =
      let ds = filter_map (own_definition s i) (numbered_operands s.target i) in
      by-number 0 m (explicit_bound (explicit_roles (roles_of s.target i)) i.operands) x y (subst (λ xs. Member x (numbered m xs)) (append-nil ds) a) (subst (λ xs. Member y (numbered m xs)) (append-nil ds) b) e

-- a register at a place takes a role there, if any
pub seat-at : (j : ℕ) (rs : List Role) (os : List Operand) (n : ℕ) (d : RegOp) → register_at os n ≡ Some d → (r : Option Role) × Member (j + n, (r, operands.Reg d)) (numbered j (explicit_bound rs os))
seat-at j rs [] n d e = absurd (cc)
seat-at j [] (o ∷ os) zero d e =
    (None, subst (λ (x : ℕ × Operand). Member (x.0, (None, x.1)) (numbered j (explicit_bound [] (o ∷ os)))) (λ k. (nothing j k, register-of o d e k)) first)
  where
    nothing : (j : ℕ) → j ≡ j + 0
    nothing j = omega arith
seat-at j (r ∷ rs) (o ∷ os) zero d e =
    (Some r, subst (λ (x : ℕ × Operand). Member (x.0, (Some r, x.1)) (numbered j (explicit_bound (r ∷ rs) (o ∷ os)))) (λ k. (nothing j k, register-of o d e k)) first)
  where
    nothing : (j : ℕ) → j ≡ j + 0
    nothing j = omega arith
seat-at j [] (o ∷ os) (suc n) d e = let z = seat-at (suc j) [] os n d e in (z.0, later (subst (λ k. Member (k, (z.0, operands.Reg d)) (numbered (suc j) (explicit_bound [] os))) (one j n) z.1))
  where
    one : (j n : ℕ) → suc j + n ≡ j + suc n
    one j n = omega arith
seat-at j (r ∷ rs) (o ∷ os) (suc n) d e =
    let rest = cond (takes_many r) (r ∷ rs) rs in
    let z = seat-at (suc j) rest os n d e in
    (z.0, later (subst (λ k. Member (k, (z.0, operands.Reg d)) (numbered (suc j) (explicit_bound rest os))) (one j n) z.1))
  where
    one : (j n : ℕ) → suc j + n ≡ j + suc n
    one j n = omega arith

module _ (s : Spilling) (g : Function) (c : ℕ) (p : List Instr) (h : HasTinies s g c p) where
  abbrev t : Target
  t = s.target

  abbrev f : Function
  f = s.func

  abbrev z : Seats
  z = seats_from s c p

  -- the class of an operand of the range
  pub record OwnClass (q : Option Role) (o : RegOp) : Type 0 where
    pub class : ClassId
    pub is : operand_class t f q o ≡ Some class
    pub known : IsClass t class
    pub wide : widths_of t class ≡ map (width s) (own_lanes s o.index)

  -- a tiny of a class, with the widths of what an index picks of the range
  pub record Sized (n : ℕ) (q : Option ClassId) (x : Option IndexId) : Type 0 where
    pub class : ClassId
    pub is : q ≡ Some class
    pub known : IsClass t class
    pub wide : range_widths t g n ≡ map (width s) (own_lanes s x)

  module _ (i : Instr) (mi : Member i p) where
    abbrev es : List Role
    es = explicit_roles (roles_of t i)

    module _ (k : ℕ) (q : Option Role) (o : RegOp) (m : Member (k, (q, operands.Reg o)) (numbered_operands t i)) where
      pub there : Member o (registers i.operands)
      there = register-in o i.operands (operand-there s g c p h i mi k q o m)

      module _ (own : is_own s o ≡ true) where
        at : o.loc ≡ Virtual s.range
        at = range-is s g h.keeps h.classes s.range o.loc own

        pub explicit : o.implicit ≡ false
        explicit = own-explicit s g c p h i mi o (operand-there s g c p h i mi k q o m) own

        pub among : Member (q, operands.Reg o) (explicit_bound es (explicit_operands i.operands))
        among = among-explicit es i.operands q (operands.Reg o) (last s g c p h i mi) explicit (numbered-of 0 (explicit_bound es i.operands) (k, (q, operands.Reg o)) m)

        pub in-bound : Member (q, operands.Reg o) (bound t i)
        in-bound = left-in (q, operands.Reg o) (explicit_bound es (explicit_operands i.operands)) (map (implicit_bound (implicit_roles (roles_of t i))) (implicit_registers i.operands)) among

        moving-same : (b : Option ClassId) → operand_moving t b o ≡ option_and_then (λ a. move_class t a o.index) b
        moving-same None = refl
        moving-same (Some b) = refl

        pub own-class : OwnClass q o
        own-class =
            let r = rolled s g c p h i mi in
            let shaped = h.shaped i mi in
            let w = operand-wide s g h.keeps h.classes i shaped (h.placed i mi) o s.range at q (numbered-of 0 (explicit_bound es i.operands) (k, (q, operands.Reg o)) m) in
            let y = fits-role t r.effect es (explicit_operands i.operands) q (operands.Reg o) (fit-operands t f i r.effect r.known r.rolled shaped.operands).1 among in
            record { class = w.class; is = w.is; known = w.known; wide = by y.0 w.class (sym (ap (λ x. operand_class t f x o) y.1) ∙ w.is) (subst (λ x. Member (x, operands.Reg o) (bound t i)) y.1 in-bound) }
          where
            by : (a : Role) (b : ClassId) → operand_class t f (Some a) o ≡ Some b → Member (Some a, operands.Reg o) (bound t i) → widths_of t b ≡ map (width s) (own_lanes s o.index)
            by a b e mb = go (is_any a) refl e
              where
                go : (y : Bool) → is_any a ≡ y → cond y (any_class t f o o.loc) (asked_class a) ≡ Some b → widths_of t b ≡ map (width s) (own_lanes s o.index)
                go true u v =
                    let w = own-move s h.classes o.loc o.index own (class-there t f i (h.shaped i mi) o there) (index-there t f i (h.shaped i mi) o there) in
                    let same : w.class ≡ b = some-same w.class b (sym w.is ∙ (sym (moving-same (class_of f s.range)) ∙ (ap (any_class t f o) (sym at) ∙ v))) in
                    ap (widths_of t) (sym same) ∙ w.wide
                go false u v =
                    let r = rolled s g c p h i mi in
                    sym (bound-class t f h.classes r.effect a b o s.range at v (lanes-there t f i (h.shaped i mi) o there) (operand-class t f i r.effect r.known (h.shaped i mi).widths (Some a, operands.Reg o) mb)) ∙ own-widths-are s o own

        pub own-wide : operand_widths t g o ≡ map (width s) (own_lanes s o.index)
        own-wide = widths t f g h.keeps o.loc o.index (class-there t f i (h.shaped i mi) o there) ∙ own-widths-are s o own

        pub sized : (n : ℕ) → class_of g n ≡ operand_class t f q o → Sized n (operand_class t f q o) o.index
        sized n e = let w = own-class in record { class = w.class; is = w.is; known = w.known; wide = ap (widths_of_some t) (e ∙ w.is) ∙ w.wide }

    -- it stands at its number
    pub at-number : (k : ℕ) (q : Option Role) (o : RegOp) → Member (k, (q, operands.Reg o)) (numbered_operands t i) → register_at i.operands k ≡ Some o
    at-number k q o m =
        let a = operand-at 0 es i.operands k q (operands.Reg o) m in
        ap (register_at i.operands) (a.1 ∙ nothing a.0) ∙ ap (λ (x : Option Operand). option_and_then as_register x) a.2
      where
        nothing : (k : ℕ) → 0 + k ≡ k
        nothing k = omega arith

    -- a use that is tied to a definition names what that names
    pub record Shares (w : TiedPair) : Type 0 where
      pub own : is_own s w.definition ≡ is_own s w.tied_use
      pub index : w.definition.index ≡ w.tied_use.index
      pub at : register_at i.operands w.number ≡ Some w.definition

    pub pair-shares : (w : TiedPair) → Member w (tied_pairs t i) → Shares w
    pair-shares w m =
        let share = all-of shares_register w (tied_pairs t i) m (second_of_both _ _ (h.lowered i mi)) in
        record {
          own = range-same s.range w.definition.loc w.tied_use.loc (first_of_both (same_loc w.definition.loc w.tied_use.loc) (same_index w.definition.index w.tied_use.index) share);
          index = same-index-is w.definition.index w.tied_use.index (second_of_both (same_loc w.definition.loc w.tied_use.loc) (same_index w.definition.index w.tied_use.index) share);
          at = (tied-seat t i w m).3;
        }

    -- the definition to which a use of the range is tied is one of the range
    pub record TiedTo (n : ℕ) (o : RegOp) : Type 0 where
      pub definition : RegOp
      pub pair : Member (pair_with n definition o) (tied_pairs t i)
      pub own : is_own s definition ≡ true
      pub def : definition.def ≡ true
      pub index : definition.index ≡ o.index
      pub role : Option Role
      pub among : Member (n, (role, operands.Reg definition)) (numbered_operands t i)

    pub tied-to : (k : ℕ) (q : Option Role) (o : RegOp) → Member (k, (q, operands.Reg o)) (numbered_operands t i) → is_own s o ≡ true → (n : ℕ) → option_and_then tied_number q ≡ Some n → TiedTo n o
    tied-to k q o m own n ties =
        let r = rolled s g c p h i mi in
        let rule = (h.shaped i mi).operands in
        let fits = fit-operands t f i r.effect r.known r.rolled rule in
        let u = role-tied q n ties in
        let v = tied-role u.0 n (subst (λ y. option_and_then tied_number y ≡ Some n) u.1 ties) in
        let b = numbered-of 0 (explicit_bound es i.operands) (k, (q, operands.Reg o)) m in
        let own-role = bound-role es i.operands u.0 (operands.Reg o) (subst (λ y. Member (y, operands.Reg o) (with_roles t i)) u.1 b) in
        let leads = role-leads t r.effect (roles_of t i) (fit-roles t f i r.effect r.known r.rolled rule) r.rolled v.0 n (subst (λ y. Member y (roles_of t i)) v.1 (filter-of (λ (y : Role). not (is_implicit y)) u.0 (roles_of t i) own-role).0) in
        let d = definition-there t r.effect leads.1 i.operands fits.0 fits.1 in
        let pair = pair_with n d.0 o in
        let is-pair = pair-of i.operands q o n d.0 ties d.1 in
        let inside = told-in (tied_pair i.operands) pair (q, operands.Reg o) (bound t i) (in-bound k q o m own) is-pair in
        let shares = pair-shares pair inside in
        let defines = (defined-by t f i r.effect r.known r.rolled rule pair (told-in (tied_pair i.operands) pair (q, operands.Reg o) (with_roles t i) b is-pair)).is in
        let seat = seat-at 0 es i.operands n d.0 d.1 in
        record {
          definition = d.0;
          pair = inside;
          own = shares.own ∙ own;
          def = first_of_both d.0.def (not d.0.implicit) defines;
          index = shares.index;
          role = seat.0;
          among = subst (λ j. Member (j, (seat.0, operands.Reg d.0)) (numbered_operands t i)) (nothing n) seat.1;
        }
      where
        nothing : (n : ℕ) → 0 + n ≡ n
        nothing n = omega arith

    -- a variable of the range is one of its operands
    pub record OwnVariable (v : Variable) : Type 0 where
      pub number : ℕ
      pub role : Option Role
      pub operand : RegOp
      pub among : Member (number, (role, operands.Reg operand)) (numbered_operands t i)
      pub own : is_own s operand ≡ true
      pub index : v.index ≡ operand.index
      pub class : v.class ≡ operand_class t f role operand
      pub uses : is_defining v.kind ≡ false → operand.def ≡ false

    variable-own : (v : Variable) → Member v (own_variables s i) → OwnVariable v
    variable-own v m =
        let a = filter-of (λ (x : Variable). nat_eq x.range s.range) v (operand_variables t f i) m in
        let y = told-of (λ (x : ℕ × Bound). operand_variable t f (has_tied_use t i x.0) x.1) v (numbered 0 (bound t i)) a.0 in
        by (has_tied_use t i y.0.0) y.0.0 y.0.1.0 y.0.1.1 y.1 y.2 (sym (eqb-true v.range s.range a.1))
      where
        by : (b : Bool) (k : ℕ) (r : Option Role) (x : Operand) → Member (k, (r, x)) (numbered 0 (bound t i)) → operand_variable t f b (r, x) ≡ Some v → s.range ≡ v.range → OwnVariable v
        by b k r (operands.Reg o) m e range = go o.loc refl e
          where
            made : (w : ℕ) → o.loc ≡ Virtual w → (u : Variable) → Some u ≡ Some v → u.range ≡ w → u.index ≡ o.index → u.class ≡ operand_class t f r o → (is_defining u.kind ≡ false → o.def ≡ false) → OwnVariable v
            made w at u e a x y uses =
                let same = some-same u v e in
                let is : s.range ≡ w = range ∙ (ap (λ (q : Variable). q.range) (sym same) ∙ a) in
                let own : is_own s o ≡ true = ap (is_range s.range) at ∙ eq-eqb s.range w is in
                record { number = k; role = r; operand = o; among = own-number s g c p h i mi k r o m own; own = own; index = ap (λ (q : Variable). q.index) (sym same) ∙ x; class = ap (λ (q : Variable). q.class) (sym same) ∙ y; uses = λ k. uses (ap (λ (q : Variable). is_defining q.kind) same ∙ k) }

            go : (l : Loc) → o.loc ≡ l → register_variable t f b r o l ≡ Some v → OwnVariable v
            go (Fixed q) at e = absurd (cc)
            go (Virtual w) at e = each o.def (o.undef || passes is_tied r) refl e
              where
                each : (x y : Bool) → o.def ≡ x → cond x (Some (variable (Defining b (passes is_early r)) w o.index (operand_class t f r o))) (cond y None (Some (variable Using w o.index (operand_class t f r o)))) ≡ Some v → OwnVariable v
                each true y d e = made w at (variable (Defining b (passes is_early r)) w o.index (operand_class t f r o)) e refl refl refl (λ k. absurd (cc))
                each false true d e = absurd (cc)
                each false false d e = made w at (variable Using w o.index (operand_class t f r o)) e refl refl refl (λ k. d)
        by b k r x m e range = absurd (cc)

  -- tinies of ways and of definitions have these widths

  pub way-sized : (x : ℕ × Variable) → Member x z.ways → Sized x.0 x.1.class x.1.index
  way-sized x m =
      let a = numbered-of c (ways_read s p) x m in
      let b = (filter-of (λ (v : Variable). not (is_defining v.kind)) x.1 (each_once [] (flat_map (own_variables s) p)) a).0 in
      let y = flat-of (own_variables s) x.1 p (once-of [] (flat_map (own_variables s) p) x.1 b) in
      let v = variable-own y.0 y.1 x.1 y.2 in
      let w = sized y.0 y.1 v.number v.role v.operand v.among v.own x.0 (way-tiny s g c p h.tinies x m ∙ v.class) in
      record { class = w.class; is = v.class ∙ w.is; known = w.known; wide = w.wide ∙ ap (λ j. map (width s) (own_lanes s j)) (sym v.index) }

  -- a way of reading is that of a use
  pub record WayUse : Type 0 where
    pub instr : Instr
    pub inside : Member instr p
    pub number : ℕ
    pub role : Option Role
    pub operand : RegOp
    pub among : Member (number, (role, operands.Reg operand)) (numbered_operands t instr)
    pub def : operand.def ≡ false

  pub way-use : (v : Variable) → Member v (ways_read s p) → WayUse
  way-use v m =
      let b = filter-of (λ (v : Variable). not (is_defining v.kind)) v (each_once [] (flat_map (own_variables s) p)) m in
      let y = flat-of (own_variables s) v p (once-of [] (flat_map (own_variables s) p) v b.0) in
      let w = variable-own y.0 y.1 v y.2 in
      record { instr = y.0; inside = y.1; number = w.number; role = w.role; operand = w.operand; among = w.among; def = w.uses (not-true (is_defining v.kind) b.1) }
    where
      not-true : (b : Bool) → not b ≡ true → b ≡ false
      not-true true e = absurd (cc)
      not-true false e = refl

  pub record Site (x : ℕ × OwnDefinition) : Type 0 where
    pub instr : Instr
    pub inside : Member instr p
    pub defines : Defines s instr x.1

  pub site-of : (x : ℕ × OwnDefinition) → Member x z.definitions → Site x
  site-of x m =
      let y = flat-of (λ i. filter_map (own_definition s i) (numbered_operands t i)) x.1 p (numbered-of (c + length (ways_read s p)) (definitions_in s p) x m) in
      record { instr = y.0; inside = y.1; defines = defines-of s y.0 x.1 y.2 }

  pub definition-sized : (x : ℕ × OwnDefinition) → Member x z.definitions → Sized x.0 x.1.class x.1.index
  definition-sized x m =
      let y = site-of x m in
      let v = y.defines in
      let w = sized y.instr y.inside x.1.number v.role v.operand v.among v.own x.0 (definition-tiny s g c p h.tinies x m ∙ v.class) in
      record { class = w.class; is = v.class ∙ w.is; known = w.known; wide = w.wide ∙ ap (λ j. map (width s) (own_lanes s j)) (sym v.index) }

  -- the definition that an operand is
  abbrev one_of : Instr → ℕ → Option Role → RegOp → OwnDefinition
  one_of i k q o = record { by = i; number = k; index = o.index; class = operand_class s.target s.func q o }

  -- a definition has a tiny
  pub record DefinedSite (i : Instr) (k : ℕ) (q : Option Role) (o : RegOp) : Type 0 where
    pub tiny : ℕ
    pub definition : OwnDefinition
    pub is : tiny_defined z i k ≡ Some tiny
    pub among : Member (tiny, definition) z.definitions
    pub number : definition.number ≡ k
    pub by : definition.by ≡ i
    pub index : definition.index ≡ o.index

  pub defined-site : (i : Instr) (mi : Member i p) (k : ℕ) (q : Option Role) (o : RegOp) → Member (k, (q, operands.Reg o)) (numbered_operands t i) → is_own s o ≡ true → o.def ≡ true → DefinedSite i k q o
  defined-site i mi k q o m own def =
      let told : own_definition s i (k, (q, operands.Reg o)) ≡ Some (one_of i k q o) = λ j. cond (own j && def j) (Some (one_of i k q o)) None in
      let inside : Member (one_of i k q o) (definitions_in s p) = flat-in (λ i. filter_map (own_definition s i) (numbered_operands t i)) (one_of i k q o) i p mi (told-in (own_definition s i) (one_of i k q o) (k, (q, operands.Reg o)) (numbered_operands t i) m told) in
      let n = numbered-in (c + length (ways_read s p)) (definitions_in s p) (one_of i k q o) inside in
      let w = finds (λ (x : ℕ × OwnDefinition). nat_eq x.1.by.id i.id && nat_eq x.1.number k) z.definitions (n.0, (one_of i k q o)) n.1 (λ j. eq-eqb i.id i.id refl j && eq-eqb k k refl j) in
      let y = site-of w.0 w.2 in
      let d = y.defines in
      let number : w.0.1.number ≡ k = eqb-true w.0.1.number k (second_of_both (nat_eq w.0.1.by.id i.id) (nat_eq w.0.1.number k) w.3) in
      let same : y.instr ≡ i = h.once y.instr i y.inside mi (ap (λ (j : Instr). j.id) (sym d.by) ∙ eqb-true w.0.1.by.id i.id (first_of_both (nat_eq w.0.1.by.id i.id) (nat_eq w.0.1.number k) w.3)) in
      let at : Member (k, (d.role, operands.Reg d.operand)) (numbered_operands t i) = subst (λ j. Member (k, (d.role, operands.Reg d.operand)) (numbered_operands t j)) same (subst (λ j. Member (j, (d.role, operands.Reg d.operand)) (numbered_operands t y.instr)) number d.among) in
      let is : (d.role, operands.Reg d.operand) ≡ (q, operands.Reg o) = one-number 0 (explicit_bound (explicit_roles (roles_of t i)) i.operands) k (d.role, operands.Reg d.operand) (q, operands.Reg o) at m in
      record {
        tiny = w.0.0;
        definition = w.0.1;
        is = ap (option_map (λ (x : ℕ × OwnDefinition). x.0)) w.1;
        among = w.2;
        number = number;
        by = d.by ∙ same;
        index = d.index ∙ ap (λ (r : RegOp). r.index) (register d.operand o (ap (λ (b : Bound). b.1) is));
      }
    where
      register : (a b : RegOp) → operands.Reg a ≡ operands.Reg b → a ≡ b
      register a b e = cc

  -- the variable of a use of the range
  abbrev use_of : Option Role → RegOp → Variable
  use_of q o = variable Using s.range o.index (operand_class s.target s.func q o)

  -- a way of reading has one too
  pub record ReadSite (i : Instr) (q : Option Role) (o : RegOp) : Type 0 where
    pub tiny : ℕ
    pub way : Variable
    pub is : tiny_read s z q o ≡ Some tiny
    pub among : Member (tiny, way) z.ways
    pub index : way.index ≡ o.index
    pub by : Member i (way_reading s p way).by

  untied : (q : Option Role) → option_and_then tied_number q ≡ None → passes is_tied q ≡ false
  untied None e = refl
  untied (Some (roles.Tied k n)) e = absurd (cc)
  untied (Some r) e = refl

  pub read-site : (i : Instr) (mi : Member i p) (k : ℕ) (q : Option Role) (o : RegOp) → Member (k, (q, operands.Reg o)) (numbered_operands t i) → is_own s o ≡ true → o.def ≡ false → o.undef ≡ false → option_and_then tied_number q ≡ None → ReadSite i q o
  read-site i mi k q o m own def undef free =
      let in-own : Member (use_of q o) (own_variables s i) = filter-in (λ (x : Variable). nat_eq x.range s.range) (use_of q o) (operand_variables t f i) in-all (eq-eqb s.range s.range refl) in
      let y = once-there [] (flat_map (own_variables s) p) (use_of q o) refl (flat-in (own_variables s) (use_of q o) i p mi in-own) refl in
      let way-in : Member y.0 (ways_read s p) = filter-in (λ (x : Variable). not (is_defining x.kind)) y.0 (each_once [] (flat_map (own_variables s) p)) y.1 (ap not y.2.second_uses) in
      let n = numbered-in c (ways_read s p) y.0 way-in in
      let w = finds (λ (x : ℕ × Variable). same_use (use_of q o) x.1) z.ways (n.0, y.0) n.1 (use-same (use_of q o) y.0 y.2) in
      let u = one-use (use_of q o) w.0.1 w.3 in
      record {
        tiny = w.0.0;
        way = w.0.1;
        is = ap (option_map (λ (x : ℕ × Variable). x.0)) w.1;
        among = w.2;
        index = sym u.index;
        by = filter-in (λ j. list_any (same_use w.0.1) (own_variables s j)) i p mi (any-in (same_use w.0.1) (use_of q o) (own_variables s i) in-own (use-same w.0.1 (use_of q o) (use-turned (use_of q o) w.0.1 u)));
      }
    where
      is-variable : (b : Bool) → register_variable t f b q o o.loc ≡ Some (use_of q o)
      is-variable b =
          let at = range-is s g h.keeps h.classes s.range o.loc own in
          ap (register_variable t f b q o) at
          ∙ (λ j. cond (def j) (Some (variable (Defining b (passes is_early q)) s.range o.index (operand_class t f q o))) (cond (undef j || untied q free j) None (Some (variable Using s.range o.index (operand_class t f q o)))))

      in-all : Member (use_of q o) (operand_variables t f i)
      in-all =
          let n = numbered-in 0 (bound t i) (q, operands.Reg o) (in-bound i mi k q o m own) in
          told-in (λ (x : ℕ × Bound). operand_variable t f (has_tied_use t i x.0) x.1) (use_of q o) (n.0, (q, operands.Reg o)) (numbered 0 (bound t i)) n.1 (is-variable (has_tied_use t i n.0))
