-- The reloads, repeated instructions and stores beside a place with tinies keep the rules.
use Rattle.std.proofs.Common.{◌≡◌, ◌+◌, ◌∙◌, ◌&&◌, ◌||◌, not, ℕ, suc, Bool, true, false, cond, List, [], ◌∷◌, Option, Some, None, flat_map, length, map, refl, sym, ap, subst, arith, eqb-true}
use Rattle.std.specs.Prelude.{filter, filter_map, is_some, nat_eq, option_and_then, slice_get}
use Rattle.target_base.specs.declared.types.ClassId.{ClassId}
use Rattle.target_base.specs.declared.types.Effect.{Effect}
use Rattle.target_base.specs.declared.types.IndexId.{IndexId}
use Rattle.target_base.specs.declared.types.Role.{Role}
use Rattle.target_base.specs.declared.types.Target.{Target}
use Rattle.target_base.specs.Registers.{IsClass, lanes_of, regs_of, widths_of, widths_of_some}
use Rattle.target_base.specs.Roles.{is_tied}
use Rattle.target_base.specs.Storage.{is_within}
use Rattle.target_base.proofs.Tests.{first_of_both, second_of_both}
use Rattle.meaning.specs.Live.{Among as Member}
use Rattle.mir_func.specs.declared.func.Loc.{Loc}
use Rattle.mir_func.specs.declared.func.Loc.TheVariants.{Fixed, Virtual}
use Rattle.mir_func.specs.declared.func.RegOp.{RegOp}
use Rattle.mir_func.specs.declared.func.Operand.{Operand}
use Rattle.mir_func.specs.declared.func.Operand.TheVariants as operands
use Rattle.mir_func.specs.declared.func.Instr.{Instr}
use Rattle.mir_func.specs.declared.func.Block.{Block}
use Rattle.mir_func.specs.Value.{Function}
use Rattle.mir_func.specs.Binding.{Bound, TiedPair, as_register, bound, class_of, does, effect_of, explicit_bound, explicit_operands, explicit_roles, implicit_bound, implicit_registers, implicit_roles, is_early, is_implicit_operand, numbered, operand_class, passes, register_at, registers, roles_of, same_index, same_loc, takes_many, tied_pairs}
use Rattle.mir_meaning.specs.Places.{Defining, Using, Variable, each_once, has_tied_use, is_defining, operand_variable, operand_variables, register_variable, variable}
use Rattle.mir_meaning.specs.Registers.{located_widths}
use Rattle.mir_meaning.specs.Rules.{lanes_fit, spills_or_reloads}
use Rattle.instr_effects.proofs.Members.{either-elim, filter-of, flat-of, map-of, member-elim, member-none}
use Rattle.live_laws.specs.Effects.Shaped.{AreClasses, IsShaped}
use Rattle.live_laws.proofs.Effects.Lists.{all-of}
use Rattle.live_laws.proofs.Effects.Moving.{some-same}
use Rattle.live_laws.proofs.Touch.Roles.{has_roles}
use Rattle.lowering_laws.specs.Form.{is_lowered, shares_register}
use Rattle.lowering_laws.proofs.Formed.{tied-seat}
use Rattle.lowering_laws.proofs.RulesStay.{same-register}
use Rattle.lowering_laws.proofs.Rolled.{fit-operands}
use Rattle.lowering_laws.proofs.Seated.{bound-operand, register-in, told-of}
use Rattle.spiller.specs.Setting.{Spilling, in_own_slot, is_live_behind, is_own, plain_definition, plain_use, reload, store}
use Rattle.spiller.specs.Rematerialised.{Within, if_whole, own_variables, repeatable_class, repeated, repeated_for, serves, tied_readings, way_reading, ways_read}
use Rattle.spiller.specs.Spilled.{OwnDefinition, definitions_in, given, numbered_operands, own_definition, stored, tied_reload}
use Rattle.spill_laws.specs.Laws.{IsInForm, is_placed}
use Rattle.spill_laws.proofs.Classes.{lies-further}
use Rattle.spill_laws.proofs.Copies.{index-long, own-long, range-is, reload-good, store-good}
use Rattle.spill_laws.proofs.Opcodes.{own-slot, repeats-for}
use Rattle.spill_laws.proofs.Ranges.{numbered-of, once-of}
use Rattle.spill_laws.proofs.Repeated.{repeated-good}
use Rattle.spill_laws.proofs.Seated.{among-explicit, not-implicit, seat-of}
use Rattle.spill_laws.proofs.Tinies.{tiny-lies}

-- an operand of a number stands at that place
pub operand-at : (j : ℕ) (rs : List Role) (os : List Operand) (n : ℕ) (r : Option Role) (x : Operand) → Member (n, (r, x)) (numbered j (explicit_bound rs os)) → (k : ℕ) × (n ≡ j + k) × (slice_get os k ≡ Some x)
operand-at j rs [] n r x m = absurd (member-none (n, (r, x)) m)
operand-at j [] (o ∷ os) n r x m =
    member-elim (n, (r, x)) (j, (None, o)) (numbered (suc j) (explicit_bound [] os))
    (λ e. (0, ap (λ (p : ℕ × Bound). p.0) e ∙ nothing j, ap (λ (p : ℕ × Bound). Some p.1.1) (sym e)))
    (λ k. let z = operand-at (suc j) [] os n r x k in (suc z.0, z.1 ∙ one j z.0, z.2)) m
  where
    nothing : (j : ℕ) → j ≡ j + 0
    nothing j = omega arith

    one : (j k : ℕ) → suc j + k ≡ j + suc k
    one j k = omega arith
operand-at j (q ∷ rs) (o ∷ os) n r x m =
    let rest = cond (takes_many q) (q ∷ rs) rs in
    member-elim (n, (r, x)) (j, (Some q, o)) (numbered (suc j) (explicit_bound rest os))
    (λ e. (0, ap (λ (p : ℕ × Bound). p.0) e ∙ nothing j, ap (λ (p : ℕ × Bound). Some p.1.1) (sym e)))
    (λ k. let z = operand-at (suc j) rest os n r x k in (suc z.0, z.1 ∙ one j z.0, z.2)) m
  where
    nothing : (j : ℕ) → j ≡ j + 0
    nothing j = omega arith

    one : (j k : ℕ) → suc j + k ≡ j + suc k
    one j k = omega arith

pub same-index-is : (x y : Option IndexId) → same_index x y ≡ true → x ≡ y
same-index-is None None h = refl
same-index-is (Some x) (Some y) h = ap (λ n. Some (record { 0 = n })) (eqb-true x.0 y.0 h)
same-index-is None (Some y) h = absurd (cc)
same-index-is (Some x) None h = absurd (cc)

module _ (s : Spilling) (g : Function) (stay : (w : ℕ) → is_some (class_of s.func w) ≡ true → class_of g w ≡ class_of s.func w) (classes : AreClasses s.target s.func) where
  abbrev t : Target
  t = s.target

  abbrev f : Function
  f = s.func

  -- a class with as many lanes as an index picks
  pub record Wide (q : Option ClassId) (x : Option IndexId) : Type 0 where
    pub class : ClassId
    pub is : q ≡ Some class
    pub known : IsClass t class
    pub long : (y : IndexId) → x ≡ Some y → length (lanes_of t y) ≡ length (widths_of t class)

  -- a reload and a store of a tiny

  tiny-long : (n : ℕ) (k : ClassId) (x : Option IndexId) (o : RegOp) → o.loc ≡ Virtual n → o.index ≡ None → class_of g n ≡ Some k → ((y : IndexId) → x ≡ Some y → length (lanes_of t y) ≡ length (widths_of t k)) → lanes_fit t g (operands.Reg o ∷ in_own_slot s x) ≡ true
  tiny-long n k x o at bare e h = own-long s g stay classes o x (λ y q. h y q ∙ sym (ap length ((λ i. located_widths t g (at i) (bare i))) ∙ ap (λ c. length (widths_of_some t c)) e))

  pub tiny-reload : (n : ℕ) (q : Option ClassId) (x : Option IndexId) → Wide q x → class_of g n ≡ q → IsInForm t g (reload t q (plain_definition (Virtual n) None) (in_own_slot s x))
  tiny-reload n q x w e =
      subst (λ c. IsInForm t g (reload t c (plain_definition (Virtual n) None) (in_own_slot s x))) (sym w.is)
      (reload-good t g w.class (Virtual n) None (tiny-lies t g n w.class (e ∙ w.is) w.known) (in_own_slot s x) (own-slot s x) (tiny-long n w.class x (plain_definition (Virtual n) None) refl refl (e ∙ w.is) w.long))

  pub tiny-store : (n : ℕ) (q : Option ClassId) (x : Option IndexId) → Wide q x → class_of g n ≡ q → IsInForm t g (store t q (plain_use (Virtual n) None) (in_own_slot s x))
  tiny-store n q x w e =
      subst (λ c. IsInForm t g (store t c (plain_use (Virtual n) None) (in_own_slot s x))) (sym w.is)
      (store-good t g w.class (Virtual n) None false (tiny-lies t g n w.class (e ∙ w.is) w.known) (in_own_slot s x) (own-slot s x) (tiny-long n w.class x (plain_use (Virtual n) None) refl refl (e ∙ w.is) w.long))

  module _ (i : Instr) (shaped : IsShaped t f i) (placed : does is_placed t i ≡ true) where
    record Rolled : Type 0 where
      pub effect : Effect
      pub is : effect_of t i ≡ Some effect
      pub rolled : has_roles effect ≡ true

    rolled : Rolled
    rolled = go (effect_of t i) refl placed
      where
        go : (q : Option Effect) → effect_of t i ≡ q → passes is_placed q ≡ true → Rolled
        go None e h = absurd (cc)
        go (Some x) e h = record { effect = x; is = e; rolled = first_of_both (has_roles x) (not (spills_or_reloads x)) h }

    -- an operand among the explicit ones
    pub seat-wide : (o : RegOp) (w : ℕ) → o.loc ≡ Virtual w → Member o (registers i.operands) → (r : Option Role) → Member (r, operands.Reg o) (explicit_bound (explicit_roles (roles_of t i)) (explicit_operands i.operands)) → Wide (operand_class t f r o) o.index
    seat-wide o w at named r m =
        let q = rolled in
        let z = seat-of t f classes i shaped q.effect q.is q.rolled o w at named r m in
        record {
          class = z.2.class;
          is = ap (λ x. operand_class t f x o) z.1 ∙ z.2.is;
          known = z.2.is_class;
          long = λ y e. sym (index-long s g stay classes f o.loc w at o.index y e) ∙ z.2.long;
        }

    -- one among all operands
    pub operand-wide : (o : RegOp) (w : ℕ) → o.loc ≡ Virtual w → (r : Option Role) → Member (r, operands.Reg o) (explicit_bound (explicit_roles (roles_of t i)) i.operands) → Wide (operand_class t f r o) o.index
    operand-wide o w at r m =
        let q = rolled in
        let there = register-in o i.operands (bound-operand (explicit_roles (roles_of t i)) i.operands r (operands.Reg o) m) in
        let last = (fit-operands t f i q.effect q.is q.rolled shaped.operands).0 in
        seat-wide o w at there r (among-explicit (explicit_roles (roles_of t i)) i.operands r (operands.Reg o) last (not-implicit t f classes i shaped q.effect q.is q.rolled o w at there) m)

    -- one among those that have roles
    pub named-wide : (o : RegOp) (w : ℕ) → o.loc ≡ Virtual w → (r : Option Role) → Member (r, operands.Reg o) (bound t i) → Wide (operand_class t f r o) o.index
    named-wide o w at r m =
        let rs = roles_of t i in
        either-elim (r, operands.Reg o) (explicit_bound (explicit_roles rs) (explicit_operands i.operands)) (map (implicit_bound (implicit_roles rs)) (implicit_registers i.operands))
        (λ k.
        let y = (filter-of (λ x. not (is_implicit_operand x)) (operands.Reg o) i.operands (bound-operand (explicit_roles rs) (explicit_operands i.operands) r (operands.Reg o) k)).0 in
        seat-wide o w at (register-in o i.operands y) r k)
        (λ k.
        let q = rolled in
        let z = map-of (implicit_bound (implicit_roles rs)) (r, operands.Reg o) (implicit_registers i.operands) k in
        let y = filter-of (λ (x : RegOp). x.implicit) z.0 (registers i.operands) z.1 in
        let same : z.0 ≡ o = same-register z.0 o (sym (ap (λ (b : Bound). b.1) z.2)) in
        absurd (let n = not-implicit t f classes i shaped q.effect q.is q.rolled z.0 w (ap (λ (x : RegOp). x.loc) same ∙ at) y.0 in let u : z.0.implicit ≡ true = y.1 in cc)) m

    variable-wide : (b : Bool) (r : Option Role) (x : Operand) (v : Variable) → Member (r, x) (bound t i) → operand_variable t f b (r, x) ≡ Some v → Wide v.class v.index
    variable-wide b r (operands.Reg o) v m e = go o.loc refl e
      where
        seen : (u : Variable) → Some u ≡ Some v → Wide u.class u.index → Wide v.class v.index
        seen u q w = subst (λ (z : Variable). Wide z.class z.index) (some-same u v q) w

        go : (l : Loc) → o.loc ≡ l → register_variable t f b r o l ≡ Some v → Wide v.class v.index
        go (Fixed q) at e = absurd (cc)
        go (Virtual w) at e = by o.def (o.undef || passes is_tied r) e
          where
            by : (x y : Bool) → cond x (Some (variable (Defining b (passes is_early r)) w o.index (operand_class t f r o))) (cond y None (Some (variable Using w o.index (operand_class t f r o)))) ≡ Some v → Wide v.class v.index
            by true y e = seen (variable (Defining b (passes is_early r)) w o.index (operand_class t f r o)) e (named-wide o w at r m)
            by false true e = absurd (cc)
            by false false e = seen (variable Using w o.index (operand_class t f r o)) e (named-wide o w at r m)
    variable-wide b r x v m e = absurd (cc)

    pub variables-wide : (v : Variable) → Member v (operand_variables t f i) → Wide v.class v.index
    variables-wide v m =
        let z = told-of (λ (p : ℕ × Bound). operand_variable t f (has_tied_use t i p.0) p.1) v (numbered 0 (bound t i)) m in
        variable-wide (has_tied_use t i z.0.0) z.0.1.0 z.0.1.1 v (numbered-of 0 (bound t i) z.0 z.1) z.2

    -- a definition of the range, and the uses that are tied to it
    pub record Defined (d : OwnDefinition) : Type 0 where
      pub operand : RegOp
      pub by : d.by ≡ i
      pub at : register_at i.operands d.number ≡ Some operand
      pub index : d.index ≡ operand.index
      pub wide : Wide d.class d.index

    pub defined : (d : OwnDefinition) → Member d (filter_map (own_definition s i) (numbered_operands t i)) → Defined d
    defined d m = let z = told-of (own_definition s i) d (numbered_operands t i) m in go z.0.0 z.0.1.0 z.0.1.1 z.1 z.2
      where
        go : (n : ℕ) (r : Option Role) (x : Operand) → Member (n, (r, x)) (numbered_operands t i) → own_definition s i (n, (r, x)) ≡ Some d → Defined d
        go n r (operands.Reg o) m e = by (is_own s o) o.def refl e
          where
            one : OwnDefinition
            one = record { by = i; number = n; index = o.index; class = operand_class t f r o }

            made : is_own s o ≡ true → Defined (record { by = i; number = n; index = o.index; class = operand_class t f r o })
            made own =
                let a = operand-at 0 (explicit_roles (roles_of t i)) i.operands n r (operands.Reg o) m in
                record {
                  operand = o;
                  by = refl;
                  at = ap (register_at i.operands) (a.1 ∙ nothing a.0) ∙ ap (λ q. option_and_then as_register q) a.2;
                  index = refl;
                  wide = operand-wide o s.range (range-is s g stay classes s.range o.loc own) r (numbered-of 0 (explicit_bound (explicit_roles (roles_of t i)) i.operands) (n, (r, operands.Reg o)) m);
                }
              where
                nothing : (k : ℕ) → 0 + k ≡ k
                nothing k = omega arith

            by : (a b : Bool) → is_own s o ≡ a → cond (a && b) (Some (record { by = i; number = n; index = o.index; class = operand_class t f r o })) None ≡ Some d → Defined d
            by true true own e = subst Defined (some-same (record { by = i; number = n; index = o.index; class = operand_class t f r o }) d e) (made own)
            by true false own e = absurd (cc)
            by false b own e = absurd (cc)
        go n r x m e = absurd (cc)

    pub tied-wide : is_lowered t i ≡ true → (d : OwnDefinition) → Defined d → (x : TiedPair) → Member x (tied_pairs t i) → x.number ≡ d.number → Wide d.class x.tied_use.index
    tied-wide low d z x m same =
        let y = tied-seat t i x m in
        let share = all-of shares_register x (tied_pairs t i) m (second_of_both _ _ low) in
        let index = same-index-is x.definition.index x.tied_use.index (second_of_both (same_loc x.definition.loc x.tied_use.loc) (same_index x.definition.index x.tied_use.index) share) in
        let is : z.operand ≡ x.definition = some-same z.operand x.definition (sym z.at ∙ (ap (register_at i.operands) (sym same) ∙ y.3)) in
        subst (Wide d.class) (z.index ∙ (ap (λ (o : RegOp). o.index) is ∙ index)) z.wide

  -- the place

  module _ (rules : (b : Block) (j : Instr) → Member b f.blocks → Member j b.instrs → IsShaped t f j) (p : List Instr) (shaped : (i : Instr) → Member i p → IsShaped t f i) (placed : (i : Instr) → Member i p → does is_placed t i ≡ true) (low : (i : Instr) → Member i p → is_lowered t i ≡ true) where
    pub way-wide : (v : Variable) → Member v (ways_read s p) → Wide v.class v.index
    way-wide v m =
        let a = (filter-of (λ (x : Variable). not (is_defining x.kind)) v (each_once [] (flat_map (own_variables s) p)) m).0 in
        let b = flat-of (own_variables s) v p (once-of [] (flat_map (own_variables s) p) v a) in
        let c = (filter-of (λ (x : Variable). nat_eq x.range s.range) v (operand_variables t f b.0) b.2).0 in
        variables-wide b.0 (shaped b.0 b.1) (placed b.0 b.1) v c

    -- what is repeated for a way of reading has a class that holds it
    record Serving (d : Instr) (c : ClassId) : Type 0 where
      pub class : ClassId
      pub is : repeatable_class t d ≡ Some class
      pub within : is_within (regs_of t c) (regs_of t class) ≡ true

    serving : (x : Option IndexId) (q : Option ClassId) (c : ClassId) (d : Instr) → q ≡ Some c → serves t (if_whole x (Within q)) (repeatable_class t d) ≡ true → Serving d c
    serving (Some y) q c d e h = absurd (cc)
    serving None None c d e h = absurd (cc)
    serving None (Some b) c d e h = go (repeatable_class t d) refl h
      where
        go : (z : Option ClassId) → repeatable_class t d ≡ z → serves t (Within (Some b)) z ≡ true → Serving d c
        go None g h = absurd (cc)
        go (Some k) g h = record { class = k; is = g; within = subst (λ a. is_within (regs_of t a) (regs_of t k) ≡ true) (some-same b c e) h }

    pub given-good : (n : ℕ) (v : Variable) → Member v (ways_read s p) → class_of g n ≡ v.class → ((d : Instr) → (k : ClassId) → repeatable_class t d ≡ Some k → IsClass t k) → IsInForm t g (given s p (n, v))
    given-good n v m e known = go (repeated_for s (way_reading s p v)) refl
      where
        w : Wide v.class v.index
        w = way-wide v m

        go : (q : Option Instr) → repeated_for s (way_reading s p v) ≡ q → IsInForm t g (elim q as (λ q. Instr) [ None ↦ reload s.target v.class (plain_definition (Virtual n) None) (in_own_slot s v.index) | Some d ↦ repeated d (plain_definition (Virtual n) None) ])
        go None h = tiny-reload n v.class v.index w e
        go (Some d) h =
            let z = repeats-for s (way_reading s p v) d h in
            let y = serving v.index v.class w.class d w.is z.serving in
            let lies = tiny-lies t g n w.class (e ∙ w.is) w.known in
            repeated-good t f g d (rules z.block d z.there z.inside) y.class (Virtual n) None
            (record { known = known d y.class y.is; class = lies.class; index = lies.index; lies = lies-further t g w.class y.class y.within (Virtual n) None lies.lies })
            y.is z.constant

    pub definition-at : (d : OwnDefinition) → Member d (definitions_in s p) → (i : Instr) × Member i p × Member d (filter_map (own_definition s i) (numbered_operands t i))
    definition-at d m = let z = flat-of (λ i. filter_map (own_definition s i) (numbered_operands t i)) d p m in (z.0, z.1, z.2)

    pub stored-good : (n : ℕ) (d : OwnDefinition) → Member d (definitions_in s p) → class_of g n ≡ d.class → (x : Instr) → Member x (stored s (n, d)) → IsInForm t g x
    stored-good n d m e x mx =
        let a = definition-at d m in
        let z = defined a.0 (shaped a.0 a.1) (placed a.0 a.1) d a.2 in
        go (is_live_behind s d.by d.index) z.wide mx
      where
        go : (b : Bool) → Wide d.class d.index → Member x (cond b (store s.target d.class (plain_use (Virtual n) None) (in_own_slot s d.index) ∷ []) []) → IsInForm t g x
        go true w k = member-elim x (store s.target d.class (plain_use (Virtual n) None) (in_own_slot s d.index)) [] (λ q. subst (IsInForm t g) (sym q) (tiny-store n d.class d.index w e)) (λ q. absurd (member-none x q)) k
        go false w k = absurd (member-none x k)

    pub tied-good : (n : ℕ) (d : OwnDefinition) → Member d (definitions_in s p) → class_of g n ≡ d.class → (x : Instr) → Member x (tied_reload s (n, d)) → IsInForm t g x
    tied-good n d m e x mx =
        let a = definition-at d m in
        let z = defined a.0 (shaped a.0 a.1) (placed a.0 a.1) d a.2 in
        let b = map-of (λ (q : TiedPair). reload s.target d.class (plain_definition (Virtual n) None) (in_own_slot s q.tied_use.index)) x (filter (λ (q : TiedPair). nat_eq q.number d.number) (tied_readings s d.by)) mx in
        let c = filter-of (λ (q : TiedPair). nat_eq q.number d.number) b.0 (tied_readings s d.by) b.1 in
        let y = (filter-of (λ (q : TiedPair). is_own s q.tied_use && not q.tied_use.undef) b.0 (tied_pairs t d.by) c.0).0 in
        let w = tied-wide a.0 (shaped a.0 a.1) (placed a.0 a.1) (low a.0 a.1) d z b.0 (subst (λ j. Member b.0 (tied_pairs t j)) z.by y) (eqb-true b.0.number d.number c.1) in
        subst (IsInForm t g) (sym b.2) (tiny-reload n d.class b.0.tied_use.index w e)
