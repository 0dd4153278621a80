-- A place that names the range nowhere gets no tinies, and stays as it is.
use Rattle.std.proofs.Common.{◌≡◌, ◌∷◌, ◌++◌, ◌∙◌, ◌+◌, ◌&&◌, ◌||◌, not, ℕ, suc, Bool, true, false, cond, List, Option, Some, None, filter, flat_map, length, map, refl, sym, ap, subst, []}
use Rattle.std.specs.Prelude.{filter_map, nat_eq}
use Rattle.std.specs.List.{cons_option}
use Rattle.target_base.specs.declared.types.Effect.{Effect}
use Rattle.target_base.specs.declared.types.Effect.TheVariants as effects
use Rattle.target_base.specs.declared.types.Role.{Role}
use Rattle.target_base.specs.Roles.{is_tied}
use Rattle.target_base.specs.declared.types.Target.{Target}
use Rattle.meaning.specs.Live.{Among as Member, here as first, there as later}
use Rattle.mir_func.specs.declared.func.Loc.{Loc}
use Rattle.mir_func.specs.declared.func.Loc.TheVariants.{Fixed, Virtual}
use Rattle.mir_func.specs.declared.func.RegOp.{RegOp}
use Rattle.mir_func.specs.declared.func.Operand.{Operand}
use Rattle.mir_func.specs.declared.func.Operand.TheVariants as operands
use Rattle.mir_func.specs.declared.func.Instr.{Instr}
use Rattle.mir_func.specs.Binding.{Bound, bound, effect_of, explicit_bound, explicit_operands, explicit_roles, implicit_bound, implicit_registers, implicit_roles, is_early, is_implicit_operand, numbered, operand_class, passes, registers, roles_of, takes_many}
use Rattle.mir_meaning.specs.Places.{Defining, Using, Variable, each_once, has_tied_use, is_defining, operand_variable, operand_variables, register_variable, variable}
use Rattle.mir_meaning.specs.Points.{is_range}
use Rattle.instr_effects.proofs.Members.{either-elim, filter-of, map-of, member-elim, member-none}
use Rattle.live_laws.proofs.Effects.Lists.{any-in}
use Rattle.live_laws.proofs.Effects.Moving.{some-same}
use Rattle.lowering_laws.proofs.Arrivals.{eqb-sym}
use Rattle.lowering_laws.proofs.RulesStay.{numbered-of, same-register}
use Rattle.lowering_laws.proofs.Seated.{bound-operand, register-in, told-of}
use Rattle.spiller.specs.Rematerialised.{is_needless, own_variables, ways_read}
use Rattle.spiller.specs.Setting.{Spilling, in_own_slot, is_live_behind, is_own, moving_class, own_class, part_class, store, undef_use}
use Rattle.spiller.specs.Spilled.{Change, OwnDefinition, Seats, as_tiny, becomes, change, copied_in, copied_out, copied_within, definitions_in, effect_change, given, in_place_of, is_own_part, numbered_operands, own_definition, place_change, place_name, seated_operand, stored, through_tiny, tied_reload, tiny_of, with_tinies}
use Rattle.spiller.specs.Planned.{names_own}
use Rattle.spiller.proofs.Basics.{map-same}

filter-none : {X : Type 0} (p : X → Bool) (xs : List X) → ((x : X) → Member x xs → p x ≡ false) → filter p xs ≡ []
filter-none p [] h = refl
filter-none p (x ∷ xs) h = λ j. cond (h x first j) (x ∷ filter p xs) (filter-none p xs (λ y m. h y (later m)) j)

told-none : {X Y : Type 0} (g : X → Option Y) (xs : List X) → ((x : X) → Member x xs → g x ≡ None) → filter_map g xs ≡ []
told-none g [] h = refl
told-none g (x ∷ xs) h = λ j. cons_option (h x first j) (told-none g xs (λ y m. h y (later m)) j)

flat-none : {X Y : Type 0} (g : X → List Y) (xs : List X) → ((x : X) → Member x xs → g x ≡ []) → flat_map g xs ≡ []
flat-none g [] h = refl
flat-none g (x ∷ xs) h = λ j. h x first j ++ flat-none g xs (λ y m. h y (later m)) j

map-itself : {A : Type 0} (f : A → A) (xs : List A) → ((x : A) → Member x xs → f x ≡ x) → map f xs ≡ xs
map-itself f [] h = refl
map-itself f (x ∷ xs) h = λ j. h x first j ∷ map-itself f xs (λ y m. h y (later m)) j

operands-are : (n : ℕ) (rs : List Role) (os : List Operand) → map (λ (p : ℕ × Bound). p.1.1) (numbered n (explicit_bound rs os)) ≡ os
operands-are n rs [] = refl
operands-are n [] (o ∷ os) = ap (λ qs. o ∷ qs) (operands-are (suc n) [] os)
operands-are n (r ∷ rs) (o ∷ os) = ap (λ qs. o ∷ qs) (operands-are (suc n) (cond (takes_many r) (r ∷ rs) rs) os)

-- a register among the operands with their roles
bound-register : (t : Target) (i : Instr) (x : Bound) → Member x (bound t i) → (o : RegOp) → x.1 ≡ operands.Reg o → Member o (registers i.operands)
bound-register t i x m o e =
    let rs = roles_of t i in
    let os = i.operands in
    either-elim x (explicit_bound (explicit_roles rs) (explicit_operands os)) (map (implicit_bound (implicit_roles rs)) (implicit_registers os))
    (λ k.
    let y = bound-operand (explicit_roles rs) (explicit_operands os) x.0 x.1 k in
    let w = (filter-of (λ q. not (is_implicit_operand q)) x.1 os y).0 in
    register-in o os (subst (λ q. Member q os) e w))
    (λ k.
    let y = map-of (implicit_bound (implicit_roles rs)) x (implicit_registers os) k in
    let w = (filter-of (λ (q : RegOp). q.implicit) y.0 (registers os) y.1).0 in
    subst (λ (q : RegOp). Member q (registers os)) (same-register y.0 o (sym (ap (λ (b : Bound). b.1) y.2) ∙ e)) w)
    m

-- an instruction that names the range nowhere
abbrev pub IsStrange : Spilling → Instr → Type 0
IsStrange s i = (o : RegOp) → Member o (registers i.operands) → is_own s o ≡ false

pub strange-of : (s : Spilling) (i : Instr) → names_own s i ≡ false → IsStrange s i
strange-of s i e o m = go (is_own s o) refl
  where
    go : (u : Bool) → is_own s o ≡ u → u ≡ false
    go true h = absurd (let z : true ≡ false = sym (any-in (is_own s) o (registers i.operands) m h) ∙ e in cc)
    go false h = refl

module _ (s : Spilling) (i : Instr) (strange : IsStrange s i) where
  -- no variable is the range's
  none-own : (x : Variable) → Member x (operand_variables s.target s.func i) → nat_eq x.range s.range ≡ false
  none-own x m =
      let z = told-of (λ (p : ℕ × Bound). operand_variable s.target s.func (has_tied_use s.target i p.0) p.1) x (numbered 0 (bound s.target i)) m in
      by z.0.0 z.0.1.0 z.0.1.1 (numbered-of 0 (bound s.target i) z.0 z.1) z.2
    where
      by-loc : (b : Bool) (r : Option Role) (o : RegOp) (l : Loc) → is_range s.range l ≡ false → register_variable s.target s.func b r o l ≡ Some x → nat_eq x.range s.range ≡ false
      by-loc b r o (Fixed q) e g = absurd (cc)
      by-loc b r o (Virtual w) e g = go (variable (Defining b (passes is_early r)) w o.index (operand_class s.target s.func r o)) (variable Using w o.index (operand_class s.target s.func r o)) refl refl o.def (o.undef || passes is_tied r) g
        where
          range-of : (y : Variable) → Some y ≡ Some x → y.range ≡ w → nat_eq x.range s.range ≡ false
          range-of y q u = ap (λ n. nat_eq n s.range) (ap (λ (v : Variable). v.range) (sym (some-same y x q)) ∙ u) ∙ (eqb-sym w s.range ∙ e)

          go : (a b : Variable) → a.range ≡ w → b.range ≡ w → (d u : Bool) → cond d (Some a) (cond u None (Some b)) ≡ Some x → nat_eq x.range s.range ≡ false
          go a b f h true u q = range-of a q f
          go a b f h false true q = absurd (cc)
          go a b f h false false q = range-of b q h

      by : (n : ℕ) (r : Option Role) (o : Operand) → Member (r, o) (bound s.target i) → operand_variable s.target s.func (has_tied_use s.target i n) (r, o) ≡ Some x → nat_eq x.range s.range ≡ false
      by n r (operands.Reg o) m g = by-loc (has_tied_use s.target i n) r o o.loc (strange o (bound-register s.target i (r, operands.Reg o) m o refl)) g
      by n r o m g = absurd (cc)

  pub own-none : own_variables s i ≡ []
  own-none = filter-none (λ (x : Variable). nat_eq x.range s.range) (operand_variables s.target s.func i) none-own

  there : (n : ℕ) (r : Option Role) (o : RegOp) → Member (n, (r, operands.Reg o)) (numbered_operands s.target i) → is_own s o ≡ false
  there n r o m =
      let rs = explicit_roles (roles_of s.target i) in
      strange o (register-in o i.operands (bound-operand rs i.operands r (operands.Reg o) (numbered-of 0 (explicit_bound rs i.operands) (n, (r, operands.Reg o)) m)))

  pub defines-none : filter_map (own_definition s i) (numbered_operands s.target i) ≡ []
  defines-none = told-none (own_definition s i) (numbered_operands s.target i) (λ p m. by p.0 p.1.0 p.1.1 m)
    where
      by : (n : ℕ) (r : Option Role) (o : Operand) → Member (n, (r, o)) (numbered_operands s.target i) → own_definition s i (n, (r, o)) ≡ None
      by n r (operands.Reg o) m = ap (λ b. cond (b && o.def) (Some (record { by = i; number = n; index = o.index; class = operand_class s.target s.func r o })) None) (there n r o m)
      by n r o m = refl

  pub stays-itself : (x : Seats) → with_tinies s x i ≡ i
  stays-itself x = ap (λ os. record i { operands = os }) (map-same (seated_operand s x i) (λ (p : ℕ × Bound). p.1.1) (numbered_operands s.target i) (λ p m. by p.0 p.1.0 p.1.1 m) ∙ operands-are 0 (explicit_roles (roles_of s.target i)) i.operands)
    where
      by : (n : ℕ) (r : Option Role) (o : Operand) → Member (n, (r, o)) (numbered_operands s.target i) → seated_operand s x i (n, (r, o)) ≡ o
      by n r (operands.Reg o) m = ap operands.Reg (ap (λ b. cond b (elim (tiny_of s x i n r o) as (λ x. RegOp) [ None ↦ o | Some c ↦ as_tiny o c ]) o) (there n r o m))
      by n r o m = refl

-- a place by its ways of reading and its definitions
abbrev change-by : Spilling → ℕ → List Instr → List Variable → List OwnDefinition → Change
change-by s c is ways definitions =
    let x : Seats = record { ways = numbered c ways; definitions = numbered (c + length ways) definitions } in
    record {
      tinies = map (λ k. (k, place_name is)) (map (λ p. p.1.class) x.ways ++ map (λ p. p.1.class) x.definitions);
      before = map (given s is) x.ways ++ flat_map (tied_reload s) x.definitions;
      own = map (with_tinies s x) is;
      behind = flat_map (stored s) x.definitions;
    }

module _ (s : Spilling) (c : ℕ) (is : List Instr) (strange : (i : Instr) → Member i is → IsStrange s i) where
  ways-none : ways_read s is ≡ []
  ways-none = ap (λ xs. filter (λ x. not (is_defining x.kind)) (each_once [] xs)) (flat-none (own_variables s) is (λ i m. own-none s i (strange i m)))

  definitions-none : definitions_in s is ≡ []
  definitions-none = flat-none (λ i. filter_map (own_definition s i) (numbered_operands s.target i)) is (λ i m. defines-none s i (strange i m))

  pub place-stays : place_change s c is ≡ becomes is
  place-stays =
      let none : Seats = record { ways = []; definitions = [] } in
      (λ j. change-by s c is (ways-none j) (definitions-none j))
      ∙ (λ j. record { tinies = []; before = []; own = map-itself (with_tinies s none) is (λ i m. stays-itself s i (strange i m) none) j; behind = [] })

-- so does one of any effect, where it isn't an instruction that is needed no more
module _ (s : Spilling) (n c : ℕ) (i : Instr) (strange : IsStrange s i) (needed : is_needless s i ≡ false) where
  other : cond (is_needless s i) (becomes []) (place_change s c (i ∷ [])) ≡ becomes (i ∷ [])
  other =
      ap (λ u. cond u (becomes []) (place_change s c (i ∷ []))) needed
      ∙ place-stays s c (i ∷ []) (λ j m. member-elim j i [] (λ e. subst (IsStrange s) (sym e) strange) (λ k. absurd (member-none j k)) m)

  at-first : (o : RegOp) (os : List Operand) → i.operands ≡ operands.Reg o ∷ os → is_own s o ≡ false
  at-first o os are = strange o (subst (λ xs. Member o (registers xs)) (sym are) first)

  at-second : (d o : RegOp) (os : List Operand) → i.operands ≡ operands.Reg d ∷ operands.Reg o ∷ os → is_own s o ≡ false
  at-second d o os are = strange o (subst (λ xs. Member o (registers xs)) (sym are) (later first))

  by-effect : (q : Option Effect) (os : List Operand) → i.operands ≡ os → effect_change s n c i q os ≡ becomes (i ∷ [])
  by-effect (Some effects.Copy) (operands.Reg d ∷ operands.Reg o ∷ os) are =
      ap (λ u. cond u (cond (is_own s d) (copied_within s n c i d o) (copied_out s i d o)) (cond (is_own s d) (copied_in s i d o) (becomes (i ∷ [])))) (at-second d o os are)
      ∙ ap (λ u. cond u (copied_in s i d o) (becomes (i ∷ []))) (at-first d (operands.Reg o ∷ os) are)
  by-effect (Some effects.Spill) (operands.Reg o ∷ os) are =
      ap (λ u. cond u (cond (is_own_part s o os) (becomes []) (through_tiny s n c i (moving_class s o.index) (in_own_slot s o.index) os)) (becomes (i ∷ []))) (at-first o os are)
  by-effect (Some effects.Reload) (operands.Reg o ∷ os) are =
      ap (λ u. cond u (cond (is_own_part s o os) (becomes []) (through_tiny s n c i (moving_class s o.index) os (in_own_slot s o.index))) (becomes (i ∷ []))) (at-first o os are)
  by-effect (Some effects.ImplicitDef) (operands.Reg o ∷ os) are =
      let k = part_class s.target o.index (own_class s) in
      ap (λ u. cond (not u) (becomes (i ∷ [])) (cond (is_live_behind s i o.index) (becomes (in_place_of i (store s.target k (undef_use s.target k) (in_own_slot s o.index)) ∷ [])) (becomes []))) (at-first o os are)
  by-effect q os are = other

pub unnamed-change : (s : Spilling) (n c : ℕ) (is : List Instr) → ((i : Instr) → Member i is → IsStrange s i) → ((i : Instr) → Member i is → is_needless s i ≡ false) → change s n c is ≡ becomes is
unnamed-change s n c [] strange needed = place-stays s c [] strange
unnamed-change s n c (i ∷ []) strange needed = by-effect s n c i (strange i first) (needed i first) (effect_of s.target i) i.operands refl
unnamed-change s n c (i ∷ j ∷ is) strange needed = place-stays s c (i ∷ j ∷ is) strange
