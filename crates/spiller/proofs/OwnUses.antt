-- What operands read of the range, one by one, is what the definition reads of it.
use Rattle.std.proofs.Common.{◌≡◌, ◌∙◌, ℕ, suc, Bool, true, false, cond, not, ◌&&◌, ◌||◌, List, [], ◌∷◌, ◌++◌, Option, Some, None, map, refl, sym, ap, subst, eqb-true}
use Rattle.std.specs.Prelude.{filter, filter_map, find, flat_map, nat_eq}
use Rattle.std.specs.List.{AllByRecursion, cons_option, list_all, list_any}
use Rattle.std.proofs.lemmas.List.Elements.{filter_map-append, filter-append}
use Rattle.std.proofs.lemmas.List.{append-nil}
use Rattle.target_base.specs.declared.types.Role.{Role}
use Rattle.target_base.specs.declared.types.Target.{Target}
use Rattle.target_base.specs.Roles.{is_tied}
use Rattle.target_base.proofs.Tests.{first_of_both, second_of_both}
use Rattle.mir_func.specs.declared.func.Loc.{Loc}
use Rattle.mir_func.specs.declared.func.Loc.TheVariants.{Virtual, Fixed}
use Rattle.mir_func.specs.declared.func.RegOp.{RegOp}
use Rattle.mir_func.specs.declared.func.Operand.{Operand}
use Rattle.mir_func.specs.declared.func.Operand.TheVariants as operands
use Rattle.mir_func.specs.declared.func.Instr.{Instr}
use Rattle.mir_func.specs.Value.{Function}
use Rattle.mir_func.specs.Binding.{Bound, after_first, bound, explicit_bound, explicit_operands, explicit_roles, first_role, implicit_bound, implicit_registers, implicit_roles, is_early, is_implicit_operand, is_virtual, numbered, operand_class, passes, roles_of, same_index, takes_role}
use Rattle.mir_func.proofs.Bound.{bound_step, bound_none}
use Rattle.mir_meaning.specs.Places.{Defining, Using, Variable, each_once, has_tied_use, is_defining, operand_variable, register_variable, same_class, same_use, variable}
use Rattle.mir_meaning.specs.Points.{is_range}
use Rattle.mir_meaning.specs.Rules.{implicit_last}
use Rattle.spiller.specs.Setting.{Spilling}
use Rattle.spiller.specs.Rematerialised.{own_variables, ways_read}
use Rattle.spiller.specs.Additions.{own_use, own_uses, seated_operands}
use Rattle.spiller.specs.Placing.{AreFixed, IsPlainForm}
use Rattle.spiller.proofs.FirstLanes.{equals-swapped}

-- variables once each

-- what was seen before matters only as far as it is asked for
pub seen-alike : (seen other vs : List Variable) → ((v : Variable) → list_any (same_use v) seen ≡ list_any (same_use v) other) → each_once seen vs ≡ each_once other vs
seen-alike seen other [] e = refl
seen-alike seen other (v ∷ vs) e = λ k. cond (e v k) (seen-alike seen other vs e k) (v ∷ seen-alike (v ∷ seen) (v ∷ other) vs (λ w. ap (λ b. same_use w v || b) (e w)) k)

-- a use
abbrev pub is_plain : Variable → Bool
is_plain x = not (is_defining x.kind)

plain-defining : (b c : Bool) → not b ≡ true → c ≡ true → not (b || c) ≡ false
plain-defining true c h g = absurd (cc)
plain-defining false c h g = ap not g

-- a definition is like no other variable
defining-none : (v : Variable) (xs : List Variable) → is_defining v.kind ≡ true → list_any (same_use v) xs ≡ false
defining-none v [] d = refl
defining-none v (x ∷ xs) d = λ k. (not (d k || is_defining x.kind) && nat_eq v.range x.range && same_index v.index x.index && same_class v.class x.class) || defining-none v xs d k

defining-other : (w v : Variable) → is_plain w ≡ true → is_defining v.kind ≡ true → same_use w v ≡ false
defining-other w v h d = ap (λ b. b && nat_eq w.range v.range && same_index w.index v.index && same_class w.class v.class) (plain-defining (is_defining w.kind) (is_defining v.kind) h d)

-- uses once each are the uses of all variables once each
pub uses-once : (seen other vs : List Variable) → ((v : Variable) → is_plain v ≡ true → list_any (same_use v) seen ≡ list_any (same_use v) other) → filter is_plain (each_once seen vs) ≡ each_once other (filter is_plain vs)
uses-once seen other [] e = refl
uses-once seen other (v ∷ vs) e = go (is_defining v.kind) refl (λ a b g. uses-once a b vs g)
  where
    defined : is_defining v.kind ≡ true → ((a b : List Variable) → ((w : Variable) → is_plain w ≡ true → list_any (same_use w) a ≡ list_any (same_use w) b) → filter is_plain (each_once a vs) ≡ each_once b (filter is_plain vs)) → filter is_plain (v ∷ each_once (v ∷ seen) vs) ≡ each_once other (filter is_plain vs)
    defined d ih =
        ap (λ b. cond (not b) (v ∷ filter is_plain (each_once (v ∷ seen) vs)) (filter is_plain (each_once (v ∷ seen) vs))) d
        ∙ ih (v ∷ seen) other (λ w h. ap (λ b. b || list_any (same_use w) seen) (defining-other w v h d) ∙ e w h)

    used : (b : Bool) → is_defining v.kind ≡ false → list_any (same_use v) other ≡ b → ((a b : List Variable) → ((w : Variable) → is_plain w ≡ true → list_any (same_use w) a ≡ list_any (same_use w) b) → filter is_plain (each_once a vs) ≡ each_once b (filter is_plain vs)) → filter is_plain (cond b (each_once seen vs) (v ∷ each_once (v ∷ seen) vs)) ≡ each_once other (v ∷ filter is_plain vs)
    used true d h ih = ih seen other e ∙ sym (ap (λ b. cond b (each_once other (filter is_plain vs)) (v ∷ each_once (v ∷ other) (filter is_plain vs))) h)
    used false d h ih =
        ap (λ b. cond (not b) (v ∷ filter is_plain (each_once (v ∷ seen) vs)) (filter is_plain (each_once (v ∷ seen) vs))) d
        ∙ (ap (λ zs. v ∷ zs) (ih (v ∷ seen) (v ∷ other) (λ w q. ap (λ b. same_use w v || b) (e w q)))
        ∙ sym (ap (λ b. cond b (each_once other (filter is_plain vs)) (v ∷ each_once (v ∷ other) (filter is_plain vs))) h))

    go : (d : Bool) → is_defining v.kind ≡ d → ((a b : List Variable) → ((w : Variable) → is_plain w ≡ true → list_any (same_use w) a ≡ list_any (same_use w) b) → filter is_plain (each_once a vs) ≡ each_once b (filter is_plain vs)) → filter is_plain (each_once seen (v ∷ vs)) ≡ each_once other (filter is_plain (v ∷ vs))
    go true d ih =
        ap (λ b. filter is_plain (cond b (each_once seen vs) (v ∷ each_once (v ∷ seen) vs))) (defining-none v seen d)
        ∙ (defined d ih
        ∙ sym (ap (λ b. each_once other (cond (not b) (v ∷ filter is_plain vs) (filter is_plain vs))) d))
    go false d ih =
        ap (λ b. filter is_plain (cond b (each_once seen vs) (v ∷ each_once (v ∷ seen) vs))) (e v (ap not d))
        ∙ (used (list_any (same_use v) other) d refl ih
        ∙ sym (ap (λ b. each_once other (cond (not b) (v ∷ filter is_plain vs) (filter is_plain vs))) d))

-- operands with their roles

-- nothing is told of the operand where it is a physical register
abbrev pub SkipsFixed : {X : Type 0} → (Bound → Option X) → Type 0
SkipsFixed g = (r : Option Role) (o : RegOp) → is_virtual o.loc ≡ false → g (r, operands.Reg o) ≡ None

fixed-first : (o : RegOp) (os : List Operand) → o.implicit ≡ true → AreFixed (operands.Reg o ∷ os) → (is_virtual o.loc ≡ false) × AreFixed os
fixed-first o os i h =
    let z : list_all (λ x. not (is_virtual x.loc)) (cond true (o ∷ implicit_registers os) (implicit_registers os)) ≡ true = subst (λ b. list_all (λ x. not (is_virtual x.loc)) (cond b (o ∷ implicit_registers os) (implicit_registers os)) ≡ true) i h in
    (turn (is_virtual o.loc) (first_of_both (not (is_virtual o.loc)) (list_all (λ x. not (is_virtual x.loc)) (implicit_registers os)) z), second_of_both (not (is_virtual o.loc)) (list_all (λ x. not (is_virtual x.loc)) (implicit_registers os)) z)
  where
    turn : (b : Bool) → not b ≡ true → b ≡ false
    turn true e = absurd (cc)
    turn false e = refl

fixed-behind : (o : Operand) (os : List Operand) → AreFixed (o ∷ os) → AreFixed os
fixed-behind (operands.Reg o) os h = go o.implicit h
  where
    go : (b : Bool) → list_all (λ x. not (is_virtual x.loc)) (cond b (o ∷ implicit_registers os) (implicit_registers os)) ≡ true → AreFixed os
    go true z = second_of_both (not (is_virtual o.loc)) (list_all (λ x. not (is_virtual x.loc)) (implicit_registers os)) z
    go false z = z
fixed-behind o os h = h

module _ {X : Type 0} (g : Bound → Option X) (skips : SkipsFixed g) where
  skipped : (r : Option Role) (o : Operand) (os : List Operand) → is_implicit_operand o ≡ true → AreFixed (o ∷ os) → g (r, o) ≡ None
  skipped r (operands.Reg o) os i h = skips r o (fixed-first o os i h).0
  skipped r o os i h = absurd (cc)

  -- implicit operands, whatever roles they would take
  all-skipped : (rs : List Role) (os : List Operand) → list_all is_implicit_operand os ≡ true → AreFixed os → filter_map g (explicit_bound rs os) ≡ []
  all-skipped rs [] i h = ap (filter_map g) (bound_none rs)
  all-skipped rs (o ∷ os) i h =
      ap (filter_map g) (bound_step rs o os)
      ∙ (ap (λ q. cons_option q (filter_map g (explicit_bound (after_first rs) os))) (skipped (first_role rs) o os (first_of_both (is_implicit_operand o) (list_all is_implicit_operand os) i) h)
      ∙ all-skipped (after_first rs) os (second_of_both (is_implicit_operand o) (list_all is_implicit_operand os) i) (fixed-behind o os h))

  none-explicit : (os : List Operand) → list_all is_implicit_operand os ≡ true → explicit_operands os ≡ []
  none-explicit [] i = refl
  none-explicit (o ∷ os) i = ap (λ b. cond (not b) (o ∷ explicit_operands os) (explicit_operands os)) (first_of_both (is_implicit_operand o) (list_all is_implicit_operand os) i) ∙ none-explicit os (second_of_both (is_implicit_operand o) (list_all is_implicit_operand os) i)

  -- explicit operands alone, and all operands
  explicit-alone : (rs : List Role) (os : List Operand) → implicit_last os ≡ true → AreFixed os → filter_map g (explicit_bound rs (explicit_operands os)) ≡ filter_map g (explicit_bound rs os)
  explicit-alone rs [] last h = refl
  explicit-alone rs (o ∷ os) last h = go (is_implicit_operand o) refl (λ more. explicit-alone (after_first rs) os more (fixed-behind o os h))
    where
      go : (b : Bool) → is_implicit_operand o ≡ b → (implicit_last os ≡ true → filter_map g (explicit_bound (after_first rs) (explicit_operands os)) ≡ filter_map g (explicit_bound (after_first rs) os)) → filter_map g (explicit_bound rs (explicit_operands (o ∷ os))) ≡ filter_map g (explicit_bound rs (o ∷ os))
      go true i ih =
          let more : list_all is_implicit_operand os ≡ true = subst (λ b. cond b (list_all is_implicit_operand os) (implicit_last os) ≡ true) i last in
          let all : list_all is_implicit_operand (o ∷ os) ≡ true = λ k. i k && more k in
          ap (λ xs. filter_map g (explicit_bound rs xs)) (none-explicit (o ∷ os) all) ∙ (ap (filter_map g) (bound_none rs) ∙ sym (all-skipped rs (o ∷ os) all h))
      go false i ih =
          let more : implicit_last os ≡ true = subst (λ b. cond b (list_all is_implicit_operand os) (implicit_last os) ≡ true) i last in
          ap (λ b. filter_map g (explicit_bound rs (cond (not b) (o ∷ explicit_operands os) (explicit_operands os)))) i
          ∙ (ap (filter_map g) (bound_step rs o (explicit_operands os))
          ∙ (ap (λ zs. cons_option (g (first_role rs, o)) zs) (ih more)
          ∙ sym (ap (filter_map g) (bound_step rs o os))))

  implicit-skipped : (rs : List Role) (os : List RegOp) → list_all (λ o. not (is_virtual o.loc)) os ≡ true → filter_map g (map (implicit_bound rs) os) ≡ []
  implicit-skipped rs [] h = refl
  implicit-skipped rs (o ∷ os) h =
      ap (λ q. cons_option q (filter_map g (map (implicit_bound rs) os))) (skips (find (takes_role o) rs) o (turn (is_virtual o.loc) (first_of_both (not (is_virtual o.loc)) (list_all (λ x. not (is_virtual x.loc)) os) h)))
      ∙ implicit-skipped rs os (second_of_both (not (is_virtual o.loc)) (list_all (λ x. not (is_virtual x.loc)) os) h)
    where
      turn : (b : Bool) → not b ≡ true → b ≡ false
      turn true e = absurd (cc)
      turn false e = refl

  -- what is told of operands with their roles is told of them in their order
  pub told-in-order : (t : Target) (i : Instr) → implicit_last i.operands ≡ true → AreFixed i.operands → filter_map g (bound t i) ≡ filter_map g (seated_operands t i)
  told-in-order t i last fixed =
      filter_map-append g (explicit_bound (explicit_roles (roles_of t i)) (explicit_operands i.operands)) (map (implicit_bound (implicit_roles (roles_of t i))) (implicit_registers i.operands))
      ∙ (ap (λ zs. filter_map g (explicit_bound (explicit_roles (roles_of t i)) (explicit_operands i.operands)) ++ zs) (implicit-skipped (implicit_roles (roles_of t i)) (implicit_registers i.operands) fixed)
      ∙ (append-nil (filter_map g (explicit_bound (explicit_roles (roles_of t i)) (explicit_operands i.operands)))
      ∙ explicit-alone (explicit_roles (roles_of t i)) i.operands last fixed))

-- uses of the range

module _ (t : Target) (f : Function) (v : ℕ) where
  abbrev own : Variable → Bool
  own x = nat_eq x.range v

  abbrev kept : List Variable → List Variable
  kept xs = filter is_plain (filter own xs)

  -- the use with its register at this place
  abbrev use_at : Option Role → RegOp → Loc → Option Variable
  use_at r o l = cond (is_range v l && not (o.def || (o.undef || passes is_tied r))) (Some (variable Using v o.index (operand_class t f r o))) None

  of-register : (tied : Bool) (r : Option Role) (o : RegOp) (l : Loc) (xs : List Variable) → kept (cons_option (register_variable t f tied r o l) xs) ≡ cons_option (use_at r o l) (kept xs)
  of-register tied r o (Fixed q) xs = refl
  of-register tied r o (Virtual w) xs = go o.def (o.undef || passes is_tied r) (nat_eq w v) refl (equals-swapped v w)
    where
      x : Variable
      x = variable Using w o.index (operand_class t f r o)

      d : Variable
      d = variable (Defining tied (passes is_early r)) w o.index (operand_class t f r o)

      go : (a b c : Bool) → nat_eq w v ≡ c → nat_eq v w ≡ nat_eq w v → kept (cons_option (cond a (Some d) (cond b None (Some x))) xs) ≡ cons_option (cond (nat_eq v w && not (a || b)) (Some (variable Using v o.index (operand_class t f r o))) None) (kept xs)
      go true b true e s = ap (λ c. filter is_plain (cond c (d ∷ filter own xs) (filter own xs))) e ∙ sym (ap (λ c. cons_option (cond (c && false) (Some (variable Using v o.index (operand_class t f r o))) None) (kept xs)) (s ∙ e))
      go true b false e s = ap (λ c. filter is_plain (cond c (d ∷ filter own xs) (filter own xs))) e ∙ sym (ap (λ c. cons_option (cond (c && false) (Some (variable Using v o.index (operand_class t f r o))) None) (kept xs)) (s ∙ e))
      go false true c e s = sym (ap (λ c. cons_option (cond (c && false) (Some (variable Using v o.index (operand_class t f r o))) None) (kept xs)) (s ∙ e) ∙ none c)
        where
          none : (c : Bool) → cons_option (cond (c && false) (Some (variable Using v o.index (operand_class t f r o))) None) (kept xs) ≡ kept xs
          none true = refl
          none false = refl
      go false false true e s =
          ap (λ c. filter is_plain (cond c (x ∷ filter own xs) (filter own xs))) e
          ∙ (ap (λ m. variable Using m o.index (operand_class t f r o) ∷ kept xs) (eqb-true w v e)
          ∙ sym (ap (λ c. cons_option (cond (c && true) (Some (variable Using v o.index (operand_class t f r o))) None) (kept xs)) (s ∙ e)))
      go false false false e s =
          ap (λ c. filter is_plain (cond c (x ∷ filter own xs) (filter own xs))) e
          ∙ sym (ap (λ c. cons_option (cond (c && true) (Some (variable Using v o.index (operand_class t f r o))) None) (kept xs)) (s ∙ e))

  of-bound : (tied : ℕ → Bool) (n : ℕ) (bs : List Bound) → kept (filter_map (λ p. operand_variable t f (tied p.0) p.1) (numbered n bs)) ≡ filter_map (own_use t f v) bs
  of-bound tied n [] = refl
  of-bound tied n ((r, operands.Reg o) ∷ bs) =
      of-register (tied n) r o o.loc (filter_map (λ p. operand_variable t f (tied p.0) p.1) (numbered (suc n) bs))
      ∙ ap (cons_option (use_at r o o.loc)) (of-bound tied (suc n) bs)
  of-bound tied n ((r, x) ∷ bs) = of-bound tied (suc n) bs

  use-skips : SkipsFixed (own_use t f v)
  use-skips r o h = go o.loc h
    where
      go : (l : Loc) → is_virtual l ≡ false → use_at r o l ≡ None
      go (Virtual w) h = absurd (cc)
      go (Fixed q) h = refl

-- the uses of an instruction
pub plain-uses : (s : Spilling) (i : Instr) → implicit_last i.operands ≡ true → AreFixed i.operands → filter is_plain (own_variables s i) ≡ own_uses s.target s.func s.range i
plain-uses s i last fixed =
    of-bound s.target s.func s.range (has_tied_use s.target i) 0 (bound s.target i)
    ∙ told-in-order (own_use s.target s.func s.range) (use-skips s.target s.func s.range) s.target i last fixed

all-uses : (s : Spilling) (is : List Instr) → AllByRecursion IsPlainForm is → filter is_plain (flat_map (own_variables s) is) ≡ flat_map (own_uses s.target s.func s.range) is
all-uses s [] h = refl
all-uses s (i ∷ is) h = filter-append is_plain (own_variables s i) (flat_map (own_variables s) is) ∙ (λ k. plain-uses s i h.0.last h.0.fixed k ++ all-uses s is h.1 k)

-- the ways in which a place reads the range
pub ways-are : (s : Spilling) (is : List Instr) → AllByRecursion IsPlainForm is → ways_read s is ≡ each_once [] (flat_map (own_uses s.target s.func s.range) is)
ways-are s is h = uses-once [] [] (flat_map (own_variables s) is) (λ v q. refl) ∙ ap (each_once []) (all-uses s is h)
