-- Flags of operands, and instructions whose operands change but for their roles.
use Rattle.std.proofs.Common.{◌≡◌, ◌⊎◌, inl, inr, ◌∷◌, ◌++◌, ◌∙◌, ◌&&◌, ◌||◌, ◌+◌, not, ℕ, suc, Bool, true, false, cond, List, [], Option, Some, None, map, flat_map, refl, sym, ap, subst}
use Rattle.std.specs.Prelude.{find, is_none}
use Rattle.std.specs.List.{list_all}
use Rattle.std.proofs.lemmas.Bool.{not-true}
use Rattle.target_base.specs.declared.types.Role.{Role}
use Rattle.target_base.specs.declared.types.Target.{Target}
use Rattle.meaning.specs.Live.{Among as Member, here as first, there as later}
use Rattle.mir_func.specs.declared.func.RegOp.{RegOp}
use Rattle.mir_func.specs.declared.func.Operand.{Operand}
use Rattle.mir_func.specs.declared.func.Operand.TheVariants as operands
use Rattle.mir_func.specs.declared.func.Instr.{Instr}
use Rattle.mir_func.specs.Binding.{Bound, as_register, bound, explicit_bound, explicit_operands, explicit_roles, implicit_bound, implicit_registers, implicit_roles, is_early, is_implicit_operand, numbered as with_numbers, passes, registers, roles_of, takes_many, takes_role, ties_to}
use Rattle.mir_meaning.specs.Rules.{flags_fit, implicit_last}
use Rattle.phi_elim.specs.Numbered.{numbered}
use Rattle.instr_effects.proofs.Members.{either-elim, filter-in, filter-of, left-in, map-in, map-of, member-elim, member-none, right-in}
use Rattle.live_laws.proofs.Effects.Lists.{all-of}
use Rattle.lowering_laws.proofs.CountedOperands.{plain-bound}
use Rattle.lowering_laws.proofs.Formed.{all-by}
use Rattle.lowering_laws.proofs.FormedTies.{seat-all}
use Rattle.lowering_laws.proofs.RulesStay.{numbered-of}
use Rattle.lowering_laws.proofs.Seated.{bound-operand, register-in, register-of, some-role, told-of}
use Rattle.join_laws.proofs.Rules.{bound-in}
use Rattle.join_laws.proofs.Written.{operand-of}

-- operands without flags

abbrev pub IsPlain : RegOp → Type 0
IsPlain o = (o.early ≡ false) × (o.tie ≡ None)

pub plain-fits : (q : Option Role) (o : RegOp) → IsPlain o → flags_fit (q, operands.Reg o) ≡ true
plain-fits q o p = λ k. (not (p.0 k) || passes is_early q) && (is_none (p.1 k) || passes (λ n. passes (ties_to n) q) (p.1 k))

-- where the opcode has no roles its operands are so
pub bare-plain : (o : RegOp) → flags_fit (None, operands.Reg o) ≡ true → IsPlain o
bare-plain o h = go o.early o.tie h
  where
    go : (e : Bool) (n : Option ℕ) → ((not e || false) && (is_none n || passes (λ n. false) n)) ≡ true → (e ≡ false) × (n ≡ None)
    go false None h = (refl, refl)
    go false (Some n) h = absurd (cc)
    go true n h = absurd (cc)

pub fits-if : (b : Bound) → ((o : RegOp) → b.1 ≡ operands.Reg o → IsPlain o) → flags_fit b ≡ true
fits-if (q, operands.Reg o) h = plain-fits q o (h o refl)
fits-if (q, operands.Imm z) h = refl
fits-if (q, operands.Block z) h = refl
fits-if (q, operands.Stack z) h = refl
fits-if (q, operands.FixedStack z) h = refl
fits-if (q, operands.Symbol z) h = refl
fits-if (q, operands.Index z) h = refl
fits-if (q, operands.Mask z) h = refl

-- flags of the instruction are the opcode's
abbrev pub Marked : Target → Instr → Type 0
Marked t x = list_all flags_fit (bound t x) ≡ true

abbrev pub AllMarked : Target → List Instr → Type 0
AllMarked t [] = Unit {0}
AllMarked t (x ∷ xs) = Marked t x × AllMarked t xs

pub marked-append : (t : Target) (xs ys : List Instr) → AllMarked t xs → AllMarked t ys → AllMarked t (xs ++ ys)
marked-append t [] ys a b = b
marked-append t (x ∷ xs) ys a b = (a.0, marked-append t xs ys a.1 b)

pub marked-flat : {A : Type 0} (t : Target) (g : A → List Instr) (xs : List A) → ((x : A) → Member x xs → AllMarked t (g x)) → AllMarked t (flat_map g xs)
marked-flat t g [] h = tt
marked-flat t g (x ∷ xs) h = marked-append t (g x) (flat_map g xs) (h x first) (marked-flat t g xs (λ y m. h y (later m)))

pub marked-numbered : (t : Target) (n : ℕ) (is : List Instr) → AllMarked t is → AllMarked t (numbered n is)
marked-numbered t n [] m = tt
marked-numbered t n (i ∷ is) m = (m.0, marked-numbered t (n + 1) is m.1)

pub marked-of : (t : Target) (x : Instr) (xs : List Instr) → AllMarked t xs → Member x xs → Marked t x
marked-of t x [] a m = absurd (member-none x m)
marked-of t x (y ∷ xs) a m = member-elim x y xs (λ e. subst (Marked t) (sym e) a.0) (λ k. marked-of t x xs a.1 k) m

module _ (t : Target) where
  pub plain-marked : (x : Instr) → ((o : RegOp) → Member o (registers x.operands) → IsPlain o) → Marked t x
  plain-marked x h = all-by flags_fit (bound t x) (λ b m. fits-if b (λ o e. h o (bound-in t x b m o e)))

  pub two-marked : (x : Instr) (d s : RegOp) → x.operands ≡ operands.Reg d ∷ operands.Reg s ∷ [] → IsPlain d → IsPlain s → Marked t x
  two-marked x d s are p q =
      plain-marked x (λ o m. member-elim o d (s ∷ []) (λ e. subst IsPlain (sym e) p) (λ k. member-elim o s [] (λ e. subst IsPlain (sym e) q) (λ j. absurd (member-none o j)) k) (subst (λ os. Member o (registers os)) are m))

  pub one-marked : (x : Instr) (d : RegOp) → x.operands ≡ operands.Reg d ∷ [] → IsPlain d → Marked t x
  one-marked x d are p = plain-marked x (λ o m. member-elim o d [] (λ e. subst IsPlain (sym e) p) (λ j. absurd (member-none o j)) (subst (λ os. Member o (registers os)) are m))

  -- an operand is bound
  pub bound-of : (i : Instr) (o : RegOp) → Member o (registers i.operands) → (q : Option Role) × Member (q, operands.Reg o) (bound t i)
  bound-of i o m = go o.implicit refl
    where
      go : (u : Bool) → o.implicit ≡ u → (q : Option Role) × Member (q, operands.Reg o) (bound t i)
      go true e =
          let qs = implicit_roles (roles_of t i) in (
            find (takes_role o) qs,
            right-in (implicit_bound qs o) (explicit_bound (explicit_roles (roles_of t i)) (explicit_operands i.operands)) (map (implicit_bound qs) (implicit_registers i.operands))
                (map-in (implicit_bound qs) o (implicit_registers i.operands) (filter-in (λ (p : RegOp). p.implicit) o (registers i.operands) m e)),
          )
      go false e =
          let z = some-role (explicit_roles (roles_of t i)) (explicit_operands i.operands) (operands.Reg o) (filter-in (λ x. not (is_implicit_operand x)) (operands.Reg o) i.operands (operand-of i.operands o m) (ap not e)) in
          (z.0, left-in (z.0, operands.Reg o) (explicit_bound (explicit_roles (roles_of t i)) (explicit_operands i.operands)) (map (implicit_bound (implicit_roles (roles_of t i))) (implicit_registers i.operands)) z.1)

  unbound : (os : List Operand) (b : Bound) → Member b (explicit_bound [] os) → b.0 ≡ None
  unbound [] b m = absurd (member-none b m)
  unbound (o ∷ os) b m = member-elim b (None, o) (explicit_bound [] os) (λ e. ap (λ (x : Bound). x.0) e) (λ k. unbound os b k) m

  none-bound : (i : Instr) → roles_of t i ≡ [] → (b : Bound) → Member b (bound t i) → b.0 ≡ None
  none-bound i bare b m =
      either-elim b (explicit_bound [] (explicit_operands i.operands)) (map (implicit_bound []) (implicit_registers i.operands))
      (λ k. unbound (explicit_operands i.operands) b k)
      (λ k. let y = map-of (implicit_bound []) b (implicit_registers i.operands) k in ap (λ (x : Bound). x.0) y.2)
      (subst (λ rs. Member b (explicit_bound (explicit_roles rs) (explicit_operands i.operands) ++ map (implicit_bound (implicit_roles rs)) (implicit_registers i.operands))) bare m)

  pub bare-operand : (i : Instr) → roles_of t i ≡ [] → Marked t i → (o : RegOp) → Member o (registers i.operands) → IsPlain o
  bare-operand i bare marks o m =
      let z = bound-of i o m in
      let none : z.0 ≡ None = none-bound i bare (z.0, operands.Reg o) z.1 in
      bare-plain o (subst (λ q. flags_fit (q, operands.Reg o) ≡ true) none (all-of flags_fit (z.0, operands.Reg o) (bound t i) z.1 marks))

-- operands that are changed by their roles

-- what becomes of an operand is it, or has no flags
abbrev pub StaysOrPlain : RegOp → RegOp → Type 0
StaysOrPlain o p = (p ≡ o) ⊎ IsPlain p

pub fits-or : (q : Option Role) (o p : RegOp) → StaysOrPlain o p → flags_fit (q, operands.Reg o) ≡ true → flags_fit (q, operands.Reg p) ≡ true
fits-or q o p (inl e) h = subst (λ x. flags_fit (q, operands.Reg x) ≡ true) (sym e) h
fits-or q o p (inr z) h = plain-fits q p z

module _ (h : ℕ × Bound → Operand) where
  abbrev after : ℕ → List Role → List Operand → List Operand
  after m rs os = map h (with_numbers m (explicit_bound rs os))

  seat-was : (m : ℕ) (rs : List Role) (os : List Operand) (q : Option Role) (x : Operand) → Member (q, x) (explicit_bound rs (after m rs os)) → (k : ℕ) × (y : Operand) × Member (q, y) (explicit_bound rs os) × (x ≡ h (k, (q, y)))
  seat-was m rs [] q x k = absurd (member-none (q, x) k)
  seat-was m [] (y ∷ os) q x k =
      member-elim (q, x) (None, h (m, (None, y))) (explicit_bound [] (after (suc m) [] os))
      (λ e.
      let r : q ≡ None = ap (λ (b : Bound). b.0) e in
      (m, y, subst (λ z. Member (z, y) ((None, y) ∷ explicit_bound [] os)) (sym r) first, ap (λ (b : Bound). b.1) e ∙ (λ i. h (m, (sym r i, y)))))
      (λ j. let z = seat-was (suc m) [] os q x j in (z.0, z.1, later z.2, z.3)) k
  seat-was m (s ∷ rs) (y ∷ os) q x k =
      let rest = cond (takes_many s) (s ∷ rs) rs in
      member-elim (q, x) (Some s, h (m, (Some s, y))) (explicit_bound rest (after (suc m) rest os))
      (λ e.
      let r : q ≡ Some s = ap (λ (b : Bound). b.0) e in
      (m, y, subst (λ z. Member (z, y) ((Some s, y) ∷ explicit_bound rest os)) (sym r) first, ap (λ (b : Bound). b.1) e ∙ (λ i. h (m, (sym r i, y)))))
      (λ j. let z = seat-was (suc m) rest os q x j in (z.0, z.1, later z.2, z.3)) k

  register-was : (m : ℕ) (rs : List Role) (os : List Operand) (o : RegOp) → Member o (registers (after m rs os)) → (k : ℕ) × (q : Option Role) × (y : Operand) × Member (q, y) (explicit_bound rs os) × (operands.Reg o ≡ h (k, (q, y)))
  register-was m rs os o a =
      let z = told-of as_register o (after m rs os) a in
      let y = map-of h z.0 (with_numbers m (explicit_bound rs os)) z.1 in
      (y.0.0, y.0.1.0, y.0.1.1, numbered-of m (explicit_bound rs os) y.0 y.1, sym (register-of z.0 o z.2) ∙ y.2)

  -- implicit operands stay so, and the others too
  abbrev pub Stay : List Role → List Operand → Type 0
  Stay rs os = (k : ℕ) (q : Option Role) (y : Operand) → Member (q, y) (explicit_bound rs os) → is_implicit_operand (h (k, (q, y))) ≡ is_implicit_operand y

  all-stay : (m : ℕ) (rs : List Role) (os : List Operand) → Stay rs os → list_all is_implicit_operand (after m rs os) ≡ list_all is_implicit_operand os
  all-stay m rs [] s = refl
  all-stay m [] (y ∷ os) s = λ i. s m None y first i && all-stay (suc m) [] os (λ k q x a. s k q x (later a)) i
  all-stay m (r ∷ rs) (y ∷ os) s = λ i. s m (Some r) y first i && all-stay (suc m) (cond (takes_many r) (r ∷ rs) rs) os (λ k q x a. s k q x (later a)) i

  last-stays : (m : ℕ) (rs : List Role) (os : List Operand) → Stay rs os → implicit_last (after m rs os) ≡ implicit_last os
  last-stays m rs [] s = refl
  last-stays m [] (y ∷ os) s = λ i. cond (s m None y first i) (all-stay (suc m) [] os (λ k q x a. s k q x (later a)) i) (last-stays (suc m) [] os (λ k q x a. s k q x (later a)) i)
  last-stays m (r ∷ rs) (y ∷ os) s =
      let rest = cond (takes_many r) (r ∷ rs) rs in
      λ i. cond (s m (Some r) y first i) (all-stay (suc m) rest os (λ k q x a. s k q x (later a)) i) (last-stays (suc m) rest os (λ k q x a. s k q x (later a)) i)

  -- such a change of the operands of an instruction: flags that fit a role fit it still, and an implicit register stays or has none
  pub record KeepsMarks (t : Target) (i : Instr) : Type 0 where
    pub fits : (k : ℕ) (q : Option Role) (y : Operand) → flags_fit (q, y) ≡ true → flags_fit (q, h (k, (q, y))) ≡ true
    pub stay : Stay (explicit_roles (roles_of t i)) i.operands
    pub register : (k : ℕ) (q : Option Role) (y : Operand) (o : RegOp) → operands.Reg o ≡ h (k, (q, y)) → (d : RegOp) × (y ≡ operands.Reg d) × (d.implicit ≡ true → StaysOrPlain d o)
    pub ordered : implicit_last i.operands ≡ true

  module _ (t : Target) (i : Instr) (keeps : KeepsMarks t i) (marks : Marked t i) where
    abbrev rs : List Role
    rs = explicit_roles (roles_of t i)

    abbrev qs : List Role
    qs = implicit_roles (roles_of t i)

    abbrev new : Instr
    new = record i { operands = after 0 rs i.operands }

    explicit-fits : (q : Option Role) (x : Operand) → Member (q, x) (explicit_bound rs (explicit_operands new.operands)) → flags_fit (q, x) ≡ true
    explicit-fits q x m =
        let w = seat-all rs new.operands q x (last-stays 0 rs i.operands keeps.stay ∙ keeps.ordered) m in
        let s = seat-was 0 rs i.operands q x w in
        let free : is_implicit_operand x ≡ false = not-true (is_implicit_operand x) (filter-of (λ o. not (is_implicit_operand o)) x new.operands (bound-operand rs (explicit_operands new.operands) q x m)).1 in
        let plain : is_implicit_operand s.1 ≡ false = sym (ap is_implicit_operand s.3 ∙ keeps.stay s.0 q s.1 s.2) ∙ free in
        let there = plain-bound rs i.operands q s.1 keeps.ordered plain s.2 in
        let was = all-of flags_fit (q, s.1) (bound t i) (left-in (q, s.1) (explicit_bound rs (explicit_operands i.operands)) (map (implicit_bound qs) (implicit_registers i.operands)) there) marks in
        subst (λ y. flags_fit (q, y) ≡ true) (sym s.3) (keeps.fits s.0 q s.1 was)

    implicit-fits : (o : RegOp) → Member o (implicit_registers new.operands) → flags_fit (implicit_bound qs o) ≡ true
    implicit-fits o m =
        let z = filter-of (λ (p : RegOp). p.implicit) o (registers new.operands) m in
        let s = register-was 0 rs i.operands o z.0 in
        let d = keeps.register s.0 s.1 s.2 o s.4 in
        let stays : o.implicit ≡ d.0.implicit = ap is_implicit_operand s.4 ∙ (keeps.stay s.0 s.1 s.2 s.3 ∙ ap is_implicit_operand d.1) in
        let marked : d.0.implicit ≡ true = sym stays ∙ z.1 in
        go d.0 (subst (λ y. Member y i.operands) d.1 (bound-operand rs i.operands s.1 s.2 s.3)) marked (d.2 marked)
      where
        go : (d : RegOp) → Member (operands.Reg d) i.operands → d.implicit ≡ true → StaysOrPlain d o → flags_fit (implicit_bound qs o) ≡ true
        go d md marked (inr z) = plain-fits (find (takes_role o) qs) o z
        go d md marked (inl same) =
            let there = filter-in (λ (p : RegOp). p.implicit) d (registers i.operands) (register-in d i.operands md) marked in
            subst (λ (p : RegOp). flags_fit (implicit_bound qs p) ≡ true) (sym same)
            (all-of flags_fit (implicit_bound qs d) (bound t i) (right-in (implicit_bound qs d) (explicit_bound rs (explicit_operands i.operands)) (map (implicit_bound qs) (implicit_registers i.operands)) (map-in (implicit_bound qs) d (implicit_registers i.operands) there)) marks)

    pub changed-marked : Marked t new
    changed-marked =
        all-by flags_fit (bound t new) (λ b m.
        either-elim b (explicit_bound rs (explicit_operands new.operands)) (map (implicit_bound qs) (implicit_registers new.operands))
        (λ k. explicit-fits b.0 b.1 k)
        (λ k. let y = map-of (implicit_bound qs) b (implicit_registers new.operands) k in subst (λ (x : Bound). flags_fit x ≡ true) (sym y.2) (implicit-fits y.0 y.1)) m)
