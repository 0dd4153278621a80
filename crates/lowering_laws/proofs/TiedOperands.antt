-- Rule 1 of an instruction whose ties are lowered: its operands fit the roles of its opcode as they did.
use Rattle.std.proofs.Common.{◌≡◌, not, ◌&&◌, ◌||◌, ◌∙◌, ◌∷◌, ℕ, suc, Bool, true, false, cond, List, Option, Some, None, refl, sym, ap, subst, []}
use Rattle.std.specs.List.{list_all}
use Rattle.target_base.specs.declared.types.ClassId.{ClassId}
use Rattle.target_base.specs.declared.types.Effect.{Effect}
use Rattle.target_base.specs.declared.types.Effect.TheVariants as effects
use Rattle.target_base.specs.declared.types.OpcodeDesc.{OpcodeDesc}
use Rattle.target_base.specs.declared.types.Role.{Role}
use Rattle.target_base.specs.declared.types.Role.TheVariants as roles
use Rattle.target_base.specs.declared.types.Target.{Target}
use Rattle.target_base.proofs.Tests.{first_of_both, second_of_both}
use Rattle.meaning.specs.Live.{Among, here, there}
use Rattle.mir_func.specs.declared.func.Loc.{Loc}
use Rattle.mir_func.specs.declared.func.Loc.TheVariants.{Fixed, Virtual}
use Rattle.mir_func.specs.declared.func.Operand.{Operand}
use Rattle.mir_func.specs.declared.func.Operand.TheVariants as operands
use Rattle.mir_func.specs.declared.func.RegOp.{RegOp}
use Rattle.mir_func.specs.Value.{Function}
use Rattle.mir_func.specs.Binding.{explicit_bound, explicit_operands, explicit_roles, immediate_of, implicit_registers, is_definition, is_implicit_operand, is_use, is_virtual, roles_of, takes_many}
use Rattle.mir_meaning.specs.Rules.{V1, explicit_fit, fits_at, implicit_fit, implicit_last, is_condition, is_opaque, is_reserved_register, operands_fit, spills_or_reloads}
use Rattle.two_address.specs.Ties.{retied, retied_operand, ties_in, with_operands}
use Rattle.two_address.specs.declared.ties.Tie.{Tie}
use Rattle.live_laws.proofs.Touch.Roles.{has_roles, met}
use Rattle.lowering_laws.proofs.EachBehind.{TiedInstr}
use Rattle.lowering_laws.proofs.FormedTies.{Stay, after, all-stay, last, stay-implicit}
use Rattle.lowering_laws.proofs.Replaced.{h}
use Rattle.lowering_laws.proofs.Rolled.{fit-operands}
use Rattle.lowering_laws.proofs.Seated.{none-explicit}
use Rattle.lowering_laws.proofs.Turns.{Turns, new_register, own_register, reads_definition, reads_fixed, reads_new_register, turns, unchanged}

not-true : (b : Bool) → not b ≡ true → b ≡ false
not-true true e = absurd (cc)
not-true false e = refl

-- an implicit operand stays
record SameImplicit (o o' : RegOp) : Type 0 where
  pub stays : o'.implicit ≡ o.implicit
  pub same : o.implicit ≡ true → o' ≡ o

-- operands one by one

module _ (t : Target) (cs : List (Option ClassId)) (ties : List Tie) where
  -- each operand that fits its role goes on to fit it
  abbrev FitOn : Effect → List Role → List Operand → Type 0
  FitOn e rs os = (k : ℕ) (r : Role) (y : Operand) → Among (Some r, y) (explicit_bound rs os) → fits_at t e r y ≡ true → fits_at t e r (retied_operand t cs ties (k, (Some r, y))) ≡ true

  -- where the first operand is implicit, none is explicit
  all-implicit : (e : Effect) (m : ℕ) (rs : List Role) (y : Operand) (os : List Operand) → is_implicit_operand y ≡ true → implicit_last (y ∷ os) ≡ true → Stay t cs ties rs (y ∷ os) → explicit_fit t e rs (explicit_operands (y ∷ os)) ≡ true → explicit_fit t e rs (explicit_operands (after t cs ties m rs (y ∷ os))) ≡ true
  all-implicit e m rs y os g last stay w =
      let all : list_all is_implicit_operand os ≡ true = subst (λ (b : Bool). cond b (list_all is_implicit_operand os) (implicit_last os) ≡ true) g last in
      let bare = none-explicit (y ∷ os) (λ k. g k && all k) in
      let bare' = none-explicit (after t cs ties m rs (y ∷ os)) (all-stay t cs ties m rs (y ∷ os) stay ∙ (λ k. g k && all k)) in
      subst (λ qs. explicit_fit t e rs qs ≡ true) (sym bare') (subst (λ qs. explicit_fit t e rs qs ≡ true) bare w)

  fit-after : (e : Effect) (m : ℕ) (rs : List Role) (os : List Operand) → implicit_last os ≡ true → Stay t cs ties rs os → FitOn e rs os → explicit_fit t e rs (explicit_operands os) ≡ true → explicit_fit t e rs (explicit_operands (after t cs ties m rs os)) ≡ true
  fit-after e m rs [] last stay fits w = w
  fit-after e m [] (y ∷ os) last stay fits w = go (is_implicit_operand y) refl
    where
      go : (b : Bool) → is_implicit_operand y ≡ b → explicit_fit t e [] (explicit_operands (after t cs ties m [] (y ∷ os))) ≡ true
      go true g = all-implicit e m [] y os g last stay w
      go false g = absurd (let x : explicit_fit t e [] (y ∷ explicit_operands os) ≡ true = subst (λ (b : Bool). explicit_fit t e [] (cond (not b) (y ∷ explicit_operands os) (explicit_operands os)) ≡ true) g w in cc)
  fit-after e m (s ∷ rs) (y ∷ os) last stay fits w = go (is_implicit_operand y) refl (λ later v. fit-after e (suc m) rest os later (λ k q x a. stay k q x (there a)) (λ k q x a. fits k q x (there a)) v)
    where
      rest : List Role
      rest = cond (takes_many s) (s ∷ rs) rs

      new : List Operand
      new = after t cs ties (suc m) rest os

      y' : Operand
      y' = retied_operand t cs ties (m, (Some s, y))

      go : (b : Bool) → is_implicit_operand y ≡ b → (implicit_last os ≡ true → explicit_fit t e rest (explicit_operands os) ≡ true → explicit_fit t e rest (explicit_operands new) ≡ true) → explicit_fit t e (s ∷ rs) (explicit_operands (y' ∷ new)) ≡ true
      go true g ih = all-implicit e m (s ∷ rs) y os g last stay w
      go false g ih =
          let later : implicit_last os ≡ true = subst (λ (b : Bool). cond b (list_all is_implicit_operand os) (implicit_last os) ≡ true) g last in
          let both : (fits_at t e s y && explicit_fit t e rest (explicit_operands os)) ≡ true = subst (λ (b : Bool). explicit_fit t e (s ∷ rs) (cond (not b) (y ∷ explicit_operands os) (explicit_operands os)) ≡ true) g w in
          let one = fits m s y here (first_of_both (fits_at t e s y) (explicit_fit t e rest (explicit_operands os)) both) in
          let more = ih later (second_of_both (fits_at t e s y) (explicit_fit t e rest (explicit_operands os)) both) in
          let g' : is_implicit_operand y' ≡ false = stay m (Some s) y here ∙ g in
          subst (λ (b : Bool). explicit_fit t e (s ∷ rs) (cond (not b) (y' ∷ explicit_operands new) (explicit_operands new)) ≡ true) (sym g') (λ k. one k && more k)

  keep : (o o' : RegOp) (xs ys : List RegOp) → SameImplicit o o' → xs ≡ ys → cond o'.implicit (o' ∷ xs) xs ≡ cond o.implicit (o ∷ ys) ys
  keep o o' xs ys p e = go o.implicit p.stays p.same
    where
      go : (b : Bool) → o'.implicit ≡ b → (b ≡ true → o' ≡ o) → cond o'.implicit (o' ∷ xs) xs ≡ cond b (o ∷ ys) ys
      go true g q = λ k. cond (g k) (q refl k ∷ e k) (e k)
      go false g q = λ k. cond (g k) (o' ∷ e k) (e k)

  head-implicit : (m : ℕ) (q : Option Role) (y : Operand) (os os' : List Operand) → ((o : RegOp) → y ≡ operands.Reg o → SameImplicit o (retied t cs ties m q o)) → implicit_registers os' ≡ implicit_registers os → implicit_registers (retied_operand t cs ties (m, (q, y)) ∷ os') ≡ implicit_registers (y ∷ os)
  head-implicit m q (operands.Reg o) os os' h e = keep o (retied t cs ties m q o) (implicit_registers os') (implicit_registers os) (h o refl) e
  head-implicit m q y os os' h e = e

  implicit-after : (m : ℕ) (rs : List Role) (os : List Operand) → ((k : ℕ) (q : Option Role) (o : RegOp) → Among (q, operands.Reg o) (explicit_bound rs os) → SameImplicit o (retied t cs ties k q o)) → implicit_registers (after t cs ties m rs os) ≡ implicit_registers os
  implicit-after m rs [] h = refl
  implicit-after m [] (y ∷ os) h =
      head-implicit m None y os (after t cs ties (suc m) [] os)
      (λ o e. h m None o (subst (λ x. Among (None, x) ((None, y) ∷ explicit_bound [] os)) e here))
      (implicit-after (suc m) [] os (λ k q o a. h k q o (there a)))
  implicit-after m (s ∷ rs) (y ∷ os) h =
      let rest = cond (takes_many s) (s ∷ rs) rs in
      head-implicit m (Some s) y os (after t cs ties (suc m) rest os)
      (λ o e. h m (Some s) o (subst (λ x. Among (Some s, x) ((Some s, y) ∷ explicit_bound rest os)) e here))
      (implicit-after (suc m) rest os (λ k q o a. h k q o (there a)))

  -- and so is the first immediate
  head-immediate : (m : ℕ) (q : Option Role) (y : Operand) (os os' : List Operand) → immediate_of os' ≡ immediate_of os → immediate_of (retied_operand t cs ties (m, (q, y)) ∷ os') ≡ immediate_of (y ∷ os)
  head-immediate m q (operands.Imm x) os os' e = refl
  head-immediate m q y os os' e = e

  immediate-after : (m : ℕ) (rs : List Role) (os : List Operand) → immediate_of (after t cs ties m rs os) ≡ immediate_of os
  immediate-after m rs [] = refl
  immediate-after m [] (y ∷ os) = head-immediate m None y os (after t cs ties (suc m) [] os) (immediate-after (suc m) [] os)
  immediate-after m (s ∷ rs) (y ∷ os) = head-immediate m (Some s) y os (after t cs ties (suc m) (cond (takes_many s) (s ∷ rs) rs) os) (immediate-after (suc m) (cond (takes_many s) (s ∷ rs) rs) os)

-- a register operand in place of another one

pub record AsBefore (o o' : RegOp) : Type 0 where
  pub definition : is_definition o' ≡ is_definition o
  pub used : is_use o' ≡ is_use o
  pub loc : is_use o ≡ true → is_virtual o.loc ≡ false → o'.loc ≡ o.loc

module _ (t : Target) (e : Effect) (o o' : RegOp) (same : AsBefore o o') where
  value : Bool → RegOp → Bool
  value b x = b || (is_opaque e && (is_use x && is_reserved_register t x.loc))

  or-more : (a b x y : Bool) → (a ≡ true → x ≡ true) → (b ≡ true → y ≡ true) → (a || b) ≡ true → (x || y) ≡ true
  or-more true b x y h g w = λ k. h refl k || y
  or-more false true true y h g w = refl
  or-more false true false y h g w = g refl
  or-more false false x y h g w = absurd (cc)

  and-more : (a b y : Bool) → (b ≡ true → y ≡ true) → (a && b) ≡ true → (a && y) ≡ true
  and-more true b y g w = g w
  and-more false b y g w = absurd (cc)

  virtual-or : (l : Loc) (b : Bool) → (is_virtual l ≡ false → b ≡ true) → is_reserved_register t l ≡ true → b ≡ true
  virtual-or (Virtual v) b h w = absurd (cc)
  virtual-or (Fixed p) b h w = h refl

  -- a reserved register stays
  reserved : (is_use o && is_reserved_register t o.loc) ≡ true → (is_use o' && is_reserved_register t o'.loc) ≡ true
  reserved w =
      let u = first_of_both (is_use o) (is_reserved_register t o.loc) w in
      let p = second_of_both (is_use o) (is_reserved_register t o.loc) w in
      let p' = virtual-or o.loc (is_reserved_register t o'.loc) (λ g. ap (is_reserved_register t) (same.loc u g) ∙ p) p in
      λ k. (same.used ∙ u) k && p' k

  rest-stays : (is_use o && not (is_virtual o.loc)) ≡ true → (is_use o' && not (is_virtual o'.loc)) ≡ true
  rest-stays w =
      let u = first_of_both (is_use o) (not (is_virtual o.loc)) w in
      let p = second_of_both (is_use o) (not (is_virtual o.loc)) w in
      λ k. (same.used ∙ u) k && (ap (λ l. not (is_virtual l)) (same.loc u (not-true (is_virtual o.loc) p)) ∙ p) k

  pub fits-on : (r : Role) → fits_at t e r (operands.Reg o) ≡ true → fits_at t e r (operands.Reg o') ≡ true
  fits-on (roles.Def k) w = (λ s. same.definition s || (is_opaque e && false)) ∙ w
  fits-on (roles.Early k) w = (λ s. same.definition s || (is_opaque e && false)) ∙ w
  fits-on (roles.Read k) w = (λ s. same.used s || (is_opaque e && false)) ∙ w
  fits-on (roles.Tied k n) w = (λ s. same.used s || (is_opaque e && false)) ∙ w
  fits-on (roles.Address k) w = (λ s. same.used s || (is_opaque e && false)) ∙ w
  fits-on (roles.Value None) w = or-more false (is_opaque e && (is_use o && is_reserved_register t o.loc)) false (is_opaque e && (is_use o' && is_reserved_register t o'.loc)) (λ x. x) (and-more (is_opaque e) (is_use o && is_reserved_register t o.loc) (is_use o' && is_reserved_register t o'.loc) reserved) w
  fits-on (roles.Value (Some k)) w = (λ s. false || (is_opaque e && same.used s)) ∙ w
  fits-on roles.Any w = or-more (is_use o) (is_opaque e && (is_use o && is_reserved_register t o.loc)) (is_use o') (is_opaque e && (is_use o' && is_reserved_register t o'.loc)) (λ x. same.used ∙ x) (and-more (is_opaque e) (is_use o && is_reserved_register t o.loc) (is_use o' && is_reserved_register t o'.loc) reserved) w
  fits-on roles.Rest w = or-more (is_use o && not (is_virtual o.loc)) (is_opaque e && false) (is_use o' && not (is_virtual o'.loc)) (is_opaque e && false) rest-stays (λ x. x) w
  fits-on r w = w

-- rule 1 by its parts

fit-by-parts : (t : Target) (f g : Function) (d : OpcodeDesc) (os os' : List Operand) (e : Effect) → has_roles e ≡ true → spills_or_reloads e ≡ false → operands_fit t f d os e ≡ true → implicit_last os' ≡ true → explicit_fit t e (explicit_roles d.roles) (explicit_operands os') ≡ true → implicit_registers os' ≡ implicit_registers os → immediate_of os' ≡ immediate_of os → operands_fit t g d os' e ≡ true
fit-by-parts t f g d os os' effects.Copy h s w l x im z = absurd (cc)
fit-by-parts t f g d os os' effects.Phi h s w l x im z = absurd (cc)
fit-by-parts t f g d os os' effects.ImplicitDef h s w l x im z = absurd (cc)
fit-by-parts t f g d os os' effects.RegSequence h s w l x im z = absurd (cc)
fit-by-parts t f g d os os' effects.InsertSubreg h s w l x im z = absurd (cc)
fit-by-parts t f g d os os' effects.Spill h s w l x im z = absurd (cc)
fit-by-parts t f g d os os' effects.Reload h s w l x im z = absurd (cc)
fit-by-parts t f g d os os' effects.Jcc h s w l x im z =
    let a = first_of_both _ (is_condition (immediate_of os)) w in
    let b = second_of_both _ (is_condition (immediate_of os)) w in
    λ k. l k && x k && (ap (implicit_fit d) im ∙ second_of_both _ (implicit_fit d (implicit_registers os)) a) k && (ap is_condition z ∙ b) k
fit-by-parts t f g d os os' e h s w l x im z =
    let a = first_of_both _ true w in
    λ k. l k && x k && (ap (implicit_fit d) im ∙ second_of_both _ (implicit_fit d (implicit_registers os)) a) k && true

module _ (t : Target) (f : Function) (z : TiedInstr t f) where
  open z use {i, r, e, known, rolled, unspilled, c}

  abbrev os : List Operand
  os = i.operands

  abbrev es : List Role
  es = explicit_roles (roles_of t i)

  abbrev T : List Tie
  T = ties_in t c i

  both-not : (o : RegOp) → is_use o ≡ true → is_definition o ≡ false
  both-not o u = λ k. not-true o.def (first_of_both (not o.def) (not o.implicit) u) k && not o.implicit

  use-explicit : (o : RegOp) → is_use o ≡ true → o.implicit ≡ true → ⊥
  use-explicit o u w = let x = not-true o.implicit (second_of_both (not o.def) (not o.implicit) u) in cc

  definition-explicit : (o : RegOp) → is_definition o ≡ true → o.implicit ≡ true → ⊥
  definition-explicit o d w = let x = not-true o.implicit (second_of_both o.def (not o.implicit) d) in cc

  as-before : (k : ℕ) (q : Option Role) (o o' : RegOp) → Turns t f z k q o o' → AsBefore o o'
  as-before k q o o' (own_register d is) = record { definition = ap is_definition is; used = ap is_use is; loc = λ u v. ap (λ (x : RegOp). x.loc) is }
  as-before k q o o' (new_register x p m j d a low class is) = record { definition = ap is_definition is; used = ap is_use is; loc = λ u v. absurd (let y = both-not o u in cc) }
  as-before k q o o' (unchanged d is) = record { definition = ap is_definition is; used = ap is_use is; loc = λ u v. ap (λ (x : RegOp). x.loc) is }
  as-before k q o o' (reads_definition p m u v g w loc l x def imp) = record {
    definition = (λ s. def s && not o'.implicit) ∙ sym (both-not o u);
    used = (λ s. not (def s) && not (imp s)) ∙ sym u;
    loc = λ y w'. absurd (let x = v in cc);
  }
  as-before k q o o' (reads_new_register x p m u v g a low class is) = record { definition = ap is_definition is ∙ sym (both-not o u); used = ap is_use is ∙ sym u; loc = λ y w'. absurd (let b = v in cc) }
  as-before k q o o' (reads_fixed p u v w g first is) = record { definition = ap is_definition is ∙ sym (both-not o u); used = ap is_use is ∙ sym u; loc = λ y w'. absurd (let b = v in cc) }

  same-implicit : (k : ℕ) (q : Option Role) (o o' : RegOp) → Turns t f z k q o o' → o'.implicit ≡ o.implicit → SameImplicit o o'
  same-implicit k q o o' (own_register d is) e = record { stays = e; same = λ w. absurd (definition-explicit o d w) }
  same-implicit k q o o' (new_register x p m j d a low class is) e = record { stays = e; same = λ w. absurd (definition-explicit o d w) }
  same-implicit k q o o' (unchanged d is) e = record { stays = e; same = λ w. is }
  same-implicit k q o o' (reads_definition p m u v g w loc l x def imp) e = record { stays = e; same = λ w'. absurd (use-explicit o u w') }
  same-implicit k q o o' (reads_new_register x p m u v g a low class is) e = record { stays = e; same = λ w'. absurd (use-explicit o u w') }
  same-implicit k q o o' (reads_fixed p u v w g first is) e = record { stays = e; same = λ w'. absurd (use-explicit o u w') }

  fit-on : FitOn t f.classes T e es os
  fit-on k s (operands.Reg o) m w = fits-on t e o (retied t f.classes T k (Some s) o) (as-before k (Some s) o (retied t f.classes T k (Some s) o) (turns t f z k (Some s) o m)) s w
  fit-on k s y m w = w

  stay : Stay t f.classes T es os
  stay k q y m = stay-implicit t f i r e known rolled f.classes c k q y m

  -- implicit operands are the same
  pub implicit-same : implicit_registers (after t f.classes T 0 es os) ≡ implicit_registers os
  implicit-same = implicit-after t f.classes T 0 es os (λ k q o m. same-implicit k q o (retied t f.classes T k q o) (turns t f z k q o m) (stay k q (operands.Reg o) m))

  pub tied-one : V1 t (h t f) (with_operands t f.classes T i) ≡ true
  unfolding V1
  tied-one =
      let w = met t f i e known r.one in
      let os' = after t f.classes T 0 es os in
      let same : w.0.roles ≡ roles_of t i = ap (λ q. elim q as (λ q. List Role) [ None ↦ [] | Some d ↦ d.roles ]) (sym w.1) in
      let fits = fit-operands t f i e known rolled r.one in
      let explicit = fit-after t f.classes T e 0 es os fits.0 stay fit-on fits.1 in
      subst (λ q. elim q as (λ q. Bool) [ None ↦ true | Some d ↦ operands_fit t (h t f) d os' d.effect ] ≡ true) (sym w.1)
      (ap (operands_fit t (h t f) w.0 os') w.2
      ∙ fit-by-parts t f (h t f) w.0 os os' e rolled unspilled w.3 (last t f i r e known rolled f.classes c) (subst (λ qs. explicit_fit t e (explicit_roles qs) (explicit_operands os') ≡ true) (sym same) explicit) implicit-same (immediate-after t f.classes T 0 es os))
