-- An instruction after a join fits its opcode, and its registers their classes.
use Rattle.std.proofs.Common.{◌≡◌, ◌∷◌, ◌++◌, ◌+◌, ◌∙◌, ◌&&◌, ◌||◌, not, ℕ, Bool, true, false, cond, List, [], Option, Some, None, map, filter, length, refl, sym, ap, subst}
use Rattle.std.specs.Prelude.{◌==◌, count_by, find, option_and_then, option_map, option_to_list}
use Rattle.std.specs.List.{list_all, list_any}
use Rattle.std.proofs.lemmas.List.Sums.{sum_by-cons}
use Rattle.target_base.specs.declared.types.ClassId.{ClassId}
use Rattle.target_base.specs.declared.types.Effect.{Effect}
use Rattle.target_base.specs.declared.types.Effect.TheVariants as effects
use Rattle.target_base.specs.declared.types.OpcodeDesc.{OpcodeDesc}
use Rattle.target_base.specs.declared.types.Role.{Role}
use Rattle.target_base.specs.declared.types.Role.TheVariants as roles
use Rattle.target_base.specs.declared.types.Target.{Target}
use Rattle.target_base.specs.Registers.{lanes_of}
use Rattle.target_base.specs.Roles.{is_silent}
use Rattle.target_base.specs.Storage.{same_numbers}
use Rattle.target_base.proofs.Tests.{first_of_both, second_of_both}
use Rattle.meaning.specs.Live.{Among as Member, here as first, there as later}
use Rattle.mir_func.specs.declared.func.Loc.{Loc}
use Rattle.mir_func.specs.declared.func.Loc.TheVariants.{Fixed, Virtual}
use Rattle.mir_func.specs.declared.func.RegOp.{RegOp}
use Rattle.mir_func.specs.declared.func.Operand.{Operand}
use Rattle.mir_func.specs.declared.func.Operand.TheVariants as operands
use Rattle.mir_func.specs.declared.func.Instr.{Instr}
use Rattle.mir_func.specs.Value.{Function}
use Rattle.mir_func.specs.Binding.{Bound, asked_class, bound, does, explicit_bound, explicit_operands, explicit_roles, immediate_of, implicit_bound, implicit_registers, implicit_roles, is_definition, is_implicit_operand, is_lowered_away, is_use, is_virtual, known_opcode, passes, registers, roles_of, same_fixed, takes_many, takes_role}
use Rattle.mir_meaning.specs.Renaming.{renamed_operand}
use Rattle.mir_meaning.specs.Rules.{V1, V2, V3, V4, copy_fits, explicit_fit, fits_opaque, fits_role, has_class, has_home, has_lanes, implicit_def_fits, implicit_fit, implicit_last, in_operand_class, index_fits, is_condition, is_opaque, is_reserved_register, is_value, lanes_fit, operands_fit, register_lies_in, same_role, same_widths, subregs_fit, takes_reserved, values_fit, widths_fit}
use Rattle.instr_effects.proofs.Members.{either-elim, filter-of, map-of}
use Rattle.live_laws.specs.Effects.Shaped.{IsShaped}
use Rattle.live_laws.proofs.Effects.Lists.{all-of}
use Rattle.lowering_laws.proofs.Formed.{all-by}
use Rattle.lowering_laws.proofs.RulesStay.{same-register}
use Rattle.lowering_laws.proofs.Seated.{bound-operand, register-in}
use Rattle.live_edits.specs.declared.fold.Join.{Join}
use Rattle.live_edits.specs.Folded.{folded, index_within, joined_instr, joined_operand}
use Rattle.join_laws.proofs.Asked.{IsAsked}
use Rattle.join_laws.proofs.Named.{not-phi}
use Rattle.join_laws.proofs.Operands.{IsNamed, class-stays, field-stays, had-lanes, has-lanes, index-stays, lies-stay, place-stays, renames}

-- lists whose elements were changed

kept-by : {A B : Type 0} (h : A → B) (b : Bool) (x : A) (xs : List A) → cond b (h x ∷ map h xs) (map h xs) ≡ map h (cond b (x ∷ xs) xs)
kept-by h true x xs = refl
kept-by h false x xs = refl

pub filter-map : {A B : Type 0} (p : B → Bool) (q : A → Bool) (h : A → B) → ((x : A) → p (h x) ≡ q x) → (xs : List A) → filter p (map h xs) ≡ map h (filter q xs)
filter-map p q h e [] = refl
filter-map p q h e (x ∷ xs) = (λ k. cond (e x k) (h x ∷ filter-map p q h e xs k) (filter-map p q h e xs k)) ∙ kept-by h (q x) x (filter q xs)

pub any-map : {A B : Type 0} (p : B → Bool) (q : A → Bool) (h : A → B) → ((x : A) → p (h x) ≡ q x) → (xs : List A) → list_any p (map h xs) ≡ list_any q xs
any-map p q h e [] = refl
any-map p q h e (x ∷ xs) = λ k. e x k || any-map p q h e xs k

all-map : {A B : Type 0} (p : B → Bool) (q : A → Bool) (h : A → B) → ((x : A) → p (h x) ≡ q x) → (xs : List A) → list_all p (map h xs) ≡ list_all q xs
all-map p q h e [] = refl
all-map p q h e (x ∷ xs) = λ k. e x k && all-map p q h e xs k

count-map : {A B : Type 0} (p : B → Bool) (q : A → Bool) (h : A → B) → ((x : A) → p (h x) ≡ q x) → (xs : List A) → count_by p (map h xs) ≡ count_by q xs
count-map p q h e [] = refl
count-map p q h e (x ∷ xs) = sum_by-cons (λ y. cond (p y) 1 0) (h x) (map h xs) ∙ ((λ k. cond (e x k) 1 0 + count-map p q h e xs k) ∙ sym (sum_by-cons (λ y. cond (q y) 1 0) x xs))

map-append : {A B : Type 0} (h : A → B) (xs ys : List A) → map h (xs ++ ys) ≡ map h xs ++ map h ys
map-append h [] ys = refl
map-append h (x ∷ xs) ys = ap (λ zs. h x ∷ zs) (map-append h xs ys)

pub all-more : {A B : Type 0} (p : B → Bool) (h : A → B) (xs : List A) → ((x : A) → Member x xs → p (h x) ≡ true) → list_all p (map h xs) ≡ true
all-more p h [] e = refl
all-more p h (x ∷ xs) e = λ k. e x first k && all-more p h xs (λ y m. e y (later m)) k

module _ (t : Target) (f : Function) (j : Join) (a : IsAsked t f j) where
  abbrev g : Function
  g = folded t j f

  abbrev r : RegOp → RegOp
  r = joined_operand t j

  abbrev move : Operand → Operand
  move = renamed_operand r

  abbrev moves : List Operand → List Operand
  moves os = map move os

  same : {X : Type 0} (P : RegOp → X) → (o : RegOp) → P (record o { loc = Virtual j.keep; index = index_within t j.index o.index }) ≡ P o → P (r o) ≡ P o
  same = field-stays t f j a

  at : {X : Type 0} (P : Loc → X) → ((v w : ℕ) → P (Virtual v) ≡ P (Virtual w)) → (o : RegOp) → P (r o).loc ≡ P o.loc
  at = place-stays t f j a

  -- operands

  pub regs : (os : List Operand) → registers (moves os) ≡ map r (registers os)
  regs [] = refl
  regs (operands.Reg o ∷ os) = ap (λ ps. r o ∷ ps) (regs os)
  regs (operands.Imm z ∷ os) = regs os
  regs (operands.Block z ∷ os) = regs os
  regs (operands.Stack z ∷ os) = regs os
  regs (operands.FixedStack z ∷ os) = regs os
  regs (operands.Symbol z ∷ os) = regs os
  regs (operands.Index z ∷ os) = regs os
  regs (operands.Mask z ∷ os) = regs os

  implicit-same : (o : Operand) → is_implicit_operand (move o) ≡ is_implicit_operand o
  implicit-same (operands.Reg o) = same (λ (p : RegOp). p.implicit) o refl
  implicit-same o = refl

  explicits : (os : List Operand) → explicit_operands (moves os) ≡ moves (explicit_operands os)
  explicits os = filter-map (λ o. not (is_implicit_operand o)) (λ o. not (is_implicit_operand o)) move (λ o. ap not (implicit-same o)) os

  implicits : (os : List Operand) → implicit_registers (moves os) ≡ map r (implicit_registers os)
  implicits os = ap (filter (λ (o : RegOp). o.implicit)) (regs os) ∙ filter-map (λ (o : RegOp). o.implicit) (λ (o : RegOp). o.implicit) r (λ o. same (λ (p : RegOp). p.implicit) o refl) (registers os)

  pub defs : (os : List Operand) → filter (λ (o : RegOp). o.def) (registers (moves os)) ≡ map r (filter (λ (o : RegOp). o.def) (registers os))
  defs os = ap (filter (λ (o : RegOp). o.def)) (regs os) ∙ filter-map (λ (o : RegOp). o.def) (λ (o : RegOp). o.def) r (λ o. same (λ (p : RegOp). p.def) o refl) (registers os)

  takes : (o : RegOp) (q : Role) → takes_role (r o) q ≡ takes_role o q
  takes o (roles.ImpDef q) = λ k. same (λ (p : RegOp). p.def) o refl k && at (same_fixed q) (λ v w. refl) o k
  takes o (roles.ImpRead q) = λ k. not (same (λ (p : RegOp). p.def) o refl k) && at (same_fixed q) (λ v w. refl) o k
  takes o q = refl

  abbrev pub move-bound : Bound → Bound
  move-bound b = (b.0, move b.1)

  bound-explicit : (rs : List Role) (os : List Operand) → explicit_bound rs (moves os) ≡ map move-bound (explicit_bound rs os)
  bound-explicit rs [] = refl
  bound-explicit [] (o ∷ os) = ap (λ bs. (None, move o) ∷ bs) (bound-explicit [] os)
  bound-explicit (q ∷ rs) (o ∷ os) = ap (λ bs. (Some q, move o) ∷ bs) (bound-explicit (cond (takes_many q) (q ∷ rs) rs) os)

  bound-implicit : (rs : List Role) (os : List RegOp) → map (implicit_bound rs) (map r os) ≡ map move-bound (map (implicit_bound rs) os)
  bound-implicit rs [] = refl
  bound-implicit rs (o ∷ os) = λ k. (find (λ q. takes o q k) rs, operands.Reg (r o)) ∷ bound-implicit rs os k

  pub bound-same : (i : Instr) → bound t (joined_instr t j i) ≡ map move-bound (bound t i)
  bound-same i =
      let es = explicit_roles (roles_of t i) in
      let is = implicit_roles (roles_of t i) in
      (λ k. (ap (explicit_bound es) (explicits i.operands) ∙ bound-explicit es (explicit_operands i.operands)) k ++ (ap (map (implicit_bound is)) (implicits i.operands) ∙ bound-implicit is (implicit_registers i.operands)) k)
      ∙ sym (map-append move-bound (explicit_bound es (explicit_operands i.operands)) (map (implicit_bound is) (implicit_registers i.operands)))

  -- operands fit roles as they did

  copies : (os : List Operand) → copy_fits (moves os) ≡ copy_fits os
  copies (operands.Reg d ∷ operands.Reg s ∷ []) = λ k. same is_definition d refl k && same is_use s refl k
  copies os = refl

  undefined : (os : List Operand) → implicit_def_fits (moves os) ≡ implicit_def_fits os
  undefined (operands.Reg d ∷ []) = same is_definition d refl
  undefined os = refl

  value : (o : Operand) → is_value t (move o) ≡ is_value t o
  value (operands.Reg o) = λ k. same is_use o refl k && at (is_reserved_register t) (λ v w. refl) o k
  value o = refl

  fit-opaque : (q : Role) (o : Operand) → fits_opaque t q (move o) ≡ fits_opaque t q o
  fit-opaque (roles.Value None) o = value o
  fit-opaque (roles.Value (Some k)) (operands.Reg o) = same is_use o refl
  fit-opaque (roles.Value (Some k)) o = refl
  fit-opaque roles.Any o = value o
  fit-opaque q o = refl

  fit-role : (q : Role) (o : Operand) → fits_role q (move o) ≡ fits_role q o
  fit-role roles.Rest (operands.Reg o) = λ k. same is_use o refl k && not (at is_virtual (λ v w. refl) o k)
  fit-role q (operands.Reg o) = same (λ p. fits_role q (operands.Reg p)) o refl
  fit-role q o = refl

  fit-explicit : (e : Effect) (rs : List Role) (os : List Operand) → explicit_fit t e rs (moves os) ≡ explicit_fit t e rs os
  fit-explicit e rs [] = refl
  fit-explicit e [] (o ∷ os) = refl
  fit-explicit e (q ∷ rs) (o ∷ os) = λ k. (fit-role q o k || (is_opaque e && fit-opaque q o k)) && fit-explicit e (cond (takes_many q) (q ∷ rs) rs) os k

  last : (os : List Operand) → implicit_last (moves os) ≡ implicit_last os
  last [] = refl
  last (o ∷ os) = λ k. cond (implicit-same o k) (all-map is_implicit_operand is_implicit_operand move implicit-same os k) (last os k)

  fit-implicit : (d : OpcodeDesc) (os : List RegOp) → implicit_fit d (map r os) ≡ implicit_fit d os
  fit-implicit d os =
      λ k. all-map (λ (o : RegOp). not (is_virtual o.loc) && not (is_silent d.effect)) (λ (o : RegOp). not (is_virtual o.loc) && not (is_silent d.effect)) r (λ o. ap (λ b. not b && not (is_silent d.effect)) (at is_virtual (λ v w. refl) o)) os k
      && list_all (λ q. count-map (λ o. takes_role o q) (λ o. takes_role o q) r (λ o. takes o q) os k == count_by (same_role q) d.roles) (implicit_roles d.roles)

  immediates : (os : List Operand) → immediate_of (moves os) ≡ immediate_of os
  immediates [] = refl
  immediates (operands.Imm z ∷ os) = refl
  immediates (operands.Reg o ∷ os) = immediates os
  immediates (operands.Block z ∷ os) = immediates os
  immediates (operands.Stack z ∷ os) = immediates os
  immediates (operands.FixedStack z ∷ os) = immediates os
  immediates (operands.Symbol z ∷ os) = immediates os
  immediates (operands.Index z ∷ os) = immediates os
  immediates (operands.Mask z ∷ os) = immediates os

  abbrev AreNamed : List Operand → Type 0
  AreNamed os = (o : RegOp) → Member o (registers os) → IsNamed t f j o

  lanes-known : (o : RegOp) → IsNamed t f j o → has_lanes t g (r o) ≡ has_lanes t f o
  lanes-known o n = has-lanes t f j a o n ∙ sym (had-lanes t f j a o n)

  slot-lanes : (os : List Operand) → AreNamed os → lanes_fit t g (moves os) ≡ lanes_fit t f os
  slot-lanes (operands.Reg o ∷ s ∷ operands.Imm z ∷ os) n = refl
  slot-lanes (operands.Reg o ∷ s ∷ operands.Index x ∷ os) n = λ k. not (lanes-known o (n o first) k) || length (lanes_of t x) == length ((renames t f j a o (n o first)).widths k)
  slot-lanes os n = refl

  fit-values : (e : Effect) (os : List Operand) → AreNamed os → values_fit t g e (moves os) ≡ values_fit t f e os
  fit-values effects.Jcc os n = ap is_condition (immediates os)
  fit-values effects.Spill os n = slot-lanes os n
  fit-values effects.Reload os n = slot-lanes os n
  fit-values e os n = refl

  general : (d : OpcodeDesc) (os : List Operand) (e : Effect) → AreNamed os →
      (implicit_last (moves os) && explicit_fit t e (explicit_roles d.roles) (explicit_operands (moves os)) && implicit_fit d (implicit_registers (moves os)) && values_fit t g e (moves os))
      ≡ (implicit_last os && explicit_fit t e (explicit_roles d.roles) (explicit_operands os) && implicit_fit d (implicit_registers os) && values_fit t f e os)
  general d os e n =
      λ k. last os k
      && (ap (explicit_fit t e (explicit_roles d.roles)) (explicits os) ∙ fit-explicit e (explicit_roles d.roles) (explicit_operands os)) k
      && (ap (implicit_fit d) (implicits os) ∙ fit-implicit d (implicit_registers os)) k
      && fit-values e os n k

  fit : (d : OpcodeDesc) (os : List Operand) (e : Effect) → AreNamed os → is_lowered_away e ≡ false → operands_fit t g d (moves os) e ≡ operands_fit t f d os e
  fit d os effects.Copy n h = copies os
  fit d os effects.ImplicitDef n h = undefined os
  fit d os effects.Phi n h = absurd (cc)
  fit d os effects.RegSequence n h = absurd (cc)
  fit d os effects.InsertSubreg n h = absurd (cc)
  fit d os e n h = general d os e n

  -- registers lie in their classes, and what is copied has equal widths

  wide : (d s : RegOp) → IsNamed t f j d → IsNamed t f j s → same_widths t g (r d) (r s) ≡ same_widths t f d s
  wide d s n p = λ k. not (lanes-known d n k && lanes-known s p k) || same_numbers ((renames t f j a d n).widths k) ((renames t f j a s p).widths k)

  home-any : (l : Loc) (v w : ℕ) → has_home t l (Virtual v) ≡ has_home t l (Virtual w)
  home-any (Virtual x) v w = refl
  home-any (Fixed q) v w = refl

  home : (d s : RegOp) → has_home t (r d).loc (r s).loc ≡ has_home t d.loc s.loc
  home d s = at (λ l. has_home t l (r s).loc) (λ v w. refl) d ∙ at (λ l. has_home t d.loc l) (home-any d.loc) s

  fit-widths : (e : Effect) (os : List Operand) → AreNamed os → is_lowered_away e ≡ false → widths_fit t g e (moves os) ≡ widths_fit t f e os
  fit-widths effects.Copy (operands.Reg d ∷ operands.Reg s ∷ os) n h = λ k. wide d s (n d first) (n s (later first)) k && home d s k && home s d k
  fit-widths effects.Copy os n h = refl
  fit-widths effects.Phi os n h = absurd (cc)
  fit-widths effects.RegSequence os n h = absurd (cc)
  fit-widths effects.InsertSubreg os n h = absurd (cc)
  fit-widths e os n h = refl

  by-parts : (x y z x' y' z' : Bool) → x ≡ x' → y ≡ y' → (z ≡ true → z' ≡ true) → (not x || y || z) ≡ true → (not x' || y' || z') ≡ true
  by-parts x y z x' y' z' p q h e = subst (λ u. (not u || y' || z') ≡ true) p (subst (λ u. (not x || u || z') ≡ true) q (go x y z h e))
    where
      go : (x y z : Bool) → (z ≡ true → z' ≡ true) → (not x || y || z) ≡ true → (not x || y || z') ≡ true
      go false y z h e = refl
      go true true z h e = refl
      go true false z h e = h e

  all-lie : (o : RegOp) → IsNamed t f j o → (ks : List ClassId) → list_all (λ k. register_lies_in t f k o.loc o.index) ks ≡ true → list_all (λ k. register_lies_in t g k (r o).loc (r o).index) ks ≡ true
  all-lie o n ks e = all-by (λ k. register_lies_in t g k (r o).loc (r o).index) ks (λ k m. lies-stay t f j a o n k (all-of (λ k. register_lies_in t f k o.loc o.index) k ks m e))

  in-class : (e : Effect) (b : Bound) → ((o : RegOp) → b.1 ≡ operands.Reg o → IsNamed t f j o) → in_operand_class t f e b ≡ true → in_operand_class t g e (move-bound b) ≡ true
  in-class e (q, operands.Reg o) n h =
      let ks = option_to_list (option_and_then asked_class q) in
      by-parts (has_lanes t f o) (is_opaque e && passes takes_reserved q && is_reserved_register t o.loc) (list_all (λ k. register_lies_in t f k o.loc o.index) ks)
      (has_lanes t g (r o)) (is_opaque e && passes takes_reserved q && is_reserved_register t (r o).loc) (list_all (λ k. register_lies_in t g k (r o).loc (r o).index) ks)
      (sym (lanes-known o (n o refl))) (λ k. is_opaque e && passes takes_reserved q && sym (at (is_reserved_register t) (λ v w. refl) o) k) (all-lie o (n o refl) ks) h
  in-class e (q, operands.Imm z) n h = h
  in-class e (q, operands.Block z) n h = h
  in-class e (q, operands.Stack z) n h = h
  in-class e (q, operands.FixedStack z) n h = h
  in-class e (q, operands.Symbol z) n h = h
  in-class e (q, operands.Index z) n h = h
  in-class e (q, operands.Mask z) n h = h

-- a bound register is an operand's
pub bound-in : (t : Target) (i : Instr) (x : Bound) → Member x (bound t i) → (o : RegOp) → x.1 ≡ operands.Reg o → Member o (registers i.operands)
bound-in t i x m o e =
    let rs = roles_of t i in
    either-elim x (explicit_bound (explicit_roles rs) (explicit_operands i.operands)) (map (implicit_bound (implicit_roles rs)) (implicit_registers i.operands))
    (λ k.
    let y = bound-operand (explicit_roles rs) (explicit_operands i.operands) x.0 x.1 k in
    let z = (filter-of (λ q. not (is_implicit_operand q)) x.1 i.operands y).0 in
    register-in o i.operands (subst (λ q. Member q i.operands) e z))
    (λ k.
    let y = map-of (implicit_bound (implicit_roles rs)) x (implicit_registers i.operands) k in
    let z = (filter-of (λ (q : RegOp). q.implicit) y.0 (registers i.operands) y.1).0 in
    subst (λ (q : RegOp). Member q (registers i.operands)) (same-register y.0 o (sym (ap (λ (b : Bound). b.1) y.2) ∙ e)) z)
    m

module _ (t : Target) (f : Function) (j : Join) (a : IsAsked t f j) (i : Instr) (named : (o : RegOp) → Member o (registers i.operands) → IsNamed t f j o) (lowered : does is_lowered_away t i ≡ false) (shaped : IsShaped t f i) where
  abbrev h : Function
  h = folded t j f

  abbrev x : Instr
  x = joined_instr t j i

  pub one : V1 t h x ≡ true
  unfolding V1
  one = by (known_opcode t i.op) lowered ∙ shaped.operands
    where
      by : (q : Option OpcodeDesc) → passes is_lowered_away (option_map (λ d. d.effect) q) ≡ false
          → elim q as (λ q. Bool) [ None ↦ true | Some d ↦ operands_fit t h d (map (renamed_operand (joined_operand t j)) i.operands) d.effect ] ≡ elim q as (λ q. Bool) [ None ↦ true | Some d ↦ operands_fit t f d i.operands d.effect ]
      by None e = refl
      by (Some d) e = fit t f j a d i.operands d.effect named e

  pub two : V2 t h x ≡ true
  unfolding V2
  two = by (known_opcode t i.op) lowered shaped.widths
    where
      by : (q : Option OpcodeDesc) → passes is_lowered_away (option_map (λ d. d.effect) q) ≡ false
          → elim q as (λ q. Bool) [ None ↦ true | Some d ↦ list_all (in_operand_class t f d.effect) (bound t i) && widths_fit t f d.effect i.operands ] ≡ true
          → elim q as (λ q. Bool) [ None ↦ true | Some d ↦ list_all (in_operand_class t h d.effect) (bound t x) && widths_fit t h d.effect (map (renamed_operand (joined_operand t j)) i.operands) ] ≡ true
      by None e p = refl
      by (Some d) e p =
          let classes = first_of_both (list_all (in_operand_class t f d.effect) (bound t i)) (widths_fit t f d.effect i.operands) p in
          let widths = second_of_both (list_all (in_operand_class t f d.effect) (bound t i)) (widths_fit t f d.effect i.operands) p in
          λ k. (ap (list_all (in_operand_class t h d.effect)) (bound-same t f j a i)
          ∙ all-more (in_operand_class t h d.effect) (move-bound t f j a) (bound t i) (λ b m. in-class t f j a d.effect b (λ o q. named o (bound-in t i b m o q)) (all-of (in_operand_class t f d.effect) b (bound t i) m classes))) k
          && (fit-widths t f j a d.effect i.operands named e ∙ widths) k

  pub three : V3 h x ≡ true
  unfolding V3
  three = ap (list_all (λ (o : RegOp). has_class h o.loc)) (regs t f j a i.operands) ∙ all-more (λ (o : RegOp). has_class h o.loc) (joined_operand t j) (registers i.operands) (λ o m. class-stays t f j a o (named o m))

  pub four : V4 t h x ≡ true
  unfolding V4
  four =
      λ k. (ap (list_all (λ (o : RegOp). index_fits t h o.loc o.index)) (regs t f j a i.operands) ∙ all-more (λ (o : RegOp). index_fits t h o.loc o.index) (joined_operand t j) (registers i.operands) (λ o m. index-stays t f j a o (named o m))) k
      && (not ((not-phi t i lowered).1 k) || subregs_fit t h (map (renamed_operand (joined_operand t j)) i.operands))
