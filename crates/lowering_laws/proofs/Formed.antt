-- What lowering of ties puts beside an instruction or in its place is in lowered form: copies, and IMPLICIT_DEFs.
use Rattle.std.proofs.Common.{◌≡◌, ◌∷◌, ◌++◌, ◌∙◌, ◌&&◌, ◌||◌, ◌+◌, not, ℕ, Bool, true, false, cond, List, Option, Some, map, flat_map, refl, sym, ap, subst, []}
use Rattle.std.specs.Prelude.{find, option_and_then}
use Rattle.std.specs.List.{list_all, list_any}
use Rattle.target_base.specs.declared.types.ClassId.{ClassId}
use Rattle.target_base.specs.declared.types.Effect.{Effect}
use Rattle.target_base.specs.declared.types.Effect.TheVariants as effects
use Rattle.target_base.specs.declared.types.Role.{Role}
use Rattle.target_base.specs.declared.types.Role.TheVariants as roles
use Rattle.target_base.specs.declared.types.Target.{Target}
use Rattle.target_base.specs.Roles.{is_tied}
use Rattle.target_base.specs.Rules.{is_copy}
use Rattle.meaning.specs.Live.{Among, here, there}
use Rattle.mir_func.specs.declared.func.Loc.{Loc}
use Rattle.mir_func.specs.declared.func.Loc.TheVariants.{Fixed, Virtual}
use Rattle.mir_func.specs.declared.func.RegOp.{RegOp}
use Rattle.mir_func.specs.declared.func.Operand.{Operand}
use Rattle.mir_func.specs.declared.func.Operand.TheVariants as operands
use Rattle.mir_func.specs.declared.func.Instr.{Instr}
use Rattle.mir_func.specs.Binding.{Bound, TiedPair, bound, effect_of, explicit_bound, explicit_operands, explicit_roles, implicit_bound, implicit_registers, implicit_roles, is_definition, is_lowered_away, passes, register_at, registers, roles_of, takes_role, tied_number, tied_pair, tied_pairs}
use Rattle.phi_elim.specs.Moves.{copy_of, move_of, source_of, undefining, whole_definition, whole_use}
use Rattle.phi_elim.specs.Numbered.{numbered}
use Rattle.two_address.specs.Sequences.{at_last, beginning, fill_all, into_part, is_input, keeping_text}
use Rattle.two_address.specs.Ties.{undefined_first, undefined_whole}
use Rattle.two_address.specs.declared.sequences.SubregInput.{SubregInput}
use Rattle.instr_effects.proofs.Members.{either-elim, map-of, member-none}
use Rattle.live_laws.proofs.Effects.Moving.{some-same}
use Rattle.live_laws.proofs.Touch.Roles.{has_roles}
use Rattle.lowering_laws.specs.Form.{is_lowered, is_undef_definition, is_undef_use, shares_register}
use Rattle.lowering_laws.proofs.Placed.{copy-effect, undef-effect}
use Rattle.lowering_laws.proofs.Rolled.{bare-roles}
use Rattle.lowering_laws.proofs.Seated.{bound-role, pair-is, role-tied, told-of}

pub all-by : {X : Type 0} (p : X → Bool) (xs : List X) → ((x : X) → Among x xs → p x ≡ true) → list_all p xs ≡ true
all-by p [] h = refl
all-by p (x ∷ xs) h = λ k. h x here k && all-by p xs (λ y m. h y (there m)) k

pub none-by : {X : Type 0} (p : X → Bool) (xs : List X) → ((x : X) → Among x xs → p x ≡ false) → list_any p xs ≡ false
none-by p [] h = refl
none-by p (x ∷ xs) h = λ k. h x here k || none-by p xs (λ y m. h y (there m)) k

-- instructions in lowered form

abbrev pub Formed : Target → Instr → Type 0
Formed t x = is_lowered t x ≡ true

abbrev pub AllFormed : Target → List Instr → Type 0
AllFormed t [] = Unit {0}
AllFormed t (x ∷ xs) = Formed t x × AllFormed t xs

pub formed-append : (t : Target) (xs ys : List Instr) → AllFormed t xs → AllFormed t ys → AllFormed t (xs ++ ys)
formed-append t [] ys a b = b
formed-append t (x ∷ xs) ys a b = (a.0, formed-append t xs ys a.1 b)

pub formed-flat : {A : Type 0} (t : Target) (g : A → List Instr) (xs : List A) → ((x : A) → Among x xs → AllFormed t (g x)) → AllFormed t (flat_map g xs)
formed-flat t g [] h = tt
formed-flat t g (x ∷ xs) h = formed-append t (g x) (flat_map g xs) (h x here) (formed-flat t g xs (λ y m. h y (there m)))

pub formed-numbered : (t : Target) (n : ℕ) (is : List Instr) → AllFormed t is → list_all (is_lowered t) (numbered n is) ≡ true
formed-numbered t n [] m = refl
formed-numbered t n (i ∷ is) m = λ k. m.0 k && formed-numbered t (n + 1) is m.1 k

-- a tied pair is that of a role among the explicit ones

find-holds : {X : Type 0} (p : X → Bool) (xs : List X) (y : X) → find p xs ≡ Some y → p y ≡ true
find-holds p [] y e = absurd (cc)
find-holds {X} p (x ∷ xs) y e = go (p x) refl e (λ h. find-holds p xs y h)
  where
    go : (b : Bool) → p x ≡ b → cond b (Some x) (find p xs) ≡ Some y → (find p xs ≡ Some y → p y ≡ true) → p y ≡ true
    go true g h ih = subst (λ z. p z ≡ true) (some-same x y h) g
    go false g h ih = ih h

tied-explicit : (o : RegOp) (r : Role) → is_tied r ≡ true → takes_role o r ≡ true → ⊥
tied-explicit o (roles.Tied k n) e h = cc
tied-explicit o r e h = cc

pub tied-seat :
    (t : Target) (x : Instr) (p : TiedPair) → Among p (tied_pairs t x) →
    (r : Role) × Among (Some r, operands.Reg p.tied_use) (explicit_bound (explicit_roles (roles_of t x)) (explicit_operands x.operands)) × (tied_number r ≡ Some p.number) × (register_at x.operands p.number ≡ Some p.definition)
tied-seat t x p m =
    let z = told-of (tied_pair x.operands) p (bound t x) m in
    let y = pair-is x.operands z.0.0 z.0.1 p z.2 in
    let w = role-tied z.0.0 p.number y.1 in
    let explicit = explicit_bound (explicit_roles (roles_of t x)) (explicit_operands x.operands) in
    let rs = implicit_roles (roles_of t x) in
    let member : Among (Some w.0, operands.Reg p.tied_use) explicit =
    either-elim z.0 explicit (map (implicit_bound rs) (implicit_registers x.operands))
    (λ k. subst (λ (b : Bound). Among b explicit) (λ i. (w.1 i, y.0 i)) k)
    (λ k. absurd (let v = map-of (implicit_bound rs) z.0 (implicit_registers x.operands) k in tied-explicit v.0 w.0 w.2 (find-holds (takes_role v.0) rs w.0 (sym (ap (λ (b : Bound). b.0) v.2) ∙ w.1)))) z.1 in
    (w.0, member, subst (λ q. option_and_then tied_number q ≡ Some p.number) w.1 y.1, y.2)

module _ (t : Target) where
  -- an opcode without roles ties nothing
  pub untied-shares : (x : Instr) (e : Effect) → effect_of t x ≡ Some e → has_roles e ≡ false → list_all shares_register (tied_pairs t x) ≡ true
  untied-shares x e known bare = all-by shares_register (tied_pairs t x) (λ p m. let z = tied-seat t x p m in absurd (member-none z.0 (subst (Among z.0) (ap explicit_roles (bare-roles t x e known bare)) (bound-role (explicit_roles (roles_of t x)) (explicit_operands x.operands) z.0 (operands.Reg p.tied_use) z.1))))

  neither : (a b : Bool) → ((a && false) || ((b && false) || false)) ≡ false
  neither true true = refl
  neither true false = refl
  neither false true = refl
  neither false false = refl

  either-one : (a : Bool) → ((a && false) || false) ≡ false
  either-one true = refl
  either-one false = refl

  pub copy-formed : (x : Instr) (d s : RegOp) → effect_of t x ≡ Some effects.Copy → x.operands ≡ operands.Reg d ∷ operands.Reg s ∷ [] → d.undef ≡ false → s.undef ≡ false → Formed t x
  copy-formed x d s known are du su = λ k. not (ap (passes is_lowered_away) known k) && not (defs k) && not (ap (passes is_copy) known k && uses k) && untied-shares x effects.Copy known refl k
    where
      defs : list_any is_undef_definition (registers x.operands) ≡ false
      defs = ap (λ os. list_any is_undef_definition (registers os)) are ∙ ((λ k. (d.def && du k) || ((s.def && su k) || false)) ∙ neither d.def s.def)

      uses : list_any is_undef_use (registers x.operands) ≡ false
      uses = ap (λ os. list_any is_undef_use (registers os)) are ∙ ((λ k. (not d.def && du k) || ((not s.def && su k) || false)) ∙ neither (not d.def) (not s.def))

  pub undef-formed : (x : Instr) (d : RegOp) → effect_of t x ≡ Some effects.ImplicitDef → x.operands ≡ operands.Reg d ∷ [] → d.undef ≡ false → Formed t x
  undef-formed x d known are du = λ k. not (ap (passes is_lowered_away) known k) && not (defs k) && not (ap (passes is_copy) known k && list_any is_undef_use (registers x.operands)) && untied-shares x effects.ImplicitDef known refl k
    where
      defs : list_any is_undef_definition (registers x.operands) ≡ false
      defs = ap (λ os. list_any is_undef_definition (registers os)) are ∙ ((λ k. (d.def && du k) || false) ∙ either-one d.def)

  undefining-formed : (d : RegOp) → d.undef ≡ false → Formed t (undefining d)
  undefining-formed d u = undef-formed (undefining d) d (undef-effect t (undefining d) refl) refl u

  pub copying-formed : (d s : RegOp) → d.undef ≡ false → s.undef ≡ false → Formed t (copy_of d s)
  copying-formed d s du su = copy-formed (copy_of d s) d s (copy-effect t (copy_of d s) refl) refl du su

  pub move-formed : (to from : RegOp) → to.undef ≡ false → Formed t (move_of to from)
  move-formed to from u = go from.undef refl
    where
      go : (y : Bool) → from.undef ≡ y → Formed t (cond y (undefining to) (copy_of to (source_of from)))
      go true e = undefining-formed to u
      go false e = copying-formed to (source_of from) u e

  whole-formed : (l : Loc) → AllFormed t (undefined_whole l)
  whole-formed (Virtual v) = (undefining-formed (whole_definition v) refl, tt)
  whole-formed (Fixed r) = tt

  pub first-formed : (o : Operand) → AllFormed t (undefined_first o)
  first-formed (operands.Reg p) = go (is_definition p && p.undef)
    where
      go : (y : Bool) → AllFormed t (cond y (undefined_whole p.loc) [])
      go true = whole-formed p.loc
      go false = tt
  first-formed o = tt

  -- REG_SEQUENCE and INSERT_SUBREG as copies of parts

  pub parts-formed : (to : ℕ) (ps : List SubregInput) → AllFormed t (map (into_part to) ps)
  parts-formed to [] = tt
  parts-formed to (p ∷ ps) = (move-formed (record (whole_definition to) { index = Some p.index }) p.input refl, parts-formed to ps)

  pub last-formed : (c v : ℕ) (ps : List SubregInput) → AllFormed t (at_last c v ps)
  last-formed c v ps = go (is_input (Virtual v) ps)
    where
      go : (y : Bool) → AllFormed t (cond y (copy_of (whole_definition v) (whole_use c) ∷ []) [])
      go true = (copying-formed (whole_definition v) (whole_use c) refl refl, tt)
      go false = tt

  pub begun-formed : (k : Option ClassId) (to : ℕ) (ps : List SubregInput) → AllFormed t (beginning t k to ps)
  begun-formed k to ps = go (fill_all t k ps)
    where
      go : (y : Bool) → AllFormed t (cond y [] (undefining (whole_definition to) ∷ []))
      go true = tt
      go false = (undefining-formed (whole_definition to) refl, tt)

  pub kept-formed : (i : Instr) (xs : List Instr) → AllFormed t xs → AllFormed t (keeping_text i xs)
  kept-formed i [] m = tt
  kept-formed i (x ∷ xs) m = m
