-- Slot operands, and no others, name spill slots.
use Rattle.std.proofs.Common.{◌≡◌, ◌∷◌, ◌++◌, ◌∙◌, ◌&&◌, ◌||◌, not, ℕ, Bool, true, false, cond, List, [], Option, Some, None, map, refl, sym, ap, subst}
use Rattle.std.specs.Prelude.{nat_eq, find}
use Rattle.std.specs.Bool.{beq}
use Rattle.std.specs.List.{list_all, list_any}
use Rattle.std.proofs.lemmas.Bool.{not-true, or_parts}
use Rattle.target_base.specs.declared.types.ClassId.{ClassId}
use Rattle.target_base.specs.declared.types.Effect.{Effect}
use Rattle.target_base.specs.declared.types.Role.{Role}
use Rattle.target_base.specs.declared.types.Role.TheVariants as roles
use Rattle.target_base.specs.declared.types.Target.{Target}
use Rattle.target_base.specs.Roles.{is_slot}
use Rattle.target_base.proofs.Tests.{first_of_both, second_of_both}
use Rattle.meaning.specs.Live.{Among as Member}
use Rattle.mir_func.specs.declared.func.RegOp.{RegOp}
use Rattle.mir_func.specs.declared.func.Operand.{Operand}
use Rattle.mir_func.specs.declared.func.Operand.TheVariants as operands
use Rattle.mir_func.specs.declared.func.Instr.{Instr}
use Rattle.mir_func.specs.Value.{Function}
use Rattle.mir_func.specs.Binding.{Bound, bound, effect_of, explicit_bound, explicit_operands, explicit_roles, implicit_bound, implicit_registers, implicit_roles, passes, roles_of, takes_many, takes_role}
use Rattle.mir_meaning.specs.declared.Form.TheVariants as forms
use Rattle.mir_meaning.specs.Rules.{V15, V15_frame, explicit_fit, fits_at, is_opaque, is_spill_slot, slot_fits}
use Rattle.instr_effects.proofs.Members.{either-elim, map-of, member-elim, member-none}
use Rattle.live_laws.specs.Effects.Shaped.{IsShaped}
use Rattle.live_laws.proofs.Effects.Lists.{all-of}
use Rattle.live_laws.proofs.Touch.Roles.{fit, has_roles, met}
use Rattle.lowering_laws.proofs.Rolled.{bare-roles}
use Rattle.join_laws.proofs.Named.{known}
use Rattle.join_laws.proofs.Rules.{all-more}
use Rattle.rewriter.specs.Physical.{Assignment, physical_form, physical_instr, slot_frame}
use Rattle.rewrite_laws.specs.Laws.{IsClear}
use Rattle.valid_laws.specs.Rules.{PhysicalSlots, slot_role_fits, is_given_slot}
use Rattle.valid_laws.proofs.Classes.{each-made}
use Rattle.valid_laws.proofs.Fitting.{AreNamed, implicit-fixed}
use Rattle.valid_laws.proofs.Moved.{bound-same, move-bound}

-- the spill slots are those that are given

slots-declared : (n : ℕ) (slots : List (ℕ × ClassId)) → list_any (λ (o : ℕ × Bool). nat_eq o.0 n && o.1) (map slot_frame slots) ≡ list_any (λ (s : ℕ × ClassId). nat_eq s.0 n) slots
slots-declared n [] = refl
slots-declared n (s ∷ slots) = λ k. and-true (nat_eq s.0 n) k || slots-declared n slots k
  where
    and-true : (b : Bool) → (b && true) ≡ b
    and-true true = refl
    and-true false = refl

frames-past : (n : ℕ) (frames more : List (ℕ × Bool)) → list_any (λ (o : ℕ × Bool). o.1) frames ≡ false → list_any (λ (o : ℕ × Bool). nat_eq o.0 n && o.1) (frames ++ more) ≡ list_any (λ (o : ℕ × Bool). nat_eq o.0 n && o.1) more
frames-past n [] more e = refl
frames-past n (o ∷ frames) more e =
    let z = or_parts o.1 (list_any (λ (o : ℕ × Bool). o.1) frames) e in
    λ k. (ap (λ u. nat_eq o.0 n && u) z.0 ∙ and-false (nat_eq o.0 n)) k || frames-past n frames more z.1 k
  where
    and-false : (b : Bool) → (b && false) ≡ false
    and-false true = refl
    and-false false = refl

-- roles of operands that are no frame objects

-- an explicit operand fits its role
pub fit-of : (t : Target) (e : Effect) (rs : List Role) (os : List Operand) → explicit_fit t e rs os ≡ true → (r : Role) (x : Operand) → Member (Some r, x) (explicit_bound rs os) → fits_at t e r x ≡ true
fit-of t e rs [] w r x m = absurd (member-none (Some r, x) m)
fit-of t e [] (y ∷ os) w r x m = absurd (cc)
fit-of t e (s ∷ rs) (y ∷ os) w r x m =
    let rest = cond (takes_many s) (s ∷ rs) rs in
    member-elim (Some r, x) (Some s, y) (explicit_bound rest os)
    (λ q. (λ k. fits_at t e (same r s (ap (λ (b : Bound). b.0) q) k) (ap (λ (b : Bound). b.1) q k)) ∙ first_of_both (fits_at t e s y) (explicit_fit t e rest os) w)
    (λ k. fit-of t e rest os (second_of_both (fits_at t e s y) (explicit_fit t e rest os) w) r x k) m
  where
    same : (a b : Role) → Some a ≡ Some b → a ≡ b
    same a b e = cc

abbrev is_frame : Operand → Bool
is_frame (operands.Stack n) = true
is_frame o = false

slot-frame : (t : Target) (e : Effect) (q : Role) (o : Operand) → is_slot q ≡ true → fits_at t e q o ≡ true → is_frame o ≡ true
slot-frame t e roles.Slot (operands.Stack n) s h = refl
slot-frame t e roles.Slot o s h = absurd (go (is_opaque e) h)
  where
    go : (u : Bool) → (u && false) ≡ true → ⊥
    go true e = cc
    go false e = cc
slot-frame t e q o s h = absurd (cc)

implicit-slot : (rs : List Role) (o : RegOp) → passes is_slot (find (takes_role o) rs) ≡ false
implicit-slot [] o = refl
implicit-slot (q ∷ rs) o = go (takes_role o q) refl (implicit-slot rs o)
  where
    not-slot : (q : Role) → takes_role o q ≡ true → is_slot q ≡ false
    not-slot roles.Slot e = absurd (cc)
    not-slot q e = refl

    go : (u : Bool) → takes_role o q ≡ u → passes is_slot (find (takes_role o) rs) ≡ false → passes is_slot (cond u (Some q) (find (takes_role o) rs)) ≡ false
    go true e h = not-slot q e
    go false e h = h

pub unbound : (os : List Operand) (b : Bound) → Member b (explicit_bound [] os) → b.0 ≡ None
unbound [] b m = absurd (member-none b m)
unbound (o ∷ os) b m = member-elim b (None, o) (explicit_bound [] os) (λ e. ap (λ (x : Bound). x.0) e) (λ k. unbound os b k) m

module _ (t : Target) (f : Function) (i : Instr) (e : Effect) (is : effect_of t i ≡ Some e) (shaped : IsShaped t f i) where
  -- what isn't a frame object takes no slot role
  no-slot : (b : Bound) → Member b (bound t i) → is_frame b.1 ≡ false → passes is_slot b.0 ≡ false
  no-slot b m n =
      either-elim b (explicit_bound (explicit_roles (roles_of t i)) (explicit_operands i.operands)) (map (implicit_bound (implicit_roles (roles_of t i))) (implicit_registers i.operands))
      (λ k. go (has_roles e) refl k)
      (λ k. let y = map-of (implicit_bound (implicit_roles (roles_of t i))) b (implicit_registers i.operands) k in ap (λ (x : Bound). passes is_slot x.0) y.2 ∙ implicit-slot (implicit_roles (roles_of t i)) y.0)
      m
    where
      by : has_roles e ≡ true → (q : Option Role) (o : Operand) → is_frame o ≡ false → Member (q, o) (explicit_bound (explicit_roles (roles_of t i)) (explicit_operands i.operands)) → passes is_slot q ≡ false
      by h None o n k = refl
      by h (Some q) o n k =
          let z = met t f i e is shaped.operands in
          let same : roles_of t i ≡ z.0.roles = ap (λ y. elim y as (λ y. List Role) [ None ↦ [] | Some d ↦ d.roles ]) z.1 in
          let fits = fit-of t e (explicit_roles z.0.roles) (explicit_operands i.operands) (fit t f i e is shaped.operands h).explicit q o (subst (λ rs. Member (Some q, o) (explicit_bound (explicit_roles rs) (explicit_operands i.operands))) same k) in
          at (is_slot q) refl fits
        where
          at : (u : Bool) → is_slot q ≡ u → fits_at t e q o ≡ true → u ≡ false
          at false s fits = refl
          at true s fits = absurd (let z : true ≡ false = sym (slot-frame t e q o s fits) ∙ n in cc)

      go : (h : Bool) → has_roles e ≡ h → Member b (explicit_bound (explicit_roles (roles_of t i)) (explicit_operands i.operands)) → passes is_slot b.0 ≡ false
      go true h k = by h b.0 b.1 n k
      go false h k = ap (passes is_slot) (unbound (explicit_operands i.operands) b (subst (λ rs. Member b (explicit_bound (explicit_roles rs) (explicit_operands i.operands))) (bare-roles t i e is h) k))

module _ (t : Target) (f : Function) (rs : Assignment) (slots : List (ℕ × ClassId)) (live : ℕ → ℕ → Bool) (frames : V15_frame forms.Source f ≡ true) where
  abbrev g : Function
  g = physical_form t rs slots live f

  declared : (n : ℕ) → is_spill_slot g n ≡ is_given_slot slots n
  unfolding V15_frame
  declared n = frames-past n f.frames (map slot_frame slots) (not-true (list_any (λ (o : ℕ × Bool). o.1) f.frames) frames) ∙ slots-declared n slots

  fits-slot : (b : Bound) → slot_role_fits slots b ≡ true → (is_frame b.1 ≡ false → passes is_slot b.0 ≡ false) → slot_fits g (move-bound t rs b) ≡ true
  fits-slot (q, operands.Stack n) h none = ap (beq (passes is_slot q)) (declared n) ∙ h
  fits-slot (q, operands.Reg o) h none = ap not (none refl)
  fits-slot (q, operands.Imm z) h none = ap not (none refl)
  fits-slot (q, operands.Block z) h none = ap not (none refl)
  fits-slot (q, operands.FixedStack z) h none = ap not (none refl)
  fits-slot (q, operands.Symbol z) h none = ap not (none refl)
  fits-slot (q, operands.Index z) h none = ap not (none refl)
  fits-slot (q, operands.Mask z) h none = ap not (none refl)

  module _ (clear : IsClear t f rs) (i : Instr) (e : Effect) (is : effect_of t i ≡ Some e) (names : AreNamed t f g rs clear i.operands) (shaped : IsShaped t f i) (named : list_all (slot_role_fits slots) (bound t i) ≡ true) (n : ℕ) where
    pub fifteen : V15 t forms.Allocated g (record (physical_instr t rs i) { id = n }) ≡ true
    unfolding V15
    fifteen =
        ap (list_all (slot_fits g)) (bound-same t rs i (implicit-fixed t f g rs clear i.operands names))
        ∙ all-more (slot_fits g) (move-bound t rs) (bound t i) (λ b m. fits-slot b (all-of (slot_role_fits slots) b (bound t i) m named) (no-slot t f i e is shaped b m))

pub physical-slots : PhysicalSlots
physical-slots t f rs slots live stand has =
    each-made t f rs slots live stand (λ g x. V15 t forms.Allocated g x) (λ b i mb mi names away shaped n.
    let e = known t i (stand.lowered.lowered b i mb mi) in
    fifteen t f rs slots live has.frames stand.clear i e.0.0 e.0.1 names shaped (has.operands b i mb mi) n)
