-- Each place of a function in which a range is spilled stands: by the effect of its instruction, or as the terminators of a block.
use Rattle.std.proofs.Common.{◌≡◌, ◌∷◌, ◌++◌, ◌∙◌, ◌&&◌, ◌+◌, ◌≤◌, not, ℕ, Bool, true, false, cond, List, Option, Some, None, length, map, refl, sym, ap, subst, arith, []}
use Rattle.std.specs.Prelude.{is_none, option_and_then, slice_get}
use Rattle.target_base.specs.declared.types.ClassId.{ClassId}
use Rattle.target_base.specs.declared.types.Effect.{Effect}
use Rattle.target_base.specs.declared.types.Effect.TheVariants as effects
use Rattle.target_base.specs.declared.types.Role.{Role}
use Rattle.target_base.specs.declared.types.Role.TheVariants as roles
use Rattle.target_base.specs.declared.types.Target.{Target}
use Rattle.target_base.specs.Roles.{has_shape, is_definition as is_definition_role, is_implicit, is_lanes, is_silent, is_slot, is_use as is_use_role}
use Rattle.target_base.specs.Storage.{same_numbers}
use Rattle.target_base.proofs.Tests.{first_of_both, second_of_both}
use Rattle.meaning.specs.Code.{Code}
use Rattle.meaning.specs.Live.{Among as Member, here as first}
use Rattle.mir_func.specs.declared.func.RegOp.{RegOp}
use Rattle.mir_func.specs.declared.func.Operand.{Operand}
use Rattle.mir_func.specs.declared.func.Operand.TheVariants as operands
use Rattle.mir_func.specs.declared.func.Instr.{Instr}
use Rattle.mir_func.specs.declared.func.Block.{Block}
use Rattle.mir_func.specs.Value.{Function}
use Rattle.mir_func.specs.Binding.{bound, class_of, does, effect_of, explicit_bound, explicit_operands, explicit_roles, implicit_bound, implicit_registers, implicit_roles, is_definition, is_implicit_operand, is_lowered_away, is_terminator, is_use, is_virtual, passes, puts_together, registers, roles_of, tied_number}
use Rattle.mir_meaning.specs.Codes.{item_of}
use Rattle.mir_meaning.specs.Renaming.{IsFixed}
use Rattle.mir_meaning.specs.Rules.{copy_fits, fits_role, implicit_def_fits, is_free_undef, spills_or_reloads}
use Rattle.instr_effects.proofs.Members.{filter-in, filter-of, left-in, member-elim, member-none}
use Rattle.live_laws.proofs.Effects.Lists.{all-of}
use Rattle.live_laws.proofs.Effects.Shapes.{class-there}
use Rattle.live_laws.proofs.Touch.Roles.{TakeAll, fit, has_roles, known-shape, met, reload-takes, spill-takes}
use Rattle.live_laws.specs.Effects.Shaped.{IsShaped}
use Rattle.lowering_laws.proofs.Classes.{AreNamed, class-stays, widened}
use Rattle.lowering_laws.proofs.Lowering.{map-append}
use Rattle.lowering_laws.proofs.Rolled.{Leads, fit-roles, leads-at, leads-definition, role-leads, tied-role}
use Rattle.lowering_laws.proofs.Rolled as rolling
use Rattle.lowering_laws.proofs.Seated.{bound-role, role-tied, some-role}
use Rattle.spiller.specs.Setting.{Spilling, in_own_slot, is_live_behind, is_own, moving_class, own_class, own_lanes, part_class, store, undef_use}
use Rattle.spiller.specs.Rematerialised.{copy_reading, is_needless, repeated_for}
use Rattle.spiller.specs.Spilled.{Change, becomes, change, copied_in, copied_out, copied_within, copy_change, effect_change, in_place_of, is_own_part, place_change, slot_change, through_tiny, undefined_change, with_ids}
use Rattle.spill_laws.specs.Laws.{is_placed}
use Rattle.spill_laws.specs.Standing.{ChangeStands, IsAt, IsSetting, PlaceStands, instrs_of}
use Rattle.spill_laws.specs.SpillPlaces.{IsPart, IsPlace, SpillPlacesStand, alone, ends}
use Rattle.spill_laws.specs.TinyPlaces.{GetsTinies}
use Rattle.spill_laws.proofs.Bystanders.{bystanders_stand}
use Rattle.spill_laws.proofs.CopyPlaces.{copies_stand}
use Rattle.spill_laws.proofs.CountedPlaces.{fixed-of}
use Rattle.spill_laws.proofs.GonePlaces.{needless_stand, undefined_stand}
use Rattle.spill_laws.proofs.InForm.{place-in}
use Rattle.spill_laws.proofs.ItemsStay.{item-stays}
use Rattle.spill_laws.proofs.Joined.{ids_change_nothing}
use Rattle.spill_laws.proofs.Opcodes.{IsSlot, reload-slot, spill-slot}
use Rattle.spill_laws.proofs.Outcomes.{definition-register, ends-placed, use-register}
use Rattle.spill_laws.proofs.RepeatPlaces.{repeats_stand}
use Rattle.spill_laws.proofs.SlotMoves.{slot_moves_stand}
use Rattle.spill_laws.proofs.Strangers.{strangers_pass}
use Rattle.spill_laws.proofs.TerminatorPlaces.{terminator_places_stand}
use Rattle.spill_laws.proofs.TinyPlaces.{tiny_places_stand}
use Rattle.spill_laws.proofs.Touched.{range-virtual}

not-true : (y : Bool) → not y ≡ true → y ≡ false
not-true false e = refl
not-true true e = absurd (cc)

use-plain : (r : Role) → is_use_role r ≡ true → is_definition_role r ≡ false
use-plain (roles.Read k) e = refl
use-plain (roles.Tied k n) e = refl
use-plain r e = absurd (cc)

lanes-none : (x : Operand) → fits_role roles.Lanes x ≡ true → (o : RegOp) → Member o (registers (x ∷ [])) → ⊥
lanes-none (operands.Imm z) h o m = member-none o m
lanes-none (operands.Index z) h o m = member-none o m
lanes-none x h o m = absurd (cc)

-- the first role of a store is no definition's
use-first : (rs : List Role) (r : Role) (n : ℕ) (tests : List (Role → Bool)) → has_shape (is_use_role ∷ tests) rs ≡ true → Leads n rs r → ⊥
use-first (q ∷ rs) r n tests h (rolling.first g) = let a = use-plain q (first_of_both (is_use_role q) _ h) in cc
use-first (q ∷ rs) r n tests h (rolling.later g l) = let a = use-plain q (first_of_both (is_use_role q) _ h) in cc
use-first [] r n tests h l = cc

module _ (s : Spilling) (g : Function) (b c : Block) (i : Instr) (p : Code) (n r : ℕ) (z : IsPlace s g b c (i ∷ []) p n r) where
  abbrev t : Target
  t = s.target

  abbrev f : Function
  f = s.func

  inside : Member i b.instrs
  inside = place-in s b (i ∷ []) z.place i first

  shaped : IsShaped s.target s.func i
  shaped = z.setting.shaped b i z.block inside

  at : IsAt s b i p
  at = record { block = z.block; place = z.place; shaped = shaped; lowered = z.setting.lowered b i z.block inside; site = z.at.0 }

  -- the tinies of a change have their classes
  abbrev Has : Change → Type 0
  Has x = (j : ℕ) (k : Option ClassId) → slice_get (map (λ y. y.0) x.tinies) j ≡ Some k → class_of g (r + j) ≡ k

  abbrev Stands : Change → Type 0
  Stands x = Has x → ChangeStands s g b c i p x

  nothing : (k : ℕ) → k ≡ k + 0
  nothing k = omega arith

  -- a setting in which a further range has a class
  module _ (k : Option ClassId) where
    abbrev wider : Function
    wider = widened s.target s.func (k ∷ [])

    wider-setting : IsSetting s wider
    wider-setting = record {
      shaped = z.setting.shaped;
      lowered = z.setting.lowered;
      stands = z.setting.stands;
      keeps = class-stays s.target s.func (k ∷ []);
      classes = z.setting.classes;
      facts = z.setting.facts;
    }

    wider-class : class_of wider (length s.func.classes) ≡ k
    wider-class = ap (λ q. elim q as (λ q. Option ClassId) [ None ↦ None | Some c ↦ c ]) (last s.func.classes)
      where
        last : (ks : List (Option ClassId)) → slice_get (ks ++ k ∷ []) (length ks) ≡ Some k
        last [] = refl
        last (x ∷ ks) = last ks

  -- an instruction that names the range nowhere

  named-by : ((o : RegOp) → Member o (registers i.operands) → o.implicit ≡ true → IsFixed o.loc) → AreNamed f i.operands
  named-by fixed o m = record { class = class-there t f i shaped o m; fixed = fixed o m }

  stays : does puts_together t i ≡ false → AreNamed f i.operands → ((o : RegOp) → Member o (registers i.operands) → is_own s o ≡ false) → ChangeStands s g b c i p (becomes (i ∷ []))
  stays single named strange =
      subst (λ y. PlaceStands s (item_of t f b i ∷ []) (y ∷ []) p) (sym (item-stays s g b c z.setting.keeps z.blocks i single named))
      (bystanders_stand s (item_of t f b i) p (strangers_pass s b i p single named strange z.at.1 z.at.0))

  -- copies

  module _ (d o : RegOp) (known : effect_of t i ≡ Some effects.Copy) (are : i.operands ≡ operands.Reg d ∷ operands.Reg o ∷ []) (fits : copy_fits (operands.Reg d ∷ operands.Reg o ∷ []) ≡ true) where
    both-registers : (P : RegOp → Type 0) → P d → P o → (x : RegOp) → Member x (registers i.operands) → P x
    both-registers P pd po x m =
        member-elim x d (o ∷ []) (λ e. subst P (sym e) pd) (λ k. member-elim x o [] (λ e. subst P (sym e) po) (λ k. absurd (member-none x k)) k) (subst (λ os. Member x (registers os)) are m)

    copy-named : AreNamed f i.operands
    copy-named = named-by (both-registers (λ x. x.implicit ≡ true → IsFixed x.loc)
        (λ u. absurd (let a = not-true d.implicit (second_of_both d.def (not d.implicit) (first_of_both (is_definition d) (is_use o) fits)) in cc))
        (λ u. absurd (let a = not-true o.implicit (second_of_both (not o.def) (not o.implicit) (second_of_both (is_definition d) (is_use o) fits)) in cc)))

    within : is_own s d ≡ true → is_own s o ≡ true → Stands (copied_within s n r i d o)
    within own-d own-o = go (same_numbers (own_lanes s d.index) (own_lanes s o.index)) refl
      where
        whole : (h : Function) → IsSetting s h → (a : ℕ) → length s.func.classes ≤ a → class_of h a ≡ moving_class s d.index → ChangeStands s h b c i p (copied_within s n a i d o)
        whole h setting a low class = (copies_stand s h b c i p d o n a setting at known are).2 own-d own-o low class

        go : (y : Bool) → same_numbers (own_lanes s d.index) (own_lanes s o.index) ≡ y → Stands (cond y (becomes []) (through_tiny s n r i (moving_class s d.index) (in_own_slot s o.index) (in_own_slot s d.index)))
        go true e has =
            let h = widened s.target s.func (moving_class s d.index ∷ []) in
            let a = length s.func.classes in
            let low : a ≤ a = omega arith in
            subst (λ y. ChangeStands s h b c i p (cond y (becomes []) (through_tiny s n a i (moving_class s d.index) (in_own_slot s o.index) (in_own_slot s d.index)))) e
            (whole h (wider-setting (moving_class s d.index)) a low (wider-class (moving_class s d.index)))
        go false e has =
            subst (λ y. ChangeStands s g b c i p (cond y (becomes []) (through_tiny s n r i (moving_class s d.index) (in_own_slot s o.index) (in_own_slot s d.index)))) e
            (whole g z.setting r z.further (ap (class_of g) (nothing r) ∙ has 0 (moving_class s d.index) refl))

    out : is_own s d ≡ false → is_own s o ≡ true → Stands (copied_out s i d o)
    out own-d own-o has = go (repeated_for s (copy_reading s i d o)) refl
      where
        go : (q : Option Instr) → repeated_for s (copy_reading s i d o) ≡ q → ChangeStands s g b c i p (copied_out s i d o)
        go None e = (copies_stand s g b c i p d o n r z.setting at known are).1 own-d own-o e
        go (Some x) e = repeats_stand s g b c i x p d o z.setting at known are own-d own-o e

    copying : Stands (copy_change s n r i d o)
    copying = go (is_own s o) refl (is_own s d) refl
      where
        go : (x : Bool) → is_own s o ≡ x → (y : Bool) → is_own s d ≡ y → Stands (cond x (cond y (copied_within s n r i d o) (copied_out s i d o)) (cond y (copied_in s i d o) (becomes (i ∷ []))))
        go true u true v = within v u
        go true u false v = out v u
        go false u true v = λ has. (copies_stand s g b c i p d o n r z.setting at known are).0 v u
        go false u false v = λ has. stays (ap (passes puts_together) known) copy-named (both-registers (λ x. is_own s x ≡ false) v u)

  of-copy : (os : List Operand) → effect_of t i ≡ Some effects.Copy → i.operands ≡ os → copy_fits os ≡ true → Stands (effect_change s n r i (Some effects.Copy) os)
  of-copy (operands.Reg d ∷ operands.Reg o ∷ []) known are fits = copying d o known are fits
  of-copy os known are fits = absurd (cc)

  -- stores to slots and reloads

  module _ (o : RegOp) (slot : List Operand) (are : i.operands ≡ operands.Reg o ∷ slot) (e : Effect) (known : effect_of t i ≡ Some e) (moves : spills_or_reloads e ≡ true) (silent : is_silent e ≡ true) (has-roles : has_roles e ≡ true) (single : puts_together e ≡ false) (at-slot : IsSlot slot) where
    one-register : (x : RegOp) → Member x (registers i.operands) → x ≡ o
    one-register x m =
        member-elim x o (registers slot) (λ q. q) (λ k. absurd (lanes-none at-slot.lanes at-slot.fits x (subst (λ os. Member x (registers os)) at-slot.is k))) (subst (λ os. Member x (registers os)) are m)

    slot-named : AreNamed f i.operands
    slot-named = named-by (λ x m u.
        let d = (met t f i e known shaped.operands).0 in
        let all = (fit t f i e known shaped.operands has-roles).implicit in
        fixed-of x.loc (first_of_both (not (is_virtual x.loc)) (not (is_silent d.effect)) (all-of (λ (x : RegOp). not (is_virtual x.loc) && not (is_silent d.effect)) x (implicit_registers i.operands) (filter-in (λ (x : RegOp). x.implicit) x (registers i.operands) m u) all)))

    slot-moving : (through : ℕ → List Operand → List Operand → Change) → ((a : ℕ) (own other : List Operand) → (through a own other).tinies ≡ (moving_class s o.index, n) ∷ [])
        → (is_own s o ≡ true → (h : Function) → IsSetting s h → (a : ℕ) → length s.func.classes ≤ a → class_of h a ≡ moving_class s o.index → ChangeStands s h b c i p (slot_change s n a i o slot (through a)))
        → Stands (slot_change s n r i o slot (through r))
    slot-moving through tiny stand = go (is_own s o) refl (is_own_part s o slot) refl
      where
        at-own : (h : Function) (a : ℕ) → is_own s o ≡ true → (y : Bool) → is_own_part s o slot ≡ y → ChangeStands s h b c i p (slot_change s n a i o slot (through a)) → ChangeStands s h b c i p (cond y (becomes []) (through a (in_own_slot s o.index) slot))
        at-own h a own y q w = subst (λ x. ChangeStands s h b c i p x) (λ k. cond (own k) (cond (q k) (becomes []) (through a (in_own_slot s o.index) slot)) (becomes (i ∷ []))) w

        go : (x : Bool) → is_own s o ≡ x → (y : Bool) → is_own_part s o slot ≡ y → Stands (cond x (cond y (becomes []) (through r (in_own_slot s o.index) slot)) (becomes (i ∷ [])))
        go false own y q has = stays (ap (passes puts_together) known ∙ single) slot-named (λ x m. ap (is_own s) (one-register x m) ∙ own)
        go true own true q has =
            let low : length s.func.classes ≤ length s.func.classes = omega arith in
            at-own (widened s.target s.func (moving_class s o.index ∷ [])) (length s.func.classes) own true q
            (stand own (widened s.target s.func (moving_class s o.index ∷ [])) (wider-setting (moving_class s o.index)) (length s.func.classes) low (wider-class (moving_class s o.index)))
        go true own false q has =
            at-own g r own false q
            (stand own g z.setting r z.further (ap (class_of g) (nothing r) ∙ has 0 (moving_class s o.index) (ap (λ ts. slice_get (map (λ y. y.0) ts) 0) (tiny r (in_own_slot s o.index) slot))))

  -- what is stored isn't `undef`
  stored-plain : (o : RegOp) (slot : List Operand) → effect_of t i ≡ Some effects.Spill → i.operands ≡ operands.Reg o ∷ slot → is_own s o ≡ true → o.undef ≡ false
  stored-plain o slot known are own = go o.undef refl
    where
      used : is_use o ≡ true
      used = by (spill-takes t f i shaped.operands known)
        where
          of-role : (q : Role) → is_use_role q ≡ true → fits_role q (operands.Reg o) ≡ true → is_use o ≡ true
          of-role (roles.Read k) h w = w
          of-role (roles.Tied k m) h w = w
          of-role q h w = absurd (cc)

          by : TakeAll (is_use_role ∷ is_slot ∷ is_lanes ∷ []) i.operands → is_use o ≡ true
          by a = let w = subst (TakeAll (is_use_role ∷ is_slot ∷ is_lanes ∷ [])) are a in of-role w.0.0 w.0.1 w.0.2

      there : Member (operands.Reg o) (explicit_operands i.operands)
      there = filter-in (λ x. not (is_implicit_operand x)) (operands.Reg o) i.operands (subst (Member (operands.Reg o)) (sym are) first) (second_of_both (not o.def) (not o.implicit) used)

      go : (u : Bool) → o.undef ≡ u → o.undef ≡ false
      go false u = u
      go true u =
          let q = some-role (explicit_roles (roles_of t i)) (explicit_operands i.operands) (operands.Reg o) there in
          let m = left-in (q.0, operands.Reg o) (explicit_bound (explicit_roles (roles_of t i)) (explicit_operands i.operands)) (map (implicit_bound (implicit_roles (roles_of t i))) (implicit_registers i.operands)) q.1 in
          absurd (by q.0 (option_and_then tied_number q.0) refl q.1 m)
        where
          by : (q : Option Role) (a : Option ℕ) → option_and_then tied_number q ≡ a → Member (q, operands.Reg o) (explicit_bound (explicit_roles (roles_of t i)) (explicit_operands i.operands)) → Member (q, operands.Reg o) (bound t i) → ⊥
          by q None e x m =
              let v = range-virtual s.range o.loc own in
              let w : is_free_undef (q, operands.Reg o) ≡ true = λ k. not (not-true o.def (first_of_both (not o.def) (not o.implicit) used) k) && u k && is_none (e k) in
              let a = z.undefs b i z.block inside q o m w in
              let y : is_virtual o.loc ≡ true = ap is_virtual v.1 in
              cc
          by q (Some a) e x m =
              let w = role-tied q a e in
              let v = tied-role w.0 a (subst (λ y. option_and_then tied_number y ≡ Some a) w.1 e) in
              let role = (filter-of (λ (y : Role). not (is_implicit y)) w.0 (roles_of t i) (bound-role (explicit_roles (roles_of t i)) (explicit_operands i.operands) w.0 (operands.Reg o) (subst (λ y. Member (y, operands.Reg o) (explicit_bound (explicit_roles (roles_of t i)) (explicit_operands i.operands))) w.1 x))).0 in
              let fits = fit-roles t f i effects.Spill known refl shaped.operands in
              let leads = role-leads t effects.Spill (roles_of t i) fits refl v.0 a (subst (λ y. Member y (roles_of t i)) v.1 role) in
              use-first (roles_of t i) leads.0 a (is_slot ∷ is_lanes ∷ []) (known-shape t effects.Spill (roles_of t i) (is_use_role ∷ is_slot ∷ is_lanes ∷ []) refl fits) leads.1

  of-spill : (os : List Operand) → effect_of t i ≡ Some effects.Spill → i.operands ≡ os → ((x : Operand) (xs : List Operand) → os ≡ x ∷ xs → (o : RegOp) × (x ≡ operands.Reg o)) → (os ≡ [] → ⊥) → Stands (effect_change s n r i (Some effects.Spill) os)
  of-spill [] known are h none = absurd (none refl)
  of-spill (operands.Reg o ∷ slot) known are h none =
      slot-moving o slot are effects.Spill known refl refl refl refl (spill-slot t f i o slot shaped.operands known are)
      (λ a own other. through_tiny s n a i (moving_class s o.index) own other) (λ a own other. refl)
      (λ own h setting a low class. (slot_moves_stand s h b c i p o slot n a setting at are own low class).0 known (stored-plain o slot known are own))
  of-spill (x ∷ slot) known are h none = absurd (let y = (h x slot refl).1 in cc)

  of-reload : (os : List Operand) → effect_of t i ≡ Some effects.Reload → i.operands ≡ os → ((x : Operand) (xs : List Operand) → os ≡ x ∷ xs → (o : RegOp) × (x ≡ operands.Reg o)) → (os ≡ [] → ⊥) → Stands (effect_change s n r i (Some effects.Reload) os)
  of-reload [] known are h none = absurd (none refl)
  of-reload (operands.Reg o ∷ slot) known are h none =
      slot-moving o slot are effects.Reload known refl refl refl refl (reload-slot t f i o slot shaped.operands known are)
      (λ a own other. through_tiny s n a i (moving_class s o.index) other own) (λ a own other. refl)
      (λ own h setting a low class. (slot_moves_stand s h b c i p o slot n a setting at are own low class).1 known)
  of-reload (x ∷ slot) known are h none = absurd (let y = (h x slot refl).1 in cc)

  -- IMPLICIT_DEF

  of-undefined : (os : List Operand) → effect_of t i ≡ Some effects.ImplicitDef → i.operands ≡ os → implicit_def_fits os ≡ true → Stands (effect_change s n r i (Some effects.ImplicitDef) os)
  of-undefined (operands.Reg o ∷ []) known are fits = go (is_own s o) refl
    where
      one : (x : RegOp) → Member x (registers i.operands) → x ≡ o
      one x m = member-elim x o [] (λ q. q) (λ k. absurd (member-none x k)) (subst (λ os. Member x (registers os)) are m)

      named : AreNamed f i.operands
      named = named-by (λ x m u. absurd (let a = not-true o.implicit (second_of_both o.def (not o.implicit) fits) in let w = ap (λ (y : RegOp). y.implicit) (one x m) in cc))

      go : (y : Bool) → is_own s o ≡ y → Stands (undefined_change s i o)
      go true own has = undefined_stand s g b c i p o z.setting at known are own
      go false own has =
          let k = part_class s.target o.index (own_class s) in
          subst (λ y. ChangeStands s g b c i p (cond (not y) (becomes (i ∷ [])) (cond (is_live_behind s i o.index) (becomes (in_place_of i (store s.target k (undef_use s.target k) (in_own_slot s o.index)) ∷ [])) (becomes [])))) (sym own)
          (stays (ap (passes puts_together) known) named (λ x m. ap (is_own s) (one x m) ∙ own))
  of-undefined os known are fits = absurd (cc)

  -- any other

  gets : does is_placed t i ≡ true → Has (place_change s r (i ∷ [])) → GetsTinies s g b c (i ∷ []) p r
  gets placed has = record {
    setting = z.setting;
    blocks = z.blocks;
    block = z.block;
    place = z.place;
    tinies = record {
      keeps = z.setting.keeps;
      classes = z.setting.classes;
      further = z.further;
      shaped = λ j m. z.setting.shaped b j z.block (place-in s b (i ∷ []) z.place j m);
      placed = λ j m. member-elim j i [] (λ e. ap (does is_placed t) e ∙ placed) (λ k. absurd (member-none j k)) m;
      lowered = λ j m. z.setting.lowered b j z.block (place-in s b (i ∷ []) z.place j m);
      once = z.once;
      tinies = has;
    };
    undefs = z.undefs;
    at = z.at;
  }

  of-other : does is_placed t i ≡ true → Stands (cond (is_needless s i) (becomes []) (place_change s r (i ∷ [])))
  of-other placed = go (is_needless s i) refl
    where
      part : {is : List Instr} → IsPart s is → is ≡ i ∷ [] → GetsTinies s g b c (i ∷ []) p r → ChangeStands s g b c i p (place_change s r (i ∷ []))
      part (alone {i = j} e) same gt = tiny_places_stand s g b c i p r gt (subst (λ x. does is_terminator t x ≡ false) (head j i same) e)
        where
          head : (x y : Instr) → x ∷ [] ≡ y ∷ [] → x ≡ y
          head x y e = cc
      part (ends e) same gt = terminator_places_stand s g b c (i ∷ []) p r gt (λ j m. e j (subst (Member j) (sym same) m))

      go : (y : Bool) → is_needless s i ≡ y → Stands (cond y (becomes []) (place_change s r (i ∷ [])))
      go true e has = needless_stand s g b c i p z.setting at inside e
      go false e has = part z.part refl (gets placed has)

  taken : (os : List Operand) (test : Role → Bool) (tests : List (Role → Bool)) → ((q : Role) (x : Operand) → test q ≡ true → fits_role q x ≡ true → (o : RegOp) × (x ≡ operands.Reg o)) → TakeAll (test ∷ tests) os → (x : Operand) (xs : List Operand) → os ≡ x ∷ xs → (o : RegOp) × (x ≡ operands.Reg o)
  taken [] test tests h a x xs e = absurd a
  taken (y ∷ ys) test tests h a x xs e = subst (λ w. (o : RegOp) × (w ≡ operands.Reg o)) (same-head y x ys xs e) (h a.0.0 y a.0.1 a.0.2)
    where
      same-head : (y x : Operand) (ys xs : List Operand) → y ∷ ys ≡ x ∷ xs → y ≡ x
      same-head y x ys xs e = cc

  some-taken : (os : List Operand) (test : Role → Bool) (tests : List (Role → Bool)) → TakeAll (test ∷ tests) os → os ≡ [] → ⊥
  some-taken [] test tests a e = a
  some-taken (y ∷ ys) test tests a e = cc

  pub effect-stands : ChangeStands s g b c i p (change s n r (i ∷ []))
  effect-stands = go (effect_of t i) refl (z.opcodes i first) z.tinies
    where
      go : (q : Option Effect) → effect_of t i ≡ q → passes (λ e. not (is_lowered_away e)) q ≡ true → Stands (effect_change s n r i q i.operands)
      go None e h = absurd (cc)
      go (Some effects.Copy) e h = of-copy i.operands e refl (met s.target s.func i effects.Copy e shaped.operands).3
      go (Some effects.Spill) e h = let a = spill-takes s.target s.func i shaped.operands e in of-spill i.operands e refl (taken i.operands is_use_role (is_slot ∷ is_lanes ∷ []) use-register a) (some-taken i.operands is_use_role (is_slot ∷ is_lanes ∷ []) a)
      go (Some effects.Reload) e h = let a = reload-takes s.target s.func i shaped.operands e in of-reload i.operands e refl (taken i.operands is_definition_role (is_slot ∷ is_lanes ∷ []) definition-register a) (some-taken i.operands is_definition_role (is_slot ∷ is_lanes ∷ []) a)
      go (Some effects.ImplicitDef) e h = of-undefined i.operands e refl (met s.target s.func i effects.ImplicitDef e shaped.operands).3
      go (Some effects.Phi) e h = absurd (cc)
      go (Some effects.RegSequence) e h = absurd (cc)
      go (Some effects.InsertSubreg) e h = absurd (cc)
      go (Some x) e h = of-other (ap (passes is_placed) e)

-- a place of any number of instructions
module _ (s : Spilling) (g : Function) (b c : Block) (is : List Instr) (p : Code) (n r : ℕ) (z : IsPlace s g b c is p n r) where
  placed-by : (q : Option Effect) → passes is_terminator q ≡ true → passes is_placed q ≡ true
  placed-by None h = h
  placed-by (Some e) h = ends-placed e h

  -- terminators
  all-end : ((i : Instr) → Member i is → does is_terminator s.target i ≡ true) → ((j : ℕ) (k : Option ClassId) → slice_get (map (λ y. y.0) (place_change s r is).tinies) j ≡ Some k → class_of g (r + j) ≡ k)
      → PlaceStands s (map (item_of s.target s.func b) is) (map (item_of s.target g c) (instrs_of (place_change s r is))) p
  all-end e has = terminator_places_stand s g b c is p r
      (record {
        setting = z.setting;
        blocks = z.blocks;
        block = z.block;
        place = z.place;
        tinies = record {
          keeps = z.setting.keeps;
          classes = z.setting.classes;
          further = z.further;
          shaped = λ j m. z.setting.shaped b j z.block (place-in s b is z.place j m);
          placed = λ j m. placed-by (effect_of s.target j) (e j m);
          lowered = λ j m. z.setting.lowered b j z.block (place-in s b is z.place j m);
          once = z.once;
          tinies = has;
        };
        undefs = z.undefs;
        at = z.at;
      }) e

place-stands : (s : Spilling) (g : Function) (b c : Block) (is : List Instr) (p : Code) (n r : ℕ) → IsPlace s g b c is p n r → PlaceStands s (map (item_of s.target s.func b) is) (map (item_of s.target g c) (instrs_of (change s n r is))) p
place-stands s g b c [] p n r z = all-end s g b c [] p n r z (λ i m. absurd (member-none i m)) z.tinies
place-stands s g b c (i ∷ []) p n r z = effect-stands s g b c i p n r z
place-stands s g b c (i ∷ j ∷ is) p n r z = all-end s g b c (i ∷ j ∷ is) p n r z (part z.part refl) z.tinies
  where
    part : {js : List Instr} → IsPart s js → js ≡ i ∷ j ∷ is → (k : Instr) → Member k (i ∷ j ∷ is) → does is_terminator s.target k ≡ true
    part (alone {i = x} e) same k m = absurd (cc)
    part (ends e) same k m = e k (subst (Member k) (sym same) m)

-- new ids change nothing
numbered-items : (s : Spilling) (g : Function) (c : Block) (n : ℕ) (x : Change) → map (item_of s.target g c) (with_ids n x.before ++ (x.own ++ with_ids (n + length x.before) x.behind)) ≡ map (item_of s.target g c) (instrs_of x)
numbered-items s g c n x =
    let item = item_of s.target g c in
    map-append item (with_ids n x.before) (x.own ++ with_ids (n + length x.before) x.behind)
    ∙ ((λ k. ids_change_nothing s.target g c n x.before k ++ (map-append item x.own (with_ids (n + length x.before) x.behind) ∙ ((λ j. map item x.own ++ ids_change_nothing s.target g c (n + length x.before) x.behind j) ∙ sym (map-append item x.own x.behind))) k)
    ∙ sym (map-append item x.before (x.own ++ x.behind)))

pub spill_places_stand : SpillPlacesStand
spill_places_stand s g b c is p n r z =
    subst (λ y. PlaceStands s (map (item_of s.target s.func b) is) y p) (sym (numbered-items s g c n (change s n r is))) (place-stands s g b c is p n r z)
