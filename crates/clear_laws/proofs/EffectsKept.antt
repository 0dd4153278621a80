-- Each instruction that a spill changes keeps what its place has to, whatever its effect.
use Rattle.std.proofs.Common.{◌≡◌, ◌+◌, ◌∷◌, ◌∙◌, ◌&&◌, not, ℕ, Bool, true, false, cond, List, Option, Some, None, map, refl, sym, ap, subst, arith, eqb-true, []}
use Rattle.std.specs.Prelude.{is_none, nat_eq, option_and_then, slice_get}
use Rattle.target_base.specs.declared.types.ClassId.{ClassId}
use Rattle.target_base.specs.declared.types.Effect.{Effect}
use Rattle.target_base.specs.declared.types.Effect.TheVariants as effects
use Rattle.target_base.specs.declared.types.Role.{Role}
use Rattle.target_base.specs.declared.types.Role.TheVariants as roles
use Rattle.target_base.specs.declared.types.Target.{Target}
use Rattle.target_base.specs.Roles.{has_shape, is_definition as is_definition_role, is_implicit, is_lanes, is_silent, is_slot as is_slot_role, is_use as is_use_role}
use Rattle.target_base.specs.Rules.{is_phi}
use Rattle.target_base.specs.Storage.{same_numbers}
use Rattle.target_base.proofs.Tests.{first_of_both, second_of_both}
use Rattle.meaning.specs.Code.{Code}
use Rattle.meaning.specs.Live.{Among as Member, here as first}
use Rattle.meaning.specs.declared.types.Lane.TheVariants.{SlotLane}
use Rattle.mir_func.specs.declared.func.RegOp.{RegOp}
use Rattle.mir_func.specs.declared.func.Operand.{Operand}
use Rattle.mir_func.specs.declared.func.Operand.TheVariants as operands
use Rattle.mir_func.specs.declared.func.Instr.{Instr}
use Rattle.mir_func.specs.declared.func.Block.{Block}
use Rattle.mir_func.specs.Value.{Function}
use Rattle.mir_func.specs.Binding.{bound, class_of, does, effect_of, explicit_bound, explicit_operands, explicit_roles, implicit_bound, implicit_registers, implicit_roles, is_definition, is_implicit_operand, is_lowered_away, is_terminator, is_use, is_virtual, passes, puts_together, registers, roles_of, tied_number}
use Rattle.mir_meaning.specs.Codes.{item_of}
use Rattle.mir_meaning.specs.Registers.{operand_widths, slot_lane_numbers}
use Rattle.mir_meaning.specs.Renaming.{IsFixed}
use Rattle.mir_meaning.specs.Rules.{copy_fits, fits_role, implicit_def_fits, is_free_undef, spills_or_reloads}
use Rattle.instr_effects.proofs.Members.{filter-in, filter-of, left-in, member-elim, member-none}
use Rattle.live_laws.proofs.Effects.Lists.{all-of}
use Rattle.live_laws.proofs.Effects.Shapes.{class-there}
use Rattle.live_laws.proofs.Touch.Roles.{TakeAll, fit, has_roles, known-shape, met, reload-takes, spill-takes}
use Rattle.live_laws.specs.Effects.Shaped.{IsShaped}
use Rattle.lowering_laws.proofs.Classes.{AreNamed}
use Rattle.lowering_laws.proofs.Rolled.{Leads, fit-roles, role-leads, tied-role}
use Rattle.lowering_laws.proofs.Rolled as rolling
use Rattle.lowering_laws.proofs.Seated.{bound-role, role-tied, some-role}
use Rattle.split_laws.proofs.Splitting.{as-item}
use Rattle.spiller.specs.Rematerialised.{copy_reading, is_constant, is_needless, repeated, repeated_for}
use Rattle.spiller.specs.Setting.{Spilling, class_beside, in_own_slot, is_live_behind, is_own, moving_class, own_class, own_lanes, part_class, plain_definition, reload, store, undef_use}
use Rattle.spiller.specs.Spilled.{Change, becomes, change, copied_in, copied_out, copied_within, copy_change, effect_change, in_place_of, place_change, slot_change, spilled, through_tiny}
use Rattle.spill_laws.specs.Laws.{is_placed}
use Rattle.spill_laws.specs.SpillPlaces.{IsPart, IsPlace, alone, ends}
use Rattle.spill_laws.specs.Standing.{IsAt}
use Rattle.spill_laws.specs.TinyPlaces.{GetsTinies}
use Rattle.spill_laws.proofs.Constants.{AlwaysConstant, ConstantOperands, constant-operands}
use Rattle.spill_laws.proofs.CountedPlaces.{fixed-of, no-parts}
use Rattle.spill_laws.proofs.InForm.{place-in}
use Rattle.spill_laws.proofs.ItemsStay.{item-stays}
use Rattle.spill_laws.proofs.Opcodes.{IsSlot, reload-slot, repeats-for, spill-slot}
use Rattle.spill_laws.proofs.Outcomes.{definition-register, use-register}
use Rattle.spill_laws.proofs.Refining.{no-phi}
use Rattle.spill_laws.proofs.SlotPlaces.{width}
use Rattle.spill_laws.proofs.SpillItems.{own-widths-are, same-list}
use Rattle.spill_laws.proofs.StrangePlaces.{strange_places}
use Rattle.spill_laws.proofs.TinyRules.{rolled}
use Rattle.spill_laws.proofs.Touched.{range-virtual}
use Rattle.clear_laws.proofs.ConstantKept.{constant-kept}
use Rattle.clear_laws.proofs.CountedKept.{counted-kept}
use Rattle.clear_laws.proofs.EndsKept.{terminators-kept}
use Rattle.clear_laws.proofs.MovePlaces.{vanished-kept, within-kept}
use Rattle.clear_laws.proofs.NeedlessKept.{needless-kept}
use Rattle.clear_laws.proofs.PlacesKept.{PlaceKept}
use Rattle.clear_laws.proofs.Replaced.{replaced-kept, stays-replaces}
use Rattle.clear_laws.proofs.SilentForms.{LiveHere}
use Rattle.clear_laws.proofs.SilentPlaces.{copied-constant-kept, copied-in-kept, copied-out-kept}
use Rattle.clear_laws.proofs.SlotMovePlaces.{reloaded-on-kept, reloaded-own-kept, stored-on-kept, stored-own-kept}
use Rattle.clear_laws.proofs.SpillPoints.{goes-on, is-stored, is-wide}
use Rattle.clear_laws.proofs.StayPlaces.{move-stays, moves_lanes}
use Rattle.clear_laws.proofs.TinyItems.{numbered-by}
use Rattle.clear_laws.proofs.UndefPlaces.{undefined-dropped, undefined-stored}

not-true : (y : Bool) → not y ≡ true → y ≡ false
not-true false e = refl
not-true true e = absurd (cc)

use-plain : (r : Role) → is_use_role r ≡ true → is_definition_role r ≡ false
use-plain (roles.Read k) e = refl
use-plain (roles.Tied k n) e = refl
use-plain r e = absurd (cc)

lanes-none : (x : Operand) → fits_role roles.Lanes x ≡ true → (o : RegOp) → Member o (registers (x ∷ [])) → ⊥
lanes-none (operands.Imm z) h o m = member-none o m
lanes-none (operands.Index z) h o m = member-none o m
lanes-none x h o m = absurd (cc)

-- the first role of a store is no definition's
use-first : (rs : List Role) (r : Role) (n : ℕ) (tests : List (Role → Bool)) → has_shape (is_use_role ∷ tests) rs ≡ true → Leads n rs r → ⊥
use-first (q ∷ rs) r n tests h (rolling.first g) = let a = use-plain q (first_of_both (is_use_role q) _ h) in cc
use-first (q ∷ rs) r n tests h (rolling.later g l) = let a = use-plain q (first_of_both (is_use_role q) _ h) in cc
use-first [] r n tests h l = cc

constant-moves : (e : Effect) → is_constant e ≡ true → moves_lanes e
constant-moves effects.Const h = tt
constant-moves effects.Addr h = tt
constant-moves e h = absurd (cc)

constant-no-phi : (q : Option Effect) → passes is_constant q ≡ true → passes is_phi q ≡ false
constant-no-phi None h = refl
constant-no-phi (Some effects.Phi) h = absurd (cc)
constant-no-phi (Some e) h = refl

constant-by : (e : Effect) → has_roles e ≡ true → spills_or_reloads e ≡ false → is_silent e ≡ true → is_constant e ≡ true
constant-by effects.Const r u s = refl
constant-by effects.Addr r u s = refl
constant-by effects.Copy r u s = absurd (cc)
constant-by effects.Phi r u s = absurd (cc)
constant-by effects.ImplicitDef r u s = absurd (cc)
constant-by effects.RegSequence r u s = absurd (cc)
constant-by effects.InsertSubreg r u s = absurd (cc)
constant-by effects.Spill r u s = absurd (cc)
constant-by effects.Reload r u s = absurd (cc)
constant-by e r u s = absurd (cc)

none-other : (y : Operand) → AlwaysConstant y → (o : RegOp) → Member o (registers (y ∷ [])) → ⊥
none-other (operands.Reg x) a o m = let u = (a 0).1 in cc
none-other (operands.Imm x) a o m = member-none o m
none-other (operands.Block x) a o m = member-none o m
none-other (operands.Stack x) a o m = member-none o m
none-other (operands.FixedStack x) a o m = member-none o m
none-other (operands.Symbol x) a o m = member-none o m
none-other (operands.Index x) a o m = member-none o m
none-other (operands.Mask x) a o m = member-none o m

module _ (s : Spilling) (b c : Block) (i : Instr) (p : Code) (n r : ℕ) (z : IsPlace s (spilled s) b c (i ∷ []) p n r) (live-wide : (m q u : ℕ) → LiveHere s p (SlotLane m q u) → is-wide s u) where
  abbrev t : Target
  t = s.target

  abbrev f : Function
  f = s.func

  abbrev g : Function
  g = spilled s

  inside : Member i b.instrs
  inside = place-in s b (i ∷ []) z.place i first

  shaped : IsShaped s.target s.func i
  shaped = z.setting.shaped b i z.block inside

  at : IsAt s b i p
  at = record { block = z.block; place = z.place; shaped = shaped; lowered = z.setting.lowered b i z.block inside; site = z.at.0 }

  phi : passes is_phi (effect_of s.target i) ≡ false
  phi = no-phi s.target i (z.opcodes i first)

  -- what a change leaves
  abbrev Kept : Change → Type 0
  Kept x = PlaceKept s.target s.func (spilled s) s.range s.slot (is-wide s) (is-stored s) b c (i ∷ []) (numbered-by n x) p

  -- the tinies of a change have their classes
  abbrev Has : Change → Type 0
  Has x = (j : ℕ) (k : Option ClassId) → slice_get (map (λ y. y.0) x.tinies) j ≡ Some k → class_of (spilled s) (r + j) ≡ k

  abbrev Stands : Change → Type 0
  Stands x = Has x → Kept x

  nothing : (k : ℕ) → k ≡ k + 0
  nothing k = omega arith

  -- an instruction that names the range nowhere

  named-by : ((o : RegOp) → Member o (registers i.operands) → o.implicit ≡ true → IsFixed o.loc) → AreNamed f i.operands
  named-by fixed o m = record { class = class-there t f i shaped o m; fixed = fixed o m }

  stays : (e : Effect) → effect_of t i ≡ Some e → moves_lanes e → puts_together e ≡ false → AreNamed f i.operands → ((o : RegOp) → Member o (registers i.operands) → is_own s o ≡ false) → Kept (becomes (i ∷ []))
  stays e known moves alone-it named strange =
      let single : does puts_together t i ≡ false = ap (passes puts_together) known ∙ alone-it in
      let x = item_of t f b i in
      replaced-kept t f g s.range s.slot (is-wide s) (is-stored s) b c i i p x x (as-item t f b i phi) (as-item t g c i phi ∙ item-stays s g b c z.setting.keeps z.blocks i single named) at.site.from
      (stays-replaces t f g s.range s.slot (is-wide s) (is-stored s) (goes-on s) x p (move-stays s b c i p i.id at.site e known moves single named strange))

  -- copies

  module _ (d o : RegOp) (known : effect_of t i ≡ Some effects.Copy) (are : i.operands ≡ operands.Reg d ∷ operands.Reg o ∷ []) (fits : copy_fits (operands.Reg d ∷ operands.Reg o ∷ []) ≡ true) where
    both-registers : (P : RegOp → Type 0) → P d → P o → (x : RegOp) → Member x (registers i.operands) → P x
    both-registers P pd po x m =
        member-elim x d (o ∷ []) (λ e. subst P (sym e) pd) (λ k. member-elim x o [] (λ e. subst P (sym e) po) (λ k. absurd (member-none x k)) k) (subst (λ os. Member x (registers os)) are m)

    copy-named : AreNamed f i.operands
    copy-named = named-by (both-registers (λ x. x.implicit ≡ true → IsFixed x.loc)
        (λ u. absurd (let a = not-true d.implicit (second_of_both d.def (not d.implicit) (first_of_both (is_definition d) (is_use o) fits)) in cc))
        (λ u. absurd (let a = not-true o.implicit (second_of_both (not o.def) (not o.implicit) (second_of_both (is_definition d) (is_use o) fits)) in cc)))

    within : is_own s d ≡ true → is_own s o ≡ true → Stands (copied_within s n r i d o)
    within own-d own-o = go (same_numbers (own_lanes s d.index) (own_lanes s o.index)) refl
      where
        go : (y : Bool) → same_numbers (own_lanes s d.index) (own_lanes s o.index) ≡ y → Stands (cond y (becomes []) (through_tiny s n r i (moving_class s d.index) (in_own_slot s o.index) (in_own_slot s d.index)))
        go true e has = vanished-kept s z.setting b c i p at phi d o known are own-d own-o (same-list (own_lanes s d.index) (own_lanes s o.index) e)
        go false e has = within-kept s z.setting b c i p at phi d o known are own-d own-o (n + 0) r z.further (ap (class_of g) (nothing r) ∙ has 0 (moving_class s d.index) refl)

    out : is_own s d ≡ false → is_own s o ≡ true → Kept (copied_out s i d o)
    out own-d own-o = go (repeated_for s (copy_reading s i d o)) refl
      where
        go : (q : Option Instr) → repeated_for s (copy_reading s i d o) ≡ q
            → Kept (elim q as (λ q. Change) [ None ↦ becomes (in_place_of i (reload s.target (class_beside s d d.loc) (plain_definition d.loc d.index) (in_own_slot s o.index)) ∷ []) | Some x ↦ record (becomes []) { before = repeated x (plain_definition d.loc d.index) ∷ [] } ])
        go None e = copied-out-kept s z.setting b c i p at phi d o known are own-o own-d e
        go (Some x) e = copied-constant-kept s z.setting b c i p at phi d o known are own-o own-d x e n (constant-no-phi (effect_of t x) (repeats-for s (copy_reading s i d o) x e).constant)

    copying : Stands (copy_change s n r i d o)
    copying = go (is_own s o) refl (is_own s d) refl
      where
        go : (x : Bool) → is_own s o ≡ x → (y : Bool) → is_own s d ≡ y → Stands (cond x (cond y (copied_within s n r i d o) (copied_out s i d o)) (cond y (copied_in s i d o) (becomes (i ∷ []))))
        go true u true v = within v u
        go true u false v = λ has. out v u
        go false u true v = λ has. copied-in-kept s z.setting b c i p at phi d o known are v u
        go false u false v = λ has. stays effects.Copy known tt refl copy-named (both-registers (λ x. is_own s x ≡ false) v u)

  of-copy : (os : List Operand) → effect_of t i ≡ Some effects.Copy → i.operands ≡ os → copy_fits os ≡ true → Stands (effect_change s n r i (Some effects.Copy) os)
  of-copy (operands.Reg d ∷ operands.Reg o ∷ []) known are fits = copying d o known are fits
  of-copy os known are fits = absurd (cc)

  -- stores to slots and reloads

  module _ (o : RegOp) (slot : List Operand) (are : i.operands ≡ operands.Reg o ∷ slot) (e : Effect) (known : effect_of t i ≡ Some e) (silent : is_silent e ≡ true) (has-roles : has_roles e ≡ true) (single : puts_together e ≡ false) (moves : moves_lanes e) (at-slot : IsSlot slot) where
    one-register : (x : RegOp) → Member x (registers i.operands) → x ≡ o
    one-register x m =
        member-elim x o (registers slot) (λ q. q) (λ k. absurd (lanes-none at-slot.lanes at-slot.fits x (subst (λ os. Member x (registers os)) at-slot.is k))) (subst (λ os. Member x (registers os)) are m)

    slot-named : AreNamed f i.operands
    slot-named = named-by (λ x m u.
        let d = (met t f i e known shaped.operands).0 in
        let all = (fit t f i e known shaped.operands has-roles).implicit in
        fixed-of x.loc (first_of_both (not (is_virtual x.loc)) (not (is_silent d.effect)) (all-of (λ (x : RegOp). not (is_virtual x.loc) && not (is_silent d.effect)) x (implicit_registers i.operands) (filter-in (λ (x : RegOp). x.implicit) x (registers i.operands) m u) all)))

    slot-stays : is_own s o ≡ false → Kept (becomes (i ∷ []))
    slot-stays own = stays e known moves single slot-named (λ x m. ap (is_own s) (one-register x m) ∙ own)

    slot-are : i.operands ≡ operands.Reg o ∷ operands.Stack at-slot.number ∷ at-slot.lanes ∷ []
    slot-are = are ∙ ap (λ q. operands.Reg o ∷ q) at-slot.is

    abbrev OwnPart : Bool
    OwnPart = nat_eq at-slot.number s.slot && same_numbers (slot_lane_numbers s.target (operand_widths s.target s.func o) at-slot.lanes) (own_lanes s o.index)

    same-slot : OwnPart ≡ true → at-slot.number ≡ s.slot
    same-slot q = eqb-true at-slot.number s.slot (first_of_both (nat_eq at-slot.number s.slot) _ q)

    same-lanes : is_own s o ≡ true → OwnPart ≡ true → slot_lane_numbers s.target (map (width s) (own_lanes s o.index)) at-slot.lanes ≡ own_lanes s o.index
    same-lanes own q =
        ap (λ ws. slot_lane_numbers t ws at-slot.lanes) (sym (own-widths-are s o own))
        ∙ same-list (slot_lane_numbers t (operand_widths t f o) at-slot.lanes) (own_lanes s o.index) (second_of_both (nat_eq at-slot.number s.slot) _ q)

  -- what is stored isn't `undef`
  stored-plain : (o : RegOp) (slot : List Operand) → effect_of t i ≡ Some effects.Spill → i.operands ≡ operands.Reg o ∷ slot → is_own s o ≡ true → o.undef ≡ false
  stored-plain o slot known are own = go o.undef refl
    where
      used : is_use o ≡ true
      used = by (spill-takes t f i shaped.operands known)
        where
          of-role : (q : Role) → is_use_role q ≡ true → fits_role q (operands.Reg o) ≡ true → is_use o ≡ true
          of-role (roles.Read k) h w = w
          of-role (roles.Tied k m) h w = w
          of-role q h w = absurd (cc)

          by : TakeAll (is_use_role ∷ is_slot_role ∷ is_lanes ∷ []) i.operands → is_use o ≡ true
          by a = let w = subst (TakeAll (is_use_role ∷ is_slot_role ∷ is_lanes ∷ [])) are a in of-role w.0.0 w.0.1 w.0.2

      among : Member (operands.Reg o) (explicit_operands i.operands)
      among = filter-in (λ x. not (is_implicit_operand x)) (operands.Reg o) i.operands (subst (Member (operands.Reg o)) (sym are) first) (second_of_both (not o.def) (not o.implicit) used)

      go : (u : Bool) → o.undef ≡ u → o.undef ≡ false
      go false u = u
      go true u =
          let q = some-role (explicit_roles (roles_of t i)) (explicit_operands i.operands) (operands.Reg o) among in
          let m = left-in (q.0, operands.Reg o) (explicit_bound (explicit_roles (roles_of t i)) (explicit_operands i.operands)) (map (implicit_bound (implicit_roles (roles_of t i))) (implicit_registers i.operands)) q.1 in
          absurd (by q.0 (option_and_then tied_number q.0) refl q.1 m)
        where
          by : (q : Option Role) (a : Option ℕ) → option_and_then tied_number q ≡ a → Member (q, operands.Reg o) (explicit_bound (explicit_roles (roles_of t i)) (explicit_operands i.operands)) → Member (q, operands.Reg o) (bound t i) → ⊥
          by q None e x m =
              let v = range-virtual s.range o.loc own in
              let w : is_free_undef (q, operands.Reg o) ≡ true = λ k. not (not-true o.def (first_of_both (not o.def) (not o.implicit) used) k) && u k && is_none (e k) in
              let a = z.undefs b i z.block inside q o m w in
              let y : is_virtual o.loc ≡ true = ap is_virtual v.1 in
              cc
          by q (Some a) e x m =
              let w = role-tied q a e in
              let v = tied-role w.0 a (subst (λ y. option_and_then tied_number y ≡ Some a) w.1 e) in
              let role = (filter-of (λ (y : Role). not (is_implicit y)) w.0 (roles_of t i) (bound-role (explicit_roles (roles_of t i)) (explicit_operands i.operands) w.0 (operands.Reg o) (subst (λ y. Member (y, operands.Reg o) (explicit_bound (explicit_roles (roles_of t i)) (explicit_operands i.operands))) w.1 x))).0 in
              let fits = fit-roles t f i effects.Spill known refl shaped.operands in
              let leads = role-leads t effects.Spill (roles_of t i) fits refl v.0 a (subst (λ y. Member y (roles_of t i)) v.1 role) in
              use-first (roles_of t i) leads.0 a (is_slot_role ∷ is_lanes ∷ []) (known-shape t effects.Spill (roles_of t i) (is_use_role ∷ is_slot_role ∷ is_lanes ∷ []) refl fits) leads.1

  storing : (o : RegOp) (slot : List Operand) (are : i.operands ≡ operands.Reg o ∷ slot) → effect_of t i ≡ Some effects.Spill → (u : IsSlot slot) → Stands (slot_change s n r i o slot (λ own other. through_tiny s n r i (moving_class s o.index) own other))
  storing o slot are known u = subst (λ q. Stands (slot_change s n r i o q (λ own other. through_tiny s n r i (moving_class s o.index) own other))) (sym u.is) (go (is_own s o) refl (OwnPart o slot are effects.Spill known refl refl refl tt u) refl)
    where
      go : (x : Bool) → is_own s o ≡ x → (y : Bool) → (nat_eq u.number s.slot && same_numbers (slot_lane_numbers s.target (operand_widths s.target s.func o) u.lanes) (own_lanes s o.index)) ≡ y
          → Stands (cond x (cond y (becomes []) (through_tiny s n r i (moving_class s o.index) (in_own_slot s o.index) (operands.Stack u.number ∷ u.lanes ∷ []))) (becomes (i ∷ [])))
      go false own y q has = slot-stays o slot are effects.Spill known refl refl refl tt u own
      go true own true q has =
          stored-own-kept s z.setting b c i p at phi o u.number u.lanes (slot-are o slot are effects.Spill known refl refl refl tt u) own known (stored-plain o slot known are own)
          (same-slot o slot are effects.Spill known refl refl refl tt u q) (same-lanes o slot are effects.Spill known refl refl refl tt u own q) live-wide
      go true own false q has =
          stored-on-kept s z.setting b c i p at phi o u.number u.lanes (slot-are o slot are effects.Spill known refl refl refl tt u) own known (stored-plain o slot known are own)
          r (n + 0) z.further (ap (class_of g) (nothing r) ∙ has 0 (moving_class s o.index) refl) live-wide

  reloading : (o : RegOp) (slot : List Operand) (are : i.operands ≡ operands.Reg o ∷ slot) → effect_of t i ≡ Some effects.Reload → (u : IsSlot slot) → Stands (slot_change s n r i o slot (λ own other. through_tiny s n r i (moving_class s o.index) other own))
  reloading o slot are known u = subst (λ q. Stands (slot_change s n r i o q (λ own other. through_tiny s n r i (moving_class s o.index) other own))) (sym u.is) (go (is_own s o) refl (OwnPart o slot are effects.Reload known refl refl refl tt u) refl)
    where
      go : (x : Bool) → is_own s o ≡ x → (y : Bool) → (nat_eq u.number s.slot && same_numbers (slot_lane_numbers s.target (operand_widths s.target s.func o) u.lanes) (own_lanes s o.index)) ≡ y
          → Stands (cond x (cond y (becomes []) (through_tiny s n r i (moving_class s o.index) (operands.Stack u.number ∷ u.lanes ∷ []) (in_own_slot s o.index))) (becomes (i ∷ [])))
      go false own y q has = slot-stays o slot are effects.Reload known refl refl refl tt u own
      go true own true q has =
          reloaded-own-kept s z.setting b c i p at phi o u.number u.lanes (slot-are o slot are effects.Reload known refl refl refl tt u) own known
          (same-slot o slot are effects.Reload known refl refl refl tt u q) (same-lanes o slot are effects.Reload known refl refl refl tt u own q)
      go true own false q has =
          reloaded-on-kept s z.setting b c i p at phi o u.number u.lanes (slot-are o slot are effects.Reload known refl refl refl tt u) own known
          r (n + 0) z.further (ap (class_of g) (nothing r) ∙ has 0 (moving_class s o.index) refl)

  of-spill : (os : List Operand) → effect_of t i ≡ Some effects.Spill → i.operands ≡ os → ((x : Operand) (xs : List Operand) → os ≡ x ∷ xs → (o : RegOp) × (x ≡ operands.Reg o)) → (os ≡ [] → ⊥) → Stands (effect_change s n r i (Some effects.Spill) os)
  of-spill [] known are h none = absurd (none refl)
  of-spill (operands.Reg o ∷ slot) known are h none = storing o slot are known (spill-slot t f i o slot shaped.operands known are)
  of-spill (x ∷ slot) known are h none = absurd (let y = (h x slot refl).1 in cc)

  of-reload : (os : List Operand) → effect_of t i ≡ Some effects.Reload → i.operands ≡ os → ((x : Operand) (xs : List Operand) → os ≡ x ∷ xs → (o : RegOp) × (x ≡ operands.Reg o)) → (os ≡ [] → ⊥) → Stands (effect_change s n r i (Some effects.Reload) os)
  of-reload [] known are h none = absurd (none refl)
  of-reload (operands.Reg o ∷ slot) known are h none = reloading o slot are known (reload-slot t f i o slot shaped.operands known are)
  of-reload (x ∷ slot) known are h none = absurd (let y = (h x slot refl).1 in cc)

  -- IMPLICIT_DEF

  of-undefined : (os : List Operand) → effect_of t i ≡ Some effects.ImplicitDef → i.operands ≡ os → implicit_def_fits os ≡ true → Stands (effect_change s n r i (Some effects.ImplicitDef) os)
  of-undefined (operands.Reg o ∷ []) known are fits = go (is_own s o) refl (is_live_behind s i o.index) refl
    where
      one : (x : RegOp) → Member x (registers i.operands) → x ≡ o
      one x m = member-elim x o [] (λ q. q) (λ k. absurd (member-none x k)) (subst (λ os. Member x (registers os)) are m)

      named : AreNamed f i.operands
      named = named-by (λ x m u. absurd (let a = not-true o.implicit (second_of_both o.def (not o.implicit) fits) in let w = ap (λ (y : RegOp). y.implicit) (one x m) in cc))

      go : (x : Bool) → is_own s o ≡ x → (y : Bool) → is_live_behind s i o.index ≡ y
          → Stands (cond (not x) (becomes (i ∷ [])) (cond y (becomes (in_place_of i (store s.target (part_class s.target o.index (own_class s)) (undef_use s.target (part_class s.target o.index (own_class s))) (in_own_slot s o.index)) ∷ [])) (becomes [])))
      go false own y e has = stays effects.ImplicitDef known tt refl named (λ x m. ap (is_own s) (one x m) ∙ own)
      go true own true e has = undefined-stored s z.setting b c i p at phi o known are own
      go true own false e has = undefined-dropped s z.setting b c i p at phi o known are own e
  of-undefined os known are fits = absurd (cc)

  -- any other

  gets : does is_placed t i ≡ true → Has (place_change s r (i ∷ [])) → GetsTinies s (spilled s) b c (i ∷ []) p r
  gets placed has = record {
    setting = z.setting;
    blocks = z.blocks;
    block = z.block;
    place = z.place;
    tinies = record {
      keeps = z.setting.keeps;
      classes = z.setting.classes;
      further = z.further;
      shaped = λ j m. z.setting.shaped b j z.block (place-in s b (i ∷ []) z.place j m);
      placed = λ j m. member-elim j i [] (λ e. ap (does is_placed t) e ∙ placed) (λ k. absurd (member-none j k)) m;
      lowered = λ j m. z.setting.lowered b j z.block (place-in s b (i ∷ []) z.place j m);
      once = z.once;
      tinies = has;
    };
    undefs = z.undefs;
    at = z.at;
  }

  constant-place : does is_constant t i ≡ true → GetsTinies s (spilled s) b c (i ∷ []) p r → Kept (place_change s r (i ∷ []))
  constant-place constant gt = go (constant-operands t f i shaped.operands constant)
    where
      effect-of : (q : Option Effect) → effect_of t i ≡ q → passes is_constant q ≡ true → (e : Effect) × (effect_of t i ≡ Some e) × (is_constant e ≡ true)
      effect-of None e h = absurd (cc)
      effect-of (Some x) e h = (x, e, h)

      go : ConstantOperands i.operands → Kept (place_change s r (i ∷ []))
      go parts = by (is_own s parts.definition) refl
        where
          by : (y : Bool) → is_own s parts.definition ≡ y → Kept (place_change s r (i ∷ []))
          by true own = constant-kept s b c i p r gt constant parts own phi n
          by false own =
              let strange : (o : RegOp) → Member o (registers i.operands) → is_own s o ≡ false =
              λ o m. member-elim o parts.definition (registers (parts.operand ∷ [])) (λ e. ap (is_own s) e ∙ own) (λ k. absurd (none-other parts.operand parts.always o k)) (subst (λ os. Member o (registers os)) parts.are m) in
              let x = effect-of (effect_of t i) refl constant in
              let v = rolled s g r (i ∷ []) gt.tinies i first in
              let single = sym (ap (passes puts_together) x.1) ∙ (ap (passes puts_together) v.known ∙ no-parts v.effect v.rolled) in
              subst Kept (sym (strange_places s r i strange)) (stays x.0 x.1 (constant-moves x.0 x.2) single
              (named-by (λ o m u.
              let d = (met t f i v.effect v.known shaped.operands).0 in
              let all = (fit t f i v.effect v.known shaped.operands v.rolled).implicit in
              fixed-of o.loc (first_of_both (not (is_virtual o.loc)) (not (is_silent d.effect)) (all-of (λ (x : RegOp). not (is_virtual x.loc) && not (is_silent d.effect)) o (implicit_registers i.operands) (filter-in (λ (x : RegOp). x.implicit) o (registers i.operands) m u) all))))
              strange)

  going-on : does is_terminator t i ≡ false → GetsTinies s (spilled s) b c (i ∷ []) p r → Kept (place_change s r (i ∷ []))
  going-on goes gt = go (does is_silent t i) refl
    where
      go : (y : Bool) → does is_silent t i ≡ y → Kept (place_change s r (i ∷ []))
      go false e = counted-kept s b c i p r gt goes e n
      go true e = let v = rolled s g r (i ∷ []) gt.tinies i first in constant-place (ap (passes is_constant) v.known ∙ constant-by v.effect v.rolled v.unspilled (sym (ap (passes is_silent) v.known) ∙ e)) gt

  of-other : does is_placed t i ≡ true → Stands (cond (is_needless s i) (becomes []) (place_change s r (i ∷ [])))
  of-other placed = go (is_needless s i) refl
    where
      part : {is : List Instr} → IsPart s is → is ≡ i ∷ [] → GetsTinies s (spilled s) b c (i ∷ []) p r → Kept (place_change s r (i ∷ []))
      part (alone {i = j} e) same gt = going-on (subst (λ x. does is_terminator t x ≡ false) (head j i same) e) gt
        where
          head : (x y : Instr) → x ∷ [] ≡ y ∷ [] → x ≡ y
          head x y e = cc
      part (ends e) same gt = terminators-kept s b c (i ∷ []) p r gt (λ j m. e j (subst (Member j) (sym same) m)) n

      go : (y : Bool) → is_needless s i ≡ y → Stands (cond y (becomes []) (place_change s r (i ∷ [])))
      go true e has = needless-kept s z.setting b c i p at phi e inside
      go false e has = part z.part refl (gets placed has)

  taken : (os : List Operand) (test : Role → Bool) (tests : List (Role → Bool)) → ((q : Role) (x : Operand) → test q ≡ true → fits_role q x ≡ true → (o : RegOp) × (x ≡ operands.Reg o)) → TakeAll (test ∷ tests) os → (x : Operand) (xs : List Operand) → os ≡ x ∷ xs → (o : RegOp) × (x ≡ operands.Reg o)
  taken [] test tests h a x xs e = absurd a
  taken (y ∷ ys) test tests h a x xs e = subst (λ w. (o : RegOp) × (w ≡ operands.Reg o)) (same-head y x ys xs e) (h a.0.0 y a.0.1 a.0.2)
    where
      same-head : (y x : Operand) (ys xs : List Operand) → y ∷ ys ≡ x ∷ xs → y ≡ x
      same-head y x ys xs e = cc

  some-taken : (os : List Operand) (test : Role → Bool) (tests : List (Role → Bool)) → TakeAll (test ∷ tests) os → os ≡ [] → ⊥
  some-taken [] test tests a e = a
  some-taken (y ∷ ys) test tests a e = cc

  pub effect-kept : PlaceKept s.target s.func (spilled s) s.range s.slot (is-wide s) (is-stored s) b c (i ∷ []) (numbered-by n (change s n r (i ∷ []))) p
  effect-kept = go (effect_of t i) refl (z.opcodes i first) z.tinies
    where
      go : (q : Option Effect) → effect_of t i ≡ q → passes (λ e. not (is_lowered_away e)) q ≡ true → Stands (effect_change s n r i q i.operands)
      go None e h = absurd (cc)
      go (Some effects.Copy) e h = of-copy i.operands e refl (met s.target s.func i effects.Copy e shaped.operands).3
      go (Some effects.Spill) e h = let a = spill-takes s.target s.func i shaped.operands e in of-spill i.operands e refl (taken i.operands is_use_role (is_slot_role ∷ is_lanes ∷ []) use-register a) (some-taken i.operands is_use_role (is_slot_role ∷ is_lanes ∷ []) a)
      go (Some effects.Reload) e h = let a = reload-takes s.target s.func i shaped.operands e in of-reload i.operands e refl (taken i.operands is_definition_role (is_slot_role ∷ is_lanes ∷ []) definition-register a) (some-taken i.operands is_definition_role (is_slot_role ∷ is_lanes ∷ []) a)
      go (Some effects.ImplicitDef) e h = of-undefined i.operands e refl (met s.target s.func i effects.ImplicitDef e shaped.operands).3
      go (Some effects.Phi) e h = absurd (cc)
      go (Some effects.RegSequence) e h = absurd (cc)
      go (Some effects.InsertSubreg) e h = absurd (cc)
      go (Some x) e h = of-other (ap (passes is_placed) e)
