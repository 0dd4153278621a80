-- An instruction that is no terminator stands with its tinies.
use Rattle.std.proofs.Common.{◌≡◌, ◌∷◌, ◌∙◌, ◌&&◌, not, ℕ, Bool, true, false, refl, sym, ap, subst, []}
use Rattle.target_base.specs.declared.types.Effect.{Effect}
use Rattle.target_base.specs.declared.types.Effect.TheVariants as effects
use Rattle.target_base.specs.declared.types.Target.{Target}
use Rattle.target_base.specs.Roles.{is_silent}
use Rattle.target_base.proofs.Tests.{first_of_both}
use Rattle.meaning.specs.Code.{Code}
use Rattle.meaning.specs.Live.{Among as Member, here as first}
use Rattle.mir_func.specs.declared.func.RegOp.{RegOp}
use Rattle.mir_func.specs.declared.func.Operand.{Operand}
use Rattle.mir_func.specs.declared.func.Operand.TheVariants as operands
use Rattle.mir_func.specs.declared.func.Instr.{Instr}
use Rattle.mir_func.specs.declared.func.Block.{Block}
use Rattle.mir_func.specs.Value.{Function}
use Rattle.mir_func.specs.Binding.{does, implicit_registers, is_terminator, is_virtual, passes, puts_together, registers}
use Rattle.mir_meaning.specs.Codes.{item_of}
use Rattle.mir_meaning.specs.Rules.{spills_or_reloads}
use Rattle.instr_effects.proofs.Members.{filter-in, member-elim, member-none}
use Rattle.live_laws.proofs.Effects.Lists.{all-of}
use Rattle.live_laws.proofs.Effects.Shapes.{class-there}
use Rattle.live_laws.proofs.Touch.Roles.{fit, has_roles, met}
use Rattle.lowering_laws.proofs.Classes.{AreNamed}
use Rattle.spiller.specs.Setting.{Spilling, is_own}
use Rattle.spiller.specs.Rematerialised.{is_constant}
use Rattle.spiller.specs.Spilled.{place_change}
use Rattle.spill_laws.specs.Standing.{ChangeStands, PlaceStands}
use Rattle.spill_laws.specs.TinyPlaces.{GetsTinies, TinyPlacesStand}
use Rattle.spill_laws.proofs.Bystanders.{bystanders_stand}
use Rattle.spill_laws.proofs.ConstantPlaces.{constant-stands}
use Rattle.spill_laws.proofs.Constants.{AlwaysConstant, ConstantOperands, constant-operands}
use Rattle.spill_laws.proofs.CountedPlaces.{counted-stands, fixed-of, no-parts}
use Rattle.spill_laws.proofs.ItemsStay.{item-stays}
use Rattle.spill_laws.proofs.StrangePlaces.{strange_places}
use Rattle.spill_laws.proofs.Strangers.{strangers_pass}
use Rattle.spill_laws.proofs.TinyRules.{rolled}

constant-by : (e : Effect) → has_roles e ≡ true → spills_or_reloads e ≡ false → is_silent e ≡ true → is_constant e ≡ true
constant-by effects.Const r u s = refl
constant-by effects.Addr r u s = refl
constant-by effects.Copy r u s = absurd (cc)
constant-by effects.Phi r u s = absurd (cc)
constant-by effects.ImplicitDef r u s = absurd (cc)
constant-by effects.RegSequence r u s = absurd (cc)
constant-by effects.InsertSubreg r u s = absurd (cc)
constant-by effects.Spill r u s = absurd (cc)
constant-by effects.Reload r u s = absurd (cc)
constant-by e r u s = absurd (cc)

none-other : (y : Operand) → AlwaysConstant y → (o : RegOp) → Member o (registers (y ∷ [])) → ⊥
none-other (operands.Reg x) a o m = let u = (a 0).1 in cc
none-other (operands.Imm x) a o m = member-none o m
none-other (operands.Block x) a o m = member-none o m
none-other (operands.Stack x) a o m = member-none o m
none-other (operands.FixedStack x) a o m = member-none o m
none-other (operands.Symbol x) a o m = member-none o m
none-other (operands.Index x) a o m = member-none o m
none-other (operands.Mask x) a o m = member-none o m

module _ (s : Spilling) (g : Function) (b c : Block) (i : Instr) (p : Code) (n : ℕ) (gt : GetsTinies s g b c (i ∷ []) p n) where
  abbrev t : Target
  t = s.target

  named : AreNamed s.func i.operands
  named o m =
      let r = rolled s g n (i ∷ []) gt.tinies i first in
      let rule = (gt.tinies.shaped i first).operands in
      let d = (met t s.func i r.effect r.known rule).0 in
      let all = (fit t s.func i r.effect r.known rule r.rolled).implicit in
      record {
        class = class-there t s.func i (gt.tinies.shaped i first) o m;
        fixed = λ u. fixed-of o.loc (first_of_both (not (is_virtual o.loc)) (not (is_silent d.effect)) (all-of (λ (x : RegOp). not (is_virtual x.loc) && not (is_silent d.effect)) o (implicit_registers i.operands) (filter-in (λ (x : RegOp). x.implicit) o (registers i.operands) m u) all));
      }

  single : does puts_together t i ≡ false
  single = let r = rolled s g n (i ∷ []) gt.tinies i first in ap (passes puts_together) r.known ∙ no-parts r.effect r.rolled

  strange-stands : ((o : RegOp) → Member o (registers i.operands) → is_own s o ≡ false) → ChangeStands s g b c i p (place_change s n (i ∷ []))
  strange-stands strange =
      subst (ChangeStands s g b c i p) (sym (strange_places s n i strange))
      (subst (λ y. PlaceStands s (item_of t s.func b i ∷ []) (y ∷ []) p) (sym (item-stays s g b c gt.tinies.keeps gt.blocks i single named))
      (bystanders_stand s (item_of t s.func b i) p (strangers_pass s b i p single named strange gt.at.1 gt.at.0)))

  constant-place : does is_constant t i ≡ true → ChangeStands s g b c i p (place_change s n (i ∷ []))
  constant-place constant = go (constant-operands t s.func i (gt.tinies.shaped i first).operands constant)
    where
      go : ConstantOperands i.operands → ChangeStands s g b c i p (place_change s n (i ∷ []))
      go parts = by (is_own s parts.definition) refl
        where
          by : (y : Bool) → is_own s parts.definition ≡ y → ChangeStands s g b c i p (place_change s n (i ∷ []))
          by true own = constant-stands s g b c i p n gt constant parts own
          by false own = strange-stands (λ o m. member-elim o parts.definition (registers (parts.operand ∷ [])) (λ e. ap (is_own s) e ∙ own) (λ k. absurd (none-other parts.operand parts.always o k)) (subst (λ os. Member o (registers os)) parts.are m))

  stands : does is_terminator t i ≡ false → ChangeStands s g b c i p (place_change s n (i ∷ []))
  stands goes = go (does is_silent t i) refl
    where
      go : (y : Bool) → does is_silent t i ≡ y → ChangeStands s g b c i p (place_change s n (i ∷ []))
      go false e = counted-stands s g b c i p n gt goes e
      go true e = let r = rolled s g n (i ∷ []) gt.tinies i first in constant-place (ap (passes is_constant) r.known ∙ constant-by r.effect r.rolled r.unspilled (sym (ap (passes is_silent) r.known) ∙ e))

pub tiny_places_stand : TinyPlacesStand
tiny_places_stand s g b c i p n gt goes = stands s g b c i p n gt goes
