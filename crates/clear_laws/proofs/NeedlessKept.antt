-- A constant or an address that isn't needed any more goes.
use Rattle.std.proofs.Common.{◌≡◌, ◌<◌, ◌∷◌, ◌∙◌, ◌&&◌, ℕ, Bool, true, false, List, length, refl, sym, ap, subst, arith, eq-eqb, []}
use Rattle.std.proofs.lemmas.Bool.{ltb-true}
use Rattle.std.specs.Prelude.{filter, nat_lt}
use Rattle.std.specs.List.{list_all, list_any}
use Rattle.target_base.specs.declared.types.Target.{Target}
use Rattle.target_base.specs.Rules.{is_phi}
use Rattle.target_base.proofs.Tests.{first_of_both, second_of_both}
use Rattle.meaning.specs.Code.{Code, Silent}
use Rattle.meaning.specs.Lanes.{Writes}
use Rattle.meaning.specs.Live.{Among as Member, Writing, here as first}
use Rattle.meaning.specs.declared.types.Lane.TheVariants.{VirtualLane}
use Rattle.meaning.specs.declared.types.Write.{Write}
use Rattle.mir_func.specs.declared.func.Instr.{Instr}
use Rattle.mir_func.specs.declared.func.Block.{Block}
use Rattle.mir_func.specs.Value.{Function}
use Rattle.mir_func.specs.Binding.{does, effect_of, is_early_clobber, passes, registers, roles_of}
use Rattle.mir_meaning.specs.Codes.{item_of}
use Rattle.mir_meaning.specs.Items.{moved}
use Rattle.mir_meaning.specs.Points.{AtFirst, from_instr}
use Rattle.mir_meaning.specs.Registers.{located_lanes, located_widths}
use Rattle.instr_effects.proofs.Members.{filter-of, map-of}
use Rattle.live_laws.proofs.Touch.Cells.{any-of}
use Rattle.live_laws.proofs.Effects.Shapes.{class-there}
use Rattle.lowering_laws.specs.Form.{is_undef_definition}
use Rattle.lowering_laws.proofs.Traced.{is_lane_of}
use Rattle.spiller.specs.Reaching.{Brings}
use Rattle.spiller.specs.Rematerialised.{Reading, all_readings, is_constant, is_needless, is_rematerialised, reaches}
use Rattle.spiller.specs.Setting.{Spilling, is_own, own_lanes}
use Rattle.spiller.specs.Spilled.{spilled}
use Rattle.spill_laws.specs.Standing.{IsAt, IsSetting, IsSite, code_before}
use Rattle.spill_laws.proofs.Constants.{ConstantOperands, const_sources, constant-item, constant-operands, given-is}
use Rattle.spill_laws.proofs.CopyPlaces.{none-of}
use Rattle.spill_laws.proofs.SlotWrites.{moved-lane}
use Rattle.spill_laws.proofs.SpillItems.{other-beside, own-lanes-are}
use Rattle.spill_laws.proofs.TinyApart.{none-before}
use Rattle.clear_laws.proofs.GoneForms.{gone-goes}
use Rattle.clear_laws.proofs.MovePlaces.{goes-kept}
use Rattle.clear_laws.proofs.SilentForms.{beside-fine, not-fine}
use Rattle.clear_laws.proofs.SilentPlaces.{KeptAs}

module _ (s : Spilling) (z : IsSetting s (spilled s)) (b c : Block) (i : Instr) (p : Code) (at : IsAt s b i p) (phi : passes is_phi (effect_of s.target i) ≡ false) (needless : is_needless s i ≡ true) (inside : Member i b.instrs) where
  abbrev t : Target
  t = s.target

  abbrev f : Function
  f = s.func

  -- a definition of the range reaches a reading, and the instruction is one
  defines-range : (k : ℕ) × Writing (item_of s.target s.func b i) (VirtualLane s.range k)
  defines-range =
      let rs = filter (reaches s i) (all_readings s) in
      let some = ltb-true 0 (length rs) (second_of_both (does is_constant s.target i) (nat_lt 0 (length rs)) (first_of_both (does is_constant s.target i && nat_lt 0 (length rs)) (list_all (is_rematerialised s) rs) needless)) in
      of rs some (λ r m. (filter-of (reaches s i) r (all_readings s) m).1)
    where
      of : (rs : List Reading) → 0 < length rs → ((r : Reading) → Member r rs → reaches s i r ≡ true) → (k : ℕ) × Writing (item_of s.target s.func b i) (VirtualLane s.range k)
      of [] h t = absurd (omega (arith, h))
      of (r ∷ rs) h t =
          let x = any-of (λ j. list_any (λ k. s.facts.reaches i.id k j.id) r.lanes) r.by (t r first) in
          let y = any-of (λ k. s.facts.reaches i.id k x.0.id) r.lanes x.2 in
          let w = (z.facts.reach (i.id, y.0, x.0.id)).0 y.2 in
          (y.0, (subst (AtFirst (λ j q. Brings (code_before s) (VirtualLane s.range y.0) j q (from_instr s.target s.func x.0.id s.func.blocks))) at.site.from w.0).0)

  constant : does is_constant s.target i ≡ true
  constant =
      let rs = filter (reaches s i) (all_readings s) in
      first_of_both (does is_constant s.target i) (nat_lt 0 (length rs)) (first_of_both (does is_constant s.target i && nat_lt 0 (length rs)) (list_all (is_rematerialised s) rs) needless)

  abbrev parts : ConstantOperands i.operands
  parts = constant-operands s.target s.func i at.shaped.operands constant

  there : Member (constant-operands s.target s.func i at.shaped.operands constant).definition (registers i.operands)
  there = subst (λ os. Member parts.definition (registers os)) (sym parts.are) first

  abbrev ws : Writes
  ws = moved (is_early_clobber (roles_of s.target i)) (located_lanes s.target s.func (constant-operands s.target s.func i at.shaped.operands constant).definition.loc (constant-operands s.target s.func i at.shaped.operands constant).definition.index)
      (const_sources (constant-operands s.target s.func i at.shaped.operands constant).operand (located_widths s.target s.func (constant-operands s.target s.func i at.shaped.operands constant).definition.loc (constant-operands s.target s.func i at.shaped.operands constant).definition.index))

  before-is : item_of s.target s.func b i ≡ Silent [] ws
  before-is = constant-item t f b i constant ∙ ap (λ us. Silent [] us) (given-is t f (is_early_clobber (roles_of t i)) i.operands parts.definition parts.operand parts.are (none-of is_undef_definition parts.definition (registers i.operands) (none-before t i at.lowered) there))

  own : is_own s (constant-operands s.target s.func i at.shaped.operands constant).definition ≡ true
  own = go (is_own s parts.definition) refl
    where
      go : (y : Bool) → is_own s (constant-operands s.target s.func i at.shaped.operands constant).definition ≡ y → is_own s (constant-operands s.target s.func i at.shaped.operands constant).definition ≡ true
      go true e = e
      go false e =
          let x = defines-range in
          let w = subst (λ y. Writing y (VirtualLane s.range x.0)) before-is x.1 in
          let m = moved-lane (is_early_clobber (roles_of t i)) (located_lanes t f parts.definition.loc parts.definition.index) (const_sources parts.operand (located_widths t f parts.definition.loc parts.definition.index)) w.0 w.1 in
          absurd (not-fine s w.0.lane x.0 w.2 (beside-fine s w.0.lane (other-beside s parts.definition.loc parts.definition.index e (class-there t f i at.shaped parts.definition there) w.0.lane m)))

  only : (w : Write) → Member w ws → is_lane_of s.range w.lane ≡ true
  only w m =
      let inside = moved-lane (is_early_clobber (roles_of t i)) (located_lanes t f parts.definition.loc parts.definition.index) (const_sources parts.operand (located_widths t f parts.definition.loc parts.definition.index)) w m in
      let y = map-of (VirtualLane s.range) w.lane (own_lanes s parts.definition.index) (subst (Member w.lane) (own-lanes-are s parts.definition own) inside) in
      ap (is_lane_of s.range) y.2 ∙ eq-eqb s.range s.range refl

  site : IsSite s i.id (Silent [] ws) p
  site = subst (λ u. IsSite s i.id u p) before-is at.site

  pub needless-kept : KeptAs s z b c i p at phi []
  needless-kept = goes-kept s z b c i p at phi (Silent [] ws) before-is (gone-goes s i.id ws p site only (record { block = b; instr = i; there = at.block; inside = inside; named = refl; needless = needless }))
