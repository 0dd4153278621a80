-- A valid source that is writable stays so behind lowering.
use Rattle.std.proofs.Common.{◌≡◌, ◌<◌, ◌∙◌, Bool, true, not, Option, Some, None, length, refl}
use Rattle.std.specs.Prelude.{is_some, option_map}
use Rattle.target_base.specs.declared.types.Effect.{Effect}
use Rattle.target_base.specs.declared.types.OpcodeDesc.{OpcodeDesc}
use Rattle.target_base.specs.declared.types.Target.{Target}
use Rattle.meaning.specs.Live.{Among}
use Rattle.mir_func.specs.declared.func.Op.{Op}
use Rattle.mir_func.specs.declared.func.Block.{Block}
use Rattle.mir_func.specs.Binding.{is_lowered_away, known_opcode, passes}
use Rattle.mir_func.specs.Value.{Function}
use Rattle.phi_elim.specs.Phis.{phis_lowered}
use Rattle.two_address.specs.Lowered.{lowered, ties_lowered}
use Rattle.lowering_laws.specs.Shapes.{IsLowered}
use Rattle.lowering_laws.proofs.Names.{lowered_names}
use Rattle.lowering_laws.proofs.Ruled.{all-rules, each-rules}
use Rattle.lowering_laws.proofs.ShapesBehind.{lowered_operands}
use Rattle.lowering_laws.proofs.TieBlocks.{lowered_keep_block_rules}
use Rattle.lowering_laws.proofs.TieClasses.{lowered_classes}
use Rattle.writable_laws.specs.Laws.{LoweredStaysWritable, TiesStayWritable}
use Rattle.writable_laws.specs.Writable.{IsWritable}
use Rattle.writable_laws.proofs.PhisFit.{phi-frames, phi-head, phi-name, phis-begun, phis-fits}
use Rattle.writable_laws.proofs.Fitting.{BlockFits, fits-of}
use Rattle.writable_laws.proofs.TiesBlocks.{tied-begun, tied-blocks-fits}
use Rattle.writable_laws.proofs.Whole.{writable-behind}

module _ (t : Target) (f : Function) where
  pub ties-fits : ((b : Block) → Among b f.blocks → BlockFits t b) → (d : Block) → Among d (ties_lowered t f).blocks → BlockFits t d
  unfolding ties_lowered
  ties-fits w d m = tied-blocks-fits t f.classes 0 (length f.classes) f.blocks w d m

  pub ties-begun : 0 < length f.blocks → 0 < length (ties_lowered t f).blocks
  unfolding ties_lowered
  ties-begun h = tied-begun t f.classes 0 (length f.classes) f.blocks h

  pub tie-head : (ties_lowered t f).head ≡ f.head
  unfolding ties_lowered
  tie-head = refl

  pub tie-name : (ties_lowered t f).name ≡ f.name
  unfolding ties_lowered
  tie-name = refl

  pub tie-frames : (ties_lowered t f).frames ≡ f.frames
  unfolding ties_lowered
  tie-frames = refl

pub lowered_stays_writable : LoweredStaysWritable
lowered_stays_writable t f valid w few =
    let rules = each-rules t f (all-rules t f valid.shape) in
    let h = phis_lowered t f in
    writable-behind t f (lowered t f) w (tie-head t h ∙ phi-head t f) (tie-name t h ∙ phi-name t f) (tie-frames t h ∙ phi-frames t f) few (lowered_classes t f w.classes) (ties-begun t h (phis-begun t f rules w))
    (ties-fits t h (phis-fits t f rules w))
    (λ b i mb mi. lowered_operands t f valid w.classes b i mb mi)
    (λ b i mb mi. (lowered_names t f valid w.classes b i mb mi).0)
    (λ k b e. (lowered_keep_block_rules t f valid w.classes).nine k b e)

-- the blocks of a writable function in lowered form
pub lowered-fits : (t : Target) (f : Function) → IsLowered t f → IsWritable t f → (b : Block) → Among b f.blocks → BlockFits t b
lowered-fits t f low w b m = record {
  header = w.headers b m;
  instrs = λ i k. (let d = known (λ e. not (is_lowered_away e)) i.op (known_opcode t i.op) refl (low.lowered b i m k) in fits-of t f i d.0 d.1 (w.instrs b i m k));
}
  where
    known : (p : Effect → Bool) (o : Op) (q : Option OpcodeDesc) → known_opcode t o ≡ q → passes p (option_map (λ d. d.effect) q) ≡ true → (d : OpcodeDesc) × (known_opcode t o ≡ Some d)
    known p o None e h = absurd (cc)
    known p o (Some d) e h = (d, e)

pub ties_stay_writable : TiesStayWritable
ties_stay_writable t f known low w few =
    writable-behind t f (ties_lowered t f) w (tie-head t f) (tie-name t f) (tie-frames t f) few low.rules.classes low.function.nonempty
    (ties-fits t f (λ b m. record { header = w.headers b m; instrs = λ i k. (let d = there-is i.op (known_opcode t i.op) refl (known b i m k) in fits-of t f i d.0 d.1 (w.instrs b i m k)) }))
    (λ b i mb mi. (low.rules.shaped b i mb mi).operands)
    (λ b i mb mi. (low.rules.shaped b i mb mi).classes)
    (λ k b e. low.successors k b e)
  where
    there-is : (o : Op) (q : Option OpcodeDesc) → known_opcode t o ≡ q → is_some (option_map (λ (d : OpcodeDesc). d.effect) q) ≡ true → (d : OpcodeDesc) × (known_opcode t o ≡ Some d)
    there-is o None e h = absurd (cc)
    there-is o (Some d) e h = (d, e)
