-- A function whose ranges stand in registers without clashes is valid in physical form.
use Rattle.std.proofs.Common.{◌&&◌, ◌≡◌, ◌∙◌, ℕ, Bool, true, false, not, List, [], ◌∷◌, Option, None, Some, refl, sym, ap, length, take}
use Rattle.std.specs.List.{list_all, list_any}
use Rattle.std.specs.Prelude.{option_map, slice_get}
use Rattle.target_base.specs.declared.types.ClassId.{ClassId}
use Rattle.target_base.specs.declared.types.Effect.{Effect}
use Rattle.target_base.specs.declared.types.OpcodeDesc.{OpcodeDesc}
use Rattle.target_base.specs.declared.types.Target.{Target}
use Rattle.meaning.specs.Live.{Among as Member}
use Rattle.mir_func.specs.declared.func.Instr.{Instr}
use Rattle.mir_func.specs.declared.func.Block.{Block}
use Rattle.mir_func.specs.Value.{Function}
use Rattle.mir_func.specs.Binding.{does, effect_of, is_lowered_away, known_opcode, registers, tied_pairs}
use Rattle.mir_meaning.specs.declared.Form.TheVariants as forms
use Rattle.mir_meaning.specs.Rules.{V7}
use Rattle.mir_meaning.specs.Valid.{IsValid, V13_before}
use Rattle.live_laws.proofs.Effects.Blocks.{slice-member}
use Rattle.join_laws.proofs.Named.{known}
use Rattle.live_laws.proofs.Effects.Lists.{all-of}
use Rattle.lowering_laws.specs.Form.{is_lowered, is_undef_definition, is_undef_use, shares_register}
use Rattle.rewriter.specs.LiveUnits.{is_live_unit}
use Rattle.target_base.specs.Rules.{is_copy}
use Rattle.rewriter.specs.Physical.{Assignment, physical_form}
use Rattle.slot_laws.proofs.Ruled.{AllRules, InstrRules, shape-none}
use Rattle.valid_laws.specs.Rules.{HasTies, StandsClear, TellsUnits}
use Rattle.valid_laws.specs.Valid.{IsReady, ReadyStands, RewriteIsValid, RewrittenIsValid}
use Rattle.valid_laws.proofs.Blocks.{physical-blocks, physical-lowered, physical-terminators}
use Rattle.valid_laws.proofs.Classes.{physical-classes, physical-indexes, physical-names, physical-widths}
use Rattle.valid_laws.proofs.Definitions.{physical-definitions}
use Rattle.valid_laws.proofs.Fitting.{physical-operands}
use Rattle.valid_laws.proofs.Forms.{instr-of}
use Rattle.valid_laws.proofs.Liveins.{found-units-tell, physical-liveins}
use Rattle.valid_laws.proofs.Slots.{physical-slots}
use Rattle.valid_laws.proofs.Ties.{physical-ties}

take-whole : {X : Type 0} (xs : List X) → take (length xs) xs ≡ xs
take-whole [] = refl
take-whole (x ∷ xs) = ap (λ ys. x ∷ ys) (take-whole xs)

module _ (t : Target) (f : Function) (rs : Assignment) (slots : List (ℕ × ClassId)) (live : ℕ → ℕ → Bool) (stand : StandsClear t f rs) (ready : IsReady t f rs slots) (ties : HasTies t f) (tells : TellsUnits t f rs live) where
  abbrev g : Function
  g = physical_form t rs slots live f

  -- its opcodes are known

  described : (i : Instr) (e : Effect) → effect_of t i ≡ Some e → (d : OpcodeDesc) × (known_opcode t i.op ≡ Some d)
  described i e is = go (known_opcode t i.op) refl is
    where
      go : (q : Option OpcodeDesc) → known_opcode t i.op ≡ q → option_map (λ (d : OpcodeDesc). d.effect) q ≡ Some e → (d : OpcodeDesc) × (known_opcode t i.op ≡ Some d)
      go None h k = absurd (cc)
      go (Some d) h k = (d, h)

  opcode : (c : Block) (x : Instr) → Member c g.blocks → Member x c.instrs → (d : OpcodeDesc) × (known_opcode t x.op ≡ Some d)
  opcode c x mc mx =
      let z = instr-of t rs slots live f c x mc mx in
      let e = known t z.2.instr (stand.lowered.lowered z.0 z.2.instr z.1 z.2.inside) in
      let d = described z.2.instr e.0.0 e.0.1 in
      (d.0, ap (λ (y : Instr). known_opcode t y.op) z.2.is ∙ d.1)

  seven : (k : ℕ) (c : Block) (j : ℕ) (x : Instr) → does is_lowered_away t x ≡ false → V7 t forms.Allocated g k c j x ≡ true
  unfolding V7
  seven k c j x e = ap not e

  instr-rules : (k : ℕ) (c : Block) (j : ℕ) (x : Instr) → slice_get g.blocks k ≡ Some c → slice_get c.instrs j ≡ Some x → InstrRules t g k c j x
  instr-rules k c j x e h =
      let mc = slice-member g.blocks k c e in
      let mx = slice-member c.instrs j x h in
      record {
        known = opcode c x mc mx;
        one = physical-operands t f rs slots live stand c x mc mx;
        two = physical-widths t f rs slots live stand c x mc mx;
        three = physical-classes t f rs slots live stand c x mc mx;
        four = physical-indexes t f rs slots live stand c x mc mx;
        seven = seven k c j x (physical-lowered t f rs slots live stand c x mc mx);
        eight = physical-terminators t f rs slots live stand k c j x e h;
        eleven = physical-ties t f rs slots live stand ready.flags ties c x mc mx;
        twelve = physical-definitions t f rs slots live stand c x mc mx;
        fifteen = physical-slots t f rs slots live stand ready.frames c x mc mx;
      }

  all-rules : (k : ℕ) (c : Block) → slice_get g.blocks k ≡ Some c → AllRules t g k c
  all-rules k c e =
      let z = physical-blocks t f rs slots live stand ready.blocks k c e in
      record { block = record { five = z.five; six = z.six; nine = z.nine; ten = z.ten; sixteen = z.sixteen }; instrs = λ j x h. instr-rules k c j x e h }

  liveins-fit : V13_before t forms.Allocated g (length g.blocks)
  liveins-fit k c e = physical-liveins t f rs slots live stand ready.start tells k c (ap (λ bs. slice_get bs k) (sym (take-whole g.blocks)) ∙ e)

  pub valid : IsValid t forms.Allocated g
  valid = record { shape = shape-none t g all-rules; liveins = liveins-fit; starts = physical-names t f rs slots live stand }

-- lowered form of instructions

none-of : (a b c d : Bool) → (not a && not b && not c && d) ≡ true → (b ≡ false) × (c ≡ false) × (d ≡ true)
none-of false false false true e = (refl, refl, refl)
none-of false false false false e = absurd (cc)
none-of false false true d e = absurd (cc)
none-of false true c d e = absurd (cc)
none-of true b c d e = absurd (cc)

pub ready-stands : ReadyStands
ready-stands t f rs slots ready = (
  record { lowered = ready.lowered; plain = λ b i mb mi. let z = parts b i mb mi in (z.0, z.1); clear = ready.clear },
  (λ b i mb mi. (parts b i mb mi).2),
)
  where
    parts : (b : Block) (i : Instr) → Member b f.blocks → Member i b.instrs → (list_any is_undef_definition (registers i.operands) ≡ false) × ((does is_copy t i && list_any is_undef_use (registers i.operands)) ≡ false) × (list_all shares_register (tied_pairs t i) ≡ true)
    parts b i mb mi =
        none-of (does is_lowered_away t i) (list_any is_undef_definition (registers i.operands)) (does is_copy t i && list_any is_undef_use (registers i.operands)) (list_all shares_register (tied_pairs t i))
        (all-of (is_lowered t) i b.instrs mi (all-of (λ (c : Block). list_all (is_lowered t) c.instrs) b f.blocks mb ready.formed))

pub rewrite-is-valid : RewriteIsValid
rewrite-is-valid t f rs slots live ready tells = let z = ready-stands t f rs slots ready in valid t f rs slots live z.0 ready z.1 tells

pub rewritten-is-valid : RewrittenIsValid
rewritten-is-valid live rs slots computed few ready =
    rewrite-is-valid live.target live.func rs slots (is_live_unit live rs) ready
    (found-units-tell live rs computed (record { rules = ready.lowered.rules; last = ready.lowered.terminators }) few)
