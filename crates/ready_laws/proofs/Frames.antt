-- A run begins with frame objects of the prepared function alone; slot operands name the slots that were given, and no others do.
use Rattle.std.proofs.Common.{◌≡◌, ◌&&◌, ◌∙◌, ℕ, Bool, true, false, cond, List, [], ◌∷◌, map, refl, sym, ap, subst}
use Rattle.std.specs.Bool.{beq}
use Rattle.std.specs.List.{list_all}
use Rattle.target_base.specs.declared.types.ClassId.{ClassId}
use Rattle.target_base.specs.declared.types.Target.{Target}
use Rattle.meaning.specs.Live.{Among as Member}
use Rattle.mir_func.specs.declared.func.Operand.{Operand}
use Rattle.mir_func.specs.declared.func.Operand.TheVariants as operands
use Rattle.mir_func.specs.declared.func.Instr.{Instr}
use Rattle.mir_func.specs.declared.func.Block.{Block}
use Rattle.mir_func.specs.Value.{Function}
use Rattle.mir_func.specs.Binding.{does}
use Rattle.mir_meaning.specs.Points.{Point}
use Rattle.mir_meaning.specs.Registers.{has_number}
use Rattle.mir_meaning.specs.Renaming.{renamed_instr, renamed_operand}
use Rattle.mir_meaning.specs.Rules.{V15_frame, spills_or_reloads}
use Rattle.mir_func.specs.declared.func.RegOp.{RegOp}
use Rattle.live_laws.proofs.Effects.Lists.{all-of}
use Rattle.live_lanes.specs.declared.ask.labels.Mark.{Mark}
use Rattle.lowering_laws.proofs.Formed.{all-by}
use Rattle.spiller.specs.Slots.{Slots}
use Rattle.split_kit.specs.Split.{as_part, split_by}
use Rattle.valid_laws.specs.Rules.{is_given_slot, slot_effect_fits}
use Rattle.valid_laws.proofs.SlotEffects.{slots-by-effect}
use Rattle.ready_laws.specs.Frames.{FirstHasFrames, FramesFit, HasFrames, SplitKeepsFrames, names_own, slot_numbers}
use Rattle.ready_laws.proofs.SplitInstrs.{each-split}

-- what holds of the frame objects among operands holds of all
pub all-own : (t : Target) (s : Slots) (i : Instr) → ((n : ℕ) → Member (operands.Stack n) i.operands → cond (does spills_or_reloads t i) (has_number (slot_numbers s) n) (has_number s.taken n) ≡ true) → list_all (names_own t s i) i.operands ≡ true
all-own t s i h = all-by (names_own t s i) i.operands one
  where
    one : (o : Operand) → Member o i.operands → names_own t s i o ≡ true
    one (operands.Stack n) m = h n m
    one (operands.Reg z) m = refl
    one (operands.Imm z) m = refl
    one (operands.Block z) m = refl
    one (operands.FixedStack z) m = refl
    one (operands.Symbol z) m = refl
    one (operands.Index z) m = refl
    one (operands.Mask z) m = refl

pub first-has-frames : FirstHasFrames
first-has-frames t f s none start = record {
  frames = none.frames;
  operands = λ b i mb mi. all-own t s i (λ n m. (λ k. cond (none.opcodes b i mb mi k) (has_number (slot_numbers s) n) (has_number s.taken n)) ∙ start.taken b i n mb mi m);
  apart = λ n h. absurd (let z : true ≡ false = sym h ∙ ap (λ (gs : List (ℕ × ℕ)). has_number (map (λ (p : ℕ × ℕ). p.1) gs) n) start.given in cc);
}

module _ (t : Target) (f : Function) (s : Slots) (given : List (ℕ × ClassId)) (has : HasFrames t f s) (same : (n : ℕ) → is_given_slot given n ≡ has_number (slot_numbers s) n) where
  not-given : (n : ℕ) → has_number s.taken n ≡ true → has_number (slot_numbers s) n ≡ false
  not-given n h = go (has_number (slot_numbers s) n) refl
    where
      go : (b : Bool) → has_number (slot_numbers s) n ≡ b → b ≡ false
      go true e = absurd (let z : true ≡ false = sym h ∙ has.apart n e in cc)
      go false e = refl

  object-fits : (u : Bool) (n : ℕ) → cond u (has_number (slot_numbers s) n) (has_number s.taken n) ≡ true → beq u (is_given_slot given n) ≡ true
  object-fits true n h = λ k. beq true ((same n ∙ h) k)
  object-fits false n h = λ k. beq false ((same n ∙ not-given n h) k)

  effect-fits : (b : Block) (i : Instr) → Member b f.blocks → Member i b.instrs → (o : Operand) → Member o i.operands → slot_effect_fits t given i o ≡ true
  effect-fits b i mb mi (operands.Stack n) m = object-fits (does spills_or_reloads t i) n (all-of (names_own t s i) (operands.Stack n) i.operands m (has.operands b i mb mi))
  effect-fits b i mb mi (operands.Reg z) m = refl
  effect-fits b i mb mi (operands.Imm z) m = refl
  effect-fits b i mb mi (operands.Block z) m = refl
  effect-fits b i mb mi (operands.FixedStack z) m = refl
  effect-fits b i mb mi (operands.Symbol z) m = refl
  effect-fits b i mb mi (operands.Index z) m = refl
  effect-fits b i mb mi (operands.Mask z) m = refl

pub frames-fit : FramesFit
frames-fit t f s given low has same = slots-by-effect t f given low has.frames (λ b i mb mi. all-by (slot_effect_fits t given i) i.operands (effect-fits t f s given has same b i mb mi))

-- splits

module _ (t : Target) (s : Slots) (r : RegOp → RegOp) (i : Instr) where
  operand-own : (o : Operand) → names_own t s i (renamed_operand r o) ≡ names_own t s i o
  operand-own (operands.Stack n) = refl
  operand-own (operands.Reg z) = refl
  operand-own (operands.Imm z) = refl
  operand-own (operands.Block z) = refl
  operand-own (operands.FixedStack z) = refl
  operand-own (operands.Symbol z) = refl
  operand-own (operands.Index z) = refl
  operand-own (operands.Mask z) = refl

  operands-own : (os : List Operand) → list_all (names_own t s i) (map (renamed_operand r) os) ≡ list_all (names_own t s i) os
  operands-own [] = refl
  operands-own (o ∷ os) = λ k. operand-own o k && operands-own os k

  renamed-own : list_all (names_own t s i) i.operands ≡ true → list_all (names_own t s (renamed_instr r i)) (renamed_instr r i).operands ≡ true
  renamed-own h = operands-own i.operands ∙ h

module _ (t : Target) (f : Function) (s : Slots) (v : ℕ) (ms : List Mark) (live : Point → Bool) where
  split-frames : HasFrames t f s → HasFrames t (split_by live f v ms) s
  unfolding split_by V15_frame
  split-frames has = record {
    frames = has.frames;
    operands = each-split f v ms live (λ x. list_all (names_own t s x) x.operands ≡ true) (λ id from to. refl) (λ b i mb mi label. renamed-own t s (as_part f v label) i (has.operands b i mb mi));
    apart = has.apart;
  }

pub split-keeps-frames : SplitKeepsFrames
split-keeps-frames t f g s v ms z has = subst (λ h. HasFrames t h s) (sym z.2) (split-frames t f s v ms z.0 has)
