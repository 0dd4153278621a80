-- The rules of a valid source, one by one.
use Rattle.std.proofs.Common.{◌≡◌, ℕ, Bool, true, false, cond, List, [], ◌∷◌, Option, Some, None, refl}
use Rattle.std.specs.Prelude.{slice_get}
use Rattle.target_base.specs.declared.types.OpcodeDesc.{OpcodeDesc}
use Rattle.target_base.specs.declared.types.Target.{Target}
use Rattle.meaning.specs.Live.{Among}
use Rattle.mir_func.specs.declared.func.Instr.{Instr}
use Rattle.mir_func.specs.declared.func.Block.{Block}
use Rattle.mir_func.specs.Value.{Function}
use Rattle.mir_func.specs.Binding.{known_opcode}
use Rattle.mir_meaning.specs.declared.Form.TheVariants as forms
use Rattle.mir_meaning.specs.Rules.{V1, V2, V3, V4, V5, V6, V7, V8, V9, V11, V12, V15}
use Rattle.mir_meaning.specs.Valid.{first_failing, instr_fault, block_fault, shape_fault}
use Rattle.live_laws.proofs.Effects.Blocks.{member-slice}
use Rattle.live_laws.proofs.Effects.Valid.{all-clean}

-- of an instruction by itself
pub record InstrRules (t : Target) (f : Function) (i : Instr) : Type 0 where
  pub known : (d : OpcodeDesc) × (known_opcode t i.op ≡ Some d)
  pub one : V1 t f i ≡ true
  pub two : V2 t f i ≡ true
  pub three : V3 f i ≡ true
  pub four : V4 t f i ≡ true
  pub eleven : V11 t forms.Source f i ≡ true
  pub twelve : V12 t forms.Source f i ≡ true
  pub fifteen : V15 t forms.Source f i ≡ true

-- of an instruction at its place
pub record PlacedRules (t : Target) (f : Function) (k : ℕ) (b : Block) (j : ℕ) (i : Instr) : Type 0 where
  pub own : InstrRules t f i
  pub seven : V7 t forms.Source f k b j i ≡ true
  pub eight : V8 t b j i ≡ true

-- of each instruction of a function by itself
abbrev pub EachRules : Target → Function → Type 0
EachRules t f = (b : Block) (i : Instr) → Among b f.blocks → Among i b.instrs → InstrRules t f i

pub record BlockRules (t : Target) (f : Function) (k : ℕ) (b : Block) : Type 0 where
  pub five : V5 f k b ≡ true
  pub nine : V9 t f k b ≡ true

step : (b : Bool) (x : Option ℕ) (r : ℕ) → cond b x (Some r) ≡ None → (b ≡ true) × (x ≡ None)
step true x r e = (refl, e)
step false x r e = absurd (cc)

module _ (t : Target) (f : Function) where
  abbrev tests : ℕ → Block → ℕ → Instr → List (ℕ × Bool)
  tests k b j i = (2, V2 t f i) ∷ (3, V3 f i) ∷ (4, V4 t f i) ∷ (7, V7 t forms.Source f k b j i) ∷ (8, V8 t b j i) ∷ (11, V11 t forms.Source f i) ∷ (12, V12 t forms.Source f i) ∷ (15, V15 t forms.Source f i) ∷ []

  abbrev fault-by : ℕ → Block → ℕ → Instr → Option OpcodeDesc → Option ℕ
  fault-by k b j i q = elim q [ None ↦ Some 16 | Some d ↦ cond (V1 t f i) (first_failing (tests k b j i)) (Some 1) ]

  instr-rules : (k : ℕ) (b : Block) (j : ℕ) (i : Instr) → instr_fault t forms.Source f k b j i ≡ None → PlacedRules t f k b j i
  unfolding instr_fault
  instr-rules k b j i e = go (known_opcode t i.op) refl e
    where
      go : (q : Option OpcodeDesc) → known_opcode t i.op ≡ q → fault-by k b j i q ≡ None → PlacedRules t f k b j i
      go None g h = absurd (cc)
      go (Some d) g h =
          let r1 = step (V1 t f i) _ 1 h in
          let r2 = step (V2 t f i) _ 2 r1.1 in
          let r3 = step (V3 f i) _ 3 r2.1 in
          let r4 = step (V4 t f i) _ 4 r3.1 in
          let r7 = step (V7 t forms.Source f k b j i) _ 7 r4.1 in
          let r8 = step (V8 t b j i) _ 8 r7.1 in
          let r11 = step (V11 t forms.Source f i) _ 11 r8.1 in
          let r12 = step (V12 t forms.Source f i) _ 12 r11.1 in
          let r15 = step (V15 t forms.Source f i) _ 15 r12.1 in
          record { own = record { known = (d, g); one = r1.0; two = r2.0; three = r3.0; four = r4.0; eleven = r11.0; twelve = r12.0; fifteen = r15.0 }; seven = r7.0; eight = r8.0 }

  block-rules : (k : ℕ) (b : Block) → block_fault t forms.Source f k b ≡ None → BlockRules t f k b
  unfolding block_fault
  block-rules k b e =
      let r5 = step (V5 f k b) _ 5 e in
      let r6 = step (V6 f k b) _ 6 r5.1 in
      let r9 = step (V9 t f k b) _ 9 r6.1 in
      record { five = r5.0; nine = r9.0 }

  -- at each place no rule fails
  pub record AllRules (n : ℕ) (b : Block) : Type 0 where
    pub block : BlockRules t f n b
    pub instrs : (j : ℕ) (i : Instr) → slice_get b.instrs j ≡ Some i → PlacedRules t f n b j i

  pub all-rules : shape_fault t forms.Source f ≡ None → (n : ℕ) (b : Block) → slice_get f.blocks n ≡ Some b → AllRules n b
  all-rules clean n b e =
      let z = all-clean t forms.Source f clean n b e in
      record { block = block-rules n b z.0; instrs = λ j i g. instr-rules n b j i (z.1 j i g) }

  pub each-rules : ((n : ℕ) (b : Block) → slice_get f.blocks n ≡ Some b → AllRules n b) → EachRules t f
  each-rules rules b i mb mi = let k = member-slice b f.blocks mb in let j = member-slice i b.instrs mi in ((rules k.0 b k.1).instrs j.0 i j.1).own
