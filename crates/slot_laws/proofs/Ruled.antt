-- The rules of a valid allocated function, one by one.
use Rattle.std.proofs.Common.{◌≡◌, ℕ, suc, ◌+◌, Bool, true, false, cond, not, ◌||◌, List, [], ◌∷◌, Option, Some, None, refl, ap, ◌∙◌, subst, arith}
use Rattle.std.specs.Prelude.{nat_eq, slice_get, option_map}
use Rattle.std.specs.Option.{option_or}
use Rattle.target_base.specs.declared.types.OpcodeDesc.{OpcodeDesc}
use Rattle.target_base.specs.declared.types.Target.{Target}
use Rattle.mir_func.specs.declared.func.Instr.{Instr}
use Rattle.mir_func.specs.declared.func.Block.{Block}
use Rattle.mir_func.specs.Value.{Function}
use Rattle.mir_func.specs.Binding.{known_opcode}
use Rattle.mir_meaning.specs.declared.Form.TheVariants as forms
use Rattle.mir_meaning.specs.Rules.{V1, V2, V3, V4, V5, V6, V7, V8, V9, V10, V11, V12, V15, V15_frame, V16}
use Rattle.mir_meaning.specs.Valid.{first_failing, instr_fault, block_fault, least, fault_at, instrs_fault, fault_in, blocks_fault, shape_fault}
use Rattle.live_laws.proofs.Effects.Valid.{all-clean}

pub record InstrRules (t : Target) (f : Function) (k : ℕ) (b : Block) (j : ℕ) (i : Instr) : Type 0 where
  pub known : (d : OpcodeDesc) × (known_opcode t i.op ≡ Some d)
  pub one : V1 t f i ≡ true
  pub two : V2 t f i ≡ true
  pub three : V3 f i ≡ true
  pub four : V4 t f i ≡ true
  pub seven : V7 t forms.Allocated f k b j i ≡ true
  pub eight : V8 t b j i ≡ true
  pub eleven : V11 t forms.Allocated f i ≡ true
  pub twelve : V12 t forms.Allocated f i ≡ true
  pub fifteen : V15 t forms.Allocated f i ≡ true

pub record BlockRules (t : Target) (f : Function) (k : ℕ) (b : Block) : Type 0 where
  pub five : V5 f k b ≡ true
  pub six : V6 f k b ≡ true
  pub nine : V9 t f k b ≡ true
  pub ten : V10 t f k b ≡ true
  pub sixteen : V16 b ≡ true

step : (b : Bool) (x : Option ℕ) (r : ℕ) → cond b x (Some r) ≡ None → (b ≡ true) × (x ≡ None)
step true x r e = (refl, e)
step false x r e = absurd (cc)

module _ (t : Target) (f : Function) where
  abbrev tests : ℕ → Block → ℕ → Instr → List (ℕ × Bool)
  tests k b j i = (2, V2 t f i) ∷ (3, V3 f i) ∷ (4, V4 t f i) ∷ (7, V7 t forms.Allocated f k b j i) ∷ (8, V8 t b j i) ∷ (11, V11 t forms.Allocated f i) ∷ (12, V12 t forms.Allocated f i) ∷ (15, V15 t forms.Allocated f i) ∷ []

  abbrev fault-by : ℕ → Block → ℕ → Instr → Option OpcodeDesc → Option ℕ
  fault-by k b j i q = elim q [ None ↦ Some 16 | Some d ↦ cond (V1 t f i) (first_failing (tests k b j i)) (Some 1) ]

  instr-rules : (k : ℕ) (b : Block) (j : ℕ) (i : Instr) → instr_fault t forms.Allocated f k b j i ≡ None → InstrRules t f k b j i
  unfolding instr_fault
  instr-rules k b j i e = go (known_opcode t i.op) refl e
    where
      go : (q : Option OpcodeDesc) → known_opcode t i.op ≡ q → fault-by k b j i q ≡ None → InstrRules t f k b j i
      go None g h = absurd (cc)
      go (Some d) g h =
          let r1 = step (V1 t f i) _ 1 h in
          let r2 = step (V2 t f i) _ 2 r1.1 in
          let r3 = step (V3 f i) _ 3 r2.1 in
          let r4 = step (V4 t f i) _ 4 r3.1 in
          let r7 = step (V7 t forms.Allocated f k b j i) _ 7 r4.1 in
          let r8 = step (V8 t b j i) _ 8 r7.1 in
          let r11 = step (V11 t forms.Allocated f i) _ 11 r8.1 in
          let r12 = step (V12 t forms.Allocated f i) _ 12 r11.1 in
          let r15 = step (V15 t forms.Allocated f i) _ 15 r12.1 in
          record { known = (d, g); one = r1.0; two = r2.0; three = r3.0; four = r4.0; seven = r7.0; eight = r8.0; eleven = r11.0; twelve = r12.0; fifteen = r15.0 }

  block-rules : (k : ℕ) (b : Block) → block_fault t forms.Allocated f k b ≡ None → BlockRules t f k b
  unfolding block_fault
  block-rules k b e =
      let r5 = step (V5 f k b) _ 5 e in
      let r6 = step (V6 f k b) _ 6 r5.1 in
      let r9 = step (V9 t f k b) _ 9 r6.1 in
      let r10 = step (V10 t f k b) _ 10 r9.1 in
      let r15 = step (not (nat_eq k 0) || V15_frame forms.Allocated f) _ 15 r10.1 in
      let r16 = step (V16 b) _ 16 r15.1 in
      record { five = r5.0; six = r6.0; nine = r9.0; ten = r10.0; sixteen = r16.0 }

  instr-none : (k : ℕ) (b : Block) (j : ℕ) (i : Instr) → InstrRules t f k b j i → instr_fault t forms.Allocated f k b j i ≡ None
  unfolding instr_fault
  instr-none k b j i r = ap (fault-by k b j i) r.known.1 ∙ all
    where
      all : cond (V1 t f i) (first_failing (tests k b j i)) (Some 1) ≡ None
      all = λ p. cond (r.one p) (first_failing ((2, r.two p) ∷ (3, r.three p) ∷ (4, r.four p) ∷ (7, r.seven p) ∷ (8, r.eight p) ∷ (11, r.eleven p) ∷ (12, r.twelve p) ∷ (15, r.fifteen p) ∷ [])) (Some 1)

  or-true : (b : Bool) → (b || true) ≡ true
  or-true true = refl
  or-true false = refl

  block-none : (k : ℕ) (b : Block) → BlockRules t f k b → block_fault t forms.Allocated f k b ≡ None
  unfolding block_fault V15_frame
  block-none k b r = λ p. first_failing ((5, r.five p) ∷ (6, r.six p) ∷ (9, r.nine p) ∷ (10, r.ten p) ∷ (15, or-true (not (nat_eq k 0)) p) ∷ (16, r.sixteen p) ∷ [])

  -- at each place no rule fails
  pub record AllRules (n : ℕ) (b : Block) : Type 0 where
    pub block : BlockRules t f n b
    pub instrs : (j : ℕ) (i : Instr) → slice_get b.instrs j ≡ Some i → InstrRules t f n b j i

  pub all-rules : shape_fault t forms.Allocated f ≡ None → (n : ℕ) (b : Block) → slice_get f.blocks n ≡ Some b → AllRules n b
  all-rules clean n b e =
      let z = all-clean t forms.Allocated f clean n b e in
      record { block = block-rules n b z.0; instrs = λ j i g. instr-rules n b j i (z.1 j i g) }

  -- and so back

  instrs-none : (k : ℕ) (b : Block) (j : ℕ) (is : List Instr) → ((n : ℕ) (i : Instr) → slice_get is n ≡ Some i → instr_fault t forms.Allocated f k b (j + n) i ≡ None) → instrs_fault t forms.Allocated f k b j is ≡ None
  instrs-none k b j [] g = refl
  instrs-none k b j (i ∷ is) g =
      let z : j + 0 ≡ j = omega arith in
      let here : instr_fault t forms.Allocated f k b j i ≡ None = subst (λ m. instr_fault t forms.Allocated f k b m i ≡ None) z (g 0 i refl) in
      let rest = instrs-none k b (suc j) is (λ n x e. let y : j + suc n ≡ suc j + n = omega arith in subst (λ m. instr_fault t forms.Allocated f k b m x ≡ None) y (g (suc n) x e)) in
      λ p. option_or (option_map (fault_at b j) (here p)) (rest p)

  fault-none : (k : ℕ) (b : Block) (is : List Instr) → block_fault t forms.Allocated f k b ≡ None → ((n : ℕ) (i : Instr) → slice_get is n ≡ Some i → instr_fault t forms.Allocated f k b n i ≡ None) → fault_in t forms.Allocated f k b is ≡ None
  fault-none k b [] e g = ap (option_map (fault_at b 0)) e
  fault-none k b (i ∷ is) e g =
      let here = g 0 i refl in
      let rest = instrs-none k b 1 is (λ n x h. let y : suc n ≡ 1 + n = omega arith in subst (λ m. instr_fault t forms.Allocated f k b m x ≡ None) y (g (suc n) x h)) in
      λ p. option_or (option_map (fault_at b 0) (least (e p) (here p))) (rest p)

  blocks-none : (k : ℕ) (bs : List Block) → ((n : ℕ) (b : Block) → slice_get bs n ≡ Some b → AllRules (k + n) b) → blocks_fault t forms.Allocated f k bs ≡ None
  blocks-none k [] g = refl
  blocks-none k (b ∷ bs) g =
      let z : k + 0 ≡ k = omega arith in
      let r : AllRules k b = subst (λ m. AllRules m b) z (g 0 b refl) in
      let here = fault-none k b b.instrs (block-none k b r.block) (λ n i e. instr-none k b n i (r.instrs n i e)) in
      let rest = blocks-none (suc k) bs (λ n c e. let y : k + suc n ≡ suc k + n = omega arith in subst (λ m. AllRules m c) y (g (suc n) c e)) in
      λ p. option_or (here p) (rest p)

  pub shape-none : ((n : ℕ) (b : Block) → slice_get f.blocks n ≡ Some b → AllRules n b) → shape_fault t forms.Allocated f ≡ None
  unfolding shape_fault
  shape-none g = blocks-none 0 f.blocks (λ n b e. let y : n ≡ 0 + n = omega arith in subst (λ m. AllRules m b) y (g n b e))
