-- A valid function has no excluded opcode.
use Rattle.std.proofs.Common.{◌≡◌, ◌∙◌, ℕ, suc, Bool, true, cond, List, [], ◌∷◌, Option, Some, None, refl, ap}
use Rattle.std.specs.Prelude.{◌&&◌, option_map, is_some}
use Rattle.std.specs.List.{list_all}
use Rattle.std.specs.Option.{option_or}
use Rattle.target_base.specs.declared.types.OpcodeDesc.{OpcodeDesc}
use Rattle.target_base.specs.declared.types.Target.{Target}
use Rattle.mir_func.specs.declared.func.Block.{Block}
use Rattle.mir_func.specs.declared.func.Instr.{Instr}
use Rattle.mir_func.specs.Value.{Function}
use Rattle.mir_meaning.specs.declared.Form.{Form}
use Rattle.mir_func.specs.Binding.{known_opcode}
use Rattle.mir_meaning.specs.Rules.{V1, V2, V3, V4, V7, V8, V11, V12, V15}
use Rattle.mir_meaning.specs.Valid.{first_failing, instr_fault, block_fault, least, fault_at, instrs_fault, fault_in, blocks_fault, shape_fault}
use Rattle.live_laws.specs.Touch.{is_known, KnownLaw}

or-first : {X : Type 0} (a b : Option X) → option_or a b ≡ None → a ≡ None
or-first None b e = refl
or-first (Some x) b e = absurd (cc)

or-second : {X : Type 0} (a b : Option X) → option_or a b ≡ None → b ≡ None
or-second None b e = e
or-second (Some x) b e = absurd (cc)

mapped-none : {X Y : Type 0} (g : X → Y) (q : Option X) → option_map g q ≡ None → q ≡ None
mapped-none g None e = refl
mapped-none g (Some x) e = absurd (cc)

least-second : (a b : Option ℕ) → least a b ≡ None → b ≡ None
least-second None b e = e
least-second (Some x) None e = absurd (cc)
least-second (Some x) (Some y) e = absurd (cc)

both : (a b : Bool) → a ≡ true → b ≡ true → (a && b) ≡ true
both a b e g = ap (λ x. x && b) e ∙ g

abbrev fault_by : Target → Form → Function → ℕ → Block → ℕ → Instr → Option OpcodeDesc → Option ℕ
fault_by t form f k b j i q = elim q [
  | None ↦ Some 16
  | Some d ↦ cond (V1 t f i) (first_failing ((2, V2 t f i) ∷ (3, V3 f i) ∷ (4, V4 t f i) ∷ (7, V7 t form f k b j i) ∷ (8, V8 t b j i) ∷ (11, V11 t form f i) ∷ (12, V12 t form f i) ∷ (15, V15 t form f i) ∷ [])) (Some 1)
]

module _ (t : Target) (form : Form) (f : Function) where
  instr-known : (k : ℕ) (b : Block) (j : ℕ) (i : Instr) → instr_fault t form f k b j i ≡ None → is_known t i ≡ true
  unfolding instr_fault
  instr-known k b j i e = go (known_opcode t i.op) e
    where
      go : (q : Option OpcodeDesc) → fault_by t form f k b j i q ≡ None → is_some (option_map (λ d. d.effect) q) ≡ true
      go None h = absurd (cc)
      go (Some d) h = refl

  instrs-known : (k : ℕ) (b : Block) (j : ℕ) (is : List Instr) → instrs_fault t form f k b j is ≡ None → list_all (is_known t) is ≡ true
  instrs-known k b j [] e = refl
  instrs-known k b j (i ∷ is) e =
      let here = or-first (option_map (fault_at b j) (instr_fault t form f k b j i)) (instrs_fault t form f k b (suc j) is) e in
      let rest = or-second (option_map (fault_at b j) (instr_fault t form f k b j i)) (instrs_fault t form f k b (suc j) is) e in
      both (is_known t i) (list_all (is_known t) is) (instr-known k b j i (mapped-none (fault_at b j) (instr_fault t form f k b j i) here)) (instrs-known k b (suc j) is rest)

  block-known : (k : ℕ) (b : Block) (is : List Instr) → fault_in t form f k b is ≡ None → list_all (is_known t) is ≡ true
  block-known k b [] e = refl
  block-known k b (i ∷ is) e =
      let first = least (block_fault t form f k b) (instr_fault t form f k b 0 i) in
      let here = mapped-none (fault_at b 0) first (or-first (option_map (fault_at b 0) first) (instrs_fault t form f k b 1 is) e) in
      let rest = or-second (option_map (fault_at b 0) first) (instrs_fault t form f k b 1 is) e in
      both (is_known t i) (list_all (is_known t) is) (instr-known k b 0 i (least-second (block_fault t form f k b) (instr_fault t form f k b 0 i) here)) (instrs-known k b 1 is rest)

  blocks-known : (k : ℕ) (bs : List Block) → blocks_fault t form f k bs ≡ None → list_all (λ b. list_all (is_known t) b.instrs) bs ≡ true
  blocks-known k [] e = refl
  blocks-known k (b ∷ bs) e =
      both (list_all (is_known t) b.instrs) (list_all (λ c. list_all (is_known t) c.instrs) bs)
      (block-known k b b.instrs (or-first (fault_in t form f k b b.instrs) (blocks_fault t form f (suc k) bs) e))
      (blocks-known (suc k) bs (or-second (fault_in t form f k b b.instrs) (blocks_fault t form f (suc k) bs) e))

pub known-law : KnownLaw
unfolding shape_fault
known-law t form f clean = blocks-known t form f 0 f.blocks clean
