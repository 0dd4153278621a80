-- The search over blocks and their instructions finds the first place with the least rule.
use Rattle.std.proofs.Common.{◌≡◌, ◌∙◌, ℕ, ◌+◌, ◌<◌, List, [], ◌∷◌, Bool, true, false, cond, refl, sym, ap, take, drop, length, get_or, arith}
use Rattle.std.specs.Prelude.{◌&&◌, ◌||◌, nat_eq, map, Option, Some, None, option_map}
use Rattle.std.specs.List.{list_all, list_any}
use Rattle.std.specs.Option.{option_or}
use Rattle.std.proofs.lemmas.List.Folds.{list_all_more, list_any_more}
use Rattle.std.proofs.Math.Seq.{drop-cons}
use Rattle.target_base.specs.declared.types.OpcodeDesc.{OpcodeDesc}
use Rattle.target_base.specs.declared.types.Target.{Target}
use Rattle.target_base.specs.Rules.{is_phi}
use Rattle.mir_func.specs.declared.func.Block.{Block}
use Rattle.mir_func.specs.declared.func.Instr.{Instr}
use Rattle.mir_func.specs.Value.{Function}
use Rattle.mir_meaning.specs.declared.Form.{Form}
use Rattle.mir_meaning.specs.declared.Form.TheVariants as forms
use Rattle.mir_func.specs.Binding.{known_opcode, does, is_terminator}
use Rattle.mir_meaning.specs.Rules.{V1, V2, V3, V4, V7, V8, predecessors, block_numbers}
use Rattle.mir_meaning.specs.Valid.{Fault, first_failing, fault_at, instr_fault, instrs_fault, fault_in, block_fault, blocks_fault, least}
use Rattle.machine_verify.specs.declared.instr_rules.BlockPrefix.{BlockPrefix}
use Rattle.machine_verify.specs.declared.numbers.NumberSet.{NumberSet}
use Rattle.machine_verify.specs.Sets.{Holds, has}
use Rattle.machine_verify.specs.InstrRules.{instr_rule, phis_fit, terminators_fit, late_rules, before_at, after}

-- behind no instruction
pub first_before : (t : Target) (is : List Instr) → record { only_phis = true; terminator = false } ≡ before_at t is 0
first_before t is = refl

pub before_step : (t : Target) (is : List Instr) (j : ℕ) (i : Instr) → j < length is → get_or is j i ≡ i → after t (before_at t is j) i ≡ before_at t is (j + 1)
before_step t is j i h e =
    let p : list_all (does is_phi t) (take (j + 1) is) ≡ (list_all (does is_phi t) (take j is) && does is_phi t (get_or is j i)) = list_all_more (does is_phi t) is j i h in
    let q : list_any (does is_terminator t) (take (j + 1) is) ≡ (list_any (does is_terminator t) (take j is) || does is_terminator t (get_or is j i)) = list_any_more (does is_terminator t) is j i h in
    rw (p, q, e) refl

-- the rule that fails for an instruction is that of the definitions
module _ (t : Target) (f : Function) (k : ℕ) (b : Block) (j : ℕ) (i : Instr) where
  v7_at : (form : Form) (d : OpcodeDesc) → known_opcode t i.op ≡ Some d → phis_fit form (nat_eq k 0) (before_at t b.instrs j).only_phis (predecessors f b.number) d.effect i ≡ V7 t form f k b j i
  unfolding V7
  v7_at forms.Source d e = rw (e, V7) refl
  v7_at forms.Allocated d e = rw (e, V7) refl

  v8_at : (d : OpcodeDesc) → known_opcode t i.op ≡ Some d → terminators_fit (before_at t b.instrs j).terminator d.effect ≡ V8 t b j i
  unfolding V8
  v8_at d e = rw (e, V8) refl

  failing : Form → Bool → Bool → Option ℕ
  failing form x y = cond (V1 t f i) (first_failing ((2, V2 t f i) ∷ (3, V3 f i) ∷ (4, V4 t f i) ∷ (7, x) ∷ (8, y) ∷ late_rules t form f i)) (Some 1)

  known_at : (form : Form) (d : OpcodeDesc) → known_opcode t i.op ≡ Some d → instr_fault t form f k b j i ≡ failing form (V7 t form f k b j i) (V8 t b j i)
  unfolding instr_fault failing
  known_at form d e = rw (e, instr_fault) refl

  asked_at : (form : Form) (d : OpcodeDesc) → known_opcode t i.op ≡ Some d → instr_rule t form f (nat_eq k 0) (before_at t b.instrs j) (predecessors f b.number) i ≡ failing form (phis_fit form (nat_eq k 0) (before_at t b.instrs j).only_phis (predecessors f b.number) d.effect i) (terminators_fit (before_at t b.instrs j).terminator d.effect)
  unfolding failing
  asked_at form d e = rw (e, instr_rule) refl

  unknown_at : (form : Form) → known_opcode t i.op ≡ None → instr_fault t form f k b j i ≡ Some 16
  unfolding instr_fault
  unknown_at form e = rw (e, instr_fault) refl

  unasked_at : (form : Form) → known_opcode t i.op ≡ None → instr_rule t form f (nat_eq k 0) (before_at t b.instrs j) (predecessors f b.number) i ≡ Some 16
  unasked_at form e = rw (e, instr_rule) refl

  rule_at : (form : Form) (o : Option OpcodeDesc) → known_opcode t i.op ≡ o → instr_rule t form f (nat_eq k 0) (before_at t b.instrs j) (predecessors f b.number) i ≡ instr_fault t form f k b j i
  rule_at form None e = unasked_at form e ∙ sym (unknown_at form e)
  rule_at form (Some d) e =
      asked_at form d e
      ∙ (ap (λ x. failing form x (terminators_fit (before_at t b.instrs j).terminator d.effect)) (v7_at form d e)
      ∙ (ap (λ y. failing form (V7 t form f k b j i) y) (v8_at d e) ∙ sym (known_at form d e)))

  pub rule_is : (form : Form) → instr_rule t form f (nat_eq k 0) (before_at t b.instrs j) (predecessors f b.number) i ≡ instr_fault t form f k b j i
  rule_is form = rule_at form (known_opcode t i.op) refl

pub instrs_step : (t : Target) (form : Form) (f : Function) (k : ℕ) (b : Block) (j : ℕ) (is : List Instr) (i : Instr) → j < length is → get_or is j i ≡ i → instrs_fault t form f k b j (drop j is) ≡ option_or (option_map (fault_at b j) (instr_fault t form f k b j i)) (instrs_fault t form f k b (j + 1) (drop (j + 1) is))
instrs_step t form f k b j is i h e = rw (drop-cons is j i h, e) (grind arith)

pub blocks_step : (t : Target) (form : Form) (f : Function) (k : ℕ) (bs : List Block) (b : Block) → k < length bs → get_or bs k b ≡ b → blocks_fault t form f k (drop k bs) ≡ option_or (fault_in t form f k b b.instrs) (blocks_fault t form f (k + 1) (drop (k + 1) bs))
blocks_step t form f k bs b h e = rw (drop-cons bs k b h, e) (grind arith)

-- the rule that code finds for instruction j, behind what stands before it
module _ (t : Target) (form : Form) (f : Function) (k : ℕ) (b : Block) (j : ℕ) (i : Instr) where
  pub rule_here : (before : BlockPrefix) (preds : List ℕ) (rule : Option ℕ) → before ≡ before_at t b.instrs j → preds ≡ predecessors f b.number → rule ≡ instr_rule t form f (nat_eq k 0) before preds i → rule ≡ instr_fault t form f k b j i
  rule_here before preds rule p q r =
      r
      ∙ (ap (λ x. instr_rule t form f (nat_eq k 0) x preds i) p
      ∙ (ap (λ x. instr_rule t form f (nat_eq k 0) (before_at t b.instrs j) x i) q ∙ rule_is t f k b j i form))

  step_here : (rule : Option ℕ) (total : Option Fault) → j < length b.instrs → get_or b.instrs j i ≡ i → rule ≡ instr_fault t form f k b j i → total ≡ instrs_fault t form f k b j (drop j b.instrs) → total ≡ option_or (option_map (fault_at b j) rule) (instrs_fault t form f k b (j + 1) (drop (j + 1) b.instrs))
  step_here rule total h e r q =
      q
      ∙ (instrs_step t form f k b j b.instrs i h e
      ∙ ap (λ x. option_or (option_map (fault_at b j) x) (instrs_fault t form f k b (j + 1) (drop (j + 1) b.instrs))) (sym r))

  pub found_here : (rule : ℕ) (total : Option Fault) (x : Fault) → j < length b.instrs → get_or b.instrs j i ≡ i → Some rule ≡ instr_fault t form f k b j i → total ≡ instrs_fault t form f k b j (drop j b.instrs) → x ≡ fault_at b j rule → Some x ≡ total
  found_here rule total x h e r q g = ap Some g ∙ sym (step_here (Some rule) total h e r q)

  pub none_here : (total : Option Fault) → j < length b.instrs → get_or b.instrs j i ≡ i → None ≡ instr_fault t form f k b j i → total ≡ instrs_fault t form f k b j (drop j b.instrs) → total ≡ instrs_fault t form f k b (j + 1) (drop (j + 1) b.instrs)
  none_here total h e r q = step_here None total h e r q

-- no rule of the block and none of its first instruction fails
pub fault_in_later : (t : Target) (form : Form) (f : Function) (k : ℕ) (b : Block) (is : List Instr) (i : Instr) → 0 < length is → get_or is 0 i ≡ i → least (block_fault t form f k b) (instr_fault t form f k b 0 i) ≡ None → fault_in t form f k b is ≡ instrs_fault t form f k b 1 (drop 1 is)
fault_in_later t form f k b [] i h e n = absurd (omega arith)
fault_in_later t form f k b (j ∷ is) i h e n =
    ap (λ x. option_or (option_map (fault_at b 0) (least (block_fault t form f k b) (instr_fault t form f k b 0 x))) (instrs_fault t form f k b 1 is)) e
    ∙ ap (λ x. option_or (option_map (fault_at b 0) x) (instrs_fault t form f k b 1 is)) n

-- block k, with what code finds in it
module _ (t : Target) (form : Form) (f : Function) (k : ℕ) (b : Block) (o total : Option Fault) (h : k < length f.blocks) (e : get_or f.blocks k b ≡ b) (r : o ≡ fault_in t form f k b b.instrs) (q : total ≡ blocks_fault t form f k (drop k f.blocks)) where
  block_here : total ≡ option_or o (blocks_fault t form f (k + 1) (drop (k + 1) f.blocks))
  block_here = q ∙ (blocks_step t form f k f.blocks b h e ∙ ap (λ x. option_or x (blocks_fault t form f (k + 1) (drop (k + 1) f.blocks))) (sym r))

  pub block_found : (x : Fault) → o ≡ Some x → Some x ≡ total
  block_found x g = sym (block_here ∙ ap (λ y. option_or y (blocks_fault t form f (k + 1) (drop (k + 1) f.blocks))) g)

  pub block_none : o ≡ None → total ≡ blocks_fault t form f (k + 1) (drop (k + 1) f.blocks)
  block_none g = block_here ∙ ap (λ y. option_or y (blocks_fault t form f (k + 1) (drop (k + 1) f.blocks))) g

or_turn : (a b : Bool) → (a || b) ≡ (b || a)
or_turn true true = refl
or_turn true false = refl
or_turn false true = refl
or_turn false false = refl

any_mapped : {X Y : Type 0} (p : X → Bool) (h : Y → X) (ys : List Y) → list_any p (map h ys) ≡ list_any (λ y. p (h y)) ys
any_mapped p h [] = refl
any_mapped p h (y ∷ ys) = ap (λ b. p (h y) || b) (any_mapped p h ys)

-- the numbers of the blocks so far, and of block k
pub seen_more : (bs : List Block) (k : ℕ) (b : Block) (old new : NumberSet) → k < length bs → get_or bs k b ≡ b → Holds old (block_numbers (take k bs)) → ((q : ℕ) → has new q ≡ (nat_eq q b.number || has old q)) → Holds new (block_numbers (take (k + 1) bs))
seen_more bs k b old new h e g n q =
    n q
    ∙ (or_turn (nat_eq q b.number) (has old q)
    ∙ (ap (λ x. x || nat_eq q b.number) (g q ∙ any_mapped (nat_eq q) (λ (x : Block). x.number) (take k bs))
    ∙ (ap (λ (x : Block). list_any (λ (y : Block). nat_eq q y.number) (take k bs) || nat_eq q x.number) (sym e)
    ∙ (sym (list_any_more (λ (y : Block). nat_eq q y.number) bs k b h)
    ∙ sym (any_mapped (nat_eq q) (λ (x : Block). x.number) (take (k + 1) bs))))))
