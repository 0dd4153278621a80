-- Lanes that are left to be looked at, repeated instructions, and the gap behind an instruction.
use Rattle.std.proofs.Common.{◌≡◌, ◌∙◌, ℕ, ◌+◌, ◌-◌, ◌<◌, suc, Bool, true, false, ◌||◌, List, [], ◌∷◌, Option, Some, None, drop, sym, ap, arith}
use Rattle.std.specs.Prelude.{option_map, slice_get, slice_index}
use Rattle.std.specs.List.{list_any}
use Rattle.target_base.specs.declared.types.OpId.{OpId}
use Rattle.mir_func.specs.declared.func.Gap.{Gap}
use Rattle.mir_func.specs.declared.func.Block.{Block}
use Rattle.mir_func.specs.declared.func.Instr.{Instr}
use Rattle.mir_func.specs.declared.func.RegOp.{RegOp}
use Rattle.mir_func.specs.declared.func.Operand.{Operand}
use Rattle.mir_func.specs.declared.func.Operand.TheVariants as operands
use Rattle.mir_func.specs.Edits.{made}
use Rattle.mir_meaning.specs.Registers.{numbers}
use Rattle.live_lanes.proofs.Finding.{id-there}
use Rattle.spiller.specs.declared.plan.SpillView.{SpillView}
use Rattle.spiller.specs.Setting.{Spilling}
use Rattle.spiller.specs.Rematerialised.{repeated}
use Rattle.spiller.specs.Views.{block_number}
use Rattle.spiller.specs.Planned.{known_op}
use Rattle.spiller.specs.Additions.{put_into}
use Rattle.spiller.specs.Seating.{IsBehind}

numbers-more : (f : ℕ → Bool) (k n : ℕ) → k < n → list_any f (numbers k (n - k)) ≡ (f k || list_any f (numbers (k + 1) (n - (k + 1))))
numbers-more f k n h =
    let e : n - k ≡ suc (n - (k + 1)) = omega (arith, h) in
    let g : suc k ≡ k + 1 = omega arith in
    ap (λ m. list_any f (numbers k m)) e ∙ ap (λ m. f k || list_any f (numbers m (n - (k + 1)))) g

-- one that fails the test
pub numbers-next : (f : ℕ → Bool) (k n : ℕ) (total : Bool) → k < n → f k ≡ false → list_any f (numbers k (n - k)) ≡ total → list_any f (numbers (k + 1) (n - (k + 1))) ≡ total
numbers-next f k n total h fails was = sym (numbers-more f k n h ∙ ap (λ b. b || list_any f (numbers (k + 1) (n - (k + 1)))) fails) ∙ was

-- one that passes it
pub numbers-found : (f : ℕ → Bool) (k n : ℕ) (total : Bool) → k < n → f k ≡ true → list_any f (numbers k (n - k)) ≡ total → true ≡ total
numbers-found f k n total h holds was = sym (numbers-more f k n h ∙ ap (λ b. b || list_any f (numbers (k + 1) (n - (k + 1)))) holds) ∙ was

-- an instruction that is put is one that is repeated
pub repeated-put : (s : Spilling) (gap : Gap) (op : OpId) (os : List Operand) (d e : Instr) (o : RegOp) → e ≡ d → op ≡ known_op e.op → os ≡ operands.Reg o ∷ drop 1 e.operands → put_into s gap (made 0 op os ∷ []) ≡ put_into s gap (repeated d o ∷ [])
repeated-put s gap op os d e o same a b =
    (λ k. put_into s gap (made 0 (a k) (b k) ∷ []))
    ∙ ap (λ x. put_into s gap (repeated x o ∷ [])) same

-- the gap behind an instruction, by what is found of it
pub gap-found : (view : SpillView) (id : ℕ) (gap : Gap) (position place number : ℕ) (next : Option ℕ) → IsBehind view id gap
    → position ≡ slice_index view.live.now.table.order.block_of.items id
    → ((h : IsBehind view id gap) → place ≡ h.place)
    → number ≡ block_number view id
    → ((b : Block) → slice_get view.live.now.func.blocks position ≡ Some b → next ≡ option_map (λ i. i.id) (slice_get b.instrs (place + 1)))
    → ◌≡◌ {A = Gap} (record { block = number; before = next }) gap
gap-found view id gap position place number next h at p n found =
    let home : slice_index view.live.now.table.order.block_of.items id ≡ h.position = h.finds.homes h.position h.block id h.is_block (id-there h.block.instrs h.place h.instr id h.is_instr h.named) in
    let here : slice_get view.live.now.func.blocks position ≡ Some h.block = ap (slice_get view.live.now.func.blocks) (at ∙ home) ∙ h.is_block in
    let number-is : number ≡ h.block.number = n ∙ (ap (λ k. elim (slice_get view.live.now.func.blocks k) as (λ q. ℕ) [ None ↦ 0 | Some b ↦ b.number ]) home ∙ ap (λ q. elim q as (λ q. ℕ) [ None ↦ 0 | Some b ↦ b.number ]) h.is_block) in
    let next-is : next ≡ option_map (λ i. i.id) (slice_get h.block.instrs (h.place + 1)) = found h.block here ∙ ap (λ k. option_map (λ i. i.id) (slice_get h.block.instrs (k + 1))) (p h) in
    (λ k. record { block = number-is k; before = next-is k }) ∙ sym h.is_gap
