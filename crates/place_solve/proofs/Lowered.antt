-- In a valid source each place of a copy that lowering makes is that of a copy at a point of the function, and the
-- tests of the table tell which admit a choice.
use Rattle.std.proofs.Common.{◌≡◌, ◌≤◌, ℕ, Bool, true, false, cond, List, [], ◌∷◌, ◌++◌, Some, sym, subst, flat_map}
use Rattle.std.specs.Prelude.{◌↔◌, slice_get}
use Rattle.target_base.specs.declared.types.Target.{Target}
use Rattle.target_base.proofs.Tests.{second_of_both}
use Rattle.meaning.specs.Live.{Among as Member, here as first, there as later}
use Rattle.mir_func.specs.declared.func.RegOp.{RegOp}
use Rattle.mir_func.specs.declared.func.Operand.{Operand}
use Rattle.mir_func.specs.declared.func.Operand.TheVariants as operands
use Rattle.mir_func.specs.declared.func.Instr.{Instr}
use Rattle.mir_func.specs.declared.func.Block.{Block}
use Rattle.mir_func.specs.Value.{Function, id_total}
use Rattle.mir_meaning.specs.declared.Form.TheVariants as forms
use Rattle.mir_func.specs.Binding.{does, is_terminator}
use Rattle.mir_meaning.specs.Registers.{has_number, operand_widths}
use Rattle.mir_meaning.specs.Codes.{instrs_of}
use Rattle.mir_meaning.specs.Points.{Point, Start, Entry, Exit}
use Rattle.mir_meaning.specs.Rules.{V5, block_numbers, block_of, named_blocks, successors_of}
use Rattle.mir_meaning.specs.Places.{Needs, Admits, before_terminators, copy_variable, lowering_places, phi_point}
use Rattle.instr_effects.specs.Ends.{pairs_behind}
use Rattle.instr_effects.proofs.Members.{member-none, flat-in, map-of, right-in}
use Rattle.live_laws.specs.Effects.Coded.{KeepsRules}
use Rattle.live_laws.proofs.Effects.Blocks.{member-slice, number-there, slice-member}
use Rattle.live_laws.proofs.Effects.Lists.{all-of}
use Rattle.live_laws.proofs.Effects.Phis.{pair-named}
use Rattle.live_laws.proofs.Effects.Valid.{valid-law, ends}
use Rattle.place_solve.specs.Laws.{LoweredLaw}
use Rattle.place_solve.specs.Told.{copy_solved, IsPoint, Seated}
use Rattle.place_solve.proofs.Copied.{Copied, lowered}
use Rattle.place_solve.proofs.Stands.{seated}
use Rattle.place_solve.proofs.Told.{copy-told, instrs-in}

module _ (t : Target) (f : Function) where
  -- the points before terminators
  before-point : (q : Point) (is : List Instr) → IsPoint t f q → ((i : Instr) → Member i is → Seated t f i) → IsPoint t f (before_terminators t q is)
  before-point q [] s h = s
  before-point q (i ∷ is) s h = go (does is_terminator t i) (before-point (Exit i.id) is (let z = h i first in (z.position, z.place, z.spot)) (λ j m. h j (later m)))
    where
      go : (b : Bool) → IsPoint t f (before_terminators t (Exit i.id) is) → IsPoint t f (cond b (Entry i.id) (before_terminators t (Exit i.id) is))
      go true ih = let z = h i first in (z.position, z.place, z.spot)
      go false ih = ih

  behind-named : (os : List Operand) (p : RegOp × ℕ) → Member p (pairs_behind os) → Member p.1 (flat_map block_of os)
  behind-named [] p m = absurd (member-none p m)
  behind-named (operands.Reg d ∷ os) p m = pair-named os p m
  behind-named (o ∷ os) p m = absurd (member-none p m)

  module _ (rules : KeepsRules t f) (once : (id : ℕ) → id_total id f.blocks ≤ 1) where
    seat : (b : Block) (i : Instr) → Member b f.blocks → Member i b.instrs → Seated t f i
    seat b i mb mi =
        let k = member-slice b f.blocks mb in
        let j = member-slice i b.instrs mi in
        seated t f k.0 j.0 b i once k.1 j.1

    -- the blocks that an instruction names are there
    named-block : (k : ℕ) (b : Block) (i : Instr) (n : ℕ) → slice_get f.blocks k ≡ Some b → Member i b.instrs → Member n (named_blocks i) → Member n (block_numbers f.blocks)
    unfolding V5
    named-block k b i n e mi m =
        number-there n (block_numbers f.blocks) (all-of (has_number (block_numbers f.blocks)) n (successors_of b ++ flat_map named_blocks b.instrs) (right-in n (successors_of b) (flat_map named_blocks b.instrs) (flat-in named_blocks n i b.instrs mi m)) (second_of_both _ _ (rules.blocks k b e)))

    at-phi : (n : ℕ) → Member n (block_numbers f.blocks) → IsPoint t f (phi_point t f n)
    at-phi n m =
        let z = map-of (λ (c : Block). c.number) n f.blocks m in
        let k = member-slice z.0 f.blocks z.1 in
        before-point (Start n) (instrs_of f.blocks n) (k.0, z.0, k.1, sym z.2) (λ i h. let y = instrs-in f.blocks n i h in seat y.0 i y.1 y.2)

    pub lowered-copy : (k j : ℕ) (b : Block) (i : Instr) → slice_get f.blocks k ≡ Some b → slice_get b.instrs j ≡ Some i → (p : Needs) → Member p (lowering_places t f i) → Copied t f (IsPoint t f) p
    lowered-copy k j b i e g p m =
        let s = seated t f k j b i once e g in
        let mi = slice-member b.instrs j i g in
        lowered t f (IsPoint t f) i (s.position, s.place, s.spot) (s.position, s.place, s.spot) p (λ o n h. at-phi n (named-block k b i n e mi (behind-named i.operands (o, n) h))) m

pub lowered-law : LoweredLaw
lowered-law t f x computed source k j b i e g p m =
    let rules = valid-law t forms.Source f source.valid source.classes in
    let c = lowered-copy t f rules source.once k j b i e g p m in
    subst (λ r. (copy_solved t x r ≡ true) ↔ Admits t f r) (sym c.3) (copy-told t f x computed rules (ends t forms.Source f source.valid) (copy_variable t (operand_widths t f c.1) ∷ []) c.0 c.2)
