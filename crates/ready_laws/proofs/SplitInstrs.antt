-- The instructions behind a split: copies between parts, and instructions with a part in the range's place.
use Rattle.std.proofs.Common.{◌≡◌, ◌∷◌, ℕ, Bool, List, [], map, refl, subst}
use Rattle.meaning.specs.Live.{Among as Member, here as first, there as later}
use Rattle.mir_func.specs.declared.func.RegOp.{RegOp}
use Rattle.mir_func.specs.declared.func.Operand.{Operand}
use Rattle.mir_func.specs.declared.func.Operand.TheVariants as operands
use Rattle.mir_func.specs.declared.func.Instr.{Instr}
use Rattle.mir_func.specs.declared.func.Block.{Block}
use Rattle.mir_func.specs.Value.{Function}
use Rattle.mir_func.specs.Binding.{registers}
use Rattle.mir_meaning.specs.Points.{Point}
use Rattle.mir_meaning.specs.Renaming.{renamed_instr, renamed_operand}
use Rattle.instr_effects.proofs.Members.{member-elim, member-none}
use Rattle.live_lanes.specs.declared.ask.labels.Mark.{Mark}
use Rattle.split_kit.specs.Split.{as_part, blocks_split, split_by}
use Rattle.split_laws.proofs.Instrs.{block-all, copy, split-of}

module _ (f : Function) (v : ℕ) (ms : List Mark) (live : Point → Bool) where
  blocks : (split_by live f v ms).blocks ≡ blocks_split live f v ms f.next_id f.blocks
  unfolding split_by
  blocks = refl

  -- what holds of copies and of instructions with parts holds of all behind the split
  pub each-split : (P : Instr → Type 0) → ((id from to : ℕ) → P (copy live f v ms id from to)) → ((b : Block) (i : Instr) → Member b f.blocks → Member i b.instrs → (label : ℕ) → P (renamed_instr (as_part f v label) i))
      → (c : Block) (x : Instr) → Member c (split_by live f v ms).blocks → Member x c.instrs → P x
  each-split P copies parts c x mc mx =
      let z = split-of live f v ms f.next_id f.blocks c (subst (Member c) blocks mc) in
      block-all live f v ms P (λ id from to p e h k. copies id from to) z.1 (λ i mi label h. parts z.1 i z.2 mi label) z.0 x (subst (λ (d : Block). Member x d.instrs) z.3 mx)

-- a register of an instruction with other registers
pub register-was : (r : RegOp → RegOp) (os : List Operand) (o : RegOp) → Member o (registers (map (renamed_operand r) os)) → (p : RegOp) × Member p (registers os) × (o ≡ r p)
register-was r [] o m = absurd (member-none o m)
register-was r (operands.Reg p ∷ os) o m = member-elim o (r p) (registers (map (renamed_operand r) os)) (λ e. (p, first, e)) (λ k. let z = register-was r os o k in (z.0, later z.1, z.2)) m
register-was r (operands.Imm z ∷ os) o m = register-was r os o m
register-was r (operands.Block z ∷ os) o m = register-was r os o m
register-was r (operands.Stack z ∷ os) o m = register-was r os o m
register-was r (operands.FixedStack z ∷ os) o m = register-was r os o m
register-was r (operands.Symbol z ∷ os) o m = register-was r os o m
register-was r (operands.Index z ∷ os) o m = register-was r os o m
register-was r (operands.Mask z ∷ os) o m = register-was r os o m
