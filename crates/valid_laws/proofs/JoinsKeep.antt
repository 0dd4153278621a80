-- Joins keep the further rules on blocks, and the rule on flags.
use Rattle.std.proofs.Common.{◌≡◌, ◌∙◌, ℕ, true, List, [], ◌∷◌, Some, filter, map, refl, sym, ap, subst}
use Rattle.std.specs.Prelude.{slice_get}
use Rattle.std.specs.List.{list_all}
use Rattle.target_base.specs.declared.types.Target.{Target}
use Rattle.meaning.specs.Live.{Among as Member, here as first, there as later}
use Rattle.mir_func.specs.declared.func.Operand.TheVariants as operands
use Rattle.mir_func.specs.declared.func.Instr.{Instr}
use Rattle.mir_func.specs.declared.func.Block.{Block}
use Rattle.mir_func.specs.Value.{Function}
use Rattle.mir_func.specs.Binding.{Bound, bound}
use Rattle.mir_meaning.specs.Rules.{V8, flags_fit}
use Rattle.instr_effects.proofs.Members.{filter-of, map-of}
use Rattle.live_laws.proofs.Effects.Lists.{all-of}
use Rattle.lowering_laws.specs.Shapes.{IsLowered}
use Rattle.live_edits.specs.declared.fold.Join.{Join}
use Rattle.live_edits.specs.Folded.{folded, folded_block, joined_instr}
use Rattle.join_laws.specs.Joined.{Tried, done, joins, stays}
use Rattle.join_laws.specs.Laws.{HasPlainUndefs}
use Rattle.join_laws.proofs.Asked.{IsAsked, asked}
use Rattle.join_laws.proofs.Ends.{falls-stay, keep, open-same}
use Rattle.join_laws.proofs.Kept.{join-lowered, join-plain}
use Rattle.join_laws.proofs.Operands.{field-stays}
use Rattle.join_laws.proofs.Rules.{all-more, bound-same, move-bound}
use Rattle.valid_laws.specs.Rules.{HasBlockRules, HasFlags}
use Rattle.valid_laws.specs.Kept.{AllEndAlike, JoinKeepsBlocks, JoinKeepsFlags, JoinedKeepsBlocks}
use Rattle.valid_laws.proofs.EndsKept.{alike-keeps-blocks}

module _ (t : Target) (f : Function) (j : Join) where
  joined-alike : (bs : List Block) → ((b : Block) → Member b bs → (k : ℕ) (i : Instr) → slice_get b.instrs k ≡ Some i → V8 t b k i ≡ true) → AllEndAlike t bs (map (folded_block t f j) bs)
  joined-alike [] h = tt
  joined-alike (b ∷ bs) h =
      (record { number = refl; attributes = refl; successors = refl; falls = falls-stay t f j b (h b first); opens = open-same t f j b (h b first) }, joined-alike bs (λ c m. h c (later m)))

pub join-keeps-blocks : JoinKeepsBlocks
join-keeps-blocks t f j low has = alike-keeps-blocks t f (folded t j f) (joined-alike t f j f.blocks (λ b m k i e. low.terminators b k i m e)) has

module _ (t : Target) (f : Function) (j : Join) (a : IsAsked t f j) where
  flag : (b : Bound) → flags_fit (move-bound t f j a b) ≡ flags_fit b
  flag (q, operands.Reg o) = field-stays t f j a (λ p. flags_fit (q, operands.Reg p)) o refl
  flag (q, operands.Imm z) = refl
  flag (q, operands.Block z) = refl
  flag (q, operands.Stack z) = refl
  flag (q, operands.FixedStack z) = refl
  flag (q, operands.Symbol z) = refl
  flag (q, operands.Index z) = refl
  flag (q, operands.Mask z) = refl

  flags : HasFlags t f → HasFlags t (folded t j f)
  flags has c x mc mx =
      let b = map-of (folded_block t f j) c f.blocks mc in
      let i = map-of (joined_instr t j) x (filter (keep t f j) b.0.instrs) (subst (λ (d : Block). Member x d.instrs) b.2 mx) in
      let mi = (filter-of (keep t f j) i.0 b.0.instrs i.1).0 in
      subst (λ y. list_all flags_fit (bound t y) ≡ true) (sym i.2)
      (ap (list_all flags_fit) (bound-same t f j a i.0)
      ∙ all-more flags_fit (move-bound t f j a) (bound t i.0) (λ y m. flag y ∙ all-of flags_fit y (bound t i.0) m (has b.0 i.0 b.1 mi)))

pub join-keeps-flags : JoinKeepsFlags
join-keeps-flags t f id j low z has = flags t f j (asked t f id j low z.0) has

tried-keeps : (t : Target) {ids : List ℕ} {f g : Function} {js : List Join} → Tried t ids f js g → IsLowered t f → HasPlainUndefs t f → HasBlockRules t f → HasFlags t f → HasBlockRules t g × HasFlags t g
tried-keeps t done low plain has marks = (has, marks)
tried-keeps t (joins {f = f} {id = id} {j = j} z rest) low plain has marks =
    let a = asked t f id j low z.0 in
    tried-keeps t rest (join-lowered t f j a low plain z.1) (join-plain t f j a low plain z.1) (join-keeps-blocks t f j low has) (join-keeps-flags t f id j low z marks)
tried-keeps t (stays never rest) low plain has marks = tried-keeps t rest low plain has marks

pub joined-keeps-blocks : JoinedKeepsBlocks
joined-keeps-blocks t freqs f g js low plain h has marks = tried-keeps t h low plain has marks
