-- Behind a split a writable function stays writable.
use Rattle.std.proofs.Common.{◌≡◌, ◌∷◌, ◌+◌, ◌≤◌, ◌&&◌, not, ℕ, Bool, true, false, cond, List, Some, None, length, refl, sym, subst, []}
use Rattle.std.specs.Prelude.{nat_eq}
use Rattle.target_base.specs.declared.types.Target.{Target}
use Rattle.meaning.specs.Live.{Among, here, there}
use Rattle.mir_func.specs.declared.func.Loc.{Loc}
use Rattle.mir_func.specs.declared.func.Loc.TheVariants.{Fixed, Virtual}
use Rattle.mir_func.specs.declared.func.RegOp.{RegOp}
use Rattle.mir_func.specs.declared.func.Instr.{Instr}
use Rattle.mir_func.specs.declared.func.Block.{Block}
use Rattle.mir_func.specs.Value.{Function}
use Rattle.mir_func.specs.Edits.{made}
use Rattle.mir_func.specs.Binding.{is_definition}
use Rattle.mir_meaning.specs.Points.{Point, Entry, Start, is_range}
use Rattle.mir_meaning.specs.Renaming.{renamed_instr}
use Rattle.live_lanes.specs.declared.ask.labels.Mark.{Mark}
use Rattle.phi_elim.specs.Moves.{copy_op, whole_definition, whole_use}
use Rattle.instr_effects.proofs.Members.{member-elim, member-none}
use Rattle.lowering_laws.specs.Shapes.{IsLowered}
use Rattle.split_kit.specs.Split.{as_part, block_split, blocks_split, changed, instrs_split, label_behind, last_point, number_behind, part, split_by, start_label, whole}
use Rattle.writable_laws.specs.Laws.{SplitStaysWritable}
use Rattle.writable_laws.specs.Writable.{IsWritable}
use Rattle.writable_laws.proofs.Fitting.{InstrsFit, BlockFits, RegisterFits, append-each, block-with, made-copy, next-each, none-each, renamed-fits}
use Rattle.writable_laws.proofs.Lowered.{lowered-fits}
use Rattle.writable_laws.proofs.Whole.{writable-behind}

module _ (t : Target) (f : Function) where
  changed-fits : (n : ℕ) (is_live : Bool) (from to : ℕ) → InstrsFit t (changed f n is_live from to)
  changed-fits n is_live from to = go (is_live && not (nat_eq from to))
    where
      go : (y : Bool) → InstrsFit t (cond y (made n copy_op (whole true (part f to) ∷ whole false (part f from) ∷ []) ∷ []) [])
      go true = next-each t (made n copy_op (whole true (part f to) ∷ whole false (part f from) ∷ [])) [] (made-copy t n (whole_definition (part f to)) (whole_use (part f from)) tt tt refl) (none-each t)
      go false = none-each t

  part-place : (v label : ℕ) (o : RegOp) → RegisterFits t o.loc o.index → RegisterFits t (as_part f v label o).loc (as_part f v label o).index × (is_definition (as_part f v label o) ≡ is_definition o)
  part-place v label o h = at o.loc refl h
    where
      at : (l : Loc) → o.loc ≡ l → RegisterFits t l o.index → RegisterFits t (as_part f v label o).loc (as_part f v label o).index × (is_definition (as_part f v label o) ≡ is_definition o)
      at (Virtual w) e g = go (is_range v o.loc)
        where
          go : (c : Bool) → RegisterFits t (cond c (record o { loc = Virtual (part f label) }) o).loc (cond c (record o { loc = Virtual (part f label) }) o).index × (is_definition (cond c (record o { loc = Virtual (part f label) }) o) ≡ is_definition o)
          go true = (g, refl)
          go false = (subst (λ l. RegisterFits t l o.index) (sym e) g, refl)
      at (Fixed r) e g =
          let same : as_part f v label o ≡ o = λ k. cond (is_range v (e k)) (record o { loc = Virtual (part f label) }) o in
          subst (λ p. RegisterFits t p.loc p.index × (is_definition p ≡ is_definition o)) (sym same) (subst (λ l. RegisterFits t l o.index) (sym e) g, refl)

  module _ (live : Point → Bool) (v : ℕ) (ms : List Mark) where
    instrs-fits : (n : ℕ) (b : Block) (now : ℕ) (is : List Instr) → InstrsFit t is → InstrsFit t (instrs_split live f v ms n b now is)
    instrs-fits n b now [] h = changed-fits n (live (last_point (Start b.number) b.instrs)) now (label_behind ms b.number None now)
    instrs-fits n b now (i ∷ is) h =
        let to = label_behind ms b.number (Some i.id) now in
        let copies = changed f n (live (Entry i.id)) now to in
        let rest = instrs_split live f v ms (n + length copies) b to is in
        append-each t copies (renamed_instr (as_part f v to) i ∷ rest) (changed-fits n (live (Entry i.id)) now to)
        (next-each t (renamed_instr (as_part f v to) i) rest (renamed-fits t (as_part f v to) i (h i here) (part-place v to)) (instrs-fits (n + length copies) b to is (λ x m. h x (there m))))

    blocks-fits : (n : ℕ) (bs : List Block) → ((b : Block) → Among b bs → BlockFits t b) → (d : Block) → Among d (blocks_split live f v ms n bs) → BlockFits t d
    blocks-fits n [] w d m = absurd (member-none d m)
    blocks-fits n (b ∷ bs) w d m =
        let z = w b here in
        member-elim d (block_split live f v ms n b) (blocks_split live f v ms (number_behind live f v ms n (b ∷ [])) bs)
        (λ e. subst (BlockFits t) (sym e) (block-with t b (instrs_split live f v ms n b (start_label ms b.number) b.instrs) z.header (instrs-fits n b (start_label ms b.number) b.instrs z.instrs)))
        (λ k. blocks-fits (number_behind live f v ms n (b ∷ [])) bs (λ x q. w x (there q)) d k) m

    split-fits : ((b : Block) → Among b f.blocks → BlockFits t b) → (d : Block) → Among d (split_by live f v ms).blocks → BlockFits t d
    unfolding split_by
    split-fits w d m = blocks-fits f.next_id f.blocks w d m

    split-head : (split_by live f v ms).head ≡ f.head
    unfolding split_by
    split-head = refl

    split-name : (split_by live f v ms).name ≡ f.name
    unfolding split_by
    split-name = refl

    split-frames : (split_by live f v ms).frames ≡ f.frames
    unfolding split_by
    split-frames = refl

    split-writable : IsLowered t f → IsWritable t f → IsLowered t (split_by live f v ms) → length (split_by live f v ms).classes ≤ 2147483648 → IsWritable t (split_by live f v ms)
    split-writable low w kept few =
        writable-behind t f (split_by live f v ms) w split-head split-name split-frames few kept.rules.classes kept.function.nonempty
        (split-fits (lowered-fits t f low w))
        (λ b i mb mi. (kept.rules.shaped b i mb mi).operands)
        (λ b i mb mi. (kept.rules.shaped b i mb mi).classes)
        (λ k b e. kept.successors k b e)

pub split_stays_writable : SplitStaysWritable
split_stays_writable t f g v ms low split kept w few =
    subst (IsWritable t) (sym split.2) (split-writable t f split.0 v ms low w (subst (IsLowered t) split.2 kept) (subst (λ (h : Function). length h.classes ≤ 2147483648) split.2 few))
