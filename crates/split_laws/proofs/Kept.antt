-- A function with a range split is in the form in which ranges are split again.
use Rattle.std.proofs.Common.{◌≡◌, ◌<◌, ◌+◌, not, ◌||◌, ◌&&◌, ◌++◌, ◌∙◌, ℕ, suc, Bool, true, false, List, [], ◌∷◌, Some, drop, take, replicate, refl, sym, ap, subst}
use Rattle.std.specs.Prelude.{is_some, slice_get}
use Rattle.std.specs.List.{list_any}
use Rattle.std.proofs.lemmas.Bool.{and_right}
use Rattle.target_base.specs.declared.types.Target.{Target}
use Rattle.target_base.specs.Rules.{is_phi}
use Rattle.meaning.specs.Live.{Among as Member, here as first, there as later}
use Rattle.mir_func.specs.declared.func.Instr.{Instr}
use Rattle.mir_func.specs.declared.func.Block.{Block}
use Rattle.mir_func.specs.Value.{Function}
use Rattle.mir_func.specs.Binding.{class_of, does, is_branch, is_lowered_away, passes}
use Rattle.mir_meaning.specs.declared.Form.TheVariants as forms
use Rattle.mir_meaning.specs.Codes.{first_number}
use Rattle.mir_meaning.specs.Points.{Point, Tests}
use Rattle.mir_meaning.specs.Renaming.{renamed_instr}
use Rattle.mir_meaning.specs.Rules.{V1, V5, V7, V8, V9, block_numbers, phi_stands}
use Rattle.live_lanes.specs.declared.ask.labels.Mark.{Mark}
use Rattle.live_laws.specs.Effects.Shaped.{IsShaped}
use Rattle.live_laws.proofs.Effects.Blocks.{slice-member}
use Rattle.lowering_laws.specs.Shapes.{IsLowered}
use Rattle.split_kit.specs.Split.{RangeLive, as_part, block_split, blocks_split, greatest_label, part, split_by, start_label, whole}
use Rattle.split_laws.specs.Laws.{LabelsAgree, SplitKeepsLowered}
use Rattle.split_laws.proofs.Suits.{Suits}
use Rattle.split_laws.proofs.Ends.{Stay, copy-effect, meet-stay}
use Rattle.split_laws.proofs.Parts.{class-part}
use Rattle.split_laws.proofs.Splitting.{keep-all, known, not-phi, suits}
use Rattle.split_laws.proofs.PartShapes.{class-split, part-shape}
use Rattle.split_laws.proofs.CopyShapes.{copy-shape}
use Rattle.split_laws.proofs.Instrs.{At, block-all, copy, split-at, split-of}
use Rattle.split_laws.proofs.Ids.{split-function}
use Rattle.split_laws.proofs.LiveClass.{range-class}
use Rattle.split_laws.proofs.SplitRules.{eight, first-numbers, five, nine, numbers-same}

none-wrong : (t : Target) (f : Function) (is : List Instr) → ((i : Instr) → Member i is → V1 t f i ≡ true) → list_any (λ i. does is_branch t i && not (V1 t f i)) is ≡ false
none-wrong t f [] h = refl
none-wrong t f (i ∷ is) h = λ k. and_right (does is_branch t i) (not (V1 t f i)) (ap not (h i first)) k || none-wrong t f is (λ j m. h j (later m)) k

module _ (t : Target) (f : Function) (v : ℕ) (ms : List Mark) (live : Point → Bool) (tests : Tests (RangeLive t f v) live) (low : IsLowered t f) (meet : LabelsAgree t f v ms) where
  abbrev g : Function
  g = split_by live f v ms

  abbrev count : ℕ
  count = greatest_label ms + 1

  classes : g.classes ≡ f.classes ++ replicate count (class_of f v)
  unfolding split_by
  classes = refl

  blocks : g.blocks ≡ blocks_split live f v ms f.next_id f.blocks
  unfolding split_by
  blocks = refl

  suit : Suits t f
  suit = suits t f low

  live-class : (p : Point) → live p ≡ true → is_some (class_of f v) ≡ true
  live-class p e = range-class t f v (keep-all t f g v ms live tests suit meet) p ((tests p).0 e)

  -- instructions

  record IsKept (i : Instr) : Type 0 where
    pub shaped : IsShaped t g i
    pub lowered : does (λ e. not (is_lowered_away e)) t i ≡ true

  copy-kept : (id from to : ℕ) (p : Point) → live p ≡ true → from < count → to < count → IsKept (copy live f v ms id from to)
  copy-kept id from to p e h k = record {
    shaped =
        copy-shape t g id (part f from) (part f to) (class-part t f g v count classes to k ∙ sym (class-part t f g v count classes from h))
        (ap is_some (class-part t f g v count classes from h) ∙ live-class p e);
    lowered = ap (passes (λ e. not (is_lowered_away e))) (copy-effect t id (whole true (part f to) ∷ whole false (part f from) ∷ []));
  }

  part-kept : (b : Block) → Member b f.blocks → (i : Instr) → Member i b.instrs → (label : ℕ) → label < count → IsKept (renamed_instr (as_part f v label) i)
  part-kept b mb i mi label h = record {
    shaped = part-shape t f g v count label h classes i (suit.lowered b i mb mi) (low.rules.shaped b i mb mi);
    lowered = low.lowered b i mb mi;
  }

  kept-in : (n : ℕ) (b : Block) → Member b f.blocks → (x : Instr) → Member x (block_split live f v ms n b).instrs → IsKept x
  kept-in n b mb x mx = block-all live f v ms IsKept copy-kept b (part-kept b mb) n x mx

  kept : (c : Block) (x : Instr) → Member c g.blocks → Member x c.instrs → IsKept x
  kept c x mc mx =
      let z = split-of live f v ms f.next_id f.blocks c (subst (Member c) blocks mc) in
      kept-in z.0 z.1 z.2 x (subst (λ (d : Block). Member x d.instrs) z.3 mx)

  no-phi : (i : Instr) → does (λ e. not (is_lowered_away e)) t i ≡ true → does is_phi t i ≡ false
  no-phi i h = (not-phi t i (known t f low i h).1).0

  -- blocks

  at : (k : ℕ) (c : Block) → slice_get g.blocks k ≡ Some c → At live f v ms f.blocks f.next_id k c
  at k c e = split-at live f v ms f.blocks f.next_id k c (subst (λ bs. slice_get bs k ≡ Some c) blocks e)

  stays : (b : Block) → Member b f.blocks → Stay t live f v ms b (start_label ms b.number) b.instrs
  stays b mb = meet-stay t live f v ms b (start_label ms b.number) b.instrs (meet b mb)

  rule-five : (k : ℕ) (c : Block) → slice_get g.blocks k ≡ Some c → V5 g k c ≡ true
  rule-five k c e =
      let z = at k c e in
      subst (λ d. V5 g k d ≡ true) (sym z.split)
      (five t live f v ms z.block z.from g k (ap block_numbers blocks ∙ numbers-same live f v ms f.next_id f.blocks) (ap (λ bs. block_numbers (take k bs)) blocks ∙ first-numbers live f v ms k f.next_id f.blocks)
      ∙ low.rules.blocks k z.block z.there)

  rule-seven : (k : ℕ) (c : Block) (j : ℕ) (i : Instr) → slice_get g.blocks k ≡ Some c → slice_get c.instrs j ≡ Some i → V7 t forms.Source g k c j i ≡ true
  unfolding V7
  rule-seven k c j i e q =
      let x = kept c i (slice-member g.blocks k c e) (slice-member c.instrs j i q) in
      ap (λ b. not b || phi_stands t g k c j i) (no-phi i x.lowered)

  rule-eight : (c : Block) (j : ℕ) (i : Instr) → Member c g.blocks → slice_get c.instrs j ≡ Some i → V8 t c j i ≡ true
  rule-eight c j i mc =
      let z = split-of live f v ms f.next_id f.blocks c (subst (Member c) blocks mc) in
      subst (λ (d : Block). slice_get d.instrs j ≡ Some i → V8 t d j i ≡ true) (sym z.3)
      (eight t live f v ms z.1 z.0 (stays z.1 z.2) (λ n x q. low.terminators z.1 n x z.2 q) j i)

  rule-nine : (k : ℕ) (c : Block) → slice_get g.blocks k ≡ Some c → V9 t g k c ≡ true
  rule-nine k c e =
      let z = at k c e in
      let mb : Member z.block f.blocks = slice-member f.blocks k z.block z.there in
      subst (λ d. V9 t g k d ≡ true) (sym z.split)
      (nine t live f v ms z.block z.from (stays z.block mb) g k (ap (λ bs. first_number (drop (suc k) bs)) blocks ∙ z.behind)
      (none-wrong t g (block_split live f v ms z.from z.block).instrs (λ i m. (kept-in z.from z.block mb i m).shaped.operands))
      (none-wrong t f z.block.instrs (λ i m. (low.rules.shaped z.block i mb m).operands))
      ∙ low.successors k z.block z.there)

  split-lowered : IsLowered t g
  split-lowered = record {
    function = split-function live f v ms low.function;
    rules = record {
      classes = λ w c e. class-split t f g v count classes w c low.rules.classes e;
      shaped = λ c i mc mi. (kept c i mc mi).shaped;
      blocks = rule-five;
      phis = rule-seven;
    };
    lowered = λ c i mc mi. (kept c i mc mi).lowered;
    terminators = rule-eight;
    successors = rule-nine;
  }

pub split_keeps_lowered : SplitKeepsLowered
split_keeps_lowered t f g v ms low meet s = subst (IsLowered t) (sym s.2) (split-lowered t f v ms s.0 s.1 low meet)
