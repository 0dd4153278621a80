-- Labels of block splits, of region splits and of those at least cost agree on the ways between blocks.
use Rattle.std.proofs.Common.{◌≡◌, ◌⊎◌, inl, inr, ℕ, Bool, true, false, cond, not, ◌&&◌, ◌||◌, ◌+◌, List, [], ◌∷◌, ◌++◌, Option, Some, None, filter, flat_map, length, refl, sym, ap, ◌∙◌, subst}
use Rattle.std.specs.Prelude.{nat_le, option_map}
use Rattle.std.specs.List.{list_any}
use Rattle.target_base.specs.declared.types.Reg.{Reg}
use Rattle.target_base.specs.declared.types.Target.{Target}
use Rattle.meaning.specs.Live.{Among as Member, here as first, there as later}
use Rattle.mir_func.specs.declared.func.Edge.{Edge as Successor}
use Rattle.mir_func.specs.declared.func.Block.{Block}
use Rattle.mir_func.specs.Value.{Function}
use Rattle.mir_func.specs.Binding.{does, is_terminator}
use Rattle.mir_meaning.specs.Points.{Start, block_points}
use Rattle.mir_meaning.specs.Rules.{block_numbers}
use Rattle.live_lanes.specs.declared.ask.labels.Mark.{Mark}
use Rattle.instr_effects.proofs.Members.{map-in, member-elim, member-none}
use Rattle.live_laws.proofs.Effects.Blocks.{block-numbered, member-slice, named-there, slice-member}
use Rattle.live_laws.proofs.Effects.Moved.{Apart}
use Rattle.live_laws.proofs.Effects.Moving.{some-same}
use Rattle.lowering_laws.specs.Shapes.{IsLowered}
use Rattle.split_kit.specs.Split.{RangeLive, start_label}
use Rattle.split_choose.specs.Offers.{Head, In, Inside, Nowhere, Out, Shows, Tail, View, Whole, at_gap, at_start, block_marks, borders, first_id, inside, inside_marks, is_clear, is_dividable, is_in, least, live_at, region_marks, regions, some_marks, touching}
use Rattle.split_choose.specs.Cuts.{Bundle, Choice, IsChoice, change_at, choice_marks, choice_of, from_first_gap, in_end, in_inside, in_start, label_of}
use Rattle.split_laws.specs.Laws.{LabelsAgree, Meets}
use Rattle.split_laws.specs.Offers.{BlockLabelsAgree, CutLabelsAgree, RegionLabelsAgree}
use Rattle.split_laws.proofs.Borders.{enters, enters-point, in-end-clear, in-same, in-start-clear, joined, leaves, leaves-point, own-numbers}
use Rattle.split_laws.proofs.Marked.{Owns, Parted, agrees, end_label, own-behind, own-first, owns-each, starts-with, taken, three, three-block}
use Rattle.split_laws.proofs.Points.{block-ids-apart}

module _ (t : Target) (f : Function) (low : IsLowered t f) (v : ℕ) where
  abbrev first-gap : Block → Option ℕ
  first-gap b = first_id b.instrs

  abbrev last-gap : Block → Option ℕ
  last-gap b = first_id (filter (does is_terminator t) b.instrs)

  -- marks at starts, at first gaps and before terminators: labels agree where those at the ends do
  agree-by :
      (ms : List Mark) (parted : (b : Block) → Member b f.blocks → Parted t ms b)
      → ((b : Block) (mb : Member b f.blocks) (e : Successor) → Member e b.successors → (d : Block) (md : Member d f.blocks) → e.block ≡ d.number → RangeLive t f v (Start e.block) → end_label t ms b (parted b mb) ≡ taken (parted d md).start 0)
      → LabelsAgree t f v ms
  agree-by ms parted same b mb = agrees t f v ms b (parted b mb) meets (block-ids-apart f low.function b mb)
    where
      meets : Meets t f v ms b.successors (end_label t ms b (parted b mb))
      meets e me h =
          let place = member-slice b f.blocks mb in
          let z = block-numbered e.block f.blocks (named-there f (λ k c g. low.rules.blocks k c g) place.0 b e.block place.1 (map-in (λ (s : Successor). s.block) e b.successors me)) in
          let md = slice-member f.blocks z.0 z.1 z.2 in
          subst (λ n. end_label t ms b (parted b mb) ≡ start_label ms n) (sym z.3) (same b mb e me z.1 md z.3 h ∙ sym (starts-with t ms z.1 (parted z.1 md)))

  -- the marks of each block by themselves
  abbrev parted-each : (start gap last : Block → Option ℕ) (b : Block) → Member b f.blocks → Parted t (flat_map (λ (c : Block). three c.number (first-gap c) (last-gap c) (start c) (gap c) (last c)) f.blocks) b
  parted-each start gap last b mb = record {
    start = start b;
    gap = gap b;
    last = last b;
    owns = owns-each (λ (c : Block). three c.number (first-gap c) (last-gap c) (start c) (gap c) (last c)) (λ c m k. three-block c.number (first-gap c) (last-gap c) (start c) (gap c) (last c) m k) f.blocks (own-numbers t f low v) b mb;
  }

  agree-each :
      (start gap last : Block → Option ℕ)
      → ((b : Block) → Member b f.blocks → (e : Successor) → Member e b.successors → (d : Block) → Member d f.blocks → e.block ≡ d.number → RangeLive t f v (Start e.block) → taken (last b) (taken (gap b) (taken (start b) 0)) ≡ taken (start d) 0)
      → LabelsAgree t f v (flat_map (λ (c : Block). three c.number (first-gap c) (last-gap c) (start c) (gap c) (last c)) f.blocks)
  agree-each start gap last same = agree-by (flat_map (λ (c : Block). three c.number (first-gap c) (last-gap c) (start c) (gap c) (last c)) f.blocks) (λ b mb. parted-each start gap last b mb) (λ b mb e me d md q h. same b mb e me d md q h)

  -- a block split: label 0 at each border

  module _ (view : View) where
    blocks-in : (n : ℕ) (bs : List Block) (m : Mark) → Member m (block_marks t f v view n bs) → Member m.block (block_numbers bs)
    blocks-in n [] m k = absurd (member-none m k)
    blocks-in n (c ∷ bs) m k = go (nat_le 2 (length (touching t f v view c))) k (blocks-in n bs m) (blocks-in (n + 1) bs m)
      where
        go : (y : Bool) → Member m (cond y (at_gap c.number (first-gap c) (n + 1) ∷ at_gap c.number (last-gap c) 0 ∷ block_marks t f v view (n + 1) bs) (block_marks t f v view n bs)) → (Member m (block_marks t f v view n bs) → Member m.block (block_numbers bs)) → (Member m (block_marks t f v view (n + 1) bs) → Member m.block (block_numbers bs)) → Member m.block (block_numbers (c ∷ bs))
        go false j ih more = later (ih j)
        go true j ih more =
            member-elim m (at_gap c.number (first-gap c) (n + 1)) (at_gap c.number (last-gap c) 0 ∷ block_marks t f v view (n + 1) bs)
            (λ e. subst (λ x. Member x (block_numbers (c ∷ bs))) (sym (ap (λ (z : Mark). z.block) e)) first)
            (λ i. member-elim m (at_gap c.number (last-gap c) 0) (block_marks t f v view (n + 1) bs)
            (λ e. subst (λ x. Member x (block_numbers (c ∷ bs))) (sym (ap (λ (z : Mark). z.block) e)) first)
            (λ h. later (more h)) i) j

    -- none, or one with the next label and one with label 0
    abbrev Blocked : List Mark → Block → Type 0
    Blocked ms b = Owns ms b.number (three b.number (first-gap b) (last-gap b) None None None) ⊎ ((k : ℕ) × Owns ms b.number (three b.number (first-gap b) (last-gap b) None (Some k) (Some 0)))

    blocked : (n : ℕ) (bs : List Block) → Apart (block_numbers bs) → (b : Block) → Member b bs → Blocked (block_marks t f v view n bs) b
    blocked n [] a b mb = absurd (member-none b mb)
    blocked n (c ∷ bs) a b mb =
        member-elim b c bs
        (λ e. subst (λ (d : Block). Blocked (block_marks t f v view n (c ∷ bs)) d) (sym e) (here (nat_le 2 (length (touching t f v view c)))))
        (λ k. behind (nat_le 2 (length (touching t f v view c))) (blocked n bs a.1 b k) (blocked (n + 1) bs a.1 b k) k) mb
      where
        past : (m : ℕ) (x : Mark) → Member x (block_marks t f v view m bs) → x.block ≡ c.number → ⊥
        past m x k q = a.0 (subst (λ y. Member y (block_numbers bs)) q (blocks-in m bs x k))

        here : (y : Bool) → Blocked (cond y (at_gap c.number (first-gap c) (n + 1) ∷ at_gap c.number (last-gap c) 0 ∷ block_marks t f v view (n + 1) bs) (block_marks t f v view n bs)) c
        here true = inr (n + 1, own-first c.number (three c.number (first-gap c) (last-gap c) None (Some (n + 1)) (Some 0)) (block_marks t f v view (n + 1) bs) (three-block c.number (first-gap c) (last-gap c) None (Some (n + 1)) (Some 0)) (past (n + 1)))
        here false = inl (own-first c.number [] (block_marks t f v view n bs) (λ x k. absurd (member-none x k)) (past n))

        two-block : (x : Mark) → Member x (three c.number (first-gap c) (last-gap c) None (Some (n + 1)) (Some 0)) → Member b bs → x.block ≡ b.number → ⊥
        two-block x k m q = a.0 (subst (λ y. Member y (block_numbers bs)) (sym q ∙ three-block c.number (first-gap c) (last-gap c) None (Some (n + 1)) (Some 0) x k) (map-in (λ (d : Block). d.number) b bs m))

        behind : (y : Bool) → Blocked (block_marks t f v view n bs) b → Blocked (block_marks t f v view (n + 1) bs) b → Member b bs → Blocked (cond y (at_gap c.number (first-gap c) (n + 1) ∷ at_gap c.number (last-gap c) 0 ∷ block_marks t f v view (n + 1) bs) (block_marks t f v view n bs)) b
        behind false same more m = same
        behind true same (inl o) m = inl (own-behind b.number (three c.number (first-gap c) (last-gap c) None (Some (n + 1)) (Some 0)) (block_marks t f v view (n + 1) bs) (three b.number (first-gap b) (last-gap b) None None None) (λ x k q. two-block x k m q) o)
        behind true same (inr z) m = inr (z.0, own-behind b.number (three c.number (first-gap c) (last-gap c) None (Some (n + 1)) (Some 0)) (block_marks t f v view (n + 1) bs) (three b.number (first-gap b) (last-gap b) None (Some z.0) (Some 0)) (λ x k q. two-block x k m q) z.1)

    parted-by : (ms : List Mark) (b : Block) → Blocked ms b → (p : Parted t ms b) × (end_label t ms b p ≡ 0) × (taken p.start 0 ≡ 0)
    parted-by ms b (inl o) = (record { start = None; gap = None; last = None; owns = o }, refl, refl)
    parted-by ms b (inr z) = (record { start = None; gap = Some z.0; last = Some 0; owns = z.1 }, refl, refl)

    abbrev offered : List Mark
    offered = block_marks t f v view 0 f.blocks

    each : (b : Block) → Member b f.blocks → (p : Parted t offered b) × (end_label t offered b p ≡ 0) × (taken p.start 0 ≡ 0)
    each b mb = parted-by offered b (blocked 0 f.blocks (own-numbers t f low v) b mb)

    block-agrees : LabelsAgree t f v offered
    block-agrees = agree-by offered (λ b mb. (each b mb).0) (λ b mb e me d md q h. (each b mb).1 ∙ sym (each d md).2)

  -- a region split: at a border where the range is live label 1 where its bundle is in

  -- where a region lies in a block, by these tests: the block is clear and holds a point; the range is live at its start, whose bundle is in; and so at its end
  abbrev lies : Bool → Bool → Bool → Bool → Bool → Inside
  lies q l i m j = cond (not q) Nowhere (cond (not ((l && not i) || (m && not j))) Whole (cond (l && i) Head (cond (m && j) Tail Nowhere)))

  abbrev start-of : Inside → Option ℕ
  start-of Nowhere = None
  start-of Whole = Some 1
  start-of Head = Some 1
  start-of Tail = None

  abbrev gap-of : Inside → Option ℕ
  gap-of Nowhere = None
  gap-of Whole = None
  gap-of Head = None
  gap-of Tail = Some 1

  abbrev last-of : Inside → Option ℕ
  last-of Nowhere = None
  last-of Whole = None
  last-of Head = Some 0
  last-of Tail = None

  starts : (q i m j : Bool) → (i ≡ true → q ≡ true) → taken (start-of (lies q true i m j)) 0 ≡ cond i 1 0
  starts false true m j h = absurd (let e = h refl in cc)
  starts false false m j h = refl
  starts true true true true h = refl
  starts true true true false h = refl
  starts true true false j h = refl
  starts true false true true h = refl
  starts true false true false h = refl
  starts true false false j h = refl

  abbrev end-of : Inside → ℕ
  end-of x = taken (last-of x) (taken (gap-of x) (taken (start-of x) 0))

  ends : (q l i j : Bool) → (j ≡ true → q ≡ true) → end-of (lies q l i true j) ≡ cond j 1 0
  ends false l i true h = absurd (let e = h refl in cc)
  ends false l i false h = refl
  ends true true true true h = refl
  ends true true true false h = refl
  ends true true false true h = refl
  ends true true false false h = refl
  ends true false i true h = refl
  ends true false i false h = refl

  module _ (registers : List (Option Reg)) (view : View) (shows : Shows t f registers v view) (p : Reg) where
    marks-as : (b : Block) (x : Inside) → inside_marks t f v view b x ≡ three b.number (first-gap b) (last-gap b) (start-of x) (gap-of x) (last-of x)
    marks-as b Nowhere = refl
    marks-as b Whole = refl
    marks-as b Head = refl
    marks-as b Tail = refl

    abbrev has : Block → Bool
    has b = is_clear t f v view p b && list_any view.is_point (block_points b)

    abbrev at : Block → Inside
    at b = inside t f v view p b

    holds : (a c : Bool) → a ≡ true → c ≡ true → (a && c) ≡ true
    holds a c x y = λ k. x k && y k

    region-agrees : LabelsAgree t f v (region_marks t f v view p)
    region-agrees =
        subst (LabelsAgree t f v) (λ k. flat_map (λ (b : Block). sym (marks-as b (at b)) k) f.blocks)
        (agree-each (λ b. start-of (at b)) (λ b. gap-of (at b)) (λ b. last-of (at b)) same)
      where
        same : (b : Block) → Member b f.blocks → (e : Successor) → Member e b.successors → (d : Block) → Member d f.blocks → e.block ≡ d.number → RangeLive t f v (Start e.block) → end-of (at b) ≡ taken (start-of (at d)) 0
        same b mb e me d md q h =
            let live = subst (λ n. RangeLive t f v (Start n)) q h in
            let out = leaves t f low v registers view shows b mb e me h in
            let into = enters t f low v registers view shows d md live in
            let li = live_at t f v view (In b.number) in
            let ii = is_in t f v view p (In b.number) in
            let io = is_in t f v view p (Out b.number) in
            let lo = live_at t f v view (Out d.number) in
            let jo = is_in t f v view p (Out d.number) in
            let ji = is_in t f v view p (In d.number) in
            let one : end-of (at b) ≡ cond io 1 0 =
            (λ k. end-of (lies (has b) li ii (out k) io))
            ∙ ends (has b) li ii io (λ x. holds (is_clear t f v view p b) (list_any view.is_point (block_points b)) (in-end-clear t f low v registers view shows p b mb out x) (leaves-point t f low v registers view shows b mb e me h)) in
            let two : taken (start-of (at d)) 0 ≡ cond ji 1 0 =
            (λ k. taken (start-of (lies (has d) (into k) ji lo jo)) 0)
            ∙ starts (has d) ji lo jo (λ x. holds (is_clear t f v view p d) (list_any view.is_point (block_points d)) (in-start-clear t f low v registers view shows p d md into x) (enters-point t f low v registers view shows d md live)) in
            let bundles : io ≡ ji = in-same t f low v registers view shows p (Out b.number) (In d.number) (subst (λ n. view.one_bundle (Out b.number, In n) ≡ true) q (joined t f low v registers view shows b mb e me h)) in
            one ∙ (ap (λ x. cond x 1 0) bundles ∙ sym two)

    -- a region split at least cost: label 1 where a bundle, or an inside, is chosen

    change : Bool → Bool → Option ℕ
    change old new = cond (cond old new (not new)) None (Some (label_of new))

    begins : Bool → Option ℕ
    begins a = cond a (Some 1) None

    chosen-marks : (n : ℕ) (F B : Option ℕ) (a c e : Bool) → cond a (at_start n 1 ∷ []) [] ++ change_at n F a c ++ change_at n B c e ≡ three n F B (begins a) (change a c) (change c e)
    unfolding change begins
    chosen-marks n F B true true true = refl
    chosen-marks n F B true true false = refl
    chosen-marks n F B true false true = refl
    chosen-marks n F B true false false = refl
    chosen-marks n F B false true true = refl
    chosen-marks n F B false true false = refl
    chosen-marks n F B false false true = refl
    chosen-marks n F B false false false = refl

    begins-with : (a : Bool) → taken (begins a) 0 ≡ label_of a
    unfolding begins
    begins-with true = refl
    begins-with false = refl

    ends-with : (a c e : Bool) → taken (change c e) (taken (change a c) (taken (begins a) 0)) ≡ label_of e
    unfolding change begins
    ends-with true true true = refl
    ends-with true true false = refl
    ends-with true false true = refl
    ends-with true false false = refl
    ends-with false true true = refl
    ends-with false true false = refl
    ends-with false false true = refl
    ends-with false false false = refl

    module _ (choice : Choice) (is : IsChoice t f v view p choice) where
      abbrev A : Block → Bool
      A b = in_start t f v view p choice b

      abbrev M : Block → Bool
      M b = from_first_gap t f v view p choice b

      abbrev E : Block → Bool
      E b = in_end t f v view p choice b

      choice-agrees : LabelsAgree t f v (flat_map (choice_marks t f v view p choice) f.blocks)
      choice-agrees =
          subst (LabelsAgree t f v) (λ k. flat_map (λ (b : Block). sym (chosen-marks b.number (first-gap b) (last-gap b) (A b) (M b) (E b)) k) f.blocks)
          (agree-each (λ b. begins (A b)) (λ b. change (A b) (M b)) (λ b. change (M b) (E b)) same)
        where
          same : (b : Block) → Member b f.blocks → (e : Successor) → Member e b.successors → (d : Block) → Member d f.blocks → e.block ≡ d.number → RangeLive t f v (Start e.block) → taken (change (M b) (E b)) (taken (change (A b) (M b)) (taken (begins (A b)) 0)) ≡ taken (begins (A d)) 0
          same b mb e me d md q h =
              let out = leaves t f low v registers view shows b mb e me h in
              let into = enters t f low v registers view shows d md (subst (λ n. RangeLive t f v (Start n)) q h) in
              let one : E b ≡ choice (Bundle (Out b.number)) = λ k. cond (out k) (choice (Bundle (Out b.number))) (in_inside t f v view p choice b) in
              let two : A d ≡ choice (Bundle (In d.number)) = λ k. cond (into k) (choice (Bundle (In d.number))) (in_inside t f v view p choice d) in
              let bundles = is.together (Out b.number) (In d.number) (subst (λ n. view.one_bundle (Out b.number, In n) ≡ true) q (joined t f low v registers view shows b mb e me h)) in
              ends-with (A b) (M b) (E b) ∙ (ap label_of (one ∙ (bundles ∙ sym two)) ∙ sym (begins-with (A d)))

-- the labels of an offer

pub block_labels_agree : BlockLabelsAgree
block_labels_agree t f registers v ms low offer = go (is_dividable t f v offer.0 && list_any (live_at t f v offer.0) (borders t f v offer.0)) (block_marks t f v offer.0 0 f.blocks) offer.2 (block-agrees t f low v offer.0)
  where
    go : (y : Bool) (ns : List Mark) → Some ms ≡ cond y (some_marks t f v offer.0 ns) None → LabelsAgree t f v ns → LabelsAgree t f v ms
    go false ns e h = absurd (cc)
    go true [] e h = absurd (cc)
    go true (n ∷ ns) e h = subst (LabelsAgree t f v) (some-same (n ∷ ns) ms (sym e)) h

pub region_labels_agree : RegionLabelsAgree
region_labels_agree t f registers freqs v p ms low offer = go (is_dividable t f v offer.0) (least (regions t f v offer.0 freqs)) offer.2
  where
    go : (y : Bool) (o : Option (ℕ × Reg)) → ◌≡◌ {A = Option (Reg × List Mark)} (Some (p, ms)) (cond y (option_map (λ (c : ℕ × Reg). (c.1, region_marks t f v offer.0 c.1)) o) None) → LabelsAgree t f v ms
    go false o e = absurd (cc)
    go true None e = absurd (cc)
    go true (Some c) e =
        let x : Reg × List Mark = (p, ms) in
        let y : Reg × List Mark = (c.1, region_marks t f v offer.0 c.1) in
        subst (LabelsAgree t f v) (sym (ap (λ (z : Reg × List Mark). z.1) (some-same x y e))) (region-agrees t f low v registers offer.0 offer.1 c.1)

pub cut_labels_agree : CutLabelsAgree
cut_labels_agree t f registers freqs v view region low shows offer =
    let best = offer.1.is in
    let choice = choice_of t f v view region.reg region in
    subst (LabelsAgree t f v) (sym best.labels) (choice-agrees t f low v registers view shows region.reg choice best.choice)
