-- Labels of block splits, of region splits and of those at least cost stand in layout order.
use Rattle.std.proofs.Common.{◌≡◌, ◌≤◌, ℕ, suc, Bool, true, false, cond, not, ◌&&◌, ◌||◌, ◌+◌, take, List, [], ◌∷◌, ◌++◌, Option, Some, None, filter, flat_map, length, refl, sym, ap, ◌∙◌, subst, arith, eq-eqb}
use Rattle.std.proofs.lemmas.Bool.{leb-true}
use Rattle.std.specs.Prelude.{nat_eq, nat_le, option_map, slice_get}
use Rattle.std.specs.List.{list_any}
use Rattle.target_base.specs.declared.types.Reg.{Reg}
use Rattle.target_base.specs.declared.types.Target.{Target}
use Rattle.target_base.proofs.Tests.{second_of_both}
use Rattle.meaning.specs.Live.{Among as Member, here as first, there as later}
use Rattle.mir_func.specs.declared.func.Instr.{Instr}
use Rattle.mir_func.specs.declared.func.Block.{Block}
use Rattle.mir_func.specs.Value.{Function}
use Rattle.mir_func.specs.Binding.{does, is_terminator}
use Rattle.mir_meaning.specs.Points.{touches}
use Rattle.mir_meaning.specs.Rules.{V8}
use Rattle.live_lanes.specs.declared.ask.labels.Mark.{Mark}
use Rattle.live_lanes.specs.declared.ask.labels.Spot.{Spot}
use Rattle.live_lanes.specs.declared.ask.labels.Spot.TheVariants.{Border, Gap as AtGap}
use Rattle.instr_effects.proofs.Members.{filter-of, member-elim, member-none}
use Rattle.live_laws.proofs.Effects.Moving.{some-same}
use Rattle.lowering_laws.specs.Shapes.{IsLowered}
use Rattle.split_kit.specs.PartEdits.{AreInTurn, IsThinned, none, keeps, drops, gap_of, gaps_from, spots_of}
use Rattle.split_kit.proofs.BlockEdits.{all-left-out, spots}
use Rattle.split_choose.specs.Offers.{Head, Inside, Nowhere, Out, Tail, View, Whole, at_gap, at_start, before_terminators, block_marks, borders, first_id, inside, inside_marks, is_dividable, least, live_at, region_marks, regions, some_marks, touching}
use Rattle.split_choose.specs.Cuts.{Choice, change_at, choice_marks, choice_of, from_first_gap, in_end, in_inside, in_start, leaves, same_gap}
use Rattle.split_choose.specs.Cuts as cuts
use Rattle.split_laws.specs.Turns.{BlockLabelsInTurn, CutLabelsInTurn, RegionLabelsInTurn}
use Rattle.split_laws.proofs.Borders.{own-numbers}
use Rattle.split_laws.proofs.LaidMarks.{AreLaid, AreOf, each-laid, laid-in-turn, next-laid}
use Rattle.split_laws.proofs.Local.{behind-passes, not-true}

-- the gap before the first of these instructions that passes, or at the block's end
pub gap-thin : (p : Instr → Bool) (b : Block) (is : List Instr) → IsThinned (gaps_from b is) (AtGap (gap_of b (first_id (filter p is))) ∷ [])
gap-thin p b [] = keeps none
gap-thin p b (i ∷ is) = go (p i) (gap-thin p b is)
  where
    go : (q : Bool) → IsThinned (gaps_from b is) (AtGap (gap_of b (first_id (filter p is))) ∷ []) → IsThinned (gaps_from b (i ∷ is)) (AtGap (gap_of b (first_id (cond q (i ∷ filter p is) (filter p is)))) ∷ [])
    go true h = keeps (all-left-out (gaps_from b is))
    go false h = drops h

-- the first gap
pub first-thin : (b : Block) (is : List Instr) → IsThinned (gaps_from b is) (AtGap (gap_of b (first_id is)) ∷ [])
first-thin b [] = keeps none
first-thin b (i ∷ is) = keeps (all-left-out (gaps_from b is))

-- the first gap and that before the first instruction that passes, which isn't the first
both-thin : (p : Instr → Bool) (b : Block) (i : Instr) (is : List Instr) → p i ≡ false → IsThinned (gaps_from b (i ∷ is)) (AtGap (gap_of b (Some i.id)) ∷ AtGap (gap_of b (first_id (filter p (i ∷ is)))) ∷ [])
both-thin p b i is e =
    keeps (subst (λ q. IsThinned (gaps_from b is) (AtGap (gap_of b (first_id (cond q (i ∷ filter p is) (filter p is)))) ∷ [])) (sym e) (gap-thin p b is))

pub at-own : (n : ℕ) (m : Mark) (ms : List Mark) → m.block ≡ n → AreOf n ms → AreOf n (m ∷ ms)
at-own n m ms e h k j = member-elim k m ms (λ q. ap (λ (x : Mark). x.block) q ∙ e) (h k) j

pub no-own : (n : ℕ) → AreOf n []
no-own n m k = absurd (member-none m k)

module _ (t : Target) (f : Function) (low : IsLowered t f) (v : ℕ) (view : View) where
  abbrev ends : Instr → Bool
  ends i = does is_terminator t i

  -- a block split

  more-than-none : (n : ℕ) (xs : List Instr) → nat_le (suc n) (length xs) ≡ true → (x : Instr) × Member x xs
  more-than-none n [] e = absurd (let h : suc n ≤ 0 = leb-true (suc n) 0 e in omega (arith, h))
  more-than-none n (x ∷ xs) e = (x, first)

  block-thin : (b : Block) → Member b f.blocks → nat_le 2 (length (touching t f v view b)) ≡ true
      → IsThinned (spots_of b) (AtGap (gap_of b (first_id b.instrs)) ∷ AtGap (gap_of b (before_terminators t f v view b)) ∷ [])
  unfolding V8
  block-thin b mb e = drops (go b.instrs refl)
    where
      some : (x : Instr) × Member x (touching t f v view b)
      some = more-than-none 1 (touching t f v view b) e

      there : Member some.0 b.instrs × (ends some.0 ≡ false)
      there =
          let z = filter-of (λ (i : Instr). touches v i && not (does is_terminator t i)) some.0 b.instrs some.1 in
          (z.0, not-true (ends some.0) (second_of_both (touches v some.0) (not (ends some.0)) z.1))

      clash : (q : Bool) → q ≡ true → q ≡ false → ⊥
      clash q x y = let z : true ≡ false = sym x ∙ y in cc

      starts : (i : Instr) (is : List Instr) → b.instrs ≡ i ∷ is → ends i ≡ true → ⊥
      starts i is q h =
          member-elim some.0 i is
          (λ s. clash (ends some.0) (ap ends s ∙ h) there.1)
          (λ k. clash (ends some.0) (behind-passes ends [] i is (λ j y g. subst (λ js. (ends y || not (list_any ends (take j js))) ≡ true) q (low.terminators b j y mb (subst (λ js. slice_get js j ≡ Some y) (sym q) g))) h some.0 k) there.1)
          (subst (Member some.0) q there.0)

      by : (i : Instr) (is : List Instr) → b.instrs ≡ i ∷ is → (q : Bool) → ends i ≡ q → IsThinned (gaps_from b (i ∷ is)) (AtGap (gap_of b (Some i.id)) ∷ AtGap (gap_of b (first_id (filter ends (i ∷ is)))) ∷ [])
      by i is q true h = absurd (starts i is q h)
      by i is q false h = both-thin ends b i is h

      go : (is : List Instr) → b.instrs ≡ is → IsThinned (gaps_from b is) (AtGap (gap_of b (first_id is)) ∷ AtGap (gap_of b (first_id (filter ends is))) ∷ [])
      go [] q = absurd (member-none some.0 (subst (Member some.0) q there.0))
      go (i ∷ is) q = by i is q (ends i) refl

  blocks-laid : (n : ℕ) (bs : List Block) → ((b : Block) → Member b bs → Member b f.blocks) → AreLaid bs (block_marks t f v view n bs)
  blocks-laid n [] h = refl
  blocks-laid n (b ∷ bs) h = go (nat_le 2 (length (touching t f v view b))) refl (blocks-laid n bs (λ c m. h c (later m))) (blocks-laid (n + 1) bs (λ c m. h c (later m)))
    where
      go : (q : Bool) → nat_le 2 (length (touching t f v view b)) ≡ q → AreLaid bs (block_marks t f v view n bs) → AreLaid bs (block_marks t f v view (n + 1) bs)
          → AreLaid (b ∷ bs) (cond q (at_gap b.number (first_id b.instrs) (n + 1) ∷ at_gap b.number (before_terminators t f v view b) 0 ∷ block_marks t f v view (n + 1) bs) (block_marks t f v view n bs))
      go true e same more =
          next-laid b bs (at_gap b.number (first_id b.instrs) (n + 1) ∷ at_gap b.number (before_terminators t f v view b) 0 ∷ []) (block_marks t f v view (n + 1) bs)
          (at-own b.number _ _ refl (at-own b.number _ _ refl (no-own b.number)))
          (block-thin b (h b first) e)
          more
      go false e same more = next-laid b bs [] (block_marks t f v view n bs) (no-own b.number) (all-left-out (spots_of b)) same

  block-turns : AreInTurn f (block_marks t f v view 0 f.blocks)
  block-turns = laid-in-turn f (block_marks t f v view 0 f.blocks) (own-numbers t f low v) (blocks-laid 0 f.blocks (λ b m. m))

  -- a region split

  inside-own : (b : Block) (x : Inside) → AreOf b.number (inside_marks t f v view b x)
  inside-own b Nowhere = no-own b.number
  inside-own b Whole = at-own b.number _ _ refl (no-own b.number)
  inside-own b Head = at-own b.number _ _ refl (at-own b.number _ _ refl (no-own b.number))
  inside-own b Tail = at-own b.number _ _ refl (no-own b.number)

  inside-thin : (b : Block) (x : Inside) → IsThinned (spots_of b) (spots (inside_marks t f v view b x))
  inside-thin b Nowhere = all-left-out (spots_of b)
  inside-thin b Whole = keeps (all-left-out (gaps_from b b.instrs))
  inside-thin b Head = keeps (gap-thin ends b b.instrs)
  inside-thin b Tail = drops (first-thin b b.instrs)

  region-turns : (p : Reg) → AreInTurn f (region_marks t f v view p)
  region-turns p =
      laid-in-turn f (region_marks t f v view p) (own-numbers t f low v)
      (each-laid (λ b. inside_marks t f v view b (inside t f v view p b)) (λ b. inside-own b (inside t f v view p b)) f.blocks (λ b m. inside-thin b (inside t f v view p b)))

  -- a region split at least cost

  abbrev change-marks : ℕ → Option ℕ → Option ℕ → Bool → Bool → Bool → List Mark
  change-marks n F B a m e = cond a (at_start n 1 ∷ []) [] ++ change_at n F a m ++ change_at n B m e

  change-own : (n : ℕ) (F B : Option ℕ) (a m e : Bool) → AreOf n (change-marks n F B a m e)
  change-own n F B true true true = at-own n _ _ refl (no-own n)
  change-own n F B true true false = at-own n _ _ refl (at-own n _ _ refl (no-own n))
  change-own n F B true false true = at-own n _ _ refl (at-own n _ _ refl (at-own n _ _ refl (no-own n)))
  change-own n F B true false false = at-own n _ _ refl (at-own n _ _ refl (no-own n))
  change-own n F B false true true = at-own n _ _ refl (no-own n)
  change-own n F B false true false = at-own n _ _ refl (at-own n _ _ refl (no-own n))
  change-own n F B false false true = at-own n _ _ refl (no-own n)
  change-own n F B false false false = no-own n

  -- the two gaps differ
  two-gaps : (b : Block) (gs : List Spot) (F B : Option ℕ) → IsThinned gs (AtGap (gap_of b F) ∷ AtGap (gap_of b B) ∷ []) → IsThinned gs (AtGap (gap_of b F) ∷ []) → IsThinned gs (AtGap (gap_of b B) ∷ []) → (a m e : Bool) → IsThinned (Border ∷ gs) (spots (change-marks b.number F B a m e))
  two-gaps b gs F B both one two true true true = keeps (all-left-out gs)
  two-gaps b gs F B both one two true true false = keeps two
  two-gaps b gs F B both one two true false true = keeps both
  two-gaps b gs F B both one two true false false = keeps one
  two-gaps b gs F B both one two false true true = drops one
  two-gaps b gs F B both one two false true false = drops both
  two-gaps b gs F B both one two false false true = drops two
  two-gaps b gs F B both one two false false false = drops (all-left-out gs)

  -- there is one gap: with one of them there is no change
  one-gap : (b : Block) (gs : List Spot) (F : Option ℕ) → IsThinned gs (AtGap (gap_of b F) ∷ []) → (a out x i : Bool) → IsThinned (Border ∷ gs) (spots (change-marks b.number F F a (cond out a i) (cond out x i)))
  one-gap b gs F one true true true i = keeps (all-left-out gs)
  one-gap b gs F one true true false i = keeps one
  one-gap b gs F one false true true i = drops one
  one-gap b gs F one false true false i = drops (all-left-out gs)
  one-gap b gs F one true false x true = keeps (all-left-out gs)
  one-gap b gs F one true false x false = keeps one
  one-gap b gs F one false false x true = drops one
  one-gap b gs F one false false x false = drops (all-left-out gs)

  both-hold : (x y : Bool) → y ≡ true → (x && y) ≡ x
  both-hold true y h = h
  both-hold false y h = refl

  change-thin : (b : Block) (is : List Instr) (a out x i : Bool)
      → IsThinned (Border ∷ gaps_from b is) (spots (change-marks b.number (first_id is) (first_id (filter ends is)) a (cond (out && same_gap (first_id is) (first_id (filter ends is))) a i) (cond out x i)))
  change-thin b [] a out x i = subst (λ q. IsThinned (Border ∷ gaps_from b []) (spots (change-marks b.number None None a (cond q a i) (cond out x i)))) (sym (both-hold out true refl)) (one-gap b (gaps_from b []) None (first-thin b []) a out x i)
  change-thin b (j ∷ is) a out x i = go (ends j) refl
    where
      go : (q : Bool) → ends j ≡ q
          → IsThinned (Border ∷ gaps_from b (j ∷ is)) (spots (change-marks b.number (Some j.id) (first_id (cond q (j ∷ filter ends is) (filter ends is))) a (cond (out && same_gap (Some j.id) (first_id (cond q (j ∷ filter ends is) (filter ends is)))) a i) (cond out x i)))
      go true e = subst (λ q. IsThinned (Border ∷ gaps_from b (j ∷ is)) (spots (change-marks b.number (Some j.id) (Some j.id) a (cond q a i) (cond out x i)))) (sym (both-hold out (nat_eq j.id j.id) (eq-eqb j.id j.id refl))) (one-gap b (gaps_from b (j ∷ is)) (Some j.id) (first-thin b (j ∷ is)) a out x i)
      go false e =
          two-gaps b (gaps_from b (j ∷ is)) (Some j.id) (first_id (filter ends is)) (keeps (gap-thin ends b is)) (first-thin b (j ∷ is)) (drops (gap-thin ends b is)) a
          (cond (out && same_gap (Some j.id) (first_id (filter ends is))) a i) (cond out x i)

  choice-turns : (p : Reg) (choice : Choice) → AreInTurn f (flat_map (choice_marks t f v view p choice) f.blocks)
  choice-turns p choice =
      laid-in-turn f (flat_map (choice_marks t f v view p choice) f.blocks) (own-numbers t f low v)
      (each-laid (choice_marks t f v view p choice)
      (λ b. change-own b.number (first_id b.instrs) (before_terminators t f v view b) (in_start t f v view p choice b) (from_first_gap t f v view p choice b) (in_end t f v view p choice b))
      f.blocks
      (λ b m. change-thin b b.instrs (in_start t f v view p choice b) (leaves t f v view p b) (choice (cuts.Bundle (Out b.number))) (in_inside t f v view p choice b)))

-- the labels of an offer

pub block_labels_in_turn : BlockLabelsInTurn
block_labels_in_turn t f registers v ms low offer = go (is_dividable t f v offer.0 && list_any (live_at t f v offer.0) (borders t f v offer.0)) (block_marks t f v offer.0 0 f.blocks) offer.2 (block-turns t f low v offer.0)
  where
    go : (y : Bool) (ns : List Mark) → Some ms ≡ cond y (some_marks t f v offer.0 ns) None → AreInTurn f ns → AreInTurn f ms
    go false ns e h = absurd (cc)
    go true [] e h = absurd (cc)
    go true (n ∷ ns) e h = subst (AreInTurn f) (some-same (n ∷ ns) ms (sym e)) h

pub region_labels_in_turn : RegionLabelsInTurn
region_labels_in_turn t f registers freqs v p ms low offer = go (is_dividable t f v offer.0) (least (regions t f v offer.0 freqs)) offer.2
  where
    go : (y : Bool) (o : Option (ℕ × Reg)) → ◌≡◌ {A = Option (Reg × List Mark)} (Some (p, ms)) (cond y (option_map (λ (c : ℕ × Reg). (c.1, region_marks t f v offer.0 c.1)) o) None) → AreInTurn f ms
    go false o e = absurd (cc)
    go true None e = absurd (cc)
    go true (Some c) e =
        let x : Reg × List Mark = (p, ms) in
        let y : Reg × List Mark = (c.1, region_marks t f v offer.0 c.1) in
        subst (AreInTurn f) (sym (ap (λ (z : Reg × List Mark). z.1) (some-same x y e))) (region-turns t f low v offer.0 c.1)

pub cut_labels_in_turn : CutLabelsInTurn
cut_labels_in_turn t f registers freqs v view region low shows offer =
    subst (AreInTurn f) (sym offer.1.is.labels) (choice-turns t f low v view region.reg (choice_of t f v view region.reg region))
