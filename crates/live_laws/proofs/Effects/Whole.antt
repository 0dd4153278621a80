-- The blocks of a function over numbered lanes stand for its code.
use Rattle.std.proofs.Common.{◌≡◌, ◌⊎◌, ◌≤◌, ℕ, Bool, true, false, cond, not, ◌||◌, List, [], ◌∷◌, ◌++◌, Option, Some, None, map, flat_map, filter, filter_map, length, take, refl, sym, ap, ◌∙◌, subst, inl, inr, eqb-true, eq-eqb, arith}
use Rattle.std.specs.Prelude.{nat_eq, slice_get, option_map}
use Rattle.std.specs.List.{list_all}
use Rattle.target_base.specs.declared.types.Effect.{Effect}
use Rattle.target_base.specs.declared.types.Effect.TheVariants as effects
use Rattle.target_base.specs.declared.types.Target.{Target}
use Rattle.target_base.specs.Rules.{is_phi}
use Rattle.target_base.proofs.Tests.{first_of_both, second_of_both}
use Rattle.meaning.specs.declared.types.Lane.{Lane}
use Rattle.meaning.specs.declared.types.Source.{Source}
use Rattle.meaning.specs.declared.types.Source.TheVariants.{FromLane, Undef, Bits}
use Rattle.meaning.specs.declared.types.Fill.TheVariants.{Moved}
use Rattle.meaning.specs.declared.types.Write.{Write}
use Rattle.meaning.specs.Lanes.{Writes, filled}
use Rattle.meaning.specs.Code.{Edge, Code as Places, found}
use Rattle.meaning.specs.Live.{Among as Member, here as first, there as later, Live as LivePlace}
use Rattle.mir_func.specs.declared.func.Edge.{Edge as Way}
use Rattle.mir_func.specs.declared.func.RegOp.{RegOp}
use Rattle.mir_func.specs.declared.func.Operand.{Operand}
use Rattle.mir_func.specs.declared.func.Operand.TheVariants as operands
use Rattle.mir_func.specs.declared.func.Instr.{Instr}
use Rattle.mir_func.specs.declared.func.Block.{Block}
use Rattle.mir_func.specs.Value.{Function}
use Rattle.mir_func.specs.Binding.{registers, effect_of, does, passes}
use Rattle.mir_meaning.specs.Registers.{operand_lanes, operand_widths, use_sources, is_reserved, has_number}
use Rattle.mir_meaning.specs.Codes.{phi_operands, phis_written, instrs_of, way, ways_out, block_end, blocks_code}
use Rattle.mir_meaning.specs.Points.{point_item, points_of}
use Rattle.mir_meaning.specs.Rules.{V7, block_numbers, successors_of, named_blocks, block_of, predecessors, phi_stands, widths_fit, same_widths}
use Rattle.mir_meaning.specs.Paths.{Among, Body, Code, steps_of, last_of, exits_of}
use Rattle.mir_meaning.specs.Stands.{Tags, IsStep, IsOut, At, at_end, at_step, IsCodeOf}
use Rattle.instr_effects.specs.declared.owner.Owner.{Owner}
use Rattle.instr_effects.specs.Owners.{owner_of, owners_read}
use Rattle.instr_effects.specs.Acts.{use_owners}
use Rattle.instr_effects.specs.Steps.{Numbering}
use Rattle.instr_effects.specs.Stepping.{tag_of}
use Rattle.instr_effects.proofs.Pairs.{written-of, written-in}
use Rattle.instr_effects.proofs.Members.{member-none, member-elim, flat-of, flat-in, filter-of, map-of, map-in}
use Rattle.instr_effects.proofs.Plain.{filled-cases, plain-law}
use Rattle.instr_effects.proofs.Writes.{located-long}
use Rattle.live_laws.specs.Effects.Shaped.{is_proper}
use Rattle.instr_effects.specs.Ends.{pairs_behind, end_uses}
use Rattle.live_laws.specs.Effects.Coded.{all_end_uses, read_at, last_reads, place_of, number_at, exits_from, instr_step, body_of, numbered_code, KeepsRules, IsNumbered}
use Rattle.live_laws.specs.Effects.Laws.{FunctionLaw}
use Rattle.live_laws.proofs.Effects.Moved.{Apart, source-in}
use Rattle.live_laws.proofs.Effects.Lists.{all-of, distinct-apart}
use Rattle.live_laws.proofs.Effects.Shapes.{widths-of, lanes-there, same-lanes}
use Rattle.live_laws.proofs.Effects.Silent.{located-still, use-lane, uses-long}
use Rattle.live_laws.proofs.Effects.Instrs.{others-proper, instr-law}
use Rattle.live_laws.proofs.Effects.Blocks.{among-of, of-among, slice-member, member-slice, slice-map, filtered-of, filtered-in, number-there, numbers-apart, named-there, place-there, place-block, block_code, found-block}
use Rattle.live_laws.proofs.Effects.Phis.{pair-register, pair-named, phi-write, phi-source, source-written, PhisFirst, unbegun, instrs-are, one-block}

source-of : (o : Owner) (ss : List Source) → Member o (owners_read ss) → (l : Lane) × Member (FromLane l) ss × (owner_of l ≡ o)
source-of o [] m = absurd (member-none o m)
source-of o (FromLane l ∷ ss) m = member-elim o (owner_of l) (owners_read ss) (λ e. (l, first, sym e)) (λ k. let z = source-of o ss k in (z.0, later z.1, z.2)) m
source-of o (Undef ∷ ss) m = let z = source-of o ss m in (z.0, later z.1, z.2)
source-of o (Bits c low w ∷ ss) m = let z = source-of o ss m in (z.0, later z.1, z.2)

-- the first register takes all lanes of a use
abbrev FitIn : Target → Function → List Operand → RegOp → Type 0
FitIn t f os s = (d : RegOp) (rest : List Operand) → os ≡ operands.Reg d ∷ rest → length (use_sources t f s) ≤ length (operand_lanes t f d)

module _ (t : Target) (f : Function) (num : Numbering) (rules : KeepsRules t f) (numbered : IsNumbered t f num) where
  abbrev T : Tags
  T = tag_of num (is_proper t)

  abbrev C : Places
  C = blocks_code (point_item t f) t f f.blocks

  abbrev code : Code
  code = numbered_code t f num

  apart : Apart (block_numbers f.blocks)
  apart = numbers-apart f rules.blocks

  body-at : (x : ℕ) (b : Block) → slice_get f.blocks x ≡ Some b → slice_get code x ≡ Some (body_of t f num b)
  body-at x b e = slice-map (body_of t f num) f.blocks x ∙ ap (option_map (body_of t f num)) e

  pub steps-at : (x : ℕ) (b : Block) → slice_get f.blocks x ≡ Some b → steps_of code x ≡ map (instr_step t f num) b.instrs
  steps-at x b e = ap (λ (q : Option Body). elim q [ None ↦ [] | Some y ↦ y.steps ]) (body-at x b e)

  last-at : (x : ℕ) (b : Block) → slice_get f.blocks x ≡ Some b → last_of code x ≡ last_reads t f num b.number
  last-at x b e = ap (λ (q : Option Body). elim q [ None ↦ [] | Some y ↦ y.last ]) (body-at x b e)

  exits-at : (x : ℕ) (b : Block) → slice_get f.blocks x ≡ Some b → exits_of code x ≡ exits_from f.blocks b
  exits-at x b e = ap (λ (q : Option Body). elim q [ None ↦ [] | Some y ↦ y.exits ]) (body-at x b e)

  number-is : (x : ℕ) (b : Block) → slice_get f.blocks x ≡ Some b → number_at f.blocks x ≡ b.number
  number-is x b e = ap (λ (q : Option Block). elim q [ None ↦ 0 | Some c ↦ c.number ]) e

  -- a lane of a use that has a number
  use-tag : (s : RegOp) (l : Lane) (n : ℕ) → Member (FromLane l) (use_sources t f s) → num (owner_of l) ≡ Some n → T l ≡ Some n
  use-tag s l n m e = ap (λ q. cond q (num (owner_of l)) None) (others-proper t l (located-still t f s.loc s.index l (use-lane t f s l m))) ∙ e

  tag-number : (l : Lane) (n : ℕ) → T l ≡ Some n → num (owner_of l) ≡ Some n
  tag-number l n e = go (is_proper t l) e
    where
      go : (b : Bool) → cond b (num (owner_of l)) None ≡ Some n → num (owner_of l) ≡ Some n
      go true h = h
      go false h = absurd (cc)

  -- an instruction of a block at a place
  abbrev Standing : Instr → Type 0
  Standing i = (k : ℕ) × (c : Block) × (j : ℕ) × (slice_get f.blocks k ≡ Some c) × (slice_get c.instrs j ≡ Some i)

  stands : (y : ℕ) (c : Block) (i : Instr) → slice_get f.blocks y ≡ Some c → Member i c.instrs → Standing i
  stands y c i e m = let z = member-slice i c.instrs m in (y, c, z.0, e, z.1)

  end-uses-in : (n : ℕ) (y : ℕ) (c : Block) (i : Instr) (s : RegOp) → slice_get f.blocks y ≡ Some c → Member i c.instrs → does is_phi t i ≡ true → Member (s, n) (pairs_behind i.operands) → Member (s, n) (all_end_uses t f.blocks)
  end-uses-in n y c i s e m h k = flat-in (λ b. flat_map (end_uses t) b.instrs) (s, n) c f.blocks (slice-member f.blocks y c e) (flat-in (end_uses t) (s, n) i c.instrs m (subst (λ q. Member (s, n) (cond q (pairs_behind i.operands) [])) (sym h) k))

  module _ (x : ℕ) (b : Block) (place : slice_get f.blocks x ≡ Some b) where
    there : Member b f.blocks
    there = slice-member f.blocks x b place

    -- a way out leads to a block
    led : (e : Edge) → Member e (ways_out t f b) → (g : Way) × Member g b.successors × (e ≡ way t f b.number g.block) × (y : ℕ) × (c : Block) × (place_of g.block f.blocks ≡ Some y) × (slice_get f.blocks y ≡ Some c) × (c.number ≡ g.block)
    led e m =
        let z = map-of (λ g. way t f b.number g.block) e b.successors m in
        let p = place-there z.0.block f.blocks (named-there f rules.blocks x b z.0.block place (map-in (λ g. g.block) z.0 b.successors z.1)) in
        let c = place-block z.0.block f.blocks p.0 p.1 in
        (z.0, z.1, z.2, p.0, c.0, p.1, c.1, c.2)

    forth : (e : Edge) → Member e (ways_out t f b) → (y : ℕ) × Among y (exits_of code x) × (e.block ≡ number_at f.blocks y)
    forth e m =
        let z = led e m in
        (z.3, subst (Among z.3) (sym (exits-at x b place)) (among-of z.3 (exits_from f.blocks b) (filtered-in (λ g. place_of g.block f.blocks) z.0 z.3 b.successors z.1 z.5)), ap (λ w. w.block) z.2 ∙ sym z.7 ∙ sym (number-is z.3 z.4 z.6))

    back : (y : ℕ) → Among y (exits_of code x) → (e : Edge) × Member e (ways_out t f b) × (e.block ≡ number_at f.blocks y)
    back y m =
        let z = filtered-of (λ g. place_of g.block f.blocks) y b.successors (of-among y (exits_from f.blocks b) (subst (Among y) (exits-at x b place) m)) in
        let c = place-block z.0.block f.blocks y z.2 in
        (way t f b.number z.0.block, map-in (λ g. way t f b.number g.block) z.0 b.successors z.1, sym c.2 ∙ sym (number-is y c.0 c.1))

    -- the phis of a way are those of its block
    phis-of : (e : Edge) (z : (g : Way) × Member g b.successors × (e ≡ way t f b.number g.block) × (y : ℕ) × (c : Block) × (place_of g.block f.blocks ≡ Some y) × (slice_get f.blocks y ≡ Some c) × (c.number ≡ g.block)) → e.phis ≡ phis_written t f b.number z.4.instrs
    phis-of e z = ap (λ w. w.phis) z.2 ∙ ap (λ n. phis_written t f b.number (instrs_of f.blocks n)) (sym z.7) ∙ ap (phis_written t f b.number) (instrs-are f.blocks z.3 z.4 z.6 apart)

    phis : (e : Edge) (w : Write) (l : Lane) → Member e (ways_out t f b) → Member w e.phis → w.fill ≡ Moved (FromLane l) → is_reserved t l ≡ false → (n : ℕ) × (T l ≡ Some n) × Among n (last_of code x)
    phis e w l m k h r =
        let z = led e m in
        let y = written-of t f b.number w z.4.instrs (subst (Member w) (phis-of e z) k) in
        let p = phi-write t f b.number y.0 w y.2 in
        let s = p.1.1 in
        let source = phi-source t f b.number y.0.operands w l p.1 h in
        let tag = (numbered.names z.4 y.0 (slice-member f.blocks z.3 z.4 z.6) y.1).lanes s l p.1.2 (inl (use-lane t f s l source)) r in
        let owner = source-in l (use_sources t f s) source in
        let read = filtered-in num (owner_of l) tag.0 (use_owners t f s) owner (tag-number l tag.0 tag.1) in
        let there = end-uses-in b.number z.3 z.4 y.0 s z.6 y.1 p.0 p.1.3 in
        let at = flat-in (read_at t f num b.number) tag.0 (s, b.number) (all_end_uses t f.blocks) there (subst (λ q. Member tag.0 (cond q (filter_map num (use_owners t f s)) [])) (sym (eq-eqb b.number b.number refl)) read) in
        (tag.0, tag.1, subst (Among tag.0) (sym (last-at x b place)) (among-of tag.0 (last_reads t f num b.number) at))

    -- a use of a phi that reads at the end of the block
    abbrev pub EndUse : ℕ → Type 0
    EndUse n = (y : ℕ) × (c : Block) × (j : ℕ) × (i : Instr) × (s : RegOp) × (l : Lane) × (slice_get f.blocks y ≡ Some c) × (slice_get c.instrs j ≡ Some i) × (does is_phi t i ≡ true) × Member (s, b.number) (pairs_behind i.operands) × Member (FromLane l) (use_sources t f s) × (num (owner_of l) ≡ Some n)

    read-here : (n : ℕ) (p : RegOp × ℕ) → Member n (read_at t f num b.number p) → (p.1 ≡ b.number) × Member n (filter_map num (use_owners t f p.0))
    read-here n p m = go (nat_eq p.1 b.number) refl m
      where
        go : (q : Bool) → nat_eq p.1 b.number ≡ q → Member n (cond q (filter_map num (use_owners t f p.0)) []) → (p.1 ≡ b.number) × Member n (filter_map num (use_owners t f p.0))
        go true e k = (eqb-true p.1 b.number e, k)
        go false e k = absurd (member-none n k)

    end-use-of : (i : Instr) (p : RegOp × ℕ) → Member p (end_uses t i) → (does is_phi t i ≡ true) × Member p (pairs_behind i.operands)
    end-use-of i p m = go (does is_phi t i) m
      where
        go : (q : Bool) → Member p (cond q (pairs_behind i.operands) []) → (q ≡ true) × Member p (pairs_behind i.operands)
        go true k = (refl, k)
        go false k = absurd (member-none p k)

    pub end-use : (n : ℕ) → Among n (last_of code x) → EndUse n
    end-use n m =
        let z = flat-of (read_at t f num b.number) n (all_end_uses t f.blocks) (of-among n (last_reads t f num b.number) (subst (Among n) (last-at x b place) m)) in
        let r = read-here n z.0 z.2 in
        let c = flat-of (λ d. flat_map (end_uses t) d.instrs) z.0 f.blocks z.1 in
        let i = flat-of (end_uses t) z.0 c.0.instrs c.2 in
        let k = member-slice c.0 f.blocks c.1 in
        let j = member-slice i.0 c.0.instrs i.1 in
        let p = end-use-of i.0 z.0 i.2 in
        let o = filtered-of num n (use_owners t f z.0.0) r.1 in
        let l = source-of o.0 (use_sources t f z.0.0) o.1 in
        (k.0, c.0, j.0, i.0, z.0.0, l.0, k.1, j.1, p.0, subst (λ q. Member (z.0.0, q) (pairs_behind i.0.operands)) r.0 p.1, l.1, ap num l.2 ∙ o.2)

    phi-effect : (i : Instr) → does is_phi t i ≡ true → effect_of t i ≡ Some effects.Phi
    phi-effect i h = go (effect_of t i) refl h
      where
        by : (e : Effect) → is_phi e ≡ true → Some e ≡ Some effects.Phi
        by effects.Phi g = refl
        by e g = absurd (cc)

        go : (q : Option Effect) → effect_of t i ≡ q → passes is_phi q ≡ true → effect_of t i ≡ Some effects.Phi
        go None e g = absurd (cc)
        go (Some k) e g = e ∙ by k g

    phi-rule : (y : ℕ) (c : Block) (j : ℕ) (i : Instr) → slice_get f.blocks y ≡ Some c → slice_get c.instrs j ≡ Some i → does is_phi t i ≡ true → phi_stands t f y c j i ≡ true
    unfolding V7
    phi-rule y c j i e g h = go (does is_phi t i) h (rules.phis y c j i e g)
      where
        go : (q : Bool) → q ≡ true → (not q || phi_stands t f y c j i) ≡ true → phi_stands t f y c j i ≡ true
        go true h k = k
        go false h k = absurd (cc)

    pub phis-first : (y : ℕ) (c : Block) → slice_get f.blocks y ≡ Some c → PhisFirst (is_reserved t) C t f c b.number c.instrs
    phis-first y c e j i g h = first_of_both (list_all (does is_phi t) (take j c.instrs)) _ (first_of_both _ _ (phi-rule y c j i e g h))

    named-behind : (os : List Operand) (p : RegOp × ℕ) → Member p (pairs_behind os) → Member p.1 (flat_map block_of os)
    named-behind [] p m = absurd (member-none p m)
    named-behind (operands.Reg d ∷ os) p m = pair-named os p m
    named-behind (o ∷ os) p m = absurd (member-none p m)

    one-register : (a d : RegOp) (us os : List Operand) → operands.Reg a ∷ us ≡ operands.Reg d ∷ os → a ≡ d
    one-register a d us os e = cc

    -- the result of a phi has as many lanes as each of its uses
    uses-fit : (i : Instr) (c : Block) → Member c f.blocks → Member i c.instrs → does is_phi t i ≡ true → (os : List Operand) → i.operands ≡ os → (s : RegOp) → Member s (registers os) → (n : ℕ) → Member (s, n) (pairs_behind os) → FitIn t f os s
    uses-fit i c m k h [] e s j n q = absurd (member-none (s, n) q)
    uses-fit i c m k h (operands.Reg d ∷ os) e s j n q = λ a rest r.
        let head : a ≡ d = one-register a d rest os (sym r) in
        let shaped = rules.shaped c i m k in
        let fit : list_all (same_widths t f d) (registers os) ≡ true = subst (λ x. widths_fit t f effects.Phi x ≡ true) e (widths-of t f i effects.Phi (phi-effect i h) shaped.widths) in
        let one : same_widths t f d s ≡ true = all-of (same_widths t f d) s (registers os) (pair-register os (s, n) q) fit in
        let known : (o : RegOp) → Member o (registers (operands.Reg d ∷ os)) → Member o (registers i.operands) = λ o y. subst (λ x. Member o (registers x)) (sym e) y in
        let same = same-lanes t f d s (lanes-there t f i shaped d (known d first)) (lanes-there t f i shaped s (known s j)) one in
        let long : length (operand_widths t f s) ≡ length (use_sources t f s) = uses-long t f s in
        let lanes : length (operand_widths t f d) ≡ length (operand_lanes t f d) = located-long t f d.loc d.index in
        subst (λ v. length (use_sources t f s) ≤ length (operand_lanes t f v)) (sym head) (omega arith)
    uses-fit i c m k h (o ∷ os) e s j n q = absurd (member-none (s, n) q)

    behind-register : (os : List Operand) (p : RegOp × ℕ) → Member p (pairs_behind os) → Member p.0 (registers os)
    behind-register [] p m = absurd (member-none p m)
    behind-register (operands.Reg d ∷ os) p m = later (pair-register os p m)
    behind-register (o ∷ os) p m = absurd (member-none p m)

    last : (n : ℕ) → Among n (last_of code x) → (e : Edge) × (w : Write) × (l : Lane) × Member e (ways_out t f b) × Member w e.phis × (w.fill ≡ Moved (FromLane l)) × (T l ≡ Some n)
    last n m = by (end-use n m)
      where
        by : EndUse n → (e : Edge) × (w : Write) × (l : Lane) × Member e (ways_out t f b) × Member w e.phis × (w.fill ≡ Moved (FromLane l)) × (T l ≡ Some n)
        by (y, c, j, i, s, l, e, g, h, p, k, q) =
            let rule = phi-rule y c j i e g h in
            let once = second_of_both _ _ rule in
            let distinct : Apart (flat_map block_of i.operands) = distinct-apart (named_blocks i) (first_of_both _ _ (first_of_both _ _ once)) in
            let before = number-there b.number (predecessors f c.number) (all-of (has_number (predecessors f c.number)) b.number (named_blocks i) (named-behind i.operands (s, b.number) p) (second_of_both _ _ (first_of_both _ _ once))) in
            let from = map-of (λ d. d.number) b.number (filter (λ d. has_number (successors_of d) c.number) f.blocks) before in
            let old = filter-of (λ d. has_number (successors_of d) c.number) from.0 f.blocks from.1 in
            let spot = member-slice from.0 f.blocks old.0 in
            let same : from.0 ≡ b = one-block f.blocks spot.0 x from.0 b spot.1 place (sym from.2) apart in
            let next = number-there c.number (successors_of b) (subst (λ d. has_number (successors_of d) c.number ≡ true) same old.1) in
            let edge = map-of (λ v. v.block) c.number b.successors next in
            let mc = slice-member f.blocks y c e in
            let mi = slice-member c.instrs j i g in
            let fits = uses-fit i c mc mi h i.operands refl s (behind-register i.operands (s, b.number) p) b.number p in
            let w = source-written t f b.number i.operands s l fits distinct p k in
            let at = subst (λ r. Member w.0 (cond r (phi_operands t f b.number i.operands) [])) (sym h) w.1 in
            let into = written-in t f b.number w.0 i c.instrs mi at in
            let block : instrs_of f.blocks edge.0.block ≡ c.instrs = ap (instrs_of f.blocks) (sym edge.2) ∙ instrs-are f.blocks y c e apart in
            let here = subst (λ is. Member w.0 (phis_written t f b.number is)) (sym block) into in
            (way t f b.number edge.0.block, w.0, l, map-in (λ v. way t f b.number v.block) edge.0 b.successors edge.1, here, w.2, use-tag s l n k q)

    through : (e : Edge) (a : Lane) → Member e (ways_out t f b) → LivePlace (is_reserved t) C (found e.block C) a → filled e.phis a ≡ Moved (FromLane a)
    through e a m live =
        let z = led e m in
        let block = found-block t f f.blocks z.3 z.4 z.6 apart in
        let number : e.block ≡ z.4.number = ap (λ w. w.block) z.2 ∙ sym z.7 in
        let here = subst (λ p. LivePlace (is_reserved t) C p a) (ap (λ n. found n C) number ∙ block.1) live in
        let none = unbegun (is_reserved t) C t f z.4 b.number z.4.instrs (block_end t f z.4 block.0 ∷ blocks_code (point_item t f) t f block.0) a (phis-first z.3 z.4 z.6) here in
        go (phis_written t f b.number z.4.instrs) (phis-of e z) none (filled-cases e.phis a)
      where
        go : (ws : Writes) → e.phis ≡ ws → ((w : Write) → Member w ws → w.lane ≡ a → ⊥) → ((w : Write) × Member w e.phis × (w.lane ≡ a) × (filled e.phis a ≡ w.fill)) ⊎ ((filled e.phis a ≡ Moved (FromLane a)) × ((w : Write) → Member w e.phis → w.lane ≡ a → ⊥)) → filled e.phis a ≡ Moved (FromLane a)
        go ws q n (inl z) = absurd (n z.0 (subst (Member z.0) q z.1) z.2)
        go ws q n (inr z) = z.0

    pub is-out : IsOut (is_reserved t) T (number_at f.blocks) C code x (ways_out t f b)
    is-out = record { forth = forth; back = back; phis = phis; last = last; through = through }

    pub step-at : (i : Instr) → Member i b.instrs → IsStep (is_reserved t) T (ways_out t f b) (point_item t f b i) (instr_step t f num i)
    step-at i m = instr-law t f num rules.classes numbered.numbering b i (rules.shaped b i there m) (numbered.names b i there m) (numbered.slots b i there m)

    -- the last instructions of the block, and what follows
    pub standing : (after : List Block) (is : List Instr) → ((i : Instr) → Member i is → Member i b.instrs) → At (is_reserved t) T (number_at f.blocks) C code x (map (point_item t f b) is ++ (block_end t f b after ∷ blocks_code (point_item t f) t f after)) (map (instr_step t f num) is)
    standing after [] h = at_end is-out
    standing after (i ∷ is) h = at_step (step-at i (h i first)) is-out (standing after is (λ k m. h k (later m)))

  exits-none : (x : ℕ) → slice_get f.blocks x ≡ None → exits_of code x ≡ []
  exits-none x e = ap (λ (q : Option Body). elim q [ None ↦ [] | Some y ↦ y.exits ]) (slice-map (body_of t f num) f.blocks x ∙ ap (option_map (body_of t f num)) e)

  nothing : {y : ℕ} → Among y [] → ⊥
  nothing m = elim m [ ]

  pub starts : (b x : ℕ) → Among x (exits_of code b) → At (is_reserved t) T (number_at f.blocks) C code x (found (number_at f.blocks x) C) (steps_of code x)
  starts b x m = from (slice_get f.blocks b) refl
    where
      at : (c : Block) → slice_get f.blocks x ≡ Some c → At (is_reserved t) T (number_at f.blocks) C code x (found (number_at f.blocks x) C) (steps_of code x)
      at c e =
          let block = found-block t f f.blocks x c e apart in
          subst (λ p. At (is_reserved t) T (number_at f.blocks) C code x p (steps_of code x)) (sym (ap (λ n. found n C) (number-is x c e) ∙ block.1))
          (subst (λ ss. At (is_reserved t) T (number_at f.blocks) C code x (block_code t f c block.0) ss) (sym (steps-at x c e)) (standing x c e block.0 c.instrs (λ i k. k)))

      from : (q : Option Block) → slice_get f.blocks b ≡ q → At (is_reserved t) T (number_at f.blocks) C code x (found (number_at f.blocks x) C) (steps_of code x)
      from None e = absurd (nothing (subst (Among x) (exits-none b e) m))
      from (Some d) e = let z = filtered-of (λ g. place_of g.block f.blocks) x d.successors (of-among x (exits_from f.blocks d) (subst (Among x) (exits-at b d e) m)) in let c = place-block z.0.block f.blocks x z.2 in at c.0 c.1

  pub code-of : IsCodeOf (is_reserved t) T (number_at f.blocks) C code
  code-of = record {
    tagging = (plain-law (is_reserved t) num (is_proper t) numbered.numbering (others-proper t)).0;
    starts = starts;
  }

  pub points-are : points_of t f ≡ C
  unfolding points_of
  points-are = refl

pub function-law : FunctionLaw
function-law t f num rules numbered = subst (λ p. IsCodeOf (is_reserved t) (tag_of num (is_proper t)) (number_at f.blocks) p (numbered_code t f num)) (sym (points-are t f num rules numbered)) (code-of t f num rules numbered)
