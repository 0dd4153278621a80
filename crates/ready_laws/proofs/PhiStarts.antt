-- What is live where a valid source begins without its phis was live there.
use Rattle.std.proofs.Common.{◌≡◌, ◌⊎◌, inl, inr, ◌++◌, ◌∙◌, ◌&&◌, ◌||◌, ◌+◌, ◌≤◌, not, ℕ, suc, Bool, true, false, cond, List, [], ◌∷◌, Option, Some, None, filter, find, flat_map, map, length, refl, sym, ap, subst, arith}
use Rattle.std.specs.Prelude.{nat_eq, option_map, slice_get}
use Rattle.target_base.specs.declared.types.Effect.{Effect}
use Rattle.target_base.specs.declared.types.Target.{Target}
use Rattle.target_base.specs.Roles.{is_silent}
use Rattle.target_base.specs.Rules.{is_phi}
use Rattle.target_base.proofs.Tests.{first_of_both, second_of_both}
use Rattle.meaning.specs.Code.{BlockEnd, BlockStart, Code, Counted, Edge, Item, Silent, found}
use Rattle.meaning.specs.Lanes.{Reads, Writes, same_lane}
use Rattle.meaning.specs.Live.{Among, Kept, Live, exits_of, here, there}
use Rattle.meaning.specs.Live as live
use Rattle.meaning.specs.declared.types.Lane.{Lane}
use Rattle.meaning.specs.declared.types.Lane.TheVariants.{VirtualLane}
use Rattle.meaning.specs.declared.types.Rest.{Rest}
use Rattle.meaning.specs.declared.types.Source.{Source}
use Rattle.meaning.specs.declared.types.Source.TheVariants.{FromLane, Undef}
use Rattle.laws.proofs.Flow.{none_among}
use Rattle.mir_func.specs.declared.func.Edge.{Edge as Successor}
use Rattle.mir_func.specs.declared.func.Instr.{Instr}
use Rattle.mir_func.specs.declared.func.Block.{Block}
use Rattle.mir_func.specs.declared.func.Operand.{Operand}
use Rattle.mir_func.specs.declared.func.Operand.TheVariants as operands
use Rattle.mir_func.specs.declared.func.RegOp.{RegOp}
use Rattle.mir_func.specs.Value.{Function}
use Rattle.mir_func.specs.Binding.{does, effect_of, is_early_clobber, is_terminator, registers, roles_of}
use Rattle.mir_meaning.specs.Registers.{has_number, is_reserved, located_lanes, numbers, operand_lanes, range_widths, undefined_lanes, use_sources}
use Rattle.mir_meaning.specs.Items.{counted_writes, defined, defined_undef, moved, rest_of, silent_reads, silent_writes, undefined, values}
use Rattle.mir_meaning.specs.Codes.{block_end, blocks_code, code_of, effect_item, fallen_into, instrs_of, item_of, phi_operands, phi_pair, phi_writes, phis_written, target_of, way, ways_out}
use Rattle.mir_meaning.specs.declared.Form.TheVariants as forms
use Rattle.mir_meaning.specs.Points.{LiveAt, Start as AtStart, point_item, points_of}
use Rattle.mir_meaning.specs.Rules.{V7, block_of, is_virtual_use, lists_once, named_blocks, phi_pairs, phi_stands, predecessors, successors_of}
use Rattle.mir_meaning.specs.Valid.{IsValid}
use Rattle.mir_meaning.proofs.Points.{points_are_code}
use Rattle.phi_elim.specs.Phis.{phi_count, phis_lowered}
use Rattle.instr_effects.proofs.Members.{filter-in, map-in, map-of}
use Rattle.live_laws.proofs.Effects.Blocks.{member-slice, number-in}
use Rattle.live_laws.proofs.Effects.Lists.{all-of}
use Rattle.live_laws.proofs.Effects.Moving.{some-same}
use Rattle.lowering_laws.proofs.Arrivals.{eqb-sym}
use Rattle.lowering_laws.proofs.Blocks.{BlockFacts, Facts, FirstBare, phis_are_gone}
use Rattle.lowering_laws.proofs.Classes.{AllNamed, AreNamed, item-stays, lanes-stay, sources-stay, undefined-stay}
use Rattle.lowering_laws.proofs.Lowering as shapes
use Rattle.lowering_laws.proofs.Lowering.{AreEnds, K, NoPhis, Shape, bound, counter, ending, further, h, start-equal}
use Rattle.lowering_laws.proofs.Operands.{PhiShape, phi-shape}
use Rattle.lowering_laws.proofs.PhisOn.{found-or}
use Rattle.lowering_laws.proofs.Placed.{phi-item}
use Rattle.lowering_laws.proofs.Ruled.{AllRules, PlacedRules, all-rules}
use Rattle.lowering_laws.proofs.Traced.{is_written}
use Rattle.ready_laws.specs.LoweredStarts.{PhisKeepStart}
use Rattle.ready_laws.proofs.BesideLanes.{has-source}
use Rattle.ready_laws.proofs.PhiBeside.{named, reserved-apart, side-starts}
use Rattle.ready_laws.proofs.PointLanes as points
use Rattle.ready_laws.proofs.PointLanes.{Covered, Points}
use Rattle.ready_laws.proofs.SourceFacts.{each, first-bare, laid}
use Rattle.ready_laws.proofs.TiedStarts.{reserved-old}

-- writes

written-left : (xs ys : Writes) (l : Lane) → is_written xs l ≡ true → is_written (xs ++ ys) l ≡ true
written-left [] ys l e = absurd (cc)
written-left (w ∷ xs) ys l e = go (same_lane w.lane l) e (written-left xs ys l)
  where
    go : (b : Bool) → (b || is_written xs l) ≡ true → (is_written xs l ≡ true → is_written (xs ++ ys) l ≡ true) → (b || is_written (xs ++ ys) l) ≡ true
    go true e ih = refl
    go false e ih = ih e

written-right : (xs ys : Writes) (l : Lane) → is_written ys l ≡ true → is_written (xs ++ ys) l ≡ true
written-right [] ys l e = e
written-right (w ∷ xs) ys l e = go (same_lane w.lane l) (written-right xs ys l e)
  where
    go : (b : Bool) → is_written (xs ++ ys) l ≡ true → (b || is_written (xs ++ ys) l) ≡ true
    go true ih = refl
    go false ih = ih

-- what becomes Undef is written by moves that are as many
moved-too : (ls us : List Lane) (ss : List Source) (a : Lane) → length ls ≤ length ss → is_written (undefined false (ls ++ us)) a ≡ true → is_written (moved false ls ss ++ undefined false us) a ≡ true
moved-too [] us ss a n e = e
moved-too (l ∷ ls) us [] a n e = absurd (omega (arith, n))
moved-too (l ∷ ls) us (s ∷ ss) a n e = go (same_lane l a) e (moved-too ls us ss a (omega (arith, n)))
  where
    go : (b : Bool) → (b || is_written (undefined false (ls ++ us)) a) ≡ true → (is_written (undefined false (ls ++ us)) a ≡ true → is_written (moved false ls ss ++ undefined false us) a ≡ true) → (b || is_written (moved false ls ss ++ undefined false us) a) ≡ true
    go true e ih = refl
    go false e ih = ih e

map-long : {A B : Type 0} (g : A → B) (xs : List A) → length (map g xs) ≡ length xs
map-long g [] = refl
map-long g (x ∷ xs) = ap suc (map-long g xs)

module _ (t : Target) (f : Function) where
  abbrev H : Function
  H = h t f

  -- further classes change no way
  pair-stays : (n : ℕ) (d : RegOp) (os : List Operand) → AreNamed f (operands.Reg d ∷ os) → phi_pair t H n d os ≡ phi_pair t f n d os
  pair-stays n d (operands.Reg s ∷ operands.Block m ∷ os) w =
      λ k. cond (nat_eq m n) (moved false (lanes-stay t f (further t f) d.loc d.index (w d here).class k) (sources-stay t f (further t f) s (w s (there here)).class k) ++ undefined false (undefined-stay t f (further t f) d (w d here).class k))
      (pair-stays n d os by k)
    where
      by : AreNamed f (operands.Reg d ∷ os)
      by o here = w o here
      by o (there m) = w o (there (there m))
  pair-stays n d os w = refl

  operands-stay : (n : ℕ) (os : List Operand) → AreNamed f os → phi_operands t H n os ≡ phi_operands t f n os
  operands-stay n (operands.Reg d ∷ os) w = pair-stays n d os w
  operands-stay n os w = refl

  written-stays : (n : ℕ) (is : List Instr) → ((i : Instr) → Among i is → AreNamed f i.operands) → phis_written t H n is ≡ phis_written t f n is
  written-stays n [] w = refl
  written-stays n (i ∷ is) w = λ k. written-stays n is (λ y m. w y (there m)) k ++ cond (does is_phi t i) (operands-stay n i.operands (w i here) k) []

  module _ (all : AllNamed f f.blocks) where
    way-stays : (n m : ℕ) → way t H n m ≡ way t f n m
    way-stays n m = let p = written-stays n (instrs_of f.blocks m) (go (found-or t f f.blocks m)) in λ k. record { block = m; phis = p k }
      where
        go : (instrs_of f.blocks m ≡ []) ⊎ ((b : Block) × Among b f.blocks × (b.number ≡ m) × (instrs_of f.blocks m ≡ b.instrs)) → (i : Instr) → Among i (instrs_of f.blocks m) → AreNamed f i.operands
        go (inl e) i x = absurd (none_among i (subst (Among i) e x))
        go (inr z) i x = all z.0 i z.1 (subst (Among i) z.3 x)

    items-stay : (b : Block) (is : List Instr) → Among b f.blocks → ((i : Instr) → Among i is → Among i b.instrs) → map (item_of t H b) is ≡ map (item_of t f b) is
    items-stay b [] mb w = refl
    items-stay b (i ∷ is) mb w = λ k. item-stays t f (further t f) all b i (all b i mb (w i here)) k ∷ items-stay b is mb (λ x m. w x (there m)) k

    end-stays : (b : Block) (after : List Block) → block_end t H b after ≡ block_end t f b after
    end-stays b after = λ k. BlockEnd (option_map (λ m. (way-stays b.number m k).phis) (fallen_into t b after)) (map (λ (e : Successor). way-stays b.number e.block k) b.successors)

    blocks-stay : (bs : List Block) → ((b : Block) → Among b bs → Among b f.blocks) → blocks_code (item_of t H) t H bs ≡ blocks_code (item_of t f) t f bs
    blocks-stay [] w = refl
    blocks-stay (b ∷ bs) w = λ k. BlockStart b.number ∷ (items-stay b b.instrs (w b here) (λ i m. m) k ++ (end-stays b bs k ∷ blocks-stay bs (λ d m. w d (there m)) k))

    code-stays : code_of t H ≡ code_of t f
    unfolding code_of
    code-stays = blocks-stay f.blocks (λ b m. m)

  -- the results of phis among these instructions
  abbrev Results : List Instr → Lane → Type 0
  Results is a = (i : Instr) × Among i is × (does is_phi t i ≡ true) × (is_written (defined_undef t f i.operands) a ≡ true)

  abbrev Q : ℕ → Lane → Type 0
  Q n = Results (instrs_of f.blocks n)

  -- the source that a phi takes from a block
  lookup : (n : ℕ) (d : RegOp) (os : List Operand) → phi_pairs os ≡ true → has_number (flat_map block_of os) n ≡ true → (s : RegOp) × Among s (registers os) × (phi_pair t f n d os ≡ defined t f false d (use_sources t f s))
  lookup n d [] p e = absurd (cc)
  lookup n d (operands.Reg s ∷ operands.Block m ∷ os) p e = go (nat_eq m n) refl (lookup n d os (second_of_both (is_virtual_use s) (phi_pairs os) p))
    where
      past : (a b : Bool) → a ≡ false → (a || b) ≡ true → b ≡ true
      past true b e h = absurd (cc)
      past false b e h = h

      go : (b : Bool) → nat_eq m n ≡ b → (has_number (flat_map block_of os) n ≡ true → (s : RegOp) × Among s (registers os) × (phi_pair t f n d os ≡ defined t f false d (use_sources t f s))) → (r : RegOp) × Among r (s ∷ registers os) × (phi_pair t f n d (operands.Reg s ∷ operands.Block m ∷ os) ≡ defined t f false d (use_sources t f r))
      go true q ih = (s, here, λ i. cond (q i) (defined t f false d (use_sources t f s)) (phi_pair t f n d os))
      go false q ih =
          let z = ih (past (nat_eq n m) (has_number (flat_map block_of os) n) (eqb-sym n m ∙ q) e) in
          (z.0, there z.1, (λ i. cond (q i) (defined t f false d (use_sources t f s)) (phi_pair t f n d os)) ∙ z.2)
  lookup n d os p e = absurd (cc)

  -- a phi gives its result on the way from a block that it names
  result-given : (n : ℕ) (i : Instr) (a : Lane) → does is_phi t i ≡ true → PhiShape t f i.operands → has_number (named_blocks i) n ≡ true → is_written (defined_undef t f i.operands) a ≡ true → is_written (phi_writes t f n i) a ≡ true
  result-given n i a e z names w =
      let y = lookup n z.d z.rest z.pairs (subst (λ os. has_number (flat_map block_of os) n ≡ true) z.are names) in
      let one = z.long y.0 y.1 in
      let two : length (operand_lanes t f z.d) ≡ length (numbers 0 (length (range_widths t f z.v))) = (λ q. length (located_lanes t f (z.loc q) (z.index q))) ∙ map-long (VirtualLane z.v) (numbers 0 (length (range_widths t f z.v))) in
      let three : length (use_sources t f y.0) ≡ length (operand_lanes t f y.0) = map-long (cond y.0.undef (λ (l : Lane). Undef) FromLane) (operand_lanes t f y.0) in
      let w' : is_written (undefined false (operand_lanes t f z.d ++ undefined_lanes t f z.d)) a ≡ true = subst (λ os. is_written (defined_undef t f os) a ≡ true) z.are w in
      let given = moved-too (operand_lanes t f z.d) (undefined_lanes t f z.d) (use_sources t f y.0) a (omega (arith, one, two, three)) w' in
      subst (λ ws. is_written ws a ≡ true) (sym ((λ q. cond (e q) (phi_operands t f n (z.are q)) []) ∙ y.2)) given

  among-written : (n : ℕ) (i : Instr) (is : List Instr) (a : Lane) → Among i is → is_written (phi_writes t f n i) a ≡ true → is_written (phis_written t f n is) a ≡ true
  among-written n i [] a m e = absurd (none_among i m)
  among-written n i (j ∷ is) a here e = written-right (phis_written t f n is) (phi_writes t f n j) a e
  among-written n i (j ∷ is) a (there m) e = written-left (phis_written t f n is) (phi_writes t f n j) a (among-written n i is a m e)

  module _ (rules : (n : ℕ) (b : Block) → slice_get f.blocks n ≡ Some b → AllRules t f n b) where
    -- phis name each predecessor
    phi-names : (k j : ℕ) (b : Block) (i : Instr) → does is_phi t i ≡ true → PlacedRules t f k b j i → (c : Block) → Among c f.blocks → has_number (successors_of c) b.number ≡ true → has_number (named_blocks i) c.number ≡ true
    unfolding V7
    phi-names k j b i e r c mc leads =
        let once : lists_once (named_blocks i) (predecessors f b.number) ≡ true = second_of_both _ _ (stands (does is_phi t i) e r.seven) in
        all-of (has_number (named_blocks i)) c.number (predecessors f b.number) among (second_of_both _ _ once)
      where
        stands : (y : Bool) → y ≡ true → (not y || phi_stands t f k b j i) ≡ true → phi_stands t f k b j i ≡ true
        stands true e q = q
        stands false e q = absurd (cc)

        among : Among c.number (predecessors f b.number)
        among = map-in (λ (d : Block). d.number) c (filter (λ d. has_number (successors_of d) b.number) f.blocks) (filter-in (λ d. has_number (successors_of d) b.number) c f.blocks mc leads)

    covered : (c : Block) → Among c f.blocks → Covered (is_reserved t) Q (points_of t f) (code_of t f) (ways_out t f c)
    covered c mc e m a z = go (map-of (λ (s : Successor). way t f c.number s.block) e c.successors m)
      where
        here-given : (s : Successor) → Among s c.successors → Q s.block a → (instrs_of f.blocks s.block ≡ []) ⊎ ((b : Block) × Among b f.blocks × (b.number ≡ s.block) × (instrs_of f.blocks s.block ≡ b.instrs)) → is_written (way t f c.number s.block).phis a ≡ true
        here-given s ms z (inl none) = absurd (none_among z.0 (subst (Among z.0) none z.1))
        here-given s ms z (inr y) =
            let k = member-slice y.0 f.blocks y.1 in
            let mi = subst (Among z.0) y.3 z.1 in
            let j = member-slice z.0 y.0.instrs mi in
            let leads : has_number (successors_of c) y.0.number ≡ true = subst (λ n. has_number (successors_of c) n ≡ true) (sym y.2) (number-in s.block (successors_of c) (map-in (λ (s : Successor). s.block) s c.successors ms)) in
            let names = phi-names k.0 j.0 y.0 z.0 z.2 ((rules k.0 y.0 k.1).instrs j.0 z.0 j.1) c mc leads in
            among-written c.number z.0 (instrs_of f.blocks s.block) a z.1 (result-given c.number z.0 a z.2 (phi-shape t f z.0 (each t f rules y.0 z.0 y.1 mi) z.2) names z.3)

        go : (s : Successor) × Among s c.successors × (e ≡ way t f c.number s.block) → is_written e.phis a ≡ true
        go y = subst (λ (d : Edge). is_written d.phis a ≡ true) (sym y.2) (here-given y.0 y.1 (subst (λ (d : Edge). Q d.block a) y.2 z) (found-or t f f.blocks y.0.block))

    abbrev Side : (Lane → Type 0) → Code → Code → Type 1
    Side P p q = Points (is_reserved t) Q (points_of t f) (code_of t f) P p q

    -- an instruction's ways out are its block's, and it starts none
    item-exits : (b : Block) (i : Instr) (e : Edge) → Among e (exits_of (item_of t f b i)) → Among e (ways_out t f b)
    unfolding item_of
    item-exits b i e = go (effect_of t i)
      where
        by : (y z : Bool) (reads reads' : Reads) (ws ws' : Writes) (r : Rest) (target : Option Edge) → Among e (exits_of (cond y (Silent reads ws) (Counted r reads' ws' target (cond z (ways_out t f b) [])))) → Among e (ways_out t f b)
        by true z reads reads' ws ws' r target m = absurd (none_among e m)
        by false true reads reads' ws ws' r target m = m
        by false false reads reads' ws ws' r target m = absurd (none_among e m)

        go : (q : Option Effect) → Among e (exits_of (elim q as (λ o. Item) [ None ↦ Silent [] [] | Some x ↦ effect_item t f b i x ])) → Among e (ways_out t f b)
        go None m = absurd (none_among e m)
        go (Some x) m = by (is_silent x) (is_terminator x) (silent_reads t f x i.operands) (map (λ v. v.0) (values t f x i)) (silent_writes t f x (is_early_clobber (roles_of t i)) i.operands) (counted_writes t f x i) (rest_of t f x i) (option_map (way t f b.number) (target_of i.operands)) m

    item-past : (b : Block) (i : Instr) (n : ℕ) (p : Code) → found n (item_of t f b i ∷ p) ≡ found n p
    unfolding item_of
    item-past b i n p = go (effect_of t i)
      where
        by : (y : Bool) (reads reads' : Reads) (ws ws' : Writes) (r : Rest) (target : Option Edge) (exits : List Edge) → found n (cond y (Silent reads ws) (Counted r reads' ws' target exits) ∷ p) ≡ found n p
        by true reads reads' ws ws' r target exits = refl
        by false reads reads' ws ws' r target exits = refl

        go : (q : Option Effect) → found n (elim q as (λ o. Item) [ None ↦ Silent [] [] | Some x ↦ effect_item t f b i x ] ∷ p) ≡ found n p
        go None = refl
        go (Some x) = by (is_silent x) (silent_reads t f x i.operands) (map (λ v. v.0) (values t f x i)) (silent_writes t f x (is_early_clobber (roles_of t i)) i.operands) (counted_writes t f x i) (rest_of t f x i) (option_map (way t f b.number) (target_of i.operands)) (cond (is_terminator x) (ways_out t f b) [])

    module _ (b : Block) (mb : Among b f.blocks) (p q : Code) (rest : (P : Lane → Type 0) → Side P p q) where
      plain-item : (i : Instr) → does is_phi t i ≡ false → point_item t f b i ≡ item_of t f b i
      unfolding point_item
      plain-item i e = λ k. cond (e k) (Silent [] (defined_undef t f i.operands)) (item_of t f b i)

      -- instructions that are no phis
      plain-points : (P : Lane → Type 0) (is : List Instr) → NoPhis t is → Side P (map (point_item t f b) is ++ p) (map (item_of t f b) is ++ q)
      plain-points P [] n = rest P
      plain-points P (i ∷ is) n =
          subst (λ x. Side P (x ∷ (map (point_item t f b) is ++ p)) (item_of t f b i ∷ (map (item_of t f b) is ++ q))) (sym (plain-item i n.0))
          (points.same (item_of t f b i) {P = P} {S = λ l. ⊥} (λ l x. x) (λ e m. covered b mb e (item-exits b i e m)) (item-past b i) (plain-points (λ l. ⊥) is n.1))

      ends-plain : (A : List Writes) (is : List Instr) → AreEnds t f A b is → NoPhis t is
      ends-plain A [] e = tt
      ends-plain A (i ∷ is) e = (e.0.plain, ends-plain A is e.1)

      begun-item : (i : Instr) → does is_phi t i ≡ true → point_item t f b i ≡ Silent [] (defined_undef t f i.operands)
      unfolding point_item
      begun-item i e = λ k. cond (e k) (Silent [] (defined_undef t f i.operands)) (item_of t f b i)

      body-points : (A : List Writes) {is : List Instr} → Shape t f A b is → Side (Results is) (map (point_item t f b) is ++ p) (map (item_of t f b) is ++ q)
      body-points A shapes.none = rest (Results [])
      body-points A (shapes.phi {i = i} {is = is} e s) =
          subst (λ x. Side (Results (i ∷ is)) (x ∷ (map (point_item t f b) is ++ p)) (item_of t f b i ∷ (map (item_of t f b) is ++ q))) (sym (begun-item i e))
          (subst (λ y. Side (Results (i ∷ is)) (Silent [] (defined_undef t f i.operands) ∷ (map (point_item t f b) is ++ p)) (y ∷ (map (item_of t f b) is ++ q))) (sym (phi-item t f b i e))
          (points.begun (defined_undef t f i.operands) {P = Results (i ∷ is)} {S = Results is} (λ l z. (z.0, there z.1, z.2, z.3)) (λ l w. (i, here, e, w)) (body-points A s)))
      body-points A (shapes.other {i = i} {is = is} n e nm to s) = plain-points (Results (i ∷ is)) (i ∷ is) n
      body-points A (shapes.ends {i = i} {is = is} e) = plain-points (Results (i ∷ is)) (i ∷ is) (ends-plain A (i ∷ is) e)

    -- what is to begin at the start of the first of these blocks
    abbrev Enters : List Block → Lane → Type 0
    Enters [] = λ l. ⊥
    Enters (b ∷ bs) = Q b.number

    block-points : (x c : ℕ) (bs : List Block) → ((b : Block) → Among b bs → Among b f.blocks) → Facts t f x c bs → Side (Enters bs) (blocks_code (point_item t f) t f bs) (blocks_code (item_of t f) t f bs)
    block-points x c [] w z = points.no_more
    block-points x c (b ∷ bs) w z =
        let p = blocks_code (point_item t f) t f bs in
        let q = blocks_code (item_of t f) t f bs in
        let falls = option_map (λ m. (way t f b.number m).phis) (fallen_into t b bs) in
        let on = block-points (x + 1) (c + phi_count t b.instrs) bs (λ d m. w d (there m)) z.1 in
        let rest : (P : Lane → Type 0) → Side P (block_end t f b bs ∷ p) (block_end t f b bs ∷ q) = λ P. points.ends falls (ways_out t f b) {P = P} {S = Enters bs} (covered b (w b here)) on in
        points.begins b.number
        (subst (λ is. Side (Results is) (map (point_item t f b) b.instrs ++ (block_end t f b bs ∷ p)) (map (item_of t f b) b.instrs ++ (block_end t f b bs ∷ q))) (sym z.0.found)
        (body-points b (w b here) (block_end t f b bs ∷ p) (block_end t f b bs ∷ q) rest (ending t f x) z.0.shape))

    whole : Side (Enters f.blocks) (points_of t f) (code_of t f)
    unfolding points_of code_of
    whole = block-points 0 (bound t f) f.blocks (λ b m. m) (laid t f rules [] f.blocks refl)

    -- what is live at the start of a block of the code of runs is live there in that of points, or a result of one of its phis
    live-at-start : (n : ℕ) (l : Lane) → Live (is_reserved t) (code_of t f) (found n (code_of t f)) l → Live (is_reserved t) (points_of t f) (found n (points_of t f)) l ⊎ Q n l
    live-at-start n l x = points.live-or (is_reserved t) Q (points_of t f) (code_of t f) starts x (Q n) (found n (points_of t f)) (starts n)
      where
        starts : (m : ℕ) → Side (Q m) (found m (points_of t f)) (found m (code_of t f))
        starts m = points.found-points (is_reserved t) Q (points_of t f) (code_of t f) m whole

    -- what is live where the function begins without its phis was live there
    first-plain : (b : Block) → slice_get f.blocks 0 ≡ Some b → NoPhis t (instrs_of f.blocks b.number)
    first-plain b e = go f.blocks e (laid t f rules [] f.blocks refl) (first-bare t f rules)
      where
        go : (bs : List Block) → slice_get bs 0 ≡ Some b → Facts t f 0 (bound t f) bs → FirstBare t f bs → NoPhis t (instrs_of f.blocks b.number)
        go [] g z n = absurd (cc)
        go (d ∷ bs) g z n =
            let y : d ≡ b = some-same d b g in
            subst (λ (b : Block). NoPhis t (instrs_of f.blocks b.number)) y (subst (NoPhis t) (sym z.0.found) n)

    no-phi-among : (is : List Instr) → NoPhis t is → (i : Instr) → Among i is → does is_phi t i ≡ true → ⊥
    no-phi-among [] n i m e = none_among i m
    no-phi-among (j ∷ is) n i here e = let x : true ≡ false = sym e ∙ n.0 in cc
    no-phi-among (j ∷ is) n i (there m) e = no-phi-among is n.1 i m e

    free-of : {C q : Code} {l : Lane} → Live (is_reserved t) C q l → is_reserved t l ≡ false
    free-of (live.read x y r) = r
    free-of (live.next o h f r) = r
    free-of (live.leap x h g f r) = r
    free-of (live.phi x y g f r) = r
    free-of (live.store w o h f t r) = r
    free-of (live.kept s f r) = r

    abbrev G : Function
    G = phis_lowered t f

    run-live : (n : ℕ) (l : Lane) → NoPhis t (instrs_of f.blocks n) → Live (is_reserved t) (code_of t G) (found n (code_of t G)) l → Live (is_reserved t) (code_of t H) (found n (code_of t H)) l
    run-live n l none x =
        let z = has-source (is_reserved t) (bound t f) (reserved-old t (bound t f)) (reserved-apart t) (λ s k w. refl) (K t f) (code_of t H) (code_of t G) (side-starts t f rules) x (K t f n) (found n (code_of t H)) (side-starts t f rules n) in
        let same = start-equal t f (counter t (bound t f) f.blocks n) (instrs_of f.blocks n) none z.0 (FromLane l) z.1 in
        go (z.2 l (sym same.1)) (free-of x)
      where
        go : Kept (is_reserved t) (code_of t H) (found n (code_of t H)) l → is_reserved t l ≡ false → Live (is_reserved t) (code_of t H) (found n (code_of t H)) l
        go (inl y) r = y
        go (inr y) r = absurd (let k : true ≡ false = sym y ∙ r in cc)

    start-live : (b : Block) → slice_get f.blocks 0 ≡ Some b → (l : Lane) → LiveAt t G (AtStart b.number) l → LiveAt t f (AtStart b.number) l
    start-live b e l x =
        let none = first-plain b e in
        let y = run-live b.number l none (subst (λ c. Live (is_reserved t) c (found b.number c) l) (points_are_code t G (phis_are_gone t f)) x) in
        go (live-at-start b.number l (subst (λ c. Live (is_reserved t) c (found b.number c) l) (code-stays (named t f rules)) y))
      where
        go : Live (is_reserved t) (points_of t f) (found b.number (points_of t f)) l ⊎ Q b.number l → Live (is_reserved t) (points_of t f) (found b.number (points_of t f)) l
        go (inl y) = y
        go (inr z) = absurd (no-phi-among (instrs_of f.blocks b.number) (first-plain b e) z.0 z.1 z.2)

pub phis-keep-start : PhisKeepStart
phis-keep-start t f valid b e l live' = start-live t f (all-rules t f valid.shape) b e l live'
