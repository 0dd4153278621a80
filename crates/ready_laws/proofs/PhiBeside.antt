-- Phi elimination: the code of a valid source, with the classes of incoming registers, and that of what becomes of it, side by side.
use Rattle.std.proofs.Common.{◌≡◌, ◌⊎◌, inl, inr, ◌++◌, ◌∙◌, ◌&&◌, ◌+◌, ℕ, Bool, true, false, cond, List, [], ◌∷◌, Option, Some, None, map, filter, length, refl, sym, ap, subst, append_assoc}
use Rattle.std.specs.Prelude.{option_map, slice_get, ◌==◌}
use Rattle.target_base.specs.declared.types.Effect.{Effect}
use Rattle.target_base.specs.declared.types.Effect.TheVariants as effects
use Rattle.target_base.specs.declared.types.Target.{Target}
use Rattle.target_base.specs.Rules.{is_phi}
use Rattle.meaning.specs.Code.{BlockEnd, Code, Item, Silent, found}
use Rattle.meaning.specs.Lanes.{Writes, filled, settled, through}
use Rattle.meaning.specs.Live.{Among, exits_of, here, in_order, reads_of, there, writes_of}
use Rattle.meaning.specs.Relations.{Rel, Within, after_both, after_second}
use Rattle.meaning.specs.Rows.{first_edges, second_edges}
use Rattle.meaning.specs.declared.types.EdgePair.{EdgePair}
use Rattle.meaning.specs.declared.types.Fill.TheVariants.{Moved}
use Rattle.meaning.specs.declared.types.Lane.{Lane}
use Rattle.meaning.specs.declared.types.Lane.TheVariants.{SlotLane, UnitLane, VirtualLane}
use Rattle.meaning.specs.declared.types.Source.{Source}
use Rattle.meaning.specs.declared.types.Source.TheVariants.{FromLane}
use Rattle.laws.proofs.Flow.{none_among}
use Rattle.mir_func.specs.declared.func.Edge.{Edge as Successor}
use Rattle.mir_func.specs.declared.func.Op.TheVariants as ops
use Rattle.mir_func.specs.declared.func.RegOp.{RegOp}
use Rattle.mir_func.specs.declared.func.Instr.{Instr}
use Rattle.mir_func.specs.declared.func.Block.{Block}
use Rattle.mir_func.specs.Value.{Function}
use Rattle.mir_func.specs.Binding.{does, effect_of, is_terminator, passes, puts_together, registers}
use Rattle.mir_meaning.specs.Registers.{is_reserved, located_lanes, numbers, range_widths, use_sources, whole_lanes}
use Rattle.mir_meaning.specs.Items.{copied, moved, undefined, uses}
use Rattle.mir_meaning.specs.Rules.{has_class}
use Rattle.mir_meaning.specs.Codes.{block_end, blocks_code, code_of, effect_item, fallen_into, instrs_of, item_of, way, ways_out}
use Rattle.phi_elim.specs.declared.arrivals.Arrival.{Arrival}
use Rattle.phi_elim.specs.Moves.{copy_op, whole_use}
use Rattle.phi_elim.specs.Numbered.{blocks_numbered, numbered}
use Rattle.phi_elim.specs.Phis.{all_in_place, arriving, arriving_at, before_terminators, from_incoming, in_place, lowered_blocks, phi_count, phi_number, phis_lowered}
use Rattle.lowering_laws.proofs.Alike.{Behind, CountedPart, Equal, MovesRanges, SilentPart, behind-stays, counted-of, equal-stays, is_ranged, parts-of}
use Rattle.lowering_laws.proofs.Arrivals.{arrival_writes, left-alone}
use Rattle.lowering_laws.proofs.Blocks.{Facts, none-written, phis_are_gone}
use Rattle.lowering_laws.proofs.Chained.{both-ways, ends-ways, exits-within, first-ways, second-ways}
use Rattle.lowering_laws.proofs.Classes.{AllNamed, AreNamed, among-filter, item-stays}
use Rattle.lowering_laws.proofs.Lowering as shapes
use Rattle.lowering_laws.proofs.Lowering.{AreEnds, IsEnd, K, NoPhis, Shape, Start, WayOn, arrs, bound, ending, further, h, map-append, start-equal, way-in}
use Rattle.lowering_laws.proofs.Olds.{AllOld, ReadsOld, old_source, reads-are-old, use-old, writes-are-old}
use Rattle.lowering_laws.proofs.Operands.{PhiShape, all-named, phi-shape}
use Rattle.lowering_laws.proofs.Placed.{arriving-item, before-set, copy-goes-on, copy-item, numbered-items, phi-item, set_before}
use Rattle.lowering_laws.proofs.Ruled.{AllRules, EachRules}
use Rattle.lowering_laws.proofs.Same.{arrival-alike, copied-alike}
use Rattle.lowering_laws.proofs.Stretches.{along-more}
use Rattle.lowering_laws.proofs.Traced.{filled-free, is_lane_of, is_written, lanes_by, traced}
use Rattle.lowering_laws.proofs.Ways.{others, phi_copies}
use Rattle.ready_laws.proofs.BesideLanes as beside
use Rattle.ready_laws.proofs.BesideLanes.{Beside, Calm, Same}
use Rattle.ready_laws.proofs.Lived.{AllBare, moves-lane}
use Rattle.ready_laws.proofs.RangesMoved.{all-move}
use Rattle.ready_laws.proofs.SourceFacts.{each, from-ranges, laid}
use Rattle.ready_laws.proofs.TiedStarts.{plain-of, reserved-old}

pub reserved-apart : (t : Target) (a : Lane) → is_reserved t a ≡ true → is_ranged (FromLane a) ≡ false
reserved-apart t (VirtualLane v k) e = absurd (cc)
reserved-apart t (UnitLane u) e = refl
reserved-apart t (SlotLane s k w) e = refl

apart-lane : (v : ℕ) (l : Lane) → is_ranged (FromLane l) ≡ false → is_lane_of v l ≡ false
apart-lane v (VirtualLane w k) e = absurd (cc)
apart-lane v (UnitLane u) e = refl
apart-lane v (SlotLane s k w) e = refl

module _ (t : Target) (f : Function) where
  uses-old : (os : List RegOp) → ((o : RegOp) → Among o os → has_class f o.loc ≡ true) → ReadsOld (bound t f) (map (use_sources t f) os)
  uses-old [] h = tt
  uses-old (o ∷ os) h = (use-old t f o (h o here), uses-old os (λ p m. h p (there m)))

  -- all that an instruction reads is old
  all-reads-old : (b : Block) (i : Instr) → AreNamed f i.operands → ReadsOld (bound t f) (reads_of (item_of t f b i))
  unfolding item_of
  all-reads-old b i h = go (does puts_together t i) refl
    where
      of-uses : ReadsOld (bound t f) (map (use_sources t f) (uses i.operands))
      of-uses = uses-old (uses i.operands) (λ o m. (h o (among-filter _ o (registers i.operands) m)).class)

      by : (e : Effect) → puts_together e ≡ true → ReadsOld (bound t f) (reads_of (effect_item t f b i e))
      by effects.RegSequence p = of-uses
      by effects.InsertSubreg p = of-uses
      by e p = absurd (cc)

      by-effect : (q : Option Effect) → passes puts_together q ≡ true → ReadsOld (bound t f) (reads_of (elim q as (λ o. Item) [ None ↦ Silent [] [] | Some e ↦ effect_item t f b i e ]))
      by-effect None p = tt
      by-effect (Some e) p = by e p

      go : (y : Bool) → does puts_together t i ≡ y → ReadsOld (bound t f) (reads_of (item_of t f b i))
      go true e = by-effect (effect_of t i) e
      go false e = reads-are-old t f b i e h

module _ (t : Target) (f : Function) (rules : (n : ℕ) (b : Block) → slice_get f.blocks n ≡ Some b → AllRules t f n b) where
  abbrev H : Function
  H = h t f

  abbrev G : Function
  G = phis_lowered t f

  classes : H.classes ≡ G.classes
  unfolding phis_lowered
  classes = refl

  pub named : AllNamed f f.blocks
  named = all-named t f (each t f rules)

  bare : (n m : ℕ) → (way t G n m).phis ≡ []
  bare n m = none-written t G n (instrs_of G.blocks m) (plain-of t G.blocks m (phis_are_gone t f))

  moves : (x : ℕ) → MovesRanges (bound t f) (ending t f x)
  moves x = all-move t f (from-ranges t f rules) x

  abbrev pub Side : Rel → Code → Code → Type 1
  Side S p q = Beside (is_reserved t) (bound t f) (reserved-old t (bound t f)) (reserved-apart t) (λ s k w. refl) (K t f) (code_of t H) (code_of t G) S p q

  abbrev Alike : Rel → Item → Item → List EdgePair → Type 0
  Alike S i j exits = Same (is_reserved t) (bound t f) (reserved-old t (bound t f)) (reserved-apart t) (λ s k w. refl) (K t f) (code_of t H) (code_of t G) S i j exits

  writes-old : (b : Block) (i : Instr) → AreNamed f i.operands → AllOld (bound t f) (writes_of (item_of t H b i))
  writes-old b i n = subst (λ y. AllOld (bound t f) (writes_of y)) (sym (item-stays t f (further t f) named b i n)) (writes-are-old t f b i n)

  reads-old : (b : Block) (i : Instr) → AreNamed f i.operands → ReadsOld (bound t f) (reads_of (item_of t H b i))
  reads-old b i n = subst (λ y. ReadsOld (bound t f) (reads_of y)) (sym (item-stays t f (further t f) named b i n)) (all-reads-old t f b i n)

  none-copied : (c : ℕ) (is : List Instr) → NoPhis t is → phi_copies t H (bound t f) c is ≡ []
  none-copied c [] n = refl
  none-copied c (i ∷ is) n = (λ k. cond (n.0 k) (copied t H (from_incoming c i.operands) ∷ []) [] ++ phi_copies t H (bound t f) (c + phi_number t i) is) ∙ none-copied (c + phi_number t i) is n.1

  equal-start : (c : ℕ) (is : List Instr) → NoPhis t is → Within (Equal (bound t f)) (Start t f c is)
  equal-start c is n s u k = (k.0, k.1 ∙ sym (ap (λ wss. traced wss s) (none-copied c is n)))

  -- an instruction that is neither a phi nor a terminator
  module _ (b c' : Block) (i : Instr) (plain : does is_terminator t i ≡ false) (n : AreNamed f i.operands) where
    abbrev X : Item
    X = item_of t H b i

    abbrev Y : Item
    Y = item_of t G c' i

    equal-same : reads_of Y ≡ reads_of X → writes_of Y ≡ writes_of X → in_order X ≡ true → exits_of X ≡ [] → exits_of Y ≡ [] → ((m : ℕ) (p : Code) → found m (X ∷ p) ≡ found m p) → ((m : ℕ) (p : Code) → found m (Y ∷ p) ≡ found m p) → Alike (Equal (bound t f)) X Y []
    equal-same r w o x y past past' = record {
      reads = r;
      writes = w;
      first-order = o;
      first-exits = x;
      second-exits = y;
      bare = λ e m. absurd (none_among e m);
      reads-old = reads-old b i n;
      writes-old = writes-old b i n;
      stays = equal-stays (bound t f) (writes_of X) (writes-old b i n);
      out = λ e m. absurd (none_among e m);
      itself = λ s o. (o, refl);
      slots = λ s x k w r. sym r.1;
      past = past;
      past' = past';
    }

    other-same : Alike (Equal (bound t f)) X Y []
    other-same = go (parts-of t H G classes bare b c' i (λ o m. (n o m).fixed))
      where
        go : SilentPart X Y ⊎ CountedPart t H G b c' i X Y → Alike (Equal (bound t f)) X Y []
        go (inl z) = equal-same (ap reads_of (z.other ∙ sym z.one)) (ap writes_of (z.other ∙ sym z.one)) (ap in_order z.one) (ap exits_of z.one) (ap exits_of z.other) (λ m p. ap (λ y. found m (y ∷ p)) z.one) (λ m p. ap (λ y. found m (y ∷ p)) z.other)
        go (inr z) =
            equal-same (ap reads_of z.other ∙ sym (ap reads_of z.one)) (ap writes_of z.other ∙ sym (ap writes_of z.one)) (ap in_order z.one)
            (ap exits_of z.one ∙ ap (λ y. cond y (ways_out t H b) []) plain)
            (ap exits_of z.other ∙ ap (λ y. cond y (ways_out t G c') []) plain)
            (λ m p. ap (λ y. found m (y ∷ p)) z.one) (λ m p. ap (λ y. found m (y ∷ p)) z.other)

  -- a phi, and the copy that takes its place
  module _ (b c' : Block) (c : ℕ) (i : Instr) (is : List Instr) (e : does is_phi t i ≡ true) (shape : PhiShape t f i.operands) where
    abbrev ws : Writes
    ws = copied t H (from_incoming c i.operands)

    calm-copy : Calm ws
    calm-copy l apart = filled-free ws l (subst (λ y. is_written y l ≡ false) (sym made) (others t H (bound t f) shape.v (numbers 0 (length (range_widths t H shape.v))) (shape.d.def && shape.d.undef) (use_sources t H (whole_use c)) l (apart-lane shape.v l apart)))
      where
        made : ws ≡ moved false (lanes_by shape.v (numbers 0 (length (range_widths t H shape.v)))) (use_sources t H (whole_use c)) ++ undefined false (cond (shape.d.def && shape.d.undef) (lanes_by shape.v (numbers 0 (length (range_widths t H shape.v)))) [])
        made =
            (λ q. copied t H (from_incoming c (shape.are q)))
            ∙ (λ q. moved false (located_lanes t H (shape.loc q) (shape.index q)) (use_sources t H (whole_use c)) ++ undefined false (cond (shape.d.def && shape.d.undef) (whole_lanes t H (shape.loc q)) []))

    beside-phi : (p q : Code) → Side (Start t f (c + phi_number t i) is) p q → Side (Start t f c (i ∷ is)) (item_of t H b i ∷ p) (item_of t G c' (in_place t c i) ∷ q)
    beside-phi p q d =
        subst (λ x. Side (Start t f c (i ∷ is)) (x ∷ p) (item_of t G c' (in_place t c i) ∷ q)) (sym (phi-item t H b i e))
        (subst (λ y. Side (Start t f c (i ∷ is)) (Silent [] [] ∷ p) (y ∷ q)) (sym placed) (beside.replaced ws calm-copy within d))
      where
        copy : Instr
        copy = record i { op = ops.Known copy_op; operands = from_incoming c i.operands }

        placed : item_of t G c' (in_place t c i) ≡ Silent [] ws
        placed = (λ k. item_of t G c' (cond (e k) copy i)) ∙ (copy-item t G c' copy refl ∙ ap (λ ws. Silent [] ws) (copied-alike t H G classes (from_incoming c i.operands)))

        within : Within (Start t f (c + phi_number t i) is) (after_second ws (Start t f c (i ∷ is)))
        within s u k = (k.0, ap (λ z. settled (through ws z)) k.1 ∙ (λ j. traced (cond (sym e j) (ws ∷ []) [] ++ phi_copies t H (bound t f) (c + phi_number t i) is) s))

  -- the copies at the end of a block
  calm-arrival : (a : Arrival) → Calm (arrival_writes t H a)
  calm-arrival a l apart = moves-lane (filled (arrival_writes t H a) l) l (left-alone t H a l (apart-lane a.to l apart))

  beside-arrivals : (c' : Block) (S : Rel) (list : List Arrival) (p q : Code) → Side (λ s u. S s (traced (map (arrival_writes t H) list) u)) p q → Side S p (map (item_of t G c') (map arriving list) ++ q)
  beside-arrivals c' S [] p q d = d
  beside-arrivals c' S (a ∷ list) p q d =
      subst (λ y. Side S p (y ∷ (map (item_of t G c') (map arriving list) ++ q))) (sym (arriving-item t G c' a ∙ ap (λ ws. Silent [] ws) (arrival-alike t H G classes a)))
      (beside.added (arrival_writes t H a) {T = after_second (arrival_writes t H a) S} (calm-arrival a) (λ s u k. k) (beside-arrivals c' (after_second (arrival_writes t H a) S) list p q d))

  module _ (x : ℕ) (b : Block) (js : List Instr) (leads : (s : Successor) → Among s b.successors → WayOn t f (ending t f x) b.number s.block) where
    abbrev A : List Writes
    A = ending t f x

    abbrev c' : Block
    c' = record b { instrs = js }

    abbrev new : List Instr
    new = arriving_at (arrs t f) x

    abbrev exits : List EdgePair
    exits = ends-ways t H G (K t f) b.number b.successors

    all-bare : (ss : List Successor) → AllBare (second_edges (ends-ways t H G (K t f) b.number ss))
    all-bare [] e m = absurd (none_among e m)
    all-bare (s ∷ ss) e here = bare b.number s.block
    all-bare (s ∷ ss) e (there m) = all-bare ss e m

    -- a terminator
    end-same : (i : Instr) → IsEnd t f A b i → Alike (Behind (bound t f) A) (item_of t H b i) (item_of t G c' i) exits
    end-same i e = record {
      reads = ap reads_of z.other ∙ sym (ap reads_of z.one);
      writes = ap writes_of z.other ∙ sym (ap writes_of z.one);
      first-order = ap in_order z.one;
      first-exits = ap exits_of z.one ∙ (ap (λ y. cond y (ways_out t H b) []) e.ends ∙ sym (first-ways t H G (K t f) b.number b.successors));
      second-exits = ap exits_of z.other ∙ (ap (λ y. cond y (ways_out t G c') []) e.ends ∙ sym (second-ways t H G (K t f) b.number b.successors));
      bare = all-bare b.successors;
      reads-old = reads-old b i e.named;
      writes-old = old;
      stays = stays;
      out = exits-within t H G (K t f) b.number (after_both us us (Behind (bound t f) A)) b.successors (λ s m. λ y u k. along-more (both-ways t H G (K t f) b.number s.block) (after_both us us (Behind (bound t f) A)) (Behind (bound t f) A) stays y u (way-in t f named bare A b.number s.block (moves x) (leads s m) y u k));
      itself = λ s o. (o, (moves x).kept s o);
      slots = λ s y k w r. sym r.1 ∙ (moves x).slots y k w;
      past = λ m p. ap (λ y. found m (y ∷ p)) z.one;
      past' = λ m p. ap (λ y. found m (y ∷ p)) z.other;
    }
      where
        z : CountedPart t H G b c' i (item_of t H b i) (item_of t G c' i)
        z = counted-of t H G classes bare b c' i (λ o m. (e.named o m).fixed) e.ends

        us : Writes
        us = writes_of (item_of t H b i)

        old : AllOld (bound t f) us
        old = writes-old b i e.named

        free : (v k : ℕ) → is_written us (VirtualLane v k) ≡ false
        free v k = subst (λ y. is_written (writes_of y) (VirtualLane v k) ≡ false) (sym (item-stays t f (further t f) named b i e.named)) (e.free v k)

        stays : Within (Behind (bound t f) A) (after_both us us (Behind (bound t f) A))
        stays = behind-stays (bound t f) A (moves x) us old free

    all-ends : (is : List Instr) → AreEnds t f A b is → (p q : Code) → Side (Behind (bound t f) A) p q → Side (Behind (bound t f) A) (map (item_of t H b) is ++ p) (map (item_of t G c') is ++ q)
    all-ends [] e p q d = d
    all-ends (i ∷ is) e p q d = beside.same (item_of t H b i) (item_of t G c' i) exits (end-same i e.0) (all-ends is e.1 p q d)

    last-copies : (p q : Code) → Side (Behind (bound t f) A) p q → Side (Equal (bound t f)) p (map (item_of t G c') new ++ q)
    last-copies p q d = beside-arrivals c' (Equal (bound t f)) (filter (λ a. a.block == x) (arrs t f)) p q d

    ends-plain : (is : List Instr) → AreEnds t f A b is → NoPhis t is
    ends-plain [] e = tt
    ends-plain (i ∷ is) e = (e.0.plain, ends-plain is e.1)

    none-placed : (c : ℕ) (is : List Instr) → NoPhis t is → all_in_place t c is ≡ is
    none-placed c [] n = refl
    none-placed c (i ∷ is) n = λ k. cond (n.0 k) (record i { op = ops.Known copy_op; operands = from_incoming c i.operands }) i ∷ none-placed (c + phi_number t i) is n.1 k

    placed-goes-on : (c : ℕ) (i : Instr) → does is_phi t i ≡ true → does is_terminator t (in_place t c i) ≡ false
    placed-goes-on c i e =
        (λ k. does is_terminator t (cond (e k) (record i { op = ops.Known copy_op; operands = from_incoming c i.operands }) i))
        ∙ copy-goes-on t (record i { op = ops.Known copy_op; operands = from_incoming c i.operands }) refl

    -- the instructions of a block
    body : (c : ℕ) {is : List Instr} → Shape t f A b is → ((i : Instr) → Among i is → does is_phi t i ≡ true → PhiShape t f i.operands) → (p q : Code) → Side (Behind (bound t f) A) p q
        → Side (Start t f c is) (map (item_of t H b) is ++ p) (map (item_of t G c') (set_before t new (all_in_place t c is)) ++ q)
    body c shapes.none w p q d = beside.weaker (equal-start c [] tt) (last-copies p q d)
    body c (shapes.phi {i = i} {is = is} e s) w p q d =
        let rest = all_in_place t (c + phi_number t i) is in
        subst (λ y. Side (Start t f c (i ∷ is)) (map (item_of t H b) (i ∷ is) ++ p) (map (item_of t G c') (cond y (new ++ in_place t c i ∷ rest) (in_place t c i ∷ set_before t new rest)) ++ q)) (sym (placed-goes-on c i e))
        (beside-phi b c' c i is e (w i here e) (map (item_of t H b) is ++ p) (map (item_of t G c') (set_before t new rest) ++ q) (body (c + phi_number t i) s (λ y m. w y (there m)) p q d))
    body c (shapes.other {i = i} {is = is} n e nm to s) w p q d =
        let rest = all_in_place t (c + phi_number t i) is in
        let kept : in_place t c i ≡ i = λ k. cond (n.0 k) (record i { op = ops.Known copy_op; operands = from_incoming c i.operands }) i in
        let on = body (c + phi_number t i) s (λ y m. w y (there m)) p q d in
        let one : Side (Start t f c (i ∷ is)) (item_of t H b i ∷ (map (item_of t H b) is ++ p)) (item_of t G c' i ∷ (map (item_of t G c') (set_before t new rest) ++ q)) =
        beside.weaker (equal-start c (i ∷ is) n) (beside.same (item_of t H b i) (item_of t G c' i) [] (other-same b c' i e nm) (beside.weaker (start-equal t f (c + phi_number t i) is n.1) on)) in
        subst (λ j. Side (Start t f c (i ∷ is)) (map (item_of t H b) (i ∷ is) ++ p) (map (item_of t G c') (set_before t new (j ∷ rest)) ++ q)) (sym kept)
        (subst (λ y. Side (Start t f c (i ∷ is)) (map (item_of t H b) (i ∷ is) ++ p) (map (item_of t G c') (cond y (new ++ i ∷ rest) (i ∷ set_before t new rest)) ++ q)) (sym e) one)
    body c (shapes.ends {i = i} {is = is} e) w p q d =
        let n = ends-plain (i ∷ is) e in
        let items = map (item_of t G c') in
        let on = last-copies (map (item_of t H b) (i ∷ is) ++ p) (items (i ∷ is) ++ q) (all-ends (i ∷ is) e p q d) in
        subst (λ js. Side (Start t f c (i ∷ is)) (map (item_of t H b) (i ∷ is) ++ p) (items (set_before t new js) ++ q)) (sym (none-placed c (i ∷ is) n))
        (subst (λ y. Side (Start t f c (i ∷ is)) (map (item_of t H b) (i ∷ is) ++ p) (items (cond y (new ++ i ∷ is) (i ∷ set_before t new is)) ++ q)) (sym e.0.ends)
        (subst (λ y. Side (Start t f c (i ∷ is)) (map (item_of t H b) (i ∷ is) ++ p) y) (sym (append_assoc (items new) (items (i ∷ is)) q) ∙ ap (λ y. y ++ q) (sym (map-append (item_of t G c') new (i ∷ is))))
        (beside.weaker (equal-start c (i ∷ is) n) on)))

    block-end : (after after' : List Block) (T : Rel) (p q : Code) → Side T p q → Side (Behind (bound t f) A) (block_end t H b after ∷ p) (block_end t G c' after' ∷ q)
    block-end after after' T p q d =
        let falls = option_map (λ m. (way t H b.number m).phis) (fallen_into t b after) in
        let falls' = option_map (λ m. (way t G b.number m).phis) (fallen_into t c' after') in
        let one : Side (Behind (bound t f) A) (BlockEnd falls (first_edges exits) ∷ p) (BlockEnd falls' (second_edges exits) ∷ q) =
        beside.ends falls falls' exits {T = T} (exits-within t H G (K t f) b.number (Behind (bound t f) A) b.successors (λ s m. way-in t f named bare A b.number s.block (moves x) (leads s m))) (all-bare b.successors) d in
        subst (λ es. Side (Behind (bound t f) A) (BlockEnd falls es ∷ p) (BlockEnd falls' (ways_out t G c') ∷ q)) (first-ways t H G (K t f) b.number b.successors)
        (subst (λ es. Side (Behind (bound t f) A) (BlockEnd falls (first_edges exits) ∷ p) (BlockEnd falls' es ∷ q)) (second-ways t H G (K t f) b.number b.successors) one)

  -- what holds at the start of the first of these blocks
  abbrev Enters : List Block → Rel
  Enters [] = Equal (bound t f)
  Enters (b ∷ bs) = K t f b.number

  beside-blocks : (n x c : ℕ) (bs : List Block) → ((b : Block) → Among b bs → Among b f.blocks) → Facts t f x c bs
      → Side (Enters bs) (blocks_code (item_of t H) t H bs) (blocks_code (item_of t G) t G (blocks_numbered n (lowered_blocks t (arrs t f) x c bs)))
  beside-blocks n x c [] w z = beside.no_more
  beside-blocks n x c (b ∷ bs) w z =
      let new = arriving_at (arrs t f) x in
      let placed = all_in_place t c b.instrs in
      let L = before_terminators t new placed in
      let js = numbered n L in
      let c' : Block = record b { instrs = js } in
      let after' = blocks_numbered (n + length L) (lowered_blocks t (arrs t f) (x + 1) (c + phi_count t b.instrs) bs) in
      let p = blocks_code (item_of t H) t H bs in
      let q = blocks_code (item_of t G) t G after' in
      let rest = beside-blocks (n + length L) (x + 1) (c + phi_count t b.instrs) bs (λ y m. w y (there m)) z.1 in
      let all = body x b js z.0.leads c z.0.shape (λ i m e. phi-shape t f i (each t f rules b i (w b here) m) e) (block_end t H b bs ∷ p) (block_end t G c' after' ∷ q) (block-end x b js z.0.leads bs after' (Enters bs) p q rest) in
      let first = map (item_of t H b) b.instrs ++ (block_end t H b bs ∷ p) in
      let items : map (item_of t G c') js ≡ map (item_of t G c') (set_before t new placed) = numbered-items t G c' n L ∙ ap (map (item_of t G c')) (before-set t new placed) in
      beside.begins b.number
      (subst (λ m. Side (Start t f m (instrs_of f.blocks b.number)) first (map (item_of t G c') js ++ (block_end t G c' after' ∷ q))) (sym z.0.counted)
      (subst (λ is. Side (Start t f c is) first (map (item_of t G c') js ++ (block_end t G c' after' ∷ q))) (sym z.0.found)
      (subst (λ y. Side (Start t f c b.instrs) first (y ++ (block_end t G c' after' ∷ q))) (sym items) all)))

  pub whole : Side (Enters f.blocks) (code_of t H) (code_of t G)
  unfolding code_of phis_lowered
  whole = beside-blocks 0 0 (bound t f) f.blocks (λ b m. m) (laid t f rules [] f.blocks refl)

  -- from the start of each block on
  pub side-starts : (n : ℕ) → Side (K t f n) (found n (code_of t H)) (found n (code_of t G))
  side-starts n = beside.found-beside (is_reserved t) (bound t f) (reserved-old t (bound t f)) (reserved-apart t) (λ s k w. refl) (K t f) (code_of t H) (code_of t G) n whole
