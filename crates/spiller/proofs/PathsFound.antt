-- What the walk finds of a lane of a range is what paths of the code say: which readings a definition reaches.
use Rattle.std.proofs.Common.{◌≡◌, ◌∙◌, ◌⊎◌, ℕ, suc, ◌+◌, ◌≤◌, Bool, true, false, cond, not, ◌||◌, List, [], ◌∷◌, ◌++◌, Option, Some, None, map, length, take, drop, refl, sym, ap, subst, inl, inr, arith, eqb-true}
use Rattle.std.specs.Prelude.{◌↔◌, option_map, nat_eq, slice_get}
use Rattle.std.specs.List.{list_any}
use Rattle.std.proofs.lemmas.Bool.{eq-eqb}
use Rattle.target_base.specs.declared.types.Effect.{Effect}
use Rattle.target_base.specs.declared.types.Target.{Target}
use Rattle.meaning.specs.declared.types.Lane.{Lane}
use Rattle.meaning.specs.declared.types.Lane.TheVariants.{VirtualLane}
use Rattle.meaning.specs.Code.{Edge, Code, found}
use Rattle.meaning.specs.Live.{Among as Member, here as first, there as later, exits_of, in_order, Writing, is_slot}
use Rattle.mir_func.specs.declared.func.Edge.{Edge as Way}
use Rattle.mir_func.specs.declared.func.Instr.{Instr}
use Rattle.mir_func.specs.declared.func.Block.{Block}
use Rattle.mir_func.specs.Value.{Function}
use Rattle.mir_func.specs.Binding.{effect_of, does, passes, is_terminator}
use Rattle.mir_meaning.specs.Registers.{is_reserved}
use Rattle.mir_meaning.specs.Rules.{V8}
use Rattle.mir_meaning.specs.Codes.{way, ways_out, block_end, blocks_code}
use Rattle.mir_meaning.specs.Points.{point_item, points_of, from_instr, AtFirst}
use Rattle.mir_meaning.specs.Paths.{Body, has, Among, exits_of as exits_at_block}
use Rattle.instr_effects.specs.Numbered.{number_in}
use Rattle.instr_effects.specs.Steps.{Numbering}
use Rattle.instr_effects.specs.Stepping.{tag_of}
use Rattle.instr_effects.proofs.Members.{member-none, map-in}
use Rattle.live_lanes.specs.declared.table.Table.{Table}
use Rattle.live_lanes.specs.Doing.{IsComputed}
use Rattle.live_lanes.specs.Ordered.{ids_of, place_of, AreRising}
use Rattle.live_lanes.specs.Flowing.{edge_places}
use Rattle.live_lanes.specs.Ways.{successors}
use Rattle.live_laws.specs.Acts.{Reading, TellsActs}
use Rattle.live_laws.specs.Effects.Shaped.{is_proper}
use Rattle.live_laws.specs.Effects.Coded.{place_of as coded_place, instr_step, body_of, exits_from, numbered_code, spot_in, KeepsRules, IsNumbered}
use Rattle.live_laws.proofs.Effects.Blocks.{of-among, slice-map, slice-member, member-slice, filtered-of, filtered-in, numbers-apart, place-block}
use Rattle.live_laws.proofs.Effects.Instrs.{same-law, written-law}
use Rattle.live_laws.proofs.Effects.Lists.{any-in}
use Rattle.live_laws.proofs.Effects.Tabled.{table-law}
use Rattle.live_laws.proofs.Effects.Whole.{step-at, is-out}
use Rattle.live_laws.proofs.Exact.Coded.{place-same}
use Rattle.live_laws.proofs.Exact.Everywhere.{spot-at}
use Rattle.live_laws.proofs.Exact.Quiet.{is_range_lane, writes-units}
use Rattle.live_laws.proofs.Acts.Told.{acts-law}
use Rattle.live_laws.proofs.Touch.Sequence.{has-member, member-has}
use Rattle.spiller.specs.declared.reaching.LaneTouch.{LaneTouch}
use Rattle.spiller.specs.Reaching.{Leads, stays, passes as goes_past, leaps}
use Rattle.spiller.specs.Walks.{touch_of, seen, keeps}
use Rattle.live_laws.proofs.Effects.Moving.{some-same}
use Rattle.live_laws.proofs.Touch.Cells.{or-cases, or-right}
use Rattle.spiller.proofs.Walking.{has-join}
use Rattle.spiller.proofs.CodePlaces.{rest_code, block-found, instr-found, same-position, same-ends}
use Rattle.spiller.proofs.Basics.{is-false, tails}
use Rattle.spiller.proofs.ListSeats.{get-seat}

-- lists and tests

leaving-by : (b : Bool) (out : List Edge) (e : Edge) → Member e (cond b out []) → (b ≡ true) × Member e out
leaving-by true out e m = (refl, m)
leaving-by false out e m = absurd (member-none e m)

shifted : {X : Type 0} (xs : List X) (x : X) (ys : List X) → (xs ++ x ∷ []) ++ ys ≡ xs ++ x ∷ ys
shifted [] x ys = refl
shifted (z ∷ xs) x ys = ap (λ zs. z ∷ zs) (shifted xs x ys)

past-front : {X : Type 0} (xs ys : List X) → drop (length xs) (xs ++ ys) ≡ ys
past-front [] ys = refl
past-front (z ∷ xs) ys = past-front xs ys

part-short : {X : Type 0} (xs ys zs : List X) → xs ++ ys ≡ zs → length ys ≤ length zs
part-short xs ys zs e = let h = ap length e in omega (arith, long xs ys)
  where
    long : {X : Type 0} (xs ys : List X) → length (xs ++ ys) ≡ length xs + length ys
    long [] ys = omega arith
    long (x ∷ xs) ys = omega (arith, long xs ys)

-- an instruction behind another in a list
behind-in : (front : List Instr) (o : Instr) (rest : List Instr) (i : Instr) → Member i rest → (j : ℕ) × (slice_get (front ++ o ∷ rest) j ≡ Some i) × Member o (take j (front ++ o ∷ rest))
behind-in [] o rest i m = let z = member-slice i rest m in (suc z.0, z.1, first)
behind-in (y ∷ front) o rest i m = let z = behind-in front o rest i m in (suc z.0, z.1, later z.2)

heads : {X : Type 0} (a b : X) (xs ys : List X) → a ∷ xs ≡ b ∷ ys → a ≡ b
heads a b xs ys e = cc

pub keeps-head : (w r : Bool) → not (w || r) ≡ true → (w ≡ false) × (not r ≡ true)
keeps-head true r e = absurd (cc)
keeps-head false r e = (refl, e)

-- what is there yet at a block's start flows on to the reading
pub data Follows (f : Function) (x : Table) (v k i : ℕ) : ℕ → Type 0 where
  sees : {q : ℕ} {c : Block} → slice_get f.blocks q ≡ Some c → has i (seen (map (λ j. touch_of x v k j.id) c.instrs)) ≡ true → Follows f x v k i q
  goes : {q r : ℕ} {c : Block} → slice_get f.blocks q ≡ Some c → keeps (map (λ j. touch_of x v k j.id) c.instrs) ≡ true → has r (successors x.flow.items q) ≡ true → Follows f x v k i r → Follows f x v k i q

-- the instructions of a block from some place on
pub record Part (f : Function) (y : ℕ) (b : Block) (is : List Instr) : Type 0 where
  pub stands : slice_get f.blocks y ≡ Some b
  pub front : List Instr
  pub whole : front ++ is ≡ b.instrs

pub whole-part : (f : Function) (y : ℕ) (b : Block) → slice_get f.blocks y ≡ Some b → Part f y b b.instrs
whole-part f y b e = record { stands = e; front = []; whole = refl }

pub part-more : (f : Function) (y : ℕ) (b : Block) (i : Instr) (is : List Instr) → Part f y b (i ∷ is) → Part f y b is
part-more f y b i is p = record { stands = p.stands; front = p.front ++ i ∷ []; whole = shifted p.front i is ∙ p.whole }

part-at : (f : Function) (y : ℕ) (b : Block) (i : Instr) (is : List Instr) (p : Part f y b (i ∷ is)) → slice_get b.instrs (length p.front) ≡ Some i
part-at f y b i is p = ap (λ js. slice_get js (length p.front)) (sym p.whole) ∙ get-seat p.front i is

pub part-in : (f : Function) (y : ℕ) (b : Block) (i : Instr) (is : List Instr) → Part f y b (i ∷ is) → Member i b.instrs
part-in f y b i is p = slice-member b.instrs (length p.front) i (part-at f y b i is p)

effect-there : (t : Target) (i : Instr) → does is_terminator t i ≡ true → (e : Effect) × (effect_of t i ≡ Some e) × (is_terminator e ≡ true)
effect-there t i h = go (effect_of t i) refl h
  where
    go : (q : Option Effect) → effect_of t i ≡ q → passes is_terminator q ≡ true → (e : Effect) × (effect_of t i ≡ Some e) × (is_terminator e ≡ true)
    go None e g = absurd (cc)
    go (Some z) e g = (z, e, g)

module _ (t : Target) (f : Function) (x : Table) (computed : IsComputed t f x) (rules : KeepsRules t f) (last : (b : Block) (j : ℕ) (i : Instr) → Member b f.blocks → slice_get b.instrs j ≡ Some i → V8 t b j i ≡ true) (ranked : (y : ℕ) (b : Block) → slice_get f.blocks y ≡ Some b → AreRising x.order.slots 0 (ids_of b.instrs)) (v k : ℕ) where
  abbrev num : Numbering
  num = number_in x.lanes

  pub numbered : IsNumbered t f num
  numbered = table-law t f x.lanes computed.numbers rules

  abbrev R : Lane → Bool
  R = is_reserved t

  abbrev L : Lane
  L = VirtualLane v k

  abbrev C : Code
  C = blocks_code (point_item t f) t f f.blocks

  abbrev touch : Instr → LaneTouch
  touch i = touch_of x v k i.id

  abbrev pub touches : List Instr → List LaneTouch
  touches is = map touch is

  abbrev ways : ℕ → List ℕ
  ways y = successors x.flow.items y

  abbrev pub place : ℕ → Block → List Instr → Code
  place y b is = rest_code t f b (drop (suc y) f.blocks) is

  tells : TellsActs t f x
  tells = acts-law t f x computed rules last

  pub block-start : (q : ℕ) (c : Block) → slice_get f.blocks q ≡ Some c → found c.number C ≡ place q c c.instrs
  block-start q c e = block-found t f f.blocks q c e (numbers-apart f rules.blocks)

  pub part-code : (y : ℕ) (b : Block) (i : Instr) (is : List Instr) → Part f y b (i ∷ is) → from_instr t f i.id f.blocks ≡ place y b (i ∷ is)
  part-code y b i is p =
      instr-found t f x.order.block_of.items x.order.slots f.blocks 0 y b (length p.front) i (λ q c id e h. computed.homes q c id e h ∙ omega arith) (ranked y b p.stands) p.stands (part-at f y b i is p)
      ∙ ap (place y b) (ap (drop (length p.front)) (sym p.whole) ∙ past-front p.front (i ∷ is))

  spot-of : (y : ℕ) (b : Block) (i : Instr) (is : List Instr) → Part f y b (i ∷ is) → (j : ℕ) × (spot_in i.id f.blocks ≡ Some (y, j))
  spot-of y b i is p = spot-at t f x computed rules last y b i p.stands (part-in f y b i is p)

  pub writes-told : (y : ℕ) (b : Block) (i : Instr) (is : List Instr) → Part f y b (i ∷ is) → ((touch i).writes ≡ true) ↔ Writing (point_item t f b i) L
  writes-told y b i is p =
      let j = spot-of y b i is p in
      subst (λ c. ((touch i).writes ≡ true) ↔ AtFirst (λ o q. Writing o L) c) (part-code y b i is p) (tells.written L refl refl i.id y j.0 j.1)

  pub reads-told : (y : ℕ) (b : Block) (i : Instr) (is : List Instr) → Part f y b (i ∷ is) → ((touch i).reads ≡ true) ↔ Reading R (points_of t f) L (point_item t f b i) (place y b is)
  reads-told y b i is p =
      let j = spot-of y b i is p in
      subst (λ c. ((touch i).reads ≡ true) ↔ AtFirst (Reading R (points_of t f) L) c) (part-code y b i is p) (tells.reading L refl refl i.id y j.0 j.1)

  -- terminators write no range

  ends-quiet : (y : ℕ) (b : Block) (i : Instr) (is : List Instr) → Part f y b (i ∷ is) → does is_terminator t i ≡ true → (touch i).writes ≡ false
  ends-quiet y b i is p h = is-false (touch i).writes (λ e.
      let w = (writes-told y b i is p).0 e in
      let mb = slice-member f.blocks y b p.stands in
      let mi = part-in f y b i is p in
      let n = written-law t f num rules numbered b i mb mi w.0 w.1 (ap R w.2) (ap is_slot w.2) in
      let z = (same-law t f num rules numbered b i mb mi).forth L n.0 (ap (tag_of num (is_proper t)) (sym w.2) ∙ n.1) refl w in
      let g = effect-there t i h in
      let unit = writes-units t f i g.0 g.1 g.2 (rules.shaped b i mb mi).operands z.0 z.1 in
      let lane : is_range_lane z.0.lane ≡ true = ap is_range_lane z.2 in
      cc)

  -- nor does an instruction from whose exit paths lead to other blocks
  pub ends-at : (y : ℕ) (b : Block) (i : Instr) (is : List Instr) → Part f y b (i ∷ is) → (e : Edge) → Member e (exits_of (point_item t f b i)) → (touch i).writes ≡ false
  ends-at y b i is p e m =
      let step = step-at t f num rules numbered y b p.stands i (part-in f y b i is p) in
      ends-quiet y b i is p (leaving-by (instr_step t f num i).leaves (ways_out t f b) e (subst (Member e) step.exits m)).0

  ends-behind : (y : ℕ) (b : Block) (o : Instr) (is : List Instr) → Part f y b (o ∷ is) → does is_terminator t o ≡ true → (i : Instr) → Member i is → does is_terminator t i ≡ true
  unfolding V8
  ends-behind y b o is p h i m =
      let z = behind-in p.front o is i m in
      let at : slice_get b.instrs z.0 ≡ Some i = ap (λ js. slice_get js z.0) (sym p.whole) ∙ z.1 in
      let before : Member o (take z.0 b.instrs) = subst (λ js. Member o (take z.0 js)) p.whole z.2 in
      go (does is_terminator t i) (list_any (does is_terminator t) (take z.0 b.instrs)) (last b z.0 i (slice-member f.blocks y b p.stands) at) (any-in (does is_terminator t) o (take z.0 b.instrs) before h)
    where
      go : (a c : Bool) → (a || not c) ≡ true → c ≡ true → a ≡ true
      go true c g e = refl
      go false true g e = absurd (cc)
      go false false g e = absurd (cc)

  keeps-more : (i : Instr) (is : List Instr) → (touch i).writes ≡ false → keeps (touches is) ≡ true → keeps (touches (i ∷ is)) ≡ true
  keeps-more i is e h = ap (λ b. not (b || list_any (λ (w : LaneTouch). w.writes) (touches is))) e ∙ h

  keeps-ended : (y : ℕ) (b : Block) (is : List Instr) → Part f y b is → ((i : Instr) → Member i is → does is_terminator t i ≡ true) → keeps (touches is) ≡ true
  keeps-ended y b [] p h = refl
  keeps-ended y b (i ∷ is) p h = keeps-more i is (ends-quiet y b i is p (h i first)) (keeps-ended y b is (part-more f y b i is p) (λ j m. h j (later m)))

  -- ways out of a block

  exits-are : (y : ℕ) (b : Block) (q : ℕ) → slice_get f.blocks y ≡ Some b → has q (ways y) ≡ has q (edge_places (λ n. place_of n f.blocks) b.successors)
  exits-are y b q e = computed.ways.successors y q ∙ ap (λ (o : Option Block). has q (elim o [ None ↦ [] | Some c ↦ edge_places (λ n. place_of n f.blocks) c.successors ])) e

  -- a way out leads to the start of a block
  pub record Leaving (y : ℕ) (b : Block) (q : ℕ) (e : Edge) : Type 0 where
    pub block : Block
    pub stands : slice_get f.blocks q ≡ Some block
    pub out : Member e (ways_out t f b)
    pub number : e.block ≡ block.number

  out-forth : (y : ℕ) (b : Block) → slice_get f.blocks y ≡ Some b → (e : Edge) → Member e (ways_out t f b) → (q : ℕ) × (has q (ways y) ≡ true) × Leaving y b q e
  out-forth y b s e m =
      let o = (is-out t f num rules numbered y b s).forth e m in
      let exits : exits_at_block (numbered_code t f num) y ≡ exits_from f.blocks b = ap (λ (q : Option Body). elim q [ None ↦ [] | Some z ↦ z.exits ]) (slice-map (body_of t f num) f.blocks y ∙ ap (option_map (body_of t f num)) s) in
      let g = filtered-of (λ (g : Way). coded_place g.block f.blocks) o.0 b.successors (of-among o.0 (exits_from f.blocks b) (subst (Among o.0) exits o.1)) in
      let c = place-block g.0.block f.blocks o.0 g.2 in
      let there = member-has o.0 (edge_places (λ n. place_of n f.blocks) b.successors) (filtered-in (λ (w : Way). place_of w.block f.blocks) g.0 o.0 b.successors g.1 (place-same g.0.block f.blocks ∙ g.2)) in
      (o.0, exits-are y b o.0 s ∙ there, record { block = c.0; stands = c.1; out = m; number = o.2 ∙ ap (λ (q : Option Block). elim q [ None ↦ 0 | Some d ↦ d.number ]) c.1 })

  pub out-back : (y : ℕ) (b : Block) → slice_get f.blocks y ≡ Some b → (q : ℕ) → has q (ways y) ≡ true → (e : Edge) × Leaving y b q e
  out-back y b s q h =
      let m = has-member q (edge_places (λ n. place_of n f.blocks) b.successors) (sym (exits-are y b q s) ∙ h) in
      let z = filtered-of (λ (g : Way). place_of g.block f.blocks) q b.successors m in
      let c = place-block z.0.block f.blocks q (sym (place-same z.0.block f.blocks) ∙ z.2) in
      (way t f b.number z.0.block, record { block = c.0; stands = c.1; out = map-in (λ (g : Way). way t f b.number g.block) z.0 b.successors z.1; number = sym c.2 })

  -- a reading o, and from where what stands at the lane flows to it

  module _ (yo : ℕ) (bo : Block) (o : Instr) (os : List Instr) (po : Part f yo bo (o ∷ os)) (read-there : (touch o).reads ≡ true) where
    abbrev pub goal-place : Code
    goal-place = place yo bo (o ∷ os)

    abbrev pub From : ℕ → List Instr → Type 0
    From y is = (has o.id (seen (touches is)) ≡ true) ⊎ ((keeps (touches is) ≡ true) × (q : ℕ) × (has q (ways y) ≡ true) × Follows f x v k o.id q)

    seen-first : has o.id (seen (touches (o ∷ os))) ≡ true
    seen-first =
        ap (λ b. has o.id (cond b (o.id ∷ []) [] ++ cond (touch o).writes [] (seen (touches os)))) read-there
        ∙ ap (λ b. cond b true (has o.id (cond (touch o).writes [] (seen (touches os))))) (eq-eqb o.id o.id refl)

    seen-on : (j : Instr) (is : List Instr) → (touch j).writes ≡ false → has o.id (seen (touches is)) ≡ true → has o.id (seen (touches (j ∷ is))) ≡ true
    seen-on j is e h =
        has-join o.id (cond (touch j).reads (j.id ∷ []) []) (cond (touch j).writes [] (seen (touches is)))
        ∙ or-right (has o.id (cond (touch j).reads (j.id ∷ []) [])) _ (ap (λ b. has o.id (cond b [] (seen (touches is)))) e ∙ h)

    from-more : (y : ℕ) (j : Instr) (is : List Instr) → (touch j).writes ≡ false → From y is → From y (j ∷ is)
    from-more y j is e (inl h) = inl (seen-on j is e h)
    from-more y j is e (inr z) = inr (keeps-more j is e z.0, z.1, z.2, z.3)

    follows-from : (q : ℕ) (c : Block) → slice_get f.blocks q ≡ Some c → From q c.instrs → Follows f x v k o.id q
    follows-from q c e (inl h) = sees e h
    follows-from q c e (inr z) = goes e z.0 z.2 z.3

    here-from : (y : ℕ) (b : Block) (is : List Instr) → Part f y b is → place y b is ≡ goal-place → From y is
    here-from y b is p h =
        let same = same-position t f f.blocks y yo b bo is (o ∷ os) p.stands po.stands (part-short p.front is b.instrs p.whole) (part-short po.front (o ∷ os) bo.instrs po.whole) (ap length h) in
        let block : b ≡ bo = some-same b bo (sym p.stands ∙ (ap (slice_get f.blocks) same.0 ∙ po.stands)) in
        let ends : is ≡ o ∷ os = same-ends p.front is po.front (o ∷ os) (p.whole ∙ (ap (λ (c : Block). c.instrs) block ∙ sym po.whole)) same.1 in
        inl (ap (λ js. has o.id (seen (touches js))) ends ∙ seen-first)

    pub leads-from : {P Q : Code} → Leads C L P Q → Q ≡ goal-place → (y : ℕ) (b : Block) (is : List Instr) → Part f y b is → P ≡ place y b is → From y is
    leads-from stays g y b is p h = here-from y b is p (sym h ∙ g)
    leads-from (goes_past {i = it} {p = rest} ordered n r) g y b [] p h = absurd (let e : in_order it ≡ false = ap in_order (heads it _ rest _ h) in cc)
    leads-from (goes_past {i = it} {p = rest} ordered n r) g y b (j ∷ is) p h =
        let e = heads it (point_item t f b j) rest (place y b is) h in
        let quiet = is-false (touch j).writes (λ w. n (subst (λ z. Writing z L) (sym e) ((writes-told y b j is p).0 w))) in
        from-more y j is quiet (leads-from r g y b is (part-more f y b j is p) (tails it (point_item t f b j) rest (place y b is) h))
    leads-from (leaps {i = it} {p = rest} {e = way_out} m n r) g y b [] p h =
        let e = heads it _ rest _ h in
        let z = out-forth y b p.stands way_out (subst (λ w. Member way_out (exits_of w)) e m) in
        let start = ap (λ a. found a C) z.2.number ∙ block-start z.0 z.2.block z.2.stands in
        inr (refl, z.0, z.1, follows-from z.0 z.2.block z.2.stands (leads-from r g z.0 z.2.block z.2.block.instrs (whole-part f z.0 z.2.block z.2.stands) start))
    leads-from (leaps {i = it} {p = rest} {e = way_out} m n r) g y b (j ∷ is) p h =
        let e = heads it (point_item t f b j) rest (place y b is) h in
        let quiet = is-false (touch j).writes (λ w. n (subst (λ z. Writing z L) (sym e) ((writes-told y b j is p).0 w))) in
        let step = step-at t f num rules numbered y b p.stands j (part-in f y b j is p) in
        let out = leaving-by (instr_step t f num j).leaves (ways_out t f b) way_out (subst (λ w. Member way_out w) (ap exits_of e ∙ step.exits) m) in
        let z = out-forth y b p.stands way_out out.1 in
        let start = ap (λ a. found a C) z.2.number ∙ block-start z.0 z.2.block z.2.stands in
        let kept = keeps-more j is quiet (keeps-ended y b is (part-more f y b j is p) (ends-behind y b j is p out.0)) in
        inr (kept, z.0, z.1, follows-from z.0 z.2.block z.2.stands (leads-from r g z.0 z.2.block z.2.block.instrs (whole-part f z.0 z.2.block z.2.stands) start))

    -- and back

    pub goal-is : (y : ℕ) (b : Block) (j : Instr) (is : List Instr) → Part f y b (j ∷ is) → j.id ≡ o.id → goal-place ≡ place y b (j ∷ is)
    goal-is y b j is p e = sym (part-code yo bo o os po) ∙ (ap (λ n. from_instr t f n f.blocks) (sym e) ∙ part-code y b j is p)

    -- the reading is the first instruction, or this doesn't write the lane and the reading is seen behind it
    pub seen-cases : (j : Instr) (is : List Instr) → has o.id (seen (touches (j ∷ is))) ≡ true → (j.id ≡ o.id) ⊎ (((touch j).writes ≡ false) × (has o.id (seen (touches is)) ≡ true))
    seen-cases j is h = go (touch j).reads (touch j).writes (or-cases _ _ (sym (has-join o.id (cond (touch j).reads (j.id ∷ []) []) (cond (touch j).writes [] (seen (touches is)))) ∙ h))
      where
        own : (c : Bool) → nat_eq j.id o.id ≡ c → cond c true false ≡ true → j.id ≡ o.id
        own true e g = eqb-true j.id o.id e
        own false e g = absurd (cc)

        go : (r w : Bool) → (has o.id (cond r (j.id ∷ []) []) ≡ true) ⊎ (has o.id (cond w [] (seen (touches is))) ≡ true) → (j.id ≡ o.id) ⊎ ((w ≡ false) × (has o.id (seen (touches is)) ≡ true))
        go true w (inl g) = inl (own (nat_eq j.id o.id) refl g)
        go false w (inl g) = absurd (cc)
        go r true (inr g) = absurd (cc)
        go r false (inr g) = inr (refl, g)

    pub silent : (y : ℕ) (b : Block) (j : Instr) (is : List Instr) → Part f y b (j ∷ is) → (touch j).writes ≡ false → Writing (point_item t f b j) L → ⊥
    silent y b j is p e w = let h = (writes-told y b j is p).1 w in absurd (cc)

    pub orderly : (y : ℕ) (b : Block) (j : Instr) (is : List Instr) → Part f y b (j ∷ is) → in_order (point_item t f b j) ≡ true
    orderly y b j is p = (step-at t f num rules numbered y b p.stands j (part-in f y b j is p)).ordered

    seen-leads : (y : ℕ) (b : Block) (is : List Instr) → Part f y b is → has o.id (seen (touches is)) ≡ true → Leads C L (place y b is) goal-place
    seen-leads y b [] p h = absurd (cc)
    seen-leads y b (j ∷ is) p h = go (seen-cases j is h) (seen-leads y b is (part-more f y b j is p))
      where
        go : (j.id ≡ o.id) ⊎ (((touch j).writes ≡ false) × (has o.id (seen (touches is)) ≡ true)) → (has o.id (seen (touches is)) ≡ true → Leads C L (place y b is) goal-place) → Leads C L (place y b (j ∷ is)) goal-place
        go (inl e) ih = subst (λ q. Leads C L q goal-place) (goal-is y b j is p e) stays
        go (inr z) ih = goes_past (orderly y b j is p) (silent y b j is p z.0) (ih z.1)

    ends-silent : (y : ℕ) (b : Block) → Writing (block_end t f b (drop (suc y) f.blocks)) L → ⊥
    ends-silent y b w = member-none w.0 w.1

    keeps-leads : (y : ℕ) (b : Block) (is : List Instr) → Part f y b is → keeps (touches is) ≡ true → (e : Edge) → Member e (ways_out t f b) → Leads C L (found e.block C) goal-place → Leads C L (place y b is) goal-place
    keeps-leads y b [] p h e m r = leaps m (ends-silent y b) r
    keeps-leads y b (j ∷ is) p h e m r = let z = keeps-head (touch j).writes _ h in goes_past (orderly y b j is p) (silent y b j is p z.0) (keeps-leads y b is (part-more f y b j is p) z.1 e m r)

    -- from the start of a block
    abbrev StartLeads : ℕ → Type 0
    StartLeads q = (c : Block) → slice_get f.blocks q ≡ Some c → Leads C L (place q c c.instrs) goal-place

    way-leads : (y : ℕ) (b : Block) (is : List Instr) → Part f y b is → keeps (touches is) ≡ true → (q : ℕ) → has q (ways y) ≡ true → StartLeads q → Leads C L (place y b is) goal-place
    way-leads y b is p h q n r =
        let z = out-back y b p.stands q n in
        keeps-leads y b is p h z.0 z.1.out (subst (λ c. Leads C L c goal-place) (sym (ap (λ a. found a C) z.1.number ∙ block-start q z.1.block z.1.stands)) (r z.1.block z.1.stands))

    follows-leads : (q : ℕ) → Follows f x v k o.id q → StartLeads q
    follows-leads q (sees {c = d} e h) c g = let same = some-same d c (sym e ∙ g) in seen-leads q c c.instrs (whole-part f q c g) (subst (λ (b : Block). has o.id (seen (touches b.instrs)) ≡ true) same h)
    follows-leads q (goes {r = r} {c = d} e h n w) c g = let same = some-same d c (sym e ∙ g) in way-leads q c c.instrs (whole-part f q c g) (subst (λ (b : Block). keeps (touches b.instrs) ≡ true) same h) r n (follows-leads r w)

    pub from-leads : (y : ℕ) (b : Block) (is : List Instr) → Part f y b is → From y is → Leads C L (place y b is) goal-place
    from-leads y b is p (inl h) = seen-leads y b is p h
    from-leads y b is p (inr z) = way-leads y b is p z.0 z.1 z.2 (follows-leads z.1 z.3)
