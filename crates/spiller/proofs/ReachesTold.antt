-- The readings that are listed at definitions are those that these reach along paths of the code.
use Rattle.std.proofs.Common.{◌≡◌, ◌∙◌, ◌⊎◌, ℕ, zero, suc, ◌+◌, ◌<◌, Bool, true, false, cond, not, ◌&&◌, ◌||◌, List, [], ◌∷◌, ◌++◌, Some, map, filter, flat_map, length, take, drop, refl, sym, ap, subst, inl, inr, arith, eqb-true}
use Rattle.std.specs.Prelude.{◌↔◌, nat_eq, slice_get, slice_index}
use Rattle.std.specs.List.{list_any}
use Rattle.std.proofs.lemmas.Bool.{eq-eqb}
use Rattle.std.proofs.lemmas.List.{map-append, append-nil}
use Rattle.std.proofs.lemmas.List.Elements.{filter-append}
use Rattle.target_base.specs.declared.types.Target.{Target}
use Rattle.target_base.proofs.Tests.{first_of_both, second_of_both}
use Rattle.meaning.specs.declared.types.Lane.{Lane}
use Rattle.meaning.specs.declared.types.Lane.TheVariants.{VirtualLane}
use Rattle.meaning.specs.Code.{Edge, Item, Code, found}
use Rattle.meaning.specs.Live.{Among as Member, here as first, there as later, exits_of, in_order, Writing}
use Rattle.mir_func.specs.declared.func.Instr.{Instr}
use Rattle.mir_func.specs.declared.func.Block.{Block}
use Rattle.mir_func.specs.Value.{Function}
use Rattle.mir_meaning.specs.Registers.{is_reserved}
use Rattle.mir_meaning.specs.Codes.{blocks_code}
use Rattle.mir_meaning.specs.Points.{AtFirst, Tests, point_item, points_of, from_instr, touches}
use Rattle.mir_meaning.specs.Paths.{has}
use Rattle.instr_effects.specs.Numbered.{number_in}
use Rattle.instr_effects.proofs.Members.{map-of, filter-of, flat-of, right-in}
use Rattle.instr_effects.proofs.Tables.{slice-left}
use Rattle.live_lanes.specs.declared.table.Table.{Table}
use Rattle.live_lanes.specs.Extents.{lanes_count}
use Rattle.live_lanes.specs.Looks.{InOrder}
use Rattle.live_lanes.specs.Ordered.{ids_of, AreRising}
use Rattle.live_lanes.specs.Tells.{TellsInstrs, touching_ids}
use Rattle.live_lanes.specs.Touching.{AreTouched, names_range}
use Rattle.live_lanes.specs.Ways.{successors}
use Rattle.live_lanes.proofs.Finding.{stands-there, found-within}
use Rattle.live_lanes.proofs.Cells.{both}
use Rattle.live_laws.specs.Acts.{TellsActs}
use Rattle.live_laws.specs.Effects.Coded.{KeepsRules}
use Rattle.live_laws.proofs.Acts.Told.{acts-law}
use Rattle.live_laws.proofs.Effects.Blocks.{slice-member, member-slice}
use Rattle.live_laws.proofs.Effects.Lists.{any-in}
use Rattle.live_laws.proofs.Effects.Moving.{some-same}
use Rattle.live_laws.proofs.Effects.Whole.{points-are}
use Rattle.live_laws.proofs.Exact.Inside.{has-id}
use Rattle.live_laws.proofs.Exact.Spots.{drop-at}
use Rattle.live_laws.proofs.Touch.Cells.{any-of}
use Rattle.live_laws.proofs.Touch.Sequence.{has-member}
use Rattle.live_laws.proofs.Touch.Touched.{touched-law}
use Rattle.spiller.specs.declared.reaching.Definition.{Definition}
use Rattle.spiller.specs.declared.reaching.LaneFlow.{LaneFlow}
use Rattle.spiller.specs.declared.reaching.LaneTouch.{LaneTouch}
use Rattle.spiller.specs.MaySpill.{MaySpill}
use Rattle.spiller.specs.Reaching.{Brings, Leads, Reaches, Reads}
use Rattle.spiller.specs.Walks.{touch_of, touches_at, touches_in, seen, keeps, rest_behind, dead_at, IsFlow, HasFlows, IsSeen, FlowsTo, ListsFlows, lists, told_by}
use Rattle.spiller.proofs.CodePlaces.{at-id}
use Rattle.spiller.proofs.PathsFound.{Part, leads-from, from-leads, numbered, orderly, part-code, part-more, place, reads-told, writes-told, ends-at}
use Rattle.spiller.proofs.Untouched.{written-lane, unnamed-reads, unnamed-writes}
use Rattle.spiller.proofs.WalkFound.{found-from, from-found, entered-block}
use Rattle.spiller.proofs.Basics.{is-false, map-both}
use Rattle.spiller.proofs.ListSeats.{get-seat}

-- lists

-- the ids of those that pass a test, as far as these pass another

all-pass : (p : ℕ → Bool) (s : Instr → Bool) (is : List Instr) → ((i : Instr) → Member i is → p i.id ≡ true) → filter p (map (λ i. i.id) (filter s is)) ≡ map (λ i. i.id) (filter s is)
all-pass p s [] h = refl
all-pass p s (i ∷ is) h = go (s i) (h i first) (all-pass p s is (λ j m. h j (later m)))
  where
    go : (b : Bool) → p i.id ≡ true → filter p (map (λ (j : Instr). j.id) (filter s is)) ≡ map (λ j. j.id) (filter s is) → filter p (map (λ (j : Instr). j.id) (cond b (i ∷ filter s is) (filter s is))) ≡ map (λ j. j.id) (cond b (i ∷ filter s is) (filter s is))
    go true e ih = ap (λ c. cond c (i.id ∷ filter p (map (λ (j : Instr). j.id) (filter s is))) (filter p (map (λ (j : Instr). j.id) (filter s is)))) e ∙ ap (λ js. i.id ∷ js) ih
    go false e ih = ih

none-pass : (p : ℕ → Bool) (s : Instr → Bool) (is : List Instr) → ((i : Instr) → Member i is → p i.id ≡ false) → filter p (map (λ i. i.id) (filter s is)) ≡ []
none-pass p s [] h = refl
none-pass p s (i ∷ is) h = go (s i) (h i first) (none-pass p s is (λ j m. h j (later m)))
  where
    go : (b : Bool) → p i.id ≡ false → filter p (map (λ (j : Instr). j.id) (filter s is)) ≡ [] → filter p (map (λ (j : Instr). j.id) (cond b (i ∷ filter s is) (filter s is))) ≡ []
    go true e ih = ap (λ c. cond c (i.id ∷ filter p (map (λ (j : Instr). j.id) (filter s is))) (filter p (map (λ (j : Instr). j.id) (filter s is)))) e ∙ ih
    go false e ih = ih

same-test : (n m : ℕ) → n ≡ m → nat_eq n m ≡ true
same-test n m e = grind arith

other-test : (n m : ℕ) → (n ≡ m → ⊥) → nat_eq n m ≡ false
other-test n m h = is-false (nat_eq n m) (λ e. h (eqb-true n m e))

-- the touched instructions whose home is a block are those of the block
block-ids : (v : ℕ) (homes : List ℕ) (bs : List Block) (n m y : ℕ) (b : Block) → ((q : ℕ) (c : Block) (id : ℕ) → slice_get bs q ≡ Some c → has id (ids_of c.instrs) ≡ true → slice_index homes id ≡ n + q)
    → m ≡ n + y → slice_get bs y ≡ Some b → filter (λ id. nat_eq (slice_index homes id) m) (map (λ i. i.id) (filter (touches v) (flat_map (λ b. b.instrs) bs))) ≡ map (λ i. i.id) (filter (touches v) b.instrs)
block-ids v homes [] n m y b homed e g = absurd (cc)
block-ids v homes (c ∷ cs) n m y b homed e g =
    ap (filter p) (ap (map (λ (i : Instr). i.id)) (filter-append (touches v) c.instrs (flat_map (λ (d : Block). d.instrs) cs)) ∙ map-append (λ (i : Instr). i.id) (filter (touches v) c.instrs) (filter (touches v) (flat_map (λ (d : Block). d.instrs) cs)))
    ∙ filter-append p (map (λ (i : Instr). i.id) (filter (touches v) c.instrs)) (map (λ (i : Instr). i.id) (filter (touches v) (flat_map (λ (d : Block). d.instrs) cs)))
    ∙ go y e g (λ z h k. block-ids v homes cs (n + 1) m z b (λ q d id l o. homed (suc q) d id l o ∙ omega arith) h k)
  where
    p : ℕ → Bool
    p id = nat_eq (slice_index homes id) m

    home-here : (i : Instr) → Member i c.instrs → slice_index homes i.id ≡ n + 0
    home-here i k = let z = member-slice i c.instrs k in homed 0 c i.id refl (has-id c.instrs z.0 i z.1)

    home-later : (i : Instr) → Member i (flat_map (λ (d : Block). d.instrs) cs) → (q : ℕ) × (slice_index homes i.id ≡ n + suc q)
    home-later i k =
        let z = flat-of (λ (d : Block). d.instrs) i cs k in
        let q = member-slice z.0 cs z.1 in
        let j = member-slice i z.0.instrs z.2 in
        (q.0, homed (suc q.0) z.0 i.id q.1 (has-id z.0.instrs j.0 i j.1))

    go : (y : ℕ) → m ≡ n + y → slice_get (c ∷ cs) y ≡ Some b → ((z : ℕ) → m ≡ (n + 1) + z → slice_get cs z ≡ Some b → filter p (map (λ i. i.id) (filter (touches v) (flat_map (λ (d : Block). d.instrs) cs))) ≡ map (λ i. i.id) (filter (touches v) b.instrs))
        → filter p (map (λ i. i.id) (filter (touches v) c.instrs)) ++ filter p (map (λ i. i.id) (filter (touches v) (flat_map (λ (d : Block). d.instrs) cs))) ≡ map (λ i. i.id) (filter (touches v) b.instrs)
    go zero e g ih =
        let same = some-same c b g in
        ap (λ xs. xs ++ filter p (map (λ (i : Instr). i.id) (filter (touches v) (flat_map (λ (d : Block). d.instrs) cs)))) (all-pass p (touches v) c.instrs (λ i k. same-test _ _ (home-here i k ∙ sym e)))
        ∙ (ap (λ xs. map (λ (i : Instr). i.id) (filter (touches v) c.instrs) ++ xs) (none-pass p (touches v) (flat_map (λ (d : Block). d.instrs) cs) (λ i k. other-test _ _ (λ h. let z = home-later i k in let u = z.1 in absurd (omega arith))))
        ∙ (append-nil (map (λ (i : Instr). i.id) (filter (touches v) c.instrs)) ∙ ap (λ (d : Block). map (λ (i : Instr). i.id) (filter (touches v) d.instrs)) same))
    go (suc z) e g ih =
        ap (λ xs. xs ++ filter p (map (λ (i : Instr). i.id) (filter (touches v) (flat_map (λ (d : Block). d.instrs) cs)))) (none-pass p (touches v) c.instrs (λ i k. other-test _ _ (λ h. let u = home-here i k in absurd (omega arith))))
        ∙ ih z (e ∙ omega arith) g

-- a reading that is seen is by one of the instructions
seen-member : (x : Table) (v k i : ℕ) (is : List Instr) → has i (seen (map (λ j. touch_of x v k j.id) is)) ≡ true → (o : Instr) × Member o is × (o.id ≡ i) × ((touch_of x v k o.id).reads ≡ true)
seen-member x v k i [] h = absurd (cc)
seen-member x v k i (j ∷ is) h = go (touch_of x v k j.id).reads refl (touch_of x v k j.id).writes h (seen-member x v k i is)
  where
    Found : Type 0
    Found = (o : Instr) × Member o (j ∷ is) × (o.id ≡ i) × ((touch_of x v k o.id).reads ≡ true)

    on : (w : Bool) → has i (cond w [] (seen (map (λ j. touch_of x v k j.id) is))) ≡ true → (has i (seen (map (λ j. touch_of x v k j.id) is)) ≡ true → (o : Instr) × Member o is × (o.id ≡ i) × ((touch_of x v k o.id).reads ≡ true)) → Found
    on true g ih = absurd (cc)
    on false g ih = let z = ih g in (z.0, later z.1, z.2, z.3)

    own : (r : Bool) → (touch_of x v k j.id).reads ≡ r → r ≡ true → (c : Bool) → nat_eq j.id i ≡ c → (w : Bool) → cond c true (has i (cond w [] (seen (map (λ j. touch_of x v k j.id) is)))) ≡ true → (has i (seen (map (λ j. touch_of x v k j.id) is)) ≡ true → (o : Instr) × Member o is × (o.id ≡ i) × ((touch_of x v k o.id).reads ≡ true)) → Found
    own r e t true f w g ih = (j, first, eqb-true j.id i f, e ∙ t)
    own r e t false f w g ih = on w g ih

    go : (r : Bool) → (touch_of x v k j.id).reads ≡ r → (w : Bool) → has i (cond r (j.id ∷ []) [] ++ cond w [] (seen (map (λ j. touch_of x v k j.id) is))) ≡ true → (has i (seen (map (λ j. touch_of x v k j.id) is)) ≡ true → (o : Instr) × Member o is × (o.id ≡ i) × ((touch_of x v k o.id).reads ≡ true)) → Found
    go true e w g ih = own true e refl (nat_eq j.id i) refl w g ih
    go false e w g ih = on w g ih

module _ (t : Target) (f : Function) (x : Table) (v : ℕ) (may : MaySpill t f x v) (ids : List ℕ) (are : AreTouched x v ids) where
  rules : KeepsRules t f
  rules = may.lowered.rules

  pub finds : TellsInstrs f x
  finds = touched-law t f x may.computed rules may.last may.phis may.known

  ranked : (y : ℕ) (b : Block) → slice_get f.blocks y ≡ Some b → AreRising x.order.slots 0 (ids_of b.instrs)
  ranked = finds.finds.ranked

  tells : TellsActs t f x
  tells = acts-law t f x may.computed rules may.last

  pub in-order : InOrder x
  in-order = tells.ordered

  pub ids-are : ids ≡ touching_ids f v
  ids-are = finds.touched v ids are

  -- an instruction where it stands
  pub record Site (i : Instr) : Type 0 where
    pub position : ℕ
    pub block : Block
    pub spot : ℕ
    pub stands : slice_get f.blocks position ≡ Some block
    pub there : slice_get block.instrs spot ≡ Some i

  home : (i : Instr) (a : Site i) → slice_index x.order.block_of.items i.id ≡ a.position
  home i a = may.computed.homes a.position a.block i.id a.stands (has-id a.block.instrs a.spot i a.there)

  -- instructions of one id are one

  one-spot : (b : Block) (p q : ℕ) (i j : Instr) → AreRising x.order.slots 0 (ids_of b.instrs) → slice_get b.instrs p ≡ Some i → slice_get b.instrs q ≡ Some j → i.id ≡ j.id → p ≡ q
  one-spot b p q i j rising e g same =
      let a = stands-there x.order.slots b.instrs p i rising e in
      let c = stands-there x.order.slots b.instrs q j rising g in
      cc

  pub one-instr : (i j : Instr) → Site i → Site j → i.id ≡ j.id → i ≡ j
  one-instr i j a c same =
      let y : a.position ≡ c.position = sym (home i a) ∙ (ap (slice_index x.order.block_of.items) same ∙ home j c) in
      let b : a.block ≡ c.block = some-same a.block c.block (sym a.stands ∙ (ap (slice_get f.blocks) y ∙ c.stands)) in
      let there = subst (λ (d : Block). slice_get d.instrs a.spot ≡ Some i) b a.there in
      let p : a.spot ≡ c.spot = one-spot c.block a.spot c.spot i j (ranked c.position c.block c.stands) there c.there same in
      some-same i j (sym there ∙ (ap (slice_get c.block.instrs) p ∙ c.there))

  -- the instruction of a touched id
  pub site-of : (id : ℕ) → names_range x v id ≡ true → (i : Instr) × Site i × (i.id ≡ id) × (touches v i ≡ true)
  site-of id e =
      let m = subst (Member id) ids-are (has-member id ids (are.named id ∙ e)) in
      let z = map-of (λ (i : Instr). i.id) id (filter (touches v) (flat_map (λ (b : Block). b.instrs) f.blocks)) m in
      let y = filter-of (touches v) z.0 (flat_map (λ (b : Block). b.instrs) f.blocks) z.1 in
      let b = flat-of (λ (b : Block). b.instrs) z.0 f.blocks y.0 in
      let q = member-slice b.0 f.blocks b.1 in
      let j = member-slice z.0 b.0.instrs b.2 in
      (z.0, record { position = q.0; block = b.0; spot = j.0; stands = q.1; there = j.1 }, sym z.2, y.1)

  pub unnamed : (i : Instr) → Site i → touches v i ≡ false → names_range x v i.id ≡ false
  unnamed i a e = is-false (names_range x v i.id) (λ h.
      let z = site-of i.id h in
      let same = one-instr z.0 i z.1 a z.2 in
      let yes : touches v i ≡ true = ap (touches v) (sym same) ∙ z.3 in
      cc)

  -- what touches the range decides

  module _ (k : ℕ) where
    abbrev doing : List Instr → List LaneTouch
    doing is = map (λ i. touch_of x v k i.id) is

    quiet : (i : Instr) → Site i → touches v i ≡ false → ((touch_of x v k i.id).reads ≡ false) × ((touch_of x v k i.id).writes ≡ false)
    quiet i a e = let n = unnamed i a e in (unnamed-reads x v k i.id n, unnamed-writes x v k i.id n)

    seen-filtered : (is : List Instr) → ((i : Instr) → Member i is → Site i) → seen (doing (filter (touches v) is)) ≡ seen (doing is)
    seen-filtered [] at = refl
    seen-filtered (i ∷ is) at = go (touches v i) refl (seen-filtered is (λ j m. at j (later m)))
      where
        go : (b : Bool) → touches v i ≡ b → seen (doing (filter (touches v) is)) ≡ seen (doing is) → seen (doing (cond b (i ∷ filter (touches v) is) (filter (touches v) is))) ≡ seen (doing (i ∷ is))
        go true e ih = ap (λ s. cond (touch_of x v k i.id).reads (i.id ∷ []) [] ++ cond (touch_of x v k i.id).writes [] s) ih
        go false e ih =
            let z = quiet i (at i first) e in
            ih ∙ sym (ap (λ b. cond b (i.id ∷ []) [] ++ cond (touch_of x v k i.id).writes [] (seen (doing is))) z.0 ∙ ap (λ b. cond b [] (seen (doing is))) z.1)

    keeps-filtered : (is : List Instr) → ((i : Instr) → Member i is → Site i) → keeps (doing (filter (touches v) is)) ≡ keeps (doing is)
    keeps-filtered is at = ap not (any-filtered is at)
      where
        any-filtered : (is : List Instr) → ((i : Instr) → Member i is → Site i) → list_any (λ (w : LaneTouch). w.writes) (doing (filter (touches v) is)) ≡ list_any (λ w. w.writes) (doing is)
        any-filtered [] at = refl
        any-filtered (i ∷ is) at = go (touches v i) refl (any-filtered is (λ j m. at j (later m)))
          where
            go : (b : Bool) → touches v i ≡ b → list_any (λ (w : LaneTouch). w.writes) (doing (filter (touches v) is)) ≡ list_any (λ w. w.writes) (doing is) → list_any (λ (w : LaneTouch). w.writes) (doing (cond b (i ∷ filter (touches v) is) (filter (touches v) is))) ≡ list_any (λ w. w.writes) (doing (i ∷ is))
            go true e ih = ap (λ s. (touch_of x v k i.id).writes || s) ih
            go false e ih = let z = quiet i (at i first) e in ih ∙ sym (ap (λ b. b || list_any (λ (w : LaneTouch). w.writes) (doing is)) z.1)

    in-block : (y : ℕ) (b : Block) → slice_get f.blocks y ≡ Some b → (i : Instr) → Member i b.instrs → Site i
    in-block y b e i m = let j = member-slice i b.instrs m in record { position = y; block = b; spot = j.0; stands = e; there = j.1 }

    block-touches : (y : ℕ) (b : Block) → slice_get f.blocks y ≡ Some b → touches_in x v k ids y ≡ doing (filter (touches v) b.instrs)
    block-touches y b e =
        ap (λ is. touches_in x v k is y) ids-are
        ∙ (ap (map (touch_of x v k)) (block-ids v x.order.block_of.items f.blocks 0 y y b (λ q c id h g. may.computed.homes q c id h g ∙ omega arith) (omega arith) e)
        ∙ map-both (touch_of x v k) (λ (i : Instr). i.id) (filter (touches v) b.instrs))

    -- behind a touched instruction
    rest-is : (front : List Instr) (d : Instr) (is : List Instr) → touches v d ≡ true → ((c : Instr) → Member c front → c.id ≡ d.id → ⊥) → rest_behind d.id (doing (filter (touches v) (front ++ d ∷ is))) ≡ doing (filter (touches v) is)
    rest-is [] d is e apart =
        ap (λ b. rest_behind d.id (doing (cond b (d ∷ filter (touches v) is) (filter (touches v) is)))) e
        ∙ ap (λ b. cond b (doing (filter (touches v) is)) (rest_behind d.id (doing (filter (touches v) is)))) (eq-eqb d.id d.id refl)
    rest-is (c ∷ front) d is e apart = go (touches v c) (rest-is front d is e (λ a m. apart a (later m)))
      where
        other : nat_eq c.id d.id ≡ false
        other = other-test c.id d.id (apart c first)

        go : (b : Bool) → rest_behind d.id (doing (filter (touches v) (front ++ d ∷ is))) ≡ doing (filter (touches v) is) → rest_behind d.id (doing (cond b (c ∷ filter (touches v) (front ++ d ∷ is)) (filter (touches v) (front ++ d ∷ is)))) ≡ doing (filter (touches v) is)
        go true ih = ap (λ b. cond b (doing (filter (touches v) (front ++ d ∷ is))) (rest_behind d.id (doing (filter (touches v) (front ++ d ∷ is))))) other ∙ ih
        go false ih = ih

    members : (y : ℕ) (b : Block) (d : Instr) (is : List Instr) → Part f y b (d ∷ is) → (i : Instr) → Member i is → Site i
    members y b d is p i m = in-block y b p.stands i (subst (Member i) p.whole (right-in i p.front (d ∷ is) (later m)))

    apart-front : (y : ℕ) (b : Block) (d : Instr) (is : List Instr) (p : Part f y b (d ∷ is)) (c : Instr) → Member c p.front → c.id ≡ d.id → ⊥
    apart-front y b d is p c m same =
        let q = member-slice c p.front m in
        let at-c : slice_get b.instrs q.0 ≡ Some c = ap (λ js. slice_get js q.0) (sym p.whole) ∙ slice-left p.front (d ∷ is) q.0 c q.1 in
        let at-d : slice_get b.instrs (length p.front) ≡ Some d = ap (λ js. slice_get js (length p.front)) (sym p.whole) ∙ get-seat p.front d is in
        let one : q.0 ≡ length p.front = one-spot b q.0 (length p.front) c d (ranked y b p.stands) at-c at-d same in
        absurd (omega (arith, found-within p.front q.0 c q.1))

    -- an instruction of a block, with those behind it
    part-of : (y : ℕ) (b : Block) (i : Instr) → slice_get f.blocks y ≡ Some b → Member i b.instrs → (is : List Instr) × Part f y b (i ∷ is)
    part-of y b i e m = let j = member-slice i b.instrs m in (drop (suc j.0) b.instrs, record { stands = e; front = take j.0 b.instrs; whole = sym (drop-at b.instrs j.0 i j.1).1 })

    abbrev L : Lane
    L = VirtualLane v k

    abbrev C : Code
    C = blocks_code (point_item t f) t f f.blocks

    abbrev stand : ℕ → Block → List Instr → Code
    stand y b is = place t f x may.computed rules may.last ranked v k y b is

    code-is : points_of t f ≡ C
    code-is = points-are t f (number_in x.lanes) rules (numbered t f x may.computed rules may.last ranked v k)

    instr-code : (y : ℕ) (b : Block) (i : Instr) (is : List Instr) → Part f y b (i ∷ is) → from_instr t f i.id f.blocks ≡ stand y b (i ∷ is)
    instr-code y b i is p = part-code t f x may.computed rules may.last ranked v k y b i is p

    writes-item : (y : ℕ) (b : Block) (i : Instr) (is : List Instr) → Part f y b (i ∷ is) → ((touch_of x v k i.id).writes ≡ true) ↔ Writing (point_item t f b i) L
    writes-item y b i is p = writes-told t f x may.computed rules may.last ranked v k y b i is p

    reads-item : (y : ℕ) (b : Block) (i : Instr) (is : List Instr) → Part f y b (i ∷ is) → ((touch_of x v k i.id).reads ≡ true) ↔ Reads (is_reserved t) (points_of t f) L (point_item t f b i) (stand y b is)
    reads-item y b i is p = reads-told t f x may.computed rules may.last ranked v k y b i is p

    module _ (flow : LaneFlow) (is-flow : IsFlow x f.blocks v ids flow) (lane : flow.lane ≡ k) where
      touches-are : (q : ℕ) (c : Block) → slice_get f.blocks q ≡ Some c → touches_at flow.blocks.items q ≡ doing (filter (touches v) c.instrs)
      touches-are q c e = is-flow.blocks tells.ordered tells.reads q (found-within f.blocks q c e) ∙ (ap (λ l. touches_in x v l ids q) lane ∙ block-touches q c e)

      seen-same : (q : ℕ) (c : Block) → slice_get f.blocks q ≡ Some c → seen (touches_at flow.blocks.items q) ≡ seen (doing c.instrs)
      seen-same q c e = ap seen (touches-are q c e) ∙ seen-filtered c.instrs (in-block q c e)

      keeps-same : (q : ℕ) (c : Block) → slice_get f.blocks q ≡ Some c → keeps (touches_at flow.blocks.items q) ≡ keeps (doing c.instrs)
      keeps-same q c e = ap keeps (touches-are q c e) ∙ keeps-filtered c.instrs (in-block q c e)

      dead-there : flow.dead.items ≡ map (dead_at x v k) f.blocks
      dead-there = is-flow.dead ∙ ap (λ l. map (dead_at x v l) f.blocks) lane

      module _ (y : ℕ) (b : Block) (d : Instr) (is : List Instr) (p : Part f y b (d ∷ is)) (touched : touches v d ≡ true) where
        abbrev rest : List LaneTouch
        rest = rest_behind d.id (touches_at flow.blocks.items y)

        rest-are : rest ≡ doing (filter (touches v) is)
        rest-are = ap (rest_behind d.id) (touches-are y b p.stands ∙ ap (λ js. doing (filter (touches v) js)) (sym p.whole)) ∙ rest-is p.front d is touched (apart-front y b d is p)

        seen-rest : seen rest ≡ seen (doing is)
        seen-rest = ap seen rest-are ∙ seen-filtered is (members y b d is p)

        keeps-rest : keeps rest ≡ keeps (doing is)
        keeps-rest = ap keeps rest-are ∙ keeps-filtered is (members y b d is p)

        abbrev Sees : ℕ → Type 0
        Sees i = IsSeen (successors x.flow.items) flow y rest i

        module _ (yo : ℕ) (bo : Block) (o : Instr) (os : List Instr) (po : Part f yo bo (o ∷ os)) (read-there : (touch_of x v k o.id).reads ≡ true) where
          leads-seen : Sees o.id → Leads C L (stand y b is) (stand yo bo (o ∷ os))
          leads-seen h =
              from-leads t f x may.computed rules may.last ranked v k yo bo o os po read-there y b is (part-more f y b d is p)
              (found-from t f x may.computed rules may.last ranked v k yo bo o os po read-there flow.blocks.items flow.dead.items seen-same keeps-same dead-there y b is (part-more f y b d is p) rest seen-rest keeps-rest h)

          seen-leads : Leads C L (stand y b is) (stand yo bo (o ∷ os)) → Sees o.id
          seen-leads h =
              from-found t f x may.computed rules may.last ranked v k yo bo o os po read-there flow.blocks.items flow.dead.items seen-same keeps-same dead-there y b is (part-more f y b d is p) rest seen-rest keeps-rest
              (leads-from t f x may.computed rules may.last ranked v k yo bo o os po read-there h refl y b is (part-more f y b d is p) refl)

          reaches-seen : (touch_of x v k d.id).writes ≡ true → Sees o.id → Reaches t f v d.id k o.id
          reaches-seen w h =
              let leads = subst (λ c. Leads c L (stand y b is) (stand yo bo (o ∷ os))) (sym code-is) (leads-seen h) in
              let ordered = orderly t f x may.computed rules may.last ranked v k yo bo o os po read-there y b d is p in (
                subst (λ q. AtFirst (λ a r. Brings (points_of t f) L a r q) (from_instr t f d.id f.blocks)) (sym (instr-code yo bo o os po))
                    (subst (AtFirst (λ a r. Brings (points_of t f) L a r (stand yo bo (o ∷ os)))) (sym (instr-code y b d is p)) ((writes-item y b d is p).0 w, inl (ordered, leads))),
                subst (AtFirst (Reads (is_reserved t) (points_of t f) L)) (sym (instr-code yo bo o os po)) ((reads-item yo bo o os po).0 read-there),
              )

          seen-brought : Brings (points_of t f) L (point_item t f b d) (stand y b is) (stand yo bo (o ∷ os)) → ((touch_of x v k d.id).writes ≡ true) × Sees o.id
          seen-brought h = let w = (writes-item y b d is p).1 h.0 in (w, go w h.1)
            where
              go : (touch_of x v k d.id).writes ≡ true → (in_order (point_item t f b d) ≡ true) × Leads (points_of t f) L (stand y b is) (stand yo bo (o ∷ os)) ⊎ (e : Edge) × Member e (exits_of (point_item t f b d)) × Leads (points_of t f) L (found e.block (points_of t f)) (stand yo bo (o ∷ os)) → Sees o.id
              go w (inl z) = seen-leads (subst (λ c. Leads c L (stand y b is) (stand yo bo (o ∷ os))) code-is z.1)
              go w (inr z) = absurd (let e = ends-at t f x may.computed rules may.last ranked v k y b d is p z.0 z.1 in cc)

        -- the instruction that reads
        record Reader (i : ℕ) : Type 0 where
          position : ℕ
          block : Block
          instr : Instr
          behind : List Instr
          part : Part f position block (instr ∷ behind)
          named : instr.id ≡ i
          reads : (touch_of x v k instr.id).reads ≡ true

        reader-in : (q : ℕ) (c : Block) (js : List Instr) (i : ℕ) → slice_get f.blocks q ≡ Some c → ((j : Instr) → Member j js → Member j c.instrs) → has i (seen (doing js)) ≡ true → Reader i
        reader-in q c js i e inside h =
            let z = seen-member x v k i js h in
            let r = part-of q c z.0 e (inside z.0 z.1) in
            record { position = q; block = c; instr = z.0; behind = r.0; part = r.1; named = z.2; reads = z.3 }

        reader : (i : ℕ) → Sees i → Reader i
        reader i (inl h) = reader-in y b is i p.stands (λ j m. subst (Member j) p.whole (right-in j p.front (d ∷ is) (later m))) (ap (has i) (sym seen-rest) ∙ h)
        reader i (inr z) =
            let c = entered-block x v k f.blocks (successors x.flow.items) flow.blocks.items flow.dead.items y rest z.0 dead-there z.1 in
            reader-in z.0 c.0 c.0.instrs i c.1 (λ j m. m) (ap (has i) (sym (seen-same z.0 c.0 c.1)) ∙ z.2)

        reaches-of : (i : ℕ) → (touch_of x v k d.id).writes ≡ true → Sees i → Reaches t f v d.id k i
        reaches-of i w h =
            let r = reader i h in
            subst (Reaches t f v d.id k) r.named (reaches-seen r.position r.block r.instr r.behind r.part r.reads w (subst Sees (sym r.named) h))

      -- a flow tells what its lane reaches

      flow-reaches : (d i : ℕ) → FlowsTo x v flow d i → Reaches t f v d k i
      flow-reaches d i h =
          let w = subst (λ l. (touch_of x v l d).writes ≡ true) lane h.0 in
          let z = site-of d (written-lane x v k d w).1 in
          let a = z.1 in
          let at : slice_index x.order.block_of.items d ≡ a.position = ap (slice_index x.order.block_of.items) (sym z.2) ∙ home z.0 a in
          let r = part-of a.position a.block z.0 a.stands (slice-member a.block.instrs a.spot z.0 a.there) in
          let sees = subst (λ q. IsSeen (successors x.flow.items) flow q (rest_behind d (touches_at flow.blocks.items q)) i) at h.1 in
          subst (λ n. Reaches t f v n k i) z.2
          (reaches-of a.position a.block z.0 r.0 r.1 z.3 i (subst (λ n. (touch_of x v k n).writes ≡ true) (sym z.2) w)
          (subst (λ n. IsSeen (successors x.flow.items) flow a.position (rest_behind n (touches_at flow.blocks.items a.position)) i) (sym z.2) sees))

      reaches-flow : (d i : ℕ) → Reaches t f v d k i → FlowsTo x v flow d i
      reaches-flow d i h =
          let a = at-id t f f.blocks d (λ e. first-none _ _ e h.0) in
          let c = at-id t f f.blocks i (λ e. first-none _ _ e h.1) in
          let r = part-of a.position a.block a.instr a.stands (slice-member a.block.instrs a.place a.instr a.there) in
          let s = part-of c.position c.block c.instr c.stands (slice-member c.block.instrs c.place c.instr c.there) in
          let from = instr-code a.position a.block a.instr r.0 r.1 in
          let to = instr-code c.position c.block c.instr s.0 s.1 in
          let reads = (reads-item c.position c.block c.instr s.0 s.1).1 (subst (AtFirst (Reads (is_reserved t) (points_of t f) L)) to (subst (λ n. AtFirst (Reads (is_reserved t) (points_of t f) L) (from_instr t f n f.blocks)) (sym c.named) h.1)) in
          let brings = subst (AtFirst (λ u q. Brings (points_of t f) L u q (stand c.position c.block (c.instr ∷ s.0)))) from
          (subst (λ q. AtFirst (λ u w. Brings (points_of t f) L u w q) (from_instr t f a.instr.id f.blocks)) to
          (subst (λ n. AtFirst (λ u w. Brings (points_of t f) L u w (from_instr t f n f.blocks)) (from_instr t f a.instr.id f.blocks)) (sym c.named)
          (subst (λ n. AtFirst (λ u w. Brings (points_of t f) L u w (from_instr t f i f.blocks)) (from_instr t f n f.blocks)) (sym a.named) h.0))) in
          let site : Site a.instr = record { position = a.position; block = a.block; spot = a.place; stands = a.stands; there = a.there } in
          let w = (writes-item a.position a.block a.instr r.0 r.1).1 brings.0 in
          let touched = touched-by a.instr site w in
          let sees = (seen-brought a.position a.block a.instr r.0 r.1 touched c.position c.block c.instr s.0 s.1 reads brings).1 in
          let at : slice_index x.order.block_of.items a.instr.id ≡ a.position = home a.instr site in
          subst (λ n. FlowsTo x v flow n i) a.named (
            subst (λ l. (touch_of x v l a.instr.id).writes ≡ true) (sym lane) w,
            subst (λ n. IsSeen (successors x.flow.items) flow (slice_index x.order.block_of.items a.instr.id) (rest_behind a.instr.id (touches_at flow.blocks.items (slice_index x.order.block_of.items a.instr.id))) n) c.named
                (subst (λ q. IsSeen (successors x.flow.items) flow q (rest_behind a.instr.id (touches_at flow.blocks.items q)) c.instr.id) (sym at) sees),
          )
        where
          first-none : (P : Item → Code → Type 0) (q : Code) → q ≡ [] → AtFirst P q → ⊥
          first-none P q e u = subst (AtFirst P) e u

          touched-by : (j : Instr) → Site j → (touch_of x v k j.id).writes ≡ true → touches v j ≡ true
          touched-by j a w = go (touches v j) refl
            where
              go : (q : Bool) → touches v j ≡ q → touches v j ≡ true
              go true e = e
              go false e = absurd (let z = (quiet j a e).1 in cc)

  -- what reaches a reading of a lane is an instruction that touches the range
  pub reached-lane : (d k i : ℕ) → Reaches t f v d k i → (k < lanes_count (slice_get x.lanes.ranges.items v)) × (names_range x v d ≡ true)
  reached-lane d k i h =
      let a = at-id t f f.blocks d (λ e. first-none _ _ e h.0) in
      let r = part-of k a.position a.block a.instr a.stands (slice-member a.block.instrs a.place a.instr a.there) in
      let brings = subst (AtFirst (λ u w. Brings (points_of t f) (VirtualLane v k) u w (from_instr t f i f.blocks))) (instr-code k a.position a.block a.instr r.0 r.1)
      (subst (λ n. AtFirst (λ u w. Brings (points_of t f) (VirtualLane v k) u w (from_instr t f i f.blocks)) (from_instr t f n f.blocks)) (sym a.named) h.0) in
      let w = (writes-item k a.position a.block a.instr r.0 r.1).1 brings.0 in
      written-lane x v k d (subst (λ n. (touch_of x v k n).writes ≡ true) a.named w)
    where
      first-none : (P : Item → Code → Type 0) (q : Code) → q ≡ [] → AtFirst P q → ⊥
      first-none P q e u = subst (AtFirst P) e u

  -- what is listed at all of them

  module _ (flows : List LaneFlow) (all : HasFlows x f.blocks v ids (lanes_count (slice_get x.lanes.ranges.items v)) flows) (ds : List Definition) (named : map (λ d. d.id) ds ≡ ids) (each : (d : Definition) → Member d ds → ListsFlows x v flows d) where
    told-forth : (d k i : ℕ) → told_by ds (d, k, i) ≡ true → Reaches t f v d k i
    told-forth d k i h =
        let z = any-of (λ (a : Definition). nat_eq a.id d && lists a.reached.keys k i) ds h in
        let same = eqb-true z.0.id d (first_of_both _ _ z.2) in
        let y = (each z.0 z.1 k i).0 (second_of_both (nat_eq z.0.id d) _ z.2) in
        subst (λ n. Reaches t f v n k i) same (flow-reaches k y.0 (all.each y.0 y.1) y.2 z.0.id i y.3)

    told-back : (d k i : ℕ) → Reaches t f v d k i → told_by ds (d, k, i) ≡ true
    told-back d k i h =
        let below = reached-lane d k i h in
        let y = all.all k below.0 in
        let z = map-of (λ (a : Definition). a.id) d ds (subst (Member d) (sym named) (has-member d ids (are.named d ∙ below.1))) in
        let to = reaches-flow k y.0 (all.each y.0 y.1) y.2 d i h in
        any-in (λ (a : Definition). nat_eq a.id d && lists a.reached.keys k i) z.0 ds z.1
        (both _ _ (same-test z.0.id d (sym z.2)) ((each z.0 z.1 k i).1 (y.0, y.1, y.2, subst (λ n. FlowsTo x v y.0 n i) z.2 to)))

    pub all-told : Tests (λ (p : ℕ × ℕ × ℕ). Reaches t f v p.0 p.1 p.2) (told_by ds)
    all-told p = (told-forth p.0 p.1 p.2, told-back p.0 p.1 p.2)
