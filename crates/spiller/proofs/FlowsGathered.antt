-- What is gathered of a lane's flow, block by block and instruction by instruction.
use Rattle.std.proofs.Common.{◌≡◌, ◌∙◌, ◌⊎◌, ℕ, ◌+◌, ◌<◌, Bool, true, false, cond, ◌&&◌, ◌||◌, List, [], ◌∷◌, ◌++◌, map, filter, flat_map, length, get_or, take, refl, sym, ap, subst, inl, inr, arith, eqb-true}
use Rattle.std.specs.Prelude.{◌↔◌, nat_eq, slice_index}
use Rattle.std.proofs.lemmas.Bool.{eq-eqb}
use Rattle.std.proofs.lemmas.List.{map-append, take_more}
use Rattle.std.proofs.lemmas.List.Elements.{filter-append}
use Rattle.meaning.specs.Live.{Among as Member, here as first}
use Rattle.mir_func.specs.declared.func.Block.{Block}
use Rattle.mir_meaning.specs.Paths.{has}
use Rattle.instr_effects.proofs.Members.{member-none, member-elim, left-in, right-in, either-elim, flat-of, flat-in}
use Rattle.live_lanes.specs.declared.table.Table.{Table}
use Rattle.live_lanes.specs.Ways.{successors}
use Rattle.live_lanes.proofs.Flowing.{or-false}
use Rattle.live_laws.proofs.Touch.Cells.{or-cases, or-left, or-right}
use Rattle.live_laws.proofs.Touch.Sequence.{has-member, member-has}
use Rattle.spiller.specs.declared.reaching.BlockTouches.{BlockTouches}
use Rattle.spiller.specs.declared.reaching.Definition.{Definition}
use Rattle.spiller.specs.declared.reaching.LaneFlow.{LaneFlow}
use Rattle.spiller.specs.declared.reaching.LaneReading.{LaneReading}
use Rattle.spiller.specs.declared.reaching.LaneTouch.{LaneTouch}
use Rattle.spiller.specs.Walks.{touch_of, touches_at, touches_in, rest_behind, seen, Enters, reached_at, AddsTouch, AddsSeen, IsFlow, HasFlows, IsSeen, FlowsTo, lists}
use Rattle.spiller.proofs.Basics.{is-false}

-- one more instruction that touches the range

touches-push : (x : Table) (v k : ℕ) (ids : List ℕ) (id p : ℕ) → touches_in x v k (ids ++ id ∷ []) p ≡ cond (nat_eq (slice_index x.order.block_of.items id) p) (touches_in x v k ids p ++ touch_of x v k id ∷ []) (touches_in x v k ids p)
touches-push x v k ids id p =
    ap (map (touch_of x v k)) (filter-append (λ i. nat_eq (slice_index x.order.block_of.items i) p) ids (id ∷ []))
    ∙ (map-append (touch_of x v k) (filter (λ i. nat_eq (slice_index x.order.block_of.items i) p) ids) (filter (λ i. nat_eq (slice_index x.order.block_of.items i) p) (id ∷ []))
    ∙ go (nat_eq (slice_index x.order.block_of.items id) p))
  where
    none : {X : Type 0} (xs : List X) → xs ++ [] ≡ xs
    none [] = refl
    none (y ∷ xs) = ap (λ ys. y ∷ ys) (none xs)

    go : (b : Bool) → touches_in x v k ids p ++ map (touch_of x v k) (cond b (id ∷ []) []) ≡ cond b (touches_in x v k ids p ++ touch_of x v k id ∷ []) (touches_in x v k ids p)
    go true = refl
    go false = none (touches_in x v k ids p)

pub touches-more : (x : Table) (v k : ℕ) (ids : List ℕ) (i : ℕ) (old new : List BlockTouches) (n : ℕ) (touch : LaneTouch) → i < length ids → AddsTouch old new (slice_index x.order.block_of.items (get_or ids i 0)) touch → touch ≡ touch_of x v k (get_or ids i 0)
    → length old ≡ n → ((p : ℕ) → p < n → touches_at old p ≡ touches_in x v k (take i ids) p) → (p : ℕ) → p < n → touches_at new p ≡ touches_in x v k (take (i + 1) ids) p
touches-more x v k ids i old new n touch within adds is long told p h =
    adds.1 p (omega arith)
    ∙ (ap (λ ts. cond (nat_eq at p) (ts ++ touch ∷ []) ts) (told p h)
    ∙ (ap (λ w. cond (nat_eq at p) (touches_in x v k (take i ids) p ++ w ∷ []) (touches_in x v k (take i ids) p)) is
    ∙ (sym (touches-push x v k (take i ids) (get_or ids i 0) p) ∙ ap (λ is. touches_in x v k is p) (sym (take_more ids i 0 within)))))
  where
    at : ℕ
    at = slice_index x.order.block_of.items (get_or ids i 0)

-- readings that are listed

lists-join : (k i : ℕ) (xs ys : List LaneReading) → lists (xs ++ ys) k i ≡ (lists xs k i || lists ys k i)
lists-join k i [] ys = refl
lists-join k i (x ∷ xs) ys = ap (λ b. nat_eq x.lane k && nat_eq x.by i || b) (lists-join k i xs ys) ∙ both (nat_eq x.lane k && nat_eq x.by i) (lists xs k i) (lists ys k i)
  where
    both : (a b c : Bool) → (a || (b || c)) ≡ ((a || b) || c)
    both true b c = refl
    both false b c = refl

lists-own : (k i : ℕ) (is : List ℕ) → lists (map (reached_at k) is) k i ≡ has i is
lists-own k i [] = refl
lists-own k i (j ∷ is) = ap (λ b. b && nat_eq j i || lists (map (reached_at k) is) k i) (eq-eqb k k refl) ∙ go (nat_eq j i) (lists-own k i is)
  where
    go : (b : Bool) → lists (map (reached_at k) is) k i ≡ has i is → (b || lists (map (reached_at k) is) k i) ≡ cond b true (has i is)
    go true e = refl
    go false e = e

lists-other : (l k i : ℕ) (is : List ℕ) → nat_eq l k ≡ false → lists (map (reached_at l) is) k i ≡ false
lists-other l k i [] e = refl
lists-other l k i (j ∷ is) e = ap (λ b. b && nat_eq j i || lists (map (reached_at l) is) k i) e ∙ lists-other l k i is e

-- the readings from the rest of a block, and from the blocks that are entered
pub seen-added : (ways : ℕ → List ℕ) (flow : LaneFlow) (at : ℕ) (rest : List LaneTouch) (qs : List ℕ) (old mid new : List LaneReading) → ((q : ℕ) → (has q qs ≡ true) ↔ Enters ways flow.blocks.items flow.dead.items at rest q)
    → mid ≡ old ++ map (reached_at flow.lane) (seen rest) → new ≡ mid ++ map (reached_at flow.lane) (flat_map (λ q. seen (touches_at flow.blocks.items q)) qs) → AddsSeen ways flow at rest old new
seen-added ways flow at rest qs old mid new just e g = record {
  others = λ k i n.
      all k i ∙ (ap (λ b. (lists old k i || b) || lists (map (reached_at flow.lane) deeper) k i) (lists-other flow.lane k i (seen rest) (is-false (nat_eq flow.lane k) n))
      ∙ (ap (λ b. (lists old k i || false) || b) (lists-other flow.lane k i deeper (is-false (nat_eq flow.lane k) n))
      ∙ (or-false (lists old k i || false) ∙ or-false (lists old k i))));
  own = λ i. (forth i, back i);
}
  where
    deeper : List ℕ
    deeper = flat_map (λ q. seen (touches_at flow.blocks.items q)) qs

    all : (k i : ℕ) → lists new k i ≡ ((lists old k i || lists (map (reached_at flow.lane) (seen rest)) k i) || lists (map (reached_at flow.lane) deeper) k i)
    all k i = ap (λ rs. lists rs k i) g ∙ (lists-join k i mid (map (reached_at flow.lane) deeper) ∙ ap (λ b. b || lists (map (reached_at flow.lane) deeper) k i) (ap (λ rs. lists rs k i) e ∙ lists-join k i old (map (reached_at flow.lane) (seen rest))))

    own-is : (i : ℕ) → lists new flow.lane i ≡ ((lists old flow.lane i || has i (seen rest)) || has i deeper)
    own-is i = all flow.lane i ∙ (ap (λ b. (lists old flow.lane i || b) || lists (map (reached_at flow.lane) deeper) flow.lane i) (lists-own flow.lane i (seen rest)) ∙ ap (λ b. (lists old flow.lane i || has i (seen rest)) || b) (lists-own flow.lane i deeper))

    forth : (i : ℕ) → lists new flow.lane i ≡ true → (lists old flow.lane i ≡ true) ⊎ IsSeen ways flow at rest i
    forth i h = go (or-cases _ _ (sym (own-is i) ∙ h))
      where
        near : (lists old flow.lane i ≡ true) ⊎ (has i (seen rest) ≡ true) → (lists old flow.lane i ≡ true) ⊎ IsSeen ways flow at rest i
        near (inl a) = inl a
        near (inr b) = inr (inl b)

        go : ((lists old flow.lane i || has i (seen rest)) ≡ true) ⊎ (has i deeper ≡ true) → (lists old flow.lane i ≡ true) ⊎ IsSeen ways flow at rest i
        go (inl a) = near (or-cases _ _ a)
        go (inr b) =
            let z = flat-of (λ q. seen (touches_at flow.blocks.items q)) i qs (has-member i deeper b) in
            inr (inr (z.0, (just z.0).0 (member-has z.0 qs z.1), member-has i (seen (touches_at flow.blocks.items z.0)) z.2))

    back : (i : ℕ) → (lists old flow.lane i ≡ true) ⊎ IsSeen ways flow at rest i → lists new flow.lane i ≡ true
    back i (inl a) = own-is i ∙ or-left _ _ (or-left _ _ a)
    back i (inr (inl b)) = own-is i ∙ or-left _ _ (or-right (lists old flow.lane i) _ b)
    back i (inr (inr z)) =
        own-is i ∙ or-right (lists old flow.lane i || has i (seen rest)) _ (member-has i deeper (flat-in (λ q. seen (touches_at flow.blocks.items q)) i z.0 qs (has-member z.0 qs ((just z.0).1 z.1)) (has-member i (seen (touches_at flow.blocks.items z.0)) z.2)))

-- the flows of lanes one after the other: those so far

pub record ListsSome (x : Table) (v : ℕ) (flows : List LaneFlow) (id : ℕ) (reached : List LaneReading) : Type 0 where
  pub just : (k i : ℕ) → (lists reached k i ≡ true) ↔ ((flow : LaneFlow) × Member flow flows × (flow.lane ≡ k) × FlowsTo x v flow id i)

pub lists-none : (x : Table) (v id : ℕ) → ListsSome x v [] id []
lists-none x v id = record { just = λ k i. ((λ h. absurd (cc)), (λ z. absurd (member-none z.0 z.1))) }

pub lists-more : (x : Table) (v : ℕ) (flows : List LaneFlow) (flow : LaneFlow) (id : ℕ) (old new : List LaneReading)
    → ((k i : ℕ) → (nat_eq flow.lane k ≡ true → ⊥) → lists new k i ≡ lists old k i) → ((i : ℕ) → (lists new flow.lane i ≡ true) ↔ ((lists old flow.lane i ≡ true) ⊎ FlowsTo x v flow id i))
    → ListsSome x v flows id old → ListsSome x v (flows ++ flow ∷ []) id new
lists-more x v flows flow id old new others own some = record { just = λ k i. (forth k i (nat_eq flow.lane k) refl, back k i) }
  where
    Those : ℕ → ℕ → Type 0
    Those k i = (w : LaneFlow) × Member w (flows ++ flow ∷ []) × (w.lane ≡ k) × FlowsTo x v w id i

    early : (k i : ℕ) → ((w : LaneFlow) × Member w flows × (w.lane ≡ k) × FlowsTo x v w id i) → Those k i
    early k i z = (z.0, left-in z.0 flows (flow ∷ []) z.1, z.2, z.3)

    forth : (k i : ℕ) (b : Bool) → nat_eq flow.lane k ≡ b → lists new k i ≡ true → Those k i
    forth k i false e h = early k i ((some.just k i).0 (sym (others k i (λ g. absurd (cc))) ∙ h))
    forth k i true e h =
        let same = eqb-true flow.lane k e in
        go same ((own i).0 (subst (λ m. lists new m i ≡ true) (sym same) h))
      where
        go : flow.lane ≡ k → (lists old flow.lane i ≡ true) ⊎ FlowsTo x v flow id i → Those k i
        go same (inl a) = early k i ((some.just k i).0 (subst (λ m. lists old m i ≡ true) same a))
        go same (inr f) = (flow, right-in flow flows (flow ∷ []) first, same, f)

    kept : (k i : ℕ) (b : Bool) → nat_eq flow.lane k ≡ b → lists old k i ≡ true → lists new k i ≡ true
    kept k i false e h = others k i (λ g. absurd (cc)) ∙ h
    kept k i true e h = let same = eqb-true flow.lane k e in subst (λ m. lists new m i ≡ true) same ((own i).1 (inl (subst (λ m. lists old m i ≡ true) (sym same) h)))

    back : (k i : ℕ) → Those k i → lists new k i ≡ true
    back k i z = either-elim z.0 flows (flow ∷ []) (λ m. kept k i (nat_eq flow.lane k) refl ((some.just k i).1 (z.0, m, z.2, z.3))) (λ m. member-elim z.0 flow [] (λ e. last e) (λ n. absurd (member-none z.0 n)) m) z.1
      where
        last : z.0 ≡ flow → lists new k i ≡ true
        last e =
            let lane : flow.lane ≡ k = ap (λ (w : LaneFlow). w.lane) (sym e) ∙ z.2 in
            subst (λ m. lists new m i ≡ true) lane ((own i).1 (inr (subst (λ w. FlowsTo x v w id i) e z.3)))

-- each lane's flow

pub flows-none : (x : Table) (bs : List Block) (v : ℕ) (ids : List ℕ) → HasFlows x bs v ids 0 []
flows-none x bs v ids = record { each = λ flow m. absurd (member-none flow m); all = λ k h. absurd (omega arith) }

pub flows-more : (x : Table) (bs : List Block) (v : ℕ) (ids : List ℕ) (n : ℕ) (flows : List LaneFlow) (flow : LaneFlow) → HasFlows x bs v ids n flows → flow.lane ≡ n → IsFlow x bs v ids flow → HasFlows x bs v ids (n + 1) (flows ++ flow ∷ [])
flows-more x bs v ids n flows flow has lane is = record {
  each = λ w m. either-elim w flows (flow ∷ []) (has.each w) (λ k. member-elim w flow [] (λ e. subst (IsFlow x bs v ids) (sym e) is) (λ j. absurd (member-none w j)) k) m;
  all = λ k h. go k h (nat_eq k n) refl;
}
  where
    go : (k : ℕ) → k < n + 1 → (b : Bool) → nat_eq k n ≡ b → (w : LaneFlow) × Member w (flows ++ flow ∷ []) × (w.lane ≡ k)
    go k h true e = (flow, right-in flow flows (flow ∷ []) first, lane ∙ sym (eqb-true k n e))
    go k h false e = let z = has.all k (below h e) in (z.0, left-in z.0 flows (flow ∷ []) z.1, z.2)
      where
        below : k < n + 1 → nat_eq k n ≡ false → k < n
        below h e = grind arith

-- one more definition

pub defined-more : (ids : List ℕ) (i : ℕ) (old new : List Definition) (d : Definition) → i < length ids → map (λ d. d.id) old ≡ take i ids → d.id ≡ get_or ids i 0 → new ≡ old ++ d ∷ [] → map (λ d. d.id) new ≡ take (i + 1) ids
defined-more ids i old new d h e g n =
    ap (map (λ (d : Definition). d.id)) n
    ∙ (map-append (λ (d : Definition). d.id) old (d ∷ [])
    ∙ (ap (λ xs. xs ++ d.id ∷ []) e ∙ (ap (λ k. take i ids ++ k ∷ []) g ∙ sym (take_more ids i 0 h))))

pub each-more : (P : Definition → Type 0) (old new : List Definition) (d : Definition) → ((e : Definition) → Member e old → P e) → P d → new ≡ old ++ d ∷ [] → (e : Definition) → Member e new → P e
each-more P old new d h p n e m = either-elim e old (d ∷ []) (h e) (λ k. member-elim e d [] (λ q. subst P (sym q) p) (λ j. absurd (member-none e j)) k) (subst (Member e) n m)

-- what an instruction that writes the lane does to it flows on, and nothing of another

pub definition-own : (x : Table) (v : ℕ) (flow : LaneFlow) (id at : ℕ) (rest : List LaneTouch) (old new : List LaneReading) → (touch_of x v flow.lane id).writes ≡ true → at ≡ slice_index x.order.block_of.items id → rest ≡ rest_behind id (touches_at flow.blocks.items at)
    → AddsSeen (successors x.flow.items) flow at rest old new → (i : ℕ) → (lists new flow.lane i ≡ true) ↔ ((lists old flow.lane i ≡ true) ⊎ FlowsTo x v flow id i)
definition-own x v flow id at rest old new w e r adds i = (λ h. go (told.0 h), λ z. told.1 (back z))
  where
    moved : AddsSeen (successors x.flow.items) flow (slice_index x.order.block_of.items id) (rest_behind id (touches_at flow.blocks.items (slice_index x.order.block_of.items id))) old new
    moved = subst (λ q. AddsSeen (successors x.flow.items) flow q (rest_behind id (touches_at flow.blocks.items q)) old new) e (subst (λ ts. AddsSeen (successors x.flow.items) flow at ts old new) r adds)

    told : (lists new flow.lane i ≡ true) ↔ ((lists old flow.lane i ≡ true) ⊎ IsSeen (successors x.flow.items) flow (slice_index x.order.block_of.items id) (rest_behind id (touches_at flow.blocks.items (slice_index x.order.block_of.items id))) i)
    told = moved.own i

    go : (lists old flow.lane i ≡ true) ⊎ IsSeen (successors x.flow.items) flow (slice_index x.order.block_of.items id) (rest_behind id (touches_at flow.blocks.items (slice_index x.order.block_of.items id))) i → (lists old flow.lane i ≡ true) ⊎ FlowsTo x v flow id i
    go (inl a) = inl a
    go (inr b) = inr (w, b)

    back : (lists old flow.lane i ≡ true) ⊎ FlowsTo x v flow id i → (lists old flow.lane i ≡ true) ⊎ IsSeen (successors x.flow.items) flow (slice_index x.order.block_of.items id) (rest_behind id (touches_at flow.blocks.items (slice_index x.order.block_of.items id))) i
    back (inl a) = inl a
    back (inr z) = inr z.1

pub no-definition : (x : Table) (v : ℕ) (flow : LaneFlow) (id : ℕ) (old : List LaneReading) → (touch_of x v flow.lane id).writes ≡ false → (i : ℕ) → (lists old flow.lane i ≡ true) ↔ ((lists old flow.lane i ≡ true) ⊎ FlowsTo x v flow id i)
no-definition x v flow id old w i = (λ h. inl h, λ z. back z)
  where
    back : (lists old flow.lane i ≡ true) ⊎ FlowsTo x v flow id i → lists old flow.lane i ≡ true
    back (inl a) = a
    back (inr z) = absurd (let h = z.0 in cc)
