-- Labels of local splits stand in layout order.
use Rattle.std.proofs.Common.{◌≡◌, ◌≤◌, ◌⊎◌, inl, inr, ℕ, zero, suc, Bool, true, false, cond, not, ◌&&◌, ◌+◌, List, [], ◌∷◌, ◌++◌, Option, Some, None, filter, flat_map, map, length, take, drop, refl, sym, ap, ◌∙◌, subst, append_assoc, append-nil, arith, eq-eqb}
use Rattle.std.proofs.lemmas.Bool.{leb-true}
use Rattle.std.specs.Prelude.{find, nat_le, nat_lt, option_map, ◌-◌}
use Rattle.std.specs.List.{list_any}
use Rattle.target_base.specs.declared.types.Reg.{Reg}
use Rattle.target_base.specs.declared.types.Target.{Target}
use Rattle.meaning.specs.Live.{Among as Member, here as first, there as later}
use Rattle.mir_func.specs.declared.func.Instr.{Instr}
use Rattle.mir_func.specs.declared.func.Block.{Block}
use Rattle.mir_func.specs.Value.{Function}
use Rattle.mir_func.specs.Binding.{class_of, does, is_terminator}
use Rattle.mir_func.specs.Edits.{block_place}
use Rattle.mir_meaning.specs.Places.{domain}
use Rattle.mir_meaning.specs.Points.{touches}
use Rattle.mir_meaning.specs.Rules.{block_numbers}
use Rattle.live_lanes.specs.declared.ask.labels.Mark.{Mark}
use Rattle.live_lanes.specs.declared.ask.labels.Spot.{Spot}
use Rattle.live_lanes.specs.declared.ask.labels.Spot.TheVariants.{Gap as AtGap}
use Rattle.instr_effects.proofs.Members.{filter-of, flat-of, in-either, map-in, map-of, member-elim, member-none, right-in}
use Rattle.live_laws.proofs.Effects.Moved.{Apart}
use Rattle.live_laws.proofs.Effects.Moving.{some-same}
use Rattle.lowering_laws.specs.Shapes.{IsLowered}
use Rattle.split_kit.specs.PartEdits.{AreInTurn, IsThinned, keeps, drops, gap_of, gaps_from, spots_of}
use Rattle.split_kit.proofs.BlockEdits.{all-left-out, spots}
use Rattle.split_choose.specs.Offers.{Touched, View, at_gap, at_start, blocks_between, borders, clear_along, end_place, ends_of, first_id, gap_behind, is_dividable, last_id, live_at, run_ends, run_marks, runs, runs_of, runs_up_to, terminators, touched_places, touching}
use Rattle.split_laws.specs.Turns.{LocalLabelsInTurn}
use Rattle.split_laws.proofs.Borders.{between, own-numbers}
use Rattle.split_laws.proofs.LaidMarks.{AreLaid, AreOf, laid-in-turn, next-laid, none-laid, past-laid}
use Rattle.split_laws.proofs.Local.{find-passes}
use Rattle.split_laws.proofs.Marked.{differ}
use Rattle.split_laws.proofs.OfferTurns.{at-own, first-thin, no-own}
use Rattle.split_laws.proofs.Points.{gap-at}

-- one element stands somewhere before another

abbrev Comes : {X : Type 0} → X → X → List X → Type 0
Comes x y [] = ⊥
Comes x y (z ∷ zs) = ((x ≡ z) × Member y zs) ⊎ Comes x y zs

comes-taken : {X : Type 0} (n : ℕ) (xs : List X) (x y : X) → Comes x y (take n xs) → Comes x y xs
comes-taken zero xs x y c = absurd c
comes-taken (suc n) [] x y c = absurd c
comes-taken {X} (suc n) (z ∷ zs) x y (inl h) = inl (h.0, taken-in n zs y h.1)
  where
    taken-in : (k : ℕ) (ys : List X) (u : X) → Member u (take k ys) → Member u ys
    taken-in zero ys u m = absurd (member-none u m)
    taken-in (suc k) [] u m = absurd (member-none u m)
    taken-in (suc k) (w ∷ ys) u m = member-elim u w (take k ys) (λ e. subst (λ q. Member u (q ∷ ys)) e first) (λ j. later (taken-in k ys u j)) m
comes-taken (suc n) (z ∷ zs) x y (inr h) = inr (comes-taken n zs x y h)

first-in : {X : Type 0} (xs : List X) (x y : X) → Comes x y xs → Member x xs
first-in [] x y c = absurd c
first-in (z ∷ zs) x y (inl h) = subst (λ q. Member x (q ∷ zs)) h.0 first
first-in (z ∷ zs) x y (inr h) = later (first-in zs x y h)

second-in : {X : Type 0} (xs : List X) (x y : X) → Comes x y xs → Member y xs
second-in [] x y c = absurd c
second-in (z ∷ zs) x y (inl h) = later h.1
second-in (z ∷ zs) x y (inr h) = later (second-in zs x y h)

-- in one of two lists, or in both
record Across {X : Type 0} (x y : X) (xs ys : List X) : Type 0 where
  before : Member x xs
  behind : Member y ys

comes-append : {X : Type 0} (xs ys : List X) (x y : X) → Comes x y (xs ++ ys) → Comes x y xs ⊎ (Across x y xs ys ⊎ Comes x y ys)
comes-append [] ys x y c = inr (inr c)
comes-append {X} (z ∷ xs) ys x y (inl h) = go (in-either y xs ys h.1)
  where
    go : Member y xs ⊎ Member y ys → Comes x y (z ∷ xs) ⊎ (Across x y (z ∷ xs) ys ⊎ Comes x y ys)
    go (inl k) = inl (inl (h.0, k))
    go (inr k) = inr (inl (record { before = subst (λ q. Member x (q ∷ xs)) h.0 first; behind = k }))
comes-append {X} (z ∷ xs) ys x y (inr h) = go (comes-append xs ys x y h)
  where
    go : Comes x y xs ⊎ (Across x y xs ys ⊎ Comes x y ys) → Comes x y (z ∷ xs) ⊎ (Across x y (z ∷ xs) ys ⊎ Comes x y ys)
    go (inl k) = inl (inr k)
    go (inr (inl k)) = inr (inl (record { before = later k.before; behind = k.behind }))
    go (inr (inr k)) = inr (inr k)

comes-map : {X Y : Type 0} (g : X → Y) (xs : List X) (x y : Y) → Comes x y (map g xs) → (a b : X) × Comes a b xs × (x ≡ g a) × (y ≡ g b)
comes-map g [] x y c = absurd c
comes-map g (z ∷ xs) x y (inl h) = let w = map-of g y xs h.1 in (z, w.0, inl (refl, w.1), h.0, w.2)
comes-map g (z ∷ xs) x y (inr h) = let w = comes-map g xs x y h in (w.0, w.1, inr w.2, w.3, w.4)

comes-filter : {X : Type 0} (p : X → Bool) (xs : List X) (x y : X) → Comes x y (filter p xs) → Comes x y xs
comes-filter p [] x y c = absurd c
comes-filter {X} p (z ∷ xs) x y c = go (p z) c (comes-filter p xs x y)
  where
    go : (q : Bool) → Comes x y (cond q (z ∷ filter p xs) (filter p xs)) → (Comes x y (filter p xs) → Comes x y xs) → Comes x y (z ∷ xs)
    go true (inl h) ih = inl (h.0, (filter-of p y xs h.1).0)
    go true (inr h) ih = inr (ih h)
    go false h ih = inr (ih h)

-- what stands before, between and behind
record Spread {X : Type 0} (x y : X) (xs : List X) : Type 0 where
  pre : List X
  mid : List X
  after : List X
  whole : pre ++ x ∷ (mid ++ y ∷ after) ≡ xs

spread : {X : Type 0} (xs : List X) (x y : X) → Comes x y xs → Spread x y xs
spread [] x y c = absurd c
spread (z ∷ zs) x y (inl h) = let w = between y zs h.1 in record { pre = []; mid = w.0; after = w.1; whole = λ k. h.0 k ∷ w.2 k }
spread (z ∷ zs) x y (inr h) = let w = spread zs x y h in record { pre = z ∷ w.pre; mid = w.mid; after = w.after; whole = ap (λ us. z ∷ us) w.whole }

-- in the list of one element, or in those of two of which one comes before the other
record InOne {X Y : Type 0} (g : X → List Y) (x y : Y) (xs : List X) : Type 0 where
  one : X
  there : Member one xs
  order : Comes x y (g one)

record InTwo {X Y : Type 0} (g : X → List Y) (x y : Y) (xs : List X) : Type 0 where
  one : X
  other : X
  order : Comes one other xs
  start : Member x (g one)
  stop : Member y (g other)

comes-flat : {X Y : Type 0} (g : X → List Y) (xs : List X) (x y : Y) → Comes x y (flat_map g xs) → InOne g x y xs ⊎ InTwo g x y xs
comes-flat g [] x y c = absurd c
comes-flat {X} {Y} g (z ∷ zs) x y c = go (comes-append (g z) (flat_map g zs) x y c) (comes-flat g zs x y)
  where
    by : InOne g x y zs ⊎ InTwo g x y zs → InOne g x y (z ∷ zs) ⊎ InTwo g x y (z ∷ zs)
    by (inl w) = inl (record { one = w.one; there = later w.there; order = w.order })
    by (inr w) = inr (record { one = w.one; other = w.other; order = inr w.order; start = w.start; stop = w.stop })

    go : Comes x y (g z) ⊎ (Across x y (g z) (flat_map g zs) ⊎ Comes x y (flat_map g zs)) → (Comes x y (flat_map g zs) → InOne g x y zs ⊎ InTwo g x y zs) → InOne g x y (z ∷ zs) ⊎ InTwo g x y (z ∷ zs)
    go (inl h) ih = inl (record { one = z; there = first; order = h })
    go (inr (inl h)) ih = let w = flat-of g y zs h.behind in inr (record { one = z; other = w.0; order = inl (refl, w.1); start = h.before; stop = w.2 })
    go (inr (inr h)) ih = by (ih h)

-- places of blocks

block-at : (pre : List Block) (b : Block) (after : List Block) → Apart (block_numbers (pre ++ b ∷ after)) → block_place b.number (pre ++ b ∷ after) ≡ length pre
block-at [] b after a = ap (λ q. cond (not q) (1 + block_place b.number after) 0) (eq-eqb b.number b.number refl)
block-at (c ∷ pre) b after a =
    let other = differ c.number b.number (λ e. a.0 (subst (λ n. Member n (block_numbers (pre ++ b ∷ after))) (sym e) (map-in (λ (d : Block). d.number) b (pre ++ b ∷ after) (right-in b pre (b ∷ after) first)))) in
    let n = block-at pre b after a.1 in
    ap (λ q. cond (not q) (1 + block_place b.number (pre ++ b ∷ after)) 0) other ∙ omega (arith, n)

dropped : {X : Type 0} (pre : List X) (x : X) (after : List X) (n : ℕ) → n ≡ length pre + 1 → drop n (pre ++ x ∷ after) ≡ after
dropped [] x after n e = ap (λ k. drop k (x ∷ after)) e
dropped (y ∷ pre) x after zero e = absurd (omega (arith, e))
dropped (y ∷ pre) x after (suc n) e = dropped pre x after n (omega (arith, e))

kept : {X : Type 0} (mid : List X) (y : X) (after : List X) (n : ℕ) → n ≡ length mid + 1 → take n (mid ++ y ∷ after) ≡ mid ++ y ∷ []
kept [] y after n e = ap (λ k. take k (y ∷ after)) e
kept (x ∷ mid) y after zero e = absurd (omega (arith, e))
kept (x ∷ mid) y after (suc n) e = ap (λ us. x ∷ us) (kept mid y after n (omega (arith, e)))

none-kept : {X : Type 0} (xs : List X) (n : ℕ) → n ≡ 0 → take n xs ≡ []
none-kept xs n e = ap (λ k. take k xs) e

length-ahead : {X : Type 0} (pre : List X) (x : X) (mid : List X) → length (pre ++ x ∷ mid) ≡ length pre + 1 + length mid
length-ahead [] x mid = omega arith
length-ahead (y ∷ pre) x mid = let h = length-ahead pre x mid in omega (arith, h)

map-append : {X Y : Type 0} (g : X → Y) (xs ys : List X) → map g (xs ++ ys) ≡ map g xs ++ map g ys
map-append g [] ys = refl
map-append g (x ∷ xs) ys = ap (λ zs. g x ∷ zs) (map-append g xs ys)

-- a label from the start of each block

abbrev start : Block → Mark
start b = at_start b.number 1

starts-laid : (mid bs : List Block) (ms : List Mark) → AreLaid bs ms → AreLaid (mid ++ bs) (map start mid ++ ms)
starts-laid [] bs ms r = r
starts-laid (b ∷ mid) bs ms r =
    next-laid b (mid ++ bs) (start b ∷ []) (map start mid ++ ms) (at-own b.number (start b) [] refl (no-own b.number)) (keeps (all-left-out (gaps_from b b.instrs))) (starts-laid mid bs ms r)

-- gaps of a block in order

past-thin : (b : Block) (front is : List Instr) (ss : List Spot) → IsThinned (gaps_from b is) ss → IsThinned (gaps_from b (front ++ is)) ss
past-thin b [] is ss h = h
past-thin b (i ∷ front) is ss h = drops (past-thin b front is ss h)

one-thin : (b : Block) (i : Instr) (is : List Instr) → Member i is → IsThinned (gaps_from b is) (AtGap (gap_of b (Some i.id)) ∷ [])
one-thin b i is m = let w = between i is m in subst (λ js. IsThinned (gaps_from b js) (AtGap (gap_of b (Some i.id)) ∷ [])) w.2 (past-thin b w.0 (i ∷ w.1) (AtGap (gap_of b (Some i.id)) ∷ []) (keeps (all-left-out (gaps_from b w.1))))

behind-thin : (b : Block) (front : List Instr) (i : Instr) (back : List Instr) → IsThinned (gaps_from b (front ++ i ∷ back)) (AtGap (gap_of b (first_id back)) ∷ [])
behind-thin b front i back = past-thin b front (i ∷ back) (AtGap (gap_of b (first_id back)) ∷ []) (drops (first-thin b back))

around-thin : (b : Block) (front : List Instr) (i : Instr) (mid : List Instr) (j : Instr) (back : List Instr) → IsThinned (gaps_from b (front ++ i ∷ (mid ++ j ∷ back))) (AtGap (gap_of b (Some i.id)) ∷ AtGap (gap_of b (first_id back)) ∷ [])
around-thin b front i mid j back = past-thin b front (i ∷ (mid ++ j ∷ back)) (AtGap (gap_of b (Some i.id)) ∷ AtGap (gap_of b (first_id back)) ∷ []) (keeps (behind-thin b mid j back))

module _ (t : Target) (f : Function) (low : IsLowered t f) (v : ℕ) (view : View) where
  abbrev Places : List Touched
  Places = touched_places t f v view

  -- the places of a run stand in layout order

  end-in : (p : Touched) (ps : List Touched) → Member (ends_of t f v view p ps).1 (p ∷ ps)
  end-in p [] = first
  end-in p (q ∷ ps) = later (end-in q ps)

  -- the first and the last of two or more
  ends-come : (us : List Touched) → 2 ≤ length us → (r : Touched × Touched) → Member r (run_ends t f v view us) → Comes r.0 r.1 us
  ends-come [] h r m = absurd (member-none r m)
  ends-come (p ∷ []) h r m = absurd (omega (arith, h))
  ends-come (p ∷ q ∷ ps) h r m =
      member-elim r (p, (ends_of t f v view q ps).1) []
      (λ e. inl (ap (λ (z : Touched × Touched). z.0) e, subst (λ x. Member x (q ∷ ps)) (sym (ap (λ (z : Touched × Touched). z.1) e)) (end-in q ps)))
      (λ k. absurd (member-none r k)) m

  two-taken : (n : ℕ) (ps : List Touched) → suc (suc n) ≤ length ps → 2 ≤ length (take (suc (suc n)) ps)
  two-taken n [] h = absurd (omega (arith, h))
  two-taken n (p ∷ []) h = absurd (omega (arith, h))
  two-taken n (p ∷ q ∷ ps) h = omega arith

  run-comes : (n : ℕ) (ps us : List Touched) → Member us (runs_of t f v view (suc (suc n)) ps) → (r : Touched × Touched) → Member r (run_ends t f v view us) → Comes r.0 r.1 ps
  run-comes n [] us m r k = absurd (member-none us m)
  run-comes n (p ∷ ps) us m r k = go (nat_le (suc (suc n)) (length (p ∷ ps))) refl m (λ j. run-comes n ps us j r k)
    where
      go : (b : Bool) → nat_le (suc (suc n)) (length (p ∷ ps)) ≡ b → Member us (cond b (take (suc (suc n)) (p ∷ ps) ∷ runs_of t f v view (suc (suc n)) ps) []) → (Member us (runs_of t f v view (suc (suc n)) ps) → Comes r.0 r.1 ps) → Comes r.0 r.1 (p ∷ ps)
      go false e j ih = absurd (member-none us j)
      go true e j ih =
          member-elim us (take (suc (suc n)) (p ∷ ps)) (runs_of t f v view (suc (suc n)) ps)
          (λ q. comes-taken (suc (suc n)) (p ∷ ps) r.0 r.1 (ends-come (take (suc (suc n)) (p ∷ ps)) (two-taken n (p ∷ ps) (leb-true (suc (suc n)) (length (p ∷ ps)) e)) r (subst (λ xs. Member r (run_ends t f v view xs)) q k)))
          (λ h. inr (ih h)) j

  up-to-comes : (n : ℕ) (ps us : List Touched) → Member us (runs_up_to t f v view n ps) → (r : Touched × Touched) → Member r (run_ends t f v view us) → Comes r.0 r.1 ps
  up-to-comes zero ps us m r k = absurd (member-none us m)
  up-to-comes (suc zero) ps us m r k = absurd (member-none us m)
  up-to-comes (suc (suc n)) ps us m r k = go m (λ h. up-to-comes (suc n) ps us h r k)
    where
      by : Member us (runs_of t f v view (suc (suc n)) ps) ⊎ Member us (runs_up_to t f v view (suc n) ps) → (Member us (runs_up_to t f v view (suc n) ps) → Comes r.0 r.1 ps) → Comes r.0 r.1 ps
      by (inl h) ih = run-comes n ps us h r k
      by (inr h) ih = ih h

      go : Member us (runs_up_to t f v view (suc (suc n)) ps) → (Member us (runs_up_to t f v view (suc n) ps) → Comes r.0 r.1 ps) → Comes r.0 r.1 ps
      go j ih = more (nat_lt (suc n) 1) j
        where
          more : (b : Bool) → Member us (cond b [] (runs_of t f v view (suc (suc n)) ps ++ runs_up_to t f v view (suc n) ps)) → Comes r.0 r.1 ps
          more true i = absurd (member-none us i)
          more false i = by (in-either us (runs_of t f v view (suc (suc n)) ps) (runs_up_to t f v view (suc n) ps) i) ih

  run-in-order : (r : (Touched × Touched) × Reg) → Member r (runs t f v view) → Comes r.0.0 r.0.1 Places
  run-in-order r m =
      let spans = flat_map (run_ends t f v view) (runs_up_to t f v view (length Places - 1) Places) in
      let z = flat-of (λ (s : Touched × Touched). map (λ (p : Reg). (s, p)) (domain t (class_of f v))) r spans m in
      let y = map-of (λ (p : Reg). (z.0, p)) r (domain t (class_of f v)) z.2 in
      let w = flat-of (run_ends t f v view) z.0 (runs_up_to t f v view (length Places - 1) Places) z.1 in
      subst (λ (q : Touched × Touched). Comes q.0 q.1 Places) (sym (ap (λ (q : (Touched × Touched) × Reg). q.0) y.2)) (up-to-comes (length Places - 1) Places w.0 w.1 z.0 w.2)

  -- the places of a block

  abbrev plain-place : Block → Instr → Touched
  plain-place b i = record { block = b.number; first = i.id; last = i.id; is_end = false }

  abbrev places-in : Block → List Touched
  places-in b = map (plain-place b) (touching t f v view b) ++ end_place t f v view b (terminators t f v view b)

  -- it begins with an instruction of the block
  record IsPlaceOf (b : Block) (pl : Touched) : Type 0 where
    instr : Instr
    there : Member instr b.instrs
    number : pl.block ≡ b.number
    first_is : pl.first ≡ instr.id

  -- where it isn't the block's end, it is that instruction
  record IsPlain (b : Block) (pl : Touched) : Type 0 where
    instr : Instr
    there : Member instr b.instrs
    last_is : pl.last ≡ instr.id

  end-of-block : (b : Block) (pl : Touched) (is : List Instr) → ((i : Instr) → Member i is → Member i b.instrs) → Member pl (end_place t f v view b is) → IsPlaceOf b pl × (pl.is_end ≡ true)
  end-of-block b pl [] h m = absurd (member-none pl m)
  end-of-block b pl (i ∷ is) h m = go (list_any (touches v) (i ∷ is)) m
    where
      go : (q : Bool) → Member pl (cond q (record { block = b.number; first = i.id; last = last_id i.id is; is_end = true } ∷ []) []) → IsPlaceOf b pl × (pl.is_end ≡ true)
      go false k = absurd (member-none pl k)
      go true k =
          member-elim pl (record { block = b.number; first = i.id; last = last_id i.id is; is_end = true }) []
          (λ e. (record { instr = i; there = h i first; number = ap (λ (x : Touched). x.block) e; first_is = ap (λ (x : Touched). x.first) e }, ap (λ (x : Touched). x.is_end) e))
          (λ j. absurd (member-none pl j)) k

  at-end : (b : Block) (pl : Touched) → Member pl (end_place t f v view b (terminators t f v view b)) → IsPlaceOf b pl × (pl.is_end ≡ true)
  at-end b pl m = end-of-block b pl (terminators t f v view b) (λ i k. (filter-of (does is_terminator t) i b.instrs k).0) m

  touching-in : (b : Block) (i : Instr) → Member i (touching t f v view b) → Member i b.instrs
  touching-in b i k = (filter-of (λ (j : Instr). touches v j && not (does is_terminator t j)) i b.instrs k).0

  place-of : (b : Block) (pl : Touched) → Member pl (places-in b) → IsPlaceOf b pl
  place-of b pl m = go (in-either pl (map (plain-place b) (touching t f v view b)) (end_place t f v view b (terminators t f v view b)) m)
    where
      go : Member pl (map (plain-place b) (touching t f v view b)) ⊎ Member pl (end_place t f v view b (terminators t f v view b)) → IsPlaceOf b pl
      go (inl k) = let w = map-of (plain-place b) pl (touching t f v view b) k in record { instr = w.0; there = touching-in b w.0 w.1; number = ap (λ (x : Touched). x.block) w.2; first_is = ap (λ (x : Touched). x.first) w.2 }
      go (inr k) = (at-end b pl k).0

  clash : (q : Bool) → q ≡ true → q ≡ false → ⊥
  clash q x y = let z : true ≡ false = sym x ∙ y in cc

  plain-of : (b : Block) (pl : Touched) → Member pl (places-in b) → pl.is_end ≡ false → IsPlain b pl
  plain-of b pl m e = go (in-either pl (map (plain-place b) (touching t f v view b)) (end_place t f v view b (terminators t f v view b)) m)
    where
      go : Member pl (map (plain-place b) (touching t f v view b)) ⊎ Member pl (end_place t f v view b (terminators t f v view b)) → IsPlain b pl
      go (inl k) = let w = map-of (plain-place b) pl (touching t f v view b) k in record { instr = w.0; there = touching-in b w.0 w.1; last_is = ap (λ (x : Touched). x.last) w.2 }
      go (inr k) = absurd (clash pl.is_end (at-end b pl k).1 e)

  -- of two places of a block the second of which isn't its end, both are instructions
  record ArePlain (b : Block) (x y : Touched) : Type 0 where
    one : Instr
    other : Instr
    order : Comes one other b.instrs
    first_is : x.first ≡ one.id
    last_is : y.last ≡ other.id

  both-plain : (b : Block) (x y : Touched) → Comes x y (places-in b) → y.is_end ≡ false → ArePlain b x y
  both-plain b x y c e = go (comes-append (map (plain-place b) (touching t f v view b)) (end_place t f v view b (terminators t f v view b)) x y c)
    where
      go : Comes x y (map (plain-place b) (touching t f v view b)) ⊎ (Across x y (map (plain-place b) (touching t f v view b)) (end_place t f v view b (terminators t f v view b)) ⊎ Comes x y (end_place t f v view b (terminators t f v view b))) → ArePlain b x y
      go (inl k) =
          let w = comes-map (plain-place b) (touching t f v view b) x y k in
          record { one = w.0; other = w.1; order = comes-filter (λ (j : Instr). touches v j && not (does is_terminator t j)) b.instrs w.0 w.1 w.2; first_is = ap (λ (z : Touched). z.first) w.3; last_is = ap (λ (z : Touched). z.last) w.4 }
      go (inr (inl k)) = absurd (clash y.is_end (at-end b y k.behind).1 e)
      go (inr (inr k)) = absurd (clash y.is_end (at-end b y (second-in (end_place t f v view b (terminators t f v view b)) x y k)).1 e)

  -- the marks of a run

  module _ (x y : Touched) where
    abbrev opening : ℕ → ℕ → Mark
    opening n id = at_gap n (Some id) 1

    abbrev closing : Bool → ℕ → Option ℕ → List Mark
    closing ends n before = cond ends [] (at_gap n before 0 ∷ [])

    closing-own : (q : Bool) (n : ℕ) (g : Option ℕ) → AreOf n (closing q n g)
    closing-own true n g = no-own n
    closing-own false n g = at-own n (at_gap n g 0) [] refl (no-own n)

    -- behind an instruction of a block
    stop : (pre : List Block) (b : Block) (after : List Block) → pre ++ b ∷ after ≡ f.blocks → (front : List Instr) (i : Instr) (back : List Instr) → front ++ i ∷ back ≡ b.instrs → y.last ≡ i.id → gap_behind t f v view y.last f.blocks ≡ first_id back
    stop pre b after blocks front i back instrs e = ap (λ n. gap_behind t f v view n f.blocks) e ∙ gap-at t f low.function pre b after blocks front i back instrs v view

    -- the marks of one block
    in-block : (b : Block) → Member b f.blocks → (own : List Mark) → AreOf b.number own → IsThinned (spots_of b) (spots own) → AreInTurn f own
    in-block b mb own h s =
        let w = between b f.blocks mb in
        laid-in-turn f own (own-numbers t f low v)
        (subst (λ bs. AreLaid bs own) w.2 (past-laid w.0 (b ∷ w.1) own (subst (λ ms. AreLaid (b ∷ w.1) ms) (append-nil own) (next-laid b w.1 own [] h s (none-laid w.1)))))

    numbers : (pre bs : List Block) → pre ++ bs ≡ f.blocks → Apart (block_numbers (pre ++ bs))
    numbers pre bs e = subst (λ cs. Apart (block_numbers cs)) (sym e) (own-numbers t f low v)

    -- in one block

    module _ (b : Block) (mb : Member b f.blocks) (order : Comes x y (places-in b)) where
      none-between : blocks_between t f v view x.block y.block ≡ []
      none-between =
          let w = place-of b x (first-in (places-in b) x y order) in
          let z = place-of b y (second-in (places-in b) x y order) in
          none-kept (drop (block_place x.block f.blocks + 1) f.blocks) (block_place y.block f.blocks - block_place x.block f.blocks) (let e : block_place y.block f.blocks ≡ block_place x.block f.blocks = ap (λ n. block_place n f.blocks) (z.number ∙ sym w.number) in omega (arith, e))

      one-block : AreInTurn f (run_marks t f v view (x, y))
      one-block =
          subst (AreInTurn f) (λ k. opening x.block x.first ∷ (map (λ (d : Block). at_start d.number 1) (sym none-between k) ++ last))
          (in-block b mb (opening x.block x.first ∷ last) (at-own b.number (opening x.block x.first) last w.number (subst (λ n. AreOf n last) z.number (closing-own y.is_end y.block gap))) (drops (thin y.is_end refl)))
        where
          gap : Option ℕ
          gap = gap_behind t f v view y.last f.blocks

          last : List Mark
          last = closing y.is_end y.block gap

          w : IsPlaceOf b x
          w = place-of b x (first-in (places-in b) x y order)

          z : IsPlaceOf b y
          z = place-of b y (second-in (places-in b) x y order)

          thin : (q : Bool) → y.is_end ≡ q → IsThinned (gaps_from b b.instrs) (AtGap (record { block = x.block; before = Some x.first }) ∷ spots (closing q y.block gap))
          thin true e = subst (λ (s : Spot). IsThinned (gaps_from b b.instrs) (s ∷ [])) (λ k. AtGap (record { block = sym w.number k; before = Some (sym w.first_is k) })) (one-thin b w.instr b.instrs w.there)
          thin false e =
              let p = both-plain b x y order e in
              let s = spread b.instrs p.one p.other p.order in
              let u = between b f.blocks mb in
              let behind = stop u.0 b u.1 u.2 (s.pre ++ p.one ∷ s.mid) p.other s.after (append_assoc s.pre (p.one ∷ s.mid) (p.other ∷ s.after) ∙ s.whole) p.last_is in
              subst (λ (ss : List Spot). IsThinned (gaps_from b b.instrs) ss)
              (λ k. AtGap (record { block = sym w.number k; before = Some (sym p.first_is k) }) ∷ AtGap (record { block = sym z.number k; before = sym behind k }) ∷ [])
              (subst (λ is. IsThinned (gaps_from b is) (AtGap (gap_of b (Some p.one.id)) ∷ AtGap (gap_of b (first_id s.after)) ∷ [])) s.whole (around-thin b s.pre p.one s.mid p.other s.after))

    -- in two blocks

    module _ (b c : Block) (order : Comes b c f.blocks) (starts : Member x (places-in b)) (stops : Member y (places-in c)) where
      s : Spread b c f.blocks
      s = spread f.blocks b c order

      w : IsPlaceOf b x
      w = place-of b x starts

      z : IsPlaceOf c y
      z = place-of c y stops

      whole : (s.pre ++ b ∷ s.mid) ++ c ∷ s.after ≡ f.blocks
      whole = append_assoc s.pre (b ∷ s.mid) (c ∷ s.after) ∙ s.whole

      from : block_place x.block f.blocks ≡ length s.pre
      from = ap (λ n. block_place n f.blocks) w.number ∙ (ap (block_place b.number) (sym s.whole) ∙ block-at s.pre b (s.mid ++ c ∷ s.after) (numbers s.pre (b ∷ (s.mid ++ c ∷ s.after)) s.whole))

      to : block_place y.block f.blocks ≡ length s.pre + 1 + length s.mid
      to = ap (λ n. block_place n f.blocks) z.number ∙ (ap (block_place c.number) (sym whole) ∙ (block-at (s.pre ++ b ∷ s.mid) c s.after (numbers (s.pre ++ b ∷ s.mid) (c ∷ s.after) whole) ∙ length-ahead s.pre b s.mid))

      blocks-are : blocks_between t f v view x.block y.block ≡ s.mid ++ c ∷ []
      blocks-are =
          let n : block_place x.block f.blocks + 1 ≡ length s.pre + 1 = omega (arith, from) in
          let m : block_place y.block f.blocks - block_place x.block f.blocks ≡ length s.mid + 1 = omega (arith, from, to) in
          let behind : drop (block_place x.block f.blocks + 1) f.blocks ≡ s.mid ++ c ∷ s.after = ap (drop (block_place x.block f.blocks + 1)) (sym s.whole) ∙ dropped s.pre b (s.mid ++ c ∷ s.after) (block_place x.block f.blocks + 1) n in
          ap (take (block_place y.block f.blocks - block_place x.block f.blocks)) behind ∙ kept s.mid c s.after (block_place y.block f.blocks - block_place x.block f.blocks) m

      two-blocks : AreInTurn f (run_marks t f v view (x, y))
      two-blocks =
          subst (AreInTurn f) (sym marks-are)
          (laid-in-turn f (opening x.block x.first ∷ (map start s.mid ++ (start c ∷ last))) (own-numbers t f low v)
          (subst (λ bs. AreLaid bs (opening x.block x.first ∷ (map start s.mid ++ (start c ∷ last)))) s.whole
          (past-laid s.pre (b ∷ (s.mid ++ c ∷ s.after)) (opening x.block x.first ∷ (map start s.mid ++ (start c ∷ last)))
          (next-laid b (s.mid ++ c ∷ s.after) (opening x.block x.first ∷ []) (map start s.mid ++ (start c ∷ last)) (at-own b.number (opening x.block x.first) [] w.number (no-own b.number)) first-place
          (starts-laid s.mid (c ∷ s.after) (start c ∷ last) end-laid)))))
        where
          gap : Option ℕ
          gap = gap_behind t f v view y.last f.blocks

          last : List Mark
          last = closing y.is_end y.block gap

          marks-are : run_marks t f v view (x, y) ≡ opening x.block x.first ∷ (map start s.mid ++ (start c ∷ last))
          marks-are =
              (λ k. opening x.block x.first ∷ (map start (blocks-are k) ++ last))
              ∙ ap (λ ms. opening x.block x.first ∷ ms) (ap (λ ms. ms ++ last) (map-append start s.mid (c ∷ [])) ∙ append_assoc (map start s.mid) (start c ∷ []) last)

          first-place : IsThinned (spots_of b) (AtGap (record { block = x.block; before = Some x.first }) ∷ [])
          first-place = drops (subst (λ (q : Spot). IsThinned (gaps_from b b.instrs) (q ∷ [])) (λ k. AtGap (record { block = sym w.number k; before = Some (sym w.first_is k) })) (one-thin b w.instr b.instrs w.there))

          thin : (q : Bool) → y.is_end ≡ q → IsThinned (gaps_from c c.instrs) (spots (closing q y.block gap))
          thin true e = all-left-out (gaps_from c c.instrs)
          thin false e =
              let p = plain-of c y stops e in
              let u = between p.instr c.instrs p.there in
              let behind = stop (s.pre ++ b ∷ s.mid) c s.after whole u.0 p.instr u.1 u.2 p.last_is in
              subst (λ (q : Spot). IsThinned (gaps_from c c.instrs) (q ∷ [])) (λ k. AtGap (record { block = sym z.number k; before = sym behind k }))
              (subst (λ is. IsThinned (gaps_from c is) (AtGap (gap_of c (first_id u.1)) ∷ [])) u.2 (behind-thin c u.0 p.instr u.1))

          end-laid : AreLaid (c ∷ s.after) (start c ∷ last)
          end-laid =
              subst (λ ms. AreLaid (c ∷ s.after) ms) (append-nil (start c ∷ last))
              (next-laid c s.after (start c ∷ last) [] (at-own c.number (start c) last refl (subst (λ n. AreOf n last) z.number (closing-own y.is_end y.block gap))) (keeps (thin y.is_end refl)) (none-laid s.after))

    run-turns : Comes x y Places → AreInTurn f (run_marks t f v view (x, y))
    run-turns h = go (comes-flat places-in f.blocks x y h)
      where
        go : InOne places-in x y f.blocks ⊎ InTwo places-in x y f.blocks → AreInTurn f (run_marks t f v view (x, y))
        go (inl w) = one-block w.one w.there w.order
        go (inr w) = two-blocks w.one w.other w.order w.start w.stop

pub local_labels_in_turn : LocalLabelsInTurn
local_labels_in_turn t f registers v p labels low offer = go (is_dividable t f v offer.0 && not (list_any (live_at t f v offer.0) (borders t f v offer.0))) (find (clear_along t f v offer.0) (runs t f v offer.0)) refl offer.2
  where
    go : (y : Bool) (o : Option ((Touched × Touched) × Reg)) → find (clear_along t f v offer.0) (runs t f v offer.0) ≡ o → ◌≡◌ {A = Option (Reg × List Mark)} (Some (p, labels)) (cond y (option_map (λ (r : (Touched × Touched) × Reg). (r.1, run_marks t f v offer.0 r.0)) o) None) → AreInTurn f labels
    go false o s e = absurd (cc)
    go true None s e = absurd (cc)
    go true (Some r) s e =
        let x : Reg × List Mark = (p, labels) in
        let y : Reg × List Mark = (r.1, run_marks t f v offer.0 r.0) in
        let h = run-in-order t f low v offer.0 r (find-passes (clear_along t f v offer.0) (runs t f v offer.0) r s) in
        subst (AreInTurn f) (sym (ap (λ (z : Reg × List Mark). z.1) (some-same x y e))) (run-turns t f low v offer.0 r.0.0 r.0.1 h)
