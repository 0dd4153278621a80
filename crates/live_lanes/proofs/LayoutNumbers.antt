-- The numbers of instructions in layout order.
use Rattle.std.proofs.Common.{◌≡◌, ◌⊎◌, ◌<◌, ◌≤◌, ◌+◌, inl, inr, ℕ, zero, suc, Bool, true, false, cond, not, ◌++◌, length, map, take, List, [], ◌∷◌, Option, None, Some, refl, sym, ap, ◌∙◌, subst, arith, eqb-true, length-append}
use Rattle.std.specs.Prelude.{filter, flat_map, nat_eq, nat_lt, slice_get}
use Rattle.std.specs.List.{cons_option}
use Rattle.std.proofs.lemmas.Bool.{lt-ltb, ltb-true}
use Rattle.std.proofs.lemmas.List.{map-append}
use Rattle.slot_index.specs.Order.{number_of}
use Rattle.mir_func.specs.declared.func.Block.{Block}
use Rattle.mir_func.specs.declared.func.Instr.{Instr}
use Rattle.mir_func.specs.Value.{Function}
use Rattle.mir_meaning.specs.Paths.{Among, here, there, has}
use Rattle.mir_meaning.specs.Points.{touches}
use Rattle.instr_effects.specs.declared.owner.Owner.TheVariants as owners
use Rattle.instr_effects.specs.Numbered.{number_in}
use Rattle.live_lanes.specs.declared.ask.extent.Extent.{Extent}
use Rattle.live_lanes.specs.declared.table.Table.{Table}
use Rattle.live_lanes.specs.Ordered.{all_ids, ids_of, AreRising}
use Rattle.live_lanes.specs.Reach.{is_never}
use Rattle.live_lanes.specs.Entered.{rows_seen}
use Rattle.live_lanes.specs.Extents.{extents_in, lanes_count}
use Rattle.live_lanes.specs.Looks.{InOrder}
use Rattle.live_lanes.specs.Spread.{BeginsAt, BeginsWithin, IsFirst, IsWithin, LaneBeginsAt, layout_number, number_at, number_before}
use Rattle.live_lanes.specs.Table.{Begun, Numbers, Seen, leading, rises_from}
use Rattle.live_lanes.specs.Tells.{touching_ids}
use Rattle.live_lanes.specs.Touching.{FindsInstrs}
use Rattle.live_lanes.proofs.Cells.{both-left, both-right}
use Rattle.live_lanes.proofs.ExtentLists.{begun_extent, extents-rows, seen_extents}
use Rattle.live_lanes.proofs.Finding.{home-of, stands-there, stands_before}
use Rattle.live_lanes.proofs.Spread.{Below, lane-below}

some-inj : {X : Type 0} (x y : X) → Some x ≡ Some y → x ≡ y
some-inj x y e = cc

abbrev is_other : ℕ → ℕ → Bool
is_other id y = not (nat_eq y id)

-- how many stand before an id, in lists one after the other

lead-has : (id : ℕ) (xs ys : List ℕ) → has id xs ≡ true → leading (is_other id) (xs ++ ys) ≡ leading (is_other id) xs
lead-has id [] ys h = absurd (cc)
lead-has id (x ∷ xs) ys h = go (nat_eq x id) h (lead-has id xs ys)
  where
    go : (t : Bool) → cond t true (has id xs) ≡ true → (has id xs ≡ true → leading (is_other id) (xs ++ ys) ≡ leading (is_other id) xs) → cond (not t) (suc (leading (is_other id) (xs ++ ys))) 0 ≡ cond (not t) (suc (leading (is_other id) xs)) 0
    go true f ih = refl
    go false f ih = ap (λ n. suc n) (ih f)

lead-none : (id : ℕ) (xs ys : List ℕ) → has id xs ≡ false → leading (is_other id) (xs ++ ys) ≡ length xs + leading (is_other id) ys
lead-none id [] ys h = omega arith
lead-none id (x ∷ xs) ys h = go (nat_eq x id) h (lead-none id xs ys)
  where
    go : (t : Bool) → cond t true (has id xs) ≡ false → (has id xs ≡ false → leading (is_other id) (xs ++ ys) ≡ length xs + leading (is_other id) ys) → cond (not t) (suc (leading (is_other id) (xs ++ ys))) 0 ≡ suc (length xs) + leading (is_other id) ys
    go true f ih = absurd (cc)
    go false f ih = let z = ih f in omega arith

pub lead-below : (id : ℕ) (xs : List ℕ) → has id xs ≡ true → leading (is_other id) xs < length xs
lead-below id [] h = absurd (cc)
lead-below id (x ∷ xs) h = go (nat_eq x id) h (lead-below id xs)
  where
    go : (t : Bool) → cond t true (has id xs) ≡ true → (has id xs ≡ true → leading (is_other id) xs < length xs) → cond (not t) (suc (leading (is_other id) xs)) 0 < suc (length xs)
    go true f ih = omega arith
    go false f ih = let z = ih f in omega arith

has-right : (id : ℕ) (xs ys : List ℕ) → has id xs ≡ false → has id (xs ++ ys) ≡ true → has id ys ≡ true
has-right id [] ys h e = e
has-right id (x ∷ xs) ys h e = go (nat_eq x id) h e (has-right id xs ys)
  where
    go : (t : Bool) → cond t true (has id xs) ≡ false → cond t true (has id (xs ++ ys)) ≡ true → (has id xs ≡ false → has id (xs ++ ys) ≡ true → has id ys ≡ true) → has id ys ≡ true
    go true f g ih = absurd (cc)
    go false f g ih = ih f g

has-left : (id : ℕ) (xs ys : List ℕ) → has id xs ≡ true → has id (xs ++ ys) ≡ true
has-left id [] ys h = absurd (cc)
has-left id (x ∷ xs) ys h = go (nat_eq x id) h (has-left id xs ys)
  where
    go : (t : Bool) → cond t true (has id xs) ≡ true → (has id xs ≡ true → has id (xs ++ ys) ≡ true) → cond t true (has id (xs ++ ys)) ≡ true
    go true f ih = refl
    go false f ih = ih f

has-behind : (id : ℕ) (xs ys : List ℕ) → has id ys ≡ true → has id (xs ++ ys) ≡ true
has-behind id [] ys h = h
has-behind id (x ∷ xs) ys h = go (nat_eq x id) (has-behind id xs ys h)
  where
    go : (t : Bool) → has id (xs ++ ys) ≡ true → cond t true (has id (xs ++ ys)) ≡ true
    go true ih = refl
    go false ih = ih

-- an instruction of that id, as many stand before it

pub record IsAmong (is : List Instr) (id : ℕ) : Type 0 where
  pub index : ℕ
  pub instr : Instr
  pub there : slice_get is index ≡ Some instr
  pub own : instr.id ≡ id
  pub number : leading (is_other id) (ids_of is) ≡ index

pub find-among : (is : List Instr) (id : ℕ) → has id (ids_of is) ≡ true → IsAmong is id
find-among [] id h = absurd (cc)
find-among (i ∷ is) id h = go (nat_eq i.id id) refl h (find-among is id)
  where
    go : (t : Bool) → nat_eq i.id id ≡ t → cond t true (has id (ids_of is)) ≡ true → (has id (ids_of is) ≡ true → IsAmong is id) → IsAmong (i ∷ is) id
    go true e f ih = record { index = 0; instr = i; there = refl; own = eqb-true i.id id e; number = ap (λ t. cond (not t) (suc (leading (is_other id) (ids_of is))) 0) e }
    go false e f ih =
        let z = ih f in
        record { index = suc z.index; instr = z.instr; there = z.there; own = z.own; number = ap (λ t. cond (not t) (suc (leading (is_other id) (ids_of is))) 0) e ∙ ap (λ n. suc n) z.number }

-- where an instruction stands
pub record IsFound (bs : List Block) (id : ℕ) : Type 0 where
  pub place : ℕ
  pub block : Block
  pub index : ℕ
  pub instr : Instr
  pub at : slice_get bs place ≡ Some block
  pub there : slice_get block.instrs index ≡ Some instr
  pub own : instr.id ≡ id
  pub number : layout_number bs id ≡ number_before bs place + index

pub locate : (bs : List Block) (id : ℕ) → has id (all_ids bs) ≡ true → IsFound bs id
locate [] id h = absurd (cc)
locate (b ∷ bs) id h = go (has id (ids_of b.instrs)) refl (λ e. locate bs id e)
  where
    go : (t : Bool) → has id (ids_of b.instrs) ≡ t → (has id (all_ids bs) ≡ true → IsFound bs id) → IsFound (b ∷ bs) id
    go true e ih =
        let z = find-among b.instrs id e in
        let n = lead-has id (ids_of b.instrs) (all_ids bs) e ∙ z.number in
        record { place = 0; block = b; index = z.index; instr = z.instr; at = refl; there = z.there; own = z.own; number = omega (arith, n) }
    go false e ih =
        let z = ih (has-right id (ids_of b.instrs) (all_ids bs) e h) in
        let n = lead-none id (ids_of b.instrs) (all_ids bs) e in
        let long : number_before (b ∷ bs) (suc z.place) ≡ length (ids_of b.instrs) + number_before bs z.place = length-append (ids_of b.instrs) (all_ids (take z.place bs)) in
        let own = z.number in
        record { place = suc z.place; block = z.block; index = z.index; instr = z.instr; at = z.at; there = z.there; own = z.own; number = omega (arith, n, long, own) }

-- what stands in a block of the function is one of its instructions
pub has-all : (bs : List Block) (p : ℕ) (b : Block) (id : ℕ) → slice_get bs p ≡ Some b → has id (ids_of b.instrs) ≡ true → has id (all_ids bs) ≡ true
has-all [] p b id e h = absurd (cc)
has-all (a ∷ bs) zero b id e h = has-left id (ids_of a.instrs) (all_ids bs) (subst (λ (y : Block). has id (ids_of y.instrs) ≡ true) (sym (some-inj a b e)) h)
has-all (a ∷ bs) (suc p) b id e h = has-behind id (ids_of a.instrs) (all_ids bs) (has-all bs p b id e h)

pub before-all : (bs : List Block) (p : ℕ) → number_before bs p ≤ length (all_ids bs)
before-all [] zero = omega arith
before-all [] (suc p) = omega arith
before-all (b ∷ bs) zero = omega arith
before-all (b ∷ bs) (suc p) =
    let ih = before-all bs p in
    let x : number_before (b ∷ bs) (suc p) ≡ length (ids_of b.instrs) + number_before bs p = length-append (ids_of b.instrs) (all_ids (take p bs)) in
    let y : length (all_ids (b ∷ bs)) ≡ length (ids_of b.instrs) + length (all_ids bs) = length-append (ids_of b.instrs) (all_ids bs) in
    omega arith

-- one more block
pub before-more : (bs cs : List Block) (b : Block) → cs ≡ bs ++ b ∷ [] → length (all_ids cs) ≡ length (all_ids bs) + length b.instrs
before-more bs cs b e = ap (λ xs. length (all_ids xs)) e ∙ go bs
  where
    instrs-long : (is : List Instr) → length (ids_of is) ≡ length is
    instrs-long [] = refl
    instrs-long (i ∷ is) = ap (λ n. suc n) (instrs-long is)

    go : (xs : List Block) → length (all_ids (xs ++ b ∷ [])) ≡ length (all_ids xs) + length b.instrs
    go [] = let z = length-append (ids_of b.instrs) (all_ids []) in let y = instrs-long b.instrs in omega (arith, z, y)
    go (x ∷ xs) =
        let ih = go xs in
        let z = length-append (ids_of x.instrs) (all_ids (xs ++ b ∷ [])) in
        let y = length-append (ids_of x.instrs) (all_ids xs) in
        omega (arith, ih, z, y)

-- the number of an instruction is that of its block's start and its place in the block

index-same : (slots : Numbers) (is : List Instr) (j k : ℕ) (a b : Instr) → AreRising slots 0 (ids_of is) → slice_get is j ≡ Some a → slice_get is k ≡ Some b → a.id ≡ b.id → j ≡ k
index-same slots is j k a b r e f same = sym (stands-there slots is j a r e) ∙ (ap (λ n. leading (stands_before slots (number_of slots n)) is) same ∙ stands-there slots is k b r f)

module _ (x : Table) (bs : List Block) (finds : FindsInstrs x bs) where
  abbrev slots : Numbers
  slots = x.order.slots

  pub number-there : (p : ℕ) (b : Block) (id : ℕ) → slice_get bs p ≡ Some b → (z : IsAmong b.instrs id) → has id (ids_of b.instrs) ≡ true → layout_number bs id ≡ number_before bs p + z.index
  number-there p b id e z h = go (locate bs id (has-all bs p b id e h))
    where
      go : IsFound bs id → layout_number bs id ≡ number_before bs p + z.index
      go w =
          let same : w.place ≡ p = sym (home-of bs x.order.block_of.items w.place w.index w.block w.instr id finds.homes w.at w.there w.own) ∙ home-of bs x.order.block_of.items p z.index b z.instr id finds.homes e z.there z.own in
          let block : w.block ≡ b = some-inj w.block b (sym w.at ∙ (ap (slice_get bs) same ∙ e)) in
          let at : slice_get b.instrs w.index ≡ Some w.instr = subst (λ (y : Block). slice_get y.instrs w.index ≡ Some w.instr) block w.there in
          let index : w.index ≡ z.index = index-same slots b.instrs w.index z.index w.instr z.instr (finds.ranked p b e) at z.there (w.own ∙ sym z.own) in
          w.number ∙ (ap (λ n. number_before bs n + w.index) same ∙ ap (λ n. number_before bs p + n) index)

  -- none comes behind the second, by their numbers
  abbrev pub Ahead : Option ℕ → Option ℕ → Type 0
  Ahead None r = Unit {0}
  Ahead (Some a) None = ⊥
  Ahead (Some a) (Some b) = number_of slots a ≤ number_of slots b

  leading-more : (n m : ℕ) (is : List Instr) → n ≤ m → leading (stands_before slots n) is ≤ leading (stands_before slots m) is
  leading-more n m [] le = omega arith
  leading-more n m (i ∷ is) le = go (nat_lt (number_of slots i.id) n) refl (leading-more n m is le)
    where
      go : (t : Bool) → nat_lt (number_of slots i.id) n ≡ t → leading (stands_before slots n) is ≤ leading (stands_before slots m) is → cond t (suc (leading (stands_before slots n) is)) 0 ≤ leading (stands_before slots m) (i ∷ is)
      go true e ih =
          let lt = ltb-true (number_of slots i.id) n e in
          let more : leading (stands_before slots m) (i ∷ is) ≡ suc (leading (stands_before slots m) is) = ap (λ t. cond t (suc (leading (stands_before slots m) is)) 0) (lt-ltb (number_of slots i.id) m (omega arith)) in
          omega arith
      go false e ih = omega arith

  pub ahead-number : (p : ℕ) (q r : Option ℕ) → IsWithin bs p q → IsWithin bs p r → Ahead q r → number_at bs p q ≤ number_at bs p r
  ahead-number p None None u w a = omega arith
  ahead-number p None (Some id) u (b, e, h) a = let z = find-among b.instrs id h in let n = number-there p b id e z h in omega (arith, n)
  ahead-number p (Some c) None u w a = absurd a
  ahead-number p (Some c) (Some d) (a, e, h) (b, f, g) le =
      let same : b ≡ a = some-inj b a (sym f ∙ e) in
      let g' : has d (ids_of a.instrs) ≡ true = subst (λ (y : Block). has d (ids_of y.instrs) ≡ true) same g in
      let y = find-among a.instrs c h in
      let z = find-among a.instrs d g' in
      let m = number-there p a c e y h in
      let n = number-there p a d e z g' in
      let up = finds.ranked p a e in
      let i = stands-there slots a.instrs y.index y.instr up y.there in
      let j = stands-there slots a.instrs z.index z.instr up z.there in
      let low : number_of slots y.instr.id ≤ number_of slots z.instr.id = subst (λ k. k ≤ number_of slots z.instr.id) (ap (number_of slots) (sym y.own)) (subst (λ k. number_of slots c ≤ k) (ap (number_of slots) (sym z.own)) le) in
      let w = leading-more (number_of slots y.instr.id) (number_of slots z.instr.id) a.instrs low in
      omega (arith, m, n, i, j, w)

-- extents in a row begin one behind the other

split-among : {X : Type 0} (x y : X) (ys : List X) → Among x (y ∷ ys) → (x ≡ y) ⊎ Among x ys
split-among x y ys here = inl refl
split-among x y ys (there m) = inr m

none-among : {X : Type 0} (x : X) → Among x [] → ⊥
none-among x m = elim m [ ]

rises-all : (ranks : Numbers) (n : ℕ) (ss : List Begun) (e : Extent) → rises_from ranks n ss ≡ true → Among e (map begun_extent ss) → (id : ℕ) × (e.start ≡ Some id) × (n < number_of ranks id)
rises-all ranks n [] e r m = absurd (none-among e m)
rises-all ranks n (s ∷ ss) e r m = go (split-among e (begun_extent s) (map begun_extent ss) m) (rises-all ranks (number_of ranks s.start) ss e (both-right (nat_lt n (number_of ranks s.start)) (rises_from ranks (number_of ranks s.start) ss) r))
  where
    low : n < number_of ranks s.start
    low = ltb-true n (number_of ranks s.start) (both-left (nat_lt n (number_of ranks s.start)) (rises_from ranks (number_of ranks s.start) ss) r)

    go : (e ≡ begun_extent s) ⊎ Among e (map begun_extent ss) → (Among e (map begun_extent ss) → (id : ℕ) × (e.start ≡ Some id) × (number_of ranks s.start < number_of ranks id)) → (id : ℕ) × (e.start ≡ Some id) × (n < number_of ranks id)
    go (inl f) ih = (s.start, ap (λ (y : Extent). y.start) f, low)
    go (inr k) ih = let z = ih k in (z.0, z.1, omega (arith, low, z.2))

module _ (x : Table) (bs : List Block) (finds : FindsInstrs x bs) (v : Seen) (up : rises_from x.order.slots 0 v.segments ≡ true) where
  segment-ahead : (ss : List Begun) → rises_from x.order.slots 0 ss ≡ true → (d e : Extent) → slice_get (map begun_extent ss) 0 ≡ Some d → Among e (map begun_extent ss) → Ahead x bs finds d.start e.start
  segment-ahead [] r d e f m = absurd (cc)
  segment-ahead (s ∷ ss) r d e f m = subst (λ (y : Extent). Ahead x bs finds y.start e.start) (some-inj (begun_extent s) d f) (go (split-among e (begun_extent s) (map begun_extent ss) m))
    where
      same : number_of x.order.slots s.start ≤ number_of x.order.slots s.start
      same = omega arith

      go : (e ≡ begun_extent s) ⊎ Among e (map begun_extent ss) → Ahead x bs finds (Some s.start) e.start
      go (inl g) = subst (λ (y : Extent). Ahead x bs finds (Some s.start) y.start) (sym g) same
      go (inr k) =
          let z = rises-all x.order.slots (number_of x.order.slots s.start) ss e (both-right (nat_lt 0 (number_of x.order.slots s.start)) (rises_from x.order.slots (number_of x.order.slots s.start) ss) r) k in
          subst (λ q. Ahead x bs finds (Some s.start) q) (sym z.1) (let lt = z.2 in omega (arith, lt))

  pub first-ahead : (d e : Extent) → slice_get (seen_extents v) 0 ≡ Some d → Among e (seen_extents v) → Ahead x bs finds d.start e.start
  first-ahead d e f m = go (is_never v.end) f m
    where
      go : (t : Bool) → slice_get (cons_option (cond t None (Some (record { start = None; early = false; end = v.end }))) (map begun_extent v.segments)) 0 ≡ Some d → Among e (cons_option (cond t None (Some (record { start = None; early = false; end = v.end }))) (map begun_extent v.segments)) → Ahead x bs finds d.start e.start
      go true g n = segment-ahead v.segments up d e g n
      go false g n = subst (λ (y : Extent). Ahead x bs finds y.start e.start) (some-inj (record { start = None; early = false; end = v.end }) d g) tt

-- the numbers at which the points of a lane in a block begin

pub among-first : (xs : List Extent) (d : Extent) → Some d ≡ slice_get xs 0 → Among d xs
among-first [] d e = absurd (cc)
among-first (x ∷ xs) d e = subst (λ y. Among y (x ∷ xs)) (some-inj x d (sym e)) here

no-first : (xs : List Extent) (e : Extent) → None ≡ slice_get xs 0 → Among e xs → ⊥
no-first [] e f m = none-among e m
no-first (x ∷ xs) e f m = absurd (cc)

module _ (x : Table) (bs : List Block) (v k p l : ℕ) (at : number_in x.lanes (owners.Range v k) ≡ Some l) where
  own-among : (m : ℕ) (e : Extent) → number_in x.lanes (owners.Range v k) ≡ Some m → Among e (extents_in x m p) → Among e (extents_in x l p)
  own-among m e f a = subst (λ n. Among e (extents_in x n p)) (some-inj m l (sym f ∙ at)) a

  pub begins-none : None ≡ slice_get (extents_in x l p) 0 → IsFirst (LaneBeginsAt x bs v k p) None
  begins-none f n (m, e, g, a, own) = no-first (extents_in x l p) e f (own-among m e g a)

  pub begins-first : InOrder x → FindsInstrs x bs → BeginsWithin x bs → (d : Extent) → Some d ≡ slice_get (extents_in x l p) 0 → (n : ℕ) → n ≡ number_at bs p d.start → IsFirst (LaneBeginsAt x bs v k p) (Some n)
  begins-first o finds within d f n own = ((l, d, at, among-first (extents_in x l p) d f, own), least)
    where
      rows : extents_in x l p ≡ seen_extents (rows_seen x.rows.rows.items l p)
      rows = extents-rows x l p

      least : (m : ℕ) → LaneBeginsAt x bs v k p m → n ≤ m
      least m (q, e, g, a, other) =
          let b = own-among q e g a in
          let ahead = first-ahead x bs finds (rows_seen x.rows.rows.items l p) (o l p) d e (ap (λ es. slice_get es 0) (sym rows) ∙ sym f) (subst (Among e) rows b) in
          let le = ahead-number x bs finds p d.start e.start (within l p d (among-first (extents_in x l p) d f)) (within l p e b) ahead in
          omega (arith, own, other, le)

pub begins-lane : (x : Table) (bs : List Block) (v p n count : ℕ) → lanes_count (slice_get x.lanes.ranges.items v) ≤ count → BeginsAt x bs v p n → Below (λ j m. LaneBeginsAt x bs v j p m) count n
begins-lane x bs v p n count le (e, i, own) =
    let lt = lane-below (slice_get x.lanes.ranges.items v) i.lane i.number i.numbered in
    (i.lane, omega (arith, lt, le), (i.number, e, i.numbered, i.among, own))

pub lane-begins : (x : Table) (bs : List Block) (v p n j : ℕ) → LaneBeginsAt x bs v j p n → BeginsAt x bs v p n
lane-begins x bs v p n j (l, e, at, m, own) = (e, record { lane = j; number = l; numbered = at; among = m }, own)

-- an instruction that touches a range is one of the function's

has-passing : (id : ℕ) (t : Instr → Bool) (is : List Instr) → has id (map (λ i. i.id) (filter t is)) ≡ true → has id (ids_of is) ≡ true
has-passing id t [] h = h
has-passing id t (i ∷ is) h = go (t i) h (has-passing id t is)
  where
    keep : (w : Bool) → (ns : List ℕ) → cond w true (has id ns) ≡ true → (has id ns ≡ true → has id (ids_of is) ≡ true) → cond w true (has id (ids_of is)) ≡ true
    keep true ns f ih = refl
    keep false ns f ih = ih f

    late : (w : Bool) → has id (ids_of is) ≡ true → cond w true (has id (ids_of is)) ≡ true
    late true f = refl
    late false f = f

    go : (u : Bool) → has id (map (λ i. i.id) (cond u (i ∷ filter t is) (filter t is))) ≡ true → (has id (map (λ i. i.id) (filter t is)) ≡ true → has id (ids_of is) ≡ true) → cond (nat_eq i.id id) true (has id (ids_of is)) ≡ true
    go true f ih = keep (nat_eq i.id id) (map (λ i. i.id) (filter t is)) f ih
    go false f ih = late (nat_eq i.id id) (ih f)

all-instrs : (bs : List Block) → map (λ i. i.id) (flat_map (λ b. b.instrs) bs) ≡ all_ids bs
all-instrs [] = refl
all-instrs (b ∷ bs) = map-append (λ i. i.id) b.instrs (flat_map (λ b. b.instrs) bs) ∙ ap (λ ns. ids_of b.instrs ++ ns) (all-instrs bs)

pub touching-known : (f : Function) (v id : ℕ) → has id (touching_ids f v) ≡ true → has id (all_ids f.blocks) ≡ true
touching-known f v id h = subst (λ ns. has id ns ≡ true) (all-instrs f.blocks) (has-passing id (touches v) (flat_map (λ b. b.instrs) f.blocks) h)
