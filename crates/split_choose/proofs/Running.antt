-- The labels of runs.
use Rattle.std.proofs.Common.{get_or, ◌≡◌, ◌∙◌, ◌⊎◌, inl, inr, ℕ, zero, suc, ◌+◌, ◌-◌, ◌<◌, List, [], ◌∷◌, ◌++◌, Bool, true, false, cond, refl, sym, ap, length, drop, take, arith, map, append_assoc, Option, None, Some, subst, add-one}
use Rattle.std.specs.Prelude.{◌&&◌, not, nat_eq, nat_lt, slice_get, slice_index, filter, flat_map}
use Rattle.std.specs.List.{list_any}
use Rattle.std.proofs.lemmas.Bool.{eqb-true, eq-eqb, lt-ltb, ltb-true, true≢false}
use Rattle.std.proofs.lemmas.List.{map-append}
use Rattle.target_base.specs.declared.types.Target.{Target}
use Rattle.mir_func.specs.declared.func.Instr.{Instr}
use Rattle.mir_func.specs.declared.func.Block.{Block}
use Rattle.mir_func.specs.Value.{Function}
use Rattle.mir_func.specs.Edits.{block_place, instr_place}
use Rattle.mir_func.specs.Binding.{does, is_terminator}
use Rattle.mir_meaning.specs.Points.{touches}
use Rattle.live_lanes.specs.declared.ask.labels.Mark.{Mark}
use Rattle.live_lanes.specs.declared.table.Table.{Table}
use Rattle.live_lanes.specs.Touching.{FindsInstrs}
use Rattle.split_choose.specs.declared.places.TouchedPlace.{TouchedPlace}
use Rattle.split_choose.proofs.Placed.{has-at}
use Rattle.split_choose.specs.Offers.{View, Touched, first_id, last_id, at_start, at_gap, touching, terminators, end_place, touched_places, gap_behind, blocks_between, run_marks}
use Rattle.split_choose.specs.Seen.{FindsPlaces}
use Rattle.split_choose.specs.Marks.{marks_in}
use Rattle.split_choose.specs.Places.{placed}
use Rattle.split_choose.specs.Runs.{IsBehind}
use Rattle.split_choose.proofs.Sited.{place-number}

-- one more block

take-next : {X : Type 0} (xs : List X) (k : ℕ) → take (suc k) xs ≡ take k xs ++ elim (slice_get xs k) [ None ↦ [] | Some x ↦ x ∷ [] ]
take-next [] zero = refl
take-next [] (suc k) = refl
take-next (x ∷ xs) zero = refl
take-next (x ∷ xs) (suc k) = ap (λ ys. x ∷ ys) (take-next xs k)

get-drop : {X : Type 0} (xs : List X) (n k : ℕ) → slice_get (drop n xs) k ≡ slice_get xs (n + k)
get-drop xs zero k = let e : k ≡ 0 + k = omega arith in ap (slice_get xs) e
get-drop [] (suc n) k = refl
get-drop (x ∷ xs) (suc n) k = let e : suc n + k ≡ suc (n + k) = omega arith in get-drop xs n k ∙ sym (ap (slice_get (x ∷ xs)) e)

starts-in : (o : Option Block) → map (λ (b : Block). at_start b.number 1) (elim o [ None ↦ [] | Some x ↦ x ∷ [] ]) ≡ marks_in o None 1
starts-in None = refl
starts-in (Some b) = refl

pub border_next : (bs : List Block) (a k : ℕ) (old mid new : List Mark) → mid ≡ old ++ map (λ b. at_start b.number 1) (take k (drop (a + 1) bs)) → new ≡ mid ++ marks_in (slice_get bs (a + 1 + k)) None 1
    → new ≡ old ++ map (λ b. at_start b.number 1) (take (k + 1) (drop (a + 1) bs))
border_next bs a k old mid new was now =
    let more : take (k + 1) (drop (a + 1) bs) ≡ take k (drop (a + 1) bs) ++ elim (slice_get (drop (a + 1) bs) k) [ None ↦ [] | Some x ↦ x ∷ [] ] = ap (λ n. take n (drop (a + 1) bs)) (add-one k) ∙ take-next (drop (a + 1) bs) k in
    let last : map (λ (b : Block). at_start b.number 1) (elim (slice_get (drop (a + 1) bs) k) [ None ↦ [] | Some x ↦ x ∷ [] ]) ≡ marks_in (slice_get bs (a + 1 + k)) None 1 = starts-in (slice_get (drop (a + 1) bs) k) ∙ ap (λ o. marks_in o None 1) (get-drop bs (a + 1) k) in
    now ∙ (ap (λ ms. ms ++ marks_in (slice_get bs (a + 1 + k)) None 1) was
    ∙ (append_assoc old (map (λ (b : Block). at_start b.number 1) (take k (drop (a + 1) bs))) (marks_in (slice_get bs (a + 1 + k)) None 1)
    ∙ (ap (λ ms. old ++ (map (λ (b : Block). at_start b.number 1) (take k (drop (a + 1) bs)) ++ ms)) (sym last)
    ∙ sym (ap (λ ms. old ++ ms) (ap (map (λ (b : Block). at_start b.number 1)) more ∙ map-append (λ (b : Block). at_start b.number 1) (take k (drop (a + 1) bs)) (elim (slice_get (drop (a + 1) bs) k) [ None ↦ [] | Some x ↦ x ∷ [] ]))))))

-- the gap behind an instruction

instr-within : (is : List Instr) (j : ℕ) (i : Instr) (id : ℕ) → slice_get is j ≡ Some i → i.id ≡ id → instr_place id is < length is
instr-within [] j i id e named = cc
instr-within (h ∷ is) zero i id e named = let q : h ≡ i = cc in let same : nat_eq h.id id ≡ true = eq-eqb h.id id (ap (λ (x : Instr). x.id) q ∙ named) in rw same (omega arith)
instr-within (h ∷ is) (suc j) i id e named = go (nat_eq h.id id) refl (instr-within is j i id e named)
  where
    go : (b : Bool) → nat_eq h.id id ≡ b → instr_place id is < length is → instr_place id (h ∷ is) < length (h ∷ is)
    go true f l = rw f (omega arith)
    go false f l = rw f (omega arith)

place-stands : (is : List Instr) (id : ℕ) → instr_place id is < length is → (i : Instr) × (slice_get is (instr_place id is) ≡ Some i) × (i.id ≡ id)
place-stands [] id h = absurd (omega arith)
place-stands (i ∷ is) id h = go (nat_eq i.id id) refl (place-stands is id)
  where
    go : (b : Bool) → nat_eq i.id id ≡ b → (instr_place id is < length is → (j : Instr) × (slice_get is (instr_place id is) ≡ Some j) × (j.id ≡ id)) → (j : Instr) × (slice_get (i ∷ is) (instr_place id (i ∷ is)) ≡ Some j) × (j.id ≡ id)
    go true f ih = (i, rw f refl, eqb-true i.id id f)
    go false f ih =
        let at : instr_place id (i ∷ is) ≡ suc (instr_place id is) = rw f (omega arith) in
        let l : instr_place id is < length is = omega arith in
        let r = ih l in
        (r.0, ap (slice_get (i ∷ is)) at ∙ r.1, r.2)

behind-in : (t : Target) (f : Function) (v : ℕ) (view : View) (x : Table) (bs : List Block) (finds : FindsInstrs x bs) (id : ℕ) (cs : List Block) (o m j : ℕ) (b : Block) (i : Instr) → ((k : ℕ) (c : Block) → slice_get cs k ≡ Some c → slice_get bs (o + k) ≡ Some c)
    → slice_get cs m ≡ Some b → slice_get b.instrs j ≡ Some i → i.id ≡ id → IsBehind x bs id (gap_behind t f v view id cs)
behind-in t f v view x bs finds id [] o m j b i at e stands named = cc
behind-in t f v view x bs finds id (c ∷ cs) o m j b i at e stands named = go (nat_lt (instr_place id c.instrs) (length c.instrs)) refl m e (λ n g. behind-in t f v view x bs finds id cs (suc o) n j b i next g stands named)
  where
    next : (k : ℕ) (d : Block) → slice_get cs k ≡ Some d → slice_get bs (suc o + k) ≡ Some d
    next k d g = let s : suc o + k ≡ o + suc k = omega arith in ap (slice_get bs) s ∙ at (suc k) d g

    first : slice_get bs o ≡ Some c
    first = let z : o ≡ o + 0 = omega arith in ap (slice_get bs) z ∙ at 0 c refl

    inside : slice_get (c ∷ cs) 0 ≡ Some b → instr_place id c.instrs < length c.instrs
    inside g = let q : b ≡ c = cc in subst (λ (d : Block). instr_place id d.instrs < length d.instrs) q (instr-within b.instrs j i id stands named)

    go : (r : Bool) → nat_lt (instr_place id c.instrs) (length c.instrs) ≡ r → (n : ℕ) → slice_get (c ∷ cs) n ≡ Some b → ((k : ℕ) → slice_get cs k ≡ Some b → IsBehind x bs id (gap_behind t f v view id cs)) → IsBehind x bs id (gap_behind t f v view id (c ∷ cs))
    go true h n g ih =
        let r = place-stands c.instrs id (ltb-true (instr_place id c.instrs) (length c.instrs) h) in
        record { position = o; place = instr_place id c.instrs; block = c; instr = r.0; finds = finds; found = first; stands = r.1; named = r.2; behind = ap (λ r. cond r (first_id (drop (instr_place id c.instrs + 1) c.instrs)) (gap_behind t f v view id cs)) h }
    go false h zero g ih = absurd (true≢false (sym (lt-ltb (instr_place id c.instrs) (length c.instrs) (inside g)) ∙ h))
    go false h (suc n) g ih = subst (IsBehind x bs id) (sym (ap (λ r. cond r (first_id (drop (instr_place id c.instrs + 1) c.instrs)) (gap_behind t f v view id cs)) h)) (ih n g)

-- where touched places stand

record Stands (bs : List Block) (p : Touched) : Type 0 where
  position : ℕ
  block : Block
  found : slice_get bs position ≡ Some block
  number : block.number ≡ p.block
  instr : p.is_end ≡ false → (j : ℕ) × (i : Instr) × (slice_get block.instrs j ≡ Some i) × (i.id ≡ p.last)

in-append : {X : Type 0} (xs ys : List X) (n : ℕ) (x : X) → slice_get (xs ++ ys) n ≡ Some x → ((k : ℕ) × (slice_get xs k ≡ Some x)) ⊎ ((k : ℕ) × (slice_get ys k ≡ Some x))
in-append [] ys n x e = inr (n, e)
in-append (z ∷ xs) ys zero x e = inl (0, e)
in-append (z ∷ xs) ys (suc n) x e = elim (in-append xs ys n x e) [ inl r ↦ inl (suc r.0, r.1) | inr r ↦ inr r ]

in-filter : {X : Type 0} (f : X → Bool) (xs : List X) (n : ℕ) (x : X) → slice_get (filter f xs) n ≡ Some x → (k : ℕ) × (slice_get xs k ≡ Some x)
in-filter f [] n x e = cc
in-filter {X} f (y ∷ xs) n x e = go (f y) refl n e (in-filter f xs)
  where
    go : (b : Bool) → f y ≡ b → (m : ℕ) → slice_get (filter f (y ∷ xs)) m ≡ Some x → ((m : ℕ) (z : X) → slice_get (filter f xs) m ≡ Some z → (k : ℕ) × (slice_get xs k ≡ Some z)) → (k : ℕ) × (slice_get (y ∷ xs) k ≡ Some x)
    go true g zero h ih = (0, rw g at h)
    go true g (suc m) h ih = let r = ih m x (rw g at h) in (suc r.0, r.1)
    go false g m h ih = let r = ih m x (rw g at h) in (suc r.0, r.1)

in-map : {X Y : Type 0} (f : X → Y) (xs : List X) (n : ℕ) (y : Y) → slice_get (map f xs) n ≡ Some y → (x : X) × (slice_get xs n ≡ Some x) × (f x ≡ y)
in-map f [] n y e = cc
in-map f (x ∷ xs) zero y e = let q : f x ≡ y = cc in (x, refl, q)
in-map f (x ∷ xs) (suc n) y e = in-map f xs n y e

module _ (t : Target) (f : Function) (v : ℕ) (view : View) where
  end-stands : (bs : List Block) (o : ℕ) (b : Block) → slice_get bs o ≡ Some b → (is : List Instr) (n : ℕ) (p : Touched) → slice_get (end_place t f v view b is) n ≡ Some p → Stands bs p
  end-stands bs o b at [] n p e = cc
  end-stands bs o b at (i ∷ is) n p e = go (list_any (touches v) (i ∷ is)) refl n e
    where
      whole : Touched
      whole = record { block = b.number; first = i.id; last = last_id i.id is; is_end = true }

      go : (c : Bool) → list_any (touches v) (i ∷ is) ≡ c → (m : ℕ) → slice_get (end_place t f v view b (i ∷ is)) m ≡ Some p → Stands bs p
      go true g zero h =
          let q : Some whole ≡ Some p = rw g at h in
          let w : whole ≡ p = cc in
          subst (Stands bs) w (record { position = o; block = b; found = at; number = refl; instr = λ z. absurd (true≢false z) })
      go true g (suc m) h = let q : None ≡ Some p = rw g at h in cc
      go false g m h = let q : None ≡ Some p = rw g at h in cc

  places-stand : (bs cs : List Block) (o : ℕ) → ((j : ℕ) (b : Block) → slice_get cs j ≡ Some b → slice_get bs (o + j) ≡ Some b) → (n : ℕ) (p : Touched)
      → slice_get (flat_map (λ b. map (λ i. record { block = b.number; first = i.id; last = i.id; is_end = false }) (touching t f v view b) ++ end_place t f v view b (terminators t f v view b)) cs) n ≡ Some p → Stands bs p
  places-stand bs [] o at n p e = cc
  places-stand bs (b ∷ cs) o at n p e =
      go (in-append (map one (touching t f v view b) ++ end_place t f v view b (terminators t f v view b)) rest n p e) (λ m h. places-stand bs cs (suc o) next m p h)
    where
      one : Instr → Touched
      one i = record { block = b.number; first = i.id; last = i.id; is_end = false }

      rest : List Touched
      rest = flat_map (λ c. map (λ i. record { block = c.number; first = i.id; last = i.id; is_end = false }) (touching t f v view c) ++ end_place t f v view c (terminators t f v view c)) cs

      next : (j : ℕ) (c : Block) → slice_get cs j ≡ Some c → slice_get bs (suc o + j) ≡ Some c
      next j c g = let s : suc o + j ≡ o + suc j = omega arith in ap (slice_get bs) s ∙ at (suc j) c g

      first : slice_get bs o ≡ Some b
      first = let z : o ≡ o + 0 = omega arith in ap (slice_get bs) z ∙ at 0 b refl

      ones : (m : ℕ) → slice_get (map one (touching t f v view b)) m ≡ Some p → Stands bs p
      ones m h =
          let r = in-map one (touching t f v view b) m p h in
          let k = in-filter (λ (i : Instr). touches v i && not (does is_terminator t i)) b.instrs m r.0 r.1 in
          subst (Stands bs) r.2 (record { position = o; block = b; found = first; number = refl; instr = λ z. (k.0, r.0, k.1, refl) })

      inside : ((k : ℕ) × (slice_get (map one (touching t f v view b)) k ≡ Some p)) ⊎ ((k : ℕ) × (slice_get (end_place t f v view b (terminators t f v view b)) k ≡ Some p)) → Stands bs p
      inside (inl r) = ones r.0 r.1
      inside (inr r) = end-stands bs o b first (terminators t f v view b) r.0 p r.1

      go : ((k : ℕ) × (slice_get (map one (touching t f v view b) ++ end_place t f v view b (terminators t f v view b)) k ≡ Some p)) ⊎ ((k : ℕ) × (slice_get rest k ≡ Some p))
          → ((m : ℕ) → slice_get rest m ≡ Some p → Stands bs p) → Stands bs p
      go (inl r) ih = inside (in-append (map one (touching t f v view b)) (end_place t f v view b (terminators t f v view b)) r.0 p r.1)
      go (inr r) ih = ih r.0 r.1

-- where the instruction before a gap is found

pub home-behind : (x : Table) (bs : List Block) (id : ℕ) (before : Option ℕ) (r : IsBehind x bs id before) → slice_index x.order.block_of.items id ≡ r.position
home-behind x bs id before r = ap (slice_index x.order.block_of.items) (sym r.named) ∙ r.finds.homes r.position r.block r.instr.id r.found (has-at r.block.instrs r.place r.instr r.stands)

-- the marks of a run

module _ (t : Target) (f : Function) (x : Table) (v : ℕ) (view : View) (finds : FindsPlaces t f x v) where
  touched-stands : (n : ℕ) (p : Touched) → slice_get (touched_places t f v view) n ≡ Some p → Stands f.blocks p
  touched-stands n p e = places-stand t f v view f.blocks f.blocks 0 (λ j b g. (let z : 0 + j ≡ j = omega arith in ap (slice_get f.blocks) z ∙ g)) n p e

  position-of : (p : Touched) (s : Stands f.blocks p) → slice_get f.blocks (block_place p.block f.blocks) ≡ Some s.block
  position-of p s = ap (slice_get f.blocks) (ap (λ n. block_place n f.blocks) (sym s.number) ∙ place-number s.block.number s.position f.blocks (finds.placed s.position s.block s.found)) ∙ s.found

  mark-of : (p : Touched) (s : Stands f.blocks p) (before : Option ℕ) (label : ℕ) → marks_in (slice_get f.blocks (block_place p.block f.blocks)) (Some before) label ≡ at_gap p.block before label ∷ []
  mark-of p s before label = ap (λ o. marks_in o (Some before) label) (position-of p s) ∙ ap (λ n. at_gap n before label ∷ []) s.number

  pub run-behind : (m : ℕ) (q : Touched) → slice_get (touched_places t f v view) m ≡ Some q → q.is_end ≡ false → IsBehind x f.blocks q.last (gap_behind t f v view q.last f.blocks)
  run-behind m q e open-end =
      let s = touched-stands m q e in
      let i = s.instr open-end in
      behind-in t f v view x f.blocks finds.instrs q.last f.blocks 0 s.position i.0 s.block i.1 (λ j b g. (let z : 0 + j ≡ j = omega arith in ap (slice_get f.blocks) z ∙ g)) s.found i.2 i.3

  pub run-marked : (n m : ℕ) (p q : Touched) (a z : TouchedPlace) (old first mid new : List Mark) → slice_get (touched_places t f v view) n ≡ Some p → a ≡ placed f.blocks p → slice_get (touched_places t f v view) m ≡ Some q → z ≡ placed f.blocks q
      → first ≡ old ++ marks_in (slice_get f.blocks a.position) (Some (Some a.first)) 1
      → mid ≡ first ++ map (λ b. at_start b.number 1) (take (z.position - a.position) (drop (a.position + 1) f.blocks))
      → ((before : Option ℕ) → (z.is_end ≡ false → IsBehind x f.blocks z.last before) → new ≡ mid ++ cond z.is_end [] (marks_in (slice_get f.blocks z.position) (Some before) 0))
      → new ≡ old ++ run_marks t f v view (p, q)
  run-marked n m p q a z old first mid new e is-a g is-z one two three = done (subst (λ r. first ≡ old ++ marks_in (slice_get f.blocks r.position) (Some (Some r.first)) 1) is-a one)
      (subst (λ r. mid ≡ first ++ map (λ b. at_start b.number 1) (take (r.0.position - r.1.position) (drop (r.1.position + 1) f.blocks))) both two)
      (subst (λ r. (before : Option ℕ) → (r.is_end ≡ false → IsBehind x f.blocks r.last before) → new ≡ mid ++ cond r.is_end [] (marks_in (slice_get f.blocks r.position) (Some before) 0)) is-z three)
    where
      both : ◌≡◌ {A = TouchedPlace × TouchedPlace} (z, a) (placed f.blocks q, placed f.blocks p)
      both = ap (λ r. (r, a)) is-z ∙ ap (λ r. (placed f.blocks q, r)) is-a

      done : first ≡ old ++ marks_in (slice_get f.blocks (block_place p.block f.blocks)) (Some (Some p.first)) 1
          → mid ≡ first ++ map (λ b. at_start b.number 1) (blocks_between t f v view p.block q.block)
          → ((before : Option ℕ) → (q.is_end ≡ false → IsBehind x f.blocks q.last before) → new ≡ mid ++ cond q.is_end [] (marks_in (slice_get f.blocks (block_place q.block f.blocks)) (Some before) 0))
          → new ≡ old ++ run_marks t f v view (p, q)
      done one two three =
          let starts = map (λ (b : Block). at_start b.number 1) (blocks_between t f v view p.block q.block) in
          let gap = gap_behind t f v view q.last f.blocks in
          let end = cond q.is_end [] (at_gap q.block gap 0 ∷ []) in
          let begun : first ≡ old ++ at_gap p.block (Some p.first) 1 ∷ [] = one ∙ ap (λ ms. old ++ ms) (mark-of p (touched-stands n p e) (Some p.first) 1) in
          let ended : new ≡ mid ++ end = three gap (run-behind m q g) ∙ ap (λ ms. mid ++ cond q.is_end [] ms) (mark-of q (touched-stands m q g) gap 0) in
          ended ∙ (ap (λ ms. ms ++ end) two ∙ (ap (λ ms. (ms ++ starts) ++ end) begun
          ∙ (append_assoc (old ++ at_gap p.block (Some p.first) 1 ∷ []) starts end ∙ append_assoc old (at_gap p.block (Some p.first) 1 ∷ []) (starts ++ end))))

pub placed-at : (bs : List Block) (ps : List TouchedPlace) (qs : List Touched) (n : ℕ) (q : Touched) (d : TouchedPlace) → ps ≡ map (placed bs) qs → slice_get qs n ≡ Some q → get_or ps n d ≡ placed bs q
placed-at bs ps qs n q d same e = ap (λ rs. get_or rs n d) same ∙ go qs n e
  where
    go : (rs : List Touched) (m : ℕ) → slice_get rs m ≡ Some q → get_or (map (placed bs) rs) m d ≡ placed bs q
    go [] m h = cc
    go (r ∷ rs) zero h = let w : r ≡ q = cc in ap (placed bs) w
    go (r ∷ rs) (suc m) h = go rs m h
