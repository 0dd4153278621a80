-- Where a table has the instructions and the blocks of a function, over edits.
use Rattle.std.proofs.Common.{◌≡◌, ◌⊎◌, inl, inr, ◌∷◌, ◌++◌, ◌∙◌, ◌+◌, ◌<◌, ◌≤◌, not, ℕ, zero, suc, Bool, true, false, cond, length, List, [], Option, Some, None, refl, sym, ap, subst, map, take, drop, append_assoc, arith, eqb-true, ⊎_elim}
use Rattle.std.specs.Prelude.{filter, nat_eq, nat_lt, option_map, slice_get, slice_index}
use Rattle.std.specs.List.{insert, remove}
use Rattle.std.specs.Ordering.{nat_cmp}
use Rattle.std.specs.BTreeMap.{get}
use Rattle.std.proofs.lemmas.Bool.{le-ltb}
use Rattle.target_base.specs.declared.types.OpId.{OpId}
use Rattle.target_base.specs.declared.types.Target.{Target}
use Rattle.slot_index.specs.Order.{ids, place, place_after, put_after}
use Rattle.mir_func.specs.declared.func.Block.{Block}
use Rattle.mir_func.specs.declared.func.Gap.{Gap}
use Rattle.mir_func.specs.declared.func.Instr.{Instr}
use Rattle.mir_func.specs.declared.func.Operand.{Operand}
use Rattle.mir_func.specs.Value.{Function, IsFunction, id_count, id_total}
use Rattle.mir_func.specs.Edits.{HasBlock, block_place, changed_in, cut, deleted, gap_place, inserted, instr_place, made, put, update}
use Rattle.mir_func.specs.At.{instrs_at}
use Rattle.mir_func.specs.Binding.{does, is_terminator}
use Rattle.mir_meaning.specs.Paths.{has}
use Rattle.live_lanes.specs.declared.compute.flow.BlockFlow.{BlockFlow}
use Rattle.live_lanes.specs.declared.table.Table.{Table}
use Rattle.live_lanes.specs.Flowing.{AreWays, edge_places, exits_at, terminator_ids, terminators_at}
use Rattle.live_lanes.specs.Ordered.{AreHomes, AreSingle, all_ids, ids_of, last_id, place_of, times}
use Rattle.live_lanes.proofs.Few.{few-points}
use Rattle.live_lanes.proofs.Homes.{ids-below}
use Rattle.live_lanes.proofs.Ordered.{behind-last, once-single, single-left, times-both}
use Rattle.live_laws.proofs.Effects.Moving.{some-same}
use Rattle.edit_laws.specs.Edits.{Replace, Erase, replaced, with_op, KeepsWays}
use Rattle.edit_laws.specs.Ordering.{IsOrdered, ids_before, ids_before_gap, IsPutInto, IsTakenOut, PutOrderLaw, ReplacedOrderLaw, ErasedOrderLaw, LaidOutLaw}
use Rattle.edit_laws.proofs.Aligned.{AreInstrs, no_instrs, instr_stays, instr_changes, instr_goes, instr_comes, AreBlocks, no_blocks, block_stays}
use Rattle.edit_laws.proofs.Edited.{Never, NeverBoth}
use Rattle.edit_laws.proofs.ErasedLast.{has-first, has-later, head-other, tail-none, total-step}
use Rattle.edit_laws.proofs.Needs.{get-map}
use Rattle.edit_laws.proofs.Placed.{BothAt, ComesInto, GoesFrom, blocks-placed, put-blocks, Named, erase-blocks, Becomes, change-blocks}

-- ways between blocks

abbrev lead : Bool → ℕ → List ℕ → List ℕ
lead u x xs = cond u (x ∷ xs) xs

terminator-step : (t : Target) (i : Instr) (is : List Instr) → terminator_ids t (i ∷ is) ≡ lead (does is_terminator t i) i.id (terminator_ids t is)
terminator-step t i is = go (does is_terminator t i)
  where
    go : (u : Bool) → map (λ (j : Instr). j.id) (cond u (i ∷ filter (does is_terminator t) is) (filter (does is_terminator t) is)) ≡ lead u i.id (terminator_ids t is)
    go true = refl
    go false = refl

module _ (t : Target) (Goes Comes : Instr → Type 0) (Both : Instr → Instr → Type 0) where
  -- terminators stay
  pub record KeepsTerminators : Type 0 where
    pub goes : (i : Instr) → Goes i → does is_terminator t i ≡ false
    pub comes : (j : Instr) → Comes j → does is_terminator t j ≡ false
    pub both : (i j : Instr) → Both i j → (i.id ≡ j.id) × (does is_terminator t i ≡ does is_terminator t j)

  place-kept : (n : ℕ) {bs cs : List Block} → AreBlocks Goes Comes Both bs cs → place_of n bs ≡ place_of n cs
  place-kept n no_blocks = refl
  place-kept n (block_stays number successors a rest) = λ k. cond (nat_eq (number k) n) (Some 0) (option_map (λ x. suc x) (place-kept n rest k))

  length-kept : {bs cs : List Block} → AreBlocks Goes Comes Both bs cs → length bs ≡ length cs
  length-kept no_blocks = refl
  length-kept (block_stays number successors a rest) = ap (λ n. suc n) (length-kept rest)

  exits-kept : (at : ℕ → Option ℕ) {bs cs : List Block} → AreBlocks Goes Comes Both bs cs → (b : ℕ) → exits_at at bs b ≡ exits_at at cs b
  exits-kept at no_blocks b = refl
  exits-kept at (block_stays number successors a rest) zero = λ k. edge_places at (successors k)
  exits-kept at (block_stays number successors a rest) (suc b) = exits-kept at rest b

  module _ (keeps : KeepsTerminators) where
    ids-kept : {is js : List Instr} → AreInstrs Goes Comes Both is js → terminator_ids t is ≡ terminator_ids t js
    ids-kept no_instrs = refl
    ids-kept (instr_stays {i = i} {is = is} {js = js} a) = terminator-step t i is ∙ (ap (lead (does is_terminator t i) i.id) (ids-kept a) ∙ sym (terminator-step t i js))
    ids-kept (instr_changes {i = i} {j = j} {is = is} {js = js} h a) =
        terminator-step t i is ∙ ((λ k. lead ((keeps.both i j h).1 k) ((keeps.both i j h).0 k) (ids-kept a k)) ∙ sym (terminator-step t j js))
    ids-kept (instr_goes {i = i} {is = is} h a) = terminator-step t i is ∙ (ap (λ u. lead u i.id (terminator_ids t is)) (keeps.goes i h) ∙ ids-kept a)
    ids-kept (instr_comes {j = j} {js = js} h a) = ids-kept a ∙ sym (terminator-step t j js ∙ ap (λ u. lead u j.id (terminator_ids t js)) (keeps.comes j h))

    terminators-kept : {bs cs : List Block} → AreBlocks Goes Comes Both bs cs → (b : ℕ) → terminators_at t bs b ≡ terminators_at t cs b
    terminators-kept no_blocks b = refl
    terminators-kept (block_stays number successors a rest) zero = ids-kept a
    terminators-kept (block_stays number successors a rest) (suc b) = terminators-kept rest b

    ways-kept : (bs cs : List Block) (flow : List BlockFlow) → AreBlocks Goes Comes Both bs cs → AreWays t (λ n. place_of n bs) bs flow → AreWays t (λ n. place_of n cs) cs flow
    ways-kept bs cs flow a w =
        let old : ℕ → Option ℕ = λ n. place_of n bs in
        let new : ℕ → Option ℕ = λ n. place_of n cs in
        let same : old ≡ new = λ k. λ n. place-kept n a k in
        let exits : (b : ℕ) → exits_at old bs b ≡ exits_at new cs b = λ b. ap (λ (p : ℕ → Option ℕ). exits_at p bs b) same ∙ exits-kept new a b in
        record {
          predecessors = λ x b h. w.predecessors x b (subst (λ n. x < n) (sym (length-kept a)) h) ∙ ap (has x) (exits b);
          successors = λ b x. w.successors b x ∙ ap (has x) (exits b);
          terminators = λ b. w.terminators b ∙ terminators-kept a b;
          blocks = w.blocks ∙ length-kept a;
        }

-- the ids of instructions

ids-both : (is js : List Instr) → ids_of (is ++ js) ≡ ids_of is ++ ids_of js
ids-both [] js = refl
ids-both (i ∷ is) js = ap (λ ns. i.id ∷ ns) (ids-both is js)

pub ids-split : (n : ℕ) (is : List Instr) → ids_of is ≡ ids_of (take n is) ++ ids_of (drop n is)
ids-split zero [] = refl
ids-split zero (i ∷ is) = refl
ids-split (suc n) [] = refl
ids-split (suc n) (i ∷ is) = ap (λ ns. i.id ∷ ns) (ids-split n is)

ids-updated : (h : Instr → Instr) → ((i : Instr) → (h i).id ≡ i.id) → (n : ℕ) (is : List Instr) → ids_of (update n h is) ≡ ids_of is
ids-updated h keeps n [] = refl
ids-updated h keeps zero (i ∷ is) = ap (λ m. m ∷ ids_of is) (keeps i)
ids-updated h keeps (suc n) (i ∷ is) = ap (λ ns. i.id ∷ ns) (ids-updated h keeps n is)

all-updated : (id : ℕ) (op : OpId) (os : List Operand) (bs : List Block) → all_ids (map (changed_in id (with_op op os)) bs) ≡ all_ids bs
all-updated id op os [] = refl
all-updated id op os (b ∷ bs) = λ k. ids-updated (with_op op os) (λ i. refl) (instr_place id b.instrs) b.instrs k ++ all-updated id op os bs k

drop-none : {X : Type 0} (xs : List X) → drop 0 xs ≡ xs
drop-none [] = refl
drop-none (x ∷ xs) = refl

one-more : (n : ℕ) → 1 + n ≡ suc n
one-more n = omega arith

-- homes

some-true : {X : Type 0} (u : Bool) (a b : Bool) → cond u true a ≡ true → (a ≡ true → X ⊎ (b ≡ true)) → X ⊎ (cond u true b ≡ true)
some-true true a b h rest = inr refl
some-true false a b h rest = rest h

has-own : (x id : ℕ) (xs : List ℕ) → has id (x ∷ xs) ≡ true → (x ≡ id) ⊎ (has id xs ≡ true)
has-own x id xs h = go (nat_eq x id) refl h
  where
    go : (u : Bool) → nat_eq x id ≡ u → cond u true (has id xs) ≡ true → (x ≡ id) ⊎ (has id xs ≡ true)
    go true e h = inl (eqb-true x id e)
    go false e h = inr h

has-put : (x : Instr) (id n : ℕ) (is : List Instr) → has id (ids_of (take n is ++ x ∷ drop n is)) ≡ true → (x.id ≡ id) ⊎ (has id (ids_of is) ≡ true)
has-put x id zero [] h = has-own x.id id [] h
has-put x id zero (i ∷ is) h = has-own x.id id (ids_of (i ∷ is)) h
has-put x id (suc n) [] h = has-own x.id id [] h
has-put x id (suc n) (i ∷ is) h = some-true (nat_eq i.id id) (has id (ids_of (take n is ++ x ∷ drop n is))) (has id (ids_of is)) h (has-put x id n is)

has-cut : (id n : ℕ) (is : List Instr) → has id (ids_of (take n is ++ drop (suc n) is)) ≡ true → has id (ids_of is) ≡ true
has-cut id zero [] h = h
has-cut id (suc n) [] h = h
has-cut id zero (i ∷ is) h = has-later i.id (ids_of is) id (subst (λ js. has id (ids_of js) ≡ true) (drop-none is) h)
has-cut id (suc n) (i ∷ is) h = go (nat_eq i.id id) h (has-cut id n is)
  where
    go : (u : Bool) → cond u true (has id (ids_of (take n is ++ drop (suc n) is))) ≡ true → (has id (ids_of (take n is ++ drop (suc n) is)) ≡ true → has id (ids_of is) ≡ true) → cond u true (has id (ids_of is)) ≡ true
    go true g rest = refl
    go false g rest = rest g

-- an id stands in the block at a position
abbrev HasIn : List Block → ℕ → ℕ → Type 0
HasIn bs k id = (b : Block) × (slice_get bs k ≡ Some b) × (has id (ids_of b.instrs) ≡ true)

where-put : (x : Instr) (before : Option ℕ) (id p : ℕ) (bs : List Block) (k : ℕ) (c : Block) → slice_get (update p (put before x) bs) k ≡ Some c → has id (ids_of c.instrs) ≡ true → ((x.id ≡ id) × (k ≡ p)) ⊎ HasIn bs k id
where-put x before id p [] k c e h = absurd (cc)
where-put x before id zero (b ∷ bs) zero c e h =
    let same : put before x b ≡ c = some-same (put before x b) c e in
    let own : has id (ids_of (put before x b).instrs) ≡ true = subst (λ (d : Block). has id (ids_of d.instrs) ≡ true) (sym same) h in
    ⊎_elim (λ (o : x.id ≡ id). inl (o, refl)) (λ (o : has id (ids_of b.instrs) ≡ true). inr (b, refl, o)) (has-put x id (gap_place before b.instrs) b.instrs own)
where-put x before id zero (b ∷ bs) (suc k) c e h = inr (c, e, h)
where-put x before id (suc p) (b ∷ bs) zero c e h = inr (c, e, h)
where-put x before id (suc p) (b ∷ bs) (suc k) c e h = ⊎_elim (λ (o : (x.id ≡ id) × (k ≡ p)). inl (o.0, ap (λ n. suc n) o.1)) (λ (o : HasIn bs k id). inr o) (where-put x before id p bs k c e h)

-- the next id stands nowhere

none-counted : (x : ℕ) (is : List Instr) → id_count x is ≡ 0 → has x (ids_of is) ≡ false
none-counted x [] none = refl
none-counted x (j ∷ is) none = ap (λ u. cond u true (has x (ids_of is))) (head-other x j is none) ∙ none-counted x is (tail-none x j is none)

none-at : (x : ℕ) (bs : List Block) → id_total x bs ≡ 0 → (k : ℕ) (b : Block) → slice_get bs k ≡ Some b → has x (ids_of b.instrs) ≡ false
none-at x [] none k b e = absurd (cc)
none-at x (c ∷ bs) none zero b e =
    let none' : id_count x c.instrs ≡ 0 = omega (arith, total-step x c bs, none) in
    subst (λ (d : Block). has x (ids_of d.instrs) ≡ false) (some-same c b e) (none-counted x c.instrs none')
none-at x (c ∷ bs) none (suc k) b e =
    let none' : id_total x bs ≡ 0 = omega (arith, total-step x c bs, none) in
    none-at x bs none' k b e

pub next-none : (bs : List Block) (n : ℕ) → IsFunction bs n → id_total n bs ≡ 0
next-none bs n f = go (nat_lt n n) (le-ltb n n (omega arith)) (f.once n)
  where
    go : (u : Bool) → u ≡ false → id_total n bs ≤ cond u 1 0 → id_total n bs ≡ 0
    go true e h = absurd (cc)
    go false e h = omega (arith, h)

-- an id that is put behind the last of some

place-left : (z : ℕ) (xs ys : List ℕ) → place z xs < length xs → place z (xs ++ ys) ≡ place z xs
place-left z [] ys h = absurd (omega (arith, h))
place-left z (x ∷ xs) ys h = go (nat_eq x z) h (place-left z xs ys)
  where
    go : (u : Bool) → cond (not u) (1 + place z xs) 0 < suc (length xs) → (place z xs < length xs → place z (xs ++ ys) ≡ place z xs) → cond (not u) (1 + place z (xs ++ ys)) 0 ≡ cond (not u) (1 + place z xs) 0
    go true h rest = refl
    go false h rest = let less : place z xs < length xs = omega (arith, h) in ap (λ n. 1 + n) (rest less)

pub after-length : (xs ys : List ℕ) → AreSingle xs → place_after (last_id xs) (xs ++ ys) ≡ length xs
after-length xs ys single = go (last_id xs) (behind-last xs single)
  where
    go : (q : Option ℕ) → place_after q xs ≡ length xs → place_after q (xs ++ ys) ≡ length xs
    go None h = h
    go (Some z) h =
        let own : place z xs + 1 ≡ length xs = h in
        let less : place z xs < length xs = omega (arith, own) in
        ap (λ n. n + 1) (place-left z xs ys less) ∙ own

insert-behind : (xs ys : List ℕ) (x : ℕ) → insert (xs ++ ys) (length xs) x ≡ xs ++ x ∷ ys
insert-behind [] [] x = refl
insert-behind [] (y ∷ ys) x = refl
insert-behind (z ∷ xs) ys x = ap (λ zs. z ∷ zs) (insert-behind xs ys x)

put-behind : (xs ys : List ℕ) (id : ℕ) → AreSingle (xs ++ ys) → put_after (last_id xs) id (xs ++ ys) ≡ xs ++ id ∷ ys
put-behind xs ys id single = ap (λ n. insert (xs ++ ys) n id) (after-length xs ys (single-left xs ys single)) ∙ insert-behind xs ys id

-- the ids on both sides of a place
abbrev Splits : Instr → Option ℕ → ℕ → List Block → Type 0
Splits x before p bs =
    let xs = ids_before bs p (gap_place before (instrs_at bs p)) in
    (ys : List ℕ) × (all_ids bs ≡ xs ++ ys) × (all_ids (update p (put before x) bs) ≡ xs ++ x.id ∷ ys)

put-splits : (x : Instr) (before : Option ℕ) (p : ℕ) (bs : List Block) → p < length bs → Splits x before p bs
put-splits x before p [] h = absurd (omega (arith, h))
put-splits x before zero (b ∷ bs) h =
    let n = gap_place before b.instrs in
    let is = b.instrs in (
      ids_of (drop n is) ++ all_ids bs,
      ap (λ ns. ns ++ all_ids bs) (ids-split n is) ∙ append_assoc (ids_of (take n is)) (ids_of (drop n is)) (all_ids bs),
      ap (λ ns. ns ++ all_ids bs) (ids-both (take n is) (x ∷ drop n is)) ∙ append_assoc (ids_of (take n is)) (x.id ∷ ids_of (drop n is)) (all_ids bs),
    )
put-splits x before (suc p) (b ∷ bs) h =
    let less : p < length bs = omega (arith, h) in
    let z : Splits x before p bs = put-splits x before p bs less in
    let own = ids_of b.instrs in
    let front = all_ids (take p bs) in
    let inner = ids_of (take (gap_place before (instrs_at bs p)) (instrs_at bs p)) in
    let behind : (zs : List ℕ) → own ++ ((front ++ inner) ++ zs) ≡ ((own ++ front) ++ inner) ++ zs = λ zs. sym (append_assoc own (front ++ inner) zs) ∙ ap (λ ns. ns ++ zs) (sym (append_assoc own front inner)) in
    (z.0, ap (λ ns. own ++ ns) z.1 ∙ behind z.0, ap (λ ns. own ++ ns) z.2 ∙ behind (x.id ∷ z.0))

-- an id that goes

abbrev without : ℕ → List ℕ → List ℕ
without id [] = []
without id (x ∷ xs) = cond (nat_eq x id) xs (x ∷ without id xs)

removed-is : (id : ℕ) (xs : List ℕ) → remove xs (place id xs) ≡ without id xs
removed-is id [] = refl
removed-is id (x ∷ xs) = go (nat_eq x id) (removed-is id xs)
  where
    go : (u : Bool) → remove xs (place id xs) ≡ without id xs → remove (x ∷ xs) (cond (not u) (1 + place id xs) 0) ≡ cond u xs (x ∷ without id xs)
    go true rest = drop-none xs
    go false rest = ap (λ n. remove (x ∷ xs) n) (one-more (place id xs)) ∙ ap (λ ys. x ∷ ys) rest

ids-cut : (id : ℕ) (is : List Instr) → ids_of (remove is (instr_place id is)) ≡ without id (ids_of is)
ids-cut id [] = refl
ids-cut id (i ∷ is) = go (nat_eq i.id id) (ids-cut id is)
  where
    go : (u : Bool) → ids_of (remove is (instr_place id is)) ≡ without id (ids_of is) → ids_of (remove (i ∷ is) (cond (not u) (1 + instr_place id is) 0)) ≡ cond u (ids_of is) (i.id ∷ without id (ids_of is))
    go true rest = ap ids_of (drop-none is)
    go false rest = ap (λ n. ids_of (remove (i ∷ is) n)) (one-more (instr_place id is)) ∙ ap (λ ys. i.id ∷ ys) rest

without-none : (id : ℕ) (xs : List ℕ) → times id xs ≡ 0 → without id xs ≡ xs
without-none id [] none = refl
without-none id (x ∷ xs) none = go (nat_eq x id) none (without-none id xs)
  where
    go : (u : Bool) → cond u (suc (times id xs)) (times id xs) ≡ 0 → (times id xs ≡ 0 → without id xs ≡ xs) → cond u xs (x ∷ without id xs) ≡ x ∷ xs
    go true h rest = absurd (omega (arith, h))
    go false h rest = ap (λ ys. x ∷ ys) (rest h)

without-both : (id : ℕ) (xs ys : List ℕ) → times id (xs ++ ys) ≤ 1 → without id (xs ++ ys) ≡ without id xs ++ without id ys
without-both id [] ys few = refl
without-both id (x ∷ xs) ys few = go (nat_eq x id) few (without-both id xs ys)
  where
    go : (u : Bool) → cond u (suc (times id (xs ++ ys))) (times id (xs ++ ys)) ≤ 1 → (times id (xs ++ ys) ≤ 1 → without id (xs ++ ys) ≡ without id xs ++ without id ys) → cond u (xs ++ ys) (x ∷ without id (xs ++ ys)) ≡ cond u xs (x ∷ without id xs) ++ without id ys
    go true h rest = let none : times id ys ≡ 0 = omega (arith, h, times-both id xs ys) in ap (λ zs. xs ++ zs) (sym (without-none id ys none))
    go false h rest = ap (λ zs. x ∷ zs) (rest h)

all-cut : (id : ℕ) (bs : List Block) → times id (all_ids bs) ≤ 1 → all_ids (map (cut id) bs) ≡ without id (all_ids bs)
all-cut id [] few = refl
all-cut id (b ∷ bs) few =
    let fewer : times id (all_ids bs) ≤ 1 = omega (arith, few, times-both id (ids_of b.instrs) (all_ids bs)) in
    (λ k. ids-cut id b.instrs k ++ all-cut id bs fewer k) ∙ sym (without-both id (ids_of b.instrs) (all_ids bs) few)

-- each edit

module _ (t : Target) (f : Function) (gap : Gap) (op : OpId) (os : List Operand) where
  abbrev with-new : Function
  with-new = inserted f gap op os

  abbrev IsNew : Instr → Type 0
  IsNew j = j ≡ made f.next_id op os

  new-blocks : AreBlocks Never IsNew NeverBoth f.blocks with-new.blocks
  new-blocks = put-blocks Never IsNew NeverBoth (made f.next_id op os) refl gap.before (block_place gap.block f.blocks) f.blocks

  put-homes : (x y : Table) → IsFunction f.blocks f.next_id → IsOrdered t f x → IsPutInto f gap x y → AreHomes with-new.blocks y.order.block_of.items
  put-homes x y is o p k c id e h = ⊎_elim mine theirs (where-put (made f.next_id op os) gap.before id (block_place gap.block f.blocks) f.blocks k c e h)
    where
      mine : (f.next_id ≡ id) × (k ≡ block_place gap.block f.blocks) → slice_index y.order.block_of.items id ≡ k
      mine m = subst (λ j. slice_index y.order.block_of.items j ≡ k) m.0 (p.homes.here f.next_id (has-first f.next_id []) p.room ∙ sym m.1)

      theirs : HasIn f.blocks k id → slice_index y.order.block_of.items id ≡ k
      theirs m = go (nat_eq f.next_id id) refl
        where
          go : (u : Bool) → nat_eq f.next_id id ≡ u → slice_index y.order.block_of.items id ≡ k
          go true g =
              let own : has f.next_id (ids_of m.0.instrs) ≡ true = subst (λ j. has j (ids_of m.0.instrs) ≡ true) (sym (eqb-true f.next_id id g)) m.2 in
              let none : has f.next_id (ids_of m.0.instrs) ≡ false = none-at f.next_id f.blocks (next-none f.blocks f.next_id is) k m.0 m.1 in
              absurd (let z : true ≡ false = sym own ∙ none in cc)
          go false g = p.homes.other id (ap (λ u. cond u true false) g) ∙ o.homes k m.0 id m.1 m.2

  put-layout : (x y : Table) → IsFunction f.blocks f.next_id → HasBlock f gap.block → IsOrdered t f x → IsPutInto f gap x y → ids y.order.slots ≡ all_ids with-new.blocks
  put-layout x y is there o p =
      let z : Splits (made f.next_id op os) gap.before (block_place gap.block f.blocks) f.blocks = put-splits (made f.next_id op os) gap.before (block_place gap.block f.blocks) f.blocks there in
      let single : AreSingle (ids_before_gap f gap ++ z.0) = subst AreSingle z.1 (once-single f.blocks f.next_id is) in
      p.slots ∙ (ap (put_after (last_id (ids_before_gap f gap)) f.next_id) (o.layout ∙ z.1) ∙ (put-behind (ids_before_gap f gap) z.0 f.next_id single ∙ sym z.2))

pub put-order-law : PutOrderLaw
put-order-law t f gap op os x y is there keeps o p =
    let a = new-blocks t f gap op os in
    let kept : KeepsTerminators t Never (IsNew t f gap op os) NeverBoth = record { goes = λ i z. absurd z; comes = λ j e. ap (does is_terminator t) e ∙ keeps.1; both = λ i j z. absurd z } in
    record {
      positions = λ n. ap (λ m. get nat_cmp m n) p.positions ∙ (o.positions n ∙ place-kept t Never (IsNew t f gap op os) NeverBoth n a);
      homes = put-homes t f gap op os x y is o p;
      ways = subst (λ w. AreWays t (λ n. place_of n (inserted f gap op os).blocks) (inserted f gap op os).blocks w.items) (sym p.flow)
          (ways-kept t Never (IsNew t f gap op os) NeverBoth kept f.blocks (inserted f gap op os).blocks x.flow.items a o.ways);
      layout = put-layout t f gap op os x y is there o p;
      numbered = p.numbered;
    }

module _ (t : Target) (f : Function) (id : ℕ) (op : OpId) (os : List Operand) (keeps : KeepsWays t f (Replace id op os)) where
  abbrev turned : Function
  turned = replaced f id op os

  abbrev Turns : Instr → Instr → Type 0
  Turns = Becomes Never Never id (with_op op os)

  abbrev NoneGoes : Instr → Type 0
  NoneGoes = GoesFrom Never Never Turns f.blocks

  abbrev NoneComes : Instr → Type 0
  NoneComes = ComesInto Never Never Turns turned.blocks

  abbrev TurnsAt : Instr → Instr → Type 0
  TurnsAt = BothAt Never Never Turns f.blocks turned.blocks

  turned-blocks : AreBlocks NoneGoes NoneComes TurnsAt f.blocks turned.blocks
  turned-blocks = blocks-placed Never Never Turns (change-blocks Never Never id (with_op op os) f.blocks)

  turned-both : (i j : Instr) → TurnsAt i j → (i.id ≡ j.id) × (does is_terminator t i ≡ does is_terminator t j)
  turned-both i j z =
      (sym (ap (λ (q : Instr). q.id) z.6.1), (keeps z.0 i (record { block = z.2; instr = z.4; named = z.6.0 })).2 ∙ sym (ap (does is_terminator t) z.6.1))

  turned-kept : KeepsTerminators t NoneGoes NoneComes TurnsAt
  turned-kept = record { goes = λ i z. absurd z.3; comes = λ j z. absurd z.3; both = turned-both }

  turned-homes : (x : Table) → IsOrdered t f x → AreHomes turned.blocks x.order.block_of.items
  turned-homes x o k c y e h =
      let z = get-map (changed_in id (with_op op os)) f.blocks k c e in
      let own : has y (ids_of (changed_in id (with_op op os) z.0).instrs) ≡ true = subst (λ (d : Block). has y (ids_of d.instrs) ≡ true) (sym z.2) h in
      o.homes k z.0 y z.1 (ap (has y) (sym (ids-updated (with_op op os) (λ i. refl) (instr_place id z.0.instrs) z.0.instrs)) ∙ own)

  turned-order : (x : Table) → IsOrdered t f x → IsOrdered t turned x
  turned-order x o = record {
    positions = λ n. o.positions n ∙ place-kept t NoneGoes NoneComes TurnsAt n turned-blocks;
    homes = turned-homes x o;
    ways = ways-kept t NoneGoes NoneComes TurnsAt turned-kept f.blocks turned.blocks x.flow.items turned-blocks o.ways;
    layout = o.layout ∙ sym (all-updated id op os f.blocks);
    numbered = o.numbered;
  }

pub replaced-order-law : ReplacedOrderLaw
replaced-order-law t f id op os x keeps o = turned-order t f id op os keeps x o

module _ (t : Target) (f : Function) (id : ℕ) (keeps : KeepsWays t f (Erase id)) where
  abbrev shorter : Function
  shorter = deleted f id

  abbrev Gone : Instr → Type 0
  Gone = Named Never NeverBoth id

  abbrev OneGoes : Instr → Type 0
  OneGoes = GoesFrom Gone Never NeverBoth f.blocks

  abbrev NoneNew : Instr → Type 0
  NoneNew = ComesInto Gone Never NeverBoth shorter.blocks

  abbrev NoneTurns : Instr → Instr → Type 0
  NoneTurns = BothAt Gone Never NeverBoth f.blocks shorter.blocks

  shorter-blocks : AreBlocks OneGoes NoneNew NoneTurns f.blocks shorter.blocks
  shorter-blocks = blocks-placed Gone Never NeverBoth (erase-blocks Never NeverBoth id f.blocks)

  one-goes : (i : Instr) → OneGoes i → does is_terminator t i ≡ false
  one-goes i z = (keeps z.0 i (record { block = z.1; instr = z.2; named = z.3 })).1

  shorter-kept : KeepsTerminators t OneGoes NoneNew NoneTurns
  shorter-kept = record { goes = one-goes; comes = λ j z. absurd z.3; both = λ i j z. absurd z.6 }

  shorter-homes : (x : Table) → IsOrdered t f x → AreHomes shorter.blocks x.order.block_of.items
  shorter-homes x o k c y e h =
      let z = get-map (cut id) f.blocks k c e in
      let own : has y (ids_of (cut id z.0).instrs) ≡ true = subst (λ (d : Block). has y (ids_of d.instrs) ≡ true) (sym z.2) h in
      o.homes k z.0 y z.1 (has-cut y (instr_place id z.0.instrs) z.0.instrs own)

  shorter-order : (x y : Table) → IsFunction f.blocks f.next_id → IsOrdered t f x → IsTakenOut id x y → IsOrdered t shorter y
  shorter-order x y is o p = record {
    positions = λ n. ap (λ m. get nat_cmp m n) p.positions ∙ (o.positions n ∙ place-kept t OneGoes NoneNew NoneTurns n shorter-blocks);
    homes = subst (λ v. AreHomes shorter.blocks v.items) (sym p.homes) (shorter-homes x o);
    ways = subst (λ w. AreWays t (λ n. place_of n shorter.blocks) shorter.blocks w.items) (sym p.flow) (ways-kept t OneGoes NoneNew NoneTurns shorter-kept f.blocks shorter.blocks x.flow.items shorter-blocks o.ways);
    layout = p.slots ∙ (ap (λ ns. remove ns (place id ns)) o.layout ∙ (removed-is id (all_ids f.blocks) ∙ sym (all-cut id f.blocks (once-single f.blocks f.next_id is id))));
    numbered = p.numbered;
  }

pub erased-order-law : ErasedOrderLaw
erased-order-law t f id x y is keeps o p = shorter-order t f id keeps x y is o p

pub laid-out-law : LaidOutLaw
laid-out-law t f x is small few numbers o table = record {
  numbers = numbers;
  positions = o.positions;
  homes = o.homes;
  ways = o.ways;
  layout = o.layout;
  numbered = o.numbered;
  short = ids-below f.blocks f.next_id 4294967296 is small;
  few = few-points f.blocks f.next_id is small few;
  table = table;
}
