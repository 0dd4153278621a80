-- The order of a function's instructions over edits at places.
use Rattle.std.proofs.Common.{◌≡◌, ◌≢◌, ◌⊎◌, inl, inr, ◌∷◌, ◌++◌, ◌∙◌, ◌+◌, ◌-◌, ◌<◌, ◌≤◌, not, ℕ, zero, suc, Bool, true, false, cond, length, List, [], Option, Some, None, refl, sym, ap, subst, take, drop, append_assoc, arith, eqb-true, eq-eqb, ⊎_elim}
use Rattle.std.specs.Prelude.{nat_eq, option_map, slice_get, slice_index}
use Rattle.std.specs.List.{insert, remove}
use Rattle.std.specs.Ordering.{nat_cmp}
use Rattle.std.specs.BTreeMap.{get}
use Rattle.std.proofs.lemmas.Option.{same_Some}
use Rattle.target_base.specs.declared.types.OpId.{OpId}
use Rattle.slot_index.specs.Order.{IsNumbered, ids, number_of, place, put_after}
use Rattle.mir_func.specs.declared.func.Block.{Block}
use Rattle.mir_func.specs.declared.func.Instr.{Instr}
use Rattle.mir_func.specs.declared.func.Op.{Op}
use Rattle.mir_func.specs.declared.func.Operand.{Operand}
use Rattle.mir_func.specs.Value.{Function, IsFunction}
use Rattle.mir_func.specs.Edits.{made, update}
use Rattle.mir_func.specs.At.{instr_at, put_at, cut_at, changed_at, has_last_id, inserted_at, removed_at, retracted_at, with_operation, replaced_at}
use Rattle.mir_func.proofs.Standing.{room_within}
use Rattle.mir_func.proofs.TakenBack.{retracted-law}
use Rattle.mir_meaning.specs.Paths.{has}
use Rattle.live_lanes.specs.declared.order.Order.{Order}
use Rattle.live_lanes.specs.Ordered.{AreHomes, AreSingle, all_ids, ids_of, last_id, place_of, times}
use Rattle.live_lanes.proofs.Ordered.{once-single, single-left, times-both, times-first, times-total}
use Rattle.edit_laws.specs.Ordering.{ids_before}
use Rattle.edit_laws.proofs.Ordering.{after-length, ids-split, next-none}
use Rattle.edit_laws.proofs.OrderSteps.{removed-law}
use Rattle.live_edits.specs.Drafts.{IsOrderOf, IsSameOrder, PutsId, TakesId, HasRoom, PutsAt, StaysOrdered}
use Rattle.live_edits.proofs.DraftPlaces.{block-there, instrs-there}

-- an order is one of every function with these blocks
pub same-blocks : (f g : Function) (o : Order) → g.blocks ≡ f.blocks → IsOrderOf f o → IsOrderOf g o
same-blocks f g o e order = record {
  positions = λ n. order.positions n ∙ ap (place_of n) (sym e);
  homes = subst (λ bs. AreHomes bs o.block_of.items) (sym e) order.homes;
  layout = order.layout ∙ ap all_ids (sym e);
  numbered = order.numbered;
}

pub same-order : (f : Function) (x y : Order) → IsSameOrder x y → IsOrderOf f x → IsOrderOf f y
same-order f x y same order = record {
  positions = λ n. ap (λ m. get nat_cmp m n) same.positions ∙ order.positions n;
  homes = λ k b id e h. same.homes id ∙ order.homes k b id e h;
  layout = ap ids same.slots ∙ order.layout;
  numbered = subst IsNumbered (sym same.slots) order.numbered;
}

-- a block that is changed

module _ (h : Block → Block) where
  place-kept : ((b : Block) → (h b).number ≡ b.number) → (n p : ℕ) (bs : List Block) → place_of n (update p h bs) ≡ place_of n bs
  place-kept keeps n p [] = refl
  place-kept keeps n zero (b ∷ bs) = ap (λ m. cond {A = Option ℕ} (nat_eq m n) (Some 0) (option_map (λ x. suc x) (place_of n bs))) (keeps b)
  place-kept keeps n (suc p) (b ∷ bs) = ap (λ q. cond {A = Option ℕ} (nat_eq b.number n) (Some 0) (option_map (λ x. suc x) q)) (place-kept keeps n p bs)

  -- the ids before and behind the block
  around : (bs : List Block) (p : ℕ) (b : Block) → slice_get bs p ≡ Some b → all_ids bs ≡ all_ids (take p bs) ++ (ids_of b.instrs ++ all_ids (drop (suc p) bs))
  around [] p b e = absurd (cc)
  around (c ∷ bs) zero b e = ap (λ (x : Block). ids_of x.instrs ++ all_ids bs) (same_Some c b e)
  around (c ∷ bs) (suc p) b e = ap (λ xs. ids_of c.instrs ++ xs) (around bs p b e) ∙ sym (append_assoc (ids_of c.instrs) (all_ids (take p bs)) (ids_of b.instrs ++ all_ids (drop (suc p) bs)))

  changed-around : (bs : List Block) (p : ℕ) (b : Block) → slice_get bs p ≡ Some b → all_ids (update p h bs) ≡ all_ids (take p bs) ++ (ids_of (h b).instrs ++ all_ids (drop (suc p) bs))
  changed-around [] p b e = absurd (cc)
  changed-around (c ∷ bs) zero b e = ap (λ (x : Block). ids_of (h x).instrs ++ all_ids bs) (same_Some c b e)
  changed-around (c ∷ bs) (suc p) b e = ap (λ xs. ids_of c.instrs ++ xs) (changed-around bs p b e) ∙ sym (append_assoc (ids_of c.instrs) (all_ids (take p bs)) (ids_of (h b).instrs ++ all_ids (drop (suc p) bs)))

  -- a block of the list after the change
  abbrev IsChangedOf : List Block → ℕ → ℕ → Block → Type 0
  IsChangedOf bs p k c = (b : Block) × (k ≡ p) × (slice_get bs k ≡ Some b) × (h b ≡ c)

  changed-block : (bs : List Block) (p k : ℕ) (c : Block) → slice_get (update p h bs) k ≡ Some c → IsChangedOf bs p k c ⊎ (slice_get bs k ≡ Some c)
  changed-block [] p k c e = absurd (cc)
  changed-block (b ∷ bs) zero zero c e = inl (b, refl, refl, same_Some (h b) c e)
  changed-block (b ∷ bs) zero (suc k) c e = inr e
  changed-block (b ∷ bs) (suc p) zero c e = inr e
  changed-block (b ∷ bs) (suc p) (suc k) c e = ⊎_elim (λ (z : IsChangedOf bs p k c). inl (z.0, ap (λ n. suc n) z.1, z.2, z.3)) (λ (z : slice_get bs k ≡ Some c). inr z) (changed-block bs p k c e)

-- an instruction that is replaced

module _ (g : Instr → Instr) (keeps : (i : Instr) → (g i).id ≡ i.id) where
  ids-updated : (k : ℕ) (is : List Instr) → ids_of (update k g is) ≡ ids_of is
  ids-updated k [] = refl
  ids-updated zero (i ∷ is) = ap (λ n. n ∷ ids_of is) (keeps i)
  ids-updated (suc k) (i ∷ is) = ap (λ ns. i.id ∷ ns) (ids-updated k is)

  all-updated : (p k : ℕ) (bs : List Block) → all_ids (update p (changed_at k g) bs) ≡ all_ids bs
  all-updated p k [] = refl
  all-updated zero k (b ∷ bs) = ap (λ ns. ns ++ all_ids bs) (ids-updated k b.instrs)
  all-updated (suc p) k (b ∷ bs) = ap (λ ns. ids_of b.instrs ++ ns) (all-updated p k bs)

  homes-updated : (p k : ℕ) (bs : List Block) (homes : List ℕ) → AreHomes bs homes → AreHomes (update p (changed_at k g) bs) homes
  homes-updated p k bs homes at j c id e own = ⊎_elim changed (λ (z : slice_get bs j ≡ Some c). at j c id z own) (changed-block (changed_at k g) bs p j c e)
    where
      changed : IsChangedOf (changed_at k g) bs p j c → slice_index homes id ≡ j
      changed z = at j z.0 id z.2 (ap (has id) (sym (ids-updated k z.0.instrs)) ∙ ap (λ (b : Block). has id (ids_of b.instrs)) z.3 ∙ own)

pub replaced-order : (f : Function) (o : Order) (p k : ℕ) (op : Op) (os : List Operand) → IsOrderOf f o → IsOrderOf (replaced_at f p k op os) o
replaced-order f o p k op os order = record {
  positions = λ n. order.positions n ∙ sym (place-kept (changed_at k (with_operation op os)) (λ b. refl) n p f.blocks);
  homes = homes-updated (with_operation op os) (λ i. refl) p k f.blocks o.block_of.items order.homes;
  layout = order.layout ∙ sym (all-updated (with_operation op os) (λ i. refl) p k f.blocks);
  numbered = order.numbered;
}

-- one that comes

ids-both : (is js : List Instr) → ids_of (is ++ js) ≡ ids_of is ++ ids_of js
ids-both [] js = refl
ids-both (i ∷ is) js = ap (λ ns. i.id ∷ ns) (ids-both is js)

-- the ids of the front of a block go with those of the blocks before it
regrouped : (front is js rest : List ℕ) → front ++ ((is ++ js) ++ rest) ≡ (front ++ is) ++ (js ++ rest)
regrouped front is js rest = ap (λ ns. front ++ ns) (append_assoc is js rest) ∙ sym (append_assoc front is (js ++ rest))

insert-behind : (xs ys : List ℕ) (x : ℕ) → insert (xs ++ ys) (length xs) x ≡ xs ++ x ∷ ys
insert-behind [] [] x = refl
insert-behind [] (y ∷ ys) x = refl
insert-behind (z ∷ xs) ys x = ap (λ zs. z ∷ zs) (insert-behind xs ys x)

put-behind : (xs ys : List ℕ) (id : ℕ) → AreSingle (xs ++ ys) → put_after (last_id xs) id (xs ++ ys) ≡ xs ++ id ∷ ys
put-behind xs ys id single = ap (λ n. insert (xs ++ ys) n id) (after-length xs ys (single-left xs ys single)) ∙ insert-behind xs ys id

has-own : (x id : ℕ) (xs : List ℕ) → has id (x ∷ xs) ≡ true → (x ≡ id) ⊎ (has id xs ≡ true)
has-own x id xs h = go (nat_eq x id) refl h
  where
    go : (u : Bool) → nat_eq x id ≡ u → cond u true (has id xs) ≡ true → (x ≡ id) ⊎ (has id xs ≡ true)
    go true e h = inl (eqb-true x id e)
    go false e h = inr h

has-later : (x id : ℕ) (xs : List ℕ) → has id xs ≡ true → has id (x ∷ xs) ≡ true
has-later x id xs h = go (nat_eq x id)
  where
    go : (u : Bool) → cond u true (has id xs) ≡ true
    go true = refl
    go false = h

has-put : (x : Instr) (id n : ℕ) (is : List Instr) → has id (ids_of (insert is n x)) ≡ true → (x.id ≡ id) ⊎ (has id (ids_of is) ≡ true)
has-put x id zero [] h = has-own x.id id [] h
has-put x id zero (i ∷ is) h = has-own x.id id (ids_of (i ∷ is)) h
has-put x id (suc n) [] h = has-own x.id id [] h
has-put x id (suc n) (i ∷ is) h =
    ⊎_elim
    (λ (e : i.id ≡ id). inr (ap (λ u. cond u true (has id (ids_of is))) (eq-eqb i.id id e)))
    (λ (g : has id (ids_of (insert is n x)) ≡ true). ⊎_elim (λ (e : x.id ≡ id). inl e) (λ (o : has id (ids_of is) ≡ true). inr (has-later i.id id (ids_of is) o)) (has-put x id n is g))
    (has-own i.id id (ids_of (insert is n x)) h)

has-times : (x : ℕ) (xs : List ℕ) → has x xs ≡ true → 1 ≤ times x xs
has-times x [] h = absurd (cc)
has-times x (y ∷ xs) h = go (nat_eq y x) h (has-times x xs)
  where
    go : (u : Bool) → cond u true (has x xs) ≡ true → (has x xs ≡ true → 1 ≤ times x xs) → 1 ≤ cond u (suc (times x xs)) (times x xs)
    go true f ih = omega arith
    go false f ih = ih f

-- an id of a block stands in the layout
there-counted : (bs : List Block) (p : ℕ) (b : Block) (id : ℕ) → slice_get bs p ≡ Some b → has id (ids_of b.instrs) ≡ true → 1 ≤ times id (all_ids bs)
there-counted bs p b id e own =
    let front = all_ids (take p bs) in
    let rest = all_ids (drop (suc p) bs) in
    let whole : times id (all_ids bs) ≡ times id (front ++ (ids_of b.instrs ++ rest)) = ap (times id) (around (λ c. c) bs p b e) in
    omega (arith, whole, times-both id front (ids_of b.instrs ++ rest), times-both id (ids_of b.instrs) rest, has-times id (ids_of b.instrs) own)

-- the next id stands in no block
next-other : (f : Function) (p : ℕ) (b : Block) (id : ℕ) → IsFunction f.blocks f.next_id → slice_get f.blocks p ≡ Some b → has id (ids_of b.instrs) ≡ true → id ≢ f.next_id
next-other f p b id is e own same =
    let some : 1 ≤ times f.next_id (all_ids f.blocks) = subst (λ n. 1 ≤ times n (all_ids f.blocks)) same (there-counted f.blocks p b id e own) in
    omega (arith, some, times-total f.next_id f.blocks, next-none f.blocks f.next_id is)

get-there : {X : Type 0} (xs : List X) (k : ℕ) → k < length xs → (x : X) × (slice_get xs k ≡ Some x)
get-there [] k h = absurd (omega (arith, h))
get-there (x ∷ xs) zero h = (x, refl)
get-there (x ∷ xs) (suc k) h = get-there xs k (omega (arith, h))

module _ (f : Function) (x y : Order) (p k : ℕ) (i : Instr) (is : IsFunction f.blocks f.next_id) (order : IsOrderOf f x) (within : p < length f.blocks) (named : i.id ≡ f.next_id) (puts : PutsId f.next_id p (last_id (ids_before f.blocks p k)) x y) where
  abbrev with-new : List Block
  with-new = update p (put_at k i) f.blocks

  put-homes : AreHomes with-new y.block_of.items
  put-homes j c id e own = ⊎_elim changed (λ (z : slice_get f.blocks j ≡ Some c). stays c z own) (changed-block (put_at k i) f.blocks p j c e)
    where
      stays : (b : Block) → slice_get f.blocks j ≡ Some b → has id (ids_of b.instrs) ≡ true → slice_index y.block_of.items id ≡ j
      stays b z h = puts.others id (next-other f j b id is z h) ∙ order.homes j b id z h

      changed : IsChangedOf (put_at k i) f.blocks p j c → slice_index y.block_of.items id ≡ j
      changed z =
          ⊎_elim
          (λ (m : i.id ≡ id). ap (slice_index y.block_of.items) (sym m ∙ named) ∙ (puts.here ∙ sym z.1))
          (λ (m : has id (ids_of z.0.instrs) ≡ true). stays z.0 z.2 m)
          (has-put i id k z.0.instrs (ap (λ (b : Block). has id (ids_of b.instrs)) z.3 ∙ own))

  put-layout : ids y.slots ≡ all_ids with-new
  put-layout =
      let z = get-there f.blocks p within in
      let b = z.0 in
      let front = all_ids (take p f.blocks) in
      let rest = all_ids (drop (suc p) f.blocks) in
      let inner = ids_of (take k b.instrs) in
      let outer = ids_of (drop k b.instrs) in
      let before : ids_before f.blocks p k ≡ front ++ inner = ap (λ js. front ++ ids_of (take k js)) (instrs-there f.blocks p b z.1) in
      let old : all_ids f.blocks ≡ (front ++ inner) ++ (outer ++ rest) =
      around (λ c. c) f.blocks p b z.1 ∙ (ap (λ ns. front ++ (ns ++ rest)) (ids-split k b.instrs) ∙ regrouped front inner outer rest) in
      let new : all_ids with-new ≡ (front ++ inner) ++ (i.id ∷ (outer ++ rest)) =
      changed-around (put_at k i) f.blocks p b z.1 ∙ (ap (λ ns. front ++ (ns ++ rest)) (ids-both (take k b.instrs) (i ∷ drop k b.instrs)) ∙ regrouped front inner (i.id ∷ outer) rest) in
      let single : AreSingle ((front ++ inner) ++ (outer ++ rest)) = subst AreSingle old (once-single f.blocks f.next_id is) in
      puts.slots ∙ (ap (put_after (last_id (ids_before f.blocks p k)) f.next_id) (order.layout ∙ old)
      ∙ (ap (λ xs. put_after (last_id xs) f.next_id ((front ++ inner) ++ (outer ++ rest))) before
      ∙ (put-behind (front ++ inner) (outer ++ rest) f.next_id single
      ∙ (ap (λ n. (front ++ inner) ++ (n ∷ (outer ++ rest))) (sym named) ∙ sym new))))

pub put-order : (f : Function) (x y : Order) (p k : ℕ) (op : OpId) (os : List Operand) → IsFunction f.blocks f.next_id → HasRoom f x p k → PutsId f.next_id p (last_id (ids_before f.blocks p k)) x y → IsOrderOf (inserted_at f p k op os) y
put-order f x y p k op os is room puts =
    let i = made f.next_id op os in
    let within = room_within f p room.room in
    let new = record f { blocks = update p (put_at k i) f.blocks; next_id = f.next_id + 1 } in
    let order : IsOrderOf new y = record {
      positions = λ n. ap (λ m. get nat_cmp m n) puts.positions ∙ (room.order.positions n ∙ sym (place-kept (put_at k i) (λ b. refl) n p f.blocks));
      homes = put-homes f x y p k i is room.order within refl puts;
      layout = put-layout f x y p k i is room.order within refl puts;
      numbered = puts.numbered;
    } in
    same-blocks new (inserted_at f p k op os) y (ap (λ t. (cond t new f).blocks) room.room) order

pub put-done : (f g : Function) (x y : Order) (p k : ℕ) (op : OpId) (os : List Operand) (id : ℕ) (before : Option ℕ) → IsFunction f.blocks f.next_id → HasRoom f x p k
    → id ≡ f.next_id → before ≡ last_id (ids_before f.blocks p k) → g ≡ inserted_at f p k op os → PutsId id p before x y → PutsAt f g y p k op os
put-done f g x y p k op os id before is room named at done puts =
    let Puts : ℕ → Option ℕ → Type 0 = λ n q. PutsId n p q x y in
    let own : PutsId f.next_id p (last_id (ids_before f.blocks p k)) x y = subst (λ n. Puts n (last_id (ids_before f.blocks p k))) named (subst (Puts id) at puts) in
    record { func = done; order = subst (λ h. IsOrderOf h y) (sym done) (put-order f x y p k op os is room own) }

-- it is taken back, where the order has no room for it
pub put-refused : (f g h : Function) (x y : Order) (p k : ℕ) (op : OpId) (os : List Operand) → HasRoom f x p k → g ≡ inserted_at f p k op os → h ≡ retracted_at g p k → IsSameOrder x y → StaysOrdered f h y
put-refused f g h x y p k op os room done back same =
    let as_before : h ≡ f = back ∙ (ap (λ e. retracted_at e p k) done ∙ retracted-law f p k op os room.room room.within) in
    record { func = as_before; order = subst (λ e. IsOrderOf e y) (sym as_before) (same-order f x y same room.order) }

-- one that goes

ids-at : (k : ℕ) (i : Instr) (is : List Instr) → slice_get is k ≡ Some i → ids_of is ≡ ids_of (take k is) ++ i.id ∷ ids_of (drop (suc k) is)
ids-at k i [] e = absurd (cc)
ids-at zero i (j ∷ is) e = (λ n. (same_Some j i e n).id ∷ ids_of (drop-none is n))
  where
    drop-none : (js : List Instr) → js ≡ drop 0 js
    drop-none [] = refl
    drop-none (j ∷ js) = refl
ids-at (suc k) i (j ∷ is) e = ap (λ ns. j.id ∷ ns) (ids-at k i is e)

has-removed : (id k : ℕ) (is : List Instr) → has id (ids_of (remove is k)) ≡ true → has id (ids_of is) ≡ true
has-removed id zero [] h = h
has-removed id (suc k) [] h = h
has-removed id zero (i ∷ []) h = absurd (cc)
has-removed id zero (i ∷ j ∷ is) h = has-later i.id id (ids_of (j ∷ is)) h
has-removed id (suc k) (i ∷ is) h =
    ⊎_elim (λ (e : i.id ≡ id). ap (λ u. cond u true (has id (ids_of is))) (eq-eqb i.id id e)) (λ (o : has id (ids_of (remove is k)) ≡ true). has-later i.id id (ids_of is) (has-removed id k is o)) (has-own i.id id (ids_of (remove is k)) h)

one-more : (n : ℕ) → 1 + n ≡ suc n
one-more n = omega arith

place-there : (id : ℕ) (xs ys : List ℕ) → times id xs ≡ 0 → place id (xs ++ id ∷ ys) ≡ length xs
place-there id [] ys none = ap (λ u. cond (not u) (1 + place id ys) 0) (eq-eqb id id refl)
place-there id (x ∷ xs) ys none = go (nat_eq x id) none (place-there id xs ys)
  where
    go : (u : Bool) → cond u (suc (times id xs)) (times id xs) ≡ 0 → (times id xs ≡ 0 → place id (xs ++ id ∷ ys) ≡ length xs) → cond (not u) (1 + place id (xs ++ id ∷ ys)) 0 ≡ suc (length xs)
    go true n rest = absurd (omega (arith, n))
    go false n rest = one-more (place id (xs ++ id ∷ ys)) ∙ ap (λ m. suc m) (rest n)

removed-there : (xs ys : List ℕ) (id : ℕ) → remove (xs ++ id ∷ ys) (length xs) ≡ xs ++ ys
removed-there [] [] id = refl
removed-there [] (y ∷ ys) id = refl
removed-there (x ∷ xs) ys id = ap (λ zs. x ∷ zs) (removed-there xs ys id)

module _ (f : Function) (x y : Order) (p k : ℕ) (i : Instr) (is : IsFunction f.blocks f.next_id) (order : IsOrderOf f x) (there : instr_at f.blocks p k ≡ Some i) (takes : TakesId i.id x y) where
  abbrev without : List Block
  without = update p (cut_at k) f.blocks

  cut-homes : AreHomes without x.block_of.items
  cut-homes j c id e own = ⊎_elim changed (λ (z : slice_get f.blocks j ≡ Some c). order.homes j c id z own) (changed-block (cut_at k) f.blocks p j c e)
    where
      changed : IsChangedOf (cut_at k) f.blocks p j c → slice_index x.block_of.items id ≡ j
      changed z = order.homes j z.0 id z.2 (has-removed id k z.0.instrs (ap (λ (b : Block). has id (ids_of b.instrs)) z.3 ∙ own))

  cut-layout : ids y.slots ≡ all_ids without
  cut-layout =
      let z = block-there f.blocks p k i there in
      let b = z.0 in
      let front = all_ids (take p f.blocks) in
      let rest = all_ids (drop (suc p) f.blocks) in
      let inner = ids_of (take k b.instrs) in
      let outer = ids_of (drop (suc k) b.instrs) in
      let old : all_ids f.blocks ≡ (front ++ inner) ++ (i.id ∷ (outer ++ rest)) =
      around (λ c. c) f.blocks p b z.1 ∙ (ap (λ ns. front ++ (ns ++ rest)) (ids-at k i b.instrs z.2) ∙ regrouped front inner (i.id ∷ outer) rest) in
      let new : all_ids without ≡ (front ++ inner) ++ (outer ++ rest) =
      changed-around (cut_at k) f.blocks p b z.1 ∙ (ap (λ ns. front ++ (ns ++ rest)) (ids-both (take k b.instrs) (drop (suc k) b.instrs)) ∙ regrouped front inner outer rest) in
      let single : AreSingle ((front ++ inner) ++ (i.id ∷ (outer ++ rest))) = subst AreSingle old (once-single f.blocks f.next_id is) in
      let once = single i.id in
      let none : times i.id (front ++ inner) ≡ 0 = omega (arith, once, times-both i.id (front ++ inner) (i.id ∷ (outer ++ rest)), times-first i.id (outer ++ rest)) in
      let laid : ids x.slots ≡ (front ++ inner) ++ (i.id ∷ (outer ++ rest)) = order.layout ∙ old in
      ap ids takes.slots ∙ ((removed-law x.slots i.id).order
      ∙ (ap (λ ns. remove ns (place i.id ns)) laid
      ∙ (ap (remove ((front ++ inner) ++ (i.id ∷ (outer ++ rest)))) (place-there i.id (front ++ inner) (outer ++ rest) none)
      ∙ (removed-there (front ++ inner) (outer ++ rest) i.id ∙ sym new))))

  pub removed-order : IsOrderOf (removed_at f p k) y
  removed-order = record {
    positions = λ n. ap (λ m. get nat_cmp m n) takes.positions ∙ (order.positions n ∙ sym (place-kept (cut_at k) (λ b. refl) n p f.blocks));
    homes = subst (λ v. AreHomes without v.items) (sym takes.homes) cut-homes;
    layout = cut-layout;
    numbered = takes.numbered order.numbered;
  }

pub other-numbers : (id : ℕ) (x y : Order) → TakesId id x y → (n : ℕ) → n ≢ id → number_of y.slots n ≡ number_of x.slots n
other-numbers id x y takes n other = ap (λ s. number_of s n) takes.slots ∙ (removed-law x.slots id).numbers n other

-- what was put last is taken back, where it stands at a place

abbrev Retracted : Function → ℕ → ℕ → Type 0
Retracted f p k = (i : Instr) × (instr_at f.blocks p k ≡ Some i) × (i.id + 1 ≡ f.next_id) × (retracted_at f p k ≡ record f { blocks = update p (cut_at k) f.blocks; next_id = f.next_id - 1 })

retracted : (f : Function) (p k : ℕ) → Retracted f p k ⊎ (retracted_at f p k ≡ f)
retracted f p k = go (instr_at f.blocks p k) refl
  where
    new : Function
    new = record f { blocks = update p (cut_at k) f.blocks; next_id = f.next_id - 1 }

    by : (i : Instr) → instr_at f.blocks p k ≡ Some i → (u : Bool) → has_last_id f (Some i) ≡ u → Retracted f p k ⊎ (retracted_at f p k ≡ f)
    by i e true last = inl (i, e, eqb-true (i.id + 1) f.next_id last, ap (λ o. cond (has_last_id f o) new f) e ∙ ap (λ u. cond u new f) last)
    by i e false last = inr (ap (λ o. cond (has_last_id f o) new f) e ∙ ap (λ u. cond u new f) last)

    go : (o : Option Instr) → instr_at f.blocks p k ≡ o → Retracted f p k ⊎ (retracted_at f p k ≡ f)
    go None e = inr (ap (λ o. cond (has_last_id f o) new f) e)
    go (Some i) e = by i e (has_last_id f (Some i)) refl

pub retracted-order : (f g : Function) (x y : Order) (p k : ℕ) → IsFunction f.blocks f.next_id → g ≡ retracted_at f p k → g.next_id < f.next_id → TakesId g.next_id x y → IsOrderOf f x → IsOrderOf g y
retracted-order f g x y p k is e less takes order = ⊎_elim gone kept (retracted f p k)
  where
    kept : retracted_at f p k ≡ f → IsOrderOf g y
    kept h = let same : g.next_id ≡ f.next_id = ap (λ (v : Function). v.next_id) (e ∙ h) in absurd (omega (arith, same, less))

    gone : Retracted f p k → IsOrderOf g y
    gone z =
        let last = z.2 in
        let next : g.next_id ≡ f.next_id - 1 = ap (λ (v : Function). v.next_id) (e ∙ z.3) in
        let own : g.next_id ≡ z.0.id = omega (arith, last, next) in
        same-blocks (removed_at f p k) g y (ap (λ (v : Function). v.blocks) (e ∙ z.3)) (removed-order f x y p k z.0 is order z.1 (subst (λ n. TakesId n x y) own takes))

pub retracted-none : (f g : Function) (x : Order) (p k : ℕ) → g ≡ retracted_at f p k → f.next_id ≤ g.next_id → IsOrderOf f x → IsOrderOf g x
retracted-none f g x p k e more order = ⊎_elim gone kept (retracted f p k)
  where
    kept : retracted_at f p k ≡ f → IsOrderOf g x
    kept h = subst (λ v. IsOrderOf v x) (sym (e ∙ h)) order

    gone : Retracted f p k → IsOrderOf g x
    gone z =
        let last = z.2 in
        let next : g.next_id ≡ f.next_id - 1 = ap (λ (v : Function). v.next_id) (e ∙ z.3) in
        absurd (omega (arith, last, next, more))
