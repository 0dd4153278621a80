-- Which instruction stands before a place of the layout, and where instructions stand in it.
use Rattle.std.proofs.Common.{◌≡◌, ◌∷◌, ◌++◌, ◌∙◌, ◌+◌, ◌<◌, ◌≤◌, not, ℕ, zero, suc, min, Bool, true, false, cond, length, List, [], Option, Some, None, refl, sym, ap, subst, take, get_or, append_assoc, append-nil, arith, eqb-true}
use Rattle.std.specs.Prelude.{nat_eq, slice_get, slice_index}
use Rattle.std.specs.Option.{option_map_or}
use Rattle.std.proofs.lemmas.Option.{same_Some}
use Rattle.slot_index.specs.Order.{ids}
use Rattle.slot_index.specs.Renewed.{low_end}
use Rattle.mir_func.specs.declared.func.Block.{Block}
use Rattle.mir_func.specs.declared.func.Gap.{Gap}
use Rattle.mir_func.specs.declared.func.Instr.{Instr}
use Rattle.mir_func.specs.Value.{Function, IsFunction}
use Rattle.mir_func.specs.At.{instrs_at, instr_at}
use Rattle.mir_func.specs.Edits.{block_place, gap_place}
use Rattle.mir_func.proofs.ByPlace.{gap_before_is}
use Rattle.mir_meaning.specs.Paths.{has}
use Rattle.live_lanes.specs.declared.order.Order.{Order}
use Rattle.live_lanes.specs.Ordered.{AreRising, all_ids, ids_of, last_id, place_of}
use Rattle.live_lanes.proofs.Finding.{id-there}
use Rattle.live_lanes.proofs.Ordered.{last-more, once-single}
use Rattle.live_lanes.proofs.Risen.{block-rising}
use Rattle.edit_laws.specs.Ordering.{ids_before}
use Rattle.live_edits.specs.Drafts.{IsOrderOf, HasGap, IsPlaceOf}

-- the instruction before a place

pub take-past : {X : Type 0} (n : ℕ) (xs : List X) → length xs ≤ n → take n xs ≡ xs
take-past zero [] h = refl
take-past (suc n) [] h = refl
take-past zero (x ∷ xs) h = absurd (omega (arith, h))
take-past (suc n) (x ∷ xs) h = ap (λ ys. x ∷ ys) (take-past n xs (omega (arith, h)))

-- so many of a list as there are are as many
pub take-fewer : {X : Type 0} (n m : ℕ) (xs : List X) → m ≡ min n (length xs) → take m xs ≡ take n xs
take-fewer n m [] e = take-past m [] (omega arith) ∙ sym (take-past n [] (omega arith))
take-fewer zero m (x ∷ xs) e = let none : m ≡ 0 = omega (arith, e) in ap (λ k. take k (x ∷ xs)) none
take-fewer (suc n) zero (x ∷ xs) e = absurd (omega (arith, e))
take-fewer (suc n) (suc m) (x ∷ xs) e = ap (λ ys. x ∷ ys) (take-fewer n m xs (omega (arith, e)))

-- one more block
ids-one : (bs : List Block) (k : ℕ) (b : Block) → k < length bs → b ≡ get_or bs k b → all_ids (take (suc k) bs) ≡ all_ids (take k bs) ++ ids_of b.instrs
ids-one [] k b h e = absurd (omega (arith, h))
ids-one (c ∷ bs) zero b h e = append-nil (ids_of c.instrs) ∙ ap (λ (x : Block). ids_of x.instrs) (sym e)
ids-one (c ∷ bs) (suc k) b h e = ap (λ xs. ids_of c.instrs ++ xs) (ids-one bs k b (omega (arith, h)) e) ∙ sym (append_assoc (ids_of c.instrs) (all_ids (take k bs)) (ids_of b.instrs))

no-ids : (is : List Instr) → length is ≤ 0 → ids_of is ≡ []
no-ids [] h = refl
no-ids (i ∷ is) h = absurd (omega (arith, h))

-- a block without instructions
pub ids-same : (bs : List Block) (n k : ℕ) (b : Block) → n ≡ suc k → k < length bs → b ≡ get_or bs k b → length b.instrs ≤ 0 → last_id (all_ids (take k bs)) ≡ last_id (all_ids (take n bs))
ids-same bs n k b f h e none = sym (ap last_id (ap (λ m. all_ids (take m bs)) f ∙ (ids-one bs k b h e ∙ (ap (λ xs. all_ids (take k bs) ++ xs) (no-ids b.instrs none) ∙ append-nil (all_ids (take k bs))))))

last-behind : (xs : List ℕ) (y : ℕ) (ys : List ℕ) → last_id (xs ++ y ∷ ys) ≡ last_id (y ∷ ys)
last-behind [] y ys = refl
last-behind (x ∷ []) y ys = refl
last-behind (x ∷ z ∷ xs) y ys = last-behind (z ∷ xs) y ys

last-of : (xs : List ℕ) (is : List Instr) (k : ℕ) (d : Instr) → suc k ≡ length is → last_id (xs ++ ids_of is) ≡ Some (get_or is k d).id
last-of xs [] k d h = absurd (omega (arith, h))
last-of xs (i ∷ []) zero d h = last-more xs i.id
last-of xs (i ∷ []) (suc k) d h = absurd (omega (arith, h))
last-of xs (i ∷ j ∷ is) zero d h = absurd (omega (arith, h))
last-of xs (i ∷ j ∷ is) (suc k) d h = last-behind xs i.id (ids_of (j ∷ is)) ∙ last-of [] (j ∷ is) k d (omega (arith, h))

-- a block with some
pub last-found : (bs : List Block) (n k m : ℕ) (b : Block) (i : Instr) → n ≡ suc k → k < length bs → b ≡ get_or bs k b → suc m ≡ length b.instrs → i ≡ get_or b.instrs m i → Some i.id ≡ last_id (all_ids (take n bs))
last-found bs n k m b i f h e last own =
    ap (λ (j : Instr). Some j.id) own ∙ sym (ap last_id (ap (λ l. all_ids (take l bs)) f ∙ ids-one bs k b h e) ∙ last-of (all_ids (take k bs)) b.instrs m i last)

taken-one : (is : List Instr) (k : ℕ) (i : Instr) → slice_get is k ≡ Some i → ids_of (take (suc k) is) ≡ ids_of (take k is) ++ i.id ∷ []
taken-one [] k i e = absurd (cc)
taken-one (j ∷ is) zero i e = ap (λ (x : Instr). x.id ∷ []) (same_Some j i e)
taken-one (j ∷ is) (suc k) i e = ap (λ xs. j.id ∷ xs) (taken-one is k i e)

pub last-taken : (bs : List Block) (p n k : ℕ) (i : Instr) → n ≡ suc k → instr_at bs p k ≡ Some i → Some i.id ≡ last_id (ids_before bs p n)
last-taken bs p n k i f e =
    let front = all_ids (take p bs) in
    let is = instrs_at bs p in
    sym (ap last_id (ap (λ m. front ++ ids_of (take m is)) f ∙ (ap (λ xs. front ++ xs) (taken-one is k i e) ∙ sym (append_assoc front (ids_of (take k is)) (i.id ∷ [])))) ∙ last-more (front ++ ids_of (take k is)) i.id)

pub before-first : (bs : List Block) (p n : ℕ) → n ≤ 0 → last_id (all_ids (take p bs)) ≡ last_id (ids_before bs p n)
before-first bs p zero h = ap last_id (sym (append-nil (all_ids (take p bs))))
before-first bs p (suc n) h = absurd (omega (arith, h))

pub none-past : {X : Type 0} (xs : List X) (k : ℕ) → slice_get xs k ≡ None → length xs ≤ k
none-past [] k e = omega arith
none-past (x ∷ xs) zero e = absurd (cc)
none-past (x ∷ xs) (suc k) e = let h = none-past xs k e in omega (arith, h)

-- where an instruction stands

pub block-there : (bs : List Block) (p k : ℕ) (i : Instr) → instr_at bs p k ≡ Some i → (b : Block) × (slice_get bs p ≡ Some b) × (slice_get b.instrs k ≡ Some i)
block-there [] p k i e = absurd (cc)
block-there (b ∷ bs) zero k i e = (b, refl, e)
block-there (b ∷ bs) (suc p) k i e = block-there bs p k i e

pub instrs-there : (bs : List Block) (p : ℕ) (b : Block) → slice_get bs p ≡ Some b → instrs_at bs p ≡ b.instrs
instrs-there bs p b e = ap (λ (o : Option Block). option_map_or (λ (c : Block). c.instrs) o []) e

has-instr : (is : List Instr) (id : ℕ) → has id (ids_of is) ≡ true → (k : ℕ) × (i : Instr) × (slice_get is k ≡ Some i) × (i.id ≡ id)
has-instr [] id h = absurd (cc)
has-instr (j ∷ is) id h = go (nat_eq j.id id) refl h (has-instr is id)
  where
    go : (u : Bool) → nat_eq j.id id ≡ u → cond u true (has id (ids_of is)) ≡ true → (has id (ids_of is) ≡ true → (k : ℕ) × (i : Instr) × (slice_get is k ≡ Some i) × (i.id ≡ id)) → (k : ℕ) × (i : Instr) × (slice_get (j ∷ is) k ≡ Some i) × (i.id ≡ id)
    go true e f rest = (0, j, refl, eqb-true j.id id e)
    go false e f rest = let z = rest f in (suc z.0, z.1, z.2, z.3)

-- the place that a search answers is that of the gap
pub gap-found : (f : Function) (gap : Gap) (p id place : ℕ) → IsFunction f.blocks f.next_id → gap.before ≡ Some id → p ≡ block_place gap.block f.blocks → HasGap f gap
    → ((k : ℕ) (i : Instr) → instr_at f.blocks p k ≡ Some i → i.id ≡ id → place ≡ k) → place ≡ gap_place (Some id) (instrs_at f.blocks p)
gap-found f gap p id place is e here there found =
    let own : has id (ids_of (instrs_at f.blocks p)) ≡ true = subst (λ q. has id (ids_of (instrs_at f.blocks q)) ≡ true) (sym here) (there.before id e) in
    let z = has-instr (instrs_at f.blocks p) id own in
    found z.0 z.1 z.2 z.3 ∙ (sym (gap_before_is f p z.0 z.1 is z.2) ∙ ap (λ j. gap_place (Some j) (instrs_at f.blocks p)) z.3)

-- the position of a block that is there
pub block-position : (n : ℕ) (bs : List Block) → block_place n bs < length bs → place_of n bs ≡ Some (block_place n bs)
block-position n [] h = absurd (omega (arith, h))
block-position n (b ∷ bs) h = go (nat_eq b.number n) h (block-position n bs)
  where
    go : (u : Bool) → cond (not u) (1 + block_place n bs) 0 < suc (length bs) → (block_place n bs < length bs → place_of n bs ≡ Some (block_place n bs))
        → cond {A = Option ℕ} u (Some 0) (elim (place_of n bs) as (λ o. Option ℕ) [ None ↦ None | Some x ↦ Some (suc x) ]) ≡ Some (cond (not u) (1 + block_place n bs) 0)
    go true k rest = refl
    go false k rest =
        let less : block_place n bs < length bs = omega (arith, k) in
        ap (λ (o : Option ℕ). elim o as (λ o. Option ℕ) [ None ↦ None | Some x ↦ Some (suc x) ]) (rest less) ∙ (let one : suc (block_place n bs) ≡ 1 + block_place n bs = omega arith in ap Some one)

pub gap-position : (f : Function) (o : Order) (gap : Gap) → IsOrderOf f o → HasGap f gap → (q : Option ℕ) → q ≡ place_of gap.block f.blocks → q ≡ Some (block_place gap.block f.blocks)
gap-position f o gap order there q e = e ∙ block-position gap.block f.blocks there.block

-- the numbers of the instructions of each block rise, and fit 64 bits
abbrev pub AreAllRising : Function → Order → Type 0
AreAllRising f o = (p : ℕ) (b : Block) → slice_get f.blocks p ≡ Some b → AreRising o.slots 0 (ids_of b.instrs)

pub all-rising : (f : Function) (o : Order) → IsFunction f.blocks f.next_id → IsOrderOf f o → low_end (last_id (ids o.slots)) o.slots < 18446744073709551616 → AreAllRising f o
all-rising f o is order small = block-rising o.slots f.blocks order.numbered small (once-single f.blocks f.next_id is) order.layout

-- what stands at the place that a search answers is the instruction, if there is one
pub found-none : (f : Function) (o : Order) (id p k : ℕ) → IsOrderOf f o → p ≡ slice_index o.block_of.items id
    → ((j : ℕ) (i : Instr) → instr_at f.blocks p j ≡ Some i → i.id ≡ id → k ≡ j) → ((i : Instr) → instr_at f.blocks p k ≡ Some i → i.id ≡ id → ⊥) → IsPlaceOf f id None
found-none f o id p k order at found other q j i e own =
    let b = block-there f.blocks q j i e in
    let home : slice_index o.block_of.items id ≡ q = order.homes q b.0 id b.1 (id-there b.0.instrs j i id b.2 own) in
    let here : instr_at f.blocks p j ≡ Some i = ap (λ n. instr_at f.blocks n j) (at ∙ home) ∙ e in
    other i (ap (λ n. instr_at f.blocks p n) (found j i here own) ∙ here) own

pub rising-at : (f : Function) (o : Order) (p k : ℕ) (i : Instr) → AreAllRising f o → instr_at f.blocks p k ≡ Some i → AreRising o.slots 0 (ids_of (instrs_at f.blocks p))
rising-at f o p k i rising e = let b = block-there f.blocks p k i e in subst (λ is. AreRising o.slots 0 (ids_of is)) (sym (instrs-there f.blocks p b.0 b.1)) (rising p b.0 b.1)
