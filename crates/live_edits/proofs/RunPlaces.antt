-- Where instructions stand in a function and in the function after an edit.
use Rattle.std.proofs.Common.{◌≡◌, ◌++◌, ◌∙◌, ◌<◌, ◌+◌, ℕ, zero, suc, Bool, true, false, List, [], ◌∷◌, Option, Some, map, take, drop, length, refl, sym, ap, subst, eqb-true, arith}
use Rattle.std.specs.Prelude.{nat_eq, slice_get}
use Rattle.std.specs.Option.{option_map_or}
use Rattle.std.specs.List.{insert}
use Rattle.std.proofs.lemmas.List.{length-map}
use Rattle.std.proofs.lemmas.List.Sums.{sum_by-cons}
use Rattle.std.proofs.lemmas.Option.{same_Some}
use Rattle.target_base.specs.declared.types.OpId.{OpId}
use Rattle.meaning.specs.Live.{Among as Member, here as first, there as later}
use Rattle.mir_func.specs.declared.func.Block.{Block}
use Rattle.mir_func.specs.declared.func.Gap.{Gap}
use Rattle.mir_func.specs.declared.func.Instr.{Instr}
use Rattle.mir_func.specs.declared.func.Operand.{Operand}
use Rattle.mir_func.specs.Value.{Function, IsFunction, id_count, id_total}
use Rattle.mir_func.specs.At.{instrs_at, instr_at}
use Rattle.mir_func.specs.Edits.{block_place, gap_place, instr_place, update, put, made, inserted, changed_in}
use Rattle.mir_func.proofs.ByPlace.{gap_before_is, place_behind}
use Rattle.mir_func.proofs.Counts.{id_count-update}
use Rattle.live_lanes.specs.declared.order.Order.{Order}
use Rattle.live_lanes.proofs.Finding.{home-of}
use Rattle.edit_laws.specs.Edits.{replaced, with_op}
use Rattle.live_edits.specs.Drafts.{IsOrderOf}

-- members and places

pub member-place : {X : Type 0} {x : X} {xs : List X} → Member x xs → (k : ℕ) × (slice_get xs k ≡ Some x)
member-place first = (0, refl)
member-place (later m) = let z = member-place m in (suc z.0, z.1)

pub place-member : {X : Type 0} (xs : List X) (k : ℕ) (x : X) → slice_get xs k ≡ Some x → Member x xs
place-member [] k x e = absurd (cc)
place-member (y ∷ ys) zero x e = subst (λ z. Member z (y ∷ ys)) (same_Some y x e) first
place-member (y ∷ ys) (suc k) x e = later (place-member ys k x e)

-- the block of an instruction
block-of : (bs : List Block) (p k : ℕ) (i : Instr) → instr_at bs p k ≡ Some i → (b : Block) × (slice_get bs p ≡ Some b) × (slice_get b.instrs k ≡ Some i)
block-of [] p k i e = absurd (cc)
block-of (b ∷ bs) zero k i e = (b, refl, e)
block-of (b ∷ bs) (suc p) k i e = block-of bs p k i e

pub in-block : (bs : List Block) (p k : ℕ) (b : Block) (i : Instr) → slice_get bs p ≡ Some b → slice_get b.instrs k ≡ Some i → instr_at bs p k ≡ Some i
in-block bs p k b i e h = ap (λ (o : Option Block). slice_get (option_map_or (λ (c : Block). c.instrs) o []) k) e ∙ h

-- an instruction stands at one place
pub one-place : (f : Function) (o : Order) → IsFunction f.blocks f.next_id → IsOrderOf f o → (p k q m : ℕ) (i j : Instr) → instr_at f.blocks p k ≡ Some i → instr_at f.blocks q m ≡ Some j → i.id ≡ j.id → (p ≡ q) × (k ≡ m) × (i ≡ j)
one-place f o is order p k q m i j at other same =
    let b = block-of f.blocks p k i at in
    let c = block-of f.blocks q m j other in
    let block : p ≡ q = sym (home-of f.blocks o.block_of.items p k b.0 i j.id order.homes b.1 b.2 same) ∙ home-of f.blocks o.block_of.items q m c.0 j j.id order.homes c.1 c.2 refl in
    let place : k ≡ m = sym (gap_before_is f p k i is at) ∙ ((λ u. gap_place (Some (same u)) (instrs_at f.blocks (block u))) ∙ gap_before_is f q m j is other) in
    (block, place, same_Some i j (sym at ∙ ((λ u. instr_at f.blocks (block u) (place u)) ∙ other)))

-- one more instruction

at-front : {X : Type 0} (xs ys : List X) → slice_get (xs ++ ys) (length xs) ≡ slice_get ys 0
at-front [] ys = refl
at-front (x ∷ xs) ys = at-front xs ys

inserted-there : {X : Type 0} (xs : List X) (n : ℕ) (x : X) → (k : ℕ) × (slice_get (insert xs n x) k ≡ Some x)
inserted-there xs n x = (length (take n xs), at-front (take n xs) (x ∷ drop n xs))

others-there : {X : Type 0} (xs : List X) (n : ℕ) (x y : X) (k : ℕ) → slice_get xs k ≡ Some y → (m : ℕ) × (slice_get (insert xs n x) m ≡ Some y)
others-there [] n x y k e = absurd (cc)
others-there (z ∷ xs) zero x y k e = (suc k, e)
others-there (z ∷ xs) (suc n) x y zero e = (0, e)
others-there (z ∷ xs) (suc n) x y (suc k) e = let m = others-there xs n x y k e in (suc m.0, m.1)

put-there : (bs : List Block) (p : ℕ) (before : Option ℕ) (x : Instr) → p < length bs → (k : ℕ) × (instr_at (update p (put before x) bs) p k ≡ Some x)
put-there [] p before x h = absurd (omega (arith, h))
put-there (b ∷ bs) zero before x h = inserted-there b.instrs (gap_place before b.instrs) x
put-there (b ∷ bs) (suc p) before x h = put-there bs p before x (omega (arith, h))

put-others : (bs : List Block) (p : ℕ) (before : Option ℕ) (x i : Instr) (q m : ℕ) → instr_at bs q m ≡ Some i → (k : ℕ) × (instr_at (update p (put before x) bs) q k ≡ Some i)
put-others [] p before x i q m e = absurd (cc)
put-others (b ∷ bs) zero before x i zero m e = others-there b.instrs (gap_place before b.instrs) x i m e
put-others (b ∷ bs) zero before x i (suc q) m e = (m, e)
put-others (b ∷ bs) (suc p) before x i zero m e = (m, e)
put-others (b ∷ bs) (suc p) before x i (suc q) m e = put-others bs p before x i q m e

-- a new instruction stands in the block of its gap
pub new-stands : (f : Function) (gap : Gap) (op : OpId) (os : List Operand) → block_place gap.block f.blocks < length f.blocks → (k : ℕ) × (instr_at (inserted f gap op os).blocks (block_place gap.block f.blocks) k ≡ Some (made f.next_id op os))
new-stands f gap op os h = put-there f.blocks (block_place gap.block f.blocks) gap.before (made f.next_id op os) h

-- all others still stand, each in its block
pub others-stand : (f : Function) (gap : Gap) (op : OpId) (os : List Operand) (q m : ℕ) (i : Instr) → instr_at f.blocks q m ≡ Some i → (k : ℕ) × (instr_at (inserted f gap op os).blocks q k ≡ Some i)
others-stand f gap op os q m i e = put-others f.blocks (block_place gap.block f.blocks) gap.before (made f.next_id op os) i q m e

-- a changed instruction

update-at : (g : Instr → Instr) (is : List Instr) (n : ℕ) (i : Instr) → slice_get is n ≡ Some i → slice_get (update n g is) n ≡ Some (g i)
update-at g [] n i e = absurd (cc)
update-at g (x ∷ xs) zero i e = ap (λ y. Some (g y)) (same_Some x i e)
update-at g (x ∷ xs) (suc n) i e = update-at g xs n i e

map-at : (g : Instr → Instr) (id : ℕ) (bs : List Block) (p k : ℕ) (i : Instr) → instr_at bs p k ≡ Some i → instr_place id (instrs_at bs p) ≡ k → instr_at (map (changed_in id g) bs) p k ≡ Some (g i)
map-at g id [] p k i e at = absurd (cc)
map-at g id (b ∷ bs) zero k i e at = ap (λ n. slice_get (update n g b.instrs) k) at ∙ update-at g b.instrs k i e
map-at g id (b ∷ bs) (suc p) k i e at = map-at g id bs p k i e at

-- the one of that id is changed
pub changed-there : (f : Function) (id : ℕ) (op : OpId) (os : List Operand) (p k : ℕ) (i : Instr) → IsFunction f.blocks f.next_id → instr_at f.blocks p k ≡ Some i → i.id ≡ id → instr_at (replaced f id op os).blocks p k ≡ Some (with_op op os i)
changed-there f id op os p k i is at own = map-at (with_op op os) id f.blocks p k i at (sym (ap (λ n. instr_place n (instrs_at f.blocks p)) own) ∙ gap_before_is f p k i is at)

-- all others stay
update-other : (g : Instr → Instr) (id : ℕ) (is : List Instr) (m : ℕ) (i : Instr) → slice_get is m ≡ Some i → (i.id ≡ id → ⊥) → slice_get (update (instr_place id is) g is) m ≡ Some i
update-other g id [] m i e other = absurd (cc)
update-other g id (x ∷ xs) m i e other = go (nat_eq x.id id) refl m e (λ k h. update-other g id xs k i h other)
  where
    go : (u : Bool) → nat_eq x.id id ≡ u → (n : ℕ) → slice_get (x ∷ xs) n ≡ Some i → ((k : ℕ) → slice_get xs k ≡ Some i → slice_get (update (instr_place id xs) g xs) k ≡ Some i) → slice_get (update (place_behind (instr_place id xs) u) g (x ∷ xs)) n ≡ Some i
    go true f zero h ih = absurd (other (ap (λ (y : Instr). y.id) (sym (same_Some x i h)) ∙ eqb-true x.id id f))
    go true f (suc n) h ih = h
    go false f zero h ih = let next : suc (instr_place id xs) ≡ 1 + instr_place id xs = omega arith in subst (λ k. slice_get (update k g (x ∷ xs)) 0 ≡ Some i) next h
    go false f (suc n) h ih = let next : suc (instr_place id xs) ≡ 1 + instr_place id xs = omega arith in subst (λ k. slice_get (update k g (x ∷ xs)) (suc n) ≡ Some i) next (ih n h)

map-other : (g : Instr → Instr) (id : ℕ) (bs : List Block) (q m : ℕ) (i : Instr) → instr_at bs q m ≡ Some i → (i.id ≡ id → ⊥) → instr_at (map (changed_in id g) bs) q m ≡ Some i
map-other g id [] q m i e other = absurd (cc)
map-other g id (b ∷ bs) zero m i e other = update-other g id b.instrs m i e other
map-other g id (b ∷ bs) (suc q) m i e other = map-other g id bs q m i e other

pub other-stays : (f : Function) (id : ℕ) (op : OpId) (os : List Operand) (q m : ℕ) (i : Instr) → instr_at f.blocks q m ≡ Some i → (i.id ≡ id → ⊥) → instr_at (replaced f id op os).blocks q m ≡ Some i
other-stays f id op os q m i e other = map-other (with_op op os) id f.blocks q m i e other

totals-stay : (g : Instr → Instr) → ((i : Instr) → (g i).id ≡ i.id) → (id x : ℕ) (bs : List Block) → id_total x (map (changed_in id g) bs) ≡ id_total x bs
totals-stay g keeps id x [] = refl
totals-stay g keeps id x (b ∷ bs) =
    omega (arith, sum_by-cons (λ (c : Block). id_count x c.instrs) b bs, sum_by-cons (λ (c : Block). id_count x c.instrs) (changed_in id g b) (map (changed_in id g) bs), id_count-update g keeps x (instr_place id b.instrs) b.instrs, totals-stay g keeps id x bs)

-- ids stay distinct
pub replaced-function : (f : Function) (id : ℕ) (op : OpId) (os : List Operand) → IsFunction f.blocks f.next_id → IsFunction (replaced f id op os).blocks (replaced f id op os).next_id
replaced-function f id op os is = record {
  nonempty = omega (arith, is.nonempty, length-map f.blocks (changed_in id (with_op op os)));
  once = λ x. omega (arith, is.once x, totals-stay (with_op op os) (λ j. refl) id x f.blocks);
}
