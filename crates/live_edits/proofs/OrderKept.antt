-- Instructions stay in their order while others come among them.
use Rattle.std.proofs.Common.{◌≡◌, ◌∙◌, ◌<◌, ◌≤◌, ◌⊎◌, inl, inr, ⊎_elim, ℕ, zero, suc, true, false, length, List, [], ◌∷◌, ◌++◌, map, refl, sym, ap, subst, eqb, eqb-true, arith}
use Rattle.std.specs.List.{insert, AllByRecursion, IsDistinct}
use Rattle.std.proofs.lemmas.Bool.{cases_Bool, cases_order}
use Rattle.std.proofs.lemmas.Map.Keys.{IsDistinct-head, IsDistinct-tail}
use Rattle.slot_index.specs.Order.{ids, place, number_of, Has, IsNumbered}
use Rattle.slot_index.proofs.Ordered.{numbers_tell_order}
use Rattle.mir_func.specs.declared.func.Block.{Block}
use Rattle.mir_func.specs.declared.func.Instr.{Instr}
use Rattle.mir_func.specs.Value.{Function}
use Rattle.mir_func.specs.Edits.{update, put, made, gap_place, instr_place, changed_in, block_place}
use Rattle.live_lanes.specs.declared.live.LiveFunc.{LiveFunc}
use Rattle.live_lanes.specs.declared.order.Order.{Order}
use Rattle.live_lanes.specs.declared.table.Table.{Table}
use Rattle.live_lanes.specs.Ordered.{all_ids, ids_of}
use Rattle.live_lanes.specs.Table.{Numbers}
use Rattle.edit_laws.specs.Deferred.{deferred, all_deferred}
use Rattle.edit_laws.specs.Edits.{Edit, Put, Replace, Erase, with_op}
use Rattle.live_edits.specs.declared.draft.Draft.{Draft}
use Rattle.live_edits.specs.declared.live.EditChanges.{EditChanges}
use Rattle.live_edits.specs.Drafts.{KeepsOrder}
use Rattle.live_edits.specs.LiveRuns.{IsBegun}

-- a list with further ids among its own
data IsWithin : List ℕ → List ℕ → Type 0 where
  within_none : IsWithin [] []
  within_both : {x : ℕ} {xs ys : List ℕ} → IsWithin xs ys → IsWithin (x ∷ xs) (x ∷ ys)
  within_more : {y : ℕ} {xs ys : List ℕ} → IsWithin xs ys → IsWithin xs (y ∷ ys)

within-same : (xs : List ℕ) → IsWithin xs xs
within-same [] = within_none
within-same (x ∷ xs) = within_both (within-same xs)

within-then : {xs ys zs : List ℕ} → IsWithin xs ys → IsWithin ys zs → IsWithin xs zs
within-then p within_none = p
within-then p (within_more q) = within_more (within-then p q)
within-then (within_both p) (within_both q) = within_both (within-then p q)
within-then (within_more p) (within_both q) = within_more (within-then p q)

within-append : {xs ys us vs : List ℕ} → IsWithin xs ys → IsWithin us vs → IsWithin (xs ++ us) (ys ++ vs)
within-append within_none q = q
within-append (within_both p) q = within_both (within-append p q)
within-append (within_more p) q = within_more (within-append p q)

-- places

place-first : (x id : ℕ) (xs : List ℕ) → eqb x id ≡ true → place id (x ∷ xs) ≡ 0
place-first x id xs e = rw e refl

place-later : (x id : ℕ) (xs : List ℕ) → eqb x id ≡ false → place id (x ∷ xs) ≡ suc (place id xs)
place-later x id xs e = rw e (omega arith)

within-has : {xs ys : List ℕ} → IsWithin xs ys → (id : ℕ) → place id xs < length xs → place id ys < length ys
within-has within_none id h = h
within-has (within_both {x} {xs} {ys} p) id h =
    ⊎_elim (λ e. let f = place-first x id ys e in omega (arith, f))
    (λ e. let f = place-later x id ys e in let g = place-later x id xs e in let rest = within-has p id (omega (arith, g, h)) in omega (arith, f, rest))
    (cases_Bool (eqb x id))
within-has (within_more {y} {xs} {ys} p) id h =
    ⊎_elim (λ e. let f = place-first y id ys e in omega (arith, f))
    (λ e. let f = place-later y id ys e in let rest = within-has p id h in omega (arith, f, rest))
    (cases_Bool (eqb y id))

other-first : (y : ℕ) (ys : List ℕ) (id : ℕ) → AllByRecursion (λ z. eqb y z ≡ false) ys → place id ys < length ys → eqb y id ≡ false
other-first y [] id a h = absurd (omega arith)
other-first y (z ∷ ys) id a h =
    ⊎_elim (λ e. subst (λ n. eqb y n ≡ false) (eqb-true z id e) a.0)
    (λ e. let f = place-later z id ys e in other-first y ys id a.1 (omega (arith, f, h)))
    (cases_Bool (eqb z id))

within-place : {xs ys : List ℕ} → IsWithin xs ys → IsDistinct eqb ys → (a b : ℕ) → place a xs < length xs → place b xs < length xs → place a xs < place b xs → place a ys < place b ys
within-place within_none d a b ha hb lt = lt
within-place (within_both {x} {xs} {ys} p) d a b ha hb lt =
    ⊎_elim (λ f. let g = place-first x b xs f in absurd (omega (arith, g, lt)))
    (λ f.
    let later = place-later x b ys f in
    let later' = place-later x b xs f in
    ⊎_elim (λ e. let g = place-first x a ys e in omega (arith, g, later))
    (λ e.
    let g = place-later x a ys e in
    let g' = place-later x a xs e in
    let rest = within-place p (IsDistinct-tail eqb x ys d) a b (omega (arith, g', ha)) (omega (arith, later', hb)) (omega (arith, g', later', lt)) in
    omega (arith, g, later, rest))
    (cases_Bool (eqb x a)))
    (cases_Bool (eqb x b))
within-place (within_more {y} {xs} {ys} p) d a b ha hb lt =
    let all = IsDistinct-head eqb y ys d in
    let f = place-later y a ys (other-first y ys a all (within-has p a ha)) in
    let g = place-later y b ys (other-first y ys b all (within-has p b hb)) in
    let rest = within-place p (IsDistinct-tail eqb y ys d) a b ha hb lt in
    omega (arith, f, g, rest)

-- each id has a place of its own
place-single : (xs : List ℕ) (a b : ℕ) → place a xs ≡ place b xs → place a xs < length xs → a ≡ b
place-single [] a b e h = absurd (omega arith)
place-single (x ∷ xs) a b e h =
    ⊎_elim
    (λ f.
    let p = place-first x a xs f in
    ⊎_elim (λ g. sym (eqb-true x a f) ∙ eqb-true x b g) (λ g. let q = place-later x b xs g in absurd (omega (arith, p, q, e))) (cases_Bool (eqb x b)))
    (λ f.
    let p = place-later x a xs f in
    ⊎_elim (λ g. let q = place-first x b xs g in absurd (omega (arith, p, q, e))) (λ g. let q = place-later x b xs g in place-single xs a b (omega (arith, p, q, e)) (omega (arith, p, h))) (cases_Bool (eqb x b)))
    (cases_Bool (eqb x a))

-- of two ids of an order, the one comes before the other, or they are the same, or it comes behind
order-within : (x y : Numbers) → IsNumbered x → IsNumbered y → IsWithin (ids x) (ids y) → KeepsOrder x y
order-within x y n m w = record {
  stays = within-has w;
  before = before;
  not_behind = λ a b ha hb le. ⊎_elim (λ lt. let z = before a b ha hb lt in omega (arith, z)) (λ same. let z = ap (number_of y) (place-single (ids x) a b same ha) in omega (arith, z)) (places a b ha hb le);
}
  where
    before : (a b : ℕ) → Has x a → Has x b → number_of x a < number_of x b → number_of y a < number_of y b
    before a b ha hb lt = (numbers_tell_order y m.rising a b (within-has w a ha) (within-has w b hb)).1 (within-place w m.distinct a b ha hb ((numbers_tell_order x n.rising a b ha hb).0 lt))

    places : (a b : ℕ) → Has x a → Has x b → number_of x a ≤ number_of x b → (number_of x a < number_of x b) ⊎ (place a (ids x) ≡ place b (ids x))
    places a b ha hb le = go (cases_order (place a (ids x)) (place b (ids x)))
      where
        go : (place a (ids x) ≡ place b (ids x)) ⊎ ((place a (ids x) < place b (ids x)) ⊎ (place b (ids x) < place a (ids x))) → (number_of x a < number_of x b) ⊎ (place a (ids x) ≡ place b (ids x))
        go (inl e) = inr e
        go (inr (inl lt)) = inl ((numbers_tell_order x n.rising a b ha hb).1 lt)
        go (inr (inr gt)) = absurd (let z = (numbers_tell_order x n.rising b a hb ha).1 gt in omega (arith, z, le))

-- the ids of a function's instructions over edits

ids-put : (is : List Instr) (n : ℕ) (x : Instr) → IsWithin (ids_of is) (ids_of (insert is n x))
ids-put is zero x = within_more (within-same (ids_of is))
ids-put [] (suc n) x = within_more within_none
ids-put (i ∷ is) (suc n) x = within_both (ids-put is n x)

ids-changed : (g : Instr → Instr) → ((i : Instr) → (g i).id ≡ i.id) → (k : ℕ) (is : List Instr) → ids_of (update k g is) ≡ ids_of is
ids-changed g keeps k [] = refl
ids-changed g keeps zero (i ∷ is) = ap (λ n. n ∷ ids_of is) (keeps i)
ids-changed g keeps (suc k) (i ∷ is) = ap (λ ns. i.id ∷ ns) (ids-changed g keeps k is)

module _ (h : Block → Block) (within : (b : Block) → IsWithin (ids_of b.instrs) (ids_of (h b).instrs)) where
  all-updated : (p : ℕ) (bs : List Block) → IsWithin (all_ids bs) (all_ids (update p h bs))
  all-updated p [] = within_none
  all-updated zero (b ∷ bs) = within-append (within b) (within-same (all_ids bs))
  all-updated (suc p) (b ∷ bs) = within-append (within-same (ids_of b.instrs)) (all-updated p bs)

  all-mapped : (bs : List Block) → IsWithin (all_ids bs) (all_ids (map h bs))
  all-mapped [] = within_none
  all-mapped (b ∷ bs) = within-append (within b) (all-mapped bs)

deferred-within : (f : Function) (e : Edit) → IsWithin (all_ids f.blocks) (all_ids (deferred f e).blocks)
deferred-within f (Put gap op os) =
    all-updated (put gap.before (made f.next_id op os)) (λ b. ids-put b.instrs (gap_place gap.before b.instrs) (made f.next_id op os)) (block_place gap.block f.blocks) f.blocks
deferred-within f (Replace id op os) =
    all-mapped (changed_in id (with_op op os)) (λ b. subst (IsWithin (ids_of b.instrs)) (sym (ids-changed (with_op op os) (λ i. refl) (instr_place id b.instrs) b.instrs)) (within-same (ids_of b.instrs))) f.blocks
deferred-within f (Erase id) = within-same (all_ids f.blocks)

all-deferred-within : (f : Function) (es : List Edit) → IsWithin (all_ids f.blocks) (all_ids (all_deferred f es).blocks)
all-deferred-within f [] = within-same (all_ids f.blocks)
all-deferred-within f (e ∷ es) = within-then (deferred-within f e) (all-deferred-within (deferred f e) es)

-- over a run of edits, in which erased instructions still stand
pub begun-order : (es : List Edit) (old new : LiveFunc) (changes : EditChanges) → IsBegun es old new changes → KeepsOrder old.table.order.slots new.table.order.slots
begun-order es old new changes b =
    let z = b.done in
    let d = z.done in
    let does = d.edits.does in
    let drafts : b.last.draft ≡ d.done.draft = d.kept.draft in
    let order : b.last.draft.order ≡ new.table.order = ap (λ (y : Table). y.order) b.to.table in
    let first : d.edits.ready.draft.func ≡ old.func = d.edits.first.func ∙ (ap (λ (x : Draft). x.func) z.clears.takes.others.draft ∙ b.from.func) in
    let layout : ids new.table.order.slots ≡ all_ids (all_deferred old.func es).blocks =
    ap (λ (o : Order). ids o.slots) (sym order) ∙ (ap (λ (x : Draft). ids x.order.slots) drafts ∙ (does.order.layout ∙ (ap (λ (f : Function). all_ids f.blocks) does.func ∙ ap (λ (f : Function). all_ids (all_deferred f es).blocks) first))) in
    let numbered : IsNumbered new.table.order.slots =
    subst (λ (o : Order). IsNumbered o.slots) order (subst (λ (x : Draft). IsNumbered x.order.slots) (sym drafts) does.order.numbered) in
    let before = b.may.computed.layout in
    order-within old.table.order.slots new.table.order.slots b.may.computed.numbered numbered
    (subst (λ xs. IsWithin xs (ids new.table.order.slots)) (sym before) (subst (IsWithin (all_ids old.func.blocks)) (sym layout) (all-deferred-within old.func es)))
