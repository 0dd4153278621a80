-- What steps of the order of instructions ask and give.
use Rattle.std.proofs.Common.{◌≡◌, ◌∷◌, ◌++◌, ◌∙◌, ◌+◌, ◌<◌, not, ℕ, zero, suc, Bool, true, false, cond, length, List, [], Option, Some, None, refl, sym, ap, subst, take, drop, append_assoc, arith, eqb-true}
use Rattle.std.specs.Prelude.{◌≢◌, IfSome, nat_eq}
use Rattle.std.specs.List.{remove}
use Rattle.slot_index.specs.Order.{ids, number_of, place, place_after}
use Rattle.mir_func.specs.declared.func.Block.{Block}
use Rattle.mir_func.specs.Edits.{block_place, gap_place}
use Rattle.mir_func.specs.At.{instrs_at}
use Rattle.live_lanes.specs.Table.{Numbers}
use Rattle.live_lanes.specs.Ordered.{AreSingle, all_ids, ids_of, last_id, times}
use Rattle.live_lanes.proofs.Ordered.{once-single, single-left, times-total}
use Rattle.edit_laws.specs.Ordering.{ids_before, ids_before_gap}
use Rattle.edit_laws.specs.OrderSteps.{OpenLaw, RemovedLaw}
use Rattle.edit_laws.proofs.Ordering.{after-length, ids-split, next-none}

length-both : (xs ys : List ℕ) → length (xs ++ ys) ≡ length xs + length ys
length-both [] ys = omega arith
length-both (x ∷ xs) ys = omega (arith, length-both xs ys)

-- an id that doesn't stand in a list has no place there
no-place : (id : ℕ) (xs : List ℕ) → times id xs ≡ 0 → place id xs < length xs → ⊥
no-place id [] none h = omega (arith, h)
no-place id (x ∷ xs) none h = go (nat_eq x id) none h (no-place id xs)
  where
    go : (u : Bool) → cond u (suc (times id xs)) (times id xs) ≡ 0 → cond (not u) (1 + place id xs) 0 < suc (length xs) → (times id xs ≡ 0 → place id xs < length xs → ⊥) → ⊥
    go true n k rest = omega (arith, n)
    go false n k rest = let less : place id xs < length xs = omega (arith, k) in rest n less

last-stands : (xs ys zs : List ℕ) → AreSingle xs → zs ≡ xs ++ ys → IfSome (last_id xs) (λ z. place z zs < length zs)
last-stands xs ys zs single e = go (last_id xs) (after-length xs ys single)
  where
    go : (q : Option ℕ) → place_after q (xs ++ ys) ≡ length xs → IfSome q (λ z. place z zs < length zs)
    go None h = tt
    go (Some z) h =
        let own : place z (xs ++ ys) + 1 ≡ length xs = h in
        let less : place z (xs ++ ys) < length (xs ++ ys) = omega (arith, own, length-both xs ys) in
        subst (λ us. place z us < length us) (sym e) less

-- the ids on both sides of a gap
abbrev Parts : Option ℕ → ℕ → List Block → Type 0
Parts before p bs = (ys : List ℕ) × (all_ids bs ≡ ids_before bs p (gap_place before (instrs_at bs p)) ++ ys)

parts : (before : Option ℕ) (p : ℕ) (bs : List Block) → p < length bs → Parts before p bs
parts before p [] h = absurd (omega (arith, h))
parts before zero (b ∷ bs) h =
    let n = gap_place before b.instrs in
    (ids_of (drop n b.instrs) ++ all_ids bs, ap (λ ns. ns ++ all_ids bs) (ids-split n b.instrs) ∙ append_assoc (ids_of (take n b.instrs)) (ids_of (drop n b.instrs)) (all_ids bs))
parts before (suc p) (b ∷ bs) h =
    let less : p < length bs = omega (arith, h) in
    let z : Parts before p bs = parts before p bs less in
    let own = ids_of b.instrs in
    let front = all_ids (take p bs) in
    let inner = ids_of (take (gap_place before (instrs_at bs p)) (instrs_at bs p)) in
    (z.0, ap (λ ns. own ++ ns) z.1 ∙ (sym (append_assoc own (front ++ inner) z.0) ∙ ap (λ ns. ns ++ z.0) (sym (append_assoc own front inner))))

pub open-law : OpenLaw
open-law t f gap x is there o =
    let none : times f.next_id (ids x.order.slots) ≡ 0 = ap (times f.next_id) o.layout ∙ (times-total f.next_id f.blocks ∙ next-none f.blocks f.next_id is) in
    let z : Parts gap.before (block_place gap.block f.blocks) f.blocks = parts gap.before (block_place gap.block f.blocks) f.blocks there in
    let single : AreSingle (ids_before_gap f gap ++ z.0) = subst AreSingle z.1 (once-single f.blocks f.next_id is) in
    record {
      absent = no-place f.next_id (ids x.order.slots) none;
      before = last-stands (ids_before_gap f gap) z.0 (ids x.order.slots) (single-left (ids_before_gap f gap) z.0 single) (o.layout ∙ z.1);
    }

-- an id that goes

one-more : (n : ℕ) → 1 + n ≡ suc n
one-more n = omega arith

drop-none : {X : Type 0} (xs : List X) → drop 0 xs ≡ xs
drop-none [] = refl
drop-none (x ∷ xs) = refl

ids-removed : (n : ℕ) (slots : Numbers) → ids (remove slots n) ≡ remove (ids slots) n
ids-removed zero [] = refl
ids-removed (suc n) [] = refl
ids-removed zero (s ∷ []) = refl
ids-removed zero (s ∷ r ∷ slots) = refl
ids-removed (suc n) (s ∷ slots) = ap (λ xs. s.1 ∷ xs) (ids-removed n slots)

numbers-kept : (id x : ℕ) (slots : Numbers) → (nat_eq id x ≡ false) → number_of (remove slots (place id (ids slots))) x ≡ number_of slots x
numbers-kept id x [] other = refl
numbers-kept id x (s ∷ slots) other = go (nat_eq s.1 id) refl (numbers-kept id x slots other)
  where
    go : (u : Bool) → nat_eq s.1 id ≡ u → number_of (remove slots (place id (ids slots))) x ≡ number_of slots x → number_of (remove (s ∷ slots) (cond (not u) (1 + place id (ids slots)) 0)) x ≡ cond (nat_eq s.1 x) s.0 (number_of slots x)
    go true e rest = ap (λ ns. number_of ns x) (drop-none slots) ∙ sym (ap (λ v. cond v s.0 (number_of slots x)) (ap (λ k. nat_eq k x) (eqb-true s.1 id e) ∙ other))
    go false e rest = ap (λ n. number_of (remove (s ∷ slots) n) x) (one-more (place id (ids slots))) ∙ ap (λ m. cond (nat_eq s.1 x) s.0 m) rest

not-same : (id x : ℕ) → x ≢ id → nat_eq id x ≡ false
not-same id x other = go (nat_eq id x) refl
  where
    go : (u : Bool) → nat_eq id x ≡ u → u ≡ false
    go true e = absurd (other (sym (eqb-true id x e)))
    go false e = refl

pub removed-law : RemovedLaw
removed-law slots id = record { order = ids-removed (place id (ids slots)) slots; numbers = λ x other. numbers-kept id x slots (not-same id x other) }
