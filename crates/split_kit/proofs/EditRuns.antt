-- Edits that are done one after the other, each at a place of its own, and none of which erases.
use Rattle.std.proofs.Common.{◌≡◌, ◌∷◌, ◌++◌, ◌+◌, ◌≤◌, ◌<◌, ℕ, zero, suc, Bool, true, false, cond, List, [], Option, eqb-true, refl, ap, length, take, drop, arith}
use Rattle.std.specs.Prelude.{nat_eq, nat_lt}
use Rattle.std.specs.List.{insert}
use Rattle.std.proofs.lemmas.Bool.{ltb-true, ltb-false}
use Rattle.std.proofs.lemmas.List.Sums.{sum_by-append, sum_by-cons, sum_by-take-drop}
use Rattle.target_base.specs.declared.types.OpId.{OpId}
use Rattle.target_base.specs.declared.types.Target.{Target}
use Rattle.mir_func.specs.declared.func.Block.{Block}
use Rattle.mir_func.specs.declared.func.Gap.{Gap}
use Rattle.mir_func.specs.declared.func.Instr.{Instr}
use Rattle.mir_func.specs.declared.func.Operand.{Operand}
use Rattle.mir_func.specs.Value.{Function, IsFunction, id_count, id_total}
use Rattle.mir_func.specs.Edits.{block_place, gap_place, inserted, made, put, update}
use Rattle.edit_laws.specs.Deferred.{SpareGone}
use Rattle.edit_laws.specs.Edits.{Edit, Put, Replace, Erase, KeepsWays, all_edited, edited}
use Rattle.live_edits.specs.Runs.{HasPlace, HavePlaces}

-- the edit puts or replaces
abbrev pub Stays : Edit → Type 0
Stays (Put gap op os) = Unit {0}
Stays (Replace id op os) = Unit {0}
Stays (Erase id) = ⊥

pub data IsRun (t : Target) : Function → List Edit → Function → Type 0 where
  ended : {f : Function} → IsRun t f [] f
  goes : {f g : Function} {e : Edit} {es : List Edit} → HasPlace f e → KeepsWays t f e → Stays e → IsRun t (edited f e) es g → IsRun t f (e ∷ es) g

pub run-all : (t : Target) (f g : Function) (es : List Edit) → IsRun t f es g → all_edited f es ≡ g
run-all t f g [] ended = refl
run-all t f g (e ∷ es) (goes p k s r) = run-all t (edited f e) g es r

pub run-places : (t : Target) (f g : Function) (es : List Edit) → IsRun t f es g → HavePlaces t f es
run-places t f g [] ended = tt
run-places t f g (Put gap op os ∷ es) (goes p k s r) = (p, k, run-places t (edited f (Put gap op os)) g es r)
run-places t f g (Replace id op os ∷ es) (goes p k s r) = (p, k, run-places t (edited f (Replace id op os)) g es r)
run-places t f g (Erase id ∷ es) (goes p k s r) = absurd s

pub run-spares : (t : Target) (f g : Function) (es : List Edit) → IsRun t f es g → SpareGone [] f es
run-spares t f g [] ended = tt
run-spares t f g (Put gap op os ∷ es) (goes p k s r) = ((λ id h. absurd (cc)), run-spares t (edited f (Put gap op os)) g es r)
run-spares t f g (Replace id op os ∷ es) (goes p k s r) = ((λ id h. absurd (cc)), run-spares t (edited f (Replace id op os)) g es r)
run-spares t f g (Erase id ∷ es) (goes p k s r) = absurd s

pub run-then : (t : Target) (f g h : Function) (es fs : List Edit) → IsRun t f es g → IsRun t g fs h → IsRun t f (es ++ fs) h
run-then t f g h [] fs ended q = q
run-then t f g h (e ∷ es) fs (goes p k s r) q = goes p k s (run-then t (edited f e) g h es fs r q)

-- ids stay distinct where one is put in

total-first : (x : ℕ) (b : Block) (bs : List Block) → id_total x (b ∷ bs) ≡ id_count x b.instrs + id_total x bs
total-first x b bs = sum_by-cons (λ (c : Block). id_count x c.instrs) b bs

abbrev one_if : Bool → ℕ
one_if u = cond u 1 0

put-count : (x k : ℕ) (i : Instr) (is : List Instr) → id_count x (insert is k i) ≡ one_if (nat_eq i.id x) + id_count x is
put-count x k i is =
    let w : Instr → ℕ = λ (j : Instr). one_if (nat_eq j.id x) in
    omega (arith, sum_by-append w (take k is) (i ∷ drop k is), sum_by-cons w i (drop k is), sum_by-take-drop w is k)

put-total : (x p : ℕ) (before : Option ℕ) (i : Instr) (bs : List Block) → id_total x (update p (put before i) bs) ≤ one_if (nat_eq i.id x) + id_total x bs
put-total x p before i [] = omega arith
put-total x zero before i (b ∷ bs) = omega (arith, total-first x (put before i b) bs, total-first x b bs, put-count x (gap_place before b.instrs) i b.instrs)
put-total x (suc p) before i (b ∷ bs) = omega (arith, total-first x b (update p (put before i) bs), total-first x b bs, put-total x p before i bs)

update-length : {X : Type 0} (f : X → X) (p : ℕ) (xs : List X) → length (update p f xs) ≡ length xs
update-length f p [] = refl
update-length f zero (x ∷ xs) = refl
update-length f (suc p) (x ∷ xs) = ap suc (update-length f p xs)

once-more : (x n k : ℕ) → k ≤ one_if (nat_lt x n) → one_if (nat_eq n x) + k ≤ one_if (nat_lt x (n + 1))
once-more x n k few = go (nat_eq n x) (nat_lt x n) (nat_lt x (n + 1)) refl refl refl few
  where
    go : (u v w : Bool) → nat_eq n x ≡ u → nat_lt x n ≡ v → nat_lt x (n + 1) ≡ w → k ≤ one_if v → one_if u + k ≤ one_if w
    go true true w a b c d = absurd (let z : n ≡ x = eqb-true n x a in let y : x < n = ltb-true x n b in omega arith)
    go true false true a b c d = omega (arith, d)
    go true false false a b c d = absurd (let z : n ≡ x = eqb-true n x a in let y : n + 1 ≤ x = ltb-false x (n + 1) c in omega arith)
    go false true true a b c d = omega (arith, d)
    go false true false a b c d = absurd (let y : n + 1 ≤ x = ltb-false x (n + 1) c in let z : x < n = ltb-true x n b in omega arith)
    go false false w a b c d = omega (arith, d)

pub inserted-function : (f : Function) (gap : Gap) (op : OpId) (os : List Operand) → IsFunction f.blocks f.next_id → IsFunction (inserted f gap op os).blocks (inserted f gap op os).next_id
inserted-function f gap op os is = record {
  nonempty = omega (arith, is.nonempty, update-length (put gap.before (made f.next_id op os)) (block_place gap.block f.blocks) f.blocks);
  once = λ x. omega (arith, put-total x (block_place gap.block f.blocks) gap.before (made f.next_id op os) f.blocks, once-more x f.next_id (id_total x f.blocks) (is.once x));
}
