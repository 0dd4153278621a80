-- Instructions that are erased may go at last, and no instruction of their ids is left then.
use Rattle.std.proofs.Common.{◌≡◌, ◌∷◌, ◌++◌, ◌∙◌, ◌+◌, ◌≤◌, ◌<◌, not, ℕ, zero, suc, Bool, true, false, cond, List, [], Option, refl, sym, ap, subst, map, take, drop, arith, eq-eqb, eqb-true}
use Rattle.std.specs.Prelude.{nat_eq, nat_lt}
use Rattle.std.proofs.lemmas.List.Sums.{sum_by-append, sum_by-cons, sum_by-take-drop}
use Rattle.std.proofs.lemmas.Bool.{lt-ltb, ltb-true}
use Rattle.target_base.specs.declared.types.OpId.{OpId}
use Rattle.meaning.specs.Live.{Among as Member, here, there}
use Rattle.mir_func.specs.declared.func.Block.{Block}
use Rattle.mir_func.specs.declared.func.Gap.{Gap}
use Rattle.mir_func.specs.declared.func.Instr.{Instr}
use Rattle.mir_func.specs.declared.func.Op.TheVariants as ops
use Rattle.mir_func.specs.declared.func.Operand.{Operand}
use Rattle.mir_func.specs.Value.{Function, IsFunction, id_count, id_total}
use Rattle.mir_func.specs.Edits.{block_place, changed_in, cut, deleted, gap_place, inserted, instr_place, made, put, update}
use Rattle.mir_func.proofs.Counts.{id_count-update, id_total-cut}
use Rattle.mir_func.proofs.Later.{deleted-changed, deleted-put}
use Rattle.mir_meaning.specs.Paths.{has}
use Rattle.edit_laws.specs.Deferred.{deferred, all_deferred, all_gone, all_deleted, Spares, SpareGone, ErasedLastLaw}
use Rattle.edit_laws.specs.Edits.{Edit, Put, Replace, Erase, replaced, with_op, all_edited}

-- membership by the test

pub has-first : (id : ℕ) (ids : List ℕ) → has id (id ∷ ids) ≡ true
has-first id ids = ap (λ u. cond u true (has id ids)) (eq-eqb id id refl)

pub has-later : (id : ℕ) (ids : List ℕ) (x : ℕ) → has x ids ≡ true → has x (id ∷ ids) ≡ true
has-later id ids x m = go (nat_eq id x)
  where
    go : (u : Bool) → cond u true (has x ids) ≡ true
    go true = refl
    go false = m

-- deletions come later

next-stays : (f : Function) (ids : List ℕ) → (all_deleted f ids).next_id ≡ f.next_id
next-stays f [] = refl
next-stays f (id ∷ ids) = next-stays f ids

put-later : (f : Function) (gap : Gap) (op : OpId) (os : List Operand) (ids : List ℕ) → ((id : ℕ) → has id ids ≡ true → Spares f (Put gap op os) id) → all_deleted (inserted f gap op os) ids ≡ inserted (all_deleted f ids) gap op os
put-later f gap op os [] spare = refl
put-later f gap op os (id ∷ ids) spare =
    ap (λ (g : Function). deleted g id) (put-later f gap op os ids (λ x m. spare x (has-later id ids x m)))
    ∙ deleted-put (all_deleted f ids) id gap op os (λ e. (spare id (has-first id ids)).0 (e ∙ next-stays f ids)) (spare id (has-first id ids)).1

replace-later : (f : Function) (other : ℕ) (op : OpId) (os : List Operand) (ids : List ℕ) → ((id : ℕ) → has id ids ≡ true → Spares f (Replace other op os) id) → all_deleted (replaced f other op os) ids ≡ replaced (all_deleted f ids) other op os
replace-later f other op os [] spare = refl
replace-later f other op os (id ∷ ids) spare =
    ap (λ (g : Function). deleted g id) (replace-later f other op os ids (λ x m. spare x (has-later id ids x m)))
    ∙ deleted-changed (all_deleted f ids) id other (ops.Known op) os (spare id (has-first id ids))

last-from : (es : List Edit) (f : Function) (gone : List ℕ) → SpareGone gone f es → all_edited (all_deleted f gone) es ≡ all_deleted (all_deferred f es) (all_gone gone es)
last-from [] f gone spare = refl
last-from (Put gap op os ∷ es) f gone spare = ap (λ (g : Function). all_edited g es) (sym (put-later f gap op os gone spare.0)) ∙ last-from es (inserted f gap op os) gone spare.1
last-from (Replace id op os ∷ es) f gone spare = ap (λ (g : Function). all_edited g es) (sym (replace-later f id op os gone spare.0)) ∙ last-from es (replaced f id op os) gone spare.1
last-from (Erase id ∷ es) f gone spare = last-from es f (id ∷ gone) spare.1

pub erased-last-law : ErasedLastLaw
erased-last-law f es spare = last-from es f [] spare

-- how often an id stands

abbrev one_if : Bool → ℕ
one_if u = cond u 1 0

count-step : (id : ℕ) (i : Instr) (is : List Instr) → id_count id (i ∷ is) ≡ one_if (nat_eq i.id id) + id_count id is
count-step id i is = sum_by-cons (λ (x : Instr). one_if (nat_eq x.id id)) i is

pub total-step : (id : ℕ) (b : Block) (bs : List Block) → id_total id (b ∷ bs) ≡ id_count id b.instrs + id_total id bs
total-step id b bs = sum_by-cons (λ (x : Block). id_count id x.instrs) b bs

one-more : (n : ℕ) → 1 + n ≡ suc n
one-more n = omega arith

drop-none : {X : Type 0} (xs : List X) → drop 0 xs ≡ xs
drop-none [] = refl
drop-none (x ∷ xs) = refl

count-append : (id : ℕ) (is js : List Instr) → id_count id (is ++ js) ≡ id_count id is + id_count id js
count-append id is js = sum_by-append (λ (x : Instr). one_if (nat_eq x.id id)) is js

count-parts : (id k : ℕ) (is : List Instr) → id_count id (take k is) + id_count id (drop k is) ≡ id_count id is
count-parts id k is = sum_by-take-drop (λ (x : Instr). one_if (nat_eq x.id id)) is k

-- without its instruction an id that stands once doesn't stand

not-headed : (id : ℕ) (i : Instr) (is : List Instr) → nat_eq i.id id ≡ false → id_count id is ≡ 0 → id_count id (i ∷ is) ≡ 0
not-headed id i is e none =
    let k : 0 + id_count id is ≡ id_count id is = omega arith in
    count-step id i is ∙ (ap (λ u. one_if u + id_count id is) e ∙ (k ∙ none))

abbrev left_at : ℕ → List Instr → ℕ → ℕ
left_at id is n = id_count id (take n is ++ drop (suc n) is)

count-cut : (id : ℕ) (is : List Instr) → id_count id is ≤ 1 → left_at id is (instr_place id is) ≡ 0
count-cut id [] few = refl
count-cut id (i ∷ is) few = go (nat_eq i.id id) refl (count-step id i is) (count-cut id is)
  where
    go : (u : Bool) → nat_eq i.id id ≡ u → id_count id (i ∷ is) ≡ one_if (nat_eq i.id id) + id_count id is → (id_count id is ≤ 1 → left_at id is (instr_place id is) ≡ 0) → left_at id (i ∷ is) (cond (not u) (1 + instr_place id is) 0) ≡ 0
    go true e step rest =
        let step' : id_count id (i ∷ is) ≡ 1 + id_count id is = step ∙ ap (λ u. one_if u + id_count id is) e in
        let none : id_count id is ≡ 0 = omega (arith, step', few) in
        ap (id_count id) (drop-none is) ∙ none
    go false e step rest =
        let step' : id_count id (i ∷ is) ≡ 0 + id_count id is = step ∙ ap (λ u. one_if u + id_count id is) e in
        let less : id_count id is ≤ 1 = omega (arith, step', few) in
        subst (λ n. left_at id (i ∷ is) n ≡ 0) (sym (one-more (instr_place id is)))
        (not-headed id i (take (instr_place id is) is ++ drop (suc (instr_place id is)) is) e (rest less))

total-cut : (id : ℕ) (bs : List Block) → id_total id bs ≤ 1 → id_total id (map (cut id) bs) ≡ 0
total-cut id [] few = refl
total-cut id (b ∷ bs) few =
    let one : id_count id b.instrs ≤ 1 = omega (arith, total-step id b bs, few) in
    let more : id_total id bs ≤ 1 = omega (arith, total-step id b bs, few) in
    let here-none : id_count id (cut id b).instrs ≡ 0 = count-cut id b.instrs one in
    omega (arith, total-step id (cut id b) (map (cut id) bs), here-none, total-cut id bs more)

-- no instruction of these ids is left

few-left : (f : Function) (ids : List ℕ) → ((x : ℕ) → id_total x f.blocks ≤ 1) → (x : ℕ) → id_total x (all_deleted f ids).blocks ≤ 1
few-left f [] once x = once x
few-left f (id ∷ ids) once x = omega (arith, id_total-cut id x (all_deleted f ids).blocks, few-left f ids once x)

gone-none : (f : Function) (ids : List ℕ) → ((x : ℕ) → id_total x f.blocks ≤ 1) → (x : ℕ) → has x ids ≡ true → id_total x (all_deleted f ids).blocks ≡ 0
gone-none f [] once x m = absurd (let z : false ≡ true = m in cc)
gone-none f (id ∷ ids) once x m = go (nat_eq id x) refl m (gone-none f ids once x)
  where
    go : (u : Bool) → nat_eq id x ≡ u → cond u true (has x ids) ≡ true → (has x ids ≡ true → id_total x (all_deleted f ids).blocks ≡ 0) → id_total x (map (cut id) (all_deleted f ids).blocks) ≡ 0
    go true e h rest = subst (λ y. id_total x (map (cut y) (all_deleted f ids).blocks) ≡ 0) (sym (eqb-true id x e)) (total-cut x (all_deleted f ids).blocks (few-left f ids once x))
    go false e h rest = omega (arith, id_total-cut id x (all_deleted f ids).blocks, rest h)

pub head-other : (x : ℕ) (j : Instr) (is : List Instr) → id_count x (j ∷ is) ≡ 0 → nat_eq j.id x ≡ false
head-other x j is none = go (nat_eq j.id x) (count-step x j is)
  where
    go : (u : Bool) → id_count x (j ∷ is) ≡ one_if u + id_count x is → u ≡ false
    go true step = absurd (omega (arith, step, none))
    go false step = refl

pub tail-none : (x : ℕ) (j : Instr) (is : List Instr) → id_count x (j ∷ is) ≡ 0 → id_count x is ≡ 0
tail-none x j is none = omega (arith, count-step x j is, none)

none-in : (x : ℕ) (is : List Instr) → id_count x is ≡ 0 → (i : Instr) → Member i is → nat_eq i.id x ≡ false
none-in x [] none i m = elim m [ ]
none-in x (j ∷ is) none i here = head-other x j is none
none-in x (j ∷ is) none i (there m) = none-in x is (tail-none x j is none) i m

none-total : (x : ℕ) (bs : List Block) → id_total x bs ≡ 0 → (b : Block) (i : Instr) → Member b bs → Member i b.instrs → nat_eq i.id x ≡ false
none-total x [] none b i m n = elim m [ ]
none-total x (c ∷ bs) none b i here n =
    let none' : id_count x c.instrs ≡ 0 = omega (arith, total-step x c bs, none) in
    none-in x c.instrs none' i n
none-total x (c ∷ bs) none b i (there m) n =
    let none' : id_total x bs ≡ 0 = omega (arith, total-step x c bs, none) in
    none-total x bs none' b i m n

pub not-gone : (f : Function) (ids : List ℕ) → ((x : ℕ) → id_total x f.blocks ≤ 1) → (b : Block) (i : Instr) → Member b (all_deleted f ids).blocks → Member i b.instrs → has i.id ids ≡ false
not-gone f ids once b i m n = go (has i.id ids) refl
  where
    go : (u : Bool) → has i.id ids ≡ u → u ≡ false
    go true e =
        let other : nat_eq i.id i.id ≡ false = none-total i.id (all_deleted f ids).blocks (gone-none f ids once i.id e) b i m n in
        sym (eq-eqb i.id i.id refl) ∙ other
    go false e = refl

-- edits leave ids single

abbrev Once : Function → Type 0
Once f = (x : ℕ) → id_total x f.blocks ≤ one_if (nat_lt x f.next_id)

count-put : (x : ℕ) (y : Instr) (k : ℕ) (is : List Instr) → id_count x (take k is ++ y ∷ drop k is) ≡ one_if (nat_eq y.id x) + id_count x is
count-put x y k is = omega (arith, count-append x (take k is) (y ∷ drop k is), count-step x y (drop k is), count-parts x k is)

total-put : (x : ℕ) (before : Option ℕ) (y : Instr) (k : ℕ) (bs : List Block) → id_total x (update k (put before y) bs) ≤ one_if (nat_eq y.id x) + id_total x bs
total-put x before y k [] = omega arith
total-put x before y zero (b ∷ bs) =
    let count : id_count x (put before y b).instrs ≡ one_if (nat_eq y.id x) + id_count x b.instrs = count-put x y (gap_place before b.instrs) b.instrs in
    omega (arith, total-step x (put before y b) bs, total-step x b bs, count)
total-put x before y (suc k) (b ∷ bs) = omega (arith, total-step x b (update k (put before y) bs), total-step x b bs, total-put x before y k bs)

total-changed : (x id : ℕ) (op : OpId) (os : List Operand) (bs : List Block) → id_total x (map (changed_in id (with_op op os)) bs) ≡ id_total x bs
total-changed x id op os [] = refl
total-changed x id op os (b ∷ bs) =
    let count : id_count x (changed_in id (with_op op os) b).instrs ≡ id_count x b.instrs = id_count-update (with_op op os) (λ i. refl) x (instr_place id b.instrs) b.instrs in
    omega (arith, total-step x (changed_in id (with_op op os) b) (map (changed_in id (with_op op os)) bs), total-step x b bs, count, total-changed x id op os bs)

one-further : (x n : ℕ) → one_if (nat_eq n x) + one_if (nat_lt x n) ≤ one_if (nat_lt x (n + 1))
one-further x n = go (nat_lt x n) refl (nat_eq n x) refl
  where
    go : (u : Bool) → nat_lt x n ≡ u → (v : Bool) → nat_eq n x ≡ v → one_if v + one_if u ≤ one_if (nat_lt x (n + 1))
    go true e true d = absurd (omega (arith, ltb-true x n e, eqb-true n x d))
    go true e false d = let less : x < n + 1 = omega (arith, ltb-true x n e) in subst (λ w. 1 ≤ one_if w) (sym (lt-ltb x (n + 1) less)) (omega arith)
    go false e true d = let less : x < n + 1 = omega (arith, eqb-true n x d) in subst (λ w. 1 ≤ one_if w) (sym (lt-ltb x (n + 1) less)) (omega arith)
    go false e false d = omega arith

deferred-once : (f : Function) (e : Edit) → Once f → Once (deferred f e)
deferred-once f (Put gap op os) once x =
    let put' : id_total x (inserted f gap op os).blocks ≤ one_if (nat_eq f.next_id x) + id_total x f.blocks = total-put x gap.before (made f.next_id op os) (block_place gap.block f.blocks) f.blocks in
    omega (arith, put', once x, one-further x f.next_id)
deferred-once f (Replace id op os) once x = subst (λ n. n ≤ one_if (nat_lt x f.next_id)) (sym (total-changed x id op os f.blocks)) (once x)
deferred-once f (Erase id) once x = once x

all-once : (es : List Edit) (f : Function) → Once f → Once (all_deferred f es)
all-once [] f once = once
all-once (e ∷ es) f once = all-once es (deferred f e) (deferred-once f e once)

pub deferred-single : (f : Function) (es : List Edit) → IsFunction f.blocks f.next_id → (x : ℕ) → id_total x (all_deferred f es).blocks ≤ 1
deferred-single f es is x = go (nat_lt x (all_deferred f es).next_id) (all-once es f is.once x)
  where
    go : (u : Bool) → id_total x (all_deferred f es).blocks ≤ one_if u → id_total x (all_deferred f es).blocks ≤ 1
    go true h = h
    go false h = omega (arith, h)
