-- The function without some instructions, in whichever order and as often as these go.
use Rattle.std.proofs.Common.{◌≡◌, ◌∷◌, ◌∙◌, drop, ◌+◌, ◌≤◌, ◌<◌, not, ℕ, suc, Bool, true, false, cond, length, List, [], refl, sym, ap, subst, map, arith, eqb-true, eq-eqb}
use Rattle.std.specs.Prelude.{nat_eq}
use Rattle.std.proofs.lemmas.List.Sums.{sum_by-cons}
use Rattle.std.specs.List.{remove}
use Rattle.mir_func.specs.declared.func.Block.{Block}
use Rattle.mir_func.specs.declared.func.Instr.{Instr}
use Rattle.mir_func.specs.Value.{Function, IsFunction, id_count, id_total}
use Rattle.mir_func.specs.Edits.{cut, deleted, instr_place}
use Rattle.mir_func.proofs.Counts.{id_total-cut}
use Rattle.mir_meaning.specs.Paths.{has}
use Rattle.edit_laws.specs.Deferred.{all_deleted, all_gone, gone_after}
use Rattle.edit_laws.specs.Edits.{Edit, Put, Replace, Erase}
use Rattle.edit_laws.proofs.ErasedLast.{head-other, tail-none, total-step}

-- the instructions but those of some ids
abbrev others : List ℕ → List Instr → List Instr
others xs [] = []
others xs (i ∷ is) = cond (has i.id xs) (others xs is) (i ∷ others xs is)

abbrev without : ℕ → List Instr → List Instr
without id [] = []
without id (i ∷ is) = cond (nat_eq i.id id) is (i ∷ without id is)

drop-none : {X : Type 0} (xs : List X) → drop 0 xs ≡ xs
drop-none [] = refl
drop-none (x ∷ xs) = refl

one-more : (n : ℕ) → 1 + n ≡ suc n
one-more n = omega arith

removed-is : (id : ℕ) (is : List Instr) → remove is (instr_place id is) ≡ without id is
removed-is id [] = refl
removed-is id (i ∷ is) = go (nat_eq i.id id) (removed-is id is)
  where
    go : (u : Bool) → remove is (instr_place id is) ≡ without id is → remove (i ∷ is) (cond (not u) (1 + instr_place id is) 0) ≡ cond u is (i ∷ without id is)
    go true rest = drop-none is
    go false rest = ap (λ n. remove (i ∷ is) n) (one-more (instr_place id is)) ∙ ap (λ js. i ∷ js) rest

same-test : (a b : ℕ) (u : Bool) → nat_eq a b ≡ u → nat_eq b a ≡ u
same-test a b true e = eq-eqb b a (sym (eqb-true a b e))
same-test a b false e = go (nat_eq b a) refl
  where
    go : (u : Bool) → nat_eq b a ≡ u → u ≡ false
    go true d = absurd (let z : true ≡ false = sym (eq-eqb a b (sym (eqb-true b a d))) ∙ e in cc)
    go false d = refl

-- where no instruction has the id, it makes no difference

not-counted : (id : ℕ) (xs : List ℕ) (is : List Instr) → id_count id is ≡ 0 → others (id ∷ xs) is ≡ others xs is
not-counted id xs [] none = refl
not-counted id xs (i ∷ is) none =
    let other : nat_eq id i.id ≡ false = same-test i.id id false (head-other id i is none) in
    ap (λ u. cond (cond u true (has i.id xs)) (others (id ∷ xs) is) (i ∷ others (id ∷ xs) is)) other
    ∙ ap (λ js. cond (has i.id xs) js (i ∷ js)) (not-counted id xs is (tail-none id i is none))

abbrev one_if : Bool → ℕ
one_if u = cond u 1 0

count-step : (id : ℕ) (i : Instr) (is : List Instr) → id_count id (i ∷ is) ≡ one_if (nat_eq i.id id) + id_count id is
count-step id i is = sum_by-cons (λ (x : Instr). one_if (nat_eq x.id id)) i is

-- of an id that stands once at most

count-tail : (id : ℕ) (i : Instr) (is : List Instr) → id_count id (i ∷ is) ≤ 1 → id_count id is ≤ 1
count-tail id i is few = omega (arith, count-step id i is, few)

count-none : (id : ℕ) (i : Instr) (is : List Instr) → id_count id (i ∷ is) ≤ 1 → nat_eq i.id id ≡ true → id_count id is ≡ 0
count-none id i is few e =
    let step : id_count id (i ∷ is) ≡ 1 + id_count id is = count-step id i is ∙ ap (λ u. one_if u + id_count id is) e in
    omega (arith, step, few)

without-others : (id : ℕ) (xs : List ℕ) (is : List Instr) → id_count id is ≤ 1 → without id (others xs is) ≡ others (id ∷ xs) is
without-others id xs [] few = refl
without-others id xs (i ∷ is) few = go (has i.id xs) refl (nat_eq i.id id) refl (without-others id xs is (count-tail id i is few))
  where
    go : (u : Bool) → has i.id xs ≡ u → (v : Bool) → nat_eq i.id id ≡ v → without id (others xs is) ≡ others (id ∷ xs) is
        → without id (cond u (others xs is) (i ∷ others xs is)) ≡ cond (cond (nat_eq id i.id) true u) (others (id ∷ xs) is) (i ∷ others (id ∷ xs) is)
    go true d v e rest = rest ∙ sym (ap (λ w. cond w (others (id ∷ xs) is) (i ∷ others (id ∷ xs) is)) (either (nat_eq id i.id)))
      where
        either : (w : Bool) → cond w true true ≡ true
        either true = refl
        either false = refl
    go false d true e rest =
        ap (λ w. cond w (others xs is) (i ∷ without id (others xs is))) e
        ∙ (sym (not-counted id xs is (count-none id i is few e))
        ∙ sym (ap (λ w. cond (cond w true false) (others (id ∷ xs) is) (i ∷ others (id ∷ xs) is)) (same-test i.id id true e)))
    go false d false e rest =
        ap (λ w. cond w (others xs is) (i ∷ without id (others xs is))) e
        ∙ (ap (λ js. i ∷ js) rest
        ∙ sym (ap (λ w. cond (cond w true false) (others (id ∷ xs) is) (i ∷ others (id ∷ xs) is)) (same-test i.id id false e)))

-- each block, and all

abbrev kept : List ℕ → Block → Block
kept xs b = record b { instrs = others xs b.instrs }

all-there : (is : List Instr) → others [] is ≡ is
all-there [] = refl
all-there (i ∷ is) = ap (λ js. i ∷ js) (all-there is)

cut-kept : (id : ℕ) (xs : List ℕ) (b : Block) → id_count id b.instrs ≤ 1 → cut id (kept xs b) ≡ kept (id ∷ xs) b
cut-kept id xs b few = ap (λ is. record b { instrs = is }) (removed-is id (others xs b.instrs) ∙ without-others id xs b.instrs few)

cuts-kept : (id : ℕ) (xs : List ℕ) (bs : List Block) → id_total id bs ≤ 1 → map (cut id) (map (kept xs) bs) ≡ map (kept (id ∷ xs)) bs
cuts-kept id xs [] few = refl
cuts-kept id xs (b ∷ bs) few =
    let one : id_count id b.instrs ≤ 1 = omega (arith, total-step id b bs, few) in
    let more : id_total id bs ≤ 1 = omega (arith, total-step id b bs, few) in
    λ k. cut-kept id xs b one k ∷ cuts-kept id xs bs more k

none-cut : (bs : List Block) → bs ≡ map (kept []) bs
none-cut [] = refl
none-cut (b ∷ bs) = λ k. record b { instrs = sym (all-there b.instrs) k } ∷ none-cut bs k

abbrev Once : Function → Type 0
Once f = (x : ℕ) → id_total x f.blocks ≤ 1

deleted-is : (f : Function) (xs : List ℕ) → Once f → all_deleted f xs ≡ record f { blocks = map (kept xs) f.blocks }
deleted-is f [] once = ap (λ bs. record f { blocks = bs }) (none-cut f.blocks)
deleted-is f (x ∷ xs) once = ap (λ (g : Function). deleted g x) (deleted-is f xs once) ∙ ap (λ bs. record f { blocks = bs }) (cuts-kept x xs f.blocks (once x))

others-same : (xs ys : List ℕ) → ((id : ℕ) → has id xs ≡ has id ys) → (is : List Instr) → others xs is ≡ others ys is
others-same xs ys same [] = refl
others-same xs ys same (i ∷ is) = λ k. cond (same i.id k) (others-same xs ys same is k) (i ∷ others-same xs ys same is k)

kept-same : (xs ys : List ℕ) → ((id : ℕ) → has id xs ≡ has id ys) → (bs : List Block) → map (kept xs) bs ≡ map (kept ys) bs
kept-same xs ys same [] = refl
kept-same xs ys same (b ∷ bs) = λ k. record b { instrs = others-same xs ys same b.instrs k } ∷ kept-same xs ys same bs k

-- the same instructions go
pub deleted-same : (f : Function) (xs ys : List ℕ) → Once f → ((id : ℕ) → has id xs ≡ has id ys) → all_deleted f xs ≡ all_deleted f ys
deleted-same f xs ys once same = deleted-is f xs once ∙ (ap (λ bs. record f { blocks = bs }) (kept-same xs ys same f.blocks) ∙ sym (deleted-is f ys once))

-- a function stays one

length-mapped : (g : Block → Block) (bs : List Block) → length (map g bs) ≡ length bs
length-mapped g [] = refl
length-mapped g (b ∷ bs) = ap (λ n. suc n) (length-mapped g bs)

pub is-function-still : (f : Function) (xs : List ℕ) → IsFunction f.blocks f.next_id → IsFunction (all_deleted f xs).blocks (all_deleted f xs).next_id
is-function-still f [] is = is
is-function-still f (x ∷ xs) is =
    let rest : IsFunction (all_deleted f xs).blocks (all_deleted f xs).next_id = is-function-still f xs is in
    record {
      nonempty = subst (λ n. 0 < n) (sym (length-mapped (cut x) (all_deleted f xs).blocks)) rest.nonempty;
      once = λ y. le-trans (id_total-cut x y (all_deleted f xs).blocks) (rest.once y);
    }
  where
    le-trans : {a b c : ℕ} → a ≤ b → b ≤ c → a ≤ c
    le-trans h k = omega (arith, h, k)

-- which ids edits erase

pub after-same : (e : Edit) (xs ys : List ℕ) → ((id : ℕ) → has id xs ≡ has id ys) → (id : ℕ) → has id (gone_after xs e) ≡ has id (gone_after ys e)
after-same (Put gap op os) xs ys same id = same id
after-same (Replace other op os) xs ys same id = same id
after-same (Erase other) xs ys same id = ap (λ u. cond (nat_eq other id) true u) (same id)

pub gone-same : (es : List Edit) (xs ys : List ℕ) → ((id : ℕ) → has id xs ≡ has id ys) → (id : ℕ) → has id (all_gone xs es) ≡ has id (all_gone ys es)
gone-same [] xs ys same id = same id
gone-same (e ∷ es) xs ys same id = gone-same es (gone_after xs e) (gone_after ys e) (after-same e xs ys same) id
