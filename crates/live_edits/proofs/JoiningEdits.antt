-- Edits that replace or erase instructions, as what they make of each instruction where ids are single.
use Rattle.std.proofs.Common.{◌≡◌, ◌∷◌, ◌++◌, ◌∙◌, ◌+◌, ◌≤◌, not, ℕ, suc, Bool, true, false, cond, List, [], refl, sym, ap, map, drop, append_assoc, arith}
use Rattle.std.specs.Prelude.{flat_map, nat_eq, nat_lt}
use Rattle.std.specs.List.{remove}
use Rattle.std.proofs.lemmas.List.Sums.{sum_by-append, sum_by-cons}
use Rattle.target_base.specs.declared.types.OpId.{OpId}
use Rattle.meaning.specs.Live.{Among, here, there}
use Rattle.mir_func.specs.declared.func.Block.{Block}
use Rattle.mir_func.specs.declared.func.Instr.{Instr}
use Rattle.mir_func.specs.declared.func.Operand.{Operand}
use Rattle.mir_func.specs.Value.{Function, IsFunction, id_count, id_total}
use Rattle.mir_func.specs.Edits.{changed_in, cut, instr_place, update}
use Rattle.edit_laws.specs.Edits.{Edit, Put, Replace, Erase, edited, with_op, all_edited}
use Rattle.edit_laws.proofs.ErasedLast.{head-other, tail-none, total-step}

-- what an edit makes of an instruction: another one, or it goes
abbrev pub did : Edit → Instr → List Instr
did (Put gap op os) i = i ∷ []
did (Replace id op os) i = cond (nat_eq i.id id) (with_op op os i ∷ []) (i ∷ [])
did (Erase id) i = cond (nat_eq i.id id) [] (i ∷ [])

-- what edits make of it one after the other
abbrev pub done : List Edit → Instr → List Instr
done [] i = i ∷ []
done (e ∷ es) i = flat_map (done es) (did e i)

-- the block, and the function, with what is made of each instruction
abbrev pub each : (Instr → List Instr) → Block → Block
each m b = record b { instrs = flat_map m b.instrs }

abbrev pub with_each : (Instr → List Instr) → Function → Function
with_each m f = record f { blocks = map (each m) f.blocks }

-- each edit replaces or erases
abbrev pub Changes : Edit → Type 0
Changes (Put gap op os) = ⊥
Changes (Replace id op os) = Unit {0}
Changes (Erase id) = Unit {0}

abbrev pub AllChange : List Edit → Type 0
AllChange [] = Unit {0}
AllChange (e ∷ es) = Changes e × AllChange es

-- no id stands twice
abbrev pub AreSingle : List Block → Type 0
AreSingle bs = (x : ℕ) → id_total x bs ≤ 1

-- lists

flat-append : {X Y : Type 0} (m : X → List Y) (xs ys : List X) → flat_map m (xs ++ ys) ≡ flat_map m xs ++ flat_map m ys
flat-append m [] ys = refl
flat-append m (x ∷ xs) ys = ap (λ zs. m x ++ zs) (flat-append m xs ys) ∙ sym (append_assoc (m x) (flat_map m xs) (flat_map m ys))

flat-then : {X Y Z : Type 0} (m : X → List Y) (n : Y → List Z) (xs : List X) → flat_map n (flat_map m xs) ≡ flat_map (λ x. flat_map n (m x)) xs
flat-then m n [] = refl
flat-then m n (x ∷ xs) = flat-append n (m x) (flat_map m xs) ∙ ap (λ zs. flat_map n (m x) ++ zs) (flat-then m n xs)

pub flat-alone : {X : Type 0} (xs : List X) → flat_map (λ x. x ∷ []) xs ≡ xs
flat-alone [] = refl
flat-alone (x ∷ xs) = ap (λ ys. x ∷ ys) (flat-alone xs)

pub flat-same : {X Y : Type 0} (m n : X → List Y) (xs : List X) → ((x : X) → Among x xs → m x ≡ n x) → flat_map m xs ≡ flat_map n xs
flat-same m n [] h = refl
flat-same m n (x ∷ xs) h = λ k. h x here k ++ flat-same m n xs (λ y a. h y (there a)) k

-- functions

each-alone : (bs : List Block) → map (each (λ i. i ∷ [])) bs ≡ bs
each-alone [] = refl
each-alone (b ∷ bs) = λ k. (record b { instrs = flat-alone b.instrs k }) ∷ each-alone bs k

each-then : (m n : Instr → List Instr) (bs : List Block) → map (each n) (map (each m) bs) ≡ map (each (λ i. flat_map n (m i))) bs
each-then m n [] = refl
each-then m n (b ∷ bs) = λ k. (record b { instrs = flat-then m n b.instrs k }) ∷ each-then m n bs k

-- how often an id stands

abbrev one_if : Bool → ℕ
one_if u = cond u 1 0

pub count-step : (id : ℕ) (i : Instr) (is : List Instr) → id_count id (i ∷ is) ≡ one_if (nat_eq i.id id) + id_count id is
count-step id i is = sum_by-cons (λ (x : Instr). one_if (nat_eq x.id id)) i is

pub count-append : (id : ℕ) (is js : List Instr) → id_count id (is ++ js) ≡ id_count id is + id_count id js
count-append id is js = sum_by-append (λ (x : Instr). one_if (nat_eq x.id id)) is js

-- the instruction is made one of its id, or goes
abbrev pub KeepsIds : (Instr → List Instr) → Type 0
KeepsIds m = (x : ℕ) (i : Instr) → id_count x (m i) ≤ one_if (nat_eq i.id x)

count-each : (m : Instr → List Instr) → KeepsIds m → (x : ℕ) (is : List Instr) → id_count x (flat_map m is) ≤ id_count x is
count-each m keeps x [] = omega arith
count-each m keeps x (i ∷ is) = omega (arith, count-append x (m i) (flat_map m is), count-step x i is, keeps x i, count-each m keeps x is)

total-each : (m : Instr → List Instr) → KeepsIds m → (x : ℕ) (bs : List Block) → id_total x (map (each m) bs) ≤ id_total x bs
total-each m keeps x [] = omega arith
total-each m keeps x (b ∷ bs) = omega (arith, total-step x (each m b) (map (each m) bs), total-step x b bs, count-each m keeps x b.instrs, total-each m keeps x bs)

pub each-single : (m : Instr → List Instr) → KeepsIds m → (bs : List Block) → AreSingle bs → AreSingle (map (each m) bs)
each-single m keeps bs single x = omega (arith, total-each m keeps x bs, single x)

count-one : (x : ℕ) (i : Instr) → id_count x (i ∷ []) ≤ one_if (nat_eq i.id x)
count-one x i = omega (arith, count-step x i [])

pub did-keeps : (e : Edit) → KeepsIds (did e)
did-keeps (Put gap op os) x i = count-one x i
did-keeps (Replace id op os) x i = go (nat_eq i.id id)
  where
    go : (u : Bool) → id_count x (cond u (with_op op os i ∷ []) (i ∷ [])) ≤ one_if (nat_eq i.id x)
    go true = count-one x (with_op op os i)
    go false = count-one x i
did-keeps (Erase id) x i = go (nat_eq i.id id)
  where
    go : (u : Bool) → id_count x (cond u [] (i ∷ [])) ≤ one_if (nat_eq i.id x)
    go true = omega arith
    go false = count-one x i

-- one edit

one-more : (n : ℕ) → 1 + n ≡ suc n
one-more n = omega arith

drop-none : {X : Type 0} (xs : List X) → drop 0 xs ≡ xs
drop-none [] = refl
drop-none (x ∷ xs) = refl

none-left : (id : ℕ) (i : Instr) (is : List Instr) → nat_eq i.id id ≡ true → id_count id (i ∷ is) ≤ 1 → id_count id is ≡ 0
none-left id i is e few =
    let step : id_count id (i ∷ is) ≡ 1 + id_count id is = count-step id i is ∙ ap (λ u. one_if u + id_count id is) e in
    omega (arith, step, few)

less-left : (id : ℕ) (i : Instr) (is : List Instr) → id_count id (i ∷ is) ≤ 1 → id_count id is ≤ 1
less-left id i is few = omega (arith, count-step id i is, few)

-- what is made of the instruction of an id alone
abbrev of_id : ℕ → (Instr → List Instr) → Instr → List Instr
of_id id m i = cond (nat_eq i.id id) (m i) (i ∷ [])

none-made : (id : ℕ) (m : Instr → List Instr) (is : List Instr) → id_count id is ≡ 0 → flat_map (of_id id m) is ≡ is
none-made id m [] none = refl
none-made id m (i ∷ is) none =
    ap (λ u. cond u (m i) (i ∷ []) ++ flat_map (of_id id m) is) (head-other id i is none)
    ∙ ap (λ js. i ∷ js) (none-made id m is (tail-none id i is none))

replaced-is : (id : ℕ) (g : Instr → Instr) (is : List Instr) → id_count id is ≤ 1 → update (instr_place id is) g is ≡ flat_map (of_id id (λ i. g i ∷ [])) is
replaced-is id g [] few = refl
replaced-is id g (i ∷ is) few = go (nat_eq i.id id) refl (replaced-is id g is (less-left id i is few))
  where
    go : (u : Bool) → nat_eq i.id id ≡ u → update (instr_place id is) g is ≡ flat_map (of_id id (λ (x : Instr). g x ∷ [])) is
        → update (cond (not u) (1 + instr_place id is) 0) g (i ∷ is) ≡ cond u (g i ∷ []) (i ∷ []) ++ flat_map (of_id id (λ (x : Instr). g x ∷ [])) is
    go true e later = ap (λ js. g i ∷ js) (sym (none-made id (λ (x : Instr). g x ∷ []) is (none-left id i is e few)))
    go false e later = ap (λ n. update n g (i ∷ is)) (one-more (instr_place id is)) ∙ ap (λ js. i ∷ js) later

removed-is : (id : ℕ) (is : List Instr) → id_count id is ≤ 1 → remove is (instr_place id is) ≡ flat_map (of_id id (λ i. [])) is
removed-is id [] few = refl
removed-is id (i ∷ is) few = go (nat_eq i.id id) refl (removed-is id is (less-left id i is few))
  where
    go : (u : Bool) → nat_eq i.id id ≡ u → remove is (instr_place id is) ≡ flat_map (of_id id (λ (x : Instr). [])) is
        → remove (i ∷ is) (cond (not u) (1 + instr_place id is) 0) ≡ cond u [] (i ∷ []) ++ flat_map (of_id id (λ (x : Instr). [])) is
    go true e later = drop-none is ∙ sym (none-made id (λ (x : Instr). []) is (none-left id i is e few))
    go false e later = ap (λ n. remove (i ∷ is) n) (one-more (instr_place id is)) ∙ ap (λ js. i ∷ js) later

first-single : (b : Block) (bs : List Block) → AreSingle (b ∷ bs) → (x : ℕ) → id_count x b.instrs ≤ 1
first-single b bs single x = omega (arith, total-step x b bs, single x)

rest-single : (b : Block) (bs : List Block) → AreSingle (b ∷ bs) → AreSingle bs
rest-single b bs single x = omega (arith, total-step x b bs, single x)

replaced-blocks : (id : ℕ) (op : OpId) (os : List Operand) (bs : List Block) → AreSingle bs → map (changed_in id (with_op op os)) bs ≡ map (each (did (Replace id op os))) bs
replaced-blocks id op os [] single = refl
replaced-blocks id op os (b ∷ bs) single = λ k. (record b { instrs = replaced-is id (with_op op os) b.instrs (first-single b bs single id) k }) ∷ replaced-blocks id op os bs (rest-single b bs single) k

erased-blocks : (id : ℕ) (bs : List Block) → AreSingle bs → map (cut id) bs ≡ map (each (did (Erase id))) bs
erased-blocks id [] single = refl
erased-blocks id (b ∷ bs) single = λ k. (record b { instrs = removed-is id b.instrs (first-single b bs single id) k }) ∷ erased-blocks id bs (rest-single b bs single) k

pub edited-each : (f : Function) (e : Edit) → Changes e → AreSingle f.blocks → edited f e ≡ with_each (did e) f
edited-each f (Put gap op os) c single = absurd c
edited-each f (Replace id op os) c single = ap (λ bs. record f { blocks = bs }) (replaced-blocks id op os f.blocks single)
edited-each f (Erase id) c single = ap (λ bs. record f { blocks = bs }) (erased-blocks id f.blocks single)

-- one after the other
pub all-edited-each : (es : List Edit) (f : Function) → AllChange es → AreSingle f.blocks → all_edited f es ≡ with_each (done es) f
all-edited-each [] f c single = ap (λ bs. record f { blocks = bs }) (sym (each-alone f.blocks))
all-edited-each (e ∷ es) f c single =
    ap (λ (g : Function). all_edited g es) (edited-each f e c.0 single)
    ∙ (all-edited-each es (with_each (did e) f) c.1 (each-single (did e) (did-keeps e) f.blocks single)
    ∙ ap (λ bs. record f { blocks = bs }) (each-then (did e) (done es) f.blocks))

pub single-of : (f : Function) → IsFunction f.blocks f.next_id → AreSingle f.blocks
single-of f is x = go (nat_lt x f.next_id) (is.once x)
  where
    go : (u : Bool) → id_total x f.blocks ≤ cond u 1 0 → id_total x f.blocks ≤ 1
    go true h = h
    go false h = omega (arith, h)
