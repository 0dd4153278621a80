-- Instructions are put one behind the other, and blocks are given positions.
use Rattle.std.proofs.Common.{drop, add-one, ◌≡◌, ◌<◌, ◌≤◌, ◌+◌, ℕ, zero, suc, Bool, true, false, cond, eqb, length, List, [], ◌∷◌, ◌++◌, take, Option, None, Some, refl, sym, ap, ◌∙◌, subst, arith, get_or, eqb-true, eq-eqb, append_assoc, append-nil}
use Rattle.std.specs.Prelude.{nat_eq, nat_lt, option_map, IfSome}
use Rattle.std.proofs.lemmas.List.Edits.{insert_end}
use Rattle.slot_index.specs.Order.{ids, place, place_after, put_after, Has}
use Rattle.mir_func.specs.declared.func.Block.{Block}
use Rattle.mir_func.specs.declared.func.Instr.{Instr}
use Rattle.std.proofs.lemmas.List.Sums.{sum_by-cons}
use Rattle.mir_func.specs.Value.{IsFunction, id_count, id_total}
use Rattle.live_lanes.specs.Ordered.{times, ids_of, all_ids, AreSingle, last_id, place_of, placed}

-- positions

pub place-more : (n : ℕ) (bs : List Block) (k : ℕ) (d : Block) → k < length bs → place_of n (take (suc k) bs) ≡ placed (place_of n (take k bs)) (get_or bs k d).number n k
place-more n [] k d h = absurd (omega arith)
place-more n (b ∷ bs) zero d h = refl
place-more n (b ∷ bs) (suc k) d h = ap (λ q. cond {A = Option ℕ} (nat_eq b.number n) (Some 0) (option_map (λ x. suc x) q)) (place-more n bs k d (omega arith)) ∙ go (nat_eq b.number n) (place_of n (take k bs))
  where
    go : (t : Bool) (q : Option ℕ) → cond {A = Option ℕ} t (Some 0) (option_map (λ x. suc x) (placed q (get_or bs k d).number n k)) ≡ placed (cond {A = Option ℕ} t (Some 0) (option_map (λ x. suc x) q)) (get_or bs k d).number n (suc k)
    go true q = refl
    go false (Some p) = refl
    go false None = by (nat_eq (get_or bs k d).number n)
      where
        by : (u : Bool) → option_map (λ x. suc x) (cond {A = Option ℕ} u (Some k) None) ≡ cond {A = Option ℕ} u (Some (suc k)) None
        by true = refl
        by false = refl

pub place-whole : (n : ℕ) (bs : List Block) (k : ℕ) → length bs ≤ k → place_of n (take k bs) ≡ place_of n bs
place-whole n [] zero h = refl
place-whole n [] (suc k) h = refl
place-whole n (b ∷ bs) zero h = absurd (omega arith)
place-whole n (b ∷ bs) (suc k) h = ap (λ q. cond {A = Option ℕ} (nat_eq b.number n) (Some 0) (option_map (λ x. suc x) q)) (place-whole n bs k (omega arith))

-- ids behind the last one

times-here : (x : ℕ) (xs : List ℕ) → place x xs < length xs → 1 ≤ times x xs
times-here x [] h = absurd (omega arith)
times-here x (y ∷ xs) h = go (eqb y x) refl (times-here x xs)
  where
    go : (t : Bool) → eqb y x ≡ t → (place x xs < length xs → 1 ≤ times x xs) → 1 ≤ times x (y ∷ xs)
    go true e ih = rw e (omega arith)
    go false e ih = let r : place x (y ∷ xs) ≡ suc (place x xs) = rw e (omega arith) in rw e (ih (omega (arith, r, h)))

pub times-both : (x : ℕ) (xs ys : List ℕ) → times x (xs ++ ys) ≡ times x xs + times x ys
times-both x [] ys = omega arith
times-both x (y ∷ xs) ys = go (eqb y x) (times-both x xs ys)
  where
    go : (t : Bool) → times x (xs ++ ys) ≡ times x xs + times x ys → cond t (suc (times x (xs ++ ys))) (times x (xs ++ ys)) ≡ cond t (suc (times x xs)) (times x xs) + times x ys
    go true ih = omega (arith, ih)
    go false ih = ih

pub times-first : (x : ℕ) (xs : List ℕ) → times x (x ∷ xs) ≡ suc (times x xs)
times-first x xs = ap (λ t. cond t (suc (times x xs)) (times x xs)) (eq-eqb x x refl)

pub times-behind : (x y : ℕ) (xs : List ℕ) → times x xs ≤ times x (y ∷ xs)
times-behind x y xs = go (eqb y x)
  where
    go : (t : Bool) → times x xs ≤ cond t (suc (times x xs)) (times x xs)
    go true = omega arith
    go false = omega arith

-- an id that comes next isn't there yet
pub next-absent : (slots : List (ℕ × ℕ)) (xs rest : List ℕ) (id : ℕ) → ids slots ≡ xs → AreSingle (xs ++ id ∷ rest) → Has slots id → ⊥
next-absent slots xs rest id e single has =
    let one : 1 ≤ times id xs = times-here id xs (subst (λ ys. place id ys < length ys) e has) in
    absurd (omega (arith, single id, times-both id xs (id ∷ rest), times-first id rest, one))

last-counted : (y : ℕ) (ys : List ℕ) (z : ℕ) → last_id (y ∷ ys) ≡ Some z → 1 ≤ times z (y ∷ ys)
last-counted y [] z e = let s : y ≡ z = cc in subst (λ w. 1 ≤ times w (y ∷ [])) s (omega (arith, times-first y []))
last-counted y (x ∷ ys) z e = omega (arith, times-behind z y (x ∷ ys), last-counted x ys z e)

single-tail : (x : ℕ) (xs : List ℕ) → AreSingle (x ∷ xs) → AreSingle xs
single-tail x xs s y = omega (arith, s y, times-behind y x xs)

pub behind-last : (xs : List ℕ) → AreSingle xs → place_after (last_id xs) xs ≡ length xs
behind-last [] s = refl
behind-last (x ∷ []) s = let e : eqb x x ≡ true = eq-eqb x x refl in rw e (omega arith)
behind-last (x ∷ y ∷ xs) s = go (last_id (y ∷ xs)) refl (behind-last (y ∷ xs) (single-tail x (y ∷ xs) s))
  where
    by : (z : ℕ) → last_id (y ∷ xs) ≡ Some z → (t : Bool) → eqb x z ≡ t → place z (y ∷ xs) + 1 ≡ length (y ∷ xs) → place z (x ∷ y ∷ xs) + 1 ≡ length (x ∷ y ∷ xs)
    by z e true f h =
        let same : x ≡ z = eqb-true x z f in
        let one : 1 ≤ times z (y ∷ xs) = last-counted y xs z e in
        absurd (omega (arith, s z, subst (λ w. times z (w ∷ y ∷ xs) ≡ suc (times z (y ∷ xs))) (sym same) (times-first z (y ∷ xs)), one))
    by z e false f h = let r : place z (x ∷ y ∷ xs) ≡ suc (place z (y ∷ xs)) = rw f (omega arith) in omega (arith, r, h)

    none : (w : ℕ) (ws : List ℕ) → last_id (w ∷ ws) ≡ None → ⊥
    none w [] e = absurd (cc)
    none w (v ∷ ws) e = none v ws e

    go : (q : Option ℕ) → last_id (y ∷ xs) ≡ q → place_after (last_id (y ∷ xs)) (y ∷ xs) ≡ length (y ∷ xs) → place_after (last_id (y ∷ xs)) (x ∷ y ∷ xs) ≡ length (x ∷ y ∷ xs)
    go None e h = absurd (none y xs e)
    go (Some z) e h = ap (λ q. place_after q (x ∷ y ∷ xs)) e ∙ by z e (eqb x z) refl (sym (ap (λ q. place_after q (y ∷ xs)) e) ∙ h)

pub single-left : (xs ys : List ℕ) → AreSingle (xs ++ ys) → AreSingle xs
single-left xs ys s x = omega (arith, s x, times-both x xs ys)

-- an id behind the last one
pub put-last : (xs rest : List ℕ) (id : ℕ) → AreSingle (xs ++ id ∷ rest) → put_after (last_id xs) id xs ≡ xs ++ id ∷ []
put-last xs rest id s = rw (behind-last xs (single-left xs (id ∷ rest) s)) (insert_end xs id)

pub last-more : (xs : List ℕ) (id : ℕ) → last_id (xs ++ id ∷ []) ≡ Some id
last-more [] id = refl
last-more (x ∷ []) id = refl
last-more (x ∷ y ∷ xs) id = last-more (y ∷ xs) id

-- the last one is there
pub last-there : (slots : List (ℕ × ℕ)) (xs : List ℕ) → ids slots ≡ xs → AreSingle xs → IfSome (last_id xs) (Has slots)
last-there slots xs e s = go (last_id xs) refl (behind-last xs s)
  where
    go : (q : Option ℕ) → last_id xs ≡ q → place_after (last_id xs) xs ≡ length xs → IfSome q (Has slots)
    go None f h = tt
    go (Some z) f h =
        let r : place z xs + 1 ≡ length xs = sym (ap (λ q. place_after q xs) f) ∙ h in
        let lt : place z xs < length xs = omega (arith, r) in
        subst (λ ys. place z ys < length ys) (sym e) lt

-- one more instruction

split-at : (is : List Instr) (k : ℕ) (d : Instr) → k < length is → ids_of is ≡ ids_of (take k is) ++ (get_or is k d).id ∷ ids_of (drop (suc k) is)
split-at [] k d h = absurd (omega arith)
split-at (i ∷ is) zero d h = refl
split-at (i ∷ is) (suc k) d h = ap (λ xs. i.id ∷ xs) (split-at is k d (omega arith))

pub take-one : (is : List Instr) (k : ℕ) (d : Instr) → k < length is → ids_of (take (suc k) is) ≡ ids_of (take k is) ++ (get_or is k d).id ∷ []
take-one [] k d h = absurd (omega arith)
take-one (i ∷ is) zero d h = refl
take-one (i ∷ is) (suc k) d h = ap (λ xs. i.id ∷ xs) (take-one is k d (omega arith))

pub put-more : (slots new : List (ℕ × ℕ)) (old : List ℕ) (is : List Instr) (k : ℕ) (d : Instr) (after : Option ℕ) → k < length is → d ≡ get_or is k d → AreSingle (old ++ ids_of is) → ids slots ≡ old ++ ids_of (take k is) → after ≡ last_id (ids slots)
    → ((Has slots d.id → ⊥) → IfSome after (Has slots) → ids new ≡ put_after after d.id (ids slots))
    → (ids new ≡ old ++ ids_of (take (k + 1) is)) × (Some d.id ≡ last_id (ids new))
put-more slots new old is k d after h own single e last put =
    let id = d.id in
    let rest = ids_of (drop (suc k) is) in
    let xs = old ++ ids_of (take k is) in
    let whole : old ++ ids_of is ≡ xs ++ id ∷ rest = ap (λ ys. old ++ ys) (split-at is k d h ∙ ap (λ i. ids_of (take k is) ++ i.id ∷ rest) (sym own)) ∙ sym (append_assoc old (ids_of (take k is)) (id ∷ rest)) in
    let alone : AreSingle (xs ++ id ∷ rest) = subst AreSingle whole single in
    let one : AreSingle xs = single-left xs (id ∷ rest) alone in
    let at : after ≡ last_id xs = last ∙ ap last_id e in
    let there : IfSome after (Has slots) = subst (λ q. IfSome q (Has slots)) (sym at) (last-there slots xs e one) in
    let came : ids new ≡ xs ++ id ∷ [] = put (λ has. next-absent slots xs rest id e alone has) there ∙ ap (λ ys. put_after after id ys) e ∙ ap (λ q. put_after q id xs) at ∙ put-last xs rest id alone in
    let told : xs ++ id ∷ [] ≡ old ++ ids_of (take (k + 1) is) = append_assoc old (ids_of (take k is)) (id ∷ []) ∙ ap (λ ys. old ++ ys) (sym (take-one is k d h ∙ ap (λ i. ids_of (take k is) ++ i.id ∷ []) (sym own))) ∙ ap (λ n. old ++ ids_of (take n is)) (sym (add-one k)) in
    (came ∙ told, sym (ap last_id came ∙ last-more xs id))

-- the id of the next instruction isn't there yet
pub next-new : (slots : List (ℕ × ℕ)) (old : List ℕ) (is : List Instr) (k : ℕ) (d : Instr) → k < length is → d ≡ get_or is k d → AreSingle (old ++ ids_of is) → ids slots ≡ old ++ ids_of (take k is) → Has slots d.id → ⊥
next-new slots old is k d h own single e has =
    let rest = ids_of (drop (suc k) is) in
    let whole : old ++ ids_of is ≡ (old ++ ids_of (take k is)) ++ d.id ∷ rest = ap (λ ys. old ++ ys) (split-at is k d h ∙ ap (λ i. ids_of (take k is) ++ i.id ∷ rest) (sym own)) ∙ sym (append_assoc old (ids_of (take k is)) (d.id ∷ rest)) in
    next-absent slots (old ++ ids_of (take k is)) rest d.id e (subst AreSingle whole single) has

take-past : {X : Type 0} (xs : List X) (k : ℕ) → length xs ≤ k → take k xs ≡ xs
take-past [] zero h = refl
take-past [] (suc k) h = refl
take-past (x ∷ xs) zero h = absurd (omega arith)
take-past (x ∷ xs) (suc k) h = ap (λ ys. x ∷ ys) (take-past xs k (omega arith))

pub put-all : (old : List ℕ) (is : List Instr) (k : ℕ) → length is ≤ k → old ++ ids_of (take k is) ≡ old ++ ids_of is
put-all old is k h = ap (λ js. old ++ ids_of js) (take-past is k h)

-- one more block

all-split : (bs : List Block) (k : ℕ) (b : Block) → k < length bs → b ≡ get_or bs k b → all_ids bs ≡ (all_ids (take k bs) ++ ids_of b.instrs) ++ all_ids (drop (suc k) bs)
all-split [] k b h e = absurd (omega arith)
all-split (c ∷ bs) zero b h e = ap (λ x. ids_of x.instrs ++ all_ids bs) (sym e)
all-split (c ∷ bs) (suc k) b h e = ap (λ xs. ids_of c.instrs ++ xs) (all-split bs k b (omega arith) e) ∙ sym (append_assoc (ids_of c.instrs) (all_ids (take k bs) ++ ids_of b.instrs) (all_ids (drop (suc k) bs))) ∙ ap (λ xs. xs ++ all_ids (drop (suc k) bs)) (sym (append_assoc (ids_of c.instrs) (all_ids (take k bs)) (ids_of b.instrs)))

all-one : (bs : List Block) (k : ℕ) (b : Block) → k < length bs → b ≡ get_or bs k b → all_ids (take (suc k) bs) ≡ all_ids (take k bs) ++ ids_of b.instrs
all-one [] k b h e = absurd (omega arith)
all-one (c ∷ bs) zero b h e = append-nil (ids_of c.instrs) ∙ ap (λ x. ids_of x.instrs) (sym e)
all-one (c ∷ bs) (suc k) b h e = ap (λ xs. ids_of c.instrs ++ xs) (all-one bs k b (omega arith) e) ∙ sym (append_assoc (ids_of c.instrs) (all_ids (take k bs)) (ids_of b.instrs))

pub blocks-more : (bs : List Block) (k : ℕ) (b : Block) (was mid new : List ℕ) (last after : Option ℕ) → k < length bs → b ≡ get_or bs k b → AreSingle (all_ids bs) → mid ≡ was → was ≡ all_ids (take k bs) → last ≡ last_id was
    → (AreSingle (mid ++ ids_of b.instrs) → last ≡ last_id mid → (new ≡ mid ++ ids_of b.instrs) × (after ≡ last_id new))
    → (new ≡ all_ids (take (k + 1) bs)) × (after ≡ last_id new)
blocks-more bs k b was mid new last after h e single same told ends add =
    let left : all_ids (take k bs) ++ ids_of b.instrs ≡ mid ++ ids_of b.instrs = ap (λ xs. xs ++ ids_of b.instrs) (sym (same ∙ told)) in
    let alone : AreSingle (mid ++ ids_of b.instrs) = subst AreSingle left (single-left (all_ids (take k bs) ++ ids_of b.instrs) (all_ids (drop (suc k) bs)) (subst AreSingle (all-split bs k b h e) single)) in
    let z = add alone (ends ∙ ap last_id (sym same)) in
    (z.0 ∙ sym left ∙ sym (all-one bs k b h e) ∙ ap (λ n. all_ids (take n bs)) (sym (add-one k)), z.1)

-- the instructions of the next block come behind those that are there
pub blocks-ready : (bs : List Block) (k : ℕ) (b : Block) (was mid : List ℕ) (last : Option ℕ) → k < length bs → b ≡ get_or bs k b → AreSingle (all_ids bs) → mid ≡ was → was ≡ all_ids (take k bs) → last ≡ last_id was
    → AreSingle (mid ++ ids_of b.instrs) × (last ≡ last_id mid)
blocks-ready bs k b was mid last h e single same told ends =
    let left : all_ids (take k bs) ++ ids_of b.instrs ≡ mid ++ ids_of b.instrs = ap (λ xs. xs ++ ids_of b.instrs) (sym (same ∙ told)) in
    (subst AreSingle left (single-left (all_ids (take k bs) ++ ids_of b.instrs) (all_ids (drop (suc k) bs)) (subst AreSingle (all-split bs k b h e) single)), ends ∙ ap last_id (sym same))

pub blocks-all : (bs : List Block) (k : ℕ) → length bs ≤ k → all_ids (take k bs) ≡ all_ids bs
blocks-all bs k h = ap all_ids (take-past bs k h)

-- no id stands twice in a function

times-count : (x : ℕ) (is : List Instr) → times x (ids_of is) ≡ id_count x is
times-count x [] = refl
times-count x (i ∷ is) = go (eqb i.id x) (times-count x is) ∙ sym (sum_by-cons (λ j. cond (eqb j.id x) 1 0) i is)
  where
    go : (t : Bool) → times x (ids_of is) ≡ id_count x is → cond t (suc (times x (ids_of is))) (times x (ids_of is)) ≡ cond t 1 0 + id_count x is
    go true ih = omega (arith, ih)
    go false ih = omega (arith, ih)

pub times-total : (x : ℕ) (bs : List Block) → times x (all_ids bs) ≡ id_total x bs
times-total x [] = refl
times-total x (b ∷ bs) = times-both x (ids_of b.instrs) (all_ids bs) ∙ omega (arith, times-count x b.instrs, times-total x bs, sum_by-cons (λ c. id_count x c.instrs) b bs)

pub once-single : (bs : List Block) (n : ℕ) → IsFunction bs n → AreSingle (all_ids bs)
once-single bs n f x = go (nat_lt x n) (f.once x)
  where
    go : (t : Bool) → id_total x bs ≤ cond t 1 0 → times x (all_ids bs) ≤ 1
    go true h = omega (arith, h, times-total x bs)
    go false h = omega (arith, h, times-total x bs)

pub place-next : (n : ℕ) (bs : List Block) (k : ℕ) (b : Block) → k < length bs → b ≡ get_or bs k b → placed (place_of n (take k bs)) b.number n k ≡ place_of n (take (k + 1) bs)
place-next n bs k b h e = ap (λ c. placed (place_of n (take k bs)) c.number n k) e ∙ sym (place-more n bs k b h) ∙ ap (λ m. place_of n (take m bs)) (sym (add-one k))
