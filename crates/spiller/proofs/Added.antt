-- What is added to a plan in steps is added at once.
use Rattle.std.proofs.Common.{◌≡◌, ◌∙◌, ℕ, suc, ◌+◌, Bool, true, false, List, [], ◌∷◌, ◌++◌, length, map, refl, sym, ap, arith, append_assoc}
use Rattle.std.proofs.lemmas.List.{append-nil, map-append, length-append}
use Rattle.std.specs.Prelude.{◌||◌, Option}
use Rattle.std.specs.List.{zip}
use Rattle.std.proofs.lemmas.List.Folds.{list_any-append}
use Rattle.target_base.specs.declared.types.ClassId.{ClassId}
use Rattle.mir_func.specs.declared.func.Gap.{Gap}
use Rattle.mir_func.specs.declared.func.Instr.{Instr}
use Rattle.mir_meaning.specs.Registers.{numbers}
use Rattle.spiller.specs.Setting.{Spilling}
use Rattle.spiller.specs.Spilled.{Change, new_ids}
use Rattle.spiller.specs.Views.{Planned}
use Rattle.spiller.specs.Planned.{change_edits, names_own_slot, uses_own_slot, with_change}
use Rattle.spiller.specs.Additions.{Addition, both, change_added, put_into, with_addition}

-- plans with the same parts
pub plan-is : (p q : Planned) → p.edits ≡ q.edits → p.tinies ≡ q.tinies → p.classes ≡ q.classes → p.uses_slot ≡ q.uses_slot → p.next_range ≡ q.next_range → p.next_id ≡ q.next_id → p ≡ q
plan-is p q a b c d e f = λ k. record { edits = a k; tinies = b k; classes = c k; uses_slot = d k; next_range = e k; next_id = f k }

-- additions with the same parts
pub addition-is : (a b : Addition) → a.edits ≡ b.edits → a.tinies ≡ b.tinies → a.uses_slot ≡ b.uses_slot → a.new ≡ b.new → a ≡ b
addition-is a b e t u n = λ k. record { edits = e k; tinies = t k; uses_slot = u k; new = n k }

pub or-more : (a b c : Bool) → ((a || b) || c) ≡ (a || (b || c))
or-more true b c = refl
or-more false b c = refl

-- further numbers behind others
zip-more : {X Y : Type 0} (f : X → Y) (n : ℕ) (xs ys : List X) → zip (numbers n (length xs)) (map f xs) ++ zip (numbers (n + length xs) (length ys)) (map f ys) ≡ zip (numbers n (length (xs ++ ys))) (map f (xs ++ ys))
zip-more f n [] ys = let e : n + 0 ≡ n = omega arith in ap (λ m. zip (numbers m (length ys)) (map f ys)) e
zip-more f n (x ∷ xs) ys =
    let e : n + length (x ∷ xs) ≡ suc n + length xs = omega arith in
    ap (λ zs. (n, f x) ∷ zs) (ap (λ m. zip (numbers (suc n) (length xs)) (map f xs) ++ zip (numbers m (length ys)) (map f ys)) e ∙ zip-more f (suc n) xs ys)

-- one addition behind another
pub twice : (a b : Addition) (p : Planned) → with_addition b (with_addition a p) ≡ with_addition (both a b) p
twice a b p =
    let ranges : p.next_range + length a.tinies + length b.tinies ≡ p.next_range + length (a.tinies ++ b.tinies) = let l = length-append a.tinies b.tinies in omega (arith, l) in
    let ids : p.next_id + a.new + b.new ≡ p.next_id + (a.new + b.new) = omega arith in
    plan-is (with_addition b (with_addition a p)) (with_addition (both a b) p)
    (append_assoc p.edits a.edits b.edits)
    (append_assoc p.tinies (zip (numbers p.next_range (length a.tinies)) (map (λ k. k.1) a.tinies)) _ ∙ ap (λ zs. p.tinies ++ zs) (zip-more (λ k. k.1) p.next_range a.tinies b.tinies))
    (append_assoc p.classes (map (λ k. k.0) a.tinies) _ ∙ ap (λ zs. p.classes ++ zs) (sym (map-append (λ (k : Option ClassId × ℕ). k.0) a.tinies b.tinies)))
    (or-more p.uses_slot a.uses_slot b.uses_slot)
    ranges
    ids

-- one behind others that were added
pub then-added : (a b : Addition) (p q r : Planned) → q ≡ with_addition a p → r ≡ with_addition b q → r ≡ with_addition (both a b) p
then-added a b p q r e h = h ∙ ap (with_addition b) e ∙ twice a b p

-- instructions in one gap
pub put-more : (s : Spilling) (gap : Gap) (xs ys : List Instr) → both (put_into s gap xs) (put_into s gap ys) ≡ put_into s gap (xs ++ ys)
put-more s gap xs ys =
    addition-is (both (put_into s gap xs) (put_into s gap ys)) (put_into s gap (xs ++ ys))
    (sym (map-append _ xs ys)) refl (sym (list_any-append (names_own_slot s) xs ys)) (sym (length-append xs ys))

-- what a plan has with a change is what it has with its parts
pub change-added : (s : Spilling) (before behind : Gap) (is : List Instr) (x : Change) (p : Planned) → with_change s before behind is x p ≡ with_addition (change_added s before behind is x) p
change-added s before behind is x p =
    let n : new_ids x ≡ 0 + (length x.before + (0 + length x.behind)) = omega arith in
    ap (λ a. with_addition a p) (addition-is
    (record { edits = change_edits s before behind is x; tinies = x.tinies; uses_slot = uses_own_slot s is x; new = new_ids x })
    (change_added s before behind is x)
    refl (sym (append-nil x.tinies)) refl n)
