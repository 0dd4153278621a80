-- Steps of walks that plan.
use Rattle.std.proofs.Common.{◌≡◌, ◌∙◌, ℕ, ◌+◌, ◌-◌, ◌<◌, ◌≤◌, zero, suc, true, false, cond, ◌||◌, List, [], ◌∷◌, ◌++◌, Option, Some, None, get_or, drop, flat_map, length, map, take, refl, sym, ap, subst, append_assoc, add-one, arith}
use Rattle.std.specs.Prelude.{filter_map, option_map}
use Rattle.std.specs.List.{AllByRecursion, cons_option, list_any}
use Rattle.std.proofs.lemmas.List.{append-nil, length-append, length-map, length-take-le, map-append, take_more}
use Rattle.std.proofs.lemmas.List.Concat.{flat_map-append}
use Rattle.target_base.specs.declared.types.ClassId.{ClassId}
use Rattle.target_base.specs.declared.types.Role.{Role}
use Rattle.mir_func.specs.declared.func.Gap.{Gap}
use Rattle.mir_func.specs.declared.func.Instr.{Instr}
use Rattle.mir_func.specs.declared.func.Operand.{Operand}
use Rattle.mir_func.specs.declared.func.RegOp.{RegOp}
use Rattle.mir_func.specs.Binding.{Bound, after_first, explicit_bound, first_role, numbered}
use Rattle.mir_func.proofs.Bound.{numbered_append}
use Rattle.mir_meaning.specs.Places.{Variable, each_once, same_use}
use Rattle.live_lanes.proofs.Flowing.{or-false}
use Rattle.spiller.specs.declared.roles.IndexedClass.{IndexedClass}
use Rattle.spiller.specs.declared.seats.DefinedTiny.{DefinedTiny}
use Rattle.spiller.specs.declared.seats.ReadTiny.{ReadTiny}
use Rattle.spiller.specs.Setting.{Spilling}
use Rattle.spiller.specs.Spilled.{OwnDefinition}
use Rattle.spiller.specs.Views.{Planned, same_way, way_of}
use Rattle.spiller.specs.Additions.{both, definitions_given, given_from, put_into, ranges_made, tied_reloads, ways_given, with_addition}
use Rattle.spiller.specs.Placing.{last_name}
use Rattle.spiller.specs.Seating.{defined_tiny, read_tiny}
use Rattle.spiller.proofs.Added.{addition-is, plan-is, put-more, then-added, twice}
use Rattle.spiller.proofs.WaysFound.{one-use}
use Rattle.spiller.proofs.Walks.{bound-more, bound-all, told-more, told-all, counted-more, counted-all, once-further}

-- one and others
one-first : {X : Type 0} (q : Option X) (xs : List X) → cons_option q xs ≡ cons_option q [] ++ xs
one-first None xs = refl
one-first (Some x) xs = refl

-- ways of reading

any-way : (v : ℕ) (way : IndexedClass) (xs : List IndexedClass) → list_any (same_use (way_of v way)) (map (way_of v) xs) ≡ list_any (same_way way) xs
any-way v way [] = refl
any-way v way (x ∷ xs) = λ k. one-use v way x k || any-way v way xs k

pub way-known : (v : ℕ) (way : IndexedClass) (q : Option IndexedClass) (r : Option Variable) (xs : List IndexedClass) → option_map (way_of v) q ≡ r → q ≡ Some way → list_any (same_way way) xs ≡ true → map (way_of v) xs ≡ map (way_of v) xs ++ each_once (map (way_of v) xs) (cons_option r [])
way-known v way q r xs a b e =
    let is : Some (way_of v way) ≡ r = ap (option_map (way_of v)) (sym b) ∙ a in
    sym (append-nil (map (way_of v) xs)) ∙ ((λ k. map (way_of v) xs ++ cond (sym (any-way v way xs ∙ e) k) [] (way_of v way ∷ [])) ∙ ap (λ x. map (way_of v) xs ++ each_once (map (way_of v) xs) (cons_option x [])) is)

pub way-new : (v : ℕ) (way : IndexedClass) (q : Option IndexedClass) (r : Option Variable) (xs ys : List IndexedClass) → option_map (way_of v) q ≡ r → q ≡ Some way → list_any (same_way way) xs ≡ false → ys ≡ xs ++ way ∷ [] → map (way_of v) ys ≡ map (way_of v) xs ++ each_once (map (way_of v) xs) (cons_option r [])
way-new v way q r xs ys a b e c =
    let is : Some (way_of v way) ≡ r = ap (option_map (way_of v)) (sym b) ∙ a in
    ap (map (way_of v)) c ∙ (map-append (way_of v) xs (way ∷ []) ∙ ((λ k. map (way_of v) xs ++ cond (sym (any-way v way xs ∙ e) k) [] (way_of v way ∷ [])) ∙ ap (λ x. map (way_of v) xs ++ each_once (map (way_of v) xs) (cons_option x [])) is))

pub ruleset way_rules = (way-known, way-new)

pub ways-step : (g : Bound → Option Variable) (qs next : List Role) (r : Option Role) (k : ℕ) (os : List Operand) (o : Operand) (now new total : List Variable) → k < length os → o ≡ get_or os k o → r ≡ first_role qs → next ≡ after_first qs → new ≡ now ++ each_once now (cons_option (g (r, o)) []) → now ++ each_once now (filter_map g (explicit_bound qs (drop k os))) ≡ total → new ++ each_once new (filter_map g (explicit_bound next (drop (k + 1) os))) ≡ total
ways-step g qs next r k os o now new total h at role left e was =
    let rest = filter_map g (explicit_bound next (drop (k + 1) os)) in
    ap (λ xs. xs ++ each_once xs rest) e
    ∙ (once-further now (cons_option (g (r, o)) []) rest
    ∙ (ap (λ xs. now ++ each_once now xs) (sym (told-more g qs next r k os o h at role left ∙ one-first (g (r, o)) rest))
    ∙ was))

-- the same where the operands are looked at as a slice
pub ways-walked : (g : Bound → Option Variable) (qs next : List Role) (r : Option Role) (k : ℕ) (items os : List Operand) (o : Operand) (now new total : List Variable) → items ≡ os → k < length items → o ≡ get_or items k o → r ≡ first_role qs → next ≡ after_first qs → new ≡ now ++ each_once now (cons_option (g (r, o)) []) → now ++ each_once now (filter_map g (explicit_bound qs (drop k os))) ≡ total → new ++ each_once new (filter_map g (explicit_bound next (drop (k + 1) os))) ≡ total
ways-walked g qs next r k items os o now new total are h at role left e was = ways-step g qs next r k os o now new total (subst (λ xs. k < length xs) are h) (subst (λ xs. o ≡ get_or xs k o) are at) role left e was

pub ways-done : (g : Bound → Option Variable) (qs : List Role) (k : ℕ) (os : List Operand) (now total : List Variable) → length os ≤ k → now ++ each_once now (filter_map g (explicit_bound qs (drop k os))) ≡ total → now ≡ total
ways-done g qs k os now total h was = sym (ap (λ xs. now ++ each_once now xs) (told-all g qs k os h) ∙ append-nil now) ∙ was

pub ruleset ways_steps = (ways-step, ways-done)

-- reloads of tied uses

pub reload-step : (s : Spilling) (gap : Gap) (make : RegOp → Instr) (g : Bound → Option RegOp) (qs next : List Role) (r : Option Role) (k : ℕ) (os : List Operand) (o : Operand) (p q total : Planned) → k < length os → o ≡ get_or os k o → r ≡ first_role qs → next ≡ after_first qs → q ≡ with_addition (put_into s gap (map make (cons_option (g (r, o)) []))) p → with_addition (put_into s gap (map make (filter_map g (explicit_bound qs (drop k os))))) p ≡ total → with_addition (put_into s gap (map make (filter_map g (explicit_bound next (drop (k + 1) os))))) q ≡ total
reload-step s gap make g qs next r k os o p q total h at role left e was =
    let rest = filter_map g (explicit_bound next (drop (k + 1) os)) in
    let one = cons_option (g (r, o)) [] in
    ap (with_addition (put_into s gap (map make rest))) e
    ∙ (twice (put_into s gap (map make one)) (put_into s gap (map make rest)) p
    ∙ (ap (λ a. with_addition a p) (put-more s gap (map make one) (map make rest))
    ∙ (ap (λ xs. with_addition (put_into s gap xs) p) (sym (map-append make one rest))
    ∙ (ap (λ xs. with_addition (put_into s gap (map make xs)) p) (sym (told-more g qs next r k os o h at role left ∙ one-first (g (r, o)) rest))
    ∙ was))))

-- nothing more
nothing-put : (s : Spilling) (gap : Gap) (p : Planned) → with_addition (put_into s gap []) p ≡ p
nothing-put s gap p =
    let r : p.next_range + 0 ≡ p.next_range = omega arith in
    let i : p.next_id + 0 ≡ p.next_id = omega arith in
    plan-is (with_addition (put_into s gap []) p) p (append-nil p.edits) (append-nil p.tinies) (append-nil p.classes) (or-false p.uses_slot) r i

pub reload-done : (s : Spilling) (gap : Gap) (make : RegOp → Instr) (g : Bound → Option RegOp) (qs : List Role) (k : ℕ) (os : List Operand) (p total : Planned) → length os ≤ k → with_addition (put_into s gap (map make (filter_map g (explicit_bound qs (drop k os))))) p ≡ total → p ≡ total
reload-done s gap make g qs k os p total h was = sym (ap (λ xs. with_addition (put_into s gap (map make xs)) p) (told-all g qs k os h) ∙ nothing-put s gap p) ∙ was

pub ruleset reload_steps = (reload-step, reload-done)

-- operands that are placed

pub placed-more : (f : ℕ × Bound → Operand) (qs next : List Role) (r : Option Role) (k : ℕ) (os made after total : List Operand) (o x : Operand) → k < length os → o ≡ get_or os k o → r ≡ first_role qs → next ≡ after_first qs → x ≡ f (k, (r, o)) → after ≡ made ++ x ∷ [] → made ++ map f (numbered k (explicit_bound qs (drop k os))) ≡ total → after ++ map f (numbered (k + 1) (explicit_bound next (drop (k + 1) os))) ≡ total
placed-more f qs next r k os made after total o x h at role left is e was =
    let m : map f (numbered k (explicit_bound qs (drop k os))) ≡ x ∷ map f (numbered (k + 1) (explicit_bound next (drop (k + 1) os))) = rw (bound-more qs next r k os o h at role left, is, add-one) refl in
    rw (e, append_assoc made (x ∷ []) (map f (numbered (k + 1) (explicit_bound next (drop (k + 1) os)))), ← m) was

pub placed-all : (f : ℕ × Bound → Operand) (qs : List Role) (k : ℕ) (os made total : List Operand) → length os ≤ k → made ++ map f (numbered k (explicit_bound qs (drop k os))) ≡ total → made ≡ total
placed-all f qs k os made total h was = let e = rw (bound-all qs k os h, append-nil made) at was in e

pub ruleset placed_steps = (placed-more, placed-all)

-- tinies and what is put for them

pub parts-more : (s : Spilling) (gap : Gap) (ks js : List (Option ClassId × ℕ)) (xs ys : List Instr) → both (both (ranges_made ks) (put_into s gap xs)) (both (ranges_made js) (put_into s gap ys)) ≡ both (ranges_made (ks ++ js)) (put_into s gap (xs ++ ys))
parts-more s gap ks js xs ys =
    let a = both (ranges_made ks) (put_into s gap xs) in
    let b = both (ranges_made js) (put_into s gap ys) in
    let c = both (ranges_made (ks ++ js)) (put_into s gap (xs ++ ys)) in
    let n : (0 + length xs) + (0 + length ys) ≡ 0 + length (xs ++ ys) = let l = length-append xs ys in omega (arith, l) in
    let one = put-more s gap xs ys in
    addition-is (both a b) c
    (ap (λ z. z.edits) one)
    ((λ k. append-nil ks k ++ append-nil js k) ∙ sym (append-nil (ks ++ js)))
    (ap (λ z. z.uses_slot) one)
    n

pub definitions-more : (s : Spilling) (gap : Gap) (at : ℕ) (ps qs : List (ℕ × OwnDefinition)) → both (definitions_given s gap at ps) (definitions_given s gap at qs) ≡ definitions_given s gap at (ps ++ qs)
definitions-more s gap at ps qs =
    parts-more s gap (map (λ p. (p.1.class, at)) ps) (map (λ p. (p.1.class, at)) qs) (flat_map (tied_reloads s) ps) (flat_map (tied_reloads s) qs)
    ∙ (λ k. both (ranges_made (sym (map-append (λ (p : ℕ × OwnDefinition). (p.1.class, at)) ps qs) k)) (put_into s gap (sym (flat_map-append (tied_reloads s) ps qs) k)))

pub length-numbered : {X : Type 0} (n : ℕ) (xs : List X) → length (numbered n xs) ≡ length xs
length-numbered n [] = refl
length-numbered n (x ∷ xs) = ap suc (length-numbered (suc n) xs)

-- the range numbers behind tinies of definitions
pub range-behind : (s : Spilling) (gap : Gap) (at : ℕ) (p q : Planned) (ds : List OwnDefinition) → q ≡ with_addition (definitions_given s gap at (numbered p.next_range ds)) p → q.next_range ≡ p.next_range + length ds
range-behind s gap at p q ds e = ap (λ (x : Planned). x.next_range) e ∙ ap (λ m. p.next_range + m) (ap length (append-nil (map (λ (d : ℕ × OwnDefinition). (d.1.class, at)) (numbered p.next_range ds))) ∙ (length-map (numbered p.next_range ds) (λ (d : ℕ × OwnDefinition). (d.1.class, at)) ∙ length-numbered p.next_range ds))

-- further definitions
pub further-plan : (s : Spilling) (gap : Gap) (at : ℕ) (p q : Planned) (ds es : List OwnDefinition) → q ≡ with_addition (definitions_given s gap at (numbered p.next_range ds)) p → with_addition (definitions_given s gap at (numbered q.next_range es)) q ≡ with_addition (definitions_given s gap at (numbered p.next_range (ds ++ es))) p
further-plan s gap at p q ds es e =
    (λ k. with_addition (definitions_given s gap at (numbered (range-behind s gap at p q ds e k) es)) (e k))
    ∙ (twice (definitions_given s gap at (numbered p.next_range ds)) (definitions_given s gap at (numbered (p.next_range + length ds) es)) p
    ∙ (ap (λ a. with_addition a p) (definitions-more s gap at (numbered p.next_range ds) (numbered (p.next_range + length ds) es))
    ∙ ap (λ xs. with_addition (definitions_given s gap at xs) p) (sym (numbered_append p.next_range ds es))))

pub further-tinies : (n m : ℕ) (xs ys : List DefinedTiny) (ds es : List OwnDefinition) → m ≡ n + length ds → ys ≡ xs ++ map defined_tiny (numbered n ds) → ys ++ map defined_tiny (numbered m es) ≡ xs ++ map defined_tiny (numbered n (ds ++ es))
further-tinies n m xs ys ds es at e =
    (λ k. e k ++ map defined_tiny (numbered (at k) es))
    ∙ (append_assoc xs (map defined_tiny (numbered n ds)) (map defined_tiny (numbered (n + length ds) es))
    ∙ (ap (λ zs. xs ++ zs) (sym (map-append defined_tiny (numbered n ds) (numbered (n + length ds) es)))
    ∙ ap (λ zs. xs ++ map defined_tiny zs) (sym (numbered_append n ds es))))

-- the definition that an operand is, and those that are left
pub define-tinies : (g : ℕ × Bound → Option OwnDefinition) (qs next : List Role) (r : Option Role) (k : ℕ) (os : List Operand) (o : Operand) (n m : ℕ) (xs ys total : List DefinedTiny) → k < length os → o ≡ get_or os k o → r ≡ first_role qs → next ≡ after_first qs → m ≡ n + length (cons_option (g (k, (r, o))) []) → ys ≡ xs ++ map defined_tiny (numbered n (cons_option (g (k, (r, o))) [])) → xs ++ map defined_tiny (numbered n (filter_map g (numbered k (explicit_bound qs (drop k os))))) ≡ total → ys ++ map defined_tiny (numbered m (filter_map g (numbered (k + 1) (explicit_bound next (drop (k + 1) os))))) ≡ total
define-tinies g qs next r k os o n m xs ys total h at role left behind e was =
    let rest = filter_map g (numbered (k + 1) (explicit_bound next (drop (k + 1) os))) in
    further-tinies n m xs ys (cons_option (g (k, (r, o))) []) rest behind e
    ∙ (ap (λ ds. xs ++ map defined_tiny (numbered n ds)) (sym (counted-more g qs next r k os o h at role left ∙ one-first (g (k, (r, o))) rest))
    ∙ was)

pub define-plan : (s : Spilling) (gap : Gap) (at : ℕ) (g : ℕ × Bound → Option OwnDefinition) (qs next : List Role) (r : Option Role) (k : ℕ) (os : List Operand) (o : Operand) (p q total : Planned) → k < length os → o ≡ get_or os k o → r ≡ first_role qs → next ≡ after_first qs → q ≡ with_addition (definitions_given s gap at (numbered p.next_range (cons_option (g (k, (r, o))) []))) p → with_addition (definitions_given s gap at (numbered p.next_range (filter_map g (numbered k (explicit_bound qs (drop k os)))))) p ≡ total → with_addition (definitions_given s gap at (numbered q.next_range (filter_map g (numbered (k + 1) (explicit_bound next (drop (k + 1) os)))))) q ≡ total
define-plan s gap at g qs next r k os o p q total h is role left e was =
    let rest = filter_map g (numbered (k + 1) (explicit_bound next (drop (k + 1) os))) in
    further-plan s gap at p q (cons_option (g (k, (r, o))) []) rest e
    ∙ (ap (λ ds. with_addition (definitions_given s gap at (numbered p.next_range ds)) p) (sym (counted-more g qs next r k os o h is role left ∙ one-first (g (k, (r, o))) rest))
    ∙ was)

pub define-done-tinies : (g : ℕ × Bound → Option OwnDefinition) (qs : List Role) (k : ℕ) (os : List Operand) (n : ℕ) (xs total : List DefinedTiny) → length os ≤ k → xs ++ map defined_tiny (numbered n (filter_map g (numbered k (explicit_bound qs (drop k os))))) ≡ total → xs ≡ total
define-done-tinies g qs k os n xs total h was = sym (ap (λ ds. xs ++ map defined_tiny (numbered n ds)) (counted-all g qs k os h) ∙ append-nil xs) ∙ was

nothing-defined : (s : Spilling) (gap : Gap) (at : ℕ) (p : Planned) → with_addition (definitions_given s gap at []) p ≡ p
nothing-defined s gap at p = nothing-put s gap p

pub define-done-plan : (s : Spilling) (gap : Gap) (at : ℕ) (g : ℕ × Bound → Option OwnDefinition) (qs : List Role) (k : ℕ) (os : List Operand) (n : ℕ) (p total : Planned) → length os ≤ k → with_addition (definitions_given s gap at (numbered n (filter_map g (numbered k (explicit_bound qs (drop k os)))))) p ≡ total → p ≡ total
define-done-plan s gap at g qs k os n p total h was = sym (ap (λ ds. with_addition (definitions_given s gap at (numbered n ds)) p) (counted-all g qs k os h) ∙ nothing-defined s gap at p) ∙ was

-- ways of reading that are given their tinies

-- one thing more has the next number
pub numbered-take : {X Y : Type 0} (f : X → Y) (n k : ℕ) (xs : List X) (x : X) → k < length xs → x ≡ get_or xs k x → numbered n (map f (take (k + 1) xs)) ≡ numbered n (map f (take k xs)) ++ (n + k, f x) ∷ []
numbered-take f n k xs x h at =
    let long : length (map f (take k xs)) ≡ k = length-map (take k xs) f ∙ length-take-le k xs (omega (arith, h)) in
    ap (λ ys. numbered n (map f ys)) (take_more xs k x h)
    ∙ (ap (λ y. numbered n (map f (take k xs ++ y ∷ []))) (sym at)
    ∙ (ap (numbered n) (map-append f (take k xs) (x ∷ []))
    ∙ (numbered_append n (map f (take k xs)) (f x ∷ [])
    ∙ ap (λ m. numbered n (map f (take k xs)) ++ (n + m, f x) ∷ []) long)))

pub ways-more : (s : Spilling) (gap : Gap) (at : ℕ) (sources : Variable → Option Instr) (ps qs : List (ℕ × Variable)) → both (ways_given s gap at sources ps) (ways_given s gap at sources qs) ≡ ways_given s gap at sources (ps ++ qs)
ways-more s gap at sources ps qs =
    let make : ℕ × Variable → Instr = λ p. given_from s (sources p.1) p in
    parts-more s gap (map (λ p. (p.1.class, at)) ps) (map (λ p. (p.1.class, at)) qs) (map make ps) (map make qs)
    ∙ (λ k. both (ranges_made (sym (map-append (λ (p : ℕ × Variable). (p.1.class, at)) ps qs) k)) (put_into s gap (sym (map-append make ps qs) k)))

pub give-plan : (s : Spilling) (gap : Gap) (at : ℕ) (sources : Variable → Option Instr) (n m k : ℕ) (ws : List Variable) (v : Variable) (ps : List (ℕ × Variable)) (p q r : Planned) → m ≡ n + k → ps ≡ numbered n ws ++ (n + k, v) ∷ [] → q ≡ with_addition (ways_given s gap at sources (numbered n ws)) p → r ≡ with_addition (ways_given s gap at sources ((m, v) ∷ [])) q → r ≡ with_addition (ways_given s gap at sources ps) p
give-plan s gap at sources n m k ws v ps p q r is all a b =
    then-added (ways_given s gap at sources (numbered n ws)) (ways_given s gap at sources ((m, v) ∷ [])) p q r a b
    ∙ (ap (λ x. with_addition x p) (ways-more s gap at sources (numbered n ws) ((m, v) ∷ []))
    ∙ (ap (λ x. with_addition (ways_given s gap at sources (numbered n ws ++ (x, v) ∷ [])) p) is
    ∙ ap (λ xs. with_addition (ways_given s gap at sources xs) p) (sym all)))

pub give-tinies : (n m k : ℕ) (ws : List Variable) (v : Variable) (ps : List (ℕ × Variable)) (xs ys : List ReadTiny) (r : ReadTiny) → m ≡ n + k → ps ≡ numbered n ws ++ (n + k, v) ∷ [] → xs ≡ map read_tiny (numbered n ws) → r ≡ read_tiny (m, v) → ys ≡ xs ++ r ∷ [] → ys ≡ map read_tiny ps
give-tinies n m k ws v ps xs ys r is all a b c =
    c
    ∙ ((λ j. a j ++ b j ∷ [])
    ∙ (ap (λ x. map read_tiny (numbered n ws) ++ read_tiny (x, v) ∷ []) is
    ∙ (sym (map-append read_tiny (numbered n ws) ((n + k, v) ∷ []))
    ∙ ap (map read_tiny) (sym all))))

-- what holds of all holds of the one at a place
pub all-at : {X Y : Type 0} (P : Y → Type 0) (f : X → Y) (xs : List X) (k : ℕ) (x : X) → k < length xs → x ≡ get_or xs k x → AllByRecursion P (map f xs) → P (f x)
all-at P f [] k x h at all = absurd (omega (arith, h))
all-at P f (y ∷ xs) zero x h at all = subst (λ z. P (f z)) (sym at) all.0
all-at P f (y ∷ xs) (suc k) x h at all = all-at P f xs k x (omega (arith, h)) at all.1

-- things of one more
pub flat-take : {X Y : Type 0} (f : X → List Y) (xs : List X) (k : ℕ) (x : X) → k < length xs → x ≡ get_or xs k x → flat_map f (take (k + 1) xs) ≡ flat_map f (take k xs) ++ f x
flat-take f xs k x h at =
    ap (flat_map f) (take_more xs k x h)
    ∙ (ap (λ y. flat_map f (take k xs ++ y ∷ [])) (sym at)
    ∙ (flat_map-append f (take k xs) (x ∷ [])
    ∙ ap (λ zs. flat_map f (take k xs) ++ zs) (append-nil (f x))))

-- the definitions of one instruction more

pub define-more-plan : (s : Spilling) (gap : Gap) (at : ℕ) (ds es all : List OwnDefinition) (p q r : Planned) → all ≡ ds ++ es → q ≡ with_addition (definitions_given s gap at (numbered p.next_range ds)) p → r ≡ with_addition (definitions_given s gap at (numbered q.next_range es)) q → r ≡ with_addition (definitions_given s gap at (numbered p.next_range all)) p
define-more-plan s gap at ds es all p q r is a b = b ∙ (further-plan s gap at p q ds es a ∙ ap (λ xs. with_addition (definitions_given s gap at (numbered p.next_range xs)) p) (sym is))

pub define-more-tinies : (s : Spilling) (gap : Gap) (at : ℕ) (ds es all : List OwnDefinition) (p q : Planned) (xs ys zs : List DefinedTiny) → all ≡ ds ++ es → q ≡ with_addition (definitions_given s gap at (numbered p.next_range ds)) p → ys ≡ xs ++ map defined_tiny (numbered p.next_range ds) → zs ≡ ys ++ map defined_tiny (numbered q.next_range es) → zs ≡ xs ++ map defined_tiny (numbered p.next_range all)
define-more-tinies s gap at ds es all p q xs ys zs is a b c = c ∙ (further-tinies p.next_range q.next_range xs ys ds es (range-behind s gap at p q ds a) b ∙ ap (λ ws. xs ++ map defined_tiny (numbered p.next_range ws)) (sym is))

-- the ways of one instruction more
pub all-ways-step : (f : Instr → List Variable) (is : List Instr) (k : ℕ) (i j : Instr) (before now new : List Variable) → k < length is → i ≡ get_or is k i → j ≡ i → now ≡ before ++ each_once before (flat_map f (take k is)) → new ≡ now ++ each_once now (f j) → new ≡ before ++ each_once before (flat_map f (take (k + 1) is))
all-ways-step f is k i j before now new h at same a b =
    b
    ∙ ((λ z. a z ++ each_once (a z) (f (same z)))
    ∙ (once-further before (flat_map f (take k is)) (f i)
    ∙ ap (λ xs. before ++ each_once before xs) (sym (flat-take f is k i h at))))

-- one way of reading more, by its place in a slice

pub numbered-at : (v n k : ℕ) (xs : List IndexedClass) (d : IndexedClass) → k < length xs → numbered n (map (way_of v) (take (k + 1) xs)) ≡ numbered n (map (way_of v) (take k xs)) ++ (n + k, way_of v (get_or xs k d)) ∷ []
numbered-at v n k xs d h =
    let long : length (map (way_of v) (take k xs)) ≡ k = length-map (take k xs) (way_of v) ∙ length-take-le k xs (omega (arith, h)) in
    ap (λ ys. numbered n (map (way_of v) ys)) (take_more xs k d h)
    ∙ (ap (numbered n) (map-append (way_of v) (take k xs) (get_or xs k d ∷ []))
    ∙ (numbered_append n (map (way_of v) (take k xs)) (way_of v (get_or xs k d) ∷ [])
    ∙ ap (λ m. numbered n (map (way_of v) (take k xs)) ++ (n + m, way_of v (get_or xs k d)) ∷ []) long))

pub give-tinies-step : (v n k m : ℕ) (xs : List IndexedClass) (d : IndexedClass) (old new : List ReadTiny) (r : ReadTiny) → k < length xs → old ≡ map read_tiny (numbered n (map (way_of v) (take k xs))) → m ≡ n + k → r ≡ read_tiny (m, way_of v (get_or xs k d)) → new ≡ old ++ r ∷ [] → new ≡ map read_tiny (numbered n (map (way_of v) (take (k + 1) xs)))
give-tinies-step v n k m xs d old new r h a is b c = give-tinies n m k (map (way_of v) (take k xs)) (way_of v (get_or xs k d)) (numbered n (map (way_of v) (take (k + 1) xs))) old new r is (numbered-at v n k xs d h) a b c

pub give-plan-step : (v : ℕ) (s : Spilling) (gap : Gap) (at : ℕ) (sources : Variable → Option Instr) (n k m : ℕ) (xs : List IndexedClass) (d : IndexedClass) (p q r : Planned) → k < length xs → m ≡ n + k → q ≡ with_addition (ways_given s gap at sources (numbered n (map (way_of v) (take k xs)))) p → r ≡ with_addition (ways_given s gap at sources ((m, way_of v (get_or xs k d)) ∷ [])) q → r ≡ with_addition (ways_given s gap at sources (numbered n (map (way_of v) (take (k + 1) xs)))) p
give-plan-step v s gap at sources n k m xs d p q r h is a b = give-plan s gap at sources n m k (map (way_of v) (take k xs)) (way_of v (get_or xs k d)) (numbered n (map (way_of v) (take (k + 1) xs))) p q r is (numbered-at v n k xs d h) a b

pub all-got : {X Y : Type 0} (P : Y → Type 0) (f : X → Y) (xs : List X) (k : ℕ) (d : X) → k < length xs → AllByRecursion P (map f xs) → P (f (get_or xs k d))
all-got P f [] k d h all = absurd (omega (arith, h))
all-got P f (y ∷ xs) zero d h all = all.0
all-got P f (y ∷ xs) (suc k) d h all = all-got P f xs k d (omega (arith, h)) all.1

-- the last of some instructions
pub last-named : (is : List Instr) (x : Instr) → 1 ≤ length is → x ≡ get_or is (length is - 1) x → x.id ≡ last_name is
last-named [] x h at = absurd (omega (arith, h))
last-named (i ∷ []) x h at = ap (λ (y : Instr). y.id) at
last-named (i ∷ j ∷ is) x h at =
    let e : length (i ∷ j ∷ is) - 1 ≡ suc (length (j ∷ is) - 1) = omega arith in
    let g : 1 ≤ length (j ∷ is) = omega arith in
    last-named (j ∷ is) x g (at ∙ ap (λ k. get_or (i ∷ j ∷ is) k x) e)
