-- A search that chooses one register at a time finds the first choice.
use Rattle.std.proofs.Common.{◌≡◌, ℕ, ◌+◌, ◌<◌, ◌≤◌, Bool, true, false, cond, not, ◌&&◌, List, [], ◌∷◌, ◌++◌, map, length, get_or, take, drop, Some, None, refl, ap, sym, ◌∙◌, arith, append_assoc}
use Rattle.std.specs.List.{zip, list_all, flat_map, filter}
use Rattle.std.proofs.lemmas.List.{get_or_default, drop_more, append-nil, take_more, get_or-map, take-append-drop, length-map}
use Rattle.std.proofs.lemmas.List.Concat.{flat_map-append}
use Rattle.std.proofs.lemmas.List.Elements.{filter-append}
use Rattle.target_base.specs.declared.types.Reg.{Reg}
use Rattle.target_base.specs.declared.types.Target.{Target}
use Rattle.mir_meaning.specs.Places.{Kind as Use, Variable as Need, all_apart, choices}
use Rattle.phi_elim.proofs.Walks.{drop_all}
use Rattle.place_solve.specs.declared.variables.Variable.{Variable}
use Rattle.place_solve.specs.Choice.{use_of, need_of, seats, stands_beside, fits, completions, first}

and_parts : (a b : Bool) → (a && b) ≡ true → (a ≡ true) × (b ≡ true)
and_parts true b e = (refl, e)
and_parts false b e = absurd (cc)

and_first : (a b : Bool) → a ≡ false → (a && b) ≡ false
and_first true b e = absurd (cc)
and_first false b e = refl

and_second : (a b : Bool) → b ≡ false → (a && b) ≡ false
and_second true b e = e
and_second false b e = refl

-- what must be apart

all-append-fails : {X : Type 0} (f : X → Bool) (ps : List X) (x : X) (qs : List X) → f x ≡ false → list_all f (ps ++ x ∷ qs) ≡ false
all-append-fails f [] x qs h = and_first (f x) (list_all f qs) h
all-append-fails f (p ∷ ps) x qs h = and_second (f p) (list_all f (ps ++ x ∷ qs)) (all-append-fails f ps x qs h)

all-append : {X : Type 0} (f : X → Bool) (ps : List X) (x : X) → list_all f ps ≡ true → f x ≡ true → list_all f (ps ++ x ∷ []) ≡ true
all-append f [] x h g = rw g refl
all-append f (p ∷ ps) x h g =
    let parts = and_parts (f p) (list_all f ps) h in
    rw (parts.0, all-append f ps x parts.1 g) refl

-- the later ones stand beside p
later : Target → Need × Reg → Need × Reg → Bool
later t p q = stands_beside t q.0.kind q.1 p

elim_case : {P : Type 0} (a b : Bool) → (a && b) ≡ false → (a ≡ false → P) → (b ≡ false → P) → P
elim_case true b e f g = g e
elim_case false b e f g = f refl

apart_broken : (t : Target) (ps : List (Need × Reg)) (x : Need × Reg) (qs : List (Need × Reg)) → fits t ps x.0.kind x.1 ≡ false → all_apart t (ps ++ x ∷ qs) ≡ false
unfolding later
apart_broken t [] x qs h = absurd (cc)
apart_broken t (p ∷ ps) x qs h =
    elim_case (stands_beside t x.0.kind x.1 p) (fits t ps x.0.kind x.1) h
    (λ e. and_first (list_all (later t p) (ps ++ x ∷ qs)) (all_apart t (ps ++ x ∷ qs)) (all-append-fails (later t p) ps x qs e))
    (λ e. and_second (list_all (later t p) (ps ++ x ∷ qs)) (all_apart t (ps ++ x ∷ qs)) (apart_broken t ps x qs e))

pub apart_kept : (t : Target) (ps : List (Need × Reg)) (x : Need × Reg) → all_apart t ps ≡ true → fits t ps x.0.kind x.1 ≡ true → all_apart t (ps ++ x ∷ []) ≡ true
unfolding later
apart_kept t [] x h g = refl
apart_kept t (p ∷ ps) x h g =
    let hp = and_parts (list_all (later t p) ps) (all_apart t ps) h in
    let gp = and_parts (stands_beside t x.0.kind x.1 p) (fits t ps x.0.kind x.1) g in
    rw (all-append (later t p) ps x hp.0 gp.0, apart_kept t ps x hp.1 gp.1) refl

-- variables with their registers

zip-nil : (vs : List Need) → zip {K = Need} {X = Reg} vs [] ≡ []
zip-nil [] = refl
zip-nil (v ∷ vs) = refl

zip-split : (vs : List Need) (done rest : List Reg) → length done ≤ length vs → zip vs (done ++ rest) ≡ zip vs done ++ zip (drop (length done) vs) rest
zip-split vs [] rest h = rw (zip-nil vs) refl
zip-split [] (d ∷ ds) rest h = absurd (omega arith)
zip-split (v ∷ vs) (d ∷ ds) rest h = ap (λ s. (v, d) ∷ s) (zip-split vs ds rest (omega arith))

pub dropped : (n : ℕ) (vs : List Variable) (v : Variable) → n < length vs → v ≡ get_or vs n v → drop n (map need_of vs) ≡ need_of v ∷ drop (n + 1) (map need_of vs)
dropped n vs v h at =
    let l : n < length (map need_of vs) = omega (arith, length-map vs need_of) in
    let g = get_or-map need_of vs n v (need_of v) h in
    let m = drop_more (map need_of vs) n (need_of v) l in
    rw (m, g, ← at) refl

seats_more : (vs : List Variable) (done : List Reg) (v : Variable) (r : Reg) (qs : List Reg) → length done < length vs → v ≡ get_or vs (length done) v → seats vs (done ++ r ∷ qs) ≡ seats vs done ++ (need_of v, r) ∷ zip (drop (length done + 1) (map need_of vs)) qs
seats_more vs done v r qs h at =
    let s = zip-split (map need_of vs) done (r ∷ qs) (omega (arith, length-map vs need_of)) in
    s ∙ rw (dropped (length done) vs v h at) refl

pub seats_push : (vs : List Variable) (done : List Reg) (v : Variable) (r : Reg) → length done < length vs → v ≡ get_or vs (length done) v → seats vs (done ++ r ∷ []) ≡ seats vs done ++ (need_of v, r) ∷ []
seats_push vs done v r h at = seats_more vs done v r [] h at ∙ rw (zip-nil (drop (length done + 1) (map need_of vs))) refl

-- completions

mapped_if : {X Y : Type 0} (b : Bool) (g : X → Y) (x : X) (ys : List Y) (xs : List X) → ys ≡ map g xs → cond b (g x ∷ ys) ys ≡ map g (cond b (x ∷ xs) xs)
mapped_if true g x ys xs e = ap (λ s. g x ∷ s) e
mapped_if false g x ys xs e = e

pub filter_map_of : {X Y : Type 0} (p : Y → Bool) (g : X → Y) (xs : List X) → filter p (map g xs) ≡ map g (filter (λ x. p (g x)) xs)
filter_map_of p g [] = refl
filter_map_of p g (x ∷ xs) = mapped_if (p (g x)) g x (filter p (map g xs)) (filter (λ y. p (g y)) xs) (filter_map_of p g xs)

filter_none : {X : Type 0} (p : X → Bool) (xs : List X) → ((x : X) → p x ≡ false) → filter p xs ≡ []
filter_none p [] h = refl
filter_none p (x ∷ xs) h = rw (h x) (filter_none p xs h)

-- with register r chosen next
pub with_next : Target → List Variable → List Reg → List (List Reg) → Reg → List (List Reg)
with_next t vs done os r = map (λ qs. r ∷ qs) (completions t vs (done ++ r ∷ []) os)

next_is : (t : Target) (vs : List Variable) (done : List Reg) (os : List (List Reg)) (r : Reg) → filter (λ qs. all_apart t (seats vs (done ++ qs))) (map (λ qs. r ∷ qs) (choices os)) ≡ with_next t vs done os r
unfolding with_next
next_is t vs done os r = filter_map_of (λ qs. all_apart t (seats vs (done ++ qs))) (λ qs. r ∷ qs) (choices os) ∙ simp append_assoc

pub comp_step : (t : Target) (vs : List Variable) (done rs : List Reg) (os : List (List Reg)) → completions t vs done (rs ∷ os) ≡ flat_map (with_next t vs done os) rs
comp_step t vs done [] os = refl
comp_step t vs done (r ∷ rs) os =
    filter-append (λ qs. all_apart t (seats vs (done ++ qs))) (map (λ qs. r ∷ qs) (choices os)) (flat_map (λ q. map (λ qs. q ∷ qs) (choices os)) rs)
    ∙ (ap (λ s. s ++ filter (λ qs. all_apart t (seats vs (done ++ qs))) (flat_map (λ q. map (λ qs. q ∷ qs) (choices os)) rs)) (next_is t vs done os r)
    ∙ ap (λ s. with_next t vs done os r ++ s) (comp_step t vs done rs os))

pub none_if_broken : (t : Target) (vs : List Variable) (done : List Reg) (os : List (List Reg)) (v : Variable) (r : Reg) → length done < length vs → v ≡ get_or vs (length done) v → fits t (seats vs done) (use_of v.kind) r ≡ false → with_next t vs done os r ≡ []
unfolding with_next
none_if_broken t vs done os v r h at broken =
    let each : (qs : List Reg) → all_apart t (seats vs ((done ++ r ∷ []) ++ qs)) ≡ false =
    λ qs. rw (append_assoc done (r ∷ []) qs, seats_more vs done v r qs h at) (apart_broken t (seats vs done) (need_of v, r) (zip (drop (length done + 1) (map need_of vs)) qs) broken) in
    rw (filter_none (λ qs. all_apart t (seats vs ((done ++ r ∷ []) ++ qs))) (choices os) each) refl

pub first_is_none : {X : Type 0} (xs : List X) → first xs ≡ None → xs ≡ []
first_is_none [] e = refl
first_is_none (x ∷ xs) e = absurd (cc)

pub tried_more : {X Y : Type 0} (g : X → List Y) (xs : List X) (i : ℕ) (x : X) → i < length xs → x ≡ get_or xs i x → flat_map g (take i xs) ≡ [] → g x ≡ [] → flat_map g (take (i + 1) xs) ≡ []
tried_more g xs i x h at was none = rw (take_more xs i x h, ← at, flat_map-append g (take i xs) (x ∷ []), was, none) refl

pub first_mapped : (r : Reg) (q : List Reg) (cs rest : List (List Reg)) → first cs ≡ Some q → first (map (λ qs. r ∷ qs) cs ++ rest) ≡ Some (r ∷ q)
first_mapped r q [] rest e = absurd (cc)
first_mapped r q (c ∷ cs) rest e = let same : c ≡ q = cc in ap (λ s. Some (r ∷ s)) same

pub found_with : (t : Target) (vs : List Variable) (done : List Reg) (os : List (List Reg)) (r : Reg) (q : List Reg) (rest : List (List Reg)) → first (completions t vs (done ++ r ∷ []) os) ≡ Some q → first (with_next t vs done os r ++ rest) ≡ Some (r ∷ q)
unfolding with_next
found_with t vs done os r q rest found = first_mapped r q (completions t vs (done ++ r ∷ []) os) rest found

pub split_at : {X : Type 0} (xs : List X) (i : ℕ) (x : X) → i < length xs → x ≡ get_or xs i x → xs ≡ take i xs ++ x ∷ drop (i + 1) xs
split_at xs i x h at =
    let d : drop i xs ≡ x ∷ drop (i + 1) xs = rw (← at) at (drop_more xs i x h) in
    sym (take-append-drop i xs) ∙ ap (λ s. take i xs ++ s) d

pub nothing_left : (t : Target) (vs : List Variable) (done : List Reg) → all_apart t (seats vs done) ≡ true → first (completions t vs done []) ≡ Some []
nothing_left t vs done h = rw (append-nil done, h) refl

-- tests of the chosen ones, one after the other

seat_more : (vs : List Variable) (cs : List Reg) (k : ℕ) (d : Variable) (e : Reg) → k < length vs → k < length cs → zip (drop k (map need_of vs)) (drop k cs) ≡ (need_of (get_or vs k d), get_or cs k e) ∷ zip (drop (k + 1) (map need_of vs)) (drop (k + 1) cs)
seat_more vs cs k d e h g = rw (dropped k vs (get_or vs k d) h (get_or_default vs k d (get_or vs k d) h), drop_more cs k e g) refl

not_false : (b : Bool) → not b ≡ false → b ≡ true
not_false true e = refl
not_false false e = sym e

not_true : (b : Bool) → not b ≡ true → b ≡ false
not_true true e = sym e
not_true false e = refl

pub fit_next : (t : Target) (vs : List Variable) (cs : List Reg) (k : ℕ) (u : Use) (r : Reg) (d : Variable) (e : Reg) (lost total : Bool) → k < length vs → k < length cs → lost ≡ not (stands_beside t u r (need_of (get_or vs k d), get_or cs k e)) → lost ≡ false → list_all (stands_beside t u r) (zip (drop k (map need_of vs)) (drop k cs)) ≡ total → list_all (stands_beside t u r) (zip (drop (k + 1) (map need_of vs)) (drop (k + 1) cs)) ≡ total
fit_next t vs cs k u r d e lost total h g is fails was =
    let stands = not_false (stands_beside t u r (need_of (get_or vs k d), get_or cs k e)) (sym is ∙ fails) in
    let m : list_all (stands_beside t u r) (zip (drop k (map need_of vs)) (drop k cs)) ≡ (stands_beside t u r (need_of (get_or vs k d), get_or cs k e) && list_all (stands_beside t u r) (zip (drop (k + 1) (map need_of vs)) (drop (k + 1) cs))) = rw (seat_more vs cs k d e h g) refl in
    let n = rw stands at m in
    sym n ∙ was

pub fit_lost : (t : Target) (vs : List Variable) (cs : List Reg) (k : ℕ) (u : Use) (r : Reg) (d : Variable) (e : Reg) (lost total : Bool) → k < length vs → k < length cs → lost ≡ not (stands_beside t u r (need_of (get_or vs k d), get_or cs k e)) → lost ≡ true → list_all (stands_beside t u r) (zip (drop k (map need_of vs)) (drop k cs)) ≡ total → false ≡ total
fit_lost t vs cs k u r d e lost total h g is holds was =
    let falls = not_true (stands_beside t u r (need_of (get_or vs k d), get_or cs k e)) (sym is ∙ holds) in
    let m : list_all (stands_beside t u r) (zip (drop k (map need_of vs)) (drop k cs)) ≡ (stands_beside t u r (need_of (get_or vs k d), get_or cs k e) && list_all (stands_beside t u r) (zip (drop (k + 1) (map need_of vs)) (drop (k + 1) cs))) = rw (seat_more vs cs k d e h g) refl in
    let n = rw falls at m in
    sym n ∙ was

pub fit_all : (t : Target) (vs : List Variable) (cs : List Reg) (k : ℕ) (u : Use) (r : Reg) (total : Bool) → length cs ≤ k → list_all (stands_beside t u r) (zip (drop k (map need_of vs)) (drop k cs)) ≡ total → true ≡ total
fit_all t vs cs k u r total h was = rw (drop_all k cs h, zip-nil (drop k (map need_of vs))) at was

pub nothing_apart : (t : Target) (vs : List Variable) (cs : List Reg) → cs ≡ [] → all_apart t (seats vs cs) ≡ true
nothing_apart t vs cs e = rw (e, zip-nil (map need_of vs)) refl
