-- The choices that keep all apart, by the register that is chosen first.
use Rattle.std.proofs.Common.{◌≡◌, ◌∙◌, ℕ, ◌+◌, ◌-◌, ◌<◌, ◌≤◌, suc, zero, Bool, true, false, cond, List, [], ◌∷◌, ◌++◌, map, length, get_or, drop, take, Option, Some, None, refl, ap, ap₂, sym, arith, append_assoc, append-nil}
use Rattle.std.specs.Prelude.{◌&&◌, ◌==◌, ◌≢◌, filter, flat_map, Contains, All, nat_lt, option_map}
use Rattle.std.specs.List.{zip, list_all}
use Rattle.std.proofs.lemmas.Bool.{eqb-false}
use Rattle.std.proofs.lemmas.List.{drop_more, drop-map, get_or_default, length-drop, length-map, take_all}
use Rattle.std.proofs.lemmas.List.Concat.{flat_map-append}
use Rattle.std.proofs.lemmas.List.Elements.{filter-append, All-contains, All-nil, All-push}
use Rattle.target_base.specs.declared.types.Reg.{Reg}
use Rattle.target_base.specs.declared.types.Target.{Target}
use Rattle.phi_elim.proofs.Walks.{drop_all}
use Rattle.mir_meaning.specs.Places.{Variable as Need, all_apart, choices}
use Rattle.place_solve.specs.declared.variables.Variable.{Variable}
use Rattle.place_solve.specs.Choice.{use_of, need_of, stands_beside, narrowed, choices_apart, needs_left, IsNogood, AreNogoods, remembered, first}
use Rattle.place_solve.proofs.Chosen.{dropped, filter_map_of, first_is_none, first_mapped, split_at, tried_more}
use Rattle.place_solve.proofs.Solved.{filter_both, part}

-- no choice of lists of which one is empty

nothing_each : {X Y : Type 0} (f : X → List Y) (xs : List X) → ((x : X) → f x ≡ []) → flat_map f xs ≡ []
nothing_each f [] h = refl
nothing_each f (x ∷ xs) h = rw (h x) (nothing_each f xs h)

no_items : {X : Type 0} (xs : List X) → length xs ≡ 0 → xs ≡ []
no_items [] e = refl
no_items (x ∷ xs) e = absurd (omega arith)

pub none_served : (left : List (List Reg)) (k : ℕ) (rs : List Reg) → k < length left → rs ≡ get_or left k rs → length rs ≡ 0 → choices left ≡ []
none_served [] k rs h at e = absurd (omega arith)
none_served (o ∷ left) zero rs h at e = let none : o ≡ [] = sym at ∙ no_items rs e in rw none refl
none_served (o ∷ left) (suc k) rs h at e =
    let none : choices left ≡ [] = none_served left k rs (omega arith) at e in
    nothing_each (λ r. map (λ qs. r ∷ qs) (choices left)) o (λ r. rw none refl)

-- what is left, list by list

narrowed_none : (t : Target) (p : Need × Reg) (ns : List Need) → narrowed t p ns [] ≡ []
narrowed_none t p [] = refl
narrowed_none t p (n ∷ ns) = refl

pub narrowed_length : (t : Target) (p : Need × Reg) (ns : List Need) (left : List (List Reg)) → length (narrowed t p ns left) ≡ length left
narrowed_length t p [] left = refl
narrowed_length t p (n ∷ ns) [] = refl
narrowed_length t p (n ∷ ns) (rs ∷ left) = ap suc (narrowed_length t p ns left)

pub narrowed_next : (t : Target) (p : Need × Reg) (vs : List Variable) (left : List (List Reg)) (k : ℕ) (d : Variable) (here rs : List Reg) (made pushed total : List (List Reg)) → k < length vs → k < length left → here ≡ get_or left k here → rs ≡ filter (λ r. stands_beside t (use_of (get_or vs k d).kind) r p) here → pushed ≡ made ++ rs ∷ [] → made ++ narrowed t p (drop k (map need_of vs)) (drop k left) ≡ total → pushed ++ narrowed t p (drop (k + 1) (map need_of vs)) (drop (k + 1) left) ≡ total
narrowed_next t p vs left k d here rs made pushed total h g at is push was =
    let e : narrowed t p (drop k (map need_of vs)) (drop k left) ≡ rs ∷ narrowed t p (drop (k + 1) (map need_of vs)) (drop (k + 1) left) =
    rw (dropped k vs (get_or vs k d) h (get_or_default vs k d (get_or vs k d) h), drop_more left k here g, ← at, ← is) refl in
    rw (push, append_assoc) (sym (ap (λ xs. made ++ xs) e) ∙ was)

pub narrowed_all : (t : Target) (p : Need × Reg) (ns : List Need) (left made total : List (List Reg)) (k : ℕ) → length left ≤ k → made ++ narrowed t p (drop k ns) (drop k left) ≡ total → made ≡ total
narrowed_all t p ns left made total k h was =
    sym (ap (λ os. made ++ narrowed t p (drop k ns) os) (drop_all k left h) ∙ ap (λ os. made ++ os) (narrowed_none t p (drop k ns)) ∙ append-nil made) ∙ was

-- the choices that begin with one register

passing_left : (t : Target) (p : Need × Reg) (ns : List Need) (left : List (List Reg)) → length ns ≡ length left → filter (λ qs. list_all (λ (q : Need × Reg). stands_beside t q.0.kind q.1 p) (zip ns qs)) (choices left) ≡ choices (narrowed t p ns left)
passing_left t p [] [] e = refl
passing_left t p [] (rs ∷ left) e = absurd (omega arith)
passing_left t p (n ∷ ns) [] e = absurd (omega arith)
passing_left t p (n ∷ ns) (rs ∷ left) e =
    part (λ (q : Need × Reg). stands_beside t q.0.kind q.1 p) n ns (choices left) rs
    ∙ ap (λ cs. flat_map (λ r. map (λ qs. r ∷ qs) cs) (filter (λ r. stands_beside t n.kind r p) rs)) (passing_left t p ns left (omega arith))

-- the choices for these variables that begin with register r
unfoldable pub begun : Target → List Need → List (List Reg) → Reg → List (List Reg)
begun t [] left r = []
begun t (n ∷ ns) [] r = []
begun t (n ∷ ns) (rs ∷ left) r = map (λ qs. r ∷ qs) (choices_apart t ns (narrowed t (n, r) ns left))

begun_is : (t : Target) (n : Need) (ns : List Need) (r : Reg) (left : List (List Reg)) → length ns ≡ length left → filter (λ qs. all_apart t (zip (n ∷ ns) qs)) (map (λ qs. r ∷ qs) (choices left)) ≡ map (λ qs. r ∷ qs) (choices_apart t ns (narrowed t (n, r) ns left))
begun_is t n ns r left e =
    filter_map_of (λ qs. all_apart t (zip (n ∷ ns) qs)) (λ qs. r ∷ qs) (choices left)
    ∙ ap (map (λ qs. r ∷ qs)) (filter_both (λ qs. list_all (λ (q : Need × Reg). stands_beside t q.0.kind q.1 (n, r)) (zip ns qs)) (λ qs. all_apart t (zip ns qs)) (choices left)
    ∙ ap (filter (λ qs. all_apart t (zip ns qs))) (passing_left t (n, r) ns left e))

pub begun_all : (t : Target) (n : Need) (ns : List Need) (all rs : List Reg) (left : List (List Reg)) → length ns ≡ length left → choices_apart t (n ∷ ns) (rs ∷ left) ≡ flat_map (begun t (n ∷ ns) (all ∷ left)) rs
unfolding begun
begun_all t n ns all [] left e = refl
begun_all t n ns all (r ∷ rs) left e =
    filter-append (λ qs. all_apart t (zip (n ∷ ns) qs)) (map (λ qs. r ∷ qs) (choices left)) (flat_map (λ q. map (λ qs. q ∷ qs) (choices left)) rs)
    ∙ (ap (λ s. s ++ choices_apart t (n ∷ ns) (rs ∷ left)) (begun_is t n ns r left e)
    ∙ ap (λ s. map (λ qs. r ∷ qs) (choices_apart t ns (narrowed t (n, r) ns left)) ++ s) (begun_all t n ns all rs left e))

begun_total : (t : Target) (ns : List Need) (left : List (List Reg)) (here : List Reg) → length ns ≡ length left → 0 < length left → here ≡ get_or left 0 here → choices_apart t ns left ≡ flat_map (begun t ns left) here
begun_total t ns [] here e h at = absurd (omega arith)
begun_total t [] (rs ∷ left) here e h at = absurd (omega arith)
begun_total t (n ∷ ns) (rs ∷ left) here e h at = rw at (begun_all t n ns rs rs left (omega arith))

-- the end of a list, as code takes it
pub end_of : {X : Type 0} (xs : List X) (k : ℕ) → take (length xs - k) (drop k xs) ≡ drop k xs
end_of xs k = take_all (length xs - k) (drop k xs) (omega (arith, length-drop k xs))

pub some_left : {X : Type 0} (xs : List X) (b : Bool) → b ≡ (length xs == 0) → b ≡ false → 0 < length xs
some_left xs b told off = let more : length xs ≢ 0 = eqb-false (length xs) 0 (sym told ∙ off) in omega (arith, more)

-- the variables that are left, the first of them with the registers `here`

module _ (t : Target) (vs : List Variable) (left : List (List Reg)) (here : List Reg) (few : length left ≤ length vs) (some : 0 < length left) (first_list : here ≡ get_or left 0 here) where
  all_begun : choices_apart t (needs_left vs left) left ≡ flat_map (begun t (needs_left vs left) left) here
  all_begun = begun_total t (needs_left vs left) left here (omega (arith, length-drop (length vs - length left) (map need_of vs), length-map vs need_of)) some first_list

  -- the search tried all
  pub begun_none : (i : ℕ) → length here ≤ i → flat_map (begun t (needs_left vs left) left) (take i here) ≡ [] → first (choices_apart t (needs_left vs left) left) ≡ None
  begun_none i h was = ap first (all_begun ∙ (ap (flat_map (begun t (needs_left vs left) left)) (sym (take_all i here h)) ∙ was))

  -- what the i-th register leaves
  module _ (d : Variable) (i : ℕ) (e : Reg) (behind : List (List Reg)) (within : i < length here) (made : behind ≡ narrowed t (need_of (get_or vs (length vs - length left) d), get_or here i e) (map need_of (take (length vs - (length vs - length left + 1)) (drop (length vs - length left + 1) vs))) (take (length left - 1) (drop 1 left))) where
    needs_behind : List Need
    needs_behind = drop (length vs - length left + 1) (map need_of vs)

    made_of : behind ≡ narrowed t (need_of (get_or vs (length vs - length left) d), get_or here i e) needs_behind (drop 1 left)
    unfolding needs_behind
    made_of =
        made
        ∙ ap₂ (λ ns os. narrowed t (need_of (get_or vs (length vs - length left) d), get_or here i e) (map need_of ns) os) (end_of vs (length vs - length left + 1)) (end_of left 1)
        ∙ ap (λ ns. narrowed t (need_of (get_or vs (length vs - length left) d), get_or here i e) ns (drop 1 left)) (sym (drop-map need_of (length vs - length left + 1) vs))

    pub behind_length : length behind + 1 ≡ length left
    behind_length = omega (arith, ap length made_of ∙ narrowed_length t (need_of (get_or vs (length vs - length left) d), get_or here i e) needs_behind (drop 1 left), length-drop 1 left)

    behind_needs : needs_left vs behind ≡ needs_behind
    unfolding needs_behind
    behind_needs = let shorter : length vs - length behind ≡ length vs - length left + 1 = omega (arith, behind_length) in ap (λ n. drop n (map need_of vs)) shorter

    needs_are : needs_left vs left ≡ need_of (get_or vs (length vs - length left) d) ∷ needs_behind
    unfolding needs_behind
    needs_are = dropped (length vs - length left) vs (get_or vs (length vs - length left) d) (omega arith) (get_or_default vs (length vs - length left) d (get_or vs (length vs - length left) d) (omega arith))

    lists_are : left ≡ here ∷ drop 1 left
    lists_are = drop_more left 0 here some ∙ ap (λ rs. rs ∷ drop 1 left) (sym first_list)

    begun_with : begun t (needs_left vs left) left (get_or here i e) ≡ map (λ qs. get_or here i e ∷ qs) (choices_apart t (needs_left vs behind) behind)
    unfolding begun
    begun_with =
        ap₂ (λ ns os. begun t ns os (get_or here i e)) needs_are lists_are
        ∙ ap₂ (λ ns os. map (λ qs. get_or here i e ∷ qs) (choices_apart t ns os)) (sym behind_needs) (sym made_of)

    -- the step of the search past a register that leaves a nogood
    pub nogood_more : IsNogood t vs behind → flat_map (begun t (needs_left vs left) left) (take i here) ≡ [] → flat_map (begun t (needs_left vs left) left) (take (i + 1) here) ≡ []
    nogood_more nogood was = tried_more (begun t (needs_left vs left) left) here i (get_or here i e) within (get_or_default here i e (get_or here i e) within) was (begun_with ∙ ap (map (λ qs. get_or here i e ∷ qs)) nogood)

    -- the choice that the search finds
    pub begun_found : (q : List Reg) → first (choices_apart t (needs_left vs behind) behind) ≡ Some q → flat_map (begun t (needs_left vs left) left) (take i here) ≡ [] → first (choices_apart t (needs_left vs left) left) ≡ Some (get_or here i e ∷ q)
    begun_found q found was =
        let g = begun t (needs_left vs left) left in
        let r = get_or here i e in
        let rest = flat_map g (drop (i + 1) here) in
        let whole : flat_map g here ≡ flat_map g (take i here) ++ (g r ++ rest) = ap (flat_map g) (split_at here i r within (get_or_default here i e r within)) ∙ flat_map-append g (take i here) (r ∷ drop (i + 1) here) in
        let all = all_begun ∙ (whole ∙ (ap (λ s. s ++ (g r ++ rest)) was ∙ ap (λ s. s ++ rest) begun_with)) in
        ap first all ∙ first_mapped r q (choices_apart t (needs_left vs behind) behind) rest found

pub nothing_to_choose : (t : Target) (vs : List Variable) (left : List (List Reg)) → left ≡ [] → first (choices_apart t (needs_left vs left) left) ≡ Some []
nothing_to_choose t vs left none = rw none (go (drop (length vs - 0) (map need_of vs)))
  where
    go : (ns : List Need) → first (choices_apart t ns []) ≡ Some []
    go [] = refl
    go (n ∷ ns) = refl

-- nogoods

pub nogood_if_none : (t : Target) (vs : List Variable) (left : List (List Reg)) → choices left ≡ [] → IsNogood t vs left
nogood_if_none t vs left none = ap (filter (λ qs. all_apart t (zip (needs_left vs left) qs))) none

pub nogood_if_short : (t : Target) (vs : List Variable) (left : List (List Reg)) → choices_apart t (map need_of (take (length vs - (length vs - length left)) (drop (length vs - length left) vs))) left ≡ [] → IsNogood t vs left
nogood_if_short t vs left none = ap (λ ns. choices_apart t ns left) (drop-map need_of (length vs - length left) vs ∙ ap (map need_of) (sym (end_of vs (length vs - length left)))) ∙ none

pub nogood_if_known : (t : Target) (vs : List Variable) (left : List (List Reg)) (nogoods : List (List (List Reg))) → AreNogoods t vs nogoods → Contains nogoods left → IsNogood t vs left
nogood_if_known t vs left nogoods known there = All-contains (IsNogood t vs) nogoods left known there

pub nogood_if_not_found : (t : Target) (vs : List Variable) (left : List (List Reg)) → first (choices_apart t (needs_left vs left) left) ≡ None → IsNogood t vs left
nogood_if_not_found t vs left e = first_is_none (choices_apart t (needs_left vs left) left) e

pub nogoods_none : (t : Target) (vs : List Variable) (nogoods : List (List (List Reg))) → nogoods ≡ [] → AreNogoods t vs nogoods
nogoods_none t vs nogoods none = rw none (All-nil (IsNogood t vs))

pub nogoods_more : (t : Target) (vs : List Variable) (old new : List (List (List Reg))) (left : List (List Reg)) → AreNogoods t vs old → IsNogood t vs left → new ≡ remembered old left → AreNogoods t vs new
nogoods_more t vs old new left known nogood made = rw made (go (nat_lt 2 (length left)))
  where
    go : (b : Bool) → AreNogoods t vs (cond b (old ++ left ∷ []) old)
    go true = All-push (IsNogood t vs) old left known nogood
    go false = known
