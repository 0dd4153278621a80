-- The first choice, where each variable's first register that fits and serves leads to it.
use Rattle.std.proofs.Common.{◌≡◌, ◌∙◌, ℕ, ◌+◌, ◌-◌, ◌<◌, ◌≤◌, Bool, true, false, cond, List, [], ◌∷◌, ◌++◌, map, length, get_or, drop, Option, Some, None, refl, ap, sym, arith, append_assoc, length-append}
use Rattle.std.specs.Prelude.{◌&&◌}
use Rattle.std.specs.List.{filter}
use Rattle.std.proofs.lemmas.List.{append-nil, drop_more, get_or_default, get_or-map, length-map}
use Rattle.phi_elim.proofs.Walks.{drop_all}
use Rattle.target_base.specs.declared.types.Reg.{Reg}
use Rattle.target_base.specs.declared.types.Target.{Target}
use Rattle.target_base.specs.Rules.{regs_of_some}
use Rattle.mir_meaning.specs.Places.{all_apart}
use Rattle.live_lanes.specs.declared.table.Table.{Table}
use Rattle.place_solve.specs.declared.position.PlacePosition.{PlacePosition}
use Rattle.place_solve.specs.declared.variables.Variable.{Variable}
use Rattle.place_solve.specs.Choice.{use_of, need_of, seats, fits, may_lie, options_in, completions, choices_apart, needs_left, first, first_apart}
use Rattle.place_solve.proofs.Chosen.{apart_kept, seats_push, comp_step, found_with, none_if_broken, nothing_apart, nothing_left, with_next}
use Rattle.place_solve.proofs.Solved.{filter_other}

-- the first of those that pass, element by element

first_step : {X : Type 0} (f : X → Bool) (xs : List X) (k : ℕ) (x : X) → k < length xs → x ≡ get_or xs k x → filter f (drop k xs) ≡ filter f (x ∷ drop (k + 1) xs)
first_step f xs k x h at = rw (drop_more xs k x h, ← at) refl

pub first_next : {X : Type 0} (f : X → Bool) (xs : List X) (k : ℕ) (x : X) (total : Option X) → k < length xs → x ≡ get_or xs k x → f x ≡ false → first (filter f (drop k xs)) ≡ total → first (filter f (drop (k + 1) xs)) ≡ total
first_next f xs k x total h at fails was = rw fails at (ap first (sym (first_step f xs k x h at)) ∙ was)

pub first_found : {X : Type 0} (f : X → Bool) (xs : List X) (k : ℕ) (x : X) (total : Option X) → k < length xs → x ≡ get_or xs k x → f x ≡ true → first (filter f (drop k xs)) ≡ total → Some x ≡ total
first_found f xs k x total h at holds was = rw holds at (ap first (sym (first_step f xs k x h at)) ∙ was)

pub first_missed : {X : Type 0} (f : X → Bool) (xs : List X) (k : ℕ) (total : Option X) → length xs ≤ k → first (filter f (drop k xs)) ≡ total → None ≡ total
first_missed f xs k total h was = rw (drop_all k xs h) at was

pub ruleset firsts = (first_next, first_found, first_missed)

-- the first register that fits and that a variable may lie in is the first of its options that fits
pub first_start : (t : Target) (x : Table) (a : PlacePosition) (vs : List Variable) (chosen : List Reg) (v : Variable) (rs : List Reg) → rs ≡ regs_of_some t.classes v.class → first (filter (λ r. fits t (seats vs chosen) (use_of v.kind) r && may_lie t x a (use_of v.kind) r) rs) ≡ first (filter (fits t (seats vs chosen) (use_of v.kind)) (options_in t x a v))
first_start t x a vs chosen v rs is = rw is (ap first (filter_other (fits t (seats vs chosen) (use_of v.kind)) (may_lie t x a (use_of v.kind)) (regs_of_some t.classes v.class)))

-- the first that passes passes

passes_if : {X : Type 0} (f : X → Bool) (x : X) (xs : List X) (r : X) (b : Bool) → f x ≡ b → first (cond b (x ∷ filter f xs) (filter f xs)) ≡ Some r → (first (filter f xs) ≡ Some r → f r ≡ true) → f r ≡ true
passes_if f x xs r true is e rest = let same : x ≡ r = cc in rw (← same) is
passes_if f x xs r false is e rest = rest e

first_passes : {X : Type 0} (f : X → Bool) (xs : List X) (r : X) → first (filter f xs) ≡ Some r → f r ≡ true
first_passes f [] r e = absurd (cc)
first_passes f (x ∷ xs) r e = passes_if f x xs r (f x) refl e (first_passes f xs r)

-- the first register that stands beside those that are chosen leads to the first choice, if any choice follows

module _ (t : Target) (vs : List Variable) (done : List Reg) (os : List (List Reg)) (v : Variable) (within : length done < length vs) (at : v ≡ get_or vs (length done) v) where
  step_if : (x : Reg) (rs : List Reg) (r : Reg) (q : List Reg) (b : Bool) → fits t (seats vs done) (use_of v.kind) x ≡ b → first (cond b (x ∷ filter (fits t (seats vs done) (use_of v.kind)) rs) (filter (fits t (seats vs done) (use_of v.kind)) rs)) ≡ Some r → first (completions t vs (done ++ r ∷ []) os) ≡ Some q → (first (filter (fits t (seats vs done) (use_of v.kind)) rs) ≡ Some r → first (completions t vs done (rs ∷ os)) ≡ Some (r ∷ q)) → first (with_next t vs done os x ++ completions t vs done (rs ∷ os)) ≡ Some (r ∷ q)
  step_if x rs r q true is e f rest =
      let same : x ≡ r = cc in
      rw same (found_with t vs done os r q (completions t vs done (rs ∷ os)) f)
  step_if x rs r q false is e f rest = rw (none_if_broken t vs done os v x within at is) (rest e)

  greedy_step : (rs : List Reg) (r : Reg) (q : List Reg) → first (filter (fits t (seats vs done) (use_of v.kind)) rs) ≡ Some r → first (completions t vs (done ++ r ∷ []) os) ≡ Some q → first (completions t vs done (rs ∷ os)) ≡ Some (r ∷ q)
  greedy_step [] r q e f = absurd (cc)
  greedy_step (x ∷ rs) r q e f =
      let whole : completions t vs done ((x ∷ rs) ∷ os) ≡ with_next t vs done os x ++ completions t vs done (rs ∷ os) = comp_step t vs done (x ∷ rs) os ∙ ap (λ s. with_next t vs done os x ++ s) (sym (comp_step t vs done rs os)) in
      ap first whole ∙ step_if x rs r q (fits t (seats vs done) (use_of v.kind) x) refl e f (λ g. greedy_step rs r q g f)

-- registers chosen for the first variables, each the first that fits: if any choice follows, the first is theirs
pub record Leads (t : Target) (vs : List Variable) (options : List (List Reg)) (done : List Reg) : Type 0 where
  pub apart : all_apart t (seats vs done) ≡ true
  pub lead : (qs : List Reg) → first (completions t vs done (drop (length done) options)) ≡ Some qs → first (completions t vs [] options) ≡ Some (done ++ qs)

pub leads_none : (t : Target) (vs : List Variable) (options : List (List Reg)) (done : List Reg) → done ≡ [] → Leads t vs options done
leads_none t vs options done none = rw none (record {
  apart = nothing_apart t vs [] refl;
  lead = λ qs e. e;
})

pub leads_more : (t : Target) (vs : List Variable) (f : Variable → List Reg) (done pushed : List Reg) (n : ℕ) (v : Variable) (r : Reg) → n ≡ length done → n < length vs → v ≡ get_or vs n v → pushed ≡ done ++ r ∷ [] → first (filter (fits t (seats vs done) (use_of v.kind)) (f v)) ≡ Some r → Leads t vs (map f vs) done → Leads t vs (map f vs) pushed
leads_more t vs f done pushed n v r is h at made found was =
    let within : length done < length vs = omega arith in
    let there : v ≡ get_or vs (length done) v = rw (← is) at in
    let stands = first_passes (fits t (seats vs done) (use_of v.kind)) (f v) r found in
    let longer : length (done ++ r ∷ []) ≡ length done + 1 = omega (arith, length-append done (r ∷ [])) in
    let mapped : length done < length (map f vs) = omega (arith, length-map vs f) in
    let here : drop (length done) (map f vs) ≡ f v ∷ drop (length done + 1) (map f vs) = rw (drop_more (map f vs) (length done) (f v) mapped, get_or-map f vs (length done) v (f v) within, ← there) refl in
    rw made (record {
      apart = rw (seats_push vs done v r within there) (apart_kept t (seats vs done) (need_of v, r) was.apart stands);
      lead = λ qs e.
          let e' = rw longer at e in
          let up : first (completions t vs done (drop (length done) (map f vs))) ≡ Some (r ∷ qs) = rw here (greedy_step t vs done (drop (length done + 1) (map f vs)) v within there (f v) r qs found e') in
          was.lead (r ∷ qs) up ∙ ap Some (sym (append_assoc done (r ∷ []) qs));
    })

pub leads_all : (t : Target) (vs : List Variable) (f : Variable → List Reg) (done : List Reg) → length vs ≤ length done → Leads t vs (map f vs) done → first (completions t vs [] (map f vs)) ≡ Some done
leads_all t vs f done h was =
    let none : drop (length done) (map f vs) ≡ [] = drop_all (length done) (map f vs) (omega (arith, length-map vs f)) in
    was.lead [] (rw none (nothing_left t vs done was.apart)) ∙ ap Some (append-nil done)

pub leads_next : (t : Target) (vs : List Variable) (f : Variable → List Reg) (done shown pushed : List Reg) (n : ℕ) (d : Variable) (answer : Option Reg) (r : Reg) → length done ≡ n → n < length vs → shown ≡ done → pushed ≡ done ++ r ∷ [] → answer ≡ first (filter (fits t (seats vs shown) (use_of (get_or vs n d).kind)) (f (get_or vs n d))) → answer ≡ Some r → Leads t vs (map f vs) done → Leads t vs (map f vs) pushed
leads_next t vs f done shown pushed n d answer r is h same made told some was =
    leads_more t vs f done pushed n (get_or vs n d) r (sym is) h (get_or_default vs n d (get_or vs n d) h) made (rw same at (sym told ∙ some)) was

-- the first choice of all options, where none is chosen yet
pub first_of_all : (t : Target) (x : Table) (a : PlacePosition) (vs : List Variable) (options : List (List Reg)) → length options ≡ length vs → options ≡ map (options_in t x a) vs → first (choices_apart t (needs_left vs options) options) ≡ first_apart t x a vs
first_of_all t x a vs options long is =
    let none : length vs - length options ≡ 0 = omega arith in
    ap (λ k. first (choices_apart t (drop k (map need_of vs)) options)) none ∙ ap (λ os. first (choices_apart t (map need_of vs) os)) is
