-- Variables that are put one behind the other, each use once.
use Rattle.std.proofs.Common.{◌≡◌, ℕ, ◌+◌, ◌<◌, ◌≤◌, Bool, true, false, cond, ◌||◌, List, [], ◌∷◌, ◌++◌, map, length, get_or, drop, Option, Some, None, refl, ap, sym, ◌∙◌, append_assoc}
use Rattle.std.specs.Prelude.{option_map}
use Rattle.std.specs.List.{list_any, flat_map, cons_option}
use Rattle.std.proofs.lemmas.List.{drop_more, append-nil}
use Rattle.std.proofs.lemmas.List.Folds.{list_any-append}
use Rattle.target_base.specs.declared.types.Target.{Target}
use Rattle.mir_func.specs.declared.func.Instr.{Instr}
use Rattle.mir_func.specs.Value.{Function}
use Rattle.mir_meaning.specs.Places.{Variable as Need, same_use, each_once, instr_variables}
use Rattle.phi_elim.proofs.Walks.{drop_all}
use Rattle.place_solve.specs.declared.variables.Variable.{Variable}
use Rattle.place_solve.specs.Choice.{need_of}
use Rattle.place_solve.specs.Once.{same_use_of, once_more, once_if, all_once}

among_needs : (v : Variable) (vs : List Variable) → list_any (same_use_of v) vs ≡ list_any (same_use (need_of v)) (map need_of vs)
among_needs v [] = refl
among_needs v (w ∷ vs) = ap (λ b. same_use_of v w || b) (among_needs v vs)

map-push : {X Y : Type 0} (g : X → Y) (xs : List X) (x : X) → map g (xs ++ x ∷ []) ≡ map g xs ++ g x ∷ []
map-push g [] x = refl
map-push g (y ∷ xs) x = ap (λ ys. g y ∷ ys) (map-push g xs x)

-- one is put behind the others
pub put_behind : (old new : List Variable) (v : Variable) (b : Bool) → b ≡ list_any (same_use_of v) old → b ≡ false → new ≡ old ++ v ∷ [] → map need_of new ≡ once_more (map need_of old) (need_of v)
put_behind old new v b is fails made =
    let e : list_any (same_use (need_of v)) (map need_of old) ≡ false = sym (among_needs v old) ∙ (sym is ∙ fails) in
    rw (e, made) (map-push need_of old v)

-- a use that stands there
pub stands_there : (old new : List Variable) (v : Variable) (b : Bool) → b ≡ list_any (same_use_of v) old → b ≡ true → new ≡ old → map need_of new ≡ once_more (map need_of old) (need_of v)
stands_there old new v b is holds made =
    let e : list_any (same_use (need_of v)) (map need_of old) ≡ true = sym (among_needs v old) ∙ (sym is ∙ holds) in
    rw (e, made) refl

pub ruleset added = (put_behind, stands_there)

pub put_if : (made new : List Need) (v : Variable) (o : Option Variable) → o ≡ Some v → new ≡ once_more made (need_of v) → new ≡ once_if made (option_map need_of o)
put_if made new v o is e = rw is e

pub put_none : (made new : List Need) (o : Option Variable) → o ≡ None → new ≡ made → new ≡ once_if made (option_map need_of o)
put_none made new o is e = rw is e

pub ruleset added_if = (put_if, put_none)

-- lists of variables

pub once_option : (made : List Need) (v : Option Need) (vs : List Need) → all_once made (cons_option v vs) ≡ all_once (once_if made v) vs
once_option made None vs = refl
once_option made (Some v) vs = refl

pub once_append : (made xs ys : List Need) → all_once made (xs ++ ys) ≡ all_once (all_once made xs) ys
once_append made [] ys = refl
once_append made (x ∷ xs) ys = once_append (once_more made x) xs ys

or_last : (a b : Bool) → (a || (b || false)) ≡ (b || a)
or_last true true = refl
or_last true false = refl
or_last false true = refl
or_last false false = refl

-- what is made, and what is seen, hold the same uses
Alike : List Need → List Need → Type 0
Alike seen made = (w : Need) → list_any (same_use w) made ≡ list_any (same_use w) seen

alike_more : (seen made : List Need) (v : Need) → Alike seen made → Alike (v ∷ seen) (made ++ v ∷ [])
unfolding Alike
alike_more seen made v h = λ w. list_any-append (same_use w) made (v ∷ []) ∙ (ap (λ b. b || (same_use w v || false)) (h w) ∙ or_last (list_any (same_use w) seen) (same_use w v))

is_more : (made : List Need) (v : Need) (b : Bool) → list_any (same_use v) made ≡ b → once_more made v ≡ cond b made (made ++ v ∷ [])
is_more made v b e = ap (λ c. cond c made (made ++ v ∷ [])) e

once_step : (b : Bool) (v : Need) (vs seen made : List Need) → ((s m : List Need) → Alike s m → all_once m vs ≡ m ++ each_once s vs) → Alike seen made → all_once (cond b made (made ++ v ∷ [])) vs ≡ made ++ cond b (each_once seen vs) (v ∷ each_once (v ∷ seen) vs)
once_step true v vs seen made rest h = rest seen made h
once_step false v vs seen made rest h = rest (v ∷ seen) (made ++ v ∷ []) (alike_more seen made v h) ∙ append_assoc made (v ∷ []) (each_once (v ∷ seen) vs)

seen_same : (seen made : List Need) (v : Need) → Alike seen made → list_any (same_use v) made ≡ list_any (same_use v) seen
unfolding Alike
seen_same seen made v h = h v

once_is : (vs seen made : List Need) → Alike seen made → all_once made vs ≡ made ++ each_once seen vs
once_is [] seen made h = sym (append-nil made)
once_is (v ∷ vs) seen made h = ap (λ (m : List Need). all_once m vs) (is_more made v (list_any (same_use v) seen) (seen_same seen made v h)) ∙ once_step (list_any (same_use v) seen) v vs seen made (λ s m a. once_is vs s m a) h

alike_none : Alike [] []
unfolding Alike
alike_none = λ w. refl

-- put one behind the other they are each once
pub each_is : (vs : List Need) → all_once [] vs ≡ each_once [] vs
each_is vs = once_is vs [] [] alike_none

-- the walk over the instructions of a place

pub instr_next : (t : Target) (f : Function) (is : List Instr) (k : ℕ) (made next total : List Need) (i : Instr) → k < length is → i ≡ get_or is k i → next ≡ all_once made (instr_variables t f i) → all_once made (flat_map (instr_variables t f) (drop k is)) ≡ total → all_once next (flat_map (instr_variables t f) (drop (k + 1) is)) ≡ total
instr_next t f is k made next total i h at e was =
    let m : flat_map (instr_variables t f) (drop k is) ≡ instr_variables t f i ++ flat_map (instr_variables t f) (drop (k + 1) is) = rw (drop_more is k i h, ← at) refl in
    let n = rw (m, once_append made (instr_variables t f i) (flat_map (instr_variables t f) (drop (k + 1) is))) at was in
    rw e n

pub instr_last : (t : Target) (f : Function) (is : List Instr) (k : ℕ) (made : List Need) → length is ≤ k → all_once made (flat_map (instr_variables t f) (drop k is)) ≡ all_once [] (flat_map (instr_variables t f) is) → made ≡ each_once [] (flat_map (instr_variables t f) is)
instr_last t f is k made h was =
    let e = rw (drop_all k is h) at was in
    e ∙ each_is (flat_map (instr_variables t f) is)

pub ruleset instrs_walk = (instr_next, instr_last)
