-- Operands with their roles, one after the other.
use Rattle.std.proofs.Common.{◌≡◌, ℕ, ◌+◌, ◌<◌, ◌≤◌, Bool, true, false, cond, ◌||◌, List, [], ◌∷◌, ◌++◌, length, get_or, drop, map, Option, Some, None, refl, ap, sym, ◌∙◌, append_assoc, add-one}
use Rattle.std.specs.List.{list_any, find, filter_map, cons_option}
use Rattle.std.specs.Option.{option_map}
use Rattle.std.proofs.lemmas.List.{drop_more, append-nil}
use Rattle.target_base.specs.declared.types.Role.{Role}
use Rattle.mir_func.specs.declared.func.Loc.{Loc}
use Rattle.mir_func.specs.declared.func.Operand.{Operand}
use Rattle.mir_func.specs.Binding.{Bound, TiedPair, explicit_bound, first_role, after_first, numbered, tied_pair}
use Rattle.mir_func.proofs.Bound.{bound_step, bound_none}
use Rattle.phi_elim.proofs.Walks.{drop_all}
use Rattle.two_address.specs.declared.ties.Tie.{Tie}
use Rattle.two_address.specs.Ties.{reads_besides, tie_among, ties_among, number_behind}

-- one operand more
bound_more : (qs next : List Role) (r : Option Role) (k : ℕ) (os : List Operand) (o : Operand) → k < length os → o ≡ get_or os k o → r ≡ first_role qs → next ≡ after_first qs → explicit_bound qs (drop k os) ≡ (r, o) ∷ explicit_bound next (drop (k + 1) os)
bound_more qs next r k os o h at role left = rw (drop_more os k o h, ← at, role, left) (bound_step qs o (drop (k + 1) os))

-- no operand more
bound_all : (qs : List Role) (k : ℕ) (os : List Operand) → length os ≤ k → explicit_bound qs (drop k os) ≡ []
bound_all qs k os h = rw (drop_all k os h) (bound_none qs)

-- whether one reads a location

read_more : (n : ℕ) (l : Loc) (qs next : List Role) (r : Option Role) (k : ℕ) (os : List Operand) (o : Operand) → k < length os → o ≡ get_or os k o → r ≡ first_role qs → next ≡ after_first qs → list_any (reads_besides n l) (explicit_bound qs (drop k os)) ≡ (reads_besides n l (r, o) || list_any (reads_besides n l) (explicit_bound next (drop (k + 1) os)))
read_more n l qs next r k os o h at role left = ap (list_any (reads_besides n l)) (bound_more qs next r k os o h at role left)

pub read_next : (n : ℕ) (l : Loc) (qs next : List Role) (r : Option Role) (k : ℕ) (os : List Operand) (o : Operand) (total : Bool) → k < length os → o ≡ get_or os k o → r ≡ first_role qs → next ≡ after_first qs → reads_besides n l (r, o) ≡ false → list_any (reads_besides n l) (explicit_bound qs (drop k os)) ≡ total → list_any (reads_besides n l) (explicit_bound next (drop (k + 1) os)) ≡ total
read_next n l qs next r k os o total h at role left fails was =
    let f = rw fails at (read_more n l qs next r k os o h at role left) in
    sym f ∙ was

pub read_found : (n : ℕ) (l : Loc) (qs : List Role) (r : Option Role) (k : ℕ) (os : List Operand) (o : Operand) (total : Bool) → k < length os → o ≡ get_or os k o → r ≡ first_role qs → reads_besides n l (r, o) ≡ true → list_any (reads_besides n l) (explicit_bound qs (drop k os)) ≡ total → true ≡ total
read_found n l qs r k os o total h at role holds was =
    let f = rw holds at (read_more n l qs (after_first qs) r k os o h at role refl) in
    sym f ∙ was

pub read_none : (n : ℕ) (l : Loc) (qs : List Role) (k : ℕ) (os : List Operand) (total : Bool) → length os ≤ k → list_any (reads_besides n l) (explicit_bound qs (drop k os)) ≡ total → false ≡ total
read_none n l qs k os total h was = rw (bound_all qs k os h) at was

-- ties that are made one after the other

pairs_more : (qs next : List Role) (r : Option Role) (k : ℕ) (os : List Operand) (o : Operand) → k < length os → o ≡ get_or os k o → r ≡ first_role qs → next ≡ after_first qs → filter_map (tied_pair os) (explicit_bound qs (drop k os)) ≡ cons_option (tied_pair os (r, o)) (filter_map (tied_pair os) (explicit_bound next (drop (k + 1) os)))
pairs_more qs next r k os o h at role left = ap (filter_map (tied_pair os)) (bound_more qs next r k os o h at role left)

-- the ties of pairs among all operands, where these roles are left for those from the k-th on
abbrev pub ties_left : List Bound → ℕ → List Role → ℕ → List Operand → List Tie
ties_left bs c qs k os = ties_among bs c (filter_map (tied_pair os) (explicit_bound qs (drop k os)))

skipped_by : (bs : List Bound) (c : ℕ) (p : Option TiedPair) (ps : List TiedPair) → None ≡ option_map (tie_among bs c) p → ties_among bs c (cons_option p ps) ≡ ties_among bs c ps
skipped_by bs c None ps e = refl
skipped_by bs c (Some p) ps e = cc

made_by : (bs : List Bound) (c : ℕ) (p : Option TiedPair) (ps : List TiedPair) (tie : Tie) → Some tie ≡ option_map (tie_among bs c) p → ties_among bs c (cons_option p ps) ≡ tie ∷ ties_among bs (number_behind c tie) ps
made_by bs c None ps tie e = cc
made_by bs c (Some p) ps tie e = let f : tie ≡ tie_among bs c p = cc in rw f refl

-- an operand that isn't tied
pub tie_skipped : (bs : List Bound) (c : ℕ) (qs next : List Role) (r : Option Role) (k : ℕ) (os : List Operand) (o : Operand) (made total : List Tie) → k < length os → o ≡ get_or os k o → r ≡ first_role qs → next ≡ after_first qs → None ≡ option_map (tie_among bs c) (tied_pair os (r, o)) → made ++ ties_left bs c qs k os ≡ total → made ++ ties_left bs c next (k + 1) os ≡ total
tie_skipped bs c qs next r k os o made total h at role left none was =
    let e = ap (ties_among bs c) (pairs_more qs next r k os o h at role left) ∙ skipped_by bs c (tied_pair os (r, o)) _ none in
    rw (← e) was

-- one that is
pub tie_made : (bs : List Bound) (c : ℕ) (qs next : List Role) (r : Option Role) (k : ℕ) (os : List Operand) (o : Operand) (tie : Tie) (made after total : List Tie) → k < length os → o ≡ get_or os k o → r ≡ first_role qs → next ≡ after_first qs → Some tie ≡ option_map (tie_among bs c) (tied_pair os (r, o)) → after ≡ made ++ tie ∷ [] → made ++ ties_left bs c qs k os ≡ total → after ++ ties_left bs (number_behind c tie) next (k + 1) os ≡ total
tie_made bs c qs next r k os o tie made after total h at role left some e was =
    let m = ap (ties_among bs c) (pairs_more qs next r k os o h at role left) ∙ made_by bs c (tied_pair os (r, o)) _ tie some in
    rw (e, append_assoc made (tie ∷ []) (ties_left bs (number_behind c tie) next (k + 1) os), ← m) was

-- no operand more
pub ties_all : (bs : List Bound) (c : ℕ) (qs : List Role) (k : ℕ) (os : List Operand) (made total : List Tie) → length os ≤ k → made ++ ties_left bs c qs k os ≡ total → made ≡ total
ties_all bs c qs k os made total h was = let e = rw (bound_all qs k os h, append-nil made) at was in e

-- operands that are made one after the other

pub made_more : (f : ℕ × Bound → Operand) (qs next : List Role) (r : Option Role) (k : ℕ) (os made after total : List Operand) (o x : Operand) → k < length os → o ≡ get_or os k o → r ≡ first_role qs → next ≡ after_first qs → x ≡ f (k, (r, o)) → after ≡ made ++ x ∷ [] → made ++ map f (numbered k (explicit_bound qs (drop k os))) ≡ total → after ++ map f (numbered (k + 1) (explicit_bound next (drop (k + 1) os))) ≡ total
made_more f qs next r k os made after total o x h at role left is e was =
    let m : map f (numbered k (explicit_bound qs (drop k os))) ≡ x ∷ map f (numbered (k + 1) (explicit_bound next (drop (k + 1) os))) = rw (bound_more qs next r k os o h at role left, is, add-one) refl in
    rw (e, append_assoc made (x ∷ []) (map f (numbered (k + 1) (explicit_bound next (drop (k + 1) os)))), ← m) was

pub made_all : (f : ℕ × Bound → Operand) (qs : List Role) (k : ℕ) (os made total : List Operand) → length os ≤ k → made ++ map f (numbered k (explicit_bound qs (drop k os))) ≡ total → made ≡ total
made_all f qs k os made total h was = let e = rw (bound_all qs k os h, append-nil made) at was in e

-- the first that passes a test
pub find_next : {X : Type 0} (p : X → Bool) (k : ℕ) (xs : List X) (x : X) (total : Option X) → k < length xs → x ≡ get_or xs k x → p x ≡ false → find p (drop k xs) ≡ total → find p (drop (k + 1) xs) ≡ total
find_next p k xs x total h at fails was =
    let e : find p (drop k xs) ≡ cond (p x) (Some x) (find p (drop (k + 1) xs)) = rw (drop_more xs k x h, ← at) refl in
    let f = rw fails at e in
    sym f ∙ was

pub find_found : {X : Type 0} (p : X → Bool) (k : ℕ) (xs : List X) (x : X) (total : Option X) → k < length xs → x ≡ get_or xs k x → p x ≡ true → find p (drop k xs) ≡ total → Some x ≡ total
find_found p k xs x total h at holds was =
    let e : find p (drop k xs) ≡ cond (p x) (Some x) (find p (drop (k + 1) xs)) = rw (drop_more xs k x h, ← at) refl in
    let f = rw holds at e in
    sym f ∙ was

pub find_none : {X : Type 0} (p : X → Bool) (k : ℕ) (xs : List X) (total : Option X) → length xs ≤ k → find p (drop k xs) ≡ total → None ≡ total
find_none p k xs total h was = rw (drop_all k xs h) at was

pub ruleset seats = (read_next, read_found, read_none, tie_skipped, tie_made, ties_all, made_more, made_all)

pub ruleset finds = (find_next, find_found, find_none)
