-- The copies that lowering makes of an instruction, one after the other.
use Rattle.std.proofs.Common.{◌≡◌, ◌∙◌, ◌+◌, ◌<◌, ◌≤◌, ℕ, Bool, true, false, cond, not, ◌&&◌, ◌||◌, List, [], ◌∷◌, ◌++◌, Option, Some, None, map, length, get_or, drop, refl, sym, ap}
use Rattle.std.specs.Prelude.{filter}
use Rattle.std.specs.List.{list_all, list_any, cons_option, filter_map, flat_map}
use Rattle.std.proofs.lemmas.List.{drop_more}
use Rattle.std.proofs.lemmas.List.Folds.{list_all-append}
use Rattle.target_base.specs.declared.types.Target.{Target}
use Rattle.mir_func.specs.declared.func.RegOp.{RegOp}
use Rattle.mir_func.specs.declared.func.Operand.{Operand}
use Rattle.mir_func.specs.declared.func.Operand.TheVariants as operands
use Rattle.mir_func.specs.declared.func.Instr.{Instr}
use Rattle.mir_func.specs.Value.{Function}
use Rattle.mir_func.specs.Binding.{Bound, TiedPair, bound, does, is_terminator, passes, registers, same_loc, tied_pair, tied_pairs, ties_to}
use Rattle.mir_meaning.specs.Points.{Point, Entry, Exit}
use Rattle.mir_meaning.specs.Rules.{readings, readings_besides}
use Rattle.mir_meaning.specs.Places.{Needs, before_terminators, copied_at, defines_and_reads, input_copies, phi_copies, phi_point, tied_copies}
use Rattle.instr_effects.specs.Ends.{first_pair, pairs_of}
use Rattle.instr_effects.proofs.Pairs.{first_step, pairs_long}
use Rattle.phi_elim.proofs.Walks.{drop_all}
use Rattle.live_lanes.specs.declared.table.Table.{Table}
use Rattle.place_solve.specs.declared.position.PlacePosition.{PlacePosition}
use Rattle.place_solve.specs.declared.position.PlacePosition.TheVariants as arounds
use Rattle.place_solve.specs.Copies.{copy_fits, input_fits, is_in_place, names, operand_fits, pair_fits, reads, reads_besides, tie_fits}
use Rattle.place_solve.specs.Told.{around_of, copy_solved}

and_true : (b : Bool) → (b && true) ≡ b
and_true true = refl
and_true false = refl

-- the place before the terminators

abbrev pub before_from : Target → PlacePosition → List Instr → PlacePosition
before_from t a [] = a
before_from t a (i ∷ is) = cond (does is_terminator t i) (arounds.Before i.id) (before_from t (arounds.Behind i.id) is)

pub before_is : (t : Target) (q : Point) (is : List Instr) → before_from t (around_of q) is ≡ around_of (before_terminators t q is)
before_is t q [] = refl
before_is t q (i ∷ is) = go (does is_terminator t i) (before_is t (Exit i.id) is)
  where
    go : (b : Bool) → before_from t (around_of (Exit i.id)) is ≡ around_of (before_terminators t (Exit i.id) is) → cond b (arounds.Before i.id) (before_from t (arounds.Behind i.id) is) ≡ around_of (cond b (Entry i.id) (before_terminators t (Exit i.id) is))
    go true ih = refl
    go false ih = ih

before_more : (t : Target) (is : List Instr) (k : ℕ) (i : Instr) (a : PlacePosition) (b : Bool) → k < length is → i ≡ get_or is k i → does is_terminator t i ≡ b → before_from t a (drop k is) ≡ cond b (arounds.Before i.id) (before_from t (arounds.Behind i.id) (drop (k + 1) is))
before_more t is k i a b h at e =
    let d : drop k is ≡ i ∷ drop (k + 1) is = rw (← at) at (drop_more is k i h) in
    ap (before_from t a) d ∙ ap (λ q. cond q (arounds.Before i.id) (before_from t (arounds.Behind i.id) (drop (k + 1) is))) e

pub before_found : (t : Target) (is : List Instr) (k : ℕ) (i : Instr) (a total : PlacePosition) → k < length is → i ≡ get_or is k i → does is_terminator t i ≡ true → before_from t a (drop k is) ≡ total → arounds.Before i.id ≡ total
before_found t is k i a total h at holds was = sym (before_more t is k i a true h at holds) ∙ was

pub before_none : (t : Target) (is : List Instr) (k : ℕ) (a total : PlacePosition) → length is ≤ k → before_from t a (drop k is) ≡ total → a ≡ total
before_none t is k a total h was = sym (ap (before_from t a) (drop_all k is h)) ∙ was

-- the pairs of a phi

pub phi_solved : (t : Target) (f : Function) (x : Table) (os : List Operand) → list_all (copy_solved t x) (phi_copies t f os) ≡ list_all (pair_fits t f x) (pairs_of os)
phi_solved t f x [] = refl
phi_solved t f x (operands.Reg s ∷ operands.Block n ∷ os) = go s.undef (phi_solved t f x os)
  where
    go : (b : Bool) → list_all (copy_solved t x) (phi_copies t f os) ≡ list_all (pair_fits t f x) (pairs_of os) → list_all (copy_solved t x) (cond b (phi_copies t f os) (copied_at t f (phi_point t f n) s ∷ phi_copies t f os)) ≡ ((b || copy_fits t f x (around_of (phi_point t f n)) s) && list_all (pair_fits t f x) (pairs_of os))
    go true ih = ih
    go false ih = ap (λ b. copy_fits t f x (around_of (phi_point t f n)) s && b) ih
phi_solved t f x os = refl

pub pair_next : (t : Target) (f : Function) (x : Table) (os : List Operand) (p : RegOp × ℕ) (total : Bool) → first_pair os ≡ Some p → pair_fits t f x p ≡ true → list_all (pair_fits t f x) (pairs_of os) ≡ total → list_all (pair_fits t f x) (pairs_of (drop 2 os)) ≡ total
pair_next t f x os p total e holds was = sym (ap (list_all (pair_fits t f x)) (first_step os p e) ∙ ap (λ b. b && list_all (pair_fits t f x) (pairs_of (drop 2 os))) holds) ∙ was

pub pair_lost : (t : Target) (f : Function) (x : Table) (os : List Operand) (p : RegOp × ℕ) (total : Bool) → first_pair os ≡ Some p → pair_fits t f x p ≡ false → list_all (pair_fits t f x) (pairs_of os) ≡ total → false ≡ total
pair_lost t f x os p total e fails was = sym (ap (list_all (pair_fits t f x)) (first_step os p e) ∙ ap (λ b. b && list_all (pair_fits t f x) (pairs_of (drop 2 os))) fails) ∙ was

no_pair : (os : List Operand) → first_pair os ≡ None → pairs_of os ≡ []
no_pair [] e = refl
no_pair (operands.Reg s ∷ []) e = refl
no_pair (operands.Reg s ∷ operands.Block n ∷ os) e = absurd (cc)
no_pair (operands.Reg s ∷ o ∷ os) e = refl
no_pair (o ∷ os) e = refl

pub pairs_done : (t : Target) (f : Function) (x : Table) (os : List Operand) (total : Bool) → first_pair os ≡ None → list_all (pair_fits t f x) (pairs_of os) ≡ total → true ≡ total
pairs_done t f x os total e was = sym (ap (list_all (pair_fits t f x)) (no_pair os e)) ∙ was

pub ruleset pair_walk = (pair_next, pair_lost, pairs_done, pairs_long)

-- copies one behind the other

copies_stop : (p : Needs → Bool) (xs ys : List Needs) (a : Bool) → a ≡ list_all p xs → a ≡ false → false ≡ list_all p (xs ++ ys)
copies_stop p xs ys a e fails = sym (list_all-append p xs ys ∙ ap (λ c. c && list_all p ys) (sym e ∙ fails))

copies_more : (p : Needs → Bool) (xs ys : List Needs) (a b : Bool) → a ≡ list_all p xs → a ≡ true → b ≡ list_all p ys → b ≡ list_all p (xs ++ ys)
copies_more p xs ys a b e holds last = last ∙ sym (list_all-append p xs ys ∙ ap (λ c. c && list_all p ys) (sym e ∙ holds))

pub one_copy : (t : Target) (f : Function) (x : Table) (q : Point) (o : RegOp) → copy_fits t f x (around_of q) o ≡ list_all (copy_solved t x) (copied_at t f q o ∷ [])
one_copy t f x q o = sym (and_true (copy_fits t f x (around_of q) o))

-- inputs

pub inputs_solved : (t : Target) (f : Function) (x : Table) (id : ℕ) (os : List Operand) → list_all (copy_solved t x) (map (copied_at t f (Entry id)) (readings (registers os))) ≡ list_all (input_fits t f x id) os
inputs_solved t f x id [] = refl
inputs_solved t f x id (operands.Reg o ∷ os) = go o.def o.undef (inputs_solved t f x id os)
  where
    go : (d u : Bool) → list_all (copy_solved t x) (map (copied_at t f (Entry id)) (readings (registers os))) ≡ list_all (input_fits t f x id) os → list_all (copy_solved t x) (map (copied_at t f (Entry id)) (cond (not d && not u) (o ∷ readings (registers os)) (readings (registers os)))) ≡ (((d || u) || copy_fits t f x (arounds.Before id) o) && list_all (input_fits t f x id) os)
    go true u ih = ih
    go false true ih = ih
    go false false ih = ap (λ b. copy_fits t f x (arounds.Before id) o && b) ih
inputs_solved t f x id (o ∷ os) = inputs_solved t f x id os

pub named_is : (d : RegOp) (os : List Operand) → list_any (names d.loc) os ≡ defines_and_reads d (registers os)
named_is d [] = refl
named_is d (operands.Reg o ∷ os) = ap (λ b. same_loc d.loc o.loc || b) (named_is d os)
named_is d (o ∷ os) = named_is d os

-- the copies of a phi, and those of inputs

module _ (t : Target) (f : Function) (x : Table) (id : ℕ) (d : RegOp) where
  pub phi_lost : (os : List Operand) (a : Bool) → a ≡ list_all (pair_fits t f x) (pairs_of os) → a ≡ false → false ≡ list_all (copy_solved t x) (phi_copies t f os ++ (copied_at t f (Entry id) d ∷ []))
  phi_lost os a e fails = copies_stop (copy_solved t x) (phi_copies t f os) (copied_at t f (Entry id) d ∷ []) a (e ∙ sym (phi_solved t f x os)) fails

  pub phi_more : (os : List Operand) (a b : Bool) → a ≡ list_all (pair_fits t f x) (pairs_of os) → a ≡ true → b ≡ copy_fits t f x (arounds.Before id) d → b ≡ list_all (copy_solved t x) (phi_copies t f os ++ (copied_at t f (Entry id) d ∷ []))
  phi_more os a b e holds last = copies_more (copy_solved t x) (phi_copies t f os) (copied_at t f (Entry id) d ∷ []) a b (e ∙ sym (phi_solved t f x os)) holds (last ∙ one_copy t f x (Entry id) d)

  module _ (inputs overwritten : List Operand) (a : Bool) (e : a ≡ list_all (input_fits t f x id) inputs) where
    abbrev ins : List Needs
    ins = map (copied_at t f (Entry id)) (readings (registers inputs))

    abbrev last-one : Bool → List Needs
    last-one b = cond b (copied_at t f (Entry id) d ∷ []) []

    pub built_lost : a ≡ false → false ≡ list_all (copy_solved t x) (input_copies t f (Entry id) d (registers inputs) (registers overwritten))
    built_lost fails = copies_stop (copy_solved t x) ins (last-one (defines_and_reads d (registers overwritten))) a (e ∙ sym (inputs_solved t f x id inputs)) fails

    pub built_kept : a ≡ true → list_any (names d.loc) overwritten ≡ false → true ≡ list_all (copy_solved t x) (input_copies t f (Entry id) d (registers inputs) (registers overwritten))
    built_kept holds none = copies_more (copy_solved t x) ins (last-one (defines_and_reads d (registers overwritten))) a true (e ∙ sym (inputs_solved t f x id inputs)) holds (sym (ap (λ b. list_all (copy_solved t x) (last-one b)) (sym (named_is d overwritten) ∙ none)))

    pub built_more : (b : Bool) → a ≡ true → list_any (names d.loc) overwritten ≡ true → b ≡ copy_fits t f x (arounds.Before id) d → b ≡ list_all (copy_solved t x) (input_copies t f (Entry id) d (registers inputs) (registers overwritten))
    built_more b holds some last = copies_more (copy_solved t x) ins (last-one (defines_and_reads d (registers overwritten))) a b (e ∙ sym (inputs_solved t f x id inputs)) holds (last ∙ one_copy t f x (Entry id) d ∙ sym (ap (λ b. list_all (copy_solved t x) (last-one b)) (sym (named_is d overwritten) ∙ some)))

-- tied pairs

read_first : (d : RegOp) (o : Operand) (os : List Operand) → defines_and_reads d (readings (registers (o ∷ os))) ≡ (reads d.loc o || defines_and_reads d (readings (registers os)))
read_first d (operands.Reg o) os = go o.def o.undef
  where
    go : (a u : Bool) → defines_and_reads d (cond (not a && not u) (o ∷ readings (registers os)) (readings (registers os))) ≡ ((not a && not u && same_loc d.loc o.loc) || defines_and_reads d (readings (registers os)))
    go true u = refl
    go false true = refl
    go false false = refl
read_first d o os = refl

-- what is read besides the use tied to a definition
besides_are : (d : RegOp) (n : ℕ) (bs : List Bound) → list_any (reads_besides n d.loc) bs ≡ defines_and_reads d (readings_besides n bs)
besides_are d n [] = refl
besides_are d n (b ∷ bs) = go (passes (ties_to n) b.0) (besides_are d n bs)
  where
    left : List Bound
    left = filter (λ c. not (passes (ties_to n) c.0)) bs

    go : (tied : Bool) → list_any (reads_besides n d.loc) bs ≡ defines_and_reads d (readings_besides n bs) → ((not tied && reads d.loc b.1) || list_any (reads_besides n d.loc) bs) ≡ defines_and_reads d (readings (registers (map (λ (c : Bound). c.1) (cond (not tied) (b ∷ left) left))))
    go true ih = ih
    go false ih = ap (λ r. reads d.loc b.1 || r) ih ∙ sym (read_first d b.1 (map (λ (c : Bound). c.1) left))

module _ (t : Target) (f : Function) (x : Table) (i : Instr) where
  tie_solved : (p : TiedPair) → tie_fits t f x i.id (bound t i) p ≡ list_all (copy_solved t x) (tied_copies t f i p)
  tie_solved p =
      ap (λ r. is_in_place p || (copy_fits t f x (arounds.Before i.id) d && (not r || copy_fits t f x (arounds.Behind i.id) d))) (besides_are d p.number (bound t i))
      ∙ go (is_in_place p) (defines_and_reads d (readings_besides p.number (bound t i)))
    where
      d : RegOp
      d = p.definition

      go : (there read : Bool) → (there || (copy_fits t f x (arounds.Before i.id) d && (not read || copy_fits t f x (arounds.Behind i.id) d))) ≡ list_all (copy_solved t x) (cond there [] (copied_at t f (Entry i.id) d ∷ cond read (copied_at t f (Exit i.id) d ∷ []) []))
      go true read = refl
      go false true = ap (λ b. copy_fits t f x (arounds.Before i.id) d && b) (one_copy t f x (Exit i.id) d)
      go false false = refl

  ties_solved : (bs : List Bound) → list_all (operand_fits t f x i (bound t i)) bs ≡ list_all (copy_solved t x) (flat_map (tied_copies t f i) (filter_map (tied_pair i.operands) bs))
  ties_solved [] = refl
  ties_solved (b ∷ bs) = go (tied_pair i.operands b) (ties_solved bs)
    where
      rest : List Needs
      rest = flat_map (tied_copies t f i) (filter_map (tied_pair i.operands) bs)

      go : (q : Option TiedPair) → list_all (operand_fits t f x i (bound t i)) bs ≡ list_all (copy_solved t x) rest → (elim q [ None ↦ true | Some p ↦ tie_fits t f x i.id (bound t i) p ] && list_all (operand_fits t f x i (bound t i)) bs) ≡ list_all (copy_solved t x) (flat_map (tied_copies t f i) (cons_option q (filter_map (tied_pair i.operands) bs)))
      go None ih = ih
      go (Some p) ih = ap (λ b. b && list_all (operand_fits t f x i (bound t i)) bs) (tie_solved p) ∙ ap (λ b. list_all (copy_solved t x) (tied_copies t f i p) && b) ih ∙ sym (list_all-append (copy_solved t x) (tied_copies t f i p) rest)

  pub ties_are : (bs : List Bound) (told : Bool) → bs ≡ bound t i → told ≡ list_all (operand_fits t f x i bs) bs → told ≡ list_all (copy_solved t x) (flat_map (tied_copies t f i) (tied_pairs t i))
  ties_are bs told is e = e ∙ ap (λ cs. list_all (operand_fits t f x i cs) cs) is ∙ ties_solved (bound t i)
