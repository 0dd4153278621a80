-- Lists whose elements are looked up one after another.
use Rattle.std.proofs.Common.{◌≡◌, ℕ, ◌<◌, ◌≤◌, ◌+◌, List, [], ◌∷◌, ◌++◌, length, drop, get_or, Some, None, refl, ap, sym, ◌∙◌, append_assoc, append-nil}
use Rattle.std.specs.Prelude.{Option}
use Rattle.std.proofs.lemmas.List.{drop_more, drop_all}
use Rattle.mir_func.specs.declared.func.Operand.{Operand}
use Rattle.mir_lines.specs.declared.raw.RawOperand.{RawOperand}
use Rattle.mir_read.specs.declared.ranges.Ranges.{Ranges}
use Rattle.mir_read.specs.declared.resolve.Headers.{Headers}
use Rattle.mir_read.specs.Names.{NameLists, reg_named}
use Rattle.mir_read.specs.Resolving.{◌>>?◌, regs_named, with_share, shared, operand_named, operands_named}

-- what was made, and then what is looked up
abbrev pub onto : {X : Type 0} → List X → Option (List X) → Option (List X)
onto made None = None
onto made (Some more) = Some (made ++ more)

pub onto_begin : {X : Type 0} (rest : Option (List X)) → rest ≡ onto [] rest
onto_begin None = refl
onto_begin (Some xs) = refl

onto_more : {X : Type 0} (made : List X) (x : X) (rest : Option (List X)) → onto made (rest >>? λ xs. Some (x ∷ xs)) ≡ onto (made ++ x ∷ []) rest
onto_more made x None = refl
onto_more made x (Some xs) = simp append_assoc

-- a look-up of one, and a look-up of all
pub record ReadsEach {X Y : Type 0} (one : X → Option Y) (all : List X → Option (List Y)) : Type 0 where
  pub none : all [] ≡ Some []
  pub more : (x : X) (xs : List X) → all (x ∷ xs) ≡ (one x >>? λ y. all xs >>? λ ys. Some (y ∷ ys))

module _ {X Y : Type 0} (one : X → Option Y) (all : List X → Option (List Y)) (reads : ReadsEach one all) where
  step : (xs : List X) (i : ℕ) (x : X) → i < length xs → x ≡ get_or xs i x → all (drop i xs) ≡ (one x >>? λ y. all (drop (i + 1) xs) >>? λ ys. Some (y ∷ ys))
  step xs i x h e = ap all (drop_more xs i x h) ∙ ap (λ z. all (z ∷ drop (i + 1) xs)) (sym e) ∙ reads.more x (drop (i + 1) xs)

  pub loop_stops : (made : List Y) (xs : List X) (i : ℕ) (x : X) → all xs ≡ onto made (all (drop i xs)) → i < length xs → x ≡ get_or xs i x → one x ≡ None → all xs ≡ None
  loop_stops made xs i x inv h e none = inv ∙ rw (step xs i x h e, none) refl

  pub loop_goes : (made new : List Y) (xs : List X) (i : ℕ) (x : X) (y : Y) → all xs ≡ onto made (all (drop i xs)) → i < length xs → x ≡ get_or xs i x → one x ≡ Some y → new ≡ made ++ y ∷ [] → all xs ≡ onto new (all (drop (i + 1) xs))
  loop_goes made new xs i x y inv h e some put = inv ∙ rw (step xs i x h e, some, put) (onto_more made y (all (drop (i + 1) xs)))

  pub loop_ends : (made : List Y) (xs : List X) (i : ℕ) → all xs ≡ onto made (all (drop i xs)) → length xs ≤ i → all xs ≡ Some made
  loop_ends made xs i inv h = inv ∙ rw (drop_all i xs h, reads.none) (ap Some (append-nil made))

pub reads_regs : (names : NameLists) → ReadsEach (reg_named names) (regs_named names)
reads_regs names = record { none = refl; more = λ w ws. refl }

pub reads_shares : ReadsEach with_share shared
reads_shares = record { none = refl; more = λ e es. refl }

-- the same with the registers so far
abbrev pub behind : List Operand → Option (Ranges × List Operand) → Option (Ranges × List Operand)
behind made None = None
behind made (Some p) = Some (p.0, made ++ p.1)

pub behind_begin : (rest : Option (Ranges × List Operand)) → rest ≡ behind [] rest
behind_begin None = refl
behind_begin (Some p) = refl

behind_more : (made : List Operand) (x : Operand) (rest : Option (Ranges × List Operand)) → behind made (rest >>? λ q. Some (q.0, x ∷ q.1)) ≡ behind (made ++ x ∷ []) rest
behind_more made x None = refl
behind_more made x (Some p) = simp append_assoc

module _ (names : NameLists) (h : Headers) (keyed : Ranges) where
  operand_step : (r : Ranges) (xs : List RawOperand) (i : ℕ) (x : RawOperand) → i < length xs → x ≡ get_or xs i x → operands_named names h keyed r (drop i xs) ≡ (operand_named names h keyed r x >>? λ p. operands_named names h keyed p.0 (drop (i + 1) xs) >>? λ q. Some (q.0, p.1 ∷ q.1))
  operand_step r xs i x l e = ap (operands_named names h keyed r) (drop_more xs i x l) ∙ ap (λ z. operands_named names h keyed r (z ∷ drop (i + 1) xs)) (sym e)

  pub operand_stops : (made : List Operand) (r : Ranges) (xs : List RawOperand) (i : ℕ) (x : RawOperand) (whole : Option (Ranges × List Operand)) → whole ≡ behind made (operands_named names h keyed r (drop i xs)) → i < length xs → x ≡ get_or xs i x → operand_named names h keyed r x ≡ None → whole ≡ None
  operand_stops made r xs i x whole inv l e none = inv ∙ rw (operand_step r xs i x l e, none) refl

  pub operand_goes : (made new : List Operand) (r s : Ranges) (xs : List RawOperand) (i : ℕ) (x : RawOperand) (o : Operand) (whole : Option (Ranges × List Operand)) → whole ≡ behind made (operands_named names h keyed r (drop i xs)) → i < length xs → x ≡ get_or xs i x → operand_named names h keyed r x ≡ Some (s, o) → new ≡ made ++ o ∷ [] → whole ≡ behind new (operands_named names h keyed s (drop (i + 1) xs))
  operand_goes made new r s xs i x o whole inv l e some put = inv ∙ rw (operand_step r xs i x l e, some, put) (behind_more made o (operands_named names h keyed s (drop (i + 1) xs)))

  pub operand_ends : (made : List Operand) (r : Ranges) (xs : List RawOperand) (i : ℕ) (whole : Option (Ranges × List Operand)) → whole ≡ behind made (operands_named names h keyed r (drop i xs)) → length xs ≤ i → whole ≡ Some (r, made)
  operand_ends made r xs i whole inv l = inv ∙ rw (drop_all i xs l) (ap (λ ys. Some (r, ys)) (append-nil made))
