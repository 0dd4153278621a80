-- Steps by which spans are put together.
use Rattle.std.proofs.Common.{◌≡◌, ◌∙◌, ℕ, zero, suc, ◌+◌, List, [], ◌∷◌, ◌++◌, Bool, true, false, cond, arith, refl, sym, ap, subst, take, map, append-nil, Option, None, Some}
use Rattle.std.specs.Prelude.{nat_eq, ◌||◌, slice_get, option_map, flat_map}
use Rattle.std.specs.List.{filter_map, list_any}
use Rattle.std.proofs.lemmas.List.Folds.{list_any-append}
use Rattle.std.specs.Ordering.{nat_cmp}
use Rattle.std.specs.List.Sorted.{IsStrictlySortedBy}
use Rattle.std.proofs.lemmas.Bool.{or_left, or_right}
use Rattle.std.proofs.lemmas.List.{map-append, take_all}
use Rattle.std.proofs.lemmas.List.Elements.{filter_map-append}
use Rattle.std.proofs.lemmas.Grind.{flat_map-append}
use Rattle.mir_meaning.specs.Registers.{numbers}
use Rattle.instr_effects.specs.Numbered.{number_in}
use Rattle.instr_effects.specs.declared.owner.Owner.TheVariants as owners
use Rattle.live_lanes.specs.declared.ask.extent.Extent.{Extent}
use Rattle.live_lanes.specs.declared.ask.extent.Stretch.{Stretch}
use Rattle.live_lanes.specs.declared.row.Cell.{Cell}
use Rattle.live_lanes.specs.declared.table.Table.{Table}
use Rattle.live_lanes.specs.Table.{Numbers}
use Rattle.live_lanes.specs.Extents.{extent_in, stretch_of}
use Rattle.split_choose.specs.declared.spans.Span.{Span}
use Rattle.split_choose.specs.Built.{Told, told, Rise, piece_stretches, cell_stretches, stretches_at, cells_stretches, lane_stretches, range_stretches, stretched, with_stretches}

numbers_more : (n k : ℕ) → numbers n (suc k) ≡ numbers n k ++ (n + k) ∷ []
numbers_more n zero = let e : n ≡ n + 0 = omega arith in ap (λ m. m ∷ []) e
numbers_more n (suc k) =
    let e : suc n + k ≡ n + suc k = omega arith in
    ap (λ ms. n ∷ ms) (numbers_more (suc n) k ∙ ap (λ m. numbers (suc n) k ++ m ∷ []) e)

pub numbers_next : (k : ℕ) → numbers 0 (k + 1) ≡ numbers 0 k ++ k ∷ []
numbers_next k = let s : k + 1 ≡ suc k = omega arith in let z : 0 + k ≡ k = omega arith in ap (numbers 0) s ∙ (numbers_more 0 k ∙ ap (λ m. numbers 0 k ++ m ∷ []) z)

or-assoc : (a b c : Bool) → ((a || b) || c) ≡ (a || (b || c))
or-assoc true b c = refl
or-assoc false b c = refl

or-none : (b : Bool) → (b || false) ≡ b
or-none true = refl
or-none false = refl

pub pointwise : {X Y : Type 0} {f g : X → Y} → ((x : X) → f x ≡ g x) → f ≡ g
pointwise e = λ i x. e x i

-- a stretch that stands there already

pub already : (p : Stretch → Bool) (ss : List Stretch) (place : ℕ) (s : Stretch) → slice_get ss place ≡ Some s → list_any p ss ≡ (list_any p ss || list_any p (s ∷ []))
already p ss place s at = go (p s) refl
  where
    passes : (ss : List Stretch) (place : ℕ) → slice_get ss place ≡ Some s → p s ≡ true → list_any p ss ≡ true
    passes [] place at e = cc
    passes (r ∷ rs) zero at e = let same : r ≡ s = cc in or_left (p r) (list_any p rs) (ap p same ∙ e)
    passes (r ∷ rs) (suc place) at e = or_right (p r) (list_any p rs) (passes rs place at e)

    go : (b : Bool) → p s ≡ b → list_any p ss ≡ (list_any p ss || (p s || false))
    go true e = passes ss place at e ∙ sym (or_left (list_any p ss) (p s || false) (passes ss place at e))
    go false e = sym (ap (λ b. list_any p ss || (b || false)) e ∙ or-none (list_any p ss))

-- one more piece

module _ (slots : Numbers) (c : Option Cell) (k : ℕ) where
  more-pieces : (es : List Extent) → filter_map (extent_in c) (k ∷ []) ≡ es → piece_stretches slots c (k + 1) ≡ piece_stretches slots c k ++ map (stretch_of slots) es
  more-pieces es e =
      ap (λ ns. map (stretch_of slots) (filter_map (extent_in c) ns)) (numbers_next k)
      ∙ (ap (map (stretch_of slots)) (filter_map-append (extent_in c) (numbers 0 k) (k ∷ []) ∙ ap (λ x. filter_map (extent_in c) (numbers 0 k) ++ x) e)
      ∙ map-append (stretch_of slots) (filter_map (extent_in c) (numbers 0 k)) es)

  pub piece-added : (p : Stretch → Bool) (base : List Stretch) (old : Bool) (e : Extent) → Some e ≡ extent_in c k → old ≡ (list_any p base || list_any p (piece_stretches slots c k)) → (old || list_any p (stretch_of slots e ∷ [])) ≡ (list_any p base || list_any p (piece_stretches slots c (k + 1)))
  piece-added p base old e is was =
      let only : filter_map (extent_in c) (k ∷ []) ≡ e ∷ [] = rw (← is) refl in
      ap (λ b. b || list_any p (stretch_of slots e ∷ [])) was
      ∙ (or-assoc (list_any p base) (list_any p (piece_stretches slots c k)) (list_any p (stretch_of slots e ∷ []))
      ∙ ap (λ b. list_any p base || b) (sym (ap (list_any p) (more-pieces (e ∷ []) only) ∙ list_any-append p (piece_stretches slots c k) (stretch_of slots e ∷ []))))

  pub piece-missing : (p : Stretch → Bool) (base : List Stretch) (old : Bool) → None ≡ extent_in c k → old ≡ (list_any p base || list_any p (piece_stretches slots c k)) → old ≡ (list_any p base || list_any p (piece_stretches slots c (k + 1)))
  piece-missing p base old is was =
      let only : filter_map (extent_in c) (k ∷ []) ≡ [] = rw (← is) refl in
      was ∙ ap (λ ss. list_any p base || list_any p ss) (sym (more-pieces [] only ∙ append-nil (piece_stretches slots c k)))

-- spans with more points

pub map-same : {X Y : Type 0} (f g : X → Y) → ((x : X) → f x ≡ g x) → (xs : List X) → map f xs ≡ map g xs
map-same f g e [] = refl
map-same f g e (x ∷ xs) = ap (λ y. y ∷ map f xs) (e x) ∙ ap (λ ys. g x ∷ ys) (map-same f g e xs)

pub map-map : {X Y Z : Type 0} (f : X → Y) (g : Y → Z) (xs : List X) → map g (map f xs) ≡ map (λ x. g (f x)) xs
map-map f g [] = refl
map-map f g (x ∷ xs) = ap (λ ys. g (f x) ∷ ys) (map-map f g xs)

no-more : (s : Told) → stretched [] s ≡ s
no-more s = ap (λ ss. record s { stretches = ss }) (pointwise (λ p. or-none (s.stretches p)))

pub stretched-if : (k : ℕ) (ss : List Stretch) (ts : List Told) → map (λ s. cond (nat_eq s.position k) (stretched ss s) s) ts ≡ map (with_stretches (λ j. cond (nat_eq j k) ss [])) ts
stretched-if k ss ts = map-same (λ (s : Told). cond (nat_eq s.position k) (stretched ss s) s) (with_stretches (λ j. cond (nat_eq j k) ss [])) (λ s. go s (nat_eq s.position k)) ts
  where
    go : (s : Told) (b : Bool) → cond b (stretched ss s) s ≡ stretched (cond b ss []) s
    go s true = refl
    go s false = sym (no-more s)

pub none-more : (f : ℕ → List Stretch) → ((k : ℕ) → f k ≡ []) → (ts : List Told) → ts ≡ map (with_stretches f) ts
none-more f none [] = refl
none-more f none (t ∷ ts) = ap (λ s. s ∷ ts) (sym (ap (λ ss. stretched ss t) (none t.position) ∙ no-more t)) ∙ ap (λ ss. with_stretches f t ∷ ss) (none-more f none ts)

pub more-twice : (f g h : ℕ → List Stretch) → ((k : ℕ) → h k ≡ f k ++ g k) → (ts : List Told) → map (with_stretches g) (map (with_stretches f) ts) ≡ map (with_stretches h) ts
more-twice f g h both ts =
    map-map (with_stretches f) (with_stretches g) ts
    ∙ map-same (λ (s : Told). with_stretches g (with_stretches f s)) (with_stretches h) (λ s. ap (λ ss. record s { stretches = ss }) (pointwise (λ p. both-pass s p))) ts
  where
    both-pass : (s : Told) (p : Stretch → Bool) → ((s.stretches p || list_any p (f s.position)) || list_any p (g s.position)) ≡ (s.stretches p || list_any p (h s.position))
    both-pass s p =
        or-assoc (s.stretches p) (list_any p (f s.position)) (list_any p (g s.position))
        ∙ ap (λ b. s.stretches p || b) (sym (ap (list_any p) (both s.position) ∙ list_any-append p (f s.position) (g s.position)))

-- they stay where they are

pub told-positions : (xs : List Span) → map (λ (s : Told). s.position) (map told xs) ≡ map (λ (s : Span). s.position) xs
told-positions xs = map-map told (λ (s : Told). s.position) xs

pub still-rise : (f : Told → Told) → ((s : Told) → (f s).position ≡ s.position) → (xs ys : List Span) → map told ys ≡ map f (map told xs) → Rise xs → Rise ys
still-rise f stays xs ys e up =
    let same : map (λ (s : Span). s.position) xs ≡ map (λ (s : Span). s.position) ys =
    sym (told-positions xs) ∙ (sym (map-same (λ (s : Told). (f s).position) (λ (s : Told). s.position) stays (map told xs)) ∙ (sym (map-map f (λ (s : Told). s.position) (map told xs)) ∙ (ap (map (λ (s : Told). s.position)) (sym e) ∙ told-positions ys))) in
    subst (IsStrictlySortedBy nat_cmp) same up

pub as-well : (f h : ℕ → List Stretch) → ((k : ℕ) → f k ≡ h k) → (ss ts : List Told) → ss ≡ map (with_stretches f) ts → ss ≡ map (with_stretches h) ts
as-well f h same ss ts e = e ∙ map-same (with_stretches f) (with_stretches h) (λ s. ap (λ xs. stretched xs s) (same s.position)) ts

-- one more cell, and one more lane

module _ (f g h : ℕ → List Stretch) (both : (k : ℕ) → h k ≡ f k ++ g k) (xs old new : List Span) (up : Rise xs) (was : map told old ≡ map (with_stretches f) (map told xs)) where
  pub more-added : (Rise old → map told new ≡ map (with_stretches g) (map told old)) → map told new ≡ map (with_stretches h) (map told xs)
  more-added made =
      made (still-rise (with_stretches f) (λ s. refl) xs old was up)
      ∙ (ap (map (with_stretches g)) was ∙ more-twice f g h both (map told xs))

pub take-next : {X : Type 0} (cs : List X) (n : ℕ) (c : X) → slice_get cs n ≡ Some c → take (n + 1) cs ≡ take n cs ++ c ∷ []
take-next [] n c at = cc
take-next (x ∷ xs) zero c at = let e : x ≡ c = cc in ap (λ y. y ∷ []) e
take-next (x ∷ xs) (suc n) c at = let e : suc n + 1 ≡ suc (n + 1) = omega arith in ap (λ m. take m (x ∷ xs)) e ∙ ap (λ ys. x ∷ ys) (take-next xs n c at)

pub take-last : {X : Type 0} (cs : List X) (n : ℕ) → slice_get cs n ≡ None → take (n + 1) cs ≡ take n cs
take-last [] n at = take_all (n + 1) [] (omega arith) ∙ sym (take_all n [] (omega arith))
take-last (x ∷ xs) zero at = cc
take-last (x ∷ xs) (suc n) at = let e : suc n + 1 ≡ suc (n + 1) = omega arith in ap (λ m. take m (x ∷ xs)) e ∙ ap (λ ys. x ∷ ys) (take-last xs n at)

module _ (slots : Numbers) (cs : List Cell) (n : ℕ) where
  pub cells-more : (c : Cell) → slice_get cs n ≡ Some c → (k : ℕ) → cells_stretches slots (take (n + 1) cs) k ≡ cells_stretches slots (take n cs) k ++ cond (nat_eq k c.block) (cell_stretches slots (slice_get cs n)) []
  cells-more c at k =
      ap (λ xs. cells_stretches slots xs k) (take-next cs n c at)
      ∙ (flat_map-append (stretches_at slots k) (take n cs) (c ∷ [])
      ∙ ap (λ ss. cells_stretches slots (take n cs) k ++ ss) (append-nil (stretches_at slots k c) ∙ ap (λ o. cond (nat_eq k c.block) (cell_stretches slots o) []) (sym at)))

  pub cells-next : (p : ℕ) → Some p ≡ option_map (λ c. c.block) (slice_get cs n) → (k : ℕ) → cells_stretches slots (take (n + 1) cs) k ≡ cells_stretches slots (take n cs) k ++ cond (nat_eq k p) (cell_stretches slots (slice_get cs n)) []
  cells-next p is k = go (slice_get cs n) refl
    where
      go : (o : Option Cell) → slice_get cs n ≡ o → cells_stretches slots (take (n + 1) cs) k ≡ cells_stretches slots (take n cs) k ++ cond (nat_eq k p) (cell_stretches slots (slice_get cs n)) []
      go None e = let q : Some p ≡ None = is ∙ ap (option_map (λ (c : Cell). c.block)) e in cc
      go (Some c) e =
          let q : Some p ≡ Some c.block = is ∙ ap (option_map (λ (c : Cell). c.block)) e in
          let same : c.block ≡ p = cc in
          cells-more c e k ∙ ap (λ m. cells_stretches slots (take n cs) k ++ cond (nat_eq k m) (cell_stretches slots (slice_get cs n)) []) same

  pub cells-over : None ≡ option_map (λ c. c.block) (slice_get cs n) → (k : ℕ) → cells_stretches slots (take n cs) k ≡ cells_stretches slots (take (n + 1) cs) k
  cells-over is k = go (slice_get cs n) refl
    where
      go : (o : Option Cell) → slice_get cs n ≡ o → cells_stretches slots (take n cs) k ≡ cells_stretches slots (take (n + 1) cs) k
      go (Some c) e = let q : None ≡ Some c.block = is ∙ ap (option_map (λ (c : Cell). c.block)) e in cc
      go None e = ap (λ xs. cells_stretches slots xs k) (sym (take-last cs n e))

module _ (x : Table) (v n : ℕ) where
  pub lanes-more : (o : Option ℕ) → o ≡ number_in x.lanes (owners.Range v n) → (k : ℕ) → range_stretches x v (n + 1) k ≡ range_stretches x v n k ++ lane_stretches x k o
  lanes-more o is k =
      let f : ℕ → List Stretch = λ j. lane_stretches x k (number_in x.lanes (owners.Range v j)) in
      ap (flat_map f) (numbers_next n)
      ∙ (flat_map-append f (numbers 0 n) (n ∷ [])
      ∙ ap (λ ss. range_stretches x v n k ++ ss) (append-nil (f n) ∙ ap (lane_stretches x k) (sym is)))

  pub lanes-over : None ≡ number_in x.lanes (owners.Range v n) → (k : ℕ) → range_stretches x v n k ≡ range_stretches x v (n + 1) k
  lanes-over is k = sym (lanes-more None is k ∙ append-nil (range_stretches x v n k))
