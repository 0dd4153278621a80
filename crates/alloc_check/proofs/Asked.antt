-- Rows of which those before a place ask.
use Rattle.std.proofs.Common.{◌≡◌, ◌∷◌, ◌∙◌, ◌+◌, ◌<◌, ◌≤◌, ℕ, zero, suc, Bool, true, false, cond, List, [], Option, Some, None, map, take, drop, get_or, length, ltb, ltb-true, ltb-false, refl, sym, ap, subst, arith}
use Rattle.std.proofs.lemmas.List.{at_drop_more, at_drop_all}
use Rattle.target_base.specs.declared.types.Target.{Target}
use Rattle.meaning.specs.declared.types.Row.{Row}
use Rattle.meaning.specs.declared.types.Row.TheVariants.{BothStart, BothEnd, FirstSilent, SecondSilent, BothCounted}
use Rattle.meaning.specs.declared.types.EdgePair.{EdgePair}
use Rattle.meaning.specs.Facts.{Knowledge, known_both, known_at_start}
use Rattle.meaning.specs.Agree.{Family, rows_hold, target_holds, ways_hold}
use Rattle.mir_func.specs.Value.{Function}
use Rattle.mir_meaning.specs.Codes.{given_of}
use Rattle.mir_meaning.specs.Agreement.{without_reads}
use Rattle.std.proofs.lemmas.Bool.{and_from}
use Rattle.alloc_check.specs.Asking.{asking, asked_to, is_pair, counted_rows}
use Rattle.alloc_check.specs.Families.{is_inside, HoldsWith}
use Rattle.alloc_check.proofs.Asking.{row_holds, row_after, row-whole}

pub asked-length : (n : ℕ) (rows : List Row) → length (asked_to n rows) ≡ length rows
asked-length zero rows = quiet rows
  where
    quiet : (rows : List Row) → length (map without_reads rows) ≡ length rows
    quiet [] = refl
    quiet (row ∷ rows) = ap suc (quiet rows)
asked-length (suc n) [] = refl
asked-length (suc n) (row ∷ rows) = ap suc (asked-length n rows)

pub asked-all : (rows : List Row) → asked_to (length rows) rows ≡ rows
asked-all [] = refl
asked-all (row ∷ rows) = ap (λ rs. row ∷ rs) (asked-all rows)

pub asked-end : (n : ℕ) (rows : List Row) (k : ℕ) → length rows ≤ k → drop k (asked_to n rows) ≡ []
asked-end n rows k le = at_drop_all (λ xs. xs) (asked_to n rows) k (omega (arith, asked-length n rows))

-- a row before the place, and one from it on
asks-before : (n : ℕ) (rows : List Row) (j : ℕ) (d : Row) → j < n → get_or (asked_to n rows) j d ≡ get_or rows j d
asks-before zero rows j d lt = absurd (let x : ⊥ = omega (arith, lt) in x)
asks-before (suc n) [] j d lt = refl
asks-before (suc n) (row ∷ rows) zero d lt = refl
asks-before (suc n) (row ∷ rows) (suc j) d lt = asks-before n rows j d (omega (arith, lt))

quiet-at : (rows : List Row) (j : ℕ) (d d' : Row) → j < length rows → get_or (map without_reads rows) j d ≡ without_reads (get_or rows j d')
quiet-at [] j d d' lt = absurd (let x : ⊥ = omega (arith, lt) in x)
quiet-at (row ∷ rows) zero d d' lt = refl
quiet-at (row ∷ rows) (suc j) d d' lt = quiet-at rows j d d' (omega (arith, lt))

quiet-from : (n : ℕ) (rows : List Row) (j : ℕ) (d d' : Row) → n ≤ j → j < length rows → get_or (asked_to n rows) j d ≡ without_reads (get_or rows j d')
quiet-from zero rows j d d' le lt = quiet-at rows j d d' lt
quiet-from (suc n) [] j d d' le lt = absurd (let x : ⊥ = omega (arith, lt) in x)
quiet-from (suc n) (row ∷ rows) zero d d' le lt = absurd (let x : ⊥ = omega (arith, le) in x)
quiet-from (suc n) (row ∷ rows) (suc j) d d' le lt = quiet-from n rows j d d' (omega (arith, le)) (omega (arith, lt))

pub asked-at : (n : ℕ) (rows : List Row) (j : ℕ) (row : Row) → j < length rows → row ≡ get_or rows j row → asking (ltb j n) row ≡ get_or (asked_to n rows) j (asking (ltb j n) row)
asked-at n rows j row lt at = go (ltb j n) refl
  where
    go : (x : Bool) → ltb j n ≡ x → asking x row ≡ get_or (asked_to n rows) j (asking x row)
    go true e = at ∙ sym (asks-before n rows j row (ltb-true j n e))
    go false e = ap without_reads at ∙ sym (quiet-from n rows j (without_reads row) row (ltb-false j n e) lt)

pub asking-start : (x : Bool) (n : ℕ) → asking x (BothStart n) ≡ BothStart n
asking-start true n = refl
asking-start false n = refl

pub asking-inside : (x : Bool) (row : Row) → is_inside row ≡ true → is_inside (asking x row) ≡ true
asking-inside true row e = e
asking-inside false (BothStart n) e = e
asking-inside false (BothEnd falls exits) e = refl
asking-inside false (FirstSilent reads ws) e = refl
asking-inside false (SecondSilent reads ws) e = refl
asking-inside false (BothCounted r reads reads' ws ws' target exits) e = refl

-- rows of which none asks hold with no facts
no-ways : (k : Knowledge) (es : List EdgePair) → ways_hold [] k es ≡ true
no-ways k [] = refl
no-ways k (e ∷ es) = no-ways k es

no-target : (k : Knowledge) (o : Option EdgePair) → target_holds [] k o ≡ true
no-target k None = refl
no-target k (Some e) = refl

quiet-row : (row : Row) (k : Knowledge) → row_holds [] (without_reads row) k ≡ true
quiet-row (BothStart n) k = refl
quiet-row (BothEnd falls exits) k = no-ways k exits
quiet-row (FirstSilent reads ws) k = refl
quiet-row (SecondSilent reads ws) k = refl
quiet-row (BothCounted r reads reads' ws ws' target exits) k = and_from (target_holds [] (known_both ws ws' k) target) (ways_hold [] (known_both ws ws' k) exits) (no-target (known_both ws ws' k) target) (no-ways (known_both ws ws' k) exits)

quiet-always : (rows : List Row) (k : Knowledge) → rows_hold [] (map without_reads rows) k ≡ true
quiet-always [] k = refl
quiet-always (row ∷ rows) k = row-whole [] (without_reads row) (map without_reads rows) k (quiet-row row k) (quiet-always rows (row_after [] (without_reads row) k))

pub none-asked : (t : Target) (f g : Function) (rows : List Row) → HoldsWith t f g (asked_to 0 rows)
none-asked t f g rows = ([], quiet-always rows (known_at_start (given_of t f) (given_of t g)))

pub some-rows : (t : Target) (f g : Function) (rows : List Row) → (HoldsWith t f g rows → ⊥) → 0 < length rows
some-rows t f g [] h = absurd (h ([], refl))
some-rows t f g (row ∷ rows) h = omega arith

-- how many pairs are left
pub counted-at : (rows : List Row) (k : ℕ) (row : Row) → k < length rows → row ≡ get_or rows k row → counted_rows (drop k rows) ≡ cond (is_pair row) (suc (counted_rows (drop (k + 1) rows))) (counted_rows (drop (k + 1) rows))
counted-at rows k row lt at = at_drop_more counted_rows rows k row lt ∙ ap (λ r. counted_rows (r ∷ drop (k + 1) rows)) (sym at)

-- a row that is no pair asks the same anyway
pub asking-other :
    (x : Bool) (row : Row) → is_pair row ≡ false → asking x row ≡ row
asking-other true row other = refl
asking-other false (BothStart n) other = refl
asking-other false (BothEnd falls exits) other = refl
asking-other false (FirstSilent reads ws) other = refl
asking-other false (SecondSilent reads ws) other = refl
asking-other false (BothCounted r reads reads' ws ws' target exits) other = absurd (cc)
