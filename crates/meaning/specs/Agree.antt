-- Agreement of two functions, by a family of facts for the starts of blocks.
use Rattle.std.specs.Prelude.{◌≡◌, ℕ, Bool, true, false, cond, ◌&&◌, nat_eq, List, [], ◌∷◌, Option, Some, None}
use Rattle.meaning.specs.declared.types.EdgePair.{EdgePair}
use Rattle.meaning.specs.declared.types.Row.{Row}
use Rattle.meaning.specs.declared.types.Row.TheVariants.{BothStart, BothEnd, FirstSilent, SecondSilent, BothCounted}
use Rattle.meaning.specs.Code.{Function}
use Rattle.meaning.specs.Refines.{Refines}
use Rattle.meaning.specs.Facts.{Facts, Knowledge, everything, known, known_first, known_second, known_both, operands_known, all_known, known_at_start}
use Rattle.meaning.specs.Pairing.{pairing}
use Rattle.meaning.specs.Rows.{first_of_rows, second_of_rows}

-- the certificate: for each block the facts at its start, behind its phis
abbrev pub Family : Type 0
Family = List (ℕ × Facts)

abbrev pub facts_at : Family → ℕ → Facts
facts_at [] n = []
facts_at (b ∷ family) n = cond (nat_eq b.0 n) b.1 (facts_at family n)

-- what is known behind the phis of a way into a block
abbrev pub known_along : EdgePair → Knowledge → Knowledge
known_along e k = known_second e.second (known_first e.first k)

-- the facts of a block hold on a way into it
abbrev pub way_holds : Family → Knowledge → EdgePair → Bool
way_holds family k e = all_known (known_along e k) (facts_at family e.block)

abbrev pub ways_hold : Family → Knowledge → List EdgePair → Bool
ways_hold family k [] = true
ways_hold family k (e ∷ es) = way_holds family k e && ways_hold family k es

abbrev pub target_holds : Family → Knowledge → Option EdgePair → Bool
target_holds family k None = true
target_holds family k (Some e) = way_holds family k e

-- every fact that is needed is known, and the family holds on every way into a block
abbrev pub rows_hold : Family → List Row → Knowledge → Bool
rows_hold family [] k = true
rows_hold family (BothStart n ∷ rows) k = all_known k (facts_at family n) && rows_hold family rows (known (facts_at family n))
rows_hold family (BothEnd (Some e) exits ∷ rows) k = ways_hold family k exits && rows_hold family rows (known_second e.1 (known_first e.0 k))
rows_hold family (BothEnd None exits ∷ rows) k = ways_hold family k exits && rows_hold family rows everything
rows_hold family (FirstSilent reads ws ∷ rows) k = rows_hold family rows (known_first ws k)
rows_hold family (SecondSilent reads ws ∷ rows) k = rows_hold family rows (known_second ws k)
rows_hold family (BothCounted r reads reads' ws ws' target exits ∷ rows) k =
    operands_known k reads reads' && (target_holds family (known_both ws ws' k) target && (ways_hold family (known_both ws ws' k) exits && rows_hold family rows (known_both ws ws' k)))

abbrev pub rows_agree : Family → Option (List Row) → Knowledge → Bool
rows_agree family None k = false
rows_agree family (Some rows) k = rows_hold family rows k

abbrev pub agrees : Function → Function → Family → Bool
agrees f g family = rows_agree family (pairing f.code g.code) (known_at_start f.given g.given)

-- The law of the checker: agreement implies refinement, whoever made the second function and the family.
abbrev pub AgreementRefines : Type 0
AgreementRefines = (f g : Function) (family : Family) → agrees f g family ≡ true → Refines f g

-- the same for rows that anybody laid out, of which the two codes are the sides
abbrev pub RowsRefine : Type 0
RowsRefine =
    (f g : Function) (family : Family) (rows : List Row) → first_of_rows rows ≡ f.code → second_of_rows rows ≡ g.code → rows_hold family rows (known_at_start f.given g.given) ≡ true → Refines f g
