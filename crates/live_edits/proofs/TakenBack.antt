-- Logged changes that are taken back, the last one first.
use Rattle.std.proofs.Common.{◌≡◌, ℕ, true, length, List, [], ◌∷◌, ◌++◌, refl, sym, ap, ◌∙◌, subst}
use Rattle.mir_meaning.specs.Paths.{Among, here}
use Rattle.live_lanes.specs.declared.row.LaneRange.{LaneRange}
use Rattle.live_lanes.specs.Entered.{rows_seen}
use Rattle.live_lanes.proofs.Numbered.{among-left, among-right}
use Rattle.live_edits.specs.declared.log.Former.{Former}
use Rattle.live_edits.specs.Logged.{all_taken_back, taken_back, cell_there, HasAllCells}
use Rattle.live_edits.specs.Changes.{TakesBack}
use Rattle.live_edits.proofs.Logged.{all-taken-back-append, cells-stay}

-- what is left to take back leads to the rows of before
pub record LeadsBack (old now : List LaneRange) (all left : List Former) : Type 0 where
  pub seen : (l b : ℕ) → all_taken_back left (rows_seen now) l b ≡ all_taken_back all (rows_seen old) l b
  pub lanes : length now ≡ length old
  pub there : HasAllCells now left

pub leads-first : (rows : List LaneRange) (all : List Former) → HasAllCells rows all → LeadsBack rows rows all all
leads-first rows all h = record { seen = λ l b. refl; lanes = refl; there = h }

pub last-there : (old now : List LaneRange) (all left rest : List Former) (e : Former) → left ≡ rest ++ e ∷ [] → LeadsBack old now all left → cell_there now e ≡ true
last-there old now all left rest e f k = k.there e (subst (Among e) (sym f) (among-right e rest (e ∷ []) here))

pub leads-further : (old now new : List LaneRange) (all left rest : List Former) (e : Former) → left ≡ rest ++ e ∷ [] → LeadsBack old now all left → TakesBack now new e → LeadsBack old new all rest
leads-further old now new all left rest e f k t = record {
  seen = λ l b. ap (λ s. all_taken_back rest s l b) one ∙ (ap (λ s. s l b) (sym (all-taken-back-append rest (e ∷ []) (rows_seen now))) ∙ (ap (λ es. all_taken_back es (rows_seen now) l b) (sym f) ∙ k.seen l b));
  lanes = t.lanes ∙ k.lanes;
  there = cells-stay now new (λ l b h. t.cells l b ∙ h) t.rooms rest (λ x m. k.there x (subst (Among x) (sym f) (among-left x rest (e ∷ []) m)));
}
  where
    one : rows_seen new ≡ taken_back e (rows_seen now)
    one = λ i. λ l b. t.seen l b i
