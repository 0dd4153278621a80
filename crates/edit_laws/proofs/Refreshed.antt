-- A table that is brought up to date after edits is computed for the edited function.
use Rattle.std.proofs.Common.{◌⊎◌, ℕ, false, List, refl, sym, subst, inl, inr}
use Rattle.target_base.specs.declared.types.Target.{Target}
use Rattle.mir_func.specs.Value.{Function}
use Rattle.mir_meaning.specs.Paths.{Code}
use Rattle.live_lanes.specs.declared.row.LaneRange.{LaneRange}
use Rattle.live_lanes.specs.declared.table.Table.{Table}
use Rattle.live_lanes.specs.Graph.{Causes, IsGrown}
use Rattle.live_lanes.specs.Table.{Numbers}
use Rattle.live_lanes.specs.Entered.{IsNumbered, causes}
use Rattle.live_lanes.specs.Ends.{IsEnd, row_end, AreEnds}
use Rattle.live_lanes.specs.Laws.{AllMatched}
use Rattle.live_lanes.specs.Doing.{IsComputed}
use Rattle.edit_laws.specs.Chains.{Node}
use Rattle.edit_laws.specs.Kept.{code_in, IsLaidOut}
use Rattle.edit_laws.specs.Reasons.{Touched}
use Rattle.edit_laws.specs.Steps.{AreCodes}
use Rattle.edit_laws.specs.Update.{IsUpdated, AreUpdated}
use Rattle.edit_laws.specs.Updated.{KeepsEnd, TableUpdateLaw}
use Rattle.edit_laws.proofs.Ended.{ends-law}
use Rattle.edit_laws.proofs.Lasted.{lasting-law}
use Rattle.edit_laws.proofs.Others.{gone-law}
use Rattle.edit_laws.proofs.Risen.{update-law}

module _ (t : Target) (f g : Function) (x y : Table) (computed : IsComputed t f x) (matched : AllMatched (code_in t f x)) (laid : IsLaidOut t g y) (touched : Touched) (standing : Code) (slots : Numbers) (before : Causes) (changed : List Node) (numbered : IsNumbered standing slots) (matched-new : AllMatched standing) (u : IsUpdated touched (code_in t f x) standing (causes x.rows.rows.items) before (causes y.rows.rows.items) changed) (gone : AreCodes (λ l. false) standing (code_in t g y)) (ends : (l b n : ℕ) → IsEnd standing slots (causes y.rows.rows.items) l b n (row_end y.rows.rows.items l b n) ⊎ KeepsEnd (code_in t f x) standing u.list changed x.rows.rows.items y.rows.rows.items l b n) where
  abbrev old-rows : List LaneRange
  old-rows = x.rows.rows.items

  abbrev new-rows : List LaneRange
  new-rows = y.rows.rows.items

  was-grown : IsGrown (code_in t f x) (causes old-rows)
  was-grown = computed.grown matched

  was-numbered : IsNumbered (code_in t f x) x.order.slots
  was-numbered = (computed.table matched).numbered

  brought : AreUpdated standing before (causes new-rows) changed
  brought = update-law touched (code_in t f x) standing x.order.slots slots (causes old-rows) before (causes new-rows) changed was-grown was-numbered numbered matched-new u

  end-at : (l b n : ℕ) → IsEnd standing slots (causes new-rows) l b n (row_end new-rows l b n)
  end-at l b n = go (ends l b n)
    where
      go : IsEnd standing slots (causes new-rows) l b n (row_end new-rows l b n) ⊎ KeepsEnd (code_in t f x) standing u.list changed old-rows new-rows l b n → IsEnd standing slots (causes new-rows) l b n (row_end new-rows l b n)
      go (inl e) = e
      go (inr k) =
          subst (IsEnd standing slots (causes new-rows) l b n) (sym k.same)
          (lasting-law touched (code_in t f x) standing x.order.slots slots (causes old-rows) before (causes new-rows) u.list changed was-grown was-numbered numbered matched matched-new u.edited u.carried u.listed brought.kept l b k.number n k.start k.before k.after k.unlisted k.apart (row_end old-rows l b k.number)
          (computed.ended matched l b k.number))

  ended : AllMatched (code_in t g y) → AreEnds (code_in t g y) y.order.slots new-rows
  ended all l b n =
      ends-law (λ l. false) standing (code_in t g y) slots y.order.slots (causes new-rows) (causes new-rows) gone numbered (laid.table all).numbered (λ l b n o. refl) l b n refl (row_end new-rows l b n) (end-at l b n)

  refreshed : IsComputed t g y
  refreshed = record {
    numbers = laid.numbers;
    positions = laid.positions;
    homes = laid.homes;
    ways = laid.ways;
    layout = laid.layout;
    numbered = laid.numbered;
    short = laid.short;
    few = laid.few;
    table = laid.table;
    grown = λ all. gone-law standing (code_in t g y) (causes new-rows) gone brought.grown;
    ended = ended;
  }

pub table-update-law : TableUpdateLaw
table-update-law t f g x y computed matched laid touched standing slots before changed numbered matched-new u gone ends = refreshed t f g x y computed matched laid touched standing slots before changed numbered matched-new u gone ends
