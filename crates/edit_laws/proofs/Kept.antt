-- A table that was computed for a function is computed for an edited one where the touched lanes are right.
use Rattle.std.proofs.Common.{◌≡◌, ℕ, Bool, true, false, List, refl, sym, ap, subst}
use Rattle.target_base.specs.declared.types.Target.{Target}
use Rattle.mir_func.specs.Value.{Function}
use Rattle.live_lanes.specs.declared.row.LaneRange.{LaneRange}
use Rattle.live_lanes.specs.declared.table.Table.{Table}
use Rattle.live_lanes.specs.Graph.{IsGrown}
use Rattle.live_lanes.specs.Table.{cause_in, end_in}
use Rattle.live_lanes.specs.Entered.{causes}
use Rattle.live_lanes.specs.Ends.{IsEnd, row_end, AreEnds}
use Rattle.live_lanes.specs.Laws.{AllMatched}
use Rattle.live_lanes.specs.Doing.{IsComputed}
use Rattle.edit_laws.specs.Steps.{AreCodes, KeepOthers}
use Rattle.edit_laws.specs.Kept.{code_in, IsLaidOut, KeepRows, AreRightIn, KeptLaw}
use Rattle.edit_laws.proofs.Grown.{grown-law}
use Rattle.edit_laws.proofs.Ended.{ends-law}

module _ (t : Target) (f g : Function) (x y : Table) (told : ℕ → Bool) (computed : IsComputed t f x) (matched : AllMatched (code_in t f x)) (laid : IsLaidOut t g y) (codes : AreCodes told (code_in t f x) (code_in t g y)) (rows : KeepRows told x y) (right : AreRightIn told (code_in t g y) y.order.slots y.rows.rows.items) where
  abbrev old-rows : List LaneRange
  old-rows = x.rows.rows.items

  abbrev new-rows : List LaneRange
  new-rows = y.rows.rows.items

  others : KeepOthers told (causes old-rows) (causes new-rows)
  others l b n o = ap (λ v. cause_in v n) (rows l b o)

  grown : IsGrown (code_in t g y) (causes new-rows)
  grown = grown-law told (code_in t f x) (code_in t g y) (causes old-rows) (causes new-rows) codes (computed.grown matched) others right.live

  ended : AllMatched (code_in t g y) → AreEnds (code_in t g y) y.order.slots new-rows
  ended all l b n = go (told l) refl
    where
      kept : told l ≡ false → IsEnd (code_in t g y) y.order.slots (causes new-rows) l b n (row_end old-rows l b n)
      kept o =
          ends-law told (code_in t f x) (code_in t g y) x.order.slots y.order.slots (causes old-rows) (causes new-rows) codes (computed.table matched).numbered (laid.table all).numbered others l b n o (row_end old-rows l b n)
          (computed.ended matched l b n)

      go : (u : Bool) → told l ≡ u → IsEnd (code_in t g y) y.order.slots (causes new-rows) l b n (row_end new-rows l b n)
      go true o = right.ends l b n o
      go false o = subst (IsEnd (code_in t g y) y.order.slots (causes new-rows) l b n) (sym (ap (λ v. end_in v n) (rows l b o))) (kept o)

pub kept-law : KeptLaw
kept-law t f g x y told computed matched laid codes rows right = record {
  numbers = laid.numbers;
  positions = laid.positions;
  homes = laid.homes;
  ways = laid.ways;
  layout = laid.layout;
  numbered = laid.numbered;
  short = laid.short;
  few = laid.few;
  table = laid.table;
  grown = λ all. grown t f g x y told computed matched laid codes rows right;
  ended = λ all. ended t f g x y told computed matched laid codes rows right all;
}
