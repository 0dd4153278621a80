-- After a refusal the table is computed for the function of before.
use Rattle.std.proofs.Common.{◌≡◌, ◌<◌, true, false, length, List, [], refl, sym, subst}
use Rattle.target_base.specs.declared.types.Target.{Target}
use Rattle.mir_func.specs.Value.{Function, IsFunction}
use Rattle.mir_meaning.specs.Paths.{Code}
use Rattle.instr_effects.specs.Numbered.{number_in}
use Rattle.live_lanes.specs.declared.row.LaneRange.{LaneRange}
use Rattle.live_lanes.specs.declared.table.Table.{Table}
use Rattle.live_lanes.specs.Doing.{lane_code, IsComputed}
use Rattle.live_lanes.specs.Entered.{causes}
use Rattle.live_lanes.specs.Flowing.{AreWays}
use Rattle.live_lanes.specs.Ordered.{place_of}
use Rattle.live_lanes.proofs.Basics.{none-among}
use Rattle.live_laws.specs.Effects.Coded.{KeepsRules}
use Rattle.edit_laws.specs.Deferred.{standing_code}
use Rattle.edit_laws.specs.EditedTable.{AreRowsEdited, AreStages}
use Rattle.edit_laws.specs.Further.{KeepsLast}
use Rattle.edit_laws.specs.LetGo.{cells_rebuilt}
use Rattle.edit_laws.specs.Ordering.{IsOrdered}
use Rattle.edit_laws.specs.Reasons.{Touched}
use Rattle.edit_laws.specs.Rebuilt.{stays}
use Rattle.edit_laws.specs.Update.{fell, rose}
use Rattle.edit_laws.proofs.EditedTable.{edited-table-law}
use Rattle.live_edits.specs.EditedRuns.{TellsAlike, AlikeTableLaw}

none_touched : Touched
none_touched l b id = false

module _ (t : Target) (f : Function) (x y : Table) (computed : IsComputed t f x) (rules : KeepsRules t f) (last : KeepsLast t f) (is : IsFunction f.blocks f.next_id) (short : f.next_id < 4294967296) (few : length f.blocks < 4294967296) (alike : TellsAlike t f x y) where
  ordered : IsOrdered t f y
  ordered = record {
    positions = alike.order.positions;
    homes = alike.order.homes;
    ways = subst (λ w. AreWays t (λ n. place_of n f.blocks) f.blocks w.items) (sym alike.flow) computed.ways;
    layout = alike.order.layout;
    numbered = alike.order.numbered;
  }

  stages : AreStages t f [] x y y
  stages = record {
    ordered = ordered;
    small = alike.small;
    ways = alike.flow;
    after = ordered;
    same_ways = alike.flow;
    same_numbers = λ id o. refl;
    function = is;
    short = short;
    few = few;
    lanes = alike.numbers;
    kept_lanes = alike.keeps;
  }

  abbrev code : Code
  code = lane_code t f (number_in y.lanes)

  abbrev rows : List LaneRange
  rows = y.rows.rows.items

  rows-edited : AreRowsEdited none_touched code (standing_code t f (number_in y.lanes) []) y.order.slots y.flow.items x.rows.rows.items rows rows
  unfolding none_touched
  rows-edited = record {
    lets_go = λ l. false;
    lanes_edited = λ l. cells_rebuilt (λ b. stays refl (alike.seen l b));
    few = alike.few;
    kept_shapes = λ l b. refl;
    lanes = refl;
    list = [];
    listed = λ l b id o e. absurd (let z : false ≡ true = e in cc);
    between = causes rows;
    fallen = [];
    falls = fell;
    queue = [];
    asks = record { inside = λ r m. absurd (none-among r m); founded = λ r m. absurd (none-among r m); whole = λ n m d c o r k. absurd (none-among n m) };
    risen = [];
    rises = rose;
    again = [];
    with_list = λ n m. m;
    with_needs = λ m a n c r. absurd (none-among m a);
    ended = λ n m. absurd (none-among n m);
    kept = λ n m. refl;
  }

  alike-computed : IsComputed t f y
  alike-computed = edited-table-law none_touched t f [] x y y rows computed rules last is tt tt stages rows-edited

pub alike-table-law : AlikeTableLaw
alike-table-law t f x y computed rules last is short few alike = alike-computed t f x y computed rules last is short few alike
