-- The code of a function while edits are done to it. An instruction that is erased still stands, and does nothing, until the last edit is done.
use Rattle.std.specs.Prelude.{◌≡◌, ◌≢◌, ℕ, true, false, cond, List, [], ◌∷◌, Some, slice_get}
use Rattle.slot_index.specs.Order.{number_of}
use Rattle.target_base.specs.declared.types.Target.{Target}
use Rattle.meaning.specs.Live.{Among}
use Rattle.mir_func.specs.declared.func.Block.{Block}
use Rattle.mir_func.specs.declared.func.Instr.{Instr}
use Rattle.mir_func.specs.Value.{Function, IsFunction}
use Rattle.mir_func.specs.Edits.{block_place, deleted, inserted, made}
use Rattle.mir_meaning.specs.Paths.{Code, has}
use Rattle.instr_effects.specs.Numbered.{number_in, KeepsNumbers}
use Rattle.instr_effects.specs.Steps.{Numbering}
use Rattle.live_lanes.specs.declared.compute.flow.BlockFlow.{BlockFlow}
use Rattle.live_lanes.specs.declared.row.LaneRange.{LaneRange}
use Rattle.live_lanes.specs.declared.table.Table.{Table}
use Rattle.live_lanes.specs.Table.{Numbers}
use Rattle.live_lanes.specs.Coded.{Doing, code_of}
use Rattle.live_lanes.specs.Doing.{doing_of, lane_code, IsComputed}
use Rattle.live_lanes.specs.Entered.{IsTableOf}
use Rattle.live_lanes.specs.Entering.{EnteredStep}
use Rattle.live_lanes.specs.Ordered.{place_of}
use Rattle.live_laws.specs.Effects.Coded.{KeepsRules}
use Rattle.edit_laws.specs.Codes.{step_in, NamesTold}
use Rattle.edit_laws.specs.Edits.{Edit, Put, Replace, Erase, replaced, with_op, KeepsWays, all_edited}
use Rattle.edit_laws.specs.Further.{KeepsLast}
use Rattle.edit_laws.specs.Kept.{IsLaidOut}
use Rattle.edit_laws.specs.Reasons.{Touched, IsLike, IsEditOf}
use Rattle.edit_laws.specs.RowsUpdated.{AreRowsUpdated}
use Rattle.edit_laws.specs.Steps.{AreCodes}

-- the function after the edit, but that an erased instruction still stands
abbrev pub deferred : Function → Edit → Function
deferred f (Put gap op os) = inserted f gap op os
deferred f (Replace id op os) = replaced f id op os
deferred f (Erase id) = f

-- the ids that are erased, the last first
abbrev pub gone_after : List ℕ → Edit → List ℕ
gone_after gone (Put gap op os) = gone
gone_after gone (Replace id op os) = gone
gone_after gone (Erase id) = id ∷ gone

-- the same of edits one after the other
abbrev pub all_deferred : Function → List Edit → Function
all_deferred f [] = f
all_deferred f (e ∷ es) = all_deferred (deferred f e) es

abbrev pub all_gone : List ℕ → List Edit → List ℕ
all_gone gone [] = gone
all_gone gone (e ∷ es) = all_gone (gone_after gone e) es

-- the function without the instructions of these ids
abbrev pub all_deleted : Function → List ℕ → Function
all_deleted f [] = f
all_deleted f (id ∷ ids) = deleted (all_deleted f ids) id

-- an instruction that does nothing
abbrev pub nothing : ℕ → EnteredStep
nothing id = (record { id = id; reads = []; writes = []; leaves = false }, [])

-- those of these ids do nothing
abbrev pub idle : List ℕ → Doing → Doing
idle gone doing i = cond (has i.id gone) (nothing i.id) (doing i)

-- the function over numbered lanes, in which they do nothing
abbrev pub idle_code : Target → Function → Numbering → List ℕ → Code
idle_code t f num gone = code_of (idle gone (doing_of t f num)) (λ n. place_of n f.blocks) f.blocks

-- the code after edits in which what they erase still stands
abbrev pub standing_code : Target → Function → Numbering → List Edit → Code
standing_code t f num es = idle_code t (all_deferred f es) num (all_gone [] es)

-- At a lane at which the edited instruction isn't touched it does what it did. One that comes or goes uses and writes none of these.
abbrev pub TouchesEdit : Touched → Target → Function → Numbering → Edit → Type 0
TouchesEdit touched t f num (Put gap op os) = NamesTold (λ l. touched l (block_place gap.block f.blocks) f.next_id) (step_in t f num (made f.next_id op os))
TouchesEdit touched t f num (Replace id op os) =
    (b : ℕ) (x : Block) (i : Instr) → slice_get f.blocks b ≡ Some x → Among i x.instrs → i.id ≡ id → IsLike (λ l n. touched l b n) (step_in t f num i) (step_in t f num (with_op op os i))
TouchesEdit touched t f num (Erase id) =
    (b : ℕ) (x : Block) (i : Instr) → slice_get f.blocks b ≡ Some x → Among i x.instrs → i.id ≡ id → NamesTold (λ l. touched l b i.id) (step_in t f num i)

-- Each edit of the list leaves phis and the ways between blocks, and what it does to lanes is touched, in the function as it stands then.
abbrev pub TouchesEdits : Touched → Target → Function → Numbering → List Edit → Type 0
TouchesEdits touched t f num [] = Unit {0}
TouchesEdits touched t f num (e ∷ es) = KeepsWays t f e × TouchesEdit touched t f num e × TouchesEdits touched t (deferred f e) num es

-- the edit leaves the instruction of an id that is erased: it doesn't change it, puts none before it, and brings none of its id
abbrev pub Spares : Function → Edit → ℕ → Type 0
Spares f (Put gap op os) id = (id ≢ f.next_id) × (Some id ≢ gap.before)
Spares f (Replace other op os) id = id ≢ other
Spares f (Erase other) id = Unit {0}

-- each edit of the list leaves all that are erased by then
abbrev pub SpareGone : List ℕ → Function → List Edit → Type 0
SpareGone gone f [] = Unit {0}
SpareGone gone f (e ∷ es) = ((id : ℕ) → has id gone ≡ true → Spares f e id) × SpareGone (gone_after gone e) (deferred f e) es

-- over one edit
abbrev pub DeferredLaw : Type 0
DeferredLaw =
    (touched : Touched) (t : Target) (f : Function) (num : Numbering) (gone : List ℕ) (e : Edit) → KeepsWays t f e → TouchesEdit touched t f num e
    → IsEditOf touched (idle_code t f num gone) (idle_code t (deferred f e) num (gone_after gone e))

-- over edits one after the other
abbrev pub AllDeferredLaw : Type 0
AllDeferredLaw =
    (touched : Touched) (t : Target) (f : Function) (num : Numbering) (es : List Edit) → TouchesEdits touched t f num es
    → IsEditOf touched (lane_code t f num) (standing_code t f num es)

-- To erase instructions at last is to erase them when it is their turn.
abbrev pub ErasedLastLaw : Type 0
ErasedLastLaw = (f : Function) (es : List Edit) → SpareGone [] f es → all_edited f es ≡ all_deleted (all_deferred f es) (all_gone [] es)

-- Where ids are single, the code in which erased instructions stand is that of the edited function but for these.
abbrev pub StandingLaw : Type 0
StandingLaw =
    (t : Target) (f : Function) (num : Numbering) (es : List Edit) → IsFunction f.blocks f.next_id → SpareGone [] f es
    → AreCodes (λ l. false) (standing_code t f num es) (lane_code t (all_edited f es) num)

-- A table of the code in which erased instructions stand is one of the edited function's code, where all others keep their numbers.
abbrev pub StandingTableLaw : Type 0
StandingTableLaw =
    (t : Target) (f : Function) (num : Numbering) (es : List Edit) (slots slots' : Numbers) (flow : List BlockFlow) (rows : List LaneRange) → IsFunction f.blocks f.next_id → SpareGone [] f es
    → ((id : ℕ) → has id (all_gone [] es) ≡ false → number_of slots' id ≡ number_of slots id) → IsTableOf (standing_code t f num es) slots flow rows
    → IsTableOf (lane_code t (all_edited f es) num) slots' flow rows

-- A table that was computed for a function is computed for the function after edits, where lanes keep the numbers that they had, it has the
-- edited function's lanes, blocks and instructions, and its rows are brought up to date over the code in which erased instructions stand.
abbrev pub EditedRowsLaw : Type 0
EditedRowsLaw =
    (t : Target) (f : Function) (es : List Edit) (x y : Table) (z : List LaneRange) (touched : Touched) (slots : Numbers) (flow : List BlockFlow)
    → IsFunction f.blocks f.next_id → SpareGone [] f es → IsComputed t f x → KeepsRules t f → KeepsLast t f → KeepsNumbers (number_in x.lanes) (number_in y.lanes)
    → IsLaidOut t (all_edited f es) y
    → AreRowsUpdated touched (lane_code t f (number_in y.lanes)) (standing_code t f (number_in y.lanes) es) slots flow x.rows.rows.items z y.rows.rows.items
    → IsComputed t (all_edited f es) y
