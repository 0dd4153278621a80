-- A table that was computed for a function is computed for the function after edits.
use Rattle.std.proofs.Common.{◌≡◌, ◌∷◌, ◌∙◌, ◌<◌, ◌≤◌, ℕ, zero, suc, Bool, true, false, cond, List, [], Option, Some, None, refl, sym, ap, subst, map, arith}
use Rattle.std.specs.Prelude.{filter, slice_get}
use Rattle.target_base.specs.declared.types.Target.{Target}
use Rattle.slot_index.specs.Order.{ids, number_of}
use Rattle.slot_index.specs.Renewed.{low_end}
use Rattle.mir_func.specs.declared.func.Block.{Block}
use Rattle.mir_func.specs.declared.func.Instr.{Instr}
use Rattle.mir_func.specs.Value.{Function, IsFunction}
use Rattle.mir_func.specs.Binding.{does, is_terminator}
use Rattle.mir_meaning.specs.Paths.{Among, here, there, Body, Code, Step, IsMatched, Unused, Into, has, steps_of, exits_of}
use Rattle.instr_effects.specs.Numbered.{number_in}
use Rattle.instr_effects.specs.Steps.{Numbering}
use Rattle.live_lanes.specs.declared.row.LaneRange.{LaneRange}
use Rattle.live_lanes.specs.declared.table.Table.{Table}
use Rattle.live_lanes.specs.Table.{Numbers}
use Rattle.live_lanes.specs.Coded.{Doing, bodies_from}
use Rattle.live_lanes.specs.Doing.{doing_of, lane_code, IsComputed}
use Rattle.live_lanes.specs.Entered.{Rises, IsFlow, IsTableOf}
use Rattle.live_lanes.specs.Flowing.{exits_at, terminator_ids}
use Rattle.live_lanes.specs.Laws.{AllMatched}
use Rattle.live_lanes.specs.Ordered.{AreRising, AreSingle, all_ids, ids_of, last_id, place_of}
use Rattle.live_lanes.specs.Ways.{successors, terminators}
use Rattle.live_lanes.proofs.Coded.{among-has, has-among}
use Rattle.live_lanes.proofs.Few.{few-points}
use Rattle.live_lanes.proofs.Homes.{ids-below}
use Rattle.live_lanes.proofs.Ordered.{times-total}
use Rattle.live_lanes.proofs.Risen.{block-rising}
use Rattle.live_laws.specs.Effects.Coded.{KeepsRules}
use Rattle.live_laws.proofs.Exact.Inside.{all}
use Rattle.edit_laws.specs.Deferred.{all_deferred, all_gone, nothing, idle, standing_code, TouchesEdits, SpareGone}
use Rattle.edit_laws.specs.EditedTable.{FlowLaw, HasOrder, StandingOrderLaw, AreRowsEdited, AreStages, EditedTableLaw}
use Rattle.edit_laws.specs.Edits.{Edit, all_edited}
use Rattle.edit_laws.specs.Further.{KeepsLast}
use Rattle.edit_laws.specs.Kept.{IsLaidOut}
use Rattle.edit_laws.specs.Ordering.{IsOrdered}
use Rattle.edit_laws.specs.Reasons.{Touched, AreEdited, edit_none, edit_stays, edit_comes, IsEditOf}
use Rattle.edit_laws.specs.LetGo.{AreLanesEdited}
use Rattle.edit_laws.specs.RowsUpdated.{AreRowsUpdated}
use Rattle.edit_laws.proofs.Composed.{all-classes-stay}
use Rattle.edit_laws.proofs.Deferred.{all-deferred-law}
use Rattle.edit_laws.proofs.ErasedLast.{deferred-single}
use Rattle.edit_laws.proofs.Further.{with-lanes}
use Rattle.edit_laws.proofs.Left.{AreLeft, none_left, one_left, one_goes, among-split, split-among}
use Rattle.edit_laws.proofs.Ordering.{laid-out-law}
use Rattle.edit_laws.proofs.LanesEdited.{emptied, copied, table}
use Rattle.edit_laws.proofs.Standing.{edited-rows-law, is-left, standing-table-law}

-- ways over edits

abbrev Like : Step → List Step → Type 0
Like r ss = (s : Step) × Among s ss × (s.id ≡ r.id) × (s.leaves ≡ true)

more-like : (r x : Step) (ss : List Step) → Like r ss → Like r (x ∷ ss)
more-like r x ss z = (z.0, there z.1, z.2, z.3)

left-before : {touched : ℕ → ℕ → Bool} {ss rs : List Step} → AreEdited touched ss rs → (r : Step) → Among r rs → r.leaves ≡ true → Like r ss
left-before edit_none r m e = elim m [ ]
left-before (edit_stays {s = s} h a) r here e = (s, here, h.id, h.leaves ∙ e)
left-before (edit_stays {s = s} {ss = ss} h a) r (there m) e = more-like r s ss (left-before a r m e)
left-before (edit_comes h a) r here e = absurd (let z : true ≡ false = sym e ∙ h.leaves in cc)
left-before (edit_comes h a) r (there m) e = left-before a r m e

leaves-after : {touched : ℕ → ℕ → Bool} {ss rs : List Step} → AreEdited touched ss rs → (s : Step) → Among s ss → s.leaves ≡ true → Like s rs
leaves-after edit_none s m e = elim m [ ]
leaves-after (edit_stays {r = r} h a) s here e = (r, here, sym h.id, sym h.leaves ∙ e)
leaves-after (edit_stays {r = r} {rs = rs} h a) s (there m) e = more-like s r rs (leaves-after a s m e)
leaves-after (edit_comes {r = r} {rs = rs} h a) s m e = more-like s r rs (leaves-after a s m e)

pub flow-law : FlowLaw
flow-law touched old new flow e w = record {
  back = λ b x m. w.back b x (subst (Among x) (sym (e.exits b)) m);
  forth = λ b x m. subst (Among x) (e.exits b) (w.forth b x m);
  leaves = λ b s m l. let z = left-before (e.steps b) s m l in subst (λ i. Among i (terminators flow b)) z.2 (w.leaves b z.0 z.1 z.3);
  terminates = λ b id m.
      let v = w.terminates b id m in
      let own : Among v.1 (steps_of old b) = subst (Among v.1) (sym v.3) (split-among v.0 v.1 v.2) in
      let z = leaves-after (e.steps b) v.1 own v.5 in
      let q = among-split z.0 (steps_of new b) z.1 in
      (q.0, z.0, q.1, q.2, z.2 ∙ v.4, z.3);
}

-- the order of the code in which erased instructions stand

abbrev steps_in : Option Body → List Step
steps_in q = elim q as (λ o. List Step) [ None ↦ [] | Some x ↦ x.steps ]

abbrev exits_in : Option Body → List ℕ
exits_in q = elim q as (λ o. List ℕ) [ None ↦ [] | Some x ↦ x.exits ]

module _ (d : Doing) (named : (i : Instr) → (d i).0.id ≡ i.id) (place : ℕ → Option ℕ) (whole : List Block) where
  exits-from : (n : ℕ) (bs : List Block) (k : ℕ) → exits_in (slice_get (bodies_from d place whole n bs) k) ≡ exits_at place bs k
  exits-from n [] k = refl
  exits-from n (b ∷ bs) zero = refl
  exits-from n (b ∷ bs) (suc k) = exits-from (suc n) bs k

  module _ (slots : Numbers) where
    rises : (is : List Instr) (n : ℕ) → AreRising slots n (ids_of is) → Rises slots n (map (λ i. (d i).0) is)
    rises [] n r = tt
    rises (i ∷ is) n r = subst (λ k. (n < number_of slots k) × (number_of slots k < 18446744073709551616) × Rises slots (number_of slots k) (map (λ (j : Instr). (d j).0) is)) (sym (named i)) (r.0, r.1, rises is (number_of slots i.id) r.2)

    rises-from : (n : ℕ) (bs : List Block) → ((k : ℕ) (b : Block) → slice_get bs k ≡ Some b → AreRising slots 0 (ids_of b.instrs)) → (k : ℕ) → Rises slots 0 (steps_in (slice_get (bodies_from d place whole n bs) k))
    rises-from n [] h k = tt
    rises-from n (b ∷ bs) h zero = rises b.instrs 0 (h zero b refl)
    rises-from n (b ∷ bs) h (suc k) = rises-from (suc n) bs (λ j c e. h (suc j) c e) k

lower : (slots : Numbers) (m n : ℕ) (xs : List ℕ) → m ≤ n → AreRising slots n xs → AreRising slots m xs
lower slots m n [] h r = tt
lower slots m n (x ∷ xs) h r = (let low = r.0 in omega (arith, low, h), r.1, r.2)

-- some of the instructions, in their order
some-rising : (slots : Numbers) (test : Instr → Bool) (n : ℕ) (is : List Instr) → AreRising slots n (ids_of is) → AreRising slots n (map (λ i. i.id) (filter test is))
some-rising slots test n [] r = tt
some-rising slots test n (i ∷ is) r = go (test i) (some-rising slots test (number_of slots i.id) is r.2)
  where
    go : (t : Bool) → AreRising slots (number_of slots i.id) (map (λ (j : Instr). j.id) (filter test is)) → AreRising slots n (map (λ (j : Instr). j.id) (cond t (i ∷ filter test is) (filter test is)))
    go true ih = (r.0, r.1, ih)
    go false ih = lower slots n (number_of slots i.id) (map (λ (j : Instr). j.id) (filter test is)) (let low = r.0 in omega (arith, low)) ih

module _ (t : Target) (f : Function) (num : Numbering) (es : List Edit) (u : Table) (is : IsFunction f.blocks f.next_id) (o : IsOrdered t (all_deferred f es) u) (small : low_end (last_id (ids u.order.slots)) u.order.slots < 18446744073709551616) where
  abbrev standing : Function
  standing = all_deferred f es

  abbrev slots : Numbers
  slots = u.order.slots

  abbrev does-now : Doing
  does-now = idle (all_gone [] es) (doing_of t standing num)

  abbrev place : ℕ → Option ℕ
  place n = place_of n standing.blocks

  named : (i : Instr) → (does-now i).0.id ≡ i.id
  named i = go (has i.id (all_gone [] es))
    where
      go : (v : Bool) → (cond v (nothing i.id) (doing_of t standing num i)).0.id ≡ i.id
      go true = refl
      go false = refl

  single : AreSingle (all_ids standing.blocks)
  single x = subst (λ n. n ≤ 1) (sym (times-total x standing.blocks)) (deferred-single f es is x)

  rising : (k : ℕ) (b : Block) → slice_get standing.blocks k ≡ Some b → AreRising slots 0 (ids_of b.instrs)
  rising = block-rising slots standing.blocks o.numbered small single o.layout

  exits-are : (b : ℕ) → exits_of (standing_code t f num es) b ≡ exits_at place standing.blocks b
  exits-are b = exits-from does-now named place standing.blocks 0 standing.blocks b

  terminators-rise : (q : Option Block) (b : ℕ) → slice_get standing.blocks b ≡ q → AreRising slots 0 (elim q as (λ v. List ℕ) [ None ↦ [] | Some c ↦ terminator_ids t c.instrs ])
  terminators-rise None b e = tt
  terminators-rise (Some c) b e = some-rising slots (does is_terminator t) 0 c.instrs (rising b c e)

  has-order : HasOrder (standing_code t f num es) slots u.flow.items
  has-order = record {
    numbered = λ b. rises-from does-now named place standing.blocks slots 0 standing.blocks rising b;
    outward = record {
      onward = λ b x m. has-among x (exits_of (standing_code t f num es) b) (ap (has x) (exits-are b) ∙ (sym (o.ways.successors b x) ∙ among-has x (successors u.flow.items b) m));
      whole = λ b x m. has-among x (successors u.flow.items b) (o.ways.successors b x ∙ (ap (has x) (sym (exits-are b)) ∙ among-has x (exits_of (standing_code t f num es) b) m));
      rising = λ b. subst (AreRising slots 0) (sym (o.ways.terminators b)) (terminators-rise (slice_get standing.blocks b) b refl);
    };
  }

pub standing-order-law : StandingOrderLaw
standing-order-law t f num es u is o small = has-order t f num es u is o small

-- its instructions are matched where those of the edited function are

nothing-matched : (id : ℕ) → IsMatched (nothing id).0
nothing-matched id = record {
  filled = λ l a e. absurd (let z : Unused ≡ Into a = e in cc);
  used = λ l a w e g h. absurd (let z : None ≡ Some w = e in cc);
  once = λ l a c w e g h. absurd (let z : None ≡ Some w = e in cc);
}

matched-before : {ss rs : List Step} → AreLeft ss rs → ((s : Step) → Among s rs → IsMatched s) → (s : Step) → Among s ss → IsMatched s
matched-before none_left h s m = elim m [ ]
matched-before (one_left a) h s here = h s here
matched-before (one_left a) h s (there m) = matched-before a (λ r k. h r (there k)) s m
matched-before (one_goes {id = id} a) h s here = nothing-matched id
matched-before (one_goes a) h s (there m) = matched-before a h s m

-- all together

module _ (touched : Touched) (t : Target) (f : Function) (es : List Edit) (x u y : Table) (z : List LaneRange) (computed : IsComputed t f x) (rules : KeepsRules t f) (last : KeepsLast t f) (is : IsFunction f.blocks f.next_id) (spare : SpareGone [] f es) (touches : TouchesEdits touched t f (number_in y.lanes) es) (stages : AreStages t f es x u y) (rows : AreRowsEdited touched (lane_code t f (number_in y.lanes)) (standing_code t f (number_in y.lanes) es) u.order.slots u.flow.items x.rows.rows.items z y.rows.rows.items) where
  abbrev num : Numbering
  num = number_in y.lanes

  abbrev g : Function
  g = all_edited f es

  abbrev old : Code
  old = lane_code t f num

  abbrev mid : Code
  mid = standing_code t f num es

  abbrev new : Code
  new = lane_code t g num

  abbrev renumbered : Table
  renumbered = record x { lanes = y.lanes }

  still : IsComputed t f renumbered
  still = with-lanes t f g x y.lanes computed rules last stages.lanes (all-classes-stay f es) stages.kept_lanes

  was : IsTableOf old x.order.slots x.flow.items x.rows.rows.items
  was = still.table (all t f renumbered still rules last)

  edited : IsEditOf touched old mid
  edited = all-deferred-law touched t f num es touches

  order : HasOrder mid u.order.slots u.flow.items
  order = standing-order-law t f num es u is stages.ordered stages.small

  ways : IsFlow mid u.flow.items
  ways = flow-law touched old mid u.flow.items edited (subst (λ v. IsFlow old v.items) (sym stages.ways) was.ways)

  module _ (m : AllMatched new) where
    matched : (b : ℕ) (s : Step) → Among s (steps_of mid b) → IsMatched s
    matched b = matched-before ((is-left t f num es is spare).steps b) (m b)

    made : AreLanesEdited old mid u.order.slots u.flow.items rows.lets_go x.rows.rows.items z
    made = record { last = edited.last; numbered = order.numbered; ways = ways; matched = matched; few = rows.few; lanes = rows.lanes_edited }

    first-table : IsTableOf mid u.order.slots u.flow.items z
    first-table = table old mid x.order.slots u.order.slots x.flow.items u.flow.items rows.lets_go x.rows.rows.items z was made

    at-last : IsTableOf mid u.order.slots u.flow.items y.rows.rows.items
    at-last = record {
      entered = λ l b. rows.kept_shapes l b ∙ first-table.entered l b;
      numbered = order.numbered;
      ways = ways;
      matched = matched;
      few = subst (λ n. n < 4294967296) (sym rows.lanes) rows.few;
    }

    updated : AreRowsUpdated touched old mid u.order.slots u.flow.items x.rows.rows.items z y.rows.rows.items
    updated = record {
      edited = edited;
      outward = order.outward;
      first = first-table;
      table = at-last;
      lets_go = rows.lets_go;
      emptied = emptied old mid x.order.slots u.order.slots x.flow.items u.flow.items rows.lets_go x.rows.rows.items z was made;
      copied = copied old mid x.order.slots u.order.slots x.flow.items u.flow.items rows.lets_go x.rows.rows.items z was made;
      list = rows.list;
      listed = rows.listed;
      between = rows.between;
      fallen = rows.fallen;
      falls = rows.falls;
      queue = rows.queue;
      asks = rows.asks;
      risen = rows.risen;
      rises = rows.rises;
      again = rows.again;
      with_list = rows.with_list;
      with_needs = rows.with_needs;
      ended = rows.ended;
      kept = rows.kept;
    }

    table-new : IsTableOf new y.order.slots y.flow.items y.rows.rows.items
    table-new =
        subst (λ v. IsTableOf new y.order.slots v.items y.rows.rows.items) (stages.ways ∙ sym stages.same_ways)
        (standing-table-law t f num es u.order.slots y.order.slots u.flow.items y.rows.rows.items is spare stages.same_numbers at-last)

    laid : IsLaidOut t g y
    laid = laid-out-law t g y stages.function stages.short stages.few stages.lanes stages.after (λ k. table-new)

    done : IsComputed t g y
    done = edited-rows-law t f es x y z touched u.order.slots u.flow.items is spare computed rules last stages.kept_lanes laid updated

  -- what a table says of pieces is asked for where instructions are matched alone
  computed-now : IsComputed t g y
  computed-now = record {
    numbers = stages.lanes;
    positions = stages.after.positions;
    homes = stages.after.homes;
    ways = stages.after.ways;
    layout = stages.after.layout;
    numbered = stages.after.numbered;
    short = ids-below g.blocks g.next_id 4294967296 stages.function stages.short;
    few = few-points g.blocks g.next_id stages.function stages.short stages.few;
    table = λ m. (done m).table m;
    grown = λ m. (done m).grown m;
    ended = λ m. (done m).ended m;
  }

pub edited-table-law : EditedTableLaw
edited-table-law touched t f es x u y z computed rules last is spare touches stages rows = computed-now touched t f es x u y z computed rules last is spare touches stages rows
