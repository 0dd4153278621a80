-- A computed table in which further lanes get numbers.
use Rattle.std.proofs.Common.{◌≡◌, ◌++◌, ◌∷◌, ◌∙◌, ℕ, zero, suc, ◌+◌, Bool, true, false, cond, List, [], Option, Some, None, map, length, refl, sym, ap, subst, append-nil, arith}
use Rattle.std.specs.Prelude.{nat_lt, slice_get, slice_index, option_map, is_some, IsSome}
use Rattle.std.specs.Ordering.{nat_cmp}
use Rattle.std.specs.BTreeMap.{get}
use Rattle.target_base.specs.declared.types.ClassId.{ClassId}
use Rattle.target_base.specs.declared.types.IndexId.{IndexId}
use Rattle.target_base.specs.declared.types.Target.{Target}
use Rattle.target_base.specs.declared.types.Unit.{Unit as UnitNumber}
use Rattle.target_base.specs.Registers.{lanes_of, units_of, widths_of_some}
use Rattle.slot_index.specs.Order.{ids, IsNumbered}
use Rattle.meaning.specs.declared.types.Lane.TheVariants.{UnitLane, VirtualLane}
use Rattle.meaning.specs.Live.{Among}
use Rattle.mir_func.specs.declared.func.Block.{Block}
use Rattle.mir_func.specs.declared.func.Instr.{Instr}
use Rattle.mir_func.specs.declared.func.Loc.{Loc}
use Rattle.mir_func.specs.declared.func.Loc.TheVariants.{Fixed, Virtual}
use Rattle.mir_func.specs.declared.func.RegOp.{RegOp}
use Rattle.mir_func.specs.Value.{Function}
use Rattle.mir_func.specs.Binding.{class_of}
use Rattle.mir_meaning.specs.Registers.{located_lanes, located_widths, numbers, range_lanes, whole_lanes}
use Rattle.mir_meaning.specs.Rules.{has_class}
use Rattle.instr_effects.specs.declared.lanes.LaneTable.{LaneTable}
use Rattle.instr_effects.specs.declared.owner.Owner.{Owner}
use Rattle.instr_effects.specs.declared.owner.Owner.TheVariants as owners
use Rattle.instr_effects.specs.declared.row.LaneSpan.{LaneSpan}
use Rattle.instr_effects.specs.Numbered.{number_in, HasSlot, IsTable, NumbersAll, class_counts, KeepsNumbers}
use Rattle.instr_effects.specs.Numbers.{row_number_in, unit_number_in}
use Rattle.instr_effects.specs.Row.{lane_in}
use Rattle.live_lanes.specs.declared.table.Table.{Table}
use Rattle.live_lanes.specs.Doing.{doing_of, IsComputed}
use Rattle.live_lanes.specs.Entered.{shape, IsTableOf}
use Rattle.live_lanes.specs.Flowing.{AreWays}
use Rattle.live_lanes.specs.Laws.{AllMatched}
use Rattle.live_lanes.specs.Ordered.{place_of, AreHomes}
use Rattle.live_laws.specs.Effects.Coded.{KeepsRules}
use Rattle.live_laws.proofs.Effects.Blocks.{member-slice, slice-map}
use Rattle.live_laws.proofs.Effects.Moving.{some-same}
use Rattle.live_laws.proofs.Effects.Shapes.{class-there}
use Rattle.live_laws.proofs.Exact.Inside.{all}
use Rattle.edit_laws.specs.Edits.{Edit, Put, Replace, Erase, edited}
use Rattle.edit_laws.specs.Further.{KeepsLast, with_classes, HasFurtherLanes, DoesSameLaw, FurtherLanesLaw, FurtherRangesLaw, two_units, range_from, slot_behind, NumbersGrow}
use Rattle.edit_laws.specs.Kept.{code_in, IsLaidOut}
use Rattle.edit_laws.specs.Steps.{AreCodes}
use Rattle.edit_laws.proofs.Kept.{kept-law}
use Rattle.edit_laws.proofs.Numbers.{bodies-do, entries-do, none-told, same-code}
use Rattle.edit_laws.proofs.Paired.{Paired, no_pairs, map-paired}
use Rattle.edit_laws.proofs.Walked.{IsAgreed, SameLane, doing-same}

-- rows of as many lanes, of which the second keeps the numbers of the first

one-number : (a b : Option ℕ) → ((n : ℕ) → a ≡ Some n → b ≡ Some n) → is_some a ≡ is_some b → a ≡ b
one-number None None h e = refl
one-number None (Some m) h e = absurd (cc)
one-number (Some n) b h e = sym (h n refl)

some-lane : (x : LaneSpan) (k : ℕ) → is_some (lane_in x.first x.count k) ≡ nat_lt k x.count
some-lane x k = go (nat_lt k x.count)
  where
    go : (u : Bool) → is_some (cond u (Some (x.first + k)) None) ≡ u
    go true = refl
    go false = refl

some-row : (q : Option LaneSpan) (k n : ℕ) → option_map (λ x. x.count) q ≡ Some n → is_some (row_number_in q k) ≡ nat_lt k n
some-row None k n e = absurd (cc)
some-row (Some x) k n e = some-lane x k ∙ ap (nat_lt k) (some-same x.count n e)

row-same : (q r : Option LaneSpan) (k n : ℕ) → option_map (λ x. x.count) q ≡ Some n → option_map (λ x. x.count) r ≡ Some n → ((m : ℕ) → row_number_in q k ≡ Some m → row_number_in r k ≡ Some m) → row_number_in q k ≡ row_number_in r k
row-same q r k n e d h = one-number (row_number_in q k) (row_number_in r k) h (some-row q k n e ∙ sym (some-row r k n d))

range-count : (t : Target) (f : Function) (tab : LaneTable) → NumbersAll t f tab → (v : ℕ) (c : Option ClassId) → slice_get f.classes v ≡ Some c → option_map (λ (x : LaneSpan). x.count) (slice_get tab.ranges.items v) ≡ Some (length (widths_of_some t c))
range-count t f tab all v c e =
    sym (slice-map (λ (x : LaneSpan). x.count) tab.ranges.items v)
    ∙ (ap (λ ns. slice_get ns v) all.ranges
    ∙ (slice-map (λ q. length (widths_of_some t q)) f.classes v
    ∙ ap (option_map (λ q. length (widths_of_some t q))) e))

slot-count : (tab : LaneTable) → IsTable tab → (s : ℕ) → HasSlot tab s → option_map (λ (x : LaneSpan). x.count) (get nat_cmp tab.slots s) ≡ Some 32
slot-count tab table s h = go (get nat_cmp tab.slots s) refl h
  where
    go : (q : Option LaneSpan) → get nat_cmp tab.slots s ≡ q → IsSome q → option_map (λ (x : LaneSpan). x.count) q ≡ Some 32
    go None e g = absurd (cc)
    go (Some x) e g = ap Some (table.full s x e)

-- two functions with the same blocks, of which the second has classes where the first has

module _ (t : Target) (f g : Function) (old new : LaneTable) (rules : KeepsRules t f) (numbered : NumbersAll t f old) (numbered' : NumbersAll t g new) (keeps : KeepsNumbers (number_in old) (number_in new)) (blocks : g.blocks ≡ f.blocks) (wider : (v : ℕ) (c : Option ClassId) → slice_get f.classes v ≡ Some c → slice_get g.classes v ≡ Some c) where
  abbrev Same : Owner → Type 0
  Same o = number_in old o ≡ number_in new o

  unit-same : (u : ℕ) → Same (owners.Unit u)
  unit-same u = λ k. unit_number_in ((numbered.reserved ∙ sym numbered'.reserved) k) u

  range-same : (v : ℕ) → has_class f (Virtual v) ≡ true → (k : ℕ) → Same (owners.Range v k)
  range-same v h k = go (slice_get f.classes v) refl h
    where
      go : (q : Option (Option ClassId)) → slice_get f.classes v ≡ q → is_some (elim q as (λ q. Option ClassId) [ None ↦ None | Some c ↦ c ]) ≡ true → Same (owners.Range v k)
      go None e r = absurd (cc)
      go (Some c) e r =
          row-same (slice_get old.ranges.items v) (slice_get new.ranges.items v) k (length (widths_of_some t c)) (range-count t f old numbered v c e) (range-count t g new numbered' v c (wider v c e)) (keeps (owners.Range v k))

  slot-same : (s : ℕ) → HasSlot old s → HasSlot new s → (k : ℕ) → Same (owners.Slot s k)
  slot-same s h h' k =
      row-same (get nat_cmp old.slots s) (get nat_cmp new.slots s) k 32 (slot-count old numbered.table s h) (slot-count new numbered'.table s h') (keeps (owners.Slot s k))

  class-same : (v : ℕ) → has_class f (Virtual v) ≡ true → class_of f v ≡ class_of g v
  class-same v h = go (slice_get f.classes v) refl h
    where
      go : (q : Option (Option ClassId)) → slice_get f.classes v ≡ q → is_some (elim q as (λ q. Option ClassId) [ None ↦ None | Some c ↦ c ]) ≡ true → class_of f v ≡ class_of g v
      go None e r = absurd (cc)
      go (Some c) e r = ap (λ q. elim q as (λ q. Option ClassId) [ None ↦ None | Some c ↦ c ]) (e ∙ sym (wider v c e))

  abbrev Agree : Loc → Option IndexId → Type 0
  Agree l x = Paired (SameLane t f g (number_in old) (number_in new)) (located_lanes t f l x) (located_lanes t g l x)

  lanes-agree : (l : Loc) → has_class f l ≡ true → (x : Option IndexId) → Agree l x
  lanes-agree (Virtual v) h None =
      subst (λ q. Paired (SameLane t f g (number_in old) (number_in new)) (range_lanes t f v) (map (VirtualLane v) (numbers 0 (length (widths_of_some t q))))) (class-same v h)
      (map-paired (VirtualLane v) (VirtualLane v) (numbers 0 (length (widths_of_some t (class_of f v)))) (λ k m. range-same v h k))
  lanes-agree (Virtual v) h (Some x) = map-paired (VirtualLane v) (VirtualLane v) (lanes_of t x) (λ k m. range-same v h k)
  lanes-agree (Fixed r) h x = map-paired (λ (u : UnitNumber). UnitLane u.0) (λ (u : UnitNumber). UnitLane u.0) (units_of t r) (λ u m. unit-same u.0)

  widths-agree : (l : Loc) (x : Option IndexId) → has_class f l ≡ true → located_widths t f l x ≡ located_widths t g l x
  widths-agree (Virtual v) None h = ap (widths_of_some t) (class-same v h)
  widths-agree (Virtual v) (Some x) h = ap (λ q. map (slice_index (widths_of_some t q)) (lanes_of t x)) (class-same v h)
  widths-agree (Fixed r) x h = refl

  whole-agree : (l : Loc) → has_class f l ≡ true → Paired (SameLane t f g (number_in old) (number_in new)) (whole_lanes t f l) (whole_lanes t g l)
  whole-agree (Virtual v) h = lanes-agree (Virtual v) h None
  whole-agree (Fixed r) h = no_pairs

  operand-agrees : (o : RegOp) → has_class f o.loc ≡ true → IsAgreed t f g (number_in old) (number_in new) o
  operand-agrees o h = record { lanes = lanes-agree o.loc h; widths = widths-agree o.loc o.index h; whole = whole-agree o.loc h }

  pub does : (b : Block) (i : Instr) → Among b f.blocks → Among i b.instrs → doing_of t f (number_in old) i ≡ doing_of t g (number_in new) i
  does b i mb mi =
      let y = member-slice b f.blocks mb in
      let j = member-slice i b.instrs mi in
      doing-same t f g (number_in old) (number_in new) unit-same i (λ o m. operand-agrees o (class-there t f i (rules.shaped b i mb mi) o m))
      (λ s e. slot-same s (numbered.slots y.0 b y.1 j.0 i s j.1 e) (numbered'.slots y.0 b (ap (λ bs. slice_get bs y.0) blocks ∙ y.1) j.0 i s j.1 e))

pub does-same-law : DoesSameLaw
does-same-law t f x y rules numbered numbered' keeps b i mb mi = does t f f x.lanes y.lanes rules numbered numbered' keeps refl (λ v c e. e) b i mb mi

get-append : (cs more : List (Option ClassId)) (v : ℕ) (c : Option ClassId) → slice_get cs v ≡ Some c → slice_get (cs ++ more) v ≡ Some c
get-append [] more v c e = absurd (cc)
get-append (d ∷ cs) more zero c e = e
get-append (d ∷ cs) more (suc v) c e = get-append cs more v c e

module _ (t : Target) (f : Function) (cs : List (Option ClassId)) (x y : Table) (computed : IsComputed t f x) (rules : KeepsRules t f) (last : KeepsLast t f) (numbered : NumbersAll t (with_classes f cs) y.lanes) (further : HasFurtherLanes x y) where
  abbrev g : Function
  g = with_classes f cs

  abbrev place : ℕ → Option ℕ
  place n = place_of n f.blocks

  do-same : (b : Block) (i : Instr) → Among b f.blocks → Among i b.instrs → doing_of t f (number_in x.lanes) i ≡ doing_of t g (number_in y.lanes) i
  do-same = does t f g x.lanes y.lanes rules computed.numbers numbered further.numbers refl (get-append f.classes cs)

  codes : code_in t f x ≡ code_in t g y
  codes =
      let old = doing_of t f (number_in x.lanes) in
      let new = doing_of t g (number_in y.lanes) in
      bodies-do old new place f.blocks (entries-do old new place f.blocks do-same) 0 f.blocks do-same

  matched : AllMatched (code_in t f x)
  matched = all t f x computed rules last

  tabled : IsTableOf (code_in t g y) y.order.slots y.flow.items y.rows.rows.items
  tabled = record { entered = λ l b. ap shape (further.rows l b) ∙ z.entered l b; numbered = z.numbered; ways = z.ways; matched = z.matched; few = further.few }
    where
      z : IsTableOf (code_in t g y) y.order.slots y.flow.items x.rows.rows.items
      z =
          subst (λ c. IsTableOf c y.order.slots y.flow.items x.rows.rows.items) codes
          (subst (λ o. IsTableOf (code_in t f x) o.slots y.flow.items x.rows.rows.items) (sym further.order)
          (subst (λ w. IsTableOf (code_in t f x) x.order.slots w.items x.rows.rows.items) (sym further.flow) (computed.table matched)))

  laid : IsLaidOut t g y
  laid = record {
    numbers = numbered;
    positions = λ n. ap (λ o. get nat_cmp o.positions n) further.order ∙ computed.positions n;
    homes = subst (λ o. AreHomes f.blocks o.block_of.items) (sym further.order) computed.homes;
    ways = subst (λ w. AreWays t place f.blocks w.items) (sym further.flow) computed.ways;
    layout = ap (λ o. ids o.slots) further.order ∙ computed.layout;
    numbered = subst (λ o. IsNumbered o.slots) (sym further.order) computed.numbered;
    short = computed.short;
    few = computed.few;
    table = λ m. tabled;
  }

  computed-still : IsComputed t g y
  computed-still =
      kept-law t f g x y (λ l. false) computed matched laid (subst (AreCodes (λ l. false) (code_in t f x)) codes (same-code (code_in t f x))) (λ l b o. further.rows l b)
      (none-told (code_in t g y) y.order.slots y.rows.rows.items)

pub further-ranges-law : FurtherRangesLaw
further-ranges-law t f cs x y computed rules last numbered further = computed-still t f cs x y computed rules last numbered further

no-classes : (f : Function) → with_classes f [] ≡ f
no-classes f = λ k. record f { classes = append-nil f.classes k }

pub further-lanes-law : FurtherLanesLaw
further-lanes-law t f x y computed rules last numbered further =
    subst (λ h. IsComputed t h y) (no-classes f)
    (further-ranges-law t f [] x y computed rules last (subst (λ h. NumbersAll t h y.lanes) (sym (no-classes f)) numbered) further)

-- the numbers of an edited function, where lanes keep those that they had

slot-kept : (old new : LaneTable) → IsTable old → KeepsNumbers (number_in old) (number_in new) → (s : ℕ) → HasSlot old s → HasSlot new s
slot-kept old new table keeps s h = go (row_number_in (get nat_cmp old.slots s) 0) refl (some-row (get nat_cmp old.slots s) 0 32 (slot-count old table s h))
  where
    there : (q : Option LaneSpan) (n : ℕ) → row_number_in q 0 ≡ Some n → IsSome q
    there None n e = absurd (cc)
    there (Some x) n e = refl

    go : (q : Option ℕ) → row_number_in (get nat_cmp old.slots s) 0 ≡ q → is_some q ≡ true → HasSlot new s
    go None e g = absurd (cc)
    go (Some n) e g = there (get nat_cmp new.slots s) n (keeps (owners.Slot s 0) n e)

still-numbered : (t : Target) (f g : Function) (old new : LaneTable) → NumbersAll t f old → NumbersAll t g new → g.classes ≡ f.classes → KeepsNumbers (number_in old) (number_in new) → NumbersAll t f new
still-numbered t f g old new numbered numbered' classes keeps = record {
  table = numbered'.table;
  reserved = numbered'.reserved;
  ranges = numbered'.ranges ∙ ap (class_counts t) classes;
  slots = λ k b e j i s m h. slot-kept old new numbered.table keeps s (numbered.slots k b e j i s m h);
}

-- the table with the numbers of the edited function's is computed still
pub with-lanes : (t : Target) (f g : Function) (x : Table) (lanes : LaneTable) → IsComputed t f x → KeepsRules t f → KeepsLast t f → NumbersAll t g lanes → g.classes ≡ f.classes → KeepsNumbers (number_in x.lanes) (number_in lanes) → IsComputed t f (record x { lanes = lanes })
with-lanes t f g x lanes computed rules last numbered classes keeps =
    further-lanes-law t f x (record x { lanes = lanes }) computed rules last (still-numbered t f g x.lanes lanes computed.numbers numbered classes keeps)
    (record { numbers = keeps; rows = λ l b. refl; few = (computed.table (all t f x computed rules last)).few; order = refl; flow = refl })

pub classes-stay : (f : Function) (e : Edit) → (edited f e).classes ≡ f.classes
classes-stay f (Put gap op os) = refl
classes-stay f (Replace id op os) = refl
classes-stay f (Erase id) = refl

-- worked rows

units-kept : KeepsNumbers two_units (range_from 2)
units-kept (owners.Unit u) n e = e
units-kept (owners.Range v k) n e = absurd (cc)
units-kept (owners.Slot s k) n e = absurd (cc)

range-kept : KeepsNumbers (range_from 2) slot_behind
range-kept (owners.Unit u) n e = e
range-kept (owners.Range v k) n e = e
range-kept (owners.Slot s k) n e = absurd (cc)

other-number : (a b : ℕ) → a ≡ suc b → Some a ≡ Some b → ⊥
other-number a b e h = let x : a ≡ b = some-same a b h in omega (arith, e, x)

range-moved : KeepsNumbers (range_from 2) (range_from 3) → ⊥
range-moved h = other-number 3 2 refl (h (owners.Range 0 0) 2 refl)

pub numbers-grow : NumbersGrow
numbers-grow = (units-kept, range-kept, range-moved)
