-- The plan is made along the instructions that touch the range, by their ids.
use Rattle.std.proofs.Common.{◌≡◌, ◌∷◌, ◌++◌, ◌∙◌, ◌+◌, ◌<◌, ◌≤◌, ℕ, zero, suc, Bool, true, false, cond, List, [], Option, Some, None, filter, flat_map, length, get_or, drop, map, refl, sym, ap, subst, arith, add-one, append_assoc}
use Rattle.std.specs.Prelude.{IfOk, OnOk, Ok, Err, ◌&&◌, ◌||◌, option_map, position, slice_get, slice_index}
use Rattle.std.specs.declared.result.Result.{Result}
use Rattle.std.proofs.lemmas.Option.{same_Some}
use Rattle.std.specs.List.{list_all, list_any, position_or_len}
use Rattle.std.proofs.lemmas.List.{map-append}
use Rattle.std.proofs.lemmas.List.Elements.{filter-append}
use Rattle.target_base.specs.declared.types.Target.{Target}
use Rattle.meaning.specs.Live.{Among, here, there}
use Rattle.mir_func.specs.declared.func.Block.{Block}
use Rattle.mir_func.specs.declared.func.Gap.{Gap}
use Rattle.mir_func.specs.declared.func.Instr.{Instr}
use Rattle.mir_func.specs.Value.{Function}
use Rattle.mir_func.specs.Binding.{does, is_terminator}
use Rattle.mir_meaning.specs.Paths.{has}
use Rattle.mir_meaning.specs.Points.{touches}
use Rattle.mir_meaning.specs.Rules.{V8}
use Rattle.instr_effects.proofs.Members.{flat-of, member-elim, member-none}
use Rattle.live_edits.proofs.RunPlaces.{member-place, place-member}
use Rattle.live_lanes.specs.Ordered.{ids_of}
use Rattle.live_lanes.specs.Tells.{TellsInstrs}
use Rattle.live_lanes.specs.Touching.{AreTouched, FindsInstrs}
use Rattle.live_lanes.specs.declared.table.Table.{Table}
use Rattle.live_laws.proofs.Touch.Touched.{touched-law}
use Rattle.phi_elim.proofs.Walks.{drop_all}
use Rattle.lowering_laws.proofs.BlockRules.{ordered}
use Rattle.spiller.specs.Marks.{IsMark, Mark, all_marks, has_ended, marks_from, with_mark, with_marks}
use Rattle.spiller.specs.MaySpill.{MaySpill}
use Rattle.spiller.specs.Placing.{AreTerminators}
use Rattle.spiller.specs.Planned.{with_change}
use Rattle.spiller.specs.Setting.{Spilling}
use Rattle.spiller.specs.declared.plan.SpillView.{SpillView}
use Rattle.spiller.specs.Spilled.{change, place_name}
use Rattle.spiller.specs.Views.{Planned, block_number, gap_before, gap_behind, no_plan}
use Rattle.spiller.specs.WholePlan.{first_id, gap_at, whole_plan, with_place}
use Rattle.spiller.proofs.BlockEdits.{other-number}
use Rattle.spiller.proofs.ListSeats.{among-seat, get-seat, has-seat}
use Rattle.spiller.proofs.MarkedPlan.{blocks-marked, distinct-blocks}
use Rattle.spiller.proofs.PlaceOutcomes.{ordered-by}
use Rattle.spiller.proofs.Basics.{drop-none}
use Rattle.spiller.proofs.EndsDropped.{ends-dropped}
use Rattle.spiller.specs.Ends.{ends_of, block_ends}

abbrev pub mark_ids : List Mark → List ℕ
mark_ids ms = map (λ m. m.instr.id) ms

abbrev pub instr_ids : List Instr → List ℕ
instr_ids is = map (λ i. i.id) is

module _ (v : ℕ) where
  block-ids : (b : Block) (is : List Instr) → mark_ids (marks_from v b is) ≡ instr_ids (filter (touches v) is)
  block-ids b [] = refl
  block-ids b (i ∷ is) = go (touches v i) (block-ids b is)
    where
      go : (u : Bool) → mark_ids (marks_from v b is) ≡ instr_ids (filter (touches v) is) → mark_ids (cond u (record { block = b; instr = i; left = is } ∷ marks_from v b is) (marks_from v b is)) ≡ instr_ids (cond u (i ∷ filter (touches v) is) (filter (touches v) is))
      go true h = ap (λ ns. i.id ∷ ns) h
      go false h = h

  pub all-ids : (bs : List Block) → mark_ids (all_marks v bs) ≡ instr_ids (filter (touches v) (flat_map (λ (b : Block). b.instrs) bs))
  all-ids [] = refl
  all-ids (b ∷ bs) =
      let rest : List Instr = flat_map (λ (c : Block). c.instrs) bs in
      map-append (λ (m : Mark). m.instr.id) (marks_from v b b.instrs) (all_marks v bs)
      ∙ ((λ k. block-ids b b.instrs k ++ all-ids bs k)
      ∙ (sym (map-append (λ (i : Instr). i.id) (filter (touches v) b.instrs) (filter (touches v) rest)) ∙ ap instr_ids (sym (filter-append (touches v) b.instrs rest))))

  -- each mark stands where it says

  marked-in : (b : Block) (before is : List Instr) → b.instrs ≡ before ++ is → (m : Mark) → Among m (marks_from v b is) → (front : List Instr) × (m.block ≡ b) × (b.instrs ≡ front ++ m.instr ∷ m.left) × (touches v m.instr ≡ true)
  marked-in b before [] e m a = absurd (member-none m a)
  marked-in b before (i ∷ is) e m a = go (touches v i) refl a (marked-in b (before ++ i ∷ []) is (e ∙ sym (append_assoc before (i ∷ []) is)) m)
    where
      Found : Type 0
      Found = (front : List Instr) × (m.block ≡ b) × (b.instrs ≡ front ++ m.instr ∷ m.left) × (touches v m.instr ≡ true)

      go : (u : Bool) → touches v i ≡ u → Among m (cond u (record { block = b; instr = i; left = is } ∷ marks_from v b is) (marks_from v b is)) → (Among m (marks_from v b is) → Found) → Found
      go true k a more =
          member-elim m (record { block = b; instr = i; left = is }) (marks_from v b is)
          (λ q. (before, ap (λ (x : Mark). x.block) q, e ∙ (λ j. before ++ (sym q j).instr ∷ (sym q j).left), ap (λ (x : Mark). touches v x.instr) q ∙ k))
          more a
      go false k a more = more a

  pub marks-are : (f : Function) (m : Mark) → Among m (all_marks v f.blocks) → IsMark f v m
  marks-are f m a =
      let z = flat-of (λ (b : Block). marks_from v b b.instrs) m f.blocks a in
      let y = marked-in z.0 [] z.0.instrs refl m z.2 in
      let p = member-place z.1 in
      record {
        position = p.0;
        there = p.1 ∙ ap Some (sym y.1);
        before = y.0;
        instrs = ap (λ (b : Block). b.instrs) y.1 ∙ y.2;
        touched = y.3;
      }

-- the mark of the k-th id
pub record IsNextMark (ms : List Mark) (k id : ℕ) : Type 0 where
  pub mark : Mark
  pub member : Among mark ms
  pub named : mark.instr.id ≡ id
  pub rest : drop k ms ≡ mark ∷ drop (k + 1) ms

next-suc : (ms : List Mark) (k d : ℕ) → k < length ms → (m : Mark) × Among m ms × (m.instr.id ≡ get_or (mark_ids ms) k d) × (drop k ms ≡ m ∷ drop (suc k) ms)
next-suc [] k d h = absurd (omega (arith, h))
next-suc (m ∷ []) zero d h = (m, here, refl, refl)
next-suc (m ∷ n ∷ ms) zero d h = (m, here, refl, refl)
next-suc (m ∷ ms) (suc k) d h = let r = next-suc ms k d (omega (arith, h)) in (r.0, there r.1, r.2, r.3)

length-ids : (ms : List Mark) → length (mark_ids ms) ≡ length ms
length-ids [] = refl
length-ids (m ∷ ms) = ap suc (length-ids ms)

pub next-mark : (ms : List Mark) (ids : List ℕ) (k d : ℕ) → ids ≡ mark_ids ms → k < length ids → IsNextMark ms k (get_or ids k d)
next-mark ms ids k d e h =
    let r = next-suc ms k d (omega (arith, h, ap length e, length-ids ms)) in
    record { mark = r.0; member = r.1; named = r.2 ∙ ap (λ xs. get_or xs k d) (sym e); rest = r.3 ∙ ap (λ n. r.0 ∷ drop n ms) (sym (add-one k)) }

pub marks-ended : (ms : List Mark) (ids : List ℕ) (k : ℕ) → ids ≡ mark_ids ms → length ids ≤ k → drop k ms ≡ []
marks-ended ms ids k e h = drop_all k ms (omega (arith, h, ap length e, length-ids ms))

-- what a computed table tells

module _ (t : Target) (f : Function) (x : Table) (v : ℕ) (may : MaySpill t f x v) where
  tells : TellsInstrs f x
  tells = touched-law t f x may.computed may.lowered.rules may.last may.phis may.known

  pub finds : FindsInstrs x f.blocks
  finds = tells.finds

  pub touched-marks : (ids : List ℕ) → AreTouched x v ids → ids ≡ mark_ids (all_marks v f.blocks)
  touched-marks ids h = tells.touched v ids h ∙ sym (all-ids v f.blocks)

  pub in-order : (b : Block) → Among b f.blocks → ordered t b.instrs ≡ true
  unfolding V8
  in-order b mb = ordered-by t b.instrs (λ j i e. may.lowered.terminators b j i mb e)

  -- where a mark's instruction and its block are found

  pub mark-home : (m : Mark) → IsMark f v m → (k : ℕ) → k ≡ slice_index x.order.block_of.items m.instr.id → slice_get f.blocks k ≡ Some m.block
  mark-home m is k e =
      ap (λ n. slice_get f.blocks n) (e ∙ finds.homes is.position m.block m.instr.id is.there (subst (λ js. has m.instr.id (ids_of js) ≡ true) (sym is.instrs) (has-seat is.before m.instr m.left)))
      ∙ is.there

  pub mark-instr : (m : Mark) (is : IsMark f v m) → slice_get m.block.instrs (length is.before) ≡ Some m.instr
  mark-instr m is = ap (λ js. slice_get js (length is.before)) is.instrs ∙ get-seat is.before m.instr m.left

pub all-planned : (s : Spilling) (x : Table) → MaySpill s.target s.func x s.range → with_marks s None (all_marks s.range s.func.blocks) (no_plan s.func) ≡ whole_plan s
all-planned s x may =
    blocks-marked s None s.func.blocks (no_plan s.func) (λ b m. refl)
    (distinct-blocks s s.func.blocks (λ k b e. other-number s.func k b (may.lowered.rules.blocks k b e)))
    (in-order s.target s.func x s.range may)

pub plan-begun : (s : Spilling) (x : Table) (p : Planned) → MaySpill s.target s.func x s.range → p ≡ no_plan s.func → with_marks s None (drop 0 (all_marks s.range s.func.blocks)) p ≡ whole_plan s
plan-begun s x p may e = (λ k. with_marks s None (drop-none (all_marks s.range s.func.blocks) k) (e k)) ∙ all-planned s x may

-- the terminators of a block whose instructions are in order

module _ (t : Target) where
  abbrev ends : Instr → Bool
  ends i = does is_terminator t i

  abbrev EndsIn : List Instr → List Instr → Type 0
  EndsIn all is = (front : List Instr) × (first : Instr) × (rest : List Instr) × (is ≡ first ∷ rest) × (all ≡ front ++ is) × (list_any ends front ≡ false) × (list_all ends is ≡ true)

  ends-parts : (i : Instr) (is : List Instr) → ordered t is ≡ true → Among i is → ends i ≡ true → EndsIn is (ends_of t is)
  ends-parts i [] o m e = absurd (member-none i m)
  ends-parts i (j ∷ is) o m e = go (ends j) refl o (λ k n. ends-parts i is k n e)
    where
      go : (u : Bool) → ends j ≡ u → cond u (list_all ends is) (ordered t is) ≡ true → (ordered t is ≡ true → Among i is → EndsIn is (ends_of t is)) → EndsIn (j ∷ is) (cond u (j ∷ is) (ends_of t is))
      go true k o ih = ([], j, is, refl, refl, refl, subst (λ w. (w && list_all ends is) ≡ true) (sym k) o)
      go false k o ih =
          let z = ih o (member-elim i j is (λ q. absurd (let y : true ≡ false = sym e ∙ (ap ends q ∙ k) in cc)) (λ n. n) m) in
          (j ∷ z.0, z.1, z.2, z.3, ap (λ js. j ∷ js) z.4, subst (λ w. (w || list_any ends z.0) ≡ false) (sym k) z.5, z.6)

  pub ends-known : (b : Block) (i : Instr) → ordered t b.instrs ≡ true → Among i b.instrs → ends i ≡ true → AreTerminators t b (ends_of t b.instrs)
  ends-known b i o m e = let z = ends-parts i b.instrs o m e in record { front = z.0; first = z.1; rest = z.2; is_some = z.3; parts = z.4; plain = z.5; all = z.6 }

-- the gaps of a place

abbrev gap_of : Block → Option ℕ → Gap
gap_of b q = record { block = b.number; before = q }

behind-suc : (before : List Instr) (i : Instr) (left : List Instr) → option_map (λ (k : Instr). k.id) (slice_get (before ++ i ∷ left) (suc (length before))) ≡ first_id left
behind-suc [] i [] = refl
behind-suc [] i (j ∷ left) = refl
behind-suc (z ∷ before) i left = behind-suc before i left

gap-left : (b : Block) (before : List Instr) (i : Instr) (left : List Instr) → b.instrs ≡ before ++ i ∷ left → gap_behind b (slice_get b.instrs (length before + 1)) ≡ gap_at b left
gap-left b before i left e =
    ap (gap_of b) (ap (λ n. option_map (λ (k : Instr). k.id) (slice_get b.instrs n)) (add-one (length before)) ∙ (ap (λ js. option_map (λ (k : Instr). k.id) (slice_get js (suc (length before)))) e ∙ behind-suc before i left))

number-of : (view : SpillView) (p : ℕ) (b : Block) (before : List Instr) (i : Instr) (left : List Instr) → FindsInstrs view.live.now.table view.live.now.func.blocks → slice_get view.live.now.func.blocks p ≡ Some b → b.instrs ≡ before ++ i ∷ left → block_number view i.id ≡ b.number
number-of view p b before i left found stands parts =
    ap (λ q. elim q as (λ q. ℕ) [ None ↦ 0 | Some c ↦ c.number ])
    (ap (λ n. slice_get view.live.now.func.blocks n) (found.homes p b i.id stands (subst (λ js. has i.id (ids_of js) ≡ true) (sym parts) (has-seat before i left))) ∙ stands)

gap-first : (view : SpillView) (p : ℕ) (b : Block) (before : List Instr) (i : Instr) (left : List Instr) → FindsInstrs view.live.now.table view.live.now.func.blocks → slice_get view.live.now.func.blocks p ≡ Some b → b.instrs ≡ before ++ i ∷ left → gap_before view i.id ≡ gap_at b (i ∷ left)
gap-first view p b before i left found stands parts = ap {B = Gap} (λ n. record { block = n; before = Some i.id }) (number-of view p b before i left found stands parts)

-- what is planned for a mark

pub ok-then : {T E : Type 0} (r : Result T E) (P Q : Type 0) → (P → Q) → OnOk r P → OnOk r Q
ok-then (Ok x) P Q f p = f p
ok-then (Err e) P Q f p = tt

pub if-then : {T E : Type 0} (r : Result T E) (P Q : T → Type 0) → ((x : T) → P x → Q x) → IfOk r P → IfOk r Q
if-then (Ok x) P Q f p = f x p
if-then (Err e) P Q f p = tt

module _ (view : SpillView) (m : Mark) (may : MaySpill view.target.now view.live.now.func view.live.now.table view.v) (is : IsMark view.live.now.func view.v m) (id : ℕ) (same : m.instr.id ≡ id) where
  abbrev x : Table
  x = view.live.now.table

  abbrev bs : List Block
  bs = view.live.now.func.blocks

  at-home : slice_get bs (slice_index x.order.block_of.items id) ≡ Some m.block
  at-home = mark-home view.target.now view.live.now.func x view.v may m is (slice_index x.order.block_of.items id) (ap (λ n. slice_index x.order.block_of.items n) (sym same))

  pub number-is : block_number view id ≡ m.block.number
  number-is = ap (λ q. elim q as (λ q. ℕ) [ None ↦ 0 | Some b ↦ b.number ]) at-home

  pub ends-are : block_ends view id ≡ ends_of view.target.now m.block.instrs
  ends-are =
      ap (λ q. elim q as (λ q. List Instr) [ None ↦ [] | Some b ↦ drop (position_or_len (does is_terminator view.target.now) b.instrs) b.instrs ]) at-home
      ∙ ends-dropped view.target.now m.block.instrs

  -- the terminators of the block
  pub ends-met : (js : List Instr) → js ≡ block_ends view id → does is_terminator view.target.now m.instr ≡ true → AreTerminators view.target.now m.block js
  ends-met js e ends = subst (λ ks. AreTerminators view.target.now m.block ks) (sym (e ∙ ends-are))
      (ends-known view.target.now m.block m.instr (in-order view.target.now view.live.now.func x view.v may m.block (place-member bs is.position m.block is.there)) (subst (λ js. Among m.instr js) (sym is.instrs) (among-seat is.before m.instr m.left)) ends)

  pub ends-planned : (s : Spilling) (js : List Instr) (old new : Planned) → js ≡ block_ends view id → AreTerminators view.target.now m.block js
      → new ≡ with_change s (gap_before view (place_name js)) (gap_behind m.block None) js (change s old.next_id old.next_range js) old → new ≡ with_place s m.block (ends_of view.target.now m.block.instrs) [] old
  ends-planned s js old new e a h =
      h ∙ (ap (λ g. with_change s g (gap_at m.block []) js (change s old.next_id old.next_range js) old) gap ∙ ap (λ ks. with_place s m.block ks [] old) (e ∙ ends-are))
    where
      parts : m.block.instrs ≡ a.front ++ a.first ∷ a.rest
      parts = a.parts ∙ ap (λ ks. a.front ++ ks) a.is_some

      gap : gap_before view (place_name js) ≡ gap_at m.block (js ++ [])
      gap = subst (λ ks. gap_before view (place_name ks) ≡ gap_at m.block (ks ++ [])) (sym a.is_some) (gap-first view is.position m.block a.front a.first a.rest (finds view.target.now view.live.now.func x view.v may) is.there parts)

  -- the instruction that is found is the mark's
  pub found-is : {i : Instr} → (FindsInstrs x bs → (p j : ℕ) (b : Block) (k : Instr) → slice_get bs p ≡ Some b → slice_get b.instrs j ≡ Some k → k.id ≡ id → Some i ≡ Some k) → i ≡ m.instr
  found-is {i} h = same_Some i m.instr (h (finds view.target.now view.live.now.func x view.v may) is.position (length is.before) m.block m.instr is.there (mark-instr view.target.now view.live.now.func x view.v may m is) same)

  pub found-some : (FindsInstrs x bs → (p j : ℕ) (b : Block) (k : Instr) → slice_get bs p ≡ Some b → slice_get b.instrs j ≡ Some k → k.id ≡ id → ◌≡◌ {A = Option Instr} None (Some k)) → ⊥
  found-some h = let z = h (finds view.target.now view.live.now.func x view.v may) is.position (length is.before) m.block m.instr is.there (mark-instr view.target.now view.live.now.func x view.v may m is) same in cc

  -- what is planned for one that isn't a terminator
  pub single-planned : (s : Spilling) (ended : Option ℕ) (i : Instr) (old new : Planned) → s.target ≡ view.target.now → i ≡ m.instr → does is_terminator view.target.now i ≡ false
      → ((p j : ℕ) → slice_get bs p ≡ Some m.block → slice_get m.block.instrs j ≡ Some i → touches view.v i ≡ true
      → new ≡ with_change s (gap_before view i.id) (gap_behind m.block (slice_get m.block.instrs (j + 1))) (i ∷ []) (change s old.next_id old.next_range (i ∷ [])) old)
      → new ≡ with_mark s ended m old
  single-planned s ended i old new t q e h =
      let ends : does is_terminator view.target.now m.instr ≡ false = ap (does is_terminator view.target.now) (sym q) ∙ e in
      let place : new ≡ with_change s (gap_before view m.instr.id) (gap_behind m.block (slice_get m.block.instrs (length is.before + 1))) (m.instr ∷ []) (change s old.next_id old.next_range (m.instr ∷ [])) old =
      subst (λ k. new ≡ with_change s (gap_before view k.id) (gap_behind m.block (slice_get m.block.instrs (length is.before + 1))) (k ∷ []) (change s old.next_id old.next_range (k ∷ [])) old) q
      (h is.position (length is.before) is.there (mark-instr view.target.now view.live.now.func x view.v may m is ∙ ap Some (sym q)) (subst (λ k. touches view.v k ≡ true) (sym q) is.touched)) in
      let before = gap-first view is.position m.block is.before m.instr m.left (finds view.target.now view.live.now.func x view.v may) is.there is.instrs in
      let behind = gap-left m.block is.before m.instr m.left is.instrs in
      (place ∙ (λ k. with_change s (before k) (behind k) (m.instr ∷ []) (change s old.next_id old.next_range (m.instr ∷ [])) old))
      ∙ ap (λ u. cond u (cond (has_ended ended m.block) old (with_place s m.block (ends_of s.target m.block.instrs) [] old)) (with_place s m.block (m.instr ∷ []) m.left old)) (sym (ap (λ w. does is_terminator w m.instr) t ∙ ends))
