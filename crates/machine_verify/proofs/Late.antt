-- What the marks of a computed table decide where no other rule fails: V13 of each block, V14, and the first fault.
use Rattle.std.proofs.Common.{◌≡◌, ◌⊎◌, ◌∙◌, ◌+◌, ◌<◌, ◌≤◌, ℕ, zero, suc, Bool, true, false, cond, List, [], ◌∷◌, Option, Some, None, refl, sym, ap, subst, arith, length, map, take, inl, inr}
use mathlib.Core.Path.{fun_ext}
use Rattle.std.specs.Prelude.{◌↔◌, ◌&&◌, ◌||◌, Decides, not, nat_lt, slice_get}
use Rattle.std.specs.List.{list_any}
use Rattle.std.specs.Ordering.{nat_cmp}
use Rattle.std.specs.BTreeMap.{get}
use Rattle.std.proofs.lemmas.Bool.{ltb-true, cases_lt}
use Rattle.std.proofs.lemmas.Bool.Decides.{nat_tests}
use Rattle.std.proofs.lemmas.Option.{slice_get_within}
use Rattle.target_base.specs.declared.types.ClassId.{ClassId}
use Rattle.target_base.specs.declared.types.Target.{Target}
use Rattle.target_base.specs.Registers.{widths_of_some, is_reserved_unit}
use Rattle.target_base.specs.Rules.{regs_of_some}
use Rattle.target_base.specs.Storage.{class_units, unit_width}
use Rattle.meaning.specs.declared.types.Lane.{Lane}
use Rattle.meaning.specs.declared.types.Lane.TheVariants.{VirtualLane, UnitLane}
use Rattle.meaning.specs.Live.{is_slot}
use Rattle.mir_func.specs.declared.func.Block.{Block}
use Rattle.mir_func.specs.Value.{Function}
use Rattle.mir_meaning.specs.declared.Form.{Form}
use Rattle.mir_meaning.specs.declared.Form.TheVariants as forms
use Rattle.mir_func.specs.Binding.{class_of}
use Rattle.mir_meaning.specs.Points.{Start, LiveAt}
use Rattle.mir_meaning.specs.Registers.{numbers}
use Rattle.mir_meaning.specs.Valid.{Fault, IsValid, LiveFault, LiveInto, V13, V13_before, V14, fault_at, first, later, liveins_fit, names_virtual, shape_fault, start}
use Rattle.instr_effects.specs.declared.row.LaneSpan.{LaneSpan}
use Rattle.instr_effects.specs.Numbered.{number_in, counts}
use Rattle.instr_effects.specs.Numbers.{row_number_in}
use Rattle.instr_effects.specs.Stepping.{tag_of}
use Rattle.instr_effects.proofs.Tables.{slice-numbers}
use Rattle.live_laws.specs.Effects.Shaped.{is_proper}
use Rattle.live_laws.proofs.Effects.Lists.{any-in}
use Rattle.live_laws.proofs.Effects.Shapes.{numbers-in}
use Rattle.live_laws.proofs.Effects.Valid.{valid-law, ends}
use Rattle.live_lanes.specs.declared.table.Table.{Table}
use Rattle.live_lanes.specs.Doing.{IsComputed}
use Rattle.live_lanes.specs.Marks.{marked_at}
use Rattle.live_laws.proofs.Exact.Computed.{computed-law}
use Rattle.machine_verify.specs.Liveins.{is_set}
use Rattle.machine_verify.specs.Lives.{FitsTarget, unit_lives, lane_lives, flags_of, lane_count, register_lives, some_register_lives, block_fits, starts_fit, later_fault, first_late}

same_answer : {P : Type 0} (r s : Bool) → Decides r P → Decides s P → r ≡ s
same_answer true s h k = sym (k.1 (h.0 refl))
same_answer false true h k = h.1 (k.0 refl)
same_answer false false h k = refl

same_some : {X : Type 0} (x y : X) → Some x ≡ Some y → x ≡ y
same_some x y e = cc

not_some : {X P : Type 0} (x : X) → None ≡ Some x → P
not_some x e = absurd (cc)

both_ways : {P : Type 0} (b : Bool) → b ≡ true → b ≡ false → P
both_ways b e g = absurd (let h : true ≡ false = sym e ∙ g in cc)

-- a list of what numbers give is as long
long : {X : Type 0} (g : ℕ → X) (n k : ℕ) → length (map g (numbers n k)) ≡ k
long g n zero = refl
long g n (suc k) = ap (λ m. suc m) (long g (suc n) k)

past_end : {X : Type 0} (xs : List X) (k : ℕ) → length xs ≤ k → slice_get xs k ≡ None
past_end [] k h = refl
past_end (x ∷ xs) zero h = absurd (omega arith)
past_end (x ∷ xs) (suc k) h = past_end xs k (omega arith)

of_mapped : {X Y : Type 0} (g : X → Y) (xs : List X) (k : ℕ) (y : Y) → slice_get (map g xs) k ≡ Some y → (x : X) × (slice_get xs k ≡ Some x) × (g x ≡ y)
of_mapped g [] k y e = not_some y e
of_mapped g (x ∷ xs) zero y e = (x, refl, same_some (g x) y e)
of_mapped g (x ∷ xs) (suc k) y e = of_mapped g xs k y e

in_mapped : {X Y : Type 0} (g : X → Y) (xs : List X) (k : ℕ) (x : X) → slice_get xs k ≡ Some x → slice_get (map g xs) k ≡ Some (g x)
in_mapped g [] k x e = not_some x e
in_mapped g (y ∷ xs) zero x e = ap (λ z. Some (g z)) (same_some y x e)
in_mapped g (y ∷ xs) (suc k) x e = in_mapped g xs k x e

-- one of the first n
of_taken : {X : Type 0} (n : ℕ) (xs : List X) (k : ℕ) (x : X) → slice_get (take n xs) k ≡ Some x → (k < n) × (slice_get xs k ≡ Some x)
of_taken zero [] k x e = not_some x e
of_taken zero (y ∷ xs) k x e = not_some x e
of_taken (suc n) [] k x e = not_some x e
of_taken (suc n) (y ∷ xs) zero x e = (omega arith, e)
of_taken (suc n) (y ∷ xs) (suc k) x e = let z = of_taken n xs k x e in (let h = z.0 in omega arith, z.1)

of_any : {X : Type 0} (p : X → Bool) (xs : List X) → list_any p xs ≡ true → (x : X) × (p x ≡ true)
of_any p [] e = absurd (cc)
of_any {X = X} p (x ∷ xs) e = go (p x) refl e (λ h. of_any p xs h)
  where
    go : (b : Bool) → p x ≡ b → (b || list_any p xs) ≡ true → (list_any p xs ≡ true → (y : X) × (p y ≡ true)) → (y : X) × (p y ≡ true)
    go true g h ih = (x, g)
    go false g h ih = ih h

as_long : {X Y : Type 0} (g : X → Y) (xs : List X) → length (map g xs) ≡ length xs
as_long g [] = refl
as_long g (x ∷ xs) = ap (λ n. suc n) (as_long g xs)

count_is : (t : Target) (q : Option ClassId) → length (class_units t.regs (regs_of_some t.classes q)) ≡ length (widths_of_some t q)
count_is t None = refl
count_is t (Some c) = sym (as_long (unit_width t.units) (class_units t.regs (regs_of_some t.classes (Some c))))

module _ (t : Target) (form : Form) (f : Function) (x : Table) (computed : IsComputed t f x) (fits : FitsTarget t f) (clean : shape_fault t form f ≡ None) where
  law : (l : Lane) → is_slot l ≡ false → (k : ℕ) (b : Block) → slice_get f.blocks k ≡ Some b → (marked_at x.rows.rows.items (tag_of (number_in x.lanes) (is_proper t) l) (get nat_cmp x.order.positions b.number) ≡ true) ↔ LiveAt t f (Start b.number) l
  law = computed-law t f x computed (valid-law t form f clean fits.classes) (ends t form f clean)

  -- units

  beyond : (n u : ℕ) → length t.units ≤ u → unit_lives x n u ≡ false
  beyond n u h =
      let e : length x.lanes.reserved.items ≡ length t.units = ap length computed.numbers.reserved ∙ long (is_reserved_unit t) 0 (length t.units) in
      let g : slice_get x.lanes.reserved.items u ≡ None = past_end x.lanes.reserved.items u (omega (arith, e, h)) in
      ap (λ (q : Option Bool). marked_at x.rows.rows.items (elim q [ None ↦ None | Some b ↦ cond b None (Some u) ]) (get nat_cmp x.order.positions n)) g

  flag_is : (n u : ℕ) → is_set (flags_of t x n) u ≡ unit_lives x n u
  flag_is n u = go (cases_lt u (length t.units))
    where
      flag : Option Bool → Bool
      flag q = elim q [ None ↦ false | Some set ↦ set ]

      go : (u < length t.units) ⊎ (length t.units ≤ u) → is_set (flags_of t x n) u ≡ unit_lives x n u
      go (inl h) = let e : 0 + u ≡ u = omega arith in ap flag (slice-numbers (unit_lives x n) 0 (length t.units) u h) ∙ ap (unit_lives x n) e
      go (inr h) = let l = long (unit_lives x n) 0 (length t.units) in ap flag (past_end (flags_of t x n) u (omega (arith, h, l))) ∙ sym (beyond n u h)

  tests : (k : ℕ) (b : Block) → slice_get f.blocks k ≡ Some b → LiveInto t f b.number (is_set (flags_of t x b.number))
  tests k b e u = let w = law (UnitLane u) refl k b e in ((λ h. w.0 (sym (flag_is b.number u) ∙ h)), (λ h. flag_is b.number u ∙ w.1 h))

  fits_decide : (k : ℕ) (b : Block) → slice_get f.blocks k ≡ Some b → Decides (block_fits t form x k b) (V13 t form f k b)
  fits_decide k b e = ((λ h. (is_set (flags_of t x b.number), tests k b e, h)), back)
    where
      back : V13 t form f k b → block_fits t form x k b ≡ true
      back v =
          let same : is_set (flags_of t x b.number) ≡ v.0 = fun_ext (λ u. same_answer (is_set (flags_of t x b.number) u) (v.0 u) (tests k b e u) (v.1 u)) in
          ap (liveins_fit t form k b) same ∙ v.2

  -- lanes of virtual registers

  -- a lane that is marked is asked
  asked : (n v k : ℕ) → lane_lives x n v k ≡ true → some_register_lives t f x n ≡ true
  asked n v k m = go (slice_get x.lanes.ranges.items v) refl m
    where
      marked : Option ℕ → Bool
      marked q = marked_at x.rows.rows.items q (get nat_cmp x.order.positions n)

      there : (w : LaneSpan) → slice_get x.lanes.ranges.items v ≡ Some w → k < w.count → some_register_lives t f x n ≡ true
      there w e h =
          let a : slice_get (counts x.lanes.ranges.items) v ≡ Some w.count = in_mapped (λ (y : LaneSpan). y.count) x.lanes.ranges.items v w e in
          let z = of_mapped (λ (c : Option ClassId). length (widths_of_some t c)) f.classes v w.count (ap (λ ns. slice_get ns v) (sym computed.numbers.ranges) ∙ a) in
          let q : class_of f v ≡ z.0 = ap (λ (o : Option (Option ClassId)). elim o [ None ↦ None | Some c ↦ c ]) z.1 in
          let long_enough : lane_count t f v ≡ w.count = ap (λ c. length (class_units t.regs (regs_of_some t.classes c))) q ∙ count_is t z.0 ∙ z.2 in
          let within : v < length f.classes = slice_get_within f.classes v z.0 z.1 in
          let few = fits.few in
          let small : nat_lt v 4294967296 ≡ true = grind (arith, nat_tests) in
          let lane : list_any (lane_lives x n v) (numbers 0 (lane_count t f v)) ≡ true = any-in (lane_lives x n v) k (numbers 0 (lane_count t f v)) (numbers-in k 0 (lane_count t f v) (omega arith) (omega (arith, h, long_enough))) m in
          any-in (register_lives t f x n) v (numbers 0 (length f.classes)) (numbers-in v 0 (length f.classes) (omega arith) (omega (arith, within))) (ap (λ b. b && list_any (lane_lives x n v) (numbers 0 (lane_count t f v))) small ∙ lane)

      by : (w : LaneSpan) (b : Bool) → slice_get x.lanes.ranges.items v ≡ Some w → nat_lt k w.count ≡ b → marked (cond b (Some (w.first + k)) None) ≡ true → some_register_lives t f x n ≡ true
      by w true e g h = there w e (ltb-true k w.count g)
      by w false e g h = absurd (cc)

      go : (q : Option LaneSpan) → slice_get x.lanes.ranges.items v ≡ q → marked (row_number_in q k) ≡ true → some_register_lives t f x n ≡ true
      go None e h = absurd (cc)
      go (Some w) e h = by w (nat_lt k w.count) e refl h

  -- a lane that is asked and marked
  found : (n : ℕ) → some_register_lives t f x n ≡ true → (v : ℕ) × (k : ℕ) × (lane_lives x n v k ≡ true)
  found n e =
      let z = of_any (register_lives t f x n) (numbers 0 (length f.classes)) e in
      let y = of_any (lane_lives x n z.0) (numbers 0 (lane_count t f z.0)) (second (nat_lt z.0 4294967296) (list_any (lane_lives x n z.0) (numbers 0 (lane_count t f z.0))) z.1) in
      (z.0, y.0, y.1)
    where
      second : (a b : Bool) → (a && b) ≡ true → b ≡ true
      second true b h = h
      second false b h = absurd (cc)

  starts_decide : (b : Block) → slice_get f.blocks 0 ≡ Some b → (g : Form) → Decides (starts_fit t g f x b.number) (V14 t g f)
  starts_decide b e forms.Source = (forth, λ v. back v (some_register_lives t f x b.number) refl)
    where
      forth : not (some_register_lives t f x b.number) ≡ true → V14 t forms.Source f
      forth h c g v k m =
          let same : c ≡ b = same_some c b (sym g ∙ e) in
          let mark : lane_lives x c.number v k ≡ true = (law (VirtualLane v k) refl 0 c g).1 m in
          let some : some_register_lives t f x b.number ≡ true = asked b.number v k (subst (λ (d : Block). lane_lives x d.number v k ≡ true) same mark) in
          let no : not true ≡ true = ap not (sym some) ∙ h in
          cc

      back : V14 t forms.Source f → (s : Bool) → some_register_lives t f x b.number ≡ s → not s ≡ true
      back v false h = refl
      back v true h = let z = found b.number h in absurd (v b e z.0 z.1 ((law (VirtualLane z.0 z.1) refl 0 b e).0 z.2))
  starts_decide b e forms.Allocated = none (list_any names_virtual f.blocks)
    where
      none : (a : Bool) → Decides (not a) (a ≡ false)
      none true = ((λ h. absurd (cc)), (λ h. absurd (cc)))
      none false = ((λ h. refl), (λ h. refl))

  -- the blocks so far

  abbrev Passed : ℕ → Type 0
  Passed n = (j : ℕ) (b : Block) → j < n → slice_get f.blocks j ≡ Some b → V13 t form f j b

  -- these blocks stand from position k on
  abbrev From : ℕ → List Block → Type 0
  From k bs = (j : ℕ) → slice_get bs j ≡ slice_get f.blocks (k + j)

  before : (n : ℕ) → Passed n → V13_before t form f n
  before n h j b e = let z = of_taken n f.blocks j b e in h j b z.0 z.1

  head_at : (k : ℕ) (b : Block) (bs : List Block) → From k (b ∷ bs) → slice_get f.blocks k ≡ Some b
  head_at k b bs from = let z : k ≡ k + 0 = omega arith in ap (slice_get f.blocks) z ∙ sym (from 0)

  tail_from : (k : ℕ) (b : Block) (bs : List Block) → From k (b ∷ bs) → From (suc k) bs
  tail_from k b bs from j = let z : k + suc j ≡ suc k + j = omega arith in from (suc j) ∙ ap (slice_get f.blocks) z

  one_more : (k : ℕ) (b : Block) → slice_get f.blocks k ≡ Some b → Passed k → V13 t form f k b → Passed (suc k)
  one_more k b e passed here j c h g = go (cases_lt j k)
    where
      go : (j < k) ⊎ (k ≤ j) → V13 t form f j c
      go (inl l) = passed j c l g
      go (inr l) =
          let same : k ≡ j = omega (arith, h, l) in
          let alike : b ≡ c = same_some b c (sym e ∙ (ap (slice_get f.blocks) same ∙ g)) in
          subst (λ m. V13 t form f m c) same (subst (λ d. V13 t form f k d) alike here)

  none_yet : Passed 0
  none_yet j b h e = absurd (omega (arith, h))

  -- V13 of later blocks

  later_none : (k : ℕ) (bs : List Block) → From k bs → Passed k → later_fault t form x k bs ≡ None → Passed (k + length bs)
  later_none k [] from passed h = λ j c l g. passed j c (omega (arith, l)) g
  later_none k (b ∷ bs) from passed h = by (block_fits t form x k b) refl h (λ more g. later_none (suc k) bs (tail_from k b bs from) more g)
    where
      at : slice_get f.blocks k ≡ Some b
      at = head_at k b bs from

      by : (v : Bool) → block_fits t form x k b ≡ v → cond v (later_fault t form x (suc k) bs) (Some (fault_at b 0 13)) ≡ None → (Passed (suc k) → later_fault t form x (suc k) bs ≡ None → Passed (suc k + length bs)) → Passed (k + length (b ∷ bs))
      by true e g ih = λ j c l i. ih (one_more k b at passed ((fits_decide k b at).0 e)) g j c (omega (arith, l)) i
      by false e g ih = not_some (fault_at b 0 13) (sym g)

  later_some : (k : ℕ) (bs : List Block) (y : Fault) → From (suc k) bs → Passed (suc k) → V14 t form f → later_fault t form x (suc k) bs ≡ Some y → LiveFault t form f y
  later_some k [] y from passed w h = not_some y h
  later_some k (b ∷ bs) y from passed w h = by (block_fits t form x (suc k) b) refl h (λ more g. later_some (suc k) bs y (tail_from (suc k) b bs from) more w g)
    where
      at : slice_get f.blocks (suc k) ≡ Some b
      at = head_at (suc k) b bs from

      by : (v : Bool) → block_fits t form x (suc k) b ≡ v → cond v (later_fault t form x (suc (suc k)) bs) (Some (fault_at b 0 13)) ≡ Some y → (Passed (suc (suc k)) → later_fault t form x (suc (suc k)) bs ≡ Some y → LiveFault t form f y) → LiveFault t form f y
      by true e g ih = ih (one_more (suc k) b at passed ((fits_decide (suc k) b at).0 e)) g
      by false e g ih = subst (LiveFault t form f) (same_some (fault_at b 0 13) y g) (later k b at (before (suc k) passed) w (λ v. both_ways (block_fits t form x (suc k) b) ((fits_decide (suc k) b at).1 v) e))

  -- the first block, V14, and the later blocks

  all_from : (bs : List Block) → f.blocks ≡ bs → From 0 bs
  all_from bs e j = let z : j ≡ 0 + j = omega arith in sym (ap (λ cs. slice_get cs j) e) ∙ ap (slice_get f.blocks) z

  abbrev by_values : Block → List Block → Bool → Bool → Option Fault
  by_values b bs v w = cond v (cond w (later_fault t form x 1 bs) (Some (fault_at b 0 14))) (Some (fault_at b 0 13))

  late_none : (bs : List Block) → f.blocks ≡ bs → first_late t form f x bs ≡ None → V13_before t form f (length f.blocks) × V14 t form f
  late_none [] e h = ((λ j b g. not_some b (sym (ap (λ bs. slice_get bs j) e) ∙ (of_taken (length f.blocks) f.blocks j b g).1)), no_start form)
    where
      no_start : (g : Form) → V14 t g f
      no_start forms.Source = λ b g v k m. not_some b (sym (ap (λ bs. slice_get bs 0) e) ∙ g)
      no_start forms.Allocated = ap (list_any names_virtual) e
  late_none (b ∷ bs) e h = by (block_fits t form x 0 b) (starts_fit t form f x b.number) refl refl h
    where
      from : From 0 (b ∷ bs)
      from = all_from (b ∷ bs) e

      at : slice_get f.blocks 0 ≡ Some b
      at = head_at 0 b bs from

      by : (v w : Bool) → block_fits t form x 0 b ≡ v → starts_fit t form f x b.number ≡ w → by_values b bs v w ≡ None → V13_before t form f (length f.blocks) × V14 t form f
      by true true g i k =
          let all = later_none 1 bs (tail_from 0 b bs from) (one_more 0 b at none_yet ((fits_decide 0 b at).0 g)) k in
          let l : length f.blocks ≡ length (b ∷ bs) = ap length e in
          (before (length f.blocks) (λ j c n m. all j c (omega (arith, n, l)) m), (starts_decide b at form).0 i)
      by true false g i k = not_some (fault_at b 0 14) (sym k)
      by false w g i k = not_some (fault_at b 0 13) (sym k)

  late_some : (bs : List Block) (y : Fault) → f.blocks ≡ bs → first_late t form f x bs ≡ Some y → LiveFault t form f y
  late_some [] y e h = not_some y h
  late_some (b ∷ bs) y e h = by (block_fits t form x 0 b) (starts_fit t form f x b.number) refl refl h
    where
      from : From 0 (b ∷ bs)
      from = all_from (b ∷ bs) e

      at : slice_get f.blocks 0 ≡ Some b
      at = head_at 0 b bs from

      by : (v w : Bool) → block_fits t form x 0 b ≡ v → starts_fit t form f x b.number ≡ w → by_values b bs v w ≡ Some y → LiveFault t form f y
      by true true g i k = later_some 0 bs y (tail_from 0 b bs from) (one_more 0 b at none_yet ((fits_decide 0 b at).0 g)) ((starts_decide b at form).0 i) k
      by true false g i k = subst (LiveFault t form f) (same_some (fault_at b 0 14) y k) (start b at ((fits_decide 0 b at).0 g) (λ v. both_ways (starts_fit t form f x b.number) ((starts_decide b at form).1 v) i))
      by false w g i k = subst (LiveFault t form f) (same_some (fault_at b 0 13) y k) (first b at (λ v. both_ways (block_fits t form x 0 b) ((fits_decide 0 b at).1 v) g))

  pub valid_where_none : first_late t form f x f.blocks ≡ None → IsValid t form f
  valid_where_none h = let z = late_none f.blocks refl h in record { shape = clean; liveins = z.0; starts = z.1 }

  pub fault_where_some : (y : Fault) → first_late t form f x f.blocks ≡ Some y → LiveFault t form f y
  fault_where_some y h = late_some f.blocks y refl h
