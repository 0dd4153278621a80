-- The points that a range would take, piece by piece, and what is in its way there.
use Rattle.std.proofs.Common.{◌≡◌, ◌<◌, ◌≤◌, ◌⊎◌, ℕ, zero, suc, ◌+◌, ◌-◌, Bool, true, false, ◌&&◌, length, map, drop, get_or, List, [], ◌∷◌, ◌++◌, Option, None, Some, inl, inr, refl, sym, ap, ◌∙◌, subst, arith}
use Rattle.std.specs.Prelude.{◌||◌, not, nat_eq, nat_le, flat_map, slice_get, option_map, is_some, MatchOption}
use Rattle.std.specs.List.{list_any, filter_map, cons_option}
use Rattle.std.proofs.lemmas.Bool.{eqb-true, eq-eqb, le-leb, cases_lt}
use Rattle.std.proofs.lemmas.List.{drop_more, get_or_default}
use Rattle.std.proofs.lemmas.List.Folds.{list_any-append}
use Rattle.target_base.specs.declared.types.Reg.{Reg}
use Rattle.target_base.specs.declared.types.Unit.{Unit as UnitNumber}
use Rattle.mir_meaning.specs.Registers.{numbers}
use Rattle.instr_effects.specs.Numbered.{number_in}
use Rattle.instr_effects.specs.declared.owner.Owner.TheVariants as owners
use Rattle.live_lanes.specs.declared.ask.extent.Extent.{Extent}
use Rattle.live_lanes.specs.declared.ask.extent.Stretch.{Stretch}
use Rattle.live_lanes.specs.declared.row.Cell.{Cell}
use Rattle.live_lanes.specs.declared.table.Table.{Table}
use Rattle.live_lanes.specs.Table.{Numbers}
use Rattle.live_lanes.specs.Entered.{piece_count}
use Rattle.live_lanes.specs.Extents.{cell_extents, extent_in, stretch_of}
use Rattle.live_lanes.proofs.Cells.{both, both-left, both-right}
use Rattle.live_lanes.proofs.Held.{or-left, or-right}
use Rattle.live_lanes.proofs.Extents.{any-in}
use Rattle.interference.specs.declared.held.RangeExtent.{RangeExtent}
use Rattle.interference.specs.declared.held.HeldList.{HeldList}
use Rattle.interference.specs.declared.matrix.Matrix.{Matrix}
use Rattle.interference.specs.Clashes.{Points, IsOrdered, AreApart, AreFilled, AreKnown, held_of, held_of_some, list_in, holds, touches, is_taken, is_taken_by, cell_points, some_cell_points, lane_points, range_points, points_in, is_fixed_at, is_held_at, is_taken_at, are_taken, is_fixed, is_in_way, ranges_of, is_free}

drop_none : {X : Type 0} (k : ℕ) (xs : List X) → length xs ≤ k → drop k xs ≡ []
drop_none zero [] h = refl
drop_none (suc k) [] h = refl
drop_none zero (x ∷ xs) h = absurd (omega arith)
drop_none (suc k) (x ∷ xs) h = drop_none k xs (omega arith)

abbrev pub point_of : Numbers → ℕ → ℕ → Extent → Points
point_of slots u b e = record { unit = u; block = b; at = stretch_of slots e }

-- those of the pieces of a cell from one on
abbrev pub pieces_from : Numbers → ℕ → Option Cell → ℕ → List Points
pieces_from slots u None i = []
pieces_from slots u (Some c) i = map (point_of slots u c.block) (filter_map (extent_in (Some c)) (numbers i (piece_count (Some c) - i)))

pub pieces-all : (slots : Numbers) (u : ℕ) (o : Option Cell) → pieces_from slots u o 0 ≡ some_cell_points slots u o
pieces-all slots u None = refl
pieces-all slots u (Some c) = let e : piece_count (Some c) - 0 ≡ piece_count (Some c) = omega arith in ap (λ n. map (point_of slots u c.block) (filter_map (extent_in (Some c)) (numbers 0 n))) e

pub pieces-end : (slots : Numbers) (u : ℕ) (o : Option Cell) (i : ℕ) → piece_count o ≤ i → pieces_from slots u o i ≡ []
pieces-end slots u None i h = refl
pieces-end slots u (Some c) i h = let e : piece_count (Some c) - i ≡ 0 = omega arith in ap (λ n. map (point_of slots u c.block) (filter_map (extent_in (Some c)) (numbers i n))) e

pieces-step : (slots : Numbers) (u : ℕ) (c : Cell) (i : ℕ) → i < piece_count (Some c) → pieces_from slots u (Some c) i ≡ map (point_of slots u c.block) (cons_option (extent_in (Some c) i) (filter_map (extent_in (Some c)) (numbers (i + 1) (piece_count (Some c) - (i + 1)))))
pieces-step slots u c i h =
    let e : piece_count (Some c) - i ≡ suc (piece_count (Some c) - (i + 1)) = omega arith in
    let f : suc i ≡ i + 1 = omega arith in
    ap (λ n. map (point_of slots u c.block) (filter_map (extent_in (Some c)) (numbers i n))) e
    ∙ ap (λ j. map (point_of slots u c.block) (cons_option (extent_in (Some c) i) (filter_map (extent_in (Some c)) (numbers j (piece_count (Some c) - (i + 1)))))) f

pub pieces-none : (slots : Numbers) (u : ℕ) (o : Option Cell) (i : ℕ) → i < piece_count o → extent_in o i ≡ None → pieces_from slots u o i ≡ pieces_from slots u o (i + 1)
pieces-none slots u None i h e = refl
pieces-none slots u (Some c) i h e = pieces-step slots u c i h ∙ ap (λ x. map (point_of slots u c.block) (cons_option x (filter_map (extent_in (Some c)) (numbers (i + 1) (piece_count (Some c) - (i + 1)))))) e

pub pieces-some : (slots : Numbers) (u : ℕ) (o : Option Cell) (i b : ℕ) (x : Extent) → i < piece_count o → extent_in o i ≡ Some x → option_map (λ (c : Cell). c.block) o ≡ Some b → pieces_from slots u o i ≡ point_of slots u b x ∷ pieces_from slots u o (i + 1)
pieces-some slots u None i b x h e at = absurd (cc)
pieces-some slots u (Some c) i b x h e at =
    let same : c.block ≡ b = cc in
    pieces-step slots u c i h ∙ ap (λ y. map (point_of slots u c.block) (cons_option y (filter_map (extent_in (Some c)) (numbers (i + 1) (piece_count (Some c) - (i + 1)))))) e
    ∙ ap (λ k. point_of slots u k x ∷ pieces_from slots u (Some c) (i + 1)) same

pub cells-step : (slots : Numbers) (u : ℕ) (cs : List Cell) (k : ℕ) → k < length cs → flat_map (cell_points slots u) (drop k cs) ≡ some_cell_points slots u (slice_get cs k) ++ flat_map (cell_points slots u) (drop (k + 1) cs)
cells-step slots u [] k h = absurd (omega arith)
cells-step slots u (c ∷ cs) zero h = refl
cells-step slots u (c ∷ cs) (suc k) h = let e : suc k + 1 ≡ suc (k + 1) = omega arith in cells-step slots u cs k (omega arith) ∙ ap (λ j. some_cell_points slots u (slice_get cs k) ++ flat_map (cell_points slots u) (drop j (c ∷ cs))) (sym e)

pub cells-end : (slots : Numbers) (u : ℕ) (cs : List Cell) (k : ℕ) → length cs ≤ k → flat_map (cell_points slots u) (drop k cs) ≡ []
cells-end slots u cs k h = ap (flat_map (cell_points slots u)) (drop_none k cs h)

pub units-step : (x : Table) (v k : ℕ) (us : List UnitNumber) (u : UnitNumber) → k < length us → u ≡ get_or us k u → range_points x v k (drop k us) ≡ lane_points x u.0 (number_in x.lanes (owners.Range v k)) ++ range_points x v (k + 1) (drop (k + 1) us)
units-step x v k us u h at =
    let f : suc k ≡ k + 1 = omega arith in
    ap (range_points x v k) (drop_more us k u h ∙ ap (λ y. y ∷ drop (k + 1) us) (sym at))
    ∙ ap (λ j. lane_points x u.0 (number_in x.lanes (owners.Range v k)) ++ range_points x v j (drop (k + 1) us)) f

pub units-end : (x : Table) (v k : ℕ) (us : List UnitNumber) → length us ≤ k → range_points x v k (drop k us) ≡ []
units-end x v k us h = ap (range_points x v k) (drop_none k us h)

-- a test of some, step by step

pub any-or : {X : Type 0} (f g : X → Bool) (xs : List X) → list_any (λ x. f x || g x) xs ≡ (list_any f xs || list_any g xs)
any-or f g [] = refl
any-or f g (x ∷ xs) = ap (λ b. (f x || g x) || b) (any-or f g xs) ∙ swap (f x) (g x) (list_any f xs) (list_any g xs)
  where
    swap : (a b c d : Bool) → ((a || b) || (c || d)) ≡ ((a || c) || (b || d))
    swap true b c d = refl
    swap false true true d = refl
    swap false true false d = refl
    swap false false c d = refl

-- an element passes, and what else it passes some pass
pub any-cases : {X : Type 0} (f : X → Bool) (xs : List X) (G : Type 0) → ((x : X) → f x ≡ true → ((g : X → Bool) → g x ≡ true → list_any g xs ≡ true) → G) → list_any f xs ≡ true → G
any-cases f [] G k e = absurd (cc)
any-cases f (x ∷ xs) G k e = go (f x) refl (λ h. any-cases f xs G (λ y p lift. k y p (λ g q. or-right (g x) (list_any g xs) (lift g q))) h)
  where
    go : (u : Bool) → f x ≡ u → (list_any f xs ≡ true → G) → G
    go true p ih = k x p (λ g q. or-left (g x) (list_any g xs) q)
    go false p ih = ih (sym (ap (λ b. b || list_any f xs) p) ∙ e)

same-bool : (a b : Bool) → (a ≡ true → b ≡ true) → (b ≡ true → a ≡ true) → a ≡ b
same-bool true b f g = sym (f refl)
same-bool false true f g = g refl
same-bool false false f g = refl

pub not-false : (b : Bool) → b ≡ false → not b ≡ true
not-false true e = absurd (cc)
not-false false e = refl

pub from-not : (b : Bool) → not b ≡ true → b ≡ false
from-not true e = absurd (cc)
from-not false e = refl

-- another range than one holds some of the points where a range that is another one does
pub by-taken : (slots : Numbers) (hs : List RangeExtent) (but w : ℕ) (at : Stretch) → nat_eq w but ≡ false → is_taken_by slots hs w at ≡ true → is_taken slots hs but at ≡ true
by-taken slots hs but w at ne e = any-cases (λ h. nat_eq h.range w && touches slots at h) hs (is_taken slots hs but at ≡ true)
    (λ h p lift.
    let same : h.range ≡ w = eqb-true h.range w (both-left (nat_eq h.range w) (touches slots at h) p) in
    let other : nat_eq h.range but ≡ false = ap (λ r. nat_eq r but) same ∙ ne in
    lift (λ g. not (nat_eq g.range but) && touches slots at g) (both (not (nat_eq h.range but)) (touches slots at h) (not-false (nat_eq h.range but) other) (both-right (nat_eq h.range w) (touches slots at h) p))) e

-- the range that does is known
pub taken-by : (slots : Numbers) (hs : List RangeExtent) (but n : ℕ) (at : Stretch) (G : Type 0) → AreKnown n hs → ((w : ℕ) → w < n → nat_eq w but ≡ false → is_taken_by slots hs w at ≡ true → G) → is_taken slots hs but at ≡ true → G
taken-by slots hs but n at G known k e = any-cases (λ h. not (nat_eq h.range but) && touches slots at h) hs G
    (λ h p lift. k h.range (low h lift (cases_lt h.range n)) (from-not (nat_eq h.range but) (both-left (not (nat_eq h.range but)) (touches slots at h) p))
    (lift (λ g. nat_eq g.range h.range && touches slots at g) (both (nat_eq h.range h.range) (touches slots at h) (eq-eqb h.range h.range refl) (both-right (not (nat_eq h.range but)) (touches slots at h) p)))) e
  where
    low : (h : RangeExtent) → ((g : RangeExtent → Bool) → g h ≡ true → list_any g hs ≡ true) → (h.range < n) ⊎ (n ≤ h.range) → h.range < n
    low h lift (inl lt) = lt
    low h lift (inr le) = absurd (let z = lift (λ g. nat_le n g.range) (le-leb n h.range le) in cc)

pub known-taken : (slots : Numbers) (hs : List RangeExtent) (w n : ℕ) (at : Stretch) → AreKnown n hs → is_taken_by slots hs w at ≡ true → w < n
known-taken slots hs w n at known e = any-cases (λ h. nat_eq h.range w && touches slots at h) hs (w < n)
    (λ h p lift. let same : h.range ≡ w = eqb-true h.range w (both-left (nat_eq h.range w) (touches slots at h) p) in low h lift same (cases_lt w n)) e
  where
    low : (h : RangeExtent) → ((g : RangeExtent → Bool) → g h ≡ true → list_any g hs ≡ true) → h.range ≡ w → (w < n) ⊎ (n ≤ w) → w < n
    low h lift same (inl lt) = lt
    low h lift same (inr le) = absurd (let z = lift (λ g. nat_le n g.range) (le-leb n h.range (omega arith)) in cc)

module _ (m : Matrix) (v : ℕ) where
  abbrev slots : Numbers
  slots = m.live.table.order.slots

  -- some other range holds some of the points
  abbrev some_taken : Points → Bool
  some_taken s = is_taken slots (holds m s.unit s.block) v s.at

  taken-in : IsOrdered m → (ps : List Points) → list_any some_taken ps ≡ list_any (are_taken m v ps) (ranges_of m)
  taken-in ordered ps = same-bool (list_any some_taken ps) (list_any (are_taken m v ps) (ranges_of m))
      (λ e. any-cases some_taken ps (list_any (are_taken m v ps) (ranges_of m) ≡ true)
      (λ s p lift. taken-by slots (holds m s.unit s.block) v (length m.registers.items) s.at (list_any (are_taken m v ps) (ranges_of m) ≡ true) (ordered.known s.unit s.block)
      (λ w lt ne by. any-in (are_taken m v ps) 0 (length m.registers.items) w (omega arith) (omega arith) (both (not (nat_eq w v)) (list_any (is_taken_at m w) ps) (not-false (nat_eq w v) ne) (lift (is_taken_at m w) by))) p) e)
      (λ e. any-cases (are_taken m v ps) (ranges_of m) (list_any some_taken ps ≡ true)
      (λ w p lift. any-cases (is_taken_at m w) ps (list_any some_taken ps ≡ true)
      (λ s q up. up some_taken (by-taken slots (holds m s.unit s.block) v w s.at (from-not (nat_eq w v) (both-left (not (nat_eq w v)) (list_any (is_taken_at m w) ps) p)) q))
      (both-right (not (nat_eq w v)) (list_any (is_taken_at m w) ps) p)) e)

  -- a range in a register clashes with nothing where nothing else holds any of its points
  pub free-is : IsOrdered m → (p : Reg) → not (list_any (is_held_at m v) (points_in m v p)) ≡ is_free m v p
  free-is ordered p = ap not (any-or (is_fixed_at m) some_taken (points_in m v p) ∙ ap (λ b. is_fixed m v p || b) (taken-in ordered (points_in m v p))) ∙ halves (is_fixed m v p) (list_any (is_in_way m v p) (ranges_of m))
    where
      halves : (a b : Bool) → not (a || b) ≡ (not a && not b)
      halves true b = refl
      halves false b = refl

  pub known-way : IsOrdered m → (p : Reg) (w : ℕ) → is_in_way m v p w ≡ true → w < length m.registers.items
  known-way ordered p w e = any-cases (is_taken_at m w) (points_in m v p) (w < length m.registers.items)
      (λ s q up. known-taken slots (holds m s.unit s.block) w (length m.registers.items) s.at (ordered.known s.unit s.block) q)
      (both-right (not (nat_eq w v)) (list_any (is_taken_at m w) (points_in m v p)) e)

  pub taken-append : (xs ys : List Points) (w : ℕ) → are_taken m v (xs ++ ys) w ≡ (are_taken m v xs w || are_taken m v ys w)
  taken-append xs ys w = ap (λ b. not (nat_eq w v) && b) (list_any-append (is_taken_at m w) xs ys) ∙ spread (not (nat_eq w v)) (list_any (is_taken_at m w) xs) (list_any (is_taken_at m w) ys)
    where
      spread : (a b c : Bool) → (a && (b || c)) ≡ ((a && b) || (a && c))
      spread true b c = refl
      spread false b c = refl

-- some of what is left, step by step

pub step-none : {X : Type 0} (f : X → Bool) (rest xs more : List X) (total : Bool) → rest ≡ xs ++ more → list_any f xs ≡ false → list_any f rest ≡ total → list_any f more ≡ total
step-none f rest xs more total e none was = sym (ap (list_any f) e ∙ list_any-append f xs more ∙ ap (λ b. b || list_any f more) none) ∙ was

pub step-found : {X : Type 0} (f : X → Bool) (rest xs more : List X) (total : Bool) → rest ≡ xs ++ more → list_any f xs ≡ true → list_any f rest ≡ total → true ≡ total
step-found f rest xs more total e some was = sym (ap (list_any f) e ∙ list_any-append f xs more ∙ ap (λ b. b || list_any f more) some) ∙ was

pub step-end : {X : Type 0} (f : X → Bool) (rest : List X) (total : Bool) → rest ≡ [] → list_any f rest ≡ total → false ≡ total
step-end f rest total e was = sym (ap (list_any f) e) ∙ was

pub one-of : {X : Type 0} (f : X → Bool) (x : X) → list_any f (x ∷ []) ≡ f x
one-of f x = go (f x)
  where
    go : (b : Bool) → (b || false) ≡ b
    go true = refl
    go false = refl

pub step-marked : (m : Matrix) (v w : ℕ) (rest xs more : List Points) (old new total : Bool) → rest ≡ xs ++ more → new ≡ (are_taken m v xs w || old) → (are_taken m v rest w || old) ≡ total → (are_taken m v more w || new) ≡ total
step-marked m v w rest xs more old new total e is was =
    ap (λ b. are_taken m v more w || b) is ∙ turn (are_taken m v xs w) (are_taken m v more w) old ∙ sym (ap (λ b. b || old) (ap (λ ps. are_taken m v ps w) e ∙ taken-append m v xs more w)) ∙ was
  where
    turn : (a b c : Bool) → (b || (a || c)) ≡ ((a || b) || c)
    turn true true c = refl
    turn true false c = refl
    turn false b c = refl

-- no range is in the way at no points
pub clear-none : (m : Matrix) (v w : ℕ) → are_taken m v [] w ≡ false
clear-none m v w = go (not (nat_eq w v))
  where
    go : (b : Bool) → (b && false) ≡ false
    go true = refl
    go false = refl

pub end-marked : (m : Matrix) (v w : ℕ) (rest : List Points) (old total : Bool) → rest ≡ [] → (are_taken m v rest w || old) ≡ total → old ≡ total
end-marked m v w rest old total e was = sym (ap (λ b. b || old) (ap (λ ps. are_taken m v ps w) e ∙ clear-none m v w)) ∙ was

pub one-taken : (m : Matrix) (v w : ℕ) (s : Points) → are_taken m v (s ∷ []) w ≡ (not (nat_eq w v) && is_taken_at m w s)
one-taken m v w s = ap (λ b. not (nat_eq w v) && b) (one-of (is_taken_at m w) s)

pub step-way : (m : Matrix) (v w : ℕ) (rest xs more : List Points) → rest ≡ xs ++ more → are_taken m v xs w ≡ true → are_taken m v rest w ≡ true
step-way m v w rest xs more e h = ap (λ ps. are_taken m v ps w) e ∙ taken-append m v xs more w ∙ or-left (are_taken m v xs w) (are_taken m v more w) h

pub clear-way : (m : Matrix) (v w : ℕ) (rest xs more : List Points) → rest ≡ xs ++ more → are_taken m v xs w ≡ false → are_taken m v rest w ≡ are_taken m v more w
clear-way m v w rest xs more e h = ap (λ ps. are_taken m v ps w) e ∙ taken-append m v xs more w ∙ ap (λ b. b || are_taken m v more w) h

-- where no other range holds any of the points, none is in the way there
pub clear-point : (m : Matrix) (v w : ℕ) (s : Points) → is_taken m.live.table.order.slots (holds m s.unit s.block) v s.at ≡ false → are_taken m v (s ∷ []) w ≡ false
clear-point m v w s e = go (are_taken m v (s ∷ []) w) refl
  where
    go : (u : Bool) → are_taken m v (s ∷ []) w ≡ u → are_taken m v (s ∷ []) w ≡ false
    go false h = h
    go true h = absurd (
        let p : (not (nat_eq w v) && is_taken_at m w s) ≡ true = sym (one-taken m v w s) ∙ h in
        let some = by-taken m.live.table.order.slots (holds m s.unit s.block) v w s.at (from-not (nat_eq w v) (both-left (not (nat_eq w v)) (is_taken_at m w s) p)) (both-right (not (nat_eq w v)) (is_taken_at m w s) p) in
        cc)

none-listed : (m : Matrix) (w u b : ℕ) → holds m u b ≡ [] → (xs : List Extent) → list_any (is_taken_at m w) (map (point_of m.live.table.order.slots u b) xs) ≡ false
none-listed m w u b e [] = refl
none-listed m w u b e (x ∷ xs) = ap (λ hs. is_taken_by m.live.table.order.slots hs w (stretch_of m.live.table.order.slots x) || list_any (is_taken_at m w) (map (point_of m.live.table.order.slots u b) xs)) e ∙ none-listed m w u b e xs

-- none is where the unit has no list in the block
pub clear-cell : (m : Matrix) (v w u b : ℕ) (o : Option Cell) → Some b ≡ option_map (λ (c : Cell). c.block) o → None ≡ list_in m.held u b → are_taken m v (some_cell_points m.live.table.order.slots u o) w ≡ false
clear-cell m v w u b None at none = absurd (cc)
clear-cell m v w u b (Some c) at none =
    let same : b ≡ c.block = cc in
    ap (λ x. not (nat_eq w v) && x) (none-listed m w u c.block (sym (ap held_of_some (none ∙ ap (list_in m.held u) same))) (cell_extents c)) ∙ clear-none m v w

pub clear-no_cell : (m : Matrix) (v w u : ℕ) (o : Option Cell) → None ≡ option_map (λ (c : Cell). c.block) o → are_taken m v (some_cell_points m.live.table.order.slots u o) w ≡ false
clear-no_cell m v w u None e = clear-none m v w
clear-no_cell m v w u (Some c) e = absurd (cc)

-- some other range is found where there is one
pub other-meets : (ns : Numbers) (hs : List RangeExtent) (but : ℕ) (at : Stretch) (o : Option ℕ) → MatchOption o (is_taken ns hs but at ≡ false) (λ w. (nat_eq w but ≡ false) × (is_taken_by ns hs w at ≡ true)) → is_some o ≡ is_taken ns hs but at
other-meets ns hs but at None m = sym m
other-meets ns hs but at (Some w) m = sym (by-taken ns hs but w at m.0 m.1)

pub from-no : (b : Bool) → not b ≡ false → b ≡ true
from-no true e = refl
from-no false e = absurd (cc)

-- what an ordered matrix says of a list
pub list-filled : (m : Matrix) → IsOrdered m → (u b : ℕ) (l : HeldList) → Some l ≡ list_in m.held u b → AreFilled l
list-filled m ordered u b l e = ordered.filled u b l (sym e)

pub list-holds : (m : Matrix) (u b : ℕ) (l : HeldList) → Some l ≡ list_in m.held u b → held_of l ≡ holds m u b
list-holds m u b l e = ap held_of_some e

pub list-apart : (m : Matrix) → IsOrdered m → (u b : ℕ) (l : HeldList) → Some l ≡ list_in m.held u b → AreApart m.live.table.order.slots 0 (held_of l)
list-apart m ordered u b l e = subst (AreApart m.live.table.order.slots 0) (sym (list-holds m u b l e)) (ordered.apart u b)

-- the next unit of a register, by its place
pub unit-next : (x : Table) (v k j : ℕ) (us vs : List UnitNumber) (d : UnitNumber) → us ≡ vs → j ≡ k → k < length us → range_points x v k (drop k vs) ≡ lane_points x (get_or us k d).0 (number_in x.lanes (owners.Range v j)) ++ range_points x v (k + 1) (drop (k + 1) vs)
unit-next x v k j us vs d same at h =
    ap (λ l. range_points x v k (drop k l)) (sym same) ∙ units-step x v k us (get_or us k d) h (get_or_default us k d (get_or us k d) h)
    ∙ ap (λ n. lane_points x (get_or us k d).0 (number_in x.lanes (owners.Range v n)) ++ range_points x v (k + 1) (drop (k + 1) us)) (sym at)
    ∙ ap (λ l. lane_points x (get_or us k d).0 (number_in x.lanes (owners.Range v j)) ++ range_points x v (k + 1) (drop (k + 1) l)) same
