-- A matrix whose lists are kept, when a range gets a register or loses it.
use Rattle.std.proofs.Common.{◌≡◌, ◌<◌, ◌≤◌, ◌+◌, ◌⊎◌, ℕ, zero, suc, Bool, true, false, cond, not, ◌&&◌, length, take, map, set, List, [], ◌∷◌, ◌++◌, Option, None, Some, inl, inr, refl, sym, ap, ◌∙◌, subst, arith, append-nil, eqb-true, eq-eqb, ne_eqb}
use Rattle.std.specs.Prelude.{◌||◌, nat_eq, nat_le, nat_lt, is_some, flat_map, Vec}
use Rattle.std.specs.Global.{Global}
use Rattle.std.specs.List.{list_any, list_all}
use Rattle.std.proofs.lemmas.Bool.{cases_eq, cases_lt, ltb-true, leb-false}
use Rattle.std.proofs.lemmas.List.{length-set, length_push}
use Rattle.std.proofs.lemmas.List.Folds.{list_any-append}
use Rattle.target_base.specs.declared.types.Reg.{Reg}
use Rattle.target_base.specs.declared.types.Target.{Target}
use Rattle.target_base.specs.declared.types.Unit.{Unit as UnitNumber}
use Rattle.target_base.specs.Registers.{units_of}
use Rattle.mir_func.specs.Value.{Function}
use Rattle.mir_func.specs.declared.func.Block.{Block}
use Rattle.instr_effects.specs.Numbered.{number_in}
use Rattle.instr_effects.specs.declared.owner.Owner.TheVariants as owners
use Rattle.live_lanes.specs.declared.ask.extent.Extent.{Extent}
use Rattle.live_lanes.specs.declared.row.Cell.{Cell}
use Rattle.live_lanes.specs.declared.table.Table.{Table}
use Rattle.live_lanes.specs.Table.{Numbers, find_cell}
use Rattle.live_lanes.specs.Entered.{cells_of}
use Rattle.live_lanes.specs.Extents.{begins_with, cell_extents, stretch_of, is_met, some_extents}
use Rattle.live_lanes.proofs.Held.{or-left, or-none, le-false}
use Rattle.interference.specs.declared.held.RangeExtent.{RangeExtent}
use Rattle.interference.specs.declared.held.HeldList.{HeldList}
use Rattle.interference.specs.declared.unit_table.UnitTable.{UnitTable}
use Rattle.interference.specs.declared.matrix.Matrix.{Matrix}
use Rattle.interference.specs.Clashes.{register_in, holds, list_in, AreApart, AreFilled, AreKnown, IsOrdered, Points, cell_points, lane_points, range_points, points_in, is_held_at, is_taken, is_free}
use Rattle.interference.specs.Changes.{others_of, own_of, starting}
use Rattle.interference.specs.Listed.{lane_extents, range_extents, extents_by, listed, BeginApart, AreAmong, AreInTurn, KeepsExtents, IsFront, has_some, KeepsLists, LiesInTurn, MayHold, AreSorted, AreTidy, KeepsOthers, range_lots, Thins, RangeHasRoom, Begins, Fills}
use Rattle.interference.proofs.Owned.{only-others, own-others, others-twice, known-both, known-others, taken-others}
use Rattle.interference.proofs.Thinned.{same-self}
use Rattle.interference.proofs.Points.{free-is}
use Rattle.interference.proofs.Starts.{range-apart, units-distinct, units-known}

any-left : (a b : Bool) → (a || b) ≡ false → a ≡ false
any-left true b e = e
any-left false b e = refl

any-right : (a b : Bool) → (a || b) ≡ false → b ≡ false
any-right true b e = absurd (cc)
any-right false b e = e

-- registers, where one is set

pub register-set : (rs : List (Option Reg)) (v : ℕ) (q : Option Reg) → v < length rs → (w : ℕ) → register_in (set rs v q) w ≡ cond (nat_eq v w) q (register_in rs w)
register-set rs v q h w = go (cases_eq v w)
  where
    at : (xs : List (Option Reg)) (n : ℕ) → n < length xs → register_in (set xs n q) n ≡ q
    at [] n k = absurd (omega arith)
    at (x ∷ xs) zero k = refl
    at (x ∷ xs) (suc n) k = at xs n (omega arith)

    off : (xs : List (Option Reg)) (n m : ℕ) → (n ≡ m → ⊥) → register_in (set xs n q) m ≡ register_in xs m
    off [] n m ne = refl
    off (x ∷ xs) zero zero ne = absurd (ne refl)
    off (x ∷ xs) zero (suc m) ne = refl
    off (x ∷ xs) (suc n) zero ne = refl
    off (x ∷ xs) (suc n) (suc m) ne = off xs n m (λ e. ne (ap suc e))

    go : (v ≡ w) ⊎ (v ≡ w → ⊥) → register_in (set rs v q) w ≡ cond (nat_eq v w) q (register_in rs w)
    go (inl e) = ap (λ n. register_in (set rs v q) n) (sym e) ∙ at rs v h ∙ sym (ap (λ t. cond t q (register_in rs w)) (eq-eqb v w e))
    go (inr ne) = off rs v w ne ∙ sym (ap (λ t. cond t q (register_in rs w)) (ne_eqb v w ne))

pub register-past : (rs : List (Option Reg)) (v : ℕ) → length rs ≤ v → register_in rs v ≡ None
register-past [] v h = refl
register-past (r ∷ rs) zero h = absurd (omega arith)
register-past (r ∷ rs) (suc v) h = register-past rs v (omega arith)

-- where none is set, none is there
pub register-none : (rs : List (Option Reg)) (v : ℕ) → register_in rs v ≡ None → (w : ℕ) → register_in rs w ≡ cond (nat_eq v w) None (register_in rs w)
register-none rs v e w = go (cases_eq v w)
  where
    go : (v ≡ w) ⊎ (v ≡ w → ⊥) → register_in rs w ≡ cond (nat_eq v w) None (register_in rs w)
    go (inl f) = ap (register_in rs) (sym f) ∙ e ∙ sym (ap (λ t. cond t None (register_in rs w)) (eq-eqb v w f))
    go (inr f) = sym (ap (λ t. cond t None (register_in rs w)) (ne_eqb v w f))

pub set-past : (rs : List (Option Reg)) (v : ℕ) (q : Option Reg) → length rs ≤ v → set rs v q ≡ rs
set-past [] v q h = refl
set-past (r ∷ rs) zero q h = absurd (omega arith)
set-past (r ∷ rs) (suc v) q h = ap (λ xs. r ∷ xs) (set-past rs v q (omega arith))

pub register-gone : (rs : List (Option Reg)) (v w : ℕ) → register_in (set rs v None) w ≡ cond (nat_eq v w) None (register_in rs w)
register-gone rs v w = go (cases_lt v (length rs))
  where
    go : (v < length rs) ⊎ (length rs ≤ v) → register_in (set rs v None) w ≡ cond (nat_eq v w) None (register_in rs w)
    go (inl h) = register-set rs v None h w
    go (inr h) = ap (λ xs. register_in xs w) (set-past rs v None h) ∙ register-none rs v (register-past rs v h) w

-- what begins as nothing does is nothing
pub among-nothing : (es : List Extent) → AreAmong es [] → es ≡ []
among-nothing [] a = refl
among-nothing (e ∷ es) a = absurd (let z = a e.start (or-left (begins_with e.start e) (list_any (begins_with e.start) es) (same-self e.start)) in cc)

front-among : (es fs : List Extent) → IsFront es fs → AreAmong es (fs ++ [])
front-among es fs (rest, e) s some = ap (list_any (begins_with s)) (append-nil fs ∙ e) ∙ list_any-append (begins_with s) es rest ∙ or-left (list_any (begins_with s) es) (list_any (begins_with s) rest) some

front-few : (s : Option ℕ) (es rest : List Extent) → starting s es ≤ starting s (es ++ rest)
front-few s [] rest = omega arith
front-few s (e ∷ es) rest = go (begins_with s e) (front-few s es rest)
  where
    go : (t : Bool) → starting s es ≤ starting s (es ++ rest) → cond t (suc (starting s es)) (starting s es) ≤ cond t (suc (starting s (es ++ rest))) (starting s (es ++ rest))
    go true ih = omega arith
    go false ih = ih

front-apart : (es fs : List Extent) → IsFront es fs → BeginApart fs → BeginApart es
front-apart es fs (rest, e) a s = let z = a s in let y = front-few s es rest in let q : starting s fs ≡ starting s (es ++ rest) = ap (starting s) e in omega arith

-- the points of a range are those of its extents

module _ (x : Table) (f : Points → Bool) where
  abbrev slots : Numbers
  slots = x.order.slots

  abbrev point_at : ℕ → ℕ → Extent → Points
  point_at u b e = record { unit = u; block = b; at = stretch_of slots e }

  none-found : (u b : ℕ) (cs : List Cell) → list_any f (flat_map (cell_points slots u) cs) ≡ false → list_any (λ e. f (point_at u b e)) (some_extents (find_cell b cs)) ≡ false
  none-found u b [] e = refl
  none-found u b (c ∷ cs) e = go (nat_eq c.block b) refl (none-found u b cs both-none.1)
    where
      both-none : (list_any f (cell_points slots u c) ≡ false) × (list_any f (flat_map (cell_points slots u) cs) ≡ false)
      both-none =
          let z = sym (list_any-append f (cell_points slots u c) (flat_map (cell_points slots u) cs)) ∙ e in
          (any-left (list_any f (cell_points slots u c)) (list_any f (flat_map (cell_points slots u) cs)) z, any-right (list_any f (cell_points slots u c)) (list_any f (flat_map (cell_points slots u) cs)) z)

      mapped : (k : ℕ) (es : List Extent) → list_any f (map (point_at u k) es) ≡ list_any (λ y. f (point_at u k y)) es
      mapped k [] = refl
      mapped k (y ∷ es) = ap (λ t. f (point_at u k y) || t) (mapped k es)

      go : (t : Bool) → nat_eq c.block b ≡ t → list_any (λ y. f (point_at u b y)) (some_extents (find_cell b cs)) ≡ false → list_any (λ y. f (point_at u b y)) (some_extents (cond t (Some c) (find_cell b cs))) ≡ false
      go true g ih = ap (λ k. list_any (λ y. f (point_at u k y)) (cell_extents c)) (sym (eqb-true c.block b g)) ∙ sym (mapped c.block (cell_extents c)) ∙ both-none.0
      go false g ih = ih

  none-lane : (u b : ℕ) (q : Option ℕ) → list_any f (lane_points x u q) ≡ false → list_any (λ e. f (point_at u b e)) (lane_extents x q b) ≡ false
  none-lane u b None e = refl
  none-lane u b (Some l) e = none-found u b (cells_of x.rows.rows.items l) e

  pub none-range : (v k : ℕ) (us : List UnitNumber) (u b : ℕ) → list_any f (range_points x v k us) ≡ false → list_any (λ e. f (point_at u b e)) (range_extents x v k us u b) ≡ false
  none-range v k [] u b e = refl
  none-range v k (w ∷ us) u b e =
      let q = number_in x.lanes (owners.Range v k) in
      let z : (list_any f (lane_points x w.0 q) || list_any f (range_points x v (suc k) us)) ≡ false = sym (list_any-append f (lane_points x w.0 q) (range_points x v (suc k) us)) ∙ e in
      list_any-append (λ y. f (point_at u b y)) (cond (nat_eq w.0 u) (lane_extents x q b) []) (range_extents x v (suc k) us u b)
      ∙ ap (λ t. t || list_any (λ y. f (point_at u b y)) (range_extents x v (suc k) us u b)) (here (nat_eq w.0 u) refl (any-left (list_any f (lane_points x w.0 q)) (list_any f (range_points x v (suc k) us)) z))
      ∙ none-range v (suc k) us u b (any-right (list_any f (lane_points x w.0 q)) (list_any f (range_points x v (suc k) us)) z)
    where
      here : (t : Bool) → nat_eq w.0 u ≡ t → list_any f (lane_points x w.0 (number_in x.lanes (owners.Range v k))) ≡ false → list_any (λ y. f (point_at u b y)) (cond t (lane_extents x (number_in x.lanes (owners.Range v k)) b) []) ≡ false
      here true g h = ap (λ n. list_any (λ y. f (point_at n b y)) (lane_extents x (number_in x.lanes (owners.Range v k)) b)) (sym (eqb-true w.0 u g)) ∙ none-lane w.0 b (number_in x.lanes (owners.Range v k)) h
      here false g h = refl

-- where a range has extents, its unit is one of its register's and the block one of the function's
some-range : (m : Matrix) → LiesInTurn m → (v k : ℕ) (us : List UnitNumber) (u b : ℕ) → list_all (λ w. nat_lt w.0 (length m.live.target.units)) us ≡ true → has_some (range_extents m.live.table v k us u b) ≡ true → (u < length m.live.target.units) × (b < length m.live.func.blocks)
some-range m lies v k [] u b all e = absurd (cc)
some-range m lies v k (w ∷ us) u b all e = go (nat_eq w.0 u) refl (number_in m.live.table.lanes (owners.Range v k)) e (some-range m lies v (suc k) us u b (right (nat_lt w.0 (length m.live.target.units)) (list_all (λ z. nat_lt z.0 (length m.live.target.units)) us) all))
  where
    left : (a c : Bool) → (a && c) ≡ true → a ≡ true
    left true c g = refl
    left false c g = absurd (cc)

    right : (a c : Bool) → (a && c) ≡ true → c ≡ true
    right true c g = g
    right false c g = absurd (cc)

    known : w.0 < length m.live.target.units
    known = ltb-true w.0 (length m.live.target.units) (left (nat_lt w.0 (length m.live.target.units)) (list_all (λ z. nat_lt z.0 (length m.live.target.units)) us) all)

    split : (es fs : List Extent) → has_some (es ++ fs) ≡ true → (has_some es ≡ true) ⊎ (has_some fs ≡ true)
    split [] fs g = inr g
    split (y ∷ es) fs g = inl refl

    lane : (q : Option ℕ) → nat_eq w.0 u ≡ true → has_some (lane_extents m.live.table q b) ≡ true → (u < length m.live.target.units) × (b < length m.live.func.blocks)
    lane None g h = absurd (cc)
    lane (Some l) g h = (subst (λ n. n < length m.live.target.units) (eqb-true w.0 u g) known, lies.within l b h)

    pick : (q : Option ℕ) → nat_eq w.0 u ≡ true → (has_some (range_extents m.live.table v (suc k) us u b) ≡ true → (u < length m.live.target.units) × (b < length m.live.func.blocks)) → (has_some (lane_extents m.live.table q b) ≡ true) ⊎ (has_some (range_extents m.live.table v (suc k) us u b) ≡ true) → (u < length m.live.target.units) × (b < length m.live.func.blocks)
    pick q g ih (inl a) = lane q g a
    pick q g ih (inr a) = ih a

    go : (t : Bool) → nat_eq w.0 u ≡ t → (q : Option ℕ) → has_some (cond t (lane_extents m.live.table q b) [] ++ range_extents m.live.table v (suc k) us u b) ≡ true → (has_some (range_extents m.live.table v (suc k) us u b) ≡ true → (u < length m.live.target.units) × (b < length m.live.func.blocks)) → (u < length m.live.target.units) × (b < length m.live.func.blocks)
    go true g q h ih = pick q g ih (split (lane_extents m.live.table q b) (range_extents m.live.table v (suc k) us u b) h)
    go false g q h ih = ih h

-- the matrix with other registers and lists

abbrev pub with_lists : Matrix → Vec (Option Reg) Global → UnitTable → Matrix
with_lists m rs h = record m { registers = rs; held = h }

module _ (m : Matrix) (v : ℕ) (keeps : KeepsLists m) where
  abbrev x : Table
  x = m.live.table

  abbrev slots_of : Numbers
  slots_of = m.live.table.order.slots

  pub sorted-of : AreSorted slots_of m.held
  sorted-of = record { filled = keeps.ordered.filled; apart = keeps.ordered.apart }

  -- a table of lists by which others hold what they held, and the range what it has by another register
  pub kept-with : (rs : Vec (Option Reg) Global) (h : UnitTable) (q : Option Reg) → v < length m.registers.items → rs.items ≡ set m.registers.items v q → AreSorted slots_of h → KeepsOthers v m.held h → ((u b : ℕ) → own_of v (listed h u b) ≡ extents_by m.live.target x v q u b) → KeepsLists (with_lists m rs h)
  kept-with rs h q lt is sorted others own = record {
    ordered = record {
      table = keeps.ordered.table;
      registers = ap length is ∙ length-set m.registers.items v q ∙ keeps.ordered.registers;
      filled = sorted.filled;
      apart = sorted.apart;
      known = λ u b. known u b;
    };
    listed = λ w u b. go w u b (cases_eq v w);
    lists = λ u b hu hb. others.there u b ∙ keeps.lists u b hu hb;
  }
    where
      long : length rs.items ≡ length m.registers.items
      long = ap length is ∙ length-set m.registers.items v q

      known : (u b : ℕ) → AreKnown (length rs.items) (listed h u b)
      known u b = known-both (length rs.items) v (listed h u b) (omega (arith, long))
          (subst (AreKnown (length rs.items)) (sym (others.others u b)) (subst (λ n. AreKnown n (others_of v (listed m.held u b))) (sym long) (known-others (length m.registers.items) v (listed m.held u b) (keeps.ordered.known u b))))

      go : (w u b : ℕ) → (v ≡ w) ⊎ (v ≡ w → ⊥) → own_of w (listed h u b) ≡ extents_by m.live.target x w (register_in rs.items w) u b
      go w u b (inl e) = subst (λ n. own_of n (listed h u b) ≡ extents_by m.live.target x n (register_in rs.items n) u b) e
          (own u b ∙ ap (λ r. extents_by m.live.target x v r u b) (sym (ap (λ xs. register_in xs v) is ∙ register-set m.registers.items v q lt v ∙ ap (λ t. cond t q (register_in m.registers.items v)) (eq-eqb v v refl))))
      go w u b (inr ne) =
          let off : nat_eq w v ≡ false = ne_eqb w v (λ e. ne (sym e)) in
          sym (own-others v w (listed h u b) off) ∙ ap (own_of w) (others.others u b) ∙ own-others v w (listed m.held u b) off ∙ keeps.listed w u b
          ∙ ap (λ r. extents_by m.live.target x w r u b) (sym (ap (λ xs. register_in xs w) is ∙ register-set m.registers.items v q lt w ∙ ap (λ t. cond t q (register_in m.registers.items w)) (ne_eqb v w ne)))

  -- lists out of which the range is taken
  module _ (p : Reg) where
    abbrev us : List UnitNumber
    us = units_of m.live.target p

    pub apart-range : (u b : ℕ) → BeginApart (range_extents x v 0 us u b)
    apart-range u b = range-apart x keeps.ordered.table v us u b (units-distinct m.live.target p)

    -- all that it held is gone
    pub gone : (a h : UnitTable) → AreTidy slots_of v a → ((u b : ℕ) → IsFront (own_of v (listed a u b)) (range_extents x v 0 us u b)) → Thins slots_of v (range_lots x v 0 us) a h → (u b : ℕ) → own_of v (listed h u b) ≡ []
    gone a h tidy front thins u b = among-nothing (own_of v (listed h u b)) (thins.own tidy (λ w y. []) (λ w y. front-among (own_of v (listed a w y)) (range_extents x v 0 us w y) (front w y)) u b)

    tidy-of : (a : UnitTable) → AreSorted slots_of a → ((u b : ℕ) → IsFront (own_of v (listed a u b)) (range_extents x v 0 us u b)) → AreTidy slots_of v a
    tidy-of a sorted front = record { sorted = sorted; single = λ u b. front-apart (own_of v (listed a u b)) (range_extents x v 0 us u b) (front u b) (apart-range u b) }

    -- it loses its register
    module _ (at : register_in m.registers.items v ≡ Some p) (rs : Vec (Option Reg) Global) (h : UnitTable) (is : rs.items ≡ set m.registers.items v None) (thins : Thins slots_of v (range_lots x v 0 us) m.held h) where
      has-place : v < length m.registers.items
      has-place = go (cases_lt v (length m.registers.items))
        where
          go : (v < length m.registers.items) ⊎ (length m.registers.items ≤ v) → v < length m.registers.items
          go (inl lt) = lt
          go (inr le) = absurd (let z : None ≡ Some p = sym (register-past m.registers.items v le) ∙ at in cc)

      whole : (u b : ℕ) → IsFront (own_of v (listed m.held u b)) (range_extents x v 0 us u b)
      whole u b = ([], sym (keeps.listed v u b ∙ ap (λ r. extents_by m.live.target x v r u b) at) ∙ sym (append-nil (own_of v (listed m.held u b))))

      tidy : AreTidy slots_of v m.held
      tidy = tidy-of m.held sorted-of whole

      none : (u b : ℕ) → own_of v (listed h u b) ≡ []
      none = gone m.held h tidy whole thins

      pub taken-kept : KeepsLists (with_lists m rs h)
      taken-kept = kept-with rs h None has-place is (thins.tidy tidy).sorted (thins.others tidy) none

      pub taken-lists : (u b : ℕ) → listed h u b ≡ others_of v (listed m.held u b)
      taken-lists u b = sym (only-others v (listed h u b) (none u b)) ∙ (thins.others tidy).others u b

  -- it has none
  pub without : register_in m.registers.items v ≡ None → (u b : ℕ) → holds m u b ≡ others_of v (holds m u b)
  without at u b = sym (only-others v (holds m u b) (keeps.listed v u b ∙ ap (λ r. extents_by m.live.target x v r u b) at))

  -- a range without a register has room in one in which it would clash with nothing
  pub has-room : (n : Matrix) → n.live ≡ m.live → IsOrdered n → ((u b : ℕ) → others_of v (holds m u b) ≡ others_of v (holds n u b)) → LiesInTurn m → register_in m.registers.items v ≡ None → (p : Reg) → is_free n v p ≡ true → RangeHasRoom x v (units_of m.live.target p) m.held
  has-room n same ordered others lies at p free = record {
    sorted = sorted-of;
    none = λ u b. keeps.listed v u b ∙ ap (λ r. extents_by m.live.target x v r u b) at;
    turns = lies.turns;
    there = λ u b some. let z = some-range m lies v 0 (units_of m.live.target p) u b (units-known m.live.target p) some in keeps.lists u b z.0 z.1;
    clear = λ u b. any-below (range_extents x v 0 (units_of m.live.target p) u b) (λ e. is_held_at n v (point_at x (is_held_at n v) u b e)) (λ e. is_taken slots_of (listed m.held u b) v (stretch_of slots_of e)) (λ e k. below u b e k) (none-range x (is_held_at n v) v 0 (units_of m.live.target p) u b points);
    distinct = units-distinct m.live.target p;
  }
    where
      points : list_any (is_held_at n v) (range_points x v 0 (units_of m.live.target p)) ≡ false
      points = subst (λ l. list_any (is_held_at n v) (range_points l.table v 0 (units_of l.target p)) ≡ false) same (not-not (list_any (is_held_at n v) (points_in n v p)) (free-is n v ordered p ∙ free))
        where
          not-not : (t : Bool) → not t ≡ true → t ≡ false
          not-not true e = absurd (cc)
          not-not false e = refl

      any-below : (es : List Extent) (f g : Extent → Bool) → ((e : Extent) → f e ≡ false → g e ≡ false) → list_any f es ≡ false → list_any g es ≡ false
      any-below [] f g k e = refl
      any-below (y ∷ es) f g k e = ap (λ t. t || list_any g es) (k y (any-left (f y) (list_any f es) e)) ∙ any-below es f g k (any-right (f y) (list_any f es) e)

      below : (u b : ℕ) (e : Extent) → is_held_at n v (point_at x (is_held_at n v) u b e) ≡ false → is_taken slots_of (listed m.held u b) v (stretch_of slots_of e) ≡ false
      below u b e k =
          let at-n : is_taken n.live.table.order.slots (holds n u b) v (stretch_of slots_of e) ≡ false = any-right (is_met n.live.table u b (stretch_of slots_of e)) (is_taken n.live.table.order.slots (holds n u b) v (stretch_of slots_of e)) k in
          sym (taken-others slots_of v (stretch_of slots_of e) (listed m.held u b))
          ∙ ap (λ hs. is_taken slots_of hs v (stretch_of slots_of e)) (others u b)
          ∙ taken-others slots_of v (stretch_of slots_of e) (holds n u b)
          ∙ subst (λ l. is_taken l.table.order.slots (holds n u b) v (stretch_of slots_of e) ≡ false) same at-n

  -- it gets the register
  pub given-kept : (p : Reg) (rs : Vec (Option Reg) Global) (h : UnitTable) → v < length m.registers.items → rs.items ≡ set m.registers.items v (Some p) → Fills slots_of v (range_extents x v 0 (units_of m.live.target p)) m.held h → KeepsLists (with_lists m rs h)
  given-kept p rs h lt is fills = kept-with rs h (Some p) lt is fills.sorted fills.others fills.own

  -- and is taken out again where there isn't enough memory
  module _ (at : register_in m.registers.items v ≡ None) (p : Reg) (a h : UnitTable) (begins : Begins slots_of v (range_extents x v 0 (units_of m.live.target p)) m.held a) (thins : Thins slots_of v (range_lots x v 0 (units_of m.live.target p)) a h) where
    tidy-begun : AreTidy slots_of v a
    tidy-begun = tidy-of p a begins.sorted begins.own

    none-left : (u b : ℕ) → own_of v (listed h u b) ≡ []
    none-left = gone p a h tidy-begun begins.own thins

    others-left : (u b : ℕ) → others_of v (listed h u b) ≡ others_of v (listed m.held u b)
    others-left u b = (thins.others tidy-begun).others u b ∙ begins.others.others u b

    pub same-lists : (u b : ℕ) → listed h u b ≡ listed m.held u b
    same-lists u b = sym (only-others v (listed h u b) (none-left u b)) ∙ others-left u b ∙ sym (without at u b)

    pub refused-kept : KeepsLists (with_lists m m.registers h)
    refused-kept = record {
      ordered = record {
        table = keeps.ordered.table;
        registers = keeps.ordered.registers;
        filled = (thins.tidy tidy-begun).sorted.filled;
        apart = (thins.tidy tidy-begun).sorted.apart;
        known = λ u b. subst (AreKnown (length m.registers.items)) (sym (same-lists u b)) (keeps.ordered.known u b);
      };
      listed = λ w u b. ap (own_of w) (same-lists u b) ∙ keeps.listed w u b;
      lists = λ u b hu hb. (thins.others tidy-begun).there u b ∙ begins.others.there u b ∙ keeps.lists u b hu hb;
    }

pub lies-same : (m n : Matrix) → n.live ≡ m.live → LiesInTurn m → LiesInTurn n
lies-same m n same lies = record {
  turns = subst (λ l. (k b : ℕ) → AreInTurn l.table.order.slots 0 (lane_extents l.table (Some k) b)) (sym same) lies.turns;
  within = subst (λ l. (k b : ℕ) → has_some (lane_extents l.table (Some k) b) ≡ true → b < length l.func.blocks) (sym same) lies.within;
}

-- one range more, without a register

register-more : (rs : List (Option Reg)) (w : ℕ) → register_in (rs ++ None ∷ []) w ≡ register_in rs w
register-more [] zero = refl
register-more [] (suc w) = refl
register-more (r ∷ rs) zero = refl
register-more (r ∷ rs) (suc w) = register-more rs w

known-more : (n k : ℕ) (hs : List RangeExtent) → n ≤ k → AreKnown n hs → AreKnown k hs
known-more n k [] le a = refl
known-more n k (h ∷ hs) le a =
    or-none (nat_le k h.range) (list_any (λ g. nat_le k g.range) hs)
    (le-false k h.range (let z = leb-false n h.range (any-left (nat_le n h.range) (list_any (λ g. nat_le n g.range) hs) a) in omega arith))
    (known-more n k hs le (any-right (nat_le n h.range) (list_any (λ g. nat_le n g.range) hs) a))

module _ (x y : Table) (n : ℕ) (same : KeepsExtents n x y) where
  range-same : (v k : ℕ) (us : List UnitNumber) (u b : ℕ) → v < n → range_extents y v k us u b ≡ range_extents x v k us u b
  range-same v k [] u b lt = refl
  range-same v k (w ∷ us) u b lt =
      ap (λ es. cond (nat_eq w.0 u) es [] ++ range_extents y v (suc k) us u b) (same.extents v k b lt)
      ∙ ap (λ es. cond (nat_eq w.0 u) (lane_extents x (number_in x.lanes (owners.Range v k)) b) [] ++ es) (range-same v (suc k) us u b lt)

  by-same : (t : Target) (v : ℕ) (q : Option Reg) (u b : ℕ) → (q ≡ None) ⊎ (v < n) → extents_by t y v q u b ≡ extents_by t x v q u b
  by-same t v None u b h = refl
  by-same t v (Some p) u b (inl e) = absurd (cc)
  by-same t v (Some p) u b (inr lt) = range-same v 0 (units_of t p) u b lt

either-way : (m : Matrix) (v : ℕ) → (register_in m.registers.items v ≡ None) ⊎ (v < length m.registers.items)
either-way m v = go (cases_lt v (length m.registers.items))
  where
    go : (v < length m.registers.items) ⊎ (length m.registers.items ≤ v) → (register_in m.registers.items v ≡ None) ⊎ (v < length m.registers.items)
    go (inl lt) = inr lt
    go (inr le) = inl (register-past m.registers.items v le)

-- the same lists, with a table that keeps extents
still-kept : (m n : Matrix) → KeepsLists m → n.held ≡ m.held → n.live.target ≡ m.live.target → ((v : ℕ) → register_in n.registers.items v ≡ register_in m.registers.items v) → length m.registers.items ≤ length n.registers.items → length n.registers.items ≡ length n.live.func.classes → n.live.func.blocks ≡ m.live.func.blocks → KeepsExtents (length m.registers.items) m.live.table n.live.table → KeepsLists n
still-kept m n keeps held target registers more long blocks same = record {
  ordered = record {
    table = same.order;
    registers = long;
    filled = subst (λ (h : UnitTable). (u b : ℕ) (l : HeldList) → list_in h u b ≡ Some l → AreFilled l) (sym held) keeps.ordered.filled;
    apart = λ u b. subst (λ s. AreApart s 0 (holds n u b)) (sym same.slots) (subst (λ (h : UnitTable). AreApart m.live.table.order.slots 0 (listed h u b)) (sym held) (keeps.ordered.apart u b));
    known = λ u b. subst (λ (h : UnitTable). AreKnown (length n.registers.items) (listed h u b)) (sym held) (known-more (length m.registers.items) (length n.registers.items) (holds m u b) more (keeps.ordered.known u b));
  };
  listed = λ v u b. ap (λ (h : UnitTable). own_of v (listed h u b)) held ∙ keeps.listed v u b
      ∙ sym (ap (λ (t : Target). extents_by t n.live.table v (register_in n.registers.items v) u b) target
      ∙ ap (λ (q : Option Reg). extents_by m.live.target n.live.table v q u b) (registers v)
      ∙ by-same m.live.table n.live.table (length m.registers.items) same m.live.target v (register_in m.registers.items v) u b (either-way m v));
  lists = λ u b hu hb. ap (λ (h : UnitTable). is_some (list_in h u b)) held ∙ keeps.lists u b (subst (λ (t : Target). u < length t.units) target hu) (subst (λ (bs : List Block). b < length bs) blocks hb);
}

pub grown-kept : (m n : Matrix) → KeepsLists m → n.held ≡ m.held → n.live.target ≡ m.live.target → n.registers.items ≡ m.registers.items ++ None ∷ [] → length n.live.func.classes ≡ length m.live.func.classes + 1 → n.live.func.blocks ≡ m.live.func.blocks → KeepsExtents (length m.registers.items) m.live.table n.live.table → KeepsLists n
grown-kept m n keeps held target registers classes blocks same =
    let long : length n.registers.items ≡ length m.registers.items + 1 = ap length registers ∙ length_push m.registers.items None in
    still-kept m n keeps held target (λ v. ap (λ (rs : List (Option Reg)). register_in rs v) registers ∙ register-more m.registers.items v) (omega arith) (long ∙ ap (λ k. k + 1) keeps.ordered.registers ∙ sym classes) blocks same

pub same-kept : (m n : Matrix) → KeepsLists m → n.held ≡ m.held → n.live.target ≡ m.live.target → n.registers.items ≡ m.registers.items → n.live.func ≡ m.live.func → KeepsExtents (length m.registers.items) m.live.table n.live.table → KeepsLists n
same-kept m n keeps held target registers func same =
    let long : length n.registers.items ≡ length m.registers.items = ap length registers in
    still-kept m n keeps held target (λ v. ap (λ (rs : List (Option Reg)). register_in rs v) registers) (omega arith) (long ∙ keeps.ordered.registers ∙ sym (ap (λ (f : Function). length f.classes) func)) (ap (λ (f : Function). f.blocks) func) same

front-again : (rs : List (Option Reg)) → take (length rs) (rs ++ None ∷ []) ≡ rs
front-again [] = refl
front-again (r ∷ rs) = ap (λ xs. r ∷ xs) (front-again rs)

pub taken-back : (rs all : List (Option Reg)) (n : ℕ) → n ≡ length rs → all ≡ rs ++ None ∷ [] → take n all ≡ rs
taken-back rs all n e f = ap (take n) f ∙ ap (λ k. take k (rs ++ None ∷ [])) e ∙ front-again rs

pub cond-twice : (t : Bool) (q r : Option Reg) → cond t q (cond t None r) ≡ cond t q r
cond-twice true q r = refl
cond-twice false q r = refl

-- a range that may hold a register has room in it once it has none
pub room-for : (m n : Matrix) (v : ℕ) (p : Reg) → MayHold m v p → n.live ≡ m.live → KeepsLists n → register_in n.registers.items v ≡ None → ((u b : ℕ) → holds n u b ≡ others_of v (holds m u b)) → RangeHasRoom n.live.table v (units_of n.live.target p) n.held
room-for m n v p may same keeps none held = has-room n v keeps m (sym same) may.keeps.ordered (λ u b. ap (others_of v) (held u b) ∙ others-twice v (holds m u b)) (lies-same m n same may.lies) none p may.free
