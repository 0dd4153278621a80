-- Where a lane has no cell, no value of it is lost, and none by it.
use Rattle.std.proofs.Common.{◌≡◌, ◌∙◌, ◌&&◌, ◌||◌, ◌∷◌, ◌+◌, ◌≤◌, not, ℕ, Bool, true, false, cond, List, [], Option, Some, None, refl, sym, ap, subst, arith, eqb-true}
use Rattle.std.specs.Prelude.{Decides, nat_eq, nat_lt, slice_get}
use Rattle.std.specs.List.{list_all}
use Rattle.std.proofs.lemmas.Bool.{ltb-true}
use Rattle.std.proofs.lemmas.Option.{same_Some}
use Rattle.target_base.specs.declared.types.Target.{Target}
use Rattle.meaning.specs.Live.{Among as Member, here as first, there as later}
use Rattle.instr_effects.specs.declared.row.LaneSpan.{LaneSpan}
use Rattle.instr_effects.specs.Numbers.{row_number_in}
use Rattle.live_lanes.specs.declared.live.LiveFunc.{LiveFunc}
use Rattle.live_lanes.specs.declared.row.Cell.{Cell}
use Rattle.live_lanes.specs.declared.row.LaneRange.{LaneRange}
use Rattle.live_lanes.specs.Table.{Begun, Numbers, Seen, find_cell, seen, unseen}
use Rattle.live_lanes.specs.Entered.{cells_of, rows_seen}
use Rattle.live_lanes.specs.Extents.{lanes_count}
use Rattle.live_laws.proofs.Effects.Lists.{all-of}
use Rattle.coalescer.specs.Asked.{copies_lane, is_apart, is_quiet_in, is_quiet_writing}
use Rattle.coalescer.specs.Coalescing.{instr_of, sides_in}

apart-unseen : (slots : Numbers) (s : Begun) → is_apart slots unseen s ≡ true
apart-unseen slots s = go s.early
  where
    go : (u : Bool) → not (u && false) ≡ true
    go true = refl
    go false = refl

module _ (t : Target) (x : LiveFunc) (a b : ℕ × ℕ) where
  pub by-apart : (v : Seen) (s : Begun) → is_apart x.table.order.slots v s ≡ true → is_quiet_writing t x a b v s ≡ true
  by-apart v s e = ap (λ u. u || copies_lane t (sides_in t (instr_of x.func s.start)) a b || copies_lane t (sides_in t (instr_of x.func s.start)) a a) e

  pub none-lost : (ss : List Begun) → list_all (is_quiet_writing t x a b unseen) ss ≡ true
  none-lost [] = refl
  none-lost (s ∷ ss) = λ i. by-apart unseen s (apart-unseen x.table.order.slots s) i && none-lost ss i

pub seen-absent : (rows : List LaneRange) (l p : ℕ) → find_cell p (cells_of rows l) ≡ None → rows_seen rows l p ≡ unseen
seen-absent rows l p = go (slice_get rows l)
  where
    go : (q : Option LaneRange) → find_cell p (elim q as (λ q. List Cell) [ None ↦ [] | Some r ↦ r.cells.items ]) ≡ None → elim q as (λ q. Seen) [ None ↦ unseen | Some r ↦ seen (find_cell p r.cells.items) ] ≡ unseen
    go None e = refl
    go (Some r) e = ap seen e

module _ (t : Target) (x : LiveFunc) (a : ℕ × ℕ) (n : ℕ) (b : ℕ × ℕ) (m : ℕ) where
  abbrev rows : List LaneRange
  rows = x.table.rows.rows.items

  pub absent-own : (p : ℕ) → find_cell p (cells_of rows n) ≡ None → is_quiet_in t x a n b m p ≡ true
  absent-own p e = ap (λ (v : Seen). list_all (is_quiet_writing t x a b (rows_seen rows m p)) v.segments) (seen-absent rows n p e)

  pub absent-other : (p : ℕ) → find_cell p (cells_of rows m) ≡ None → is_quiet_in t x a n b m p ≡ true
  absent-other p e = ap (λ (v : Seen). list_all (is_quiet_writing t x a b v) (rows_seen rows n p).segments) (seen-absent rows m p e) ∙ none-lost t x a b (rows_seen rows n p).segments

-- what holds in all blocks, by cells

found-cell : (p : ℕ) (c : Cell) (cs : List Cell) → find_cell p cs ≡ Some c → Member c cs × (c.block ≡ p)
found-cell p c [] e = absurd (cc)
found-cell p c (d ∷ cs) e = go (nat_eq d.block p) refl e (found-cell p c cs)
  where
    go : (u : Bool) → nat_eq d.block p ≡ u → cond u (Some d) (find_cell p cs) ≡ Some c → (find_cell p cs ≡ Some c → Member c cs × (c.block ≡ p)) → Member c (d ∷ cs) × (c.block ≡ p)
    go true h g ih = let s = same_Some d c g in (subst (λ z. Member z (d ∷ cs)) s first, ap (λ (z : Cell). z.block) (sym s) ∙ eqb-true d.block p h)
    go false h g ih = let z = ih g in (later z.0, z.1)

all-by : {X : Type 0} (p : X → Bool) (xs : List X) → ((x : X) → Member x xs → p x ≡ true) → list_all p xs ≡ true
all-by p [] h = refl
all-by p (x ∷ xs) h = λ k. h x first k && all-by p xs (λ y m. h y (later m)) k

pub by-cells : (test : ℕ → Bool) (cs : List Cell) (r : Bool) → r ≡ list_all (λ c. test c.block) cs → ((p : ℕ) → find_cell p cs ≡ None → test p ≡ true) → Decides r ((p : ℕ) → test p ≡ true)
by-cells test cs r e absent = (
  (λ h p. go p (find_cell p cs) refl (sym e ∙ h)),
  (λ h. e ∙ all-by (λ c. test c.block) cs (λ c m. h c.block)),
)
  where
    go : (p : ℕ) (q : Option Cell) → find_cell p cs ≡ q → list_all (λ c. test c.block) cs ≡ true → test p ≡ true
    go p None f h = absent p f
    go p (Some c) f h = let z = found-cell p c cs f in ap test (sym z.1) ∙ all-of (λ (d : Cell). test d.block) c cs z.0 h

-- lanes without numbers

pub no-lane : (q : Option LaneSpan) (k n : ℕ) → lanes_count q ≤ k → row_number_in q k ≡ Some n → ⊥
no-lane None k n h e = cc
no-lane (Some own) k n h e = go (nat_lt k own.count) refl e
  where
    go : (u : Bool) → nat_lt k own.count ≡ u → cond u (Some (own.first + k)) None ≡ Some n → ⊥
    go true f g = let l = ltb-true k own.count f in omega (arith, l, h)
    go false f g = cc
