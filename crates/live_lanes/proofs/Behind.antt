-- The last block before a position in which a lane has a cell.
use Rattle.std.proofs.Common.{◌≡◌, ◌<◌, ◌≤◌, ℕ, zero, suc, Bool, true, false, cond, leb, length, List, [], ◌∷◌, Option, None, Some, refl, sym, ap, ◌∙◌, subst, arith, get_or}
use Rattle.std.specs.Prelude.{nat_le, slice_get, option_map}
use Rattle.std.specs.List.Sorted.{IsPartitionedBy}
use Rattle.std.proofs.lemmas.Bool.{ltb-true, leb-true, leb-false, le-leb, ne_eqb}
use Rattle.std.proofs.lemmas.Option.{slice_get-get_or, slice_get_past}
use Rattle.live_lanes.specs.declared.row.Cell.{Cell}
use Rattle.live_lanes.specs.Table.{leading, find_cell, is_below, descends, seen, seen_in, unseen}
use Rattle.live_lanes.specs.Held.{IsLastBefore}
use Rattle.live_lanes.proofs.Cells.{both-left, both-right}

-- the cell is of that block or one behind it
abbrev pub is_from : ℕ → Cell → Bool
is_from bound c = nat_le bound c.block

falls : (m : ℕ) (cs : List Cell) (i : ℕ) (d : Cell) → is_below m cs ≡ true → descends cs ≡ true → i < length cs → (get_or cs i d).block < m
falls m [] i d b s h = absurd (omega arith)
falls m (c ∷ cs) zero d b s h = ltb-true c.block m b
falls m (c ∷ cs) (suc i) d b s h =
    let low = ltb-true c.block m b in
    let ih = falls c.block cs i d (both-left (is_below c.block cs) (descends cs) s) (both-right (is_below c.block cs) (descends cs) s) (omega arith) in
    omega arith

fall-le : (cs : List Cell) (i j : ℕ) (d : Cell) → descends cs ≡ true → i ≤ j → j < length cs → (get_or cs j d).block ≤ (get_or cs i d).block
fall-le [] i j d s w h = absurd (omega arith)
fall-le (c ∷ cs) zero zero d s w h = omega arith
fall-le (c ∷ cs) zero (suc j) d s w h =
    let z = falls c.block cs j d (both-left (is_below c.block cs) (descends cs) s) (both-right (is_below c.block cs) (descends cs) s) (omega arith) in
    omega arith
fall-le (c ∷ cs) (suc i) zero d s w h = absurd (omega arith)
fall-le (c ∷ cs) (suc i) (suc j) d s w h = fall-le cs i j d (both-right (is_below c.block cs) (descends cs) s) (omega arith) (omega arith)

pub from-parted : (bound : ℕ) (cs : List Cell) → descends cs ≡ true → IsPartitionedBy (is_from bound) cs
from-parted bound cs s i j d w h e =
    let x = leb-true bound (get_or cs j d).block e in
    let y = fall-le cs i j d s w h in
    le-leb bound (get_or cs i d).block (omega arith)

none-above : (m b : ℕ) (cs : List Cell) → is_below m cs ≡ true → descends cs ≡ true → m ≤ b → find_cell b cs ≡ None
none-above m b [] h d w = refl
none-above m b (c ∷ cs) h d w =
    let low = ltb-true c.block m h in
    let ih = none-above c.block b cs (both-left (is_below c.block cs) (descends cs) d) (both-right (is_below c.block cs) (descends cs) d) (omega arith) in
    ap (λ t. cond t (Some c) (find_cell b cs)) (ne_eqb c.block b (λ e. omega arith)) ∙ ih

le-false : (a b : ℕ) → b < a → leb a b ≡ false
le-false a b h = go (leb a b) refl
  where
    go : (u : Bool) → leb a b ≡ u → leb a b ≡ false
    go true e = let z = leb-true a b e in absurd (omega arith)
    go false e = e

abbrev Empty : List Cell → ℕ → Type 0
Empty cs b = seen_in cs b ≡ unseen

abbrev found : ℕ → List Cell → Option ℕ
found bound cs = option_map (λ c. c.block) (slice_get cs (leading (is_from bound) cs))

other : (c : Cell) (cs : List Cell) (b : ℕ) → (c.block ≡ b → ⊥) → Empty cs b → Empty (c ∷ cs) b
other c cs b ne h = ap (λ t. seen (cond t (Some c) (find_cell b cs))) (ne_eqb c.block b ne) ∙ h

widen : (bound : ℕ) (c : Cell) (cs : List Cell) (q : Option ℕ) → bound ≤ c.block → IsLastBefore (Empty cs) bound q → IsLastBefore (Empty (c ∷ cs)) bound q
widen bound c cs None le h = λ b lt. other c cs b (λ e. omega arith) (h b lt)
widen bound c cs (Some r) le h = (h.0, λ b more lt. other c cs b (λ e. omega arith) (h.1 b more lt))

last-found : (bound : ℕ) (cs : List Cell) → descends cs ≡ true → IsLastBefore (Empty cs) bound (found bound cs)
last-found bound [] d = λ b lt. refl
last-found bound (c ∷ cs) d = go (nat_le bound c.block) refl (last-found bound cs (both-right (is_below c.block cs) (descends cs) d))
  where
    place : (u : Bool) → nat_le bound c.block ≡ u → leading (is_from bound) (c ∷ cs) ≡ cond u (suc (leading (is_from bound) cs)) 0
    place u e = ap (λ b. cond b (suc (leading (is_from bound) cs)) 0) e

    go : (u : Bool) → nat_le bound c.block ≡ u → IsLastBefore (Empty cs) bound (found bound cs) → IsLastBefore (Empty (c ∷ cs)) bound (found bound (c ∷ cs))
    go true e ih = subst (λ k. IsLastBefore (Empty (c ∷ cs)) bound (option_map (λ x. x.block) (slice_get (c ∷ cs) k))) (sym (place true e)) (widen bound c cs (found bound cs) (leb-true bound c.block e) ih)
    go false e ih =
        let low : c.block < bound = leb-false bound c.block e in
        subst (λ k. IsLastBefore (Empty (c ∷ cs)) bound (option_map (λ x. x.block) (slice_get (c ∷ cs) k))) (sym (place false e)) (low, λ b more lt. other c cs b (λ q. omega arith) (ap seen (none-above c.block b cs (both-left (is_below c.block cs) (descends cs) d) (both-right (is_below c.block cs) (descends cs) d) (omega arith))))

pub last-here : (bound : ℕ) (cs : List Cell) (at : ℕ) (d : Cell) → descends cs ≡ true → at ≡ leading (is_from bound) cs → at < length cs → d ≡ get_or cs at d → IsLastBefore (λ b. seen_in cs b ≡ unseen) bound (Some d.block)
last-here bound cs at d s e within own =
    let there : slice_get cs (leading (is_from bound) cs) ≡ Some d = ap (slice_get cs) (sym e) ∙ slice_get-get_or cs at d within ∙ ap (λ x. Some x) (sym own) in
    subst (λ q. IsLastBefore (Empty cs) bound (option_map (λ x. x.block) q)) there (last-found bound cs s)

pub last-none : (bound : ℕ) (cs : List Cell) (at : ℕ) → descends cs ≡ true → at ≡ leading (is_from bound) cs → length cs ≤ at → IsLastBefore (λ b. seen_in cs b ≡ unseen) bound None
last-none bound cs at s e past =
    let there : slice_get cs (leading (is_from bound) cs) ≡ None = ap (slice_get cs) (sym e) ∙ slice_get_past cs at past in
    subst (λ q. IsLastBefore (Empty cs) bound (option_map (λ x. x.block) q)) there (last-found bound cs s)
