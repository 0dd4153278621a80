-- A reading is found by the number of its instruction.
use Rattle.std.proofs.Common.{◌≡◌, ◌<◌, ◌≤◌, ℕ, zero, suc, Bool, true, false, cond, eqb-true, length, List, [], ◌∷◌, Option, None, Some, refl, sym, ap, ◌∙◌, arith, get_or, map}
use Rattle.std.specs.Prelude.{nat_eq, nat_lt, slice_get, option_map, find}
use Rattle.std.specs.List.Sorted.{IsPartitionedBy}
use Rattle.std.proofs.lemmas.Bool.{eq-eqb, ltb-true, ltb-false, lt-ltb}
use Rattle.std.proofs.lemmas.Option.{slice_get-get_or, slice_get_past}
use Rattle.slot_index.specs.Order.{number_of}
use Rattle.live_lanes.specs.declared.row.Cell.{Cell}
use Rattle.live_lanes.specs.declared.row.Piece.{Piece}
use Rattle.live_lanes.specs.declared.row.LaneUse.{LaneUse}
use Rattle.live_lanes.specs.declared.row.DefPiece.{DefPiece}
use Rattle.live_lanes.specs.Ordered.{AreRising}
use Rattle.live_lanes.specs.Table.{Numbers, begun, begun_readings, leading, piece_in, readings_in, seen_cell}
use Rattle.live_lanes.specs.Touching.{reading_ids}

abbrev pub reads_before : Numbers → ℕ → LaneUse → Bool
reads_before slots n r = nat_lt (number_of slots r.id) n

above : (slots : Numbers) (n : ℕ) (rs : List LaneUse) (j : ℕ) (d : LaneUse) → AreRising slots n (reading_ids rs) → j < length rs → n < number_of slots (get_or rs j d).id
above slots n [] j d r h = absurd (omega arith)
above slots n (i ∷ rs) zero d r h = r.0
above slots n (i ∷ rs) (suc j) d r h = let x = r.0 in let ih = above slots (number_of slots i.id) rs j d r.2 (omega arith) in omega arith

rising-le : (slots : Numbers) (n : ℕ) (rs : List LaneUse) (i j : ℕ) (d : LaneUse) → AreRising slots n (reading_ids rs) → i ≤ j → j < length rs → number_of slots (get_or rs i d).id ≤ number_of slots (get_or rs j d).id
rising-le slots n [] i j d r w h = absurd (omega arith)
rising-le slots n (x ∷ rs) zero zero d r w h = omega arith
rising-le slots n (x ∷ rs) zero (suc j) d r w h = let y = above slots (number_of slots x.id) rs j d r.2 (omega arith) in omega arith
rising-le slots n (x ∷ rs) (suc i) zero d r w h = absurd (omega arith)
rising-le slots n (x ∷ rs) (suc i) (suc j) d r w h = rising-le slots (number_of slots x.id) rs i j d r.2 (omega arith) (omega arith)

pub reads-parted : (slots : Numbers) (n : ℕ) (rs : List LaneUse) → AreRising slots 0 (reading_ids rs) → IsPartitionedBy (reads_before slots n) rs
reads-parted slots n rs r i j d w h e =
    let x = ltb-true (number_of slots (get_or rs j d).id) n e in
    let y = rising-le slots 0 rs i j d r w h in
    lt-ltb (number_of slots (get_or rs i d).id) n (omega arith)

abbrev here : ℕ → Option LaneUse → Option LaneUse
here id None = None
here id (Some r) = cond (nat_eq r.id id) (Some r) None

module _ (slots : Numbers) (id : ℕ) where
  abbrev found : List LaneUse → Option LaneUse
  found rs = find (λ r. nat_eq r.id id) rs

  none-found : (n : ℕ) (rs : List LaneUse) → AreRising slots n (reading_ids rs) → number_of slots id ≤ n → found rs ≡ None
  none-found n [] up h = refl
  none-found n (r ∷ rs) up h = go (nat_eq r.id id) refl (none-found (number_of slots r.id) rs up.2 (let z = up.0 in omega arith))
    where
      go : (t : Bool) → nat_eq r.id id ≡ t → found rs ≡ None → cond t (Some r) (found rs) ≡ None
      go true e ih = absurd (let z = up.0 in let same : number_of slots r.id ≡ number_of slots id = ap (number_of slots) (eqb-true r.id id e) in omega (arith, z, same, h))
      go false e ih = ih

  here-found : (n : ℕ) (rs : List LaneUse) → AreRising slots n (reading_ids rs) → here id (slice_get rs (leading (reads_before slots (number_of slots id)) rs)) ≡ found rs
  here-found n [] up = refl
  here-found n (r ∷ rs) up = go (nat_eq r.id id) refl (reads_before slots (number_of slots id) r) refl (here-found (number_of slots r.id) rs up.2)
    where
      go : (t : Bool) → nat_eq r.id id ≡ t → (u : Bool) → reads_before slots (number_of slots id) r ≡ u → here id (slice_get rs (leading (reads_before slots (number_of slots id)) rs)) ≡ found rs
          → here id (slice_get (r ∷ rs) (cond u (suc (leading (reads_before slots (number_of slots id)) rs)) 0)) ≡ cond t (Some r) (found rs)
      go true e true f ih = absurd (let same : number_of slots r.id ≡ number_of slots id = ap (number_of slots) (eqb-true r.id id e) in let z = ltb-true (number_of slots r.id) (number_of slots id) f in omega (arith, same, z))
      go true e false f ih = ap (λ b. cond b (Some r) None) e
      go false e true f ih = ih
      go false e false f ih = ap (λ b. cond b (Some r) None) e ∙ sym (none-found (number_of slots r.id) rs up.2 (let z = ltb-false (number_of slots r.id) (number_of slots id) f in omega arith))

  pub reads-none : (rs : List LaneUse) (place : ℕ) → place ≡ leading (reads_before slots (number_of slots id)) rs → length rs ≤ place → AreRising slots 0 (reading_ids rs) → None ≡ found rs
  reads-none rs place e past up = sym (ap (here id) (slice_get_past rs place past)) ∙ ap (λ k. here id (slice_get rs k)) e ∙ here-found 0 rs up

  reads-at : (rs : List LaneUse) (place : ℕ) (d : LaneUse) → place ≡ leading (reads_before slots (number_of slots id)) rs → place < length rs → AreRising slots 0 (reading_ids rs) → cond (nat_eq (get_or rs place d).id id) (Some (get_or rs place d)) None ≡ found rs
  reads-at rs place d e within up = sym (ap (here id) (slice_get-get_or rs place d within)) ∙ ap (λ k. here id (slice_get rs k)) e ∙ here-found 0 rs up

  pub reads-other : (rs : List LaneUse) (place : ℕ) (d : LaneUse) → place ≡ leading (reads_before slots (number_of slots id)) rs → place < length rs → ((get_or rs place d).id ≡ id → ⊥) → AreRising slots 0 (reading_ids rs) → None ≡ found rs
  reads-other rs place d e within other up = go (nat_eq (get_or rs place d).id id) refl (reads-at rs place d e within up)
    where
      go : (t : Bool) → nat_eq (get_or rs place d).id id ≡ t → cond t (Some (get_or rs place d)) None ≡ found rs → None ≡ found rs
      go true f h = absurd (other (eqb-true (get_or rs place d).id id f))
      go false f h = h

  pub reads-own : (rs : List LaneUse) (place : ℕ) (d : LaneUse) → place ≡ leading (reads_before slots (number_of slots id)) rs → place < length rs → (get_or rs place d).id ≡ id → AreRising slots 0 (reading_ids rs) → Some (get_or rs place d) ≡ found rs
  reads-own rs place d e within same up = ap (λ b. cond b (Some (get_or rs place d)) None) (sym (eq-eqb (get_or rs place d).id id same)) ∙ reads-at rs place d e within up

-- the readings of a piece of a cell
abbrev pub piece_reads : Option Piece → List LaneUse
piece_reads None = []
piece_reads (Some p) = p.readings.items

pub piece-reads : (c : Cell) (n : ℕ) → piece_reads (piece_in c n) ≡ readings_in (seen_cell c) n
piece-reads c zero = refl
piece-reads c (suc k) = go c.segments.items k
  where
    go : (ss : List DefPiece) (k : ℕ) → piece_reads (option_map (λ s. s.piece) (slice_get ss k)) ≡ begun_readings (slice_get (map begun ss) k)
    go [] k = refl
    go (s ∷ ss) zero = refl
    go (s ∷ ss) (suc k) = go ss k
