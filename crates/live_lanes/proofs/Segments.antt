-- Finding and changing the segments of a cell.
use Rattle.std.proofs.Common.{◌≡◌, ◌<◌, ◌≤◌, ℕ, zero, suc, ◌-◌, Bool, true, cond, ltb, length, List, [], ◌∷◌, None, Some, refl, sym, ap, ◌∙◌, arith, get_or, set, map}
use Rattle.std.proofs.lemmas.List.{length-map, get_or-map}
use Rattle.std.specs.Prelude.{slice_get}
use Rattle.std.specs.List.Sorted.{IsPartitionedBy}
use Rattle.std.proofs.lemmas.Bool.{ltb-true, leb-true, le-leb}
use Rattle.slot_index.specs.Order.{number_of}
use Rattle.live_lanes.specs.declared.row.DefPiece.{DefPiece}
use Rattle.live_lanes.specs.declared.row.Cell.{Cell}
use Rattle.live_lanes.specs.declared.row.Cause.{Cause}
use Rattle.live_lanes.specs.declared.row.PieceEnd.{PieceEnd}
use Rattle.live_lanes.specs.Table.{Numbers, exit_rank, is_begun, rises_from, changed_at, Seen, with_cause, with_end, Begun, begun, seen_cell, begun_with_cause, begun_with_end, leading, begun_move, moved_at, moved_in}
use Rattle.live_lanes.proofs.Cells.{both-left, both-right}

pub above : (slots : Numbers) (n : ℕ) (ss : List Begun) (i : ℕ) (d : Begun) → rises_from slots n ss ≡ true → i < length ss → n < number_of slots (get_or ss i d).start
above slots n [] i d r h = absurd (omega arith)
above slots n (s ∷ ss) zero d r h = ltb-true n (number_of slots s.start) (both-left (ltb n (number_of slots s.start)) (rises_from slots (number_of slots s.start) ss) r)
above slots n (s ∷ ss) (suc i) d r h =
    let low = ltb-true n (number_of slots s.start) (both-left (ltb n (number_of slots s.start)) (rises_from slots (number_of slots s.start) ss) r) in
    let ih = above slots (number_of slots s.start) ss i d (both-right (ltb n (number_of slots s.start)) (rises_from slots (number_of slots s.start) ss) r) (omega arith) in
    omega arith

rise-le : (slots : Numbers) (n : ℕ) (ss : List Begun) (i j : ℕ) (d : Begun) → rises_from slots n ss ≡ true → i ≤ j → j < length ss → number_of slots (get_or ss i d).start ≤ number_of slots (get_or ss j d).start
rise-le slots n [] i j d r w h = absurd (omega arith)
rise-le slots n (s ∷ ss) zero zero d r w h = omega arith
rise-le slots n (s ∷ ss) zero (suc j) d r w h =
    let x = above slots (number_of slots s.start) ss j d (both-right (ltb n (number_of slots s.start)) (rises_from slots (number_of slots s.start) ss) r) (omega arith) in
    omega arith
rise-le slots n (s ∷ ss) (suc i) zero d r w h = absurd (omega arith)
rise-le slots n (s ∷ ss) (suc i) (suc j) d r w h = rise-le slots (number_of slots s.start) ss i j d (both-right (ltb n (number_of slots s.start)) (rises_from slots (number_of slots s.start) ss) r) (omega arith) (omega arith)

pub begun-parted : (slots : Numbers) (at : ℕ) (ss : List Begun) → rises_from slots 0 ss ≡ true → IsPartitionedBy (is_begun slots at) ss
begun-parted slots at ss r i j d w h e =
    let x = leb-true (exit_rank slots (get_or ss j d).start) at e in
    let y = rise-le slots 0 ss i j d r w h in
    le-leb (exit_rank slots (get_or ss i d).start) at (omega arith)

pub changed-past : {X : Type 0} (f : X → X) (xs : List X) (n : ℕ) → length xs ≤ n → changed_at n f xs ≡ xs
changed-past f [] n h = refl
changed-past f (x ∷ xs) zero h = absurd (omega arith)
changed-past f (x ∷ xs) (suc n) h = ap (λ t. x ∷ t) (changed-past f xs n (omega arith))

pub leading-map : {X Y : Type 0} (f : X → Y) (test : Y → Bool) (xs : List X) → leading test (map f xs) ≡ leading (λ x. test (f x)) xs
leading-map f test [] = refl
leading-map f test (x ∷ xs) = ap (λ n. cond (test (f x)) (suc n) 0) (leading-map f test xs)

pub parted-map : {X Y : Type 0} (f : X → Y) (test : Y → Bool) (xs : List X) → IsPartitionedBy test (map f xs) → IsPartitionedBy (λ x. test (f x)) xs
parted-map f test xs p i j d w h e =
    let long : length (map f xs) ≡ length xs = length-map xs f in
    let at : (k : ℕ) → k < length xs → get_or (map f xs) k (f d) ≡ f (get_or xs k d) = λ k l. get_or-map f xs k d (f d) l in
    let there = p i j (f d) w (omega arith) (ap test (at j h) ∙ e) in
    ap test (sym (at i (omega arith))) ∙ there

pub map-set : {X Y : Type 0} (f : X → Y) (g : Y → Y) (xs : List X) (k : ℕ) (x y : X) → k < length xs → x ≡ get_or xs k x → f y ≡ g (f x) → map f (set xs k y) ≡ changed_at k g (map f xs)
map-set f g [] k x y h e q = absurd (omega arith)
map-set f g (z ∷ xs) zero x y h e q = ap (λ t. t ∷ map f xs) (q ∙ ap (λ t. g (f t)) e)
map-set f g (z ∷ xs) (suc k) x y h e q = ap (λ t. f z ∷ t) (map-set f g xs k x y (omega arith) e q)

module _ (c : Cell) (x y : DefPiece) where
  pub set-cause : (index : ℕ) (cause : Cause) → (index ≡ 0 → ⊥) → index - 1 < length c.segments.items → x ≡ get_or c.segments.items (index - 1) x → begun y ≡ begun_with_cause cause (begun x) → record (seen_cell c) { segments = map begun (set c.segments.items (index - 1) y) } ≡ with_cause (seen_cell c) index cause
  set-cause zero cause ne h e f = absurd (ne refl)
  set-cause (suc k) cause ne h e f =
      let one : suc k - 1 ≡ k = omega arith in
      let h' : k < length c.segments.items = omega arith in
      let e' : x ≡ get_or c.segments.items k x = e ∙ ap (λ n. get_or c.segments.items n x) one in
      ap (λ n. record (seen_cell c) { segments = map begun (set c.segments.items n y) }) one ∙ ap (λ ss. record (seen_cell c) { segments = ss }) (map-set begun (begun_with_cause cause) c.segments.items k x y h' e' f)

  pub set-end : (index : ℕ) (end : PieceEnd) → (index ≡ 0 → ⊥) → index - 1 < length c.segments.items → x ≡ get_or c.segments.items (index - 1) x → begun y ≡ begun_with_end end (begun x) → record (seen_cell c) { segments = map begun (set c.segments.items (index - 1) y) } ≡ with_end (seen_cell c) index end
  set-end zero end ne h e f = absurd (ne refl)
  set-end (suc k) end ne h e f =
      let one : suc k - 1 ≡ k = omega arith in
      let h' : k < length c.segments.items = omega arith in
      let e' : x ≡ get_or c.segments.items k x = e ∙ ap (λ n. get_or c.segments.items n x) one in
      ap (λ n. record (seen_cell c) { segments = map begun (set c.segments.items n y) }) one ∙ ap (λ ss. record (seen_cell c) { segments = ss }) (map-set begun (begun_with_end end) c.segments.items k x y h' e' f)

pub past-cause : (v : Seen) (index : ℕ) (cause : Cause) → (index ≡ 0 → ⊥) → length v.segments ≤ index - 1 → v ≡ with_cause v index cause
past-cause v zero cause ne h = absurd (ne refl)
past-cause v (suc k) cause ne h = ap (λ ss. record v { segments = ss }) (sym (changed-past (begun_with_cause cause) v.segments k (omega arith)))

pub past-end : (v : Seen) (index : ℕ) (end : PieceEnd) → (index ≡ 0 → ⊥) → length v.segments ≤ index - 1 → v ≡ with_end v index end
past-end v zero end ne h = absurd (ne refl)
past-end v (suc k) end ne h = ap (λ ss. record v { segments = ss }) (sym (changed-past (begun_with_end end) v.segments k (omega arith)))

get-map : {X Y : Type 0} (f : X → Y) (xs : List X) (k : ℕ) (x : X) → k < length xs → x ≡ get_or xs k x → slice_get (map f xs) k ≡ Some (f x)
get-map f [] k x h e = absurd (omega arith)
get-map f (y ∷ xs) zero x h e = ap (λ t. Some (f t)) (sym e)
get-map f (y ∷ xs) (suc k) x h e = get-map f xs k x (omega arith) e

get-past : {X : Type 0} (xs : List X) (k : ℕ) → length xs ≤ k → slice_get xs k ≡ None
get-past [] k h = refl
get-past (x ∷ xs) zero h = absurd (omega arith)
get-past (x ∷ xs) (suc k) h = get-past xs k (omega arith)

pub moved-here : (c : Cell) (index : ℕ) (x : DefPiece) → (index ≡ 0 → ⊥) → index ≤ length c.segments.items → x ≡ get_or c.segments.items (index - 1) x → begun_move (begun x) ≡ moved_in (seen_cell c) index
moved-here c zero x ne h e = absurd (ne refl)
moved-here c (suc k) x ne h e =
    let one : suc k - 1 ≡ k = omega arith in
    sym (ap moved_at (get-map begun c.segments.items k x (omega arith) (e ∙ ap (λ n. get_or c.segments.items n x) one)))

pub moved-past : (c : Cell) (index : ℕ) → (index ≡ 0 → ⊥) → length c.segments.items < index → None ≡ moved_in (seen_cell c) index
moved-past c zero ne h = absurd (ne refl)
moved-past c (suc k) ne h = let n = length-map c.segments.items begun in sym (ap moved_at (get-past (map begun c.segments.items) k (omega arith)))
