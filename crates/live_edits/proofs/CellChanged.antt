-- Cells that are changed in place, and what takes the changes back.
use Rattle.std.proofs.Common.{◌≡◌, ◌<◌, ◌≤◌, ◌-◌, ◌+◌, ◌∙◌, ℕ, zero, suc, Bool, true, cond, ◌&&◌, length, List, [], ◌∷◌, ◌++◌, Option, map, take, drop, get_or, set, refl, sym, ap, arith}
use Rattle.std.specs.Prelude.{nat_lt}
use Rattle.std.specs.List.{insert, remove}
use Rattle.std.proofs.lemmas.List.{get_or-map, map-append, take-map, drop-map, length-map}
use Rattle.std.proofs.lemmas.Bool.{le-leb, lt-ltb}
use Rattle.live_lanes.specs.declared.row.LaneUse.{LaneUse}
use Rattle.live_lanes.specs.declared.row.DefPiece.{DefPiece}
use Rattle.live_lanes.specs.declared.row.Cell.{Cell}
use Rattle.live_lanes.specs.Table.{Seen, seen_cell, begun, changed_at}
use Rattle.live_lanes.proofs.Segments.{map-set, changed-past}
use Rattle.live_edits.specs.CellChanges.{begun_with_readings, with_readings, begun_with_writing, has_place}

-- lists

pub changed-back : {X : Type 0} (f g : X → X) (k : ℕ) (xs : List X) (x : X) → k < length xs → x ≡ get_or xs k x → g (f x) ≡ x → changed_at k g (changed_at k f xs) ≡ xs
changed-back f g k [] x h e b = absurd (omega arith)
changed-back f g zero (y ∷ xs) x h e b = ap (λ t. t ∷ xs) (ap (λ t. g (f t)) (sym e) ∙ b ∙ e)
changed-back f g (suc k) (y ∷ xs) x h e b = ap (λ t. y ∷ t) (changed-back f g k xs x (omega arith) e b)

pub remove-inserted : {X : Type 0} (xs : List X) (n : ℕ) (x : X) → n ≤ length xs → remove (insert xs n x) n ≡ xs
remove-inserted xs zero x h = refl
remove-inserted [] (suc n) x h = absurd (omega arith)
remove-inserted (y ∷ xs) (suc n) x h = ap (λ t. y ∷ t) (remove-inserted xs n x (omega arith))

pub insert-removed : {X : Type 0} (xs : List X) (n : ℕ) (x : X) → n < length xs → x ≡ get_or xs n x → insert (remove xs n) n x ≡ xs
insert-removed [] n x h e = absurd (omega arith)
insert-removed (y ∷ xs) zero x h e = ap (λ t. t ∷ xs) e
insert-removed (y ∷ xs) (suc n) x h e = ap (λ t. y ∷ t) (insert-removed xs n x (omega arith) e)

pub map-removed : {X Y : Type 0} (f : X → Y) (xs : List X) (n : ℕ) → map f (remove xs n) ≡ remove (map f xs) n
map-removed f xs n = map-append f (take n xs) (drop (suc n) xs) ∙ (λ i. sym (take-map f n xs) i ++ sym (drop-map f (suc n) xs) i)

pub map-inserted : {X Y : Type 0} (f : X → Y) (xs : List X) (n : ℕ) (x : X) → map f (insert xs n x) ≡ insert (map f xs) n (f x)
map-inserted f xs n x = map-append f (take n xs) (x ∷ drop n xs) ∙ (λ i. sym (take-map f n xs) i ++ f x ∷ sym (drop-map f n xs) i)

pub remove-past : {X : Type 0} (xs : List X) (n : ℕ) → length xs ≤ n → remove xs n ≡ xs
remove-past [] zero h = refl
remove-past [] (suc n) h = refl
remove-past (y ∷ xs) zero h = absurd (omega arith)
remove-past (y ∷ xs) (suc n) h = ap (λ t. y ∷ t) (remove-past xs n (omega arith))

pub length-removed : {X : Type 0} (xs : List X) (n : ℕ) → n < length xs → length (remove xs n) + 1 ≡ length xs
length-removed [] n h = absurd (omega arith)
length-removed (y ∷ xs) zero h = omega arith
length-removed (y ∷ xs) (suc n) h = let r = length-removed xs n (omega arith) in omega (arith, r)

pub placed : (at count len : ℕ) → at ≤ len → len < count → has_place at count len ≡ true
placed at count len h k = ap (λ t. t && nat_lt len count) (le-leb at len h) ∙ lt-ltb len count k

-- readings

module _ (c : Cell) (x y : DefPiece) where
  pub put-readings : (index : ℕ) (rs : List LaneUse) → (index ≡ 0 → ⊥) → index - 1 < length c.segments.items → x ≡ get_or c.segments.items (index - 1) x → begun y ≡ begun_with_readings rs (begun x) → record (seen_cell c) { segments = map begun (set c.segments.items (index - 1) y) } ≡ with_readings (seen_cell c) index rs
  put-readings zero rs ne h e f = absurd (ne refl)
  put-readings (suc k) rs ne h e f =
      let one : suc k - 1 ≡ k = omega arith in
      let h' : k < length c.segments.items = omega arith in
      let e' : x ≡ get_or c.segments.items k x = e ∙ ap (λ n. get_or c.segments.items n x) one in
      ap (λ n. record (seen_cell c) { segments = map begun (set c.segments.items n y) }) one ∙ ap (λ ss. record (seen_cell c) { segments = ss }) (map-set begun (begun_with_readings rs) c.segments.items k x y h' e' f)

  pub readings-back : (index : ℕ) (rs old : List LaneUse) → (index ≡ 0 → ⊥) → index - 1 < length c.segments.items → x ≡ get_or c.segments.items (index - 1) x → old ≡ x.piece.readings.items → with_readings (with_readings (seen_cell c) index rs) index old ≡ seen_cell c
  readings-back zero rs old ne h e f = absurd (ne refl)
  readings-back (suc k) rs old ne h e f =
      let one : suc k - 1 ≡ k = omega arith in
      let h' : k < length c.segments.items = omega arith in
      let e' : x ≡ get_or c.segments.items k x = e ∙ ap (λ n. get_or c.segments.items n x) one in
      let own : begun x ≡ get_or (map begun c.segments.items) k (begun x) = ap begun e' ∙ sym (get_or-map begun c.segments.items k x (begun x) h') in
      ap (λ ss. record (seen_cell c) { segments = ss }) (changed-back (begun_with_readings rs) (begun_with_readings old) k (map begun c.segments.items) (begun x) (let l = length-map c.segments.items begun in omega (arith, l)) own (ap (λ r. record (begun x) { readings = r }) f))

pub readings-past : (v : Seen) (index : ℕ) (rs : List LaneUse) → (index ≡ 0 → ⊥) → length v.segments < index → v ≡ with_readings v index rs
readings-past v zero rs ne h = absurd (ne refl)
readings-past v (suc k) rs ne h = ap (λ ss. record v { segments = ss }) (sym (changed-past (begun_with_readings rs) v.segments k (omega arith)))

-- writings

module _ (c : Cell) (at : ℕ) (x y : DefPiece) (h : at < length c.segments.items) (e : x ≡ get_or c.segments.items at x) where
  pub put-writing : (early : Bool) (from : Option ℕ) → begun y ≡ begun_with_writing early from (begun x) → record (seen_cell c) { segments = map begun (set c.segments.items at y) } ≡ record (seen_cell c) { segments = changed_at at (begun_with_writing early from) (map begun c.segments.items) }
  put-writing early from f = ap (λ ss. record (seen_cell c) { segments = ss }) (map-set begun (begun_with_writing early from) c.segments.items at x y h e f)

  pub writing-back : (early : Bool) (from : Option ℕ) → record (seen_cell c) { segments = changed_at at (begun_with_writing x.early x.from) (changed_at at (begun_with_writing early from) (map begun c.segments.items)) } ≡ seen_cell c
  writing-back early from =
      let own : begun x ≡ get_or (map begun c.segments.items) at (begun x) = ap begun e ∙ sym (get_or-map begun c.segments.items at x (begun x) h) in
      ap (λ ss. record (seen_cell c) { segments = ss }) (changed-back (begun_with_writing early from) (begun_with_writing x.early x.from) at (map begun c.segments.items) (begun x) (let l = length-map c.segments.items begun in omega (arith, l)) own refl)

  -- the piece that goes is put back
  pub piece-back : (ss : List DefPiece) (count len : ℕ) → ss ≡ remove c.segments.items at → count ≡ length c.segments.items → len ≡ length (map begun ss) → cond (has_place at count len) (record (seen_cell c) { segments = insert (map begun ss) at (begun x) }) (record (seen_cell c) { segments = map begun ss }) ≡ seen_cell c
  piece-back ss count len f g k =
      let l = length-removed c.segments.items at h in
      let m = length-map ss begun in
      let n : length ss ≡ length (remove c.segments.items at) = ap length f in
      let own : begun x ≡ get_or (map begun c.segments.items) at (begun x) = ap begun e ∙ sym (get_or-map begun c.segments.items at x (begun x) h) in
      ap (λ t. cond t (record (seen_cell c) { segments = insert (map begun ss) at (begun x) }) (record (seen_cell c) { segments = map begun ss })) (placed at count len (omega (arith, l, m, n, k)) (omega (arith, l, m, n, k, g)))
      ∙ ap (λ ts. record (seen_cell c) { segments = insert ts at (begun x) }) (ap (map begun) f ∙ map-removed begun c.segments.items at)
      ∙ ap (λ ts. record (seen_cell c) { segments = ts }) (insert-removed (map begun c.segments.items) at (begun x) (let q = length-map c.segments.items begun in omega (arith, q)) own)

pub writing-past : (v : Seen) (at : ℕ) (early : Bool) (from : Option ℕ) → length v.segments ≤ at → v ≡ record v { segments = changed_at at (begun_with_writing early from) v.segments }
writing-past v at early from h = ap (λ ss. record v { segments = ss }) (sym (changed-past (begun_with_writing early from) v.segments at h))

-- a piece that begins
module _ (c : Cell) (at count : ℕ) (x : DefPiece) (h : at ≤ length c.segments.items) (k : length c.segments.items < count) where
  pub put-piece : (ss : List DefPiece) → ss ≡ insert c.segments.items at x → record (seen_cell c) { segments = map begun ss } ≡ cond (has_place at count (length (map begun c.segments.items))) (record (seen_cell c) { segments = insert (map begun c.segments.items) at (begun x) }) (seen_cell c)
  put-piece ss f =
      let l = length-map c.segments.items begun in
      ap (λ ts. record (seen_cell c) { segments = ts }) (ap (map begun) f ∙ map-inserted begun c.segments.items at x)
      ∙ sym (ap (λ t. cond t (record (seen_cell c) { segments = insert (map begun c.segments.items) at (begun x) }) (seen_cell c)) (placed at count (length (map begun c.segments.items)) (omega (arith, l)) (omega (arith, l))))

  pub piece-gone : (ss : List DefPiece) → ss ≡ insert c.segments.items at x → record (seen_cell c) { segments = remove (map begun ss) at } ≡ seen_cell c
  piece-gone ss f = ap (λ ts. record (seen_cell c) { segments = ts }) (sym (map-removed begun ss at) ∙ ap (map begun) (ap (λ ts. remove ts at) f ∙ remove-inserted c.segments.items at x h))
