-- The last element of a list.
use Rattle.std.proofs.Common.{◌≡◌, ℕ, zero, suc, ◌+◌, ◌-◌, Bool, false, cond, length, List, [], ◌∷◌, ◌++◌, None, Some, refl, sym, ap, ◌∙◌, arith, get_or, set, map}
use Rattle.std.specs.Prelude.{slice_get}
use Rattle.live_lanes.specs.declared.row.Cell.{Cell}
use Rattle.live_lanes.specs.declared.row.LaneUse.{LaneUse}
use Rattle.live_lanes.specs.declared.row.DefPiece.{DefPiece}
use Rattle.live_lanes.specs.Table.{last_passes, changed_last, begun, is_none, with_reading, with_last, seen_cell}

some-inj : {X : Type 0} (x y : X) → Some x ≡ Some y → x ≡ y
some-inj x y e = cc

pub last-tells : {X : Type 0} (test : X → Bool) (xs : List X) (x : X) → Some x ≡ slice_get xs (length xs - 1) → test x ≡ last_passes test xs
last-tells test [] x e = absurd (cc)
last-tells test (y ∷ []) x e = ap test (some-inj x y e)
last-tells test (y ∷ z ∷ xs) x e = last-tells test (z ∷ xs) x (e ∙ ap (slice_get (y ∷ z ∷ xs)) (let n : length (y ∷ z ∷ xs) - 1 ≡ suc (length (z ∷ xs) - 1) = omega arith in n))

pub last-none : {X : Type 0} (test : X → Bool) (xs : List X) → None ≡ slice_get xs (length xs - 1) → last_passes test xs ≡ false
last-none test [] e = refl
last-none test (y ∷ []) e = absurd (cc)
last-none test (y ∷ z ∷ xs) e = last-none test (z ∷ xs) (e ∙ ap (slice_get (y ∷ z ∷ xs)) (let n : length (y ∷ z ∷ xs) - 1 ≡ suc (length (z ∷ xs) - 1) = omega arith in n))

pub last-map : {X Y : Type 0} (f : X → Y) (test : Y → Bool) (xs : List X) → last_passes test (map f xs) ≡ last_passes (λ x. test (f x)) xs
last-map f test [] = refl
last-map f test (x ∷ []) = refl
last-map f test (x ∷ y ∷ xs) = last-map f test (y ∷ xs)

pub map-set-last : {X Y : Type 0} (f : X → Y) (g : Y → Y) (xs : List X) (k : ℕ) (x y : X) → k + 1 ≡ length xs → x ≡ get_or xs k x → f y ≡ g (f x) → map f (set xs k y) ≡ changed_last g (map f xs)
map-set-last f g [] k x y h e q = absurd (omega arith)
map-set-last f g (z ∷ []) zero x y h e q = ap (λ t. t ∷ []) (q ∙ ap (λ t. g (f t)) e)
map-set-last f g (z ∷ []) (suc k) x y h e q = absurd (omega arith)
map-set-last f g (z ∷ u ∷ xs) zero x y h e q = absurd (omega arith)
map-set-last f g (z ∷ u ∷ xs) (suc k) x y h e q = ap (λ t. f z ∷ t) (map-set-last f g (u ∷ xs) k x y (omega arith) e q)

some-map : {X Y : Type 0} (f : X → Y) (xs : List X) → (length xs ≡ 0 → ⊥) → is_none (map f xs) ≡ false
some-map f [] e = absurd (e refl)
some-map f (x ∷ xs) e = refl

pub map-push : {X Y : Type 0} (f : X → Y) (xs : List X) (x : X) → map f (xs ++ x ∷ []) ≡ map f xs ++ f x ∷ []
map-push f [] x = refl
map-push f (y ∷ xs) x = ap (λ t. f y ∷ t) (map-push f xs x)

-- a reading added to the last segment
pub last-reading : (c : Cell) (r : LaneUse) (k : ℕ) (x y : DefPiece) → k + 1 ≡ length c.segments.items → x ≡ get_or c.segments.items k x → begun y ≡ record (begun x) { readings = with_last r (begun x).readings } → record (seen_cell c) { segments = map begun (set c.segments.items k y) } ≡ with_reading r (seen_cell c)
last-reading c r k x y h e f =
    ap (λ t. record (seen_cell c) { segments = t }) (map-set-last begun (λ s. record s { readings = with_last r s.readings }) c.segments.items k x y h e f)
    ∙ sym (ap (λ b. cond b (record (seen_cell c) { readings = with_last r c.first.readings.items }) (record (seen_cell c) { segments = changed_last (λ s. record s { readings = with_last r s.readings }) (seen_cell c).segments })) (some-map begun c.segments.items (λ n. omega arith)))
