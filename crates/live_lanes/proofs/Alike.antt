-- Lanes of one outline have the same points.
use Rattle.std.proofs.lemmas.Bool.Decides.{eqb_tells}
use Rattle.std.proofs.lemmas.Option.{slice_get-get_or}
use Rattle.std.proofs.Common.{◌≡◌, ◌≢◌, ◌⊎◌, inl, inr, eqb, get_or, ◌<◌, ◌≤◌, ℕ, zero, suc, ◌+◌, Bool, true, false, cond, ◌&&◌, ◌||◌, length, List, [], ◌∷◌, Option, None, Some, refl, sym, ap, ◌∙◌, subst, arith, map}
use Rattle.std.specs.Prelude.{slice_get, nat_eq, nat_le}
use Rattle.std.specs.List.{list_any}
use Rattle.mir_func.specs.declared.func.Block.{Block}
use Rattle.live_lanes.specs.declared.row.PieceEnd.{PieceEnd}
use Rattle.live_lanes.specs.declared.row.PieceEnd.TheVariants as ends
use Rattle.live_lanes.specs.declared.row.Cell.{Cell}
use Rattle.live_lanes.specs.declared.row.DefPiece.{DefPiece}
use Rattle.live_lanes.specs.declared.row.LaneRange.{LaneRange}
use Rattle.live_lanes.specs.declared.table.Table.{Table}
use Rattle.live_lanes.specs.Table.{Numbers, Begun, begun, Seen, unseen, seen, seen_cell, seen_in, find_cell, leading, is_begun, piece_at, begun_end, end_in, entry_rank, exit_rank}
use Rattle.live_lanes.specs.Reach.{reaches, seen_at}
use Rattle.live_lanes.specs.Entered.{rows_seen, cells_of}
use Rattle.live_lanes.specs.Held.{held_at, writes_at, any_held, inside, passing, one, block_held, sum_below}
use Rattle.live_lanes.specs.Ordered.{ids_of}
use Rattle.live_lanes.specs.Alike.{Bounds, bounds, Outline, outline}
use Rattle.live_lanes.proofs.Segments.{leading-map}

-- points by outlines

abbrev begins-by : Numbers → ℕ → Bounds → Bool
begins-by slots at b = nat_le (exit_rank slots b.start) at

abbrev writes-by : Numbers → ℕ → Bounds → Bool
writes-by slots at b = nat_eq (exit_rank slots b.start) at || (b.early && nat_eq (entry_rank slots b.start) at)

abbrev end-of : Option Bounds → PieceEnd
end-of None = ends.Never
end-of (Some b) = b.end

abbrev end-by : Outline → ℕ → PieceEnd
end-by o zero = o.end
end-by o (suc k) = end-of (slice_get o.pieces k)

abbrev held-by : Numbers → Outline → ℕ → Bool
held-by slots o at = reaches slots (end-by o (leading (begins-by slots at) o.pieces)) at || list_any (writes-by slots at) o.pieces

ends-map : (ss : List Begun) (k : ℕ) → begun_end (slice_get ss k) ≡ end-of (slice_get (map bounds ss) k)
ends-map [] k = refl
ends-map (s ∷ ss) zero = refl
ends-map (s ∷ ss) (suc k) = ends-map ss k

end-same : (v : Seen) (n : ℕ) → end_in v n ≡ end-by (outline v) n
end-same v zero = refl
end-same v (suc k) = ends-map v.segments k

writes-map : (slots : Numbers) (at : ℕ) (ss : List Begun) → list_any (writes_at slots at) ss ≡ list_any (writes-by slots at) (map bounds ss)
writes-map slots at [] = refl
writes-map slots at (s ∷ ss) = ap (λ b. writes_at slots at s || b) (writes-map slots at ss)

held-same : (slots : Numbers) (v : Seen) (at : ℕ) → held_at slots v at ≡ held-by slots (outline v) at
held-same slots v at =
    let place : piece_at slots at v.segments ≡ leading (begins-by slots at) (map bounds v.segments) = sym (leading-map bounds (begins-by slots at) v.segments) in
    let end : end_in v (piece_at slots at v.segments) ≡ end-by (outline v) (leading (begins-by slots at) (map bounds v.segments)) = end-same v (piece_at slots at v.segments) ∙ ap (end-by (outline v)) place in
    ap (λ e. reaches slots e at || list_any (writes_at slots at) v.segments) end ∙ ap (λ b. reaches slots (end-by (outline v) (leading (begins-by slots at) (map bounds v.segments))) at || b) (writes-map slots at v.segments)

pub held-alike : (slots : Numbers) (v w : Seen) (at : ℕ) → outline v ≡ outline w → held_at slots v at ≡ held_at slots w at
held-alike slots v w at e = held-same slots v at ∙ ap (λ o. held-by slots o at) e ∙ sym (held-same slots w at)

-- lists that agree place by place

abbrev pub Agree : {X : Type 0} → (X → X → Type 0) → List X → List X → ℕ → Type 0
Agree {X} P xs ys k = (j : ℕ) (x y : X) → j < k → slice_get xs j ≡ Some x → slice_get ys j ≡ Some y → P x y

pub maps-agree : {X Y : Type 0} (f : X → Y) (xs ys : List X) → length xs ≡ length ys → Agree (λ x y. f x ≡ f y) xs ys (length xs) → map f xs ≡ map f ys
maps-agree f [] [] e h = refl
maps-agree f [] (y ∷ ys) e h = absurd (omega arith)
maps-agree f (x ∷ xs) [] e h = absurd (omega arith)
maps-agree f (x ∷ xs) (y ∷ ys) e h =
    let first : f x ≡ f y = h 0 x y (omega arith) refl refl in
    let rest = maps-agree f xs ys (omega arith) (λ j a b w p q. h (suc j) a b (omega arith) p q) in
    ap (λ z. z ∷ map f xs) first ∙ ap (λ zs. f y ∷ zs) rest

some-inj : {X : Type 0} (x y : X) → Some x ≡ Some y → x ≡ y
some-inj x y e = cc

read-at : {X : Type 0} (xs : List X) (j k : ℕ) (a x : X) → j ≡ k → k < length xs → a ≡ get_or xs k a → slice_get xs j ≡ Some x → a ≡ x
read-at xs j k a x e w f g = some-inj a x (ap (λ y. Some y) f ∙ sym (slice_get-get_or xs k a w) ∙ sym (ap (slice_get xs) e) ∙ g)

pub agree-more : {X : Type 0} (P : X → X → Type 0) (xs ys : List X) (k : ℕ) (a b : X) → Agree P xs ys k → k < length xs → k < length ys → a ≡ get_or xs k a → b ≡ get_or ys k b → P a b → Agree P xs ys (k + 1)
agree-more {X = X} P xs ys k a b h wx wy ea eb p = λ j x y w e f. go (eqb j k) j x y (eqb_tells j k) w e f
  where
    go : (t : Bool) (j : ℕ) (x y : X) → ((t ≡ true) × (j ≡ k)) ⊎ ((t ≡ false) × (j ≢ k)) → j < k + 1 → slice_get xs j ≡ Some x → slice_get ys j ≡ Some y → P x y
    go t j x y (inl q) w e f = subst (P x) (read-at ys j k b y q.1 wy eb f) (subst (λ z. P z b) (read-at xs j k a x q.1 wx ea e) p)
    go t j x y (inr q) w e f = h j x y (let n = q.1 in omega arith) e f

-- cells of the same block and outline
abbrev pub SameCell : Cell → Cell → Type 0
SameCell a b = (a.block ≡ b.block) × (outline (seen_cell a) ≡ outline (seen_cell b))

both-maps : (ss : List DefPiece) → map bounds (map begun ss) ≡ map (λ s. bounds (begun s)) ss
both-maps [] = refl
both-maps (s ∷ ss) = ap (λ xs. bounds (begun s) ∷ xs) (both-maps ss)

pub outline-same : (a b : Cell) → a.first.end ≡ b.first.end → map (λ s. bounds (begun s)) a.segments.items ≡ map (λ s. bounds (begun s)) b.segments.items → outline (seen_cell a) ≡ outline (seen_cell b)
outline-same a b e f = ap (λ x. record { end = x; pieces = map bounds (map begun a.segments.items) }) e ∙ ap (λ xs. record { end = b.first.end; pieces = xs }) (both-maps a.segments.items ∙ f ∙ sym (both-maps b.segments.items))

pub cells-agree : (xs ys : List Cell) → length xs ≡ length ys → Agree SameCell xs ys (length xs) → (n : ℕ) → outline (seen_in xs n) ≡ outline (seen_in ys n)
cells-agree [] [] e h n = refl
cells-agree [] (y ∷ ys) e h n = absurd (omega arith)
cells-agree (x ∷ xs) [] e h n = absurd (omega arith)
cells-agree (x ∷ xs) (y ∷ ys) e h n =
    let first = h 0 x y (omega arith) refl refl in
    let rest = cells-agree xs ys (omega arith) (λ j a b w p q. h (suc j) a b (omega arith) p q) n in
    go (nat_eq x.block n) (nat_eq y.block n) (ap (λ k. nat_eq k n) first.0) first.1 rest
  where
    go : (t u : Bool) → t ≡ u → outline (seen_cell x) ≡ outline (seen_cell y) → outline (seen_in xs n) ≡ outline (seen_in ys n) → outline (seen (cond t (Some x) (find_cell n xs))) ≡ outline (seen (cond u (Some y) (find_cell n ys)))
    go true true e f g = f
    go true false e f g = absurd (cc)
    go false true e f g = absurd (cc)
    go false false e f g = g

pub seen-cells : (rows : List LaneRange) (l n : ℕ) → rows_seen rows l n ≡ seen_in (cells_of rows l) n
seen-cells rows l n = go (slice_get rows l)
  where
    go : (r : Option LaneRange) → elim r [ None ↦ unseen | Some c ↦ seen_in c.cells.items n ] ≡ seen_in (elim r [ None ↦ [] | Some c ↦ c.cells.items ]) n
    go None = refl
    go (Some r) = refl

-- one lane for all of the same outlines

pub lanes-first : (rows : List LaneRange) (first j n : ℕ) → j < 1 → outline (rows_seen rows first n) ≡ outline (rows_seen rows (first + j) n)
lanes-first rows first j n w = let e : first ≡ first + j = omega (arith, w) in ap (λ l. outline (rows_seen rows l n)) e

pub lanes-more : (rows : List LaneRange) (first k : ℕ) (xs ys : List Cell) → ((j n : ℕ) → j < k → outline (rows_seen rows first n) ≡ outline (rows_seen rows (first + j) n)) → xs ≡ cells_of rows first → ys ≡ cells_of rows (first + k) → ((n : ℕ) → outline (seen_in xs n) ≡ outline (seen_in ys n)) → (j n : ℕ) → j < k + 1 → outline (rows_seen rows first n) ≡ outline (rows_seen rows (first + j) n)
lanes-more rows first k xs ys h ex ey p j n w = go (eqb j k) (eqb_tells j k)
  where
    last : outline (rows_seen rows first n) ≡ outline (rows_seen rows (first + k) n)
    last = ap outline (seen-cells rows first n ∙ ap (λ cs. seen_in cs n) (sym ex)) ∙ p n ∙ ap outline (ap (λ cs. seen_in cs n) ey ∙ sym (seen-cells rows (first + k) n))

    go : (t : Bool) → ((t ≡ true) × (j ≡ k)) ⊎ ((t ≡ false) × (j ≢ k)) → outline (rows_seen rows first n) ≡ outline (rows_seen rows (first + j) n)
    go t (inl q) = last ∙ ap (λ i. outline (rows_seen rows (first + i) n)) (sym q.1)
    go t (inr q) = h j n (let d = q.1 in omega arith)

or-same : (a : Bool) → (a || a) ≡ a
or-same true = refl
or-same false = refl

module _ (slots : Numbers) (rows : List LaneRange) (first b at : ℕ) where
  abbrev here : Bool
  here = held_at slots (rows_seen rows first b) at

  some-held : (n : ℕ) → ((k : ℕ) → k < suc n → outline (rows_seen rows first b) ≡ outline (rows_seen rows (first + k) b)) → any_held slots rows first (suc n) b at ≡ here
  some-held zero h = ap (λ t. t || false) (sym (held-alike slots (rows_seen rows first b) (rows_seen rows (first + 0) b) at (h 0 (omega arith)))) ∙ go here
    where
      go : (t : Bool) → (t || false) ≡ t
      go true = refl
      go false = refl
  some-held (suc n) h =
      let ih = some-held n (λ k w. h k (omega arith)) in
      let last = sym (held-alike slots (rows_seen rows first b) (rows_seen rows (first + suc n) b) at (h (suc n) (omega arith))) in
      ap (λ t. t || any_held slots rows first (suc n) b at) last ∙ ap (λ t. here || t) ih ∙ or-same here

  pub counted-alike : (count : ℕ) → 1 ≤ count → ((k : ℕ) → k < count → outline (rows_seen rows first b) ≡ outline (rows_seen rows (first + k) b)) → any_held slots rows first 1 b at ≡ any_held slots rows first count b at
  counted-alike zero w h = absurd (omega arith)
  counted-alike (suc n) w h = some-held 0 (λ k l. h k (omega arith)) ∙ sym (some-held n h)

inside-same : (slots : Numbers) (p q : ℕ → Bool) (ids : List ℕ) → ((at : ℕ) → p at ≡ q at) → inside slots p ids ≡ inside slots q ids
inside-same slots p q [] h = refl
inside-same slots p q (id ∷ ids) h =
    let a = ap one (h (entry_rank slots id)) in
    let b = ap one (h (exit_rank slots id)) in
    let c = inside-same slots p q ids h in
    ap (λ n. n + (one (p (exit_rank slots id)) + inside slots p ids)) a ∙ ap (λ n. one (q (entry_rank slots id)) + (n + inside slots p ids)) b ∙ ap (λ n. one (q (entry_rank slots id)) + (one (q (exit_rank slots id)) + n)) c

passing-same : (slots : Numbers) (p q : ℕ → Bool) (ids : List ℕ) → ((at : ℕ) → p at ≡ q at) → passing slots p ids ≡ passing slots q ids
passing-same slots p q ids h = ap (λ n. n + inside slots p ids) (ap one (h 0)) ∙ ap (λ n. one (q 0) + n) (inside-same slots p q ids h)

sum-same : (f g : ℕ → ℕ) (n : ℕ) → ((b : ℕ) → f b ≡ g b) → sum_below f n ≡ sum_below g n
sum-same f g zero h = refl
sum-same f g (suc n) h = ap (λ m. m + sum_below f n) (h n) ∙ ap (λ m. g n + m) (sum-same f g n h)

-- as many points where the lanes that are counted have the same ones
pub held-sums : (x : Table) (bs : List Block) (first count own all : ℕ) → ((b at : ℕ) → any_held x.order.slots x.rows.rows.items first count b at ≡ any_held x.order.slots x.rows.rows.items own all b at) → sum_below (block_held x bs first count) (length bs) ≡ sum_below (block_held x bs own all) (length bs)
held-sums x bs first count own all h = sum-same (block_held x bs first count) (block_held x bs own all) (length bs) (λ b. go b (slice_get bs b))
  where
    go : (b : ℕ) (o : Option Block) → ◌≡◌ {A = ℕ} (elim o [ None ↦ 0 | Some e ↦ passing x.order.slots (any_held x.order.slots x.rows.rows.items first count b) (ids_of e.instrs) ]) (elim o [ None ↦ 0 | Some e ↦ passing x.order.slots (any_held x.order.slots x.rows.rows.items own all b) (ids_of e.instrs) ])
    go b None = refl
    go b (Some e) = passing-same x.order.slots (any_held x.order.slots x.rows.rows.items first count b) (any_held x.order.slots x.rows.rows.items own all b) (ids_of e.instrs) (h b)
