-- Lists of stretches in vectors, of which one is written, put in or taken out.
use Rattle.std.proofs.Common.{◌≡◌, ◌<◌, ◌≤◌, ◌+◌, ◌-◌, ◌/◌, ℕ, zero, suc, true, false, length, take, drop, set, map, get_or, List, [], ◌∷◌, ◌++◌, Some, refl, sym, ap, ◌∙◌, subst, arith, length-drop}
use Rattle.std.specs.Prelude.{flat_map, slice_get, Vec}
use Rattle.std.specs.Global.{Global}
use Rattle.std.specs.List.{list_any, insert, remove}
use Rattle.std.proofs.lemmas.List.{map-set, length-map, length-set, length_push, take_all}
use Rattle.interference.specs.declared.held.ListPosition.{ListPosition}
use Rattle.interference.specs.declared.held.RangeExtent.{RangeExtent}
use Rattle.interference.specs.Clashes.{is_none, part_of}
use Rattle.interference.specs.Parts.{part_in, before}
use Rattle.interference.specs.Changes.{IsCut, IsInserted}
use Rattle.interference.proofs.Parts.{flat, flat-map, part-there}
use Rattle.interference.proofs.Placed.{put-at, cut-at, set-same, flat-remove, filled-at, filled-set, filled-remove, filled-beside, flat-halved, filled-halved}

abbrev Part : Type 0
Part = Vec RangeExtent Global

abbrev parts : List (Vec RangeExtent Global) → List (List RangeExtent)
parts vs = map part_of vs

held-flat : (vs : List (Vec RangeExtent Global)) (qs : List (List RangeExtent)) → parts vs ≡ qs → flat_map part_of vs ≡ flat qs
held-flat vs qs e = sym (flat-map vs) ∙ ap flat e

map-remove : (vs : List (Vec RangeExtent Global)) (k : ℕ) → parts (remove vs k) ≡ remove (parts vs) k
map-remove [] zero = refl
map-remove [] (suc k) = refl
map-remove (v ∷ vs) zero = refl
map-remove (v ∷ vs) (suc k) = ap (λ qs. part_of v ∷ qs) (map-remove vs k)

map-insert : (vs : List (Vec RangeExtent Global)) (k : ℕ) (w : Vec RangeExtent Global) → parts (insert vs k w) ≡ insert (parts vs) k (part_of w)
map-insert vs zero w = refl
map-insert [] (suc k) w = refl
map-insert (v ∷ vs) (suc k) w = ap (λ qs. part_of v ∷ qs) (map-insert vs k w)

module _ (vs : List (Vec RangeExtent Global)) (k : ℕ) (v w : Vec RangeExtent Global) (h : k < length vs) (e : v ≡ get_or vs k v) where
  there : v.items ≡ part_in (parts vs) k
  there = part-there vs k v h e

  within : k < length (parts vs)
  within = omega (arith, length-map vs part_of)

  written : parts (set vs k w) ≡ set (parts vs) k w.items
  written = map-set part_of vs k w

  -- a part that isn't empty after it, if it wasn't before
  pub filled-written : (is_none v.items ≡ false → is_none w.items ≡ false) → (1 < length vs → list_any is_none (parts vs) ≡ false) → 1 < length (set vs k w) → list_any is_none (parts (set vs k w)) ≡ false
  filled-written some full more =
      let all = full (omega (arith, length-set vs k w)) in
      ap (list_any is_none) written ∙ filled-set (parts vs) k w.items all (some (ap is_none there ∙ filled-at (parts vs) k within all))

  pub held-same : w.items ≡ v.items → flat_map part_of (set vs k w) ≡ flat_map part_of vs
  held-same same = held-flat (set vs k w) (parts vs) (written ∙ ap (set (parts vs) k) (same ∙ there) ∙ set-same (parts vs) k) ∙ flat-map vs

  pub held-put : (gap : ListPosition) (x : RangeExtent) → k ≡ gap.part → w.items ≡ insert v.items gap.count x → IsInserted (before (parts vs) gap (suc gap.part)) x (flat_map part_of vs) (flat_map part_of (set vs k w))
  held-put gap x at is =
      let low : gap.part < length (parts vs) = subst (λ j. j < length (parts vs)) at within in
      let new : flat (set (parts vs) gap.part (insert (part_in (parts vs) gap.part) gap.count x)) ≡ flat_map part_of (set vs k w) =
      ap (λ j. flat (set (parts vs) j (insert (part_in (parts vs) j) gap.count x))) (sym at)
      ∙ sym (held-flat (set vs k w) (set (parts vs) k (insert (part_in (parts vs) k) gap.count x)) (written ∙ ap (set (parts vs) k) (is ∙ ap (λ p. insert p gap.count x) there))) in
      subst (λ ns. IsInserted (before (parts vs) gap (suc gap.part)) x (flat_map part_of vs) ns) new
      (subst (λ hs. IsInserted (before (parts vs) gap (suc gap.part)) x hs (flat (set (parts vs) gap.part (insert (part_in (parts vs) gap.part) gap.count x)))) (flat-map vs) (put-at (parts vs) gap x low))

  pub held-cut : (i : ℕ) (x : RangeExtent) → slice_get (part_in (parts vs) k) i ≡ Some x → w.items ≡ remove v.items i → IsCut x (flat_map part_of vs) (flat_map part_of (set vs k w))
  held-cut i x at is =
      let new : flat (set (parts vs) k (remove (part_in (parts vs) k) i)) ≡ flat_map part_of (set vs k w) =
      sym (held-flat (set vs k w) (set (parts vs) k (remove (part_in (parts vs) k) i)) (written ∙ ap (set (parts vs) k) (is ∙ ap (λ p. remove p i) there))) in
      subst (λ ns. IsCut x (flat_map part_of vs) ns) new
      (subst (λ hs. IsCut x hs (flat (set (parts vs) k (remove (part_in (parts vs) k) i)))) (flat-map vs) (cut-at (parts vs) k i x at))

  -- the others of a list in which one part is written
  pub filled-others : (1 < length vs → list_any is_none (parts vs) ≡ false) → 1 < length (set vs k w) → list_any is_none (remove (parts (set vs k w)) k) ≡ false
  filled-others full more = ap (λ qs. list_any is_none (remove qs k)) written ∙ filled-remove (parts vs) k w.items (full (omega (arith, length-set vs k w)))

  -- an empty part is taken away
  pub held-removed : is_none v.items ≡ true → flat_map part_of (remove vs k) ≡ flat_map part_of vs
  held-removed none = held-flat (remove vs k) (remove (parts vs) k) (map-remove vs k) ∙ flat-remove (parts vs) k within (ap is_none (sym there) ∙ none) ∙ flat-map vs

  pub filled-removed : list_any is_none (remove (parts vs) k) ≡ false → list_any is_none (parts (remove vs k)) ≡ false
  filled-removed others = ap (list_any is_none) (map-remove vs k) ∙ others

  -- or there is none
  pub filled-left : is_none v.items ≡ false → list_any is_none (remove (parts vs) k) ≡ false → list_any is_none (parts vs) ≡ false
  filled-left some others = filled-beside (parts vs) k within (ap is_none (sym there) ∙ some) others

-- what stands from a place on
pub from-there : (n : ℕ) (xs ys : List RangeExtent) → xs ≡ ys → take (length xs - n) (drop n xs) ≡ drop n ys
from-there n xs ys e = take_all (length xs - n) (drop n xs) (omega (arith, length-drop n xs)) ∙ ap (drop n) e

-- a part is made two
module _ (vs : List (Vec RangeExtent Global)) (k n : ℕ) (v r u w : Vec RangeExtent Global) (h : k < length vs) (e : v ≡ get_or vs k v) (late : r.items ≡ drop n v.items) (f : u ≡ get_or (insert vs (suc k) r) k u) (early : w.items ≡ take n u.items) where
  part-halved : v.items ≡ part_in (parts vs) k
  part-halved = part-there vs k v h e

  same-part : (xs : List (Vec RangeExtent Global)) (j : ℕ) (d : Vec RangeExtent Global) → j < length xs → get_or (insert xs (suc j) r) j d ≡ get_or xs j d
  same-part [] j d l = absurd (omega arith)
  same-part (x ∷ xs) zero d l = refl
  same-part (x ∷ xs) (suc j) d l = same-part xs j d (omega arith)

  default-part : (xs : List (Vec RangeExtent Global)) (j : ℕ) (c d : Vec RangeExtent Global) → j < length xs → get_or xs j c ≡ get_or xs j d
  default-part [] j c d l = absurd (omega arith)
  default-part (x ∷ xs) zero c d l = refl
  default-part (x ∷ xs) (suc j) c d l = default-part xs j c d (omega arith)

  same : u ≡ v
  same = f ∙ same-part vs k u h ∙ default-part vs k u v h ∙ sym e

  halves : parts (set (insert vs (suc k) r) k w) ≡ set (insert (parts vs) (suc k) (drop n (part_in (parts vs) k))) k (take n (part_in (parts vs) k))
  halves =
      map-set part_of (insert vs (suc k) r) k w ∙ ap (λ qs. set qs k w.items) (map-insert vs (suc k) r)
      ∙ ap (λ q. set (insert (parts vs) (suc k) q) k w.items) (late ∙ ap (drop n) part-halved)
      ∙ ap (set (insert (parts vs) (suc k) (drop n (part_in (parts vs) k))) k) (early ∙ ap (λ (x : Vec RangeExtent Global). take n x.items) same ∙ ap (take n) part-halved)

  pub held-halved : flat_map part_of (set (insert vs (suc k) r) k w) ≡ flat_map part_of vs
  held-halved = held-flat (set (insert vs (suc k) r) k w) _ halves ∙ flat-halved (parts vs) k n (omega (arith, length-map vs part_of)) ∙ flat-map vs

  pub filled-two : 0 < n → n < length v.items → (1 < length vs → list_any is_none (parts vs) ≡ false) → list_any is_none (parts (set (insert vs (suc k) r) k w)) ≡ false
  filled-two lo hi full = ap (list_any is_none) halves ∙ filled-halved (parts vs) k n (omega (arith, length-map vs part_of)) lo (subst (λ p. n < length p) part-halved hi) (λ more. full (omega (arith, length-map vs part_of)))

-- a first part, which holds nothing
module _ (vs ws : List (Vec RangeExtent Global)) (v : Vec RangeExtent Global) (none : length vs ≡ 0) (e : ws ≡ vs ++ v ∷ []) where
  pub held-begun : v.items ≡ [] → flat_map part_of ws ≡ flat_map part_of vs
  held-begun empty = ap (flat_map part_of) e ∙ go vs none
    where
      go : (xs : List (Vec RangeExtent Global)) → length xs ≡ 0 → flat_map part_of (xs ++ v ∷ []) ≡ flat_map part_of xs
      go [] z = ap (λ hs. hs ++ []) empty
      go (x ∷ xs) z = absurd (omega arith)

  pub filled-begun : 1 < length ws → list_any is_none (parts ws) ≡ false
  filled-begun more = absurd (let l : length ws ≡ length vs + 1 = ap length e ∙ length_push vs v in omega arith)

-- the same by the list in which the second one is put
module _ (vs xs : List (Vec RangeExtent Global)) (k n : ℕ) (v r u w : Vec RangeExtent Global) (h : k < length vs) (e : v ≡ get_or vs k v) (late : r.items ≡ drop n v.items) (put : xs ≡ insert vs (k + 1) r) (f : u ≡ get_or xs k u) (early : w.items ≡ take n u.items) where
  put-next : xs ≡ insert vs (suc k) r
  put-next = let next : k + 1 ≡ suc k = omega arith in put ∙ ap (λ j. insert vs j r) next

  read-next : u ≡ get_or (insert vs (suc k) r) k u
  read-next = f ∙ ap (λ ys. get_or ys k u) put-next

  pub held-two : flat_map part_of (set xs k w) ≡ flat_map part_of vs
  held-two = ap (λ ys. flat_map part_of (set ys k w)) put-next ∙ held-halved vs k n v r u w h e late read-next early

  pub filled-halves : 2 ≤ length (part_in (parts vs) k) → n ≡ length v.items / 2 → (1 < length vs → list_any is_none (parts vs) ≡ false) → list_any is_none (parts (set xs k w)) ≡ false
  filled-halves two half full =
      let long : length v.items ≡ length (part_in (parts vs) k) = ap length (part-there vs k v h e) in
      ap (λ ys. list_any is_none (parts (set ys k w))) put-next ∙ filled-two vs k n v r u w h e late read-next early (omega arith) (omega arith) full
