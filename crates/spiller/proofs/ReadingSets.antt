-- Readings of lanes as a set: it has what the list has.
use Rattle.std.proofs.Common.{◌≡◌, ◌∙◌, ℕ, ◌+◌, ◌<◌, Bool, true, false, ◌&&◌, ◌||◌, List, [], ◌∷◌, ◌++◌, length, get_or, take, refl, sym, ap, subst, eqb-true, eq-eqb}
use Rattle.std.specs.Prelude.{nat_eq}
use Rattle.std.specs.BTreeMap.{is_at}
use Rattle.std.specs.Cmp.{nat_cmp_is}
use Rattle.std.specs.BTreeSet.{insert_key}
use Rattle.std.specs.List.{list_any}
use Rattle.std.specs.Ordering.{nat_cmp, is_eq, match_ordering, ordering_then}
use Rattle.std.specs.declared.cmp.Ordering.{Ordering}
use Rattle.std.specs.declared.cmp.Ordering.TheVariants.{Less, Equal, Greater}
use Rattle.std.proofs.lemmas.List.{take_more}
use Rattle.std.proofs.lemmas.Map.Lookups.{CmpEqualImpliesEq, exact_pairs, exact_unsigned}
use Rattle.std.proofs.lemmas.Map.Views.{tells_apart}
use Rattle.target_base.proofs.Tests.{first_of_both, second_of_both}
use Rattle.live_lanes.proofs.Cells.{both}
use Rattle.spiller.specs.declared.reaching.LaneReading.{LaneReading}
use Rattle.spiller.specs.Walks.{lists, reached_at}
use Rattle.spiller.proofs.Basics.{any-same, or-swapped, or-twice, same-truth}

-- by lane, and then by instruction
abbrev pub reading_cmp : LaneReading → LaneReading → Ordering
reading_cmp a b = ordering_then (nat_cmp a.lane b.lane) (nat_cmp a.by b.by)

exact-readings : CmpEqualImpliesEq reading_cmp
exact-readings a b h = ap (λ (p : ℕ × ℕ). record { lane = p.0; by = p.1 }) (exact_pairs nat_cmp nat_cmp exact_unsigned exact_unsigned (a.lane, a.by) (b.lane, b.by) h)

same-order : (n : ℕ) → nat_cmp n n ≡ Equal
same-order n = sym (nat_cmp_is n n Equal refl)

-- the reading of lane k by instruction i
abbrev is-reading : ℕ → ℕ → LaneReading → Bool
is-reading k i r = nat_eq r.lane k && nat_eq r.by i

at-reading : (k i : ℕ) (r : LaneReading) → is_eq (reading_cmp (reached_at k i) r) ≡ is-reading k i r
at-reading k i r = same-truth _ _ forth back
  where
    forth : is_eq (reading_cmp (reached_at k i) r) ≡ true → is-reading k i r ≡ true
    forth e = subst (λ x. is-reading k i x ≡ true) (tells_apart exact-readings (reached_at k i) r e) (both (nat_eq k k) (nat_eq i i) (eq-eqb k k refl) (eq-eqb i i refl))

    back : is-reading k i r ≡ true → is_eq (reading_cmp (reached_at k i) r) ≡ true
    back h =
        let lane : k ≡ r.lane = sym (eqb-true r.lane k (first_of_both (nat_eq r.lane k) (nat_eq r.by i) h)) in
        let by : i ≡ r.by = sym (eqb-true r.by i (second_of_both (nat_eq r.lane k) (nat_eq r.by i) h)) in
        (λ j. is_eq (ordering_then (nat_cmp (lane j) r.lane) (nat_cmp (by j) r.by)))
        ∙ (λ j. is_eq (ordering_then (same-order r.lane j) (same-order r.by j)))

pub keys-listed : (keys : List LaneReading) (k i : ℕ) → list_any (is_at (reading_cmp (reached_at k i))) keys ≡ lists keys k i
keys-listed keys k i = any-same (is_at (reading_cmp (reached_at k i))) (is-reading k i) keys (at-reading k i)

-- one more is put into the set, and stands at the end of the list

inserted : (keys : List LaneReading) (r : LaneReading) (k i : ℕ) → lists (insert_key reading_cmp keys r) k i ≡ lists (r ∷ keys) k i
inserted [] r k i = refl
inserted (x ∷ xs) r k i = go (reading_cmp r x) refl (inserted xs r k i)
  where
    go : (c : Ordering) → reading_cmp r x ≡ c → lists (insert_key reading_cmp xs r) k i ≡ lists (r ∷ xs) k i → lists (match_ordering c (r ∷ x ∷ xs) (x ∷ xs) (x ∷ insert_key reading_cmp xs r)) k i ≡ lists (r ∷ x ∷ xs) k i
    go Less e rest = refl
    go Equal e rest =
        let same : r ≡ x = exact-readings r x e in
        or-twice (is-reading k i x) (lists xs k i) ∙ ap (λ y. is-reading k i y || lists (x ∷ xs) k i) (sym same)
    go Greater e rest = ap (λ b. is-reading k i x || b) rest ∙ or-swapped (is-reading k i x) (is-reading k i r) (lists xs k i)

listed-last : (xs : List LaneReading) (r : LaneReading) (k i : ℕ) → lists (r ∷ xs) k i ≡ lists (xs ++ r ∷ []) k i
listed-last [] r k i = refl
listed-last (x ∷ xs) r k i = or-swapped (is-reading k i r) (is-reading k i x) (lists xs k i) ∙ ap (λ b. is-reading k i x || b) (listed-last xs r k i)

pub set-more : (rs : List LaneReading) (n : ℕ) (d : LaneReading) (old new : List LaneReading) → n < length rs → new ≡ insert_key reading_cmp old (get_or rs n d) → ((k i : ℕ) → lists old k i ≡ lists (take n rs) k i)
    → (k i : ℕ) → lists new k i ≡ lists (take (n + 1) rs) k i
set-more rs n d old new h is was k i =
    let r = get_or rs n d in
    ap (λ ks. lists ks k i) is
    ∙ (inserted old r k i
    ∙ (ap (λ b. is-reading k i r || b) (was k i)
    ∙ (listed-last (take n rs) r k i
    ∙ ap (λ xs. lists xs k i) (sym (take_more rs n d h)))))
