-- What is repeated for readings, place by place.
use Rattle.std.proofs.Common.{◌≡◌, ◌∙◌, ℕ, ◌+◌, ◌<◌, Bool, true, false, cond, ◌&&◌, List, [], ◌∷◌, ◌++◌, Option, Some, None, filter, flat_map, length, get_or, take, refl, sym, ap, append-nil, eqb-true, eq-eqb}
use Rattle.std.specs.Prelude.{find, nat_eq, Vec}
use Rattle.std.specs.BTreeMap.{BTreeMap, get, is_at}
use Rattle.std.specs.Global.{Global}
use Rattle.std.specs.Ordering.{nat_cmp}
use Rattle.std.proofs.lemmas.List.{take_more}
use Rattle.std.proofs.lemmas.List.Elements.{filter-append}
use Rattle.std.proofs.lemmas.List.Concat.{flat_map-append}
use Rattle.std.proofs.lemmas.Map.Lookups.{exact_unsigned}
use Rattle.std.proofs.lemmas.Map.Views.{tells_apart}
use Rattle.live_edits.proofs.JoiningLaw.{same-other}
use Rattle.spiller.specs.declared.remat.RematSource.{RematSource}
use Rattle.spiller.specs.declared.remat.RematUse.{RematUse}
use Rattle.spiller.specs.declared.remat.UseKey.{UseKey}
use Rattle.spiller.specs.Listed.{told_sources}
use Rattle.spiller.specs.Readings.{placed_at, same_key, same_ways, sources_at}
use Rattle.spiller.proofs.Basics.{is-false}

-- one is put behind the others of its place
pub put-there : (old new : ℕ → List RematSource) (s : RematSource) → new s.key.at ≡ old s.key.at ++ s ∷ [] → ((n : ℕ) → nat_eq n s.key.at ≡ false → new n ≡ old n) → (n : ℕ) → new n ≡ old n ++ placed_at n (s ∷ [])
put-there old new s own others n = go (nat_eq n s.key.at) refl
  where
    go : (b : Bool) → nat_eq n s.key.at ≡ b → new n ≡ old n ++ cond b (s ∷ []) []
    go true e = let same : n ≡ s.key.at = eqb-true n s.key.at e in ap new same ∙ (own ∙ ap (λ m. old m ++ s ∷ []) (sym same))
    go false e = others n e ∙ sym (append-nil (old n))

-- another key than the one that is looked for
apart-keys : (at n : ℕ) → nat_eq n at ≡ false → is_at (nat_cmp at) n ≡ false
apart-keys at n e = is-false (is_at (nat_cmp at) n) (λ h. let z : true ≡ false = sym (eq-eqb n at (sym (tells_apart exact_unsigned at n h))) ∙ e in cc)

list_in : Option (Vec RematSource Global) → List RematSource
list_in q = elim q [ None ↦ [] | Some v ↦ v.items ]

-- the same in a map, from which the list of the place is taken before it is put back with one more
pub put-source : (old mid new : BTreeMap ℕ (Vec RematSource Global)) (s : RematSource) (list : Vec RematSource Global) → list.items ≡ sources_at old s.key.at ++ s ∷ [] → get nat_cmp new s.key.at ≡ Some list
    → ((q : ℕ) → is_at (nat_cmp s.key.at) q ≡ false → get nat_cmp new q ≡ get nat_cmp mid q) → ((n : ℕ) → get nat_cmp mid n ≡ cond (nat_eq s.key.at n) None (get nat_cmp old n)) → (n : ℕ) → sources_at new n ≡ sources_at old n ++ placed_at n (s ∷ [])
unfolding list_in
put-source old mid new s list items own others taken =
    put-there (sources_at old) (sources_at new) s (ap list_in own ∙ items)
    (λ n e. ap list_in (others n (apart-keys s.key.at n e) ∙ (taken n ∙ ap (λ b. cond b None (get nat_cmp old n)) (same-other n s.key.at e))))

-- those of one more reading
pub sources-step : (us : List RematUse) (k : ℕ) (u : RematUse) (old new : ℕ → List RematSource) → k < length us → u ≡ get_or us k u → ((n : ℕ) → old n ≡ placed_at n (flat_map told_sources (take k us)))
    → ((n : ℕ) → new n ≡ old n ++ placed_at n (told_sources u)) → (n : ℕ) → new n ≡ placed_at n (flat_map told_sources (take (k + 1) us))
sources-step us k u old new h at was is n =
    is n
    ∙ (ap (λ xs. xs ++ placed_at n (told_sources u)) (was n)
    ∙ (sym (filter-append (λ (s : RematSource). nat_eq n s.key.at) (flat_map told_sources (take k us)) (told_sources u))
    ∙ ap (placed_at n) (ap (λ xs. flat_map told_sources (take k us) ++ xs) (sym (append-nil (told_sources u)))
    ∙ (sym (flat_map-append told_sources (take k us) (u ∷ [])) ∙ ap (flat_map told_sources) (ap (λ x. take k us ++ x ∷ []) at ∙ sym (take_more us k u h))))))

-- the first that is for a reading stands among those of its place
pub found-there : (key : UseKey) (xs : List RematSource) → find (λ (s : RematSource). same_key key s.key) (placed_at key.at xs) ≡ find (λ (s : RematSource). same_key key s.key) xs
found-there key [] = refl
found-there key (s ∷ xs) = go (nat_eq key.at s.key.at) refl (found-there key xs)
  where
    found : List RematSource → Option RematSource
    found ys = find (λ (z : RematSource). same_key key z.key) ys

    go : (b : Bool) → nat_eq key.at s.key.at ≡ b → found (placed_at key.at xs) ≡ found xs
        → found (cond b (s ∷ placed_at key.at xs) (placed_at key.at xs)) ≡ cond (same_key key s.key) (Some s) (found xs)
    go true e h = ap (λ q. cond (same_key key s.key) (Some s) q) h
    go false e h = h ∙ ap (λ c. cond (c && same_ways key.indexed_class s.key.indexed_class) (Some s) (found xs)) (sym e)
