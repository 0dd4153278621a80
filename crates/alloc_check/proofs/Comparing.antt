-- Two codes side by side, item by item.
use Rattle.std.proofs.Common.{◌≡◌, ℕ, ◌++◌, ◌∷◌, ◌∙◌, Bool, true, false, cond, List, [], Option, Some, None, map, option_map, refl, sym, ap, append_assoc, eqb}
use Rattle.std.proofs.lemmas.List.{append-nil}
use Rattle.std.proofs.lemmas.Bool.{eq-eqb}
use Rattle.meaning.specs.declared.types.Row.{Row}
use Rattle.meaning.specs.declared.types.Row.TheVariants.{BothStart, BothEnd, FirstSilent, SecondSilent, BothCounted}
use Rattle.meaning.specs.declared.types.Rest.{Rest}
use Rattle.meaning.specs.declared.types.EdgePair.{EdgePair}
use Rattle.meaning.specs.Lanes.{Writes, Reads}
use Rattle.meaning.specs.Code.{Edge, Item, BlockStart, BlockEnd, Silent, Counted, Code}
use Rattle.meaning.specs.Sameness.{same_rest, same_option}
use Rattle.meaning.specs.Pairing.{pairing, pair_item, pair_edge, pair_edges, pair_target, pair_falls, before, paired, meet}
use Rattle.alloc_check.specs.Compared.{compared_row, compared, with_rest, Goes}

-- a row before what is compared
comes-before : (r : Row) (o : Option (List Row)) → option_map (map compared_row) (before r o) ≡ option_map (λ rest. compared_row r ∷ rest) (option_map (map compared_row) o)
comes-before r None = refl
comes-before r (Some rows) = refl

abbrev pub Before : Row → Code → Code → Code → Code → Type 0
Before r p q p' q' = compared p q ≡ option_map (λ rest. r ∷ rest) (compared p' q')

pub first-silent : (reads : Reads) (ws : Writes) (p q : Code) → Before (FirstSilent [] ws) (Silent reads ws ∷ p) q p q
first-silent reads ws p q = comes-before (FirstSilent reads ws) (pairing p q)

pub counted-meets-silent : (r : Rest) (rs : Reads) (vs : Writes) (to : Option Edge) (exits : List Edge) (reads : Reads) (ws : Writes) (p q : Code) →
    Before (SecondSilent [] ws) (Counted r rs vs to exits ∷ p) (Silent reads ws ∷ q) (Counted r rs vs to exits ∷ p) q
counted-meets-silent r rs vs to exits reads ws p q = comes-before (SecondSilent reads ws) (meet (Counted r rs vs to exits) (pairing p) q)

pub end-meets-silent : (falls : Option Writes) (exits : List Edge) (reads : Reads) (ws : Writes) (p q : Code) → Before (SecondSilent [] ws) (BlockEnd falls exits ∷ p) (Silent reads ws ∷ q) (BlockEnd falls exits ∷ p) q
end-meets-silent falls exits reads ws p q = comes-before (SecondSilent reads ws) (meet (BlockEnd falls exits) (pairing p) q)

-- rows that got one more
grow-more : (old : List Row) (r : Row) (o : Option (List Row)) → option_map (λ rest. (old ++ r ∷ []) ++ rest) o ≡ option_map (λ rest. old ++ rest) (option_map (λ rest. r ∷ rest) o)
grow-more old r None = refl
grow-more old r (Some rest) = ap Some (append_assoc old (r ∷ []) rest)

pub goes-row : (old new : List Row) (r : Row) (p q p' q' : Code) → new ≡ old ++ r ∷ [] → Before r p q p' q' → Goes true old p q new p' q'
goes-row old new r p q p' q' e b = ap (λ rows. with_rest rows p' q') e ∙ (grow-more old r (compared p' q') ∙ ap (option_map (λ rest. old ++ rest)) (sym b))

pub goes-none : (old new : List Row) (p q : Code) → new ≡ old → Goes true old p q new p q
goes-none old new p q e = ap (λ rows. with_rest rows p q) e

pub goes-then : (a b c : List Row) (p q p' q' p'' q'' : Code) → Goes true a p q b p' q' → Goes true b p' q' c p'' q'' → Goes true a p q c p'' q''
goes-then a b c p q p' q' p'' q'' x y = y ∙ x

pub none-back : {A B : Type 0} (f : A → B) (o : Option A) → option_map f o ≡ None → o ≡ None
none-back f None e = refl
none-back f (Some a) e = absurd (cc)

pub goes-never : (a b : List Row) (p q p' q' : Code) → Goes true a p q b p' q' → compared p' q' ≡ None → compared p q ≡ None
goes-never a b p q p' q' x e = none-back (λ (rest : List Row). a ++ rest) (compared p q) (sym x ∙ ap (option_map (λ rest. b ++ rest)) e)

-- items that meet
pub counted-meets : (r : Rest) (rs : Reads) (vs : Writes) (to : Option Edge) (exits : List Edge) (r' : Rest) (rs' : Reads) (vs' : Writes) (to' : Option Edge) (exits' : List Edge) (row : Row) (p q : Code) →
    pair_item (Counted r rs vs to exits) (Counted r' rs' vs' to' exits') ≡ Some row → Before (compared_row row) (Counted r rs vs to exits ∷ p) (Counted r' rs' vs' to' exits' ∷ q) p q
counted-meets r rs vs to exits r' rs' vs' to' exits' row p q e = ap (λ o. option_map (map compared_row) (paired o (pairing p q))) e ∙ comes-before row (pairing p q)

pub counted-apart : (r : Rest) (rs : Reads) (vs : Writes) (to : Option Edge) (exits : List Edge) (r' : Rest) (rs' : Reads) (vs' : Writes) (to' : Option Edge) (exits' : List Edge) (p q : Code) →
    pair_item (Counted r rs vs to exits) (Counted r' rs' vs' to' exits') ≡ None → compared (Counted r rs vs to exits ∷ p) (Counted r' rs' vs' to' exits' ∷ q) ≡ None
counted-apart r rs vs to exits r' rs' vs' to' exits' p q e = ap (λ o. option_map (map compared_row) (paired o (pairing p q))) e

pub end-meets : (falls : Option Writes) (exits : List Edge) (falls' : Option Writes) (exits' : List Edge) (row : Row) (p q : Code) →
    pair_item (BlockEnd falls exits) (BlockEnd falls' exits') ≡ Some row → Before (compared_row row) (BlockEnd falls exits ∷ p) (BlockEnd falls' exits' ∷ q) p q
end-meets falls exits falls' exits' row p q e = ap (λ o. option_map (map compared_row) (paired o (pairing p q))) e ∙ comes-before row (pairing p q)

pub end-apart : (falls : Option Writes) (exits : List Edge) (falls' : Option Writes) (exits' : List Edge) (p q : Code) →
    pair_item (BlockEnd falls exits) (BlockEnd falls' exits') ≡ None → compared (BlockEnd falls exits ∷ p) (BlockEnd falls' exits' ∷ q) ≡ None
end-apart falls exits falls' exits' p q e = ap (λ o. option_map (map compared_row) (paired o (pairing p q))) e

pub counted-at-end : (r : Rest) (rs : Reads) (vs : Writes) (to : Option Edge) (exits : List Edge) (falls' : Option Writes) (exits' : List Edge) (p q : Code) → compared (Counted r rs vs to exits ∷ p) (BlockEnd falls' exits' ∷ q) ≡ None
counted-at-end r rs vs to exits falls' exits' p q = refl

pub end-at-counted : (falls : Option Writes) (exits : List Edge) (r' : Rest) (rs' : Reads) (vs' : Writes) (to' : Option Edge) (exits' : List Edge) (p q : Code) → compared (BlockEnd falls exits ∷ p) (Counted r' rs' vs' to' exits' ∷ q) ≡ None
end-at-counted falls exits r' rs' vs' to' exits' p q = refl

pub starts-meet : (n m : ℕ) (p q : Code) → n ≡ m → Before (BothStart n) (BlockStart n ∷ p) (BlockStart m ∷ q) p q
starts-meet n m p q e = ap (λ b. option_map (map compared_row) (paired (cond b (Some (BothStart n)) None) (pairing p q))) (eq-eqb n m e) ∙ comes-before (BothStart n) (pairing p q)

-- ways that meet
abbrev pub edge : ℕ → Writes → Edge
edge m ws = record { block = m; phis = ws }

abbrev pub ways : ℕ → Writes → Writes → EdgePair
ways m ws vs = record { block = m; first = ws; second = vs }

module _ (first second : ℕ → Writes) where
  pub edges-meet : (m : ℕ) → pair_edge (edge m (first m)) (edge m (second m)) ≡ Some (ways m (first m) (second m))
  edges-meet m = ap (λ b. cond b (Some (ways m (first m) (second m))) None) (eq-eqb m m refl)

  pub exits-meet : {X : Type 0} (to : X → ℕ) (xs : List X) → pair_edges (map (λ x. edge (to x) (first (to x))) xs) (map (λ x. edge (to x) (second (to x))) xs) ≡ Some (map (λ x. ways (to x) (first (to x)) (second (to x))) xs)
  exits-meet to [] = refl
  exits-meet to (x ∷ xs) = λ k. elim (edges-meet (to x) k) [ None ↦ None | Some w ↦ elim (exits-meet to xs k) [ None ↦ None | Some ws ↦ Some (w ∷ ws) ] ]

  pub targets-meet : (o : Option ℕ) → pair_target (option_map (λ m. edge m (first m)) o) (option_map (λ m. edge m (second m)) o) ≡ Some (option_map (λ m. ways m (first m) (second m)) o)
  targets-meet None = refl
  targets-meet (Some m) = λ k. elim (edges-meet m k) [ None ↦ None | Some w ↦ Some (Some w) ]

  pub targets-apart : (o o' : Option ℕ) → same_option o o' ≡ false → pair_target (option_map (λ m. edge m (first m)) o) (option_map (λ m. edge m (second m)) o') ≡ None
  targets-apart None None e = absurd (cc)
  targets-apart None (Some m) e = refl
  targets-apart (Some m) None e = refl
  targets-apart (Some m) (Some n) e = λ k. elim (cond (e k) (Some (ways m (first m) (second n))) None) [ None ↦ None | Some w ↦ Some (Some w) ]
