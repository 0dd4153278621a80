-- What stood in lists is saved, part by part, and put back.
use Rattle.std.proofs.Common.{◌≡◌, ◌<◌, ◌≤◌, ◌+◌, ℕ, zero, suc, Bool, true, false, cond, ◌&&◌, List, [], ◌∷◌, ◌++◌, Option, None, Some, slice_get, get_or, take, length, refl, sym, ◌∙◌, ap, subst, eqb-true, arith, append-nil, append_assoc, Vec, inl, inr}
use Rattle.std.specs.Prelude.{map, set, nat_eq, option_map, reverse, flat_map}
use Rattle.std.specs.Global.{Global}
use Rattle.std.specs.List.{insert, list_any, remove}
use Rattle.std.proofs.lemmas.Option.{slice_get-map}
use Rattle.std.proofs.lemmas.List.{length-map, map-set, reverse-append, take_all}
use Rattle.interference.specs.declared.held.HeldList.{HeldList}
use Rattle.interference.specs.declared.held.ListPosition.{ListPosition}
use Rattle.interference.specs.declared.held.RangeExtent.{RangeExtent}
use Rattle.interference.specs.declared.held.SavedParts.{SavedParts}
use Rattle.interference.specs.declared.held.SavedParts.TheVariants as saveds
use Rattle.interference.specs.declared.saved_lists.AssignedPiece.{AssignedPiece}
use Rattle.interference.specs.declared.saved_lists.SavedList.{SavedList}
use Rattle.interference.specs.declared.unit_table.UnitTable.{UnitTable}
use Rattle.mir_meaning.specs.Paths.{Among}
use Rattle.live_lanes.proofs.Numbered.{among-left, among-right}
use Rattle.live_lanes.specs.declared.ask.extent.Extent.{Extent}
use Rattle.live_lanes.specs.Table.{Numbers}
use Rattle.interference.specs.ChangedLists.{PutsExtent, PutsPiece, TakesPiece, IsPut}
use Rattle.interference.proofs.Owned.{spare-absent}
use Rattle.interference.specs.Changes.{is_piece}
use Rattle.interference.specs.Clashes.{AreFilled, AreApart, list_in, part_of, held_of}
use Rattle.interference.specs.Listed.{ChangesAt}
use Rattle.interference.specs.Parts.{parts_of, part_in, some_part}
use Rattle.interference.specs.SavedLists.{all_restored, parts_at, restored, saved_of, with_behind, without_behind, IsPutBack, Logs, Parts, PutsBack, Saves, Undoes}
use Rattle.interference.proofs.Lots.{take-next}
use Rattle.interference.proofs.Parts.{part-there}
use Rattle.interference.proofs.Placed.{set-same}

abbrev pub Part : Type 0
Part = Vec RangeExtent Global

pub all-taken : (ps : List Part) (i : ℕ) → length ps ≤ i → take i (map part_of ps) ≡ map part_of ps
all-taken ps i le = take_all i (map part_of ps) (let e : length (map part_of ps) ≡ length ps = length-map ps part_of in omega arith)

-- one part more is copied
pub copied-more : (ps got : List Part) (i : ℕ) (p q : Part) → map part_of got ≡ take i (map part_of ps) → slice_get ps i ≡ Some p → part_of q ≡ part_of p → map part_of (got ++ q ∷ []) ≡ take (i + 1) (map part_of ps)
copied-more ps got i p q so at same =
    map-more got ∙ ap (λ t. t ++ part_of q ∷ []) so ∙ ap (λ x. take i (map part_of ps) ++ x ∷ []) same
    ∙ sym (take-next (map part_of ps) i (part_of p) (slice_get-map part_of ps i ∙ ap (λ o. option_map part_of o) at))
  where
    map-more : (xs : List Part) → map part_of (xs ++ q ∷ []) ≡ map part_of xs ++ part_of q ∷ []
    map-more [] = refl
    map-more (x ∷ xs) = ap (λ t. part_of x ∷ t) (map-more xs)

-- one part is written

pub set-past : (ps : List Part) (k : ℕ) (v : List RangeExtent) → length ps ≤ k → set (map part_of ps) k v ≡ map part_of ps
set-past [] k v le = refl
set-past (p ∷ ps) zero v le = absurd (omega arith)
set-past (p ∷ ps) (suc k) v le = ap (λ t. part_of p ∷ t) (set-past ps k v (omega arith))

set-twice : {X : Type 0} (xs : List X) (k : ℕ) (x y : X) → set (set xs k x) k y ≡ set xs k y
set-twice [] k x y = refl
set-twice (z ∷ xs) zero x y = refl
set-twice (z ∷ xs) (suc k) x y = ap (λ t. z ∷ t) (set-twice xs k x y)

-- a written part is written again
pub set-again : (ps : List Part) (k : ℕ) (q : Part) (v : List RangeExtent) → set (map part_of (set ps k q)) k v ≡ set (map part_of ps) k v
set-again ps k q v = ap (λ t. set t k v) (map-set part_of ps k q) ∙ set-twice (map part_of ps) k (part_of q) v

pub part-set : (ps : List Part) (k : ℕ) (q : Part) → k < length ps → part_in (map part_of (set ps k q)) k ≡ part_of q
part-set [] k q lt = absurd (omega arith)
part-set (p ∷ ps) zero q lt = refl
part-set (p ∷ ps) (suc k) q lt = part-set ps k q (omega arith)

remove-past : (xs : List RangeExtent) (i : ℕ) → length xs ≤ i → remove xs i ≡ xs
remove-past [] zero le = refl
remove-past [] (suc i) le = refl
remove-past (x ∷ xs) zero le = absurd (omega arith)
remove-past (x ∷ xs) (suc i) le = ap (λ t. x ∷ t) (remove-past xs i (omega arith))

pub removed-past : (xs : List RangeExtent) (i : ℕ) → length xs ≤ i → xs ≡ remove xs i
removed-past xs i le = sym (remove-past xs i le)

remove-inserted : (xs : List RangeExtent) (i : ℕ) (h : RangeExtent) → i ≤ length xs → remove (insert xs i h) i ≡ xs
remove-inserted xs zero h le = refl
remove-inserted [] (suc i) h le = absurd (omega arith)
remove-inserted (x ∷ xs) (suc i) h le = ap (λ t. x ∷ t) (remove-inserted xs i h (omega arith))

set-read : {X : Type 0} (xs : List X) (k : ℕ) (x : X) → k < length xs → slice_get (set xs k x) k ≡ Some x
set-read [] k x lt = absurd (omega arith)
set-read (y ∷ xs) zero x lt = refl
set-read (y ∷ xs) (suc k) x lt = set-read xs k x (omega arith)

-- a stretch that is put at a place is taken away again
pub put-undone : (ps : List (List RangeExtent)) (gap : ListPosition) (h : RangeExtent) → gap.part < length ps → gap.count ≤ length (part_in ps gap.part) → without_behind gap (with_behind gap h ps) ≡ ps
put-undone ps gap h lt le =
    set-twice ps gap.part (insert (part_in ps gap.part) gap.count h) (remove (part_in (with_behind gap h ps) gap.part) gap.count)
    ∙ ap (set ps gap.part) (ap (λ o. remove (some_part o) gap.count) (set-read ps gap.part (insert (part_in ps gap.part) gap.count h) lt) ∙ remove-inserted (part_in ps gap.part) gap.count h le)
    ∙ set-same ps gap.part

-- one part is written by what it had
pub part-written : (ps : List Part) (k : ℕ) (v q : Part) (f : List RangeExtent → List RangeExtent) → k < length ps → v ≡ get_or ps k v → q.items ≡ f v.items → map part_of (set ps k q) ≡ set (map part_of ps) k (f (part_in (map part_of ps) k))
part-written ps k v q f lt e is = map-set part_of ps k q ∙ ap (set (map part_of ps) k) (is ∙ ap f (part-there ps k v lt e))

-- a copied part is put back
pub one-saved : (l : HeldList) (k : ℕ) (v : Part) (all : Bool) → k < length l.parts.items → v.items ≡ part_in (parts_of l) k → all ≡ false → Saves l k all (saveds.One k v)
one-saved l k v all lt same one n others =
    others one v.items ∙ ap (set (parts_of l) k) same ∙ set-same (parts_of l) k

-- a table whose lists have the same parts

module _ (start : Parts) where
  pub undoes-alike : (es : List SavedList) (t n : Parts) → ((u b : ℕ) → n u b ≡ t u b) → Undoes start es t → Undoes start es n
  undoes-alike [] t n same undoes = λ u b. same u b ∙ undoes u b
  undoes-alike (e ∷ es) t n same undoes = λ x put. undoes x (λ u b. put u b ∙ ap (λ o. cond (nat_eq e.unit u && nat_eq e.block b) (option_map (restored e.parts) o) o) (same u b))

  -- one more is saved
  back-more : (log : List SavedList) (e : SavedList) (t n : Parts) → IsPutBack e n t → Undoes start (reverse log) t → Undoes start (reverse (log ++ e ∷ [])) n
  back-more log e t n put back =
      subst (λ es. Undoes start es n) (sym (reverse-append log (e ∷ []))) (λ x put-x. undoes-alike (reverse log) t x (λ u b. put-x u b ∙ sym (put u b)) back)

  module _ (at : AssignedPiece) where
    abbrev here : ℕ → ℕ → Bool
    here w p = nat_eq at.unit w && nat_eq at.piece.block p

    -- parts of which those of one list are restored
    abbrev before : List SavedParts → Parts → Parts
    before ss n w p = cond (here w p) (option_map (all_restored ss) (n w p)) (n w p)

    -- several are saved of one list
    pub logged-more : (ss : List SavedParts) (log : List SavedList) (t n : Parts) → ((w p : ℕ) → t w p ≡ before ss n w p) → Undoes start (reverse log) t → Undoes start (reverse (log ++ map (saved_of at) ss)) n
    logged-more [] log t n was back =
        subst (λ es. Undoes start (reverse es) n) (sym (append-nil log)) (undoes-alike (reverse log) t n (λ w p. sym (was w p ∙ plain (here w p) (n w p))) back)
      where
        plain : (x : Bool) (o : Option (List (List RangeExtent))) → cond x (option_map (λ ps. ps) o) o ≡ o
        plain true None = refl
        plain true (Some ps) = refl
        plain false o = refl
    logged-more (s ∷ ss) log t n was back =
        subst (λ es. Undoes start (reverse es) n) (append_assoc log (saved_of at s ∷ []) (map (saved_of at) ss))
        (logged-more ss (log ++ saved_of at s ∷ []) (before ss n) n (λ w p. refl) (back-more log (saved_of at s) t (before ss n) put back))
      where
        twice : (x : Bool) (o : Option (List (List RangeExtent))) → cond x (option_map (all_restored (s ∷ ss)) o) o ≡ cond x (option_map (restored s) (cond x (option_map (all_restored ss) o) o)) (cond x (option_map (all_restored ss) o) o)
        twice true None = refl
        twice true (Some ps) = refl
        twice false o = refl

        put : IsPutBack (saved_of at s) (before ss n) t
        put w p = was w p ∙ twice (here w p) (n w p)

-- the last one is put back
pub back-less : (start : UnitTable) (log : List SavedList) (e : SavedList) (t n : UnitTable) → PutsBack start (log ++ e ∷ []) t → IsPutBack e (parts_at t) (parts_at n) → PutsBack start log n
back-less start log e t n back put = subst (λ es. Undoes (parts_at start) es (parts_at t)) (reverse-append log (e ∷ [])) back (parts_at n) put

pub some-of : {X : Type 0} {x y : X} → Some x ≡ Some y → x ≡ y
some-of {X = X} {x = x} e = ap (λ o. elim o [ None ↦ x | Some z ↦ z ]) e

-- nothing is saved
pub none-saved : (a : UnitTable) (log : List SavedList) → log ≡ [] → PutsBack a log a
none-saved a log e = subst (λ es. PutsBack a es a) (sym e) (λ u b. refl)

both-are : (u b w p : ℕ) → (nat_eq u w && nat_eq b p) ≡ true → (u ≡ w) × (b ≡ p)
both-are u b w p e = go (nat_eq u w) refl e
  where
    go : (x : Bool) → nat_eq u w ≡ x → (x && nat_eq b p) ≡ true → (u ≡ w) × (b ≡ p)
    go true f g = (eqb-true u w f, eqb-true b p g)
    go false f g = absurd (cc)

-- each list of a table stays, or is that of one unit and block
module _ (P : HeldList → HeldList → Type 0) (u b : ℕ) (t n : UnitTable) (change : ChangesAt P u b t n) (f : List (List RangeExtent) → List (List RangeExtent)) where
  -- the parts there go by what the change says
  pub parts-changed : ((l k : HeldList) → P l k → parts_of k ≡ f (parts_of l)) → (w p : ℕ) → parts_at n w p ≡ cond (nat_eq u w && nat_eq b p) (option_map f (parts_at t w p)) (parts_at t w p)
  parts-changed so w p = go (nat_eq u w && nat_eq b p) refl
    where
      at : (o : Option HeldList) → list_in t u b ≡ o → parts_at n u b ≡ option_map f (parts_at t u b)
      at None e = ap (option_map parts_of) (change.none e) ∙ sym (ap (λ o. option_map f (option_map parts_of o)) e)
      at (Some l) e = let z = change.here l e in ap (option_map parts_of) z.1 ∙ ap (λ x. Some x) (so l z.0 z.2) ∙ sym (ap (λ o. option_map f (option_map parts_of o)) e)

      go : (x : Bool) → (nat_eq u w && nat_eq b p) ≡ x → parts_at n w p ≡ cond x (option_map f (parts_at t w p)) (parts_at t w p)
      go false e = ap (option_map parts_of) (change.other w p e)
      go true e = let z = both-are u b w p e in
          subst (λ y. parts_at n w y ≡ option_map f (parts_at t w y)) z.1 (subst (λ y. parts_at n y b ≡ option_map f (parts_at t y b)) z.0 (at (list_in t u b) refl))

-- what is saved of a list goes with its change
module _ (at : AssignedPiece) (old new : List SavedList) (t n : UnitTable) (change : ChangesAt (Logs at old new) at.unit at.piece.block t n) (none : list_in t at.unit at.piece.block ≡ None → new ≡ old) where
  abbrev u : ℕ
  u = at.unit

  abbrev b : ℕ
  b = at.piece.block

  same-list : (l k : HeldList) → list_in t u b ≡ Some l → list_in n u b ≡ Some k → (f : List (List RangeExtent) → List (List RangeExtent)) → f (parts_of k) ≡ parts_of l
      → (w p : ℕ) → parts_at t w p ≡ cond (nat_eq u w && nat_eq b p) (option_map f (parts_at n w p)) (parts_at n w p)
  same-list l k e g f so w p = go (nat_eq u w && nat_eq b p) refl
    where
      go : (x : Bool) → (nat_eq u w && nat_eq b p) ≡ x → parts_at t w p ≡ cond x (option_map f (parts_at n w p)) (parts_at n w p)
      go false h = sym (ap (option_map parts_of) (change.other w p h))
      go true h = let z = both-are u b w p h in
          subst (λ y. parts_at t w y ≡ option_map f (parts_at n w y)) z.1 (subst (λ y. parts_at t y b ≡ option_map f (parts_at n y b)) z.0
          (ap (option_map parts_of) e ∙ ap (λ x. Some x) (sym so) ∙ sym (ap (λ o. option_map f (option_map parts_of o)) g)))

  no-list : list_in t u b ≡ None → (w p : ℕ) → parts_at n w p ≡ parts_at t w p
  no-list e w p = go (nat_eq u w && nat_eq b p) refl
    where
      go : (x : Bool) → (nat_eq u w && nat_eq b p) ≡ x → parts_at n w p ≡ parts_at t w p
      go false f = ap (option_map parts_of) (change.other w p f)
      go true f = let z = both-are u b w p f in
          subst (λ y. parts_at n w y ≡ parts_at t w y) z.1 (subst (λ y. parts_at n y b ≡ parts_at t y b) z.0 (ap (option_map parts_of) (change.none e ∙ sym e)))

  pub logged-back : (start : UnitTable) → PutsBack start old t → PutsBack start new n
  logged-back start back = go (list_in t u b) refl
    where
      go : (o : Option HeldList) → list_in t u b ≡ o → PutsBack start new n
      go None e = subst (λ xs. PutsBack start xs n) (sym (none e)) (undoes-alike (parts_at start) (reverse old) (parts_at t) (parts_at n) (no-list e) back)
      go (Some l) e =
          let z = change.here l e in
          subst (λ xs. PutsBack start xs n) (sym z.2.1) (logged-more (parts_at start) at z.2.0 old (parts_at t) (parts_at n) (same-list l z.0 e z.1 (all_restored z.2.0) z.2.2) back)

-- what is saved when a list changes

module _ (at : AssignedPiece) where
  pub logs-none : (log : List SavedList) (l : HeldList) → Logs at log log l l
  logs-none log l = ([], sym (append-nil log), refl)

  pub logs-one : (old new : List SavedList) (l k : HeldList) (s : SavedParts) → new ≡ old ++ saved_of at s ∷ [] → restored s (parts_of k) ≡ parts_of l → Logs at old new l k
  logs-one old new l k s more so = (s ∷ [], more, so)

  all-more : (ss rs : List SavedParts) (ps : List (List RangeExtent)) → all_restored (ss ++ rs) ps ≡ all_restored ss (all_restored rs ps)
  all-more [] rs ps = refl
  all-more (s ∷ ss) rs ps = ap (restored s) (all-more ss rs ps)

  map-more : (ss rs : List SavedParts) → map (saved_of at) (ss ++ rs) ≡ map (saved_of at) ss ++ map (saved_of at) rs
  map-more [] rs = refl
  map-more (s ∷ ss) rs = ap (λ xs. saved_of at s ∷ xs) (map-more ss rs)

  pub logs-both : (old mid new : List SavedList) (l r k : HeldList) → Logs at old mid l r → Logs at mid new r k → Logs at old new l k
  logs-both old mid new l r k first second = (
    first.0 ++ second.0,
    second.1 ∙ ap (λ xs. xs ++ map (saved_of at) second.0) first.1 ∙ append_assoc old (map (saved_of at) first.0) (map (saved_of at) second.0) ∙ ap (λ xs. old ++ xs) (sym (map-more first.0 second.0)),
    all-more first.0 second.0 (parts_of k) ∙ ap (all_restored first.0) second.2 ∙ first.2,
  )

-- an extent comes in the place of one that begins so
pub puts-both : (slots : Numbers) (v : ℕ) (e : Extent) (l r k : HeldList) → TakesPiece slots v e.start l r → PutsExtent slots v e r k → PutsPiece slots v e l k
puts-both slots v e l r k takes puts = record {
  filled = λ f. puts.filled (takes.filled f);
  held = λ f a s apart.
      let gone = takes.held f a s in
      inl (subst (λ hs. IsPut slots v e hs (held_of k)) gone (puts.held (takes.filled f) (subst (AreApart slots 0) (sym gone) apart)));
}

-- where none begins so, it is put among all
pub puts-new : (slots : Numbers) (v : ℕ) (e : Extent) (l k : HeldList) → (AreFilled l → AreApart slots 0 (held_of l) → list_any (is_piece v e.start) (held_of l) ≡ false) → PutsExtent slots v e l k → PutsPiece slots v e l k
puts-new slots v e l k none puts = record {
  filled = puts.filled;
  held = λ f a s apart. inl (subst (λ hs. IsPut slots v e hs (held_of k)) (spare-absent v e.start (held_of l) (held_of l) (none f a) refl) (puts.held f a));
}

-- or it stands there
pub puts-none : (slots : Numbers) (v : ℕ) (e : Extent) (l : HeldList) → Among (record { range = v; extent = e }) (held_of l) → PutsPiece slots v e l l
puts-none slots v e l stands = record { filled = λ f. f; held = λ f a s apart. inr (refl, stands) }

-- what a part has, its list has
pub among-part : (x : RangeExtent) (ps : List Part) (k : ℕ) (p : Part) → k < length ps → p ≡ get_or ps k p → Among x p.items → Among x (flat_map part_of ps)
among-part x [] k p lt e a = absurd (omega arith)
among-part x (q ∷ ps) zero p lt e a = among-left x (part_of q) (flat_map part_of ps) (subst (λ (r : Part). Among x r.items) e a)
among-part x (q ∷ ps) (suc k) p lt e a = among-right x (part_of q) (flat_map part_of ps) (among-part x ps k p (omega arith) e a)
