-- Tables of lists out of which a range's stretches are taken, cell by cell and lane by lane.
use Rattle.std.proofs.Common.{◌≡◌, ◌<◌, ◌≤◌, ◌+◌, ◌⊎◌, ℕ, zero, suc, Bool, true, false, cond, ◌&&◌, length, take, get_or, List, [], ◌∷◌, ◌++◌, Option, None, Some, inl, inr, refl, sym, ap, ◌∙◌, subst, arith, append-nil, append_assoc, eqb-true}
use Rattle.std.specs.Prelude.{◌||◌, nat_eq, slice_get, is_some}
use Rattle.std.specs.List.{list_any}
use Rattle.std.proofs.lemmas.List.{take_more, take_all, length-take-le, get_or_default}
use Rattle.std.proofs.lemmas.List.Folds.{list_any-append}
use Rattle.target_base.specs.declared.types.Unit.{Unit as UnitNumber}
use Rattle.instr_effects.specs.Numbered.{number_in}
use Rattle.instr_effects.specs.declared.owner.Owner.TheVariants as owners
use Rattle.live_lanes.specs.declared.ask.extent.Extent.{Extent}
use Rattle.live_lanes.specs.declared.row.Cell.{Cell}
use Rattle.live_lanes.specs.declared.table.Table.{Table}
use Rattle.live_lanes.specs.Table.{Numbers, find_cell}
use Rattle.live_lanes.specs.Entered.{cells_of}
use Rattle.live_lanes.specs.Extents.{begins_with, cell_extents, some_extents}
use Rattle.interference.specs.declared.held.RangeExtent.{RangeExtent}
use Rattle.interference.specs.declared.held.HeldList.{HeldList}
use Rattle.interference.specs.declared.unit_table.UnitTable.{UnitTable}
use Rattle.interference.specs.Clashes.{AreApart, AreFilled, held_of, held_of_some, list_in}
use Rattle.interference.specs.Changes.{others_of, own_of}
use Rattle.interference.specs.Listed.{lane_extents, range_extents, listed, BeginApart, AreAmong, IsTidy, IsThinned, ChangesAt, ChangesCell, AreTidy, Lots, AreWithin, lane_lots, range_lots, Thins}

-- one list and the others of a table

pub holds-is : (a : UnitTable) (u b : ℕ) (o : Option HeldList) → list_in a u b ≡ o → listed a u b ≡ held_of_some o
holds-is a u b o e = ap held_of_some e

pub tidy-list : (slots : Numbers) (v : ℕ) (a : UnitTable) (u b : ℕ) (l : HeldList) → AreTidy slots v a → list_in a u b ≡ Some l → IsTidy slots v l
tidy-list slots v a u b l t e = record {
  filled = t.sorted.filled u b l e;
  apart = subst (AreApart slots 0) (holds-is a u b (Some l) e) (t.sorted.apart u b);
  single = subst (λ hs. BeginApart (own_of v hs)) (holds-is a u b (Some l) e) (t.single u b);
}

-- the two places are the same, or the list is as it was
abbrev pub is_at : ℕ → ℕ → ℕ → ℕ → Bool
is_at u b w p = nat_eq u w && nat_eq b p

pub at-both : (u b w p : ℕ) → is_at u b w p ≡ true → (u ≡ w) × (b ≡ p)
at-both u b w p e = go (nat_eq u w) refl e
  where
    go : (t : Bool) → nat_eq u w ≡ t → (t && nat_eq b p) ≡ true → (u ≡ w) × (b ≡ p)
    go true f g = (eqb-true u w f, eqb-true b p g)
    go false f g = absurd (cc)

-- what a cell has in a unit, and besides
abbrev pub cell_lots : ℕ → Option Cell → Lots → Lots
cell_lots unit None more u b = more u b
cell_lots unit (Some c) more u b = cond (is_at unit c.block u b) (cell_extents c) [] ++ more u b

module _ (slots : Numbers) (v : ℕ) where
  among-none : (es : List Extent) → AreAmong [] es
  among-none es s e = absurd (cc)

  module _ (unit : ℕ) (c : Cell) (a b : UnitTable) (change : ChangesAt (IsThinned slots v (cell_extents c)) unit c.block a b) where
    -- the list there is another one, or there is none
    abbrev At : Type 0
    At = ((l : HeldList) × (k : HeldList) × (list_in a unit c.block ≡ Some l) × (list_in b unit c.block ≡ Some k) × IsThinned slots v (cell_extents c) l k) ⊎ ((list_in a unit c.block ≡ None) × (list_in b unit c.block ≡ None))

    here-at : At
    here-at = go (list_in a unit c.block) refl
      where
        go : (o : Option HeldList) → list_in a unit c.block ≡ o → At
        go None e = inr (e, change.none e)
        go (Some l) e = let z = change.here l e in inl (l, z.0, e, z.1, z.2)

    same-place : (f : UnitTable) (u p : ℕ) → is_at unit c.block u p ≡ true → list_in f u p ≡ list_in f unit c.block
    same-place f u p e = let z = at-both unit c.block u p e in ap (λ x. list_in f x p) (sym z.0) ∙ ap (λ x. list_in f unit x) (sym z.1)

    by-place : (P : List RangeExtent → Type 0) (u p : ℕ) → ((l k : HeldList) → list_in a unit c.block ≡ Some l → IsThinned slots v (cell_extents c) l k → P (held_of k)) → P [] → P (listed a u p) → P (listed b u p)
    by-place P u p f none was = go (is_at unit c.block u p) refl here-at
      where
        go : (t : Bool) → is_at unit c.block u p ≡ t → At → P (listed b u p)
        go true e (inl (l, k, x, y, z)) = subst P (sym (holds-is b u p (Some k) (same-place b u p e ∙ y))) (f l k x z)
        go true e (inr (x, y)) = subst P (sym (holds-is b u p None (same-place b u p e ∙ y))) none
        go false e w = subst P (ap held_of_some (sym (change.other u p e))) was

    filled-at : AreTidy slots v a → (u p : ℕ) (l : HeldList) (t : Bool) → is_at unit c.block u p ≡ t → list_in b u p ≡ Some l → AreFilled l
    filled-at tidy u p l true e f = go here-at
      where
        go : At → AreFilled l
        go (inl (m, k, x, y, z)) = let q : Some k ≡ Some l = sym y ∙ sym (same-place b u p e) ∙ f in let same : k ≡ l = cc in subst AreFilled same (z.tidy (tidy-list slots v a unit c.block m tidy x)).filled
        go (inr (x, y)) = absurd (let q : None ≡ Some l = sym y ∙ sym (same-place b u p e) ∙ f in cc)
    filled-at tidy u p l false e f = tidy.sorted.filled u p l (sym (change.other u p e) ∙ f)

    there-at : (u p : ℕ) (t : Bool) → is_at unit c.block u p ≡ t → is_some (list_in b u p) ≡ is_some (list_in a u p)
    there-at u p true e = ap is_some (same-place b u p e) ∙ go here-at ∙ sym (ap is_some (same-place a u p e))
      where
        go : At → is_some (list_in b unit c.block) ≡ is_some (list_in a unit c.block)
        go (inl (l, k, x, y, z)) = ap is_some y ∙ sym (ap is_some x)
        go (inr (x, y)) = ap is_some y ∙ sym (ap is_some x)
    there-at u p false e = ap is_some (change.other u p e)

    others-at : AreTidy slots v a → (u p : ℕ) (t : Bool) → is_at unit c.block u p ≡ t → others_of v (listed b u p) ≡ others_of v (listed a u p)
    others-at tidy u p true e = go here-at
      where
        go : At → others_of v (listed b u p) ≡ others_of v (listed a u p)
        go (inl (l, k, x, y, z)) = ap (others_of v) (holds-is b u p (Some k) (same-place b u p e ∙ y)) ∙ z.others (tidy-list slots v a unit c.block l tidy x) ∙ sym (ap (others_of v) (holds-is a u p (Some l) (same-place a u p e ∙ x)))
        go (inr (x, y)) = ap (others_of v) (holds-is b u p None (same-place b u p e ∙ y)) ∙ sym (ap (others_of v) (holds-is a u p None (same-place a u p e ∙ x)))
    others-at tidy u p false e = ap (λ o. others_of v (held_of_some o)) (change.other u p e)

    own-at : AreTidy slots v a → (more : Lots) → AreWithin v a (cell_lots unit (Some c) more) → (u p : ℕ) (t : Bool) → is_at unit c.block u p ≡ t → AreAmong (own_of v (listed b u p)) (more u p)
    own-at tidy more within u p true e = go here-at
      where
        go : At → AreAmong (own_of v (listed b u p)) (more u p)
        go (inl (l, k, x, y, z)) =
            let was : AreAmong (own_of v (held_of l)) (cell_extents c ++ more u p) = subst (λ hs. AreAmong (own_of v hs) (cell_extents c ++ more u p)) (holds-is a u p (Some l) (same-place a u p e ∙ x)) (subst (λ q. AreAmong (own_of v (listed a u p)) (cond q (cell_extents c) [] ++ more u p)) e (within u p)) in
            subst (λ hs. AreAmong (own_of v hs) (more u p)) (sym (holds-is b u p (Some k) (same-place b u p e ∙ y))) (z.own (tidy-list slots v a unit c.block l tidy x) (more u p) was)
        go (inr (x, y)) = subst (λ hs. AreAmong (own_of v hs) (more u p)) (sym (holds-is b u p None (same-place b u p e ∙ y))) (among-none (more u p))
    own-at tidy more within u p false e = subst (λ o. AreAmong (own_of v (held_of_some o)) (more u p)) (sym (change.other u p e)) (subst (λ q. AreAmong (own_of v (listed a u p)) (cond q (cell_extents c) [] ++ more u p)) e (within u p))

    -- a list in its place, changed or not
    thin-at : Thins slots v (cell_lots unit (Some c)) a b
    thin-at = record {
      tidy = λ t. record {
        sorted = record {
          filled = λ u p l e. filled-at t u p l (is_at unit c.block u p) refl e;
          apart = λ u p. by-place (λ hs. AreApart slots 0 hs) u p (λ l k x e. (e.tidy (tidy-list slots v a unit c.block l t x)).apart) tt (t.sorted.apart u p);
        };
        single = λ u p. by-place (λ hs. BeginApart (own_of v hs)) u p (λ l k x e. (e.tidy (tidy-list slots v a unit c.block l t x)).single) (λ s. omega arith) (t.single u p);
      };
      others = λ t. record {
        there = λ u p. there-at u p (is_at unit c.block u p) refl;
        others = λ u p. others-at t u p (is_at unit c.block u p) refl;
      };
      own = λ t more within u p. own-at t more within u p (is_at unit c.block u p) refl;
    }

  pub thin-cell : (unit : ℕ) (o : Option Cell) (a b : UnitTable) → ChangesCell (IsThinned slots v) unit o a b → Thins slots v (cell_lots unit o) a b
  thin-cell unit None a b same = record {
    tidy = λ t. subst (AreTidy slots v) (sym same) t;
    others = λ t. record { there = λ u p. ap (λ x. is_some (list_in x u p)) same; others = λ u p. ap (λ x. others_of v (listed x u p)) same };
    own = λ t more within. subst (λ x. AreWithin v x more) (sym same) within;
  }
  thin-cell unit (Some c) a b change = thin-at unit c a b change

  pub thins-none : (a : UnitTable) → Thins slots v (λ more. more) a a
  thins-none a = record { tidy = λ t. t; others = λ t. record { there = λ u b. refl; others = λ u b. refl }; own = λ t more within. within }

  -- one after the other; what begins as some of es do may as well begin as some of more extents do
  pub thins-both : (es fs gs : Lots → Lots) (a b c : UnitTable) → ((more : Lots) (u p : ℕ) → AreAmong (gs more u p) (es (fs more) u p)) → Thins slots v es a b → Thins slots v fs b c → Thins slots v gs a c
  thins-both es fs gs a b c wide f g = record {
    tidy = λ t. g.tidy (f.tidy t);
    others = λ t. let y = f.others t in let z = g.others (f.tidy t) in record { there = λ u p. z.there u p ∙ y.there u p; others = λ u p. z.others u p ∙ y.others u p };
    own = λ t more within. g.own (f.tidy t) more (f.own t (fs more) (λ u p s some. wide more u p s (within u p s some)));
  }

  pub thins-same : (es gs : Lots → Lots) (a b : UnitTable) → ((more : Lots) (u p : ℕ) → gs more u p ≡ es more u p) → Thins slots v es a b → Thins slots v gs a b
  thins-same es gs a b same f = record {
    tidy = f.tidy;
    others = f.others;
    own = λ t more within. f.own t more (λ u p. subst (AreAmong (own_of v (listed a u p))) (same more u p) (within u p));
  }

pub same-among : (es fs : List Extent) → es ≡ fs → AreAmong es fs
same-among es fs e s some = sym (ap (list_any (begins_with s)) e) ∙ some

-- the cells of a lane, one after the other

abbrev pub or_cell : Option Cell → Option Cell → Option Cell
or_cell None q = q
or_cell (Some c) q = Some c

abbrev pub this_cell : ℕ → Cell → Option Cell
this_cell b c = cond (nat_eq c.block b) (Some c) None

pub find-last : (b : ℕ) (cs : List Cell) (c : Cell) → find_cell b (cs ++ c ∷ []) ≡ or_cell (find_cell b cs) (this_cell b c)
find-last b [] c = refl
find-last b (x ∷ cs) c = go (nat_eq x.block b) (find-last b cs c)
  where
    go : (u : Bool) → find_cell b (cs ++ c ∷ []) ≡ or_cell (find_cell b cs) (this_cell b c) → cond u (Some x) (find_cell b (cs ++ c ∷ [])) ≡ or_cell (cond u (Some x) (find_cell b cs)) (this_cell b c)
    go true ih = refl
    go false ih = ih

pub take-next : {X : Type 0} (xs : List X) (i : ℕ) (x : X) → slice_get xs i ≡ Some x → take (i + 1) xs ≡ take i xs ++ x ∷ []
take-next {X = X} xs i x e = let k : i + 1 ≡ suc i = omega arith in ap (λ n. take n xs) k ∙ go xs i e
  where
    go : (ys : List X) (j : ℕ) → slice_get ys j ≡ Some x → take (suc j) ys ≡ take j ys ++ x ∷ []
    go [] j f = absurd (cc)
    go (y ∷ ys) zero f = let same : y ≡ x = cc in ap (λ z. z ∷ []) same
    go (y ∷ ys) (suc j) f = ap (λ zs. y ∷ zs) (go ys j f)

-- what a lane has by its first cells
abbrev pub cells_lots : ℕ → List Cell → Lots → Lots
cells_lots unit cs more u b = cond (nat_eq unit u) (some_extents (find_cell b cs)) [] ++ more u b

wider : (s : Option ℕ) (es fs gs : List Extent) → list_any (begins_with s) (es ++ gs) ≡ true → list_any (begins_with s) (es ++ (fs ++ gs)) ≡ true
wider s es fs gs g = list_any-append (begins_with s) es (fs ++ gs) ∙ ap (λ t. list_any (begins_with s) es || t) (list_any-append (begins_with s) fs gs) ∙ spread (list_any (begins_with s) es) (list_any (begins_with s) fs) (list_any (begins_with s) gs) (sym (list_any-append (begins_with s) es gs) ∙ g)
  where
    spread : (p q r : Bool) → (p || r) ≡ true → (p || (q || r)) ≡ true
    spread true q r k = refl
    spread false true r k = refl
    spread false false r k = k

cells-past : (xs : List Cell) (j : ℕ) → slice_get xs j ≡ None → take (suc j) xs ≡ take j xs
cells-past [] zero g = refl
cells-past [] (suc j) g = refl
cells-past (y ∷ ys) zero g = absurd (cc)
cells-past (y ∷ ys) (suc j) g = ap (λ zs. y ∷ zs) (cells-past ys j g)

pub cells-wide : (unit : ℕ) (cs : List Cell) (i : ℕ) (o : Option Cell) → slice_get cs i ≡ o → (more : Lots) (u b : ℕ) → AreAmong (cells_lots unit (take (i + 1) cs) more u b) (cells_lots unit (take i cs) (cell_lots unit o more) u b)
cells-wide unit cs i None e more u b s some =
    let k : i + 1 ≡ suc i = omega arith in
    same-among (cells_lots unit (take (i + 1) cs) more u b) (cells_lots unit (take i cs) more u b) (ap (λ xs. cond (nat_eq unit u) (some_extents (find_cell b xs)) [] ++ more u b) (ap (λ n. take n cs) k ∙ cells-past cs i e)) s some
cells-wide unit cs i (Some c) e more u b s some = go (nat_eq unit u) (find_cell b (take i cs)) (nat_eq c.block b) (sym (ap (λ q. list_any (begins_with s) (cond (nat_eq unit u) (some_extents q) [] ++ more u b)) (ap (find_cell b) (take-next cs i c e) ∙ find-last b (take i cs) c)) ∙ some)
  where
    go : (x : Bool) (q : Option Cell) (y : Bool) → list_any (begins_with s) (cond x (some_extents (or_cell q (cond y (Some c) None))) [] ++ more u b) ≡ true → list_any (begins_with s) (cond x (some_extents q) [] ++ (cond (x && y) (cell_extents c) [] ++ more u b)) ≡ true
    go true None true h = h
    go true None false h = h
    go true (Some d) true h = wider s (cell_extents d) (cell_extents c) (more u b) h
    go true (Some d) false h = h
    go false q y h = h

pub cells-all : (x : Table) (unit lane i : ℕ) → length (cells_of x.rows.rows.items lane) ≤ i → (more : Lots) (u b : ℕ) → lane_lots x unit (Some lane) more u b ≡ cells_lots unit (take i (cells_of x.rows.rows.items lane)) more u b
cells-all x unit lane i le more u b = ap (λ cs. cond (nat_eq unit u) (some_extents (find_cell b cs)) [] ++ more u b) (sym (take_all i (cells_of x.rows.rows.items lane) le))

-- the lanes of a range, one after the other

pub lots-none : (unit : ℕ) (more : Lots) (u b : ℕ) → cond {A = List Extent} (nat_eq unit u) [] [] ++ more u b ≡ more u b
lots-none unit more u b = go (nat_eq unit u)
  where
    go : (t : Bool) → cond {A = List Extent} t [] [] ++ more u b ≡ more u b
    go true = refl
    go false = refl

pub range-more : (x : Table) (v k : ℕ) (us : List UnitNumber) (w : UnitNumber) (u b : ℕ) → range_extents x v k (us ++ w ∷ []) u b ≡ range_extents x v k us u b ++ cond (nat_eq w.0 u) (lane_extents x (number_in x.lanes (owners.Range v (k + length us))) b) []
range-more x v k [] w u b = let e : k ≡ k + 0 = omega arith in append-nil (cond (nat_eq w.0 u) (lane_extents x (number_in x.lanes (owners.Range v k)) b) []) ∙ ap (λ j. cond (nat_eq w.0 u) (lane_extents x (number_in x.lanes (owners.Range v j)) b) []) e
range-more x v k (y ∷ us) w u b =
    let e : suc k + length us ≡ k + suc (length us) = omega arith in
    let here : List Extent = cond (nat_eq y.0 u) (lane_extents x (number_in x.lanes (owners.Range v k)) b) [] in
    ap (λ es. here ++ es) (range-more x v (suc k) us w u b ∙ ap (λ j. range_extents x v (suc k) us u b ++ cond (nat_eq w.0 u) (lane_extents x (number_in x.lanes (owners.Range v j)) b) []) e)
    ∙ sym (append_assoc here (range_extents x v (suc k) us u b) (cond (nat_eq w.0 u) (lane_extents x (number_in x.lanes (owners.Range v (k + suc (length us)))) b) []))

pub range-wide : (x : Table) (v : ℕ) (us : List UnitNumber) (k : ℕ) (w : UnitNumber) (lane : Option ℕ) → k < length us → w ≡ get_or us k w → lane ≡ number_in x.lanes (owners.Range v k) → (more : Lots) (u b : ℕ) → range_lots x v 0 (take (k + 1) us) more u b ≡ range_lots x v 0 (take k us) (lane_lots x w.0 lane more) u b
range-wide x v us k w lane h at is more u b =
    let next : take (k + 1) us ≡ take k us ++ w ∷ [] = take_more us k w h ∙ ap (λ y. take k us ++ y ∷ []) (sym at) in
    let long : 0 + length (take k us) ≡ k = omega (arith, length-take-le k us (omega arith)) in
    let here : List Extent = cond (nat_eq w.0 u) (lane_extents x lane b) [] in
    ap (λ ys. range_extents x v 0 ys u b ++ more u b) next
    ∙ ap (λ es. es ++ more u b) (range-more x v 0 (take k us) w u b ∙ ap (λ j. range_extents x v 0 (take k us) u b ++ cond (nat_eq w.0 u) (lane_extents x (number_in x.lanes (owners.Range v j)) b) []) long ∙ ap (λ q. range_extents x v 0 (take k us) u b ++ cond (nat_eq w.0 u) (lane_extents x q b) []) (sym is))
    ∙ append_assoc (range_extents x v 0 (take k us) u b) here (more u b)

pub range-all : (x : Table) (v : ℕ) (us : List UnitNumber) (k : ℕ) → length us ≤ k → (more : Lots) (u b : ℕ) → range_lots x v 0 us more u b ≡ range_lots x v 0 (take k us) more u b
range-all x v us k le more u b = ap (λ ys. range_extents x v 0 ys u b ++ more u b) (sym (take_all k us le))

-- the next lane, by the place of its unit
pub thins-next : (x : Table) (v k j : ℕ) (us vs : List UnitNumber) (d : UnitNumber) (lane : Option ℕ) (a b c : UnitTable) → us ≡ vs → j ≡ k → k < length us → lane ≡ number_in x.lanes (owners.Range v j)
    → Thins x.order.slots v (range_lots x v 0 (take k vs)) a b → Thins x.order.slots v (lane_lots x (get_or us k d).0 lane) b c → Thins x.order.slots v (range_lots x v 0 (take (k + 1) vs)) a c
thins-next x v k j us vs d lane a b c same at h is f g =
    let w : UnitNumber = get_or us k d in
    let named : lane ≡ number_in x.lanes (owners.Range v k) = is ∙ ap (λ i. number_in x.lanes (owners.Range v i)) at in
    thins-both x.order.slots v (range_lots x v 0 (take k vs)) (lane_lots x w.0 lane) (range_lots x v 0 (take (k + 1) vs)) a b c
    (λ more u p. subst (λ ys. AreAmong (range_lots x v 0 (take (k + 1) ys) more u p) (range_lots x v 0 (take k ys) (lane_lots x w.0 lane more) u p)) same
    (same-among (range_lots x v 0 (take (k + 1) us) more u p) (range_lots x v 0 (take k us) (lane_lots x w.0 lane more) u p) (range-wide x v us k w lane h (get_or_default us k d w h) named more u p))) f g
