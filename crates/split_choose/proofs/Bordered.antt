-- Bundles of borders by their numbers are those of the function's blocks.
use Rattle.std.proofs.Common.{◌≡◌, ◌∙◌, ◌⊎◌, inl, inr, ℕ, zero, suc, List, [], ◌∷◌, Bool, true, false, cond, refl, sym, ap, subst, arith, Option, Some, None, option_map}
use Rattle.std.specs.Prelude.{nat_eq, slice_get}
use Rattle.std.specs.List.{list_all, cons_option}
use Rattle.std.proofs.lemmas.Bool.{eqb-true, eq-eqb, and_parts, false≢true}
use Rattle.meaning.specs.Live.{Among, here, there}
use Rattle.mir_func.specs.declared.func.Edge.{Edge}
use Rattle.mir_func.specs.declared.func.Block.{Block}
use Rattle.mir_meaning.specs.Points.{Tests}
use Rattle.mir_meaning.specs.Paths.{has}
use Rattle.live_lanes.specs.Ordered.{place_of}
use Rattle.live_lanes.specs.Flowing.{edge_places}
use Rattle.split_choose.specs.Bundles.{start_of, end_of, Linked, itself as alone, edge as way, back as turned, onward as further, root_of, AreBundles}
use Rattle.split_choose.specs.Offers.{Border, In, Out, OneBundle, itself, edge, back, onward}
use Rattle.split_choose.specs.Bundles.{border_place, same_border, same_root, are_joined, ArePlaced, is_found, are_led, AreFollowed}

pub some-same : {X : Type 0} (x y : X) → Some x ≡ Some y → x ≡ y
some-same x y e = cc

-- members of lists

pub among-at : {X : Type 0} (x : X) (xs : List X) → Among x xs → (k : ℕ) × (slice_get xs k ≡ Some x)
among-at x [] m = elim m [ ]
among-at x (y ∷ xs) here = (0, refl)
among-at x (y ∷ xs) (there m) = let z = among-at x xs m in (suc z.0, z.1)

pub among-cases : {X : Type 0} (x y : X) (ys : List X) → Among x (y ∷ ys) → (x ≡ y) ⊎ Among x ys
among-cases x y ys here = inl refl
among-cases x y ys (there m) = inr m

mapped : (g : ℕ → ℕ) (o : Option ℕ) (i : ℕ) → option_map g o ≡ Some i → (k : ℕ) × (o ≡ Some k) × (g k ≡ i)
mapped g None i e = absurd (cc)
mapped g (Some k) i e = (k, refl, some-same (g k) i e)

pub at-among : {X : Type 0} (x : X) (xs : List X) (k : ℕ) → slice_get xs k ≡ Some x → Among x xs
at-among x [] k e = absurd (cc)
at-among x (y ∷ xs) zero e = let P = λ (z : _). Among x (z ∷ xs) in subst P (some-same x y (sym e)) here
at-among x (y ∷ xs) (suc k) e = there (at-among x xs k e)

all-among : {X : Type 0} (f : X → Bool) (x : X) (xs : List X) → list_all f xs ≡ true → Among x xs → f x ≡ true
all-among f x [] h m = elim m [ ]
all-among f x (y ∷ xs) h here = (and_parts (f x) (list_all f xs) h).0
all-among f x (y ∷ xs) h (there m) = all-among f x xs (and_parts (f y) (list_all f xs) h).1 m

found-some : (o : Option ℕ) → is_found o ≡ true → (k : ℕ) × (o ≡ Some k)
found-some None h = absurd (false≢true h)
found-some (Some k) h = (k, refl)

has-first : (n : ℕ) (ns : List ℕ) → has n (n ∷ ns) ≡ true
has-first n ns = ap (λ b. cond b true (has n ns)) (eq-eqb n n refl)

has-later : (m n : ℕ) (ns : List ℕ) → has n ns ≡ true → has n (m ∷ ns) ≡ true
has-later m n ns h = go (nat_eq m n)
  where
    go : (b : Bool) → cond b true (has n ns) ≡ true
    go true = refl
    go false = h

has-cases : (m n : ℕ) (ns : List ℕ) → has n (m ∷ ns) ≡ true → (m ≡ n) ⊎ (has n ns ≡ true)
has-cases m n ns h = go (nat_eq m n) refl h
  where
    go : (b : Bool) → nat_eq m n ≡ b → cond b true (has n ns) ≡ true → (m ≡ n) ⊎ (has n ns ≡ true)
    go true e h = inl (eqb-true m n e)
    go false e h = inr h

-- places of blocks

pub place-block : (n : ℕ) (bs : List Block) (k : ℕ) → place_of n bs ≡ Some k → (b : Block) × (slice_get bs k ≡ Some b) × (b.number ≡ n)
place-block n [] k e = absurd (cc)
place-block n (b ∷ bs) k e = go (nat_eq b.number n) refl e (place-block n bs)
  where
    up : (q : Option ℕ) → option_map (λ y. suc y) q ≡ Some k → ((y : ℕ) → q ≡ Some y → (c : Block) × (slice_get bs y ≡ Some c) × (c.number ≡ n)) → (c : Block) × (slice_get (b ∷ bs) k ≡ Some c) × (c.number ≡ n)
    up None f ih = absurd (cc)
    up (Some y) f ih = let z = ih y refl in (z.0, ap (slice_get (b ∷ bs)) (some-same k (suc y) (sym f)) ∙ z.1, z.2)

    go : (q : Bool) → nat_eq b.number n ≡ q → cond q (Some 0) (option_map (λ y. suc y) (place_of n bs)) ≡ Some k → ((y : ℕ) → place_of n bs ≡ Some y → (c : Block) × (slice_get bs y ≡ Some c) × (c.number ≡ n)) → (c : Block) × (slice_get (b ∷ bs) k ≡ Some c) × (c.number ≡ n)
    go true f g ih = (b, ap (slice_get (b ∷ bs)) (some-same k 0 (sym g)), eqb-true b.number n f)
    go false f g ih = up (place_of n bs) g ih

place-same : (n m : ℕ) (bs : List Block) (k : ℕ) → place_of n bs ≡ Some k → place_of m bs ≡ Some k → n ≡ m
place-same n m bs k e f =
    let a = place-block n bs k e in let b = place-block m bs k f in
    let P : Block → ℕ = λ c. c.number in
    let same : a.0 ≡ b.0 = some-same a.0 b.0 (sym a.1 ∙ b.1) in
    sym a.2 ∙ (ap P same ∙ b.2)

pub edge-at : (bs : List Block) (es : List Edge) (n : ℕ) → has n (edge_places (λ m. place_of m bs) es) ≡ true → (e : Edge) × Among e es × (place_of e.block bs ≡ Some n)
edge-at bs [] n h = absurd (false≢true h)
edge-at bs (e ∷ es) n h = go (place_of e.block bs) refl h (edge-at bs es n)
  where
    later : ((d : Edge) × Among d es × (place_of d.block bs ≡ Some n)) → (d : Edge) × Among d (e ∷ es) × (place_of d.block bs ≡ Some n)
    later z = (z.0, there z.1, z.2)

    step : (k : ℕ) → place_of e.block bs ≡ Some k → (k ≡ n) ⊎ (has n (edge_places (λ m. place_of m bs) es) ≡ true) → (has n (edge_places (λ m. place_of m bs) es) ≡ true → (d : Edge) × Among d es × (place_of d.block bs ≡ Some n)) → (d : Edge) × Among d (e ∷ es) × (place_of d.block bs ≡ Some n)
    step k q (inl s) ih = (e, here, q ∙ ap Some s)
    step k q (inr s) ih = later (ih s)

    go : (o : Option ℕ) → place_of e.block bs ≡ o → has n (cons_option o (edge_places (λ m. place_of m bs) es)) ≡ true → (has n (edge_places (λ m. place_of m bs) es) ≡ true → (d : Edge) × Among d es × (place_of d.block bs ≡ Some n)) → (d : Edge) × Among d (e ∷ es) × (place_of d.block bs ≡ Some n)
    go None q h ih = later (ih h)
    go (Some k) q h ih = step k q (has-cases k n (edge_places (λ m. place_of m bs) es) h) ih

at-edge : (bs : List Block) (es : List Edge) (e : Edge) (n : ℕ) → Among e es → place_of e.block bs ≡ Some n → has n (edge_places (λ m. place_of m bs) es) ≡ true
at-edge bs [] e n m q = elim m [ ]
at-edge bs (d ∷ es) e n m q = go m (at-edge bs es e n)
  where
    past : (o : Option ℕ) → has n (edge_places (λ m. place_of m bs) es) ≡ true → has n (cons_option o (edge_places (λ m. place_of m bs) es)) ≡ true
    past None h = h
    past (Some k) h = has-later k n (edge_places (λ m. place_of m bs) es) h

    first : (o : Option ℕ) → o ≡ Some n → has n (cons_option o (edge_places (λ m. place_of m bs) es)) ≡ true
    first o f = let P : Option ℕ → Type 0 = λ p. has n (cons_option p (edge_places (λ m. place_of m bs) es)) ≡ true in subst P (sym f) (has-first n (edge_places (λ m. place_of m bs) es))

    go : Among e (d ∷ es) → (Among e es → place_of e.block bs ≡ Some n → has n (edge_places (λ m. place_of m bs) es) ≡ true) → has n (cons_option (place_of d.block bs) (edge_places (λ m. place_of m bs) es)) ≡ true
    go m ih = by_case (among-cases e d es m) ih
      where
        by_case : (e ≡ d) ⊎ Among e es → (Among e es → place_of e.block bs ≡ Some n → has n (edge_places (λ m. place_of m bs) es) ≡ true) → has n (cons_option (place_of d.block bs) (edge_places (λ m. place_of m bs) es)) ≡ true
        by_case (inl f) ih = first (place_of d.block bs) (let P : Edge → Type 0 = λ c. place_of c.block bs ≡ Some n in subst P f q)
        by_case (inr m) ih = past (place_of d.block bs) (ih m q)

-- numbers of borders

border-same : (bs : List Block) (x y : Border) (i : ℕ) → border_place bs x ≡ Some i → border_place bs y ≡ Some i → x ≡ y
border-same bs (In n) (In m) i e f = ap In (let a = mapped start_of (place_of n bs) i e in let b = mapped start_of (place_of m bs) i f in let s : a.0 ≡ b.0 = (let p = a.2 in let q = b.2 in omega arith) in place-same n m bs a.0 a.1 (b.1 ∙ ap Some (sym s)))
border-same bs (Out n) (Out m) i e f = ap Out (let a = mapped end_of (place_of n bs) i e in let b = mapped end_of (place_of m bs) i f in let s : a.0 ≡ b.0 = (let p = a.2 in let q = b.2 in omega arith) in place-same n m bs a.0 a.1 (b.1 ∙ ap Some (sym s)))
border-same bs (In n) (Out m) i e f = absurd (let a = mapped start_of (place_of n bs) i e in let b = mapped end_of (place_of m bs) i f in let p = a.2 in let q = b.2 in omega arith)
border-same bs (Out n) (In m) i e f = absurd (let a = mapped end_of (place_of n bs) i e in let b = mapped start_of (place_of m bs) i f in let p = a.2 in let q = b.2 in omega arith)

border-equal : (x y : Border) → same_border x y ≡ true → x ≡ y
border-equal (In n) (In m) h = ap In (eqb-true n m h)
border-equal (Out n) (Out m) h = ap Out (eqb-true n m h)
border-equal (In n) (Out m) h = absurd (false≢true h)
border-equal (Out n) (In m) h = absurd (false≢true h)

border-itself : (x : Border) → same_border x x ≡ true
border-itself (In n) = eq-eqb n n refl
border-itself (Out n) = eq-eqb n n refl

-- borders that are linked by their numbers are of one bundle, and the other way round

module _ (bs : List Block) (next : ℕ → List ℕ) (placed : ArePlaced bs) (led : are_led bs ≡ true) (followed : AreFollowed next bs) where
  OfOne : ℕ × ℕ → Type 0
  OfOne p = (p.0 ≡ p.1) ⊎ ((x : Border) × (y : Border) × (border_place bs x ≡ Some p.0) × (border_place bs y ≡ Some p.1) × OneBundle bs (x, y))

  of-linked : (p : ℕ × ℕ) → Linked next p → OfOne p
  unfolding OfOne
  of-linked p alone = inl refl
  of-linked p (way k n h) = go (slice_get bs k) refl (let P : Bool → Type 0 = λ b. b ≡ true in subst P (followed k n) h)
    where
      led_to : (b : Block) → slice_get bs k ≡ Some b → ((e : Edge) × Among e b.successors × (place_of e.block bs ≡ Some n)) → OfOne (end_of k, start_of n)
      led_to b at z = inr (Out b.number, In z.0.block, ap (option_map end_of) (placed k b at), ap (option_map start_of) z.2, edge (at-among b bs k at) z.1)

      go : (o : Option Block) → slice_get bs k ≡ o → has n (elim o [ None ↦ [] | Some c ↦ edge_places (λ m. place_of m bs) c.successors ]) ≡ true → OfOne (end_of k, start_of n)
      go None at h = absurd (false≢true h)
      go (Some b) at h = led_to b at (edge-at bs b.successors n h)
  of-linked p (turned {x} {y} l) = go (of-linked (x, y) l)
    where
      go : OfOne (x, y) → OfOne (y, x)
      go (inl e) = inl (sym e)
      go (inr z) = inr (z.1, z.0, z.3, z.2, back z.4)
  of-linked p (further {x} {y} {z} l m) = go (of-linked (x, y) l) (of-linked (y, z) m)
    where
      go : OfOne (x, y) → OfOne (y, z) → OfOne (x, z)
      go (inl e) h = let P : ℕ → Type 0 = λ a. OfOne (a, z) in subst P (sym e) h
      go (inr a) (inl f) = let P : ℕ → Type 0 = λ c. OfOne (x, c) in subst P f (inr a)
      go (inr a) (inr b) = inr (a.0, b.1, a.2, b.3, onward (let s : b.0 ≡ a.1 = border-same bs b.0 a.1 y b.2 a.3 in let P : Border → Type 0 = λ c. OneBundle bs (a.0, c) in subst P (sym s) a.4) b.4)

  -- both are borders of blocks, which are linked, or they are one
  Numbered : Border × Border → Type 0
  Numbered p = (p.0 ≡ p.1) ⊎ ((i : ℕ) × (j : ℕ) × (border_place bs p.0 ≡ Some i) × (border_place bs p.1 ≡ Some j) × Linked next (i, j))

  of-one : (p : Border × Border) → OneBundle bs p → Numbered p
  unfolding Numbered
  of-one p itself = inl refl
  of-one p (edge {b} {e} m n) = go (among-at b bs m) (found-some (place_of e.block bs) (all-among (λ (d : Edge). is_found (place_of d.block bs)) e b.successors (all-among (λ (c : Block). list_all (λ (d : Edge). is_found (place_of d.block bs)) c.successors) b bs led m) n))
    where
      go : ((k : ℕ) × (slice_get bs k ≡ Some b)) → ((y : ℕ) × (place_of e.block bs ≡ Some y)) → Numbered (Out b.number, In e.block)
      go (k, at) (y, to) = inr (end_of k, start_of y, ap (option_map end_of) (placed k b at), ap (option_map start_of) to, way k y (followed k y ∙ (ap (λ (o : Option Block). has y (elim o [ None ↦ [] | Some c ↦ edge_places (λ m. place_of m bs) c.successors ])) at ∙ at-edge bs b.successors e y n to)))
  of-one p (back {x} {y} l) = go (of-one (x, y) l)
    where
      go : Numbered (x, y) → Numbered (y, x)
      go (inl e) = inl (sym e)
      go (inr z) = inr (z.1, z.0, z.3, z.2, turned z.4)
  of-one p (onward {x} {y} {z} l m) = go (of-one (x, y) l) (of-one (y, z) m)
    where
      go : Numbered (x, y) → Numbered (y, z) → Numbered (x, z)
      go (inl e) h = let P : Border → Type 0 = λ a. Numbered (a, z) in subst P (sym e) h
      go (inr a) (inl f) = let P : Border → Type 0 = λ c. Numbered (x, c) in subst P f (inr a)
      go (inr a) (inr b) = inr (a.0, b.1, a.2, b.3, further (let s : b.0 ≡ a.1 = some-same b.0 a.1 (sym b.2 ∙ a.3) in let P : ℕ → Type 0 = λ c. Linked next (a.0, c) in subst P (sym s) a.4) b.4)

  module _ (ps : List ℕ) (bundles : AreBundles next ps) where
    joined-one : (x y : Border) → are_joined bs ps (x, y) ≡ true → OneBundle bs (x, y)
    unfolding OfOne
    joined-one x y h = go (border_place bs x) refl h
      where
        equal : x ≡ y → OneBundle bs (x, y)
        equal e = let P : Border → Type 0 = λ z. OneBundle bs (x, z) in subst P e itself

        of : (i j : ℕ) → border_place bs x ≡ Some i → border_place bs y ≡ Some j → OfOne (i, j) → OneBundle bs (x, y)
        of i j at to (inl e) = equal (border-same bs x y i at (to ∙ ap Some (sym e)))
        of i j at to (inr z) =
            let P : Border → Type 0 = λ a. OneBundle bs (a, z.1) in let Q : Border → Type 0 = λ b. OneBundle bs (x, b) in
            subst Q (border-same bs z.1 y j z.3 to) (subst P (border-same bs z.0 x i z.2 at) z.4)

        with_root : (i : ℕ) (o : Option ℕ) → border_place bs x ≡ Some i → border_place bs y ≡ o → same_root ps i o ≡ true → OneBundle bs (x, y)
        with_root i None at to h = absurd (false≢true h)
        with_root i (Some j) at to h = of i j at to (of-linked (i, j) ((bundles i j).0 h))

        go : (o : Option ℕ) → border_place bs x ≡ o → elim o [ None ↦ same_border x y | Some i ↦ same_root ps i (border_place bs y) ] ≡ true → OneBundle bs (x, y)
        go None at h = equal (border-equal x y h)
        go (Some i) at h = with_root i (border_place bs y) at refl h

    one-joined : (x y : Border) → OneBundle bs (x, y) → are_joined bs ps (x, y) ≡ true
    unfolding Numbered
    one-joined x y l = go (of-one (x, y) l)
      where
        alike : (o : Option ℕ) → border_place bs x ≡ o → are_joined bs ps (x, x) ≡ true
        alike None e = ap (λ (o : Option ℕ). elim o [ None ↦ same_border x x | Some i ↦ same_root ps i (border_place bs x) ]) e ∙ border-itself x
        alike (Some i) e = ap (λ (o : Option ℕ). elim o [ None ↦ same_border x x | Some i ↦ same_root ps i (border_place bs x) ]) e ∙ (ap (same_root ps i) e ∙ eq-eqb (root_of ps i) (root_of ps i) refl)

        go : Numbered (x, y) → are_joined bs ps (x, y) ≡ true
        go (inl e) = let P : Border → Type 0 = λ z. are_joined bs ps (x, z) ≡ true in subst P e (alike (border_place bs x) refl)
        go (inr (i, j, at, to, l)) =
            ap (λ (o : Option ℕ). elim o [ None ↦ same_border x y | Some i ↦ same_root ps i (border_place bs y) ]) at ∙ (ap (same_root ps i) to ∙ (bundles i j).1 l)

    pub joined-tests : Tests (OneBundle bs) (are_joined bs ps)
    joined-tests (x, y) = (joined-one x y, one-joined x y)
