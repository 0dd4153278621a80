-- The nodes of bundles by their first borders are those by the borders that stand for them.
use Rattle.std.proofs.Common.{◌≡◌, ◌∙◌, ◌⊎◌, inl, inr, ℕ, zero, suc, ◌+◌, ◌*◌, ◌<◌, ◌≤◌, List, [], ◌∷◌, Bool, true, false, cond, refl, sym, ap, length, filter, arith, Option, None, Some, option_map}
use Rattle.std.specs.Prelude.{◌||◌, ◌&&◌, not, slice_get, flat_map, nat_eq}
use Rattle.std.specs.List.{list_any}
use Rattle.std.proofs.lemmas.Bool.{cases_eq, eq-eqb, ne_eqb, or_left, or_right}
use Rattle.target_base.specs.declared.types.Target.{Target}
use Rattle.target_base.specs.declared.types.Reg.{Reg}
use Rattle.mir_func.specs.declared.func.Block.{Block}
use Rattle.mir_func.specs.Value.{Function}
use Rattle.mir_meaning.specs.Points.{Start}
use Rattle.live_lanes.specs.Ordered.{place_of}
use Rattle.split_choose.specs.declared.spans.Span.{Span}
use Rattle.split_choose.specs.Bundles.{start_of, end_of, root_of, border_place, same_border, same_root, are_joined, ArePlaced, AreEarlier}
use Rattle.split_choose.specs.Regions.{is_bordered, bars, is_out}
use Rattle.split_choose.specs.Nets.{count_below, is_named, is_free, node_of}
use Rattle.split_choose.specs.Offers.{View, Border, In, Out, live_at, borders, is_clear, is_in, end_point}
use Rattle.split_choose.specs.Cuts.{Bundle, place_by, first_borders, bundle_nodes, number_of}
use Rattle.split_choose.proofs.Roots.{root-root, root_falls}
use Rattle.split_choose.proofs.Telling.{IsTold, IsUntold}
use Rattle.split_choose.proofs.Along.{Along, along-any}
use Rattle.split_choose.proofs.Barred.{live-out, joined-in, joined-out, out-is}
use Rattle.split_choose.proofs.Clearing.{some-of}
use Rattle.split_choose.proofs.Spread.{place-among}
use Rattle.split_choose.proofs.Picking.{picked, filter-picked, picked-same, picked-many, picked-place}

-- tests

and-none : (b : Bool) → (b && false) ≡ false
and-none true = refl
and-none false = refl

and-all : (b : Bool) → (b && true) ≡ b
and-all true = refl
and-all false = refl

and-turn : (a b : Bool) → (a && b) ≡ (b && a)
and-turn true b = sym (and-all b)
and-turn false b = sym (and-none b)

not-not : (b : Bool) → not (not b) ≡ b
not-not true = refl
not-not false = refl

some-same : {X : Type 0} (x y : X) → Some x ≡ Some y → x ≡ y
some-same x y e = cc

none-any : {X : Type 0} (g : X → Bool) (xs : List X) → ((x : X) → g x ≡ false) → list_any g xs ≡ false
none-any g [] none = refl
none-any g (x ∷ xs) none = ap (λ b. b || list_any g xs) (none x) ∙ none-any g xs none

any-pairs : {X Y : Type 0} (g : Y → Bool) (p q : X → Y) (xs : List X) → list_any g (flat_map (λ x. p x ∷ q x ∷ []) xs) ≡ list_any (λ x. g (p x) || g (q x)) xs
any-pairs g p q [] = refl
any-pairs g p q (x ∷ xs) = ap (λ b. g (p x) || (g (q x) || b)) (any-pairs g p q xs) ∙ or-assoc (g (p x)) (g (q x)) (list_any (λ y. g (p y) || g (q y)) xs)
  where
    or-assoc : (a b c : Bool) → (a || (b || c)) ≡ ((a || b) || c)
    or-assoc true b c = refl
    or-assoc false b c = refl

-- borders in layout have the numbers in order

pairs-many : (bs : List Block) → length (flat_map (λ (b : Block). In b.number ∷ Out b.number ∷ []) bs) ≡ 2 * length bs
pairs-many [] = refl
pairs-many (b ∷ bs) = let ih = pairs-many bs in omega (arith, ih)

pairs-at : (all bs : List Block) (n : ℕ) → ((k : ℕ) (b : Block) → slice_get bs k ≡ Some b → place_of b.number all ≡ Some (n + k))
    → (j : ℕ) (x : Border) → slice_get (flat_map (λ (b : Block). In b.number ∷ Out b.number ∷ []) bs) j ≡ Some x → border_place all x ≡ Some (2 * n + j)
pairs-at all [] n placed j x at = absurd (cc)
pairs-at all (b ∷ bs) n placed zero x at =
    let same : In b.number ≡ x = some-same (In b.number) x at in
    let e : start_of (n + 0) ≡ 2 * n + 0 = omega arith in
    ap (border_place all) (sym same) ∙ (ap (option_map start_of) (placed 0 b refl) ∙ ap Some e)
pairs-at all (b ∷ bs) n placed (suc zero) x at =
    let same : Out b.number ≡ x = some-same (Out b.number) x at in
    let e : end_of (n + 0) ≡ 2 * n + 1 = omega arith in
    ap (border_place all) (sym same) ∙ (ap (option_map end_of) (placed 0 b refl) ∙ ap Some e)
pairs-at all (b ∷ bs) n placed (suc (suc j)) x at =
    let e : 2 * suc n + j ≡ 2 * n + suc (suc j) = omega arith in
    pairs-at all bs (suc n) (λ k c got. (let d : n + suc k ≡ suc n + k = omega arith in placed (suc k) c got ∙ ap Some d)) j x at ∙ ap Some e

module _ (t : Target) (f : Function) (v : ℕ) (view : View) (ps : List ℕ) (placed : ArePlaced f.blocks) (one : (x y : Border) → view.one_bundle (x, y) ≡ are_joined f.blocks ps (x, y)) (earlier : AreEarlier ps) where
  falls : (i : ℕ) → root_of ps i ≤ i
  falls i = root_falls ps earlier (length ps) i

  -- borders of these numbers are of one bundle where one border stands for both
  joined-by : (x y : Border) (i j : ℕ) → border_place f.blocks x ≡ Some i → border_place f.blocks y ≡ Some j → view.one_bundle (x, y) ≡ nat_eq (root_of ps i) (root_of ps j)
  joined-by x y i j at there =
      one x y ∙ (ap (λ (o : Option ℕ). elim o [ None ↦ same_border x y | Some n ↦ same_root ps n (border_place f.blocks y) ]) at ∙ ap (same_root ps i) there)

  pub border-at : (j : ℕ) (x : Border) → slice_get (borders t f v view) j ≡ Some x → border_place f.blocks x ≡ Some j
  border-at j x at = let e : 2 * 0 + j ≡ j = omega arith in pairs-at f.blocks f.blocks 0 (λ k b got. (let d : k ≡ 0 + k = omega arith in placed k b got ∙ ap Some d)) j x at ∙ ap Some e

  -- a border, and those behind it that pass and aren't of its bundle
  abbrev with-first : ℕ → (ℕ → Bool) → ℕ → Bool
  with-first k p j = nat_eq j k || (p j && not (nat_eq (root_of ps k) (root_of ps j)))

  one-more : (k : ℕ) (x : Border) (xs : List Border) (ys : List Border) (p : ℕ → Bool) → ((j : ℕ) (y : Border) → slice_get xs j ≡ Some y → not (view.one_bundle (x, y)) ≡ not (nat_eq (root_of ps k) (root_of ps (suc k + j))))
      → ys ≡ picked p (suc k) xs → x ∷ filter (λ y. not (view.one_bundle (x, y))) ys ≡ picked (with-first k p) k (x ∷ xs)
  one-more k x xs ys p apart same =
      ap (λ zs. x ∷ filter (λ y. not (view.one_bundle (x, y))) zs) same
      ∙ (ap (λ zs. x ∷ zs) (filter-picked (λ y. not (view.one_bundle (x, y))) (λ j. not (nat_eq (root_of ps k) (root_of ps j))) p (suc k) xs apart
      ∙ picked-same (λ j. p j && not (nat_eq (root_of ps k) (root_of ps j))) (with-first k p) (suc k) xs (λ j y got. off j))
      ∙ sym (ap (λ b. cond (b || (p k && not (nat_eq (root_of ps k) (root_of ps k)))) (x ∷ picked (with-first k p) (suc k) xs) (picked (with-first k p) (suc k) xs)) (eq-eqb k k refl)))
    where
      off : (j : ℕ) → (p (suc k + j) && not (nat_eq (root_of ps k) (root_of ps (suc k + j)))) ≡ with-first k p (suc k + j)
      off j = sym (ap (λ b. b || (p (suc k + j) && not (nat_eq (root_of ps k) (root_of ps (suc k + j))))) (ne_eqb (suc k + j) k (λ z. omega (arith, z))))

  stands-for : (k : ℕ) (p : ℕ → Bool) → ((j : ℕ) → suc k ≤ root_of ps j → p j ≡ nat_eq (root_of ps j) j) → (j : ℕ) → k ≤ root_of ps j → with-first k p j ≡ nat_eq (root_of ps j) j
  stands-for k p told j low = by_place (cases_eq j k)
    where
      behind : (j ≡ k → ⊥) → (root_of ps j ≡ k) ⊎ (root_of ps j ≡ k → ⊥) → with-first k p j ≡ nat_eq (root_of ps j) j
      behind d (inl e) =
          let both : root_of ps k ≡ root_of ps j = ap (root_of ps) (sym e) ∙ root-root ps earlier j in
          ap (λ b. b || (p j && not (nat_eq (root_of ps k) (root_of ps j)))) (ne_eqb j k d)
          ∙ (ap (λ b. p j && not b) (eq-eqb (root_of ps k) (root_of ps j) both)
          ∙ (and-none (p j) ∙ sym (ne_eqb (root_of ps j) j (λ z. d (sym z ∙ e)))))
      behind d (inr n) =
          let own = falls k in
          let above : suc k ≤ root_of ps j = omega (arith, low, n) in
          let off : nat_eq (root_of ps k) (root_of ps j) ≡ false = ne_eqb (root_of ps k) (root_of ps j) (λ z. omega (arith, z, own, above)) in
          ap (λ b. b || (p j && not (nat_eq (root_of ps k) (root_of ps j)))) (ne_eqb j k d)
          ∙ (ap (λ b. p j && not b) off ∙ (and-all (p j) ∙ told j above))

      by_place : (j ≡ k) ⊎ (j ≡ k → ⊥) → with-first k p j ≡ nat_eq (root_of ps j) j
      by_place (inl e) =
          let own = falls j in
          let itself : root_of ps j ≡ j = omega (arith, e, own, low) in
          ap (λ b. b || (p j && not (nat_eq (root_of ps k) (root_of ps j)))) (eq-eqb j k e) ∙ sym (eq-eqb (root_of ps j) j itself)
      by_place (inr d) = behind d (cases_eq (root_of ps j) k)

  -- the first borders of bundles, from a border on: of the bundles that begin there or later, those that stand for them
  abbrev Firsts : Reg → ℕ → List Border → Type 0
  Firsts r k xs = (p : ℕ → Bool) × (first_borders t f v view r xs ≡ picked p k xs) × ((j : ℕ) → k ≤ root_of ps j → p j ≡ nat_eq (root_of ps j) j)

  firsts : (r : Reg) (k : ℕ) (xs : List Border) → ((j : ℕ) (x : Border) → slice_get xs j ≡ Some x → border_place f.blocks x ≡ Some (k + j)) → Firsts r k xs
  firsts r k [] at = ((λ j. nat_eq (root_of ps j) j), refl, λ j low. refl)
  firsts r k (x ∷ xs) at = go (firsts r (suc k) xs later)
    where
      later : (j : ℕ) (y : Border) → slice_get xs j ≡ Some y → border_place f.blocks y ≡ Some (suc k + j)
      later j y got = let e : k + suc j ≡ suc k + j = omega arith in at (suc j) y got ∙ ap Some e

      here : border_place f.blocks x ≡ Some k
      here = let e : k + 0 ≡ k = omega arith in at 0 x refl ∙ ap Some e

      go : Firsts r (suc k) xs → Firsts r k (x ∷ xs)
      go (p, same, told) = (
        with-first k p,
        one-more k x xs (first_borders t f v view r xs) p (λ j y got. ap not (joined-by x y k (suc k + j) here (later j y got))) same,
        stands-for k p told,
      )

  module _ (freqs : List ℕ) (spans : List Span) (r : Reg) (clear : Span → Bool)
      (cleared : (k : ℕ) (b : Block) (s : Span) → IsTold t f v view freqs spans k b s → clear s ≡ is_clear t f v view r b)
      (all : Along (λ (s : Span). s.position) (IsTold t f v view freqs spans) (IsUntold t f v view) 0 f.blocks spans) where
    -- the range is live at a border of the bundle
    names : Border → Border → Bool
    names x y = view.one_bundle (x, y) && live_at t f v view y

    told-names : (x : Border) (i k : ℕ) (b : Block) (s : Span) → border_place f.blocks x ≡ Some i → IsTold t f v view freqs spans k b s → is_bordered ps (root_of ps i) s ≡ (names x (In b.number) || names x (Out b.number))
    unfolding names
    told-names x i k b s is told =
        let e = nat_eq (root_of ps (start_of k)) (root_of ps i) in
        let g = nat_eq (root_of ps (end_of k)) (root_of ps i) in
        let l = view.live (Start b.number) in
        let m = view.live (end_point b) in
        ap (λ n. (s.is_live_in && nat_eq (root_of ps (start_of n)) (root_of ps i)) || (s.is_live_out && nat_eq (root_of ps (end_of n)) (root_of ps i))) told.position
        ∙ (ap (λ c. (c && e) || (s.is_live_out && g)) told.live_in
        ∙ (ap (λ c. (l && e) || (c && g)) told.live_out
        ∙ (ap (λ c. c || (m && g)) (and-turn l e)
        ∙ (ap (λ c. (e && l) || c) (and-turn m g)
        ∙ (ap (λ c. (c && l) || (g && m)) (sym (joined-in t f v view ps placed one x i k b is told.at))
        ∙ (ap (λ c. (view.one_bundle (x, In b.number) && l) || (c && m)) (sym (joined-out t f v view ps placed one x i k b is told.at))
        ∙ ap (λ c. (view.one_bundle (x, In b.number) && l) || (view.one_bundle (x, Out b.number) && c)) (sym (live-out t f v view ps placed one k b told.at))))))))

    untold-names : (x : Border) (k : ℕ) (b : Block) → IsUntold t f v view k b → (names x (In b.number) || names x (Out b.number)) ≡ false
    unfolding names
    untold-names x k b untold =
        ap (λ c. (view.one_bundle (x, In b.number) && c) || (view.one_bundle (x, Out b.number) && live_at t f v view (Out b.number))) untold.live_in
        ∙ (ap (λ c. (view.one_bundle (x, In b.number) && false) || (view.one_bundle (x, Out b.number) && c)) (live-out t f v view ps placed one k b untold.at ∙ untold.live_out)
        ∙ or-none (view.one_bundle (x, In b.number)) (view.one_bundle (x, Out b.number)))
      where
        or-none : (a b : Bool) → ((a && false) || (b && false)) ≡ false
        or-none true b = and-none b
        or-none false b = and-none b

    pub named-is : (x : Border) (i : ℕ) → border_place f.blocks x ≡ Some i → is_named ps spans (root_of ps i) ≡ list_any (λ y. view.one_bundle (x, y) && live_at t f v view y) (borders t f v view)
    unfolding names
    named-is x i is =
        along-any (λ (s : Span). s.position) (IsTold t f v view freqs spans) (IsUntold t f v view) (is_bordered ps (root_of ps i)) (λ b. names x (In b.number) || names x (Out b.number))
        (λ k b s told. told-names x i k b s is told) (λ k b untold. untold-names x k b untold) 0 f.blocks spans all
        ∙ sym (any-pairs (names x) (λ (b : Block). In b.number) (λ (b : Block). Out b.number) f.blocks)

    -- a bundle is named at each border at which the range is live
    pub named-in : (k : ℕ) (b : Block) → slice_get f.blocks k ≡ Some b → live_at t f v view (In b.number) ≡ true → is_named ps spans (root_of ps (start_of k)) ≡ true
    unfolding names
    named-in k b at live =
        let is : border_place f.blocks (In b.number) ≡ Some (start_of k) = ap (option_map start_of) (placed k b at) in
        let own : names (In b.number) (In b.number) ≡ true = (ap (λ c. c && live_at t f v view (In b.number)) (joined-by (In b.number) (In b.number) (start_of k) (start_of k) is is ∙ eq-eqb (root_of ps (start_of k)) (root_of ps (start_of k)) refl) ∙ live) in
        named-is (In b.number) (start_of k) is
        ∙ (any-pairs (names (In b.number)) (λ (c : Block). In c.number) (λ (c : Block). Out c.number) f.blocks
        ∙ some-of (λ (c : Block). names (In b.number) (In c.number) || names (In b.number) (Out c.number)) f.blocks b (place-among b f.blocks k at) (or_left _ _ own))

    pub named-out : (k : ℕ) (b : Block) → slice_get f.blocks k ≡ Some b → live_at t f v view (Out b.number) ≡ true → is_named ps spans (root_of ps (end_of k)) ≡ true
    unfolding names
    named-out k b at live =
        let is : border_place f.blocks (Out b.number) ≡ Some (end_of k) = ap (option_map end_of) (placed k b at) in
        let own : names (Out b.number) (Out b.number) ≡ true = (ap (λ c. c && live_at t f v view (Out b.number)) (joined-by (Out b.number) (Out b.number) (end_of k) (end_of k) is is ∙ eq-eqb (root_of ps (end_of k)) (root_of ps (end_of k)) refl) ∙ live) in
        named-is (Out b.number) (end_of k) is
        ∙ (any-pairs (names (Out b.number)) (λ (c : Block). In c.number) (λ (c : Block). Out c.number) f.blocks
        ∙ some-of (λ (c : Block). names (Out b.number) (In c.number) || names (Out b.number) (Out c.number)) f.blocks b (place-among b f.blocks k at) (or_right _ _ own))

    in-is : (x : Border) (i : ℕ) → border_place f.blocks x ≡ Some i → is_in t f v view r x ≡ not (is_out ps clear spans i)
    in-is x i is = sym (not-not (is_in t f v view r x)) ∙ ap not (sym (out-is t f v view ps placed one freqs spans r clear cleared all x i is))

    -- no border but one that stands for its bundle is of a bundle with a node of its own
    free-none : (j : ℕ) → (root_of ps j ≡ j → ⊥) → is_free ps clear spans j ≡ false
    free-none j d =
        ap (λ b. b && not (list_any (bars ps clear j) spans)) (none-any (is_bordered ps j) spans (λ s. apart s))
      where
        off : (i : ℕ) → nat_eq (root_of ps i) j ≡ false
        off i = ne_eqb (root_of ps i) j (λ e. d (ap (root_of ps) (sym e) ∙ (root-root ps earlier i ∙ e)))

        apart : (s : Span) → is_bordered ps j s ≡ false
        apart s =
            ap (λ b. (s.is_live_in && b) || (s.is_live_out && nat_eq (root_of ps (end_of s.position)) j)) (off (start_of s.position))
            ∙ (ap (λ b. (s.is_live_in && false) || (s.is_live_out && b)) (off (end_of s.position))
            ∙ or-none s.is_live_in s.is_live_out)
          where
            or-none : (a b : Bool) → ((a && false) || (b && false)) ≡ false
            or-none true b = and-none b
            or-none false b = and-none b

    stands : (j : ℕ) → is_free ps clear spans j ≡ true → root_of ps j ≡ j
    stands j h = go (cases_eq (root_of ps j) j)
      where
        go : (root_of ps j ≡ j) ⊎ (root_of ps j ≡ j → ⊥) → root_of ps j ≡ j
        go (inl e) = e
        go (inr d) = let z : true ≡ false = sym h ∙ free-none j d in absurd (cc)

    -- a first border has a node of its own just where its bundle is free
    own-node : (j : ℕ) (x : Border) (b : Bool) → border_place f.blocks x ≡ Some j → b ≡ nat_eq (root_of ps j) j
        → (b && (is_in t f v view r x && list_any (λ y. view.one_bundle (x, y) && live_at t f v view y) (borders t f v view))) ≡ is_free ps clear spans j
    own-node j x b is told =
        ap (λ c. c && (is_in t f v view r x && list_any (λ y. view.one_bundle (x, y) && live_at t f v view y) (borders t f v view))) told
        ∙ (ap (λ c. nat_eq (root_of ps j) j && (c && list_any (λ y. view.one_bundle (x, y) && live_at t f v view y) (borders t f v view))) (in-is x j is)
        ∙ (ap (λ c. nat_eq (root_of ps j) j && (not (is_out ps clear spans j) && c)) (sym (named-is x j is))
        ∙ go (cases_eq (root_of ps j) j)))
      where
        go : (root_of ps j ≡ j) ⊎ (root_of ps j ≡ j → ⊥) → (nat_eq (root_of ps j) j && (not (is_out ps clear spans j) && is_named ps spans (root_of ps j))) ≡ is_free ps clear spans j
        go (inl e) =
            ap (λ c. c && (not (is_out ps clear spans j) && is_named ps spans (root_of ps j))) (eq-eqb (root_of ps j) j e)
            ∙ (ap (λ n. not (list_any (bars ps clear n) spans) && is_named ps spans n) e
            ∙ and-turn (not (list_any (bars ps clear j) spans)) (is_named ps spans j))
        go (inr d) =
            ap (λ c. c && (not (is_out ps clear spans j) && is_named ps spans (root_of ps j))) (ne_eqb (root_of ps j) j d)
            ∙ sym (free-none j d)

    nodes-are : bundle_nodes t f v view r ≡ picked (is_free ps clear spans) 0 (borders t f v view)
    nodes-are = go (firsts r 0 (borders t f v view) (λ j x at. (let e : j ≡ 0 + j = omega arith in border-at j x at ∙ ap Some e)))
      where
        go : Firsts r 0 (borders t f v view) → bundle_nodes t f v view r ≡ picked (is_free ps clear spans) 0 (borders t f v view)
        go (p, same, told) =
            ap (filter (λ x. is_in t f v view r x && list_any (λ y. view.one_bundle (x, y) && live_at t f v view y) (borders t f v view))) same
            ∙ (filter-picked (λ x. is_in t f v view r x && list_any (λ y. view.one_bundle (x, y) && live_at t f v view y) (borders t f v view)) (λ j. not (is_out ps clear spans j) && is_named ps spans (root_of ps j)) p 0 (borders t f v view)
            (λ j x at. (let e : j ≡ 0 + j = omega arith in
            ap (λ c. c && list_any (λ y. view.one_bundle (x, y) && live_at t f v view y) (borders t f v view)) (in-is x j (border-at j x at))
            ∙ (ap (λ c. not (is_out ps clear spans j) && c) (sym (named-is x j (border-at j x at)))
            ∙ ap (λ n. not (is_out ps clear spans n) && is_named ps spans (root_of ps n)) e)))
            ∙ picked-same (λ j. p j && (not (is_out ps clear spans j) && is_named ps spans (root_of ps j))) (is_free ps clear spans) 0 (borders t f v view)
            (λ j x at. (let e : j ≡ 0 + j = omega arith in
            ap (λ n. p n && (not (is_out ps clear spans n) && is_named ps spans (root_of ps n))) (sym e)
            ∙ (ap (λ c. p j && (c && is_named ps spans (root_of ps j))) (sym (in-is x j (border-at j x at)))
            ∙ (ap (λ c. p j && (is_in t f v view r x && c)) (named-is x j (border-at j x at))
            ∙ (own-node j x (p j) (border-at j x at) (told j (omega arith))
            ∙ ap (is_free ps clear spans) e))))))

    -- how many bundles have nodes of their own
    pub nodes-many : length (bundle_nodes t f v view r) ≡ count_below (is_free ps clear spans) (2 * length f.blocks)
    nodes-many =
        let many = picked-many (is_free ps clear spans) 0 (borders t f v view) in
        let long : 0 + length (borders t f v view) ≡ 2 * length f.blocks = (let z = pairs-many f.blocks in omega (arith, z)) in
        let z : length (picked (is_free ps clear spans) 0 (borders t f v view)) ≡ count_below (is_free ps clear spans) (0 + length (borders t f v view)) = omega (arith, many) in
        ap length nodes-are ∙ (z ∙ ap (count_below (is_free ps clear spans)) long)

    module _ (x : Border) (i : ℕ) (is : border_place f.blocks x ≡ Some i) (low : i < 2 * length f.blocks) (named : is_named ps spans (root_of ps i) ≡ true) where
      pub free-is : is_in t f v view r x ≡ true → is_free ps clear spans (root_of ps i) ≡ true
      free-is h = ap (λ b. b && not (is_out ps clear spans i)) named ∙ (sym (in-is x i is) ∙ h)

      -- the place of the bundle's first border
      pub own-place : is_in t f v view r x ≡ true → place_by (λ y. view.one_bundle (x, y)) (bundle_nodes t f v view r) ≡ count_below (is_free ps clear spans) (root_of ps i)
      own-place h =
          let long : 0 + length (borders t f v view) ≡ 2 * length f.blocks = (let z = pairs-many f.blocks in omega (arith, z)) in
          let own = falls i in
          let z = picked-place (λ y. view.one_bundle (x, y)) (is_free ps clear spans) (root_of ps i) 0 (borders t f v view)
          (λ j y at free. (let e : j ≡ 0 + j = omega arith in
          joined-by x y i j is (border-at j y at) ∙ (ap (λ n. nat_eq (root_of ps i) (root_of ps n)) e ∙ ap (nat_eq (root_of ps i)) (stands (0 + j) free))))
          (omega arith) (omega (arith, long, own, low)) (free-is h) in
          ap (place_by (λ y. view.one_bundle (x, y))) nodes-are ∙ (let y : place_by (λ (y : Border). view.one_bundle (x, y)) (picked (is_free ps clear spans) 0 (borders t f v view)) ≡ count_below (is_free ps clear spans) (root_of ps i) = omega (arith, z) in y)

      -- the node of the bundle is that of its number
      pub number-is : node_of ps clear spans i ≡ number_of t f v view r (Bundle x)
      number-is =
          ap (λ b. cond b 1 (2 + count_below (is_free ps clear spans) (root_of ps i))) (out-is t f v view ps placed one freqs spans r clear cleared all x i is)
          ∙ go (is_in t f v view r x) refl
        where
          go : (b : Bool) → is_in t f v view r x ≡ b → cond (not b) 1 (2 + count_below (is_free ps clear spans) (root_of ps i)) ≡ cond b (2 + place_by (λ y. view.one_bundle (x, y)) (bundle_nodes t f v view r)) 1
          go true h = ap (λ n. 2 + n) (sym (own-place h))
          go false h = refl
