-- The net of a range in few blocks, in none of which much is used, is small enough for its least cut.
use Rattle.std.proofs.Common.{◌≡◌, ◌∙◌, ◌⊎◌, inl, inr, ℕ, zero, suc, ◌+◌, ◌-◌, ◌*◌, ◌<◌, ◌≤◌, List, [], ◌∷◌, ◌++◌, Bool, true, false, cond, arith, refl, ap, subst, length, Option, Some, None}
use Rattle.std.specs.Prelude.{◌&&◌, not, nat_eq, nat_le}
use Rattle.std.specs.List.{list_any, list_all}
use Rattle.std.proofs.lemmas.Bool.{cases_lt, eq-eqb, lt-ltb, ltb-true, le-leb, leb-true, or_left, or_right, and_parts}
use Rattle.std.proofs.lemmas.List.{length-append}
use Rattle.std.proofs.lemmas.List.Folds.{list_all-append}
use Rattle.std.proofs.lemmas.List.Recursion.{is_count_by}
use Rattle.cut_place.specs.declared.net.Arc.{Arc}
use Rattle.split_choose.specs.declared.spans.Span.{Span}
use Rattle.split_choose.specs.declared.nets.BlockNodes.{BlockNodes}
use Rattle.split_choose.specs.Bundles.{start_of, end_of, root_of, AreEarlier}
use Rattle.split_choose.specs.Regions.{is_bordered, is_out, ArePositions}
use Rattle.split_choose.specs.Nets.{count_below, is_named, is_free, node_of, node_if, has_inside, row_of, rows_from, inside_count, arc_to, arcs_between, inside_uses, row_arcs, arcs_of, is_small_arc, is_small}
use Rattle.split_choose.specs.Placings.{net_rows, node_count, AreFew, AreCheap}
use Rattle.split_choose.proofs.Roots.{root_falls}
use Rattle.split_choose.proofs.Netting.{count-within, rows-length}

-- what passes a test below a number is counted there

pub more-below : (test : ℕ → Bool) (k n : ℕ) → k < n → test k ≡ true → count_below test k < count_below test n
more-below test k zero h is = absurd (omega arith)
more-below test k (suc n) h is = go (cases_lt k n) (λ lt. more-below test k n lt is)
  where
    tested : k ≡ n → test n ≡ true
    tested e = let P : ℕ → Type 0 = λ j. test j ≡ true in subst P e is

    same : k ≡ n → count_below test k ≡ count_below test n
    same e = ap (count_below test) e

    step : (b : Bool) → test n ≡ b → count_below test (suc n) ≡ count_below test n + cond b 1 0
    step b e = ap (λ c. count_below test n + cond c 1 0) e

    go : (k < n) ⊎ (n ≤ k) → (k < n → count_below test k < count_below test n) → count_below test k < count_below test (suc n)
    go (inl lt) before = let ih = before lt in let s = step (test n) refl in omega (arith, ih, s)
    go (inr le) before = let e : k ≡ n = omega arith in let s = step true (tested e) in let c = same e in omega (arith, s, c)

-- how many insides there are, block by block

abbrev insides : List BlockNodes → ℕ
insides [] = 0
insides (r ∷ rs) = cond (elim r.inside [ None ↦ false | Some n ↦ true ]) (1 + insides rs) (insides rs)

insides-is : (rows : List BlockNodes) → insides rows ≡ inside_count rows
insides-is rows = is_count_by insides (λ (r : BlockNodes). elim r.inside [ None ↦ false | Some n ↦ true ]) refl (λ r rs. refl) rows

insides-within : (rows : List BlockNodes) → insides rows ≤ length rows
insides-within [] = omega arith
insides-within (r ∷ rs) = go (elim r.inside [ None ↦ false | Some n ↦ true ]) (insides-within rs)
  where
    go : (b : Bool) → insides rs ≤ length rs → cond b (1 + insides rs) (insides rs) ≤ suc (length rs)
    go true h = omega arith
    go false h = omega arith

-- the nodes of a block are below a number, and its costs are small
abbrev Below : ℕ → Option ℕ → Type 0
Below nodes None = Unit {0}
Below nodes (Some n) = n < nodes

record IsRowBelow (nodes : ℕ) (r : BlockNodes) : Type 0 where
  entry : Below nodes r.entry
  exit : Below nodes r.exit
  inside : Below nodes r.inside
  frequency : r.frequency ≤ 5192296858534827628530496329220096
  uses : r.uses ≤ 5192296858534827628530496329220096
  end_uses : r.end_uses ≤ 5192296858534827628530496329220096

abbrev AreRowsBelow : ℕ → List BlockNodes → Type 0
AreRowsBelow nodes [] = Unit {0}
AreRowsBelow nodes (r ∷ rs) = IsRowBelow nodes r × AreRowsBelow nodes rs

below-if : (nodes n : ℕ) (b : Bool) → (b ≡ true → n < nodes) → Below nodes (node_if b n)
below-if nodes n true h = h refl
below-if nodes n false h = tt

module _ (parents : List ℕ) (clear : Span → Bool) (spans : List Span) (blocks : ℕ) (earlier : AreEarlier parents) where
  -- the node of a bundle at whose border the range is live
  node-below : (border : ℕ) → border < 2 * blocks → is_named parents spans (root_of parents border) ≡ true → node_of parents clear spans border < 2 + count_below (is_free parents clear spans) (2 * blocks)
  node-below border low named = go (is_out parents clear spans border) refl
    where
      falls : root_of parents border ≤ border
      falls = root_falls parents earlier (length parents) border

      free : is_out parents clear spans border ≡ false → is_free parents clear spans (root_of parents border) ≡ true
      free e = ap (λ b. b && not (is_out parents clear spans border)) named ∙ ap not e

      go : (b : Bool) → is_out parents clear spans border ≡ b → cond b 1 (2 + count_below (is_free parents clear spans) (root_of parents border)) < 2 + count_below (is_free parents clear spans) (2 * blocks)
      go true e = omega arith
      go false e = let f = falls in let h = more-below (is_free parents clear spans) (root_of parents border) (2 * blocks) (omega (arith, f, low)) (free e) in omega (arith, h)

  named-start : (s : Span) (ss : List Span) → s.is_live_in ≡ true → list_any (is_bordered parents (root_of parents (start_of s.position))) (s ∷ ss) ≡ true
  named-start s ss h =
      let root = root_of parents (start_of s.position) in
      or_left _ _ (or_left _ _ (ap (λ b. b && nat_eq root root) h ∙ eq-eqb root root refl))

  named-end : (s : Span) (ss : List Span) → s.is_live_out ≡ true → list_any (is_bordered parents (root_of parents (end_of s.position))) (s ∷ ss) ≡ true
  named-end s ss h =
      let root = root_of parents (end_of s.position) in
      or_left _ _ (or_right _ _ (ap (λ b. b && nat_eq root root) h ∙ eq-eqb root root refl))

  rows-below : (nodes next : ℕ) (ss : List Span) → ((test : Span → Bool) → list_any test ss ≡ true → list_any test spans ≡ true) → ArePositions blocks ss → AreCheap ss
      → 2 + count_below (is_free parents clear spans) (2 * blocks) ≤ nodes → next + insides (rows_from (node_of parents clear spans) (has_inside clear) next ss) ≤ nodes
      → AreRowsBelow nodes (rows_from (node_of parents clear spans) (has_inside clear) next ss)
  rows-below nodes next [] lift positions cheap low fits = tt
  rows-below nodes next (s ∷ ss) lift positions cheap low fits =
      (here, rows-below nodes (cond (has_inside clear s) (next + 1) next) ss (λ test h. lift test (or_right _ _ h)) (and_parts _ _ positions).1 (and_parts _ _ cheap).1 low (fewer (has_inside clear s) refl))
    where
      node : ℕ → ℕ
      node = node_of parents clear spans

      at : s.position < blocks
      at = ltb-true s.position blocks (and_parts _ _ positions).0

      costs : (nat_le s.frequency 5192296858534827628530496329220096 ≡ true) × ((nat_le s.uses 5192296858534827628530496329220096 && nat_le s.end_uses 5192296858534827628530496329220096) ≡ true)
      costs = and_parts _ _ (and_parts _ _ cheap).0

      used : (nat_le s.uses 5192296858534827628530496329220096 ≡ true) × (nat_le s.end_uses 5192296858534827628530496329220096 ≡ true)
      used = and_parts _ _ costs.1

      starts : s.is_live_in ≡ true → node_of parents clear spans (start_of s.position) < nodes
      starts h = let p = at in let z = node-below (start_of s.position) (omega (arith, p)) (lift _ (named-start s ss h)) in omega (arith, z, low)

      ends : s.is_live_out ≡ true → node_of parents clear spans (end_of s.position) < nodes
      ends h = let p = at in let z = node-below (end_of s.position) (omega (arith, p)) (lift _ (named-end s ss h)) in omega (arith, z, low)

      counted : (b : Bool) → has_inside clear s ≡ b → next + cond (elim (node_if b next) [ None ↦ false | Some n ↦ true ]) (1 + insides (rows_from (node_of parents clear spans) (has_inside clear) (cond b (next + 1) next) ss)) (insides (rows_from (node_of parents clear spans) (has_inside clear) (cond b (next + 1) next) ss)) ≤ nodes
      counted b e =
          let P : Bool → Type 0 = λ c. next + cond (elim (node_if c next) [ None ↦ false | Some n ↦ true ]) (1 + insides (rows_from (node_of parents clear spans) (has_inside clear) (cond c (next + 1) next) ss)) (insides (rows_from (node_of parents clear spans) (has_inside clear) (cond c (next + 1) next) ss)) ≤ nodes in
          subst P e fits

      own : has_inside clear s ≡ true → next < nodes
      own h = let z = counted true h in omega (arith, z)

      here : IsRowBelow nodes (row_of (node_of parents clear spans) (has_inside clear s) next s)
      here = record {
        entry = below-if nodes (node_of parents clear spans (start_of s.position)) s.is_live_in starts;
        exit = below-if nodes (node_of parents clear spans (end_of s.position)) s.is_live_out ends;
        inside = below-if nodes next (has_inside clear s) own;
        frequency = leb-true s.frequency 5192296858534827628530496329220096 costs.0;
        uses = leb-true s.uses 5192296858534827628530496329220096 used.0;
        end_uses = leb-true s.end_uses 5192296858534827628530496329220096 used.1;
      }

      fewer : (b : Bool) → has_inside clear s ≡ b → cond b (next + 1) next + insides (rows_from (node_of parents clear spans) (has_inside clear) (cond b (next + 1) next) ss) ≤ nodes
      fewer true e = let z = counted true e in omega (arith, z)
      fewer false e = counted false e

-- the arcs of such blocks are small, and few

arc-small : (nodes a b w : ℕ) → a < nodes → b < nodes → w ≤ 5192296858534827628530496329220096 → is_small_arc nodes (record { from = a; to = b; cap = w }) ≡ true
arc-small nodes a b w p q h = both (lt-ltb a nodes p) (both (lt-ltb b nodes q) (le-leb w _ h))
  where
    both : {x y : Bool} → x ≡ true → y ≡ true → (x && y) ≡ true
    both {x} {y} e f = ap (λ z. z && y) e ∙ f

one-small : (nodes : ℕ) (a : Arc) → is_small_arc nodes a ≡ true → list_all (is_small_arc nodes) (a ∷ []) ≡ true
one-small nodes a h = ap (λ b. b && true) h

joined-small : (nodes : ℕ) (xs ys : List Arc) → list_all (is_small_arc nodes) xs ≡ true → list_all (is_small_arc nodes) ys ≡ true → list_all (is_small_arc nodes) (xs ++ ys) ≡ true
joined-small nodes xs ys a b = list_all-append (is_small_arc nodes) xs ys ∙ (ap (λ c. c && list_all (is_small_arc nodes) ys) a ∙ b)

to-small : (nodes w : ℕ) (to : Option ℕ) → 2 ≤ nodes → Below nodes to → w ≤ 5192296858534827628530496329220096 → list_all (is_small_arc nodes) (arc_to 0 to w) ≡ true
to-small nodes w None two below h = refl
to-small nodes w (Some n) two below h = one-small nodes _ (arc-small nodes 0 n w (omega arith) below h)

between-small : (nodes n w : ℕ) (border : Option ℕ) → n < nodes → Below nodes border → w ≤ 5192296858534827628530496329220096 → list_all (is_small_arc nodes) (arcs_between border n w) ≡ true
between-small nodes n w None low below h = refl
between-small nodes n w (Some b) low below h =
    joined-small nodes (record { from = b; to = n; cap = w } ∷ []) (record { from = n; to = b; cap = w } ∷ []) (one-small nodes _ (arc-small nodes b n w below low h)) (one-small nodes _ (arc-small nodes n b w low below h))

own-small : (r : BlockNodes) → r.uses ≤ 5192296858534827628530496329220096 → inside_uses r ≤ 5192296858534827628530496329220096
own-small r h = go r.exit
  where
    go : (x : Option ℕ) → elim x [ None ↦ r.uses | Some n ↦ r.uses - r.end_uses ] ≤ 5192296858534827628530496329220096
    go None = h
    go (Some n) = omega (arith, h)

row-small : (nodes : ℕ) (r : BlockNodes) → 2 ≤ nodes → IsRowBelow nodes r → list_all (is_small_arc nodes) (row_arcs r) ≡ true
row-small nodes r two is = go r.inside is.inside
  where
    go : (x : Option ℕ) → Below nodes x → list_all (is_small_arc nodes) (elim x [
      | None ↦ []
      | Some n ↦ arcs_between r.entry n r.frequency ++ arcs_between r.exit n r.frequency ++ arc_to 0 (Some n) (inside_uses r) ++ arc_to 0 r.exit r.end_uses
    ]) ≡ true
    go None low = refl
    go (Some n) low =
        joined-small nodes (arcs_between r.entry n r.frequency ++ arcs_between r.exit n r.frequency ++ arc_to 0 (Some n) (inside_uses r)) (arc_to 0 r.exit r.end_uses)
        (joined-small nodes (arcs_between r.entry n r.frequency ++ arcs_between r.exit n r.frequency) (arc_to 0 (Some n) (inside_uses r))
        (joined-small nodes (arcs_between r.entry n r.frequency) (arcs_between r.exit n r.frequency) (between-small nodes n r.frequency r.entry low is.entry is.frequency) (between-small nodes n r.frequency r.exit low is.exit is.frequency))
        (to-small nodes (inside_uses r) (Some n) two low (own-small r is.uses)))
        (to-small nodes r.end_uses r.exit two is.exit is.end_uses)

rows-small : (nodes : ℕ) (rows : List BlockNodes) → 2 ≤ nodes → AreRowsBelow nodes rows → list_all (is_small_arc nodes) (arcs_of rows) ≡ true
rows-small nodes [] two all = refl
rows-small nodes (r ∷ rs) two all = joined-small nodes (row_arcs r) (arcs_of rs) (row-small nodes r two all.0) (rows-small nodes rs two all.1)

to-short : (to : Option ℕ) (w : ℕ) → length (arc_to 0 to w) ≤ 1
to-short None w = omega arith
to-short (Some n) w = omega arith

between-short : (border : Option ℕ) (n w : ℕ) → length (arcs_between border n w) ≤ 2
between-short None n w = omega arith
between-short (Some b) n w = omega arith

abbrev arcs-in : BlockNodes → Option ℕ → List Arc
arcs-in r None = []
arcs-in r (Some n) = arcs_between r.entry n r.frequency ++ arcs_between r.exit n r.frequency ++ arc_to 0 (Some n) (inside_uses r) ++ arc_to 0 r.exit r.end_uses

row-short : (r : BlockNodes) → length (row_arcs r) ≤ 6
row-short r = by_inside r.inside refl
  where
    go : (x : Option ℕ) → length (arcs-in r x) ≤ 6
    go None = omega arith
    go (Some n) =
        let a = length-append (arcs_between r.entry n r.frequency ++ arcs_between r.exit n r.frequency ++ arc_to 0 (Some n) (inside_uses r)) (arc_to 0 r.exit r.end_uses) in
        let b = length-append (arcs_between r.entry n r.frequency ++ arcs_between r.exit n r.frequency) (arc_to 0 (Some n) (inside_uses r)) in
        let d = length-append (arcs_between r.entry n r.frequency) (arcs_between r.exit n r.frequency) in
        let p = between-short r.entry n r.frequency in
        let q = between-short r.exit n r.frequency in
        let s = to-short (Some n) (inside_uses r) in
        let u = to-short r.exit r.end_uses in
        omega (arith, a, b, d, p, q, s, u)

    by_inside : (x : Option ℕ) → r.inside ≡ x → length (row_arcs r) ≤ 6
    by_inside None e = rw e (go None)
    by_inside (Some n) e = rw e (go (Some n))

rows-short : (rows : List BlockNodes) → length (arcs_of rows) ≤ 6 * length rows
rows-short [] = omega arith
rows-short (r ∷ rs) =
    let a = length-append (row_arcs r) (arcs_of rs) in
    let b = row-short r in
    let ih = rows-short rs in
    omega (arith, a, b, ih)

-- the net is small enough
pub net-small : (parents : List ℕ) (clear : Span → Bool) (spans : List Span) (blocks : ℕ) → AreEarlier parents → AreFew blocks spans → AreCheap spans
    → is_small (record { nodes = node_count parents clear spans (2 * blocks); arcs = arcs_of (net_rows parents clear spans (2 * blocks)) }) ≡ true
net-small parents clear spans blocks earlier few cheap =
    both (le-leb 2 nodes two) (both (le-leb nodes 4096 most) (both (le-leb (length (arcs_of rows)) 16384 short) small))
  where
    rows : List BlockNodes
    rows = net_rows parents clear spans (2 * blocks)

    nodes : ℕ
    nodes = node_count parents clear spans (2 * blocks)

    both : {x y : Bool} → x ≡ true → y ≡ true → (x && y) ≡ true
    both {x} {y} e f = ap (λ z. z && y) e ∙ f

    two : 2 ≤ node_count parents clear spans (2 * blocks)
    two = omega arith

    long : length (net_rows parents clear spans (2 * blocks)) ≡ length spans
    long = rows-length (node_of parents clear spans) (has_inside clear) _ spans

    most : node_count parents clear spans (2 * blocks) ≤ 4096
    most =
        let a = count-within (is_free parents clear spans) (2 * blocks) in
        let b = insides-within (net_rows parents clear spans (2 * blocks)) in
        let c = insides-is (net_rows parents clear spans (2 * blocks)) in
        let d = long in
        let e = few.few in
        let f = few.fewer in
        omega (arith, a, b, c, d, e, f)

    short : length (arcs_of (net_rows parents clear spans (2 * blocks))) ≤ 16384
    short =
        let a = rows-short (net_rows parents clear spans (2 * blocks)) in
        let d = long in
        let f = few.fewer in
        omega (arith, a, d, f)

    fits : 2 + count_below (is_free parents clear spans) (2 * blocks) + insides (net_rows parents clear spans (2 * blocks)) ≤ node_count parents clear spans (2 * blocks)
    fits = let c = insides-is (net_rows parents clear spans (2 * blocks)) in omega (arith, c)

    small : list_all (is_small_arc (node_count parents clear spans (2 * blocks))) (arcs_of (net_rows parents clear spans (2 * blocks))) ≡ true
    small =
        rows-small (node_count parents clear spans (2 * blocks)) (net_rows parents clear spans (2 * blocks)) two
        (rows-below parents clear spans blocks earlier (node_count parents clear spans (2 * blocks)) _ spans (λ test h. h) few.positions cheap (omega arith) fits)
