-- The net of a range, block by block.
use Rattle.std.proofs.Common.{◌≡◌, ◌∙◌, ℕ, zero, suc, ◌+◌, ◌<◌, ◌≤◌, List, [], ◌∷◌, ◌++◌, Bool, true, false, cond, arith, refl, sym, ap, length, take, drop, get_or, map, replicate, append_assoc, drop-cons}
use Rattle.std.specs.Prelude.{not, ◌&&◌}
use Rattle.std.specs.List.{sum_by}
use Rattle.std.proofs.lemmas.List.{take_more, take_all}
use Rattle.std.proofs.lemmas.List.Recursion.{is_count_by}
use Rattle.split_choose.specs.declared.spans.Span.{Span}
use Rattle.split_choose.specs.declared.nets.BlockNodes.{BlockNodes}
use Rattle.split_choose.specs.declared.nets.BundleNodes.{BundleNodes}
use Rattle.split_choose.specs.Bundles.{root_of, AreEarlier}
use Rattle.split_choose.specs.Regions.{capped, is_out, AreOut}
use Rattle.split_choose.specs.Nets.{ranks, set_count, AreFlags, count_below, is_named, is_free, node_of, row_base, base_of, row_of, rows_from}
use Rattle.split_choose.specs.BundleNodes.{AreNodes}
use Rattle.split_choose.proofs.Roots.{root_falls}
use Rattle.split_choose.proofs.Sums.{sum_push, capped_more}

-- sums

pub capped_next : {X : Type 0} (f : X → ℕ) (xs : List X) (k : ℕ) (x : X) (sum here : ℕ) → k < length xs → x ≡ get_or xs k x → here ≡ f x → sum ≡ capped (sum_by f (take k xs)) → capped (sum + here) ≡ capped (sum_by f (take (k + 1) xs))
capped_next f xs k x sum here h at is was =
    capped_more sum (sum_by f (take k xs)) here was
    ∙ ap (λ n. capped (sum_by f (take k xs) + n)) is
    ∙ ap capped (sym (ap (sum_by f) (take_more xs k x h ∙ ap (λ y. take k xs ++ y ∷ []) (sym at)) ∙ sum_push f (take k xs) x))

pub capped_last : {X : Type 0} (f : X → ℕ) (xs : List X) (k sum : ℕ) → length xs ≤ k → sum ≡ capped (sum_by f (take k xs)) → sum ≡ capped (sum_by f xs)
capped_last f xs k sum h was = was ∙ ap (λ ys. capped (sum_by f ys)) (take_all k xs h)

-- flags and numbers

pub no_flags-none : {X : Type 0} (xs : List X) → replicate (length xs) false ≡ map (λ (x : X). false) xs
no_flags-none [] = refl
no_flags-none (x ∷ xs) = ap (λ ys. false ∷ ys) (no_flags-none xs)

abbrev count_one : Bool → ℕ
count_one b = cond b 1 0

-- how many of the first flags are set
abbrev set_first : List Bool → ℕ → ℕ
set_first [] k = 0
set_first (b ∷ bs) zero = 0
set_first (b ∷ bs) (suc k) = cond b 1 0 + set_first bs k

rank-at : (bs : List Bool) (n k d : ℕ) → k < length bs → get_or (ranks n bs) k d ≡ n + set_first bs k
rank-at [] n k d h = absurd (omega arith)
rank-at (b ∷ bs) n zero d h = omega arith
rank-at (true ∷ bs) n (suc k) d h = let ih = rank-at bs (n + 1) k d (omega arith) in omega (arith, ih)
rank-at (false ∷ bs) n (suc k) d h = let ih = rank-at bs n k d (omega arith) in omega (arith, ih)

first-none : (bs : List Bool) → set_first bs zero ≡ 0
first-none [] = refl
first-none (b ∷ bs) = refl

first-more : (bs : List Bool) (k : ℕ) → k < length bs → set_first bs (suc k) ≡ set_first bs k + cond (get_or bs k false) 1 0
first-more [] k h = absurd (omega arith)
first-more (b ∷ bs) zero h = let z = first-none bs in omega (arith, z)
first-more (b ∷ bs) (suc k) h = let ih = first-more bs k (omega arith) in omega (arith, ih)

first-below : (bs : List Bool) (test : ℕ → Bool) (k : ℕ) → ((root : ℕ) → root < length bs → get_or bs root false ≡ test root) → k ≤ length bs → set_first bs k ≡ count_below test k
first-below [] test zero told h = refl
first-below (b ∷ bs) test zero told h = refl
first-below bs test (suc k) told h =
    let here : get_or bs k false ≡ test k = told k (omega arith) in
    let step = first-more bs k (omega arith) in
    let ih = first-below bs test k told (omega arith) in
    let e : count_one (get_or bs k false) ≡ count_one (test k) = ap count_one here in
    omega (arith, step, ih, e)

-- the number at a border that stands for a bundle
pub number-at : (count : ℕ) (test : ℕ → Bool) (free : List Bool) (root : ℕ) → AreFlags count test free → root < count → get_or (ranks 2 free) root 1 ≡ 2 + count_below test root
number-at count test free root flags h =
    let size = flags.size in
    rank-at free 2 root 1 (omega (arith, size))
    ∙ ap (λ n. 2 + n) (first-below free test root (λ r w. flags.told r (omega (arith, size))) (omega (arith, size)))

set-step : (b : Bool) (bs : List Bool) → set_first (b ∷ bs) (length (b ∷ bs)) ≡ cond b (1 + set_first bs (length bs)) (set_first bs (length bs))
set-step true bs = refl
set-step false bs = omega arith

set-all : (bs : List Bool) → set_count bs ≡ set_first bs (length bs)
set-all bs = sym (is_count_by (λ ys. set_first ys (length ys)) (λ b. b) refl set-step bs)

-- so many flags are set as borders pass
pub count-all : (count : ℕ) (test : ℕ → Bool) (free : List Bool) → AreFlags count test free → set_count free ≡ count_below test count
count-all count test free flags =
    let size = flags.size in
    set-all free ∙ first-below free test (length free) (λ r w. flags.told r (omega (arith, size))) (omega arith) ∙ ap (count_below test) size

pub free-flags : (parents : List ℕ) (clear : Span → Bool) (spans : List Span) (count : ℕ) (named outside named-slice outside-slice free : List Bool) → named-slice ≡ named → outside-slice ≡ outside
    → AreFlags count (is_named parents spans) named → AreOut parents clear spans count outside
    → AreFlags (length named-slice) (λ root. get_or named-slice root false && not (get_or outside-slice root false)) free → AreFlags count (is_free parents clear spans) free
free-flags parents clear spans count named outside named-slice outside-slice free e f are out both =
    let size : length named-slice ≡ count = ap length e ∙ are.size in
    record {
      size = both.size ∙ size;
      told = λ root h.
          both.told root (omega (arith, size))
          ∙ ap (λ bs. get_or bs root false && not (get_or outside-slice root false)) e
          ∙ ap (λ bs. get_or named root false && not (get_or bs root false)) f
          ∙ ap (λ b. b && not (get_or outside root false)) (are.told root h)
          ∙ ap (λ b. is_named parents spans root && not b) (out.told root h);
    }

pub next-bound : (b : Bool) (n m after : ℕ) → n ≤ m → after ≡ cond b (n + 1) n → after ≤ m + 1
next-bound true n m after h e = omega arith
next-bound false n m after h e = omega arith

-- the node of a bundle that isn't out, and of one that is

pub node-inner : (parents : List ℕ) (clear : Span → Bool) (spans : List Span) (count border root node : ℕ) (flag : Bool) (made : BundleNodes) → AreEarlier parents → AreNodes parents clear spans count made → border < count
    → root ≡ root_of parents border → flag ≡ get_or made.outside.items root false → flag ≡ false → node ≡ get_or made.numbers.items root 1 → node ≡ node_of parents clear spans border
node-inner parents clear spans count border root node flag made earlier nodes below at told is_false number =
    let falls : root_of parents border ≤ border = root_falls parents earlier (length parents) border in
    let inside : is_out parents clear spans border ≡ false = sym (nodes.out.told (root_of parents border) (omega arith)) ∙ (ap (λ r. get_or made.outside.items r false) (sym at) ∙ (sym told ∙ is_false)) in
    number ∙ ap (λ r. get_or made.numbers.items r 1) at ∙ ap (λ ns. get_or ns (root_of parents border) 1) nodes.numbers
    ∙ number-at count (is_free parents clear spans) nodes.free (root_of parents border) nodes.flags (omega arith)
    ∙ sym (ap (λ b. cond b 1 (2 + count_below (is_free parents clear spans) (root_of parents border))) inside)

pub node-outer : (parents : List ℕ) (clear : Span → Bool) (spans : List Span) (count border root : ℕ) (flag : Bool) (made : BundleNodes) → AreEarlier parents → AreNodes parents clear spans count made → border < count
    → root ≡ root_of parents border → flag ≡ get_or made.outside.items root false → flag ≡ true → 1 ≡ node_of parents clear spans border
node-outer parents clear spans count border root flag made earlier nodes below at told is_true =
    let falls : root_of parents border ≤ border = root_falls parents earlier (length parents) border in
    let outside : is_out parents clear spans border ≡ true = sym (nodes.out.told (root_of parents border) (omega arith)) ∙ (ap (λ r. get_or made.outside.items r false) (sym at) ∙ (sym told ∙ is_true)) in
    sym (ap (λ b. cond b 1 (2 + count_below (is_free parents clear spans) (root_of parents border))) outside)

-- rows, block by block

pub base_next : (rows : List BlockNodes) (k : ℕ) (r : BlockNodes) (sum here : ℕ) → k < length rows → r ≡ get_or rows k r → here ≡ row_base r → sum ≡ capped (base_of (take k rows)) → capped (sum + here) ≡ capped (base_of (take (k + 1) rows))
base_next rows k r sum here h at is was = capped_next row_base rows k r sum here h at is was

pub base_last : (rows : List BlockNodes) (k sum : ℕ) → length rows ≤ k → sum ≡ capped (base_of (take k rows)) → sum ≡ capped (base_of rows)
base_last rows k sum h was = capped_last row_base rows k sum h was

pub ruleset bases = (base_next, base_last)

rows-cons : (node : ℕ → ℕ) (has : Span → Bool) (next : ℕ) (spans : List Span) (k : ℕ) (s : Span) → k < length spans → s ≡ get_or spans k s
    → rows_from node has next (drop k spans) ≡ row_of node (has s) next s ∷ rows_from node has (cond (has s) (next + 1) next) (drop (k + 1) spans)
rows-cons node has next spans k s h at =
    let e : suc k ≡ k + 1 = omega arith in
    let cut : drop k spans ≡ s ∷ drop (k + 1) spans = drop-cons spans k s h ∙ (ap (λ x. x ∷ drop (suc k) spans) (sym at) ∙ ap (λ j. s ∷ drop j spans) e) in
    ap (rows_from node has next) cut

pub rows_next : (node : ℕ → ℕ) (has : Span → Bool) (first next after : ℕ) (spans : List Span) (k : ℕ) (s : Span) (rows : List BlockNodes) (r : BlockNodes) → k < length spans → s ≡ get_or spans k s
    → r ≡ row_of node (has s) next s → after ≡ cond (has s) (next + 1) next → rows ++ rows_from node has next (drop k spans) ≡ rows_from node has first spans
    → (rows ++ r ∷ []) ++ rows_from node has after (drop (k + 1) spans) ≡ rows_from node has first spans
rows_next node has first next after spans k s rows r h at is goes was =
    append_assoc rows (r ∷ []) (rows_from node has after (drop (k + 1) spans))
    ∙ ap (λ x. rows ++ x ∷ rows_from node has after (drop (k + 1) spans)) is
    ∙ ap (λ n. rows ++ row_of node (has s) next s ∷ rows_from node has n (drop (k + 1) spans)) goes
    ∙ ap (λ ys. rows ++ ys) (sym (rows-cons node has next spans k s h at))
    ∙ was

pub count-within : (test : ℕ → Bool) (n : ℕ) → count_below test n ≤ n
count-within test zero = omega arith
count-within test (suc n) = go (test n) (count-within test n)
  where
    go : (b : Bool) → count_below test n ≤ n → count_below test n + cond b 1 0 ≤ suc n
    go true h = omega arith
    go false h = omega arith

pub rows-length : (node : ℕ → ℕ) (has : Span → Bool) (next : ℕ) (spans : List Span) → length (rows_from node has next spans) ≡ length spans
rows-length node has next [] = refl
rows-length node has next (s ∷ ss) = ap suc (rows-length node has (cond (has s) (next + 1) next) ss)
