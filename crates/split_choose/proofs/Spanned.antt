-- The spans of a range, from what was put together.
use Rattle.std.proofs.Common.{◌≡◌, ◌≢◌, ◌∙◌, ◌⊎◌, inl, inr, ℕ, zero, suc, ◌+◌, ◌*◌, ◌<◌, List, [], ◌∷◌, Bool, true, false, arith, refl, sym, ap, subst, length, map, Some}
use Rattle.std.specs.Prelude.{nat_eq, nat_lt, nat_le, not, ◌||◌, ◌&&◌, slice_get, slice_index_or, filter, fold}
use Rattle.std.specs.List.{list_any, list_all, sum_by}
use Rattle.std.specs.Ordering.{nat_cmp}
use Rattle.std.specs.List.Sorted.{IsStrictlySortedBy}
use Rattle.std.proofs.lemmas.Bool.{cases_eq, eq-eqb, ne_eqb, and_parts, and_from, or_right, or_left, ltb-true, lt-ltb}
use Rattle.meaning.specs.Live.{Among, here, there}
use Rattle.mir_func.specs.declared.func.Block.{Block}
use Rattle.mir_func.specs.Binding.{does, is_terminator}
use Rattle.block_freq.specs.Weights.{naming}
use Rattle.live_lanes.specs.declared.ask.extent.Stretch.{Stretch}
use Rattle.live_lanes.specs.declared.live.LiveFunc.{LiveFunc}
use Rattle.live_lanes.specs.declared.table.Table.{Table}
use Rattle.live_lanes.specs.Extents.{lanes_count}
use Rattle.live_lanes.specs.Touching.{leaves_block}
use Rattle.interference.specs.declared.matrix.Matrix.{Matrix}
use Rattle.split_choose.specs.declared.spans.Span.{Span}
use Rattle.split_choose.specs.Seen.{FindsPoints}
use Rattle.split_choose.specs.Regions.{capped}
use Rattle.split_choose.specs.Spanned.{begins_at_point, IsSpan, HasSpan, is_in_block, AreSpansOf}
use Rattle.split_choose.specs.Built.{Told, told, blank, range_stretches, range_positions, with_stretches, whole}
use Rattle.split_choose.proofs.Covers.{among-cases}
use Rattle.split_choose.proofs.Counting.{used-all}
use Rattle.split_choose.proofs.Building.{map-map, told-positions}
use Rattle.split_choose.proofs.Covering.{range-covers, range-begins, range-ordered, range-blocks, range-placed}

-- what is told of each of several

told-of : (f : ℕ → Told) (ks : List ℕ) (spans : List Span) → map told spans ≡ map f ks → (s : Span) → Among s spans → (k : ℕ) × Among k ks × (told s ≡ f k)
told-of f ks [] e s m = elim m [ ]
told-of f [] (x ∷ spans) e s m = cc
told-of f (k ∷ ks) (x ∷ spans) e s m = go (among-cases s x spans m) (told-of f ks spans (cc) s)
  where
    later : ((j : ℕ) × Among j ks × (told s ≡ f j)) → (j : ℕ) × Among j (k ∷ ks) × (told s ≡ f j)
    later w = (w.0, there w.1, w.2)

    go : (s ≡ x) ⊎ Among s spans → (Among s spans → (j : ℕ) × Among j ks × (told s ≡ f j)) → (j : ℕ) × Among j (k ∷ ks) × (told s ≡ f j)
    go (inl h) ih = let first : told x ≡ f k = cc in (k, here, ap told h ∙ first)
    go (inr n) ih = later (ih n)

span-of : (f : ℕ → Told) (ks : List ℕ) (spans : List Span) → map told spans ≡ map f ks → (k : ℕ) → list_any (nat_eq k) ks ≡ true → (s : Span) × Among s spans × (told s ≡ f k)
span-of f [] spans e k h = cc
span-of f (j ∷ ks) [] e k h = cc
span-of f (j ∷ ks) (x ∷ spans) e k h = go (cases_eq k j) (span-of f ks spans (cc) k)
  where
    later : ((s : Span) × Among s spans × (told s ≡ f k)) → (s : Span) × Among s (x ∷ spans) × (told s ≡ f k)
    later w = (w.0, there w.1, w.2)

    go : (k ≡ j) ⊎ (k ≢ j) → (list_any (nat_eq k) ks ≡ true → (s : Span) × Among s spans × (told s ≡ f k)) → (s : Span) × Among s (x ∷ spans) × (told s ≡ f k)
    go (inl same) ih = let first : told x ≡ f j = cc in (x, here, first ∙ ap f (sym same))
    go (inr d) ih = later (ih (sym (ap (λ b. b || list_any (nat_eq k) ks) (ne_eqb k j d)) ∙ h))

among-found : (ks : List ℕ) (k : ℕ) → Among k ks → list_any (nat_eq k) ks ≡ true
among-found [] k m = elim m [ ]
among-found (j ∷ ks) k m = go (among-cases k j ks m) (among-found ks k)
  where
    go : (k ≡ j) ⊎ Among k ks → (Among k ks → list_any (nat_eq k) ks ≡ true) → list_any (nat_eq k) (j ∷ ks) ≡ true
    go (inl e) ih = or_left (nat_eq k j) (list_any (nat_eq k) ks) (eq-eqb k j e)
    go (inr n) ih = or_right (nat_eq k j) (list_any (nat_eq k) ks) (ih n)

passing : (p : ℕ → Bool) (ks : List ℕ) (k : ℕ) → list_all p ks ≡ true → list_any (nat_eq k) ks ≡ true → p k ≡ true
passing p [] k a h = cc
passing p (j ∷ ks) k a h = go (cases_eq k j) (passing p ks k (and_parts (p j) (list_all p ks) a).1)
  where
    go : (k ≡ j) ⊎ (k ≢ j) → (list_any (nat_eq k) ks ≡ true → p k ≡ true) → p k ≡ true
    go (inl e) ih = ap p e ∙ (and_parts (p j) (list_all p ks) a).0
    go (inr d) ih = ih (sym (ap (λ b. b || list_any (nat_eq k) ks) (ne_eqb k j d)) ∙ h)

all-spans : (p : Span → Bool) (spans : List Span) → ((s : Span) → Among s spans → p s ≡ true) → list_all p spans ≡ true
all-spans p [] h = refl
all-spans p (s ∷ spans) h = and_from (p s) (list_all p spans) (h s here) (all-spans p spans (λ r m. h r (there m)))

-- lists of which the same tests are passed by some are such of which the same are passed by all

all-is : {X : Type 0} (p : X → Bool) (xs : List X) → list_all p xs ≡ not (list_any (λ y. not (p y)) xs)
all-is p [] = refl
all-is p (y ∷ xs) = go (p y) (all-is p xs)
  where
    go : (b : Bool) → list_all p xs ≡ not (list_any (λ z. not (p z)) xs) → (b && list_all p xs) ≡ not (not b || list_any (λ z. not (p z)) xs)
    go true ih = ih
    go false ih = refl

all-alike : {X : Type 0} (p : X → Bool) (xs ys : List X) → ((q : X → Bool) → list_any q xs ≡ list_any q ys) → list_all p xs ≡ list_all p ys
all-alike p xs ys same = all-is p xs ∙ (ap not (same (λ y. not (p y))) ∙ sym (all-is p ys))

-- instruction by instruction, or span by span
pub span-by-span : {S X : Type 0} (u : X → Told → Told) (g : S → Told) (ks : List S) (xs : List X) → fold (λ ts x. map (u x) ts) (map g ks) xs ≡ map (λ k. fold (λ t x. u x t) (g k) xs) ks
span-by-span u g ks [] = refl
span-by-span {S} u g ks (x ∷ xs) = ap (λ ts. fold (λ rs y. map (u y) rs) ts xs) (map-map g (u x) ks) ∙ span-by-span u (λ (k : S). u x (g k)) ks xs

module _ (m : Matrix) (v : ℕ) (freqs : List ℕ) where
  abbrev x : Table
  x = m.live.table

  abbrev count : ℕ
  count = lanes_count (slice_get x.lanes.ranges.items v)

  -- a block without its uses
  abbrev base : ℕ → Told
  base k = with_stretches (range_stretches x v count) (blank m.live v (slice_index_or freqs k 0) k)

  abbrev final : Block → ℕ → Told
  final b k = record (base k) {
    uses = capped (0 + slice_index_or freqs k 0 * sum_by (naming v) b.instrs);
    end_uses = capped (0 + slice_index_or freqs k 0 * sum_by (naming v) (filter (does is_terminator m.live.target) b.instrs));
  }

  whole-is : (k : ℕ) (b : Block) → slice_get m.live.func.blocks k ≡ Some b → whole m.live v freqs k ≡ final b k
  whole-is k b at = used-all m.live.target v (base k) 0 k m.live.func.blocks b (let z : k ≡ 0 + k = omega arith in z) at 0 0

  block-at : (bs : List Block) (k : ℕ) → k < length bs → (b : Block) × (slice_get bs k ≡ Some b)
  block-at [] k h = absurd (omega arith)
  block-at (b ∷ bs) zero h = (b, refl)
  block-at (b ∷ bs) (suc k) h = block-at bs k (omega arith)

  module _ (points : FindsPoints m) (positions : List ℕ) (spans : List Span)
      (rise : IsStrictlySortedBy nat_cmp positions)
      (all : (k : ℕ) → list_any (nat_eq k) positions ≡ list_any (nat_eq k) (range_positions x v count))
      (made : map told spans ≡ map (whole m.live v freqs) positions) where
    in-blocks : (k : ℕ) → list_any (nat_eq k) positions ≡ true → k < length m.live.func.blocks
    in-blocks k h = ltb-true k (length m.live.func.blocks) (passing (λ j. nat_lt j (length m.live.func.blocks)) (range_positions x v count) k (range-placed x v count (length m.live.func.blocks) points.placed) (sym (all k) ∙ h))

    record Known (s : Span) : Type 0 where
      block : Block
      at : slice_get m.live.func.blocks s.position ≡ Some block
      listed : list_any (nat_eq s.position) positions ≡ true
      is : told s ≡ final block s.position

    known : (s : Span) → Among s spans → Known s
    known s among = go (told-of (whole m.live v freqs) positions spans made s among)
      where
        go : ((k : ℕ) × Among k positions × (told s ≡ whole m.live v freqs k)) → Known s
        go w =
            let k = w.0 in
            let listed : list_any (nat_eq k) positions ≡ true = among-found positions k w.1 in
            let b = block-at m.live.func.blocks k (in-blocks k listed) in
            let is : told s ≡ final b.0 k = w.2 ∙ whole-is k b.0 b.1 in
            let same : s.position ≡ k = ap (λ (t : Told). t.position) is in
            record {
              block = b.0;
              at = ap (slice_get m.live.func.blocks) same ∙ b.1;
              listed = ap (λ j. list_any (nat_eq j) positions) same ∙ listed;
              is = is ∙ ap (final b.0) (sym same);
            }

    known-span : (s : Span) → Known s → IsSpan m v freqs s
    known-span s k =
        let freq : s.frequency ≡ slice_index_or freqs s.position 0 = ap (λ (t : Told). t.frequency) k.is in
        let points_of : (p : Stretch → Bool) → list_any p s.stretches.items ≡ list_any p (range_stretches x v count s.position) = λ p. ap (λ (t : Told). t.stretches p) k.is in
        record {
          block = k.block;
          found = k.at;
          live_in = ap (λ (t : Told). t.live_in) k.is;
          live_out = ap (λ (t : Told). t.live_out) k.is ∙ ap (leaves_block x v s.position) k.at;
          frequency = freq;
          uses = ap (λ (t : Told). t.uses) k.is ∙ from-none (slice_index_or freqs s.position 0) s.frequency (sum_by (naming v) k.block.instrs) freq;
          end_uses = ap (λ (t : Told). t.end_uses) k.is ∙ from-none (slice_index_or freqs s.position 0) s.frequency (sum_by (naming v) (filter (does is_terminator m.live.target) k.block.instrs)) freq;
          covered = λ at. points_of (λ (r : Stretch). nat_le r.first at && nat_le at r.last) ∙ range-covers x v s.position points.apart points.order.table points.turns at;
          begun = all-alike (begins_at_point x.order.slots k.block.instrs) s.stretches.items (range_stretches x v count s.position) points_of ∙ range-begins x v s.position count points.apart k.block.instrs (λ l. points.begun l s.position k.block k.at);
        }
      where
        from-none : (f g n : ℕ) → g ≡ f → capped (0 + f * n) ≡ capped (g * n)
        from-none f g n e = let z : 0 + f * n ≡ f * n = omega arith in ap capped (z ∙ ap (λ h. h * n) (sym e))

    known-order : (s : Span) → Known s → list_all (λ at. nat_le at.first at.last) s.stretches.items ≡ true
    known-order s k = all-alike (λ (at : Stretch). nat_le at.first at.last) s.stretches.items (range_stretches x v count s.position) (λ p. ap (λ (t : Told). t.stretches p) k.is) ∙ range-ordered x v s.position count points.apart

    positions-same : map (λ (s : Span). s.position) spans ≡ positions
    positions-same =
        sym (told-positions spans)
        ∙ (ap (map (λ (t : Told). t.position)) made
        ∙ (map-map (whole m.live v freqs) (λ (t : Told). t.position) positions
        ∙ (all-same positions (λ k h. h))))
      where
        there-is : (k : ℕ) → list_any (nat_eq k) positions ≡ true → (whole m.live v freqs k).position ≡ k
        there-is k h = let b = block-at m.live.func.blocks k (in-blocks k h) in ap (λ (t : Told). t.position) (whole-is k b.0 b.1)

        all-same : (ks : List ℕ) → ((k : ℕ) → list_any (nat_eq k) ks ≡ true → list_any (nat_eq k) positions ≡ true) → map (λ k. (whole m.live v freqs k).position) ks ≡ ks
        all-same [] h = refl
        all-same (k ∷ ks) h =
            ap (λ n. n ∷ map (λ j. (whole m.live v freqs j).position) ks) (there-is k (h k (or_left (nat_eq k k) (list_any (nat_eq k) ks) (eq-eqb k k refl))))
            ∙ ap (λ ns. k ∷ ns) (all-same ks (λ j e. h j (or_right (nat_eq j k) (list_any (nat_eq j) ks) e)))

    has-each : (k : ℕ) → HasSpan spans k ⊎ (is_in_block x v k ≡ false)
    has-each k = go (list_any (nat_eq k) positions) refl
      where
        go : (b : Bool) → list_any (nat_eq k) positions ≡ b → HasSpan spans k ⊎ (is_in_block x v k ≡ false)
        go true h =
            let w = span-of (whole m.live v freqs) positions spans made k h in
            let b = block-at m.live.func.blocks k (in-blocks k h) in
            inl (record { span = w.0; among = w.1; there = ap (λ (t : Told). t.position) (w.2 ∙ whole-is k b.0 b.1) })
        go false h = inr (sym (range-blocks x v k) ∙ (sym (all k) ∙ h))

    pub spans-are : AreSpansOf m v freqs spans
    spans-are = record {
      order = subst (IsStrictlySortedBy nat_cmp) (sym positions-same) rise;
      each = λ s among. known-span s (known s among);
      all = has-each;
      stretches = all-spans (λ (s : Span). list_all (λ (at : Stretch). nat_le at.first at.last) s.stretches.items) spans (λ s among. known-order s (known s among));
      positions = all-spans (λ (s : Span). nat_lt s.position (length m.live.func.blocks)) spans (λ s among. lt-ltb s.position (length m.live.func.blocks) (in-blocks s.position (known s among).listed));
    }

-- over the function of a matrix
pub spans-of : (m : Matrix) (live : LiveFunc) (v : ℕ) (freqs positions : List ℕ) (spans : List Span) → m.live ≡ live → FindsPoints m → IsStrictlySortedBy nat_cmp positions
    → ((k : ℕ) → list_any (nat_eq k) positions ≡ list_any (nat_eq k) (range_positions live.table v (lanes_count (slice_get live.table.lanes.ranges.items v)))) → map told spans ≡ map (whole live v freqs) positions → AreSpansOf m v freqs spans
spans-of m live v freqs positions spans same points rise all made =
    let A : LiveFunc → Type 0 = λ l. (k : ℕ) → list_any (nat_eq k) positions ≡ list_any (nat_eq k) (range_positions l.table v (lanes_count (slice_get l.table.lanes.ranges.items v))) in
    let M : LiveFunc → Type 0 = λ l. map told spans ≡ map (whole l v freqs) positions in
    spans-are m v freqs points positions spans rise (subst A (sym same) all) (subst M (sym same) made)
