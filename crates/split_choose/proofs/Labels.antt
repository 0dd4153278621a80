-- Labels of blocks: those that are met place by place are those of the blocks in layout.
use Rattle.std.proofs.Common.{◌≡◌, ◌∙◌, ℕ, zero, suc, ◌+◌, ◌<◌, ◌≤◌, min, List, [], ◌∷◌, ◌++◌, Bool, true, false, cond, refl, sym, ap, length, take, arith, map, append_assoc, append-nil, Option, None, Some, subst}
use Rattle.std.specs.Prelude.{filter, not, nat_le, nat_lt, slice_get, fold}
use Rattle.std.specs.List.{list_all, list_any}
use Rattle.std.proofs.lemmas.Bool.{and_parts, and_left, and_right, and_from, not_from_false, lt-ltb, ltb-true, le-leb, eq-eqb, ne_eqb, not_from_true}
use Rattle.std.proofs.lemmas.List.{take_all}
use Rattle.std.proofs.lemmas.List.Sums.{fold-append}
use Rattle.target_base.specs.declared.types.Target.{Target}
use Rattle.mir_func.specs.declared.func.Instr.{Instr}
use Rattle.mir_func.specs.declared.func.Block.{Block}
use Rattle.mir_func.specs.Value.{Function}
use Rattle.mir_func.specs.Binding.{does, is_terminator}
use Rattle.mir_meaning.specs.Points.{touches}
use Rattle.live_lanes.specs.declared.ask.labels.Mark.{Mark}
use Rattle.live_lanes.specs.declared.table.Table.{Table}
use Rattle.split_choose.specs.declared.places.TouchedPlace.{TouchedPlace}
use Rattle.split_choose.specs.declared.blocks.LabelBuilder.{LabelBuilder}
use Rattle.split_choose.specs.Seen.{ends_in_terminators, FindsPlaces}
use Rattle.split_choose.specs.Marks.{marks_in}
use Rattle.split_choose.proofs.Sited.{places-are}
use Rattle.split_choose.specs.Offers.{View, touched_places, first_id, at_gap, touching, block_marks, before_terminators}
use Rattle.split_choose.specs.Places.{single, end_places, block_places, places_from, placed}
use Rattle.split_choose.specs.Blocks.{is_at, is_second, block_pair, block_labelled, moved, labelled}

module _ (t : Target) (bs : List Block) where
  -- terminators get no label
  ends-pass : (v k : ℕ) (is : List Instr) (s : LabelBuilder) → fold (labelled t bs) s (end_places v k is) ≡ s
  ends-pass v k [] s = refl
  ends-pass v k (i ∷ is) s = go (list_any (touches v) (i ∷ is)) refl
    where
      go : (b : Bool) → list_any (touches v) (i ∷ is) ≡ b → fold (labelled t bs) s (end_places v k (i ∷ is)) ≡ s
      go true e = rw e refl
      go false e = rw e refl

  -- a place that isn't the second of its block
  pass : (s : LabelBuilder) (k : ℕ) (i : Instr) → is_second s k ≡ false → labelled t bs s (single k i) ≡ moved k s
  pass s k i e = rw e refl

  second : (s : LabelBuilder) (k : ℕ) (i : Instr) → is_second s k ≡ true → labelled t bs s (single k i) ≡ moved k (block_labelled t bs s k)
  second s k i e = rw e refl

  is-there : (k : ℕ) → is_at (Some k) k ≡ true
  is-there k = eq-eqb k k refl

  -- behind two places of a block
  later : (k : ℕ) (is : List Instr) (s : LabelBuilder) → s.before ≡ Some k → s.last ≡ Some k
      → ((fold (labelled t bs) s (map (single k) is)).labels ≡ s.labels) × ((fold (labelled t bs) s (map (single k) is)).label ≡ s.label) × ((fold (labelled t bs) s (map (single k) is)).last ≡ Some k)
  later k [] s e f = (refl, refl, f)
  later k (i ∷ is) s e f =
      let not-second : is_second s k ≡ false = and_right (is_at s.last k) (not (is_at s.before k)) (not_from_true (is_at s.before k) (ap (λ o. is_at o k) e ∙ is-there k)) in
      let ih = later k is (moved k s) f refl in
      subst (λ r. ((fold (labelled t bs) r (map (single k) is)).labels ≡ s.labels) × ((fold (labelled t bs) r (map (single k) is)).label ≡ s.label) × ((fold (labelled t bs) r (map (single k) is)).last ≡ Some k)) (sym (pass s k i not-second)) ih

-- the last place before a position
abbrev pub is_below : ℕ → Option ℕ → Bool
is_below k None = true
is_below k (Some n) = nat_lt n k

below-more : (k : ℕ) (o : Option ℕ) → is_below k o ≡ true → is_below (suc k) o ≡ true
below-more k None h = refl
below-more k (Some n) h = let lt : n < k = ltb-true n k h in lt-ltb n (suc k) (omega arith)

not-at : (k : ℕ) (o : Option ℕ) → is_below k o ≡ true → is_at o k ≡ false
not-at k None h = refl
not-at k (Some n) h = let lt : n < k = ltb-true n k h in ne_eqb n k (λ e. absurd (omega arith))

-- so many labels and these marks, before the block at a position
record Before (n : ℕ) (ms : List Mark) (k : ℕ) (s : LabelBuilder) : Type 0 where
  labels : s.labels ≡ ms
  label : s.label ≡ n
  below : is_below k s.last ≡ true

all-get : {X : Type 0} (g : X → Bool) (xs : List X) (k : ℕ) (x : X) → list_all g xs ≡ true → slice_get xs k ≡ Some x → g x ≡ true
all-get g [] k x h e = cc
all-get g (y ∷ xs) zero x h e = let q : y ≡ x = cc in ap g (sym q) ∙ (and_parts (g y) (list_all g xs) h).0
all-get g (y ∷ xs) (suc k) x h e = all-get g xs k x (and_parts (g y) (list_all g xs) h).1 e

-- the marks of a block are added
pub pair-added : (t : Target) (bs : List Block) (k label : ℕ) (old mid new : List Mark) (first end : Option ℕ) → mid ≡ old ++ marks_in (slice_get bs k) (Some first) label → new ≡ mid ++ marks_in (slice_get bs k) (Some end) 0
    → ((b : Block) → slice_get bs k ≡ Some b → first ≡ first_id b.instrs) → ((b : Block) → slice_get bs k ≡ Some b → ends_in_terminators t b.instrs ≡ true → end ≡ first_id (filter (does is_terminator t) b.instrs))
    → list_all (λ b. ends_in_terminators t b.instrs) bs ≡ true → new ≡ old ++ block_pair t (slice_get bs k) label
pair-added t bs k label old mid new first end e f at-first at-end ended = go (slice_get bs k) refl
  where
    joined : (o : Option Block) → slice_get bs k ≡ o → new ≡ old ++ (marks_in o (Some first) label ++ marks_in o (Some end) 0)
    joined o at = f ∙ (ap (λ ms. ms ++ marks_in (slice_get bs k) (Some end) 0) e ∙ (append_assoc old (marks_in (slice_get bs k) (Some first) label) (marks_in (slice_get bs k) (Some end) 0)
        ∙ ap (λ p. old ++ (marks_in p (Some first) label ++ marks_in p (Some end) 0)) at))

    go : (o : Option Block) → slice_get bs k ≡ o → new ≡ old ++ block_pair t o label
    go None at = joined None at
    go (Some b) at =
        joined (Some b) at ∙ (ap (λ i. old ++ (at_gap b.number i label ∷ at_gap b.number end 0 ∷ [])) (at-first b at)
        ∙ ap (λ i. old ++ (at_gap b.number (first_id b.instrs) label ∷ at_gap b.number i 0 ∷ [])) (at-end b at (all-get (λ (c : Block). ends_in_terminators t c.instrs) bs k b ended at)))

module _ (t : Target) (bs : List Block) where
  block-met : (is : List Instr) (n : ℕ) (ms : List Mark) (k : ℕ) (s : LabelBuilder) → n < 65535 → Before n ms k s
      → Before (cond (nat_le 2 (length is)) (n + 1) n) (cond (nat_le 2 (length is)) (ms ++ block_pair t (slice_get bs k) (n + 1)) ms) (suc k) (fold (labelled t bs) s (map (single k) is))
  block-met [] n ms k s few h = record { labels = h.labels; label = h.label; below = below-more k s.last h.below }
  block-met (i ∷ []) n ms k s few h =
      let not-second : is_second s k ≡ false = and_left (is_at s.last k) (not (is_at s.before k)) (not-at k s.last h.below) in
      subst (λ r. Before n ms (suc k) r) (sym (pass t bs s k i not-second)) (record { labels = h.labels; label = h.label; below = lt-ltb k (suc k) (omega arith) })
  block-met (i ∷ j ∷ is) n ms k s few h =
      let not-second : is_second s k ≡ false = and_left (is_at s.last k) (not (is_at s.before k)) (not-at k s.last h.below) in
      let is-second : is_second (moved k s) k ≡ true = and_from (is_at (Some k) k) (not (is_at s.last k)) (is-there t bs k) (not_from_false (is_at s.last k) (not-at k s.last h.below)) in
      let rest = later t bs k is (moved k (block_labelled t bs (moved k s) k)) refl refl in
      let next : min (s.label + 1) 65535 ≡ n + 1 = ap (λ m. min (m + 1) 65535) h.label ∙ omega arith in
      let many : nat_le 2 (length (i ∷ j ∷ is)) ≡ true = le-leb 2 (length (i ∷ j ∷ is)) (omega arith) in
      let steps : fold (labelled t bs) s (map (single k) (i ∷ j ∷ is)) ≡ fold (labelled t bs) (moved k (block_labelled t bs (moved k s) k)) (map (single k) is) =
      ap (λ r. fold (labelled t bs) r (map (single k) (j ∷ is))) (pass t bs s k i not-second) ∙ ap (λ r. fold (labelled t bs) r (map (single k) is)) (second t bs (moved k s) k j is-second) in
      subst (λ c. Before (cond c (n + 1) n) (cond c (ms ++ block_pair t (slice_get bs k) (n + 1)) ms) (suc k) (fold (labelled t bs) s (map (single k) (i ∷ j ∷ is)))) (sym many)
      (subst (λ r. Before (n + 1) (ms ++ block_pair t (slice_get bs k) (n + 1)) (suc k) r) (sym steps) (record {
        labels = rest.0 ∙ (ap (λ l. l ++ block_pair t (slice_get bs k) (min (s.label + 1) 65535)) h.labels ∙ ap (λ m. ms ++ block_pair t (slice_get bs k) m) next);
        label = rest.1 ∙ next;
        below = ap (is_below (suc k)) rest.2 ∙ lt-ltb k (suc k) (omega arith);
      }))

module _ (t : Target) (f : Function) (v : ℕ) (view : View) (bs : List Block) where
  blocks-met : (cs : List Block) (n : ℕ) (ms : List Mark) (k : ℕ) (s : LabelBuilder) → ((j : ℕ) (b : Block) → slice_get cs j ≡ Some b → slice_get bs (k + j) ≡ Some b) → n + length cs < 65536 → Before n ms k s
      → (fold (labelled t bs) s (places_from t v k cs)).labels ≡ ms ++ block_marks t f v view n cs
  blocks-met [] n ms k s at few h = h.labels ∙ sym (append-nil ms)
  blocks-met (b ∷ cs) n ms k s at few h = go (nat_le 2 (length (touching t f v view b))) refl (λ m ns r l q. blocks-met cs m ns (suc k) r next l q)
    where
      here : slice_get bs k ≡ Some b
      here = let e : k ≡ k + 0 = omega arith in ap (slice_get bs) e ∙ at 0 b refl

      next : (j : ℕ) (c : Block) → slice_get cs j ≡ Some c → slice_get bs (suc k + j) ≡ Some c
      next j c e = let m : suc k + j ≡ k + suc j = omega arith in ap (slice_get bs) m ∙ at (suc j) c e

      after : LabelBuilder
      after = fold (labelled t bs) s (map (single k) (touching t f v view b))

      met : Before (cond (nat_le 2 (length (touching t f v view b))) (n + 1) n) (cond (nat_le 2 (length (touching t f v view b))) (ms ++ block_pair t (slice_get bs k) (n + 1)) ms) (suc k) after
      met = block-met t bs (touching t f v view b) n ms k s (omega arith) h

      split : fold (labelled t bs) s (places_from t v k (b ∷ cs)) ≡ fold (labelled t bs) after (places_from t v (suc k) cs)
      split = fold-append (labelled t bs) s (block_places t v k b.instrs) (places_from t v (suc k) cs)
          ∙ ap (λ r. fold (labelled t bs) r (places_from t v (suc k) cs))
          (fold-append (labelled t bs) s (map (single k) (touching t f v view b)) (end_places v k (filter (does is_terminator t) b.instrs)) ∙ ends-pass t bs v k (filter (does is_terminator t) b.instrs) after)

      go : (c : Bool) → nat_le 2 (length (touching t f v view b)) ≡ c
          → ((m : ℕ) (ns : List Mark) (r : LabelBuilder) → m + length cs < 65536 → Before m ns (suc k) r → (fold (labelled t bs) r (places_from t v (suc k) cs)).labels ≡ ns ++ block_marks t f v view m cs)
          → (fold (labelled t bs) s (places_from t v k (b ∷ cs))).labels ≡ ms ++ block_marks t f v view n (b ∷ cs)
      go true e ih =
          let q : Before (n + 1) (ms ++ block_pair t (slice_get bs k) (n + 1)) (suc k) after =
          subst (λ c. Before (cond c (n + 1) n) (cond c (ms ++ block_pair t (slice_get bs k) (n + 1)) ms) (suc k) after) e met in
          ap (λ (r : LabelBuilder). r.labels) split ∙ (ih (n + 1) (ms ++ block_pair t (slice_get bs k) (n + 1)) after (omega arith) q
          ∙ (append_assoc ms (block_pair t (slice_get bs k) (n + 1)) (block_marks t f v view (n + 1) cs)
          ∙ (ap (λ o. ms ++ (block_pair t o (n + 1) ++ block_marks t f v view (n + 1) cs)) here
          ∙ sym (ap (λ c. ms ++ cond c (at_gap b.number (first_id b.instrs) (n + 1) ∷ at_gap b.number (before_terminators t f v view b) 0 ∷ block_marks t f v view (n + 1) cs) (block_marks t f v view n cs)) e))))
      go false e ih =
          let q : Before n ms (suc k) after = subst (λ c. Before (cond c (n + 1) n) (cond c (ms ++ block_pair t (slice_get bs k) (n + 1)) ms) (suc k) after) e met in
          ap (λ (r : LabelBuilder). r.labels) split ∙ (ih n ms after (omega arith) q
          ∙ sym (ap (λ c. ms ++ cond c (at_gap b.number (first_id b.instrs) (n + 1) ∷ at_gap b.number (before_terminators t f v view b) 0 ∷ block_marks t f v view (n + 1) cs) (block_marks t f v view n cs)) e))

pub all-labelled : (t : Target) (f : Function) (x : Table) (v : ℕ) (view : View) (ps : List TouchedPlace) (n : ℕ) (s : LabelBuilder) → FindsPlaces t f x v → ps ≡ map (placed f.blocks) (touched_places t f v view) → length ps ≤ n
    → (list_all (λ b. ends_in_terminators t b.instrs) f.blocks ≡ true → s ≡ fold (labelled t f.blocks) (record { labels = []; label = 0; last = None; before = None }) (take n ps)) → s.labels ≡ block_marks t f v view 0 f.blocks
all-labelled t f x v view ps n s finds same h made =
    let few = finds.few in
    let all : take n ps ≡ places_from t v 0 f.blocks = take_all n ps h ∙ (same ∙ sym (places-are t f x v view finds)) in
    let first : Before 0 [] 0 (record { labels = []; label = 0; last = None; before = None }) = record { labels = refl; label = refl; below = refl } in
    ap (λ (r : LabelBuilder). r.labels) (made finds.ended ∙ ap (fold (labelled t f.blocks) (record { labels = []; label = 0; last = None; before = None })) all)
    ∙ blocks-met t f v view f.blocks f.blocks 0 [] 0 (record { labels = []; label = 0; last = None; before = None }) (λ j b e. (let z : 0 + j ≡ j = omega arith in ap (slice_get f.blocks) z ∙ e)) (omega arith) first
