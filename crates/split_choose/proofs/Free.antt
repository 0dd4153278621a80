-- Whether a register is free in a block and from one touched place to the next, by the spans of a range.
use Rattle.std.proofs.Common.{◌≡◌, ◌≢◌, ◌∙◌, ◌⊎◌, inl, inr, ℕ, zero, suc, ◌+◌, ◌<◌, ◌≤◌, Bool, true, false, cond, List, [], ◌∷◌, ◌++◌, refl, sym, ap, subst, arith, add-one, length, map, take, get_or, Option, None, Some}
use Rattle.std.specs.Prelude.{nat_le, nat_eq, slice_get, option_map, ◌&&◌}
use Rattle.std.specs.List.{list_all, list_any}
use Rattle.std.proofs.lemmas.Bool.{eq-eqb, eqb-true, and_from, false≢true, true≢false}
use Rattle.std.proofs.lemmas.List.{take_more, take_all}
use Rattle.std.proofs.lemmas.List.Folds.{list_all-append}
use Rattle.target_base.specs.declared.types.Reg.{Reg}
use Rattle.meaning.specs.Live.{Among, here, there}
use Rattle.mir_func.specs.declared.func.Block.{Block}
use Rattle.mir_func.specs.Value.{Function}
use Rattle.mir_func.specs.Edits.{block_place}
use Rattle.mir_meaning.specs.Points.{Point, block_points, touches}
use Rattle.live_lanes.specs.Table.{Numbers, entry_rank, exit_rank}
use Rattle.live_lanes.specs.Touching.{AreTouched}
use Rattle.live_lanes.specs.Tells.{touching_ids}
use Rattle.interference.specs.declared.matrix.Matrix.{Matrix}
use Rattle.split_choose.specs.declared.spans.Span.{Span}
use Rattle.split_choose.specs.declared.places.TouchedPlace.{TouchedPlace}
use Rattle.split_choose.specs.Offers.{View, Touched, touched_places, live_at, borders, clashes_not, clear_along}
use Rattle.split_choose.specs.Seen.{view_of, FindsPlaces, FindsPoints}
use Rattle.split_choose.specs.Places.{placed}
use Rattle.split_choose.specs.Built.{span_place}
use Rattle.split_choose.specs.Spanned.{is_rank_in, IsSpan, HasSpan, is_in_block, AreSpansOf}
use Rattle.split_choose.specs.Clearing.{points_between, is_clear_between}
use Rattle.split_choose.proofs.Covers.{among-cases}
use Rattle.split_choose.proofs.Spread.{place-among}
use Rattle.split_choose.proofs.Between.{TellsOf, near-same, near-other}
use Rattle.split_choose.proofs.Cleared.{clear-between, between-without, clear-passed}

-- tests of all, element by element

pub all_next : {X : Type 0} (f : X → Bool) (xs : List X) (k : ℕ) (x : X) (b : Bool) → k < length xs → x ≡ get_or xs k x → b ≡ f x → b ≡ true → list_all f (take k xs) ≡ true → list_all f (take (k + 1) xs) ≡ true
all_next f xs k x b h at is holds was =
    ap (list_all f) (take_more xs k x h ∙ ap (λ y. take k xs ++ y ∷ []) (sym at))
    ∙ (list_all-append f (take k xs) (x ∷ []) ∙ and_from (list_all f (take k xs)) (f x && true) was (and_from (f x) true (sym is ∙ holds) refl))

pub all_failed : {X : Type 0} (f : X → Bool) (xs : List X) (k : ℕ) (x : X) (b : Bool) → k < length xs → x ≡ get_or xs k x → b ≡ f x → b ≡ false → false ≡ list_all f xs
all_failed f [] k x b h at is fails = absurd (omega arith)
all_failed f (y ∷ ys) zero x b h at is fails = sym (ap (λ c. c && list_all f ys) (sym (ap f at) ∙ (sym is ∙ fails)))
all_failed f (y ∷ ys) (suc k) x b h at is fails = go (f y) (all_failed f ys k x b (omega arith) at is fails)
  where
    go : (c : Bool) → false ≡ list_all f ys → false ≡ (c && list_all f ys)
    go true ih = ih
    go false ih = refl

pub all_done : {X : Type 0} (f : X → Bool) (xs : List X) (k : ℕ) → length xs ≤ k → list_all f (take k xs) ≡ true → true ≡ list_all f xs
all_done f xs k h was = sym was ∙ ap (list_all f) (take_all k xs h)

pub ruleset alls = (all_next, all_failed, all_done)

-- the span of a block, if there is one

place-somewhere : (k : ℕ) (ss : List Span) (s : Span) → Among s ss → s.position ≡ k → span_place k ss ≡ None → ⊥
place-somewhere k [] s n at e = elim n [ ]
place-somewhere k (x ∷ xs) s n at e = go (among-cases s x xs n) (nat_eq x.position k) refl (place-somewhere k xs s)
  where
    shifted : (o : Option ℕ) → option_map (λ j. suc j) o ≡ None → o ≡ None
    shifted None g = refl
    shifted (Some j) g = absurd (cc)

    go : (s ≡ x) ⊎ Among s xs → (b : Bool) → nat_eq x.position k ≡ b → (Among s xs → s.position ≡ k → span_place k xs ≡ None → ⊥) → ⊥
    go f true g ih = let z : Some 0 ≡ None = sym (ap (λ b. cond b (Some 0) (option_map (λ j. suc j) (span_place k xs))) g) ∙ e in cc
    go (inl f) false g ih = true≢false (sym (eq-eqb x.position k (ap (λ (y : Span). y.position) (sym f) ∙ at)) ∙ g)
    go (inr m) false g ih = ih m at (shifted (span_place k xs) (sym (ap (λ b. cond b (Some 0) (option_map (λ j. suc j) (span_place k xs))) g) ∙ e))

place-there : (k : ℕ) (ss : List Span) (at : ℕ) → span_place k ss ≡ Some at → (s : Span) × (slice_get ss at ≡ Some s) × (s.position ≡ k)
place-there k [] at e = absurd (cc)
place-there k (x ∷ xs) at e = go (nat_eq x.position k) refl (span_place k xs) refl (place-there k xs)
  where
    later : (j : ℕ) → suc j ≡ at → ((s : Span) × (slice_get xs j ≡ Some s) × (s.position ≡ k)) → (s : Span) × (slice_get (x ∷ xs) at ≡ Some s) × (s.position ≡ k)
    later j g (s, f, p) = (s, ap (slice_get (x ∷ xs)) (sym g) ∙ f, p)

    go : (b : Bool) → nat_eq x.position k ≡ b → (o : Option ℕ) → span_place k xs ≡ o → ((j : ℕ) → span_place k xs ≡ Some j → (s : Span) × (slice_get xs j ≡ Some s) × (s.position ≡ k)) → (s : Span) × (slice_get (x ∷ xs) at ≡ Some s) × (s.position ≡ k)
    go true g o f ih =
        let z : Some 0 ≡ Some at = sym (ap (λ b. cond b (Some 0) (option_map (λ j. suc j) (span_place k xs))) g) ∙ e in
        let w : 0 ≡ at = cc in (x, ap (slice_get (x ∷ xs)) (sym w), eqb-true x.position k g)
    go false g None f ih = let z : None ≡ Some at = sym (ap (λ b. cond b (Some 0) (option_map (λ j. suc j) (span_place k xs))) g ∙ ap (option_map (λ j. suc j)) f) ∙ e in absurd (cc)
    go false g (Some j) f ih =
        let z : Some (suc j) ≡ Some at = sym (ap (λ b. cond b (Some 0) (option_map (λ j. suc j) (span_place k xs))) g ∙ ap (option_map (λ j. suc j)) f) ∙ e in
        let w : suc j ≡ at = cc in later j w (ih j f)

get-or-at : (ss : List Span) (at : ℕ) (s t : Span) → slice_get ss at ≡ Some s → t ≡ get_or ss at t → t ≡ s
get-or-at [] at s t e h = absurd (cc)
get-or-at (x ∷ xs) zero s t e h = cc
get-or-at (x ∷ xs) (suc at) s t e h = get-or-at xs at s t e h

module _ (m : Matrix) (v : ℕ) (finds : FindsPoints m) (places : FindsPlaces m.live.target m.live.func m.live.table v) (parents freqs : List ℕ) (q : Reg) (spans : List Span) (told : AreSpansOf m v freqs spans) where
  abbrev slots : Numbers
  slots = m.live.table.order.slots

  abbrev clashes : Point → Bool
  clashes = clashes_not m.live.target m.live.func v (view_of m v parents) q

  -- in a block without a span

  pub free-without : (k : ℕ) (b : Block) (low high : ℕ) → slice_get m.live.func.blocks k ≡ Some b → None ≡ span_place k spans → true ≡ list_all clashes (points_between slots low high b)
  free-without k b low high at none = go (told.all k)
    where
      go : HasSpan spans k ⊎ (is_in_block m.live.table v k ≡ false) → true ≡ list_all clashes (points_between slots low high b)
      go (inl h) = absurd (place-somewhere k spans h.span h.among h.there (sym none))
      go (inr h) = sym (between-without m v finds places parents q k b low high at h)

  -- and in one with a span
  pub free-within : (k : ℕ) (b : Block) (low high at : ℕ) (s : Span) (r : Bool) → slice_get m.live.func.blocks k ≡ Some b → is_rank_in slots b.instrs low ≡ true → Some at ≡ span_place k spans → s ≡ get_or spans at s
      → r ≡ is_clear_between m v q s.position s.stretches.items low high → r ≡ list_all clashes (points_between slots low high b)
  free-within k b low high at s r found first there_is is answer = go (place-there k spans at (sym there_is))
    where
      in_span : (t : Span) → Among t spans → t.position ≡ k → s ≡ t → IsSpan m v freqs t → r ≡ list_all clashes (points_between slots low high b)
      in_span t n p same tells =
          let both : Some tells.block ≡ Some b = sym tells.found ∙ (ap (slice_get m.live.func.blocks) p ∙ found) in
          let block : tells.block ≡ b = cc in
          answer
          ∙ (ap (λ (x : Span). is_clear_between m v q x.position x.stretches.items low high) same
          ∙ (clear-between m v finds places parents q freqs t tells low high (ap (λ (x : Block). is_rank_in slots x.instrs low) block ∙ first)
          ∙ ap (λ x. list_all clashes (points_between slots low high x)) block))

      go : ((t : Span) × (slice_get spans at ≡ Some t) × (t.position ≡ k)) → r ≡ list_all clashes (points_between slots low high b)
      go (t, f, p) = in_span t (place-among t spans at f) p (get-or-at spans at t s f is) (told.each t (place-among t spans at f))

  -- from one place to the next

  module _ (named : AreTouched m.live.table v (touching_ids m.live.func v))
      (unbordered : list_any (live_at m.live.target m.live.func v (view_of m v parents)) (borders m.live.target m.live.func v (view_of m v parents)) ≡ false) where
    abbrev Tells : Bool → ℕ → ℕ → ℕ → Type 0
    Tells r k low high = (b : Block) → slice_get m.live.func.blocks k ≡ Some b → is_rank_in slots b.instrs low ≡ true → r ≡ list_all clashes (points_between slots low high b)

    abbrev all_places : List Touched
    all_places = touched_places m.live.target m.live.func v (view_of m v parents)

    abbrev is_clear_along : Touched → Touched → Bool
    is_clear_along one other = clear_along m.live.target m.live.func v (view_of m v parents) ((one, other), q)

    passed : (k : ℕ) (b : Block) → slice_get m.live.func.blocks k ≡ Some b → list_any (touches v) b.instrs ≡ false → list_all clashes (block_points b) ≡ true
    passed k b at untouched = clear-passed m v finds places parents q named k b at untouched unbordered

    -- of one block
    pub free-same : (a z : ℕ) (one other : Touched) (x y : TouchedPlace) (low high : ℕ) (r : Bool) → slice_get all_places a ≡ Some one → slice_get all_places z ≡ Some other → z ≡ a + 1
        → x ≡ placed m.live.func.blocks one → y ≡ placed m.live.func.blocks other → x.position ≡ y.position → low ≡ entry_rank slots x.first → high ≡ exit_rank slots y.last
        → Tells r x.position low high → r ≡ is_clear_along one other
    free-same a z one other x y low high r e f next there_one there_other same from upto tells =
        near-same m.live.target m.live.func v (view_of m v parents) slots m.live.table.order.block_of.items clashes places.instrs.homes places.instrs.ranked places.placed places.ended passed
        a one other x.position y.position r e (ap (slice_get all_places) (sym (next ∙ add-one a)) ∙ f) (ap (λ (p : TouchedPlace). p.position) there_one) (ap (λ (p : TouchedPlace). p.position) there_other) same
        (subst (λ n. Tells r x.position (entry_rank slots one.first) n) (upto ∙ ap (λ (p : TouchedPlace). exit_rank slots p.last) there_other)
        (subst (λ n. Tells r x.position n high) (from ∙ ap (λ (p : TouchedPlace). entry_rank slots p.first) there_one) tells))

    -- of two
    pub free-other : (a z : ℕ) (one other : Touched) (x y : TouchedPlace) (low high : ℕ) (r s : Bool) → slice_get all_places a ≡ Some one → slice_get all_places z ≡ Some other → z ≡ a + 1
        → x ≡ placed m.live.func.blocks one → y ≡ placed m.live.func.blocks other → x.position ≢ y.position → low ≡ entry_rank slots x.first → high ≡ exit_rank slots y.last
        → Tells r x.position low 340282366920938463463374607431768211455 → Tells s y.position 0 high → (r && s) ≡ is_clear_along one other
    free-other a z one other x y low high r s e f next there_one there_other differ from upto first second =
        near-other m.live.target m.live.func v (view_of m v parents) slots m.live.table.order.block_of.items clashes places.instrs.homes places.instrs.ranked places.placed places.ended passed
        a one other x.position y.position r s e (ap (slice_get all_places) (sym (next ∙ add-one a)) ∙ f) (ap (λ (p : TouchedPlace). p.position) there_one) (ap (λ (p : TouchedPlace). p.position) there_other) differ
        (subst (λ n. Tells r x.position n 340282366920938463463374607431768211455) (from ∙ ap (λ (p : TouchedPlace). entry_rank slots p.first) there_one) first)
        (subst (λ n. Tells s y.position 0 n) (upto ∙ ap (λ (p : TouchedPlace). exit_rank slots p.last) there_other) second)

    -- what would be answered of a block
    asked : ℕ → ℕ → ℕ → Bool
    asked k low high = elim (slice_get m.live.func.blocks k) [ None ↦ true | Some b ↦ list_all clashes (points_between slots low high b) ]

    asked-tells : (k low high : ℕ) → Tells (asked k low high) k low high
    unfolding asked
    asked-tells k low high b at first = ap (λ (o : Option Block). elim o [ None ↦ true | Some c ↦ list_all clashes (points_between slots low high c) ]) at

    -- where the first of two isn't free, the other isn't asked
    pub free-not : (a z : ℕ) (one other : Touched) (x y : TouchedPlace) (low high : ℕ) (r : Bool) → slice_get all_places a ≡ Some one → slice_get all_places z ≡ Some other → z ≡ a + 1
        → x ≡ placed m.live.func.blocks one → y ≡ placed m.live.func.blocks other → x.position ≢ y.position → low ≡ entry_rank slots x.first → high ≡ exit_rank slots y.last
        → Tells r x.position low 340282366920938463463374607431768211455 → r ≡ false → false ≡ is_clear_along one other
    free-not a z one other x y low high r e f next there_one there_other differ from upto first fails =
        ap (λ u. u && asked y.position 0 high) (sym fails)
        ∙ free-other a z one other x y low high r (asked y.position 0 high) e f next there_one there_other differ from upto first (asked-tells y.position 0 high)
