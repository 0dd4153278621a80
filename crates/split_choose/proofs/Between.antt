-- From one touched place to the next: the tests of one block's points, or of two blocks', tell of all between.
use Rattle.std.proofs.Common.{◌≡◌, ◌≢◌, ◌∙◌, ◌⊎◌, inl, inr, ℕ, zero, suc, ◌+◌, ◌*◌, ◌<◌, ◌≤◌, Bool, true, false, cond, List, [], ◌∷◌, ◌++◌, refl, sym, ap, subst, arith, eq-eqb, eqb-true, length, map, append_assoc, length-append, Option, None, Some}
use Rattle.std.specs.Prelude.{nat_le, nat_eq, filter, flat_map, slice_get, slice_index, not, ◌&&◌, ◌||◌}
use Rattle.std.specs.List.{list_all, list_any}
use Rattle.std.proofs.lemmas.Bool.{false≢true, true≢false, cases_lt, or_left, or_right}
use Rattle.std.proofs.lemmas.List.Folds.{list_all-append}
use Rattle.slot_index.specs.Order.{number_of}
use Rattle.target_base.specs.declared.types.Target.{Target}
use Rattle.meaning.specs.Live.{Among, here, there}
use Rattle.mir_func.specs.declared.func.Instr.{Instr}
use Rattle.mir_func.specs.declared.func.Block.{Block}
use Rattle.mir_func.specs.Value.{Function}
use Rattle.mir_func.specs.Edits.{block_place}
use Rattle.mir_meaning.specs.Points.{Point, Start, Entry, Exit, block_points, all_points, touches}
use Rattle.mir_meaning.specs.Paths.{has}
use Rattle.live_lanes.specs.Table.{Numbers, entry_rank, exit_rank}
use Rattle.live_lanes.specs.Ordered.{ids_of, AreRising, AreHomes, place_of}
use Rattle.split_choose.specs.Offers.{View, Touched, touched_places, from_point, to_point}
use Rattle.split_choose.specs.Seen.{ends_in_terminators}
use Rattle.split_choose.specs.Spanned.{is_rank_in}
use Rattle.split_choose.specs.Clearing.{points_between}
use Rattle.split_choose.proofs.Ranked.{among-right}
use Rattle.split_choose.proofs.Spread.{has-cases, get-at, among-place, get-left, get-right, place-among, within-block, across-blocks}
use Rattle.split_choose.proofs.Neighbours.{OneBlock, TwoBlocks, neighbours, place-lies, place-next, untouched, LiesIn, places_in}
use Rattle.split_choose.proofs.Clearing.{all-among}
use Rattle.split_choose.proofs.Sited.{place-number}

-- the entry of an instruction of the block is one of its ranks
pub entry-rank-in : (slots : Numbers) (is : List Instr) (id : ℕ) → has id (ids_of is) ≡ true → is_rank_in slots is (entry_rank slots id) ≡ true
entry-rank-in slots is id h = or_right (nat_eq (entry_rank slots id) 0) (list_any (λ (i : Instr). nat_eq (entry_rank slots id) (entry_rank slots i.id) || nat_eq (entry_rank slots id) (exit_rank slots i.id)) is) (go is h)
  where
    go : (js : List Instr) → has id (ids_of js) ≡ true → list_any (λ (i : Instr). nat_eq (entry_rank slots id) (entry_rank slots i.id) || nat_eq (entry_rank slots id) (exit_rank slots i.id)) js ≡ true
    go [] k = absurd (false≢true k)
    go (j ∷ js) k = by_place (has-cases id j.id (ids_of js) k) (go js)
      where
        rest : Bool
        rest = list_any (λ (i : Instr). nat_eq (entry_rank slots id) (entry_rank slots i.id) || nat_eq (entry_rank slots id) (exit_rank slots i.id)) js

        by_place : (j.id ≡ id) ⊎ (has id (ids_of js) ≡ true) → (has id (ids_of js) ≡ true → list_any (λ (i : Instr). nat_eq (entry_rank slots id) (entry_rank slots i.id) || nat_eq (entry_rank slots id) (exit_rank slots i.id)) js ≡ true)
            → list_any (λ (i : Instr). nat_eq (entry_rank slots id) (entry_rank slots i.id) || nat_eq (entry_rank slots id) (exit_rank slots i.id)) (j ∷ js) ≡ true
        by_place (inl e) ih =
            or_left (nat_eq (entry_rank slots id) (entry_rank slots j.id) || nat_eq (entry_rank slots id) (exit_rank slots j.id)) (list_any (λ (i : Instr). nat_eq (entry_rank slots id) (entry_rank slots i.id) || nat_eq (entry_rank slots id) (exit_rank slots i.id)) js)
            (or_left (nat_eq (entry_rank slots id) (entry_rank slots j.id)) (nat_eq (entry_rank slots id) (exit_rank slots j.id)) (eq-eqb (entry_rank slots id) (entry_rank slots j.id) (ap (entry_rank slots) (sym e))))
        by_place (inr n) ih =
            or_right (nat_eq (entry_rank slots id) (entry_rank slots j.id) || nat_eq (entry_rank slots id) (exit_rank slots j.id)) (list_any (λ (i : Instr). nat_eq (entry_rank slots id) (entry_rank slots i.id) || nat_eq (entry_rank slots id) (exit_rank slots i.id)) js) (ih n)

-- so is its exit
pub exit-rank-in : (slots : Numbers) (is : List Instr) (id : ℕ) → has id (ids_of is) ≡ true → is_rank_in slots is (exit_rank slots id) ≡ true
exit-rank-in slots is id h = or_right (nat_eq (exit_rank slots id) 0) (list_any (λ (i : Instr). nat_eq (exit_rank slots id) (entry_rank slots i.id) || nat_eq (exit_rank slots id) (exit_rank slots i.id)) is) (go is h)
  where
    go : (js : List Instr) → has id (ids_of js) ≡ true → list_any (λ (i : Instr). nat_eq (exit_rank slots id) (entry_rank slots i.id) || nat_eq (exit_rank slots id) (exit_rank slots i.id)) js ≡ true
    go [] k = absurd (false≢true k)
    go (j ∷ js) k = by_place (has-cases id j.id (ids_of js) k) (go js)
      where
        rest : Bool
        rest = list_any (λ (i : Instr). nat_eq (exit_rank slots id) (entry_rank slots i.id) || nat_eq (exit_rank slots id) (exit_rank slots i.id)) js

        by_place : (j.id ≡ id) ⊎ (has id (ids_of js) ≡ true) → (has id (ids_of js) ≡ true → list_any (λ (i : Instr). nat_eq (exit_rank slots id) (entry_rank slots i.id) || nat_eq (exit_rank slots id) (exit_rank slots i.id)) js ≡ true)
            → list_any (λ (i : Instr). nat_eq (exit_rank slots id) (entry_rank slots i.id) || nat_eq (exit_rank slots id) (exit_rank slots i.id)) (j ∷ js) ≡ true
        by_place (inl e) ih =
            or_left (nat_eq (exit_rank slots id) (entry_rank slots j.id) || nat_eq (exit_rank slots id) (exit_rank slots j.id)) (list_any (λ (i : Instr). nat_eq (exit_rank slots id) (entry_rank slots i.id) || nat_eq (exit_rank slots id) (exit_rank slots i.id)) js)
            (or_right (nat_eq (exit_rank slots id) (entry_rank slots j.id)) (nat_eq (exit_rank slots id) (exit_rank slots j.id)) (eq-eqb (exit_rank slots id) (exit_rank slots j.id) (ap (exit_rank slots) (sym e))))
        by_place (inr n) ih =
            or_right (nat_eq (exit_rank slots id) (entry_rank slots j.id) || nat_eq (exit_rank slots id) (exit_rank slots j.id)) (list_any (λ (i : Instr). nat_eq (exit_rank slots id) (entry_rank slots i.id) || nat_eq (exit_rank slots id) (exit_rank slots i.id)) js) (ih n)

-- tests of the points of blocks without any of the range
pub all-blocks : (g : Point → Bool) (bs : List Block) → ((b : Block) → Among b bs → list_all g (block_points b) ≡ true) → list_all g (flat_map block_points bs) ≡ true
all-blocks g [] h = refl
all-blocks g (b ∷ bs) h =
    let rest = all-blocks g bs (λ c m. h c (there m)) in
    list_all-append g (block_points b) (flat_map block_points bs) ∙ (ap (λ u. u && list_all g (flat_map block_points bs)) (h b here) ∙ rest)

module _ (t : Target) (f : Function) (v : ℕ) (view : View) (slots : Numbers) (homes : List ℕ) (g : Point → Bool)
    (at : AreHomes f.blocks homes) (ranked : (k : ℕ) (b : Block) → slice_get f.blocks k ≡ Some b → AreRising slots 0 (ids_of b.instrs))
    (set : (k : ℕ) (b : Block) → slice_get f.blocks k ≡ Some b → place_of b.number f.blocks ≡ Some k)
    (ended : list_all (λ b. ends_in_terminators t b.instrs) f.blocks ≡ true)
    (passes : (k : ℕ) (b : Block) → slice_get f.blocks k ≡ Some b → list_any (touches v) b.instrs ≡ false → list_all g (block_points b) ≡ true) where
  -- the tests answer so of the points of the block at a position between two ranks, of which the first is one of its ranks
  abbrev pub TellsOf : Bool → ℕ → ℕ → ℕ → Type 0
  TellsOf r k low high = (b : Block) → slice_get f.blocks k ≡ Some b → is_rank_in slots b.instrs low ≡ true → r ≡ list_all g (points_between slots low high b)

  abbrev pub all_between : Touched → Touched → Bool
  all_between p q = list_all g (to_point (Exit q.last) (from_point (Entry p.first) (all_points f)))

  in-place : (pre : List Block) (b : Block) (post : List Block) → f.blocks ≡ pre ++ b ∷ post → slice_get f.blocks (length pre) ≡ Some b
  in-place pre b post parts = ap (λ bs. slice_get bs (length pre)) parts ∙ get-at pre b post

  stands-at : (pre : List Block) (b : Block) (post : List Block) (p : Touched) → f.blocks ≡ pre ++ b ∷ post → p.block ≡ b.number → block_place p.block f.blocks ≡ length pre
  stands-at pre b post p parts e = ap (λ n. block_place n f.blocks) e ∙ place-number b.number (length pre) f.blocks (set (length pre) b (in-place pre b post parts))

  block-ended : (k : ℕ) (b : Block) → slice_get f.blocks k ≡ Some b → ends_in_terminators t b.instrs ≡ true
  block-ended k b e = all-among (λ (c : Block). ends_in_terminators t c.instrs) f.blocks b ended (place-among b f.blocks k e)

  one-block : (p q : Touched) (o : OneBlock (places_in t f v view) f.blocks p q) (k : ℕ) (r : Bool) → k ≡ block_place p.block f.blocks → TellsOf r k (entry_rank slots p.first) (exit_rank slots q.last) → r ≡ all_between p q
  one-block p q o k r here_is tells =
      let found : slice_get f.blocks (length o.before) ≡ Some o.block = in-place o.before o.block o.behind o.parts in
      let lp : LiesIn t f v view o.block p = place-lies t f v view o.block p (place-among p (places_in t f v view o.block) o.place o.first) in
      let lq : LiesIn t f v view o.block q = place-lies t f v view o.block q (place-among q (places_in t f v view o.block) (suc o.place) o.second) in
      let rising = ranked (length o.before) o.block found in
      let same : k ≡ length o.before = here_is ∙ stands-at o.before o.block o.behind p o.parts lp.number in
      let next : number_of slots p.first < number_of slots q.last = place-next t f v view slots o.block o.place p q (block-ended (length o.before) o.block found) rising o.first o.second in
      tells o.block (ap (slice_get f.blocks) same ∙ found) (entry-rank-in slots o.block.instrs p.first lp.first)
      ∙ ap (list_all g) (within-block slots g f.blocks homes at o.before o.block o.behind p.first q.last o.parts rising lp.first lq.last (omega arith))

  two-blocks : (p q : Touched) (o : TwoBlocks (places_in t f v view) f.blocks p q) (k n : ℕ) (r s : Bool) → k ≡ block_place p.block f.blocks → n ≡ block_place q.block f.blocks
      → TellsOf r k (entry_rank slots p.first) 340282366920938463463374607431768211455 → TellsOf s n 0 (exit_rank slots q.last) → (r && s) ≡ all_between p q
  two-blocks p q o k n r s here_is there_is first second =
      let after : f.blocks ≡ (o.before ++ o.one ∷ o.between) ++ o.other ∷ o.behind = o.parts ∙ sym (append_assoc o.before (o.one ∷ o.between) (o.other ∷ o.behind)) in
      let found : slice_get f.blocks (length o.before) ≡ Some o.one = in-place o.before o.one (o.between ++ o.other ∷ o.behind) o.parts in
      let found_other : slice_get f.blocks (length (o.before ++ o.one ∷ o.between)) ≡ Some o.other = in-place (o.before ++ o.one ∷ o.between) o.other o.behind after in
      let lp : LiesIn t f v view o.one p = place-lies t f v view o.one p o.first in
      let lq : LiesIn t f v view o.other q = place-lies t f v view o.other q o.second in
      let same : k ≡ length o.before = here_is ∙ stands-at o.before o.one (o.between ++ o.other ∷ o.behind) p o.parts lp.number in
      let same_other : n ≡ length (o.before ++ o.one ∷ o.between) = there_is ∙ stands-at (o.before ++ o.one ∷ o.between) o.other o.behind q after lq.number in
      let passed : list_all g (flat_map block_points o.between) ≡ true = all-blocks g o.between (λ c m. between_passes c m (among-place c o.between m)) in
      ap (λ u. u && s) (first o.one (ap (slice_get f.blocks) same ∙ found) (entry-rank-in slots o.one.instrs p.first lp.first))
      ∙ (ap (λ u. list_all g (points_between slots (entry_rank slots p.first) 340282366920938463463374607431768211455 o.one) && u) (second o.other (ap (slice_get f.blocks) same_other ∙ found_other) refl)
      ∙ across-blocks slots g f.blocks homes at o.before o.one o.between o.other o.behind p.first q.last o.parts (ranked (length o.before) o.one found) (ranked (length (o.before ++ o.one ∷ o.between)) o.other found_other) lp.first lq.last passed)
    where
      between_passes : (c : Block) → Among c o.between → ((j : ℕ) × (slice_get o.between j ≡ Some c) × (j < length o.between)) → list_all g (block_points c) ≡ true
      between_passes c m (j, e, lt) =
          let shift : length o.before + suc j ≡ length o.before + suc j = refl in
          let there_it_is : slice_get f.blocks (length o.before + suc j) ≡ Some c =
          ap (λ bs. slice_get bs (length o.before + suc j)) o.parts ∙ (get-right o.before (o.one ∷ (o.between ++ o.other ∷ o.behind)) (suc j) ∙ (get-left o.between (o.other ∷ o.behind) j lt ∙ e)) in
          passes (length o.before + suc j) c there_it_is (untouched t f v view c (o.none c m))

  apart : (p q : Touched) → TwoBlocks (places_in t f v view) f.blocks p q → (k n : ℕ) → k ≡ block_place p.block f.blocks → n ≡ block_place q.block f.blocks → k ≡ n → ⊥
  apart p q o k n here_is there_is same =
      let after : f.blocks ≡ (o.before ++ o.one ∷ o.between) ++ o.other ∷ o.behind = o.parts ∙ sym (append_assoc o.before (o.one ∷ o.between) (o.other ∷ o.behind)) in
      let lp : LiesIn t f v view o.one p = place-lies t f v view o.one p o.first in
      let lq : LiesIn t f v view o.other q = place-lies t f v view o.other q o.second in
      let a : k ≡ length o.before = here_is ∙ stands-at o.before o.one (o.between ++ o.other ∷ o.behind) p o.parts lp.number in
      let b : n ≡ length (o.before ++ o.one ∷ o.between) = there_is ∙ stands-at (o.before ++ o.one ∷ o.between) o.other o.behind q after lq.number in
      let c : length (o.before ++ o.one ∷ o.between) ≡ length o.before + suc (length o.between) = length-append o.before (o.one ∷ o.between) in
      omega (arith, a, b, c, same)

  together : (p q : Touched) → OneBlock (places_in t f v view) f.blocks p q → (k n : ℕ) → k ≡ block_place p.block f.blocks → n ≡ block_place q.block f.blocks → k ≢ n → ⊥
  together p q o k n here_is there_is other =
      let lp : LiesIn t f v view o.block p = place-lies t f v view o.block p (place-among p (places_in t f v view o.block) o.place o.first) in
      let lq : LiesIn t f v view o.block q = place-lies t f v view o.block q (place-among q (places_in t f v view o.block) (suc o.place) o.second) in
      other (here_is ∙ (ap (λ m. block_place m f.blocks) (lp.number ∙ sym lq.number) ∙ sym there_is))

  -- of two neighbours in one block
  pub near-same : (a : ℕ) (p q : Touched) (k n : ℕ) (r : Bool) → slice_get (touched_places t f v view) a ≡ Some p → slice_get (touched_places t f v view) (suc a) ≡ Some q
      → k ≡ block_place p.block f.blocks → n ≡ block_place q.block f.blocks → k ≡ n → TellsOf r k (entry_rank slots p.first) (exit_rank slots q.last) → r ≡ all_between p q
  near-same a p q k n r e h here_is there_is same tells = go (neighbours (places_in t f v view) f.blocks a p q e h)
    where
      go : OneBlock (places_in t f v view) f.blocks p q ⊎ TwoBlocks (places_in t f v view) f.blocks p q → r ≡ all_between p q
      go (inl o) = one-block p q o k r here_is tells
      go (inr o) = absurd (apart p q o k n here_is there_is same)

  -- and in two
  pub near-other : (a : ℕ) (p q : Touched) (k n : ℕ) (r s : Bool) → slice_get (touched_places t f v view) a ≡ Some p → slice_get (touched_places t f v view) (suc a) ≡ Some q
      → k ≡ block_place p.block f.blocks → n ≡ block_place q.block f.blocks → k ≢ n → TellsOf r k (entry_rank slots p.first) 340282366920938463463374607431768211455 → TellsOf s n 0 (exit_rank slots q.last)
      → (r && s) ≡ all_between p q
  near-other a p q k n r s e h here_is there_is other first second = go (neighbours (places_in t f v view) f.blocks a p q e h)
    where
      go : OneBlock (places_in t f v view) f.blocks p q ⊎ TwoBlocks (places_in t f v view) f.blocks p q → (r && s) ≡ all_between p q
      go (inl o) = absurd (together p q o k n here_is there_is other)
      go (inr o) = two-blocks p q o k n r s here_is there_is first second
