-- Where a table is computed, its tests tell exactly the units in use at the place of instructions.
use Rattle.std.proofs.Common.{◌≡◌, ◌⊎◌, ◌∙◌, ◌<◌, ℕ, suc, Bool, true, false, List, [], ◌∷◌, ◌++◌, Some, refl, sym, ap, subst, map, drop, length, inl, inr, Bor}
use Rattle.std.specs.Prelude.{◌↔◌, ◌||◌, slice_get}
use Rattle.target_base.specs.declared.types.Effect.{Effect}
use Rattle.target_base.specs.declared.types.Target.{Target}
use Rattle.target_base.specs.Numbers.{unit_number}
use Rattle.target_base.specs.Roles.{is_silent}
use Rattle.meaning.specs.declared.types.Lane.{Lane}
use Rattle.meaning.specs.declared.types.Lane.TheVariants.{UnitLane}
use Rattle.meaning.specs.declared.types.Source.TheVariants.{FromLane}
use Rattle.meaning.specs.declared.types.Fill.TheVariants.{Moved}
use Rattle.meaning.specs.declared.types.Write.{Write}
use Rattle.meaning.specs.Code.{Item, Code as Places}
use Rattle.meaning.specs.Lanes.{filled}
use Rattle.meaning.specs.Live.{Among as Member, here as first, there as later, Live as LivePlace, LiveAfter, OccupiedBefore, OccupiedAfter, Writing, WritingEarly, writes_of, next, leap, phi, after_next, after_leap, after_phi}
use Rattle.mir_func.specs.declared.func.Block.{Block}
use Rattle.mir_func.specs.declared.func.Instr.{Instr}
use Rattle.mir_func.specs.Value.{Function}
use Rattle.mir_func.specs.Binding.{effect_of}
use Rattle.mir_meaning.specs.Codes.{block_end, blocks_code}
use Rattle.instr_effects.specs.Numbered.{number_in}
use Rattle.mir_meaning.specs.Registers.{is_reserved}
use Rattle.target_base.specs.Registers.{is_reserved_unit}
use Rattle.mir_meaning.specs.Points.{Point, Entry, Exit, OccupiedAt, Tests, AtFirst, point_item, points_of, from_instr, block_rest}
use Rattle.mir_meaning.specs.Places.{AtEntry, AtExit, Admits, place_of, entries_of}
use Rattle.mir_meaning.specs.Rules.{V8}
use Rattle.instr_effects.proofs.Members.{member-none, member-elim, map-of, map-in}
use Rattle.instr_effects.proofs.Plain.{filled-cases}
use Rattle.live_laws.specs.Effects.Coded.{KeepsRules}
use Rattle.live_laws.proofs.Effects.Blocks.{slice-member}
use Rattle.live_laws.proofs.Effects.Lists.{any-in}
use Rattle.live_lanes.specs.declared.table.Table.{Table}
use Rattle.live_lanes.specs.Doing.{IsComputed}
use Rattle.live_lanes.specs.Looks.{entry_at, exit_at}
use Rattle.live_laws.proofs.Exact.Spots.{Spot, spot, drop-at}
use Rattle.place_solve.specs.declared.position.PlacePosition.{PlacePosition}
use Rattle.place_solve.specs.declared.position.PlacePosition.TheVariants as arounds
use Rattle.place_solve.specs.Positions.{entry_tests, exit_tests, is_taken, is_left, enters, leaves, writes, writes_early, entry_of, exit_of}
use Rattle.place_solve.specs.Laws.{PlaceLaw}
use Rattle.place_solve.specs.Told.{is_solved, Seated}
use Rattle.place_solve.proofs.Told.{admitted, few-numbered, numbered, same_value, decides-takes, tells, marks-few}
use Rattle.place_solve.proofs.Writes.{IsExact, any-of, either-true, or-left, or-right, told, early-told, numbered-written}

-- a lane that is live behind an item that doesn't write it is live before it
unwritten-live : (R : Lane → Bool) (C : Places) (i : Item) (p : Places) (l : Lane) → R l ≡ false → (Writing i l → ⊥) → LiveAfter R C i p l → LivePlace R C (i ∷ p) l
unwritten-live R C i p l free none h = go (filled-cases (writes_of i) l)
  where
    by : filled (writes_of i) l ≡ Moved (FromLane l) → LiveAfter R C i p l → LivePlace R C (i ∷ p) l
    by g (after_next o h) = next o h g free
    by g (after_leap m h k) = leap m h k g free
    by g (after_phi m n k) = phi m n k g free

    go : ((w : Write) × Member w (writes_of i) × (w.lane ≡ l) × (filled (writes_of i) l ≡ w.fill)) ⊎ ((filled (writes_of i) l ≡ Moved (FromLane l)) × ((w : Write) → Member w (writes_of i) → w.lane ≡ l → ⊥)) → LivePlace R C (i ∷ p) l
    go (inl z) = absurd (none (z.0, z.1, z.2))
    go (inr z) = by z.0 h

module _ (t : Target) (f : Function) (x : Table) (computed : IsComputed t f x) (rules : KeepsRules t f) (last : (b : Block) (j : ℕ) (i : Instr) → Member b f.blocks → slice_get b.instrs j ≡ Some i → V8 t b j i ≡ true) where
  abbrev R : Lane → Bool
  R = is_reserved t

  abbrev C : Places
  C = points_of t f

  -- instructions that stand somewhere, and whose writings are told
  abbrev Good : Instr → Type 0
  Good i = (s : Seated t f i) × IsExact t f s.block i

  module _ (i : Instr) (s : Seated t f i) (u : ℕ) where
    abbrev l : Lane
    l = UnitLane u

    abbrev item : Item
    item = point_item t f s.block i

    abbrev stands : Spot t f i.id f.blocks s.position s.place
    stands = spot t f i.id f.blocks s.position s.place s.spot

    abbrev rest : Places
    rest = map (point_item t f s.block) (drop (suc s.place) s.block.instrs) ++ (block_end t f s.block stands.after ∷ blocks_code (point_item t f) t f stands.after)

    from : from_instr t f i.id f.blocks ≡ item ∷ rest
    from =
        stands.code
        ∙ ap (λ b. block_rest t f b stands.after s.place) (same_value stands.block s.block (sym stands.place ∙ s.is_block))
        ∙ ap (λ is. map (point_item t f s.block) is ++ (block_end t f s.block stands.after ∷ blocks_code (point_item t f) t f stands.after)) (drop-at s.block.instrs s.place i s.is_instr).0

    pub entered : (enters x (unit_number u) i.id ≡ true) ↔ LivePlace R C (item ∷ rest) l
    entered =
        let z = (tells t f x computed rules last).entry l refl i.id s.position s.place s.spot in
        ((λ e. subst (λ p. LivePlace R C p l) from (z.0 e)), (λ h. z.1 (subst (λ p. LivePlace R C p l) (sym from) h)))

    pub left : is_reserved_unit t u ≡ false → (leaves x (unit_number u) i.id ≡ true) ↔ LiveAfter R C item rest l
    left free =
        let z = (tells t f x computed rules last).exit l refl free i.id s.position s.place s.spot in
        ((λ e. subst (AtFirst (λ i p. LiveAfter R C i p l)) from (z.0 e)), (λ h. z.1 (subst (AtFirst (λ i p. LiveAfter R C i p l)) (sym from) h)))

    pub at-entry : OccupiedAt t f (Entry i.id) l → (LivePlace R C (item ∷ rest) l ⊎ WritingEarly item l) × (is_reserved_unit t u ≡ false)
    at-entry h = subst (AtFirst (λ i p. OccupiedBefore R C i p l)) from h

    pub of-entry : (LivePlace R C (item ∷ rest) l ⊎ WritingEarly item l) × (is_reserved_unit t u ≡ false) → OccupiedAt t f (Entry i.id) l
    of-entry h = subst (AtFirst (λ i p. OccupiedBefore R C i p l)) (sym from) h

    pub at-exit : OccupiedAt t f (Exit i.id) l → (LiveAfter R C item rest l ⊎ Writing item l) × (is_reserved_unit t u ≡ false)
    at-exit h = subst (AtFirst (λ i p. OccupiedAfter R C i p l)) from h

    pub of-exit : (LiveAfter R C item rest l ⊎ Writing item l) × (is_reserved_unit t u ≡ false) → OccupiedAt t f (Exit i.id) l
    of-exit h = subst (AtFirst (λ i p. OccupiedAfter R C i p l)) (sym from) h

    module _ (exact : IsExact t f s.block i) where
      early-few : is_reserved_unit t u ≡ false → WritingEarly item l → u < length t.units
      early-few free (w, m, h, g) = exact.few u free (w, m, h)

      few-entry : OccupiedAt t f (Entry i.id) l → u < length t.units
      few-entry h = let z = at-entry h in go z.0 z.1
        where
          go : LivePlace R C (item ∷ rest) l ⊎ WritingEarly item l → is_reserved_unit t u ≡ false → u < length t.units
          go (inl h) free = marks-few t f x computed rules last u (λ o. entry_at x o i.id) refl (entered.1 h)
          go (inr w) free = early-few free w

      few-exit : OccupiedAt t f (Exit i.id) l → u < length t.units
      few-exit h = let z = at-exit h in go z.0 z.1
        where
          go : LiveAfter R C item rest l ⊎ Writing item l → is_reserved_unit t u ≡ false → u < length t.units
          go (inl h) free = marks-few t f x computed rules last u (λ o. exit_at x o i.id) refl ((left free).1 h)
          go (inr w) free = exact.few u free w

      module _ (few : u < length t.units) (free : is_reserved_unit t u ≡ false) where
        taken-forth : is_taken t x (unit_number u) i ≡ true → OccupiedAt t f (Entry i.id) l
        taken-forth e = go (either-true (enters x (unit_number u) i.id) (writes_early t i (unit_number u)) e)
          where
            go : (enters x (unit_number u) i.id ≡ true) ⊎ (writes_early t i (unit_number u) ≡ true) → OccupiedAt t f (Entry i.id) l
            go (inl h) = of-entry (inl (entered.0 h), free)
            go (inr h) = of-entry (inr ((exact.early u few free).0 h), free)

        taken-back : OccupiedAt t f (Entry i.id) l → is_taken t x (unit_number u) i ≡ true
        taken-back h = go (at-entry h).0
          where
            go : LivePlace R C (item ∷ rest) l ⊎ WritingEarly item l → is_taken t x (unit_number u) i ≡ true
            go (inl h) = or-left (enters x (unit_number u) i.id) (writes_early t i (unit_number u)) (entered.1 h)
            go (inr w) = or-right (enters x (unit_number u) i.id) (writes_early t i (unit_number u)) ((exact.early u few free).1 w)

        left-forth : is_left t x (unit_number u) i ≡ true → OccupiedAt t f (Exit i.id) l
        left-forth e = go (either-true (leaves x (unit_number u) i.id) (writes t i (unit_number u)) e)
          where
            go : (leaves x (unit_number u) i.id ≡ true) ⊎ (writes t i (unit_number u) ≡ true) → OccupiedAt t f (Exit i.id) l
            go (inl h) = of-exit (inl ((left free).0 h), free)
            go (inr h) = of-exit (inr ((exact.written u few free).0 h), free)

        left-back : OccupiedAt t f (Exit i.id) l → is_left t x (unit_number u) i ≡ true
        left-back h = go (at-exit h).0
          where
            go : LiveAfter R C item rest l ⊎ Writing item l → is_left t x (unit_number u) i ≡ true
            go (inl h) = or-left (leaves x (unit_number u) i.id) (writes t i (unit_number u)) ((left free).1 h)
            go (inr w) = or-right (leaves x (unit_number u) i.id) (writes t i (unit_number u)) ((exact.written u few free).1 w)

        written-forth : writes t i (unit_number u) ≡ true → OccupiedAt t f (Exit i.id) l
        written-forth h = of-exit (inr ((exact.written u few free).0 h), free)

        -- what is in use behind it is written, or in use before it
        passed : OccupiedAt t f (Exit i.id) l → (is_taken t x (unit_number u) i || writes t i (unit_number u)) ≡ true
        passed h = go (writes t i (unit_number u)) refl (at-exit h).0
          where
            taken : is_taken t x (unit_number u) i ≡ true → (is_taken t x (unit_number u) i || writes t i (unit_number u)) ≡ true
            taken e = or-left (is_taken t x (unit_number u) i) (writes t i (unit_number u)) e

            not-written : writes t i (unit_number u) ≡ false → Writing item l → ⊥
            not-written e w = let h : false ≡ true = sym e ∙ (exact.written u few free).1 w in cc

            go : (b : Bool) → writes t i (unit_number u) ≡ b → LiveAfter R C item rest l ⊎ Writing item l → (is_taken t x (unit_number u) i || writes t i (unit_number u)) ≡ true
            go true e h = or-right (is_taken t x (unit_number u) i) (writes t i (unit_number u)) e
            go false e (inr w) = absurd (not-written e w)
            go false e (inl h) = taken (or-left (enters x (unit_number u) i.id) (writes_early t i (unit_number u)) (entered.1 (unwritten-live R C item rest l free (not-written e) h)))

  -- the instructions of a place

  abbrev AllGood : List Instr → Type 0
  AllGood is = (i : Instr) → Member i is → Good i

  abbrev OneIn : List Point → ℕ → Type 0
  OneIn qs u = (q : Point) × Member q qs × OccupiedAt t f q (UnitLane u)

  module _ (u : ℕ) (few : u < length t.units) (free : is_reserved_unit t u ≡ false) where
    entry-forth : (is : List Instr) → AllGood is → entry_tests t x (unit_number u) is ≡ true → OneIn (entries_of is) u
    entry-forth [] good e = absurd (cc)
    entry-forth (i ∷ []) good e = let g = good i first in (Entry i.id, first, taken-forth i g.0 u g.1 few free e)
    entry-forth (i ∷ j ∷ is) good e = go (either-true (is_taken t x (unit_number u) i || writes t i (unit_number u)) (entry_tests t x (unit_number u) (j ∷ is)) e) (entry-forth (j ∷ is) (λ k m. good k (later m)))
      where
        g : Good i
        g = good i first

        here : (is_taken t x (unit_number u) i ≡ true) ⊎ (writes t i (unit_number u) ≡ true) → OneIn (entries_of (i ∷ j ∷ is)) u
        here (inl h) = (Entry i.id, first, taken-forth i g.0 u g.1 few free h)
        here (inr h) = (Exit i.id, later first, written-forth i g.0 u g.1 few free h)

        go : ((is_taken t x (unit_number u) i || writes t i (unit_number u)) ≡ true) ⊎ (entry_tests t x (unit_number u) (j ∷ is) ≡ true) → (entry_tests t x (unit_number u) (j ∷ is) ≡ true → OneIn (entries_of (j ∷ is)) u) → OneIn (entries_of (i ∷ j ∷ is)) u
        go (inl h) ih = here (either-true (is_taken t x (unit_number u) i) (writes t i (unit_number u)) h)
        go (inr h) ih = let z = ih h in (z.0, later (later z.1), z.2)

    entry-back : (is : List Instr) → AllGood is → (q : Point) → Member q (entries_of is) → OccupiedAt t f q (UnitLane u) → entry_tests t x (unit_number u) is ≡ true
    entry-back [] good q m h = absurd (member-none q m)
    entry-back (i ∷ []) good q m h = let g = good i first in member-elim q (Entry i.id) [] (λ e. taken-back i g.0 u g.1 few free (subst (λ p. OccupiedAt t f p (UnitLane u)) e h)) (λ k. absurd (member-none q k)) m
    entry-back (i ∷ j ∷ is) good q m h =
        let g = good i first in
        let A = is_taken t x (unit_number u) i || writes t i (unit_number u) in
        let B = entry_tests t x (unit_number u) (j ∷ is) in
        member-elim q (Entry i.id) (Exit i.id ∷ entries_of (j ∷ is))
        (λ e. or-left A B (or-left (is_taken t x (unit_number u) i) (writes t i (unit_number u)) (taken-back i g.0 u g.1 few free (subst (λ p. OccupiedAt t f p (UnitLane u)) e h))))
        (λ k. member-elim q (Exit i.id) (entries_of (j ∷ is)) (λ e. or-left A B (passed i g.0 u g.1 few free (subst (λ p. OccupiedAt t f p (UnitLane u)) e h))) (λ n. or-right A B (entry-back (j ∷ is) (λ k m. good k (later m)) q n h)) k)
        m

    exit-forth : (is : List Instr) → AllGood is → exit_tests t x (unit_number u) is ≡ true → OneIn (map (λ i. Exit i.id) is) u
    exit-forth is good e =
        let z = any-of (is_left t x (unit_number u)) is e in
        let g = good z.0 z.1 in
        (Exit z.0.id, map-in (λ i. Exit i.id) z.0 is z.1, left-forth z.0 g.0 u g.1 few free z.2)

    exit-back : (is : List Instr) → AllGood is → (q : Point) → Member q (map (λ i. Exit i.id) is) → OccupiedAt t f q (UnitLane u) → exit_tests t x (unit_number u) is ≡ true
    exit-back is good q m h =
        let z = map-of (λ i. Exit i.id) q is m in
        let g = good z.0 z.1 in
        any-in (is_left t x (unit_number u)) z.0 is z.1 (left-back z.0 g.0 u g.1 few free (subst (λ p. OccupiedAt t f p (UnitLane u)) z.2 h))

  -- what is in use is a unit that takes part

  taking : (i : Instr) → Good i → (u : ℕ) → (OccupiedAt t f (Entry i.id) (UnitLane u) → (u < length t.units) × (is_reserved_unit t u ≡ false)) × (OccupiedAt t f (Exit i.id) (UnitLane u) → (u < length t.units) × (is_reserved_unit t u ≡ false))
  taking i g u = ((λ h. (few-entry i g.0 u g.1 h, (at-entry i g.0 u h).1)), (λ h. (few-exit i g.0 u g.1 h, (at-exit i g.0 u h).1)))

  entry-takes : (is : List Instr) → AllGood is → (u : ℕ) (q : Point) → Member q (entries_of is) → OccupiedAt t f q (UnitLane u) → (u < length t.units) × (is_reserved_unit t u ≡ false)
  entry-takes [] good u q m h = absurd (member-none q m)
  entry-takes (i ∷ []) good u q m h = member-elim q (Entry i.id) [] (λ e. (taking i (good i first) u).0 (subst (λ p. OccupiedAt t f p (UnitLane u)) e h)) (λ k. absurd (member-none q k)) m
  entry-takes (i ∷ j ∷ is) good u q m h =
      member-elim q (Entry i.id) (Exit i.id ∷ entries_of (j ∷ is)) (λ e. (taking i (good i first) u).0 (subst (λ p. OccupiedAt t f p (UnitLane u)) e h))
      (λ k. member-elim q (Exit i.id) (entries_of (j ∷ is)) (λ e. (taking i (good i first) u).1 (subst (λ p. OccupiedAt t f p (UnitLane u)) e h)) (λ n. entry-takes (j ∷ is) (λ k m. good k (later m)) u q n h) k)
      m

  exit-takes : (is : List Instr) → AllGood is → (u : ℕ) (q : Point) → Member q (map (λ i. Exit i.id) is) → OccupiedAt t f q (UnitLane u) → (u < length t.units) × (is_reserved_unit t u ≡ false)
  exit-takes is good u q m h = let z = map-of (λ i. Exit i.id) q is m in (taking z.0 (good z.0 z.1) u).1 (subst (λ p. OccupiedAt t f p (UnitLane u)) z.2 h)

  module _ (is : Bor (List Instr)) (good : AllGood is.now) where
    abbrev a : PlacePosition
    a = arounds.Instrs is

    place-entry : Tests (AtEntry t f (place_of t f is.now)) (entry_of t x a)
    place-entry u = decides-takes t u (entry_tests t x (unit_number u) is.now) (λ few free. ((λ e. inl (entry-forth u few free is.now good e)), back few free)) takes
      where
        back : u < length t.units → is_reserved_unit t u ≡ false → AtEntry t f (place_of t f is.now) u → entry_tests t x (unit_number u) is.now ≡ true
        back few free (inl (q, m, h)) = entry-back u few free is.now good q m h
        back few free (inr (q, m, h)) = absurd (member-none q m)

        takes : AtEntry t f (place_of t f is.now) u → (u < length t.units) × (is_reserved_unit t u ≡ false)
        takes (inl (q, m, h)) = entry-takes is.now good u q m h
        takes (inr (q, m, h)) = absurd (member-none q m)

    place-exit : Tests (AtExit t f (place_of t f is.now)) (exit_of t x a)
    place-exit u = decides-takes t u (exit_tests t x (unit_number u) is.now) (λ few free. (exit-forth u few free is.now good, λ z. exit-back u few free is.now good z.0 z.1 z.2)) (λ z. exit-takes is.now good u z.0 z.1 z.2)

    pub place-told : (is_solved t x a (place_of t f is.now).variables ≡ true) ↔ Admits t f (place_of t f is.now)
    place-told = admitted t f (place_of t f is.now) (entry_of t x a) (exit_of t x a) (place-entry, place-exit)

  pub exact-of : (i : Instr) (s : Seated t f i) (e : Effect) → effect_of t i ≡ Some e → is_silent e ≡ false → IsExact t f s.block i
  exact-of i s e known counted =
      let mb = slice-member f.blocks s.position s.block s.is_block in
      let mi = slice-member s.block.instrs s.place i s.is_instr in
      let numbers = numbered t f x computed rules last in
      record {
        written = λ u few free. told t f i e known counted (number_in x.lanes) rules numbers s.block mb mi u few free;
        early = λ u few free. early-told t f i e known counted s.block u;
        few = λ u free w. few-numbered t f x computed rules last u (numbered-written t f i e known counted (number_in x.lanes) numbers s.block mb mi u free w);
      }

pub place-law : PlaceLaw
place-law t f x computed rules last is good = place-told t f x computed rules last is (λ i m. let z = good i m in (z.0, exact-of t f x computed rules last i z.0 z.1 z.2 z.3))
