-- The pieces of a lane in a block, by their extents, are its segments there.
use Rattle.std.proofs.Common.{◌≡◌, ◌⊎◌, ◌<◌, ◌≤◌, ℕ, suc, ◌+◌, ◌*◌, Bool, true, false, cond, List, [], ◌∷◌, ◌++◌, length, map, Option, None, Some, inl, inr, refl, sym, ap, ◌∙◌, subst, arith, append_assoc}
use Rattle.std.specs.Prelude.{nat_eq, slice_get}
use Rattle.std.proofs.lemmas.Bool.{ne_eqb, eq-eqb}
use Rattle.slot_index.specs.Order.{number_of}
use Rattle.mir_func.specs.declared.func.Instr.{Instr}
use Rattle.mir_meaning.specs.declared.writing.LaneDef.{LaneDef}
use Rattle.mir_meaning.specs.Points.{Point, Entry, Exit}
use Rattle.mir_meaning.specs.Paths.{Step, Code, steps_of, writing_of, is_present, is_written}
use Rattle.live_laws.specs.Effects.Coded.{is_early}
use Rattle.live_lanes.specs.declared.row.PieceEnd.{PieceEnd}
use Rattle.live_lanes.specs.declared.row.PieceEnd.TheVariants as ends
use Rattle.live_lanes.specs.Graph.{Causes, writes_in}
use Rattle.live_lanes.specs.Table.{Numbers, Begun, Seen, entry_rank, exit_rank, end_rank, end_in, begun_end}
use Rattle.live_lanes.specs.Entered.{Start as Beginning, start_of, starts, readings_until}
use Rattle.live_lanes.specs.Ends.{Counts, reads, moves, leaves, goes, phi, IsEnd}
use Rattle.live_lanes.specs.Ordered.{ids_of, AreRising}
use Rattle.live_lanes.specs.Reach.{is_never, reaches}
use Rattle.point_laws.proofs.Pieces.{from_start, from_writing}
use Rattle.interval_laws.specs.Segments.{Mark, at_border, at_instr, at_early, at_exit, Segment, last_live, exit_mark, points_until, written_segment, written_segments}
use Rattle.interval_laws.specs.Told.{number_at, extent_segment, first_mark, last_mark}
use Rattle.interval_laws.proofs.Stretch.{rising-from, placed, Placed, IsMore, IsAt, LiveIn, reach, written_mark, written-end}

first-of : (a b : Step) (xs ys : List Step) → a ∷ xs ≡ b ∷ ys → a ≡ b
first-of a b xs ys e = cc

rest-of : (a b : Step) (xs ys : List Step) → a ∷ xs ≡ b ∷ ys → xs ≡ ys
rest-of a b xs ys e = cc

not-none : (before : List Step) (s : Step) (rest : List Step) → [] ≡ before ++ s ∷ rest → ⊥
not-none [] s rest e = cc
not-none (y ∷ before) s rest e = cc

module _ (l : ℕ) (step : Instr → Step) (named : (i : Instr) → (step i).id ≡ i.id) where
  abbrev pub writes : Instr → Bool
  writes i = is_written l (step i)

  abbrev pub early : Instr → Bool
  early i = is_early l (step i)

  -- where a point that counts lies

  entry-at : (w : List Instr) (before : List Step) (s : Step) (rest : List Step) → map step w ≡ before ++ s ∷ rest → IsAt writes w (writes_in l before) (ends.Entry s.id)
  entry-at [] before s rest e = absurd (not-none before s rest e)
  entry-at (i ∷ w) [] s rest e = inl (refl, ap (λ (x : Step). ends.Entry x.id) (sym (first-of (step i) s (map step w) rest e)) ∙ ap ends.Entry (named i))
  entry-at (i ∷ w) (y ∷ before) s rest e =
      inr (inr (writes_in l before, ap (λ x. cond (is_written l x) (suc (writes_in l before)) (writes_in l before)) (sym (first-of (step i) y (map step w) (before ++ s ∷ rest) e)), entry-at w before s rest (rest-of (step i) y (map step w) (before ++ s ∷ rest) e)))

  exit-at : (w : List Instr) (before : List Step) (s r : Step) (rest : List Step) → map step w ≡ before ++ s ∷ r ∷ rest → IsAt writes w (writes_in l (before ++ s ∷ [])) (ends.Exit s.id)
  exit-at [] before s r rest e = absurd (not-none before s (r ∷ rest) e)
  exit-at (i ∷ w) [] s r rest e =
      inr (inl (ap (λ x. cond (is_written l x) 1 0) (sym (first-of (step i) s (map step w) (r ∷ rest) e)), more w (rest-of (step i) s (map step w) (r ∷ rest) e), ap (λ (x : Step). ends.Exit x.id) (sym (first-of (step i) s (map step w) (r ∷ rest) e)) ∙ ap ends.Exit (named i)))
    where
      more : (x : List Instr) → map step x ≡ r ∷ rest → IsMore x
      more [] f = absurd (cc)
      more (j ∷ x) f = tt
  exit-at (i ∷ w) (y ∷ before) s r rest e =
      inr (inr (writes_in l (before ++ s ∷ []), ap (λ x. cond (is_written l x) (suc (writes_in l (before ++ s ∷ []))) (writes_in l (before ++ s ∷ []))) (sym (first-of (step i) y (map step w) (before ++ s ∷ r ∷ rest) e)), exit-at w before s r rest (rest-of (step i) y (map step w) (before ++ s ∷ r ∷ rest) e)))

  last-at : (w : List Instr) → IsAt writes w (writes_in l (map step w)) ends.Last
  last-at [] = (refl, refl)
  last-at (i ∷ w) = inr (inr (writes_in l (map step w), refl, last-at w))

  -- an end behind a writing lies among the instructions that follow
  past : (u w : List Instr) (k : ℕ) (e : PieceEnd) → IsAt writes (u ++ w) (writes_in l (map step u) + suc k) e → IsAt writes w (suc k) e
  past [] w k e z = subst (λ n. IsAt writes w n e) (let q : 0 + suc k ≡ suc k = omega arith in q) z
  past (y ∷ u) w k e z = go (writes y) refl z (past u w k e)
    where
      go : (b : Bool) → writes y ≡ b
          → ((cond b (suc (writes_in l (map step u))) (writes_in l (map step u)) + suc k ≡ 0) × (e ≡ ends.Entry y.id)) ⊎ (((cond b (suc (writes_in l (map step u))) (writes_in l (map step u)) + suc k ≡ cond b 1 0) × IsMore (u ++ w) × (e ≡ ends.Exit y.id)) ⊎ ((j : ℕ) × (cond b (suc (writes_in l (map step u))) (writes_in l (map step u)) + suc k ≡ cond b (suc j) j) × IsAt writes (u ++ w) j e))
          → (IsAt writes (u ++ w) (writes_in l (map step u) + suc k) e → IsAt writes w (suc k) e)
          → IsAt writes w (suc k) e
      go b f (inl h) ih = absurd (let q = h.0 in omega (arith, q))
      go true f (inr (inl h)) ih = absurd (let q = h.0 in omega (arith, q))
      go false f (inr (inl h)) ih = absurd (let q = h.0 in omega (arith, q))
      go true f (inr (inr h)) ih = ih (subst (λ n. IsAt writes (u ++ w) n e) (let q = h.1 in let same : h.0 ≡ writes_in l (map step u) + suc k = omega (arith, q) in same) h.2)
      go false f (inr (inr h)) ih = ih (subst (λ n. IsAt writes (u ++ w) n e) (sym h.1) h.2)

  count-more : (u : List Instr) (i : Instr) → writes_in l (map step (u ++ i ∷ [])) ≡ cond (writes i) (suc (writes_in l (map step u))) (writes_in l (map step u))
  count-more [] i = refl
  count-more (y ∷ u) i = go (writes y) (writes i) (count-more u i)
    where
      go : (a b : Bool) → writes_in l (map step (u ++ i ∷ [])) ≡ cond b (suc (writes_in l (map step u))) (writes_in l (map step u))
          → cond a (suc (writes_in l (map step (u ++ i ∷ [])))) (writes_in l (map step (u ++ i ∷ []))) ≡ cond b (suc (cond a (suc (writes_in l (map step u))) (writes_in l (map step u)))) (cond a (suc (writes_in l (map step u))) (writes_in l (map step u)))
      go true true ih = ap suc ih
      go true false ih = ap suc ih
      go false true ih = ih
      go false false ih = ih

  module _ (code : Code) (slots : Numbers) (why : Causes) (p : ℕ) (is : List Instr) (steps : steps_of code p ≡ map step is) (rising : AreRising slots 0 (ids_of is)) where
    number-few : (s : Step) (before rest : List Step) → map step is ≡ before ++ s ∷ rest → number_of slots s.id < 18446744073709551616
    number-few s before rest e = go is before 0 rising e
      where
        go : (w : List Instr) (before : List Step) (low : ℕ) → AreRising slots low (ids_of w) → map step w ≡ before ++ s ∷ rest → number_of slots s.id < 18446744073709551616
        go [] before low r f = absurd (not-none before s rest f)
        go (i ∷ w) [] low r f = subst (λ n. number_of slots n < 18446744073709551616) (sym (named i) ∙ ap (λ (x : Step). x.id) (first-of (step i) s (map step w) rest f)) r.1
        go (i ∷ w) (y ∷ before) low r f = go w before (number_of slots i.id) r.2 (rest-of (step i) y (map step w) (before ++ s ∷ rest) f)

    -- the end of a piece comes at one of its points
    end-at : (k : ℕ) (e : PieceEnd) → IsEnd code slots why l p k e → (e ≡ ends.Never) ⊎ IsAt writes is k e
    end-at k e end = go end.counts
      where
        at-last : writes_in l (steps_of code p) ≡ k → IsAt writes is k ends.Last
        at-last piece = subst (λ n. IsAt writes is n ends.Last) (ap (writes_in l) (sym steps) ∙ piece) (last-at is)

        counted : (d : PieceEnd) → ((q : PieceEnd) → Counts code why l p k q → end_rank slots q ≤ end_rank slots d) → Counts code why l p k d → IsAt writes is k d
        counted d most (reads before s rest split piece used) = subst (λ n. IsAt writes is n (ends.Entry s.id)) piece (entry-at is before s rest (sym steps ∙ split))
        counted d most (moves a before s rest split piece used living) = subst (λ n. IsAt writes is n (ends.Entry s.id)) piece (entry-at is before s rest (sym steps ∙ split))
        counted d most (leaves x before s [] split piece out a living) =
            absurd (let most-last = most ends.Last (goes x (ap (writes_in l) split ∙ piece) a living) in let few = number-few s before [] (sym steps ∙ split) in omega (arith, most-last, few))
        counted d most (leaves x before s (r ∷ rest) split piece out a living) = subst (λ n. IsAt writes is n (ends.Exit s.id)) piece (exit-at is before s r rest (sym steps ∙ split))
        counted d most (goes x piece a living) = at-last piece
        counted d most (phi piece a) = at-last piece

        go : (e ≡ ends.Never) ⊎ Counts code why l p k e → (e ≡ ends.Never) ⊎ IsAt writes is k e
        go (inl z) = inl z
        go (inr c) = inr (counted e end.last c)

    module _ (v : Seen) (are : map start_of v.segments ≡ starts l (map step is)) (ended : (k : ℕ) → IsEnd code slots why l p k (end_in v k)) (live : Point → Bool)
        (live-entry : (u : List Instr) (i : Instr) (w : List Instr) → is ≡ u ++ i ∷ w → live (Entry i.id) ≡ reaches slots (end_in v (writes_in l (map step u))) (entry_rank slots i.id))
        (live-exit : (u : List Instr) (i : Instr) (w : List Instr) → is ≡ u ++ i ∷ w → live (Exit i.id) ≡ reaches slots (end_in v (writes_in l (map step (u ++ i ∷ [])))) (exit_rank slots i.id))
        (start end : ℕ) where
      one-further : (u : List Instr) (i : Instr) (w : List Instr) → is ≡ u ++ i ∷ w → is ≡ (u ++ i ∷ []) ++ w
      one-further u i w e = e ∙ sym (append_assoc u (i ∷ []) w)

      -- the lane is live as far as the piece reaches
      stretch : (u w : List Instr) → is ≡ u ++ w → (k : ℕ) → writes_in l (map step u) ≡ k → LiveIn slots live writes (end_in v k) w
      stretch u [] e k same = tt
      stretch u (i ∷ w) e k same = (
        live-entry u i w e ∙ ap (λ n. reaches slots (end_in v n) (entry_rank slots i.id)) same,
        λ f.
            let kept : writes_in l (map step (u ++ i ∷ [])) ≡ k = count-more u i ∙ ap (λ b. cond b (suc (writes_in l (map step u))) (writes_in l (map step u))) f ∙ same in
            (live-exit u i w e ∙ ap (λ n. reaches slots (end_in v n) (exit_rank slots i.id)) kept, stretch (u ++ i ∷ []) w (one-further u i w e) k kept),
      )

      abbrev segment-of : Begun → Segment
      segment-of s = extent_segment slots start end is (from_writing s)

      abbrev number : ℕ → ℕ
      number = number_at slots start is

      abbrev at : List Instr → ℕ
      at u = start + 16 * suc (length u)

      same-end : (s : Begun) (k : ℕ) → slice_get v.segments k ≡ Some s → end_in v (suc k) ≡ s.end
      same-end s k e = ap begun_end e

      -- the segment of a piece that begins with a writing
      module _ (u : List Instr) (i : Instr) (w : List Instr) (s : Begun) (e : is ≡ u ++ i ∷ w) (writing : writes i ≡ true) (begins : s.start ≡ i.id) (is-early : s.early ≡ early i) (there : slice_get v.segments (writes_in l (map step u)) ≡ Some s) where
        abbrev k : ℕ
        k = writes_in l (map step u)

        marks : {a b : Mark} {c d : Mark} → a ≡ b → c ≡ d → ◌≡◌ {A = Segment} (a, c) (b, d)
        marks {a} {b} {c} {d} f g = ap (λ (x : Mark). (x, c)) f ∙ ap (λ (x : Mark). (b, x)) g

        places : Placed number slots (at u) (i ∷ w)
        places = placed slots start 0 is u (i ∷ w) rising e

        from : (m : ℕ) × AreRising slots m (ids_of (i ∷ w))
        from = rising-from slots 0 u (i ∷ w) (subst (λ xs. AreRising slots 0 (ids_of xs)) e rising)

        first-by : (b : Bool) → cond (nat_eq (cond b (entry_rank slots i.id) (exit_rank slots i.id)) (entry_rank slots i.id)) (at_early (number (cond b (entry_rank slots i.id) (exit_rank slots i.id)))) (at_instr (number (cond b (entry_rank slots i.id) (exit_rank slots i.id)))) ≡ cond b (at_early (at u)) (at_instr (at u))
        first-by true = ap (λ q. cond q (at_early (number (entry_rank slots i.id))) (at_instr (number (entry_rank slots i.id)))) (eq-eqb (entry_rank slots i.id) (entry_rank slots i.id) refl) ∙ ap at_early places.0
        first-by false = ap (λ q. cond q (at_early (number (exit_rank slots i.id))) (at_instr (number (exit_rank slots i.id)))) (ne_eqb (exit_rank slots i.id) (entry_rank slots i.id) (λ q. omega (arith, q))) ∙ ap at_instr places.1

        first-is : first_mark slots start is (from_writing s) ≡ cond (early i) (at_early (at u)) (at_instr (at u))
        first-is =
            ap (λ (id : ℕ). cond (nat_eq (cond s.early (entry_rank slots id) (exit_rank slots id)) (entry_rank slots id)) (at_early (number (cond s.early (entry_rank slots id) (exit_rank slots id)))) (at_instr (number (cond s.early (entry_rank slots id) (exit_rank slots id))))) begins
            ∙ first-by s.early
            ∙ ap (λ b. cond b (at_early (at u)) (at_instr (at u))) is-early

        counted : writes_in l (map step (u ++ i ∷ [])) ≡ suc k
        counted = count-more u i ∙ ap (λ b. cond b (suc k) k) writing

        own : live (Exit i.id) ≡ reaches slots s.end (exit_rank slots i.id)
        own = live-exit u i w e ∙ ap (λ n. reaches slots (end_in v n) (exit_rank slots i.id)) counted ∙ ap (λ x. reaches slots x (exit_rank slots i.id)) (same-end s k there)

        behind : LiveIn slots live writes s.end w
        behind = subst (λ x. LiveIn slots live writes x w) (same-end s k there) (stretch (u ++ i ∷ []) w (one-further u i w e) (suc k) counted)

        ends-at : (s.end ≡ ends.Never) ⊎ IsAt writes (i ∷ w) 1 s.end
        ends-at = go (subst (λ x. (x ≡ ends.Never) ⊎ IsAt writes is (suc k) x) (same-end s k there) (end-at (suc k) (end_in v (suc k)) (ended (suc k))))
          where
            go : (s.end ≡ ends.Never) ⊎ IsAt writes is (suc k) s.end → (s.end ≡ ends.Never) ⊎ IsAt writes (i ∷ w) 1 s.end
            go (inl z) = inl z
            go (inr z) = inr (past u (i ∷ w) 0 s.end (subst (λ xs. IsAt writes xs (k + 1) s.end) e (subst (λ n. IsAt writes is n s.end) (let q : suc k ≡ k + 1 = omega arith in q) z)))

        last-is : last_mark slots start end is (from_writing s) ≡ last_live live (at_exit (at u)) ((Exit i.id, exit_mark end (at_exit (at u)) w) ∷ points_until writes end (at u + 16) w)
        last-is =
            ap (λ (id : ℕ). written_mark slots end number s.end (exit_rank slots id)) begins
            ∙ written-end slots live writes end number s.end (at u) from.0 i w from.1 places writing own behind ends-at

        written : segment-of s ≡ written_segment live writes (early i) end (at u) i w
        written = marks first-is last-is

      -- those of all pieces that begin with writings
      all-written : (u w : List Instr) (ss : List Begun) → is ≡ u ++ w → map start_of ss ≡ starts l (map step w) → ((j : ℕ) → slice_get ss j ≡ slice_get v.segments (writes_in l (map step u) + j)) → map segment-of ss ≡ written_segments live writes early end (at u) w
      all-written u [] [] e begins there = refl
      all-written u [] (s ∷ ss) e begins there = absurd (cc)
      all-written u (i ∷ w) ss e begins there = go (writing_of l (step i).writes) refl ss begins there (λ xs g h. all-written (u ++ i ∷ []) w xs (one-further u i w e) g h)
        where
          length-one : (u : List Instr) → length (u ++ i ∷ []) ≡ suc (length u)
          length-one [] = refl
          length-one (y ∷ u) = ap suc (length-one u)

          next-number : at (u ++ i ∷ []) ≡ at u + 16
          next-number = let h = length-one u in omega (arith, h)

          head-is : {a b : Beginning} {xs ys : List Beginning} → a ∷ xs ≡ b ∷ ys → a ≡ b
          head-is h = cc

          tail-is : {a b : Beginning} {xs ys : List Beginning} → a ∷ xs ≡ b ∷ ys → xs ≡ ys
          tail-is h = cc

          go : (o : Option LaneDef) → writing_of l (step i).writes ≡ o → (ss : List Begun) → map start_of ss ≡ elim o [ None ↦ starts l (map step w) | Some x ↦ record { start = (step i).id; early = x.early; from = x.from; readings = readings_until l (map step w) } ∷ starts l (map step w) ] → ((j : ℕ) → slice_get ss j ≡ slice_get v.segments (writes_in l (map step u) + j))
              → ((xs : List Begun) → map start_of xs ≡ starts l (map step w) → ((j : ℕ) → slice_get xs j ≡ slice_get v.segments (writes_in l (map step (u ++ i ∷ [])) + j)) → map segment-of xs ≡ written_segments live writes early end (at (u ++ i ∷ [])) w)
              → map segment-of ss ≡ written_segments live writes early end (at u) (i ∷ w)
          go None f ss begins there ih =
              let quiet : writes i ≡ false = ap (λ (o : Option LaneDef). is_present o) f in
              let kept : writes_in l (map step (u ++ i ∷ [])) ≡ writes_in l (map step u) = count-more u i ∙ ap (λ b. cond b (suc (writes_in l (map step u))) (writes_in l (map step u))) quiet in
              ih ss begins (λ j. there j ∙ ap (λ n. slice_get v.segments (n + j)) (sym kept))
              ∙ ap (λ n. written_segments live writes early end n w) next-number
              ∙ sym (ap (λ b. cond b (written_segment live writes (early i) end (at u) i w ∷ []) [] ++ written_segments live writes early end (at u + 16) w) quiet)
          go (Some x) f [] begins there ih = absurd (cc)
          go (Some x) f (s ∷ ss) begins there ih =
              let writing : writes i ≡ true = ap (λ (o : Option LaneDef). is_present o) f in
              let counted : writes_in l (map step (u ++ i ∷ [])) ≡ suc (writes_in l (map step u)) = count-more u i ∙ ap (λ b. cond b (suc (writes_in l (map step u))) (writes_in l (map step u))) writing in
              let first : start_of s ≡ record { start = (step i).id; early = x.early; from = x.from; readings = readings_until l (map step w) } = head-is begins in
              let is-early : early i ≡ x.early = ap (λ (o : Option LaneDef). elim o [ None ↦ false | Some y ↦ y.early ]) f in
              let zero-on : writes_in l (map step u) ≡ writes_in l (map step u) + 0 = omega arith in
              ap (λ y. y ∷ map segment-of ss) (written u i w s e writing (ap (λ (b : Beginning). b.start) first ∙ named i) (ap (λ (b : Beginning). b.early) first ∙ sym is-early) (ap (slice_get v.segments) zero-on ∙ sym (there 0)))
              ∙ ap (λ ys. written_segment live writes (early i) end (at u) i w ∷ ys) (ih ss (tail-is begins) (λ j. there (suc j) ∙ (let one-on : writes_in l (map step u) + suc j ≡ writes_in l (map step (u ++ i ∷ [])) + j = omega (arith, counted) in ap (slice_get v.segments) one-on)) ∙ ap (λ n. written_segments live writes early end n w) next-number)
              ∙ sym (ap (λ b. cond b (written_segment live writes (early i) end (at u) i w ∷ []) [] ++ written_segments live writes early end (at u + 16) w) writing)

      pub written-all : map segment-of v.segments ≡ written_segments live writes early end (start + 16) is
      written-all =
          all-written [] is v.segments refl are (λ j. let z : j ≡ 0 + j = omega arith in ap (slice_get v.segments) z)
          ∙ (let z : start + 16 * suc 0 ≡ start + 16 = omega arith in ap (λ n. written_segments live writes early end n is) z)

      -- the segment of the piece that begins with the block
      pub started : is_never v.end ≡ false → extent_segment slots start end is (from_start v.end) ≡ (at_border start, last_live live (at_border end) (points_until writes end (start + 16) is))
      started never = ap (λ (m : Mark). (at_border start, m)) (sym (reach slots live writes end number v.end (start + 16) 0 (at_border end) is rising (stretch [] is refl 0 refl) (subst (λ n. Placed number slots n is) (let z : start + 16 * suc 0 ≡ start + 16 = omega arith in z) (placed slots start 0 is [] is rising refl)) (go (end-at 0 v.end (ended 0))) (λ f. refl)))
        where
          go : (v.end ≡ ends.Never) ⊎ IsAt writes is 0 v.end → IsAt writes is 0 v.end
          go (inl z) = absurd (let h : true ≡ false = sym (ap is_never z) ∙ never in cc)
          go (inr z) = z
