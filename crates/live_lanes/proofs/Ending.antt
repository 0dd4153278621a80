-- A lane is live at the points of a piece up to its end.
use Rattle.std.proofs.Common.{◌≡◌, ◌<◌, ◌≤◌, ℕ, zero, suc, ◌+◌, ◌*◌, Bool, true, false, List, [], ◌∷◌, ◌++◌, ◌⊎◌, refl, sym, ap, ◌∙◌, subst, inl, inr, arith, append_assoc, append-nil}
use Rattle.std.proofs.lemmas.Bool.{leb-true, le-leb}
use Rattle.slot_index.specs.Order.{number_of}
use Rattle.live_lanes.specs.declared.row.PieceEnd.{PieceEnd}
use Rattle.live_lanes.specs.declared.row.PieceEnd.TheVariants as ends
use Rattle.live_lanes.specs.Paths.{Live, reads, moves, passes, next, leaps, goes, phi}
use Rattle.mir_meaning.specs.Paths.{Among, here, there, Step, Code, steps_of, exits_of, Into, use_of, is_present, is_written, Point, Entry, Exit}
use Rattle.live_lanes.specs.Graph.{Causes, is_live, writes_in, IsGrown}
use Rattle.live_lanes.specs.Table.{Numbers, entry_rank, exit_rank, end_rank}
use Rattle.live_lanes.specs.Entered.{Rises, IsNumbered}
use Rattle.live_lanes.specs.Ends.{Counts, IsEnd, reaches}
use Rattle.live_lanes.specs.Ends as counting
use Rattle.live_lanes.specs.Laws.{AllMatched, EndLaw}
use Rattle.live_lanes.proofs.Basics.{among-append, writes-append, writes-one, writes-same, step-into, written-or-not}
use Rattle.live_lanes.proofs.Sound.{back, splits, Splits}
use Rattle.live_lanes.proofs.Complete.{live-marked}
use Rattle.live_lanes.proofs.Grown.{start-law, writing-law}
use Rattle.live_lanes.proofs.Numbered.{among-split, among-cases, among-right, rises-above, rises-across, rises-bounded}
use Rattle.live_lanes.proofs.Basics.{none-among}

-- ranks and ends

reach-true : (slots : Numbers) (e : PieceEnd) (at : ℕ) → 0 < at → at ≤ end_rank slots e → reaches slots e at ≡ true
reach-true slots ends.Never at p h = absurd (omega arith)
reach-true slots (ends.Entry id) at p h = le-leb at (end_rank slots (ends.Entry id)) h
reach-true slots (ends.Exit id) at p h = le-leb at (end_rank slots (ends.Exit id)) h
reach-true slots ends.Last at p h = le-leb at (end_rank slots ends.Last) h

reach-rank : (slots : Numbers) (e : PieceEnd) (at : ℕ) → reaches slots e at ≡ true → at ≤ end_rank slots e
reach-rank slots ends.Never at h = absurd (cc)
reach-rank slots (ends.Entry id) at h = leb-true at (end_rank slots (ends.Entry id)) h
reach-rank slots (ends.Exit id) at h = leb-true at (end_rank slots (ends.Exit id)) h
reach-rank slots ends.Last at h = leb-true at (end_rank slots ends.Last) h

module _ (code : Code) (slots : Numbers) (why : Causes) (matched : AllMatched code) (grown : IsGrown code why) (numbered : IsNumbered code slots) where
  start : (l x : ℕ) → is_live (why l x 0) ≡ true → Live code x (Entry (steps_of code x)) l
  start l x h = (start-law code why matched grown l x).0 h

  among : (b : ℕ) (before : List Step) (s : Step) (rest : List Step) → steps_of code b ≡ before ++ s ∷ rest → Among s (steps_of code b)
  among b before s rest e = subst (Among s) (sym e) (among-append s before rest)

  -- a lane that is moved into is live behind the move, where the piece there is marked
  moved : (l a b : ℕ) (before : List Step) (s : Step) (rest : List Step) → steps_of code b ≡ before ++ s ∷ rest → use_of l s ≡ Into a → is_live (why a b (writes_in a (before ++ s ∷ []))) ≡ true → Live code b (Exit s rest) a
  moved l a b before s rest e u h =
      let z = (matched b s (among b before s rest e)).filled l a u in
      let w : is_written a s ≡ true = ap is_present z.1 in
      (writing-law code why matched grown a b before s rest e w).0 h

  rises : (b : ℕ) (before rest : List Step) → steps_of code b ≡ before ++ rest → Rises slots 0 (before ++ rest)
  rises b before rest e = subst (Rises slots 0) e (numbered b)

  -- an instruction with no smaller number stands at a point or behind it
  abbrev Behind : List Step → List Step → List Step → Step → List Step → Type 0
  Behind before rest before' t rest' = (mid : List Step) × (before' ≡ before ++ mid) × (rest ≡ mid ++ t ∷ rest')

  at-or-behind : (b : ℕ) (before : List Step) (s : Step) (rest before' : List Step) (t : Step) (rest' : List Step) → steps_of code b ≡ before ++ s ∷ rest → steps_of code b ≡ before' ++ t ∷ rest' → number_of slots s.id ≤ number_of slots t.id → Behind before (s ∷ rest) before' t rest'
  at-or-behind b before s rest before' t rest' e f h = go (splits code b 0 before (s ∷ rest) before' (t ∷ rest') (sym e ∙ f))
    where
      go : Splits code b 0 before (s ∷ rest) before' (t ∷ rest') → Behind before (s ∷ rest) before' t rest'
      go (inl z) = (z.0, z.1, z.2)
      go (inr z) =
          let same : t ≡ z.0 = cc in
          let inside : Among t before = subst (Among t) (sym z.2) (subst (λ u. Among t (before' ++ u ∷ z.1)) same (among-append t before' z.1)) in
          let low = rises-across slots 0 before (s ∷ rest) t s (rises b before (s ∷ rest) e) inside here in
          absurd (omega arith)

  behind : (b : ℕ) (before : List Step) (s : Step) (rest before' : List Step) (t : Step) (rest' : List Step) → steps_of code b ≡ before ++ s ∷ rest → steps_of code b ≡ before' ++ t ∷ rest' → number_of slots s.id < number_of slots t.id → Behind (before ++ s ∷ []) rest before' t rest'
  behind b before s rest before' t rest' e f h = go (at-or-behind b before s rest before' t rest' e f (omega arith))
    where
      go : Behind before (s ∷ rest) before' t rest' → Behind (before ++ s ∷ []) rest before' t rest'
      go ([], p, q) = absurd (let same : s ≡ t = cc in let n = ap (λ x. number_of slots x.id) same in omega arith)
      go (u ∷ mid, p, q) =
          let same : s ≡ u = cc in
          let tail : rest ≡ mid ++ t ∷ rest' = cc in
          (mid, p ∙ ap (λ x. before ++ x ∷ mid) (sym same) ∙ sym (append_assoc before (s ∷ []) mid), tail)

  unwritten : (l : ℕ) (t : Step) → writes_in l (t ∷ []) ≡ 0 → is_written l t ≡ false
  unwritten l t h = go (written-or-not l t)
    where
      go : (is_written l t ≡ true) ⊎ (is_written l t ≡ false) → is_written l t ≡ false
      go (inl w) = absurd (let one = writes-one l t w in omega arith)
      go (inr n) = n

  -- where nothing writes the lane up to a later point
  carried : (b l : ℕ) (rest mid : List Step) (t : Step) (rest' : List Step) → rest ≡ mid ++ t ∷ rest' → writes_in l mid ≡ 0 → Live code b (Entry (t ∷ rest')) l → Live code b (Entry rest) l
  carried b l rest mid t rest' e n h = subst (λ ss. Live code b (Entry ss) l) (sym e) (back code b l mid (t ∷ rest') n h)

  ended : (b l : ℕ) (rest : List Step) → writes_in l rest ≡ 0 → Live code b (Entry []) l → Live code b (Entry rest) l
  ended b l rest n h = subst (λ ss. Live code b (Entry ss) l) (append-nil rest) (back code b l rest [] n h)

  -- a point that counts at an entry or behind it makes the lane live there
  entry-live : {l b n : ℕ} {end : PieceEnd} (before : List Step) (s : Step) (rest : List Step) → steps_of code b ≡ before ++ s ∷ rest → writes_in l before ≡ n → Counts code why l b n end → entry_rank slots s.id ≤ end_rank slots end → Live code b (Entry (s ∷ rest)) l
  entry-live {l} {b} {n} before s rest e m (counting.reads before' t rest' f k u) h =
      let z = at-or-behind b before s rest before' t rest' e f (omega arith) in
      let c = ap (writes_in l) z.1 ∙ writes-append l before z.0 in
      carried b l (s ∷ rest) z.0 t rest' z.2 (omega arith) (reads u)
  entry-live {l} {b} {n} before s rest e m (counting.moves a before' t rest' f k u live) h =
      let z = at-or-behind b before s rest before' t rest' e f (omega arith) in
      let c = ap (writes_in l) z.1 ∙ writes-append l before z.0 in
      carried b l (s ∷ rest) z.0 t rest' z.2 (omega arith) (moves u (moved l a b before' t rest' f u live))
  entry-live {l} {b} {n} before s rest e m (counting.leaves x before' t rest' f k g edge live) h =
      let z = at-or-behind b before s rest before' t rest' e f (omega arith) in
      let c = ap (writes_in l) z.1 ∙ writes-append l before z.0 in
      let d = writes-append l before' (t ∷ []) in
      let still = unwritten l t (omega arith) in
      carried b l (s ∷ rest) z.0 t rest' z.2 (omega arith) (passes still (leaps g edge (start l x live)))
  entry-live {l} {b} {n} before s rest e m (counting.goes x k edge live) h =
      let c = ap (writes_in l) e ∙ writes-append l before (s ∷ rest) in
      ended b l (s ∷ rest) (omega arith) (goes edge (start l x live))
  entry-live {l} {b} {n} before s rest e m (counting.phi k a) h =
      let c = ap (writes_in l) e ∙ writes-append l before (s ∷ rest) in
      ended b l (s ∷ rest) (omega arith) (phi a)

  -- the same of an exit
  exit-live : {l b n : ℕ} {end : PieceEnd} (before : List Step) (s : Step) (rest : List Step) → steps_of code b ≡ before ++ s ∷ rest → writes_in l (before ++ s ∷ []) ≡ n → Counts code why l b n end → exit_rank slots s.id ≤ end_rank slots end → Live code b (Exit s rest) l
  exit-live {l} {b} {n} before s rest e m (counting.reads before' t rest' f k u) h =
      let z = behind b before s rest before' t rest' e f (omega arith) in
      let c = ap (writes_in l) z.1 ∙ writes-append l (before ++ s ∷ []) z.0 in
      next (carried b l rest z.0 t rest' z.2 (omega arith) (reads u))
  exit-live {l} {b} {n} before s rest e m (counting.moves a before' t rest' f k u live) h =
      let z = behind b before s rest before' t rest' e f (omega arith) in
      let c = ap (writes_in l) z.1 ∙ writes-append l (before ++ s ∷ []) z.0 in
      next (carried b l rest z.0 t rest' z.2 (omega arith) (moves u (moved l a b before' t rest' f u live)))
  exit-live {l} {b} {n} before s rest e m (counting.leaves x before' t rest' f k g edge live) h = go (at-or-behind b before s rest before' t rest' e f (omega arith))
    where
      go : Behind before (s ∷ rest) before' t rest' → Live code b (Exit s rest) l
      go ([], p, q) =
          let same : t ≡ s = cc in
          leaps (subst (λ y. y.leaves ≡ true) same g) edge (start l x live)
      go (u ∷ mid, p, q) =
          let same : s ≡ u = cc in
          let tail : rest ≡ mid ++ t ∷ rest' = cc in
          let a = ap (writes_in l) (p ∙ ap (λ y. before ++ y ∷ mid) (sym same) ∙ sym (append_assoc before (s ∷ []) mid)) ∙ writes-append l (before ++ s ∷ []) mid in
          let d = writes-append l before' (t ∷ []) in
          let still = unwritten l t (omega arith) in
          next (carried b l rest mid t rest' tail (omega arith) (passes still (leaps g edge (start l x live))))
  exit-live {l} {b} {n} before s rest e m (counting.goes x k edge live) h =
      let c = ap (writes_in l) (step-into (steps_of code b) before s rest e) ∙ writes-append l (before ++ s ∷ []) rest in
      next (ended b l rest (omega arith) (goes edge (start l x live)))
  exit-live {l} {b} {n} before s rest e m (counting.phi k a) h =
      let c = ap (writes_in l) (step-into (steps_of code b) before s rest e) ∙ writes-append l (before ++ s ∷ []) rest in
      next (ended b l rest (omega arith) (phi a))

  -- where a lane is live at a point, one that counts comes at it or behind it in the piece

  abbrev rank_of : List Step → ℕ
  rank_of [] = end_rank slots ends.Last
  rank_of (s ∷ rest) = entry_rank slots s.id

  abbrev Counted : ℕ → ℕ → List Step → Point → Type 0
  Counted b l before (Entry rest) = steps_of code b ≡ before ++ rest → (end : PieceEnd) × Counts code why l b (writes_in l before) end × (rank_of rest ≤ end_rank slots end)
  Counted b l before (Exit s rest) = steps_of code b ≡ before ++ s ∷ rest → (end : PieceEnd) × Counts code why l b (writes_in l (before ++ s ∷ [])) end × (exit_rank slots s.id ≤ end_rank slots end)

  -- the point behind an exit has a greater rank
  rank-behind : (b : ℕ) (before : List Step) (s : Step) (rest : List Step) → steps_of code b ≡ before ++ s ∷ rest → exit_rank slots s.id ≤ rank_of rest
  rank-behind b before s [] e = let h = rises-bounded slots 0 (steps_of code b) s (numbered b) (among b before s [] e) in omega arith
  rank-behind b before s (t ∷ rest) e =
      let h = rises-across slots 0 (before ++ s ∷ []) (t ∷ rest) s t (rises b (before ++ s ∷ []) (t ∷ rest) (step-into (steps_of code b) before s (t ∷ rest) e)) (among-right s before (s ∷ []) here) here in
      omega arith

  at-end : (b l : ℕ) (before : List Step) → steps_of code b ≡ before ++ [] → writes_in l (steps_of code b) ≡ writes_in l before
  at-end b l before e = ap (writes_in l) (e ∙ append-nil before)

  le-same : (n : ℕ) → n ≤ n
  le-same n = omega arith

  pub live-counted : {b : ℕ} {p : Point} {l : ℕ} → Live code b p l → (before : List Step) → Counted b l before p
  live-counted (reads {b = b} {s = s} {rest = rest} {l = l} u) before = λ e. (ends.Entry s.id, counting.reads before s rest e refl u, le-same (entry_rank slots s.id))
  live-counted (moves {b = b} {s = s} {rest = rest} {l = l} {a = a} u h) before = λ e. (ends.Entry s.id, counting.moves a before s rest e refl u (live-marked code why grown.closed h before e), le-same (entry_rank slots s.id))
  live-counted (passes {b = b} {s = s} {rest = rest} {l = l} n h) before = λ e.
      let z = live-counted h before e in
      let r = z.2 in
      (z.0, subst (λ k. Counts code why l b k z.0) (writes-same l before s n) z.1, omega (arith, r))
  live-counted (next {b = b} {s = s} {rest = rest} {l = l} h) before = λ e.
      let z = live-counted h (before ++ s ∷ []) (step-into (steps_of code b) before s rest e) in
      let r = z.2 in
      let q = rank-behind b before s rest e in
      (z.0, z.1, omega (arith, r, q))
  live-counted (leaps {b = b} {x = x} {s = s} {rest = rest} {l = l} g a h) before = λ e. (ends.Exit s.id, counting.leaves x before s rest e refl g a (live-marked code why grown.closed h [] refl), le-same (exit_rank slots s.id))
  live-counted (goes {b = b} {x = x} {l = l} a h) before = λ e. (ends.Last, counting.goes x (at-end b l before e) a (live-marked code why grown.closed h [] refl), le-same (end_rank slots ends.Last))
  live-counted (phi {b = b} {l = l} a) before = λ e. (ends.Last, counting.phi (at-end b l before e) a, le-same (end_rank slots ends.Last))

  -- both ways

  of-end : {l b n : ℕ} {end : PieceEnd} (at : ℕ) → IsEnd code slots why l b n end → reaches slots end at ≡ true → Counts code why l b n end
  of-end {l} {b} {n} {end} at h r = go h.counts
    where
      go : (end ≡ ends.Never) ⊎ Counts code why l b n end → Counts code why l b n end
      go (inl e) = absurd (let f : false ≡ true = ap (λ x. reaches slots x at) (sym e) ∙ r in cc)
      go (inr c) = c

  number-above : (b : ℕ) (before : List Step) (s : Step) (rest : List Step) → steps_of code b ≡ before ++ s ∷ rest → 0 < number_of slots s.id
  number-above b before s rest e = rises-above slots 0 (steps_of code b) s (numbered b) (among b before s rest e)

pub end-law : EndLaw
end-law code slots why matched grown numbered l b before s rest e end = record {
  entry = λ h. (
    (λ r. entry-live code slots why matched grown numbered before s rest e refl (of-end code slots why matched grown numbered (entry_rank slots s.id) h r) (reach-rank slots end (entry_rank slots s.id) r)),
    (λ live.
        let z = live-counted code slots why matched grown numbered live before e in
        let low = z.2 in
        let high = h.last z.0 z.1 in
        let some = number-above code slots why matched grown numbered b before s rest e in
        reach-true slots end (entry_rank slots s.id) (omega (arith, some)) (omega (arith, low, high))),
  );
  exit = λ h. (
    (λ r. exit-live code slots why matched grown numbered before s rest e refl (of-end code slots why matched grown numbered (exit_rank slots s.id) h r) (reach-rank slots end (exit_rank slots s.id) r)),
    (λ live.
        let z = live-counted code slots why matched grown numbered live before e in
        let low = z.2 in
        let high = h.last z.0 z.1 in
        reach-true slots end (exit_rank slots s.id) (omega arith) (omega (arith, low, high))),
  );
}
