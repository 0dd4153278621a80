-- At the start of each founded piece the lane is live.
use Rattle.std.proofs.Common.{◌≡◌, ◌≤◌, ℕ, zero, suc, ◌+◌, Bool, true, false, cond, List, [], ◌∷◌, ◌++◌, ◌⊎◌, refl, sym, ap, ◌∙◌, subst, inl, inr, arith, append-nil}
use Rattle.live_lanes.specs.Paths.{Live, reads, moves, passes, next, leaps, goes, phi}
use Rattle.mir_meaning.specs.Paths.{Among, Step, Code, steps_of, last_of, exits_of, Use, Certain, Into, use_of, is_written, Point, Entry, Exit}
use Rattle.live_lanes.specs.Graph.{Causes, is_live, writes_in, Founded, by_reading, by_move, by_exit, by_end, by_phi}
use Rattle.live_lanes.proofs.Basics.{writes-append, writes-head, writes-more, writes-same, writes-one, step-into, written-or-not}

module _ (code : Code) (b l : ℕ) where
  -- where nothing writes the lane between two points, and it is live at the later one
  pub back : (mid rest : List Step) → writes_in l mid ≡ 0 → Live code b (Entry rest) l → Live code b (Entry (mid ++ rest)) l
  back [] rest e h = h
  back (s ∷ mid) rest e h = go (written-or-not l s) (λ n. back mid rest n h)
    where
      go : (is_written l s ≡ true) ⊎ (is_written l s ≡ false) → (writes_in l mid ≡ 0 → Live code b (Entry (mid ++ rest)) l) → Live code b (Entry (s ∷ (mid ++ rest))) l
      go (inl w) ih = absurd (let z : cond (is_written l s) (suc (writes_in l mid)) (writes_in l mid) ≡ suc (writes_in l mid) = ap (λ t. cond t (suc (writes_in l mid)) (writes_in l mid)) w in omega arith)
      go (inr n) ih =
          let z : cond (is_written l s) (suc (writes_in l mid)) (writes_in l mid) ≡ writes_in l mid = ap (λ t. cond t (suc (writes_in l mid)) (writes_in l mid)) n in
          passes n (next (ih (omega arith)))

  -- of two ways to split a list, one comes first
  abbrev pub Splits : List Step → List Step → List Step → List Step → Type 0
  Splits xs ys us vs = ((mid : List Step) × (us ≡ xs ++ mid) × (ys ≡ mid ++ vs)) ⊎ ((s : Step) × (mid : List Step) × (xs ≡ us ++ s ∷ mid) × (vs ≡ s ∷ (mid ++ ys)))

  pub splits : (xs ys us vs : List Step) → xs ++ ys ≡ us ++ vs → Splits xs ys us vs
  splits [] ys us vs e = inl (us, refl, e)
  splits (x ∷ xs) ys [] vs e = inr (x, xs, refl, sym e)
  splits (x ∷ xs) ys (u ∷ us) vs e = go (splits xs ys us vs cc)
    where
      same : x ≡ u
      same = cc

      go : Splits xs ys us vs → Splits (x ∷ xs) ys (u ∷ us) vs
      go (inl z) = inl (z.0, ap (λ t. u ∷ t) z.1 ∙ ap (λ t. t ∷ (xs ++ z.0)) (sym same), z.2)
      go (inr z) = inr (z.0, z.1, ap (λ t. x ∷ t) z.2 ∙ ap (λ t. t ∷ (us ++ z.0 ∷ z.1)) same, z.3)

  not-empty : (m : List Step) (x : Step) (mid : List Step) → [] ≡ m ++ x ∷ mid → ⊥
  not-empty [] x mid e = cc
  not-empty (y ∷ m) x mid e = cc

  -- of a list that ends with s, what comes before an instruction writes no more than all before s
  shorter : (us : List Step) (s : Step) (before : List Step) (x : Step) (mid : List Step) → us ++ s ∷ [] ≡ before ++ x ∷ mid → writes_in l before ≤ writes_in l us
  shorter us s before x mid e = go (splits us (s ∷ []) before (x ∷ mid) e)
    where
      inside : (m : List Step) → before ≡ us ++ m → s ∷ [] ≡ m ++ x ∷ mid → writes_in l before ≤ writes_in l us
      inside [] f g = let h = ap (writes_in l) f in let k = writes-append l us [] in omega arith
      inside (y ∷ m) f g = let tail : [] ≡ m ++ x ∷ mid = cc in absurd (not-empty m x mid tail)

      go : Splits us (s ∷ []) before (x ∷ mid) → writes_in l before ≤ writes_in l us
      go (inl z) = inside z.0 z.1 z.2
      go (inr z) = let h = ap (writes_in l) z.2 in let k = writes-append l before (z.0 ∷ z.1) in omega arith

  -- the piece that begins with the block
  first-live : (before rest : List Step) → steps_of code b ≡ before ++ rest → writes_in l before ≡ 0 → Live code b (Entry rest) l → Live code b (Entry (steps_of code b)) l
  first-live before rest e n h = subst (λ ss. Live code b (Entry ss) l) (sym e) (back before rest n h)

  -- a piece that begins with the writing of s: the lane is live at a later point of it
  later-live : (us : List Step) (s : Step) (vs before rest : List Step) → steps_of code b ≡ us ++ s ∷ vs → is_written l s ≡ true → steps_of code b ≡ before ++ rest → writes_in l before ≡ writes_in l (us ++ s ∷ []) → Live code b (Entry rest) l → Live code b (Exit s vs) l
  later-live us s vs before rest eu w eb same h = go (splits (us ++ s ∷ []) vs before rest (sym (step-into (steps_of code b) us s vs eu) ∙ eb))
    where
      go : Splits (us ++ s ∷ []) vs before rest → Live code b (Exit s vs) l
      go (inl z) =
          let count = ap (writes_in l) z.1 ∙ writes-append l (us ++ s ∷ []) z.0 in
          let n : writes_in l z.0 ≡ 0 = omega arith in
          next (subst (λ t. Live code b (Entry t) l) (sym z.2) (back z.0 rest n h))
      go (inr z) = absurd (let short = shorter us s before z.0 z.1 z.2 in let more = writes-more l us s w in omega arith)

-- the lane is live at the start of a founded piece
abbrev LiveStart : Code → ℕ → ℕ → ℕ → Type 0
LiveStart code l b n =
    (n ≡ 0 → Live code b (Entry (steps_of code b)) l)
    × ((us : List Step) (s : Step) (vs : List Step) → steps_of code b ≡ us ++ s ∷ vs → is_written l s ≡ true → n ≡ writes_in l (us ++ s ∷ []) → Live code b (Exit s vs) l)

-- where the lane is live at a point, it is at the start of the piece there
start-live : (code : Code) (b l : ℕ) (before rest : List Step) → steps_of code b ≡ before ++ rest → Live code b (Entry rest) l → LiveStart code l b (writes_in l before)
start-live code b l before rest e h = (
  (λ n. first-live code b l before rest e n h),
  (λ us s vs eu w n. later-live code b l us s vs before rest eu w e n h),
)

-- the same behind an instruction
exit-live : (code : Code) (b l : ℕ) (before : List Step) (s : Step) (rest : List Step) → steps_of code b ≡ before ++ s ∷ rest → Live code b (Exit s rest) l → LiveStart code l b (writes_in l (before ++ s ∷ []))
exit-live code b l before s rest e h = go (written-or-not l s)
  where
    unwritten : is_written l s ≡ false → LiveStart code l b (writes_in l (before ++ s ∷ []))
    unwritten n = subst (LiveStart code l b) (sym (writes-same l before s n)) (start-live code b l before (s ∷ rest) e (passes n h))

    same : is_written l s ≡ true → (us : List Step) (s' : Step) (vs : List Step) → steps_of code b ≡ us ++ s' ∷ vs → is_written l s' ≡ true → writes_in l (before ++ s ∷ []) ≡ writes_in l (us ++ s' ∷ []) → Live code b (Exit s' vs) l
    same w us s' vs eu w' n = at (splits code b l us (s' ∷ vs) before (s ∷ rest) (sym eu ∙ e))
      where
        in_front : (m : List Step) → before ≡ us ++ m → s' ∷ vs ≡ m ++ s ∷ rest → Live code b (Exit s' vs) l
        in_front [] f g =
            let one : s ≡ s' = cc in
            let two : rest ≡ vs = cc in
            subst (λ t. Live code b (Exit t vs) l) one (subst (λ t. Live code b (Exit s t) l) two h)
        in_front (y ∷ m) f g =
            let one : y ≡ s' = cc in
            let count = ap (writes_in l) f ∙ writes-append l us (y ∷ m) in
            let more = writes-head l y m (subst (λ t. is_written l t ≡ true) (sym one) w') in
            let p = writes-more l before s w in
            let q = writes-more l us s' w' in
            absurd (omega arith)

        at : Splits code b l us (s' ∷ vs) before (s ∷ rest) → Live code b (Exit s' vs) l
        at (inl z) = in_front z.0 z.1 z.2
        at (inr z) =
            let one : z.0 ≡ s = cc in
            let count = ap (writes_in l) z.2 ∙ writes-append l before (z.0 ∷ z.1) in
            let more = writes-head l z.0 z.1 (subst (λ t. is_written l t ≡ true) (sym one) w) in
            let p = writes-more l before s w in
            let q = writes-more l us s' w' in
            absurd (omega arith)

    go : (is_written l s ≡ true) ⊎ (is_written l s ≡ false) → LiveStart code l b (writes_in l (before ++ s ∷ []))
    go (inl w) = ((λ n. absurd (let p = writes-more l before s w in omega arith)), same w)
    go (inr n) = unwritten n

pub founded-live : (code : Code) (why : Causes) {l b n : ℕ} → Founded code why l b n → LiveStart code l b n
founded-live code why (by_reading {l = l} {b = b} before s rest e c u) = start-live code b l before (s ∷ rest) e (reads u)
founded-live code why (by_move {l = l} {a = a} {b = b} before s rest e c u w f) =
    let z = founded-live code why f in
    start-live code b l before (s ∷ rest) e (moves u (z.1 before s rest e w refl))
founded-live code why (by_exit {l = l} {b = b} {x = x} before s rest e c t a f) =
    let z = founded-live code why f in
    exit-live code b l before s rest e (leaps t a (z.0 refl))
founded-live code why (by_end {l = l} {b = b} {x = x} c a f) =
    let z = founded-live code why f in
    start-live code b l (steps_of code b) [] (sym (append-nil (steps_of code b))) (goes a (z.0 refl))
founded-live code why (by_phi {l = l} {b = b} c a) = start-live code b l (steps_of code b) [] (sym (append-nil (steps_of code b))) (phi a)
