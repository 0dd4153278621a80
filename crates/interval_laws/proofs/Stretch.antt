-- The points from a writing or a block's start up to the next writing, and the mark of the last one at which a lane is live.
use Rattle.std.proofs.Common.{◌≡◌, ◌⊎◌, ◌<◌, ◌≤◌, ℕ, zero, suc, ◌+◌, ◌*◌, Bool, true, false, cond, not, List, [], ◌∷◌, ◌++◌, length, inl, inr, refl, sym, ap, ◌∙◌, subst, arith, max, append_assoc}
use Rattle.std.specs.Prelude.{nat_eq, nat_lt, nat_le}
use Rattle.std.proofs.lemmas.Bool.{ne_eqb, eq-eqb, le-leb, lt-leb, le-ltb, lt-ltb, and_left, and_right, and_from, cond-false}
use Rattle.slot_index.specs.Order.{number_of}
use Rattle.mir_func.specs.declared.func.Instr.{Instr}
use Rattle.mir_meaning.specs.Points.{Point, Entry, Exit}
use Rattle.live_lanes.specs.declared.row.PieceEnd.{PieceEnd}
use Rattle.live_lanes.specs.declared.row.PieceEnd.TheVariants as ends
use Rattle.live_lanes.specs.Table.{Numbers, leading, entry_rank, exit_rank, end_rank}
use Rattle.live_lanes.specs.Ordered.{ids_of, AreRising}
use Rattle.live_lanes.specs.Reach.{is_never, reaches}
use Rattle.interval_laws.specs.Segments.{Mark, at_border, at_instr, at_exit, last_live, exit_mark, points_until}
use Rattle.interval_laws.specs.Told.{number_at}

abbrev pub top : ℕ
top = 340282366920938463463374607431768211455

-- the numbers of instructions in their block

module _ (slots : Numbers) where
  -- one behind another has a greater number
  pub number-above : (low : ℕ) (u : List Instr) (i : Instr) (w : List Instr) → AreRising slots low (ids_of (u ++ i ∷ w)) → low < number_of slots i.id
  number-above low [] i w r = r.0
  number-above low (y ∷ u) i w r = let h = number-above (number_of slots y.id) u i w r.2 in let g = r.0 in omega (arith, h, g)

  pub rising-from : (low : ℕ) (u w : List Instr) → AreRising slots low (ids_of (u ++ w)) → (m : ℕ) × AreRising slots m (ids_of w)
  rising-from low [] w r = (low, r)
  rising-from low (y ∷ u) w r = rising-from (number_of slots y.id) u w r.2

  -- as many have their exits before a point of an instruction as stand before it
  pub leading-at : (low at : ℕ) (u : List Instr) (i : Instr) (w : List Instr) → AreRising slots low (ids_of (u ++ i ∷ w)) → entry_rank slots i.id ≤ at → at ≤ exit_rank slots i.id → leading (λ j. nat_lt (exit_rank slots j.id) at) (u ++ i ∷ w) ≡ length u
  leading-at low at [] i w r lo hi = ap (λ b. cond b (suc (leading (λ (j : Instr). nat_lt (exit_rank slots j.id) at) w)) 0) (le-ltb (exit_rank slots i.id) at hi)
  leading-at low at (y ∷ u) i w r lo hi =
      let above = number-above (number_of slots y.id) u i w r.2 in
      ap (λ b. cond b (suc (leading (λ (j : Instr). nat_lt (exit_rank slots j.id) at) (u ++ i ∷ w))) 0) (lt-ltb (exit_rank slots y.id) at (omega (arith, above, lo)))
      ∙ ap suc (leading-at (number_of slots y.id) at u i w r.2 lo hi)

-- the numbers of instructions, the first of which is n, are found by the ranks of their points
abbrev pub Placed : (ℕ → ℕ) → Numbers → ℕ → List Instr → Type 0
Placed number slots n [] = Unit {0}
Placed number slots n (i ∷ w) = (number (entry_rank slots i.id) ≡ n) × (number (exit_rank slots i.id) ≡ n) × Placed number slots (n + 16) w

pub placed : (slots : Numbers) (start low : ℕ) (is u w : List Instr) → AreRising slots low (ids_of is) → is ≡ u ++ w → Placed (number_at slots start is) slots (start + 16 * suc (length u)) w
placed slots start low is u [] r e = tt
placed slots start low is u (i ∷ w) r e =
    let rising = subst (λ xs. AreRising slots low (ids_of xs)) e r in
    let at-entry = leading-at slots low (entry_rank slots i.id) u i w rising (omega arith) (omega arith) in
    let at-exit' = leading-at slots low (exit_rank slots i.id) u i w rising (omega arith) (omega arith) in
    let further = placed slots start low is (u ++ i ∷ []) w r (e ∙ sym (append_assoc u (i ∷ []) w)) in (
      ap (λ xs. start + 16 * suc (leading (λ (j : Instr). nat_lt (exit_rank slots j.id) (entry_rank slots i.id)) xs)) e ∙ ap (λ k. start + 16 * suc k) at-entry,
      ap (λ xs. start + 16 * suc (leading (λ (j : Instr). nat_lt (exit_rank slots j.id) (exit_rank slots i.id)) xs)) e ∙ ap (λ k. start + 16 * suc k) at-exit',
      subst (λ k. Placed (number_at slots start is) slots k w) (one-on start u i) further,
    )
  where
    count-one : (u : List Instr) (i : Instr) → length (u ++ i ∷ []) ≡ suc (length u)
    count-one [] i = refl
    count-one (y ∷ u) i = ap suc (count-one u i)

    one-on : (start : ℕ) (u : List Instr) (i : Instr) → start + 16 * suc (length (u ++ i ∷ [])) ≡ start + 16 * suc (length u) + 16
    one-on start u i = let h = count-one u i in omega (arith, h)

abbrev pub IsMore : List Instr → Type 0
IsMore [] = ⊥
IsMore (i ∷ w) = Unit {0}

-- The end of the k-th stretch among these instructions comes there: the stretch of number 0 begins before them, and each other
-- one with a writing. No end is the exit of the last instruction of a block.
abbrev pub IsAt : (Instr → Bool) → List Instr → ℕ → PieceEnd → Type 0
IsAt writes [] k e = (k ≡ 0) × (e ≡ ends.Last)
IsAt writes (i ∷ w) k e =
    ((k ≡ 0) × (e ≡ ends.Entry i.id))
    ⊎ (((k ≡ cond (writes i) 1 0) × IsMore w × (e ≡ ends.Exit i.id)) ⊎ ((j : ℕ) × (k ≡ cond (writes i) (suc j) j) × IsAt writes w j e))

-- the mark of a point by its rank
abbrev pub mark : ℕ → (ℕ → ℕ) → ℕ → Mark
mark end number at = cond (nat_eq at top) (at_border end) (at_instr (number at))

-- the points from an instruction's exit on
abbrev pub rest_points : (Instr → Bool) → ℕ → ℕ → Instr → List Instr → List (Point × Mark)
rest_points writes end n i w = (Exit i.id, exit_mark end (at_instr n) w) ∷ points_until writes end (n + 16) w

-- up to the next writing the lane is live as far as the end reaches
abbrev pub LiveIn : Numbers → (Point → Bool) → (Instr → Bool) → PieceEnd → List Instr → Type 0
LiveIn slots live writes e [] = Unit {0}
LiveIn slots live writes e (i ∷ w) = (live (Entry i.id) ≡ reaches slots e (entry_rank slots i.id)) × (writes i ≡ false → (live (Exit i.id) ≡ reaches slots e (exit_rank slots i.id)) × LiveIn slots live writes e w)

-- how the end of an extent is written that begins with the instruction whose exit has rank X
abbrev pub written_mark : Numbers → ℕ → (ℕ → ℕ) → PieceEnd → ℕ → Mark
written_mark slots end number e X =
    cond (nat_eq (max (end_rank slots e) X) top) (at_border end) (cond (nat_eq (max (end_rank slots e) X) X) (at_exit (number (max (end_rank slots e) X))) (at_instr (number (max (end_rank slots e) X))))

module _ (slots : Numbers) (live : Point → Bool) (writes : Instr → Bool) (end : ℕ) (number : ℕ → ℕ) (e : PieceEnd) where
  abbrev R : ℕ
  R = end_rank slots e

  reached : (at : ℕ) → is_never e ≡ false → at ≤ R → reaches slots e at ≡ true
  reached at never le = and_from (not (is_never e)) (nat_le at R) (ap not never) (le-leb at R le)

  pub over-end : (at : ℕ) → R < at → reaches slots e at ≡ false
  over-end at lt = and_right (not (is_never e)) (nat_le at R) (lt-leb at R lt)

  pub over-never : is_never e ≡ true → (at : ℕ) → reaches slots e at ≡ false
  over-never never at = and_left (not (is_never e)) (nat_le at R) (ap not never)

  -- where it isn't live any more, nothing changes
  pub dead : (n low : ℕ) (m : Mark) (w : List Instr) → AreRising slots low (ids_of w) → LiveIn slots live writes e w → ((at : ℕ) → low * 2 + 1 < at → reaches slots e at ≡ false) → last_live live m (points_until writes end n w) ≡ m
  dead n low m [] r h over = refl
  dead n low m (i ∷ w) r h over =
      let above = r.0 in
      ap (λ b. last_live live (cond b (at_instr n) m) (cond (writes i) [] ((Exit i.id, exit_mark end (at_instr n) w) ∷ points_until writes end (n + 16) w))) (h.0 ∙ over (entry_rank slots i.id) (omega (arith, above)))
      ∙ go (writes i) refl (λ g. dead (n + 16) (number_of slots i.id) m w r.2 g (λ at lt. over at (omega (arith, lt, above))))
    where
      go : (u : Bool) → writes i ≡ u → (LiveIn slots live writes e w → last_live live m (points_until writes end (n + 16) w) ≡ m) → last_live live m (cond u [] ((Exit i.id, exit_mark end (at_instr n) w) ∷ points_until writes end (n + 16) w)) ≡ m
      go true f ih = refl
      go false f ih =
          let z = h.1 f in
          let above = r.0 in
          ap (λ b. last_live live (cond b (exit_mark end (at_instr n) w) m) (points_until writes end (n + 16) w)) (z.0 ∙ over (exit_rank slots i.id) (omega (arith, above)))
          ∙ ih z.1

  -- the end lies behind what stands before
  pub end-above : (low k : ℕ) (w : List Instr) → low < 18446744073709551616 → AreRising slots low (ids_of w) → IsAt writes w k e → (low * 2 + 1 < R) × (is_never e ≡ false)
  end-above low k [] few r z = let h = ap (end_rank slots) z.1 in (omega (arith, h, few), ap is_never z.1)
  end-above low k (i ∷ w) few r z = go z (λ j y. end-above (number_of slots i.id) j w r.1 r.2 y)
    where
      above : low < number_of slots i.id
      above = r.0

      go : ((k ≡ 0) × (e ≡ ends.Entry i.id)) ⊎ (((k ≡ cond (writes i) 1 0) × IsMore w × (e ≡ ends.Exit i.id)) ⊎ ((j : ℕ) × (k ≡ cond (writes i) (suc j) j) × IsAt writes w j e)) → ((j : ℕ) → IsAt writes w j e → (number_of slots i.id * 2 + 1 < R) × (is_never e ≡ false)) → (low * 2 + 1 < R) × (is_never e ≡ false)
      go (inl y) ih = let h = ap (end_rank slots) y.1 in (omega (arith, h, above), ap is_never y.1)
      go (inr (inl y)) ih = let h = ap (end_rank slots) y.2 in (omega (arith, h, above), ap is_never y.2)
      go (inr (inr y)) ih = let z = ih y.0 y.2 in let h = z.0 in (omega (arith, h, above), z.1)

  -- the mark of the last point at which the lane is live is that of the end
  pub reach : (n low : ℕ) (m : Mark) (w : List Instr) → AreRising slots low (ids_of w) → LiveIn slots live writes e w → Placed number slots n w → IsAt writes w 0 e → (w ≡ [] → m ≡ at_border end) → last_live live m (points_until writes end n w) ≡ mark end number R
  reach n low m [] r h p z border = border refl ∙ sym (ap (mark end number) (ap (end_rank slots) z.1))
  reach n low m (i ∷ w) r h p z border = go z (λ m' g y b. reach (n + 16) (number_of slots i.id) m' w r.2 g p.2 y b)
    where
      few : number_of slots i.id < 18446744073709551616
      few = r.1

      -- the entry is live
      entered : reaches slots e (entry_rank slots i.id) ≡ true → last_live live (at_instr n) (cond (writes i) [] (rest_points writes end n i w)) ≡ mark end number R → last_live live m (points_until writes end n (i ∷ w)) ≡ mark end number R
      entered f g = ap (λ b. last_live live (cond b (at_instr n) m) (cond (writes i) [] (rest_points writes end n i w))) (h.0 ∙ f) ∙ g

      -- nothing is live behind the exit
      left : (at : ℕ) → R ≤ exit_rank slots i.id → number_of slots i.id * 2 + 1 < at → reaches slots e at ≡ false
      left at le lt = over-end at (omega (arith, le, lt))

      plain : nat_eq R top ≡ false → number R ≡ n → at_instr n ≡ mark end number R
      plain f g = ap at_instr (sym g) ∙ sym (cond-false (nat_eq R top) (at_border end) (at_instr (number R)) f)

      more : (x : List Instr) → IsMore x → exit_mark end (at_instr n) x ≡ at_instr n
      more [] y = absurd y
      more (j ∷ x) y = refl

      none-is : (x : List Instr) → x ≡ [] → exit_mark end (at_instr n) x ≡ at_border end
      none-is x y = ap (exit_mark end (at_instr n)) y

      at-entry : e ≡ ends.Entry i.id → last_live live m (points_until writes end n (i ∷ w)) ≡ mark end number R
      at-entry y =
          let rank : R ≡ entry_rank slots i.id = ap (end_rank slots) y in
          entered (reached (entry_rank slots i.id) (ap is_never y) (omega (arith, rank)))
          (by (writes i) refl rank)
        where
          by : (u : Bool) → writes i ≡ u → R ≡ entry_rank slots i.id → last_live live (at_instr n) (cond u [] (rest_points writes end n i w)) ≡ mark end number R
          by true f rank = plain (ne_eqb R top (λ q. omega (arith, rank, q, few))) (ap number rank ∙ p.0)
          by false f rank =
              ap (λ b. last_live live (cond b (exit_mark end (at_instr n) w) (at_instr n)) (points_until writes end (n + 16) w)) ((h.1 f).0 ∙ over-end (exit_rank slots i.id) (omega (arith, rank)))
              ∙ dead (n + 16) (number_of slots i.id) (at_instr n) w r.2 (h.1 f).1 (λ at lt. left at (omega (arith, rank)) lt)
              ∙ plain (ne_eqb R top (λ q. omega (arith, rank, q, few))) (ap number rank ∙ p.0)

      at-exit-of : zero ≡ cond (writes i) 1 0 → IsMore w → e ≡ ends.Exit i.id → last_live live m (points_until writes end n (i ∷ w)) ≡ mark end number R
      at-exit-of k further y =
          let rank : R ≡ exit_rank slots i.id = ap (end_rank slots) y in
          entered (reached (entry_rank slots i.id) (ap is_never y) (omega (arith, rank)))
          (by (writes i) refl k rank)
        where
          by : (u : Bool) → writes i ≡ u → zero ≡ cond u 1 0 → R ≡ exit_rank slots i.id → last_live live (at_instr n) (cond u [] (rest_points writes end n i w)) ≡ mark end number R
          by true f q rank = absurd (omega (arith, q))
          by false f q rank =
              ap (λ b. last_live live (cond b (exit_mark end (at_instr n) w) (at_instr n)) (points_until writes end (n + 16) w)) ((h.1 f).0 ∙ reached (exit_rank slots i.id) (ap is_never y) (omega (arith, rank)))
              ∙ ap (λ a. last_live live a (points_until writes end (n + 16) w)) (more w further)
              ∙ dead (n + 16) (number_of slots i.id) (at_instr n) w r.2 (h.1 f).1 (λ at lt. left at (omega (arith, rank)) lt)
              ∙ plain (ne_eqb R top (λ q. omega (arith, rank, q, few))) (ap number rank ∙ p.1)

      later : (j : ℕ) → zero ≡ cond (writes i) (suc j) j → IsAt writes w j e → ((m' : Mark) → LiveIn slots live writes e w → IsAt writes w 0 e → (w ≡ [] → m' ≡ at_border end) → last_live live m' (points_until writes end (n + 16) w) ≡ mark end number R) → last_live live m (points_until writes end n (i ∷ w)) ≡ mark end number R
      later j k y ih = by (writes i) refl k (end-above (number_of slots i.id) j w few r.2 y)
        where
          by : (u : Bool) → writes i ≡ u → zero ≡ cond u (suc j) j → (number_of slots i.id * 2 + 1 < R) × (is_never e ≡ false) → last_live live m (points_until writes end n (i ∷ w)) ≡ mark end number R
          by true f q up = absurd (omega (arith, q))
          by false f q up =
              let high = up.0 in
              entered (reached (entry_rank slots i.id) up.1 (omega (arith, high)))
              (ap (λ u. last_live live (at_instr n) (cond u [] (rest_points writes end n i w))) f
              ∙ ap (λ b. last_live live (cond b (exit_mark end (at_instr n) w) (at_instr n)) (points_until writes end (n + 16) w)) ((h.1 f).0 ∙ reached (exit_rank slots i.id) up.1 (omega (arith, high)))
              ∙ ih (exit_mark end (at_instr n) w) (h.1 f).1 (subst (λ a. IsAt writes w a e) (sym q) y) (λ x. none-is w x))

      go : ((zero ≡ zero) × (e ≡ ends.Entry i.id)) ⊎ (((zero ≡ cond (writes i) 1 0) × IsMore w × (e ≡ ends.Exit i.id)) ⊎ ((j : ℕ) × (zero ≡ cond (writes i) (suc j) j) × IsAt writes w j e)) → ((m' : Mark) → LiveIn slots live writes e w → IsAt writes w 0 e → (w ≡ [] → m' ≡ at_border end) → last_live live m' (points_until writes end (n + 16) w) ≡ mark end number R) → last_live live m (points_until writes end n (i ∷ w)) ≡ mark end number R
      go (inl y) ih = at-entry y.1
      go (inr (inl y)) ih = at-exit-of y.0 y.1 y.2
      go (inr (inr y)) ih = later y.0 y.1 y.2 ih

  -- where a segment ends that begins with a writing

  module _ (n low : ℕ) (i : Instr) (w : List Instr) (r : AreRising slots low (ids_of (i ∷ w))) (p : Placed number slots n (i ∷ w)) (writing : writes i ≡ true) (own : live (Exit i.id) ≡ reaches slots e (exit_rank slots i.id)) (h : LiveIn slots live writes e w) where
    abbrev X : ℕ
    X = exit_rank slots i.id

    few-number : number_of slots i.id < 18446744073709551616
    few-number = r.1

    exit-more : (x : List Instr) → IsMore x → exit_mark end (at_exit n) x ≡ at_exit n
    exit-more [] y = absurd y
    exit-more (j ∷ x) y = refl

    exit-only : max R X ≡ X → written_mark slots end number e X ≡ at_exit n
    exit-only q =
        ap (λ z. cond (nat_eq z top) (at_border end) (cond (nat_eq z X) (at_exit (number z)) (at_instr (number z)))) q
        ∙ ap (λ b. cond b (at_border end) (cond (nat_eq X X) (at_exit (number X)) (at_instr (number X)))) (ne_eqb X top (λ g. omega (arith, g, few-number)))
        ∙ ap (λ b. cond b (at_exit (number X)) (at_instr (number X))) (eq-eqb X X refl)
        ∙ ap at_exit p.1

    further-on : max R X ≡ R → X < R → written_mark slots end number e X ≡ mark end number R
    further-on q lt =
        ap (λ z. cond (nat_eq z top) (at_border end) (cond (nat_eq z X) (at_exit (number z)) (at_instr (number z)))) q
        ∙ ap (λ b. cond (nat_eq R top) (at_border end) (cond b (at_exit (number R)) (at_instr (number R)))) (ne_eqb R X (λ g. omega (arith, g, lt)))

    abbrev ends-there : Mark
    ends-there = last_live live (at_exit n) ((Exit i.id, exit_mark end (at_exit n) w) ∷ points_until writes end (n + 16) w)

    pub written-end : (e ≡ ends.Never) ⊎ IsAt writes (i ∷ w) 1 e → written_mark slots end number e X ≡ ends-there
    written-end (inl y) =
        let rank : R ≡ 0 = ap (end_rank slots) y in
        let over = over-never (ap is_never y) in
        exit-only (omega (arith, rank))
        ∙ sym (ap (λ b. last_live live (cond b (exit_mark end (at_exit n) w) (at_exit n)) (points_until writes end (n + 16) w)) (own ∙ over X)
        ∙ dead (n + 16) (number_of slots i.id) (at_exit n) w r.2 h (λ at lt. over at))
    written-end (inr (inl y)) = absurd (let z = y.0 in omega (arith, z))
    written-end (inr (inr (inl y))) =
        let rank : R ≡ X = ap (end_rank slots) y.2 in
        exit-only (omega (arith, rank))
        ∙ sym (ap (λ b. last_live live (cond b (exit_mark end (at_exit n) w) (at_exit n)) (points_until writes end (n + 16) w)) (own ∙ reached X (ap is_never y.2) (omega (arith, rank)))
        ∙ ap (λ a. last_live live a (points_until writes end (n + 16) w)) (exit-more w y.1)
        ∙ dead (n + 16) (number_of slots i.id) (at_exit n) w r.2 h (λ at lt. over-end at (omega (arith, rank, lt))))
    written-end (inr (inr (inr y))) =
        let j : y.0 ≡ 0 = let z : 1 ≡ suc y.0 = y.1 ∙ ap (λ u. cond u (suc y.0) y.0) writing in omega (arith, z) in
        let up = end-above (number_of slots i.id) y.0 w few-number r.2 y.2 in
        let high = up.0 in
        further-on (omega (arith, high)) (omega (arith, high))
        ∙ sym (ap (λ b. last_live live (cond b (exit_mark end (at_exit n) w) (at_exit n)) (points_until writes end (n + 16) w)) (own ∙ reached X up.1 (omega (arith, high)))
        ∙ reach (n + 16) (number_of slots i.id) (exit_mark end (at_exit n) w) w r.2 h p.2 (subst (λ a. IsAt writes w a e) j y.2) (λ x. ap (exit_mark end (at_exit n)) x))
