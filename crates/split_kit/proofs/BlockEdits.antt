-- The edits of a block, mark by mark, are those along its instructions.
use Rattle.std.proofs.Common.{◌≡◌, ◌≢◌, ◌∷◌, ◌∙◌, ◌+◌, ◌<◌, ◌≤◌, ◌⊎◌, inl, inr, ◌&&◌, not, ℕ, suc, Bool, true, false, cond, List, [], Option, Some, None, map, refl, sym, ap, arith, eq-eqb, eqb-true}
use Rattle.std.specs.Prelude.{filter, nat_eq, nat_le}
use Rattle.std.specs.List.{position_or_len}
use Rattle.std.proofs.lemmas.Bool.{leb-true, le-leb}
use Rattle.std.proofs.lemmas.Option.{same_Some}
use Rattle.slot_index.specs.Order.{number_of}
use Rattle.target_base.specs.Numbers.{op_number}
use Rattle.mir_func.specs.declared.func.Block.{Block}
use Rattle.mir_func.specs.declared.func.Gap.{Gap}
use Rattle.mir_func.specs.declared.func.Instr.{Instr}
use Rattle.mir_func.specs.Value.{Function}
use Rattle.mir_meaning.specs.Points.{touches}
use Rattle.live_lanes.specs.declared.ask.labels.Mark.{Mark}
use Rattle.live_lanes.specs.declared.ask.labels.Spot.{Spot}
use Rattle.live_lanes.specs.declared.ask.labels.Spot.TheVariants.{Gap as AtGap}
use Rattle.live_lanes.specs.Ordered.{AreRising, ids_of}
use Rattle.live_lanes.specs.Table.{Numbers}
use Rattle.edit_laws.specs.Edits.{Edit, Put}
use Rattle.split_kit.specs.Split.{is_border, is_gap, marks_at, part, whole}
use Rattle.split_kit.specs.PartEdits.{IsThinned, none, keeps, drops, copy_edits, gap_of, gaps_from, marks_in, stand_before}

-- lists of which elements are left out

pub thinned-first : {X : Type 0} (x y : X) (xs ys : List X) → IsThinned (x ∷ xs) (y ∷ ys) → ((x ≡ y) × IsThinned xs ys) ⊎ IsThinned xs (y ∷ ys)
thinned-first x y xs ys (keeps t) = inl (refl, t)
thinned-first x y xs ys (drops t) = inr t

pub thinned-none : {X : Type 0} (y : X) (ys : List X) → IsThinned [] (y ∷ ys) → ⊥
thinned-none y ys t = elim t [ ]

pub all-left-out : {X : Type 0} (xs : List X) → IsThinned xs []
all-left-out [] = none
all-left-out (x ∷ xs) = drops (all-left-out xs)

-- marks by what their places are

abbrev pub spots : List Mark → List Spot
spots ms = map (λ m. m.spot) ms

abbrev pub picked : (Spot → Bool) → List Mark → List Mark
picked test ms = filter (λ m. test m.spot) ms

pub marks-picked : (ms : List Mark) (n : ℕ) (test : Spot → Bool) → marks_at ms n test ≡ picked test (marks_in ms n)
marks-picked [] n test = refl
marks-picked (m ∷ ms) n test = go (nat_eq m.block n) (marks-picked ms n test)
  where
    go : (u : Bool) → marks_at ms n test ≡ picked test (marks_in ms n) → cond (u && test m.spot) (m ∷ marks_at ms n test) (marks_at ms n test) ≡ picked test (cond u (m ∷ marks_in ms n) (marks_in ms n))
    go true h = ap (λ xs. cond (test m.spot) (m ∷ xs) xs) h
    go false h = h

pub picked-step : (test : Spot → Bool) (m : Mark) (ms : List Mark) (u : Bool) → test m.spot ≡ u → picked test (m ∷ ms) ≡ cond u (m ∷ picked test ms) (picked test ms)
picked-step test m ms u e = ap (λ w. cond w (m ∷ picked test ms) (picked test ms)) e

pub not-same : (a b : ℕ) → a ≢ b → nat_eq a b ≡ false
not-same a b h = go (nat_eq a b) refl
  where
    go : (u : Bool) → nat_eq a b ≡ u → u ≡ false
    go true e = absurd (h (eqb-true a b e))
    go false e = refl

-- a copy where the label stays is none
pub copy-same : (f : Function) (g : Gap) (l : Bool) (now : ℕ) → copy_edits f g l now now ≡ []
copy-same f g l now = ap (λ u. cond (l && not u) copy []) (eq-eqb now now refl) ∙ go l
  where
    copy : List Edit
    copy = Put g (op_number 0) (whole true (part f now) ∷ whole false (part f now) ∷ []) ∷ []

    go : (u : Bool) → cond (u && false) copy [] ≡ []
    go true = refl
    go false = refl

module _ (b : Block) (slots : Numbers) where
  -- those at gaps

  pub no-borders : (is : List Instr) (gs : List Mark) → IsThinned (gaps_from b is) (spots gs) → picked is_border gs ≡ []
  no-borders is [] t = refl
  no-borders [] (m ∷ gs) t = go (thinned-first (AtGap (gap_of b None)) m.spot [] (spots gs) t)
    where
      rest : (gs : List Mark) → IsThinned [] (spots gs) → picked is_border gs ≡ []
      rest [] t = refl
      rest (m ∷ gs) t = absurd (thinned-none m.spot (spots gs) t)

      go : ((AtGap (gap_of b None) ≡ m.spot) × IsThinned [] (spots gs)) ⊎ IsThinned [] (m.spot ∷ spots gs) → picked is_border (m ∷ gs) ≡ []
      go (inl (e, r)) = picked-step is_border m gs false (ap is_border (sym e)) ∙ rest gs r
      go (inr r) = absurd (thinned-none m.spot (spots gs) r)
  no-borders (i ∷ is) (m ∷ gs) t = go (thinned-first (AtGap (gap_of b (Some i.id))) m.spot (gaps_from b is) (spots gs) t) (no-borders is gs) (no-borders is (m ∷ gs))
    where
      go : ((AtGap (gap_of b (Some i.id)) ≡ m.spot) × IsThinned (gaps_from b is) (spots gs)) ⊎ IsThinned (gaps_from b is) (m.spot ∷ spots gs) → (IsThinned (gaps_from b is) (spots gs) → picked is_border gs ≡ []) → (IsThinned (gaps_from b is) (m.spot ∷ spots gs) → picked is_border (m ∷ gs) ≡ []) → picked is_border (m ∷ gs) ≡ []
      go (inl (e, r)) h k = picked-step is_border m gs false (ap is_border (sym e)) ∙ h r
      go (inr r) h k = k r

  -- none is at the gap before an instruction that stands before these
  pub none-at : (id low : ℕ) → number_of slots id ≤ low → (is : List Instr) (gs : List Mark) → IsThinned (gaps_from b is) (spots gs) → AreRising slots low (ids_of is) → picked (is_gap (Some id)) gs ≡ []
  none-at id low far is [] t r = refl
  none-at id low far [] (m ∷ gs) t r = go (thinned-first (AtGap (gap_of b None)) m.spot [] (spots gs) t)
    where
      rest : (gs : List Mark) → IsThinned [] (spots gs) → picked (is_gap (Some id)) gs ≡ []
      rest [] t = refl
      rest (m ∷ gs) t = absurd (thinned-none m.spot (spots gs) t)

      go : ((AtGap (gap_of b None) ≡ m.spot) × IsThinned [] (spots gs)) ⊎ IsThinned [] (m.spot ∷ spots gs) → picked (is_gap (Some id)) (m ∷ gs) ≡ []
      go (inl (e, r)) = picked-step (is_gap (Some id)) m gs false (ap (is_gap (Some id)) (sym e)) ∙ rest gs r
      go (inr r) = absurd (thinned-none m.spot (spots gs) r)
  none-at id low far (i ∷ is) (m ∷ gs) t r =
      go (thinned-first (AtGap (gap_of b (Some i.id))) m.spot (gaps_from b is) (spots gs) t)
      (λ q. none-at id (number_of slots i.id) (let z = r.0 in omega (arith, far, z)) is gs q r.2) (λ q. none-at id (number_of slots i.id) (let z = r.0 in omega (arith, far, z)) is (m ∷ gs) q r.2)
      (not-same i.id id (λ e. let z : low < number_of slots i.id = r.0 in let y : number_of slots i.id ≡ number_of slots id = ap (number_of slots) e in omega (arith, far, z, y)))
    where
      go : ((AtGap (gap_of b (Some i.id)) ≡ m.spot) × IsThinned (gaps_from b is) (spots gs)) ⊎ IsThinned (gaps_from b is) (m.spot ∷ spots gs) → (IsThinned (gaps_from b is) (spots gs) → picked (is_gap (Some id)) gs ≡ []) → (IsThinned (gaps_from b is) (m.spot ∷ spots gs) → picked (is_gap (Some id)) (m ∷ gs) ≡ []) → nat_eq i.id id ≡ false → picked (is_gap (Some id)) (m ∷ gs) ≡ []
      go (inl (e, q)) h k other = picked-step (is_gap (Some id)) m gs false (ap (is_gap (Some id)) (sym e) ∙ other) ∙ h q
      go (inr q) h k other = k q

  -- the first mark is at a gap at which, or behind which, later instructions stand
  pub record IsBehind (low : ℕ) (s : Spot) : Type 0 where
    pub gap : Gap
    pub at : s ≡ AtGap gap
    pub behind : (id : ℕ) → gap.before ≡ Some id → low < number_of slots id

  pub gap-found : (is : List Instr) (low : ℕ) (s : Spot) (ss : List Spot) → IsThinned (gaps_from b is) (s ∷ ss) → AreRising slots low (ids_of is) → IsBehind low s
  gap-found [] low s ss t r = go (thinned-first (AtGap (gap_of b None)) s [] ss t)
    where
      go : ((AtGap (gap_of b None) ≡ s) × IsThinned [] ss) ⊎ IsThinned [] (s ∷ ss) → IsBehind low s
      go (inl (e, q)) = record { gap = gap_of b None; at = sym e; behind = λ id h. absurd (cc) }
      go (inr q) = absurd (thinned-none s ss q)
  gap-found (i ∷ is) low s ss t r = go (thinned-first (AtGap (gap_of b (Some i.id))) s (gaps_from b is) ss t) (λ q. gap-found is (number_of slots i.id) s ss q r.2)
    where
      further : IsBehind (number_of slots i.id) s → IsBehind low s
      further x = record { gap = x.gap; at = x.at; behind = λ id h. (let z : low < number_of slots i.id = r.0 in let y : number_of slots i.id < number_of slots id = x.behind id h in omega (arith, z, y)) }

      go : ((AtGap (gap_of b (Some i.id)) ≡ s) × IsThinned (gaps_from b is) ss) ⊎ IsThinned (gaps_from b is) (s ∷ ss) → (IsThinned (gaps_from b is) (s ∷ ss) → IsBehind (number_of slots i.id) s) → IsBehind low s
      go (inl (e, q)) h = record { gap = gap_of b (Some i.id); at = sym e; behind = λ id h. (let z : low < number_of slots i.id = r.0 in let y : number_of slots i.id ≡ number_of slots id = ap (number_of slots) (same_Some i.id id h) in omega (arith, z, y)) }
      go (inr q) h = further (h q)

  -- instructions before gaps

  not-below : (a c : ℕ) → a < c → nat_le c a ≡ false
  not-below a c h = go (nat_le c a) refl
    where
      go : (u : Bool) → nat_le c a ≡ u → u ≡ false
      go true e = absurd (let z : c ≤ a = leb-true c a e in omega (arith, h, z))
      go false e = refl

  pub one-more : (id low : ℕ) (ids : List ℕ) (before : Option ℕ) → ((n : ℕ) → before ≡ Some n → number_of slots id < number_of slots n) → stand_before slots before (id ∷ ids) ≡ suc (stand_before slots before ids)
  one-more id low ids None h = refl
  one-more id low ids (Some n) h =
      let p : ℕ → Bool = λ (x : ℕ). nat_le (number_of slots n) (number_of slots x) in
      ap (λ u. cond (not u) (1 + position_or_len p ids) 0) (not-below (number_of slots id) (number_of slots n) (h n refl)) ∙ omega arith

  later-numbers : (v low : ℕ) (is : List Instr) → AreRising slots low (ids_of is) → (id : ℕ) (ids : List ℕ) → ids_of (filter (touches v) is) ≡ id ∷ ids → low < number_of slots id
  later-numbers v low [] r id ids e = absurd (cc)
  later-numbers v low (i ∷ is) r id ids e = go (touches v i) e (later-numbers v (number_of slots i.id) is r.2 id ids)
    where
      first : (x y : ℕ) (xs ys : List ℕ) → ◌≡◌ {A = List ℕ} (x ∷ xs) (y ∷ ys) → x ≡ y
      first x y xs ys h = cc

      go : (u : Bool) → ids_of (cond u (i ∷ filter (touches v) is) (filter (touches v) is)) ≡ id ∷ ids → (ids_of (filter (touches v) is) ≡ id ∷ ids → number_of slots i.id < number_of slots id) → low < number_of slots id
      go true h k = let z : low < number_of slots i.id = r.0 in let y : number_of slots i.id ≡ number_of slots id = ap (number_of slots) (first i.id id (ids_of (filter (touches v) is)) ids h) in omega (arith, z, y)
      go false h k = let z : low < number_of slots i.id = r.0 in let y : number_of slots i.id < number_of slots id = k h in omega (arith, z, y)

  none-before : (n : ℕ) (ids : List ℕ) → ((id : ℕ) (rest : List ℕ) → ids ≡ id ∷ rest → number_of slots n ≤ number_of slots id) → stand_before slots (Some n) ids ≡ 0
  none-before n [] h = refl
  none-before n (id ∷ ids) h =
      let p : ℕ → Bool = λ (x : ℕ). nat_le (number_of slots n) (number_of slots x) in
      ap (λ u. cond (not u) (1 + position_or_len p ids) 0) (le-leb (number_of slots n) (number_of slots id) (h id ids refl))

  pub none-first : (v low : ℕ) (i : Instr) (is : List Instr) → AreRising slots low (ids_of (i ∷ is)) → stand_before slots (Some i.id) (ids_of (filter (touches v) (i ∷ is))) ≡ 0
  none-first v low i is r = none-before i.id (ids_of (filter (touches v) (i ∷ is))) (go (touches v i) refl)
    where
      first : (x y : ℕ) (xs ys : List ℕ) → ◌≡◌ {A = List ℕ} (x ∷ xs) (y ∷ ys) → x ≡ y
      first x y xs ys h = cc

      go : (u : Bool) → touches v i ≡ u → (id : ℕ) (rest : List ℕ) → ids_of (cond u (i ∷ filter (touches v) is) (filter (touches v) is)) ≡ id ∷ rest → number_of slots i.id ≤ number_of slots id
      go true e id rest h = let y : number_of slots i.id ≡ number_of slots id = ap (number_of slots) (first i.id id (ids_of (filter (touches v) is)) rest h) in omega (arith, y)
      go false e id rest h = let y : number_of slots i.id < number_of slots id = later-numbers v (number_of slots i.id) is r.2 id rest h in omega (arith, y)
