-- Which piece of a lane a point lies in, by the numbers of instructions.
use Rattle.std.proofs.Common.{◌≡◌, ◌<◌, ◌≤◌, ℕ, suc, Bool, true, false, cond, ◌&&◌, leb, ltb, List, [], ◌∷◌, ◌++◌, ◌⊎◌, Option, None, Some, refl, sym, ap, ◌∙◌, subst, inl, inr, arith, map, append_assoc, append-nil}
use Rattle.std.proofs.lemmas.Bool.{ltb-true, le-leb, lt-ltb, lt-leb}
use Rattle.slot_index.specs.Order.{number_of}
use Rattle.mir_meaning.specs.declared.writing.LaneDef.{LaneDef}
use Rattle.mir_meaning.specs.Paths.{Among, here, there, Step, Code, steps_of, writing_of, is_present}
use Rattle.live_lanes.specs.Graph.{writes_in}
use Rattle.live_lanes.specs.Table.{Numbers, entry_rank, exit_rank, leading, Begun, rises_from, piece_at}
use Rattle.live_lanes.specs.Entered.{Start, start_of, starts, readings_until, Rises, IsNumbered}
use Rattle.live_lanes.proofs.Basics.{none-among}
use Rattle.live_lanes.proofs.Cells.{both, both-left, both-right}
use Rattle.live_lanes.proofs.Segments.{leading-map}

pub among-cases : {A : Type 0} (x y : A) (ys : List A) → Among x (y ∷ ys) → (x ≡ y) ⊎ Among x ys
among-cases x y ys here = inl refl
among-cases x y ys (there a) = inr a

pub among-right : {A : Type 0} (x : A) (xs ys : List A) → Among x ys → Among x (xs ++ ys)
among-right x [] ys a = a
among-right x (y ∷ xs) ys a = there (among-right x xs ys a)

pub among-split : {A : Type 0} (x : A) (xs ys : List A) → Among x (xs ++ ys) → Among x xs ⊎ Among x ys
among-split x [] ys a = inr a
among-split x (y ∷ xs) ys a = go (among-cases x y (xs ++ ys) a) (λ b. among-split x xs ys b)
  where
    go : (x ≡ y) ⊎ Among x (xs ++ ys) → (Among x (xs ++ ys) → Among x xs ⊎ Among x ys) → Among x (y ∷ xs) ⊎ Among x ys
    go (inl e) ih = inl (subst (λ z. Among x (z ∷ xs)) e here)
    go (inr b) ih = more (ih b)
      where
        more : Among x xs ⊎ Among x ys → Among x (y ∷ xs) ⊎ Among x ys
        more (inl c) = inl (there c)
        more (inr c) = inr c

-- all instructions behind have greater numbers
pub rises-above : (slots : Numbers) (n : ℕ) (ss : List Step) (t : Step) → Rises slots n ss → Among t ss → n < number_of slots t.id
rises-above slots n [] t r a = absurd (none-among t a)
rises-above slots n (s ∷ ss) t r a = go (among-cases t s ss a) (λ b. rises-above slots (number_of slots s.id) ss t r.2 b)
  where
    go : (t ≡ s) ⊎ Among t ss → (Among t ss → number_of slots s.id < number_of slots t.id) → n < number_of slots t.id
    go (inl e) ih = subst (λ z. n < number_of slots z.id) (sym e) r.0
    go (inr b) ih = let h = ih b in let low = r.0 in omega arith

pub rises-bounded : (slots : Numbers) (n : ℕ) (ss : List Step) (t : Step) → Rises slots n ss → Among t ss → number_of slots t.id < 18446744073709551616
rises-bounded slots n [] t r a = absurd (none-among t a)
rises-bounded slots n (s ∷ ss) t r a = go (among-cases t s ss a) (λ b. rises-bounded slots (number_of slots s.id) ss t r.2 b)
  where
    go : (t ≡ s) ⊎ Among t ss → (Among t ss → number_of slots t.id < 18446744073709551616) → number_of slots t.id < 18446744073709551616
    go (inl e) ih = subst (λ z. number_of slots z.id < 18446744073709551616) (sym e) r.1
    go (inr b) ih = ih b

-- those before a point have smaller numbers than those behind it
pub rises-across : (slots : Numbers) (n : ℕ) (xs ys : List Step) (t u : Step) → Rises slots n (xs ++ ys) → Among t xs → Among u ys → number_of slots t.id < number_of slots u.id
rises-across slots n [] ys t u r a b = absurd (none-among t a)
rises-across slots n (x ∷ xs) ys t u r a b = go (among-cases t x xs a) (λ c. rises-across slots (number_of slots x.id) xs ys t u r.2 c b) (rises-above slots (number_of slots x.id) (xs ++ ys) u r.2 (among-right u xs ys b))
  where
    go : (t ≡ x) ⊎ Among t xs → (Among t xs → number_of slots t.id < number_of slots u.id) → number_of slots x.id < number_of slots u.id → number_of slots t.id < number_of slots u.id
    go (inl e) ih h = subst (λ z. number_of slots z.id < number_of slots u.id) (sym e) h
    go (inr c) ih h = ih c

pub among-left : {A : Type 0} (x : A) (xs ys : List A) → Among x xs → Among x (xs ++ ys)
among-left x [] ys a = absurd (none-among x a)
among-left x (y ∷ xs) ys a = go (among-cases x y xs a) (λ b. among-left x xs ys b)
  where
    go : (x ≡ y) ⊎ Among x xs → (Among x xs → Among x (xs ++ ys)) → Among x (y ∷ (xs ++ ys))
    go (inl e) ih = subst (λ z. Among x (z ∷ (xs ++ ys))) e here
    go (inr b) ih = there (ih b)

-- a test on instructions that holds before a point and not behind it counts the writings before the point
module _ (l : ℕ) (test : ℕ → Bool) where
  none-pass : (ys : List Step) → ((t : Step) → Among t ys → test t.id ≡ false) → leading (λ (s : Start). test s.start) (starts l ys) ≡ 0
  none-pass [] h = refl
  none-pass (y ∷ ys) h = go (writing_of l y.writes) (none-pass ys (λ t a. h t (there a)))
    where
      go : (o : Option LaneDef) → leading (λ (s : Start). test s.start) (starts l ys) ≡ 0 → leading (λ (s : Start). test s.start) (elim o [ None ↦ starts l ys | Some w ↦ record { start = y.id; early = w.early; from = w.from; readings = readings_until l ys } ∷ starts l ys ]) ≡ 0
      go None ih = ih
      go (Some w) ih = ap (λ b. cond b (suc (leading (λ (s : Start). test s.start) (starts l ys))) 0) (h y here)

  pub count-before : (xs ys : List Step) → ((t : Step) → Among t xs → test t.id ≡ true) → ((t : Step) → Among t ys → test t.id ≡ false) → leading (λ (s : Start). test s.start) (starts l (xs ++ ys)) ≡ writes_in l xs
  count-before [] ys p q = none-pass ys q
  count-before (x ∷ xs) ys p q = go (writing_of l x.writes) (count-before xs ys (λ t a. p t (there a)) q)
    where
      go : (o : Option LaneDef) → leading (λ (s : Start). test s.start) (starts l (xs ++ ys)) ≡ writes_in l xs → leading (λ (s : Start). test s.start) (elim o [ None ↦ starts l (xs ++ ys) | Some w ↦ record { start = x.id; early = w.early; from = w.from; readings = readings_until l (xs ++ ys) } ∷ starts l (xs ++ ys) ]) ≡ cond (is_present o) (suc (writes_in l xs)) (writes_in l xs)
      go None ih = ih
      go (Some w) ih = ap (λ b. cond b (suc (leading (λ (s : Start). test s.start) (starts l (xs ++ ys)))) 0) (p x here) ∙ ap suc ih

module _ (code : Code) (slots : Numbers) (numbered : IsNumbered code slots) (l b : ℕ) (segments : List Begun) (are : map start_of segments ≡ starts l (steps_of code b)) where
  as-starts : (at : ℕ) → piece_at slots at segments ≡ leading (λ (s : Start). leb (exit_rank slots s.start) at) (starts l (steps_of code b))
  as-starts at = sym (leading-map start_of (λ (s : Start). leb (exit_rank slots s.start) at) segments) ∙ ap (leading (λ (s : Start). leb (exit_rank slots s.start) at)) are

  at-split : (at : ℕ) (xs ys : List Step) → steps_of code b ≡ xs ++ ys → ((t : Step) → Among t xs → leb (exit_rank slots t.id) at ≡ true) → ((t : Step) → Among t ys → leb (exit_rank slots t.id) at ≡ false) → piece_at slots at segments ≡ writes_in l xs
  at-split at xs ys e p q = as-starts at ∙ ap (λ ss. leading (λ (s : Start). leb (exit_rank slots s.start) at) (starts l ss)) e ∙ count-before l (λ id. leb (exit_rank slots id) at) xs ys p q

  -- the piece at the entry of an instruction
  pub entry-piece : (before : List Step) (s : Step) (rest : List Step) → steps_of code b ≡ before ++ s ∷ rest → piece_at slots (entry_rank slots s.id) segments ≡ writes_in l before
  entry-piece before s rest e = at-split (entry_rank slots s.id) before (s ∷ rest) e low high
    where
      rises : Rises slots 0 (before ++ s ∷ rest)
      rises = subst (Rises slots 0) e (numbered b)

      low : (t : Step) → Among t before → leb (exit_rank slots t.id) (entry_rank slots s.id) ≡ true
      low t a = let h = rises-across slots 0 before (s ∷ rest) t s rises a here in le-leb (exit_rank slots t.id) (entry_rank slots s.id) (omega arith)

      high : (t : Step) → Among t (s ∷ rest) → leb (exit_rank slots t.id) (entry_rank slots s.id) ≡ false
      high t a = go (among-cases t s rest a)
        where
          go : (t ≡ s) ⊎ Among t rest → leb (exit_rank slots t.id) (entry_rank slots s.id) ≡ false
          go (inl f) = let g : number_of slots t.id ≡ number_of slots s.id = ap (λ z. number_of slots z.id) f in lt-leb (exit_rank slots t.id) (entry_rank slots s.id) (omega arith)
          go (inr c) = let h = rises-across slots 0 (before ++ s ∷ []) rest s t (subst (Rises slots 0) (sym (append_assoc before (s ∷ []) rest)) rises) (among-right s before (s ∷ []) here) c in lt-leb (exit_rank slots t.id) (entry_rank slots s.id) (omega arith)

  -- the piece at the exit of an instruction
  pub exit-piece : (before : List Step) (s : Step) (rest : List Step) → steps_of code b ≡ before ++ s ∷ rest → piece_at slots (exit_rank slots s.id) segments ≡ writes_in l (before ++ s ∷ [])
  exit-piece before s rest e = at-split (exit_rank slots s.id) (before ++ s ∷ []) rest (e ∙ sym (append_assoc before (s ∷ []) rest)) low high
    where
      rises : Rises slots 0 ((before ++ s ∷ []) ++ rest)
      rises = subst (Rises slots 0) (e ∙ sym (append_assoc before (s ∷ []) rest)) (numbered b)

      high : (t : Step) → Among t rest → leb (exit_rank slots t.id) (exit_rank slots s.id) ≡ false
      high t a = let h = rises-across slots 0 (before ++ s ∷ []) rest s t rises (among-right s before (s ∷ []) here) a in lt-leb (exit_rank slots t.id) (exit_rank slots s.id) (omega arith)

      low : (t : Step) → Among t (before ++ s ∷ []) → leb (exit_rank slots t.id) (exit_rank slots s.id) ≡ true
      low t a = go (among-split t before (s ∷ []) a)
        where
          go : Among t before ⊎ Among t (s ∷ []) → leb (exit_rank slots t.id) (exit_rank slots s.id) ≡ true
          go (inl c) = let h = rises-across slots 0 before (s ∷ rest) t s (subst (Rises slots 0) e (numbered b)) c here in le-leb (exit_rank slots t.id) (exit_rank slots s.id) (omega arith)
          go (inr c) = let g : number_of slots t.id ≡ number_of slots s.id = ap (λ z. number_of slots z.id) (only t s c) in le-leb (exit_rank slots t.id) (exit_rank slots s.id) (omega arith)
            where
              only : (t s : Step) → Among t (s ∷ []) → t ≡ s
              only t s c = one (among-cases t s [] c)
                where
                  one : (t ≡ s) ⊎ Among t [] → t ≡ s
                  one (inl f) = f
                  one (inr d) = absurd (none-among t d)

  -- the piece at the block's end
  pub last-piece : piece_at slots 340282366920938463463374607431768211455 segments ≡ writes_in l (steps_of code b)
  last-piece = at-split 340282366920938463463374607431768211455 (steps_of code b) [] (sym (append-nil (steps_of code b))) low (λ t a. absurd (none-among t a))
    where
      low : (t : Step) → Among t (steps_of code b) → leb (exit_rank slots t.id) 340282366920938463463374607431768211455 ≡ true
      low t a = let h = rises-bounded slots 0 (steps_of code b) t (numbered b) a in le-leb (exit_rank slots t.id) 340282366920938463463374607431768211455 (omega arith)

-- the numbers of segments rise
abbrev pub ids-rise : Numbers → ℕ → List ℕ → Bool
ids-rise slots n [] = true
ids-rise slots n (i ∷ is) = ltb n (number_of slots i) && ids-rise slots (number_of slots i) is

pub rises-ids : (slots : Numbers) (n : ℕ) (segments : List Begun) → rises_from slots n segments ≡ ids-rise slots n (map (λ s. s.start) segments)
rises-ids slots n [] = refl
rises-ids slots n (s ∷ ss) = ap (λ b. ltb n (number_of slots s.start) && b) (rises-ids slots (number_of slots s.start) ss)

pub map-twice : (segments : List Begun) → map (λ s. s.start) segments ≡ map (λ (s : Start). s.start) (map start_of segments)
map-twice [] = refl
map-twice (s ∷ ss) = ap (λ t. s.start ∷ t) (map-twice ss)

-- a bound may be lowered
ids-lower : (slots : Numbers) (m n : ℕ) (is : List ℕ) → m ≤ n → ids-rise slots n is ≡ true → ids-rise slots m is ≡ true
ids-lower slots m n [] h e = refl
ids-lower slots m n (i ∷ is) h e =
    let low = ltb-true n (number_of slots i) (both-left (ltb n (number_of slots i)) (ids-rise slots (number_of slots i) is) e) in
    both (ltb m (number_of slots i)) (ids-rise slots (number_of slots i) is) (lt-ltb m (number_of slots i) (omega arith)) (both-right (ltb n (number_of slots i)) (ids-rise slots (number_of slots i) is) e)

starts-rise : (slots : Numbers) (l n : ℕ) (ss : List Step) → Rises slots n ss → ids-rise slots n (map (λ (s : Start). s.start) (starts l ss)) ≡ true
starts-rise slots l n [] r = refl
starts-rise slots l n (s ∷ ss) r = go (writing_of l s.writes) (starts-rise slots l (number_of slots s.id) ss r.2)
  where
    go : (o : Option LaneDef) → ids-rise slots (number_of slots s.id) (map (λ (s : Start). s.start) (starts l ss)) ≡ true → ids-rise slots n (map (λ (s : Start). s.start) (elim o [ None ↦ starts l ss | Some w ↦ record { start = s.id; early = w.early; from = w.from; readings = readings_until l ss } ∷ starts l ss ])) ≡ true
    go None ih = ids-lower slots n (number_of slots s.id) (map (λ (s : Start). s.start) (starts l ss)) (let h = r.0 in omega arith) ih
    go (Some w) ih = both (ltb n (number_of slots s.id)) (ids-rise slots (number_of slots s.id) (map (λ (s : Start). s.start) (starts l ss))) (lt-ltb n (number_of slots s.id) r.0) ih

pub segments-rise : (slots : Numbers) (l n : ℕ) (ss : List Step) (segments : List Begun) → Rises slots n ss → map start_of segments ≡ starts l ss → rises_from slots n segments ≡ true
segments-rise slots l n ss segments r e = rises-ids slots n segments ∙ ap (ids-rise slots n) (map-twice segments ∙ ap (map (λ (s : Start). s.start)) e) ∙ starts-rise slots l n ss r
