-- Pieces that no edit concerns, and that lead to no piece which died or came alive, end where they did.
use Rattle.std.proofs.Common.{◌≡◌, ◌<◌, ◌≤◌, ◌⊎◌, ℕ, ◌+◌, ◌*◌, Bool, true, false, List, [], ◌∷◌, ◌++◌, Option, Some, refl, sym, ap, ◌∙◌, subst, inl, inr, arith, append_assoc}
use Rattle.slot_index.specs.Order.{number_of}
use Rattle.mir_meaning.specs.Paths.{Among, here, there, Step, Code, steps_of, exits_of, Use, Unused, Certain, Into, use_of, is_written}
use Rattle.live_lanes.specs.declared.row.Cause.{Cause}
use Rattle.live_lanes.specs.declared.row.Cause.TheVariants as causes
use Rattle.live_lanes.specs.declared.row.PieceEnd.{PieceEnd}
use Rattle.live_lanes.specs.declared.row.PieceEnd.TheVariants as ends
use Rattle.live_lanes.specs.Graph.{Causes, is_live, writes_in, IsGrown}
use Rattle.live_lanes.specs.Table.{Numbers, end_rank}
use Rattle.live_lanes.specs.Entered.{Rises, IsNumbered}
use Rattle.live_lanes.specs.Laws.{AllMatched}
use Rattle.live_lanes.specs.Ends.{Counts, reads, moves, leaves, goes, phi, IsEnd}
use Rattle.live_lanes.proofs.Basics.{none-among, among-append}
use Rattle.live_lanes.proofs.Numbered.{among-cases, rises-above, rises-across, rises-bounded}
use Rattle.live_lanes.proofs.Sound.{splits, Splits}
use Rattle.edit_laws.specs.Chains.{Node, cause_at}
use Rattle.edit_laws.specs.Reasons.{IsReason, for_move, for_exit, for_end, Touched, IsNew, AreEdited, edit_none, edit_stays, edit_comes, IsEditOf, Begins, AreCarried, AreListed}
use Rattle.edit_laws.specs.Update.{LastingLaw}
use Rattle.edit_laws.proofs.Begun.{one-split, one-start, one-number}
use Rattle.edit_laws.proofs.Counterparts.{At, same-piece, Pair, pair-of, pair-to, at-end}
use Rattle.edit_laws.proofs.Carried.{reason-moves, matched-written, moved-live, was-first, first-live, stays-live}

module _ (touched : Touched) (old new : Code) (slots slots' : Numbers) (numbered : IsNumbered old slots) (numbered' : IsNumbered new slots') (edit : IsEditOf touched old new) (list : List Node) (listed : AreListed touched new list) (b : ℕ) where
  abbrev PairAt : Step → Step → Type 0
  PairAt s r = Pair touched old new slots' numbered' edit list listed b s r

  -- the instruction of an id before, if it didn't come new
  abbrev Stood : List Step → Step → Type 0
  Stood ss r = ((s : Step) × Among s ss × (s.id ≡ r.id)) ⊎ IsNew (λ k i. touched k b i) r

  stood-more : (x : Step) (ss : List Step) (r : Step) → Stood ss r → Stood (x ∷ ss) r
  stood-more x ss r (inl z) = inl (z.0, there z.1, z.2)
  stood-more x ss r (inr h) = inr h

  stood : {ss rs : List Step} → AreEdited (λ k i. touched k b i) ss rs → (r : Step) → Among r rs → Stood ss r
  stood edit_none r a = absurd (none-among r a)
  stood (edit_stays {s = x} {r = y} {ss = ss} {rs = rs} h more) r a = go (among-cases r y rs a) (λ c. stood more r c)
    where
      go : (r ≡ y) ⊎ Among r rs → (Among r rs → Stood ss r) → Stood (x ∷ ss) r
      go (inl e) ih = inl (x, here, h.id ∙ ap (λ (t : Step). t.id) (sym e))
      go (inr c) ih = stood-more x ss r (ih c)
  stood (edit_comes {r = y} {ss = ss} {rs = rs} h more) r a = go (among-cases r y rs a) (λ c. stood more r c)
    where
      go : (r ≡ y) ⊎ Among r rs → (Among r rs → Stood ss r) → Stood ss r
      go (inl e) ih = inr (subst (λ t. IsNew (λ k i. touched k b i) t) (sym e) h)
      go (inr c) ih = ih c

  -- a point of the block, at an instruction that was there before
  data AtPoint : PieceEnd → Type 0 where
    at_last : AtPoint ends.Last
    at_entry : (s r : Step) → PairAt s r → (IsNew (λ k i. touched k b i) r → ⊥) → AtPoint (ends.Entry r.id)
    at_exit : (s r : Step) → PairAt s r → (IsNew (λ k i. touched k b i) r → ⊥) → AtPoint (ends.Exit r.id)

  bounded' : (s r : Step) → PairAt s r → number_of slots' r.id < 18446744073709551616
  bounded' s r p = rises-bounded slots' 0 (steps_of new b) r (numbered' b) (subst (Among r) (sym p.e') (among-append r p.before' p.rest'))

  held : (s r : Step) → PairAt s r → (0 < number_of slots r.id) × (number_of slots r.id < 18446744073709551616)
  held s r p =
      let a : Among s (steps_of old b) = subst (Among s) (sym p.e) (among-append s p.before p.rest) in
      let low : 0 < number_of slots s.id = rises-above slots 0 (steps_of old b) s (numbered b) a in
      let high : number_of slots s.id < 18446744073709551616 = rises-bounded slots 0 (steps_of old b) s (numbered b) a in
      subst (λ i. (0 < number_of slots i) × (number_of slots i < 18446744073709551616)) p.like.id (low, high)

  rises-behind : (sl : Numbers) (ss before : List Step) (s : Step) (rest : List Step) (t : Step) → Rises sl 0 ss → ss ≡ before ++ s ∷ rest → Among t rest → number_of sl s.id < number_of sl t.id
  rises-behind sl ss before s rest t rise e a =
      let r : Rises sl 0 ((before ++ s ∷ []) ++ rest) = subst (Rises sl 0) (e ∙ sym (append_assoc before (s ∷ []) rest)) rise in
      rises-across sl 0 (before ++ s ∷ []) rest s t r (among-append s before []) a

  -- of two instructions in the new order the numbers rise, and those of before did
  ahead : (s r : Step) (p : PairAt s r) (q : Step) → (IsNew (λ k i. touched k b i) q → ⊥) → Among q p.rest' → (number_of slots r.id < number_of slots q.id) × (number_of slots' r.id < number_of slots' q.id)
  ahead s r p q firm a = (go (stood p.behind q a), rises-behind slots' (steps_of new b) p.before' r p.rest' q (numbered' b) p.e' a)
    where
      go : Stood p.rest q → number_of slots r.id < number_of slots q.id
      go (inl z) =
          let lt = rises-behind slots (steps_of old b) p.before s p.rest z.0 (numbered b) p.e z.1 in
          subst (λ i. number_of slots i < number_of slots q.id) p.like.id (subst (λ i. number_of slots s.id < number_of slots i) z.2 lt)
      go (inr h) = absurd (firm h)

  data Compared (i j : ℕ) : Type 0 where
    is_less : number_of slots' i < number_of slots' j → Compared i j
    is_same : i ≡ j → Compared i j
    is_more : number_of slots j < number_of slots i → Compared i j

  compare : (s r : Step) (p : PairAt s r) (t q : Step) (z : PairAt t q) → (IsNew (λ k i. touched k b i) r → ⊥) → (IsNew (λ k i. touched k b i) q → ⊥) → Compared r.id q.id
  compare s r p t q z firm firm' = go (splits new b 0 p.before' (r ∷ p.rest') z.before' (q ∷ z.rest') (sym p.e' ∙ z.e'))
    where
      behind : (mid : List Step) → r ∷ p.rest' ≡ mid ++ q ∷ z.rest' → Compared r.id q.id
      behind [] e = let one : r ≡ q = cc in is_same (ap (λ (k : Step). k.id) one)
      behind (y ∷ mid) e =
          let tail : p.rest' ≡ mid ++ q ∷ z.rest' = cc in
          is_less (ahead s r p q firm' (subst (Among q) (sym tail) (among-append q mid z.rest'))).1

      go : Splits new b 0 p.before' (r ∷ p.rest') z.before' (q ∷ z.rest') → Compared r.id q.id
      go (inl x) = behind x.0 x.2
      go (inr x) =
          let f = x.3 in
          let tail : z.rest' ≡ x.1 ++ r ∷ p.rest' = cc in
          is_more (ahead t q z r firm (subst (Among r) (sym tail) (among-append r x.1 p.rest'))).0

  -- the order of points stays
  keeps-order : (p q : PieceEnd) → AtPoint p → AtPoint q → end_rank slots p ≤ end_rank slots q → end_rank slots' p ≤ end_rank slots' q
  keeps-order p q at_last at_last h = omega arith
  keeps-order p q (at_entry s r x firm) at_last h = let z = bounded' s r x in omega (arith, z)
  keeps-order p q (at_exit s r x firm) at_last h = let z = bounded' s r x in omega (arith, z)
  keeps-order p q at_last (at_entry t u y firm') h = absurd (let z = (held t u y).1 in omega (arith, z, h))
  keeps-order p q at_last (at_exit t u y firm') h = absurd (let z = (held t u y).1 in omega (arith, z, h))
  keeps-order p q (at_entry s r x firm) (at_entry t u y firm') h = go (compare s r x t u y firm firm')
    where
      go : Compared r.id u.id → number_of slots' r.id * 2 ≤ number_of slots' u.id * 2
      go (is_less c) = omega (arith, c)
      go (is_same e) = let z = ap (number_of slots') e in omega (arith, z)
      go (is_more c) = absurd (omega (arith, c, h))
  keeps-order p q (at_entry s r x firm) (at_exit t u y firm') h = go (compare s r x t u y firm firm')
    where
      go : Compared r.id u.id → number_of slots' r.id * 2 ≤ number_of slots' u.id * 2 + 1
      go (is_less c) = omega (arith, c)
      go (is_same e) = let z = ap (number_of slots') e in omega (arith, z)
      go (is_more c) = absurd (omega (arith, c, h))
  keeps-order p q (at_exit s r x firm) (at_entry t u y firm') h = go (compare s r x t u y firm firm')
    where
      go : Compared r.id u.id → number_of slots' r.id * 2 + 1 ≤ number_of slots' u.id * 2
      go (is_less c) = omega (arith, c)
      go (is_same e) = absurd (let z = ap (number_of slots) e in omega (arith, z, h))
      go (is_more c) = absurd (omega (arith, c, h))
  keeps-order p q (at_exit s r x firm) (at_exit t u y firm') h = go (compare s r x t u y firm firm')
    where
      go : Compared r.id u.id → number_of slots' r.id * 2 + 1 ≤ number_of slots' u.id * 2 + 1
      go (is_less c) = omega (arith, c)
      go (is_same e) = let z = ap (number_of slots') e in omega (arith, z)
      go (is_more c) = absurd (omega (arith, c, h))

  has-rank : (p : PieceEnd) → AtPoint p → 0 < end_rank slots p
  has-rank p at_last = omega arith
  has-rank p (at_entry s r x firm) = let z = (held s r x).0 in omega (arith, z)
  has-rank p (at_exit s r x firm) = omega arith

-- where what the piece leads to is as live as before
module _ (touched : Touched) (old new : Code) (slots slots' : Numbers) (was before after : Causes) (grown : IsGrown old was) (numbered : IsNumbered old slots) (numbered' : IsNumbered new slots') (matched-old : AllMatched old) (matched : AllMatched new) (edit : IsEditOf touched old new) (kept : AreCarried touched old new was before) (list : List Node) (listed : AreListed touched new list) (l b m n : ℕ) (start : Option ℕ) (x : Begins old l b m start) (y : Begins new l b n start) (out : Among {A = Node} (l, b, n) list → ⊥) (same-life : (c : Cause) (k : Node) → IsReason new l b n c (Some k) → cause_at after k ≡ cause_at before k) where
  abbrev PairIn : Step → Step → Type 0
  PairIn s r = Pair touched old new slots' numbered' edit list listed b s r

  abbrev AtIn : List Step → List Step → Type 0
  AtIn done done' = At touched old new slots' numbered' edit list listed b l done done'

  abbrev PointIn : PieceEnd → Type 0
  PointIn p = AtPoint touched old new slots slots' numbered numbered' edit list listed b p

  old-at : (done done' : List Step) → AtIn done done' → writes_in l done' ≡ n → writes_in l done ≡ m
  old-at done done' at w = go at.agree
    where
      go : (at.before ≡ at.after) ⊎ (Among {A = Node} (l, b, writes_in l done') list × ((k : ℕ) → Begins new l b k at.before → Among {A = Node} (l, b, k) list)) → writes_in l done ≡ m
      go (inl e) = one-number old slots numbered at.begins x (e ∙ one-start new at.begun y w)
      go (inr c) = absurd (out (subst (λ k. Among {A = Node} (l, b, k) list) w c.0))

  new-at : (done done' : List Step) → AtIn done done' → writes_in l done ≡ m → writes_in l done' ≡ n
  new-at done done' at w = go (same-piece touched old new slots' numbered' edit list listed b l done done' at m n start x y (sym w))
    where
      go : (n ≡ writes_in l done') ⊎ Among {A = Node} (l, b, n) list → writes_in l done' ≡ n
      go (inl e) = sym e
      go (inr a) = absurd (out a)

  -- the piece's instructions aren't touched
  untouched : (us : List Step) (r : Step) (vs : List Step) → steps_of new b ≡ us ++ r ∷ vs → writes_in l us ≡ n → touched l b r.id ≡ false
  untouched us r vs e w = go (touched l b r.id) refl
    where
      go : (v : Bool) → touched l b r.id ≡ v → v ≡ false
      go true t = absurd (out (subst (λ k. Among {A = Node} (l, b, k) list) w (listed l b us r vs e t).0))
      go false t = refl

  abbrev From : Step → Type 0
  From r = ((s : Step) × PairIn s r) ⊎ IsNew (λ k i. touched k b i) r

  from : (us : List Step) (r : Step) (vs : List Step) → steps_of new b ≡ us ++ r ∷ vs → From r
  from us r vs e = pair-to touched old new slots' numbered' edit list listed b r (subst (Among r) (sym e) (among-append r us vs))

  place : (us : List Step) (r : Step) (vs : List Step) → steps_of new b ≡ us ++ r ∷ vs → (s : Step) (p : PairIn s r) → us ≡ p.before'
  place us r vs e s p = (one-split slots' 0 (steps_of new b) us r vs p.before' r p.rest' (numbered' b) e p.e' refl).0

  unused-not : {A : Type 0} (r : Step) → IsNew (λ k i. touched k b i) r → touched l b r.id ≡ false → (u : Use) → use_of l r ≡ u → (Unused ≡ u → ⊥) → A
  unused-not r h t u e differs = absurd (differs (sym (h.unused l t) ∙ e))

  certain-not : Unused ≡ Certain → ⊥
  certain-not e = cc

  into-not : (a : ℕ) → Unused ≡ Into a → ⊥
  into-not a e = cc

  leaves-not : (r : Step) → IsNew (λ k i. touched k b i) r → r.leaves ≡ true → ⊥
  leaves-not r h t = let z : false ≡ true = sym h.leaves ∙ t in cc

  exit-old : (k : ℕ) → Among k (exits_of new b) → Among k (exits_of old b)
  exit-old k a = subst (Among k) (sym (edit.exits b)) a

  -- what counts after edits counted before
  abbrev Counted : PieceEnd → Type 0
  Counted p = Counts old was l b m p × PointIn p

  read-old : (us : List Step) (r : Step) (vs : List Step) → steps_of new b ≡ us ++ r ∷ vs → writes_in l us ≡ n → use_of l r ≡ Certain → From r → Counted (ends.Entry r.id)
  read-old us r vs e w u (inl z) =
      let p = z.1 in
      let t = untouched us r vs e w in
      let w' : writes_in l p.before' ≡ n = ap (writes_in l) (sym (place us r vs e z.0 p)) ∙ w in (
        subst (λ i. Counts old was l b m (ends.Entry i)) p.like.id (reads p.before z.0 p.rest p.e (old-at p.before p.before' (p.entry l) w') (p.like.used l t ∙ u)),
        at_entry z.0 r p (λ h. unused-not r h t Certain u certain-not),
      )
  read-old us r vs e w u (inr h) = unused-not r h (untouched us r vs e w) Certain u certain-not

  move-old : (a : ℕ) (us : List Step) (r : Step) (vs : List Step) → steps_of new b ≡ us ++ r ∷ vs → writes_in l us ≡ n → use_of l r ≡ Into a → is_live (after a b (writes_in a (us ++ r ∷ []))) ≡ true → From r → Counted (ends.Entry r.id)
  move-old a us r vs e w u live (inl z) =
      let p = z.1 in
      let t = untouched us r vs e w in
      let wr : is_written a r ≡ true = matched-written r l a (matched b r (subst (Among r) (sym e) (among-append r us vs))) u in
      let reason : IsReason new l b n (causes.Reading r.id) (Some (a, b, writes_in a (us ++ r ∷ []))) = reason-moves (for_move us r vs e u wr) w refl refl in
      let up : is_live (before a b (writes_in a (us ++ r ∷ []))) ≡ true = sym (same-life (causes.Reading r.id) (a, b, writes_in a (us ++ r ∷ [])) reason) ∙ live in
      let was-up = moved-live touched old new slots slots' was before grown numbered numbered' matched edit kept list listed l b us r vs e a z.0 p wr up in
      let w' : writes_in l p.before' ≡ n = ap (writes_in l) (sym (place us r vs e z.0 p)) ∙ w in (
        subst (λ i. Counts old was l b m (ends.Entry i)) p.like.id (moves a p.before z.0 p.rest p.e (old-at p.before p.before' (p.entry l) w') (p.like.used l t ∙ u) was-up),
        at_entry z.0 r p (λ h. unused-not r h t (Into a) u (into-not a)),
      )
  move-old a us r vs e w u live (inr h) = unused-not r h (untouched us r vs e w) (Into a) u (into-not a)

  exit-counted : (k : ℕ) (us : List Step) (r : Step) (vs : List Step) → steps_of new b ≡ us ++ r ∷ vs → writes_in l (us ++ r ∷ []) ≡ n → r.leaves ≡ true → Among k (exits_of new b) → is_live (after l k 0) ≡ true → From r → Counted (ends.Exit r.id)
  exit-counted k us r vs e w t a live (inl z) =
      let p = z.1 in
      let reason : IsReason new l b n (causes.Follower k) (Some (l, k, 0)) = reason-moves (for_exit us r vs e t a) w refl refl in
      let up : is_live (before l k 0) ≡ true = sym (same-life (causes.Follower k) (l, k, 0) reason) ∙ live in
      let was-up = was-first touched old new slots slots' was before grown numbered numbered' matched edit kept list listed l k up in
      let w' : writes_in l (p.before' ++ r ∷ []) ≡ n = ap (λ xs. writes_in l (xs ++ r ∷ [])) (sym (place us r vs e z.0 p)) ∙ w in (
        subst (λ i. Counts old was l b m (ends.Exit i)) p.like.id (leaves k p.before z.0 p.rest p.e (old-at (p.before ++ z.0 ∷ []) (p.before' ++ r ∷ []) (p.exit l) w') (p.like.leaves ∙ t) (exit-old k a) was-up),
        at_exit z.0 r p (λ h. leaves-not r h t),
      )
  exit-counted k us r vs e w t a live (inr h) = absurd (leaves-not r h t)

  last-at : AtIn (steps_of old b) (steps_of new b)
  last-at = at-end touched old new slots' numbered' edit list listed b l

  end-counted : (k : ℕ) → writes_in l (steps_of new b) ≡ n → Among k (exits_of new b) → is_live (after l k 0) ≡ true → Counted ends.Last
  end-counted k w a live =
      let reason : IsReason new l b n (causes.Follower k) (Some (l, k, 0)) = reason-moves (for_end a) w refl refl in
      let up : is_live (before l k 0) ≡ true = sym (same-life (causes.Follower k) (l, k, 0) reason) ∙ live in
      let was-up = was-first touched old new slots slots' was before grown numbered numbered' matched edit kept list listed l k up in
      (goes k (old-at (steps_of old b) (steps_of new b) last-at w) (exit-old k a) was-up, at_last)

  counted-old : {p : PieceEnd} → Counts new after l b n p → Counted p
  counted-old (reads us r vs e w u) = read-old us r vs e w u (from us r vs e)
  counted-old (moves a us r vs e w u live) = move-old a us r vs e w u live (from us r vs e)
  counted-old (leaves k us r vs e w t a live) = exit-counted k us r vs e w t a live (from us r vs e)
  counted-old (goes k w a live) = end-counted k w a live
  counted-old (phi w a) = (phi (old-at (steps_of old b) (steps_of new b) last-at w) (subst (Among l) (sym (edit.last b)) a), at_last)

  -- and the reverse
  to-pair : (us : List Step) (s : Step) (vs : List Step) → steps_of old b ≡ us ++ s ∷ vs → (r : Step) × PairIn s r
  to-pair us s vs e = pair-of touched old new slots' numbered' edit list listed b s (subst (Among s) (sym e) (among-append s us vs))

  stand : (us : List Step) (s : Step) (vs : List Step) → steps_of old b ≡ us ++ s ∷ vs → (r : Step) (p : PairIn s r) → us ≡ p.before
  stand us s vs e r p = (one-split slots 0 (steps_of old b) us s vs p.before s p.rest (numbered b) e p.e refl).0

  entry-new : (us : List Step) (s : Step) (vs : List Step) → steps_of old b ≡ us ++ s ∷ vs → writes_in l us ≡ m → (r : Step) (p : PairIn s r) → writes_in l p.before' ≡ n
  entry-new us s vs e w r p = new-at p.before p.before' (p.entry l) (ap (writes_in l) (sym (stand us s vs e r p)) ∙ w)

  exit-new : (us : List Step) (s : Step) (vs : List Step) → steps_of old b ≡ us ++ s ∷ vs → writes_in l (us ++ s ∷ []) ≡ m → (r : Step) (p : PairIn s r) → writes_in l (p.before' ++ r ∷ []) ≡ n
  exit-new us s vs e w r p = new-at (p.before ++ s ∷ []) (p.before' ++ r ∷ []) (p.exit l) (ap (λ xs. writes_in l (xs ++ s ∷ [])) (sym (stand us s vs e r p)) ∙ w)

  counts-new : {p : PieceEnd} → Counts old was l b m p → Counts new after l b n p
  counts-new (reads us s vs e w u) =
      let z = to-pair us s vs e in
      let p = z.1 in
      let w' = entry-new us s vs e w z.0 p in
      let t = untouched p.before' z.0 p.rest' p.e' w' in
      subst (λ i. Counts new after l b n (ends.Entry i)) (sym p.like.id) (reads p.before' z.0 p.rest' p.e' w' (sym (p.like.used l t) ∙ u))
  counts-new (moves a us s vs e w u live) =
      let z = to-pair us s vs e in
      let p = z.1 in
      let r : Step = z.0 in
      let w' = entry-new us s vs e w r p in
      let t = untouched p.before' r p.rest' p.e' w' in
      let v : use_of l r ≡ Into a = sym (p.like.used l t) ∙ u in
      let ws : is_written a s ≡ true = matched-written s l a (matched-old b s (subst (Among s) (sym e) (among-append s us vs))) u in
      let wr : is_written a r ≡ true = matched-written r l a (matched b r (subst (Among r) (sym p.e') (among-append r p.before' p.rest'))) v in
      let was-up : is_live (was a b (writes_in a (p.before ++ s ∷ []))) ≡ true = ap (λ xs. is_live (was a b (writes_in a (xs ++ s ∷ [])))) (sym (stand us s vs e r p)) ∙ live in
      let up = stays-live touched old new slots slots' was before grown numbered numbered' matched edit kept list listed l b a s r p ws wr v t was-up in
      let reason : IsReason new l b n (causes.Reading r.id) (Some (a, b, writes_in a (p.before' ++ r ∷ []))) = reason-moves (for_move p.before' r p.rest' p.e' v wr) w' refl refl in
      subst (λ i. Counts new after l b n (ends.Entry i)) (sym p.like.id) (moves a p.before' r p.rest' p.e' w' v (same-life (causes.Reading r.id) (a, b, writes_in a (p.before' ++ r ∷ [])) reason ∙ up))
  counts-new (leaves k us s vs e w t a live) =
      let z = to-pair us s vs e in
      let p = z.1 in
      let r : Step = z.0 in
      let w' = exit-new us s vs e w r p in
      let v : r.leaves ≡ true = sym p.like.leaves ∙ t in
      let c : Among k (exits_of new b) = subst (Among k) (edit.exits b) a in
      let reason : IsReason new l b n (causes.Follower k) (Some (l, k, 0)) = reason-moves (for_exit p.before' r p.rest' p.e' v c) w' refl refl in
      let up = first-live touched old new slots slots' was before grown numbered numbered' matched edit kept list listed l k live in
      subst (λ i. Counts new after l b n (ends.Exit i)) (sym p.like.id) (leaves k p.before' r p.rest' p.e' w' v c (same-life (causes.Follower k) (l, k, 0) reason ∙ up))
  counts-new (goes k w a live) =
      let w' = new-at (steps_of old b) (steps_of new b) last-at w in
      let c : Among k (exits_of new b) = subst (Among k) (edit.exits b) a in
      let reason : IsReason new l b n (causes.Follower k) (Some (l, k, 0)) = reason-moves (for_end c) w' refl refl in
      let up = first-live touched old new slots slots' was before grown numbered numbered' matched edit kept list listed l k live in
      goes k w' c (same-life (causes.Follower k) (l, k, 0) reason ∙ up)
  counts-new (phi w a) = phi (new-at (steps_of old b) (steps_of new b) last-at w) (subst (Among l) (edit.last b) a)

  pub lasting : (end : PieceEnd) → IsEnd old slots was l b m end → IsEnd new slots' after l b n end
  lasting end is = record { counts = counts is.counts; last = λ p c. last p c is.counts }
    where
      counts : (end ≡ ends.Never) ⊎ Counts old was l b m end → (end ≡ ends.Never) ⊎ Counts new after l b n end
      counts (inl e) = inl e
      counts (inr c) = inr (counts-new c)

      last : (p : PieceEnd) → Counts new after l b n p → (end ≡ ends.Never) ⊎ Counts old was l b m end → end_rank slots' p ≤ end_rank slots' end
      last p c (inl e) =
          let d = counted-old c in
          let h = is.last p d.0 in
          let z = has-rank touched old new slots slots' numbered numbered' edit list listed b p d.1 in
          let y' = ap (end_rank slots) e in
          absurd (omega (arith, h, z, y'))
      last p c (inr k) =
          let d = counted-old c in
          let f = counted-old (counts-new k) in
          keeps-order touched old new slots slots' numbered numbered' edit list listed b p end d.1 f.1 (is.last p d.0)

pub lasting-law : LastingLaw
lasting-law touched old new slots slots' was before after list changed grown numbered numbered' matched-old matched edit kept listed lives l b m n start x y out apart end is =
    lasting touched old new slots slots' was before after grown numbered numbered' matched-old matched edit kept list listed l b m n start x y out same-life end is
  where
    same-life : (c : Cause) (k : Node) → IsReason new l b n c (Some k) → cause_at after k ≡ cause_at before k
    same-life c k r = go (lives k)
      where
        go : Among k changed ⊎ (cause_at after k ≡ cause_at before k) → cause_at after k ≡ cause_at before k
        go (inl a) = absurd (apart (c, k, r, a))
        go (inr e) = e
