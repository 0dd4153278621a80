-- The instructions of an edited block beside those of before, and the pieces of a lane at the same points.
use Rattle.std.proofs.Common.{◌≡◌, ◌⊎◌, ℕ, Bool, true, false, cond, List, [], ◌∷◌, ◌++◌, Option, None, Some, refl, sym, ap, ◌∙◌, subst, inl, inr, append-nil}
use Rattle.mir_meaning.specs.Paths.{Among, Step, Code, steps_of, is_present, is_written}
use Rattle.live_lanes.specs.Graph.{writes_in}
use Rattle.live_lanes.specs.Table.{Numbers}
use Rattle.live_lanes.specs.Entered.{IsNumbered}
use Rattle.live_lanes.proofs.Basics.{none-among, step-into, writes-same}
use Rattle.live_lanes.proofs.Numbered.{among-cases}
use Rattle.edit_laws.specs.Chains.{Node}
use Rattle.edit_laws.specs.Reasons.{Touched, IsLike, IsNew, AreEdited, edit_none, edit_stays, edit_comes, IsEditOf, Begins, at_start, AreListed}
use Rattle.edit_laws.proofs.Begun.{begins-more, one-start, one-number, writes-it}

no-both : {A : Type 0} (u v : Bool) → u ≡ v → u ≡ true → v ≡ false → A
no-both u v e f g = absurd (let z : true ≡ false = sym f ∙ e ∙ g in cc)

module _ (touched : Touched) (old new : Code) (slots : Numbers) (numbered : IsNumbered new slots) (edit : IsEditOf touched old new) (list : List Node) (listed : AreListed touched new list) (b : ℕ) where
  -- the piece at a point is listed, and so is the one that begins as that of before did
  abbrev pub Cut : ℕ → List Step → Option ℕ → Type 0
  Cut l done' o = Among {A = Node} (l, b, writes_in l done') list × ((m : ℕ) → Begins new l b m o → Among {A = Node} (l, b, m) list)

  -- the pieces of a lane at a point, before and after
  pub record At (l : ℕ) (done done' : List Step) : Type 0 where
    pub before : Option ℕ
    pub after : Option ℕ
    pub begins : Begins old l b (writes_in l done) before
    pub begun : Begins new l b (writes_in l done') after
    pub agree : (before ≡ after) ⊎ Cut l done' before

  at-first : (l : ℕ) → At l [] []
  at-first l = record { before = None; after = None; begins = at_start; begun = at_start; agree = inl refl }

  -- the piece that begins as that of before is the one at the point, or it is listed
  pub same-piece : (l : ℕ) (done done' : List Step) → At l done done' → (n m : ℕ) (o : Option ℕ) → Begins old l b n o → Begins new l b m o → n ≡ writes_in l done → (m ≡ writes_in l done') ⊎ Among {A = Node} (l, b, m) list
  same-piece l done done' at n m o x y same = go at.agree
    where
      start : o ≡ at.before
      start = one-start old x at.begins same

      go : (at.before ≡ at.after) ⊎ Cut l done' at.before → (m ≡ writes_in l done') ⊎ Among {A = Node} (l, b, m) list
      go (inl e) = inl (one-number new slots numbered y at.begun (start ∙ e))
      go (inr c) = inr (c.1 m (subst (Begins new l b m) start y))

  -- behind an instruction
  module _ (l : ℕ) (done' : List Step) (y : Step) (rest' : List Step) (e' : steps_of new b ≡ done' ++ y ∷ rest') where
    abbrev next' : List Step
    next' = done' ++ y ∷ []

    -- it writes the lane, and no writing was before
    comes-there : (o q : Option ℕ) → Begins new l b (writes_in l done') q → (o ≡ q) ⊎ Cut l done' o → touched l b y.id ≡ true → Cut l next' o
    comes-there o q begun agree t = ((listed l b done' y rest' e' t).1, λ m x. go m x agree)
      where
        go : (m : ℕ) → Begins new l b m o → (o ≡ q) ⊎ Cut l done' o → Among {A = Node} (l, b, m) list
        go m x (inl e) = subst (λ n. Among {A = Node} (l, b, n) list) (sym (one-number new slots numbered x begun e)) (listed l b done' y rest' e' t).0
        go m x (inr c) = c.1 m x

    -- it doesn't write the lane, and a writing of its was before
    goes-there : (i : ℕ) → i ≡ y.id → is_written l y ≡ false → touched l b y.id ≡ true → Cut l next' (Some i)
    goes-there i same w t = ((listed l b done' y rest' e' t).1, λ m x. absurd (let v = writes-it new slots numbered done' y rest' e' x (ap Some same) in let z : true ≡ false = sym v ∙ w in cc))

    unwritten-there : (o q : Option ℕ) → is_written l y ≡ false → (o ≡ q) ⊎ Cut l done' o → (o ≡ q) ⊎ Cut l next' o
    unwritten-there o q w (inl e) = inl e
    unwritten-there o q w (inr c) = inr (subst (λ n. Among {A = Node} (l, b, n) list) (sym (writes-same l done' y w)) c.0, c.1)

    -- an instruction that comes
    agree-new : (o q : Option ℕ) → IsNew (λ k i. touched k b i) y → Begins new l b (writes_in l done') q → (o ≡ q) ⊎ Cut l done' o → (v : Bool) → is_written l y ≡ v → (t : Bool) → touched l b y.id ≡ t → (o ≡ cond v (Some y.id) q) ⊎ Cut l next' o
    agree-new o q h begun agree true w true t = inr (comes-there o q begun agree t)
    agree-new o q h begun agree true w false t = no-both (is_written l y) false (h.unwritten l t) w refl
    agree-new o q h begun agree false w u t = unwritten-there o q w agree

    -- one that stays
    agree-stays : (x : Step) (o q : Option ℕ) → IsLike (λ k i. touched k b i) x y → Begins new l b (writes_in l done') q → (o ≡ q) ⊎ Cut l done' o → (u v : Bool) → is_written l x ≡ u → is_written l y ≡ v → (t : Bool) → touched l b y.id ≡ t → (cond u (Some x.id) o ≡ cond v (Some y.id) q) ⊎ Cut l next' (cond u (Some x.id) o)
    agree-stays x o q h begun agree true true u v t e = inl (ap Some h.id)
    agree-stays x o q h begun agree true false u v true e = inr (goes-there x.id h.id v e)
    agree-stays x o q h begun agree true false u v false e = no-both (is_written l x) (is_written l y) (ap is_present (h.writing l e)) u v
    agree-stays x o q h begun agree false true u v true e = inr (comes-there o q begun agree e)
    agree-stays x o q h begun agree false true u v false e = no-both (is_written l y) (is_written l x) (sym (ap is_present (h.writing l e))) v u
    agree-stays x o q h begun agree false false u v t e = unwritten-there o q v agree

    pub at-new : (done : List Step) → IsNew (λ k i. touched k b i) y → At l done done' → At l done next'
    at-new done h at = record {
      before = at.before;
      after = cond (is_written l y) (Some y.id) at.after;
      begins = at.begins;
      begun = begins-more new at.after done' y rest' e' at.begun (is_written l y) refl;
      agree = agree-new at.before at.after h at.begun at.agree (is_written l y) refl (touched l b y.id) refl;
    }

    pub at-stays : (done : List Step) (x : Step) (rest : List Step) → steps_of old b ≡ done ++ x ∷ rest → IsLike (λ k i. touched k b i) x y → At l done done' → At l (done ++ x ∷ []) next'
    at-stays done x rest e h at = record {
      before = cond (is_written l x) (Some x.id) at.before;
      after = cond (is_written l y) (Some y.id) at.after;
      begins = begins-more old at.before done x rest e at.begins (is_written l x) refl;
      begun = begins-more new at.after done' y rest' e' at.begun (is_written l y) refl;
      agree = agree-stays x at.before at.after h at.begun at.agree (is_written l x) (is_written l y) refl refl (touched l b y.id) refl;
    }

  -- an instruction that stays, and what became of it
  pub record Pair (s r : Step) : Type 0 where
    pub before : List Step
    pub rest : List Step
    pub before' : List Step
    pub rest' : List Step
    pub e : steps_of old b ≡ before ++ s ∷ rest
    pub e' : steps_of new b ≡ before' ++ r ∷ rest'
    pub like : IsLike (λ k i. touched k b i) s r
    pub behind : AreEdited (λ k i. touched k b i) rest rest'
    pub entry : (l : ℕ) → At l before before'
    pub exit : (l : ℕ) → At l (before ++ s ∷ []) (before' ++ r ∷ [])

  abbrev pub PairOf : Step → Type 0
  PairOf s = (r : Step) × Pair s r

  abbrev pub PairTo : Step → Type 0
  PairTo r = ((s : Step) × Pair s r) ⊎ IsNew (λ k i. touched k b i) r

  paired : (done done' : List Step) (x y : Step) (ss rs : List Step) → steps_of old b ≡ done ++ x ∷ ss → steps_of new b ≡ done' ++ y ∷ rs → IsLike (λ k i. touched k b i) x y → AreEdited (λ k i. touched k b i) ss rs → ((l : ℕ) → At l done done') → Pair x y
  paired done done' x y ss rs e e' h more at = record {
    before = done;
    rest = ss;
    before' = done';
    rest' = rs;
    e = e;
    e' = e';
    like = h;
    behind = more;
    entry = at;
    exit = λ l. at-stays l done' y rs e' done x ss e h (at l);
  }

  walk-old : {ss rs : List Step} → AreEdited (λ k i. touched k b i) ss rs → (done done' : List Step) → steps_of old b ≡ done ++ ss → steps_of new b ≡ done' ++ rs → ((l : ℕ) → At l done done') → (s : Step) → Among s ss → PairOf s
  walk-old edit_none done done' e e' at s a = absurd (none-among s a)
  walk-old (edit_stays {s = x} {r = y} {ss = ss} {rs = rs} h more) done done' e e' at s a =
      go (among-cases s x ss a) (λ c. walk-old more (done ++ x ∷ []) (done' ++ y ∷ []) (step-into (steps_of old b) done x ss e) (step-into (steps_of new b) done' y rs e') (λ l. at-stays l done' y rs e' done x ss e h (at l)) s c)
    where
      go : (s ≡ x) ⊎ Among s ss → (Among s ss → PairOf s) → PairOf s
      go (inl same) behind = subst PairOf (sym same) (y, paired done done' x y ss rs e e' h more at)
      go (inr c) behind = behind c
  walk-old (edit_comes {r = y} {ss = ss} {rs = rs} h more) done done' e e' at s a =
      walk-old more done (done' ++ y ∷ []) e (step-into (steps_of new b) done' y rs e') (λ l. at-new l done' y rs e' done h (at l)) s a

  walk-new : {ss rs : List Step} → AreEdited (λ k i. touched k b i) ss rs → (done done' : List Step) → steps_of old b ≡ done ++ ss → steps_of new b ≡ done' ++ rs → ((l : ℕ) → At l done done') → (r : Step) → Among r rs → PairTo r
  walk-new edit_none done done' e e' at r a = absurd (none-among r a)
  walk-new (edit_stays {s = x} {r = y} {ss = ss} {rs = rs} h more) done done' e e' at r a =
      go (among-cases r y rs a) (λ c. walk-new more (done ++ x ∷ []) (done' ++ y ∷ []) (step-into (steps_of old b) done x ss e) (step-into (steps_of new b) done' y rs e') (λ l. at-stays l done' y rs e' done x ss e h (at l)) r c)
    where
      go : (r ≡ y) ⊎ Among r rs → (Among r rs → PairTo r) → PairTo r
      go (inl same) behind = subst PairTo (sym same) (inl (x, paired done done' x y ss rs e e' h more at))
      go (inr c) behind = behind c
  walk-new (edit_comes {r = y} {ss = ss} {rs = rs} h more) done done' e e' at r a =
      go (among-cases r y rs a) (λ c. walk-new more done (done' ++ y ∷ []) e (step-into (steps_of new b) done' y rs e') (λ l. at-new l done' y rs e' done h (at l)) r c)
    where
      go : (r ≡ y) ⊎ Among r rs → (Among r rs → PairTo r) → PairTo r
      go (inl same) behind = subst PairTo (sym same) (inr h)
      go (inr c) behind = behind c

  walk-end : {ss rs : List Step} → AreEdited (λ k i. touched k b i) ss rs → (done done' : List Step) → steps_of old b ≡ done ++ ss → steps_of new b ≡ done' ++ rs → ((l : ℕ) → At l done done') → (l : ℕ) → At l (steps_of old b) (steps_of new b)
  walk-end edit_none done done' e e' at l = subst (λ ss. At l ss (steps_of new b)) (sym (e ∙ append-nil done)) (subst (At l done) (sym (e' ∙ append-nil done')) (at l))
  walk-end (edit_stays {s = x} {r = y} {ss = ss} {rs = rs} h more) done done' e e' at l =
      walk-end more (done ++ x ∷ []) (done' ++ y ∷ []) (step-into (steps_of old b) done x ss e) (step-into (steps_of new b) done' y rs e') (λ k. at-stays k done' y rs e' done x ss e h (at k)) l
  walk-end (edit_comes {r = y} {ss = ss} {rs = rs} h more) done done' e e' at l =
      walk-end more done (done' ++ y ∷ []) e (step-into (steps_of new b) done' y rs e') (λ k. at-new k done' y rs e' done h (at k)) l

  -- what became of an instruction
  pub pair-of : (s : Step) → Among s (steps_of old b) → PairOf s
  pair-of s a = walk-old (edit.steps b) [] [] refl refl at-first s a

  -- from which one comes, if it doesn't come new
  pub pair-to : (r : Step) → Among r (steps_of new b) → PairTo r
  pair-to r a = walk-new (edit.steps b) [] [] refl refl at-first r a

  pub at-end : (l : ℕ) → At l (steps_of old b) (steps_of new b)
  at-end l = walk-end (edit.steps b) [] [] refl refl at-first l
