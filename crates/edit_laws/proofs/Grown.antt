-- A grown table of causes is grown after edits where the touched lanes are right.
use Rattle.std.proofs.Common.{◌≡◌, ℕ, suc, ◌+◌, Bool, true, false, cond, List, [], ◌∷◌, ◌++◌, refl, sym, ap, ◌∙◌, subst}
use Rattle.mir_meaning.specs.Paths.{Among, Step, Code, steps_of, last_of, exits_of, Unused, Certain, Into, use_of}
use Rattle.live_lanes.specs.declared.row.Cause.TheVariants as causes
use Rattle.live_lanes.specs.Graph.{Causes, is_live, writes_in, IsClosed, Founded, by_reading, by_move, by_exit, by_end, by_phi, IsGrown}
use Rattle.live_lanes.proofs.Basics.{writes-append}
use Rattle.edit_laws.specs.Steps.{AreAlike, IsApart, AreSteps, no_steps, step_stays, step_goes, step_comes, AreCodes, AreRight, KeepOthers, GrownLaw}

alike-turned : {told : ℕ → Bool} {s r : Step} → AreAlike told s r → AreAlike told r s
alike-turned h = record {
  id = sym h.id;
  leaves = sym h.leaves;
  used = λ l o. sym (h.used l o);
  written = λ l o. sym (h.written l o);
  apart = λ l a o u. h.apart l a o (h.used l o ∙ u);
}

pub steps-turned : {told : ℕ → Bool} {ss rs : List Step} → AreSteps told ss rs → AreSteps told rs ss
steps-turned no_steps = no_steps
steps-turned (step_stays h a) = step_stays (alike-turned h) (steps-turned a)
steps-turned (step_goes h a) = step_comes h (steps-turned a)
steps-turned (step_comes h a) = step_goes h (steps-turned a)

pub codes-turned : {told : ℕ → Bool} {old new : Code} → AreCodes told old new → AreCodes told new old
codes-turned c = record { steps = λ b. steps-turned (c.steps b); last = λ b. sym (c.last b); exits = λ b. sym (c.exits b) }

not-empty : (before : List Step) (s : Step) (rest : List Step) → [] ≡ before ++ s ∷ rest → ⊥
not-empty [] s rest e = cc
not-empty (y ∷ before) s rest e = cc

module _ (told : ℕ → Bool) where
  -- the other lanes are written as often
  abbrev pub Same : List Step → List Step → Type 0
  Same ss rs = (l : ℕ) → told l ≡ false → writes_in l ss ≡ writes_in l rs

  same-both : (s r : Step) (ss rs : List Step) → AreAlike told s r → Same ss rs → Same (s ∷ ss) (r ∷ rs)
  same-both s r ss rs w h l n = λ k. cond (w.written l n k) (suc (h l n k)) (h l n k)

  unwritten-head : (s : Step) (ss : List Step) → IsApart told s → (l : ℕ) → told l ≡ false → writes_in l (s ∷ ss) ≡ writes_in l ss
  unwritten-head s ss h l n = ap (λ u. cond u (suc (writes_in l ss)) (writes_in l ss)) (h.unwritten l n)

  same-left : (s : Step) (ss rs : List Step) → IsApart told s → Same ss rs → Same (s ∷ ss) rs
  same-left s ss rs h g l n = unwritten-head s ss h l n ∙ g l n

  same-right : (r : Step) (ss rs : List Step) → IsApart told r → Same ss rs → Same ss (r ∷ rs)
  same-right r ss rs h g l n = g l n ∙ sym (unwritten-head r rs h l n)

  pub same-all : {ss rs : List Step} → AreSteps told ss rs → Same ss rs
  same-all no_steps = λ l n. refl
  same-all (step_stays {s = s} {r = r} {ss = ss} {rs = rs} h a) = same-both s r ss rs h (same-all a)
  same-all (step_goes {s = s} {ss = ss} {rs = rs} h a) = same-left s ss rs h (same-all a)
  same-all (step_comes {r = r} {ss = ss} {rs = rs} h a) = same-right r ss rs h (same-all a)

  -- where an instruction of the second list stands in the first
  pub data Located (ss : List Step) (before' : List Step) (r : Step) (rest' : List Step) : Type 0 where
    stands : (before : List Step) (s : Step) (rest : List Step) → ss ≡ before ++ s ∷ rest → AreAlike told s r → Same before before' → AreSteps told rest rest' → Located ss before' r rest'
    came : IsApart told r → Located ss before' r rest'

  more-both : (s y : Step) (ss before' : List Step) (r : Step) (rest' : List Step) → AreAlike told s y → Located ss before' r rest' → Located (s ∷ ss) (y ∷ before') r rest'
  more-both s y ss before' r rest' w (stands before x rest e k h a) = stands (s ∷ before) x rest (ap (λ xs. s ∷ xs) e) k (same-both s y before before' w h) a
  more-both s y ss before' r rest' w (came n) = came n

  more-left : (s : Step) (ss before' : List Step) (r : Step) (rest' : List Step) → IsApart told s → Located ss before' r rest' → Located (s ∷ ss) before' r rest'
  more-left s ss before' r rest' w (stands before x rest e k h a) = stands (s ∷ before) x rest (ap (λ xs. s ∷ xs) e) k (same-left s before before' w h) a
  more-left s ss before' r rest' w (came n) = came n

  more-right : (y : Step) (ss before' : List Step) (r : Step) (rest' : List Step) → IsApart told y → Located ss before' r rest' → Located ss (y ∷ before') r rest'
  more-right y ss before' r rest' w (stands before x rest e k h a) = stands before x rest e k (same-right y before before' w h) a
  more-right y ss before' r rest' w (came n) = came n

  pub locate : {ss rs : List Step} → AreSteps told ss rs → (before' : List Step) (r : Step) (rest' : List Step) → rs ≡ before' ++ r ∷ rest' → Located ss before' r rest'
  locate no_steps before' r rest' e = absurd (not-empty before' r rest' e)
  locate (step_stays {s = s} {r = x} {ss = ss} {rs = rs} h a) [] r rest' e =
      let one : x ≡ r = cc in
      let tail : rs ≡ rest' = cc in
      stands [] s ss refl (subst (AreAlike told s) one h) (λ l n. refl) (subst (AreSteps told ss) tail a)
  locate (step_stays {s = s} {r = x} {ss = ss} {rs = rs} h a) (y ∷ before') r rest' e =
      let one : x ≡ y = cc in
      let tail : rs ≡ before' ++ r ∷ rest' = cc in
      more-both s y ss before' r rest' (subst (AreAlike told s) one h) (locate a before' r rest' tail)
  locate (step_goes {s = s} {ss = ss} h a) before' r rest' e = more-left s ss before' r rest' h (locate a before' r rest' e)
  locate (step_comes {r = x} h a) [] r rest' e = let one : x ≡ r = cc in came (subst (IsApart told) one h)
  locate (step_comes {r = x} {ss = ss} {rs = rs} h a) (y ∷ before') r rest' e =
      let one : x ≡ y = cc in
      let tail : rs ≡ before' ++ r ∷ rest' = cc in
      more-right y ss before' r rest' (subst (IsApart told) one h) (locate a before' r rest' tail)

  -- the same behind the instruction
  pub same-behind : (before before' : List Step) (s r : Step) → AreAlike told s r → Same before before' → Same (before ++ s ∷ []) (before' ++ r ∷ [])
  same-behind before before' s r w h l n =
      writes-append l before (s ∷ [])
      ∙ ((λ k. h l n k + cond (w.written l n k) 1 0)
      ∙ sym (writes-append l before' (r ∷ [])))

  pub certain-apart : (s : Step) (l : ℕ) → IsApart told s → told l ≡ false → use_of l s ≡ Certain → ⊥
  certain-apart s l h n u = let z : Unused ≡ Certain = sym (h.unused l n) ∙ u in cc

  pub into-apart : (s : Step) (l a : ℕ) → IsApart told s → told l ≡ false → use_of l s ≡ Into a → ⊥
  into-apart s l a h n u = let z : Unused ≡ Into a = sym (h.unused l n) ∙ u in cc

  pub leaves-apart : (s : Step) → IsApart told s → s.leaves ≡ true → ⊥
  leaves-apart s h t = let z : false ≡ true = sym h.leaves ∙ t in cc

  module _ (old new : Code) (why why' : Causes) (codes : AreCodes told old new) (others : KeepOthers told why why') where
    -- a piece of a lane outside, with its number in the other code
    piece-new : (l b n m : ℕ) → told l ≡ false → n ≡ m → why' l b m ≡ why l b n
    piece-new l b n m o e = ap (why' l b) (sym e) ∙ others l b n o

    pub live-new : (l b n m : ℕ) → told l ≡ false → n ≡ m → is_live (why l b n) ≡ true → is_live (why' l b m) ≡ true
    live-new l b n m o e h = ap is_live (piece-new l b n m o e) ∙ h

    live-old : (l b n m : ℕ) → told l ≡ false → n ≡ m → is_live (why' l b m) ≡ true → is_live (why l b n) ≡ true
    live-old l b n m o e h = sym (ap is_live (piece-new l b n m o e)) ∙ h

    exits-new : (b x : ℕ) → Among x (exits_of old b) → Among x (exits_of new b)
    exits-new b x m = subst (Among x) (codes.exits b) m

    exits-old : (b x : ℕ) → Among x (exits_of new b) → Among x (exits_of old b)
    exits-old b x m = subst (Among x) (sym (codes.exits b)) m

    -- other lanes are founded as they were
    pub founded-new : {l b n : ℕ} → Founded old why l b n → told l ≡ false → Founded new why' l b n
    founded-new (by_reading {l = l} {b = b} before s rest e c u) o = go (locate (steps-turned (codes.steps b)) before s rest e)
      where
        go : Located (steps_of new b) before s rest → Founded new why' l b (writes_in l before)
        go (stands before' r rest' e' k h z) = subst (Founded new why' l b) (h l o) (by_reading before' r rest' e' (piece-new l b (writes_in l before) (writes_in l before') o (sym (h l o)) ∙ (c ∙ ap causes.Reading (sym k.id))) (k.used l o ∙ u))
        go (came n) = absurd (certain-apart s l n o u)
    founded-new (by_move {l = l} {a = a} {b = b} before s rest e c u w f) o = go (locate (steps-turned (codes.steps b)) before s rest e) (founded-new f)
      where
        go : Located (steps_of new b) before s rest → (told a ≡ false → Founded new why' a b (writes_in a (before ++ s ∷ []))) → Founded new why' l b (writes_in l before)
        go (stands before' r rest' e' k h z) ih =
            let v : use_of l r ≡ Into a = k.used l o ∙ u in
            let p = k.apart l a o v in
            subst (Founded new why' l b) (h l o)
            (by_move before' r rest' e' (piece-new l b (writes_in l before) (writes_in l before') o (sym (h l o)) ∙ (c ∙ ap causes.Reading (sym k.id))) v (k.written a p ∙ w) (subst (Founded new why' a b) (sym (same-behind before' before r s k h a p)) (ih p)))
        go (came n) ih = absurd (into-apart s l a n o u)
    founded-new (by_exit {l = l} {b = b} {x = x} before s rest e c t m f) o = go (locate (steps-turned (codes.steps b)) before s rest e) (founded-new f o)
      where
        go : Located (steps_of new b) before s rest → Founded new why' l x 0 → Founded new why' l b (writes_in l (before ++ s ∷ []))
        go (stands before' r rest' e' k h z) ih =
            let p = same-behind before' before r s k h l o in
            subst (Founded new why' l b) p (by_exit before' r rest' e' (piece-new l b (writes_in l (before ++ s ∷ [])) (writes_in l (before' ++ r ∷ [])) o (sym p) ∙ c) (k.leaves ∙ t) (exits-new b x m) ih)
        go (came n) ih = absurd (leaves-apart s n t)
    founded-new (by_end {l = l} {b = b} {x = x} c m f) o =
        let p = same-all (codes.steps b) l o in
        subst (Founded new why' l b) (sym p) (by_end (piece-new l b (writes_in l (steps_of old b)) (writes_in l (steps_of new b)) o p ∙ c) (exits-new b x m) (founded-new f o))
    founded-new (by_phi {l = l} {b = b} c m) o =
        let p = same-all (codes.steps b) l o in
        subst (Founded new why' l b) (sym p) (by_phi (piece-new l b (writes_in l (steps_of old b)) (writes_in l (steps_of new b)) o p ∙ c) (subst (Among l) (codes.last b) m))

    module _ (grown : IsGrown old why) (right : AreRight told new why') where
      closed : IsClosed new why'
      closed = record {
        reading = λ b l before' s rest' e u. reading b l (told l) refl before' s rest' e u;
        move = λ b l a before' s rest' e u h. move b l a (told l) refl before' s rest' e u h;
        exit = λ b l x before' s rest' e t m h. exit b l x (told l) refl before' s rest' e t m h;
        end = λ b l x m h. end b l x (told l) refl m h;
        phi = λ b l m. phi b l (told l) refl m;
      }
        where
          reading : (b l : ℕ) (v : Bool) → told l ≡ v → (before' : List Step) (s : Step) (rest' : List Step) → steps_of new b ≡ before' ++ s ∷ rest' → use_of l s ≡ Certain → is_live (why' l b (writes_in l before')) ≡ true
          reading b l true o before' s rest' e u = right.reading b l o before' s rest' e u
          reading b l false o before' s rest' e u = go (locate (codes.steps b) before' s rest' e)
            where
              go : Located (steps_of old b) before' s rest' → is_live (why' l b (writes_in l before')) ≡ true
              go (stands before r rest f k h z) = live-new l b (writes_in l before) (writes_in l before') o (h l o) (grown.closed.reading b l before r rest f (k.used l o ∙ u))
              go (came n) = absurd (certain-apart s l n o u)

          move : (b l a : ℕ) (v : Bool) → told l ≡ v → (before' : List Step) (s : Step) (rest' : List Step) → steps_of new b ≡ before' ++ s ∷ rest' → use_of l s ≡ Into a → is_live (why' a b (writes_in a (before' ++ s ∷ []))) ≡ true → is_live (why' l b (writes_in l before')) ≡ true
          move b l a true o before' s rest' e u live = right.move b l a o before' s rest' e u live
          move b l a false o before' s rest' e u live = go (locate (codes.steps b) before' s rest' e)
            where
              go : Located (steps_of old b) before' s rest' → is_live (why' l b (writes_in l before')) ≡ true
              go (stands before r rest f k h z) =
                  let v : use_of l r ≡ Into a = k.used l o ∙ u in
                  let p = k.apart l a o v in
                  live-new l b (writes_in l before) (writes_in l before') o (h l o)
                  (grown.closed.move b l a before r rest f v (live-old a b (writes_in a (before ++ r ∷ [])) (writes_in a (before' ++ s ∷ [])) p (same-behind before before' r s k h a p) live))
              go (came n) = absurd (into-apart s l a n o u)

          exit : (b l x : ℕ) (v : Bool) → told l ≡ v → (before' : List Step) (s : Step) (rest' : List Step) → steps_of new b ≡ before' ++ s ∷ rest' → s.leaves ≡ true → Among x (exits_of new b) → is_live (why' l x 0) ≡ true → is_live (why' l b (writes_in l (before' ++ s ∷ []))) ≡ true
          exit b l x true o before' s rest' e t m live = right.exit b l x o before' s rest' e t m live
          exit b l x false o before' s rest' e t m live = go (locate (codes.steps b) before' s rest' e)
            where
              go : Located (steps_of old b) before' s rest' → is_live (why' l b (writes_in l (before' ++ s ∷ []))) ≡ true
              go (stands before r rest f k h z) =
                  live-new l b (writes_in l (before ++ r ∷ [])) (writes_in l (before' ++ s ∷ [])) o (same-behind before before' r s k h l o)
                  (grown.closed.exit b l x before r rest f (k.leaves ∙ t) (exits-old b x m) (live-old l x 0 0 o refl live))
              go (came n) = absurd (leaves-apart s n t)

          end : (b l x : ℕ) (v : Bool) → told l ≡ v → Among x (exits_of new b) → is_live (why' l x 0) ≡ true → is_live (why' l b (writes_in l (steps_of new b))) ≡ true
          end b l x true o m live = right.end b l x o m live
          end b l x false o m live = live-new l b (writes_in l (steps_of old b)) (writes_in l (steps_of new b)) o (same-all (codes.steps b) l o) (grown.closed.end b l x (exits-old b x m) (live-old l x 0 0 o refl live))

          phi : (b l : ℕ) (v : Bool) → told l ≡ v → Among l (last_of new b) → is_live (why' l b (writes_in l (steps_of new b))) ≡ true
          phi b l true o m = right.phi b l o m
          phi b l false o m = live-new l b (writes_in l (steps_of old b)) (writes_in l (steps_of new b)) o (same-all (codes.steps b) l o) (grown.closed.phi b l (subst (Among l) (sym (codes.last b)) m))

      founded : (l b n : ℕ) (v : Bool) → told l ≡ v → is_live (why' l b n) ≡ true → Founded new why' l b n
      founded l b n true o live = right.founded l b n o live
      founded l b n false o live = founded-new (grown.founded l b n (live-old l b n n o refl live)) o

pub grown-law : GrownLaw
grown-law told old new why why' codes grown others right = record {
  closed = closed told old new why why' codes others grown right;
  founded = λ l b n live. founded told old new why why' codes others grown right l b n (told l) refl live;
}
