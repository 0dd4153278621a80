-- The lanes that a code names, and edits at no others.
use Rattle.std.proofs.Common.{◌≡◌, ◌⊎◌, ◌<◌, ℕ, zero, suc, Bool, true, false, cond, ◌&&◌, ltb, length, List, [], ◌∷◌, ◌++◌, Option, None, Some, refl, sym, ap, ◌∙◌, subst, inl, inr, arith}
use Rattle.std.specs.Prelude.{nat_eq}
use Rattle.std.proofs.lemmas.Bool.{ltb-true, ltb-false}
use Rattle.std.proofs.lemmas.Option.{slice_get_past}
use Rattle.mir_meaning.specs.declared.writing.LaneDef.{LaneDef}
use Rattle.mir_meaning.specs.Paths.{Among, here, there, Body, Step, Code, steps_of, has, is_some_number, Unused, Certain, Into, use_of, move_of, writing_of, is_written}
use Rattle.live_lanes.specs.Graph.{writes_in}
use Rattle.live_lanes.proofs.Basics.{none-among, step-into}
use Rattle.live_lanes.proofs.Coded.{has-among}
use Rattle.live_lanes.proofs.Numbered.{among-cases, among-left, among-right, among-split}
use Rattle.edit_laws.specs.Chains.{Node}
use Rattle.edit_laws.specs.LetGo.{IsUnnamed}
use Rattle.edit_laws.specs.Reasons.{Touched, IsLike, IsNew, AreEdited, edit_none, edit_stays, edit_comes, IsEditOf, AreListed}
use Rattle.edit_laws.proofs.Begun.{no-split}
use Rattle.edit_laws.proofs.Deferred.{none-written}
use Rattle.edit_laws.proofs.Fallen.{no-other}
use Rattle.edit_laws.proofs.Unnamed.{first-piece}

-- all lanes that the instructions of a code name

abbrev lane_from : Option ℕ → List ℕ
lane_from None = []
lane_from (Some x) = x ∷ []

abbrev lanes_written : List LaneDef → List ℕ
lanes_written [] = []
lanes_written (w ∷ ws) = w.lane ∷ (lane_from w.from ++ lanes_written ws)

abbrev step_lanes : Step → List ℕ
step_lanes s = s.reads ++ lanes_written s.writes

abbrev steps_lanes : List Step → List ℕ
steps_lanes [] = []
steps_lanes (s ∷ ss) = step_lanes s ++ steps_lanes ss

abbrev pub code_lanes : Code → List ℕ
code_lanes [] = []
code_lanes (x ∷ xs) = steps_lanes x.steps ++ code_lanes xs

head-other : (l x : ℕ) (xs : List ℕ) → has l (x ∷ xs) ≡ false → (nat_eq x l ≡ false) × (has l xs ≡ false)
head-other l x xs e = go (nat_eq x l) refl e
  where
    go : (u : Bool) → nat_eq x l ≡ u → cond u true (has l xs) ≡ false → (nat_eq x l ≡ false) × (has l xs ≡ false)
    go true f g = absurd (let z : true ≡ false = g in cc)
    go false f g = (f, g)

both-other : (l : ℕ) (xs ys : List ℕ) → has l (xs ++ ys) ≡ false → (has l xs ≡ false) × (has l ys ≡ false)
both-other l [] ys e = (refl, e)
both-other l (x ∷ xs) ys e =
    let h = head-other l x (xs ++ ys) e in
    let ih = both-other l xs ys h.1 in
    (ap (λ u. cond u true (has l xs)) h.0 ∙ ih.0, ih.1)

not-from : (l : ℕ) (o : Option ℕ) → has l (lane_from o) ≡ false → is_some_number l o ≡ false
not-from l None e = refl
not-from l (Some x) e = (head-other l x [] e).0

not-written : (l : ℕ) (ws : List LaneDef) → has l (lanes_written ws) ≡ false → (move_of l ws ≡ Unused) × (writing_of l ws ≡ None)
not-written l [] e = (refl, refl)
not-written l (w ∷ ws) e =
    let h = head-other l w.lane (lane_from w.from ++ lanes_written ws) e in
    let g = both-other l (lane_from w.from) (lanes_written ws) h.1 in
    let ih = not-written l ws g.1 in (
      ap (λ u. cond u (Into w.lane) (move_of l ws)) (not-from l w.from g.0) ∙ ih.0,
      ap (λ u. cond u (Some w) (writing_of l ws)) h.0 ∙ ih.1,
    )

-- the instruction does nothing to the lane
abbrev pub LeavesLane : ℕ → Step → Type 0
LeavesLane l s = (use_of l s ≡ Unused) × (writing_of l s.writes ≡ None)

not-named : (l : ℕ) (s : Step) → has l (step_lanes s) ≡ false → LeavesLane l s
not-named l s e =
    let h = both-other l s.reads (lanes_written s.writes) e in
    let g = not-written l s.writes h.1 in
    (ap (λ u. cond u Certain (move_of l s.writes)) h.0 ∙ g.0, g.1)

steps-leave : (l : ℕ) (ss : List Step) → has l (steps_lanes ss) ≡ false → (s : Step) → Among s ss → LeavesLane l s
steps-leave l [] e s a = absurd (none-among s a)
steps-leave l (r ∷ ss) e s here = not-named l s (both-other l (step_lanes s) (steps_lanes ss) e).0
steps-leave l (r ∷ ss) e s (there a) = steps-leave l ss (both-other l (step_lanes r) (steps_lanes ss) e).1 s a

pub code-leaves : (l : ℕ) (code : Code) (b : ℕ) → has l (code_lanes code) ≡ false → (s : Step) → Among s (steps_of code b) → LeavesLane l s
code-leaves l [] b e s a = absurd (none-among s a)
code-leaves l (x ∷ xs) zero e s a = steps-leave l x.steps (both-other l (steps_lanes x.steps) (code_lanes xs) e).0 s a
code-leaves l (x ∷ xs) (suc b) e s a = code-leaves l xs b (both-other l (steps_lanes x.steps) (code_lanes xs) e).1 s a

-- a lane that the test tells is touched only where the old code names it

abbrev spared : Bool → Bool → Bool → Bool
spared lets_go named touched = cond lets_go (named && touched) touched

abbrev pub touched_named : (ℕ → Bool) → Code → Touched → Touched
touched_named lets_go old touched l b id = spared (lets_go l) (has l (code_lanes old)) (touched l b id)

spared-false : (g n t : Bool) → spared g n t ≡ false → (t ≡ false) ⊎ ((g ≡ true) × (n ≡ false))
spared-false true true t e = inl e
spared-false true false t e = inr (refl, refl)
spared-false false n t e = inl e

spared-true : (g n t : Bool) → spared g n t ≡ true → (t ≡ true) × ((g ≡ true) → n ≡ true)
spared-true true true t e = (e, λ h. refl)
spared-true true false t e = absurd (let z : false ≡ true = e in cc)
spared-true false n t e = (e, λ h. absurd (let z : false ≡ true = h in cc))

spared-none : (g n t : Bool) → t ≡ false → spared g n t ≡ false
spared-none true true t e = e
spared-none true false t e = refl
spared-none false n t e = e

module _ (touched : Touched) (old new : Code) (lets_go : ℕ → Bool) (unnamed : (l : ℕ) → lets_go l ≡ true → IsUnnamed new l) where
  abbrev fewer : Touched
  fewer = touched_named lets_go old touched

  pub fewer-false : (l b id : ℕ) → touched l b id ≡ false → fewer l b id ≡ false
  fewer-false l b id e = spared-none (lets_go l) (has l (code_lanes old)) (touched l b id) e

  was-false : (l b id : ℕ) → fewer l b id ≡ false → (touched l b id ≡ false) ⊎ ((lets_go l ≡ true) × (has l (code_lanes old) ≡ false))
  was-false l b id e = spared-false (lets_go l) (has l (code_lanes old)) (touched l b id) e

  like-still : (b : ℕ) (s r : Step) → Among s (steps_of old b) → Among r (steps_of new b) → IsLike (λ l i. touched l b i) s r → IsLike (λ l i. fewer l b i) s r
  like-still b s r m n h = record { id = h.id; leaves = h.leaves; used = λ l e. used l (was-false l b r.id e); writing = λ l e. writing l (was-false l b r.id e) }
    where
      used : (l : ℕ) → (touched l b r.id ≡ false) ⊎ ((lets_go l ≡ true) × (has l (code_lanes old) ≡ false)) → use_of l s ≡ use_of l r
      used l (inl e) = h.used l e
      used l (inr x) = (code-leaves l old b x.1 s m).0 ∙ sym ((unnamed l x.0).unused b r n)

      writing : (l : ℕ) → (touched l b r.id ≡ false) ⊎ ((lets_go l ≡ true) × (has l (code_lanes old) ≡ false)) → writing_of l s.writes ≡ writing_of l r.writes
      writing l (inl e) = h.writing l e
      writing l (inr x) = (code-leaves l old b x.1 s m).1 ∙ sym (none-written (writing_of l r.writes) ((unnamed l x.0).unwritten b r n))

  new-still : (b : ℕ) (r : Step) → Among r (steps_of new b) → IsNew (λ l i. touched l b i) r → IsNew (λ l i. fewer l b i) r
  new-still b r n h = record { leaves = h.leaves; unused = λ l e. unused l (was-false l b r.id e); unwritten = λ l e. unwritten l (was-false l b r.id e) }
    where
      unused : (l : ℕ) → (touched l b r.id ≡ false) ⊎ ((lets_go l ≡ true) × (has l (code_lanes old) ≡ false)) → use_of l r ≡ Unused
      unused l (inl e) = h.unused l e
      unused l (inr x) = (unnamed l x.0).unused b r n

      unwritten : (l : ℕ) → (touched l b r.id ≡ false) ⊎ ((lets_go l ≡ true) × (has l (code_lanes old) ≡ false)) → is_written l r ≡ false
      unwritten l (inl e) = h.unwritten l e
      unwritten l (inr x) = (unnamed l x.0).unwritten b r n

  steps-still : (b : ℕ) {ss rs : List Step} → AreEdited (λ l i. touched l b i) ss rs → ((s : Step) → Among s ss → Among s (steps_of old b)) → ((r : Step) → Among r rs → Among r (steps_of new b)) → AreEdited (λ l i. fewer l b i) ss rs
  steps-still b edit_none m n = edit_none
  steps-still b (edit_stays {s = s} {r = r} h a) m n = edit_stays (like-still b s r (m s here) (n r here) h) (steps-still b a (λ x k. m x (there k)) (λ x k. n x (there k)))
  steps-still b (edit_comes {r = r} h a) m n = edit_comes (new-still b r (n r here) h) (steps-still b a m (λ x k. n x (there k)))

  pub edit-still : IsEditOf touched old new → IsEditOf fewer old new
  edit-still e = record { steps = λ b. steps-still b (e.steps b) (λ s a. a) (λ r a. a); last = e.last; exits = e.exits }

  -- the first pieces of such lanes in all blocks

  abbrev pub block_pieces : ℕ → ℕ → List Node
  block_pieces l zero = []
  block_pieces l (suc n) = (l, n, 0) ∷ block_pieces l n

  block-there : (l b n : ℕ) → b < n → Among {A = Node} (l, b, 0) (block_pieces l n)
  block-there l b zero h = absurd (omega (arith, h))
  block-there l b (suc n) h = go (ltb b n) refl (λ lt. block-there l b n lt)
    where
      go : (u : Bool) → ltb b n ≡ u → (b < n → Among {A = Node} (l, b, 0) (block_pieces l n)) → Among {A = Node} (l, b, 0) ((l, n, 0) ∷ block_pieces l n)
      go true e ih = there (ih (ltb-true b n e))
      go false e ih =
          let g = ltb-false b n e in
          let same : b ≡ n = omega (arith, h, g) in
          subst (λ k. Among {A = Node} (l, b, 0) ((l, k, 0) ∷ block_pieces l n)) same here

  block-lane : (l n : ℕ) (k : Node) → Among k (block_pieces l n) → k.0 ≡ l
  block-lane l zero k a = absurd (none-among k a)
  block-lane l (suc n) k a = go (among-cases k (l, n, 0) (block_pieces l n) a) (λ c. block-lane l n k c)
    where
      go : (k ≡ (l, n, 0)) ⊎ Among k (block_pieces l n) → (Among k (block_pieces l n) → k.0 ≡ l) → k.0 ≡ l
      go (inl e) ih = ap (λ (z : Node). z.0) e
      go (inr c) ih = ih c

  abbrev pub lane_pieces : List ℕ → List Node
  lane_pieces [] = []
  lane_pieces (l ∷ ls) = cond (lets_go l) (block_pieces l (length new)) [] ++ lane_pieces ls

  lane-there : (l b : ℕ) (ls : List ℕ) → Among l ls → lets_go l ≡ true → b < length new → Among {A = Node} (l, b, 0) (lane_pieces ls)
  lane-there l b [] a e h = absurd (none-among l a)
  lane-there l b (k ∷ ls) a e h = go (among-cases l k ls a) (λ c. lane-there l b ls c e h)
    where
      go : (l ≡ k) ⊎ Among l ls → (Among l ls → Among {A = Node} (l, b, 0) (lane_pieces ls)) → Among {A = Node} (l, b, 0) (cond (lets_go k) (block_pieces k (length new)) [] ++ lane_pieces ls)
      go (inl f) ih =
          let own : Among {A = Node} (l, b, 0) (cond (lets_go l) (block_pieces l (length new)) []) = subst (λ u. Among {A = Node} (l, b, 0) (cond u (block_pieces l (length new)) [])) (sym e) (block-there l b (length new) h) in
          among-left (l, b, 0) (cond (lets_go k) (block_pieces k (length new)) []) (lane_pieces ls) (subst (λ j. Among {A = Node} (l, b, 0) (cond (lets_go j) (block_pieces j (length new)) [])) f own)
      go (inr c) ih = among-right (l, b, 0) (cond (lets_go k) (block_pieces k (length new)) []) (lane_pieces ls) (ih c)

  lanes-gone : (ls : List ℕ) (k : Node) → Among k (lane_pieces ls) → lets_go k.0 ≡ true
  lanes-gone [] k a = absurd (none-among k a)
  lanes-gone (l ∷ ls) k a = go (among-split k (cond (lets_go l) (block_pieces l (length new)) []) (lane_pieces ls) a) (λ c. lanes-gone ls k c)
    where
      first : (u : Bool) → lets_go l ≡ u → Among k (cond u (block_pieces l (length new)) []) → lets_go k.0 ≡ true
      first true e c = ap lets_go (block-lane l (length new) k c) ∙ e
      first false e c = absurd (none-among k c)

      go : Among k (cond (lets_go l) (block_pieces l (length new)) []) ⊎ Among k (lane_pieces ls) → (Among k (lane_pieces ls) → lets_go k.0 ≡ true) → lets_go k.0 ≡ true
      go (inl c) ih = first (lets_go l) refl c
      go (inr c) ih = ih c

  -- behind the last block there are no instructions
  block-bound : (b : ℕ) (before : List Step) (s : Step) (rest : List Step) → steps_of new b ≡ before ++ s ∷ rest → b < length new
  block-bound b before s rest e = go (ltb b (length new)) refl
    where
      go : (u : Bool) → ltb b (length new) ≡ u → b < length new
      go true f = ltb-true b (length new) f
      go false f = absurd (no-split before s rest (sym (ap (λ (o : Option Body). elim o as (λ q. List Step) [ None ↦ [] | Some x ↦ x.steps ]) (slice_get_past new b (ltb-false b (length new) f))) ∙ e))

  module _ (list : List Node) (listed : (l b : ℕ) (before : List Step) (s : Step) (rest : List Step) → lets_go l ≡ false → steps_of new b ≡ before ++ s ∷ rest → touched l b s.id ≡ true → Among {A = Node} (l, b, writes_in l before) list × Among {A = Node} (l, b, writes_in l (before ++ s ∷ [])) list) where
    -- with them all that is touched is listed
    abbrev pub more_listed : List Node
    more_listed = lane_pieces (code_lanes old) ++ list

    gone-listed : (l b : ℕ) (before : List Step) (s : Step) (rest : List Step) → lets_go l ≡ true → has l (code_lanes old) ≡ true → steps_of new b ≡ before ++ s ∷ rest → Among {A = Node} (l, b, writes_in l before) more_listed × Among {A = Node} (l, b, writes_in l (before ++ s ∷ [])) more_listed
    gone-listed l b before s rest g h e =
        let own : Among {A = Node} (l, b, 0) more_listed = among-left (l, b, 0) (lane_pieces (code_lanes old)) list (lane-there l b (code_lanes old) (has-among l (code_lanes old) h) g (block-bound b before s rest e)) in (
          subst (λ k. Among {A = Node} (l, b, k) more_listed) (sym (first-piece new l b (unnamed l g) before (s ∷ rest) e)) own,
          subst (λ k. Among {A = Node} (l, b, k) more_listed) (sym (first-piece new l b (unnamed l g) (before ++ s ∷ []) rest (step-into (steps_of new b) before s rest e))) own,
        )

    pub more-listed : AreListed fewer new more_listed
    more-listed l b before s rest e t = go (lets_go l) refl (spared-true (lets_go l) (has l (code_lanes old)) (touched l b s.id) t)
      where
        go : (u : Bool) → lets_go l ≡ u → (touched l b s.id ≡ true) × ((lets_go l ≡ true) → has l (code_lanes old) ≡ true) → Among {A = Node} (l, b, writes_in l before) more_listed × Among {A = Node} (l, b, writes_in l (before ++ s ∷ [])) more_listed
        go true f x = gone-listed l b before s rest f (x.1 f) e
        go false f x =
            let z = listed l b before s rest f e x.0 in
            (among-right (l, b, writes_in l before) (lane_pieces (code_lanes old)) list z.0, among-right (l, b, writes_in l (before ++ s ∷ [])) (lane_pieces (code_lanes old)) list z.1)

    -- of other lanes no more pieces
    pub listed-only : (n : Node) → lets_go n.0 ≡ false → Among n more_listed → Among n list
    listed-only n e a = go (among-split n (lane_pieces (code_lanes old)) list a)
      where
        go : Among n (lane_pieces (code_lanes old)) ⊎ Among n list → Among n list
        go (inl c) = no-other (lets_go n.0) (lanes-gone (code_lanes old) n c) e
        go (inr c) = c
