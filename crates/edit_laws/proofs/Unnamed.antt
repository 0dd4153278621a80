-- A lane that a code names nowhere: it has one piece in each block, for which nothing but another piece of the lane is a reason.
use Rattle.std.proofs.Common.{◌≡◌, ℕ, suc, Bool, true, false, cond, List, [], ◌∷◌, ◌++◌, Option, None, Some, refl, sym, ap, ◌∙◌, subst, inl}
use Rattle.mir_meaning.specs.Paths.{Among, here, there, Step, Code, steps_of, last_of, has, Use, Unused, Certain, Into, use_of, writing_of, is_written}
use Rattle.live_lanes.specs.declared.row.Cause.{Cause}
use Rattle.live_lanes.specs.declared.row.PieceEnd.{PieceEnd}
use Rattle.live_lanes.specs.declared.row.PieceEnd.TheVariants as ends
use Rattle.live_lanes.specs.Graph.{Causes, is_live, writes_in, Founded, by_reading, by_move, by_exit, by_end, by_phi, IsGrown}
use Rattle.live_lanes.specs.Table.{Numbers, unseen}
use Rattle.live_lanes.specs.Entered.{shape, Start, reading_of, readings_until, starts, shape_of}
use Rattle.live_lanes.specs.Ends.{Counts, reads, moves, leaves, goes, phi, IsEnd}
use Rattle.live_lanes.proofs.Basics.{among-append}
use Rattle.live_lanes.proofs.Coded.{has-among}
use Rattle.live_lanes.proofs.Numbered.{among-left}
use Rattle.edit_laws.specs.Chains.{Node}
use Rattle.edit_laws.specs.LetGo.{IsUnnamed}
use Rattle.edit_laws.specs.Reasons.{IsReason, for_reading, for_move, for_exit, for_end, for_phi, counts, Begins, at_start, at_write}
use Rattle.edit_laws.proofs.Deferred.{none-written}
use Rattle.edit_laws.proofs.Fallen.{no-other}

unwritten-all : (l : ℕ) (ss : List Step) → ((s : Step) → Among s ss → is_written l s ≡ false) → writes_in l ss ≡ 0
unwritten-all l [] h = refl
unwritten-all l (s ∷ ss) h = ap (λ u. cond u (suc (writes_in l ss)) (writes_in l ss)) (h s here) ∙ unwritten-all l ss (λ r a. h r (there a))

readings-none : (l : ℕ) (ss : List Step) → ((s : Step) → Among s ss → use_of l s ≡ Unused) → ((s : Step) → Among s ss → is_written l s ≡ false) → readings_until l ss ≡ []
readings-none l [] u w = refl
readings-none l (s ∷ ss) u w = λ k. reading_of s.id (u s here k) ++ cond (w s here k) [] (readings-none l ss (λ r a. u r (there a)) (λ r a. w r (there a)) k)

starts-none : (l : ℕ) (ss : List Step) → ((s : Step) → Among s ss → is_written l s ≡ false) → starts l ss ≡ []
starts-none l [] w = refl
starts-none l (s ∷ ss) w =
    (λ k. elim (none-written (writing_of l s.writes) (w s here) k) as (λ q. List Start) [ None ↦ starts l ss | Some d ↦ record { start = s.id; early = d.early; from = d.from; readings = readings_until l ss } ∷ starts l ss ])
    ∙ starts-none l ss (λ r a. w r (there a))

none-is : (o : Option Node) (m : Node) → None ≡ Some m → ⊥
none-is o m e = cc

certain-not : Unused ≡ Certain → ⊥
certain-not e = cc

into-not : (a : ℕ) → Unused ≡ Into a → ⊥
into-not a e = cc

some-node : (n m : Node) → Some n ≡ Some m → n ≡ m
some-node n m e = cc

module _ (code : Code) where
  inside : (b : ℕ) (before : List Step) (s : Step) (rest : List Step) → steps_of code b ≡ before ++ s ∷ rest → Among s (steps_of code b)
  inside b before s rest e = subst (Among s) (sym e) (among-append s before rest)

  unused-at : (l b : ℕ) → IsUnnamed code l → (before : List Step) (s : Step) (rest : List Step) → steps_of code b ≡ before ++ s ∷ rest → (u : Use) → use_of l s ≡ u → Unused ≡ u
  unused-at l b un before s rest e u g = sym (un.unused b s (inside b before s rest e)) ∙ g

  -- the number of the piece at each point
  pub first-piece : (l b : ℕ) → IsUnnamed code l → (before rest : List Step) → steps_of code b ≡ before ++ rest → writes_in l before ≡ 0
  first-piece l b un before rest e = unwritten-all l before (λ s a. un.unwritten b s (subst (Among s) (sym e) (among-left s before rest a)))

  pub begins-first : {l b n : ℕ} {o : Option ℕ} → Begins code l b n o → IsUnnamed code l → (n ≡ 0) × (o ≡ None)
  begins-first at_start un = (refl, refl)
  begins-first {l = l} {b = b} (at_write before s rest e w) un = no-other (is_written l s) w (un.unwritten b s (inside b before s rest e))

  -- a reason for it rests on a piece of the lane
  reason-follows : {l b n : ℕ} {c : Cause} {o : Option Node} → IsReason code l b n c o → IsUnnamed code l → (x : ℕ) × (o ≡ Some (l, x, 0))
  reason-follows (for_reading {l = l} {b = b} before s rest e u) un = absurd (certain-not (unused-at l b un before s rest e Certain u))
  reason-follows (for_move {l = l} {a = a} {b = b} before s rest e u w) un = absurd (into-not a (unused-at l b un before s rest e (Into a) u))
  reason-follows (for_exit {x = x} before s rest e t m) un = (x, refl)
  reason-follows (for_end {x = x} m) un = (x, refl)
  reason-follows (for_phi {l = l} {b = b} m) un = absurd (un.unread b m)

  -- and doesn't count where the lane is live nowhere
  pub reason-idle : (why : Causes) {l b n : ℕ} {c : Cause} {o : Option Node} → IsReason code l b n c o → IsUnnamed code l → ((x : ℕ) → is_live (why l x 0) ≡ false) → counts why o ≡ true → ⊥
  reason-idle why {o = o} r un dead live =
      let z = reason-follows r un in
      no-other (counts why o) live (ap (counts why) z.1 ∙ dead z.0)

  -- reasons for pieces of other lanes rest on pieces of others
  pub reason-apart : {l b n : ℕ} {c : Cause} {o : Option Node} → IsReason code l b n c o → (lets_go : ℕ → Bool) → ((k : ℕ) → lets_go k ≡ true → IsUnnamed code k) → lets_go l ≡ false → (m : Node) → o ≡ Some m → lets_go m.0 ≡ false
  reason-apart {o = o} (for_reading before s rest e u) lets_go un other m g = absurd (none-is o m g)
  reason-apart (for_move {l = l} {a = a} {b = b} before s rest e u w) lets_go un other m g = ap (λ (z : Node). lets_go z.0) (sym (some-node (a, b, writes_in a (before ++ s ∷ [])) m g)) ∙ go (lets_go a) refl
    where
      go : (v : Bool) → lets_go a ≡ v → lets_go a ≡ false
      go true f = no-other (is_written a s) w ((un a f).unwritten b s (inside b before s rest e))
      go false f = f
  reason-apart (for_exit {l = l} {x = x} before s rest e t a) lets_go un other m g = ap (λ (z : Node). lets_go z.0) (sym (some-node (l, x, 0) m g)) ∙ other
  reason-apart (for_end {l = l} {x = x} a) lets_go un other m g = ap (λ (z : Node). lets_go z.0) (sym (some-node (l, x, 0) m g)) ∙ other
  reason-apart {o = o} (for_phi a) lets_go un other m g = absurd (none-is o m g)

  -- it is live in no grown table
  founded-not : {why : Causes} {l b n : ℕ} → Founded code why l b n → IsUnnamed code l → ⊥
  founded-not (by_reading {l = l} {b = b} before s rest e c u) un = certain-not (unused-at l b un before s rest e Certain u)
  founded-not (by_move {l = l} {a = a} {b = b} before s rest e c u w f) un = into-not a (unused-at l b un before s rest e (Into a) u)
  founded-not (by_exit before s rest e c t m f) un = founded-not f un
  founded-not (by_end c m f) un = founded-not f un
  founded-not (by_phi {b = b} c m) un = un.unread b m

  pub grown-dead : (why : Causes) → IsGrown code why → (l b n : ℕ) → IsUnnamed code l → is_live (why l b n) ≡ false
  grown-dead why grown l b n un = go (is_live (why l b n)) refl
    where
      go : (u : Bool) → is_live (why l b n) ≡ u → is_live (why l b n) ≡ false
      go true e = absurd (founded-not (grown.founded l b n e) un)
      go false e = e

  -- and has no end
  module _ (why : Causes) (l b n : ℕ) (un : IsUnnamed code l) (dead : (x : ℕ) → is_live (why l x 0) ≡ false) where
    counts-not : {p : PieceEnd} → Counts code why l b n p → ⊥
    counts-not (reads before s rest e w u) = certain-not (unused-at l b un before s rest e Certain u)
    counts-not (moves a before s rest e w u live) = into-not a (unused-at l b un before s rest e (Into a) u)
    counts-not (leaves x before s rest e w t m live) = no-other (is_live (why l x 0)) live (dead x)
    counts-not (goes x w m live) = no-other (is_live (why l x 0)) live (dead x)
    counts-not (phi w m) = un.unread b m

    pub never-ends : (slots : Numbers) → IsEnd code slots why l b n ends.Never
    never-ends slots = record { counts = inl refl; last = λ p c. absurd (counts-not c) }

  -- an empty cell has its pieces
  pub unseen-shape : (l b : ℕ) → IsUnnamed code l → shape unseen ≡ shape_of code l b
  unseen-shape l b un = sym (λ k. record {
    is_read_last = unread (has l (last_of code b)) refl k;
    readings = readings-none l (steps_of code b) (un.unused b) (un.unwritten b) k;
    segments = starts-none l (steps_of code b) (un.unwritten b) k;
  })
    where
      unread : (u : Bool) → has l (last_of code b) ≡ u → has l (last_of code b) ≡ false
      unread true e = absurd (un.unread b (has-among l (last_of code b) e))
      unread false e = e
