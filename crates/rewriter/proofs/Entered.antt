-- A lane enters a block exactly where the piece that begins with it is live.
use Rattle.std.proofs.Common.{◌≡◌, ◌<◌, ℕ, Bool, true, false, not, List, ◌∷◌, ◌++◌, ◌⊎◌, refl, sym, ap, ◌∙◌, subst, inl, inr, arith}
use Rattle.instr_effects.specs.Numbered.{number_in}
use Rattle.mir_meaning.specs.Paths.{Among, Step, Code, steps_of}
use Rattle.live_lanes.specs.declared.row.PieceEnd.{PieceEnd}
use Rattle.live_lanes.specs.declared.row.PieceEnd.TheVariants as ends
use Rattle.live_lanes.specs.Doing.{lane_code}
use Rattle.live_lanes.specs.Ends.{Counts, reads, moves, leaves, goes, phi, IsEnd, row_end}
use Rattle.live_lanes.specs.Entered.{IsNumbered, causes}
use Rattle.live_lanes.specs.Graph.{Causes, is_live, Founded, by_reading, by_move, by_exit, by_end, by_phi, IsGrown}
use Rattle.live_lanes.specs.Reach.{is_never}
use Rattle.live_lanes.specs.Table.{Numbers, end_rank}
use Rattle.live_lanes.proofs.Basics.{among-append}
use Rattle.live_lanes.proofs.Numbered.{rises-above}
use Rattle.rewriter.specs.Laws.{EntersLaw}

module _ (code : Code) (slots : Numbers) (why : Causes) (grown : IsGrown code why) (numbered : IsNumbered code slots) where
  among : (b : ℕ) (before : List Step) (s : Step) (rest : List Step) → steps_of code b ≡ before ++ s ∷ rest → Among s (steps_of code b)
  among b before s rest e = subst (Among s) (sym e) (among-append s before rest)

  -- a piece with a point that counts is live
  counts-live : {l b n : ℕ} {p : PieceEnd} → Counts code why l b n p → is_live (why l b n) ≡ true
  counts-live {l} {b} {n} (reads before s rest e k u) = subst (λ m. is_live (why l b m) ≡ true) k (grown.closed.reading b l before s rest e u)
  counts-live {l} {b} {n} (moves a before s rest e k u g) = subst (λ m. is_live (why l b m) ≡ true) k (grown.closed.move b l a before s rest e u g)
  counts-live {l} {b} {n} (leaves x before s rest e k f a g) = subst (λ m. is_live (why l b m) ≡ true) k (grown.closed.exit b l x before s rest e f a g)
  counts-live {l} {b} {n} (goes x k a g) = subst (λ m. is_live (why l b m) ≡ true) k (grown.closed.end b l x a g)
  counts-live {l} {b} {n} (phi k a) = subst (λ m. is_live (why l b m) ≡ true) k (grown.closed.phi b l a)

  founded-alive : {l b n : ℕ} → Founded code why l b n → is_live (why l b n) ≡ true
  founded-alive (by_reading before s rest e c u) = ap is_live c
  founded-alive (by_move before s rest e c u w f) = ap is_live c
  founded-alive (by_exit before s rest e c g a f) = ap is_live c
  founded-alive (by_end c a f) = ap is_live c
  founded-alive (by_phi c a) = ap is_live c

  -- a founded piece has a point that counts
  abbrev HasPoint : ℕ → ℕ → ℕ → Type 0
  HasPoint l b n = (p : PieceEnd) × Counts code why l b n p × (0 < end_rank slots p)

  founded-point : {l b n : ℕ} → Founded code why l b n → HasPoint l b n
  founded-point {l} {b} (by_reading before s rest e c u) =
      let f = rises-above slots 0 (steps_of code b) s (numbered b) (among b before s rest e) in (ends.Entry s.id, reads before s rest e refl u, omega (arith, f))
  founded-point {l} {b} (by_move {a = a} before s rest e c u w g) =
      let f = rises-above slots 0 (steps_of code b) s (numbered b) (among b before s rest e) in (ends.Entry s.id, moves a before s rest e refl u (founded-alive g), omega (arith, f))
  founded-point {l} {b} (by_exit {x = y} before s rest e c k a g) =
      let f = rises-above slots 0 (steps_of code b) s (numbered b) (among b before s rest e) in (ends.Exit s.id, leaves y before s rest e refl k a (founded-alive g), omega (arith, f))
  founded-point {l} {b} (by_end {x = y} c a g) = (ends.Last, goes y refl a (founded-alive g), omega arith)
  founded-point {l} {b} (by_phi c a) = (ends.Last, phi refl a, omega arith)

  enters-live : (l b : ℕ) (e : PieceEnd) → IsEnd code slots why l b 0 e → not (is_never e) ≡ is_live (why l b 0)
  enters-live l b e h = go e h (is_live (why l b 0)) refl
    where
      alive : (d : PieceEnd) → is_never d ≡ false → (d ≡ ends.Never) ⊎ Counts code why l b 0 d → is_live (why l b 0) ≡ true
      alive d n (inl z) = absurd (let w : true ≡ false = sym (ap is_never z) ∙ n in cc)
      alive d n (inr c) = counts-live c

      go : (d : PieceEnd) → IsEnd code slots why l b 0 d → (t : Bool) → is_live (why l b 0) ≡ t → not (is_never d) ≡ is_live (why l b 0)
      go ends.Never k true f = absurd (let c = founded-point (grown.founded l b 0 f) in let m = k.last c.0 c.1 in let z = c.2 in omega arith)
      go ends.Never k false f = sym f
      go (ends.Entry id) k t f = sym (alive (ends.Entry id) refl k.counts)
      go (ends.Exit id) k t f = sym (alive (ends.Exit id) refl k.counts)
      go ends.Last k t f = sym (alive ends.Last refl k.counts)

pub enters-law : EntersLaw
enters-law t f x computed matched n p =
    enters-live (lane_code t f (number_in x.lanes)) x.order.slots (causes x.rows.rows.items) (computed.grown matched) (computed.table matched).numbered n p (row_end x.rows.rows.items n p 0) (computed.ended matched n p 0)
