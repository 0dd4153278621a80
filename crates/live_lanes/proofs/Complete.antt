-- Each piece with a point where the lane is live is marked live.
use Rattle.std.proofs.Common.{◌≡◌, ℕ, Bool, true, false, List, [], ◌∷◌, ◌++◌, refl, sym, ap, ◌∙◌, subst, append-nil}
use Rattle.live_lanes.specs.Paths.{Live, reads, moves, passes, next, leaps, goes, phi}
use Rattle.mir_meaning.specs.Paths.{Among, Step, Code, steps_of, last_of, exits_of, Use, Certain, Into, use_of, is_written, Point, Entry, Exit}
use Rattle.live_lanes.specs.Graph.{Causes, is_live, writes_in, IsClosed}
use Rattle.live_lanes.proofs.Basics.{writes-same, step-into}

module _ (code : Code) (why : Causes) (closed : IsClosed code why) where
  -- the piece of a lane at a point behind some instructions
  abbrev Marked : ℕ → ℕ → List Step → Point → Type 0
  Marked l b before (Entry rest) = steps_of code b ≡ before ++ rest → is_live (why l b (writes_in l before)) ≡ true
  Marked l b before (Exit s rest) = steps_of code b ≡ before ++ s ∷ rest → is_live (why l b (writes_in l (before ++ s ∷ []))) ≡ true

  marked-at-end : (l b : ℕ) (before : List Step) → is_live (why l b (writes_in l (steps_of code b))) ≡ true → steps_of code b ≡ before ++ [] → is_live (why l b (writes_in l before)) ≡ true
  marked-at-end l b before h e = subst (λ ss. is_live (why l b (writes_in l ss)) ≡ true) (e ∙ append-nil before) h

  pub live-marked : {b : ℕ} {p : Point} {l : ℕ} → Live code b p l → (before : List Step) → Marked l b before p
  live-marked (reads {b = b} {s = s} {rest = rest} {l = l} u) before = λ e. closed.reading b l before s rest e u
  live-marked (moves {b = b} {s = s} {rest = rest} {l = l} {a = a} u h) before = λ e. closed.move b l a before s rest e u (live-marked h before e)
  live-marked (passes {b = b} {s = s} {rest = rest} {l = l} n h) before = λ e. subst (λ k. is_live (why l b k) ≡ true) (writes-same l before s n) (live-marked h before e)
  live-marked (next {b = b} {s = s} {rest = rest} {l = l} h) before = λ e. live-marked h (before ++ s ∷ []) (step-into (steps_of code b) before s rest e)
  live-marked (leaps {b = b} {x = x} {s = s} {rest = rest} {l = l} t a h) before = λ e. closed.exit b l x before s rest e t a (live-marked h [] refl)
  live-marked (goes {b = b} {x = x} {l = l} a h) before = λ e. marked-at-end l b before (closed.end b l x a (live-marked h [] refl)) e
  live-marked (phi {b = b} {l = l} a) before = λ e. marked-at-end l b before (closed.phi b l a) e
