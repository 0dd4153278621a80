-- Paths are the same in both words, where nothing is written behind terminators that phis read.
use Rattle.std.proofs.Common.{◌≡◌, ℕ, false, List, [], ◌∷◌, ◌++◌, refl, sym, ◌∙◌, append_assoc}
use Rattle.mir_meaning.specs.Paths.{Among, here, there, Step, Code, steps_of, last_of, is_written, Point, Entry, Exit, Live, reads, moves, passes, next, leaps, goes, phi, leaps_phi}
use Rattle.live_lanes.specs.Paths as table
use Rattle.live_laws.specs.Exact.Same.{IsQuiet}

module _ (code : Code) (quiet : IsQuiet code) where
  -- the point lies in the block
  abbrev Sits : ℕ → Point → Type 0
  Sits b (Entry ss) = (before : List Step) × (steps_of code b ≡ before ++ ss)
  Sits b (Exit s ss) = (before : List Step) × (steps_of code b ≡ before ++ s ∷ ss)

  onward : (b : ℕ) (s : Step) (ss : List Step) → Sits b (Exit s ss) → Sits b (Entry ss)
  onward b s ss z = (z.0 ++ s ∷ [], z.1 ∙ sym (append_assoc z.0 (s ∷ []) ss))

  -- a lane that is read at the end is live before steps that don't write it
  reaches : (b l : ℕ) → Among l (last_of code b) → (ss : List Step) → ((r : Step) → Among r ss → is_written l r ≡ false) → table.Live code b (Entry ss) l
  reaches b l m [] h = table.phi m
  reaches b l m (s ∷ ss) h = table.passes (h s here) (table.next (reaches b l m ss (λ r k. h r (there k))))

  pub same-forth : {b : ℕ} {p : Point} {l : ℕ} → Live code b p l → Sits b p → table.Live code b p l
  same-forth (reads u) z = table.reads u
  same-forth (moves u h) z = table.moves u (same-forth h z)
  same-forth (passes w h) z = table.passes w (same-forth h z)
  same-forth (next {b = b} {s = s} {rest = rest} {l = l} h) z = table.next (same-forth h (onward b s rest z))
  same-forth (leaps t m h) z = table.leaps t m (same-forth h ([], refl))
  same-forth (goes m h) z = table.goes m (same-forth h ([], refl))
  same-forth (phi m) z = table.phi m
  same-forth (leaps_phi {b = b} {s = s} {rest = rest} {l = l} t m) z = table.next (reaches b l m rest (λ r k. quiet b l z.0 s rest z.1 t m r k))

  -- and back

  pub same-back : {b : ℕ} {p : Point} {l : ℕ} → table.Live code b p l → Live code b p l
  same-back (table.reads u) = reads u
  same-back (table.moves u h) = moves u (same-back h)
  same-back (table.passes w h) = passes w (same-back h)
  same-back (table.next h) = next (same-back h)
  same-back (table.leaps t m h) = leaps t m (same-back h)
  same-back (table.goes m h) = goes m (same-back h)
  same-back (table.phi m) = phi m
