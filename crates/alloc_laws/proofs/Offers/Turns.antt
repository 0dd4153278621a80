-- Pieces end in turn, where each is over before the writing at the exit that begins the next one.
use Rattle.std.proofs.Common.{◌≡◌, ◌<◌, ◌≤◌, ℕ, zero, suc, Bool, true, false, cond, List, [], ◌∷◌, Some, refl, sym, ap, ◌∙◌, arith}
use Rattle.std.specs.Prelude.{nat_le, slice_get}
use Rattle.std.proofs.lemmas.Bool.{and_from, le-leb}
use Rattle.live_lanes.specs.declared.row.PieceEnd.{PieceEnd}
use Rattle.live_lanes.specs.Table.{Numbers, Begun, Seen, entry_rank, exit_rank, end_rank, end_in, begun_end, leading}
use Rattle.live_lanes.specs.Held.{hold_rank}
use Rattle.split_choose.specs.Seen.{turns_from, ends_in_turn}

-- the first element that doesn't pass
pub leading-ends : {X : Type 0} (test : X → Bool) (xs : List X) (x : X) → slice_get xs (leading test xs) ≡ Some x → test x ≡ false
leading-ends test [] x e = absurd (cc)
leading-ends test (y ∷ xs) x e = go (test y) refl e (λ h. leading-ends test xs x h)
  where
    go : (u : Bool) → test y ≡ u → slice_get (y ∷ xs) (cond u (suc (leading test xs)) 0) ≡ Some x → (slice_get xs (leading test xs) ≡ Some x → test x ≡ false) → test x ≡ false
    go true f g ih = ih g
    go false f g ih = let same : y ≡ x = cc in ap test (sym same) ∙ f

module _ (slots : Numbers) where
  -- the end of the piece before the one of a place
  abbrev end_before : PieceEnd → List Begun → ℕ → PieceEnd
  end_before e ss zero = e
  end_before e ss (suc k) = begun_end (slice_get ss k)

  abbrev AreOver : PieceEnd → List Begun → Type 0
  AreOver e ss = (k : ℕ) (s : Begun) → slice_get ss k ≡ Some s → end_rank slots (end_before e ss k) < exit_rank slots s.start

  -- what is over before an exit is over by the entry
  by-hold : (at : ℕ) (s : Begun) → at < exit_rank slots s.start → at ≤ hold_rank slots s
  by-hold at s h = go s.early
    where
      go : (u : Bool) → at ≤ cond u (entry_rank slots s.start) (exit_rank slots s.start)
      go true = omega (arith, h)
      go false = omega (arith, h)

  turns : (e : PieceEnd) (ss : List Begun) → AreOver e ss → turns_from slots e ss ≡ true
  turns e [] h = refl
  turns e (s ∷ ss) h = and_from (nat_le (end_rank slots e) (hold_rank slots s)) (turns_from slots s.end ss) (le-leb (end_rank slots e) (hold_rank slots s) (by-hold (end_rank slots e) s (h 0 s refl))) (turns s.end ss later)
    where
      later : AreOver s.end ss
      later zero x e = h 1 x e
      later (suc k) x e = h (suc (suc k)) x e

  pub in-turn : (v : Seen) → ((k : ℕ) (s : Begun) → slice_get v.segments k ≡ Some s → end_rank slots (end_in v k) < exit_rank slots s.start) → ends_in_turn slots v ≡ true
  in-turn v h = turns v.end v.segments over
    where
      over : AreOver v.end v.segments
      over zero s e = h 0 s e
      over (suc k) s e = h (suc k) s e
