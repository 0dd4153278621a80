-- Constants that aren't needed any more and IMPLICIT_DEFs whose lanes aren't live: nothing stands in their place.
use Rattle.std.proofs.Common.{◌≡◌, ◌⊎◌, inl, inr, ◌∷◌, ◌∙◌, ℕ, true, false, refl, sym, subst, []}
use Rattle.meaning.specs.Code.{Code, Silent}
use Rattle.meaning.specs.Lanes.{Writes, filled}
use Rattle.meaning.specs.Live.{Among as Member, LiveAfter, Writing, after_next}
use Rattle.meaning.specs.declared.types.Fill.TheVariants.{Moved}
use Rattle.meaning.specs.declared.types.Lane.{Lane}
use Rattle.meaning.specs.declared.types.Lane.TheVariants.{SlotLane, VirtualLane}
use Rattle.meaning.specs.declared.types.Source.TheVariants.{FromLane}
use Rattle.meaning.specs.declared.types.Write.{Write}
use Rattle.mir_func.specs.Value.{Function}
use Rattle.mir_meaning.specs.Points.{AtFirst}
use Rattle.mir_meaning.specs.Registers.{is_reserved}
use Rattle.lowering_laws.proofs.Traced.{is_lane_of}
use Rattle.spiller.specs.Setting.{Spilling}
use Rattle.spill_laws.specs.Standing.{IsGone, IsSetting, IsSite, IsStored, code_before}
use Rattle.spill_laws.proofs.Standing.{brought-here, lane-own}
use Rattle.clear_laws.proofs.PlaceBounds.{unwritten, wrote-or-not}
use Rattle.clear_laws.proofs.SilentForms.{KeptHere, LiveHere, MayHere, gone-may, not-fine}

module _ (s : Spilling) (d : ℕ) (ws : Writes) (p : Code) (site : IsSite s d (Silent [] ws) p) (only : (w : Write) → Member w ws → is_lane_of s.range w.lane ≡ true) where
  else-free : (a : Lane) → ((k : ℕ) → a ≡ VirtualLane s.range k → ⊥) → filled ws a ≡ Moved (FromLane a)
  else-free a h = unwritten ws a (λ z. let y = lane-own s.range z.0.lane (only z.0 z.1) in h y.0 (sym z.2 ∙ y.1))

  -- a definition of lanes of the range alone goes, where none of them is live and stored behind it
  pub definition-goes : ((k : ℕ) → Writing (Silent [] ws) (VirtualLane s.range k) → LiveHere s p (VirtualLane s.range k) → IsStored s k p → ⊥) → (l : Lane) → MayHere s p l → MayHere s (Silent [] ws ∷ p) l
  definition-goes dead = gone-may s ws p (λ a fine n. else-free a (λ k e. not-fine s a k e fine)) (λ k. by k (wrote-or-not ws (VirtualLane s.range k))) (λ k w. inl (else-free (SlotLane s.slot k w) (λ j e. (cc))))
    where
      by : (k : ℕ) → Writing (Silent [] ws) (VirtualLane s.range k) ⊎ (Writing (Silent [] ws) (VirtualLane s.range k) → ⊥) → (Writing (Silent [] ws) (VirtualLane s.range k) → ⊥) ⊎ (LiveHere s p (VirtualLane s.range k) → IsStored s k p → KeptHere s (Silent [] ws ∷ p) k)
      by k (inl w) = inr (λ live st. absurd (dead k w live st))
      by k (inr n) = inl n

  -- a definition that is gone isn't stored
  pub gone-goes : IsGone s d → (l : Lane) → MayHere s p l → MayHere s (Silent [] ws ∷ p) l
  gone-goes gone = definition-goes (λ k w live st. st d (brought-here s d (Silent [] ws) p k site.from w site.order) gone)

  -- nor is one live whose facts say so
  pub dropped-goes : (g : Function) → IsSetting s g → ((k : ℕ) → Writing (Silent [] ws) (VirtualLane s.range k) → s.facts.live_behind d k ≡ false) → (l : Lane) → MayHere s p l → MayHere s (Silent [] ws ∷ p) l
  dropped-goes g z dead =
      definition-goes (λ k w live st. (let a : s.facts.live_behind d k ≡ true = (z.facts.live (d, k)).1 (subst (AtFirst (λ j r. LiveAfter (is_reserved s.target) (code_before s) j r (VirtualLane s.range k))) (sym site.from) (after_next refl live)) in let e = dead k w in absurd (cc)))
