-- The end of a block in two codes in step, without phis.
use Rattle.std.proofs.Common.{◌≡◌, ◌∷◌, Bool, List, Option, Some, None, refl, sym, subst, []}
use Rattle.meaning.specs.Code.{BlockEnd, Code, Edge, found}
use Rattle.meaning.specs.InStep.{Agree, AtStarts, ExitsHold, Graph, Holds, InStep, Known, Passes, WayHolds, place}
use Rattle.meaning.specs.Lanes.{Homes, Writes, placed, settled, through}
use Rattle.meaning.specs.Layout.{FallsTo, LaidOut, NoPhisAlong, NoPhisBelow}
use Rattle.meaning.specs.Live.{Among, here, there}
use Rattle.meaning.specs.Perform.{width}
use Rattle.meaning.specs.Relations.{Rel, after_first, after_second}
use Rattle.meaning.specs.Rows.{first_edges, first_falls, second_edges, second_falls}
use Rattle.meaning.specs.declared.types.Lane.{Lane}
use Rattle.meaning.specs.declared.types.Row.TheVariants.{BothEnd}
use Rattle.meaning.specs.declared.types.Source.{Source}
use Rattle.meaning.specs.declared.types.Source.TheVariants.{Bits, FromLane, Undef}
use Rattle.laws.proofs.Flow.{kept_exit, kept_falls, none_among}
use Rattle.laws.proofs.Steps.{both_below, both_ways, filled-none, first-below, first-ways, second-below, second-ways, through-none}

module _ (reserved : Lane → Bool) (code : Code) (at : AtStarts) (h : Homes) where
  way-holds : (falls : Option Writes) (exits : List Edge) (p : Code) (e : Edge) → Among e exits → e.phis ≡ [] → Agree reserved code (found e.block code) h (at e.block) → WayHolds reserved code at (Graph reserved code h (BlockEnd falls exits ∷ p)) (record { block = e.block; first = e.phis; second = e.phis })
  way-holds falls exits p e x z g s k =
      let R : Rel = Graph reserved code h (BlockEnd falls exits ∷ p) in
      let t = placed (at e.block) s in
      subst (λ r. R r (settled (through e.phis t))) (sym (through-none e.phis s z)) (subst (R s) (sym (through-none e.phis t z)) (go s k))
    where
      go : (s : Source) → Known reserved code (found e.block code) s → Graph reserved code h (BlockEnd falls exits ∷ p) s (placed (at e.block) s)
      go (FromLane a) k' = (kept_exit reserved code falls exits p e a a x k' (filled-none e.phis a z), sym (g a k'))
      go Undef k' = (tt, refl)
      go (Bits c low width) k' = (tt, refl)

  exits-hold : (falls : Option Writes) (exits : List Edge) (p : Code) (es : List Edge) → ((e : Edge) → Among e es → Among e exits) → NoPhisAlong es → ((e : Edge) → Among e exits → Agree reserved code (found e.block code) h (at e.block)) → ExitsHold reserved code at (both_ways es) (Graph reserved code h (BlockEnd falls exits ∷ p))
  exits-hold falls exits p [] v z g e x = absurd (none_among e x)
  exits-hold falls exits p (e ∷ es) v z g d here = way-holds falls exits p e (v e here) z.0 (g e (v e here))
  exits-hold falls exits p (e ∷ es) v z g d (there x) = exits-hold falls exits p es (λ b y. v b (there y)) z.1 g d x

  fall-holds : (phis : Writes) (exits : List Edge) (p : Code) → phis ≡ [] → FallsTo phis exits p → LaidOut code p → Holds reserved code h p (after_second phis (after_first phis (Graph reserved code h (BlockEnd (Some phis) exits ∷ p))))
  fall-holds phis exits p z f l s k =
      let R : Rel = Graph reserved code h (BlockEnd (Some phis) exits ∷ p) in
      let t = placed h s in
      subst (λ r. R r (settled (through phis t))) (sym (through-none phis s z)) (subst (R s) (sym (through-none phis t z)) (go s k))
    where
      go : (s : Source) → Known reserved code p s → Graph reserved code h (BlockEnd (Some phis) exits ∷ p) s (placed h s)
      go (FromLane a) k' = (kept_falls reserved code phis exits p a a f l k' (filled-none phis a z), refl)
      go Undef k' = (tt, refl)
      go (Bits c low width) k' = (tt, refl)

  end-rows : (falls : Option Writes) (exits : List Edge) → BlockEnd (first_falls (both_below falls)) (first_edges (both_ways exits)) ≡ BlockEnd falls exits
  end-rows falls exits = λ i. BlockEnd (first-below falls i) (first-ways exits i)

  second-end-rows : (falls : Option Writes) (exits : List Edge) → BlockEnd (second_falls (both_below falls)) (second_edges (both_ways exits)) ≡ BlockEnd falls exits
  second-end-rows falls exits = λ i. BlockEnd (second-below falls i) (second-ways exits i)

  as-items : {h' : Homes} (falls : Option Writes) (exits : List Edge) (p q : Code) → InStep reserved code at h' (BlockEnd (first_falls (both_below falls)) (first_edges (both_ways exits)) ∷ p) (BlockEnd (second_falls (both_below falls)) (second_edges (both_ways exits)) ∷ q) → InStep reserved code at h' (BlockEnd falls exits ∷ p) (BlockEnd falls exits ∷ q)
  as-items {h'} falls exits p q s =
      subst (λ i. InStep reserved code at h' (i ∷ p) (BlockEnd falls exits ∷ q)) (end-rows falls exits) (subst (λ j. InStep reserved code at h' (BlockEnd (first_falls (both_below falls)) (first_edges (both_ways exits)) ∷ p) (j ∷ q)) (second-end-rows falls exits) s)

  -- a block that is fallen out of: the homes stay
  pub in-step-falls : (phis : Writes) (exits : List Edge) (p q : Code) → LaidOut code (BlockEnd (Some phis) exits ∷ p) → NoPhisBelow (Some phis) → NoPhisAlong exits → ((e : Edge) → Among e exits → Agree reserved code (found e.block code) h (at e.block)) → InStep reserved code at h p q → InStep reserved code at h (BlockEnd (Some phis) exits ∷ p) (BlockEnd (Some phis) exits ∷ q)
  in-step-falls phis exits p q l z n g s =
      as-items (Some phis) exits p q (
      place {h' = h} (BothEnd (Some (phis, phis)) (both_ways exits) ∷ [])
      (subst (λ i. Passes reserved code at h p (BothEnd (Some (phis, phis)) (both_ways exits) ∷ []) (Graph reserved code h (i ∷ p))) (sym (end-rows (Some phis) exits)) (exits-hold (Some phis) exits p exits (λ e x. x) n g, fall-holds phis exits p z l.0 l.1))
      s
      )

  -- a block that isn't: the next one may begin with any homes
  pub in-step-stops : (exits : List Edge) (p q : Code) (h' : Homes) → NoPhisAlong exits → ((e : Edge) → Among e exits → Agree reserved code (found e.block code) h (at e.block)) → InStep reserved code at h' p q → InStep reserved code at h (BlockEnd None exits ∷ p) (BlockEnd None exits ∷ q)
  in-step-stops exits p q h' n g s =
      as-items None exits p q (
      place {h' = h'} (BothEnd None (both_ways exits) ∷ [])
      (subst (λ i. Passes reserved code at h' p (BothEnd None (both_ways exits) ∷ []) (Graph reserved code h (i ∷ p))) (sym (end-rows None exits)) (exits-hold None exits p exits (λ e x. x) n g, (λ s k. tt)))
      s
      )
