-- A reason that rests on no piece is none that rests on one.
use Rattle.std.proofs.Common.{◌≡◌, ◌⊎◌, ℕ, false, List, ◌∷◌, ◌++◌, Option, None, Some, refl, sym, ap, ◌∙◌, inl, inr}
use Rattle.mir_meaning.specs.Paths.{Step, Code, steps_of, Use, Certain, Into, use_of}
use Rattle.live_lanes.specs.declared.row.Cause.{Cause}
use Rattle.live_lanes.specs.declared.row.Cause.TheVariants as causes
use Rattle.live_lanes.specs.Graph.{is_live}
use Rattle.live_lanes.specs.Table.{Numbers}
use Rattle.live_lanes.specs.Entered.{IsNumbered}
use Rattle.edit_laws.specs.Chains.{Node}
use Rattle.edit_laws.specs.Reasons.{IsReason, for_reading, for_move, for_exit, for_end, for_phi}
use Rattle.edit_laws.proofs.Begun.{one-split}

pub dead-none : (c : Cause) → is_live c ≡ false → c ≡ causes.None
dead-none causes.None e = refl
dead-none (causes.Reading id) e = absurd (cc)
dead-none (causes.Follower x) e = absurd (cc)
dead-none causes.Phi e = absurd (cc)

none-some : {A : Type 0} (m : Node) → None ≡ Some m → A
none-some m e = absurd (cc)

module _ (code : Code) where
  -- how the instruction of an id uses the lane
  abbrev UsesSo : ℕ → ℕ → ℕ → Use → Type 0
  UsesSo l b id u = (before : List Step) × (s : Step) × (rest : List Step) × (steps_of code b ≡ before ++ s ∷ rest) × (s.id ≡ id) × (use_of l s ≡ u)

  abbrev IsSure : ℕ → ℕ → Cause → Type 0
  IsSure l b c = ((id : ℕ) × (c ≡ causes.Reading id) × UsesSo l b id Certain) ⊎ (c ≡ causes.Phi)

  abbrev IsLed : ℕ → ℕ → Cause → Type 0
  IsLed l b c = ((id : ℕ) × (a : ℕ) × (c ≡ causes.Reading id) × UsesSo l b id (Into a)) ⊎ ((x : ℕ) × (c ≡ causes.Follower x))

  sure : {l b n : ℕ} {c : Cause} {o : Option Node} → IsReason code l b n c o → o ≡ None → IsSure l b c
  sure (for_reading before s rest e u) g = inl (s.id, refl, (before, s, rest, e, refl, u))
  sure (for_move {l = l} {a = a} {b = b} before s rest e u w) g = none-some (a, b, _) (sym g)
  sure (for_exit {l = l} {x = x} before s rest e t m) g = none-some (l, x, 0) (sym g)
  sure (for_end {l = l} {x = x} m) g = none-some (l, x, 0) (sym g)
  sure (for_phi m) g = inr refl

  led : {l b n : ℕ} {c : Cause} {o : Option Node} → IsReason code l b n c o → (m : Node) → o ≡ Some m → IsLed l b c
  led (for_reading before s rest e u) m g = none-some m g
  led (for_move {a = a} before s rest e u w) m g = inl (s.id, a, refl, (before, s, rest, e, refl, u))
  led (for_exit {x = x} before s rest e t k) m g = inr (x, refl)
  led (for_end {x = x} k) m g = inr (x, refl)
  led (for_phi k) m g = none-some m g

  module _ (slots : Numbers) (numbered : IsNumbered code slots) where
    -- one use of an instruction is one
    certain-or-into : (l b id j a : ℕ) → UsesSo l b id Certain → UsesSo l b j (Into a) → id ≡ j → ⊥
    certain-or-into l b id j a x y e =
        let same : x.1 ≡ y.1 = (one-split slots 0 (steps_of code b) x.0 x.1 x.2 y.0 y.1 y.2 (numbered b) x.3 y.3 (x.4 ∙ (e ∙ sym y.4))).1 in
        let both : Certain ≡ Into a = sym x.5 ∙ (ap (use_of l) same ∙ y.5) in
        cc

    apart : (l b : ℕ) (c : Cause) → IsSure l b c → IsLed l b c → ⊥
    apart l b c (inl x) (inl y) =
        let e : causes.Reading x.0 ≡ causes.Reading y.0 = sym x.1 ∙ y.2 in
        let same : x.0 ≡ y.0 = cc in
        certain-or-into l b x.0 y.0 y.1 x.2 y.3 same
    apart l b c (inl x) (inr y) = let e : causes.Reading x.0 ≡ causes.Follower y.0 = sym x.1 ∙ y.1 in cc
    apart l b c (inr x) (inl y) = let e : causes.Phi ≡ causes.Reading y.0 = sym x ∙ y.2 in cc
    apart l b c (inr x) (inr y) = let e : causes.Phi ≡ causes.Follower y.0 = sym x ∙ y.1 in cc

    pub reasons-apart : {l b n k : ℕ} {c : Cause} (m : Node) → IsReason code l b n c None → IsReason code l b k c (Some m) → ⊥
    reasons-apart {l = l} {b = b} {c = c} m x y = apart l b c (sure x refl) (led y m refl)
