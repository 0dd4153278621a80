-- Items with other lanes, by a map that keeps lanes apart.
use Rattle.std.proofs.Common.{◌≡◌, ◌⊎◌, inl, inr, ◌∷◌, ◌∙◌, false, List, [], refl, sym, ap}
use Rattle.meaning.specs.Code.{BlockEnd, BlockStart, Counted, Edge, Item, Silent}
use Rattle.meaning.specs.Lanes.{Writes, filled, same_lane}
use Rattle.meaning.specs.Layout.{NoPhisAlong}
use Rattle.meaning.specs.Live.{Among as Member, exits_of, in_order, reads_of, writes_of}
use Rattle.meaning.specs.Matched.{image_fill, renamed, renamed_reads, renamed_write}
use Rattle.meaning.specs.declared.types.Lane.{Lane}
use Rattle.meaning.specs.declared.types.Write.{Write}
use Rattle.laws.proofs.Quiet.{filled-here, filled-past, same-false, same_or_not}
use Rattle.mir_meaning.specs.Renaming.{renamed_item}
use Rattle.instr_effects.proofs.Members.{member-elim, member-none}

-- the map keeps lanes apart
abbrev pub KeepsApart : (Lane → Lane) → Type 0
KeepsApart m = (a b : Lane) → m a ≡ m b → a ≡ b

-- what a lane has after writes, and its image after the writes with other lanes

alone-step : (m : Lane → Lane) (a : Lane) (w : Write) (ws : Writes) → (m w.lane ≡ m a → w.lane ≡ a) → image_fill m (filled ws a) ≡ filled (renamed m ws) (m a) → (w.lane ≡ a) ⊎ (same_lane w.lane a ≡ false) → (m w.lane ≡ m a) ⊎ (same_lane (m w.lane) (m a) ≡ false) → image_fill m (filled (w ∷ ws) a) ≡ filled (renamed m (w ∷ ws)) (m a)
alone-step m a w ws k ih (inl e) o = ap (image_fill m) (filled-here a w ws e) ∙ sym (filled-here (m a) (renamed_write m w) (renamed m ws) (ap m e))
alone-step m a w ws k ih (inr e) (inl g) = absurd (same-false w.lane a e (k g))
alone-step m a w ws k ih (inr e) (inr g) = ap (image_fill m) (filled-past a w ws e) ∙ ih ∙ sym (filled-past (m a) (renamed_write m w) (renamed m ws) g)

pub alone : (m : Lane → Lane) → KeepsApart m → (ws : Writes) (a : Lane) → image_fill m (filled ws a) ≡ filled (renamed m ws) (m a)
alone m apart [] a = refl
alone m apart (w ∷ ws) a = alone-step m a w ws (apart w.lane a) (alone m apart ws a) (same_or_not w.lane a) (same_or_not (m w.lane) (m a))

-- a way out has no phis
pub bare-edge : (es : List Edge) (e : Edge) → NoPhisAlong es → Member e es → e.phis ≡ []
bare-edge [] e z m = absurd (member-none e m)
bare-edge (d ∷ es) e z m = member-elim e d es (λ g. ap (λ (x : Edge). x.phis) g ∙ z.0) (λ k. bare-edge es e z.1 k) m

module _ (m : Lane → Lane) where
  pub reads-of : (i : Item) → reads_of (renamed_item m i) ≡ renamed_reads m (reads_of i)
  reads-of (BlockStart n) = refl
  reads-of (BlockEnd falls exits) = refl
  reads-of (Silent reads ws) = refl
  reads-of (Counted r reads ws target exits) = refl

  pub writes-of : (i : Item) → writes_of (renamed_item m i) ≡ renamed m (writes_of i)
  writes-of (BlockStart n) = refl
  writes-of (BlockEnd falls exits) = refl
  writes-of (Silent reads ws) = refl
  writes-of (Counted r reads ws target exits) = refl

  pub exits-of : (i : Item) → exits_of (renamed_item m i) ≡ exits_of i
  exits-of (BlockStart n) = refl
  exits-of (BlockEnd falls exits) = refl
  exits-of (Silent reads ws) = refl
  exits-of (Counted r reads ws target exits) = refl

  pub order-of : (i : Item) → in_order (renamed_item m i) ≡ in_order i
  order-of (BlockStart n) = refl
  order-of (BlockEnd falls exits) = refl
  order-of (Silent reads ws) = refl
  order-of (Counted r reads ws target exits) = refl
