-- Where the range's slot is apart from it, the item of each instruction is a site.
use Rattle.std.proofs.Common.{◌≡◌, false, refl, subst, sym}
use Rattle.meaning.specs.Live.{OccupiedAfter}
use Rattle.meaning.specs.declared.types.Lane.{Lane}
use Rattle.meaning.specs.declared.types.Lane.TheVariants.{SlotLane, VirtualLane}
use Rattle.mir_meaning.specs.Points.{AtFirst, Exit, OccupiedAt}
use Rattle.mir_meaning.specs.Registers.{is_reserved}
use Rattle.spill_laws.specs.Refined.{SitesApart}
use Rattle.spill_laws.specs.Standing.{Occupies, code_before}

pub sites_apart : SitesApart
sites_apart s d x p apart from order = record {
  from = from;
  order = order;
  apart = λ k j w a b. apart (Exit d) k j w (at (VirtualLane s.range k) a refl) (at (SlotLane s.slot j w) b refl);
}
  where
    at : (l : Lane) → Occupies s x p l → is_reserved s.target l ≡ false → OccupiedAt s.target s.func (Exit d) l
    at l o r = subst (AtFirst (λ i q. OccupiedAfter (is_reserved s.target) (code_before s) i q l)) (sym from) (o, r)
