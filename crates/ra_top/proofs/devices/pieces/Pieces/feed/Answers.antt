use Rattle.std.proofs.Common.{◌≡◌, take, arith, sym, ◌∙◌, ap, inl, inr, refl, subst, false, ◌++◌}
use Rattle.ra_top.specs.Devices.Pieces.{is_whole}
use Rattle.ra_top.proofs.DeviceLemmas.Steps.{Fitting, held_scan, none_scanned, fed_within, fed_end, fed_take}
use Rattle.ra_top.proofs.devices.pieces.Pieces.feed.Goals as goal

fitting : (c : goal.After-after-2-1) → Fitting c.self.inside.bytes.items c.args.bytes.now c.min.result
fitting c = (rw (← c.self.inside.bytes.ok.0) (c.min.ensures ∙ rw c.len-room.ensures refl), c.self.invariant.0)

pub invariant_of-self-2 : goal.invariant_of-self-2
invariant_of-self-2 c = (
  fed_within c.self.inside.bytes.items c.args.bytes.now _ c.scan-n.result.0 c.min.result (fitting c) c.scan-n.ensures.within c.in_ok-extend_from_slice.ensures.items,
  held_scan c.self.inside.bytes.items (take c.min.result c.args.bytes.now) _ c.self.inside.scan c.scan-n.result.1 c.scan-n.result.0 c.self.invariant.1 c.scan-n.ensures.after c.in_ok-extend_from_slice.ensures.items,
)

pub returns-clause-first : goal.returns-clause-first
returns-clause-first c = λ j below.
    let same = fed_take c.args.bytes.now c.scan-n.result.0 c.min.result j c.scan-n.ensures.within (omega arith) in
    let none = none_scanned c.self.inside.bytes.items (take c.min.result c.args.bytes.now) c.self.inside.scan c.scan-n.result.0 c.self.invariant.1 (subst (λ t. is_whole t ≡ false) (sym c.self.view_is) c.requires.going) c.scan-n.ensures.first j below in
    subst (λ t. is_whole (t ++ take j c.args.bytes.now) ≡ false) c.self.view_is (rw same at none)

pub returns-clause-end : goal.returns-clause-end
returns-clause-end c = elim c.scan-n.ensures.end [
  | inl e ↦ elim (fed_end c.self.inside.bytes.items c.args.bytes.now _ c.scan-n.result.0 c.min.result (fitting c) e c.in_ok-extend_from_slice.ensures.items) [
    | inl all ↦ inl all
    | inr full ↦ inr (inr full)
  ]
  | inr w ↦ inr (inl (ap (λ x. x.whole) (sym (invariant_of-self-2 c).1) ∙ w))
]
