-- A grown table marks a lane at a block's start exactly where the lane is live there.
use Rattle.std.proofs.Common.{◌≡◌, ℕ, true, false, [], Option, Some, None, map, refl, sym, ap, ◌∙◌, subst}
use Rattle.std.specs.Prelude.{◌↔◌, slice_get, option_map}
use Rattle.target_base.specs.declared.types.Target.{Target}
use Rattle.meaning.specs.declared.types.Lane.{Lane}
use Rattle.meaning.specs.Live.{is_slot}
use Rattle.mir_func.specs.declared.func.Block.{Block}
use Rattle.mir_func.specs.Value.{Function}
use Rattle.mir_meaning.specs.Points.{Start, LiveAt}
use Rattle.mir_meaning.specs.Paths.{Among, Step, Body, Code, steps_of, IsMatched}
use Rattle.instr_effects.specs.Steps.{Numbering}
use Rattle.instr_effects.specs.Stepping.{tag_of}
use Rattle.instr_effects.proofs.Members.{map-of}
use Rattle.live_laws.specs.Effects.Shaped.{is_proper}
use Rattle.live_laws.specs.Effects.Coded.{instr_step, body_of, numbered_code, KeepsRules, IsNumbered}
use Rattle.live_laws.proofs.Effects.Blocks.{of-among, slice-map, slice-member}
use Rattle.live_laws.proofs.Effects.Instrs.{matched-law}
use Rattle.live_laws.proofs.Effects.Whole.{steps-at}
use Rattle.live_laws.proofs.Effects.Numbered.{number-law}
use Rattle.live_lanes.specs.Graph.{Causes, is_live, IsGrown}
use Rattle.live_lanes.proofs.Grown.{start-law}
use Rattle.live_laws.specs.Exact.Same.{IsQuiet}
use Rattle.live_laws.specs.Exact.Laws.{StartsLaw}
use Rattle.live_laws.proofs.Exact.Same.{same-forth, same-back}

module _ (t : Target) (f : Function) (num : Numbering) (rules : KeepsRules t f) (numbered : IsNumbered t f num) (quiet : IsQuiet (numbered_code t f num)) where
  abbrev code : Code
  code = numbered_code t f num

  steps-none : (b : ℕ) → slice_get f.blocks b ≡ None → steps_of code b ≡ []
  steps-none b e = ap (λ (q : Option Body). elim q [ None ↦ [] | Some x ↦ x.steps ]) (slice-map (body_of t f num) f.blocks b ∙ ap (option_map (body_of t f num)) e)

  -- each step of the table is matched
  pub matched : (b : ℕ) (s : Step) → Among s (steps_of code b) → IsMatched s
  matched b s m = go (slice_get f.blocks b) refl
    where
      none : {x : Step} → Among x [] → ⊥
      none m = elim m [ ]

      some : (c : Block) → slice_get f.blocks b ≡ Some c → IsMatched s
      some c e =
          let inside = subst (Among s) (steps-at t f num rules numbered b c e) m in
          let z = map-of (instr_step t f num) s c.instrs (of-among s (map (instr_step t f num) c.instrs) inside) in
          subst IsMatched (sym z.2) (matched-law t f num rules numbered c z.0 (slice-member f.blocks b c e) z.1)

      go : (q : Option Block) → slice_get f.blocks b ≡ q → IsMatched s
      go None e = absurd (none (subst (Among s) (steps-none b e) m))
      go (Some c) e = some c e

  pub starts : (why : Causes) → IsGrown code why → (l : Lane) (n : ℕ) → is_slot l ≡ false → tag_of num (is_proper t) l ≡ Some n → (x : ℕ) (b : Block) → slice_get f.blocks x ≡ Some b → (is_live (why n x 0) ≡ true) ↔ LiveAt t f (Start b.number) l
  starts why grown l n still tagged x b e =
      let law = start-law code why matched grown n x in
      let number = (number-law t f num rules numbered l n still tagged).start x b e in (
        (λ h. number.1 (same-back code quiet (law.0 h))),
        (λ h. law.1 (same-forth code quiet (number.0 h) ([], refl))),
      )

pub starts-law : StartsLaw
starts-law t f num rules numbered quiet why grown l n still tagged x b e = starts t f num rules numbered quiet why grown l n still tagged x b e
