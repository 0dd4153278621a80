-- A valid function is quiet behind terminators.
use Rattle.std.proofs.Common.{◌≡◌, ℕ, Bool, true, false, not, ◌||◌, List, [], ◌∷◌, ◌++◌, Option, Some, None, take, refl, sym, ap, ◌∙◌}
use Rattle.std.specs.Prelude.{slice_get, option_map}
use Rattle.std.specs.List.{list_any}
use Rattle.target_base.specs.declared.types.Effect.{Effect}
use Rattle.target_base.specs.declared.types.Effect.TheVariants as effects
use Rattle.target_base.specs.declared.types.Target.{Target}
use Rattle.target_base.specs.Rules.{is_phi}
use Rattle.mir_func.specs.declared.func.Instr.{Instr}
use Rattle.mir_func.specs.declared.func.Block.{Block}
use Rattle.mir_func.specs.Value.{Function}
use Rattle.mir_func.specs.Binding.{effect_of, does, passes, is_terminator}
use Rattle.mir_meaning.specs.Rules.{V8}
use Rattle.meaning.specs.declared.types.Lane.{Lane}
use Rattle.meaning.specs.Live.{Among as Member}
use Rattle.mir_meaning.specs.Paths.{Body, Step, Code, steps_of, is_written}
use Rattle.instr_effects.specs.Owners.{owner_of}
use Rattle.instr_effects.specs.Acts.{entered_writes}
use Rattle.instr_effects.specs.Steps.{Numbering}
use Rattle.live_laws.specs.Effects.Coded.{instr_step, body_of, numbered_code, KeepsRules, IsNumbered}
use Rattle.live_laws.proofs.Effects.Moving.{writing-from}
use Rattle.live_laws.proofs.Effects.Lists.{any-in}
use Rattle.live_laws.proofs.Effects.Silent.{use-lane}
use Rattle.live_laws.proofs.Effects.Blocks.{of-among, slice-map, slice-member}
use Rattle.live_laws.proofs.Effects.Whole.{steps-at, EndUse, end-use}
use Rattle.live_laws.specs.Exact.Same.{IsQuiet}
use Rattle.live_laws.specs.Exact.Laws.{QuietLaw}
use Rattle.live_laws.proofs.Exact.Quiet.{stands-behind, is_range_lane, same-range, phi-virtual, writes-units}

module _ (t : Target) (f : Function) (num : Numbering) (rules : KeepsRules t f) (numbered : IsNumbered t f num) (order : (b : Block) (j : ℕ) (i : Instr) → Member b f.blocks → slice_get b.instrs j ≡ Some i → V8 t b j i ≡ true) where
  abbrev code : Code
  code = numbered_code t f num

  effect-there : (i : Instr) → does is_terminator t i ≡ true → (e : Effect) × (effect_of t i ≡ Some e) × (is_terminator e ≡ true)
  effect-there i h = go (effect_of t i) refl h
    where
      go : (q : Option Effect) → effect_of t i ≡ q → passes is_terminator q ≡ true → (e : Effect) × (effect_of t i ≡ Some e) × (is_terminator e ≡ true)
      go None e h = absurd (cc)
      go (Some x) e h = (x, e, h)

  phi-effect : (i : Instr) → does is_phi t i ≡ true → effect_of t i ≡ Some effects.Phi
  phi-effect i h = go (effect_of t i) refl h
    where
      by : (e : Effect) → is_phi e ≡ true → Some e ≡ Some effects.Phi
      by effects.Phi g = refl
      by e g = absurd (cc)

      go : (q : Option Effect) → effect_of t i ≡ q → passes is_phi q ≡ true → effect_of t i ≡ Some effects.Phi
      go None e g = absurd (cc)
      go (Some k) e g = e ∙ by k g

  -- behind a terminator stand terminators
  ended : (c : Block) (j : ℕ) (i o : Instr) → Member c f.blocks → slice_get c.instrs j ≡ Some i → Member o (take j c.instrs) → does is_terminator t o ≡ true → does is_terminator t i ≡ true
  unfolding V8
  ended c j i o m e k h = go (does is_terminator t i) (list_any (does is_terminator t) (take j c.instrs)) (order c j i m e) (any-in (does is_terminator t) o (take j c.instrs) k h)
    where
      go : (x y : Bool) → (x || not y) ≡ true → y ≡ true → x ≡ true
      go true y g h = refl
      go false true g h = absurd (cc)
      go false false g h = absurd (cc)

  quiet : IsQuiet code
  quiet b l before s rest e leaves m r k = go (slice_get f.blocks b) refl
    where
      steps-none : slice_get f.blocks b ≡ None → steps_of (numbered_code t f num) b ≡ []
      steps-none g = ap (λ (q : Option Body). elim q [ None ↦ [] | Some x ↦ x.steps ]) (slice-map (body_of t f num) f.blocks b ∙ ap (option_map (body_of t f num)) g)

      nothing : (xs : List Step) → [] ≡ xs ++ s ∷ rest → is_written l r ≡ false
      nothing [] q = absurd (cc)
      nothing (x ∷ xs) q = absurd (cc)

      some : (c : Block) → slice_get f.blocks b ≡ Some c → is_written l r ≡ false
      some c g =
          let z = stands-behind (instr_step t f num) c.instrs before s rest r (sym (steps-at t f num rules numbered b c g) ∙ e) (of-among r rest k) in
          let mc = slice-member f.blocks b c g in
          let mi = slice-member c.instrs z.0 z.1 z.3 in
          let h = ended c z.0 z.1 z.2 mc z.3 z.5 (ap (λ x. x.leaves) (sym z.6) ∙ leaves) in
          ap (is_written l) z.4 ∙ still c g z.1 mc mi h (is_written l (instr_step t f num z.1)) refl
        where
          still : (c : Block) → slice_get f.blocks b ≡ Some c → (i : Instr) → Member c f.blocks → Member i c.instrs → does is_terminator t i ≡ true → (q : Bool) → is_written l (instr_step t f num i) ≡ q → is_written l (instr_step t f num i) ≡ false
          still c g i mc mi h false q = q
          still c g i mc mi h true q =
              let w = writing-from num l (entered_writes t f i) q in
              let x = effect-there i h in
              let unit = writes-units t f i x.0 x.1 x.2 (rules.shaped c i mc mi).operands w.0 w.1 in
              absurd (clash w.0.lane unit w.2 (end-use t f num rules numbered b c g l m))
            where
              clash : (a : Lane) → is_range_lane a ≡ false → num (owner_of a) ≡ Some l → EndUse t f num rules numbered b c g l → ⊥
              clash a unit n (y, d, j, p, s', l', e1, e2, e3, e4, e5, e6) =
                  let virtual = phi-virtual t f p s' c.number l' (phi-effect p e3) (rules.shaped d p (slice-member f.blocks y d e1) (slice-member d.instrs j p e2)).operands e4 (use-lane t f s' l' e5) in
                  let same = same-range a l' (numbered.numbering.names (owner_of a) (owner_of l') l n e6) in
                  cc

      go : (q : Option Block) → slice_get f.blocks b ≡ q → is_written l r ≡ false
      go None g = nothing before (sym (steps-none g) ∙ e)
      go (Some c) g = some c g

pub quiet-law : QuietLaw
quiet-law t f num rules numbered order = quiet t f num rules numbered order
