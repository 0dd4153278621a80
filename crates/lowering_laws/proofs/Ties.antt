-- Lowering of ties keeps the meaning of a function without phis.
use Rattle.std.proofs.Common.{flat_map, ◌≡◌, ◌∷◌, ◌++◌, ◌∙◌, ◌+◌, not, ℕ, Bool, true, false, List, Option, Some, length, refl, sym, ap, subst, []}
use Rattle.std.specs.List.{list_all}
use Rattle.target_base.specs.declared.types.Effect.{Effect}
use Rattle.target_base.specs.declared.types.Effect.TheVariants as effects
use Rattle.target_base.specs.declared.types.Target.{Target}
use Rattle.target_base.specs.Roles.{is_silent}
use Rattle.target_base.specs.Rules.{is_copy, is_phi}
use Rattle.meaning.specs.Live.{Among, here, there}
use Rattle.mir_func.specs.declared.func.Instr.{Instr}
use Rattle.mir_func.specs.declared.func.Block.{Block}
use Rattle.mir_func.specs.Value.{Function}
use Rattle.mir_func.specs.Binding.{does, effect_of, is_terminator, passes, puts_together, roles_of}
use Rattle.mir_meaning.specs.Codes.{refines}
use Rattle.mir_meaning.specs.Points.{has_no_phis}
use Rattle.mir_meaning.specs.Rules.{V15, spills_or_reloads}
use Rattle.two_address.specs.Lowered.{class_aside, classes_made, form_classes, instr_classes, next_range, ties_lowered}
use Rattle.live_laws.proofs.Effects.Lists.{all-of}
use Rattle.lowering_laws.proofs.Classes.{AllNamed}
use Rattle.lowering_laws.proofs.Operands.{all-named, known-effect}
use Rattle.lowering_laws.proofs.Plain.{other-form}
use Rattle.lowering_laws.proofs.Replaced.{AllStep, InstrStep, InstrsStep, bound, h, ties-by-steps}
use Rattle.lowering_laws.proofs.Ruled.{EachRules, InstrRules, all-rules, each-rules}
use Rattle.lowering_laws.proofs.Silently.{addr-step, const-step, copy-step, undef-step}
use Rattle.two_address.specs.Ties.{ties_in}
use Rattle.live_laws.proofs.Touch.Roles.{has_roles}
use Rattle.lowering_laws.specs.Laws.{LoweredTiedRefine}
use Rattle.lowering_laws.proofs.Ends.{names-none, no-branch}
use Rattle.lowering_laws.proofs.Counted.{CountedInstr}
use Rattle.lowering_laws.proofs.CountedSteps.{counted-step, ending-step}
use Rattle.lowering_laws.proofs.Made.{Stands, all-stand, made-append, stands-left, stands-right}
use Rattle.lowering_laws.proofs.Rolled.{addr-untied, const-untied, undef-untied}
use Rattle.live_laws.specs.Effects.Shaped.{AreClasses}
use Rattle.phi_elim.specs.Phis.{all_instrs}
use Rattle.target_base.specs.declared.types.ClassId.{ClassId}
use Rattle.lowering_laws.proofs.Bare.{bare, bare-lowered}
use Rattle.lowering_laws.proofs.Inserted.{inserted-step}
use Rattle.lowering_laws.proofs.Sequenced.{sequenced-step}

not-true : (b : Bool) → not b ≡ true → b ≡ false
not-true true e = absurd (cc)
not-true false e = refl

module _ (t : Target) (f : Function) (plain : has_no_phis t f.blocks ≡ true) (classes : AreClasses t f) where
  module _ (rules : EachRules t f) where
    names : AllNamed f f.blocks
    names = all-named t f rules

    -- these classes stand in both functions from number c on
    abbrev StandsAt : ℕ → List (Option ClassId) → Type 0
    StandsAt c xs = Stands (h t f).classes (bound t f) c xs

    module _ (b : Block) (i : Instr) (r : InstrRules t f i) (no-phi : does is_phi t i ≡ false) (c : ℕ) (stands : StandsAt c (instr_classes t f.classes c i)) where
      none-spilled : does spills_or_reloads t i ≡ false
      unfolding V15
      none-spilled = not-true (does spills_or_reloads t i) r.fifteen

      module _ (e : Effect) (q : effect_of t i ≡ Some e) (one : is_copy e ≡ false) (two : puts_together e ≡ false) (three : is_silent e ≡ false) (rolled : has_roles e ≡ true) where
        counted : InstrStep t f b c i
        counted = go (is_terminator e) refl
          where
            stands-too : StandsAt c (flat_map (class_aside (roles_of t i)) (ties_in t c i))
            stands-too = subst (λ x. StandsAt c (form_classes t f.classes c i x)) (other-form t i e q one two) stands

            site : CountedInstr
            site = record { t = t; f = f; classes = classes; i = i; r = r; e = e; known = q; counts = three; rolled = rolled; form = (one, two); c = c; stands = stands-too }

            go : (y : Bool) → is_terminator e ≡ y → InstrStep t f b c i
            go true goes = ending-step site (bare-lowered t f plain) b (bare t f plain) goes
            go false goes = counted-step site (bare-lowered t f plain) b (names-none t f i e q r.one no-phi (no-branch t i e q (ap (passes is_terminator) q ∙ goes))) goes

      by-effect : (e : Effect) → effect_of t i ≡ Some e → InstrStep t f b c i
      by-effect effects.Copy q = copy-step t f (bare-lowered t f plain) names b i r q c
      by-effect effects.ImplicitDef q = undef-step t f (bare-lowered t f plain) names b i r q (undef-untied t i q) c
      by-effect effects.Const q = const-step t f (bare-lowered t f plain) names b i r q (const-untied t f i q r.one) c
      by-effect effects.Addr q = addr-step t f (bare-lowered t f plain) names b i r q (addr-untied t f i q r.one) c
      by-effect effects.Phi q = absurd (let x : true ≡ false = ap (passes is_phi) (sym q) ∙ no-phi in cc)
      by-effect effects.RegSequence q = sequenced-step t f names classes b i r q c stands
      by-effect effects.InsertSubreg q = inserted-step t f names classes b i r q c stands
      by-effect effects.Spill q = absurd (let x : true ≡ false = ap (passes spills_or_reloads) (sym q) ∙ none-spilled in cc)
      by-effect effects.Reload q = absurd (let x : true ≡ false = ap (passes spills_or_reloads) (sym q) ∙ none-spilled in cc)
      by-effect e q = counted e q refl refl refl refl

      one-step : InstrStep t f b c i
      one-step = let e = known-effect t f i r in by-effect e.0 e.1

    instrs-step : (b : Block) → Among b f.blocks → (c : ℕ) (is : List Instr) → ((i : Instr) → Among i is → Among i b.instrs) → StandsAt c (classes_made t f.classes c is) → InstrsStep t f b c is
    instrs-step b mb c [] w s = tt
    instrs-step b mb c (i ∷ is) w s =
        let r = rules b i mb (w i here) in
        let no-phi = not-true (does is_phi t i) (all-of (λ x. not (does is_phi t x)) i b.instrs (w i here) (all-of (λ (d : Block). list_all (λ x. not (does is_phi t x)) d.instrs) b f.blocks mb plain)) in
        let xs = instr_classes t f.classes c i in
        let ys = classes_made t f.classes (next_range t f.classes c i) is in
        (one-step b i r no-phi c (stands-left (h t f).classes (bound t f) c xs ys s), instrs-step b mb (next_range t f.classes c i) is (λ x m. w x (there m)) (stands-right (h t f).classes (bound t f) c xs ys s))

    all-step : (c : ℕ) (bs : List Block) → ((b : Block) → Among b bs → Among b f.blocks) → StandsAt c (classes_made t f.classes c (all_instrs bs)) → AllStep t f c bs
    all-step c [] w s = tt
    all-step c (b ∷ bs) w s =
        let xs = classes_made t f.classes c b.instrs in
        let ys = classes_made t f.classes (c + length xs) (all_instrs bs) in
        let s' : StandsAt c (xs ++ ys) = subst (StandsAt c) (made-append t f.classes c b.instrs (all_instrs bs)) s in
        (instrs-step b (w b here) c b.instrs (λ i m. m) (stands-left (h t f).classes (bound t f) c xs ys s'), all-step (c + length xs) bs (λ x m. w x (there m)) (stands-right (h t f).classes (bound t f) c xs ys s'))

    pub steps-all : AllStep t f (bound t f) f.blocks
    steps-all = all-step (bound t f) f.blocks (λ b m. m) (all-stand t f)

    pub refine : refines t f (ties_lowered t f)
    refine = ties-by-steps t f (bare t f plain) (bare-lowered t f plain) names steps-all

pub lowered_tied_refine : LoweredTiedRefine
lowered_tied_refine t f shape classes plain = refine t f plain classes (each-rules t f (all-rules t f shape))
