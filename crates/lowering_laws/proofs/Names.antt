-- Behind lowering rules 3 and 4 hold of each instruction.
use Rattle.std.proofs.Common.{◌≡◌, not, ◌&&◌, ◌||◌, ◌++◌, ◌+◌, ℕ, Bool, true, false, List, [], ◌∷◌, Option, Some, None, length, refl, sym, ap, subst}
use Rattle.std.specs.List.{list_all}
use Rattle.target_base.specs.declared.types.ClassId.{ClassId}
use Rattle.target_base.specs.declared.types.Effect.{Effect}
use Rattle.target_base.specs.declared.types.Target.{Target}
use Rattle.target_base.specs.Rules.{is_phi}
use Rattle.meaning.specs.Live.{Among, here, there}
use Rattle.mir_func.specs.declared.func.RegOp.{RegOp}
use Rattle.mir_func.specs.declared.func.Instr.{Instr}
use Rattle.mir_func.specs.declared.func.Block.{Block}
use Rattle.mir_func.specs.Value.{Function}
use Rattle.mir_func.specs.Binding.{does, effect_of, is_lowered_away, passes, puts_together, registers}
use Rattle.mir_meaning.specs.Points.{has_no_phis}
use Rattle.mir_meaning.specs.Rules.{V3, V4, has_class, index_fits, subregs_fit}
use Rattle.phi_elim.specs.Numbered.{blocks_numbered, numbered}
use Rattle.phi_elim.specs.Phis.{all_instrs, phis_lowered}
use Rattle.two_address.specs.Lowered.{blocks_lowered, classes_made, instr_classes, instr_lowered, instrs_lowered, next_range, ties_lowered}
use Rattle.instr_effects.proofs.Members.{member-elim, member-none}
use Rattle.live_laws.specs.Effects.Shaped.{AreClasses}
use Rattle.live_laws.proofs.Effects.Lists.{all-of}
use Rattle.lowering_laws.specs.Blocks.{LoweredNames}
use Rattle.lowering_laws.proofs.Blocks.{phis_are_gone}
use Rattle.lowering_laws.proofs.Eliminated.{eliminated-classes, eliminated-rules}
use Rattle.lowering_laws.proofs.Made.{Stands, all-stand, made-append, stands-left, stands-right}
use Rattle.lowering_laws.proofs.Replaced.{bound, h}
use Rattle.lowering_laws.proofs.Ruled.{EachRules, all-rules, each-rules}
use Rattle.lowering_laws.proofs.TieBlocks.{lowered_opcodes}
use Rattle.lowering_laws.proofs.TieNames.{AllFit, Fitted, fitted-append, instr-fitted}

not-true : (b : Bool) → not b ≡ true → b ≡ false
not-true true e = absurd (cc)
not-true false e = refl

numbered-from : (n : ℕ) (is : List Instr) (x : Instr) → Among x (numbered n is) → (y : Instr) × Among y is × (x.operands ≡ y.operands)
numbered-from n [] x m = absurd (member-none x m)
numbered-from n (i ∷ is) x m =
    member-elim x (record i { id = n }) (numbered (n + 1) is)
    (λ e. (i, here, ap (λ (y : Instr). y.operands) e))
    (λ k. let z = numbered-from (n + 1) is x k in (z.0, there z.1, z.2)) m

module _ (t : Target) (f : Function) where
  fitted-of : (xs : List Instr) → Fitted t f xs → (x : Instr) → Among x xs → AllFit t f (registers x.operands)
  fitted-of [] a x m = absurd (member-none x m)
  fitted-of (y ∷ xs) a x m = member-elim x y xs (λ e. subst (λ (z : Instr). AllFit t f (registers z.operands)) (sym e) a.0) (λ k. fitted-of xs a.1 x k) m

  module _ (plain : has_no_phis t f.blocks ≡ true) (classes : AreClasses t f) (rules : EachRules t f) where
    abbrev StandsAt : ℕ → List (Option ClassId) → Type 0
    StandsAt c xs = Stands (h t f).classes (bound t f) c xs

    instrs-fitted : (b : Block) → Among b f.blocks → (c : ℕ) (is : List Instr) → ((i : Instr) → Among i is → Among i b.instrs) → StandsAt c (classes_made t f.classes c is) → Fitted t f (instrs_lowered t f.classes c is)
    instrs-fitted b mb c [] w s = tt
    instrs-fitted b mb c (i ∷ is) w s =
        let r = rules b i mb (w i here) in
        let no-phi = not-true (does is_phi t i) (all-of (λ x. not (does is_phi t x)) i b.instrs (w i here) (all-of (λ (d : Block). list_all (λ x. not (does is_phi t x)) d.instrs) b f.blocks mb plain)) in
        let xs = instr_classes t f.classes c i in
        let ys = classes_made t f.classes (next_range t f.classes c i) is in
        fitted-append t f (instr_lowered t f.classes c i) (instrs_lowered t f.classes (next_range t f.classes c i) is)
        (instr-fitted t f i r c (stands-left (h t f).classes (bound t f) c xs ys s) classes no-phi)
        (instrs-fitted b mb (next_range t f.classes c i) is (λ x m. w x (there m)) (stands-right (h t f).classes (bound t f) c xs ys s))

    blocks-fit : (n c : ℕ) (bs : List Block) → ((b : Block) → Among b bs → Among b f.blocks) → StandsAt c (classes_made t f.classes c (all_instrs bs)) → (d : Block) (x : Instr) → Among d (blocks_numbered n (blocks_lowered t f.classes c bs)) → Among x d.instrs → AllFit t f (registers x.operands)
    blocks-fit n c [] w s d x md mx = absurd (member-none d md)
    blocks-fit n c (b ∷ bs) w s d x md mx =
        let L = instrs_lowered t f.classes c b.instrs in
        let xs = classes_made t f.classes c b.instrs in
        let ys = classes_made t f.classes (c + length xs) (all_instrs bs) in
        let s' : StandsAt c (xs ++ ys) = subst (StandsAt c) (made-append t f.classes c b.instrs (all_instrs bs)) s in
        member-elim d (record b { instrs = numbered n L }) (blocks_numbered (n + length L) (blocks_lowered t f.classes (c + length xs) bs))
        (λ e.
        let z = numbered-from n L x (subst (λ (q : Block). Among x q.instrs) e mx) in
        subst (λ os. AllFit t f (registers os)) (sym z.2) (fitted-of L (instrs-fitted b (w b here) c b.instrs (λ i m. m) (stands-left (h t f).classes (bound t f) c xs ys s')) z.0 z.1))
        (λ k. blocks-fit (n + length L) (c + length xs) bs (λ y m. w y (there m)) (stands-right (h t f).classes (bound t f) c xs ys s') d x k mx) md

    all-fit : (d : Block) (x : Instr) → Among d (ties_lowered t f).blocks → Among x d.instrs → AllFit t f (registers x.operands)
    unfolding ties_lowered
    all-fit d x md mx = blocks-fit 0 (bound t f) f.blocks (λ b m. m) (all-stand t f) d x md mx

    classes-all : (os : List RegOp) → AllFit t f os → list_all (λ o. has_class (h t f) o.loc) os ≡ true
    classes-all [] a = refl
    classes-all (o ∷ os) a = λ k. a.0.class k && classes-all os a.1 k

    indexes-all : (os : List RegOp) → AllFit t f os → list_all (λ o. index_fits t (h t f) o.loc o.index) os ≡ true
    indexes-all [] a = refl
    indexes-all (o ∷ os) a = λ k. a.0.index k && indexes-all os a.1 k

    three : (d : Block) (x : Instr) → Among d (ties_lowered t f).blocks → Among x d.instrs → V3 (ties_lowered t f) x ≡ true
    unfolding V3 ties_lowered
    three d x md mx = classes-all (registers x.operands) (all-fit d x md mx)

    four : (d : Block) (x : Instr) → Among d (ties_lowered t f).blocks → Among x d.instrs → does puts_together t x ≡ false → V4 t (ties_lowered t f) x ≡ true
    unfolding V4 ties_lowered
    four d x md mx e = λ k. indexes-all (registers x.operands) (all-fit d x md mx) k && (not (e k) || subregs_fit t (h t f) x.operands)

not-together : (t : Target) (x : Instr) → does (λ e. not (is_lowered_away e)) t x ≡ true → does puts_together t x ≡ false
not-together t x h = go (effect_of t x) h
  where
    by : (a b : Bool) → not (a || b) ≡ true → b ≡ false
    by true b e = absurd (cc)
    by false true e = absurd (cc)
    by false false e = refl

    go : (q : Option Effect) → passes (λ e. not (is_lowered_away e)) q ≡ true → passes puts_together q ≡ false
    go None h = refl
    go (Some e) h = by (is_phi e) (puts_together e) h

pub lowered_names : LoweredNames
lowered_names t f valid classes b i mb mi =
    let g = phis_lowered t f in
    let rules = eliminated-rules t f (each-rules t f (all-rules t f valid.shape)) in
    let own = eliminated-classes t f classes in
    (three t g (phis_are_gone t f) own rules b i mb mi, four t g (phis_are_gone t f) own rules b i mb mi (not-together t i (lowered_opcodes t f valid classes b i mb mi)))
