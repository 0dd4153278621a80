-- A join keeps that no instruction names a range in `undef` uses alone.
use Rattle.std.proofs.Common.{◌≡◌, ◌∙◌, ◌&&◌, ◌||◌, ◌∷◌, ℕ, Bool, true, false, cond, List, [], map, filter, refl, sym, ap, subst, eq-eqb}
use Rattle.std.specs.Prelude.{nat_eq}
use Rattle.std.specs.List.{list_any}
use Rattle.target_base.specs.declared.types.Target.{Target}
use Rattle.target_base.proofs.Tests.{first_of_both, second_of_both}
use Rattle.meaning.specs.Live.{Among as Member, here as first, there as later}
use Rattle.mir_func.specs.declared.func.Loc.TheVariants.{Virtual}
use Rattle.mir_func.specs.declared.func.RegOp.{RegOp}
use Rattle.mir_func.specs.declared.func.Block.{Block}
use Rattle.mir_func.specs.declared.func.Instr.{Instr}
use Rattle.mir_func.specs.Value.{Function}
use Rattle.mir_func.specs.Binding.{registers}
use Rattle.mir_meaning.specs.Points.{counts, is_range, touches}
use Rattle.instr_effects.proofs.Members.{filter-of, flat-in, flat-of, map-in, map-of}
use Rattle.live_laws.proofs.Effects.Lists.{any-in}
use Rattle.live_edits.specs.declared.fold.Join.{Join}
use Rattle.live_edits.specs.Folded.{TouchesNamed, all_instrs, folded, folded_block, index_within, joined_instr, joined_operand, names_range}
use Rattle.join_laws.proofs.Asked.{IsAsked}
use Rattle.join_laws.proofs.Ends.{keep}
use Rattle.join_laws.proofs.Operands.{range-is}
use Rattle.join_laws.proofs.Rules.{regs}

any-of : {X : Type 0} (p : X → Bool) (xs : List X) → list_any p xs ≡ true → (x : X) × Member x xs × (p x ≡ true)
any-of p [] e = absurd (cc)
any-of {X = X} p (x ∷ xs) e = go (p x) refl e (any-of p xs)
  where
    go : (u : Bool) → p x ≡ u → (u || list_any p xs) ≡ true → (list_any p xs ≡ true → (y : X) × Member y xs × (p y ≡ true)) → (y : X) × Member y (x ∷ xs) × (p y ≡ true)
    go true h k ih = (x, first, h)
    go false h k ih = let z = ih k in (z.0, later z.1, z.2)

both-true : (u v : Bool) → u ≡ true → v ≡ true → (u && v) ≡ true
both-true u v e g = λ k. e k && g k

module _ (t : Target) (f : Function) (j : Join) (a : IsAsked t f j) (old : (v : ℕ) → TouchesNamed f v) where
  abbrev r : RegOp → RegOp
  r = joined_operand t j

  moved : (o : RegOp) → is_range j.gone o.loc ≡ true → r o ≡ record o { loc = Virtual j.keep; index = index_within t j.index o.index }
  moved o e = ap (λ u. cond u (record o { loc = Virtual j.keep; index = index_within t j.index o.index }) o) e

  left : (o : RegOp) → is_range j.gone o.loc ≡ false → r o ≡ o
  left o e = ap (λ u. cond u (record o { loc = Virtual j.keep; index = index_within t j.index o.index }) o) e

  module _ (i : Instr) (m : Member i (all_instrs f)) (v : ℕ) where
    abbrev os : List RegOp
    os = registers i.operands

    abbrev on : ℕ → RegOp → Bool
    on w o = is_range w o.loc

    abbrev counted : RegOp → Bool
    counted o = is_range v o.loc && counts o

    from-gone : (o : RegOp) → Member o os → on j.gone o ≡ true → on v (r o) ≡ true → (p : RegOp) × Member p os × (counted (r p) ≡ true)
    from-gone o mo e h =
        let same : nat_eq v j.keep ≡ true = sym (ap (on v) (moved o e)) ∙ h in
        let z = any-of (λ (p : RegOp). is_range j.gone p.loc && counts p) os (old j.gone i m (any-in (on j.gone) o os mo e)) in
        let g = first_of_both (is_range j.gone z.0.loc) (counts z.0) z.2 in
        (z.0, z.1, ap counted (moved z.0 g) ∙ both-true (nat_eq v j.keep) (counts z.0) same (second_of_both (is_range j.gone z.0.loc) (counts z.0) z.2))

    from-other : (o : RegOp) → Member o os → on j.gone o ≡ false → on v (r o) ≡ true → (p : RegOp) × Member p os × (counted (r p) ≡ true)
    from-other o mo e h =
        let here : on v o ≡ true = sym (ap (on v) (left o e)) ∙ h in
        let z = any-of counted os (old v i m (any-in (on v) o os mo here)) in
        (z.0, z.1, go z.0 here z.2 (is_range j.gone z.0.loc) refl)
      where
        go : (p : RegOp) → on v o ≡ true → counted p ≡ true → (u : Bool) → is_range j.gone p.loc ≡ u → counted (r p) ≡ true
        go p q w true g =
            let one : p.loc ≡ Virtual v = range-is v p.loc (first_of_both (is_range v p.loc) (counts p) w) in
            let two : p.loc ≡ Virtual j.gone = range-is j.gone p.loc g in
            let own : o.loc ≡ Virtual v = range-is v o.loc q in
            let there : o.loc ≡ Virtual j.gone = own ∙ sym one ∙ two in
            absurd (let z : true ≡ false = sym (ap (is_range j.gone) there ∙ eq-eqb j.gone j.gone refl) ∙ e in cc)
        go p q w false g = ap counted (left p g) ∙ w

    named-still : list_any (on v) (map r os) ≡ true → list_any counted (map r os) ≡ true
    named-still h =
        let z = any-of (on v) (map r os) h in
        let o = map-of r z.0 os z.1 in
        let p = go o.0 o.1 (ap (on v) (sym o.2) ∙ z.2) (on j.gone o.0) refl in
        any-in counted (r p.0) (map r os) (map-in r p.0 os p.1) p.2
      where
        go : (o : RegOp) → Member o os → on v (r o) ≡ true → (u : Bool) → on j.gone o ≡ u → (p : RegOp) × Member p os × (counted (r p) ≡ true)
        go o mo q true e = from-gone o mo e q
        go o mo q false e = from-other o mo e q

    touches-still : names_range v (joined_instr t j i) ≡ true → touches v (joined_instr t j i) ≡ true
    touches-still h = ap (list_any counted) (regs t f j a i.operands) ∙ named-still (sym (ap (list_any (on v)) (regs t f j a i.operands)) ∙ h)

  pub named-after : (v : ℕ) → TouchesNamed (folded t j f) v
  named-after v x mx =
      let c = flat-of (λ (b : Block). b.instrs) x (folded t j f).blocks mx in
      let b = map-of (folded_block t f j) c.0 f.blocks c.1 in
      let i = map-of (joined_instr t j) x (filter (keep t f j) b.0.instrs) (subst (λ (d : Block). Member x d.instrs) b.2 c.2) in
      let m : Member i.0 (all_instrs f) = flat-in (λ (b : Block). b.instrs) i.0 b.0 f.blocks b.1 (filter-of (keep t f j) i.0 b.0.instrs i.1).0 in
      subst (λ y. names_range v y ≡ true → touches v y ≡ true) (sym i.2) (touches-still i.0 m v)
