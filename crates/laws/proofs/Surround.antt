-- A place in which the second code has silent instructions round the one of the first.
use Rattle.std.proofs.Common.{◌≡◌, ◌∷◌, ◌++◌, ℕ, Bool, List, None, refl, sym, ap, subst, []}
use Rattle.meaning.specs.Code.{Code, Counted, Silent}
use Rattle.meaning.specs.InStep.{AtStarts, Graph, Holds, Passes}
use Rattle.meaning.specs.Lanes.{Homes, Reads, Writes, filled, placed, placed_fill, settled, through}
use Rattle.meaning.specs.Live.{Among, Kept, KeptAfter, here, there}
use Rattle.meaning.specs.Relations.{AlikeFill, AlikeOperands, AlikeReads, Rel, after_both, after_first, after_second}
use Rattle.meaning.specs.declared.types.Constant.{Constant}
use Rattle.meaning.specs.declared.types.Fill.{Fill}
use Rattle.meaning.specs.declared.types.Fill.TheVariants.{Computed, Moved}
use Rattle.meaning.specs.declared.types.Lane.{Lane}
use Rattle.meaning.specs.declared.types.Rest.{Rest}
use Rattle.meaning.specs.declared.types.Row.{Row}
use Rattle.meaning.specs.declared.types.Row.TheVariants.{BothCounted, FirstSilent, SecondSilent}
use Rattle.meaning.specs.declared.types.Source.{Source}
use Rattle.meaning.specs.declared.types.Source.TheVariants.{Bits, FromLane, Undef}
use Rattle.laws.proofs.Flow.{flow, kept_next, known-source, none_among, read_kept}
use Rattle.laws.proofs.Steps.{settled-from}

abbrev pub seconds : List Writes → List Row
seconds [] = []
seconds (ws ∷ rest) = SecondSilent [] ws ∷ seconds rest

-- where a source of after these writings stood before them
abbrev pub back : List Writes → Source → Source
back [] s = s
back (ws ∷ rest) s = settled (through ws (back rest s))

abbrev pub back_fill : List Writes → Fill → Fill
back_fill pre (Moved s) = Moved (back pre s)
back_fill pre (Computed i) = Computed i

pub back-undef : (pre : List Writes) → back pre Undef ≡ Undef
back-undef [] = refl
back-undef (ws ∷ pre) = ap (λ s. settled (through ws s)) (back-undef pre)

pub back-bits : (pre : List Writes) (c : Constant) (low width : ℕ) → back pre (Bits c low width) ≡ Bits c low width
back-bits [] c low width = refl
back-bits (ws ∷ pre) c low width = ap (λ s. settled (through ws s)) (back-bits pre c low width)

-- source by source, where the second reads stood before the reloads in the image of what the first reads
abbrev pub BackReads : Homes → List Writes → List Source → List Source → Type 0
BackReads h pre [] [] = Unit {0}
BackReads h pre [] (t ∷ ts) = ⊥
BackReads h pre (s ∷ ss) [] = ⊥
BackReads h pre (s ∷ ss) (t ∷ ts) = (back pre t ≡ placed h s) × BackReads h pre ss ts

abbrev pub BackOperands : Homes → List Writes → Reads → Reads → Type 0
BackOperands h pre [] [] = Unit {0}
BackOperands h pre [] (t ∷ ts) = ⊥
BackOperands h pre (s ∷ ss) [] = ⊥
BackOperands h pre (s ∷ ss) (t ∷ ts) = BackReads h pre s t × BackOperands h pre ss ts

old-inj : (s t : Source) → Moved s ≡ Moved t → s ≡ t
old-inj s t g = cc

module _ (reserved : Lane → Bool) (code : Code) (at : AtStarts) (h h' : Homes) (p : Code) where
  pub seconds_pass : (pre : List Writes) (rest : List Row) (R : Rel) → Passes reserved code at h' p rest (λ s t. R s (back pre t)) → Passes reserved code at h' p (seconds pre ++ rest) R
  seconds_pass [] rest R k = k
  seconds_pass (ws ∷ pre) rest R k = seconds_pass pre rest (after_second ws R) k

  pub seconds_end : (post : List Writes) (R : Rel) → Holds reserved code h' p (λ s t. R s (back post t)) → Passes reserved code at h' p (seconds post) R
  seconds_end [] R k = k
  seconds_end (ws ∷ post) R k = seconds_end post (after_second ws R) k

  module _ (q : Code) (pre : List Writes) where
    -- what is known at q, found behind the reloads
    abbrev Loaded : Rel
    Loaded s t = Graph reserved code h q s (back pre t)

    alike-back : (f t : Fill) → ((l : Lane) → f ≡ Moved (FromLane l) → Kept reserved code q l) → back_fill pre t ≡ placed_fill h f → AlikeFill Loaded f t
    alike-back (Moved s) (Moved t) k e = (known-source reserved code q s (λ l g. k l (ap Moved g)), old-inj (back pre t) (placed h s) e)
    alike-back (Moved s) (Computed j) k e = absurd (cc)
    alike-back (Computed i) (Moved t) k e = absurd (cc)
    alike-back (Computed i) (Computed j) k e = cc

    back-used : (s t : Source) → ((l : Lane) → s ≡ FromLane l → Kept reserved code q l) → back pre t ≡ placed h s → Loaded s t
    back-used s t k e = (known-source reserved code q s k, e)

    used-reads : (ss ts : List Source) → ((l : Lane) → Among (FromLane l) ss → Kept reserved code q l) → BackReads h pre ss ts → AlikeReads Loaded ss ts
    used-reads [] [] k b = tt
    used-reads [] (t ∷ ts) k b = b
    used-reads (s ∷ ss) [] k b = b
    used-reads (s ∷ ss) (t ∷ ts) k b = (back-used s t (λ l e. k l (subst (λ x. Among x (s ∷ ss)) e here)) b.0, used-reads ss ts (λ l g. k l (there g)) b.1)

    used-operands : (ss ts : Reads) → ((xs : List Source) (l : Lane) → Among xs ss → Among (FromLane l) xs → Kept reserved code q l) → BackOperands h pre ss ts → AlikeOperands Loaded ss ts
    used-operands [] [] k b = tt
    used-operands [] (t ∷ ts) k b = b
    used-operands (s ∷ ss) [] k b = b
    used-operands (s ∷ ss) (t ∷ ts) k b = (used-reads s t (λ l g. k s l here g) b.0, used-operands ss ts (λ xs l x g. k xs l (there x) g) b.1)

  module _ (r : Rest) (reads reads' : Reads) (ws ws' : Writes) (pre post : List Writes) where
    -- Reloads before and stores behind a counted instruction. Each lane read is reloaded into its tiny's lane, or read where it is.
    -- Behind the stores each lane that is kept has in its image what the instruction gave it.
    pub surround :
        BackOperands h pre reads reads' →
        ((a : Lane) → KeptAfter reserved code (Counted r reads ws None []) p a → back_fill pre (through ws' (back post (h' a))) ≡ placed_fill h (filled ws a)) →
        Passes reserved code at h' p (seconds pre ++ BothCounted r reads reads' ws ws' None [] ∷ seconds post) (Graph reserved code h (Counted r reads ws None [] ∷ p))
    surround c d =
        let i = Counted r reads ws None [] in
        let R : Rel = Graph reserved code h (i ∷ p) in
        let S : Rel = after_both ws ws' (Loaded (i ∷ p) pre) in
        seconds_pass pre (BothCounted r reads reads' ws ws' None [] ∷ seconds post) R (
          used-operands (i ∷ p) pre reads reads' (λ ss l x g. read_kept reserved code i p ss l x g) c,
          tt,
          (λ e x. absurd (none_among e x)),
          seconds_end post S (held S refl),
        )
      where
        held : (S : Rel) → S ≡ after_both ws ws' (Loaded (Counted r reads ws None [] ∷ p) pre) → Holds reserved code h' p (λ s t. after_both ws ws' (Loaded (Counted r reads ws None [] ∷ p) pre) s (back post t))
        held S e (FromLane a) k =
            let i = Counted r reads ws None [] in
            let k' = kept_next reserved code i p a refl k in
            alike-back (i ∷ p) pre (filled ws a) (through ws' (back post (h' a))) (λ l g. flow reserved code i p a l k' g) (d a k')
        held S e Undef k = subst (λ t. AlikeFill (Loaded (Counted r reads ws None [] ∷ p) pre) (Moved Undef) (through ws' t)) (sym (back-undef post)) (tt, back-undef pre)
        held S e (Bits n low width) k = subst (λ t. AlikeFill (Loaded (Counted r reads ws None [] ∷ p) pre) (Moved (Bits n low width)) (through ws' t)) (sym (back-bits post n low width)) (tt, back-bits pre n low width)

  -- A silent instruction of the first, and any number of them in the second in its place: none where it vanishes, one where it is renamed, two where a copy is between two slots.
  pub silent : (reads : Reads) (ws : Writes) (qs : List Writes) →
      ((a : Lane) → KeptAfter reserved code (Silent reads ws) p a → back qs (h' a) ≡ placed h (settled (filled ws a))) →
      Passes reserved code at h' p (FirstSilent reads ws ∷ seconds qs) (Graph reserved code h (Silent reads ws ∷ p))
  silent reads ws qs c = seconds_end qs (after_first ws (Graph reserved code h (Silent reads ws ∷ p))) held
    where
      held : Holds reserved code h' p (λ s t. after_first ws (Graph reserved code h (Silent reads ws ∷ p)) s (back qs t))
      held (FromLane a) k =
          let k' = kept_next reserved code (Silent reads ws) p a refl k in
          (known-source reserved code (Silent reads ws ∷ p) (settled (filled ws a)) (λ l e. flow reserved code (Silent reads ws) p a l k' (settled-from (filled ws a) l e)), c a k')
      held Undef k = (tt, back-undef qs)
      held (Bits n low width) k = (tt, back-bits qs n low width)

  -- Silent instructions of the second alone, as a copy where a range changes its register.
  pub second_alone : (qs : List Writes) → ((a : Lane) → Kept reserved code p a → back qs (h' a) ≡ h a) → Passes reserved code at h' p (seconds qs) (Graph reserved code h p)
  second_alone qs c = seconds_end qs (Graph reserved code h p) held
    where
      held : Holds reserved code h' p (λ s t. Graph reserved code h p s (back qs t))
      held (FromLane a) k = (k, c a k)
      held Undef k = (tt, back-undef qs)
      held (Bits n low width) k = (tt, back-bits qs n low width)
