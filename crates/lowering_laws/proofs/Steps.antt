-- One instruction of the first function and what becomes of it, by what lanes hold behind both.
use Rattle.std.proofs.Common.{◌≡◌, ◌∷◌, ◌++◌, ◌∙◌, ℕ, true, List, None, refl, sym, ap, subst, []}
use Rattle.meaning.specs.Code.{Counted, Silent}
use Rattle.meaning.specs.Lanes.{Reads, Writes, filled, settled, through}
use Rattle.meaning.specs.Relations.{AlikeFill, AlikeOperands, Rel, Within, after_both, after_first}
use Rattle.meaning.specs.declared.types.Fill.TheVariants.{Moved}
use Rattle.meaning.specs.declared.types.Lane.{Lane}
use Rattle.meaning.specs.declared.types.Rest.{Rest}
use Rattle.meaning.specs.declared.types.Source.{Source}
use Rattle.meaning.specs.declared.types.Source.TheVariants.{Bits, FromLane, Undef}
use Rattle.laws.proofs.Core.{Plan}
use Rattle.lowering_laws.proofs.Alike.{Equal}
use Rattle.lowering_laws.proofs.Classes.{none-among}
use Rattle.lowering_laws.proofs.Olds.{AllOld, is_old, old_source, through-old}
use Rattle.lowering_laws.proofs.Stretches.{Stretch, both-counted, first-silent, joined, lessened}
use Rattle.lowering_laws.proofs.Traced.{second-silents, silents, traced, traced-bits, traced-undef}

module _ (K : Plan) (bound : ℕ) where
  -- a silent instruction, and silent ones that give each old lane the same
  pub one-silent : (reads : Reads) (ws : Writes) (wss : List Writes) → AllOld bound ws → ((a : Lane) → is_old bound a ≡ true → traced wss (FromLane a) ≡ settled (filled ws a)) → Stretch K (Equal bound) (Equal bound) (Silent reads ws ∷ []) (silents wss)
  one-silent reads ws wss o h =
      lessened K (Equal bound) T (Equal bound) (Silent reads ws ∷ []) (silents wss) within
      (joined K (Equal bound) (after_first ws (Equal bound)) T (Silent reads ws ∷ []) [] [] (silents wss) (first-silent K (Equal bound) reads ws) (second-silents K (after_first ws (Equal bound)) wss))
    where
      T : Rel
      T s u = after_first ws (Equal bound) s (traced wss u)

      same : (s : Source) → old_source bound s ≡ true → traced wss s ≡ settled (through ws s)
      same (FromLane a) e = h a e
      same Undef e = traced-undef wss
      same (Bits c low width) e = traced-bits wss c low width

      within : Within (Equal bound) T
      within s u k = (through-old bound ws o s k.0, ap (traced wss) k.1 ∙ same s k.0)

  -- A counted instruction, and one that does the same between silent ones: before it these relate what both read, and
  -- behind it each old lane holds the same.
  abbrev pub Before : List Writes → Rel
  Before pre s u = Equal bound s (traced pre u)

  pub one-counted :
      (r : Rest) (reads reads' : Reads) (ws ws' : Writes) (pre post : List Writes) → AlikeOperands (Before pre) reads reads' →
      ((a : Lane) → is_old bound a ≡ true → AlikeFill (Before pre) (filled ws a) (through ws' (traced post (FromLane a)))) →
      Stretch K (Equal bound) (Equal bound) (Counted r reads ws None [] ∷ []) (silents pre ++ (Counted r reads' ws' None [] ∷ silents post))
  one-counted r reads reads' ws ws' pre post alike h =
      lessened K (Equal bound) T (Equal bound) (Counted r reads ws None [] ∷ []) (silents pre ++ (Counted r reads' ws' None [] ∷ silents post)) within
      (joined K (Equal bound) (Before pre) T [] (silents pre) (Counted r reads ws None [] ∷ []) (Counted r reads' ws' None [] ∷ silents post) (second-silents K (Equal bound) pre)
      (joined K (Before pre) (after_both ws ws' (Before pre)) T (Counted r reads ws None [] ∷ []) (Counted r reads' ws' None [] ∷ []) [] (silents post) (both-counted K (Before pre) r reads reads' ws ws' None [] alike tt (λ e m. absurd (none-among e m)))
      (second-silents K (after_both ws ws' (Before pre)) post)))
    where
      T : Rel
      T s u = after_both ws ws' (Before pre) s (traced post u)

      same : (s : Source) → old_source bound s ≡ true → AlikeFill (Before pre) (through ws s) (through ws' (traced post s))
      same (FromLane a) e = h a e
      same Undef e = subst (λ q. AlikeFill (Before pre) (Moved Undef) (through ws' q)) (sym (traced-undef post)) (refl, traced-undef pre)
      same (Bits c low width) e = subst (λ q. AlikeFill (Before pre) (Moved (Bits c low width)) (through ws' q)) (sym (traced-bits post c low width)) (refl, traced-bits pre c low width)

      within : Within (Equal bound) T
      within s u k = subst (λ q. AlikeFill (Before pre) (through ws s) (through ws' (traced post q))) (sym k.1) (same s k.0)
