-- Items of two codes in step, where the second has the lanes of the first renamed by a map that keeps lanes apart.
use Rattle.std.proofs.Common.{◌≡◌, ◌∷◌, ◌∙◌, Bool, List, Option, Some, None, map, refl, sym, ap, subst, []}
use Rattle.meaning.specs.Code.{BlockEnd, BlockStart, Code, Counted, Edge, Item, Silent, found}
use Rattle.meaning.specs.InStep.{Agree, AtStarts, ExitsHold, Graph, Holds, InStep, Known, Passes, TargetHolds, place}
use Rattle.meaning.specs.Lanes.{Homes, Reads, Writes, filled, placed, settled, through}
use Rattle.meaning.specs.Layout.{LaidOut, NoPhisAlong, NoPhisInto}
use Rattle.meaning.specs.Live.{Among, Kept, KeptAfter, here, there}
use Rattle.meaning.specs.Matched.{image, image_fill, images, renamed, renamed_reads}
use Rattle.meaning.specs.Relations.{AlikeFill, AlikeOperands, AlikeReads, Rel, after_both, along}
use Rattle.meaning.specs.declared.types.Fill.{Fill}
use Rattle.meaning.specs.declared.types.Fill.TheVariants.{Computed, Moved}
use Rattle.meaning.specs.Rows.{first_edges, first_target, second_edges, second_target}
use Rattle.meaning.specs.declared.types.Lane.{Lane}
use Rattle.meaning.specs.declared.types.Rest.{Rest}
use Rattle.meaning.specs.declared.types.Row.TheVariants.{BothCounted, FirstSilent, SecondSilent}
use Rattle.meaning.specs.declared.types.Source.{Source}
use Rattle.meaning.specs.declared.types.Source.TheVariants.{Bits, FromLane, Undef}
use Rattle.laws.proofs.Flow.{flow, kept_along, kept_next, known-source, none_among, read_kept}
use Rattle.laws.proofs.Steps.{both_into, both_ways, filled-none, first-into, first-ways, second-into, second-ways, through-none}
use Rattle.laws.proofs.Surround.{second_alone, silent}
use Rattle.mir_meaning.specs.Renaming.{renamed_item}
use Rattle.split_laws.proofs.Renamed.{KeepsApart, alone}

image-settled : (m : Lane → Lane) (x : Fill) → settled (image_fill m x) ≡ image m (settled x)
image-settled m (Moved s) = refl
image-settled m (Computed n) = refl

-- an item that isn't a border of a block, without phis on its ways, which lead to starts with the same homes
abbrev pub IsBody : (Lane → Bool) → Code → AtStarts → Homes → Item → Type 0
IsBody reserved code at h (BlockStart n) = ⊥
IsBody reserved code at h (BlockEnd falls exits) = ⊥
IsBody reserved code at h (Silent reads ws) = Unit {0}
IsBody reserved code at h (Counted r reads ws target exits) = (NoPhisInto target × NoPhisAlong exits) × ((e : Edge) → Among e exits → Agree reserved code (found e.block code) h (at e.block))

module _ (reserved : Lane → Bool) (code : Code) (at : AtStarts) where
  -- the homes may change where they agree
  pub agreeing : (h h' : Homes) (p q : Code) → Agree reserved code p h h' → InStep reserved code at h' p q → InStep reserved code at h p q
  agreeing h h' p q e s = place {h' = h'} [] (second_alone reserved code at h h' p [] (λ a k. sym (e a k))) s

  -- a copy in the second alone
  pub copying : (h h' : Homes) (ws : Writes) (p q : Code) → ((a : Lane) → Kept reserved code p a → settled (through ws (h' a)) ≡ h a) → InStep reserved code at h' p q → InStep reserved code at h p (Silent [] ws ∷ q)
  copying h h' ws p q e s = place {h' = h'} (SecondSilent [] ws ∷ []) (second_alone reserved code at h h' p (ws ∷ []) e) s

  module _ (m : Lane → Lane) (apart : KeepsApart m) where
    silently : (reads : Reads) (ws : Writes) (p q : Code) → InStep reserved code at (images m) p q → InStep reserved code at (images m) (Silent reads ws ∷ p) (Silent (renamed_reads m reads) (renamed m ws) ∷ q)
    silently reads ws p q s =
        place {h' = images m} (FirstSilent reads ws ∷ SecondSilent (renamed_reads m reads) (renamed m ws) ∷ [])
        (silent reserved code at (images m) (images m) p reads ws (renamed m ws ∷ []) (λ a k. sym (ap settled (alone m apart ws a)) ∙ image-settled m (filled ws a)))
        s

    -- what is known at a place, in the lanes of its image
    abbrev At : Code → Rel
    At p = Graph reserved code (images m) p

    alike-reads : (p : Code) (ss : List Source) → ((l : Lane) → Among (FromLane l) ss → Kept reserved code p l) → AlikeReads (At p) ss (map (image m) ss)
    alike-reads p [] k = tt
    alike-reads p (s ∷ ss) k = ((known-source reserved code p s (λ l e. k l (subst (λ x. Among x (s ∷ ss)) e here)), refl), alike-reads p ss (λ l x. k l (there x)))

    alike-operands : (p : Code) (reads : Reads) → ((ss : List Source) (l : Lane) → Among ss reads → Among (FromLane l) ss → Kept reserved code p l) → AlikeOperands (At p) reads (renamed_reads m reads)
    alike-operands p [] k = tt
    alike-operands p (ss ∷ reads) k = (alike-reads p ss (λ l x. k ss l here x), alike-operands p reads (λ ts l x y. k ts l (there x) y))

    module _ (r : Rest) (reads : Reads) (ws : Writes) (target : Option Edge) (exits : List Edge) (p : Code) where
      abbrev item : Item
      item = Counted r reads ws target exits

      abbrev behind : Rel
      behind = after_both ws (renamed m ws) (At (item ∷ p))

      alike-fill : (x : Fill) → ((l : Lane) → x ≡ Moved (FromLane l) → Kept reserved code (item ∷ p) l) → AlikeFill (At (item ∷ p)) x (image_fill m x)
      alike-fill (Moved s) k = (known-source reserved code (item ∷ p) s (λ l e. k l (ap Moved e)), refl)
      alike-fill (Computed n) k = refl

      written : (a : Lane) → KeptAfter reserved code item p a → behind (FromLane a) (FromLane (m a))
      written a k = subst (AlikeFill (At (item ∷ p)) (filled ws a)) (alone m apart ws a) (alike-fill (filled ws a) (λ l e. flow reserved code item p a l k e))

      holds : Holds reserved code (images m) p behind
      holds (FromLane a) k = written a (kept_next reserved code item p a refl k)
      holds Undef k = (tt, refl)
      holds (Bits c low width) k = (tt, refl)

      leads : (e : Edge) → Among e exits → e.phis ≡ [] → Agree reserved code (found e.block code) (images m) (at e.block) → Holds reserved code (at e.block) (found e.block code) (along (record { block = e.block; first = e.phis; second = e.phis }) behind)
      leads e x z g s k =
          let u = placed (at e.block) s in
          subst (λ y. behind y (settled (through e.phis u))) (sym (through-none e.phis s z)) (subst (behind s) (sym (through-none e.phis u z)) (go s k))
        where
          go : (s : Source) → Known reserved code (found e.block code) s → behind s (placed (at e.block) s)
          go (FromLane a) k' = subst (behind (FromLane a)) (g a k') (written a (kept_along reserved code item p e a a x k' (filled-none e.phis a z)))
          go Undef k' = (tt, refl)
          go (Bits c low width) k' = (tt, refl)

      module _ (agree : (e : Edge) → Among e exits → Agree reserved code (found e.block code) (images m) (at e.block)) where
        leads-all : (es : List Edge) → ((e : Edge) → Among e es → Among e exits) → NoPhisAlong es → ExitsHold reserved code at (both_ways es) behind
        leads-all [] v z e x = absurd (none_among e x)
        leads-all (e ∷ es) v z d here = leads e (v e here) z.0 (agree e (v e here))
        leads-all (e ∷ es) v z d (there x) = leads-all es (λ b y. v b (there y)) z.1 d x

        leaps : (way : Option Edge) → ((e : Edge) → way ≡ Some e → Among e exits) → NoPhisInto way → TargetHolds reserved code at (both_into way) behind
        leaps None v z = tt
        leaps (Some e) v z = leads e (v e refl) z (agree e (v e refl))

        passes : ((e : Edge) → target ≡ Some e → Among e exits) → NoPhisInto target → NoPhisAlong exits → Passes reserved code at (images m) p (BothCounted r reads (renamed_reads m reads) ws (renamed m ws) (both_into target) (both_ways exits) ∷ []) (At (item ∷ p))
        passes v z n = (alike-operands (item ∷ p) reads (λ ss l x y. read_kept reserved code item p ss l x y), leaps target v z, leads-all exits (λ e x. x) n, holds)

    listed : (r : Rest) (reads : Reads) (ws : Writes) (target : Option Edge) (exits : List Edge) (p : Code) → LaidOut code (Counted r reads ws target exits ∷ p) → (e : Edge) → target ≡ Some e → Among e exits
    listed r reads ws None exits p l e g = absurd (cc)
    listed r reads ws (Some d) exits p l e g = subst (λ x. Among x exits) (same d e g) l.0
      where
        same : (d e : Edge) → Some d ≡ Some e → d ≡ e
        same d e g = cc

    counting : (r : Rest) (reads : Reads) (ws : Writes) (target : Option Edge) (exits : List Edge) (p q : Code) → IsBody reserved code at (images m) (Counted r reads ws target exits) → LaidOut code (Counted r reads ws target exits ∷ p) → InStep reserved code at (images m) p q → InStep reserved code at (images m) (Counted r reads ws target exits ∷ p) (Counted r (renamed_reads m reads) (renamed m ws) target exits ∷ q)
    counting r reads ws target exits p q b l s =
        subst (λ i. InStep reserved code at (images m) (i ∷ p) (Counted r (renamed_reads m reads) (renamed m ws) target exits ∷ q)) first
        (subst (λ j. InStep reserved code at (images m) (Counted r reads ws (first_target (both_into target)) (first_edges (both_ways exits)) ∷ p) (j ∷ q)) second
        (place {h' = images m} (BothCounted r reads (renamed_reads m reads) ws (renamed m ws) (both_into target) (both_ways exits) ∷ [])
        (subst (λ i. Passes reserved code at (images m) p (BothCounted r reads (renamed_reads m reads) ws (renamed m ws) (both_into target) (both_ways exits) ∷ []) (At (i ∷ p))) (sym first) (passes r reads ws target exits p b.1 (listed r reads ws target exits p l) b.0.0 b.0.1))
        s))
      where
        first : Counted r reads ws (first_target (both_into target)) (first_edges (both_ways exits)) ≡ Counted r reads ws target exits
        first = λ i. Counted r reads ws (first-into target i) (first-ways exits i)

        second : Counted r (renamed_reads m reads) (renamed m ws) (second_target (both_into target)) (second_edges (both_ways exits)) ≡ Counted r (renamed_reads m reads) (renamed m ws) target exits
        second = λ i. Counted r (renamed_reads m reads) (renamed m ws) (second-into target i) (second-ways exits i)

    -- an item and the same with its lanes renamed
    pub renaming : (i : Item) (p q : Code) → IsBody reserved code at (images m) i → LaidOut code (i ∷ p) → InStep reserved code at (images m) p q → InStep reserved code at (images m) (i ∷ p) (renamed_item m i ∷ q)
    renaming (BlockStart n) p q b l s = absurd b
    renaming (BlockEnd falls exits) p q b l s = absurd b
    renaming (Silent reads ws) p q b l s = silently reads ws p q s
    renaming (Counted r reads ws target exits) p q b l s = counting r reads ws target exits p q b l s
