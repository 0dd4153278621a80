-- The terminators of a block are one place: the reloads stand before the first of them. No way into a block has phis.
use Rattle.std.proofs.Common.{◌≡◌, ◌∷◌, ◌++◌, Bool, List, Option, Some, None, refl, sym, subst, []}
use Rattle.meaning.specs.Code.{Code, Counted, Edge, Item, found}
use Rattle.meaning.specs.InStep.{Agree, AtStarts, ExitsHold, Holds, Known, Passes, TargetHolds}
use Rattle.meaning.specs.Lanes.{Homes, Reads, Writes, filled, placed, placed_fill, settled, through}
use Rattle.meaning.specs.Layout.{NoPhisAlong, NoPhisInto}
use Rattle.meaning.specs.Live.{Among, Kept, KeptAfter, here, there}
use Rattle.meaning.specs.Perform.{width}
use Rattle.meaning.specs.Relations.{AlikeFill, AlikeOperands, AlikeReads, Rel, after_both, along}
use Rattle.meaning.specs.Rows.{first_of_rows, second_of_rows}
use Rattle.meaning.specs.declared.types.Fill.{Fill}
use Rattle.meaning.specs.declared.types.Fill.TheVariants.{Computed, Moved}
use Rattle.meaning.specs.declared.types.Lane.{Lane}
use Rattle.meaning.specs.declared.types.Rest.{Rest}
use Rattle.meaning.specs.declared.types.Row.{Row}
use Rattle.meaning.specs.declared.types.Row.TheVariants.{BothCounted}
use Rattle.meaning.specs.declared.types.Source.{Source}
use Rattle.meaning.specs.declared.types.Source.TheVariants.{Bits, FromLane, Undef}
use Rattle.laws.proofs.Flow.{flow, kept_along, kept_next, none_among}
use Rattle.laws.proofs.Steps.{both_into, both_ways, filled-none, first-into, first-ways, second-into, second-ways, through-none}

pub record Terminator : Type 0 where
  pub rest : Rest
  pub reads : Reads
  pub reads' : Reads
  pub writes : Writes
  pub target : Option Edge
  pub exits : List Edge

abbrev pub first_item : Terminator → Item
first_item t = Counted t.rest t.reads t.writes t.target t.exits

abbrev pub second_item : Terminator → Item
second_item t = Counted t.rest t.reads' t.writes t.target t.exits

abbrev pub rows_of : List Terminator → List Row
rows_of [] = []
rows_of (t ∷ ts) = BothCounted t.rest t.reads t.reads' t.writes t.writes (both_into t.target) (both_ways t.exits) ∷ rows_of ts

abbrev pub first_items : List Terminator → Code
first_items [] = []
first_items (t ∷ ts) = first_item t ∷ first_items ts

abbrev pub second_items : List Terminator → Code
second_items [] = []
second_items (t ∷ ts) = second_item t ∷ second_items ts

pub first-terminators : (ts : List Terminator) → first_of_rows (rows_of ts) ≡ first_items ts
first-terminators [] = refl
first-terminators (t ∷ ts) = λ i. Counted t.rest t.reads t.writes (first-into t.target i) (first-ways t.exits i) ∷ first-terminators ts i

pub second-terminators : (ts : List Terminator) → second_of_rows (rows_of ts) ≡ second_items ts
second-terminators [] = refl
second-terminators (t ∷ ts) = λ i. Counted t.rest t.reads' t.writes (second-into t.target i) (second-ways t.exits i) ∷ second-terminators ts i

-- what the later terminators read is not written by this one, on either side
abbrev pub Unread : Writes → Source → Source → Type 0
Unread ws s t = (through ws s ≡ Moved s) × (through ws t ≡ Moved t)

abbrev pub UnreadReads : Writes → List Source → List Source → Type 0
UnreadReads ws [] [] = Unit {0}
UnreadReads ws [] (t ∷ ts) = Unit {0}
UnreadReads ws (s ∷ ss) [] = Unit {0}
UnreadReads ws (s ∷ ss) (t ∷ ts) = Unread ws s t × UnreadReads ws ss ts

abbrev pub UnreadOperands : Writes → Reads → Reads → Type 0
UnreadOperands ws [] [] = Unit {0}
UnreadOperands ws [] (t ∷ ts) = Unit {0}
UnreadOperands ws (s ∷ ss) [] = Unit {0}
UnreadOperands ws (s ∷ ss) (t ∷ ts) = UnreadReads ws s t × UnreadOperands ws ss ts

abbrev pub UnreadByAll : Writes → List Terminator → Type 0
UnreadByAll ws [] = Unit {0}
UnreadByAll ws (t ∷ ts) = UnreadOperands ws t.reads t.reads' × UnreadByAll ws ts

abbrev pub AlikeAll : Rel → List Terminator → Type 0
AlikeAll R [] = Unit {0}
AlikeAll R (t ∷ ts) = AlikeOperands R t.reads t.reads' × AlikeAll R ts

unread-source : (R : Rel) (ws : Writes) (s t : Source) → Unread ws s t → R s t → after_both ws ws R s t
unread-source R ws s t c h =
    let e : AlikeFill R (Moved s) (through ws t) = subst (λ g. AlikeFill R (Moved s) g) (sym c.1) h in
    subst (λ f. AlikeFill R f (through ws t)) (sym c.0) e

unread-reads : (R : Rel) (ws : Writes) (ss ts : List Source) → UnreadReads ws ss ts → AlikeReads R ss ts → AlikeReads (after_both ws ws R) ss ts
unread-reads R ws [] [] c h = h
unread-reads R ws [] (t ∷ ts) c h = h
unread-reads R ws (s ∷ ss) [] c h = h
unread-reads R ws (s ∷ ss) (t ∷ ts) c h = (unread-source R ws s t c.0 h.0, unread-reads R ws ss ts c.1 h.1)

unread-operands : (R : Rel) (ws : Writes) (ss ts : Reads) → UnreadOperands ws ss ts → AlikeOperands R ss ts → AlikeOperands (after_both ws ws R) ss ts
unread-operands R ws [] [] c h = h
unread-operands R ws [] (t ∷ ts) c h = h
unread-operands R ws (s ∷ ss) [] c h = h
unread-operands R ws (s ∷ ss) (t ∷ ts) c h = (unread-reads R ws s t c.0 h.0, unread-operands R ws ss ts c.1 h.1)

unread-all : (R : Rel) (ws : Writes) (ts : List Terminator) → UnreadByAll ws ts → AlikeAll R ts → AlikeAll (after_both ws ws R) ts
unread-all R ws [] c h = h
unread-all R ws (t ∷ ts) c h = (unread-operands R ws t.reads t.reads' c.0 h.0, unread-all R ws ts c.1 h.1)

module _ (reserved : Lane → Bool) (code : Code) (at : AtStarts) (h : Homes) where
  -- each terminator writes alike on both sides, leaves what later ones read, and goes where the homes agree
  abbrev pub Fine : List Terminator → Code → Type 0
  Fine [] p = Unit {0}
  Fine (t ∷ ts) p =
      ((a : Lane) → KeptAfter reserved code (first_item t) (first_items ts ++ p) a → placed_fill h (filled t.writes a) ≡ through t.writes (h a)) ×
      UnreadByAll t.writes ts ×
      ((e : Edge) → Among e t.exits → Agree reserved code (found e.block code) h (at e.block)) ×
      ((e : Edge) → t.target ≡ Some e → Among e t.exits) ×
      (NoPhisInto t.target × NoPhisAlong t.exits) ×
      Fine ts p

  module _ (R : Rel) (t : Terminator) (p : Code) (f : Holds reserved code h (first_item t ∷ p) R) (w : (a : Lane) → KeptAfter reserved code (first_item t) p a → placed_fill h (filled t.writes a) ≡ through t.writes (h a)) where
    fill-alike : (g : Fill) → ((l : Lane) → g ≡ Moved (FromLane l) → Kept reserved code (first_item t ∷ p) l) → AlikeFill R g (placed_fill h g)
    fill-alike (Moved (FromLane l)) k = f (FromLane l) (k l refl)
    fill-alike (Moved Undef) k = f Undef tt
    fill-alike (Moved (Bits n low width)) k = f (Bits n low width) tt
    fill-alike (Computed i) k = refl

    written-alike : (a : Lane) → KeptAfter reserved code (first_item t) p a → after_both t.writes t.writes R (FromLane a) (h a)
    written-alike a k =
        subst (λ g. AlikeFill R (filled t.writes a) g) (w a k) (fill-alike (filled t.writes a) (λ l e. flow reserved code (first_item t) p a l k e))

    behind : Holds reserved code h p (after_both t.writes t.writes R)
    behind (FromLane a) k = written-alike a (kept_next reserved code (first_item t) p a refl k)
    behind Undef k = f Undef tt
    behind (Bits n low width) k = f (Bits n low width) tt

    leads : (e : Edge) → Among e t.exits → e.phis ≡ [] → Agree reserved code (found e.block code) h (at e.block) → Holds reserved code (at e.block) (found e.block code) (along (record { block = e.block; first = e.phis; second = e.phis }) (after_both t.writes t.writes R))
    leads e x z g s k =
        let S : Rel = after_both t.writes t.writes R in
        let u = placed (at e.block) s in
        subst (λ r. S r (settled (through e.phis u))) (sym (through-none e.phis s z)) (subst (S s) (sym (through-none e.phis u z)) (go s k))
      where
        go : (s : Source) → Known reserved code (found e.block code) s → after_both t.writes t.writes R s (placed (at e.block) s)
        go (FromLane a) k' = subst (after_both t.writes t.writes R (FromLane a)) (g a k') (written-alike a (kept_along reserved code (first_item t) p e a a x k' (filled-none e.phis a z)))
        go Undef k' = f Undef tt
        go (Bits n low width) k' = f (Bits n low width) tt

    leads-all : (es : List Edge) → ((e : Edge) → Among e es → Among e t.exits) → NoPhisAlong es → ((e : Edge) → Among e t.exits → Agree reserved code (found e.block code) h (at e.block)) → ExitsHold reserved code at (both_ways es) (after_both t.writes t.writes R)
    leads-all [] v z g e x = absurd (none_among e x)
    leads-all (e ∷ es) v z g d here = leads e (v e here) z.0 (g e (v e here))
    leads-all (e ∷ es) v z g d (there x) = leads-all es (λ b y. v b (there y)) z.1 g d x

    leaps : (target : Option Edge) → ((e : Edge) → target ≡ Some e → Among e t.exits) → NoPhisInto target → ((e : Edge) → Among e t.exits → Agree reserved code (found e.block code) h (at e.block)) → TargetHolds reserved code at (both_into target) (after_both t.writes t.writes R)
    leaps None x z g = tt
    leaps (Some e) x z g = leads e (x e refl) z (g e (x e refl))

  pub terminators : (ts : List Terminator) (p : Code) (R : Rel) → Fine ts p → AlikeAll R ts → Holds reserved code h (first_items ts ++ p) R → Passes reserved code at h p (rows_of ts) R
  terminators [] p R o a f = f
  terminators (t ∷ ts) p R o a f =
      let q = first_items ts ++ p in (
        a.0,
        leaps R t q f o.0 t.target o.3 o.4.0 o.2,
        leads-all R t q f o.0 t.exits (λ e x. x) o.4.1 o.2,
        terminators ts p (after_both t.writes t.writes R) o.5 (unread-all R t.writes ts o.1 a.1) (behind R t q f o.0),
      )
