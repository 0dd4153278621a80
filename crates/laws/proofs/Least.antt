-- Live is least: whatever is closed under the rules holds of each live lane.
use Rattle.std.proofs.Common.{◌≡◌, ◌∷◌, ℕ, Bool, true, false, cond, eqb, List, []}
use Rattle.meaning.specs.Code.{BlockEnd, BlockStart, Code, Counted, Edge, Item, Silent, found}
use Rattle.meaning.specs.Lanes.{filled}
use Rattle.meaning.specs.Live.{Among, Feeds, Live, exits_of, in_order, is_slot, reads_of}
use Rattle.meaning.specs.declared.types.Fill.TheVariants.{Moved}
use Rattle.meaning.specs.declared.types.Lane.{Lane}
use Rattle.meaning.specs.declared.types.Lane.TheVariants.{SlotLane}
use Rattle.meaning.specs.declared.types.Source.{Source}
use Rattle.meaning.specs.declared.types.Source.TheVariants.{FromLane}
use Rattle.meaning.specs.declared.types.Write.{Write}
use Rattle.meaning.specs.Live as live

-- p ends the code
pub data Ends (code : Code) : Code → Type 0 where
  whole : Ends code code
  behind : {i : Item} {p : Code} → Ends code (i ∷ p) → Ends code p

ends-none : (code p : Code) → Ends code p → Ends code []
ends-none code [] e = e
ends-none code (i ∷ p) e = ends-none code p (behind e)

ends-choice : (code p q : Code) (b : Bool) → Ends code p → Ends code q → Ends code (cond b p q)
ends-choice code p q true e f = e
ends-choice code p q false e f = f

ends-found : (code : Code) (n : ℕ) (p : Code) → Ends code p → Ends code (found n p)
ends-found code n [] e = e
ends-found code n (BlockStart m ∷ p) e = ends-choice code p (found n p) (eqb m n) (behind e) (ends-found code n p (behind e))
ends-found code n (BlockEnd falls exits ∷ p) e = ends-found code n p (behind e)
ends-found code n (Silent reads ws ∷ p) e = ends-found code n p (behind e)
ends-found code n (Counted r reads ws target exits ∷ p) e = ends-found code n p (behind e)

-- T p l: a table says that lane l is live at place p
pub record Closed (reserved : Lane → Bool) (code : Code) (T : Code → Lane → Bool) : Type 0 where
  pub read : (i : Item) (p : Code) (ss : List Source) (l : Lane) → Ends code (i ∷ p) → Among ss (reads_of i) → Among (FromLane l) ss → reserved l ≡ false → T (i ∷ p) l ≡ true
  pub next : (i : Item) (p : Code) (l a : Lane) → Ends code (i ∷ p) → in_order i ≡ true → T p a ≡ true → Feeds i l a → reserved l ≡ false → T (i ∷ p) l ≡ true
  pub leap : (i : Item) (p : Code) (e : Edge) (l a b : Lane) → Ends code (i ∷ p) → Among e (exits_of i) → T (found e.block code) a ≡ true → filled e.phis a ≡ Moved (FromLane b) → Feeds i l b → reserved l ≡ false → T (i ∷ p) l ≡ true
  pub phi : (i : Item) (p : Code) (e : Edge) (w : Write) (l b : Lane) → Ends code (i ∷ p) → Among e (exits_of i) → Among w e.phis → w.fill ≡ Moved (FromLane b) → Feeds i l b → reserved l ≡ false → T (i ∷ p) l ≡ true
  pub store : (i : Item) (p : Code) (s k w x : ℕ) (l : Lane) → Ends code (i ∷ p) → in_order i ≡ true → T p (SlotLane s k x) ≡ true → Feeds i l (SlotLane s k w) → is_slot l ≡ false → reserved l ≡ false → T (i ∷ p) l ≡ true
  pub kept : (i : Item) (p : Code) (l a : Lane) → Ends code (i ∷ p) → reserved a ≡ true → Feeds i l a → reserved l ≡ false → T (i ∷ p) l ≡ true

module _ (reserved : Lane → Bool) (code : Code) (T : Code → Lane → Bool) (c : Closed reserved code T) where
  pub live_within : {p : Code} {l : Lane} → Live reserved code p l → Ends code p → T p l ≡ true
  live_within (live.read {i = i} {p = p} {ss = ss} {l = l} h g r) e = c.read i p ss l e h g r
  live_within (live.next {i = i} {p = p} {l = l} {a = a} o h f r) e = c.next i p l a e o (live_within h (behind e)) f r
  live_within (live.leap {i = i} {p = p} {e = x} {l = l} {a = a} {b = b} y h g f r) e = c.leap i p x l a b e y (live_within h (ends-found code x.block code whole)) g f r
  live_within (live.phi {i = i} {p = p} {e = x} {w = w} {l = l} {b = b} y z g f r) e = c.phi i p x w l b e y z g f r
  live_within (live.store w {i = i} {p = p} {s = s} {k = k} {x = x} {l = l} o h f t r) e = c.store i p s k w x l e o (live_within h (behind e)) f t r
  live_within (live.kept {i = i} {p = p} {l = l} {a = a} s f r) e = c.kept i p l a e s f r
