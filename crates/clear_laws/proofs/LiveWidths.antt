-- Lanes of slots that are live have widths at which stores write: what reads them is a reload of a register's lanes.
use Rattle.std.proofs.Common.{◌≡◌, ◌<◌, ◌⊎◌, inl, inr, ◌∷◌, ◌∙◌, ℕ, zero, suc, Bool, true, false, cond, List, Option, Some, None, length, refl, sym, ap, subst, arith, []}
use Rattle.std.specs.Prelude.{nat_eq, slice_index}
use Rattle.target_base.specs.declared.types.ClassId.{ClassId}
use Rattle.target_base.specs.declared.types.IndexId.{IndexId}
use Rattle.target_base.specs.declared.types.Target.{Target}
use Rattle.target_base.specs.Registers.{lanes_of, widths_of_some}
use Rattle.meaning.specs.Code.{BlockEnd, BlockStart, Code, Counted, Edge, Item, Silent, found}
use Rattle.meaning.specs.Lanes.{filled}
use Rattle.meaning.specs.Live.{Among as Member, here as first, there as later, Live, exits_of, is_slot, kept, leap, next, phi, read, reads_of, store, writes_of}
use Rattle.meaning.specs.declared.types.Fill.TheVariants.{Moved}
use Rattle.meaning.specs.declared.types.Lane.{Lane}
use Rattle.meaning.specs.declared.types.Lane.TheVariants.{SlotLane}
use Rattle.meaning.specs.declared.types.Source.{Source}
use Rattle.meaning.specs.declared.types.Source.TheVariants.{FromLane}
use Rattle.meaning.specs.declared.types.Write.{Write}
use Rattle.laws.proofs.Flow.{filled-from}
use Rattle.mir_func.specs.declared.func.Loc.{Loc}
use Rattle.mir_func.specs.declared.func.Loc.TheVariants.{Fixed, Virtual}
use Rattle.mir_func.specs.declared.func.RegOp.{RegOp}
use Rattle.mir_func.specs.Value.{Function}
use Rattle.mir_func.specs.Binding.{class_of}
use Rattle.mir_meaning.specs.Items.{widths_once}
use Rattle.mir_meaning.specs.Registers.{is_reserved, located_widths, operand_widths, range_widths}
use Rattle.instr_effects.proofs.Members.{map-of, member-none}
use Rattle.live_laws.specs.Effects.Shaped.{AreClasses}
use Rattle.split_laws.proofs.Suits.{IsNamed}
use Rattle.clear_laws.proofs.PlaceBounds.{bare-phis}
use Rattle.clear_laws.proofs.SilentLists.{class-wide, reg-wide}

abbrev pub Wide : Target → ℕ → Type 0
Wide t w = Member w (widths_once [] t.units)

-- an item that moves lanes of slots at such widths alone, and reads none besides
pub record MovesWide (t : Target) (i : Item) : Type 0 where
  pub fills : (w : Write) (n k u : ℕ) → Member w (writes_of i) → w.fill ≡ Moved (FromLane (SlotLane n k u)) → Wide t u
  pub reads : (ss : List Source) (n k u : ℕ) → Member ss (reads_of i) → Member (FromLane (SlotLane n k u)) ss → Wide t u
  pub bare : (e : Edge) → Member e (exits_of i) → e.phis ≡ []

abbrev pub AllWide : Target → Code → Type 0
AllWide t [] = Unit {0}
AllWide t (i ∷ p) = MovesWide t i × AllWide t p

pub found-wide : (t : Target) (n : ℕ) (p : Code) → AllWide t p → AllWide t (found n p)
found-wide t n [] h = h
found-wide t n (BlockStart m ∷ p) h = go (nat_eq m n) (found-wide t n p h.1)
  where
    go : (b : Bool) → AllWide t (found n p) → AllWide t (cond b p (found n p))
    go true ih = h.1
    go false ih = ih
found-wide t n (BlockEnd falls exits ∷ p) h = found-wide t n p h.1
found-wide t n (Silent reads ws ∷ p) h = found-wide t n p h.1
found-wide t n (Counted r reads ws target exits ∷ p) h = found-wide t n p h.1

module _ (t : Target) (C : Code) (all : AllWide t C) where
  fed-wide : (i : Item) (l a : Lane) → MovesWide t i → filled (writes_of i) a ≡ Moved (FromLane l) → ((n k u : ℕ) → a ≡ SlotLane n k u → Wide t u) → (n k u : ℕ) → l ≡ SlotLane n k u → Wide t u
  fed-wide i l a x f h n k u e = go (filled-from (writes_of i) a l f)
    where
      go : (l ≡ a) ⊎ ((w : Write) × Member w (writes_of i) × (w.fill ≡ Moved (FromLane l))) → Wide t u
      go (inl q) = h n k u (sym q ∙ e)
      go (inr z) = x.fills z.0 n k u z.1 (z.2 ∙ ap (λ b. Moved (FromLane b)) e)

  pub live-wide : {p : Code} {l : Lane} → Live (is_reserved t) C p l → AllWide t p → (n k u : ℕ) → l ≡ SlotLane n k u → Wide t u
  live-wide (read {ss = ss} m q r) h n k u e = h.0.reads ss n k u m (subst (λ a. Member (FromLane a) ss) e q)
  live-wide (next {i = i} {l = l} {a = a} o live f r) h n k u e = fed-wide i l a h.0 f (live-wide live h.1) n k u e
  live-wide (leap {i = i} {e = w} {l = l} {a = a} {b = b} m live q f r) h n k u e =
      fed-wide i l b h.0 f (λ x y v c. live-wide live (found-wide t w.block C all) x y v (bare-phis w.phis a b (h.0.bare w m) q ∙ c)) n k u e
  live-wide (phi {e = w} {w = y} m q g f r) h n k u e = absurd (member-none y (subst (Member y) (h.0.bare w m) q))
  live-wide (store w o live f s r) h n k u e = absurd (let a : is_slot (SlotLane n k u) ≡ false = ap is_slot (sym e) ∙ s in cc)
  live-wide (kept {i = i} {l = l} {a = a} s f r) h n k u e = fed-wide i l a h.0 f (λ x y v c. absurd (let q : is_reserved t (SlotLane x y v) ≡ true = ap (is_reserved t) (sym c) ∙ s in cc)) n k u e

-- the widths of a register's lanes

slice-in : (xs : List ℕ) (k : ℕ) → k < length xs → Member (slice_index xs k) xs
slice-in [] k h = absurd (omega arith)
slice-in (x ∷ xs) zero h = first
slice-in (x ∷ xs) (suc k) h = later (slice-in xs k (omega arith))

module _ (t : Target) (f : Function) (classes : AreClasses t f) where
  range-wide : (v : ℕ) (w : ℕ) → Member w (range_widths t f v) → Wide t w
  range-wide v w m = go (class_of f v) refl m
    where
      go : (q : Option ClassId) → class_of f v ≡ q → Member w (widths_of_some t q) → Wide t w
      go None e m = absurd (member-none w m)
      go (Some k) e m = class-wide t k w m

  pub register-wide : (o : RegOp) → IsNamed t f o → (w : ℕ) → Member w (operand_widths t f o) → Wide t w
  register-wide o named w m = go o.loc o.index refl refl m
    where
      go : (l : Loc) (x : Option IndexId) → o.loc ≡ l → o.index ≡ x → Member w (located_widths t f l x) → Wide t w
      go (Virtual v) None a b m = range-wide v w m
      go (Virtual v) (Some x) a b m =
          let y = map-of (slice_index (range_widths t f v)) w (lanes_of t x) m in
          range-wide v w (subst (λ u. Member u (range_widths t f v)) (sym y.2) (slice-in (range_widths t f v) y.0 (named.index v x y.0 a b y.1)))
      go (Fixed r) x a b m = reg-wide t r w m
