-- An `undef` definition: before it all lanes of its register are made Undef, and it is `undef` no more.
use Rattle.std.proofs.Common.{◌≡◌, ◌∷◌, ◌++◌, ◌∙◌, ◌||◌, ◌≤◌, not, ℕ, suc, Bool, true, false, cond, List, map, filter, length, refl, sym, ap, subst, arith, []}
use Rattle.std.specs.Prelude.{nat_le}
use Rattle.std.proofs.lemmas.Bool.{leb-true}
use Rattle.meaning.specs.Lanes.{Writes, filled, same_lane, settled, through}
use Rattle.meaning.specs.Live.{Among, here, there}
use Rattle.meaning.specs.declared.types.Fill.TheVariants.{Moved}
use Rattle.meaning.specs.declared.types.Lane.{Lane}
use Rattle.meaning.specs.declared.types.Source.{Source}
use Rattle.meaning.specs.declared.types.Source.TheVariants.{FromLane, Undef}
use Rattle.mir_func.specs.declared.func.RegOp.{RegOp}
use Rattle.mir_meaning.specs.Items.{moved, undefined}
use Rattle.mir_meaning.specs.Rules.{namings}
use Rattle.instr_effects.proofs.Members.{filter-in, member-elim, member-none}
use Rattle.lowering_laws.proofs.Olds.{is_old}
use Rattle.lowering_laws.proofs.Traced.{filled-free, filled-left, filled-right, is_lane_of, is_written, lanes_by, traced, undefined-apart}

-- these lanes' becoming Undef leaves the source
abbrev pub Leaves : List Lane → Source → Type 0
Leaves ls s = settled (through (undefined false ls) s) ≡ s

-- writes one after the other give each old lane what these give it at once
abbrev pub GivesAlike : ℕ → Writes → List Writes → Type 0
GivesAlike bound ws wss = (a : Lane) → is_old bound a ≡ true → traced wss (FromLane a) ≡ settled (filled ws a)

filled-early : (early : Bool) (ls : List Lane) (a : Lane) → filled (undefined false ls) a ≡ filled (undefined early ls) a
filled-early early [] a = refl
filled-early early (l ∷ ls) a = ap (λ x. cond (same_lane l a) (Moved Undef) x) (filled-early early ls a)

-- what an `undef` definition makes Undef beside what it gives may be made Undef before
pub undef-first :
    (bound : ℕ) (ls : List Lane) (early : Bool) (ws : Writes) (wss : List Writes) → GivesAlike bound ws wss → ((a : Lane) → is_written ws a ≡ true → Leaves ls (settled (filled ws a))) →
    GivesAlike bound (ws ++ undefined early ls) (undefined false ls ∷ wss)
undef-first bound ls early ws wss same leaves a o = go (is_written ws a) refl
  where
    go : (y : Bool) → is_written ws a ≡ y → traced (undefined false ls ∷ wss) (FromLane a) ≡ settled (filled (ws ++ undefined early ls) a)
    go true w = ap (λ s. settled (through (undefined false ls) s)) (same a o) ∙ (leaves a w ∙ ap settled (sym (filled-left ws (undefined early ls) a w)))
    go false w = ap (λ s. settled (through (undefined false ls) s)) (same a o ∙ ap settled (filled-free ws a w)) ∙ ap settled (filled-early early ls a ∙ sym (filled-right ws (undefined early ls) a w))

-- what is given is one of the sources
pub moved-among : (early : Bool) (ls : List Lane) (ss : List Source) (a : Lane) → is_written (moved early ls ss) a ≡ true → Among (settled (filled (moved early ls ss) a)) ss
moved-among early [] ss a w = absurd (cc)
moved-among early (l ∷ ls) [] a w = absurd (cc)
moved-among early (l ∷ ls) (s ∷ ss) a w = go (same_lane l a) w (moved-among early ls ss a)
  where
    go : (y : Bool) → (y || is_written (moved early ls ss) a) ≡ true → (is_written (moved early ls ss) a ≡ true → Among (settled (filled (moved early ls ss) a)) ss) → Among (settled (cond y (Moved s) (filled (moved early ls ss) a))) (s ∷ ss)
    go true w ih = here
    go false w ih = there (ih w)

-- lanes that are given Undef
pub moved-undef : (early : Bool) (ls ms : List Lane) → length ls ≤ length ms → moved early ls (map (λ (l : Lane). Undef) ms) ≡ undefined early ls
moved-undef early [] ms h = refl
moved-undef early (l ∷ ls) [] h = absurd (omega arith)
moved-undef early (l ∷ ls) (m ∷ ms) h = ap (λ ws. record { lane = l; fill = Moved Undef; early = early } ∷ ws) (moved-undef early ls ms (omega arith))

pub undefined-given : (early : Bool) (ls : List Lane) (a : Lane) → is_written (undefined early ls) a ≡ true → settled (filled (undefined early ls) a) ≡ Undef
undefined-given early [] a w = absurd (cc)
undefined-given early (l ∷ ls) a w = go (same_lane l a) w (undefined-given early ls a)
  where
    go : (y : Bool) → (y || is_written (undefined early ls) a) ≡ true → (is_written (undefined early ls) a ≡ true → settled (filled (undefined early ls) a) ≡ Undef) → settled (cond y (Moved Undef) (filled (undefined early ls) a)) ≡ Undef
    go true w ih = refl
    go false w ih = ih w

pub undefined-append : (early : Bool) (xs ys : List Lane) → undefined early (xs ++ ys) ≡ undefined early xs ++ undefined early ys
undefined-append early [] ys = refl
undefined-append early (x ∷ xs) ys = ap (λ ws. record { lane = x; fill = Moved Undef; early = early } ∷ ws) (undefined-append early xs ys)

-- sources that are no lane of a register
pub apart-leaves : (v : ℕ) (ns : List ℕ) (undef : Bool) (ls : List Lane) → (undef ≡ false → (l : Lane) → Among l ls → is_lane_of v l ≡ false) → (s : Source) → Among s (map (cond undef (λ l. Undef) FromLane) ls) → Leaves (lanes_by v ns) s
apart-leaves v ns undef [] h s m = absurd (member-none s m)
apart-leaves v ns true (l ∷ ls) h s m = member-elim s Undef (map (λ (l : Lane). Undef) ls) (λ e. subst (λ z. Leaves (lanes_by v ns) z) (sym e) refl) (λ k. apart-leaves v ns true ls (λ e x j. h e x (there j)) s k) m
apart-leaves v ns false (l ∷ ls) h s m =
    member-elim s (FromLane l) (map FromLane ls) (λ e. subst (λ z. Leaves (lanes_by v ns) z) (sym e) (ap settled (filled-free (undefined false (lanes_by v ns)) l (undefined-apart v ns l (h refl l here))))) (λ k. apart-leaves v ns false ls (λ e x j. h e x (there j)) s k) m

-- no other operand names the register of an `undef` definition

-- the operand names something
abbrev names : RegOp → Bool
names o = o.def || not o.undef

none-more : (p : RegOp → Bool) (d : RegOp) (rest : List RegOp) → d.def ≡ true → p d ≡ true → nat_le (length (filter p (namings (d ∷ rest)))) 1 ≡ true → (o : RegOp) → Among o rest → names o ≡ true → p o ≡ false
none-more p d rest def own few o m n = go (p o) refl
  where
    others : List RegOp
    others = filter p (namings rest)

    none : (xs : List RegOp) → nat_le (suc (length xs)) 1 ≡ true → Among o xs → ⊥
    none [] e k = member-none o k
    none (x ∷ xs) e k = let m = leb-true (suc (suc (length xs))) 1 e in omega arith

    few' : nat_le (suc (length others)) 1 ≡ true
    few' = (λ k. nat_le (length (cond (sym own k) (d ∷ others) others)) 1) ∙ ((λ k. nat_le (length (filter p (cond (sym def k || not d.undef) (d ∷ namings rest) (namings rest)))) 1) ∙ few)

    go : (y : Bool) → p o ≡ y → p o ≡ false
    go false e = e
    go true e = absurd (none others few' (filter-in p o (namings rest) (filter-in names o rest m n) e))

pub alone : (p : RegOp → Bool) (d : RegOp) (rest : List RegOp) → d.def ≡ true → p d ≡ true → nat_le (length (filter p (namings (d ∷ rest)))) 1 ≡ true → (o : RegOp) → Among o rest → o.undef ≡ false → p o ≡ false
alone p d rest def own few o m e = none-more p d rest def own few o m (either o.def o.undef e)
  where
    either : (a b : Bool) → b ≡ false → (a || not b) ≡ true
    either true b e = refl
    either false b e = ap not e
