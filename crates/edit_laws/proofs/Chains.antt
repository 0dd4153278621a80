-- Chains of causes that end.
use Rattle.std.proofs.Common.{◌≡◌, ◌∷◌, ◌++◌, ◌∙◌, ◌&&◌, [], ℕ, Bool, true, false, cond, eqb, Option, None, Some, refl, sym, ap, subst}
use Rattle.std.proofs.lemmas.Bool.{and_from, and_parts, eq-eqb, eqb-true}
use Rattle.mir_meaning.specs.Paths.{Code}
use Rattle.live_lanes.specs.Graph.{Causes, writes_in, Founded, by_reading, by_move, by_exit, by_end, by_phi}
use Rattle.edit_laws.specs.Chains.{Node, cause_at, RestsOn, on_reading, on_move, on_exit, on_end, on_phi, Notes, Ends, at_none, at_next, StandFirm, FirmLaw, same_node, noted, CutLaw, RiseLaw}

-- one step of the rules
one-step : {code : Code} {why : Causes} {l b n : ℕ} {o : Option Node} → RestsOn code why l b n o → ((m : Node) → o ≡ Some m → Founded code why m.0 m.1 m.2) → Founded code why l b n
one-step (on_reading before s rest e c u) below = by_reading before s rest e c u
one-step (on_move {a = a} {b = b} before s rest e c u w) below = by_move before s rest e c u w (below (a, b, writes_in a (before ++ s ∷ [])) refl)
one-step (on_exit {l = l} {x = x} before s rest e c t m) below = by_exit before s rest e c t m (below (l, x, 0) refl)
one-step (on_end {l = l} {x = x} c m) below = by_end c m (below (l, x, 0) refl)
one-step (on_phi c m) below = by_phi c m

some-is : (o : Option Node) (n m : Node) → o ≡ Some n → o ≡ Some m → n ≡ m
some-is o n m e g = let z : Some n ≡ Some m = sym e ∙ g in cc

none-not : {A : Type 0} (o : Option Node) (m : Node) → o ≡ None → o ≡ Some m → A
none-not o m e g = absurd (let z : None ≡ Some m = sym e ∙ g in cc)

module _ (code : Code) (why : Causes) (on : Notes) (firm : StandFirm code why on) where
  chained : {n : Node} → Ends on n → cause_at why n ≡ true → Founded code why n.0 n.1 n.2
  chained (at_none {n = n} e) live = one-step (firm.right n live) (λ m g. none-not (on n) m e g)
  chained (at_next {n = n} {m = m} e x) live =
      let below : Founded code why m.0 m.1 m.2 = chained x (firm.live n m live e) in
      one-step (firm.right n live) (λ k g. subst (λ (z : Node). Founded code why z.0 z.1 z.2) (some-is (on n) m k e g) below)

pub firm-law : FirmLaw
firm-law code why on firm l b n live = chained code why on firm (firm.ends (l, b, n) live) live

-- equality of pieces

pub same-is : (n m : Node) → same_node n m ≡ true → n ≡ m
same-is n m e =
    let h = and_parts (eqb n.0 m.0) (eqb n.1 m.1 && eqb n.2 m.2) e in
    let g = and_parts (eqb n.1 m.1) (eqb n.2 m.2) h.1 in
    let x = eqb-true n.0 m.0 h.0 in
    let y = eqb-true n.1 m.1 g.0 in
    let z = eqb-true n.2 m.2 g.1 in
    λ k. (x k, y k, z k)

pub same-self : (n : Node) → same_node n n ≡ true
same-self n = and_from _ _ (eq-eqb n.0 n.0 refl) (and_from _ _ (eq-eqb n.1 n.1 refl) (eq-eqb n.2 n.2 refl))

module _ (on : Notes) (k : Node) (v : Option Node) where
  pub noted-here : (n : Node) → same_node n k ≡ true → noted on k v n ≡ v
  noted-here n e = ap (λ u. cond u v (on n)) e

  pub noted-there : (n : Node) → same_node n k ≡ false → noted on k v n ≡ on n
  noted-there n e = ap (λ u. cond u v (on n)) e

-- a piece comes to rest on none
cut-at : (on : Notes) (k n : Node) → (noted on k None n ≡ on n → Ends (noted on k None) n) → Ends (noted on k None) n
cut-at on k n other = go (same_node n k) refl
  where
    go : (u : Bool) → same_node n k ≡ u → Ends (noted on k None) n
    go true e = at_none (noted-here on k None n e)
    go false e = other (noted-there on k None n e)

cut : (on : Notes) (k : Node) {n : Node} → Ends on n → Ends (noted on k None) n
cut on k (at_none {n = n} e) = cut-at on k n (λ f. at_none (f ∙ e))
cut on k (at_next {n = n} {m = m} e x) = let y : Ends (noted on k None) m = cut on k x in cut-at on k n (λ f. at_next (f ∙ e) y)

pub cut-law : CutLaw
cut-law on k n x = cut on k x

-- a piece that wasn't live comes to rest on a live one
module _ (on : Notes) (alive : Node → Bool) (onward : (n m : Node) → alive n ≡ true → on n ≡ Some m → alive m ≡ true) (k m : Node) (dead : alive k ≡ false) where
  other-node : (n : Node) → alive n ≡ true → same_node n k ≡ false
  other-node n live = go (same_node n k) refl
    where
      go : (u : Bool) → same_node n k ≡ u → u ≡ false
      go true e = absurd (let z : true ≡ false = sym live ∙ (ap alive (same-is n k e) ∙ dead) in cc)
      go false e = refl

  risen : {n : Node} → Ends on n → alive n ≡ true → Ends (noted on k (Some m)) n
  risen (at_none {n = n} e) live = at_none (noted-there on k (Some m) n (other-node n live) ∙ e)
  risen (at_next {n = n} {m = q} e x) live = at_next (noted-there on k (Some m) n (other-node n live) ∙ e) (risen x (onward n q live e))

pub rise-law : RiseLaw
rise-law on alive onward k m dead live x = (
  (λ n l y. risen on alive onward k m dead y l),
  at_next (noted-here on k (Some m) k (same-self k)) (risen on alive onward k m dead x live),
)
