-- Rows in which a piece gets another cause tell it, and nothing else otherwise than before.
use Rattle.std.proofs.Common.{◌≡◌, ◌<◌, ℕ, Bool, true, false, cond, ◌&&◌, List, refl, sym, ap, ◌∙◌, subst, eqb-true, eq-eqb}
use Rattle.std.specs.Prelude.{nat_eq}
use Rattle.live_lanes.specs.declared.row.Cause.{Cause}
use Rattle.live_lanes.specs.declared.row.LaneRange.{LaneRange}
use Rattle.live_lanes.specs.Table.{Seen, cause_in, with_cause}
use Rattle.live_lanes.specs.Entered.{shape, rows_seen, causes}
use Rattle.live_lanes.proofs.Growth.{with-cause, shape-cause}
use Rattle.edit_laws.specs.Chains.{Node, same_node}
use Rattle.edit_laws.specs.Update.{given}
use Rattle.edit_laws.specs.RowCause.{GivesCause, RowCauseLaw}

-- equality of numbers is the same from both sides
turned : (a b : ℕ) (u v : Bool) → nat_eq a b ≡ u → nat_eq b a ≡ v → u ≡ v
turned a b true true e f = refl
turned a b false false e f = refl
turned a b true false e f = sym (eq-eqb b a (sym (eqb-true a b e))) ∙ f
turned a b false true e f = sym e ∙ eq-eqb a b (sym (eqb-true b a f))

eqb-turned : (a b : ℕ) → nat_eq a b ≡ nat_eq b a
eqb-turned a b = turned a b (nat_eq a b) (nat_eq b a) refl refl

pub node-turned : (n : Node) (l b k : ℕ) → (nat_eq n.0 l && (nat_eq n.1 b && nat_eq n.2 k)) ≡ same_node (l, b, k) n
node-turned n l b k = λ i. eqb-turned n.0 l i && (eqb-turned n.1 b i && eqb-turned n.2 k i)

-- what is at one place otherwise
pub choose : {X : Type 0} (u v w : Bool) (c d e : X) → (u ≡ true → v ≡ true → c ≡ cond w d e) → cond (u && v) c e ≡ cond (u && (v && w)) d e
choose true true w c d e h = h refl refl
choose true false w c d e h = refl
choose false v w c d e h = refl

module _ (old new : List LaneRange) (n : Node) (cause : Cause) (g : GivesCause old new n cause) where
  abbrev own : Seen
  own = rows_seen old n.0 n.1

  -- of the piece's own cell
  here-given : (l b k : ℕ) → nat_eq n.0 l ≡ true → nat_eq n.1 b ≡ true → cause_in (with_cause own n.2 cause) k ≡ cond (nat_eq n.2 k) cause (causes old l b k)
  here-given l b k e f =
      let x : n.0 ≡ l = eqb-true n.0 l e in
      let y : n.1 ≡ b = eqb-true n.1 b f in
      with-cause own n.2 k cause g.within ∙ (λ i. cond (nat_eq n.2 k) cause (causes old (x i) (y i) k))

  seen-cause : (t : Bool) (l b k : ℕ) → cause_in (cond t (with_cause own n.2 cause) (rows_seen old l b)) k ≡ cond t (cause_in (with_cause own n.2 cause) k) (causes old l b k)
  seen-cause true l b k = refl
  seen-cause false l b k = refl

  given-at : (l b k : ℕ) → causes new l b k ≡ given (causes old) n cause l b k
  given-at l b k =
      ap (λ v. cause_in v k) (g.seen l b)
      ∙ (seen-cause (nat_eq n.0 l && nat_eq n.1 b) l b k
      ∙ (choose (nat_eq n.0 l) (nat_eq n.1 b) (nat_eq n.2 k) (cause_in (with_cause own n.2 cause) k) cause (causes old l b k) (here-given l b k)
      ∙ ap (λ u. cond u cause (causes old l b k)) (node-turned n l b k)))

  shapes-same : (l b : ℕ) → shape (rows_seen new l b) ≡ shape (rows_seen old l b)
  shapes-same l b = ap shape (g.seen l b) ∙ go (nat_eq n.0 l) (nat_eq n.1 b) refl refl
    where
      go : (u v : Bool) → nat_eq n.0 l ≡ u → nat_eq n.1 b ≡ v → shape (cond (u && v) (with_cause own n.2 cause) (rows_seen old l b)) ≡ shape (rows_seen old l b)
      go true true e f =
          let x : n.0 ≡ l = eqb-true n.0 l e in
          let y : n.1 ≡ b = eqb-true n.1 b f in
          shape-cause own n.2 cause ∙ (λ i. shape (rows_seen old (x i) (y i)))
      go true false e f = refl
      go false v e f = refl

pub row-cause-law : RowCauseLaw
row-cause-law old new n cause g = record {
  causes_are = λ i. λ l b k. given-at old new n cause g l b k i;
  table = λ code slots flow t. record {
    entered = λ l b. shapes-same old new n cause g l b ∙ t.entered l b;
    numbered = t.numbered;
    ways = t.ways;
    matched = t.matched;
    few = subst (λ m. m < 4294967296) (sym g.lanes) t.few;
  };
}
