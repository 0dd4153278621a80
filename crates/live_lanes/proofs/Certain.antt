-- Pieces of a row with readings that need no other lane.
use Rattle.std.proofs.Common.{◌≡◌, ◌<◌, ◌≤◌, ℕ, zero, suc, Bool, true, false, cond, length, List, [], ◌∷◌, ◌++◌, ◌⊎◌, Option, None, Some, refl, sym, ap, ◌∙◌, subst, inl, inr, arith, get_or, set, map}
use Rattle.std.specs.Prelude.{slice_get, nat_eq, not}
use Rattle.std.proofs.lemmas.Option.{slice_get-get_or}
use Rattle.live_lanes.specs.declared.row.Cause.{Cause}
use Rattle.live_lanes.specs.declared.row.Cell.{Cell}
use Rattle.mir_meaning.specs.Paths.{Among, here, there}
use Rattle.live_lanes.specs.Graph.{is_live}
use Rattle.live_lanes.specs.Table.{find_cell, descends, Seen, seen, seen_in, seen_cell, cause_in, certain_cause, with_cause}
use Rattle.live_lanes.specs.Certain.{blocks_of, KeepsCertain, RaisesCertain}
use Rattle.live_lanes.proofs.Cells.{is-found, change-seen}

some-inj : {X : Type 0} (x y : X) → Some x ≡ Some y → x ≡ y
some-inj x y e = cc

get-block : (cs : List Cell) (k : ℕ) (x : Cell) → slice_get cs k ≡ Some x → slice_get (blocks_of cs) k ≡ Some x.block
get-block [] k x e = absurd (cc)
get-block (c ∷ cs) zero x e = ap (λ t. Some t.block) (some-inj c x e)
get-block (c ∷ cs) (suc k) x e = get-block cs k x e

among-get : (bs : List ℕ) (k b : ℕ) → slice_get bs k ≡ Some b → Among b bs
among-get [] k b e = absurd (cc)
among-get (c ∷ bs) zero b e = subst (λ t. Among b (t ∷ bs)) (sym (some-inj c b e)) here
among-get (c ∷ bs) (suc k) b e = there (among-get bs k b e)

pub set-blocks : (cs : List Cell) (k : ℕ) (x y : Cell) → slice_get cs k ≡ Some x → y.block ≡ x.block → blocks_of (set cs k y) ≡ blocks_of cs
set-blocks [] k x y e f = refl
set-blocks (c ∷ cs) zero x y e f = ap (λ t. t ∷ blocks_of cs) (f ∙ ap (λ t. t.block) (sym (some-inj c x e)))
set-blocks (c ∷ cs) (suc k) x y e f = ap (λ t. c.block ∷ t) (set-blocks cs k x y e f)

module _ (cs : List Cell) (place index : ℕ) (x : Cell) (s : descends cs ≡ true) (h : place < length cs) (e : x ≡ get_or cs place x) where
  pub cell-is : slice_get cs place ≡ Some x
  cell-is = slice_get-get_or cs place x h ∙ ap Some (sym e)

  pub block-is : slice_get (blocks_of cs) place ≡ Some x.block
  block-is = get-block cs place x cell-is

  pub seen-is : seen_in cs x.block ≡ seen_cell x
  seen-is = ap seen (is-found cs place x s cell-is)

  at-block : (b : ℕ) → slice_get (blocks_of cs) place ≡ Some b → seen_in cs b ≡ seen_cell x
  at-block b f = ap (seen_in cs) (some-inj b x.block (sym f ∙ block-is)) ∙ seen-is

  pub keeps-live : is_live (cause_in (seen_cell x) index) ≡ true → KeepsCertain cs cs place index
  keeps-live l = record { seen = λ b. refl; done = λ b f c. ap (λ v. is_live (cause_in v index)) (at-block b f) ∙ l }

  pub keeps-uncertain : is_live (certain_cause (seen_cell x) index) ≡ false → KeepsCertain cs cs place index
  keeps-uncertain n = record { seen = λ b. refl; done = λ b f c. absurd (clash (sym c ∙ ap (λ v. is_live (certain_cause v index)) (at-block b f) ∙ n)) }
    where
      clash : true ≡ false → ⊥
      clash g = cc

  pub raises : (y : Cell) → y.block ≡ x.block → is_live (cause_in (seen_cell x) index) ≡ false → is_live (certain_cause (seen_cell x) index) ≡ true → seen_cell y ≡ with_cause (seen_cell x) index (certain_cause (seen_cell x) index) → RaisesCertain cs (set cs place y) x.block index
  raises y same dead live f = record {
    there = among-get (blocks_of cs) place x.block block-is;
    dead = ap (λ v. is_live (cause_in v index)) seen-is ∙ dead;
    certain = ap (λ v. is_live (certain_cause v index)) seen-is ∙ live;
    seen = change-seen x.block cs place x y s h (cell-is ∙ sym (is-found cs place x s cell-is)) e same (λ v. with_cause v index (certain_cause v index)) (seen_in cs) (λ q. refl) f;
  }

pub same-cell : (cs : List Cell) (place : ℕ) (x y : Cell) → place < length cs → x ≡ get_or cs place x → y ≡ get_or cs place y → x ≡ y
same-cell cs place x y h e f = some-inj x y (ap Some e ∙ sym (slice_get-get_or cs place x h) ∙ slice_get-get_or cs place y h ∙ ap Some (sym f))

pub not-true : (b : Bool) → not b ≡ true → b ≡ false
not-true true e = absurd (cc)
not-true false e = refl

pub not-false : (b : Bool) → not b ≡ false → b ≡ true
not-false true e = refl
not-false false e = absurd (cc)
