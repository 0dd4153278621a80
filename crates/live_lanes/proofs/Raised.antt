-- Raising a piece of a row.
use Rattle.std.proofs.Common.{◌≡◌, ◌<◌, ◌≤◌, ℕ, Bool, true, false, cond, List, None, Some, length, refl, sym, ap, ◌∙◌, subst, arith, get_or, set, eqb-true, ◌⊎◌, inl, inr}
use Rattle.std.specs.Prelude.{slice_get, nat_eq, Result, Ok, Err, OnOk}
use Rattle.std.proofs.lemmas.Option.{slice_get-get_or, slice_get_cases}
use Rattle.live_lanes.specs.declared.row.Cause.{Cause}
use Rattle.live_lanes.specs.declared.row.Cell.{Cell}
use Rattle.live_lanes.specs.declared.row.PieceEnd.{PieceEnd}
use Rattle.live_lanes.specs.declared.row.Piece.{Piece}
use Rattle.live_lanes.specs.declared.row.LaneUse.{LaneUse}
use Rattle.live_lanes.specs.declared.row.DefPiece.{DefPiece}
use Rattle.live_lanes.specs.Graph.{is_live}
use Rattle.live_lanes.specs.Table.{Numbers, seen, seen_in, seen_cell, cause_in, piece_at, with_cause, with_end, with_end_at, raised_index, raised_seen, IsRaised, find_cell, descends, begun, with_last}
use Rattle.live_lanes.proofs.Cells.{set-descends, set-find, is-found}

-- what holds of an Ok
pub on-ok : {T E P Q : Type 0} (r : Result T E) → OnOk r P → (P → Q) → OnOk r Q
on-ok (Ok x) p f = f p
on-ok (Err x) p f = tt

pub raise-done : (slots : Numbers) (old new : List Cell) (block at : ℕ) (cause : Cause) (index : ℕ) → index ≡ piece_at slots at (seen_in old block).segments → is_live (cause_in (seen_in old block) index) ≡ false → ((b : ℕ) → seen_in new b ≡ cond (nat_eq block b) (with_cause (seen_in old block) index cause) (seen_in old b)) → IsRaised slots old new block at cause (Some index)
raise-done slots old new block at cause index e dead f = record {
  answer = ap Some e ∙ sym (ap (λ t. raised_index t (piece_at slots at (seen_in old block).segments)) dead');
  seen = λ b. f b ∙ ap (λ n. cond (nat_eq block b) (with_cause (seen_in old block) n cause) (seen_in old b)) e ∙ sym (ap (λ t. cond (nat_eq block b) (raised_seen t (seen_in old block) (piece_at slots at (seen_in old block).segments) cause) (seen_in old b)) dead');
}
  where
    dead' : is_live (cause_in (seen_in old block) (piece_at slots at (seen_in old block).segments)) ≡ false
    dead' = ap (λ n. is_live (cause_in (seen_in old block) n)) (sym e) ∙ dead

-- a piece of the cell at a place gets an end
pub ended : (cs : List Cell) (at : ℕ) (x y : Cell) (index : ℕ) (end : PieceEnd) → descends cs ≡ true → at < length cs → x ≡ get_or cs at x → y.block ≡ x.block → seen_cell y ≡ with_end (seen_cell x) index end → (descends (set cs at y) ≡ true) × ((b : ℕ) → seen_in (set cs at y) b ≡ with_end_at (slice_get cs at) index end (seen_in cs b) b)
ended cs at x y index end s h e block f = (set-descends cs at x y s found block, λ b. ap seen (set-find b cs at x y s found block) ∙ out b (nat_eq x.block b) refl ∙ sym (ap (λ o. with_end_at o index end (seen_in cs b) b) found))
  where
    found : slice_get cs at ≡ Some x
    found = slice_get-get_or cs at x h ∙ ap Some (sym e)

    out : (b : ℕ) (t : Bool) → nat_eq x.block b ≡ t → seen (cond t (Some y) (find_cell b cs)) ≡ cond t (with_end (seen_in cs b) index end) (seen_in cs b)
    out b true g = f ∙ ap (λ v. with_end v index end) (sym (ap seen (subst (λ n. find_cell n cs ≡ Some x) (eqb-true x.block b g) (is-found cs at x s found))))
    out b false g = refl

pub not-ended : (cs : List Cell) (at : ℕ) (index : ℕ) (end : PieceEnd) → length cs ≤ at → (b : ℕ) → seen_in cs b ≡ with_end_at (slice_get cs at) index end (seen_in cs b) b
not-ended cs at index end h b = go (slice_get_cases cs at).1
  where
    go : ((x : Cell) × (at < length cs) × (slice_get cs at ≡ Some x) × (get_or cs at x ≡ x)) ⊎ ((length cs ≤ at) × (slice_get cs at ≡ None)) → seen_in cs b ≡ with_end_at (slice_get cs at) index end (seen_in cs b) b
    go (inl z) = absurd (let w = z.1 in omega arith)
    go (inr z) = sym (ap (λ o. with_end_at o index end (seen_in cs b) b) z.1)

pub same-begun : (x : DefPiece) (p : Piece) (r : LaneUse) → p.cause ≡ x.piece.cause → p.end ≡ x.piece.end → p.readings.items ≡ with_last r x.piece.readings.items → begun (record x { piece = p }) ≡ record (begun x) { readings = with_last r (begun x).readings }
same-begun x p r c e f =
    ap (λ t. record (begun x) { cause = t; end = p.end; readings = p.readings.items }) c
    ∙ ap (λ t. record (begun x) { end = t; readings = p.readings.items }) e
    ∙ ap (λ t. record (begun x) { readings = t }) f
