-- Lists of pieces that are told.
use Rattle.std.proofs.Common.{◌≡◌, ◌∙◌, ◌<◌, ◌+◌, ◌-◌, ⊎_elim, ℕ, zero, suc, length, List, [], ◌∷◌, ◌++◌, Option, Some, take, get_or, refl, sym, ap, subst, arith}
use Rattle.std.specs.Prelude.{slice_get, option_map}
use Rattle.std.proofs.lemmas.List.{get_or_default}
use Rattle.std.proofs.lemmas.Option.{slice_get-map, slice_get_read}
use Rattle.mir_meaning.specs.Paths.{Among, here}
use Rattle.live_lanes.specs.declared.ask.extent.ChangedPiece.{ChangedPiece}
use Rattle.live_lanes.specs.declared.row.Cell.{Cell}
use Rattle.live_lanes.specs.declared.row.DefPiece.{DefPiece}
use Rattle.live_lanes.specs.declared.row.LaneRange.{LaneRange}
use Rattle.live_lanes.specs.Table.{Seen, Begun, begun, seen_cell}
use Rattle.live_lanes.proofs.Numbered.{among-left, among-right}
use Rattle.live_edits.specs.declared.cells.CellNotes.{CellNotes}
use Rattle.live_edits.specs.declared.cells.Note.{Note}
use Rattle.live_edits.specs.declared.log.Former.{Former}
use Rattle.live_edits.specs.Told.{start_at, piece_written, piece_named, HasWrittenIn, HasWritten, HasNamed, AddsPiece}
use Rattle.live_edits.proofs.NotedLists.{taken-cases}

-- one more piece is listed
pub adds-last : (old new : List ChangedPiece) (x : ChangedPiece) (o : Option ChangedPiece) → o ≡ Some x → new ≡ old ++ x ∷ [] → AddsPiece old new o
adds-last old new x o is list = record {
  kept = λ p m. subst (Among p) (sym list) (among-left p old (x ∷ []) m);
  has = λ p e. let same : p ≡ x = cc in subst (λ q. Among q new) (sym same) (subst (Among x) (sym list) (among-right x old (x ∷ []) here));
}

-- pieces of notes that write
pub written-more : (lane block : ℕ) (notes : List Note) (k : ℕ) (d : Note) (o : Option ChangedPiece) (old new : List ChangedPiece) → k < length notes → o ≡ piece_written lane block (get_or notes k d) → HasWrittenIn lane block (take k notes) old → AddsPiece old new o → HasWrittenIn lane block (take (k + 1) notes) new
written-more lane block notes k d o old new h is so adds m a p e =
    ⊎_elim (λ b. adds.kept p (so m b p e)) (λ f. adds.has p (is ∙ (ap (piece_written lane block) (sym f) ∙ e))) (taken-cases notes k (get_or notes k d) h (get_or_default notes k d (get_or notes k d) h) m a)

pub all-written-more : (all : List CellNotes) (k : ℕ) (c : CellNotes) (old new : List ChangedPiece) → k < length all → c ≡ get_or all k c → HasWritten (take k all) old → ((p : ChangedPiece) → Among p old → Among p new) → HasWrittenIn c.lane c.block c.notes.items new → HasWritten (take (k + 1) all) new
all-written-more all k c old new h own so kept has d a =
    ⊎_elim (λ b n m p e. kept p (so d b n m p e)) (λ f. subst (λ (x : CellNotes). HasWrittenIn x.lane x.block x.notes.items new) (sym f) has) (taken-cases all k c h own d a)

-- pieces that a log names
pub named-more : (rows : List LaneRange) (log : List Former) (k : ℕ) (x : Former) (o : Option ChangedPiece) (old new : List ChangedPiece) → k < length log → x ≡ get_or log k x → o ≡ piece_named rows x → HasNamed rows (take k log) old → AddsPiece old new o → HasNamed rows (take (k + 1) log) new
named-more rows log k x o old new h own is so adds d a p e =
    ⊎_elim (λ b. adds.kept p (so d b p e)) (λ f. adds.has p (is ∙ (ap (piece_named rows) (sym f) ∙ e))) (taken-cases log k x h own d a)

-- what begins a piece of a cell
pub start-there : (v : Seen) (n : ℕ) (c : Cell) (x : DefPiece) → seen_cell c ≡ v → (n ≡ 0 → ⊥) → n - 1 < length c.segments.items → x ≡ get_or c.segments.items (n - 1) x → Some (Some x.start) ≡ start_at v n
start-there v zero c x own h less at = absurd (h refl)
start-there v (suc k) c x own h less at =
    let same : suc k - 1 ≡ k = omega arith in
    let place : slice_get c.segments.items k ≡ Some x = subst (λ i. slice_get c.segments.items i ≡ Some x) same (slice_get_read c.segments.items (length c.segments.items) (suc k - 1) x refl less at) in
    sym (ap (λ (s : Seen). start_at s (suc k)) (sym own) ∙ ap (option_map (λ (s : Begun). Some s.start)) (slice_get-map begun c.segments.items k ∙ ap (option_map begun) place))
