-- Raising a piece of one of the rows.
use Rattle.std.proofs.Common.{◌≡◌, ◌<◌, ◌≤◌, ℕ, zero, suc, Bool, true, false, cond, ◌&&◌, length, List, [], ◌∷◌, ◌++◌, Option, None, Some, refl, sym, ap, ◌∙◌, arith, get_or, set, eqb-true, length-set, append-nil}
use Rattle.std.specs.Prelude.{slice_get, nat_eq}
use Rattle.std.proofs.lemmas.Option.{slice_get-get_or}
use Rattle.std.proofs.Math.Dec.{eqb-zero-suc, eqb-suc-zero, eqb-suc-suc}
use Rattle.live_lanes.specs.declared.row.Cause.{Cause}
use Rattle.live_lanes.specs.declared.row.LaneRange.{LaneRange}
use Rattle.live_lanes.specs.declared.table.PieceSpot.{PieceSpot}
use Rattle.live_lanes.specs.Graph.{is_live}
use Rattle.live_lanes.specs.Table.{Numbers, Seen, unseen, seen_in, cause_in, piece_at, raised_index, raised_seen, IsRaised}
use Rattle.live_lanes.specs.Entered.{rows_seen, causes}
use Rattle.live_lanes.specs.Growth.{spot, piece_in_rows, raised_spots, Raised}

abbrev pub row_seen : Option LaneRange → ℕ → Seen
row_seen o b = elim o [ None ↦ unseen | Some r ↦ seen_in r.cells.items b ]

pub get-set : (rows : List LaneRange) (k l : ℕ) (y : LaneRange) → k < length rows → slice_get (set rows k y) l ≡ cond (nat_eq k l) (Some y) (slice_get rows l)
get-set [] k l y h = absurd (omega arith)
get-set (x ∷ rows) zero zero y h = refl
get-set (x ∷ rows) zero (suc l) y h = sym (ap (λ t. cond t (Some y) (slice_get rows l)) (eqb-zero-suc l))
get-set (x ∷ rows) (suc k) zero y h = sym (ap (λ t. cond t (Some y) (Some x)) (eqb-suc-zero k))
get-set (x ∷ rows) (suc k) (suc l) y h = get-set rows k l y (omega arith) ∙ sym (ap (λ t. cond t (Some y) (slice_get rows l)) (eqb-suc-suc k l))

pub rows-set : (rows : List LaneRange) (k l b : ℕ) (y : LaneRange) → k < length rows → rows_seen (set rows k y) l b ≡ cond (nat_eq k l) (seen_in y.cells.items b) (rows_seen rows l b)
rows-set rows k l b y h = ap (λ o. row_seen o b) (get-set rows k l y h) ∙ go (nat_eq k l)
  where
    go : (t : Bool) → row_seen (cond t (Some y) (slice_get rows l)) b ≡ cond t (seen_in y.cells.items b) (rows_seen rows l b)
    go true = refl
    go false = refl

pub row-of : (rows : List LaneRange) (k b : ℕ) (x : LaneRange) → k < length rows → x ≡ get_or rows k x → seen_in x.cells.items b ≡ rows_seen rows k b
row-of rows k b x h e = sym (ap (λ o. row_seen o b) (slice_get-get_or rows k x h ∙ ap Some (sym e)))

module _ (slots : Numbers) (rows : List LaneRange) (lane block at : ℕ) (cause : Cause) (x y : LaneRange) (index : Option ℕ) (h : lane < length rows) (e : x ≡ get_or rows lane x) (r : IsRaised slots x.cells.items y.cells.items block at cause index) where
  abbrev n : ℕ
  n = piece_in_rows slots rows lane block at

  abbrev live : Bool
  live = is_live (causes rows lane block n)

  before : seen_in x.cells.items block ≡ rows_seen rows lane block
  before = row-of rows lane block x h e

  index-is : index ≡ raised_index live n
  index-is = r.answer ∙ ap (λ v. raised_index (is_live (cause_in v (piece_at slots at v.segments))) (piece_at slots at v.segments)) before

  seen : (l b : ℕ) → rows_seen (set rows lane y) l b ≡ cond (nat_eq lane l && nat_eq block b) (raised_seen live (rows_seen rows lane block) n cause) (rows_seen rows l b)
  seen l b = rows-set rows lane l b y h ∙ go (nat_eq lane l) (nat_eq block b) refl (r.seen b ∙ ap (λ v. cond (nat_eq block b) (raised_seen (is_live (cause_in v (piece_at slots at v.segments))) v (piece_at slots at v.segments) cause) (seen_in x.cells.items b)) before ∙ ap (λ v. cond (nat_eq block b) (raised_seen live (rows_seen rows lane block) n cause) v) (row-of rows lane b x h e))
    where
      go : (t u : Bool) → nat_eq lane l ≡ t → seen_in y.cells.items b ≡ cond u (raised_seen live (rows_seen rows lane block) n cause) (rows_seen rows lane b) → cond t (seen_in y.cells.items b) (rows_seen rows l b) ≡ cond (t && u) (raised_seen live (rows_seen rows lane block) n cause) (rows_seen rows l b)
      go true true f g = g
      go true false f g = g ∙ ap (λ k. rows_seen rows k b) (eqb-true lane l f)
      go false u f g = refl

  pub listed : (k : ℕ) (from to : List PieceSpot) → index ≡ Some k → to ≡ from ++ spot lane block k ∷ [] → Raised slots rows (set rows lane y) lane block at cause from to
  listed k from to f g = go live refl (sym f ∙ index-is)
    where
      go : (t : Bool) → live ≡ t → Some k ≡ raised_index live n → Raised slots rows (set rows lane y) lane block at cause from to
      go true p q = absurd (let z : Some k ≡ None = q ∙ ap (λ t. raised_index t n) p in cc)
      go false p q =
          let z : Some k ≡ Some n = q ∙ ap (λ t. raised_index t n) p in
          let kn : k ≡ n = cc in
          record { seen = seen; list = g ∙ ap (λ m. from ++ spot lane block m ∷ []) kn ∙ sym (ap (λ t. from ++ raised_spots t (spot lane block n)) p); lanes = length-set rows lane y }

  pub unlisted : (from : List PieceSpot) → ((k : ℕ) → index ≡ Some k → ⊥) → Raised slots rows (set rows lane y) lane block at cause from from
  unlisted from none = go live refl index-is
    where
      go : (t : Bool) → live ≡ t → index ≡ raised_index live n → Raised slots rows (set rows lane y) lane block at cause from from
      go true p q = record { seen = seen; list = sym (append-nil from) ∙ sym (ap (λ t. from ++ raised_spots t (spot lane block n)) p); lanes = length-set rows lane y }
      go false p q = absurd (none n (q ∙ ap (λ t. raised_index t n) p))
