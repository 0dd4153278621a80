-- What ranges had and what they have, where the pieces that edits changed are told.
use Rattle.std.proofs.Common.{◌≡◌, ◌∙◌, ℕ, Bool, true, false, cond, not, ◌&&◌, List, [], ◌∷◌, Option, None, Some, refl, sym, ap, eqb-true, eq-eqb}
use Rattle.std.specs.Prelude.{◌||◌, nat_eq, filter}
use Rattle.mir_meaning.specs.Paths.{Among}
use Rattle.live_lanes.specs.declared.ask.extent.ChangedPiece.{ChangedPiece}
use Rattle.live_lanes.specs.declared.ask.extent.Extent.{Extent}
use Rattle.live_lanes.specs.declared.table.Table.{Table}
use Rattle.live_lanes.specs.Extents.{extents_in, is_same_start}
use Rattle.live_edits.specs.Told.{is_told}
use Rattle.live_edits.specs.Told.{is_piece as is_changed}
use Rattle.live_edits.proofs.AskMembers.{among-any, any-among}
use Rattle.interference.specs.declared.saved_lists.AssignedPiece.{AssignedPiece}
use Rattle.interference.specs.declared.matrix.Matrix.{Matrix}
use Rattle.interference.specs.declared.unit_table.UnitTable.{UnitTable}
use Rattle.interference.specs.EditedLists.{any_extent}
use Rattle.interference.specs.EditedPieces.{any_piece, are_pieces_of, is_piece_of, stays, stays_or_comes, whole_by, HoldThose, MayChangeLists}
use Rattle.interference.specs.HeldLanes.{assigned_piece, holding_lane, AreHeldPieces}
use Rattle.interference.specs.Listed.{lane_extents, listed}
use Rattle.interference.proofs.EditedPieces.{tests-alike}
use Rattle.interference.proofs.HeldPieces.{whole-changed}

and-left : (a b : Bool) → (a && b) ≡ true → a ≡ true
and-left true b e = refl
and-left false b e = e

and-right : (a b : Bool) → (a && b) ≡ true → b ≡ true
and-right true b e = e
and-right false b e = absurd (cc)

-- what passes the narrower test is found among what passes the wider one
filter-within : (f g : Extent → Bool) → ((e : Extent) → f e ≡ true → g e ≡ true) → (es : List Extent) → filter f (filter g es) ≡ filter f es
filter-within f g sub [] = refl
filter-within f g sub (e ∷ es) = go (g e) (f e) refl refl (filter-within f g sub es)
  where
    go : (s t : Bool) → g e ≡ s → f e ≡ t → filter f (filter g es) ≡ filter f es → filter f (cond s (e ∷ filter g es) (filter g es)) ≡ cond t (e ∷ filter f es) (filter f es)
    go true t p q ih = (λ i. cond (q i) (e ∷ filter f (filter g es)) (filter f (filter g es))) ∙ ap (λ xs. cond t (e ∷ xs) xs) ih
    go false true p q ih = absurd (let z : false ≡ true = sym p ∙ sub e q in cc)
    go false false p q ih = ih

filter-same : (f g : Extent → Bool) → ((e : Extent) → f e ≡ true → g e ≡ true) → (xs ys : List Extent) → filter g xs ≡ filter g ys → filter f xs ≡ filter f ys
filter-same f g sub xs ys same = sym (filter-within f g sub xs) ∙ (ap (filter f) same ∙ filter-within f g sub ys)

-- what a piece is that begins so in a lane and a block
record IsChanged (l b : ℕ) (start : Option ℕ) (c : ChangedPiece) : Type 0 where
  lane : c.lane ≡ l
  block : nat_eq c.block b ≡ true
  start-is : is_same_start start c.start ≡ true

changed-is : (l b : ℕ) (start : Option ℕ) (c : ChangedPiece) → is_changed l b start c ≡ true → IsChanged l b start c
changed-is l b start c = go c.start start
  where
    both : (s t : Option ℕ) (u : Bool) → (nat_eq c.lane l && (nat_eq c.block b && u)) ≡ true → is_same_start s t ≡ true → IsChanged l b s (record { lane = c.lane; block = c.block; start = t })
    both s t u e f =
        let rest : (nat_eq c.block b && u) ≡ true = and-right (nat_eq c.lane l) (nat_eq c.block b && u) e in
        record { lane = eqb-true c.lane l (and-left (nat_eq c.lane l) (nat_eq c.block b && u) e); block = and-left (nat_eq c.block b) u rest; start-is = f }

    last : (u : Bool) → (nat_eq c.lane l && (nat_eq c.block b && u)) ≡ true → u ≡ true
    last u e = and-right (nat_eq c.block b) u (and-right (nat_eq c.lane l) (nat_eq c.block b && u) e)

    go : (t s : Option ℕ) → is_changed l b s (record { lane = c.lane; block = c.block; start = t }) ≡ true → IsChanged l b s (record { lane = c.lane; block = c.block; start = t })
    go None None e = both None None true e refl
    go None (Some s) e = absurd (let z = last false e in cc)
    go (Some t) None e = absurd (let z = last false e in cc)
    go (Some t) (Some s) e = both (Some s) (Some t) (nat_eq t s) e (eq-eqb s t (sym (eqb-true t s (last (nat_eq t s) e))))

-- an extent that stays is of no told piece
module _ (m : Matrix) (changed : List ChangedPiece) (ps : List AssignedPiece) (pieces : AreHeldPieces m changed ps) (v u l b : ℕ) (own : holding_lane m v u ≡ Some l) where
  told-piece : (e : Extent) → is_told changed l b e.start ≡ true → are_pieces_of ps u b v e ≡ true
  told-piece e t = go (any-among (is_changed l b e.start) changed t)
    where
      go : (c : ChangedPiece) × Among c changed × (is_changed l b e.start c ≡ true) → are_pieces_of ps u b v e ≡ true
      go (c, a, is) =
          let found = changed-is l b e.start c is in
          among-any (is_piece_of u b v e.start) (assigned_piece c v u) ps (pieces.all c v u a (own ∙ ap (λ n. Some n) (sym found.lane)))
          (λ i. eq-eqb u u refl i && (found.block i && (eq-eqb v v refl i && found.start-is i)))

  untold-stay : (e : Extent) → stays ps u b v e ≡ true → not (is_told changed l b e.start) ≡ true
  untold-stay e s = go (is_told changed l b e.start) refl
    where
      go : (t : Bool) → is_told changed l b e.start ≡ t → not t ≡ true
      go true t = sym (ap not (told-piece e t)) ∙ s
      go false t = refl

module _ (m : Matrix) (before : Table) (changed : List ChangedPiece) (may : MayChangeLists m before changed) (ps : List AssignedPiece) (pieces : AreHeldPieces m changed ps) where
  stay-same : (u b v : ℕ) → filter (stays ps u b v) (whole_by m m.live.table u b v) ≡ filter (stays ps u b v) (whole_by m before u b v)
  stay-same u b v = go (holding_lane m v u) refl
    where
      go : (q : Option ℕ) → holding_lane m v u ≡ q → filter (stays ps u b v) (lane_extents m.live.table q b) ≡ filter (stays ps u b v) (lane_extents before q b)
      go None e = refl
      go (Some l) e = filter-same (stays ps u b v) (λ x. not (is_told changed l b x.start)) (untold-stay m changed ps pieces v u l b e) (extents_in m.live.table l b) (extents_in before l b) (may.told v u l b e)

  -- no list is changed yet
  pub none-changed : HoldThose m.live.table.order.slots (whole_by m before) (stays []) m.held
  none-changed = record {
    filled = may.filled;
    those = λ u b. tests-alike m.live.table.order.slots (whole_by m before u b) any_extent (stays [] u b) (listed m.held u b) (λ v e a. refl) (may.had u b);
  }

  -- what stays is the same of what ranges have now
  pub now-stays : (a : UnitTable) → HoldThose m.live.table.order.slots (whole_by m before) (stays ps) a → HoldThose m.live.table.order.slots (whole_by m m.live.table) (stays_or_comes ps []) a
  now-stays a h = record {
    filled = h.filled;
    those = λ u b. tests-alike m.live.table.order.slots (whole_by m m.live.table u b) (stays ps u b) (stays_or_comes ps [] u b) (listed a u b) (λ v e x. or-none (stays ps u b v e))
        (whole-changed m.live.table.order.slots (whole_by m before u b) (whole_by m m.live.table u b) (stays ps u b) (listed a u b) (h.those u b) (stay-same u b));
  }
    where
      or-none : (t : Bool) → t ≡ (t || false)
      or-none true = refl
      or-none false = refl

  -- and where all pieces are put in again, it is all
  pub all-come : (a : UnitTable) → HoldThose m.live.table.order.slots (whole_by m m.live.table) (stays_or_comes ps ps) a → HoldThose m.live.table.order.slots (whole_by m m.live.table) any_piece a
  all-come a h = record {
    filled = h.filled;
    those = λ u b. tests-alike m.live.table.order.slots (whole_by m m.live.table u b) (stays_or_comes ps ps u b) (any_piece u b) (listed a u b) (λ v e x. either (are_pieces_of ps u b v e)) (h.those u b);
  }
    where
      either : (t : Bool) → (not t || t) ≡ true
      either true = refl
      either false = refl
