-- Lives of pieces where one of them is changed.
use Rattle.std.proofs.Common.{◌≡◌, ◌≤◌, ◌∙◌, ℕ, zero, suc, List, [], ◌∷◌, ◌++◌, map, take, drop, refl, sym, ap, subst}
use Rattle.std.specs.List.{insert, remove}
use Rattle.instr_effects.specs.declared.lane_acts.LaneWrite.{LaneWrite}
use Rattle.live_lanes.specs.declared.row.Cause.TheVariants as reasons
use Rattle.live_lanes.specs.declared.row.LaneUse.{LaneUse}
use Rattle.live_lanes.specs.declared.row.PieceEnd.TheVariants as ends
use Rattle.live_lanes.specs.Table.{Numbers, Seen, Begun, changed_at}
use Rattle.live_edits.specs.CellChanges.{begun_with_readings, with_readings, begun_with_writing}
use Rattle.live_edits.specs.Renoted.{Lived, lived, Lives, AllLive, KeepsFirst, KeepsLives, Begins, piece_readings, piece_joined, rewritten, CutsPieces, is_begun_by}
use Rattle.live_edits.proofs.CellChanged.{map-removed, map-inserted}
use Rattle.live_edits.proofs.RenoteNoted.{begins-new}

changed-lived : (f : Begun → Begun) → ((s : Begun) → lived (f s) ≡ lived s) → (ss : List Begun) (k : ℕ) → map lived (changed_at k f ss) ≡ map lived ss
changed-lived f same [] k = refl
changed-lived f same (s ∷ ss) zero = ap (λ t. t ∷ map lived ss) (same s)
changed-lived f same (s ∷ ss) (suc k) = ap (λ t. lived s ∷ t) (changed-lived f same ss k)

pub readings-lived : (v : Seen) (k : ℕ) (new : List LaneUse) → map lived (with_readings v k new).segments ≡ map lived v.segments
readings-lived v zero new = refl
readings-lived v (suc k) new = changed-lived (begun_with_readings new) (λ s. refl) v.segments k

pub readings-first : (v : Seen) (k : ℕ) (new : List LaneUse) → KeepsFirst v (with_readings v k new)
readings-first v zero new = record { cause = refl; end = refl; last = refl }
readings-first v (suc k) new = record { cause = refl; end = refl; last = refl }

pub same-first : (v : Seen) → KeepsFirst v v
same-first v = record { cause = refl; end = refl; last = refl }

pub first-then : (u v w : Seen) → KeepsFirst u v → KeepsFirst v w → KeepsFirst u w
first-then u v w p q = record { cause = q.cause ∙ p.cause; end = q.end ∙ p.end; last = q.last ∙ p.last }

all-inserted : (lives : Lives) (xs : List Lived) (k : ℕ) (x : Lived) → AllLive lives xs → x.cause ≡ (lives x.start).0 → x.end ≡ (lives x.start).1 → AllLive lives (insert xs k x)
all-inserted lives xs zero x all c e = (c, e, all)
all-inserted lives [] (suc k) x all c e = (c, e, all)
all-inserted lives (y ∷ xs) (suc k) x all c e = (all.0, all.1, all-inserted lives xs k x all.2 c e)

all-removed : (lives : Lives) (xs : List Lived) (k : ℕ) → AllLive lives xs → AllLive lives (remove xs k)
all-removed lives [] zero all = all
all-removed lives [] (suc k) all = all
all-removed lives (y ∷ xs) zero all = all.2
all-removed lives (y ∷ xs) (suc k) all = (all.0, all.1, all-removed lives xs k all.2)

module _ (slots : Numbers) (id : ℕ) (v : Seen) (k : ℕ) where
  pub same-lives : KeepsLives slots id v v
  same-lives lives front d back e all none free new old = old

  pub rewritten-lives : (w : LaneWrite) → KeepsLives slots id v (rewritten k w.early w.from v)
  rewritten-lives w lives front d back e all none free new old = subst (AllLive lives) (sym (changed-lived (begun_with_writing w.early w.from) (λ s. refl) v.segments k)) old

  abbrev both : List LaneUse
  both = piece_readings v.readings v.segments k ++ piece_readings v.readings v.segments (suc k)

  joined-lived : (w : Seen) → map lived w.segments ≡ map lived v.segments → map lived (remove w.segments k) ≡ remove (map lived v.segments) k
  joined-lived w e = map-removed lived w.segments k ∙ ap (λ t. remove t k) e

  pub joined-lives : KeepsLives slots id v (piece_joined k v)
  joined-lives lives front d back e all none free new old =
      subst (AllLive lives) (sym (joined-lived (with_readings v k both) (readings-lived v k both))) (all-removed lives (map lived v.segments) k old)

  pub joined-first : KeepsFirst v (piece_joined k v)
  joined-first = let p = readings-first v k both in record { cause = p.cause; end = p.end; last = p.last }

  module _ (within : k ≤ Rattle.std.proofs.Common.length v.segments) (cut : CutsPieces slots id v.segments k) (other : is_begun_by id v.segments k ≡ Rattle.std.proofs.Common.false) (w : LaneWrite) (now : Seen) (b : Begins slots k id w v now) where
    abbrev piece : Begun
    piece = record { start = id; early = w.early; from = w.from; cause = reasons.None; end = ends.Never; readings = drop b.count (piece_readings v.readings v.segments k) }

    pub begun-lives : KeepsLives slots id v now
    begun-lives lives front d back e all none free new old =
        let life = new (begins-new slots id v k within cut other front d back e all none) in
        let those : map lived now.segments ≡ insert (map lived v.segments) k (lived piece) =
        ap (λ (u : Seen). map lived u.segments) b.is ∙ (readings-lived (record v { segments = insert v.segments k piece }) k _ ∙ map-inserted lived v.segments k piece) in
        subst (AllLive lives) (sym those) (all-inserted lives (map lived v.segments) k (lived piece) old (ap (λ z. z.0) (sym life)) (ap (λ z. z.1) (sym life)))

    pub begun-first : KeepsFirst v now
    begun-first =
        let p = readings-first (record v { segments = insert v.segments k piece }) k (take b.count (piece_readings v.readings v.segments k)) in
        subst (KeepsFirst v) (sym b.is) (record { cause = p.cause; end = p.end; last = p.last })
