-- Pieces that are there, and rows whose causes change.
use Rattle.std.proofs.Common.{◌≡◌, ◌<◌, ◌≤◌, ℕ, zero, suc, Bool, true, false, cond, ◌&&◌, length, List, [], ◌∷◌, ◌⊎◌, inl, inr, None, Some, refl, sym, ap, ◌∙◌, arith, eqb-true, get_or}
use Rattle.std.specs.Prelude.{nat_eq, slice_get}
use Rattle.std.proofs.lemmas.Option.{slice_get_cases}
use Rattle.live_lanes.specs.declared.row.Cause.{Cause}
use Rattle.live_lanes.specs.declared.row.LaneRange.{LaneRange}
use Rattle.live_lanes.specs.Graph.{is_live}
use Rattle.live_lanes.specs.Table.{Numbers, Seen, unseen, Begun, begun_cause, begun_end, changed_at, begun_with_cause, seen_in, cause_in, end_in, with_cause}
use Rattle.live_lanes.specs.Entered.{shape, rows_seen, causes}
use Rattle.live_lanes.specs.Lasting.{AllRise}
use Rattle.live_lanes.proofs.Growth.{shape-cause}
use Rattle.live_lanes.proofs.Gives.{all-rise}
use Rattle.edit_laws.specs.Chains.{Node}
use Rattle.edit_laws.specs.RowCause.{GivesCause}
use Rattle.live_edits.specs.Pieces.{IsThere, KeepsPieces}

live-segment : (ss : List Begun) (k : ℕ) → is_live (begun_cause (slice_get ss k)) ≡ true → k < length ss
live-segment ss k h = go (slice_get_cases ss k).1
  where
    go : ((x : Begun) × (k < length ss) × (slice_get ss k ≡ Some x) × (get_or ss k x ≡ x)) ⊎ ((length ss ≤ k) × (slice_get ss k ≡ None)) → k < length ss
    go (inl z) = z.1
    go (inr z) = absurd (let e : false ≡ true = ap (λ o. is_live (begun_cause o)) (sym z.1) ∙ h in cc)

live-within : (v : Seen) (n : ℕ) → is_live (cause_in v n) ≡ true → n ≤ length v.segments
live-within v zero h = omega arith
live-within v (suc k) h = live-segment v.segments k h

live-lane : (rows : List LaneRange) (l b n : ℕ) → is_live (causes rows l b n) ≡ true → l < length rows
live-lane rows l b n h = go (slice_get_cases rows l).1
  where
    dead : (n : ℕ) → slice_get rows l ≡ None → is_live (causes rows l b n) ≡ false
    dead zero e = ap (λ o. is_live (cause_in (elim o [ None ↦ unseen | Some r ↦ seen_in r.cells.items b ]) 0)) e
    dead (suc k) e = ap (λ o. is_live (cause_in (elim o [ None ↦ unseen | Some r ↦ seen_in r.cells.items b ]) (suc k))) e

    go : ((x : LaneRange) × (l < length rows) × (slice_get rows l ≡ Some x) × (get_or rows l x ≡ x)) ⊎ ((length rows ≤ l) × (slice_get rows l ≡ None)) → l < length rows
    go (inl z) = z.1
    go (inr z) = absurd (let e : false ≡ true = sym (dead n z.1) ∙ h in cc)

-- a piece that is live is there
pub live-there : (rows : List LaneRange) (l b n : ℕ) → is_live (causes rows l b n) ≡ true → IsThere rows (l, b, n)
live-there rows l b n h = record { lane = live-lane rows l b n h; piece = live-within (rows_seen rows l b) n h }

pub pieces-same : (rows : List LaneRange) → KeepsPieces rows rows
pieces-same rows = record { shapes = λ l b. refl; ends = λ l b n. refl; lanes = refl }

pub pieces-then : (old mid new : List LaneRange) → KeepsPieces old mid → KeepsPieces mid new → KeepsPieces old new
pieces-then old mid new p q = record {
  shapes = λ l b. q.shapes l b ∙ p.shapes l b;
  ends = λ l b n. q.ends l b n ∙ p.ends l b n;
  lanes = q.lanes ∙ p.lanes;
}

-- another cause changes no end
changed-end : (c : Cause) (ss : List Begun) (m j : ℕ) → begun_end (slice_get (changed_at m (begun_with_cause c) ss) j) ≡ begun_end (slice_get ss j)
changed-end c [] m j = refl
changed-end c (s ∷ ss) zero zero = refl
changed-end c (s ∷ ss) zero (suc j) = refl
changed-end c (s ∷ ss) (suc m) zero = refl
changed-end c (s ∷ ss) (suc m) (suc j) = changed-end c ss m j

pub end-cause : (v : Seen) (n k : ℕ) (c : Cause) → end_in (with_cause v n c) k ≡ end_in v k
end-cause v zero zero c = refl
end-cause v zero (suc k) c = refl
end-cause v (suc n) zero c = refl
end-cause v (suc n) (suc k) c = changed-end c v.segments n k

-- what stays of a piece's own cell stays of all
given-stays : {X : Type 0} (old new : List LaneRange) (n : Node) (cause : Cause) → GivesCause old new n cause → (f : Seen → X) → (f (with_cause (rows_seen old n.0 n.1) n.2 cause) ≡ f (rows_seen old n.0 n.1)) → (l b : ℕ) → f (rows_seen new l b) ≡ f (rows_seen old l b)
given-stays old new n cause g f same l b = ap f (g.seen l b) ∙ go (nat_eq n.0 l) (nat_eq n.1 b) refl refl
  where
    go : (u v : Bool) → nat_eq n.0 l ≡ u → nat_eq n.1 b ≡ v → f (cond (u && v) (with_cause (rows_seen old n.0 n.1) n.2 cause) (rows_seen old l b)) ≡ f (rows_seen old l b)
    go true true d e =
        let x : n.0 ≡ l = eqb-true n.0 l d in
        let y : n.1 ≡ b = eqb-true n.1 b e in
        same ∙ (λ i. f (rows_seen old (x i) (y i)))
    go true false d e = refl
    go false v d e = refl

pub given-pieces : (old new : List LaneRange) (n : Node) (cause : Cause) → GivesCause old new n cause → KeepsPieces old new
given-pieces old new n cause g = record {
  shapes = given-stays old new n cause g shape (shape-cause (rows_seen old n.0 n.1) n.2 cause);
  ends = λ l b k. given-stays old new n cause g (λ v. end_in v k) (end-cause (rows_seen old n.0 n.1) n.2 k cause) l b;
  lanes = g.lanes;
}

pub pieces-rise : (slots : Numbers) (old new : List LaneRange) → KeepsPieces old new → AllRise slots old → AllRise slots new
pieces-rise slots old new k = all-rise slots old new k.shapes
