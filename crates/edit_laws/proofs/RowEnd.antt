-- Rows in which a piece gets another end tell it, and nothing else otherwise than before.
use Rattle.std.proofs.Common.{◌≡◌, ◌<◌, ◌≤◌, ℕ, zero, suc, Bool, true, false, cond, ◌&&◌, length, List, [], ◌∷◌, refl, sym, ap, ◌∙◌, subst, map, arith, eqb-true}
use Rattle.std.specs.Prelude.{nat_eq, slice_get}
use Rattle.std.proofs.Math.Dec.{eqb-zero-suc, eqb-suc-zero, eqb-suc-suc}
use Rattle.live_lanes.specs.declared.row.LaneRange.{LaneRange}
use Rattle.live_lanes.specs.declared.row.PieceEnd.{PieceEnd}
use Rattle.live_lanes.specs.Table.{Seen, Begun, begun_cause, begun_end, begun_with_end, changed_at, cause_in, end_in, with_end}
use Rattle.live_lanes.specs.Entered.{start_of, shape, rows_seen, causes}
use Rattle.live_lanes.specs.Ends.{row_end}
use Rattle.edit_laws.specs.Chains.{Node, same_node}
use Rattle.edit_laws.specs.RowEnd.{GivesEnd, RowEndLaw}
use Rattle.edit_laws.proofs.RowCause.{choose, node-turned}

changed-end : (e : PieceEnd) (ss : List Begun) (m j : ℕ) → m < length ss → begun_end (slice_get (changed_at m (begun_with_end e) ss) j) ≡ cond (nat_eq m j) e (begun_end (slice_get ss j))
changed-end e [] m j h = absurd (omega arith)
changed-end e (s ∷ ss) zero zero h = refl
changed-end e (s ∷ ss) zero (suc j) h = sym (ap (λ t. cond t e (begun_end (slice_get ss j))) (eqb-zero-suc j))
changed-end e (s ∷ ss) (suc m) zero h = sym (ap (λ t. cond t e s.end) (eqb-suc-zero m))
changed-end e (s ∷ ss) (suc m) (suc j) h = changed-end e ss m j (omega arith) ∙ sym (ap (λ t. cond t e (begun_end (slice_get ss j))) (eqb-suc-suc m j))

end-after : (v : Seen) (n k : ℕ) (e : PieceEnd) → n ≤ length v.segments → end_in (with_end v n e) k ≡ cond (nat_eq n k) e (end_in v k)
end-after v zero zero e h = refl
end-after v zero (suc k) e h = sym (ap (λ t. cond t e (begun_end (slice_get v.segments k))) (eqb-zero-suc k))
end-after v (suc n) zero e h = sym (ap (λ t. cond t e v.end) (eqb-suc-zero n))
end-after v (suc n) (suc k) e h = changed-end e v.segments n k (omega arith) ∙ sym (ap (λ t. cond t e (begun_end (slice_get v.segments k))) (eqb-suc-suc n k))

changed-cause : (e : PieceEnd) (ss : List Begun) (m j : ℕ) → begun_cause (slice_get (changed_at m (begun_with_end e) ss) j) ≡ begun_cause (slice_get ss j)
changed-cause e [] m j = refl
changed-cause e (s ∷ ss) zero zero = refl
changed-cause e (s ∷ ss) zero (suc j) = refl
changed-cause e (s ∷ ss) (suc m) zero = refl
changed-cause e (s ∷ ss) (suc m) (suc j) = changed-cause e ss m j

cause-after : (v : Seen) (n k : ℕ) (e : PieceEnd) → cause_in (with_end v n e) k ≡ cause_in v k
cause-after v zero zero e = refl
cause-after v zero (suc k) e = refl
cause-after v (suc n) zero e = refl
cause-after v (suc n) (suc k) e = changed-cause e v.segments n k

changed-starts : (e : PieceEnd) (ss : List Begun) (m : ℕ) → map start_of (changed_at m (begun_with_end e) ss) ≡ map start_of ss
changed-starts e [] m = refl
changed-starts e (s ∷ ss) zero = refl
changed-starts e (s ∷ ss) (suc m) = ap (λ t. start_of s ∷ t) (changed-starts e ss m)

shape-after : (v : Seen) (n : ℕ) (e : PieceEnd) → shape (with_end v n e) ≡ shape v
shape-after v zero e = refl
shape-after v (suc n) e = ap (λ t. record (shape v) { segments = t }) (changed-starts e v.segments n)

module _ (old new : List LaneRange) (n : Node) (end : PieceEnd) (g : GivesEnd old new n end) where
  abbrev own : Seen
  own = rows_seen old n.0 n.1

  here-given : (l b k : ℕ) → nat_eq n.0 l ≡ true → nat_eq n.1 b ≡ true → end_in (with_end own n.2 end) k ≡ cond (nat_eq n.2 k) end (row_end old l b k)
  here-given l b k e f =
      let x : n.0 ≡ l = eqb-true n.0 l e in
      let y : n.1 ≡ b = eqb-true n.1 b f in
      end-after own n.2 k end g.within ∙ (λ i. cond (nat_eq n.2 k) end (row_end old (x i) (y i) k))

  seen-end : (t : Bool) (l b k : ℕ) → end_in (cond t (with_end own n.2 end) (rows_seen old l b)) k ≡ cond t (end_in (with_end own n.2 end) k) (row_end old l b k)
  seen-end true l b k = refl
  seen-end false l b k = refl

  ends-given : (l b k : ℕ) → row_end new l b k ≡ cond (same_node (l, b, k) n) end (row_end old l b k)
  ends-given l b k =
      ap (λ v. end_in v k) (g.seen l b)
      ∙ (seen-end (nat_eq n.0 l && nat_eq n.1 b) l b k
      ∙ (choose (nat_eq n.0 l) (nat_eq n.1 b) (nat_eq n.2 k) (end_in (with_end own n.2 end) k) end (row_end old l b k) (here-given l b k)
      ∙ ap (λ u. cond u end (row_end old l b k)) (node-turned n l b k)))

  causes-same : (l b k : ℕ) → causes new l b k ≡ causes old l b k
  causes-same l b k = ap (λ v. cause_in v k) (g.seen l b) ∙ go (nat_eq n.0 l) (nat_eq n.1 b) refl refl
    where
      go : (u v : Bool) → nat_eq n.0 l ≡ u → nat_eq n.1 b ≡ v → cause_in (cond (u && v) (with_end own n.2 end) (rows_seen old l b)) k ≡ causes old l b k
      go true true e f =
          let x : n.0 ≡ l = eqb-true n.0 l e in
          let y : n.1 ≡ b = eqb-true n.1 b f in
          cause-after own n.2 k end ∙ (λ i. causes old (x i) (y i) k)
      go true false e f = refl
      go false v e f = refl

  shapes-same : (l b : ℕ) → shape (rows_seen new l b) ≡ shape (rows_seen old l b)
  shapes-same l b = ap shape (g.seen l b) ∙ go (nat_eq n.0 l) (nat_eq n.1 b) refl refl
    where
      go : (u v : Bool) → nat_eq n.0 l ≡ u → nat_eq n.1 b ≡ v → shape (cond (u && v) (with_end own n.2 end) (rows_seen old l b)) ≡ shape (rows_seen old l b)
      go true true e f =
          let x : n.0 ≡ l = eqb-true n.0 l e in
          let y : n.1 ≡ b = eqb-true n.1 b f in
          shape-after own n.2 end ∙ (λ i. shape (rows_seen old (x i) (y i)))
      go true false e f = refl
      go false v e f = refl

pub row-end-law : RowEndLaw
row-end-law old new n end g = record {
  ends = ends-given old new n end g;
  same_causes = λ i. λ l b k. causes-same old new n end g l b k i;
  table = λ code slots flow t. record {
    entered = λ l b. shapes-same old new n end g l b ∙ t.entered l b;
    numbered = t.numbered;
    ways = t.ways;
    matched = t.matched;
    few = subst (λ m. m < 4294967296) (sym g.lanes) t.few;
  };
}
