-- Ends of pieces that are found anew, as far as a loop over the pieces has come.
use Rattle.std.proofs.Common.{◌≡◌, ◌<◌, ◌≤◌, ◌⊎◌, ℕ, zero, suc, ◌+◌, Bool, true, false, cond, ◌&&◌, length, List, [], ◌∷◌, Option, None, Some, inl, inr, refl, sym, ap, ◌∙◌, subst, map, get_or, take, eqb-true, eq-eqb}
use Rattle.std.specs.Prelude.{nat_eq, slice_get}
use Rattle.std.proofs.lemmas.List.{take_all}
use Rattle.mir_meaning.specs.Paths.{Among}
use Rattle.live_lanes.specs.declared.compute.flow.BlockFlow.{BlockFlow}
use Rattle.live_lanes.specs.declared.row.Cell.{Cell}
use Rattle.live_lanes.specs.declared.row.LaneRange.{LaneRange}
use Rattle.live_lanes.specs.declared.row.Piece.{Piece}
use Rattle.live_lanes.specs.declared.row.PieceEnd.{PieceEnd}
use Rattle.live_lanes.specs.declared.row.PieceEnd.TheVariants as ends
use Rattle.live_edits.specs.declared.pieces.PieceSpot.{PieceSpot}
use Rattle.live_lanes.specs.Graph.{is_live}
use Rattle.live_lanes.specs.Table.{Numbers, Begun, Seen, seen, seen_cell, seen_in, unseen, find_cell, piece_in, cause_in, begun_with_end, changed_at, with_end, rises_from}
use Rattle.live_lanes.specs.Entered.{start_of, shape, rows_seen, cells_of, causes}
use Rattle.live_lanes.specs.Ends.{row_end}
use Rattle.live_lanes.specs.Lasting.{shapes, readings_of, live_end, right_end}
use Rattle.live_lanes.proofs.Basics.{none-among}
use Rattle.live_lanes.proofs.Gives.{past-lasts, unseen-lasts}
use Rattle.live_lanes.proofs.Lasting.{cell-piece}
use Rattle.edit_laws.specs.Chains.{Node, same_node}
use Rattle.edit_laws.specs.RowEnd.{GivesEnd, HasEnd}
use Rattle.edit_laws.proofs.RowEnd.{row-end-law}
use Rattle.live_edits.specs.Pieces.{node_of, nodes_of, IsThere}
use Rattle.live_edits.specs.Updated.{EndsAgain}
use Rattle.live_edits.proofs.RiseSteps.{first-at, node-before, node-either, node-last, only}
use Rattle.live_edits.proofs.RiseThere.{there-or-past}

-- the cell that is found is of the block, and is what is seen there

found-block : (b : ℕ) (cs : List Cell) (c : Cell) → Some c ≡ find_cell b cs → c.block ≡ b
found-block b [] c e = absurd (cc)
found-block b (d ∷ cs) c e = go (nat_eq d.block b) refl e (λ g. found-block b cs c g)
  where
    go : (t : Bool) → nat_eq d.block b ≡ t → Some c ≡ cond t (Some d) (find_cell b cs) → (Some c ≡ find_cell b cs → c.block ≡ b) → c.block ≡ b
    go true f g k = let h : c ≡ d = cc in ap (λ (x : Cell). x.block) h ∙ eqb-true d.block b f
    go false f g k = k g

seen-of : (rows : List LaneRange) (l b : ℕ) → seen (find_cell b (cells_of rows l)) ≡ rows_seen rows l b
seen-of rows l b = go (slice_get rows l)
  where
    go : (q : Option LaneRange) → seen (find_cell b (elim q [ None ↦ [] | Some r ↦ r.cells.items ])) ≡ elim q [ None ↦ unseen | Some r ↦ seen_in r.cells.items b ]
    go None = refl
    go (Some r) = refl

module _ (slots : Numbers) (flow : List BlockFlow) (rows : List LaneRange) (l b n : ℕ) (c : Cell) (e : Some c ≡ find_cell b (cells_of rows l)) where
  pub seen-here : seen_cell c ≡ rows_seen rows l b
  seen-here = ap seen e ∙ seen-of rows l b

  pub rises-here : rises_from slots 0 (rows_seen rows l b).segments ≡ true → rises_from slots 0 (seen_cell c).segments ≡ true
  rises-here r = ap (λ (v : Seen). rises_from slots 0 v.segments) seen-here ∙ r

  abbrev of_seen : Seen → ℕ → PieceEnd
  of_seen v k = live_end slots flow (causes rows) (shapes rows) (shape v) l k n (cause_in v n) (readings_of (shape v) n)

  pub live-now : (p : Piece) → Some p ≡ piece_in c n → is_live p.cause ≡ true → live_end slots flow (causes rows) (shapes rows) (shape (seen_cell c)) l c.block n p.cause p.readings.items ≡ right_end slots flow (causes rows) (shapes rows) l b n
  live-now p f live =
      let z = cell-piece c n p f in
      let block : c.block ≡ b = found-block b (cells_of rows l) c e in
      let live' : is_live (causes rows l b n) ≡ true = ap (λ (v : Seen). is_live (cause_in v n)) (sym seen-here) ∙ (ap is_live (sym z.0) ∙ live) in
      ap (λ x. live_end slots flow (causes rows) (shapes rows) (shape (seen_cell c)) l c.block n x p.readings.items) z.0
      ∙ (ap (λ x. live_end slots flow (causes rows) (shapes rows) (shape (seen_cell c)) l c.block n (cause_in (seen_cell c) n) x) z.1
      ∙ ((λ i. of_seen (seen-here i) (block i))
      ∙ sym (ap (λ u. cond u (of_seen (rows_seen rows l b) b) ends.Never) live')))

-- equal pieces

nat-or : (a b : ℕ) → (a ≡ b) ⊎ (a ≡ b → ⊥)
nat-or a b = go (nat_eq a b) refl
  where
    go : (t : Bool) → nat_eq a b ≡ t → (a ≡ b) ⊎ (a ≡ b → ⊥)
    go true e = inl (eqb-true a b e)
    go false e = inr (λ f. absurd (let z : true ≡ false = sym (eq-eqb a b f) ∙ e in cc))

pub node-or : (n m : Node) → (n ≡ m) ⊎ (n ≡ m → ⊥)
node-or n m = go (nat-or n.0 m.0) (nat-or n.1 m.1) (nat-or n.2 m.2)
  where
    go : (n.0 ≡ m.0) ⊎ (n.0 ≡ m.0 → ⊥) → (n.1 ≡ m.1) ⊎ (n.1 ≡ m.1 → ⊥) → (n.2 ≡ m.2) ⊎ (n.2 ≡ m.2 → ⊥) → (n ≡ m) ⊎ (n ≡ m → ⊥)
    go (inl x) (inl y) (inl z) = inl (λ i. (x i, y i, z i))
    go (inl x) (inl y) (inr z) = inr (λ e. z (ap (λ (k : Node). k.2) e))
    go (inl x) (inr y) z = inr (λ e. y (ap (λ (k : Node). k.1) e))
    go (inr x) y z = inr (λ e. x (ap (λ (k : Node). k.0) e))

same-true : (n m : Node) → same_node n m ≡ true → n ≡ m
same-true n m e = go (nat_eq n.0 m.0) (nat_eq n.1 m.1) (nat_eq n.2 m.2) refl refl refl e
  where
    go : (x y z : Bool) → nat_eq n.0 m.0 ≡ x → nat_eq n.1 m.1 ≡ y → nat_eq n.2 m.2 ≡ z → (x && (y && z)) ≡ true → n ≡ m
    go true true true f g h e = (λ i. (eqb-true n.0 m.0 f i, eqb-true n.1 m.1 g i, eqb-true n.2 m.2 h i))
    go true true false f g h e = absurd (cc)
    go true false z f g h e = absurd (cc)
    go false y z f g h e = absurd (cc)

same-self : (n : Node) → same_node n n ≡ true
same-self n = go (nat_eq n.0 n.0) (nat_eq n.1 n.1) (nat_eq n.2 n.2) (eq-eqb n.0 n.0 refl) (eq-eqb n.1 n.1 refl) (eq-eqb n.2 n.2 refl)
  where
    go : (x y z : Bool) → x ≡ true → y ≡ true → z ≡ true → (x && (y && z)) ≡ true
    go true y z e f g = both y z f g
      where
        both : (y z : Bool) → y ≡ true → z ≡ true → (y && z) ≡ true
        both true z f g = g
        both false z f g = absurd (cc)
    go false y z e f g = absurd (cc)

changed-starts : (e : PieceEnd) (ss : List Begun) (m : ℕ) → map start_of (changed_at m (begun_with_end e) ss) ≡ map start_of ss
changed-starts e [] m = refl
changed-starts e (s ∷ ss) zero = refl
changed-starts e (s ∷ ss) (suc m) = ap (λ t. start_of s ∷ t) (changed-starts e ss m)

shape-after : (v : Seen) (n : ℕ) (e : PieceEnd) → shape (with_end v n e) ≡ shape v
shape-after v zero e = refl
shape-after v (suc n) e = ap (λ t. record (shape v) { segments = t }) (changed-starts e v.segments n)

-- One piece has this end, and nothing else changes.
pub record OneEnd (old new : List LaneRange) (n : Node) (end : PieceEnd) : Type 0 where
  pub same_shapes : (l b : ℕ) → shape (rows_seen new l b) ≡ shape (rows_seen old l b)
  pub same_causes : (l b k : ℕ) → causes new l b k ≡ causes old l b k
  pub own : row_end new n.0 n.1 n.2 ≡ end
  pub others : (m : Node) → (m ≡ n → ⊥) → row_end new m.0 m.1 m.2 ≡ row_end old m.0 m.1 m.2

pub end-stays : (rows : List LaneRange) (n : Node) (end : PieceEnd) → row_end rows n.0 n.1 n.2 ≡ end → OneEnd rows rows n end
end-stays rows n end e = record { same_shapes = λ l b. refl; same_causes = λ l b k. refl; own = e; others = λ m d. refl }

pub end-given : (old new : List LaneRange) (n : Node) (end : PieceEnd) → GivesEnd old new n end → OneEnd old new n end
end-given old new n end g = record {
  same_shapes = λ l b. ap shape (g.seen l b) ∙ shape-at (nat_eq n.0 l) (nat_eq n.1 b) l b refl refl;
  same_causes = λ l b k. ap (λ w. w l b k) h.same_causes;
  own = h.ends n.0 n.1 n.2 ∙ ap (λ t. cond t end (row_end old n.0 n.1 n.2)) (same-self n);
  others = λ m d. h.ends m.0 m.1 m.2 ∙ other m d (same_node m n) refl;
}
  where
    h : HasEnd old new n end
    h = row-end-law old new n end g

    shape-at : (u v : Bool) (l b : ℕ) → nat_eq n.0 l ≡ u → nat_eq n.1 b ≡ v → shape (cond (u && v) (with_end (rows_seen old n.0 n.1) n.2 end) (rows_seen old l b)) ≡ shape (rows_seen old l b)
    shape-at true true l b e f =
        let x : n.0 ≡ l = eqb-true n.0 l e in
        let y : n.1 ≡ b = eqb-true n.1 b f in
        shape-after (rows_seen old n.0 n.1) n.2 end ∙ (λ i. shape (rows_seen old (x i) (y i)))
    shape-at true false l b e f = refl
    shape-at false v l b e f = refl

    other : (m : Node) → (m ≡ n → ⊥) → (t : Bool) → same_node m n ≡ t → cond t end (row_end old m.0 m.1 m.2) ≡ row_end old m.0 m.1 m.2
    other m d true e = absurd (d (same-true m n e))
    other m d false e = refl

-- a piece whose end isn't right is there
pub wrong-there : (slots : Numbers) (flow : List BlockFlow) (rows : List LaneRange) (l b n : ℕ) → (row_end rows l b n ≡ right_end slots flow (causes rows) (shapes rows) l b n → ⊥) → IsThere rows (l, b, n)
wrong-there slots flow rows l b n d = go (there-or-past rows l b n)
  where
    go : IsThere rows (l, b, n) ⊎ ((rows_seen rows l b ≡ unseen) ⊎ (length (rows_seen rows l b).segments < n)) → IsThere rows (l, b, n)
    go (inl t) = t
    go (inr (inl e)) = absurd (d (unseen-lasts slots flow rows l b n e))
    go (inr (inr h)) = absurd (d (past-lasts slots flow rows l b n h))

pub ended-none : (slots : Numbers) (flow : List BlockFlow) (rows : List LaneRange) → EndsAgain slots flow rows rows []
ended-none slots flow rows = record { shapes_stay = λ l b. refl; causes_stay = λ l b n. refl; ended = λ n a. absurd (none-among n a); kept = λ n d. refl }

pub right-same : (slots : Numbers) (flow : List BlockFlow) (old new : List LaneRange) → ((l b : ℕ) → shape (rows_seen new l b) ≡ shape (rows_seen old l b)) → ((l b n : ℕ) → causes new l b n ≡ causes old l b n) → (l b n : ℕ) → right_end slots flow (causes new) (shapes new) l b n ≡ right_end slots flow (causes old) (shapes old) l b n
right-same slots flow old new s w l b n = (λ i. right_end slots flow (λ l b n. w l b n i) (λ l b. s l b i) l b n)

module _ (slots : Numbers) (flow : List BlockFlow) (old mid new : List LaneRange) (pieces : List PieceSpot) (k : ℕ) (so : EndsAgain slots flow old mid (nodes_of (take k pieces))) (x d : PieceSpot) (within : k < length pieces) (is : x ≡ get_or pieces k d) (end : PieceEnd) (right : end ≡ right_end slots flow (causes mid) (shapes mid) x.lane x.block x.index) (one : OneEnd mid new (node_of x) end) where
  first-nodes : (n : Node) → Among n (nodes_of (take (k + 1) pieces)) → Among n (nodes_of (take k pieces)) ⊎ (n ≡ node_of x)
  first-nodes n a = go (node-either n (take k pieces) (x ∷ []) (subst (λ ys. Among n (nodes_of ys)) (first-at pieces k x d within is) a))
    where
      go : Among n (nodes_of (take k pieces)) ⊎ Among n (nodes_of (x ∷ [])) → Among n (nodes_of (take k pieces)) ⊎ (n ≡ node_of x)
      go (inl b) = inl b
      go (inr b) = inr (only n (node_of x) b)

  own-end : (n : Node) → n ≡ node_of x → row_end new n.0 n.1 n.2 ≡ right_end slots flow (causes old) (shapes old) n.0 n.1 n.2
  own-end n e =
      subst (λ (m : Node). row_end new m.0 m.1 m.2 ≡ right_end slots flow (causes old) (shapes old) m.0 m.1 m.2) (sym e) (one.own ∙ (right ∙ right-same slots flow old mid so.shapes_stay so.causes_stay x.lane x.block x.index))

  pub ended-more : EndsAgain slots flow old new (nodes_of (take (k + 1) pieces))
  ended-more = record {
    shapes_stay = λ l b. one.same_shapes l b ∙ so.shapes_stay l b;
    causes_stay = λ l b n. one.same_causes l b n ∙ so.causes_stay l b n;
    ended = λ n a. ended n (first-nodes n a) (node-or n (node_of x));
    kept = λ n d. kept n d (node-or n (node_of x));
  }
    where
      ended : (n : Node) → Among n (nodes_of (take k pieces)) ⊎ (n ≡ node_of x) → (n ≡ node_of x) ⊎ (n ≡ node_of x → ⊥) → row_end new n.0 n.1 n.2 ≡ right_end slots flow (causes old) (shapes old) n.0 n.1 n.2
      ended n a (inl e) = own-end n e
      ended n (inr e) (inr d) = absurd (d e)
      ended n (inl a) (inr d) = one.others n d ∙ so.ended n a

      into : (n : Node) → Among n (nodes_of (take k pieces)) → Among n (nodes_of (take (k + 1) pieces))
      into n a = subst (λ ys. Among n (nodes_of ys)) (sym (first-at pieces k x d within is)) (node-before n (take k pieces) (x ∷ []) a)

      x-in : Among (node_of x) (nodes_of (take (k + 1) pieces))
      x-in = subst (λ ys. Among (node_of x) (nodes_of ys)) (sym (first-at pieces k x d within is)) (node-last (take k pieces) x)

      kept : (n : Node) → (Among n (nodes_of (take (k + 1) pieces)) → ⊥) → (n ≡ node_of x) ⊎ (n ≡ node_of x → ⊥) → row_end new n.0 n.1 n.2 ≡ row_end old n.0 n.1 n.2
      kept n d (inl e) = absurd (d (subst (λ m. Among m (nodes_of (take (k + 1) pieces))) (sym e) x-in))
      kept n d (inr f) = one.others n f ∙ so.kept n (λ a. d (into n a))

pub ended-all : (slots : Numbers) (flow : List BlockFlow) (old new : List LaneRange) (pieces : List PieceSpot) (k : ℕ) → length pieces ≤ k → EndsAgain slots flow old new (nodes_of (take k pieces)) → EndsAgain slots flow old new (nodes_of pieces)
ended-all slots flow old new pieces k h so = subst (λ ys. EndsAgain slots flow old new (nodes_of ys)) (take_all k pieces h) so
