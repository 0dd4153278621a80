-- The pieces on both sides of instructions with notes.
use Rattle.std.proofs.Common.{◌≡◌, ◌⊎◌, inl, inr, ◌++◌, ◌∙◌, ◌<◌, ◌≤◌, ℕ, zero, suc, Bool, true, false, cond, List, [], ◌∷◌, take, get_or, ◌+◌, length, refl, sym, ap, subst, arith}
use Rattle.std.specs.Prelude.{flat_map}
use Rattle.mir_meaning.specs.Paths.{Among, here, there}
use Rattle.live_lanes.specs.declared.row.LaneRange.{LaneRange}
use Rattle.live_edits.specs.declared.pieces.PieceSpot.{PieceSpot}
use Rattle.live_lanes.specs.Table.{Numbers, leading, is_begun, entry_rank, exit_rank}
use Rattle.live_lanes.specs.Entered.{rows_seen}
use Rattle.live_lanes.specs.Growth.{piece_in_rows}
use Rattle.live_lanes.proofs.Basics.{none-among}
use Rattle.live_lanes.proofs.Numbered.{among-cases}
use Rattle.edit_laws.specs.Chains.{Node}
use Rattle.live_edits.specs.declared.cells.CellNotes.{CellNotes}
use Rattle.live_edits.specs.declared.cells.Note.{Note}
use Rattle.live_edits.specs.Leading.{AreAlike}
use Rattle.live_edits.specs.Pieces.{node_of, nodes_of, IsThere}
use Rattle.live_edits.specs.Runs.{entry_side, exit_side, both_sides, cell_sides, all_sides, AreSuspects}
use Rattle.live_edits.proofs.AlikeLists.{alike-two, alike-more}
use Rattle.live_edits.proofs.AskMembers.{among-flat, flat-among}

-- all elements were gone through
flat-whole : {X Y : Type 0} (f : X → List Y) (xs : List X) (i : ℕ) → length xs ≡ i → flat_map f (take i xs) ≡ flat_map f xs
flat-whole f [] zero e = refl
flat-whole f [] (suc i) e = refl
flat-whole f (x ∷ xs) zero e = absurd (omega (arith, e))
flat-whole f (x ∷ xs) (suc i) e = ap (λ ys. f x ++ ys) (flat-whole f xs i (omega (arith, e)))

leading-within : {X : Type 0} (p : X → Bool) (xs : List X) → leading p xs ≤ length xs
leading-within p [] = omega arith
leading-within p (x ∷ xs) = go (p x) (leading-within p xs)
  where
    go : (u : Bool) → leading p xs ≤ length xs → cond u (suc (leading p xs)) 0 ≤ suc (length xs)
    go true h = omega (arith, h)
    go false h = omega arith

module _ (slots : Numbers) (rows : List LaneRange) where
  -- the piece of a point is there, where the lane has a row
  piece-there : (l b at : ℕ) → l < length rows → IsThere rows (l, b, piece_in_rows slots rows l b at)
  piece-there l b at h = record { lane = h; piece = leading-within (is_begun slots at) (rows_seen rows l b).segments }

  abbrev Sides : List CellNotes → Node → Type 0
  Sides all m = (c : CellNotes) × Among c all × ((n : Note) × Among n c.notes.items × ((m ≡ entry_side slots rows c.lane c.block n.id) ⊎ (m ≡ exit_side slots rows c.lane c.block n.id)))

  one-side : (m x y : Node) → Among m (x ∷ y ∷ []) → (m ≡ x) ⊎ (m ≡ y)
  one-side m x y a = go (among-cases m x (y ∷ []) a)
    where
      go : (m ≡ x) ⊎ Among m (y ∷ []) → (m ≡ x) ⊎ (m ≡ y)
      go (inl e) = inl e
      go (inr r) = last (among-cases m y [] r)
        where
          last : (m ≡ y) ⊎ Among m [] → (m ≡ x) ⊎ (m ≡ y)
          last (inl e) = inr e
          last (inr z) = absurd (none-among m z)

  sides-each : (all : List CellNotes) (m : Node) → Among m (all_sides slots rows all) → Sides all m
  sides-each all m a =
      let c = among-flat (cell_sides slots rows) m all a in
      let n = among-flat (both_sides slots rows c.0.lane c.0.block) m c.0.notes.items c.2 in
      (c.0, c.1, (n.0, n.1, one-side m (entry_side slots rows c.0.lane c.0.block n.0.id) (exit_side slots rows c.0.lane c.0.block n.0.id) n.2))

  sides-there : (all : List CellNotes) (m : Node) → Sides all m → m.0 < length rows → IsThere rows m
  sides-there all m z h = go z.2.2
    where
      go : (m ≡ entry_side slots rows z.0.lane z.0.block z.2.0.id) ⊎ (m ≡ exit_side slots rows z.0.lane z.0.block z.2.0.id) → IsThere rows m
      go (inl e) = subst (IsThere rows) (sym e) (piece-there z.0.lane z.0.block (entry_rank slots z.2.0.id) (subst (λ (x : Node). x.0 < length rows) e h))
      go (inr e) = subst (IsThere rows) (sym e) (piece-there z.0.lane z.0.block (exit_rank slots z.2.0.id) (subst (λ (x : Node). x.0 < length rows) e h))

  are-suspects : (all : List CellNotes) → AreSuspects slots rows all (all_sides slots rows all)
  are-suspects all = record {
    entry = λ c m n a. flat-among (cell_sides slots rows) (entry_side slots rows c.lane c.block n.id) c all m (flat-among (both_sides slots rows c.lane c.block) (entry_side slots rows c.lane c.block n.id) n c.notes.items a here);
    exit = λ c m n a. flat-among (cell_sides slots rows) (exit_side slots rows c.lane c.block n.id) c all m (flat-among (both_sides slots rows c.lane c.block) (exit_side slots rows c.lane c.block n.id) n c.notes.items a (there here));
    each = λ m a. sides-each all m a;
    there = λ m a h. sides-there all m (sides-each all m a) h;
  }

  -- the sides of one more note of a cell
  pub sides-more : (l b : ℕ) (from : List Node) (mid between to : List PieceSpot) (notes : List Note) (k : ℕ) (d : Note) (entry exit : ℕ) (p q : PieceSpot) → k < length notes
      → entry ≡ entry_rank slots (get_or notes k d).id → exit ≡ exit_rank slots (get_or notes k d).id
      → p.lane ≡ l → p.block ≡ b → p.index ≡ piece_in_rows slots rows l b entry → q.lane ≡ l → q.block ≡ b → q.index ≡ piece_in_rows slots rows l b exit
      → AreAlike (nodes_of mid) (from ++ flat_map (both_sides slots rows l b) (take k notes)) → AreAlike (nodes_of between) (nodes_of mid ++ node_of p ∷ []) → AreAlike (nodes_of to) (nodes_of between ++ node_of q ∷ [])
      → AreAlike (nodes_of to) (from ++ flat_map (both_sides slots rows l b) (take (k + 1) notes))
  sides-more l b from mid between to notes k d entry exit p q h en ex pl pb pi ql qb qi so one two =
      let n = get_or notes k d in
      let e : node_of p ≡ entry_side slots rows l b n.id = (λ i. (pl i, pb i, (pi ∙ ap (λ r. piece_in_rows slots rows l b r) en) i)) in
      let x : node_of q ≡ exit_side slots rows l b n.id = (λ i. (ql i, qb i, (qi ∙ ap (λ r. piece_in_rows slots rows l b r) ex) i)) in
      alike-more (both_sides slots rows l b) from (nodes_of mid) (nodes_of to) notes k n d h refl so
      (subst (λ ms. AreAlike (nodes_of to) (nodes_of mid ++ ms)) (λ i. e i ∷ x i ∷ []) (alike-two (nodes_of mid) (nodes_of between) (nodes_of to) (node_of p) (node_of q) one two))

  pub suspects-whole : (all : List CellNotes) (i : ℕ) (to : List PieceSpot) → length all ≡ i → AreAlike (nodes_of to) (all_sides slots rows (take i all)) → AreSuspects slots rows all (nodes_of to)
  suspects-whole all i to e so =
      let are = are-suspects all in
      let alike : AreAlike (nodes_of to) (all_sides slots rows all) = subst (AreAlike (nodes_of to)) (flat-whole (cell_sides slots rows) all i e) so in
      record {
        entry = λ c m n a. (alike (entry_side slots rows c.lane c.block n.id)).1 (are.entry c m n a);
        exit = λ c m n a. (alike (exit_side slots rows c.lane c.block n.id)).1 (are.exit c m n a);
        each = λ m a. are.each m ((alike m).0 a);
        there = λ m a h. are.there m ((alike m).0 a) h;
      }
