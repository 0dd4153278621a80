-- The extents of a lane in a computed table cover exactly the points at which it is live or occupied.
use Rattle.std.proofs.Common.{◌≡◌, ◌<◌, ◌≤◌, ◌⊎◌, ℕ, zero, suc, Bool, true, false, cond, List, [], ◌∷◌, ◌++◌, Option, None, Some, map, inl, inr, refl, sym, ap, ◌∙◌, subst, arith}
use Rattle.std.specs.Prelude.{slice_get, option_map}
use Rattle.std.specs.List.{list_any}
use Rattle.std.proofs.lemmas.Bool.{leb-false}
use Rattle.std.proofs.lemmas.Option.{slice_get_within}
use Rattle.target_base.specs.declared.types.Target.{Target}
use Rattle.mir_meaning.specs.declared.writing.LaneDef.{LaneDef}
use Rattle.meaning.specs.Live.{Among as Member, here as first, there as later}
use Rattle.mir_func.specs.declared.func.Block.{Block}
use Rattle.mir_func.specs.declared.func.Instr.{Instr}
use Rattle.mir_func.specs.Value.{Function}
use Rattle.mir_meaning.specs.Points.{Start, Entry, Exit, block_points}
use Rattle.mir_meaning.specs.Registers.{numbers}
use Rattle.mir_meaning.specs.Rules.{V8}
use Rattle.instr_effects.specs.Numbered.{number_in}
use Rattle.instr_effects.specs.Steps.{Numbering}
use Rattle.instr_effects.proofs.Members.{member-none, flat-in}
use Rattle.live_laws.specs.Effects.Coded.{KeepsRules}
use Rattle.live_laws.proofs.Effects.Blocks.{slice-member, slice-map, filtered-of, filtered-in}
use Rattle.live_laws.proofs.Effects.Lists.{any-in}
use Rattle.live_laws.proofs.Effects.Shapes.{numbers-in}
use Rattle.live_lanes.specs.declared.ask.extent.Extent.{Extent}
use Rattle.live_lanes.specs.declared.row.Cell.{Cell}
use Rattle.live_lanes.specs.declared.row.PieceEnd.{PieceEnd}
use Rattle.live_lanes.specs.declared.row.PieceEnd.TheVariants as ends
use Rattle.live_lanes.specs.declared.row.LaneRange.{LaneRange}
use Rattle.live_lanes.specs.declared.table.Table.{Table}
use Rattle.mir_meaning.specs.Paths.{Among, Step, Body, Code, steps_of, last_of, exits_of, writing_of}
use Rattle.live_lanes.specs.Table.{Numbers, Begun, Seen, seen, seen_cell, begun, entry_rank, exit_rank, end_rank, end_in, is_begun, rises_from, piece_at, find_cell}
use Rattle.live_lanes.specs.Entered.{Start as Beginning, start_of, starts, readings_until, rows_seen, cells_of, piece_count, causes, IsTableOf}
use Rattle.live_lanes.specs.Coded.{Doing, body_at, bodies_from}
use Rattle.live_lanes.specs.Doing.{doing_of, lane_code, IsComputed}
use Rattle.live_lanes.specs.Ordered.{place_of}
use Rattle.live_lanes.specs.Reach.{is_never}
use Rattle.live_lanes.specs.Ends.{Counts, reads, moves, leaves, goes, phi, AreEnds}
use Rattle.live_lanes.specs.Held.{held_at}
use Rattle.live_lanes.specs.Extents.{block_extent, segment_extent, extent_in, cell_extents, first_rank, last_rank, some_extents, extents_in}
use Rattle.live_lanes.proofs.Basics.{none-among}
use Rattle.live_lanes.proofs.Held.{number-le}
use Rattle.live_lanes.proofs.Numbered.{entry-piece, exit-piece, last-piece}
use Rattle.live_laws.proofs.Exact.Inside.{all, inside-law}
use Rattle.point_laws.specs.Covered.{covers, IsRank}
use Rattle.point_laws.specs.Laws.{CoveredLaw}
use Rattle.point_laws.proofs.Pieces.{from_start, from_writing, IsPiece, at_start, at_writing, any-of, leading-ends, piece-held, held-piece}

-- the extents of a cell are those of its pieces

block-of : (v : PieceEnd) (e : Extent) → block_extent v ≡ Some e → (is_never v ≡ false) × (e ≡ from_start v)
block-of v e h = go (is_never v) refl h
  where
    go : (u : Bool) → is_never v ≡ u → cond u None (Some (from_start v)) ≡ Some e → (is_never v ≡ false) × (e ≡ from_start v)
    go true f g = absurd (cc)
    go false f g = (f, cc)

mapped-of : {X Y : Type 0} (g : X → Y) (o : Option X) (y : Y) → option_map g o ≡ Some y → (x : X) × (o ≡ Some x) × (y ≡ g x)
mapped-of g None y e = absurd (cc)
mapped-of g (Some x) y e = (x, refl, cc)

module _ (c : Cell) where
  piece-of : (i : ℕ) (e : Extent) → extent_in (Some c) i ≡ Some e → IsPiece (seen_cell c) e
  piece-of zero e h = let z = block-of c.first.end e h in at_start z.0 z.1
  piece-of (suc k) e h =
      let z = mapped-of segment_extent (slice_get c.segments.items k) e h in
      at_writing k (begun z.0) (slice-map begun c.segments.items k ∙ ap (option_map begun) z.1) z.2

  cell-piece : (e : Extent) → Member e (cell_extents c) → IsPiece (seen_cell c) e
  cell-piece e m = let z = filtered-of (extent_in (Some c)) e (numbers 0 (piece_count (Some c))) m in piece-of z.0 e z.2

  numbered-in : (i : ℕ) (e : Extent) → i < piece_count (Some c) → extent_in (Some c) i ≡ Some e → Member e (cell_extents c)
  numbered-in i e lt h = filtered-in (extent_in (Some c)) i e (numbers 0 (piece_count (Some c))) (numbers-in i 0 (piece_count (Some c)) (omega arith) (omega (arith, lt))) h

  piece-cell : (e : Extent) → IsPiece (seen_cell c) e → Member e (cell_extents c)
  piece-cell e (at_start never same) = numbered-in 0 e (omega arith) (ap (λ u. cond u None (Some (from_start c.first.end))) never ∙ ap Some (sym same))
  piece-cell e (at_writing k s there same) =
      let z = mapped-of begun (slice_get c.segments.items k) s (sym (slice-map begun c.segments.items k) ∙ there) in
      let few = slice_get_within c.segments.items k z.0 z.1 in
      numbered-in (suc k) e (omega (arith, few)) (ap (option_map segment_extent) z.1 ∙ ap Some (sym (same ∙ ap from_writing z.2)))

pub some-piece : (o : Option Cell) (e : Extent) → Member e (some_extents o) → IsPiece (seen o) e
some-piece None e m = absurd (member-none e m)
some-piece (Some c) e m = cell-piece c e m

pub piece-some : (o : Option Cell) (e : Extent) → IsPiece (seen o) e → Member e (some_extents o)
piece-some None e (at_start never same) = absurd (cc)
piece-some None e (at_writing k s there same) = absurd (cc)
piece-some (Some c) e p = piece-cell c e p

pub seen-is : (rows : List LaneRange) (n p : ℕ) → seen (find_cell p (cells_of rows n)) ≡ rows_seen rows n p
seen-is rows n p = go (slice_get rows n)
  where
    go : (o : Option LaneRange) → seen (find_cell p (elim o [ None ↦ [] | Some r ↦ r.cells.items ])) ≡ elim o [ None ↦ seen None | Some r ↦ seen (find_cell p r.cells.items) ]
    go None = refl
    go (Some r) = refl

-- two tests of which each passes where the other does
same-test : (a b : Bool) → (a ≡ true → b ≡ true) → (b ≡ true → a ≡ true) → a ≡ b
same-test true b f g = sym (f refl)
same-test false true f g = absurd (let z = g refl in cc)
same-test false false f g = refl

-- blocks of the code

module _ (doing : Doing) (place : ℕ → Option ℕ) (all-blocks : List Block) where
  pub no-body : (n : ℕ) (bs : List Block) (p : ℕ) → slice_get bs p ≡ None → slice_get (bodies_from doing place all-blocks n bs) p ≡ None
  no-body n [] p e = refl
  no-body n (b ∷ bs) zero e = absurd (cc)
  no-body n (b ∷ bs) (suc p) e = no-body (suc n) bs p e

  pub the-body : (n : ℕ) (bs : List Block) (p : ℕ) (b : Block) → slice_get bs p ≡ Some b → (m : ℕ) × (slice_get (bodies_from doing place all-blocks n bs) p ≡ Some (body_at doing place all-blocks m b))
  the-body n [] p b e = absurd (cc)
  the-body n (c ∷ bs) zero b e = let same : c ≡ b = cc in (n, ap (λ d. Some (body_at doing place all-blocks n d)) same)
  the-body n (c ∷ bs) (suc p) b e = the-body (suc n) bs p b e

none-there : {X : Type 0} (xs : List X) (k : ℕ) (x : X) → xs ≡ [] → slice_get xs k ≡ Some x → ⊥
none-there [] k x e h = absurd (cc)
none-there (y ∷ xs) k x e h = absurd (cc)

abbrev pub some_steps : Option Body → List Step
some_steps o = elim o [ None ↦ [] | Some x ↦ x.steps ]

-- a piece begins with an instruction
pub begun-by : (l : ℕ) (ss : List Step) (k : ℕ) (st : Beginning) → slice_get (starts l ss) k ≡ Some st → (j : ℕ) × (s : Step) × (slice_get ss j ≡ Some s) × (st.start ≡ s.id)
begun-by l [] k st e = absurd (cc)
begun-by l (s ∷ ss) k st e = go (writing_of l s.writes) k e (λ j h. begun-by l ss j st h)
  where
    Found : List Step → Type 0
    Found xs = (j : ℕ) × (x : Step) × (slice_get xs j ≡ Some x) × (st.start ≡ x.id)

    more : Found ss → Found (s ∷ ss)
    more z = (suc z.0, z.1, z.2, z.3)

    go : (o : Option LaneDef) (k : ℕ) → slice_get (elim o [ None ↦ starts l ss | Some w ↦ record { start = s.id; early = w.early; from = w.from; readings = readings_until l ss } ∷ starts l ss ]) k ≡ Some st → ((j : ℕ) → slice_get (starts l ss) j ≡ Some st → Found ss) → Found (s ∷ ss)
    go None k h ih = more (ih k h)
    go (Some w) zero h ih = (0, s, refl, sym (ap (λ (o : Option Beginning). elim o [ None ↦ 0 | Some x ↦ x.start ]) h))
    go (Some w) (suc k) h ih = more (ih k h)

module _ (t : Target) (f : Function) (x : Table) (computed : IsComputed t f x) (rules : KeepsRules t f) (last : (b : Block) (j : ℕ) (i : Instr) → Member b f.blocks → slice_get b.instrs j ≡ Some i → V8 t b j i ≡ true) where
  abbrev num : Numbering
  num = number_in x.lanes

  abbrev code : Code
  code = lane_code t f num

  abbrev slots : Numbers
  slots = x.order.slots

  abbrev rows : List LaneRange
  rows = x.rows.rows.items

  table : IsTableOf code slots x.flow.items rows
  table = computed.table (all t f x computed rules last)

  ended : AreEnds code slots rows
  ended = computed.ended (all t f x computed rules last)

  module _ (n p : ℕ) where
    abbrev v : Seen
    v = rows_seen rows n p

    are : map start_of v.segments ≡ starts n (steps_of code p)
    are = ap (λ h. h.segments) (table.entered n p)

    rises : rises_from slots 0 v.segments ≡ true
    rises = (inside-law t f x computed rules last).ordered n p

    -- each piece ends in itself
    ends-in : (k : ℕ) (e : PieceEnd) → (e ≡ ends.Never) ⊎ Counts code (causes rows) n p k e → (s : Begun) → slice_get v.segments k ≡ Some s → end_rank slots e < exit_rank slots s.start
    ends-in k e (inl never) s there = let z = ap (end_rank slots) never in omega (arith, z)
    ends-in k e (inr counts) s there = go e counts
      where
        behind : (at : ℕ) → piece_at slots at v.segments ≡ k → at < exit_rank slots s.start
        behind at piece = leb-false (exit_rank slots s.start) at (leading-ends (is_begun slots at) v.segments s (ap (slice_get v.segments) piece ∙ there))

        go : (e : PieceEnd) → Counts code (causes rows) n p k e → end_rank slots e < exit_rank slots s.start
        go e (reads before step rest split piece used) = behind (entry_rank slots step.id) (entry-piece code slots table.numbered n p v.segments are before step rest split ∙ piece)
        go e (moves a before step rest split piece used live) = behind (entry_rank slots step.id) (entry-piece code slots table.numbered n p v.segments are before step rest split ∙ piece)
        go e (leaves y before step rest split piece out a live) = behind (exit_rank slots step.id) (exit-piece code slots table.numbered n p v.segments are before step rest split ∙ piece)
        go e (goes y piece a live) = behind 340282366920938463463374607431768211455 (last-piece code slots table.numbered n p v.segments are ∙ piece)
        go e (phi piece a) = behind 340282366920938463463374607431768211455 (last-piece code slots table.numbered n p v.segments are ∙ piece)

    within : (k : ℕ) (s : Begun) → slice_get v.segments k ≡ Some s → end_rank slots (end_in v k) < exit_rank slots s.start
    within k s there = ends-in k (end_in v k) (ended n p k).counts s there

    pub piece-there : (e : Extent) → Member e (extents_in x n p) → IsPiece v e
    piece-there e m = subst (λ w. IsPiece w e) (seen-is rows n p) (some-piece (find_cell p (cells_of rows n)) e m)

    there-piece : (e : Extent) → IsPiece v e → Member e (extents_in x n p)
    there-piece e h = piece-some (find_cell p (cells_of rows n)) e (subst (λ w. IsPiece w e) (sym (seen-is rows n p)) h)

    covered : (at : ℕ) → list_any (covers slots at) (extents_in x n p) ≡ held_at slots v at
    covered at = same-test (list_any (covers slots at) (extents_in x n p)) (held_at slots v at)
        (λ h. let z = any-of (covers slots at) (extents_in x n p) h in piece-held slots v rises within at z.1 (piece-there z.1 (slice-member (extents_in x n p) z.0 z.1 z.2)) z.3)
        (λ h. let z = held-piece slots v rises within at h in any-in (covers slots at) z.0 (extents_in x n p) (there-piece z.0 z.1) z.2)

    filled : (e : Extent) → IsPiece v e → first_rank slots e ≤ last_rank slots e
    filled e (at_start never same) = let g = ap (first_rank slots) same in omega (arith, g)
    filled e (at_writing k s there same) = subst (λ y. first_rank slots y ≤ last_rank slots y) (sym same) (let low = number-le slots s in omega (arith, low))

    -- outside of the function no lane has pieces
    inside : (e : Extent) → IsPiece v e → (o : Option Block) → slice_get f.blocks p ≡ o → (b : Block) × (o ≡ Some b)
    inside e h (Some b) g = (b, refl)
    inside e h None g = absurd (go h)
      where
        none : slice_get code p ≡ None
        none = no-body (doing_of t f num) (λ m. place_of m f.blocks) f.blocks 0 f.blocks p g

        no-steps : steps_of code p ≡ []
        no-steps = ap some_steps none

        no-exits : exits_of code p ≡ []
        no-exits = ap (λ (o : Option Body). elim o [ None ↦ [] | Some y ↦ y.exits ]) none

        no-last : last_of code p ≡ []
        no-last = ap (λ (o : Option Body). elim o [ None ↦ [] | Some y ↦ y.last ]) none

        split-none : (before : List Step) (s : Step) (rest : List Step) → steps_of code p ≡ before ++ s ∷ rest → ⊥
        split-none [] s rest q = let z : [] ≡ s ∷ rest = sym no-steps ∙ q in cc
        split-none (y ∷ before) s rest q = let z : [] ≡ y ∷ (before ++ s ∷ rest) = sym no-steps ∙ q in cc

        counted : (k : ℕ) (e : PieceEnd) → Counts code (causes rows) n p k e → ⊥
        counted k e (reads before s rest split piece used) = split-none before s rest split
        counted k e (moves a before s rest split piece used live) = split-none before s rest split
        counted k e (leaves y before s rest split piece out a live) = split-none before s rest split
        counted k e (goes y piece a live) = none-among y (subst (Among y) no-exits a)
        counted k e (phi piece a) = none-among n (subst (Among n) no-last a)

        ending : is_never v.end ≡ false → (v.end ≡ ends.Never) ⊎ Counts code (causes rows) n p 0 v.end → ⊥
        ending never (inl q) = let z : true ≡ false = sym (ap is_never q) ∙ never in cc
        ending never (inr c) = counted 0 v.end c

        go : IsPiece v e → ⊥
        go (at_start never same) = ending never (ended n p 0).counts
        go (at_writing k s there same) =
            let z : slice_get (map start_of v.segments) k ≡ Some (start_of s) = slice-map start_of v.segments k ∙ ap (option_map start_of) there in
            none-there (map start_of v.segments) k (start_of s) (are ∙ ap (starts n) no-steps) z

    module _ (b : Block) (at : slice_get f.blocks p ≡ Some b) where
      abbrev step : Instr → Step
      step i = (doing_of t f num i).0

      steps-are : steps_of code p ≡ map step b.instrs
      steps-are = ap some_steps (the-body (doing_of t f num) (λ m. place_of m f.blocks) f.blocks 0 f.blocks p b at).1

      at-entry : (i : Instr) → Member i b.instrs → Member (Entry i.id) (block_points b)
      at-entry i m = later (flat-in (λ (c : Instr). Entry c.id ∷ Exit c.id ∷ []) (Entry i.id) i b.instrs m first)

      at-exit : (i : Instr) → Member i b.instrs → Member (Exit i.id) (block_points b)
      at-exit i m = later (flat-in (λ (c : Instr). Entry c.id ∷ Exit c.id ∷ []) (Exit i.id) i b.instrs m (later first))

      instr-of : (s : Begun) (k : ℕ) → slice_get v.segments k ≡ Some s → (i : Instr) × Member i b.instrs × (i.id ≡ s.start)
      instr-of s k there =
          let starting : slice_get (map start_of v.segments) k ≡ Some (start_of s) = slice-map start_of v.segments k ∙ ap (option_map start_of) there in
          let z = begun-by n (map step b.instrs) k (start_of s) (subst (λ ss. slice_get ss k ≡ Some (start_of s)) (are ∙ ap (starts n) steps-are) starting) in
          let y = mapped-of step (slice_get b.instrs z.0) z.1 (sym (slice-map step b.instrs z.0) ∙ z.2) in
          (y.0, slice-member b.instrs z.0 y.0 y.1, sym (z.3 ∙ ap (λ w. w.id) y.2))

      begins : (e : Extent) → IsPiece v e → IsRank slots b (first_rank slots e)
      begins e (at_start never same) = (Start b.number, first, sym (ap (first_rank slots) same))
      begins e (at_writing k s there same) =
          let i = instr-of s k there in
          let entry = ap (entry_rank slots) i.2 in
          let exit = ap (exit_rank slots) i.2 in
          subst (λ y. IsRank slots b (first_rank slots y)) (sym same) (go i.0 i.1 entry exit s.early)
        where
          go : (i : Instr) → Member i b.instrs → entry_rank slots i.id ≡ entry_rank slots s.start → exit_rank slots i.id ≡ exit_rank slots s.start → (u : Bool) → IsRank slots b (cond u (entry_rank slots s.start) (exit_rank slots s.start))
          go i m entry exit true = (Entry i.id, at-entry i m, entry)
          go i m entry exit false = (Exit i.id, at-exit i m, exit)

pub covered-law : CoveredLaw
covered-law t f x computed rules last = record {
  covered = λ n p at. covered t f x computed rules last n p at;
  filled = λ n p e m. filled t f x computed rules last n p e (piece-there t f x computed rules last n p e m);
  begins = λ n p e m.
      let h = piece-there t f x computed rules last n p e m in
      let b = inside t f x computed rules last n p e h (slice_get f.blocks p) refl in
      (b.0, b.1, begins t f x computed rules last n p b.0 b.1 e h);
}
