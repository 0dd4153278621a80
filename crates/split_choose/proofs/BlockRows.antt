-- What a row of a register's net tells of its block: the nodes are those of the block's borders and of its inside.
use Rattle.std.proofs.Common.{◌≡◌, ◌∙◌, ◌⊎◌, inl, inr, ℕ, suc, ◌+◌, ◌*◌, ◌<◌, List, [], ◌∷◌, Bool, true, false, cond, refl, sym, ap, length, arith, Option, None, Some, option_map}
use Rattle.std.specs.Prelude.{◌&&◌, not, slice_get, slice_index_or, nat_eq}
use Rattle.std.specs.List.{list_any}
use Rattle.std.proofs.lemmas.Bool.{cases_eq, eq-eqb, ne_eqb}
use Rattle.std.proofs.lemmas.Option.{slice_get_within}
use Rattle.target_base.specs.declared.types.Target.{Target}
use Rattle.target_base.specs.declared.types.Reg.{Reg}
use Rattle.mir_func.specs.declared.func.Block.{Block}
use Rattle.mir_func.specs.Value.{Function}
use Rattle.mir_meaning.specs.Points.{block_points}
use Rattle.split_choose.specs.declared.spans.Span.{Span}
use Rattle.split_choose.specs.declared.nets.BlockNodes.{BlockNodes}
use Rattle.split_choose.specs.Bundles.{start_of, end_of, are_joined, ArePlaced, AreEarlier}
use Rattle.split_choose.specs.Nets.{count_below, is_free, node_of, node_if, row_of, rows_from}
use Rattle.split_choose.specs.Nets.{has_inside as span_inside}
use Rattle.split_choose.specs.Placings.{net_rows}
use Rattle.split_choose.specs.Offers.{View, Border, In, Out, is_clear, operands_in, terminators}
use Rattle.split_choose.specs.Counted.{AreCounted}
use Rattle.split_choose.specs.Cuts.{Bundle, Inner, place_by, has_inside, enters, leaves, inside_nodes, number_of}
use Rattle.split_choose.proofs.Telling.{IsTold, IsUntold}
use Rattle.split_choose.proofs.Along.{Along}
use Rattle.split_choose.proofs.Barred.{live-out, others}
use Rattle.split_choose.proofs.Priced.{told-uses, told-ends}
use Rattle.split_choose.proofs.Sizing.{more-below}
use Rattle.split_choose.proofs.Picking.{picked, filter-is, picked-many, picked-place}
use Rattle.split_choose.proofs.FirstBorders.{nodes-many, number-is, named-in, named-out}

some-same : {X : Type 0} (x y : X) → Some x ≡ Some y → x ≡ y
some-same x y e = cc

not-not : (b : Bool) → not (not b) ≡ b
not-not true = refl
not-not false = refl

and-none : (b : Bool) → (b && false) ≡ false
and-none true = refl
and-none false = refl

-- a node where there is one, told by two tests and two numbers
same-node : (b c : Bool) (n m : ℕ) → b ≡ c → (b ≡ true → n ≡ m) → node_if b n ≡ node_if c m
same-node b c n m e same = go b c e same
  where
    go : (b c : Bool) → b ≡ c → (b ≡ true → n ≡ m) → node_if b n ≡ node_if c m
    go true true e same = ap Some (same refl)
    go false false e same = refl
    go true false e same = absurd (let z : true ≡ false = e in cc)
    go false true e same = absurd (let z : false ≡ true = e in cc)

module _ (t : Target) (f : Function) (v : ℕ) (view : View) (freqs : List ℕ) (r : Reg) where
  -- what a row tells of the block at a position
  abbrev pub block_row : ℕ → Block → BlockNodes
  block_row k b = record {
    position = k;
    entry = node_if (enters t f v view r b) (number_of t f v view r (Bundle (In b.number)));
    exit = node_if (leaves t f v view r b) (number_of t f v view r (Bundle (Out b.number)));
    inside = node_if (has_inside t f v view r b) (number_of t f v view r (Inner b.number));
    frequency = slice_index_or freqs k 0;
    uses = slice_index_or freqs k 0 * operands_in t f v view b.instrs;
    end_uses = slice_index_or freqs k 0 * operands_in t f v view (terminators t f v view b);
  }

  -- the row is that of the block at a position
  pub record IsRowAt (k : ℕ) (b : Block) (row : BlockNodes) : Type 0 where
    pub at : slice_get f.blocks k ≡ Some b
    pub same : row ≡ block_row k b

  -- the block at a position has an inside
  abbrev pub inside_at : ℕ → Bool
  inside_at k = elim (slice_get f.blocks k) [ None ↦ false | Some b ↦ has_inside t f v view r b ]

  inside-at : (k : ℕ) (b : Block) → slice_get f.blocks k ≡ Some b → has_inside t f v view r b ≡ inside_at k
  inside-at k b at = sym (ap (λ (o : Option Block). elim o [ None ↦ false | Some c ↦ has_inside t f v view r c ]) at)

  insides-are : inside_nodes t f v view r ≡ picked inside_at 0 f.blocks
  insides-are = filter-is (has_inside t f v view r) inside_at 0 f.blocks (λ j b at. (let e : j ≡ 0 + j = omega arith in inside-at j b at ∙ ap inside_at e))

  -- how many insides there are
  pub insides-many : length (inside_nodes t f v view r) ≡ count_below inside_at (length f.blocks)
  insides-many =
      let many = picked-many inside_at 0 f.blocks in
      let e : 0 + length f.blocks ≡ length f.blocks = omega arith in
      let z : length (picked inside_at 0 f.blocks) ≡ count_below inside_at (0 + length f.blocks) = omega (arith, many) in
      ap length insides-are ∙ (z ∙ ap (count_below inside_at) e)

  -- fewer stand before the block at a position that has one
  pub inside-below : (k : ℕ) (b : Block) → slice_get f.blocks k ≡ Some b → has_inside t f v view r b ≡ true → count_below inside_at k < count_below inside_at (length f.blocks)
  inside-below k b at has = more-below inside_at k (length f.blocks) (slice_get_within f.blocks k b at) (sym (inside-at k b at) ∙ has)

  module _ (placed : ArePlaced f.blocks) where
    -- the place of an inside among them
    pub inner-place : (k : ℕ) (b : Block) → slice_get f.blocks k ≡ Some b → has_inside t f v view r b ≡ true → place_by (λ c. nat_eq c.number b.number) (inside_nodes t f v view r) ≡ count_below inside_at k
    inner-place k b at has =
        let low = slice_get_within f.blocks k b at in
        let z = picked-place (λ (c : Block). nat_eq c.number b.number) inside_at k 0 f.blocks (λ j c got passes. (let e : j ≡ 0 + j = omega arith in mine j c got ∙ ap (nat_eq k) e)) (omega arith) (omega (arith, low)) (sym (inside-at k b at) ∙ has) in
        ap (place_by (λ (c : Block). nat_eq c.number b.number)) insides-are
        ∙ (let y : place_by (λ (c : Block). nat_eq c.number b.number) (picked inside_at 0 f.blocks) ≡ count_below inside_at k = omega (arith, z) in y)
      where
        mine : (j : ℕ) (c : Block) → slice_get f.blocks j ≡ Some c → nat_eq c.number b.number ≡ nat_eq k j
        mine j c got = go (cases_eq k j)
          where
            go : (k ≡ j) ⊎ (k ≡ j → ⊥) → nat_eq c.number b.number ≡ nat_eq k j
            go (inl e) =
                let same : c ≡ b = some-same c b (sym got ∙ (ap (slice_get f.blocks) (sym e) ∙ at)) in
                eq-eqb c.number b.number (ap (λ (d : Block). d.number) same) ∙ sym (eq-eqb k j e)
            go (inr d) = others f.blocks placed k b at j c got (λ e. d (sym e)) ∙ sym (ne_eqb k j d)

    module _ (counted : AreCounted f freqs v) (spans : List Span) (ps : List ℕ) (one : (x y : Border) → view.one_bundle (x, y) ≡ are_joined f.blocks ps (x, y)) (earlier : AreEarlier ps) (clear : Span → Bool)
        (cleared : (k : ℕ) (b : Block) (s : Span) → IsTold t f v view freqs spans k b s → clear s ≡ is_clear t f v view r b)
        (all : Along (λ (s : Span). s.position) (IsTold t f v view freqs spans) (IsUntold t f v view) 0 f.blocks spans) where
      -- the number of the first inside
      abbrev first_inside : ℕ
      first_inside = 2 + count_below (is_free ps clear spans) (2 * length f.blocks)

      has-is : (k : ℕ) (b : Block) (s : Span) → IsTold t f v view freqs spans k b s → span_inside clear s ≡ has_inside t f v view r b
      has-is k b s told =
          ap (λ c. c && not (nat_eq (length s.stretches.items) 0)) (cleared k b s told)
          ∙ ap (λ c. is_clear t f v view r b && c) (ap not told.points ∙ not-not (list_any view.is_point (block_points b)))

      has-none : (k : ℕ) (b : Block) → IsUntold t f v view k b → has_inside t f v view r b ≡ false
      has-none k b untold = ap (λ c. is_clear t f v view r b && c) untold.points ∙ and-none (is_clear t f v view r b)

      entry-is : (k : ℕ) (b : Block) (s : Span) → IsTold t f v view freqs spans k b s → node_if s.is_live_in (node_of ps clear spans (start_of s.position)) ≡ node_if (enters t f v view r b) (number_of t f v view r (Bundle (In b.number)))
      entry-is k b s told = same-node s.is_live_in (enters t f v view r b) _ _ told.live_in number
        where
          number : s.is_live_in ≡ true → node_of ps clear spans (start_of s.position) ≡ number_of t f v view r (Bundle (In b.number))
          number live =
              let low = slice_get_within f.blocks k b told.at in
              let named = named-in t f v view ps placed one earlier freqs spans r clear cleared all k b told.at (sym told.live_in ∙ live) in
              ap (λ n. node_of ps clear spans (start_of n)) told.position
              ∙ number-is t f v view ps placed one earlier freqs spans r clear cleared all (In b.number) (start_of k) (ap (option_map start_of) (placed k b told.at)) (omega (arith, low)) named

      exit-is : (k : ℕ) (b : Block) (s : Span) → IsTold t f v view freqs spans k b s → node_if s.is_live_out (node_of ps clear spans (end_of s.position)) ≡ node_if (leaves t f v view r b) (number_of t f v view r (Bundle (Out b.number)))
      exit-is k b s told = same-node s.is_live_out (leaves t f v view r b) _ _ (told.live_out ∙ sym (live-out t f v view ps placed one k b told.at)) number
        where
          number : s.is_live_out ≡ true → node_of ps clear spans (end_of s.position) ≡ number_of t f v view r (Bundle (Out b.number))
          number live =
              let low = slice_get_within f.blocks k b told.at in
              let named = named-out t f v view ps placed one earlier freqs spans r clear cleared all k b told.at (live-out t f v view ps placed one k b told.at ∙ (sym told.live_out ∙ live)) in
              ap (λ n. node_of ps clear spans (end_of n)) told.position
              ∙ number-is t f v view ps placed one earlier freqs spans r clear cleared all (Out b.number) (end_of k) (ap (option_map end_of) (placed k b told.at)) (omega (arith, low)) named

      inside-is : (k : ℕ) (b : Block) (s : Span) (next : ℕ) → IsTold t f v view freqs spans k b s → next ≡ first_inside + count_below inside_at k → node_if (span_inside clear s) next ≡ node_if (has_inside t f v view r b) (number_of t f v view r (Inner b.number))
      inside-is k b s next told low = same-node (span_inside clear s) (has_inside t f v view r b) _ _ (has-is k b s told) number
        where
          number : span_inside clear s ≡ true → next ≡ number_of t f v view r (Inner b.number)
          number has =
              let many = nodes-many t f v view ps placed one earlier freqs spans r clear cleared all in
              let place = inner-place k b told.at (sym (has-is k b s told) ∙ has) in
              omega (arith, low, many, place)

      row-is : (k : ℕ) (b : Block) (s : Span) (next : ℕ) → IsTold t f v view freqs spans k b s → next ≡ first_inside + count_below inside_at k → row_of (node_of ps clear spans) (span_inside clear s) next s ≡ block_row k b
      row-is k b s next told low =
          let position = told.position in
          let entry = entry-is k b s told in
          let exit = exit-is k b s told in
          let inside = inside-is k b s next told low in
          let frequency = told.frequency in
          let uses = told-uses t f v view freqs counted spans k b s told in
          let end_uses = told-ends t f v view freqs counted spans k b s told in
          cc

      step : (k : ℕ) (b : Bool) → inside_at k ≡ b → count_below inside_at (suc k) ≡ count_below inside_at k + cond b 1 0
      step k b e = ap (λ c. count_below inside_at k + cond c 1 0) e

      next-is : (b : Bool) (k next : ℕ) → inside_at k ≡ b → next ≡ first_inside + count_below inside_at k → cond b (next + 1) next ≡ first_inside + count_below inside_at (suc k)
      next-is true k next e low = let s = step k true e in omega (arith, s, low)
      next-is false k next e low = let s = step k false e in omega (arith, s, low)

      rows-along : (k next : ℕ) (bs : List Block) (ss : List Span) → next ≡ first_inside + count_below inside_at k → Along (λ (s : Span). s.position) (IsTold t f v view freqs spans) (IsUntold t f v view) k bs ss
          → Along (λ (row : BlockNodes). row.position) IsRowAt (IsUntold t f v view) k bs (rows_from (node_of ps clear spans) (span_inside clear) next ss)
      rows-along k next [] ss low a = ap (rows_from (node_of ps clear spans) (span_inside clear) next) a
      rows-along k next (b ∷ bs) ss low a = go a (λ after rest. rows-along (suc k) after bs rest)
        where
          go : Along (λ (s : Span). s.position) (IsTold t f v view freqs spans) (IsUntold t f v view) k (b ∷ bs) ss
              → ((after : ℕ) (rest : List Span) → after ≡ first_inside + count_below inside_at (suc k) → Along (λ (s : Span). s.position) (IsTold t f v view freqs spans) (IsUntold t f v view) (suc k) bs rest
              → Along (λ (row : BlockNodes). row.position) IsRowAt (IsUntold t f v view) (suc k) bs (rows_from (node_of ps clear spans) (span_inside clear) after rest))
              → Along (λ (row : BlockNodes). row.position) IsRowAt (IsUntold t f v view) k (b ∷ bs) (rows_from (node_of ps clear spans) (span_inside clear) next ss)
          go (inl (none, rest)) ih = inl (none, ih next ss (next-is false k next (sym (inside-at k b none.at) ∙ has-none k b none) low) rest)
          go (inr (s, more, e, told, rest)) ih =
              let after = cond (span_inside clear s) (next + 1) next in
              inr (
                row_of (node_of ps clear spans) (span_inside clear s) next s,
                rows_from (node_of ps clear spans) (span_inside clear) after more,
                ap (rows_from (node_of ps clear spans) (span_inside clear) next) e,
                record { at = told.at; same = row-is k b s next told low },
                ih after more (ap (λ c. cond c (next + 1) next) (has-is k b s told) ∙ next-is (has_inside t f v view r b) k next (sym (inside-at k b told.at)) low) rest,
              )

      -- block by block there is a row, or nothing of the range
      pub net-along : Along (λ (row : BlockNodes). row.position) IsRowAt (IsUntold t f v view) 0 f.blocks (net_rows ps clear spans (2 * length f.blocks))
      net-along = rows-along 0 first_inside f.blocks spans (omega arith) all

      -- a block in which the range has nothing has no inside
      pub inside-none : (k : ℕ) (b : Block) → IsUntold t f v view k b → has_inside t f v view r b ≡ false
      inside-none k b untold = has-none k b untold
