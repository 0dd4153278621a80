-- What the table tells of the lanes of ranges at an instruction.
use Rattle.std.proofs.Common.{◌≡◌, ◌∙◌, ℕ, true, false, cond, List, [], ◌∷◌, Option, Some, None, map, refl, sym, ap, subst, arith}
use Rattle.std.specs.Prelude.{Decides, is_some, slice_get, slice_index}
use Rattle.std.specs.List.{cons_option}
use Rattle.std.proofs.lemmas.Option.{same_Some}
use Rattle.target_base.specs.declared.types.Target.{Target}
use Rattle.meaning.specs.declared.types.Lane.{Lane}
use Rattle.meaning.specs.declared.types.Lane.TheVariants.{VirtualLane}
use Rattle.meaning.specs.Code.{Item, Silent}
use Rattle.meaning.specs.Live.{Among as Member, Writing, WritingEarly}
use Rattle.mir_func.specs.declared.func.Block.{Block}
use Rattle.mir_func.specs.declared.func.Instr.{Instr}
use Rattle.mir_func.specs.Value.{Function}
use Rattle.mir_meaning.specs.Codes.{item_of}
use Rattle.mir_meaning.specs.Items.{defined_undef}
use Rattle.mir_meaning.specs.Paths.{Among, has}
use Rattle.mir_meaning.specs.Paths as law
use Rattle.mir_meaning.specs.Points.{AtFirst, Entry, Exit, LiveAt, from_instr, point_item}
use Rattle.instr_effects.specs.declared.owner.Owner.TheVariants as owners
use Rattle.instr_effects.specs.Numbered.{number_in}
use Rattle.instr_effects.proofs.Members.{map-in}
use Rattle.live_lanes.specs.declared.ask.extent.Extent.{Extent}
use Rattle.live_lanes.specs.declared.live.LiveFunc.{LiveFunc}
use Rattle.live_lanes.specs.Ends.{row_at}
use Rattle.live_lanes.specs.Entered.{rows_seen}
use Rattle.live_lanes.specs.Extents.{block_extent}
use Rattle.live_lanes.specs.Looks.{entry_at, exit_at}
use Rattle.live_lanes.specs.Ordered.{ids_of}
use Rattle.live_lanes.specs.Reach.{seen_at}
use Rattle.live_lanes.specs.Table.{Begun, Numbers, Seen, entry_rank, exit_rank, piece_at}
use Rattle.live_lanes.specs.Touching.{begun_at, begun_by, is_early}
use Rattle.live_lanes.proofs.ExtentLists.{begun_extent, extents-rows}
use Rattle.live_laws.specs.Acts.{AtInstr, TellsActs}
use Rattle.live_laws.specs.Effects.Coded.{IsNumbered, spot_in}
use Rattle.live_laws.specs.Exact.Laws.{TellsInside}
use Rattle.live_laws.proofs.Acts.Told.{acts-law}
use Rattle.live_laws.proofs.Acts.Within.{begins-law}
use Rattle.live_laws.proofs.Effects.Blocks.{among-of, slice-member}
use Rattle.live_laws.proofs.Exact.Everywhere.{spot-at}
use Rattle.live_laws.proofs.Exact.Inside.{has-id, inside-law, numbered}
use Rattle.live_laws.proofs.Exact.Occupied.{ranked}
use Rattle.live_laws.proofs.Exact.Spots.{Spot, ahead, first-is, spot}
use Rattle.live_edits.proofs.JoiningMembers.{instr-member}
use Rattle.join_laws.proofs.Named.{known, not-phi}
use Rattle.coalescer.specs.Asked.{is_written_at}
use Rattle.coalescer.specs.Coalescing.{MayCoalesce, instr_of}
use Rattle.coalescer.proofs.Facts.{in-order}
use Rattle.coalescer.proofs.Found.{found-own}
use Rattle.coalescer.proofs.QuietRows.{begun-of, found-begun, has-instr, own-written, same-id, written-begun}

among-rest : (o : Option Extent) (e : Extent) (xs : List Extent) → Among e xs → Among e (cons_option o xs)
among-rest None e xs m = m
among-rest (Some y) e xs m = law.there m

has-some : {X : Type 0} (q : Option X) → is_some q ≡ true → (y : X) × (q ≡ Some y)
has-some None h = absurd (cc)
has-some (Some y) h = (y, refl)

module _ (t : Target) (x : LiveFunc) (may : MayCoalesce t x) where
  abbrev f : Function
  f = x.func

  abbrev slots : Numbers
  slots = x.table.order.slots

  -- a lane in a block
  abbrev row : ℕ → ℕ → Seen
  row n p = rows_seen x.table.rows.rows.items n p

  inside : TellsInside t f x.table
  inside = inside-law t f x.table may.computed may.lowered.rules may.lowered.terminators

  acts : TellsActs t f x.table
  acts = acts-law t f x.table may.computed may.lowered.rules may.lowered.terminators

  -- a writing begins with an instruction of its block

  within : (n p : ℕ) (s : Begun) → Member s (row n p).segments → (b : Block) × (slice_get f.blocks p ≡ Some b) × (has s.start (ids_of b.instrs) ≡ true)
  within n p s m =
      begins-law t f x.table may.computed may.lowered.rules may.lowered.terminators n p (begun_extent s)
      (subst (Among (begun_extent s)) (sym (extents-rows x.table n p)) (among-rest (block_extent (row n p).end) (begun_extent s) (map begun_extent (row n p).segments) (among-of (begun_extent s) (map begun_extent (row n p).segments) (map-in begun_extent s (row n p).segments m))))

  pub begun-instr : (n p : ℕ) (s : Begun) → Member s (row n p).segments → (b : Block) × (q : ℕ) × (i : Instr) × (slice_get f.blocks p ≡ Some b) × (slice_get b.instrs q ≡ Some i) × (i.id ≡ s.start)
  begun-instr n p s m =
      let z = within n p s m in
      let y = has-instr s.start z.0.instrs z.2 in
      (z.0, y.0, y.1, z.1, y.2, y.3)

  module _ (p q : ℕ) (b : Block) (i : Instr) (place : slice_get f.blocks p ≡ Some b) (there : slice_get b.instrs q ≡ Some i) where
    in-block : Member i b.instrs
    in-block = slice-member b.instrs q i there

    -- the instruction is the first one of its id
    pub found-here : instr_of f i.id ≡ Some i
    found-here = found-own f i may.lowered.function (instr-member b i f.blocks (slice-member f.blocks p b place) in-block)

    at-home : slice_index x.table.order.block_of.items i.id ≡ p
    at-home = may.computed.homes p b i.id place (has-id b.instrs q i there)

    found : (k : ℕ) × (spot_in i.id f.blocks ≡ Some (p, k))
    found = spot-at t f x.table may.computed may.lowered.rules may.lowered.terminators p b i place in-block

    here : Spot t f i.id f.blocks p found.0
    here = spot t f i.id f.blocks p found.0 found.1

    same-block : here.block ≡ b
    same-block = same_Some here.block b (sym here.place ∙ place)

    same-instr : here.instr ≡ i
    same-instr =
        let m = instr-member here.block here.instr f.blocks (slice-member f.blocks p here.block here.place) (slice-member here.block.instrs found.0 here.instr here.there) in
        same_Some here.instr i (sym (found-own f here.instr may.lowered.function m) ∙ (ap (instr_of f) here.named ∙ found-here))

    item-same : point_item t f b i ≡ item_of t f b i
    unfolding point_item
    item-same = ap (λ u. cond u (Silent [] (defined_undef t f i.operands)) (item_of t f b i)) (not-phi t i (known t i (may.lowered.lowered b i (slice-member f.blocks p b place) in-block)).1).0

    numbers : IsNumbered t f (number_in x.table.lanes)
    numbers = numbered t f x.table may.computed may.lowered.rules may.lowered.terminators

    -- the code from the instruction on begins with its item
    code-is : (l : Lane) → from_instr t f i.id f.blocks ≡ item_of t f b i ∷ ahead t f (number_in x.table.lanes) may.lowered.rules numbers l i.id p found.0 here
    code-is l =
        first-is t f (number_in x.table.lanes) may.lowered.rules numbers l i.id p found.0 here
        ∙ ap (λ z. z ∷ ahead t f (number_in x.table.lanes) may.lowered.rules numbers l i.id p found.0 here) ((λ k. point_item t f (same-block k) (same-instr k)) ∙ item-same)

    module _ (l : Lane) (P : Item → Type 0) where
      of-item : AtInstr t f i.id (λ z c. P z) → P (item_of t f b i)
      of-item h = subst (AtFirst (λ z c. P z)) (code-is l) h

      by-item : P (item_of t f b i) → AtInstr t f i.id (λ z c. P z)
      by-item h = subst (AtFirst (λ z c. P z)) (sym (code-is l)) h

    module _ (v k : ℕ) where
      abbrev lane : Lane
      lane = VirtualLane v k

      -- a lane without a number isn't live and isn't written

      pub dead-exit : number_in x.table.lanes (owners.Range v k) ≡ None → LiveAt t f (Exit i.id) lane → ⊥
      dead-exit e h = let z : false ≡ true = sym (ap (λ o. exit_at x.table o i.id) e) ∙ (inside.exit lane refl refl i.id p found.0 found.1).1 h in absurd (cc)

      pub dead-entry : number_in x.table.lanes (owners.Range v k) ≡ None → LiveAt t f (Entry i.id) lane → ⊥
      dead-entry e h = let z : false ≡ true = sym (ap (λ o. entry_at x.table o i.id) e) ∙ (inside.entry lane refl i.id p found.0 found.1).1 h in absurd (cc)

      pub unwritten : number_in x.table.lanes (owners.Range v k) ≡ None → Writing (item_of t f b i) lane → ⊥
      unwritten e w = let z : false ≡ true = sym (ap (λ o. is_some (begun_at x.table o i.id)) e) ∙ (acts.written lane refl refl i.id p found.0 found.1).1 (by-item lane (λ z. Writing z lane) w) in absurd (cc)

      module _ (n : ℕ) (number : number_in x.table.lanes (owners.Range v k) ≡ Some n) where
        pub live-exit : Decides (seen_at slots (row n p) (exit_rank slots i.id)) (LiveAt t f (Exit i.id) lane)
        live-exit =
            let z = inside.exit lane refl refl i.id p found.0 found.1 in
            let e : exit_at x.table (number_in x.table.lanes (owners.Range v k)) i.id ≡ seen_at slots (row n p) (exit_rank slots i.id) = ap (λ o. exit_at x.table o i.id) number ∙ ap (λ h. row_at slots x.table.rows.rows.items n h (exit_rank slots i.id)) at-home in
            ((λ h. z.0 (e ∙ h)), (λ h. sym e ∙ z.1 h))

        pub live-entry : Decides (seen_at slots (row n p) (entry_rank slots i.id)) (LiveAt t f (Entry i.id) lane)
        live-entry =
            let z = inside.entry lane refl i.id p found.0 found.1 in
            let e : entry_at x.table (number_in x.table.lanes (owners.Range v k)) i.id ≡ seen_at slots (row n p) (entry_rank slots i.id) = ap (λ o. entry_at x.table o i.id) number ∙ ap (λ h. row_at slots x.table.rows.rows.items n h (entry_rank slots i.id)) at-home in
            ((λ h. z.0 (e ∙ h)), (λ h. sym e ∙ z.1 h))

        begun-is : begun_at x.table (number_in x.table.lanes (owners.Range v k)) i.id ≡ begun_by i.id (row n p).segments
        begun-is = ap (λ o. begun_at x.table o i.id) number ∙ ap (λ h. begun_by i.id (row n h).segments) at-home

        begins : Decides (is_some (begun_by i.id (row n p).segments)) (Writing (item_of t f b i) lane)
        begins =
            let z = acts.written lane refl refl i.id p found.0 found.1 in
            let e = ap (λ o. is_some o) begun-is in
            ((λ h. of-item lane (λ w. Writing w lane) (z.0 (e ∙ h))), (λ h. sym e ∙ z.1 (by-item lane (λ w. Writing w lane) h)))

        begins-early : Decides (is_early (begun_by i.id (row n p).segments)) (WritingEarly (item_of t f b i) lane)
        begins-early =
            let z = acts.early lane refl refl i.id p found.0 found.1 in
            let e = ap is_early begun-is in
            ((λ h. of-item lane (λ w. WritingEarly w lane) (z.0 (e ∙ h))), (λ h. sym e ∙ z.1 (by-item lane (λ w. WritingEarly w lane) h)))

        -- a writing that begins with the instruction is one of its item, and early just where one of these is

        found-as : (s : Begun) → Member s (row n p).segments → i.id ≡ s.start → begun_by i.id (row n p).segments ≡ Some s
        found-as s m own = ap (λ k. begun_by k (row n p).segments) own ∙ found-begun slots 0 (row n p).segments s (in-order t x may n p) m

        pub begun-writes : (s : Begun) → Member s (row n p).segments → i.id ≡ s.start → Writing (item_of t f b i) lane
        begun-writes s m own = begins.0 (ap (λ o. is_some o) (found-as s m own))

        pub begun-early : (s : Begun) → Member s (row n p).segments → i.id ≡ s.start → Decides s.early (WritingEarly (item_of t f b i) lane)
        begun-early s m own = let e = ap is_early (found-as s m own) in ((λ h. begins-early.0 (e ∙ h)), (λ w. sym e ∙ begins-early.1 w))

        -- and each writing of its item begins one
        pub writes-begun : Writing (item_of t f b i) lane → (s : Begun) × Member s (row n p).segments × (i.id ≡ s.start)
        writes-begun w =
            let z = has-some (begun_by i.id (row n p).segments) (begins.1 w) in
            let y = begun-of slots i.id (row n p).segments z.0 z.1 in
            (z.0, y.0, sym y.1)

        -- so the lane is written at its exit just where the item writes it
        pub written-exit : Decides (is_written_at slots (row n p) (exit_rank slots i.id)) (Writing (item_of t f b i) lane)
        written-exit = (forth, back)
          where
            forth : is_written_at slots (row n p) (exit_rank slots i.id) ≡ true → Writing (item_of t f b i) lane
            forth h =
                let z = written-begun slots (exit_rank slots i.id) (row n p).segments (piece_at slots (exit_rank slots i.id) (row n p).segments) h in
                let y = within n p z.0 z.1 in
                let block : y.0 ≡ b = same_Some y.0 b (sym y.1 ∙ place) in
                let in-it : has z.0.start (ids_of b.instrs) ≡ true = subst (λ (c : Block). has z.0.start (ids_of c.instrs) ≡ true) block y.2 in
                let rank = z.2 in
                let same : i.id ≡ z.0.start = same-id slots 0 (ids_of b.instrs) i.id z.0.start (ranked t f x.table may.computed may.lowered.rules may.lowered.terminators p b place) (has-id b.instrs q i there) in-it (omega (arith, rank)) in
                begun-writes z.0 z.1 same

            back : Writing (item_of t f b i) lane → is_written_at slots (row n p) (exit_rank slots i.id) ≡ true
            back w =
                let z = writes-begun w in
                subst (λ k. is_written_at slots (row n p) (exit_rank slots k) ≡ true) (sym z.2) (own-written slots 0 (row n p).segments z.0 (in-order t x may n p) z.1)
