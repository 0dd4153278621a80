-- Other ranges, units and slots are live in a function with a range split where they were.
use Rattle.std.proofs.Common.{◌≡◌, ◌<◌, ◌≤◌, ◌+◌, ◌⊎◌, inl, inr, not, ◌&&◌, ◌++◌, ◌∙◌, ℕ, suc, Bool, true, false, cond, List, [], ◌∷◌, Some, None, map, drop, length, replicate, refl, sym, ap, subst, arith, append_assoc, eqb-true}
use Rattle.std.specs.Prelude.{nat_eq, nat_lt, option_map}
use Rattle.std.proofs.lemmas.Bool.{lt-ltb, ne_eqb}
use Rattle.std.proofs.lemmas.Bool.Decides.{nat_tests}
use Rattle.target_base.specs.declared.types.Target.{Target}
use Rattle.target_base.specs.Numbers.{op_number}
use Rattle.target_base.specs.Rules.{is_phi}
use Rattle.meaning.specs.Code.{BlockEnd, BlockStart, Code, Counted, Item, Silent, found}
use Rattle.meaning.specs.Lanes.{Writes}
use Rattle.meaning.specs.Layout.{LaidOut}
use Rattle.meaning.specs.Matched.{images}
use Rattle.meaning.specs.Live.{Among as Member, Live}
use Rattle.meaning.specs.declared.types.Lane.{Lane}
use Rattle.meaning.specs.declared.types.Lane.TheVariants.{SlotLane, UnitLane, VirtualLane}
use Rattle.mir_func.specs.declared.func.Operand.{Operand}
use Rattle.mir_func.specs.declared.func.Instr.{Instr}
use Rattle.mir_func.specs.declared.func.Block.{Block}
use Rattle.mir_func.specs.Value.{Function}
use Rattle.mir_func.specs.Edits.{instr_place, made}
use Rattle.mir_func.specs.Binding.{class_of, does, is_terminator, passes}
use Rattle.mir_meaning.specs.Registers.{is_reserved, numbers, range_widths}
use Rattle.mir_meaning.specs.Codes.{block_end, blocks_code, fallen_into, way, ways_out}
use Rattle.mir_meaning.specs.Points.{Entry, Exit, Point, Start, Tests, block_rest, from_instr, has_instr, has_no_phis, point_item, points_of}
use Rattle.mir_meaning.specs.Renaming.{renamed_instr, renamed_item}
use Rattle.instr_effects.proofs.Members.{member-none}
use Rattle.live_lanes.specs.declared.ask.labels.Mark.{Mark}
use Rattle.live_laws.proofs.Effects.Blocks.{items-past}
use Rattle.split_kit.specs.Split.{RangeLive, as_part, block_split, blocks_split, changed, greatest_label, instrs_split, label_behind, last_point, number_behind, part, split_by, start_label, whole}
use Rattle.split_laws.specs.Laws.{AllMeet, IsOther, IsPointOf, LabelsAgree, Meets, SplitKeepsOthers, IsSame, IsShared, SplitSharesRange}
use Rattle.split_laws.proofs.Suits.{Suits}
use Rattle.split_laws.proofs.Passing.{IsBody}
use Rattle.split_laws.proofs.Copies.{moves, moves-other}
use Rattle.split_laws.proofs.Ends.{copy-effect, copy-item}
use Rattle.split_laws.proofs.Homes.{home-named, labels-agree, lane_home}
use Rattle.split_laws.proofs.Labels.{behind-fits, start-fits}
use Rattle.split_laws.proofs.Facing.{At, Facing, Lead, Leads, Still, at-both, at-none, entry-same, exit-same, faces, start-same, entry-occupied, entry-shares, exit-occupied, exit-shares, start-shares}
use Rattle.split_laws.proofs.Splitting.{Keeping, as-item, bare-ways, blocks-without-phis, carried, copy-moves, end-live, end-same, entry-live, keep-all, keep-tail, laid-end, laid-items, meets-agree, map-append, member-behind, named-item, no-phis, not-phi, point-body, suits}

-- the code from the instruction of an id on, which p follows; else another
abbrev rest_from : (Instr → Item) → ℕ → List Instr → Code → Code → Code
rest_from item id [] p other = other
rest_from item id (i ∷ is) p other = cond (nat_eq i.id id) (map item (i ∷ is) ++ p) (rest_from item id is p other)

lt-suc : (a b : ℕ) → nat_lt (suc a) (suc b) ≡ nat_lt a b
lt-suc a b = grind (arith, nat_tests)

rest-is : (item : Instr → Item) (id : ℕ) (is : List Instr) (p other : Code) → cond (nat_lt (instr_place id is) (length is)) (map item (drop (instr_place id is) is) ++ p) other ≡ rest_from item id is p other
rest-is item id [] p other = refl
rest-is item id (i ∷ is) p other = go (nat_eq i.id id) (rest-is item id is p other)
  where
    more : 1 + instr_place id is ≡ suc (instr_place id is)
    more = omega arith

    go : (u : Bool) → cond (nat_lt (instr_place id is) (length is)) (map item (drop (instr_place id is) is) ++ p) other ≡ rest_from item id is p other → cond (nat_lt (cond (not u) (1 + instr_place id is) 0) (length (i ∷ is))) (map item (drop (cond (not u) (1 + instr_place id is) 0) (i ∷ is)) ++ p) other ≡ cond u (map item (i ∷ is) ++ p) (rest_from item id is p other)
    go true ih = ap (λ b. cond b (map item (i ∷ is) ++ p) other) (lt-ltb 0 (length (i ∷ is)) (omega arith))
    go false ih =
        ap (λ n. cond (nat_lt n (length (i ∷ is))) (map item (drop n (i ∷ is)) ++ p) other) more
        ∙ (ap (λ b. cond b (map item (drop (suc (instr_place id is)) (i ∷ is)) ++ p) other) (lt-suc (instr_place id is) (length is)) ∙ ih)

body-leads : (t : Target) (f : Function) (v count : ℕ) (C D : Code) (begin : ℕ → ℕ) (to : ℕ) (i : Item) → IsBody (is_reserved t) C (λ n. images (lane_home f v count (begin n))) (images (lane_home f v count to)) i → Leads t f v count C D begin to i
body-leads t f v count C D begin to (BlockStart n) b = absurd b
body-leads t f v count C D begin to (BlockEnd falls exits) b = absurd b
body-leads t f v count C D begin to (Silent reads ws) b = (tt, (λ e m. absurd (member-none e m)))
body-leads t f v count C D begin to (Counted r reads ws target exits) b = (b.0.1, b.1)

other-id : (n id k : ℕ) → n ≤ k → id < n → nat_eq k id ≡ false
other-id n id k h g = ne_eqb k id (λ e. omega arith)

module _ (t : Target) (f g : Function) (v : ℕ) (ms : List Mark) (live : Point → Bool) (tests : Tests (RangeLive t f v) live) (low : Suits t f) (meet : LabelsAgree t f v ms) (classes : g.classes ≡ f.classes ++ replicate (greatest_label ms + 1) (class_of f v)) (none' : has_no_phis t g.blocks ≡ true) where
  abbrev count : ℕ
  count = greatest_label ms + 1

  abbrev C : Code
  C = points_of t f

  abbrev D : Code
  D = points_of t g

  abbrev begin : ℕ → ℕ
  begin n = start_label ms n

  abbrev R : Lane → Bool
  R = is_reserved t

  abbrev M : ℕ → Lane → Lane
  M label = lane_home f v count label

  abbrev Faces : ℕ → Code → Code → Type 0
  Faces label p r = Facing t f v count C D begin label p r

  abbrev Keeps : Code → Type 0
  Keeps p = Keeping t f g v ms live tests low meet p

  abbrev copies-of : ℕ → ℕ → Writes
  copies-of from to = moves (part f to) (part f from) (numbers 0 (length (range_widths t f v)))

  abbrev operands-of : ℕ → ℕ → List Operand
  operands-of from to = whole true (part f to) ∷ whole false (part f from) ∷ []

  copy-point : (c : Block) (id from to : ℕ) → from < count → to < count → point_item t g c (made id (op_number 0) (operands-of from to)) ≡ Silent [] (copies-of from to)
  copy-point c id from to h k =
      as-item t g c (made id (op_number 0) (operands-of from to)) (ap (passes is_phi) (copy-effect t id (operands-of from to)))
      ∙ (copy-item t g c id (operands-of from to) ∙ ap (Silent []) (copy-moves t f g v ms live tests low meet classes none' from to h k))

  still : (from to : ℕ) → Still t f v count C D begin (copies-of from to)
  still from to = record {
    units = λ u. moves-other (part f to) (part f from) (numbers 0 (length (range_widths t f v))) (UnitLane u) (λ j. refl);
    slots = λ s k w. moves-other (part f to) (part f from) (numbers 0 (length (range_widths t f v))) (SlotLane s k w) (λ j. refl);
  }

  abbrev Pair : Code → Code → Type 0
  Pair p r = At t f v count C D begin p r

  chosen : (x : Bool) {p q r s : Code} → Pair p q → Pair r s → Pair (cond x p r) (cond x q s)
  chosen true y z = y
  chosen false y z = z

  -- where the label changes
  lead-change :
      (c : Block) (p q : Code) → Keeps p → (id : ℕ) (point : Point) (from to : ℕ) → from < count → to < count → ((k : ℕ) → Live R C p (VirtualLane v k) → RangeLive t f v point) →
      Lead t f v count C D begin from to p q (map (point_item t g c) (changed f id (live point) from to) ++ q)
  lead-change c p q keep id point from to h k told = go (live point) refl (nat_eq from to) refl
    where
      go : (a : Bool) → live point ≡ a → (e : Bool) → nat_eq from to ≡ e → Lead t f v count C D begin from to p q (map (point_item t g c) (cond (a && not e) (made id (op_number 0) (operands-of from to) ∷ []) []) ++ q)
      go false x e y = inl (refl, labels-agree f v count t C p from to (λ j l. absurd (let z : live point ≡ true = (tests point).1 (told j l) in cc)))
      go true x true y = inl (refl, labels-agree f v count t C p from to (λ j l. eqb-true from to y))
      go true x false y = inr (copies-of from to, ap (λ i. i ∷ q) (copy-point c id from to h k), still from to, (λ a l. carried t f g v ms live tests low meet classes none' from to k p keep a l))

  module _ (pre : List Block) (b : Block) (after : List Block) (blocks : pre ++ b ∷ after ≡ f.blocks) (c : Block) (number : c.number ≡ b.number) (successors : c.successors ≡ b.successors) (rest' : Code) where
    mb : Member b f.blocks
    mb = member-behind pre b after f.blocks blocks

    abbrev end : Code
    end = block_end t f b after ∷ blocks_code (point_item t f) t f after

    abbrev end' : Code
    end' = block_end t f b after ∷ rest'

    abbrev from-place : List Instr → Code
    from-place is = map (point_item t f b) is ++ end

    -- the same instruction of both
    renamed-point : (i : Instr) → Member i b.instrs → (label : ℕ) → label < count → point_item t g c (renamed_instr (as_part f v label) i) ≡ renamed_item (M label) (point_item t f b i)
    renamed-point i mi label h =
        let phi = (not-phi t i (low.lowered b i mb mi)).0 in
        as-item t g c (renamed_instr (as_part f v label) i) phi
        ∙ (named-item t f g v ms live tests low meet classes none' pre b after blocks c number successors i mi label h ∙ ap (renamed_item (M label)) (sym (as-item t f b i phi)))

    module _ (here : found b.number C ≡ from-place b.instrs) where
      abbrev behind : ℕ → ℕ → List Instr → Code
      behind n now is = map (point_item t g c) (instrs_split live f v ms n b now is) ++ end'

      end-faces : (n now : ℕ) → now < count → AllMeet t f v ms b now [] → Keeps end → Faces now end (behind n now [])
      end-faces n now h m k =
          let to = label_behind ms b.number None now in
          let fits = behind-fits ms b.number None now h in
          faces fits
          (lead-change c end end' k n (last_point (Start b.number) b.instrs) now to h fits (end-live t f g v ms live tests low meet classes none' pre b after blocks c number successors here))
          (bare-ways t f g v ms live tests low meet b.number b.successors, meets-agree t f g v ms live tests low meet b to m)
          (λ o. absurd (cc))

      -- an instruction behind the copies before it
      parted : (n now : ℕ) (i : Instr) (is : List Instr) → Member i b.instrs → now < count → behind n now (i ∷ is) ≡ map (point_item t g c) (changed f n (live (Entry i.id)) now (label_behind ms b.number (Some i.id) now)) ++ (renamed_item (M (label_behind ms b.number (Some i.id) now)) (point_item t f b i) ∷ behind (n + length (changed f n (live (Entry i.id)) now (label_behind ms b.number (Some i.id) now))) (label_behind ms b.number (Some i.id) now) is)
      parted n now i is mi h =
          let to = label_behind ms b.number (Some i.id) now in
          let copies = changed f n (live (Entry i.id)) now to in
          let one = renamed_instr (as_part f v to) i in
          let more = instrs_split live f v ms (n + length copies) b to is in
          ap (λ xs. xs ++ end') (map-append (point_item t g c) copies (one ∷ more))
          ∙ (append_assoc (map (point_item t g c) copies) (map (point_item t g c) (one ∷ more)) end'
          ∙ ap (λ x. map (point_item t g c) copies ++ (x ∷ behind (n + length copies) to is)) (renamed-point i mi to (behind-fits ms b.number (Some i.id) now h)))

      facing : (front is : List Instr) → front ++ is ≡ b.instrs → (n now : ℕ) → now < count → AllMeet t f v ms b now is → Keeps (from-place is) → Faces now (from-place is) (behind n now is)
      facing front [] e n now h m k = end-faces n now h m k
      facing front (i ∷ is) e n now h m k =
          let to = label_behind ms b.number (Some i.id) now in
          let fits = behind-fits ms b.number (Some i.id) now h in
          let copies = changed f n (live (Entry i.id)) now to in
          let mi = member-behind front i is b.instrs e in
          let meets : does is_terminator t i ≡ true → Meets t f v ms b.successors to = λ x. (m.0 x).0 in
          let on = facing (front ++ i ∷ []) is (append_assoc front (i ∷ []) is ∙ e) (n + length copies) to fits m.1 k.1 in
          subst (Faces now (from-place (i ∷ is))) (sym (parted n now i is mi h))
          (faces fits
          (lead-change c (from-place (i ∷ is)) (renamed_item (M to) (point_item t f b i) ∷ behind (n + length copies) to is) k n (Entry i.id) now to h fits (entry-live t f g v ms live tests low meet classes none' pre b after blocks c number successors front i is e))
          (body-leads t f v count C D begin to (point_item t f b i) (point-body t f g v ms live tests low meet b mb to i meets mi))
          (λ o. on))

      -- from the instruction of an id on, or both elsewhere
      module _ (id : ℕ) (below : id < f.next_id) (other other' : Code) where
        past-copies : (n : ℕ) → f.next_id ≤ n → (a : Bool) (from to : ℕ) (is : List Instr) (p q : Code) → rest_from (point_item t g c) id (changed f n a from to ++ is) p q ≡ rest_from (point_item t g c) id is p q
        past-copies n h a from to is p q = go (a && not (nat_eq from to))
          where
            go : (x : Bool) → rest_from (point_item t g c) id (cond x (made n (op_number 0) (operands-of from to) ∷ []) [] ++ is) p q ≡ rest_from (point_item t g c) id is p q
            go true = ap (λ y. cond y (map (point_item t g c) (made n (op_number 0) (operands-of from to) ∷ is) ++ p) (rest_from (point_item t g c) id is p q)) (other-id f.next_id id n h below)
            go false = refl

        past-end : (n : ℕ) → f.next_id ≤ n → (a : Bool) (from to : ℕ) (p q : Code) → rest_from (point_item t g c) id (changed f n a from to) p q ≡ q
        past-end n h a from to p q = go (a && not (nat_eq from to))
          where
            go : (x : Bool) → rest_from (point_item t g c) id (cond x (made n (op_number 0) (operands-of from to) ∷ []) []) p q ≡ q
            go true = ap (λ y. cond y (map (point_item t g c) (made n (op_number 0) (operands-of from to) ∷ []) ++ p) q) (other-id f.next_id id n h below)
            go false = refl

        at-instrs : Pair other other' → (front is : List Instr) → front ++ is ≡ b.instrs → (n now : ℕ) → f.next_id ≤ n → now < count → AllMeet t f v ms b now is → Keeps (from-place is) → Pair (rest_from (point_item t f b) id is end other) (rest_from (point_item t g c) id (instrs_split live f v ms n b now is) end' other')
        at-instrs x front [] e n now w h m k = subst (Pair other) (sym (past-end n w (live (last_point (Start b.number) b.instrs)) now (label_behind ms b.number None now) end' other')) x
        at-instrs x front (i ∷ is) e n now w h m k =
            let to = label_behind ms b.number (Some i.id) now in
            let fits = behind-fits ms b.number (Some i.id) now h in
            let copies = changed f n (live (Entry i.id)) now to in
            let one = renamed_instr (as_part f v to) i in
            let more = instrs_split live f v ms (n + length copies) b to is in
            let mi = member-behind front i is b.instrs e in
            let meets : does is_terminator t i ≡ true → Meets t f v ms b.successors to = λ y. (m.0 y).0 in
            let moved-on = append_assoc front (i ∷ []) is ∙ e in
            let on = facing (front ++ i ∷ []) is moved-on (n + length copies) to fits m.1 k.1 in
            let pair = at-instrs x (front ++ i ∷ []) is moved-on (n + length copies) to (omega arith) fits m.1 k.1 in
            subst (Pair (rest_from (point_item t f b) id (i ∷ is) end other)) (sym (past-copies n w (live (Entry i.id)) now to (one ∷ more) end' other'))
            (chosen (nat_eq i.id id)
            (subst (λ y. Pair (from-place (i ∷ is)) (y ∷ behind (n + length copies) to is)) (sym (renamed-point i mi to fits))
            (at-both fits (body-leads t f v count C D begin to (point_item t f b i) (point-body t f g v ms live tests low meet b mb to i meets mi)) (λ o. on)))
            pair)

  -- blocks

  split-grows : (n : ℕ) (b : Block) → n ≤ number_behind live f v ms n (b ∷ [])
  split-grows n b = omega arith

  abbrev code-from : List Block → Code
  code-from bs = blocks_code (point_item t f) t f bs

  abbrev split-from : ℕ → List Block → Code
  split-from n bs = blocks_code (point_item t g) t g (blocks_split live f v ms n bs)

  -- block b, which `after` follow, in both
  module _ (pre : List Block) (b : Block) (after : List Block) (blocks : pre ++ b ∷ after ≡ f.blocks) (n : ℕ) (laid : LaidOut C (code-from (b ∷ after))) (keep : Keeps (code-from (b ∷ after))) where
    abbrev c : Block
    c = block_split live f v ms n b

    abbrev k : ℕ
    k = number_behind live f v ms n (b ∷ [])

    there : Member b f.blocks
    there = member-behind pre b after f.blocks blocks

    ends-alike : block_end t g c (blocks_split live f v ms k after) ≡ block_end t f b after
    ends-alike = end-same t f g v ms live tests low meet classes none' n k b there after

    block-faces : Faces (begin b.number) (map (point_item t f b) b.instrs ++ (block_end t f b after ∷ code-from after)) (map (point_item t g c) c.instrs ++ (block_end t g c (blocks_split live f v ms k after) ∷ split-from k after))
    block-faces =
        subst (λ x. Faces (begin b.number) (map (point_item t f b) b.instrs ++ (block_end t f b after ∷ code-from after)) (map (point_item t g c) c.instrs ++ (x ∷ split-from k after))) (sym ends-alike)
        (facing pre b after blocks c refl refl (split-from k after) laid.0 [] b.instrs refl n (begin b.number) (start-fits ms b.number) (meet b there) keep.1)

    instr-at : (id : ℕ) → id < f.next_id → f.next_id ≤ n → {other other' : Code} → Pair other other' → Pair (cond (has_instr id b) (block_rest t f b after (instr_place id b.instrs)) other) (cond (has_instr id c) (block_rest t g c (blocks_split live f v ms k after) (instr_place id c.instrs)) other')
    instr-at id h w {other} {other'} x =
        subst (λ p. Pair p (cond (has_instr id c) (block_rest t g c (blocks_split live f v ms k after) (instr_place id c.instrs)) other')) (sym (rest-is (point_item t f b) id b.instrs (block_end t f b after ∷ code-from after) other))
        (subst (Pair (rest_from (point_item t f b) id b.instrs (block_end t f b after ∷ code-from after) other)) (sym (rest-is (point_item t g c) id c.instrs (block_end t g c (blocks_split live f v ms k after) ∷ split-from k after) other'))
        (subst (λ y. Pair (rest_from (point_item t f b) id b.instrs (block_end t f b after ∷ code-from after) other) (rest_from (point_item t g c) id c.instrs (y ∷ split-from k after) other')) (sym ends-alike)
        (at-instrs pre b after blocks c refl refl (split-from k after) laid.0 id h other other' x [] b.instrs refl n (begin b.number) w (start-fits ms b.number) (meet b there) keep.1)))

    laid-after : LaidOut C (code-from after)
    laid-after =
        laid-end t f g v ms live tests low meet classes none' (option_map (λ j. (way t f b.number j).phis) (fallen_into t b after)) (ways_out t f b) (code-from after)
        (laid-items t f g v ms live tests low meet classes none' b there b.instrs (λ i y. y) (begin b.number) (meet b there) (block_end t f b after ∷ code-from after) laid.1)

    keep-after : Keeps (code-from after)
    keep-after = (keep-tail t f g v ms live tests low meet classes none' b b.instrs (block_end t f b after ∷ code-from after) keep.1).1

  abbrev Both : ℕ → Code → Code → Type 0
  Both n p r = Faces (begin n) p r ⊎ ((p ≡ []) × (r ≡ []))

  starts-by : (m : ℕ) (pre bs : List Block) → pre ++ bs ≡ f.blocks → (n : ℕ) → LaidOut C (code-from bs) → Keeps (code-from bs) → Both m (found m (code-from bs)) (found m (split-from n bs))
  starts-by m pre [] e n l k = inr (refl, refl)
  starts-by m pre (b ∷ after) e n l k =
      let z = number_behind live f v ms n (b ∷ []) in
      let c = block_split live f v ms n b in
      go (nat_eq b.number m) refl (block-faces pre b after e n l k)
      (starts-by m (pre ++ b ∷ []) after (append_assoc pre (b ∷ []) after ∙ e) z (laid-after pre b after e n l k) (keep-after pre b after e n l k))
    where
      go : (x : Bool) → nat_eq b.number m ≡ x → Faces (begin b.number) (map (point_item t f b) b.instrs ++ (block_end t f b after ∷ code-from after)) (map (point_item t g (block_split live f v ms n b)) (block_split live f v ms n b).instrs ++ (block_end t g (block_split live f v ms n b) (blocks_split live f v ms (number_behind live f v ms n (b ∷ [])) after) ∷ split-from (number_behind live f v ms n (b ∷ [])) after)) →
          Both m (found m (code-from after)) (found m (split-from (number_behind live f v ms n (b ∷ [])) after)) →
          Both m (cond x (map (point_item t f b) b.instrs ++ (block_end t f b after ∷ code-from after)) (found m (map (point_item t f b) b.instrs ++ (block_end t f b after ∷ code-from after)))) (cond x (map (point_item t g (block_split live f v ms n b)) (block_split live f v ms n b).instrs ++ (block_end t g (block_split live f v ms n b) (blocks_split live f v ms (number_behind live f v ms n (b ∷ [])) after) ∷ split-from (number_behind live f v ms n (b ∷ [])) after)) (found m (map (point_item t g (block_split live f v ms n b)) (block_split live f v ms n b).instrs ++ (block_end t g (block_split live f v ms n b) (blocks_split live f v ms (number_behind live f v ms n (b ∷ [])) after) ∷ split-from (number_behind live f v ms n (b ∷ [])) after))))
      go true y h ih = inl (subst (λ w. Facing t f v count C D begin (begin w) (map (point_item t f b) b.instrs ++ (block_end t f b after ∷ code-from after)) (map (point_item t g (block_split live f v ms n b)) (block_split live f v ms n b).instrs ++ (block_end t g (block_split live f v ms n b) (blocks_split live f v ms (number_behind live f v ms n (b ∷ [])) after) ∷ split-from (number_behind live f v ms n (b ∷ [])) after))) (eqb-true b.number m y) h)
      go false y h ih =
          subst (λ p. Both m p (found m (map (point_item t g (block_split live f v ms n b)) (block_split live f v ms n b).instrs ++ (block_end t g (block_split live f v ms n b) (blocks_split live f v ms (number_behind live f v ms n (b ∷ [])) after) ∷ split-from (number_behind live f v ms n (b ∷ [])) after)))) (sym (items-past t f m b b.instrs (block_end t f b after ∷ code-from after)))
          (subst (Both m (found m (code-from after))) (sym (items-past t g m (block_split live f v ms n b) (block_split live f v ms n b).instrs (block_end t g (block_split live f v ms n b) (blocks_split live f v ms (number_behind live f v ms n (b ∷ [])) after) ∷ split-from (number_behind live f v ms n (b ∷ [])) after))) ih)

  at-by : (id : ℕ) → id < f.next_id → (pre bs : List Block) → pre ++ bs ≡ f.blocks → (n : ℕ) → f.next_id ≤ n → LaidOut C (code-from bs) → Keeps (code-from bs) → Pair (from_instr t f id bs) (from_instr t g id (blocks_split live f v ms n bs))
  at-by id h pre [] e n w l k = at-none
  at-by id h pre (b ∷ after) e n w l k =
      let grown = split-grows n b in
      instr-at pre b after e n l k id h w
      (at-by id h (pre ++ b ∷ []) after (append_assoc pre (b ∷ []) after ∙ e) (number_behind live f v ms n (b ∷ [])) (omega arith) (laid-after pre b after e n l k) (keep-after pre b after e n l k))

-- what is split
module _ (t : Target) (f : Function) (v : ℕ) (ms : List Mark) (live : Point → Bool) (tests : Tests (RangeLive t f v) live) (low : Suits t f) (meet : LabelsAgree t f v ms) where
  abbrev whole-split : Function
  whole-split = split_by live f v ms

  bare-split : has_no_phis t (blocks_split live f v ms f.next_id f.blocks) ≡ true
  bare-split = blocks-without-phis t f v ms live tests low meet f.next_id f.blocks (no-phis t f v ms live tests low meet)

  abbrev number : ℕ
  number = greatest_label ms + 1

  abbrev label-at : ℕ → ℕ
  label-at n = start_label ms n

  all-starts : (n : ℕ) → Facing t f v number (points_of t f) (points_of t whole-split) label-at (start_label ms n) (found n (points_of t f)) (found n (points_of t whole-split)) ⊎ ((found n (points_of t f) ≡ []) × (found n (points_of t whole-split) ≡ []))
  unfolding split_by points_of
  all-starts n = starts-by t f whole-split v ms live tests low meet refl bare-split n [] f.blocks refl f.next_id low.laid_out (keep-all t f whole-split v ms live tests low meet)

  all-at : (id : ℕ) → id < f.next_id → At t f v number (points_of t f) (points_of t whole-split) label-at (from_instr t f id f.blocks) (from_instr t whole-split id whole-split.blocks)
  unfolding split_by points_of
  all-at id h = at-by t f whole-split v ms live tests low meet refl bare-split id h [] f.blocks refl f.next_id (omega arith) low.laid_out (keep-all t f whole-split v ms live tests low meet)

  other-stays : (l : Lane) → IsOther f v l → (label : ℕ) → lane_home f v number label l ≡ l
  other-stays (VirtualLane w k) o label = ap (λ x. VirtualLane x k) (home-named f v number label w (ne_eqb v w (λ e. o.1 (sym e))) o.0)
  other-stays (UnitLane u) o label = refl
  other-stays (SlotLane s k w) o label = refl

  point-same : (p : Point) → IsPointOf f p → (l : Lane) → IsOther f v l → IsSame t f whole-split p l
  point-same (Start n) h l o =
      let same = start-same t f v number (points_of t f) (points_of t whole-split) label-at all-starts (start-fits ms) n l (other-stays l o) in
      record { live = same; occupied = same }
  point-same (Entry id) h l o = record {
    live = entry-same t f v number (points_of t f) (points_of t whole-split) label-at all-starts (start-fits ms) (all-at id h) l (other-stays l o);
    occupied = entry-occupied t f v number (points_of t f) (points_of t whole-split) label-at all-starts (start-fits ms) (all-at id h) l (other-stays l o);
  }
  point-same (Exit id) h l o = record {
    live = exit-same t f v number (points_of t f) (points_of t whole-split) label-at all-starts (start-fits ms) (all-at id h) l (other-stays l o);
    occupied = exit-occupied t f v number (points_of t f) (points_of t whole-split) label-at all-starts (start-fits ms) (all-at id h) l (other-stays l o);
  }

  point-shared : (p : Point) → IsPointOf f p → IsShared t f whole-split v ms p
  point-shared (Start n) h =
      let z = start-shares t f v number (points_of t f) (points_of t whole-split) label-at all-starts (start-fits ms) n in
      record { label = start_label ms n; fits = start-fits ms n; live = z.forth; only = z.back }
  point-shared (Entry id) h =
      let z = entry-shares t f v number (points_of t f) (points_of t whole-split) label-at all-starts (start-fits ms) (all-at id h) (omega arith) in
      record { label = z.0; fits = z.1; live = z.2.forth; only = z.2.back }
  point-shared (Exit id) h =
      let z = exit-shares t f v number (points_of t f) (points_of t whole-split) label-at all-starts (start-fits ms) (all-at id h) (omega arith) in
      record { label = z.0; fits = z.1; live = z.2.forth; only = z.2.back }

pub others_stay : SplitKeepsOthers
others_stay t f g v ms low meet s p h l o = subst (λ q. IsSame t f q p l) (sym s.2) (point-same t f v ms s.0 s.1 (suits t f low) meet p h l o)

pub range_shared : SplitSharesRange
range_shared t f g v ms low meet s p h = subst (λ q. IsShared t f q v ms p) (sym s.2) (point-shared t f v ms s.0 s.1 (suits t f low) meet p h)
