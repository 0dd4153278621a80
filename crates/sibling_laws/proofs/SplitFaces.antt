-- The places of a function with a range split: each is one that the function had, or a copy between parts. Which lanes are live
-- at each is known from the function.
use Rattle.std.proofs.Common.{◌≡◌, ◌<◌, ◌+◌, ◌⊎◌, inl, inr, not, ◌&&◌, ◌++◌, ◌∙◌, ℕ, Bool, true, false, cond, List, [], ◌∷◌, Option, Some, None, map, length, replicate, refl, sym, ap, subst, append_assoc, eqb-true}
use Rattle.std.specs.Prelude.{nat_eq, option_map}
use Rattle.target_base.specs.declared.types.Effect.{Effect}
use Rattle.target_base.specs.declared.types.Target.{Target}
use Rattle.target_base.specs.Numbers.{op_number}
use Rattle.target_base.specs.Roles.{is_silent}
use Rattle.target_base.specs.Rules.{is_phi}
use Rattle.meaning.specs.Code.{BlockEnd, BlockStart, Code, Counted, Item, Silent, found}
use Rattle.meaning.specs.Lanes.{Writes}
use Rattle.meaning.specs.Layout.{LaidOut}
use Rattle.meaning.specs.Matched.{images}
use Rattle.meaning.specs.Live.{Among as Member, Live, LiveAfter, OccupiedAfter, OccupiedBefore, after_next, in_order, kept, leap, next, phi, read, store}
use Rattle.meaning.specs.declared.types.Lane.{Lane}
use Rattle.meaning.specs.declared.types.Lane.TheVariants.{SlotLane, UnitLane, VirtualLane}
use Rattle.mir_func.specs.declared.func.Operand.{Operand}
use Rattle.mir_func.specs.declared.func.Instr.{Instr}
use Rattle.mir_func.specs.declared.func.Block.{Block}
use Rattle.mir_func.specs.Value.{Function}
use Rattle.mir_func.specs.Edits.{made}
use Rattle.mir_func.specs.Binding.{class_of, does, effect_of, is_early_clobber, is_terminator, passes, roles_of}
use Rattle.mir_meaning.specs.Registers.{is_reserved, numbers, range_widths}
use Rattle.mir_meaning.specs.Items.{counted_writes, defined_undef, rest_of, silent_reads, silent_writes, values}
use Rattle.mir_meaning.specs.Codes.{block_end, blocks_code, effect_item, fallen_into, item_of, target_of, way, ways_out}
use Rattle.mir_meaning.specs.Points.{AtFirst, Entry, Exit, OccupiedAt, Point, RangePoint, Start, Tests, from_instr, has_no_phis, point_item, points_of}
use Rattle.mir_meaning.specs.Renaming.{renamed_instr, renamed_item}
use Rattle.instr_effects.proofs.Members.{member-none}
use Rattle.live_lanes.specs.declared.ask.labels.Mark.{Mark}
use Rattle.live_laws.proofs.Effects.Blocks.{items-past}
use Rattle.split_kit.specs.Split.{RangeLive, as_part, block_split, blocks_split, changed, greatest_label, instrs_split, label_behind, last_point, number_behind, part, split_by, start_label, whole}
use Rattle.split_laws.specs.Laws.{AllMeet, LabelsAgree, Meets}
use Rattle.split_laws.proofs.Suits.{Suits}
use Rattle.split_laws.proofs.Passing.{IsBody}
use Rattle.split_laws.proofs.Points.{EndsWith, end-of}
use Rattle.split_laws.proofs.Copies.{moves, moves-other}
use Rattle.split_laws.proofs.Ends.{copy-effect, copy-item}
use Rattle.split_laws.proofs.Homes.{labels-agree, lane_home}
use Rattle.split_laws.proofs.Instrs.{copy}
use Rattle.split_laws.proofs.Labels.{behind-fits, start-fits}
use Rattle.split_laws.proofs.Facing.{Facing, Lead, Leads, Still, faces}
use Rattle.split_laws.proofs.Splitting.{Keeping, as-item, bare-ways, blocks-without-phis, carried, copy-moves, end-live, end-same, entry-live, keep-all, keep-tail, laid-end, laid-items, map-append, meets-agree, member-behind, named-item, no-phis, not-phi, point-body}
use Rattle.clear_laws.proofs.Ids.{id-below}
use Rattle.clear_laws.proofs.Places.{code-behind, code-here}
use Rattle.clear_laws.proofs.SplitPoints.{free}

-- a place in a list is the first, or one behind it
data Cut {X : Type 0} (front : List X) (x : X) (back : List X) (y : X) (ys : List X) : Type 0 where
  at-first : front ≡ [] → x ≡ y → back ≡ ys → Cut front x back y ys
  further : (rest : List X) → rest ++ x ∷ back ≡ ys → Cut front x back y ys

cut : {X : Type 0} (front : List X) (x : X) (back : List X) (y : X) (ys : List X) → front ++ x ∷ back ≡ y ∷ ys → Cut front x back y ys
cut [] x back y ys e = at-first refl (cc) (cc)
cut (z ∷ front) x back y ys e = further front (cc)

none-here : {X : Type 0} (front : List X) (x : X) (back : List X) → front ++ x ∷ back ≡ [] → ⊥
none-here [] x back e = cc
none-here (z ∷ front) x back e = cc

-- items of instructions go on in order
item-order : (t : Target) (f : Function) (b : Block) (i : Instr) → in_order (point_item t f b i) ≡ true
unfolding point_item item_of
item-order t f b i = go (does is_phi t i) (effect_of t i)
  where
    by : (e : Effect) (s : Bool) → in_order (cond s (Silent (silent_reads t f e i.operands) (silent_writes t f e (is_early_clobber (roles_of t i)) i.operands)) (Counted (rest_of t f e i) (map (λ x. x.0) (values t f e i)) (counted_writes t f e i) (option_map (way t f b.number) (target_of i.operands)) (cond (is_terminator e) (ways_out t f b) []))) ≡ true
    by e true = refl
    by e false = refl

    go : (c : Bool) (q : Option Effect) → in_order (cond c (Silent [] (defined_undef t f i.operands)) (elim q as (λ o. Item) [ None ↦ Silent [] [] | Some e ↦ effect_item t f b i e ])) ≡ true
    go true q = refl
    go false None = refl
    go false (Some e) = by e (is_silent e)

-- what is live at a point is live or occupied there

pub live-none : {reserved : Lane → Bool} {code p : Code} {l : Lane} → Live reserved code p l → p ≡ [] → ⊥
live-none (read x y r) e = cc
live-none (next o live f r) e = cc
live-none (leap x live g f r) e = cc
live-none (phi x y g f r) e = cc
live-none (store w o live f n r) e = cc
live-none (kept s f r) e = cc

live-before : (reserved : Lane → Bool) (code p : Code) (l : Lane) → Live reserved code p l → AtFirst (λ i q. OccupiedBefore reserved code i q l) p
live-before reserved code [] l h = absurd (live-none h refl)
live-before reserved code (i ∷ p) l h = (inl h, free h)

live-after : (reserved : Lane → Bool) (code p : Code) (l : Lane) → reserved l ≡ false → AtFirst (λ i q. LiveAfter reserved code i q l) p → AtFirst (λ i q. OccupiedAfter reserved code i q l) p
live-after reserved code [] l r h = absurd h
live-after reserved code (i ∷ p) l r h = (inl h, r)

range-at : (t : Target) (f : Function) (v : ℕ) (p : Point) → RangeLive t f v p → RangePoint t f v p
range-at t f v (Start n) z = z
range-at t f v (Entry id) z = (z.0, live-before (is_reserved t) (points_of t f) (from_instr t f id f.blocks) (VirtualLane v z.0) z.1)
range-at t f v (Exit id) z = (z.0, live-after (is_reserved t) (points_of t f) (from_instr t f id f.blocks) (VirtualLane v z.0) refl z.1)

body-leads : (t : Target) (f : Function) (v count : ℕ) (C D : Code) (begin : ℕ → ℕ) (to : ℕ) (i : Item) → IsBody (is_reserved t) C (λ n. images (lane_home f v count (begin n))) (images (lane_home f v count to)) i → Leads t f v count C D begin to i
body-leads t f v count C D begin to (BlockStart n) b = absurd b
body-leads t f v count C D begin to (BlockEnd falls exits) b = absurd b
body-leads t f v count C D begin to (Silent reads ws) b = (tt, (λ e m. absurd (member-none e m)))
body-leads t f v count C D begin to (Counted r reads ws target exits) b = (b.0.1, b.1)

-- range v of f is split to a function with code D; blocks start with these labels
module _ (t : Target) (f : Function) (v count : ℕ) (C D : Code) (begin : ℕ → ℕ) where
  -- a copy from part to part
  abbrev pub copy_item : ℕ → ℕ → Item
  copy_item from to = Silent [] (moves (part f to) (part f from) (numbers 0 (length (range_widths t f v))))

  -- A place of the function after the split, by its id and its item, which r follows: one that the function had, or a copy, which
  -- stands where the range is live or occupied.
  pub data Spot (id : ℕ) (j : Item) (r : Code) : Type 0 where
    old : (to : ℕ) (i : Item) (p : Code) → to < count → id < f.next_id → from_instr t f id f.blocks ≡ i ∷ p → j ≡ renamed_item (lane_home f v count to) i → Leads t f v count C D begin to i
        → (in_order i ≡ true → Facing t f v count C D begin to p r) → Spot id j r
    new : (from to : ℕ) (p : Code) (q : Point) → from < count → to < count → j ≡ copy_item from to → Facing t f v count C D begin from p (j ∷ r) → Facing t f v count C D begin to p r
        → ((l : Lane) → Live (is_reserved t) C p l → OccupiedAt t f q l) → RangePoint t f v q → Spot id j r

module _ (t : Target) (f g : Function) (v : ℕ) (ms : List Mark) (live : Point → Bool) (tests : Tests (RangeLive t f v) live) (low : Suits t f) (meet : LabelsAgree t f v ms) (classes : g.classes ≡ f.classes ++ replicate (greatest_label ms + 1) (class_of f v)) (none' : has_no_phis t g.blocks ≡ true) where
  abbrev count : ℕ
  count = greatest_label ms + 1

  abbrev C : Code
  C = points_of t f

  abbrev D : Code
  D = points_of t g

  abbrev begin : ℕ → ℕ
  begin n = start_label ms n

  abbrev R : Lane → Bool
  R = is_reserved t

  abbrev M : ℕ → Lane → Lane
  M label = lane_home f v count label

  abbrev Faces : ℕ → Code → Code → Type 0
  Faces label p r = Facing t f v count C D begin label p r

  abbrev Keeps : Code → Type 0
  Keeps p = Keeping t f g v ms live tests low meet p

  abbrev copies-of : ℕ → ℕ → Writes
  copies-of from to = moves (part f to) (part f from) (numbers 0 (length (range_widths t f v)))

  abbrev operands-of : ℕ → ℕ → List Operand
  operands-of from to = whole true (part f to) ∷ whole false (part f from) ∷ []

  copy-point : (c : Block) (id from to : ℕ) → from < count → to < count → point_item t g c (made id (op_number 0) (operands-of from to)) ≡ Silent [] (copies-of from to)
  copy-point c id from to h k =
      as-item t g c (made id (op_number 0) (operands-of from to)) (ap (passes is_phi) (copy-effect t id (operands-of from to)))
      ∙ (copy-item t g c id (operands-of from to) ∙ ap (Silent []) (copy-moves t f g v ms live tests low meet classes none' from to h k))

  still : (from to : ℕ) → Still t f v count C D begin (copies-of from to)
  still from to = record {
    units = λ u. moves-other (part f to) (part f from) (numbers 0 (length (range_widths t f v))) (UnitLane u) (λ j. refl);
    slots = λ s k w. moves-other (part f to) (part f from) (numbers 0 (length (range_widths t f v))) (SlotLane s k w) (λ j. refl);
  }

  -- where the label changes
  lead-change :
      (c : Block) (p q : Code) → Keeps p → (id : ℕ) (point : Point) (from to : ℕ) → from < count → to < count → ((k : ℕ) → Live R C p (VirtualLane v k) → RangeLive t f v point) →
      Lead t f v count C D begin from to p q (map (point_item t g c) (changed f id (live point) from to) ++ q)
  lead-change c p q keep id point from to h k told = go (live point) refl (nat_eq from to) refl
    where
      go : (a : Bool) → live point ≡ a → (e : Bool) → nat_eq from to ≡ e → Lead t f v count C D begin from to p q (map (point_item t g c) (cond (a && not e) (made id (op_number 0) (operands-of from to) ∷ []) []) ++ q)
      go false x e y = inl (refl, labels-agree f v count t C p from to (λ j l. absurd (let z : live point ≡ true = (tests point).1 (told j l) in cc)))
      go true x true y = inl (refl, labels-agree f v count t C p from to (λ j l. eqb-true from to y))
      go true x false y = inr (copies-of from to, ap (λ i. i ∷ q) (copy-point c id from to h k), still from to, (λ a l. carried t f g v ms live tests low meet classes none' from to k p keep a l))

  module _ (pre : List Block) (b : Block) (after : List Block) (blocks : pre ++ b ∷ after ≡ f.blocks) (c : Block) (number : c.number ≡ b.number) (successors : c.successors ≡ b.successors) (rest' : Code) where
    mb : Member b f.blocks
    mb = member-behind pre b after f.blocks blocks

    abbrev end : Code
    end = block_end t f b after ∷ blocks_code (point_item t f) t f after

    abbrev end' : Code
    end' = block_end t f b after ∷ rest'

    abbrev from-place : List Instr → Code
    from-place is = map (point_item t f b) is ++ end

    -- the same instruction of both
    renamed-point : (i : Instr) → Member i b.instrs → (label : ℕ) → label < count → point_item t g c (renamed_instr (as_part f v label) i) ≡ renamed_item (M label) (point_item t f b i)
    renamed-point i mi label h =
        let phi = (not-phi t i (low.lowered b i mb mi)).0 in
        as-item t g c (renamed_instr (as_part f v label) i) phi
        ∙ (named-item t f g v ms live tests low meet classes none' pre b after blocks c number successors i mi label h ∙ ap (renamed_item (M label)) (sym (as-item t f b i phi)))

    module _ (here : found b.number C ≡ from-place b.instrs) where
      abbrev behind : ℕ → ℕ → List Instr → Code
      behind n now is = map (point_item t g c) (instrs_split live f v ms n b now is) ++ end'

      end-faces : (n now : ℕ) → now < count → AllMeet t f v ms b now [] → Keeps end → Faces now end (behind n now [])
      end-faces n now h m k =
          let to = label_behind ms b.number None now in
          let fits = behind-fits ms b.number None now h in
          faces fits
          (lead-change c end end' k n (last_point (Start b.number) b.instrs) now to h fits (end-live t f g v ms live tests low meet classes none' pre b after blocks c number successors here))
          (bare-ways t f g v ms live tests low meet b.number b.successors, meets-agree t f g v ms live tests low meet b to m)
          (λ o. absurd (cc))

      -- an instruction behind the copies before it
      parted : (n now : ℕ) (i : Instr) (is : List Instr) → Member i b.instrs → now < count → behind n now (i ∷ is) ≡ map (point_item t g c) (changed f n (live (Entry i.id)) now (label_behind ms b.number (Some i.id) now)) ++ (renamed_item (M (label_behind ms b.number (Some i.id) now)) (point_item t f b i) ∷ behind (n + length (changed f n (live (Entry i.id)) now (label_behind ms b.number (Some i.id) now))) (label_behind ms b.number (Some i.id) now) is)
      parted n now i is mi h =
          let to = label_behind ms b.number (Some i.id) now in
          let copies = changed f n (live (Entry i.id)) now to in
          let one = renamed_instr (as_part f v to) i in
          let more = instrs_split live f v ms (n + length copies) b to is in
          ap (λ xs. xs ++ end') (map-append (point_item t g c) copies (one ∷ more))
          ∙ (append_assoc (map (point_item t g c) copies) (map (point_item t g c) (one ∷ more)) end'
          ∙ ap (λ x. map (point_item t g c) copies ++ (x ∷ behind (n + length copies) to is)) (renamed-point i mi to (behind-fits ms b.number (Some i.id) now h)))

      facing : (front is : List Instr) → front ++ is ≡ b.instrs → (n now : ℕ) → now < count → AllMeet t f v ms b now is → Keeps (from-place is) → Faces now (from-place is) (behind n now is)
      facing front [] e n now h m k = end-faces n now h m k
      facing front (i ∷ is) e n now h m k =
          let to = label_behind ms b.number (Some i.id) now in
          let fits = behind-fits ms b.number (Some i.id) now h in
          let copies = changed f n (live (Entry i.id)) now to in
          let mi = member-behind front i is b.instrs e in
          let meets : does is_terminator t i ≡ true → Meets t f v ms b.successors to = λ x. (m.0 x).0 in
          let on = facing (front ++ i ∷ []) is (append_assoc front (i ∷ []) is ∙ e) (n + length copies) to fits m.1 k.1 in
          subst (Faces now (from-place (i ∷ is))) (sym (parted n now i is mi h))
          (faces fits
          (lead-change c (from-place (i ∷ is)) (renamed_item (M to) (point_item t f b i) ∷ behind (n + length copies) to is) k n (Entry i.id) now to h fits (entry-live t f g v ms live tests low meet classes none' pre b after blocks c number successors front i is e))
          (body-leads t f v count C D begin to (point_item t f b i) (point-body t f g v ms live tests low meet b mb to i meets mi))
          (λ o. on))

      -- what is live at the block's end, and at an instruction

      end-told : (l : Lane) → Live R C end l → OccupiedAt t f (last_point (Start b.number) b.instrs) l
      end-told l h = go (end-of (Start b.number) b.instrs)
        where
          go : ◌≡◌ {A = List Instr} b.instrs [] ⊎ EndsWith (Start b.number) b.instrs → OccupiedAt t f (last_point (Start b.number) b.instrs) l
          go (inl e) = subst (λ is. OccupiedAt t f (last_point (Start b.number) is) l) (sym e) (subst (λ p. Live R C p l) (sym (here ∙ ap from-place e)) h)
          go (inr z) =
              subst (λ p. OccupiedAt t f p l) (sym z.point)
              (subst (AtFirst (λ i p. OccupiedAfter R C i p l)) (sym (code-here t f low.function pre b after blocks z.front z.last [] z.instrs)) (inl (after_next (item-order t f b z.last) h), free h))

      entry-told : (front : List Instr) (i : Instr) (is : List Instr) → front ++ i ∷ is ≡ b.instrs → (l : Lane) → Live R C (from-place (i ∷ is)) l → OccupiedAt t f (Entry i.id) l
      entry-told front i is e l h = subst (AtFirst (λ i p. OccupiedBefore R C i p l)) (sym (code-here t f low.function pre b after blocks front i is e)) (inl h, free h)

      abbrev item-of : Instr → Item
      item-of x = point_item t g c x

      -- the place of an instruction, which these follow
      abbrev SpotOf : Instr → List Instr → Type 0
      SpotOf x back = Spot t f v count C D begin x.id (item-of x) (map item-of back ++ end')

      -- the copy at the block's end
      end-spot : (n now : ℕ) → now < count → AllMeet t f v ms b now [] → Keeps end → live (last_point (Start b.number) b.instrs) ≡ true → SpotOf (copy live f v ms n now (label_behind ms b.number None now)) []
      end-spot n now h m k y =
          let to = label_behind ms b.number None now in
          let fits = behind-fits ms b.number None now h in
          let leads : Leads t f v count C D begin to (block_end t f b after) = (bare-ways t f g v ms live tests low meet b.number b.successors, meets-agree t f g v ms live tests low meet b to m) in
          let is-copy = copy-point c n now to h fits in
          new now to end (last_point (Start b.number) b.instrs) h fits is-copy
          (subst (λ j. Faces now end (j ∷ end')) (sym is-copy)
          (faces fits (inr (copies-of now to, refl, still now to, λ a l. carried t f g v ms live tests low meet classes none' now to fits end k a l)) leads (λ o. absurd (cc))))
          (faces fits (inl (refl, λ a l. refl)) leads (λ o. absurd (cc)))
          end-told (range-at t f v (last_point (Start b.number) b.instrs) ((tests (last_point (Start b.number) b.instrs)).0 y))

      -- an instruction that both have, which the label holds at
      module _ (front : List Instr) (i : Instr) (is : List Instr) (e : front ++ i ∷ is ≡ b.instrs) (n now : ℕ) (h : now < count) (m : AllMeet t f v ms b now (i ∷ is)) (k : Keeps (from-place (i ∷ is))) where
        abbrev label-here : ℕ
        label-here = label_behind ms b.number (Some i.id) now

        fits-here : label-here < count
        fits-here = behind-fits ms b.number (Some i.id) now h

        instr-here : Member i b.instrs
        instr-here = member-behind front i is b.instrs e

        abbrev id-here : ℕ
        id-here = n + length (changed f n (live (Entry i.id)) now label-here)

        abbrev rest-here : List Instr
        rest-here = instrs_split live f v ms id-here b label-here is

        abbrev part-here : Instr
        part-here = renamed_instr (as_part f v label-here) i

        leads-here : Leads t f v count C D begin label-here (point_item t f b i)
        leads-here = body-leads t f v count C D begin label-here (point_item t f b i) (point-body t f g v ms live tests low meet b mb label-here i (λ x. (m.0 x).0) instr-here)

        faces-here : Faces label-here (from-place is) (behind id-here label-here is)
        faces-here = facing (front ++ i ∷ []) is (append_assoc front (i ∷ []) is ∙ e) id-here label-here fits-here m.1 k.1

        old-spot : SpotOf part-here rest-here
        old-spot =
            old label-here (point_item t f b i) (from-place is) fits-here (id-below f low.function b mb i instr-here) (code-here t f low.function pre b after blocks front i is e)
            (renamed-point i instr-here label-here fits-here) leads-here (λ o. faces-here)

        copy-spot : live (Entry i.id) ≡ true → SpotOf (copy live f v ms n now label-here) (part-here ∷ rest-here)
        copy-spot y =
            let is-copy = copy-point c n now label-here h fits-here in
            subst (λ j. Spot t f v count C D begin n (item-of (copy live f v ms n now label-here)) (j ∷ behind id-here label-here is)) (sym (renamed-point i instr-here label-here fits-here))
            (new now label-here (from-place (i ∷ is)) (Entry i.id) h fits-here is-copy
            (subst (λ j. Faces now (from-place (i ∷ is)) (j ∷ (renamed_item (M label-here) (point_item t f b i) ∷ behind id-here label-here is))) (sym is-copy)
            (faces fits-here (inr (copies-of now label-here, refl, still now label-here, λ a l. carried t f g v ms live tests low meet classes none' now label-here fits-here (from-place (i ∷ is)) k a l)) leads-here (λ o. faces-here)))
            (faces fits-here (inl (refl, λ a l. refl)) leads-here (λ o. faces-here))
            (entry-told front i is e) (range-at t f v (Entry i.id) ((tests (Entry i.id)).0 y)))

        -- the places from here on
        spots-from : ((before : List Instr) (x : Instr) (back : List Instr) → before ++ x ∷ back ≡ rest-here → SpotOf x back) → (before : List Instr) (x : Instr) (back : List Instr) → before ++ x ∷ back ≡ instrs_split live f v ms n b now (i ∷ is) → SpotOf x back
        spots-from rest before x back w = go (live (Entry i.id)) refl (nat_eq now label-here) w
          where
            here-on : (before : List Instr) (x : Instr) (back : List Instr) → before ++ x ∷ back ≡ part-here ∷ rest-here → SpotOf x back
            here-on before x back w = by (cut before x back part-here rest-here w)
              where
                by : Cut before x back part-here rest-here → SpotOf x back
                by (at-first q s j) = subst (λ y. SpotOf y back) (sym s) (subst (SpotOf part-here) (sym j) old-spot)
                by (further ys j) = rest ys x back j

            go : (a : Bool) → live (Entry i.id) ≡ a → (q : Bool) → before ++ x ∷ back ≡ cond (a && not q) (copy live f v ms n now label-here ∷ []) [] ++ (part-here ∷ rest-here) → SpotOf x back
            go false y q w = here-on before x back w
            go true y true w = here-on before x back w
            go true y false w = by (cut before x back (copy live f v ms n now label-here) (part-here ∷ rest-here) w)
              where
                by : Cut before x back (copy live f v ms n now label-here) (part-here ∷ rest-here) → SpotOf x back
                by (at-first q s j) = subst (λ y. SpotOf y back) (sym s) (subst (SpotOf (copy live f v ms n now label-here)) (sym j) (copy-spot y))
                by (further ys j) = here-on ys x back j

      spots : (front is : List Instr) → front ++ is ≡ b.instrs → (n now : ℕ) → now < count → AllMeet t f v ms b now is → Keeps (from-place is) → (before : List Instr) (x : Instr) (back : List Instr) → before ++ x ∷ back ≡ instrs_split live f v ms n b now is → SpotOf x back
      spots front [] e n now h m k before x back w = go (live (last_point (Start b.number) b.instrs)) refl (nat_eq now (label_behind ms b.number None now)) w
        where
          go : (a : Bool) → live (last_point (Start b.number) b.instrs) ≡ a → (q : Bool) → before ++ x ∷ back ≡ cond (a && not q) ((copy live f v ms n now (label_behind ms b.number None now)) ∷ []) [] → SpotOf x back
          go false y q w = absurd (none-here before x back w)
          go true y true w = absurd (none-here before x back w)
          go true y false w = by (cut before x back (copy live f v ms n now (label_behind ms b.number None now)) [] w)
            where
              by : Cut before x back (copy live f v ms n now (label_behind ms b.number None now)) [] → SpotOf x back
              by (at-first q s j) = subst (λ y. SpotOf y back) (sym s) (subst (SpotOf (copy live f v ms n now (label_behind ms b.number None now))) (sym j) (end-spot n now h m k y))
              by (further ys j) = absurd (none-here ys x back j)
      spots front (i ∷ is) e n now h m k before x back w =
          let to = label_behind ms b.number (Some i.id) now in
          spots-from front i is e n now h m k
          (spots (front ++ i ∷ []) is (append_assoc front (i ∷ []) is ∙ e) (n + length (changed f n (live (Entry i.id)) now to)) to (behind-fits ms b.number (Some i.id) now h) m.1 k.1)
          before x back w

  -- blocks

  abbrev code-from : List Block → Code
  code-from bs = blocks_code (point_item t f) t f bs

  abbrev split-from : ℕ → List Block → Code
  split-from n bs = blocks_code (point_item t g) t g (blocks_split live f v ms n bs)

  -- block b, which `after` follow, in both
  module _ (pre : List Block) (b : Block) (after : List Block) (blocks : pre ++ b ∷ after ≡ f.blocks) (n : ℕ) (laid : LaidOut C (code-from (b ∷ after))) (keep : Keeps (code-from (b ∷ after))) where
    abbrev c : Block
    c = block_split live f v ms n b

    abbrev k : ℕ
    k = number_behind live f v ms n (b ∷ [])

    there : Member b f.blocks
    there = member-behind pre b after f.blocks blocks

    ends-alike : block_end t g c (blocks_split live f v ms k after) ≡ block_end t f b after
    ends-alike = end-same t f g v ms live tests low meet classes none' n k b there after

    block-faces : Faces (begin b.number) (map (point_item t f b) b.instrs ++ (block_end t f b after ∷ code-from after)) (map (point_item t g c) c.instrs ++ (block_end t g c (blocks_split live f v ms k after) ∷ split-from k after))
    block-faces =
        subst (λ x. Faces (begin b.number) (map (point_item t f b) b.instrs ++ (block_end t f b after ∷ code-from after)) (map (point_item t g c) c.instrs ++ (x ∷ split-from k after))) (sym ends-alike)
        (facing pre b after blocks c refl refl (split-from k after) laid.0 [] b.instrs refl n (begin b.number) (start-fits ms b.number) (meet b there) keep.1)

    laid-after : LaidOut C (code-from after)
    laid-after =
        laid-end t f g v ms live tests low meet classes none' (option_map (λ j. (way t f b.number j).phis) (fallen_into t b after)) (ways_out t f b) (code-from after)
        (laid-items t f g v ms live tests low meet classes none' b there b.instrs (λ i y. y) (begin b.number) (meet b there) (block_end t f b after ∷ code-from after) laid.1)

    keep-after : Keeps (code-from after)
    keep-after = (keep-tail t f g v ms live tests low meet classes none' b b.instrs (block_end t f b after ∷ code-from after) keep.1).1

  abbrev Both : ℕ → Code → Code → Type 0
  Both n p r = Faces (begin n) p r ⊎ ((p ≡ []) × (r ≡ []))

  starts-by : (m : ℕ) (pre bs : List Block) → pre ++ bs ≡ f.blocks → (n : ℕ) → LaidOut C (code-from bs) → Keeps (code-from bs) → Both m (found m (code-from bs)) (found m (split-from n bs))
  starts-by m pre [] e n l k = inr (refl, refl)
  starts-by m pre (b ∷ after) e n l k =
      let z = number_behind live f v ms n (b ∷ []) in
      let c = block_split live f v ms n b in
      go (nat_eq b.number m) refl (block-faces pre b after e n l k)
      (starts-by m (pre ++ b ∷ []) after (append_assoc pre (b ∷ []) after ∙ e) z (laid-after pre b after e n l k) (keep-after pre b after e n l k))
    where
      go : (x : Bool) → nat_eq b.number m ≡ x → Faces (begin b.number) (map (point_item t f b) b.instrs ++ (block_end t f b after ∷ code-from after)) (map (point_item t g (block_split live f v ms n b)) (block_split live f v ms n b).instrs ++ (block_end t g (block_split live f v ms n b) (blocks_split live f v ms (number_behind live f v ms n (b ∷ [])) after) ∷ split-from (number_behind live f v ms n (b ∷ [])) after)) →
          Both m (found m (code-from after)) (found m (split-from (number_behind live f v ms n (b ∷ [])) after)) →
          Both m (cond x (map (point_item t f b) b.instrs ++ (block_end t f b after ∷ code-from after)) (found m (map (point_item t f b) b.instrs ++ (block_end t f b after ∷ code-from after)))) (cond x (map (point_item t g (block_split live f v ms n b)) (block_split live f v ms n b).instrs ++ (block_end t g (block_split live f v ms n b) (blocks_split live f v ms (number_behind live f v ms n (b ∷ [])) after) ∷ split-from (number_behind live f v ms n (b ∷ [])) after)) (found m (map (point_item t g (block_split live f v ms n b)) (block_split live f v ms n b).instrs ++ (block_end t g (block_split live f v ms n b) (blocks_split live f v ms (number_behind live f v ms n (b ∷ [])) after) ∷ split-from (number_behind live f v ms n (b ∷ [])) after))))
      go true y h ih = inl (subst (λ w. Facing t f v count C D begin (begin w) (map (point_item t f b) b.instrs ++ (block_end t f b after ∷ code-from after)) (map (point_item t g (block_split live f v ms n b)) (block_split live f v ms n b).instrs ++ (block_end t g (block_split live f v ms n b) (blocks_split live f v ms (number_behind live f v ms n (b ∷ [])) after) ∷ split-from (number_behind live f v ms n (b ∷ [])) after))) (eqb-true b.number m y) h)
      go false y h ih =
          subst (λ p. Both m p (found m (map (point_item t g (block_split live f v ms n b)) (block_split live f v ms n b).instrs ++ (block_end t g (block_split live f v ms n b) (blocks_split live f v ms (number_behind live f v ms n (b ∷ [])) after) ∷ split-from (number_behind live f v ms n (b ∷ [])) after)))) (sym (items-past t f m b b.instrs (block_end t f b after ∷ code-from after)))
          (subst (Both m (found m (code-from after))) (sym (items-past t g m (block_split live f v ms n b) (block_split live f v ms n b).instrs (block_end t g (block_split live f v ms n b) (blocks_split live f v ms (number_behind live f v ms n (b ∷ [])) after) ∷ split-from (number_behind live f v ms n (b ∷ [])) after))) ih)

  -- the places of a block, which these follow
  abbrev SpotsOf : Block → List Block → Type 0
  SpotsOf c behind = (before : List Instr) (x : Instr) (back : List Instr) → before ++ x ∷ back ≡ c.instrs → Spot t f v count C D begin x.id (point_item t g c x) (code-behind t g c behind back)

  block-spots : (pre : List Block) (b : Block) (after : List Block) → pre ++ b ∷ after ≡ f.blocks → (n : ℕ) → LaidOut C (code-from (b ∷ after)) → Keeps (code-from (b ∷ after)) → SpotsOf (block_split live f v ms n b) (blocks_split live f v ms (number_behind live f v ms n (b ∷ [])) after)
  block-spots pre b after blocks n laid keep before x back w =
      let c = block_split live f v ms n b in
      let k = number_behind live f v ms n (b ∷ []) in
      let mb = member-behind pre b after f.blocks blocks in
      subst (λ y. Spot t f v count C D begin x.id (point_item t g c x) (map (point_item t g c) back ++ (y ∷ split-from k after))) (sym (ends-alike pre b after blocks n laid keep))
      (spots pre b after blocks c refl refl (split-from k after) laid.0 [] b.instrs refl n (begin b.number) (start-fits ms b.number) (meet b mb) keep.1 before x back w)

  spots-by : (pre bs : List Block) → pre ++ bs ≡ f.blocks → (n : ℕ) → LaidOut C (code-from bs) → Keeps (code-from bs) → (before : List Block) (c : Block) (behind : List Block) → before ++ c ∷ behind ≡ blocks_split live f v ms n bs → SpotsOf c behind
  spots-by pre [] e n l k before c behind w = absurd (none-here before c behind w)
  spots-by pre (b ∷ after) e n l k before c behind w =
      let z = number_behind live f v ms n (b ∷ []) in
      go (block-spots pre b after e n l k) (spots-by (pre ++ b ∷ []) after (append_assoc pre (b ∷ []) after ∙ e) z (laid-after pre b after e n l k) (keep-after pre b after e n l k))
      (cut before c behind (block_split live f v ms n b) (blocks_split live f v ms z after) w)
    where
      go : SpotsOf (block_split live f v ms n b) (blocks_split live f v ms (number_behind live f v ms n (b ∷ [])) after)
          → ((before : List Block) (c : Block) (behind : List Block) → before ++ c ∷ behind ≡ blocks_split live f v ms (number_behind live f v ms n (b ∷ [])) after → SpotsOf c behind)
          → Cut before c behind (block_split live f v ms n b) (blocks_split live f v ms (number_behind live f v ms n (b ∷ [])) after) → SpotsOf c behind
      go one rest (at-first q s j) = subst (λ d. SpotsOf d behind) (sym s) (subst (SpotsOf (block_split live f v ms n b)) (sym j) one)
      go one rest (further ys j) = rest ys c behind j

-- what is split
module _ (t : Target) (f : Function) (v : ℕ) (ms : List Mark) (live : Point → Bool) (tests : Tests (RangeLive t f v) live) (low : Suits t f) (meet : LabelsAgree t f v ms) where
  abbrev pub whole-split : Function
  whole-split = split_by live f v ms

  bare-split : has_no_phis t (blocks_split live f v ms f.next_id f.blocks) ≡ true
  bare-split = blocks-without-phis t f v ms live tests low meet f.next_id f.blocks (no-phis t f v ms live tests low meet)

  abbrev pub number : ℕ
  number = greatest_label ms + 1

  abbrev pub label-at : ℕ → ℕ
  label-at n = start_label ms n

  pub all-starts : (n : ℕ) → Facing t f v number (points_of t f) (points_of t whole-split) label-at (start_label ms n) (found n (points_of t f)) (found n (points_of t whole-split)) ⊎ ((found n (points_of t f) ≡ []) × (found n (points_of t whole-split) ≡ []))
  unfolding split_by points_of
  all-starts n = starts-by t f whole-split v ms live tests low meet refl bare-split n [] f.blocks refl f.next_id low.laid_out (keep-all t f whole-split v ms live tests low meet)

  pub all-spots : (before : List Block) (c : Block) (behind : List Block) → before ++ c ∷ behind ≡ whole-split.blocks → (front : List Instr) (x : Instr) (back : List Instr) → front ++ x ∷ back ≡ c.instrs → Spot t f v number (points_of t f) (points_of t whole-split) label-at x.id (point_item t whole-split c x) (code-behind t whole-split c behind back)
  unfolding split_by points_of
  all-spots before c behind w = spots-by t f whole-split v ms live tests low meet refl bare-split [] f.blocks refl f.next_id low.laid_out (keep-all t f whole-split v ms live tests low meet) before c behind w
