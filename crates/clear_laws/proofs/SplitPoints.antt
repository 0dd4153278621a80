-- Other ranges and units are live and occupied behind a split at most as they were, at copies too.
use Rattle.std.proofs.Common.{◌≡◌, ◌<◌, ◌≤◌, ◌+◌, ◌&&◌, ◌⊎◌, inl, inr, ◌++◌, ◌∙◌, ℕ, zero, suc, Bool, true, false, cond, List, [], ◌∷◌, Option, Some, None, map, length, replicate, refl, sym, ap, subst, arith, append_assoc}
use Rattle.std.specs.Prelude.{nat_eq, nat_lt, option_map, slice_get}
use Rattle.std.proofs.lemmas.Bool.{ltb-false, ltb-true, ne_eqb}
use Rattle.target_base.specs.declared.types.Effect.{Effect}
use Rattle.target_base.specs.declared.types.Target.{Target}
use Rattle.target_base.specs.Numbers.{op_number}
use Rattle.target_base.specs.Roles.{is_silent}
use Rattle.target_base.specs.Rules.{is_phi}
use Rattle.meaning.specs.Code.{Code, Counted, Item, Silent, found}
use Rattle.meaning.specs.Lanes.{same_lane}
use Rattle.meaning.specs.Live.{Among as Member, Live, OccupiedAfter, OccupiedBefore, after_leap, after_next, after_phi, in_order, kept, leap, next, phi, read, store}
use Rattle.meaning.specs.declared.types.Fill.TheVariants.{Moved}
use Rattle.meaning.specs.declared.types.Lane.{Lane}
use Rattle.meaning.specs.declared.types.Lane.TheVariants.{SlotLane, UnitLane, VirtualLane}
use Rattle.meaning.specs.declared.types.Source.TheVariants.{FromLane}
use Rattle.meaning.specs.declared.types.Write.{Write}
use Rattle.mir_func.specs.declared.func.Instr.{Instr}
use Rattle.mir_func.specs.declared.func.Block.{Block}
use Rattle.mir_func.specs.Value.{Function}
use Rattle.mir_func.specs.Edits.{made}
use Rattle.mir_func.specs.Binding.{class_of, does, effect_of, is_early_clobber, is_terminator, passes, roles_of}
use Rattle.mir_meaning.specs.Registers.{is_reserved, numbers, range_widths}
use Rattle.mir_meaning.specs.Items.{counted_writes, defined_undef, rest_of, silent_reads, silent_writes, values}
use Rattle.mir_meaning.specs.Codes.{blocks_code, effect_item, item_of, target_of, way, ways_out}
use Rattle.mir_meaning.specs.Points.{AtFirst, Entry, Exit, OccupiedAt, Point, Start, Tests, from_instr, has_no_phis, point_item, points_of}
use Rattle.mir_meaning.specs.Rules.{block_numbers}
use Rattle.live_lanes.specs.declared.ask.labels.Mark.{Mark}
use Rattle.live_laws.proofs.Effects.Blocks.{numbers-apart}
use Rattle.live_laws.proofs.Effects.Moved.{Apart}
use Rattle.instr_effects.proofs.Members.{member-elim, member-none}
use Rattle.lowering_laws.specs.Shapes.{IsLowered}
use Rattle.split_kit.specs.Split.{RangeLive, Split, block_split, greatest_label, part, split_by, whole}
use Rattle.split_laws.specs.Laws.{IsOther, IsPointOf, IsSame, LabelsAgree}
use Rattle.split_laws.proofs.Copies.{moves, moves-other}
use Rattle.split_laws.proofs.Ends.{copy-effect, copy-item}
use Rattle.split_laws.proofs.Instrs.{split-of}
use Rattle.split_laws.proofs.Kept.{split_keeps_lowered}
use Rattle.split_laws.proofs.Laid.{found-at}
use Rattle.split_laws.proofs.Others.{others_stay}
use Rattle.split_laws.proofs.Splitting.{as-item, blocks-without-phis, copy-moves, member-behind, no-phis, suits}
use Rattle.split_laws.proofs.Suits.{Suits}
use Rattle.clear_laws.specs.Apart.{IsBeside, KeepsPoints}
use Rattle.clear_laws.specs.Edits.{SplitKeepsApart, SplitKeepsPoints}
use Rattle.clear_laws.proofs.Ids.{id-below}
use Rattle.clear_laws.proofs.Places.{Place, code-behind, code-here, place-of}
use Rattle.clear_laws.proofs.Registers.{points_apart}
use Rattle.clear_laws.proofs.SplitPlaces.{IsCopy, Stands, block-stands, follows, had, leads}

-- items of instructions go on in order
pub item-order : (t : Target) (f : Function) (b : Block) (i : Instr) → in_order (point_item t f b i) ≡ true
unfolding point_item item_of
item-order t f b i = go (does is_phi t i) (effect_of t i)
  where
    by : (e : Effect) (s : Bool) → in_order (cond s (Silent (silent_reads t f e i.operands) (silent_writes t f e (is_early_clobber (roles_of t i)) i.operands)) (Counted (rest_of t f e i) (map (λ x. x.0) (values t f e i)) (counted_writes t f e i) (option_map (way t f b.number) (target_of i.operands)) (cond (is_terminator e) (ways_out t f b) []))) ≡ true
    by e true = refl
    by e false = refl

    go : (c : Bool) (q : Option Effect) → in_order (cond c (Silent [] (defined_undef t f i.operands)) (elim q as (λ o. Item) [ None ↦ Silent [] [] | Some e ↦ effect_item t f b i e ])) ≡ true
    go true q = refl
    go false None = refl
    go false (Some e) = by e (is_silent e)

-- lanes of a copy

unlike : (to : ℕ) (n : ℕ) (l : Lane) → n ≤ to → ((w k : ℕ) → l ≡ VirtualLane w k → w < n) → (k : ℕ) → same_lane (VirtualLane to k) l ≡ false
unlike to n (VirtualLane w j) h g k = ap (λ b. b && nat_eq k j) (ne_eqb to w (λ e. (let z = g w j refl in omega arith)))
unlike to n (UnitLane u) h g k = refl
unlike to n (SlotLane s j x) h g k = refl

written : (to from : ℕ) (ks : List ℕ) (w : Write) → Member w (moves to from ks) → ((k : ℕ) × (w.lane ≡ VirtualLane to k)) × (w.early ≡ false)
written to from [] w m = absurd (member-none w m)
written to from (k ∷ ks) w m =
    member-elim w (record { lane = VirtualLane to k; fill = Moved (FromLane (VirtualLane from k)); early = false }) (moves to from ks)
    (λ e. ((k, ap (λ (x : Write). x.lane) e), ap (λ (x : Write). x.early) e))
    (λ j. written to from ks w j) m

beside-number : (f : Function) (v : ℕ) (l : Lane) → IsBeside f v l → (w k : ℕ) → l ≡ VirtualLane w k → w < length f.classes
beside-number f v l b w k e = (subst (IsBeside f v) e b).0

other : (f : Function) (v : ℕ) (l : Lane) → IsBeside f v l → IsOther f v l
other f v (VirtualLane w k) b = b
other f v (UnitLane u) b = tt
other f v (SlotLane s k w) b = tt

pub free : {reserved : Lane → Bool} {code p : Code} {l : Lane} → Live reserved code p l → reserved l ≡ false
free (read x y r) = r
free (next o live f r) = r
free (leap x live g f r) = r
free (phi x y g f r) = r
free (store w o live f n r) = r
free (kept s f r) = r

pub front-stays : {X : Type 0} (xs ys : List X) (n : ℕ) → n < length xs → slice_get (xs ++ ys) n ≡ slice_get xs n
front-stays [] ys n h = absurd (omega arith)
front-stays (x ∷ xs) ys zero h = refl
front-stays (x ∷ xs) ys (suc n) h = front-stays xs ys n (omega arith)

-- A copy stands before q: what is live or occupied at its entry or its exit is live at its entry, but for its own lanes.
module _ (R : Lane → Bool) (D : Code) (to from n : ℕ) (ks : List ℕ) (q : Code) (above : n ≤ to) (l : Lane) (small : (w k : ℕ) → l ≡ VirtualLane w k → w < n) where
  abbrev item : Item
  item = Silent [] (moves to from ks)

  no-write : (w : Write) → Member w (moves to from ks) → w.lane ≡ l → ⊥
  no-write w m e = let z = written to from ks w m in let y : l ≡ VirtualLane to z.0.0 = sym e ∙ z.0.1 in let s = small to z.0.0 y in omega arith

  pub entered : OccupiedBefore R D item q l → Live R D (item ∷ q) l
  entered (inl h, r) = h
  entered (inr z, r) = absurd (no-write z.0 z.1 z.2)

  pub left : OccupiedAfter R D item q l → Live R D (item ∷ q) l
  left (inl (after_next o h), r) = next refl h (moves-other to from ks l (unlike to n l above small)) r
  left (inl (after_leap m h g), r) = absurd (member-none _ m)
  left (inl (after_phi m k g), r) = absurd (member-none _ m)
  left (inr z, r) = absurd (no-write z.0 z.1 z.2)

-- range v of f is split to g
module _ (t : Target) (f : Function) (v : ℕ) (ms : List Mark) (live : Point → Bool) (tests : Tests (RangeLive t f v) live) (low : IsLowered t f) (meet : LabelsAgree t f v ms) where
  abbrev g : Function
  g = split_by live f v ms

  abbrev count : ℕ
  count = greatest_label ms + 1

  abbrev D : Code
  D = points_of t g

  abbrev R : Lane → Bool
  R = is_reserved t

  suit : Suits t f
  suit = suits t f low

  split : Split t f v ms g
  split = (live, tests, refl)

  low-split : IsLowered t g
  low-split = split_keeps_lowered t f g v ms low meet split

  same : (p : Point) → IsPointOf f p → (l : Lane) → IsBeside f v l → IsSame t f g p l
  same p h l b = others_stay t f g v ms low meet split p h l (other f v l b)

  bare : has_no_phis t g.blocks ≡ true
  unfolding split_by
  bare = blocks-without-phis t f v ms live tests suit meet f.next_id f.blocks (no-phis t f v ms live tests suit meet)

  longer : g.classes ≡ f.classes ++ replicate count (class_of f v)
  unfolding split_by
  longer = refl

  blocks-are : (c : Block) → Member c g.blocks → (m : ℕ) × (b : Block) × Member b f.blocks × (c ≡ block_split live f v ms m b)
  unfolding split_by
  blocks-are c m = split-of live f v ms f.next_id f.blocks c m

  copy-point : (c : Block) (id from to : ℕ) → from < count → to < count → point_item t g c (made id (op_number 0) (whole true (part f to) ∷ whole false (part f from) ∷ [])) ≡ Silent [] (moves (part f to) (part f from) (numbers 0 (length (range_widths t f v))))
  copy-point c id from to h k =
      let os = whole true (part f to) ∷ whole false (part f from) ∷ [] in
      as-item t g c (made id (op_number 0) os) (ap (passes is_phi) (copy-effect t id os))
      ∙ (copy-item t g c id os ∙ ap (Silent []) (copy-moves t f g v ms live tests suit meet longer bare from to h k))

  -- a lane that is live at a place is live or occupied at a point of the function
  abbrev Told : Code → Point → Type 0
  Told r q = (l : Lane) → IsBeside f v l → Live R D r l → OccupiedAt t f q l

  module _ (pre : List Block) (c : Block) (after : List Block) (blocks : pre ++ c ∷ after ≡ g.blocks) (front : List Instr) (x : Instr) (back : List Instr) (instrs : front ++ x ∷ back ≡ c.instrs) where
    abbrev from-place : List Instr → Code
    from-place is = code-behind t g c after is

    first-told : front ≡ [] → Told (from-place (x ∷ back)) (Start c.number)
    unfolding points_of
    first-told e l b h =
        (same (Start c.number) tt l b).occupied.1
        (subst (λ p. Live R D p l) (sym here) h)
      where
        here : found c.number D ≡ from-place (x ∷ back)
        here =
            ap (λ bs. found c.number (blocks_code (point_item t g) t g bs)) (sym blocks)
            ∙ (found-at t g low-split pre c after (subst (λ bs. Apart (block_numbers bs)) (sym blocks) (numbers-apart g low-split.rules.blocks))
            ∙ ap from-place (sym instrs ∙ ap (λ is. is ++ x ∷ back) e))

    behind-told : (start : List Instr) (y : Instr) → front ≡ start ++ y ∷ [] → y.id < f.next_id → Told (from-place (x ∷ back)) (Exit y.id)
    behind-told start y e h l b live =
        (same (Exit y.id) h l b).occupied.1
        (subst (AtFirst (λ i p. OccupiedAfter R D i p l)) (sym here) (inl (after_next (item-order t g c y) live), free live))
      where
        here : from_instr t g y.id g.blocks ≡ from-place (y ∷ x ∷ back)
        here = code-here t g low-split.function pre c after blocks start y (x ∷ back) (sym (append_assoc start (y ∷ []) (x ∷ back)) ∙ (ap (λ is. is ++ x ∷ back) (sym e) ∙ instrs))

    copy-told : (q : Point) → IsCopy live f v ms x → Told (from-place (x ∷ back)) q → (l : Lane) → IsBeside f v l → (OccupiedAt t g (Entry x.id) l → OccupiedAt t f q l) × (OccupiedAt t g (Exit x.id) l → OccupiedAt t f q l)
    copy-told q z told l b = (
      (λ h. told l b (subst (λ i. Live R D (i ∷ from-place back) l) (sym one) (entered R D (part f z.to) (part f z.from) (length f.classes) ks (from-place back) (omega arith) l (beside-number f v l b)
          (subst (λ i. OccupiedBefore R D i (from-place back) l) one (subst (AtFirst (λ i p. OccupiedBefore R D i p l)) here h))))),
      (λ h. told l b (subst (λ i. Live R D (i ∷ from-place back) l) (sym one) (left R D (part f z.to) (part f z.from) (length f.classes) ks (from-place back) (omega arith) l (beside-number f v l b)
          (subst (λ i. OccupiedAfter R D i (from-place back) l) one (subst (AtFirst (λ i p. OccupiedAfter R D i p l)) here h))))),
    )
      where
        ks : List ℕ
        ks = numbers 0 (length (range_widths t f v))

        one : point_item t g c x ≡ Silent [] (moves (part f z.to) (part f z.from) (numbers 0 (length (range_widths t f v))))
        one = ap (point_item t g c) z.is ∙ copy-point c z.id z.from z.to z.from_fits z.to_fits

        here : from_instr t g x.id g.blocks ≡ from-place (x ∷ back)
        here = code-here t g low-split.function pre c after blocks front x back instrs

    inside : Member c g.blocks
    inside = member-behind pre c after g.blocks blocks

    -- at a copy
    new-told : (f.next_id ≤ x.id) → (q : Point) × ((l : Lane) → IsBeside f v l → (OccupiedAt t g (Entry x.id) l → OccupiedAt t f q l) × (OccupiedAt t g (Exit x.id) l → OccupiedAt t f q l))
    new-told above = go stands
      where
        z : (m : ℕ) × (b : Block) × Member b f.blocks × (c ≡ block_split live f v ms m b)
        z = blocks-are c inside

        stands : Stands live f v ms front x
        stands = block-stands live f v ms z.1 z.0 (λ i m. id-below f low.function z.1 z.2 i m) front x back (instrs ∙ ap (λ (d : Block). d.instrs) z.3)

        go : Stands live f v ms front x → (q : Point) × ((l : Lane) → IsBeside f v l → (OccupiedAt t g (Entry x.id) l → OccupiedAt t f q l) × (OccupiedAt t g (Exit x.id) l → OccupiedAt t f q l))
        go (had h) = absurd (omega arith)
        go (leads i e) = (Start c.number, copy-told (Start c.number) i (first-told e))
        go (follows i start y e h) = (Exit y.id, copy-told (Exit y.id) i (behind-told start y e h))

  Both : ℕ → Type 0
  Both id = (q : Point) × ((l : Lane) → IsBeside f v l → (OccupiedAt t g (Entry id) l → OccupiedAt t f q l) × (OccupiedAt t g (Exit id) l → OccupiedAt t f q l))

  further : (id : ℕ) → f.next_id ≤ id → Both id
  unfolding Both
  further id above = go (place-of t g id g.blocks)
    where
      go : (from_instr t g id g.blocks ≡ []) ⊎ Place id g.blocks → Both id
      go (inl e) = (
        Start 0,
        (λ l b. (
          (λ h. absurd (subst (AtFirst (λ i p. OccupiedBefore R D i p l)) e h)),
          (λ h. absurd (subst (AtFirst (λ i p. OccupiedAfter R D i p l)) e h)),
        )),
      )
      go (inr z) =
          subst Both z.inside.named
          (new-told z.pre z.block z.after z.blocks z.inside.front z.inside.instr z.inside.back z.inside.whole (subst (λ n. f.next_id ≤ n) (sym z.inside.named) above))

  keeps : KeepsPoints t f v g
  unfolding Both
  keeps (Start n) = (Start n, λ l b h. (same (Start n) tt l b).occupied.1 h)
  keeps (Entry id) = go (nat_lt id f.next_id) refl
    where
      go : (c : Bool) → nat_lt id f.next_id ≡ c → (q : Point) × ((l : Lane) → IsBeside f v l → OccupiedAt t g (Entry id) l → OccupiedAt t f q l)
      go true e = (Entry id, λ l b h. (same (Entry id) (ltb-true id f.next_id e) l b).occupied.1 h)
      go false e = let z = further id (ltb-false id f.next_id e) in (z.0, λ l b h. (z.1 l b).0 h)
  keeps (Exit id) = go (nat_lt id f.next_id) refl
    where
      go : (c : Bool) → nat_lt id f.next_id ≡ c → (q : Point) × ((l : Lane) → IsBeside f v l → OccupiedAt t g (Exit id) l → OccupiedAt t f q l)
      go true e = (Exit id, λ l b h. (same (Exit id) (ltb-true id f.next_id e) l b).occupied.1 h)
      go false e = let z = further id (ltb-false id f.next_id e) in (z.0, λ l b h. (z.1 l b).1 h)

  classes-stay : (w : ℕ) → w < length f.classes → slice_get g.classes w ≡ slice_get f.classes w
  unfolding split_by
  classes-stay w h = front-stays f.classes (replicate count (class_of f v)) w h

pub split_keeps_points : SplitKeepsPoints
split_keeps_points t f g v ms low meet s = subst (KeepsPoints t f v) (sym s.2) (keeps t f v ms s.0 s.1 low meet)

pub split_apart : SplitKeepsApart
split_apart t f g v ms rs new low meet s none x h =
    points_apart t f g v rs new
    (subst (λ (q : Function). (w : ℕ) → w < length f.classes → slice_get q.classes w ≡ slice_get f.classes w) (sym s.2) (classes-stay t f v ms s.0 s.1 low meet))
    (split_keeps_points t f g v ms low meet s) none x h
