-- The lanes that become one by a join, and that all lanes of ranges which are live, written or named are lanes of their classes.
use Rattle.std.proofs.Common.{◌≡◌, ◌⊎◌, inl, inr, ◌<◌, ◌∙◌, ◌+◌, ◌&&◌, ℕ, zero, suc, Bool, true, false, cond, List, [], ◌∷◌, Option, Some, None, length, get_or, refl, sym, ap, subst, arith, eq-eqb, eqb-true}
use Rattle.std.specs.Prelude.{nat_eq, nat_lt, option_map, position, slice_get, slice_index}
use Rattle.std.specs.List.{position_or_len}
use Rattle.std.proofs.lemmas.Bool.{lt-ltb, ltb-true}
use Rattle.std.proofs.lemmas.Option.{get_or_from_slice_get, same_Some, slice_get_within}
use Rattle.std.proofs.lemmas.List.{length-map}
use Rattle.std.proofs.lemmas.List.Quantifiers.{position-Some}
use Rattle.std.proofs.lemmas.List.Sums.{position_or_len_is}
use Rattle.target_base.specs.declared.types.ClassId.{ClassId}
use Rattle.target_base.specs.declared.types.IndexId.{IndexId}
use Rattle.target_base.specs.declared.types.Target.{Target}
use Rattle.target_base.specs.Registers.{lanes_of, widths_of_some}
use Rattle.target_base.specs.Rules.{is_phi}
use Rattle.meaning.specs.declared.types.Lane.{Lane}
use Rattle.meaning.specs.declared.types.Lane.TheVariants.{SlotLane, UnitLane, VirtualLane}
use Rattle.meaning.specs.declared.types.Write.{Write}
use Rattle.meaning.specs.Lanes.{same_lane}
use Rattle.meaning.specs.Code.{Code, Silent}
use Rattle.meaning.specs.Live.{Among as Member, Live, LiveAfter, OccupiedAfter, OccupiedBefore, here as first, there as later, is_slot, writes_of}
use Rattle.mir_func.specs.declared.func.RegOp.{RegOp}
use Rattle.mir_func.specs.declared.func.Instr.{Instr}
use Rattle.mir_func.specs.declared.func.Block.{Block}
use Rattle.mir_func.specs.Value.{Function}
use Rattle.mir_func.specs.Binding.{does, registers}
use Rattle.mir_meaning.specs.Codes.{item_of}
use Rattle.mir_meaning.specs.Items.{defined_undef}
use Rattle.mir_meaning.specs.Points.{AtFirst, Entry, Exit, LiveAt, OccupiedAt, Point, Start, from_instr, point_item, points_of}
use Rattle.mir_meaning.specs.Registers.{is_reserved, operand_lanes, range_widths}
use Rattle.mir_meaning.specs.Rules.{V8}
use Rattle.instr_effects.specs.declared.lanes.LaneTable.{LaneTable}
use Rattle.instr_effects.specs.declared.owner.Owner.TheVariants as owners
use Rattle.instr_effects.specs.declared.row.LaneSpan.{LaneSpan}
use Rattle.instr_effects.specs.Numbered.{NumbersAll, number_in}
use Rattle.instr_effects.specs.Numbers.{row_number_in}
use Rattle.instr_effects.specs.Stepping.{tag_of}
use Rattle.live_lanes.specs.declared.live.LiveFunc.{LiveFunc}
use Rattle.live_laws.specs.Effects.Shaped.{is_proper}
use Rattle.live_laws.specs.Effects.Coded.{IsNumbered}
use Rattle.live_laws.proofs.Effects.Blocks.{slice-map}
use Rattle.live_laws.proofs.Effects.Instrs.{written-law}
use Rattle.live_laws.proofs.Effects.Lists.{lanes-apart}
use Rattle.live_laws.proofs.Effects.Moved.{Apart}
use Rattle.live_laws.proofs.Exact.Everywhere.{numbered-at}
use Rattle.live_laws.proofs.Exact.Inside.{numbered}
use Rattle.live_laws.proofs.Exact.Quiet.{is_range_lane}
use Rattle.live_edits.specs.declared.fold.Join.{Join}
use Rattle.live_edits.specs.Folded.{image, lane_within}
use Rattle.join_laws.specs.Joined.{join_at}
use Rattle.lowering_laws.proofs.Found.{same-self}
use Rattle.join_laws.proofs.Asked.{IsAsked, asked, same-not}
use Rattle.join_laws.proofs.Named.{known, not-phi}
use Rattle.coalescer.specs.Asked.{lane_in, partner, place_in}
use Rattle.coalescer.specs.Coalescing.{MayCoalesce}
pub use Rattle.coalescer.specs.QuietLaws.{IsLane}

-- lists of numbers that are apart

index-in : (xs : List ℕ) (i : ℕ) → i < length xs → Member (get_or xs i 0) xs
index-in [] i h = absurd (omega arith)
index-in (x ∷ xs) zero h = first
index-in (x ∷ xs) (suc i) h = later (index-in xs i (omega arith))

same-index : (xs : List ℕ) (i k : ℕ) → Apart xs → i < length xs → k < length xs → get_or xs i 0 ≡ get_or xs k 0 → i ≡ k
same-index [] i k a h g e = absurd (omega arith)
same-index (x ∷ xs) zero zero a h g e = refl
same-index (x ∷ xs) zero (suc k) a h g e = absurd (a.0 (subst (λ y. Member y xs) (sym e) (index-in xs k (omega arith))))
same-index (x ∷ xs) (suc i) zero a h g e = absurd (a.0 (subst (λ y. Member y xs) e (index-in xs i (omega arith))))
same-index (x ∷ xs) (suc i) (suc k) a h g e = ap suc (same-index xs i k a.1 (omega arith) (omega arith) e)

pub at-index : (xs : List ℕ) (i : ℕ) → i < length xs → slice_get xs i ≡ Some (get_or xs i 0)
at-index [] i h = absurd (omega arith)
at-index (x ∷ xs) zero h = refl
at-index (x ∷ xs) (suc i) h = at-index xs i (omega arith)

pub position-of : (xs : List ℕ) (k i : ℕ) → position (λ l. nat_eq l k) xs ≡ Some i → slice_get xs i ≡ Some k
position-of xs k i e = let z = position-Some (λ l. nat_eq l k) xs i 0 e in at-index xs i z.0 ∙ ap Some (eqb-true (get_or xs i 0) k z.1)

pub position-at : (xs : List ℕ) (k i : ℕ) → Apart xs → slice_get xs i ≡ Some k → position (λ l. nat_eq l k) xs ≡ Some i
position-at xs k i a e = ap (λ p. cond (nat_lt p (length xs)) (Some p) None) place ∙ ap (λ u. cond u (Some i) None) (lt-ltb i (length xs) within)
  where
    within : i < length xs
    within = slice_get_within xs i k e

    own : get_or xs i 0 ≡ k
    own = get_or_from_slice_get xs i k 0 e

    earlier : (n : ℕ) → n < i → nat_eq (get_or xs n 0) k ≡ false
    earlier n h = go (nat_eq (get_or xs n 0) k) refl
      where
        go : (u : Bool) → nat_eq (get_or xs n 0) k ≡ u → u ≡ false
        go true g = absurd (let z : n ≡ i = same-index xs n i a (omega (arith, within)) within (eqb-true (get_or xs n 0) k g ∙ sym own) in omega arith)
        go false g = refl

    place : position_or_len (λ l. nat_eq l k) xs ≡ i
    place = position_or_len_is (λ l. nat_eq l k) xs i 0 (omega (arith, within)) earlier (λ g. eq-eqb (get_or xs i 0) k own)

-- lanes of ranges

range-is : (v k w i : ℕ) → VirtualLane v k ≡ VirtualLane w i → (v ≡ w) × (k ≡ i)
range-is v k w i e = (cc, cc)

not-same : (l d : Lane) → l ≡ d → same_lane l d ≡ false → ⊥
not-same l d e h = let z : same_lane l d ≡ true = subst (λ x. same_lane l x ≡ true) e (same-self l) in cc

ranges-differ : (v k w i : ℕ) → nat_eq v w ≡ false → same_lane (VirtualLane v k) (VirtualLane w i) ≡ false
ranges-differ v k w i e = ap (λ u. u && nat_eq k i) e

-- among the lanes of an index
abbrev Within : Target → Option IndexId → ℕ → Type 0
Within t None k = Unit {0}
Within t (Some x) k = k < length (lanes_of t x)

module _ (t : Target) where
  one-lane : (q : Option IndexId) (i k : ℕ) → Within t q i → Within t q k → lane_within t q i ≡ lane_within t q k → i ≡ k
  one-lane None i k h g e = e
  one-lane (Some x) i k h g e = same-index (lanes_of t x) i k (lanes-apart t x) h g e

  placed : (q : Option IndexId) (i : ℕ) → Within t q i → place_in t q (lane_within t q i) ≡ Some i
  placed None i h = refl
  placed (Some x) i h = position-at (lanes_of t x) (slice_index (lanes_of t x) i) i (lanes-apart t x) (at-index (lanes_of t x) i h)

  picked : (q : Option IndexId) (k : ℕ) → Within t q k → lane_in t q k ≡ Some (lane_within t q k)
  picked None k h = refl
  picked (Some x) k h = at-index (lanes_of t x) k h

  from-place : (q : Option IndexId) (k i : ℕ) → place_in t q k ≡ Some i → lane_within t q i ≡ k
  from-place None k i e = sym (same_Some k i e)
  from-place (Some x) k i e = get_or_from_slice_get (lanes_of t x) i k 0 (position-of (lanes_of t x) k i e)

  from-pick : (q : Option IndexId) (k i : ℕ) → lane_in t q k ≡ Some i → lane_within t q k ≡ i
  from-pick None k i e = same_Some k i e
  from-pick (Some x) k i e = get_or_from_slice_get (lanes_of t x) k i 0 e

-- what becomes one

module _ (t : Target) (j : Join) where
  image-gone : (k : ℕ) → image t j (VirtualLane j.gone k) ≡ VirtualLane j.keep (lane_within t j.index k)
  image-gone k = ap (λ u. cond u (VirtualLane j.keep (lane_within t j.index k)) (VirtualLane j.gone k)) (eq-eqb j.gone j.gone refl)

  image-other : (v k : ℕ) → nat_eq v j.gone ≡ false → image t j (VirtualLane v k) ≡ VirtualLane v k
  image-other v k e = ap (λ u. cond u (VirtualLane j.keep (lane_within t j.index k)) (VirtualLane v k)) e

  image-range : (v k : ℕ) → is_range_lane (image t j (VirtualLane v k)) ≡ true
  image-range v k = go (nat_eq v j.gone)
    where
      go : (u : Bool) → is_range_lane (cond u (VirtualLane j.keep (lane_within t j.index k)) (VirtualLane v k)) ≡ true
      go true = refl
      go false = refl

  not-range : (v k : ℕ) (l : Lane) → is_range_lane l ≡ false → image t j (VirtualLane v k) ≡ l → ⊥
  not-range v k l h e = let z : true ≡ false = sym (image-range v k) ∙ (ap is_range_lane e ∙ h) in cc

  -- no other lane becomes one with a unit's lane or a slot's
  pub not-writes : (l d : Lane) → is_range_lane d ≡ false → image t j l ≡ image t j d → same_lane l d ≡ false → ⊥
  not-writes l (VirtualLane w i) h e s = absurd (cc)
  not-writes (VirtualLane v k) (UnitLane u) h e s = not-range v k (UnitLane u) h e
  not-writes (VirtualLane v k) (SlotLane p i w) h e s = not-range v k (SlotLane p i w) h e
  not-writes (UnitLane u) (UnitLane w) h e s = not-same (UnitLane u) (UnitLane w) e s
  not-writes (UnitLane u) (SlotLane p i w) h e s = not-same (UnitLane u) (SlotLane p i w) e s
  not-writes (SlotLane p i w) (UnitLane u) h e s = not-same (SlotLane p i w) (UnitLane u) e s
  not-writes (SlotLane p i w) (SlotLane q k z) h e s = not-same (SlotLane p i w) (SlotLane q k z) e s

module _ (t : Target) (f : Function) (j : Join) (a : IsAsked t f j) where
  within : (k : ℕ) → k < length (range_widths t f j.gone) → Within t j.index k
  within k h = go j.index refl
    where
      go : (q : Option IndexId) → j.index ≡ q → Within t q k
      go None e = tt
      go (Some x) e =
          let same : length (range_widths t f j.gone) ≡ length (lanes_of t x) = ap length (a.part x e).widths ∙ length-map (lanes_of t x) (slice_index (range_widths t f j.keep)) in
          omega (arith, h, same)

  keep-stays : (k : ℕ) → image t j (VirtualLane j.keep k) ≡ VirtualLane j.keep k
  keep-stays k = image-other t j j.keep k (same-not j.gone j.keep a.differ)

  -- the lane is the one of the other range that becomes one with lane k of range v
  abbrev pub IsPartner : Lane → ℕ → ℕ → Type 0
  IsPartner l v k = ((v ≡ j.keep) ⊎ (v ≡ j.gone)) × (b : ℕ × ℕ) × (partner t j v k ≡ Some b) × (l ≡ VirtualLane b.0 b.1)

  of-keep : (k : ℕ) → partner t j j.keep k ≡ option_map (λ i. (j.gone, i)) (place_in t j.index k)
  of-keep k = ap (λ u. cond u (option_map (λ i. (j.gone, i)) (place_in t j.index k)) (option_map (λ i. (j.keep, i)) (lane_in t j.index k))) (eq-eqb j.keep j.keep refl)

  of-gone : (k : ℕ) → partner t j j.gone k ≡ option_map (λ i. (j.keep, i)) (lane_in t j.index k)
  of-gone k = ap (λ u. cond u (option_map (λ i. (j.gone, i)) (place_in t j.index k)) (option_map (λ i. (j.keep, i)) (lane_in t j.index k))) a.differ

  -- two lanes of ranges, both of their classes, that become one are partners
  pub partner-of : (l : Lane) (v k : ℕ) → IsLane t f l → IsLane t f (VirtualLane v k) → image t j l ≡ image t j (VirtualLane v k) → same_lane l (VirtualLane v k) ≡ false → IsPartner l v k
  partner-of (UnitLane u) v k hl hv e d = absurd (not-range t j v k (UnitLane u) refl (sym e))
  partner-of (SlotLane s i w) v k hl hv e d = absurd (not-range t j v k (SlotLane s i w) refl (sym e))
  partner-of (VirtualLane u i) v k hl hv e d = go (nat_eq u j.gone) (nat_eq v j.gone) refl refl
    where
      at-gone : (w n : ℕ) → nat_eq w j.gone ≡ true → n < length (range_widths t f w) → Within t j.index n
      at-gone w n g h = within n (subst (λ x. n < length (range_widths t f x)) (eqb-true w j.gone g) h)

      go : (p q : Bool) → nat_eq u j.gone ≡ p → nat_eq v j.gone ≡ q → IsPartner (VirtualLane u i) v k
      go true true p q =
          let one : u ≡ v = eqb-true u j.gone p ∙ sym (eqb-true v j.gone q) in
          let ends = range-is j.keep (lane_within t j.index i) j.keep (lane_within t j.index k) (sym (ap (λ z. cond z (VirtualLane j.keep (lane_within t j.index i)) (VirtualLane u i)) p) ∙ e ∙ ap (λ z. cond z (VirtualLane j.keep (lane_within t j.index k)) (VirtualLane v k)) q) in
          let lane : i ≡ k = one-lane t j.index i k (at-gone u i p hl) (at-gone v k q hv) ends.1 in
          absurd (not-same (VirtualLane u i) (VirtualLane v k) (λ z. VirtualLane (one z) (lane z)) d)
      go true false p q =
          let ends = range-is j.keep (lane_within t j.index i) v k (sym (ap (λ z. cond z (VirtualLane j.keep (lane_within t j.index i)) (VirtualLane u i)) p) ∙ e ∙ image-other t j v k q) in
          let there : place_in t j.index k ≡ Some i = ap (place_in t j.index) (sym ends.1) ∙ placed t j.index i (at-gone u i p hl) in
          (inl (sym ends.0), (j.gone, i), subst (λ w. partner t j w k ≡ Some (j.gone, i)) ends.0 (of-keep k ∙ ap (option_map (λ i. (j.gone, i))) there), ap (λ w. VirtualLane w i) (eqb-true u j.gone p))
      go false true p q =
          let ends = range-is u i j.keep (lane_within t j.index k) (sym (image-other t j u i p) ∙ e ∙ ap (λ z. cond z (VirtualLane j.keep (lane_within t j.index k)) (VirtualLane v k)) q) in
          let there : lane_in t j.index k ≡ Some i = picked t j.index k (at-gone v k q hv) ∙ ap Some (sym ends.1) in
          (inr (eqb-true v j.gone q), (j.keep, i), subst (λ w. partner t j w k ≡ Some (j.keep, i)) (sym (eqb-true v j.gone q)) (of-gone k ∙ ap (option_map (λ i. (j.keep, i))) there), ap (λ w. VirtualLane w i) ends.0)
      go false false p q = absurd (not-same (VirtualLane u i) (VirtualLane v k) (sym (image-other t j u i p) ∙ e ∙ image-other t j v k q) d)

  abbrev Same : ℕ → ℕ → ℕ × ℕ → Type 0
  Same v k b = (image t j (VirtualLane b.0 b.1) ≡ image t j (VirtualLane v k)) × (same_lane (VirtualLane b.0 b.1) (VirtualLane v k) ≡ false)

  -- partners become one, and are two lanes
  pub partner-same : (v k : ℕ) (b : ℕ × ℕ) → (v ≡ j.keep) ⊎ (v ≡ j.gone) → partner t j v k ≡ Some b → Same v k b
  partner-same v k b (inl own) e = subst (λ w. Same w k b) (sym own) (go (place_in t j.index k) refl (sym (of-keep k) ∙ subst (λ w. partner t j w k ≡ Some b) own e))
    where
      go : (q : Option ℕ) → place_in t j.index k ≡ q → option_map (λ i. (j.gone, i)) q ≡ Some b → Same j.keep k b
      go None h g = absurd (cc)
      go (Some i) h g = subst (Same j.keep k) (same_Some (j.gone, i) b g) (
        image-gone t j i ∙ (ap (VirtualLane j.keep) (from-place t j.index k i h) ∙ sym (keep-stays k)),
        ranges-differ j.gone i j.keep k a.differ,
      )
  partner-same v k b (inr own) e = subst (λ w. Same w k b) (sym own) (go (lane_in t j.index k) refl (sym (of-gone k) ∙ subst (λ w. partner t j w k ≡ Some b) own e))
    where
      go : (q : Option ℕ) → lane_in t j.index k ≡ q → option_map (λ i. (j.keep, i)) q ≡ Some b → Same j.gone k b
      go None h g = absurd (cc)
      go (Some i) h g = subst (Same j.gone k) (same_Some (j.keep, i) b g) (
        keep-stays i ∙ (ap (VirtualLane j.keep) (sym (from-pick t j.index k i h)) ∙ sym (image-gone t j k)),
        ranges-differ j.keep i j.gone k (same-not j.gone j.keep a.differ),
      )

-- lanes with numbers

pub numbered-lane : (t : Target) (f : Function) (tab : LaneTable) → NumbersAll t f tab → (v k n : ℕ) → number_in tab (owners.Range v k) ≡ Some n → k < length (range_widths t f v)
numbered-lane t f tab all v k n e = go (slice_get tab.ranges.items v) (slice_get f.classes v) refl refl e same
  where
    same : option_map (λ x. x.count) (slice_get tab.ranges.items v) ≡ option_map (λ q. length (widths_of_some t q)) (slice_get f.classes v)
    same = sym (slice-map (λ x. x.count) tab.ranges.items v) ∙ ap (λ ns. slice_get ns v) all.ranges ∙ slice-map (λ q. length (widths_of_some t q)) f.classes v

    here : (x : LaneSpan) → row_number_in (Some x) k ≡ Some n → k < x.count
    here x h = at (nat_lt k x.count) refl h
      where
        at : (u : Bool) → nat_lt k x.count ≡ u → cond u (Some (x.first + k)) None ≡ Some n → k < x.count
        at true p g = ltb-true k x.count p
        at false p g = absurd (cc)

    go : (q : Option LaneSpan) (p : Option (Option ClassId)) → slice_get tab.ranges.items v ≡ q → slice_get f.classes v ≡ p → row_number_in q k ≡ Some n → option_map (λ x. x.count) q ≡ option_map (λ q. length (widths_of_some t q)) p
        → k < length (widths_of_some t (elim p as (λ q. Option ClassId) [ None ↦ None | Some c ↦ c ]))
    go None p a b h s = absurd (cc)
    go (Some x) None a b h s = absurd (cc)
    go (Some x) (Some c) a b h s = let long : x.count ≡ length (widths_of_some t c) = same_Some x.count (length (widths_of_some t c)) s in omega (arith, here x h, long)

as-item : (t : Target) (f : Function) (b : Block) (i : Instr) → does is_phi t i ≡ false → point_item t f b i ≡ item_of t f b i
unfolding point_item
as-item t f b i e = ap (λ c. cond c (Silent [] (defined_undef t f i.operands)) (item_of t f b i)) e

-- what is live, written or named

module _ (t : Target) (x : LiveFunc) (may : MayCoalesce t x) where
  pub lowered-item : (b : Block) (i : Instr) → Member b x.func.blocks → Member i b.instrs → point_item t x.func b i ≡ item_of t x.func b i
  lowered-item b i mb mi = as-item t x.func b i (not-phi t i (known t i (may.lowered.lowered b i mb mi)).1).0

  ends : (b : Block) (k : ℕ) (i : Instr) → Member b x.func.blocks → slice_get b.instrs k ≡ Some i → V8 t b k i ≡ true
  ends b k i mb e = may.lowered.terminators b k i mb e

  pub has-numbers : IsNumbered t x.func (number_in x.table.lanes)
  has-numbers = numbered t x.func x.table may.computed may.lowered.rules ends

  by-tag : (l : Lane) → ((n : ℕ) × (tag_of (number_in x.table.lanes) (is_proper t) l ≡ Some n)) → IsLane t x.func l
  by-tag (VirtualLane v k) z = numbered-lane t x.func x.table.lanes may.computed.numbers v k z.0 z.1
  by-tag (UnitLane u) z = tt
  by-tag (SlotLane s k w) z = tt

  pub occupied-lane : (p : Point) (l : Lane) → OccupiedAt t x.func p l → IsLane t x.func l
  occupied-lane p (VirtualLane v k) h = by-tag (VirtualLane v k) (numbered-at t x.func x.table may.computed may.lowered.rules ends (VirtualLane v k) refl p h)
  occupied-lane p (UnitLane u) h = tt
  occupied-lane p (SlotLane s k w) h = tt

  live-occupied : (p : Point) (v k : ℕ) → LiveAt t x.func p (VirtualLane v k) → OccupiedAt t x.func p (VirtualLane v k)
  live-occupied (Start n) v k h = h
  live-occupied (Entry id) v k h = go (from_instr t x.func id x.func.blocks) h
    where
      go : (c : Code) → Live (is_reserved t) (points_of t x.func) c (VirtualLane v k) → AtFirst (λ i p. OccupiedBefore (is_reserved t) (points_of t x.func) i p (VirtualLane v k)) c
      go [] h = elim h [ ]
      go (i ∷ p) h = (inl h, refl)
  live-occupied (Exit id) v k h = go (from_instr t x.func id x.func.blocks) h
    where
      go : (c : Code) → AtFirst (λ i p. LiveAfter (is_reserved t) (points_of t x.func) i p (VirtualLane v k)) c → AtFirst (λ i p. OccupiedAfter (is_reserved t) (points_of t x.func) i p (VirtualLane v k)) c
      go [] h = h
      go (i ∷ p) h = (inl h, refl)

  pub live-lane : (p : Point) (l : Lane) → LiveAt t x.func p l → IsLane t x.func l
  live-lane p (VirtualLane v k) h = occupied-lane p (VirtualLane v k) (live-occupied p v k h)
  live-lane p (UnitLane u) h = tt
  live-lane p (SlotLane s k w) h = tt

  pub written-lane : (b : Block) (i : Instr) (w : Write) → Member b x.func.blocks → Member i b.instrs → Member w (writes_of (item_of t x.func b i)) → IsLane t x.func w.lane
  written-lane b i w mb mi mw = go w.lane refl
    where
      go : (l : Lane) → w.lane ≡ l → IsLane t x.func l
      go (VirtualLane v k) e =
          let z = written-law t x.func (number_in x.table.lanes) may.lowered.rules has-numbers b i mb mi w (subst (λ y. Member w (writes_of y)) (sym (lowered-item b i mb mi)) mw) (ap (is_reserved t) e) (ap is_slot e) in
          by-tag (VirtualLane v k) (z.0, ap (tag_of (number_in x.table.lanes) (is_proper t)) (sym e) ∙ z.1)
      go (UnitLane u) e = tt
      go (SlotLane s k n) e = tt

  pub operand-lane : (b : Block) (i : Instr) (o : RegOp) (l : Lane) → Member b x.func.blocks → Member i b.instrs → Member o (registers i.operands) → Member l (operand_lanes t x.func o) → IsLane t x.func l
  operand-lane b i o (VirtualLane v k) mb mi mo ml = by-tag (VirtualLane v k) ((has-numbers.names b i mb mi).lanes o (VirtualLane v k) mo (inl ml) refl)
  operand-lane b i o (UnitLane u) mb mi mo ml = tt
  operand-lane b i o (SlotLane s k w) mb mi mo ml = tt

  -- what the copy of an id asks for
  pub asked-of : (id : ℕ) (j : Join) → join_at t x.func id ≡ Some j → IsAsked t x.func j
  asked-of id j e = asked t x.func id j may.lowered e
