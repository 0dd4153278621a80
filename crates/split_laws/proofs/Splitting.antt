-- A function with a range split is in step with it, by the homes of the labels.
use Rattle.std.proofs.Common.{◌≡◌, ◌<◌, ◌+◌, ◌⊎◌, inl, inr, not, ◌&&◌, ◌||◌, ◌++◌, ◌∙◌, ℕ, Bool, true, false, cond, List, [], ◌∷◌, Option, Some, None, map, length, replicate, refl, sym, ap, subst, arith, append_assoc, eqb-true}
use Rattle.std.specs.Prelude.{find, nat_eq, option_map}
use Rattle.std.specs.List.{list_all}
use Rattle.std.proofs.lemmas.Bool.{not-true}
use Rattle.target_base.specs.declared.types.Effect.{Effect}
use Rattle.target_base.specs.declared.types.Target.{Target}
use Rattle.target_base.specs.Numbers.{op_number, unit_number}
use Rattle.target_base.specs.Roles.{is_silent}
use Rattle.target_base.specs.Rules.{is_phi}
use Rattle.target_base.specs.Storage.{unit_width}
use Rattle.meaning.specs.Code.{BlockEnd, BlockStart, Code, Counted, Edge, Item, Silent, entry_lane, found, start_state}
use Rattle.meaning.specs.Environment.{Environment}
use Rattle.meaning.specs.InStep.{Agree, AtStarts, InStep, done, start}
use Rattle.meaning.specs.Lanes.{Homes, Writes, filled, settled, through}
use Rattle.meaning.specs.Layout.{FallsTo, LaidOut, NoPhisAlong, NoPhisInto}
use Rattle.meaning.specs.Live.{Among as Member, here as first, there as later, Kept, Live, LiveAfter, after_next, exits_of, in_order}
use Rattle.meaning.specs.Matched.{images}
use Rattle.meaning.specs.State.{fetch}
use Rattle.meaning.specs.declared.types.Lane.{Lane}
use Rattle.meaning.specs.declared.types.Lane.TheVariants.{SlotLane, UnitLane, VirtualLane}
use Rattle.meaning.specs.declared.types.Source.TheVariants.{FromLane}
use Rattle.laws.proofs.BlockEnds.{in-step-falls, in-step-stops}
use Rattle.laws.proofs.Places.{law_of_places}
use Rattle.mir_func.specs.declared.func.Edge.{Edge as Successor}
use Rattle.mir_func.specs.declared.func.Operand.{Operand}
use Rattle.mir_func.specs.declared.func.Instr.{Instr}
use Rattle.mir_func.specs.declared.func.Block.{Block}
use Rattle.mir_func.specs.Value.{Function}
use Rattle.mir_func.specs.Edits.{made}
use Rattle.mir_func.specs.Binding.{class_of, does, effect_of, is_early_clobber, is_lowered_away, is_terminator, passes, puts_together, roles_of}
use Rattle.mir_meaning.specs.Registers.{is_reserved, numbers, range_widths}
use Rattle.mir_meaning.specs.Items.{copied, counted_writes, defined_undef, moved, rest_of, silent_reads, silent_writes, values}
use Rattle.mir_meaning.specs.Codes.{block_end, blocks_code, code_of, effect_item, ends_without_terminator, fallen_into, falls_through, first_number, given_of, instrs_of, is_given, item_of, meaning_of, phi_operands, phis_written, refines, target_of, way, ways_out}
use Rattle.mir_meaning.specs.Points.{AtFirst, Entry, LiveAt, Point, Start, Tests, from_instr, has_no_phis, point_item, points_of}
use Rattle.mir_meaning.specs.Renaming.{renamed_instr, renamed_item}
use Rattle.mir_meaning.proofs.Points.{both, points_are_code}
use Rattle.mir_meaning.proofs.Renaming.{law_of_renaming}
use Rattle.instr_effects.proofs.Members.{map-of, member-none}
use Rattle.live_lanes.specs.declared.ask.labels.Mark.{Mark}
use Rattle.lowering_laws.specs.Shapes.{IsLowered}
use Rattle.split_kit.specs.Split.{RangeLive, as_part, block_split, blocks_split, changed, greatest_label, instrs_split, label_behind, last_point, number_behind, part, split_by, start_label, whole}
use Rattle.split_laws.specs.Laws.{AllMeet, LabelsAgree, Meets, SplitRefines}
use Rattle.split_laws.proofs.Suits.{Suits}
use Rattle.split_laws.proofs.Named.{named}
use Rattle.split_laws.proofs.Laid.{points-laid}
use Rattle.split_laws.proofs.Passing.{IsBody, agreeing, copying, renaming}
use Rattle.split_laws.proofs.Homes.{home-beside, home-other, home-own, homes-apart, keeps-places, labels-agree, lane_home}
use Rattle.split_laws.proofs.Copies.{moves, moves-none, moves-other, moves-own, number-in}
use Rattle.split_laws.proofs.Parts.{renames-all, widths-part}
use Rattle.split_laws.proofs.Labels.{behind-fits, start-fits}
use Rattle.split_laws.proofs.Points.{EndsWith, code-at, end-of, rest-at}
use Rattle.split_laws.proofs.Within.{AllKeep, IsOwn, Keeps, item-keeps, live-keeps}
use Rattle.split_laws.proofs.Ends.{copy-item, falls-stay, meet-stay, open-stays, split-without-phis}

-- ways without phis

abbrev bare : ℕ → Edge
bare m = record { block = m; phis = [] }

pub map-append : {A B : Type 0} (g : A → B) (xs ys : List A) → map g (xs ++ ys) ≡ map g xs ++ map g ys
map-append g [] ys = refl
map-append g (x ∷ xs) ys = ap (λ zs. g x ∷ zs) (map-append g xs ys)

-- a test that each passes
each : {X : Type 0} (p : X → Bool) (xs : List X) → ((x : X) → Member x xs → p x ≡ true) → list_all p xs ≡ true
each p [] g = refl
each p (x ∷ xs) g = λ k. g x first k && each p xs (λ y m. g y (later m)) k

module _ (t : Target) where
  quiet-phis : (q : Function) (n : ℕ) (is : List Instr) → list_all (λ i. not (does is_phi t i)) is ≡ true → phis_written t q n is ≡ []
  quiet-phis q n [] e = refl
  quiet-phis q n (i ∷ is) e = go (does is_phi t i) e (quiet-phis q n is)
    where
      go : (b : Bool) → (not b && list_all (λ i. not (does is_phi t i)) is) ≡ true → (list_all (λ i. not (does is_phi t i)) is ≡ true → phis_written t q n is ≡ []) → phis_written t q n is ++ cond b (phi_operands t q n i.operands) [] ≡ []
      go true k ih = absurd (cc)
      go false k ih = ap (λ ws. ws ++ []) (ih k)

  found-without-phis : (bs : List Block) (m : ℕ) → has_no_phis t bs ≡ true → list_all (λ i. not (does is_phi t i)) (instrs_of bs m) ≡ true
  found-without-phis [] m e = refl
  found-without-phis (b ∷ bs) m e = let h = both (list_all (λ i. not (does is_phi t i)) b.instrs) (has_no_phis t bs) e in go (nat_eq b.number m) h.0 (found-without-phis bs m h.1)
    where
      go : (c : Bool) → list_all (λ i. not (does is_phi t i)) b.instrs ≡ true → list_all (λ i. not (does is_phi t i)) (instrs_of bs m) ≡ true → list_all (λ i. not (does is_phi t i)) (elim (cond c (Some b) (find (λ d. nat_eq d.number m) bs)) as (λ q. List Instr) [ None ↦ [] | Some d ↦ d.instrs ]) ≡ true
      go true x y = x
      go false x y = y

  pub way-bare : (q : Function) → has_no_phis t q.blocks ≡ true → (n m : ℕ) → way t q n m ≡ bare m
  way-bare q none n m = ap (λ ws. record { block = m; phis = ws }) (quiet-phis q n (instrs_of q.blocks m) (found-without-phis q.blocks m none))

  -- what follows an item is laid out
  body-laid : (reserved : Lane → Bool) (code : Code) (at : AtStarts) (h : Homes) (i : Item) (p : Code) → IsBody reserved code at h i → LaidOut code (i ∷ p) → LaidOut code p
  body-laid reserved code at h (BlockStart n) p b l = absurd b
  body-laid reserved code at h (BlockEnd falls exits) p b l = absurd b
  body-laid reserved code at h (Silent reads ws) p b l = l
  body-laid reserved code at h (Counted r reads ws None exits) p b l = l
  body-laid reserved code at h (Counted r reads ws (Some e) exits) p b l = l.1

  pub not-phi : (i : Instr) → does is_lowered_away t i ≡ false → (does is_phi t i ≡ false) × (does puts_together t i ≡ false)
  not-phi i e = go (effect_of t i) e
    where
      by : (a b : Bool) → (a || b) ≡ false → (a ≡ false) × (b ≡ false)
      by true b h = absurd (cc)
      by false b h = (refl, h)

      go : (q : Option Effect) → passes is_lowered_away q ≡ false → (passes is_phi q ≡ false) × (passes puts_together q ≡ false)
      go None h = (refl, refl)
      go (Some x) h = by (is_phi x) (puts_together x) h

  pub all-without-phis : (bs : List Block) → ((b : Block) (i : Instr) → Member b bs → Member i b.instrs → does is_phi t i ≡ false) → has_no_phis t bs ≡ true
  all-without-phis bs h = each (λ (b : Block). list_all (λ i. not (does is_phi t i)) b.instrs) bs (λ b mb. each (λ i. not (does is_phi t i)) b.instrs (λ i mi. ap not (h b i mb mi)))

  pub as-item : (f : Function) (b : Block) (i : Instr) → does is_phi t i ≡ false → point_item t f b i ≡ item_of t f b i
  unfolding point_item
  as-item f b i e = ap (λ c. cond c (Silent [] (defined_undef t f i.operands)) (item_of t f b i)) e

pub member-behind : {A : Type 0} (front : List A) (x : A) (back xs : List A) → front ++ x ∷ back ≡ xs → Member x xs
member-behind {A = A} front x back xs e = subst (Member x) e (at front)
  where
    at : (ys : List A) → Member x (ys ++ x ∷ back)
    at [] = first
    at (y ∷ ys) = later (at ys)

-- the homes at the start of the first of these blocks
next-homes : Function → ℕ → List Mark → List Block → Homes
next-homes f v ms [] = images (lane_home f v (greatest_label ms + 1) 0)
next-homes f v ms (b ∷ bs) = images (lane_home f v (greatest_label ms + 1) (start_label ms b.number))

module _ (t : Target) (f g : Function) (v : ℕ) (ms : List Mark) (live : Point → Bool) (tests : Tests (RangeLive t f v) live) (low : Suits t f) (meet : LabelsAgree t f v ms) where
  abbrev count : ℕ
  count = greatest_label ms + 1

  abbrev R : Lane → Bool
  R = is_reserved t

  abbrev C : Code
  C = points_of t f

  abbrev homes : ℕ → Homes
  homes label = images (lane_home f v count label)

  abbrev at : AtStarts
  at n = homes (start_label ms n)

  without-phis : (b : Block) (i : Instr) → Member b f.blocks → Member i b.instrs → does is_phi t i ≡ false
  without-phis b i mb mi = (not-phi t i (low.lowered b i mb mi)).0

  none : has_no_phis t f.blocks ≡ true
  none = all-without-phis t f.blocks without-phis

  bare-way : (n m : ℕ) → way t f n m ≡ bare m
  bare-way n m = way-bare t f none n m

  pub bare-ways : (n : ℕ) (es : List Successor) → NoPhisAlong (map (λ e. way t f n e.block) es)
  bare-ways n [] = tt
  bare-ways n (e ∷ es) = (ap (λ (w : Edge). w.phis) (bare-way n e.block), bare-ways n es)

  bare-into : (n : ℕ) (o : Option ℕ) → NoPhisInto (option_map (way t f n) o)
  bare-into n None = tt
  bare-into n (Some m) = ap (λ (w : Edge). w.phis) (bare-way n m)

  -- where the labels meet, homes agree
  pub meets-agree : (b : Block) (label : ℕ) → Meets t f v ms b.successors label → (e : Edge) → Member e (ways_out t f b) → Agree R C (found e.block C) (homes label) (at e.block)
  meets-agree b label h e m =
      let z = map-of (λ (s : Successor). way t f b.number s.block) e b.successors m in
      let same : e.block ≡ z.0.block = ap (λ (w : Edge). w.block) z.2 in
      subst (λ n. Agree R C (found n C) (homes label) (at n)) (sym same)
      (labels-agree f v count t C (found z.0.block C) label (start_label ms z.0.block) (λ k l. h z.0 z.1 (k, l)))

  -- the item of an instruction of a block
  module _ (b : Block) (mb : Member b f.blocks) (label : ℕ) (i : Instr) (meets : does is_terminator t i ≡ true → Meets t f v ms b.successors label) where
    outs : (d : Bool) → (d ≡ true → Meets t f v ms b.successors label) → NoPhisAlong (cond d (ways_out t f b) []) × ((e : Edge) → Member e (cond d (ways_out t f b) []) → Agree R C (found e.block C) (homes label) (at e.block))
    outs true h = (bare-ways b.number b.successors, meets-agree b label (h refl))
    outs false h = (tt, (λ e m. absurd (member-none e m)))

    by-effect : (e : Effect) → effect_of t i ≡ Some e → IsBody R C at (homes label) (effect_item t f b i e)
    by-effect e known = go (is_silent e) (outs (is_terminator e) (λ h. meets (ap (passes is_terminator) known ∙ h)))
      where
        go : (s : Bool) → NoPhisAlong (cond (is_terminator e) (ways_out t f b) []) × ((w : Edge) → Member w (cond (is_terminator e) (ways_out t f b) []) → Agree R C (found w.block C) (homes label) (at w.block)) →
            IsBody R C at (homes label) (cond s (Silent (silent_reads t f e i.operands) (silent_writes t f e (is_early_clobber (roles_of t i)) i.operands)) (Counted (rest_of t f e i) (map (λ x. x.0) (values t f e i)) (counted_writes t f e i) (option_map (way t f b.number) (target_of i.operands)) (cond (is_terminator e) (ways_out t f b) [])))
        go true h = tt
        go false h = ((bare-into b.number (target_of i.operands), h.0), h.1)

    item-body : IsBody R C at (homes label) (item_of t f b i)
    unfolding item_of
    item-body = go (effect_of t i) refl
      where
        go : (q : Option Effect) → effect_of t i ≡ q → IsBody R C at (homes label) (elim q as (λ o. Item) [ None ↦ Silent [] [] | Some e ↦ effect_item t f b i e ])
        go None known = tt
        go (Some e) known = by-effect e known

    pub point-body : Member i b.instrs → IsBody R C at (homes label) (point_item t f b i)
    point-body mi = subst (IsBody R C at (homes label)) (sym (as-item t f b i (without-phis b i mb mi))) item-body

  -- what an instruction does when it isn't known which label holds there

  item-order : (b : Block) (i : Instr) → in_order (item_of t f b i) ≡ true
  unfolding item_of
  item-order b i = go (effect_of t i)
    where
      by : (e : Effect) (s : Bool) → in_order (cond s (Silent (silent_reads t f e i.operands) (silent_writes t f e (is_early_clobber (roles_of t i)) i.operands)) (Counted (rest_of t f e i) (map (λ x. x.0) (values t f e i)) (counted_writes t f e i) (option_map (way t f b.number) (target_of i.operands)) (cond (is_terminator e) (ways_out t f b) []))) ≡ true
      by e true = refl
      by e false = refl

      go : (q : Option Effect) → in_order (elim q as (λ o. Item) [ None ↦ Silent [] [] | Some e ↦ effect_item t f b i e ]) ≡ true
      go None = refl
      go (Some e) = by e (is_silent e)

  item-bare : (b : Block) (i : Instr) → NoPhisAlong (exits_of (item_of t f b i))
  unfolding item_of
  item-bare b i = go (effect_of t i)
    where
      out : (d : Bool) → NoPhisAlong (cond d (ways_out t f b) [])
      out true = bare-ways b.number b.successors
      out false = tt

      by : (e : Effect) (s : Bool) → NoPhisAlong (exits_of (cond s (Silent (silent_reads t f e i.operands) (silent_writes t f e (is_early_clobber (roles_of t i)) i.operands)) (Counted (rest_of t f e i) (map (λ x. x.0) (values t f e i)) (counted_writes t f e i) (option_map (way t f b.number) (target_of i.operands)) (cond (is_terminator e) (ways_out t f b) []))))
      by e true = tt
      by e false = out (is_terminator e)

      go : (q : Option Effect) → NoPhisAlong (exits_of (elim q as (λ o. Item) [ None ↦ Silent [] [] | Some e ↦ effect_item t f b i e ]))
      go None = tt
      go (Some e) = by e (is_silent e)

  -- lanes of the range that are live are its own

  abbrev pub Keeping : Code → Type 0
  Keeping p = AllKeep (IsOwn t f v) (λ s k w. tt) p

  keep-item : (b : Block) (i : Instr) → Member b f.blocks → Member i b.instrs → Keeps (IsOwn t f v) (λ s k w. tt) (point_item t f b i)
  keep-item b i mb mi =
      subst (Keeps (IsOwn t f v) (λ s k w. tt)) (sym (as-item t f b i (without-phis b i mb mi)))
      (item-keeps t f v b i (not-phi t i (low.lowered b i mb mi)).1 (λ o m. low.named b i o mb mi m) (item-bare b i))

  keep-items : (b : Block) → Member b f.blocks → (is : List Instr) → ((i : Instr) → Member i is → Member i b.instrs) → (p : Code) → Keeping p → Keeping (map (point_item t f b) is ++ p)
  keep-items b mb [] h p k = k
  keep-items b mb (i ∷ is) h p k = (keep-item b i mb (h i first), keep-items b mb is (λ j m. h j (later m)) p k)

  keep-blocks : (bs : List Block) → ((b : Block) → Member b bs → Member b f.blocks) → Keeping (blocks_code (point_item t f) t f bs)
  keep-blocks [] h = tt
  keep-blocks (b ∷ bs) h = (
    record { reads = λ ss l x y. absurd (member-none ss x); writes = λ w l x e. absurd (member-none w x); bare = tt },
    keep-items b (h b first) b.instrs (λ i m. m) (block_end t f b bs ∷ blocks_code (point_item t f) t f bs) (
      record { reads = λ ss l x y. absurd (member-none ss x); writes = λ w l x e. absurd (member-none w x); bare = bare-ways b.number b.successors },
      keep-blocks bs (λ c m. h c (later m)),
    ),
  )

  pub keep-all : Keeping C
  unfolding points_of
  keep-all = keep-blocks f.blocks (λ b m. m)

  within : (p : Code) (k : ℕ) → Keeping p → Live R C p (VirtualLane v k) → k < length (range_widths t f v)
  within p k keep l = live-keeps (IsOwn t f v) (λ s k w. tt) R C keep-all l keep refl

  module _ (classes : g.classes ≡ f.classes ++ replicate count (class_of f v)) (none' : has_no_phis t g.blocks ≡ true) where
    bare-way' : (n m : ℕ) → way t g n m ≡ way t f n m
    bare-way' n m = way-bare t g none' n m ∙ sym (bare-way n m)

    ways-same : (n : ℕ) (es : List Successor) → map (λ e. way t g n e.block) es ≡ map (λ e. way t f n e.block) es
    ways-same n [] = refl
    ways-same n (e ∷ es) = λ k. bare-way' n e.block k ∷ ways-same n es k

    -- the copy between two parts

    abbrev lanes : List ℕ
    lanes = numbers 0 (length (range_widths t f v))

    abbrev copy : ℕ → ℕ → List Operand
    copy from to = whole true (part f to) ∷ whole false (part f from) ∷ []

    pub copy-moves : (from to : ℕ) → from < count → to < count → copied t g (copy from to) ≡ moves (part f to) (part f from) lanes
    copy-moves from to h k =
        (λ i. moved false (map (VirtualLane (part f to)) (numbers 0 (length (widths-part t f g v count classes to k i)))) (map FromLane (map (VirtualLane (part f from)) (numbers 0 (length (widths-part t f g v count classes from h i))))) ++ [])
        ∙ moves-none (part f to) (part f from) lanes

    module _ (from to : ℕ) (fits : to < count) where
      abbrev ws : Writes
      ws = moves (part f to) (part f from) lanes

      own-carried : (k : ℕ) → k < length (range_widths t f v) → settled (filled ws (lane_home f v count to (VirtualLane v k))) ≡ FromLane (lane_home f v count from (VirtualLane v k))
      own-carried k h =
          ap (λ x. settled (filled ws (VirtualLane x k))) (home-own f v count to)
          ∙ (ap settled (moves-own (part f to) (part f from) lanes k (number-in 0 (length (range_widths t f v)) k (omega arith) (omega arith)))
          ∙ ap (λ x. FromLane (VirtualLane x k)) (sym (home-own f v count from)))

      pub carried : (p : Code) → Keeping p → (a : Lane) → Kept R C p a → settled (through ws (homes to a)) ≡ homes from a
      carried p keep (VirtualLane w k) kept = go (nat_eq v w) refl kept
        where
          go : (b : Bool) → nat_eq v w ≡ b → Kept R C p (VirtualLane w k) → settled (filled ws (lane_home f v count to (VirtualLane w k))) ≡ FromLane (lane_home f v count from (VirtualLane w k))
          go true e (inl l) =
              let same : v ≡ w = eqb-true v w e in
              subst (λ x. settled (filled ws (lane_home f v count to (VirtualLane x k))) ≡ FromLane (lane_home f v count from (VirtualLane x k))) same
              (own-carried k (within p k keep (subst (λ x. Live R C p (VirtualLane x k)) (sym same) l)))
          go true e (inr r) = absurd (cc)
          go false e kept' =
              ap settled (moves-other (part f to) (part f from) lanes (lane_home f v count to (VirtualLane w k)) (λ j. ap (λ b. b && nat_eq j k) (home-beside f v count to to w e fits)))
              ∙ ap (λ x. FromLane (VirtualLane x k)) (home-other f v count to from w e)
      carried p keep (UnitLane u) kept = ap settled (moves-other (part f to) (part f from) lanes (UnitLane u) (λ j. refl))
      carried p keep (SlotLane s k x) kept = ap settled (moves-other (part f to) (part f from) lanes (SlotLane s k x) (λ j. refl))

    -- where the label changes
    change-step :
        (c : Block) (p q : Code) → Keeping p → (id : ℕ) (point : Point) (from to : ℕ) → from < count → to < count → ((k : ℕ) → Live R C p (VirtualLane v k) → RangeLive t f v point) →
        InStep R C at (homes to) p q → InStep R C at (homes from) p (map (item_of t g c) (changed f id (live point) from to) ++ q)
    change-step c p q keep id point from to h k told s = go (live point) refl (nat_eq from to) refl
      where
        go : (a : Bool) → live point ≡ a → (e : Bool) → nat_eq from to ≡ e → InStep R C at (homes from) p (map (item_of t g c) (cond (a && not e) (made id (op_number 0) (copy from to) ∷ []) []) ++ q)
        go false x e y = agreeing R C at (homes from) (homes to) p q (labels-agree f v count t C p from to (λ j l. absurd (let z : live point ≡ true = (tests point).1 (told j l) in cc))) s
        go true x true y = agreeing R C at (homes from) (homes to) p q (labels-agree f v count t C p from to (λ j l. eqb-true from to y)) s
        go true x false y =
            subst (λ i. InStep R C at (homes from) p (i ∷ q)) (sym (copy-item t g c id (copy from to) ∙ ap (Silent []) (copy-moves from to h k)))
            (copying R C at (homes from) (homes to) (ws from to k) p q (carried from to k p keep) s)

    module _ (pre : List Block) (b : Block) (after : List Block) (blocks : pre ++ b ∷ after ≡ f.blocks) (c : Block) (number : c.number ≡ b.number) (successors : c.successors ≡ b.successors) where
      mb : Member b f.blocks
      mb = member-behind pre b after f.blocks blocks

      abbrev rest : Code
      rest = blocks_code (point_item t f) t f after

      abbrev end : Code
      end = block_end t f b after ∷ rest

      abbrev from-place : List Instr → Code
      from-place is = map (point_item t f b) is ++ end

      -- lanes of the range that are live at an instruction, and at the block's end

      code-here : (front : List Instr) (i : Instr) (back : List Instr) → front ++ i ∷ back ≡ b.instrs → from_instr t f i.id f.blocks ≡ from-place (i ∷ back)
      code-here front i back e = code-at t f low.function pre b after blocks front i back e ∙ ap from-place (rest-at t f low.function pre b after blocks front i back e)

      pub entry-live : (front : List Instr) (i : Instr) (back : List Instr) → front ++ i ∷ back ≡ b.instrs → (k : ℕ) → Live R C (from-place (i ∷ back)) (VirtualLane v k) → RangeLive t f v (Entry i.id)
      entry-live front i back e k l = (k, subst (λ p. Live R C p (VirtualLane v k)) (sym (code-here front i back e)) l)

      pub end-live : found b.number C ≡ from-place b.instrs → (k : ℕ) → Live R C end (VirtualLane v k) → RangeLive t f v (last_point (Start b.number) b.instrs)
      end-live here k l = go (end-of (Start b.number) b.instrs)
        where
          go : ◌≡◌ {A = List Instr} b.instrs [] ⊎ EndsWith (Start b.number) b.instrs → RangeLive t f v (last_point (Start b.number) b.instrs)
          go (inl e) = (k, subst (λ is. LiveAt t f (last_point (Start b.number) is) (VirtualLane v k)) (sym e) (subst (λ p. Live R C p (VirtualLane v k)) (sym (here ∙ ap from-place e)) l))
          go (inr z) =
              let order : in_order (point_item t f b z.last) ≡ true = ap in_order (as-item t f b z.last (without-phis b z.last mb (member-behind z.front z.last [] b.instrs z.instrs))) ∙ item-order b z.last in
              (k, subst (λ p. LiveAt t f p (VirtualLane v k)) (sym z.point) (subst (AtFirst (λ i p. LiveAfter R C i p (VirtualLane v k))) (sym (code-here z.front z.last [] z.instrs)) (after_next order l)))

      -- the instructions

      same-ways : (n : ℕ) → way t g c.number n ≡ way t f b.number n
      same-ways n = ap (λ m. way t g m n) number ∙ bare-way' b.number n

      same-outs : ways_out t g c ≡ ways_out t f b
      same-outs = (λ k. map (λ e. way t g (number k) e.block) (successors k)) ∙ ways-same b.number b.successors

      pub named-item : (i : Instr) → Member i b.instrs → (label : ℕ) → label < count → item_of t g c (renamed_instr (as_part f v label) i) ≡ renamed_item (lane_home f v count label) (item_of t f b i)
      named-item i mi label h =
          law_of_renaming t f g (lane_home f v count label) (as_part f v label) (keeps-places f v count label) b c same-ways same-outs i (not-phi t i (low.lowered b i mb mi)).1 (renames-all t f g v count classes label h i.operands (λ o k. low.named b i o mb mi k))

      one-step : (i : Instr) → Member i b.instrs → (label : ℕ) → label < count → (does is_terminator t i ≡ true → Meets t f v ms b.successors label) → (p q : Code) → LaidOut C (point_item t f b i ∷ p) → InStep R C at (homes label) p q → InStep R C at (homes label) (point_item t f b i ∷ p) (item_of t g c (renamed_instr (as_part f v label) i) ∷ q)
      one-step i mi label h meets p q l s =
          let m = lane_home f v count label in
          let same = as-item t f b i (without-phis b i mb mi) in
          subst (λ x. InStep R C at (homes label) (x ∷ p) (item_of t g c (renamed_instr (as_part f v label) i) ∷ q)) (sym same)
          (subst (λ y. InStep R C at (homes label) (item_of t f b i ∷ p) (y ∷ q)) (sym (named-item i mi label h))
          (renaming R C at m (homes-apart f v count label h) (item_of t f b i) p q (item-body b mb label i meets) (subst (λ x. LaidOut C (x ∷ p)) same l) s))

      module _ (here : found b.number C ≡ from-place b.instrs) (behind : Code) (ends : (label : ℕ) → Meets t f v ms b.successors label → InStep R C at (homes label) end behind) where
        steps : (front is : List Instr) → front ++ is ≡ b.instrs → (n now : ℕ) → now < count → AllMeet t f v ms b now is → LaidOut C (from-place is) → Keeping (from-place is) → InStep R C at (homes now) (from-place is) (map (item_of t g c) (instrs_split live f v ms n b now is) ++ behind)
        steps front [] e n now h m l k =
            let to = label_behind ms b.number None now in
            change-step c end behind k n (last_point (Start b.number) b.instrs) now to h (behind-fits ms b.number None now h) (end-live here) (ends to m)
        steps front (i ∷ is) e n now h m l k =
            let to = label_behind ms b.number (Some i.id) now in
            let fits = behind-fits ms b.number (Some i.id) now h in
            let copies = changed f n (live (Entry i.id)) now to in
            let more = instrs_split live f v ms (n + length copies) b to is in
            let one = renamed_instr (as_part f v to) i in
            let mi = member-behind front i is b.instrs e in
            let meets : does is_terminator t i ≡ true → Meets t f v ms b.successors to = λ x. (m.0 x).0 in
            let tail = body-laid t R C at (homes to) (point_item t f b i) (from-place is) (point-body b mb to i meets mi) l in
            let on = steps (front ++ i ∷ []) is (append_assoc front (i ∷ []) is ∙ e) (n + length copies) to fits m.1 tail k.1 in
            subst (InStep R C at (homes now) (from-place (i ∷ is))) (sym (ap (λ xs. xs ++ behind) (map-append (item_of t g c) copies (one ∷ more)) ∙ append_assoc (map (item_of t g c) copies) (map (item_of t g c) (one ∷ more)) behind))
            (change-step c (from-place (i ∷ is)) (map (item_of t g c) (one ∷ more) ++ behind) k n (Entry i.id) now to h fits (entry-live front i is e)
            (one-step i mi to fits meets (from-place is) (map (item_of t g c) more ++ behind) l on))

    -- blocks

    abbrev Enters : Homes → List Block → Type 0
    Enters h [] = Unit {0}
    Enters h (b ∷ bs) = Agree R C (found b.number C) h (at b.number)

    abbrev first-homes : List Block → Homes
    first-homes bs = next-homes f v ms bs

    first-enters : (bs : List Block) → Enters (first-homes bs) bs
    unfolding next-homes
    first-enters [] = tt
    first-enters (b ∷ bs) = λ a k. refl

    abbrev split-blocks : ℕ → List Block → List Block
    split-blocks n bs = blocks_split live f v ms n bs

    first-same : (n : ℕ) (bs : List Block) → first_number (split-blocks n bs) ≡ first_number bs
    first-same n [] = refl
    first-same n (b ∷ bs) = refl

    module _ (n k : ℕ) (b : Block) (mb : Member b f.blocks) (after : List Block) where
      abbrev made-block : Block
      made-block = block_split live f v ms n b

      abbrev code-behind : Code
      code-behind = blocks_code (point_item t f) t f after

      abbrev code-behind' : Code
      code-behind' = blocks_code (item_of t g) t g (split-blocks k after)

      stays : falls_through t made-block.instrs ≡ falls_through t b.instrs
      stays = falls-stay t live f v ms b n (start_label ms b.number) b.instrs (meet-stay t live f v ms b (start_label ms b.number) b.instrs (meet b mb))

      open-same : ends_without_terminator t made-block.instrs ≡ ends_without_terminator t b.instrs
      open-same = open-stays t live f v ms b n (start_label ms b.number) b.instrs (meet-stay t live f v ms b (start_label ms b.number) b.instrs (meet b mb))

      falls-same : fallen_into t made-block (split-blocks k after) ≡ fallen_into t b after
      falls-same = λ i. cond (stays i && not (t.options.open_blocks && nat_eq (length b.successors) 0 && open-same i)) (first-same k after i) None

      pub end-same : block_end t g made-block (split-blocks k after) ≡ block_end t f b after
      end-same = λ i. BlockEnd (option_map (λ m. (bare-way' b.number m i).phis) (falls-same i)) (ways-same b.number b.successors i)

      enters-next : (label : ℕ) → Meets t f v ms b.successors label → (phis : Writes) → FallsTo phis (ways_out t f b) code-behind → Enters (homes label) after
      enters-next label meets phis falls = go after falls
        where
          go : (bs : List Block) → FallsTo phis (ways_out t f b) (blocks_code (point_item t f) t f bs) → Enters (homes label) bs
          go [] x = tt
          go (d ∷ ds) x = meets-agree b label meets (record { block = d.number; phis = phis }) x

      end-step : (on : (h : Homes) → Enters h after → InStep R C at h code-behind code-behind') → LaidOut C (block_end t f b after ∷ code-behind) → (label : ℕ) → Meets t f v ms b.successors label → InStep R C at (homes label) (block_end t f b after ∷ code-behind) (block_end t g made-block (split-blocks k after) ∷ code-behind')
      end-step on l label meets =
          subst (λ x. InStep R C at (homes label) (block_end t f b after ∷ code-behind) (x ∷ code-behind')) (sym end-same) (go (fallen_into t b after) l)
        where
          out : List Edge
          out = ways_out t f b

          go : (o : Option ℕ) → LaidOut C (BlockEnd (option_map (λ m. (way t f b.number m).phis) o) (ways_out t f b) ∷ code-behind) → InStep R C at (homes label) (BlockEnd (option_map (λ m. (way t f b.number m).phis) o) (ways_out t f b) ∷ code-behind) (BlockEnd (option_map (λ m. (way t f b.number m).phis) o) (ways_out t f b) ∷ code-behind')
          go None x = in-step-stops R C at (homes label) (ways_out t f b) code-behind code-behind' (first-homes after) (bare-ways b.number b.successors) (meets-agree b label meets) (on (first-homes after) (first-enters after))
          go (Some m) x =
              let phis = (way t f b.number m).phis in
              in-step-falls R C at (homes label) phis (ways_out t f b) code-behind code-behind' x (ap (λ (w : Edge). w.phis) (bare-way b.number m)) (bare-ways b.number b.successors) (meets-agree b label meets) (on (homes label) (enters-next label meets phis x.0))

    pub laid-items : (b : Block) → Member b f.blocks → (is : List Instr) → ((i : Instr) → Member i is → Member i b.instrs) → (now : ℕ) → AllMeet t f v ms b now is → (p : Code) → LaidOut C (map (point_item t f b) is ++ p) → LaidOut C p
    laid-items b h [] w now m p l = l
    laid-items b h (i ∷ is) w now m p l =
        let to = label_behind ms b.number (Some i.id) now in
        laid-items b h is (λ j k. w j (later k)) to m.1 p (body-laid t R C at (homes to) (point_item t f b i) (map (point_item t f b) is ++ p) (point-body b h to i (λ x. (m.0 x).0) (w i first)) l)

    pub laid-end : (falls : Option Writes) (exits : List Edge) (p : Code) → LaidOut C (BlockEnd falls exits ∷ p) → LaidOut C p
    laid-end None exits p l = l
    laid-end (Some phis) exits p l = l.1

    pub keep-tail : (b : Block) (is : List Instr) (p : Code) → Keeping (map (point_item t f b) is ++ p) → Keeping p
    keep-tail b [] p k = k
    keep-tail b (i ∷ is) p k = keep-tail b is p k.1

    all-steps : (pre bs : List Block) → pre ++ bs ≡ f.blocks → (n : ℕ) → LaidOut C (blocks_code (point_item t f) t f bs) → Keeping (blocks_code (point_item t f) t f bs) → (h : Homes) → Enters h bs → InStep R C at h (blocks_code (point_item t f) t f bs) (blocks_code (item_of t g) t g (split-blocks n bs))
    all-steps pre [] e n l k h x = done
    all-steps pre (b ∷ after) e n l k h x =
        let c = block_split live f v ms n b in
        let m = number_behind live f v ms n (b ∷ []) in
        let mb = member-behind pre b after f.blocks e in
        let label = start_label ms b.number in
        let tail = blocks_code (point_item t f) t f after in
        let at_end = laid-items b mb b.instrs (λ i y. y) label (meet b mb) (block_end t f b after ∷ tail) l.1 in
        let on = all-steps (pre ++ b ∷ []) after (append_assoc pre (b ∷ []) after ∙ e) m (laid-end (option_map (λ j. (way t f b.number j).phis) (fallen_into t b after)) (ways_out t f b) tail at_end) (keep-tail b b.instrs (block_end t f b after ∷ tail) k.1).1 in
        start (subst (λ p. Agree R C p h (at b.number)) l.0 x)
        (steps pre b after e c refl refl l.0 (block_end t g c (split-blocks m after) ∷ blocks_code (item_of t g) t g (split-blocks m after)) (end-step n m b mb after on at_end) [] b.instrs refl n label (start-fits ms b.number) (meet b mb) l.1 k.1)

-- what is split
module _ (t : Target) (f : Function) (v : ℕ) (ms : List Mark) (live : Point → Bool) (tests : Tests (RangeLive t f v) live) (low : Suits t f) (meet : LabelsAgree t f v ms) where
  abbrev made-function : Function
  made-function = split_by live f v ms

  pub no-phis : has_no_phis t f.blocks ≡ true
  no-phis = all-without-phis t f.blocks (λ b i mb mi. (not-phi t i (low.lowered b i mb mi)).0)

  pub blocks-without-phis : (n : ℕ) (bs : List Block) → has_no_phis t bs ≡ true → has_no_phis t (blocks_split live f v ms n bs) ≡ true
  blocks-without-phis n [] e = refl
  blocks-without-phis n (b ∷ bs) e =
      let h = both (list_all (λ i. not (does is_phi t i)) b.instrs) (has_no_phis t bs) e in
      λ k. split-without-phis t live f v ms b n (start_label ms b.number) b.instrs h.0 k && blocks-without-phis (number_behind live f v ms n (b ∷ [])) bs h.1 k

  abbrev first-of : Homes
  first-of = next-homes f v ms f.blocks

  in-step : InStep (is_reserved t) (points_of t f) (λ n. images (lane_home f v (greatest_label ms + 1) (start_label ms n))) first-of (points_of t f) (code_of t made-function)
  unfolding split_by points_of code_of
  in-step =
      let none' = blocks-without-phis f.next_id f.blocks no-phis in
      all-steps t f made-function v ms live tests low meet refl none' [] f.blocks refl f.next_id low.laid_out (keep-all t f made-function v ms live tests low meet) first-of (first-enters t f made-function v ms live tests low meet refl none' f.blocks)

  given-same : (u : ℕ) → given_of t made-function u ≡ given_of t f u
  unfolding split_by
  given-same u = ap (λ b. cond b (Some (unit_width t.units (unit_number u))) None) (go f.blocks)
    where
      go : (bs : List Block) → is_given t (blocks_split live f v ms f.next_id bs) u ≡ is_given t bs u
      go [] = refl
      go (b ∷ bs) = refl

  starts-alike : (bs : List Block) (env : Environment) (l : Lane) → start_state env (given_of t f) l ≡ fetch env (start_state env (given_of t made-function)) (next-homes f v ms bs l)
  unfolding next-homes
  starts-alike [] env (VirtualLane w k) = refl
  starts-alike (b ∷ bs) env (VirtualLane w k) = refl
  starts-alike [] env (UnitLane u) = ap (entry_lane env u) (sym (given-same u))
  starts-alike (b ∷ bs) env (UnitLane u) = ap (entry_lane env u) (sym (given-same u))
  starts-alike [] env (SlotLane s k w) = refl
  starts-alike (b ∷ bs) env (SlotLane s k w) = refl

  abbrev starts-at : AtStarts
  starts-at n = images (lane_home f v (greatest_label ms + 1) (start_label ms n))

  split-refines : refines t f made-function
  unfolding meaning_of
  split-refines =
      law_of_places (is_reserved t) (meaning_of t f) (meaning_of t made-function) starts-at first-of (subst (λ c. LaidOut c c) (points_are_code t f no-phis) low.laid_out) (λ env l k. starts-alike f.blocks env l)
      (subst (λ p. InStep (is_reserved t) p starts-at first-of p (code_of t made-function)) (points_are_code t f no-phis) in-step)

-- what the rules give
module _ (t : Target) (f : Function) (low : IsLowered t f) where
  pub known : (i : Instr) → does (λ e. not (is_lowered_away e)) t i ≡ true → ((e : Effect) × (effect_of t i ≡ Some e)) × (does is_lowered_away t i ≡ false)
  known i h = go (effect_of t i) refl h
    where
      go : (q : Option Effect) → effect_of t i ≡ q → passes (λ e. not (is_lowered_away e)) q ≡ true → ((e : Effect) × (effect_of t i ≡ Some e)) × (does is_lowered_away t i ≡ false)
      go None e k = absurd (cc)
      go (Some x) e k = ((x, e), ap (passes is_lowered_away) e ∙ not-true (is_lowered_away x) k)

  pub suits : Suits t f
  suits = record {
    function = low.function;
    lowered = λ b i mb mi. (known i (low.lowered b i mb mi)).1;
    named = λ b i o mb mi m. let z = known i (low.lowered b i mb mi) in named t f low.rules.classes i z.0 z.1 (low.rules.shaped b i mb mi) o m;
    laid_out = points-laid t f low;
  }

pub split_refines : SplitRefines
split_refines t f g v ms low meet s = subst (refines t f) (sym s.2) (split-refines t f v ms s.0 s.1 (suits t f low) meet)
