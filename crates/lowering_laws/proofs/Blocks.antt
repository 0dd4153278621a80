-- Phi elimination over all blocks: each is in step with what becomes of it.
use Rattle.std.proofs.Common.{◌≡◌, ◌⊎◌, inl, inr, ◌∷◌, ◌++◌, ◌∙◌, ◌&&◌, ◌+◌, not, ℕ, Bool, true, false, cond, List, Option, Some, None, map, filter, length, refl, sym, ap, subst, []}
use Rattle.std.specs.Prelude.{find, nat_eq, ◌==◌}
use Rattle.std.specs.List.{list_all}
use Rattle.target_base.specs.declared.types.IndexId.{IndexId}
use Rattle.target_base.specs.declared.types.Target.{Target}
use Rattle.target_base.specs.Numbers.{unit_number}
use Rattle.target_base.specs.Registers.{lanes_of}
use Rattle.target_base.specs.Rules.{is_phi}
use Rattle.target_base.specs.Storage.{unit_width}
use Rattle.meaning.specs.Code.{start_state}
use Rattle.meaning.specs.Environment.{Environment}
use Rattle.meaning.specs.Lanes.{Writes, filled, same_lane, settled, through}
use Rattle.meaning.specs.Live.{Among}
use Rattle.meaning.specs.Relations.{Within}
use Rattle.meaning.specs.State.{fetch}
use Rattle.meaning.specs.declared.types.Lane.{Lane}
use Rattle.meaning.specs.declared.types.Lane.TheVariants.{SlotLane, UnitLane, VirtualLane}
use Rattle.meaning.specs.declared.types.Source.{Source}
use Rattle.meaning.specs.declared.types.Source.TheVariants.{Bits, FromLane, Undef}
use Rattle.laws.proofs.Agreeing.{Agrees}
use Rattle.laws.proofs.Defined.{value-same}
use Rattle.mir_func.specs.declared.func.Edge.{Edge as Successor}
use Rattle.mir_func.specs.declared.func.Loc.{Loc}
use Rattle.mir_func.specs.declared.func.Loc.TheVariants.{Fixed, Virtual}
use Rattle.mir_func.specs.declared.func.RegOp.{RegOp}
use Rattle.mir_func.specs.declared.func.Op.TheVariants as ops
use Rattle.mir_func.specs.declared.func.Operand.TheVariants as operands
use Rattle.mir_func.specs.declared.func.Instr.{Instr}
use Rattle.mir_func.specs.declared.func.Block.{Block}
use Rattle.mir_func.specs.Value.{Function}
use Rattle.mir_func.specs.Binding.{does, is_terminator, is_virtual, passes}
use Rattle.mir_meaning.specs.Registers.{located_lanes, numbers, operand_lanes, range_widths, use_sources}
use Rattle.mir_meaning.specs.Items.{copied, defined_undef, moved, undefined}
use Rattle.mir_meaning.specs.Codes.{ends_without_terminator, fallen_into, falls_through, first_number, given_of, instrs_of, is_given, item_of, phi_operands, phis_written, refines, way}
use Rattle.mir_meaning.specs.Points.{has_no_phis}
use Rattle.phi_elim.specs.declared.arrivals.Arrival.{Arrival}
use Rattle.phi_elim.specs.Moves.{copy_of, copy_op, source_of, undefining, whole_definition}
use Rattle.phi_elim.specs.Numbered.{blocks_numbered, numbered}
use Rattle.phi_elim.specs.Phis.{all_in_place, all_instrs, arriving, arriving_at, before_terminators, from_incoming, lowered_blocks, phi_count, phi_number, phis_lowered}
use Rattle.lowering_laws.specs.Laws.{PhisAreGone}
use Rattle.lowering_laws.proofs.Alike.{Behind, Equal, MovesRanges, is_ranged}
use Rattle.lowering_laws.proofs.Arrivals.{all-kept, arrival_writes, left-alone, to-all, writes_at}
use Rattle.lowering_laws.proofs.Chained.{BlocksStep, Enters, blocks-refine, done, more}
use Rattle.lowering_laws.proofs.Classes.{AllNamed, among-cases, none-among, refines-widened}
use Rattle.lowering_laws.proofs.Lowering.{K, NoPhis, Shape, Start, WayOn, arrs, body, bound, counter, ending, further, h, start-equal, way-in}
use Rattle.lowering_laws.proofs.Placed.{arriving-goes-on, before-set, copy-effect, falls-same, numbered-items, open-same, set_before, undef-effect}
use Rattle.lowering_laws.proofs.Stretches.{Stretch}
use Rattle.lowering_laws.proofs.Traced.{is_lane_of, traced}

-- no phi is left

module _ (t : Target) where
  arriving-plain : (a : Arrival) → does is_phi t (arriving a) ≡ false
  arriving-plain a = go a.from.undef
    where
      go : (y : Bool) → does is_phi t (cond y (undefining (whole_definition a.to)) (copy_of (whole_definition a.to) (source_of a.from))) ≡ false
      go true = ap (passes is_phi) (undef-effect t (undefining (whole_definition a.to)) refl)
      go false = ap (passes is_phi) (copy-effect t (copy_of (whole_definition a.to) (source_of a.from)) refl)

  arriving-none : (list : List Arrival) → NoPhis t (map arriving list)
  arriving-none [] = tt
  arriving-none (a ∷ list) = (arriving-plain a, arriving-none list)

  placed-none : (c : ℕ) (is : List Instr) → NoPhis t (all_in_place t c is)
  placed-none c [] = tt
  placed-none c (i ∷ is) = (go (does is_phi t i) refl, placed-none (c + phi_number t i) is)
    where
      copy : Instr
      copy = record i { op = ops.Known copy_op; operands = from_incoming c i.operands }

      go : (y : Bool) → does is_phi t i ≡ y → does is_phi t (cond y copy i) ≡ false
      go true e = ap (passes is_phi) (copy-effect t copy refl)
      go false e = e

  pub append-none : (xs ys : List Instr) → NoPhis t xs → NoPhis t ys → NoPhis t (xs ++ ys)
  append-none [] ys n m = m
  append-none (x ∷ xs) ys n m = (n.0, append-none xs ys n.1 m)

  set-none : (new is : List Instr) → NoPhis t new → NoPhis t is → NoPhis t (set_before t new is)
  set-none new [] n m = n
  set-none new (i ∷ is) n m = go (does is_terminator t i) (set-none new is n m.1)
    where
      go : (y : Bool) → NoPhis t (set_before t new is) → NoPhis t (cond y (new ++ i ∷ is) (i ∷ set_before t new is))
      go true k = append-none new (i ∷ is) n m
      go false k = (m.0, k)

  pub numbered-none : (n : ℕ) (is : List Instr) → NoPhis t is → NoPhis t (numbered n is)
  numbered-none n [] m = tt
  numbered-none n (i ∷ is) m = (m.0, numbered-none (n + 1) is m.1)

  pub none-written : (f : Function) (n : ℕ) (is : List Instr) → NoPhis t is → phis_written t f n is ≡ []
  none-written f n [] m = refl
  none-written f n (i ∷ is) m = λ k. none-written f n is m.1 k ++ cond (m.0 k) (phi_operands t f n i.operands) []

  module _ (list : List Arrival) where
    block-none : (n x c : ℕ) (is : List Instr) → NoPhis t (numbered n (before_terminators t (arriving_at list x) (all_in_place t c is)))
    block-none n x c is =
        numbered-none n (before_terminators t (arriving_at list x) (all_in_place t c is))
        (subst (NoPhis t) (sym (before-set t (arriving_at list x) (all_in_place t c is))) (set-none (arriving_at list x) (all_in_place t c is) (arriving-none (filter (λ a. a.block == x) list)) (placed-none c is)))

    instrs-none : (n x c : ℕ) (bs : List Block) (m : ℕ) → NoPhis t (instrs_of (blocks_numbered n (lowered_blocks t list x c bs)) m)
    instrs-none n x c [] m = tt
    instrs-none n x c (b ∷ bs) m = go (nat_eq b.number m) (instrs-none (n + length L) (x + 1) (c + phi_count t b.instrs) bs m)
      where
        L : List Instr
        L = before_terminators t (arriving_at list x) (all_in_place t c b.instrs)

        rest : List Block
        rest = blocks_numbered (n + length L) (lowered_blocks t list (x + 1) (c + phi_count t b.instrs) bs)

        go : (y : Bool) → NoPhis t (instrs_of rest m) → NoPhis t (elim (cond y (Some (record b { instrs = numbered n L })) (find (λ d. nat_eq d.number m) rest)) as (λ q. List Instr) [ None ↦ [] | Some d ↦ d.instrs ])
        go true k = block-none n x c b.instrs
        go false k = k

    listed : (is : List Instr) → NoPhis t is → list_all (λ i. not (does is_phi t i)) is ≡ true
    listed [] n = refl
    listed (i ∷ is) n = λ k. not (n.0 k) && listed is n.1 k

    pub none-left : (n x c : ℕ) (bs : List Block) → has_no_phis t (blocks_numbered n (lowered_blocks t list x c bs)) ≡ true
    none-left n x c [] = refl
    none-left n x c (b ∷ bs) =
        let L = before_terminators t (arriving_at list x) (all_in_place t c b.instrs) in
        λ k. listed (numbered n L) (block-none n x c b.instrs) k && none-left (n + length L) (x + 1) (c + phi_count t b.instrs) bs k

pub phis_are_gone : PhisAreGone
unfolding phis_lowered
phis_are_gone t f = none-left t (arrs t f) 0 0 (bound t f) f.blocks

-- copies into incoming registers move lanes of virtual registers

-- all that is copied is virtual
abbrev pub FromRanges : List Arrival → Type 0
FromRanges [] = Unit {0}
FromRanges (a ∷ list) = (is_virtual a.from.loc ≡ true) × FromRanges list

abbrev AllRanged : Writes → Type 0
AllRanged [] = Unit {0}
AllRanged (w ∷ ws) = (is_ranged (settled w.fill) ≡ true) × AllRanged ws

filled-ranged : (ws : Writes) → AllRanged ws → (v k : ℕ) → is_ranged (settled (filled ws (VirtualLane v k))) ≡ true
filled-ranged [] r v k = refl
filled-ranged (w ∷ ws) r v k = go (same_lane w.lane (VirtualLane v k)) (filled-ranged ws r.1 v k)
  where
    go : (b : Bool) → is_ranged (settled (filled ws (VirtualLane v k))) ≡ true → is_ranged (settled (cond b w.fill (filled ws (VirtualLane v k)))) ≡ true
    go true ih = r.0
    go false ih = ih

undefined-ranged : (ls : List Lane) → AllRanged (undefined false ls)
undefined-ranged [] = tt
undefined-ranged (l ∷ ls) = (refl, undefined-ranged ls)

append-ranged : (xs ys : Writes) → AllRanged xs → AllRanged ys → AllRanged (xs ++ ys)
append-ranged [] ys r q = q
append-ranged (w ∷ xs) ys r q = (r.0, append-ranged xs ys r.1 q)

moved-ranged : (ls : List Lane) (undef : Bool) (v : ℕ) (ks : List ℕ) → AllRanged (moved false ls (map (cond undef (λ l. Undef) FromLane) (map (VirtualLane v) ks)))
moved-ranged [] undef v ks = tt
moved-ranged (l ∷ ls) undef v [] = tt
moved-ranged (l ∷ ls) true v (k ∷ ks) = (refl, moved-ranged ls true v ks)
moved-ranged (l ∷ ls) false v (k ∷ ks) = (refl, moved-ranged ls false v ks)

module _ (t : Target) (f : Function) where
  use-ranged : (ls : List Lane) (o : RegOp) → is_virtual o.loc ≡ true → AllRanged (moved false ls (use_sources t f o))
  use-ranged ls o e = go o.loc o.index e
    where
      go : (l : Loc) (x : Option IndexId) → is_virtual l ≡ true → AllRanged (moved false ls (map (cond o.undef (λ l. Undef) FromLane) (located_lanes t f l x)))
      go (Virtual v) None e = moved-ranged ls o.undef v (numbers 0 (length (range_widths t f v)))
      go (Virtual v) (Some x) e = moved-ranged ls o.undef v (lanes_of t x)
      go (Fixed r) x e = absurd (cc)

  arrival-ranged : (a : Arrival) → is_virtual a.from.loc ≡ true → AllRanged (arrival_writes t f a)
  arrival-ranged a e = go a.from.undef
    where
      go : (y : Bool) → AllRanged (cond y (defined_undef t f (operands.Reg (whole_definition a.to) ∷ [])) (copied t f (operands.Reg (whole_definition a.to) ∷ operands.Reg (source_of a.from) ∷ [])))
      go true = undefined-ranged (operand_lanes t f (whole_definition a.to) ++ [])
      go false = append-ranged (moved false (operand_lanes t f (whole_definition a.to)) (use_sources t f (source_of a.from))) [] (use-ranged (operand_lanes t f (whole_definition a.to)) (source_of a.from) e) tt

  module _ (x : ℕ) where
    ranges-move : (list : List Arrival) → FromRanges list → (v k : ℕ) → is_ranged (traced (writes_at t f x list) (FromLane (VirtualLane v k))) ≡ true
    ranges-move [] r v k = refl
    ranges-move (a ∷ list) r v k = go (a.block == x) (ranges-move list r.1 v k)
      where
        step : (s : Source) → is_ranged s ≡ true → is_ranged (settled (through (arrival_writes t f a) s)) ≡ true
        step (FromLane (VirtualLane w j)) e = filled-ranged (arrival_writes t f a) (arrival-ranged a r.0) w j
        step (FromLane (UnitLane u)) e = absurd (cc)
        step (FromLane (SlotLane p j w)) e = absurd (cc)
        step Undef e = refl
        step (Bits c low width) e = absurd (cc)

        go : (y : Bool) → is_ranged (traced (writes_at t f x list) (FromLane (VirtualLane v k))) ≡ true → is_ranged (traced (map (arrival_writes t f) (cond y (a ∷ filter (λ z. z.block == x) list) (filter (λ z. z.block == x) list))) (FromLane (VirtualLane v k))) ≡ true
        go true e = step (traced (writes_at t f x list) (FromLane (VirtualLane v k))) e
        go false e = e

    -- a lane of no virtual register stays
    others-stay : (l : Lane) → ((v : ℕ) → is_lane_of v l ≡ false) → (list : List Arrival) → traced (writes_at t f x list) (FromLane l) ≡ FromLane l
    others-stay l n [] = refl
    others-stay l n (a ∷ list) = go (a.block == x) (others-stay l n list)
      where
        go : (y : Bool) → traced (writes_at t f x list) (FromLane l) ≡ FromLane l → traced (map (arrival_writes t f) (cond y (a ∷ filter (λ z. z.block == x) list) (filter (λ z. z.block == x) list))) (FromLane l) ≡ FromLane l
        go true e = ap (λ q. settled (through (arrival_writes t f a) q)) e ∙ left-alone t f a l (n a.to)
        go false e = e

module _ (t : Target) (f : Function) where
  -- what is asked of block b at place x, whose first incoming register has number c
  pub record BlockFacts (x c : ℕ) (b : Block) (after : List Block) : Type 0 where
    pub counted : counter t (bound t f) f.blocks b.number ≡ c
    pub found : instrs_of f.blocks b.number ≡ b.instrs
    pub shape : Shape t f (ending t f x) b b.instrs
    pub leads : (s : Successor) → Among s b.successors → WayOn t f (ending t f x) b.number s.block
    pub below : (m : ℕ) → fallen_into t b after ≡ Some m → WayOn t f (ending t f x) b.number m

  abbrev pub Facts : ℕ → ℕ → List Block → Type 0
  Facts x c [] = Unit {0}
  Facts x c (b ∷ bs) = BlockFacts x c b bs × Facts (x + 1) (c + phi_count t b.instrs) bs

  -- the first block has no phi
  abbrev pub FirstBare : List Block → Type 0
  FirstBare [] = Unit {0}
  FirstBare (b ∷ bs) = NoPhis t b.instrs

  abbrev g : Function
  g = phis_lowered t f

  bare : (n m : ℕ) → (way t g n m).phis ≡ []
  unfolding phis_lowered
  bare n m = none-written t g n (instrs_of g.blocks m) (instrs-none t (arrs t f) 0 0 (bound t f) f.blocks m)

  same-given : (u n x c : ℕ) (bs : List Block) → is_given t (blocks_numbered n (lowered_blocks t (arrs t f) x c bs)) u ≡ is_given t bs u
  same-given u n x c [] = refl
  same-given u n x c (b ∷ bs) = refl

  given-same : (u : ℕ) → given_of t g u ≡ given_of t (h t f) u
  unfolding phis_lowered
  given-same u = ap (λ y. cond y (Some (unit_width t.units (unit_number u))) None) (same-given u 0 0 (bound t f) f.blocks)

  starts-same : (env : Environment) (s : Source) → fetch env (start_state env (given_of t (h t f))) s ≡ fetch env (start_state env (given_of t g)) s
  starts-same env (FromLane (VirtualLane v k)) = refl
  starts-same env (FromLane (UnitLane u)) = λ k. start_state env (λ w. sym (given-same w) k) (UnitLane u)
  starts-same env (FromLane (SlotLane p j w)) = refl
  starts-same env Undef = refl
  starts-same env (Bits c low width) = refl

  agrees : (env : Environment) → Agrees env (Equal (bound t f)) (start_state env (given_of t (h t f))) (start_state env (given_of t g))
  agrees env s u k = value-same (fetch env (start_state env (given_of t (h t f))) s) (fetch env (start_state env (given_of t g)) u) (starts-same env s ∙ ap (fetch env (start_state env (given_of t g))) (sym k.1))

  module _ (named : AllNamed f f.blocks) (ranges : FromRanges (arrs t f)) where
    moves : (x : ℕ) → MovesRanges (bound t f) (ending t f x)
    moves x = record {
      units = λ u. others-stay t (h t f) x (UnitLane u) (λ v. refl) (arrs t f);
      slots = λ s k w. others-stay t (h t f) x (SlotLane s k w) (λ v. refl) (arrs t f);
      ranges = λ v k. ranges-move t (h t f) x (arrs t f) ranges v k;
      kept = λ s o. all-kept t (h t f) (bound t f) x (arrs t f) s (to-all t f.blocks (bound t f) (all_instrs f.blocks)) o;
    }

    first-same : (n x c : ℕ) (bs : List Block) → first_number (blocks_numbered n (lowered_blocks t (arrs t f) x c bs)) ≡ first_number bs
    first-same n x c [] = refl
    first-same n x c (b ∷ bs) = refl

    arriving-ends : (list : List Arrival) (i : Instr) → Among i (map arriving list) → does is_terminator t i ≡ false
    arriving-ends [] i m = absurd (none-among i m)
    arriving-ends (a ∷ list) i m = go (among-cases i (arriving a) (map arriving list) m) (arriving-ends list i)
      where
        go : (i ≡ arriving a) ⊎ Among i (map arriving list) → (Among i (map arriving list) → does is_terminator t i ≡ false) → does is_terminator t i ≡ false
        go (inl e) ih = ap (does is_terminator t) e ∙ arriving-goes-on t a
        go (inr k) ih = ih k

    pub steps : (n x c : ℕ) (bs : List Block) → Facts x c bs → BlocksStep t (h t f) g (K t f) bs (blocks_numbered n (lowered_blocks t (arrs t f) x c bs))
    steps n x c [] z = done
    steps n x c (b ∷ bs) z =
        more
        (record {
          number = refl;
          successors = refl;
          falls = falls;
          before_end = Behind (bound t f) (ending t f x);
          stretch = subst (λ m. Stretch (K t f) (Start t f m (instrs_of f.blocks b.number)) (Behind (bound t f) (ending t f x)) (map (item_of t (h t f) b) b.instrs) (map (item_of t g c') (numbered n L))) (sym z.0.counted) (subst (λ js. Stretch (K t f) (Start t f c js) (Behind (bound t f) (ending t f x)) (map (item_of t (h t f) b) b.instrs) (map (item_of t g c') (numbered n L))) (sym z.0.found) (subst (λ q. Stretch (K t f) (Start t f c b.instrs) (Behind (bound t f) (ending t f x)) (map (item_of t (h t f) b) b.instrs) q) (sym items) (body t f named bare x b (numbered n L) (moves x) z.0.leads c z.0.shape)));
          exits = λ s m. way-in t f named bare (ending t f x) b.number s.block (moves x) (z.0.leads s m);
          below = λ m e. way-in t f named bare (ending t f x) b.number m (moves x) (z.0.below m e);
        })
        (steps (n + length L) (x + 1) (c + phi_count t b.instrs) bs z.1)
      where
        new : List Instr
        new = arriving_at (arrs t f) x

        placed : List Instr
        placed = all_in_place t c b.instrs

        L : List Instr
        L = before_terminators t new placed

        c' : Block
        c' = record b { instrs = numbered n L }

        after : List Block
        after = blocks_numbered (n + length L) (lowered_blocks t (arrs t f) (x + 1) (c + phi_count t b.instrs) bs)

        items : map (item_of t g c') (numbered n L) ≡ map (item_of t g c') (set_before t new placed)
        items = numbered-items t g c' n L ∙ ap (map (item_of t g c')) (before-set t new placed)

        none : (i : Instr) → Among i new → does is_terminator t i ≡ false
        none i m = arriving-ends (filter (λ a. a.block == x) (arrs t f)) i m

        falls-on : falls_through t (numbered n L) ≡ falls_through t b.instrs
        falls-on = ap (λ js. falls_through t (numbered n js)) (before-set t new placed) ∙ falls-same t new none n c b.instrs

        open-on : ends_without_terminator t (numbered n L) ≡ ends_without_terminator t b.instrs
        open-on = ap (λ js. ends_without_terminator t (numbered n js)) (before-set t new placed) ∙ open-same t new none n c b.instrs

        falls : fallen_into t c' after ≡ fallen_into t b bs
        falls = λ k. cond (falls-on k && not (t.options.open_blocks && nat_eq (length b.successors) 0 && open-on k)) (first-same (n + length L) (x + 1) (c + phi_count t b.instrs) bs k) None

    pub phis-by-facts : Facts 0 (bound t f) f.blocks → FirstBare f.blocks → refines t f g
    unfolding phis_lowered
    phis-by-facts z first = refines-widened t f (further t f) named g (blocks-refine t (h t f) g (K t f) (steps 0 0 (bound t f) f.blocks z) (Equal (bound t f)) (enters f.blocks z first) agrees)
      where
        enters : (bs : List Block) → Facts 0 (bound t f) bs → FirstBare bs → Enters t (h t f) g (K t f) bs (Equal (bound t f))
        enters [] z n = tt
        enters (b ∷ bs) z n = subst (λ m. Within (Start t f m (instrs_of f.blocks b.number)) (Equal (bound t f))) (sym z.0.counted) (subst (λ js. Within (Start t f (bound t f) js) (Equal (bound t f))) (sym z.0.found) (start-equal t f (bound t f) b.instrs n))
