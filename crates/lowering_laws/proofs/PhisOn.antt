-- On each way of a valid source its phis are given what the copies behind lowering give.
use Rattle.std.proofs.Common.{◌≡◌, ◌⊎◌, inl, inr, ◌∷◌, ◌++◌, ◌∙◌, ◌&&◌, ◌||◌, ◌+◌, ◌≤◌, not, ℕ, suc, Bool, true, false, cond, List, Option, Some, None, map, filter, flat_map, length, drop, refl, sym, ap, subst, append-nil, eqb-true, arith, []}
use Rattle.std.specs.Prelude.{find, nat_eq, slice_get}
use Rattle.target_base.specs.declared.types.ClassId.{ClassId}
use Rattle.target_base.specs.declared.types.Target.{Target}
use Rattle.target_base.specs.Names.{are_distinct_numbers}
use Rattle.target_base.specs.Registers.{widths_of_some}
use Rattle.target_base.specs.Rules.{is_phi}
use Rattle.target_base.proofs.Tests.{first_of_both, second_of_both}
use Rattle.meaning.specs.Lanes.{filled, settled}
use Rattle.meaning.specs.Live.{Among, here, there}
use Rattle.meaning.specs.Relations.{Rel}
use Rattle.meaning.specs.declared.types.Fill.TheVariants.{Moved}
use Rattle.meaning.specs.declared.types.Lane.{Lane}
use Rattle.meaning.specs.declared.types.Lane.TheVariants.{VirtualLane}
use Rattle.meaning.specs.declared.types.Source.{Source}
use Rattle.meaning.specs.declared.types.Source.TheVariants.{FromLane, Undef}
use Rattle.mir_func.specs.declared.func.Loc.TheVariants.{Virtual}
use Rattle.mir_func.specs.declared.func.RegOp.{RegOp}
use Rattle.mir_func.specs.declared.func.Operand.TheVariants as operands
use Rattle.mir_func.specs.declared.func.Instr.{Instr}
use Rattle.mir_func.specs.declared.func.Block.{Block}
use Rattle.mir_func.specs.Value.{Function}
use Rattle.mir_func.specs.Binding.{class_of, does, registers}
use Rattle.mir_meaning.specs.Registers.{has_number, located_lanes, numbers, operand_lanes, range_lanes, range_widths, undefined_lanes, use_sources, whole_lanes}
use Rattle.mir_meaning.specs.Items.{copied, defined, defined_undef, moved, undefined}
use Rattle.mir_meaning.specs.Codes.{instrs_of, phi_operands}
use Rattle.mir_meaning.specs.Rules.{V7, block_of, has_class, lists_once, named_blocks, phi_stands, predecessors, successors_of}
use Rattle.phi_elim.specs.Moves.{source_of, whole_definition, whole_use}
use Rattle.phi_elim.specs.Phis.{all_instrs, arrivals_of, from_incoming, located_class, phi_count, phi_number, result_class}
use Rattle.instr_effects.proofs.Members.{filter-in, map-in, member-elim, member-none}
use Rattle.live_laws.proofs.Effects.Blocks.{slice-member}
use Rattle.live_laws.proofs.Effects.Lists.{all-of}
use Rattle.lowering_laws.proofs.Alike.{Behind}
use Rattle.lowering_laws.proofs.Arrivals.{Arrived, IsPlace, PhiAt, arrival_writes, arrived, at-least, at-least-first, at-left, at-right, first, in-all, incoming-at, later, writes_at}
use Rattle.lowering_laws.proofs.Classes.{lanes-stay, sources-stay}
use Rattle.lowering_laws.proofs.Lowering.{bound, counter, ending, further, h}
use Rattle.lowering_laws.proofs.Olds.{class-old, old_source, use-old}
use Rattle.lowering_laws.proofs.Operands.{PhiShape, named, phi-shape}
use Rattle.lowering_laws.proofs.Ruled.{PlacedRules}
use Rattle.lowering_laws.proofs.Traced.{Given, given-alike, is_one, lanes_by, traced, undefined-own}
use Rattle.lowering_laws.proofs.Ways.{PhiOn, PhisOn, done, phi, plain}

map-length : {A B : Type 0} (g : A → B) (xs : List A) → length (map g xs) ≡ length xs
map-length g [] = refl
map-length g (y ∷ xs) = ap suc (map-length g xs)

-- what stands among nothing but Undef is Undef
all-undef : (s : Source) (ls : List Lane) → Among s (map (λ (l : Lane). Undef) ls) → s ≡ Undef
all-undef s [] m = absurd (member-none s m)
all-undef s (l ∷ ls) m = member-elim s Undef (map (λ (l : Lane). Undef) ls) (λ e. e) (λ k. all-undef s ls k) m

module _ (t : Target) (f : Function) where
  abbrev H : Function
  H = h t f

  -- a phi of block bm, which block c at place x leads to
  module _ (x : ℕ) (c : Block) (at-x : slice_get f.blocks x ≡ Some c) (place : IsPlace f.blocks c.number x) (k : ℕ) (bm : Block) (leads : has_number (successors_of c) bm.number ≡ true) (j : ℕ) (p : Instr) (r : PlacedRules t f k bm j p) (is-phi : does is_phi t p ≡ true) (ci : ℕ) (stands : PhiAt t ci p (bound t f) (all_instrs f.blocks)) where
    z : PhiShape t f p.operands
    z = phi-shape t f p r.own is-phi

    abbrev ns : List ℕ
    ns = numbers 0 (length (range_widths t f z.v))

    abbrev n : ℕ
    n = c.number

    d-there : Among z.d (registers p.operands)
    d-there = subst (λ os. Among z.d (registers os)) (sym z.are) here

    class-v : has_class f (Virtual z.v) ≡ true
    class-v = ap (has_class f) (sym z.loc) ∙ (named t f p r.own z.d d-there).class

    rest-there : (s : RegOp) → Among s (registers z.rest) → has_class f s.loc ≡ true
    rest-there s m = (named t f p r.own s (subst (λ os. Among s (registers os)) (sym z.are) (there m))).class

    once : lists_once (named_blocks p) (predecessors f bm.number) ≡ true
    unfolding V7
    once = second_of_both _ _ (given-phi (does is_phi t p) is-phi r.seven)
      where
        given-phi : (b : Bool) → b ≡ true → (not b || phi_stands t f k bm j p) ≡ true → phi_stands t f k bm j p ≡ true
        given-phi true e q = q
        given-phi false e q = absurd (cc)

    named-rest : named_blocks p ≡ flat_map block_of z.rest
    named-rest = ap (flat_map block_of) z.are

    distinct : are_distinct_numbers (flat_map block_of z.rest) ≡ true
    distinct = subst (λ q. are_distinct_numbers q ≡ true) named-rest (first_of_both _ _ (first_of_both _ _ once))

    among-before : Among n (predecessors f bm.number)
    among-before = map-in (λ (b : Block). b.number) c (filter (λ b. has_number (successors_of b) bm.number) f.blocks) (filter-in (λ b. has_number (successors_of b) bm.number) c f.blocks (slice-member f.blocks x c at-x) leads)

    has : has_number (flat_map block_of z.rest) n ≡ true
    has = subst (λ q. has_number q n ≡ true) named-rest (all-of (has_number (named_blocks p)) n (predecessors f bm.number) among-before (second_of_both _ _ once))

    w : Arrived t H f.blocks n x ci place z.d z.rest
    w = arrived t H f.blocks n x ci place z.d z.rest z.pairs distinct has

    abbrev ss : List Source
    ss = use_sources t H w.s

    abbrev all : Bool
    all = z.d.def && z.d.undef

    lanes-d : operand_lanes t H z.d ≡ lanes_by z.v ns
    lanes-d = (λ q. located_lanes t H (z.loc q) (z.index q)) ∙ lanes-stay t f (further t f) (Virtual z.v) None class-v

    undef-d : undefined_lanes t H z.d ≡ cond all (lanes_by z.v ns) []
    undef-d = (λ q. cond all (whole_lanes t H (z.loc q)) []) ∙ ap (λ ls. cond all ls []) (lanes-stay t f (further t f) (Virtual z.v) None class-v)

    given-d : (qs : List Source) → defined t H false z.d qs ≡ moved false (lanes_by z.v ns) qs ++ undefined false (cond all (lanes_by z.v ns) [])
    given-d qs = λ q. moved false (lanes-d q) qs ++ undefined false (undef-d q)

    class-ci : class_of H ci ≡ class_of f z.v
    class-ci =
        ap (λ q. elim q as (λ q. Option ClassId) [ None ↦ None | Some y ↦ y ]) (incoming-at t ci p f.classes f.classes is-phi stands refl)
        ∙ (ap (result_class f.classes) z.are ∙ ap (located_class f.classes) z.loc)

    lanes-ci : range_lanes t H ci ≡ lanes_by ci ns
    lanes-ci = ap (λ q. map (VirtualLane ci) (numbers 0 (length (widths_of_some t q)))) class-ci

    long : length ns ≤ length ss
    long =
        let one = z.long w.s w.among in
        let two : length ss ≡ length (operand_lanes t H w.s) = map-length (cond w.s.undef (λ (l : Lane). Undef) FromLane) (operand_lanes t H w.s) in
        let three : length (operand_lanes t H w.s) ≡ length (operand_lanes t f w.s) = ap length (lanes-stay t f (further t f) w.s.loc w.s.index (rest-there w.s w.among)) in
        omega (arith, one, two, three)

    given : (q : ℕ) → is_one ns q ≡ true → Given z.v ci ns ss q
    given q e = given-alike z.v ci ns ss q long e

    old : (q : ℕ) (e : is_one ns q ≡ true) → old_source (bound t f) (given q e).source ≡ true
    old q e =
        use-old t f w.s (rest-there w.s w.among) (given q e).source
        (subst (Among (given q e).source) (sources-stay t f (further t f) w.s (rest-there w.s w.among)) (given q e).among)

    -- the copy at the end of block c
    own-copy : (q : ℕ) (e : is_one ns q ≡ true) → settled (filled (arrival_writes t H (record { block = x; to = ci; from = w.s })) (VirtualLane ci q)) ≡ (given q e).source
    own-copy q e = go w.s.undef refl
      where
        made : Source
        made = (given q e).source

        go : (u : Bool) → w.s.undef ≡ u → settled (filled (cond u (defined_undef t H (operands.Reg (whole_definition ci) ∷ [])) (copied t H (operands.Reg (whole_definition ci) ∷ operands.Reg (source_of w.s) ∷ []))) (VirtualLane ci q)) ≡ made
        go true g =
            let one : filled (undefined false (range_lanes t H ci ++ [])) (VirtualLane ci q) ≡ Moved Undef =
            ap (λ ls. filled (undefined false ls) (VirtualLane ci q)) (append-nil (range_lanes t H ci) ∙ lanes-ci)
            ∙ (ap (λ ws. filled ws (VirtualLane ci q)) (sym (append-nil (undefined false (lanes_by ci ns)))) ∙ undefined-own ci ns [] q e) in
            let two : made ≡ Undef = all-undef made (operand_lanes t H w.s) (subst (λ y. Among made (map (cond y (λ l. Undef) FromLane) (operand_lanes t H w.s))) g (given q e).among) in
            ap settled one ∙ sym two
        go false g = ap (λ ls. settled (filled (moved false ls ss ++ []) (VirtualLane ci q))) lanes-ci ∙ ap settled ((given q e).other [])

    pub phi-on : PhiOn t H (bound t f) (Behind (bound t f) (ending t f x)) n ci p
    phi-on = record {
      v = z.v;
      ns = ns;
      all = all;
      ss = ss;
      old = class-old f z.v class-v;
      new = at-least ci (bound t f) (at-least-first t ci p stands);
      written = (λ q. cond (is-phi q) (phi_operands t H n (z.are q)) []) ∙ (w.pair ∙ given-d ss);
      copy = (λ q. copied t H (from_incoming ci (z.are q))) ∙ (given-d (use_sources t H (whole_use ci)) ∙ ap (λ ls. moved false (lanes_by z.v ns) (map FromLane ls) ++ undefined false (cond all (lanes_by z.v ns) [])) lanes-ci);
      given = given;
      arrived = λ q e. (
        old q e,
        in-all t ci p f.blocks H (bound t f) x q (given q e).source is-phi (old q e)
            (ap (λ os. traced (writes_at t H x (arrivals_of f.blocks ci (drop 1 os))) (FromLane (VirtualLane ci q))) z.are
            ∙ (ap (λ list. traced (map (arrival_writes t H) list) (FromLane (VirtualLane ci q))) w.arrivals ∙ own-copy q e))
            stands (omega arith),
      );
    }

  -- all phis of a block

  module _ (x : ℕ) (c : Block) (at-x : slice_get f.blocks x ≡ Some c) (place : IsPlace f.blocks c.number x) (k : ℕ) (bm : Block) (leads : has_number (successors_of c) bm.number ≡ true) where
    abbrev S : Rel
    S = Behind (bound t f) (ending t f x)

    abbrev Built : ℕ → List Instr → Type 0
    Built cc' is = PhisOn t H (bound t f) S c.number cc' is

    pub build : (cc' : ℕ) (is : List Instr) → ((i : Instr) → Among i is → (j : ℕ) × PlacedRules t f k bm j i) → ((ci : ℕ) (p : Instr) → PhiAt t ci p cc' is → PhiAt t ci p (bound t f) (all_instrs f.blocks)) → Built cc' is
    build cc' [] rules stands = done
    build cc' (i ∷ is) rules stands = go (does is_phi t i) refl (build (cc' + phi_number t i) is (λ y m. rules y (there m)) (λ ci p a. stands ci p (later a)))
      where
        go : (y : Bool) → does is_phi t i ≡ y → Built (cc' + phi_number t i) is → Built cc' (i ∷ is)
        go false e on = plain e on
        go true e on = let r = rules i here in phi e (phi-on x c at-x place k bm leads r.0 i r.1 e cc' (stands cc' i first)) on

  none-at : {ci : ℕ} {p : Instr} {c : ℕ} {is : List Instr} → PhiAt t ci p c is → is ≡ [] → ⊥
  none-at first e = cc
  none-at (later a) e = cc

  -- the instructions of the block of a number stand among all
  pub embed : (ci : ℕ) (p : Instr) (bs : List Block) (c m : ℕ) → PhiAt t ci p (counter t c bs m) (instrs_of bs m) → PhiAt t ci p c (all_instrs bs)
  embed ci p [] c m a = absurd (none-at a refl)
  embed ci p (b ∷ bs) c m a = go (nat_eq b.number m) a (embed ci p bs (c + phi_count t b.instrs) m)
    where
      go : (y : Bool) → PhiAt t ci p (cond y c (counter t (c + phi_count t b.instrs) bs m)) (elim (cond y (Some b) (find (λ d. nat_eq d.number m) bs)) as (λ q. List Instr) [ None ↦ [] | Some d ↦ d.instrs ]) → (PhiAt t ci p (counter t (c + phi_count t b.instrs) bs m) (instrs_of bs m) → PhiAt t ci p (c + phi_count t b.instrs) (all_instrs bs)) → PhiAt t ci p c (b.instrs ++ all_instrs bs)
      go true a' ih = at-left t ci p (all_instrs bs) a'
      go false a' ih = at-right t ci p c b.instrs (all_instrs bs) (ih a')

  -- the block of a number
  pub found-or : (bs : List Block) (m : ℕ) → (instrs_of bs m ≡ []) ⊎ ((b : Block) × Among b bs × (b.number ≡ m) × (instrs_of bs m ≡ b.instrs))
  found-or [] m = inl refl
  found-or (b ∷ bs) m = go (nat_eq b.number m) refl (found-or bs m)
    where
      instrs-by : Bool → List Instr
      instrs-by y = elim (cond y (Some b) (find (λ d. nat_eq d.number m) bs)) as (λ q. List Instr) [ None ↦ [] | Some d ↦ d.instrs ]

      past : (instrs_of bs m ≡ []) ⊎ ((d : Block) × Among d bs × (d.number ≡ m) × (instrs_of bs m ≡ d.instrs)) → (instrs_of bs m ≡ []) ⊎ ((d : Block) × Among d (b ∷ bs) × (d.number ≡ m) × (instrs_of bs m ≡ d.instrs))
      past (inl e) = inl e
      past (inr z) = inr (z.0, there z.1, z.2, z.3)

      go : (y : Bool) → nat_eq b.number m ≡ y → (instrs_of bs m ≡ []) ⊎ ((d : Block) × Among d bs × (d.number ≡ m) × (instrs_of bs m ≡ d.instrs)) → (instrs-by y ≡ []) ⊎ ((d : Block) × Among d (b ∷ bs) × (d.number ≡ m) × (instrs-by y ≡ d.instrs))
      go true e ih = inr (b, here, eqb-true b.number m e, refl)
      go false e ih = past ih
