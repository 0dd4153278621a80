-- Silent instructions that move nothing that they don't read.
use Rattle.std.proofs.Common.{◌≡◌, ◌⊎◌, ◌≤◌, ℕ, ◌+◌, Bool, true, false, not, List, [], ◌∷◌, ◌++◌, Option, Some, None, map, flat_map, length, refl, sym, ap, ◌∙◌, subst, inl, inr, arith}
use Rattle.std.specs.Prelude.{is_none}
use Rattle.std.specs.List.{list_all}
use Rattle.target_base.specs.declared.types.IndexId.{IndexId}
use Rattle.target_base.specs.declared.types.Target.{Target}
use Rattle.target_base.proofs.Tests.{first_of_both, second_of_both}
use Rattle.meaning.specs.declared.types.Lane.{Lane}
use Rattle.meaning.specs.declared.types.Constant.{Constant}
use Rattle.meaning.specs.declared.types.Constant.TheVariants.{Immediate, StackAddress, FixedStackAddress, SymbolAddress}
use Rattle.meaning.specs.declared.types.Source.{Source}
use Rattle.meaning.specs.declared.types.Source.TheVariants.{FromLane}
use Rattle.meaning.specs.declared.types.Fill.TheVariants.{Moved}
use Rattle.meaning.specs.declared.types.Write.{Write}
use Rattle.meaning.specs.Environment.{constant_source}
use Rattle.meaning.specs.Lanes.{Writes, Reads}
use Rattle.meaning.specs.Code.{Silent}
use Rattle.meaning.specs.Live.{Among as Member, here as first, there as later, is_slot}
use Rattle.mir_func.specs.declared.func.Loc.{Loc}
use Rattle.mir_func.specs.declared.func.Loc.TheVariants.{Virtual, Fixed}
use Rattle.mir_func.specs.declared.func.RegOp.{RegOp}
use Rattle.mir_func.specs.declared.func.Operand.{Operand}
use Rattle.mir_func.specs.declared.func.Operand.TheVariants as operands
use Rattle.mir_func.specs.Value.{Function}
use Rattle.mir_func.specs.Binding.{registers, is_virtual}
use Rattle.mir_meaning.specs.Registers.{operand_lanes, operand_widths, located_lanes, undefined_lanes, use_sources, is_reserved}
use Rattle.mir_meaning.specs.Items.{write, moved, undefined, uses, parts, sequenced, inserted, defined_undef, given_constant, constant_lanes, constant_bits, constant_of}
use Rattle.mir_meaning.specs.Rules.{is_whole_definition, is_virtual_use, index_pairs, index_fits, index_of, has_class}
use Rattle.mir_meaning.specs.Stands.{Tags}
use Rattle.instr_effects.specs.Owners.{fill_owner, source_owner}
use Rattle.instr_effects.specs.Stepping.{IsPlain}
use Rattle.instr_effects.proofs.Members.{member-none, member-elim, right-in, in-either, filter-of, filter-in, map-of, map-in}
use Rattle.live_laws.specs.Effects.Shaped.{AreClasses}
use Rattle.live_laws.proofs.Effects.Moved.{moved-of, undefined-lane, undefined-fill, undefined-in}
use Rattle.live_laws.proofs.Effects.Lists.{all-of}
use Rattle.live_laws.proofs.Effects.Shapes.{index-lanes}
use Rattle.live_laws.proofs.Effects.Silent.{Named, located-still, others-still, use-lane}

moves-none : (w : Write) (l : Lane) → fill_owner w.fill ≡ None → w.fill ≡ Moved (FromLane l) → ⊥
moves-none w l e g = let h = ap fill_owner g in cc

module _ (t : Target) (f : Function) (tag : Tags) where
  -- an item that reads nothing and moves nothing
  pub filled-plain : (W : Writes) → ((w : Write) → Member w W → is_reserved t w.lane ≡ false → (n : ℕ) × (tag w.lane ≡ Some n)) → ((w : Write) → Member w W → is_slot w.lane ≡ false) → ((w : Write) → Member w W → fill_owner w.fill ≡ None) → IsPlain (is_reserved t) tag (Silent [] W) W
  filled-plain W names still none = record {
    ordered = refl;
    unmoved = none;
    covered = λ w m r. (w, m, refl);
    covers = λ w m r. (w, m, refl);
    read = λ w l m g r. absurd (moves-none w l (none w m) g);
    numbered = λ l ss m k r. absurd (member-none ss m);
    written = names;
    unslotted = still;
    still = still;
    proper = λ l ss m k. absurd (member-none ss m);
  }

  pub empty-plain : IsPlain (is_reserved t) tag (Silent [] []) []
  empty-plain = filled-plain [] (λ w m r. absurd (member-none w m)) (λ w m. absurd (member-none w m)) (λ w m. absurd (member-none w m))

  -- lanes of a definition
  abbrev LaneOf : RegOp → Lane → Type 0
  LaneOf d l = Member l (operand_lanes t f d) ⊎ Member l (undefined_lanes t f d)

  lane-still : (d : RegOp) (l : Lane) → LaneOf d l → is_slot l ≡ false
  lane-still d l (inl m) = located-still t f d.loc d.index l m
  lane-still d l (inr m) = others-still t f d l m

  undef-plain : (d : RegOp) (os : List Operand) → Named t f tag (operands.Reg d ∷ os) → IsPlain (is_reserved t) tag (Silent [] (defined_undef t f (operands.Reg d ∷ os))) (defined_undef t f (operands.Reg d ∷ os))
  undef-plain d os names = filled-plain (undefined false (operand_lanes t f d ++ undefined_lanes t f d)) (λ w m r. names d w.lane first (lane w m) r) (λ w m. lane-still d w.lane (lane w m)) (λ w m. ap fill_owner (undefined-fill false w (operand_lanes t f d ++ undefined_lanes t f d) m))
    where
      lane : (w : Write) → Member w (undefined false (operand_lanes t f d ++ undefined_lanes t f d)) → LaneOf d w.lane
      lane w m = in-either w.lane (operand_lanes t f d) (undefined_lanes t f d) (undefined-lane false w (operand_lanes t f d ++ undefined_lanes t f d) m)

  -- IMPLICIT_DEF, and a phi where it stands
  pub undefined-plain : (os : List Operand) → Named t f tag os → IsPlain (is_reserved t) tag (Silent [] (defined_undef t f os)) (defined_undef t f os)
  undefined-plain [] names = empty-plain
  undefined-plain (operands.Reg d ∷ os) names = undef-plain d os names
  undefined-plain (o ∷ os) names = empty-plain

  bits-none : (c : Constant) (low : ℕ) (ws : List ℕ) (s : Source) → Member s (constant_bits c low ws) → source_owner s ≡ None
  bits-none c low [] s m = absurd (member-none s m)
  bits-none c low (w ∷ ws) s m = member-elim s (constant_source c low w) (constant_bits c (low + w) ws) (λ e. ap source_owner e ∙ one c) (λ k. bits-none c (low + w) ws s k) m
    where
      one : (c : Constant) → source_owner (constant_source c low w) ≡ None
      one (Immediate z) = refl
      one (StackAddress n) = refl
      one (FixedStackAddress n) = refl
      one (SymbolAddress name) = refl

  constants-none : (d : RegOp) (q : Option Constant) (s : Source) → Member s (constant_lanes t f d q) → source_owner s ≡ None
  constants-none d None s m = absurd (member-none s m)
  constants-none d (Some c) s m = bits-none c 0 (operand_widths t f d) s m

  given-plain : (early : Bool) (d : RegOp) (os : List Operand) (q : Option Constant) → Named t f tag (operands.Reg d ∷ os) → IsPlain (is_reserved t) tag (Silent [] (moved early (operand_lanes t f d) (constant_lanes t f d q) ++ undefined early (undefined_lanes t f d))) (moved early (operand_lanes t f d) (constant_lanes t f d q) ++ undefined early (undefined_lanes t f d))
  given-plain early d os q names = filled-plain W (λ w m r. names d w.lane first (lane w (either w m)) r) (λ w m. lane-still d w.lane (lane w (either w m))) (λ w m. none w (either w m))
    where
      W : Writes
      W = moved early (operand_lanes t f d) (constant_lanes t f d q) ++ undefined early (undefined_lanes t f d)

      either : (w : Write) → Member w (moved early (operand_lanes t f d) (constant_lanes t f d q) ++ undefined early (undefined_lanes t f d)) → Member w (moved early (operand_lanes t f d) (constant_lanes t f d q)) ⊎ Member w (undefined early (undefined_lanes t f d))
      either w m = in-either w (moved early (operand_lanes t f d) (constant_lanes t f d q)) (undefined early (undefined_lanes t f d)) m

      lane : (w : Write) → Member w (moved early (operand_lanes t f d) (constant_lanes t f d q)) ⊎ Member w (undefined early (undefined_lanes t f d)) → LaneOf d w.lane
      lane w (inl m) = inl (moved-of early w (operand_lanes t f d) (constant_lanes t f d q) m).1
      lane w (inr m) = inr (undefined-lane early w (undefined_lanes t f d) m)

      none : (w : Write) → Member w (moved early (operand_lanes t f d) (constant_lanes t f d q)) ⊎ Member w (undefined early (undefined_lanes t f d)) → fill_owner w.fill ≡ None
      none w (inl m) = let z = moved-of early w (operand_lanes t f d) (constant_lanes t f d q) m in ap fill_owner z.3 ∙ constants-none d q z.0 z.2
      none w (inr m) = ap fill_owner (undefined-fill early w (undefined_lanes t f d) m)

  -- constants and addresses
  pub constant-plain : (early : Bool) (os : List Operand) → Named t f tag os → IsPlain (is_reserved t) tag (Silent [] (given_constant t f early os)) (given_constant t f early os)
  constant-plain early [] names = empty-plain
  constant-plain early (operands.Reg d ∷ []) names = empty-plain
  constant-plain early (operands.Reg d ∷ o ∷ os) names = given-plain early d (o ∷ os) (constant_of _ o) names
  constant-plain early (o ∷ os) names = empty-plain

  -- what puts a register together

  abbrev U : List Operand → Reads
  U os = map (use_sources t f) (uses os)

  read-of : (os : List Operand) (ss : List Source) (l : Lane) → Member ss (U os) → Member (FromLane l) ss → (o : RegOp) × Member o (registers os) × Member l (operand_lanes t f o)
  read-of os ss l m k =
      let z = map-of (use_sources t f) ss (uses os) m in
      let y = filter-of (λ o. not o.def) z.0 (registers os) z.1 in
      (z.0, y.0, use-lane t f z.0 l (subst (Member (FromLane l)) z.2 k))

  read-in : (os : List Operand) (s : RegOp) → Member s (registers os) → s.def ≡ false → Member (use_sources t f s) (U os)
  read-in os s m e = map-in (use_sources t f) s (uses os) (filter-in (λ o. not o.def) s (registers os) m (ap not e))

  -- all lanes of a whole register are written, with what is read
  pub whole-plain : (d : RegOp) (os : List Operand) (W : Writes) → Named t f tag (operands.Reg d ∷ os) → ((w : Write) → Member w W → Member w.lane (operand_lanes t f d)) → ((w : Write) (l : Lane) → Member w W → w.fill ≡ Moved (FromLane l) → (s : RegOp) × Member s (registers (operands.Reg d ∷ os)) × (s.def ≡ false) × Member (FromLane l) (use_sources t f s)) → ((l : Lane) → Member l (operand_lanes t f d) → (w : Write) × Member w W × (w.lane ≡ l))
      → IsPlain (is_reserved t) tag (Silent (U (operands.Reg d ∷ os)) W) (undefined false (operand_lanes t f d))
  whole-plain d os W names inside moves covers = record {
    ordered = refl;
    unmoved = λ w m. ap fill_owner (undefined-fill false w (operand_lanes t f d) m);
    covered = λ w m r. undefined-in false w.lane (operand_lanes t f d) (inside w m);
    covers = λ v m r. covers v.lane (undefined-lane false v (operand_lanes t f d) m);
    read = λ w l m g r. let z = moves w l m g in (use_sources t f z.0, read-in (operands.Reg d ∷ os) z.0 z.1 z.2, z.3);
    numbered = λ l ss m k r. let z = read-of (operands.Reg d ∷ os) ss l m k in names z.0 l z.1 (inl z.2) r;
    written = λ v m r. names d v.lane first (inl (undefined-lane false v (operand_lanes t f d) m)) r;
    unslotted = λ v m. located-still t f d.loc d.index v.lane (undefined-lane false v (operand_lanes t f d) m);
    still = λ w m. located-still t f d.loc d.index w.lane (inside w m);
    proper = λ l ss m k. let z = read-of (operands.Reg d ∷ os) ss l m k in located-still t f z.0.loc z.0.index l z.2;
  }

  module _ (classes : AreClasses t f) where
    -- lanes that an index picks of a whole register
    part-lane : (a : Loc) (q : Option IndexId) (x : IndexId) (l : Lane) → is_virtual a ≡ true → is_none q ≡ true → has_class f a ≡ true → index_fits t f a (Some x) ≡ true → Member l (located_lanes t f a (Some x)) → Member l (located_lanes t f a q)
    part-lane (Virtual v) None x l e n h g m = index-lanes t f v x l classes h g m
    part-lane (Virtual v) (Some y) x l e n h g m = absurd (cc)
    part-lane (Fixed r) q x l e n h g m = absurd (cc)

    use-false : (s : RegOp) → is_virtual_use s ≡ true → s.def ≡ false
    use-false s e = go s.def (first_of_both _ _ (first_of_both _ _ e))
      where
        go : (b : Bool) → not b ≡ true → b ≡ false
        go true h = absurd (cc)
        go false h = refl

    whole-virtual : (d : RegOp) → is_whole_definition d ≡ true → is_virtual d.loc ≡ true
    whole-virtual d e = second_of_both _ _ (first_of_both _ _ e)

    whole-index : (d : RegOp) → is_whole_definition d ≡ true → is_none d.index ≡ true
    whole-index d e = second_of_both _ _ e

    register-later : (p : Operand) (os : List Operand) {x : RegOp} → Member x (registers os) → Member x (registers (p ∷ os))
    register-later (operands.Reg r) os j = later j
    register-later (operands.Imm z) os j = j
    register-later (operands.Block n) os j = j
    register-later (operands.Stack n) os j = j
    register-later (operands.FixedStack n) os j = j
    register-later (operands.Symbol name) os j = j
    register-later (operands.Index x) os j = j
    register-later (operands.Mask x) os j = j

    abbrev PartOf : RegOp → List Operand → Write → Type 0
    PartOf d os w = (s : RegOp) × (x : IndexId) × Member s (registers os) × (s.def ≡ false) × Member x (flat_map index_of os) × Member w (moved false (located_lanes t f d.loc (Some x)) (use_sources t f s))

    parts-of : (d : RegOp) (os : List Operand) (w : Write) → index_pairs os ≡ true → Member w (parts t f d os) → PartOf d os w
    parts-of d [] w e m = absurd (member-none w m)
    parts-of d (operands.Reg s ∷ operands.Index x ∷ os) w e m =
        let rest = parts-of d os w (second_of_both _ _ e) in
        go rest (in-either w (moved false (located_lanes t f d.loc (Some x)) (use_sources t f s)) (parts t f d os) m)
      where
        go : (Member w (parts t f d os) → PartOf d os w) → Member w (moved false (located_lanes t f d.loc (Some x)) (use_sources t f s)) ⊎ Member w (parts t f d os) → PartOf d (operands.Reg s ∷ operands.Index x ∷ os) w
        go ih (inl k) = (s, x, first, use-false s (first_of_both _ _ e), first, k)
        go ih (inr k) = let z = ih k in (z.0, z.1, later z.2, z.3, later z.4, z.5)
    parts-of d os w e m = absurd (cc)

    from-moved : (s : Source) (l : Lane) → Moved s ≡ Moved (FromLane l) → s ≡ FromLane l
    from-moved s l e = cc

    part-read : (ds : List Lane) (s : RegOp) (w : Write) (l : Lane) → Member w (moved false ds (use_sources t f s)) → w.fill ≡ Moved (FromLane l) → Member (FromLane l) (use_sources t f s)
    part-read ds s w l m e = let z = moved-of false w ds (use_sources t f s) m in subst (λ x. Member x (use_sources t f s)) (from-moved z.0 l (sym z.3 ∙ e)) z.2

    -- REG_SEQUENCE
    pub sequence-plain : (d : RegOp) (os : List Operand) → Named t f tag (operands.Reg d ∷ os) → is_whole_definition d ≡ true → index_pairs os ≡ true → has_class f d.loc ≡ true → list_all (λ x. index_fits t f d.loc (Some x)) (flat_map index_of os) ≡ true
        → IsPlain (is_reserved t) tag (Silent (U (operands.Reg d ∷ os)) (sequenced t f (operands.Reg d ∷ os))) (undefined false (operand_lanes t f d))
    sequence-plain d os names whole pairs class fit = whole-plain d os (parts t f d os ++ undefined false (operand_lanes t f d)) names (λ w m. inside w (either w m)) (λ w l m e. moves w l e (either w m)) (λ l m. covers l m)
      where
        either : (w : Write) → Member w (parts t f d os ++ undefined false (operand_lanes t f d)) → Member w (parts t f d os) ⊎ Member w (undefined false (operand_lanes t f d))
        either w m = in-either w (parts t f d os) (undefined false (operand_lanes t f d)) m

        inside : (w : Write) → Member w (parts t f d os) ⊎ Member w (undefined false (operand_lanes t f d)) → Member w.lane (operand_lanes t f d)
        inside w (inr m) = undefined-lane false w (operand_lanes t f d) m
        inside w (inl m) =
            let z = parts-of d os w pairs m in
            part-lane d.loc d.index z.1 w.lane (whole-virtual d whole) (whole-index d whole) class (all-of (λ x. index_fits t f d.loc (Some x)) z.1 (flat_map index_of os) z.4 fit) (moved-of false w (located_lanes t f d.loc (Some z.1)) (use_sources t f z.0) z.5).1

        moves : (w : Write) (l : Lane) → w.fill ≡ Moved (FromLane l) → Member w (parts t f d os) ⊎ Member w (undefined false (operand_lanes t f d)) → (s : RegOp) × Member s (registers (operands.Reg d ∷ os)) × (s.def ≡ false) × Member (FromLane l) (use_sources t f s)
        moves w l e (inr m) = absurd (let h = sym (undefined-fill false w (operand_lanes t f d) m) ∙ e in cc)
        moves w l e (inl m) = let z = parts-of d os w pairs m in (z.0, later z.2, z.3, part-read (located_lanes t f d.loc (Some z.1)) z.0 w l z.5 e)

        covers : (l : Lane) → Member l (operand_lanes t f d) → (w : Write) × Member w (parts t f d os ++ undefined false (operand_lanes t f d)) × (w.lane ≡ l)
        covers l m = let z = undefined-in false l (operand_lanes t f d) m in (z.0, right-in z.0 (parts t f d os) (undefined false (operand_lanes t f d)) z.1, z.2)

    moved-in : (ds : List Lane) (ss : List Source) (l : Lane) → length ds ≤ length ss → Member l ds → (w : Write) × Member w (moved false ds ss) × (w.lane ≡ l)
    moved-in [] ss l h m = absurd (member-none l m)
    moved-in (d ∷ ds) [] l h m = absurd (omega arith)
    moved-in (d ∷ ds) (s ∷ ss) l h m = member-elim l d ds (λ e. (write false d (Moved s), first, sym e)) (λ k. let z = moved-in ds ss l (omega arith) k in (z.0, later z.1, z.2)) m

    -- INSERT_SUBREG
    pub insert-plain : (d a b : RegOp) (x : IndexId) (os : List Operand) → Named t f tag (operands.Reg d ∷ operands.Reg a ∷ operands.Reg b ∷ operands.Index x ∷ os) → is_whole_definition d ≡ true → is_virtual_use a ≡ true → is_virtual_use b ≡ true → has_class f d.loc ≡ true → index_fits t f d.loc (Some x) ≡ true → length (operand_lanes t f d) ≤ length (use_sources t f a)
        → IsPlain (is_reserved t) tag (Silent (U (operands.Reg d ∷ operands.Reg a ∷ operands.Reg b ∷ operands.Index x ∷ os)) (inserted t f (operands.Reg d ∷ operands.Reg a ∷ operands.Reg b ∷ operands.Index x ∷ os))) (undefined false (operand_lanes t f d))
    insert-plain d a b x os names whole ua ub class fit long = whole-plain d (operands.Reg a ∷ operands.Reg b ∷ operands.Index x ∷ os) (P ++ Q) names (λ w m. inside w (in-either w P Q m)) (λ w l m e. moves w l e (in-either w P Q m)) (λ l m. covers l m)
      where
        P : Writes
        P = moved false (located_lanes t f d.loc (Some x)) (use_sources t f b)

        Q : Writes
        Q = moved false (operand_lanes t f d) (use_sources t f a)

        inside : (w : Write) → Member w (moved false (located_lanes t f d.loc (Some x)) (use_sources t f b)) ⊎ Member w (moved false (operand_lanes t f d) (use_sources t f a)) → Member w.lane (operand_lanes t f d)
        inside w (inr m) = (moved-of false w (operand_lanes t f d) (use_sources t f a) m).1
        inside w (inl m) = part-lane d.loc d.index x w.lane (whole-virtual d whole) (whole-index d whole) class fit (moved-of false w (located_lanes t f d.loc (Some x)) (use_sources t f b) m).1

        moves : (w : Write) (l : Lane) → w.fill ≡ Moved (FromLane l) → Member w (moved false (located_lanes t f d.loc (Some x)) (use_sources t f b)) ⊎ Member w (moved false (operand_lanes t f d) (use_sources t f a)) → (s : RegOp) × Member s (registers (operands.Reg d ∷ operands.Reg a ∷ operands.Reg b ∷ operands.Index x ∷ os)) × (s.def ≡ false) × Member (FromLane l) (use_sources t f s)
        moves w l e (inl m) = (b, later (later first), use-false b ub, part-read (located_lanes t f d.loc (Some x)) b w l m e)
        moves w l e (inr m) = (a, later first, use-false a ua, part-read (operand_lanes t f d) a w l m e)

        covers : (l : Lane) → Member l (operand_lanes t f d) → (w : Write) × Member w (moved false (located_lanes t f d.loc (Some x)) (use_sources t f b) ++ moved false (operand_lanes t f d) (use_sources t f a)) × (w.lane ≡ l)
        covers l m = let z = moved-in (operand_lanes t f d) (use_sources t f a) l long m in (z.0, right-in z.0 (moved false (located_lanes t f d.loc (Some x)) (use_sources t f b)) (moved false (operand_lanes t f d) (use_sources t f a)) z.1, z.2)
