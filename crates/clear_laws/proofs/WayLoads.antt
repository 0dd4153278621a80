-- The loads of ways of reading give their tinies what the slot holds of lanes that are read.
use Rattle.std.proofs.Common.{◌≡◌, ◌⊎◌, inl, inr, ◌∷◌, ◌∙◌, ◌||◌, not, ℕ, Bool, true, false, cond, List, Option, Some, None, flat_map, length, map, refl, sym, ap, subst, eqb-true, eq-eqb, []}
use Rattle.std.proofs.lemmas.List.{length-map}
use Rattle.std.specs.Prelude.{nat_eq}
use Rattle.target_base.specs.declared.types.Role.{Role}
use Rattle.target_base.specs.declared.types.Target.{Target}
use Rattle.target_base.specs.Roles.{is_tied}
use Rattle.meaning.specs.Code.{Code, Item}
use Rattle.meaning.specs.Lanes.{filled}
use Rattle.meaning.specs.Live.{Among as Member, writes_of}
use Rattle.meaning.specs.declared.types.Fill.TheVariants.{Moved}
use Rattle.meaning.specs.declared.types.Lane.{Lane}
use Rattle.meaning.specs.declared.types.Lane.TheVariants.{VirtualLane}
use Rattle.meaning.specs.declared.types.Source.TheVariants.{FromLane}
use Rattle.mir_func.specs.declared.func.Loc.{Loc}
use Rattle.mir_func.specs.declared.func.Loc.TheVariants.{Fixed, Virtual}
use Rattle.mir_func.specs.declared.func.RegOp.{RegOp}
use Rattle.mir_func.specs.declared.func.Operand.{Operand}
use Rattle.mir_func.specs.declared.func.Operand.TheVariants as operands
use Rattle.mir_func.specs.declared.func.Instr.{Instr}
use Rattle.mir_func.specs.declared.func.Block.{Block}
use Rattle.mir_func.specs.Value.{Function}
use Rattle.mir_func.specs.Binding.{Bound, bound, is_early, numbered, operand_class, passes}
use Rattle.mir_meaning.specs.Codes.{item_of}
use Rattle.mir_meaning.specs.Places.{Defining, Using, Variable, each_once, has_tied_use, is_defining, operand_variable, operand_variables, register_variable, variable}
use Rattle.mir_meaning.specs.Points.{is_range}
use Rattle.mir_meaning.specs.Registers.{is_reserved, located_lanes, numbers, range_widths}
use Rattle.instr_effects.proofs.Members.{filter-of, flat-of, map-of}
use Rattle.live_laws.proofs.Effects.Moving.{some-same}
use Rattle.lowering_laws.proofs.Seated.{told-of}
use Rattle.lowering_laws.proofs.Traced.{lanes_by}
use Rattle.spiller.specs.Rematerialised.{all_readings, own_variables, way_reading, ways_read}
use Rattle.spiller.specs.Setting.{Spilling, is_own, own_lanes}
use Rattle.spiller.specs.Spilled.{given, spilled}
use Rattle.spill_laws.specs.Laws.{HasTinies}
use Rattle.spill_laws.specs.Seats.{GivesLoad, load_writes}
use Rattle.spill_laws.specs.Standing.{IsConstant, IsSetting, IsStored, OwnStands, code_before, code_from, slot_lane}
use Rattle.spiller.specs.Reaching.{Reads}
use Rattle.spill_laws.proofs.Beside.{way-tiny}
use Rattle.spill_laws.proofs.Ranges.{once-of}
use Rattle.spill_laws.proofs.SlotPlaces.{width}
use Rattle.spill_laws.proofs.TinyRules.{own-number}
use Rattle.spill_laws.proofs.TinySeats.{low-number, place_seats}
use Rattle.spill_laws.proofs.WayLoads.{ways_load}
use Rattle.clear_laws.proofs.PlaceBounds.{Wrote}
use Rattle.clear_laws.proofs.Seated.{IsFurther}
use Rattle.clear_laws.proofs.SeatedLoads.{load-all, load-given, load-lane}
use Rattle.clear_laws.proofs.TinyPlaces.{HasWidths, IsOwn, widths-by}

module _ (s : Spilling) (c : ℕ) (p : List Instr) (h : HasTinies s (spilled s) c p) where
  abbrev t : Target
  t = s.target

  abbrev f : Function
  f = s.func

  abbrev g : Function
  g = spilled s

  -- the operand that reads the range in this way
  pub record ReadBy (v : Variable) : Type 0 where
    pub instr : Instr
    pub inside : Member instr p
    pub among : Member v (own_variables s instr)
    pub k : ℕ
    pub q : Option Role
    pub operand : RegOp
    pub own : IsOwn s g c p h instr inside k q operand
    pub used : operand.def ≡ false
    pub plain : operand.undef ≡ false
    pub untied : passes is_tied q ≡ false
    pub is : v ≡ variable Using s.range operand.index (operand_class t f q operand)

  variable-of : (b : Bool) (r : Option Role) (o : RegOp) (l : Loc) (v : Variable) → register_variable t f b r o l ≡ Some v → not (is_defining v.kind) ≡ true → (w : ℕ) × (l ≡ Virtual w) × (o.def ≡ false) × (o.undef ≡ false) × (passes is_tied r ≡ false) × (v ≡ variable Using w o.index (operand_class t f r o))
  variable-of b r o (Fixed q) v e n = absurd (cc)
  variable-of b r o (Virtual w) v e n = go o.def o.undef (passes is_tied r) refl refl refl e
    where
      go : (x y u : Bool) → o.def ≡ x → o.undef ≡ y → passes is_tied r ≡ u → cond x (Some (variable (Defining b (passes is_early r)) w o.index (operand_class t f r o))) (cond (y || u) None (Some (variable Using w o.index (operand_class t f r o)))) ≡ Some v
          → (w' : ℕ) × (Virtual w ≡ Virtual w') × (o.def ≡ false) × (o.undef ≡ false) × (passes is_tied r ≡ false) × (v ≡ variable Using w' o.index (operand_class t f r o))
      go true y u d m a e = absurd (let is = some-same (variable (Defining b (passes is_early r)) w o.index (operand_class t f r o)) v e in let q : not (is_defining (Defining b (passes is_early r))) ≡ true = ap (λ (x : Variable). not (is_defining x.kind)) is ∙ n in cc)
      go false true u d m a e = absurd (cc)
      go false false true d m a e = absurd (cc)
      go false false false d m a e = (w, refl, d, m, a, sym (some-same (variable Using w o.index (operand_class t f r o)) v e))

  pub read-by : (v : Variable) → Member v (ways_read s p) → ReadBy v
  read-by v m =
      let a = filter-of (λ (x : Variable). not (is_defining x.kind)) v (each_once [] (flat_map (own_variables s) p)) m in
      let b = flat-of (own_variables s) v p (once-of [] (flat_map (own_variables s) p) v a.0) in
      let d = filter-of (λ (x : Variable). nat_eq x.range s.range) v (operand_variables t f b.0) b.2 in
      let w = told-of (λ (x : ℕ × Bound). operand_variable t f (has_tied_use t b.0 x.0) x.1) v (numbered 0 (bound t b.0)) d.0 in
      go b.0 b.1 b.2 w.0.0 w.0.1.0 w.0.1.1 w.1 w.2 a.1 (eqb-true v.range s.range d.1)
    where
      go : (i : Instr) (mi : Member i p) → Member v (own_variables s i) → (k : ℕ) (q : Option Role) (x : Operand) → Member (k, (q, x)) (numbered 0 (bound t i)) → operand_variable t f (has_tied_use t i k) (q, x) ≡ Some v → not (is_defining v.kind) ≡ true → v.range ≡ s.range → ReadBy v
      go i mi own-v k q (operands.Reg o) n e kind range =
          let y = variable-of (has_tied_use t i k) q o o.loc v e kind in
          let w : y.0 ≡ s.range = sym (ap (λ (x : Variable). x.range) y.5) ∙ range in
          let own : is_own s o ≡ true = ap (is_range s.range) (y.1 ∙ ap Virtual w) ∙ eq-eqb s.range s.range refl in
          record {
            instr = i;
            inside = mi;
            among = own-v;
            k = k;
            q = q;
            operand = o;
            own = record { among = own-number s g c p h i mi k q o n own; own = own };
            used = y.2;
            plain = y.3;
            untied = y.4;
            is = y.5 ∙ ap (λ w. variable Using w o.index (operand_class t f q o)) w;
          }
      go i mi own-v k q x n e kind range = absurd (cc)

  module _ (z : IsSetting s (spilled s)) (d : Block) (known : (v : Variable) → Member v (ways_read s p) → Member (way_reading s p v) (all_readings s)) where
    -- the tiny of a way of reading has its widths, and its load
    way-widths : (n : ℕ) (v : Variable) (m : Member (n, v) (place_seats s g c p h).ways) → (w : ReadBy v) → HasWidths s g c p h w.instr w.inside w.k w.q w.operand w.own n
    way-widths n v m w = widths-by s g c p h w.instr w.inside w.k w.q w.operand w.own n v.class (way-tiny s g c p h.tinies (n, v) m) (ap (λ (x : Variable). x.class) w.is) (low-number c (ways_read s p) (n, v) m)

    pub way-gives : (n : ℕ) (v : Variable) → Member (n, v) (place_seats s g c p h).ways → Member v (ways_read s p) → GivesLoad s g d p (n, v)
    way-gives n v m r =
        let w = read-by v r in
        let x = way-widths n v m w in
        ways_load s g d p (n, v) x.class z (known v r) (sym (way-tiny s g c p h.tinies (n, v) m) ∙ x.is) x.known (x.wide ∙ ap (λ y. map (width s) (own_lanes s y)) (sym (ap (λ (y : Variable). y.index) w.is)))

    -- all lanes of its tiny are loaded
    pub way-loaded : (n : ℕ) (v : Variable) (m : Member (n, v) (place_seats s g c p h).ways) (r : Member v (ways_read s p)) (a : Lane) → Member a (located_lanes t g (Virtual n) None) → Wrote (writes_of (item_of t g d (given s p (n, v)))) a
    way-loaded n v m r a q =
        let y = way-gives n v m r in
        let w = read-by v r in
        let x = way-widths n v m w in
        let index = ap (λ (u : Variable). u.index) w.is in
        let many : length (range_widths t g n) ≡ length y.load.sources = ap length x.wide ∙ (length-map (own_lanes s w.operand.index) (width s) ∙ (sym (length-map (own_lanes s w.operand.index) y.found) ∙ (ap (λ u. length (map y.found (own_lanes s u))) (sym index) ∙ sym (ap length y.sources)))) in
        subst (λ u. Wrote (writes_of u) a) (sym y.item) (load-all y.load a (subst (Member a) (λ j. lanes_by (sym y.tiny j) (numbers 0 (many j))) q))

    pub way-further : (n : ℕ) (v : Variable) (m : Member (n, v) (place_seats s g c p h).ways) (r : Member v (ways_read s p)) (a : Lane) → Wrote (writes_of (item_of t g d (given s p (n, v)))) a → IsFurther f a
    way-further n v m r a q =
        let y = way-gives n v m r in
        let x = way-widths n v m (read-by v r) in
        let w = load-lane y.load a (subst (λ u. Wrote (writes_of u) a) y.item q) in
        (n, w.0, w.1 ∙ ap (λ u. VirtualLane u w.0) y.tiny, x.further)

    -- what it gives a lane is what the slot holds, where an instruction reads the range's lane in this way
    pub way-given : (n : ℕ) (v : Variable) (m : Member (n, v) (place_seats s g c p h).ways) (r : Member v (ways_read s p)) (i : Instr) (x : Item) (q : Code) → code_from s i.id ≡ x ∷ q → Member i (way_reading s p v).by
        → ((j : ℕ) → Member j (own_lanes s v.index) → Reads (is_reserved t) (code_before s) (VirtualLane s.range j) x q) → (a b : Lane) → filled (writes_of (item_of t g d (given s p (n, v)))) a ≡ Moved (FromLane b)
        → ((b ≡ a) × (Wrote (writes_of (item_of t g d (given s p (n, v)))) a → ⊥)) ⊎ ((j : ℕ) × Member j (own_lanes s v.index) × (b ≡ slot_lane s j) × IsStored s j (x ∷ q))
    way-given n v m r i x q from by reads a b e =
        go (load-given y.load a b (subst (λ u. filled (writes_of u) a ≡ Moved (FromLane b)) y.item e))
      where
        y : GivesLoad s g d p (n, v)
        y = way-gives n v m r

        inner : (a b : Lane) → FromLane a ≡ FromLane b → a ≡ b
        inner a b e = cc

        found : (j : ℕ) → Member j (own_lanes s v.index) → FromLane b ≡ y.found j → OwnStands s (x ∷ q) j (y.found j) → (j : ℕ) × Member j (own_lanes s v.index) × (b ≡ slot_lane s j) × IsStored s j (x ∷ q)
        found j k u (inl w) = (j, k, inner b (slot_lane s j) (u ∙ w.1), w.0)
        found j k u (inr w) = absurd (subst IsConstant (sym u) w.constant)

        go : ((b ≡ a) × (Wrote (load_writes y.load) a → ⊥)) ⊎ Member (FromLane b) y.load.sources → ((b ≡ a) × (Wrote (writes_of (item_of t g d (given s p (n, v)))) a → ⊥)) ⊎ ((j : ℕ) × Member j (own_lanes s v.index) × (b ≡ slot_lane s j) × IsStored s j (x ∷ q))
        go (inl w) = inl (w.0, λ k. w.1 (subst (λ u. Wrote (writes_of u) a) y.item k))
        go (inr k) =
            let w = map-of y.found (FromLane b) (own_lanes s v.index) (subst (Member (FromLane b)) y.sources k) in
            inr (found w.0 w.1 w.2 (y.stands i x q from by w.0 w.1 (reads w.0 w.1)))
