-- What a map of slots leaves where it is: lanes of registers, and all that instructions other than stores to slots and
-- reloads read and write.
use Rattle.std.proofs.Common.{◌≡◌, ℕ, suc, ◌+◌, Bool, true, false, cond, not, List, [], ◌∷◌, ◌++◌, Option, Some, None, map, filter, refl, sym, ap, ◌∙◌, subst, length}
use Rattle.std.specs.Prelude.{ℤ, zero, nat_abs}
use Rattle.std.specs.List.{list_any, filter_map}
use Rattle.target_base.specs.declared.types.Effect.{Effect}
use Rattle.target_base.specs.declared.types.Effect.TheVariants as effects
use Rattle.target_base.specs.declared.types.OpaqueKind.{OpaqueKind}
use Rattle.target_base.specs.declared.types.OpaqueKind.TheVariants as kinds
use Rattle.target_base.specs.declared.types.Role.{Role}
use Rattle.target_base.specs.declared.types.Target.{Target}
use Rattle.target_base.specs.Rules.{is_spill, is_reload}
use Rattle.meaning.specs.declared.types.Lane.{Lane}
use Rattle.meaning.specs.declared.types.Lane.TheVariants.{VirtualLane, UnitLane, SlotLane}
use Rattle.meaning.specs.declared.types.Constant.{Constant}
use Rattle.meaning.specs.declared.types.Constant.TheVariants.{Immediate, StackAddress, FixedStackAddress, SymbolAddress}
use Rattle.meaning.specs.declared.types.Source.{Source}
use Rattle.meaning.specs.declared.types.Source.TheVariants.{FromLane, Undef, Bits}
use Rattle.meaning.specs.declared.types.Fill.{Fill}
use Rattle.meaning.specs.declared.types.Fill.TheVariants.{Moved, Computed}
use Rattle.meaning.specs.declared.types.Write.{Write}
use Rattle.meaning.specs.Environment.{constant_source, residue}
use Rattle.meaning.specs.Lanes.{Writes, Reads}
use Rattle.meaning.specs.Live.{Among as Member, here as first, there as later, is_slot}
use Rattle.meaning.specs.Matched.{image, image_fill, renamed, renamed_write, renamed_reads}
use Rattle.meaning.specs.Perform.{condition_lane}
use Rattle.mir_func.specs.declared.func.RegOp.{RegOp}
use Rattle.mir_func.specs.declared.func.Operand.{Operand}
use Rattle.mir_func.specs.declared.func.Operand.TheVariants as operands
use Rattle.mir_func.specs.declared.func.Instr.{Instr}
use Rattle.mir_func.specs.Value.{Function}
use Rattle.mir_func.specs.Binding.{Definition, definitions, explicit_operands, implicit_registers, implicit_roles, registers, roles_of, immediate_of, puts_together}
use Rattle.mir_meaning.specs.Registers.{numbers, operand_lanes, operand_widths, undefined_lanes, use_sources, is_reserved}
use Rattle.mir_meaning.specs.Items.{Value, write, all_lanes, answered, computes_with_immediates, constant_value, counted_writes, defined_lanes, further_writes, opaque_clobbers, has_base, implicit_definitions, implicit_writes, kept, result_writes, results, value_of, values, clobbered, flag_value, implicit_values, is_flags, pick, use_value, first_width, preserves, unreserved, computed, constant_bits, constant_lanes, constant_of, copied, defined, defined_undef, given_constant, moved, silent_writes, undefined}
use Rattle.instr_effects.proofs.Members.{member-none, member-elim, either-elim, flat-of, filter-of, map-of}
use Rattle.live_laws.proofs.Effects.Blocks.{filtered-of}
use Rattle.live_laws.proofs.Effects.Moved.{moved-of, undefined-fill, undefined-lane}
use Rattle.live_laws.proofs.Effects.Moving.{some-same}
use Rattle.live_laws.proofs.Effects.Silent.{located-still, others-still, use-lane}

-- lanes of slots go to others at the same number and width, and other lanes stay
abbrev pub merged_lane : (ℕ → ℕ) → Lane → Lane
merged_lane h (SlotLane s k w) = SlotLane (h s) k w
merged_lane h (VirtualLane v k) = VirtualLane v k
merged_lane h (UnitLane u) = UnitLane u

-- no slot's lane is written or moved
abbrev pub StillWrite : Write → Type 0
StillWrite w = (is_slot w.lane ≡ false) × ((l : Lane) → w.fill ≡ Moved (FromLane l) → is_slot l ≡ false)

abbrev pub StillWrites : Writes → Type 0
StillWrites ws = (w : Write) → Member w ws → StillWrite w

abbrev pub StillLanes : List Lane → Type 0
StillLanes ls = (l : Lane) → Member l ls → is_slot l ≡ false

abbrev pub StillSources : List Source → Type 0
StillSources ss = (l : Lane) → Member (FromLane l) ss → is_slot l ≡ false

abbrev pub StillReads : Reads → Type 0
StillReads reads = (ss : List Source) → Member ss reads → StillSources ss

module _ (h : ℕ → ℕ) where
  abbrev m : Lane → Lane
  m = merged_lane h

  pub stays : (l : Lane) → is_slot l ≡ false → merged_lane h l ≡ l
  stays (VirtualLane v k) e = refl
  stays (UnitLane u) e = refl
  stays (SlotLane s k w) e = absurd (cc)

  source-stays : (s : Source) → ((l : Lane) → s ≡ FromLane l → is_slot l ≡ false) → image m s ≡ s
  source-stays (FromLane a) g = ap FromLane (stays a (g a refl))
  source-stays Undef g = refl
  source-stays (Bits c low w) g = refl

  pub sources-stay : (ss : List Source) → StillSources ss → map (image m) ss ≡ ss
  sources-stay [] g = refl
  sources-stay (s ∷ ss) g = λ i. source-stays s (λ l e. g l (subst (λ x. Member x (s ∷ ss)) e first)) i ∷ sources-stay ss (λ l k. g l (later k)) i

  fill-stays : (f : Fill) → ((l : Lane) → f ≡ Moved (FromLane l) → is_slot l ≡ false) → image_fill m f ≡ f
  fill-stays (Moved s) g = ap Moved (source-stays s (λ l e. g l (ap Moved e)))
  fill-stays (Computed i) g = refl

  write-stays : (w : Write) → StillWrite w → renamed_write m w ≡ w
  write-stays w g = λ i. record { lane = stays w.lane g.0 i; fill = fill-stays w.fill g.1 i; early = w.early }

  pub writes-stay : (ws : Writes) → StillWrites ws → renamed m ws ≡ ws
  writes-stay [] g = refl
  writes-stay (w ∷ ws) g = λ i. write-stays w (g w first) i ∷ writes-stay ws (λ v k. g v (later k)) i

  pub reads-stay : (reads : Reads) → StillReads reads → renamed_reads m reads ≡ reads
  reads-stay [] g = refl
  reads-stay (ss ∷ reads) g = λ i. sources-stay ss (g ss first) i ∷ reads-stay reads (λ ts k. g ts (later k)) i

  pub lanes-stay : (ls : List Lane) → StillLanes ls → map m ls ≡ ls
  lanes-stay [] g = refl
  lanes-stay (l ∷ ls) g = λ i. stays l (g l first) i ∷ lanes-stay ls (λ a k. g a (later k)) i

-- writes by their kinds

same-source : (s : Source) (l : Lane) → Moved s ≡ Moved (FromLane l) → s ≡ FromLane l
same-source s l e = cc

moved-still : (early : Bool) (ls : List Lane) (ss : List Source) → StillLanes ls → StillSources ss → StillWrites (moved early ls ss)
moved-still early ls ss g k w m =
    let z = moved-of early w ls ss m in
    (g w.lane z.1, (λ l e. k l (subst (λ x. Member x ss) (same-source z.0 l (sym z.3 ∙ e)) z.2)))

not-undefined : (f : Fill) (l : Lane) → f ≡ Moved Undef → f ≡ Moved (FromLane l) → ⊥
not-undefined f l e g = cc

undefined-still : (early : Bool) (ls : List Lane) → StillLanes ls → StillWrites (undefined early ls)
undefined-still early ls g w m = (g w.lane (undefined-lane early w ls m), (λ l e. absurd (not-undefined w.fill l (undefined-fill early w ls m) e)))

not-computed : (f : Fill) (n : ℕ) (l : Lane) → f ≡ Computed n → f ≡ Moved (FromLane l) → ⊥
not-computed f n l e g = cc

computed-of : (early : Bool) (w : Write) (n : ℕ) (ls : List Lane) → Member w (computed early n ls) → Member w.lane ls × ((j : ℕ) × (w.fill ≡ Computed j))
computed-of early w n [] m = absurd (member-none w m)
computed-of early w n (l ∷ ls) m =
    member-elim w (write early l (Computed n)) (computed early (suc n) ls)
    (λ e. (subst (λ x. Member x (l ∷ ls)) (sym (ap (λ (v : Write). v.lane) e)) first, (n, ap (λ (v : Write). v.fill) e)))
    (λ k. let z = computed-of early w (suc n) ls k in (later z.0, z.1))
    m

computed-still : (early : Bool) (n : ℕ) (ls : List Lane) → StillLanes ls → StillWrites (computed early n ls)
computed-still early n ls g w m = let z = computed-of early w n ls m in (g w.lane z.0, (λ l e. absurd (not-computed w.fill z.1.0 l z.1.1 e)))

both-still : (ws vs : Writes) → StillWrites ws → StillWrites vs → StillWrites (ws ++ vs)
both-still ws vs g k w m = either-elim w ws vs (g w) (k w) m

none-still : StillWrites []
none-still w m = absurd (member-none w m)

-- constants are no lanes

not-lane : (c : Constant) (low w : ℕ) (l : Lane) → FromLane l ≡ constant_source c low w → ⊥
not-lane (Immediate z) low w l e = cc
not-lane (StackAddress n) low w l e = cc
not-lane (FixedStackAddress n) low w l e = cc
not-lane (SymbolAddress s) low w l e = cc

bits-still : (c : Constant) (low : ℕ) (ws : List ℕ) → StillSources (constant_bits c low ws)
bits-still c low [] l m = absurd (member-none (FromLane l) m)
bits-still c low (w ∷ ws) l m = member-elim (FromLane l) (constant_source c low w) (constant_bits c (low + w) ws) (λ e. absurd (not-lane c low w l e)) (λ k. bits-still c (low + w) ws l k) m

module _ (t : Target) (f : Function) where
  pub lanes-still : (o : RegOp) → StillLanes (operand_lanes t f o)
  lanes-still o l m = located-still t f o.loc o.index l m

  pub undefined-lanes-still : (o : RegOp) → StillLanes (undefined_lanes t f o)
  undefined-lanes-still o l m = others-still t f o l m

  pub uses-still : (o : RegOp) → StillSources (use_sources t f o)
  uses-still o l m = lanes-still o l (use-lane t f o l m)

  pub all-still : (os : List RegOp) → StillLanes (all_lanes t f os)
  all-still os l m = let z = flat-of (operand_lanes t f) l os m in lanes-still z.0 l z.2

  defined-still : (early : Bool) (d : RegOp) (ss : List Source) → StillSources ss → StillWrites (defined t f early d ss)
  defined-still early d ss g =
      both-still (moved early (operand_lanes t f d) ss) (undefined early (undefined_lanes t f d)) (moved-still early (operand_lanes t f d) ss (lanes-still d) g) (undefined-still early (undefined_lanes t f d) (undefined-lanes-still d))

  copied-still : (os : List Operand) → StillWrites (copied t f os)
  copied-still (operands.Reg d ∷ operands.Reg s ∷ os) w m = defined-still false d (use_sources t f s) (uses-still s) w m
  copied-still _ w m = absurd (member-none w m)

  two-still : (ls ks : List Lane) → StillLanes ls → StillLanes ks → StillLanes (ls ++ ks)
  two-still ls ks g k l m = either-elim l ls ks (g l) (k l) m

  undef-still : (os : List Operand) → StillWrites (defined_undef t f os)
  undef-still (operands.Reg d ∷ os) w m = undefined-still false (operand_lanes t f d ++ undefined_lanes t f d) (two-still (operand_lanes t f d) (undefined_lanes t f d) (lanes-still d) (undefined-lanes-still d)) w m
  undef-still _ w m = absurd (member-none w m)

  constant-still : (d : RegOp) (c : Option Constant) → StillSources (constant_lanes t f d c)
  constant-still d None l m = absurd (member-none (FromLane l) m)
  constant-still d (Some c) l m = bits-still c 0 (operand_widths t f d) l m

  given-still : (early : Bool) (os : List Operand) → StillWrites (given_constant t f early os)
  given-still early (operands.Reg d ∷ o ∷ os) w m = let ss = constant_lanes t f d (constant_of _ o) in defined-still early d ss (constant-still d (constant_of _ o)) w m
  given-still early _ w m = absurd (member-none w m)

  -- silent instructions but stores to slots and reloads
  pub silent-still : (e : Effect) (early : Bool) (os : List Operand) → puts_together e ≡ false → is_spill e ≡ false → is_reload e ≡ false → StillWrites (silent_writes t f e early os)
  silent-still effects.Copy early os n s r w m = copied-still os w m
  silent-still effects.ImplicitDef early os n s r w m = undef-still os w m
  silent-still effects.RegSequence early os n s r w m = absurd (cc)
  silent-still effects.InsertSubreg early os n s r w m = absurd (cc)
  silent-still effects.Const early os n s r w m = given-still early os w m
  silent-still effects.Addr early os n s r w m = given-still early os w m
  silent-still effects.Spill early os n s r w m = absurd (cc)
  silent-still effects.Reload early os n s r w m = absurd (cc)
  silent-still _ early os n s r w m = absurd (member-none w m)

  -- what counted instructions write

  unreserved-still : (ls : List Lane) → StillLanes ls → StillLanes (unreserved t ls)
  unreserved-still ls g l m = g l (filter-of (λ x. not (is_reserved t x)) l ls m).0

  kept-still : (ws : Writes) → StillWrites ws → StillWrites (kept t ws)
  kept-still ws g w m = g w (filter-of (λ (x : Write). not (is_reserved t x.lane)) w ws m).0

  units-still : (us : List ℕ) → StillLanes (map UnitLane us)
  units-still us l m = let z = map-of UnitLane l us m in ap is_slot z.2

  clobbers-still : (os : List Operand) → StillWrites (undefined false (clobbered t os))
  clobbers-still os =
      let gone = filter (λ u. not (list_any (preserves t u) os)) (numbers 0 (length t.units)) in
      undefined-still false (clobbered t os) (unreserved-still (map UnitLane gone) (units-still gone))

  implicit-still : (e : Effect) (rs : List Role) (os : List Operand) → StillWrites (implicit_writes t f e rs os)
  implicit-still effects.Cmp rs os =
      let flags = all_lanes t f (filter (is_flags rs) (implicit_definitions os)) in
      let others = all_lanes t f (implicit_definitions os) in
      kept-still (computed false 0 flags ++ undefined false others) (both-still (computed false 0 flags) (undefined false others) (computed-still false 0 flags (all-still (filter (is_flags rs) (implicit_definitions os)))) (undefined-still false others (all-still (implicit_definitions os))))
  implicit-still effects.Call rs os =
      both-still (computed false 0 (answered t f os)) (undefined false (clobbered t os))
      (computed-still false 0 (answered t f os) (unreserved-still (all_lanes t f (implicit_definitions os)) (all-still (implicit_definitions os))))
      (clobbers-still os)
  implicit-still _ rs os = undefined-still false (unreserved t (all_lanes t f (implicit_definitions os))) (unreserved-still (all_lanes t f (implicit_definitions os)) (all-still (implicit_definitions os)))

  opaque-clobbers-still : (kind : OpaqueKind) (os : List Operand) → StillWrites (opaque_clobbers t kind os)
  opaque-clobbers-still kinds.Call os = clobbers-still os
  opaque-clobbers-still kind os = none-still

  further-still : (e : Effect) (i : Instr) → StillWrites (further_writes t f e i)
  further-still (effects.Opaque kind) i =
      let n = length (defined_lanes t f (definitions (roles_of t i) i.operands)) in
      let lanes = all_lanes t f (implicit_definitions i.operands) in
      both-still (computed false n lanes) (opaque_clobbers t kind i.operands) (computed-still false n lanes (all-still (implicit_definitions i.operands))) (opaque-clobbers-still kind i.operands)
  further-still e i = implicit-still e (implicit_roles (roles_of t i)) i.operands

  result-still : (early : Bool) (n : ℕ) (d : RegOp) → StillWrites (result_writes t f early n d)
  result-still early n d =
      both-still (computed early n (operand_lanes t f d)) (undefined early (undefined_lanes t f d)) (computed-still early n (operand_lanes t f d) (lanes-still d)) (undefined-still early (undefined_lanes t f d) (undefined-lanes-still d))

  results-still : (n : ℕ) (ds : List Definition) → StillWrites (results t f n ds)
  results-still n [] = none-still
  results-still n (d ∷ ds) =
      both-still (result_writes t f d.0 n d.1) (results t f (n + length (operand_lanes t f d.1)) ds) (result-still d.0 n d.1) (results-still (n + length (operand_lanes t f d.1)) ds)

  pub counted-still : (e : Effect) (i : Instr) → StillWrites (counted_writes t f e i)
  counted-still e i =
      both-still (results t f 0 (definitions (roles_of t i) i.operands)) (further_writes t f e i)
      (results-still 0 (definitions (roles_of t i) i.operands)) (further-still e i)

  -- what they read

  one-constant : (c : Constant) (w : ℕ) → StillSources (constant_value c w).0
  one-constant c w l m = member-elim (FromLane l) (constant_source c 0 w) [] (λ e. absurd (not-lane c 0 w l e)) (λ k. absurd (member-none (FromLane l) k)) m

  told : (v u : Value) → Some u ≡ Some v → StillSources u.0 → StillSources v.0
  told v u e g = subst (λ (x : Value). StillSources x.0) (some-same u v e) g

  chosen : (b : Bool) (v u : Value) → cond b (Some u) None ≡ Some v → StillSources u.0 → StillSources v.0
  chosen true v u e g = told v u e g
  chosen false v u e g = absurd (cc)

  value-still : (e : Effect) (w : ℕ) (o : Operand) (v : Value) → value_of t f e w o ≡ Some v → StillSources v.0
  value-still e w (operands.Reg o) v g = go o.def g
    where
      go : (b : Bool) → cond b None (Some (use_value t f o)) ≡ Some v → StillSources v.0
      go true k = absurd (cc)
      go false k = told v (use_value t f o) k (uses-still o)
  value-still e w (operands.Imm z) v g = chosen (computes_with_immediates e) v (constant_value (Immediate (residue z w)) w) g (one-constant (Immediate (residue z w)) w)
  value-still e w (operands.Stack n) v g = chosen (has_base e) v (constant_value (StackAddress n) 64) g (one-constant (StackAddress n) 64)
  value-still e w (operands.FixedStack n) v g = chosen (has_base e) v (constant_value (FixedStackAddress n) 64) g (one-constant (FixedStackAddress n) 64)
  value-still e w (operands.Symbol s) v g = chosen (has_base e) v (constant_value (SymbolAddress s) 64) g (one-constant (SymbolAddress s) 64)
  value-still e w (operands.Block n) v g = absurd (cc)
  value-still e w (operands.Index x) v g = absurd (cc)
  value-still e w (operands.Mask k) v g = absurd (cc)

  pick-of : {X : Type 0} (x : X) (k : ℕ) (xs : List X) → Member x (pick k xs) → Member x xs
  pick-of x k [] m = m
  pick-of x zero (y ∷ xs) m = member-elim x y [] (λ e. subst (λ z. Member x (z ∷ xs)) e first) (λ j. absurd (member-none x j)) m
  pick-of x (suc k) (y ∷ xs) m = later (pick-of x k xs m)

  uses-values : (os : List RegOp) (v : Value) → Member v (map (use_value t f) os) → StillSources v.0
  uses-values os v m = let z = map-of (use_value t f) v os m in subst (λ (x : Value). StillSources x.0) (sym z.2) (uses-still z.0)

  flag-still : (c : ℤ) (o : RegOp) → StillSources (flag_value t f c o).0
  flag-still c o l m = uses-still o l (pick-of (FromLane l) (condition_lane (nat_abs c)) (use_sources t f o) m)

  flags-values : (c : ℤ) (os : List RegOp) (v : Value) → Member v (map (flag_value t f c) os) → StillSources v.0
  flags-values c os v m = let z = map-of (flag_value t f c) v os m in subst (λ (x : Value). StillSources x.0) (sym z.2) (flag-still c z.0)

  implicit-values-still : (e : Effect) (c : ℤ) (rs : List Role) (os : List RegOp) (v : Value) → Member v (implicit_values t f e c rs os) → StillSources v.0
  implicit-values-still effects.Jcc c rs os v m =
      either-elim v (map (flag_value t f c) (filter (is_flags rs) os)) (map (use_value t f) (filter (λ o. not (is_flags rs o)) os)) (λ k. flags-values c (filter (is_flags rs) os) v k) (λ k. uses-values (filter (λ o. not (is_flags rs o)) os) v k) m
  implicit-values-still _ c rs os v m = uses-values os v m

  pub counted-reads-still : (e : Effect) (i : Instr) → StillReads (map (λ v. v.0) (values t f e i))
  counted-reads-still e i ss m =
      let z = map-of (λ (v : Value). v.0) ss (values t f e i) m in
      subst StillSources (sym z.2) (either-elim z.0 _ _ (λ k. explicit z.0 k) (λ k. implicit-values-still e (immediate_of i.operands) (implicit_roles (roles_of t i)) (filter (λ o. not o.def) (implicit_registers i.operands)) z.0 k) z.1)
    where
      explicit : (v : Value) → Member v (filter_map (value_of t f e (first_width t f (registers i.operands))) (explicit_operands i.operands)) → StillSources v.0
      explicit v k = let y = filtered-of (value_of t f e (first_width t f (registers i.operands))) v (explicit_operands i.operands) k in value-still e (first_width t f (registers i.operands)) y.0 v y.2
