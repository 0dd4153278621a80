-- What is written, without values.
use Rattle.std.proofs.Common.{◌≡◌, ℕ, zero, suc, ◌+◌, Bool, false, cond, List, [], ◌∷◌, ◌++◌, Option, Some, None, map, flat_map, length, refl, sym, ap, ◌∙◌, arith, ap₂, slice_index, slice_get, sum}
use Rattle.target_base.specs.declared.types.Effect.{Effect}
use Rattle.target_base.specs.declared.types.Effect.TheVariants as effects
use Rattle.target_base.specs.declared.types.OpaqueKind.TheVariants as kinds
use Rattle.target_base.specs.declared.types.Role.{Role}
use Rattle.target_base.specs.declared.types.Target.{Target}
use Rattle.meaning.specs.declared.types.Lane.{Lane}
use Rattle.meaning.specs.declared.types.Lane.TheVariants.{VirtualLane, UnitLane, SlotLane}
use Rattle.meaning.specs.declared.types.Constant.{Constant}
use Rattle.meaning.specs.declared.types.Constant.TheVariants.{Immediate, StackAddress, FixedStackAddress, SymbolAddress}
use Rattle.meaning.specs.declared.types.Fill.TheVariants.{Moved}
use Rattle.meaning.specs.declared.types.Source.{Source}
use Rattle.meaning.specs.declared.types.Source.TheVariants.{FromLane, Undef}
use Rattle.meaning.specs.Lanes.{Writes}
use Rattle.meaning.specs.Environment.{constant_source, residue}
use Rattle.mir_func.specs.declared.func.Loc.{Loc}
use Rattle.mir_func.specs.declared.func.Loc.TheVariants.{Virtual, Fixed}
use Rattle.mir_func.specs.declared.func.RegOp.{RegOp}
use Rattle.mir_func.specs.declared.func.Operand.{Operand}
use Rattle.mir_func.specs.declared.func.Operand.TheVariants as operands
use Rattle.mir_func.specs.Value.{Function}
use Rattle.target_base.specs.declared.types.IndexId.{IndexId}
use Rattle.target_base.specs.Registers.{units_of, lanes_of}
use Rattle.target_base.specs.Storage.{unit_width}
use Rattle.target_base.specs.Roles.{is_silent}
use Rattle.mir_func.specs.Binding.{Definition, definitions, as_register, register_at, as_slot, slot_at}
use Rattle.mir_meaning.specs.Registers.{numbers, operand_lanes, operand_widths, located_lanes, located_widths, range_widths, undefined_lanes, use_sources, slot_lane_numbers, slot_lanes}
use Rattle.mir_meaning.specs.Items.{write, moved, undefined, computed, defined, result_writes, results, all_lanes, constant_bits, constant_lanes, constant_of, lanes_beside, implicit_definitions, copied, defined_undef, given_constant, reloaded}
use Rattle.instr_effects.specs.declared.owner.Owner.{Owner}
use Rattle.instr_effects.specs.declared.owner.Owner.TheVariants as owners
use Rattle.instr_effects.specs.Owners.{owner_of, source_owner, operand_owners}
use Rattle.instr_effects.specs.Acts.{plain, moved_acts, act_of, acts_of, definition_acts, result_acts, is_constant, slot_numbers, counted_acts, call_writes, is_call, filled_whole, stored, silent_acts}

map-join : {X Y : Type 0} (f : X → Y) (xs ys : List X) → map f (xs ++ ys) ≡ map f xs ++ map f ys
map-join f [] ys = refl
map-join f (x ∷ xs) ys = ap (λ t. f x ∷ t) (map-join f xs ys)

pub acts-join : (ws vs : Writes) → acts_of (ws ++ vs) ≡ acts_of ws ++ acts_of vs
acts-join ws vs = map-join act_of ws vs

pub acts-undefined : (early : Bool) (ls : List Lane) → acts_of (undefined early ls) ≡ map (plain early) (map owner_of ls)
acts-undefined early [] = refl
acts-undefined early (l ∷ ls) = ap (λ t. plain early (owner_of l) ∷ t) (acts-undefined early ls)

pub acts-computed : (early : Bool) (n : ℕ) (ls : List Lane) → acts_of (computed early n ls) ≡ map (plain early) (map owner_of ls)
acts-computed early n [] = refl
acts-computed early n (l ∷ ls) = ap (λ t. plain early (owner_of l) ∷ t) (acts-computed early (suc n) ls)

pub acts-moved : (early : Bool) (ls : List Lane) (ss : List Source) → acts_of (moved early ls ss) ≡ moved_acts early (map owner_of ls) (map source_owner ss)
acts-moved early [] ss = refl
acts-moved early (l ∷ ls) [] = refl
acts-moved early (l ∷ ls) (s ∷ ss) = ap (λ t. act_of (write early l (Moved s)) ∷ t) (acts-moved early ls ss)

-- the numbers of what is computed don't count
pub acts-result : (t : Target) (f : Function) (early : Bool) (n : ℕ) (d : RegOp) → acts_of (result_writes t f early n d) ≡ result_acts t f early d
acts-result t f early n d =
    acts-join (computed early n (operand_lanes t f d)) (undefined early (undefined_lanes t f d))
    ∙ ap (λ x. x ++ acts_of (undefined early (undefined_lanes t f d))) (acts-computed early n (operand_lanes t f d))
    ∙ ap (λ x. map (plain early) (operand_owners t f d) ++ x) (acts-undefined early (undefined_lanes t f d))

pub acts-defined : (t : Target) (f : Function) (early : Bool) (d : RegOp) (ss : List Source) → acts_of (defined t f early d ss) ≡ definition_acts t f early d (map source_owner ss)
acts-defined t f early d ss =
    acts-join (moved early (operand_lanes t f d) ss) (undefined early (undefined_lanes t f d))
    ∙ ap (λ x. x ++ acts_of (undefined early (undefined_lanes t f d))) (acts-moved early (operand_lanes t f d) ss)
    ∙ ap (λ x. moved_acts early (operand_owners t f d) (map source_owner ss) ++ x) (acts-undefined early (undefined_lanes t f d))

-- a definition of undefined lanes is entered as one of computed lanes
pub acts-undef : (t : Target) (f : Function) (d : RegOp) → acts_of (undefined false (operand_lanes t f d ++ undefined_lanes t f d)) ≡ result_acts t f false d
acts-undef t f d =
    acts-undefined false (operand_lanes t f d ++ undefined_lanes t f d)
    ∙ ap (map (plain false)) (map-join owner_of (operand_lanes t f d) (undefined_lanes t f d))
    ∙ map-join (plain false) (operand_owners t f d) (map owner_of (undefined_lanes t f d))

-- as many widths as lanes

numbers-long : (n k : ℕ) → length (numbers n k) ≡ k
numbers-long n zero = refl
numbers-long n (suc k) = ap (λ m. suc m) (numbers-long (suc n) k)

map-long : {X Y : Type 0} (g : X → Y) (xs : List X) → length (map g xs) ≡ length xs
map-long g [] = refl
map-long g (x ∷ xs) = ap (λ k. suc k) (map-long g xs)

pub located-long : (t : Target) (f : Function) (l : Loc) (x : Option IndexId) → length (located_widths t f l x) ≡ length (located_lanes t f l x)
located-long t f (Virtual v) None = sym (numbers-long 0 (length (range_widths t f v))) ∙ sym (map-long (VirtualLane v) (numbers 0 (length (range_widths t f v))))
located-long t f (Virtual v) (Some x) = map-long (slice_index (range_widths t f v)) (lanes_of t x) ∙ sym (map-long (VirtualLane v) (lanes_of t x))
located-long t f (Fixed r) x = map-long (unit_width t.units) (units_of t r) ∙ sym (map-long (λ u. UnitLane u.0) (units_of t r))

-- bits of constants name no lane
bits-none : (c : Constant) (low : ℕ) (ws : List ℕ) → map source_owner (constant_bits c low ws) ≡ map (λ w. None) ws
bits-none c low [] = refl
bits-none c low (w ∷ ws) = ap₂ (λ x y. x ∷ y) (one c) (bits-none c (low + w) ws)
  where
    one : (c : Constant) → source_owner (constant_source c low w) ≡ None
    one (Immediate z) = refl
    one (StackAddress n) = refl
    one (FixedStackAddress n) = refl
    one (SymbolAddress name) = refl

abbrev no-owner : {X : Type 0} → X → Option Owner
no-owner x = None

nones-long : {X Y : Type 0} (xs : List X) (ys : List Y) → length xs ≡ length ys → map (λ (x : X). no-owner x) xs ≡ map (λ (y : Y). no-owner y) ys
nones-long [] [] e = refl
nones-long [] (y ∷ ys) e = absurd (omega arith)
nones-long (x ∷ xs) [] e = absurd (omega arith)
nones-long (x ∷ xs) (y ∷ ys) e = ap (λ t. None ∷ t) (nones-long xs ys (omega arith))

pub constants-none : (t : Target) (f : Function) (d : RegOp) (w : ℕ) (o : Operand) → map source_owner (constant_lanes t f d (constant_of w o)) ≡ cond (is_constant o) (map (λ x. None) (operand_owners t f d)) []
constants-none t f d w o = go o
  where
    some : (c : Constant) → map source_owner (constant_bits c 0 (operand_widths t f d)) ≡ map (λ x. None) (operand_owners t f d)
    some c = bits-none c 0 (operand_widths t f d) ∙ nones-long (operand_widths t f d) (operand_owners t f d) (located-long t f d.loc d.index ∙ sym (map-long owner_of (operand_lanes t f d)))

    go : (o : Operand) → map source_owner (constant_lanes t f d (constant_of w o)) ≡ cond (is_constant o) (map (λ x. None) (operand_owners t f d)) []
    go (operands.Reg r) = refl
    go (operands.Imm z) = some (Immediate (residue z w))
    go (operands.Block n) = refl
    go (operands.Stack n) = some (StackAddress n)
    go (operands.FixedStack n) = some (FixedStackAddress n)
    go (operands.Symbol name) = some (SymbolAddress name)
    go (operands.Index x) = refl
    go (operands.Mask m) = refl

-- slots

pub slot-numbers : (t : Target) (ws : List ℕ) (n : ℕ) (k : Operand) → length ws ≡ n → slot_lane_numbers t ws k ≡ slot_numbers t n k
slot-numbers t ws n (operands.Reg r) e = ap (numbers 0) e
slot-numbers t ws n (operands.Imm z) e = ap (numbers 0) e
slot-numbers t ws n (operands.Block b) e = ap (numbers 0) e
slot-numbers t ws n (operands.Stack b) e = ap (numbers 0) e
slot-numbers t ws n (operands.FixedStack b) e = ap (numbers 0) e
slot-numbers t ws n (operands.Symbol name) e = ap (numbers 0) e
slot-numbers t ws n (operands.Index x) e = refl
slot-numbers t ws n (operands.Mask m) e = ap (numbers 0) e

stored-slots : (s : ℕ) (ks ws : List ℕ) (ss : List Source) → length ws ≡ length ss → acts_of (moved false (slot_lanes s ks ws) ss) ≡ moved_acts false (map (owners.Slot s) ks) (map source_owner ss)
stored-slots s [] ws ss e = refl
stored-slots s (k ∷ ks) [] [] e = refl
stored-slots s (k ∷ ks) [] (x ∷ ss) e = absurd (omega arith)
stored-slots s (k ∷ ks) (w ∷ ws) [] e = absurd (omega arith)
stored-slots s (k ∷ ks) (w ∷ ws) (x ∷ ss) e = ap (λ t. act_of (write false (SlotLane s k w) (Moved x)) ∷ t) (stored-slots s ks ws ss (omega arith))

pub acts-stored : (t : Target) (f : Function) (o : RegOp) (s : ℕ) (k : Operand) (n : ℕ) → n ≡ length (use_sources t f o) → acts_of (moved false (lanes_beside t f o s k) (use_sources t f o)) ≡ moved_acts false (map (owners.Slot s) (slot_numbers t n k)) (map source_owner (use_sources t f o))
acts-stored t f o s k n e =
    stored-slots s (slot_lane_numbers t (operand_widths t f o) k) (operand_widths t f o) (use_sources t f o) long
    ∙ ap (λ ks. moved_acts false (map (owners.Slot s) ks) (map source_owner (use_sources t f o))) (slot-numbers t (operand_widths t f o) n k (long ∙ sym e))
  where
    long : length (operand_widths t f o) ≡ length (use_sources t f o)
    long = located-long t f o.loc o.index ∙ sym (map-long (cond o.undef (λ l. Undef) FromLane) (operand_lanes t f o))

reloaded-slots : (early : Bool) (s : ℕ) (os : List Owner) (ks ws : List ℕ) → length os ≡ length ws → moved_acts early os (map source_owner (map FromLane (slot_lanes s ks ws))) ≡ moved_acts early os (map Some (map (owners.Slot s) ks))
reloaded-slots early s [] ks ws e = refl
reloaded-slots early s (o ∷ os) [] ws e = refl
reloaded-slots early s (o ∷ os) (k ∷ ks) [] e = absurd (omega arith)
reloaded-slots early s (o ∷ os) (k ∷ ks) (w ∷ ws) e = ap (λ t. record { lane = o; from = Some (owners.Slot s k); early = early } ∷ t) (reloaded-slots early s os ks ws (omega arith))

pub acts-reloaded : (t : Target) (f : Function) (early : Bool) (o : RegOp) (s : ℕ) (k : Operand) (n : ℕ) → n ≡ length (operand_owners t f o) → acts_of (defined t f early o (map FromLane (lanes_beside t f o s k))) ≡ definition_acts t f early o (map Some (map (owners.Slot s) (slot_numbers t n k)))
acts-reloaded t f early o s k n e =
    acts-defined t f early o (map FromLane (lanes_beside t f o s k))
    ∙ ap (λ x. x ++ map (plain early) (map owner_of (undefined_lanes t f o))) (
    reloaded-slots early s (operand_owners t f o) (slot_lane_numbers t (operand_widths t f o) k) (operand_widths t f o) long
    ∙ ap (λ ks. moved_acts early (operand_owners t f o) (map Some (map (owners.Slot s) ks))) (slot-numbers t (operand_widths t f o) n k (sym long ∙ sym e)))
  where
    long : length (operand_owners t f o) ≡ length (operand_widths t f o)
    long = map-long owner_of (operand_lanes t f o) ∙ sym (located-long t f o.loc o.index)

-- counted instructions

-- each explicit definition writes by its own role
pub acts-results : (t : Target) (f : Function) (n : ℕ) (ds : List Definition) → acts_of (results t f n ds) ≡ flat_map (λ d. result_acts t f d.0 d.1) ds
acts-results t f n [] = refl
acts-results t f n (d ∷ ds) =
    acts-join (result_writes t f d.0 n d.1) (results t f (n + length (operand_lanes t f d.1)) ds)
    ∙ ap₂ (λ x y. x ++ y) (acts-result t f d.0 n d.1) (acts-results t f (n + length (operand_lanes t f d.1)) ds)

acts-registers : (t : Target) (f : Function) (ds : List RegOp) → acts_of (undefined false (all_lanes t f ds)) ≡ flat_map (λ o. map (plain false) (operand_owners t f o)) ds
acts-registers t f [] = refl
acts-registers t f (d ∷ ds) =
    acts-undefined false (operand_lanes t f d ++ all_lanes t f ds)
    ∙ ap (map (plain false)) (map-join owner_of (operand_lanes t f d) (all_lanes t f ds))
    ∙ map-join (plain false) (operand_owners t f d) (map owner_of (all_lanes t f ds))
    ∙ ap (λ x. map (plain false) (operand_owners t f d) ++ x) (sym (acts-undefined false (all_lanes t f ds)) ∙ acts-registers t f ds)

pub acts-counted : (t : Target) (f : Function) (e : Effect) (rs : List Role) (os : List Operand) → acts_of (counted_acts t f e rs os) ≡ flat_map (λ d. result_acts t f d.0 d.1) (definitions rs os) ++ (flat_map (λ o. map (plain false) (operand_owners t f o)) (implicit_definitions os) ++ acts_of (call_writes t e os))
acts-counted t f e rs os =
    acts-join (results t f 0 (definitions rs os)) (undefined false (all_lanes t f (implicit_definitions os)) ++ call_writes t e os)
    ∙ ap₂ (λ x y. x ++ y) (acts-results t f 0 (definitions rs os))
    (acts-join (undefined false (all_lanes t f (implicit_definitions os))) (call_writes t e os) ∙ ap (λ x. x ++ acts_of (call_writes t e os)) (acts-registers t f (implicit_definitions os)))

pub acts-units : (us : List ℕ) → acts_of (undefined false (map UnitLane us)) ≡ map (λ u. plain false (owners.Unit u)) us
acts-units [] = refl
acts-units (u ∷ us) = ap (λ t. plain false (owners.Unit u) ∷ t) (acts-units us)

-- an effect that isn't a call's writes nothing besides
pub no_call : (t : Target) (e : Effect) (os : List Operand) → is_call e ≡ false → acts_of (call_writes t e os) ≡ []
no_call t effects.Call os h = absurd (cc)
no_call t (effects.Opaque kinds.Call) os h = absurd (cc)
no_call t e os h = refl

some-same : {X : Type 0} (x y : X) → Some x ≡ Some y → x ≡ y
some-same x y e = cc

-- by the operands at places

reg-is : (o : Operand) (d : RegOp) → as_register o ≡ Some d → o ≡ operands.Reg d
reg-is (operands.Reg r) d e = let h : r ≡ d = some-same r d e in ap operands.Reg h
reg-is (operands.Imm z) d e = absurd (cc)
reg-is (operands.Block n) d e = absurd (cc)
reg-is (operands.Stack n) d e = absurd (cc)
reg-is (operands.FixedStack n) d e = absurd (cc)
reg-is (operands.Symbol name) d e = absurd (cc)
reg-is (operands.Index x) d e = absurd (cc)
reg-is (operands.Mask m) d e = absurd (cc)

slot-is : (o : Operand) (s : ℕ) → as_slot o ≡ Some s → o ≡ operands.Stack s
slot-is (operands.Stack n) s e = ap operands.Stack (some-same n s e)
slot-is (operands.Reg r) s e = absurd (cc)
slot-is (operands.Imm z) s e = absurd (cc)
slot-is (operands.Block n) s e = absurd (cc)
slot-is (operands.FixedStack n) s e = absurd (cc)
slot-is (operands.Symbol name) s e = absurd (cc)
slot-is (operands.Index x) s e = absurd (cc)
slot-is (operands.Mask m) s e = absurd (cc)

-- the operands as a first one and the rest
one-is : (os : List Operand) (d : RegOp) → register_at os 0 ≡ Some d → (rest : List Operand) × (os ≡ operands.Reg d ∷ rest)
one-is [] d e = absurd (cc)
one-is (o ∷ os) d e = (os, ap (λ x. x ∷ os) (reg-is o d e))

module _ (t : Target) (f : Function) where
  pub undefined_none : (os : List Operand) → register_at os 0 ≡ None → acts_of (defined_undef t f os) ≡ []
  undefined_none [] e = refl
  undefined_none (operands.Reg d ∷ os) e = absurd (cc)
  undefined_none (o ∷ os) e = refl

  pub undefined_acts : (os : List Operand) (d : RegOp) → register_at os 0 ≡ Some d → acts_of (defined_undef t f os) ≡ result_acts t f false d
  undefined_acts os d e = let z = one-is os d e in ap (λ x. acts_of (defined_undef t f x)) z.1 ∙ acts-undef t f d

  pub whole_none : (os : List Operand) → register_at os 0 ≡ None → acts_of (filled_whole t f os) ≡ []
  whole_none [] e = refl
  whole_none (operands.Reg d ∷ os) e = absurd (cc)
  whole_none (o ∷ os) e = refl

  pub whole_acts : (os : List Operand) (d : RegOp) → register_at os 0 ≡ Some d → acts_of (filled_whole t f os) ≡ map (plain false) (operand_owners t f d)
  whole_acts os d e = let z = one-is os d e in ap (λ x. acts_of (filled_whole t f x)) z.1 ∙ acts-undefined false (operand_lanes t f d)

  pub copied_none : (os : List Operand) → register_at os 0 ≡ None → acts_of (copied t f os) ≡ []
  copied_none [] e = refl
  copied_none (operands.Reg d ∷ os) e = absurd (cc)
  copied_none (o ∷ os) e = refl

  pub copied_one : (os : List Operand) → register_at os 1 ≡ None → acts_of (copied t f os) ≡ []
  copied_one [] e = refl
  copied_one (operands.Reg d ∷ []) e = refl
  copied_one (operands.Reg d ∷ operands.Reg r ∷ os) e = absurd (cc)
  copied_one (operands.Reg d ∷ o ∷ os) e = refl
  copied_one (o ∷ os) e = refl

  pub copied_acts : (os : List Operand) (d s : RegOp) → register_at os 0 ≡ Some d → register_at os 1 ≡ Some s → acts_of (copied t f os) ≡ definition_acts t f false d (map source_owner (use_sources t f s))
  copied_acts os d s e g = let z = one-is os d e in at z.0 z.1
    where
      at : (rest : List Operand) → os ≡ operands.Reg d ∷ rest → acts_of (copied t f os) ≡ definition_acts t f false d (map source_owner (use_sources t f s))
      at [] h = absurd (let k : register_at os 1 ≡ None = ap (λ x. register_at x 1) h in cc)
      at (o ∷ rest) h =
          let k : as_register o ≡ Some s = sym (ap (λ x. register_at x 1) h) ∙ g in
          ap (λ x. acts_of (copied t f x)) (h ∙ ap (λ x. operands.Reg d ∷ x ∷ rest) (reg-is o s k)) ∙ acts-defined t f false d (use_sources t f s)

  pub constant_none : (early : Bool) (os : List Operand) → register_at os 0 ≡ None → acts_of (given_constant t f early os) ≡ []
  constant_none early [] e = refl
  constant_none early (operands.Reg d ∷ os) e = absurd (cc)
  constant_none early (o ∷ os) e = refl

  pub constant_one : (early : Bool) (os : List Operand) → slice_get os 1 ≡ None → acts_of (given_constant t f early os) ≡ []
  constant_one early [] e = refl
  constant_one early (operands.Reg d ∷ []) e = refl
  constant_one early (operands.Reg d ∷ o ∷ os) e = absurd (cc)
  constant_one early (operands.Imm z ∷ os) e = refl
  constant_one early (operands.Block n ∷ os) e = refl
  constant_one early (operands.Stack n ∷ os) e = refl
  constant_one early (operands.FixedStack n ∷ os) e = refl
  constant_one early (operands.Symbol name ∷ os) e = refl
  constant_one early (operands.Index x ∷ os) e = refl
  constant_one early (operands.Mask m ∷ os) e = refl

  pub constant_acts : (early : Bool) (os : List Operand) (d : RegOp) (o : Operand) → register_at os 0 ≡ Some d → slice_get os 1 ≡ Some o → acts_of (given_constant t f early os) ≡ definition_acts t f early d (cond (is_constant o) (map (λ x. None) (operand_owners t f d)) [])
  constant_acts early os d o e g = let z = one-is os d e in at z.0 z.1
    where
      at : (rest : List Operand) → os ≡ operands.Reg d ∷ rest → acts_of (given_constant t f early os) ≡ definition_acts t f early d (cond (is_constant o) (map (λ x. None) (operand_owners t f d)) [])
      at [] h = absurd (let k : slice_get os 1 ≡ None = ap (λ x. slice_get x 1) h in cc)
      at (p ∷ rest) h =
          let k : p ≡ o = some-same p o (sym (ap (λ x. slice_get x 1) h) ∙ g) in
          ap (λ x. acts_of (given_constant t f early x)) (h ∙ ap (λ x. operands.Reg d ∷ x ∷ rest) k)
          ∙ acts-defined t f early d (constant_lanes t f d (constant_of (sum (operand_widths t f d)) o))
          ∙ ap (definition_acts t f early d) (constants-none t f d (sum (operand_widths t f d)) o)

  -- the register, the slot and the lanes of a store or a reload
  abbrev SlotParts : List Operand → RegOp → ℕ → Operand → Type 0
  SlotParts os d s k = (rest : List Operand) × (os ≡ operands.Reg d ∷ operands.Stack s ∷ k ∷ rest)

  slot-parts : (os : List Operand) (d : RegOp) (s : ℕ) (k : Operand) → register_at os 0 ≡ Some d → slot_at os 1 ≡ Some s → slice_get os 2 ≡ Some k → SlotParts os d s k
  slot-parts [] d s k e g h = absurd (cc)
  slot-parts (a ∷ []) d s k e g h = absurd (cc)
  slot-parts (a ∷ b ∷ []) d s k e g h = absurd (cc)
  slot-parts (a ∷ b ∷ c ∷ os) d s k e g h = (os, ap (λ x. x ∷ b ∷ c ∷ os) (reg-is a d e) ∙ ap (λ x. operands.Reg d ∷ x ∷ c ∷ os) (slot-is b s g) ∙ ap (λ x. operands.Reg d ∷ operands.Stack s ∷ x ∷ os) (some-same c k h))

  pub stored_none : (os : List Operand) → register_at os 0 ≡ None → acts_of (stored t f os) ≡ []
  stored_none [] e = refl
  stored_none (operands.Reg d ∷ os) e = absurd (cc)
  stored_none (o ∷ os) e = refl

  pub stored_one : (os : List Operand) → slot_at os 1 ≡ None → acts_of (stored t f os) ≡ []
  stored_one [] e = refl
  stored_one (operands.Reg d ∷ []) e = refl
  stored_one (operands.Reg d ∷ operands.Stack s ∷ os) e = absurd (cc)
  stored_one (operands.Reg d ∷ o ∷ os) e = refl
  stored_one (o ∷ os) e = refl

  pub stored_two : (os : List Operand) → slice_get os 2 ≡ None → acts_of (stored t f os) ≡ []
  stored_two [] e = refl
  stored_two (operands.Reg d ∷ []) e = refl
  stored_two (operands.Reg d ∷ operands.Stack s ∷ []) e = refl
  stored_two (operands.Reg d ∷ operands.Stack s ∷ k ∷ os) e = absurd (cc)
  stored_two (operands.Reg d ∷ o ∷ os) e = refl
  stored_two (o ∷ os) e = refl

  pub stored_acts : (os : List Operand) (d : RegOp) (s n : ℕ) (k : Operand) → register_at os 0 ≡ Some d → slot_at os 1 ≡ Some s → slice_get os 2 ≡ Some k → n ≡ length (map source_owner (use_sources t f d)) → acts_of (stored t f os) ≡ moved_acts false (map (owners.Slot s) (slot_numbers t n k)) (map source_owner (use_sources t f d))
  stored_acts os d s n k e g h l = let z = slot-parts os d s k e g h in ap (λ x. acts_of (stored t f x)) z.1 ∙ acts-stored t f d s k n (l ∙ map-long source_owner (use_sources t f d))

  pub reloaded_none : (early : Bool) (os : List Operand) → register_at os 0 ≡ None → acts_of (reloaded t f early os) ≡ []
  reloaded_none early [] e = refl
  reloaded_none early (operands.Reg d ∷ os) e = absurd (cc)
  reloaded_none early (o ∷ os) e = refl

  pub reloaded_one : (early : Bool) (os : List Operand) → slot_at os 1 ≡ None → acts_of (reloaded t f early os) ≡ []
  reloaded_one early [] e = refl
  reloaded_one early (operands.Reg d ∷ []) e = refl
  reloaded_one early (operands.Reg d ∷ operands.Stack s ∷ os) e = absurd (cc)
  reloaded_one early (operands.Reg d ∷ o ∷ os) e = refl
  reloaded_one early (o ∷ os) e = refl

  pub reloaded_two : (early : Bool) (os : List Operand) → slice_get os 2 ≡ None → acts_of (reloaded t f early os) ≡ []
  reloaded_two early [] e = refl
  reloaded_two early (operands.Reg d ∷ []) e = refl
  reloaded_two early (operands.Reg d ∷ operands.Stack s ∷ []) e = refl
  reloaded_two early (operands.Reg d ∷ operands.Stack s ∷ k ∷ os) e = absurd (cc)
  reloaded_two early (operands.Reg d ∷ o ∷ os) e = refl
  reloaded_two early (o ∷ os) e = refl

  pub reloaded_acts : (early : Bool) (os : List Operand) (d : RegOp) (s n : ℕ) (k : Operand) → register_at os 0 ≡ Some d → slot_at os 1 ≡ Some s → slice_get os 2 ≡ Some k → n ≡ length (operand_owners t f d) → acts_of (reloaded t f early os) ≡ definition_acts t f early d (map Some (map (owners.Slot s) (slot_numbers t n k)))
  reloaded_acts early os d s n k e g h l = let z = slot-parts os d s k e g h in ap (λ x. acts_of (reloaded t f early x)) z.1 ∙ acts-reloaded t f early d s k n l

  -- the other effects
  pub other_silent : (e : Effect) (early : Bool) (os : List Operand) → is_silent e ≡ false → acts_of (silent_acts t f e early os) ≡ []
  other_silent effects.Copy early os h = absurd (cc)
  other_silent effects.Phi early os h = absurd (cc)
  other_silent effects.ImplicitDef early os h = absurd (cc)
  other_silent effects.RegSequence early os h = absurd (cc)
  other_silent effects.InsertSubreg early os h = absurd (cc)
  other_silent effects.Const early os h = absurd (cc)
  other_silent effects.Addr early os h = absurd (cc)
  other_silent effects.Spill early os h = absurd (cc)
  other_silent effects.Reload early os h = absurd (cc)
  other_silent e early os h = refl
