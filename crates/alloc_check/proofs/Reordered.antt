-- What instructions do rests on a function's classes alone, and not on its blocks.
use Rattle.std.proofs.Common.{◌≡◌, ℕ, ◌+◌, ◌&&◌, Bool, true, false, cond, not, List, [], ◌∷◌, ◌++◌, Option, Some, None, map, filter, flat_map, length, refl, sym, ap, ◌∙◌}
use Rattle.std.specs.List.{cons_option}
use Rattle.std.specs.Prelude.{ℤ, nat_eq, filter_map, sum, option_map, nat_abs}
use Rattle.target_base.specs.declared.types.Effect.{Effect}
use Rattle.target_base.specs.declared.types.Effect.TheVariants as effects
use Rattle.target_base.specs.declared.types.OpaqueKind.{OpaqueKind}
use Rattle.target_base.specs.declared.types.Role.{Role}
use Rattle.target_base.specs.declared.types.IndexId.{IndexId}
use Rattle.target_base.specs.declared.types.Target.{Target}
use Rattle.meaning.specs.declared.types.Lane.{Lane}
use Rattle.meaning.specs.declared.types.Source.{Source}
use Rattle.meaning.specs.declared.types.Source.TheVariants.{FromLane, Undef}
use Rattle.meaning.specs.declared.types.Constant.{Constant}
use Rattle.meaning.specs.declared.types.Rest.{Rest}
use Rattle.meaning.specs.Lanes.{Writes}
use Rattle.meaning.specs.Perform.{condition_lane}
use Rattle.mir_func.specs.declared.func.Loc.{Loc}
use Rattle.mir_func.specs.declared.func.Loc.TheVariants.{Virtual, Fixed}
use Rattle.mir_func.specs.declared.func.RegOp.{RegOp}
use Rattle.mir_func.specs.declared.func.Operand.{Operand}
use Rattle.mir_func.specs.declared.func.Operand.TheVariants as operands
use Rattle.mir_func.specs.declared.func.Instr.{Instr}
use Rattle.mir_func.specs.declared.func.Block.{Block}
use Rattle.mir_func.specs.Value.{Function}
use Rattle.mir_func.specs.Binding.{Definition, definitions, explicit_operands, implicit_registers, implicit_roles, immediate_of, registers, roles_of, does}
use Rattle.target_base.specs.Rules.{is_phi}
use Rattle.mir_meaning.specs.Registers.{located_lanes, located_widths, operand_lanes, operand_widths, use_sources, undefined_lanes, whole_lanes, slot_lane_numbers, slot_lanes}
use Rattle.mir_meaning.specs.Items.{moved, undefined, computed, defined, constant_of, constant_bits, copied, defined_undef, parts, sequenced, inserted, constant_lanes, given_constant, lanes_beside, at_all_widths, spilled, reloaded, silent_writes, Value, use_value, computes_with_immediates, constant_value, has_base, value_of, first_width, is_flags, pick, flag_value, implicit_values, values, unreserved, all_lanes, answered, clobbered, kept, implicit_definitions, explicit_definitions, implicit_writes, opaque_clobbers, opaque_implicit, result_writes, results, defined_lanes, further_writes, counted_writes, lane_width, result_widths, read_widths, rest_of, named_symbol, needed_of}
use Rattle.mir_meaning.specs.Codes.{phi_pair, phi_operands, phi_writes, phis_written}

map-alike : {A B : Type 0} (f g : A → B) → ((x : A) → f x ≡ g x) → (xs : List A) → map f xs ≡ map g xs
map-alike f g e [] = refl
map-alike f g e (x ∷ xs) = λ k. e x k ∷ map-alike f g e xs k

flat-alike : {A B : Type 0} (f g : A → List B) → ((x : A) → f x ≡ g x) → (xs : List A) → flat_map f xs ≡ flat_map g xs
flat-alike f g e [] = refl
flat-alike f g e (x ∷ xs) = λ k. e x k ++ flat-alike f g e xs k

module _ (t : Target) (g : Function) (bs : List Block) where
  abbrev h : Function
  h = record g { blocks = bs }

  located : (l : Loc) (x : Option IndexId) → located_lanes t h l x ≡ located_lanes t g l x
  located (Virtual v) None = refl
  located (Virtual v) (Some x) = refl
  located (Fixed r) x = refl

  located-widths : (l : Loc) (x : Option IndexId) → located_widths t h l x ≡ located_widths t g l x
  located-widths (Virtual v) None = refl
  located-widths (Virtual v) (Some x) = refl
  located-widths (Fixed r) x = refl

  lanes : (o : RegOp) → operand_lanes t h o ≡ operand_lanes t g o
  lanes o = located o.loc o.index

  widths : (o : RegOp) → operand_widths t h o ≡ operand_widths t g o
  widths o = located-widths o.loc o.index

  sources : (o : RegOp) → use_sources t h o ≡ use_sources t g o
  sources o = ap (map (cond o.undef (λ (l : Lane). Undef) FromLane)) (lanes o)

  wholes : (l : Loc) → whole_lanes t h l ≡ whole_lanes t g l
  wholes (Virtual v) = refl
  wholes (Fixed r) = refl

  others : (o : RegOp) → undefined_lanes t h o ≡ undefined_lanes t g o
  others o = ap (λ ls. cond (o.def && o.undef) ls []) (wholes o.loc)

  gives : (early : Bool) (d : RegOp) (ss ss' : List Source) → ss ≡ ss' → defined t h early d ss ≡ defined t g early d ss'
  gives early d ss ss' e = λ k. moved early (lanes d k) (e k) ++ undefined early (others d k)

  copies : (os : List Operand) → copied t h os ≡ copied t g os
  copies (operands.Reg d ∷ operands.Reg s ∷ os) = gives false d (use_sources t h s) (use_sources t g s) (sources s)
  copies _ = refl

  undefs : (os : List Operand) → defined_undef t h os ≡ defined_undef t g os
  undefs (operands.Reg d ∷ os) = λ k. undefined false (lanes d k ++ others d k)
  undefs _ = refl

  part-writes : (d : RegOp) (os : List Operand) → parts t h d os ≡ parts t g d os
  part-writes d (operands.Reg s ∷ operands.Index x ∷ os) = λ k. moved false (located d.loc (Some x) k) (sources s k) ++ part-writes d os k
  part-writes d _ = refl

  sequences : (os : List Operand) → sequenced t h os ≡ sequenced t g os
  sequences (operands.Reg d ∷ os) = λ k. part-writes d os k ++ undefined false (lanes d k)
  sequences _ = refl

  inserts : (os : List Operand) → inserted t h os ≡ inserted t g os
  inserts (operands.Reg d ∷ operands.Reg a ∷ operands.Reg b ∷ operands.Index x ∷ os) = λ k. moved false (located d.loc (Some x) k) (sources b k) ++ moved false (lanes d k) (sources a k)
  inserts _ = refl

  constants : (d : RegOp) (c : Option Constant) → constant_lanes t h d c ≡ constant_lanes t g d c
  constants d None = refl
  constants d (Some c) = ap (constant_bits c 0) (widths d)

  gives-constant : (early : Bool) (os : List Operand) → given_constant t h early os ≡ given_constant t g early os
  gives-constant early (operands.Reg d ∷ o ∷ os) =
      gives early d (constant_lanes t h d (constant_of (sum (operand_widths t h d)) o)) (constant_lanes t g d (constant_of (sum (operand_widths t g d)) o))
      (ap (λ ws. constant_lanes t h d (constant_of (sum ws) o)) (widths d) ∙ constants d (constant_of (sum (operand_widths t g d)) o))
  gives-constant early _ = refl

  beside : (o : RegOp) (s : ℕ) (k : Operand) → lanes_beside t h o s k ≡ lanes_beside t g o s k
  beside o s k = ap (λ ws. slot_lanes s (slot_lane_numbers t ws k) ws) (widths o)

  spills : (os : List Operand) → spilled t h os ≡ spilled t g os
  spills (operands.Reg o ∷ operands.Stack s ∷ n ∷ os) =
      λ k. moved false (beside o s n k) (sources o k) ++ undefined false (at_all_widths t s (slot_lane_numbers t (widths o k) n))
  spills _ = refl

  reloads : (early : Bool) (os : List Operand) → reloaded t h early os ≡ reloaded t g early os
  reloads early (operands.Reg o ∷ operands.Stack s ∷ n ∷ os) = gives early o (map FromLane (lanes_beside t h o s n)) (map FromLane (lanes_beside t g o s n)) (ap (map FromLane) (beside o s n))
  reloads early _ = refl

  pub silent-same : (e : Effect) (early : Bool) (os : List Operand) → silent_writes t h e early os ≡ silent_writes t g e early os
  silent-same effects.Copy early os = copies os
  silent-same effects.ImplicitDef early os = undefs os
  silent-same effects.RegSequence early os = sequences os
  silent-same effects.InsertSubreg early os = inserts os
  silent-same effects.Const early os = gives-constant early os
  silent-same effects.Addr early os = gives-constant early os
  silent-same effects.Spill early os = spills os
  silent-same effects.Reload early os = reloads early os
  silent-same _ early os = refl

  use-same : (o : RegOp) → use_value t h o ≡ use_value t g o
  use-same o = λ k. (sources o k, widths o k)

  value-same : (e : Effect) (w : ℕ) (o : Operand) → value_of t h e w o ≡ value_of t g e w o
  value-same e w (operands.Reg o) = ap (λ v. cond o.def None (Some v)) (use-same o)
  value-same e w _ = refl

  filter-values : (e : Effect) (w : ℕ) (os : List Operand) → filter_map (value_of t h e w) os ≡ filter_map (value_of t g e w) os
  filter-values e w [] = refl
  filter-values e w (o ∷ os) = λ k. cons_option (value-same e w o k) (filter-values e w os k)

  first-same : (os : List RegOp) → first_width t h os ≡ first_width t g os
  first-same [] = refl
  first-same (o ∷ os) = ap sum (widths o)

  flag-same : (c : ℤ) (o : RegOp) → flag_value t h c o ≡ flag_value t g c o
  flag-same c o = λ k. (pick (condition_lane (nat_abs c)) (sources o k), pick (condition_lane (nat_abs c)) (widths o k))

  implicit-values : (e : Effect) (c : ℤ) (rs : List Role) (os : List RegOp) → implicit_values t h e c rs os ≡ implicit_values t g e c rs os
  implicit-values effects.Jcc c rs os = λ k. map-alike (flag_value t h c) (flag_value t g c) (flag-same c) (filter (is_flags rs) os) k ++ map-alike (use_value t h) (use_value t g) use-same (filter (λ o. not (is_flags rs o)) os) k
  implicit-values _ c rs os = map-alike (use_value t h) (use_value t g) use-same os

  pub values-same : (e : Effect) (i : Instr) → values t h e i ≡ values t g e i
  values-same e i =
      let os = filter (λ (o : RegOp). not o.def) (implicit_registers i.operands) in
      λ k. (ap (λ w. filter_map (value_of t h e w) (explicit_operands i.operands)) (first-same (registers i.operands)) ∙ filter-values e (first_width t g (registers i.operands)) (explicit_operands i.operands)) k
      ++ implicit-values e (immediate_of i.operands) (implicit_roles (roles_of t i)) os k

  all-same : (os : List RegOp) → all_lanes t h os ≡ all_lanes t g os
  all-same os = flat-alike (operand_lanes t h) (operand_lanes t g) lanes os

  answers-same : (os : List Operand) → answered t h os ≡ answered t g os
  answers-same os = ap (unreserved t) (all-same (implicit_definitions os))

  implicit-same : (e : Effect) (rs : List Role) (os : List Operand) → implicit_writes t h e rs os ≡ implicit_writes t g e rs os
  implicit-same effects.Cmp rs os = λ k. kept t (computed false 0 (all-same (filter (is_flags rs) (implicit_definitions os)) k) ++ undefined false (all-same (implicit_definitions os) k))
  implicit-same effects.Call rs os = λ k. computed false 0 (answers-same os k) ++ undefined false (clobbered t os)
  implicit-same _ rs os = λ k. undefined false (unreserved t (all-same (implicit_definitions os) k))

  result-same : (early : Bool) (n : ℕ) (d : RegOp) → result_writes t h early n d ≡ result_writes t g early n d
  result-same early n d = λ k. computed early n (lanes d k) ++ undefined early (others d k)

  results-same : (n : ℕ) (ds : List Definition) → results t h n ds ≡ results t g n ds
  results-same n [] = refl
  results-same n (d ∷ ds) = λ k. result-same d.0 n d.1 k ++ (ap (λ ls. results t h (n + length ls) ds) (lanes d.1) ∙ results-same (n + length (operand_lanes t g d.1)) ds) k

  further-same : (e : Effect) (i : Instr) → further_writes t h e i ≡ further_writes t g e i
  further-same (effects.Opaque kind) i =
      λ k. computed false (length (flat-alike (λ (d : Definition). operand_lanes t h d.1) (λ d. operand_lanes t g d.1) (λ d. lanes d.1) (definitions (roles_of t i) i.operands) k)) (all-same (implicit_definitions i.operands) k) ++ opaque_clobbers t kind i.operands
  further-same effects.Cmp i = implicit-same effects.Cmp (implicit_roles (roles_of t i)) i.operands
  further-same effects.Call i = implicit-same effects.Call (implicit_roles (roles_of t i)) i.operands
  further-same e i = λ k. undefined false (unreserved t (all-same (implicit_definitions i.operands) k))

  pub counted-same : (e : Effect) (i : Instr) → counted_writes t h e i ≡ counted_writes t g e i
  counted-same e i = λ k. results-same 0 (definitions (roles_of t i) i.operands) k ++ further-same e i k

  result-widths : (e : Effect) (os : List Operand) → result_widths t h e os ≡ result_widths t g e os
  result-widths effects.Call os = ap (map (lane_width t)) (answers-same os)
  result-widths (effects.Opaque kind) os = flat-alike (operand_widths t h) (operand_widths t g) widths (explicit_definitions os ++ implicit_definitions os)
  result-widths _ os = flat-alike (operand_widths t h) (operand_widths t g) widths (explicit_definitions os)

  pub rest-same : (e : Effect) (i : Instr) → rest_of t h e i ≡ rest_of t g e i
  rest-same e i = λ k. record {
    effect = e;
    widths = read_widths e (values-same e i k);
    result = result-widths e i.operands k;
    immediate = (rest_of t g e i).immediate;
    symbol = named_symbol t e i;
    needed = needed_of t e i;
  }

  phi-pairs : (n : ℕ) (d : RegOp) (os : List Operand) → phi_pair t h n d os ≡ phi_pair t g n d os
  phi-pairs n d (operands.Reg s ∷ operands.Block m ∷ os) = λ k. cond (nat_eq m n) (gives false d (use_sources t h s) (use_sources t g s) (sources s) k) (phi-pairs n d os k)
  phi-pairs n d _ = refl

  phi-operands : (n : ℕ) (os : List Operand) → phi_operands t h n os ≡ phi_operands t g n os
  phi-operands n (operands.Reg d ∷ os) = phi-pairs n d os
  phi-operands n _ = refl

  pub phis-same : (n : ℕ) (is : List Instr) → phis_written t h n is ≡ phis_written t g n is
  phis-same n [] = refl
  phis-same n (i ∷ is) = λ k. phis-same n is k ++ cond (does is_phi t i) (phi-operands n i.operands k) []
