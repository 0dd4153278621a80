-- The instructions that lowering makes as items, and where they stand.
use Rattle.std.proofs.Common.{◌≡◌, ◌⊎◌, inl, inr, ◌∷◌, ◌++◌, ◌∙◌, ◌||◌, ◌+◌, not, ℕ, Bool, true, false, cond, List, Option, Some, None, map, take, drop, refl, sym, ap, append-nil, one-add, []}
use Rattle.std.specs.Prelude.{option_map, pos, slice_get}
use Rattle.std.specs.List.{position_or_len}
use Rattle.target_base.specs.declared.types.Effect.{Effect}
use Rattle.target_base.specs.declared.types.Effect.TheVariants as effects
use Rattle.target_base.specs.declared.types.OpcodeDesc.{OpcodeDesc}
use Rattle.target_base.specs.declared.types.Target.{Target}
use Rattle.target_base.specs.Roles.{is_silent}
use Rattle.target_base.specs.Rules.{is_copy, is_implicit_def, is_phi, starts_with_the_five}
use Rattle.target_base.proofs.Tests.{first_of_both, second_of_both}
use Rattle.target_base.proofs.Sound.{opcodes_sound}
use Rattle.meaning.specs.Code.{Counted, Item, Silent}
use Rattle.meaning.specs.Live.{Among, here, there}
use Rattle.mir_func.specs.declared.func.Operand.TheVariants as operands
use Rattle.mir_func.specs.declared.func.Op.TheVariants as ops
use Rattle.mir_func.specs.declared.func.Instr.{Instr}
use Rattle.mir_func.specs.declared.func.Block.{Block}
use Rattle.mir_func.specs.Value.{Function}
use Rattle.mir_func.specs.Binding.{definitions, does, effect_of, ends_control, immediate_of, is_conditional, is_early_clobber, is_terminator, known_opcode, passes, roles_of}
use Rattle.mir_meaning.specs.Items.{computes_with_immediates, copied, defined_undef, further_writes, named_symbol, needed_of, read_widths, rest_of, result_widths, results, silent_reads, silent_writes, values}
use Rattle.mir_meaning.specs.Codes.{effect_item, ends_without_terminator, falls_through, item_of, target_of, way, ways_out}
use Rattle.phi_elim.specs.declared.arrivals.Arrival.{Arrival}
use Rattle.phi_elim.specs.Moves.{copy_of, copy_op, implicit_def_op, source_of, undefining, whole_definition}
use Rattle.phi_elim.specs.Numbered.{numbered}
use Rattle.phi_elim.specs.Phis.{all_in_place, arriving, before_terminators, from_incoming, in_place, phi_number}
use Rattle.lowering_laws.proofs.Arrivals.{arrival_writes}
use Rattle.lowering_laws.proofs.Classes.{among-cases}

-- COPY and IMPLICIT_DEF

is-copy : (e : Effect) → is_copy e ≡ true → e ≡ effects.Copy
is-copy effects.Copy h = refl
is-copy e h = absurd (cc)

is-undef : (e : Effect) → is_implicit_def e ≡ true → e ≡ effects.ImplicitDef
is-undef effects.ImplicitDef h = refl
is-undef e h = absurd (cc)

copy-first : (os : List OpcodeDesc) → starts_with_the_five os ≡ true → option_map (λ (d : OpcodeDesc). d.effect) (slice_get os 0) ≡ Some effects.Copy
copy-first [] e = absurd (cc)
copy-first (a ∷ []) e = absurd (cc)
copy-first (a ∷ b ∷ []) e = absurd (cc)
copy-first (a ∷ b ∷ c ∷ []) e = absurd (cc)
copy-first (a ∷ b ∷ c ∷ x ∷ []) e = absurd (cc)
copy-first (a ∷ b ∷ c ∷ x ∷ y ∷ os) e =
    let q = first_of_both _ _ (first_of_both _ _ (first_of_both _ _ (first_of_both _ _ e))) in
    ap Some (is-copy a.effect (second_of_both _ _ (first_of_both _ _ q)))

undef-third : (os : List OpcodeDesc) → starts_with_the_five os ≡ true → option_map (λ (d : OpcodeDesc). d.effect) (slice_get os 2) ≡ Some effects.ImplicitDef
undef-third [] e = absurd (cc)
undef-third (a ∷ []) e = absurd (cc)
undef-third (a ∷ b ∷ []) e = absurd (cc)
undef-third (a ∷ b ∷ c ∷ []) e = absurd (cc)
undef-third (a ∷ b ∷ c ∷ x ∷ []) e = absurd (cc)
undef-third (a ∷ b ∷ c ∷ x ∷ y ∷ os) e =
    let q = second_of_both _ _ (first_of_both _ _ (first_of_both _ _ e)) in
    ap Some (is-undef c.effect (second_of_both _ _ (first_of_both _ _ q)))

module _ (t : Target) where
  five : starts_with_the_five t.opcodes ≡ true
  five =
      let all = opcodes_sound t.name t.version t.units t.regs t.reserved t.indexes t.classes t.masks t.opcodes t.sound in
      second_of_both _ _ (first_of_both _ _ (first_of_both _ _ all))

  pub copy-effect : (i : Instr) → i.op ≡ ops.Known copy_op → effect_of t i ≡ Some effects.Copy
  copy-effect i e = ap (λ o. option_map (λ (d : OpcodeDesc). d.effect) (known_opcode t o)) e ∙ copy-first t.opcodes five

  pub undef-effect : (i : Instr) → i.op ≡ ops.Known implicit_def_op → effect_of t i ≡ Some effects.ImplicitDef
  undef-effect i e = ap (λ o. option_map (λ (d : OpcodeDesc). d.effect) (known_opcode t o)) e ∙ undef-third t.opcodes five

  module _ (f : Function) (b : Block) where
    pub copy-item : (i : Instr) → i.op ≡ ops.Known copy_op → item_of t f b i ≡ Silent [] (copied t f i.operands)
    unfolding item_of
    copy-item i e = ap (λ q. elim q as (λ o. Item) [ None ↦ Silent [] [] | Some x ↦ effect_item t f b i x ]) (copy-effect i e)

    pub undef-item : (i : Instr) → i.op ≡ ops.Known implicit_def_op → item_of t f b i ≡ Silent [] (defined_undef t f i.operands)
    unfolding item_of
    undef-item i e = ap (λ q. elim q as (λ o. Item) [ None ↦ Silent [] [] | Some x ↦ effect_item t f b i x ]) (undef-effect i e)

    pub arriving-item : (a : Arrival) → item_of t f b (arriving a) ≡ Silent [] (arrival_writes t f a)
    arriving-item a = go a.from.undef
      where
        go : (y : Bool) → item_of t f b (cond y (undefining (whole_definition a.to)) (copy_of (whole_definition a.to) (source_of a.from))) ≡ Silent [] (cond y (defined_undef t f (operands.Reg (whole_definition a.to) ∷ [])) (copied t f (operands.Reg (whole_definition a.to) ∷ operands.Reg (source_of a.from) ∷ [])))
        go true = undef-item (undefining (whole_definition a.to)) refl
        go false = copy-item (copy_of (whole_definition a.to) (source_of a.from)) refl

    -- a phi does nothing where it stands
    pub phi-item : (i : Instr) → does is_phi t i ≡ true → item_of t f b i ≡ Silent [] []
    unfolding item_of
    phi-item i e = go (effect_of t i) e
      where
        by : (x : Effect) → is_phi x ≡ true → effect_item t f b i x ≡ Silent [] []
        by effects.Phi h = refl
        by x h = absurd (cc)

        go : (q : Option Effect) → passes is_phi q ≡ true → elim q as (λ o. Item) [ None ↦ Silent [] [] | Some x ↦ effect_item t f b i x ] ≡ Silent [] []
        go None h = absurd (cc)
        go (Some x) h = by x h

    -- ids count for nothing

    symbol-id : (n : ℕ) (i : Instr) (e : Effect) → named_symbol t e (record i { id = n }) ≡ named_symbol t e i
    symbol-id n i effects.Call = refl
    symbol-id n i (effects.Opaque kind) = refl
    symbol-id n i e = refl

    needed-id : (n : ℕ) (i : Instr) (e : Effect) → needed_of t e (record i { id = n }) ≡ needed_of t e i
    needed-id n i (effects.Opaque kind) = refl
    needed-id n i e = refl

    further-id : (n : ℕ) (i : Instr) (e : Effect) → further_writes t f e (record i { id = n }) ≡ further_writes t f e i
    further-id n i (effects.Opaque kind) = refl
    further-id n i e = refl

    rest-id : (n : ℕ) (i : Instr) (e : Effect) → rest_of t f e (record i { id = n }) ≡ rest_of t f e i
    rest-id n i e = λ k. record {
      effect = e;
      widths = read_widths e (values t f e i);
      result = result_widths t f e i.operands;
      immediate = cond (computes_with_immediates e) (pos 0) (immediate_of i.operands);
      symbol = symbol-id n i e k;
      needed = needed-id n i e k;
    }

    effect-id : (n : ℕ) (i : Instr) (e : Effect) → effect_item t f b (record i { id = n }) e ≡ effect_item t f b i e
    effect-id n i e =
        λ k. cond (is_silent e)
        (Silent (silent_reads t f e i.operands) (silent_writes t f e (is_early_clobber (roles_of t i)) i.operands))
        (Counted (rest-id n i e k) (map (λ v. v.0) (values t f e i)) (results t f 0 (definitions (roles_of t i) i.operands) ++ further-id n i e k) (option_map (way t f b.number) (target_of i.operands)) (cond (is_terminator e) (ways_out t f b) []))

    item-id : (n : ℕ) (i : Instr) → item_of t f b (record i { id = n }) ≡ item_of t f b i
    unfolding item_of
    item-id n i = go (effect_of t i)
      where
        go : (q : Option Effect) → elim q as (λ o. Item) [ None ↦ Silent [] [] | Some e ↦ effect_item t f b (record i { id = n }) e ] ≡ elim q as (λ o. Item) [ None ↦ Silent [] [] | Some e ↦ effect_item t f b i e ]
        go None = refl
        go (Some e) = effect-id n i e

    pub numbered-items : (n : ℕ) (is : List Instr) → map (item_of t f b) (numbered n is) ≡ map (item_of t f b) is
    numbered-items n [] = refl
    numbered-items n (i ∷ is) = λ k. item-id n i k ∷ numbered-items (n + 1) is k

  -- phis and the copies are no terminators

  pub phi-goes-on : (i : Instr) → does is_phi t i ≡ true → does is_terminator t i ≡ false
  phi-goes-on i e = go (effect_of t i) e
    where
      by : (x : Effect) → is_phi x ≡ true → is_terminator x ≡ false
      by effects.Phi h = refl
      by x h = absurd (cc)

      go : (q : Option Effect) → passes is_phi q ≡ true → passes is_terminator q ≡ false
      go None h = absurd (cc)
      go (Some x) h = by x h

  pub copy-goes-on : (i : Instr) → i.op ≡ ops.Known copy_op → does is_terminator t i ≡ false
  copy-goes-on i e = ap (passes is_terminator) (copy-effect i e)

  undef-goes-on : (i : Instr) → i.op ≡ ops.Known implicit_def_op → does is_terminator t i ≡ false
  undef-goes-on i e = ap (passes is_terminator) (undef-effect i e)

  pub arriving-goes-on : (a : Arrival) → does is_terminator t (arriving a) ≡ false
  arriving-goes-on a = go a.from.undef
    where
      go : (y : Bool) → does is_terminator t (cond y (undefining (whole_definition a.to)) (copy_of (whole_definition a.to) (source_of a.from))) ≡ false
      go true = undef-goes-on (undefining (whole_definition a.to)) refl
      go false = copy-goes-on (copy_of (whole_definition a.to) (source_of a.from)) refl

  ends-last : (i : Instr) → does is_terminator t i ≡ false → does ends_control t i ≡ false
  ends-last i e = go (effect_of t i) e
    where
      left : (a b : Bool) → (a || b) ≡ false → a ≡ false
      left true b h = absurd (cc)
      left false b h = refl

      go : (q : Option Effect) → passes is_terminator q ≡ false → passes ends_control q ≡ false
      go None h = refl
      go (Some x) h = left (ends_control x) (is_conditional x) h

  -- before the first terminator

  abbrev pub set_before : List Instr → List Instr → List Instr
  set_before new [] = new
  set_before new (i ∷ is) = cond (does is_terminator t i) (new ++ i ∷ is) (i ∷ set_before new is)

  pub before-set : (new is : List Instr) → before_terminators t new is ≡ set_before new is
  before-set new [] = append-nil new
  before-set new (i ∷ is) = go (does is_terminator t i) (before-set new is)
    where
      n : ℕ
      n = position_or_len (does is_terminator t) is

      go : (y : Bool) → before_terminators t new is ≡ set_before new is → take (cond (not y) (1 + n) 0) (i ∷ is) ++ (new ++ drop (cond (not y) (1 + n) 0) (i ∷ is)) ≡ cond y (new ++ i ∷ is) (i ∷ set_before new is)
      go true e = refl
      go false e = ap (λ m. take m (i ∷ is) ++ (new ++ drop m (i ∷ is))) (one-add n) ∙ ap (λ xs. i ∷ xs) e

  -- what the last instruction says

  abbrev pub last_lacks : (Instr → Bool) → List Instr → Bool
  last_lacks p [] = true
  last_lacks p (i ∷ []) = not (p i)
  last_lacks p (i ∷ j ∷ is) = last_lacks p (j ∷ is)

  pub falls-last : (is : List Instr) → falls_through t is ≡ last_lacks (does ends_control t) is
  falls-last [] = refl
  falls-last (i ∷ []) = refl
  falls-last (i ∷ j ∷ is) = falls-last (j ∷ is)

  pub open-last : (is : List Instr) → ends_without_terminator t is ≡ last_lacks (does is_terminator t) is
  open-last [] = refl
  open-last (i ∷ []) = refl
  open-last (i ∷ j ∷ is) = open-last (j ∷ is)

  pub last-append : (p : Instr → Bool) (xs : List Instr) (y : Instr) (ys : List Instr) → last_lacks p (xs ++ y ∷ ys) ≡ last_lacks p (y ∷ ys)
  last-append p [] y ys = refl
  last-append p (x ∷ []) y ys = refl
  last-append p (x ∷ z ∷ xs) y ys = last-append p (z ∷ xs) y ys

  last-none : (p : Instr → Bool) (xs : List Instr) → ((x : Instr) → Among x xs → p x ≡ false) → last_lacks p xs ≡ true
  last-none p [] h = refl
  last-none p (x ∷ []) h = ap not (h x here)
  last-none p (x ∷ z ∷ xs) h = last-none p (z ∷ xs) (λ y m. h y (there m))

  module _ (p : Instr → Bool) (less : (i : Instr) → does is_terminator t i ≡ false → p i ≡ false) (same : (c : ℕ) (i : Instr) → p (in_place t c i) ≡ p i) (id : (n : ℕ) (i : Instr) → p (record i { id = n }) ≡ p i) where
    placed-last : (c : ℕ) (is : List Instr) → last_lacks p (all_in_place t c is) ≡ last_lacks p is
    placed-last c [] = refl
    placed-last c (i ∷ []) = ap not (same c i)
    placed-last c (i ∷ j ∷ is) = placed-last (c + phi_number t i) (j ∷ is)

    numbered-last : (n : ℕ) (is : List Instr) → last_lacks p (numbered n is) ≡ last_lacks p is
    numbered-last n [] = refl
    numbered-last n (i ∷ []) = ap not (id n i)
    numbered-last n (i ∷ j ∷ is) = numbered-last (n + 1) (j ∷ is)

    -- new instructions that are no terminators
    module _ (new : List Instr) (none : (x : Instr) → Among x new → does is_terminator t x ≡ false) where
      more-none : (i : Instr) → does is_terminator t i ≡ false → (x : Instr) → Among x (i ∷ new) → p x ≡ false
      more-none i e x m = go (among-cases x i new m)
        where
          go : (x ≡ i) ⊎ Among x new → p x ≡ false
          go (inl q) = less x (ap (does is_terminator t) q ∙ e)
          go (inr k) = less x (none x k)

      set-last : (is : List Instr) → last_lacks p (set_before new is) ≡ last_lacks p is
      set-last [] = last-none p new (λ x m. less x (none x m))
      set-last (i ∷ is) = go (does is_terminator t i) refl is (set-last is)
        where
          behind : (j : Instr) (js : List Instr) (y : Bool) → last_lacks p (cond y (new ++ j ∷ js) (j ∷ set_before new js)) ≡ last_lacks p (j ∷ js) → last_lacks p (i ∷ cond y (new ++ j ∷ js) (j ∷ set_before new js)) ≡ last_lacks p (j ∷ js)
          behind j js true e = last-append p (i ∷ new) j js
          behind j js false e = e

          go : (y : Bool) → does is_terminator t i ≡ y → (is : List Instr) → last_lacks p (set_before new is) ≡ last_lacks p is → last_lacks p (cond y (new ++ i ∷ is) (i ∷ set_before new is)) ≡ last_lacks p (i ∷ is)
          go true e is ih = last-append p new i is
          go false e [] ih = last-none p (i ∷ new) (more-none i e) ∙ ap not (sym (less i e))
          go false e (j ∷ js) ih = behind j js (does is_terminator t j) ih

  placed-passes : (test : Effect → Bool) → ((i : Instr) → does is_terminator t i ≡ false → does test t i ≡ false) → (c : ℕ) (i : Instr) → does test t (in_place t c i) ≡ does test t i
  placed-passes test less c i = go (does is_phi t i) refl
    where
      go : (y : Bool) → does is_phi t i ≡ y → does test t (cond y (record i { op = ops.Known copy_op; operands = from_incoming c i.operands }) i) ≡ does test t i
      go true e = less (record i { op = ops.Known copy_op; operands = from_incoming c i.operands }) (copy-goes-on (record i { op = ops.Known copy_op; operands = from_incoming c i.operands }) refl) ∙ sym (less i (phi-goes-on i e))
      go false e = refl

  -- the end of a block is as it was
  module _ (new : List Instr) (none : (x : Instr) → Among x new → does is_terminator t x ≡ false) (n c : ℕ) (is : List Instr) where
    pub falls-same : falls_through t (numbered n (set_before new (all_in_place t c is))) ≡ falls_through t is
    falls-same =
        let p = does ends_control t in
        falls-last (numbered n (set_before new (all_in_place t c is)))
        ∙ (numbered-last p ends-last (placed-passes ends_control ends-last) (λ m i. refl) n (set_before new (all_in_place t c is))
        ∙ (set-last p ends-last (placed-passes ends_control ends-last) (λ m i. refl) new none (all_in_place t c is)
        ∙ (placed-last p ends-last (placed-passes ends_control ends-last) (λ m i. refl) c is ∙ sym (falls-last is))))

    pub open-same : ends_without_terminator t (numbered n (set_before new (all_in_place t c is))) ≡ ends_without_terminator t is
    open-same =
        let p = does is_terminator t in
        open-last (numbered n (set_before new (all_in_place t c is)))
        ∙ (numbered-last p (λ i e. e) (placed-passes is_terminator (λ i e. e)) (λ m i. refl) n (set_before new (all_in_place t c is))
        ∙ (set-last p (λ i e. e) (placed-passes is_terminator (λ i e. e)) (λ m i. refl) new none (all_in_place t c is)
        ∙ (placed-last p (λ i e. e) (placed-passes is_terminator (λ i e. e)) (λ m i. refl) c is ∙ sym (open-last is))))
