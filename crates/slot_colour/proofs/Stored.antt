-- What instructions write of slots: stores alone do, and what is entered of a store is of the lanes that it stores to.
use Rattle.std.proofs.Common.{◌≡◌, ◌≤◌, ℕ, zero, suc, Bool, true, false, cond, not, ◌||◌, List, [], ◌∷◌, ◌++◌, Option, Some, None, map, length, refl, sym, ap, subst, append-nil, eqb-true, arith}
use Rattle.std.specs.Prelude.{◌==◌}
use Rattle.target_base.specs.declared.types.Effect.{Effect}
use Rattle.target_base.specs.declared.types.Effect.TheVariants as effects
use Rattle.target_base.specs.declared.types.IndexId.{IndexId}
use Rattle.target_base.specs.declared.types.Target.{Target}
use Rattle.target_base.specs.Registers.{lanes_of}
use Rattle.target_base.specs.Roles.{is_silent}
use Rattle.target_base.specs.Rules.{is_phi}
use Rattle.target_base.proofs.Tests.{second_of_both}
use Rattle.meaning.specs.declared.types.Lane.{Lane}
use Rattle.meaning.specs.declared.types.Source.{Source}
use Rattle.meaning.specs.declared.types.Source.TheVariants.{FromLane}
use Rattle.meaning.specs.declared.types.Write.{Write}
use Rattle.meaning.specs.Lanes.{Writes}
use Rattle.meaning.specs.Code.{Item, Silent}
use Rattle.meaning.specs.Live.{Among as Member, here as first, writes_of, is_slot}
use Rattle.mir_func.specs.declared.func.RegOp.{RegOp}
use Rattle.mir_func.specs.declared.func.Operand.{Operand}
use Rattle.mir_func.specs.declared.func.Operand.TheVariants as operands
use Rattle.mir_func.specs.declared.func.Instr.{Instr}
use Rattle.mir_func.specs.declared.func.Block.{Block}
use Rattle.mir_func.specs.Value.{Function}
use Rattle.mir_func.specs.Binding.{registers, effect_of, roles_of, is_early_clobber, passes}
use Rattle.mir_meaning.specs.Registers.{numbers, located_lanes, operand_lanes, operand_widths, undefined_lanes, use_sources, slot_lane_numbers}
use Rattle.mir_meaning.specs.Items.{moved, undefined, defined, copied, reloaded, spilled, parts, sequenced, inserted, defined_undef, given_constant, constant_lanes, constant_of, lanes_beside, at_all_widths}
use Rattle.mir_meaning.specs.Codes.{item_of, effect_item}
use Rattle.mir_meaning.specs.Points.{point_item}
use Rattle.mir_meaning.specs.Rules.{has_lanes, lanes_fit, spills_or_reloads}
use Rattle.mir_meaning.specs.Stands.{Tags}
use Rattle.instr_effects.specs.Owners.{owner_of}
use Rattle.instr_effects.specs.Acts.{entered_writes, effect_acts, filled_whole, stored}
use Rattle.instr_effects.specs.Steps.{Numbering}
use Rattle.instr_effects.specs.Stepping.{tag_of, NamesTagged}
use Rattle.instr_effects.proofs.Members.{member-none, either-elim, left-in}
use Rattle.instr_effects.proofs.CountedSteps.{counted-law}
use Rattle.live_laws.specs.Effects.Shaped.{is_proper, IsShaped, SlotsTagged}
use Rattle.live_laws.specs.Effects.Coded.{KeepsRules, IsNumbered}
use Rattle.live_laws.proofs.Effects.Moved.{moved-of, undefined-lane}
use Rattle.live_laws.proofs.Effects.Flags.{uniform-moved, uniform-undefined, uniform-join}
use Rattle.live_laws.proofs.Effects.Shapes.{fits-of, lanes-there}
use Rattle.live_laws.proofs.Effects.Silent.{Named, located-still, others-still, spill-given}

-- none of these writes is of a slot
abbrev Still : Writes → Type 0
Still ws = (w : Write) → Member w ws → is_slot w.lane ≡ false

still-none : Still []
still-none w m = absurd (member-none w m)

still-join : (ws vs : Writes) → Still ws → Still vs → Still (ws ++ vs)
still-join ws vs f g w m = either-elim w ws vs (λ k. f w k) (λ k. g w k) m

still-moved : (early : Bool) (ls : List Lane) (ss : List Source) → ((l : Lane) → Member l ls → is_slot l ≡ false) → Still (moved early ls ss)
still-moved early ls ss h w m = h w.lane (moved-of early w ls ss m).1

still-undefined : (early : Bool) (ls : List Lane) → ((l : Lane) → Member l ls → is_slot l ≡ false) → Still (undefined early ls)
still-undefined early ls h w m = h w.lane (undefined-lane early w ls m)

module _ (t : Target) (f : Function) where
  operand-still : (o : RegOp) (l : Lane) → Member l (operand_lanes t f o) → is_slot l ≡ false
  operand-still o l m = located-still t f o.loc o.index l m

  still-defined : (early : Bool) (d : RegOp) (ss : List Source) → Still (defined t f early d ss)
  still-defined early d ss =
      still-join (moved early (operand_lanes t f d) ss) (undefined early (undefined_lanes t f d))
      (still-moved early (operand_lanes t f d) ss (operand-still d)) (still-undefined early (undefined_lanes t f d) (others-still t f d))

  still-copied : (os : List Operand) → Still (copied t f os)
  still-copied [] = still-none
  still-copied (operands.Reg d ∷ operands.Reg s ∷ os) = still-defined false d (use_sources t f s)
  still-copied os = still-none

  still-undef : (os : List Operand) → Still (defined_undef t f os)
  still-undef [] = still-none
  still-undef (operands.Reg d ∷ os) =
      still-undefined false (operand_lanes t f d ++ undefined_lanes t f d)
      (λ l m. either-elim l (operand_lanes t f d) (undefined_lanes t f d) (λ k. operand-still d l k) (λ k. others-still t f d l k) m)
  still-undef os = still-none

  still-constant : (early : Bool) (os : List Operand) → Still (given_constant t f early os)
  still-constant early [] = still-none
  still-constant early (operands.Reg d ∷ []) = still-none
  still-constant early (operands.Reg d ∷ o ∷ os) = still-defined early d (constant_lanes t f d (constant_of _ o))
  still-constant early os = still-none

  still-part : (d s : RegOp) (x : Option IndexId) → Still (moved false (located_lanes t f d.loc x) (use_sources t f s))
  still-part d s x = still-moved false (located_lanes t f d.loc x) (use_sources t f s) (λ l m. located-still t f d.loc x l m)

  still-parts : (d : RegOp) (os : List Operand) → Still (parts t f d os)
  still-parts d [] = still-none
  still-parts d (operands.Reg s ∷ operands.Index x ∷ os) =
      still-join (moved false (located_lanes t f d.loc (Some x)) (use_sources t f s)) (parts t f d os) (still-part d s (Some x)) (still-parts d os)
  still-parts d os = still-none

  still-sequenced : (os : List Operand) → Still (sequenced t f os)
  still-sequenced [] = still-none
  still-sequenced (operands.Reg d ∷ os) =
      still-join (parts t f d os) (undefined false (operand_lanes t f d)) (still-parts d os) (still-undefined false (operand_lanes t f d) (operand-still d))
  still-sequenced os = still-none

  still-inserted : (os : List Operand) → Still (inserted t f os)
  still-inserted [] = still-none
  still-inserted (operands.Reg d ∷ operands.Reg a ∷ operands.Reg b ∷ operands.Index x ∷ os) =
      still-join (moved false (located_lanes t f d.loc (Some x)) (use_sources t f b)) (moved false (operand_lanes t f d) (use_sources t f a))
      (still-part d b (Some x)) (still-moved false (operand_lanes t f d) (use_sources t f a) (operand-still d))
  still-inserted os = still-none

  still-filled : (os : List Operand) → Still (filled_whole t f os)
  still-filled [] = still-none
  still-filled (operands.Reg d ∷ os) = still-undefined false (operand_lanes t f d) (operand-still d)
  still-filled os = still-none

  still-reloaded : (early : Bool) (os : List Operand) → Still (reloaded t f early os)
  still-reloaded early [] = still-none
  still-reloaded early (operands.Reg o ∷ operands.Stack s ∷ k ∷ os) = still-defined early o (map FromLane (lanes_beside t f o s k))
  still-reloaded early os = still-none

numbers-long : (n k : ℕ) → length (numbers n k) ≡ k
numbers-long n zero = refl
numbers-long n (suc k) = ap (λ m. suc m) (numbers-long (suc n) k)

-- a slot has no more lanes than the register beside it
few-lanes : (t : Target) (f : Function) (o : RegOp) (s : ℕ) (k : Operand) (os : List Operand) → has_lanes t f o ≡ true → lanes_fit t f (operands.Reg o ∷ operands.Stack s ∷ k ∷ os) ≡ true → length (slot_lane_numbers t (operand_widths t f o) k) ≤ length (operand_widths t f o)
few-lanes t f o s (operands.Index x) os h e = go (has_lanes t f o) h e
  where
    go : (b : Bool) → b ≡ true → (not b || length (lanes_of t x) == length (operand_widths t f o)) ≡ true → length (lanes_of t x) ≤ length (operand_widths t f o)
    go true h e = let g : length (lanes_of t x) ≡ length (operand_widths t f o) = eqb-true (length (lanes_of t x)) (length (operand_widths t f o)) e in omega arith
    go false h e = absurd (cc)
few-lanes t f o s k os h e = let g = numbers-long 0 (length (operand_widths t f o)) in omega (arith, g)

-- What an item writes of slots, and what is entered for it: lanes of the same owners, which have numbers. None is written early.
pub record SameSlots (tag : Tags) (W E : Writes) : Type 0 where
  pub forth : (w : Write) → Member w W → is_slot w.lane ≡ true → (v : Write) × (n : ℕ) × Member v E × (owner_of v.lane ≡ owner_of w.lane) × (tag v.lane ≡ Some n)
  pub back : (v : Write) → Member v E → is_slot v.lane ≡ true → (w : Write) × Member w W × (w.lane ≡ v.lane)
  pub late : (w : Write) → Member w W → is_slot w.lane ≡ true → w.early ≡ false
  pub entered_late : (v : Write) → Member v E → is_slot v.lane ≡ true → v.early ≡ false

module _ (tag : Tags) where
  still-same : (W E : Writes) → Still W → Still E → SameSlots tag W E
  still-same W E f g = record {
    forth = λ w m e. absurd (let h = f w m in cc);
    back = λ v m e. absurd (let h = g v m in cc);
    late = λ w m e. absurd (let h = f w m in cc);
    entered_late = λ v m e. absurd (let h = g v m in cc);
  }

  module _ (t : Target) (f : Function) (proper : (l : Lane) (n : ℕ) → tag l ≡ Some n → is_proper t l ≡ true) where
    abbrev Slots : List Operand → Type 0
    Slots os = (o : RegOp) (s : ℕ) (k : Operand) (rest : List Operand) (l : Lane) → os ≡ operands.Reg o ∷ operands.Stack s ∷ k ∷ rest → Member l (lanes_beside t f o s k) → (n : ℕ) × (tag l ≡ Some n)

    nothing : SameSlots tag [] []
    nothing = still-same [] [] still-none still-none

    -- a store
    spill-same : (os : List Operand) → Named t f tag os → Slots os → ((o : RegOp) → Member o (registers os) → has_lanes t f o ≡ true) → lanes_fit t f os ≡ true → SameSlots tag (spilled t f os) (stored t f os)
    spill-same [] n h g e = nothing
    spill-same (operands.Reg o ∷ operands.Stack s ∷ k ∷ os) n h g e =
        let M = moved false (lanes_beside t f o s k) (use_sources t f o) in
        let U = undefined false (at_all_widths t s (slot_lane_numbers t (operand_widths t f o) k)) in
        let slots : (l : Lane) → Member l (lanes_beside t f o s k) → (n : ℕ) × (tag l ≡ Some n) = λ l m. h o s k os l refl m in
        let given = spill-given t f tag proper (Silent [] (M ++ U)) o s k (operands.Stack s ∷ k ∷ os) n slots (few-lanes t f o s k os (g o first) e) in
        let none-early = uniform-moved false (lanes_beside t f o s k) (use_sources t f o) in
        record {
          forth = λ w m a.
              let z = given.covered w m in
              let j = subst (Member z.0) (append-nil M) z.1 in
              let y = slots z.0.lane (moved-of false z.0 (lanes_beside t f o s k) (use_sources t f o) j).1 in
              (z.0, y.0, j, z.2, y.1);
          back = λ v m a. (v, left-in v M U m, refl);
          late = λ w m a. uniform-join false M U none-early (uniform-undefined false (at_all_widths t s (slot_lane_numbers t (operand_widths t f o) k))) w m;
          entered_late = λ v m a. none-early v m;
        }
    spill-same os n h g e = nothing

  -- an instruction, by its effect

  module _ (t : Target) (f : Function) (proper : (l : Lane) (n : ℕ) → tag l ≡ Some n → is_proper t l ≡ true) (b : Block) (i : Instr) (shaped : IsShaped t f i) (named : NamesTagged t f tag i) (slots : SlotsTagged t f tag i) where
    abbrev early : Bool
    early = is_early_clobber (roles_of t i)

    abbrev placed : Effect → Item
    placed e = cond (is_phi e) (Silent [] (defined_undef t f i.operands)) (effect_item t f b i e)

    abbrev acts : Effect → Writes
    acts e = effect_acts t f e (roles_of t i) i.operands

    silent-same : (e : Effect) → effect_of t i ≡ Some e → is_silent e ≡ true → SameSlots tag (writes_of (placed e)) (acts e)
    silent-same effects.Copy known h = still-same (copied t f i.operands) (copied t f i.operands) (still-copied t f i.operands) (still-copied t f i.operands)
    silent-same effects.Phi known h = still-same (defined_undef t f i.operands) (defined_undef t f i.operands) (still-undef t f i.operands) (still-undef t f i.operands)
    silent-same effects.ImplicitDef known h = still-same (defined_undef t f i.operands) (defined_undef t f i.operands) (still-undef t f i.operands) (still-undef t f i.operands)
    silent-same effects.RegSequence known h = still-same (sequenced t f i.operands) (filled_whole t f i.operands) (still-sequenced t f i.operands) (still-filled t f i.operands)
    silent-same effects.InsertSubreg known h = still-same (inserted t f i.operands) (filled_whole t f i.operands) (still-inserted t f i.operands) (still-filled t f i.operands)
    silent-same effects.Const known h = still-same (given_constant t f early i.operands) (given_constant t f early i.operands) (still-constant t f early i.operands) (still-constant t f early i.operands)
    silent-same effects.Addr known h = still-same (given_constant t f early i.operands) (given_constant t f early i.operands) (still-constant t f early i.operands) (still-constant t f early i.operands)
    silent-same effects.Spill known h =
        let d = fits-of t f i effects.Spill known shaped.operands in
        spill-same t f proper i.operands named.lanes (λ o s k rest l g m. slots o s k rest l (ap (passes spills_or_reloads) known) g m) (lanes-there t f i shaped) (second_of_both _ _ d.1)
    silent-same effects.Reload known h = still-same (reloaded t f early i.operands) (reloaded t f early i.operands) (still-reloaded t f early i.operands) (still-reloaded t f early i.operands)
    silent-same e known h = absurd (cc)

    point-is : (q : Option Effect) → effect_of t i ≡ q → point_item t f b i ≡ cond (passes is_phi q) (Silent [] (defined_undef t f i.operands)) (elim q [ None ↦ Silent [] [] | Some e ↦ effect_item t f b i e ])
    unfolding point_item item_of
    point-is q known = ap (λ (o : Option Effect). cond (passes is_phi o) (Silent [] (defined_undef t f i.operands)) (elim o [ None ↦ Silent [] [] | Some e ↦ effect_item t f b i e ])) known

    acts-are : (q : Option Effect) → effect_of t i ≡ q → entered_writes t f i ≡ elim q [ None ↦ [] | Some e ↦ acts e ]
    unfolding entered_writes
    acts-are q known = ap (λ (o : Option Effect). elim o [ None ↦ [] | Some e ↦ acts e ]) known

    swap : (x y : Item) (ws vs : Writes) → x ≡ y → ws ≡ vs → SameSlots tag (writes_of y) vs → SameSlots tag (writes_of x) ws
    swap x y ws vs p q g = subst (λ a. SameSlots tag (writes_of a) ws) (sym p) (subst (λ a. SameSlots tag (writes_of y) a) (sym q) g)

    by-kind : (e : Effect) → effect_of t i ≡ Some e → (u : Bool) → is_silent e ≡ u → SameSlots tag (writes_of (point_item t f b i)) (entered_writes t f i)
    by-kind e known true h = swap (point_item t f b i) (placed e) (entered_writes t f i) (acts e) (point-is (Some e) known) (acts-are (Some e) known) (silent-same e known h)
    by-kind e known false h =
        let plain = counted-law t f tag b i e known h named in
        still-same (writes_of (point_item t f b i)) (entered_writes t f i) (λ w m. plain.still w m) (λ v m. plain.unslotted v m)

    go : (q : Option Effect) → effect_of t i ≡ q → SameSlots tag (writes_of (point_item t f b i)) (entered_writes t f i)
    go None known = swap (point_item t f b i) (Silent [] []) (entered_writes t f i) [] (point-is None known) (acts-are None known) (still-same [] [] still-none still-none)
    go (Some e) known = by-kind e known (is_silent e) refl

    instr-same : SameSlots tag (writes_of (point_item t f b i)) (entered_writes t f i)
    instr-same = go (effect_of t i) refl

-- lanes that have numbers are proper
tagged-proper : (num : Numbering) (t : Target) (l : Lane) (n : ℕ) → tag_of num (is_proper t) l ≡ Some n → is_proper t l ≡ true
tagged-proper num t l n e = go (is_proper t l) e
  where
    go : (b : Bool) → cond b (num (owner_of l)) None ≡ Some n → b ≡ true
    go true f = refl
    go false f = absurd (cc)

pub same-slots : (t : Target) (f : Function) (num : Numbering) → KeepsRules t f → IsNumbered t f num → (b : Block) (i : Instr) → Member b f.blocks → Member i b.instrs → SameSlots (tag_of num (is_proper t)) (writes_of (point_item t f b i)) (entered_writes t f i)
same-slots t f num rules numbered b i mb mi = instr-same (tag_of num (is_proper t)) t f (tagged-proper num t) b i (rules.shaped b i mb mi) (numbered.names b i mb mi) (numbered.slots b i mb mi)
