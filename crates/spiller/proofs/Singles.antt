-- What is known of the place of one instruction, and what becomes of it by its effect.
use Rattle.std.proofs.Common.{◌≡◌, ◌∙◌, ℕ, ◌+◌, zero, suc, Bool, true, false, cond, not, ◌&&◌, ◌||◌, List, [], ◌∷◌, Option, Some, None, refl, sym, ap, subst, eqb-true}
use Rattle.std.specs.Prelude.{pos, negsuc, slice_get, take, ℤ}
use Rattle.std.specs.List.{AllByRecursion, list_any}
use Rattle.target_base.specs.declared.types.Effect.{Effect}
use Rattle.target_base.specs.declared.types.Effect.TheVariants as effects
use Rattle.target_base.specs.declared.types.IndexId.{IndexId}
use Rattle.target_base.specs.declared.types.Role.{Role}
use Rattle.target_base.specs.declared.types.Role.TheVariants as roles
use Rattle.target_base.specs.declared.types.Target.{Target}
use Rattle.target_base.specs.Rules.{is_copy, is_implicit_def, is_reload, is_spill}
use Rattle.target_base.specs.Roles.{is_definition as is_definition_role, is_use as is_use_role, is_lanes, is_slot as is_slot_role}
use Rattle.meaning.specs.Live.{Among as Member, here as first, there as later}
use Rattle.mir_func.specs.declared.func.RegOp.{RegOp}
use Rattle.mir_func.specs.declared.func.Operand.{Operand}
use Rattle.mir_func.specs.declared.func.Operand.TheVariants as operands
use Rattle.mir_func.specs.declared.func.Instr.{Instr}
use Rattle.mir_func.specs.declared.func.Block.{Block}
use Rattle.mir_func.specs.Value.{Function}
use Rattle.mir_func.specs.Binding.{does, effect_of, is_lowered_away, is_terminator, passes, registers}
use Rattle.mir_meaning.specs.Points.{counts, is_range, touches}
use Rattle.mir_meaning.specs.Places.{Variable}
use Rattle.mir_meaning.specs.Rules.{V1, V8, copy_fits, fits_role, implicit_def_fits, is_zero, lanes_fit}
use Rattle.live_lanes.specs.Looks.{InOrder}
use Rattle.live_lanes.specs.Touching.{FindsInstrs}
use Rattle.live_laws.specs.Effects.Shaped.{IsShaped}
use Rattle.live_laws.proofs.Effects.Blocks.{slice-member}
use Rattle.live_laws.proofs.Exact.Everywhere.{spot-at}
use Rattle.live_laws.proofs.Exact.Inside.{inside-law}
use Rattle.live_laws.proofs.Touch.Roles.{TakeAll, fit, has_roles, reload-takes, spill-takes}
use Rattle.live_laws.proofs.Touch.Touched.{touched-law}
use Rattle.spiller.specs.declared.plan.SpillView.{SpillView}
use Rattle.spiller.specs.declared.remat.UseKey.{UseKey}
use Rattle.spiller.specs.Reaching.{Facts}
use Rattle.spiller.specs.Setting.{Spilling, is_own, lanes_named}
use Rattle.spiller.specs.Rematerialised.{copy_reading, is_needless, places_from, places_of, repeated_for, way_reading, ways_read}
use Rattle.spiller.specs.Spilled.{becomes, change, copy_change, effect_change, place_change, place_name, undefined_change}
use Rattle.spiller.specs.Views.{gap_behind, own_setting, spilling_of}
use Rattle.spiller.specs.Planned.{is_move_place, names_own}
use Rattle.spiller.specs.Seating.{IsBehind, IsGiven}
use Rattle.spiller.specs.Moving.{IsCopied, is_placed, reload_change, spill_change}
use Rattle.spiller.specs.Placing.{IsPlainForm, KnownPlace, LiveAlike, Spillable}
use Rattle.spiller.proofs.Known.{plain-form, repeated-there, tells-live}
use Rattle.spiller.proofs.PlaceOutcomes.{use-register, definition-register}

-- what an instruction of an effect becomes

pub copy-is : (s : Spilling) (n c : ℕ) (i : Instr) (d o : RegOp) → effect_of s.target i ≡ Some effects.Copy → i.operands ≡ operands.Reg d ∷ operands.Reg o ∷ [] → change s n c (i ∷ []) ≡ copy_change s n c i d o
copy-is s n c i d o e os = λ k. effect_change s n c i (e k) (os k)

pub spill-is : (s : Spilling) (n c : ℕ) (i : Instr) (o : RegOp) (slot : List Operand) → effect_of s.target i ≡ Some effects.Spill → i.operands ≡ operands.Reg o ∷ slot → change s n c (i ∷ []) ≡ spill_change s n c i o slot
spill-is s n c i o slot e os = λ k. effect_change s n c i (e k) (os k)

pub reload-is : (s : Spilling) (n c : ℕ) (i : Instr) (o : RegOp) (slot : List Operand) → effect_of s.target i ≡ Some effects.Reload → i.operands ≡ operands.Reg o ∷ slot → change s n c (i ∷ []) ≡ reload_change s n c i o slot
reload-is s n c i o slot e os = λ k. effect_change s n c i (e k) (os k)

pub undefined-is : (s : Spilling) (n c : ℕ) (i : Instr) (o : RegOp) → effect_of s.target i ≡ Some effects.ImplicitDef → i.operands ≡ operands.Reg o ∷ [] → change s n c (i ∷ []) ≡ undefined_change s i o
undefined-is s n c i o e os = λ k. effect_change s n c i (e k) (os k)

other : (s : Spilling) (n c : ℕ) (i : Instr) (e : Effect) (os : List Operand) → is_placed e ≡ true → effect_change s n c i (Some e) os ≡ cond (is_needless s i) (becomes []) (place_change s c (i ∷ []))
other s n c i effects.Copy os h = absurd (cc)
other s n c i effects.Spill os h = absurd (cc)
other s n c i effects.Reload os h = absurd (cc)
other s n c i effects.ImplicitDef os h = absurd (cc)
other s n c i e os h = refl

pub other-is : (s : Spilling) (n c : ℕ) (i : Instr) (e : Effect) → effect_of s.target i ≡ Some e → is_placed e ≡ true → change s n c (i ∷ []) ≡ cond (is_needless s i) (becomes []) (place_change s c (i ∷ []))
other-is s n c i e known h = ap (λ q. effect_change s n c i q i.operands) known ∙ other s n c i e i.operands h

-- operands of these effects

pub copy-shape : (os : List Operand) → copy_fits os ≡ true → (d o : RegOp) × (os ≡ operands.Reg d ∷ operands.Reg o ∷ [])
copy-shape (operands.Reg d ∷ operands.Reg o ∷ []) h = (d, o, refl)
copy-shape os h = absurd (cc)

pub undefined-shape : (os : List Operand) → implicit_def_fits os ≡ true → (o : RegOp) × (os ≡ operands.Reg o ∷ [])
undefined-shape (operands.Reg o ∷ []) h = (o, refl)
undefined-shape os h = absurd (cc)

slot-number : (r : Role) (x : Operand) → is_slot_role r ≡ true → fits_role r x ≡ true → (m : ℕ) × (x ≡ operands.Stack m)
slot-number roles.Slot (operands.Stack m) g h = (m, refl)
slot-number r x g h = absurd (cc)

zero-is : (z : ℤ) → is_zero z ≡ true → z ≡ pos 0
zero-is (pos n) h = ap pos (eqb-true n 0 h)
zero-is (negsuc n) h = absurd (cc)

lanes-index : (f : Function) (t : Target) (o : RegOp) (s : Operand) (r : Role) (x : Operand) → is_lanes r ≡ true → fits_role r x ≡ true → lanes_fit t f (operands.Reg o ∷ s ∷ x ∷ []) ≡ true → (y : Option IndexId) × (x ≡ lanes_named y)
lanes-index f t o s roles.Lanes (operands.Imm z) g h l = (None, ap operands.Imm (zero-is z l))
lanes-index f t o s roles.Lanes (operands.Index y) g h l = (Some y, refl)
lanes-index f t o s r x g h l = absurd (cc)

-- a register, a slot and lanes of it
abbrev pub IsSlotAccess : List Operand → Type 0
IsSlotAccess os = (o : RegOp) × (m : ℕ) × (x : Option IndexId) × (os ≡ operands.Reg o ∷ operands.Stack m ∷ lanes_named x ∷ [])

accessed : (t : Target) (f : Function) (test : Role → Bool) (os : List Operand) → ((r : Role) (x : Operand) → test r ≡ true → fits_role r x ≡ true → (o : RegOp) × (x ≡ operands.Reg o)) → TakeAll (test ∷ is_slot_role ∷ is_lanes ∷ []) os → lanes_fit t f os ≡ true → IsSlotAccess os
accessed t f test [] reg h l = absurd h
accessed t f test (a ∷ []) reg h l = absurd h.1
accessed t f test (a ∷ b ∷ []) reg h l = absurd h.1.1
accessed t f test (a ∷ b ∷ c ∷ d ∷ os) reg h l = absurd h.1.1.1
accessed t f test (a ∷ b ∷ c ∷ []) reg h l =
    let o = reg h.0.0 a h.0.1 h.0.2 in
    let m = slot-number h.1.0.0 b h.1.0.1 h.1.0.2 in
    let x = lanes-index f t o.0 (operands.Stack m.0) h.1.1.0.0 c h.1.1.0.1 h.1.1.0.2 (subst (λ y. lanes_fit t f (y ∷ operands.Stack m.0 ∷ c ∷ []) ≡ true) o.1 (subst (λ y. lanes_fit t f (a ∷ y ∷ c ∷ []) ≡ true) m.1 l)) in
    (o.0, m.0, x.0, λ k. o.1 k ∷ m.1 k ∷ x.1 k ∷ [])

pub spill-shape : (t : Target) (f : Function) (i : Instr) → V1 t f i ≡ true → effect_of t i ≡ Some effects.Spill → IsSlotAccess i.operands
spill-shape t f i one known = accessed t f is_use_role i.operands use-register (spill-takes t f i one known) (fit t f i effects.Spill known one refl).values

pub reload-shape : (t : Target) (f : Function) (i : Instr) → V1 t f i ≡ true → effect_of t i ≡ Some effects.Reload → IsSlotAccess i.operands
reload-shape t f i one known = accessed t f is_definition_role i.operands definition-register (reload-takes t f i one known) (fit t f i effects.Reload known one refl).values

-- an instruction that touches the range names it

named-of : (v : ℕ) (os : List RegOp) → list_any (λ o. is_range v o.loc && counts o) os ≡ true → list_any (λ o. is_range v o.loc) os ≡ true
named-of v [] h = absurd (cc)
named-of v (o ∷ os) h = go (is_range v o.loc) h (named-of v os)
  where
    go : (b : Bool) → ((b && counts o) || list_any (λ o. is_range v o.loc && counts o) os) ≡ true → (list_any (λ o. is_range v o.loc && counts o) os ≡ true → list_any (λ o. is_range v o.loc) os ≡ true) → (b || list_any (λ o. is_range v o.loc) os) ≡ true
    go true g ih = refl
    go false g ih = ih g

pub touched-named : (s : Spilling) (i : Instr) → touches s.range i ≡ true → names_own s i ≡ true
touched-named s i h = named-of s.range (registers i.operands) h

pub one-own : (s : Spilling) (i : Instr) (o : RegOp) → registers i.operands ≡ o ∷ [] → names_own s i ≡ true → is_own s o ≡ true
one-own s i o e h = go (is_own s o) (subst (λ os. list_any (is_own s) os ≡ true) e h)
  where
    go : (b : Bool) → (b || false) ≡ true → b ≡ true
    go true g = refl
    go false g = g

pub access-registers : (o : RegOp) (m : ℕ) (x : Option IndexId) → registers (operands.Reg o ∷ operands.Stack m ∷ lanes_named x ∷ []) ≡ o ∷ []
access-registers o m None = refl
access-registers o m (Some x) = refl

-- the place of an instruction that is no terminator

single-from : (t : Target) (is : List Instr) (j : ℕ) (i : Instr) → slice_get is j ≡ Some i → list_any (does is_terminator t) (take j is) ≡ false → does is_terminator t i ≡ false → Member (i ∷ []) (places_from t is)
single-from t [] j i e h g = absurd (cc)
single-from t (x ∷ is) zero i e h g = let same : x ≡ i = cc in subst (λ y. Member (i ∷ []) (cond (does is_terminator t y) ((y ∷ is) ∷ []) ((y ∷ []) ∷ places_from t is))) (sym same) (subst (λ b. Member (i ∷ []) (cond b ((i ∷ is) ∷ []) ((i ∷ []) ∷ places_from t is))) (sym g) first)
single-from t (x ∷ is) (suc j) i e h g = go (does is_terminator t x) h (λ k. single-from t is j i e k g)
  where
    go : (b : Bool) → (b || list_any (does is_terminator t) (take j is)) ≡ false → (list_any (does is_terminator t) (take j is) ≡ false → Member (i ∷ []) (places_from t is)) → Member (i ∷ []) (cond b ((x ∷ is) ∷ []) ((x ∷ []) ∷ places_from t is))
    go true k ih = absurd (cc)
    go false k ih = later (ih k)

none-before : (a c : Bool) → a ≡ false → (a || not c) ≡ true → c ≡ false
none-before true c e h = absurd (cc)
none-before false true e h = absurd (cc)
none-before false false e h = refl

-- no terminator stands before it
before-none : (t : Target) (b : Block) (j : ℕ) (i : Instr) → V8 t b j i ≡ true → does is_terminator t i ≡ false → list_any (does is_terminator t) (take j b.instrs) ≡ false
unfolding V8
before-none t b j i h g = none-before (does is_terminator t i) (list_any (does is_terminator t) (take j b.instrs)) g h

module _ (view : SpillView) (facts : Facts) (answer : UseKey → Option ℕ) (goes : ℕ → Bool) (w : Spillable view facts answer goes) where
  abbrev t : Target
  t = view.target.now

  abbrev f : Function
  f = view.live.now.func

  abbrev s : Spilling
  s = spilling_of view view.slot facts

  pub finds : FindsInstrs view.live.now.table f.blocks
  finds = (touched-law t f view.live.now.table w.may.computed w.may.lowered.rules w.may.last w.may.phis w.may.known).finds

  pub ordered : InOrder view.live.now.table
  ordered = (inside-law t f view.live.now.table w.may.computed w.may.lowered.rules w.may.last).ordered

  module _ (p j : ℕ) (b : Block) (i : Instr) (is_block : slice_get f.blocks p ≡ Some b) (is_instr : slice_get b.instrs j ≡ Some i) where
    pub block-in : Member b f.blocks
    block-in = slice-member f.blocks p b is_block

    pub instr-in : Member i b.instrs
    instr-in = slice-member b.instrs j i is_instr

    pub shaped : IsShaped t f i
    shaped = w.may.lowered.rules.shaped b i block-in instr-in

    pub behind : IsBehind view i.id (gap_behind b (slice_get b.instrs (j + 1)))
    behind = record { position = p; place = j; block = b; instr = i; finds = finds; is_block = is_block; is_instr = is_instr; named = refl; is_gap = refl }

    pub live : LiveAlike facts (own_setting view).facts i
    live k =
        let z = spot-at t f view.live.now.table w.may.computed w.may.lowered.rules w.may.last p b i is_block instr-in in
        tells-live t f view.live.now.table view.v facts i p z.0 w.are (inside-law t f view.live.now.table w.may.computed w.may.lowered.rules w.may.last) z.1 k

    pub form : (e : Effect) → effect_of t i ≡ Some e → has_roles e ≡ true → IsPlainForm i
    form e known rolled = plain-form t f i e shaped known rolled

  pub given : (b : Block) (is : List Instr) → Member b f.blocks → Member is (places_of t b) → is_move_place s is ≡ false → (ws : List Variable) → ((x : Variable) → Member x ws → Member x (ways_read s is))
      → AllByRecursion (IsGiven f answer (place_name is) (λ x. repeated_for s (way_reading s is x))) ws
  given b is m q n [] among = tt
  given b is m q n (x ∷ ws) among = ((w.tells.ways b is x m q n (among x first), λ d e. repeated-there s (way_reading s is x) d e), given b is m q n ws (λ y h. among y (later h)))

  -- the place of one instruction with tinies

  rolled-of : (e : Effect) → is_placed e ≡ true → not (is_lowered_away e) ≡ true → has_roles e ≡ true
  rolled-of effects.Copy h g = absurd (cc)
  rolled-of effects.ImplicitDef h g = absurd (cc)
  rolled-of effects.Phi h g = absurd (cc)
  rolled-of effects.RegSequence h g = absurd (cc)
  rolled-of effects.InsertSubreg h g = absurd (cc)
  rolled-of e h g = refl

  still : (e : Effect) → is_placed e ≡ true → (elim (Some e) as (λ q. Bool) [ None ↦ false | Some effects.Copy ↦ true | Some effects.Spill ↦ true | Some x ↦ false ]) ≡ false
  still effects.Copy h = absurd (cc)
  still effects.Spill h = absurd (cc)
  still e h = refl

  module _ (p j : ℕ) (b : Block) (i : Instr) (is_block : slice_get f.blocks p ≡ Some b) (is_instr : slice_get b.instrs j ≡ Some i) where
    pub single-known : (e : Effect) → effect_of t i ≡ Some e → does is_terminator t i ≡ false → is_placed e ≡ true → KnownPlace view facts answer (i ∷ []) i.id (gap_behind b (slice_get b.instrs (j + 1)))
    single-known e known plain placed =
        let lowered : not (is_lowered_away e) ≡ true = subst (λ q. passes (λ x. not (is_lowered_away x)) q ≡ true) known (w.may.lowered.lowered b i (block-in p j b i is_block is_instr) (instr-in p j b i is_block is_instr)) in
        let none = before-none t b j i (w.may.lowered.terminators b j i (block-in p j b i is_block is_instr) is_instr) plain in
        let m = single-from t b.instrs j i is_instr none plain in
        let moves : is_move_place s (i ∷ []) ≡ false = ap (λ q. elim q as (λ q. Bool) [ None ↦ false | Some effects.Copy ↦ true | Some effects.Spill ↦ true | Some x ↦ false ]) known ∙ still e placed in
        record {
          finds = finds;
          ordered = ordered;
          behind = behind p j b i is_block is_instr;
          forms = (form p j b i is_block is_instr e known (rolled-of e placed lowered), tt);
          live = (live p j b i is_block is_instr, tt);
          given = given b (i ∷ []) (block-in p j b i is_block is_instr) m moves (ways_read s (i ∷ [])) (λ x h. h);
        }

-- effects by their tests

pub copy-effect : (e : Effect) → is_copy e ≡ true → e ≡ effects.Copy
copy-effect effects.Copy h = refl
copy-effect e h = absurd (cc)

pub spill-effect : (e : Effect) → is_spill e ≡ true → e ≡ effects.Spill
spill-effect effects.Spill h = refl
spill-effect e h = absurd (cc)

pub reload-effect : (e : Effect) → is_reload e ≡ true → e ≡ effects.Reload
reload-effect effects.Reload h = refl
reload-effect e h = absurd (cc)

pub undefined-effect : (e : Effect) → is_implicit_def e ≡ true → e ≡ effects.ImplicitDef
undefined-effect effects.ImplicitDef h = refl
undefined-effect e h = absurd (cc)

pub other-effect : (e : Effect) → is_copy e ≡ false → is_spill e ≡ false → is_reload e ≡ false → is_implicit_def e ≡ false → is_placed e ≡ true
other-effect effects.Copy a b c d = absurd (cc)
other-effect effects.Spill a b c d = absurd (cc)
other-effect effects.Reload a b c d = absurd (cc)
other-effect effects.ImplicitDef a b c d = absurd (cc)
other-effect e a b c d = refl

-- a copy of the range
pub copied-known : (view : SpillView) (facts : Facts) (answer : UseKey → Option ℕ) (goes : ℕ → Bool) (w : Spillable view facts answer goes) (p j : ℕ) (b : Block) (i : Instr) → slice_get view.live.now.func.blocks p ≡ Some b → slice_get b.instrs j ≡ Some i → (d o : RegOp) → effect_of view.target.now i ≡ Some effects.Copy → i.operands ≡ operands.Reg d ∷ operands.Reg o ∷ [] → is_own (spilling_of view view.slot facts) o ≡ true
    → IsCopied view answer i.id (repeated_for (spilling_of view view.slot facts) (copy_reading (spilling_of view view.slot facts) i d o))
copied-known view facts answer goes w p j b i is_block is_instr d o known are own = record {
  finds = finds view facts answer goes w;
  is_source = w.tells.copies b i d o (block-in view facts answer goes w p j b i is_block is_instr) (instr-in view facts answer goes w p j b i is_block is_instr) known are own;
  there = λ x e. repeated-there (spilling_of view view.slot facts) (copy_reading (spilling_of view view.slot facts) i d o) x e;
}

-- an instruction of another effect goes, or gets tinies

pub needless-is : (s : Spilling) (n c : ℕ) (i : Instr) (e : Effect) → effect_of s.target i ≡ Some e → is_placed e ≡ true → is_needless s i ≡ true → change s n c (i ∷ []) ≡ becomes []
needless-is s n c i e known placed needless = other-is s n c i e known placed ∙ ap (λ b. cond b (becomes []) (place_change s c (i ∷ []))) needless

pub needed-is : (s : Spilling) (n c : ℕ) (i : Instr) (e : Effect) → effect_of s.target i ≡ Some e → is_placed e ≡ true → is_needless s i ≡ false → change s n c (i ∷ []) ≡ place_change s c (i ∷ [])
needed-is s n c i e known placed needed = other-is s n c i e known placed ∙ ap (λ b. cond b (becomes []) (place_change s c (i ∷ []))) needed

-- its opcode is a known one
pub has-effect : (view : SpillView) (facts : Facts) (answer : UseKey → Option ℕ) (goes : ℕ → Bool) (w : Spillable view facts answer goes) (p j : ℕ) (b : Block) (i : Instr) → slice_get view.live.now.func.blocks p ≡ Some b → slice_get b.instrs j ≡ Some i → effect_of view.target.now i ≡ None → ⊥
has-effect view facts answer goes w p j b i is_block is_instr none =
    let h : passes (λ e. not (is_lowered_away e)) None ≡ true = subst (λ q. passes (λ e. not (is_lowered_away e)) q ≡ true) none (w.may.lowered.lowered b i (block-in view facts answer goes w p j b i is_block is_instr) (instr-in view facts answer goes w p j b i is_block is_instr)) in
    let z : false ≡ true = h in cc
