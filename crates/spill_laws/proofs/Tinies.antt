-- Lanes that go from slot to slot through a tiny: its reload and its store keep the rules.
use Rattle.std.proofs.Common.{◌≡◌, ◌∙◌, ◌&&◌, ◌||◌, not, ℕ, Bool, true, false, List, [], ◌∷◌, Option, Some, None, length, map, refl, sym, ap, subst, eq-eqb, eqb-true}
use Rattle.std.specs.Prelude.{◌==◌, is_some, option_and_then, slice_index}
use Rattle.target_base.specs.declared.types.ClassId.{ClassId}
use Rattle.target_base.specs.declared.types.Effect.TheVariants as effects
use Rattle.target_base.specs.declared.types.IndexId.{IndexId}
use Rattle.target_base.specs.declared.types.Target.{Target}
use Rattle.target_base.specs.Registers.{IsClass, fits, lanes_of, move_class, regs_of, widths_of, widths_of_some}
use Rattle.target_base.proofs.Tests.{first_of_both}
use Rattle.meaning.specs.Live.{Among as Member, here as first, there as later}
use Rattle.mir_func.specs.declared.func.Loc.{Loc}
use Rattle.mir_func.specs.declared.func.Loc.TheVariants.{Virtual}
use Rattle.mir_func.specs.declared.func.RegOp.{RegOp}
use Rattle.mir_func.specs.declared.func.Operand.{Operand}
use Rattle.mir_func.specs.declared.func.Operand.TheVariants as operands
use Rattle.mir_func.specs.declared.func.Instr.{Instr}
use Rattle.mir_func.specs.Value.{Function}
use Rattle.mir_func.specs.Binding.{class_of, effect_of, passes, registers}
use Rattle.mir_meaning.specs.Registers.{located_widths, operand_widths}
use Rattle.mir_meaning.specs.Rules.{has_class, has_home, has_lanes, index_fits, lanes_fit, lies_in, same_widths, widths_fit}
use Rattle.live_laws.specs.Effects.Shaped.{AreClasses, IsShaped}
use Rattle.live_laws.proofs.Effects.Shapes.{class-there, index-there, lanes-there, same-lanes, widths-of}
use Rattle.live_laws.proofs.Touch.Roles.{fit}
use Rattle.lowering_laws.proofs.Widths.{through_index}
use Rattle.spiller.specs.Setting.{Spilling, in_own_slot, is_own, moving_class, plain_definition, plain_use, reload, store}
use Rattle.spill_laws.specs.Laws.{IsInForm, LiesIn, PassesKeepRules}
use Rattle.spill_laws.proofs.Classes.{move-of, within-self}
use Rattle.spill_laws.proofs.Copies.{index-long, own-long, range-is, reload-good, store-good}
use Rattle.spill_laws.proofs.Opcodes.{IsSlot, own-slot, reload-slot, spill-slot}

or-true : (b : Bool) → (b || true) ≡ true
or-true true = refl
or-true false = refl

module _ (t : Target) (g : Function) (c : ℕ) where
  -- a new range lies in its class
  pub tiny-lies : (k : ClassId) → class_of g c ≡ Some k → IsClass t k → LiesIn t g k (Virtual c) None
  tiny-lies k e h = record {
    known = h;
    class = ap is_some e;
    index = ap (λ q. elim q as (λ q. Bool) [ None ↦ true | Some b ↦ fits t b None ]) e;
    lies = ap (passes (λ b. lies_in t k b None)) e ∙ within-self (regs_of t k);
  }

  -- a slot that has as many lanes as one register has them for another
  slot-long : (f : Function) (o p : RegOp) → has_lanes t f o ≡ true → length (operand_widths t g p) ≡ length (operand_widths t f o) → (slot : List Operand) → IsSlot slot → lanes_fit t f (operands.Reg o ∷ slot) ≡ true → lanes_fit t g (operands.Reg p ∷ slot) ≡ true
  slot-long f o p h e slot z l = subst (λ qs. lanes_fit t g (operands.Reg p ∷ qs) ≡ true) (sym z.is) (go z.lanes (subst (λ qs. lanes_fit t f (operands.Reg o ∷ qs) ≡ true) z.is l))
    where
      plain : (a b : Bool) → a ≡ true → (not a || b) ≡ true → b ≡ true
      plain true b g h = h
      plain false b g h = absurd (cc)

      go : (x : Operand) → lanes_fit t f (operands.Reg o ∷ operands.Stack z.number ∷ x ∷ []) ≡ true → lanes_fit t g (operands.Reg p ∷ operands.Stack z.number ∷ x ∷ []) ≡ true
      go (operands.Index y) l =
          let n = eqb-true (length (lanes_of t y)) (length (operand_widths t f o)) (plain (has_lanes t f o) (length (lanes_of t y) == length (operand_widths t f o)) h l) in
          ap (λ b. not (has_lanes t g p) || b) (eq-eqb (length (lanes_of t y)) (length (operand_widths t g p)) (n ∙ sym e)) ∙ or-true (not (has_lanes t g p))
      go (operands.Imm w) l = l
      go x l = refl

module _ (s : Spilling) (g : Function) (stay : (w : ℕ) → is_some (class_of s.func w) ≡ true → class_of g w ≡ class_of s.func w) (classes : AreClasses s.target s.func) (i : Instr) (shaped : IsShaped s.target s.func i) (c : ℕ) where
  abbrev t : Target
  t = s.target

  abbrev f : Function
  f = s.func

  abbrev tiny : RegOp
  tiny = plain_use (Virtual c) None

  abbrev AreInForm : Option ClassId → List Operand → List Operand → Type 0
  AreInForm k from to = IsInForm t g (reload t k (plain_definition (Virtual c) None) from) × IsInForm t g (store t k tiny to)

  both-good : (m : ClassId) (k : Option ClassId) → k ≡ Some m → IsClass t m → class_of g c ≡ k → (from to : List Operand) → IsSlot from → IsSlot to → lanes_fit t g (operands.Reg tiny ∷ from) ≡ true → lanes_fit t g (operands.Reg tiny ∷ to) ≡ true → AreInForm k from to
  both-good m k is h e from to a b p q =
      let lies = tiny-lies t g c m (e ∙ is) h in
      subst (λ z. AreInForm z from to) (sym is)
      (reload-good t g m (Virtual c) None lies from a (same-fit (operands.Reg tiny) from p), store-good t g m (Virtual c) None false lies to b q)
    where
      same-fit : (x : Operand) (slot : List Operand) → lanes_fit t g (operands.Reg tiny ∷ slot) ≡ true → lanes_fit t g (operands.Reg (plain_definition (Virtual c) None) ∷ slot) ≡ true
      same-fit x (y ∷ operands.Imm z ∷ os) h = h
      same-fit x (y ∷ operands.Index z ∷ os) h = h
      same-fit x os h = refl

  -- what an operand of the range has through its index

  abbrev Is-own : RegOp → Type 0
  Is-own o = is_own s o ≡ true

  through : (l : Loc) (b : ClassId) → l ≡ Virtual s.range → class_of f s.range ≡ Some b → (x : Option IndexId) → located_widths t f l x ≡ through_index t b x
  through l b at e None = (λ k. located_widths t f (at k) None) ∙ ap (widths_of_some t) e
  through l b at e (Some y) = (λ k. located_widths t f (at k) (Some y)) ∙ ap (λ q. map (slice_index (widths_of_some t q)) (lanes_of t y)) e

  -- the class of a move of an operand of the range
  pub record Moving (o : RegOp) : Type 0 where
    pub class : ClassId
    pub is : moving_class s o.index ≡ Some class
    pub known : IsClass t class
    pub long : length (widths_of t class) ≡ length (operand_widths t f o)

  pub moving-of : (o : RegOp) → is_own s o ≡ true → has_class f o.loc ≡ true → index_fits t f o.loc o.index ≡ true → Moving o
  moving-of o own h e = go (class_of f s.range) refl (subst (λ l. has_class f l ≡ true) at h) (subst (λ l. index_fits t f l o.index ≡ true) at e)
    where
      at : o.loc ≡ Virtual s.range
      at = range-is s g stay classes s.range o.loc own

      go : (q : Option ClassId) → class_of f s.range ≡ q → is_some q ≡ true → elim q as (λ q. Bool) [ None ↦ true | Some k ↦ fits t k o.index ] ≡ true → Moving o
      go None d n z = absurd (cc)
      go (Some b) d n z =
          let m = move-of t b o.index (classes s.range b d) z in
          record {
            class = m.class;
            is = ap (option_and_then (λ k. move_class t k o.index)) d ∙ m.is;
            known = m.known;
            long = m.long ∙ ap length (sym (through o.loc b at d o.index));
          }

  tiny-wide : (k : ClassId) → class_of g c ≡ Some k → length (operand_widths t g tiny) ≡ length (widths_of t k)
  tiny-wide k e = ap (λ q. length (widths_of_some t q)) e

  -- a slot that is named as the operand's own
  named-long : (o p : RegOp) (m : Moving o) → class_of g c ≡ moving_class s o.index → is_own s p ≡ true → length (operand_widths t f o) ≡ length (operand_widths t f p) → lanes_fit t g (operands.Reg tiny ∷ in_own_slot s p.index) ≡ true
  named-long o p m e own same =
      own-long s g stay classes tiny p.index
      (λ y q. sym (index-long s g stay classes f p.loc s.range (range-is s g stay classes s.range p.loc own) p.index y q) ∙ (sym same ∙ (sym m.long ∙ sym (tiny-wide m.class (e ∙ m.is)))))

  pub within-good : (d o : RegOp) → effect_of t i ≡ Some effects.Copy → i.operands ≡ operands.Reg d ∷ operands.Reg o ∷ [] → is_own s o ≡ true → is_own s d ≡ true → class_of g c ≡ moving_class s d.index → AreInForm (moving_class s d.index) (in_own_slot s o.index) (in_own_slot s d.index)
  within-good d o known are oo od e =
      let named : (x : RegOp) → Member x (d ∷ o ∷ []) → Member x (registers i.operands) = λ x m. subst (λ os. Member x (registers os)) (sym are) m in
      let rule : (same_widths t f d o && has_home t d.loc o.loc && has_home t o.loc d.loc) ≡ true = subst (λ os. widths_fit t f effects.Copy os ≡ true) are (widths-of t f i effects.Copy known shaped.widths) in
      let same = same-lanes t f d o (lanes-there t f i shaped d (named d first)) (lanes-there t f i shaped o (named o (later first))) (first_of_both (same_widths t f d o) (has_home t d.loc o.loc) (first_of_both (same_widths t f d o && has_home t d.loc o.loc) (has_home t o.loc d.loc) rule)) in
      let m = moving-of d od (class-there t f i shaped d (named d first)) (index-there t f i shaped d (named d first)) in
      both-good m.class (moving_class s d.index) m.is m.known e (in_own_slot s o.index) (in_own_slot s d.index) (own-slot s o.index) (own-slot s d.index) (named-long d o m e oo same) (named-long d d m e od refl)

  module _ (o : RegOp) (slot : List Operand) (are : i.operands ≡ operands.Reg o ∷ slot) (own : is_own s o ≡ true) (e : class_of g c ≡ moving_class s o.index) where
    there : Member o (registers i.operands)
    there = subst (λ os. Member o (registers os)) (sym are) first

    m : Moving o
    m = moving-of o own (class-there t f i shaped o there) (index-there t f i shaped o there)

    other-long : IsSlot slot → lanes_fit t f i.operands ≡ true → lanes_fit t g (operands.Reg tiny ∷ slot) ≡ true
    other-long z l = slot-long t g c f o tiny (lanes-there t f i shaped o there) (tiny-wide m.class (e ∙ m.is) ∙ m.long) slot z (subst (λ os. lanes_fit t f os ≡ true) are l)

    pub stored-good : effect_of t i ≡ Some effects.Spill → AreInForm (moving_class s o.index) (in_own_slot s o.index) slot
    stored-good known =
        let z = spill-slot t f i o slot shaped.operands known are in
        both-good m.class (moving_class s o.index) m.is m.known e (in_own_slot s o.index) slot (own-slot s o.index) z (named-long o o m e own refl) (other-long z (fit t f i effects.Spill known shaped.operands refl).values)

    pub reloaded-good : effect_of t i ≡ Some effects.Reload → AreInForm (moving_class s o.index) slot (in_own_slot s o.index)
    reloaded-good known =
        let z = reload-slot t f i o slot shaped.operands known are in
        both-good m.class (moving_class s o.index) m.is m.known e slot (in_own_slot s o.index) z (own-slot s o.index) (other-long z (fit t f i effects.Reload known shaped.operands refl).values) (named-long o o m e own refl)

pub passes_keep_rules : PassesKeepRules
passes_keep_rules s g stay classes i shaped c = (within-good s g stay classes i shaped c, (λ o slot known are own e. stored-good s g stay classes i shaped c o slot are own e known), λ o slot known are own e. reloaded-good s g stay classes i shaped c o slot are own e known)
