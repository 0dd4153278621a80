-- After a spill `undef` uses are physical registers or tied, where they were, and so each range that an instruction names counts
-- there.
use Rattle.std.proofs.Common.{◌≡◌, ◌⊎◌, inl, inr, ◌++◌, ◌∙◌, ◌&&◌, not, ℕ, Bool, true, false, cond, drop, List, [], ◌∷◌, Option, Some, None, flat_map, map, refl, sym, ap, subst}
use Rattle.std.specs.Prelude.{filter, is_none, nat_eq, option_and_then}
use Rattle.std.specs.List.{cons_option}
use Rattle.target_base.specs.declared.types.ClassId.{ClassId}
use Rattle.target_base.specs.declared.types.Effect.{Effect}
use Rattle.target_base.specs.declared.types.Effect.TheVariants as effects
use Rattle.target_base.specs.declared.types.Role.{Role}
use Rattle.target_base.specs.declared.types.Role.TheVariants as roles
use Rattle.target_base.specs.declared.types.Target.{Target}
use Rattle.target_base.specs.Roles.{is_definition as is_definition_role, is_frame_or_symbol, is_immediate}
use Rattle.target_base.proofs.Tests.{first_of_both, second_of_both}
use Rattle.meaning.specs.Live.{Among as Member, here as first}
use Rattle.mir_func.specs.declared.func.Loc.TheVariants.{Virtual}
use Rattle.mir_func.specs.declared.func.RegOp.{RegOp}
use Rattle.mir_func.specs.declared.func.Operand.{Operand}
use Rattle.mir_func.specs.declared.func.Operand.TheVariants as operands
use Rattle.mir_func.specs.declared.func.Instr.{Instr}
use Rattle.mir_func.specs.declared.func.Block.{Block}
use Rattle.mir_func.specs.Value.{Function}
use Rattle.mir_func.specs.Binding.{Bound, TiedPair, as_register, bound, does, effect_of, is_virtual, numbered, passes, registers, tied_number}
use Rattle.mir_meaning.specs.Places.{Variable}
use Rattle.mir_meaning.specs.Rules.{V1, fits_role, is_free_undef}
use Rattle.instr_effects.proofs.Members.{either-elim, flat-of, map-of, member-elim, member-none}
use Rattle.live_laws.specs.Effects.Shaped.{IsShaped}
use Rattle.live_laws.proofs.Touch.Roles.{TakeAll, addr-takes, const-takes}
use Rattle.lowering_laws.specs.Named.{TouchesItsRanges}
use Rattle.lowering_laws.specs.Shapes.{IsLowered}
use Rattle.spiller.specs.Setting.{Spilling, class_beside, in_own_slot, is_live_behind, own_class, part_class, plain_definition, plain_use, reload, store, undef_use}
use Rattle.spiller.specs.Rematerialised.{Reading, copy_reading, is_constant, repeated, repeated_for, tied_readings, way_reading}
use Rattle.spiller.specs.Spilled.{Change, OwnDefinition, change, given, in_place_of, seats_from, setting_of, spilled, stored, tied_reload, with_tinies}
use Rattle.spill_laws.specs.Laws.{AreLowered, HasTinies}
use Rattle.spill_laws.specs.Named.{HasFixedUndefs, SpillKeepsNamed}
use Rattle.spill_laws.proofs.Blocks.{passing}
use Rattle.spill_laws.proofs.InForm.{Tinied, each-in-form, each-place}
use Rattle.spill_laws.proofs.Opcodes.{IsSlot, own-slot, repeats-for}
use Rattle.spill_laws.proofs.Outcomes.{Outcome, Replaces, from_range, goes, instrs-of, passed, repeats, replaced, seated as gets_tinies, stays, to_range, undefined}
use Rattle.spill_laws.proofs.Ranges.{Has, classes-known, numbered-of}
use Rattle.spill_laws.proofs.Kept.{orderly}
use Rattle.spill_laws.proofs.TinyRules.{bound-register, last, own-explicit}
use Rattle.spill_laws.proofs.Touched.{UndefsFixed, range-virtual, touched}
use Rattle.spill_laws.proofs.Turned.{Turn, bound-is, kept, seat, tiny, turn, turned-from}

-- the operand isn't `undef`, or is a physical register
abbrev pub Clear : RegOp → Type 0
Clear o = (o.undef ≡ false) ⊎ (is_virtual o.loc ≡ false)

pub free-undef : (r : Option Role) (o : RegOp) → is_free_undef (r, operands.Reg o) ≡ true → o.undef ≡ true
free-undef r o e = second_of_both (not o.def) o.undef (first_of_both (not o.def && o.undef) (is_none (option_and_then tied_number r)) e)

pub clear-fixed : (t : Target) (i : Instr) → ((o : RegOp) → Member o (registers i.operands) → Clear o) → UndefsFixed t i
clear-fixed t i h r o m e = go (h o (bound-register t i (r, operands.Reg o) m o refl))
  where
    go : Clear o → is_virtual o.loc ≡ false
    go (inl u) = absurd (let a = free-undef r o e in cc)
    go (inr v) = v

lanes-none : (x : Operand) → fits_role roles.Lanes x ≡ true → as_register x ≡ None
lanes-none (operands.Imm z) h = refl
lanes-none (operands.Index x) h = refl
lanes-none x h = absurd (cc)

slot-registers : (slot : List Operand) → IsSlot slot → registers slot ≡ []
slot-registers slot z = ap registers z.is ∙ (λ k. cons_option (lanes-none z.lanes z.fits k) [])

-- one register, and others that aren't registers
pub single-fixed : (t : Target) (i : Instr) (o : RegOp) (os : List Operand) → i.operands ≡ operands.Reg o ∷ os → registers os ≡ [] → Clear o → UndefsFixed t i
single-fixed t i o os are none clear =
    clear-fixed t i (λ u m. member-elim u o [] (λ e. subst Clear (sym e) clear) (λ k. absurd (member-none u k)) (subst (Member u) ((λ k. registers (are k)) ∙ (λ k. o ∷ none k)) m))

store-fixed : (t : Target) (k : Option ClassId) (o : RegOp) (slot : List Operand) → IsSlot slot → Clear o → UndefsFixed t (store t k o slot)
store-fixed t k o slot z clear = single-fixed t (store t k o slot) o slot refl (slot-registers slot z) clear

reload-fixed : (t : Target) (k : Option ClassId) (o : RegOp) (slot : List Operand) → IsSlot slot → Clear o → UndefsFixed t (reload t k o slot)
reload-fixed t k o slot z clear = single-fixed t (reload t k o slot) o slot refl (slot-registers slot z) clear

-- a constant or an address that is repeated names one register

immediate-none : (r : Role) (y : Operand) → is_immediate r ≡ true → fits_role r y ≡ true → as_register y ≡ None
immediate-none roles.Imm (operands.Imm z) h g = refl
immediate-none r y h g = absurd (cc)

object-none : (r : Role) (y : Operand) → is_frame_or_symbol r ≡ true → fits_role r y ≡ true → as_register y ≡ None
object-none roles.Frame (operands.Stack n) h g = refl
object-none roles.Frame (operands.FixedStack n) h g = refl
object-none roles.Sym (operands.Symbol n) h g = refl
object-none r y h g = absurd (cc)

behind-none : (test : Role → Bool) → ((r : Role) (y : Operand) → test r ≡ true → fits_role r y ≡ true → as_register y ≡ None) → (os : List Operand) → TakeAll (is_definition_role ∷ test ∷ []) os → registers (drop 1 os) ≡ []
behind-none test h [] a = absurd a
behind-none test h (z ∷ []) a = absurd a.1
behind-none test h (z ∷ y ∷ []) a = λ k. cons_option (h a.1.0.0 y a.1.0.1 a.1.0.2 k) []
behind-none test h (z ∷ y ∷ v ∷ vs) a = absurd a.1.1

repeated-fixed : (t : Target) (f : Function) (d : Instr) (o : RegOp) → V1 t f d ≡ true → does is_constant t d ≡ true → o.undef ≡ false → UndefsFixed t (repeated d o)
repeated-fixed t f d o rule h clear = single-fixed t (repeated d o) o (drop 1 d.operands) refl (go (effect_of t d) refl h) (inl clear)
  where
    go : (q : Option Effect) → effect_of t d ≡ q → passes is_constant q ≡ true → registers (drop 1 d.operands) ≡ []
    go None e h = absurd (cc)
    go (Some effects.Const) e h = behind-none is_immediate immediate-none d.operands (const-takes t f d rule e)
    go (Some effects.Addr) e h = behind-none is_frame_or_symbol object-none d.operands (addr-takes t f d rule e)
    go (Some x) e h = absurd (cc)

module _ (s : Spilling) (g : Function) (rules : (b : Block) (j : Instr) → Member b s.func.blocks → Member j b.instrs → IsShaped s.target s.func j) where
  abbrev t : Target
  t = s.target

  abbrev Good : Instr → Type 0
  Good = UndefsFixed s.target

  none-good : (x : Instr) → Member x [] → Good x
  none-good x m = absurd (member-none x m)

  one-good : (i : Instr) → Good i → (x : Instr) → Member x (i ∷ []) → Good x
  one-good i w x m = member-elim x i [] (λ e. subst Good (sym e) w) (λ k. absurd (member-none x k)) m

  two-good : (i j : Instr) → Good i → Good j → (x : Instr) → Member x (i ∷ j ∷ []) → Good x
  two-good i j w v x m = member-elim x i (j ∷ []) (λ e. subst Good (sym e) w) (one-good j v x) m

  constant-good : (r : Reading) (d : Instr) (o : RegOp) → repeated_for s r ≡ Some d → o.undef ≡ false → Good (repeated d o)
  constant-good r d o e clear = let w = repeats-for s r d e in repeated-fixed t s.func d o (rules w.block d w.there w.inside).operands w.constant clear

  replaced-good : (i j : Instr) → Replaces s i j → Good j
  replaced-good i j (from_range {d} {o} e are p q) = reload-fixed t (class_beside s d d.loc) (plain_definition d.loc d.index) (in_own_slot s o.index) (own-slot s o.index) (inl refl)
  replaced-good i j (to_range {d} {o} e are p q) = store-fixed t (class_beside s o o.loc) (plain_use o.loc o.index) (in_own_slot s d.index) (own-slot s d.index) (inl refl)
  replaced-good i j (undefined {o} e are p) = let k = part_class t o.index (own_class s) in store-fixed t k (undef_use t k) (in_own_slot s o.index) (own-slot s o.index) (inr refl)

  given-good : (p : List Instr) (x : ℕ × Variable) → Good (given s p x)
  given-good p x = go (repeated_for s (way_reading s p x.1)) refl
    where
      go : (q : Option Instr) → repeated_for s (way_reading s p x.1) ≡ q → Good (elim q as (λ q. Instr) [ None ↦ reload s.target x.1.class (plain_definition (Virtual x.0) None) (in_own_slot s x.1.index) | Some d ↦ repeated d (plain_definition (Virtual x.0) None) ])
      go None e = reload-fixed t x.1.class (plain_definition (Virtual x.0) None) (in_own_slot s x.1.index) (own-slot s x.1.index) (inl refl)
      go (Some d) e = constant-good (way_reading s p x.1) d (plain_definition (Virtual x.0) None) e refl

  tied-good : (d : ℕ × OwnDefinition) (x : Instr) → Member x (tied_reload s d) → Good x
  tied-good d x m =
      let y = map-of (λ (q : TiedPair). reload s.target d.1.class (plain_definition (Virtual d.0) None) (in_own_slot s q.tied_use.index)) x (filter (λ (q : TiedPair). nat_eq q.number d.1.number) (tied_readings s d.1.by)) m in
      subst Good (sym y.2) (reload-fixed t d.1.class (plain_definition (Virtual d.0) None) (in_own_slot s y.0.tied_use.index) (own-slot s y.0.tied_use.index) (inl refl))

  stored-good : (d : ℕ × OwnDefinition) (x : Instr) → Member x (stored s d) → Good x
  stored-good d x m = go (is_live_behind s d.1.by d.1.index) m
    where
      go : (b : Bool) → Member x (cond b (store s.target d.1.class (plain_use (Virtual d.0) None) (in_own_slot s d.1.index) ∷ []) []) → Good x
      go true k = one-good (store s.target d.1.class (plain_use (Virtual d.0) None) (in_own_slot s d.1.index)) (store-fixed t d.1.class (plain_use (Virtual d.0) None) (in_own_slot s d.1.index) (own-slot s d.1.index) (inl refl)) x k
      go false k = none-good x k

  -- an instruction with tinies
  tinies-good : (c : ℕ) (p : List Instr) → HasTinies s g c p → (i : Instr) → Member i p → Good i → Good (with_tinies s (seats_from s c p) i)
  tinies-good c p h i mi old r o' m free =
      let z = seats_from s c p in
      let y = map-of (seat s z i) (r, operands.Reg o') (numbered 0 (bound t i)) (subst (Member (r, operands.Reg o')) (bound-is s z i (own-explicit s g c p h i mi) (last s g c p h i mi)) m) in
      let w = turned-from s z i y.0.0 y.0.1.0 y.0.1.1 o' (ap (λ (x : Bound). x.1) y.2) in
      let there : Member (y.0.1.0, operands.Reg w.0) (bound t i) = subst (λ x. Member (y.0.1.0, x) (bound t i)) w.1 (numbered-of 0 (bound t i) y.0 y.1) in
      go y.0.0 y.0.1.0 w.0 there (subst (λ x. is_free_undef (x, operands.Reg o') ≡ true) (ap (λ (x : Bound). x.0) y.2) free) (subst (Turn s z i y.0.0 y.0.1.0 w.0) (sym w.2) (turn s z i y.0.0 y.0.1.0 w.0))
    where
      once-more : (d u n : Bool) → ((not d && (not d && u)) && n) ≡ true → ((not d && u) && n) ≡ true
      once-more true u n e = e
      once-more false u n e = e

      go : (k : ℕ) (q : Option Role) (o : RegOp) → Member (q, operands.Reg o) (bound t i) → is_free_undef (q, operands.Reg o') ≡ true → Turn s (seats_from s c p) i k q o o' → is_virtual o'.loc ≡ false
      go k q o a e (kept is) = ap (λ (x : RegOp). is_virtual x.loc) is ∙ old q o a (subst (λ (x : RegOp). is_free_undef (q, operands.Reg x) ≡ true) is e)
      go k q o a e (tiny n own at is) =
          let w = old q o a (once-more o.def o.undef (is_none (option_and_then tied_number q)) (subst (λ (x : RegOp). is_free_undef (q, operands.Reg x) ≡ true) is e)) in
          let v = range-virtual s.range o.loc own in
          absurd (let u : is_virtual o.loc ≡ true = ap is_virtual v.1 in cc)

  -- what becomes of a place
  pub place-fixed : (n c : ℕ) (p : List Instr) (y : Change) → ((i : Instr) → Member i p → V1 t s.func i ≡ true) → ((i : Instr) → Member i p → Good i) → Tinied s g c p → Has g c (map (λ (x : Option ClassId × ℕ). x.0) y.tinies) → Outcome s n c p y → (x : Instr) → Member x (instrs-of y) → Good x
  place-fixed n c p y rule old here has (stays {i} k) = one-good i (old i first)
  place-fixed n c p y rule old here has (goes k) = none-good
  place-fixed n c p y rule old here has (replaced {i} {j} k) = one-good (in_place_of i j) (replaced-good i j k)
  place-fixed n c p y rule old here has (repeats {i} {x} {d} {o} e are a b r) = one-good (repeated x (plain_definition d.loc d.index)) (constant-good (copy_reading s i d o) x (plain_definition d.loc d.index) r refl)
  place-fixed n c p y rule old here has (passed {i} {k} {from} {to} w) =
      let v = passing s (λ b j mb mj. (rules b j mb mj).operands) i k from to (rule i first) w in
      two-good (in_place_of i (reload t k (plain_definition (Virtual c) None) from)) (store t k (plain_use (Virtual c) None) to)
      (reload-fixed t k (plain_definition (Virtual c) None) from v.1 (inl refl)) (store-fixed t k (plain_use (Virtual c) None) to v.2 (inl refl))
  place-fixed n c p y rule old here has (gets_tinies placed) = λ x m.
      let z = seats_from s c p in
      either-elim x y.before (y.own ++ y.behind)
      (λ k. either-elim x (map (given s p) z.ways) (flat_map (tied_reload s) z.definitions)
      (λ q. let v = map-of (given s p) x z.ways q in subst Good (sym v.2) (given-good p v.0))
      (λ q. let v = flat-of (tied_reload s) x z.definitions q in tied-good v.0 x v.2) k)
      (λ k. either-elim x y.own y.behind
      (λ q. let v = map-of (with_tinies s z) x p q in subst Good (sym v.2) (tinies-good c p (here placed has) v.0 v.1 (old v.0 v.1)))
      (λ q. let v = flat-of (stored s) x z.definitions q in stored-good v.0 x v.2) k) m

module _ (s : Spilling) (low : IsLowered s.target s.func) (formed : AreLowered s.target s.func) (fixed : HasFixedUndefs s.target s.func) where
  abbrev after : Function
  after = spilled s

  undefs-fixed : (d : Block) (x : Instr) → Member d after.blocks → Member x d.instrs → UndefsFixed s.target x
  undefs-fixed = each-place s low formed (UndefsFixed s.target) (λ x n w. w) (λ b mb n c p there.
      place-fixed s after low.rules.shaped n c p (change s n c p) (λ i mi. (low.rules.shaped b i mb (there i mi)).operands) (λ i mi. fixed b i mb (there i mi)))

  pub spill-named : HasFixedUndefs s.target after × ((b : Block) (i : Instr) → Member b after.blocks → Member i b.instrs → TouchesItsRanges i)
  spill-named = (
    undefs-fixed,
    λ b i mb mi. (
        let w = each-in-form s low formed b i mb mi in
        touched s.target after (classes-known s low.rules.classes (orderly s low)) i w.shaped w.opcode w.lowered (undefs-fixed b i mb mi)),
  )

pub spill_keeps_named : SpillKeepsNamed
spill_keeps_named t f g slots new v tinies low formed fixed z =
    subst (λ (h : Function). HasFixedUndefs t h × ((b : Block) (i : Instr) → Member b h.blocks → Member i b.instrs → TouchesItsRanges i)) (sym z.func) (spill-named (setting_of t f slots v z.facts) low formed fixed)
