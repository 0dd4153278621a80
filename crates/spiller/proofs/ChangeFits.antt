-- Edits can make what becomes of each place.
use Rattle.std.proofs.Common.{◌≡◌, ◌∷◌, ◌∙◌, ◌||◌, not, ℕ, Bool, true, false, cond, List, [], Option, Some, None, filter, flat_map, map, refl, sym, ap, subst}
use Rattle.std.specs.Prelude.{nat_eq}
use Rattle.std.specs.List.{list_any}
use Rattle.target_base.specs.declared.types.ClassId.{ClassId}
use Rattle.target_base.specs.declared.types.Effect.{Effect}
use Rattle.target_base.specs.declared.types.Effect.TheVariants as effects
use Rattle.target_base.specs.declared.types.Target.{Target}
use Rattle.target_base.specs.Roles.{is_silent}
use Rattle.target_base.specs.Rules.{is_phi}
use Rattle.meaning.specs.Live.{Among as Member, here as first, there as later}
use Rattle.mir_func.specs.declared.func.Block.{Block}
use Rattle.mir_func.specs.declared.func.Instr.{Instr}
use Rattle.mir_func.specs.declared.func.Loc.TheVariants.{Virtual}
use Rattle.mir_func.specs.declared.func.Op.{Op}
use Rattle.mir_func.specs.declared.func.Operand.{Operand}
use Rattle.mir_func.specs.declared.func.Operand.TheVariants as operands
use Rattle.mir_func.specs.declared.func.RegOp.{RegOp}
use Rattle.mir_func.specs.Binding.{TiedPair, does, effect_of, is_lowered_away, is_terminator, passes, registers}
use Rattle.mir_meaning.specs.Places.{Variable}
use Rattle.mir_meaning.specs.Rules.{V8}
use Rattle.instr_effects.proofs.Members.{either-elim, flat-of, map-of, member-elim, member-none}
use Rattle.edit_laws.specs.Edits.{IsPlain}
use Rattle.lowering_laws.specs.Shapes.{IsLowered}
use Rattle.lowering_laws.proofs.BlockRules.{ordered}
use Rattle.spiller.specs.Setting.{Spilling, in_own_slot, is_live_behind, is_own, plain_definition, plain_use, reload, store}
use Rattle.spiller.specs.Rematerialised.{Wish, Never, Within, Holding, copy_reading, if_serves, is_constant, places_from, places_of, reaching, repeatable_class, repeated, repeated_for, serves, tied_readings, way_reading, whole_class}
use Rattle.spiller.specs.Spilled.{Change, OwnDefinition, Seats, change, given, in_place_of, seats_from, stored, tied_reload, with_tinies}
use Rattle.spiller.specs.Planned.{names_own}
use Rattle.spiller.proofs.NewInstrs.{known-op, op-of, plain-of, reload-new, repeated-new, store-new}
use Rattle.spiller.proofs.PlaceEdits.{AllBecome, AllNew, Becomes, Fits, IsNew}
use Rattle.spiller.proofs.PlaceOutcomes.{Outcome, Passes, Replaces, from_range, goes, ordered-by, passed, place-outcome, reloaded_on, repeats, replaced, seated, stays, stored_on, to_range, undefined, within}
use Rattle.spiller.proofs.Unnamed.{stays-itself, strange-of}

-- the instruction that is repeated for a reading is a constant

same-of : {X : Type 0} (x y : X) → ◌≡◌ {A = Option X} (Some x) (Some y) → x ≡ y
same-of x y e = cc

pub nothing-serves : (t : Target) (wish : Wish) → serves t wish None ≡ false
nothing-serves t Never = refl
nothing-serves t (Within None) = refl
nothing-serves t (Within (Some c)) = refl
nothing-serves t (Holding r) = refl

serving-constant : (t : Target) (wish : Wish) (d : Instr) → serves t wish (repeatable_class t d) ≡ true → does is_constant t d ≡ true
serving-constant t wish d h = go (does is_constant t d) refl h
  where
    go : (b : Bool) → does is_constant t d ≡ b → serves t wish (cond b (whole_class t d d.operands) None) ≡ true → does is_constant t d ≡ true
    go true e g = e
    go false e g = absurd (let z = nothing-serves t wish in cc)

served : (t : Target) (wish : Wish) (ds : List Instr) (d : Instr) → if_serves t wish ds ≡ Some d → does is_constant t d ≡ true
served t wish [] d e = absurd (cc)
served t wish (x ∷ []) d e = go (serves t wish (repeatable_class t x)) refl e
  where
    go : (b : Bool) → serves t wish (repeatable_class t x) ≡ b → cond b (Some x) None ≡ Some d → does is_constant t d ≡ true
    go true h g = subst (λ (y : Instr). does is_constant t y ≡ true) (same-of x d g) (serving-constant t wish x h)
    go false h g = absurd (cc)
served t wish (x ∷ y ∷ xs) d e = absurd (cc)

-- a silent instruction that isn't lowered away is neither a phi nor a terminator
silent-plain : (q : Option Effect) → passes is_silent q ≡ true → passes (λ e. not (is_lowered_away e)) q ≡ true → (passes is_phi q ≡ false) × (passes is_terminator q ≡ false)
silent-plain None h g = absurd (cc)
silent-plain (Some effects.Copy) h g = (refl, refl)
silent-plain (Some effects.ImplicitDef) h g = (refl, refl)
silent-plain (Some effects.Const) h g = (refl, refl)
silent-plain (Some effects.Addr) h g = (refl, refl)
silent-plain (Some effects.Spill) h g = (refl, refl)
silent-plain (Some effects.Reload) h g = (refl, refl)
silent-plain (Some effects.Phi) h g = absurd (cc)
silent-plain (Some effects.RegSequence) h g = absurd (cc)
silent-plain (Some effects.InsertSubreg) h g = absurd (cc)
silent-plain (Some e) h g = absurd (cc)

no-phi : (q : Option Effect) → passes (λ e. not (is_lowered_away e)) q ≡ true → passes is_phi q ≡ false
no-phi None h = refl
no-phi (Some effects.Phi) h = absurd (cc)
no-phi (Some e) h = refl

module _ (s : Spilling) where
  abbrev t : Target
  t = s.target

  -- the instruction is in lowered form
  abbrev pub IsGood : Instr → Type 0
  IsGood i = does (λ e. not (is_lowered_away e)) t i ≡ true

  none-new : AllNew t []
  none-new x m = absurd (member-none x m)

  one-new : (y : Instr) → IsNew t y → AllNew t (y ∷ [])
  one-new y h x m = member-elim x y [] (λ e. subst (IsNew t) (sym e) h) (λ k. absurd (member-none x k)) m

  -- a store or a reload in an instruction's place
  placed-there : (i y : Instr) → IsNew t y → IsPlain t i → names_own s i ≡ true → Becomes s i (in_place_of i y)
  placed-there i y new plain own = record {
    same = ap (λ (q : Instr). in_place_of i q) new.same;
    plain = (plain.0, new.plain.0, plain.1 ∙ sym new.plain.1);
    other = λ e. absurd (let z : true ≡ false = sym own ∙ e in cc);
  }

  itself : (i : Instr) → IsGood i → Becomes s i i
  itself i good = let z = op-of t (λ e. not (is_lowered_away e)) i good in record {
    same = ap (λ (q : Op). record i { op = q }) (known-op i.op z.0 z.1);
    plain = (no-phi (effect_of t i) good, no-phi (effect_of t i) good, refl);
    other = λ e. refl;
  }

  with-tiny : (x : Seats) (i : Instr) → IsGood i → Becomes s i (with_tinies s x i)
  with-tiny x i good = let z = op-of t (λ e. not (is_lowered_away e)) i good in record {
    same = ap (λ (q : Op). record (with_tinies s x i) { op = q }) (known-op i.op z.0 z.1);
    plain = (no-phi (effect_of t i) good, no-phi (effect_of t i) good, refl);
    other = λ e. stays-itself s i (strange-of s i e) x;
  }

  first-own : (i : Instr) (o : RegOp) (os : List Operand) → i.operands ≡ operands.Reg o ∷ os → is_own s o ≡ true → names_own s i ≡ true
  first-own i o os are own = ap (λ xs. list_any (is_own s) (registers xs)) are ∙ ap (λ u. u || list_any (is_own s) (registers os)) own

  second-own : (i : Instr) (d o : RegOp) (os : List Operand) → i.operands ≡ operands.Reg d ∷ operands.Reg o ∷ os → is_own s o ≡ true → names_own s i ≡ true
  second-own i d o os are own = ap (λ xs. list_any (is_own s) (registers xs)) are ∙ (ap (λ u. is_own s d || (u || list_any (is_own s) (registers os))) own ∙ go (is_own s d))
    where
      go : (u : Bool) → u || true ≡ true
      go true = refl
      go false = refl

  replaced-fits : (i j : Instr) → Replaces s i j → Becomes s i (in_place_of i j)
  replaced-fits i j (from_range {d} {o} e are p q) = placed-there i j (reload-new t _ (plain_definition d.loc d.index) (in_own_slot s o.index)) (plain-of t effects.Copy refl refl i e) (second-own i d o [] are p)
  replaced-fits i j (to_range {d} {o} e are p q) = placed-there i j (store-new t _ (plain_use o.loc o.index) (in_own_slot s d.index)) (plain-of t effects.Copy refl refl i e) (first-own i d (operands.Reg o ∷ []) are q)
  replaced-fits i j (undefined {o} e are p) = placed-there i j (store-new t _ _ (in_own_slot s o.index)) (plain-of t effects.ImplicitDef refl refl i e) (first-own i o [] are p)

  passed-fits : (i : Instr) (c : ℕ) (k : Option ClassId) (from to : List Operand) → Passes s i k from to → Becomes s i (in_place_of i (reload t k (plain_definition (Virtual c) None) from))
  passed-fits i c k from to (within {d} {o} e are p q) = placed-there i (reload t k (plain_definition (Virtual c) None) from) (reload-new t k (plain_definition (Virtual c) None) from) (plain-of t effects.Copy refl refl i e) (first-own i d (operands.Reg o ∷ []) are q)
  passed-fits i c k from to (stored_on {o} {slot} e are p) = placed-there i (reload t k (plain_definition (Virtual c) None) from) (reload-new t k (plain_definition (Virtual c) None) from) (plain-of t effects.Spill refl refl i e) (first-own i o slot are p)
  passed-fits i c k from to (reloaded_on {o} {slot} e are p) = placed-there i (reload t k (plain_definition (Virtual c) None) from) (reload-new t k (plain_definition (Virtual c) None) from) (plain-of t effects.Reload refl refl i e) (first-own i o slot are p)

  -- places with tinies

  given-new : (is : List Instr) (p : ℕ × Variable) → IsNew t (given s is p)
  given-new is p = go (repeated_for s (way_reading s is p.1)) refl
    where
      go : (q : Option Instr) → repeated_for s (way_reading s is p.1) ≡ q → IsNew t (elim q as (λ q. Instr) [ None ↦ reload s.target p.1.class (plain_definition (Virtual p.0) None) (in_own_slot s p.1.index) | Some d ↦ repeated d (plain_definition (Virtual p.0) None) ])
      go None e = reload-new t p.1.class (plain_definition (Virtual p.0) None) (in_own_slot s p.1.index)
      go (Some d) e = repeated-new t d (plain_definition (Virtual p.0) None) (served t (way_reading s is p.1).wish (reaching s (way_reading s is p.1)) d e)

  tied-new : (p : ℕ × OwnDefinition) → AllNew t (tied_reload s p)
  tied-new p x m =
      let z = map-of (λ (y : TiedPair). reload s.target p.1.class (plain_definition (Virtual p.0) None) (in_own_slot s y.tied_use.index)) x (filter (λ (y : TiedPair). nat_eq y.number p.1.number) (tied_readings s p.1.by)) m in
      subst (IsNew t) (sym z.2) (reload-new t p.1.class (plain_definition (Virtual p.0) None) (in_own_slot s z.0.tied_use.index))

  stored-new : (p : ℕ × OwnDefinition) → AllNew t (stored s p)
  stored-new p = go (is_live_behind s p.1.by p.1.index)
    where
      go : (u : Bool) → AllNew t (cond u (store s.target p.1.class (plain_use (Virtual p.0) None) (in_own_slot s p.1.index) ∷ []) [])
      go true = one-new (store s.target p.1.class (plain_use (Virtual p.0) None) (in_own_slot s p.1.index)) (store-new t p.1.class (plain_use (Virtual p.0) None) (in_own_slot s p.1.index))
      go false = none-new

  tinies-fit : (x : Seats) (is : List Instr) → ((i : Instr) → Member i is → IsGood i) → AllBecome s is (map (with_tinies s x) is)
  tinies-fit x [] good = tt
  tinies-fit x (i ∷ is) good = (with-tiny x i (good i first), tinies-fit x is (λ j m. good j (later m)))

  pub outcome-fits : (n c : ℕ) (is : List Instr) (y : Change) → ((i : Instr) → Member i is → IsGood i) → Outcome s n c is y → Fits s is y
  outcome-fits n c is y good (stays {i} k) = record { new_before = none-new; changed = (itself i (good i first), tt); new_behind = none-new }
  outcome-fits n c is y good (goes {i} k) = record { new_before = none-new; changed = (silent-plain (effect_of t i) k (good i first), tt); new_behind = none-new }
  outcome-fits n c is y good (replaced {i} {j} k) = record { new_before = none-new; changed = (replaced-fits i j k, tt); new_behind = none-new }
  outcome-fits n c is y good (repeats {i} {x} {d} {o} e are p q r) = record {
    new_before = one-new (repeated x (plain_definition d.loc d.index)) (repeated-new t x (plain_definition d.loc d.index) (served t (copy_reading s i d o).wish (reaching s (copy_reading s i d o)) x r));
    changed = (plain-of t effects.Copy refl refl i e, tt);
    new_behind = none-new;
  }
  outcome-fits n c is y good (passed {i} {k} {from} {to} w) = record {
    new_before = none-new;
    changed = (passed-fits i c k from to w, tt);
    new_behind = one-new (store t k (plain_use (Virtual c) None) to) (store-new t k (plain_use (Virtual c) None) to);
  }
  outcome-fits n c is y good (seated placed) =
      let x = seats_from s c is in
      record {
        new_before = λ z m. either-elim z (map (given s is) x.ways) (flat_map (tied_reload s) x.definitions)
            (λ k. let a = map-of (given s is) z x.ways k in subst (IsNew t) (sym a.2) (given-new is a.0))
            (λ k. let a = flat-of (tied_reload s) z x.definitions k in tied-new a.0 z a.2) m;
        changed = tinies-fit x is good;
        new_behind = λ z m. (let a = flat-of (stored s) z x.definitions m in stored-new a.0 z a.2);
      }

  -- those of a place are in the block

  pub place-in : (is p : List Instr) → Member p (places_from t is) → (i : Instr) → Member i p → Member i is
  place-in [] p m i k = absurd (member-none p m)
  place-in (j ∷ is) p m i k = go (does is_terminator t j) m (λ h. place-in is p h i k)
    where
      go : (y : Bool) → Member p (cond y ((j ∷ is) ∷ []) ((j ∷ []) ∷ places_from t is)) → (Member p (places_from t is) → Member i is) → Member i (j ∷ is)
      go true m f = member-elim p (j ∷ is) [] (λ e. subst (Member i) e k) (λ h. absurd (member-none p h)) m
      go false m f = member-elim p (j ∷ []) (places_from t is) (λ e. member-elim i j [] (λ q. subst (λ x. Member x (j ∷ is)) (sym q) first) (λ h. absurd (member-none i h)) (subst (Member i) e k)) (λ h. later (f h)) m

  module _ (low : IsLowered s.target s.func) where
    in-order : (b : Block) → Member b s.func.blocks → ordered s.target b.instrs ≡ true
    unfolding V8
    in-order b mb = ordered-by s.target b.instrs (λ j i e. low.terminators b j i mb e)

    pub place-fits : (b : Block) → Member b s.func.blocks → (p : List Instr) → Member p (places_of s.target b) → (n c : ℕ) → Fits s p (change s n c p)
    place-fits b mb p mp n c =
        outcome-fits n c p (change s n c p) (λ i mi. low.lowered b i mb (place-in b.instrs p mp i mi))
        (place-outcome s b.instrs (λ i m. (low.rules.shaped b i mb m).operands) (λ i m. low.lowered b i mb m) (in-order b mb) p mp n c)
