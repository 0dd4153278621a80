-- Each range that a spill adds has a class.
use Rattle.std.proofs.Common.{◌≡◌, ◌<◌, ◌≤◌, ◌+◌, ◌++◌, ◌∙◌, not, ℕ, true, zero, suc, List, [], ◌∷◌, Option, Some, None, flat_map, length, map, refl, sym, ap, subst, arith}
use Rattle.std.specs.Prelude.{filter_map, nat_eq, slice_get}
use Rattle.target_base.specs.declared.types.ClassId.{ClassId}
use Rattle.target_base.specs.declared.types.Target.{Target}
use Rattle.target_base.specs.Registers.{IsClass}
use Rattle.meaning.specs.Live.{Among as Member, here as first, there as later}
use Rattle.mir_func.specs.declared.func.Operand.{Operand}
use Rattle.mir_func.specs.declared.func.Instr.{Instr}
use Rattle.mir_func.specs.Value.{Function}
use Rattle.mir_func.specs.Binding.{class_of, does, registers}
use Rattle.mir_meaning.specs.Places.{Variable, each_once, is_defining, operand_variables}
use Rattle.instr_effects.proofs.Members.{either-elim, filter-of, flat-of, map-of, member-elim, member-none}
use Rattle.live_laws.specs.Effects.Shaped.{IsShaped}
use Rattle.live_laws.proofs.Effects.Shapes.{class-there, index-there}
use Rattle.lowering_laws.specs.Shapes.{IsLowered}
use Rattle.spiller.specs.Setting.{Spilling}
use Rattle.spiller.specs.Rematerialised.{own_variables, ways_read}
use Rattle.spiller.specs.Spilled.{Change, OwnDefinition, all_changes, change, definitions_in, numbered_operands, own_definition, place_name, seats_from, setting_of, spilled, tinies_of}
use Rattle.spill_laws.specs.Laws.{KeepsClasses, SpillGivesClasses, is_placed}
use Rattle.spill_laws.proofs.Given.{defined, variables-wide}
use Rattle.spill_laws.proofs.InForm.{place-in}
use Rattle.spill_laws.proofs.Kept.{orderly}
use Rattle.spill_laws.proofs.Outcomes.{Outcome, Passes, goes, passed, reloaded_on, repeats, replaced, seated, stays, stored_on, within}
use Rattle.spill_laws.proofs.Ranges.{all-tinies, classes-are, classes-known, made, numbered-of, once-of}
use Rattle.spill_laws.proofs.Tinies.{moving-of}

-- what stands at a place behind the first of two lists is one of the second

at-place : {X : Type 0} (ys : List X) (w : ℕ) → w < length ys → (y : X) × Member y ys × (slice_get ys w ≡ Some y)
at-place [] w h = absurd (omega (arith, h))
at-place (y ∷ ys) zero h = (y, first, refl)
at-place (y ∷ ys) (suc w) h = let z = at-place ys w (omega (arith, h)) in (z.0, later z.1, z.2)

at-further : {X : Type 0} (xs ys : List X) (w : ℕ) → length xs ≤ w → w < length (xs ++ ys) → (y : X) × Member y ys × (slice_get (xs ++ ys) w ≡ Some y)
at-further [] ys w low h = at-place ys w h
at-further (x ∷ xs) ys zero low h = absurd (omega (arith, low))
at-further (x ∷ xs) ys (suc w) low h = at-further xs ys w (omega (arith, low)) (omega (arith, h))

-- there is a class
abbrev IsThere : Option ClassId → Type 0
IsThere q = (k : ClassId) × (q ≡ Some k)

module _ (s : Spilling) (low : IsLowered s.target s.func) where
  abbrev t : Target
  t = s.target

  abbrev f : Function
  f = s.func

  itself : KeepsClasses s s.func
  itself w h = refl

  passes-there : (i : Instr) (k : Option ClassId) (from to : List Operand) → IsShaped t f i → Passes s i k from to → IsThere k
  passes-there i k from to shaped (within {d} {o} e are p q) =
      let there : Member d (registers i.operands) = subst (λ os. Member d (registers os)) (sym are) first in
      let m = moving-of s f itself low.rules.classes i shaped 0 d q (class-there t f i shaped d there) (index-there t f i shaped d there) in
      (m.class, m.is)
  passes-there i k from to shaped (stored_on {o} {slot} e are p) =
      let there : Member o (registers i.operands) = subst (λ os. Member o (registers os)) (sym are) first in
      let m = moving-of s f itself low.rules.classes i shaped 0 o p (class-there t f i shaped o there) (index-there t f i shaped o there) in
      (m.class, m.is)
  passes-there i k from to shaped (reloaded_on {o} {slot} e are p) =
      let there : Member o (registers i.operands) = subst (λ os. Member o (registers os)) (sym are) first in
      let m = moving-of s f itself low.rules.classes i shaped 0 o p (class-there t f i shaped o there) (index-there t f i shaped o there) in
      (m.class, m.is)

  module _ (p : List Instr) (shaped : (i : Instr) → Member i p → IsShaped t f i) (placed : (i : Instr) → Member i p → does is_placed t i ≡ true) where
    way-there : (v : Variable) → Member v (ways_read s p) → IsThere v.class
    way-there v m =
        let a = (filter-of (λ (x : Variable). not (is_defining x.kind)) v (each_once [] (flat_map (own_variables s) p)) m).0 in
        let b = flat-of (own_variables s) v p (once-of [] (flat_map (own_variables s) p) v a) in
        let c = (filter-of (λ (x : Variable). nat_eq x.range s.range) v (operand_variables t f b.0) b.2).0 in
        let w = variables-wide s f itself low.rules.classes b.0 (shaped b.0 b.1) (placed b.0 b.1) v c in
        (w.class, w.is)

    definition-there : (d : OwnDefinition) → Member d (definitions_in s p) → IsThere d.class
    definition-there d m =
        let a = flat-of (λ i. filter_map (own_definition s i) (numbered_operands s.target i)) d p m in
        let w = (defined s f itself low.rules.classes a.0 (shaped a.0 a.1) (placed a.0 a.1) d a.2).wide in
        (w.class, w.is)

  tinies-there : (n c : ℕ) (p : List Instr) (y : Change) → ((i : Instr) → Member i p → IsShaped t f i) → Outcome s n c p y → (x : Option ClassId × ℕ) → Member x y.tinies → IsThere x.0
  tinies-there n c p y shaped (stays k) x m = absurd (member-none x m)
  tinies-there n c p y shaped (goes k) x m = absurd (member-none x m)
  tinies-there n c p y shaped (replaced k) x m = absurd (member-none x m)
  tinies-there n c p y shaped (repeats e h i q r) x m = absurd (member-none x m)
  tinies-there n c p y shaped (passed {i} {k} {from} {to} w) x m =
      member-elim x (k, n) [] (λ e. subst IsThere (sym (ap (λ (z : Option ClassId × ℕ). z.0) e)) (passes-there i k from to (shaped i first) w)) (λ e. absurd (member-none x e)) m
  tinies-there n c p y shaped (seated placed) x m =
      let z = seats_from s c p in
      let ways = map (λ (a : ℕ × Variable). a.1.class) z.ways in
      let defs = map (λ (a : ℕ × OwnDefinition). a.1.class) z.definitions in
      let a = map-of (λ (k : Option ClassId). (k, place_name p)) x (ways ++ defs) m in
      subst IsThere (sym (ap (λ (v : Option ClassId × ℕ). v.0) a.2))
      (either-elim a.0 ways defs
      (λ q. let b = map-of (λ (v : ℕ × Variable). v.1.class) a.0 z.ways q in subst IsThere (sym b.2) (way-there p shaped placed b.0.1 (numbered-of c (ways_read s p) b.0 b.1)))
      (λ q. let b = map-of (λ (v : ℕ × OwnDefinition). v.1.class) a.0 z.definitions q in subst IsThere (sym b.2) (definition-there p shaped placed b.0.1 (numbered-of (c + length (ways_read s p)) (definitions_in s p) b.0 b.1))) a.1)

  all-there : (x : Option ClassId × ℕ) → Member x (flat_map tinies_of (all_changes s)) → IsThere x.0
  all-there = all-tinies s (λ x. IsThere x.0) (λ b mb p mp n c. tinies-there n c p (change s n c p) (λ i mi. low.rules.shaped b i mb (place-in s b p mp i mi)) (orderly s low b mb p mp n c))

  pub further-class : (w : ℕ) → length f.classes ≤ w → w < length (spilled s).classes → (k : ClassId) × (class_of (spilled s) w ≡ Some k) × IsClass t k
  further-class w from h =
      let z = at-further f.classes (made s) w from (subst (λ (cs : List (Option ClassId)). w < length cs) (classes-are s) h) in
      let y = map-of (λ (x : Option ClassId × ℕ). x.0) z.0 (flat_map tinies_of (all_changes s)) z.1 in
      let k = all-there y.0 y.1 in
      let is : class_of (spilled s) w ≡ Some k.0 =
      ap (λ (cs : List (Option ClassId)). elim (slice_get cs w) as (λ q. Option ClassId) [ None ↦ None | Some c ↦ c ]) (classes-are s)
      ∙ (ap (λ q. elim q as (λ q. Option ClassId) [ None ↦ None | Some c ↦ c ]) z.2 ∙ (y.2 ∙ k.1)) in
      (k.0, is, classes-known s low.rules.classes (orderly s low) w k.0 is)

pub spill_gives_classes : SpillGivesClasses
spill_gives_classes t f g slots new v tinies low z =
    let s = setting_of t f slots v z.facts in
    subst (λ (h : Function). (w : ℕ) → length f.classes ≤ w → w < length h.classes → (k : ClassId) × (class_of h w ≡ Some k) × IsClass t k) (sym z.func) (further-class s low)
