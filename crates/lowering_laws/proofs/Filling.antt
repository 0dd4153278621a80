-- What definitions give to a lane, and what those in their places give to the lane that it comes from.
use Rattle.std.proofs.Common.{◌≡◌, ◌∷◌, ◌++◌, ◌∙◌, ◌&&◌, ◌||◌, ◌+◌, not, ℕ, suc, Bool, true, false, cond, List, Option, Some, None, map, filter, length, refl, sym, ap, subst, append_assoc, []}
use Rattle.std.specs.Prelude.{option_map}
use Rattle.std.specs.List.{list_any}
use Rattle.target_base.specs.declared.types.Effect.{Effect}
use Rattle.target_base.specs.declared.types.Effect.TheVariants as effects
use Rattle.target_base.specs.declared.types.OpaqueKind.{OpaqueKind}
use Rattle.target_base.specs.declared.types.OpaqueKind.TheVariants as kinds
use Rattle.target_base.specs.declared.types.Role.{Role}
use Rattle.target_base.specs.declared.types.Target.{Target}
use Rattle.target_base.specs.declared.types.Unit.{Unit as UnitNumber}
use Rattle.target_base.specs.Registers.{units_of}
use Rattle.meaning.specs.Lanes.{Writes, filled, same_lane}
use Rattle.meaning.specs.Live.{Among, here, there}
use Rattle.meaning.specs.Relations.{AlikeFill, Rel}
use Rattle.meaning.specs.declared.types.Fill.TheVariants.{Moved}
use Rattle.meaning.specs.declared.types.Lane.{Lane}
use Rattle.meaning.specs.declared.types.Lane.TheVariants.{UnitLane, VirtualLane}
use Rattle.meaning.specs.declared.types.Source.TheVariants.{FromLane, Undef}
use Rattle.mir_func.specs.declared.func.Loc.{Loc}
use Rattle.mir_func.specs.declared.func.Loc.TheVariants.{Fixed, Virtual}
use Rattle.mir_func.specs.declared.func.RegOp.{RegOp}
use Rattle.mir_func.specs.declared.func.Operand.{Operand}
use Rattle.mir_func.specs.declared.func.Instr.{Instr}
use Rattle.mir_func.specs.Value.{Function}
use Rattle.mir_func.specs.Binding.{Definition, definitions, implicit_registers, implicit_roles, roles_of}
use Rattle.mir_meaning.specs.Registers.{is_reserved, numbers, located_lanes, operand_lanes, undefined_lanes, unit_lanes, whole_lanes}
use Rattle.mir_meaning.specs.Items.{all_lanes, answered, clobbered, computed, defined_lanes, further_writes, implicit_definitions, implicit_writes, is_flags, kept, opaque_clobbers, preserves, results, undefined, unreserved}
use Rattle.mir_meaning.specs.Renaming.{IsFixed}
use Rattle.instr_effects.proofs.Members.{filter-of, member-elim, member-none}
use Rattle.lowering_laws.proofs.Found.{by_place, computed-filled, computed-missed, misses, place, undef_by_place, undefined-filled, undefined-missed}
use Rattle.lowering_laws.proofs.Places.{AlikeDefinitions, lanes-long}
use Rattle.lowering_laws.proofs.Traced.{is_written, written-append}

-- lanes of physical registers alone

append-missed : (xs ys : List Lane) (a : Lane) → place xs a ≡ None → place ys a ≡ None → place (xs ++ ys) a ≡ None
append-missed [] ys a e g = g
append-missed (l ∷ xs) ys a e g = let z = misses l xs a e in λ k. cond (z.0 k) (Some 0) (option_map suc (append-missed xs ys a z.1 g k))

filter-missed : (p : Lane → Bool) (ls : List Lane) (a : Lane) → place ls a ≡ None → place (filter p ls) a ≡ None
filter-missed p [] a e = refl
filter-missed p (l ∷ ls) a e = let z = misses l ls a e in go (p l) z.0 (filter-missed p ls a z.1)
  where
    go : (y : Bool) → same_lane l a ≡ false → place (filter p ls) a ≡ None → place (cond y (l ∷ filter p ls) (filter p ls)) a ≡ None
    go true q ih = λ k. cond (q k) (Some 0) (option_map suc (ih k))
    go false q ih = ih

numbers-missed : (us : List ℕ) (v k : ℕ) → place (map UnitLane us) (VirtualLane v k) ≡ None
numbers-missed [] v k = refl
numbers-missed (u ∷ us) v k = ap (option_map suc) (numbers-missed us v k)

units-missed : (us : List UnitNumber) (v k : ℕ) → place (unit_lanes us) (VirtualLane v k) ≡ None
units-missed [] v k = refl
units-missed (u ∷ us) v k = ap (option_map suc) (units-missed us v k)

kept-missed : (t : Target) (ws : Writes) (a : Lane) → is_written ws a ≡ false → is_written (kept t ws) a ≡ false
kept-missed t [] a e = refl
kept-missed t (w ∷ ws) a e = go (not (is_reserved t w.lane)) (same_lane w.lane a) refl e (kept-missed t ws a)
  where
    go : (y z : Bool) → same_lane w.lane a ≡ z → (z || is_written ws a) ≡ false → (is_written ws a ≡ false → is_written (kept t ws) a ≡ false) → is_written (cond y (w ∷ kept t ws) (kept t ws)) a ≡ false
    go y true q e ih = absurd (cc)
    go true false q e ih = λ k. q k || ih e k
    go false false q e ih = ih e

module _ (t : Target) (f : Function) where
  abbrev pub AllFixed : List RegOp → Type 0
  AllFixed os = (o : RegOp) → Among o os → IsFixed o.loc

  fixed-missed : (os : List RegOp) (v k : ℕ) → AllFixed os → place (all_lanes t f os) (VirtualLane v k) ≡ None
  fixed-missed [] v k h = refl
  fixed-missed (o ∷ os) v k h = append-missed (operand_lanes t f o) (all_lanes t f os) (VirtualLane v k) (at o.loc refl (h o here)) (fixed-missed os v k (λ q m. h q (there m)))
    where
      at : (l : Loc) → o.loc ≡ l → IsFixed l → place (located_lanes t f l o.index) (VirtualLane v k) ≡ None
      at (Virtual w) e g = absurd (g)
      at (Fixed r) e g = units-missed (units_of t r) v k

  module _ (os : List Operand) (v k : ℕ) (fixed : AllFixed (implicit_registers os)) where
    abbrev a : Lane
    a = VirtualLane v k

    abbrev ms : List RegOp
    ms = implicit_definitions os

    defined-fixed : AllFixed ms
    defined-fixed o m = fixed o (filter-of (λ (q : RegOp). q.def) o (implicit_registers os) m).0

    clobbers-missed : place (clobbered t os) a ≡ None
    clobbers-missed = let us = filter (λ u. not (list_any (preserves t u) os)) (numbers 0 (length t.units)) in filter-missed (λ l. not (is_reserved t l)) (map UnitLane us) a (numbers-missed us v k)

    flags-fixed : (rs : List Role) → AllFixed (filter (is_flags rs) ms)
    flags-fixed rs o m = defined-fixed o (filter-of (is_flags rs) o ms m).0

    implicit-missed : (e : Effect) (rs : List Role) → is_written (implicit_writes t f e rs os) a ≡ false
    implicit-missed effects.Cmp rs =
        kept-missed t (computed false 0 (all_lanes t f (filter (is_flags rs) ms)) ++ undefined false (all_lanes t f ms)) a
        (written-append (computed false 0 (all_lanes t f (filter (is_flags rs) ms))) (undefined false (all_lanes t f ms)) a
        (computed-missed false 0 (all_lanes t f (filter (is_flags rs) ms)) a (fixed-missed (filter (is_flags rs) ms) v k (flags-fixed rs)))
        (undefined-missed false (all_lanes t f ms) a (fixed-missed ms v k defined-fixed)))
    implicit-missed effects.Call rs =
        written-append (computed false 0 (answered t f os)) (undefined false (clobbered t os)) a
        (computed-missed false 0 (answered t f os) a (filter-missed (λ l. not (is_reserved t l)) (all_lanes t f ms) a (fixed-missed ms v k defined-fixed)))
        (undefined-missed false (clobbered t os) a clobbers-missed)
    implicit-missed e rs = undefined-missed false (unreserved t (all_lanes t f ms)) a (filter-missed (λ l. not (is_reserved t l)) (all_lanes t f ms) a (fixed-missed ms v k defined-fixed))

    opaque-missed : (kind : OpaqueKind) → is_written (opaque_clobbers t kind os) a ≡ false
    opaque-missed kinds.Call = undefined-missed false (clobbered t os) a clobbers-missed
    opaque-missed kind = refl

  -- what is written beside explicit definitions is of physical registers
  pub further-missed : (e : Effect) (i : Instr) (v k : ℕ) → AllFixed (implicit_registers i.operands) → is_written (further_writes t f e i) (VirtualLane v k) ≡ false
  further-missed (effects.Opaque kind) i v k fixed =
      let n = length (defined_lanes t f (definitions (roles_of t i) i.operands)) in
      let ds = implicit_definitions i.operands in
      written-append (computed false n (all_lanes t f ds)) (opaque_clobbers t kind i.operands) (VirtualLane v k)
      (computed-missed false n (all_lanes t f ds) (VirtualLane v k) (fixed-missed ds v k (defined-fixed i.operands v k fixed)))
      (opaque-missed i.operands v k fixed kind)
  further-missed e i v k fixed = implicit-missed i.operands v k fixed e (implicit_roles (roles_of t i))

module _ (t : Target) (f : Function) (R : Rel) (Comes : Lane → Lane → Type 0) (a a' : Lane) (came : Comes a a') where
  -- no definition gives the lane a value
  abbrev NoneGiven : List Definition → Type 0
  NoneGiven ds = (d : Definition) → Among d ds → place (operand_lanes t f d.1) a ≡ None

  -- nor does one make it Undef
  abbrev pub NoneNames : List Definition → Type 0
  NoneNames ds = (d : Definition) → Among d ds → (place (operand_lanes t f d.1) a ≡ None) × (place (undefined_lanes t f d.1) a ≡ None)

  -- where a definition makes the lane Undef
  abbrev pub Blank : List Definition → Writes → Type 0
  Blank ds F = NoneGiven ds × (filled F a' ≡ Moved (FromLane a')) × R Undef (FromLane a')

  cleared : (d' : RegOp) → d'.undef ≡ false → undefined_lanes t f d' ≡ []
  cleared d' e = (λ k. cond (d'.def && e k) (whole_lanes t f d'.loc) []) ∙ none d'.def
    where
      none : (y : Bool) → cond (y && false) (whole_lanes t f d'.loc) [] ≡ []
      none true = refl
      none false = refl

  -- the first definition, and the others
  first-filled : (early : Bool) (n : ℕ) (ls us : List Lane) (B F : Writes) (l : Lane) → filled (((computed early n ls ++ undefined early us) ++ B) ++ F) l ≡ by_place n (place ls l) (undef_by_place (place us l) (filled (B ++ F) l))
  first-filled early n ls us B F l =
      (λ k. filled (append_assoc (computed early n ls ++ undefined early us) B F k) l)
      ∙ ((λ k. filled (append_assoc (computed early n ls) (undefined early us) (B ++ F) k) l)
      ∙ (computed-filled early n ls (undefined early us ++ (B ++ F)) l
      ∙ ap (λ x. by_place n (place ls l) x) (undefined-filled early us (B ++ F) l)))

  -- those in their places give it nothing either
  free-results : (n : ℕ) (ds ds' : List Definition) → AlikeDefinitions t f R Comes ds ds' → NoneGiven ds → (F : Writes) → filled (results t f n ds' ++ F) a' ≡ filled F a'
  free-results n [] [] z g F = refl
  free-results n [] (d' ∷ ds') z g F = absurd (z)
  free-results n (d ∷ ds) [] z g F = absurd (z)
  free-results n (d ∷ ds) (d' ∷ ds') z g F =
      let ls' = operand_lanes t f d'.1 in
      first-filled d'.0 n ls' (undefined_lanes t f d'.1) (results t f (n + length ls') ds') F a'
      ∙ ((λ k. by_place n ((sym (z.0.lanes z.1 a a' came) ∙ g d here) k) (undef_by_place (place (cleared d'.1 (z.0.clear z.1) k) a') (filled (results t f (n + length ls') ds' ++ F) a')))
      ∙ free-results (n + length ls') ds ds' z.2 (λ x m. g x (there m)) F)

  pub fills :
      (n : ℕ) (ds ds' : List Definition) → AlikeDefinitions t f R Comes ds ds' → (F : Writes) →
      ((d : Definition) → Among d ds → (k : ℕ) → place (undefined_lanes t f d.1) a ≡ Some k → place (operand_lanes t f d.1) a ≡ None → Blank ds F) → (NoneNames ds → AlikeFill R (filled F a) (filled F a')) →
      AlikeFill R (filled (results t f n ds ++ F) a) (filled (results t f n ds' ++ F) a')
  fills n [] [] z F blank rest = rest (λ d m. absurd (member-none d m))
  fills n [] (d' ∷ ds') z F blank rest = absurd (z)
  fills n (d ∷ ds) [] z F blank rest = absurd (z)
  fills n (d ∷ ds) (d' ∷ ds') z F blank rest =
      subst (λ x. AlikeFill R x (filled (results t f n (d' ∷ ds') ++ F) a')) (sym (first-filled d.0 n ls us B F a))
      (subst (λ x. AlikeFill R (by_place n (place ls a) (undef_by_place (place us a) (filled (B ++ F) a))) x) (sym other)
      (go (place ls a) refl (place us a) refl (λ x y. fills (n + length ls) ds ds' z.2 F x y)))
    where
      ls : List Lane
      ls = operand_lanes t f d.1

      us : List Lane
      us = undefined_lanes t f d.1

      ls' : List Lane
      ls' = operand_lanes t f d'.1

      B : Writes
      B = results t f (n + length ls) ds

      B' : Writes
      B' = results t f (n + length ls) ds'

      other : filled (results t f n (d' ∷ ds') ++ F) a' ≡ by_place n (place ls a) (filled (B' ++ F) a')
      other =
          first-filled d'.0 n ls' (undefined_lanes t f d'.1) (results t f (n + length ls') ds') F a'
          ∙ (λ k. by_place n (sym (z.0.lanes z.1 a a' came) k) (undef_by_place (place (cleared d'.1 (z.0.clear z.1) k) a') (filled (results t f (n + lanes-long t f R Comes z.0 k) ds' ++ F) a')))

      Further : Type 0
      Further = ((x : Definition) → Among x ds → (k : ℕ) → place (undefined_lanes t f x.1) a ≡ Some k → place (operand_lanes t f x.1) a ≡ None → Blank ds F) → (NoneNames ds → AlikeFill R (filled F a) (filled F a')) → AlikeFill R (filled (B ++ F) a) (filled (B' ++ F) a')

      go : (p : Option ℕ) → place ls a ≡ p → (u : Option ℕ) → place us a ≡ u → Further → AlikeFill R (by_place n p (undef_by_place u (filled (B ++ F) a))) (by_place n p (filled (B' ++ F) a'))
      go (Some k) g u q ih = refl
      go None g (Some j) q ih =
          let y = blank d here j q g in
          subst (λ x. AlikeFill R (Moved Undef) x) (sym (free-results (n + length ls) ds ds' z.2 (λ x m. y.0 x (there m)) F ∙ y.1)) y.2
      go None g None q ih = ih (λ x m k e w. let y = blank x (there m) k e w in ((λ v i. y.0 v (there i)), y.1, y.2)) (λ h. rest (λ x m. member-elim x d ds (λ e. subst (λ (v : Definition). (place (operand_lanes t f v.1) a ≡ None) × (place (undefined_lanes t f v.1) a ≡ None)) (sym e) (g, q)) (λ i. h x i) m))
