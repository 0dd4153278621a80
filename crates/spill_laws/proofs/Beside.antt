-- What stands before and behind a place with tinies keeps the rules, where each tiny has its class.
use Rattle.std.proofs.Common.{◌≡◌, ◌+◌, ◌++◌, ◌∙◌, ℕ, zero, suc, true, List, [], ◌∷◌, Option, Some, flat_map, length, map, refl, sym, ap, subst, arith}
use Rattle.std.specs.Prelude.{is_some, slice_get}
use Rattle.target_base.specs.declared.types.ClassId.{ClassId}
use Rattle.meaning.specs.Live.{Among as Member}
use Rattle.mir_func.specs.declared.func.Instr.{Instr}
use Rattle.mir_func.specs.declared.func.Block.{Block}
use Rattle.mir_func.specs.Value.{Function}
use Rattle.mir_func.specs.Binding.{class_of, does, numbered}
use Rattle.mir_meaning.specs.Places.{Variable}
use Rattle.instr_effects.proofs.Members.{either-elim, flat-of, map-of}
use Rattle.live_laws.specs.Effects.Shaped.{AreClasses, IsShaped}
use Rattle.live_laws.proofs.Effects.Blocks.{member-slice}
use Rattle.lowering_laws.specs.Form.{is_lowered}
use Rattle.spiller.specs.Setting.{Spilling}
use Rattle.spiller.specs.Rematerialised.{ways_read}
use Rattle.spiller.specs.Spilled.{OwnDefinition, definitions_in, given, place_change, place_name, stored, tied_reload}
use Rattle.spill_laws.specs.Laws.{BesidesKeepRules, IsInForm, is_placed}
use Rattle.spill_laws.proofs.Given.{given-good, stored-good, tied-good}
use Rattle.spill_laws.proofs.Ranges.{before, behind, numbered-of, repeatable-known}

map-at : {X Y : Type 0} (h : X → Y) (xs : List X) (j : ℕ) (x : X) → slice_get xs j ≡ Some x → slice_get (map h xs) j ≡ Some (h x)
map-at h [] j x e = absurd (cc)
map-at {X = X} h (y ∷ xs) zero x e = ap Some (ap h (same y x e))
  where
    same : (a b : X) → Some a ≡ Some b → a ≡ b
    same a b e = cc
map-at h (y ∷ xs) (suc j) x e = map-at h xs j x e

number-at : {X : Type 0} (c : ℕ) (xs : List X) (j : ℕ) (p : ℕ × X) → slice_get (numbered c xs) j ≡ Some p → p.0 ≡ c + j
number-at c [] j p e = absurd (cc)
number-at {X = X} c (x ∷ xs) zero p e = sym (ap (λ (q : ℕ × X). q.0) (same (c, x) p e)) ∙ nothing c
  where
    same : (a b : ℕ × X) → Some a ≡ Some b → a ≡ b
    same a b e = cc

    nothing : (c : ℕ) → c ≡ c + 0
    nothing c = omega arith
number-at c (x ∷ xs) (suc j) p e = number-at (suc c) xs j p e ∙ one c j
  where
    one : (c j : ℕ) → suc c + j ≡ c + suc j
    one c j = omega arith

numbered-long : {X : Type 0} (c : ℕ) (xs : List X) → length (numbered c xs) ≡ length xs
numbered-long c [] = refl
numbered-long c (x ∷ xs) = ap suc (numbered-long (suc c) xs)

map-long : {X Y : Type 0} (h : X → Y) (xs : List X) → length (map h xs) ≡ length xs
map-long h [] = refl
map-long h (x ∷ xs) = ap suc (map-long h xs)

module _ (s : Spilling) (g : Function) (c : ℕ) (p : List Instr) (has : (j : ℕ) (k : Option ClassId) → slice_get (map (λ (x : Option ClassId × ℕ). x.0) (place_change s c p).tinies) j ≡ Some k → class_of g (c + j) ≡ k) where
  abbrev way-class : ℕ × Variable → Option ClassId
  way-class x = x.1.class

  abbrev definition-class : ℕ × OwnDefinition → Option ClassId
  definition-class x = x.1.class

  abbrev ways : List (ℕ × Variable)
  ways = numbered c (ways_read s p)

  abbrev definitions : List (ℕ × OwnDefinition)
  definitions = numbered (c + length (ways_read s p)) (definitions_in s p)

  abbrev all : List (Option ClassId)
  all = map way-class ways ++ map definition-class definitions

  class-here : (j : ℕ) (k : Option ClassId) → slice_get all j ≡ Some k → class_of g (c + j) ≡ k
  class-here j k e = has j k (map-at (λ (x : Option ClassId × ℕ). x.0) (map (λ q. (q, place_name p)) all) j (k, place_name p) (map-at (λ q. (q, place_name p)) all j k e))

  pub way-tiny : (x : ℕ × Variable) → Member x ways → class_of g x.0 ≡ x.1.class
  way-tiny x m =
      let z = member-slice x ways m in
      ap (class_of g) (number-at c (ways_read s p) z.0 x z.1)
      ∙ class-here z.0 x.1.class (before (map way-class ways) (map definition-class definitions) z.0 x.1.class (map-at way-class ways z.0 x z.1))

  pub definition-tiny : (x : ℕ × OwnDefinition) → Member x definitions → class_of g x.0 ≡ x.1.class
  definition-tiny x m =
      let z = member-slice x definitions m in
      let n = length (ways_read s p) in
      let long : length (map way-class ways) ≡ n = map-long way-class ways ∙ numbered-long c (ways_read s p) in
      let there : slice_get all (n + z.0) ≡ Some x.1.class = ap (λ k. slice_get all (k + z.0)) (sym long) ∙ (behind (map way-class ways) (map definition-class definitions) z.0 ∙ map-at definition-class definitions z.0 x z.1) in
      ap (class_of g) (number-at (c + n) (definitions_in s p) z.0 x z.1 ∙ assoc c n z.0) ∙ class-here (n + z.0) x.1.class there
    where
      assoc : (a b d : ℕ) → (a + b) + d ≡ a + (b + d)
      assoc a b d = omega arith

  module _ (stay : (w : ℕ) → is_some (class_of s.func w) ≡ true → class_of g w ≡ class_of s.func w) (classes : AreClasses s.target s.func) (rules : (b : Block) (j : Instr) → Member b s.func.blocks → Member j b.instrs → IsShaped s.target s.func j)
      (shaped : (i : Instr) → Member i p → IsShaped s.target s.func i) (placed : (i : Instr) → Member i p → does is_placed s.target i ≡ true) (low : (i : Instr) → Member i p → is_lowered s.target i ≡ true) where
    before-good : (x : Instr) → Member x (place_change s c p).before → IsInForm s.target g x
    before-good x m =
        either-elim x (map (given s p) ways) (flat_map (tied_reload s) definitions)
        (λ k. let z = map-of (given s p) x ways k in
        subst (IsInForm s.target g) (sym z.2) (given-good s g stay classes rules p shaped placed low z.0.0 z.0.1 (numbered-of c (ways_read s p) z.0 z.1) (way-tiny z.0 z.1) (repeatable-known s.target)))
        (λ k. let z = flat-of (tied_reload s) x definitions k in
        tied-good s g stay classes rules p shaped placed low z.0.0 z.0.1 (numbered-of (c + length (ways_read s p)) (definitions_in s p) z.0 z.1) (definition-tiny z.0 z.1) x z.2) m

    behind-good : (x : Instr) → Member x (place_change s c p).behind → IsInForm s.target g x
    behind-good x m =
        let z = flat-of (stored s) x definitions m in
        stored-good s g stay classes rules p shaped placed low z.0.0 z.0.1 (numbered-of (c + length (ways_read s p)) (definitions_in s p) z.0 z.1) (definition-tiny z.0 z.1) x z.2

    pub besides : (x : Instr) → Member x ((place_change s c p).before ++ (place_change s c p).behind) → IsInForm s.target g x
    besides x m = either-elim x (place_change s c p).before (place_change s c p).behind (before-good x) (behind-good x) m

pub besides_keep_rules : BesidesKeepRules
besides_keep_rules s g c p stay classes rules shaped placed low has x m = besides s g c p has stay classes rules shaped placed low x m
