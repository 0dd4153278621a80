-- Registers that are given only classes of the target.
use Rattle.std.proofs.Common.{◌≡◌, ℕ, zero, suc, Bool, true, false, List, [], ◌∷◌, ◌++◌, Option, Some, None, map, subst}
use Rattle.std.specs.Prelude.{◌==◌, slice_get, slice_set, position, if◌then◌else◌}
use Rattle.std.specs.List.{AllByRecursion}
use Rattle.target_base.specs.Storage.{same_numbers}
use Rattle.target_base.specs.declared.types.ClassId.{ClassId}
use Rattle.target_base.specs.declared.types.Target.{Target}
use Rattle.target_base.specs.Registers.{IsClass}
use Rattle.mir_read.specs.declared.ranges.AnnotatedClass.{AnnotatedClass}
use Rattle.mir_read.specs.declared.ranges.AnnotatedClass.TheVariants as given
use Rattle.mir_read.specs.declared.ranges.Ranges.{Ranges}
use Rattle.mir_read.specs.Ranges.{one_of, joined, given_at, given_if, given_to, mentioned_at, mentioned, class_in}

-- where one class is given, it is one of the target
abbrev pub GivesClass : Target → AnnotatedClass → Type 0
GivesClass t given.Nothing = Unit {0}
GivesClass t (given.One c) = IsClass t c
GivesClass t given.Several = Unit {0}

abbrev pub GiveClasses : Target → Ranges → Type 0
GiveClasses t r = AllByRecursion (GivesClass t) r.given

module _ (t : Target) where
  one-gives : (c d : ClassId) → IsClass t c → GivesClass t (one_of c d)
  one-gives c d h = go (c.0 == d.0)
    where
      go : (b : Bool) → GivesClass t (if b then given.One c else given.Several)
      go true = h
      go false = tt

  pub joined-gives : (g k : AnnotatedClass) → GivesClass t g → GivesClass t k → GivesClass t (joined g k)
  joined-gives given.Nothing k h j = j
  joined-gives (given.One c) given.Nothing h j = h
  joined-gives (given.One c) (given.One d) h j = one-gives c d h
  joined-gives (given.One c) given.Several h j = tt
  joined-gives given.Several k h j = tt

  pub at-gives : (gs : List AnnotatedClass) (k : ℕ) → AllByRecursion (GivesClass t) gs → GivesClass t (given_at gs k)
  at-gives [] k h = tt
  at-gives (g ∷ gs) zero h = h.0
  at-gives (g ∷ gs) (suc k) h = at-gives gs k h.1

  put-gives : (gs : List AnnotatedClass) (g : AnnotatedClass) → AllByRecursion (GivesClass t) gs → GivesClass t g → AllByRecursion (GivesClass t) (gs ++ g ∷ [])
  put-gives [] g h j = (j, tt)
  put-gives (x ∷ gs) g h j = (h.0, put-gives gs g h.1 j)

  set-gives : (gs : List AnnotatedClass) (k : ℕ) (g : AnnotatedClass) → AllByRecursion (GivesClass t) gs → GivesClass t g → AllByRecursion (GivesClass t) (slice_set gs k g)
  set-gives [] k g h j = tt
  set-gives (x ∷ gs) zero g h j = (j, h.1)
  set-gives (x ∷ gs) (suc k) g h j = (h.0, set-gives gs k g h.1 j)

  pub to-gives : (r : Ranges) (name : List ℕ) → GiveClasses t r → GivesClass t (given_to r name)
  to-gives r name h = go (position (same_numbers name) r.names)
    where
      go : (q : Option ℕ) → GivesClass t (given_if r.given q)
      go None = tt
      go (Some k) = at-gives r.given k h

  -- a register is named, and given something
  pub mentioned-gives : (r : Ranges) (name : List ℕ) (first g : AnnotatedClass) → GiveClasses t r → GivesClass t first → GivesClass t g → GiveClasses t (mentioned r name first g)
  unfolding mentioned
  mentioned-gives r name first g h i j = go (position (same_numbers name) r.names)
    where
      go : (q : Option ℕ) → GiveClasses t (mentioned_at r name first g q)
      go None = put-gives r.given (joined first g) h (joined-gives first g i j)
      go (Some k) = set-gives r.given k (joined (given_at r.given k) g) h (joined-gives (given_at r.given k) g (at-gives r.given k h) j)

  in-class : (g : AnnotatedClass) (c : ClassId) → GivesClass t g → class_in g ≡ Some c → IsClass t c
  in-class given.Nothing c h e = absurd (cc)
  in-class (given.One d) c h e = let same : d ≡ c = cc in subst (IsClass t) same h
  in-class given.Several c h e = absurd (cc)

  -- the class of each place
  pub class-given : (gs : List AnnotatedClass) (v : ℕ) (c : ClassId) → AllByRecursion (GivesClass t) gs → elim (slice_get (map class_in gs) v) [ None ↦ None | Some o ↦ o ] ≡ Some c → IsClass t c
  class-given [] v c h e = absurd (cc)
  class-given (g ∷ gs) zero c h e = in-class g c h.0 e
  class-given (g ∷ gs) (suc v) c h e = class-given gs v c h.1 e
