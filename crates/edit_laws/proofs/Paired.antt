-- Lists whose elements go together, one by one.
use Rattle.std.proofs.Common.{◌∷◌, ◌++◌, ℕ, zero, suc, List, [], Option, Some, None, map, filter_map, flat_map}
use Rattle.std.specs.List.{cons_option}
use Rattle.meaning.specs.Live.{Among, here, there}
use Rattle.mir_meaning.specs.Items.{pick}

pub data Paired {X Y : Type 0} (R : X → Y → Type 0) : List X → List Y → Type 0 where
  no_pairs : Paired R [] []
  pair : {x : X} {y : Y} {xs : List X} {ys : List Y} → R x y → Paired R xs ys → Paired R (x ∷ xs) (y ∷ ys)

-- both are there and go together, or neither is
pub data BothOrNone {X Y : Type 0} (R : X → Y → Type 0) : Option X → Option Y → Type 0 where
  neither : BothOrNone R None None
  both : {x : X} {y : Y} → R x y → BothOrNone R (Some x) (Some y)

pub append-paired : {X Y : Type 0} {R : X → Y → Type 0} {xs us : List X} {ys vs : List Y} → Paired R xs ys → Paired R us vs → Paired R (xs ++ us) (ys ++ vs)
append-paired no_pairs q = q
append-paired (pair r p) q = pair r (append-paired p q)

-- what is made of one list
pub map-paired : {A X Y : Type 0} {R : X → Y → Type 0} (f : A → X) (g : A → Y) (zs : List A) → ((z : A) → Among z zs → R (f z) (g z)) → Paired R (map f zs) (map g zs)
map-paired f g [] h = no_pairs
map-paired f g (z ∷ zs) h = pair (h z here) (map-paired f g zs (λ y m. h y (there m)))

pub flat-map-paired : {A X Y : Type 0} {R : X → Y → Type 0} (f : A → List X) (g : A → List Y) (zs : List A) → ((z : A) → Among z zs → Paired R (f z) (g z)) → Paired R (flat_map f zs) (flat_map g zs)
flat-map-paired f g [] h = no_pairs
flat-map-paired f g (z ∷ zs) h = append-paired (h z here) (flat-map-paired f g zs (λ y m. h y (there m)))

cons-paired : {X Y : Type 0} {R : X → Y → Type 0} {o : Option X} {q : Option Y} {xs : List X} {ys : List Y} → BothOrNone R o q → Paired R xs ys → Paired R (cons_option o xs) (cons_option q ys)
cons-paired neither p = p
cons-paired (both r) p = pair r p

pub filter-map-paired : {A X Y : Type 0} {R : X → Y → Type 0} (f : A → Option X) (g : A → Option Y) (zs : List A) → ((z : A) → Among z zs → BothOrNone R (f z) (g z)) → Paired R (filter_map f zs) (filter_map g zs)
filter-map-paired f g [] h = no_pairs
filter-map-paired f g (z ∷ zs) h = cons-paired (h z here) (filter-map-paired f g zs (λ y m. h y (there m)))

-- what is made of two that go together
pub mapped-paired : {X Y U V : Type 0} {R : X → Y → Type 0} {S : U → V → Type 0} (f : X → U) (g : Y → V) → ((x : X) (y : Y) → R x y → S (f x) (g y)) → {xs : List X} {ys : List Y} → Paired R xs ys → Paired S (map f xs) (map g ys)
mapped-paired f g h no_pairs = no_pairs
mapped-paired f g h (pair {x = x} {y = y} r p) = pair (h x y r) (mapped-paired f g h p)

pub pick-paired : {X Y : Type 0} {R : X → Y → Type 0} (k : ℕ) {xs : List X} {ys : List Y} → Paired R xs ys → Paired R (pick k xs) (pick k ys)
pick-paired k no_pairs = no_pairs
pick-paired zero (pair r p) = pair r no_pairs
pick-paired (suc k) (pair r p) = pick-paired k p
