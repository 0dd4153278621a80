-- Uses that are the same variable, and what is found in lists.
use Rattle.std.proofs.Common.{◌≡◌, ◌∷◌, ◌∙◌, ◌&&◌, ◌||◌, not, ℕ, suc, Bool, true, false, cond, List, Option, Some, None, refl, sym, ap, subst, eq-eqb, eqb-true, []}
use Rattle.std.specs.Prelude.{find, nat_eq}
use Rattle.std.specs.List.{list_any}
use Rattle.target_base.specs.declared.types.ClassId.{ClassId}
use Rattle.target_base.specs.declared.types.IndexId.{IndexId}
use Rattle.target_base.proofs.Tests.{first_of_both, second_of_both}
use Rattle.meaning.specs.Live.{Among as Member, here as first, there as later}
use Rattle.mir_func.specs.Binding.{numbered, same_index}
use Rattle.mir_meaning.specs.Places.{Variable, each_once, is_defining, same_class, same_use}
use Rattle.instr_effects.proofs.Members.{member-elim, member-none}
use Rattle.spill_laws.proofs.Given.{same-index-is}
use Rattle.spill_laws.proofs.TinySeats.{same-class-is}

-- each thing of a list has a number
pub numbered-in : {X : Type 0} (n : ℕ) (xs : List X) (x : X) → Member x xs → (k : ℕ) × Member (k, x) (numbered n xs)
numbered-in n [] x m = absurd (member-none x m)
numbered-in {X = X} n (y ∷ xs) x m = member-elim x y xs (λ e. (n, subst (λ z. Member (n, z) ((n, y) ∷ numbered (suc n) xs)) (sym e) first)) (λ k. let w = numbered-in (suc n) xs x k in (w.0, later w.1)) m

-- one that passes the test is found
pub finds : {X : Type 0} (test : X → Bool) (xs : List X) (x : X) → Member x xs → test x ≡ true → (y : X) × (find test xs ≡ Some y) × Member y xs × (test y ≡ true)
finds test [] x m e = absurd (member-none x m)
finds {X = X} test (y ∷ xs) x m e = go (test y) refl (λ k. finds test xs x k e)
  where
    go : (b : Bool) → test y ≡ b → (Member x xs → (z : X) × (find test xs ≡ Some z) × Member z xs × (test z ≡ true)) → (z : X) × (find test (y ∷ xs) ≡ Some z) × Member z (y ∷ xs) × (test z ≡ true)
    go true g ih = (y, ap (λ b. cond b (Some y) (find test xs)) g, first, g)
    go false g ih = member-elim x y xs (λ q. absurd (let u = ap test q in cc)) (λ k. let w = ih k in (w.0, ap (λ b. cond b (Some y) (find test xs)) g ∙ w.1, later w.2, w.3)) m

-- one use

index-self : (x : Option IndexId) → same_index x x ≡ true
index-self None = refl
index-self (Some x) = eq-eqb x.0 x.0 refl

class-self : (x : Option ClassId) → same_class x x ≡ true
class-self None = refl
class-self (Some x) = eq-eqb x.0 x.0 refl

pub record OneUse (a b : Variable) : Type 0 where
  pub first_uses : is_defining a.kind ≡ false
  pub second_uses : is_defining b.kind ≡ false
  pub range : a.range ≡ b.range
  pub index : a.index ≡ b.index
  pub class : a.class ≡ b.class

pub one-use : (a b : Variable) → same_use a b ≡ true → OneUse a b
one-use a b e =
    let x = first_of_both (not (is_defining a.kind || is_defining b.kind) && nat_eq a.range b.range && same_index a.index b.index) (same_class a.class b.class) e in
    let y = first_of_both (not (is_defining a.kind || is_defining b.kind) && nat_eq a.range b.range) (same_index a.index b.index) x in
    let z = first_of_both (not (is_defining a.kind || is_defining b.kind)) (nat_eq a.range b.range) y in
    record {
      first_uses = left (is_defining a.kind) (is_defining b.kind) z;
      second_uses = right (is_defining a.kind) (is_defining b.kind) z;
      range = eqb-true a.range b.range (second_of_both (not (is_defining a.kind || is_defining b.kind)) (nat_eq a.range b.range) y);
      index = same-index-is a.index b.index (second_of_both (not (is_defining a.kind || is_defining b.kind) && nat_eq a.range b.range) (same_index a.index b.index) x);
      class = same-class-is a.class b.class (second_of_both (not (is_defining a.kind || is_defining b.kind) && nat_eq a.range b.range && same_index a.index b.index) (same_class a.class b.class) e);
    }
  where
    left : (u v : Bool) → not (u || v) ≡ true → u ≡ false
    left true v q = absurd (cc)
    left false v q = refl

    right : (u v : Bool) → not (u || v) ≡ true → v ≡ false
    right true v q = absurd (cc)
    right false true q = absurd (cc)
    right false false q = refl

pub use-same : (a b : Variable) → OneUse a b → same_use a b ≡ true
use-same a b z =
    (λ k. not (z.first_uses k || z.second_uses k) && nat_eq (z.range k) b.range && same_index (z.index k) b.index && same_class (z.class k) b.class)
    ∙ (λ k. eq-eqb b.range b.range refl k && index-self b.index k && class-self b.class k)

pub use-turned : (a b : Variable) → OneUse a b → OneUse b a
use-turned a b z = record { first_uses = z.second_uses; second_uses = z.first_uses; range = sym z.range; index = sym z.index; class = sym z.class }

-- among variables that stand once a use has one that is the same
pub once-there : (seen vs : List Variable) (v : Variable) → is_defining v.kind ≡ false → Member v vs → list_any (same_use v) seen ≡ false → (w : Variable) × Member w (each_once seen vs) × OneUse v w
once-there seen [] v u m none = absurd (member-none v m)
once-there seen (x ∷ vs) v u m none = go (list_any (same_use x) seen) refl (λ more k n. once-there more vs v u k n)
  where
    itself : OneUse v v
    itself = record { first_uses = u; second_uses = u; range = refl; index = refl; class = refl }

    by-test : (b : Bool) → same_use v x ≡ b → Member v vs → ((more : List Variable) → Member v vs → list_any (same_use v) more ≡ false → (w : Variable) × Member w (each_once more vs) × OneUse v w) → (w : Variable) × Member w (x ∷ each_once (x ∷ seen) vs) × OneUse v w
    by-test true e k ih = (x, first, one-use v x e)
    by-test false e k ih = let y = ih (x ∷ seen) k (λ j. e j || none j) in (y.0, later y.1, y.2)

    go : (b : Bool) → list_any (same_use x) seen ≡ b → ((more : List Variable) → Member v vs → list_any (same_use v) more ≡ false → (w : Variable) × Member w (each_once more vs) × OneUse v w)
        → (w : Variable) × Member w (cond b (each_once seen vs) (x ∷ each_once (x ∷ seen) vs)) × OneUse v w
    go true e ih = member-elim v x vs (λ q. absurd (let w : list_any (same_use v) seen ≡ true = ap (λ y. list_any (same_use y) seen) q ∙ e in cc)) (λ k. ih seen k none) m
    go false e ih = member-elim v x vs (λ q. (x, first, subst (OneUse v) q itself)) (λ k. by-test (same_use v x) refl k ih) m
