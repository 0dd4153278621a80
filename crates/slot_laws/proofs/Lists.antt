-- Lists and tests.
use Rattle.std.proofs.Common.{◌≡◌, Bool, true, false, cond, List, [], ◌∷◌, Some, None, refl, sym, ap, ◌∙◌, subst}
use Rattle.std.specs.Prelude.{find}
use Rattle.std.specs.List.{list_any}
use Rattle.std.proofs.lemmas.Bool.{or_parts}
use Rattle.meaning.specs.Live.{Among as Member, here as first, there as later}
use Rattle.instr_effects.proofs.Members.{member-none, member-elim}
use Rattle.live_laws.proofs.Effects.Moving.{some-same}

-- an element that is found is in the list and passes
pub found-in : {X : Type 0} (p : X → Bool) (xs : List X) (x : X) → find p xs ≡ Some x → Member x xs × (p x ≡ true)
found-in p [] x e = absurd (cc)
found-in {X} p (y ∷ xs) x e = go (p y) refl e (found-in p xs x)
  where
    go : (b : Bool) → p y ≡ b → cond b (Some y) (find p xs) ≡ Some x → (find p xs ≡ Some x → Member x xs × (p x ≡ true)) → Member x (y ∷ xs) × (p x ≡ true)
    go true h g ih = let same : y ≡ x = some-same y x g in (subst (λ z. Member z (y ∷ xs)) same first, ap p (sym same) ∙ h)
    go false h g ih = let z = ih g in (later z.0, z.1)

-- where none is found, none passes
pub none-found : {X : Type 0} (p : X → Bool) (xs : List X) (x : X) → find p xs ≡ None → Member x xs → p x ≡ true → ⊥
none-found p [] x e m h = member-none x m
none-found {X} p (y ∷ xs) x e m h = go (p y) refl e (none-found p xs x)
  where
    go : (b : Bool) → p y ≡ b → cond b (Some y) (find p xs) ≡ None → (find p xs ≡ None → Member x xs → p x ≡ true → ⊥) → ⊥
    go true g k ih = cc
    go false g k ih = member-elim x y xs (λ s. let t : p x ≡ p y = ap p s in cc) (λ j. ih k j h) m

-- what none passes, this one doesn't
pub any-none : {X : Type 0} (p : X → Bool) (x : X) (xs : List X) → Member x xs → list_any p xs ≡ false → p x ≡ false
any-none p x [] m e = absurd (member-none x m)
any-none p x (y ∷ xs) m e = let z = or_parts (p y) (list_any p xs) e in member-elim x y xs (λ s. ap p s ∙ z.0) (λ k. any-none p x xs k z.1) m
