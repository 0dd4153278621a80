-- Facts at places of a list.
use Rattle.std.proofs.Common.{◌≡◌, ◌∷◌, ◌&&◌, ◌<◌, ◌+◌, ℕ, zero, suc, true, [], sym, ap, subst, ◌∙◌, drop, get_or, length, arith}
use Rattle.std.proofs.lemmas.List.{at_drop_more}
use Rattle.meaning.specs.Sameness.{same_source}
use Rattle.meaning.specs.Facts.{Fact, Facts, Knowledge, all_known}
use Rattle.laws.proofs.Following.{both-true}
use Rattle.laws.proofs.Same.{source-true}
use Rattle.alloc_check.specs.Needs.{Has}

-- a fact of a list of known ones is known
pub known-at : (k : Knowledge) (facts : Facts) (i : ℕ) (d : Fact) → i < length facts → all_known k facts ≡ true → k (get_or facts i d).0 (get_or facts i d).1 ≡ true
known-at k [] i d h e = absurd (let x : ⊥ = omega (arith, h) in x)
known-at k (x ∷ facts) zero d h e = (both-true (k x.0 x.1) (all_known k facts) e).0
known-at k (x ∷ facts) (suc i) d h e = known-at k facts i d (omega (arith, h)) (both-true (k x.0 x.1) (all_known k facts) e).1

pub has-at : (facts : Facts) (i : ℕ) (f g : Fact) → i < length facts → f ≡ get_or facts i f → same_source f.0 g.0 ≡ true → same_source f.1 g.1 ≡ true → Has facts g
has-at facts i f g lt e a b k h =
    let p : k f.0 f.1 ≡ true = subst (λ y. k y.0 y.1 ≡ true) (sym e) (known-at k facts i f lt h) in
    subst (λ t. k g.0 t ≡ true) (source-true f.1 g.1 b) (subst (λ s. k s f.1 ≡ true) (source-true f.0 g.0 a) p)

-- one fact more of a list is known
pub known-more : (k : Knowledge) (facts : Facts) (i : ℕ) (d : Fact) → i < length facts → k (get_or facts i d).0 (get_or facts i d).1 ≡ true → all_known k (drop (i + 1) facts) ≡ all_known k (drop i facts)
known-more k facts i d h e = sym (at_drop_more (all_known k) facts i d h ∙ ap (λ b. b && all_known k (drop (i + 1) facts)) e)
