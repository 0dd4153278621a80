-- In a computed table the ways between blocks are found.
use Rattle.std.proofs.Common.{◌≡◌, ℕ, suc, Bool, true, false, cond, ◌||◌, List, [], ◌∷◌, ◌++◌, Option, Some, None, map, refl, sym, eqb-true, eq-eqb}
use Rattle.std.specs.Prelude.{nat_eq, option_map}
use Rattle.std.specs.List.{list_all}
use Rattle.std.proofs.lemmas.Bool.{and_from}
use Rattle.target_base.proofs.Tests.{first_of_both, second_of_both}
use Rattle.mir_func.specs.declared.func.Block.{Block}
use Rattle.mir_func.specs.declared.func.Edge.{Edge}
use Rattle.mir_meaning.specs.Registers.{has_number}
use Rattle.mir_meaning.specs.Rules.{V5, block_numbers}
use Rattle.live_lanes.specs.Ordered.{place_of}
use Rattle.split_choose.specs.Bundles.{is_found}
use Rattle.alloc_laws.specs.Offers.{WaysFoundLaw}
use Rattle.alloc_laws.proofs.Offers.Places.{all-there}

-- a number that some block has is found
found-number : (n : ℕ) (bs : List Block) → has_number (block_numbers bs) n ≡ true → is_found (place_of n bs) ≡ true
found-number n [] e = absurd (cc)
found-number n (b ∷ bs) e = go (nat_eq b.number n) refl (nat_eq n b.number) refl e (found-number n bs)
  where
    up : (o : Option ℕ) → is_found o ≡ true → is_found (option_map (λ x. suc x) o) ≡ true
    up None h = h
    up (Some k) h = refl

    go : (q : Bool) → nat_eq b.number n ≡ q → (p : Bool) → nat_eq n b.number ≡ p → (p || has_number (block_numbers bs) n) ≡ true → (has_number (block_numbers bs) n ≡ true → is_found (place_of n bs) ≡ true) → is_found (cond {A = Option ℕ} q (Some 0) (option_map (λ x. suc x) (place_of n bs))) ≡ true
    go true f p g h ih = refl
    go false f true g h ih = absurd (let z = eq-eqb b.number n (sym (eqb-true n b.number g)) in cc)
    go false f false g h ih = up (place_of n bs) (ih h)

-- so do the edges to such
edges-found : (bs : List Block) (es : List Edge) (more : List ℕ) → list_all (has_number (block_numbers bs)) (map (λ e. e.block) es ++ more) ≡ true → list_all (λ e. is_found (place_of e.block bs)) es ≡ true
edges-found bs [] more h = refl
edges-found bs (e ∷ es) more h = and_from (is_found (place_of e.block bs)) (list_all (λ d. is_found (place_of d.block bs)) es) (found-number e.block bs (first_of_both _ _ h)) (edges-found bs es more (second_of_both _ _ h))

pub ways-found : WaysFoundLaw
unfolding V5
ways-found t f x computed rules few = record {
  few = few;
  led = all-there (λ b. list_all (λ e. is_found (place_of e.block f.blocks)) b.successors) f.blocks (λ k b g. edges-found f.blocks b.successors _ (second_of_both _ _ (rules.blocks k b g)));
  ways = computed.ways.successors;
}
