-- Where no block is in doubt, all are alike.
use Rattle.std.proofs.Common.{◌≡◌, ◌∷◌, ◌&&◌, ◌<◌, ◌≤◌, ℕ, zero, suc, Bool, true, false, cond, List, [], Option, Some, None, option_map, length, ltb, ltb-false, refl, sym, ap, arith}
use Rattle.std.specs.Option.{option_or}
use Rattle.std.proofs.lemmas.Bool.{and_from}
use Rattle.target_base.specs.declared.types.Target.{Target}
use Rattle.laws.proofs.Following.{both-true}
use Rattle.mir_func.specs.declared.func.Block.{Block}
use Rattle.mir_func.specs.declared.func.Place.{Place}
use Rattle.mir_func.specs.Value.{Function}
use Rattle.mir_meaning.specs.Agreement.{all_alike, block_doubt, blocks_alike, entries_alike, further_block, partner_doubt, place, same_set, unlike_block}
use Rattle.mir_meaning.specs.Valid.{listed_units}
use Rattle.alloc_check.proofs.Ordered.{AreAll}

alike-later : (bs cs : List Block) → unlike_block blocks_alike bs cs ≡ None → length cs ≤ length bs → AreAll bs cs
alike-later [] [] e le = refl
alike-later [] (c ∷ cs) e le = absurd (let x : ⊥ = omega (arith, le) in x)
alike-later (b ∷ bs) [] e le = absurd (cc)
alike-later (b ∷ bs) (c ∷ cs) e le = go (blocks_alike b c) e (λ k. alike-later bs cs k (omega (arith, le)))
  where
    go : (x : Bool) → cond x (unlike_block blocks_alike bs cs) (Some b.number) ≡ None → (unlike_block blocks_alike bs cs ≡ None → AreAll bs cs) → (x && all_alike blocks_alike bs cs) ≡ true
    go true k step = step k
    go false k step = absurd (cc)

alike-all : (t : Target) (bs cs : List Block) → 0 < length bs → unlike_block (entries_alike t) bs cs ≡ None → further_block bs cs ≡ None → AreAll bs cs
alike-all t [] cs lt e h = absurd (let x : ⊥ = omega (arith, lt) in x)
alike-all t (b ∷ bs) [] lt e h = absurd (cc)
alike-all t (b ∷ bs) (c ∷ cs) lt e h = go (blocks_alike b c) e
  where
    least : (x : Bool) → ltb (length (b ∷ bs)) (length (c ∷ cs)) ≡ x → cond x (Some b.number) None ≡ None → length (c ∷ cs) ≤ length (b ∷ bs)
    least true is k = absurd (cc)
    least false is k = ltb-false (length (b ∷ bs)) (length (c ∷ cs)) is

    lists : Bool
    lists = same_set (listed_units t b) (listed_units t c)

    rest : (x : Bool) → cond x (unlike_block blocks_alike bs cs) (Some b.number) ≡ None → unlike_block blocks_alike bs cs ≡ None
    rest true k = k
    rest false k = absurd (cc)

    go : (x : Bool) → cond (x && same_set (listed_units t b) (listed_units t c)) (unlike_block blocks_alike bs cs) (Some b.number) ≡ None → (x && all_alike blocks_alike bs cs) ≡ true
    go true k = let le = least (ltb (length (b ∷ bs)) (length (c ∷ cs))) refl h in alike-later bs cs (rest (same_set (listed_units t b) (listed_units t c)) k) (omega (arith, le))
    go false k = absurd (cc)

or-none : (t : Target) (o p : Option ℕ) → option_map (λ n. place n 0) (option_or o p) ≡ None → (o ≡ None) × (p ≡ None)
or-none t None None e = (refl, refl)
or-none t None (Some n) e = absurd (cc)
or-none t (Some n) p e = absurd (cc)

pub blocks-match : (t : Target) (f g : Function) → 0 < length f.blocks → block_doubt t f g ≡ None → all_alike blocks_alike f.blocks g.blocks ≡ true
unfolding block_doubt
blocks-match t f g lt e = let p = or-none t (unlike_block (entries_alike t) f.blocks g.blocks) (further_block f.blocks g.blocks) e in alike-all t f.blocks g.blocks lt p.0 p.1

-- a place in doubt, and none
pub doubt-none : (o p : Option Place) (q : Place) → option_or o p ≡ Some q → o ≡ None → p ≡ None → ⊥
doubt-none None None q e h k = absurd (cc)
doubt-none None (Some x) q e h k = absurd (cc)
doubt-none (Some x) p q e h k = absurd (cc)
