-- Places of a block one behind the other, and the ids of what is new.
use Rattle.std.proofs.Common.{◌≡◌, ◌∷◌, ◌++◌, ℕ, suc, List, flat_map, length, map, refl, sym, subst, append_assoc, []}
use Rattle.std.specs.List.{zip}
use Rattle.target_base.specs.declared.types.Target.{Target}
use Rattle.meaning.specs.Code.{Code, Item}
use Rattle.mir_func.specs.declared.func.Instr.{Instr}
use Rattle.mir_func.specs.declared.func.Block.{Block}
use Rattle.mir_func.specs.Value.{Function}
use Rattle.mir_meaning.specs.Codes.{item_of}
use Rattle.mir_meaning.specs.Registers.{numbers}
use Rattle.lowering_laws.proofs.Lowering.{map-append}
use Rattle.lowering_laws.proofs.Placed.{numbered-items}
use Rattle.lowering_laws.proofs.Stretches.{Stretch, joined, nothing}
use Rattle.spiller.specs.Setting.{Spilling}
use Rattle.spiller.specs.Spilled.{Change}
use Rattle.spill_laws.specs.Standing.{IdsChangeNothing, PlaceStands, PlacesJoin, PlacesStand, Stands, instrs_of, starts}

module _ (s : Spilling) (g : Function) (b c : Block) (q : Code) where
  abbrev before : List Instr → Code
  before is = map (item_of s.target s.func b) is

  abbrev behind : List Instr → Code
  behind is = map (item_of s.target g c) is

  places-join : {ps : List (List Instr)} {xs : List Change} → PlacesStand s g b c q ps xs → PlaceStands s (before (flat_map (λ r. r) ps)) (behind (flat_map instrs_of xs)) q
  places-join PlacesStand.done = nothing (starts s) (Stands s q)
  places-join (PlacesStand.more {p = p} {x = x} {ps = ps} {xs = xs} z zs) =
      let rest = flat_map (λ r. r) ps in
      let own = flat_map instrs_of xs in
      subst (λ y. Stretch (starts s) (Stands s (y ++ q)) (Stands s q) y (behind (instrs_of x ++ own))) (sym (map-append (item_of s.target s.func b) p rest))
      (subst (λ y. Stretch (starts s) (Stands s ((before p ++ before rest) ++ q)) (Stands s q) (before p ++ before rest) y) (sym (map-append (item_of s.target g c) (instrs_of x) own))
      (subst (λ y. Stretch (starts s) (Stands s y) (Stands s q) (before p ++ before rest) (behind (instrs_of x) ++ behind own)) (sym (append_assoc (before p) (before rest) q))
      (joined (starts s) (Stands s (before p ++ (before rest ++ q))) (Stands s (before rest ++ q)) (Stands s q) (before p) (behind (instrs_of x)) (before rest) (behind own) z (places-join zs))))

pub places_join : PlacesJoin
places_join s g b c q ps xs z = places-join s g b c q z

module _ (t : Target) (g : Function) (c : Block) where
  one-id : (n : ℕ) (i : Instr) → item_of t g c (record i { id = n }) ≡ item_of t g c i
  one-id n i = same (item_of t g c (record i { id = n })) (item_of t g c i) (numbered-items t g c n (i ∷ []))
    where
      same : (x y : Item) → x ∷ [] ≡ y ∷ [] → x ≡ y
      same x y e = cc

  ids-change : (n : ℕ) (is : List Instr) → map (item_of t g c) (map (λ p. record p.1 { id = p.0 }) (zip (numbers n (length is)) is)) ≡ map (item_of t g c) is
  ids-change n [] = refl
  ids-change n (i ∷ is) = λ j. one-id n i j ∷ ids-change (suc n) is j

pub ids_change_nothing : IdsChangeNothing
ids_change_nothing t g c n is = ids-change t g c n is
