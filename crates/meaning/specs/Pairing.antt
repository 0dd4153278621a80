-- The two codes side by side: silent instructions of each alone, all else in pairs.
use Rattle.std.specs.Prelude.{cond, nat_eq, List, [], ◌∷◌, Option, Some, None}
use Rattle.meaning.specs.declared.types.EdgePair.{EdgePair}
use Rattle.meaning.specs.declared.types.Row.{Row}
use Rattle.meaning.specs.declared.types.Row.TheVariants.{BothStart, BothEnd, FirstSilent, SecondSilent, BothCounted}
use Rattle.meaning.specs.Lanes.{Writes}
use Rattle.meaning.specs.Code.{Edge, Item, BlockStart, BlockEnd, Silent, Counted, Code}
use Rattle.meaning.specs.Sameness.{same_rest}

abbrev pub pair_edge : Edge → Edge → Option EdgePair
pair_edge e f = cond (nat_eq e.block f.block) (Some (record { block = e.block; first = e.phis; second = f.phis })) None

abbrev pub pair_edges : List Edge → List Edge → Option (List EdgePair)
pair_edges [] [] = Some []
pair_edges (e ∷ es) (f ∷ fs) = elim (pair_edge e f) [ None ↦ None | Some w ↦ elim (pair_edges es fs) [ None ↦ None | Some ws ↦ Some (w ∷ ws) ] ]
pair_edges _ _ = None

abbrev pub pair_target : Option Edge → Option Edge → Option (Option EdgePair)
pair_target None None = Some None
pair_target (Some e) (Some f) = elim (pair_edge e f) [ None ↦ None | Some w ↦ Some (Some w) ]
pair_target _ _ = None

abbrev pub pair_falls : Option Writes → Option Writes → Option (Option (Writes × Writes))
pair_falls None None = Some None
pair_falls (Some ws) (Some vs) = Some (Some (ws, vs))
pair_falls _ _ = None

abbrev pub pair_item : Item → Item → Option Row
pair_item (BlockStart n) (BlockStart m) = cond (nat_eq n m) (Some (BothStart n)) None
pair_item (BlockEnd falls exits) (BlockEnd falls' exits') =
    elim (pair_falls falls falls') [ None ↦ None | Some falling ↦ elim (pair_edges exits exits') [ None ↦ None | Some ways ↦ Some (BothEnd falling ways) ] ]
pair_item (Counted r reads ws target exits) (Counted r' reads' ws' target' exits') =
    cond (same_rest r r') (elim (pair_target target target') [ None ↦ None | Some to ↦ elim (pair_edges exits exits') [ None ↦ None | Some ways ↦ Some (BothCounted r reads reads' ws ws' to ways) ] ]) None
pair_item _ _ = None

abbrev pub before : Row → Option (List Row) → Option (List Row)
before r None = None
before r (Some rows) = Some (r ∷ rows)

abbrev pub paired : Option Row → Option (List Row) → Option (List Row)
paired None rows = None
paired (Some r) rows = before r rows

-- what is left of the second where the first is at its end
abbrev pub rest_rows : Code → Option (List Row)
rest_rows [] = Some []
rest_rows (Silent reads ws ∷ q) = before (SecondSilent reads ws) (rest_rows q)
rest_rows _ = None

-- the second up to the partner of item i, and on
abbrev pub meet : Item → (Code → Option (List Row)) → Code → Option (List Row)
meet i next [] = None
meet i next (Silent reads ws ∷ q) = before (SecondSilent reads ws) (meet i next q)
meet i next (j ∷ q) = paired (pair_item i j) (next q)

abbrev pub pairing : Code → Code → Option (List Row)
pairing [] q = rest_rows q
pairing (Silent reads ws ∷ p) q = before (FirstSilent reads ws) (pairing p q)
pairing (i ∷ p) q = meet i (pairing p) q
