-- Splits and spills keep the further rules on blocks: each block ends as it did.
use Rattle.std.proofs.Common.{◌≡◌, ◌&&◌, ◌+◌, ℕ, Bool, true, List, [], ◌∷◌, map, length, refl, sym, ap, subst}
use Rattle.std.specs.Prelude.{nat_eq}
use Rattle.std.specs.List.{sum_by, zip}
use Rattle.target_base.specs.declared.types.Target.{Target}
use Rattle.meaning.specs.Live.{Among as Member, here as first, there as later}
use Rattle.mir_func.specs.declared.func.Edge.{Edge as Successor}
use Rattle.mir_func.specs.declared.func.Block.{Block}
use Rattle.mir_func.specs.Value.{Function}
use Rattle.mir_meaning.specs.Points.{Point}
use Rattle.mir_meaning.specs.Rules.{V8}
use Rattle.live_lanes.specs.declared.ask.labels.Mark.{Mark}
use Rattle.lowering_laws.specs.Shapes.{IsLowered}
use Rattle.lowering_laws.proofs.BlockRules.{AllBecome, ordered}
use Rattle.spiller.specs.Setting.{Spilling}
use Rattle.spiller.specs.Rematerialised.{places_of}
use Rattle.spiller.specs.Spilled.{block_changes, changes, new_ids, setting_of, spilled, spilled_block, tinies_of}
use Rattle.spill_laws.proofs.Outcomes.{ordered-by}
use Rattle.spill_laws.proofs.Blocks.{all-carried}
use Rattle.spill_laws.proofs.Kept.{orderly}
use Rattle.split_kit.specs.Split.{blocks_split, number_behind, split_by, start_label}
use Rattle.split_laws.specs.Laws.{LabelsAgree}
use Rattle.split_laws.proofs.Ends.{Stay, falls-stay, meet-stay, open-stays}
use Rattle.valid_laws.specs.Rules.{HasBlockRules}
use Rattle.valid_laws.specs.Kept.{AllEndAlike}
use Rattle.valid_laws.proofs.EndsKept.{alike-keeps-blocks}
use Rattle.ready_laws.specs.Steps.{SpillKeepsBlocks, SplitKeepsBlocks}

-- splits

module _ (t : Target) (f : Function) (v : ℕ) (ms : List Mark) (live : Point → Bool) where
  split-alike : (n : ℕ) (bs : List Block) → ((b : Block) → Member b bs → Stay t live f v ms b (start_label ms b.number) b.instrs) → AllEndAlike t bs (blocks_split live f v ms n bs)
  split-alike n [] h = tt
  split-alike n (b ∷ bs) h = (
    record {
      number = refl;
      attributes = refl;
      successors = refl;
      falls = falls-stay t live f v ms b n (start_label ms b.number) b.instrs (h b first);
      opens = ap (λ c. t.options.open_blocks && nat_eq (length b.successors) 0 && c) (open-stays t live f v ms b n (start_label ms b.number) b.instrs (h b first));
    },
    split-alike (number_behind live f v ms n (b ∷ [])) bs (λ d m. h d (later m)),
  )

  all-alike : LabelsAgree t f v ms → AllEndAlike t f.blocks (split_by live f v ms).blocks
  unfolding split_by
  all-alike meet = split-alike f.next_id f.blocks (λ b m. meet-stay t live f v ms b (start_label ms b.number) b.instrs (meet b m))

pub split-keeps-blocks : SplitKeepsBlocks
split-keeps-blocks t f g v ms meet s has = subst (HasBlockRules t) (sym s.2) (alike-keeps-blocks t f (split_by s.0 f v ms) (all-alike t f v ms s.0 meet) has)

-- spills

open-by : (t : Target) (es ds : List Successor) (x y : Bool) → es ≡ ds → x ≡ y → (t.options.open_blocks && nat_eq (length es) 0 && x) ≡ (t.options.open_blocks && nat_eq (length ds) 0 && y)
open-by t es ds x y e h = λ k. t.options.open_blocks && nat_eq (length (e k)) 0 && h k

module _ (s : Spilling) where
  abbrev t : Target
  t = s.target

  carried-alike : (n c : ℕ) (bs : List Block) → AllBecome t bs (map spilled_block (zip bs (block_changes s n c bs))) → AllEndAlike t bs (map spilled_block (zip bs (block_changes s n c bs)))
  carried-alike n c [] a = tt
  carried-alike n c (b ∷ bs) a =
      let xs = changes s n c (places_of t b) in
      (record { number = a.0.number; attributes = refl; successors = a.0.successors; falls = a.0.instrs.falls; opens = open-by t b.successors b.successors _ _ refl a.0.instrs.opens }, carried-alike (n + sum_by new_ids xs) (c + length (tinies_of xs)) bs a.1)

  in-order : IsLowered t s.func → (b : Block) → Member b s.func.blocks → ordered t b.instrs ≡ true
  unfolding V8
  in-order low b mb = ordered-by s.target b.instrs (λ j i e. low.terminators b j i mb e)

  become : IsLowered t s.func → AllBecome t s.func.blocks (spilled s).blocks
  become low = all-carried s (λ b i mb mi. (low.rules.shaped b i mb mi).operands) (in-order low) (orderly s low)

  spilled-alike : IsLowered t s.func → AllEndAlike t s.func.blocks (spilled s).blocks
  unfolding spilled
  spilled-alike low = carried-alike s.func.next_id (length s.func.classes) s.func.blocks (become low)

pub spill-keeps-blocks : SpillKeepsBlocks
spill-keeps-blocks t f g slots new v made low z has =
    let s = setting_of t f slots v z.facts in
    subst (HasBlockRules t) (sym z.func) (alike-keeps-blocks t f (spilled s) (spilled-alike s low) has)
