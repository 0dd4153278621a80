-- Where what stands in place of each block's instructions keeps lanes where they are found, a spill keeps the meaning.
use Rattle.std.proofs.Common.{◌≡◌, ◌∷◌, ℕ, List, map, sym, subst, []}
use Rattle.target_base.specs.declared.types.Target.{Target}
use Rattle.meaning.specs.Code.{Code, found}
use Rattle.meaning.specs.Lanes.{settled, through}
use Rattle.meaning.specs.Live.{Among as Member}
use Rattle.meaning.specs.Relations.{Within, along}
use Rattle.laws.proofs.Steps.{through-none}
use Rattle.mir_func.specs.declared.func.Block.{Block}
use Rattle.mir_func.specs.declared.func.Edge.{Edge as Successor}
use Rattle.mir_func.specs.Value.{Function}
use Rattle.mir_meaning.specs.Codes.{block_end, blocks_code, given_of, item_of, way}
use Rattle.instr_effects.proofs.Members.{map-in}
use Rattle.lowering_laws.proofs.Chained.{BlocksStep, Enters, blocks-refine, both-ways}
use Rattle.lowering_laws.proofs.Stretches.{Stretch}
use Rattle.spiller.specs.Setting.{Spilling}
use Rattle.spill_laws.specs.Standing.{AllStand, AllStandRefine, Stands, code_before, starts}
use Rattle.spill_laws.proofs.Ends.{ends_stand, starts_stand}

module _ (s : Spilling) (g : Function) (bare : (n m : ℕ) → (way s.target s.func n m).phis ≡ []) (bare' : (n m : ℕ) → (way s.target g n m).phis ≡ []) where
  abbrev t : Target
  t = s.target

  abbrev f : Function
  f = s.func

  -- the rest of the code from a block's end on
  abbrev end-of : Block → List Block → Code
  end-of b bs = block_end t f b bs ∷ blocks_code (item_of t f) t f bs

  leads : (b : Block) (bs : List Block) (e : Successor) → Member e b.successors → Within (starts s e.block) (along (both-ways t f g (starts s) b.number e.block) (Stands s (end-of b bs)))
  leads b bs e m a u k =
      subst (λ y. Stands s (end-of b bs) y (settled (through (way t g b.number e.block).phis u))) (sym (through-none (way t f b.number e.block).phis a (bare b.number e.block)))
      (subst (Stands s (end-of b bs) a) (sym (through-none (way t g b.number e.block).phis u (bare' b.number e.block)))
      (ends_stand s _ (map (λ x. way t f b.number x.block) b.successors) (blocks_code (item_of t f) t f bs) (way t f b.number e.block) (map-in (λ (x : Successor). way t f b.number x.block) e b.successors m) (bare b.number e.block) a u k))

  steps : {bs cs : List Block} → AllStand s g bs cs → BlocksStep t f g (starts s) bs cs
  steps AllStand.done = BlocksStep.done
  steps (AllStand.more {b = b} {c = c} {bs = bs} {cs = cs} number successors falls into at place rest) =
      BlocksStep.more
      (record {
        number = number;
        successors = successors;
        falls = falls;
        before_end = Stands s (end-of b bs);
        stretch = subst (λ q. Stretch (starts s) (Stands s q) (Stands s (end-of b bs)) (map (item_of t f b) b.instrs) (map (item_of t g c) c.instrs)) (sym at) place;
        exits = λ e m. leads b bs e m;
        below = λ m q. let z = into m q in subst (λ n. Within (starts s n) (along (both-ways t f g (starts s) b.number n) (Stands s (end-of b bs)))) z.2 (leads b bs z.0 z.1);
      })
      (steps rest)

  first-place : List Block → Code
  first-place [] = []
  first-place (b ∷ bs) = found b.number (code_before s)

  enters : (bs : List Block) → Enters t f g (starts s) bs (Stands s (first-place bs))
  unfolding first-place
  enters [] = tt
  enters (b ∷ bs) = λ a u k. k

pub all_stand_refine : AllStandRefine
all_stand_refine s g bare bare' given all =
    blocks-refine s.target s.func g (starts s) (steps s g bare bare' all) (Stands s (first-place s g bare bare' s.func.blocks)) (enters s g bare bare' s.func.blocks)
    (λ env. starts_stand s (given_of s.target g) (first-place s g bare bare' s.func.blocks) given env)
