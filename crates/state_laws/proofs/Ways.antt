-- Steps leave blocks where they stand, with the ways between them.
use Rattle.std.proofs.Common.{◌≡◌, ◌+◌, ◌∙◌, ℕ, zero, suc, Bool, true, cond, List, [], ◌∷◌, Option, Some, length, map, refl, sym, ap, subst}
use Rattle.std.specs.Prelude.{nat_eq, option_map}
use Rattle.std.specs.List.{sum_by, zip}
use Rattle.target_base.specs.declared.types.Target.{Target}
use Rattle.mir_func.specs.declared.func.Block.{Block}
use Rattle.mir_func.specs.Value.{Function}
use Rattle.mir_meaning.specs.Paths.{has}
use Rattle.mir_meaning.specs.Points.{Point}
use Rattle.live_lanes.specs.declared.ask.labels.Mark.{Mark}
use Rattle.live_lanes.specs.declared.table.Table.{Table}
use Rattle.live_lanes.specs.Doing.{IsComputed}
use Rattle.live_lanes.specs.Flowing.{edge_places, exits_at}
use Rattle.live_lanes.specs.Ordered.{place_of}
use Rattle.live_lanes.specs.Ways.{successors}
use Rattle.spiller.specs.Setting.{Spilling}
use Rattle.spiller.specs.Rematerialised.{places_of}
use Rattle.spiller.specs.Spilled.{block_changes, changes, new_ids, setting_of, spilled, spilled_block, tinies_of}
use Rattle.split_choose.specs.Bundles.{AreBundles, Linked, back, edge, itself, onward}
use Rattle.split_kit.specs.Split.{blocks_split, number_behind, split_by}
use Rattle.run_end_laws.specs.Allocating.{assigns, spills, splits, unassigns}
use Rattle.state_laws.specs.Passes.{KeepsWays, StepKeepsWays}

-- blocks with the same numbers, that lead to the same ones
abbrev LeadAlike : List Block → List Block → Type 0
LeadAlike [] [] = Unit {0}
LeadAlike [] (c ∷ cs) = ⊥
LeadAlike (b ∷ bs) [] = ⊥
LeadAlike (b ∷ bs) (c ∷ cs) = (c.number ≡ b.number) × (c.successors ≡ b.successors) × LeadAlike bs cs

lead-as-they-do : (bs : List Block) → LeadAlike bs bs
lead-as-they-do [] = tt
lead-as-they-do (b ∷ bs) = (refl, refl, lead-as-they-do bs)

length-kept : (bs cs : List Block) → LeadAlike bs cs → length cs ≡ length bs
length-kept [] [] h = refl
length-kept [] (c ∷ cs) h = absurd h
length-kept (b ∷ bs) [] h = absurd h
length-kept (b ∷ bs) (c ∷ cs) h = ap suc (length-kept bs cs h.2)

place-kept : (n : ℕ) (bs cs : List Block) → LeadAlike bs cs → place_of n cs ≡ place_of n bs
place-kept n [] [] h = refl
place-kept n [] (c ∷ cs) h = absurd h
place-kept n (b ∷ bs) [] h = absurd h
place-kept n (b ∷ bs) (c ∷ cs) h = λ k. cond (nat_eq (h.0 k) n) (Some 0) (option_map (λ x. suc x) (place-kept n bs cs h.2 k))

exits-kept : (place : ℕ → Option ℕ) (bs cs : List Block) → LeadAlike bs cs → (k : ℕ) → exits_at place cs k ≡ exits_at place bs k
exits-kept place [] [] h k = refl
exits-kept place [] (c ∷ cs) h k = absurd h
exits-kept place (b ∷ bs) [] h k = absurd h
exits-kept place (b ∷ bs) (c ∷ cs) h zero = ap (edge_places place) h.1
exits-kept place (b ∷ bs) (c ∷ cs) h (suc k) = exits-kept place bs cs h.2 k

-- what is linked along some ways is linked along ways that lead to the same blocks
linked-along : (next other : ℕ → List ℕ) → ((k n : ℕ) → has n (next k) ≡ true → has n (other k) ≡ true) → {p : ℕ × ℕ} → Linked next p → Linked other p
linked-along next other h itself = itself
linked-along next other h (edge k n e) = edge k n (h k n e)
linked-along next other h (back l) = back (linked-along next other h l)
linked-along next other h (onward l m) = onward (linked-along next other h l) (linked-along next other h m)

bundles-along : (next other : ℕ → List ℕ) → ((k n : ℕ) → has n (other k) ≡ has n (next k)) → (parents : List ℕ) → AreBundles next parents → AreBundles other parents
bundles-along next other same parents are p q = (
  λ e. linked-along next other (λ k n h. same k n ∙ h) ((are p q).0 e),
  λ l. (are p q).1 (linked-along other next (λ k n h. sym (same k n) ∙ h) l),
)

keeps-ways : (t : Target) (f g : Function) (x y : Table) → LeadAlike f.blocks g.blocks → IsComputed t f x → IsComputed t g y → KeepsWays f g x y
keeps-ways t f g x y alike old new =
    let places : (λ (n : ℕ). place_of n g.blocks) ≡ (λ (n : ℕ). place_of n f.blocks) = λ i n. place-kept n f.blocks g.blocks alike i in
    let exits : (k : ℕ) → exits_at (λ n. place_of n g.blocks) g.blocks k ≡ exits_at (λ n. place_of n f.blocks) f.blocks k =
    λ k. exits-kept (λ n. place_of n g.blocks) f.blocks g.blocks alike k ∙ ap (λ (place : ℕ → Option ℕ). exits_at place f.blocks k) places in
    let same : (k n : ℕ) → has n (successors y.flow.items k) ≡ has n (successors x.flow.items k) =
    λ k n. new.ways.successors k n ∙ (ap (has n) (exits k) ∙ sym (old.ways.successors k n)) in
    record {
      blocks = length-kept f.blocks g.blocks alike;
      ways = same;
      bundles = bundles-along (successors x.flow.items) (successors y.flow.items) same;
    }

-- splits

module _ (f : Function) (v : ℕ) (ms : List Mark) (live : Point → Bool) where
  blocks-split-alike : (n : ℕ) (bs : List Block) → LeadAlike bs (blocks_split live f v ms n bs)
  blocks-split-alike n [] = tt
  blocks-split-alike n (b ∷ bs) = (refl, refl, blocks-split-alike (number_behind live f v ms n (b ∷ [])) bs)

  split-alike : LeadAlike f.blocks (split_by live f v ms).blocks
  unfolding split_by
  split-alike = blocks-split-alike f.next_id f.blocks

-- spills

module _ (s : Spilling) where
  blocks-spilled-alike : (n c : ℕ) (bs : List Block) → LeadAlike bs (map spilled_block (zip bs (block_changes s n c bs)))
  blocks-spilled-alike n c [] = tt
  blocks-spilled-alike n c (b ∷ bs) =
      let xs = changes s n c (places_of s.target b) in
      (refl, refl, blocks-spilled-alike (n + sum_by new_ids xs) (c + length (tinies_of xs)) bs)

  spilled-alike : LeadAlike s.func.blocks (spilled s).blocks
  unfolding spilled
  spilled-alike = blocks-spilled-alike s.func.next_id (length s.func.classes) s.func.blocks

pub step-keeps-ways : StepKeepsWays
step-keeps-ways t f g s r rs new x y (assigns v q free c) = keeps-ways t f f x y (lead-as-they-do f.blocks)
step-keeps-ways t f g s r rs new x y (unassigns v c) = keeps-ways t f f x y (lead-as-they-do f.blocks)
step-keeps-ways t f g s r rs new x y (splits v ms left meet z e) = keeps-ways t f g x y (subst (λ (h : Function). LeadAlike f.blocks h.blocks) (sym z.2) (split-alike f v ms z.0))
step-keeps-ways t f g s r rs new x y (spills v made left z) = keeps-ways t f g x y (subst (λ (h : Function). LeadAlike f.blocks h.blocks) (sym z.func) (spilled-alike (setting_of t f s v z.facts)))
