-- The blocks of a function with a range spilled go over place by place.
use Rattle.std.proofs.Common.{◌≡◌, ◌≤◌, ◌+◌, ◌++◌, ◌∙◌, ℕ, true, List, [], ◌∷◌, Option, Some, None, length, map, flat_map, refl, ap, subst, arith, append_assoc}
use Rattle.std.proofs.lemmas.List.{length-map}
use Rattle.std.specs.List.{sum_by, zip}
use Rattle.target_base.specs.declared.types.ClassId.{ClassId}
use Rattle.target_base.specs.declared.types.Target.{Target}
use Rattle.meaning.specs.Code.{Code, found}
use Rattle.meaning.specs.Live.{Among as Member, here as first, there as later}
use Rattle.meaning.specs.declared.types.Lane.{Lane}
use Rattle.mir_func.specs.declared.func.Instr.{Instr}
use Rattle.mir_func.specs.declared.func.Block.{Block}
use Rattle.mir_func.specs.Value.{Function}
use Rattle.mir_func.specs.Binding.{class_of}
use Rattle.mir_meaning.specs.Points.{OccupiedAt, Point, Start, has_no_phis}
use Rattle.lowering_laws.specs.Shapes.{IsLowered}
use Rattle.spiller.specs.Rematerialised.{places_of}
use Rattle.spiller.specs.Setting.{Spilling}
use Rattle.spiller.specs.Spilled.{all_changes, block_changes, change, changes, new_ids, numbered_change, spilled, spilled_block, tinies_of}
use Rattle.split_laws.proofs.Splitting.{all-without-phis, map-append, not-phi, suits}
use Rattle.spill_laws.proofs.Outcomes.{instrs-of, places-whole}
use Rattle.spill_laws.proofs.Ranges.{Has, before, behind}
use Rattle.clear_laws.specs.Spills.{HasEarlyReload}
use Rattle.clear_laws.proofs.Places.{code-behind}
use Rattle.clear_laws.proofs.PlaceBounds.{GoesOn, May, Was}
use Rattle.clear_laws.proofs.PlacesKept.{Blocks, C, D, PlaceKept, Places, R, block, goes, no-blocks, no-more, places-keep, start-may}

has-before : (g : Function) (c : ℕ) (xs ys : List (Option ClassId)) → Has g c (xs ++ ys) → Has g c xs
has-before g c xs ys h j k e = h j k (before xs ys j k e)

has-behind : (g : Function) (c : ℕ) (xs ys : List (Option ClassId)) → Has g c (xs ++ ys) → Has g (c + length xs) ys
has-behind g c xs ys h j k e = ap (class_of g) (assoc c (length xs) j) ∙ h (length xs + j) k (behind xs ys j ∙ e)
  where
    assoc : (a b d : ℕ) → (a + b) + d ≡ a + (b + d)
    assoc a b d = omega arith

bare : (t : Target) (f : Function) → IsLowered t f → has_no_phis t f.blocks ≡ true
bare t f low = all-without-phis t f.blocks (λ b i mb mi. (not-phi t i ((suits t f low).lowered b i mb mi)).0)

module _ (s : Spilling) (wide : ℕ → Type 0) (stored : Code → ℕ → Type 0) where
  abbrev pub t : Target
  t = s.target

  abbrev pub f : Function
  f = s.func

  abbrev pub g : Function
  g = spilled s

  abbrev class-in : Option ClassId × ℕ → Option ClassId
  class-in x = x.0

  -- Each place keeps what it has to, whatever numbers its new instructions and its tinies get, where these have their classes.
  abbrev pub EachKept : Type 0
  EachKept =
      (pre : List Block) (b : Block) (after : List Block) → pre ++ b ∷ after ≡ f.blocks → (front is rest : List Instr) → front ++ (is ++ rest) ≡ b.instrs → Member is (places_of t b)
      → (n c : ℕ) → f.next_id ≤ n → length f.classes ≤ c → Has g c (map (λ x. x.0) (change s n c is).tinies) → (d : Block) → d.number ≡ b.number → d.successors ≡ b.successors
      → PlaceKept t f g s.range s.slot wide stored b d is (instrs-of (numbered_change s n c is)) (code-behind t f b after rest)

  module _ (each : EachKept) where
    module _ (pre : List Block) (b : Block) (after : List Block) (blocks : pre ++ b ∷ after ≡ f.blocks) (d : Block) (number : d.number ≡ b.number) (successors : d.successors ≡ b.successors) where
      places-go : (ps : List (List Instr)) → ((p : List Instr) → Member p ps → Member p (places_of t b)) → (front : List Instr) → front ++ flat_map (λ p. p) ps ≡ b.instrs
          → (n c : ℕ) → f.next_id ≤ n → length f.classes ≤ c → Has g c (map class-in (tinies_of (changes s n c ps)))
          → Places t f g s.range s.slot wide stored b d after (flat_map (λ p. p) ps) (flat_map instrs-of (changes s n c ps))
      places-go [] inside front e n c above low h = no-more
      places-go (p ∷ ps) inside front e n c above low h =
          let y = numbered_change s n c p in
          let rest = changes s (n + new_ids y) (c + length y.tinies) ps in
          let all : Has g c (map class-in y.tinies ++ map class-in (tinies_of rest)) = subst (Has g c) (map-append class-in y.tinies (tinies_of rest)) h in
          goes p (instrs-of y)
          (each pre b after blocks front p (flat_map (λ q. q) ps) e (inside p first) n c above low (has-before g c (map class-in y.tinies) (map class-in (tinies_of rest)) all) d number successors)
          (places-go ps (λ q r. inside q (later r)) (front ++ p) (append_assoc front p (flat_map (λ q. q) ps) ∙ e) (n + new_ids y) (c + length y.tinies) (omega (arith, above)) (omega (arith, low))
          (subst (λ z. Has g z (map class-in (tinies_of rest))) (ap (λ z. c + z) (length-map y.tinies class-in)) (has-behind g c (map class-in y.tinies) (map class-in (tinies_of rest)) all)))

    blocks-go : (pre bs : List Block) → pre ++ bs ≡ f.blocks → (n c : ℕ) → f.next_id ≤ n → length f.classes ≤ c → Has g c (map class-in (flat_map tinies_of (block_changes s n c bs)))
        → Blocks t f g s.range s.slot wide stored bs (map spilled_block (zip bs (block_changes s n c bs)))
    blocks-go pre [] e n c above low h = no-blocks
    blocks-go pre (b ∷ bs) e n c above low h =
        let ys = changes s n c (places_of t b) in
        let m = n + sum_by new_ids ys in
        let k = c + length (tinies_of ys) in
        let rest = block_changes s m k bs in
        let more = flat_map tinies_of rest in
        let all : Has g c (map class-in (tinies_of ys) ++ map class-in more) = subst (Has g c) (map-append class-in (tinies_of ys) more) h in
        let d = spilled_block (b, ys) in
        block b d refl refl
        (subst (λ is. Places t f g s.range s.slot wide stored b d bs is d.instrs) (places-whole t b.instrs)
        (places-go pre b bs e d refl refl (places_of t b) (λ p r. r) [] (places-whole t b.instrs) n c above low (has-before g c (map class-in (tinies_of ys)) (map class-in more) all)))
        (blocks-go (pre ++ b ∷ []) bs (append_assoc pre (b ∷ []) bs ∙ e) m k (omega (arith, above)) (omega (arith, low))
        (subst (λ z. Has g z (map class-in more)) (ap (λ z. c + z) (length-map (tinies_of ys) class-in)) (has-behind g c (map class-in (tinies_of ys)) (map class-in more) all)))

    has-made : Has g (length f.classes) (map class-in (flat_map tinies_of (all_changes s)))
    unfolding spilled
    has-made j k e = ap (λ q. elim q as (λ q. Option ClassId) [ None ↦ None | Some c ↦ c ]) (behind f.classes (map class-in (flat_map tinies_of (all_changes s))) j ∙ e)

    all-go : Blocks t f g s.range s.slot wide stored f.blocks g.blocks
    unfolding spilled
    all-go = blocks-go [] f.blocks refl f.next_id (length f.classes) (omega arith) (omega arith) has-made

    -- Then at each point of g lanes are occupied at most as at one point of f.
    pub spilled-keeps : GoesOn (R t f g s.range s.slot wide stored) (C t f g s.range s.slot wide stored) (D t f g s.range s.slot wide stored) (length f.classes) s.range s.slot wide stored → IsLowered t f → IsLowered t g
        → (p : Point) → (q : Point) × ((l : Lane) → OccupiedAt t g p l → Was (length f.classes) s.range s.slot (HasEarlyReload t) (OccupiedAt t f q) l)
    spilled-keeps on low low' = places-keep t f g s.range s.slot wide stored on (bare t f low) (bare t g low') low'.function all-go

    -- What is live at the start of a block of g may be there in f.
    pub spilled-starts : GoesOn (R t f g s.range s.slot wide stored) (C t f g s.range s.slot wide stored) (D t f g s.range s.slot wide stored) (length f.classes) s.range s.slot wide stored → IsLowered t f → IsLowered t g
        → (n : ℕ) (l : Lane) → OccupiedAt t g (Start n) l
        → May (R t f g s.range s.slot wide stored) (C t f g s.range s.slot wide stored) (D t f g s.range s.slot wide stored) (length f.classes) s.range s.slot wide stored (found n (C t f g s.range s.slot wide stored)) l
    spilled-starts on low low' = start-may t f g s.range s.slot wide stored on (bare t f low) (bare t g low') low'.function all-go
