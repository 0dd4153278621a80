-- The instruction of an id, by where the table says that it stands.
use Rattle.std.proofs.Common.{◌≡◌, ◌∙◌, ◌∷◌, ℕ, Bool, true, false, cond, List, [], Option, Some, None, refl, ap, subst, eqb-true}
use Rattle.std.specs.Prelude.{find, flat_map, nat_eq, slice_get, slice_index}
use Rattle.std.specs.Option.{option_map_or}
use Rattle.std.proofs.lemmas.Option.{same_Some}
use Rattle.meaning.specs.Live.{Among as Member, here as first, there as later}
use Rattle.mir_func.specs.declared.func.Block.{Block}
use Rattle.mir_func.specs.declared.func.Instr.{Instr}
use Rattle.mir_func.specs.Value.{Function, IsFunction}
use Rattle.mir_func.specs.At.{instr_at}
use Rattle.instr_effects.proofs.Members.{flat-of, map-in}
use Rattle.mir_meaning.specs.Paths.{has}
use Rattle.live_lanes.specs.Ordered.{AreHomes, ids_of}
use Rattle.live_laws.proofs.Effects.Blocks.{member-slice, slice-member}
use Rattle.live_laws.proofs.Touch.Sequence.{member-has}
use Rattle.live_edits.specs.Folded.{all_instrs}
use Rattle.live_edits.proofs.JoiningEdits.{single-of}
use Rattle.live_edits.proofs.JoiningLaw.{all-apart, find-own}
use Rattle.live_edits.proofs.JoiningMembers.{instr-member}
use Rattle.coalescer.specs.Coalescing.{instr_of}

pub placed-member : (bs : List Block) (p k : ℕ) (i : Instr) → instr_at bs p k ≡ Some i → Member i (flat_map (λ (b : Block). b.instrs) bs)
placed-member bs p k i e = go (slice_get bs p) refl e
  where
    go : (q : Option Block) → slice_get bs p ≡ q → slice_get (option_map_or (λ (b : Block). b.instrs) q []) k ≡ Some i → Member i (flat_map (λ (b : Block). b.instrs) bs)
    go None d h = absurd (cc)
    go (Some b) d h = instr-member b i bs (slice-member bs p b d) (slice-member b.instrs k i h)

pub found-of : {X : Type 0} (p : X → Bool) (x : X) (xs : List X) → find p xs ≡ Some x → Member x xs × (p x ≡ true)
found-of p x [] e = absurd (cc)
found-of {X = X} p x (y ∷ xs) e = go (p y) refl e (found-of p x xs)
  where
    go : (u : Bool) → p y ≡ u → cond u (Some y) (find p xs) ≡ Some x → (find p xs ≡ Some x → Member x xs × (p x ≡ true)) → Member x (y ∷ xs) × (p x ≡ true)
    go true f g ih = let s = same_Some y x g in (subst (λ z. Member z (y ∷ xs)) s first, subst (λ z. p z ≡ true) s f)
    go false f g ih = let z = ih g in (later z.0, z.1)

-- where one has the id, it is that one
pub found-own : (f : Function) (i : Instr) → IsFunction f.blocks f.next_id → Member i (all_instrs f) → instr_of f i.id ≡ Some i
found-own f i is m = find-own (all_instrs f) (all-apart f (single-of f is)) i m

-- the instruction of the id stands at this place of the block at this position, if it stands anywhere
abbrev pub StandsAt : Function → ℕ → ℕ → ℕ → Type 0
StandsAt f id p k = (b : Block) (q j : ℕ) (i : Instr) → slice_get f.blocks q ≡ Some b → slice_get b.instrs j ≡ Some i → i.id ≡ id → (p ≡ q) × (k ≡ j)

pub found-there : (f : Function) (id p k : ℕ) (i : Instr) → IsFunction f.blocks f.next_id → instr_at f.blocks p k ≡ Some i → i.id ≡ id → instr_of f id ≡ Some i
found-there f id p k i is at own = subst (λ n. instr_of f n ≡ Some i) own (found-own f i is (placed-member f.blocks p k i at))

pub found-none : (f : Function) (id p k : ℕ) → StandsAt f id p k → ((i : Instr) → instr_at f.blocks p k ≡ Some i → i.id ≡ id → ⊥) → instr_of f id ≡ None
found-none f id p k stands none = go (instr_of f id) refl
  where
    go : (q : Option Instr) → instr_of f id ≡ q → q ≡ None
    go None e = refl
    go (Some i) e =
        let z = found-of (λ (x : Instr). nat_eq x.id id) i (all_instrs f) e in
        let own = eqb-true i.id id z.1 in
        let b = flat-of (λ (c : Block). c.instrs) i f.blocks z.0 in
        let at = member-slice b.0 f.blocks b.1 in
        let j = member-slice i b.0.instrs b.2 in
        let s = stands b.0 at.0 j.0 i at.1 j.1 own in
        absurd (none i ((λ n. instr_at f.blocks (s.0 n) (s.1 n)) ∙ ap (λ (q : Option Block). slice_get (option_map_or (λ (c : Block). c.instrs) q []) j.0) at.1 ∙ j.1) own)

-- by the block that the table has for the id, and the place that is found there
pub stands-at : (f : Function) (homes : List ℕ) (id p k : ℕ) → AreHomes f.blocks homes → p ≡ slice_index homes id → ((q j : ℕ) (b : Block) (i : Instr) → slice_get f.blocks q ≡ Some b → slice_get b.instrs j ≡ Some i → i.id ≡ id → k ≡ j) → StandsAt f id p k
stands-at f homes id p k h position place b q j i at there own =
    let has-id : has id (ids_of b.instrs) ≡ true = subst (λ n. has n (ids_of b.instrs) ≡ true) own (member-has i.id (ids_of b.instrs) (map-in (λ (x : Instr). x.id) i b.instrs (slice-member b.instrs j i there))) in
    (position ∙ h q b id at has-id, place q j b i at there own)
