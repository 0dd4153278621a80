-- No place has an id that no instruction has.
use Rattle.std.proofs.Common.{◌≡◌, ◌<◌, ◌⊎◌, ⊎_elim, ℕ, Bool, true, false, cond, not, ◌+◌, List, [], ◌∷◌, ◌++◌, flat_map, length, refl, ap, ◌∙◌, subst, inl, inr, arith, eqb, eqb-true}
use Rattle.std.proofs.lemmas.Bool.{ltb-true}
use Rattle.std.specs.List.{list_all}
use Rattle.meaning.specs.Code.{Code}
use Rattle.worked_examples.proofs.MachineCodeLemmas.Everywhere.{given_of}
use Rattle.target_base.specs.declared.types.Target.{Target}
use Rattle.meaning.specs.Live.{Among, here, there}
use Rattle.mir_func.specs.declared.func.Block.{Block}
use Rattle.mir_func.specs.declared.func.Instr.{Instr}
use Rattle.mir_func.specs.Value.{Function}
use Rattle.mir_func.specs.Edits.{instr_place}
use Rattle.mir_meaning.specs.Points.{block_rest, from_instr, has_instr}

-- the instructions have one of the id
abbrev pub HasId : ℕ → List Instr → Type 0
HasId id is = (i : Instr) × Among i is × (i.id ≡ id)

has_id : (id : ℕ) (is : List Instr) → instr_place id is < length is → HasId id is
has_id id [] h = absurd (omega arith)
has_id id (i ∷ is) h = go (eqb i.id id) refl h (has_id id is)
  where
    go : (q : Bool) → eqb i.id id ≡ q → cond (not q) (1 + instr_place id is) 0 < length (i ∷ is) → (instr_place id is < length is → HasId id is) → HasId id (i ∷ is)
    go true e g again = (i, here, eqb-true i.id id e)
    go false e g again = let z = again (omega arith) in (z.0, there z.1, z.2)

among_left : (i : Instr) (is js : List Instr) → Among i is → Among i (is ++ js)
among_left i [] js a = elim a [ ]
among_left i (k ∷ is) js here = here
among_left i (k ∷ is) js (there a) = there (among_left i is js a)

among_right : (i : Instr) (is js : List Instr) → Among i js → Among i (is ++ js)
among_right i [] js a = a
among_right i (k ∷ is) js a = there (among_right i is js a)

-- some instruction of the blocks has the id, or its place is none
pub instr_or_none : (t : Target) (f : Function) (id : ℕ) (bs : List Block) → (from_instr t f id bs ≡ []) ⊎ HasId id (flat_map (λ b. b.instrs) bs)
instr_or_none t f id [] = inl refl
instr_or_none t f id (b ∷ bs) = go (has_instr id b) refl (instr_or_none t f id bs)
  where
    first : HasId id b.instrs → HasId id (b.instrs ++ flat_map (λ b. b.instrs) bs)
    first z = (z.0, among_left z.0 b.instrs (flat_map (λ b. b.instrs) bs) z.1, z.2)

    later : HasId id (flat_map (λ b. b.instrs) bs) → HasId id (b.instrs ++ flat_map (λ b. b.instrs) bs)
    later z = (z.0, among_right z.0 b.instrs (flat_map (λ b. b.instrs) bs) z.1, z.2)

    go : (q : Bool) → has_instr id b ≡ q → (from_instr t f id bs ≡ []) ⊎ HasId id (flat_map (λ b. b.instrs) bs) → (cond (has_instr id b) (block_rest t f b bs (instr_place id b.instrs)) (from_instr t f id bs) ≡ []) ⊎ HasId id (b.instrs ++ flat_map (λ b. b.instrs) bs)
    go true h rest = inr (first (has_id id b.instrs (ltb-true (instr_place id b.instrs) (length b.instrs) h)))
    go false h rest = ⊎_elim (λ e. inl (ap (λ q. cond q (block_rest t f b bs (instr_place id b.instrs)) (from_instr t f id bs)) h ∙ e)) (λ z. inr (later z)) rest

is_false : (b : Bool) → not b ≡ true → b ≡ false
is_false true e = absurd (cc)
is_false false e = refl

-- what fails at every instruction, and where there is none, fails everywhere
pub never : (t : Target) (f : Function) (test : Code → Bool) → test [] ≡ false → list_all (λ i. not (test (from_instr t f i.id f.blocks))) (flat_map (λ b. b.instrs) f.blocks) ≡ true → (id : ℕ) → test (from_instr t f id f.blocks) ≡ false
never t f test none all id =
    ⊎_elim (λ e. ap test e ∙ none)
    (λ z. subst (λ n. test (from_instr t f n f.blocks) ≡ false) z.2 (is_false (test (from_instr t f z.0.id f.blocks)) (given_of (λ i. not (test (from_instr t f i.id f.blocks))) (flat_map (λ b. b.instrs) f.blocks) z.0 all z.1)))
    (instr_or_none t f id f.blocks)
