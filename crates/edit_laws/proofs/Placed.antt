-- Instructions that come, go or change by an edit, and where they stand.
use Rattle.std.proofs.Common.{◌≡◌, ◌∷◌, ◌++◌, not, ℕ, zero, suc, ◌+◌, Bool, true, false, cond, List, [], Option, refl, sym, subst, map, take, drop, arith}
use Rattle.std.specs.Prelude.{nat_eq}
use Rattle.std.proofs.lemmas.Bool.{eqb-true}
use Rattle.meaning.specs.Live.{Among, here, there}
use Rattle.mir_func.specs.declared.func.Block.{Block}
use Rattle.mir_func.specs.declared.func.Instr.{Instr}
use Rattle.mir_func.specs.Edits.{changed_in, cut, gap_place, instr_place, put, update}
use Rattle.edit_laws.proofs.Aligned.{AreInstrs, no_instrs, instr_stays, instr_changes, instr_goes, instr_comes, AreBlocks, no_blocks, block_stays}

-- what is known of these instructions may be said otherwise

module _ (Goes Comes : Instr → Type 0) (Both : Instr → Instr → Type 0) (Goes' Comes' : Instr → Type 0) (Both' : Instr → Instr → Type 0) (goes : (i : Instr) → Goes i → Goes' i) (comes : (i : Instr) → Comes i → Comes' i) (both : (i j : Instr) → Both i j → Both' i j) where
  instrs-mapped : {is js : List Instr} → AreInstrs Goes Comes Both is js → AreInstrs Goes' Comes' Both' is js
  instrs-mapped no_instrs = no_instrs
  instrs-mapped (instr_stays a) = instr_stays (instrs-mapped a)
  instrs-mapped (instr_changes {i = i} {j = j} h a) = instr_changes (both i j h) (instrs-mapped a)
  instrs-mapped (instr_goes {i = i} h a) = instr_goes (goes i h) (instrs-mapped a)
  instrs-mapped (instr_comes {j = j} h a) = instr_comes (comes j h) (instrs-mapped a)

  blocks-mapped : {bs cs : List Block} → AreBlocks Goes Comes Both bs cs → AreBlocks Goes' Comes' Both' bs cs
  blocks-mapped no_blocks = no_blocks
  blocks-mapped (block_stays number successors a rest) = block_stays number successors (instrs-mapped a) (blocks-mapped rest)

-- each stands in its list, and in a block

module _ (Goes Comes : Instr → Type 0) (Both : Instr → Instr → Type 0) where
  abbrev GoesIn : List Instr → Instr → Type 0
  GoesIn is i = Goes i × Among i is

  abbrev ComesIn : List Instr → Instr → Type 0
  ComesIn js j = Comes j × Among j js

  abbrev BothIn : List Instr → List Instr → Instr → Instr → Type 0
  BothIn is js i j = Both i j × Among i is × Among j js

  instrs-placed : {is js : List Instr} → AreInstrs Goes Comes Both is js → AreInstrs (GoesIn is) (ComesIn js) (BothIn is js) is js
  instrs-placed no_instrs = no_instrs
  instrs-placed (instr_stays {i = i} {is = is} {js = js} a) =
      instr_stays (instrs-mapped (GoesIn is) (ComesIn js) (BothIn is js) (GoesIn (i ∷ is)) (ComesIn (i ∷ js)) (BothIn (i ∷ is) (i ∷ js)) (λ x z. (z.0, there z.1)) (λ x z. (z.0, there z.1)) (λ x y z. (z.0, there z.1, there z.2)) (instrs-placed a))
  instrs-placed (instr_changes {i = i} {j = j} {is = is} {js = js} h a) =
      instr_changes (h, here, here) (instrs-mapped (GoesIn is) (ComesIn js) (BothIn is js) (GoesIn (i ∷ is)) (ComesIn (j ∷ js)) (BothIn (i ∷ is) (j ∷ js)) (λ x z. (z.0, there z.1)) (λ x z. (z.0, there z.1)) (λ x y z. (z.0, there z.1, there z.2)) (instrs-placed a))
  instrs-placed (instr_goes {i = i} {is = is} {js = js} h a) =
      instr_goes (h, here) (instrs-mapped (GoesIn is) (ComesIn js) (BothIn is js) (GoesIn (i ∷ is)) (ComesIn js) (BothIn (i ∷ is) js) (λ x z. (z.0, there z.1)) (λ x z. z) (λ x y z. (z.0, there z.1, z.2)) (instrs-placed a))
  instrs-placed (instr_comes {j = j} {is = is} {js = js} h a) =
      instr_comes (h, here) (instrs-mapped (GoesIn is) (ComesIn js) (BothIn is js) (GoesIn is) (ComesIn (j ∷ js)) (BothIn is (j ∷ js)) (λ x z. z) (λ x z. (z.0, there z.1)) (λ x y z. (z.0, z.1, there z.2)) (instrs-placed a))

  abbrev pub GoesFrom : List Block → Instr → Type 0
  GoesFrom bs i = (b : Block) × Among b bs × Among i b.instrs × Goes i

  abbrev pub ComesInto : List Block → Instr → Type 0
  ComesInto cs j = (c : Block) × Among c cs × Among j c.instrs × Comes j

  abbrev pub BothAt : List Block → List Block → Instr → Instr → Type 0
  BothAt bs cs i j = (b : Block) × (c : Block) × Among b bs × Among c cs × Among i b.instrs × Among j c.instrs × Both i j

  pub blocks-placed : {bs cs : List Block} → AreBlocks Goes Comes Both bs cs → AreBlocks (GoesFrom bs) (ComesInto cs) (BothAt bs cs) bs cs
  blocks-placed no_blocks = no_blocks
  blocks-placed (block_stays {b = b} {c = c} {bs = bs} {cs = cs} number successors a rest) =
      block_stays number successors
      (instrs-mapped (GoesIn b.instrs) (ComesIn c.instrs) (BothIn b.instrs c.instrs) (GoesFrom (b ∷ bs)) (ComesInto (c ∷ cs)) (BothAt (b ∷ bs) (c ∷ cs)) (λ i z. (b, here, z.1, z.0)) (λ j z. (c, here, z.1, z.0)) (λ i j z. (b, c, here, here, z.1, z.2, z.0)) (instrs-placed a))
      (blocks-mapped (GoesFrom bs) (ComesInto cs) (BothAt bs cs) (GoesFrom (b ∷ bs)) (ComesInto (c ∷ cs)) (BothAt (b ∷ bs) (c ∷ cs)) (λ i z. (z.0, there z.1, z.2, z.3)) (λ j z. (z.0, there z.1, z.2, z.3)) (λ i j z. (z.0, z.1, there z.2, there z.3, z.4, z.5, z.6)) (blocks-placed rest))

  -- what isn't edited

  pub same-instrs : (is : List Instr) → AreInstrs Goes Comes Both is is
  same-instrs [] = no_instrs
  same-instrs (i ∷ is) = instr_stays (same-instrs is)

  pub same-blocks : (bs : List Block) → AreBlocks Goes Comes Both bs bs
  same-blocks [] = no_blocks
  same-blocks (b ∷ bs) = block_stays refl refl (same-instrs b.instrs) (same-blocks bs)

  -- an instruction is put at a place

  module _ (x : Instr) (comes : Comes x) where
    put-instrs : (k : ℕ) (is : List Instr) → AreInstrs Goes Comes Both is (take k is ++ x ∷ drop k is)
    put-instrs zero [] = instr_comes comes no_instrs
    put-instrs zero (i ∷ is) = instr_comes comes (same-instrs (i ∷ is))
    put-instrs (suc k) [] = instr_comes comes no_instrs
    put-instrs (suc k) (i ∷ is) = instr_stays (put-instrs k is)

    pub put-blocks : (before : Option ℕ) (k : ℕ) (bs : List Block) → AreBlocks Goes Comes Both bs (update k (put before x) bs)
    put-blocks before k [] = no_blocks
    put-blocks before zero (b ∷ bs) = block_stays refl refl (put-instrs (gap_place before b.instrs) b.instrs) (same-blocks bs)
    put-blocks before (suc k) (b ∷ bs) = block_stays refl refl (same-instrs b.instrs) (put-blocks before k bs)

one-more : (n : ℕ) → 1 + n ≡ suc n
one-more n = omega arith

drop-none : {X : Type 0} (xs : List X) → drop 0 xs ≡ xs
drop-none [] = refl
drop-none (x ∷ xs) = refl

-- the first instruction of an id goes

module _ (Comes : Instr → Type 0) (Both : Instr → Instr → Type 0) (id : ℕ) where
  abbrev pub Named : Instr → Type 0
  Named i = i.id ≡ id

  -- the instructions beside those of which one is left out at a place
  abbrev Without : List Instr → ℕ → Type 0
  Without is n = AreInstrs Named Comes Both is (take n is ++ drop (suc n) is)

  erase-instrs : (is : List Instr) → AreInstrs Named Comes Both is (take (instr_place id is) is ++ drop (suc (instr_place id is)) is)
  erase-instrs [] = no_instrs
  erase-instrs (i ∷ is) = go (nat_eq i.id id) refl (erase-instrs is)
    where
      go : (u : Bool) → nat_eq i.id id ≡ u → Without is (instr_place id is) → Without (i ∷ is) (cond (not u) (1 + instr_place id is) 0)
      go true e ih = instr_goes (eqb-true i.id id e) (subst (AreInstrs Named Comes Both is) (sym (drop-none is)) (same-instrs Named Comes Both is))
      go false e ih = subst (Without (i ∷ is)) (sym (one-more (instr_place id is))) (instr_stays ih)

  pub erase-blocks : (bs : List Block) → AreBlocks Named Comes Both bs (map (cut id) bs)
  erase-blocks [] = no_blocks
  erase-blocks (b ∷ bs) = block_stays refl refl (erase-instrs b.instrs) (erase-blocks bs)

-- it changes

module _ (Goes Comes : Instr → Type 0) (id : ℕ) (h : Instr → Instr) where
  abbrev pub Becomes : Instr → Instr → Type 0
  Becomes i j = (i.id ≡ id) × (j ≡ h i)

  -- the instructions beside those of which one is changed at a place
  abbrev With : List Instr → ℕ → Type 0
  With is n = AreInstrs Goes Comes Becomes is (update n h is)

  change-instrs : (is : List Instr) → AreInstrs Goes Comes Becomes is (update (instr_place id is) h is)
  change-instrs [] = no_instrs
  change-instrs (i ∷ is) = go (nat_eq i.id id) refl (change-instrs is)
    where
      go : (u : Bool) → nat_eq i.id id ≡ u → With is (instr_place id is) → With (i ∷ is) (cond (not u) (1 + instr_place id is) 0)
      go true e ih = instr_changes (eqb-true i.id id e, refl) (same-instrs Goes Comes Becomes is)
      go false e ih = subst (With (i ∷ is)) (sym (one-more (instr_place id is))) (instr_stays ih)

  pub change-blocks : (bs : List Block) → AreBlocks Goes Comes Becomes bs (map (changed_in id h) bs)
  change-blocks [] = no_blocks
  change-blocks (b ∷ bs) = block_stays refl refl (change-instrs b.instrs) (change-blocks bs)
