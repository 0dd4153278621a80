-- Where blocks and instructions stand in the code of points: each place is the rest of one block, and no two are the same.
use Rattle.std.proofs.Common.{◌≡◌, ◌∙◌, ℕ, zero, suc, ◌+◌, ◌<◌, ◌≤◌, Bool, true, false, cond, not, List, [], ◌∷◌, ◌++◌, Some, map, length, drop, refl, sym, ap, subst, arith, eqb, eqb-true}
use Rattle.std.specs.Prelude.{nat_eq, slice_get, slice_index}
use Rattle.std.proofs.lemmas.Bool.{ltb-true, eq-eqb, lt-ltb}
use Rattle.target_base.specs.declared.types.Target.{Target}
use Rattle.meaning.specs.Code.{Code, BlockStart, found}
use Rattle.meaning.specs.Live.{Among as Member}
use Rattle.mir_func.specs.declared.func.Instr.{Instr}
use Rattle.mir_func.specs.declared.func.Block.{Block}
use Rattle.mir_func.specs.Value.{Function}
use Rattle.mir_func.specs.Edits.{instr_place}
use Rattle.mir_meaning.specs.Rules.{block_numbers}
use Rattle.mir_meaning.specs.Codes.{block_end, blocks_code}
use Rattle.mir_meaning.specs.Points.{point_item, has_instr, block_rest, from_instr}
use Rattle.mir_meaning.specs.Paths.{has}
use Rattle.instr_effects.proofs.Members.{map-in}
use Rattle.instr_effects.proofs.Tables.{map-long}
use Rattle.live_lanes.specs.Ordered.{ids_of, AreRising}
use Rattle.live_lanes.specs.Table.{Numbers}
use Rattle.live_lanes.proofs.Finding.{stands-there}
use Rattle.live_laws.proofs.Effects.Moved.{Apart}
use Rattle.live_laws.proofs.Effects.Moving.{some-same}
use Rattle.live_laws.proofs.Effects.Blocks.{items-past, slice-member}
use Rattle.live_laws.proofs.Exact.Inside.{has-id}

-- instructions of a block with what follows in the code
abbrev pub rest_code : Target → Function → Block → List Block → List Instr → Code
rest_code t f b after is = map (point_item t f b) is ++ (block_end t f b after ∷ blocks_code (point_item t f) t f after)

-- the start of a block
pub block-found : (t : Target) (f : Function) (bs : List Block) (y : ℕ) (b : Block) → slice_get bs y ≡ Some b → Apart (block_numbers bs) → found b.number (blocks_code (point_item t f) t f bs) ≡ rest_code t f b (drop (suc y) bs) b.instrs
block-found t f [] y b e p = absurd (cc)
block-found t f (c ∷ bs) zero b e p =
    let same = some-same c b e in
    subst (λ d. found d.number (BlockStart c.number ∷ rest_code t f c bs c.instrs) ≡ rest_code t f d bs d.instrs) same (ap (λ q. cond q (rest_code t f c bs c.instrs) (found c.number (rest_code t f c bs c.instrs))) (eq-eqb c.number c.number refl))
block-found t f (c ∷ bs) (suc y) b e p =
    ap (λ q. cond q (rest_code t f c bs c.instrs) (found b.number (rest_code t f c bs c.instrs))) (other (nat_eq c.number b.number) refl)
    ∙ items-past t f b.number c c.instrs (block_end t f c bs ∷ blocks_code (point_item t f) t f bs) ∙ block-found t f bs y b e p.1
  where
    other : (q : Bool) → nat_eq c.number b.number ≡ q → nat_eq c.number b.number ≡ false
    other false g = g
    other true g = absurd (p.0 (subst (λ n. Member n (block_numbers bs)) (sym (eqb-true c.number b.number g)) (map-in (λ d. d.number) b bs (slice-member bs y b e))))

-- the place of an instruction

-- the first instruction of an id
named-first : (id : ℕ) (is : List Instr) → instr_place id is < length is → (i : Instr) × (slice_get is (instr_place id is) ≡ Some i) × (i.id ≡ id)
named-first id [] h = absurd (omega arith)
named-first id (i ∷ is) h = go (eqb i.id id) refl h (named-first id is)
  where
    go : (q : Bool) → eqb i.id id ≡ q → cond (not q) (1 + instr_place id is) 0 < length (i ∷ is) → (instr_place id is < length is → (j : Instr) × (slice_get is (instr_place id is) ≡ Some j) × (j.id ≡ id)) → (j : Instr) × (slice_get (i ∷ is) (cond (not q) (1 + instr_place id is) 0) ≡ Some j) × (j.id ≡ id)
    go true e g ih = (i, refl, eqb-true i.id id e)
    go false e g ih =
        let z = ih (omega arith) in
        let one : 1 + instr_place id is ≡ suc (instr_place id is) = omega arith in
        (z.0, ap (slice_get (i ∷ is)) one ∙ z.1, z.2)

placed-by : (u : Bool) (n m : ℕ) → (u ≡ false → n < m) → cond (not u) (1 + n) 0 < suc m
placed-by true n m h = omega arith
placed-by false n m h = omega (arith, h refl)

place-within : (is : List Instr) (j : ℕ) (i : Instr) → slice_get is j ≡ Some i → instr_place i.id is < length is
place-within [] j i e = absurd (cc)
place-within (c ∷ is) zero i e = let same : c ≡ i = cc in placed-by (eqb c.id i.id) (instr_place i.id is) (length is) (λ h. absurd (let g : eqb c.id i.id ≡ true = eq-eqb c.id i.id (ap (λ z. z.id) same) in cc))
place-within (c ∷ is) (suc j) i e = placed-by (eqb c.id i.id) (instr_place i.id is) (length is) (λ h. place-within is j i e)

-- in a block whose instructions have rising numbers the first instruction of an id is the one
one-place : (slots : Numbers) (is : List Instr) (j : ℕ) (i : Instr) → AreRising slots 0 (ids_of is) → slice_get is j ≡ Some i → instr_place i.id is ≡ j
one-place slots is j i rising e =
    let z = named-first i.id is (place-within is j i e) in
    let a = stands-there slots is (instr_place i.id is) z.0 rising z.1 in
    let b = stands-there slots is j i rising e in
    let same = z.2 in
    cc

-- a block before the home of an instruction doesn't have its id
not-before : (c : Block) (id : ℕ) → (has id (ids_of c.instrs) ≡ true → ⊥) → has_instr id c ≡ false
not-before c id n = go (has_instr id c) refl
  where
    go : (q : Bool) → has_instr id c ≡ q → has_instr id c ≡ false
    go false e = e
    go true e =
        let z = named-first id c.instrs (ltb-true (instr_place id c.instrs) (length c.instrs) e) in
        absurd (n (subst (λ m. has m (ids_of c.instrs) ≡ true) z.2 (has-id c.instrs (instr_place id c.instrs) z.0 z.1)))

-- the code from an instruction on
pub instr-found : (t : Target) (f : Function) (homes : List ℕ) (slots : Numbers) (bs : List Block) (n y : ℕ) (b : Block) (j : ℕ) (i : Instr)
    → ((q : ℕ) (c : Block) (id : ℕ) → slice_get bs q ≡ Some c → has id (ids_of c.instrs) ≡ true → slice_index homes id ≡ n + q) → AreRising slots 0 (ids_of b.instrs)
    → slice_get bs y ≡ Some b → slice_get b.instrs j ≡ Some i → from_instr t f i.id bs ≡ rest_code t f b (drop (suc y) bs) (drop j b.instrs)
instr-found t f homes slots [] n y b j i homed rising e g = absurd (cc)
instr-found t f homes slots (c ∷ bs) n zero b j i homed rising e g =
    let same = some-same c b e in
    let there : has_instr i.id c ≡ true = subst (λ d. has_instr i.id d ≡ true) (sym same) (lt-ltb (instr_place i.id b.instrs) (length b.instrs) (place-within b.instrs j i g)) in
    ap (λ q. cond q (block_rest t f c bs (instr_place i.id c.instrs)) (from_instr t f i.id bs)) there
    ∙ subst (λ d. block_rest t f d bs (instr_place i.id d.instrs) ≡ rest_code t f b bs (drop j b.instrs)) (sym same) (ap (λ k. rest_code t f b bs (drop k b.instrs)) (one-place slots b.instrs j i rising g))
instr-found t f homes slots (c ∷ bs) n (suc y) b j i homed rising e g =
    let at : slice_index homes i.id ≡ n + suc y = homed (suc y) b i.id e (has-id b.instrs j i g) in
    let away : has_instr i.id c ≡ false = not-before c i.id (λ h. let here = homed 0 c i.id refl h in absurd (omega arith)) in
    ap (λ q. cond q (block_rest t f c bs (instr_place i.id c.instrs)) (from_instr t f i.id bs)) away
    ∙ instr-found t f homes slots bs (n + 1) y b j i (λ q d id k h. homed (suc q) d id k h ∙ omega arith) rising e g

-- and only an instruction has an id at which code stands
pub record AtId (bs : List Block) (id : ℕ) : Type 0 where
  pub position : ℕ
  pub block : Block
  pub place : ℕ
  pub instr : Instr
  pub stands : slice_get bs position ≡ Some block
  pub there : slice_get block.instrs place ≡ Some instr
  pub named : instr.id ≡ id

pub at-id : (t : Target) (f : Function) (bs : List Block) (id : ℕ) → (from_instr t f id bs ≡ [] → ⊥) → AtId bs id
at-id t f [] id n = absurd (n refl)
at-id t f (b ∷ bs) id n = go (has_instr id b) refl (λ m. at-id t f bs id m)
  where
    go : (q : Bool) → has_instr id b ≡ q → ((from_instr t f id bs ≡ [] → ⊥) → AtId bs id) → AtId (b ∷ bs) id
    go true e ih =
        let z = named-first id b.instrs (ltb-true (instr_place id b.instrs) (length b.instrs) e) in
        record { position = 0; block = b; place = instr_place id b.instrs; instr = z.0; stands = refl; there = z.1; named = z.2 }
    go false e ih =
        let z = ih (λ h. n (ap (λ q. cond q (block_rest t f b bs (instr_place id b.instrs)) (from_instr t f id bs)) e ∙ h)) in
        record { position = suc z.position; block = z.block; place = z.place; instr = z.instr; stands = z.stands; there = z.there; named = z.named }

-- places differ by their lengths

long-join : {X : Type 0} (xs ys : List X) → length (xs ++ ys) ≡ length xs + length ys
long-join [] ys = omega arith
long-join (x ∷ xs) ys = omega (arith, long-join xs ys)

module _ (t : Target) (f : Function) where
  abbrev size : List Block → ℕ
  size bs = length (blocks_code (point_item t f) t f bs)

  rest-long : (b : Block) (after : List Block) (is : List Instr) → length (rest_code t f b after is) ≡ length is + suc (size after)
  rest-long b after is = long-join (map (point_item t f b) is) _ ∙ ap (λ n. n + suc (size after)) (map-long (point_item t f b) is)

  block-long : (b : Block) (bs : List Block) → size (b ∷ bs) ≡ suc (length b.instrs + suc (size bs))
  block-long b bs = ap suc (rest-long b bs b.instrs)

  -- what follows block y is shorter than what begins with block y, and so is what follows any later one
  size-drop : (bs : List Block) (y : ℕ) (b : Block) → slice_get bs y ≡ Some b → size (drop (suc y) bs) + suc (suc (length b.instrs)) ≤ size bs
  size-drop [] y b e = absurd (cc)
  size-drop (c ∷ bs) zero b e = let same = some-same c b e in let z : length c.instrs ≡ length b.instrs = ap (λ (d : Block). length d.instrs) same in omega (arith, block-long c bs)
  size-drop (c ∷ bs) (suc y) b e = omega (arith, block-long c bs, size-drop bs y b e)

  -- the same length at the same position means the same length of what is left of the block
  pub same-position : (bs : List Block) (y z : ℕ) (b c : Block) (is js : List Instr) → slice_get bs y ≡ Some b → slice_get bs z ≡ Some c → length is ≤ length b.instrs → length js ≤ length c.instrs
      → length (rest_code t f b (drop (suc y) bs) is) ≡ length (rest_code t f c (drop (suc z) bs) js) → (y ≡ z) × (length is ≡ length js)
  same-position [] y z b c is js e g h k l = absurd (cc)
  same-position (d ∷ bs) zero zero b c is js e g h k l = (refl, omega (arith, rest-long b bs is, rest-long c bs js))
  same-position (d ∷ bs) zero (suc z) b c is js e g h k l = absurd (omega (arith, rest-long b bs is, rest-long c (drop (suc z) bs) js, size-drop bs z c g))
  same-position (d ∷ bs) (suc y) zero b c is js e g h k l = absurd (omega (arith, rest-long b (drop (suc y) bs) is, rest-long c bs js, size-drop bs y b e))
  same-position (d ∷ bs) (suc y) (suc z) b c is js e g h k l = let r = same-position bs y z b c is js e g h k l in (ap suc r.0, r.1)

-- ends of one list that are as long are the same
pub same-ends : {X : Type 0} (xs us ys vs : List X) → xs ++ us ≡ ys ++ vs → length us ≡ length vs → us ≡ vs
same-ends [] us [] vs e h = e
same-ends [] us (y ∷ ys) vs e h = absurd (let l = ap length e in omega (arith, long-join ys vs))
same-ends (x ∷ xs) us [] vs e h = absurd (let l = ap length e in omega (arith, long-join xs us))
same-ends {X} (x ∷ xs) us (y ∷ ys) vs e h = same-ends xs us ys vs (tail x y (xs ++ us) (ys ++ vs) e) h
  where
    tail : (a b : X) (ps qs : List X) → a ∷ ps ≡ b ∷ qs → ps ≡ qs
    tail a b ps qs e = cc
