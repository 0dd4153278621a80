-- A lane that is live or occupied at any point has a number, and each instruction stands in one block.
use Rattle.std.proofs.Common.{◌≡◌, ◌⊎◌, ◌<◌, ℕ, zero, suc, Bool, true, false, cond, not, ◌+◌, List, [], ◌∷◌, Option, Some, None, length, inl, inr, refl, sym, ap, ◌∙◌, subst, arith, eqb, eq-eqb}
use Rattle.std.specs.Prelude.{nat_eq, slice_get, option_map}
use Rattle.std.proofs.lemmas.Bool.{lt-ltb}
use Rattle.target_base.specs.declared.types.Target.{Target}
use Rattle.meaning.specs.declared.types.Lane.{Lane}
use Rattle.meaning.specs.Code.{Code as Places, found}
use Rattle.meaning.specs.Live.{Among as Member, is_slot, Live as LivePlace, OccupiedBefore, OccupiedAfter}
use Rattle.mir_func.specs.declared.func.Block.{Block}
use Rattle.mir_func.specs.declared.func.Instr.{Instr}
use Rattle.mir_func.specs.Value.{Function}
use Rattle.mir_func.specs.Edits.{instr_place}
use Rattle.mir_meaning.specs.Registers.{is_reserved}
use Rattle.mir_meaning.specs.Codes.{block_end, blocks_code}
use Rattle.mir_meaning.specs.Points.{Point, Start, Entry, Exit, point_item, has_instr, block_rest, from_instr, AtFirst, OccupiedAt}
use Rattle.mir_meaning.specs.Rules.{V8}
use Rattle.instr_effects.specs.Numbered.{number_in}
use Rattle.instr_effects.specs.Steps.{Numbering}
use Rattle.instr_effects.specs.Stepping.{tag_of}
use Rattle.live_laws.specs.Effects.Shaped.{is_proper}
use Rattle.live_laws.specs.Effects.Coded.{one_on, spot_in, KeepsRules, IsNumbered}
use Rattle.live_laws.proofs.Effects.Blocks.{member-slice, place-block, block_code, items-past}
use Rattle.live_laws.proofs.Effects.Whole.{points-are}
use Rattle.live_lanes.specs.declared.table.Table.{Table}
use Rattle.live_lanes.specs.Ordered.{place_of}
use Rattle.live_lanes.specs.Doing.{IsComputed}
use Rattle.live_laws.proofs.Exact.Coded.{place-same}
use Rattle.live_laws.proofs.Exact.Computed.{live-numbered}
use Rattle.live_laws.proofs.Exact.Inside.{numbered, has-id, home}
use Rattle.live_laws.proofs.Exact.Spots.{spot, entry-occupied, exit-occupied}

none-of : {X Y : Type 0} (g : X → Y) (q : Option X) → option_map g q ≡ None → q ≡ None
none-of g None e = refl
none-of g (Some x) e = absurd (cc)

-- the instruction of an id is found where it stands

placed-by : (u : Bool) (n m : ℕ) → (u ≡ true) ⊎ (n < m) → cond (not u) (1 + n) 0 < suc m
placed-by true n m h = omega arith
placed-by false n m (inl e) = absurd (cc)
placed-by false n m (inr lt) = omega (arith, lt)

place-within : (is : List Instr) (j : ℕ) (i : Instr) → slice_get is j ≡ Some i → instr_place i.id is < length is
place-within [] j i e = absurd (cc)
place-within (c ∷ is) zero i e = let same : c ≡ i = cc in placed-by (eqb c.id i.id) (instr_place i.id is) (length is) (inl (eq-eqb c.id i.id (ap (λ z. z.id) same)))
place-within (c ∷ is) (suc j) i e = placed-by (eqb c.id i.id) (instr_place i.id is) (length is) (inr (place-within is j i e))

spot-there : (bs : List Block) (k : ℕ) (b : Block) (i : Instr) → slice_get bs k ≡ Some b → Member i b.instrs → (y : ℕ) × (j : ℕ) × (spot_in i.id bs ≡ Some (y, j))
spot-there [] k b i e m = absurd (cc)
spot-there (c ∷ bs) zero b i e m =
    let same : c ≡ b = cc in
    let j = member-slice i b.instrs m in
    let there : has_instr i.id c ≡ true = subst (λ d. has_instr i.id d ≡ true) (sym same) (lt-ltb (instr_place i.id b.instrs) (length b.instrs) (place-within b.instrs j.0 i j.1)) in
    (0, instr_place i.id c.instrs, ap (λ u. cond {A = Option (ℕ × ℕ)} u (Some (0, instr_place i.id c.instrs)) (option_map one_on (spot_in i.id bs))) there)
spot-there (c ∷ bs) (suc k) b i e m = go (has_instr i.id c) (spot-there bs k b i e m)
  where
    go : (u : Bool) → ((y : ℕ) × (j : ℕ) × (spot_in i.id bs ≡ Some (y, j))) → (y : ℕ) × (j : ℕ) × (cond {A = Option (ℕ × ℕ)} u (Some (0, instr_place i.id c.instrs)) (option_map one_on (spot_in i.id bs)) ≡ Some (y, j))
    go true z = (0, instr_place i.id c.instrs, refl)
    go false z = (suc z.0, z.1, ap (option_map one_on) z.2)

-- nothing is live or occupied outside of the function

nothing : {reserved : Lane → Bool} {code : Places} {l : Lane} → LivePlace reserved code [] l → ⊥
nothing h = elim h [ ]

module _ (t : Target) (f : Function) where
  found-none : (n : ℕ) (bs : List Block) → place_of n bs ≡ None → found n (blocks_code (point_item t f) t f bs) ≡ []
  found-none n [] e = refl
  found-none n (b ∷ bs) e = go (nat_eq b.number n) refl e (found-none n bs)
    where
      go : (u : Bool) → nat_eq b.number n ≡ u → cond {A = Option ℕ} u (Some 0) (option_map (λ x. suc x) (place_of n bs)) ≡ None → (place_of n bs ≡ None → found n (blocks_code (point_item t f) t f bs) ≡ []) → found n (blocks_code (point_item t f) t f (b ∷ bs)) ≡ []
      go true g h ih = absurd (cc)
      go false g h ih =
          ap (λ q. cond q (block_code t f b bs) (found n (block_code t f b bs))) g ∙ items-past t f n b b.instrs (block_end t f b bs ∷ blocks_code (point_item t f) t f bs) ∙ ih (none-of (λ x. suc x) (place_of n bs) h)

  from-none : (id : ℕ) (bs : List Block) → spot_in id bs ≡ None → from_instr t f id bs ≡ []
  from-none id [] e = refl
  from-none id (b ∷ bs) e = go (has_instr id b) refl e (from-none id bs)
    where
      go : (u : Bool) → has_instr id b ≡ u → cond {A = Option (ℕ × ℕ)} u (Some (0, instr_place id b.instrs)) (option_map one_on (spot_in id bs)) ≡ None → (spot_in id bs ≡ None → from_instr t f id bs ≡ []) → from_instr t f id (b ∷ bs) ≡ []
      go true g h ih = absurd (cc)
      go false g h ih = ap (λ q. cond q (block_rest t f b bs (instr_place id b.instrs)) (from_instr t f id bs)) g ∙ ih (none-of one_on (spot_in id bs) h)

module _ (t : Target) (f : Function) (x : Table) (computed : IsComputed t f x) (rules : KeepsRules t f) (last : (b : Block) (j : ℕ) (i : Instr) → Member b f.blocks → slice_get b.instrs j ≡ Some i → V8 t b j i ≡ true) where
  abbrev num : Numbering
  num = number_in x.lanes

  abbrev C : Places
  C = blocks_code (point_item t f) t f f.blocks

  named : IsNumbered t f num
  named = numbered t f x computed rules last

  -- the block of an instruction is the one in which its id is found
  pub spot-at : (k : ℕ) (b : Block) (i : Instr) → slice_get f.blocks k ≡ Some b → Member i b.instrs → (j : ℕ) × (spot_in i.id f.blocks ≡ Some (k, j))
  spot-at k b i e m =
      let z = spot-there f.blocks k b i e m in
      let j = member-slice i b.instrs m in
      let same : z.0 ≡ k = sym (home t f x computed rules last i.id z.0 z.1 z.2) ∙ computed.homes k b i.id e (has-id b.instrs j.0 i j.1) in
      (z.1, subst (λ y. spot_in i.id f.blocks ≡ Some (y, z.1)) same z.2)

  module _ (l : Lane) where
    start-in : (n : ℕ) → OccupiedAt t f (Start n) l → LivePlace (is_reserved t) C (found n C) l
    start-in n h = subst (λ c. LivePlace (is_reserved t) c (found n c) l) (points-are t f num rules named) h

    entry-in : (id : ℕ) → OccupiedAt t f (Entry id) l → AtFirst (λ i p. OccupiedBefore (is_reserved t) C i p l) (from_instr t f id f.blocks)
    entry-in id h = subst (λ c. AtFirst (λ i p. OccupiedBefore (is_reserved t) c i p l) (from_instr t f id f.blocks)) (points-are t f num rules named) h

    exit-in : (id : ℕ) → OccupiedAt t f (Exit id) l → AtFirst (λ i p. OccupiedAfter (is_reserved t) C i p l) (from_instr t f id f.blocks)
    exit-in id h = subst (λ c. AtFirst (λ i p. OccupiedAfter (is_reserved t) c i p l) (from_instr t f id f.blocks)) (points-are t f num rules named) h

    pub no-start : (n : ℕ) → place_of n f.blocks ≡ None → OccupiedAt t f (Start n) l → ⊥
    no-start n e h = nothing (subst (λ p. LivePlace (is_reserved t) C p l) (found-none t f n f.blocks e) (start-in n h))

    pub no-entry : (id : ℕ) → spot_in id f.blocks ≡ None → OccupiedAt t f (Entry id) l → ⊥
    no-entry id e h = subst (AtFirst (λ i p. OccupiedBefore (is_reserved t) C i p l)) (from-none t f id f.blocks e) (entry-in id h)

    pub no-exit : (id : ℕ) → spot_in id f.blocks ≡ None → OccupiedAt t f (Exit id) l → ⊥
    no-exit id e h = subst (AtFirst (λ i p. OccupiedAfter (is_reserved t) C i p l)) (from-none t f id f.blocks e) (exit-in id h)

    module _ (still : is_slot l ≡ false) where
      abbrev HasNumber : Type 0
      HasNumber = (n : ℕ) × (tag_of num (is_proper t) l ≡ Some n)

      pub numbered-at : (p : Point) → OccupiedAt t f p l → HasNumber
      numbered-at (Start n) h = go (place_of n f.blocks) refl
        where
          go : (q : Option ℕ) → place_of n f.blocks ≡ q → HasNumber
          go None e = absurd (no-start n e h)
          go (Some k) e = let b = place-block n f.blocks k (sym (place-same n f.blocks) ∙ e) in live-numbered t f num rules named l k b.0 b.1 (subst (λ m. LivePlace (is_reserved t) C (found m C) l) (sym b.2) (start-in n h))
      numbered-at (Entry id) h = go (spot_in id f.blocks) refl
        where
          go : (q : Option (ℕ × ℕ)) → spot_in id f.blocks ≡ q → HasNumber
          go None e = absurd (no-entry id e h)
          go (Some (p, k)) e = entry-occupied t f num rules named l id p k (spot t f id f.blocks p k e) still (entry-in id h)
      numbered-at (Exit id) h = go (spot_in id f.blocks) refl
        where
          go : (q : Option (ℕ × ℕ)) → spot_in id f.blocks ≡ q → HasNumber
          go None e = absurd (no-exit id e h)
          go (Some (p, k)) e = exit-occupied t f num rules named l id p k (spot t f id f.blocks p k e) still (exit-in id h)
