-- Where the function names the slot behind the spill, a touched place uses it, or the function named it before.
use Rattle.std.proofs.Common.{◌≡◌, ◌∷◌, ◌++◌, ◌∙◌, ◌+◌, ◌&&◌, ◌||◌, ◌⊎◌, inl, inr, not, ℕ, Bool, true, false, List, [], flat_map, length, map, refl, sym, ap}
use Rattle.std.specs.List.{list_any, sum_by, zip}
use Rattle.std.proofs.lemmas.List.Folds.{list_any-append}
use Rattle.meaning.specs.Live.{Among, here, there}
use Rattle.mir_func.specs.declared.func.Block.{Block}
use Rattle.mir_func.specs.declared.func.Instr.{Instr}
use Rattle.spiller.specs.Setting.{Spilling}
use Rattle.spiller.specs.Rematerialised.{places_of}
use Rattle.spiller.specs.Spilled.{Change, block_changes, change, changes, is_slot, names_slot, new_ids, numbered_change, spilled, spilled_block, tinies_of, with_ids}
use Rattle.spiller.specs.Planned.{names_own_slot, uses_own_slot}
use Rattle.spiller.specs.WholePlan.{instrs_of, touches_place}
use Rattle.spiller.proofs.BlockEdits.{places-whole, whole}
use Rattle.spiller.proofs.WholePlans.{StayUntouched, StaysSo, blocks_use, places_use}

or-true : (u : Bool) → u || true ≡ true
or-true true = refl
or-true false = refl

either-true : (u v : Bool) → u || v ≡ true → (u ≡ true) ⊎ (v ≡ true)
either-true true v h = inl refl
either-true false v h = inr h

first-or : (u v : Bool) → u ≡ true → u || v ≡ true
first-or u v h = ap (λ w. w || v) h

second-or : (u v : Bool) → v ≡ true → u || v ≡ true
second-or u v h = ap (λ w. u || w) h ∙ or-true u

both-true : (u v : Bool) → u && v ≡ true → (u ≡ true) × (v ≡ true)
both-true true v h = (refl, h)
both-true false v h = absurd (let z : false ≡ true = h in cc)

module _ (s : Spilling) where
  abbrev named : List Instr → Bool
  named is = list_any (names_own_slot s) is

  named-both : (xs ys : List Instr) → named (xs ++ ys) ≡ named xs || named ys
  named-both xs ys = list_any-append (names_own_slot s) xs ys

  named-ids : (n : ℕ) (xs : List Instr) → named (with_ids n xs) ≡ named xs
  named-ids n [] = refl
  named-ids n (x ∷ xs) = ap (λ u. names_own_slot s x || u) (named-ids _ xs)

  -- ids make no difference
  whole-named : (n c : ℕ) (p : List Instr) → let x = change s n c p in named (whole (numbered_change s n c p)) ≡ named x.before || (named x.own || named x.behind)
  whole-named n c p =
      let x : Change = change s n c p in
      let first : List Instr = with_ids n x.before in
      let last : List Instr = with_ids (n + length x.before) x.behind in
      named-both first (x.own ++ last)
      ∙ (λ k. named-ids n x.before k || (named-both x.own last ∙ ap (λ u. named x.own || u) (named-ids (n + length x.before) x.behind)) k)

  -- where a place names the slot behind the spill, it uses it, or named it before
  used-or-named : (p : List Instr) (x : Change) → named x.before || (named x.own || named x.behind) ≡ true → (uses_own_slot s p x ≡ true) ⊎ (named p ≡ true)
  used-or-named p x h = go (named x.before) (named p) (named x.own) (named x.behind) refl h
    where
      go : (a u w b : Bool) → named p ≡ u → a || (w || b) ≡ true → (a || ((not u && w) || b) ≡ true) ⊎ (named p ≡ true)
      go true u w b e h = inl refl
      go false true w b e h = inr e
      go false false w b e h = inl h

  used-named : (p : List Instr) (x : Change) → uses_own_slot s p x ≡ true → named x.before || (named x.own || named x.behind) ≡ true
  used-named p x h = go (named x.before) (named p) (named x.own) (named x.behind) h
    where
      go : (a u w b : Bool) → a || ((not u && w) || b) ≡ true → a || (w || b) ≡ true
      go true u w b h = refl
      go false true true b h = refl
      go false true false b h = h
      go false false w b h = h

  becomes-named : (is : List Instr) → (named is || false) ≡ named is
  becomes-named is = go (named is)
    where
      go : (u : Bool) → u || false ≡ u
      go true = refl
      go false = refl

  places-named : (n c : ℕ) (ps : List (List Instr)) → StayUntouched s ps → named (flat_map whole (changes s n c ps)) ≡ true → (places_use s n c ps ≡ true) ⊎ (named (instrs_of ps) ≡ true)
  places-named n c [] stay h = absurd (let z : false ≡ true = h in cc)
  places-named n c (p ∷ rest) stay h =
      let y : Change = numbered_change s n c p in
      let ys : List Change = changes s (n + new_ids y) (c + length y.tinies) rest in
      go (touches_place s p) refl (either-true (named (whole y)) (named (flat_map whole ys)) (sym (named-both (whole y) (flat_map whole ys)) ∙ h)) (places-named (n + new_ids y) (c + length y.tinies) rest (λ q m. stay q (there m)))
    where
      m : ℕ
      m = n + new_ids (numbered_change s n c p)

      d : ℕ
      d = c + length (change s n c p).tinies

      goal : Type 0
      goal = ((touches_place s p && uses_own_slot s p (change s n c p)) || places_use s m d rest ≡ true) ⊎ (named (p ++ instrs_of rest) ≡ true)

      later : (places_use s m d rest ≡ true) ⊎ (named (instrs_of rest) ≡ true) → goal
      later (inl k) = inl (second-or (touches_place s p && uses_own_slot s p (change s n c p)) (places_use s m d rest) k)
      later (inr k) = inr (named-both p (instrs_of rest) ∙ second-or (named p) (named (instrs_of rest)) k)

      go : (u : Bool) → touches_place s p ≡ u → (named (whole (numbered_change s n c p)) ≡ true) ⊎ (named (flat_map whole (changes s m d rest)) ≡ true) → (named (flat_map whole (changes s m d rest)) ≡ true → (places_use s m d rest ≡ true) ⊎ (named (instrs_of rest) ≡ true)) → goal
      go u e (inr k) more = later (more k)
      go true e (inl k) more = of (used-or-named p (change s n c p) (sym (whole-named n c p) ∙ k))
        where
          of : (uses_own_slot s p (change s n c p) ≡ true) ⊎ (named p ≡ true) → goal
          of (inl q) = inl (first-or (touches_place s p && uses_own_slot s p (change s n c p)) (places_use s m d rest) ((λ j. e j && uses_own_slot s p (change s n c p)) ∙ q))
          of (inr q) = inr (named-both p (instrs_of rest) ∙ first-or (named p) (named (instrs_of rest)) q)
      go false e (inl k) more =
          let z : StaysSo s p = stay p here e in
          inr (named-both p (instrs_of rest) ∙ first-or (named p) (named (instrs_of rest)) (sym (becomes-named p) ∙ (ap (λ (w : Change). named w.before || (named w.own || named w.behind)) (sym (z.change_is n c)) ∙ (sym (whole-named n c p) ∙ k))))

  places-used : (n c : ℕ) (ps : List (List Instr)) → places_use s n c ps ≡ true → named (flat_map whole (changes s n c ps)) ≡ true
  places-used n c [] h = h
  places-used n c (p ∷ rest) h =
      let y : Change = numbered_change s n c p in
      let ys : List Change = changes s (n + new_ids y) (c + length y.tinies) rest in
      named-both (whole y) (flat_map whole ys) ∙ go (either-true (touches_place s p && uses_own_slot s p (change s n c p)) (places_use s (n + new_ids y) (c + length y.tinies) rest) h) (places-used (n + new_ids y) (c + length y.tinies) rest)
    where
      go : ((touches_place s p && uses_own_slot s p (change s n c p)) ≡ true) ⊎ (places_use s (n + new_ids (numbered_change s n c p)) (c + length (change s n c p).tinies) rest ≡ true)
          → (places_use s (n + new_ids (numbered_change s n c p)) (c + length (change s n c p).tinies) rest ≡ true → named (flat_map whole (changes s (n + new_ids (numbered_change s n c p)) (c + length (change s n c p).tinies) rest)) ≡ true)
          → named (whole (numbered_change s n c p)) || named (flat_map whole (changes s (n + new_ids (numbered_change s n c p)) (c + length (change s n c p).tinies) rest)) ≡ true
      go (inl k) more = first-or (named (whole (numbered_change s n c p))) _ (whole-named n c p ∙ used-named p (change s n c p) (both-true (touches_place s p) (uses_own_slot s p (change s n c p)) k).1)
      go (inr k) more = second-or (named (whole (numbered_change s n c p))) _ (more k)

  -- blocks

  abbrev in-blocks : List Block → Bool
  in-blocks bs = list_any (λ (b : Block). list_any (λ (i : Instr). list_any (is_slot s.slot) i.operands) b.instrs) bs

  blocks-named : (n c : ℕ) (bs : List Block) → ((b : Block) → Among b bs → StayUntouched s (places_of s.target b)) → in-blocks (map spilled_block (zip bs (block_changes s n c bs))) ≡ true → (blocks_use s n c bs ≡ true) ⊎ (in-blocks bs ≡ true)
  blocks-named n c [] stay h = absurd (let z : false ≡ true = h in cc)
  blocks-named n c (b ∷ bs) stay h =
      let ps : List (List Instr) = places_of s.target b in
      let xs : List Change = changes s n c ps in
      let m : ℕ = n + sum_by new_ids xs in
      let d : ℕ = c + length (tinies_of xs) in
      let rest : Bool = in-blocks (map spilled_block (zip bs (block_changes s m d bs))) in
      here-or (either-true (named (flat_map whole xs)) rest h) m d (λ k. places-named n c ps (stay b here) k) (λ k. blocks-named m d bs (λ e j. stay e (there j)) k)
    where
      here-or : {A B : Type 0} → A ⊎ B → (m d : ℕ) → (A → (places_use s n c (places_of s.target b) ≡ true) ⊎ (named (instrs_of (places_of s.target b)) ≡ true)) → (B → (blocks_use s m d bs ≡ true) ⊎ (in-blocks bs ≡ true)) → (places_use s n c (places_of s.target b) || blocks_use s m d bs ≡ true) ⊎ (named b.instrs || in-blocks bs ≡ true)
      here-or (inl a) m d f g = by (f a)
        where
          by : (places_use s n c (places_of s.target b) ≡ true) ⊎ (named (instrs_of (places_of s.target b)) ≡ true) → (places_use s n c (places_of s.target b) || blocks_use s m d bs ≡ true) ⊎ (named b.instrs || in-blocks bs ≡ true)
          by (inl k) = inl (first-or (places_use s n c (places_of s.target b)) (blocks_use s m d bs) k)
          by (inr k) = inr (first-or (named b.instrs) (in-blocks bs) (ap named (sym (places-whole s.target b.instrs)) ∙ k))
      here-or (inr q) m d f g = by (g q)
        where
          by : (blocks_use s m d bs ≡ true) ⊎ (in-blocks bs ≡ true) → (places_use s n c (places_of s.target b) || blocks_use s m d bs ≡ true) ⊎ (named b.instrs || in-blocks bs ≡ true)
          by (inl k) = inl (second-or (places_use s n c (places_of s.target b)) (blocks_use s m d bs) k)
          by (inr k) = inr (second-or (named b.instrs) (in-blocks bs) k)

  blocks-used : (n c : ℕ) (bs : List Block) → blocks_use s n c bs ≡ true → in-blocks (map spilled_block (zip bs (block_changes s n c bs))) ≡ true
  blocks-used n c [] h = h
  blocks-used n c (b ∷ bs) h =
      let ps : List (List Instr) = places_of s.target b in
      let xs : List Change = changes s n c ps in
      let m : ℕ = n + sum_by new_ids xs in
      let d : ℕ = c + length (tinies_of xs) in
      go m d (either-true (places_use s n c ps) (blocks_use s m d bs) h) (places-used n c ps) (blocks-used m d bs)
    where
      go : (m d : ℕ) → (places_use s n c (places_of s.target b) ≡ true) ⊎ (blocks_use s m d bs ≡ true) → (places_use s n c (places_of s.target b) ≡ true → named (flat_map whole (changes s n c (places_of s.target b))) ≡ true)
          → (blocks_use s m d bs ≡ true → in-blocks (map spilled_block (zip bs (block_changes s m d bs))) ≡ true)
          → named (flat_map whole (changes s n c (places_of s.target b))) || in-blocks (map spilled_block (zip bs (block_changes s m d bs))) ≡ true
      go m d (inl k) f g = first-or (named (flat_map whole (changes s n c (places_of s.target b)))) _ (f k)
      go m d (inr k) f g = second-or (named (flat_map whole (changes s n c (places_of s.target b)))) _ (g k)

  abbrev uses : Bool
  uses = blocks_use s s.func.next_id (length s.func.classes) s.func.blocks

  pub slot-known : ((b : Block) → Among b s.func.blocks → StayUntouched s (places_of s.target b)) → names_slot s.slot (spilled s) ≡ true → (uses ≡ true) ⊎ (names_slot s.slot s.func ≡ true)
  unfolding spilled
  slot-known stay h = blocks-named s.func.next_id (length s.func.classes) s.func.blocks stay h

  pub slot-used : uses ≡ true → names_slot s.slot (spilled s) ≡ true
  unfolding spilled
  slot-used h = blocks-used s.func.next_id (length s.func.classes) s.func.blocks h
