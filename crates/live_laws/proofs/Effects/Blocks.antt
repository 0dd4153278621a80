-- Where the blocks of a function stand in its code, and what its numbers tell.
use Rattle.std.proofs.Common.{◌≡◌, ◌⊎◌, ℕ, zero, suc, Bool, true, false, cond, not, ◌||◌, List, [], ◌∷◌, ◌++◌, Option, Some, None, map, filter_map, take, refl, sym, ap, ◌∙◌, subst, inl, inr, eqb-true, eq-eqb}
use Rattle.std.specs.Prelude.{nat_eq, slice_get, option_map}
use Rattle.std.specs.List.{cons_option}
use Rattle.target_base.specs.declared.types.Effect.{Effect}
use Rattle.target_base.specs.declared.types.Target.{Target}
use Rattle.target_base.specs.Roles.{is_silent}
use Rattle.target_base.specs.Rules.{is_phi}
use Rattle.target_base.proofs.Tests.{first_of_both, second_of_both}
use Rattle.meaning.specs.Code.{Item, BlockStart, BlockEnd, Silent, Counted, Code as Places, found}
use Rattle.meaning.specs.Live.{Among as Member, here as first, there as later}
use Rattle.mir_func.specs.declared.func.Instr.{Instr}
use Rattle.mir_func.specs.declared.func.Block.{Block}
use Rattle.mir_func.specs.Value.{Function}
use Rattle.mir_func.specs.Binding.{effect_of, does, is_terminator, roles_of, is_early_clobber}
use Rattle.mir_meaning.specs.Registers.{has_number}
use Rattle.mir_meaning.specs.Items.{silent_reads, silent_writes, rest_of, values, counted_writes, defined_undef}
use Rattle.mir_meaning.specs.Codes.{item_of, effect_item, block_end, blocks_code, way, ways_out, target_of}
use Rattle.mir_meaning.specs.Points.{point_item}
use Rattle.mir_meaning.specs.Rules.{V5, block_numbers, successors_of}
use Rattle.mir_meaning.specs.Paths.{Among, here, there}
use Rattle.instr_effects.proofs.Members.{member-none, member-elim, left-in, map-of, map-in}
use Rattle.live_laws.specs.Effects.Coded.{place_of}
use Rattle.live_laws.proofs.Effects.Moved.{Apart}
use Rattle.live_laws.proofs.Effects.Moving.{some-same}
use Rattle.live_laws.proofs.Effects.Lists.{any-in, all-of}

-- the two words for members of lists

pub among-of : {X : Type 0} (x : X) (xs : List X) → Member x xs → Among x xs
among-of x [] m = absurd (member-none x m)
among-of x (y ∷ xs) m = member-elim x y xs (λ e. subst (λ z. Among x (z ∷ xs)) e here) (λ k. there (among-of x xs k)) m

among-cases : {X : Type 0} (x y : X) (ys : List X) → Among x (y ∷ ys) → (x ≡ y) ⊎ Among x ys
among-cases x y ys here = inl refl
among-cases x y ys (there m) = inr m

pub of-among : {X : Type 0} (x : X) (xs : List X) → Among x xs → Member x xs
of-among x [] m = elim m [ ]
of-among x (y ∷ xs) m = go (among-cases x y xs m) (of-among x xs)
  where
    go : (x ≡ y) ⊎ Among x xs → (Among x xs → Member x xs) → Member x (y ∷ xs)
    go (inl e) h = subst (λ z. Member x (z ∷ xs)) e first
    go (inr k) h = later (h k)

-- elements at places

pub slice-member : {X : Type 0} (xs : List X) (k : ℕ) (x : X) → slice_get xs k ≡ Some x → Member x xs
slice-member [] k x e = absurd (cc)
slice-member (y ∷ xs) zero x e = subst (λ z. Member x (z ∷ xs)) (some-same x y (sym e)) first
slice-member (y ∷ xs) (suc k) x e = later (slice-member xs k x e)

pub member-slice : {X : Type 0} (x : X) (xs : List X) → Member x xs → (k : ℕ) × (slice_get xs k ≡ Some x)
member-slice x [] m = absurd (member-none x m)
member-slice x (y ∷ xs) m = member-elim x y xs (λ e. (zero, ap Some (sym e))) (λ j. let z = member-slice x xs j in (suc z.0, z.1)) m

pub slice-map : {X Y : Type 0} (g : X → Y) (xs : List X) (k : ℕ) → slice_get (map g xs) k ≡ option_map g (slice_get xs k)
slice-map g [] k = refl
slice-map g (x ∷ xs) zero = refl
slice-map g (x ∷ xs) (suc k) = slice-map g xs k

pub filtered-of : {X Y : Type 0} (g : X → Option Y) (y : Y) (xs : List X) → Member y (filter_map g xs) → (x : X) × Member x xs × (g x ≡ Some y)
filtered-of g y [] m = absurd (member-none y m)
filtered-of {X} {Y} g y (x ∷ xs) m = go (g x) refl m (filtered-of g y xs)
  where
    more : ((z : X) × Member z xs × (g z ≡ Some y)) → (z : X) × Member z (x ∷ xs) × (g z ≡ Some y)
    more z = (z.0, later z.1, z.2)

    go : (q : Option Y) → g x ≡ q → Member y (cons_option q (filter_map g xs)) → (Member y (filter_map g xs) → (z : X) × Member z xs × (g z ≡ Some y)) → (z : X) × Member z (x ∷ xs) × (g z ≡ Some y)
    go None e k ih = more (ih k)
    go (Some w) e k ih = member-elim y w (filter_map g xs) (λ f. (x, first, e ∙ ap Some (sym f))) (λ j. more (ih j)) k

pub filtered-in : {X Y : Type 0} (g : X → Option Y) (x : X) (y : Y) (xs : List X) → Member x xs → g x ≡ Some y → Member y (filter_map g xs)
filtered-in g x y [] m e = absurd (member-none x m)
filtered-in {X} {Y} g x y (w ∷ xs) m e = member-elim x w xs (λ f. at (g w) (ap g (sym f) ∙ e)) (λ k. past (g w) (filtered-in g x y xs k e)) m
  where
    at : (q : Option Y) → q ≡ Some y → Member y (cons_option q (filter_map g xs))
    at None f = absurd (cc)
    at (Some z) f = subst (λ v. Member y (v ∷ filter_map g xs)) (some-same y z (sym f)) first

    past : (q : Option Y) → Member y (filter_map g xs) → Member y (cons_option q (filter_map g xs))
    past None k = k
    past (Some z) k = later k

-- numbers in lists

pub number-there : (n : ℕ) (ns : List ℕ) → has_number ns n ≡ true → Member n ns
number-there n [] e = absurd (cc)
number-there n (m ∷ ns) e = go (nat_eq n m) refl e (number-there n ns)
  where
    go : (b : Bool) → nat_eq n m ≡ b → (b || has_number ns n) ≡ true → (has_number ns n ≡ true → Member n ns) → Member n (m ∷ ns)
    go true f g ih = subst (λ z. Member n (z ∷ ns)) (eqb-true n m f) first
    go false f g ih = later (ih g)

pub number-in : (n : ℕ) (ns : List ℕ) → Member n ns → has_number ns n ≡ true
number-in n ns m = any-in (nat_eq n) n ns m (eq-eqb n n refl)

-- blocks by their numbers

pub block-numbered : (n : ℕ) (bs : List Block) → Member n (block_numbers bs) → (k : ℕ) × (b : Block) × (slice_get bs k ≡ Some b) × (n ≡ b.number)
block-numbered n bs m = let z = map-of (λ b. b.number) n bs m in let y = member-slice z.0 bs z.1 in (y.0, z.0, y.1, z.2)

apart-numbers : (bs : List Block) → ((k : ℕ) (b : Block) → slice_get bs k ≡ Some b → has_number (block_numbers (take k bs)) b.number ≡ false) → Apart (block_numbers bs)
apart-numbers [] h = tt
apart-numbers (c ∷ bs) h = (
  (λ m. let z = block-numbered c.number bs m in let e = h (suc z.0) z.1 z.2 in let g = number-in z.1.number (c.number ∷ block_numbers (take z.0 bs)) (subst (λ x. Member x (c.number ∷ block_numbers (take z.0 bs))) z.3 first) in cc),
  apart-numbers bs (λ k b e. rest (nat_eq b.number c.number) (has_number (block_numbers (take k bs)) b.number) (h (suc k) b e)),
)
  where
    rest : (x y : Bool) → (x || y) ≡ false → y ≡ false
    rest true y e = absurd (cc)
    rest false y e = e

module _ (f : Function) (rule : (k : ℕ) (b : Block) → slice_get f.blocks k ≡ Some b → V5 f k b ≡ true) where
  new-number : (k : ℕ) (b : Block) → slice_get f.blocks k ≡ Some b → has_number (block_numbers (take k f.blocks)) b.number ≡ false
  unfolding V5
  new-number k b e = go (has_number (block_numbers (take k f.blocks)) b.number) (first_of_both _ _ (rule k b e))
    where
      go : (x : Bool) → not x ≡ true → x ≡ false
      go true h = absurd (cc)
      go false h = refl

  -- no two blocks have one number
  pub numbers-apart : Apart (block_numbers f.blocks)
  numbers-apart = apart-numbers f.blocks new-number

  pub named-there : (k : ℕ) (b : Block) (n : ℕ) → slice_get f.blocks k ≡ Some b → Member n (successors_of b) → Member n (block_numbers f.blocks)
  unfolding V5
  named-there k b n e m =
      number-there n (block_numbers f.blocks) (all-of (has_number (block_numbers f.blocks)) n _ (left-in n (successors_of b) _ m) (second_of_both _ _ (rule k b e)))

-- a number that some block has leads to a place
pub place-there : (n : ℕ) (bs : List Block) → Member n (block_numbers bs) → (x : ℕ) × (place_of n bs ≡ Some x)
place-there n [] m = absurd (member-none n m)
place-there n (b ∷ bs) m = go (nat_eq b.number n) refl (place-there n bs)
  where
    up : ((x : ℕ) × (place_of n bs ≡ Some x)) → (x : ℕ) × (option_map (λ y. suc y) (place_of n bs) ≡ Some x)
    up z = (suc z.0, ap (option_map (λ y. suc y)) z.1)

    go : (q : Bool) → nat_eq b.number n ≡ q → (Member n (block_numbers bs) → (x : ℕ) × (place_of n bs ≡ Some x)) → (x : ℕ) × (cond q (Some 0) (option_map (λ y. suc y) (place_of n bs)) ≡ Some x)
    go true e ih = (0, refl)
    go false e ih = member-elim n b.number (block_numbers bs) (λ f. absurd (let g = eq-eqb b.number n (sym f) in cc)) (λ k. up (ih k)) m

-- the block at the place of a number has it
pub place-block : (n : ℕ) (bs : List Block) (x : ℕ) → place_of n bs ≡ Some x → (b : Block) × (slice_get bs x ≡ Some b) × (b.number ≡ n)
place-block n [] x e = absurd (cc)
place-block n (b ∷ bs) x e = go (nat_eq b.number n) refl e (place-block n bs)
  where
    At : ℕ → Type 0
    At x = (c : Block) × (slice_get (b ∷ bs) x ≡ Some c) × (c.number ≡ n)

    up : (q : Option ℕ) → option_map (λ y. suc y) q ≡ Some x → ((y : ℕ) → q ≡ Some y → (c : Block) × (slice_get bs y ≡ Some c) × (c.number ≡ n)) → (c : Block) × (slice_get (b ∷ bs) x ≡ Some c) × (c.number ≡ n)
    up None f ih = absurd (cc)
    up (Some y) f ih = let z = ih y refl in (z.0, ap (slice_get (b ∷ bs)) (some-same x (suc y) (sym f)) ∙ z.1, z.2)

    go : (q : Bool) → nat_eq b.number n ≡ q → cond q (Some 0) (option_map (λ y. suc y) (place_of n bs)) ≡ Some x → ((y : ℕ) → place_of n bs ≡ Some y → (c : Block) × (slice_get bs y ≡ Some c) × (c.number ≡ n)) → (c : Block) × (slice_get (b ∷ bs) x ≡ Some c) × (c.number ≡ n)
    go true f g ih = (b, ap (slice_get (b ∷ bs)) (some-same x 0 (sym g)), eqb-true b.number n f)
    go false f g ih = up (place_of n bs) g ih

-- the code of a block stands where it is found

abbrev is_start : Item → Bool
is_start (BlockStart n) = true
is_start _ = false

found-past : (n : ℕ) (i : Item) (p : Places) → is_start i ≡ false → found n (i ∷ p) ≡ found n p
found-past n (BlockStart m) p e = absurd (cc)
found-past n (BlockEnd falls exits) p e = refl
found-past n (Silent rs ws) p e = refl
found-past n (Counted r rs ws to exits) p e = refl

module _ (t : Target) (f : Function) where
  pub item-inside : (b : Block) (i : Instr) → is_start (point_item t f b i) ≡ false
  unfolding point_item item_of
  item-inside b i = go (does is_phi t i) (effect_of t i)
    where
      by : (s : Bool) (e : Effect) → is_start (cond s (Silent (silent_reads t f e i.operands) (silent_writes t f e (is_early_clobber (roles_of t i)) i.operands)) (Counted (rest_of t f e i) (map (λ v. v.0) (values t f e i)) (counted_writes t f e i) (option_map (way t f b.number) (target_of i.operands)) (cond (is_terminator e) (ways_out t f b) []))) ≡ false
      by true e = refl
      by false e = refl

      go : (p : Bool) (q : Option Effect) → is_start (cond p (Silent [] (defined_undef t f i.operands)) (elim q [ None ↦ Silent [] [] | Some e ↦ effect_item t f b i e ])) ≡ false
      go true q = refl
      go false None = refl
      go false (Some e) = by (is_silent e) e

  -- a block's instructions and what follows them
  abbrev pub block_code : Block → List Block → Places
  block_code b after = map (point_item t f b) b.instrs ++ (block_end t f b after ∷ blocks_code (point_item t f) t f after)

  pub items-past : (n : ℕ) (b : Block) (is : List Instr) (p : Places) → found n (map (point_item t f b) is ++ p) ≡ found n p
  items-past n b [] p = refl
  items-past n b (i ∷ is) p = found-past n (point_item t f b i) (map (point_item t f b) is ++ p) (item-inside b i) ∙ items-past n b is p

  pub found-block : (bs : List Block) (x : ℕ) (b : Block) → slice_get bs x ≡ Some b → Apart (block_numbers bs) → (after : List Block) × (found b.number (blocks_code (point_item t f) t f bs) ≡ block_code b after)
  found-block [] x b e p = absurd (cc)
  found-block (c ∷ bs) zero b e p = let same = some-same c b e in (bs, subst (λ d. found d.number (BlockStart c.number ∷ block_code c bs) ≡ block_code d bs) same (ap (λ q. cond q (block_code c bs) (found c.number (block_code c bs))) (eq-eqb c.number c.number refl)))
  found-block (c ∷ bs) (suc x) b e p =
      let z = found-block bs x b e p.1 in
      (z.0, ap (λ q. cond q (block_code c bs) (found b.number (block_code c bs))) (other (nat_eq c.number b.number) refl) ∙ items-past b.number c c.instrs (block_end t f c bs ∷ blocks_code (point_item t f) t f bs) ∙ z.1)
    where
      other : (q : Bool) → nat_eq c.number b.number ≡ q → nat_eq c.number b.number ≡ false
      other false g = g
      other true g = absurd (p.0 (subst (λ n. Member n (block_numbers bs)) (sym (eqb-true c.number b.number g)) (map-in (λ d. d.number) b bs (slice-member bs x b e))))
