-- Functions in which nothing counts pair, where their blocks are alike.
use Rattle.std.proofs.Common.{◌≡◌, ◌∷◌, ◌++◌, ◌∙◌, ◌&&◌, ◌+◌, ◌<◌, ◌≤◌, ℕ, zero, suc, Bool, true, false, cond, not, List, [], Option, Some, None, map, flat_map, filter, option_map, drop, get_or, length, length-append, ltb, ltb-true, ltb-false, refl, sym, ap, subst, arith}
use Rattle.std.specs.Prelude.{nat_eq}
use Rattle.std.specs.List.{list_all}
use Rattle.std.specs.Option.{option_or}
use Rattle.std.proofs.lemmas.Bool.{and_from}
use Rattle.std.proofs.lemmas.List.{at_drop_all}
use Rattle.target_base.specs.declared.types.Effect.{Effect}
use Rattle.target_base.specs.declared.types.Effect.TheVariants as effects
use Rattle.target_base.specs.declared.types.OpaqueKind.TheVariants as kinds
use Rattle.target_base.specs.declared.types.Target.{Target}
use Rattle.target_base.specs.Roles.{is_silent}
use Rattle.meaning.specs.declared.types.Row.{Row}
use Rattle.meaning.specs.declared.types.Row.TheVariants.{BothStart, BothEnd, FirstSilent, SecondSilent, BothCounted}
use Rattle.meaning.specs.Lanes.{Writes}
use Rattle.meaning.specs.Code.{Item, BlockStart, BlockEnd, Silent, Counted, Code}
use Rattle.meaning.specs.Rows.{first_falls, second_falls}
use Rattle.laws.proofs.Following.{both-true}
use Rattle.mir_func.specs.declared.func.Instr.{Instr}
use Rattle.mir_func.specs.declared.func.Place.{Place}
use Rattle.mir_func.specs.declared.func.Block.{Block}
use Rattle.mir_func.specs.Value.{Function}
use Rattle.mir_func.specs.Binding.{effect_of, does, passes, ends_control, is_terminator}
use Rattle.mir_meaning.specs.Codes.{item_of, way, ways_out, block_end, blocks_code, code_of, fallen_into, falls_through, ends_without_terminator, is_open, first_number}
use Rattle.mir_meaning.specs.Agreement.{all_alike, blocks_alike, in_order_of, is_counted, counted_from, counted_places, are_paired, unpaired, unpaired_in, partner_doubt, place}
use Rattle.alloc_check.specs.Compared.{compared, ordered, in_order, first_items, second_items, both_ways, writes_of, is_loud, first_from, second_from}
use Rattle.alloc_check.proofs.Comparing.{Before, first-silent, end-meets, starts-meet, none-back}
use Rattle.alloc_check.proofs.Ordered.{AreAll, SilentAs, silent-item, open-alike, first-alike, alike-drop, lengths-alike}
use Rattle.alloc_check.proofs.Stepping.{meets-silent}
use Rattle.alloc_check.proofs.Blocks.{ends-meet, first-is, second-is, alike-block, alike-after, numbers-alike, first-drop, second-drop}

module _ (t : Target) where
  abbrev all_silent : List Instr → Bool
  all_silent is = list_all (λ i. not (is_counted t i)) is

  abbrev all_blocks : List Block → Bool
  all_blocks bs = list_all (λ b. all_silent b.instrs) bs

  silent-from : (is : List Instr) (n j : ℕ) → length (counted_from t n j is) ≡ 0 → all_silent is ≡ true
  silent-from [] n j e = refl
  silent-from (i ∷ is) n j e = go (is_counted t i) e (silent-from is n (suc j))
    where
      go : (x : Bool) → length (cond x (place n j ∷ counted_from t n (suc j) is) (counted_from t n (suc j) is)) ≡ 0 → (length (counted_from t n (suc j) is) ≡ 0 → all_silent is ≡ true) → (not x && all_silent is) ≡ true
      go true e step = absurd (let x : ⊥ = omega (arith, e) in x)
      go false e step = step e

  blocks-silent : (bs : List Block) → length (flat_map (λ (b : Block). counted_from t b.number 0 b.instrs) bs) ≡ 0 → all_blocks bs ≡ true
  blocks-silent [] e = refl
  blocks-silent (b ∷ bs) e =
      let here = counted_from t b.number 0 b.instrs in
      let rest = flat_map (λ (c : Block). counted_from t c.number 0 c.instrs) bs in
      let sum : length here + length rest ≡ 0 = sym (length-append here rest) ∙ e in
      and_from (all_silent b.instrs) (all_blocks bs) (silent-from b.instrs b.number 0 (omega arith)) (blocks-silent bs (omega arith))

  filter-silent : (xs : List Instr) → filter (is_counted t) xs ≡ [] → all_silent xs ≡ true
  filter-silent [] e = refl
  filter-silent (x ∷ xs) e = go (is_counted t x) e (filter-silent xs)
    where
      go : (y : Bool) → cond y (x ∷ filter (is_counted t) xs) (filter (is_counted t) xs) ≡ [] → (filter (is_counted t) xs ≡ [] → all_silent xs ≡ true) → (not y && all_silent xs) ≡ true
      go true e step = absurd (cc)
      go false e step = step e

  not-counted : (i : Instr) → not (is_counted t i) ≡ true → is_counted t i ≡ false
  not-counted i e = go (is_counted t i) e
    where
      go : (x : Bool) → not x ≡ true → x ≡ false
      go true e = absurd (cc)
      go false e = refl

  silent-goes-on : (e : Effect) → not (is_silent e) ≡ false → (ends_control e ≡ false) × (is_terminator e ≡ false)
  silent-goes-on effects.Jump s = absurd (cc)
  silent-goes-on effects.Ret s = absurd (cc)
  silent-goes-on effects.Jcc s = absurd (cc)
  silent-goes-on effects.Jnz s = absurd (cc)
  silent-goes-on (effects.Opaque kinds.Plain) s = absurd (cc)
  silent-goes-on (effects.Opaque kinds.Branch) s = absurd (cc)
  silent-goes-on (effects.Opaque kinds.Call) s = absurd (cc)
  silent-goes-on (effects.Opaque kinds.Return) s = absurd (cc)
  silent-goes-on _ s = (refl, refl)

  silent-stays : (i : Instr) → is_counted t i ≡ false → (does ends_control t i ≡ false) × (does is_terminator t i ≡ false)
  silent-stays i h = go (effect_of t i) h
    where
      go : (o : Option Effect) → passes (λ e. not (is_silent e)) o ≡ false → (passes ends_control o ≡ false) × (passes is_terminator o ≡ false)
      go None k = (refl, refl)
      go (Some e) k = silent-goes-on e k

  silent-ends : (is : List Instr) → all_silent is ≡ true → (falls_through t is ≡ true) × (ends_without_terminator t is ≡ true)
  silent-ends [] h = (refl, refl)
  silent-ends (i ∷ []) h = let s = silent-stays i (not-counted i (both-true (not (is_counted t i)) true h).0) in (ap not s.0, ap not s.1)
  silent-ends (i ∷ j ∷ is) h = silent-ends (j ∷ is) (both-true (not (is_counted t i)) (all_silent (j ∷ is)) h).1

module _ (t : Target) (f g : Function) where
  none-unpaired : (is : List Instr) (j : ℕ) (xs : List Instr) → all_silent t is ≡ true → unpaired t f g j is xs ≡ None → xs ≡ []
  none-unpaired is j [] h e = refl
  none-unpaired [] j (x ∷ xs) h e = absurd (cc)
  none-unpaired (i ∷ is) j (x ∷ xs) h e =
      let p = both-true (not (is_counted t i)) (all_silent t is) h in
      none-unpaired is (suc j) (x ∷ xs) p.1 (ap (λ y. cond y (cond (are_paired t f g i x) (unpaired t f g (suc j) is xs) (Some j)) (unpaired t f g (suc j) is (x ∷ xs))) (sym (not-counted t i p.0)) ∙ e)

  or-none : (o : Option ℕ) (n : ℕ) (r : Option Place) → option_or (option_map (place n) o) r ≡ None → (o ≡ None) × (r ≡ None)
  or-none None n r e = (refl, e)
  or-none (Some k) n r e = absurd (cc)

  seconds-silent : (bs cs : List Block) → AreAll bs cs → all_blocks t bs ≡ true → unpaired_in t f g bs cs ≡ None → all_blocks t cs ≡ true
  seconds-silent [] [] a h e = refl
  seconds-silent [] (c ∷ cs) a h e = absurd (cc)
  seconds-silent (b ∷ bs) [] a h e = absurd (cc)
  seconds-silent (b ∷ bs) (c ∷ cs) a h e =
      let p = both-true (all_silent t b.instrs) (all_blocks t bs) h in
      let q = or-none (unpaired t f g 0 b.instrs (filter (is_counted t) c.instrs)) b.number (unpaired_in t f g bs cs) e in
      and_from (all_silent t c.instrs) (all_blocks t cs) (filter-silent t c.instrs (none-unpaired b.instrs 0 (filter (is_counted t) c.instrs) p.0 q.0))
      (seconds-silent bs cs (both-true (blocks_alike b c) (all_alike blocks_alike bs cs) a).1 p.1 q.1)

abbrev Pairs : Code → Code → Type 0
Pairs p q = compared p q ≡ None → ⊥

before-pairs : (r : Row) (p q p' q' : Code) → Before r p q p' q' → Pairs p' q' → Pairs p q
before-pairs r p q p' q' b pairs e = pairs (none-back (λ (rest : List Row). r ∷ rest) (compared p' q') (sym b ∙ e))

firsts-pair : (t : Target) (f : Function) (b : Block) (is : List Instr) → all_silent t is ≡ true → (p q : Code) → Pairs p q → Pairs (map (item_of t f b) is ++ p) q
firsts-pair t f b [] h p q pairs = pairs
firsts-pair t f b (i ∷ is) h p q pairs =
    let a = both-true (not (is_counted t i)) (all_silent t is) h in
    let s : SilentAs (item_of t f b i) (writes_of t f i) = silent-item t f b i (not-counted t i a.0) in
    let rest = map (item_of t f b) is ++ p in
    subst (λ y. Pairs (y ∷ rest) q) (sym s.1) (before-pairs (FirstSilent [] (writes_of t f i)) (Silent s.0 (writes_of t f i) ∷ rest) q rest q (first-silent s.0 (writes_of t f i) rest q) (firsts-pair t f b is a.1 p q pairs))

seconds-pair : (t : Target) (g : Function) (c : Block) (xs : List Instr) → all_silent t xs ≡ true → (i : Item) → is_loud i ≡ true → (p q : Code) → Pairs (i ∷ p) q → Pairs (i ∷ p) (map (item_of t g c) xs ++ q)
seconds-pair t g c [] h i l p q pairs = pairs
seconds-pair t g c (x ∷ xs) h i l p q pairs =
    let a = both-true (not (is_counted t x)) (all_silent t xs) h in
    let s : SilentAs (item_of t g c x) (writes_of t g x) = silent-item t g c x (not-counted t x a.0) in
    let rest = map (item_of t g c) xs ++ q in
    subst (λ y. Pairs (i ∷ p) (y ∷ rest)) (sym s.1) (before-pairs (SecondSilent [] (writes_of t g x)) (i ∷ p) (Silent s.0 (writes_of t g x) ∷ rest) (i ∷ p) rest (meets-silent i l s.0 (writes_of t g x) p rest) (seconds-pair t g c xs a.1 i l p q pairs))

falling : (F G : ℕ → Writes) (o : Option ℕ) → (first_falls (option_map (λ m. (F m, G m)) o) ≡ option_map F o) × (second_falls (option_map (λ m. (F m, G m)) o) ≡ option_map G o)
falling F G None = (refl, refl)
falling F G (Some m) = (refl, refl)

block-at : (bs : List Block) (k : ℕ) → k < length bs → (b : Block) × (b ≡ get_or bs k b)
block-at [] k lt = absurd (let x : ⊥ = omega (arith, lt) in x)
block-at (b ∷ bs) zero lt = (b, refl)
block-at (b ∷ bs) (suc k) lt = block-at bs k (omega (arith, lt))

all-drop : (t : Target) (bs : List Block) (k : ℕ) → all_blocks t bs ≡ true → all_blocks t (drop k bs) ≡ true
all-drop t bs zero h = h
all-drop t [] (suc k) h = refl
all-drop t (b ∷ bs) (suc k) h = all-drop t bs k (both-true (all_silent t b.instrs) (all_blocks t bs) h).1

module _ (t : Target) (f g : Function) (alike : AreAll f.blocks g.blocks) (silent : all_blocks t f.blocks ≡ true) (silent' : all_blocks t g.blocks ≡ true) where
  step : (k : ℕ) → k < length f.blocks → Pairs (first_from t f (k + 1)) (second_from t f g (k + 1)) → Pairs (first_from t f k) (second_from t f g k)
  step k lt pairs =
      let lt' : k < length g.blocks = subst (λ n. k < n) (lengths-alike f.blocks g.blocks alike) lt in
      let at = block-at f.blocks k lt in
      let at' = block-at g.blocks k lt' in
      let b = at.0 in
      let c = at'.0 in
      let after = drop (k + 1) f.blocks in
      let after' = drop (k + 1) g.blocks in
      let same : blocks_alike b c ≡ true = alike-block t f g alike k b c lt lt' at.1 at'.1 in
      let quiet : all_silent t b.instrs ≡ true = (both-true (all_silent t b.instrs) (all_blocks t after) (subst (λ bs. all_blocks t bs ≡ true) (first-drop t f g alike k b c lt lt' at.1 at'.1) (all-drop t f.blocks k silent))).0 in
      let quiet' : all_silent t c.instrs ≡ true = (both-true (all_silent t c.instrs) (all_blocks t after') (subst (λ bs. all_blocks t bs ≡ true) (second-drop t f g alike k b c lt lt' at.1 at'.1) (all-drop t g.blocks k silent'))).0 in
      let ends = silent-ends t b.instrs quiet in
      let ends' = silent-ends t c.instrs quiet' in
      let opens : is_open t b ≡ is_open t c = ap (λ x. t.options.open_blocks && nat_eq (length b.successors) 0 && x) (ends.1 ∙ sym ends'.1) ∙ open-alike t b c same in
      let next = first-alike after after' (alike-after t f g alike k b c lt lt' at.1 at'.1) in
      let into : fallen_into t b after ≡ fallen_into t c after' = (λ j. cond ((ends.0 ∙ sym ends'.0) j && not (opens j)) (next j) None) in
      let F : ℕ → Writes = λ m. (way t f b.number m).phis in
      let G : ℕ → Writes = λ m. (way t g b.number m).phis in
      let falls = option_map (λ m. (F m, G m)) (fallen_into t b after) in
      let fall = falling F G (fallen_into t b after) in
      let E = block_end t f b after in
      let E' = block_end t (ordered f g) (in_order b c) (in_order_of after after') in
      let p = first_from t f (k + 1) in
      let q = second_from t f g (k + 1) in
      let meet = ends-meet t f g alike k b c lt lt' at.1 at'.1 falls (both_ways t f g b) into fall.0 fall.1 refl in
      let one : Pairs (E ∷ p) (E' ∷ q) = before-pairs (BothEnd falls (both_ways t f g b)) (E ∷ p) (E' ∷ q) p q (end-meets (option_map F (fallen_into t b after)) (ways_out t f b) (option_map (λ m. (way t (ordered f g) c.number m).phis) (fallen_into t (in_order b c) (in_order_of after after'))) (ways_out t (ordered f g) (in_order b c)) (BothEnd falls (both_ways t f g b)) p q meet) pairs in
      let two : Pairs (E ∷ p) (second_items t f g b c c.instrs ++ E' ∷ q) = seconds-pair t (ordered f g) (in_order b c) c.instrs quiet' E refl p (E' ∷ q) one in
      let three : Pairs (first_items t f b b.instrs ++ E ∷ p) (second_items t f g b c c.instrs ++ E' ∷ q) = firsts-pair t f b b.instrs quiet (E ∷ p) (second_items t f g b c c.instrs ++ E' ∷ q) two in
      let P = first_items t f b b.instrs ++ E ∷ p in
      let Q = second_items t f g b c c.instrs ++ E' ∷ q in
      subst (λ x. Pairs x (second_from t f g k)) (sym (first-is t f g alike k b c lt lt' at.1 at'.1))
      (subst (λ x. Pairs (BlockStart b.number ∷ P) x) (sym (second-is t f g alike k b c lt lt' at.1 at'.1))
      (before-pairs (BothStart b.number) (BlockStart b.number ∷ P) (BlockStart c.number ∷ Q) P Q (starts-meet b.number c.number P Q (numbers-alike t f g alike k b c lt lt' at.1 at'.1)) three))

  ended : (k : ℕ) → length f.blocks ≤ k → Pairs (first_from t f k) (second_from t f g k)
  ended k le =
      let le' : length g.blocks ≤ k = subst (λ n. n ≤ k) (lengths-alike f.blocks g.blocks alike) le in
      subst (λ bs. Pairs (blocks_code (item_of t f) t f bs) (second_from t f g k)) (sym (at_drop_all (λ xs. xs) f.blocks k le))
      (subst (λ bs. Pairs [] (blocks_code (item_of t (ordered f g)) t (ordered f g) bs)) (sym (ap (λ xs. in_order_of xs (drop k g.blocks)) (at_drop_all (λ xs. xs) f.blocks k le))) (λ e. absurd (cc)))

  all-pair : (m k : ℕ) → length f.blocks ≤ k + m → Pairs (first_from t f k) (second_from t f g k)
  all-pair zero k le = ended k (omega (arith, le))
  all-pair (suc m) k le = go (ltb k (length f.blocks)) refl (all-pair m (k + 1) (omega (arith, le)))
    where
      go : (x : Bool) → ltb k (length f.blocks) ≡ x → Pairs (first_from t f (k + 1)) (second_from t f g (k + 1)) → Pairs (first_from t f k) (second_from t f g k)
      go true e pairs = step k (ltb-true k (length f.blocks) e) pairs
      go false e pairs = ended k (ltb-false k (length f.blocks) e)

-- where the codes of functions that match don't pair, something counts
pub some-counts : (t : Target) (f g : Function) → AreAll f.blocks g.blocks → partner_doubt t f g ≡ None → None ≡ compared (code_of t f) (code_of t (ordered f g)) → 0 < length (counted_places t f)
unfolding partner_doubt code_of
some-counts t f g alike partners none = go (length (counted_places t f)) refl
  where
    go : (n : ℕ) → length (counted_places t f) ≡ n → 0 < n
    go (suc n) e = omega arith
    go zero e =
        let silent = blocks-silent t f.blocks e in
        absurd (all-pair t f g alike silent (seconds-silent t f g f.blocks g.blocks alike silent partners) (length f.blocks) 0 (omega arith) (sym none))
