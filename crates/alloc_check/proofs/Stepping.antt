-- Instructions and blocks that are put among the rows.
use Rattle.std.proofs.Common.{◌≡◌, ℕ, zero, suc, ◌+◌, ◌<◌, ◌≤◌, ◌++◌, ◌∷◌, ◌∙◌, ◌&&◌, Bool, true, false, cond, not, List, [], Option, Some, None, map, option_map, length, drop, get_or, refl, sym, ap, subst, arith}
use Rattle.std.proofs.lemmas.List.{at_drop_more, at_drop_all}
use Rattle.target_base.specs.declared.types.Target.{Target}
use Rattle.meaning.specs.declared.types.Row.{Row}
use Rattle.meaning.specs.declared.types.Row.TheVariants.{BothStart, BothEnd, FirstSilent, SecondSilent, BothCounted}
use Rattle.meaning.specs.declared.types.Rest.{Rest}
use Rattle.meaning.specs.declared.types.EdgePair.{EdgePair}
use Rattle.meaning.specs.Lanes.{Writes, Reads}
use Rattle.meaning.specs.Code.{Edge, Item, BlockStart, BlockEnd, Silent, Counted, Code}
use Rattle.meaning.specs.Rows.{first_falls, second_falls}
use Rattle.meaning.specs.Sameness.{same_rest, same_option}
use Rattle.meaning.specs.Pairing.{pairing, pair_item, pair_edges, pair_falls}
use Rattle.laws.proofs.Following.{both-true}
use Rattle.laws.proofs.Same.{option-true}
use Rattle.mir_func.specs.declared.func.Instr.{Instr}
use Rattle.mir_func.specs.declared.func.Block.{Block}
use Rattle.mir_func.specs.Value.{Function}
use Rattle.mir_func.specs.Binding.{does, is_terminator, passes}
use Rattle.mir_meaning.specs.Codes.{item_of, way, ways_out, target_of, block_end, blocks_code, fallen_into, falls_through, is_open, first_number}
use Rattle.mir_meaning.specs.Agreement.{all_alike, blocks_alike, in_order_of, is_counted}
use Rattle.alloc_check.specs.Bare.{needed_reads}
use Rattle.alloc_check.specs.Compared.{compared, compared_row, Goes, ordered, in_order, first_items, second_items, both_way, both_ways, writes_of, Counts, is_loud, PassesOver, GoesOn, GoesThrough, first_from, second_from}
use Rattle.alloc_check.proofs.Comparing.{Before, first-silent, counted-meets-silent, end-meets-silent, goes-row, goes-none, goes-then, goes-never, counted-meets, counted-apart, counted-at-end, end-at-counted, end-meets, end-apart, starts-meet}
use Rattle.alloc_check.proofs.Ordered.{SilentAs, silent-item, counted-item, counts, writes-ordered, AreAll, alike-number, first-alike, first-ordered, alike-drop, ends-pair, open-alike, way-second, pairs, apart-rest, apart-target, first-is, second-is}

-- an item and those behind it
pub map-at : (F : Instr → Item) (xs : List Instr) (k : ℕ) (x : Instr) → k < length xs → x ≡ get_or xs k x → map F (drop k xs) ≡ F x ∷ map F (drop (k + 1) xs)
map-at F xs k x lt e = at_drop_more (map F) xs k x lt ∙ ap (λ y. F y ∷ map F (drop (k + 1) xs)) (sym e)

pub loud-item : (t : Target) (f : Function) (b : Block) (i : Instr) → is_counted t i ≡ true → is_loud (item_of t f b i) ≡ true
loud-item t f b i h = let c = counts t f i h in ap is_loud (counted-item t f b i c.0 c.1 c.2 c.3)

pub meets-silent : (i : Item) → is_loud i ≡ true → (reads : Reads) (ws : Writes) (p q : Code) → Before (SecondSilent [] ws) (i ∷ p) (Silent reads ws ∷ q) (i ∷ p) q
meets-silent (Counted r rs vs to exits) l reads ws p q = counted-meets-silent r rs vs to exits reads ws p q
meets-silent (BlockEnd falls exits) l reads ws p q = end-meets-silent falls exits reads ws p q
meets-silent (BlockStart n) l reads ws p q = absurd (cc)
meets-silent (Silent rs vs) l reads ws p q = absurd (cc)

-- a silent instruction of the first function
pub first-goes : (t : Target) (f : Function) (b : Block) (i : Instr) (old new : List Row) → is_counted t i ≡ false → new ≡ old ++ FirstSilent [] (writes_of t f i) ∷ [] → (p q : Code) → Goes true old (item_of t f b i ∷ p) q new p q
first-goes t f b i old new h e p q =
    let s : SilentAs (item_of t f b i) (writes_of t f i) = silent-item t f b i h in
    subst (λ item. Goes true old (item ∷ p) q new p q) (sym s.1) (goes-row old new (FirstSilent [] (writes_of t f i)) (Silent s.0 (writes_of t f i) ∷ p) q p q e (first-silent s.0 (writes_of t f i) p q))

-- one of the second function, in front of what is loud
pub second-goes :
    (t : Target) (f g : Function) (b c : Block) (k : ℕ) (x : Instr) (old new : List Row) → k < length c.instrs → x ≡ get_or c.instrs k x → is_counted t x ≡ false → new ≡ old ++ SecondSilent [] (writes_of t g x) ∷ [] →
    (i : Item) (p q : Code) → is_loud i ≡ true → Goes true old (i ∷ p) (second_items t f g b c (drop k c.instrs) ++ q) new (i ∷ p) (second_items t f g b c (drop (k + 1) c.instrs) ++ q)
second-goes t f g b c k x old new lt at h e i p q loud =
    let item = item_of t (ordered f g) (in_order b c) x in
    let ws = writes_of t g x in
    let rest = second_items t f g b c (drop (k + 1) c.instrs) ++ q in
    let s : SilentAs item (writes_of t (ordered f g) x) = silent-item t (ordered f g) (in_order b c) x h in
    let silent : item ≡ Silent s.0 ws = s.1 ∙ ap (Silent s.0) (writes-ordered t g (in_order_of f.blocks g.blocks) x) in
    subst (λ xs. Goes true old (i ∷ p) (xs ++ q) new (i ∷ p) rest) (sym (map-at (item_of t (ordered f g) (in_order b c)) c.instrs k x lt at))
    (subst (λ y. Goes true old (i ∷ p) (y ∷ rest) new (i ∷ p) rest) (sym silent)
    (goes-row old new (SecondSilent [] ws) (i ∷ p) (Silent s.0 ws ∷ rest) (i ∷ p) rest e (meets-silent i loud s.0 ws p rest)))

-- counted instructions that meet
module _ (t : Target) (f g : Function) (b c : Block) (alike : AreAll f.blocks g.blocks) (number : b.number ≡ c.number) (i x : Instr) where
  abbrev one : Item
  one = item_of t f b i

  abbrev two : Item
  two = item_of t (ordered f g) (in_order b c) x

  module _ (r r' : Rest) (reads reads' : Reads) (ws ws' : Writes) (left : Counts t f i r reads ws) (right : Counts t g x r' reads' ws') (p q : Code) where
    abbrev to : Option Edge
    to = option_map (way t f b.number) (target_of i.operands)

    abbrev to' : Option Edge
    to' = option_map (way t g b.number) (target_of x.operands)

    abbrev out : List Edge
    out = cond (is_terminator left.effect) (ways_out t f b) []

    abbrev out' : List Edge
    out' = cond (is_terminator right.effect) (ways_out t (ordered f g) (in_order b c)) []

    abbrev one' : Item
    one' = Counted r reads ws to out

    abbrev two' : Item
    two' = Counted r' reads' ws' to' out'

    first-is' : one ≡ one'
    first-is' = first-is t f g b c alike number i x r r' reads reads' ws ws' left right

    second-is' : two ≡ two'
    second-is' = second-is t f g b c alike number i x r r' reads reads' ws ws' left right

    pub pair-goes :
        (old new : List Row) (asked asked' : Reads) (over : Option EdgePair) (exits : List EdgePair) → same_rest r r' ≡ true → same_option (target_of i.operands) (target_of x.operands) ≡ true →
        asked ≡ needed_reads r.effect reads reads' → asked' ≡ needed_reads r.effect reads' reads → over ≡ option_map (both_way t f g b.number) (target_of i.operands) → exits ≡ cond (does is_terminator t i) (both_ways t f g b) [] →
        new ≡ old ++ BothCounted r asked asked' ws ws' over exits ∷ [] → Goes true old (one ∷ p) (two ∷ q) new p q
    pair-goes old new asked asked' over exits same goal a a' w e grown =
        let ends : exits ≡ cond (is_terminator left.effect) (both_ways t f g b) [] = e ∙ ap (λ o. cond (passes is_terminator o) (both_ways t f g b) []) left.is in
        let full = BothCounted r reads reads' ws ws' (option_map (both_way t f g b.number) (target_of i.operands)) (cond (is_terminator left.effect) (both_ways t f g b) []) in
        let grown' : new ≡ old ++ compared_row full ∷ [] = grown ∙ (λ k. old ++ BothCounted r (a k) (a' k) ws ws' (w k) (ends k) ∷ []) in
        let meets : Before (compared_row full) (one' ∷ p) (two' ∷ q) p q = counted-meets r reads ws to out r' reads' ws' to' out' full p q (pairs t f g b c alike number i x r r' reads reads' ws ws' left right same goal) in
        let goes : Goes true old (one' ∷ p) (two' ∷ q) new p q = goes-row old new (compared_row full) (one' ∷ p) (two' ∷ q) p q grown' meets in
        subst (λ item. Goes true old (item ∷ p) (two ∷ q) new p q) (sym first-is') (subst (λ item. Goes true old (one' ∷ p) (item ∷ q) new p q) (sym second-is') goes)

    apart : pair_item one' two' ≡ None → compared (one ∷ p) (two ∷ q) ≡ None
    apart none =
        subst (λ item. compared (item ∷ p) (two ∷ q) ≡ None) (sym first-is')
        (subst (λ item. compared (one' ∷ p) (item ∷ q) ≡ None) (sym second-is') (counted-apart r reads ws to out r' reads' ws' to' out' p q none))

    pub rests-apart : same_rest r r' ≡ false → compared (one ∷ p) (two ∷ q) ≡ None
    rests-apart differ = apart (apart-rest t f g b c alike number i x r r' reads reads' ws ws' left right differ)

    pub targets-apart : same_option (target_of i.operands) (target_of x.operands) ≡ false → compared (one ∷ p) (two ∷ q) ≡ None
    targets-apart differ = apart (apart-target t f g b c alike number i x r r' reads reads' ws ws' left right differ)

  pub targets-differ : is_counted t i ≡ true → is_counted t x ≡ true → same_option (target_of i.operands) (target_of x.operands) ≡ false → (p q : Code) → compared (one ∷ p) (two ∷ q) ≡ None
  targets-differ h h' differ p q =
      let l = counts t f i h in
      let r = counts t g x h' in
      targets-apart l.0 r.0 l.1 r.1 l.2 r.2 l.3 r.3 p q differ

-- an instruction that counts, at the end of the second function's block
pub counted-unmet : (t : Target) (f : Function) (b : Block) (i : Instr) → is_counted t i ≡ true → (falls : Option Writes) (exits : List Edge) (p q : Code) → compared (item_of t f b i ∷ p) (BlockEnd falls exits ∷ q) ≡ None
counted-unmet t f b i h falls exits p q = let c = counts t f i h in ap (λ item. compared (item ∷ p) (BlockEnd falls exits ∷ q)) (counted-item t f b i c.0 c.1 c.2 c.3)

-- and the end of the first function's block, at an instruction of the second that counts
pub end-unmet : (t : Target) (g : Function) (c : Block) (x : Instr) → is_counted t x ≡ true → (falls : Option Writes) (exits : List Edge) (p q : Code) → compared (BlockEnd falls exits ∷ p) (item_of t g c x ∷ q) ≡ None
end-unmet t g c x h falls exits p q = let r = counts t g x h in ap (λ item. compared (BlockEnd falls exits ∷ p) (item ∷ q)) (counted-item t g c x r.0 r.1 r.2 r.3)

-- nothing is left of the second function's instructions
pub seconds-end : (t : Target) (f g : Function) (b c : Block) (k : ℕ) → length c.instrs ≤ k → (q : Code) → second_items t f g b c (drop k c.instrs) ++ q ≡ q
seconds-end t f g b c k le q = ap (λ xs. xs ++ q) (at_drop_all (map (item_of t (ordered f g) (in_order b c))) c.instrs k le)

pub firsts-end : (t : Target) (f : Function) (b : Block) (k : ℕ) → length b.instrs ≤ k → (p : Code) → first_items t f b (drop k b.instrs) ++ p ≡ p
firsts-end t f b k le p = ap (λ xs. xs ++ p) (at_drop_all (map (item_of t f b)) b.instrs k le)

-- an instruction at a place
pub instr-at : (is : List Instr) (k : ℕ) → k < length is → (i : Instr) × (i ≡ get_or is k i)
instr-at [] k lt = absurd (let x : ⊥ = omega (arith, lt) in x)
instr-at (i ∷ is) zero lt = (i, refl)
instr-at (i ∷ is) (suc k) lt = instr-at is k (omega (arith, lt))
