-- Blocks that are put among the rows.
use Rattle.std.proofs.Common.{◌≡◌, ℕ, zero, suc, ◌+◌, ◌<◌, ◌≤◌, ◌++◌, ◌∷◌, ◌∙◌, ◌&&◌, Bool, true, false, cond, not, List, [], Option, Some, None, map, option_map, length, drop, get_or, refl, sym, ap, subst, arith, eqb}
use Rattle.std.proofs.lemmas.Bool.{eq-eqb}
use Rattle.std.proofs.lemmas.List.{at_drop_more, at_drop_all, append-nil}
use Rattle.target_base.specs.declared.types.Target.{Target}
use Rattle.meaning.specs.declared.types.Row.{Row}
use Rattle.meaning.specs.declared.types.Row.TheVariants.{BothStart, BothEnd, FirstSilent, SecondSilent, BothCounted}
use Rattle.meaning.specs.declared.types.EdgePair.{EdgePair}
use Rattle.meaning.specs.Lanes.{Writes, Reads}
use Rattle.meaning.specs.Code.{Edge, Item, BlockStart, BlockEnd, Silent, Counted, Code}
use Rattle.meaning.specs.Rows.{first_falls, second_falls}
use Rattle.meaning.specs.Sameness.{same_option}
use Rattle.meaning.specs.Pairing.{pair_item, pair_edges, pair_falls}
use Rattle.laws.proofs.Following.{both-true}
use Rattle.mir_func.specs.declared.func.Instr.{Instr}
use Rattle.mir_func.specs.declared.func.Block.{Block}
use Rattle.mir_func.specs.Value.{Function}
use Rattle.mir_meaning.specs.Codes.{item_of, way, ways_out, block_end, blocks_code, code_of, fallen_into, falls_through, is_open, first_number}
use Rattle.mir_meaning.specs.Agreement.{all_alike, blocks_alike, in_order_of}
use Rattle.alloc_check.specs.Compared.{compared, compared_row, with_rest, Goes, ordered, in_order, first_items, second_items, both_ways, GoesThrough, first_from, second_from}
use Rattle.alloc_check.proofs.Comparing.{Before, goes-row, goes-then, goes-never, end-meets, end-apart, starts-meet}
use Rattle.alloc_check.proofs.Ordered.{AreAll, alike-number, first-alike, first-ordered, alike-drop, ends-pair, open-alike, way-second}

falls-pair : (w : Option (Writes × Writes)) → pair_falls (first_falls w) (second_falls w) ≡ Some w
falls-pair None = refl
falls-pair (Some e) = refl

same-itself : (o : Option ℕ) → same_option o o ≡ true
same-itself None = refl
same-itself (Some n) = eq-eqb n n refl

-- one falls into the next block and the other doesn't
falls-apart : (F G : ℕ → Writes) (x y : Bool) (n : Option ℕ) → same_option (cond x n None) (cond y n None) ≡ false → pair_falls (option_map F (cond x n None)) (option_map G (cond y n None)) ≡ None
falls-apart F G true true n e = let never : true ≡ false = sym (same-itself n) ∙ e in absurd (cc)
falls-apart F G true false None e = absurd (cc)
falls-apart F G true false (Some n) e = refl
falls-apart F G false true None e = absurd (cc)
falls-apart F G false true (Some n) e = refl
falls-apart F G false false n e = absurd (cc)

module _ (t : Target) (f g : Function) (alike : AreAll f.blocks g.blocks) (k : ℕ) (b c : Block) (lt : k < length f.blocks) (lt' : k < length g.blocks) (at : b ≡ get_or f.blocks k b) (at' : c ≡ get_or g.blocks k c) where
  abbrev h : Function
  h = ordered f g

  abbrev after : List Block
  after = drop (k + 1) f.blocks

  abbrev after' : List Block
  after' = drop (k + 1) g.blocks

  pub first-drop : drop k f.blocks ≡ b ∷ after
  first-drop = at_drop_more (λ xs. xs) f.blocks k b lt ∙ ap (λ x. x ∷ after) (sym at)

  pub second-drop : drop k g.blocks ≡ c ∷ after'
  second-drop = at_drop_more (λ xs. xs) g.blocks k c lt' ∙ ap (λ x. x ∷ after') (sym at')

  alike-here : AreAll (b ∷ after) (c ∷ after')
  alike-here = (λ j. all_alike blocks_alike (sym first-drop j) (sym second-drop j)) ∙ alike-drop f.blocks g.blocks alike k

  pub alike-block : blocks_alike b c ≡ true
  alike-block = (both-true (blocks_alike b c) (all_alike blocks_alike after after') alike-here).0

  pub alike-after : AreAll after after'
  alike-after = (both-true (blocks_alike b c) (all_alike blocks_alike after after') alike-here).1

  pub numbers-alike : b.number ≡ c.number
  numbers-alike = alike-number b c alike-block

  abbrev E : Item
  E = block_end t f b after

  abbrev E' : Item
  E' = block_end t h (in_order b c) (in_order_of after after')

  pub first-is : first_from t f k ≡ BlockStart b.number ∷ (first_items t f b b.instrs ++ E ∷ first_from t f (k + 1))
  first-is = ap (blocks_code (item_of t f) t f) first-drop

  pub second-is : second_from t f g k ≡ BlockStart c.number ∷ (second_items t f g b c c.instrs ++ E' ∷ second_from t f g (k + 1))
  second-is = λ j. blocks_code (item_of t h) t h (in_order_of (first-drop j) (second-drop j))

  abbrev into : Option ℕ
  into = fallen_into t b after

  abbrev other : Option ℕ
  other = fallen_into t c after'

  -- the end of the second block, by its own successors
  falls-other : fallen_into t (in_order b c) (in_order_of after after') ≡ other
  falls-other = λ j. cond (falls_through t c.instrs && not (open-alike t b c alike-block j)) (first-ordered after after' alike-after j) None

  abbrev F : ℕ → Writes
  F m = (way t f b.number m).phis

  abbrev G : ℕ → Writes
  G m = (way t g b.number m).phis

  end-is : E' ≡ BlockEnd (option_map G other) (ways_out t h (in_order b c))
  end-is = λ j. BlockEnd (option_map (λ m. (way-second t f g b c alike numbers-alike m j).phis) (falls-other j)) (ways_out t h (in_order b c))

  pub ends-meet : (falls : Option (Writes × Writes)) (exits : List EdgePair) → into ≡ other → first_falls falls ≡ option_map F into → second_falls falls ≡ option_map G into → exits ≡ both_ways t f g b → pair_item E E' ≡ Some (BothEnd falls exits)
  ends-meet falls exits same one two e =
      let falling : pair_falls (option_map F into) (option_map G other) ≡ Some falls =
      (λ j. pair_falls (sym one j) ((ap (option_map G) (sym same) ∙ sym two) j)) ∙ falls-pair falls in
      ap (pair_item E) end-is
      ∙ ((λ j. elim (falling j) [ None ↦ None | Some w ↦ elim (ends-pair t f g b c alike numbers-alike j) [ None ↦ None | Some ways ↦ Some (BothEnd w ways) ] ])
      ∙ ap (λ ways. Some (BothEnd falls ways)) (sym e))

  first-next : first_number after ≡ first_number after'
  first-next = first-alike after after' alike-after

  falls-differ : same_option into other ≡ false → pair_falls (option_map F into) (option_map G other) ≡ None
  falls-differ e =
      let x = falls_through t b.instrs && not (is_open t b) in
      let y = falls_through t c.instrs && not (is_open t c) in
      let one : other ≡ cond y (first_number after) None = ap (λ n. cond y n None) (sym first-next) in
      ap (λ o. pair_falls (option_map F into) (option_map G o)) one ∙ falls-apart F G x y (first_number after) (ap (same_option into) (sym one) ∙ e)

  ends-differ : same_option into other ≡ false → pair_item E E' ≡ None
  ends-differ e = ap (pair_item E) end-is ∙ ap (λ (o : Option (Option (Writes × Writes))). elim o [ None ↦ None | Some w ↦ elim (pair_edges (ways_out t f b) (ways_out t h (in_order b c))) [ None ↦ None | Some ways ↦ Some (BothEnd w ways) ] ]) (falls-differ e)

  module _ (r0 r1 : List Row) (start : r1 ≡ r0 ++ BothStart b.number ∷ []) where
    abbrev P : Code
    P = first_items t f b b.instrs ++ E ∷ first_from t f (k + 1)

    abbrev Q : Code
    Q = second_items t f g b c c.instrs ++ E' ∷ second_from t f g (k + 1)

    begins : Goes true r0 (first_from t f k) (second_from t f g k) r1 P Q
    begins =
        subst (λ p. Goes true r0 p (second_from t f g k) r1 P Q) (sym first-is)
        (subst (λ q. Goes true r0 (BlockStart b.number ∷ P) q r1 P Q) (sym second-is)
        (goes-row r0 r1 (BothStart b.number) (BlockStart b.number ∷ P) (BlockStart c.number ∷ Q) P Q start (starts-meet b.number c.number P Q numbers-alike)))

    -- the whole block
    pub block-goes :
        (r2 r3 : List Row) (falls : Option (Writes × Writes)) (exits : List EdgePair) → GoesThrough t f g b c r1 r2 true → into ≡ other →
        first_falls falls ≡ option_map F into → second_falls falls ≡ option_map G into → exits ≡ both_ways t f g b → r3 ≡ r2 ++ BothEnd falls exits ∷ [] →
        Goes true r0 (first_from t f k) (second_from t f g k) r3 (first_from t f (k + 1)) (second_from t f g (k + 1))
    block-goes r2 r3 falls exits through same one two e end =
        let p = first_from t f (k + 1) in
        let q = second_from t f g (k + 1) in
        let ends = goes-row r2 r3 (BothEnd falls exits) (E ∷ p) (E' ∷ q) p q end (end-meets (option_map F into) (ways_out t f b) (option_map (λ m. (way t h c.number m).phis) (fallen_into t (in_order b c) (in_order_of after after'))) (ways_out t h (in_order b c)) (BothEnd falls exits) p q (ends-meet falls exits same one two e)) in
        goes-then r0 r1 r3 (first_from t f k) (second_from t f g k) P Q p q begins (goes-then r1 r2 r3 P Q (E ∷ p) (E' ∷ q) p q (through p q _ _ _ _) ends)

    -- a block whose instructions or ends don't pair
    pub instrs-apart : (r2 : List Row) → GoesThrough t f g b c r1 r2 false → compared (first_from t f k) (second_from t f g k) ≡ None
    instrs-apart r2 through = goes-never r0 r1 (first_from t f k) (second_from t f g k) P Q begins (through (first_from t f (k + 1)) (second_from t f g (k + 1)) _ _ _ _)

    pub ends-apart : (r2 : List Row) → GoesThrough t f g b c r1 r2 true → same_option into other ≡ false → compared (first_from t f k) (second_from t f g k) ≡ None
    ends-apart r2 through differ =
        let p = first_from t f (k + 1) in
        let q = second_from t f g (k + 1) in
        goes-never r0 r1 (first_from t f k) (second_from t f g k) P Q begins
        (goes-never r1 r2 P Q (E ∷ p) (E' ∷ q) (through p q _ _ _ _) (end-apart (option_map F into) (ways_out t f b) (option_map (λ m. (way t h c.number m).phis) (fallen_into t (in_order b c) (in_order_of after after'))) (ways_out t h (in_order b c)) p q (ends-differ differ)))

-- all blocks
pub whole-goes : (rows : List Row) (p q : Code) → Goes true [] p q rows [] [] → Some rows ≡ compared p q
whole-goes rows p q e = ap Some (sym (append-nil rows)) ∙ (e ∙ same (compared p q))
  where
    same : (o : Option (List Row)) → option_map (λ rest. [] ++ rest) o ≡ o
    same None = refl
    same (Some xs) = refl

pub from-end : (t : Target) (f : Function) (k : ℕ) → length f.blocks ≤ k → first_from t f k ≡ []
from-end t f k le = at_drop_all (blocks_code (item_of t f) t f) f.blocks k le

pub from-end' : (t : Target) (f g : Function) (k : ℕ) → length f.blocks ≤ k → second_from t f g k ≡ []
from-end' t f g k le = at_drop_all (λ bs. blocks_code (item_of t (ordered f g)) t (ordered f g) (in_order_of bs (drop k g.blocks))) f.blocks k le
