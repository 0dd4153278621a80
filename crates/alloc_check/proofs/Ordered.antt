-- Instructions of two functions as items, and the items of blocks that are alike.
use Rattle.std.proofs.Common.{◌≡◌, ℕ, zero, suc, ◌+◌, ◌<◌, ◌++◌, ◌∷◌, ◌∙◌, ◌&&◌, Bool, true, false, cond, not, List, [], Option, Some, None, map, flat_map, option_map, length, drop, get_or, refl, sym, ap, subst, arith, eqb}
use Rattle.std.specs.Prelude.{find, nat_eq}
use Rattle.std.specs.List.{list_all}
use Rattle.std.proofs.lemmas.Bool.{eq-eqb, eqb-true}
use Rattle.std.proofs.lemmas.List.{at_drop_more}
use Rattle.std.proofs.Math.Dec.{eqb-suc-zero}
use Rattle.target_base.specs.declared.types.Effect.{Effect}
use Rattle.target_base.specs.declared.types.Target.{Target}
use Rattle.target_base.specs.Roles.{is_silent}
use Rattle.meaning.specs.declared.types.Row.{Row}
use Rattle.meaning.specs.declared.types.Row.TheVariants.{BothStart, BothEnd, FirstSilent, SecondSilent, BothCounted}
use Rattle.meaning.specs.declared.types.Rest.{Rest}
use Rattle.meaning.specs.declared.types.EdgePair.{EdgePair}
use Rattle.meaning.specs.Lanes.{Writes, Reads}
use Rattle.meaning.specs.Code.{Edge, Item, BlockStart, BlockEnd, Silent, Counted, Code}
use Rattle.meaning.specs.Rows.{first_falls, second_falls}
use Rattle.meaning.specs.Sameness.{same_rest, same_option}
use Rattle.meaning.specs.Pairing.{pairing, pair_item, pair_edges, pair_target, pair_falls}
use Rattle.laws.proofs.Following.{both-true}
use Rattle.laws.proofs.Same.{rest-true, option-true}
use Rattle.mir_func.specs.declared.func.Instr.{Instr}
use Rattle.mir_func.specs.declared.func.Block.{Block}
use Rattle.mir_func.specs.Value.{Function}
use Rattle.mir_func.specs.Binding.{effect_of, passes, does, roles_of, is_early_clobber, is_terminator}
use Rattle.mir_meaning.specs.Registers.{has_number}
use Rattle.mir_meaning.specs.Rules.{successors_of}
use Rattle.mir_meaning.specs.Items.{silent_reads, silent_writes, rest_of, values, counted_writes}
use Rattle.mir_meaning.specs.Codes.{item_of, effect_item, way, ways_out, target_of, instrs_of, phi_writes, block_end, fallen_into, falls_through, is_open, ends_without_terminator, first_number, phis_written}
use Rattle.mir_meaning.specs.Agreement.{all_alike, blocks_alike, same_set, in_order_of, is_counted}
use Rattle.alloc_check.specs.Compared.{compared, Goes, ordered, in_order, first_items, second_items, both_way, both_ways, writes_of, IsSilent, Counts}
use Rattle.alloc_check.proofs.Reordered.{silent-same, values-same, counted-same, rest-same, phis-same}
use Rattle.alloc_check.proofs.Comparing.{edge, exits-meet, targets-meet, targets-apart, Before, first-silent, counted-meets-silent, end-meets-silent, goes-row, counted-meets, counted-apart}

not-false : (b : Bool) → not b ≡ false → b ≡ true
not-false true e = refl
not-false false e = absurd (cc)

not-true : (b : Bool) → not b ≡ true → b ≡ false
not-true true e = absurd (cc)
not-true false e = refl

-- the item of an instruction

abbrev pub SilentAs : Item → Writes → Type 0
SilentAs item ws = (reads : Reads) × (item ≡ Silent reads ws)

pub silent-item : (t : Target) (f : Function) (b : Block) (i : Instr) → is_counted t i ≡ false → SilentAs (item_of t f b i) (writes_of t f i)
unfolding item_of
silent-item t f b i h = go (effect_of t i) h
  where
    go : (o : Option Effect) → passes (λ e. not (is_silent e)) o ≡ false → SilentAs (elim o [ None ↦ Silent [] [] | Some e ↦ effect_item t f b i e ]) (elim o [ None ↦ [] | Some e ↦ silent_writes t f e (is_early_clobber (roles_of t i)) i.operands ])
    go None k = ([], refl)
    go (Some e) k = (
      silent_reads t f e i.operands,
      ap (λ y. cond y (Silent (silent_reads t f e i.operands) (silent_writes t f e (is_early_clobber (roles_of t i)) i.operands)) (Counted (rest_of t f e i) (map (λ v. v.0) (values t f e i)) (counted_writes t f e i) (option_map (way t f b.number) (target_of i.operands)) (cond (is_terminator e) (ways_out t f b) []))) (not-false (is_silent e) k),
    )

pub counted-item :
    (t : Target) (f : Function) (b : Block) (i : Instr) (r : Rest) (reads : Reads) (ws : Writes) (c : Counts t f i r reads ws) →
    item_of t f b i ≡ Counted r reads ws (option_map (way t f b.number) (target_of i.operands)) (cond (is_terminator c.effect) (ways_out t f b) [])
unfolding item_of
counted-item t f b i r reads ws c =
    let e = c.effect in
    let to = option_map (way t f b.number) (target_of i.operands) in
    let exits = cond (is_terminator e) (ways_out t f b) [] in
    ap (λ o. elim o [ None ↦ Silent [] [] | Some x ↦ effect_item t f b i x ]) c.is
    ∙ ap (λ y. cond y (Silent (silent_reads t f e i.operands) (silent_writes t f e (is_early_clobber (roles_of t i)) i.operands)) (Counted (rest_of t f e i) (map (λ v. v.0) (values t f e i)) (counted_writes t f e i) to exits)) c.counted
    ∙ (λ k. Counted (sym c.rest k) (sym c.read k) (sym c.written k) to exits)

-- an instruction that counts does something
pub counts : (t : Target) (f : Function) (i : Instr) → is_counted t i ≡ true → (r : Rest) × (reads : Reads) × (ws : Writes) × Counts t f i r reads ws
counts t f i h = go (effect_of t i) refl h
  where
    go : (o : Option Effect) → effect_of t i ≡ o → passes (λ e. not (is_silent e)) o ≡ true → (r : Rest) × (reads : Reads) × (ws : Writes) × Counts t f i r reads ws
    go None e k = absurd (cc)
    go (Some e) is k = (
      rest_of t f e i,
      map (λ v. v.0) (values t f e i),
      counted_writes t f e i,
      record { effect = e; is = is; counted = not-true (is_silent e) k; rest = refl; read = refl; written = refl },
    )

-- the second function with its blocks otherwise

pub writes-ordered : (t : Target) (g : Function) (bs : List Block) (i : Instr) → writes_of t (record g { blocks = bs }) i ≡ writes_of t g i
writes-ordered t g bs i = go (effect_of t i)
  where
    go : (o : Option Effect) → elim o as (λ x. Writes) [ None ↦ [] | Some e ↦ silent_writes t (record g { blocks = bs }) e (is_early_clobber (roles_of t i)) i.operands ] ≡ elim o as (λ x. Writes) [ None ↦ [] | Some e ↦ silent_writes t g e (is_early_clobber (roles_of t i)) i.operands ]
    go None = refl
    go (Some e) = silent-same t g bs e (is_early_clobber (roles_of t i)) i.operands

abbrev pub counts-ordered : (t : Target) (g : Function) (bs : List Block) (i : Instr) (r : Rest) (reads : Reads) (ws : Writes) → Counts t g i r reads ws → Counts t (record g { blocks = bs }) i r reads ws
counts-ordered t g bs i r reads ws c = record {
  effect = c.effect;
  is = c.is;
  counted = c.counted;
  rest = c.rest ∙ sym (rest-same t g bs c.effect i);
  read = c.read ∙ ap (map (λ v. v.0)) (sym (values-same t g bs c.effect i));
  written = c.written ∙ sym (counted-same t g bs c.effect i);
}

-- blocks that are alike
abbrev pub AreAll : List Block → List Block → Type 0
AreAll bs cs = all_alike blocks_alike bs cs ≡ true

pub alike-number : (b c : Block) → blocks_alike b c ≡ true → b.number ≡ c.number
alike-number b c e = eqb-true b.number c.number (both-true (nat_eq b.number c.number) (same_set (successors_of b) (successors_of c)) e).0

empty-alike : {X Y : Type 0} (to : X → ℕ) (from : Y → ℕ) (xs : List X) (ys : List Y) → same_set (map to xs) (map from ys) ≡ true → nat_eq (length xs) 0 ≡ nat_eq (length ys) 0
empty-alike to from [] [] e = refl
empty-alike to from [] (y ∷ ys) e = absurd (cc)
empty-alike to from (x ∷ xs) [] e = absurd (cc)
empty-alike to from (x ∷ xs) (y ∷ ys) e = eqb-suc-zero (length xs) ∙ sym (eqb-suc-zero (length ys))

pub open-alike : (t : Target) (b c : Block) → blocks_alike b c ≡ true → is_open t (in_order b c) ≡ is_open t c
open-alike t b c e =
    let both = both-true (nat_eq b.number c.number) (same_set (successors_of b) (successors_of c)) e in
    ap (λ x. t.options.open_blocks && x && ends_without_terminator t c.instrs) (empty-alike (λ s. s.block) (λ s. s.block) b.successors c.successors both.1)

in-order-instrs : (bs cs : List Block) → AreAll bs cs → (m : ℕ) → instrs_of (in_order_of bs cs) m ≡ instrs_of cs m
in-order-instrs [] [] e m = refl
in-order-instrs [] (c ∷ cs) e m = absurd (cc)
in-order-instrs (b ∷ bs) [] e m = absurd (cc)
in-order-instrs (b ∷ bs) (c ∷ cs) e m = go (nat_eq c.number m) (in-order-instrs bs cs (both-true (blocks_alike b c) (all_alike blocks_alike bs cs) e).1 m)
  where
    go : (y : Bool) → instrs_of (in_order_of bs cs) m ≡ instrs_of cs m → elim (cond y (Some (in_order b c)) (find (λ (x : Block). nat_eq x.number m) (in_order_of bs cs))) as (λ x. List Instr) [ None ↦ [] | Some x ↦ x.instrs ] ≡ elim (cond y (Some c) (find (λ (x : Block). nat_eq x.number m) cs)) as (λ x. List Instr) [ None ↦ [] | Some x ↦ x.instrs ]
    go true k = refl
    go false k = k

pub first-alike : (bs cs : List Block) → AreAll bs cs → first_number bs ≡ first_number cs
first-alike [] [] e = refl
first-alike [] (c ∷ cs) e = absurd (cc)
first-alike (b ∷ bs) [] e = absurd (cc)
first-alike (b ∷ bs) (c ∷ cs) e = ap Some (alike-number b c (both-true (blocks_alike b c) (all_alike blocks_alike bs cs) e).0)

pub first-ordered : (bs cs : List Block) → AreAll bs cs → first_number (in_order_of bs cs) ≡ first_number cs
first-ordered [] [] e = refl
first-ordered [] (c ∷ cs) e = absurd (cc)
first-ordered (b ∷ bs) [] e = absurd (cc)
first-ordered (b ∷ bs) (c ∷ cs) e = refl

pub alike-drop : (bs cs : List Block) → AreAll bs cs → (k : ℕ) → AreAll (drop k bs) (drop k cs)
alike-drop bs cs e zero = e
alike-drop [] [] e (suc k) = refl
alike-drop [] (c ∷ cs) e (suc k) = absurd (cc)
alike-drop (b ∷ bs) [] e (suc k) = absurd (cc)
alike-drop (b ∷ bs) (c ∷ cs) e (suc k) = alike-drop bs cs (both-true (blocks_alike b c) (all_alike blocks_alike bs cs) e).1 k

pub ordered-drop : (bs cs : List Block) → AreAll bs cs → (k : ℕ) → drop k (in_order_of bs cs) ≡ in_order_of (drop k bs) (drop k cs)
ordered-drop bs cs e zero = refl
ordered-drop [] [] e (suc k) = refl
ordered-drop [] (c ∷ cs) e (suc k) = absurd (cc)
ordered-drop (b ∷ bs) [] e (suc k) = absurd (cc)
ordered-drop (b ∷ bs) (c ∷ cs) e (suc k) = ordered-drop bs cs (both-true (blocks_alike b c) (all_alike blocks_alike bs cs) e).1 k

pub way-ordered : (t : Target) (f g : Function) → AreAll f.blocks g.blocks → (n m : ℕ) → way t (ordered f g) n m ≡ way t g n m
way-ordered t f g e n m =
    ap (edge m) (phis-same t g (in_order_of f.blocks g.blocks) n (instrs_of (in_order_of f.blocks g.blocks) m) ∙ ap (phis_written t g n) (in-order-instrs f.blocks g.blocks e m))

-- counted instructions of two blocks

module _ (t : Target) (f g : Function) (b c : Block) (alike : AreAll f.blocks g.blocks) (number : b.number ≡ c.number) where
  pub way-second : (m : ℕ) → way t (ordered f g) c.number m ≡ way t g b.number m
  way-second m = way-ordered t f g alike c.number m ∙ ap (λ n. way t g n m) (sym number)

  ways-second : ways_out t (ordered f g) (in_order b c) ≡ map (λ e. way t g b.number e.block) b.successors
  ways-second = λ k. map (λ e. way-second e.block k) b.successors

  exits-pair : (y : Bool) → pair_edges (cond y (ways_out t f b) []) (cond y (ways_out t (ordered f g) (in_order b c)) []) ≡ Some (cond y (both_ways t f g b) [])
  exits-pair true = ap (pair_edges (ways_out t f b)) ways-second ∙ exits-meet (λ m. (way t f b.number m).phis) (λ m. (way t g b.number m).phis) (λ s. s.block) b.successors
  exits-pair false = refl

  pub ends-pair : pair_edges (ways_out t f b) (ways_out t (ordered f g) (in_order b c)) ≡ Some (both_ways t f g b)
  ends-pair = exits-pair true

  module _
      (i x : Instr) (r r' : Rest) (reads reads' : Reads) (ws ws' : Writes)
      (one : Counts t f i r reads ws) (two : Counts t g x r' reads' ws') where
    target : Option ℕ
    target = target_of i.operands

    abbrev two' : Counts t (ordered f g) x r' reads' ws'
    two' = counts-ordered t g (in_order_of f.blocks g.blocks) x r' reads' ws' two

    abbrev Pair : Item × Item
    Pair = (item_of t f b i, item_of t (ordered f g) (in_order b c) x)

    abbrev left : Option Edge → List Edge → Item
    left to exits = Counted r reads ws to exits

    abbrev right : Option Edge → List Edge → Item
    right to exits = Counted r' reads' ws' to exits

    abbrev to : Option Edge
    to = option_map (way t f b.number) (target_of i.operands)

    abbrev to' : Option Edge
    to' = option_map (way t g b.number) (target_of x.operands)

    abbrev exits : List Edge
    exits = cond (is_terminator one.effect) (ways_out t f b) []

    abbrev exits' : List Edge
    exits' = cond (is_terminator two.effect) (ways_out t (ordered f g) (in_order b c)) []

    pub first-is : item_of t f b i ≡ left to exits
    first-is = counted-item t f b i r reads ws one

    pub second-is : item_of t (ordered f g) (in_order b c) x ≡ right to' exits'
    second-is =
        counted-item t (ordered f g) (in_order b c) x r' reads' ws' two'
        ∙ (λ k. right (option_map (λ m. way-second m k) (target_of x.operands)) exits')

    abbrev row : Row
    row = BothCounted r reads reads' ws ws' (option_map (both_way t f g b.number) (target_of i.operands)) (cond (is_terminator one.effect) (both_ways t f g b) [])

    pub pairs : same_rest r r' ≡ true → same_option (target_of i.operands) (target_of x.operands) ≡ true → pair_item (left to exits) (right to' exits') ≡ Some row
    pairs same goal =
        let effect : two.effect ≡ one.effect = sym (ap (λ (q : Rest). q.effect) two.rest) ∙ (sym (ap (λ (q : Rest). q.effect) (rest-true r r' same)) ∙ ap (λ (q : Rest). q.effect) one.rest) in
        let target' : target_of x.operands ≡ target_of i.operands = sym (option-true (target_of i.operands) (target_of x.operands) goal) in
        let first : ℕ → Writes = λ m. (way t f b.number m).phis in
        let second : ℕ → Writes = λ m. (way t g b.number m).phis in
        ap (λ y. cond y (elim (pair_target to to') [ None ↦ None | Some w ↦ elim (pair_edges exits exits') [ None ↦ None | Some ways ↦ Some (BothCounted r reads reads' ws ws' w ways) ] ]) None) same
        ∙ (λ k. elim ((ap (λ o. pair_target to (option_map (way t g b.number) o)) target' ∙ targets-meet first second (target_of i.operands)) k) [ None ↦ None | Some w ↦ elim (pair_edges exits exits') [ None ↦ None | Some ways ↦ Some (BothCounted r reads reads' ws ws' w ways) ] ])
        ∙ (λ k. elim ((ap (λ e. pair_edges exits (cond (is_terminator e) (ways_out t (ordered f g) (in_order b c)) [])) effect ∙ exits-pair (is_terminator one.effect)) k) [ None ↦ None | Some ways ↦ Some (BothCounted r reads reads' ws ws' (option_map (both_way t f g b.number) (target_of i.operands)) ways) ])

    pub apart-rest : same_rest r r' ≡ false → pair_item (left to exits) (right to' exits') ≡ None
    apart-rest differ = ap (λ y. cond y (elim (pair_target to to') [ None ↦ None | Some w ↦ elim (pair_edges exits exits') [ None ↦ None | Some ways ↦ Some (BothCounted r reads reads' ws ws' w ways) ] ]) None) differ

    pub apart-target : same_option (target_of i.operands) (target_of x.operands) ≡ false → pair_item (left to exits) (right to' exits') ≡ None
    apart-target differ =
        ap (λ (o : Option (Option EdgePair)). cond (same_rest r r') (elim o [ None ↦ None | Some w ↦ elim (pair_edges exits exits') [ None ↦ None | Some ways ↦ Some (BothCounted r reads reads' ws ws' w ways) ] ]) None)
        (targets-apart (λ m. (way t f b.number m).phis) (λ m. (way t g b.number m).phis) (target_of i.operands) (target_of x.operands) differ)
        ∙ none (same_rest r r')
      where
        none : (y : Bool) → ◌≡◌ {A = Option Row} (cond y None None) None
        none true = refl
        none false = refl

-- what tells the code of an instruction
pub none-silent : (t : Target) (f : Function) (i : Instr) (ws : Writes) → effect_of t i ≡ None → ws ≡ [] → (is_counted t i ≡ false) × (ws ≡ writes_of t f i)
none-silent t f i ws e h = (ap (passes (λ x. not (is_silent x))) e, h ∙ ap (λ o. elim o as (λ x. Writes) [ None ↦ [] | Some x ↦ silent_writes t f x (is_early_clobber (roles_of t i)) i.operands ]) (sym e))

pub some-silent : (t : Target) (f : Function) (i : Instr) (x : Effect) (ws : Writes) → effect_of t i ≡ Some x → is_silent x ≡ true → ws ≡ silent_writes t f x (is_early_clobber (roles_of t i)) i.operands → (is_counted t i ≡ false) × (ws ≡ writes_of t f i)
some-silent t f i x ws e s h = (
  ap (passes (λ y. not (is_silent y))) e ∙ ap not s,
  h ∙ ap (λ o. elim o as (λ y. Writes) [ None ↦ [] | Some y ↦ silent_writes t f y (is_early_clobber (roles_of t i)) i.operands ]) (sym e),
)

pub some-counted : (t : Target) (i : Instr) (x : Effect) → effect_of t i ≡ Some x → is_silent x ≡ false → is_counted t i ≡ true
some-counted t i x e s = ap (passes (λ y. not (is_silent y))) e ∙ ap not s

pub lengths-alike : (bs cs : List Block) → AreAll bs cs → length bs ≡ length cs
lengths-alike [] [] e = refl
lengths-alike [] (c ∷ cs) e = absurd (cc)
lengths-alike (b ∷ bs) [] e = absurd (cc)
lengths-alike (b ∷ bs) (c ∷ cs) e = ap suc (lengths-alike bs cs (both-true (blocks_alike b c) (all_alike blocks_alike bs cs) e).1)
