-- Instructions put among the rows.
use Rattle.std.proofs.Common.{◌≡◌, ◌∷◌, ◌++◌, ◌∙◌, ◌<◌, ◌≤◌, ◌+◌, ℕ, List, [], Option, Some, option_map, refl, sym, ap, append_assoc, drop, get_or, length, drop_of_length-le}
use Rattle.std.proofs.lemmas.List.{at_drop_more, at_drop_all, append-nil}
use Rattle.target_base.specs.declared.types.Effect.{Effect}
use Rattle.target_base.specs.declared.types.Effect.TheVariants as effects
use Rattle.target_base.specs.declared.types.Target.{Target}
use Rattle.meaning.specs.declared.types.Rest.{Rest}
use Rattle.meaning.specs.declared.types.Row.{Row}
use Rattle.meaning.specs.declared.types.Row.TheVariants.{BothStart, BothEnd, FirstSilent, SecondSilent, BothCounted}
use Rattle.meaning.specs.declared.types.EdgePair.{EdgePair}
use Rattle.meaning.specs.Lanes.{Writes, Reads}
use Rattle.meaning.specs.Code.{Item, BlockStart, BlockEnd, Counted, Code}
use Rattle.meaning.specs.Rows.{first_target, second_target, first_falls, second_falls}
use Rattle.mir_func.specs.declared.func.Instr.{Instr}
use Rattle.mir_func.specs.declared.func.Block.{Block}
use Rattle.mir_func.specs.Value.{Function}
use Rattle.mir_meaning.specs.Codes.{code_of, item_of, way, target_of, fallen_into, block_end}
use Rattle.alloc_check.specs.Bare.{bare, bare_item, first_bare, second_bare, items, blocks_bare, block_bare, used_reads, shared_reads, needed_reads, Grown, SilentItem, CountedItem}
use Rattle.alloc_check.proofs.Rowed.{grown-row, blocks-more, code-bare}

pub in-first : (t : Target) (f : Function) (b : Block) (i : Instr) (old new : List Row) (ws : Writes) → SilentItem t f b i (Some ws) → new ≡ old ++ FirstSilent [] ws ∷ [] → Grown old (bare_item (item_of t f b i) ∷ []) [] new
in-first t f b i old new ws s e =
    let g = grown-row old new (FirstSilent [] ws) e in
    record { first = g.first ∙ ap (λ x. first_bare old ++ x ∷ []) (sym s); second = g.second }

pub in-second : (t : Target) (f : Function) (b : Block) (i : Instr) (old new : List Row) (ws : Writes) → SilentItem t f b i (Some ws) → new ≡ old ++ SecondSilent [] ws ∷ [] → Grown old [] (bare_item (item_of t f b i) ∷ []) new
in-second t f b i old new ws s e =
    let g = grown-row old new (SecondSilent [] ws) e in
    record { first = g.first; second = g.second ∙ ap (λ x. second_bare old ++ x ∷ []) (sym s) }

-- what is needed is used alike
pub needed-used : (e : Effect) (reads others asked : Reads) → asked ≡ needed_reads e reads others → used_reads e asked ≡ used_reads e reads
needed-used effects.Marker reads others asked h = refl
needed-used e reads others asked h = ap (used_reads e) h

shared-none : (reads : Reads) → shared_reads reads [] ≡ []
shared-none [] = refl
shared-none (ss ∷ reads) = refl

-- where the partner has no operand more, nothing more is shared
pub shared-end : (reads others made : Reads) (k : ℕ) → length others ≤ k → made ++ shared_reads (drop k reads) (drop k others) ≡ shared_reads reads others → made ≡ shared_reads reads others
shared-end reads others made k le h = sym (append-nil made) ∙ (ap (λ r. made ++ r) (sym (at_drop_all (λ o. shared_reads (drop k reads) o) others k le ∙ shared-none (drop k reads))) ∙ h)

pub in-both :
    (t : Target) (f g : Function) (b c : Block) (i x : Instr) (old new : List Row) (r r' : Rest) (reads reads' asked asked' : Reads) (ws ws' : Writes) (target : Option EdgePair) (exits : List EdgePair) →
    CountedItem t f b i r reads ws → CountedItem t g c x r' reads' ws' → r ≡ r' → used_reads r.effect asked ≡ used_reads r.effect reads → used_reads r.effect asked' ≡ used_reads r.effect reads' →
    target_of i.operands ≡ target_of x.operands → b.number ≡ c.number →
    first_target target ≡ option_map (way t f b.number) (target_of i.operands) → second_target target ≡ option_map (way t g b.number) (target_of i.operands) →
    new ≡ old ++ BothCounted r asked asked' ws ws' target exits ∷ [] → Grown old (bare_item (item_of t f b i) ∷ []) (bare_item (item_of t g c x) ∷ []) new
in-both t f g b c i x old new r r' reads reads' asked asked' ws ws' target exits one two same used used' goal number to to' e =
    let grown = grown-row old new (BothCounted r asked asked' ws ws' target exits) e in
    let left : bare_item (item_of t f b i) ≡ Counted r (used_reads r.effect asked) ws (first_target target) [] =
    one ∙ (ap (λ w. bare_item (Counted r reads ws w [])) (sym to) ∙ ap (λ rs. Counted r rs ws (first_target target) []) (sym used)) in
    let right : bare_item (item_of t g c x) ≡ Counted r (used_reads r.effect asked') ws' (second_target target) [] =
    two ∙ (ap (λ m. bare_item (Counted r' reads' ws' (option_map (way t g m) (target_of x.operands)) [])) (sym number)
    ∙ (ap (λ o. bare_item (Counted r' reads' ws' (option_map (way t g b.number) o) [])) (sym goal)
    ∙ (ap (λ w. bare_item (Counted r' reads' ws' w [])) (sym to')
    ∙ (ap (λ q. bare_item (Counted q reads' ws' (second_target target) [])) (sym same)
    ∙ ap (λ rs. Counted r rs ws' (second_target target) []) (sym used'))))) in
    record { first = grown.first ∙ ap (λ y. first_bare old ++ y ∷ []) (sym left); second = grown.second ∙ ap (λ y. second_bare old ++ y ∷ []) (sym right) }

-- an instruction of a list, and those behind it
pub items-at : (t : Target) (f : Function) (b : Block) (is : List Instr) (k : ℕ) (i : Instr) → k < length is → i ≡ get_or is k i → items t f b (drop k is) ≡ bare_item (item_of t f b i) ∷ items t f b (drop (k + 1) is)
items-at t f b is k i h e = at_drop_more (items t f b) is k i h ∙ ap (λ x. bare_item (item_of t f b x) ∷ items t f b (drop (k + 1) is)) (sym e)

-- what grew by the first of some items still has the rest to come
pub grown-rest : (new old : Code) (x : Item) (rest whole : Code) → new ≡ old ++ x ∷ [] → whole ≡ x ∷ rest → new ++ rest ≡ old ++ whole
grown-rest new old x rest whole e h = ap (λ p. p ++ rest) e ∙ (append_assoc old (x ∷ []) rest ∙ ap (λ p. old ++ p) (sym h))

pub grown-none : (new old rest : Code) → new ≡ old ++ [] → new ++ rest ≡ old ++ rest
grown-none new old rest e = ap (λ p. p ++ rest) (e ∙ append-nil old)

pub grown-more : (new old p rest whole : Code) → new ≡ old ++ p → whole ≡ p ++ rest → new ++ rest ≡ old ++ whole
grown-more new old p rest whole e h = ap (λ q. q ++ rest) e ∙ (append_assoc old p rest ∙ ap (λ q. old ++ q) (sym h))

pub blocks-at : (t : Target) (f : Function) (bs : List Block) (k : ℕ) (b : Block) → k < length bs → b ≡ get_or bs k b → blocks_bare t f (drop k bs) ≡ block_bare t f b (drop (k + 1) bs) ++ blocks_bare t f (drop (k + 1) bs)
blocks-at t f bs k b h e = at_drop_more (blocks_bare t f) bs k b h ∙ (ap (λ x. blocks_bare t f (x ∷ drop (k + 1) bs)) (sym e) ∙ blocks-more t f b (drop (k + 1) bs))

-- a block whose start, instructions and end are among the rows
pub grown-block :
    (t : Target) (f g : Function) (b c : Block) (after after' : List Block) (r0 r1 r2 r3 : List Row) (into other : Option ℕ) (falls : Option (Writes × Writes)) (exits : List EdgePair) →
    b.number ≡ c.number → into ≡ fallen_into t b after → other ≡ fallen_into t c after' → into ≡ other →
    r1 ≡ r0 ++ BothStart b.number ∷ [] → Grown r1 (items t f b b.instrs) (items t g c c.instrs) r2 →
    first_falls falls ≡ option_map (λ m. (way t f b.number m).phis) into → second_falls falls ≡ option_map (λ m. (way t g b.number m).phis) into →
    r3 ≡ r2 ++ BothEnd falls exits ∷ [] → Grown r0 (block_bare t f b after) (block_bare t g c after') r3
grown-block t f g b c after after' r0 r1 r2 r3 into other falls exits number fall fall' same start middle one two end =
    let s = grown-row r0 r1 (BothStart b.number) start in
    let e = grown-row r2 r3 (BothEnd falls exits) end in
    let left : BlockEnd (first_falls falls) [] ≡ bare_item (block_end t f b after) = ap (λ w. BlockEnd w []) (one ∙ ap (option_map (λ m. (way t f b.number m).phis)) fall) in
    let right : BlockEnd (second_falls falls) [] ≡ bare_item (block_end t g c after') =
    ap (λ w. BlockEnd w []) (two ∙ (ap (option_map (λ m. (way t g b.number m).phis)) (same ∙ fall') ∙ ap (λ n. option_map (λ m. (way t g n m).phis) (fallen_into t c after')) number)) in
    record {
      first = together (first_bare r0) (first_bare r1) (first_bare r2) (first_bare r3) (BlockStart b.number) (BlockStart b.number) (items t f b b.instrs) (BlockEnd (first_falls falls) []) (bare_item (block_end t f b after)) s.first middle.first e.first refl left;
      second = together (second_bare r0) (second_bare r1) (second_bare r2) (second_bare r3) (BlockStart b.number) (BlockStart c.number) (items t g c c.instrs) (BlockEnd (second_falls falls) []) (bare_item (block_end t g c after')) s.second middle.second e.second (ap BlockStart number) right;
    }
  where
    together : (p0 p1 p2 p3 : Code) (x x' : Item) (m : Code) (y y' : Item) → p1 ≡ p0 ++ x ∷ [] → p2 ≡ p1 ++ m → p3 ≡ p2 ++ y ∷ [] → x ≡ x' → y ≡ y' → p3 ≡ p0 ++ (x' ∷ (m ++ y' ∷ []))
    together p0 p1 p2 p3 x x' m y y' a b c d e =
        c ∙ (ap (λ q. q ++ y ∷ []) b ∙ (append_assoc p1 m (y ∷ []) ∙ (ap (λ q. q ++ (m ++ y ∷ [])) a ∙ (append_assoc p0 (x ∷ []) (m ++ y ∷ []) ∙ (ap (λ z. p0 ++ (z ∷ (m ++ y ∷ []))) d ∙ ap (λ z. p0 ++ (x' ∷ (m ++ z ∷ []))) e)))))

-- when all blocks are among the rows, their side is the code
pub sides-whole : (t : Target) (f : Function) (p : Code) (k : ℕ) → length f.blocks ≤ k → p ++ blocks_bare t f (drop k f.blocks) ≡ blocks_bare t f f.blocks → p ≡ bare (code_of t f)
sides-whole t f p k h e = sym (append-nil p) ∙ (ap (λ bs. p ++ blocks_bare t f bs) (sym (drop_of_length-le f.blocks h)) ∙ (e ∙ sym (code-bare t f)))
