-- A function that has classes for further registers means what it meant.
use Rattle.std.proofs.Common.{◌≡◌, ◌∷◌, ◌++◌, ◌∙◌, ◌⊎◌, inl, inr, ◌&&◌, ℕ, zero, suc, Bool, true, false, cond, List, Option, Some, None, map, filter, length, refl, sym, ap, subst, []}
use Rattle.std.specs.Prelude.{is_some, nat_eq, option_map, find, slice_get, slice_index}
use Rattle.target_base.specs.declared.types.ClassId.{ClassId}
use Rattle.target_base.specs.declared.types.Effect.{Effect}
use Rattle.target_base.specs.declared.types.Effect.TheVariants as effects
use Rattle.target_base.specs.declared.types.IndexId.{IndexId}
use Rattle.target_base.specs.declared.types.Target.{Target}
use Rattle.target_base.specs.Registers.{lanes_of, widths_of_some}
use Rattle.target_base.specs.Rules.{is_phi}
use Rattle.meaning.specs.Code.{BlockEnd, BlockStart, Counted, Item, Silent}
use Rattle.meaning.specs.Lanes.{Reads, Writes}
use Rattle.meaning.specs.Live.{Among, here, there}
use Rattle.meaning.specs.Matched.{image, image_fill, renamed, renamed_reads}
use Rattle.meaning.specs.Refines.{Refines}
use Rattle.meaning.specs.declared.types.Fill.{Fill}
use Rattle.meaning.specs.declared.types.Fill.TheVariants.{Computed, Moved}
use Rattle.meaning.specs.declared.types.Lane.{Lane}
use Rattle.meaning.specs.declared.types.Lane.TheVariants.{VirtualLane}
use Rattle.meaning.specs.declared.types.Source.{Source}
use Rattle.meaning.specs.declared.types.Source.TheVariants.{Bits, FromLane, Undef}
use Rattle.mir_func.specs.declared.func.Loc.{Loc}
use Rattle.mir_func.specs.declared.func.Loc.TheVariants.{Fixed, Virtual}
use Rattle.mir_func.specs.declared.func.RegOp.{RegOp}
use Rattle.mir_func.specs.declared.func.Operand.{Operand}
use Rattle.mir_func.specs.declared.func.Operand.TheVariants as operands
use Rattle.mir_func.specs.declared.func.Instr.{Instr}
use Rattle.mir_func.specs.declared.func.Block.{Block}
use Rattle.mir_func.specs.Value.{Function}
use Rattle.mir_func.specs.Binding.{class_of, does, effect_of, passes, puts_together, registers, is_early_clobber, roles_of}
use Rattle.mir_meaning.specs.Registers.{located_lanes, located_widths, numbers, operand_lanes, undefined_lanes, use_sources, whole_lanes}
use Rattle.mir_meaning.specs.Items.{defined, inserted, moved, parts, sequenced, silent_reads, silent_writes, undefined, uses}
use Rattle.mir_meaning.specs.Codes.{block_end, blocks_code, code_of, effect_item, fallen_into, given_of, instrs_of, item_of, meaning_of, phi_operands, phi_pair, phis_written, refines, way, ways_out}
use Rattle.mir_meaning.specs.Renaming.{IsFixed, KeepsPlaces, Renames, RenamesAll, renamed_instr, renamed_item, renamed_operand}
use Rattle.mir_meaning.specs.Rules.{has_class}
use Rattle.mir_meaning.proofs.Renaming.{law_of_renaming}

-- nothing is renamed

abbrev pub same-lane : Lane → Lane
same-lane l = l

abbrev pub same-operand : RegOp → RegOp
same-operand o = o

pub lanes-same : (ls : List Lane) → map same-lane ls ≡ ls
lanes-same [] = refl
lanes-same (l ∷ ls) = ap (λ q. l ∷ q) (lanes-same ls)

source-same : (s : Source) → image same-lane s ≡ s
source-same (FromLane l) = refl
source-same Undef = refl
source-same (Bits c low width) = refl

sources-same : (ss : List Source) → map (image same-lane) ss ≡ ss
sources-same [] = refl
sources-same (s ∷ ss) = λ i. source-same s i ∷ sources-same ss i

reads-same : (reads : Reads) → renamed_reads same-lane reads ≡ reads
reads-same [] = refl
reads-same (ss ∷ reads) = λ i. sources-same ss i ∷ reads-same reads i

fill-same : (x : Fill) → image_fill same-lane x ≡ x
fill-same (Moved s) = ap Moved (source-same s)
fill-same (Computed n) = refl

writes-same : (ws : Writes) → renamed same-lane ws ≡ ws
writes-same [] = refl
writes-same (w ∷ ws) = λ i. record { lane = w.lane; fill = fill-same w.fill i; early = w.early } ∷ writes-same ws i

pub item-same : (x : Item) → renamed_item same-lane x ≡ x
item-same (BlockStart n) = refl
item-same (BlockEnd falls exits) = refl
item-same (Silent reads ws) = λ i. Silent (reads-same reads i) (writes-same ws i)
item-same (Counted r reads ws target exits) = λ i. Counted r (reads-same reads i) (writes-same ws i) target exits

operand-same : (o : Operand) → renamed_operand same-operand o ≡ o
operand-same (operands.Reg o) = refl
operand-same o = refl

operands-same : (os : List Operand) → map (renamed_operand same-operand) os ≡ os
operands-same [] = refl
operands-same (o ∷ os) = λ i. operand-same o i ∷ operands-same os i

pub instr-same : (i : Instr) → renamed_instr same-operand i ≡ i
instr-same i = λ k. record i { operands = operands-same i.operands k }

get-append : (cs more : List (Option ClassId)) (v : ℕ) (x : Option ClassId) → slice_get cs v ≡ Some x → slice_get (cs ++ more) v ≡ Some x
get-append [] more v x e = absurd (cc)
get-append (c ∷ cs) more zero x e = e
get-append (c ∷ cs) more (suc v) x e = get-append cs more v x e

pub none-among : {A : Type 0} (x : A) → Among x [] → ⊥
none-among x m = elim m [ ]

pub among-cases : {A : Type 0} (x y : A) (ys : List A) → Among x (y ∷ ys) → (x ≡ y) ⊎ Among x ys
among-cases x y ys here = inl refl
among-cases x y ys (there m) = inr m

pub among-filter : {A : Type 0} (p : A → Bool) (x : A) (xs : List A) → Among x (filter p xs) → Among x xs
among-filter p x [] m = m
among-filter {A} p x (y ∷ xs) m = go (p y) m (among-filter p x xs)
  where
    past : (x ≡ y) ⊎ Among x (filter p xs) → (Among x (filter p xs) → Among x xs) → Among x (y ∷ xs)
    past (inl e) ih = subst (λ z. Among x (z ∷ xs)) e here
    past (inr k) ih = there (ih k)

    go : (b : Bool) → Among x (cond b (y ∷ filter p xs) (filter p xs)) → (Among x (filter p xs) → Among x xs) → Among x (y ∷ xs)
    go true k ih = past (among-cases x y (filter p xs) k) ih
    go false k ih = there (ih k)

-- the register has a class, and is physical where it is implicit
pub record IsNamed (f : Function) (o : RegOp) : Type 0 where
  pub class : has_class f o.loc ≡ true
  pub fixed : o.implicit ≡ true → IsFixed o.loc

abbrev pub AreNamed : Function → List Operand → Type 0
AreNamed f os = (o : RegOp) → Among o (registers os) → IsNamed f o

-- all registers of a function are named
abbrev pub AllNamed : Function → List Block → Type 0
AllNamed f bs = (b : Block) (i : Instr) → Among b bs → Among i b.instrs → AreNamed f i.operands

module _ (t : Target) (f : Function) (further : List (Option ClassId)) where
  -- the function with further classes
  abbrev pub widened : Function
  widened = record f { classes = f.classes ++ further }

  pub class-stays : (v : ℕ) → is_some (class_of f v) ≡ true → class_of widened v ≡ class_of f v
  class-stays v h = go (slice_get f.classes v) refl h
    where
      go : (q : Option (Option ClassId)) → slice_get f.classes v ≡ q → is_some (elim q as (λ q. Option ClassId) [ None ↦ None | Some c ↦ c ]) ≡ true → class_of widened v ≡ class_of f v
      go None e k = absurd (cc)
      go (Some c) e k = ap (λ q. elim q as (λ q. Option ClassId) [ None ↦ None | Some c ↦ c ]) (get-append f.classes further v c e ∙ sym e)

  pub lanes-stay : (l : Loc) (x : Option IndexId) → has_class f l ≡ true → located_lanes t widened l x ≡ located_lanes t f l x
  lanes-stay (Virtual v) None h = ap (λ q. map (VirtualLane v) (numbers 0 (length (widths_of_some t q)))) (class-stays v h)
  lanes-stay (Virtual v) (Some x) h = refl
  lanes-stay (Fixed r) x h = refl

  pub widths-stay : (l : Loc) (x : Option IndexId) → has_class f l ≡ true → located_widths t widened l x ≡ located_widths t f l x
  widths-stay (Virtual v) None h = ap (widths_of_some t) (class-stays v h)
  widths-stay (Virtual v) (Some x) h = ap (λ q. map (slice_index (widths_of_some t q)) (lanes_of t x)) (class-stays v h)
  widths-stay (Fixed r) x h = refl

  whole-stays : (l : Loc) → has_class f l ≡ true → whole_lanes t widened l ≡ whole_lanes t f l
  whole-stays (Virtual v) h = lanes-stay (Virtual v) None h
  whole-stays (Fixed r) h = refl

  pub undefined-stay : (o : RegOp) → has_class f o.loc ≡ true → undefined_lanes t widened o ≡ undefined_lanes t f o
  undefined-stay o h = ap (λ ls. cond (o.def && o.undef) ls []) (whole-stays o.loc h)

  pub sources-stay : (o : RegOp) → has_class f o.loc ≡ true → use_sources t widened o ≡ use_sources t f o
  sources-stay o h = ap (λ ls. map (cond o.undef (λ l. Undef) FromLane) ls) (lanes-stay o.loc o.index h)

  defined-stays : (early : Bool) (d s : RegOp) → has_class f d.loc ≡ true → has_class f s.loc ≡ true → defined t widened early d (use_sources t widened s) ≡ defined t f early d (use_sources t f s)
  defined-stays early d s h g = λ i. moved early (lanes-stay d.loc d.index h i) (sources-stay s g i) ++ undefined early (undefined-stay d h i)

  renames : (o : RegOp) → IsNamed f o → Renames t f widened same-lane same-operand o
  renames o n = record {
    def = refl;
    implicit = refl;
    undef = refl;
    lanes = lanes-stay o.loc o.index n.class ∙ sym (lanes-same (operand_lanes t f o));
    widths = widths-stay o.loc o.index n.class;
    others = undefined-stay o n.class ∙ sym (lanes-same (undefined_lanes t f o));
    stays = λ e. refl;
    fixed = n.fixed;
  }

  renames-all : (os : List Operand) → AreNamed f os → RenamesAll t f widened same-lane same-operand os
  renames-all [] n = tt
  renames-all (operands.Reg o ∷ os) n = (renames o (n o here), renames-all os (λ p m. n p (there m)))
  renames-all (operands.Imm z ∷ os) n = renames-all os n
  renames-all (operands.Block z ∷ os) n = renames-all os n
  renames-all (operands.Stack z ∷ os) n = renames-all os n
  renames-all (operands.FixedStack z ∷ os) n = renames-all os n
  renames-all (operands.Symbol z ∷ os) n = renames-all os n
  renames-all (operands.Index z ∷ os) n = renames-all os n
  renames-all (operands.Mask z ∷ os) n = renames-all os n

  -- phis

  pair-stays : (n : ℕ) (d : RegOp) (os : List Operand) → IsNamed f d → AreNamed f os → phi_pair t widened n d os ≡ phi_pair t f n d os
  pair-stays n d [] hd h = refl
  pair-stays n d (operands.Reg s ∷ operands.Block m ∷ os) hd h =
      λ i. cond (nat_eq m n) (defined-stays false d s hd.class (h s here).class i) (pair-stays n d os hd (λ p k. h p (there k)) i)
  pair-stays n d os hd h = refl

  phi-stays : (n : ℕ) (os : List Operand) → AreNamed f os → phi_operands t widened n os ≡ phi_operands t f n os
  phi-stays n (operands.Reg d ∷ os) h = pair-stays n d os (h d here) (λ p k. h p (there k))
  phi-stays n os h = refl

  phis-stay : (n : ℕ) (is : List Instr) → ((i : Instr) → Among i is → AreNamed f i.operands) → phis_written t widened n is ≡ phis_written t f n is
  phis-stay n [] h = refl
  phis-stay n (i ∷ is) h = λ k. phis-stay n is (λ x m. h x (there m)) k ++ cond (does is_phi t i) (phi-stays n i.operands (h i here) k) []

  instrs-named : (bs : List Block) (m : ℕ) → AllNamed f bs → (i : Instr) → Among i (instrs_of bs m) → AreNamed f i.operands
  instrs-named [] m h i k = absurd (none-among i k)
  instrs-named (b ∷ bs) m h i k = go (nat_eq b.number m) k (instrs-named bs m (λ c x mc mx. h c x (there mc) mx) i)
    where
      go : (y : Bool) → Among i (elim (cond y (Some b) (find (λ c. nat_eq c.number m) bs)) as (λ q. List Instr) [ None ↦ [] | Some c ↦ c.instrs ]) → (Among i (instrs_of bs m) → AreNamed f i.operands) → AreNamed f i.operands
      go true k ih = h b i here k
      go false k ih = ih k

  module _ (named : AllNamed f f.blocks) where
    ways-stay : (n m : ℕ) → way t widened n m ≡ way t f n m
    ways-stay n m = λ k. record { block = m; phis = phis-stay n (instrs_of f.blocks m) (instrs-named f.blocks m named) k }

    outs-stay : (b : Block) → ways_out t widened b ≡ ways_out t f b
    outs-stay b = λ k. map (λ e. ways-stay b.number e.block k) b.successors

    -- what puts a register together

    parts-stay : (d : RegOp) (os : List Operand) → IsNamed f d → AreNamed f os → parts t widened d os ≡ parts t f d os
    parts-stay d [] hd h = refl
    parts-stay d (operands.Reg s ∷ operands.Index x ∷ os) hd h =
        λ i. moved false (lanes-stay d.loc (Some x) hd.class i) (sources-stay s (h s here).class i) ++ parts-stay d os hd (λ p k. h p (there k)) i
    parts-stay d os hd h = refl

    sequence-stays : (os : List Operand) → AreNamed f os → sequenced t widened os ≡ sequenced t f os
    sequence-stays (operands.Reg d ∷ os) h = λ i. parts-stay d os (h d here) (λ p k. h p (there k)) i ++ undefined false (lanes-stay d.loc d.index (h d here).class i)
    sequence-stays os h = refl

    insertion-stays : (os : List Operand) → AreNamed f os → inserted t widened os ≡ inserted t f os
    insertion-stays (operands.Reg d ∷ operands.Reg a ∷ operands.Reg b ∷ operands.Index x ∷ os) h =
        λ i. moved false (lanes-stay d.loc (Some x) (h d here).class i) (sources-stay b (h b (there (there here))).class i) ++ moved false (lanes-stay d.loc d.index (h d here).class i) (sources-stay a (h a (there here)).class i)
    insertion-stays os h = refl

    uses-stay : (os : List RegOp) → ((o : RegOp) → Among o os → IsNamed f o) → map (use_sources t widened) os ≡ map (use_sources t f) os
    uses-stay [] h = refl
    uses-stay (o ∷ os) h = λ i. sources-stay o (h o here).class i ∷ uses-stay os (λ p k. h p (there k)) i

    together : (e : Effect) (os : List Operand) (early : Bool) → puts_together e ≡ true → AreNamed f os → Silent (silent_reads t widened e os) (silent_writes t widened e early os) ≡ Silent (silent_reads t f e os) (silent_writes t f e early os)
    together effects.RegSequence os early p h = λ i. Silent (uses-stay (uses os) (λ o m. h o (among-filter _ o (registers os) m)) i) (sequence-stays os h i)
    together effects.InsertSubreg os early p h = λ i. Silent (uses-stay (uses os) (λ o m. h o (among-filter _ o (registers os) m)) i) (insertion-stays os h i)
    together e os early p h = absurd (cc)

    together-item : (b : Block) (i : Instr) (e : Effect) → puts_together e ≡ true → AreNamed f i.operands → effect_item t widened b i e ≡ effect_item t f b i e
    together-item b i effects.RegSequence p h = together effects.RegSequence i.operands (is_early_clobber (roles_of t i)) refl h
    together-item b i effects.InsertSubreg p h = together effects.InsertSubreg i.operands (is_early_clobber (roles_of t i)) refl h
    together-item b i e p h = absurd (cc)

    pub item-stays : (b : Block) (i : Instr) → AreNamed f i.operands → item_of t widened b i ≡ item_of t f b i
    unfolding item_of
    item-stays b i h = go (does puts_together t i) refl
      where
        place : KeepsPlaces same-lane
        place = record { units = λ u. refl; slots = λ s k w. refl }

        by : (q : Option Effect) → passes puts_together q ≡ true → elim q as (λ o. Item) [ None ↦ Silent [] [] | Some e ↦ effect_item t widened b i e ] ≡ elim q as (λ o. Item) [ None ↦ Silent [] [] | Some e ↦ effect_item t f b i e ]
        by None p = absurd (cc)
        by (Some e) p = together-item b i e p h

        go : (y : Bool) → does puts_together t i ≡ y → item_of t widened b i ≡ item_of t f b i
        go true e = by (effect_of t i) e
        go false e =
            ap (item_of t widened b) (sym (instr-same i))
            ∙ (law_of_renaming t f widened same-lane same-operand place b b (λ n. ways-stay b.number n) (outs-stay b) i e (renames-all i.operands h)
            ∙ item-same (item_of t f b i))

    items-stay : (b : Block) (is : List Instr) → ((i : Instr) → Among i is → AreNamed f i.operands) → map (item_of t widened b) is ≡ map (item_of t f b) is
    items-stay b [] h = refl
    items-stay b (i ∷ is) h = λ k. item-stays b i (h i here) k ∷ items-stay b is (λ x m. h x (there m)) k

    end-stays : (b : Block) (after : List Block) → block_end t widened b after ≡ block_end t f b after
    end-stays b after = λ k. BlockEnd (option_map (λ m. (ways-stay b.number m k).phis) (fallen_into t b after)) (outs-stay b k)

    blocks-stay : (bs : List Block) → AllNamed f bs → blocks_code (item_of t widened) t widened bs ≡ blocks_code (item_of t f) t f bs
    blocks-stay [] h = refl
    blocks-stay (b ∷ bs) h = λ k. BlockStart b.number ∷ (items-stay b b.instrs (λ i m. h b i here m) k ++ (end-stays b bs k ∷ blocks-stay bs (λ c i mc mi. h c i (there mc) mi) k))

    meaning-stays : meaning_of t widened ≡ meaning_of t f
    unfolding meaning_of code_of
    meaning-stays = λ k. record { code = blocks-stay f.blocks named k; given = given_of t f }

    -- so what does what it does with further classes does what it does
    pub refines-widened : (g : Function) → refines t widened g → refines t f g
    refines-widened g r = subst (λ x. Refines x (meaning_of t g)) meaning-stays r
