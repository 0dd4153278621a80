-- Instructions that are alike in both functions, before and behind the copies into incoming registers.
use Rattle.std.proofs.Common.{◌≡◌, ◌⊎◌, inl, inr, ◌∷◌, ◌∙◌, ℕ, Bool, true, false, cond, List, Option, Some, None, map, refl, sym, ap, subst, []}
use Rattle.std.specs.Prelude.{option_map}
use Rattle.target_base.specs.declared.types.Effect.{Effect}
use Rattle.target_base.specs.declared.types.Effect.TheVariants as effects
use Rattle.target_base.specs.declared.types.Target.{Target}
use Rattle.target_base.specs.Roles.{is_silent}
use Rattle.meaning.specs.Code.{Counted, Item, Silent}
use Rattle.meaning.specs.Lanes.{Reads, Writes, settled, through}
use Rattle.meaning.specs.Relations.{AlikeFill, Rel, Within, after_both, after_first, after_second}
use Rattle.meaning.specs.Rows.{first_edges, first_target, second_edges, second_target}
use Rattle.meaning.specs.declared.types.Fill.{Fill}
use Rattle.meaning.specs.declared.types.Fill.TheVariants.{Computed, Moved}
use Rattle.meaning.specs.declared.types.Lane.TheVariants.{SlotLane, UnitLane, VirtualLane}
use Rattle.meaning.specs.declared.types.Rest.{Rest}
use Rattle.meaning.specs.declared.types.Source.{Source}
use Rattle.meaning.specs.declared.types.Source.TheVariants.{Bits, FromLane, Undef}
use Rattle.meaning.specs.declared.types.EdgePair.{EdgePair}
use Rattle.laws.proofs.Core.{Exits, Plan, Reaches}
use Rattle.mir_func.specs.declared.func.Instr.{Instr}
use Rattle.mir_func.specs.declared.func.Block.{Block}
use Rattle.mir_func.specs.Value.{Function}
use Rattle.mir_func.specs.Binding.{does, effect_of, is_early_clobber, is_terminator, passes, puts_together, roles_of}
use Rattle.mir_meaning.specs.Items.{counted_writes, rest_of, silent_reads, silent_writes, values}
use Rattle.mir_meaning.specs.Codes.{effect_item, item_of, target_of, way, ways_out}
use Rattle.lowering_laws.proofs.Classes.{none-among}
use Rattle.lowering_laws.proofs.Olds.{AllOld, ReadsOld, alike-operands, old_source, through-old}
use Rattle.lowering_laws.proofs.Same.{AreFixed, counted-alike, silent-alike}
use Rattle.lowering_laws.proofs.Stretches.{Stretch, both-counted, first-silent, joined, lessened, second-silent}
use Rattle.lowering_laws.proofs.Traced.{filled-free, is_written, traced, traced-bits, traced-undef}

-- an instruction by its item: silent or counted; a counted one names where it goes
pub record SilentPart (x y : Item) : Type 0 where
  pub reads : Reads
  pub writes : Writes
  pub one : x ≡ Silent reads writes
  pub other : y ≡ Silent reads writes

pub record CountedPart (t : Target) (h g : Function) (b c : Block) (i : Instr) (x y : Item) : Type 0 where
  pub rest : Rest
  pub reads : Reads
  pub writes : Writes
  pub apart : does puts_together t i ≡ false
  pub one : x ≡ Counted rest reads writes (option_map (way t h b.number) (target_of i.operands)) (cond (does is_terminator t i) (ways_out t h b) [])
  pub other : y ≡ Counted rest reads writes (option_map (way t g c.number) (target_of i.operands)) (cond (does is_terminator t i) (ways_out t g c) [])

not-together : (e : Effect) → is_silent e ≡ false → puts_together e ≡ false
not-together effects.RegSequence n = absurd (cc)
not-together effects.InsertSubreg n = absurd (cc)
not-together e n = refl

module _ (t : Target) (h g : Function) (classes : h.classes ≡ g.classes) (bare : (n m : ℕ) → (way t g n m).phis ≡ []) (b c : Block) (i : Instr) (fixed : AreFixed t h g classes i.operands) where
  abbrev as-counted : Function → Block → Effect → Item
  as-counted f d e = Counted (rest_of t f e i) (map (λ v. v.0) (values t f e i)) (counted_writes t f e i) (option_map (way t f d.number) (target_of i.operands)) (cond (is_terminator e) (ways_out t f d) [])

  as-part : (e : Effect) → effect_of t i ≡ Some e → is_silent e ≡ false → CountedPart t h g b c i (as-counted h b e) (as-counted g c e)
  as-part e q n = record {
    rest = rest_of t h e i;
    reads = map (λ v. v.0) (values t h e i);
    writes = counted_writes t h e i;
    apart = ap (passes puts_together) q ∙ not-together e n;
    one = λ k. Counted (rest_of t h e i) (map (λ v. v.0) (values t h e i)) (counted_writes t h e i) (option_map (way t h b.number) (target_of i.operands)) (cond (passes is_terminator (sym q k)) (ways_out t h b) []);
    other = λ k. Counted (same.0 k) (same.1 k) (same.2 k) (option_map (way t g c.number) (target_of i.operands)) (cond (passes is_terminator (sym q k)) (ways_out t g c) []);
  }
    where
      same : (rest_of t g e i ≡ rest_of t h e i) × (map (λ v. v.0) (values t g e i) ≡ map (λ v. v.0) (values t h e i)) × (counted_writes t g e i ≡ counted_writes t h e i)
      same = counted-alike t h g classes bare i fixed e q n

  abbrev Parts : Item → Item → Type 0
  Parts x y = SilentPart x y ⊎ CountedPart t h g b c i x y

  -- the item of an instruction is the same in a function with the same classes, but for the ways
  pub parts-of : Parts (item_of t h b i) (item_of t g c i)
  unfolding item_of
  parts-of = go (effect_of t i) refl
    where
      by : Function → Block → Option Effect → Item
      by f d q = elim q as (λ o. Item) [ None ↦ Silent [] [] | Some e ↦ effect_item t f d i e ]

      as-silent : Function → Effect → Item
      as-silent f e = Silent (silent_reads t f e i.operands) (silent_writes t f e (is_early_clobber (roles_of t i)) i.operands)

      kind : (e : Effect) → effect_of t i ≡ Some e → (y : Bool) → is_silent e ≡ y → Parts (cond y (as-silent h e) (as-counted h b e)) (cond y (as-silent g e) (as-counted g c e))
      kind e q true n =
          let same = silent-alike t h g classes bare i fixed e q n in
          inl (record { reads = silent_reads t h e i.operands; writes = silent_writes t h e (is_early_clobber (roles_of t i)) i.operands; one = refl; other = λ k. Silent (same.0 k) (same.1 k) })
      kind e q false n = inr (as-part e q n)

      go : (q : Option Effect) → effect_of t i ≡ q → Parts (by h b q) (by g c q)
      go None q = inl (record { reads = []; writes = []; one = refl; other = refl })
      go (Some e) q = kind e q (is_silent e) refl

  -- that of a terminator is counted
  pub counted-of : does is_terminator t i ≡ true → CountedPart t h g b c i (item_of t h b i) (item_of t g c i)
  unfolding item_of
  counted-of ends = go (effect_of t i) refl ends
    where
      counted : (e : Effect) → is_terminator e ≡ true → is_silent e ≡ false
      counted effects.Copy p = absurd (cc)
      counted effects.Phi p = absurd (cc)
      counted effects.ImplicitDef p = absurd (cc)
      counted effects.RegSequence p = absurd (cc)
      counted effects.InsertSubreg p = absurd (cc)
      counted effects.Const p = absurd (cc)
      counted effects.Addr p = absurd (cc)
      counted effects.Spill p = absurd (cc)
      counted effects.Reload p = absurd (cc)
      counted e p = refl

      go : (q : Option Effect) → effect_of t i ≡ q → passes is_terminator q ≡ true → CountedPart t h g b c i (elim q as (λ o. Item) [ None ↦ Silent [] [] | Some e ↦ effect_item t h b i e ]) (elim q as (λ o. Item) [ None ↦ Silent [] [] | Some e ↦ effect_item t g c i e ])
      go None q p = absurd (cc)
      go (Some e) q p =
          subst (λ y. CountedPart t h g b c i (cond y (Silent (silent_reads t h e i.operands) (silent_writes t h e (is_early_clobber (roles_of t i)) i.operands)) (as-counted h b e)) (cond y (Silent (silent_reads t g e i.operands) (silent_writes t g e (is_early_clobber (roles_of t i)) i.operands)) (as-counted g c e))) (sym (counted e p)) (as-part e q (counted e p))

-- a lane of a virtual register, or Undef
abbrev pub is_ranged : Source → Bool
is_ranged (FromLane (VirtualLane v k)) = true
is_ranged (FromLane (UnitLane u)) = false
is_ranged (FromLane (SlotLane s k w)) = false
is_ranged Undef = true
is_ranged (Bits c low width) = false

module _ (bound : ℕ) where
  -- old sources are as they are in the first
  abbrev pub Equal : Rel
  Equal s u = (old_source bound s ≡ true) × (u ≡ s)

  -- what is behind copies with these writes stood before them where the first has it
  abbrev pub Behind : List Writes → Rel
  Behind A s u = (old_source bound s ≡ true) × (traced A u ≡ s)

  -- the copies move lanes of virtual registers alone, and leave what is old
  pub record MovesRanges (A : List Writes) : Type 0 where
    pub units : (u : ℕ) → traced A (FromLane (UnitLane u)) ≡ FromLane (UnitLane u)
    pub slots : (s k w : ℕ) → traced A (FromLane (SlotLane s k w)) ≡ FromLane (SlotLane s k w)
    pub ranges : (v k : ℕ) → is_ranged (traced A (FromLane (VirtualLane v k))) ≡ true
    pub kept : (s : Source) → old_source bound s ≡ true → traced A s ≡ s

  alike-self : (x : Fill) → old_source bound (settled x) ≡ true → AlikeFill Equal x x
  alike-self (Moved s) o = (o, refl)
  alike-self (Computed i) o = refl

  pub equal-stays : (ws : Writes) → AllOld bound ws → Within Equal (after_both ws ws Equal)
  equal-stays ws o s u k = subst (λ z. AlikeFill Equal (through ws s) (through ws z)) (sym k.1) (alike-self (through ws s) (through-old bound ws o s k.0))

  module _ (A : List Writes) (moves : MovesRanges A) (ws : Writes) (o : AllOld bound ws) (free : (v k : ℕ) → is_written ws (VirtualLane v k) ≡ false) where
    alike-kept : (x : Fill) → old_source bound (settled x) ≡ true → AlikeFill (Behind A) x x
    alike-kept (Moved s) h = (h, moves.kept s h)
    alike-kept (Computed i) h = refl

    ranged-free : (s : Source) → is_ranged s ≡ true → through ws s ≡ Moved s
    ranged-free (FromLane (VirtualLane v k)) e = filled-free ws (VirtualLane v k) (free v k)
    ranged-free (FromLane (UnitLane u)) e = absurd (cc)
    ranged-free (FromLane (SlotLane s k w)) e = absurd (cc)
    ranged-free Undef e = refl
    ranged-free (Bits c low width) e = absurd (cc)

    -- the same on both sides
    level : (s u : Source) → old_source bound s ≡ true → traced A u ≡ s → traced A u ≡ u → AlikeFill (Behind A) (through ws s) (through ws u)
    level s u h e f =
        let same : u ≡ s = sym f ∙ e in
        subst (λ z. AlikeFill (Behind A) (through ws s) (through ws z)) (sym same) (alike-kept (through ws s) (through-old bound ws o s h))

    pub behind-stays : Within (Behind A) (after_both ws ws (Behind A))
    behind-stays s Undef k = level s Undef k.0 k.1 (traced-undef A)
    behind-stays s (Bits c low width) k = level s (Bits c low width) k.0 k.1 (traced-bits A c low width)
    behind-stays s (FromLane (UnitLane u)) k = level s (FromLane (UnitLane u)) k.0 k.1 (moves.units u)
    behind-stays s (FromLane (SlotLane p j w)) k = level s (FromLane (SlotLane p j w)) k.0 k.1 (moves.slots p j w)
    behind-stays s (FromLane (VirtualLane v j)) k =
        let r : is_ranged s ≡ true = subst (λ z. is_ranged z ≡ true) k.1 (moves.ranges v j) in
        subst (λ x. AlikeFill (Behind A) x (through ws (FromLane (VirtualLane v j)))) (sym (ranged-free s r)) (subst (λ y. AlikeFill (Behind A) (Moved s) y) (sym (filled-free ws (VirtualLane v j) (free v j))) k)

  module _ (K : Plan) where
    pub both-silent : (reads reads' : Reads) (ws : Writes) → AllOld bound ws → Stretch K Equal Equal (Silent reads ws ∷ []) (Silent reads' ws ∷ [])
    both-silent reads reads' ws o =
        let T : Rel = after_second ws (after_first ws Equal) in
        lessened K Equal T Equal (Silent reads ws ∷ []) (Silent reads' ws ∷ []) (λ s u k. (through-old bound ws o s k.0, ap (λ z. settled (through ws z)) k.1))
        (joined K Equal (after_first ws Equal) T (Silent reads ws ∷ []) [] [] (Silent reads' ws ∷ []) (first-silent K Equal reads ws) (second-silent K (after_first ws Equal) reads' ws))

    pub both-plain : (r : Rest) (reads : Reads) (ws : Writes) → AllOld bound ws → ReadsOld bound reads → Stretch K Equal Equal (Counted r reads ws None [] ∷ []) (Counted r reads ws None [] ∷ [])
    both-plain r reads ws o q =
        let T : Rel = after_both ws ws Equal in
        lessened K Equal T Equal (Counted r reads ws None [] ∷ []) (Counted r reads ws None [] ∷ []) (equal-stays ws o)
        (both-counted K Equal r reads reads ws ws None [] (alike-operands bound Equal reads (λ s k. (k, refl)) q) tt (λ e m. absurd (none-among e m)))

    -- a terminator, whose ways lead to what holds there
    pub both-ending :
        (A : List Writes) (moves : MovesRanges A) (r : Rest) (reads : Reads) (ws : Writes) (target : Option EdgePair) (exits : List EdgePair) → AllOld bound ws → ((v k : ℕ) → is_written ws (VirtualLane v k) ≡ false) → ReadsOld bound reads →
        Reaches K target (after_both ws ws (Behind A)) → Exits K exits (after_both ws ws (Behind A)) →
        Stretch K (Behind A) (Behind A) (Counted r reads ws (first_target target) (first_edges exits) ∷ []) (Counted r reads ws (second_target target) (second_edges exits) ∷ [])
    both-ending A moves r reads ws target exits o free q to out =
        lessened K (Behind A) (after_both ws ws (Behind A)) (Behind A) (Counted r reads ws (first_target target) (first_edges exits) ∷ []) (Counted r reads ws (second_target target) (second_edges exits) ∷ []) (behind-stays A moves ws o free)
        (both-counted K (Behind A) r reads reads ws ws target exits (alike-operands bound (Behind A) reads (λ s h. (h, moves.kept s h)) q) to out)
