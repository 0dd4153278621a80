-- Codes without phis on their ways.
use Rattle.std.proofs.Common.{◌≡◌, not, ◌&&◌, ◌++◌, ◌∷◌, ℕ, Bool, true, false, cond, List, [], Option, Some, None, map, refl, ap}
use Rattle.std.specs.Prelude.{find, nat_eq, option_map}
use Rattle.std.specs.List.{list_all}
use Rattle.target_base.specs.declared.types.Effect.{Effect}
use Rattle.target_base.specs.declared.types.Target.{Target}
use Rattle.target_base.specs.Roles.{is_silent}
use Rattle.target_base.specs.Rules.{is_phi}
use Rattle.meaning.specs.Code.{Code, Counted, Edge, Item, Silent}
use Rattle.meaning.specs.Layout.{NoPhis, NoPhisAlong, NoPhisBelow, NoPhisInto}
use Rattle.meaning.specs.Live.{Among as Member, here as first, there as later}
use Rattle.mir_func.specs.declared.func.Edge.{Edge as Successor}
use Rattle.mir_func.specs.declared.func.Instr.{Instr}
use Rattle.mir_func.specs.declared.func.Block.{Block}
use Rattle.mir_func.specs.Value.{Function}
use Rattle.mir_func.specs.Binding.{does, effect_of, is_early_clobber, is_terminator, roles_of}
use Rattle.mir_meaning.specs.Items.{counted_writes, rest_of, silent_reads, silent_writes, values}
use Rattle.mir_meaning.specs.Codes.{block_end, blocks_code, effect_item, fallen_into, instrs_of, item_of, phi_operands, phis_written, target_of, way, ways_out}
use Rattle.mir_meaning.specs.Points.{has_no_phis}
use Rattle.mir_meaning.proofs.Points.{both}

abbrev pub bare : ℕ → Edge
bare m = record { block = m; phis = [] }

each : {X : Type 0} (p : X → Bool) (xs : List X) → ((x : X) → Member x xs → p x ≡ true) → list_all p xs ≡ true
each p [] g = refl
each p (x ∷ xs) g = λ k. g x first k && each p xs (λ y m. g y (later m)) k

module _ (t : Target) where
  quiet-phis : (q : Function) (n : ℕ) (is : List Instr) → list_all (λ i. not (does is_phi t i)) is ≡ true → phis_written t q n is ≡ []
  quiet-phis q n [] e = refl
  quiet-phis q n (i ∷ is) e = go (does is_phi t i) e (quiet-phis q n is)
    where
      go : (b : Bool) → (not b && list_all (λ i. not (does is_phi t i)) is) ≡ true → (list_all (λ i. not (does is_phi t i)) is ≡ true → phis_written t q n is ≡ []) → phis_written t q n is ++ cond b (phi_operands t q n i.operands) [] ≡ []
      go true k ih = absurd (cc)
      go false k ih = ap (λ ws. ws ++ []) (ih k)

  found-without-phis : (bs : List Block) (m : ℕ) → has_no_phis t bs ≡ true → list_all (λ i. not (does is_phi t i)) (instrs_of bs m) ≡ true
  found-without-phis [] m e = refl
  found-without-phis (b ∷ bs) m e = let h = both (list_all (λ i. not (does is_phi t i)) b.instrs) (has_no_phis t bs) e in go (nat_eq b.number m) h.0 (found-without-phis bs m h.1)
    where
      go : (c : Bool) → list_all (λ i. not (does is_phi t i)) b.instrs ≡ true → list_all (λ i. not (does is_phi t i)) (instrs_of bs m) ≡ true → list_all (λ i. not (does is_phi t i)) (elim (cond c (Some b) (find (λ d. nat_eq d.number m) bs)) as (λ q. List Instr) [ None ↦ [] | Some d ↦ d.instrs ]) ≡ true
      go true x y = x
      go false x y = y

  pub way-bare : (q : Function) → has_no_phis t q.blocks ≡ true → (n m : ℕ) → way t q n m ≡ bare m
  way-bare q none n m = ap (λ ws. record { block = m; phis = ws }) (quiet-phis q n (instrs_of q.blocks m) (found-without-phis q.blocks m none))

  pub all-without-phis : (bs : List Block) → ((b : Block) (i : Instr) → Member b bs → Member i b.instrs → does is_phi t i ≡ false) → has_no_phis t bs ≡ true
  all-without-phis bs h = each (λ (b : Block). list_all (λ i. not (does is_phi t i)) b.instrs) bs (λ b mb. each (λ i. not (does is_phi t i)) b.instrs (λ i mi. ap not (h b i mb mi)))

  module _ (f : Function) (none : has_no_phis t f.blocks ≡ true) where
    bare-ways : (n : ℕ) (es : List Successor) → NoPhisAlong (map (λ e. way t f n e.block) es)
    bare-ways n [] = tt
    bare-ways n (e ∷ es) = (ap (λ (w : Edge). w.phis) (way-bare f none n e.block), bare-ways n es)

    bare-into : (n : ℕ) (o : Option ℕ) → NoPhisInto (option_map (way t f n) o)
    bare-into n None = tt
    bare-into n (Some m) = ap (λ (w : Edge). w.phis) (way-bare f none n m)

    bare-below : (n : ℕ) (o : Option ℕ) → NoPhisBelow (option_map (λ m. (way t f n m).phis) o)
    bare-below n None = tt
    bare-below n (Some m) = ap (λ (w : Edge). w.phis) (way-bare f none n m)

    bare-item : (b : Block) (i : Instr) (p : Code) → NoPhis p → NoPhis (item_of t f b i ∷ p)
    unfolding item_of
    bare-item b i p h = go (effect_of t i)
      where
        outs : (d : Bool) → NoPhisAlong (cond d (ways_out t f b) [])
        outs true = bare-ways b.number b.successors
        outs false = tt

        by : (e : Effect) (s : Bool) → NoPhis (cond s (Silent (silent_reads t f e i.operands) (silent_writes t f e (is_early_clobber (roles_of t i)) i.operands)) (Counted (rest_of t f e i) (map (λ x. x.0) (values t f e i)) (counted_writes t f e i) (option_map (way t f b.number) (target_of i.operands)) (cond (is_terminator e) (ways_out t f b) [])) ∷ p)
        by e true = h
        by e false = (bare-into b.number (target_of i.operands), outs (is_terminator e), h)

        go : (q : Option Effect) → NoPhis (elim q as (λ o. Item) [ None ↦ Silent [] [] | Some e ↦ effect_item t f b i e ] ∷ p)
        go None = h
        go (Some e) = by e (is_silent e)

    bare-items : (b : Block) (is : List Instr) (p : Code) → NoPhis p → NoPhis (map (item_of t f b) is ++ p)
    bare-items b [] p h = h
    bare-items b (i ∷ is) p h = bare-item b i (map (item_of t f b) is ++ p) (bare-items b is p h)

    pub bare-blocks : (bs : List Block) → NoPhis (blocks_code (item_of t f) t f bs)
    bare-blocks [] = tt
    bare-blocks (b ∷ bs) = bare-items b b.instrs (block_end t f b bs ∷ blocks_code (item_of t f) t f bs) (bare-below b.number (fallen_into t b bs), bare-ways b.number b.successors, bare-blocks bs)
