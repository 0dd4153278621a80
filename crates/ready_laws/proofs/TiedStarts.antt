-- What is live at the start of a block in two-address form was live there.
use Rattle.std.proofs.Common.{◌≡◌, ◌∷◌, ◌++◌, ◌∙◌, ◌&&◌, ◌||◌, ◌+◌, not, ℕ, Bool, true, false, cond, List, [], Option, Some, None, map, find, length, refl, sym, ap, subst, append_assoc}
use Rattle.std.specs.Prelude.{nat_eq, option_map}
use Rattle.std.specs.List.{list_all}
use Rattle.target_base.specs.declared.types.ClassId.{ClassId}
use Rattle.target_base.specs.declared.types.Effect.{Effect}
use Rattle.target_base.specs.declared.types.Effect.TheVariants as effects
use Rattle.target_base.specs.declared.types.Target.{Target}
use Rattle.target_base.specs.Rules.{is_phi}
use Rattle.target_base.proofs.Tests.{first_of_both, second_of_both}
use Rattle.meaning.specs.Code.{BlockEnd, BlockStart, Code, found}
use Rattle.meaning.specs.Lanes.{settled, through}
use Rattle.meaning.specs.Live.{Among, Live, here, there}
use Rattle.meaning.specs.Relations.{Within, along}
use Rattle.meaning.specs.Rows.{first_edges, first_of_rows, second_edges}
use Rattle.meaning.specs.declared.types.Lane.{Lane}
use Rattle.meaning.specs.declared.types.Lane.TheVariants.{SlotLane, UnitLane, VirtualLane}
use Rattle.laws.proofs.Flow.{none_among}
use Rattle.mir_func.specs.declared.func.Edge.{Edge as Successor}
use Rattle.mir_func.specs.declared.func.Instr.{Instr}
use Rattle.mir_func.specs.declared.func.Block.{Block}
use Rattle.mir_func.specs.Value.{Function}
use Rattle.mir_func.specs.Binding.{does, effect_of, is_lowered_away, passes, puts_together}
use Rattle.mir_meaning.specs.Registers.{is_reserved}
use Rattle.mir_meaning.specs.Codes.{block_end, blocks_code, code_of, fallen_into, instrs_of, item_of, way, ways_out}
use Rattle.mir_meaning.specs.Points.{has_no_phis, points_of}
use Rattle.mir_meaning.proofs.Points.{points_are_code}
use Rattle.phi_elim.specs.Numbered.{blocks_numbered, numbered}
use Rattle.phi_elim.specs.Phis.{all_instrs}
use Rattle.two_address.specs.Lowered.{blocks_lowered, classes_made, instr_classes, instr_lowered, instrs_lowered, next_range, ties_lowered}
use Rattle.live_laws.specs.Effects.Shaped.{AreClasses}
use Rattle.live_laws.proofs.Effects.Lists.{all-of}
use Rattle.lowering_laws.proofs.Alike.{Equal}
use Rattle.lowering_laws.proofs.Bare.{bare, bare-lowered}
use Rattle.lowering_laws.proofs.Blocks.{none-written}
use Rattle.lowering_laws.proofs.Chained.{both-ways, ends-ways, exits-within, first-ways, second-ways}
use Rattle.lowering_laws.proofs.Classes.{item-stays}
use Rattle.lowering_laws.proofs.Lowering.{NoPhis, map-append}
use Rattle.lowering_laws.proofs.LoweredForm.{none_lowered_away}
use Rattle.lowering_laws.proofs.Made.{Stands, all-stand, made-append, stands-left, stands-right}
use Rattle.lowering_laws.proofs.Olds.{is_old}
use Rattle.lowering_laws.proofs.Operands.{all-named}
use Rattle.lowering_laws.proofs.Placed.{numbered-items}
use Rattle.lowering_laws.proofs.Replaced.{AllStep, InstrsStep, K, bound, h, made}
use Rattle.lowering_laws.proofs.Ruled.{EachRules, all-rules, each-rules}
use Rattle.lowering_laws.proofs.Ties.{steps-all}
use Rattle.lowering_laws.proofs.Traced.{settled-none}
use Rattle.ready_laws.specs.LoweredStarts.{TiesKeepLive}
use Rattle.ready_laws.proofs.Calm.{instr-fine}
use Rattle.ready_laws.proofs.Lived.{AllBare, Fine, Laid, begins, ends, found-laid, goes, no_more, reader, was-live}

not-true : (b : Bool) → not b ≡ true → b ≡ false
not-true true e = absurd (cc)
not-true false e = refl

-- no phis

plain-list : (t : Target) (is : List Instr) → list_all (λ i. not (does is_phi t i)) is ≡ true → NoPhis t is
plain-list t [] e = tt
plain-list t (i ∷ is) e = (not-true (does is_phi t i) (first_of_both (not (does is_phi t i)) (list_all (λ i. not (does is_phi t i)) is) e), plain-list t is (second_of_both (not (does is_phi t i)) (list_all (λ i. not (does is_phi t i)) is) e))

pub plain-of : (t : Target) (bs : List Block) (m : ℕ) → has_no_phis t bs ≡ true → NoPhis t (instrs_of bs m)
plain-of t [] m e = tt
plain-of t (b ∷ bs) m e = go (nat_eq b.number m) (plain-of t bs m (second_of_both (list_all (λ i. not (does is_phi t i)) b.instrs) (has_no_phis t bs) e))
  where
    go : (y : Bool) → NoPhis t (instrs_of bs m) → NoPhis t (elim (cond y (Some b) (find (λ d. nat_eq d.number m) bs)) as (λ q. List Instr) [ None ↦ [] | Some d ↦ d.instrs ])
    go true k = plain-list t b.instrs (first_of_both (list_all (λ i. not (does is_phi t i)) b.instrs) (has_no_phis t bs) e)
    go false k = k

pub weaker : {X : Type 0} (p q : X → Bool) (xs : List X) → ((x : X) → p x ≡ true → q x ≡ true) → list_all p xs ≡ true → list_all q xs ≡ true
weaker p q [] h e = refl
weaker p q (x ∷ xs) h e = λ k. h x (first_of_both (p x) (list_all p xs) e) k && weaker p q xs h (second_of_both (p x) (list_all p xs) e) k

pub no-phi-either : (q : Option Effect) → not (passes is_lowered_away q) ≡ true → not (passes is_phi q) ≡ true
no-phi-either None e = e
no-phi-either (Some effects.Phi) e = absurd (cc)
no-phi-either (Some x) e = go (is_phi x) e
  where
    go : (y : Bool) → not (y || puts_together x) ≡ true → not y ≡ true
    go true e = absurd (cc)
    go false e = refl

pub reserved-old : (t : Target) (n : ℕ) (a : Lane) → is_reserved t a ≡ true → is_old n a ≡ true
reserved-old t n (VirtualLane v k) e = absurd (cc)
reserved-old t n (UnitLane u) e = refl
reserved-old t n (SlotLane s k w) e = refl

module _ (t : Target) (f : Function) (plain : has_no_phis t f.blocks ≡ true) (classes : AreClasses t f) (rules : EachRules t f) where
  abbrev H : Function
  H = h t f

  abbrev G : Function
  G = ties_lowered t f

  abbrev R : Lane → Bool
  R = is_reserved t

  abbrev olds : (a : Lane) → R a ≡ true → is_old (length f.classes) a ≡ true
  olds = reserved-old t (length f.classes)

  abbrev C : Code
  C = code_of t H

  abbrev D : Code
  D = code_of t G

  abbrev Side : Code → Code → Type 1
  Side p q = Laid R (length f.classes) olds C D p q

  abbrev StandsAt : ℕ → List (Option ClassId) → Type 0
  StandsAt c xs = Stands H.classes (bound t f) c xs

  bare' : (n m : ℕ) → (way t G n m).phis ≡ []
  bare' = bare-lowered t f plain

  -- instructions

  laid-instrs : (b : Block) → Among b f.blocks → (js : List Instr) (c : ℕ) (is : List Instr) → ((i : Instr) → Among i is → Among i b.instrs) → InstrsStep t f b c is → StandsAt c (classes_made t f.classes c is)
      → (p q : Code) → Side p q → Side (map (item_of t H b) is ++ p) (map (item_of t G (record b { instrs = js })) (instrs_lowered t f.classes c is) ++ q)
  laid-instrs b mb js c [] w z s p q d = d
  laid-instrs b mb js c (i ∷ is) w z s p q d =
      let c' : Block = record b { instrs = js } in
      let one = instr_lowered t f.classes c i in
      let rest = instrs_lowered t f.classes (next_range t f.classes c i) is in
      let xs = instr_classes t f.classes c i in
      let ys = classes_made t f.classes (next_range t f.classes c i) is in
      let no-phi = not-true (does is_phi t i) (all-of (λ x. not (does is_phi t x)) i b.instrs (w i here) (all-of (λ (y : Block). list_all (λ x. not (does is_phi t x)) y.instrs) b f.blocks mb plain)) in
      let x = z.0.keeps js in
      let on = laid-instrs b mb js (next_range t f.classes c i) is (λ y m. w y (there m)) z.1 (stands-right H.classes (bound t f) c xs ys s) p q d in
      let fine : Fine R (map (item_of t G c') one) = instr-fine t f G bare' classes i (rules b i mb (w i here)) no-phi c (stands-left H.classes (bound t f) c xs ys s) c' in
      let here' = goes x.rows (λ y o. x.leads (reader y ∷ []) ((((o, refl), tt), tt), tt, (λ e m. absurd (none_among e m)), tt)) (subst (Fine R) (sym x.second) fine) on in
      let first : Side (item_of t H b i ∷ (map (item_of t H b) is ++ p)) (map (item_of t G c') one ++ (map (item_of t G c') rest ++ q)) =
      subst (λ y. Side (y ++ (map (item_of t H b) is ++ p)) (map (item_of t G c') one ++ (map (item_of t G c') rest ++ q))) x.first (subst (λ y. Side (first_of_rows x.rows ++ (map (item_of t H b) is ++ p)) (y ++ (map (item_of t G c') rest ++ q))) x.second here') in
      subst (λ y. Side (item_of t H b i ∷ (map (item_of t H b) is ++ p)) y)
      (sym (append_assoc (map (item_of t G c') one) (map (item_of t G c') rest) q) ∙ ap (λ y. y ++ q) (sym (map-append (item_of t G c') one rest)))
      first

  -- ends of blocks

  along-equal : (n m : ℕ) → Within (Equal (length f.classes)) (along (both-ways t H G (K t f) n m) (Equal (length f.classes)))
  along-equal n m s u k =
      subst (λ ps. Equal (length f.classes) (settled (through ps s)) (settled (through (way t G n m).phis u))) (sym (bare t f plain n m))
      (subst (λ ps. Equal (length f.classes) (settled (through [] s)) (settled (through ps u))) (sym (bare' n m))
      (subst (λ q. Equal (length f.classes) q (settled (through [] u))) (sym (settled-none s)) (subst (Equal (length f.classes) s) (sym (settled-none u)) k)))

  all-bare : (n : ℕ) (ss : List Successor) → AllBare (second_edges (ends-ways t H G (K t f) n ss))
  all-bare n [] e m = absurd (none_among e m)
  all-bare n (s ∷ ss) e here = bare' n s.block
  all-bare n (s ∷ ss) e (there m) = all-bare n ss e m

  laid-end : (b : Block) (js : List Instr) (after after' : List Block) (p q : Code) → Side p q → Side (block_end t H b after ∷ p) (block_end t G (record b { instrs = js }) after' ∷ q)
  laid-end b js after after' p q d =
      let c' : Block = record b { instrs = js } in
      let falls = option_map (λ m. (way t H b.number m).phis) (fallen_into t b after) in
      let falls' = option_map (λ m. (way t G b.number m).phis) (fallen_into t c' after') in
      let x = ends falls falls' (ends-ways t H G (K t f) b.number b.successors) (exits-within t H G (K t f) b.number (Equal (length f.classes)) b.successors (λ s m. along-equal b.number s.block)) (all-bare b.number b.successors) d in
      subst (λ es. Side (BlockEnd falls es ∷ p) (BlockEnd falls' (ways_out t G c') ∷ q)) (first-ways t H G (K t f) b.number b.successors)
      (subst (λ es. Side (BlockEnd falls (first_edges (ends-ways t H G (K t f) b.number b.successors)) ∷ p) (BlockEnd falls' es ∷ q)) (second-ways t H G (K t f) b.number b.successors) x)

  -- blocks

  laid-blocks : (n c : ℕ) (bs : List Block) → ((b : Block) → Among b bs → Among b f.blocks) → AllStep t f c bs → StandsAt c (classes_made t f.classes c (all_instrs bs))
      → Side (blocks_code (item_of t H) t H bs) (blocks_code (item_of t G) t G (blocks_numbered n (blocks_lowered t f.classes c bs)))
  laid-blocks n c [] w z s = no_more
  laid-blocks n c (b ∷ bs) w z s =
      let L = instrs_lowered t f.classes c b.instrs in
      let c' : Block = record b { instrs = numbered n L } in
      let xs = classes_made t f.classes c b.instrs in
      let ys = classes_made t f.classes (c + length xs) (all_instrs bs) in
      let s' : StandsAt c (xs ++ ys) = subst (StandsAt c) (made-append t f.classes c b.instrs (all_instrs bs)) s in
      let after' = blocks_numbered (n + length L) (blocks_lowered t f.classes (c + length xs) bs) in
      let p = blocks_code (item_of t H) t H bs in
      let q = blocks_code (item_of t G) t G after' in
      let rest = laid-blocks (n + length L) (c + length xs) bs (λ y m. w y (there m)) z.1 (stands-right H.classes (bound t f) c xs ys s') in
      let body = laid-instrs b (w b here) (numbered n L) c b.instrs (λ i m. m) z.0 (stands-left H.classes (bound t f) c xs ys s') (block_end t H b bs ∷ p) (block_end t G c' after' ∷ q) (laid-end b (numbered n L) bs after' p q rest) in
      begins b.number (subst (λ y. Side (map (item_of t H b) b.instrs ++ (block_end t H b bs ∷ p)) (y ++ (block_end t G c' after' ∷ q))) (sym (numbered-items t G c' n L)) body)

  laid : Side C D
  unfolding code_of ties_lowered
  laid = laid-blocks 0 (bound t f) f.blocks (λ b m. m) (steps-all t f plain classes rules) (all-stand t f)

  -- further classes change no item

  bare-source : (n m : ℕ) → (way t f n m).phis ≡ []
  bare-source n m = none-written t f n (instrs_of f.blocks m) (plain-of t f.blocks m plain)

  way-same : (n m : ℕ) → way t H n m ≡ way t f n m
  way-same n m = let p = bare t f plain n m ∙ sym (bare-source n m) in λ k. record { block = m; phis = p k }

  items-same : (b : Block) (is : List Instr) → Among b f.blocks → ((i : Instr) → Among i is → Among i b.instrs) → map (item_of t H b) is ≡ map (item_of t f b) is
  items-same b [] mb w = refl
  items-same b (i ∷ is) mb w = λ k. item-stays t f (made t f) (all-named t f rules) b i (all-named t f rules b i mb (w i here)) k ∷ items-same b is mb (λ x m. w x (there m)) k

  end-same : (b : Block) (after : List Block) → block_end t H b after ≡ block_end t f b after
  end-same b after = λ k. BlockEnd (option_map (λ m. (way-same b.number m k).phis) (fallen_into t b after)) (map (λ (e : Successor). way-same b.number e.block k) b.successors)

  blocks-same : (bs : List Block) → ((b : Block) → Among b bs → Among b f.blocks) → blocks_code (item_of t H) t H bs ≡ blocks_code (item_of t f) t f bs
  blocks-same [] w = refl
  blocks-same (b ∷ bs) w = λ k. BlockStart b.number ∷ (items-same b b.instrs (w b here) (λ i m. m) k ++ (end-same b bs k ∷ blocks-same bs (λ d m. w d (there m)) k))

  code-same : code_of t H ≡ code_of t f
  unfolding code_of
  code-same = blocks-same f.blocks (λ b m. m)

  pub tied-live : has_no_phis t G.blocks ≡ true → (n : ℕ) (l : Lane) → Live R (points_of t G) (found n (points_of t G)) l → Live R (points_of t f) (found n (points_of t f)) l
  tied-live none n l live =
      subst (λ c. Live R c (found n c) l) (code-same ∙ sym (points_are_code t f plain))
      (was-live R (length f.classes) olds C D (λ m. found-laid R (length f.classes) olds C D m laid) n l (subst (λ c. Live R c (found n c) l) (points_are_code t G none) live))

pub ties-keep-live : TiesKeepLive
ties-keep-live t f shape classes plain n l live =
    let none : has_no_phis t (ties_lowered t f).blocks ≡ true =
    weaker (λ (b : Block). list_all (λ i. not (does is_lowered_away t i)) b.instrs) (λ (b : Block). list_all (λ i. not (does is_phi t i)) b.instrs) (ties_lowered t f).blocks
    (λ b. weaker (λ i. not (does is_lowered_away t i)) (λ i. not (does is_phi t i)) b.instrs (λ i. no-phi-either (effect_of t i))) (none_lowered_away t f shape plain) in
    tied-live t f plain classes (each-rules t f (all-rules t f shape)) none n l live
