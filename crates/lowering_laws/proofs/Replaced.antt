-- Lowering of ties keeps the meaning of a function without phis, where it does so of each instruction by itself.
use Rattle.std.proofs.Common.{◌≡◌, ◌∷◌, ◌++◌, ◌∙◌, ◌&&◌, ◌+◌, not, ℕ, Bool, cond, List, Option, Some, None, map, length, refl, sym, ap, subst, append_assoc, []}
use Rattle.std.specs.Prelude.{nat_eq}
use Rattle.target_base.specs.declared.types.ClassId.{ClassId}
use Rattle.target_base.specs.declared.types.Target.{Target}
use Rattle.target_base.specs.Numbers.{unit_number}
use Rattle.target_base.specs.Storage.{unit_width}
use Rattle.meaning.specs.Code.{start_state}
use Rattle.meaning.specs.Environment.{Environment}
use Rattle.meaning.specs.Lanes.{Writes, settled, through}
use Rattle.meaning.specs.Relations.{Within, along}
use Rattle.meaning.specs.State.{fetch}
use Rattle.meaning.specs.declared.types.Lane.TheVariants.{SlotLane, UnitLane, VirtualLane}
use Rattle.meaning.specs.declared.types.Source.{Source}
use Rattle.meaning.specs.declared.types.Source.TheVariants.{Bits, FromLane, Undef}
use Rattle.laws.proofs.Agreeing.{Agrees}
use Rattle.laws.proofs.Core.{Plan}
use Rattle.laws.proofs.Defined.{value-same}
use Rattle.mir_func.specs.declared.func.Instr.{Instr}
use Rattle.mir_func.specs.declared.func.Block.{Block}
use Rattle.mir_func.specs.Value.{Function}
use Rattle.mir_func.specs.Binding.{does, ends_control, is_terminator}
use Rattle.mir_meaning.specs.Codes.{ends_without_terminator, falls_through, first_number, given_of, is_given, item_of, refines, way}
use Rattle.phi_elim.specs.Numbered.{blocks_numbered, numbered}
use Rattle.phi_elim.specs.Phis.{all_instrs}
use Rattle.two_address.specs.Lowered.{blocks_lowered, classes_made, instr_lowered, instrs_lowered, next_range, ties_lowered}
use Rattle.lowering_laws.proofs.Alike.{Equal}
use Rattle.lowering_laws.proofs.Chained.{BlocksStep, Enters, blocks-refine, both-ways, done, more}
use Rattle.lowering_laws.proofs.Classes.{AllNamed, refines-widened, widened}
use Rattle.lowering_laws.proofs.Lowering.{map-append}
use Rattle.lowering_laws.proofs.Placed.{falls-last, last-append, last_lacks, numbered-items, open-last}
use Rattle.lowering_laws.proofs.Stretches.{Stretch, joined, nothing}
use Rattle.lowering_laws.proofs.Traced.{settled-none}

-- the last of these instructions ends control, and is a terminator, where i does and is
pub record EndsAlike (t : Target) (i : Instr) (js : List Instr) : Type 0 where
  pub front : List Instr
  pub last : Instr
  pub are : js ≡ front ++ last ∷ []
  pub control : does ends_control t last ≡ does ends_control t i
  pub terminator : does is_terminator t last ≡ does is_terminator t i

module _ (t : Target) (f : Function) where
  abbrev pub bound : ℕ
  bound = length f.classes

  abbrev pub made : List (Option ClassId)
  made = classes_made t f.classes bound (all_instrs f.blocks)

  -- the function with the classes of the registers that lowering needs
  abbrev pub h : Function
  h = widened t f made

  abbrev g : Function
  g = ties_lowered t f

  abbrev pub K : Plan
  K m = Equal bound

  -- what is asked of an instruction of block b, where the next new register has number c
  pub record InstrStep (b : Block) (c : ℕ) (i : Instr) : Type 0 where
    pub keeps : (js : List Instr) → Stretch K (Equal bound) (Equal bound) (item_of t h b i ∷ []) (map (item_of t g (record b { instrs = js })) (instr_lowered t f.classes c i))
    pub ends : EndsAlike t i (instr_lowered t f.classes c i)

  abbrev pub InstrsStep : Block → ℕ → List Instr → Type 0
  InstrsStep b c [] = Unit {0}
  InstrsStep b c (i ∷ is) = InstrStep b c i × InstrsStep b (next_range t f.classes c i) is

  abbrev pub AllStep : ℕ → List Block → Type 0
  AllStep c [] = Unit {0}
  AllStep c (b ∷ bs) = InstrsStep b c b.instrs × AllStep (c + length (classes_made t f.classes c b.instrs)) bs

  body : (b : Block) (js : List Instr) (c : ℕ) (is : List Instr) → InstrsStep b c is → Stretch K (Equal bound) (Equal bound) (map (item_of t h b) is) (map (item_of t g (record b { instrs = js })) (instrs_lowered t f.classes c is))
  body b js c [] s = nothing K (Equal bound)
  body b js c (i ∷ is) s =
      let c' : Block = record b { instrs = js } in
      let x = instr_lowered t f.classes c i in
      let rest = instrs_lowered t f.classes (next_range t f.classes c i) is in
      subst (λ q. Stretch K (Equal bound) (Equal bound) (map (item_of t h b) (i ∷ is)) q) (sym (map-append (item_of t g c') x rest))
      (joined K (Equal bound) (Equal bound) (Equal bound) (item_of t h b i ∷ []) (map (item_of t g c') x) (map (item_of t h b) is) (map (item_of t g c') rest) (s.0.keeps js) (body b js (next_range t f.classes c i) is s.1))

  -- the end of a block stays

  module _ (p : Instr → Bool) (same : (b : Block) (c : ℕ) (i : Instr) (s : InstrStep b c i) → p s.ends.last ≡ p i) where
    last-lowered : (b : Block) (c : ℕ) (is : List Instr) → InstrsStep b c is → last_lacks t p (instrs_lowered t f.classes c is) ≡ last_lacks t p is
    last-lowered b c [] s = refl
    last-lowered b c (i ∷ []) s =
        let e = s.0.ends in
        let c2 = next_range t f.classes c i in
        ap (λ js. last_lacks t p (js ++ [])) e.are
        ∙ (ap (last_lacks t p) (append_assoc e.front (e.last ∷ []) [])
        ∙ (last-append t p e.front e.last [] ∙ ap not (same b c i s.0)))
    last-lowered b c (i ∷ j ∷ is) s =
        let e = s.0.ends in
        let n = next_range t f.classes c i in
        let d = s.1.0.ends in
        let k = next_range t f.classes n j in
        let rest = instrs_lowered t f.classes k is in
        let behind = instr_lowered t f.classes n j ++ rest in
        ap (λ js. last_lacks t p (instr_lowered t f.classes c i ++ (js ++ rest))) d.are
        ∙ (ap (λ js. last_lacks t p (js ++ ((d.front ++ d.last ∷ []) ++ rest))) e.are
        ∙ (past d.front d.last rest e.front e.last
        ∙ (ap (λ js. last_lacks t p (js ++ rest)) (sym d.are) ∙ last-lowered b n (j ∷ is) s.1)))
      where
        nonempty : (xs : List Instr) (y : Instr) (rest front : List Instr) → last_lacks t p (front ++ ((xs ++ y ∷ []) ++ rest)) ≡ last_lacks t p ((xs ++ y ∷ []) ++ rest)
        nonempty [] y rest front = last-append t p front y rest
        nonempty (x ∷ xs) y rest front = last-append t p front x ((xs ++ y ∷ []) ++ rest)

        past : (xs : List Instr) (y : Instr) (rest front : List Instr) (x : Instr) → last_lacks t p ((front ++ x ∷ []) ++ ((xs ++ y ∷ []) ++ rest)) ≡ last_lacks t p ((xs ++ y ∷ []) ++ rest)
        past xs y rest front x = nonempty xs y rest (front ++ x ∷ [])

  numbered-lacks : (p : Instr → Bool) → ((n : ℕ) (i : Instr) → p (record i { id = n }) ≡ p i) → (n : ℕ) (is : List Instr) → last_lacks t p (numbered n is) ≡ last_lacks t p is
  numbered-lacks p id n [] = refl
  numbered-lacks p id n (i ∷ []) = ap not (id n i)
  numbered-lacks p id n (i ∷ j ∷ is) = numbered-lacks p id (n + 1) (j ∷ is)

  pub falls-on : (b : Block) (n c : ℕ) (is : List Instr) → InstrsStep b c is → falls_through t (numbered n (instrs_lowered t f.classes c is)) ≡ falls_through t is
  falls-on b n c is s =
      let js = instrs_lowered t f.classes c is in
      falls-last t (numbered n js)
      ∙ (numbered-lacks (does ends_control t) (λ m i. refl) n js ∙ (last-lowered (does ends_control t) (λ d e i x. x.ends.control) b c is s ∙ sym (falls-last t is)))

  pub open-on : (b : Block) (n c : ℕ) (is : List Instr) → InstrsStep b c is → ends_without_terminator t (numbered n (instrs_lowered t f.classes c is)) ≡ ends_without_terminator t is
  open-on b n c is s =
      let js = instrs_lowered t f.classes c is in
      open-last t (numbered n js)
      ∙ (numbered-lacks (does is_terminator t) (λ m i. refl) n js ∙ (last-lowered (does is_terminator t) (λ d e i x. x.ends.terminator) b c is s ∙ sym (open-last t is)))

  first-same : (n c : ℕ) (bs : List Block) → first_number (blocks_numbered n (blocks_lowered t f.classes c bs)) ≡ first_number bs
  first-same n c [] = refl
  first-same n c (b ∷ bs) = refl

  abbrev through-of : Writes → Source → Source
  through-of ws s = settled (through ws s)

  -- without phis all is equal along a way
  pub along-equal : (n m : ℕ) → (way t h n m).phis ≡ [] → (way t g n m).phis ≡ [] → Within (Equal bound) (along (both-ways t h g K n m) (Equal bound))
  along-equal n m e e' s u k =
      subst (λ ps. Equal bound (through-of ps s) (through-of (way t g n m).phis u)) (sym e)
      (subst (λ ps. Equal bound (through-of [] s) (through-of ps u)) (sym e')
      (subst (λ q. Equal bound q (through-of [] u)) (sym (settled-none s)) (subst (Equal bound s) (sym (settled-none u)) k)))

  module _ (bare : (n m : ℕ) → (way t h n m).phis ≡ []) (bare' : (n m : ℕ) → (way t g n m).phis ≡ []) where
    steps : (n c : ℕ) (bs : List Block) → AllStep c bs → BlocksStep t h g K bs (blocks_numbered n (blocks_lowered t f.classes c bs))
    steps n c [] z = done
    steps n c (b ∷ bs) z =
        more
        (record {
          number = refl;
          successors = refl;
          falls = λ k. cond (falls-on b n c b.instrs z.0 k && not (t.options.open_blocks && nat_eq (length b.successors) 0 && open-on b n c b.instrs z.0 k)) (first-same (n + length L) (c + length (classes_made t f.classes c b.instrs)) bs k) None;
          before_end = Equal bound;
          stretch = subst (λ q. Stretch K (Equal bound) (Equal bound) (map (item_of t h b) b.instrs) q) (sym (numbered-items t g (record b { instrs = numbered n L }) n L)) (body b (numbered n L) c b.instrs z.0);
          exits = λ s m. along-equal b.number s.block (bare b.number s.block) (bare' b.number s.block);
          below = λ m e. along-equal b.number m (bare b.number m) (bare' b.number m);
        })
        (steps (n + length L) (c + length (classes_made t f.classes c b.instrs)) bs z.1)
      where
        L : List Instr
        L = instrs_lowered t f.classes c b.instrs

    same-given : (u n c : ℕ) (bs : List Block) → is_given t (blocks_numbered n (blocks_lowered t f.classes c bs)) u ≡ is_given t bs u
    same-given u n c [] = refl
    same-given u n c (b ∷ bs) = refl

    given-same : (u : ℕ) → given_of t g u ≡ given_of t h u
    unfolding ties_lowered
    given-same u = ap (λ y. cond y (Some (unit_width t.units (unit_number u))) None) (same-given u 0 bound f.blocks)

    starts-same : (env : Environment) (s : Source) → fetch env (start_state env (given_of t h)) s ≡ fetch env (start_state env (given_of t g)) s
    starts-same env (FromLane (VirtualLane v k)) = refl
    starts-same env (FromLane (UnitLane u)) = λ k. start_state env (λ w. sym (given-same w) k) (UnitLane u)
    starts-same env (FromLane (SlotLane p j w)) = refl
    starts-same env Undef = refl
    starts-same env (Bits c low width) = refl

    agrees : (env : Environment) → Agrees env (Equal bound) (start_state env (given_of t h)) (start_state env (given_of t g))
    agrees env s u k = value-same (fetch env (start_state env (given_of t h)) s) (fetch env (start_state env (given_of t g)) u) (starts-same env s ∙ ap (fetch env (start_state env (given_of t g))) (sym k.1))

    enters : (bs : List Block) → Enters t h g K bs (Equal bound)
    enters [] = tt
    enters (b ∷ bs) = λ s u k. k

    -- where each instruction keeps the meaning, lowering does
    pub ties-by-steps : AllNamed f f.blocks → AllStep bound f.blocks → refines t f g
    unfolding ties_lowered
    ties-by-steps named z = refines-widened t f made named g (blocks-refine t h g K (steps 0 bound f.blocks z) (Equal bound) (enters f.blocks) agrees)
