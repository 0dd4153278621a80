-- Lowering of ties keeps the rules on blocks.
use Rattle.std.proofs.Common.{◌≡◌, ◌⊎◌, inl, inr, not, ◌&&◌, ◌++◌, ◌+◌, ◌∙◌, ℕ, suc, Bool, true, false, cond, List, [], ◌∷◌, Option, Some, None, drop, flat_map, length, map, refl, sym, ap, subst}
use Rattle.std.specs.Prelude.{is_some}
use Rattle.std.specs.List.{list_all}
use Rattle.target_base.specs.declared.types.ClassId.{ClassId}
use Rattle.target_base.specs.declared.types.Effect.{Effect}
use Rattle.target_base.specs.declared.types.Effect.TheVariants as effects
use Rattle.target_base.specs.declared.types.Role.{Role}
use Rattle.target_base.specs.declared.types.Target.{Target}
use Rattle.target_base.specs.Rules.{is_copy}
use Rattle.target_base.proofs.Tests.{first_of_both, second_of_both}
use Rattle.meaning.specs.Live.{Among, here, there}
use Rattle.mir_func.specs.declared.func.Loc.{Loc}
use Rattle.mir_func.specs.declared.func.Loc.TheVariants.{Fixed, Virtual}
use Rattle.mir_func.specs.declared.func.Op.TheVariants as ops
use Rattle.mir_func.specs.declared.func.RegOp.{RegOp}
use Rattle.mir_func.specs.declared.func.Operand.{Operand}
use Rattle.mir_func.specs.declared.func.Operand.TheVariants as operands
use Rattle.mir_func.specs.declared.func.Instr.{Instr}
use Rattle.mir_func.specs.declared.func.Block.{Block}
use Rattle.mir_func.specs.Value.{Function}
use Rattle.mir_func.specs.Binding.{does, effect_of, explicit_bound, explicit_roles, is_branch, is_definition, is_lowered_away, is_terminator, numbered as with_numbers, passes, puts_together, roles_of, takes_many}
use Rattle.mir_meaning.specs.Points.{has_no_phis}
use Rattle.mir_meaning.specs.Rules.{block_of, branch_targets, named_blocks}
use Rattle.phi_elim.specs.Moves.{copy_of, destination_of, implicit_def_op, move_of, source_of, undefining, whole_definition, whole_use}
use Rattle.phi_elim.specs.Numbered.{blocks_numbered, numbered}
use Rattle.phi_elim.specs.Phis.{located_class, phis_lowered}
use Rattle.two_address.specs.Classes.{seated}
use Rattle.two_address.specs.Lowered.{blocks_lowered, classes_made, form_lowered, form_of, instr_lowered, instrs_lowered, lowered, next_range, ties_lowered}
use Rattle.two_address.specs.Sequences.{at_last, beginning, built, fill_all, into_part, is_input, keeping_text, parts_of}
use Rattle.two_address.specs.Ties.{copies, retied_operand, ties_among, ties_in, undefined_first, undefined_whole, with_operands}
use Rattle.two_address.specs.declared.forms.InstrLowering.{InstrLowering}
use Rattle.two_address.specs.declared.forms.InstrLowering.TheVariants as forms
use Rattle.two_address.specs.declared.sequences.SubregInput.{SubregInput}
use Rattle.two_address.specs.declared.ties.Move.{Move}
use Rattle.two_address.specs.declared.ties.Tie.{Tie}
use Rattle.instr_effects.proofs.Members.{either-elim, left-in, member-elim, member-none, right-in}
use Rattle.live_laws.specs.Effects.Shaped.{AreClasses}
use Rattle.live_laws.proofs.Effects.Lists.{all-of}
use Rattle.live_laws.proofs.Touch.Roles.{has_roles}
use Rattle.lowering_laws.specs.Blocks.{KeepsBlockRules, LoweredKeepBlockRules, LoweredOpcodes}
use Rattle.lowering_laws.specs.Form.{is_lowered}
use Rattle.lowering_laws.proofs.BlockRules.{AllBecome, ends, ordered, rules-carried}
use Rattle.lowering_laws.proofs.Blocks.{phis_are_gone}
use Rattle.lowering_laws.proofs.Eliminated.{eliminated-classes, eliminated-rules}
use Rattle.lowering_laws.proofs.Replaced.{AllStep, falls-on, open-on}
use Rattle.lowering_laws.proofs.LoweredForm.{kept, lowered_form}
use Rattle.lowering_laws.proofs.Operands.{known-effect}
use Rattle.lowering_laws.proofs.PhiBlocks.{goes-by, numbered-names, numbered-order, numbered-targets, phis-keep, targets-past, targets-step}
use Rattle.lowering_laws.proofs.Placed.{copy-effect, copy-goes-on, undef-effect}
use Rattle.lowering_laws.proofs.Plain.{other-form}
use Rattle.lowering_laws.proofs.Rolled.{terminator-plain, terminator-untied}
use Rattle.lowering_laws.proofs.Ruled.{EachRules, InstrRules, all-rules, each-rules}
use Rattle.lowering_laws.proofs.Ties.{steps-all}

not-true : (b : Bool) → not b ≡ true → b ≡ false
not-true true e = absurd (cc)
not-true false e = refl

module _ (t : Target) where
  undef-goes-on : (x : Instr) → x.op ≡ ops.Known implicit_def_op → ends t x ≡ false
  undef-goes-on x e = ap (passes is_terminator) (undef-effect t x e)

  -- what an instruction that is no terminator becomes: instructions that are none, and name no other blocks
  module _ (i : Instr) (goes : ends t i ≡ false) (knows : is_some (effect_of t i) ≡ true) where
    record Came (x : Instr) : Type 0 where
      pub goes-on : ends t x ≡ false
      pub known : is_some (effect_of t x) ≡ true
      pub names : (n : ℕ) → Among n (named_blocks x) → Among n (named_blocks i)

    abbrev AllCame : List Instr → Type 0
    AllCame [] = Unit {0}
    AllCame (x ∷ xs) = Came x × AllCame xs

    append-came : (xs ys : List Instr) → AllCame xs → AllCame ys → AllCame (xs ++ ys)
    append-came [] ys a b = b
    append-came (x ∷ xs) ys a b = (a.0, append-came xs ys a.1 b)

    flat-came : {A : Type 0} (g : A → List Instr) → ((x : A) → AllCame (g x)) → (xs : List A) → AllCame (flat_map g xs)
    flat-came g h [] = tt
    flat-came g h (x ∷ xs) = append-came (g x) (flat_map g xs) (h x) (flat-came g h xs)

    undefining-came : (to : RegOp) → Came (undefining to)
    undefining-came to = record { goes-on = undef-goes-on (undefining to) refl; known = ap is_some (undef-effect t (undefining to) refl); names = λ n m. absurd (member-none n m) }

    copy-came : (to from : RegOp) → Came (copy_of to from)
    copy-came to from = record { goes-on = copy-goes-on t (copy_of to from) refl; known = ap is_some (copy-effect t (copy_of to from) refl); names = λ n m. absurd (member-none n m) }

    move-came : (to from : RegOp) → Came (move_of to from)
    move-came to from = go from.undef
      where
        go : (y : Bool) → Came (cond y (undefining to) (copy_of to (source_of from)))
        go true = undefining-came to
        go false = copy-came to (source_of from)

    whole-came : (l : Loc) → AllCame (undefined_whole l)
    whole-came (Virtual v) = (undefining-came (whole_definition v), tt)
    whole-came (Fixed r) = tt

    first-came : (o : Operand) → AllCame (undefined_first o)
    first-came (operands.Reg p) = go (is_definition p && p.undef)
      where
        go : (y : Bool) → AllCame (cond y (undefined_whole p.loc) [])
        go true = whole-came p.loc
        go false = tt
    first-came o = tt

    parts-came : (to : ℕ) (ps : List SubregInput) → AllCame (map (into_part to) ps)
    parts-came to [] = tt
    parts-came to (p ∷ ps) = (move-came (record (whole_definition to) { index = Some p.index }) p.input, parts-came to ps)

    last-came : (c v : ℕ) (ps : List SubregInput) → AllCame (at_last c v ps)
    last-came c v ps = go (is_input (Virtual v) ps)
      where
        go : (y : Bool) → AllCame (cond y (copy_of (whole_definition v) (whole_use c) ∷ []) [])
        go true = (copy-came (whole_definition v) (whole_use c), tt)
        go false = tt

    begun-came : (k : Option ClassId) (to : ℕ) (ps : List SubregInput) → AllCame (beginning t k to ps)
    begun-came k to ps = go (fill_all t k ps)
      where
        go : (y : Bool) → AllCame (cond y [] (undefining (whole_definition to) ∷ []))
        go true = tt
        go false = (undefining-came (whole_definition to), tt)

    kept-came : (xs : List Instr) → AllCame xs → AllCame (keeping_text i xs)
    kept-came [] m = tt
    kept-came (x ∷ xs) m = (record { goes-on = m.0.goes-on; known = m.0.known; names = m.0.names }, m.1)

    copies-came : (m : Option Move) → AllCame (copies m)
    copies-came None = tt
    copies-came (Some m) = (copy-came m.to m.from, tt)

  -- operands behind the pass name the same blocks
  module _ (cs : List (Option ClassId)) (ties : List Tie) where
    retied-block : (n : ℕ) (r : Option Role) (o : Operand) → block_of (retied_operand t cs ties (n, (r, o))) ≡ block_of o
    retied-block n r (operands.Reg o) = refl
    retied-block n r o = refl

    retied-blocks : (n : ℕ) (rs : List Role) (os : List Operand) → flat_map block_of (map (retied_operand t cs ties) (with_numbers n (explicit_bound rs os))) ≡ flat_map block_of os
    retied-blocks n rs [] = refl
    retied-blocks n [] (o ∷ os) = λ k. retied-block n None o k ++ retied-blocks (suc n) [] os k
    retied-blocks n (r ∷ rs) (o ∷ os) = λ k. retied-block n (Some r) o k ++ retied-blocks (suc n) (cond (takes_many r) (r ∷ rs) rs) os k

    operands-named : (i : Instr) → named_blocks (with_operands t cs ties i) ≡ named_blocks i
    operands-named i = retied-blocks 0 (explicit_roles (roles_of t i)) i.operands

  module _ (cs : List (Option ClassId)) (i : Instr) where
    module _ (goes : ends t i ≡ false) (knows : is_some (effect_of t i) ≡ true) where
      form-came : (c : ℕ) (form : InstrLowering) → AllCame i goes knows (form_lowered t cs c i form)
      form-came c (forms.Copy d s) = (go s.undef, tt)
        where
          go : (y : Bool) → Came i goes knows (cond y (record i { op = ops.Known implicit_def_op; operands = operands.Reg (destination_of d) ∷ [] }) (record i { operands = operands.Reg (record d { undef = false }) ∷ operands.Reg s ∷ [] }))
          go true = record { goes-on = undef-goes-on (record i { op = ops.Known implicit_def_op; operands = operands.Reg (destination_of d) ∷ [] }) refl; known = ap is_some (undef-effect t (record i { op = ops.Known implicit_def_op; operands = operands.Reg (destination_of d) ∷ [] }) refl); names = λ n m. absurd (member-none n m) }
          go false = record { goes-on = goes; known = knows; names = λ n m. absurd (member-none n m) }
      form-came c (forms.Sequence v) =
          let ps = parts_of (drop 1 i.operands) in
          let to = built c v ps in
          let k = located_class cs (Virtual v) in
          kept-came i goes knows (beginning t k to ps ++ (map (into_part to) ps ++ at_last c v ps)) (append-came i goes knows (beginning t k to ps) (map (into_part to) ps ++ at_last c v ps) (begun-came i goes knows k to ps) (append-came i goes knows (map (into_part to) ps) (at_last c v ps) (parts-came i goes knows to ps) (last-came i goes knows c v ps)))
      form-came c (forms.Insertion v a p) =
          let to = built c v (p ∷ []) in
          kept-came i goes knows (move_of (whole_definition to) a ∷ into_part to p ∷ at_last c v (p ∷ [])) (move-came i goes knows (whole_definition to) a, (move-came i goes knows (record (whole_definition to) { index = Some p.index }) p.input, last-came i goes knows c v (p ∷ [])))
      form-came c forms.Other =
          let ties = ties_in t c i in
          append-came i goes knows (flat_map (λ (tie : Tie). copies tie.before) ties) (with_operands t cs ties i ∷ flat_map (λ (tie : Tie). copies tie.after) ties)
          (flat-came i goes knows (λ (tie : Tie). copies tie.before) (λ x. copies-came i goes knows x.before) ties)
          (record { goes-on = goes; known = knows; names = λ n m. subst (Among n) (operands-named cs ties i) m }, flat-came i goes knows (λ (tie : Tie). copies tie.after) (λ x. copies-came i goes knows x.after) ties)

      instr-came : (c : ℕ) → AllCame i goes knows (instr_lowered t cs c i)
      instr-came c = append-came i goes knows (flat_map undefined_first i.operands) (form_lowered t cs c i (form_of t i)) (flat-came i goes knows undefined_first (first-came i goes knows) i.operands) (form-came c (form_of t i))

    -- a terminator becomes one instruction, which branches as it does
    record Alone (xs : List Instr) : Type 0 where
      pub one : Instr
      pub known : is_some (effect_of t one) ≡ true
      pub are : xs ≡ one ∷ []
      pub ends-alike : ends t one ≡ ends t i
      pub branches-alike : does is_branch t one ≡ does is_branch t i
      pub named : named_blocks one ≡ named_blocks i

    module _ (f : Function) (r : InstrRules t f i) (e : Effect) (known : effect_of t i ≡ Some e) (stops : is_terminator e ≡ true) where
      kinds : (x : Effect) → is_terminator x ≡ true → (is_copy x ≡ false) × (puts_together x ≡ false) × (has_roles x ≡ true)
      kinds effects.Copy h = absurd (cc)
      kinds effects.Phi h = absurd (cc)
      kinds effects.ImplicitDef h = absurd (cc)
      kinds effects.RegSequence h = absurd (cc)
      kinds effects.InsertSubreg h = absurd (cc)
      kinds x h = (refl, refl, refl)

      none-first : (xs : List Operand) → ((x : Operand) → Among x xs → Among x i.operands) → flat_map undefined_first xs ≡ []
      none-first [] w = refl
      none-first (x ∷ xs) w = λ k. one x (w x here) k ++ none-first xs (λ y m. w y (there m)) k
        where
          one : (x : Operand) → Among x i.operands → undefined_first x ≡ []
          one (operands.Reg o) m = λ k. cond (terminator-plain t f i e known (kinds e stops).2 r.one stops o m k && o.undef) (undefined_whole o.loc) []
          one x m = refl

      alone : (c : ℕ) → Alone (instr_lowered t cs c i)
      alone c =
          let z = kinds e stops in
          let none : ties_in t c i ≡ [] = ap (ties_among (seated t i) c) (terminator-untied t f i e known z.2 r.one stops) in
          let form = other-form t i e known z.0 z.1 in
          record {
            one = with_operands t cs [] i;
            known = ap is_some known;
            are =
                (λ k. none-first i.operands (λ x m. m) k ++ form_lowered t cs c i (form k))
                ∙ (λ k. flat_map (λ (tie : Tie). copies tie.before) (none k) ++ (with_operands t cs (none k) i ∷ flat_map (λ (tie : Tie). copies tie.after) (none k)));
            ends-alike = refl;
            branches-alike = refl;
            named = operands-named cs [] i;
          }

    abbrev Lowers : List Instr → Type 0
    Lowers xs = ((goes : ends t i ≡ false) × (knows : is_some (effect_of t i) ≡ true) × AllCame i goes knows xs) ⊎ Alone xs

    lowers : (f : Function) (r : InstrRules t f i) (c : ℕ) → Lowers (instr_lowered t cs c i)
    lowers f r c = let e = known-effect t f i r in go e.0 e.1 (is_terminator e.0) refl
      where
        go : (e : Effect) → effect_of t i ≡ Some e → (b : Bool) → is_terminator e ≡ b → Lowers (instr_lowered t cs c i)
        go e q true h = inr (alone f r e q h c)
        go e q false h = let goes = ap (passes is_terminator) q ∙ h in let knows = ap is_some q in inl (goes, knows, instr-came goes knows c)

  -- instructions one after the other

  module _ (i : Instr) (goes : ends t i ≡ false) (knows : is_some (effect_of t i) ≡ true) where
    past-targets : (xs ys : List Instr) → AllCame i goes knows xs → branch_targets t (xs ++ ys) ≡ branch_targets t ys
    past-targets [] ys a = refl
    past-targets (x ∷ xs) ys a = targets-past t x (xs ++ ys) (goes-by t x a.0.goes-on) ∙ past-targets xs ys a.1

    past-order : (xs ys : List Instr) → AllCame i goes knows xs → ordered t (xs ++ ys) ≡ ordered t ys
    past-order [] ys a = refl
    past-order (x ∷ xs) ys a = ap (λ b. cond b (list_all (ends t) (xs ++ ys)) (ordered t (xs ++ ys))) a.0.goes-on ∙ past-order xs ys a.1

    past-names : (n : ℕ) (is : List Instr) (xs ys : List Instr) → AllCame i goes knows xs → (Among n (flat_map named_blocks ys) → Among n (flat_map named_blocks is)) → Among n (flat_map named_blocks (xs ++ ys)) → Among n (flat_map named_blocks (i ∷ is))
    past-names n is [] ys a h m = right-in n (named_blocks i) (flat_map named_blocks is) (h m)
    past-names n is (x ∷ xs) ys a h m =
        either-elim n (named_blocks x) (flat_map named_blocks (xs ++ ys))
        (λ k. left-in n (named_blocks i) (flat_map named_blocks is) (a.0.names n k))
        (λ k. past-names n is xs ys a.1 h k) m

  module _ (cs : List (Option ClassId)) where
    abbrev Low : ℕ → List Instr → List Instr
    Low c is = instrs_lowered t cs c is

    abbrev AllLower : ℕ → List Instr → Type 0
    AllLower c [] = Unit {0}
    AllLower c (i ∷ is) = Lowers cs i (instr_lowered t cs c i) × AllLower (next_range t cs c i) is

    targets-on : (c : ℕ) (is : List Instr) → AllLower c is → branch_targets t (Low c is) ≡ branch_targets t is
    targets-on c [] a = refl
    targets-on c (i ∷ is) a = go (instr_lowered t cs c i) a.0 (targets-on (next_range t cs c i) is a.1)
      where
        go : (xs : List Instr) → Lowers cs i xs → branch_targets t (Low (next_range t cs c i) is) ≡ branch_targets t is → branch_targets t (xs ++ Low (next_range t cs c i) is) ≡ branch_targets t (i ∷ is)
        go xs (inl z) ih = past-targets i z.0 z.1 xs (Low (next_range t cs c i) is) z.2 ∙ (ih ∙ sym (targets-past t i is (goes-by t i z.0)))
        go xs (inr z) ih = ap (λ ys. branch_targets t (ys ++ Low (next_range t cs c i) is)) z.are ∙ targets-step t z.one i (Low (next_range t cs c i) is) is z.branches-alike (λ e. z.named) ih

    names-on : (n c : ℕ) (is : List Instr) → AllLower c is → Among n (flat_map named_blocks (Low c is)) → Among n (flat_map named_blocks is)
    names-on n c [] a m = m
    names-on n c (i ∷ is) a m = go (instr_lowered t cs c i) a.0 (names-on n (next_range t cs c i) is a.1) m
      where
        go : (xs : List Instr) → Lowers cs i xs → (Among n (flat_map named_blocks (Low (next_range t cs c i) is)) → Among n (flat_map named_blocks is)) → Among n (flat_map named_blocks (xs ++ Low (next_range t cs c i) is)) → Among n (flat_map named_blocks (i ∷ is))
        go xs (inl z) ih k = past-names i z.0 z.1 n is xs (Low (next_range t cs c i) is) z.2 ih k
        go xs (inr z) ih k =
            either-elim n (named_blocks z.one) (flat_map named_blocks (Low (next_range t cs c i) is))
            (λ j. left-in n (named_blocks i) (flat_map named_blocks is) (subst (Among n) z.named j))
            (λ j. right-in n (named_blocks i) (flat_map named_blocks is) (ih j))
            (subst (λ ys. Among n (flat_map named_blocks (ys ++ Low (next_range t cs c i) is))) z.are k)

    known-on : (c : ℕ) (is : List Instr) → AllLower c is → (x : Instr) → Among x (Low c is) → is_some (effect_of t x) ≡ true
    known-on c [] a x m = absurd (member-none x m)
    known-on c (i ∷ is) a x m =
        either-elim x (instr_lowered t cs c i) (Low (next_range t cs c i) is) (λ k. go (instr_lowered t cs c i) a.0 k) (λ k. known-on (next_range t cs c i) is a.1 x k) m
      where
        among : (goes : ends t i ≡ false) (knows : is_some (effect_of t i) ≡ true) (xs : List Instr) → AllCame i goes knows xs → Among x xs → is_some (effect_of t x) ≡ true
        among goes knows [] a k = absurd (member-none x k)
        among goes knows (y ∷ xs) a k = member-elim x y xs (λ e. ap (λ z. is_some (effect_of t z)) e ∙ a.0.known) (λ j. among goes knows xs a.1 j) k

        go : (xs : List Instr) → Lowers cs i xs → Among x xs → is_some (effect_of t x) ≡ true
        go xs (inl z) k = among z.0 z.1 xs z.2 k
        go xs (inr z) k = member-elim x z.one [] (λ e. ap (λ w. is_some (effect_of t w)) e ∙ z.known) (λ j. absurd (member-none x j)) (subst (Among x) z.are k)

    ends-on : (c : ℕ) (is : List Instr) → AllLower c is → list_all (ends t) is ≡ true → list_all (ends t) (Low c is) ≡ true
    ends-on c [] a h = refl
    ends-on c (i ∷ is) a h = go (instr_lowered t cs c i) a.0 (first_of_both (ends t i) (list_all (ends t) is) h) (ends-on (next_range t cs c i) is a.1 (second_of_both (ends t i) (list_all (ends t) is) h))
      where
        go : (xs : List Instr) → Lowers cs i xs → ends t i ≡ true → list_all (ends t) (Low (next_range t cs c i) is) ≡ true → list_all (ends t) (xs ++ Low (next_range t cs c i) is) ≡ true
        go xs (inl z) e ih = absurd (let q : ends t i ≡ false = z.0 in cc)
        go xs (inr z) e ih = ap (λ ys. list_all (ends t) (ys ++ Low (next_range t cs c i) is)) z.are ∙ (λ k. (z.ends-alike ∙ e) k && ih k)

    order-on : (c : ℕ) (is : List Instr) → AllLower c is → ordered t is ≡ true → ordered t (Low c is) ≡ true
    order-on c [] a h = refl
    order-on c (i ∷ is) a h = go (instr_lowered t cs c i) a.0 (ends t i) refl h (ends-on (next_range t cs c i) is a.1) (order-on (next_range t cs c i) is a.1)
      where
        one-ends : (x : Instr) (b : Bool) → ends t x ≡ b → cond b (list_all (ends t) (Low (next_range t cs c i) is)) (ordered t (Low (next_range t cs c i) is)) ≡ true → ordered t (x ∷ Low (next_range t cs c i) is) ≡ true
        one-ends x b e h = ap (λ y. cond y (list_all (ends t) (Low (next_range t cs c i) is)) (ordered t (Low (next_range t cs c i) is))) e ∙ h

        go : (xs : List Instr) → Lowers cs i xs → (b : Bool) → ends t i ≡ b → cond b (list_all (ends t) is) (ordered t is) ≡ true
            → (list_all (ends t) is ≡ true → list_all (ends t) (Low (next_range t cs c i) is) ≡ true) → (ordered t is ≡ true → ordered t (Low (next_range t cs c i) is) ≡ true)
            → ordered t (xs ++ Low (next_range t cs c i) is) ≡ true
        go xs (inl z) true e q all more = absurd (let w : ends t i ≡ false = z.0 in cc)
        go xs (inl z) false e q all more = past-order i z.0 z.1 xs (Low (next_range t cs c i) is) z.2 ∙ more q
        go xs (inr z) true e q all more = ap (λ ys. ordered t (ys ++ Low (next_range t cs c i) is)) z.are ∙ one-ends z.one true (z.ends-alike ∙ e) (all q)
        go xs (inr z) false e q all more = ap (λ ys. ordered t (ys ++ Low (next_range t cs c i) is)) z.are ∙ one-ends z.one false (z.ends-alike ∙ e) (more q)

numbered-from : (n : ℕ) (is : List Instr) (x : Instr) → Among x (numbered n is) → (y : Instr) × Among y is × ((t : Target) → effect_of t x ≡ effect_of t y)
numbered-from n [] x m = absurd (member-none x m)
numbered-from n (i ∷ is) x m =
    member-elim x (record i { id = n }) (numbered (n + 1) is)
    (λ e. (i, here, λ t. ap (effect_of t) e))
    (λ k. let z = numbered-from (n + 1) is x k in (z.0, there z.1, z.2)) m

module _ (t : Target) (f : Function) (plain : has_no_phis t f.blocks ≡ true) (classes : AreClasses t f) (rules : EachRules t f) where
  all-lower : (b : Block) → Among b f.blocks → (c : ℕ) (is : List Instr) → ((i : Instr) → Among i is → Among i b.instrs) → AllLower t f.classes c is
  all-lower b mb c [] w = tt
  all-lower b mb c (i ∷ is) w = (lowers t f.classes i f (rules b i mb (w i here)) c, all-lower b mb (next_range t f.classes c i) is (λ x m. w x (there m)))

  become : (n c : ℕ) (bs : List Block) → ((b : Block) → Among b bs → Among b f.blocks) → AllStep t f c bs → AllBecome t bs (blocks_numbered n (blocks_lowered t f.classes c bs))
  become n c [] w s = tt
  become n c (b ∷ bs) w s =
      let L = instrs_lowered t f.classes c b.instrs in
      let a = all-lower b (w b here) c b.instrs (λ i m. m) in (
        record {
          number = refl;
          successors = refl;
          instrs = record {
            names = λ m q. names-on t f.classes m c b.instrs a (subst (Among m) (numbered-names t n L) q);
            targets = numbered-targets t n L ∙ targets-on t f.classes c b.instrs a;
            falls = falls-on t f b n c b.instrs s.0;
            opens = open-on t f b n c b.instrs s.0;
            order = λ e. numbered-order t n L ∙ order-on t f.classes c b.instrs a e;
          };
        },
        become (n + length L) (c + length (classes_made t f.classes c b.instrs)) bs (λ x m. w x (there m)) s.1,
      )

  ties-become : AllBecome t f.blocks (ties_lowered t f).blocks
  unfolding ties_lowered
  ties-become = become 0 (length f.classes) f.blocks (λ b m. m) (steps-all t f plain classes rules)

  known-blocks : (n c : ℕ) (bs : List Block) → ((b : Block) → Among b bs → Among b f.blocks) → (d : Block) (x : Instr) → Among d (blocks_numbered n (blocks_lowered t f.classes c bs)) → Among x d.instrs → is_some (effect_of t x) ≡ true
  known-blocks n c [] w d x md mx = absurd (member-none d md)
  known-blocks n c (b ∷ bs) w d x md mx =
      let L = instrs_lowered t f.classes c b.instrs in
      member-elim d (record b { instrs = numbered n L }) (blocks_numbered (n + length L) (blocks_lowered t f.classes (c + length (classes_made t f.classes c b.instrs)) bs))
      (λ e. let z = numbered-from n L x (subst (λ (q : Block). Among x q.instrs) e mx) in ap is_some (z.2 t) ∙ known-on t f.classes c b.instrs (all-lower b (w b here) c b.instrs (λ i m. m)) z.0 z.1)
      (λ k. known-blocks (n + length L) (c + length (classes_made t f.classes c b.instrs)) bs (λ y m. w y (there m)) d x k mx) md

  ties-known : (d : Block) (x : Instr) → Among d (ties_lowered t f).blocks → Among x d.instrs → is_some (effect_of t x) ≡ true
  unfolding ties_lowered
  ties-known d x md mx = known-blocks 0 (length f.classes) f.blocks (λ b m. m) d x md mx

  ties-keep : KeepsBlockRules t f → KeepsBlockRules t (ties_lowered t f)
  ties-keep old = rules-carried t f (ties_lowered t f) ties-become old (λ b i mb mi. (rules b i mb mi).one)

pub lowered_keep_block_rules : LoweredKeepBlockRules
lowered_keep_block_rules t f valid classes =
    let all = all-rules t f valid.shape in
    ties-keep t (phis_lowered t f) (phis_are_gone t f) (eliminated-classes t f classes) (eliminated-rules t f (each-rules t f all)) (phis-keep t f all)

-- each opcode is known, and none is lowered away

both-so : (t : Target) (x : Instr) → is_some (effect_of t x) ≡ true → not (does is_lowered_away t x) ≡ true → does (λ e. not (is_lowered_away e)) t x ≡ true
both-so t x h g = go (effect_of t x) h g
  where
    go : (q : Option Effect) → is_some q ≡ true → not (passes is_lowered_away q) ≡ true → passes (λ e. not (is_lowered_away e)) q ≡ true
    go None h g = absurd (cc)
    go (Some e) h g = g

pub lowered_opcodes : LoweredOpcodes
lowered_opcodes t f valid classes b i mb mi =
    let all = all-rules t f valid.shape in
    let form = all-of (is_lowered t) i b.instrs mi (all-of (λ (d : Block). list_all (is_lowered t) d.instrs) b (lowered t f).blocks mb (lowered_form t f valid)) in
    both-so t i
    (ties-known t (phis_lowered t f) (phis_are_gone t f) (eliminated-classes t f classes) (eliminated-rules t f (each-rules t f all)) b i mb mi)
    (kept t i form)
