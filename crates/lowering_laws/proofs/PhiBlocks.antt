-- Phi elimination keeps the rules on blocks.
use Rattle.std.proofs.Common.{◌≡◌, ◌&&◌, ◌++◌, ◌+◌, ◌∙◌, ℕ, Bool, true, false, cond, List, [], ◌∷◌, Option, Some, None, filter, flat_map, length, refl, sym, ap, subst}
use Rattle.std.specs.Prelude.{slice_get, ◌==◌}
use Rattle.std.specs.List.{list_all}
use Rattle.target_base.specs.declared.types.Effect.{Effect}
use Rattle.target_base.specs.declared.types.Effect.TheVariants as effects
use Rattle.target_base.specs.declared.types.OpaqueKind.TheVariants as kinds
use Rattle.target_base.specs.declared.types.Target.{Target}
use Rattle.target_base.specs.Rules.{is_phi}
use Rattle.meaning.specs.Live.{Among, here, there}
use Rattle.mir_func.specs.declared.func.Op.TheVariants as ops
use Rattle.mir_func.specs.declared.func.Operand.{Operand}
use Rattle.mir_func.specs.declared.func.Instr.{Instr}
use Rattle.mir_func.specs.declared.func.Block.{Block}
use Rattle.mir_func.specs.Value.{Function}
use Rattle.mir_func.specs.Binding.{does, effect_of, is_branch, is_terminator, passes}
use Rattle.mir_meaning.specs.Rules.{block_of, branch_targets, named_blocks}
use Rattle.phi_elim.specs.declared.arrivals.Arrival.{Arrival}
use Rattle.phi_elim.specs.Moves.{copy_of, copy_op, source_of, undefining, whole_definition}
use Rattle.phi_elim.specs.Numbered.{blocks_numbered, numbered}
use Rattle.phi_elim.specs.Phis.{all_in_place, arriving, arriving_at, before_terminators, from_incoming, in_place, lowered_blocks, phi_count, phi_number, phis_lowered}
use Rattle.instr_effects.proofs.Members.{either-elim, left-in, map-of, member-none, right-in}
use Rattle.live_laws.proofs.Effects.Blocks.{member-slice}
use Rattle.lowering_laws.specs.Blocks.{KeepsBlockRules, PhisKeepBlockRules}
use Rattle.lowering_laws.proofs.BlockRules.{AllBecome, Carries, ends, ordered, rules-carried}
use Rattle.lowering_laws.proofs.Lowering.{arrs}
use Rattle.lowering_laws.proofs.Placed.{arriving-goes-on, before-set, copy-goes-on, falls-same, open-same, phi-goes-on, set_before}
use Rattle.lowering_laws.proofs.Ruled.{AllRules, all-rules}

-- what isn't a terminator is no branch
pub goes-by : (t : Target) (i : Instr) → does is_terminator t i ≡ false → does is_branch t i ≡ false
goes-by t i h = go (effect_of t i) h
  where
    by : (e : Effect) → is_terminator e ≡ false → is_branch e ≡ false
    by effects.Jump h = h
    by effects.Jcc h = h
    by effects.Jnz h = h
    by (effects.Opaque kinds.Branch) h = h
    by e h = refl

    go : (q : Option Effect) → passes is_terminator q ≡ false → passes is_branch q ≡ false
    go None h = refl
    go (Some e) h = by e h

module _ (t : Target) where
  -- instructions by their places: what is asked of a list changed one by one

  pub targets-step : (x y : Instr) (xs ys : List Instr) → does is_branch t x ≡ does is_branch t y → (does is_branch t y ≡ true → named_blocks x ≡ named_blocks y) → branch_targets t xs ≡ branch_targets t ys → branch_targets t (x ∷ xs) ≡ branch_targets t (y ∷ ys)
  targets-step x y xs ys e n h = ap (λ b. flat_map named_blocks (cond b (x ∷ filter (does is_branch t) xs) (filter (does is_branch t) xs))) e ∙ go (does is_branch t y) n
    where
      go : (b : Bool) → (b ≡ true → named_blocks x ≡ named_blocks y) → flat_map named_blocks (cond b (x ∷ filter (does is_branch t) xs) (filter (does is_branch t) xs)) ≡ flat_map named_blocks (cond b (y ∷ filter (does is_branch t) ys) (filter (does is_branch t) ys))
      go true n = λ k. n refl k ++ h k
      go false n = h

  pub targets-past : (x : Instr) (xs : List Instr) → does is_branch t x ≡ false → branch_targets t (x ∷ xs) ≡ branch_targets t xs
  targets-past x xs e = ap (λ b. flat_map named_blocks (cond b (x ∷ filter (does is_branch t) xs) (filter (does is_branch t) xs))) e

  -- ids count for nothing

  pub numbered-targets : (n : ℕ) (is : List Instr) → branch_targets t (numbered n is) ≡ branch_targets t is
  numbered-targets n [] = refl
  numbered-targets n (i ∷ is) = targets-step (record i { id = n }) i (numbered (n + 1) is) is refl (λ e. refl) (numbered-targets (n + 1) is)

  pub numbered-names : (n : ℕ) (is : List Instr) → flat_map named_blocks (numbered n is) ≡ flat_map named_blocks is
  numbered-names n [] = refl
  numbered-names n (i ∷ is) = ap (λ ns. named_blocks i ++ ns) (numbered-names (n + 1) is)

  numbered-ends : (n : ℕ) (is : List Instr) → list_all (ends t) (numbered n is) ≡ list_all (ends t) is
  numbered-ends n [] = refl
  numbered-ends n (i ∷ is) = ap (λ b. ends t i && b) (numbered-ends (n + 1) is)

  pub numbered-order : (n : ℕ) (is : List Instr) → ordered t (numbered n is) ≡ ordered t is
  numbered-order n [] = refl
  numbered-order n (i ∷ is) = λ k. cond (ends t i) (numbered-ends (n + 1) is k) (numbered-order (n + 1) is k)

  -- instructions in their places

  module _ (c : ℕ) (i : Instr) where
    abbrev copy : Instr
    copy = record i { op = ops.Known copy_op; operands = from_incoming c i.operands }

    place-ends : ends t (in_place t c i) ≡ ends t i
    place-ends = go (does is_phi t i) refl
      where
        go : (b : Bool) → does is_phi t i ≡ b → ends t (cond b copy i) ≡ ends t i
        go true e = copy-goes-on t copy refl ∙ sym (phi-goes-on t i e)
        go false e = refl

    place-branches : does is_branch t (in_place t c i) ≡ does is_branch t i
    place-branches = go (does is_phi t i) refl
      where
        go : (b : Bool) → does is_phi t i ≡ b → does is_branch t (cond b copy i) ≡ does is_branch t i
        go true e = goes-by t copy (copy-goes-on t copy refl) ∙ sym (goes-by t i (phi-goes-on t i e))
        go false e = refl

    place-named : does is_branch t i ≡ true → named_blocks (in_place t c i) ≡ named_blocks i
    place-named h = go (does is_phi t i) refl
      where
        go : (b : Bool) → does is_phi t i ≡ b → named_blocks (cond b copy i) ≡ named_blocks i
        go true e = absurd (let n : does is_branch t i ≡ false = goes-by t i (phi-goes-on t i e) in cc)
        go false e = refl

    place-names : (n : ℕ) → Among n (named_blocks (in_place t c i)) → Among n (named_blocks i)
    place-names n = go (does is_phi t i)
      where
        by : (os : List Operand) → Among n (flat_map block_of (from_incoming c os)) → Among n (flat_map block_of os)
        by [] m = m
        by (d ∷ os) m = left-in n (block_of d) (flat_map block_of os) (either-elim n (block_of d) [] (λ k. k) (λ k. absurd (member-none n k)) m)

        go : (b : Bool) → Among n (named_blocks (cond b copy i)) → Among n (named_blocks i)
        go true m = by i.operands m
        go false m = m

  placed-targets : (c : ℕ) (is : List Instr) → branch_targets t (all_in_place t c is) ≡ branch_targets t is
  placed-targets c [] = refl
  placed-targets c (i ∷ is) = targets-step (in_place t c i) i (all_in_place t (c + phi_number t i) is) is (place-branches c i) (place-named c i) (placed-targets (c + phi_number t i) is)

  placed-names : (n c : ℕ) (is : List Instr) → Among n (flat_map named_blocks (all_in_place t c is)) → Among n (flat_map named_blocks is)
  placed-names n c [] m = m
  placed-names n c (i ∷ is) m =
      either-elim n (named_blocks (in_place t c i)) (flat_map named_blocks (all_in_place t (c + phi_number t i) is))
      (λ k. left-in n (named_blocks i) (flat_map named_blocks is) (place-names c i n k))
      (λ k. right-in n (named_blocks i) (flat_map named_blocks is) (placed-names n (c + phi_number t i) is k)) m

  placed-ends : (c : ℕ) (is : List Instr) → list_all (ends t) (all_in_place t c is) ≡ list_all (ends t) is
  placed-ends c [] = refl
  placed-ends c (i ∷ is) = λ k. place-ends c i k && placed-ends (c + phi_number t i) is k

  placed-order : (c : ℕ) (is : List Instr) → ordered t (all_in_place t c is) ≡ ordered t is
  placed-order c [] = refl
  placed-order c (i ∷ is) = λ k. cond (place-ends c i k) (placed-ends (c + phi_number t i) is k) (placed-order (c + phi_number t i) is k)

  -- new instructions that are no terminators and name no block

  record IsNew (x : Instr) : Type 0 where
    pub goes-on : ends t x ≡ false
    pub names-none : named_blocks x ≡ []

  module _ (new : List Instr) (news : (x : Instr) → Among x new → IsNew x) where
    past-targets : (xs is : List Instr) → ((x : Instr) → Among x xs → IsNew x) → branch_targets t (xs ++ is) ≡ branch_targets t is
    past-targets [] is h = refl
    past-targets (x ∷ xs) is h = targets-past x (xs ++ is) (goes-by t x (h x here).goes-on) ∙ past-targets xs is (λ y m. h y (there m))

    past-order : (xs is : List Instr) → ((x : Instr) → Among x xs → IsNew x) → ordered t (xs ++ is) ≡ ordered t is
    past-order [] is h = refl
    past-order (x ∷ xs) is h = ap (λ b. cond b (list_all (ends t) (xs ++ is)) (ordered t (xs ++ is))) (h x here).goes-on ∙ past-order xs is (λ y m. h y (there m))

    past-names : (n : ℕ) (xs is : List Instr) → ((x : Instr) → Among x xs → IsNew x) → Among n (flat_map named_blocks (xs ++ is)) → Among n (flat_map named_blocks is)
    past-names n [] is h m = m
    past-names n (x ∷ xs) is h m = past-names n xs is (λ y k. h y (there k)) (subst (λ ns. Among n (ns ++ flat_map named_blocks (xs ++ is))) (h x here).names-none m)

    alone-targets : branch_targets t new ≡ []
    alone-targets = ap (branch_targets t) (sym (append-none new)) ∙ past-targets new [] news
      where
        append-none : (xs : List Instr) → xs ++ [] ≡ xs
        append-none [] = refl
        append-none (x ∷ xs) = ap (λ ys. x ∷ ys) (append-none xs)

    set-targets : (is : List Instr) → branch_targets t (set_before t new is) ≡ branch_targets t is
    set-targets [] = alone-targets
    set-targets (i ∷ is) = go (ends t i) (set-targets is)
      where
        go : (b : Bool) → branch_targets t (set_before t new is) ≡ branch_targets t is → branch_targets t (cond b (new ++ i ∷ is) (i ∷ set_before t new is)) ≡ branch_targets t (i ∷ is)
        go true ih = past-targets new (i ∷ is) news
        go false ih = targets-step i i (set_before t new is) is refl (λ e. refl) ih

    alone-order : (xs : List Instr) → ((x : Instr) → Among x xs → IsNew x) → ordered t xs ≡ true
    alone-order [] h = refl
    alone-order (x ∷ xs) h = ap (λ b. cond b (list_all (ends t) xs) (ordered t xs)) (h x here).goes-on ∙ alone-order xs (λ y m. h y (there m))

    set-order : (is : List Instr) → ordered t (set_before t new is) ≡ ordered t is
    set-order [] = alone-order new news
    set-order (i ∷ is) = go (ends t i) refl (set-order is)
      where
        go : (b : Bool) → ends t i ≡ b → ordered t (set_before t new is) ≡ ordered t is → ordered t (cond b (new ++ i ∷ is) (i ∷ set_before t new is)) ≡ ordered t (i ∷ is)
        go true e ih = past-order new (i ∷ is) news
        go false e ih = (λ k. cond (e k) (list_all (ends t) (set_before t new is)) (ordered t (set_before t new is))) ∙ (ih ∙ (λ k. cond (sym e k) (list_all (ends t) is) (ordered t is)))

    alone-names : (n : ℕ) (xs : List Instr) → ((x : Instr) → Among x xs → IsNew x) → Among n (flat_map named_blocks xs) → ⊥
    alone-names n [] h m = member-none n m
    alone-names n (x ∷ xs) h m = alone-names n xs (λ y k. h y (there k)) (subst (λ ns. Among n (ns ++ flat_map named_blocks xs)) (h x here).names-none m)

    set-names : (n : ℕ) (is : List Instr) → Among n (flat_map named_blocks (set_before t new is)) → Among n (flat_map named_blocks is)
    set-names n [] m = absurd (alone-names n new news m)
    set-names n (i ∷ is) m = go (ends t i) m (set-names n is)
      where
        go : (b : Bool) → Among n (flat_map named_blocks (cond b (new ++ i ∷ is) (i ∷ set_before t new is))) → (Among n (flat_map named_blocks (set_before t new is)) → Among n (flat_map named_blocks is)) → Among n (flat_map named_blocks (i ∷ is))
        go true k ih = past-names n new (i ∷ is) news k
        go false k ih =
            either-elim n (named_blocks i) (flat_map named_blocks (set_before t new is)) (λ j. left-in n (named_blocks i) (flat_map named_blocks is) j) (λ j. right-in n (named_blocks i) (flat_map named_blocks is) (ih j)) k

  -- copies that fill incoming registers are new so
  arriving-new : (a : Arrival) → IsNew (arriving a)
  arriving-new a = record { goes-on = arriving-goes-on t a; names-none = go a.from.undef }
    where
      go : (b : Bool) → named_blocks (cond b (undefining (whole_definition a.to)) (copy_of (whole_definition a.to) (source_of a.from))) ≡ []
      go true = refl
      go false = refl

  arrived-new : (list : List Arrival) (k : ℕ) (x : Instr) → Among x (arriving_at list k) → IsNew x
  arrived-new list k x m = let z = map-of arriving x (filter (λ (a : Arrival). a.block == k) list) m in subst IsNew (sym z.2) (arriving-new z.0)

  block-carries : (list : List Arrival) (k n c : ℕ) (is : List Instr) → Carries t is (numbered n (before_terminators t (arriving_at list k) (all_in_place t c is)))
  block-carries list k n c is =
      let new = arriving_at list k in
      let placed = all_in_place t c is in
      let news = arrived-new list k in
      subst (λ js. Carries t is (numbered n js)) (sym (before-set t new placed))
      (record {
        names = λ m q. placed-names m c is (set-names new news m placed (subst (Among m) (numbered-names n (set_before t new placed)) q));
        targets = numbered-targets n (set_before t new placed) ∙ (set-targets new news placed ∙ placed-targets c is);
        falls = falls-same t new (λ x m. (news x m).goes-on) n c is;
        opens = open-same t new (λ x m. (news x m).goes-on) n c is;
        order = λ e. numbered-order n (set_before t new placed) ∙ (set-order new news placed ∙ (placed-order c is ∙ e));
      })

  all-become : (list : List Arrival) (n k c : ℕ) (bs : List Block) → AllBecome t bs (blocks_numbered n (lowered_blocks t list k c bs))
  all-become list n k c [] = tt
  all-become list n k c (b ∷ bs) = (
    record { number = refl; successors = refl; instrs = block-carries list k n c b.instrs },
    all-become list (n + length (before_terminators t (arriving_at list k) (all_in_place t c b.instrs))) (k + 1) (c + phi_count t b.instrs) bs,
  )

module _ (t : Target) (f : Function) (rules : (n : ℕ) (b : Block) → slice_get f.blocks n ≡ Some b → AllRules t f n b) where
  pub source-rules : KeepsBlockRules t f
  source-rules = record {
    five = λ k b e. (rules k b e).block.five;
    eight = λ b j i m e. (let k = member-slice b f.blocks m in ((rules k.0 b k.1).instrs j i e).eight);
    nine = λ k b e. (rules k b e).block.nine;
  }

  phis-become : AllBecome t f.blocks (phis_lowered t f).blocks
  unfolding phis_lowered
  phis-become = all-become t (arrs t f) 0 0 (length f.classes) f.blocks

  pub phis-keep : KeepsBlockRules t (phis_lowered t f)
  phis-keep =
      rules-carried t f (phis_lowered t f) phis-become source-rules
      (λ b i mb mi. (let k = member-slice b f.blocks mb in let j = member-slice i b.instrs mi in ((rules k.0 b k.1).instrs j.0 i j.1).own.one))

pub phis_keep_block_rules : PhisKeepBlockRules
phis_keep_block_rules t f shape = phis-keep t f (all-rules t f shape)
