-- Behind phi elimination each instruction keeps the rules on instructions, and classes are the target's.
use Rattle.std.proofs.Common.{◌≡◌, ◌⊎◌, inl, inr, ◌∷◌, ◌++◌, ◌∙◌, ◌&&◌, ◌||◌, ◌+◌, not, ℕ, Bool, true, false, cond, List, Option, Some, None, map, filter, length, drop, refl, sym, ap, subst, eq-eqb, arith, []}
use Rattle.std.specs.Prelude.{is_none, is_some, nat_eq, slice_get, ◌==◌}
use Rattle.std.proofs.lemmas.Bool.{ltb-true}
use Rattle.target_base.specs.declared.types.ClassId.{ClassId}
use Rattle.target_base.specs.declared.types.Effect.TheVariants as effects
use Rattle.target_base.specs.declared.types.Role.{Role}
use Rattle.target_base.specs.declared.types.Target.{Target}
use Rattle.target_base.specs.Registers.{IsClass, fits, widths_of_some}
use Rattle.target_base.specs.Rules.{is_phi}
use Rattle.target_base.specs.Storage.{same_numbers}
use Rattle.target_base.proofs.Tests.{first_of_both, second_of_both}
use Rattle.meaning.specs.Live.{Among, here, there}
use Rattle.mir_func.specs.declared.func.Loc.{Loc}
use Rattle.mir_func.specs.declared.func.Loc.TheVariants.{Fixed, Virtual}
use Rattle.mir_func.specs.declared.func.RegOp.{RegOp}
use Rattle.mir_func.specs.declared.func.Operand.{Operand}
use Rattle.mir_func.specs.declared.func.Operand.TheVariants as operands
use Rattle.mir_func.specs.declared.func.Op.TheVariants as ops
use Rattle.mir_func.specs.declared.func.Instr.{Instr}
use Rattle.mir_func.specs.declared.func.Block.{Block}
use Rattle.mir_func.specs.Value.{Function}
use Rattle.mir_func.specs.Edits.{block_place}
use Rattle.mir_func.specs.Binding.{bound as bound_operands, class_of, does, explicit_bound, explicit_operands, explicit_roles, implicit_bound, implicit_registers, implicit_roles, is_implicit_operand, is_terminator, is_virtual, passes, registers, roles_of, same_loc, ties_to}
use Rattle.mir_meaning.specs.Registers.{located_widths, operand_widths, range_widths}
use Rattle.mir_meaning.specs.Rules.{V11, flags_fit, has_class, has_lanes, index_fits, phi_pairs, same_widths}
use Rattle.phi_elim.specs.declared.arrivals.Arrival.{Arrival}
use Rattle.phi_elim.specs.Moves.{copy_of, copy_op, source_of, undefining, whole_definition, whole_use}
use Rattle.phi_elim.specs.Numbered.{blocks_numbered, numbered}
use Rattle.phi_elim.specs.Phis.{all_in_place, all_instrs, arrivals_in, arrivals_of, arriving, arriving_at, from_incoming, in_place, incoming_class, instr_arrivals, located_class, lowered_block, lowered_blocks, phi_count, phi_number, phis_lowered, result_class}
use Rattle.instr_effects.proofs.Members.{either-elim, filter-in, filter-of, flat-of, in-either, left-in, map-of, member-elim, member-none}
use Rattle.live_laws.specs.Effects.Shaped.{AreClasses}
use Rattle.live_laws.proofs.Effects.Blocks.{member-slice, slice-member}
use Rattle.live_laws.proofs.Effects.Lists.{all-of}
use Rattle.live_laws.proofs.Effects.Shapes.{index-there, lanes-there}
use Rattle.lowering_laws.proofs.Arrivals.{PhiAt, at-least-first, at-left, at-right, differ, eqb-sym, first, incoming-at, later}
use Rattle.lowering_laws.proofs.Classes.{class-stays, widths-stay}
use Rattle.lowering_laws.proofs.CopyRules.{IsPlain, copy-rules, or-true, undef-rules}
use Rattle.lowering_laws.proofs.Lowering.{arrs, bound, further, h}
use Rattle.lowering_laws.proofs.Olds.{class-old}
use Rattle.lowering_laws.proofs.Operands.{PhiShape, named, pair-virtual, phi-effect, phi-shape, shaped}
use Rattle.lowering_laws.proofs.Placed.{before-set, set_before}
use Rattle.lowering_laws.proofs.Rolled.{bare-roles}
use Rattle.lowering_laws.proofs.Ruled.{EachRules, InstrRules}
use Rattle.lowering_laws.proofs.RulesStay.{class-stays as has-class-still, index-stays, rules-stay}
use Rattle.lowering_laws.proofs.Seated.{bound-role, same-numbers, some-role}

abbrev with_id : ℕ → Instr → Instr
with_id k i = record i { id = k }

-- where an instruction behind phi elimination comes from

numbered-from : (n : ℕ) (is : List Instr) (i : Instr) → Among i (numbered n is) → (j : Instr) × Among j is × (k : ℕ) × (i ≡ record j { id = k })
numbered-from n [] i m = absurd (member-none i m)
numbered-from n (j ∷ is) i m = member-elim i (record j { id = n }) (numbered (n + 1) is) (λ e. (j, here, n, e)) (λ k. let z = numbered-from (n + 1) is i k in (z.0, there z.1, z.2, z.3)) m

block-from : (n : ℕ) (bs : List Block) (b : Block) → Among b (blocks_numbered n bs) → (d : Block) × Among d bs × (k : ℕ) × (b ≡ record d { instrs = numbered k d.instrs })
block-from n [] b m = absurd (member-none b m)
block-from n (d ∷ bs) b m = member-elim b (record d { instrs = numbered n d.instrs }) (blocks_numbered (n + length d.instrs) bs) (λ e. (d, here, n, e)) (λ k. let z = block-from (n + length d.instrs) bs b k in (z.0, there z.1, z.2, z.3)) m

module _ (t : Target) where
  -- new instructions, or those that stood there
  set-from : (new is : List Instr) (i : Instr) → Among i (set_before t new is) → Among i new ⊎ Among i is
  set-from new [] i m = inl m
  set-from new (j ∷ is) i m = go (does is_terminator t j) m (set-from new is i)
    where
      past : Among i new ⊎ Among i is → Among i new ⊎ Among i (j ∷ is)
      past (inl k) = inl k
      past (inr k) = inr (there k)

      go : (y : Bool) → Among i (cond y (new ++ j ∷ is) (j ∷ set_before t new is)) → (Among i (set_before t new is) → Among i new ⊎ Among i is) → Among i new ⊎ Among i (j ∷ is)
      go true k ih = in-either i new (j ∷ is) k
      go false k ih = member-elim i j (set_before t new is) (λ e. inr (subst (λ q. Among q (j ∷ is)) (sym e) here)) (λ l. past (ih l)) k

  placed-from : (c : ℕ) (is : List Instr) (i : Instr) → Among i (all_in_place t c is) → (p : Instr) × Among p is × (ci : ℕ) × PhiAt t ci p c is × (i ≡ in_place t ci p)
  placed-from c [] i m = absurd (member-none i m)
  placed-from c (p ∷ is) i m = member-elim i (in_place t c p) (all_in_place t (c + phi_number t p) is) (λ e. (p, here, c, first, e)) (λ k. let z = placed-from (c + phi_number t p) is i k in (z.0, there z.1, z.2, later z.3, z.4)) m

  arrival-from : (bs : List Block) (c : ℕ) (is : List Instr) (a : Arrival) → Among a (arrivals_in t bs c is) → (p : Instr) × Among p is × (ci : ℕ) × PhiAt t ci p c is × (does is_phi t p ≡ true) × Among a (arrivals_of bs ci (drop 1 p.operands))
  arrival-from bs c [] a m = absurd (member-none a m)
  arrival-from bs c (p ∷ is) a m =
      either-elim a (instr_arrivals t bs c p) (arrivals_in t bs (c + phi_number t p) is)
      (go (does is_phi t p) refl)
      (λ k. let z = arrival-from bs (c + phi_number t p) is a k in (z.0, there z.1, z.2, later z.3, z.4, z.5)) m
    where
      go : (y : Bool) → does is_phi t p ≡ y → Among a (cond y (arrivals_of bs c (drop 1 p.operands)) []) → (q : Instr) × Among q (p ∷ is) × (ci : ℕ) × PhiAt t ci q c (p ∷ is) × (does is_phi t q ≡ true) × Among a (arrivals_of bs ci (drop 1 q.operands))
      go true e k = (p, here, c, first, e, k)
      go false e k = absurd (member-none a k)

  block-placed :
      (new : List Arrival) (x c : ℕ) (bs : List Block) (b : Block) → Among b (lowered_blocks t new x c bs) →
      (d : Block) × Among d bs × (y : ℕ) × (k : ℕ) × (b ≡ lowered_block t new y k d) × ((ci : ℕ) (p : Instr) → PhiAt t ci p k d.instrs → PhiAt t ci p c (all_instrs bs))
  block-placed new x c [] b m = absurd (member-none b m)
  block-placed new x c (d ∷ bs) b m =
      member-elim b (lowered_block t new x c d) (lowered_blocks t new (x + 1) (c + phi_count t d.instrs) bs)
      (λ e. (d, here, x, c, e, λ ci p a. at-left t ci p (all_instrs bs) a))
      (λ k. let z = block-placed new (x + 1) (c + phi_count t d.instrs) bs b k in (z.0, there z.1, z.2, z.3, z.4, λ ci p a. at-right t ci p c d.instrs (all_instrs bs) (z.5 ci p a))) m

pair-from : (bs : List Block) (c : ℕ) (os : List Operand) (a : Arrival) → phi_pairs os ≡ true → Among a (arrivals_of bs c os) → (s : RegOp) × Among s (registers os) × (x : ℕ) × (a ≡ record { block = x; to = c; from = s })
pair-from bs c [] a p m = absurd (member-none a m)
pair-from bs c (operands.Reg s ∷ operands.Block n ∷ os) a p m =
    member-elim a (record { block = block_place n bs; to = c; from = s }) (arrivals_of bs c os)
    (λ e. (s, here, block_place n bs, e))
    (λ k. let z = pair-from bs c os a (second_of_both _ (phi_pairs os) p) k in (z.0, there z.1, z.2, z.3)) m
pair-from bs c os a p m = absurd (cc)

-- widths that are equal are the same

same-self : (ns : List ℕ) → same_numbers ns ns ≡ true
same-self [] = refl
same-self (n ∷ ns) = λ k. eq-eqb n n refl k && same-self ns k

same-wide : (t : Target) (f : Function) (a b : RegOp) → operand_widths t f a ≡ operand_widths t f b → same_widths t f a b ≡ true
same-wide t f a b e =
    let known = not (has_lanes t f a && has_lanes t f b) in
    (λ k. known || same_numbers (e k) (operand_widths t f b))
    ∙ (ap (λ y. known || y) (same-self (operand_widths t f b)) ∙ or-true known)

wide-same : (t : Target) (f : Function) (a b : RegOp) → has_lanes t f a ≡ true → has_lanes t f b ≡ true → same_widths t f a b ≡ true → operand_widths t f a ≡ operand_widths t f b
wide-same t f a b ha hb e = same-numbers (operand_widths t f a) (operand_widths t f b) (by (has_lanes t f a) (has_lanes t f b) ha hb e)
  where
    by : (x y : Bool) → x ≡ true → y ≡ true → (not (x && y) || same_numbers (operand_widths t f a) (operand_widths t f b)) ≡ true → same_numbers (operand_widths t f a) (operand_widths t f b) ≡ true
    by true true g k q = q
    by true false g k q = absurd (cc)
    by false y g k q = absurd (cc)

-- an operand that takes no role has no flag that asks for one
free-flags : (o : RegOp) → flags_fit (None, operands.Reg o) ≡ true → (o.early ≡ false) × (o.tie ≡ None)
free-flags o e = (not-or o.early (first_of_both (not o.early || false) (is_none o.tie || passes (λ n. passes (ties_to n) None) o.tie) e), none o.tie (second_of_both (not o.early || false) (is_none o.tie || passes (λ n. passes (ties_to n) None) o.tie) e))
  where
    not-or : (b : Bool) → (not b || false) ≡ true → b ≡ false
    not-or true h = absurd (cc)
    not-or false h = refl

    none : (q : Option ℕ) → (is_none q || passes (λ n. passes (ties_to n) None) q) ≡ true → q ≡ None
    none None h = refl
    none (Some n) h = absurd (cc)

module _ (t : Target) (f : Function) where
  abbrev H : Function
  H = h t f

  still : (v : ℕ) → is_some (class_of f v) ≡ true → class_of H v ≡ class_of f v
  still v e = class-stays t f (further t f) v e

  -- a phi, and the register that is numbered ci, its incoming one
  module _ (ci : ℕ) (p : Instr) (phi : does is_phi t p ≡ true) (r : InstrRules t f p) (stands : PhiAt t ci p (bound t f) (all_instrs f.blocks)) where
    abbrev z : PhiShape t f p.operands
    z = phi-shape t f p r phi

    d-there : Among z.d (registers p.operands)
    d-there = subst (λ os. Among z.d (registers os)) (sym z.are) here

    rest-there : (s : RegOp) → Among s (registers z.rest) → Among s (registers p.operands)
    rest-there s m = subst (λ os. Among s (registers os)) (sym z.are) (there m)

    class-d : has_class f z.d.loc ≡ true
    class-d = (named t f p r z.d d-there).class

    class-v : is_some (class_of f z.v) ≡ true
    class-v = ap (has_class f) (sym z.loc) ∙ class-d

    class-ci : class_of H ci ≡ class_of f z.v
    class-ci =
        ap (λ q. elim q as (λ q. Option ClassId) [ None ↦ None | Some y ↦ y ]) (incoming-at t ci p f.classes f.classes phi stands refl)
        ∙ (ap (result_class f.classes) z.are ∙ ap (located_class f.classes) z.loc)

    widths-d : operand_widths t f z.d ≡ range_widths t f z.v
    widths-d = λ k. located_widths t f (z.loc k) (z.index k)

    -- the incoming register is as wide as the phi's result
    widths-ci : range_widths t H ci ≡ operand_widths t f z.d
    widths-ci = ap (widths_of_some t) class-ci ∙ sym widths-d

    any-index : (q : Option ClassId) → elim q as (λ q. Bool) [ None ↦ true | Some c ↦ fits t c None ] ≡ true
    any-index None = refl
    any-index (Some c) = refl

    incoming-plain : (o : RegOp) → o.loc ≡ Virtual ci → o.index ≡ None → o.implicit ≡ false → o.early ≡ false → o.tie ≡ None → IsPlain t H o
    incoming-plain o loc index explicit early tie = record {
      virtual = ap is_virtual loc;
      class = ap (has_class H) loc ∙ (ap is_some class-ci ∙ class-v);
      index = (λ k. index_fits t H (loc k) (index k)) ∙ any-index (class_of H ci);
      explicit = explicit;
      early = early;
      tie = tie;
    }

    old : (v : ℕ) → is_some (class_of f v) ≡ true → nat_eq ci v ≡ false
    old v e =
        let low = ltb-true v (bound t f) (class-old f v e) in
        let high = at-least-first t ci p stands in
        differ v ci (omega arith)

    -- the flags of the result

    d-explicit : z.d.implicit ≡ false
    d-explicit = not-true z.d.implicit (second_of_both z.d.def (not z.d.implicit) z.is)
      where
        not-true : (b : Bool) → not b ≡ true → b ≡ false
        not-true true e = absurd (cc)
        not-true false e = refl

    d-operand : Among (operands.Reg z.d) p.operands
    d-operand = subst (λ os. Among (operands.Reg z.d) os) (sym z.are) here

    flags : flags_fit (None, operands.Reg z.d) ≡ true
    unfolding V11
    flags =
        let rs = explicit_roles (roles_of t p) in
        let os = explicit_operands p.operands in
        let w = some-role rs os (operands.Reg z.d) (filter-in (λ o. not (is_implicit_operand o)) (operands.Reg z.d) p.operands d-operand (ap not d-explicit)) in
        let here' : Among (w.0, operands.Reg z.d) (bound_operands t p) = left-in (w.0, operands.Reg z.d) (explicit_bound rs os) (map (implicit_bound (implicit_roles (roles_of t p))) (implicit_registers p.operands)) w.1 in
        subst (λ q. flags_fit (q, operands.Reg z.d) ≡ true) (none w.0 w.1) (all-of flags_fit (w.0, operands.Reg z.d) (bound_operands t p) here' (first_of_both _ _ r.eleven))
      where
        bare : explicit_roles (roles_of t p) ≡ []
        bare = ap explicit_roles (bare-roles t p effects.Phi (phi-effect t p phi) refl)

        none : (q : Option Role) → Among (q, operands.Reg z.d) (explicit_bound (explicit_roles (roles_of t p)) (explicit_operands p.operands)) → q ≡ None
        none None m = refl
        none (Some q) m = absurd (member-none q (subst (Among q) bare (bound-role (explicit_roles (roles_of t p)) (explicit_operands p.operands) q (operands.Reg z.d) m)))

    result-plain : IsPlain t H z.d
    result-plain =
        let x = free-flags z.d flags in
        record {
          virtual = ap is_virtual z.loc;
          class = has-class-still t f H still z.d.loc class-d;
          index = index-stays t f H still z.d.loc z.d.index class-d ∙ index-there t f p (shaped t f p r) z.d d-there;
          explicit = d-explicit;
          early = x.0;
          tie = x.1;
        }

    pub in-place-rules : InstrRules t H (record p { op = ops.Known copy_op; operands = from_incoming ci p.operands })
    in-place-rules =
        subst (λ os. InstrRules t H (record p { op = ops.Known copy_op; operands = from_incoming ci os })) (sym z.are)
        (copy-rules t H p z.d (whole_use ci) result-plain (incoming-plain (whole_use ci) refl refl refl refl refl) (first_of_both z.d.def (not z.d.implicit) z.is) refl
        (same-wide t H z.d (whole_use ci) (widths-stay t f (further t f) z.d.loc z.d.index class-d ∙ sym widths-ci))
        (ap (same_loc (Virtual ci)) z.loc ∙ old z.v class-v))

    module _ (x : ℕ) (s : RegOp) (m : Among s (registers z.rest)) where
      class-s : has_class f s.loc ≡ true
      class-s = (named t f p r s (rest-there s m)).class

      source-plain : IsPlain t H (source_of s)
      source-plain = record {
        virtual = pair-virtual z.rest s z.pairs m;
        class = has-class-still t f H still s.loc class-s;
        index = index-stays t f H still s.loc s.index class-s ∙ index-there t f p (shaped t f p r) s (rest-there s m);
        explicit = refl;
        early = refl;
        tie = refl;
      }

      wide : range_widths t H ci ≡ operand_widths t H (source_of s)
      wide =
          let lanes = lanes-there t f p (shaped t f p r) in
          widths-ci ∙ (wide-same t f z.d s (lanes z.d d-there) (lanes s (rest-there s m)) (all-of (same_widths t f z.d) s (registers z.rest) m z.wide) ∙ sym (widths-stay t f (further t f) s.loc s.index class-s))

      apart : (l : Loc) → has_class f l ≡ true → same_loc l (Virtual ci) ≡ false
      apart (Virtual v) e = eqb-sym v ci ∙ old v e
      apart (Fixed q) e = refl

      incoming-defined : IsPlain t H (whole_definition ci)
      incoming-defined = incoming-plain (whole_definition ci) refl refl refl refl refl

      pub arriving-rules : InstrRules t H (arriving (record { block = x; to = ci; from = s }))
      arriving-rules = go s.undef
        where
          go : (y : Bool) → InstrRules t H (cond y (undefining (whole_definition ci)) (copy_of (whole_definition ci) (source_of s)))
          go true = undef-rules t H (undefining (whole_definition ci)) (whole_definition ci) incoming-defined refl refl
          go false = copy-rules t H (copy_of (whole_definition ci) (source_of s)) (whole_definition ci) (source_of s) incoming-defined source-plain refl refl (same-wide t H (whole_definition ci) (source_of s) wide) (apart s.loc class-s)

  -- each of them

  module _ (rules : EachRules t f) where
    abbrev G : Function
    G = phis_lowered t f

    from-first : (i : Instr) (k : ℕ) → InstrRules t f i → InstrRules t G (with_id k i)
    unfolding phis_lowered
    from-first i k r = rules-stay t f G (λ v e. still v e) i r k

    from-widened : (i : Instr) (k : ℕ) → InstrRules t H i → InstrRules t G (with_id k i)
    unfolding phis_lowered
    from-widened i k r = rules-stay t H G (λ v e. refl) i r k

    phi-rules : (p : Instr) → Among p (all_instrs f.blocks) → InstrRules t f p
    phi-rules p m = let z = flat-of (λ (b : Block). b.instrs) p f.blocks m in rules z.0 p z.1 z.2

    new-one : (x k : ℕ) (i : Instr) → Among i (arriving_at (arrs t f) x) → InstrRules t G (with_id k i)
    new-one x k i m =
        let xs = filter (λ (a : Arrival). a.block == x) (arrs t f) in
        let a = map-of arriving i xs m in
        let p = arrival-from t f.blocks (bound t f) (all_instrs f.blocks) a.0 (filter-of (λ (a : Arrival). a.block == x) a.0 (arrs t f) a.1).0 in
        let r = phi-rules p.0 p.1 in
        let z = phi-shape t f p.0 r p.4 in
        let s = pair-from f.blocks p.2 z.rest a.0 z.pairs (subst (λ os. Among a.0 (arrivals_of f.blocks p.2 (drop 1 os))) z.are p.5) in
        from-widened i k (subst (InstrRules t H) (sym (a.2 ∙ ap arriving s.3)) (arriving-rules p.2 p.0 p.4 r p.3 s.2 s.0 s.1))

    old-one : (k : ℕ) (d : Block) (md : Among d f.blocks) (p : Instr) (mp : Among p d.instrs) (ci : ℕ) → PhiAt t ci p (bound t f) (all_instrs f.blocks) → InstrRules t G (with_id k (in_place t ci p))
    old-one k d md p mp ci stands = go (does is_phi t p) refl
      where
        go : (y : Bool) → does is_phi t p ≡ y → InstrRules t G (with_id k (cond y (record p { op = ops.Known copy_op; operands = from_incoming ci p.operands }) p))
        go true e = from-widened (record p { op = ops.Known copy_op; operands = from_incoming ci p.operands }) k (in-place-rules ci p e (rules d p md mp) stands)
        go false e = from-first p k (rules d p md mp)

    pub eliminated-rules : EachRules t G
    unfolding phis_lowered
    eliminated-rules b i mb mi =
        let x = block-from 0 (lowered_blocks t (arrs t f) 0 (bound t f) f.blocks) b mb in
        let y = numbered-from x.2 x.0.instrs i (subst (λ (d : Block). Among i d.instrs) x.3 mi) in
        let w = block-placed t (arrs t f) 0 (bound t f) f.blocks x.0 x.1 in
        let d = w.0 in
        let new = arriving_at (arrs t f) w.2 in
        let stood = all_in_place t w.3 d.instrs in
        let m : Among y.0 (set_before t new stood) = subst (Among y.0) (ap (λ (q : Block). q.instrs) w.4 ∙ before-set t new stood) y.1 in
        subst (InstrRules t G) (sym y.3) (by y.0 y.2 d w.1 w.2 w.3 w.5 (set-from t new stood y.0 m))
      where
        by : (j : Instr) (k : ℕ) (d : Block) → Among d f.blocks → (x c : ℕ) → ((ci : ℕ) (p : Instr) → PhiAt t ci p c d.instrs → PhiAt t ci p (bound t f) (all_instrs f.blocks)) → Among j (arriving_at (arrs t f) x) ⊎ Among j (all_in_place t c d.instrs) → InstrRules t G (with_id k j)
        by j k d md x c stands (inl m) = new-one x k j m
        by j k d md x c stands (inr m) =
            let z = placed-from t c d.instrs j m in
            subst (λ (q : Instr). InstrRules t G (with_id k q)) (sym z.4) (old-one k d md z.0 z.1 z.2 (stands z.2 z.0 z.3))

  -- classes

  pub eliminated-classes : AreClasses t f → AreClasses t (phis_lowered t f)
  unfolding phis_lowered
  eliminated-classes classes v c e = go (slice_get (f.classes ++ further t f) v) refl e
    where
      old-class : (k : ℕ) → slice_get f.classes k ≡ Some (Some c) → IsClass t c
      old-class k g = classes k c (ap (λ q. elim q as (λ q. Option ClassId) [ None ↦ None | Some y ↦ y ]) g)

      located : (l : Loc) → located_class f.classes l ≡ Some c → IsClass t c
      located (Virtual w) g = classes w c g
      located (Fixed q) g = absurd (cc)

      result : (os : List Operand) → result_class f.classes os ≡ Some c → IsClass t c
      result (operands.Reg d ∷ os) g = located d.loc g
      result os g = absurd (cc)

      of-phi : (y : Bool) (os : List Operand) → Among (Some c) (cond y (result_class f.classes os ∷ []) []) → IsClass t c
      of-phi true os m = member-elim (Some c) (result_class f.classes os) [] (λ q. result os (sym q)) (λ k. absurd (member-none (Some c) k)) m
      of-phi false os m = absurd (member-none (Some c) m)

      new-class : Among (Some c) (further t f) → IsClass t c
      new-class m = let z = flat-of (incoming_class t f.classes) (Some c) (all_instrs f.blocks) m in of-phi (does is_phi t z.0) z.0.operands z.2

      go : (q : Option (Option ClassId)) → slice_get (f.classes ++ further t f) v ≡ q → elim q as (λ q. Option ClassId) [ None ↦ None | Some y ↦ y ] ≡ Some c → IsClass t c
      go None g h = absurd (cc)
      go (Some q) g h =
          let m : Among (Some c) (f.classes ++ further t f) = subst (λ x. Among x (f.classes ++ further t f)) h (slice-member (f.classes ++ further t f) v q g) in
          either-elim (Some c) f.classes (further t f) (λ k. let w = member-slice (Some c) f.classes k in old-class w.0 w.1) new-class m
