-- The blocks of a function after a spill branch and end as they did, and name no other block.
use Rattle.std.proofs.Common.{◌≡◌, ◌+◌, ◌++◌, ◌∙◌, not, ◌&&◌, ◌||◌, ℕ, suc, Bool, true, false, cond, List, [], ◌∷◌, Option, Some, None, filter, flat_map, length, map, refl, sym, ap, subst, append-nil, append_assoc}
use Rattle.std.specs.Prelude.{filter_map, nat_eq}
use Rattle.std.specs.List.{cons_option, list_all, sum_by, zip}
use Rattle.target_base.specs.declared.types.ClassId.{ClassId}
use Rattle.target_base.specs.declared.types.Effect.{Effect}
use Rattle.target_base.specs.declared.types.Effect.TheVariants as effects
use Rattle.target_base.specs.declared.types.Role.{Role}
use Rattle.target_base.specs.declared.types.Target.{Target}
use Rattle.target_base.specs.Roles.{is_silent}
use Rattle.target_base.proofs.Tests.{first_of_both}
use Rattle.meaning.specs.Live.{Among as Member, here as first, there as later}
use Rattle.mir_func.specs.declared.func.Loc.{Loc}
use Rattle.mir_func.specs.declared.func.Loc.TheVariants.{Fixed, Virtual}
use Rattle.mir_func.specs.declared.func.RegOp.{RegOp}
use Rattle.mir_func.specs.declared.func.Operand.{Operand}
use Rattle.mir_func.specs.declared.func.Operand.TheVariants as operands
use Rattle.mir_func.specs.declared.func.Instr.{Instr}
use Rattle.mir_func.specs.declared.func.Block.{Block}
use Rattle.mir_func.specs.Binding.{Bound, does, effect_of, ends_control, explicit_bound, explicit_roles, implicit_registers, is_branch, is_conditional, is_terminator, is_virtual, numbered, passes, registers, roles_of, TiedPair, operand_class, takes_many}
use Rattle.mir_meaning.specs.Points.{is_range}
use Rattle.mir_meaning.specs.Codes.{ends_without_terminator, falls_through}
use Rattle.mir_meaning.specs.Places.{Variable}
use Rattle.mir_meaning.specs.Rules.{V1, block_of, branch_targets, named_blocks, spills_or_reloads}
use Rattle.instr_effects.proofs.Members.{either-elim, filter-in, flat-of, left-in, map-of, member-elim, member-none, right-in}
use Rattle.live_laws.proofs.Effects.Lists.{all-of}
use Rattle.live_laws.proofs.Touch.Roles.{fit, has_roles, met}
use Rattle.lowering_laws.proofs.BlockRules.{AllBecome, Carries, ordered}
use Rattle.lowering_laws.proofs.Ends.{no-branch}
use Rattle.lowering_laws.proofs.Rolled.{terminator-plain}
use Rattle.lowering_laws.proofs.Seated.{bound-operand, register-in}
use Rattle.spiller.specs.Setting.{Spilling, class_beside, in_own_slot, is_live_behind, is_own, own_class, part_class, plain_definition, plain_use, reload, store, undef_use}
use Rattle.spiller.specs.Rematerialised.{Reading, copy_reading, places_from, places_of, repeated, repeated_for, tied_readings, way_reading, ways_read}
use Rattle.spiller.specs.Spilled.{Change, OwnDefinition, Seats, block_changes, change, changes, definitions_in, given, in_place_of, new_ids, numbered_change, numbered_operands, own_definition, seated_operand, seats_from, spilled, spilled_block, stored, tied_reload, tinies_of, with_ids, with_tinies}
use Rattle.spill_laws.proofs.Outcomes.{Outcome, Passes, Replaces, ends-placed, from_range, goes, instrs-of, passed, reloaded_on, repeats, replaced, seated, stays, stored_on, to_range, undefined, within}
use Rattle.spill_laws.proofs.Opcodes.{IsSlot, own-slot, reload-goes-on, reload-slot, repeated-goes-on, repeated-names, repeats-for, slot-names, spill-slot, store-goes-on}

-- lists

flat-append : {X Y : Type 0} (g : X → List Y) (xs ys : List X) → flat_map g (xs ++ ys) ≡ flat_map g xs ++ flat_map g ys
flat-append g [] ys = refl
flat-append g (x ∷ xs) ys = ap (λ zs. g x ++ zs) (flat-append g xs ys) ∙ sym (append_assoc (g x) (flat_map g xs) (flat_map g ys))

numbered-of : {X : Type 0} (n : ℕ) (xs : List X) (x : ℕ × X) → Member x (numbered n xs) → Member x.1 xs
numbered-of n [] x m = absurd (member-none x m)
numbered-of {X = X} n (y ∷ xs) x m = member-elim x (n, y) (numbered (suc n) xs) (λ e. subst (λ (z : X). Member z (y ∷ xs)) (sym (ap (λ (p : ℕ × X). p.1) e)) first) (λ k. later (numbered-of (suc n) xs x k)) m

module _ (t : Target) where
  -- it goes on, and names no block
  pub record Plain (x : Instr) : Type 0 where
    pub goes_on : does is_terminator t x ≡ false
    pub names : named_blocks x ≡ []

  abbrev pub AllPlain : List Instr → Type 0
  AllPlain is = (x : Instr) → Member x is → Plain x

  plain-ids : (n : ℕ) (is : List Instr) → AllPlain is → AllPlain (with_ids n is)
  plain-ids n [] h x m = absurd (member-none x m)
  plain-ids n (i ∷ is) h x m =
      let p = h i first in
      member-elim x (record i { id = n }) (with_ids (suc n) is)
      (λ e. subst Plain (sym e) (record { goes_on = p.goes_on; names = p.names }))
      (λ k. plain-ids (suc n) is (λ y j. h y (later j)) x k) m

  silent-goes-on : (i : Instr) → does is_silent t i ≡ true → does is_terminator t i ≡ false
  silent-goes-on i h = go (effect_of t i) h
    where
      by : (e : Effect) → is_silent e ≡ true → is_terminator e ≡ false
      by effects.Copy h = refl
      by effects.Phi h = refl
      by effects.ImplicitDef h = refl
      by effects.RegSequence h = refl
      by effects.InsertSubreg h = refl
      by effects.Const h = refl
      by effects.Addr h = refl
      by effects.Spill h = refl
      by effects.Reload h = refl
      by e h = absurd (cc)

      go : (q : Option Effect) → passes is_silent q ≡ true → passes is_terminator q ≡ false
      go None h = refl
      go (Some e) h = by e h

  known-goes-on : (i : Instr) (e : Effect) → effect_of t i ≡ Some e → is_terminator e ≡ false → does is_terminator t i ≡ false
  known-goes-on i e known h = ap (passes is_terminator) known ∙ h

  -- instructions that go on are passed by

  goes-on-control : (i : Instr) → does is_terminator t i ≡ false → does ends_control t i ≡ false
  goes-on-control i e = go (effect_of t i) e
    where
      by : (a b : Bool) → (a || b) ≡ false → a ≡ false
      by true b h = absurd (cc)
      by false b h = refl

      go : (q : Option Effect) → passes is_terminator q ≡ false → passes ends_control q ≡ false
      go None h = refl
      go (Some x) h = by (ends_control x) (is_conditional x) h

  goes-on-branch : (i : Instr) → does is_terminator t i ≡ false → does is_branch t i ≡ false
  goes-on-branch i h = go (effect_of t i) refl
    where
      go : (q : Option Effect) → effect_of t i ≡ q → passes is_branch q ≡ false
      go None e = refl
      go (Some x) e = no-branch t i x e h

  falls-past : (i : Instr) (is : List Instr) → does is_terminator t i ≡ false → falls_through t (i ∷ is) ≡ falls_through t is
  falls-past i [] h = ap not (goes-on-control i h)
  falls-past i (j ∷ is) h = refl

  opens-past : (i : Instr) (is : List Instr) → does is_terminator t i ≡ false → ends_without_terminator t (i ∷ is) ≡ ends_without_terminator t is
  opens-past i [] h = ap not h
  opens-past i (j ∷ is) h = refl

  targets-past : (i : Instr) (is : List Instr) → does is_terminator t i ≡ false → branch_targets t (i ∷ is) ≡ branch_targets t is
  targets-past i is h = ap (λ b. flat_map named_blocks (cond b (i ∷ filter (does is_branch t) is) (filter (does is_branch t) is))) (goes-on-branch i h)

  ordered-past : (i : Instr) (is : List Instr) → does is_terminator t i ≡ false → ordered t (i ∷ is) ≡ ordered t is
  ordered-past i is h = ap (λ b. cond b (list_all (does is_terminator t) is) (ordered t is)) h

  abbrev AllGoOn : List Instr → Type 0
  AllGoOn is = (x : Instr) → Member x is → does is_terminator t x ≡ false

  module _ {X : Type 0} (P : List Instr → X) (past : (i : Instr) (is : List Instr) → does is_terminator t i ≡ false → P (i ∷ is) ≡ P is) where
    all-past : (ys is : List Instr) → AllGoOn ys → P (ys ++ is) ≡ P is
    all-past [] is h = refl
    all-past (y ∷ ys) is h = past y (ys ++ is) (h y first) ∙ all-past ys is (λ x m. h x (later m))

  -- instructions that only lose registers
  record Alike (w : Instr → Instr) : Type 0 where
    pub effect : (i : Instr) → effect_of t (w i) ≡ effect_of t i
    pub names : (i : Instr) → named_blocks (w i) ≡ named_blocks i

  module _ (w : Instr → Instr) (a : Alike w) where
    falls-alike : (is : List Instr) → falls_through t (map w is) ≡ falls_through t is
    falls-alike [] = refl
    falls-alike (i ∷ []) = λ k. not (passes ends_control (a.effect i k))
    falls-alike (i ∷ j ∷ is) = falls-alike (j ∷ is)

    opens-alike : (is : List Instr) → ends_without_terminator t (map w is) ≡ ends_without_terminator t is
    opens-alike [] = refl
    opens-alike (i ∷ []) = λ k. not (passes is_terminator (a.effect i k))
    opens-alike (i ∷ j ∷ is) = opens-alike (j ∷ is)

    targets-alike : (is : List Instr) → branch_targets t (map w is) ≡ branch_targets t is
    targets-alike [] = refl
    targets-alike (i ∷ is) = (λ k. flat_map named_blocks (cond (passes is_branch (a.effect i k)) (w i ∷ filter (does is_branch t) (map w is)) (filter (does is_branch t) (map w is)))) ∙ go (does is_branch t i) (targets-alike is)
      where
        go : (b : Bool) → branch_targets t (map w is) ≡ branch_targets t is → flat_map named_blocks (cond b (w i ∷ filter (does is_branch t) (map w is)) (filter (does is_branch t) (map w is))) ≡ flat_map named_blocks (cond b (i ∷ filter (does is_branch t) is) (filter (does is_branch t) is))
        go true ih = λ k. a.names i k ++ ih k
        go false ih = ih

    names-alike : (is : List Instr) → flat_map named_blocks (map w is) ≡ flat_map named_blocks is
    names-alike [] = refl
    names-alike (i ∷ is) = λ k. a.names i k ++ names-alike is k

    ends-alike : (is : List Instr) → list_all (does is_terminator t) (map w is) ≡ list_all (does is_terminator t) is
    ends-alike [] = refl
    ends-alike (i ∷ is) = λ k. passes is_terminator (a.effect i k) && ends-alike is k

    ordered-alike : (is : List Instr) → ordered t (map w is) ≡ ordered t is
    ordered-alike [] = refl
    ordered-alike (i ∷ is) = λ k. cond (passes is_terminator (a.effect i k)) (ends-alike is k) (ordered-alike is k)

  -- names of plain instructions
  no-names : (is : List Instr) → AllPlain is → flat_map named_blocks is ≡ []
  no-names [] h = refl
  no-names (i ∷ is) h = λ k. (h i first).names k ++ no-names is (λ x m. h x (later m)) k

-- an operand with a tiny names no other block
seated-block : (s : Spilling) (z : Seats) (i : Instr) (n : ℕ) (r : Option Role) (o : Operand) → block_of (seated_operand s z i (n, (r, o))) ≡ block_of o
seated-block s z i n r (operands.Reg o) = refl
seated-block s z i n r o = refl

module _ (s : Spilling) (rules : (b : Block) (i : Instr) → Member b s.func.blocks → Member i b.instrs → V1 s.target s.func i ≡ true) where
  abbrev t : Target
  t = s.target

  -- new instructions are plain

  store-plain : (k : Option ClassId) (o : RegOp) (slot : List Operand) → IsSlot slot → Plain t (store t k o slot)
  store-plain k o slot z = record { goes_on = store-goes-on t k o slot; names = slot-names slot z }

  reload-plain : (k : Option ClassId) (o : RegOp) (slot : List Operand) → IsSlot slot → Plain t (reload t k o slot)
  reload-plain k o slot z = record { goes_on = reload-goes-on t k o slot; names = slot-names slot z }

  repeated-plain : (r : Reading) (d : Instr) (o : RegOp) → repeated_for s r ≡ Some d → Plain t (repeated d o)
  repeated-plain r d o e =
      let z = repeats-for s r d e in
      record { goes_on = repeated-goes-on t d o z.constant; names = repeated-names t s.func d o (rules z.block d z.there z.inside) z.constant }

  given-plain : (is : List Instr) (p : ℕ × Variable) → Plain t (given s is p)
  given-plain is p = go (repeated_for s (way_reading s is p.1)) refl
    where
      go : (q : Option Instr) → repeated_for s (way_reading s is p.1) ≡ q → Plain t (elim q as (λ q. Instr) [ None ↦ reload s.target p.1.class (plain_definition (Virtual p.0) None) (in_own_slot s p.1.index) | Some d ↦ repeated d (plain_definition (Virtual p.0) None) ])
      go None e = reload-plain p.1.class (plain_definition (Virtual p.0) None) (in_own_slot s p.1.index) (own-slot s p.1.index)
      go (Some d) e = repeated-plain (way_reading s is p.1) d (plain_definition (Virtual p.0) None) e

  ways-plain : (is : List Instr) (ps : List (ℕ × Variable)) → AllPlain t (map (given s is) ps)
  ways-plain is ps x m = let z = map-of (given s is) x ps m in subst (Plain t) (sym z.2) (given-plain is z.0)

  tied-plain : (ps : List (ℕ × OwnDefinition)) → AllPlain t (flat_map (tied_reload s) ps)
  tied-plain ps x m =
      let z = flat-of (tied_reload s) x ps m in
      let y = map-of (λ (q : TiedPair). reload s.target z.0.1.class (plain_definition (Virtual z.0.0) None) (in_own_slot s q.tied_use.index)) x (filter (λ (q : TiedPair). nat_eq q.number z.0.1.number) (tied_readings s z.0.1.by)) z.2 in
      subst (Plain t) (sym y.2) (reload-plain z.0.1.class (plain_definition (Virtual z.0.0) None) (in_own_slot s y.0.tied_use.index) (own-slot s y.0.tied_use.index))

  stored-plain : (ps : List (ℕ × OwnDefinition)) → AllPlain t (flat_map (stored s) ps)
  stored-plain ps x m = let z = flat-of (stored s) x ps m in go z.0 (is_live_behind s z.0.1.by z.0.1.index) z.2
    where
      go : (p : ℕ × OwnDefinition) (b : Bool) → Member x (cond b (store s.target p.1.class (plain_use (Virtual p.0) None) (in_own_slot s p.1.index) ∷ []) []) → Plain t x
      go p true m = member-elim x (store s.target p.1.class (plain_use (Virtual p.0) None) (in_own_slot s p.1.index)) [] (λ e. subst (Plain t) (sym e) (store-plain p.1.class (plain_use (Virtual p.0) None) (in_own_slot s p.1.index) (own-slot s p.1.index))) (λ k. absurd (member-none x k)) m
      go p false m = absurd (member-none x m)

  -- the slots between which lanes pass
  pub passing : (i : Instr) (k : Option ClassId) (from to : List Operand) → V1 t s.func i ≡ true → Passes s i k from to → (does is_silent t i ≡ true) × IsSlot from × IsSlot to
  passing i k from to rule (within {d} {o} e g p q) = (ap (passes is_silent) e, own-slot s o.index, own-slot s d.index)
  passing i k from to rule (stored_on {o} {slot} e g p) = (ap (passes is_silent) e, own-slot s o.index, spill-slot t s.func i o slot rule e g)
  passing i k from to rule (reloaded_on {o} {slot} e g p) = (ap (passes is_silent) e, reload-slot t s.func i o slot rule e g, own-slot s o.index)

  replacing : (i x : Instr) → Replaces s i x → (does is_silent t i ≡ true) × Plain t x
  replacing i x (from_range {d} {o} e g p q) = (ap (passes is_silent) e, reload-plain (class_beside s d d.loc) (plain_definition d.loc d.index) (in_own_slot s o.index) (own-slot s o.index))
  replacing i x (to_range {d} {o} e g p q) = (ap (passes is_silent) e, store-plain (class_beside s o o.loc) (plain_use o.loc o.index) (in_own_slot s d.index) (own-slot s d.index))
  replacing i x (undefined {o} e g p) = let k = part_class t o.index (own_class s) in (ap (passes is_silent) e, store-plain k (undef_use t k) (in_own_slot s o.index) (own-slot s o.index))

  -- what an instruction with tinies does, and what it names

  seated-names : (z : Seats) (i : Instr) (n : ℕ) (rs : List Role) (os : List Operand) → flat_map block_of (map (seated_operand s z i) (numbered n (explicit_bound rs os))) ≡ flat_map block_of os
  seated-names z i n rs [] = refl
  seated-names z i n [] (o ∷ os) = λ k. seated-block s z i n None o k ++ seated-names z i (suc n) [] os k
  seated-names z i n (r ∷ rs) (o ∷ os) = λ k. seated-block s z i n (Some r) o k ++ seated-names z i (suc n) (cond (takes_many r) (r ∷ rs) rs) os k

  tinies-alike : (z : Seats) → Alike t (with_tinies s z)
  tinies-alike z = record { effect = λ i. refl; names = λ i. seated-names z i 0 (explicit_roles (roles_of t i)) i.operands }

  -- the place

  data Own (p js : List Instr) : Type 0 where
    alike : (w : Instr → Instr) → Alike t w → js ≡ map w p → Own p js
    alone : (i : Instr) → p ≡ i ∷ [] → does is_terminator t i ≡ false → AllPlain t js → Own p js

  record Stood (p : List Instr) (y : Change) : Type 0 where
    pub before : AllPlain t y.before
    pub behind : AllPlain t y.behind
    pub own : Own p y.own

  none-plain : AllPlain t []
  none-plain x m = absurd (member-none x m)

  one-plain : (y : Instr) → Plain t y → AllPlain t (y ∷ [])
  one-plain y p x m = member-elim x y [] (λ e. subst (Plain t) (sym e) p) (λ k. absurd (member-none x k)) m

  both-plain : (xs ys : List Instr) → AllPlain t xs → AllPlain t ys → AllPlain t (xs ++ ys)
  both-plain xs ys a b x m = either-elim x xs ys (a x) (b x) m

  same-plain : (i x : Instr) → Plain t x → Plain t (in_place_of i x)
  same-plain i x p = record { goes_on = p.goes_on; names = p.names }

  itself : Alike t (λ i. i)
  itself = record { effect = λ i. refl; names = λ i. refl }

  stood : (n c : ℕ) (p : List Instr) (y : Change) → ((i : Instr) → Member i p → V1 t s.func i ≡ true) → Outcome s n c p y → Stood p y
  stood n c p y rule (stays {i} k) = record { before = none-plain; behind = none-plain; own = alike (λ i. i) itself refl }
  stood n c p y rule (goes {i} k) = record { before = none-plain; behind = none-plain; own = alone i refl (silent-goes-on t i k) none-plain }
  stood n c p y rule (replaced {i} {j} k) =
      let z = replacing i j k in
      record { before = none-plain; behind = none-plain; own = alone i refl (silent-goes-on t i z.0) (one-plain (in_place_of i j) (same-plain i j z.1)) }
  stood n c p y rule (repeats {i} {x} {d} {o} e g h q r) = record {
    before = one-plain (repeated x (plain_definition d.loc d.index)) (repeated-plain (copy_reading s i d o) x (plain_definition d.loc d.index) r);
    behind = none-plain;
    own = alone i refl (known-goes-on t i effects.Copy e refl) none-plain;
  }
  stood n c p y rule (passed {i} {k} {from} {to} q) =
      let z = passing i k from to (rule i first) q in
      record {
        before = none-plain;
        behind = one-plain (store t k (plain_use (Virtual c) None) to) (store-plain k (plain_use (Virtual c) None) to z.2);
        own = alone i refl (silent-goes-on t i z.0) (one-plain (in_place_of i (reload t k (plain_definition (Virtual c) None) from)) (same-plain i (reload t k (plain_definition (Virtual c) None) from) (reload-plain k (plain_definition (Virtual c) None) from z.1)));
      }
  stood n c p y rule (seated k) =
      let z = seats_from s c p in
      record {
        before = both-plain (map (given s p) z.ways) (flat_map (tied_reload s) z.definitions) (ways-plain p z.ways) (tied-plain z.definitions);
        behind = stored-plain z.definitions;
        own = alike (with_tinies s z) (tinies-alike z) refl;
      }

  -- terminators define nothing

  pub own-none : (i : Instr) → V1 t s.func i ≡ true → does is_terminator t i ≡ true → (o : RegOp) → Member (operands.Reg o) i.operands → (is_own s o && o.def) ≡ false
  own-none i rule ends o m = go (effect_of t i) refl ends
    where
      fixed : (l : Loc) → not (is_virtual l) ≡ true → is_range s.range l ≡ false
      fixed (Virtual v) h = absurd (cc)
      fixed (Fixed r) h = refl

      by : (a b c : Bool) → b ≡ o.implicit → c ≡ o.def → (c && not b) ≡ false → (b ≡ true → a ≡ false) → (a && c) ≡ false
      by a true c e g h k = λ j. k refl j && c
      by true false true e g h k = absurd (cc)
      by true false false e g h k = refl
      by false false c e g h k = refl

      go : (q : Option Effect) → effect_of t i ≡ q → passes is_terminator q ≡ true → (is_own s o && o.def) ≡ false
      go None e h = absurd (cc)
      go (Some e) g h =
          let placed = ends-placed e h in
          let rolled : has_roles e ≡ true = first_of_both (has_roles e) (not (spills_or_reloads e)) placed in
          by (is_own s o) o.implicit o.def refl refl (terminator-plain t s.func i e g rolled rule h o m)
          (λ d.
          let all = (fit t s.func i e g rule rolled).implicit in
          let one = filter-in (λ (x : RegOp). x.implicit) o (registers i.operands) (register-in o i.operands m) d in
          fixed o.loc (first_of_both (not (is_virtual o.loc)) (not (is_silent (met t s.func i e g rule).0.effect)) (all-of (λ (x : RegOp). not (is_virtual x.loc) && not (is_silent (met t s.func i e g rule).0.effect)) o (implicit_registers i.operands) one all)))

  none-told : {X Y : Type 0} (g : X → Option Y) (xs : List X) → ((x : X) → Member x xs → g x ≡ None) → filter_map g xs ≡ []
  none-told g [] h = refl
  none-told g (x ∷ xs) h = ap (λ q. cons_option q (filter_map g xs)) (h x first) ∙ none-told g xs (λ y m. h y (later m))

  no-definition : (i : Instr) → V1 t s.func i ≡ true → does is_terminator t i ≡ true → filter_map (own_definition s i) (numbered_operands t i) ≡ []
  no-definition i rule ends = none-told (own_definition s i) (numbered_operands t i) by
    where
      by : (x : ℕ × Bound) → Member x (numbered_operands t i) → own_definition s i x ≡ None
      by (n, (r, operands.Reg o)) m =
          let rs = explicit_roles (roles_of t i) in
          let z = own-none i rule ends o (bound-operand rs i.operands r (operands.Reg o) (numbered-of 0 (explicit_bound rs i.operands) (n, (r, operands.Reg o)) m)) in
          λ k. cond (z k) (Some (record { by = i; number = n; index = o.index; class = operand_class t s.func r o })) None
      by (n, (r, o)) m = refl

  pub no-definitions : (p : List Instr) → ((i : Instr) → Member i p → V1 t s.func i ≡ true) → ((i : Instr) → Member i p → does is_terminator t i ≡ true) → definitions_in s p ≡ []
  no-definitions [] rule ends = refl
  no-definitions (i ∷ is) rule ends = λ k. no-definition i (rule i first) (ends i first) k ++ no-definitions is (λ j m. rule j (later m)) (λ j m. ends j (later m)) k

  -- behind terminators nothing stands
  nothing-behind : (n c : ℕ) (p : List Instr) (y : Change) → ((i : Instr) → Member i p → V1 t s.func i ≡ true) → ((i : Instr) → Member i p → does is_terminator t i ≡ true) → Outcome s n c p y → y.behind ≡ []
  nothing-behind n c p y rule ends (stays k) = refl
  nothing-behind n c p y rule ends (goes k) = refl
  nothing-behind n c p y rule ends (replaced k) = refl
  nothing-behind n c p y rule ends (repeats e g h q r) = refl
  nothing-behind n c p y rule ends (passed {i} {k} {from} {to} q) =
      let z = passing i k from to (rule i first) q in
      absurd (let w : does is_terminator t i ≡ false = silent-goes-on t i z.0 in let u : does is_terminator t i ≡ true = ends i first in cc)
  nothing-behind n c p y rule ends (seated k) = ap (λ ds. flat_map (stored s) (numbered (c + length (ways_read s p)) ds)) (no-definitions p rule ends)

  -- a block

  same-first : (i j : Instr) (is js : List Instr) → i ∷ is ≡ j ∷ js → i ≡ j
  same-first i j is js e = cc

  -- the terminators of a block
  ending : {i : Instr} {is : List Instr} (p before own : List Instr) → does is_terminator t i ≡ true → AllPlain t before → Own p own → p ≡ i ∷ is → Carries t p (before ++ own)
  ending {i} {is} p before own e b (alone j g h a) same = absurd (let k : does is_terminator t i ≡ false = ap (does is_terminator t) (same-first i j is [] (sym same ∙ g)) ∙ h in cc)
  ending p before own e b (alike w a g) same =
      subst (λ js. Carries t p (before ++ js)) (sym g)
      (record {
        names = λ n m. subst (Member n) names m;
        targets = all-past t (branch_targets t) (targets-past t) before (map w p) on ∙ targets-alike t w a p;
        falls = all-past t (falls_through t) (falls-past t) before (map w p) on ∙ falls-alike t w a p;
        opens = all-past t (ends_without_terminator t) (opens-past t) before (map w p) on ∙ opens-alike t w a p;
        order = λ h. all-past t (ordered t) (ordered-past t) before (map w p) on ∙ (ordered-alike t w a p ∙ h);
      })
    where
      on : AllGoOn t before
      on x m = (b x m).goes_on

      names : flat_map named_blocks (before ++ map w p) ≡ flat_map named_blocks p
      names = flat-append named_blocks before (map w p) ∙ (λ k. no-names t before b k ++ names-alike t w a p k)

  -- what becomes of an instruction that goes on goes on, and names the blocks that it names
  record Stays (i : Instr) (ys : List Instr) : Type 0 where
    pub on : AllGoOn t ys
    pub names : (n : ℕ) → Member n (flat_map named_blocks ys) → Member n (named_blocks i)

  staying : (i : Instr) → does is_terminator t i ≡ false → (before own behind : List Instr) → AllPlain t before → AllPlain t behind → Own (i ∷ []) own → Stays i (before ++ (own ++ behind))
  staying i e before own behind a b (alike w l g) =
      subst (λ js. Stays i (before ++ (js ++ behind))) (sym g)
      (record {
        on = λ x m. either-elim x before (w i ∷ behind) (λ k. (a x k).goes_on) (λ k. member-elim x (w i) behind (λ h. ap (does is_terminator t) h ∙ (ap (passes is_terminator) (l.effect i) ∙ e)) (λ q. (b x q).goes_on) k) m;
        names = λ n m. subst (Member n) names m;
      })
    where
      names : flat_map named_blocks (before ++ (w i ∷ behind)) ≡ named_blocks i
      names = flat-append named_blocks before (w i ∷ behind) ∙ ((λ k. no-names t before a k ++ (l.names i k ++ no-names t behind b k)) ∙ append-nil (named_blocks i))
  staying i e before own behind a b (alone j g h p) =
      let all = both-plain before (own ++ behind) a (both-plain own behind p b) in
      record {
        on = λ x m. (all x m).goes_on;
        names = λ n m. absurd (member-none n (subst (Member n) (no-names t (before ++ (own ++ behind)) all) m));
      }

  passing-by : (i : Instr) (is ys rest : List Instr) → does is_terminator t i ≡ false → Stays i ys → Carries t is rest → Carries t (i ∷ is) (ys ++ rest)
  passing-by i is ys rest e z more = record {
    names = λ n m. either-elim n (flat_map named_blocks ys) (flat_map named_blocks rest) (λ k. left-in n (named_blocks i) (flat_map named_blocks is) (z.names n k)) (λ k. right-in n (named_blocks i) (flat_map named_blocks is) (more.names n k)) (subst (Member n) (flat-append named_blocks ys rest) m);
    targets = all-past t (branch_targets t) (targets-past t) ys rest z.on ∙ (more.targets ∙ sym (targets-past t i is e));
    falls = all-past t (falls_through t) (falls-past t) ys rest z.on ∙ (more.falls ∙ sym (falls-past t i is e));
    opens = all-past t (ends_without_terminator t) (opens-past t) ys rest z.on ∙ (more.opens ∙ sym (opens-past t i is e));
    order = λ h. all-past t (ordered t) (ordered-past t) ys rest z.on ∙ more.order (sym (ordered-past t i is e) ∙ h);
  }

  abbrev Out : List Instr → Type 0
  Out p = (n c : ℕ) → Outcome s n c p (change s n c p)

  places-carried : (n c : ℕ) (is : List Instr) → ((i : Instr) → Member i is → V1 t s.func i ≡ true) → ordered t is ≡ true → ((p : List Instr) → Member p (places_from t is) → Out p) → Carries t is (flat_map instrs-of (changes s n c (places_from t is)))
  places-carried n c [] rule o h = record { names = λ k m. m; targets = refl; falls = refl; opens = refl; order = λ e. e }
  places-carried n c (i ∷ is) rule o h = go (does is_terminator t i) refl o h (λ m d q r. places-carried m d is (λ j k. rule j (later k)) q r)
    where
      go : (b : Bool) → does is_terminator t i ≡ b → cond b (list_all (does is_terminator t) is) (ordered t is) ≡ true
          → ((p : List Instr) → Member p (cond b ((i ∷ is) ∷ []) ((i ∷ []) ∷ places_from t is)) → Out p)
          → ((m d : ℕ) → ordered t is ≡ true → ((p : List Instr) → Member p (places_from t is) → Out p) → Carries t is (flat_map instrs-of (changes s m d (places_from t is))))
          → Carries t (i ∷ is) (flat_map instrs-of (changes s n c (cond b ((i ∷ is) ∷ []) ((i ∷ []) ∷ places_from t is))))
      go true e q out more =
          let p = i ∷ is in
          let y = change s n c p in
          let ends : (j : Instr) → Member j p → does is_terminator t j ≡ true = λ j m. all-of (does is_terminator t) j p m (λ k. e k && q k) in
          let z = stood n c p y rule (out p first n c) in
          let none = nothing-behind n c p y rule ends (out p first n c) in
          let before = with_ids n y.before in
          let whole : (before ++ (y.own ++ with_ids (n + length y.before) y.behind)) ++ [] ≡ before ++ y.own =
          append-nil (before ++ (y.own ++ with_ids (n + length y.before) y.behind)) ∙ ((λ k. before ++ (y.own ++ with_ids (n + length y.before) (none k))) ∙ ap (λ js. before ++ js) (append-nil y.own)) in
          subst (Carries t p) (sym whole) (ending p before y.own e (plain-ids t n y.before z.before) z.own refl)
      go false e q out more =
          let p = i ∷ [] in
          let y = change s n c p in
          let z = stood n c p y (λ j m. member-elim j i [] (λ g. subst (λ a. V1 t s.func a ≡ true) (sym g) (rule i first)) (λ k. absurd (member-none j k)) m) (out p first n c) in
          let x = numbered_change s n c p in
          passing-by i is (instrs-of x) (flat_map instrs-of (changes s (n + new_ids x) (c + length x.tinies) (places_from t is))) e
          (staying i e x.before y.own x.behind (plain-ids t n y.before z.before) (plain-ids t (n + length y.before) y.behind z.behind) z.own)
          (more (n + new_ids x) (c + length x.tinies) q (λ r m. out r (later m)))

  -- all blocks

  abbrev IsOut : Block → Type 0
  IsOut b = (p : List Instr) → Member p (places_of t b) → Out p

  blocks-carried : (n c : ℕ) (bs : List Block) → ((b : Block) → Member b bs → Member b s.func.blocks) → ((b : Block) → Member b bs → ordered t b.instrs ≡ true) → ((b : Block) → Member b bs → IsOut b) → AllBecome t bs (map spilled_block (zip bs (block_changes s n c bs)))
  blocks-carried n c [] w o h = tt
  blocks-carried n c (b ∷ bs) w o h =
      let xs = changes s n c (places_of t b) in (
        record { number = refl; successors = refl; instrs = places-carried n c b.instrs (λ i m. rules b i (w b first) m) (o b first) (h b first) },
        blocks-carried (n + sum_by new_ids xs) (c + length (tinies_of xs)) bs (λ d m. w d (later m)) (λ d m. o d (later m)) (λ d m. h d (later m)),
      )

  pub all-carried : ((b : Block) → Member b s.func.blocks → ordered t b.instrs ≡ true) → ((b : Block) → Member b s.func.blocks → IsOut b) → AllBecome t s.func.blocks (spilled s).blocks
  unfolding spilled
  all-carried o h = blocks-carried s.func.next_id (length s.func.classes) s.func.blocks (λ b m. m) o h
