-- A spill keeps the rule on flags.
use Rattle.std.proofs.Common.{◌≡◌, inl, inr, ◌∷◌, ◌++◌, ◌∙◌, ◌&&◌, ◌+◌, not, ℕ, suc, Bool, true, false, cond, List, [], Option, Some, None, map, filter, flat_map, drop, length, refl, sym, ap, subst}
use Rattle.std.specs.Prelude.{nat_eq, zip}
use Rattle.std.specs.List.{list_all, sum_by}
use Rattle.target_base.specs.declared.types.ClassId.{ClassId}
use Rattle.target_base.specs.declared.types.Effect.{Effect}
use Rattle.target_base.specs.declared.types.Effect.TheVariants as effects
use Rattle.target_base.specs.declared.types.IndexId.{IndexId}
use Rattle.target_base.specs.declared.types.Role.{Role}
use Rattle.target_base.specs.declared.types.Target.{Target}
use Rattle.target_base.specs.Roles.{is_silent}
use Rattle.target_base.specs.Storage.{same_numbers}
use Rattle.target_base.proofs.Tests.{first_of_both, second_of_both}
use Rattle.meaning.specs.Live.{Among as Member, here as first, there as later}
use Rattle.mir_func.specs.declared.func.Loc.{Loc}
use Rattle.mir_func.specs.declared.func.Loc.TheVariants.{Fixed, Virtual}
use Rattle.mir_func.specs.declared.func.RegOp.{RegOp}
use Rattle.mir_func.specs.declared.func.Operand.{Operand}
use Rattle.mir_func.specs.declared.func.Operand.TheVariants as operands
use Rattle.mir_func.specs.declared.func.Instr.{Instr}
use Rattle.mir_func.specs.declared.func.Block.{Block}
use Rattle.mir_func.specs.Value.{Function}
use Rattle.mir_func.specs.Binding.{does, effect_of, explicit_bound, explicit_roles, implicit_registers, is_definition, is_implicit_operand, is_lowered_away, is_terminator, is_use, is_virtual, passes, registers, roles_of}
use Rattle.mir_meaning.specs.Places.{Variable}
use Rattle.mir_meaning.specs.Points.{is_range}
use Rattle.mir_meaning.specs.Renaming.{IsFixed}
use Rattle.mir_meaning.specs.Rules.{V1, copy_fits, flags_fit, implicit_def_fits, implicit_last, operands_fit}
use Rattle.instr_effects.proofs.Members.{filter-in, filter-of, flat-of, member-elim, member-none}
use Rattle.live_laws.proofs.Effects.Lists.{all-of}
use Rattle.live_laws.proofs.Effects.Moving.{some-same}
use Rattle.live_laws.proofs.Touch.Roles.{fit, has_roles, met}
use Rattle.lowering_laws.specs.Shapes.{IsLowered}
use Rattle.lowering_laws.proofs.Rolled.{fit-operands}
use Rattle.lowering_laws.proofs.Seated.{bound-operand, register-in}
use Rattle.join_laws.proofs.Named.{known}
use Rattle.join_laws.proofs.Silent.{AreFew, alone, few, pair}
use Rattle.spiller.specs.Setting.{Spilling, class_beside, in_own_slot, is_live_behind, is_own, moving_class, own_class, own_lanes, part_class, plain_definition, plain_use, reload, store, undef_use}
use Rattle.spiller.specs.Rematerialised.{Reading, Wish, copy_reading, if_serves, is_constant, is_needless, places_from, places_of, reaches, reaching, repeatable_class, repeated, repeated_for, serves, tied_readings, way_reading, whole_class}
use Rattle.spiller.specs.Rematerialised.Wish.{Holding, Within}
use Rattle.spiller.specs.Spilled.{Change, OwnDefinition, Seats, as_tiny, becomes, block_changes, change, changes, copied_in, copied_out, copied_within, copy_change, effect_change, given, in_place_of, is_own_part, new_ids, numbered_change, place_change, seated, seated_operand, seats_from, setting_of, slot_change, spilled, spilled_block, stored, through_tiny, tied_reload, tinies_of, tiny_of, undefined_change, with_ids, with_tinies}
use Rattle.valid_laws.specs.Kept.{SpillKeepsFlags}
use Rattle.valid_laws.specs.Rules.{HasFlags}
use Rattle.valid_laws.proofs.Marks.{AllMarked, IsPlain, KeepsMarks, Marked, StaysOrPlain, bare-operand, changed-marked, fits-or, marked-append, marked-flat, marked-of, plain-marked}

-- operands in order, and implicit ones that are physical, by the shapes of opcodes

copy-ordered : (os : List Operand) → copy_fits os ≡ true → implicit_last os ≡ true
copy-ordered (operands.Reg d ∷ operands.Reg s ∷ []) e = go d.def d.implicit s.def s.implicit e
  where
    go : (a b c x : Bool) → ((a && not b) && (not c && not x)) ≡ true → cond b (list_all is_implicit_operand (operands.Reg s ∷ [])) (cond x true true) ≡ true
    go true false false false e = refl
    go true false false true e = absurd (cc)
    go true false true x e = absurd (cc)
    go true true c x e = absurd (cc)
    go false b c x e = absurd (cc)
copy-ordered _ e = absurd (cc)

undef-ordered : (os : List Operand) → implicit_def_fits os ≡ true → implicit_last os ≡ true
undef-ordered (operands.Reg d ∷ []) e = go d.implicit
  where
    go : (b : Bool) → cond b true true ≡ true
    go true = refl
    go false = refl
undef-ordered _ e = absurd (cc)

abbrev AreFixed : List Operand → Type 0
AreFixed os = (o : RegOp) → Member o (registers os) → o.implicit ≡ true → IsFixed o.loc

implicit-false : (o : RegOp) (b : Bool) → (b && not o.implicit) ≡ true → o.implicit ≡ true → ⊥
implicit-false o b e i = go b o.implicit e i
  where
    go : (b c : Bool) → (b && not c) ≡ true → c ≡ true → ⊥
    go true true h k = cc
    go true false h k = cc
    go false c h k = cc

copy-fixed : (os : List Operand) → copy_fits os ≡ true → AreFixed os
copy-fixed (operands.Reg d ∷ operands.Reg s ∷ []) e o m i =
    member-elim o d (s ∷ [])
    (λ q. absurd (implicit-false d d.def (first_of_both (is_definition d) (is_use s) e) (ap (λ (p : RegOp). p.implicit) (sym q) ∙ i)))
    (λ k. member-elim o s [] (λ q. absurd (implicit-false s (not s.def) (second_of_both (is_definition d) (is_use s) e) (ap (λ (p : RegOp). p.implicit) (sym q) ∙ i))) (λ j. absurd (member-none o j)) k) m
copy-fixed _ e o m i = absurd (cc)

undef-fixed : (os : List Operand) → implicit_def_fits os ≡ true → AreFixed os
undef-fixed (operands.Reg d ∷ []) e o m i = member-elim o d [] (λ q. absurd (implicit-false d d.def e (ap (λ (p : RegOp). p.implicit) (sym q) ∙ i))) (λ j. absurd (member-none o j)) m
undef-fixed _ e o m i = absurd (cc)

fixed-loc : (l : Loc) → not (is_virtual l) ≡ true → IsFixed l
fixed-loc (Virtual v) e = absurd (cc)
fixed-loc (Fixed r) e = tt

-- what V1 says of an instruction that isn't lowered away
record IsOrdered (i : Instr) : Type 0 where
  pub ordered : implicit_last i.operands ≡ true
  pub fixed : AreFixed i.operands

module _ (t : Target) (f : Function) (i : Instr) (e : Effect) (is : effect_of t i ≡ Some e) (away : is_lowered_away e ≡ false) (one : V1 t f i ≡ true) where
  by-roles : has_roles e ≡ true → IsOrdered i
  by-roles h =
      let z = met t f i e is one in
      record {
        ordered = (fit-operands t f i e is h one).0;
        fixed = λ o m k. fixed-loc o.loc (first_of_both _ _ (all-of (λ (p : RegOp). not (is_virtual p.loc) && not (is_silent z.0.effect)) o (implicit_registers i.operands) (filter-in (λ (p : RegOp). p.implicit) o (registers i.operands) m k) (fit t f i e is one h).implicit));
      }

  is-ordered : IsOrdered i
  is-ordered = go e refl
    where
      go : (x : Effect) → e ≡ x → IsOrdered i
      go effects.Copy g = let w = subst (λ x. operands_fit t f (met t f i e is one).0 i.operands x ≡ true) g (met t f i e is one).3 in record { ordered = copy-ordered i.operands w; fixed = copy-fixed i.operands w }
      go effects.ImplicitDef g = let w = subst (λ x. operands_fit t f (met t f i e is one).0 i.operands x ≡ true) g (met t f i e is one).3 in record { ordered = undef-ordered i.operands w; fixed = undef-fixed i.operands w }
      go effects.Phi g = absurd (let z : true ≡ false = sym (ap is_lowered_away g) ∙ away in cc)
      go effects.RegSequence g = absurd (let z : true ≡ false = sym (ap is_lowered_away g) ∙ away in cc)
      go effects.InsertSubreg g = absurd (let z : true ≡ false = sym (ap is_lowered_away g) ∙ away in cc)
      go x g = by-roles (ap has_roles g)

-- the registers behind the first operand of an instruction that names few have no flags
tail-plain : (t : Target) (i : Instr) → AreFew t i → Marked t i → (o : RegOp) (os : List Operand) → i.operands ≡ operands.Reg o ∷ os → (p : RegOp) → Member p (registers os) → IsPlain p
tail-plain t i (alone d are) marks o os is p m =
    let none : registers os ≡ [] = tails o d (registers os) [] (sym (ap registers is) ∙ are) in
    absurd (member-none p (subst (Member p) none m))
  where
    tails : (x y : RegOp) (xs ys : List RegOp) → ◌≡◌ {A = List RegOp} (x ∷ xs) (y ∷ ys) → xs ≡ ys
    tails x y xs ys e = cc
tail-plain t i (pair d s are reads bare) marks o os is p m = bare-operand t i bare marks p (subst (λ qs. Member p (registers qs)) (sym is) (later m))

drop-none : {X : Type 0} (xs : List X) → drop 0 xs ≡ xs
drop-none [] = refl
drop-none (x ∷ xs) = refl

-- what is made of one place

abbrev AllPlain : List Operand → Type 0
AllPlain os = (p : RegOp) → Member p (registers os) → IsPlain p

module _ (t : Target) where
  moves-marked : (x : Instr) (o : RegOp) (os : List Operand) → x.operands ≡ operands.Reg o ∷ os → IsPlain o → AllPlain os → Marked t x
  moves-marked x o os is p all = plain-marked t x (λ q m. member-elim q o (registers os) (λ e. subst IsPlain (sym e) p) (λ k. all q k) (subst (λ qs. Member q (registers qs)) is m))

  -- instructions of a change
  abbrev ChangeMarked : Change → Type 0
  ChangeMarked x = AllMarked t x.before × AllMarked t x.own × AllMarked t x.behind

module _ (s : Spilling) (low : IsLowered s.target s.func) (has : HasFlags s.target s.func) where
  abbrev t : Target
  t = s.target

  abbrev f : Function
  f = s.func

  -- an instruction of the function
  abbrev IsIn : Instr → Type 0
  IsIn i = (b : Block) × Member b f.blocks × Member i b.instrs

  marks : (i : Instr) → IsIn i → Marked t i
  marks i z = has z.0 i z.1 z.2

  ordered : (i : Instr) → IsIn i → IsOrdered i
  ordered i z =
      let e = known t i (low.lowered z.0 i z.1 z.2) in
      is-ordered t f i e.0.0 e.0.1 (sym (ap (passes is_lowered_away) e.0.1) ∙ e.1) (low.rules.shaped z.0 i z.1 z.2).operands

  few-of : (i : Instr) → IsIn i → (e : Effect) → effect_of t i ≡ Some e → is_silent e ≡ true → AreFew t i
  few-of i z e is silent =
      let k = known t i (low.lowered z.0 i z.1 z.2) in
      few t f i e is silent (sym (ap (passes is_lowered_away) is) ∙ k.1) (low.rules.shaped z.0 i z.1 z.2).operands

  own-slot : (x : Option IndexId) → AllPlain (in_own_slot s x)
  own-slot None p m = absurd (member-none p m)
  own-slot (Some x) p m = absurd (member-none p m)

  store-marked : (k : Option ClassId) (o : RegOp) (slot : List Operand) → IsPlain o → AllPlain slot → Marked t (store t k o slot)
  store-marked k o slot p all = moves-marked t (store t k o slot) o slot refl p all

  reload-marked : (k : Option ClassId) (o : RegOp) (slot : List Operand) → IsPlain o → AllPlain slot → Marked t (reload t k o slot)
  reload-marked k o slot p all = moves-marked t (reload t k o slot) o slot refl p all

  -- a repeated instruction

  if-served : (wish : Wish) (ds : List Instr) (d : Instr) → if_serves t wish ds ≡ Some d → Member d ds × ((k : ClassId) × (repeatable_class t d ≡ Some k))
  if-served wish [] d e = absurd (cc)
  if-served wish (x ∷ y ∷ ds) d e = absurd (cc)
  if-served wish (x ∷ []) d e = go (serves t wish (repeatable_class t x)) refl e
    where
      some-class : (w : Wish) (q : Option ClassId) → serves t w q ≡ true → (k : ClassId) × (q ≡ Some k)
      some-class w (Some k) h = (k, refl)
      some-class (Within (Some c)) None h = absurd (cc)
      some-class (Within None) None h = absurd (cc)
      some-class (Holding r) None h = absurd (cc)
      some-class w None h = absurd (cc)

      go : (u : Bool) → serves t wish (repeatable_class t x) ≡ u → cond u (Some x) None ≡ Some d → Member d (x ∷ []) × ((k : ClassId) × (repeatable_class t d ≡ Some k))
      go true h g =
          let same : x ≡ d = some-same x d g in
          (subst (λ y. Member y (x ∷ [])) same first, subst (λ y. (k : ClassId) × (repeatable_class t y ≡ Some k)) same (some-class wish (repeatable_class t x) h))
      go false h g = absurd (cc)

  repeated-marked : (r : Reading) (d : Instr) → repeated_for s r ≡ Some d → (o : RegOp) → IsPlain o → Marked t (repeated d o)
  repeated-marked r d e o p = by (does is_constant t d) refl z.1.1
    where
      z : Member d (reaching s r) × ((k : ClassId) × (repeatable_class t d ≡ Some k))
      z = if-served r.wish (reaching s r) d e

      here : IsIn d
      here =
          let y = filter-of (λ x. reaches s x r) d (flat_map (λ (b : Block). b.instrs) f.blocks) z.0 in
          let w = flat-of (λ (b : Block). b.instrs) d f.blocks y.0 in
          (w.0, w.1, w.2)

      constant : (q : Option Effect) → effect_of t d ≡ q → passes is_constant q ≡ true → (x : Effect) × (effect_of t d ≡ Some x) × (is_silent x ≡ true)
      constant None g h = absurd (cc)
      constant (Some effects.Const) g h = (effects.Const, g, refl)
      constant (Some effects.Addr) g h = (effects.Addr, g, refl)
      constant (Some x) g h = absurd (cc)

      shape : does is_constant t d ≡ true → (os : List Operand) → d.operands ≡ os → (k : ClassId) → whole_class t d os ≡ Some k → Marked t (repeated d o)
      shape c (operands.Reg a ∷ os) is k h =
          let x = constant (effect_of t d) refl c in
          let rest : drop 1 d.operands ≡ os = ap (drop 1) is ∙ drop-none os in
          moves-marked t (repeated d o) o (drop 1 d.operands) refl p (subst AllPlain (sym rest) (tail-plain t d (few-of d here x.0 x.1 x.2) (marks d here) a os is))
      shape c os is k h = absurd (cc)

      by : (u : Bool) → does is_constant t d ≡ u → cond u (whole_class t d d.operands) None ≡ Some z.1.0 → Marked t (repeated d o)
      by true c h = shape c d.operands refl z.1.0 h
      by false c h = absurd (cc)

  -- moves

  through-marked : (n c : ℕ) (i : Instr) (k : Option ClassId) (from to : List Operand) → AllPlain from → AllPlain to → ChangeMarked t (through_tiny s n c i k from to)
  through-marked n c i k from to a b = (tt, (reload-marked k (plain_definition (Virtual c) None) from (refl, refl) a, tt), (store-marked k (plain_use (Virtual c) None) to (refl, refl) b, tt))

  out-marked : (i : Instr) (d o : RegOp) → ChangeMarked t (copied_out s i d o)
  out-marked i d o = go (repeated_for s (copy_reading s i d o)) refl
    where
      go : (q : Option Instr) → repeated_for s (copy_reading s i d o) ≡ q → ChangeMarked t (elim q as (λ q. Change) [
        | None ↦ becomes (in_place_of i (reload s.target (class_beside s d d.loc) (plain_definition d.loc d.index) (in_own_slot s o.index)) ∷ [])
        | Some x ↦ record (becomes []) { before = repeated x (plain_definition d.loc d.index) ∷ [] }
      ])
      go None e = (tt, (reload-marked (class_beside s d d.loc) (plain_definition d.loc d.index) (in_own_slot s o.index) (refl, refl) (own-slot o.index), tt), tt)
      go (Some x) e = ((repeated-marked (copy_reading s i d o) x e (plain_definition d.loc d.index) (refl, refl), tt), tt, tt)

  copy-marked : (n c : ℕ) (i : Instr) (d o : RegOp) → Marked t i → ChangeMarked t (copy_change s n c i d o)
  copy-marked n c i d o m = go (is_own s o) (is_own s d)
    where
      within : (b : Bool) → ChangeMarked t (cond b (becomes []) (through_tiny s n c i (moving_class s d.index) (in_own_slot s o.index) (in_own_slot s d.index)))
      within true = (tt, tt, tt)
      within false = through-marked n c i (moving_class s d.index) (in_own_slot s o.index) (in_own_slot s d.index) (own-slot o.index) (own-slot d.index)

      go : (a b : Bool) → ChangeMarked t (cond a (cond b (copied_within s n c i d o) (copied_out s i d o)) (cond b (copied_in s i d o) (becomes (i ∷ []))))
      go true true = within (same_numbers (own_lanes s d.index) (own_lanes s o.index))
      go true false = out-marked i d o
      go false true = (tt, (store-marked (class_beside s o o.loc) (plain_use o.loc o.index) (in_own_slot s d.index) (refl, refl) (own-slot d.index), tt), tt)
      go false false = (tt, (m, tt), tt)

  slot-marked : (n c : ℕ) (i : Instr) (o : RegOp) (slot : List Operand) (through : List Operand → List Operand → Change) → Marked t i → ChangeMarked t (through (in_own_slot s o.index) slot) → ChangeMarked t (slot_change s n c i o slot through)
  slot-marked n c i o slot through m h = go (is_own s o) (is_own_part s o slot)
    where
      go : (a b : Bool) → ChangeMarked t (cond a (cond b (becomes []) (through (in_own_slot s o.index) slot)) (becomes (i ∷ [])))
      go true true = (tt, tt, tt)
      go true false = h
      go false b = (tt, (m, tt), tt)

  undef-marked : (i : Instr) (o : RegOp) → Marked t i → ChangeMarked t (undefined_change s i o)
  undef-marked i o m = go (not (is_own s o)) (is_live_behind s i o.index)
    where
      go : (a b : Bool) → ChangeMarked t (cond a (becomes (i ∷ [])) (cond b (becomes (in_place_of i (store s.target (part_class s.target o.index (own_class s)) (undef_use s.target (part_class s.target o.index (own_class s))) (in_own_slot s o.index)) ∷ [])) (becomes [])))
      go true b = (tt, (m, tt), tt)
      go false true = (tt, (store-marked (part_class t o.index (own_class s)) (undef_use t (part_class t o.index (own_class s))) (in_own_slot s o.index) (refl, refl) (own-slot o.index), tt), tt)
      go false false = (tt, tt, tt)

  -- tinies in place of the range

  seated-or : (x : Seats) (i : Instr) (n : ℕ) (r : Option Role) (o : RegOp) → StaysOrPlain o (seated s x i n r o)
  seated-or x i n r o = go (is_own s o) (tiny_of s x i n r o)
    where
      go : (b : Bool) (q : Option ℕ) → StaysOrPlain o (cond b (elim q as (λ q. RegOp) [ None ↦ o | Some c ↦ as_tiny o c ]) o)
      go true None = inl refl
      go true (Some c) = inr (refl, refl)
      go false q = inl refl

  seated-implicit : (x : Seats) (i : Instr) (n : ℕ) (r : Option Role) (o : RegOp) → (o.implicit ≡ true → IsFixed o.loc) → (seated s x i n r o).implicit ≡ o.implicit
  seated-implicit x i n r o fixed = go o.implicit refl
    where
      explicit : (b : Bool) (q : Option ℕ) → o.implicit ≡ false → (cond b (elim q as (λ q. RegOp) [ None ↦ o | Some c ↦ as_tiny o c ]) o).implicit ≡ o.implicit
      explicit true None e = refl
      explicit true (Some c) e = sym e
      explicit false q e = refl

      other : (l : Loc) → IsFixed l → is_range s.range l ≡ false
      other (Virtual v) h = absurd h
      other (Fixed q) h = refl

      go : (b : Bool) → o.implicit ≡ b → (seated s x i n r o).implicit ≡ o.implicit
      go false e = explicit (is_own s o) (tiny_of s x i n r o) e
      go true e = ap (λ b. (cond b (elim (tiny_of s x i n r o) as (λ q. RegOp) [ None ↦ o | Some c ↦ as_tiny o c ]) o).implicit) (other o.loc (fixed e))

  tinies-kept : (x : Seats) (i : Instr) → IsIn i → KeepsMarks (seated_operand s x i) t i
  tinies-kept x i z = record {
    fits = fits;
    stay = stay;
    register = register;
    ordered = (ordered i z).ordered;
  }
    where
      fits : (k : ℕ) (q : Option Role) (y : Operand) → flags_fit (q, y) ≡ true → flags_fit (q, seated_operand s x i (k, (q, y))) ≡ true
      fits k q (operands.Reg o) h = fits-or q o (seated s x i k q o) (seated-or x i k q o) h
      fits k q (operands.Imm w) h = h
      fits k q (operands.Block w) h = h
      fits k q (operands.Stack w) h = h
      fits k q (operands.FixedStack w) h = h
      fits k q (operands.Symbol w) h = h
      fits k q (operands.Index w) h = h
      fits k q (operands.Mask w) h = h

      stay : (k : ℕ) (q : Option Role) (y : Operand) → Member (q, y) (explicit_bound (explicit_roles (roles_of t i)) i.operands) → is_implicit_operand (seated_operand s x i (k, (q, y))) ≡ is_implicit_operand y
      stay k q (operands.Reg o) m = seated-implicit x i k q o ((ordered i z).fixed o (register-in o i.operands (bound-operand (explicit_roles (roles_of t i)) i.operands q (operands.Reg o) m)))
      stay k q (operands.Imm w) m = refl
      stay k q (operands.Block w) m = refl
      stay k q (operands.Stack w) m = refl
      stay k q (operands.FixedStack w) m = refl
      stay k q (operands.Symbol w) m = refl
      stay k q (operands.Index w) m = refl
      stay k q (operands.Mask w) m = refl

      same-register : (a b : RegOp) → operands.Reg a ≡ operands.Reg b → a ≡ b
      same-register a b e = cc

      register : (k : ℕ) (q : Option Role) (y : Operand) (o : RegOp) → operands.Reg o ≡ seated_operand s x i (k, (q, y)) → (d : RegOp) × (y ≡ operands.Reg d) × (d.implicit ≡ true → StaysOrPlain d o)
      register k q (operands.Reg d) o e = (d, refl, λ m. subst (StaysOrPlain d) (sym (same-register o (seated s x i k q d) e)) (seated-or x i k q d))
      register k q y o e = absurd (cc)

  tiny-marked : (x : Seats) (i : Instr) → IsIn i → Marked t (with_tinies s x i)
  tiny-marked x i z = changed-marked (seated_operand s x i) t i (tinies-kept x i z) (marks i z)

  -- any other place

  each-marked : {X : Type 0} (g : X → Instr) (xs : List X) → ((x : X) → Marked t (g x)) → AllMarked t (map g xs)
  each-marked g [] h = tt
  each-marked g (x ∷ xs) h = (h x, each-marked g xs h)

  own-marked : (x : Seats) (is : List Instr) → ((i : Instr) → Member i is → IsIn i) → AllMarked t (map (with_tinies s x) is)
  own-marked x [] h = tt
  own-marked x (i ∷ is) h = (tiny-marked x i (h i first), own-marked x is (λ j m. h j (later m)))

  given-marked : (is : List Instr) (p : ℕ × Variable) → Marked t (given s is p)
  given-marked is p = go (repeated_for s (way_reading s is p.1)) refl
    where
      go : (q : Option Instr) → repeated_for s (way_reading s is p.1) ≡ q → Marked t (elim q as (λ q. Instr) [ None ↦ reload s.target p.1.class (plain_definition (Virtual p.0) None) (in_own_slot s p.1.index) | Some d ↦ repeated d (plain_definition (Virtual p.0) None) ])
      go None e = reload-marked p.1.class (plain_definition (Virtual p.0) None) (in_own_slot s p.1.index) (refl, refl) (own-slot p.1.index)
      go (Some d) e = repeated-marked (way_reading s is p.1) d e (plain_definition (Virtual p.0) None) (refl, refl)

  stored-marked : (p : ℕ × OwnDefinition) → AllMarked t (stored s p)
  stored-marked p = go (is_live_behind s p.1.by p.1.index)
    where
      go : (b : Bool) → AllMarked t (cond b (store s.target p.1.class (plain_use (Virtual p.0) None) (in_own_slot s p.1.index) ∷ []) [])
      go true = (store-marked p.1.class (plain_use (Virtual p.0) None) (in_own_slot s p.1.index) (refl, refl) (own-slot p.1.index), tt)
      go false = tt

  tied-marked : (p : ℕ × OwnDefinition) → AllMarked t (tied_reload s p)
  tied-marked p =
      each-marked (λ x. reload s.target p.1.class (plain_definition (Virtual p.0) None) (in_own_slot s x.tied_use.index)) (filter (λ x. nat_eq x.number p.1.number) (tied_readings s p.1.by))
      (λ x. reload-marked p.1.class (plain_definition (Virtual p.0) None) (in_own_slot s x.tied_use.index) (refl, refl) (own-slot x.tied_use.index))

  place-marked : (c : ℕ) (is : List Instr) → ((i : Instr) → Member i is → IsIn i) → ChangeMarked t (place_change s c is)
  place-marked c is h =
      let x = seats_from s c is in (
        marked-append t (map (given s is) x.ways) (flat_map (tied_reload s) x.definitions) (each-marked (given s is) x.ways (given-marked is)) (marked-flat t (tied_reload s) x.definitions (λ p m. tied-marked p)),
        own-marked x is h,
        marked-flat t (stored s) x.definitions (λ p m. stored-marked p),
      )

  effect-marked : (n c : ℕ) (i : Instr) → IsIn i → ChangeMarked t (effect_change s n c i (effect_of t i) i.operands)
  effect-marked n c i z = by (effect_of t i) i.operands refl refl
    where
      m : Marked t i
      m = marks i z

      needless : (b : Bool) → ChangeMarked t (cond b (becomes []) (place_change s c (i ∷ [])))
      needless true = (tt, tt, tt)
      needless false = place-marked c (i ∷ []) (λ j k. member-elim j i [] (λ e. subst IsIn (sym e) z) (λ q. absurd (member-none j q)) k)

      by : (q : Option Effect) (os : List Operand) → effect_of t i ≡ q → i.operands ≡ os → ChangeMarked t (effect_change s n c i q os)
      by (Some effects.Copy) (operands.Reg d ∷ operands.Reg o ∷ os) e is = copy-marked n c i d o m
      by (Some effects.Spill) (operands.Reg o ∷ slot) e is =
          slot-marked n c i o slot (λ own other. through_tiny s n c i (moving_class s o.index) own other) m
          (through-marked n c i (moving_class s o.index) (in_own_slot s o.index) slot (own-slot o.index) (tail-plain t i (few-of i z effects.Spill e refl) m o slot is))
      by (Some effects.Reload) (operands.Reg o ∷ slot) e is =
          slot-marked n c i o slot (λ own other. through_tiny s n c i (moving_class s o.index) other own) m
          (through-marked n c i (moving_class s o.index) slot (in_own_slot s o.index) (tail-plain t i (few-of i z effects.Reload e refl) m o slot is) (own-slot o.index))
      by (Some effects.ImplicitDef) (operands.Reg o ∷ os) e is = undef-marked i o m
      by q os e is = needless (is_needless s i)

  change-marked : (n c : ℕ) (is : List Instr) → ((i : Instr) → Member i is → IsIn i) → ChangeMarked t (change s n c is)
  change-marked n c [] h = place-marked c [] h
  change-marked n c (i ∷ []) h = effect-marked n c i (h i first)
  change-marked n c (i ∷ j ∷ is) h = place-marked c (i ∷ j ∷ is) h

  -- all places

  ids-marked : (n : ℕ) (is : List Instr) → AllMarked t is → AllMarked t (with_ids n is)
  ids-marked n [] m = tt
  ids-marked n (i ∷ is) m = (m.0, ids-marked (suc n) is m.1)

  abbrev AllIn : List (List Instr) → Type 0
  AllIn [] = Unit {0}
  AllIn (p ∷ ps) = ((i : Instr) → Member i p → IsIn i) × AllIn ps

  places-in : (is : List Instr) → ((i : Instr) → Member i is → IsIn i) → AllIn (places_from t is)
  places-in [] w = tt
  places-in (i ∷ is) w = go (does is_terminator t i) (places-in is (λ j m. w j (later m)))
    where
      go : (b : Bool) → AllIn (places_from t is) → AllIn (cond b ((i ∷ is) ∷ []) ((i ∷ []) ∷ places_from t is))
      go true rest = (w, tt)
      go false rest = ((λ j m. member-elim j i [] (λ e. w j (subst (λ x. Member x (i ∷ is)) (sym e) first)) (λ q. absurd (member-none j q)) m), rest)

  changes-marked : (n c : ℕ) (ps : List (List Instr)) → AllIn ps → AllMarked t (flat_map (λ (x : Change). x.before ++ (x.own ++ x.behind)) (changes s n c ps))
  changes-marked n c [] a = tt
  changes-marked n c (p ∷ ps) a =
      let x = change s n c p in
      let y = numbered_change s n c p in
      let m = change-marked n c p a.0 in
      let rest = changes s (n + new_ids y) (c + length y.tinies) ps in
      marked-append t (y.before ++ (y.own ++ y.behind)) (flat_map (λ (x : Change). x.before ++ (x.own ++ x.behind)) rest)
      (marked-append t y.before (y.own ++ y.behind) (ids-marked n x.before m.0) (marked-append t y.own y.behind m.1 (ids-marked (n + length x.before) x.behind m.2)))
      (changes-marked (n + new_ids y) (c + length y.tinies) ps a.1)

  blocks-marked : (n c : ℕ) (bs : List Block) → ((b : Block) → Member b bs → Member b f.blocks) → (d : Block) (x : Instr) → Member d (map spilled_block (zip bs (block_changes s n c bs))) → Member x d.instrs → Marked t x
  blocks-marked n c [] w d x md mx = absurd (member-none d md)
  blocks-marked n c (b ∷ bs) w d x md mx =
      let xs = changes s n c (places_of t b) in
      let made = flat_map (λ (x : Change). x.before ++ (x.own ++ x.behind)) xs in
      member-elim d (record b { instrs = made }) (map spilled_block (zip bs (block_changes s (n + sum_by new_ids xs) (c + length (tinies_of xs)) bs)))
      (λ e. marked-of t x made (changes-marked n c (places_of t b) (places-in b.instrs (λ i m. (b, w b first, m)))) (subst (λ (q : Block). Member x q.instrs) e mx))
      (λ k. blocks-marked (n + sum_by new_ids xs) (c + length (tinies_of xs)) bs (λ y m. w y (later m)) d x k mx) md

  spilled-flags : HasFlags t (spilled s)
  unfolding spilled
  spilled-flags d x md mx = blocks-marked f.next_id (length f.classes) f.blocks (λ b m. m) d x md mx

pub spill-keeps-flags : SpillKeepsFlags
spill-keeps-flags t f g slots new v made low is has = subst (HasFlags t) (sym is.func) (spilled-flags (setting_of t f slots v is.facts) low has)
