-- What each instruction reads, moves and writes names the lanes of virtual registers that its operands name.
use Rattle.std.proofs.Common.{◌≡◌, ◌⊎◌, inl, inr, ℕ, zero, suc, Bool, true, false, cond, not, List, [], ◌∷◌, ◌++◌, Option, Some, None, map, filter, flat_map, length, refl, sym, ap, ◌∙◌, subst, arith}
use Rattle.std.specs.Prelude.{◌&&◌, nat_abs}
use Rattle.target_base.specs.declared.types.Effect.{Effect}
use Rattle.target_base.specs.declared.types.Role.{Role}
use Rattle.target_base.specs.declared.types.Role.TheVariants as roles
use Rattle.target_base.specs.declared.types.Target.{Target}
use Rattle.target_base.specs.Roles.{is_immediate, is_frame_or_symbol, is_slot, is_lanes, is_definition as is_definition_role, is_use as is_use_role}
use Rattle.target_base.proofs.Tests.{first_of_both, second_of_both}
use Rattle.meaning.specs.declared.types.Lane.TheVariants.{UnitLane}
use Rattle.meaning.specs.declared.types.Source.TheVariants.{FromLane, Undef}
use Rattle.meaning.specs.Perform.{condition_lane}
use Rattle.meaning.specs.Live.{Among as Member, here as first, there as later}
use Rattle.mir_func.specs.declared.func.RegOp.{RegOp}
use Rattle.mir_func.specs.declared.func.Operand.{Operand}
use Rattle.mir_func.specs.declared.func.Operand.TheVariants as operands
use Rattle.mir_func.specs.Value.{Function}
use Rattle.mir_func.specs.Binding.{registers, implicit_registers, definitions, immediate_of, is_definition, is_use, is_virtual}
use Rattle.mir_meaning.specs.Registers.{numbers, operand_lanes, operand_widths, undefined_lanes, use_sources}
use Rattle.mir_meaning.specs.Items.{uses, implicit_definitions, pick, undefined}
use Rattle.mir_meaning.specs.Rules.{fits_role, is_virtual_use, index_pairs}
use Rattle.instr_effects.specs.declared.acts.Act.{Act}
use Rattle.instr_effects.specs.declared.owner.Owner.{Owner}
use Rattle.instr_effects.specs.declared.owner.Owner.TheVariants as owners
use Rattle.instr_effects.specs.Owners.{owner_of, source_owner, operand_owners}
use Rattle.instr_effects.specs.Acts.{plain, moved_acts, definition_acts, result_acts, acts_of, use_owners, counted_owners, call_writes, unpreserved, is_call, explicit_uses, implicit_uses, implicit_owners, flag_owners, takes_some, tested_role, is_constant}
use Rattle.instr_effects.proofs.Members.{member-none, member-elim, left-in, right-in, in-either, flat-of, flat-in, filter-of, filter-in, map-of, map-in}
use Rattle.instr_effects.proofs.Operands.{given_owners_of}
use Rattle.instr_effects.proofs.Writes.{acts-units, located-long, no_call}
use Rattle.instr_effects.proofs.Defined.{definition-of, definition-in}
use Rattle.live_laws.proofs.Effects.Blocks.{filtered-of, filtered-in}
use Rattle.live_laws.proofs.Effects.Silent.{map-long}
use Rattle.live_laws.proofs.Touch.Exact.{plain-in, plain-of, use-of, use-in, Used, Defined, Exact, given-exact, filled-exact}

-- a call writes the units that its masks don't preserve
call-acts : (t : Target) (e : Effect) (os : List Operand) → is_call e ≡ true → acts_of (call_writes t e os) ≡ map (λ u. plain false (owners.Unit u)) (unpreserved t os)
call-acts t e os h = ap (λ b. acts_of (cond b (undefined false (map UnitLane (unpreserved t os))) [])) h ∙ acts-units (unpreserved t os)

-- operands by their roles

pub defined-by : (r : Role) (o : Operand) → is_definition_role r ≡ true → fits_role r o ≡ true → (d : RegOp) × (o ≡ operands.Reg d) × (is_definition d ≡ true)
defined-by (roles.Def k) (operands.Reg d) e h = (d, refl, h)
defined-by (roles.Early k) (operands.Reg d) e h = (d, refl, h)
defined-by r o e h = absurd (cc)

pub used-by : (r : Role) (o : Operand) → is_use_role r ≡ true → fits_role r o ≡ true → (u : RegOp) × (o ≡ operands.Reg u) × (is_use u ≡ true)
used-by (roles.Read k) (operands.Reg u) e h = (u, refl, h)
used-by (roles.Tied k n) (operands.Reg u) e h = (u, refl, h)
used-by r o e h = absurd (cc)

-- an operand that names no register
abbrev pub IsOther : Operand → Type 0
IsOther o = (os : List Operand) → registers (o ∷ os) ≡ registers os

-- operands of these roles are constants
abbrev pub IsConstantBy : (Role → Bool) → Type 0
IsConstantBy test = (r : Role) (o : Operand) → test r ≡ true → fits_role r o ≡ true → (is_constant o ≡ true) × IsOther o

pub immediate-by : IsConstantBy is_immediate
immediate-by roles.Imm (operands.Imm z) e h = (refl, λ os. refl)
immediate-by r o e h = absurd (cc)

pub object-by : IsConstantBy is_frame_or_symbol
object-by roles.Frame (operands.Stack n) e h = (refl, λ os. refl)
object-by roles.Frame (operands.FixedStack n) e h = (refl, λ os. refl)
object-by roles.Sym (operands.Symbol n) e h = (refl, λ os. refl)
object-by r o e h = absurd (cc)

pub slot-by : (r : Role) (o : Operand) → is_slot r ≡ true → fits_role r o ≡ true → (s : ℕ) × (o ≡ operands.Stack s)
slot-by roles.Slot (operands.Stack s) e h = (s, refl)
slot-by r o e h = absurd (cc)

pub lanes-by : (r : Role) (o : Operand) → is_lanes r ≡ true → fits_role r o ≡ true → IsOther o
lanes-by roles.Lanes (operands.Imm z) e h = λ os. refl
lanes-by roles.Lanes (operands.Index x) e h = λ os. refl
lanes-by r o e h = absurd (cc)

pub def-of : (d : RegOp) → is_definition d ≡ true → d.def ≡ true
def-of d e = first_of_both d.def (not d.implicit) e

pub not-true : (b : Bool) → not b ≡ true → b ≡ false
not-true true e = absurd (cc)
not-true false e = refl

pub plain-of-use : (u : RegOp) → is_use u ≡ true → u.def ≡ false
plain-of-use u e = not-true u.def (first_of_both (not u.def) (not u.implicit) e)

pub numbers-long : (n k : ℕ) → length (numbers n k) ≡ k
numbers-long n zero = refl
numbers-long n (suc k) = ap (λ m. suc m) (numbers-long (suc n) k)

picked-in : {X : Type 0} (k : ℕ) (x : X) (xs : List X) → Member x (pick k xs) → Member x xs
picked-in k x [] m = absurd (member-none x m)
picked-in zero x (y ∷ xs) m = member-elim x y [] (λ e. subst (λ z. Member x (z ∷ xs)) e first) (λ j. absurd (member-none x j)) m
picked-in (suc k) x (y ∷ xs) m = later (picked-in k x xs m)

none-in : (o : Owner) (os : List Owner) → Member (Some o) (map (λ x. None) os) → ⊥
none-in o os m = let z = map-of {B = Option Owner} (λ x. None) (Some o) os m in let e = z.2 in cc

module _ (t : Target) (f : Function) where
  pub owners-long : (o : RegOp) → length (operand_owners t f o) ≡ length (operand_widths t f o)
  owners-long o = map-long owner_of (operand_lanes t f o) ∙ sym (located-long t f o.loc o.index)

  -- the sources of a use
  abbrev pub given : RegOp → List (Option Owner)
  given u = map source_owner (use_sources t f u)

  pub given-long : (u : RegOp) → length (given u) ≡ length (operand_widths t f u)
  given-long u = map-long source_owner (use_sources t f u) ∙ map-long (cond u.undef (λ l. Undef) FromLane) (operand_lanes t f u) ∙ sym (located-long t f u.loc u.index)

  pub given-in : (u : RegOp) (o : Owner) → Member o (use_owners t f u) → Member (Some o) (given u)
  given-in u o m =
      let z = use-of t f o u m in
      subst (Member (Some o)) (sym (given_owners_of t f u ∙ ap (λ b. cond b (map (λ x. None) (operand_owners t f u)) (map Some (operand_owners t f u))) z.0)) (map-in Some o (operand_owners t f u) z.1)

  pub given-of : (u : RegOp) (o : Owner) → Member (Some o) (given u) → Member o (use_owners t f u)
  given-of u o m = go u.undef refl (subst (Member (Some o)) (given_owners_of t f u) m)
    where
      go : (b : Bool) → u.undef ≡ b → Member (Some o) (cond b (map (λ x. None) (operand_owners t f u)) (map Some (operand_owners t f u))) → Member o (use_owners t f u)
      go true e k = absurd (none-in o (operand_owners t f u) k)
      go false e k = use-in t f o u e (let z = map-of {B = Option Owner} Some (Some o) (operand_owners t f u) k in let g : o ≡ z.0 = some-same o z.0 z.2 in subst (λ x. Member x (operand_owners t f u)) (sym g) z.1)
        where
          some-same : (a b : Owner) → Some a ≡ Some b → a ≡ b
          some-same a b e = cc

  no-uses : (u : RegOp) (o : Owner) → Member u [] → Member o (use_owners t f u) → {A : Type 0} → A
  no-uses u o m k = absurd (member-none u m)

  -- a definition alone, whose lanes get nothing of lanes
  pub alone-exact : (early : Bool) (d : RegOp) → is_definition d ≡ true → Exact t f (d ∷ []) [] (definition_acts t f early d (map (λ x. None) (operand_owners t f d)))
  alone-exact early d e =
      given-exact t f d [] (def-of d e) (λ u m. absurd (member-none u m)) early (map (λ x. None) (operand_owners t f d)) (let n = map-long {Y = Option Owner} (λ x. None) (operand_owners t f d) in omega arith) (let n = map-long {Y = Option Owner} (λ x. None) (operand_owners t f d) in omega arith) (λ u o m k. absurd (member-none u m)) (λ v k m. absurd (none-in (owners.Range v k) (operand_owners t f d) m))

  pub plain-moves : (early : Bool) (os : List Owner) → moved_acts early os (map (λ x. None) os) ≡ map (plain early) os
  plain-moves early [] = refl
  plain-moves early (o ∷ os) = ap (λ acts. plain early o ∷ acts) (plain-moves early os)

  -- uses beside a whole definition are read

  pub together-exact : (d : RegOp) (us : List RegOp) (rs : List Owner) → is_definition d ≡ true → ((u : RegOp) → Member u us → u.def ≡ false) → rs ≡ flat_map (use_owners t f) us → Exact t f (d ∷ us) rs (map (plain false) (operand_owners t f d))
  together-exact d us rs e plains is =
      filled-exact t f d us (def-of d e) plains rs (λ u o m k. subst (Member o) (sym is) (flat-in (use_owners t f) o u us m k)) (λ v k m. let z = flat-of (use_owners t f) (owners.Range v k) us (subst (Member (owners.Range v k)) is m) in (z.0, z.1, z.2))

  all-uses : (us : List RegOp) → ((u : RegOp) → Member u us → u.def ≡ false) → filter (λ o. not o.def) us ≡ us
  all-uses [] h = refl
  all-uses (u ∷ us) h = ap (λ b. cond (not b) (u ∷ filter (λ o. not o.def) us) (filter (λ o. not o.def) us)) (h u first) ∙ ap (λ xs. u ∷ xs) (all-uses us (λ x m. h x (later m)))

  pub uses-of : (d : RegOp) (os : List Operand) → d.def ≡ true → ((u : RegOp) → Member u (registers os) → u.def ≡ false) → uses (operands.Reg d ∷ os) ≡ registers os
  uses-of d os e h = ap (λ b. cond (not b) (d ∷ filter (λ o. not o.def) (registers os)) (filter (λ o. not o.def) (registers os))) e ∙ all-uses (registers os) h

  pub pair-uses : (os : List Operand) (u : RegOp) → index_pairs os ≡ true → Member u (registers os) → u.def ≡ false
  pair-uses [] u e m = absurd (member-none u m)
  pair-uses (operands.Reg s ∷ operands.Index x ∷ os) u e m =
      member-elim u s (registers os) (λ g. ap (λ y. y.def) g ∙ plain-of-use s (first_of_both (is_use s) (is_virtual s.loc) (first_of_both (is_virtual_use s) (index_pairs os) e))) (λ k. pair-uses os u (second_of_both (is_virtual_use s) (index_pairs os) e) k) m
  pair-uses os u e m = absurd (cc)

  -- counted instructions

  module _ (e : Effect) (rs : List Role) (os : List Operand) (fixed : (o : RegOp) → Member o (implicit_registers os) → is_virtual o.loc ≡ false) where
    abbrev X : List Act
    X = flat_map (λ d. result_acts t f d.0 d.1) (definitions rs os)

    abbrev Y : List Act
    Y = flat_map (λ o. map (plain false) (operand_owners t f o)) (implicit_definitions os)

    abbrev Z : List Act
    Z = acts_of (call_writes t e os)

    result-in : (early : Bool) (d : RegOp) (o : Owner) → Member o (operand_owners t f d) → (a : Act) × Member a (result_acts t f early d) × (a.lane ≡ o)
    result-in early d o m =
        let z = plain-in early o (operand_owners t f d) m in
        (z.0, left-in z.0 (map (plain early) (operand_owners t f d)) (map (plain early) (map owner_of (undefined_lanes t f d))) z.1, z.2)

    result-of : (early : Bool) (d : RegOp) (a : Act) → Member a (result_acts t f early d) → (Member a.lane (operand_owners t f d) ⊎ Member a.lane (map owner_of (undefined_lanes t f d))) × (a.from ≡ None)
    result-of early d a m = go (in-either a (map (plain early) (operand_owners t f d)) (map (plain early) (map owner_of (undefined_lanes t f d))) m)
      where
        go : Member a (map (plain early) (operand_owners t f d)) ⊎ Member a (map (plain early) (map owner_of (undefined_lanes t f d))) → (Member a.lane (operand_owners t f d) ⊎ Member a.lane (map owner_of (undefined_lanes t f d))) × (a.from ≡ None)
        go (inl k) = let z = plain-of early a (operand_owners t f d) k in (inl z.0, z.1)
        go (inr k) = let z = plain-of early a (map owner_of (undefined_lanes t f d)) k in (inr z.0, z.1)

    call-of : (a : Act) → Member a Z → ((v k : ℕ) → a.lane ≡ owners.Range v k → ⊥) × (a.from ≡ None)
    call-of a m = go (is_call e) refl
      where
        go : (b : Bool) → is_call e ≡ b → ((v k : ℕ) → a.lane ≡ owners.Range v k → ⊥) × (a.from ≡ None)
        go true h =
            let z = map-of (λ u. plain false (owners.Unit u)) a (unpreserved t os) (subst (Member a) (call-acts t e os h) m) in
            (λ v k g. let n : owners.Unit z.0 ≡ owners.Range v k = sym (ap (λ b. b.lane) z.2) ∙ g in cc, ap (λ b. b.from) z.2)
        go false h = absurd (member-none a (subst (Member a) (no_call t e os h) m))

    written : (b : Bool) (d : RegOp) (o : Owner) → Member d (registers os) → d.def ≡ true → d.implicit ≡ b → Member o (operand_owners t f d) → (a : Act) × Member a (X ++ (Y ++ Z)) × (a.lane ≡ o)
    written true d o m e h j =
        let z = plain-in false o (operand_owners t f d) j in
        let there = filter-in (λ x. x.def) d (implicit_registers os) (filter-in (λ x. x.implicit) d (registers os) m h) e in
        (z.0, right-in z.0 X (Y ++ Z) (left-in z.0 Y Z (flat-in (λ x. map (plain false) (operand_owners t f x)) z.0 d (implicit_definitions os) there z.1)), z.2)
    written false d o m e h j =
        let there = definition-in rs os d (filter-in (λ x. x.def && not x.implicit) d (registers os) m (ap (λ b. b && not d.implicit) e ∙ ap not h)) in
        let z = result-in there.0.0 there.0.1 o (subst (λ x. Member o (operand_owners t f x)) there.2 j) in
        (z.0, left-in z.0 X (Y ++ Z) (flat-in (λ x. result_acts t f x.0 x.1) z.0 there.0 (definitions rs os) there.1 z.1), z.2)

    act-of : (a : Act) → Member a (X ++ (Y ++ Z)) → ((v k : ℕ) → a.lane ≡ owners.Range v k → Defined t f (registers os) (owners.Range v k)) × (a.from ≡ None)
    act-of a m = go (in-either a X (Y ++ Z) m)
      where
        late : Member a Y ⊎ Member a Z → ((v k : ℕ) → a.lane ≡ owners.Range v k → Defined t f (registers os) (owners.Range v k)) × (a.from ≡ None)
        late (inl j) =
            let z = flat-of (λ x. map (plain false) (operand_owners t f x)) a (implicit_definitions os) j in
            let y = filter-of (λ x. x.def) z.0 (implicit_registers os) z.1 in
            let x = plain-of false a (operand_owners t f z.0) z.2 in
            (λ v k g. (z.0, (filter-of (λ q. q.implicit) z.0 (registers os) y.0).0, y.1, inl (subst (λ o. Member o (operand_owners t f z.0)) g x.0)), x.1)
        late (inr j) = let z = call-of a j in (λ v k g. absurd (z.0 v k g), z.1)

        moved : (d : RegOp) (o : Owner) → a.lane ≡ o → Member a.lane (operand_owners t f d) ⊎ Member a.lane (map owner_of (undefined_lanes t f d)) → Member o (operand_owners t f d) ⊎ Member o (map owner_of (undefined_lanes t f d))
        moved d o g (inl j) = inl (subst (λ q. Member q (operand_owners t f d)) g j)
        moved d o g (inr j) = inr (subst (λ q. Member q (map owner_of (undefined_lanes t f d))) g j)

        go : Member a X ⊎ Member a (Y ++ Z) → ((v k : ℕ) → a.lane ≡ owners.Range v k → Defined t f (registers os) (owners.Range v k)) × (a.from ≡ None)
        go (inl j) =
            let z = flat-of (λ x. result_acts t f x.0 x.1) a (definitions rs os) j in
            let d = z.0.1 in
            let y = filter-of (λ x. x.def && not x.implicit) d (registers os) (definition-of rs os z.0 z.1) in
            let x = result-of z.0.0 d a z.2 in
            (λ v k g. (d, y.0, first_of_both d.def (not d.implicit) y.1, moved d (owners.Range v k) g x.0), x.1)
        go (inr j) = late (in-either a Y Z j)

    abbrev R : List Owner
    R = counted_owners t f e rs os

    abbrev role : Option Role
    role = tested_role e rs

    abbrev lane : ℕ
    lane = condition_lane (nat_abs (immediate_of os))

    read : (u : RegOp) (o : Owner) → Member u (registers os) → u.def ≡ false → is_virtual u.loc ≡ true → Member o (use_owners t f u) → Member o R
    read u o m e w j = go u.implicit refl
      where
        go : (b : Bool) → u.implicit ≡ b → Member o R
        go true h = absurd (let g = fixed u (filter-in (λ x. x.implicit) u (registers os) m h) in cc)
        go false h = left-in o (flat_map (use_owners t f) (explicit_uses os)) (implicit_owners t f role lane (implicit_uses os)) (flat-in (use_owners t f) o u (explicit_uses os) (filter-in (λ x. not x.def && not x.implicit) u (registers os) m (ap (λ b. not b && not u.implicit) e ∙ ap not h)) j)

    implicit-there : (u : RegOp) → Member u (implicit_uses os) → Member u (registers os)
    implicit-there u m = (filter-of (λ x. x.implicit) u (registers os) (filter-of (λ x. not x.def) u (implicit_registers os) m).0).0

    flag-of : (u : RegOp) (o : Owner) → Member o (flag_owners t f lane u) → Member o (use_owners t f u)
    flag-of u o m = let z = filtered-of source_owner o (pick lane (use_sources t f u)) m in filtered-in source_owner z.0 o (use_sources t f u) (picked-in lane z.0 (use_sources t f u) z.1) z.2

    read-of : (o : Owner) → Member o R → Used t f (registers os) o
    read-of o m = go (in-either o (flat_map (use_owners t f) (explicit_uses os)) (implicit_owners t f role lane (implicit_uses os)) m)
      where
        implicit : Member o (flat_map (flag_owners t f lane) (filter (takes_some role) (implicit_uses os))) ⊎ Member o (flat_map (use_owners t f) (filter (λ x. not (takes_some role x)) (implicit_uses os))) → Used t f (registers os) o
        implicit (inl j) =
            let z = flat-of (flag_owners t f lane) o (filter (takes_some role) (implicit_uses os)) j in
            (z.0, implicit-there z.0 (filter-of (takes_some role) z.0 (implicit_uses os) z.1).0, flag-of z.0 o z.2)
        implicit (inr j) =
            let z = flat-of (use_owners t f) o (filter (λ x. not (takes_some role x)) (implicit_uses os)) j in
            (z.0, implicit-there z.0 (filter-of (λ x. not (takes_some role x)) z.0 (implicit_uses os) z.1).0, z.2)

        go : Member o (flat_map (use_owners t f) (explicit_uses os)) ⊎ Member o (implicit_owners t f role lane (implicit_uses os)) → Used t f (registers os) o
        go (inl j) =
            let z = flat-of (use_owners t f) o (explicit_uses os) j in
            (z.0, (filter-of (λ x. not x.def && not x.implicit) z.0 (registers os) z.1).0, z.2)
        go (inr j) = implicit (in-either o (flat_map (flag_owners t f lane) (filter (takes_some role) (implicit_uses os))) (flat_map (use_owners t f) (filter (λ x. not (takes_some role x)) (implicit_uses os))) j)

    pub counted-exact : Exact t f (registers os) R (X ++ (Y ++ Z))
    counted-exact = record {
      written = λ d o m e j. written d.implicit d o m e refl j;
      used = λ u o m e w j. inl (read u o m e w j);
      writes = λ a v k m e. (act-of a m).0 v k e;
      moves = λ a v k m e. absurd (let g = sym (act-of a m).1 ∙ e in cc);
      reads = λ v k m. read-of (owners.Range v k) m;
    }
