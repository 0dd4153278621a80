-- An instruction none of whose operands names a range does nothing to its lanes.
use Rattle.std.proofs.lemmas.Option.{same_Some}
use Rattle.std.proofs.Common.{◌≡◌, ℕ, zero, suc, Bool, true, false, cond, not, List, [], ◌∷◌, ◌++◌, Option, Some, None, map, filter, filter_map, flat_map, length, refl, sym, ap, ◌∙◌, subst, eqb-true}
use Rattle.std.specs.Prelude.{◌&&◌, nat_abs, nat_eq, option_and_then, sum}
use Rattle.target_base.specs.declared.types.Effect.{Effect}
use Rattle.target_base.specs.declared.types.Effect.TheVariants as effects
use Rattle.target_base.specs.declared.types.OpcodeDesc.{OpcodeDesc}
use Rattle.target_base.specs.declared.types.Role.{Role}
use Rattle.target_base.specs.declared.types.Target.{Target}
use Rattle.target_base.specs.Roles.{is_silent}
use Rattle.meaning.specs.declared.types.Lane.TheVariants.{UnitLane}
use Rattle.meaning.specs.Live.{Among as Member, here as first, there as later}
use Rattle.meaning.specs.Perform.{condition_lane}
use Rattle.mir_func.specs.declared.func.Instr.{Instr}
use Rattle.mir_func.specs.declared.func.Operand.{Operand}
use Rattle.mir_func.specs.declared.func.Operand.TheVariants as operands
use Rattle.mir_func.specs.declared.func.RegOp.{RegOp}
use Rattle.mir_func.specs.Binding.{as_register, definitions, immediate_of, implicit_registers, is_early_clobber, known_opcode, puts_together, registers}
use Rattle.mir_func.specs.Value.{Function}
use Rattle.mir_meaning.specs.declared.writing.LaneDef.{LaneDef}
use Rattle.mir_meaning.specs.Items.{constant_lanes, constant_of, copied, defined_undef, given_constant, implicit_definitions, pick, reloaded, silent_reads, undefined, uses}
use Rattle.mir_meaning.specs.Paths.{Certain, Into, Unused, has, is_some_number, move_of, use_of, writing_of}
use Rattle.mir_meaning.specs.Points.{is_range}
use Rattle.mir_meaning.specs.Registers.{operand_lanes, operand_widths, undefined_lanes, use_sources}
use Rattle.instr_effects.specs.declared.acts.Act.{Act}
use Rattle.instr_effects.specs.declared.owner.Owner.{Owner}
use Rattle.instr_effects.specs.declared.owner.Owner.TheVariants as owners
use Rattle.instr_effects.specs.Acts.{acts_of, call_writes, counted_acts, counted_owners, definition_acts, effect_acts, effect_owners, entered_reads, entered_writes, explicit_uses, filled_whole, flag_owners, implicit_owners, implicit_uses, is_call, is_constant, moved_acts, plain, read_owners, result_acts, silent_acts, slot_numbers, stored, takes_some, tested_role, unpreserved, use_owners}
use Rattle.instr_effects.specs.Owners.{operand_owners, owner_of, source_owner}
use Rattle.instr_effects.specs.Steps.{Numbering, act_reading, act_readings, act_writing, act_writings, is_unnumbered, writing}
use Rattle.instr_effects.proofs.Defined.{definition-of}
use Rattle.instr_effects.proofs.Known.{reads_known, reads_unknown, writes_known, writes_unknown}
use Rattle.instr_effects.proofs.Members.{either-elim, filter-of, flat-of, map-of, member-elim, member-none}
use Rattle.instr_effects.proofs.Readings.{other_read, together_read}
use Rattle.instr_effects.proofs.Writes.{acts-counted, acts-defined, acts-reloaded, acts-stored, acts-undef, acts-undefined, acts-units, constants-none, no_call}
use Rattle.live_laws.proofs.Effects.Blocks.{filtered-in, filtered-of}
use Rattle.live_laws.proofs.Effects.Lists.{any-in}
use Rattle.live_laws.proofs.Touch.Effects.{given, given-of}
use Rattle.live_laws.proofs.Touch.Exact.{move-of, operand-range, other-range, plain-of, use-of}
use Rattle.edit_laws.specs.Codes.{step_in}
use Rattle.live_edits.specs.Aside.{any_names, names_range}

picked-in : {X : Type 0} (k : ℕ) (x : X) (xs : List X) → Member x (pick k xs) → Member x xs
picked-in k x [] m = absurd (member-none x m)
picked-in zero x (y ∷ xs) m = member-elim x y [] (λ e. subst (λ z. Member x (z ∷ xs)) e first) (λ j. absurd (member-none x j)) m
picked-in (suc k) x (y ∷ xs) m = later (picked-in k x xs m)

module _ (t : Target) (f : Function) (v k : ℕ) where
  abbrev own : Owner
  own = owners.Range v k

  -- a register operand names the range
  abbrev IsNamed : List Operand → Type 0
  IsNamed os = (u : RegOp) × Member u (registers os) × (is_range v u.loc ≡ true)

  -- where an act names the lane, an operand does
  abbrev Of : List Operand → Act → Type 0
  Of os a = (a.lane ≡ own → IsNamed os) × (a.from ≡ Some own → IsNamed os)

  abbrev AllOf : List Operand → List Act → Type 0
  AllOf os acts = (a : Act) → Member a acts → Of os a

  all-joined : (os : List Operand) (xs ys : List Act) → AllOf os xs → AllOf os ys → AllOf os (xs ++ ys)
  all-joined os xs ys h g a m = either-elim a xs ys (h a) (g a) m

  no-acts : (os : List Operand) → AllOf os []
  no-acts os a m = absurd (member-none a m)

  plains : (os : List Operand) (early : Bool) (ls : List Owner) → (Member own ls → IsNamed os) → AllOf os (map (plain early) ls)
  plains os early ls h a m = let z = plain-of early a ls m in (λ e. h (subst (λ p. Member p ls) e z.0), λ e. absurd (let g = sym z.1 ∙ e in cc))

  moves : (os : List Operand) (early : Bool) (ls : List Owner) (ss : List (Option Owner)) → (Member own ls → IsNamed os) → (Member (Some own) ss → IsNamed os) → AllOf os (moved_acts early ls ss)
  moves os early ls ss h g a m = let z = move-of early a ls ss m in (λ e. h (subst (λ p. Member p ls) e z.0), λ e. g (subst (λ q. Member q ss) e z.1))

  own-lane : (os : List Operand) (u : RegOp) → Member u (registers os) → Member own (operand_owners t f u) → IsNamed os
  own-lane os u m j = (u, m, operand-range t f v k u j)

  beside : (os : List Operand) (u : RegOp) → Member u (registers os) → Member own (map owner_of (undefined_lanes t f u)) → IsNamed os
  beside os u m j = (u, m, other-range t f v k u j)

  read-lane : (os : List Operand) (u : RegOp) → Member u (registers os) → Member own (use_owners t f u) → IsNamed os
  read-lane os u m j = own-lane os u m (use-of t f own u j).1

  given-acts : (os : List Operand) (early : Bool) (d : RegOp) (ss : List (Option Owner)) → Member d (registers os) → (Member (Some own) ss → IsNamed os) → AllOf os (definition_acts t f early d ss)
  given-acts os early d ss m g =
      all-joined os (moved_acts early (operand_owners t f d) ss) (map (plain early) (map owner_of (undefined_lanes t f d)))
      (moves os early (operand_owners t f d) ss (own-lane os d m) g) (plains os early (map owner_of (undefined_lanes t f d)) (beside os d m))

  results-of : (os : List Operand) (early : Bool) (d : RegOp) → Member d (registers os) → AllOf os (result_acts t f early d)
  results-of os early d m =
      all-joined os (map (plain early) (operand_owners t f d)) (map (plain early) (map owner_of (undefined_lanes t f d)))
      (plains os early (operand_owners t f d) (own-lane os d m)) (plains os early (map owner_of (undefined_lanes t f d)) (beside os d m))

  -- silent instructions

  copied-of : (os : List Operand) → AllOf os (acts_of (copied t f os))
  copied-of (operands.Reg d ∷ operands.Reg s ∷ os) =
      let all : List Operand = operands.Reg d ∷ operands.Reg s ∷ os in
      subst (AllOf all) (sym (acts-defined t f false d (use_sources t f s))) (given-acts all false d (given t f s) first (λ j. read-lane all s (later first) (given-of t f s own j)))
  copied-of os = no-acts os

  undef-of : (os : List Operand) → AllOf os (acts_of (defined_undef t f os))
  undef-of (operands.Reg d ∷ os) = subst (AllOf (operands.Reg d ∷ os)) (sym (acts-undef t f d)) (results-of (operands.Reg d ∷ os) false d first)
  undef-of os = no-acts os

  whole-of : (os : List Operand) → AllOf os (acts_of (filled_whole t f os))
  whole-of (operands.Reg d ∷ os) = subst (AllOf (operands.Reg d ∷ os)) (sym (acts-undefined false (operand_lanes t f d))) (plains (operands.Reg d ∷ os) false (operand_owners t f d) (own-lane (operands.Reg d ∷ os) d first))
  whole-of os = no-acts os

  no-source : (d : RegOp) (b : Bool) → Member (Some own) (cond b (map (λ (x : Owner). None) (operand_owners t f d)) []) → ⊥
  no-source d true m = let z = map-of {B = Option Owner} (λ (x : Owner). None) (Some own) (operand_owners t f d) m in let e : Some own ≡ None = z.2 in cc
  no-source d false m = member-none {A = Option Owner} (Some own) m

  constant-of : (early : Bool) (os : List Operand) → AllOf os (acts_of (given_constant t f early os))
  constant-of early (operands.Reg d ∷ o ∷ os) =
      let all : List Operand = operands.Reg d ∷ o ∷ os in
      let w = sum (operand_widths t f d) in
      subst (AllOf all) (sym (acts-defined t f early d (constant_lanes t f d (constant_of w o))))
      (given-acts all early d (map source_owner (constant_lanes t f d (constant_of w o))) first (λ j. absurd (no-source d (is_constant o) (subst (Member (Some own)) (constants-none t f d w o) j))))
  constant-of early os = no-acts os

  no-slot : (s : ℕ) (ks : List ℕ) → Member own (map (owners.Slot s) ks) → ⊥
  no-slot s ks m = let z = map-of (owners.Slot s) own ks m in let e : own ≡ owners.Slot s z.0 = z.2 in cc

  no-slots : (s : ℕ) (ks : List ℕ) → Member (Some own) (map Some (map (owners.Slot s) ks)) → ⊥
  no-slots s ks m =
      let z = map-of {B = Option Owner} Some (Some own) (map (owners.Slot s) ks) m in
      let y = map-of (owners.Slot s) z.0 ks z.1 in
      let e : Some own ≡ Some (owners.Slot s y.0) = z.2 ∙ ap (λ q. Some q) y.2 in cc

  stored-of : (os : List Operand) → AllOf os (acts_of (stored t f os))
  stored-of (operands.Reg u ∷ operands.Stack s ∷ n ∷ os) =
      let all : List Operand = operands.Reg u ∷ operands.Stack s ∷ n ∷ os in
      let count = length (use_sources t f u) in
      subst (AllOf all) (sym (acts-stored t f u s n count refl))
      (moves all false (map (owners.Slot s) (slot_numbers t count n)) (given t f u) (λ j. absurd (no-slot s (slot_numbers t count n) j)) (λ j. read-lane all u first (given-of t f u own j)))
  stored-of os = no-acts os

  reloaded-of : (early : Bool) (os : List Operand) → AllOf os (acts_of (reloaded t f early os))
  reloaded-of early (operands.Reg d ∷ operands.Stack s ∷ n ∷ os) =
      let all : List Operand = operands.Reg d ∷ operands.Stack s ∷ n ∷ os in
      let count = length (operand_owners t f d) in
      subst (AllOf all) (sym (acts-reloaded t f early d s n count refl))
      (given-acts all early d (map Some (map (owners.Slot s) (slot_numbers t count n))) first (λ j. absurd (no-slots s (slot_numbers t count n) j)))
  reloaded-of early os = no-acts os

  silent-of : (e : Effect) (early : Bool) (os : List Operand) → AllOf os (acts_of (silent_acts t f e early os))
  silent-of effects.Phi early os = undef-of os
  silent-of effects.RegSequence early os = whole-of os
  silent-of effects.InsertSubreg early os = whole-of os
  silent-of effects.Spill early os = stored-of os
  silent-of effects.Copy early os = copied-of os
  silent-of effects.ImplicitDef early os = undef-of os
  silent-of effects.Const early os = constant-of early os
  silent-of effects.Addr early os = constant-of early os
  silent-of effects.Reload early os = reloaded-of early os
  silent-of _ early os = no-acts os

  -- counted ones

  module _ (e : Effect) (rs : List Role) (os : List Operand) where
    abbrev X : List Act
    X = flat_map (λ d. result_acts t f d.0 d.1) (definitions rs os)

    abbrev Y : List Act
    Y = flat_map (λ o. map (plain false) (operand_owners t f o)) (implicit_definitions os)

    abbrev Z : List Act
    Z = acts_of (call_writes t e os)

    explicit-of : AllOf os X
    explicit-of a m =
        let z = flat-of (λ x. result_acts t f x.0 x.1) a (definitions rs os) m in
        results-of os z.0.0 z.0.1 (filter-of (λ x. x.def && not x.implicit) z.0.1 (registers os) (definition-of rs os z.0 z.1)).0 a z.2

    implicit-of : AllOf os Y
    implicit-of a m =
        let z = flat-of (λ x. map (plain false) (operand_owners t f x)) a (implicit_definitions os) m in
        let y = filter-of (λ x. x.def) z.0 (implicit_registers os) z.1 in
        plains os false (operand_owners t f z.0) (own-lane os z.0 (filter-of (λ q. q.implicit) z.0 (registers os) y.0).0) a z.2

    no-unit : (us : List ℕ) → AllOf os (map (λ u. plain false (owners.Unit u)) us)
    no-unit us a m =
        let z = map-of (λ u. plain false (owners.Unit u)) a us m in
        (λ g. absurd (let n : owners.Unit z.0 ≡ own = sym (ap (λ b. b.lane) z.2) ∙ g in cc), λ g. absurd (let n : None ≡ Some own = sym (ap (λ b. b.from) z.2) ∙ g in cc))

    call-of : AllOf os Z
    call-of = go (is_call e) refl
      where
        go : (b : Bool) → is_call e ≡ b → AllOf os Z
        go true h = subst (AllOf os) (sym (ap (λ b. acts_of (cond b (undefined false (map UnitLane (unpreserved t os))) [])) h ∙ acts-units (unpreserved t os))) (no-unit (unpreserved t os))
        go false h = subst (AllOf os) (sym (no_call t e os h)) (no-acts os)

    counted-of : AllOf os (acts_of (counted_acts t f e rs os))
    counted-of = subst (AllOf os) (sym (acts-counted t f e rs os)) (all-joined os X (Y ++ Z) explicit-of (all-joined os Y Z implicit-of call-of))

    abbrev role : Option Role
    role = tested_role e rs

    abbrev lane : ℕ
    lane = condition_lane (nat_abs (immediate_of os))

    implicit-there : (u : RegOp) → Member u (implicit_uses os) → Member u (registers os)
    implicit-there u m = (filter-of (λ x. x.implicit) u (registers os) (filter-of (λ x. not x.def) u (implicit_registers os) m).0).0

    flag-of : (u : RegOp) → Member own (flag_owners t f lane u) → Member own (use_owners t f u)
    flag-of u m = let z = filtered-of source_owner own (pick lane (use_sources t f u)) m in filtered-in source_owner z.0 own (use_sources t f u) (picked-in lane z.0 (use_sources t f u) z.1) z.2

    counted-read : Member own (counted_owners t f e rs os) → IsNamed os
    counted-read m = either-elim own (flat_map (use_owners t f) (explicit_uses os)) (implicit_owners t f role lane (implicit_uses os)) explicit implicit m
      where
        explicit : Member own (flat_map (use_owners t f) (explicit_uses os)) → IsNamed os
        explicit j = let z = flat-of (use_owners t f) own (explicit_uses os) j in read-lane os z.0 (filter-of (λ x. not x.def && not x.implicit) z.0 (registers os) z.1).0 z.2

        tested : Member own (flat_map (flag_owners t f lane) (filter (takes_some role) (implicit_uses os))) → IsNamed os
        tested j =
            let z = flat-of (flag_owners t f lane) own (filter (takes_some role) (implicit_uses os)) j in
            read-lane os z.0 (implicit-there z.0 (filter-of (takes_some role) z.0 (implicit_uses os) z.1).0) (flag-of z.0 z.2)

        untested : Member own (flat_map (use_owners t f) (filter (λ x. not (takes_some role x)) (implicit_uses os))) → IsNamed os
        untested j =
            let z = flat-of (use_owners t f) own (filter (λ x. not (takes_some role x)) (implicit_uses os)) j in
            read-lane os z.0 (implicit-there z.0 (filter-of (λ x. not (takes_some role x)) z.0 (implicit_uses os) z.1).0) z.2

        implicit : Member own (implicit_owners t f role lane (implicit_uses os)) → IsNamed os
        implicit j = either-elim own (flat_map (flag_owners t f lane) (filter (takes_some role) (implicit_uses os))) (flat_map (use_owners t f) (filter (λ x. not (takes_some role x)) (implicit_uses os))) tested untested j

    silent-read : Member own (read_owners (silent_reads t f e os)) → IsNamed os
    silent-read m = go (puts_together e) refl
      where
        go : (b : Bool) → puts_together e ≡ b → IsNamed os
        go true h = let z = flat-of (use_owners t f) own (uses os) (subst (Member own) (together_read t f e os h) m) in read-lane os z.0 (filter-of (λ o. not o.def) z.0 (registers os) z.1).0 z.2
        go false h = absurd (member-none own (subst (Member own) (other_read t f e os h) m))

    -- by the effect

    reads-of : Member own (effect_owners t f e rs os) → IsNamed os
    reads-of = go (is_silent e)
      where
        go : (b : Bool) → Member own (cond b (read_owners (silent_reads t f e os)) (counted_owners t f e rs os)) → IsNamed os
        go true = silent-read
        go false = counted-read

    acts-are : AllOf os (acts_of (effect_acts t f e rs os))
    acts-are = go (is_silent e)
      where
        go : (b : Bool) → AllOf os (acts_of (cond b (silent_acts t f e (is_early_clobber rs) os) (counted_acts t f e rs os)))
        go true = silent-of e (is_early_clobber rs) os
        go false = counted-of

  module _ (i : Instr) where
    abbrev all : List Operand
    all = i.operands

    entered-read : Member own (read_owners (entered_reads t f i)) → IsNamed all
    entered-read m = go (known_opcode t i.op) refl
      where
        go : (q : Option OpcodeDesc) → known_opcode t i.op ≡ q → IsNamed all
        go None e = absurd (member-none own (subst (Member own) (reads_unknown t f i e) m))
        go (Some d) e = reads-of d.effect d.roles all (subst (Member own) (reads_known t f i d e) m)

    entered-acts : AllOf all (acts_of (entered_writes t f i))
    entered-acts = go (known_opcode t i.op) refl
      where
        go : (q : Option OpcodeDesc) → known_opcode t i.op ≡ q → AllOf all (acts_of (entered_writes t f i))
        go None e = subst (AllOf all) (sym (writes_unknown t f i e)) (no-acts all)
        go (Some d) e = subst (AllOf all) (sym (writes_known t f i d e)) (acts-are d.effect d.roles all)

register-is : (o : Operand) (u : RegOp) → as_register o ≡ Some u → o ≡ operands.Reg u
register-is (operands.Reg r) u e = cc
register-is o u e = absurd (cc)

named-by : (v : ℕ) (os : List Operand) (u : RegOp) → Member u (registers os) → is_range v u.loc ≡ true → any_names v os ≡ true
named-by v os u m e = let z = filtered-of as_register u os m in any-in (names_range v) z.0 os z.1 (ap (names_range v) (register-is z.0 u z.2) ∙ e)

-- by numbers

has-none : (l : ℕ) (xs : List ℕ) → (Member l xs → ⊥) → has l xs ≡ false
has-none l [] h = refl
has-none l (x ∷ xs) h = go (nat_eq x l) refl (has-none l xs (λ m. h (later m)))
  where
    go : (b : Bool) → nat_eq x l ≡ b → has l xs ≡ false → cond b true (has l xs) ≡ false
    go true e r = absurd (h (subst (λ n. Member n (x ∷ xs)) (eqb-true x l e) first))
    go false e r = r

move-none : (l : ℕ) (ws : List LaneDef) → ((w : LaneDef) → Member w ws → is_some_number l w.from ≡ false) → move_of l ws ≡ Unused
move-none l [] h = refl
move-none l (w ∷ ws) h = ap (λ b. cond b (Into w.lane) (move_of l ws)) (h w first) ∙ move-none l ws (λ x m. h x (later m))

writing-none : (l : ℕ) (ws : List LaneDef) → ((w : LaneDef) → Member w ws → nat_eq w.lane l ≡ false) → writing_of l ws ≡ None
writing-none l [] h = refl
writing-none l (w ∷ ws) h = ap (λ b. cond b (Some w) (writing_of l ws)) (h w first) ∙ writing-none l ws (λ x m. h x (later m))

module _ (t : Target) (f : Function) (num : Numbering) (v k l : ℕ) (only : (o : Owner) → num o ≡ Some l → o ≡ owners.Range v k) (i : Instr) (none : any_names v i.operands ≡ false) where
  abbrev acts : List Act
  acts = acts_of (entered_writes t f i)

  unnamed : IsNamed t f v k i.operands → ⊥
  unnamed z = let e : true ≡ false = sym (named-by v i.operands z.0 z.1 z.2) ∙ none in cc

  -- no act takes the lane from elsewhere or writes it
  not-moved : (a : Act) → Member a acts → (q : Option Owner) → a.from ≡ q → option_and_then num q ≡ Some l → ⊥
  not-moved a m None e h = absurd (cc)
  not-moved a m (Some o) e h = unnamed ((entered-acts t f v k i a m).1 (e ∙ ap Some (only o h)))

  not-read : Member l (filter_map num (read_owners (entered_reads t f i))) → ⊥
  not-read m =
      let z = filtered-of num l (read_owners (entered_reads t f i)) m in
      unnamed (entered-read t f v k i (subst (λ o. Member o (read_owners (entered_reads t f i))) (only z.0 z.2) z.1))

  not-taken : Member l (act_readings num acts) → ⊥
  not-taken m = let z = filtered-of (act_reading num) l acts m in go z.0 z.1 (is_unnumbered (num z.0.lane)) z.2
    where
      go : (a : Act) → Member a acts → (b : Bool) → cond b (option_and_then num a.from) None ≡ Some l → ⊥
      go a n true h = not-moved a n a.from refl h
      go a n false h = absurd (cc)

  no-read : has l (step_in t f num i).reads ≡ false
  no-read = has-none l (step_in t f num i).reads (λ m. either-elim l (filter_map num (read_owners (entered_reads t f i))) (act_readings num acts) not-read not-taken m)

  -- the act of a writing
  abbrev WrittenBy : LaneDef → Act → ℕ → Type 0
  WrittenBy w a n = (num a.lane ≡ Some n) × (writing num a n ≡ w)

  written-by : (w : LaneDef) (a : Act) → act_writing num a ≡ Some w → (n : ℕ) × WrittenBy w a n
  written-by w a e = go (num a.lane) refl e
    where
      go : (q : Option ℕ) → num a.lane ≡ q → elim q [ None ↦ None | Some n ↦ Some (writing num a n) ] ≡ Some w → (n : ℕ) × WrittenBy w a n
      go None h g = absurd (cc)
      go (Some n) h g = (n, (h, same_Some (writing num a n) w g))

  no-move : (w : LaneDef) → Member w (act_writings num acts) → is_some_number l w.from ≡ false
  no-move w m =
      let z = filtered-of (act_writing num) w acts m in
      let y = written-by w z.0 z.2 in
      sym (ap (λ (x : LaneDef). is_some_number l x.from) y.1.1) ∙ go z.0 z.1 (option_and_then num z.0.from) refl
    where
      at : (a : Act) → Member a acts → (n : ℕ) → option_and_then num a.from ≡ Some n → (b : Bool) → nat_eq n l ≡ b → b ≡ false
      at a j n e true h = absurd (not-moved a j a.from refl (e ∙ ap Some (eqb-true n l h)))
      at a j n e false h = refl

      go : (a : Act) → Member a acts → (q : Option ℕ) → option_and_then num a.from ≡ q → is_some_number l q ≡ false
      go a j None e = refl
      go a j (Some n) e = at a j n e (nat_eq n l) refl

  no-lane : (w : LaneDef) → Member w (act_writings num acts) → nat_eq w.lane l ≡ false
  no-lane w m =
      let z = filtered-of (act_writing num) w acts m in
      let y = written-by w z.0 z.2 in
      sym (ap (λ (x : LaneDef). nat_eq x.lane l) y.1.1) ∙ go z.0 z.1 y.0 y.1.0 (nat_eq y.0 l) refl
    where
      go : (a : Act) → Member a acts → (n : ℕ) → num a.lane ≡ Some n → (b : Bool) → nat_eq n l ≡ b → b ≡ false
      go a j n e true h = absurd (unnamed ((entered-acts t f v k i a j).0 (only a.lane (e ∙ ap Some (eqb-true n l h)))))
      go a j n e false h = refl

  pub not-used : use_of l (step_in t f num i) ≡ Unused
  not-used = ap (λ b. cond b Certain (move_of l (step_in t f num i).writes)) no-read ∙ move-none l (step_in t f num i).writes no-move

  pub not-written : writing_of l (step_in t f num i).writes ≡ None
  not-written = writing-none l (step_in t f num i).writes no-lane
