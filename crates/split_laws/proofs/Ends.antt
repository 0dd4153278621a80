-- How a block ends when a range is split: as it did, since behind a terminator no copy stands.
use Rattle.std.proofs.Common.{◌≡◌, not, ◌||◌, ◌&&◌, ◌++◌, ◌+◌, ℕ, Bool, true, false, cond, List, [], ◌∷◌, Option, Some, None, length, refl, sym, ap, ◌∙◌, eq-eqb}
use Rattle.std.specs.Prelude.{nat_eq, option_map, slice_get}
use Rattle.std.specs.List.{list_all}
use Rattle.target_base.specs.declared.types.Effect.{Effect}
use Rattle.target_base.specs.declared.types.Effect.TheVariants as effects
use Rattle.target_base.specs.declared.types.OpcodeDesc.{OpcodeDesc}
use Rattle.target_base.specs.declared.types.Target.{Target}
use Rattle.target_base.specs.Numbers.{op_number}
use Rattle.target_base.specs.Rules.{is_copy, is_phi, starts_with_the_five}
use Rattle.target_base.proofs.Sound.{opcodes_sound}
use Rattle.target_base.proofs.Tests.{first_of_both, second_of_both}
use Rattle.meaning.specs.Code.{Item, Silent}
use Rattle.mir_func.specs.declared.func.Operand.{Operand}
use Rattle.mir_func.specs.declared.func.Instr.{Instr}
use Rattle.mir_func.specs.declared.func.Block.{Block}
use Rattle.mir_func.specs.Value.{Function}
use Rattle.mir_func.specs.Edits.{made}
use Rattle.mir_func.specs.Binding.{does, effect_of, ends_control, is_conditional, is_terminator, passes}
use Rattle.mir_meaning.specs.Items.{copied}
use Rattle.mir_meaning.specs.Codes.{effect_item, ends_without_terminator, falls_through, item_of}
use Rattle.mir_meaning.specs.Points.{Entry, Point, Start}
use Rattle.mir_meaning.specs.Renaming.{renamed_instr}
use Rattle.mir_meaning.proofs.Points.{both}
use Rattle.live_lanes.specs.declared.ask.labels.Mark.{Mark}
use Rattle.split_kit.specs.Split.{as_part, changed, instrs_split, label_behind, last_point, part, whole}
use Rattle.split_laws.specs.Laws.{AllMeet, next_gap}

-- COPY

copy-is : (e : Effect) → is_copy e ≡ true → e ≡ effects.Copy
copy-is effects.Copy h = refl
copy-is e h = absurd (cc)

copy-first : (os : List OpcodeDesc) → starts_with_the_five os ≡ true → option_map (λ (d : OpcodeDesc). d.effect) (slice_get os 0) ≡ Some effects.Copy
copy-first [] e = absurd (cc)
copy-first (a ∷ []) e = absurd (cc)
copy-first (a ∷ b ∷ []) e = absurd (cc)
copy-first (a ∷ b ∷ c ∷ []) e = absurd (cc)
copy-first (a ∷ b ∷ c ∷ x ∷ []) e = absurd (cc)
copy-first (a ∷ b ∷ c ∷ x ∷ y ∷ os) e =
    let q = first_of_both _ _ (first_of_both _ _ (first_of_both _ _ (first_of_both _ _ e))) in
    ap Some (copy-is a.effect (second_of_both _ _ (first_of_both _ _ q)))

pub copy-effect : (t : Target) (id : ℕ) (os : List Operand) → effect_of t (made id (op_number 0) os) ≡ Some effects.Copy
copy-effect t id os =
    let all = opcodes_sound t.name t.version t.units t.regs t.reserved t.indexes t.classes t.masks t.opcodes t.sound in
    copy-first t.opcodes (second_of_both _ _ (first_of_both _ _ (first_of_both _ _ all)))

pub copy-item : (t : Target) (f : Function) (b : Block) (id : ℕ) (os : List Operand) → item_of t f b (made id (op_number 0) os) ≡ Silent [] (copied t f os)
unfolding item_of
copy-item t f b id os = ap (λ q. elim q as (λ o. Item) [ None ↦ Silent [] [] | Some x ↦ effect_item t f b (made id (op_number 0) os) x ]) (copy-effect t id os)

-- there is no instruction, or the last one doesn't pass the test
lacks : (Instr → Bool) → List Instr → Bool
lacks p [] = true
lacks p (i ∷ []) = not (p i)
lacks p (i ∷ j ∷ is) = lacks p (j ∷ is)

falls-lacks : (t : Target) (is : List Instr) → falls_through t is ≡ lacks (does ends_control t) is
unfolding lacks
falls-lacks t [] = refl
falls-lacks t (i ∷ []) = refl
falls-lacks t (i ∷ j ∷ is) = falls-lacks t (j ∷ is)

open-lacks : (t : Target) (is : List Instr) → ends_without_terminator t is ≡ lacks (does is_terminator t) is
unfolding lacks
open-lacks t [] = refl
open-lacks t (i ∷ []) = refl
open-lacks t (i ∷ j ∷ is) = open-lacks t (j ∷ is)

lacks-behind : (p : Instr → Bool) (xs : List Instr) (y : Instr) (ys : List Instr) → lacks p (xs ++ y ∷ ys) ≡ lacks p (y ∷ ys)
unfolding lacks
lacks-behind p [] y ys = refl
lacks-behind p (x ∷ []) y ys = refl
lacks-behind p (x ∷ z ∷ xs) y ys = lacks-behind p (z ∷ xs) y ys

-- an instruction that ends control is a terminator
plain-goes-on : (t : Target) (i : Instr) → does is_terminator t i ≡ false → does ends_control t i ≡ false
plain-goes-on t i e = go (effect_of t i) e
  where
    by : (a b : Bool) → (a || b) ≡ false → a ≡ false
    by true b h = absurd (cc)
    by false b h = refl

    go : (q : Option Effect) → passes is_terminator q ≡ false → passes ends_control q ≡ false
    go None h = refl
    go (Some x) h = by (ends_control x) (is_conditional x) h

module _ (t : Target) (live : Point → Bool) (f : Function) (v : ℕ) (ms : List Mark) (b : Block) where
  abbrev split : ℕ → ℕ → List Instr → List Instr
  split n now is = instrs_split live f v ms n b now is

  -- behind a terminator the label stays
  abbrev pub Stay : ℕ → List Instr → Type 0
  Stay now [] = Unit {0}
  Stay now (i ∷ is) =
      let to = label_behind ms b.number (Some i.id) now in
      (does is_terminator t i ≡ true → label_behind ms b.number (next_gap is) to ≡ to) × Stay to is

  pub meet-stay : (now : ℕ) (is : List Instr) → AllMeet t f v ms b now is → Stay now is
  meet-stay now [] h = tt
  meet-stay now (i ∷ is) h = ((λ e. (h.0 e).1), meet-stay (label_behind ms b.number (Some i.id) now) is h.1)

  module _ (p : Effect → Bool) (plain : p effects.Copy ≡ false) (ends : (i : Instr) → does is_terminator t i ≡ false → does p t i ≡ false) where
    copy-plain : (id : ℕ) (os : List Operand) → does p t (made id (op_number 0) os) ≡ false
    copy-plain id os = ap (passes p) (copy-effect t id os) ∙ plain

    -- no instruction, or a copy alone
    copy-lacks : (c : Bool) (id : ℕ) (os : List Operand) → lacks (does p t) (cond c (made id (op_number 0) os ∷ []) []) ≡ true
    unfolding lacks
    copy-lacks true id os = ap not (copy-plain id os)
    copy-lacks false id os = refl

    end-lacks : (i : Instr) (id : ℕ) (c : Bool) (os : List Operand) → (does is_terminator t i ≡ true → c ≡ false) → lacks (does p t) (i ∷ cond c (made id (op_number 0) os ∷ []) []) ≡ not (does p t i)
    unfolding lacks
    end-lacks i id false os h = refl
    end-lacks i id true os h = ap not (copy-plain id os) ∙ sym (ap not (ends i (go (does is_terminator t i) refl)))
      where
        go : (d : Bool) → does is_terminator t i ≡ d → does is_terminator t i ≡ false
        go true e = absurd (let k = h e in cc)
        go false e = e

    unchanged : (is_live : Bool) (from to : ℕ) → to ≡ from → (is_live && not (nat_eq from to)) ≡ false
    unchanged is_live from to e = ap (λ b. is_live && not b) (eq-eqb from to (sym e)) ∙ go is_live
      where
        go : (a : Bool) → (a && not true) ≡ false
        go true = refl
        go false = refl

    split-lacks : (n now : ℕ) (is : List Instr) → Stay now is → lacks (does p t) (split n now is) ≡ lacks (does p t) is
    unfolding lacks
    split-lacks n now [] h =
        let from = now in
        let to = label_behind ms b.number None now in
        copy-lacks (live (last_point (Start b.number) b.instrs) && not (nat_eq from to)) n (whole true (part f to) ∷ whole false (part f from) ∷ [])
    split-lacks n now (i ∷ []) h =
        let to = label_behind ms b.number (Some i.id) now in
        let copies = changed f n (live (Entry i.id)) now to in
        let end = label_behind ms b.number None to in
        let at_end = live (last_point (Start b.number) b.instrs) in
        lacks-behind (does p t) copies (renamed_instr (as_part f v to) i) (instrs_split live f v ms (n + length copies) b to [])
        ∙ end-lacks (renamed_instr (as_part f v to) i) (n + length copies) (at_end && not (nat_eq to end)) (whole true (part f end) ∷ whole false (part f to) ∷ []) (λ e. unchanged at_end to end (h.0 e))
    split-lacks n now (i ∷ j ∷ is) h =
        let to = label_behind ms b.number (Some i.id) now in
        let copies = changed f n (live (Entry i.id)) now to in
        let k = n + length copies in
        let then = label_behind ms b.number (Some j.id) to in
        let more = changed f k (live (Entry j.id)) to then in
        let rest = instrs_split live f v ms (k + length more) b then is in
        let one = renamed_instr (as_part f v to) i in
        let two = renamed_instr (as_part f v then) j in
        lacks-behind (does p t) copies one (more ++ two ∷ rest)
        ∙ (lacks-behind (does p t) (one ∷ more) two rest ∙ (sym (lacks-behind (does p t) more two rest) ∙ split-lacks k to (j ∷ is) h.1))

  pub falls-stay : (n now : ℕ) (is : List Instr) → Stay now is → falls_through t (split n now is) ≡ falls_through t is
  falls-stay n now is h = falls-lacks t (split n now is) ∙ (split-lacks ends_control refl (plain-goes-on t) n now is h ∙ sym (falls-lacks t is))

  pub open-stays : (n now : ℕ) (is : List Instr) → Stay now is → ends_without_terminator t (split n now is) ≡ ends_without_terminator t is
  open-stays n now is h = open-lacks t (split n now is) ∙ (split-lacks is_terminator refl (λ i e. e) n now is h ∙ sym (open-lacks t is))

  -- no phi comes

  abbrev without-phis : List Instr → Bool
  without-phis is = list_all (λ i. not (does is_phi t i)) is

  without-phis-append : (xs ys : List Instr) → without-phis xs ≡ true → without-phis ys ≡ true → without-phis (xs ++ ys) ≡ true
  without-phis-append [] ys x y = y
  without-phis-append (i ∷ xs) ys x y = let h = both (not (does is_phi t i)) (without-phis xs) x in λ k. h.0 k && without-phis-append xs ys h.1 y k

  copy-without-phis : (c : Bool) (id : ℕ) (os : List Operand) → without-phis (cond c (made id (op_number 0) os ∷ []) []) ≡ true
  copy-without-phis true id os = ap (λ q. not (passes is_phi q) && true) (copy-effect t id os)
  copy-without-phis false id os = refl

  pub split-without-phis : (n now : ℕ) (is : List Instr) → without-phis is ≡ true → without-phis (split n now is) ≡ true
  split-without-phis n now [] e = let to = label_behind ms b.number None now in copy-without-phis (live (last_point (Start b.number) b.instrs) && not (nat_eq now to)) n (whole true (part f to) ∷ whole false (part f now) ∷ [])
  split-without-phis n now (i ∷ is) e =
      let h = both (not (does is_phi t i)) (without-phis is) e in
      let to = label_behind ms b.number (Some i.id) now in
      let copies = changed f n (live (Entry i.id)) now to in
      let rest = instrs_split live f v ms (n + length copies) b to is in
      without-phis-append copies (renamed_instr (as_part f v to) i ∷ rest)
      (copy-without-phis (live (Entry i.id) && not (nat_eq now to)) n (whole true (part f to) ∷ whole false (part f now) ∷ []))
      (λ k. h.0 k && split-without-phis (n + length copies) to is h.1 k)
