-- What a join is that a copy of a function in lowered form asks for.
use Rattle.std.proofs.Common.{◌≡◌, ◌⊎◌, inl, inr, ◌||◌, ◌&&◌, ◌∙◌, not, ℕ, Bool, true, false, cond, List, [], ◌∷◌, Option, Some, None, map, min, max, refl, sym, subst, arith, eq-eqb, eqb-true}
use Rattle.std.specs.Prelude.{find, is_some, nat_eq, nat_le, slice_index}
use Rattle.std.specs.List.{list_all}
use Rattle.std.proofs.lemmas.Option.{same_Some}
use Rattle.target_base.specs.declared.types.Effect.{Effect}
use Rattle.target_base.specs.declared.types.Effect.TheVariants as effects
use Rattle.target_base.specs.declared.types.IndexId.{IndexId}
use Rattle.target_base.specs.declared.types.Target.{Target}
use Rattle.target_base.specs.Registers.{lanes_of}
use Rattle.target_base.specs.Rules.{is_copy}
use Rattle.target_base.specs.Storage.{holds_subs, same_numbers}
use Rattle.target_base.proofs.Tests.{first_of_both}
use Rattle.meaning.specs.Live.{Among as Member, here as first, there as later}
use Rattle.mir_func.specs.declared.func.Loc.{Loc}
use Rattle.mir_func.specs.declared.func.Loc.TheVariants.{Fixed, Virtual}
use Rattle.mir_func.specs.declared.func.RegOp.{RegOp}
use Rattle.mir_func.specs.declared.func.Operand.{Operand}
use Rattle.mir_func.specs.declared.func.Operand.TheVariants as operands
use Rattle.mir_func.specs.declared.func.Instr.{Instr}
use Rattle.mir_func.specs.declared.func.Block.{Block}
use Rattle.mir_func.specs.Value.{Function}
use Rattle.mir_func.specs.Binding.{class_of, does, effect_of, passes, registers}
use Rattle.mir_meaning.specs.Registers.{located_widths, operand_widths, range_widths}
use Rattle.mir_meaning.specs.Rules.{has_class, has_home, has_lanes, same_widths, widths_fit}
use Rattle.instr_effects.proofs.Members.{flat-of}
use Rattle.live_laws.specs.Effects.Shaped.{IsShaped}
use Rattle.live_laws.proofs.Effects.Shapes.{class-there, lanes-there, widths-of}
use Rattle.lowering_laws.specs.Shapes.{IsLowered}
use Rattle.lowering_laws.proofs.Seated.{same-numbers}
use Rattle.live_edits.specs.declared.fold.Join.{Join}
use Rattle.live_edits.specs.Folded.{SharesWidths, all_instrs, composed, copy_sides, is_narrower, registers_of, two_sides}
use Rattle.join_laws.specs.Joined.{fits_range, indexed_join, indexes_on, join_at, part_join, sides_join, two_ranges, whole_join}

-- the range that goes stands whole for the one that stays
pub record IsWhole (t : Target) (f : Function) (j : Join) : Type 0 where
  pub narrower : (is_narrower t f j.gone j.keep || is_narrower t f j.keep j.gone) ≡ true
  pub widths : range_widths t f j.gone ≡ range_widths t f j.keep

-- the range that goes is the lanes of an index of the one that stays
pub record IsPart (t : Target) (f : Function) (j : Join) (x : IndexId) : Type 0 where
  pub holds : holds_subs t.regs (lanes_of t x) (registers_of t f j.keep) (registers_of t f j.gone) ≡ true
  pub indexes : list_all (λ y. fits_range t f j.keep (composed t x y)) (indexes_on f j.gone) ≡ true
  pub widths : range_widths t f j.gone ≡ map (slice_index (range_widths t f j.keep)) (lanes_of t x)

-- both ranges have classes, and they are two
pub record IsAsked (t : Target) (f : Function) (j : Join) : Type 0 where
  pub keep : is_some (class_of f j.keep) ≡ true
  pub gone : is_some (class_of f j.gone) ≡ true
  pub differ : nat_eq j.gone j.keep ≡ false
  pub whole : j.index ≡ None → IsWhole t f j
  pub part : (x : IndexId) → j.index ≡ Some x → IsPart t f j x

-- the sides of a copy between two ranges
record AreSides (t : Target) (f : Function) (a : ℕ) (x : Option IndexId) (b : ℕ) (y : Option IndexId) : Type 0 where
  pub left : is_some (class_of f a) ≡ true
  pub right : is_some (class_of f b) ≡ true
  pub differ : nat_eq a b ≡ false
  pub widths : located_widths t f (Virtual a) x ≡ located_widths t f (Virtual b) y

lesser : (a b : ℕ) → ((min a b ≡ a) × (max a b ≡ b)) ⊎ ((min a b ≡ b) × (max a b ≡ a))
lesser a b = go (nat_le a b) refl
  where
    go : (u : Bool) → nat_le a b ≡ u → ((min a b ≡ a) × (max a b ≡ b)) ⊎ ((min a b ≡ b) × (max a b ≡ a))
    go true e = inl (grind arith, grind arith)
    go false e = inr (grind arith, grind arith)

pub same-not : (a b : ℕ) → nat_eq a b ≡ false → nat_eq b a ≡ false
same-not a b e = go (nat_eq b a) refl
  where
    go : (u : Bool) → nat_eq b a ≡ u → u ≡ false
    go true d = absurd (let z : true ≡ false = sym (eq-eqb a b (sym (eqb-true b a d))) ∙ e in cc)
    go false d = refl

other-or : (u v : Bool) → (u || v) ≡ true → (v || u) ≡ true
other-or true true e = refl
other-or true false e = refl
other-or false true e = refl
other-or false false e = e

module _ (t : Target) (f : Function) where
  abbrev narrow : ℕ → ℕ → Bool
  narrow a b = is_narrower t f a b || is_narrower t f b a

  whole-of : (k g : ℕ) → is_some (class_of f k) ≡ true → is_some (class_of f g) ≡ true → nat_eq g k ≡ false → narrow g k ≡ true → range_widths t f g ≡ range_widths t f k → IsAsked t f (record { keep = k; gone = g; index = None })
  whole-of k g a b d n w = record {
    keep = a;
    gone = b;
    differ = d;
    whole = λ e. record { narrower = n; widths = w };
    part = λ x e. absurd (cc);
  }

  abbrev whole-by : ℕ × ℕ → Type 0
  whole-by p = IsAsked t f (record { keep = p.0; gone = p.1; index = None })

  whole-asked : (a b : ℕ) (j : Join) → AreSides t f a None b None → whole_join t f a b ≡ Some j → IsAsked t f j
  whole-asked a b j s = go (narrow a b) refl
    where
      by : narrow a b ≡ true → ((min a b ≡ a) × (max a b ≡ b)) ⊎ ((min a b ≡ b) × (max a b ≡ a)) → whole-by (min a b, max a b)
      by n (inl e) = subst whole-by (sym (λ k. (e.0 k, e.1 k))) (whole-of a b s.left s.right (same-not a b s.differ) (other-or (is_narrower t f a b) (is_narrower t f b a) n) (sym s.widths))
      by n (inr e) = subst whole-by (sym (λ k. (e.0 k, e.1 k))) (whole-of b a s.right s.left s.differ n s.widths)

      go : (u : Bool) → narrow a b ≡ u → cond u (Some (record { keep = min a b; gone = max a b; index = None })) None ≡ Some j → IsAsked t f j
      go true n e = subst (IsAsked t f) (same_Some (record { keep = min a b; gone = max a b; index = None }) j e) (by n (lesser a b))
      go false n e = absurd (cc)

  part-asked : (a : ℕ) (x : IndexId) (b : ℕ) (j : Join) → AreSides t f a (Some x) b None → part_join t f a x b ≡ Some j → IsAsked t f j
  part-asked a x b j s = go (holds_subs t.regs (lanes_of t x) (registers_of t f a) (registers_of t f b)) (list_all (λ y. fits_range t f a (composed t x y)) (indexes_on f b)) refl refl
    where
      made : Join
      made = record { keep = a; gone = b; index = Some x }

      asked : holds_subs t.regs (lanes_of t x) (registers_of t f a) (registers_of t f b) ≡ true → list_all (λ y. fits_range t f a (composed t x y)) (indexes_on f b) ≡ true → IsAsked t f (record { keep = a; gone = b; index = Some x })
      asked p q = record {
        keep = s.left;
        gone = s.right;
        differ = same-not a b s.differ;
        whole = λ e. absurd (cc);
        part = λ y e. subst (IsPart t f (record { keep = a; gone = b; index = Some x })) (same_Some x y e) (record { holds = p; indexes = q; widths = sym s.widths });
      }

      go : (u v : Bool) → holds_subs t.regs (lanes_of t x) (registers_of t f a) (registers_of t f b) ≡ u → list_all (λ y. fits_range t f a (composed t x y)) (indexes_on f b) ≡ v → cond (u && v) (Some (record { keep = a; gone = b; index = Some x })) None ≡ Some j → IsAsked t f j
      go true true p q e = subst (IsAsked t f) (same_Some (record { keep = a; gone = b; index = Some x }) j e) (asked p q)
      go true false p q e = absurd (cc)
      go false v p q e = absurd (cc)

  turned : (a : ℕ) (x : Option IndexId) (b : ℕ) (y : Option IndexId) → AreSides t f a x b y → AreSides t f b y a x
  turned a x b y s = record { left = s.right; right = s.left; differ = same-not a b s.differ; widths = sym s.widths }

  by-indexes : (a : ℕ) (x : Option IndexId) (b : ℕ) (y : Option IndexId) (j : Join) → AreSides t f a x b y → indexed_join t f a x b y ≡ Some j → IsAsked t f j
  by-indexes a None b None j s e = whole-asked a b j s e
  by-indexes a (Some x) b None j s e = part-asked a x b j s e
  by-indexes a None b (Some y) j s e = part-asked b y a j (turned a None b (Some y) s) e
  by-indexes a (Some x) b (Some y) j s e = absurd (cc)

  -- both sides have classes and equal widths
  record IsCopy (d s : RegOp) : Type 0 where
    pub first : has_class f d.loc ≡ true
    pub second : has_class f s.loc ≡ true
    pub widths : operand_widths t f d ≡ operand_widths t f s

  by-sides : (d s : RegOp) (j : Join) → IsCopy d s → sides_join t f (Some (d, s)) ≡ Some j → IsAsked t f j
  by-sides d s j c e = at d.loc s.loc c.first c.second c.widths e
    where
      at : (l m : Loc) → has_class f l ≡ true → has_class f m ≡ true → located_widths t f l d.index ≡ located_widths t f m s.index
          → elim (two_ranges l m) as (λ q. Option Join) [ None ↦ None | Some p ↦ indexed_join t f p.0 d.index p.1 s.index ] ≡ Some j → IsAsked t f j
      at (Fixed r) m h g w e = absurd (cc)
      at (Virtual a) (Fixed r) h g w e = absurd (cc)
      at (Virtual a) (Virtual b) h g w e = go (nat_eq a b) refl e
        where
          go : (u : Bool) → nat_eq a b ≡ u → elim (cond {A = Option (ℕ × ℕ)} u None (Some (a, b))) as (λ q. Option Join) [ None ↦ None | Some p ↦ indexed_join t f p.0 d.index p.1 s.index ] ≡ Some j → IsAsked t f j
          go true n e = absurd (cc)
          go false n e = by-indexes a d.index b s.index j (record { left = h; right = g; differ = n; widths = w }) e

-- the copy itself

pub copy-is : (q : Option Effect) → passes is_copy q ≡ true → q ≡ Some effects.Copy
copy-is None e = absurd (cc)
copy-is (Some effects.Copy) e = refl
copy-is (Some e) h = absurd (cc)

module _ (t : Target) (f : Function) (i : Instr) (shaped : IsShaped t f i) where
  by-widths : (a b : Bool) → a ≡ true → b ≡ true → (d s : RegOp) → (not (a && b) || same_numbers (operand_widths t f d) (operand_widths t f s)) ≡ true → operand_widths t f d ≡ operand_widths t f s
  by-widths true true x y d s e = same-numbers (operand_widths t f d) (operand_widths t f s) e
  by-widths true false x y d s e = absurd (cc)
  by-widths false b x y d s e = absurd (cc)

  -- a copy's sides have classes and equal widths
  copy-widths : does is_copy t i ≡ true → (d s : RegOp) → i.operands ≡ operands.Reg d ∷ operands.Reg s ∷ [] → IsCopy t f d s
  copy-widths e d s are =
      let there : (o : RegOp) → Member o (d ∷ s ∷ []) → Member o (registers i.operands) = λ o m. subst (λ os. Member o (registers os)) (sym are) m in
      let md = there d first in
      let ms = there s (later first) in
      let fit : widths_fit t f effects.Copy (operands.Reg d ∷ operands.Reg s ∷ []) ≡ true = subst (λ os. widths_fit t f effects.Copy os ≡ true) are (widths-of t f i effects.Copy (copy-is (effect_of t i) e) shaped.widths) in
      record {
        first = class-there t f i shaped d md;
        second = class-there t f i shaped s ms;
        widths = by-widths (has_lanes t f d) (has_lanes t f s) (lanes-there t f i shaped d md) (lanes-there t f i shaped s ms) d s
            (first_of_both (same_widths t f d s) (has_home t d.loc s.loc) (first_of_both (same_widths t f d s && has_home t d.loc s.loc) (has_home t s.loc d.loc) fit));
      }

  by-copy : (j : Join) → sides_join t f (copy_sides t i) ≡ Some j → IsAsked t f j
  by-copy j = go (does is_copy t i) refl
    where
      two : (os : List Operand) → i.operands ≡ os → does is_copy t i ≡ true → sides_join t f (two_sides os) ≡ Some j → IsAsked t f j
      two (operands.Reg d ∷ operands.Reg s ∷ []) are e h = by-sides t f d s j (copy-widths e d s are) h
      two os are e h = absurd (cc)

      go : (u : Bool) → does is_copy t i ≡ u → sides_join t f (cond u (two_sides i.operands) None) ≡ Some j → IsAsked t f j
      go true e h = two i.operands refl e h
      go false e h = absurd (cc)

found-member : (id : ℕ) (is : List Instr) (i : Instr) → find (λ (x : Instr). nat_eq x.id id) is ≡ Some i → Member i is
found-member id [] i e = absurd (cc)
found-member id (x ∷ is) i e = go (nat_eq x.id id) e (found-member id is i)
  where
    go : (u : Bool) → cond u (Some x) (find (λ (y : Instr). nat_eq y.id id) is) ≡ Some i → (find (λ (y : Instr). nat_eq y.id id) is ≡ Some i → Member i is) → Member i (x ∷ is)
    go true h rest = subst (λ y. Member y (x ∷ is)) (same_Some x i h) first
    go false h rest = later (rest h)

pub asked : (t : Target) (f : Function) (id : ℕ) (j : Join) → IsLowered t f → join_at t f id ≡ Some j → IsAsked t f j
asked t f id j low e = go (find (λ (x : Instr). nat_eq x.id id) (all_instrs f)) refl e
  where
    go : (q : Option Instr) → find (λ (x : Instr). nat_eq x.id id) (all_instrs f) ≡ q → elim q as (λ q. Option Join) [ None ↦ None | Some i ↦ sides_join t f (copy_sides t i) ] ≡ Some j → IsAsked t f j
    go None h e = absurd (cc)
    go (Some i) h e =
        let m = flat-of (λ (b : Block). b.instrs) i f.blocks (found-member id (all_instrs f) i h) in
        by-copy t f i (low.rules.shaped m.0 i m.1 m.2) j e

pub shares : (t : Target) (f : Function) (j : Join) → IsAsked t f j → SharesWidths t f j
shares t f j a e = (a.whole e).widths
