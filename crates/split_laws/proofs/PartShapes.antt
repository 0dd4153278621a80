-- An instruction with a part in the range's place keeps the rules that it met.
use Rattle.std.proofs.Common.{◌≡◌, ◌<◌, ◌≤◌, ◌+◌, ◌-◌, ◌++◌, ◌∙◌, ℕ, zero, suc, Bool, true, false, cond, List, [], ◌∷◌, Option, Some, None, map, length, replicate, refl, sym, ap, subst, arith, eqb-true, eq-eqb}
use Rattle.std.specs.Prelude.{is_some, nat_eq, nat_lt, slice_get}
use Rattle.std.proofs.lemmas.Bool.{eqb-false, lt-ltb, ltb-false, ltb-true, ne_eqb}
use Rattle.std.proofs.lemmas.Option.{slice_get_within}
use Rattle.target_base.specs.declared.types.ClassId.{ClassId}
use Rattle.target_base.specs.declared.types.Target.{Target}
use Rattle.target_base.specs.Registers.{IsClass}
use Rattle.meaning.specs.Live.{Among as Member, here as first, there as later}
use Rattle.mir_func.specs.declared.func.Loc.{Loc}
use Rattle.mir_func.specs.declared.func.Loc.TheVariants.{Fixed, Virtual}
use Rattle.mir_func.specs.declared.func.RegOp.{RegOp}
use Rattle.mir_func.specs.declared.func.Operand.{Operand}
use Rattle.mir_func.specs.declared.func.Operand.TheVariants as operands
use Rattle.mir_func.specs.declared.func.Instr.{Instr}
use Rattle.mir_func.specs.Value.{Function}
use Rattle.mir_func.specs.Binding.{class_of, does, is_lowered_away, registers}
use Rattle.mir_meaning.specs.Points.{is_range}
use Rattle.mir_meaning.specs.Renaming.{renamed_instr, renamed_operand}
use Rattle.mir_meaning.specs.Rules.{V3, has_class}
use Rattle.live_laws.specs.Effects.Shaped.{AreClasses, IsShaped}
use Rattle.live_laws.proofs.Effects.Lists.{all-of}
use Rattle.split_kit.specs.Split.{as_part, part}
use Rattle.split_laws.specs.Laws.{PartsKeepShape}
use Rattle.split_laws.proofs.Homes.{home_of, registers-apart}
use Rattle.split_laws.proofs.Parts.{class-named, class-part}
use Rattle.split_laws.proofs.RulesKept.{moved, place, shape-kept}

-- lists end

get-none : {X : Type 0} (xs : List X) (k : ℕ) → length xs ≤ k → slice_get xs k ≡ None
get-none [] k h = refl
get-none (x ∷ xs) zero h = absurd (omega arith)
get-none (x ∷ xs) (suc k) h = get-none xs k (omega arith)

length-both : {X : Type 0} (xs : List X) (n : ℕ) (x : X) → length (xs ++ replicate n x) ≡ length xs + n
length-both [] zero x = refl
length-both [] (suc n) x = let h : length (replicate n x) ≡ 0 + n = length-both [] n x in omega arith
length-both (y ∷ xs) n x = let h : length (xs ++ replicate n x) ≡ length xs + n = length-both xs n x in omega arith

-- a register with a class is one of the function's
class-there : (f : Function) (w : ℕ) → is_some (class_of f w) ≡ true → w < length f.classes
class-there f w h = go (slice_get f.classes w) refl h
  where
    go : (q : Option (Option ClassId)) → slice_get f.classes w ≡ q → is_some (elim q as (λ x. Option ClassId) [ None ↦ None | Some c ↦ c ]) ≡ true → w < length f.classes
    go None e k = absurd (cc)
    go (Some c) e k = slice_get_within f.classes w c e

no-class : (f : Function) (w : ℕ) → length f.classes ≤ w → class_of f w ≡ None
no-class f w h = ap (λ q. elim q as (λ x. Option ClassId) [ None ↦ None | Some c ↦ c ]) (get-none f.classes w h)

length-split : (f g : Function) (v count : ℕ) → g.classes ≡ f.classes ++ replicate count (class_of f v) → length g.classes ≡ length f.classes + count
length-split f g v count classes = ap length classes ∙ length-both f.classes count (class_of f v)

-- the classes are those that the function had
pub class-split : (t : Target) (f g : Function) (v count : ℕ) → g.classes ≡ f.classes ++ replicate count (class_of f v) → (w : ℕ) (c : ClassId) → AreClasses t f → class_of g w ≡ Some c → IsClass t c
class-split t f g v count classes w c ok e = go (nat_lt w (length f.classes)) refl
  where
    behind : length f.classes ≤ w → w - length f.classes < count → IsClass t c
    behind n h = ok v c (sym (class-part t f g v count classes (w - length f.classes) h) ∙ (ap (class_of g) (back (length f.classes) w n) ∙ e))
      where
        back : (n w : ℕ) → n ≤ w → n + (w - n) ≡ w
        back n w h = omega arith

    beyond : (b : Bool) → nat_lt w (length f.classes + count) ≡ b → length f.classes ≤ w → IsClass t c
    beyond true h n = behind n (omega (arith, ltb-true w (length f.classes + count) h))
    beyond false h n =
        let none : class_of g w ≡ None = no-class g w (let m = length-split f g v count classes in omega (arith, ltb-false w (length f.classes + count) h)) in
        absurd (let q : Some c ≡ None = sym e ∙ none in cc)

    go : (b : Bool) → nat_lt w (length f.classes) ≡ b → IsClass t c
    go true h = ok w c (sym (class-named t f g v count classes w (ltb-true w (length f.classes) h)) ∙ e)
    go false h = beyond (nat_lt w (length f.classes + count)) refl (ltb-false w (length f.classes) h)

module _ (t : Target) (f g : Function) (v count label : ℕ) (fits : label < count) (classes : g.classes ≡ f.classes ++ replicate count (class_of f v)) where
  abbrev number : ℕ → ℕ
  number w = home_of f v count label w

  apart : (a b : ℕ) → nat_eq (number a) (number b) ≡ nat_eq a b
  apart a b = go (nat_eq a b) refl
    where
      go : (c : Bool) → nat_eq a b ≡ c → nat_eq (number a) (number b) ≡ nat_eq a b
      go true e = eq-eqb (number a) (number b) (ap (λ w. number w) (eqb-true a b e)) ∙ sym e
      go false e = ne_eqb (number a) (number b) (λ q. eqb-false a b e (registers-apart f v count label a b fits q)) ∙ sym e

  class : (w : ℕ) → class_of g (number w) ≡ class_of f w
  class w = own (nat_eq v w) refl
    where
      beyond : (b : Bool) → nat_lt w (length f.classes) ≡ b → class_of g (cond b w (w + count)) ≡ class_of f w
      beyond true e = class-named t f g v count classes w (ltb-true w (length f.classes) e)
      beyond false e =
          let h : length f.classes ≤ w = ltb-false w (length f.classes) e in
          no-class g (w + count) (let n = length-split f g v count classes in omega arith) ∙ sym (no-class f w h)

      own : (b : Bool) → nat_eq v w ≡ b → class_of g (cond b (part f label) (cond (nat_lt w (length f.classes)) w (w + count))) ≡ class_of f w
      own true e = class-part t f g v count classes label fits ∙ ap (class_of f) (eqb-true v w e)
      own false e = beyond (nat_lt w (length f.classes)) refl

  abbrev move : RegOp → RegOp
  move = moved t f g number apart class

  abbrev at : RegOp → ℕ → RegOp
  at o w = record o { loc = Virtual w }

  as-moved : (o : RegOp) → has_class f o.loc ≡ true → as_part f v label o ≡ move o
  as-moved o = go o.loc
    where
      choose : (b : Bool) (w : ℕ) → cond b (at o (part f label)) (at o w) ≡ at o (cond b (part f label) w)
      choose true w = refl
      choose false w = refl

      go : (l : Loc) → has_class f l ≡ true → cond (is_range v l) (record o { loc = Virtual (part f label) }) (record o { loc = l }) ≡ record o { loc = place t f g number apart class l }
      go (Virtual w) h =
          choose (nat_eq v w) w
          ∙ ap (λ b. at o (cond (nat_eq v w) (part f label) (cond b w (w + count)))) (sym (lt-ltb w (length f.classes) (class-there f w h)))
      go (Fixed r) h = refl

  operands-same : (os : List Operand) → ((o : RegOp) → Member o (registers os) → has_class f o.loc ≡ true) → map (renamed_operand (as_part f v label)) os ≡ map (renamed_operand move) os
  operands-same [] h = refl
  operands-same (operands.Reg o ∷ os) h = λ k. operands.Reg (as-moved o (h o first) k) ∷ operands-same os (λ p m. h p (later m)) k
  operands-same (operands.Imm z ∷ os) h = ap (λ xs. operands.Imm z ∷ xs) (operands-same os h)
  operands-same (operands.Block z ∷ os) h = ap (λ xs. operands.Block z ∷ xs) (operands-same os h)
  operands-same (operands.Stack z ∷ os) h = ap (λ xs. operands.Stack z ∷ xs) (operands-same os h)
  operands-same (operands.FixedStack z ∷ os) h = ap (λ xs. operands.FixedStack z ∷ xs) (operands-same os h)
  operands-same (operands.Symbol z ∷ os) h = ap (λ xs. operands.Symbol z ∷ xs) (operands-same os h)
  operands-same (operands.Index z ∷ os) h = ap (λ xs. operands.Index z ∷ xs) (operands-same os h)
  operands-same (operands.Mask z ∷ os) h = ap (λ xs. operands.Mask z ∷ xs) (operands-same os h)

  module _ (i : Instr) (lowered : does is_lowered_away t i ≡ false) (s : IsShaped t f i) where
    classed : (o : RegOp) → Member o (registers i.operands) → has_class f o.loc ≡ true
    unfolding V3
    classed o m = all-of (λ (x : RegOp). has_class f x.loc) o (registers i.operands) m s.classes

    pub part-shape : IsShaped t g (renamed_instr (as_part f v label) i)
    part-shape = subst (λ os. IsShaped t g (record i { operands = os })) (sym (operands-same i.operands classed)) (shape-kept t f g number apart class i lowered s)

pub parts_keep_shape : PartsKeepShape
parts_keep_shape t f g v count label h classes i lowered s = part-shape t f g v count label h classes i lowered s
