-- Tests of sameness are right.
use Rattle.std.proofs.Common.{◌≡◌, ◌∷◌, ◌&&◌, ◌∙◌, ℕ, zero, suc, Bool, true, false, eqb, List, Option, Some, None, refl, sym, ap, []}
use Rattle.std.proofs.lemmas.Bool.{and_from, eq-eqb, eqb-true}
use Rattle.std.proofs.lemmas.Bool.Decides.{Decides-int_eq}
use Rattle.std.specs.Ordering.{int_eq}
use Rattle.std.specs.Prelude.{ℤ}
use Rattle.target_base.specs.Storage.{same_numbers}
use Rattle.target_base.specs.declared.types.Effect.{Effect}
use Rattle.meaning.specs.Perform.{width}
use Rattle.meaning.specs.Sameness.{effect_number, effect_scale, same_constant, same_effect, same_list, same_option, same_rest, same_source}
use Rattle.meaning.specs.declared.types.Constant.{Constant}
use Rattle.meaning.specs.declared.types.Constant.TheVariants.{FixedStackAddress, Immediate, StackAddress, SymbolAddress}
use Rattle.meaning.specs.declared.types.Rest.{Rest}
use Rattle.meaning.specs.declared.types.Source.{Source}
use Rattle.meaning.specs.declared.types.Source.TheVariants.{Bits, FromLane, Undef}
use Rattle.laws.proofs.Following.{both-true}
use Rattle.laws.proofs.Quiet.{same-true}
use Rattle.std.specs.Bool.{beq}
use Rattle.target_base.specs.declared.types.Effect.TheVariants as effects
use Rattle.target_base.specs.declared.types.OpaqueKind.TheVariants as kinds

pub numbers-true : (xs ys : List ℕ) → same_numbers xs ys ≡ true → xs ≡ ys
numbers-true [] [] e = refl
numbers-true [] (y ∷ ys) e = absurd (cc)
numbers-true (x ∷ xs) [] e = absurd (cc)
numbers-true (x ∷ xs) (y ∷ ys) e =
    let k = both-true (eqb x y) (same_numbers xs ys) e in
    let a = eqb-true x y k.0 in
    let b = numbers-true xs ys k.1 in
    cc

pub int-true : (y z : ℤ) → int_eq y z ≡ true → y ≡ z
int-true y z e = (Decides-int_eq y z).0 e

pub constant-true : (c d : Constant) → same_constant c d ≡ true → c ≡ d
constant-true (Immediate m) (Immediate n) e = ap Immediate (eqb-true m n e)
constant-true (Immediate m) (StackAddress n) e = absurd (cc)
constant-true (Immediate m) (FixedStackAddress n) e = absurd (cc)
constant-true (Immediate m) (SymbolAddress x) e = absurd (cc)
constant-true (StackAddress m) (Immediate n) e = absurd (cc)
constant-true (StackAddress m) (StackAddress n) e = ap StackAddress (eqb-true m n e)
constant-true (StackAddress m) (FixedStackAddress n) e = absurd (cc)
constant-true (StackAddress m) (SymbolAddress x) e = absurd (cc)
constant-true (FixedStackAddress m) (Immediate n) e = absurd (cc)
constant-true (FixedStackAddress m) (StackAddress n) e = absurd (cc)
constant-true (FixedStackAddress m) (FixedStackAddress n) e = ap FixedStackAddress (eqb-true m n e)
constant-true (FixedStackAddress m) (SymbolAddress x) e = absurd (cc)
constant-true (SymbolAddress x) (Immediate n) e = absurd (cc)
constant-true (SymbolAddress x) (StackAddress n) e = absurd (cc)
constant-true (SymbolAddress x) (FixedStackAddress n) e = absurd (cc)
constant-true (SymbolAddress x) (SymbolAddress y) e = ap SymbolAddress (numbers-true x y e)

pub source-true : (s t : Source) → same_source s t ≡ true → s ≡ t
source-true (FromLane a) (FromLane b) e = ap FromLane (same-true a b e)
source-true (FromLane a) Undef e = absurd (cc)
source-true (FromLane a) (Bits d from to) e = absurd (cc)
source-true Undef (FromLane b) e = absurd (cc)
source-true Undef Undef e = refl
source-true Undef (Bits d from to) e = absurd (cc)
source-true (Bits c low width) (FromLane b) e = absurd (cc)
source-true (Bits c low width) Undef e = absurd (cc)
source-true (Bits c low width) (Bits d from to) e =
    let h = both-true (same_constant c d) (eqb low from && eqb width to) e in
    let g = both-true (eqb low from) (eqb width to) h.1 in
    let x = constant-true c d h.0 in
    let y = eqb-true low from g.0 in
    let z = eqb-true width to g.1 in
    cc

all_effects : ℕ → List Effect
all_effects s = effects.Copy ∷ effects.Phi ∷ effects.ImplicitDef ∷ effects.RegSequence ∷ effects.InsertSubreg ∷ effects.Const ∷ effects.Addr ∷ effects.Add ∷ effects.Sub ∷ effects.Mul ∷ effects.And ∷ effects.Or ∷ effects.Xor ∷ effects.Shl ∷ effects.Shr ∷ effects.Sar ∷ effects.Neg ∷ effects.Not ∷ effects.Udiv ∷ effects.Urem ∷ effects.Madd ∷ effects.Zext ∷ effects.Sext ∷ effects.Cmp ∷ effects.Load s ∷ effects.Store s ∷ effects.Jump ∷ effects.Jcc ∷ effects.Jnz ∷ effects.Call ∷ effects.Ret ∷ effects.Marker ∷ effects.Spill ∷ effects.Reload ∷ effects.Opaque kinds.Plain ∷ effects.Opaque kinds.Branch ∷ effects.Opaque kinds.Call ∷ effects.Opaque kinds.Return ∷ []

abbrev pick : List Effect → ℕ → Effect
pick [] n = effects.Marker
pick (e ∷ es) zero = e
pick (e ∷ es) (suc n) = pick es n

-- an effect from its number and scale
decoded : (e : Effect) → pick (all_effects (effect_scale e)) (effect_number e) ≡ e
unfolding all_effects
decoded effects.Copy = refl
decoded effects.Phi = refl
decoded effects.ImplicitDef = refl
decoded effects.RegSequence = refl
decoded effects.InsertSubreg = refl
decoded effects.Const = refl
decoded effects.Addr = refl
decoded effects.Add = refl
decoded effects.Sub = refl
decoded effects.Mul = refl
decoded effects.And = refl
decoded effects.Or = refl
decoded effects.Xor = refl
decoded effects.Shl = refl
decoded effects.Shr = refl
decoded effects.Sar = refl
decoded effects.Neg = refl
decoded effects.Not = refl
decoded effects.Udiv = refl
decoded effects.Urem = refl
decoded effects.Madd = refl
decoded effects.Zext = refl
decoded effects.Sext = refl
decoded effects.Cmp = refl
decoded (effects.Load scale) = refl
decoded (effects.Store scale) = refl
decoded effects.Jump = refl
decoded effects.Jcc = refl
decoded effects.Jnz = refl
decoded effects.Call = refl
decoded effects.Ret = refl
decoded effects.Marker = refl
decoded effects.Spill = refl
decoded effects.Reload = refl
decoded (effects.Opaque kinds.Plain) = refl
decoded (effects.Opaque kinds.Branch) = refl
decoded (effects.Opaque kinds.Call) = refl
decoded (effects.Opaque kinds.Return) = refl

effect-true : (e f : Effect) → same_effect e f ≡ true → e ≡ f
effect-true e f h =
    let k = both-true (eqb (effect_number e) (effect_number f)) (eqb (effect_scale e) (effect_scale f)) h in
    let x : effect_number e ≡ effect_number f = eqb-true (effect_number e) (effect_number f) k.0 in
    let y : effect_scale e ≡ effect_scale f = eqb-true (effect_scale e) (effect_scale f) k.1 in
    sym (decoded e) ∙ ap (λ n. pick (all_effects (effect_scale e)) n) x ∙ ap (λ s. pick (all_effects s) (effect_number f)) y ∙ decoded f

list-true : {A : Type 0} (eq : A → A → Bool) → ((a b : A) → eq a b ≡ true → a ≡ b) → (xs ys : List A) → same_list eq xs ys ≡ true → xs ≡ ys
list-true eq h [] [] e = refl
list-true eq h [] (y ∷ ys) e = absurd (cc)
list-true eq h (x ∷ xs) [] e = absurd (cc)
list-true eq h (x ∷ xs) (y ∷ ys) e =
    let k = both-true (eq x y) (same_list eq xs ys) e in
    let a = h x y k.0 in
    let b = list-true eq h xs ys k.1 in
    cc

bool-true : (a b : Bool) → beq a b ≡ true → a ≡ b
bool-true true true e = refl
bool-true true false e = absurd (cc)
bool-true false true e = absurd (cc)
bool-true false false e = refl

pub option-true : (a b : Option ℕ) → same_option a b ≡ true → a ≡ b
option-true None None e = refl
option-true None (Some b) e = absurd (cc)
option-true (Some a) None e = absurd (cc)
option-true (Some a) (Some b) e = ap Some (eqb-true a b e)

pub rest-true : (r s : Rest) → same_rest r s ≡ true → r ≡ s
rest-true r s e =
    let a = both-true _ _ e in
    let b = both-true _ _ a.1 in
    let c = both-true _ _ b.1 in
    let d = both-true _ _ c.1 in
    let x0 = effect-true r.effect s.effect a.0 in
    let x1 = list-true same_numbers numbers-true r.widths s.widths b.0 in
    let x2 = numbers-true r.result s.result c.0 in
    let x3 = int-true r.immediate s.immediate d.0 in
    let f = both-true _ _ d.1 in
    let x4 = numbers-true r.symbol s.symbol f.0 in
    let x5 = list-true beq bool-true r.needed s.needed f.1 in
    λ i. record { effect = x0 i; widths = x1 i; result = x2 i; immediate = x3 i; symbol = x4 i; needed = x5 i }

same-numbers-refl : (xs : List ℕ) → same_numbers xs xs ≡ true
same-numbers-refl [] = refl
same-numbers-refl (x ∷ xs) = and_from (eqb x x) (same_numbers xs xs) (eq-eqb x x refl) (same-numbers-refl xs)

pub constant-refl : (c : Constant) → same_constant c c ≡ true
constant-refl (Immediate n) = eq-eqb n n refl
constant-refl (StackAddress n) = eq-eqb n n refl
constant-refl (FixedStackAddress n) = eq-eqb n n refl
constant-refl (SymbolAddress x) = same-numbers-refl x
