-- Constants and addresses as items, and what they give.
use Rattle.std.proofs.Common.{◌≡◌, ◌∷◌, ◌++◌, ◌∙◌, ◌&&◌, ◌≤◌, ◌+◌, ℕ, suc, zero, Bool, true, false, cond, List, Option, Some, None, drop, length, map, refl, sym, ap, subst, append-nil, arith, eq-eqb, eqb-true, []}
use Rattle.std.specs.Prelude.{nat_eq, sum}
use Rattle.target_base.specs.declared.types.Effect.{Effect}
use Rattle.target_base.specs.declared.types.Effect.TheVariants as effects
use Rattle.target_base.specs.declared.types.IndexId.{IndexId}
use Rattle.target_base.specs.declared.types.Role.{Role}
use Rattle.target_base.specs.declared.types.Role.TheVariants as roles
use Rattle.target_base.specs.declared.types.Target.{Target}
use Rattle.target_base.specs.Roles.{is_definition as is_definition_role, is_frame_or_symbol, is_immediate}
use Rattle.meaning.specs.Code.{Silent}
use Rattle.meaning.specs.Environment.{constant_source}
use Rattle.meaning.specs.Live.{Among as Member}
use Rattle.meaning.specs.declared.types.Constant.{Constant}
use Rattle.meaning.specs.declared.types.Constant.TheVariants.{Immediate}
use Rattle.meaning.specs.declared.types.Source.{Source}
use Rattle.mir_func.specs.declared.func.Loc.{Loc}
use Rattle.mir_func.specs.declared.func.RegOp.{RegOp}
use Rattle.mir_func.specs.declared.func.Operand.{Operand}
use Rattle.mir_func.specs.declared.func.Operand.TheVariants as operands
use Rattle.mir_func.specs.declared.func.Instr.{Instr}
use Rattle.mir_func.specs.declared.func.Block.{Block}
use Rattle.mir_func.specs.Value.{Function}
use Rattle.mir_func.specs.Binding.{does, effect_of, is_definition, is_early_clobber, passes, roles_of}
use Rattle.mir_meaning.specs.Codes.{item_of}
use Rattle.mir_meaning.specs.Items.{constant_bits, constant_lanes, constant_of, given_constant, moved, undefined}
use Rattle.mir_meaning.specs.Registers.{located_lanes, located_widths, numbers, operand_widths, whole_lanes}
use Rattle.mir_meaning.specs.Rules.{V1, fits_role}
use Rattle.instr_effects.proofs.Members.{member-elim, member-none}
use Rattle.live_laws.proofs.Touch.Roles.{TakeAll, addr-takes, const-takes}
use Rattle.spiller.specs.Rematerialised.{is_constant, repeated}
use Rattle.spiller.specs.Setting.{plain_definition}
use Rattle.spill_laws.specs.Standing.{IsConstant}
use Rattle.spill_laws.proofs.Outcomes.{definition-register}
use Rattle.spill_laws.proofs.SlotWrites.{source_at}
use Rattle.spill_laws.proofs.SpillItems.{item-known}

-- the operand is a constant at each width
abbrev pub AlwaysConstant : Operand → Type 0
AlwaysConstant o = (w : ℕ) → (n : Constant) × (constant_of w o ≡ Some n)

immediate-constant : (r : Role) (o : Operand) → is_immediate r ≡ true → fits_role r o ≡ true → AlwaysConstant o
immediate-constant roles.Imm (operands.Imm z) h g = λ w. (_, refl)
immediate-constant r o h g = absurd (cc)

object-constant : (r : Role) (o : Operand) → is_frame_or_symbol r ≡ true → fits_role r o ≡ true → AlwaysConstant o
object-constant roles.Frame (operands.Stack n) h g = λ w. (_, refl)
object-constant roles.Frame (operands.FixedStack n) h g = λ w. (_, refl)
object-constant roles.Sym (operands.Symbol n) h g = λ w. (_, refl)
object-constant r o h g = absurd (cc)

-- a constant's operands: a definition and a constant
pub record ConstantOperands (os : List Operand) : Type 0 where
  pub definition : RegOp
  pub operand : Operand
  pub are : os ≡ operands.Reg definition ∷ operand ∷ []
  pub defines : is_definition definition ≡ true
  pub always : AlwaysConstant operand

fits-definition : (r : Role) (d : RegOp) → is_definition_role r ≡ true → fits_role r (operands.Reg d) ≡ true → is_definition d ≡ true
fits-definition (roles.Def k) d h g = g
fits-definition (roles.Early k) d h g = g
fits-definition r d h g = absurd (cc)

two-operands : (test : Role → Bool) → ((r : Role) (o : Operand) → test r ≡ true → fits_role r o ≡ true → AlwaysConstant o) → (os : List Operand) → TakeAll (is_definition_role ∷ test ∷ []) os → ConstantOperands os
two-operands test h [] a = absurd a
two-operands test h (x ∷ []) a = absurd a.1
two-operands test h (x ∷ y ∷ z ∷ os) a = absurd a.1.1
two-operands test h (x ∷ y ∷ []) a =
    let d = definition-register a.0.0 x a.0.1 a.0.2 in
    record {
      definition = d.0;
      operand = y;
      are = ap (λ q. q ∷ y ∷ []) d.1;
      defines = fits-definition a.0.0 d.0 a.0.1 (subst (λ q. fits_role a.0.0 q ≡ true) d.1 a.0.2);
      always = h a.1.0.0 y a.1.0.1 a.1.0.2;
    }

module _ (t : Target) where
  pub constant-operands : (f : Function) (i : Instr) → V1 t f i ≡ true → does is_constant t i ≡ true → ConstantOperands i.operands
  constant-operands f i rule h = go (effect_of t i) refl h
    where
      go : (q : Option Effect) → effect_of t i ≡ q → passes is_constant q ≡ true → ConstantOperands i.operands
      go None e h = absurd (cc)
      go (Some effects.Const) e h = two-operands is_immediate immediate-constant i.operands (const-takes t f i rule e)
      go (Some effects.Addr) e h = two-operands is_frame_or_symbol object-constant i.operands (addr-takes t f i rule e)
      go (Some x) e h = absurd (cc)

  pub constant-item : (f : Function) (b : Block) (i : Instr) → does is_constant t i ≡ true → item_of t f b i ≡ Silent [] (given_constant t f (is_early_clobber (roles_of t i)) i.operands)
  constant-item f b i h = go (effect_of t i) refl h
    where
      go : (q : Option Effect) → effect_of t i ≡ q → passes is_constant q ≡ true → item_of t f b i ≡ Silent [] (given_constant t f (is_early_clobber (roles_of t i)) i.operands)
      go None e h = absurd (cc)
      go (Some effects.Const) e h = item-known t f b i effects.Const e
      go (Some effects.Addr) e h = item-known t f b i effects.Addr e
      go (Some x) e h = absurd (cc)

-- the sources of a constant at lanes of these widths

bits_by : List ℕ → Option Constant → List Source
bits_by ws None = []
bits_by ws (Some n) = constant_bits n 0 ws

pub const_sources : Operand → List ℕ → List Source
const_sources o ws = bits_by ws (constant_of (sum ws) o)

pub sources-are : (t : Target) (f : Function) (d : RegOp) (o : Operand) → constant_lanes t f d (constant_of (sum (operand_widths t f d)) o) ≡ const_sources o (operand_widths t f d)
unfolding const_sources bits_by
sources-are t f d o = go (constant_of (sum (operand_widths t f d)) o)
  where
    go : (q : Option Constant) → constant_lanes t f d q ≡ bits_by (operand_widths t f d) q
    go None = refl
    go (Some n) = refl

bits-long : (n : Constant) (low : ℕ) (ws : List ℕ) → length (constant_bits n low ws) ≡ length ws
bits-long n low [] = refl
bits-long n low (w ∷ ws) = let h = bits-long n (low + w) ws in omega (arith, h)

source-constant : (n : Constant) (low width : ℕ) → IsConstant (constant_source n low width)
source-constant (Immediate m) low width = tt
source-constant n low width = tt

bits-constant : (n : Constant) (low : ℕ) (ws : List ℕ) (q : Source) → Member q (constant_bits n low ws) → IsConstant q
bits-constant n low [] q m = absurd (member-none q m)
bits-constant n low (w ∷ ws) q m = member-elim q (constant_source n low w) (constant_bits n (low + w) ws) (λ e. subst IsConstant (sym e) (source-constant n low w)) (λ k. bits-constant n (low + w) ws q k) m

pub sources-long : (o : Operand) (ws : List ℕ) → AlwaysConstant o → length (const_sources o ws) ≡ length ws
unfolding const_sources bits_by
sources-long o ws h = let z = h (sum ws) in ap (λ q. length (bits_by ws q)) z.1 ∙ bits-long z.0 0 ws

pub sources-constant : (o : Operand) (ws : List ℕ) (q : Source) → Member q (const_sources o ws) → IsConstant q
unfolding const_sources bits_by
sources-constant o ws q m = go (constant_of (sum ws) o) m
  where
    go : (x : Option Constant) → Member q (bits_by ws x) → IsConstant q
    go None m = absurd (member-none q m)
    go (Some n) m = bits-constant n 0 ws q m

-- a constant for a definition that isn't `undef`
pub given-is : (t : Target) (f : Function) (early : Bool) (os : List Operand) (d : RegOp) (o : Operand) → os ≡ operands.Reg d ∷ o ∷ [] → (d.def && d.undef) ≡ false → given_constant t f early os ≡ moved early (located_lanes t f d.loc d.index) (const_sources o (located_widths t f d.loc d.index))
given-is t f early os d o are plain =
    ap (given_constant t f early) are
    ∙ ((λ j. moved early (located_lanes t f d.loc d.index) (sources-are t f d o j) ++ undefined early (cond (plain j) (whole_lanes t f d.loc) []))
    ∙ append-nil (moved early (located_lanes t f d.loc d.index) (const_sources o (located_widths t f d.loc d.index))))

-- a repeated one
pub repeated-item : (t : Target) (g : Function) (c : Block) (x : Instr) (l : Loc) (k : Option IndexId) → does is_constant t x ≡ true → (z : ConstantOperands x.operands)
    → item_of t g c (repeated x (plain_definition l k)) ≡ Silent [] (moved (is_early_clobber (roles_of t x)) (located_lanes t g l k) (const_sources z.operand (located_widths t g l k)))
repeated-item t g c x l k h z =
    constant-item t g c (repeated x (plain_definition l k)) h
    ∙ ap (λ ws. Silent [] ws) (given-is t g (is_early_clobber (roles_of t x)) (operands.Reg (plain_definition l k) ∷ drop 1 x.operands) (plain_definition l k) z.operand (ap (λ os. operands.Reg (plain_definition l k) ∷ drop 1 os) z.are) refl)

-- sources by their numbers

differs : (a k n : ℕ) → Member k (numbers (suc a) n) → nat_eq a k ≡ false
differs a k n m = go (nat_eq a k) refl
  where
    low : (b n k : ℕ) → Member k (numbers b n) → b ≤ k
    low b zero k m = absurd (member-none k m)
    low b (suc n) k m = member-elim k b (numbers (suc b) n) (λ e. subst (λ z. b ≤ z) (sym e) (omega arith)) (λ j. let h = low (suc b) n k j in omega (arith, h)) m

    go : (y : Bool) → nat_eq a k ≡ y → nat_eq a k ≡ false
    go false e = e
    go true e = let q = eqb-true a k e in let h = low (suc a) n k m in absurd (omega (arith, q, h))

pub map-more : {A B : Type 0} (f g : A → B) (xs : List A) → ((x : A) → Member x xs → f x ≡ g x) → map f xs ≡ map g xs
map-more f g [] h = refl
map-more f g (x ∷ xs) h = λ j. h x Member.here j ∷ map-more f g xs (λ y m. h y (Member.there m)) j

pub by-numbers : (a n : ℕ) (qs : List Source) → length qs ≡ n → map (source_at (numbers a n) qs) (numbers a n) ≡ qs
by-numbers a zero [] e = refl
by-numbers a zero (q ∷ qs) e = absurd (omega (arith, e))
by-numbers a (suc n) [] e = absurd (omega (arith, e))
by-numbers a (suc n) (q ∷ qs) e =
    (λ j. head j ∷ map-more (source_at (numbers a (suc n)) (q ∷ qs)) (source_at (numbers (suc a) n) qs) (numbers (suc a) n) (λ k m. ap (λ y. cond y q (source_at (numbers (suc a) n) qs k)) (differs a k n m)) j)
    ∙ ap (λ rest. q ∷ rest) (by-numbers (suc a) n qs (omega (arith, e)))
  where
    head : cond (nat_eq a a) q (source_at (numbers (suc a) n) qs a) ≡ q
    head = ap (λ y. cond y q (source_at (numbers (suc a) n) qs a)) (eq-eqb a a refl)
