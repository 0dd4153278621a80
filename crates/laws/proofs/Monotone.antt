-- An operation does at least as much where its values and the memory are at least as defined.
use Rattle.std.proofs.Common.{◌≡◌, ◌+◌, ◌*◌, ◌/◌, ◌%◌, ◌^◌, ◌∙◌, ◌-◌, ◌&&◌, ◌||◌, ◌∷◌, ℕ, Bool, true, false, cond, not, eqb, List, Some, None, refl, sym, ap, subst, bit_and, bit_or, bit_xor, []}
use Rattle.std.specs.Prelude.{is_none, sum}
use Rattle.target_base.specs.declared.types.OpaqueKind.{OpaqueKind}
use Rattle.target_base.specs.declared.types.OpaqueKind.TheVariants as kinds
use Rattle.target_base.specs.declared.types.Effect.{Effect}
use Rattle.meaning.specs.Environment.{Environment, Value}
use Rattle.meaning.specs.Perform.{OpaqueEvent, Outside, Performed, Trapped, Undefined, address, all_lanes, answered_control, answers, applied, base_width, binary, branch, combined, compared, computed, divided, division, given, holds, has_undef, lacks, lanes_of, load_at, loaded, opaque_shown, operand, perform, shifted_signed, shown, stopped, store_at, ternary, unary, widened, width, widths_of}
use Rattle.meaning.specs.Refines.{AllAtLeast, AtLeast}
use Rattle.meaning.specs.declared.types.Rest.{Rest}
use Rattle.laws.proofs.Defined.{all-lanes-least, applied-least, both-least, given-least, lanes-least, loaded-least, nth-least, operand-least, same-places, stored-least}
use Rattle.laws.specs.Monotone.{ByPlace, IsFine, OperandsAtLeast, OutsideAtLeast, PerformIsMonotone, PerformedAtLeast}
use Rattle.target_base.specs.declared.types.Effect.TheVariants as effects

or-false : (a b : Bool) → (a || b) ≡ false → (a ≡ false) × (b ≡ false)
or-false true b e = absurd (cc)
or-false false b e = (refl, e)

-- where no lane is Undef, none is where lanes are at least as defined
undef-least : (v u : List Value) → AllAtLeast v u → has_undef v ≡ false → has_undef u ≡ false
undef-least [] [] h e = refl
undef-least [] (y ∷ u) h e = absurd h
undef-least (x ∷ v) [] h e = absurd h
undef-least (None ∷ v) (y ∷ u) h e = absurd (cc)
undef-least (Some n ∷ v) (y ∷ u) h e = ap (λ z. is_none z || has_undef u) h.0 ∙ undef-least v u h.1 e

needed-least : (n : Bool) (v u : List Value) → AllAtLeast v u → (n && has_undef v) ≡ false → (n && has_undef u) ≡ false
needed-least true v u h e = undef-least v u h e
needed-least false v u h e = refl

lacks-least : (ns : List Bool) (vs us : List (List Value)) → OperandsAtLeast vs us → lacks ns vs ≡ false → lacks ns us ≡ false
lacks-least [] vs us h e = refl
lacks-least (n ∷ ns) [] [] h e = refl
lacks-least (n ∷ ns) [] (u ∷ us) h e = absurd h
lacks-least (n ∷ ns) (v ∷ vs) [] h e = absurd h
lacks-least (n ∷ ns) (v ∷ vs) (u ∷ us) h e =
    let d = or-false (n && has_undef v) (lacks ns vs) e in
    ap (λ b. b || lacks ns us) (needed-least n v u h.0 d.0) ∙ lacks-least ns vs us h.1 d.1

nothing : ByPlace [] []
nothing i = tt

module _ (o o' : Outside) (h : OutsideAtLeast o o') where
  computed-least : (vs us : List Value) → ByPlace vs us → PerformedAtLeast (computed vs o) (computed us o')
  computed-least vs us k = record { results = k; outside = h; events = tt; control = refl; divisor_defined = refl }

  divided-least : (r : Rest) (f : ℕ → ℕ → ℕ) (a b a' b' : Value) → AtLeast a a' → AtLeast b b' → IsFine (divided r o f a b) → PerformedAtLeast (divided r o f a b) (divided r o' f a' b')
  divided-least r f a None a' b' p q k = let e : false ≡ true = k.1 in absurd (cc)
  divided-least r f a (Some n) a' b' p q k =
      subst (λ x. PerformedAtLeast (divided r o f a (Some n)) (divided r o' f a' x)) (sym q) (by_zero (eqb n 0))
    where
      by_zero : (z : Bool) → PerformedAtLeast (cond z (stopped o Trapped) (computed (given r.result (combined a (Some n) f)) o)) (cond z (stopped o' Trapped) (computed (given r.result (combined a' (Some n) f)) o'))
      by_zero true = record { results = nothing; outside = h; events = tt; control = refl; divisor_defined = refl }
      by_zero false = computed-least (given r.result (combined a (Some n) f)) (given r.result (combined a' (Some n) f)) (given-least r.result (combined a (Some n) f) (combined a' (Some n) f) (both-least a (Some n) a' (Some n) f p refl))

  compared-least : (w : ℕ) (a b a' b' : Value) → AtLeast a a' → AtLeast b b' → ByPlace (compared w a b) (compared w a' b')
  compared-least w None b a' b' p q = λ i. tt
  compared-least w (Some x) None a' b' p q = λ i. tt
  compared-least w (Some x) (Some y) a' b' p q =
      same-places (compared w (Some x) (Some y)) (compared w a' b') (sym (ap (λ u. compared w u b') p ∙ ap (compared w (Some x)) q))

  branch-least : (test : ℕ → Bool) (a b : Value) → AtLeast a b → IsFine (branch o test a) → PerformedAtLeast (branch o test a) (branch o' test b)
  branch-least test None b p k = absurd (k.0 refl)
  branch-least test (Some n) b p k =
      subst (λ x. PerformedAtLeast (branch o test (Some n)) (branch o' test x)) (sym p) (record { results = nothing; outside = h; events = tt; control = refl; divisor_defined = refl })

  load-least : (r : Rest) (env : Environment) (scale : ℕ) (a b : Value) → AtLeast a b → IsFine (load_at r env o scale a) → PerformedAtLeast (load_at r env o scale a) (load_at r env o' scale b)
  load-least r env scale None b p k = absurd (k.0 refl)
  load-least r env scale (Some n) b p k =
      let w = base_width r in
      let at = address r scale n in
      subst (λ x. PerformedAtLeast (load_at r env o scale (Some n)) (load_at r env o' scale x)) (sym p) (computed-least (loaded env o w at r.result) (loaded env o' w at r.result) (nth-least (loaded env o w at r.result) (loaded env o' w at r.result) (loaded-least env o o' h w at r.result)))

  store-least : (r : Rest) (scale : ℕ) (vs us : List Value) (a b : Value) → AllAtLeast vs us → AtLeast a b → IsFine (store_at r o scale vs a) → PerformedAtLeast (store_at r o scale vs a) (store_at r o' scale us b)
  store-least r scale vs us None b l p k = absurd (k.0 refl)
  store-least r scale vs us (Some n) b l p k =
      let w = base_width r in
      let at = address r scale n in
      let ws = widths_of r.widths 1 in
      subst (λ x. PerformedAtLeast (store_at r o scale vs (Some n)) (store_at r o' scale us x)) (sym p) (record {
        results = nothing;
        outside = record { bytes = stored-least w at ws vs us o.bytes o'.bytes l h.bytes; calls = h.calls };
        events = ((refl, l), tt);
        control = refl;
        divisor_defined = refl;
      })

abbrev with_effect : Rest → Effect → Rest
with_effect r e = record { effect = e; widths = r.widths; result = r.result; immediate = r.immediate; symbol = r.symbol; needed = r.needed }

module _ (r : Rest) (env : Environment) (o o' : Outside) (vs us : List (List Value)) (h : OutsideAtLeast o o') (v : OperandsAtLeast vs us) where
  at-least : (n : ℕ) → AtLeast (operand r.widths vs n) (operand r.widths us n)
  at-least n = operand-least r.widths vs us n v

  gives-least : (a b : Value) → AtLeast a b → PerformedAtLeast (computed (given r.result a) o) (computed (given r.result b) o')
  gives-least a b k = computed-least o o' h (given r.result a) (given r.result b) (given-least r.result a b k)

  unary-least : (f : ℕ → ℕ → ℕ) → PerformedAtLeast (unary r o vs f) (unary r o' us f)
  unary-least f =
      let g : ℕ → ℕ = λ a. f (width r) a % 2 ^ width r in
      let a = operand r.widths vs 0 in
      let b = operand r.widths us 0 in
      gives-least (applied a g) (applied b g) (applied-least a b g (at-least 0))

  binary-least : (f : ℕ → ℕ → ℕ → ℕ) → PerformedAtLeast (binary r o vs f) (binary r o' us f)
  binary-least f =
      let g : ℕ → ℕ → ℕ = λ a b. f (width r) a b % 2 ^ width r in
      let a = operand r.widths vs 0 in
      let b = operand r.widths vs 1 in
      let a' = operand r.widths us 0 in
      let b' = operand r.widths us 1 in
      gives-least (combined a b g) (combined a' b' g) (both-least a b a' b' g (at-least 0) (at-least 1))

  ternary-least : PerformedAtLeast (ternary r o vs) (ternary r o' us)
  ternary-least =
      let f : ℕ → ℕ → ℕ = λ a b. a * b in
      let g : ℕ → ℕ → ℕ = λ m c. (m + c) % 2 ^ width r in
      let a = operand r.widths vs 0 in
      let b = operand r.widths vs 1 in
      let c = operand r.widths vs 2 in
      let a' = operand r.widths us 0 in
      let b' = operand r.widths us 1 in
      let c' = operand r.widths us 2 in
      gives-least (combined (combined a b f) c g) (combined (combined a' b' f) c' g) (both-least (combined a b f) c (combined a' b' f) c' g (both-least a b a' b' f (at-least 0) (at-least 1)) (at-least 2))

  division-least : (f : ℕ → ℕ → ℕ) → IsFine (division r o vs f) → PerformedAtLeast (division r o vs f) (division r o' us f)
  division-least f k = divided-least o o' h r f (operand r.widths vs 0) (operand r.widths vs 1) (operand r.widths us 0) (operand r.widths us 1) (at-least 0) (at-least 1) k

  cmp-least : (w : ℕ) → PerformedAtLeast (computed (compared w (operand r.widths vs 0) (operand r.widths vs 1)) o) (computed (compared w (operand r.widths us 0) (operand r.widths us 1)) o')
  cmp-least w =
      let a = operand r.widths vs 0 in
      let b = operand r.widths vs 1 in
      let a' = operand r.widths us 0 in
      let b' = operand r.widths us 1 in
      computed-least o o' h (compared w a b) (compared w a' b') (compared-least o o' h w a b a' b' (at-least 0) (at-least 1))

  abbrev answered : OpaqueKind → ℕ → Outside → List (List Value) → Performed
  answered kind j out ws = record {
    results = answers env out.calls j r.result;
    outside = record { bytes = out.bytes; calls = out.calls + 1 };
    events = OpaqueEvent r.symbol (all_lanes ws) ∷ [];
    control = answered_control kind env out.calls;
    divisor_defined = true;
  }

  lanes : AllAtLeast (all_lanes vs) (all_lanes us)
  lanes = all-lanes-least vs us v

  none-least : PerformedAtLeast (computed [] o) (computed [] o')
  none-least = computed-least o o' h [] [] nothing

  -- the answers are the same
  answered-least : (kind : OpaqueKind) (j : ℕ) → PerformedAtLeast (answered kind j o vs) (answered kind j o' us)
  answered-least kind j = record {
    results = same-places (answers env o.calls j r.result) (answers env o'.calls j r.result) (ap (λ c. answers env c j r.result) h.calls);
    outside = record { bytes = h.bytes; calls = ap (λ c. c + 1) h.calls };
    events = ((refl, lanes), tt);
    control = ap (answered_control kind env) (sym h.calls);
    divisor_defined = refl;
  }

  shown-least : (kind : OpaqueKind) → PerformedAtLeast (shown kind r env o vs) (shown kind r env o' us)
  shown-least kinds.Plain = answered-least kinds.Plain 0
  shown-least kinds.Branch = answered-least kinds.Branch 1
  shown-least kinds.Call = answered-least kinds.Call 0
  shown-least kinds.Return = record { results = nothing; outside = h; events = ((refl, lanes), tt); control = refl; divisor_defined = refl }

  opaque-least : (kind : OpaqueKind) → IsFine (opaque_shown kind r env o vs) → PerformedAtLeast (opaque_shown kind r env o vs) (opaque_shown kind r env o' us)
  opaque-least kind k = by (lacks r.needed vs) (lacks r.needed us) k (lacks-least r.needed vs us v)
    where
      by : (x y : Bool) → IsFine (cond x (stopped o Undefined) (shown kind r env o vs)) → (x ≡ false → y ≡ false) → PerformedAtLeast (cond x (stopped o Undefined) (shown kind r env o vs)) (cond y (stopped o' Undefined) (shown kind r env o' us))
      by true y k m = absurd (k.0 refl)
      by false true k m = let e : true ≡ false = m refl in absurd (cc)
      by false false k m = shown-least kind

  by_effect : (e : Effect) → IsFine (perform (with_effect r e) env o vs) → PerformedAtLeast (perform (with_effect r e) env o vs) (perform (with_effect r e) env o' us)
  unfolding perform
  by_effect effects.Add k = binary-least (λ w a b. a + b)
  by_effect effects.Sub k = binary-least (λ w a b. a + (2 ^ w - b))
  by_effect effects.Mul k = binary-least (λ w a b. a * b)
  by_effect effects.And k = binary-least (λ w a b. bit_and a b)
  by_effect effects.Or k = binary-least (λ w a b. bit_or a b)
  by_effect effects.Xor k = binary-least (λ w a b. bit_xor a b)
  by_effect effects.Shl k = binary-least (λ w a b. a * 2 ^ (b % w))
  by_effect effects.Shr k = binary-least (λ w a b. a / 2 ^ (b % w))
  by_effect effects.Sar k = binary-least (λ w a b. shifted_signed w a (b % w))
  by_effect effects.Neg k = unary-least (λ w a. 2 ^ w - a)
  by_effect effects.Not k = unary-least (λ w a. 2 ^ w - 1 - a)
  by_effect effects.Udiv k = division-least (λ a b. a / b) k
  by_effect effects.Urem k = division-least (λ a b. a % b) k
  by_effect effects.Madd k = ternary-least
  by_effect effects.Zext k = unary-least (λ w a. a)
  by_effect effects.Sext k = unary-least (λ w a. widened (sum (widths_of r.widths 0)) w a)
  by_effect effects.Cmp k = cmp-least (sum (widths_of r.widths 0))
  by_effect (effects.Load scale) k = load-least o o' h r env scale (operand r.widths vs 0) (operand r.widths us 0) (at-least 0) k
  by_effect (effects.Store scale) k = store-least o o' h r scale (lanes_of vs 1) (lanes_of us 1) (operand r.widths vs 0) (operand r.widths us 0) (lanes-least vs us 1 v) (at-least 0) k
  by_effect effects.Jump k = record { results = nothing; outside = h; events = tt; control = refl; divisor_defined = refl }
  by_effect effects.Jcc k = branch-least o o' h (holds r.immediate) (operand r.widths vs 0) (operand r.widths us 0) (at-least 0) k
  by_effect effects.Jnz k = branch-least o o' h (λ n. not (eqb n 0)) (operand r.widths vs 0) (operand r.widths us 0) (at-least 0) k
  by_effect effects.Call k = record {
    results = same-places (answers env o.calls 0 r.result) (answers env o'.calls 0 r.result) (ap (λ c. answers env c 0 r.result) h.calls);
    outside = record { bytes = h.bytes; calls = ap (λ c. c + 1) h.calls };
    events = ((refl, lanes), tt);
    control = refl;
    divisor_defined = refl;
  }
  by_effect effects.Ret k = record { results = nothing; outside = h; events = (lanes, tt); control = refl; divisor_defined = refl }
  by_effect effects.Marker k = none-least
  by_effect effects.Copy k = none-least
  by_effect effects.Phi k = none-least
  by_effect effects.ImplicitDef k = none-least
  by_effect effects.RegSequence k = none-least
  by_effect effects.InsertSubreg k = none-least
  by_effect effects.Const k = none-least
  by_effect effects.Addr k = none-least
  by_effect effects.Spill k = none-least
  by_effect effects.Reload k = none-least
  by_effect (effects.Opaque kinds.Plain) k = opaque-least kinds.Plain k
  by_effect (effects.Opaque kinds.Branch) k = opaque-least kinds.Branch k
  by_effect (effects.Opaque kinds.Call) k = opaque-least kinds.Call k
  by_effect (effects.Opaque kinds.Return) k = opaque-least kinds.Return k

-- Operations are monotone: what is defined stays as it is where Undef gives way to values.
pub monotone : PerformIsMonotone
monotone r env o o' vs us h v k = by_effect r env o o' vs us h v r.effect k
