-- What instructions of a kind do.
use Rattle.std.proofs.Common.{◌≡◌, ℕ, ◌+◌, ◌*◌, ◌%◌, ◌^◌, List, [], ◌∷◌, ◌++◌, Bool, true, false, cond, Some, None, map, refl, sym, ap, ◌∙◌, subst, append-nil}
use Rattle.std.specs.Prelude.{Option, sum, not, nat_eq}
use Rattle.target_base.specs.declared.types.Effect.{Effect}
use Rattle.target_base.specs.declared.types.Effect.TheVariants as effects
use Rattle.meaning.specs.Environment.{Environment, Value, answer}
use Rattle.meaning.specs.Perform.{Outside, Performed, perform, given, combined, applied, operand, widths_of, lanes_of, width, ternary, divided, compared, load_at, store_at, branch, holds, call_symbol, ReturnEvent, CallEvent, StoreEvent, OpaqueEvent, Undefined, answered_control, first_answer, lacks, opaque_shown, shown, stopped, all_lanes, answers, loaded, stored, address, base_width, Taken, Next, Stop, Returned}
use Rattle.meaning.specs.declared.types.Rest.{Rest}
use Rattle.meaning.specs.Perform as meaning
use Rattle.mir_interp.specs.declared.types.Event.{Event}
use Rattle.mir_interp.specs.declared.types.End.TheVariants as ends
use Rattle.mir_interp.specs.declared.external.ExternalState as code
use Rattle.mir_interp.specs.declared.perform.EffectKind.TheVariants as kinds
use Rattle.mir_interp.specs.declared.perform.Control.{Control}
use Rattle.mir_interp.specs.declared.perform.Control.TheVariants as controls
use Rattle.mir_interp.specs.Stands.{event_of}
use Rattle.target_base.specs.declared.types.OpaqueKind.{OpaqueKind}
use Rattle.target_base.specs.declared.types.OpaqueKind.TheVariants as opaque_kinds
use Rattle.mir_interp.specs.Kinds.{asked, control_of, kind_of, two, one, quotient, if_some, passes, Pure, Did}
use Rattle.mir_interp.specs.Remembers.{Matches, Remembers, remembered}
use Rattle.mir_interp.specs.declared.types.Event.TheVariants as events
use Rattle.meaning.specs.Environment.{residue}

pub perform_binary : (r : Rest) (e : Effect) (env : Environment) (o : Outside) (vs : List (List Value)) → r.effect ≡ e → kind_of e ≡ kinds.Binary → perform r env o vs ≡ meaning.computed (given r.result (combined (operand r.widths vs 0) (operand r.widths vs 1) (two e (width r)))) o
unfolding perform
perform_binary r effects.Add env o vs h k = rw h refl
perform_binary r effects.Sub env o vs h k = rw h refl
perform_binary r effects.Mul env o vs h k = rw h refl
perform_binary r effects.And env o vs h k = rw h refl
perform_binary r effects.Or env o vs h k = rw h refl
perform_binary r effects.Xor env o vs h k = rw h refl
perform_binary r effects.Shl env o vs h k = rw h refl
perform_binary r effects.Shr env o vs h k = rw h refl
perform_binary r effects.Sar env o vs h k = rw h refl
perform_binary r e env o vs h k = absurd (cc)

pub perform_unary : (r : Rest) (e : Effect) (env : Environment) (o : Outside) (vs : List (List Value)) → r.effect ≡ e → kind_of e ≡ kinds.Unary → perform r env o vs ≡ meaning.computed (given r.result (applied (operand r.widths vs 0) (one e (sum (widths_of r.widths 0)) (width r)))) o
unfolding perform
perform_unary r effects.Neg env o vs h k = rw h refl
perform_unary r effects.Not env o vs h k = rw h refl
perform_unary r effects.Zext env o vs h k = rw h refl
perform_unary r effects.Sext env o vs h k = rw h refl
perform_unary r e env o vs h k = absurd (cc)

pub perform_ternary : (r : Rest) (e : Effect) (env : Environment) (o : Outside) (vs : List (List Value)) → r.effect ≡ e → kind_of e ≡ kinds.Ternary → perform r env o vs ≡ meaning.computed (given r.result (combined (combined (operand r.widths vs 0) (operand r.widths vs 1) (λ a b. a * b)) (operand r.widths vs 2) (λ m c. (m + c) % 2 ^ width r))) o
unfolding perform
perform_ternary r effects.Madd env o vs h k = rw h refl
perform_ternary r e env o vs h k = absurd (cc)

pub perform_division : (r : Rest) (e : Effect) (env : Environment) (o : Outside) (vs : List (List Value)) → r.effect ≡ e → kind_of e ≡ kinds.Division → perform r env o vs ≡ divided r o (quotient e) (operand r.widths vs 0) (operand r.widths vs 1)
unfolding perform
perform_division r effects.Udiv env o vs h k = rw h refl
perform_division r effects.Urem env o vs h k = rw h refl
perform_division r e env o vs h k = absurd (cc)

pub perform_comparison : (r : Rest) (e : Effect) (env : Environment) (o : Outside) (vs : List (List Value)) → r.effect ≡ e → kind_of e ≡ kinds.Comparison → perform r env o vs ≡ meaning.computed (compared (sum (widths_of r.widths 0)) (operand r.widths vs 0) (operand r.widths vs 1)) o
unfolding perform
perform_comparison r effects.Cmp env o vs h k = rw h refl
perform_comparison r e env o vs h k = absurd (cc)

pub perform_loading : (r : Rest) (e : Effect) (scale : ℕ) (env : Environment) (o : Outside) (vs : List (List Value)) → r.effect ≡ e → kind_of e ≡ kinds.Loading scale → perform r env o vs ≡ load_at r env o scale (operand r.widths vs 0)
unfolding perform
perform_loading r (effects.Load s) scale env o vs h k = let same : s ≡ scale = cc in rw h (ap (λ t. load_at r env o t (operand r.widths vs 0)) same)
perform_loading r e scale env o vs h k = absurd (cc)

pub perform_storing : (r : Rest) (e : Effect) (scale : ℕ) (env : Environment) (o : Outside) (vs : List (List Value)) → r.effect ≡ e → kind_of e ≡ kinds.Storing scale → perform r env o vs ≡ store_at r o scale (lanes_of vs 1) (operand r.widths vs 0)
unfolding perform
perform_storing r (effects.Store s) scale env o vs h k = let same : s ≡ scale = cc in rw h (ap (λ t. store_at r o t (lanes_of vs 1) (operand r.widths vs 0)) same)
perform_storing r e scale env o vs h k = absurd (cc)

pub perform_jumping : (r : Rest) (e : Effect) (env : Environment) (o : Outside) (vs : List (List Value)) → r.effect ≡ e → kind_of e ≡ kinds.Jumping → Pure ([], controls.Taken) o (perform r env o vs)
unfolding perform
perform_jumping r effects.Jump env o vs h k = rw h record { results = refl; control = refl; outside = refl; events = refl }
perform_jumping r e env o vs h k = absurd (cc)

pub perform_idle : (r : Rest) (e : Effect) (env : Environment) (o : Outside) (vs : List (List Value)) → r.effect ≡ e → kind_of e ≡ kinds.Idle → Pure ([], controls.Next) o (perform r env o vs)
unfolding perform
perform_idle r effects.Copy env o vs h k = rw h record { results = refl; control = refl; outside = refl; events = refl }
perform_idle r effects.Phi env o vs h k = rw h record { results = refl; control = refl; outside = refl; events = refl }
perform_idle r effects.ImplicitDef env o vs h k = rw h record { results = refl; control = refl; outside = refl; events = refl }
perform_idle r effects.RegSequence env o vs h k = rw h record { results = refl; control = refl; outside = refl; events = refl }
perform_idle r effects.InsertSubreg env o vs h k = rw h record { results = refl; control = refl; outside = refl; events = refl }
perform_idle r effects.Const env o vs h k = rw h record { results = refl; control = refl; outside = refl; events = refl }
perform_idle r effects.Addr env o vs h k = rw h record { results = refl; control = refl; outside = refl; events = refl }
perform_idle r effects.Marker env o vs h k = rw h record { results = refl; control = refl; outside = refl; events = refl }
perform_idle r effects.Spill env o vs h k = rw h record { results = refl; control = refl; outside = refl; events = refl }
perform_idle r effects.Reload env o vs h k = rw h record { results = refl; control = refl; outside = refl; events = refl }
perform_idle r e env o vs h k = absurd (cc)

pub perform_on_flag : (r : Rest) (e : Effect) (env : Environment) (o : Outside) (vs : List (List Value)) → r.effect ≡ e → kind_of e ≡ kinds.OnFlag → perform r env o vs ≡ branch o (holds r.immediate) (operand r.widths vs 0)
unfolding perform
perform_on_flag r effects.Jcc env o vs h k = rw h refl
perform_on_flag r e env o vs h k = absurd (cc)

pub perform_on_number : (r : Rest) (e : Effect) (env : Environment) (o : Outside) (vs : List (List Value)) → r.effect ≡ e → kind_of e ≡ kinds.OnNumber → perform r env o vs ≡ branch o (λ n. not (nat_eq n 0)) (operand r.widths vs 0)
unfolding perform
perform_on_number r effects.Jnz env o vs h k = rw h refl
perform_on_number r e env o vs h k = absurd (cc)

pub perform_calling : (r : Rest) (e : Effect) (env : Environment) (o : Outside) (vs : List (List Value)) → r.effect ≡ e → kind_of e ≡ kinds.Calling → perform r env o vs ≡ call_symbol r env o vs
unfolding perform
perform_calling r effects.Call env o vs h k = rw h refl
perform_calling r e env o vs h k = absurd (cc)

pub perform_returning : (r : Rest) (e : Effect) (env : Environment) (o : Outside) (vs : List (List Value)) → r.effect ≡ e → kind_of e ≡ kinds.Returning → perform r env o vs ≡ record { results = []; outside = o; events = ReturnEvent (all_lanes vs) ∷ []; control = Stop Returned; divisor_defined = true }
unfolding perform
perform_returning r effects.Ret env o vs h k = rw h refl
perform_returning r e env o vs h k = absurd (cc)

pub perform_opaque : (r : Rest) (e : Effect) (kind : OpaqueKind) (env : Environment) (o : Outside) (vs : List (List Value)) → r.effect ≡ e → kind_of e ≡ kinds.Opaque kind → perform r env o vs ≡ opaque_shown kind r env o vs
unfolding perform
perform_opaque r (effects.Opaque opaque_kinds.Plain) kind env o vs h g = let same : opaque_kinds.Plain ≡ kind = cc in subst (λ t. perform r env o vs ≡ opaque_shown t r env o vs) same (rw h refl)
perform_opaque r (effects.Opaque opaque_kinds.Branch) kind env o vs h g = let same : opaque_kinds.Branch ≡ kind = cc in subst (λ t. perform r env o vs ≡ opaque_shown t r env o vs) same (rw h refl)
perform_opaque r (effects.Opaque opaque_kinds.Call) kind env o vs h g = let same : opaque_kinds.Call ≡ kind = cc in subst (λ t. perform r env o vs ≡ opaque_shown t r env o vs) same (rw h refl)
perform_opaque r (effects.Opaque opaque_kinds.Return) kind env o vs h g = let same : opaque_kinds.Return ≡ kind = cc in subst (λ t. perform r env o vs ≡ opaque_shown t r env o vs) same (rw h refl)
perform_opaque r e kind env o vs h g = absurd (cc)

pub pure_computed : (vs ws : List Value) (o : Outside) (d : Performed) → d ≡ meaning.computed ws o → vs ≡ ws → Pure (vs, controls.Next) o d
pure_computed vs ws o d e f = record {
  results = f ∙ sym (ap (λ x. x.results) e);
  control = sym (ap (λ x. x.control) e);
  outside = ap (λ x. x.outside) e;
  events = ap (λ x. x.events) e;
}

-- a division by what the divisor turned out to be
pub pure_no_divisor : (r : Rest) (o : Outside) (f : ℕ → ℕ → ℕ) (a b : Value) → b ≡ None → Pure ([], controls.Next) o (divided r o f a b)
pure_no_divisor r o f a None e = record { results = refl; control = refl; outside = refl; events = refl }
pure_no_divisor r o f a (Some b) e = absurd (cc)

trapped : (r : Rest) (o : Outside) (f : ℕ → ℕ → ℕ) (a : Value) (b : ℕ) (t : Bool) → t ≡ true → Pure ([], controls.Stop ends.Trapped) o (cond t (meaning.stopped o meaning.Trapped) (meaning.computed (given r.result (combined a (Some b) f)) o))
trapped r o f a b true e = record { results = refl; control = refl; outside = refl; events = refl }
trapped r o f a b false e = absurd (cc)

pub pure_trapped : (r : Rest) (o : Outside) (f : ℕ → ℕ → ℕ) (a v : Value) (b : ℕ) → v ≡ Some b → nat_eq b 0 ≡ true → Pure ([], controls.Stop ends.Trapped) o (divided r o f a v)
pure_trapped r o f a None b e h = absurd (cc)
pure_trapped r o f a (Some c) b e h = let same : c ≡ b = cc in trapped r o f a c (nat_eq c 0) (ap (λ t. nat_eq t 0) same ∙ h)

went_on : (r : Rest) (o : Outside) (f : ℕ → ℕ → ℕ) (a : Value) (b : ℕ) (t : Bool) (vs : List Value) → t ≡ false → vs ≡ given r.result (combined a (Some b) f) → Pure (vs, controls.Next) o (cond t (meaning.stopped o meaning.Trapped) (meaning.computed (given r.result (combined a (Some b) f)) o))
went_on r o f a b true vs e g = absurd (cc)
went_on r o f a b false vs e g = record { results = g; control = refl; outside = refl; events = refl }

pub pure_divided : (r : Rest) (o : Outside) (f : ℕ → ℕ → ℕ) (a v : Value) (b : ℕ) (vs : List Value) → v ≡ Some b → nat_eq b 0 ≡ false → vs ≡ given r.result (combined a (Some b) f) → Pure (vs, controls.Next) o (divided r o f a v)
pure_divided r o f a None b vs e h g = absurd (cc)
pure_divided r o f a (Some c) b vs e h g = let same : c ≡ b = cc in went_on r o f a c (nat_eq c 0) vs (ap (λ t. nat_eq t 0) same ∙ h) (g ∙ ap (λ t. given r.result (combined a (Some t) f)) (sym same))

-- a branch by its test
taken : (o : Outside) (b : Bool) → Pure ([], cond b controls.Taken controls.Next) o (record { results = []; outside = o; events = []; control = cond b Taken Next; divisor_defined = true })
taken o true = record { results = refl; control = refl; outside = refl; events = refl }
taken o false = record { results = refl; control = refl; outside = refl; events = refl }

pub pure_branch : (o : Outside) (test : ℕ → Bool) (v : Value) (t : Option Bool) (c : Control) → c ≡ if_some t → t ≡ passes test v → Pure ([], c) o (branch o test v)
pure_branch o test None t c e f =
    subst (λ x. Pure ([], x) o (branch o test None)) (sym (e ∙ ap if_some f)) record { results = refl; control = refl; outside = refl; events = refl }
pure_branch o test (Some n) t c e f =
    subst (λ x. Pure ([], x) o (branch o test (Some n))) (sym (e ∙ ap if_some f)) (taken o (test n))

pub pure_by : (p : List Value × Control) (o : Outside) (d e : Performed) → d ≡ e → Pure p o e → Pure p o d
pure_by p o d e h = subst (Pure p o) (sym h)

-- kinds, from what the code computed

pub binary_pure : (r : Rest) (env : Environment) (o : Outside) (vs : List (List Value)) (S : List ℕ) (lanes : List Value) (n a b : Value) (w : ℕ) → kind_of r.effect ≡ kinds.Binary → S ≡ r.result → lanes ≡ given S n → n ≡ combined a b (two r.effect w) → w ≡ sum S → a ≡ operand r.widths vs 0 → b ≡ operand r.widths vs 1 → Pure (lanes, controls.Next) o (perform r env o vs)
binary_pure r env o vs S lanes n a b w k s el en ew ea eb =
    pure_computed lanes _ o _ (perform_binary r r.effect env o vs refl k)
    (el ∙ (ap (λ t. given t n) s
    ∙ ap (given r.result) (en ∙ (ap (λ t. combined t b (two r.effect w)) ea ∙ (ap (λ t. combined (operand r.widths vs 0) t (two r.effect w)) eb ∙ ap (λ t. combined (operand r.widths vs 0) (operand r.widths vs 1) (two r.effect t)) (ew ∙ ap sum s))))))

pub unary_pure : (r : Rest) (env : Environment) (o : Outside) (vs : List (List Value)) (S : List ℕ) (lanes : List Value) (n a : Value) (from w : ℕ) → kind_of r.effect ≡ kinds.Unary → S ≡ r.result → lanes ≡ given S n → n ≡ applied a (one r.effect from w) → from ≡ sum (widths_of r.widths 0) → w ≡ sum S → a ≡ operand r.widths vs 0 → Pure (lanes, controls.Next) o (perform r env o vs)
unary_pure r env o vs S lanes n a from w k s el en ef ew ea =
    pure_computed lanes _ o _ (perform_unary r r.effect env o vs refl k)
    (el ∙ (ap (λ t. given t n) s
    ∙ ap (given r.result) (en ∙ (ap (λ t. applied t (one r.effect from w)) ea ∙ (ap (λ t. applied (operand r.widths vs 0) (one r.effect t w)) ef ∙ ap (λ t. applied (operand r.widths vs 0) (one r.effect (sum (widths_of r.widths 0)) t)) (ew ∙ ap sum s))))))

pub ternary_pure : (r : Rest) (env : Environment) (o : Outside) (vs : List (List Value)) (S : List ℕ) (lanes : List Value) (n a b c : Value) (w : ℕ) → kind_of r.effect ≡ kinds.Ternary → S ≡ r.result → lanes ≡ given S n → n ≡ combined (combined a b (λ x y. x * y)) c (λ m z. (m + z) % 2 ^ w) → w ≡ sum S → a ≡ operand r.widths vs 0 → b ≡ operand r.widths vs 1 → c ≡ operand r.widths vs 2 → Pure (lanes, controls.Next) o (perform r env o vs)
ternary_pure r env o vs S lanes n a b c w k s el en ew ea eb ec =
    pure_computed lanes _ o _ (perform_ternary r r.effect env o vs refl k)
    (el ∙ (ap (λ t. given t n) s
    ∙ ap (given r.result) (en ∙ (ap (λ t. combined (combined t b (λ x y. x * y)) c (λ m z. (m + z) % 2 ^ w)) ea
    ∙ (ap (λ t. combined (combined (operand r.widths vs 0) t (λ x y. x * y)) c (λ m z. (m + z) % 2 ^ w)) eb
    ∙ (ap (λ t. combined (combined (operand r.widths vs 0) (operand r.widths vs 1) (λ x y. x * y)) t (λ m z. (m + z) % 2 ^ w)) ec
    ∙ ap (λ t. combined (combined (operand r.widths vs 0) (operand r.widths vs 1) (λ x y. x * y)) (operand r.widths vs 2) (λ m z. (m + z) % 2 ^ t)) (ew ∙ ap sum s)))))))

pub comparison_pure : (r : Rest) (env : Environment) (o : Outside) (vs : List (List Value)) (lanes : List Value) (a b : Value) (w : ℕ) → kind_of r.effect ≡ kinds.Comparison → lanes ≡ compared w a b → w ≡ sum (widths_of r.widths 0) → a ≡ operand r.widths vs 0 → b ≡ operand r.widths vs 1 → Pure (lanes, controls.Next) o (perform r env o vs)
comparison_pure r env o vs lanes a b w k el ew ea eb =
    pure_computed lanes _ o _ (perform_comparison r r.effect env o vs refl k)
    (el ∙ (ap (λ t. compared t a b) ew ∙ (ap (λ t. compared (sum (widths_of r.widths 0)) t b) ea ∙ ap (λ t. compared (sum (widths_of r.widths 0)) (operand r.widths vs 0) t) eb)))

pub no_divisor_pure : (r : Rest) (env : Environment) (o : Outside) (vs : List (List Value)) → kind_of r.effect ≡ kinds.Division → operand r.widths vs 1 ≡ None → Pure ([], controls.Next) o (perform r env o vs)
no_divisor_pure r env o vs k e = pure_by _ o _ _ (perform_division r r.effect env o vs refl k) (pure_no_divisor r o (quotient r.effect) (operand r.widths vs 0) (operand r.widths vs 1) e)

pub trapped_pure : (r : Rest) (env : Environment) (o : Outside) (vs : List (List Value)) (b : ℕ) → kind_of r.effect ≡ kinds.Division → operand r.widths vs 1 ≡ Some b → nat_eq b 0 ≡ true → Pure ([], controls.Stop ends.Trapped) o (perform r env o vs)
trapped_pure r env o vs b k e z = pure_by _ o _ _ (perform_division r r.effect env o vs refl k) (pure_trapped r o (quotient r.effect) (operand r.widths vs 0) (operand r.widths vs 1) b e z)

pub divided_pure : (r : Rest) (env : Environment) (o : Outside) (vs : List (List Value)) (S : List ℕ) (lanes : List Value) (n a : Value) (b : ℕ) → kind_of r.effect ≡ kinds.Division → operand r.widths vs 1 ≡ Some b → nat_eq b 0 ≡ false → S ≡ r.result → lanes ≡ given S n → n ≡ combined a (Some b) (quotient r.effect) → a ≡ operand r.widths vs 0 → Pure (lanes, controls.Next) o (perform r env o vs)
divided_pure r env o vs S lanes n a b k e z s el en ea =
    pure_by _ o _ _ (perform_division r r.effect env o vs refl k)
    (pure_divided r o (quotient r.effect) (operand r.widths vs 0) (operand r.widths vs 1) b lanes e z
    (el ∙ (ap (λ t. given t n) s ∙ ap (given r.result) (en ∙ ap (λ t. combined t (Some b) (quotient r.effect)) ea))))

pub on_flag_pure : (r : Rest) (env : Environment) (o : Outside) (vs : List (List Value)) (a : Value) (t : Option Bool) (c : Control) → kind_of r.effect ≡ kinds.OnFlag → c ≡ if_some t → t ≡ passes (holds r.immediate) a → a ≡ operand r.widths vs 0 → Pure ([], c) o (perform r env o vs)
on_flag_pure r env o vs a t c k ec et ea = pure_by _ o _ _ (perform_on_flag r r.effect env o vs refl k) (pure_branch o (holds r.immediate) (operand r.widths vs 0) t c ec (et ∙ ap (passes (holds r.immediate)) ea))

pub on_number_pure : (r : Rest) (env : Environment) (o : Outside) (vs : List (List Value)) (a : Value) (t : Option Bool) (c : Control) → kind_of r.effect ≡ kinds.OnNumber → c ≡ if_some t → t ≡ passes (λ n. not (nat_eq n 0)) a → a ≡ operand r.widths vs 0 → Pure ([], c) o (perform r env o vs)
on_number_pure r env o vs a t c k ec et ea = pure_by _ o _ _ (perform_on_number r r.effect env o vs refl k) (pure_branch o (λ n. not (nat_eq n 0)) (operand r.widths vs 0) t c ec (et ∙ ap (passes (λ n. not (nat_eq n 0))) ea))

load_nowhere : (r : Rest) (env : Environment) (o : Outside) (scale : ℕ) (v : Value) → v ≡ None → Pure ([], controls.Stop ends.Undefined) o (load_at r env o scale v)
load_nowhere r env o scale None e = record { results = refl; control = refl; outside = refl; events = refl }
load_nowhere r env o scale (Some b) e = absurd (cc)

load_somewhere : (r : Rest) (env : Environment) (o : Outside) (scale : ℕ) (v : Value) (b : ℕ) (lanes : List Value) → v ≡ Some b → lanes ≡ loaded env o (base_width r) (address r scale b) r.result → Pure (lanes, controls.Next) o (load_at r env o scale v)
load_somewhere r env o scale None b lanes e f = absurd (cc)
load_somewhere r env o scale (Some d) b lanes e f =
    let same : b ≡ d = cc in
    record { results = f ∙ ap (λ t. loaded env o (base_width r) (address r scale t) r.result) same; control = refl; outside = refl; events = refl }

pub no_base_pure : (r : Rest) (scale : ℕ) (env : Environment) (o : Outside) (vs : List (List Value)) → kind_of r.effect ≡ kinds.Loading scale → operand r.widths vs 0 ≡ None → Pure ([], controls.Stop ends.Undefined) o (perform r env o vs)
no_base_pure r scale env o vs k e = pure_by _ o _ _ (perform_loading r r.effect scale env o vs refl k) (load_nowhere r env o scale (operand r.widths vs 0) e)

pub load_pure : (r : Rest) (scale : ℕ) (env : Environment) (o : Outside) (vs : List (List Value)) (S : List ℕ) (lanes : List Value) (b a w : ℕ) → kind_of r.effect ≡ kinds.Loading scale → operand r.widths vs 0 ≡ Some b → S ≡ r.result → w ≡ sum (widths_of r.widths 0) → a ≡ (b + residue r.immediate w * scale) % 2 ^ w → lanes ≡ loaded env o w a S → Pure (lanes, controls.Next) o (perform r env o vs)
load_pure r scale env o vs S lanes b a w k e s ew ea el =
    pure_by _ o _ _ (perform_loading r r.effect scale env o vs refl k)
    (load_somewhere r env o scale (operand r.widths vs 0) b lanes e
    (el ∙ (ap (loaded env o w a) s ∙ (ap (λ t. loaded env o w t r.result) ea ∙ ap (λ t. loaded env o t ((b + residue r.immediate t * scale) % 2 ^ t) r.result) ew))))

-- what is done to the outside

pub did_nothing : (env : Environment) (p : List Value × Control) (m : code.ExternalState) (es : List Event) (o : Outside) (d : Performed) → Remembers env m o → Pure p o d → Did env p m es es d
did_nothing env p m es o d h q = record {
  results = q.results;
  control = q.control;
  outside = subst (Remembers env m) (sym q.outside) h;
  events = sym (append-nil (map event_of es)) ∙ ap (λ t. map event_of es ++ t) (sym q.events);
}

one_more : (es : List Event) (x : Event) (y : meaning.Event) → event_of x ≡ y → map event_of (es ++ x ∷ []) ≡ map event_of es ++ y ∷ []
one_more [] x y e = ap (λ t. t ∷ []) e
one_more (z ∷ es) x y e = ap (λ t. event_of z ∷ t) (one_more es x y e)

did_by : (env : Environment) (p : List Value × Control) (m : code.ExternalState) (es fs : List Event) (d e : Performed) → d ≡ e → Did env p m es fs e → Did env p m es fs d
did_by env p m es fs d e h = subst (Did env p m es fs) (sym h)

pub returning_did : (r : Rest) (env : Environment) (o : Outside) (vs : List (List Value)) (m : code.ExternalState) (es fs : List Event) (lanes : List Value) → kind_of r.effect ≡ kinds.Returning → Remembers env m o → lanes ≡ all_lanes vs → fs ≡ es ++ events.Return lanes ∷ [] → Did env ([], controls.Stop ends.Returned) m es fs (perform r env o vs)
returning_did r env o vs m es fs lanes k h el ef = did_by env _ m es fs _ _ (perform_returning r r.effect env o vs refl k) record {
  results = refl;
  control = refl;
  outside = h;
  events = ap (map event_of) ef ∙ one_more es (events.Return lanes) (ReturnEvent (all_lanes vs)) (ap ReturnEvent el);
}

pub calling_did : (r : Rest) (env : Environment) (o : Outside) (vs : List (List Value)) (m m' : code.ExternalState) (es fs : List Event) (lanes answered : List Value) (name : List ℕ) → kind_of r.effect ≡ kinds.Calling → Remembers env m o → m'.bytes ≡ m.bytes → m'.calls ≡ m.calls + 1 → lanes ≡ all_lanes vs → name ≡ r.symbol → answered ≡ answers env m.calls 0 r.result → fs ≡ es ++ events.Call name lanes ∷ [] → Did env (answered, controls.Next) m' es fs (perform r env o vs)
calling_did r env o vs m m' es fs lanes answered name k h eb ec el en ea ef = did_by env _ m' es fs _ _ (perform_calling r r.effect env o vs refl k) record {
  results = ea ∙ ap (λ t. answers env t 0 r.result) h.calls;
  control = refl;
  outside = record { bytes = subst (λ t. Matches env t o.bytes) (sym eb) h.bytes; calls = ec ∙ ap (λ t. t + 1) h.calls };
  events = ap (map event_of) ef ∙ one_more es (events.Call name lanes) (CallEvent r.symbol (all_lanes vs)) (ap (λ t. CallEvent t lanes) en ∙ ap (CallEvent r.symbol) el);
}

-- opaque instructions

pub leaving_did : (r : Rest) (env : Environment) (o : Outside) (vs : List (List Value)) (m : code.ExternalState) (es fs : List Event) (lanes : List Value) (name : List ℕ) → Remembers env m o → lanes ≡ all_lanes vs → name ≡ r.symbol → fs ≡ es ++ events.Opaque name lanes ∷ [] → Did env ([], controls.Stop ends.Returned) m es fs (shown opaque_kinds.Return r env o vs)
leaving_did r env o vs m es fs lanes name h el en ef = record {
  results = refl;
  control = refl;
  outside = h;
  events = ap (map event_of) ef ∙ one_more es (events.Opaque name lanes) (OpaqueEvent r.symbol (all_lanes vs)) (ap (λ t. OpaqueEvent t lanes) en ∙ ap (OpaqueEvent r.symbol) el);
}

pub asking_did : (kind : OpaqueKind) (r : Rest) (env : Environment) (o : Outside) (vs : List (List Value)) (m m' : code.ExternalState) (es fs : List Event) (lanes answered : List Value) (name : List ℕ) (c : Control) → Remembers env m o → m'.bytes ≡ m.bytes → m'.calls ≡ m.calls + 1 → lanes ≡ all_lanes vs → name ≡ r.symbol → answered ≡ answers env m.calls (first_answer kind) r.result → control_of c ≡ answered_control kind env m.calls → fs ≡ es ++ events.Opaque name lanes ∷ [] → Did env (answered, c) m' es fs (asked kind r env o vs)
asking_did kind r env o vs m m' es fs lanes answered name c h eb ec el en ea ek ef = record {
  results = ea ∙ ap (λ t. answers env t (first_answer kind) r.result) h.calls;
  control = ek ∙ ap (answered_control kind env) h.calls;
  outside = record { bytes = subst (λ t. Matches env t o.bytes) (sym eb) h.bytes; calls = ec ∙ ap (λ t. t + 1) h.calls };
  events = ap (map event_of) ef ∙ one_more es (events.Opaque name lanes) (OpaqueEvent r.symbol (all_lanes vs)) (ap (λ t. OpaqueEvent t lanes) en ∙ ap (OpaqueEvent r.symbol) el);
}

-- where an opaque branch goes
pub told_next : (env : Environment) (call told : ℕ) → told ≡ answer env call 0 8 → nat_eq (told % 3) 0 ≡ true → Next ≡ answered_control opaque_kinds.Branch env call
told_next env call told e h = sym (ap (λ b. cond b Next Taken) (ap (λ x. nat_eq (x % 3) 0) (sym e) ∙ h))

pub told_taken : (env : Environment) (call told : ℕ) → told ≡ answer env call 0 8 → nat_eq (told % 3) 0 ≡ false → Taken ≡ answered_control opaque_kinds.Branch env call
told_taken env call told e h = sym (ap (λ b. cond b Next Taken) (ap (λ x. nat_eq (x % 3) 0) (sym e) ∙ h))

-- all but a return take an answer
pub shown_asked : (kind : OpaqueKind) (r : Rest) (env : Environment) (o : Outside) (vs : List (List Value)) → (kind ≡ opaque_kinds.Return → ⊥) → shown kind r env o vs ≡ asked kind r env o vs
shown_asked opaque_kinds.Return r env o vs n = absurd (n refl)
shown_asked kind r env o vs n = refl

pub asked_did : (kind : OpaqueKind) (r : Rest) (env : Environment) (o : Outside) (vs : List (List Value)) (p : List Value × Control) (m : code.ExternalState) (es fs : List Event) → (kind ≡ opaque_kinds.Return → ⊥) → Did env p m es fs (asked kind r env o vs) → Did env p m es fs (shown kind r env o vs)
asked_did kind r env o vs p m es fs n h = did_by env p m es fs _ _ (shown_asked kind r env o vs n) h

pub shown_did : (r : Rest) (kind : OpaqueKind) (env : Environment) (o : Outside) (vs : List (List Value)) (p : List Value × Control) (m : code.ExternalState) (es fs : List Event) (b : Bool) → kind_of r.effect ≡ kinds.Opaque kind → b ≡ lacks r.needed vs → b ≡ false → Did env p m es fs (shown kind r env o vs) → Did env p m es fs (perform r env o vs)
shown_did r kind env o vs p m es fs b k el e h =
    did_by env p m es fs _ _ (perform_opaque r r.effect kind env o vs refl k ∙ ap (λ t. cond t (stopped o Undefined) (shown kind r env o vs)) (sym el ∙ e)) h

pub lacking_did : (r : Rest) (kind : OpaqueKind) (env : Environment) (o : Outside) (vs : List (List Value)) (m : code.ExternalState) (es : List Event) (b : Bool) → kind_of r.effect ≡ kinds.Opaque kind → Remembers env m o → b ≡ lacks r.needed vs → b ≡ true → Did env ([], controls.Stop ends.Undefined) m es es (perform r env o vs)
lacking_did r kind env o vs m es b k h el e =
    did_by env _ m es es _ _ (perform_opaque r r.effect kind env o vs refl k ∙ ap (λ t. cond t (stopped o Undefined) (shown kind r env o vs)) (sym el ∙ e))
    record { results = refl; control = refl; outside = h; events = sym (append-nil (map event_of es)) }

store_nowhere : (r : Rest) (env : Environment) (o : Outside) (scale : ℕ) (ls : List Value) (m : code.ExternalState) (es : List Event) (v : Value) → Remembers env m o → v ≡ None → Did env ([], controls.Stop ends.Undefined) m es es (store_at r o scale ls v)
store_nowhere r env o scale ls m es None h e = record { results = refl; control = refl; outside = h; events = sym (append-nil (map event_of es)) }
store_nowhere r env o scale ls m es (Some b) h e = absurd (cc)

pub no_base_did : (r : Rest) (scale : ℕ) (env : Environment) (o : Outside) (vs : List (List Value)) (m : code.ExternalState) (es : List Event) → kind_of r.effect ≡ kinds.Storing scale → Remembers env m o → operand r.widths vs 0 ≡ None → Did env ([], controls.Stop ends.Undefined) m es es (perform r env o vs)
no_base_did r scale env o vs m es k h e = did_by env _ m es es _ _ (perform_storing r r.effect scale env o vs refl k) (store_nowhere r env o scale (lanes_of vs 1) m es (operand r.widths vs 0) h e)

store_somewhere : (r : Rest) (env : Environment) (o : Outside) (scale : ℕ) (ls : List Value) (m' : code.ExternalState) (es fs : List Event) (v : Value) (b : ℕ) (lanes : List Value) → v ≡ Some b → Matches env m'.bytes (stored (base_width r) (address r scale b) (widths_of r.widths 1) lanes o.bytes) → m'.calls ≡ o.calls → lanes ≡ ls → fs ≡ es ++ events.Store (address r scale b) lanes ∷ [] → Did env ([], controls.Next) m' es fs (store_at r o scale ls v)
store_somewhere r env o scale ls m' es fs None b lanes e h c el ef = absurd (cc)
store_somewhere r env o scale ls m' es fs (Some d) b lanes e h c el ef =
    let same : b ≡ d = cc in
    record {
      results = refl;
      control = refl;
      outside = record { bytes = subst (λ t. Matches env m'.bytes (stored (base_width r) (address r scale d) (widths_of r.widths 1) t o.bytes)) el (subst (λ t. Matches env m'.bytes (stored (base_width r) (address r scale t) (widths_of r.widths 1) lanes o.bytes)) same h); calls = c };
      events = ap (map event_of) ef ∙ one_more es (events.Store (address r scale b) lanes) (StoreEvent (address r scale d) ls) (ap (λ t. StoreEvent (address r scale t) lanes) same ∙ ap (StoreEvent (address r scale d)) el);
    }

pub storing_did : (r : Rest) (scale : ℕ) (env : Environment) (o : Outside) (vs : List (List Value)) (m' : code.ExternalState) (es fs : List Event) (b a w : ℕ) (lanes : List Value) → kind_of r.effect ≡ kinds.Storing scale → operand r.widths vs 0 ≡ Some b → w ≡ sum (widths_of r.widths 0) → a ≡ (b + residue r.immediate w * scale) % 2 ^ w → Matches env m'.bytes (stored w a (widths_of r.widths 1) lanes o.bytes) → m'.calls ≡ o.calls → lanes ≡ lanes_of vs 1 → fs ≡ es ++ events.Store a lanes ∷ [] → Did env ([], controls.Next) m' es fs (perform r env o vs)
storing_did r scale env o vs m' es fs b a w lanes k e ew ea h c el ef =
    let at = ea ∙ ap (λ t. (b + residue r.immediate t * scale) % 2 ^ t) ew in
    did_by env _ m' es fs _ _ (perform_storing r r.effect scale env o vs refl k)
    (store_somewhere r env o scale (lanes_of vs 1) m' es fs (operand r.widths vs 0) b lanes e
    (subst (λ t. Matches env m'.bytes (stored (base_width r) t (widths_of r.widths 1) lanes o.bytes)) at (subst (λ t. Matches env m'.bytes (stored t a (widths_of r.widths 1) lanes o.bytes)) ew h))
    c el (ef ∙ ap (λ t. es ++ events.Store t lanes ∷ []) at))

pub pure_empty : (ls : List Value) (c : Control) (o : Outside) (d : Performed) → ls ≡ [] → Pure ([], c) o d → Pure (ls, c) o d
pure_empty ls c o d e h = subst (λ t. Pure (t, c) o d) (sym e) h

pub did_empty : (env : Environment) (ls : List Value) (c : Control) (m : code.ExternalState) (es fs : List Event) (d : Performed) → ls ≡ [] → Did env ([], c) m es fs d → Did env (ls, c) m es fs d
did_empty env ls c m es fs d e h = subst (λ t. Did env (t, c) m es fs d) (sym e) h
