-- The places of instructions whose readings are listed.
use Rattle.std.proofs.Common.{◌≡◌, ◌∙◌, ℕ, ◌≤◌, zero, suc, Bool, true, false, cond, not, ◌&&◌, ◌||◌, List, [], ◌∷◌, ◌++◌, Option, Some, None, take, map, refl, sym, ap, subst, eq-eqb, eqb-true}
use Rattle.std.specs.Prelude.{filter, find, nat_eq, slice_get, slice_index}
use Rattle.std.specs.List.{AllByRecursion, list_all, list_any}
use Rattle.target_base.specs.declared.types.Effect.{Effect}
use Rattle.target_base.specs.declared.types.Effect.TheVariants as effects
use Rattle.target_base.specs.declared.types.Target.{Target}
use Rattle.target_base.proofs.Tests.{first_of_both, second_of_both}
use Rattle.meaning.specs.Live.{Among as Member, here as first, there as later}
use Rattle.mir_func.specs.declared.func.Operand.{Operand}
use Rattle.mir_func.specs.declared.func.Operand.TheVariants as operands
use Rattle.mir_func.specs.declared.func.Instr.{Instr}
use Rattle.mir_func.specs.declared.func.RegOp.{RegOp}
use Rattle.mir_func.specs.declared.func.Block.{Block}
use Rattle.mir_func.specs.Value.{Function}
use Rattle.mir_func.specs.Binding.{does, effect_of, is_lowered_away, is_terminator, is_virtual, passes}
use Rattle.mir_meaning.specs.Rules.{V8, copy_fits, implicit_def_fits, implicit_last}
use Rattle.instr_effects.proofs.Members.{member-elim, member-none}
use Rattle.live_lanes.specs.declared.table.Table.{Table}
use Rattle.live_lanes.proofs.Certain.{not-true}
use Rattle.live_laws.specs.Effects.Shaped.{IsShaped}
use Rattle.live_laws.proofs.Effects.Lists.{all-of}
use Rattle.live_laws.proofs.Touch.Roles.{met}
use Rattle.lowering_laws.proofs.BlockRules.{ordered}
use Rattle.spiller.specs.MaySpill.{MaySpill}
use Rattle.spiller.specs.Listed.{place_at}
use Rattle.spiller.specs.Placing.{AreFixed, IsPlainForm}
use Rattle.spiller.specs.Rematerialised.{places_from}
use Rattle.spiller.proofs.Known.{plain-form}
use Rattle.spiller.specs.Ends.{ends_of}

-- behind a terminator stand terminators only

module _ (t : Target) where
  abbrev ends : Instr → Bool
  ends i = does is_terminator t i

  abbrev rule-eight : List Instr → ℕ → Instr → Bool
  rule-eight is j i = ends i || not (list_any ends (take j is))

  all-end : (is : List Instr) → ((j : ℕ) (i : Instr) → slice_get is j ≡ Some i → ends i ≡ true) → list_all ends is ≡ true
  all-end [] h = refl
  all-end (x ∷ is) h = λ k. h 0 x refl k && all-end is (λ j i e. h (suc j) i e) k

  past-one : (a : Bool) → (a || not true) ≡ true → a ≡ true
  past-one true e = refl
  past-one false e = absurd (cc)

  ordered-by : (is : List Instr) → ((j : ℕ) (i : Instr) → slice_get is j ≡ Some i → rule-eight is j i ≡ true) → ordered t is ≡ true
  ordered-by [] h = refl
  ordered-by (x ∷ is) h = go (ends x) refl (ordered-by is)
    where
      go : (b : Bool) → ends x ≡ b → (((j : ℕ) (i : Instr) → slice_get is j ≡ Some i → rule-eight is j i ≡ true) → ordered t is ≡ true) → cond b (list_all ends is) (ordered t is) ≡ true
      go true e ih = all-end is (λ j i q. past-one (ends i) (subst (λ b. (ends i || not (b || list_any ends (take j is))) ≡ true) e (h (suc j) i q)))
      go false e ih = ih (λ j i q. subst (λ b. (ends i || not (b || list_any ends (take j is))) ≡ true) e (h (suc j) i q))

  abbrev place_in : List Instr → Instr → List Instr
  place_in is i = cond (ends i) (ends_of t is) (i ∷ [])

  -- a place with an instruction is the place of that instruction
  pub place-of : (is p : List Instr) (i : Instr) → ordered t is ≡ true → Member p (places_from t is) → Member i p → p ≡ place_in is i
  place-of [] p i o m k = absurd (member-none p m)
  place-of (j ∷ is) p i o m k = go (ends j) refl o m (λ e q. place-of is p i e q k)
    where
      Is : Bool → Type 0
      Is b = p ≡ cond (ends i) (cond b (j ∷ is) (ends_of t is)) (i ∷ [])

      go : (b : Bool) → ends j ≡ b → cond b (list_all ends is) (ordered t is) ≡ true → Member p (cond b ((j ∷ is) ∷ []) ((j ∷ []) ∷ places_from t is)) → (ordered t is ≡ true → Member p (places_from t is) → p ≡ place_in is i) → Is b
      go true e q n more =
          member-elim p (j ∷ is) []
          (λ h. let yes : ends i ≡ true = all-of ends i (j ∷ is) (subst (Member i) h k) (λ r. e r && q r) in h ∙ sym (ap (λ b. cond b (j ∷ is) (i ∷ [])) yes))
          (λ h. absurd (member-none p h)) n
      go false e q n more =
          member-elim p (j ∷ []) (places_from t is)
          (λ h.
          member-elim i j []
          (λ same. let none : ends i ≡ false = ap ends same ∙ e in h ∙ (ap (λ x. x ∷ []) (sym same) ∙ sym (ap (λ b. cond b (ends_of t is) (i ∷ [])) none)))
          (λ w. absurd (member-none i w)) (subst (Member i) h k))
          (more q) n

  -- which is a place
  pub place-there : (is : List Instr) (i : Instr) → ordered t is ≡ true → Member i is → Member (place_in is i) (places_from t is)
  place-there [] i o m = absurd (member-none i m)
  place-there (j ∷ is) i o m = go (ends j) refl o (λ e k. place-there is i e k)
    where
      There : Bool → Type 0
      There b = Member (cond (ends i) (cond b (j ∷ is) (ends_of t is)) (i ∷ [])) (cond b ((j ∷ is) ∷ []) ((j ∷ []) ∷ places_from t is))

      go : (b : Bool) → ends j ≡ b → cond b (list_all ends is) (ordered t is) ≡ true → (ordered t is ≡ true → Member i is → Member (place_in is i) (places_from t is)) → There b
      go true e q more = let yes : ends i ≡ true = all-of ends i (j ∷ is) m (λ r. e r && q r) in subst (λ b. Member (cond b (j ∷ is) (i ∷ [])) ((j ∷ is) ∷ [])) (sym yes) first
      go false e q more =
          member-elim i j is
          (λ same. let none : ends i ≡ false = ap ends same ∙ e in subst (λ b. Member (cond b (ends_of t is) (i ∷ [])) ((j ∷ []) ∷ places_from t is)) (sym none) (subst (λ x. Member (i ∷ []) ((x ∷ []) ∷ places_from t is)) same first))
          (λ k. later (more q k)) m

  -- with the instruction
  pub in-place : (is : List Instr) (i : Instr) → Member i is → Member i (place_in is i)
  in-place is i m = go (ends i) refl
    where
      among : (js : List Instr) → ends i ≡ true → Member i js → Member i (ends_of t js)
      among [] e k = absurd (member-none i k)
      among (j ∷ js) e k = step (ends j) refl (among js e)
        where
          step : (b : Bool) → ends j ≡ b → (Member i js → Member i (ends_of t js)) → Member i (cond b (j ∷ js) (ends_of t js))
          step true f ih = k
          step false f ih = member-elim i j js (λ same. absurd (let z : true ≡ false = sym e ∙ (ap ends same ∙ f) in cc)) ih k

      go : (b : Bool) → ends i ≡ b → Member i (cond b (ends_of t is) (i ∷ []))
      go true e = among is e m
      go false e = first

  -- its instructions are of the block
  pub of-block : (is : List Instr) (i j : Instr) → Member i is → Member j (place_in is i) → Member j is
  of-block is i j m k = go (ends i) k
    where
      back : (js : List Instr) → Member j (ends_of t js) → Member j js
      back [] h = h
      back (x ∷ js) h = step (ends x) h (back js)
        where
          step : (b : Bool) → Member j (cond b (x ∷ js) (ends_of t js)) → (Member j (ends_of t js) → Member j js) → Member j (x ∷ js)
          step true g ih = g
          step false g ih = later (ih g)

      go : (b : Bool) → Member j (cond b (ends_of t is) (i ∷ [])) → Member j is
      go true h = back is h
      go false h = member-elim j i [] (λ same. subst (λ x. Member x is) (sym same) m) (λ w. absurd (member-none j w)) h

-- forms of instructions

copy-form : (os : List Operand) → copy_fits os ≡ true → (implicit_last os ≡ true) × AreFixed os
copy-form (operands.Reg d ∷ operands.Reg o ∷ []) h =
    let a : d.implicit ≡ false = not-true d.implicit (second_of_both d.def (not d.implicit) (first_of_both (d.def && not d.implicit) (not o.def && not o.implicit) h)) in
    let c : o.implicit ≡ false = not-true o.implicit (second_of_both (not o.def) (not o.implicit) (second_of_both (d.def && not d.implicit) (not o.def && not o.implicit) h)) in (
      (λ k. cond (a k) (o.implicit && true) (cond (c k) true true)),
      (λ k. list_all (λ (x : RegOp). not (is_virtual x.loc)) (cond (a k) (d ∷ cond (c k) (o ∷ []) []) (cond (c k) (o ∷ []) []))),
    )
copy-form os h = absurd (cc)

undefined-form : (os : List Operand) → implicit_def_fits os ≡ true → (implicit_last os ≡ true) × AreFixed os
undefined-form (operands.Reg d ∷ []) h =
    let a : d.implicit ≡ false = not-true d.implicit (second_of_both d.def (not d.implicit) h) in
    ((λ k. cond (a k) true true), (λ k. list_all (λ (x : RegOp). not (is_virtual x.loc)) (cond (a k) (d ∷ []) [])))
undefined-form os h = absurd (cc)

form-by : (t : Target) (f : Function) (i : Instr) (e : Effect) → not (is_lowered_away e) ≡ true → effect_of t i ≡ Some e → IsShaped t f i → IsPlainForm i
form-by t f i effects.Copy h known shaped = let z = copy-form i.operands (met t f i effects.Copy known shaped.operands).3 in record { last = z.0; fixed = z.1 }
form-by t f i effects.ImplicitDef h known shaped = let z = undefined-form i.operands (met t f i effects.ImplicitDef known shaped.operands).3 in record { last = z.0; fixed = z.1 }
form-by t f i effects.Phi h known shaped = absurd (cc)
form-by t f i effects.RegSequence h known shaped = absurd (cc)
form-by t f i effects.InsertSubreg h known shaped = absurd (cc)
form-by t f i e h known shaped = plain-form t f i e shaped known refl

known-effect : (q : Option Effect) → passes (λ e. not (is_lowered_away e)) q ≡ true → (e : Effect) × (q ≡ Some e) × (not (is_lowered_away e) ≡ true)
known-effect None h = absurd (cc)
known-effect (Some e) h = (e, refl, h)

pub all-by : (P : Instr → Type 0) (is : List Instr) → ((i : Instr) → Member i is → P i) → AllByRecursion P is
all-by P [] h = tt
all-by P (i ∷ is) h = (h i first, all-by P is (λ j m. h j (later m)))

module _ (t : Target) (f : Function) (x : Table) (v : ℕ) (may : MaySpill t f x v) (b : Block) (mb : Member b f.blocks) where
  pub form : (i : Instr) → Member i b.instrs → IsPlainForm i
  form i m = let z = known-effect (effect_of t i) (may.lowered.lowered b i mb m) in form-by t f i z.0 z.2 z.1 (may.lowered.rules.shaped b i mb m)

  pub in-line : ordered t b.instrs ≡ true
  unfolding V8
  in-line = ordered-by t b.instrs (λ j i e. may.lowered.terminators b j i mb e)

  pub forms : (i : Instr) → Member i b.instrs → AllByRecursion IsPlainForm (place_at t b i)
  forms i m = all-by IsPlainForm (place_at t b i) (λ j k. form j (of-block t b.instrs i j m k))
