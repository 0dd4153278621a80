-- What is known of an instruction of a function that may be spilled in.
use Rattle.std.proofs.Common.{◌≡◌, ◌∙◌, ℕ, ◌+◌, suc, Bool, true, false, cond, not, ◌&&◌, List, [], ◌∷◌, ◌++◌, Some, None, flat_map, refl, sym, ap, subst, arith}
use Rattle.std.specs.Prelude.{◌↔◌, Decides, filter_map, option_and_then, slice_get}
use Rattle.std.specs.List.{AllByRecursion, cons_option, list_all}
use Rattle.target_base.specs.declared.types.Effect.{Effect}
use Rattle.target_base.specs.declared.types.Role.{Role}
use Rattle.target_base.specs.declared.types.Target.{Target}
use Rattle.target_base.specs.Roles.{is_silent}
use Rattle.target_base.proofs.Tests.{first_of_both, second_of_both}
use Rattle.meaning.specs.Live.{Among as Member, here as first}
use Rattle.meaning.specs.declared.types.Lane.TheVariants.{VirtualLane}
use Rattle.mir_func.specs.declared.func.RegOp.{RegOp}
use Rattle.mir_func.specs.declared.func.Operand.{Operand}
use Rattle.mir_func.specs.declared.func.Operand.TheVariants as operands
use Rattle.mir_func.specs.declared.func.Instr.{Instr}
use Rattle.mir_func.specs.declared.func.Block.{Block}
use Rattle.mir_func.specs.Value.{Function}
use Rattle.mir_func.specs.Binding.{after_first, as_register, effect_of, explicit_bound, explicit_roles, first_role, implicit_registers, is_virtual, numbered, operand_class, register_at, roles_of}
use Rattle.mir_func.proofs.Bound.{bound_step, bound_none}
use Rattle.instr_effects.specs.declared.owner.Owner.TheVariants as owners
use Rattle.instr_effects.specs.Numbered.{number_in}
use Rattle.instr_effects.proofs.Members.{filter-of, flat-of}
use Rattle.live_lanes.specs.declared.table.Table.{Table}
use Rattle.live_lanes.specs.Looks.{exit_at}
use Rattle.live_laws.specs.Effects.Coded.{spot_in}
use Rattle.live_laws.specs.Effects.Shaped.{IsShaped}
use Rattle.live_laws.specs.Exact.Laws.{TellsInside}
use Rattle.live_laws.proofs.Touch.Roles.{fit, has_roles, met}
use Rattle.live_laws.proofs.Effects.Blocks.{member-slice}
use Rattle.lowering_laws.proofs.Rolled.{fit-operands}
use Rattle.spiller.specs.Reaching.{Facts, AreFacts}
use Rattle.spiller.specs.Setting.{Spilling, is_own}
use Rattle.spiller.specs.Rematerialised.{Reading, Wish, if_serves, reaches, reaching, repeatable_class, repeated_for, serves}
use Rattle.spiller.specs.Spilled.{OwnDefinition, definitions_in, own_definition}
use Rattle.spiller.specs.Views.{IsThere}
use Rattle.spiller.specs.Placing.{IsPlainForm}

-- implicit operands stand last, and are physical registers

fixed-of : (e : Effect) (os : List RegOp) → list_all (λ o. not (is_virtual o.loc) && not (is_silent e)) os ≡ true → list_all (λ o. not (is_virtual o.loc)) os ≡ true
fixed-of e [] h = refl
fixed-of e (o ∷ os) h =
    let z = first_of_both (not (is_virtual o.loc) && not (is_silent e)) (list_all (λ x. not (is_virtual x.loc) && not (is_silent e)) os) h in
    let w = second_of_both (not (is_virtual o.loc) && not (is_silent e)) (list_all (λ x. not (is_virtual x.loc) && not (is_silent e)) os) h in
    λ k. first_of_both (not (is_virtual o.loc)) (not (is_silent e)) z k && fixed-of e os w k

pub plain-form : (t : Target) (f : Function) (i : Instr) (e : Effect) → IsShaped t f i → effect_of t i ≡ Some e → has_roles e ≡ true → IsPlainForm i
plain-form t f i e shaped known rolled = record {
  last = (fit-operands t f i e known rolled shaped.operands).0;
  fixed = fixed-of (met t f i e known shaped.operands).0.effect (implicit_registers i.operands) (fit t f i e known shaped.operands rolled).implicit;
}

-- definitions of the range

-- it is by an instruction of which P holds
abbrev pub IsDefinedIn : (Instr → Type 0) → ℕ × OwnDefinition → Type 0
IsDefinedIn P p = P p.1.by × (d : RegOp) × (register_at p.1.by.operands p.1.number ≡ Some d)

module _ (s : Spilling) (P : Instr → Type 0) where
  one-defined : (i : Instr) → P i → (n k : ℕ) (rs : List Role) (os : List Operand) → ((j : ℕ) → slice_get os j ≡ slice_get i.operands (k + j)) → (rest : List OwnDefinition) → ((m : ℕ) → AllByRecursion (IsDefinedIn P) (numbered m rest))
      → AllByRecursion (IsDefinedIn P) (numbered n (filter_map (own_definition s i) (numbered k (explicit_bound rs os)) ++ rest))
  one-defined i h n k rs [] at rest more = subst (λ bs. AllByRecursion (IsDefinedIn P) (numbered n (filter_map (own_definition s i) (numbered k bs) ++ rest))) (sym (bound_none rs)) (more n)
  one-defined i h n k rs (o ∷ os) at rest more = subst (λ bs. AllByRecursion (IsDefinedIn P) (numbered n (filter_map (own_definition s i) (numbered k bs) ++ rest))) (sym (bound_step rs o os)) (by o (here (at 0)) (λ m. one-defined i h m (suc k) (after_first rs) os next rest more))
    where
      here : slice_get (o ∷ os) 0 ≡ slice_get i.operands (k + 0) → Some o ≡ slice_get i.operands k
      here e = let z : k + 0 ≡ k = omega arith in e ∙ ap (slice_get i.operands) z

      next : (j : ℕ) → slice_get os j ≡ slice_get i.operands (suc k + j)
      next j = let z : k + suc j ≡ suc k + j = omega arith in at (suc j) ∙ ap (slice_get i.operands) z

      one : (r : RegOp) (b : Bool) → Some (operands.Reg r) ≡ slice_get i.operands k → ((m : ℕ) → AllByRecursion (IsDefinedIn P) (numbered m (filter_map (own_definition s i) (numbered (suc k) (explicit_bound (after_first rs) os)) ++ rest))) → AllByRecursion (IsDefinedIn P) (numbered n (cons_option (cond b (Some (record { by = i; number = k; index = r.index; class = operand_class s.target s.func (first_role rs) r })) None) (filter_map (own_definition s i) (numbered (suc k) (explicit_bound (after_first rs) os))) ++ rest))
      one r true e tail = ((h, r, ap (option_and_then as_register) (sym e)), tail (suc n))
      one r false e tail = tail n

      by : (x : Operand) → Some x ≡ slice_get i.operands k → ((m : ℕ) → AllByRecursion (IsDefinedIn P) (numbered m (filter_map (own_definition s i) (numbered (suc k) (explicit_bound (after_first rs) os)) ++ rest))) → AllByRecursion (IsDefinedIn P) (numbered n (filter_map (own_definition s i) ((k, (first_role rs, x)) ∷ numbered (suc k) (explicit_bound (after_first rs) os)) ++ rest))
      by (operands.Reg r) e tail = one r (is_own s r && r.def) e tail
      by x e tail = tail n

  pub all-defined : (n : ℕ) (is : List Instr) → AllByRecursion P is → AllByRecursion (IsDefinedIn P) (numbered n (definitions_in s is))
  all-defined n [] h = tt
  all-defined n (i ∷ is) h = one-defined i h.0 n 0 (explicit_roles (roles_of s.target i)) i.operands (λ j. let z : j ≡ 0 + j = omega arith in ap (slice_get i.operands) z) (definitions_in s is) (λ m. all-defined m is h.1)

-- what is live behind an instruction

same_answer : {P : Type 0} (r q : Bool) → Decides r P → (q ≡ true) ↔ P → r ≡ q
same_answer true q h k = sym (k.1 (h.0 refl))
same_answer false true h k = h.1 (k.0 refl)
same_answer false false h k = refl

pub tells-live : (t : Target) (f : Function) (x : Table) (v : ℕ) (facts : Facts) (i : Instr) (p j : ℕ) → AreFacts t f v facts → TellsInside t f x → spot_in i.id f.blocks ≡ Some (p, j) → (k : ℕ) → facts.live_behind i.id k ≡ exit_at x (number_in x.lanes (owners.Range v k)) i.id
tells-live t f x v facts i p j are inside at k = same_answer (facts.live_behind i.id k) (exit_at x (number_in x.lanes (owners.Range v k)) i.id) (are.live (i.id, k)) (inside.exit (VirtualLane v k) refl refl i.id p j at)

-- an instruction that is repeated is one of the function's

pub there-of : (f : Function) (d : Instr) → Member d (flat_map (λ b. b.instrs) f.blocks) → IsThere f d
there-of f d m = let z = flat-of (λ (b : Block). b.instrs) d f.blocks m in let p = member-slice z.0 f.blocks z.1 in let j = member-slice d z.0.instrs z.2 in (p.0, j.0, z.0, p.1, j.1)

serving : (t : Target) (wish : Wish) (ds : List Instr) (d : Instr) → if_serves t wish ds ≡ Some d → Member d ds
serving t wish [] d e = absurd (cc)
serving t wish (x ∷ []) d e = go (serves t wish (repeatable_class t x)) e
  where
    go : (b : Bool) → cond b (Some x) None ≡ Some d → Member d (x ∷ [])
    go true h = let z : x ≡ d = cc in subst (λ y. Member y (x ∷ [])) z first
    go false h = absurd (cc)
serving t wish (x ∷ y ∷ ds) d e = absurd (cc)

pub repeated-there : (s : Spilling) (r : Reading) (d : Instr) → repeated_for s r ≡ Some d → IsThere s.func d
repeated-there s r d e = there-of s.func d (filter-of (λ x. reaches s x r) d (flat_map (λ b. b.instrs) s.func.blocks) (serving s.target r.wish (reaching s r) d e)).0
