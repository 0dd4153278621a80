-- The operands with their roles of an instruction whose ties are lowered, each beside that of the instruction before.
use Rattle.std.proofs.Common.{◌≡◌, not, ◌∙◌, ◌&&◌, ◌||◌, ◌∷◌, ◌++◌, ◌+◌, ℕ, suc, Bool, true, false, cond, List, Option, Some, None, map, refl, sym, ap, subst, arith, []}
use Rattle.std.specs.Prelude.{find, slice_get}
use Rattle.std.specs.List.{list_all, list_any}
use Rattle.target_base.specs.declared.types.Role.{Role}
use Rattle.target_base.specs.declared.types.Target.{Target}
use Rattle.target_base.specs.Roles.{is_implicit}
use Rattle.target_base.proofs.Tests.{first_of_both, second_of_both}
use Rattle.meaning.specs.Live.{Among, here, there}
use Rattle.mir_func.specs.declared.func.Operand.{Operand}
use Rattle.mir_func.specs.declared.func.Operand.TheVariants as operands
use Rattle.mir_func.specs.declared.func.RegOp.{RegOp}
use Rattle.mir_func.specs.declared.func.Instr.{Instr}
use Rattle.mir_func.specs.Value.{Function}
use Rattle.mir_func.specs.Binding.{Bound, bound, explicit_bound, explicit_operands, explicit_roles, implicit_bound, implicit_registers, implicit_roles, is_implicit_operand, numbered, registers, roles_of, takes_many, takes_role}
use Rattle.mir_meaning.specs.Rules.{implicit_last}
use Rattle.two_address.specs.Classes.{seated}
use Rattle.two_address.specs.Ties.{retied_operand, ties_in, with_operands}
use Rattle.two_address.specs.declared.ties.Tie.{Tie}
use Rattle.instr_effects.proofs.Members.{filter-of, member-elim, member-none}
use Rattle.lowering_laws.proofs.EachBehind.{TiedInstr}
use Rattle.lowering_laws.proofs.FormedTies.{after, all-stay, stay-implicit}
use Rattle.lowering_laws.proofs.Rolled.{fit-operands}
use Rattle.lowering_laws.proofs.Seated.{none-explicit}
use Rattle.lowering_laws.proofs.TiedOperands.{implicit-same}
use Rattle.lowering_laws.proofs.Widths.{find-in}

module _ (t : Target) (f : Function) (z : TiedInstr t f) where
  open z use {i, r, e, known, rolled, c}

  abbrev os : List Operand
  os = i.operands

  abbrev es : List Role
  es = explicit_roles (roles_of t i)

  abbrev irs : List Role
  irs = implicit_roles (roles_of t i)

  abbrev bs : List Bound
  bs = seated t i

  abbrev T : List Tie
  T = ties_in t c i

  abbrev pub new_instr : Instr
  new_instr = with_operands t f.classes T i

  -- an explicit operand, of number k and role q, and what becomes of it; or an implicit one, which stays
  pub data Seat (k : ℕ) (q : Option Role) (x x' : Operand) : Type 0 where
    explicit : Among (q, x) bs → slice_get bs k ≡ Some (q, x) → slice_get os k ≡ Some x → is_implicit_operand x ≡ false → x' ≡ retied_operand t f.classes T (k, (q, x)) → Seat k q x x'
    implicit : (o : RegOp) → x ≡ operands.Reg o → o.implicit ≡ true → Among o (registers os) → ((s : Role) → q ≡ Some s → is_implicit s ≡ true) → x' ≡ x → Seat k q x x'

  -- all of them, from the m-th on
  pub data Pairs : ℕ → List Bound → List Bound → Type 0 where
    done : {m : ℕ} → Pairs m [] []
    more : {m : ℕ} {xs xs' : List Bound} (q : Option Role) (x x' : Operand) → Seat m q x x' → Pairs (suc m) xs xs' → Pairs m ((q, x) ∷ xs) ((q, x') ∷ xs')

  -- explicit operands and what stands behind them

  abbrev At : ℕ → List Role → List Operand → Type 0
  At m rs ys = (k : ℕ) → (slice_get (explicit_bound rs ys) k ≡ slice_get bs (m + k)) × (slice_get ys k ≡ slice_get os (m + k))

  zero-on : (m : ℕ) → m + 0 ≡ m
  zero-on m = omega arith

  next-on : (m k : ℕ) → m + suc k ≡ suc m + k
  next-on m k = omega arith

  abbrev new : ℕ → List Role → List Operand → List Operand
  new m rs ys = after t f.classes T m rs ys

  module _ (E : List Bound) (behind : (m : ℕ) → Pairs m E E) where
    none-left : (m : ℕ) (rs : List Role) (ys ys' : List Operand) → explicit_operands ys ≡ [] → explicit_operands ys' ≡ [] → Pairs m (explicit_bound rs (explicit_operands ys) ++ E) (explicit_bound rs (explicit_operands ys') ++ E)
    none-left m rs ys ys' a b = subst (λ us. Pairs m (explicit_bound rs us ++ E) (explicit_bound rs (explicit_operands ys') ++ E)) (sym a) (subst (λ us. Pairs m E (explicit_bound rs us ++ E)) (sym b) (behind m))

    stay : (m : ℕ) (q : Option Role) (y : Operand) → Among (q, y) bs → is_implicit_operand (retied_operand t f.classes T (m, (q, y))) ≡ is_implicit_operand y
    stay m q y a = stay-implicit t f i r e known rolled f.classes c m q y a

    explicit-pairs : (m : ℕ) (rs : List Role) (ys : List Operand) → ((q : Option Role) (y : Operand) → Among (q, y) (explicit_bound rs ys) → Among (q, y) bs) → At m rs ys → implicit_last ys ≡ true → Pairs m (explicit_bound rs (explicit_operands ys) ++ E) (explicit_bound rs (explicit_operands (new m rs ys)) ++ E)
    explicit-pairs m rs [] w at last = behind m
    explicit-pairs m [] (y ∷ ys) w at last = go (is_implicit_operand y) refl (λ later. explicit-pairs (suc m) [] ys (λ q x a. w q x (there a)) (λ k. let p = at (suc k) in (p.0 ∙ ap (slice_get bs) (next-on m k), p.1 ∙ ap (slice_get os) (next-on m k))) later)
      where
        y' : Operand
        y' = retied_operand t f.classes T (m, (None, y))

        go : (b : Bool) → is_implicit_operand y ≡ b → (implicit_last ys ≡ true → Pairs (suc m) (explicit_bound [] (explicit_operands ys) ++ E) (explicit_bound [] (explicit_operands (new (suc m) [] ys)) ++ E)) → Pairs m (explicit_bound [] (explicit_operands (y ∷ ys)) ++ E) (explicit_bound [] (explicit_operands (y' ∷ new (suc m) [] ys)) ++ E)
        go true g ih =
            let all : list_all is_implicit_operand ys ≡ true = subst (λ (b : Bool). cond b (list_all is_implicit_operand ys) (implicit_last ys) ≡ true) g last in
            none-left m [] (y ∷ ys) (y' ∷ new (suc m) [] ys) (none-explicit (y ∷ ys) (λ k. g k && all k)) (none-explicit (y' ∷ new (suc m) [] ys) (all-stay t f.classes T m [] (y ∷ ys) (λ k q x a. stay k q x (w q x a)) ∙ (λ k. g k && all k)))
        go false g ih =
            let later : implicit_last ys ≡ true = subst (λ (b : Bool). cond b (list_all is_implicit_operand ys) (implicit_last ys) ≡ true) g last in
            let p = at 0 in
            let seat : Seat m None y y' = explicit (w None y here) (ap (slice_get bs) (sym (zero-on m)) ∙ sym p.0) (ap (slice_get os) (sym (zero-on m)) ∙ sym p.1) g refl in
            subst (λ (b : Bool). Pairs m (explicit_bound [] (cond (not b) (y ∷ explicit_operands ys) (explicit_operands ys)) ++ E) (explicit_bound [] (explicit_operands (y' ∷ new (suc m) [] ys)) ++ E)) (sym g)
            (subst (λ (b : Bool). Pairs m ((None, y) ∷ explicit_bound [] (explicit_operands ys) ++ E) (explicit_bound [] (cond (not b) (y' ∷ explicit_operands (new (suc m) [] ys)) (explicit_operands (new (suc m) [] ys))) ++ E)) (sym (stay m None y (w None y here) ∙ g))
            (more None y y' seat (ih later)))
    explicit-pairs m (s ∷ rs) (y ∷ ys) w at last = go (is_implicit_operand y) refl (λ later. explicit-pairs (suc m) rest ys (λ q x a. w q x (there a)) (λ k. let p = at (suc k) in (p.0 ∙ ap (slice_get bs) (next-on m k), p.1 ∙ ap (slice_get os) (next-on m k))) later)
      where
        rest : List Role
        rest = cond (takes_many s) (s ∷ rs) rs

        y' : Operand
        y' = retied_operand t f.classes T (m, (Some s, y))

        go : (b : Bool) → is_implicit_operand y ≡ b → (implicit_last ys ≡ true → Pairs (suc m) (explicit_bound rest (explicit_operands ys) ++ E) (explicit_bound rest (explicit_operands (new (suc m) rest ys)) ++ E)) → Pairs m (explicit_bound (s ∷ rs) (explicit_operands (y ∷ ys)) ++ E) (explicit_bound (s ∷ rs) (explicit_operands (y' ∷ new (suc m) rest ys)) ++ E)
        go true g ih =
            let all : list_all is_implicit_operand ys ≡ true = subst (λ (b : Bool). cond b (list_all is_implicit_operand ys) (implicit_last ys) ≡ true) g last in
            none-left m (s ∷ rs) (y ∷ ys) (y' ∷ new (suc m) rest ys) (none-explicit (y ∷ ys) (λ k. g k && all k)) (none-explicit (y' ∷ new (suc m) rest ys) (all-stay t f.classes T m (s ∷ rs) (y ∷ ys) (λ k q x a. stay k q x (w q x a)) ∙ (λ k. g k && all k)))
        go false g ih =
            let later : implicit_last ys ≡ true = subst (λ (b : Bool). cond b (list_all is_implicit_operand ys) (implicit_last ys) ≡ true) g last in
            let p = at 0 in
            let seat : Seat m (Some s) y y' = explicit (w (Some s) y here) (ap (slice_get bs) (sym (zero-on m)) ∙ sym p.0) (ap (slice_get os) (sym (zero-on m)) ∙ sym p.1) g refl in
            subst (λ (b : Bool). Pairs m (explicit_bound (s ∷ rs) (cond (not b) (y ∷ explicit_operands ys) (explicit_operands ys)) ++ E) (explicit_bound (s ∷ rs) (explicit_operands (y' ∷ new (suc m) rest ys)) ++ E)) (sym g)
            (subst (λ (b : Bool). Pairs m ((Some s, y) ∷ explicit_bound rest (explicit_operands ys) ++ E) (explicit_bound (s ∷ rs) (cond (not b) (y' ∷ explicit_operands (new (suc m) rest ys)) (explicit_operands (new (suc m) rest ys))) ++ E)) (sym (stay m (Some s) y (w (Some s) y here) ∙ g))
            (more (Some s) y y' seat (ih later)))

  -- implicit ones

  implicit-pairs : (m : ℕ) (ys : List RegOp) → ((o : RegOp) → Among o ys → Among o (implicit_registers os)) → Pairs m (map (implicit_bound irs) ys) (map (implicit_bound irs) ys)
  implicit-pairs m [] w = done
  implicit-pairs m (o ∷ ys) w =
      let p = filter-of (λ (x : RegOp). x.implicit) o (registers os) (w o here) in
      more (find (takes_role o) irs) (operands.Reg o) (operands.Reg o)
      (implicit o refl p.1 p.0 (λ s g. (filter-of is_implicit s (roles_of t i) (find-in (takes_role o) irs s g)).1) refl)
      (implicit-pairs (suc m) ys (λ x a. w x (there a)))

  pub all-pairs : Pairs 0 (bound t i) (bound t new_instr)
  all-pairs =
      let E = map (implicit_bound irs) (implicit_registers os) in
      subst (λ ys. Pairs 0 (bound t i) (explicit_bound es (explicit_operands (new 0 es os)) ++ map (implicit_bound irs) ys)) (sym (implicit-same t f z))
      (explicit-pairs E (λ m. implicit-pairs m (implicit_registers os) (λ o a. a)) 0 es os (λ q y a. a) (λ k. (ap (slice_get bs) (from-zero k), ap (slice_get os) (from-zero k))) (fit-operands t f i e known rolled r.one).0)
    where
      from-zero : (k : ℕ) → k ≡ 0 + k
      from-zero k = omega arith

  -- what holds of each holds of all

  pub pairs-all : (p p' : Bound → Bool) → ((k : ℕ) (q : Option Role) (x x' : Operand) → Seat k q x x' → p (q, x) ≡ true → p' (q, x') ≡ true) → {m : ℕ} {xs xs' : List Bound} → Pairs m xs xs' → list_all p xs ≡ true → list_all p' xs' ≡ true
  pairs-all p p' h done w = refl
  pairs-all p p' h (more {m = m} {xs = xs} {xs' = xs'} q x x' s ps) w = λ k. h m q x x' s (first_of_both (p (q, x)) (list_all p xs) w) k && pairs-all p p' h ps (second_of_both (p (q, x)) (list_all p xs) w) k

  pub pairs-numbered : (p p' : ℕ × Bound → Bool) → ((k : ℕ) (q : Option Role) (x x' : Operand) → Seat k q x x' → p (k, (q, x)) ≡ true → p' (k, (q, x')) ≡ true) → {m : ℕ} {xs xs' : List Bound} → Pairs m xs xs' → list_all p (numbered m xs) ≡ true → list_all p' (numbered m xs') ≡ true
  pairs-numbered p p' h done w = refl
  pairs-numbered p p' h (more {m = m} {xs = xs} {xs' = xs'} q x x' s ps) w = λ k. h m q x x' s (first_of_both (p (m, (q, x))) (list_all p (numbered (suc m) xs)) w) k && pairs-numbered p p' h ps (second_of_both (p (m, (q, x))) (list_all p (numbered (suc m) xs)) w) k

  pub pairs-any : (p : Bound → Bool) → ((k : ℕ) (q : Option Role) (x x' : Operand) → Seat k q x x' → p (q, x') ≡ p (q, x)) → {m : ℕ} {xs xs' : List Bound} → Pairs m xs xs' → list_any p xs' ≡ list_any p xs
  pairs-any p h done = refl
  pairs-any p h (more {m = m} {xs = xs} {xs' = xs'} q x x' s ps) = λ k. h m q x x' s k || pairs-any p h ps k

  -- where an operand behind comes from
  pub pairs-of : {m : ℕ} {xs xs' : List Bound} → Pairs m xs xs' → (q : Option Role) (x' : Operand) → Among (q, x') xs' → (k : ℕ) × (x : Operand) × Seat k q x x' × Among (q, x) xs
  pairs-of done q x' a = absurd (member-none (q, x') a)
  pairs-of (more {m = m} {xs = xs} {xs' = xs'} s y y' seat ps) q x' a =
      member-elim (q, x') (s, y') xs'
      (λ w.
      let a0 : q ≡ s = ap (λ (b : Bound). b.0) w in
      let a1 : x' ≡ y' = ap (λ (b : Bound). b.1) w in
      (m, y, subst (λ v. Seat m v y x') (sym a0) (subst (λ v. Seat m s y v) (sym a1) seat), subst (λ v. Among (v, y) ((s, y) ∷ xs)) (sym a0) here))
      (λ j. let w = pairs-of ps q x' j in (w.0, w.1, w.2, there w.3)) a
