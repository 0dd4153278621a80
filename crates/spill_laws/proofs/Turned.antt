-- The operands of an instruction with tinies, each beside that of the instruction before: it stays, or a tiny takes its place.
use Rattle.std.proofs.Common.{◌≡◌, ◌+◌, ◌++◌, ◌∙◌, ◌&&◌, not, ℕ, zero, suc, Bool, true, false, cond, List, [], ◌∷◌, Option, Some, None, map, refl, sym, ap, subst, arith}
use Rattle.std.specs.Prelude.{find}
use Rattle.std.specs.List.{list_all}
use Rattle.target_base.specs.declared.types.Role.{Role}
use Rattle.meaning.specs.Live.{Among as Member, here as first, there as later}
use Rattle.mir_func.specs.declared.func.RegOp.{RegOp}
use Rattle.mir_func.specs.declared.func.Operand.{Operand}
use Rattle.mir_func.specs.declared.func.Operand.TheVariants as operands
use Rattle.mir_func.specs.declared.func.Instr.{Instr}
use Rattle.mir_func.specs.Binding.{Bound, as_register, bound, explicit_bound, explicit_operands, explicit_roles, immediate_of, implicit_bound, implicit_registers, implicit_roles, is_implicit_operand, numbered, register_at, registers, roles_of, takes_many, takes_role}
use Rattle.mir_meaning.specs.Rules.{implicit_last}
use Rattle.instr_effects.proofs.Members.{filter-of, map-of, member-elim, member-none}
use Rattle.lowering_laws.proofs.RulesStay.{same-register}
use Rattle.lowering_laws.proofs.Seated.{none-explicit, register-of, told-of}
use Rattle.spiller.specs.Setting.{Spilling, is_own}
use Rattle.spiller.specs.Spilled.{Seats, as_tiny, seated, seated_operand, tiny_of, with_tinies}

module _ (s : Spilling) (z : Seats) (i : Instr) where
  -- what becomes of a register operand
  pub data Turn (k : ℕ) (q : Option Role) (o o' : RegOp) : Type 0 where
    kept : o' ≡ o → Turn k q o o'
    tiny : (c : ℕ) → is_own s o ≡ true → tiny_of s z i k q o ≡ Some c → o' ≡ as_tiny o c → Turn k q o o'

  pub turn : (k : ℕ) (q : Option Role) (o : RegOp) → Turn k q o (seated s z i k q o)
  turn k q o = go (is_own s o) (tiny_of s z i k q o) refl refl
    where
      go : (a : Bool) (x : Option ℕ) → is_own s o ≡ a → tiny_of s z i k q o ≡ x → Turn k q o (cond a (elim x as (λ x. RegOp) [ None ↦ o | Some c ↦ as_tiny o c ]) o)
      go true (Some c) a e = tiny c a e refl
      go true None a e = kept refl
      go false x a e = kept refl

  pub others-stay : (k : ℕ) (q : Option Role) (o : RegOp) → is_own s o ≡ false → seated s z i k q o ≡ o
  others-stay k q o e = ap (λ b. cond b (elim (tiny_of s z i k q o) as (λ x. RegOp) [ None ↦ o | Some c ↦ as_tiny o c ]) o) e

  abbrev pub turned : ℕ → Option Role → Operand → Operand
  turned k q x = seated_operand s z i (k, (q, x))

  pub turned-from : (k : ℕ) (q : Option Role) (y : Operand) (o' : RegOp) → operands.Reg o' ≡ turned k q y → (d : RegOp) × (y ≡ operands.Reg d) × (o' ≡ seated s z i k q d)
  turned-from k q (operands.Reg d) o' e = (d, refl, same-register o' (seated s z i k q d) e)
  turned-from k q y o' e = absurd (cc)

  -- operands from the m-th on, and what becomes of them
  abbrev pub after : ℕ → List Role → List Operand → List Operand
  after m rs os = map (seated_operand s z i) (numbered m (explicit_bound rs os))

  abbrev pub seat : ℕ × Bound → Bound
  seat p = (p.1.0, seated_operand s z i p)

  -- the range is no implicit operand
  abbrev pub OwnExplicit : List Operand → Type 0
  OwnExplicit os = (o : RegOp) → Member (operands.Reg o) os → is_own s o ≡ true → o.implicit ≡ false

  stays-so : (k : ℕ) (q : Option Role) (o o' : RegOp) → (is_own s o ≡ true → o.implicit ≡ false) → Turn k q o o' → o'.implicit ≡ o.implicit
  stays-so k q o o' h (kept is) = ap (λ (x : RegOp). x.implicit) is
  stays-so k q o o' h (tiny c own at is) = ap (λ (x : RegOp). x.implicit) is ∙ sym (h own)

  implicit-stays : (k : ℕ) (q : Option Role) (o o' : RegOp) → (is_own s o ≡ true → o.implicit ≡ false) → Turn k q o o' → o.implicit ≡ true → o' ≡ o
  implicit-stays k q o o' h (kept is) e = is
  implicit-stays k q o o' h (tiny c own at is) e = absurd (let x = h own in cc)

  stay : (k : ℕ) (q : Option Role) (x : Operand) → ((o : RegOp) → x ≡ operands.Reg o → is_own s o ≡ true → o.implicit ≡ false) → is_implicit_operand (turned k q x) ≡ is_implicit_operand x
  stay k q (operands.Reg o) h = stays-so k q o (seated s z i k q o) (h o refl) (turn k q o)
  stay k q x h = refl

  front : (y : Operand) (os : List Operand) → OwnExplicit (y ∷ os) → (o : RegOp) → y ≡ operands.Reg o → is_own s o ≡ true → o.implicit ≡ false
  front y os h o e own = h o (subst (λ x. Member x (y ∷ os)) e first) own

  all-stay : (m : ℕ) (rs : List Role) (os : List Operand) → OwnExplicit os → list_all is_implicit_operand (after m rs os) ≡ list_all is_implicit_operand os
  all-stay m rs [] h = refl
  all-stay m [] (y ∷ os) h = λ k. stay m None y (front y os h) k && all-stay (suc m) [] os (λ o a. h o (later a)) k
  all-stay m (r ∷ rs) (y ∷ os) h = λ k. stay m (Some r) y (front y os h) k && all-stay (suc m) (cond (takes_many r) (r ∷ rs) rs) os (λ o a. h o (later a)) k

  pub last-stays : (m : ℕ) (rs : List Role) (os : List Operand) → OwnExplicit os → implicit_last (after m rs os) ≡ implicit_last os
  last-stays m rs [] h = refl
  last-stays m [] (y ∷ os) h = λ k. cond (stay m None y (front y os h) k) (all-stay (suc m) [] os (λ o a. h o (later a)) k) (last-stays (suc m) [] os (λ o a. h o (later a)) k)
  last-stays m (r ∷ rs) (y ∷ os) h =
      let rest = cond (takes_many r) (r ∷ rs) rs in
      λ k. cond (stay m (Some r) y (front y os h) k) (all-stay (suc m) rest os (λ o a. h o (later a)) k) (last-stays (suc m) rest os (λ o a. h o (later a)) k)

  -- the explicit operands behind are those that were explicit

  all-behind : (y : Operand) (os : List Operand) → is_implicit_operand y ≡ true → implicit_last (y ∷ os) ≡ true → list_all is_implicit_operand (y ∷ os) ≡ true
  all-behind y os g last = let all : list_all is_implicit_operand os ≡ true = subst (λ (b : Bool). cond b (list_all is_implicit_operand os) (implicit_last os) ≡ true) g last in λ k. g k && all k

  last-behind : (y : Operand) (os : List Operand) → is_implicit_operand y ≡ false → implicit_last (y ∷ os) ≡ true → implicit_last os ≡ true
  last-behind y os g last = subst (λ (b : Bool). cond b (list_all is_implicit_operand os) (implicit_last os) ≡ true) g last

  plain-front : (y : Operand) (os : List Operand) → is_implicit_operand y ≡ false → explicit_operands (y ∷ os) ≡ y ∷ explicit_operands os
  plain-front y os g = λ k. cond (not (g k)) (y ∷ explicit_operands os) (explicit_operands os)

  pub explicit-after : (m : ℕ) (rs : List Role) (os : List Operand) → OwnExplicit os → implicit_last os ≡ true → explicit_operands (after m rs os) ≡ after m rs (explicit_operands os)
  explicit-after m rs [] h last = refl
  explicit-after m [] (y ∷ os) h last = go (is_implicit_operand y) refl (explicit-after (suc m) [] os (λ o a. h o (later a)))
    where
      go : (b : Bool) → is_implicit_operand y ≡ b → (implicit_last os ≡ true → explicit_operands (after (suc m) [] os) ≡ after (suc m) [] (explicit_operands os)) → explicit_operands (after m [] (y ∷ os)) ≡ after m [] (explicit_operands (y ∷ os))
      go true g ih =
          let all = all-behind y os g last in
          none-explicit (after m [] (y ∷ os)) (all-stay m [] (y ∷ os) h ∙ all) ∙ ap (after m []) (sym (none-explicit (y ∷ os) all))
      go false g ih =
          plain-front (turned m None y) (after (suc m) [] os) (stay m None y (front y os h) ∙ g)
          ∙ (ap (λ ys. turned m None y ∷ ys) (ih (last-behind y os g last)) ∙ ap (after m []) (sym (plain-front y os g)))
  explicit-after m (r ∷ rs) (y ∷ os) h last = go (is_implicit_operand y) refl (explicit-after (suc m) rest os (λ o a. h o (later a)))
    where
      rest : List Role
      rest = cond (takes_many r) (r ∷ rs) rs

      go : (b : Bool) → is_implicit_operand y ≡ b → (implicit_last os ≡ true → explicit_operands (after (suc m) rest os) ≡ after (suc m) rest (explicit_operands os)) → explicit_operands (after m (r ∷ rs) (y ∷ os)) ≡ after m (r ∷ rs) (explicit_operands (y ∷ os))
      go true g ih =
          let all = all-behind y os g last in
          none-explicit (after m (r ∷ rs) (y ∷ os)) (all-stay m (r ∷ rs) (y ∷ os) h ∙ all) ∙ ap (after m (r ∷ rs)) (sym (none-explicit (y ∷ os) all))
      go false g ih =
          plain-front (turned m (Some r) y) (after (suc m) rest os) (stay m (Some r) y (front y os h) ∙ g)
          ∙ (ap (λ ys. turned m (Some r) y ∷ ys) (ih (last-behind y os g last)) ∙ ap (after m (r ∷ rs)) (sym (plain-front y os g)))

  -- they take the roles that they took
  pub bound-after : (m : ℕ) (rs : List Role) (xs : List Operand) → explicit_bound rs (after m rs xs) ≡ map seat (numbered m (explicit_bound rs xs))
  bound-after m rs [] = refl
  bound-after m [] (y ∷ ys) = ap (λ bs. (None, turned m None y) ∷ bs) (bound-after (suc m) [] ys)
  bound-after m (r ∷ rs) (y ∷ ys) = ap (λ bs. (Some r, turned m (Some r) y) ∷ bs) (bound-after (suc m) (cond (takes_many r) (r ∷ rs) rs) ys)

  -- implicit operands stay

  keep : (o o' : RegOp) (xs ys : List RegOp) → o'.implicit ≡ o.implicit → (o.implicit ≡ true → o' ≡ o) → xs ≡ ys → cond o'.implicit (o' ∷ xs) xs ≡ cond o.implicit (o ∷ ys) ys
  keep o o' xs ys stays same e = go o.implicit stays same
    where
      go : (b : Bool) → o'.implicit ≡ b → (b ≡ true → o' ≡ o) → cond o'.implicit (o' ∷ xs) xs ≡ cond b (o ∷ ys) ys
      go true g q = λ k. cond (g k) (q refl k ∷ e k) (e k)
      go false g q = λ k. cond (g k) (o' ∷ e k) (e k)

  head-implicit : (m : ℕ) (q : Option Role) (y : Operand) (os more : List Operand) → ((o : RegOp) → y ≡ operands.Reg o → is_own s o ≡ true → o.implicit ≡ false) → implicit_registers more ≡ implicit_registers os → implicit_registers (turned m q y ∷ more) ≡ implicit_registers (y ∷ os)
  head-implicit m q (operands.Reg o) os more h e =
      let w = turn m q o in
      keep o (seated s z i m q o) (implicit_registers more) (implicit_registers os) (stays-so m q o (seated s z i m q o) (h o refl) w) (implicit-stays m q o (seated s z i m q o) (h o refl) w) e
  head-implicit m q y os more h e = e

  pub implicit-after : (m : ℕ) (rs : List Role) (os : List Operand) → OwnExplicit os → implicit_registers (after m rs os) ≡ implicit_registers os
  implicit-after m rs [] h = refl
  implicit-after m [] (y ∷ os) h = head-implicit m None y os (after (suc m) [] os) (front y os h) (implicit-after (suc m) [] os (λ o a. h o (later a)))
  implicit-after m (r ∷ rs) (y ∷ os) h =
      let rest = cond (takes_many r) (r ∷ rs) rs in
      head-implicit m (Some r) y os (after (suc m) rest os) (front y os h) (implicit-after (suc m) rest os (λ o a. h o (later a)))

  -- so does the first immediate

  head-immediate : (m : ℕ) (q : Option Role) (y : Operand) (os more : List Operand) → immediate_of more ≡ immediate_of os → immediate_of (turned m q y ∷ more) ≡ immediate_of (y ∷ os)
  head-immediate m q (operands.Reg o) os more e = e
  head-immediate m q (operands.Imm x) os more e = refl
  head-immediate m q y os more e = e

  pub immediate-after : (m : ℕ) (rs : List Role) (os : List Operand) → immediate_of (after m rs os) ≡ immediate_of os
  immediate-after m rs [] = refl
  immediate-after m [] (y ∷ os) = head-immediate m None y os (after (suc m) [] os) (immediate-after (suc m) [] os)
  immediate-after m (r ∷ rs) (y ∷ os) = let rest = cond (takes_many r) (r ∷ rs) rs in head-immediate m (Some r) y os (after (suc m) rest os) (immediate-after (suc m) rest os)

  -- all operands with their roles

  append-seats : (es : List Bound) → ((m : ℕ) → map seat (numbered m es) ≡ es) → (m : ℕ) (xs : List Bound) → map seat (numbered m (xs ++ es)) ≡ map seat (numbered m xs) ++ es
  append-seats es h m [] = h m
  append-seats es h m (x ∷ xs) = ap (λ ys. seat (m, x) ∷ ys) (append-seats es h (suc m) xs)

  implicit-seats : (irs : List Role) (ys : List RegOp) → ((o : RegOp) → Member o ys → is_own s o ≡ false) → (m : ℕ) → map seat (numbered m (map (implicit_bound irs) ys)) ≡ map (implicit_bound irs) ys
  implicit-seats irs [] h m = refl
  implicit-seats irs (o ∷ ys) h m = λ k. (find (takes_role o) irs, operands.Reg (others-stay m (find (takes_role o) irs) o (h o first) k)) ∷ implicit-seats irs ys (λ x a. h x (later a)) (suc m) k

  register-operand : (o : RegOp) (os : List Operand) → Member o (registers os) → Member (operands.Reg o) os
  register-operand o os m = let w = told-of as_register o os m in subst (λ x. Member x os) (register-of w.0 o w.2) w.1

  implicit-other : (os : List Operand) → OwnExplicit os → (o : RegOp) → Member o (implicit_registers os) → is_own s o ≡ false
  implicit-other os h o m = go (is_own s o) refl
    where
      go : (b : Bool) → is_own s o ≡ b → is_own s o ≡ false
      go false e = e
      go true e = absurd (let w = filter-of (λ (x : RegOp). x.implicit) o (registers os) m in let a = h o (register-operand o os w.0) e in let b = w.1 in cc)

  pub bound-is : OwnExplicit i.operands → implicit_last i.operands ≡ true → bound s.target (with_tinies s z i) ≡ map seat (numbered 0 (bound s.target i))
  bound-is h last =
      let es = explicit_roles (roles_of s.target i) in
      let irs = implicit_roles (roles_of s.target i) in
      let xs = explicit_operands i.operands in
      let ys = implicit_registers i.operands in
      (λ k. explicit_bound es (explicit-after 0 es i.operands h last k) ++ map (implicit_bound irs) (implicit-after 0 es i.operands h k))
      ∙ (ap (λ bs. bs ++ map (implicit_bound irs) ys) (bound-after 0 es xs)
      ∙ sym (append-seats (map (implicit_bound irs) ys) (implicit-seats irs ys (implicit-other i.operands h)) 0 (explicit_bound es xs)))

  pub numbered-seats : (m : ℕ) (xs : List Bound) → numbered m (map seat (numbered m xs)) ≡ map (λ p. (p.0, seat p)) (numbered m xs)
  numbered-seats m [] = refl
  numbered-seats m (x ∷ xs) = ap (λ ys. (m, seat (m, x)) ∷ ys) (numbered-seats (suc m) xs)

  -- explicit operands have the numbers that they have among all
  pub explicit-number : (m : ℕ) (rs : List Role) (os : List Operand) → implicit_last os ≡ true → (x : ℕ × Bound) → Member x (numbered m (explicit_bound rs (explicit_operands os))) → Member x (numbered m (explicit_bound rs os))
  explicit-number m rs [] last x a = a
  explicit-number m [] (y ∷ os) last x a = go (is_implicit_operand y) refl (λ l. explicit-number (suc m) [] os l x)
    where
      go : (b : Bool) → is_implicit_operand y ≡ b → (implicit_last os ≡ true → Member x (numbered (suc m) (explicit_bound [] (explicit_operands os))) → Member x (numbered (suc m) (explicit_bound [] os))) → Member x (numbered m (explicit_bound [] (y ∷ os)))
      go true g ih = absurd (member-none x (subst (λ ys. Member x (numbered m (explicit_bound [] ys))) (none-explicit (y ∷ os) (all-behind y os g last)) a))
      go false g ih =
          member-elim x (m, (None, y)) (numbered (suc m) (explicit_bound [] (explicit_operands os)))
          (λ e. subst (λ w. Member w ((m, (None, y)) ∷ numbered (suc m) (explicit_bound [] os))) (sym e) first)
          (λ k. later (ih (last-behind y os g last) k)) (subst (λ ys. Member x (numbered m (explicit_bound [] ys))) (plain-front y os g) a)
  explicit-number m (r ∷ rs) (y ∷ os) last x a = go (is_implicit_operand y) refl (λ l. explicit-number (suc m) rest os l x)
    where
      rest : List Role
      rest = cond (takes_many r) (r ∷ rs) rs

      go : (b : Bool) → is_implicit_operand y ≡ b → (implicit_last os ≡ true → Member x (numbered (suc m) (explicit_bound rest (explicit_operands os))) → Member x (numbered (suc m) (explicit_bound rest os))) → Member x (numbered m (explicit_bound (r ∷ rs) (y ∷ os)))
      go true g ih = absurd (member-none x (subst (λ ys. Member x (numbered m (explicit_bound (r ∷ rs) ys))) (none-explicit (y ∷ os) (all-behind y os g last)) a))
      go false g ih =
          member-elim x (m, (Some r, y)) (numbered (suc m) (explicit_bound rest (explicit_operands os)))
          (λ e. subst (λ w. Member w ((m, (Some r, y)) ∷ numbered (suc m) (explicit_bound rest os))) (sym e) first)
          (λ k. later (ih (last-behind y os g last) k)) (subst (λ ys. Member x (numbered m (explicit_bound (r ∷ rs) ys))) (plain-front y os g) a)

  -- where a register behind comes from

  pub record Comes (k : ℕ) (rs : List Role) (os : List Operand) (m : ℕ) (o' : RegOp) : Type 0 where
    pub role : Option Role
    pub operand : RegOp
    pub among : Member (k, (role, operands.Reg operand)) (numbered m (explicit_bound rs os))
    pub is : o' ≡ seated s z i k role operand

  pub registers-of : (m : ℕ) (rs : List Role) (os : List Operand) (o' : RegOp) → Member o' (registers (after m rs os)) → (k : ℕ) × Comes k rs os m o'
  registers-of m rs os o' a =
      let v = told-of as_register o' (after m rs os) a in
      let y = map-of (seated_operand s z i) v.0 (numbered m (explicit_bound rs os)) v.1 in
      let w = turned-from y.0.0 y.0.1.0 y.0.1.1 o' (sym (register-of v.0 o' v.2) ∙ y.2) in
      (y.0.0, record { role = y.0.1.0; operand = w.0; among = subst (λ (x : Operand). Member (y.0.0, (y.0.1.0, x)) (numbered m (explicit_bound rs os))) w.1 y.1; is = w.2 })

  pub register-behind : (m : ℕ) (rs : List Role) (os : List Operand) (k : ℕ) (o' : RegOp) → register_at (after m rs os) k ≡ Some o' → (w : Comes (m + k) rs os m o') × (register_at os k ≡ Some w.operand)
  register-behind m rs [] k o' e = absurd (cc)
  register-behind m [] (y ∷ os) zero o' e =
      let w = turned-from m None y o' (sym (register-of (turned m None y) o' e)) in
      subst (λ n. (v : Comes n [] (y ∷ os) m o') × (as_register y ≡ Some v.operand)) (nothing m)
      (record { role = None; operand = w.0; among = subst (λ x. Member (m, (None, x)) (numbered m (explicit_bound [] (y ∷ os)))) w.1 first; is = w.2 }, ap as_register w.1)
    where
      nothing : (m : ℕ) → m ≡ m + 0
      nothing m = omega arith
  register-behind m [] (y ∷ os) (suc k) o' e =
      let w = register-behind (suc m) [] os k o' e in
      subst (λ n. (v : Comes n [] (y ∷ os) m o') × (register_at os k ≡ Some v.operand)) (one m k)
      (record { role = w.0.role; operand = w.0.operand; among = later w.0.among; is = w.0.is }, w.1)
    where
      one : (m k : ℕ) → suc m + k ≡ m + suc k
      one m k = omega arith
  register-behind m (r ∷ rs) (y ∷ os) zero o' e =
      let w = turned-from m (Some r) y o' (sym (register-of (turned m (Some r) y) o' e)) in
      subst (λ n. (v : Comes n (r ∷ rs) (y ∷ os) m o') × (as_register y ≡ Some v.operand)) (nothing m)
      (record { role = Some r; operand = w.0; among = subst (λ x. Member (m, (Some r, x)) (numbered m (explicit_bound (r ∷ rs) (y ∷ os)))) w.1 first; is = w.2 }, ap as_register w.1)
    where
      nothing : (m : ℕ) → m ≡ m + 0
      nothing m = omega arith
  register-behind m (r ∷ rs) (y ∷ os) (suc k) o' e =
      let w = register-behind (suc m) (cond (takes_many r) (r ∷ rs) rs) os k o' e in
      subst (λ n. (v : Comes n (r ∷ rs) (y ∷ os) m o') × (register_at os k ≡ Some v.operand)) (one m k)
      (record { role = w.0.role; operand = w.0.operand; among = later w.0.among; is = w.0.is }, w.1)
    where
      one : (m k : ℕ) → suc m + k ≡ m + suc k
      one m k = omega arith
