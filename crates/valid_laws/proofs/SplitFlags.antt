-- A split keeps the rule on flags.
use Rattle.std.proofs.Common.{◌≡◌, ◌∷◌, ◌++◌, ◌∙◌, ◌&&◌, ◌+◌, not, ℕ, Bool, true, false, cond, List, [], Some, None, map, filter, length, refl, sym, ap, subst}
use Rattle.std.specs.Prelude.{find, nat_eq}
use Rattle.std.specs.List.{list_all}
use Rattle.target_base.specs.declared.types.Reg.{Reg}
use Rattle.target_base.specs.declared.types.Role.{Role}
use Rattle.target_base.specs.declared.types.Role.TheVariants as roles
use Rattle.target_base.specs.declared.types.Target.{Target}
use Rattle.target_base.specs.Numbers.{op_number}
use Rattle.meaning.specs.Live.{Among as Member, here as first, there as later}
use Rattle.mir_func.specs.declared.func.Loc.{Loc}
use Rattle.mir_func.specs.declared.func.Loc.TheVariants.{Fixed, Virtual}
use Rattle.mir_func.specs.declared.func.RegOp.{RegOp}
use Rattle.mir_func.specs.declared.func.Operand.{Operand}
use Rattle.mir_func.specs.declared.func.Operand.TheVariants as operands
use Rattle.mir_func.specs.declared.func.Instr.{Instr}
use Rattle.mir_func.specs.declared.func.Block.{Block}
use Rattle.mir_func.specs.Value.{Function}
use Rattle.mir_func.specs.Edits.{made}
use Rattle.mir_func.specs.Binding.{Bound, bound, explicit_bound, explicit_operands, explicit_roles, implicit_bound, implicit_registers, implicit_roles, is_implicit_operand, registers, roles_of, same_fixed, takes_many, takes_role}
use Rattle.mir_meaning.specs.Points.{Entry, Point, Start, is_range}
use Rattle.mir_meaning.specs.Renaming.{renamed_instr, renamed_operand}
use Rattle.mir_meaning.specs.Rules.{flags_fit}
use Rattle.instr_effects.proofs.Members.{member-elim, member-none}
use Rattle.live_laws.proofs.Effects.Lists.{all-of}
use Rattle.live_lanes.specs.declared.ask.labels.Mark.{Mark}
use Rattle.join_laws.proofs.Rules.{all-more, filter-map}
use Rattle.split_kit.specs.Split.{as_part, blocks_split, changed, instrs_split, label_behind, last_point, number_behind, part, split_by, start_label, whole}
use Rattle.valid_laws.specs.Kept.{SplitKeepsFlags}
use Rattle.valid_laws.specs.Rules.{HasFlags}
use Rattle.valid_laws.proofs.Marks.{AllMarked, Marked, marked-append, marked-of, two-marked}
use Rattle.valid_laws.proofs.Moved.{map-append}

-- registers that are changed, but not whether they are implicit and which implicit roles they take
module _ (t : Target) (r : RegOp → RegOp) (implicit : (o : RegOp) → (r o).implicit ≡ o.implicit) (takes : (o : RegOp) (q : Role) → takes_role (r o) q ≡ takes_role o q) where
  abbrev move : Operand → Operand
  move = renamed_operand r

  abbrev pub move-bound : Bound → Bound
  move-bound b = (b.0, move b.1)

  regs : (os : List Operand) → registers (map move os) ≡ map r (registers os)
  regs [] = refl
  regs (operands.Reg o ∷ os) = ap (λ ps. r o ∷ ps) (regs os)
  regs (operands.Imm z ∷ os) = regs os
  regs (operands.Block z ∷ os) = regs os
  regs (operands.Stack z ∷ os) = regs os
  regs (operands.FixedStack z ∷ os) = regs os
  regs (operands.Symbol z ∷ os) = regs os
  regs (operands.Index z ∷ os) = regs os
  regs (operands.Mask z ∷ os) = regs os

  implicit-same : (o : Operand) → is_implicit_operand (move o) ≡ is_implicit_operand o
  implicit-same (operands.Reg o) = implicit o
  implicit-same o = refl

  explicits : (os : List Operand) → explicit_operands (map move os) ≡ map move (explicit_operands os)
  explicits os = filter-map (λ o. not (is_implicit_operand o)) (λ o. not (is_implicit_operand o)) move (λ o. ap not (implicit-same o)) os

  implicits : (os : List Operand) → implicit_registers (map move os) ≡ map r (implicit_registers os)
  implicits os = ap (filter (λ (o : RegOp). o.implicit)) (regs os) ∙ filter-map (λ (o : RegOp). o.implicit) (λ (o : RegOp). o.implicit) r implicit (registers os)

  bound-explicit : (qs : List Role) (os : List Operand) → explicit_bound qs (map move os) ≡ map move-bound (explicit_bound qs os)
  bound-explicit qs [] = refl
  bound-explicit [] (o ∷ os) = ap (λ bs. (None, move o) ∷ bs) (bound-explicit [] os)
  bound-explicit (q ∷ qs) (o ∷ os) = ap (λ bs. (Some q, move o) ∷ bs) (bound-explicit (cond (takes_many q) (q ∷ qs) qs) os)

  bound-implicit : (qs : List Role) (os : List RegOp) → map (implicit_bound qs) (map r os) ≡ map move-bound (map (implicit_bound qs) os)
  bound-implicit qs [] = refl
  bound-implicit qs (o ∷ os) = λ k. (find (λ q. takes o q k) qs, operands.Reg (r o)) ∷ bound-implicit qs os k

  pub bound-same : (i : Instr) → bound t (renamed_instr r i) ≡ map move-bound (bound t i)
  bound-same i =
      let es = explicit_roles (roles_of t i) in
      let is = implicit_roles (roles_of t i) in
      (λ k. (ap (explicit_bound es) (explicits i.operands) ∙ bound-explicit es (explicit_operands i.operands)) k ++ (ap (map (implicit_bound is)) (implicits i.operands) ∙ bound-implicit is (implicit_registers i.operands)) k)
      ∙ sym (map-append move-bound (explicit_bound es (explicit_operands i.operands)) (map (implicit_bound is) (implicit_registers i.operands)))

-- a part in the range's place

module _ (f : Function) (v label : ℕ) where
  abbrev r : RegOp → RegOp
  r = as_part f v label

  field : {X : Type 0} (P : RegOp → X) (o : RegOp) → P (record o { loc = Virtual (part f label) }) ≡ P o → P (r o) ≡ P o
  field P o h = go (is_range v o.loc)
    where
      go : (u : Bool) → P (cond u (record o { loc = Virtual (part f label) }) o) ≡ P o
      go true = h
      go false = refl

  fixed-same : (q : Reg) (o : RegOp) → same_fixed q (r o).loc ≡ same_fixed q o.loc
  fixed-same q o = go o.loc
    where
      by : (w : ℕ) (u : Bool) → same_fixed q (cond u (record o { loc = Virtual (part f label) }) (record o { loc = Virtual w })).loc ≡ false
      by w true = refl
      by w false = refl

      go : (l : Loc) → same_fixed q (cond (is_range v l) (record o { loc = Virtual (part f label) }) (record o { loc = l })).loc ≡ same_fixed q l
      go (Virtual w) = by w (nat_eq v w)
      go (Fixed p) = refl

  takes : (o : RegOp) (q : Role) → takes_role (r o) q ≡ takes_role o q
  takes o (roles.ImpDef q) = λ k. field (λ (p : RegOp). p.def) o refl k && fixed-same q o k
  takes o (roles.ImpRead q) = λ k. not (field (λ (p : RegOp). p.def) o refl k) && fixed-same q o k
  takes o q = refl

  implicit : (o : RegOp) → (r o).implicit ≡ o.implicit
  implicit o = field (λ (p : RegOp). p.implicit) o refl

  flag : (t : Target) (b : Bound) → flags_fit (move-bound t r implicit takes b) ≡ flags_fit b
  flag t (q, operands.Reg o) = field (λ p. flags_fit (q, operands.Reg p)) o refl
  flag t (q, operands.Imm z) = refl
  flag t (q, operands.Block z) = refl
  flag t (q, operands.Stack z) = refl
  flag t (q, operands.FixedStack z) = refl
  flag t (q, operands.Symbol z) = refl
  flag t (q, operands.Index z) = refl
  flag t (q, operands.Mask z) = refl

  part-marked : (t : Target) (i : Instr) → Marked t i → Marked t (renamed_instr (as_part f v label) i)
  part-marked t i h =
      ap (list_all flags_fit) (bound-same t r implicit takes i)
      ∙ all-more flags_fit (move-bound t r implicit takes) (bound t i) (λ b m. flag t b ∙ all-of flags_fit b (bound t i) m h)

-- all instructions

module _ (t : Target) (live : Point → Bool) (f : Function) (v : ℕ) (ms : List Mark) where
  changed-marked : (n : ℕ) (u : Bool) (from to : ℕ) → AllMarked t (changed f n u from to)
  changed-marked n u from to = go (u && not (nat_eq from to))
    where
      go : (b : Bool) → AllMarked t (cond b (made n (op_number 0) (whole true (part f to) ∷ whole false (part f from) ∷ []) ∷ []) [])
      go true = (two-marked t (made n (op_number 0) (whole true (part f to) ∷ whole false (part f from) ∷ [])) _ _ refl (refl, refl) (refl, refl), tt)
      go false = tt

  split-marked : (n : ℕ) (b : Block) (now : ℕ) (is : List Instr) → ((i : Instr) → Member i is → Marked t i) → AllMarked t (instrs_split live f v ms n b now is)
  split-marked n b now [] h = changed-marked n (live (last_point (Start b.number) b.instrs)) now (label_behind ms b.number None now)
  split-marked n b now (i ∷ is) h =
      let to = label_behind ms b.number (Some i.id) now in
      let copies = changed f n (live (Entry i.id)) now to in
      marked-append t copies (renamed_instr (as_part f v to) i ∷ instrs_split live f v ms (n + length copies) b to is)
      (changed-marked n (live (Entry i.id)) now to)
      (part-marked f v to t i (h i first), split-marked (n + length copies) b to is (λ x m. h x (later m)))

  blocks-marked : (n : ℕ) (bs : List Block) → ((b : Block) (i : Instr) → Member b bs → Member i b.instrs → Marked t i) → (d : Block) (x : Instr) → Member d (blocks_split live f v ms n bs) → Member x d.instrs → Marked t x
  blocks-marked n [] h d x md mx = absurd (member-none d md)
  blocks-marked n (b ∷ bs) h d x md mx =
      let made = instrs_split live f v ms n b (start_label ms b.number) b.instrs in
      member-elim d (record b { instrs = made }) (blocks_split live f v ms (number_behind live f v ms n (b ∷ [])) bs)
      (λ e. marked-of t x made (split-marked n b (start_label ms b.number) b.instrs (λ i m. h b i first m)) (subst (λ (q : Block). Member x q.instrs) e mx))
      (λ k. blocks-marked (number_behind live f v ms n (b ∷ [])) bs (λ c i mc mi. h c i (later mc) mi) d x k mx) md

  split-flags : HasFlags t f → HasFlags t (split_by live f v ms)
  unfolding split_by
  split-flags has d x md mx = blocks-marked f.next_id f.blocks has d x md mx

pub split-keeps-flags : SplitKeepsFlags
split-keeps-flags t f g v ms split has = subst (HasFlags t) (sym split.2) (split-flags t split.0 f v ms has)
