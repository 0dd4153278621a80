-- An instruction with tinies in place of the range is in lowered form: a use and its definition share a tiny.
use Rattle.std.proofs.Common.{◌≡◌, ◌+◌, ◌∙◌, ◌&&◌, not, ℕ, Bool, true, false, cond, List, Option, Some, None, map, refl, sym, ap, subst, arith, eqb-true, eq-eqb}
use Rattle.std.specs.Prelude.{nat_eq, option_and_then}
use Rattle.std.specs.List.{list_any}
use Rattle.target_base.specs.declared.types.Role.{Role}
use Rattle.target_base.specs.declared.types.Target.{Target}
use Rattle.target_base.specs.Rules.{is_copy}
use Rattle.target_base.proofs.Tests.{first_of_both, second_of_both}
use Rattle.meaning.specs.Live.{Among as Member}
use Rattle.mir_func.specs.declared.func.Loc.{Loc}
use Rattle.mir_func.specs.declared.func.Loc.TheVariants.{Fixed, Virtual}
use Rattle.mir_func.specs.declared.func.RegOp.{RegOp}
use Rattle.mir_func.specs.declared.func.Operand.{Operand}
use Rattle.mir_func.specs.declared.func.Operand.TheVariants as operands
use Rattle.mir_func.specs.declared.func.Instr.{Instr}
use Rattle.mir_func.specs.Value.{Function}
use Rattle.mir_func.specs.Binding.{Bound, TiedPair, bound, explicit_bound, explicit_operands, explicit_roles, implicit_bound, implicit_registers, implicit_roles, is_lowered_away, numbered, passes, registers, roles_of, same_index, same_loc, tied_number, tied_pair, tied_pairs}
use Rattle.mir_meaning.specs.Points.{is_range}
use Rattle.two_address.specs.Classes.{seated as with_roles}
use Rattle.instr_effects.proofs.Members.{left-in, map-of}
use Rattle.live_laws.proofs.Effects.Lists.{all-of}
use Rattle.lowering_laws.specs.Form.{is_lowered, is_undef_use, shares_register}
use Rattle.lowering_laws.proofs.Formed.{all-by, tied-seat}
use Rattle.lowering_laws.proofs.FormedTies.{roles-kept}
use Rattle.lowering_laws.proofs.Rolled.{defined-by}
use Rattle.lowering_laws.proofs.Seated.{pair-of, pair_with, seated-use, told-in}
use Rattle.spiller.specs.Setting.{Spilling, is_own}
use Rattle.spiller.specs.Spilled.{Seats, as_tiny, seated, seats_from, tiny_defined, tiny_of, tiny_read, tiny_used, with_tinies}
use Rattle.spill_laws.specs.Laws.{HasTinies, IsInForm, TiniesKeepRules}
use Rattle.spill_laws.proofs.Ranges.{numbered-of}
use Rattle.spill_laws.proofs.TinyApart.{none-undefined, twelve}
use Rattle.spill_laws.proofs.TinyRules.{four, last, new_instr, one, own-explicit, rolled, three, two}
use Rattle.spill_laws.proofs.Turned.{bound-after, explicit-after, explicit-number, others-stay, register-behind, seat, turned-from}

not-true : (b : Bool) → not b ≡ true → b ≡ false
not-true true e = absurd (cc)
not-true false e = refl

-- one register is the range or isn't
pub range-same : (v : ℕ) (a b : Loc) → same_loc a b ≡ true → is_range v a ≡ is_range v b
range-same v (Virtual x) (Virtual y) e = ap (nat_eq v) (eqb-true x y e)
range-same v (Fixed x) (Fixed y) e = refl
range-same v (Virtual x) (Fixed y) e = absurd (cc)
range-same v (Fixed x) (Virtual y) e = absurd (cc)

module _ (s : Spilling) (g : Function) (c : ℕ) (p : List Instr) (h : HasTinies s g c p) (i : Instr) (mi : Member i p) where
  abbrev t : Target
  t = s.target

  abbrev z : Seats
  z = seats_from s c p

  abbrev os : List Operand
  os = i.operands

  abbrev es : List Role
  es = explicit_roles (roles_of s.target i)

  abbrev behind : Instr
  behind = new_instr s g c p h i mi

  abbrev Shares : RegOp → RegOp → Type 0
  Shares d u = (same_loc d.loc u.loc && same_index d.index u.index) ≡ true

  abbrev in-place : RegOp → Option ℕ → RegOp
  in-place o x = elim x as (λ x. RegOp) [ None ↦ o | Some n ↦ as_tiny o n ]

  seated-as : (k : ℕ) (q : Option Role) (o : RegOp) (x : Option ℕ) → is_own s o ≡ true → tiny_of s z i k q o ≡ x → seated s z i k q o ≡ in-place o x
  seated-as k q o x own e = λ j. cond (own j) (in-place o (e j)) o

  -- a definition and the use that is tied to it
  pair-shares : (n : ℕ) (r : Option Role) (d : RegOp) (k : ℕ) (q : Option Role) (u : RegOp) → d.def ≡ true → u.def ≡ false → option_and_then tied_number q ≡ Some n → Shares d u → Shares (seated s z i n r d) (seated s z i k q u)
  pair-shares n r d k q u def used ties old = go (is_own s d) refl
    where
      same : is_own s d ≡ is_own s u
      same = range-same s.range d.loc u.loc (first_of_both (same_loc d.loc u.loc) (same_index d.index u.index) old)

      by : (x : Option ℕ) → Shares (in-place d x) (in-place u x)
      by None = old
      by (Some m) = λ j. eq-eqb m m refl j && true

      go : (b : Bool) → is_own s d ≡ b → Shares (seated s z i n r d) (seated s z i k q u)
      go false e = (λ j. same_loc (others-stay s z i n r d e j).loc (others-stay s z i k q u (sym same ∙ e) j).loc && same_index (others-stay s z i n r d e j).index (others-stay s z i k q u (sym same ∙ e) j).index) ∙ old
      go true e =
          let x = tiny_defined z i n in
          let d-is = seated-as n r d x e (λ j. cond (def j) (tiny_defined z i n) (tiny_used s z i r d)) in
          let u-is = seated-as k q u x (sym same ∙ e) (λ j. cond (used j) (tiny_defined z i k) (elim (ties j) as (λ y. Option ℕ) [ None ↦ cond u.undef None (tiny_read s z q u) | Some m ↦ tiny_defined z i m ])) in
          (λ j. same_loc (d-is j).loc (u-is j).loc && same_index (d-is j).index (u-is j).index) ∙ by x

  each-shares : (w : TiedPair) → Member w (tied_pairs t behind) → shares_register w ≡ true
  each-shares w m =
      let r = rolled s g c p h i mi in
      let rule = (h.shaped i mi).operands in
      let v = tied-seat t behind w m in
      let xs = explicit_operands os in
      let are : explicit_bound es (explicit_operands behind.operands) ≡ map (seat s z i) (numbered 0 (explicit_bound es xs)) =
      ap (explicit_bound es) (explicit-after s z i 0 es os (own-explicit s g c p h i mi) (last s g c p h i mi)) ∙ bound-after s z i 0 es xs in
      let y = map-of (seat s z i) (Some v.0, operands.Reg w.tied_use) (numbered 0 (explicit_bound es xs)) (subst (Member (Some v.0, operands.Reg w.tied_use)) are v.1) in
      let k = y.0.0 in
      let q = y.0.1.0 in
      let from = turned-from s z i k q y.0.1.1 w.tied_use (ap (λ (b : Bound). b.1) y.2) in
      let u = from.0 in
      let u-number : Member (k, (q, operands.Reg u)) (numbered 0 (explicit_bound es xs)) = subst (λ x. Member (k, (q, x)) (numbered 0 (explicit_bound es xs))) from.1 y.1 in
      let u-explicit = numbered-of 0 (explicit_bound es xs) (k, (q, operands.Reg u)) u-number in
      let u-there = numbered-of 0 (explicit_bound es os) (k, (q, operands.Reg u)) (explicit-number s z i 0 es os (last s g c p h i mi) (k, (q, operands.Reg u)) u-number) in
      let ties : option_and_then tied_number q ≡ Some w.number = ap (option_and_then tied_number) (sym (ap (λ (b : Bound). b.0) y.2)) ∙ v.2 in
      let a = register-behind s z i 0 es os w.number w.definition v.3 in
      let d = a.0.operand in
      let pair = pair_with w.number d u in
      let is-pair = pair-of os q u w.number d ties a.1 in
      let old = all-of shares_register pair (tied_pairs t i) (told-in (tied_pair os) pair (q, operands.Reg u) (bound t i) (left-in (q, operands.Reg u) (explicit_bound es xs) (map (implicit_bound (implicit_roles (roles_of t i))) (implicit_registers os)) u-explicit) is-pair) (second_of_both _ _ (h.lowered i mi)) in
      let member = told-in (tied_pair os) pair (q, operands.Reg u) (with_roles t i) u-there is-pair in
      let defined = (defined-by t s.func i r.effect r.known r.rolled rule pair member).is in
      let used = seated-use t s.func i r.effect r.known r.rolled rule pair member in
      let d-is : w.definition ≡ seated s z i w.number a.0.role d = a.0.is ∙ ap (λ n. seated s z i n a.0.role d) (nothing w.number) in
      (λ j. same_loc (d-is j).loc (from.2 j).loc && same_index (d-is j).index (from.2 j).index)
      ∙ pair-shares w.number a.0.role d k q u (first_of_both d.def (not d.implicit) defined) (not-true u.def (first_of_both (not u.def) (not u.implicit) used)) ties old
    where
      nothing : (n : ℕ) → 0 + n ≡ n
      nothing n = omega arith

  pub formed : is_lowered t behind ≡ true
  formed =
      let r = rolled s g c p h i mi in
      let stays = roles-kept r.effect r.rolled in
      λ k. not ((ap (passes is_lowered_away) r.known ∙ stays.0) k)
      && not (none-undefined s g c p h i mi k)
      && not ((ap (passes is_copy) r.known ∙ stays.1) k && list_any is_undef_use (registers behind.operands))
      && all-by shares_register (tied_pairs t behind) each-shares k

  pub in-form : IsInForm t g behind
  in-form =
      let r = rolled s g c p h i mi in
      record {
        shaped = record { operands = one s g c p h i mi; widths = two s g c p h i mi; classes = three s g c p h i mi; indexes = four s g c p h i mi; definitions = twelve s g c p h i mi };
        opcode = ap (passes (λ e. not (is_lowered_away e))) r.known ∙ (λ k. not ((roles-kept r.effect r.rolled).0 k));
        lowered = formed;
      }

pub tinies_keep_rules : TiniesKeepRules
tinies_keep_rules s g c p h x m = let v = map-of (with_tinies s (seats_from s c p)) x p m in subst (IsInForm s.target g) (sym v.2) (in-form s g c p h v.0 v.1)
