-- The uses that are tied to a definition, one by one, and what the definition of a change says of them.
use Rattle.std.proofs.Common.{◌≡◌, ◌∙◌, ℕ, Bool, true, false, cond, not, ◌&&◌, List, [], ◌∷◌, ◌++◌, Option, Some, None, map, refl, sym, ap, eqb-true}
use Rattle.std.specs.Prelude.{filter, filter_map, nat_eq, option_map}
use Rattle.std.specs.List.{cons_option}
use Rattle.target_base.specs.declared.types.Role.{Role}
use Rattle.mir_func.specs.declared.func.Loc.{Loc}
use Rattle.mir_func.specs.declared.func.Loc.TheVariants.{Virtual, Fixed}
use Rattle.mir_func.specs.declared.func.RegOp.{RegOp}
use Rattle.mir_func.specs.declared.func.Operand.{Operand}
use Rattle.mir_func.specs.declared.func.Operand.TheVariants as operands
use Rattle.mir_func.specs.declared.func.Instr.{Instr}
use Rattle.mir_func.specs.Binding.{Bound, TiedPair, bound, is_virtual, paired_with, passes, register_at, tied_number, tied_pair, ties_to}
use Rattle.mir_meaning.specs.Points.{is_range}
use Rattle.spiller.specs.Setting.{Spilling, in_own_slot, plain_definition, reload}
use Rattle.spiller.specs.Spilled.{OwnDefinition, tied_reload}
use Rattle.spiller.specs.Additions.{tied_reloads, tied_use}
use Rattle.spiller.specs.Placing.{IsPlainForm}
use Rattle.spiller.proofs.OwnUses.{SkipsFixed, told-in-order}
use Rattle.spiller.proofs.FirstLanes.{equals-swapped}

module _ (v n : ℕ) (os : List Operand) (d : RegOp) (there : register_at os n ≡ Some d) (make : RegOp → Instr) where
  -- what is made for the pairs of the definition that the range is read by
  abbrev made : List TiedPair → List Instr
  made ps = map (λ x. make x.tied_use) (filter (λ x. nat_eq x.number n) (filter (λ x. is_range v x.tied_use.loc && not x.tied_use.undef) ps))

  -- the same by the number of the definition, where a use has one
  abbrev by_number : RegOp → Option ℕ → Option RegOp
  by_number o q = cond (is_range v o.loc && (passes (nat_eq n) q && not o.undef)) (Some o) None

  one-pair : (m : ℕ) (o : RegOp) (q : Option RegOp) (ps : List TiedPair) → register_at os m ≡ q → made (cons_option (option_map (λ x. record { number = m; definition = x; tied_use = o }) q) ps) ≡ map make (cons_option (cond (is_range v o.loc && (nat_eq n m && not o.undef)) (Some o) None) []) ++ made ps
  one-pair m o None ps e = go (is_range v o.loc) (nat_eq n m) refl
    where
      go : (a b : Bool) → nat_eq n m ≡ b → made ps ≡ map make (cons_option (cond (a && (b && not o.undef)) (Some o) None) []) ++ made ps
      go true true h = absurd (let z : Some d ≡ None = sym there ∙ (ap (register_at os) (eqb-true n m h) ∙ e) in cc)
      go true false h = refl
      go false b h = refl
  one-pair m o (Some x) ps e = go (is_range v o.loc) (not o.undef) (nat_eq n m) (equals-swapped m n)
    where
      p : TiedPair
      p = record { number = m; definition = x; tied_use = o }

      go : (a u b : Bool) → nat_eq m n ≡ b → map (λ y. make y.tied_use) (filter (λ y. nat_eq y.number n) (cond (a && u) (p ∷ filter (λ y. is_range v y.tied_use.loc && not y.tied_use.undef) ps) (filter (λ y. is_range v y.tied_use.loc && not y.tied_use.undef) ps))) ≡ map make (cons_option (cond (a && (b && u)) (Some o) None) []) ++ made ps
      go true true true h = ap (λ c. map (λ y. make y.tied_use) (cond c (p ∷ filter (λ y. nat_eq y.number n) (filter (λ y. is_range v y.tied_use.loc && not y.tied_use.undef) ps)) (filter (λ y. nat_eq y.number n) (filter (λ y. is_range v y.tied_use.loc && not y.tied_use.undef) ps)))) h
      go true true false h = ap (λ c. map (λ y. make y.tied_use) (cond c (p ∷ filter (λ y. nat_eq y.number n) (filter (λ y. is_range v y.tied_use.loc && not y.tied_use.undef) ps)) (filter (λ y. nat_eq y.number n) (filter (λ y. is_range v y.tied_use.loc && not y.tied_use.undef) ps)))) h
      go true false true h = refl
      go true false false h = refl
      go false u b h = refl

  one-tied : (r : Option Role) (o : RegOp) (ps : List TiedPair) → made (cons_option (tied_pair os (r, operands.Reg o)) ps) ≡ map make (cons_option (tied_use v n (r, operands.Reg o)) []) ++ made ps
  one-tied None o ps = go (is_range v o.loc)
    where
      go : (a : Bool) → made ps ≡ map make (cons_option (cond (a && false) (Some o) None) []) ++ made ps
      go true = refl
      go false = refl
  one-tied (Some r) o ps = go (tied_number r) refl
    where
      none : (a : Bool) → made ps ≡ map make (cons_option (cond (a && false) (Some o) None) []) ++ made ps
      none true = refl
      none false = refl

      go : (q : Option ℕ) → tied_number r ≡ q → made (cons_option (paired_with os o q) ps) ≡ map make (cons_option (by_number o q) []) ++ made ps
      go None e = none (is_range v o.loc)
      go (Some m) e = one-pair m o (register_at os m) ps refl

  all-tied : (bs : List Bound) → made (filter_map (tied_pair os) bs) ≡ map make (filter_map (tied_use v n) bs)
  all-tied [] = refl
  all-tied ((r, operands.Reg o) ∷ bs) = one-tied r o (filter_map (tied_pair os) bs) ∙ one (tied_use v n (r, operands.Reg o)) (all-tied bs)
    where
      one : (q : Option RegOp) → made (filter_map (tied_pair os) bs) ≡ map make (filter_map (tied_use v n) bs) → map make (cons_option q []) ++ made (filter_map (tied_pair os) bs) ≡ map make (cons_option q (filter_map (tied_use v n) bs))
      one None h = h
      one (Some x) h = ap (λ ys. make x ∷ ys) h
  all-tied ((r, x) ∷ bs) = all-tied bs

  tied-skips : SkipsFixed (tied_use v n)
  tied-skips r o h = go o.loc h
    where
      go : (l : Loc) → is_virtual l ≡ false → cond (is_range v l && (passes (ties_to n) r && not o.undef)) (Some o) None ≡ None
      go (Virtual w) h = absurd (cc)
      go (Fixed q) h = refl

-- the reloads into a definition's tiny
pub tied-are : (s : Spilling) (p : ℕ × OwnDefinition) (d : RegOp) → IsPlainForm p.1.by → register_at p.1.by.operands p.1.number ≡ Some d → tied_reload s p ≡ tied_reloads s p
tied-are s p d form there =
    let make : RegOp → Instr = λ o. reload s.target p.1.class (plain_definition (Virtual p.0) None) (in_own_slot s o.index) in
    all-tied s.range p.1.number p.1.by.operands d there make (bound s.target p.1.by)
    ∙ ap (map make) (told-in-order (tied_use s.range p.1.number) (tied-skips s.range p.1.number p.1.by.operands d there make) s.target p.1.by form.last form.fixed)
