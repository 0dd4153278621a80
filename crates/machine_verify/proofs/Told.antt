-- What a verdict tells.
use Rattle.std.proofs.Common.{◌≡◌, ◌∙◌, ℕ, suc, Bool, true, false, cond, List, [], ◌∷◌, Option, Some, None, refl, sym, ap, subst, inl, inr}
use Rattle.std.specs.Prelude.{option_map, not}
use Rattle.std.specs.List.{list_any}
use Rattle.target_base.specs.declared.types.Target.{Target}
use Rattle.mir_func.specs.Value.{Function}
use Rattle.mir_func.specs.declared.func.Block.{Block}
use Rattle.mir_meaning.specs.declared.Form.{Form}
use Rattle.mir_meaning.specs.declared.Form.TheVariants as forms
use Rattle.mir_meaning.specs.Valid.{Fault, fault_at, shape_fault, names_virtual}
use Rattle.live_lanes.specs.declared.table.Table.{Table}
use Rattle.live_lanes.specs.Doing.{IsComputed}
use Rattle.machine_verify.specs.declared.stop.Invalid.{Invalid}
use Rattle.machine_verify.specs.Faults.{fault_of}
use Rattle.machine_verify.specs.Lives.{block_fits, starts_fit, later_fault, first_late}
use Rattle.machine_verify.specs.Verdict.{IsAccepted, IsFault, IsLate, NamesNone, of_shape, of_liveness}
use Rattle.machine_verify.proofs.Late.{valid_where_none, fault_where_some}

late_thirteen : (b : Block) (y : Fault) → Some (fault_at b 0 13) ≡ Some y → IsLate y
late_thirteen b y e = let g : fault_at b 0 13 ≡ y = cc in subst IsLate g (record { place = refl; rule = inl refl })

late_fourteen : (b : Block) (y : Fault) → Some (fault_at b 0 14) ≡ Some y → IsLate y
late_fourteen b y e = let g : fault_at b 0 14 ≡ y = cc in subst IsLate g (record { place = refl; rule = inr refl })

module _ (t : Target) (form : Form) (f : Function) where
  later_late : (x : Table) (k : ℕ) (bs : List Block) (y : Fault) → later_fault t form x k bs ≡ Some y → IsLate y
  later_late x k [] y h = absurd (cc)
  later_late x k (b ∷ bs) y h = by (block_fits t form x k b) h (λ g. later_late x (suc k) bs y g)
    where
      by : (v : Bool) → cond v (later_fault t form x (suc k) bs) (Some (fault_at b 0 13)) ≡ Some y → (later_fault t form x (suc k) bs ≡ Some y → IsLate y) → IsLate y
      by true g ih = ih g
      by false g ih = late_thirteen b y g

  first_is_late : (x : Table) (bs : List Block) (y : Fault) → first_late t form f x bs ≡ Some y → IsLate y
  first_is_late x [] y h = absurd (cc)
  first_is_late x (b ∷ bs) y h = by (block_fits t form x 0 b) (starts_fit t form f x b.number) h
    where
      by : (v w : Bool) → cond v (cond w (later_fault t form x 1 bs) (Some (fault_at b 0 14))) (Some (fault_at b 0 13)) ≡ Some y → IsLate y
      by true true g = later_late x 1 bs y g
      by true false g = late_fourteen b y g
      by false w g = late_thirteen b y g

  -- where V14 is passed, an allocated function names no virtual register
  named_where : (x : Table) (n : ℕ) (g : Form) → starts_fit t g f x n ≡ true → NamesNone g f
  named_where x n forms.Source h = tt
  named_where x n forms.Allocated h = none (list_any names_virtual f.blocks) h
    where
      none : (a : Bool) → not a ≡ true → a ≡ false
      none true e = absurd (cc)
      none false e = refl

  none_named : (x : Table) (bs : List Block) → f.blocks ≡ bs → first_late t form f x bs ≡ None → NamesNone form f
  none_named x [] e h = empty form
    where
      empty : (g : Form) → NamesNone g f
      empty forms.Source = tt
      empty forms.Allocated = ap (list_any names_virtual) e
  none_named x (b ∷ bs) e h = by (block_fits t form x 0 b) (starts_fit t form f x b.number) refl h
    where
      by : (v w : Bool) → starts_fit t form f x b.number ≡ w → cond v (cond w (later_fault t form x 1 bs) (Some (fault_at b 0 14))) (Some (fault_at b 0 13)) ≡ None → NamesNone form f
      by true true g k = named_where x b.number form g
      by true false g k = absurd (cc)
      by false w g k = absurd (cc)

  pub told_shape : (o : Option Invalid) (y : Invalid) → option_map fault_of o ≡ shape_fault t form f → o ≡ Some y → IsFault t form f (fault_of y)
  told_shape o y e g = of_shape (sym e ∙ ap (option_map fault_of) g)

  pub told_late : (x : Table) (o l : Option Invalid) (y : Invalid) → IsComputed t f x → option_map fault_of o ≡ shape_fault t form f → o ≡ None → option_map fault_of l ≡ first_late t form f x f.blocks → l ≡ Some y → IsFault t form f (fault_of y)
  told_late x o l y computed e g h k =
      let clean : shape_fault t form f ≡ None = sym e ∙ ap (option_map fault_of) g in
      let told : first_late t form f x f.blocks ≡ Some (fault_of y) = sym h ∙ ap (option_map fault_of) k in
      of_liveness clean (first_is_late x f.blocks (fault_of y) told) (λ fits. fault_where_some t form f x computed fits clean (fault_of y) told)

  pub told_none : (x : Table) (o l : Option Invalid) → IsComputed t f x → option_map fault_of o ≡ shape_fault t form f → o ≡ None → option_map fault_of l ≡ first_late t form f x f.blocks → l ≡ None → IsAccepted t form f
  told_none x o l computed e g h k =
      let clean : shape_fault t form f ≡ None = sym e ∙ ap (option_map fault_of) g in
      let told : first_late t form f x f.blocks ≡ None = sym h ∙ ap (option_map fault_of) k in
      record { shape = clean; named = none_named x f.blocks refl told; valid = λ fits. valid_where_none t form f x computed fits clean told }
