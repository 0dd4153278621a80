-- Edge bundles by a border that stands for each.
use Rattle.std.proofs.Common.{◌≡◌, ◌∙◌, Bool, true, false, List, refl, sym, ap, subst}
use Rattle.std.proofs.lemmas.Bool.{eq-eqb, eqb-true}
use Rattle.std.specs.Prelude.{nat_eq}
use Rattle.std.specs.List.{list_all}
use Rattle.mir_func.specs.declared.func.Block.{Block}
use Rattle.mir_meaning.specs.Points.{Tests}
use Rattle.worked_examples.proofs.MachineCodeLemmas.Everywhere.{given_of}
use Rattle.split_choose.specs.Offers.{Border, In, OneBundle, Out, back, edge, itself, onward}

abbrev pub same_border : Border → Border → Bool
same_border (In n) (In m) = nat_eq n m
same_border (Out n) (Out m) = nat_eq n m
same_border _ _ = false

same_true : (x y : Border) → same_border x y ≡ true → x ≡ y
same_true (In n) (In m) e = ap In (eqb-true n m e)
same_true (Out n) (Out m) e = ap Out (eqb-true n m e)
same_true (In n) (Out m) e = absurd (cc)
same_true (Out n) (In m) e = absurd (cc)

same_self : (x : Border) → same_border x x ≡ true
same_self (In n) = eq-eqb n n refl
same_self (Out n) = eq-eqb n n refl

module _ (bs : List Block) (stands : Border → Border) where
  -- the borders of each edge have one that stands for both
  abbrev pub keeps_edges : Bool
  keeps_edges = list_all (λ b. list_all (λ e. same_border (stands (Out b.number)) (stands (In e.block))) b.successors) bs

  abbrev pub bundle_test : Border × Border → Bool
  bundle_test p = same_border (stands p.0) (stands p.1)

  module _ (kept : keeps_edges ≡ true) (reached : (x : Border) → OneBundle bs (x, stands x)) where
    same_stand : (x y : Border) → OneBundle bs (x, y) → stands x ≡ stands y
    same_stand x y itself = refl
    same_stand x y (edge {b = b} {e = e} p q) =
        same_true (stands (Out b.number)) (stands (In e.block))
        (given_of (λ e. same_border (stands (Out b.number)) (stands (In e.block))) b.successors e (given_of (λ b. list_all (λ e. same_border (stands (Out b.number)) (stands (In e.block))) b.successors) bs b kept p) q)
    same_stand x y (back h) = sym (same_stand y x h)
    same_stand x y (onward {y = z} h k) = same_stand x z h ∙ same_stand z y k

    pub one_bundle : Tests (OneBundle bs) bundle_test
    one_bundle (x, y) = (
      (λ e. onward (subst (λ z. OneBundle bs (x, z)) (same_true (stands x) (stands y) e) (reached x)) (back (reached y))),
      (λ h. subst (λ z. same_border (stands x) z ≡ true) (same_stand x y h) (same_self (stands x))),
    )
