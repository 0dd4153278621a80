-- Borders of one bundle have one node.
use Rattle.std.proofs.Common.{◌≡◌, ◌∙◌, ℕ, ◌+◌, List, [], ◌∷◌, Bool, true, false, cond, refl, sym, ap, Option, None, Some}
use Rattle.std.specs.Prelude.{◌||◌, ◌&&◌, not, nat_eq}
use Rattle.std.specs.List.{list_all}
use Rattle.std.proofs.lemmas.Bool.{eqb-true}
use Rattle.target_base.specs.declared.types.Target.{Target}
use Rattle.target_base.specs.declared.types.Reg.{Reg}
use Rattle.mir_func.specs.Value.{Function}
use Rattle.split_choose.specs.Bundles.{root_of, border_place, same_border, same_root, are_joined}
use Rattle.split_choose.specs.Offers.{View, Border, In, Out, live_at, borders, border_clear, is_in}
use Rattle.split_choose.specs.Cuts.{Bundle, place_by, bundle_nodes, number_of}
use Rattle.split_choose.proofs.Picking.{place-same}

all-same : {X : Type 0} (g h : X → Bool) → ((x : X) → g x ≡ h x) → (xs : List X) → list_all g xs ≡ list_all h xs
all-same g h same [] = refl
all-same g h same (x ∷ xs) = ap (λ b. b && list_all g xs) (same x) ∙ ap (λ b. h x && b) (all-same g h same xs)

pub border-same : (x y : Border) → same_border x y ≡ true → x ≡ y
border-same (In n) (In m) e = ap In (eqb-true n m e)
border-same (In n) (Out m) e = absurd (let z : false ≡ true = e in cc)
border-same (Out n) (In m) e = absurd (let z : false ≡ true = e in cc)
border-same (Out n) (Out m) e = ap Out (eqb-true n m e)

module _ (t : Target) (f : Function) (v : ℕ) (view : View) (ps : List ℕ) (one : (x y : Border) → view.one_bundle (x, y) ≡ are_joined f.blocks ps (x, y)) where
  -- what joins a border, where its number is this
  abbrev joined-at : Border → Option ℕ → Border → Bool
  joined-at x o z = elim o [ None ↦ same_border x z | Some i ↦ same_root ps i (border_place f.blocks z) ]

  root-same : (i j : ℕ) (o : Option ℕ) → root_of ps i ≡ root_of ps j → same_root ps i o ≡ same_root ps j o
  root-same i j None e = refl
  root-same i j (Some k) e = ap (λ n. nat_eq n (root_of ps k)) e

  joins-same : (x y z : Border) (o q : Option ℕ) → border_place f.blocks x ≡ o → border_place f.blocks y ≡ q → joined-at x o y ≡ true → joined-at x o z ≡ joined-at y q z
  joins-same x y z None q at there e =
      let same : x ≡ y = border-same x y e in
      ap (λ b. joined-at b None z) same ∙ ap (λ o. joined-at y o z) (sym at ∙ (ap (border_place f.blocks) same ∙ there))
  joins-same x y z (Some i) q at there e = go q there (ap (same_root ps i) (sym there) ∙ e)
    where
      go : (q : Option ℕ) → border_place f.blocks y ≡ q → same_root ps i q ≡ true → same_root ps i (border_place f.blocks z) ≡ joined-at y q z
      go None there e = absurd (let z : false ≡ true = e in cc)
      go (Some j) there e = root-same i j (border_place f.blocks z) (eqb-true (root_of ps i) (root_of ps j) e)

  one-same : (x y : Border) → view.one_bundle (x, y) ≡ true → (z : Border) → view.one_bundle (x, z) ≡ view.one_bundle (y, z)
  one-same x y e z = one x z ∙ (joins-same x y z (border_place f.blocks x) (border_place f.blocks y) refl refl (sym (one x y) ∙ e) ∙ sym (one y z))

  in-same : (r : Reg) (x y : Border) → view.one_bundle (x, y) ≡ true → is_in t f v view r x ≡ is_in t f v view r y
  in-same r x y e =
      all-same (λ z. not (view.one_bundle (x, z) && live_at t f v view z) || border_clear t f v view r z) (λ z. not (view.one_bundle (y, z) && live_at t f v view z) || border_clear t f v view r z)
      (λ z. ap (λ b. not (b && live_at t f v view z) || border_clear t f v view r z) (one-same x y e z)) (borders t f v view)

  pub number-same : (r : Reg) (x y : Border) → view.one_bundle (x, y) ≡ true → number_of t f v view r (Bundle x) ≡ number_of t f v view r (Bundle y)
  number-same r x y e =
      ap (λ b. cond b (2 + place_by (λ z. view.one_bundle (x, z)) (bundle_nodes t f v view r)) 1) (in-same r x y e)
      ∙ ap (λ n. cond (is_in t f v view r y) (2 + n) 1) (place-same (λ z. view.one_bundle (x, z)) (λ z. view.one_bundle (y, z)) (one-same x y e) (bundle_nodes t f v view r))
