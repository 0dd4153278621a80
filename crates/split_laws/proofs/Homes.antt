-- Where each lane has its value in a function with a range split: a lane of the range in that of the part of the label which
-- holds. Registers that the function doesn't have are kept apart from the parts, so that no two lanes have one home.
use Rattle.std.proofs.Common.{◌≡◌, ◌<◌, ◌+◌, inl, inr, ℕ, Bool, true, false, cond, length, refl, sym, ap, ◌∙◌, subst, arith, eqb-true}
use Rattle.std.specs.Prelude.{nat_eq, nat_lt}
use Rattle.std.proofs.lemmas.Bool.{eq-eqb, lt-ltb, ltb-false, ltb-true, ne_eqb}
use Rattle.target_base.specs.declared.types.Target.{Target}
use Rattle.meaning.specs.Code.{Code}
use Rattle.meaning.specs.InStep.{Agree}
use Rattle.meaning.specs.Live.{Kept, Live}
use Rattle.meaning.specs.Matched.{images}
use Rattle.meaning.specs.declared.types.Lane.{Lane}
use Rattle.meaning.specs.declared.types.Lane.TheVariants.{SlotLane, UnitLane, VirtualLane}
use Rattle.meaning.specs.declared.types.Source.TheVariants.{FromLane}
use Rattle.mir_func.specs.Value.{Function}
use Rattle.mir_meaning.specs.Registers.{is_reserved}
use Rattle.mir_meaning.specs.Renaming.{KeepsPlaces}
use Rattle.split_kit.specs.Split.{part}
use Rattle.split_laws.proofs.Renamed.{KeepsApart}

-- by what the tests say of two registers
apart-by : (n count label v a b : ℕ) → label < count → (va vb la lb : Bool) → nat_eq v a ≡ va → nat_eq v b ≡ vb → nat_lt a n ≡ la → nat_lt b n ≡ lb → cond va (n + label) (cond la a (a + count)) ≡ cond vb (n + label) (cond lb b (b + count)) → a ≡ b
apart-by n count label v a b h true true la lb ea eb fa fb e = sym (eqb-true v a ea) ∙ eqb-true v b eb
apart-by n count label v a b h true false la true ea eb fa fb e = absurd (omega (arith, ltb-true b n fb))
apart-by n count label v a b h true false la false ea eb fa fb e = absurd (omega (arith, ltb-false b n fb))
apart-by n count label v a b h false true true lb ea eb fa fb e = absurd (omega (arith, ltb-true a n fa))
apart-by n count label v a b h false true false lb ea eb fa fb e = absurd (omega (arith, ltb-false a n fa))
apart-by n count label v a b h false false true true ea eb fa fb e = e
apart-by n count label v a b h false false true false ea eb fa fb e = absurd (omega (arith, ltb-true a n fa, ltb-false b n fb))
apart-by n count label v a b h false false false true ea eb fa fb e = absurd (omega (arith, ltb-false a n fa, ltb-true b n fb))
apart-by n count label v a b h false false false false ea eb fa fb e = omega arith

-- a register that isn't the range has no part as its home
beside-by : (n count label to a : ℕ) → to < count → (la : Bool) → nat_lt a n ≡ la → n + to ≡ cond la a (a + count) → ⊥
beside-by n count label to a h true f e = omega (arith, ltb-true a n f)
beside-by n count label to a h false f e = omega (arith, ltb-false a n f)

-- range v of f has `count` parts
module _ (f : Function) (v count : ℕ) where
  abbrev pub home_of : ℕ → ℕ → ℕ
  home_of label w = cond (nat_eq v w) (part f label) (cond (nat_lt w (length f.classes)) w (w + count))

  abbrev pub lane_home : ℕ → Lane → Lane
  lane_home label (VirtualLane w k) = VirtualLane (home_of label w) k
  lane_home label (UnitLane u) = UnitLane u
  lane_home label (SlotLane s k x) = SlotLane s k x

  pub keeps-places : (label : ℕ) → KeepsPlaces (lane_home label)
  keeps-places label = record { units = λ u. refl; slots = λ s k w. refl }

  pub home-own : (label : ℕ) → home_of label v ≡ part f label
  home-own label = ap (λ b. cond b (part f label) (cond (nat_lt v (length f.classes)) v (v + count))) (eq-eqb v v refl)

  pub home-named : (label w : ℕ) → nat_eq v w ≡ false → w < length f.classes → home_of label w ≡ w
  home-named label w e h = λ i. cond (e i) (part f label) (cond (lt-ltb w (length f.classes) h i) w (w + count))

  pub home-other : (label to w : ℕ) → nat_eq v w ≡ false → home_of label w ≡ home_of to w
  home-other label to w e =
      ap (λ b. cond b (part f label) (cond (nat_lt w (length f.classes)) w (w + count))) e
      ∙ sym (ap (λ b. cond b (part f to) (cond (nat_lt w (length f.classes)) w (w + count))) e)

  -- and isn't a part
  pub home-beside : (label to w : ℕ) → nat_eq v w ≡ false → to < count → nat_eq (part f to) (home_of label w) ≡ false
  home-beside label to w e h =
      ne_eqb (part f to) (home_of label w) (λ g. beside-by (length f.classes) count label to w h (nat_lt w (length f.classes)) refl (g ∙ ap (λ b. cond b (part f label) (cond (nat_lt w (length f.classes)) w (w + count))) e))

  pub registers-apart : (label a b : ℕ) → label < count → home_of label a ≡ home_of label b → a ≡ b
  registers-apart label a b h e =
      apart-by (length f.classes) count label v a b h (nat_eq v a) (nat_eq v b) (nat_lt a (length f.classes)) (nat_lt b (length f.classes)) refl refl refl refl e

  pub homes-apart : (label : ℕ) → label < count → KeepsApart (lane_home label)
  homes-apart label h (VirtualLane w k) (VirtualLane x j) e =
      let one : home_of label w ≡ home_of label x = cc in
      let two : k ≡ j = cc in
      λ i. VirtualLane (registers-apart label w x h one i) (two i)
  homes-apart label h (VirtualLane w k) (UnitLane u) e = absurd (cc)
  homes-apart label h (VirtualLane w k) (SlotLane s j x) e = absurd (cc)
  homes-apart label h (UnitLane u) (VirtualLane w k) e = absurd (cc)
  homes-apart label h (UnitLane u) (UnitLane y) e = e
  homes-apart label h (UnitLane u) (SlotLane s k x) e = absurd (cc)
  homes-apart label h (SlotLane s k x) (VirtualLane w j) e = absurd (cc)
  homes-apart label h (SlotLane s k x) (UnitLane u) e = absurd (cc)
  homes-apart label h (SlotLane s k x) (SlotLane r j y) e = e

  -- homes of two labels agree where the labels are one or no lane of the range is live
  pub labels-agree : (t : Target) (code p : Code) (label to : ℕ) → ((k : ℕ) → Live (is_reserved t) code p (VirtualLane v k) → label ≡ to) → Agree (is_reserved t) code p (images (lane_home label)) (images (lane_home to))
  labels-agree t code p label to h (VirtualLane w k) kept = go (nat_eq v w) refl kept
    where
      go : (b : Bool) → nat_eq v w ≡ b → Kept (is_reserved t) code p (VirtualLane w k) → FromLane (lane_home label (VirtualLane w k)) ≡ FromLane (lane_home to (VirtualLane w k))
      go true e (inl live) = ap (λ l. FromLane (lane_home l (VirtualLane w k))) (h k (subst (λ x. Live (is_reserved t) code p (VirtualLane x k)) (sym (eqb-true v w e)) live))
      go true e (inr r) = absurd (cc)
      go false e kept' = ap (λ x. FromLane (VirtualLane x k)) (home-other label to w e)
  labels-agree t code p label to h (UnitLane u) kept = refl
  labels-agree t code p label to h (SlotLane s k x) kept = refl
