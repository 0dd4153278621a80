-- Where a lane stands among others, and what is written there.
use Rattle.std.proofs.Common.{◌≡◌, ◌∷◌, ◌++◌, ◌∙◌, ◌&&◌, ◌||◌, ◌+◌, ◌<◌, ℕ, zero, suc, Bool, true, false, cond, List, Option, Some, None, map, length, refl, sym, ap, subst, eqb-true, eq-eqb, arith, []}
use Rattle.std.specs.Prelude.{nat_eq, option_map}
use Rattle.meaning.specs.Lanes.{Writes, filled, same_lane}
use Rattle.meaning.specs.Live.{Among, here, there}
use Rattle.meaning.specs.declared.types.Fill.{Fill}
use Rattle.meaning.specs.declared.types.Fill.TheVariants.{Computed, Moved}
use Rattle.meaning.specs.declared.types.Lane.{Lane}
use Rattle.meaning.specs.declared.types.Lane.TheVariants.{SlotLane, UnitLane, VirtualLane}
use Rattle.meaning.specs.declared.types.Source.{Source}
use Rattle.meaning.specs.declared.types.Source.TheVariants.{FromLane, Undef}
use Rattle.target_base.proofs.Tests.{first_of_both, second_of_both}
use Rattle.mir_meaning.specs.Registers.{numbers}
use Rattle.mir_meaning.specs.Items.{computed, moved, undefined}
use Rattle.instr_effects.proofs.Members.{member-elim, member-none}
use Rattle.lowering_laws.proofs.Traced.{is_lane_of, is_written, lanes_by}

-- the place of a lane among others
abbrev pub place : List Lane → Lane → Option ℕ
place [] a = None
place (l ∷ ls) a = cond (same_lane l a) (Some 0) (option_map suc (place ls a))

none-mapped : (q : Option ℕ) → option_map suc q ≡ None → q ≡ None
none-mapped None e = refl
none-mapped (Some k) e = absurd (cc)

-- where it stands nowhere
abbrev pub Misses : Lane → List Lane → Lane → Type 0
Misses l ls a = (same_lane l a ≡ false) × (place ls a ≡ None)

pub misses : (l : Lane) (ls : List Lane) (a : Lane) → place (l ∷ ls) a ≡ None → Misses l ls a
misses l ls a e = go (same_lane l a) refl e
  where
    go : (y : Bool) → same_lane l a ≡ y → cond y (Some 0) (option_map suc (place ls a)) ≡ None → Misses l ls a
    go true g h = absurd (cc)
    go false g h = (g, none-mapped (place ls a) h)

pub moved-missed : (early : Bool) (ls : List Lane) (ss : List Source) (a : Lane) → place ls a ≡ None → is_written (moved early ls ss) a ≡ false
moved-missed early [] ss a e = refl
moved-missed early (l ∷ ls) [] a e = refl
moved-missed early (l ∷ ls) (s ∷ ss) a e = let z = misses l ls a e in λ k. z.0 k || moved-missed early ls ss a z.1 k

pub undefined-missed : (early : Bool) (ls : List Lane) (a : Lane) → place ls a ≡ None → is_written (undefined early ls) a ≡ false
undefined-missed early [] a e = refl
undefined-missed early (l ∷ ls) a e = let z = misses l ls a e in λ k. z.0 k || undefined-missed early ls a z.1 k

pub computed-missed : (early : Bool) (n : ℕ) (ls : List Lane) (a : Lane) → place ls a ≡ None → is_written (computed early n ls) a ≡ false
computed-missed early n [] a e = refl
computed-missed early n (l ∷ ls) a e = let z = misses l ls a e in λ k. z.0 k || computed-missed early (suc n) ls a z.1 k

-- what is computed there, by its place
abbrev pub by_place : ℕ → Option ℕ → Fill → Fill
by_place n None x = x
by_place n (Some k) x = Computed (n + k)

pub computed-filled : (early : Bool) (n : ℕ) (ls : List Lane) (X : Writes) (a : Lane) → filled (computed early n ls ++ X) a ≡ by_place n (place ls a) (filled X a)
computed-filled early n [] X a = refl
computed-filled early n (l ∷ ls) X a = go (same_lane l a) (computed-filled early (suc n) ls X a)
  where
    next : (q : Option ℕ) → by_place (suc n) q (filled X a) ≡ by_place n (option_map suc q) (filled X a)
    next None = refl
    next (Some k) = ap Computed (omega arith)

    go : (y : Bool) → filled (computed early (suc n) ls ++ X) a ≡ by_place (suc n) (place ls a) (filled X a) → cond y (Computed n) (filled (computed early (suc n) ls ++ X) a) ≡ by_place n (cond y (Some 0) (option_map suc (place ls a))) (filled X a)
    go true ih = ap Computed (omega arith)
    go false ih = ih ∙ next (place ls a)

-- what is made Undef, by its place
abbrev pub undef_by_place : Option ℕ → Fill → Fill
undef_by_place None x = x
undef_by_place (Some k) x = Moved Undef

pub undefined-filled : (early : Bool) (ls : List Lane) (X : Writes) (a : Lane) → filled (undefined early ls ++ X) a ≡ undef_by_place (place ls a) (filled X a)
undefined-filled early [] X a = refl
undefined-filled early (l ∷ ls) X a = go (same_lane l a) (undefined-filled early ls X a)
  where
    next : (q : Option ℕ) → undef_by_place q (filled X a) ≡ undef_by_place (option_map suc q) (filled X a)
    next None = refl
    next (Some k) = refl

    go : (y : Bool) → filled (undefined early ls ++ X) a ≡ undef_by_place (place ls a) (filled X a) → cond y (Moved Undef) (filled (undefined early ls ++ X) a) ≡ undef_by_place (cond y (Some 0) (option_map suc (place ls a))) (filled X a)
    go true ih = refl
    go false ih = ih ∙ next (place ls a)

pub undefined-found : (early : Bool) (ls : List Lane) (a : Lane) (k : ℕ) → place ls a ≡ Some k → filled (undefined early ls) a ≡ Moved Undef
undefined-found early [] a k e = absurd (cc)
undefined-found early (l ∷ ls) a k e = go (same_lane l a) e (λ j q. undefined-found early ls a j q)
  where
    go : (y : Bool) → cond y (Some 0) (option_map suc (place ls a)) ≡ Some k → ((j : ℕ) → place ls a ≡ Some j → filled (undefined early ls) a ≡ Moved Undef) → cond y (Moved Undef) (filled (undefined early ls) a) ≡ Moved Undef
    go true e ih = refl
    go false e ih = some (place ls a) refl e
      where
        some : (q : Option ℕ) → place ls a ≡ q → option_map suc q ≡ Some k → filled (undefined early ls) a ≡ Moved Undef
        some None g h = absurd (cc)
        some (Some j) g h = ih j g

-- lanes that are tested to be one
pub same-is : (l a : Lane) → same_lane l a ≡ true → l ≡ a
same-is (VirtualLane v k) (VirtualLane w j) e = λ x. VirtualLane (eqb-true v w (first_of_both (nat_eq v w) (nat_eq k j) e) x) (eqb-true k j (second_of_both (nat_eq v w) (nat_eq k j) e) x)
same-is (UnitLane u) (UnitLane w) e = ap UnitLane (eqb-true u w e)
same-is (SlotLane s k w) (SlotLane q j x) e =
    let r = second_of_both (nat_eq s q) (nat_eq k j && nat_eq w x) e in
    λ y. SlotLane (eqb-true s q (first_of_both (nat_eq s q) (nat_eq k j && nat_eq w x) e) y) (eqb-true k j (first_of_both (nat_eq k j) (nat_eq w x) r) y) (eqb-true w x (second_of_both (nat_eq k j) (nat_eq w x) r) y)
same-is l a e = absurd (cc)

pub same-self : (a : Lane) → same_lane a a ≡ true
same-self (VirtualLane v k) = λ x. eq-eqb v v refl x && eq-eqb k k refl x
same-self (UnitLane u) = eq-eqb u u refl
same-self (SlotLane s k w) = λ x. eq-eqb s s refl x && (eq-eqb k k refl x && eq-eqb w w refl x)

-- a lane has a place where it stands, and nowhere else

pub place-there : (ls : List Lane) (a : Lane) (k : ℕ) → place ls a ≡ Some k → Among a ls × (k < length ls)
place-there [] a k e = absurd (cc)
place-there (l ∷ ls) a k e = go (same_lane l a) refl e (λ j g. place-there ls a j g)
  where
    Further : Type 0
    Further = (j : ℕ) → place ls a ≡ Some j → Among a ls × (j < length ls)

    later : (q : Option ℕ) → place ls a ≡ q → option_map suc q ≡ Some k → Further → Among a (l ∷ ls) × (k < length (l ∷ ls))
    later None g h ih = absurd (cc)
    later (Some j) g h ih = let z = ih j g in let s = number (suc j) k h in let y = z.1 in (there z.0, omega arith)
      where
        number : (x y : ℕ) → Some x ≡ Some y → x ≡ y
        number x y e = cc

    go : (y : Bool) → same_lane l a ≡ y → cond y (Some 0) (option_map suc (place ls a)) ≡ Some k → Further → Among a (l ∷ ls) × (k < length (l ∷ ls))
    go true g h ih = let s = number 0 k h in (subst (λ x. Among a (x ∷ ls)) (sym (same-is l a g)) here, omega arith)
      where
        number : (x y : ℕ) → Some x ≡ Some y → x ≡ y
        number x y e = cc
    go false g h ih = later (place ls a) refl h ih

pub there-place : (ls : List Lane) (a : Lane) → Among a ls → (k : ℕ) × (place ls a ≡ Some k)
there-place [] a m = absurd (member-none a m)
there-place (l ∷ ls) a m = go (same_lane l a) refl (λ k. there-place ls a k)
  where
    go : (y : Bool) → same_lane l a ≡ y → (Among a ls → (k : ℕ) × (place ls a ≡ Some k)) → (k : ℕ) × (cond y (Some 0) (option_map suc (place ls a)) ≡ Some k)
    go true g ih = (0, refl)
    go false g ih = member-elim a l ls (λ e. absurd (let z : same_lane l a ≡ true = subst (λ x. same_lane x a ≡ true) e (same-self a) in cc)) (λ k. let z = ih k in (suc z.0, ap (option_map suc) z.1)) m

-- lanes of one register

pub register-missed : (v : ℕ) (ks : List ℕ) (a : Lane) → is_lane_of v a ≡ false → place (lanes_by v ks) a ≡ None
register-missed v [] a e = refl
register-missed v (k ∷ ks) a e = (λ x. cond (other v k a e x) (Some 0) (option_map suc (place (lanes_by v ks) a))) ∙ ap (option_map suc) (register-missed v ks a e)
  where
    other : (v k : ℕ) (a : Lane) → is_lane_of v a ≡ false → same_lane (VirtualLane v k) a ≡ false
    other v k (VirtualLane w j) e = ap (λ b. b && nat_eq k j) e
    other v k (UnitLane u) e = refl
    other v k (SlotLane s j w) e = refl

pub register-found : (v : ℕ) (ks : List ℕ) (a : Lane) (k : ℕ) → place (lanes_by v ks) a ≡ Some k → is_lane_of v a ≡ true
register-found v ks a k e = go (is_lane_of v a) refl
  where
    go : (y : Bool) → is_lane_of v a ≡ y → is_lane_of v a ≡ true
    go true g = g
    go false g = absurd (let z = register-missed v ks a g in cc)

-- the k-th lane of a register stands at place k
pub numbered-found : (x m n k : ℕ) → k < n → place (lanes_by x (numbers m n)) (VirtualLane x (m + k)) ≡ Some k
numbered-found x m zero k h = absurd (omega arith)
numbered-found x m (suc n) zero h = λ j. cond (eq-eqb x x refl j && eq-eqb m (m + 0) (omega arith) j) (Some 0) (option_map suc (place (lanes_by x (numbers (suc m) n)) (VirtualLane x (m + 0))))
numbered-found x m (suc n) (suc k) h =
    let e : m + suc k ≡ suc m + k = omega arith in
    (λ j. cond (eq-eqb x x refl j && apart j) (Some 0) (option_map suc (place (lanes_by x (numbers (suc m) n)) (VirtualLane x (m + suc k)))))
    ∙ ((λ j. option_map suc (place (lanes_by x (numbers (suc m) n)) (VirtualLane x (e j)))) ∙ ap (option_map suc) (numbered-found x (suc m) n k (omega arith)))
  where
    apart : nat_eq m (m + suc k) ≡ false
    apart = go (nat_eq m (m + suc k)) refl
      where
        go : (y : Bool) → nat_eq m (m + suc k) ≡ y → nat_eq m (m + suc k) ≡ false
        go false g = g
        go true g = absurd (let z = eqb-true m (m + suc k) g in omega arith)

-- what a copy of all lanes of a register gives, by its place
pub copied-found : (ls : List Lane) (x m n : ℕ) (a : Lane) (k : ℕ) → place ls a ≡ Some k → k < n → filled (moved false ls (map FromLane (lanes_by x (numbers m n)))) a ≡ Moved (FromLane (VirtualLane x (m + k)))
copied-found [] x m n a k e h = absurd (cc)
copied-found (l ∷ ls) x m zero a k e h = absurd (omega arith)
copied-found (l ∷ ls) x m (suc n) a k e h = go (same_lane l a) e (λ j g b. copied-found ls x (suc m) n a j g b)
  where
    Further : Type 0
    Further = (j : ℕ) → place ls a ≡ Some j → j < n → filled (moved false ls (map FromLane (lanes_by x (numbers (suc m) n)))) a ≡ Moved (FromLane (VirtualLane x (suc m + j)))

    number : (x y : ℕ) → Some x ≡ Some y → x ≡ y
    number x y e = cc

    later : (q : Option ℕ) → place ls a ≡ q → option_map suc q ≡ Some k → Further → filled (moved false ls (map FromLane (lanes_by x (numbers (suc m) n)))) a ≡ Moved (FromLane (VirtualLane x (m + k)))
    later None g e ih = absurd (cc)
    later (Some j) g e ih =
        let s = number (suc j) k e in
        let w : suc m + j ≡ m + k = omega arith in
        ih j g (omega arith) ∙ (λ i. Moved (FromLane (VirtualLane x (w i))))

    go : (y : Bool) → cond y (Some 0) (option_map suc (place ls a)) ≡ Some k → Further → cond y (Moved (FromLane (VirtualLane x m))) (filled (moved false ls (map FromLane (lanes_by x (numbers (suc m) n)))) a) ≡ Moved (FromLane (VirtualLane x (m + k)))
    go true e ih = let s = number 0 k e in let w : m ≡ m + k = omega arith in λ i. Moved (FromLane (VirtualLane x (w i)))
    go false e ih = later (place ls a) refl e ih
