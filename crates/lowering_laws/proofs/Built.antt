-- A register that is built in another one and copied as a whole, or made Undef before, is given what it is given at once.
use Rattle.std.proofs.Common.{◌≡◌, ◌∷◌, ◌++◌, ◌∙◌, ◌&&◌, ◌||◌, ◌+◌, ◌<◌, ◌≤◌, ℕ, zero, suc, Bool, true, false, cond, List, Option, Some, None, map, length, refl, sym, ap, subst, append-nil, eqb-true, eq-eqb, arith, []}
use Rattle.std.specs.Prelude.{nat_eq, option_map}
use Rattle.std.proofs.lemmas.Bool.{ltb-true}
use Rattle.meaning.specs.Lanes.{Writes, filled, same_lane, settled, through}
use Rattle.meaning.specs.declared.types.Fill.TheVariants.{Moved}
use Rattle.meaning.specs.declared.types.Lane.{Lane}
use Rattle.meaning.specs.declared.types.Lane.TheVariants.{SlotLane, UnitLane, VirtualLane}
use Rattle.meaning.specs.declared.types.Source.{Source}
use Rattle.meaning.specs.declared.types.Source.TheVariants.{FromLane, Undef}
use Rattle.mir_meaning.specs.Registers.{numbers}
use Rattle.mir_meaning.specs.Items.{moved, undefined}
use Rattle.lowering_laws.proofs.Found.{copied-found, moved-missed, place, same-is, undefined-missed}
use Rattle.lowering_laws.proofs.Olds.{is_old}
use Rattle.lowering_laws.proofs.Traced.{filled-free, given-alike, is_lane_of, is_one, is_written, lanes_by, traced, traced-append, undefined-own}
use Rattle.lowering_laws.proofs.Undefs.{GivesAlike, Leaves}

-- an old lane is none of a further register
pub old-not-new : (n x : ℕ) (l : Lane) → is_old n l ≡ true → n ≤ x → is_lane_of x l ≡ false
old-not-new n x (UnitLane u) o h = refl
old-not-new n x (SlotLane s k w) o h = refl
old-not-new n x (VirtualLane v k) o h = go (nat_eq x v) refl
  where
    go : (y : Bool) → nat_eq x v ≡ y → nat_eq x v ≡ false
    go false e = e
    go true e = absurd (let a = eqb-true x v e in let b = ltb-true v n o in omega arith)

-- a lane at some place of all lanes of a register
numbered-is : (v m n : ℕ) (l : Lane) (k : ℕ) → place (lanes_by v (numbers m n)) l ≡ Some k → l ≡ VirtualLane v (m + k)
numbered-is v m zero l k e = absurd (cc)
numbered-is v m (suc n) l k e = go (same_lane (VirtualLane v m) l) refl e (λ j g. numbered-is v (suc m) n l j g)
  where
    number : (a b : ℕ) → Some a ≡ Some b → a ≡ b
    number a b e = cc

    later : (q : Option ℕ) → place (lanes_by v (numbers (suc m) n)) l ≡ q → option_map suc q ≡ Some k → ((j : ℕ) → place (lanes_by v (numbers (suc m) n)) l ≡ Some j → l ≡ VirtualLane v (suc m + j)) → l ≡ VirtualLane v (m + k)
    later None g h ih = absurd (cc)
    later (Some j) g h ih = let s = number (suc j) k h in let w : suc m + j ≡ m + k = omega arith in ih j g ∙ (λ i. VirtualLane v (w i))

    go : (y : Bool) → same_lane (VirtualLane v m) l ≡ y → cond y (Some 0) (option_map suc (place (lanes_by v (numbers (suc m) n)) l)) ≡ Some k → ((j : ℕ) → place (lanes_by v (numbers (suc m) n)) l ≡ Some j → l ≡ VirtualLane v (suc m + j)) → l ≡ VirtualLane v (m + k)
    go true g h ih = let s = number 0 k h in let w : m ≡ m + k = omega arith in sym (same-is (VirtualLane v m) l g) ∙ (λ i. VirtualLane v (w i))
    go false g h ih = later (place (lanes_by v (numbers (suc m) n)) l) refl h ih

numbered-below : (v m n : ℕ) (l : Lane) (k : ℕ) → place (lanes_by v (numbers m n)) l ≡ Some k → k < n
numbered-below v m zero l k e = absurd (cc)
numbered-below v m (suc n) l k e = go (same_lane (VirtualLane v m) l) e (λ j g. numbered-below v (suc m) n l j g)
  where
    number : (a b : ℕ) → Some a ≡ Some b → a ≡ b
    number a b e = cc

    later : (q : Option ℕ) → place (lanes_by v (numbers (suc m) n)) l ≡ q → option_map suc q ≡ Some k → ((j : ℕ) → place (lanes_by v (numbers (suc m) n)) l ≡ Some j → j < n) → k < suc n
    later None g h ih = absurd (cc)
    later (Some j) g h ih = let s = number (suc j) k h in let w = ih j g in omega arith

    go : (y : Bool) → cond y (Some 0) (option_map suc (place (lanes_by v (numbers (suc m) n)) l)) ≡ Some k → ((j : ℕ) → place (lanes_by v (numbers (suc m) n)) l ≡ Some j → j < n) → k < suc n
    go true h ih = let s = number 0 k h in omega arith
    go false h ih = later (place (lanes_by v (numbers (suc m) n)) l) refl h ih

-- all lanes of a register are given those of another one
abbrev pub whole_copy : ℕ → ℕ → ℕ → Writes
whole_copy v c n = moved false (lanes_by v (numbers 0 n)) (map FromLane (lanes_by c (numbers 0 n)))

-- what is built in c and copied to v is given to v, where it is built as it is given at once
pub elsewhere :
    (low v c n : ℕ) (ws : Writes) (wss : List Writes) → ((k : ℕ) → k < n → traced wss (FromLane (VirtualLane c k)) ≡ settled (filled ws (VirtualLane v k))) → ((l : Lane) → is_old low l ≡ true → traced wss (FromLane l) ≡ FromLane l) →
    ((l : Lane) → is_old low l ≡ true → place (lanes_by v (numbers 0 n)) l ≡ None → settled (filled ws l) ≡ FromLane l) → GivesAlike low ws (wss ++ (whole_copy v c n ∷ []))
elsewhere low v c n ws wss each leaves others l o = traced-append wss (whole_copy v c n ∷ []) (FromLane l) ∙ go (place (lanes_by v (numbers 0 n)) l) refl
  where
    go : (q : Option ℕ) → place (lanes_by v (numbers 0 n)) l ≡ q → traced wss (settled (filled (whole_copy v c n) l)) ≡ settled (filled ws l)
    go None e =
        ap (λ x. traced wss (settled x)) (filled-free (whole_copy v c n) l (moved-missed false (lanes_by v (numbers 0 n)) (map FromLane (lanes_by c (numbers 0 n))) l e))
        ∙ (leaves l o ∙ sym (others l o e))
    go (Some k) e =
        let below = numbered-below v 0 n l k e in
        let zero' : 0 + k ≡ k = omega arith in
        ap (λ x. traced wss (settled x)) (copied-found (lanes_by v (numbers 0 n)) c 0 n l k e below)
        ∙ ((λ i. traced wss (FromLane (VirtualLane c (zero' i))))
        ∙ (each k below ∙ (λ i. settled (filled ws (sym (numbered-is v 0 n l k e ∙ (λ j. VirtualLane v (zero' j))) i)))))

-- lanes that are given something may be made Undef before
pub undef-before : (low : ℕ) (ls : List Lane) (ws : Writes) (wss : List Writes) → GivesAlike low ws wss → ((l : Lane) → is_written ws l ≡ true → Leaves ls (settled (filled ws l))) → ((l : Lane) → is_written ws l ≡ false → place ls l ≡ None) → GivesAlike low ws (undefined false ls ∷ wss)
undef-before low ls ws wss same leaves covers l o = ap (λ s. settled (through (undefined false ls) s)) (same l o) ∙ go (is_written ws l) refl
  where
    go : (y : Bool) → is_written ws l ≡ y → settled (through (undefined false ls) (settled (filled ws l))) ≡ settled (filled ws l)
    go true w = leaves l w
    go false w = ap (λ x. settled (through (undefined false ls) (settled x))) (filled-free ws l w) ∙ (ap settled (filled-free (undefined false ls) l (undefined-missed false ls l (covers l w))) ∙ ap settled (sym (filled-free ws l w)))

-- lanes of two registers are given the same by copies of the same
pub renamed-moves : (v c : ℕ) (ks : List ℕ) (ss : List Source) (X Y : Writes) (k : ℕ) → filled X (VirtualLane c k) ≡ filled Y (VirtualLane v k) → filled (moved false (lanes_by c ks) ss ++ X) (VirtualLane c k) ≡ filled (moved false (lanes_by v ks) ss ++ Y) (VirtualLane v k)
renamed-moves v c [] ss X Y k e = e
renamed-moves v c (j ∷ ks) [] X Y k e = e
renamed-moves v c (j ∷ ks) (s ∷ ss) X Y k e = λ i. cond ((own-lane c j k ∙ sym (own-lane v j k)) i) (Moved s) (renamed-moves v c ks ss X Y k e i)
  where
    own-lane : (w j k : ℕ) → same_lane (VirtualLane w j) (VirtualLane w k) ≡ nat_eq j k
    own-lane w j k = ap (λ b. b && nat_eq j k) (eq-eqb w w refl)

pub renamed-undefined : (v c : ℕ) (ks : List ℕ) (X Y : Writes) (k : ℕ) → filled X (VirtualLane c k) ≡ filled Y (VirtualLane v k) → filled (undefined false (lanes_by c ks) ++ X) (VirtualLane c k) ≡ filled (undefined false (lanes_by v ks) ++ Y) (VirtualLane v k)
renamed-undefined v c [] X Y k e = e
renamed-undefined v c (j ∷ ks) X Y k e = λ i. cond ((own-lane c j k ∙ sym (own-lane v j k)) i) (Moved Undef) (renamed-undefined v c ks X Y k e i)
  where
    own-lane : (w j k : ℕ) → same_lane (VirtualLane w j) (VirtualLane w k) ≡ nat_eq j k
    own-lane w j k = ap (λ b. b && nat_eq j k) (eq-eqb w w refl)

-- what covers all lanes of a register gives both the same

numbers-one : (m n k : ℕ) → k < n → is_one (numbers m n) (m + k) ≡ true
numbers-one m zero k h = absurd (omega arith)
numbers-one m (suc n) zero h = λ i. eq-eqb m (m + 0) (omega arith) i || is_one (numbers (suc m) n) (m + 0)
numbers-one m (suc n) (suc k) h = either (nat_eq m (m + suc k)) (subst (λ z. is_one (numbers (suc m) n) z ≡ true) (next m k) (numbers-one (suc m) n k (omega arith)))
  where
    next : (m k : ℕ) → suc m + k ≡ m + suc k
    next m k = omega arith

    either : (y : Bool) → is_one (numbers (suc m) n) (m + suc k) ≡ true → (y || is_one (numbers (suc m) n) (m + suc k)) ≡ true
    either true e = refl
    either false e = e

pub among-first : (n k : ℕ) → k < n → is_one (numbers 0 n) k ≡ true
among-first n k h = subst (λ z. is_one (numbers 0 n) z ≡ true) (zero' k) (numbers-one 0 n k h)
  where
    zero' : (k : ℕ) → 0 + k ≡ k
    zero' k = omega arith

pub covered-moves : (v c : ℕ) (ss : List Source) (n k : ℕ) → length (numbers 0 n) ≤ length ss → k < n → filled (moved false (lanes_by c (numbers 0 n)) ss) (VirtualLane c k) ≡ filled (moved false (lanes_by v (numbers 0 n)) ss) (VirtualLane v k)
covered-moves v c ss n k long h =
    let z = given-alike v c (numbers 0 n) ss k long (among-first n k h) in
    ap (λ ws. filled ws (VirtualLane c k)) (sym (append-nil (moved false (lanes_by c (numbers 0 n)) ss)))
    ∙ (z.other [] ∙ (sym (z.one []) ∙ ap (λ ws. filled ws (VirtualLane v k)) (append-nil (moved false (lanes_by v (numbers 0 n)) ss))))

pub covered-undefined : (v c n k : ℕ) → k < n → filled (undefined false (lanes_by c (numbers 0 n))) (VirtualLane c k) ≡ filled (undefined false (lanes_by v (numbers 0 n))) (VirtualLane v k)
covered-undefined v c n k h =
    let one = among-first n k h in
    ap (λ ws. filled ws (VirtualLane c k)) (sym (append-nil (undefined false (lanes_by c (numbers 0 n)))))
    ∙ (undefined-own c (numbers 0 n) [] k one ∙ (sym (undefined-own v (numbers 0 n) [] k one) ∙ ap (λ ws. filled ws (VirtualLane v k)) (append-nil (undefined false (lanes_by v (numbers 0 n))))))
