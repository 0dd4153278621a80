-- A function has at most one first fault, and none where it is valid.
use Rattle.std.proofs.Common.{arith, ◌≡◌, ◌∷◌, ◌∙◌, ◌<◌, ℕ, zero, suc, List, Option, Some, None, refl, sym, ap, subst, take, length, []}
use Rattle.std.specs.Prelude.{slice_get, unwrap_or}
use Rattle.target_base.specs.declared.types.Target.{Target}
use Rattle.mir_func.specs.Value.{Function}
use Rattle.mir_func.specs.declared.func.Block.{Block}
use Rattle.mir_meaning.specs.declared.Form.{Form}
use Rattle.mir_meaning.specs.Valid.{Fault, FirstFault, IsValid, LawOfFaults, LiveFault, V13, V13_before, fault_at, first, later, of_liveness, of_shape, shape_fault, start}

pub same_some : {A : Type 0} {x y : A} → Some x ≡ Some y → x ≡ y
same_some {A} {x} e = ap (λ o. unwrap_or o x) e

pub not_both : {A : Type 0} (o : Option A) (x : A) → o ≡ None → o ≡ Some x → ⊥
not_both o x e g =
    let h : None ≡ Some x = sym e ∙ g in
    absurd (cc)

-- an element stands among the first n where its place is below n
within_first : {A : Type 0} (xs : List A) (j n : ℕ) (x : A) → j < n → slice_get xs j ≡ Some x → slice_get (take n xs) j ≡ Some x
within_first [] j n x h e = absurd (cc)
within_first (y ∷ ys) zero zero x h e = absurd (omega arith)
within_first (y ∷ ys) zero (suc n) x h e = e
within_first (y ∷ ys) (suc j) zero x h e = absurd (omega arith)
within_first (y ∷ ys) (suc j) (suc n) x h e = within_first ys j n x (omega arith) e

below_length : {A : Type 0} (xs : List A) (j : ℕ) (x : A) → slice_get xs j ≡ Some x → j < length xs
below_length [] j x e = absurd (cc)
below_length (y ∷ ys) zero x e = omega arith
below_length (y ∷ ys) (suc j) x e = let h = below_length ys j x e in omega arith

pub data Ordered (k l : ℕ) : Type 0 where
  less : k < l → Ordered k l
  same : k ≡ l → Ordered k l
  more : l < k → Ordered k l

pub ordered : (k l : ℕ) → Ordered k l
ordered zero zero = same refl
ordered zero (suc l) = less (omega arith)
ordered (suc k) zero = more (omega arith)
ordered (suc k) (suc l) = up (ordered k l)
  where
    up : Ordered k l → Ordered (suc k) (suc l)
    up (less h) = less (omega arith)
    up (same h) = same (ap suc h)
    up (more h) = more (omega arith)

module _ (t : Target) (form : Form) (f : Function) where
  same_block : (k : ℕ) (b c : Block) → slice_get f.blocks k ≡ Some b → slice_get f.blocks k ≡ Some c → b ≡ c
  same_block k b c e g = same_some (sym e ∙ g)

  holds_before : (k n : ℕ) (b : Block) → V13_before t form f n → k < n → slice_get f.blocks k ≡ Some b → V13 t form f k b
  holds_before k n b h l e = h k b (within_first f.blocks k n b l e)

  -- V13 at a block with a number is V13 at each block of that place
  moved : (k : ℕ) (b c : Block) → slice_get f.blocks k ≡ Some b → slice_get f.blocks k ≡ Some c → V13 t form f k b → V13 t form f k c
  moved k b c e g h = subst (V13 t form f k) (same_block k b c e g) h

  same_live : (x y : Fault) → LiveFault t form f x → LiveFault t form f y → x ≡ y
  same_live x y (first b e n) (first c g m) = ap (λ d. fault_at d 0 13) (same_block 0 b c e g)
  same_live x y (first b e n) (start c g h m) = absurd (n (moved 0 c b g e h))
  same_live x y (first b e n) (later k c g h v m) = absurd (n (holds_before 0 (suc k) b h (omega arith) e))
  same_live x y (start b e h n) (first c g m) = absurd (m (moved 0 b c e g h))
  same_live x y (start b e h n) (start c g h' m) = ap (λ d. fault_at d 0 14) (same_block 0 b c e g)
  same_live x y (start b e h n) (later k c g h' v m) = absurd (n v)
  same_live x y (later k b e h v n) (first c g m) = absurd (m (holds_before 0 (suc k) c h (omega arith) g))
  same_live x y (later k b e h v n) (start c g h' m) = absurd (m v)
  same_live x y (later k b e h v n) (later l c g h' v' m) = go (ordered k l)
    where
      go : Ordered k l → fault_at b 0 13 ≡ fault_at c 0 13
      go (less o) = absurd (n (holds_before (suc k) (suc l) b h' (omega arith) e))
      go (same o) = ap (λ d. fault_at d 0 13) (same_some (sym (ap (λ j. slice_get f.blocks (suc j)) (sym o) ∙ e) ∙ g))
      go (more o) = absurd (m (holds_before (suc l) (suc k) c h (omega arith) g))

  live_fails : (x : Fault) → LiveFault t form f x → IsValid t form f → ⊥
  live_fails x (first b e n) v = n (holds_before 0 (length f.blocks) b v.liveins (below_length f.blocks 0 b e) e)
  live_fails x (start b e h n) v = n v.starts
  live_fails x (later k b e h w n) v = n (holds_before (suc k) (length f.blocks) b v.liveins (below_length f.blocks (suc k) b e) e)

  same_fault : (x y : Fault) → FirstFault t form f x → FirstFault t form f y → x ≡ y
  same_fault x y (of_shape e) (of_shape g) = same_some (sym e ∙ g)
  same_fault x y (of_shape e) (of_liveness g l) = absurd (not_both (shape_fault t form f) x g e)
  same_fault x y (of_liveness e l) (of_shape g) = absurd (not_both (shape_fault t form f) y e g)
  same_fault x y (of_liveness e l) (of_liveness g m) = same_live x y l m

  not_valid : (x : Fault) → FirstFault t form f x → IsValid t form f → ⊥
  not_valid x (of_shape e) v = not_both (shape_fault t form f) x v.shape e
  not_valid x (of_liveness e l) v = live_fails x l v

pub law_of_faults : LawOfFaults
law_of_faults t form f x y h = (not_valid t form f x h, same_fault t form f x y h)
