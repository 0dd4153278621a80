-- The registers that lowering of ties needs have their classes behind those of the function.
use Rattle.std.proofs.Common.{◌≡◌, ◌∷◌, ◌++◌, ◌∙◌, ◌+◌, ◌≤◌, ℕ, List, Option, Some, None, length, refl, sym, ap, append-nil, append_assoc, add_assoc, arith, length-append, []}
use Rattle.std.specs.Prelude.{slice_get}
use Rattle.target_base.specs.declared.types.ClassId.{ClassId}
use Rattle.target_base.specs.declared.types.Target.{Target}
use Rattle.mir_func.specs.declared.func.Instr.{Instr}
use Rattle.mir_func.specs.Value.{Function}
use Rattle.mir_func.specs.Binding.{class_of}
use Rattle.phi_elim.specs.Phis.{all_instrs}
use Rattle.two_address.specs.Lowered.{classes_made, instr_classes, next_range}
use Rattle.lowering_laws.proofs.Replaced.{bound, h, made}

-- classes that stand in a list from a number on, which is none of the first ones
pub record Stands (all : List (Option ClassId)) (low c : ℕ) (xs : List (Option ClassId)) : Type 0 where
  pub front : List (Option ClassId)
  pub back : List (Option ClassId)
  pub are : all ≡ front ++ (xs ++ back)
  pub number : length front ≡ c
  pub above : low ≤ c

pub stands-left : (all : List (Option ClassId)) (low c : ℕ) (xs ys : List (Option ClassId)) → Stands all low c (xs ++ ys) → Stands all low c xs
stands-left all low c xs ys s = record { front = s.front; back = ys ++ s.back; are = s.are ∙ ap (λ z. s.front ++ z) (append_assoc xs ys s.back); number = s.number; above = s.above }

pub stands-right : (all : List (Option ClassId)) (low c : ℕ) (xs ys : List (Option ClassId)) → Stands all low c (xs ++ ys) → Stands all low (c + length xs) ys
stands-right all low c xs ys s = record {
  front = s.front ++ xs;
  back = s.back;
  are = s.are ∙ (ap (λ z. s.front ++ z) (append_assoc xs ys s.back) ∙ sym (append_assoc s.front xs (ys ++ s.back)));
  number = length-append s.front xs ∙ ap (λ n. n + length xs) s.number;
  above = let k = s.above in omega arith;
}

there-at : (front : List (Option ClassId)) (x : Option ClassId) (xs : List (Option ClassId)) → slice_get (front ++ x ∷ xs) (length front) ≡ Some x
there-at [] x xs = refl
there-at (y ∷ front) x xs = there-at front x xs

-- the class of the first of them
pub stands-class : (f : Function) (low c : ℕ) (x : Option ClassId) (xs : List (Option ClassId)) → Stands f.classes low c (x ∷ xs) → class_of f c ≡ x
stands-class f low c x xs s = ap (λ q. elim q as (λ q. Option ClassId) [ None ↦ None | Some k ↦ k ]) ((λ k. slice_get (s.are k) (sym s.number k)) ∙ there-at s.front x (xs ++ s.back))

module _ (t : Target) (cs : List (Option ClassId)) where
  -- the classes that instructions need, and those behind them
  pub made-append : (c : ℕ) (is js : List Instr) → classes_made t cs c (is ++ js) ≡ classes_made t cs c is ++ classes_made t cs (c + length (classes_made t cs c is)) js
  made-append c [] js = ap (λ n. classes_made t cs n js) (omega arith)
  made-append c (i ∷ is) js =
      let xs = instr_classes t cs c i in
      let d = next_range t cs c i in
      ap (λ ys. xs ++ ys) (made-append d is js)
      ∙ (ap (λ n. xs ++ (classes_made t cs d is ++ classes_made t cs n js)) (add_assoc c (length xs) (length (classes_made t cs d is)) ∙ ap (λ n. c + n) (sym (length-append xs (classes_made t cs d is))))
      ∙ sym (append_assoc xs (classes_made t cs d is) (classes_made t cs (c + length (xs ++ classes_made t cs d is)) js)))

module _ (t : Target) (f : Function) where
  -- all that are needed
  pub all-stand : Stands (h t f).classes (bound t f) (bound t f) (classes_made t f.classes (bound t f) (all_instrs f.blocks))
  all-stand = record { front = f.classes; back = []; are = ap (λ xs. f.classes ++ xs) (sym (append-nil (made t f))); number = refl; above = omega arith }
