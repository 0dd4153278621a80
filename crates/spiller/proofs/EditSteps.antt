-- Edits of a block, one after the other. What is erased still stands in the one function, and doesn't in the other.
use Rattle.std.proofs.Common.{◌≡◌, ◌∷◌, ◌++◌, ◌∙◌, ◌+◌, ◌≤◌, ◌<◌, ℕ, Bool, true, false, cond, List, [], Some, refl, sym, ap, subst, length, arith, eq-eqb, eqb-true, append_assoc, append-nil, length-append}
use Rattle.std.specs.Prelude.{nat_eq, nat_lt, slice_get}
use Rattle.std.specs.Option.{option_map_or}
use Rattle.std.specs.List.{insert}
use Rattle.std.proofs.lemmas.Bool.{ltb-true, ltb-false}
use Rattle.std.proofs.lemmas.Option.{same_Some}
use Rattle.std.proofs.lemmas.List.Sums.{sum_by-append}
use Rattle.target_base.specs.declared.types.OpId.{OpId}
use Rattle.mir_func.specs.declared.func.Block.{Block}
use Rattle.mir_func.specs.declared.func.Instr.{Instr}
use Rattle.mir_func.specs.declared.func.Op.TheVariants as ops
use Rattle.mir_func.specs.declared.func.Operand.{Operand}
use Rattle.mir_func.specs.Value.{Function, IsFunction, id_count, id_total}
use Rattle.mir_func.specs.At.{changed_at, cut_at, instr_at, instrs_at, with_operation}
use Rattle.mir_func.specs.Edits.{block_place, gap_place, deleted, inserted, made, put, update}
use Rattle.mir_func.proofs.ByPlace.{removed_is_deleted, replaced_is_changed}
use Rattle.mir_meaning.specs.Paths.{has}
use Rattle.mir_meaning.specs.Registers.{has_number}
use Rattle.mir_meaning.specs.Rules.{block_numbers}
use Rattle.live_lanes.specs.Ordered.{ids_of}
use Rattle.edit_laws.specs.Edits.{replaced, with_op}
use Rattle.edit_laws.proofs.ErasedLast.{total-step}
use Rattle.live_edits.specs.Drafts.{HasGap}
use Rattle.live_edits.proofs.JoiningEdits.{count-append, count-step}
use Rattle.live_edits.proofs.RunPlaces.{replaced-function}
use Rattle.spiller.specs.WholePlan.{first_id, gap_at}
use Rattle.spiller.proofs.ListSeats.{block-seat, get-seat, has-seat, insert-seat, instr-seat, remove-seat, update-seat}

-- a function in which a block is edited: some of its instructions stand, and these are left
abbrev pub at : Function → List Block → Block → List Instr → List Instr → List Block → ℕ → Function
at g pre b done left post n = record g { blocks = pre ++ (record b { instrs = done ++ left }) ∷ post; next_id = n }

abbrev pub Single : Function → Type 0
Single f = IsFunction f.blocks f.next_id

-- how often an id stands

abbrev pub one_if : Bool → ℕ
one_if u = cond u 1 0

total-at : (x : ℕ) (pre : List Block) (b : Block) (js : List Instr) (post : List Block) → id_total x (pre ++ (record b { instrs = js }) ∷ post) ≡ id_total x pre + (id_count x js + id_total x post)
total-at x pre b js post = omega (arith, sum_by-append (λ (c : Block). id_count x c.instrs) pre ((record b { instrs = js }) ∷ post), total-step x (record b { instrs = js }) post)

count-more : (x : ℕ) (done : List Instr) (i : Instr) (left : List Instr) → id_count x ((done ++ i ∷ []) ++ left) ≡ one_if (nat_eq i.id x) + id_count x (done ++ left)
count-more x done i left =
    omega (arith, count-append x (done ++ i ∷ []) left, count-append x done (i ∷ []), count-append x done left, count-step x i [])

count-between : (x : ℕ) (done : List Instr) (i : Instr) (left : List Instr) → id_count x (done ++ i ∷ left) ≡ one_if (nat_eq i.id x) + id_count x (done ++ left)
count-between x done i left = omega (arith, count-append x done (i ∷ left), count-append x done left, count-step x i left)

once-more : (x n k : ℕ) → k ≤ one_if (nat_lt x n) → one_if (nat_eq n x) + k ≤ one_if (nat_lt x (n + 1))
once-more x n k few = go (nat_eq n x) (nat_lt x n) (nat_lt x (n + 1)) refl refl refl few
  where
    go : (u v w : Bool) → nat_eq n x ≡ u → nat_lt x n ≡ v → nat_lt x (n + 1) ≡ w → k ≤ one_if v → one_if u + k ≤ one_if w
    go true true w a b c d = absurd (let z : n ≡ x = eqb-true n x a in let y : x < n = ltb-true x n b in omega arith)
    go true false true a b c d = omega (arith, d)
    go true false false a b c d = absurd (let z : n ≡ x = eqb-true n x a in let y : n + 1 ≤ x = ltb-false x (n + 1) c in omega arith)
    go false true true a b c d = omega (arith, d)
    go false true false a b c d = absurd (let y : n + 1 ≤ x = ltb-false x (n + 1) c in let z : x < n = ltb-true x n b in omega arith)
    go false false w a b c d = omega (arith, d)

blocks-there : (pre post : List Block) (b c : Block) → 0 < length (pre ++ c ∷ post)
blocks-there pre post b c = omega (arith, length-append pre (c ∷ post))

-- an instruction that stands has an id below the next, and no other has it
pub record IsAlone (x n : ℕ) (left : List Instr) (post : List Block) : Type 0 where
  pub below : x < n
  pub none : id_count x left + id_total x post ≡ 0

pub alone : (pre : List Block) (b : Block) (done : List Instr) (i : Instr) (left : List Instr) (post : List Block) (n : ℕ) → IsFunction (pre ++ (record b { instrs = done ++ i ∷ left }) ∷ post) n → IsAlone i.id n left post
alone pre b done i left post n is = go (nat_lt i.id n) refl (is.once i.id)
  where
    total : id_total i.id (pre ++ (record b { instrs = done ++ i ∷ left }) ∷ post) ≡ id_total i.id pre + ((1 + (id_count i.id done + id_count i.id left)) + id_total i.id post)
    total =
        omega (arith, total-at i.id pre b (done ++ i ∷ left) post, count-between i.id done i left, count-append i.id done left, ap one_if (eq-eqb i.id i.id refl))

    go : (u : Bool) → nat_lt i.id n ≡ u → id_total i.id (pre ++ (record b { instrs = done ++ i ∷ left }) ∷ post) ≤ one_if u → IsAlone i.id n left post
    go true e h = record { below = ltb-true i.id n e; none = omega (arith, h, total) }
    go false e h = absurd (omega (arith, h, total))

module _ (g : Function) (pre : List Block) (b : Block) (post : List Block) where
  abbrev f_at : List Instr → List Instr → ℕ → Function
  f_at done left n = at g pre b done left post n

  pub passed-there : (done : List Instr) (i : Instr) (left : List Instr) (n : ℕ) → f_at done (i ∷ left) n ≡ f_at (done ++ i ∷ []) left n
  passed-there done i left n = ap (λ js. record g { blocks = pre ++ (record b { instrs = js }) ∷ post; next_id = n }) (sym (append_assoc done (i ∷ []) left))

  pub put-function : (done left : List Instr) (n : ℕ) (op : OpId) (os : List Operand) → Single (f_at done left n) → Single (f_at (done ++ made n op os ∷ []) left (n + 1))
  put-function done left n op os is = record {
    nonempty = blocks-there pre post b (record b { instrs = (done ++ made n op os ∷ []) ++ left });
    once = λ x. omega (arith, total-at x pre b ((done ++ made n op os ∷ []) ++ left) post, total-at x pre b (done ++ left) post, count-more x done (made n op os) left, once-more x n (id_total x (pre ++ (record b { instrs = done ++ left }) ∷ post)) (is.once x));
  }

  pub cut-function : (done : List Instr) (i : Instr) (left : List Instr) (n : ℕ) → Single (f_at done (i ∷ left) n) → Single (f_at done left n)
  cut-function done i left n is = record {
    nonempty = blocks-there pre post b (record b { instrs = done ++ left });
    once = λ x. omega (arith, total-at x pre b (done ++ i ∷ left) post, total-at x pre b (done ++ left) post, count-between x done i left, is.once x);
  }

  module _ (new : has_number (block_numbers pre) b.number ≡ false) where
    gap-is : (done left : List Instr) (n : ℕ) → Single (f_at done left n) → gap_place (first_id left) (done ++ left) ≡ length done
    gap-is done [] n is = ap length (append-nil done)
    gap-is done (i ∷ left) n is = instr-seat pre (record b { instrs = done ++ i ∷ left }) post n done i left refl is

    pub put-there : (done left : List Instr) (n : ℕ) (op : OpId) (os : List Operand) → Single (f_at done left n) → inserted (f_at done left n) (gap_at b left) op os ≡ f_at (done ++ made n op os ∷ []) left (n + 1)
    put-there done left n op os is =
        let x : Instr = made n op os in
        let own : Block = record b { instrs = done ++ left } in
        let blocks : update (block_place b.number (pre ++ own ∷ post)) (put (first_id left) x) (pre ++ own ∷ post) ≡ pre ++ (record b { instrs = (done ++ x ∷ []) ++ left }) ∷ post =
        ap (λ p. update p (put (first_id left) x) (pre ++ own ∷ post)) (block-seat pre own post new)
        ∙ (update-seat (put (first_id left) x) pre own post
        ∙ ap (λ js. pre ++ (record b { instrs = js }) ∷ post) (ap (λ p. insert (done ++ left) p x) (gap-is done left n is) ∙ (insert-seat done left x ∙ sym (append_assoc done (x ∷ []) left)))) in
        λ k. record g { blocks = blocks k; next_id = n + 1 }

    pub has-gap : (done left : List Instr) (n : ℕ) → HasGap (f_at done left n) (gap_at b left)
    has-gap done left n =
        let own : Block = record b { instrs = done ++ left } in
        record {
          block = subst (λ p. p < length (pre ++ own ∷ post)) (sym (block-seat pre own post new)) (omega (arith, length-append pre (own ∷ post)));
          before = λ id e. subst (λ p. has id (ids_of (instrs_at (pre ++ own ∷ post) p)) ≡ true) (sym (block-seat pre own post new))
              (subst (λ q. has id (ids_of (option_map_or (λ (c : Block). c.instrs) q [])) ≡ true) (sym (get-seat pre own post)) (found left id e));
        }
      where
        found : (left : List Instr) (id : ℕ) → first_id left ≡ Some id → has id (ids_of (done ++ left)) ≡ true
        found [] id e = absurd (cc)
        found (i ∷ left) id e = subst (λ x. has x (ids_of (done ++ i ∷ left)) ≡ true) (same_Some i.id id e) (has-seat done i left)

  stands-there : (done : List Instr) (i : Instr) (left : List Instr) → instr_at (pre ++ (record b { instrs = done ++ i ∷ left }) ∷ post) (length pre) (length done) ≡ Some i
  stands-there done i left =
      let own : Block = record b { instrs = done ++ i ∷ left } in
      ap (λ q. slice_get (option_map_or (λ (c : Block). c.instrs) q []) (length done)) (get-seat pre own post) ∙ get-seat done i left

  pub replaced-there : (done : List Instr) (i : Instr) (left : List Instr) (n : ℕ) (op : OpId) (os : List Operand) → Single (f_at done (i ∷ left) n) → replaced (f_at done (i ∷ left) n) i.id op os ≡ f_at (done ++ with_op op os i ∷ []) left n
  replaced-there done i left n op os is =
      let own : Block = record b { instrs = done ++ i ∷ left } in
      sym (replaced_is_changed (f_at done (i ∷ left) n) (length pre) (length done) i (ops.Known op) os is (stands-there done i left))
      ∙ ap (λ bs. record g { blocks = bs; next_id = n })
      (update-seat (changed_at (length done) (with_operation (ops.Known op) os)) pre own post
      ∙ ap (λ js. pre ++ (record b { instrs = js }) ∷ post) (update-seat (with_operation (ops.Known op) os) done i left ∙ sym (append_assoc done (with_op op os i ∷ []) left)))

  pub deleted-there : (done : List Instr) (i : Instr) (left : List Instr) (n : ℕ) → Single (f_at done (i ∷ left) n) → deleted (f_at done (i ∷ left) n) i.id ≡ f_at done left n
  deleted-there done i left n is =
      let own : Block = record b { instrs = done ++ i ∷ left } in
      sym (removed_is_deleted (f_at done (i ∷ left) n) (length pre) (length done) i is (stands-there done i left))
      ∙ ap (λ bs. record g { blocks = bs; next_id = n })
      (update-seat (cut_at (length done)) pre own post
      ∙ ap (λ js. pre ++ (record b { instrs = js }) ∷ post) (remove-seat done i left))

  pub replaced-single : (done : List Instr) (i : Instr) (left : List Instr) (n : ℕ) (op : OpId) (os : List Operand) → Single (f_at done (i ∷ left) n) → Single (f_at (done ++ with_op op os i ∷ []) left n)
  replaced-single done i left n op os is = subst Single (replaced-there done i left n op os is) (replaced-function (f_at done (i ∷ left) n) i.id op os is)
