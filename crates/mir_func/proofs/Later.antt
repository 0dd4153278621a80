-- A deletion may come after edits that don't name its instruction.
use Rattle.std.proofs.Common.{◌≡◌, ℕ, ◌+◌, Bool, true, false, cond, zero, suc, List, [], ◌∷◌, ◌++◌, length, map, Option, Some, None, refl, ap, sym, ◌∙◌, one-add, eqb-true, ne_eqb}
use Rattle.std.specs.Prelude.{◌==◌, ◌≢◌}
use Rattle.std.specs.List.{insert, remove}
use Rattle.std.proofs.lemmas.List.Edits.{insert_end}
use Rattle.target_base.specs.declared.types.OpId.{OpId}
use Rattle.mir_func.specs.declared.func.Block.{Block}
use Rattle.mir_func.specs.declared.func.Gap.{Gap}
use Rattle.mir_func.specs.declared.func.Instr.{Instr}
use Rattle.mir_func.specs.declared.func.Op.{Op}
use Rattle.mir_func.specs.declared.func.Operand.{Operand}
use Rattle.mir_func.specs.Value.{Function}
use Rattle.mir_func.specs.Edits.{made, block_place, instr_place, update, put, inserted, cut, deleted, changed_in}
use Rattle.mir_func.specs.At.{with_operation}
use Rattle.mir_func.proofs.ByPlace.{place_behind}

-- the edits of a list by recursion
abbrev without : ℕ → List Instr → List Instr
without id [] = []
without id (i ∷ is) = cond (i.id == id) is (i ∷ without id is)

abbrev changed : (Instr → Instr) → ℕ → List Instr → List Instr
changed g id [] = []
changed g id (i ∷ is) = cond (i.id == id) (g i ∷ is) (i ∷ changed g id is)

abbrev put_before : ℕ → Instr → List Instr → List Instr
put_before id x [] = x ∷ []
put_before id x (i ∷ is) = cond (i.id == id) (x ∷ i ∷ is) (i ∷ put_before id x is)

without_is : (id : ℕ) (is : List Instr) → remove is (instr_place id is) ≡ without id is
without_is id [] = refl
without_is id (i ∷ is) = by (i.id == id) (without_is id is)
  where
    by : (t : Bool) → remove is (instr_place id is) ≡ without id is → remove (i ∷ is) (place_behind (instr_place id is) t) ≡ cond t is (i ∷ without id is)
    by true rest = refl
    by false rest = ap (λ k. remove (i ∷ is) k) (one-add (instr_place id is)) ∙ ap (λ xs. i ∷ xs) rest

changed_is : (g : Instr → Instr) (id : ℕ) (is : List Instr) → update (instr_place id is) g is ≡ changed g id is
changed_is g id [] = refl
changed_is g id (i ∷ is) = by (i.id == id) (changed_is g id is)
  where
    by : (t : Bool) → update (instr_place id is) g is ≡ changed g id is → update (place_behind (instr_place id is) t) g (i ∷ is) ≡ cond t (g i ∷ is) (i ∷ changed g id is)
    by true rest = refl
    by false rest = ap (λ k. update k g (i ∷ is)) (one-add (instr_place id is)) ∙ ap (λ xs. i ∷ xs) rest

put_before_is : (id : ℕ) (x : Instr) (is : List Instr) → insert is (instr_place id is) x ≡ put_before id x is
put_before_is id x [] = refl
put_before_is id x (i ∷ is) = by (i.id == id) (put_before_is id x is)
  where
    by : (t : Bool) → insert is (instr_place id is) x ≡ put_before id x is → insert (i ∷ is) (place_behind (instr_place id is) t) x ≡ cond t (x ∷ i ∷ is) (i ∷ put_before id x is)
    by true rest = refl
    by false rest = ap (λ k. insert (i ∷ is) k x) (one-add (instr_place id is)) ∙ ap (λ xs. i ∷ xs) rest

-- two deletions
without_twice : (a b : ℕ) (is : List Instr) → without a (without b is) ≡ without b (without a is)
without_twice a b [] = refl
without_twice a b (i ∷ is) = by (i.id == a) refl (i.id == b) refl (without_twice a b is)
  where
    by : (s : Bool) → (i.id == a) ≡ s → (t : Bool) → (i.id == b) ≡ t → without a (without b is) ≡ without b (without a is) → without a (cond (i.id == b) is (i ∷ without b is)) ≡ without b (cond (i.id == a) is (i ∷ without a is))
    by true p true q rest = rw (p, q) (ap (λ k. without k is) (sym (eqb-true i.id a p) ∙ eqb-true i.id b q))
    by true p false q rest = rw (p, q, p) refl
    by false p true q rest = rw (p, q) refl
    by false p false q rest = rw (p, q, p) (ap (λ xs. i ∷ xs) rest)

-- a deletion and a change of another instruction that leaves ids
without_changed : (g : Instr → Instr) → ((i : Instr) → (g i).id ≡ i.id) → (a b : ℕ) → a ≢ b → (is : List Instr) → without a (changed g b is) ≡ changed g b (without a is)
without_changed g keeps a b apart [] = refl
without_changed g keeps a b apart (i ∷ is) = by (i.id == a) refl (i.id == b) refl (without_changed g keeps a b apart is)
  where
    own : ((g i).id == a) ≡ (i.id == a)
    own = ap (λ n. n == a) (keeps i)

    by : (s : Bool) → (i.id == a) ≡ s → (t : Bool) → (i.id == b) ≡ t → without a (changed g b is) ≡ changed g b (without a is) → without a (cond (i.id == b) (g i ∷ is) (i ∷ changed g b is)) ≡ changed g b (cond (i.id == a) is (i ∷ without a is))
    by true p true q rest = absurd (apart (sym (eqb-true i.id a p) ∙ eqb-true i.id b q))
    by true p false q rest = rw (p, q, p) refl
    by false p true q rest = rw (p, q, own, p) refl
    by false p false q rest = rw (p, q, p) (ap (λ xs. i ∷ xs) rest)

-- a deletion and a new instruction, not before that which is deleted
without_put : (x : Instr) (a b : ℕ) → (x.id == a) ≡ false → a ≢ b → (is : List Instr) → without a (put_before b x is) ≡ put_before b x (without a is)
without_put x a b other apart [] = rw other refl
without_put x a b other apart (i ∷ is) = by (i.id == a) refl (i.id == b) refl (without_put x a b other apart is)
  where
    by : (s : Bool) → (i.id == a) ≡ s → (t : Bool) → (i.id == b) ≡ t → without a (put_before b x is) ≡ put_before b x (without a is) → without a (cond (i.id == b) (x ∷ i ∷ is) (i ∷ put_before b x is)) ≡ put_before b x (cond (i.id == a) is (i ∷ without a is))
    by true p true q rest = absurd (apart (sym (eqb-true i.id a p) ∙ eqb-true i.id b q))
    by true p false q rest = rw (p, q, p) refl
    by false p true q rest = rw (p, q, other, p) refl
    by false p false q rest = rw (p, q, p) (ap (λ xs. i ∷ xs) rest)

without_last : (x : Instr) (a : ℕ) → (x.id == a) ≡ false → (is : List Instr) → without a (is ++ x ∷ []) ≡ without a is ++ x ∷ []
without_last x a other [] = rw other refl
without_last x a other (i ∷ is) = by (i.id == a) (without_last x a other is)
  where
    by : (s : Bool) → without a (is ++ x ∷ []) ≡ without a is ++ x ∷ [] → cond s (is ++ x ∷ []) (i ∷ without a (is ++ x ∷ [])) ≡ cond s is (i ∷ without a is) ++ x ∷ []
    by true rest = refl
    by false rest = ap (λ xs. i ∷ xs) rest

-- the same of blocks
cut_cut : (a b : ℕ) (x : Block) → cut a (cut b x) ≡ cut b (cut a x)
cut_cut a b x =
    let is = x.instrs in
    ap (λ xs. record x { instrs = xs })
    (without_is a (remove is (instr_place b is)) ∙ ap (without a) (without_is b is)
    ∙ without_twice a b is
    ∙ sym (without_is b (remove is (instr_place a is)) ∙ ap (without b) (without_is a is)))

cut_changed : (g : Instr → Instr) → ((i : Instr) → (g i).id ≡ i.id) → (a b : ℕ) → a ≢ b → (x : Block) → cut a (changed_in b g x) ≡ changed_in b g (cut a x)
cut_changed g keeps a b apart x =
    let is = x.instrs in
    ap (λ xs. record x { instrs = xs })
    (without_is a (update (instr_place b is) g is) ∙ ap (without a) (changed_is g b is)
    ∙ without_changed g keeps a b apart is
    ∙ sym (changed_is g b (remove is (instr_place a is)) ∙ ap (changed g b) (without_is a is)))

cut_put : (o : Option ℕ) (y : Instr) (a : ℕ) → (y.id == a) ≡ false → (Some a) ≢ o → (x : Block) → cut a (put o y x) ≡ put o y (cut a x)
cut_put None y a other apart x =
    let is = x.instrs in
    let left = remove is (instr_place a is) in
    ap (λ xs. record x { instrs = xs })
    (without_is a (insert is (length is) y) ∙ ap (without a) (insert_end is y)
    ∙ without_last y a other is
    ∙ sym (insert_end left y ∙ ap (λ xs. xs ++ y ∷ []) (without_is a is)))
cut_put (Some b) y a other apart x =
    let is = x.instrs in
    ap (λ xs. record x { instrs = xs })
    (without_is a (insert is (instr_place b is) y) ∙ ap (without a) (put_before_is b y is)
    ∙ without_put y a b other (λ e. apart (ap Some e)) is
    ∙ sym (put_before_is b y (remove is (instr_place a is)) ∙ ap (put_before b y) (without_is a is)))

-- and of functions
map_alike : {X : Type 0} (f g h k : X → X) → ((x : X) → f (g x) ≡ h (k x)) → (xs : List X) → map f (map g xs) ≡ map h (map k xs)
map_alike f g h k alike [] = refl
map_alike f g h k alike (x ∷ xs) = ap (λ y. y ∷ map f (map g xs)) (alike x) ∙ ap (λ ys. h (k x) ∷ ys) (map_alike f g h k alike xs)

map_update : {X : Type 0} (f g : X → X) → ((x : X) → f (g x) ≡ g (f x)) → (xs : List X) (i : ℕ) → map f (update i g xs) ≡ update i g (map f xs)
map_update f g alike [] i = refl
map_update f g alike (x ∷ xs) zero = ap (λ y. y ∷ map f xs) (alike x)
map_update f g alike (x ∷ xs) (suc i) = ap (λ ys. f x ∷ ys) (map_update f g alike xs i)

block_stays : (a n : ℕ) (bs : List Block) → block_place n (map (cut a) bs) ≡ block_place n bs
block_stays a n [] = refl
block_stays a n (b ∷ bs) = ap (λ k. place_behind k (b.number == n)) (block_stays a n bs)

pub deleted-twice : (f : Function) (a b : ℕ) → deleted (deleted f b) a ≡ deleted (deleted f a) b
deleted-twice f a b = ap (λ bs. record f { blocks = bs }) (map_alike (cut a) (cut b) (cut b) (cut a) (cut_cut a b) f.blocks)

pub deleted-changed : (f : Function) (a b : ℕ) (op : Op) (operands : List Operand) → a ≢ b → deleted (record f { blocks = map (changed_in b (with_operation op operands)) f.blocks }) a ≡ record f { blocks = map (changed_in b (with_operation op operands)) (map (cut a) f.blocks) }
deleted-changed f a b op operands apart =
    let g = with_operation op operands in
    ap (λ bs. record f { blocks = bs }) (map_alike (cut a) (changed_in b g) (changed_in b g) (cut a) (cut_changed g (λ i. refl) a b apart) f.blocks)

pub deleted-put : (f : Function) (a : ℕ) (gap : Gap) (op : OpId) (operands : List Operand) → a ≢ f.next_id → (Some a) ≢ gap.before → deleted (inserted f gap op operands) a ≡ inserted (deleted f a) gap op operands
deleted-put f a gap op operands new apart =
    let y = made f.next_id op operands in
    let change = put gap.before y in
    let other = ne_eqb f.next_id a (λ e. new (sym e)) in
    ap (λ bs. record f { blocks = bs; next_id = f.next_id + 1 })
    (map_update (cut a) change (λ x. cut_put gap.before y a other apart x) f.blocks (block_place gap.block f.blocks)
    ∙ ap (λ n. update n change (map (cut a) f.blocks)) (sym (block_stays a gap.block f.blocks)))
