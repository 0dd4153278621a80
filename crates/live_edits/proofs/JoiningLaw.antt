-- Where the instructions that name the range that goes are edited one after the other, a join is done.
use Rattle.std.proofs.Common.{◌≡◌, ◌∷◌, ◌++◌, ◌∙◌, ◌+◌, ◌≤◌, ℕ, Bool, true, false, cond, List, [], Option, Some, None, refl, sym, ap, map, ◌&&◌, append-nil, arith, eq-eqb, eqb-true}
use Rattle.std.specs.Prelude.{filter, flat_map, find, nat_eq}
use Rattle.std.specs.List.{list_all}
use Rattle.target_base.specs.declared.types.OpId.{OpId}
use Rattle.target_base.specs.declared.types.Target.{Target}
use Rattle.meaning.specs.Live.{Among, here, there}
use Rattle.mir_func.specs.declared.func.Block.{Block}
use Rattle.mir_func.specs.declared.func.Instr.{Instr}
use Rattle.mir_func.specs.declared.func.Op.{Op}
use Rattle.mir_func.specs.declared.func.Op.TheVariants as ops
use Rattle.mir_func.specs.declared.func.Operand.{Operand}
use Rattle.mir_func.specs.Value.{Function, IsFunction, id_count, id_total}
use Rattle.mir_meaning.specs.Renaming.{renamed_operand}
use Rattle.live_laws.specs.Touch.{are_known, is_known}
use Rattle.edit_laws.specs.Edits.{Edit, Erase, with_op, all_edited}
use Rattle.edit_laws.proofs.ErasedLast.{head-other, tail-none, total-step}
use Rattle.live_edits.specs.declared.fold.Join.{Join}
use Rattle.live_edits.specs.Folded.{joined_operand, joined_instr, becomes_identity, rename_edit, fold_edit, all_instrs, edit_at, fold_edits, AreNamed, FoldLaw}
use Rattle.live_edits.proofs.JoiningMembers.{filter-member, among-first, among-later}
use Rattle.live_edits.proofs.JoiningStays.{folded-blocks}
use Rattle.live_edits.proofs.JoiningEdits.{did, done, each, with_each, Changes, AllChange, AreSingle, flat-same, count-step, count-append, all-edited-each, single-of}

each-same : (m n : Instr → List Instr) (bs : List Block) → ((i : Instr) → Among i (flat_map (λ (b : Block). b.instrs) bs) → m i ≡ n i) → map (each m) bs ≡ map (each n) bs
each-same m n [] h = refl
each-same m n (b ∷ bs) h =
    λ k. (record b { instrs = flat-same m n b.instrs (λ i a. h i (among-first i b.instrs (flat_map (λ (c : Block). c.instrs) bs) a)) k })
    ∷ each-same m n bs (λ i a. h i (among-later i b.instrs (flat_map (λ (c : Block). c.instrs) bs) a)) k

-- ids are single among all instructions

count-all : (x : ℕ) (bs : List Block) → id_count x (flat_map (λ (b : Block). b.instrs) bs) ≡ id_total x bs
count-all x [] = refl
count-all x (b ∷ bs) = omega (arith, count-append x b.instrs (flat_map (λ (c : Block). c.instrs) bs), total-step x b bs, count-all x bs)

-- no id stands twice in the list
abbrev pub AreApart : List Instr → Type 0
AreApart is = (x : ℕ) → id_count x is ≤ 1

pub all-apart : (f : Function) → AreSingle f.blocks → AreApart (all_instrs f)
all-apart f single x = omega (arith, count-all x f.blocks, single x)

pub later-apart : (i : Instr) (is : List Instr) → AreApart (i ∷ is) → AreApart is
later-apart i is apart x = omega (arith, count-step x i is, apart x)

none-in : (x : ℕ) (is : List Instr) → id_count x is ≡ 0 → (i : Instr) → Among i is → nat_eq i.id x ≡ false
none-in x [] none i m = elim m [ ]
none-in x (j ∷ is) none i here = head-other x j is none
none-in x (j ∷ is) none i (there m) = none-in x is (tail-none x j is none) i m

own-once : (i : Instr) (is : List Instr) → AreApart (i ∷ is) → id_count i.id is ≡ 0
own-once i is apart =
    let step : id_count i.id (i ∷ is) ≡ 1 + id_count i.id is = count-step i.id i is ∙ ap (λ u. cond u 1 0 + id_count i.id is) (eq-eqb i.id i.id refl) in
    omega (arith, step, apart i.id)

-- the later ones have other ids than the first
pub others-apart : (i : Instr) (is : List Instr) → AreApart (i ∷ is) → (k : Instr) → Among k is → nat_eq k.id i.id ≡ false
others-apart i is apart k m = none-in i.id is (own-once i is apart) k m

pub same-other : (a b : ℕ) → nat_eq a b ≡ false → nat_eq b a ≡ false
same-other a b e = go (nat_eq b a) refl
  where
    go : (u : Bool) → nat_eq b a ≡ u → u ≡ false
    go true d = absurd (let z : true ≡ false = sym (eq-eqb a b (sym (eqb-true b a d))) ∙ e in cc)
    go false d = refl

-- known opcodes

opcode-of : (t : Target) (i : Instr) → is_known t i ≡ true → (op : OpId) × (i.op ≡ ops.Known op)
opcode-of t i k = go i.op refl
  where
    go : (o : Op) → i.op ≡ o → (op : OpId) × (i.op ≡ ops.Known op)
    go (ops.Known op) e = (op, e)
    go (ops.Excluded name) e = absurd (let z : true ≡ false = sym k ∙ ap (λ (o : Op). is_known t (record i { op = o })) e in cc)

both-true : (u v : Bool) → u && v ≡ true → (u ≡ true) × (v ≡ true)
both-true true v h = (refl, h)
both-true false v h = absurd (let z : false ≡ true = h in cc)

all-true : {X : Type 0} (test : X → Bool) (xs : List X) → list_all test xs ≡ true → (x : X) → Among x xs → test x ≡ true
all-true test [] h x m = elim m [ ]
all-true test (y ∷ ys) h x here = (both-true (test y) (list_all test ys) h).0
all-true test (y ∷ ys) h x (there m) = all-true test ys (both-true (test y) (list_all test ys) h).1 x m

append-true : {X : Type 0} (P : X → Type 0) (xs ys : List X) → ((x : X) → Among x xs → P x) → ((x : X) → Among x ys → P x) → (x : X) → Among x (xs ++ ys) → P x
append-true P [] ys p q x m = q x m
append-true P (z ∷ xs) ys p q x here = p z here
append-true P (z ∷ xs) ys p q x (there m) = append-true P xs ys (λ y a. p y (there a)) q x m

pub all-blocks-true : (test : Instr → Bool) (bs : List Block) → list_all (λ (b : Block). list_all test b.instrs) bs ≡ true → (i : Instr) → Among i (flat_map (λ (b : Block). b.instrs) bs) → test i ≡ true
all-blocks-true test [] h i m = elim m [ ]
all-blocks-true test (b ∷ bs) h i m =
    let both = both-true (list_all test b.instrs) (list_all (λ (c : Block). list_all test c.instrs) bs) h in
    append-true (λ (x : Instr). test x ≡ true) b.instrs (flat_map (λ (c : Block). c.instrs) bs) (all-true test b.instrs both.0) (all-blocks-true test bs both.1) i m

pub has-opcode : (t : Target) (f : Function) → are_known t f.blocks ≡ true → (i : Instr) → Among i (all_instrs f) → (op : OpId) × (i.op ≡ ops.Known op)
has-opcode t f known i m = opcode-of t i (all-blocks-true (is_known t) f.blocks known i m)

-- what the edit of an instruction makes of others and of itself

module _ (t : Target) (f : Function) (j : Join) where
  -- the instruction after the join, or nothing where it becomes an identity
  abbrev pub after : Instr → List Instr
  after i = cond (becomes_identity t f j i) [] (joined_instr t j i ∷ [])

  rename-changes : (id : ℕ) (op : Op) (os : List Operand) → Changes (rename_edit id op os)
  rename-changes id (ops.Known op) os = tt
  rename-changes id (ops.Excluded name) os = tt

  fold-changes : (i : Instr) → Changes (fold_edit t f j i)
  fold-changes i = go (becomes_identity t f j i)
    where
      go : (u : Bool) → Changes (cond u (Erase i.id) (rename_edit i.id i.op (map (renamed_operand (joined_operand t j)) i.operands)))
      go true = tt
      go false = rename-changes i.id i.op (map (renamed_operand (joined_operand t j)) i.operands)

  pub folds-change : (is : List Instr) → AllChange (map (fold_edit t f j) is)
  folds-change [] = tt
  folds-change (i ∷ is) = (fold-changes i, folds-change is)

  rename-other : (id : ℕ) (op : Op) (os : List Operand) (k : Instr) → nat_eq k.id id ≡ false → did (rename_edit id op os) k ≡ k ∷ []
  rename-other id (ops.Known op) os k e = ap (λ u. cond u (with_op op os k ∷ []) (k ∷ [])) e
  rename-other id (ops.Excluded name) os k e = ap (λ u. cond u [] (k ∷ [])) e

  did-other : (i k : Instr) → nat_eq k.id i.id ≡ false → did (fold_edit t f j i) k ≡ k ∷ []
  did-other i k e = go (becomes_identity t f j i)
    where
      go : (u : Bool) → did (cond u (Erase i.id) (rename_edit i.id i.op (map (renamed_operand (joined_operand t j)) i.operands))) k ≡ k ∷ []
      go true = ap (λ u. cond u [] (k ∷ [])) e
      go false = rename-other i.id i.op (map (renamed_operand (joined_operand t j)) i.operands) k e

  rename-own : (i : Instr) (op : OpId) → i.op ≡ ops.Known op → did (rename_edit i.id i.op (map (renamed_operand (joined_operand t j)) i.operands)) i ≡ joined_instr t j i ∷ []
  rename-own i op known =
      let os : List Operand = map (renamed_operand (joined_operand t j)) i.operands in
      ap (λ (o : Op). did (rename_edit i.id o os) i) known
      ∙ (ap (λ u. cond u (with_op op os i ∷ []) (i ∷ [])) (eq-eqb i.id i.id refl)
      ∙ ap (λ (o : Op). (record i { op = o; operands = os }) ∷ []) (sym known))

  did-own : (i : Instr) (op : OpId) → i.op ≡ ops.Known op → did (fold_edit t f j i) i ≡ after i
  did-own i op known = go (becomes_identity t f j i)
    where
      go : (u : Bool) → did (cond u (Erase i.id) (rename_edit i.id i.op (map (renamed_operand (joined_operand t j)) i.operands))) i ≡ cond u [] (joined_instr t j i ∷ [])
      go true = ap (λ u. cond u [] (i ∷ [])) (eq-eqb i.id i.id refl)
      go false = rename-own i op known

  done-none : (ys : List Instr) (k : Instr) → ((y : Instr) → Among y ys → nat_eq k.id y.id ≡ false) → done (map (fold_edit t f j) ys) k ≡ k ∷ []
  done-none [] k others = refl
  done-none (y ∷ ys) k others =
      ap (flat_map (done (map (fold_edit t f j) ys))) (did-other y k (others y here))
      ∙ (append-nil (done (map (fold_edit t f j) ys) k) ∙ done-none ys k (λ x m. others x (there m)))

  done-after : (ys : List Instr) (i : Instr) → ((y : Instr) → Among y ys → nat_eq i.id y.id ≡ false) → flat_map (done (map (fold_edit t f j) ys)) (after i) ≡ after i
  done-after ys i others = go (becomes_identity t f j i)
    where
      go : (u : Bool) → flat_map (done (map (fold_edit t f j) ys)) (cond u [] (joined_instr t j i ∷ [])) ≡ cond u [] (joined_instr t j i ∷ [])
      go true = refl
      go false = append-nil (done (map (fold_edit t f j) ys) (joined_instr t j i)) ∙ done-none ys (joined_instr t j i) others

  -- what is made of an instruction of which the test tells whether it is edited
  abbrev pub made_of : (Instr → Bool) → Instr → List Instr
  made_of test i = cond (test i) (after i) (i ∷ [])

  module _ (test : Instr → Bool) where
    abbrev edits : List Instr → List Edit
    edits xs = map (fold_edit t f j) (filter test xs)

    edits-cons : (x : Instr) (xs : List Instr) (u : Bool) → test x ≡ u → edits (x ∷ xs) ≡ cond u (fold_edit t f j x ∷ edits xs) (edits xs)
    edits-cons x xs true e = ap (λ v. map (fold_edit t f j) (cond v (x ∷ filter test xs) (filter test xs))) e
    edits-cons x xs false e = ap (λ v. map (fold_edit t f j) (cond v (x ∷ filter test xs) (filter test xs))) e

    done-none-in : (i : Instr) (xs : List Instr) → AreApart (i ∷ xs) → (y : Instr) → Among y (filter test xs) → nat_eq i.id y.id ≡ false
    done-none-in i xs apart y m = same-other y.id i.id (others-apart i xs apart y (filter-member test xs y m))

    pub done-each : (xs : List Instr) → AreApart xs → ((x : Instr) → Among x xs → (op : OpId) × (x.op ≡ ops.Known op)) → (i : Instr) → Among i xs → done (edits xs) i ≡ made_of test i
    done-each [] apart known i m = elim m [ ]
    done-each (x ∷ xs) apart known i here = go (test i) refl
      where
        go : (u : Bool) → test i ≡ u → done (edits (i ∷ xs)) i ≡ cond u (after i) (i ∷ [])
        go true e =
            ap (λ es. done es i) (edits-cons i xs true e)
            ∙ (ap (flat_map (done (edits xs))) (did-own i (known i here).0 (known i here).1)
            ∙ done-after (filter test xs) i (done-none-in i xs apart))
        go false e = ap (λ es. done es i) (edits-cons i xs false e) ∙ done-none (filter test xs) i (done-none-in i xs apart)
    done-each (x ∷ xs) apart known i (there m) = go (test x) refl (done-each xs (later-apart x xs apart) (λ y a. known y (there a)) i m)
      where
        go : (u : Bool) → test x ≡ u → done (edits xs) i ≡ made_of test i → done (edits (x ∷ xs)) i ≡ made_of test i
        go true e rest =
            ap (λ es. done es i) (edits-cons x xs true e)
            ∙ (ap (flat_map (done (edits xs))) (did-other x i (others-apart x xs apart i m))
            ∙ (append-nil (done (edits xs) i) ∙ rest))
        go false e rest = ap (λ es. done es i) (edits-cons x xs false e) ∙ rest

-- the instructions of ids

pub find-own : (xs : List Instr) → AreApart xs → (i : Instr) → Among i xs → find (λ (x : Instr). nat_eq x.id i.id) xs ≡ Some i
find-own [] apart i m = elim m [ ]
find-own (x ∷ xs) apart i here = ap (λ u. cond u (Some i) (find (λ (y : Instr). nat_eq y.id i.id) xs)) (eq-eqb i.id i.id refl)
find-own (x ∷ xs) apart i (there m) =
    ap (λ u. cond u (Some x) (find (λ (y : Instr). nat_eq y.id i.id) xs)) (same-other i.id x.id (others-apart x xs apart i m))
    ∙ find-own xs (later-apart x xs apart) i m

edit-own : (t : Target) (f : Function) (j : Join) → AreSingle f.blocks → (i : Instr) → Among i (all_instrs f) → edit_at t f j i.id ≡ fold_edit t f j i
edit-own t f j single i m =
    ap (λ (o : Option Instr). elim o [ None ↦ Erase i.id | Some x ↦ fold_edit t f j x ]) (find-own (all_instrs f) (all-apart f single) i m)

edits-own : (t : Target) (f : Function) (j : Join) → AreSingle f.blocks → (is : List Instr) → ((i : Instr) → Among i is → Among i (all_instrs f)) → fold_edits t f j (map (λ (i : Instr). i.id) is) ≡ map (fold_edit t f j) is
edits-own t f j single [] m = refl
edits-own t f j single (i ∷ is) m = λ k. edit-own t f j single i (m i here) k ∷ edits-own t f j single is (λ x a. m x (there a)) k

pub edits-listed : (t : Target) (f : Function) (j : Join) (ids : List ℕ) → AreSingle f.blocks → (named : AreNamed f j.gone ids) → fold_edits t f j ids ≡ map (fold_edit t f j) (filter named.test (all_instrs f))
edits-listed t f j ids single named =
    ap (fold_edits t f j) named.listed ∙ edits-own t f j single (filter named.test (all_instrs f)) (filter-member named.test (all_instrs f))

-- with an edit for each instruction of a list, those that the test tells are joined
pub joined-by : (t : Target) (f : Function) (j : Join) (ids : List ℕ) → IsFunction f.blocks f.next_id → are_known t f.blocks ≡ true → (named : AreNamed f j.gone ids) → all_edited f (fold_edits t f j ids) ≡ with_each (made_of t f j named.test) f
joined-by t f j ids is known named =
    let single : AreSingle f.blocks = single-of f is in
    let es : List Edit = map (fold_edit t f j) (filter named.test (all_instrs f)) in
    ap (all_edited f) (edits-listed t f j ids single named)
    ∙ (all-edited-each es f (folds-change t f j (filter named.test (all_instrs f))) single
    ∙ ap (λ bs. record f { blocks = bs }) (each-same (done es) (made_of t f j named.test) f.blocks
    (done-each t f j named.test (all_instrs f) (all-apart f single) (has-opcode t f known))))

-- the instructions that don't name the range stay
pub fold-law : FoldLaw
fold-law t f j ids is known named =
    joined-by t f j ids is known named
    ∙ ap (λ bs. record f { blocks = bs }) (folded-blocks t f j named.test f.blocks (named.named))
