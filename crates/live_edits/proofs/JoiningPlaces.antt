-- The edits of a join have their places in a function without phis, and none changes what is erased.
use Rattle.std.proofs.Common.{◌≡◌, ◌∷◌, ◌++◌, ◌∙◌, ◌≤◌, not, ℕ, Bool, true, false, cond, List, [], Option, Some, None, refl, sym, ap, subst, map, arith, eq-eqb, eqb-true}
use Rattle.std.specs.Prelude.{filter, flat_map, nat_eq}
use Rattle.target_base.specs.declared.types.Effect.{Effect}
use Rattle.target_base.specs.declared.types.Effect.TheVariants as effects
use Rattle.target_base.specs.declared.types.OpId.{OpId}
use Rattle.target_base.specs.declared.types.Target.{Target}
use Rattle.target_base.specs.Rules.{is_copy, is_phi}
use Rattle.meaning.specs.Live.{Among, here, there}
use Rattle.mir_func.specs.declared.func.Block.{Block}
use Rattle.mir_func.specs.declared.func.Instr.{Instr}
use Rattle.mir_func.specs.declared.func.Op.{Op}
use Rattle.mir_func.specs.declared.func.Op.TheVariants as ops
use Rattle.mir_func.specs.declared.func.Operand.{Operand}
use Rattle.mir_func.specs.Value.{Function, id_count}
use Rattle.mir_func.specs.Binding.{does, effect_of, is_terminator, passes}
use Rattle.mir_meaning.specs.Paths.{has}
use Rattle.mir_meaning.specs.Renaming.{renamed_operand}
use Rattle.edit_laws.specs.Deferred.{SpareGone}
use Rattle.edit_laws.specs.Edits.{Replace, Erase, replaced, with_op, Stands, KeepsWays}
use Rattle.live_edits.specs.declared.fold.Join.{Join}
use Rattle.live_edits.specs.Folded.{image, joined_operand, two_sides, unites, becomes_identity, rename_edit, fold_edit, all_instrs, fold_edits, FoldPlacesLaw}
use Rattle.live_edits.specs.Runs.{HavePlaces}
use Rattle.live_edits.proofs.JoiningMembers.{filter-member, instr-member}
use Rattle.live_edits.proofs.JoiningEdits.{did, each, AreSingle, count-step, did-keeps, each-single, edited-each, single-of}
use Rattle.live_edits.proofs.JoiningLaw.{AreApart, all-apart, later-apart, others-apart, same-other, all-blocks-true, has-opcode, edits-listed}

-- members of what is made of others

pub map-member : {X Y : Type 0} (m : X → Y) (xs : List X) (y : Y) → Among y (map m xs) → (x : X) × Among x xs × (y ≡ m x)
map-member m [] y a = elim a [ ]
map-member m (x ∷ xs) y here = (x, here, refl)
map-member m (x ∷ xs) y (there a) = let r = map-member m xs y a in (r.0, there r.1, r.2)

either-member : {X : Type 0} (P : X → Type 0) (xs ys : List X) (y : X) → Among y (xs ++ ys) → ((x : X) → Among x xs → P x) → ((x : X) → Among x ys → P x) → P y
either-member P [] ys y a p q = q y a
either-member P (x ∷ xs) ys y here p q = p x here
either-member P (x ∷ xs) ys y (there a) p q = either-member P xs ys y a (λ z m. p z (there m)) q

pub made-member : {X Y : Type 0} (m : X → List Y) (xs : List X) (y : Y) → Among y (flat_map m xs) → (x : X) × Among x xs × Among y (m x)
made-member m [] y a = elim a [ ]
made-member {X = X} {Y = Y} m (x ∷ xs) y a =
    either-member (λ (z : Y). (w : X) × Among w (x ∷ xs) × Among z (m w)) (m x) (flat_map m xs) y a
    (λ z p. (x, here, p))
    (λ z p. let r = made-member m xs z p in (r.0, there r.1, r.2))

-- ids of a list in which none stands twice

pub same-instr : (xs : List Instr) → AreApart xs → (x y : Instr) → Among x xs → Among y xs → x.id ≡ y.id → x ≡ y
same-instr [] apart x y a b e = elim a [ ]
same-instr (z ∷ xs) apart x y here here e = refl
same-instr (z ∷ xs) apart x y here (there b) e = absurd (let q : true ≡ false = sym (eq-eqb y.id x.id (sym e)) ∙ others-apart x xs apart y b in cc)
same-instr (z ∷ xs) apart x y (there a) here e = absurd (let q : true ≡ false = sym (eq-eqb x.id y.id e) ∙ others-apart y xs apart x a in cc)
same-instr (z ∷ xs) apart x y (there a) (there b) e = same-instr xs (later-apart z xs apart) x y a b e

count-filter : (test : Instr → Bool) (x : ℕ) (xs : List Instr) → id_count x (filter test xs) ≤ id_count x xs
count-filter test x [] = omega arith
count-filter test x (i ∷ xs) = go (test i) (count-filter test x xs)
  where
    go : (u : Bool) → id_count x (filter test xs) ≤ id_count x xs → id_count x (cond u (i ∷ filter test xs) (filter test xs)) ≤ id_count x (i ∷ xs)
    go true h = omega (arith, count-step x i (filter test xs), count-step x i xs, h)
    go false h = omega (arith, count-step x i xs, h)

filter-apart : (test : Instr → Bool) (xs : List Instr) → AreApart xs → AreApart (filter test xs)
filter-apart test xs apart x = omega (arith, count-filter test x xs, apart x)

-- a copy is neither a phi nor a terminator

copy-is : (e : Effect) → is_copy e ≡ true → e ≡ effects.Copy
copy-is effects.Copy h = refl
copy-is e h = absurd (cc)

copy-plain : (q : Option Effect) → passes is_copy q ≡ true → (passes is_phi q ≡ false) × (passes is_terminator q ≡ false)
copy-plain None h = absurd (let z : false ≡ true = h in cc)
copy-plain (Some e) h = (ap is_phi (copy-is e h), ap is_terminator (copy-is e h))

-- instructions of a function that come of those of another, with their ids and opcodes

pub record Comes (f : Function) (i : Instr) : Type 0 where
  pub from : Instr
  pub member : Among from (all_instrs f)
  pub id : from.id ≡ i.id
  pub op : from.op ≡ i.op

abbrev pub AllCome : Function → Function → Type 0
AllCome f g = (b : Block) (i : Instr) → Among b g.blocks → Among i b.instrs → Comes f i

come-itself : (f : Function) → AllCome f f
come-itself f b i m n = record { from = i; member = instr-member b i f.blocks m n; id = refl; op = refl }

only : {X : Type 0} (x y : X) → Among x (y ∷ []) → x ≡ y
only x y here = refl
only x y (there m) = elim m [ ]

did-comes : (f : Function) (x : Instr) (op : OpId) (os : List Operand) → Among x (all_instrs f) → x.op ≡ ops.Known op → (k i : Instr) → Comes f k → Among i (did (Replace x.id op os) k) → Comes f i
did-comes f x op os member known k i come a = go (nat_eq k.id x.id) refl a
  where
    go : (u : Bool) → nat_eq k.id x.id ≡ u → Among i (cond u (with_op op os k ∷ []) (k ∷ [])) → Comes f i
    go true e b = subst (Comes f) (sym (only i (with_op op os k) b)) (record { from = x; member = member; id = sym (eqb-true k.id x.id e); op = known })
    go false e b = subst (Comes f) (sym (only i k b)) come

replaced-come : (f g : Function) (x : Instr) (op : OpId) (os : List Operand) → AreSingle g.blocks → Among x (all_instrs f) → x.op ≡ ops.Known op → AllCome f g → AllCome f (replaced g x.id op os)
replaced-come f g x op os single member known come =
    subst (AllCome f) (sym (edited-each g (Replace x.id op os) tt single)) (λ b i m n.
    let c = map-member (each (did (Replace x.id op os))) g.blocks b m in
    let k = made-member (did (Replace x.id op os)) c.0.instrs i (subst (λ (y : Block). Among i y.instrs) c.2 n) in
    did-comes f x op os member known k.0 i (come c.0 k.0 c.1 k.1) k.2)

replaced-single : (g : Function) (id : ℕ) (op : OpId) (os : List Operand) → AreSingle g.blocks → AreSingle (replaced g id op os).blocks
replaced-single g id op os single =
    subst (λ (h : Function). AreSingle h.blocks) (sym (edited-each g (Replace id op os) tt single)) (each-single (did (Replace id op os)) (did-keeps (Replace id op os)) g.blocks single)

same-does : (t : Target) (test : Effect → Bool) (x y : Instr) → x.op ≡ y.op → does test t x ≡ does test t y
same-does t test x y e = ap (λ (o : Op). does test t (record x { op = o })) e

-- places

module _ (t : Target) (f : Function) (j : Join) (apart : AreApart (all_instrs f)) (phis : (i : Instr) → Among i (all_instrs f) → not (does is_phi t i) ≡ true) (known : (i : Instr) → Among i (all_instrs f) → (op : OpId) × (i.op ≡ ops.Known op)) where
  no-phi : (i : Instr) → Among i (all_instrs f) → does is_phi t i ≡ false
  no-phi i m = go (does is_phi t i) (phis i m)
    where
      go : (u : Bool) → not u ≡ true → u ≡ false
      go true h = absurd (let z : false ≡ true = h in cc)
      go false h = refl

  -- the one of that id is that of the function, but for operands
  own-op : (g : Function) (x : Instr) → Among x (all_instrs f) → AllCome f g → (b : Block) (i : Instr) → Stands g x.id b i → x.op ≡ i.op
  own-op g x m come b i stands =
      let c : Comes f i = come b i stands.block stands.instr in
      ap (λ (y : Instr). y.op) (same-instr (all_instrs f) apart x c.from m c.member (sym (c.id ∙ stands.named))) ∙ c.op

  abbrev joined_operands : Instr → List Operand
  joined_operands x = map (renamed_operand (joined_operand t j)) x.operands

  identity-copy : (x : Instr) → becomes_identity t f j x ≡ true → does is_copy t x ≡ true
  identity-copy x h = go (does is_copy t x) h
    where
      go : (u : Bool) → unites t f (image t j) (cond u (two_sides x.operands) None) ≡ true → u ≡ true
      go true e = refl
      go false e = absurd (let z : false ≡ true = e in cc)

  erases : (g : Function) (x : Instr) → Among x (all_instrs f) → AllCome f g → becomes_identity t f j x ≡ true → KeepsWays t g (Erase x.id)
  erases g x m come h b i stands =
      let plain = copy-plain (effect_of t x) (identity-copy x h) in
      let same : x.op ≡ i.op = own-op g x m come b i stands in
      (sym (same-does t is_phi x i same) ∙ plain.0, sym (same-does t is_terminator x i same) ∙ plain.1)

  replaces : (g : Function) (x : Instr) (op : OpId) → Among x (all_instrs f) → x.op ≡ ops.Known op → AllCome f g → KeepsWays t g (Replace x.id op (joined_operands x))
  replaces g x op m own come b i stands =
      let same : x.op ≡ i.op = own-op g x m come b i stands in
      let none : does is_phi t i ≡ false = sym (same-does t is_phi x i same) ∙ no-phi x m in
      let now : i.op ≡ ops.Known op = sym same ∙ own in
      (none, sym (same-does t is_phi i (with_op op (joined_operands x) i) now) ∙ none, same-does t is_terminator i (with_op op (joined_operands x) i) now)

  places-from : (is : List Instr) → ((i : Instr) → Among i is → Among i (all_instrs f)) → (g : Function) → AreSingle g.blocks → AllCome f g → HavePlaces t g (map (fold_edit t f j) is)
  places-from [] m g single come = tt
  places-from (x ∷ is) m g single come = go (becomes_identity t f j x) refl x.op refl (known x (m x here)) (λ h. places-from is (λ i a. m i (there a)) h)
    where
      go : (u : Bool) → becomes_identity t f j x ≡ u → (o : Op) → x.op ≡ o → (op : OpId) × (x.op ≡ ops.Known op) → ((h : Function) → AreSingle h.blocks → AllCome f h → HavePlaces t h (map (fold_edit t f j) is))
          → HavePlaces t g (cond u (Erase x.id) (rename_edit x.id o (joined_operands x)) ∷ map (fold_edit t f j) is)
      go true e o own k rest = (tt, erases g x (m x here) come e, rest g single come)
      go false e (ops.Known op) own k rest =
          (tt, replaces g x op (m x here) own come, rest (replaced g x.id op (joined_operands x)) (replaced-single g x.id op (joined_operands x) single) (replaced-come f g x op (joined_operands x) single (m x here) own come))
      go false e (ops.Excluded name) own k rest = absurd (let z : ops.Excluded name ≡ ops.Known k.0 = sym own ∙ k.1 in cc)

-- what is erased

module _ (t : Target) (f : Function) (j : Join) where
  not-later : (gone : List ℕ) (x : Instr) (is : List Instr) → AreApart (x ∷ is) → ((i : Instr) → Among i (x ∷ is) → has i.id gone ≡ false) → (i : Instr) → Among i is → has i.id (x.id ∷ gone) ≡ false
  not-later gone x is apart none i m = ap (λ u. cond u true (has i.id gone)) (same-other i.id x.id (others-apart x is apart i m)) ∙ none i (there m)

  spare-from : (is : List Instr) (gone : List ℕ) (g : Function) → AreApart is → ((i : Instr) → Among i is → has i.id gone ≡ false) → SpareGone gone g (map (fold_edit t f j) is)
  spare-from [] gone g apart none = tt
  spare-from (x ∷ is) gone g apart none = go (becomes_identity t f j x) x.op (λ gone' h. spare-from is gone' h (later-apart x is apart))
    where
      go : (u : Bool) (o : Op) → ((gone' : List ℕ) (h : Function) → ((i : Instr) → Among i is → has i.id gone' ≡ false) → SpareGone gone' h (map (fold_edit t f j) is))
          → SpareGone gone g (cond u (Erase x.id) (rename_edit x.id o (map (renamed_operand (joined_operand t j)) x.operands)) ∷ map (fold_edit t f j) is)
      go true o rest = (λ id h. tt, rest (x.id ∷ gone) g (not-later gone x is apart none))
      go false (ops.Known op) rest = (
        λ id h e. let z : true ≡ false = sym h ∙ (ap (λ n. has n gone) e ∙ none x here) in cc,
        rest gone (replaced g x.id op (map (renamed_operand (joined_operand t j)) x.operands)) (λ i m. none i (there m)),
      )
      go false (ops.Excluded name) rest = (λ id h. tt, rest (x.id ∷ gone) g (not-later gone x is apart none))

pub fold-places-law : FoldPlacesLaw
fold-places-law t f j ids is known phis named =
    let single : AreSingle f.blocks = single-of f is in
    let apart : AreApart (all_instrs f) = all-apart f single in
    let own : List Instr = filter named.test (all_instrs f) in
    let same : map (fold_edit t f j) own ≡ fold_edits t f j ids = sym (edits-listed t f j ids single named) in (
      subst (HavePlaces t f) same (places-from t f j apart (all-blocks-true (λ i. not (does is_phi t i)) f.blocks phis) (has-opcode t f known) own (filter-member named.test (all_instrs f)) f single (come-itself f)),
      subst (SpareGone [] f) same (spare-from t f j own [] f (filter-apart named.test (all_instrs f) apart) (λ i m. refl)),
    )
