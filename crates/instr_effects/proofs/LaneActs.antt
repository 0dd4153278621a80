-- Acts, each on a lane of its own.
use Rattle.std.proofs.Common.{◌≡◌, ◌<◌, ◌≤◌, ℕ, zero, suc, ◌+◌, Bool, true, false, cond, not, ◌&&◌, ◌||◌, List, [], ◌∷◌, ◌++◌, Option, Some, None, length, get_or, take, find, set, refl, sym, ap, ap₂, ◌∙◌, arith, eqb-true, subst}
use Rattle.std.specs.Prelude.{nat_eq, nat_lt, position, slice_set}
use Rattle.std.specs.Option.{option_or}
use Rattle.std.specs.List.{position_or_len}
use Rattle.std.proofs.lemmas.Bool.{eqb-false, ltb-true, ltb-false}
use Rattle.std.proofs.lemmas.List.{take_more}
use Rattle.instr_effects.specs.declared.lane_acts.LaneAct.{LaneAct}
use Rattle.instr_effects.specs.declared.lane_acts.LaneRead.{LaneRead}
use Rattle.instr_effects.specs.declared.lane_acts.LaneWrite.{LaneWrite}
use Rattle.instr_effects.specs.LaneActs.{first_of, no_act, is_on, has_act, act_on, is_once, add_read, add_write}

-- the acts with this one in the place of the one on its lane, or behind all
abbrev pub put : List LaneAct → LaneAct → List LaneAct
put [] a = a ∷ []
put (b ∷ bs) a = cond (is_on a.lane b) (a ∷ bs) (b ∷ put bs a)

some-same : {X : Type 0} (x y : X) → Some x ≡ Some y → x ≡ y
some-same x y e = cc

-- equal numbers are found to be equal

same-itself : (n : ℕ) → nat_eq n n ≡ true
same-itself n = go (nat_eq n n) refl
  where
    go : (b : Bool) → nat_eq n n ≡ b → nat_eq n n ≡ true
    go true e = e
    go false e = absurd (eqb-false n n e refl)

-- what is on a lane once an act is put there

module _ (a b : LaneAct) (bs : List LaneAct) (l : ℕ) where
  abbrev found : Option LaneAct → LaneAct
  found m = elim m [ None ↦ no_act l | Some x ↦ x ]

  put-cases : (p q r : Bool) → nat_eq b.lane a.lane ≡ p → nat_eq b.lane l ≡ q → nat_eq a.lane l ≡ r → act_on (put bs a) l ≡ cond (nat_eq a.lane l) a (act_on bs l) → act_on (cond p (a ∷ bs) (b ∷ put bs a)) l ≡ cond r a (act_on (b ∷ bs) l)
  put-cases true q true e f g ih = ap (λ x. found (cond x (Some a) (find (is_on l) bs))) g
  put-cases true q false e f g ih =
      let h : nat_eq b.lane l ≡ false = ap (λ n. nat_eq n l) (eqb-true b.lane a.lane e) ∙ g in
      ap (λ x. found (cond x (Some a) (find (is_on l) bs))) g ∙ sym (ap (λ x. found (cond x (Some b) (find (is_on l) bs))) h)
  put-cases false true true e f g ih =
      let h : nat_eq b.lane a.lane ≡ true = ap₂ nat_eq (eqb-true b.lane l f) (eqb-true a.lane l g) ∙ same-itself l in
      absurd (let k : true ≡ false = sym h ∙ e in cc)
  put-cases false true false e f g ih = ap (λ x. found (cond x (Some b) (find (is_on l) (put bs a)))) f ∙ sym (ap (λ x. found (cond x (Some b) (find (is_on l) bs))) f)
  put-cases false false r e f g ih =
      ap (λ x. found (cond x (Some b) (find (is_on l) (put bs a)))) f ∙ ih ∙ ap (λ x. cond x a (act_on bs l)) g
      ∙ sym (ap (λ x. cond r a (found (cond x (Some b) (find (is_on l) bs)))) f)

pub put-on : (acts : List LaneAct) (a : LaneAct) (l : ℕ) → act_on (put acts a) l ≡ cond (nat_eq a.lane l) a (act_on acts l)
put-on [] a l = go (nat_eq a.lane l)
  where
    go : (r : Bool) → elim (cond r (Some a) None) [ None ↦ no_act l | Some x ↦ x ] ≡ cond r a (no_act l)
    go true = refl
    go false = refl
put-on (b ∷ bs) a l = put-cases a b bs l (nat_eq b.lane a.lane) (nat_eq b.lane l) (nat_eq a.lane l) refl refl refl (put-on bs a l)

-- each lane stands once

or-twice : (x y : Bool) → (x || y) ≡ (x || (x || y))
or-twice true y = refl
or-twice false y = refl

or-turned : (x y z : Bool) → (x || (y || z)) ≡ (y || (x || z))
or-turned true true z = refl
or-turned true false z = refl
or-turned false true z = refl
or-turned false false z = refl

has-put : (acts : List LaneAct) (a : LaneAct) (l : ℕ) → has_act (put acts a) l ≡ (nat_eq a.lane l || has_act acts l)
has-put [] a l = refl
has-put (b ∷ bs) a l = go (nat_eq b.lane a.lane) refl (has-put bs a l)
  where
    go : (p : Bool) → nat_eq b.lane a.lane ≡ p → has_act (put bs a) l ≡ (nat_eq a.lane l || has_act bs l) → has_act (cond p (a ∷ bs) (b ∷ put bs a)) l ≡ (nat_eq a.lane l || (nat_eq b.lane l || has_act bs l))
    go true e ih = or-twice (nat_eq a.lane l) (has_act bs l) ∙ ap (λ n. nat_eq a.lane l || (nat_eq n l || has_act bs l)) (sym (eqb-true b.lane a.lane e))
    go false e ih = ap (λ x. nat_eq b.lane l || x) ih ∙ or-turned (nat_eq b.lane l) (nat_eq a.lane l) (has_act bs l)

first-and : (x y : Bool) → (x && y) ≡ true → x ≡ true
first-and true y e = refl
first-and false y e = absurd (cc)

second-and : (x y : Bool) → (x && y) ≡ true → y ≡ true
second-and true y e = e
second-and false y e = absurd (cc)

both-and : (x y : Bool) → x ≡ true → y ≡ true → (x && y) ≡ true
both-and x y e f = ap₂ (λ u v. u && v) e f

turned-false : (m n : ℕ) → nat_eq m n ≡ false → nat_eq n m ≡ false
turned-false m n e = go (nat_eq n m) refl
  where
    go : (b : Bool) → nat_eq n m ≡ b → nat_eq n m ≡ false
    go false f = f
    go true f = absurd (let k : true ≡ false = sym (ap (λ x. nat_eq m x) (eqb-true n m f) ∙ same-itself m) ∙ e in cc)

pub put-once : (acts : List LaneAct) (a : LaneAct) → is_once acts ≡ true → is_once (put acts a) ≡ true
put-once [] a e = refl
put-once (b ∷ bs) a e = go (nat_eq b.lane a.lane) refl (λ k. put-once bs a k)
  where
    go : (p : Bool) → nat_eq b.lane a.lane ≡ p → (is_once bs ≡ true → is_once (put bs a) ≡ true) → is_once (cond p (a ∷ bs) (b ∷ put bs a)) ≡ true
    go true f ih = ap (λ n. not (has_act bs n) && is_once bs) (sym (eqb-true b.lane a.lane f)) ∙ e
    go false f ih =
        both-and (not (has_act (put bs a) b.lane)) (is_once (put bs a))
        (ap not (has-put bs a b.lane ∙ ap (λ x. x || has_act bs b.lane) (turned-false b.lane a.lane f)) ∙ first-and (not (has_act bs b.lane)) (is_once bs) e)
        (ih (second-and (not (has_act bs b.lane)) (is_once bs) e))

-- by the place of the act on the lane

set-put : (acts : List LaneAct) (a : LaneAct) (i : ℕ) → i ≡ position_or_len (is_on a.lane) acts → i < length acts → set acts i a ≡ put acts a
set-put [] a i e h = absurd (omega arith)
set-put (b ∷ bs) a zero e h = by (is_on a.lane b) e
  where
    by : (p : Bool) → zero ≡ cond (not p) (1 + position_or_len (is_on a.lane) bs) 0 → a ∷ bs ≡ cond p (a ∷ bs) (b ∷ put bs a)
    by true k = refl
    by false k = absurd (omega arith)
set-put (b ∷ bs) a (suc i) e h = by (is_on a.lane b) e (λ k. set-put bs a i k (omega arith))
  where
    by : (p : Bool) → suc i ≡ cond (not p) (1 + position_or_len (is_on a.lane) bs) 0 → (i ≡ position_or_len (is_on a.lane) bs → set bs i a ≡ put bs a) → b ∷ set bs i a ≡ cond p (a ∷ bs) (b ∷ put bs a)
    by true k rest = absurd (omega arith)
    by false k rest = ap (λ t. b ∷ t) (rest (omega arith))

push-put : (acts : List LaneAct) (a : LaneAct) → length acts ≤ position_or_len (is_on a.lane) acts → acts ++ a ∷ [] ≡ put acts a
push-put [] a h = refl
push-put (b ∷ bs) a h = by (is_on a.lane b) h (λ k. push-put bs a k)
  where
    by : (p : Bool) → suc (length bs) ≤ cond (not p) (1 + position_or_len (is_on a.lane) bs) 0 → (length bs ≤ position_or_len (is_on a.lane) bs → bs ++ a ∷ [] ≡ put bs a) → b ∷ (bs ++ a ∷ []) ≡ cond p (a ∷ bs) (b ∷ put bs a)
    by true k rest = absurd (omega arith)
    by false k rest = ap (λ t. b ∷ t) (rest (omega arith))

is-place : (k n i : ℕ) → cond (nat_lt k n) (Some k) None ≡ Some i → (i ≡ k) × (k < n)
is-place k n i e = go (nat_lt k n) refl e
  where
    go : (b : Bool) → nat_lt k n ≡ b → cond b (Some k) None ≡ Some i → (i ≡ k) × (k < n)
    go true f g = (sym (some-same k i g), ltb-true k n f)
    go false f g = absurd (cc)

no-place : (k n : ℕ) → cond (nat_lt k n) (Some k) None ≡ None → n ≤ k
no-place k n e = go (nat_lt k n) refl e
  where
    go : (b : Bool) → nat_lt k n ≡ b → cond b (Some k) None ≡ None → n ≤ k
    go true f g = absurd (cc)
    go false f g = ltb-false k n f

pub set_put : (acts : List LaneAct) (a : LaneAct) (i : ℕ) → position (is_on a.lane) acts ≡ Some i → slice_set acts i a ≡ put acts a
set_put acts a i e =
    let z = is-place (position_or_len (is_on a.lane) acts) (length acts) i e in
    set-put acts a i z.0 (subst (λ k. k < length acts) (sym z.0) z.1)

pub push_put : (acts : List LaneAct) (a : LaneAct) → position (is_on a.lane) acts ≡ None → acts ++ a ∷ [] ≡ put acts a
push_put acts a e = push-put acts a (no-place (position_or_len (is_on a.lane) acts) (length acts) e)

-- the acts once an act is put on its lane

pub put-told : (old now : List LaneAct) (a : LaneAct) → now ≡ put old a → (l : ℕ) → act_on now l ≡ cond (nat_eq a.lane l) a (act_on old l)
put-told old now a e l = ap (λ acts. act_on acts l) e ∙ put-on old a l

pub put-stands : (old now : List LaneAct) (a : LaneAct) → now ≡ put old a → is_once old ≡ true → is_once now ≡ true
put-stands old now a e h = ap is_once e ∙ put-once old a h

-- an act that is noted on a lane

abbrev found-on : ℕ → Option LaneAct → LaneAct
found-on l m = elim m [ None ↦ no_act l | Some x ↦ x ]

act-lane : (acts : List LaneAct) (l : ℕ) → (act_on acts l).lane ≡ l
act-lane [] l = refl
act-lane (b ∷ bs) l = go (nat_eq b.lane l) refl (act-lane bs l)
  where
    go : (q : Bool) → nat_eq b.lane l ≡ q → (act_on bs l).lane ≡ l → (found-on l (cond q (Some b) (find (is_on l) bs))).lane ≡ l
    go true e ih = eqb-true b.lane l e
    go false e ih = ih

or-none : {X : Type 0} (m : Option X) → m ≡ option_or m None
or-none None = refl
or-none (Some x) = refl

or-joined : {X : Type 0} (a b c : Option X) → option_or (option_or a b) c ≡ option_or a (option_or b c)
or-joined None b c = refl
or-joined (Some x) b c = refl

pub read-noted : (old now : List LaneAct) (lane : ℕ) (act : LaneAct) (r : LaneRead) → act ≡ add_read (act_on old lane) (Some r) → ((l : ℕ) → act_on now l ≡ cond (nat_eq act.lane l) act (act_on old l)) → (l : ℕ) → act_on now l ≡ add_read (act_on old l) (cond (nat_eq lane l) (Some r) None)
read-noted old now lane act r e h l = h l ∙ ap (λ n. cond (nat_eq n l) act (act_on old l)) (ap (λ (a : LaneAct). a.lane) e ∙ act-lane old lane) ∙ go (nat_eq lane l) refl
  where
    go : (b : Bool) → nat_eq lane l ≡ b → cond b act (act_on old l) ≡ add_read (act_on old l) (cond b (Some r) None)
    go true f = e ∙ ap (λ n. add_read (act_on old n) (Some r)) (eqb-true lane l f)
    go false f = ap (λ x. record { lane = (act_on old l).lane; read = x; write = (act_on old l).write }) (or-none (act_on old l).read)

pub write-noted : (old now : List LaneAct) (lane : ℕ) (act : LaneAct) (w : LaneWrite) → act ≡ add_write (act_on old lane) (Some w) → ((l : ℕ) → act_on now l ≡ cond (nat_eq act.lane l) act (act_on old l)) → (l : ℕ) → act_on now l ≡ add_write (act_on old l) (cond (nat_eq lane l) (Some w) None)
write-noted old now lane act w e h l = h l ∙ ap (λ n. cond (nat_eq n l) act (act_on old l)) (ap (λ (a : LaneAct). a.lane) e ∙ act-lane old lane) ∙ go (nat_eq lane l) refl
  where
    go : (b : Bool) → nat_eq lane l ≡ b → cond b act (act_on old l) ≡ add_write (act_on old l) (cond b (Some w) None)
    go true f = e ∙ ap (λ n. add_write (act_on old n) (Some w)) (eqb-true lane l f)
    go false f = ap (λ x. record { lane = (act_on old l).lane; read = (act_on old l).read; write = x }) (or-none (act_on old l).write)

-- steps of loops

first-more : {X Y : Type 0} (f : X → Option Y) (xs : List X) (x : X) → first_of f (xs ++ x ∷ []) ≡ option_or (first_of f xs) (f x)
first-more f [] x = sym (or-none (f x))
first-more f (y ∷ ys) x = ap (λ m. option_or (f y) m) (first-more f ys x) ∙ sym (or-joined (f y) (first_of f ys) (f x))

first-next : {X Y : Type 0} (f : X → Option Y) (xs : List X) (i : ℕ) (x : X) → i < length xs → x ≡ get_or xs i x → option_or (first_of f (take i xs)) (f x) ≡ first_of f (take (i + 1) xs)
first-next f xs i x h e = sym (first-more f (take i xs) x) ∙ ap (first_of f) (ap (λ y. take i xs ++ y ∷ []) e ∙ sym (take_more xs i x h))

pub reads-next : {X : Type 0} (f : X → Option LaneRead) (a b c : LaneAct) (xs : List X) (i : ℕ) (x : X) → i < length xs → x ≡ get_or xs i x → b ≡ add_read a (first_of f (take i xs)) → c ≡ add_read b (f x) → c ≡ add_read a (first_of f (take (i + 1) xs))
reads-next f a b c xs i x h e p q =
    q ∙ ap (λ y. add_read y (f x)) p
    ∙ ap (λ m. record { lane = a.lane; read = m; write = a.write }) (or-joined a.read (first_of f (take i xs)) (f x))
    ∙ ap (λ m. add_read a m) (first-next f xs i x h e)

pub writes-next : {X : Type 0} (f : X → Option LaneWrite) (a b c : LaneAct) (xs : List X) (i : ℕ) (x : X) → i < length xs → x ≡ get_or xs i x → b ≡ add_write a (first_of f (take i xs)) → c ≡ add_write b (f x) → c ≡ add_write a (first_of f (take (i + 1) xs))
writes-next f a b c xs i x h e p q =
    q ∙ ap (λ y. add_write y (f x)) p
    ∙ ap (λ m. record { lane = a.lane; read = a.read; write = m }) (or-joined a.write (first_of f (take i xs)) (f x))
    ∙ ap (λ m. add_write a m) (first-next f xs i x h e)
