-- An item that only moves lanes is the step that moves their numbers.
use Rattle.std.proofs.Common.{◌≡◌, ◌⊎◌, ℕ, Bool, true, false, cond, List, [], ◌∷◌, Option, Some, None, refl, sym, ap, ◌∙◌, subst, inl, inr, eqb-true, eq-eqb}
use Rattle.std.specs.Prelude.{nat_eq, option_and_then}
use Rattle.std.specs.List.{cons_option}
use Rattle.meaning.specs.declared.types.Lane.{Lane}
use Rattle.meaning.specs.declared.types.Lane.TheVariants.{VirtualLane, UnitLane, SlotLane}
use Rattle.meaning.specs.declared.types.Source.{Source}
use Rattle.meaning.specs.declared.types.Source.TheVariants.{FromLane, Undef, Bits}
use Rattle.meaning.specs.declared.types.Fill.{Fill}
use Rattle.meaning.specs.declared.types.Fill.TheVariants.{Moved, Computed}
use Rattle.meaning.specs.declared.types.Write.{Write}
use Rattle.meaning.specs.Lanes.{Writes}
use Rattle.meaning.specs.Code.{Edge, Item}
use Rattle.meaning.specs.Live.{Among as Member, here as first, there as later, reads_of, Feeds, is_slot}
use Rattle.mir_meaning.specs.declared.writing.LaneDef.{LaneDef}
use Rattle.mir_meaning.specs.Paths.{Step, has, writing_of, is_present, is_some_number, Certain, Into, move_of, use_of, is_written}
use Rattle.mir_meaning.specs.Stands.{Tags, ReadBy, Reaches, IsStep}
use Rattle.instr_effects.specs.declared.owner.Owner.{Owner}
use Rattle.instr_effects.specs.Owners.{owner_of, fill_owner}
use Rattle.instr_effects.specs.Acts.{act_of, acts_of}
use Rattle.instr_effects.specs.Steps.{Numbering, is_unnumbered, writing, act_writings, act_reading, act_readings}
use Rattle.instr_effects.specs.Stepping.{tag_of, step_of, IsNumbering}
use Rattle.instr_effects.proofs.Members.{member-none, member-elim}
use Rattle.live_laws.specs.Effects.Moving.{Moves, Unwritten, IsMoving}
use Rattle.live_laws.specs.Effects.Laws.{MovingLaw}

pub some-same : {X : Type 0} (x y : X) → Some x ≡ Some y → x ≡ y
some-same x y e = cc

-- a fill that moves a lane
pub fill-from : (x : Fill) (o : Owner) → fill_owner x ≡ Some o → (l : Lane) × (x ≡ Moved (FromLane l)) × (owner_of l ≡ o)
fill-from (Moved (FromLane l)) o e = (l, refl, some-same (owner_of l) o e)
fill-from (Moved Undef) o e = absurd (cc)
fill-from (Moved (Bits c low w)) o e = absurd (cc)
fill-from (Computed n) o e = absurd (cc)

-- the source of a write by its number
abbrev source-number : Numbering → Write → Option ℕ
source-number num w = option_and_then num (fill_owner w.fill)

-- the number of a source is that of a lane that is moved
pub source-from : (num : Numbering) (w : Write) (n : ℕ) → source-number num w ≡ Some n → (l : Lane) × (w.fill ≡ Moved (FromLane l)) × (num (owner_of l) ≡ Some n)
source-from num w n e = go (fill_owner w.fill) refl e
  where
    go : (q : Option Owner) → fill_owner w.fill ≡ q → option_and_then num q ≡ Some n → (l : Lane) × (w.fill ≡ Moved (FromLane l)) × (num (owner_of l) ≡ Some n)
    go None f g = absurd (cc)
    go (Some o) f g = let z = fill-from w.fill o f in (z.0, z.1, ap num z.2 ∙ g)

source-is : (num : Numbering) (w : Write) (l : Lane) (n : ℕ) → w.fill ≡ Moved (FromLane l) → num (owner_of l) ≡ Some n → source-number num w ≡ Some n
source-is num w l n e f = ap (λ x. option_and_then num (fill_owner x)) e ∙ f

abbrev written-by : Numbering → Write → Option ℕ → List LaneDef → List LaneDef
written-by num v q rest = cons_option (elim q [ None ↦ None | Some k ↦ Some (writing num (act_of v) k) ]) rest

-- writings by numbers

pub writing-in : (num : Numbering) (w : Write) (n : ℕ) (ws : Writes) → Member w ws → num (owner_of w.lane) ≡ Some n → is_present (writing_of n (act_writings num (acts_of ws))) ≡ true
writing-in num w n [] m e = absurd (member-none w m)
writing-in num w n (v ∷ ws) m e = member-elim w v ws (λ f. at (num (owner_of v.lane)) (ap (λ x. num (owner_of x.lane)) (sym f) ∙ e)) (λ k. past (num (owner_of v.lane)) (writing-in num w n ws k e)) m
  where
    rest : List LaneDef
    rest = act_writings num (acts_of ws)

    past : (q : Option ℕ) → is_present (writing_of n rest) ≡ true → is_present (writing_of n (written-by num v q rest)) ≡ true
    past None h = h
    past (Some k) h = by (nat_eq k n)
      where
        by : (b : Bool) → is_present (cond b (Some (writing num (act_of v) k)) (writing_of n rest)) ≡ true
        by true = refl
        by false = h

    at : (q : Option ℕ) → q ≡ Some n → is_present (writing_of n (written-by num v q rest)) ≡ true
    at None f = absurd (cc)
    at (Some k) f = ap (λ b. is_present (cond b (Some (writing num (act_of v) k)) (writing_of n rest))) (eq-eqb k n (some-same k n f))

pub writing-from : (num : Numbering) (n : ℕ) (ws : Writes) → is_present (writing_of n (act_writings num (acts_of ws))) ≡ true → (w : Write) × Member w ws × (num (owner_of w.lane) ≡ Some n)
writing-from num n [] e = absurd (cc)
writing-from num n (v ∷ ws) e = go (num (owner_of v.lane)) refl e (writing-from num n ws)
  where
    rest : List LaneDef
    rest = act_writings num (acts_of ws)

    more : ((w : Write) × Member w ws × (num (owner_of w.lane) ≡ Some n)) → (w : Write) × Member w (v ∷ ws) × (num (owner_of w.lane) ≡ Some n)
    more z = (z.0, later z.1, z.2)

    by : (k : ℕ) → num (owner_of v.lane) ≡ Some k → (b : Bool) → nat_eq k n ≡ b → is_present (cond b (Some (writing num (act_of v) k)) (writing_of n rest)) ≡ true → (is_present (writing_of n rest) ≡ true → (w : Write) × Member w ws × (num (owner_of w.lane) ≡ Some n)) → (w : Write) × Member w (v ∷ ws) × (num (owner_of w.lane) ≡ Some n)
    by k f true g h ih = (v, first, f ∙ ap Some (eqb-true k n g))
    by k f false g h ih = more (ih h)

    go : (q : Option ℕ) → num (owner_of v.lane) ≡ q → is_present (writing_of n (written-by num v q rest)) ≡ true → (is_present (writing_of n rest) ≡ true → (w : Write) × Member w ws × (num (owner_of w.lane) ≡ Some n)) → (w : Write) × Member w (v ∷ ws) × (num (owner_of w.lane) ≡ Some n)
    go None f h ih = more (ih h)
    go (Some k) f h ih = by k f (nat_eq k n) refl h ih

-- moves by numbers

module _ (num : Numbering) (n : ℕ) where
  abbrev One : Writes → ℕ → Type 0
  One ws m = (w : Write) × Member w ws × (num (owner_of w.lane) ≡ Some m) × (source-number num w ≡ Some n)

  is-number : (q : Option ℕ) → is_some_number n q ≡ true → q ≡ Some n
  is-number None e = absurd (cc)
  is-number (Some k) e = ap Some (eqb-true k n e)

  number-is : (q : Option ℕ) → q ≡ Some n → is_some_number n q ≡ true
  number-is q e = ap (is_some_number n) e ∙ eq-eqb n n refl

  into-same : (a c : ℕ) → Into a ≡ Into c → a ≡ c
  into-same a c e = cc

  move-from : (m : ℕ) (ws : Writes) → move_of n (act_writings num (acts_of ws)) ≡ Into m → One ws m
  move-from m [] e = absurd (cc)
  move-from m (v ∷ ws) e = go (num (owner_of v.lane)) refl e (move-from m ws)
    where
      rest : List LaneDef
      rest = act_writings num (acts_of ws)

      more : One ws m → One (v ∷ ws) m
      more z = (z.0, later z.1, z.2, z.3)

      by : (k : ℕ) → num (owner_of v.lane) ≡ Some k → (b : Bool) → is_some_number n (source-number num v) ≡ b → cond b (Into k) (move_of n rest) ≡ Into m → (move_of n rest ≡ Into m → One ws m) → One (v ∷ ws) m
      by k f true g h ih = (v, first, f ∙ ap Some (into-same k m h), is-number (source-number num v) g)
      by k f false g h ih = more (ih h)

      go : (q : Option ℕ) → num (owner_of v.lane) ≡ q → move_of n (written-by num v q rest) ≡ Into m → (move_of n rest ≡ Into m → One ws m) → One (v ∷ ws) m
      go None f h ih = more (ih h)
      go (Some k) f h ih = by k f (is_some_number n (source-number num v)) refl h ih

  move-in : (w : Write) (m : ℕ) (ws : Writes) → Member w ws → num (owner_of w.lane) ≡ Some m → source-number num w ≡ Some n → (c : ℕ) × (move_of n (act_writings num (acts_of ws)) ≡ Into c)
  move-in w m [] k e f = absurd (member-none w k)
  move-in w m (v ∷ ws) k e f =
      member-elim w v ws (λ g. at (num (owner_of v.lane)) (ap (λ x. num (owner_of x.lane)) (sym g) ∙ e) (ap (source-number num) (sym g) ∙ f)) (λ j. past (num (owner_of v.lane)) (move-in w m ws j e f)) k
    where
      rest : List LaneDef
      rest = act_writings num (acts_of ws)

      at : (q : Option ℕ) → q ≡ Some m → source-number num v ≡ Some n → (c : ℕ) × (move_of n (written-by num v q rest) ≡ Into c)
      at None g h = absurd (cc)
      at (Some k) g h = (k, ap (λ b. cond b (Into k) (move_of n rest)) (number-is (source-number num v) h))

      past : (q : Option ℕ) → ((c : ℕ) × (move_of n rest ≡ Into c)) → (c : ℕ) × (move_of n (written-by num v q rest) ≡ Into c)
      past None z = z
      past (Some k) z = by (is_some_number n (source-number num v))
        where
          by : (b : Bool) → (c : ℕ) × (cond b (Into k) (move_of n rest) ≡ Into c)
          by true = (k, refl)
          by false = z

  move-certain : (ws : List LaneDef) → move_of n ws ≡ Certain → ⊥
  move-certain [] e = cc
  move-certain (w ∷ ws) e = go (is_some_number n w.from) e (move-certain ws)
    where
      go : (b : Bool) → cond b (Into w.lane) (move_of n ws) ≡ Certain → (move_of n ws ≡ Certain → ⊥) → ⊥
      go true f ih = cc
      go false f ih = ih f

  -- what goes to a lane without a number is read

  abbrev Kept : Writes → Type 0
  Kept ws = (w : Write) × Member w ws × (num (owner_of w.lane) ≡ None) × (source-number num w ≡ Some n)

  abbrev read-by : Write → Option ℕ → List ℕ → List ℕ
  read-by v q rest = cons_option (cond (is_unnumbered q) (source-number num v) None) rest

  reading-from : (ws : Writes) → has n (act_readings num (acts_of ws)) ≡ true → Kept ws
  reading-from [] e = absurd (cc)
  reading-from (v ∷ ws) e = go (num (owner_of v.lane)) refl e (reading-from ws)
    where
      rest : List ℕ
      rest = act_readings num (acts_of ws)

      more : Kept ws → Kept (v ∷ ws)
      more z = (z.0, later z.1, z.2, z.3)

      by : num (owner_of v.lane) ≡ None → (x : ℕ) → source-number num v ≡ Some x → (b : Bool) → nat_eq x n ≡ b → cond b true (has n rest) ≡ true → (has n rest ≡ true → Kept ws) → Kept (v ∷ ws)
      by f x g true h u ih = (v, first, f, g ∙ ap Some (eqb-true x n h))
      by f x g false h u ih = more (ih u)

      of : num (owner_of v.lane) ≡ None → (q : Option ℕ) → source-number num v ≡ q → has n (cons_option q rest) ≡ true → (has n rest ≡ true → Kept ws) → Kept (v ∷ ws)
      of f None g h ih = more (ih h)
      of f (Some x) g h ih = by f x g (nat_eq x n) refl h ih

      go : (q : Option ℕ) → num (owner_of v.lane) ≡ q → has n (read-by v q rest) ≡ true → (has n rest ≡ true → Kept ws) → Kept (v ∷ ws)
      go None f h ih = of f (source-number num v) refl h ih
      go (Some k) f h ih = more (ih h)

  has-one-more : (q : Option ℕ) (xs : List ℕ) → has n xs ≡ true → has n (cons_option q xs) ≡ true
  has-one-more None xs e = e
  has-one-more (Some x) xs e = go (nat_eq x n)
    where
      go : (b : Bool) → cond b true (has n xs) ≡ true
      go true = refl
      go false = e

  reading-in : (w : Write) (ws : Writes) → Member w ws → num (owner_of w.lane) ≡ None → source-number num w ≡ Some n → has n (act_readings num (acts_of ws)) ≡ true
  reading-in w [] k e f = absurd (member-none w k)
  reading-in w (v ∷ ws) k e f =
      member-elim w v ws (λ g. at (num (owner_of v.lane)) (ap (λ x. num (owner_of x.lane)) (sym g) ∙ e) (source-number num v) (ap (source-number num) (sym g) ∙ f)) (λ j. has-one-more (act_reading num (act_of v)) rest (reading-in w ws j e f)) k
    where
      rest : List ℕ
      rest = act_readings num (acts_of ws)

      at : (q : Option ℕ) → q ≡ None → (x : Option ℕ) → x ≡ Some n → has n (cons_option (cond (is_unnumbered q) x None) rest) ≡ true
      at None g None h = absurd (cc)
      at None g (Some x) h = ap (λ b. cond b true (has n rest)) (eq-eqb x n (some-same x n h))
      at (Some y) g x h = absurd (cc)

-- lanes with one owner

pub owners-same : (l a : Lane) → owner_of l ≡ owner_of a → (l ≡ a) ⊎ ((s : ℕ) × (k : ℕ) × (w : ℕ) × (x : ℕ) × (l ≡ SlotLane s k w) × (a ≡ SlotLane s k x))
owners-same (VirtualLane v k) (VirtualLane w j) e = inl (cc)
owners-same (VirtualLane v k) (UnitLane u) e = absurd (cc)
owners-same (VirtualLane v k) (SlotLane s j w) e = absurd (cc)
owners-same (UnitLane u) (VirtualLane w j) e = absurd (cc)
owners-same (UnitLane u) (UnitLane w) e = inl (cc)
owners-same (UnitLane u) (SlotLane s j w) e = absurd (cc)
owners-same (SlotLane s k x) (VirtualLane w j) e = absurd (cc)
owners-same (SlotLane s k x) (UnitLane u) e = absurd (cc)
owners-same (SlotLane s k x) (SlotLane r j w) e = inr (s, k, x, w, refl, let f : r ≡ s = cc in let g : j ≡ k = cc in cc)

module _ (reserved : Lane → Bool) (num : Numbering) (proper : Lane → Bool) (names : IsNumbering reserved num) (others : (l : Lane) → is_slot l ≡ false → proper l ≡ true) (slots : (l : Lane) → is_slot l ≡ true → reserved l ≡ false) where
  abbrev tag : Tags
  tag = tag_of num proper

  tag-number : (l : Lane) (n : ℕ) → tag l ≡ Some n → num (owner_of l) ≡ Some n
  tag-number l n e = go (proper l) e
    where
      go : (b : Bool) → cond b (num (owner_of l)) None ≡ Some n → num (owner_of l) ≡ Some n
      go true f = f
      go false f = absurd (cc)

  none-of : (q : Option ℕ) → ((n : ℕ) → q ≡ Some n → ⊥) → q ≡ None
  none-of None h = refl
  none-of (Some n) h = absurd (h n refl)

  unnumbered : (a : Lane) → reserved a ≡ true → num (owner_of a) ≡ None
  unnumbered a r = none-of (num (owner_of a)) (λ n e. let f = names.free a n e in cc)

  module _ (i : Item) (out : List Edge) (id : ℕ) (ws : Writes) (moving : IsMoving reserved tag i ws) where
    abbrev s : Step
    s = step_of num id false [] ws

    not-read : {A : Type 0} (ss : List Source) → Member ss (reads_of i) → A
    not-read ss m = absurd (member-none ss (subst (Member ss) moving.quiet m))

    use-certain : (n : ℕ) → has n s.reads ≡ true → use_of n s ≡ Certain
    use-certain n e = ap (λ b. cond b Certain (move_of n s.writes)) e

    -- how a lane is used
    use-cases : (n : ℕ) → ((has n s.reads ≡ true) × (use_of n s ≡ Certain)) ⊎ (use_of n s ≡ move_of n s.writes)
    use-cases n = go (has n s.reads) refl
      where
        go : (b : Bool) → has n s.reads ≡ b → ((has n s.reads ≡ true) × (use_of n s ≡ Certain)) ⊎ (use_of n s ≡ move_of n s.writes)
        go true e = inl (e, use-certain n e)
        go false e = inr (ap (λ b. cond b Certain (move_of n s.writes)) e)

    -- a write of a lane that moves a lane with a number
    moved-by : (w : Write) (n : ℕ) → Member w ws → source-number num w ≡ Some n → (l : Lane) × Moves ws l w.lane × (num (owner_of l) ≡ Some n)
    moved-by w n m e = let z = source-from num w n e in (z.0, (w, m, refl, z.1), z.2)

    -- a moved lane that has a number has it by its own width
    source-tag : (l a : Lane) (n : ℕ) → Moves ws l a → num (owner_of l) ≡ Some n → tag l ≡ Some n
    source-tag l a n m e = let z = moving.sources l a m (names.free l n e) in z.1 ∙ sym (tag-number l z.0 z.1) ∙ e

    -- a move of numbers is that of one lane
    one-target : (l a : Lane) (n m : ℕ) → Moves ws l a → num (owner_of l) ≡ Some n → num (owner_of a) ≡ Some m → move_of n s.writes ≡ Into m
    one-target l a n m z e f =
        let g : num (owner_of z.0.lane) ≡ Some m = ap (λ x. num (owner_of x)) z.2 ∙ f in
        let h : source-number num z.0 ≡ Some n = source-is num z.0 l n z.3 e in
        let c = move-in num n z.0 m ws z.1 g h in
        let y = move-from num n c.0 ws c.1 in
        let x = moved-by y.0 n y.1 y.3 in
        let same : owner_of y.0.lane ≡ owner_of a = moving.once x.0 l y.0.lane a x.1 z (names.names (owner_of x.0) (owner_of l) n x.2 e) in
        let k : Some c.0 ≡ Some m = sym y.2 ∙ ap num same ∙ f in
        c.1 ∙ ap Into (some-same c.0 m k)

    flow : (l a : Lane) (n m : ℕ) → tag l ≡ Some n → tag a ≡ Some m → Moves ws l a → (use_of n s ≡ Into m) ⊎ (use_of n s ≡ Certain)
    flow l a n m e f z = go (use-cases n)
      where
        go : ((has n s.reads ≡ true) × (use_of n s ≡ Certain)) ⊎ (use_of n s ≡ move_of n s.writes) → (use_of n s ≡ Into m) ⊎ (use_of n s ≡ Certain)
        go (inl y) = inr y.1
        go (inr y) = inl (y ∙ one-target l a n m z (tag-number l n e) (tag-number a m f))

    unwritten : (a : Lane) (m : ℕ) → tag a ≡ Some m → Unwritten ws (owner_of a) → is_written m s ≡ false
    unwritten a m e n = go (is_written m s) refl
      where
        go : (b : Bool) → is_written m s ≡ b → is_written m s ≡ false
        go false f = f
        go true f = let z = writing-from num m ws f in absurd (n z.0 z.1 (names.names (owner_of z.0.lane) (owner_of a) m z.2 (tag-number a m e)))

    still : (a : Lane) (m : ℕ) → tag a ≡ Some m → Feeds i a a → (is_written m s ≡ false) ⊎ Moves ws a a
    still a m e f = go (moving.left a m e f)
      where
        go : Unwritten ws (owner_of a) ⊎ Moves ws a a → (is_written m s ≡ false) ⊎ Moves ws a a
        go (inl n) = inl (unwritten a m e n)
        go (inr z) = inr z

    flows : (l a : Lane) (n m : ℕ) → tag l ≡ Some n → tag a ≡ Some m → Feeds i l a → ((l ≡ a) × (is_written m s ≡ false)) ⊎ ((use_of n s ≡ Into m) ⊎ (use_of n s ≡ Certain))
    flows l a n m e f g = go (moving.given l a (names.free l n (tag-number l n e)) g)
      where
        at : l ≡ a → (is_written m s ≡ false) ⊎ Moves ws a a → ((l ≡ a) × (is_written m s ≡ false)) ⊎ ((use_of n s ≡ Into m) ⊎ (use_of n s ≡ Certain))
        at h (inl u) = inl (h, u)
        at h (inr z) = inr (flow l a n m e f (subst (λ x. Moves ws x a) (sym h) z))

        go : (l ≡ a) ⊎ Moves ws l a → ((l ≡ a) × (is_written m s ≡ false)) ⊎ ((use_of n s ≡ Into m) ⊎ (use_of n s ≡ Certain))
        go (inl h) = at h (still a m f (subst (λ x. Feeds i x a) h g))
        go (inr z) = inr (flow l a n m e f z)

    -- what goes to a reserved lane
    kept : (l a : Lane) (n : ℕ) → num (owner_of l) ≡ Some n → reserved a ≡ true → Feeds i l a → Moves ws l a
    kept l a n e r f = go (moving.given l a (names.free l n e) f)
      where
        go : (l ≡ a) ⊎ Moves ws l a → Moves ws l a
        go (inl h) = absurd (let g = names.free l n e in let k = ap reserved h in cc)
        go (inr z) = z

    kept-certain : (l a : Lane) (n : ℕ) → num (owner_of l) ≡ Some n → reserved a ≡ true → Moves ws l a → use_of n s ≡ Certain
    kept-certain l a n e r z = use-certain n (reading-in num n z.0 ws z.1 (ap (λ x. num (owner_of x)) z.2 ∙ unnumbered a r) (source-is num z.0 l n z.3 e))

    reads : (l : Lane) (n : ℕ) → tag l ≡ Some n → ReadBy reserved i l → use_of n s ≡ Certain
    reads l n e (inl z) = not-read z.0 z.1
    reads l n e (inr z) = kept-certain l z.0 n (tag-number l n e) z.1 (kept l z.0 n (tag-number l n e) z.1 z.2)

    is-reserved : (w : Write) → Member w ws → num (owner_of w.lane) ≡ None → (b : Bool) → reserved w.lane ≡ b → reserved w.lane ≡ true
    is-reserved w m e true f = f
    is-reserved w m e false f = let z = moving.written w m f in absurd (let g = tag-number w.lane z.0 z.1 in cc)

    certain : (n : ℕ) → use_of n s ≡ Certain → (l : Lane) × (tag l ≡ Some n) × ReadBy reserved i l
    certain n u = go (use-cases n)
      where
        go : ((has n s.reads ≡ true) × (use_of n s ≡ Certain)) ⊎ (use_of n s ≡ move_of n s.writes) → (l : Lane) × (tag l ≡ Some n) × ReadBy reserved i l
        go (inr e) = absurd (move-certain num n s.writes (sym e ∙ u))
        go (inl y) =
            let z = reading-from num n ws y.0 in
            let x = moved-by z.0 n z.1 z.3 in
            (x.0, source-tag x.0 z.0.lane n x.1 x.2, inr (z.0.lane, is-reserved z.0 z.1 z.2 (reserved z.0.lane) refl, moving.gives x.0 z.0.lane x.1))

    moves : (n m : ℕ) → use_of n s ≡ Into m → (a : Lane) → tag a ≡ Some m → (l : Lane) × (tag l ≡ Some n) × Reaches i l a
    moves n m u a e = go (use-cases n)
      where
        reach : (l : Lane) (w : Write) → Moves ws l w.lane → (a ≡ w.lane) ⊎ ((r : ℕ) × (k : ℕ) × (x : ℕ) × (y : ℕ) × (a ≡ SlotLane r k x) × (w.lane ≡ SlotLane r k y)) → Reaches i l a
        reach l w z (inl f) = inl (subst (Feeds i l) (sym f) (moving.gives l w.lane z))
        reach l w z (inr f) = inr (f.0, f.1, f.3, f.2, f.4, subst (Feeds i l) f.5 (moving.gives l w.lane z), moving.unslotted l w.lane z (ap is_slot f.5), moving.ends)

        go : ((has n s.reads ≡ true) × (use_of n s ≡ Certain)) ⊎ (use_of n s ≡ move_of n s.writes) → (l : Lane) × (tag l ≡ Some n) × Reaches i l a
        go (inl y) = absurd (let f = y.1 in cc)
        go (inr y) =
            let z = move-from num n m ws (sym y ∙ u) in
            let x = moved-by z.0 n z.1 z.3 in
            (x.0, source-tag x.0 z.0.lane n x.1 x.2, reach x.0 z.0 x.1 (owners-same a z.0.lane (names.names (owner_of a) (owner_of z.0.lane) m (tag-number a m e) z.2)))

    stays : (l : Lane) (n : ℕ) → tag l ≡ Some n → is_written n s ≡ false → Feeds i l l
    stays l n e f = moving.stays l (λ w m g. let h = writing-in num w n ws m (ap num g ∙ tag-number l n e) in absurd (cc))

    stores : (l : Lane) (p k w n : ℕ) → tag l ≡ Some n → is_slot l ≡ false → Feeds i l (SlotLane p k w) → (m : ℕ) × (tag (SlotLane p k w) ≡ Some m)
    stores l p k w n e ns f = go (moving.given l (SlotLane p k w) (names.free l n (tag-number l n e)) f)
      where
        go : (l ≡ SlotLane p k w) ⊎ Moves ws l (SlotLane p k w) → (m : ℕ) × (tag (SlotLane p k w) ≡ Some m)
        go (inl g) = absurd (let h = ap is_slot g in cc)
        go (inr z) = let y = moving.written z.0 z.1 (ap reserved z.2 ∙ slots (SlotLane p k w) refl) in (y.0, ap tag (sym z.2) ∙ y.1)

    tagged : (l : Lane) → reserved l ≡ false → ReadBy reserved i l → (n : ℕ) × (tag l ≡ Some n)
    tagged l r (inl z) = not-read z.0 z.1
    tagged l r (inr z) = go (moving.given l z.0 r z.2)
      where
        go : (l ≡ z.0) ⊎ Moves ws l z.0 → (n : ℕ) × (tag l ≡ Some n)
        go (inl g) = absurd (let h = ap reserved g in let k = z.1 in cc)
        go (inr y) = moving.sources l z.0 y r

    sources : (l a : Lane) → reserved l ≡ false → Feeds i l a → (l ≡ a) ⊎ ((n : ℕ) × (tag l ≡ Some n))
    sources l a r f = go (moving.given l a r f)
      where
        go : (l ≡ a) ⊎ Moves ws l a → (l ≡ a) ⊎ ((n : ℕ) × (tag l ≡ Some n))
        go (inl g) = inl g
        go (inr z) = inr (moving.sources l a z r)

    pub moving-step : IsStep reserved tag out i s
    moving-step = record {
      ordered = moving.ordered;
      exits = moving.ends;
      reads = reads;
      certain = certain;
      flows = flows;
      moves = moves;
      stays = stays;
      stores = stores;
      tagged = tagged;
      sources = sources;
    }

pub moving-law : MovingLaw
moving-law reserved num proper names others slots i out id ws moving = moving-step reserved num proper names others slots i out id ws moving
