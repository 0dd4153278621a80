-- An item whose moves are all of lanes that it reads in any case is a step that writes lanes and moves none.
use Rattle.std.proofs.Common.{◌≡◌, ◌⊎◌, ℕ, Bool, true, false, cond, ◌&&◌, List, [], ◌∷◌, ◌++◌, Option, Some, None, filter_map, refl, sym, ap, ◌∙◌, subst, inl, inr, eqb-true, eq-eqb, append-nil}
use Rattle.std.specs.Prelude.{nat_eq, option_and_then}
use Rattle.std.specs.List.{cons_option}
use Rattle.meaning.specs.declared.types.Lane.{Lane}
use Rattle.meaning.specs.declared.types.Lane.TheVariants.{VirtualLane, UnitLane, SlotLane}
use Rattle.meaning.specs.declared.types.Source.{Source}
use Rattle.meaning.specs.declared.types.Source.TheVariants.{FromLane, Undef, Bits}
use Rattle.meaning.specs.declared.types.Fill.{Fill}
use Rattle.meaning.specs.declared.types.Fill.TheVariants.{Moved}
use Rattle.meaning.specs.declared.types.Write.{Write}
use Rattle.meaning.specs.Lanes.{Writes, Reads, same_lane, filled}
use Rattle.meaning.specs.Code.{Edge, Item}
use Rattle.meaning.specs.Live.{Among as Member, here as first, there as later, reads_of, writes_of, exits_of as edges_of, Feeds, is_slot}
use Rattle.mir_meaning.specs.declared.writing.LaneDef.{LaneDef}
use Rattle.mir_meaning.specs.Paths.{Step, has, writing_of, is_some_number, Unused, Certain, Into, move_of, use_of, is_written, is_present}
use Rattle.mir_meaning.specs.Stands.{Tags, IsTagging, ReadBy, IsStep}
use Rattle.instr_effects.specs.declared.owner.Owner.{Owner}
use Rattle.instr_effects.specs.Owners.{owner_of, source_owner, fill_owner, owners_read}
use Rattle.instr_effects.specs.Acts.{read_owners, act_of, acts_of}
use Rattle.instr_effects.specs.Steps.{Numbering, is_unnumbered, writing, act_writing, act_writings, act_readings}
use Rattle.instr_effects.specs.Laws.{PlainLaw}
use Rattle.instr_effects.proofs.Members.{member-none, member-cases, member-elim, left-in, right-in, either-elim}
use Rattle.instr_effects.specs.Stepping.{tag_of, step_of, IsNumbering, IsPlain}

both-true : (a b : Bool) → (a && b) ≡ true → (a ≡ true) × (b ≡ true)
both-true true b e = (refl, e)
both-true false b e = absurd (cc)

-- lanes that the test calls one are one
pub same-is : (a b : Lane) → same_lane a b ≡ true → a ≡ b
same-is (VirtualLane v k) (VirtualLane w l) e = let h = both-true (nat_eq v w) (nat_eq k l) e in ap (λ x. VirtualLane x k) (eqb-true v w h.0) ∙ ap (VirtualLane w) (eqb-true k l h.1)
same-is (VirtualLane v k) (UnitLane u) e = absurd (cc)
same-is (VirtualLane v k) (SlotLane s j w) e = absurd (cc)
same-is (UnitLane u) (VirtualLane w l) e = absurd (cc)
same-is (UnitLane u) (UnitLane w) e = ap UnitLane (eqb-true u w e)
same-is (UnitLane u) (SlotLane s j w) e = absurd (cc)
same-is (SlotLane s k a) (VirtualLane w l) e = absurd (cc)
same-is (SlotLane s k a) (UnitLane u) e = absurd (cc)
same-is (SlotLane s k a) (SlotLane r j b) e =
    let h = both-true (nat_eq s r) (nat_eq k j && nat_eq a b) e in
    let g = both-true (nat_eq k j) (nat_eq a b) h.1 in
    ap (λ x. SlotLane x k a) (eqb-true s r h.0) ∙ ap (λ x. SlotLane r x a) (eqb-true k j g.0) ∙ ap (SlotLane r j) (eqb-true a b g.1)

same-true : (a : Lane) → same_lane a a ≡ true
same-true (VirtualLane v k) = ap (λ b. b && nat_eq k k) (eq-eqb v v refl) ∙ eq-eqb k k refl
same-true (UnitLane u) = eq-eqb u u refl
same-true (SlotLane s k w) = ap (λ b. b && (nat_eq k k && nat_eq w w)) (eq-eqb s s refl) ∙ ap (λ b. b && nat_eq w w) (eq-eqb k k refl) ∙ eq-eqb w w refl

abbrev FilledCase : Writes → Lane → Fill → Type 0
FilledCase ws a x = ((w : Write) × Member w ws × (w.lane ≡ a) × (x ≡ w.fill)) ⊎ ((x ≡ Moved (FromLane a)) × ((w : Write) → Member w ws → w.lane ≡ a → ⊥))

-- a lane after writes: that of the first write of it, or itself where there is none
pub filled-cases : (ws : Writes) (a : Lane) → ((w : Write) × Member w ws × (w.lane ≡ a) × (filled ws a ≡ w.fill)) ⊎ ((filled ws a ≡ Moved (FromLane a)) × ((w : Write) → Member w ws → w.lane ≡ a → ⊥))
filled-cases [] a = inr (refl, λ w m e. member-none w m)
filled-cases (v ∷ ws) a = go (same_lane v.lane a) refl (filled-cases ws a)
  where
    not-first : same_lane v.lane a ≡ false → v.lane ≡ a → ⊥
    not-first e f = let g : same_lane v.lane a ≡ true = ap (λ x. same_lane x a) f ∙ same-true a in cc

    other : same_lane v.lane a ≡ false → ((w : Write) → Member w ws → w.lane ≡ a → ⊥) → (w : Write) → (w ≡ v) ⊎ Member w ws → w.lane ≡ a → ⊥
    other e n w (inl f) g = not-first e (ap (λ x. x.lane) (sym f) ∙ g)
    other e n w (inr m) g = n w m g

    go : (b : Bool) → same_lane v.lane a ≡ b → ((w : Write) × Member w ws × (w.lane ≡ a) × (filled ws a ≡ w.fill)) ⊎ ((filled ws a ≡ Moved (FromLane a)) × ((w : Write) → Member w ws → w.lane ≡ a → ⊥)) → FilledCase (v ∷ ws) a (cond b v.fill (filled ws a))
    go true e ih = inl (v, first, same-is v.lane a e, refl)
    go false e (inl z) = inl (z.0, later z.1, z.2, z.3)
    go false e (inr z) = inr (z.0, λ w m f. other e z.1 w (member-cases w v ws m) f)

pub moved-same : (a c : Lane) → Moved (FromLane a) ≡ Moved (FromLane c) → a ≡ c
moved-same a c e = cc

some-same : {X : Type 0} (x y : X) → Some x ≡ Some y → x ≡ y
some-same x y e = cc

-- numbers in a list

has-left : (n : ℕ) (xs ys : List ℕ) → has n xs ≡ true → has n (xs ++ ys) ≡ true
has-left n [] ys e = absurd (cc)
has-left n (x ∷ xs) ys e = go (nat_eq x n) e (has-left n xs ys)
  where
    go : (b : Bool) → cond b true (has n xs) ≡ true → (has n xs ≡ true → has n (xs ++ ys) ≡ true) → cond b true (has n (xs ++ ys)) ≡ true
    go true e ih = refl
    go false e ih = ih e

has-right : (n : ℕ) (xs ys : List ℕ) → has n ys ≡ true → has n (xs ++ ys) ≡ true
has-right n [] ys e = e
has-right n (x ∷ xs) ys e = go (nat_eq x n) (has-right n xs ys e)
  where
    go : (b : Bool) → has n (xs ++ ys) ≡ true → cond b true (has n (xs ++ ys)) ≡ true
    go true h = refl
    go false h = h

has-cases : (n : ℕ) (xs ys : List ℕ) → has n (xs ++ ys) ≡ true → (has n xs ≡ true) ⊎ (has n ys ≡ true)
has-cases n [] ys e = inr e
has-cases n (x ∷ xs) ys e = go (nat_eq x n) e (has-cases n xs ys)
  where
    go : (b : Bool) → cond b true (has n (xs ++ ys)) ≡ true → (has n (xs ++ ys) ≡ true → (has n xs ≡ true) ⊎ (has n ys ≡ true)) → (cond b true (has n xs) ≡ true) ⊎ (has n ys ≡ true)
    go true e ih = inl refl
    go false e ih = ih e

has-first : (n : ℕ) (xs : List ℕ) → has n (n ∷ xs) ≡ true
has-first n xs = ap (λ b. cond b true (has n xs)) (eq-eqb n n refl)

has-later : (n x : ℕ) (xs : List ℕ) → has n xs ≡ true → has n (x ∷ xs) ≡ true
has-later n x xs e = go (nat_eq x n)
  where
    go : (b : Bool) → cond b true (has n xs) ≡ true
    go true = refl
    go false = e

-- numbers of owners

owners-in : (num : Numbering) (o : Owner) (n : ℕ) (os : List Owner) → Member o os → num o ≡ Some n → has n (filter_map num os) ≡ true
owners-in num o n [] m e = absurd (member-none o m)
owners-in num o n (p ∷ os) m e =
    member-elim o p os (λ f. subst (λ q. has n (cons_option q (filter_map num os)) ≡ true) (sym (ap num (sym f) ∙ e)) (has-first n (filter_map num os))) (λ k. past (num p) (owners-in num o n os k e)) m
  where
    past : (q : Option ℕ) → has n (filter_map num os) ≡ true → has n (cons_option q (filter_map num os)) ≡ true
    past None h = h
    past (Some x) h = has-later n x (filter_map num os) h

owners-of : (num : Numbering) (n : ℕ) (os : List Owner) → has n (filter_map num os) ≡ true → (o : Owner) × Member o os × (num o ≡ Some n)
owners-of num n [] e = absurd (cc)
owners-of num n (p ∷ os) e = go (num p) refl e (owners-of num n os)
  where
    more : ((o : Owner) × Member o os × (num o ≡ Some n)) → (o : Owner) × Member o (p ∷ os) × (num o ≡ Some n)
    more z = (z.0, later z.1, z.2)

    by : (x : ℕ) → num p ≡ Some x → (b : Bool) → nat_eq x n ≡ b → cond b true (has n (filter_map num os)) ≡ true → (has n (filter_map num os) ≡ true → (o : Owner) × Member o os × (num o ≡ Some n)) → (o : Owner) × Member o (p ∷ os) × (num o ≡ Some n)
    by x f true g h ih = (p, first, f ∙ ap Some (eqb-true x n g))
    by x f false g h ih = more (ih h)

    go : (q : Option ℕ) → num p ≡ q → has n (cons_option q (filter_map num os)) ≡ true → (has n (filter_map num os) ≡ true → (o : Owner) × Member o os × (num o ≡ Some n)) → (o : Owner) × Member o (p ∷ os) × (num o ≡ Some n)
    go None f h ih = more (ih h)
    go (Some x) f h ih = by x f (nat_eq x n) refl h ih

-- sources and their owners

source-in : (l : Lane) (ss : List Source) → Member (FromLane l) ss → Member (owner_of l) (owners_read ss)
source-in l [] m = absurd (member-none (FromLane l) m)
source-in l (s ∷ ss) m =
    member-elim (FromLane l) s ss (λ e. subst (λ x. Member (owner_of l) (cons_option (source_owner x) (owners_read ss))) e first) (λ k. past (source_owner s) (source-in l ss k)) m
  where
    past : (q : Option Owner) → Member (owner_of l) (owners_read ss) → Member (owner_of l) (cons_option q (owners_read ss))
    past None k = k
    past (Some o) k = later k

source-of : (o : Owner) (ss : List Source) → Member o (owners_read ss) → (l : Lane) × Member (FromLane l) ss × (owner_of l ≡ o)
source-of o [] m = absurd (member-none o m)
source-of o (FromLane l ∷ ss) m = member-elim o (owner_of l) (owners_read ss) (λ e. (l, first, sym e)) (λ k. let z = source-of o ss k in (z.0, later z.1, z.2)) m
source-of o (Undef ∷ ss) m = let z = source-of o ss m in (z.0, later z.1, z.2)
source-of o (Bits c low w ∷ ss) m = let z = source-of o ss m in (z.0, later z.1, z.2)

read-in : (l : Lane) (ss : List Source) (rs : Reads) → Member ss rs → Member (FromLane l) ss → Member (owner_of l) (read_owners rs)
read-in l ss [] m k = absurd (member-none ss m)
read-in l ss (r ∷ rs) m k =
    member-elim ss r rs (λ e. left-in (owner_of l) (owners_read r) (read_owners rs) (subst (λ x. Member (owner_of l) (owners_read x)) e (source-in l ss k)))
    (λ j. right-in (owner_of l) (owners_read r) (read_owners rs) (read-in l ss rs j k)) m

read-of : (o : Owner) (rs : Reads) → Member o (read_owners rs) → (ss : List Source) × (l : Lane) × Member ss rs × Member (FromLane l) ss × (owner_of l ≡ o)
read-of o [] m = absurd (member-none o m)
read-of o (r ∷ rs) m =
    either-elim o (owners_read r) (read_owners rs) (λ k. let z = source-of o r k in (r, z.0, first, z.1, z.2)) (λ k. let z = read-of o rs k in (z.0, z.1, later z.2, z.3, z.4)) m

-- writings

writing-in : (num : Numbering) (w : Write) (n : ℕ) (ws : Writes) → Member w ws → num (owner_of w.lane) ≡ Some n → is_present (writing_of n (act_writings num (acts_of ws))) ≡ true
writing-in num w n [] m e = absurd (member-none w m)
writing-in num w n (v ∷ ws) m e = member-elim w v ws (λ f. at (num (owner_of v.lane)) (ap (λ x. num (owner_of x.lane)) (sym f) ∙ e)) (λ k. past (act_writing num (act_of v)) (writing-in num w n ws k e)) m
  where
    rest : List LaneDef
    rest = act_writings num (acts_of ws)

    past : (q : Option LaneDef) → is_present (writing_of n rest) ≡ true → is_present (writing_of n (cons_option q rest)) ≡ true
    past None h = h
    past (Some x) h = by (nat_eq x.lane n)
      where
        by : (b : Bool) → is_present (cond b (Some x) (writing_of n rest)) ≡ true
        by true = refl
        by false = h

    at : (q : Option ℕ) → q ≡ Some n → is_present (writing_of n (cons_option (elim q [ None ↦ None | Some k ↦ Some (writing num (act_of v) k) ]) rest)) ≡ true
    at None f = absurd (cc)
    at (Some k) f = ap (λ b. is_present (cond b (Some (writing num (act_of v) k)) (writing_of n rest))) (eq-eqb k n (some-same k n f))

writing-from : (num : Numbering) (n : ℕ) (ws : Writes) → is_present (writing_of n (act_writings num (acts_of ws))) ≡ true → (w : Write) × Member w ws × (num (owner_of w.lane) ≡ Some n)
writing-from num n [] e = absurd (cc)
writing-from num n (v ∷ ws) e = go (num (owner_of v.lane)) refl e (writing-from num n ws)
  where
    rest : List LaneDef
    rest = act_writings num (acts_of ws)

    more : ((w : Write) × Member w ws × (num (owner_of w.lane) ≡ Some n)) → (w : Write) × Member w (v ∷ ws) × (num (owner_of w.lane) ≡ Some n)
    more z = (z.0, later z.1, z.2)

    by : (k : ℕ) → num (owner_of v.lane) ≡ Some k → (b : Bool) → nat_eq k n ≡ b → is_present (cond b (Some (writing num (act_of v) k)) (writing_of n rest)) ≡ true → (is_present (writing_of n rest) ≡ true → (w : Write) × Member w ws × (num (owner_of w.lane) ≡ Some n)) → (w : Write) × Member w (v ∷ ws) × (num (owner_of w.lane) ≡ Some n)
    by k f true g h ih = (v, first, f ∙ ap Some (eqb-true k n g))
    by k f false g h ih = more (ih h)

    go : (q : Option ℕ) → num (owner_of v.lane) ≡ q → is_present (writing_of n (cons_option (elim q [ None ↦ None | Some k ↦ Some (writing num (act_of v) k) ]) rest)) ≡ true → (is_present (writing_of n rest) ≡ true → (w : Write) × Member w ws × (num (owner_of w.lane) ≡ Some n)) → (w : Write) × Member w (v ∷ ws) × (num (owner_of w.lane) ≡ Some n)
    go None f h ih = more (ih h)
    go (Some k) f h ih = by k f (nat_eq k n) refl h ih

-- writes that move nothing

unmoved-readings : (num : Numbering) (ws : Writes) → ((w : Write) → Member w ws → fill_owner w.fill ≡ None) → act_readings num (acts_of ws) ≡ []
unmoved-readings num [] h = refl
unmoved-readings num (v ∷ ws) h = ap (λ q. cons_option q (act_readings num (acts_of ws))) (none (num (owner_of v.lane))) ∙ unmoved-readings num ws (λ w m. h w (later m))
  where
    from : option_and_then num (fill_owner v.fill) ≡ None
    from = ap (option_and_then num) (h v first)

    none : (q : Option ℕ) → cond (is_unnumbered q) (option_and_then num (fill_owner v.fill)) None ≡ None
    none None = from
    none (Some k) = refl

unmoved-moves : (num : Numbering) (n : ℕ) (ws : Writes) → ((w : Write) → Member w ws → fill_owner w.fill ≡ None) → move_of n (act_writings num (acts_of ws)) ≡ Unused
unmoved-moves num n [] h = refl
unmoved-moves num n (v ∷ ws) h = go (num (owner_of v.lane)) (unmoved-moves num n ws (λ w m. h w (later m)))
  where
    rest : List LaneDef
    rest = act_writings num (acts_of ws)

    go : (q : Option ℕ) → move_of n rest ≡ Unused → move_of n (cons_option (elim q [ None ↦ None | Some k ↦ Some (writing num (act_of v) k) ]) rest) ≡ Unused
    go None ih = ih
    go (Some k) ih = ap (λ f. cond (is_some_number n (option_and_then num f)) (Into k) (move_of n rest)) (h v first) ∙ ih

module _ (reserved : Lane → Bool) (num : Numbering) (proper : Lane → Bool) (names : IsNumbering reserved num) (others : (l : Lane) → is_slot l ≡ false → proper l ≡ true) where
  abbrev tag : Tags
  tag = tag_of num proper

  tag-number : (l : Lane) (n : ℕ) → tag l ≡ Some n → num (owner_of l) ≡ Some n
  tag-number l n e = go (proper l) e
    where
      go : (b : Bool) → cond b (num (owner_of l)) None ≡ Some n → num (owner_of l) ≡ Some n
      go true f = f
      go false f = absurd (cc)

  owners-same : (l a : Lane) → owner_of l ≡ owner_of a → (l ≡ a) ⊎ ((is_slot l ≡ true) × (is_slot a ≡ true))
  owners-same (VirtualLane v k) (VirtualLane w j) e = inl (cc)
  owners-same (VirtualLane v k) (UnitLane u) e = absurd (cc)
  owners-same (VirtualLane v k) (SlotLane s j w) e = absurd (cc)
  owners-same (UnitLane u) (VirtualLane w j) e = absurd (cc)
  owners-same (UnitLane u) (UnitLane w) e = inl (cc)
  owners-same (UnitLane u) (SlotLane s j w) e = absurd (cc)
  owners-same (SlotLane s k x) (VirtualLane w j) e = absurd (cc)
  owners-same (SlotLane s k x) (UnitLane u) e = absurd (cc)
  owners-same (SlotLane s k x) (SlotLane r j w) e = inr (refl, refl)

  -- lanes by the numbers of their owners
  pub tagging : IsTagging reserved tag
  tagging = record {
    apart = λ l a n e f. owners-same l a (names.names (owner_of l) (owner_of a) n (tag-number l n e) (tag-number a n f));
    slots = λ s k w x n m e f. some-same n m (sym (tag-number (SlotLane s k w) n e) ∙ tag-number (SlotLane s k x) m f);
    free = λ l n e. names.free l n (tag-number l n e);
  }

  plain-lane : (l a : Lane) (n : ℕ) → is_slot a ≡ false → num (owner_of l) ≡ Some n → num (owner_of a) ≡ Some n → l ≡ a
  plain-lane l a n ns e f = go (owners-same l a (names.names (owner_of l) (owner_of a) n e f))
    where
      go : (l ≡ a) ⊎ ((is_slot l ≡ true) × (is_slot a ≡ true)) → l ≡ a
      go (inl g) = g
      go (inr z) = absurd (let h = z.1 in cc)

  module _ (i : Item) (out : List Edge) (id : ℕ) (leaves : Bool) (ws : Writes) (exits : edges_of i ≡ cond leaves out []) (plain : IsPlain reserved tag i ws) where
    abbrev s : Step
    s = step_of num id leaves (reads_of i) ws

    reads-are : s.reads ≡ filter_map num (read_owners (reads_of i))
    reads-are = ap (λ x. filter_map num (read_owners (reads_of i)) ++ x) (unmoved-readings num ws plain.unmoved) ∙ append-nil (filter_map num (read_owners (reads_of i)))

    use-certain : (n : ℕ) → has n s.reads ≡ true → use_of n s ≡ Certain
    use-certain n e = ap (λ b. cond b Certain (move_of n s.writes)) e

    use-cases : (n : ℕ) → ((has n s.reads ≡ true) × (use_of n s ≡ Certain)) ⊎ (use_of n s ≡ Unused)
    use-cases n = go (has n s.reads) refl
      where
        go : (b : Bool) → has n s.reads ≡ b → ((has n s.reads ≡ true) × (use_of n s ≡ Certain)) ⊎ (use_of n s ≡ Unused)
        go true e = inl (e, use-certain n e)
        go false e = inr (ap (λ b. cond b Certain (move_of n s.writes)) e ∙ unmoved-moves num n ws plain.unmoved)

    read-certain : (l : Lane) (n : ℕ) (ss : List Source) → tag l ≡ Some n → Member ss (reads_of i) → Member (FromLane l) ss → use_of n s ≡ Certain
    read-certain l n ss e m k = use-certain n (subst (λ x. has n x ≡ true) (sym reads-are) (owners-in num (owner_of l) n (read_owners (reads_of i)) (read-in l ss (reads_of i) m k) (tag-number l n e)))

    -- what feeds a lane that isn't itself is read
    fed : (l a : Lane) → reserved l ≡ false → Feeds i l a → ((l ≡ a) × ((w : Write) → Member w (writes_of i) → w.lane ≡ a → ⊥)) ⊎ ((ss : List Source) × Member ss (reads_of i) × Member (FromLane l) ss)
    fed l a r f = go (filled-cases (writes_of i) a)
      where
        go : ((w : Write) × Member w (writes_of i) × (w.lane ≡ a) × (filled (writes_of i) a ≡ w.fill)) ⊎ ((filled (writes_of i) a ≡ Moved (FromLane a)) × ((w : Write) → Member w (writes_of i) → w.lane ≡ a → ⊥)) → ((l ≡ a) × ((w : Write) → Member w (writes_of i) → w.lane ≡ a → ⊥)) ⊎ ((ss : List Source) × Member ss (reads_of i) × Member (FromLane l) ss)
        go (inl z) = inr (plain.read z.0 l z.1 (sym z.3 ∙ f) r)
        go (inr z) = inl (moved-same l a (sym f ∙ z.0), z.1)

    unwritten : (a : Lane) (m : ℕ) → tag a ≡ Some m → ((w : Write) → Member w (writes_of i) → w.lane ≡ a → ⊥) → is_written m s ≡ false
    unwritten a m e n = go (is_written m s) refl
      where
        go : (b : Bool) → is_written m s ≡ b → is_written m s ≡ false
        go false f = f
        go true f =
            let z = writing-from num m ws f in
            let same : a ≡ z.0.lane = plain-lane a z.0.lane m (plain.unslotted z.0 z.1) (tag-number a m e) z.2 in
            let y = plain.covers z.0 z.1 (names.free z.0.lane m z.2) in
            absurd (n y.0 y.1 (y.2 ∙ sym same))

    kept-read : (l a : Lane) → reserved l ≡ false → reserved a ≡ true → Feeds i l a → (ss : List Source) × Member ss (reads_of i) × Member (FromLane l) ss
    kept-read l a r q f = go (fed l a r f)
      where
        go : ((l ≡ a) × ((w : Write) → Member w (writes_of i) → w.lane ≡ a → ⊥)) ⊎ ((ss : List Source) × Member ss (reads_of i) × Member (FromLane l) ss) → (ss : List Source) × Member ss (reads_of i) × Member (FromLane l) ss
        go (inl z) = absurd (let h = ap reserved z.0 in cc)
        go (inr z) = z

    read-by : (l : Lane) → reserved l ≡ false → ReadBy reserved i l → (ss : List Source) × Member ss (reads_of i) × Member (FromLane l) ss
    read-by l r (inl z) = z
    read-by l r (inr z) = kept-read l z.0 r z.1 z.2

    pub plain-step : IsStep reserved tag out i s
    plain-step = record {
      ordered = plain.ordered;
      exits = exits;
      reads = λ l n e u. let z = read-by l (names.free l n (tag-number l n e)) u in read-certain l n z.0 e z.1 z.2;
      certain = λ n u. from-certain n u (use-cases n);
      flows = λ l a n m e f g. flow l a n m e f (fed l a (names.free l n (tag-number l n e)) g);
      moves = λ n m u a e. absurd (no-move n m u (use-cases n));
      stays = λ l n e u. stay l n e u (filled-cases (writes_of i) l);
      stores = λ l p k w n e ns f. absurd (no-store l p k w ns f (names.free l n (tag-number l n e)));
      tagged = λ l r u. let z = read-by l r u in plain.numbered l z.0 z.1 z.2 r;
      sources = λ l a r f. source l a r (fed l a r f);
    }
      where
        from-certain : (n : ℕ) → use_of n s ≡ Certain → ((has n s.reads ≡ true) × (use_of n s ≡ Certain)) ⊎ (use_of n s ≡ Unused) → (l : Lane) × (tag l ≡ Some n) × ReadBy reserved i l
        from-certain n u (inr e) = absurd (cc)
        from-certain n u (inl z) =
            let y = owners-of num n (read_owners (reads_of i)) (subst (λ x. has n x ≡ true) reads-are z.0) in
            let x = read-of y.0 (reads_of i) y.1 in
            let e : num (owner_of x.1) ≡ Some n = ap num x.4 ∙ y.2 in
            (x.1, ap (λ b. cond b (num (owner_of x.1)) None) (others x.1 (plain.proper x.1 x.0 x.2 x.3)) ∙ e, inl (x.0, x.2, x.3))

        flow : (l a : Lane) (n m : ℕ) → tag l ≡ Some n → tag a ≡ Some m → ((l ≡ a) × ((w : Write) → Member w (writes_of i) → w.lane ≡ a → ⊥)) ⊎ ((ss : List Source) × Member ss (reads_of i) × Member (FromLane l) ss) → ((l ≡ a) × (is_written m s ≡ false)) ⊎ ((use_of n s ≡ Into m) ⊎ (use_of n s ≡ Certain))
        flow l a n m e f (inl z) = inl (z.0, unwritten a m f z.1)
        flow l a n m e f (inr z) = inr (inr (read-certain l n z.0 e z.1 z.2))

        no-move : (n m : ℕ) → use_of n s ≡ Into m → ((has n s.reads ≡ true) × (use_of n s ≡ Certain)) ⊎ (use_of n s ≡ Unused) → ⊥
        no-move n m u (inl z) = let h = z.1 in cc
        no-move n m u (inr h) = cc

        stay : (l : Lane) (n : ℕ) → tag l ≡ Some n → is_written n s ≡ false → ((w : Write) × Member w (writes_of i) × (w.lane ≡ l) × (filled (writes_of i) l ≡ w.fill)) ⊎ ((filled (writes_of i) l ≡ Moved (FromLane l)) × ((w : Write) → Member w (writes_of i) → w.lane ≡ l → ⊥)) → Feeds i l l
        stay l n e u (inr z) = z.0
        stay l n e u (inl z) =
            let r : reserved z.0.lane ≡ false = ap reserved z.2 ∙ names.free l n (tag-number l n e) in
            let y = plain.covered z.0 z.1 r in
            let k : num (owner_of y.0.lane) ≡ Some n = ap (λ x. num (owner_of x)) (y.2 ∙ z.2) ∙ tag-number l n e in
            let h = writing-in num y.0 n ws y.1 k in
            absurd (cc)

        no-store : (l : Lane) (p k w : ℕ) → is_slot l ≡ false → Feeds i l (SlotLane p k w) → reserved l ≡ false → ⊥
        no-store l p k w ns f r = go (filled-cases (writes_of i) (SlotLane p k w))
          where
            go : ((v : Write) × Member v (writes_of i) × (v.lane ≡ SlotLane p k w) × (filled (writes_of i) (SlotLane p k w) ≡ v.fill)) ⊎ ((filled (writes_of i) (SlotLane p k w) ≡ Moved (FromLane (SlotLane p k w))) × ((v : Write) → Member v (writes_of i) → v.lane ≡ SlotLane p k w → ⊥)) → ⊥
            go (inr z) = let e = ap is_slot (moved-same l (SlotLane p k w) (sym f ∙ z.0)) in cc
            go (inl z) = let e = sym (plain.still z.0 z.1) ∙ ap is_slot z.2 in cc

        source : (l a : Lane) → reserved l ≡ false → ((l ≡ a) × ((w : Write) → Member w (writes_of i) → w.lane ≡ a → ⊥)) ⊎ ((ss : List Source) × Member ss (reads_of i) × Member (FromLane l) ss) → (l ≡ a) ⊎ ((n : ℕ) × (tag l ≡ Some n))
        source l a r (inl z) = inl z.0
        source l a r (inr z) = inr (plain.numbered l z.0 z.1 z.2 r)

pub plain-law : PlainLaw
plain-law reserved num proper names others = (
  tagging reserved num proper names others,
  (λ i out id leaves ws exits plain. plain-step reserved num proper names others i out id leaves ws exits plain),
)
