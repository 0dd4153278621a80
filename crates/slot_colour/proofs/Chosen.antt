-- Which slots the choice makes one.
use Rattle.std.proofs.Common.{◌≡◌, ◌⊎◌, ℕ, Bool, true, false, cond, ◌&&◌, List, [], ◌∷◌, ◌++◌, Option, Some, None, filter, inl, inr, refl, sym, ap, ◌∙◌, subst, eqb-true, eq-eqb}
use Rattle.std.specs.Prelude.{find, nat_eq, nat_le}
use Rattle.std.specs.List.{list_any}
use Rattle.std.proofs.lemmas.Bool.{and_from, not-true}
use Rattle.target_base.specs.Names.{are_distinct_numbers}
use Rattle.target_base.proofs.Tests.{first_of_both, second_of_both}
use Rattle.meaning.specs.Live.{Among as Member, here as first, there as later}
use Rattle.mir_func.specs.Value.{Function}
use Rattle.mir_meaning.specs.Rules.{is_spill_slot}
use Rattle.instr_effects.proofs.Members.{member-none, member-elim, left-in, right-in, either-elim, map-of, filter-of}
use Rattle.live_laws.proofs.Effects.Moved.{Apart}
use Rattle.live_laws.proofs.Effects.Lists.{any-in, distinct-apart}
use Rattle.slot_colour.specs.declared.lines.FrameLine.{FrameLine}
use Rattle.slot_colour.specs.declared.choice.TakenSlot.{TakenSlot}
use Rattle.slot_colour.specs.Lines.{declared_in}
use Rattle.slot_colour.specs.Colouring.{put_rising, spills_onto, spill_slots, text_of, refuses, is_refused, may_join, number_or, home, placed, taken_on, chosen, kept_or, home_of}
use Rattle.slot_colour.specs.Kept.{spill_numbers}
use Rattle.slot_laws.proofs.Lists.{any-none, found-in, none-found}

-- one of a list, or the last one behind it
last-elim : {X P : Type 0} (x y : X) (xs : List X) → (Member x xs → P) → (x ≡ y → P) → Member x (xs ++ y ∷ []) → P
last-elim x y xs f g m = either-elim x xs (y ∷ []) f (λ k. member-elim x y [] g (λ j. absurd (member-none x j)) k) m

-- the slots that are taken

-- where a slot that is placed goes: it is kept itself, or it joins a kept one with none of whose members it clashes
module _ (clash : ℕ → ℕ → Bool) (taken : List TakenSlot) (n : ℕ) (text : List ℕ) where
  abbrev pub Joined : Type 0
  Joined = (k : TakenSlot) × Member k taken × (home clash taken n text ≡ k.number) × (k.kept ≡ k.number) × ((q : TakenSlot) → Member q taken → q.kept ≡ k.number → clash n q.number ≡ false)

  abbrev joins : TakenSlot → Bool
  joins k = may_join clash taken n text k

  pub home-cases : (home clash taken n text ≡ n) ⊎ Joined
  home-cases = go (find joins taken) refl
    where
      quiet : (k q : TakenSlot) → is_refused clash taken n k.number ≡ false → Member q taken → q.kept ≡ k.number → clash n q.number ≡ false
      quiet k q e m g = sym (ap (λ b. b && clash n q.number) (eq-eqb q.kept k.number g)) ∙ any-none (refuses clash n k.number) q taken m e

      go : (q : Option TakenSlot) → find joins taken ≡ q → (home clash taken n text ≡ n) ⊎ Joined
      go None e = inl (ap (number_or n) e)
      go (Some k) e =
          let z = found-in joins taken k e in
          let kept : k.kept ≡ k.number = eqb-true k.kept k.number (first_of_both _ _ (first_of_both _ _ z.1)) in
          let free : is_refused clash taken n k.number ≡ false = not-true (is_refused clash taken n k.number) (second_of_both _ _ z.1) in
          inr (k, z.0, ap (number_or n) e, kept, (λ q m g. quiet k q free m g))

-- what holds of slots that are taken, where these numbers are to come
pub record Sound (clash : ℕ → ℕ → Bool) (taken : List TakenSlot) (ns : List ℕ) : Type 0 where
  -- each number stands once, and none of those to come
  pub once : (a b : TakenSlot) → Member a taken → Member b taken → a.number ≡ b.number → a ≡ b
  pub new : (a : TakenSlot) → Member a taken → Member a.number ns → ⊥
  -- each goes to a kept one
  pub kept : (a : TakenSlot) → Member a taken → (k : TakenSlot) × Member k taken × (k.number ≡ a.kept) × (k.kept ≡ k.number)
  -- two that go to one don't clash
  pub apart : (a b : TakenSlot) → Member a taken → Member b taken → a.kept ≡ b.kept → (a.number ≡ b.number → ⊥) → (clash a.number b.number ≡ false) ⊎ (clash b.number a.number ≡ false)

module _ (clash : ℕ → ℕ → Bool) (lines : List FrameLine) where
  module _ (taken : List TakenSlot) (n : ℕ) (ns : List ℕ) (s : Sound clash taken (n ∷ ns)) where
    abbrev p : TakenSlot
    p = placed clash lines taken n

    -- one that is taken and goes where the new one goes doesn't clash with it
    joined-apart : (q : TakenSlot) → Member q taken → q.kept ≡ p.kept → clash n q.number ≡ false
    joined-apart q m e = go (home-cases clash taken n (text_of lines n))
      where
        go : (home clash taken n (text_of lines n) ≡ n) ⊎ Joined clash taken n (text_of lines n) → clash n q.number ≡ false
        go (inl h) = let x = s.kept q m in absurd (s.new x.0 x.1 (subst (λ y. Member y (n ∷ ns)) (sym (x.2 ∙ e ∙ h)) first))
        go (inr z) = z.4 q m (e ∙ z.2)

    number-is : (a : TakenSlot) → a ≡ p → a.number ≡ n
    number-is a h = ap (λ (x : TakenSlot). x.number) h

    kept-is : (a : TakenSlot) → a ≡ p → a.kept ≡ p.kept
    kept-is a h = ap (λ (x : TakenSlot). x.kept) h

    -- no slot that is taken has the number
    taken-other : (a : TakenSlot) → Member a taken → a.number ≡ n → ⊥
    taken-other a m e = s.new a m (subst (λ y. Member y (n ∷ ns)) (sym e) first)

    abbrev Kept : TakenSlot → Type 0
    Kept a = (k : TakenSlot) × Member k (taken ++ p ∷ []) × (k.number ≡ a.kept) × (k.kept ≡ k.number)

    kept-of : (a : TakenSlot) → Member a (taken ++ p ∷ []) → Kept a
    kept-of a m = last-elim a p taken (λ j. wide (s.kept a j)) (λ h. own h (home-cases clash taken n (text_of lines n))) m
      where
        wide : ((k : TakenSlot) × Member k taken × (k.number ≡ a.kept) × (k.kept ≡ k.number)) → Kept a
        wide z = (z.0, left-in z.0 taken (p ∷ []) z.1, z.2, z.3)

        own : a ≡ p → (home clash taken n (text_of lines n) ≡ n) ⊎ Joined clash taken n (text_of lines n) → Kept a
        own h (inl e) = (p, right-in p taken (p ∷ []) first, sym (kept-is a h ∙ e), e)
        own h (inr z) = (z.0, left-in z.0 taken (p ∷ []) z.1, sym (kept-is a h ∙ z.2), z.3)

    abbrev Apart2 : TakenSlot → TakenSlot → Type 0
    Apart2 a b = (clash a.number b.number ≡ false) ⊎ (clash b.number a.number ≡ false)

    apart-of : (a b : TakenSlot) → Member a (taken ++ p ∷ []) → Member b (taken ++ p ∷ []) → a.kept ≡ b.kept → (a.number ≡ b.number → ⊥) → Apart2 a b
    apart-of a b ma mb e d =
        last-elim a p taken
        (λ k. last-elim b p taken (λ j. s.apart a b k j e d) (λ g. inr (subst (λ x. clash x a.number ≡ false) (sym (number-is b g)) (joined-apart a k (e ∙ kept-is b g)))) mb)
        (λ h. last-elim b p taken (λ j. inl (subst (λ x. clash x b.number ≡ false) (sym (number-is a h)) (joined-apart b j (sym e ∙ kept-is a h)))) (λ g. absurd (d (number-is a h ∙ sym (number-is b g)))) mb)
        ma

    once-of : (a b : TakenSlot) → Member a (taken ++ p ∷ []) → Member b (taken ++ p ∷ []) → a.number ≡ b.number → a ≡ b
    once-of a b ma mb e =
        last-elim a p taken
        (λ k. last-elim b p taken (λ j. s.once a b k j e) (λ g. absurd (taken-other a k (e ∙ number-is b g))) mb)
        (λ h. last-elim b p taken (λ j. absurd (taken-other b j (sym e ∙ number-is a h))) (λ g. h ∙ sym g) mb)
        ma

    next-sound : (Member n ns → ⊥) → Sound clash (taken ++ p ∷ []) ns
    next-sound fresh = record {
      once = once-of;
      new = λ a m k. last-elim a p taken (λ j. s.new a j (later k)) (λ h. fresh (subst (λ y. Member y ns) (number-is a h) k)) m;
      kept = kept-of;
      apart = apart-of;
    }

  all-sound : (taken : List TakenSlot) (ns : List ℕ) → Apart ns → Sound clash taken ns → Sound clash (taken_on clash lines taken ns) []
  all-sound taken [] a s = s
  all-sound taken (n ∷ ns) a s = all-sound (taken ++ placed clash lines taken n ∷ []) ns a.1 (next-sound taken n ns s a.0)

  -- the numbers of those that are taken
  taken-number : (taken : List TakenSlot) (ns : List ℕ) (a : TakenSlot) → Member a (taken_on clash lines taken ns) → Member a taken ⊎ Member a.number ns
  taken-number taken [] a m = inl m
  taken-number taken (n ∷ ns) a m = go (taken-number (taken ++ placed clash lines taken n ∷ []) ns a m)
    where
      go : Member a (taken ++ placed clash lines taken n ∷ []) ⊎ Member a.number ns → Member a taken ⊎ Member a.number (n ∷ ns)
      go (inl k) = last-elim a (placed clash lines taken n) taken (λ j. inl j) (λ h. inr (subst (λ x. Member x (n ∷ ns)) (sym (ap (λ (x : TakenSlot). x.number) h)) first)) k
      go (inr k) = inr (later k)

-- the spill slots of a function, by rising number

put-of : (x n : ℕ) (xs : List ℕ) → Member x (put_rising n xs) → (x ≡ n) ⊎ Member x xs
put-of x n [] m = member-elim x n [] (λ e. inl e) (λ k. inr k) m
put-of x n (y ∷ xs) m = go (nat_le n y) m (put-of x n xs)
  where
    up : (x ≡ n) ⊎ Member x xs → (x ≡ n) ⊎ Member x (y ∷ xs)
    up (inl e) = inl e
    up (inr k) = inr (later k)

    go : (b : Bool) → Member x (cond b (n ∷ y ∷ xs) (y ∷ put_rising n xs)) → (Member x (put_rising n xs) → (x ≡ n) ⊎ Member x xs) → (x ≡ n) ⊎ Member x (y ∷ xs)
    go true k ih = member-elim x n (y ∷ xs) (λ e. inl e) (λ j. inr j) k
    go false k ih = member-elim x y (put_rising n xs) (λ e. inr (subst (λ z. Member x (z ∷ xs)) e first)) (λ j. up (ih j)) k

put-apart : (n : ℕ) (xs : List ℕ) → Apart xs → (Member n xs → ⊥) → Apart (put_rising n xs)
put-apart n [] a h = (h, tt)
put-apart n (y ∷ xs) a h = go (nat_le n y) (put-apart n xs a.1 (λ m. h (later m)))
  where
    other : (y ≡ n) ⊎ Member y xs → ⊥
    other (inl e) = h (subst (λ z. Member n (z ∷ xs)) (sym e) first)
    other (inr k) = a.0 k

    go : (b : Bool) → Apart (put_rising n xs) → Apart (cond b (n ∷ y ∷ xs) (y ∷ put_rising n xs))
    go true ih = (h, a)
    go false ih = ((λ m. other (put-of y n xs m)), ih)

spills-of : (x : ℕ) (xs : List ℕ) (os : List (ℕ × Bool)) → Member x (spills_onto xs os) → Member x xs ⊎ Member x (spill_numbers os)
spills-of x xs [] m = inl m
spills-of x xs ((n, true) ∷ os) m = go (spills-of x (put_rising n xs) os m)
  where
    back : (x ≡ n) ⊎ Member x xs → Member x xs ⊎ Member x (n ∷ spill_numbers os)
    back (inl e) = inr (subst (λ z. Member x (z ∷ spill_numbers os)) e first)
    back (inr k) = inl k

    go : Member x (put_rising n xs) ⊎ Member x (spill_numbers os) → Member x xs ⊎ Member x (n ∷ spill_numbers os)
    go (inl k) = back (put-of x n xs k)
    go (inr k) = inr (later k)
spills-of x xs ((n, false) ∷ os) m = spills-of x xs os m

spills-apart : (xs : List ℕ) (os : List (ℕ × Bool)) → Apart xs → Apart (spill_numbers os) → ((x : ℕ) → Member x xs → Member x (spill_numbers os) → ⊥) → Apart (spills_onto xs os)
spills-apart xs [] a b h = a
spills-apart xs ((n, true) ∷ os) a b h = spills-apart (put_rising n xs) os (put-apart n xs a (λ m. h n m first)) b.1 (λ x m k. other x k (put-of x n xs m))
  where
    other : (x : ℕ) → Member x (spill_numbers os) → (x ≡ n) ⊎ Member x xs → ⊥
    other x k (inl e) = b.0 (subst (λ z. Member z (spill_numbers os)) e k)
    other x k (inr m) = h x m (later k)
spills-apart xs ((n, false) ∷ os) a b h = spills-apart xs os a b h

spill-told : (n : ℕ) (os : List (ℕ × Bool)) → Member n (spill_numbers os) → list_any (λ o. nat_eq o.0 n && o.1) os ≡ true
spill-told n os m =
    let z = map-of (λ (o : ℕ × Bool). o.0) n (filter (λ o. o.1) os) m in
    let y = filter-of (λ (o : ℕ × Bool). o.1) z.0 os z.1 in
    any-in (λ (o : ℕ × Bool). nat_eq o.0 n && o.1) z.0 os y.0 (and_from _ _ (eq-eqb z.0.0 n (sym z.2)) y.1)

-- the choice of a function whose spill slots stand once among its frame objects
module _ (clash : ℕ → ℕ → Bool) (f : Function) (distinct : are_distinct_numbers (spill_numbers f.frames) ≡ true) where
  abbrev pub T : List TakenSlot
  T = chosen clash f

  slots-apart : Apart (spill_slots f.frames)
  slots-apart = spills-apart [] f.frames tt (distinct-apart (spill_numbers f.frames) distinct) (λ x m k. member-none x m)

  sound : Sound clash T []
  sound = all-sound clash (declared_in f.head) [] (spill_slots f.frames) slots-apart (record {
    once = λ a b m j e. absurd (member-none a m);
    new = λ a m k. member-none a m;
    kept = λ a m. absurd (member-none a m);
    apart = λ a b m j e d. absurd (member-none a m);
  })

  taken-spills : (a : TakenSlot) → Member a T → is_spill_slot f a.number ≡ true
  taken-spills a m = go (taken-number clash (declared_in f.head) [] (spill_slots f.frames) a m)
    where
      back : Member a.number [] ⊎ Member a.number (spill_numbers f.frames) → is_spill_slot f a.number ≡ true
      back (inl k) = absurd (member-none a.number k)
      back (inr k) = spill-told a.number f.frames k

      go : Member a [] ⊎ Member a.number (spill_slots f.frames) → is_spill_slot f a.number ≡ true
      go (inl k) = absurd (member-none a k)
      go (inr k) = back (spills-of a.number [] f.frames k)

  abbrev has : ℕ → TakenSlot → Bool
  has n r = nat_eq r.number n

  -- a frame object stays, or it is a slot that is taken
  abbrev Stays : ℕ → Type 0
  Stays n = (home_of T n ≡ n) × ((a : TakenSlot) → Member a T → a.number ≡ n → ⊥)

  abbrev Goes : ℕ → Type 0
  Goes n = (a : TakenSlot) × Member a T × (a.number ≡ n) × (home_of T n ≡ a.kept)

  slot-cases : (n : ℕ) → Stays n ⊎ Goes n
  slot-cases n = go (find (has n) T) refl
    where
      go : (q : Option TakenSlot) → find (has n) T ≡ q → Stays n ⊎ Goes n
      go None e = inl (ap (kept_or n) e, (λ a m g. none-found (has n) T a e m (eq-eqb a.number n g)))
      go (Some a) e = let z = found-in (has n) T a e in inr (a, z.0, eqb-true a.number n z.1, ap (kept_or n) e)

  home-is : (a : TakenSlot) → Member a T → home_of T a.number ≡ a.kept
  home-is a m = go (slot-cases a.number)
    where
      go : Stays a.number ⊎ Goes a.number → home_of T a.number ≡ a.kept
      go (inl z) = absurd (z.1 a m refl)
      go (inr z) = z.3 ∙ ap (λ (x : TakenSlot). x.kept) (sound.once z.0 a z.1 m z.2)

  -- a home is its own home
  pub home-home : (n : ℕ) → home_of T (home_of T n) ≡ home_of T n
  home-home n = go (slot-cases n)
    where
      go : Stays n ⊎ Goes n → home_of T (home_of T n) ≡ home_of T n
      go (inl z) = ap (home_of T) z.0
      go (inr z) = let k = sound.kept z.0 z.1 in ap (home_of T) (z.3 ∙ sym k.2) ∙ home-is k.0 k.1 ∙ k.3 ∙ k.2 ∙ sym z.3

  -- of two slots with one home the test tells no clash, one way round at least
  pub home-apart : (s r : ℕ) → (s ≡ r → ⊥) → home_of T s ≡ home_of T r → (clash s r ≡ false) ⊎ (clash r s ≡ false)
  home-apart s r d e = go (slot-cases s) (slot-cases r)
    where
      named : (a b : TakenSlot) → a.number ≡ s → b.number ≡ r → (clash a.number b.number ≡ false) ⊎ (clash b.number a.number ≡ false) → (clash s r ≡ false) ⊎ (clash r s ≡ false)
      named a b x y (inl h) = inl (sym (ap (λ u. clash u b.number) x ∙ ap (clash s) y) ∙ h)
      named a b x y (inr h) = inr (sym (ap (λ u. clash u a.number) y ∙ ap (clash r) x) ∙ h)

      go : Stays s ⊎ Goes s → Stays r ⊎ Goes r → (clash s r ≡ false) ⊎ (clash r s ≡ false)
      go (inl x) (inl y) = absurd (d (sym x.0 ∙ e ∙ y.0))
      go (inl x) (inr y) = let k = sound.kept y.0 y.1 in absurd (x.1 k.0 k.1 (k.2 ∙ sym y.3 ∙ sym e ∙ x.0))
      go (inr x) (inl y) = let k = sound.kept x.0 x.1 in absurd (y.1 k.0 k.1 (k.2 ∙ sym x.3 ∙ e ∙ y.0))
      go (inr x) (inr y) = named x.0 y.0 x.2 y.2 (sound.apart x.0 y.0 x.1 y.1 (sym x.3 ∙ e ∙ y.3) (λ g. d (sym x.2 ∙ g ∙ y.2)))

  -- a frame object that isn't a spill slot stays
  pub home-stays : (n : ℕ) → is_spill_slot f n ≡ false → home_of T n ≡ n
  home-stays n e = go (slot-cases n)
    where
      go : Stays n ⊎ Goes n → home_of T n ≡ n
      go (inl z) = z.0
      go (inr z) = absurd (let h : is_spill_slot f z.0.number ≡ true = taken-spills z.0 z.1 in let g : is_spill_slot f z.0.number ≡ is_spill_slot f n = ap (is_spill_slot f) z.2 in cc)

  -- the home of a spill slot is one
  pub home-spills : (n : ℕ) → is_spill_slot f n ≡ true → is_spill_slot f (home_of T n) ≡ true
  home-spills n e = go (slot-cases n)
    where
      go : Stays n ⊎ Goes n → is_spill_slot f (home_of T n) ≡ true
      go (inl z) = ap (is_spill_slot f) z.0 ∙ e
      go (inr z) = let k = sound.kept z.0 z.1 in ap (is_spill_slot f) (z.3 ∙ sym k.2) ∙ taken-spills k.0 k.1
