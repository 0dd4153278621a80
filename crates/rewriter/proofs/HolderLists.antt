-- Lists of the registers that hold each unit.
use Rattle.std.proofs.Common.{◌≡◌, ◌≢◌, ◌∙◌, ◌⊎◌, inl, inr, ℕ, zero, suc, ◌+◌, ◌<◌, ◌≤◌, Bool, true, false, cond, not, ◌&&◌, ◌||◌, eqb, ◌==◌, List, [], ◌∷◌, ◌++◌, length, drop, get_or, set, length-set, map, refl, sym, ap, arith, append_assoc, append-nil}
use Rattle.std.specs.Prelude.{nat_eq, nat_lt, replicate, filter}
use Rattle.std.specs.List.{list_any}
use Rattle.std.proofs.lemmas.Bool.Decides.{eqb_tells, nat_tests}
use Rattle.std.proofs.lemmas.List.{drop_all, at_drop_more, length-replicate}
use Rattle.target_base.specs.declared.types.Reg.{Reg}
use Rattle.target_base.specs.declared.types.Unit.{Unit as UnitNumber}
use Rattle.target_base.specs.declared.types.Target.{Target}
use Rattle.target_base.specs.Names.{are_distinct_numbers}
use Rattle.target_base.specs.Numbers.{unit_number}
use Rattle.target_base.specs.Registers.{units_of}
use Rattle.target_base.specs.Storage.{is_among}
use Rattle.mir_meaning.specs.Valid.{holds_unit}
use Rattle.rewriter.specs.Holders.{listed, AreHolders, IsPut}
use Rattle.rewriter.proofs.Rows.{row, row_set, row_at, row_none}

-- a register is put into one list
pub put_here : (hs new : List (List Reg)) (u : ℕ) (r : Reg) (f g : List Reg) → u < length hs → f ≡ get_or hs u f → g ≡ f ++ r ∷ [] → new ≡ set hs u g → IsPut (nat_eq u) r hs new
put_here hs new u r f g h at is e = record {
  count = ap length e ∙ length-set hs u g;
  lists = λ w k. ap (λ xs. row xs w) e ∙ (row_set hs u g w h ∙ list w (eqb_tells u w));
}
  where
    list : (w : ℕ) → ((eqb u w ≡ true) × (u ≡ w)) ⊎ ((eqb u w ≡ false) × (u ≢ w)) → cond (nat_eq u w) g (row hs w) ≡ row hs w ++ cond (nat_eq u w) (r ∷ []) []
    list w (inl k) =
        ap (λ b. cond b g (row hs w)) k.0
        ∙ (is
        ∙ (ap (λ xs. xs ++ r ∷ []) (at ∙ (row_at hs u f h ∙ ap (row hs) k.1))
        ∙ sym (ap (λ b. row hs w ++ cond b (r ∷ []) []) k.0)))
    list w (inr k) =
        ap (λ b. cond b g (row hs w)) k.0 ∙ sym (ap (λ b. row hs w ++ cond b (r ∷ []) []) k.0 ∙ append-nil (row hs w))

-- it is put into none
pub put_none : (test : ℕ → Bool) (r : Reg) (hs : List (List Reg)) → ((w : ℕ) → w < length hs → test w ≡ false) → IsPut test r hs hs
put_none test r hs e = record {
  count = refl;
  lists = λ w h. sym (ap (λ b. row hs w ++ cond b (r ∷ []) []) (e w h) ∙ append-nil (row hs w));
}

-- there is no such list
pub put_past : (hs : List (List Reg)) (u : ℕ) (r : Reg) → length hs ≤ u → IsPut (nat_eq u) r hs hs
put_past hs u r h = put_none (nat_eq u) r hs (λ w k. let e : nat_eq u w ≡ false = grind (arith, nat_tests) in e)

-- one after the other, into lists apart
joined : (s t q : Bool) (r : Reg) → q ≡ (s || t) → (s ≡ true → t ≡ false) → cond s (r ∷ []) [] ++ cond t (r ∷ []) [] ≡ cond q (r ∷ []) []
joined true t q r e d = ap (λ b. (r ∷ []) ++ cond b (r ∷ []) []) (d refl) ∙ sym (ap (λ b. cond b (r ∷ []) []) e)
joined false t q r e d = sym (ap (λ b. cond b (r ∷ []) []) e)

put_more : (s t q : ℕ → Bool) (r : Reg) (x y z : List (List Reg)) → ((w : ℕ) → q w ≡ (s w || t w)) → ((w : ℕ) → s w ≡ true → t w ≡ false) → IsPut s r x y → IsPut t r y z → IsPut q r x z
put_more s t q r x y z e d a b = record {
  count = b.count ∙ a.count;
  lists = λ w h.
      let n = a.count in
      let within : w < length y = omega (arith, n) in
      b.lists w within
      ∙ (ap (λ xs. xs ++ cond (t w) (r ∷ []) []) (a.lists w h)
      ∙ (append_assoc (row x w) (cond (s w) (r ∷ []) []) (cond (t w) (r ∷ []) [])
      ∙ ap (λ xs. row x w ++ xs) (joined (s w) (t w) (q w) r (e w) (d w))));
}

-- units of a register

abbrev pub holds : List UnitNumber → ℕ → Bool
holds us w = is_among us (unit_number w)

and_left : (a b : Bool) → (a && b) ≡ true → a ≡ true
and_left true b e = refl
and_left false b e = absurd (cc)

and_right : (a b : Bool) → (a && b) ≡ true → b ≡ true
and_right true b e = e
and_right false b e = absurd (cc)

not_false : (b : Bool) → not b ≡ true → b ≡ false
not_false true e = absurd (cc)
not_false false e = refl

numbered : (us : List UnitNumber) (n w : ℕ) → n ≡ w → list_any (λ m. n == m) (map (λ (v : UnitNumber). v.0) us) ≡ holds us w
numbered [] n w e = refl
numbered (u ∷ us) n w e =
    let swap : nat_eq n u.0 ≡ nat_eq u.0 w = grind (arith, nat_tests) in
    ap (λ b. b || list_any (λ m. n == m) (map (λ (v : UnitNumber). v.0) us)) swap ∙ ap (λ b. nat_eq u.0 w || b) (numbered us n w e)

apart : (us : List UnitNumber) (k : ℕ) (d : UnitNumber) → k < length us → are_distinct_numbers (map (λ u. u.0) us) ≡ true → (w : ℕ) → (get_or us k d).0 ≡ w → holds (drop (k + 1) us) w ≡ false
apart [] k d h e w is = absurd (omega arith)
apart (u ∷ us) zero d h e w is =
    sym (numbered us u.0 w is) ∙ not_false (list_any (λ m. u.0 == m) (map (λ (v : UnitNumber). v.0) us)) (and_left (not (list_any (λ m. u.0 == m) (map (λ (v : UnitNumber). v.0) us))) (are_distinct_numbers (map (λ (v : UnitNumber). v.0) us)) e)
apart (u ∷ us) (suc k) d h e w is =
    let next : suc k + 1 ≡ suc (k + 1) = omega arith in
    ap (λ j. holds (drop j (u ∷ us)) w) next ∙ apart us k d (omega arith) (and_right (not (list_any (λ m. u.0 == m) (map (λ (v : UnitNumber). v.0) us))) (are_distinct_numbers (map (λ (v : UnitNumber). v.0) us)) e) w is

pub holder_more : (us : List UnitNumber) (k : ℕ) (u d : UnitNumber) (r : Reg) (x y z : List (List Reg)) → k < length us → are_distinct_numbers (map (λ v. v.0) us) ≡ true → u ≡ get_or us k d → IsPut (nat_eq u.0) r x y → IsPut (holds (drop (k + 1) us)) r y z → IsPut (holds (drop k us)) r x z
holder_more us k u d r x y z h e at a b =
    put_more (nat_eq u.0) (holds (drop (k + 1) us)) (holds (drop k us)) r x y z
    (λ w. at_drop_more (λ vs. holds vs w) us k d h ∙ ap (λ (v : UnitNumber). nat_eq v.0 w || holds (drop (k + 1) us) w) (sym at))
    (λ w t. apart us k d h e w (ap (λ (v : UnitNumber). v.0) (sym at) ∙ same w t (eqb_tells u.0 w)))
    a b
  where
    same : (w : ℕ) → nat_eq u.0 w ≡ true → ((eqb u.0 w ≡ true) × (u.0 ≡ w)) ⊎ ((eqb u.0 w ≡ false) × (u.0 ≢ w)) → u.0 ≡ w
    same w t (inl p) = p.1
    same w t (inr p) = let n = p.0 in absurd (cc)

pub holder_all : (us : List UnitNumber) (k : ℕ) (r : Reg) (x y : List (List Reg)) → length us ≤ k → ((z : List (List Reg)) → IsPut (holds (drop k us)) r y z → IsPut (holds us) r x z) → IsPut (holds us) r x y
holder_all us k r x y h was = was y (put_none (holds (drop k us)) r y (λ w n. ap (λ vs. holds vs w) (drop_all k us h)))

-- all registers

-- these are the lists but for the registers that are left
pub record AreHoldersBut (t : Target) (rs left : List Reg) (hs : List (List Reg)) : Type 0 where
  pub count : length hs ≡ length t.units
  pub lists : (u : ℕ) → u < length t.units → listed hs u ++ filter (holds_unit t u) left ≡ filter (holds_unit t u) rs

pub holders_none : (t : Target) (rs : List Reg) (hs : List (List Reg)) → hs ≡ replicate (length t.units) [] → AreHoldersBut t rs rs hs
holders_none t rs hs e = record {
  count = ap length e ∙ length-replicate (length t.units) [];
  lists = λ u h. ap (λ xs. xs ++ filter (holds_unit t u) rs) (ap (λ x. row x u) e ∙ (row_none (length t.units) [] u ∙ none (nat_lt u (length t.units))));
}
  where
    nothing : List Reg
    nothing = []

    none : (b : Bool) → cond b nothing nothing ≡ nothing
    none true = refl
    none false = refl

filter_one : (p : Reg → Bool) (x : Reg) (xs : List Reg) → cond (p x) (x ∷ []) [] ++ filter p xs ≡ filter p (x ∷ xs)
filter_one p x xs = either (p x)
  where
    either : (b : Bool) → cond b (x ∷ []) [] ++ filter p xs ≡ cond b (x ∷ filter p xs) (filter p xs)
    either true = refl
    either false = refl

pub holders_more : (t : Target) (rs : List Reg) (k : ℕ) (r d : Reg) (us : List UnitNumber) (hs new : List (List Reg)) → k < length rs → r ≡ get_or rs k d → us ≡ units_of t r → IsPut (holds us) r hs new → AreHoldersBut t rs (drop k rs) hs → AreHoldersBut t rs (drop (k + 1) rs) new
holders_more t rs k r d us hs new h at is put was = record {
  count = put.count ∙ was.count;
  lists = λ u n.
      let p = holds_unit t u in
      let e = was.count in
      let within : u < length hs = omega (arith, e) in
      let rest = filter p (drop (k + 1) rs) in
      ap (λ xs. xs ++ rest) (put.lists u within ∙ ap (λ vs. row hs u ++ cond (holds vs u) (r ∷ []) []) is)
      ∙ (append_assoc (row hs u) (cond (p r) (r ∷ []) []) rest
      ∙ (ap (λ xs. row hs u ++ xs) (filter_one p r (drop (k + 1) rs) ∙ (ap (λ q. filter p (q ∷ drop (k + 1) rs)) at ∙ sym (at_drop_more (filter p) rs k d h)))
      ∙ was.lists u n));
}

pub holders_all : (t : Target) (rs : List Reg) (k : ℕ) (hs : List (List Reg)) → length rs ≤ k → AreHoldersBut t rs (drop k rs) hs → AreHolders t rs hs
holders_all t rs k hs h was = record {
  count = was.count;
  lists = λ u n. sym (append-nil (row hs u)) ∙ (ap (λ xs. row hs u ++ filter (holds_unit t u) xs) (sym (drop_all k rs h)) ∙ was.lists u n);
}
