-- Where pieces begin: each number has one start, and each start one number.
use Rattle.std.proofs.Common.{◌≡◌, ◌<◌, ℕ, suc, Bool, true, false, cond, eqb, List, [], ◌∷◌, ◌++◌, Option, None, Some, refl, sym, ap, ◌∙◌, subst, arith, append_assoc, append-nil}
use Rattle.std.proofs.lemmas.Bool.{eqb-true, eq-eqb}
use Rattle.slot_index.specs.Order.{number_of}
use Rattle.mir_meaning.specs.Paths.{Among, Step, Code, steps_of, is_written}
use Rattle.live_lanes.specs.Graph.{writes_in}
use Rattle.live_lanes.specs.Table.{Numbers}
use Rattle.live_lanes.specs.Entered.{Rises, IsNumbered}
use Rattle.live_lanes.proofs.Basics.{among-append, writes-more, writes-same, writes-head}
use Rattle.live_lanes.proofs.Numbered.{rises-above}
use Rattle.edit_laws.specs.Reasons.{Begins, at_start, at_write}

pub no-split : (before : List Step) (s : Step) (rest : List Step) → [] ≡ before ++ s ∷ rest → ⊥
no-split [] s rest e = cc
no-split (y ∷ before) s rest e = cc

-- at which place the instruction of an id stands
abbrev pub find_at : List Step → ℕ → List Step → Option (List Step × Step)
find_at done id [] = None
find_at done id (s ∷ ss) = cond (eqb s.id id) (Some (done, s)) (find_at (done ++ s ∷ []) id ss)

placed : (xs ys : List Step) (s : Step) → xs ≡ ys → ◌≡◌ {A = Option (List Step × Step)} (Some (xs, s)) (Some (ys, s))
placed xs ys s e = λ k. Some (e k, s)

module _ (slots : Numbers) where
  -- the instructions behind one have other ids
  later-id : (x : Step) (xs before : List Step) (r : Step) (rest : List Step) → Rises slots (number_of slots x.id) xs → xs ≡ before ++ r ∷ rest → x.id ≡ r.id → ⊥
  later-id x xs before r rest rise e same =
      let lt : number_of slots x.id < number_of slots r.id = rises-above slots (number_of slots x.id) xs r rise (subst (Among r) (sym e) (among-append r before rest)) in
      let z : number_of slots x.id ≡ number_of slots r.id = ap (number_of slots) same in
      omega (arith, lt, z)

  -- two instructions of one id are one
  pub one-split : (n : ℕ) (ss before : List Step) (s : Step) (rest before' : List Step) (r : Step) (rest' : List Step) → Rises slots n ss → ss ≡ before ++ s ∷ rest → ss ≡ before' ++ r ∷ rest' → s.id ≡ r.id → (before ≡ before') × (s ≡ r) × (rest ≡ rest')
  one-split n [] before s rest before' r rest' rise e g same = absurd (no-split before s rest e)
  one-split n (x ∷ xs) [] s rest [] r rest' rise e g same =
      let one : x ≡ s = cc in
      let two : x ≡ r = cc in
      let tail : xs ≡ rest = cc in
      let tail' : xs ≡ rest' = cc in
      (refl, sym one ∙ two, sym tail ∙ tail')
  one-split n (x ∷ xs) [] s rest (y ∷ before') r rest' rise e g same =
      let one : x ≡ s = cc in
      let tail : xs ≡ before' ++ r ∷ rest' = cc in
      absurd (later-id x xs before' r rest' rise.2 tail (ap (λ (t : Step). t.id) one ∙ same))
  one-split n (x ∷ xs) (y ∷ before) s rest [] r rest' rise e g same =
      let one : x ≡ r = cc in
      let tail : xs ≡ before ++ s ∷ rest = cc in
      absurd (later-id x xs before s rest rise.2 tail (ap (λ (t : Step). t.id) one ∙ sym same))
  one-split n (x ∷ xs) (y ∷ before) s rest (y' ∷ before') r rest' rise e g same =
      let one : x ≡ y = cc in
      let two : x ≡ y' = cc in
      let tail : xs ≡ before ++ s ∷ rest = cc in
      let tail' : xs ≡ before' ++ r ∷ rest' = cc in
      let h = one-split (number_of slots x.id) xs before s rest before' r rest' rise.2 tail tail' same in
      ((λ k. (sym one ∙ two) k ∷ h.0 k), h.1, h.2)

  -- it is found by its id
  pub find-is : (n : ℕ) (done ss before : List Step) (s : Step) (rest : List Step) → Rises slots n ss → ss ≡ before ++ s ∷ rest → find_at done s.id ss ≡ Some (done ++ before, s)
  find-is n done [] before s rest rise e = absurd (no-split before s rest e)
  find-is n done (x ∷ xs) [] s rest rise e =
      let one : x ≡ s = cc in
      ap (λ u. cond u (Some (done, x)) (find_at (done ++ x ∷ []) s.id xs)) (eq-eqb x.id s.id (ap (λ (t : Step). t.id) one))
      ∙ (λ k. Some (sym (append-nil done) k, one k))
  find-is n done (x ∷ xs) (y ∷ before) s rest rise e =
      let one : x ≡ y = cc in
      let tail : xs ≡ before ++ s ∷ rest = cc in
      let behind = find-is (number_of slots x.id) (done ++ x ∷ []) xs before s rest rise.2 tail in
      ap (λ u. cond u (Some (done, x)) (find_at (done ++ x ∷ []) s.id xs)) (other (eqb x.id s.id) refl tail)
      ∙ (behind ∙ placed ((done ++ x ∷ []) ++ before) (done ++ y ∷ before) s (append_assoc done (x ∷ []) before ∙ (λ k. done ++ one k ∷ before)))
    where
      other : (u : Bool) → eqb x.id s.id ≡ u → xs ≡ before ++ s ∷ rest → eqb x.id s.id ≡ false
      other true h tail = absurd (later-id x xs before s rest rise.2 tail (eqb-true x.id s.id h))
      other false h tail = h

-- of two instructions that write a lane behind as many writings, both are one
one-writing : (l : ℕ) (ss before : List Step) (s : Step) (rest before' : List Step) (r : Step) (rest' : List Step) → ss ≡ before ++ s ∷ rest → ss ≡ before' ++ r ∷ rest' → is_written l s ≡ true → is_written l r ≡ true → writes_in l before ≡ writes_in l before' → s ≡ r
one-writing l [] before s rest before' r rest' e g w v same = absurd (no-split before s rest e)
one-writing l (x ∷ xs) [] s rest [] r rest' e g w v same =
    let one : x ≡ s = cc in
    let two : x ≡ r = cc in
    sym one ∙ two
one-writing l (x ∷ xs) [] s rest (y ∷ before') r rest' e g w v same =
    let one : x ≡ s = cc in
    let two : x ≡ y = cc in
    let h = writes-head l y before' (ap (is_written l) (sym two ∙ one) ∙ w) in
    absurd (let z : 0 ≡ suc (writes_in l before') = same ∙ h in omega (arith, z))
one-writing l (x ∷ xs) (y ∷ before) s rest [] r rest' e g w v same =
    let one : x ≡ r = cc in
    let two : x ≡ y = cc in
    let h = writes-head l y before (ap (is_written l) (sym two ∙ one) ∙ v) in
    absurd (let z : suc (writes_in l before) ≡ 0 = sym h ∙ same in omega (arith, z))
one-writing l (x ∷ xs) (y ∷ before) s rest (y' ∷ before') r rest' e g w v same =
    let one : x ≡ y = cc in
    let two : x ≡ y' = cc in
    let tail : xs ≡ before ++ s ∷ rest = cc in
    let tail' : xs ≡ before' ++ r ∷ rest' = cc in
    one-writing l xs before s rest before' r rest' tail tail' w v (less (is_written l y) (same ∙ ap (λ (t : Step). cond (is_written l t) (suc (writes_in l before')) (writes_in l before')) (sym two ∙ one)))
  where
    less : (u : Bool) → cond u (suc (writes_in l before)) (writes_in l before) ≡ cond u (suc (writes_in l before')) (writes_in l before') → writes_in l before ≡ writes_in l before'
    less true h = omega (arith, h)
    less false h = h

module _ (code : Code) where
  -- behind an instruction
  pub begins-more : {l b : ℕ} (o : Option ℕ) (done : List Step) (s : Step) (rest : List Step) → steps_of code b ≡ done ++ s ∷ rest → Begins code l b (writes_in l done) o → (u : Bool) → is_written l s ≡ u → Begins code l b (writes_in l (done ++ s ∷ [])) (cond u (Some s.id) o)
  begins-more o done s rest e h true w = at_write done s rest e w
  begins-more {l = l} {b = b} o done s rest e h false w = subst (λ n. Begins code l b n o) (sym (writes-same l done s w)) h

  none-here : {l b n : ℕ} {o : Option ℕ} → Begins code l b n o → 0 ≡ n → None ≡ o
  none-here at_start e = refl
  none-here {l = l} (at_write before s rest g w) e = absurd (let h = writes-more l before s w in omega (arith, h, e))

  some-here : {l b n : ℕ} {o : Option ℕ} (before : List Step) (s : Step) (rest : List Step) → steps_of code b ≡ before ++ s ∷ rest → is_written l s ≡ true → Begins code l b n o → writes_in l (before ++ s ∷ []) ≡ n → Some s.id ≡ o
  some-here {l = l} before s rest e w at_start same = absurd (let h = writes-more l before s w in omega (arith, h, same))
  some-here {l = l} {b = b} before s rest e w (at_write before' r rest' g v) same =
      let h = writes-more l before s w in
      let k = writes-more l before' r v in
      ap (λ (t : Step). Some t.id) (one-writing l (steps_of code b) before s rest before' r rest' e g w v (omega (arith, h, k, same)))

  -- a number has one start
  pub one-start : {l b n m : ℕ} {o q : Option ℕ} → Begins code l b n o → Begins code l b m q → n ≡ m → o ≡ q
  one-start at_start y same = none-here y same
  one-start (at_write before s rest e w) y same = some-here before s rest e w y same

  module _ (slots : Numbers) (numbered : IsNumbered code slots) where
    zero-here : {l b n : ℕ} {o : Option ℕ} → Begins code l b n o → None ≡ o → 0 ≡ n
    zero-here at_start e = refl
    zero-here (at_write before s rest g w) e = absurd (let z : None ≡ Some s.id = e in cc)

    number-here : {l b n : ℕ} {o : Option ℕ} (before : List Step) (s : Step) (rest : List Step) → steps_of code b ≡ before ++ s ∷ rest → Begins code l b n o → Some s.id ≡ o → writes_in l (before ++ s ∷ []) ≡ n
    number-here before s rest e at_start same = absurd (let z : Some s.id ≡ None = same in cc)
    number-here {l = l} {b = b} before s rest e (at_write before' r rest' g v) same =
        let z : Some s.id ≡ Some r.id = same in
        let h = one-split slots 0 (steps_of code b) before s rest before' r rest' (numbered b) e g cc in
        λ k. writes_in l (h.0 k ++ h.1 k ∷ [])

    -- a start has one number
    pub one-number : {l b n m : ℕ} {o q : Option ℕ} → Begins code l b n o → Begins code l b m q → o ≡ q → n ≡ m
    one-number at_start y same = zero-here y same
    one-number (at_write before s rest e w) y same = number-here before s rest e y same

    -- the instruction that begins a piece writes the lane
    pub writes-it : {l b n : ℕ} {o : Option ℕ} (before : List Step) (s : Step) (rest : List Step) → steps_of code b ≡ before ++ s ∷ rest → Begins code l b n o → o ≡ Some s.id → is_written l s ≡ true
    writes-it before s rest e at_start same = absurd (let z : None ≡ Some s.id = same in cc)
    writes-it {l = l} {b = b} before s rest e (at_write before' r rest' g v) same =
        let z : Some r.id ≡ Some s.id = same in
        let h = one-split slots 0 (steps_of code b) before' r rest' before s rest (numbered b) g e cc in
        ap (is_written l) (sym h.1) ∙ v
