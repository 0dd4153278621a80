-- New ranges, one more at a time.
use Rattle.std.proofs.Common.{◌≡◌, ◌∷◌, ◌++◌, ◌∙◌, ◌+◌, ◌<◌, ◌≤◌, inl, inr, ℕ, zero, suc, cond, List, [], Option, Some, get_or, length, take, refl, sym, ap, subst, arith, add-one, append_assoc, append-nil, length-append, eq-eqb}
use Rattle.std.specs.Prelude.{unwrap_or}
use Rattle.target_base.specs.declared.types.ClassId.{ClassId}
use Rattle.target_base.specs.declared.types.Target.{Target}
use Rattle.target_base.specs.Registers.{IsClass}
use Rattle.meaning.specs.Live.{Among, here, there}
use Rattle.mir_func.specs.Value.{Function}
use Rattle.mir_meaning.specs.Registers.{numbers}
use Rattle.instr_effects.proofs.Tables.{numbers-long}
use Rattle.live_lanes.specs.declared.live.LiveFunc.{LiveFunc}
use Rattle.live_lanes.specs.Doing.{IsComputed}
use Rattle.live_laws.specs.Effects.Coded.{KeepsRules}
use Rattle.edit_laws.specs.Further.{KeepsLast, with_classes}
use Rattle.spiller.specs.Growing.{HasGrown, HasGrownSome, MayGrow}
use Rattle.spiller.specs.Slots.{Slots, with_original, with_ranges}
use Rattle.spiller.proofs.FurtherShapes.{rules-kept}

-- the first of some items, and one more
take-last : {X : Type 0} (k : ℕ) (d : X) (xs : List X) → k < length xs → take (suc k) xs ≡ take k xs ++ get_or xs k d ∷ []
take-last k d [] h = absurd (omega (arith, h))
take-last zero d (x ∷ []) h = refl
take-last zero d (x ∷ y ∷ xs) h = refl
take-last (suc k) d (x ∷ xs) h = ap (λ ys. x ∷ ys) (take-last k d xs (omega (arith, h)))

among-at : {X : Type 0} (k : ℕ) (d : X) (xs : List X) → k < length xs → Among (get_or xs k d) xs
among-at k d [] h = absurd (omega (arith, h))
among-at zero d (x ∷ xs) h = here
among-at (suc k) d (x ∷ xs) h = there (among-at k d xs (omega (arith, h)))

among-first : {X : Type 0} (k : ℕ) (x : X) (xs : List X) → Among x (take k xs) → Among x xs
among-first zero x [] m = m
among-first (suc k) x [] m = m
among-first zero x (y ∷ xs) m = elim m [ ]
among-first (suc k) x (y ∷ xs) here = here
among-first (suc k) x (y ∷ xs) (there m) = there (among-first k x xs m)

pub length-take : {X : Type 0} (k : ℕ) (xs : List X) → k ≤ length xs → length (take k xs) ≡ k
length-take zero [] h = refl
length-take (suc k) [] h = absurd (omega (arith, h))
length-take zero (x ∷ xs) h = refl
length-take (suc k) (x ∷ xs) h = ap suc (length-take k xs (omega (arith, h)))

pub take-none : {X : Type 0} (xs : List X) → take 0 xs ≡ []
take-none [] = refl
take-none (x ∷ xs) = refl

numbers-suc : (n k : ℕ) → numbers n k ++ (n + k) ∷ [] ≡ numbers n (suc k)
numbers-suc n zero = let e : n + 0 ≡ n = omega arith in ap (λ m. m ∷ []) e
numbers-suc n (suc k) = let e : n + suc k ≡ suc n + k = omega arith in ap (λ m. n ∷ (numbers (suc n) k ++ m ∷ [])) e ∙ ap (λ ms. n ∷ ms) (numbers-suc (suc n) k)

some-same : (k j : ClassId) → ◌≡◌ {A = Option ClassId} (Some k) (Some j) → k ≡ j
some-same k j e = cc

-- what a table computed for the one function is for the other
pub computed-of : (t u : Target) (f g : Function) (x : LiveFunc) → t ≡ u → f ≡ g → IsComputed t f x.table → IsComputed u g x.table
computed-of t u f g x p q h = subst (λ w. IsComputed w g x.table) p (subst (λ w. IsComputed t w x.table) q h)

-- what making one more range ensures of the table
abbrev pub StaysComputed : LiveFunc → LiveFunc → Type 0
StaysComputed mid new = length mid.func.classes < 2147483648 → IsComputed mid.target mid.func mid.table → KeepsRules mid.target mid.func → KeepsLast mid.target mid.func → IsComputed new.target new.func new.table

-- none is made
pub none-some : (x : LiveFunc) (slots : Slots) (cs : List (Option ClassId)) → IsComputed x.target x.func x.table → HasGrownSome x slots cs x slots
none-some x slots cs computed =
    let same : x.func ≡ with_classes x.func (take 0 cs) = ap (λ ds. record x.func { classes = ds }) (sym (ap (λ ds. x.func.classes ++ ds) (take-none cs) ∙ append-nil x.func.classes)) in
    record {
      count = 0;
      few = omega arith;
      further = record { func = same; computed = computed-of x.target x.target x.func (with_classes x.func (take 0 cs)) x refl same computed };
      originals = 0;
      ranges = ap (λ ns. record slots { originals = ns }) (sym (append-nil slots.originals));
      nearly = inl refl;
    }

pub some-renamed : (old : LiveFunc) (slots : Slots) (cs : List (Option ClassId)) (new : LiveFunc) (now then : Slots) → then ≡ now → HasGrownSome old slots cs new now → HasGrownSome old slots cs new then
some-renamed old slots cs new now then e h = subst (λ w. HasGrownSome old slots cs new w) (sym e) h

module _ (old : LiveFunc) (slots : Slots) (cs : List (Option ClassId)) (may : MayGrow old slots cs) where
  abbrev grown : ℕ → Function
  grown k = with_classes old.func (take k cs)

  pub grown-rules : (k : ℕ) → KeepsRules old.target (grown k)
  grown-rules k = rules-kept old.target old.func (take k cs) (λ c m. (let z = may.given (Some c) (among-first k (Some c) cs m) in subst (IsClass old.target) (sym (some-same c z.0 z.1)) z.2)) may.rules

  pub mid-length : (k : ℕ) (mid : LiveFunc) (now : Slots) → k ≤ length cs → HasGrown old slots (take k cs) mid now → length mid.func.classes ≡ length old.func.classes + k
  mid-length k mid now h has =
      let e : length mid.func.classes ≡ length (old.func.classes ++ take k cs) = ap (λ (f : Function). length f.classes) has.further.func in
      omega (arith, e, length-append old.func.classes (take k cs), length-take k cs h)

  pub mid-few : (k : ℕ) (mid : LiveFunc) (now : Slots) → k < length cs → HasGrown old slots (take k cs) mid now → length mid.func.classes < 2147483648
  mid-few k mid now h has =
      let few : length old.func.classes + length cs ≤ 2147483648 = may.few in
      omega (arith, h, few, mid-length k mid now (omega (arith, h)) has)

  -- what stands while they are made
  pub mid-stands : (k : ℕ) (mid : LiveFunc) (now : Slots) → k < length cs → HasGrown old slots (take k cs) mid now → (length mid.func.classes < 2147483648) × IsComputed mid.target mid.func mid.table × KeepsRules mid.target mid.func × KeepsLast mid.target mid.func
  mid-stands k mid now h has =
      let mid-func : mid.func ≡ grown k = has.further.func in (
        mid-few k mid now h has,
        computed-of old.target mid.target (grown k) mid.func mid (sym has.target) (sym mid-func) has.further.computed,
        subst (λ w. KeepsRules w mid.func) (sym has.target) (subst (KeepsRules old.target) (sym mid-func) (grown-rules k)),
        subst (λ w. KeepsLast w mid.func) (sym has.target) (subst (KeepsLast old.target) (sym mid-func) may.last),
      )

  still-computed : (k : ℕ) (mid new : LiveFunc) (now : Slots) → k < length cs → HasGrown old slots (take k cs) mid now → StaysComputed mid new → IsComputed new.target new.func new.table
  still-computed k mid new now h has stays = let z = mid-stands k mid now h has in stays z.0 z.1 z.2 z.3

  -- the slot map with one more range
  one-original : (k n : ℕ) → n ≡ length old.func.classes + k → with_original (with_ranges slots k) n n ≡ with_ranges slots (suc k)
  one-original k n e =
      let count : length (slots.originals ++ numbers (length slots.originals) k) ≡ n = omega (arith, length-append slots.originals (numbers (length slots.originals) k), numbers-long (length slots.originals) k, e, may.originals) in
      let next : n ≡ length slots.originals + k = omega (arith, e, may.originals) in
      ap (λ u. cond u (record slots { originals = (slots.originals ++ numbers (length slots.originals) k) ++ n ∷ [] }) (with_ranges slots k)) (eq-eqb n (length (slots.originals ++ numbers (length slots.originals) k)) (sym count))
      ∙ ap (λ ns. record slots { originals = ns }) (append_assoc slots.originals (numbers (length slots.originals) k) (n ∷ []) ∙ ap (λ ms. slots.originals ++ ms) (ap (λ m. numbers (length slots.originals) k ++ m ∷ []) next ∙ numbers-suc (length slots.originals) k))

  pub grown-more : (k : ℕ) (d : Option ClassId) (other class : ClassId) (n : ℕ) (mid new : LiveFunc) (now then : Slots) → k < length cs → class ≡ unwrap_or (get_or cs k d) other → HasGrown old slots (take k cs) mid now
      → n ≡ length mid.func.classes → new.target ≡ mid.target → new.func ≡ record mid.func { classes = mid.func.classes ++ Some class ∷ [] } → StaysComputed mid new → then ≡ with_original now n n → HasGrown old slots (take (k + 1) cs) new then
  grown-more k d other class n mid new now then h own has count t f stays slot =
      let q : Option ClassId = get_or cs k d in
      let z = may.given q (among-at k d cs h) in
      let same : Some class ≡ q = ap Some (own ∙ ap (λ p. unwrap_or p other) z.1) ∙ sym z.1 in
      let more : take k cs ++ Some class ∷ [] ≡ take (k + 1) cs = ap (λ p. take k cs ++ p ∷ []) same ∙ (sym (take-last k d cs h) ∙ ap (λ m. take m cs) (sym (add-one k))) in
      let target : new.target ≡ old.target = t ∙ has.target in
      let func : new.func ≡ grown (k + 1) =
      f ∙ (ap (λ (w : Function). record w { classes = w.classes ++ Some class ∷ [] }) has.further.func
      ∙ ap (λ cs. record old.func { classes = cs }) (append_assoc old.func.classes (take k cs) (Some class ∷ []) ∙ ap (λ cs. old.func.classes ++ cs) more)) in
      let computed : IsComputed new.target new.func new.table = still-computed k mid new now h has stays in
      record {
        target = target;
        further = record { func = func; computed = computed-of new.target old.target new.func (grown (k + 1)) new target func computed };
        ranges =
            slot ∙ ((λ j. with_original (has.ranges j) n n)
            ∙ (ap (λ m. with_original (with_ranges slots m) n n) (length-take k cs (omega (arith, h)))
            ∙ (one-original k n (count ∙ mid-length k mid now (omega (arith, h)) has)
            ∙ ap (with_ranges slots) (sym (length-take (k + 1) cs (omega (arith, h)) ∙ add-one k)))));
      }

  -- what a refusal leaves

  pub some-grown : (k : ℕ) (mid new : LiveFunc) (now : Slots) → k < length cs → HasGrown old slots (take k cs) mid now → new.target ≡ mid.target → new.func ≡ mid.func → StaysComputed mid new → HasGrownSome old slots cs new now
  some-grown k mid new now h has t f stays =
      let target : new.target ≡ old.target = t ∙ has.target in
      let func : new.func ≡ grown k = f ∙ has.further.func in
      record {
        count = k;
        few = omega (arith, h);
        further = record { func = func; computed = computed-of new.target old.target new.func (grown k) new target func (still-computed k mid new now h has stays) };
        originals = length (take k cs);
        ranges = has.ranges;
        nearly = inl (length-take k cs (omega (arith, h)));
      }

  pub some-without : (k : ℕ) (d : Option ClassId) (other class : ClassId) (n : ℕ) (mid new : LiveFunc) (now : Slots) → k < length cs → class ≡ unwrap_or (get_or cs k d) other → HasGrown old slots (take k cs) mid now
      → n ≡ length mid.func.classes → new.target ≡ mid.target → new.func ≡ record mid.func { classes = mid.func.classes ++ Some class ∷ [] } → StaysComputed mid new → HasGrownSome old slots cs new now
  some-without k d other class n mid new now h own has count t f stays =
      let more = grown-more k d other class n mid new now (with_original now n n) h own has count t f stays refl in
      record {
        count = k + 1;
        few = omega (arith, h);
        further = more.further;
        originals = length (take k cs);
        ranges = has.ranges;
        nearly = inr (ap (λ m. m + 1) (length-take k cs (omega (arith, h))));
      }

  pub none-grown : HasGrown old slots (take 0 cs) old slots
  none-grown =
      let same : old.func ≡ grown 0 = ap (λ cs. record old.func { classes = cs }) (sym (ap (λ ds. old.func.classes ++ ds) (take-none cs) ∙ append-nil old.func.classes)) in
      record {
        target = refl;
        further = record { func = same; computed = computed-of old.target old.target old.func (grown 0) old refl same may.computed };
        ranges = ap (λ ns. record slots { originals = ns }) (sym (append-nil slots.originals)) ∙ ap (λ ds. with_ranges slots (length ds)) (sym (take-none cs));
      }
