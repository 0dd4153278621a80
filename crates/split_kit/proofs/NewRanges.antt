-- New ranges of a class, one after the other.
use Rattle.std.proofs.Common.{◌≡◌, ◌∷◌, ◌++◌, ◌∙◌, ◌+◌, ◌<◌, ◌≤◌, ℕ, zero, suc, List, [], Option, Some, length, replicate, refl, sym, ap, subst, arith, add-one, append_assoc, append-nil, length-append}
use Rattle.std.proofs.lemmas.List.{length-replicate, replicate-append-replicate}
use Rattle.target_base.specs.declared.types.ClassId.{ClassId}
use Rattle.target_base.specs.declared.types.Target.{Target}
use Rattle.target_base.specs.Registers.{IsClass}
use Rattle.meaning.specs.Live.{Among, here, there}
use Rattle.mir_func.specs.Value.{Function}
use Rattle.mir_meaning.specs.Registers.{numbers}
use Rattle.live_lanes.specs.declared.live.LiveFunc.{LiveFunc}
use Rattle.live_lanes.specs.Doing.{IsComputed}
use Rattle.live_laws.specs.Effects.Coded.{KeepsRules}
use Rattle.edit_laws.specs.Further.{KeepsLast, with_classes}
use Rattle.split_kit.specs.MaySplit.{HasNew, MayGrow}
use Rattle.split_kit.proofs.FurtherShapes.{rules-kept}

replicate-last : {X : Type 0} (k : ℕ) (x : X) → replicate k x ++ x ∷ [] ≡ replicate (k + 1) x
replicate-last k x = replicate-append-replicate k 1 x

numbers-suc : (n k : ℕ) → numbers n k ++ (n + k) ∷ [] ≡ numbers n (suc k)
numbers-suc n zero = let e : n + 0 ≡ n = omega arith in ap (λ m. m ∷ []) e
numbers-suc n (suc k) = let e : n + suc k ≡ suc n + k = omega arith in ap (λ m. n ∷ (numbers (suc n) k ++ m ∷ [])) e ∙ ap (λ ms. n ∷ ms) (numbers-suc (suc n) k)

pub numbers-last : (n k m : ℕ) (old new : List ℕ) → m ≡ n + k → old ≡ numbers n k → new ≡ old ++ m ∷ [] → new ≡ numbers n (k + 1)
numbers-last n k m old new e f g = g ∙ ((λ i. f i ++ e i ∷ []) ∙ (numbers-suc n k ∙ ap (numbers n) (sym (add-one k))))

same-some : (c d : ClassId) → Some c ≡ Some d → c ≡ d
same-some c d e = cc

of-class : (k : ℕ) (q : Option ClassId) (d : ClassId) → Among q (replicate k (Some d)) → q ≡ Some d
of-class zero q d m = elim m [ ]
of-class (suc k) q d here = refl
of-class (suc k) q d (there m) = of-class k q d m

-- what a table computed for the one function is for the other
computed-of : (t u : Target) (f g : Function) (x : LiveFunc) → t ≡ u → f ≡ g → IsComputed t f x.table → IsComputed u g x.table
computed-of t u f g x p q h = subst (λ w. IsComputed w g x.table) p (subst (λ w. IsComputed t w x.table) q h)

-- what making one more range ensures of the table
abbrev pub StaysComputed : LiveFunc → LiveFunc → Type 0
StaysComputed mid new = length mid.func.classes < 2147483648 → IsComputed mid.target mid.func mid.table → KeepsRules mid.target mid.func → KeepsLast mid.target mid.func → IsComputed new.target new.func new.table

module _ (old : LiveFunc) (class : ClassId) (count : ℕ) (may : MayGrow old class count) where
  abbrev grown : ℕ → Function
  grown k = with_classes old.func (replicate k (Some class))

  pub grown-rules : (k : ℕ) → KeepsRules old.target (grown k)
  grown-rules k = rules-kept old.target old.func (replicate k (Some class)) (λ c m. subst (IsClass old.target) (sym (same-some c class (of-class k (Some c) class m))) may.there) may.rules

  pub mid-few : (k : ℕ) (mid : LiveFunc) → k < count → HasNew old class k mid → length mid.func.classes < 2147483648
  mid-few k mid h new =
      let e : length mid.func.classes ≡ length (old.func.classes ++ replicate k (Some class)) = ap (λ (f : Function). length f.classes) new.further.func in
      let few : length old.func.classes + count ≤ 2147483648 = may.few in
      omega (arith, h, e, few, length-append old.func.classes (replicate k (Some class)), length-replicate k (Some class))

  pub mid-length : (k : ℕ) (mid : LiveFunc) → HasNew old class k mid → length mid.func.classes ≡ length old.func.classes + k
  mid-length k mid new =
      let e : length mid.func.classes ≡ length (old.func.classes ++ replicate k (Some class)) = ap (λ (f : Function). length f.classes) new.further.func in
      omega (arith, e, length-append old.func.classes (replicate k (Some class)), length-replicate k (Some class))

  computed-then : (k : ℕ) (mid new : LiveFunc) → k < count → HasNew old class k mid → StaysComputed mid new → IsComputed new.target new.func new.table
  computed-then k mid new h has stays =
      let t : mid.target ≡ old.target = has.target in
      let f : mid.func ≡ grown k = has.further.func in
      stays (mid-few k mid h has)
      (computed-of old.target mid.target (grown k) mid.func mid (sym t) (sym f) has.further.computed)
      (subst (λ w. KeepsRules w mid.func) (sym t) (subst (KeepsRules old.target) (sym f) (grown-rules k)))
      (subst (λ w. KeepsLast w mid.func) (sym t) (subst (KeepsLast old.target) (sym f) may.last))

  pub new-same : (k : ℕ) (mid new : LiveFunc) → k < count → HasNew old class k mid → new.target ≡ mid.target → new.func ≡ mid.func → StaysComputed mid new → HasNew old class k new
  new-same k mid new h has t f stays = record {
    target = t ∙ has.target;
    further = record {
      func = f ∙ has.further.func;
      computed = computed-of new.target old.target new.func (grown k) new (t ∙ has.target) (f ∙ has.further.func) (computed-then k mid new h has stays);
    };
  }

  pub new-more : (k : ℕ) (mid new : LiveFunc) → k < count → HasNew old class k mid → new.target ≡ mid.target → new.func ≡ record mid.func { classes = mid.func.classes ++ Some class ∷ [] } → StaysComputed mid new → HasNew old class (k + 1) new
  new-more k mid new h has t f stays =
      let g : new.func ≡ grown (k + 1) =
      f ∙ (ap (λ (w : Function). record w { classes = w.classes ++ Some class ∷ [] }) has.further.func
      ∙ ap (λ cs. record old.func { classes = cs }) (append_assoc old.func.classes (replicate k (Some class)) (Some class ∷ []) ∙ ap (λ cs. old.func.classes ++ cs) (replicate-last k (Some class)))) in
      record {
        target = t ∙ has.target;
        further = record {
          func = g;
          computed = computed-of new.target old.target new.func (grown (k + 1)) new (t ∙ has.target) g (computed-then k mid new h has stays);
        };
      }

pub none-new : (old : LiveFunc) (class : ClassId) (count : ℕ) → MayGrow old class count → HasNew old class 0 old
none-new old class count may =
    let same : old.func ≡ with_classes old.func [] = ap (λ cs. record old.func { classes = cs }) (sym (append-nil old.func.classes)) in
    record { target = refl; further = record { func = same; computed = computed-of old.target old.target old.func (with_classes old.func []) old refl same may.computed } }
