-- A function is split where its edits are done over new ranges of the range's class.
use Rattle.std.proofs.Common.{◌≡◌, ◌++◌, ◌∙◌, ◌+◌, ◌<◌, ℕ, Bool, true, List, [], Option, Some, None, length, replicate, refl, sym, ap, subst, arith, append-nil}
use Rattle.std.specs.Prelude.{is_some, unwrap_or}
use Rattle.target_base.specs.declared.types.ClassId.{ClassId}
use Rattle.target_base.specs.declared.types.Target.{Target}
use Rattle.mir_func.specs.Binding.{class_of}
use Rattle.mir_func.specs.Value.{Function, IsFunction}
use Rattle.mir_meaning.specs.Points.{Point}
use Rattle.mir_meaning.specs.Registers.{numbers}
use Rattle.live_lanes.specs.declared.ask.labels.Mark.{Mark}
use Rattle.live_lanes.specs.declared.live.LiveFunc.{LiveFunc}
use Rattle.live_lanes.specs.Doing.{IsComputed}
use Rattle.live_laws.specs.Effects.Coded.{KeepsRules}
use Rattle.edit_laws.specs.Deferred.{SpareGone}
use Rattle.edit_laws.specs.Edits.{Edit, all_edited}
use Rattle.edit_laws.specs.Further.{KeepsLast, with_classes}
use Rattle.live_edits.specs.LiveRuns.{IsExact, MayBeEditedLive}
use Rattle.live_edits.specs.Runs.{HavePlaces}
use Rattle.split_kit.specs.MaySplit.{HasFurther, HasNew, IsSplit, MayGrow, MaySplitLive}
use Rattle.split_kit.specs.PartEdits.{DoSplit, HasParts, ShowsParts, classed, split_edits}
use Rattle.split_kit.specs.Split.{greatest_label, parts, split_by}
use Rattle.split_kit.proofs.LiveTests.{live, shown, table_live}
use Rattle.split_kit.proofs.NewRanges.{grown-rules}
use Rattle.split_kit.proofs.SplitLaw.{split-edits-law}

some-class : (q : Option ClassId) (d : ClassId) → is_some q ≡ true → q ≡ Some (unwrap_or q d)
some-class None d h = absurd (cc)
some-class (Some c) d h = refl

module _ (old : LiveFunc) (v : ℕ) (ms : List Mark) (may : MaySplitLive old v ms) where
  abbrev pub test : Point → Bool
  test = table_live old.table old.func v

  abbrev pub count : ℕ
  count = greatest_label ms + 1

  shows : ShowsParts old.table old.func v ms test
  shows = shown old.target old.func old.table v may.computed may.rules may.last ms may.phis may.known (let few : length old.func.classes + greatest_label ms < 2147483648 = may.few in omega (arith, few)) may.marks

  may-grow : (class : ClassId) → class_of old.func v ≡ Some class → MayGrow old class count
  may-grow class e = record {
    computed = may.computed;
    rules = may.rules;
    last = may.last;
    there = may.rules.classes v class e;
    few = (let few : length old.func.classes + greatest_label ms < 2147483648 = may.few in omega (arith, few));
  }

  -- the class that is looked up is the range's
  pub own-class : (q : Option ClassId) (class other : ClassId) → q ≡ class_of old.func v → class ≡ unwrap_or q other → class_of old.func v ≡ Some class
  own-class q class other e h = some-class (class_of old.func v) other may.class ∙ ap Some (sym (h ∙ ap (λ p. unwrap_or p other) e))

  pub grows : (class : ClassId) (n : ℕ) → class_of old.func v ≡ Some class → n ≡ count → MayGrow old class n
  grows class n own e = subst (MayGrow old class) (sym e) (may-grow class own)

  pub ranges-made : (class : ClassId) (n : ℕ) (mid : LiveFunc) → class_of old.func v ≡ Some class → n ≡ count → (MayGrow old class n → HasNew old class n mid) → HasNew old class count mid
  ranges-made class n mid own e h = subst (λ k. HasNew old class k mid) e (h (grows class n own e))

  pub edits-are : (es : List Edit) (ns : List Mark) → ns ≡ ms → (ShowsParts old.table old.func v ns test → es ≡ split_edits test old.func v ns) → es ≡ split_edits test old.func v ms
  edits-are es ns e h = subst (λ ks. ShowsParts old.table old.func v ks test → es ≡ split_edits test old.func v ks) e h shows

  module _ (class : ClassId) (own : class_of old.func v ≡ Some class) (mid new : LiveFunc) (has : HasNew old class count mid) (es : List Edit) (edits : es ≡ split_edits test old.func v ms) where
    abbrev cs : List (Option ClassId)
    cs = replicate count (Some class)

    abbrev grown : Function
    grown = with_classes old.func cs

    parts-there : HasParts old.target old.func v
    parts-there = record { function = may.function; numbers = may.rules.blocks; phis = may.phis; known = may.known; named = may.named }

    does : DoSplit old.target grown (classed (old.func.classes ++ cs) (split_by test old.func v ms)) es
    does = subst (DoSplit old.target grown (classed (old.func.classes ++ cs) (split_by test old.func v ms))) (sym edits) (split-edits-law old.target test old.func v ms (old.func.classes ++ cs) parts-there)

    split-classes : classed (old.func.classes ++ cs) (split_by test old.func v ms) ≡ split_by test old.func v ms
    unfolding split_by
    split-classes = ap (λ q. classed (old.func.classes ++ replicate count q) (split_by test old.func v ms)) (sym own)

    func : mid.func ≡ grown
    func = has.further.func

    -- what holds of the function with further classes holds of that which is edited
    over : (P : Target → Function → Type 0) → P old.target grown → P mid.target mid.func
    over P h = subst (λ t. P t mid.func) (sym has.target) (subst (P old.target) (sym func) h)

    may-edit : MayBeEditedLive mid es
    may-edit = record {
      computed = over (λ t f. IsComputed t f mid.table) has.further.computed;
      rules = over KeepsRules (grown-rules old class count (may-grow class own) count);
      last = over KeepsLast may.last;
      function = over (λ t f. IsFunction f.blocks f.next_id) may.function;
      blocks = over (λ t f. length f.blocks < 4294967296) may.blocks;
      places = over (λ t f. HavePlaces t f es) does.places;
      spare = over (λ t f. SpareGone [] f es) does.spare;
    }

    pub split-done : (MayBeEditedLive mid es → IsExact mid.target (all_edited mid.func es) new) → IsSplit old v ms new
    split-done h =
        let exact : IsExact mid.target (all_edited mid.func es) new = h may-edit in
        let made : new.func ≡ split_by test old.func v ms = exact.func ∙ (ap (λ (f : Function). all_edited f es) func ∙ (does.split ∙ split-classes)) in (
          (test, live old.target old.func old.table v may.computed may.rules may.last, made),
          record { func = refl; computed = subst (λ t. IsComputed t new.func new.table) has.target (subst (λ f. IsComputed mid.target f new.table) (sym exact.func) exact.computed) },
        )

    pub split-refused : (MayBeEditedLive mid es → IsExact mid.target mid.func new) → HasFurther old cs new
    split-refused h =
        let exact : IsExact mid.target mid.func new = h may-edit in
        record { func = exact.func ∙ func; computed = subst (λ t. IsComputed t grown new.table) has.target (subst (λ f. IsComputed mid.target f new.table) func exact.computed) }

  pub split-unbegun : HasFurther old [] old
  split-unbegun =
      let same : old.func ≡ with_classes old.func [] = ap (λ cs. record old.func { classes = cs }) (sym (append-nil old.func.classes)) in
      record { func = same; computed = subst (λ f. IsComputed old.target f old.table) same may.computed }

  pub parts-are : (n : ℕ) (made : List ℕ) → n ≡ count → made ≡ numbers (length old.func.classes) n → made ≡ parts old.func ms
  parts-are n made e h = h ∙ (ap (numbers (length old.func.classes)) e ∙ (let z : length old.func.classes ≡ length old.func.classes + 0 = omega arith in ap (λ k. numbers k count) z))
