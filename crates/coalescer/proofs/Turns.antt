-- What one copy makes of a function, and what copies tried in order make of it.
use Rattle.std.proofs.Common.{◌≡◌, ◌∙◌, ◌∷◌, ◌++◌, ◌<◌, ◌+◌, ℕ, List, [], Option, Some, map, length, take, get_or, refl, sym, ap, subst}
use Rattle.std.proofs.lemmas.List.{map-append, take_more}
use Rattle.target_base.specs.declared.types.Target.{Target}
use Rattle.mir_func.specs.Value.{Function}
use Rattle.mir_meaning.specs.Points.{touches}
use Rattle.live_lanes.specs.declared.live.LiveFunc.{LiveFunc}
use Rattle.live_lanes.specs.Doing.{IsComputed}
use Rattle.live_lanes.specs.Touching.{AreTouched}
use Rattle.lowering_laws.specs.Shapes.{IsLowered}
use Rattle.live_edits.specs.declared.fold.Join.{Join}
use Rattle.live_edits.specs.Folded.{AreNamed, MayBeFolded, TouchesNamed, folded, folded_block}
use Rattle.live_edits.specs.LiveRuns.{IsExact, MayBeFoldedLive}
use Rattle.join_laws.specs.Joined.{Joins, Tried, done, joins, stays}
use Rattle.join_laws.specs.Laws.{HasPlainUndefs}
use Rattle.join_laws.proofs.Asked.{asked, shares}
use Rattle.join_laws.proofs.Operands.{length-map}
use Rattle.join_laws.proofs.Trying.{join_keeps_lowered}
use Rattle.coalescer.specs.Coalescing.{IsTried, MayCoalesce, joins_of}
use Rattle.coalescer.proofs.Facts.{all-known, no-phis, tells}
use Rattle.coalescer.proofs.NamedAfter.{named-after}

module _ (t : Target) (x : LiveFunc) (may : MayCoalesce t x) (id : ℕ) (j : Join) (join : Joins t x.func id j) where
  pub may-fold : (ids : List ℕ) → AreTouched x.table j.gone ids → MayBeFoldedLive x j ids
  may-fold ids touched = subst (λ u. MayBeFolded u x.func x.table j ids) (sym may.target) (record {
    computed = may.computed;
    rules = may.lowered.rules;
    last = may.lowered.terminators;
    function = may.lowered.function;
    blocks = may.blocks;
    phis = no-phis t x.func may.lowered;
    known = all-known t x.func may.lowered;
    named = subst (AreNamed x.func j.gone) (sym ((tells t x may).touched j.gone ids touched)) (record { test = touches j.gone; listed = refl; named = may.named j.gone });
    widths = shares t x.func j (asked t x.func id j may.lowered join.0);
  })

  pub kept-after : (y : LiveFunc) → y.target ≡ x.target → IsExact x.target (folded x.target j x.func) y → MayCoalesce t y
  kept-after y same exact =
      let e : IsExact t (folded t j x.func) y = subst (λ u. IsExact u (folded u j x.func) y) may.target exact in
      let kept = join_keeps_lowered t x.func id j may.lowered may.plain join in
      let a = asked t x.func id j may.lowered join.0 in
      record {
        target = same ∙ may.target;
        computed = subst (λ f. IsComputed t f y.table) (sym e.func) e.computed;
        lowered = subst (IsLowered t) (sym e.func) kept.0;
        plain = subst (HasPlainUndefs t) (sym e.func) kept.1;
        named = λ v. subst (λ f. TouchesNamed f v) (sym e.func) (named-after t x.func j a may.named v);
        blocks = subst (λ (f : Function). length f.blocks < 4294967296) (sym e.func) (subst (λ n. n < 4294967296) (sym (length-map (folded_block t x.func j) x.func.blocks)) may.blocks);
      }

  pub tried-join : (y : LiveFunc) → y.target ≡ x.target → IsExact x.target (folded x.target j x.func) y → IsTried t id x y (Some j)
  tried-join y same exact =
      let e : IsExact t (folded t j x.func) y = subst (λ u. IsExact u (folded u j x.func) y) may.target exact in
      record {
        kept = kept-after y same exact;
        tried = subst (λ g. Tried t (id ∷ []) x.func (j ∷ []) g) (sym e.func) (joins join done);
      }

pub tried-more : (t : Target) {ids : List ℕ} {f : Function} {js : List Join} {g : Function} → Tried t ids f js g → (more : List ℕ) (ks : List Join) (h : Function) → Tried t more g ks h → Tried t (ids ++ more) f (js ++ ks) h
tried-more t done more ks h k = k
tried-more t (joins join on) more ks h k = joins join (tried-more t on more ks h k)
tried-more t (stays fails on) more ks h k = stays fails (tried-more t on more ks h k)

abbrev second : ℕ × ℕ → ℕ
second c = c.1

-- one copy more
pub tried-next : (t : Target) (items : List (ℕ × ℕ)) (k : ℕ) (d : ℕ × ℕ) (f g h : Function) (js new : List Join) (made : Option Join) → k < length items → Tried t (map (λ c. c.1) (take k items)) f js g → Tried t ((get_or items k d).1 ∷ []) g (joins_of made) h → new ≡ js ++ joins_of made
    → Tried t (map (λ c. c.1) (take (k + 1) items)) f new h
tried-next t items k d f g h js new made within before turn e =
    subst (λ ns. Tried t (map second (take (k + 1) items)) f ns h) (sym e)
    (subst (λ ids. Tried t ids f (js ++ joins_of made) h) (sym (ap (map second) (take_more items k d within) ∙ map-append second (take k items) (get_or items k d ∷ [])))
    (tried-more t before ((get_or items k d).1 ∷ []) (joins_of made) h turn))
