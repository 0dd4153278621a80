-- The choice by what evictions say, where there are no cascades.
use Rattle.std.proofs.Common.{◌≡◌, ◌∙◌, ℕ, ◌+◌, ◌<◌, ◌≤◌, List, [], ◌∷◌, Bool, true, false, cond, refl, sym, ap, length, get_or, drop}
use Rattle.std.specs.Prelude.{◌&&◌, ◌||◌, ◌==◌, not, nat_lt, find, Option, Some, None, option_map}
use Rattle.std.specs.List.{list_all, list_any}
use Rattle.target_base.specs.declared.types.Reg.{Reg}
use Rattle.mir_meaning.specs.Registers.{numbers}
use Rattle.interference.specs.declared.matrix.Matrix.{Matrix}
use Rattle.interference.specs.Clashes as clash
use Rattle.evictor.specs.declared.choice.Eviction.{Eviction}
use Rattle.evictor.specs.declared.ranks.Ranks.{Ranks}
use Rattle.evictor.specs.Cheapest.{Ranking, Setting, is_tiny, cascade, number, weight, clashers, may_lose, qualifies}
use Rattle.evictor.specs.Settings.{setting_of, eviction, eviction_at}
use Rattle.evictor.proofs.Tops.{all_agree, find_agree}
use Rattle.evictor.proofs.Firsts.{find_next, find_here}
use Rattle.basic_alloc.specs.declared.choice.Choice.{Choice}
use Rattle.basic_alloc.specs.declared.choice.Choice.TheVariants as choices
use Rattle.basic_alloc.specs.Basic.{HasNoCascades, is_free, may_be_ousted, may_oust, oust, take_or, choice_of}
use Rattle.basic_alloc.specs.Settings.{ousting_by}

-- the first from which all in the way may be evicted, candidate by candidate

not_here : (s : Setting) (r : Reg) → None ≡ eviction_at s r → qualifies s r ≡ false
not_here s r e = go (qualifies s r) e
  where
    go : (b : Bool) → None ≡ cond b (Some (eviction s r)) None → b ≡ false
    go true h = cc
    go false h = refl

is_here : (s : Setting) (r : Reg) (e : Eviction) → Some e ≡ eviction_at s r → (qualifies s r ≡ true) × (e ≡ eviction s r)
is_here s r e h = go (qualifies s r) h
  where
    go : (b : Bool) → Some e ≡ cond b (Some (eviction s r)) None → (b ≡ true) × (e ≡ eviction s r)
    go true h = (refl, cc)
    go false h = cc

pub ousting_next : (s : Setting) (rs : List Reg) (k : ℕ) (r : Reg) (first : Option Reg) → k < length rs → r ≡ get_or rs k r → None ≡ eviction_at s r → find (qualifies s) (drop k rs) ≡ first → find (qualifies s) (drop (k + 1) rs) ≡ first
ousting_next s rs k r first h at none was = find_next (qualifies s) rs k r first h at (not_here s r none) was

pub ousting_here : (s : Setting) (rs : List Reg) (k : ℕ) (r : Reg) (e : Eviction) (first : Option Reg) → k < length rs → r ≡ get_or rs k r → Some e ≡ eviction_at s r → find (qualifies s) (drop k rs) ≡ first → Some e ≡ option_map (eviction s) first
ousting_here s rs k r e first h at some was =
    let is = is_here s r e some in
    ap (λ x. Some x) is.1 ∙ ap (option_map (eviction s)) (find_here (qualifies s) rs k r first h at is.0 was)

-- no cascade keeps a range from its register

no_cascade : (k : Ranking) (v w : ℕ) → HasNoCascades k → nat_lt (cascade k w) (number k v) ≡ true
no_cascade k v w h =
    ap (λ n. nat_lt n (number k v)) (h.none w)
    ∙ ap (λ n. nat_lt 0 (cond (n == 0) (k.greatest + 1) n)) (h.none v)
    ∙ ap (λ g. nat_lt 0 (g + 1)) h.greatest

may_be : (s : Setting) → HasNoCascades s.ranking → (w : ℕ) → may_lose s w ≡ may_be_ousted s w
may_be s h w =
    ap (λ b. not (is_tiny s.ranking w) && b && (is_tiny s.ranking s.range || nat_lt (weight s w) (weight s s.range))) (no_cascade s.ranking s.range w h)
    ∙ ap (λ b. b && (is_tiny s.ranking s.range || nat_lt (weight s w) (weight s s.range))) (kept (not (is_tiny s.ranking w)))
  where
    kept : (b : Bool) → (b && true) ≡ b
    kept true = refl
    kept false = refl

may : (s : Setting) → HasNoCascades s.ranking → (r : Reg) → qualifies s r ≡ may_oust s r
may s h r = ap (λ b. not (s.facts.fixed r) && b) (all_agree (may_lose s) (may_be_ousted s) (may_be s h) (clashers s r))

ousted : (s : Setting) (first : Option Reg) → ousting_by (option_map (eviction s) first) ≡ oust s first
ousted s None = refl
ousted s (Some r) = refl

-- what is free by the matrix is free

free : (m : Matrix) (freqs : List ℕ) (k : Ranks) (v : ℕ) → clash.IsOrdered m → (r : Reg) → clash.is_free m v r ≡ is_free (setting_of m freqs k v) r
free m freqs k v ordered r = ap (λ (n : ℕ). not (clash.is_fixed m v r) && not (list_any (clash.is_in_way m v r) (numbers 0 n))) ordered.registers

module _ (m : Matrix) (freqs : List ℕ) (k : Ranks) (v : ℕ) (ordered : clash.IsOrdered m) (rs : List Reg) where
  abbrev pub here : Setting
  here = setting_of m freqs k v

  first : find (clash.is_free m v) rs ≡ find (is_free here) rs
  first = find_agree (clash.is_free m v) (is_free here) (free m freqs k v ordered) rs

  pub taken : (r : Reg) → Some r ≡ find (clash.is_free m v) rs → choices.Take r ≡ choice_of here rs
  unfolding choice_of
  taken r is = ap (λ q. take_or q (oust here (find (may_oust here) rs))) (is ∙ first)

  pub not_taken : (choice : Choice) → HasNoCascades here.ranking → None ≡ find (clash.is_free m v) rs → choice ≡ ousting_by (option_map (eviction here) (find (qualifies here) rs)) → choice ≡ choice_of here rs
  unfolding choice_of
  not_taken choice none is by =
      by ∙ ousted here (find (qualifies here) rs) ∙ ap (oust here) (find_agree (qualifies here) (may_oust here) (may here none) rs)
      ∙ ap (λ q. take_or q (oust here (find (may_oust here) rs))) (is ∙ first)
