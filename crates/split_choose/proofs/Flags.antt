-- Flags of bundles that are set block by block.
use Rattle.std.proofs.Common.{◌≡◌, ◌≢◌, ◌∙◌, ◌⊎◌, inl, inr, ℕ, zero, suc, ◌+◌, ◌*◌, ◌<◌, ◌≤◌, List, [], ◌∷◌, ◌++◌, Bool, true, false, cond, arith, refl, sym, ap, subst, length, take, set, get_or, map, replicate}
use Rattle.std.specs.Prelude.{◌||◌, ◌&&◌, not, nat_eq, nat_lt}
use Rattle.std.specs.List.{list_any, list_all}
use Rattle.std.proofs.lemmas.Bool.{cases_eq, cases_lt, eq-eqb, ne_eqb, ltb-true}
use Rattle.std.proofs.lemmas.List.{take_more, take_all, length-set, set_past, get_or-set_same, get_or-set_other, get_or-replicate, length-replicate, get_or_default}
use Rattle.split_choose.specs.declared.spans.Span.{Span}
use Rattle.split_choose.specs.Bundles.{start_of, end_of, root_of, AreEarlier}
use Rattle.split_choose.specs.Regions.{is_bordered, bars, Sets, AreOut, ArePositions, is_out, inside_at, inside_in}
use Rattle.split_choose.proofs.Walks.{any_push, all_at, mapped-at}
use Rattle.split_choose.proofs.Roots.{root_falls}

or-none : (b : Bool) → (b || false) ≡ b
or-none true = refl
or-none false = refl

or-both : (a b c : Bool) → ((a || b) || c) ≡ (a || (b || c))
or-both true b c = refl
or-both false b c = refl

-- one flag is set

flag-set : (xs : List Bool) (i r : ℕ) → r < length xs → get_or (set xs i true) r false ≡ (get_or xs r false || nat_eq i r)
flag-set xs i r h = go (cases_eq i r)
  where
    or-true : (b : Bool) → (b || true) ≡ true
    or-true true = refl
    or-true false = refl

    go : (i ≡ r) ⊎ (i ≡ r → ⊥) → get_or (set xs i true) r false ≡ (get_or xs r false || nat_eq i r)
    go (inl e) =
        let P : ℕ → Type 0 = λ k. get_or (set xs k true) r false ≡ true in
        subst P (sym e) (get_or-set_same xs r true false h) ∙ sym (ap (λ b. get_or xs r false || b) (eq-eqb i r e) ∙ or-true (get_or xs r false))
    go (inr d) = get_or-set_other xs i r true false (λ e. d (sym e)) ∙ sym (ap (λ b. get_or xs r false || b) (ne_eqb i r d) ∙ or-none (get_or xs r false))

set-if : (b : Bool) (xs : List Bool) (i r : ℕ) → r < length xs → get_or (cond b (set xs i true) xs) r false ≡ (get_or xs r false || (b && nat_eq i r))
set-if true xs i r h = flag-set xs i r h
set-if false xs i r h = sym (or-none (get_or xs r false))

length-if : (b : Bool) (xs : List Bool) (i : ℕ) → length (cond b (set xs i true) xs) ≡ length xs
length-if true xs i = length-set xs i true
length-if false xs i = refl

pub sets : (ps : List ℕ) (s : Span) (old mid new : List Bool) (a z : ℕ) → a ≡ start_of s.position → z ≡ end_of s.position → mid ≡ cond s.is_live_in (set old (root_of ps a) true) old → new ≡ cond s.is_live_out (set mid (root_of ps z) true) mid → Sets ps s old new
sets ps s old mid new a z a_is z_is m n = record {
  size = long ∙ mid-long;
  told = λ r h.
      ap (λ xs. get_or xs r false) n ∙ set-if s.is_live_out mid (root_of ps z) r (omega (arith, mid-long, h))
      ∙ ap (λ b. b || (s.is_live_out && nat_eq (root_of ps z) r)) (ap (λ xs. get_or xs r false) m ∙ set-if s.is_live_in old (root_of ps a) r h)
      ∙ or-both (get_or old r false) (s.is_live_in && nat_eq (root_of ps a) r) (s.is_live_out && nat_eq (root_of ps z) r)
      ∙ ap (λ x. get_or old r false || ((s.is_live_in && nat_eq (root_of ps x) r) || (s.is_live_out && nat_eq (root_of ps z) r))) a_is
      ∙ ap (λ x. get_or old r false || ((s.is_live_in && nat_eq (root_of ps (start_of s.position)) r) || (s.is_live_out && nat_eq (root_of ps x) r))) z_is;
}
  where
    mid-long : length mid ≡ length old
    mid-long = ap length m ∙ length-if s.is_live_in old (root_of ps a)

    long : length new ≡ length mid
    long = ap length n ∙ length-if s.is_live_out mid (root_of ps z)

-- block by block

pub out_first : (ps : List ℕ) (test : Span → Bool) (spans : List Span) (count n : ℕ) (flags : List Bool) → flags ≡ replicate n false → n ≡ count → AreOut ps test (take 0 spans) count flags
out_first ps test spans count n flags is e = record {
  size = ap length is ∙ (length-replicate n false ∙ e);
  told = λ r h. ap (λ xs. get_or xs r false) is ∙ get_or-replicate n r false false (omega arith);
}

module _ (ps : List ℕ) (test : Span → Bool) (spans : List Span) (count : ℕ) (clear : List Bool) (k : ℕ) (s : Span) (flag : Bool) (h : k < length spans) (at : s ≡ get_or spans k s) (are : clear ≡ map test spans) (flag_is : flag ≡ get_or clear k false) (old new : List Bool) (was : AreOut ps test (take k spans) count old) where
  is-clear : flag ≡ test s
  is-clear = flag_is ∙ (ap (λ xs. get_or xs k false) are ∙ mapped-at test spans k s false h at)

  more : (r : ℕ) → list_any (bars ps test r) (take (k + 1) spans) ≡ (list_any (bars ps test r) (take k spans) || bars ps test r s)
  more r = any_push (bars ps test r) spans k s h at ∙ ap (λ b. list_any (bars ps test r) (take k spans) || b) (or-none (bars ps test r s))

  pub out_barred : flag ≡ false → Sets ps s old new → AreOut ps test (take (k + 1) spans) count new
  out_barred unset made = record {
    size = made.size ∙ was.size;
    told = λ r lt.
        made.told r (let z = was.size in omega arith) ∙ ap (λ b. b || is_bordered ps r s) (was.told r lt)
        ∙ sym (more r ∙ ap (λ b. list_any (bars ps test r) (take k spans) || (not b && is_bordered ps r s)) (sym is-clear ∙ unset));
  }

  pub out_clear : flag ≡ true → AreOut ps test (take (k + 1) spans) count old
  out_clear clear_is = record {
    size = was.size;
    told = λ r lt. was.told r lt ∙ sym (more r ∙ (ap (λ b. list_any (bars ps test r) (take k spans) || (not b && is_bordered ps r s)) (sym is-clear ∙ clear_is) ∙ or-none (list_any (bars ps test r) (take k spans))));
  }

pub out_last : (ps : List ℕ) (test : Span → Bool) (spans : List Span) (count k : ℕ) (flags : List Bool) → length spans ≤ k → AreOut ps test (take k spans) count flags → AreOut ps test spans count flags
out_last ps test spans count k flags h was = let P : List Span → Type 0 = λ xs. AreOut ps test xs count flags in subst P (take_all k spans h) was

pub position-at : (count : ℕ) (spans : List Span) (k : ℕ) (s : Span) → ArePositions count spans → k < length spans → s ≡ get_or spans k s → s.position < count
position-at count spans k s all h at = ltb-true s.position count (all_at (λ (x : Span). nat_lt x.position count) spans k s all h at)

-- where a block lies, by the flags

pub inside-told : (ps : List ℕ) (test : Span → Bool) (spans : List Span) (count : ℕ) (flags : List Bool) (k : ℕ) (s : Span) (flag : Bool) (clear : List Bool) → AreEarlier ps → ArePositions count spans → AreOut ps test spans (2 * count) flags → k < length spans → s ≡ get_or spans k s → clear ≡ map test spans → flag ≡ get_or clear k false
    → inside_at flag (get_or flags (root_of ps (start_of s.position)) false) (get_or flags (root_of ps (end_of s.position)) false) s ≡ inside_in ps test spans s
inside-told ps test spans count flags k s flag clear earlier positions outs h at are flag_is =
    let low : s.position < count = position-at count spans k s positions h at in
    let a : root_of ps (start_of s.position) ≤ start_of s.position = root_falls ps earlier (length ps) (start_of s.position) in
    let z : root_of ps (end_of s.position) ≤ end_of s.position = root_falls ps earlier (length ps) (end_of s.position) in
    ap (λ b. inside_at b (get_or flags (root_of ps (start_of s.position)) false) (get_or flags (root_of ps (end_of s.position)) false) s) (flag_is ∙ (ap (λ xs. get_or xs k false) are ∙ mapped-at test spans k s false h at))
    ∙ (ap (λ b. inside_at (test s) b (get_or flags (root_of ps (end_of s.position)) false) s) (outs.told (root_of ps (start_of s.position)) (omega arith))
    ∙ ap (λ b. inside_at (test s) (is_out ps test spans (start_of s.position)) b s) (outs.told (root_of ps (end_of s.position)) (omega arith)))
