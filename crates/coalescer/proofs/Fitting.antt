-- The indexes with which instructions name a range, by the instructions that touch it.
use Rattle.std.proofs.Common.{◌≡◌, ◌∙◌, ◌&&◌, ◌||◌, ◌∷◌, ◌++◌, ℕ, Bool, true, false, cond, List, [], Option, Some, None, map, filter, refl, sym, ap}
use Rattle.std.specs.Prelude.{filter_map, flat_map}
use Rattle.std.specs.List.{cons_option, list_all, list_any}
use Rattle.std.specs.Option.{option_map_or}
use Rattle.std.proofs.lemmas.List.Folds.{list_all-append}
use Rattle.target_base.specs.declared.types.IndexId.{IndexId}
use Rattle.target_base.specs.declared.types.Target.{Target}
use Rattle.meaning.specs.Live.{Among as Member, here as first, there as later}
use Rattle.mir_func.specs.declared.func.RegOp.{RegOp}
use Rattle.mir_func.specs.declared.func.Operand.{Operand}
use Rattle.mir_func.specs.declared.func.Instr.{Instr}
use Rattle.mir_func.specs.Value.{Function}
use Rattle.mir_func.specs.Binding.{as_register, registers}
use Rattle.mir_meaning.specs.Points.{is_range, touches}
use Rattle.live_edits.specs.Folded.{composed, names_range}
use Rattle.join_laws.specs.Joined.{fits_range, index_on}
use Rattle.coalescer.specs.Coalescing.{fits_instr, instr_of}

-- operands one by one

module _ (g : IndexId → Bool) (h : RegOp → Option IndexId) where
  abbrev fits : List Operand → Bool
  fits os = list_all g (filter_map h (registers os))

  single : (r : Option IndexId) → list_all g (cons_option r []) ≡ option_map_or g r true
  single None = refl
  single (Some x) = go (g x)
    where
      go : (u : Bool) → (u && true) ≡ u
      go true = refl
      go false = refl

  pub one-operand : (o : Operand) (q : Option RegOp) → q ≡ as_register o → list_all g (filter_map h (registers (o ∷ []))) ≡ option_map_or (λ p. option_map_or g (h p) true) q true
  one-operand o q e = ap (λ (z : Option RegOp). list_all g (filter_map h (cons_option z []))) (sym e) ∙ go q
    where
      go : (q : Option RegOp) → list_all g (filter_map h (cons_option q [])) ≡ option_map_or (λ p. option_map_or g (h p) true) q true
      go None = refl
      go (Some p) = single (h p)

  pub each-operand : (os : List Operand) → list_all (λ o. list_all g (filter_map h (registers (o ∷ [])))) os ≡ list_all g (filter_map h (registers os))
  each-operand [] = refl
  each-operand (o ∷ os) = go (as_register o) (each-operand os)
    where
      at : (r : Option IndexId) (z : Bool) → z ≡ fits os → (list_all g (cons_option r []) && z) ≡ list_all g (cons_option r (filter_map h (registers os)))
      at None z e = e
      at (Some x) z e = by (g x)
        where
          by : (u : Bool) → ((u && true) && z) ≡ (u && fits os)
          by true = e
          by false = refl

      go : (q : Option RegOp) → list_all (λ p. fits (p ∷ [])) os ≡ fits os → (list_all g (filter_map h (cons_option q [])) && list_all (λ p. fits (p ∷ [])) os) ≡ list_all g (filter_map h (cons_option q (registers os)))
      go None e = e
      go (Some p) e = at (h p) (list_all (λ p. fits (p ∷ [])) os) e

-- instructions that touch the range

module _ (t : Target) (f : Function) (a : ℕ) (y : IndexId) (b : ℕ) where
  abbrev g : IndexId → Bool
  g z = fits_range t f a (composed t y z)

  abbrev indexes : Instr → List IndexId
  indexes i = filter_map (index_on b) (registers i.operands)

  no-index : (os : List RegOp) → list_any (λ o. is_range b o.loc) os ≡ false → filter_map (index_on b) os ≡ []
  no-index [] e = refl
  no-index (o ∷ os) e = go (is_range b o.loc) refl e (no-index os)
    where
      go : (u : Bool) → is_range b o.loc ≡ u → (u || list_any (λ p. is_range b p.loc) os) ≡ false → (list_any (λ p. is_range b p.loc) os ≡ false → filter_map (index_on b) os ≡ []) → filter_map (index_on b) (o ∷ os) ≡ []
      go true h k ih = absurd (cc)
      go false h k ih = ap (λ q. cons_option q (filter_map (index_on b) os)) (ap (λ u. cond u o.index None) h) ∙ ih k

  not-named : (i : Instr) → (names_range b i ≡ true → touches b i ≡ true) → touches b i ≡ false → names_range b i ≡ false
  not-named i h e = go (names_range b i) refl
    where
      go : (u : Bool) → names_range b i ≡ u → u ≡ false
      go true k = absurd (let z : true ≡ false = sym (h k) ∙ e in cc)
      go false k = refl

  pub by-touching : (xs : List Instr) → ((i : Instr) → Member i xs → instr_of f i.id ≡ Some i) → ((i : Instr) → Member i xs → names_range b i ≡ true → touches b i ≡ true) → list_all (λ id. fits_instr t f a y b (instr_of f id)) (map (λ (i : Instr). i.id) (filter (touches b) xs)) ≡ list_all g (flat_map indexes xs)
  by-touching [] found named = refl
  by-touching (i ∷ xs) found named = go (touches b i) refl (by-touching xs (λ j m. found j (later m)) (λ j m. named j (later m)))
    where
      go : (u : Bool) → touches b i ≡ u → list_all (λ id. fits_instr t f a y b (instr_of f id)) (map (λ (i : Instr). i.id) (filter (touches b) xs)) ≡ list_all g (flat_map indexes xs)
          → list_all (λ id. fits_instr t f a y b (instr_of f id)) (map (λ (i : Instr). i.id) (cond u (i ∷ filter (touches b) xs) (filter (touches b) xs))) ≡ list_all g (flat_map indexes (i ∷ xs))
      go true e ih = (λ k. fits_instr t f a y b (found i first k) && ih k) ∙ sym (list_all-append g (indexes i) (flat_map indexes xs))
      go false e ih = ih ∙ ap (λ zs. list_all g (zs ++ flat_map indexes xs)) (sym (no-index (registers i.operands) (not-named i (named i first) e)))
