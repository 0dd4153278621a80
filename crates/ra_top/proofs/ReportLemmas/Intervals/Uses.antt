-- How often a range is used, operand by operand.
use Rattle.std.proofs.Common.{◌≡◌, ◌<◌, ◌≤◌, ℕ, zero, suc, ◌+◌, ◌*◌, Bool, true, false, cond, ◌&&◌, min, List, [], ◌∷◌, ◌++◌, length, get_or, set, take, drop, replicate, Option, None, Some, refl, sym, ap, ◌∙◌, arith}
use Rattle.std.specs.Prelude.{◌||◌, slice_get, option_map, count_by}
use Rattle.std.specs.List.{list_any, sum_by, zip}
use Rattle.std.proofs.lemmas.Bool.{ne_eqb, eq-eqb}
use Rattle.std.proofs.lemmas.List.{drop_more}
use Rattle.std.proofs.lemmas.Option.{slice_get_within}
use Rattle.std.proofs.lemmas.List.Sums.{sum_by-cons}
use Rattle.mir_func.specs.declared.func.Loc.TheVariants.{Virtual}
use Rattle.mir_func.specs.declared.func.Operand.{Operand}
use Rattle.mir_func.specs.declared.func.Operand.TheVariants as operands
use Rattle.mir_func.specs.declared.func.RegOp.{RegOp}
use Rattle.mir_func.specs.declared.func.Instr.{Instr}
use Rattle.mir_func.specs.declared.func.Block.{Block}
use Rattle.mir_meaning.specs.Points.{is_range, counts}
use Rattle.block_freq.specs.Weights.{names, naming, block_uses, use_sum}
use Rattle.ra_top.specs.declared.report.intervals.uses.Use.{Use}
use Rattle.ra_top.specs.Report.Intervals.Lines.{is_operand, is_named}
use Rattle.ra_top.specs.Report.Intervals.Told.{most, unused, with_register, with_operand, with_operands, with_instrs, with_blocks, AreUses}

-- a use of a range by what was counted of it
abbrev pub use_of : Bool → ℕ → Use
use_of n s = record { is_named = n; sum = min s most }

or-true : (b : Bool) → (b || true) ≡ true
or-true true = refl
or-true false = refl

or-false : (b : Bool) → (b || false) ≡ b
or-false true = refl
or-false false = refl

or-assoc : (a b c : Bool) → ((a || b) || c) ≡ (a || (b || c))
or-assoc true b c = refl
or-assoc false b c = refl

pub same-use : (a b : Bool) (s r : ℕ) → a ≡ b → s ≡ r → use_of a s ≡ use_of b r
same-use a b s r e f = ap (λ n. use_of n s) e ∙ ap (use_of b) f

register-counted : (freq v : ℕ) (o : RegOp) (n : Bool) (s : ℕ) → with_register freq v o (use_of n s) ≡ use_of (n || is_range v o.loc) (s + freq * cond (is_range v o.loc && counts o) 1 0)
register-counted freq v o n s = go (is_range v o.loc) (counts o)
  where
    go : (a c : Bool) → cond a (record { is_named = true; sum = cond c (min (min s most + freq) most) (min s most) }) (use_of n s) ≡ use_of (n || a) (s + freq * cond (a && c) 1 0)
    go true true = ap (λ (x : Bool). record { is_named = x; sum = min (min s most + freq) most }) (sym (or-true n)) ∙ (let z : min (min s most + freq) most ≡ min (s + freq * 1) most = omega arith in ap (λ (x : ℕ). record { is_named = n || true; sum = x }) z)
    go true false = ap (λ (x : Bool). record { is_named = x; sum = min s most }) (sym (or-true n)) ∙ (let z : min s most ≡ min (s + freq * 0) most = omega arith in ap (λ (x : ℕ). record { is_named = n || true; sum = x }) z)
    go false c = ap (λ (x : Bool). record { is_named = x; sum = min s most }) (sym (or-false n)) ∙ (let z : min s most ≡ min (s + freq * 0) most = omega arith in ap (λ (x : ℕ). record { is_named = n || false; sum = x }) z)

operand-counted : (freq v : ℕ) (o : Operand) (n : Bool) (s : ℕ) → with_operand freq v o (use_of n s) ≡ use_of (n || is_operand v o) (s + freq * cond (names v o) 1 0)
operand-counted freq v (operands.Reg o) n s = register-counted freq v o n s
operand-counted freq v (operands.Imm z) n s = same-use n (n || false) s (s + freq * 0) (sym (or-false n)) (omega arith)
operand-counted freq v (operands.Stack z) n s = same-use n (n || false) s (s + freq * 0) (sym (or-false n)) (omega arith)
operand-counted freq v (operands.FixedStack z) n s = same-use n (n || false) s (s + freq * 0) (sym (or-false n)) (omega arith)
operand-counted freq v (operands.Symbol z) n s = same-use n (n || false) s (s + freq * 0) (sym (or-false n)) (omega arith)
operand-counted freq v (operands.Block z) n s = same-use n (n || false) s (s + freq * 0) (sym (or-false n)) (omega arith)
operand-counted freq v (operands.Index z) n s = same-use n (n || false) s (s + freq * 0) (sym (or-false n)) (omega arith)
operand-counted freq v (operands.Mask z) n s = same-use n (n || false) s (s + freq * 0) (sym (or-false n)) (omega arith)

operands-counted : (freq v : ℕ) (os : List Operand) (n : Bool) (s : ℕ) → with_operands freq v os (use_of n s) ≡ use_of (n || list_any (is_operand v) os) (s + freq * count_by (names v) os)
operands-counted freq v [] n s = same-use n (n || false) s (s + freq * 0) (sym (or-false n)) (omega arith)
operands-counted freq v (o ∷ os) n s =
    ap (with_operands freq v os) (operand-counted freq v o n s)
    ∙ operands-counted freq v os (n || is_operand v o) (s + freq * cond (names v o) 1 0)
    ∙ same-use _ _ _ _ (or-assoc n (is_operand v o) (list_any (is_operand v) os)) (further freq s (cond (names v o) 1 0) (count_by (names v) os) (count_by (names v) (o ∷ os)) (sum_by-cons (λ (x : Operand). cond (names v x) 1 0) o os))
  where
    further : (f s a b c : ℕ) → c ≡ a + b → s + f * a + f * b ≡ s + f * c
    further f s a b c e = rw e (grind arith)

instrs-counted : (freq v : ℕ) (is : List Instr) (n : Bool) (s : ℕ) → with_instrs freq v is (use_of n s) ≡ use_of (n || list_any (λ i. list_any (is_operand v) i.operands) is) (s + sum_by (λ i. freq * naming v i) is)
instrs-counted freq v [] n s = same-use n (n || false) s (s + 0) (sym (or-false n)) (omega arith)
instrs-counted freq v (i ∷ is) n s =
    ap (with_instrs freq v is) (operands-counted freq v i.operands n s)
    ∙ instrs-counted freq v is (n || list_any (is_operand v) i.operands) (s + freq * naming v i)
    ∙ same-use _ _ _ _ (or-assoc n (list_any (is_operand v) i.operands) (list_any (λ (j : Instr). list_any (is_operand v) j.operands) is)) (let z = sum_by-cons (λ (j : Instr). freq * naming v j) i is in omega (arith, z))

none-counted : (v : ℕ) (is : List Instr) → sum_by (λ i. 0 * naming v i) is ≡ 0
none-counted v [] = refl
none-counted v (i ∷ is) = let z = sum_by-cons (λ (j : Instr). 0 * naming v j) i is in let ih = none-counted v is in omega (arith, z, ih)

blocks-counted : (freqs : List ℕ) (v : ℕ) (bs : List Block) (n : Bool) (s : ℕ) → with_blocks freqs v bs (use_of n s) ≡ use_of (n || is_named v bs) (s + use_sum bs freqs v)
blocks-counted [] v [] n s = same-use n (n || false) s (s + 0) (sym (or-false n)) (omega arith)
blocks-counted (f ∷ fs) v [] n s = same-use n (n || false) s (s + 0) (sym (or-false n)) (omega arith)
blocks-counted [] v (b ∷ bs) n s =
    ap (with_blocks [] v bs) (instrs-counted 0 v b.instrs n s)
    ∙ blocks-counted [] v bs (n || list_any (λ (i : Instr). list_any (is_operand v) i.operands) b.instrs) (s + sum_by (λ (i : Instr). 0 * naming v i) b.instrs)
    ∙ same-use _ _ _ _ (or-assoc n (list_any (λ (i : Instr). list_any (is_operand v) i.operands) b.instrs) (is_named v bs)) (let z = none-counted v b.instrs in omega (arith, z))
blocks-counted (f ∷ fs) v (b ∷ bs) n s =
    ap (with_blocks fs v bs) (instrs-counted f v b.instrs n s)
    ∙ blocks-counted fs v bs (n || list_any (λ (i : Instr). list_any (is_operand v) i.operands) b.instrs) (s + sum_by (λ (i : Instr). f * naming v i) b.instrs)
    ∙ same-use _ _ _ _ (or-assoc n (list_any (λ (i : Instr). list_any (is_operand v) i.operands) b.instrs) (is_named v bs)) (let z = sum_by-cons (block_uses v) (f, b) (zip fs bs) in omega (arith, z))

-- the uses of a range, from none
pub all-counted : (freqs : List ℕ) (v : ℕ) (bs : List Block) → with_blocks freqs v bs unused ≡ record { is_named = is_named v bs; sum = min (use_sum bs freqs v) most }
all-counted freqs v bs =
    ap (with_blocks freqs v bs) (ap (λ (x : ℕ). record { is_named = false; sum = x }) (let z : 0 ≡ min 0 most = omega arith in z))
    ∙ blocks-counted freqs v bs false 0
    ∙ same-use (is_named v bs) (is_named v bs) (0 + use_sum bs freqs v) (use_sum bs freqs v) refl (omega arith)

pub there : {X : Type 0} (n v : ℕ) (x : X) → v < n → slice_get (replicate n x) v ≡ Some x
there zero v x h = absurd (omega (arith, h))
there (suc n) zero x h = refl
there (suc n) (suc v) x h = there n v x (omega (arith, h))

pub map-map : {X Y Z : Type 0} (g : Y → Z) (f : X → Y) (o : Option X) → option_map g (option_map f o) ≡ option_map (λ x. g (f x)) o
map-map g f None = refl
map-map g f (Some x) = refl

pub map-same : {X : Type 0} (o : Option X) → option_map (λ x. x) o ≡ o
map-same None = refl
map-same (Some x) = refl

-- one element more, where a list is gone through
pub one-more : {A X : Type 0} (whole : List A → X → X) (step : A → X → X) → ((a : A) (rest : List A) (x : X) → whole (a ∷ rest) x ≡ whole rest (step a x)) → (k : ℕ) (xs : List A) (a : A) (o : Option X) → k < length xs → a ≡ get_or xs k a → option_map (whole (drop (k + 1) xs)) (option_map (step a) o) ≡ option_map (whole (drop k xs)) o
one-more {A} {X} whole step by k xs a o within at = go o ∙ ap (λ bs. option_map (whole bs) o) (sym split)
  where
    split : drop k xs ≡ a ∷ drop (k + 1) xs
    split = drop_more xs k a within ∙ ap (λ x. x ∷ drop (k + 1) xs) (sym at)

    go : (o : Option X) → option_map (whole (drop (k + 1) xs)) (option_map (step a) o) ≡ option_map (whole (a ∷ drop (k + 1) xs)) o
    go None = refl
    go (Some x) = ap Some (sym (by a (drop (k + 1) xs) x))

-- none is left
pub none-more : {A X : Type 0} (whole : List A → X → X) → ((x : X) → whole [] x ≡ x) → (xs : List A) (o : Option X) → xs ≡ [] → option_map (whole xs) o ≡ o
none-more {A} {X} whole by xs o none = ap (λ bs. option_map (whole bs) o) none ∙ go o
  where
    go : (o : Option X) → option_map (whole []) o ≡ o
    go None = refl
    go (Some x) = ap Some (by x)

-- one element changed

pub changed-each : {X : Type 0} (f : ℕ → X → X) (us : List X) (p : ℕ) (x : X) → ((u : X) → slice_get us p ≡ Some u → x ≡ f p u) → ((w : ℕ) (u : X) → (w ≡ p → ⊥) → f w u ≡ u) → (w : ℕ) → slice_get (set us p x) w ≡ option_map (f w) (slice_get us w)
changed-each f [] p x here other w = refl
changed-each f (u ∷ us) zero x here other zero = ap Some (here u refl)
changed-each {X} f (u ∷ us) zero x here other (suc w) = kept (slice_get us w)
  where
    kept : (o : Option X) → o ≡ option_map (f (suc w)) o
    kept None = refl
    kept (Some y) = ap Some (sym (other (suc w) y (λ q. absurd (omega (arith, q)))))
changed-each f (u ∷ us) (suc p) x here other zero = ap Some (sym (other 0 u (λ q. absurd (omega (arith, q)))))
changed-each f (u ∷ us) (suc p) x here other (suc w) = changed-each (λ n. f (suc n)) us p x here (λ n y apart. other (suc n) y (λ q. apart (omega (arith, q)))) w

pub unchanged-each : {X : Type 0} (f : ℕ → X → X) (us : List X) (p : ℕ) → length us ≤ p → ((w : ℕ) (u : X) → (w ≡ p → ⊥) → f w u ≡ u) → (w : ℕ) → slice_get us w ≡ option_map (f w) (slice_get us w)
unchanged-each {X} f us p le other w = go (slice_get us w) refl
  where
    go : (o : Option X) → slice_get us w ≡ o → o ≡ option_map (f w) o
    go None e = refl
    go (Some u) e = let within = slice_get_within us w u e in ap Some (sym (other w u (λ q. omega (arith, q, within, le))))

-- a register operand changes the use of its range alone
pub other-use : (freq p w : ℕ) (op : RegOp) (u : Use) → op.loc ≡ Virtual p → (w ≡ p → ⊥) → with_register freq w op u ≡ u
other-use freq p w op u e apart =
    ap (λ b. cond b (record { is_named = true; sum = cond (counts op) (min (u.sum + freq) most) u.sum }) u) (ap (is_range w) e ∙ ne_eqb w p apart)

pub own-use : (freq p : ℕ) (op : RegOp) (u : Use) → op.loc ≡ Virtual p → with_register freq p op u ≡ record { is_named = true; sum = cond (counts op) (min (u.sum + freq) most) u.sum }
own-use freq p op u e =
    ap (λ b. cond b (record { is_named = true; sum = cond (counts op) (min (u.sum + freq) most) u.sum }) u) (ap (is_range p) e ∙ eq-eqb p p refl)

-- what is put back for the range of a register operand
pub added-each : (freq p : ℕ) (op : RegOp) (us : List Use) (test : Bool) (more : Use) → op.loc ≡ Virtual p → test ≡ counts op → more ≡ record { is_named = true; sum = cond test (min ((get_or us p unused).sum + freq) most) (get_or us p unused).sum } → (w : ℕ) → slice_get (set us p more) w ≡ option_map (with_register freq w op) (slice_get us w)
added-each freq p op us test more loc counted e =
    changed-each (λ w. with_register freq w op) us p more
    (λ u is. e
    ∙ ap (λ (b : Bool). record { is_named = true; sum = cond b (min ((get_or us p unused).sum + freq) most) (get_or us p unused).sum }) counted
    ∙ ap (λ (x : Use). record { is_named = true; sum = cond (counts op) (min (x.sum + freq) most) x.sum }) (read us p unused u is)
    ∙ sym (own-use freq p op u loc))
    (λ w u apart. other-use freq p w op u loc apart)
  where
    read : (us : List Use) (p : ℕ) (d u : Use) → slice_get us p ≡ Some u → get_or us p d ≡ u
    read [] p d u is = absurd (cc)
    read (x ∷ xs) zero d u is = cc
    read (x ∷ xs) (suc p) d u is = read xs p d u is

-- the uses of all ranges
pub uses-right : (freqs : List ℕ) (bs : List Block) (n : ℕ) (us : List Use) → length us ≡ n → ((v : ℕ) → slice_get us v ≡ option_map (with_blocks freqs v bs) (slice_get (replicate n unused) v)) → AreUses freqs bs us
uses-right freqs bs n us all each v within =
    each v ∙ ap (option_map (with_blocks freqs v bs)) (there n v unused (omega (arith, within, all))) ∙ ap Some (all-counted freqs v bs)

pub written-back : {X : Type 0} (us more : List X) (n : ℕ) → length us ≡ n → take n (us ++ more) ≡ us
written-back [] more n e = ap (λ k. take k more) (sym e) ∙ none more
  where
    none : {X : Type 0} (xs : List X) → take 0 xs ≡ []
    none [] = refl
    none (x ∷ xs) = refl
written-back (u ∷ us) more zero e = absurd (omega (arith, e))
written-back (u ∷ us) more (suc n) e = ap (λ xs. u ∷ xs) (written-back us more n (omega (arith, e)))
