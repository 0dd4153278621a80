-- The run that is found first among all runs in their order is the best one.
use Rattle.std.proofs.Common.{◌≡◌, ◌∙◌, ◌⊎◌, inl, inr, ℕ, zero, suc, ◌+◌, ◌-◌, ◌<◌, ◌≤◌, Bool, true, false, cond, refl, sym, ap, subst, arith, List, [], ◌∷◌, ◌++◌, Option, None, Some, length, map, take}
use Rattle.std.specs.Prelude.{slice_get, nat_lt, nat_le, flat_map, find}
use Rattle.std.specs.Option.{option_or}
use Rattle.std.proofs.lemmas.Bool.{true≢false, false_from_ne_true, leb-true, leb-false, le-leb, le-ltb, cond-true, cond-false, cases_lt}
use Rattle.std.proofs.lemmas.List.Folds.{find-append}
use Rattle.std.proofs.lemmas.Grind.{flat_map-append}
use Rattle.target_base.specs.declared.types.Reg.{Reg}
use Rattle.split_choose.specs.declared.runs.PlaceRun.{PlaceRun}
use Rattle.split_choose.specs.LongRuns.{IsWithin, IsRun, IsBest, IsBestRun}
use Rattle.target_base.specs.declared.types.Target.{Target}
use Rattle.mir_func.specs.Value.{Function}
use Rattle.split_choose.specs.Offers.{View, Touched, runs_of, runs_up_to, ends_of, run_ends}
use Rattle.split_choose.proofs.Best.{get-within}

pub get-some : {X : Type 0} (xs : List X) (k : ℕ) → k < length xs → (x : X) × (slice_get xs k ≡ Some x)
get-some [] k h = absurd (omega arith)
get-some (y ∷ xs) zero h = (y, refl)
get-some (y ∷ xs) (suc k) h = get-some xs k (omega arith)

-- the first of the registers

find-none : {A B : Type 0} (test : A × B → Bool) (e : A) (rs : List B) → ((j : ℕ) (r : B) → slice_get rs j ≡ Some r → test (e, r) ≡ false) → find test (map (λ r. (e, r)) rs) ≡ None
find-none test e [] h = refl
find-none test e (r ∷ rs) h = cond-false (test (e, r)) (Some (e, r)) (find test (map (λ r. (e, r)) rs)) (h 0 r refl) ∙ find-none test e rs (λ j q g. h (suc j) q g)

find-some : {A B : Type 0} (test : A × B → Bool) (e : A) (rs : List B) (place : ℕ) (r : B) → slice_get rs place ≡ Some r → test (e, r) ≡ true → ((j : ℕ) (q : B) → slice_get rs j ≡ Some q → test (e, q) ≡ true → place ≤ j)
    → find test (map (λ r. (e, r)) rs) ≡ Some (e, r)
find-some test e [] place r at holds first = cc
find-some test e (q ∷ rs) zero r at holds first =
    let same : q ≡ r = cc in
    cond-true (test (e, q)) (Some (e, q)) (find test (map (λ r. (e, r)) rs)) (ap (λ p. test (e, p)) same ∙ holds) ∙ ap (λ p. Some (e, p)) same
find-some test e (q ∷ rs) (suc place) r at holds first =
    let fails : test (e, q) ≡ false = false_from_ne_true (test (e, q)) (λ g. (let z : suc place ≤ 0 = first 0 q refl g in omega arith)) in
    cond-false (test (e, q)) (Some (e, q)) (find test (map (λ r. (e, r)) rs)) fails ∙ find-some test e rs place r at holds (λ j p g k. (let z : suc place ≤ suc j = first (suc j) p g k in omega arith))

module _ (t : Target) (f : Function) (v : ℕ) (view : View) (rs : List Reg) (test : (Touched × Touched) × Reg → Bool) where
  -- the first that passes, over runs with the registers
  abbrev over : List (Touched × Touched) → Option ((Touched × Touched) × Reg)
  over es = find test (flat_map (λ e. map (λ r. (e, r)) rs) es)

  over-append : (es ds : List (Touched × Touched)) → over (es ++ ds) ≡ option_or (over es) (over ds)
  over-append es ds = ap (find test) (flat_map-append (λ e. map (λ r. (e, r)) rs) es ds) ∙ find-append test (flat_map (λ e. map (λ r. (e, r)) rs) es) (flat_map (λ e. map (λ r. (e, r)) rs) ds)

  over-cons : (e : Touched × Touched) (es : List (Touched × Touched)) → over (e ∷ es) ≡ option_or (find test (map (λ r. (e, r)) rs)) (over es)
  over-cons e es = find-append test (map (λ r. (e, r)) rs) (flat_map (λ e. map (λ r. (e, r)) rs) es)

  none-first : (a b : Option ((Touched × Touched) × Reg)) → a ≡ None → option_or a b ≡ b
  none-first a b e = ap (λ c. option_or c b) e

  some-first : (a b : Option ((Touched × Touched) × Reg)) (x : (Touched × Touched) × Reg) → a ≡ Some x → option_or a b ≡ Some x
  some-first a b x e = ap (λ c. option_or c b) e

  -- the ends of a run

  ends-are : (l : ℕ) (x : Touched) (qs : List Touched) (q : Touched) → slice_get (x ∷ qs) l ≡ Some q → ends_of t f v view x (take l qs) ≡ (x, q)
  ends-are zero x [] q e = let s : x ≡ q = cc in ap (λ r. (x, r)) s
  ends-are zero x (y ∷ qs) q e = let s : x ≡ q = cc in ap (λ r. (x, r)) s
  ends-are (suc l) x [] q e = cc
  ends-are (suc l) x (y ∷ qs) q e = ap (λ (r : Touched × Touched). (x, r.1)) (ends-are l y qs q e)

  -- the runs of one length

  first-run : (l : ℕ) (x : Touched) (qs : List Touched) (q : Touched) → slice_get (x ∷ qs) l ≡ Some q → flat_map (run_ends t f v view) (runs_of t f v view (suc l) (x ∷ qs)) ≡ (x, q) ∷ flat_map (run_ends t f v view) (runs_of t f v view (suc l) qs)
  first-run l x qs q e =
      let long = get-within (x ∷ qs) l q e in
      let fits : nat_le (suc l) (length (x ∷ qs)) ≡ true = le-leb (suc l) (length (x ∷ qs)) (omega arith) in
      ap (flat_map (run_ends t f v view)) (cond-true (nat_le (suc l) (length (x ∷ qs))) (take (suc l) (x ∷ qs) ∷ runs_of t f v view (suc l) qs) [] fits)
      ∙ ap (λ d. d ∷ flat_map (run_ends t f v view) (runs_of t f v view (suc l) qs)) (ends-are l x qs q e)

  no-run : (l : ℕ) (qs : List Touched) → length qs ≤ l → runs_of t f v view (suc l) qs ≡ []
  no-run l [] h = refl
  no-run l (x ∷ qs) h = cond-false (nat_le (suc l) (length (x ∷ qs))) (take (suc l) (x ∷ qs) ∷ runs_of t f v view (suc l) qs) [] (false_from_ne_true (nat_le (suc l) (length (x ∷ qs))) (λ e. (let m = leb-true (suc l) (length (x ∷ qs)) e in omega arith)))

  level-none : (l : ℕ) (qs : List Touched) → ((k j : ℕ) (p q : Touched) (r : Reg) → slice_get qs k ≡ Some p → slice_get qs (k + l) ≡ Some q → slice_get rs j ≡ Some r → test ((p, q), r) ≡ false)
      → over (flat_map (run_ends t f v view) (runs_of t f v view (suc l) qs)) ≡ None
  level-none l [] h = refl
  level-none l (x ∷ qs) h = elim (cases_lt l (length (x ∷ qs))) [
    | inl inside ↦
        (let e = get-some (x ∷ qs) l inside in
        let z : 0 + l ≡ l = omega arith in
        ap over (first-run l x qs e.0 e.1)
        ∙ (over-cons (x, e.0) (flat_map (run_ends t f v view) (runs_of t f v view (suc l) qs))
        ∙ (none-first _ _ (find-none test (x, e.0) rs (λ j r g. h 0 j x e.0 r refl (ap (slice_get (x ∷ qs)) z ∙ e.1) g))
        ∙ level-none l qs (λ k j p q r a b g. (let s : suc k + l ≡ suc (k + l) = omega arith in h (suc k) j p q r a (ap (slice_get (x ∷ qs)) s ∙ b) g)))))
    | inr short ↦ ap (λ ds. over (flat_map (run_ends t f v view) ds)) (no-run l (x ∷ qs) short)
  ]

  level-some : (l : ℕ) (qs : List Touched) (k : ℕ) (p q : Touched) (place : ℕ) (r : Reg) → slice_get qs k ≡ Some p → slice_get qs (k + l) ≡ Some q → slice_get rs place ≡ Some r → test ((p, q), r) ≡ true
      → ((j : ℕ) (d : Reg) → slice_get rs j ≡ Some d → test ((p, q), d) ≡ true → place ≤ j)
      → ((i j : ℕ) (a b : Touched) (d : Reg) → slice_get qs i ≡ Some a → slice_get qs (i + l) ≡ Some b → slice_get rs j ≡ Some d → test ((a, b), d) ≡ true → k ≤ i)
      → over (flat_map (run_ends t f v view) (runs_of t f v view (suc l) qs)) ≡ Some ((p, q), r)
  level-some l [] k p q place r start end at holds foremost earliest = cc
  level-some l (x ∷ qs) zero p q place r start end at holds foremost earliest =
      let z : 0 + l ≡ l = omega arith in
      let same : x ≡ p = cc in
      let last : slice_get (x ∷ qs) l ≡ Some q = ap (slice_get (x ∷ qs)) (sym z) ∙ end in
      let both : ◌≡◌ {A = Touched × Touched} (x, q) (p, q) = ap (λ d. (d, q)) same in
      let T : Touched × Touched → Type 0 = λ e. (j : ℕ) (d : Reg) → slice_get rs j ≡ Some d → test (e, d) ≡ true → place ≤ j in
      ap over (first-run l x qs q last)
      ∙ (over-cons (x, q) (flat_map (run_ends t f v view) (runs_of t f v view (suc l) qs))
      ∙ (some-first _ _ ((x, q), r) (find-some test (x, q) rs place r at (ap (λ (e : Touched × Touched). test (e, r)) both ∙ holds) (subst T (sym both) foremost))
      ∙ ap (λ (e : Touched × Touched). Some (e, r)) both))
  level-some l (x ∷ qs) (suc k) p q place r start end at holds foremost earliest =
      let s : suc k + l ≡ suc (k + l) = omega arith in
      let last : slice_get qs (k + l) ≡ Some q = ap (slice_get (x ∷ qs)) (sym s) ∙ end in
      let long = get-within qs (k + l) q last in
      let e = get-some (x ∷ qs) l (omega arith) in
      let z : 0 + l ≡ l = omega arith in
      let first : (j : ℕ) (d : Reg) → slice_get rs j ≡ Some d → test ((x, e.0), d) ≡ false =
      λ j d g. false_from_ne_true (test ((x, e.0), d)) (λ h. (let m : suc k ≤ 0 = earliest 0 j x e.0 d refl (ap (slice_get (x ∷ qs)) z ∙ e.1) g h in omega arith)) in
      ap over (first-run l x qs e.0 e.1)
      ∙ (over-cons (x, e.0) (flat_map (run_ends t f v view) (runs_of t f v view (suc l) qs))
      ∙ (none-first _ _ (find-none test (x, e.0) rs first)
      ∙ level-some l qs k p q place r start last at holds foremost
      (λ i j a b d g h w y. (let s : suc i + l ≡ suc (i + l) = omega arith in let m : suc k ≤ suc i = earliest (suc i) j a b d g (ap (slice_get (x ∷ qs)) s ∙ h) w y in omega arith))))

  -- all runs

  module _ (ps : List Touched) where
    up-to : (n : ℕ) → 1 ≤ n → over (flat_map (run_ends t f v view) (runs_up_to t f v view (suc n) ps)) ≡ option_or (over (flat_map (run_ends t f v view) (runs_of t f v view (suc n) ps))) (over (flat_map (run_ends t f v view) (runs_up_to t f v view n ps)))
    up-to n h =
        ap (λ ds. over (flat_map (run_ends t f v view) ds)) (cond-false (nat_lt n 1) [] (runs_of t f v view (suc n) ps ++ runs_up_to t f v view n ps) (le-ltb n 1 h))
        ∙ (ap over (flat_map-append (run_ends t f v view) (runs_of t f v view (suc n) ps) (runs_up_to t f v view n ps))
        ∙ over-append (flat_map (run_ends t f v view) (runs_of t f v view (suc n) ps)) (flat_map (run_ends t f v view) (runs_up_to t f v view n ps)))

    up-to-one : over (flat_map (run_ends t f v view) (runs_up_to t f v view 1 ps)) ≡ None
    up-to-one = refl

    all-none : (n : ℕ) → ((l k j : ℕ) (p q : Touched) (r : Reg) → 1 ≤ l → l < n → slice_get ps k ≡ Some p → slice_get ps (k + l) ≡ Some q → slice_get rs j ≡ Some r → test ((p, q), r) ≡ false)
        → over (flat_map (run_ends t f v view) (runs_up_to t f v view n ps)) ≡ None
    all-none zero h = refl
    all-none (suc zero) h = up-to-one
    all-none (suc (suc n)) h =
        up-to (suc n) (omega arith)
        ∙ (none-first _ _ (level-none (suc n) ps (λ k j p q r. h (suc n) k j p q r (omega arith) (omega arith)))
        ∙ all-none (suc n) (λ l k j p q r a b. h l k j p q r a (omega arith)))

    all-some : (n l k : ℕ) (p q : Touched) (place : ℕ) (r : Reg) → 1 ≤ l → l < n → slice_get ps k ≡ Some p → slice_get ps (k + l) ≡ Some q → slice_get rs place ≡ Some r → test ((p, q), r) ≡ true
        → ((j : ℕ) (d : Reg) → slice_get rs j ≡ Some d → test ((p, q), d) ≡ true → place ≤ j)
        → ((i j : ℕ) (a b : Touched) (d : Reg) → slice_get ps i ≡ Some a → slice_get ps (i + l) ≡ Some b → slice_get rs j ≡ Some d → test ((a, b), d) ≡ true → k ≤ i)
        → ((m i j : ℕ) (a b : Touched) (d : Reg) → m < n → slice_get ps i ≡ Some a → slice_get ps (i + m) ≡ Some b → slice_get rs j ≡ Some d → test ((a, b), d) ≡ true → m ≤ l)
        → over (flat_map (run_ends t f v view) (runs_up_to t f v view n ps)) ≡ Some ((p, q), r)
    all-some zero l k p q place r many few start end at holds foremost earliest longest = absurd (omega arith)
    all-some (suc n) l k p q place r many few start end at holds foremost earliest longest = elim (cases_lt l n) [
      | inl more ↦
          (up-to n (omega arith)
          ∙ (none-first _ _ (level-none n ps (λ i j a b d g h w. false_from_ne_true (test ((a, b), d)) (λ y. (let m = longest n i j a b d (omega arith) g h w y in omega arith))))
          ∙ all-some n l k p q place r many more start end at holds foremost earliest (λ m i j a b d x. longest m i j a b d (omega arith))))
      | inr last ↦
          (let same : n ≡ l = omega arith in
          let S : ℕ → Type 0 = λ m. over (flat_map (run_ends t f v view) (runs_of t f v view (suc m) ps)) ≡ Some ((p, q), r) in
          up-to n (omega arith)
          ∙ some-first _ _ ((p, q), r) (subst S (sym same) (level-some l ps k p q place r start end at holds foremost earliest)))
    ]

    -- the tests are those of runs
    pub record AreTold (near : Reg → ℕ → Bool) : Type 0 where
      pub run : (k l : ℕ) (p q : Touched) (r : Reg) → 1 ≤ l → slice_get ps k ≡ Some p → slice_get ps (k + l) ≡ Some q → test ((p, q), r) ≡ true → IsRun (near r) k (suc l)
      pub clear : (k l : ℕ) (p q : Touched) (r : Reg) → 1 ≤ l → slice_get ps k ≡ Some p → slice_get ps (k + l) ≡ Some q → IsRun (near r) k (suc l) → test ((p, q), r) ≡ true

    pub record IsSought (b : PlaceRun) : Type 0 where
      pub first : Touched
      pub last : Touched
      pub begins : slice_get ps b.first ≡ Some first
      pub ends : slice_get ps (b.first + b.len - 1) ≡ Some last
      pub found : over (flat_map (run_ends t f v view) (runs_up_to t f v view (length ps - 1) ps)) ≡ Some ((first, last), b.register)

    within-of : (k l : ℕ) (q : Touched) → 1 ≤ l → suc l < length ps → slice_get ps (k + l) ≡ Some q → IsWithin (length ps) k (suc l)
    within-of k l q many few e = let h = get-within ps (k + l) q e in record { many = omega arith; few = few; inside = omega arith }

    pub best-sought : (near : Reg → ℕ → Bool) (b : PlaceRun) → AreTold near → IsBest near (length ps) rs (length rs) b → IsSought b
    best-sought near b told h = record {
      first = p.0;
      last = q.0;
      begins = p.1;
      ends = ap (slice_get ps) shift ∙ q.1;
      found = all-some (length ps - 1) l b.first p.0 q.0 h.place b.register (omega arith) (omega arith) p.1 q.1 h.register
          (told.clear b.first l p.0 q.0 b.register (omega arith) p.1 q.1 (subst (IsRun (near b.register) b.first) (sym long) h.run))
          (λ j d g w. h.foremost j d (get-within rs j d g) g (subst (IsRun (near d) b.first) long (told.run b.first l p.0 q.0 d (omega arith) p.1 q.1 w)))
          (λ i j a c d g x w y. h.earliest j i d (get-within rs j d w) w (subst (IsWithin (length ps) i) long (within-of i l c (omega arith) (omega arith) x)) (subst (IsRun (near d) i) long (told.run i l a c d (omega arith) g x y)))
          longest;
    }
      where
        l : ℕ
        l = b.len - 1

        many : 2 ≤ b.len
        many = h.within.many

        few : b.len < length ps
        few = h.within.few

        inside : b.first + b.len ≤ length ps
        inside = h.within.inside

        long : suc l ≡ b.len
        long = omega arith

        shift : b.first + b.len - 1 ≡ b.first + l
        shift = omega arith

        p : (x : Touched) × (slice_get ps b.first ≡ Some x)
        p = get-some ps b.first (omega arith)

        q : (x : Touched) × (slice_get ps (b.first + l) ≡ Some x)
        q = get-some ps (b.first + l) (omega arith)

        longest : (m i j : ℕ) (a c : Touched) (d : Reg) → m < length ps - 1 → slice_get ps i ≡ Some a → slice_get ps (i + m) ≡ Some c → slice_get rs j ≡ Some d → test ((a, c), d) ≡ true → m ≤ l
        longest zero i j a c d less g x w y = omega arith
        longest (suc m) i j a c d less g x w y =
            let n = h.longest j i (suc (suc m)) d (get-within rs j d w) w (within-of i (suc m) c (omega arith) (omega arith) x) (told.run i (suc m) a c d (omega arith) g x y) in
            omega arith

    pub none-sought : (near : Reg → ℕ → Bool) → AreTold near → IsBestRun near (length ps) rs (length rs) None → over (flat_map (run_ends t f v view) (runs_up_to t f v view (length ps - 1) ps)) ≡ None
    none-sought near told h = all-none (length ps - 1) (λ l k j p q r many less g x w. false_from_ne_true (test ((p, q), r)) (λ y.
        h j k (suc l) r (get-within rs j r w) w (within-of k l q many (omega arith) x) (told.run k l p q r many g x y)))
