-- The definitions that reach a reading are those at which it is listed, and so is what is repeated for it.
use Rattle.std.proofs.Common.{◌≡◌, ◌∙◌, ℕ, Bool, true, false, cond, ◌&&◌, ◌||◌, List, [], ◌∷◌, Some, None, map, filter, flat_map, refl, sym, ap, subst, arith, eqb-true}
use Rattle.std.specs.Prelude.{Decides, Option, nat_eq, option_map, slice_get}
use Rattle.std.specs.List.{list_any}
use Rattle.std.proofs.lemmas.Bool.{eq-eqb}
use Rattle.target_base.specs.declared.types.Target.{Target}
use Rattle.meaning.specs.Live.{Among as Member, here as first, there as later}
use Rattle.mir_func.specs.declared.func.Instr.{Instr}
use Rattle.mir_func.specs.declared.func.Block.{Block}
use Rattle.mir_func.specs.Binding.{does}
use Rattle.mir_func.specs.Value.{Function}
use Rattle.mir_meaning.specs.Points.{touches}
use Rattle.mir_meaning.specs.Paths.{has}
use Rattle.instr_effects.proofs.Members.{member-none, member-elim, map-in, filter-of, flat-of}
use Rattle.live_lanes.specs.declared.table.Table.{Table}
use Rattle.live_lanes.specs.Touching.{layout_key}
use Rattle.live_laws.proofs.Effects.Blocks.{member-slice}
use Rattle.live_laws.proofs.Effects.Lists.{any-in}
use Rattle.live_laws.proofs.Effects.Moved.{Apart}
use Rattle.live_laws.proofs.Touch.Cells.{any-of}
use Rattle.live_laws.proofs.Touch.Sequence.{Rise, rise-of, has-member, member-has}
use Rattle.spiller.specs.declared.reaching.Definition.{Definition}
use Rattle.spiller.specs.MaySpill.{MaySpill}
use Rattle.spiller.specs.Reaching.{Facts, AreFacts}
use Rattle.spiller.specs.Readings.{AreDefinitions, alone, reached_by, reached_by_constant}
use Rattle.spiller.specs.Rematerialised.{Reading, if_serves, is_constant, reaches, reaching, repeatable_class, repeated_for, serves, whole_class}
use Rattle.spiller.specs.Setting.{Spilling}
use Rattle.spiller.specs.Walks.{lists, told_by}
use Rattle.spiller.proofs.ChangeFits.{nothing-serves}
use Rattle.spiller.proofs.ReachesTold.{finds, ids-are, unnamed}
use Rattle.spiller.proofs.Basics.{same-truth, any-same}

-- tests and lists

decided : {P : Type 0} (a b : Bool) → Decides a P → Decides b P → a ≡ b
decided true true x y = refl
decided false false x y = refl
decided true false x y = sym (y.1 (x.0 refl))
decided false true x y = x.1 (y.0 refl)

any-map : {X : Type 0} (p : ℕ → Bool) (g : X → ℕ) (xs : List X) → list_any p (map g xs) ≡ list_any (λ x. p (g x)) xs
any-map p g [] = refl
any-map p g (x ∷ xs) = ap (λ b. p (g x) || b) (any-map p g xs)

-- tests of lists with the same members are the same
any-members : (p : ℕ → Bool) (xs ys : List ℕ) → ((i : ℕ) → has i xs ≡ has i ys) → list_any p xs ≡ list_any p ys
any-members p xs ys h = same-truth _ _
    (λ e. let z = any-of p xs e in any-in p z.0 ys (has-member z.0 ys (sym (h z.0) ∙ member-has z.0 xs z.1)) z.2)
    (λ e. let z = any-of p ys e in any-in p z.0 xs (has-member z.0 xs (h z.0 ∙ member-has z.0 ys z.1)) z.2)

filter-same : {X : Type 0} (p q : X → Bool) (xs : List X) → ((x : X) → Member x xs → p x ≡ q x) → filter p xs ≡ filter q xs
filter-same p q [] h = refl
filter-same p q (x ∷ xs) h = ap (λ b. cond b (x ∷ filter p xs) (filter p xs)) (h x first) ∙ ap (λ ys. cond (q x) (x ∷ ys) ys) (filter-same p q xs (λ y m. h y (later m)))

filter-map : {X : Type 0} (p : ℕ → Bool) (g : X → ℕ) (xs : List X) → map g (filter (λ x. p (g x)) xs) ≡ filter p (map g xs)
filter-map p g [] = refl
filter-map {X} p g (x ∷ xs) = go (p (g x)) (filter-map p g xs)
  where
    go : (b : Bool) → map g (filter (λ (y : X). p (g y)) xs) ≡ filter p (map g xs) → map g (cond b (x ∷ filter (λ (y : X). p (g y)) xs) (filter (λ y. p (g y)) xs)) ≡ cond b (g x ∷ filter p (map g xs)) (filter p (map g xs))
    go true e = ap (λ ys. g x ∷ ys) e
    go false e = e

-- what fails one test fails another
filter-fewer : (p : ℕ → Bool) (s : Instr → Bool) (is : List Instr) → ((i : Instr) → Member i is → s i ≡ false → p i.id ≡ false) → filter p (map (λ i. i.id) is) ≡ filter p (map (λ i. i.id) (filter s is))
filter-fewer p s [] h = refl
filter-fewer p s (i ∷ is) h = go (s i) refl (filter-fewer p s is (λ j m. h j (later m)))
  where
    go : (b : Bool) → s i ≡ b → filter p (map (λ (j : Instr). j.id) is) ≡ filter p (map (λ j. j.id) (filter s is)) → filter p (map (λ (j : Instr). j.id) (i ∷ is)) ≡ filter p (map (λ (j : Instr). j.id) (cond b (i ∷ filter s is) (filter s is)))
    go true e ih = ap (λ ys. cond (p i.id) (i.id ∷ ys) ys) ih
    go false e ih = ap (λ b. cond b (i.id ∷ filter p (map (λ (j : Instr). j.id) is)) (filter p (map (λ (j : Instr). j.id) is))) (h i first e) ∙ ih

rise-apart : (key : ℕ → ℕ) (xs : List ℕ) → Rise key xs → Apart xs
rise-apart key [] r = tt
rise-apart key (x ∷ xs) r = ((λ m. let h = r.0 x m in absurd (omega arith)), rise-apart key xs r.1)

-- of definitions with other ids each is told by itself
one-told : (p : Definition → Bool) (ds : List Definition) (d : Definition) → Apart (map (λ d. d.id) ds) → Member d ds → list_any (λ e. nat_eq e.id d.id && p e) ds ≡ p d
one-told p [] d a m = absurd (member-none d m)
one-told p (e ∷ ds) d a m =
    member-elim d e ds
    (λ same.
    ap (λ b. b && p e || list_any (λ (c : Definition). nat_eq c.id d.id && p c) ds) (eq-eqb e.id d.id (ap (λ (c : Definition). c.id) (sym same)))
    ∙ (ap (λ b. p e || b) (none-told ds (λ k. a.0 (subst (λ n. Member n (map (λ (c : Definition). c.id) ds)) (ap (λ (c : Definition). c.id) same) k)))
    ∙ (or-none (p e) ∙ ap p (sym same))))
    (λ k. ap (λ b. b && p e || list_any (λ (c : Definition). nat_eq c.id d.id && p c) ds) (other k) ∙ one-told p ds d a.1 k)
    m
  where
    or-none : (b : Bool) → (b || false) ≡ b
    or-none true = refl
    or-none false = refl

    is-false : (b : Bool) → (b ≡ true → ⊥) → b ≡ false
    is-false true n = absurd (n refl)
    is-false false n = refl

    other : Member d ds → nat_eq e.id d.id ≡ false
    other k = is-false (nat_eq e.id d.id) (λ h. a.0 (subst (λ n. Member n (map (λ (c : Definition). c.id) ds)) (sym (eqb-true e.id d.id h)) (map-in (λ (c : Definition). c.id) d ds k)))

    none-told : (cs : List Definition) → (Member d.id (map (λ (c : Definition). c.id) cs) → ⊥) → list_any (λ (c : Definition). nat_eq c.id d.id && p c) cs ≡ false
    none-told [] n = refl
    none-told (c ∷ cs) n =
        ap (λ b. b && p c || list_any (λ (w : Definition). nat_eq w.id d.id && p w) cs) (is-false (nat_eq c.id d.id) (λ h. n (subst (λ i. Member i (map (λ (w : Definition). w.id) (c ∷ cs))) (eqb-true c.id d.id h) first)))
        ∙ none-told cs (λ k. n (later k))

module _ (t : Target) (f : Function) (x : Table) (v : ℕ) (may : MaySpill t f x v) (ids : List ℕ) (ds : List Definition) (are : AreDefinitions t f x v ids ds) (slot : ℕ) (facts : Facts) (tell : AreFacts t f v facts) where
  abbrev s : Spilling
  s = record { target = t; func = f; range = v; slot = slot; facts = facts }

  abbrev all : List Instr
  all = flat_map (λ b. b.instrs) f.blocks

  pub apart : Apart (map (λ d. d.id) ds)
  apart = subst Apart (sym are.named) (rise-apart (layout_key x.order.slots) ids (rise-of (layout_key x.order.slots) ids are.touched.order))

  -- by the id of a definition
  abbrev pub test : List ℕ → List ℕ → ℕ → Bool
  test by lanes n = list_any (λ i. list_any (λ k. told_by ds (n, k, i)) lanes) by

  pub test-instr : (r : Reading) (by : List ℕ) → ((i : ℕ) → has i by ≡ has i (map (λ d. d.id) r.by)) → (d : Instr) → reaches s d r ≡ test by r.lanes d.id
  test-instr r by same d =
      any-same (λ (i : Instr). list_any (λ k. facts.reaches d.id k i.id) r.lanes) (λ i. list_any (λ k. told_by ds (d.id, k, i.id)) r.lanes) r.by
      (λ i. any-same (λ k. facts.reaches d.id k i.id) (λ k. told_by ds (d.id, k, i.id)) r.lanes (λ k. decided (facts.reaches d.id k i.id) (told_by ds (d.id, k, i.id)) (tell.reach (d.id, k, i.id)) (are.told (d.id, k, i.id))))
      ∙ (sym (any-map (λ i. list_any (λ k. told_by ds (d.id, k, i)) r.lanes) (λ (i : Instr). i.id) r.by)
      ∙ sym (any-members (λ i. list_any (λ k. told_by ds (d.id, k, i)) r.lanes) by (map (λ (d : Instr). d.id) r.by) same))

  pub test-listed : (by lanes : List ℕ) (d : Definition) → Member d ds → test by lanes d.id ≡ reached_by by lanes d
  test-listed by lanes d m =
      any-same (λ i. list_any (λ k. told_by ds (d.id, k, i)) lanes) (λ i. list_any (λ k. lists d.reached.keys k i) lanes) by
      (λ i. any-same (λ k. told_by ds (d.id, k, i)) (λ k. lists d.reached.keys k i) lanes (λ k. one-told (λ (e : Definition). lists e.reached.keys k i) ds d apart m))

  pub test-untouched : (by lanes : List ℕ) (i : Instr) → Member i all → touches v i ≡ false → test by lanes i.id ≡ false
  test-untouched by lanes i m e = same-truth _ _ (λ h. absurd (none h)) (λ h. absurd (cc))
    where
      out : has i.id ids ≡ false
      out =
          let b = flat-of (λ (b : Block). b.instrs) i f.blocks m in
          let q = member-slice b.0 f.blocks b.1 in
          let j = member-slice i b.0.instrs b.2 in
          are.touched.named i.id ∙ unnamed t f x v may ids are.touched i (record { position = q.0; block = b.0; spot = j.0; stands = q.1; there = j.1 }) e

      left-of : (a b : Bool) → (a && b) ≡ true → a ≡ true
      left-of true b h = refl
      left-of false b h = absurd (cc)

      none : test by lanes i.id ≡ true → ⊥
      none h =
          let a = any-of (λ n. list_any (λ k. told_by ds (i.id, k, n)) lanes) by h in
          let b = any-of (λ k. told_by ds (i.id, k, a.0)) lanes a.2 in
          let d = any-of (λ (e : Definition). nat_eq e.id i.id && lists e.reached.keys b.0 a.0) ds b.2 in
          let same = eqb-true d.0.id i.id (left-of _ _ d.2) in
          let there : has i.id ids ≡ true = member-has i.id ids (subst (λ n. Member n ids) same (subst (Member d.0.id) are.named (map-in (λ (e : Definition). e.id) d.0 ds d.1))) in
          let both : false ≡ true = sym out ∙ there in
          cc

  -- the definitions that reach the reading
  pub reaching-ids : (r : Reading) (by : List ℕ) → ((i : ℕ) → has i by ≡ has i (map (λ d. d.id) r.by)) → map (λ d. d.id) (reaching s r) ≡ map (λ d. d.id) (filter (reached_by by r.lanes) ds)
  reaching-ids r by same =
      ap (map (λ (d : Instr). d.id)) (filter-same (λ d. reaches s d r) (λ d. test by r.lanes d.id) all (λ d m. test-instr r by same d))
      ∙ (filter-map (test by r.lanes) (λ (d : Instr). d.id) all
      ∙ (filter-fewer (test by r.lanes) (touches v) all (test-untouched by r.lanes)
      ∙ (ap (filter (test by r.lanes)) (sym (ids-are t f x v may ids are.touched) ∙ sym are.named)
      ∙ (sym (filter-map (test by r.lanes) (λ (d : Definition). d.id) ds)
      ∙ ap (map (λ (d : Definition). d.id)) (filter-same (λ d. test by r.lanes d.id) (reached_by by r.lanes) ds (test-listed by r.lanes))))))

  -- what is repeated for it: nothing where it isn't reached by one alone

  pub none-repeated : (r : Reading) (by : List ℕ) → ((i : ℕ) → has i by ≡ has i (map (λ d. d.id) r.by)) → alone (map (λ d. d.id) (filter (reached_by by r.lanes) ds)) ≡ None → None ≡ option_map (λ (d : Instr). d.id) (repeated_for s r)
  none-repeated r by same e = go (reaching s r) (ap alone (reaching-ids r by same) ∙ e)
    where
      go : (es : List Instr) → alone (map (λ (d : Instr). d.id) es) ≡ None → None ≡ option_map (λ (d : Instr). d.id) (if_serves t r.wish es)
      go [] h = refl
      go (d ∷ []) h = absurd (cc)
      go (d ∷ c ∷ es) h = refl

  -- or this one, where it serves
  pub record Repeats (r : Reading) (n : ℕ) : Type 0 where
    pub instr : Instr
    pub position : ℕ
    pub block : Block
    pub spot : ℕ
    pub stands : slice_get f.blocks position ≡ Some block
    pub there : slice_get block.instrs spot ≡ Some instr
    pub named : instr.id ≡ n
    pub is : cond (serves t r.wish (repeatable_class t instr)) (Some n) None ≡ option_map (λ (d : Instr). d.id) (repeated_for s r)

  pub one-repeated : (r : Reading) (by : List ℕ) (n : ℕ) → ((i : ℕ) → has i by ≡ has i (map (λ d. d.id) r.by)) → alone (map (λ d. d.id) (filter (reached_by by r.lanes) ds)) ≡ Some n → Repeats r n
  one-repeated r by n same e = go (reaching s r) refl (ap alone (reaching-ids r by same) ∙ e)
    where
      go : (es : List Instr) → reaching s r ≡ es → alone (map (λ (d : Instr). d.id) es) ≡ Some n → Repeats r n
      go [] h g = absurd (cc)
      go (d ∷ c ∷ es) h g = absurd (cc)
      go (d ∷ []) h g =
          let same : d.id ≡ n = cc in
          let m = (filter-of (λ c. reaches s c r) d all (subst (Member d) (sym h) first)).0 in
          let b = flat-of (λ (b : Block). b.instrs) d f.blocks m in
          let q = member-slice b.0 f.blocks b.1 in
          let j = member-slice d b.0.instrs b.2 in
          record {
            instr = d;
            position = q.0;
            block = b.0;
            spot = j.0;
            stands = q.1;
            there = j.1;
            named = same;
            is = served (serves t r.wish (repeatable_class t d)) same ∙ ap (λ es. option_map (λ (c : Instr). c.id) (if_serves t r.wish es)) (sym h);
          }
        where
          served : (b : Bool) → d.id ≡ n → cond b (Some n) None ≡ option_map (λ (c : Instr). c.id) (cond b (Some d) None)
          served true e = ap Some (sym e)
          served false e = refl

  -- nothing where no constant reaches it
  pub unreached-repeated : (r : Reading) (by : List ℕ) → ((i : ℕ) → has i by ≡ has i (map (λ d. d.id) r.by)) → list_any (reached_by_constant by r.lanes) ds ≡ false → None ≡ option_map (λ (d : Instr). d.id) (repeated_for s r)
  unreached-repeated r by same none = go (alone (map (λ (d : Definition). d.id) (filter (reached_by by r.lanes) ds))) refl
    where
      only : (n : ℕ) (es : List Definition) → alone (map (λ (d : Definition). d.id) es) ≡ Some n → (d : Definition) × Member d es × (d.id ≡ n)
      only n [] h = absurd (cc)
      only n (d ∷ []) h = (d, first, cc)
      only n (d ∷ c ∷ es) h = absurd (cc)

      flat : (d : Definition) → Member d ds → reached_by by r.lanes d ≡ true → (b : Bool) → d.is_constant ≡ b → b ≡ false
      flat d m h false e = refl
      flat d m h true e =
          let both : (d.is_constant && reached_by by r.lanes d) ≡ true = ap (λ c. c && reached_by by r.lanes d) e ∙ h in
          let z : false ≡ true = sym none ∙ any-in (reached_by_constant by r.lanes) d ds m both in
          absurd (cc)

      go : (o : Option ℕ) → alone (map (λ (d : Definition). d.id) (filter (reached_by by r.lanes) ds)) ≡ o → None ≡ option_map (λ (d : Instr). d.id) (repeated_for s r)
      go None e = none-repeated r by same e
      go (Some n) e =
          let z = one-repeated r by n same e in
          let y = only n (filter (reached_by by r.lanes) ds) e in
          let m = filter-of (reached_by by r.lanes) y.0 ds y.1 in
          let plain : does is_constant t z.instr ≡ false =
          sym (are.constants y.0 m.0 (finds t f x v may ids are.touched).finds z.position z.spot z.block z.instr z.stands z.there (z.named ∙ sym y.2)) ∙ flat y.0 m.0 m.1 y.0.is_constant refl in
          let no : repeatable_class t z.instr ≡ None = ap (λ b. cond b (whole_class t z.instr z.instr.operands) None) plain in
          sym (ap (λ b. cond b (Some n) None) (ap (serves t r.wish) no ∙ nothing-serves t r.wish)) ∙ z.is
