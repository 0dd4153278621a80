-- Facts in cells.
use Rattle.std.proofs.Common.{◌≡◌, ◌∷◌, ◌++◌, ◌&&◌, ◌<◌, ◌≤◌, ◌+◌, ℕ, zero, suc, Bool, true, false, cond, eqb, List, [], refl, sym, ap, subst, ◌∙◌, get_or, set, take, length, arith, append_assoc, inl, inr}
use Rattle.std.specs.List.{filter, list_all, list_any}
use Rattle.std.proofs.lemmas.Bool.{and_from, eq-eqb, eqb-true}
use Rattle.std.proofs.lemmas.List.{append-nil, take_more, take_more_set, length-set, get_or-set_other, take_all}
use Rattle.std.proofs.lemmas.List.Elements.{filter-append, filter_more}
use Rattle.meaning.specs.Sameness.{same_source}
use Rattle.meaning.specs.Lanes.{Writes}
use Rattle.meaning.specs.Facts.{Fact, Facts, Knowledge, all_known, known_both}
use Rattle.laws.proofs.Following.{both-true}
use Rattle.laws.proofs.Same.{source-true}
use Rattle.laws.proofs.Closed.{either-true}
use Rattle.alloc_check.specs.Marks.{source_slot, is_marked, stays, Marks}
use Rattle.alloc_check.specs.Needs.{Has}
use Rattle.alloc_check.specs.Cells.{belongs, counting, asked_in, same_fact, stays_both, Puts, Splits, CellTakes, Takes, TakenTo}
use Rattle.alloc_check.specs.declared.cells.FactBucket.{FactBucket}
use Rattle.alloc_check.proofs.Lawful.{all-append}
use Rattle.alloc_check.proofs.Marked.{stays-unmarked, known-stays}

-- what is added at the end is known beside what was there
pub known-append : (k : Knowledge) (xs ys : Facts) → all_known k (xs ++ ys) ≡ true → (all_known k xs ≡ true) × (all_known k ys ≡ true)
known-append k xs ys h = both-true (all_known k xs) (all_known k ys) (sym (all-append k xs ys) ∙ h)

pub append-known : (k : Knowledge) (xs ys : Facts) → all_known k xs ≡ true → all_known k ys ≡ true → all_known k (xs ++ ys) ≡ true
append-known k xs ys a b = all-append k xs ys ∙ and_from (all_known k xs) (all_known k ys) a b

behind : (a b : Bool) → a && (b && true) ≡ b && a
behind true true = refl
behind true false = refl
behind false true = refl
behind false false = refl

inner : (a b c : Bool) → (a && b) && c ≡ a && (b && c)
inner true b c = refl
inner false b c = refl

outer : (a b c : Bool) → b && (a && c) ≡ a && (b && c)
outer true true c = refl
outer true false c = refl
outer false true c = refl
outer false false c = refl

and-true : (b : Bool) → b && true ≡ b
and-true true = refl
and-true false = refl

and-swap : (a b : Bool) → a && b ≡ b && a
and-swap true b = sym (and-true b)
and-swap false true = refl
and-swap false false = refl

-- one test more on both sides
and-kept : (a b c d x : Bool) → a && b ≡ c && d → (a && x) && b ≡ (c && x) && d
and-kept true b true d x h = ap (λ y. x && y) h
and-kept true b false d true h = h
and-kept true b false d false h = refl
and-kept false b true d true h = h
and-kept false b true d false h = refl
and-kept false b false d x h = refl

and-taken : (a b c d x : Bool) → a && b ≡ c && d → (a && x) && b ≡ c && (d && x)
and-taken true b true d x h = ap (λ y. x && y) h ∙ and-swap x d
and-taken true b false d true h = h
and-taken true b false d false h = refl
and-taken false b true d x h = ap (λ y. y && x) h
and-taken false b false d x h = refl

pub known-push : (k : Knowledge) (xs : Facts) (f : Fact) → all_known k (xs ++ f ∷ []) ≡ all_known k xs && k f.0 f.1
known-push k xs f = all-append k xs (f ∷ []) ∙ ap (λ b. all_known k xs && b) (and-true (k f.0 f.1))

-- the facts of a cell that count, one after the other
counted-more : (p : Fact → Bool) (facts : Facts) (i : ℕ) (f : Fact) (b : Bool) → i < length facts → f ≡ get_or facts i f → p f ≡ b → filter p (take (i + 1) facts) ≡ filter p (take i facts) ++ cond b (f ∷ []) []
counted-more p facts i f b lt at e =
    filter_more p facts i f lt
    ∙ (ap (λ x. filter p (take i facts) ++ cond (p x) (x ∷ []) []) (sym at)
    ∙ ap (λ y. filter p (take i facts) ++ cond y (f ∷ []) []) e)

pub list-counts :
    (p : Fact → Bool) (facts old listed new : Facts) (i : ℕ) (f : Fact) → i < length facts → f ≡ get_or facts i f → p f ≡ true →
    listed ≡ old ++ filter p (take i facts) → new ≡ listed ++ f ∷ [] → new ≡ old ++ filter p (take (i + 1) facts)
list-counts p facts old listed new i f lt at e h n =
    n ∙ (ap (λ x. x ++ f ∷ []) h ∙ (append_assoc old (filter p (take i facts)) (f ∷ []) ∙ ap (λ x. old ++ x) (sym (counted-more p facts i f true lt at e))))

pub list-passes :
    (p : Fact → Bool) (facts old listed new : Facts) (i : ℕ) (f : Fact) → i < length facts → f ≡ get_or facts i f → p f ≡ false →
    listed ≡ old ++ filter p (take i facts) → new ≡ listed → new ≡ old ++ filter p (take (i + 1) facts)
list-passes p facts old listed new i f lt at e h n =
    n ∙ (h ∙ ap (λ x. old ++ x) (sym (counted-more p facts i f false lt at e ∙ append-nil (filter p (take i facts)))))

pub split-none : (counts : Fact → Bool) (ws vs : Writes) (taken : Facts) → Splits counts ws vs [] taken [] taken
split-none counts ws vs taken k = refl

module _ (counts : Fact → Bool) (ws vs : Writes) (facts before kept taken kept' taken' : Facts) (i : ℕ) (f : Fact) (lt : i < length facts) (at : f ≡ get_or facts i f) where
  -- a fact that doesn't count
  pub split-passes : counts f ≡ false → kept' ≡ kept → taken' ≡ taken → Splits counts ws vs (take i facts) before kept taken → Splits counts ws vs (take (i + 1) facts) before kept' taken'
  split-passes own e e' s k =
      let after = known_both ws vs k in
      ap (λ fs. all_known after fs && all_known after before) (counted-more counts facts i f false lt at own ∙ append-nil (filter counts (take i facts)))
      ∙ (s k ∙ (λ j. all_known k (filter counts (sym e j)) && all_known after (sym e' j)))

  -- one that stays is kept
  pub split-keeps : counts f ≡ true → stays_both ws vs f ≡ true → kept' ≡ kept ++ f ∷ [] → taken' ≡ taken → Splits counts ws vs (take i facts) before kept taken → Splits counts ws vs (take (i + 1) facts) before kept' taken'
  split-keeps own stay e e' s k =
      let after = known_both ws vs k in
      let a = all_known after (filter counts (take i facts)) in
      let c = all_known k (filter counts kept) in
      let old : all_known after (filter counts (take (i + 1) facts)) ≡ a && k f.0 f.1 =
      ap (all_known after) (counted-more counts facts i f true lt at own) ∙ (known-push after (filter counts (take i facts)) f ∙ ap (λ b. a && b) (known-stays ws vs k f stay)) in
      let new : all_known k (filter counts kept') ≡ c && k f.0 f.1 =
      ap (λ fs. all_known k (filter counts fs)) e ∙ (ap (all_known k) (filter-append counts kept (f ∷ []) ∙ ap (λ b. filter counts kept ++ cond b (f ∷ []) []) own) ∙ known-push k (filter counts kept) f) in
      ap (λ b. b && all_known after before) old
      ∙ (and-kept a (all_known after before) c (all_known after taken) (k f.0 f.1) (s k) ∙ (λ j. sym new j && all_known after (sym e' j)))

  -- any other is taken
  pub split-takes : counts f ≡ true → kept' ≡ kept → taken' ≡ taken ++ f ∷ [] → Splits counts ws vs (take i facts) before kept taken → Splits counts ws vs (take (i + 1) facts) before kept' taken'
  split-takes own e e' s k =
      let after = known_both ws vs k in
      let a = all_known after (filter counts (take i facts)) in
      let d = all_known after taken in
      let old : all_known after (filter counts (take (i + 1) facts)) ≡ a && after f.0 f.1 =
      ap (all_known after) (counted-more counts facts i f true lt at own) ∙ known-push after (filter counts (take i facts)) f in
      let more : all_known after taken' ≡ d && after f.0 f.1 = ap (all_known after) e' ∙ known-push after taken f in
      ap (λ b. b && all_known after before) old
      ∙ (and-taken a (all_known after before) (all_known k (filter counts kept)) d (after f.0 f.1) (s k) ∙ (λ j. all_known k (filter counts (sym e j)) && sym more j))

pub split-whole : (counts : Fact → Bool) (ws vs : Writes) (facts before kept taken : Facts) (i : ℕ) → length facts ≤ i → Splits counts ws vs (take i facts) before kept taken → Splits counts ws vs facts before kept taken
split-whole counts ws vs facts before kept taken i le s = subst (λ fs. Splits counts ws vs fs before kept taken) (take_all i facts le) s

-- facts that count and stay
known-counts :
    (ws vs : Writes) (k : Knowledge) (counts : Fact → Bool) (f : Fact) (rest : Facts) (b : Bool) → counts f ≡ b → (counts f ≡ true → stays_both ws vs f ≡ true) →
    all_known (known_both ws vs k) rest ≡ all_known k rest → all_known (known_both ws vs k) (cond b (f ∷ rest) rest) ≡ all_known k (cond b (f ∷ rest) rest)
known-counts ws vs k counts f rest true own stay more = λ j. known-stays ws vs k f (stay own) j && more j
known-counts ws vs k counts f rest false own stay more = more

-- a cell whose facts all stay
pub takes-nothing : (slots : ℕ) (ws vs : Writes) (c : FactBucket) (taken : Facts) → list_all (stays_both ws vs) c.facts ≡ true → CellTakes slots ws vs c taken c taken
takes-nothing slots ws vs c taken e k = ap (λ b. b && all_known (known_both ws vs k) taken) (go c.facts e)
  where
    go : (facts : Facts) → list_all (stays_both ws vs) facts ≡ true → all_known (known_both ws vs k) (filter (belongs slots c) facts) ≡ all_known k (filter (belongs slots c) facts)
    go [] s = refl
    go (f ∷ facts) s =
        let p = both-true (stays_both ws vs f) (list_all (stays_both ws vs) facts) s in
        known-counts ws vs k (belongs slots c) f (filter (belongs slots c) facts) (belongs slots c f) refl (λ own. p.0) (go facts p.1)

-- a cell whose slots aren't marked
pub takes-unmarked :
    (slots : ℕ) (ws vs : Writes) (marks marks' : List ℕ) (c : FactBucket) (taken : Facts) → Marks slots marks ws → Marks slots marks' vs →
    is_marked marks c.left ≡ false → is_marked marks' c.right ≡ false → CellTakes slots ws vs c taken c taken
takes-unmarked slots ws vs marks marks' c taken m m' e e' k = ap (λ b. b && all_known (known_both ws vs k) taken) (go c.facts)
  where
    stay : (f : Fact) → belongs slots c f ≡ true → stays_both ws vs f ≡ true
    stay f b =
        let p = both-true (eqb (source_slot slots f.0) c.left) (eqb (source_slot slots f.1) c.right) b in
        and_from (stays ws f.0) (stays vs f.1)
        (stays-unmarked slots marks ws f.0 m (ap (is_marked marks) (eqb-true (source_slot slots f.0) c.left p.0) ∙ e))
        (stays-unmarked slots marks' vs f.1 m' (ap (is_marked marks') (eqb-true (source_slot slots f.1) c.right p.1) ∙ e'))

    go : (facts : Facts) → all_known (known_both ws vs k) (filter (belongs slots c) facts) ≡ all_known k (filter (belongs slots c) facts)
    go [] = refl
    go (f ∷ facts) = known-counts ws vs k (belongs slots c) f (filter (belongs slots c) facts) (belongs slots c f) refl (stay f) (go facts)

-- cell after cell
asked-append : (slots : ℕ) (cs ds : List FactBucket) → asked_in slots (cs ++ ds) ≡ asked_in slots cs ++ asked_in slots ds
asked-append slots [] ds = refl
asked-append slots (c ∷ cs) ds = ap (λ fs. counting slots c ++ fs) (asked-append slots cs ds) ∙ sym (append_assoc (counting slots c) (asked_in slots cs) (asked_in slots ds))

pub asked-more : (slots : ℕ) (cs : List FactBucket) (c : FactBucket) → asked_in slots (cs ++ c ∷ []) ≡ asked_in slots cs ++ counting slots c
asked-more slots cs c = asked-append slots cs (c ∷ []) ∙ ap (λ fs. asked_in slots cs ++ fs) (append-nil (counting slots c))

pub asked-next : (slots : ℕ) (cells : List FactBucket) (i : ℕ) (c : FactBucket) → i < length cells → c ≡ get_or cells i c → asked_in slots (take (i + 1) cells) ≡ asked_in slots (take i cells) ++ counting slots c
asked-next slots cells i c lt at = ap (asked_in slots) (take_more cells i c lt ∙ ap (λ x. take i cells ++ x ∷ []) (sym at)) ∙ asked-more slots (take i cells) c

pub asked-empty : (slots : ℕ) (cs : List FactBucket) (c : FactBucket) → asked_in slots cs ≡ [] → c.facts ≡ [] → asked_in slots (cs ++ c ∷ []) ≡ []
asked-empty slots cs c e h = asked-more slots cs c ∙ (λ i. e i ++ filter (belongs slots c) (h i))

asked-one : (slots : ℕ) (k : Knowledge) (cs : List FactBucket) (c : FactBucket) → all_known k (asked_in slots (cs ++ c ∷ [])) ≡ all_known k (asked_in slots cs) && all_known k (counting slots c)
asked-one slots k cs c = ap (all_known k) (asked-more slots cs c) ∙ all-append k (asked_in slots cs) (counting slots c)

pub taken-none : (slots : ℕ) (ws vs : Writes) (cells : List FactBucket) → TakenTo slots ws vs 0 cells cells []
taken-none slots ws vs cells = record { same = refl; rest = λ j c h. refl; done = λ k. refl }

regroup : (a b c : Bool) → (a && b) && c ≡ a && (c && b)
regroup true b c = and-swap b c
regroup false b c = refl

pub taken-more :
    (slots : ℕ) (ws vs : Writes) (i : ℕ) (old now : List FactBucket) (taken : Facts) (c c' : FactBucket) (taken' : Facts) → i < length now → c ≡ get_or now i c →
    TakenTo slots ws vs i old now taken → CellTakes slots ws vs c taken c' taken' → TakenTo slots ws vs (i + 1) old (set now i c') taken'
taken-more slots ws vs i old now taken c c' taken' lt at to takes =
    let within : i < length old = subst (λ n. i < n) to.same lt in
    let here : c ≡ get_or old i c = at ∙ to.rest i c (omega arith) in
    let grown : take (i + 1) old ≡ take i old ++ c ∷ [] = take_more old i c within ∙ ap (λ x. take i old ++ x ∷ []) (sym here) in
    record {
      same = length-set now i c' ∙ to.same;
      rest = λ j d h. get_or-set_other now i j c' d (omega (arith, h)) ∙ to.rest j d (omega (arith, h));
      done = λ k.
          let after = known_both ws vs k in
          let n = all_known k (asked_in slots (take i now)) in
          let t = all_known after taken in
          let t' = all_known after taken' in
          let x = all_known after (counting slots c) in
          let y = all_known k (counting slots c') in
          let new : all_known k (asked_in slots (take (i + 1) (set now i c'))) ≡ n && y = ap (λ cs. all_known k (asked_in slots cs)) (take_more_set now i c' lt) ∙ asked-one slots k (take i now) c' in
          ap (λ cs. all_known after (asked_in slots cs)) grown
          ∙ (asked-one slots after (take i old) c
          ∙ (ap (λ b. b && x) (to.done k)
          ∙ (regroup n t x
          ∙ (ap (λ b. n && b) (takes k)
          ∙ (sym (inner n y t') ∙ ap (λ b. b && t') (sym new))))));
    }

pub taken-all : (slots : ℕ) (ws vs : Writes) (i : ℕ) (old now : List FactBucket) (taken : Facts) → length now ≤ i → TakenTo slots ws vs i old now taken → Takes ws vs (asked_in slots old) taken (asked_in slots now)
taken-all slots ws vs i old now taken le to k =
    let after = known_both ws vs k in
    ap (λ cs. all_known after (asked_in slots cs)) (sym (take_all i old (subst (λ n. n ≤ i) to.same le)))
    ∙ (to.done k ∙ ap (λ cs. all_known k (asked_in slots cs) && all_known after taken) (take_all i now le))

-- facts that are put
-- a fact behind those of its cell
pub cell-puts :
    (slots : ℕ) (c c' : FactBucket) (f : Fact) → c'.left ≡ c.left → c'.right ≡ c.right → c'.facts ≡ c.facts ++ f ∷ [] → source_slot slots f.0 ≡ c.left → source_slot slots f.1 ≡ c.right →
    Puts (counting slots c) f (counting slots c')
cell-puts slots c c' f l r e a b k =
    let own : belongs slots c f ≡ true = and_from (eqb (source_slot slots f.0) c.left) (eqb (source_slot slots f.1) c.right) (eq-eqb (source_slot slots f.0) c.left a) (eq-eqb (source_slot slots f.1) c.right b) in
    let same : counting slots c' ≡ filter (belongs slots c) (c.facts ++ f ∷ []) = λ i. filter (λ g. eqb (source_slot slots g.0) (l i) && eqb (source_slot slots g.1) (r i)) (e i) in
    ap (all_known k) (same ∙ filter-append (belongs slots c) c.facts (f ∷ []))
    ∙ (all-append k (counting slots c) (cond (belongs slots c f) (f ∷ []) [])
    ∙ (ap (λ x. all_known k (counting slots c) && all_known k (cond x (f ∷ []) [])) own
    ∙ behind (all_known k (counting slots c)) (k f.0 f.1)))

pub puts-at :
    (slots : ℕ) (cells : List FactBucket) (i : ℕ) (c c' : FactBucket) (f : Fact) → i < length cells → c ≡ get_or cells i c → Puts (counting slots c) f (counting slots c') → Puts (asked_in slots cells) f (asked_in slots (set cells i c'))
puts-at slots [] i c c' f lt at puts k = absurd (let x : ⊥ = omega (arith, lt) in x)
puts-at slots (d ∷ cells) zero c c' f lt at puts k =
    all-append k (counting slots c') (asked_in slots cells)
    ∙ (ap (λ b. b && all_known k (asked_in slots cells)) (puts k ∙ ap (λ x. k f.0 f.1 && all_known k (counting slots x)) at)
    ∙ (inner (k f.0 f.1) (all_known k (counting slots d)) (all_known k (asked_in slots cells))
    ∙ ap (λ b. k f.0 f.1 && b) (sym (all-append k (counting slots d) (asked_in slots cells)))))
puts-at slots (d ∷ cells) (suc i) c c' f lt at puts k =
    all-append k (counting slots d) (asked_in slots (set cells i c'))
    ∙ (ap (λ b. all_known k (counting slots d) && b) (puts-at slots cells i c c' f (omega (arith, lt)) at puts k)
    ∙ (outer (k f.0 f.1) (all_known k (counting slots d)) (all_known k (asked_in slots cells))
    ∙ ap (λ b. k f.0 f.1 && b) (sym (all-append k (counting slots d) (asked_in slots cells)))))

-- a cell of its own
pub puts-behind : (slots : ℕ) (cells : List FactBucket) (c : FactBucket) (f : Fact) → c.facts ≡ [] ++ f ∷ [] → source_slot slots f.0 ≡ c.left → source_slot slots f.1 ≡ c.right → Puts (asked_in slots cells) f (asked_in slots (cells ++ c ∷ []))
puts-behind slots cells c f e a b k =
    asked-one slots k cells c
    ∙ (ap (λ x. all_known k (asked_in slots cells) && x) (cell-puts slots (record { left = c.left; right = c.right; facts = [] }) c f refl refl e a b k)
    ∙ behind (all_known k (asked_in slots cells)) (k f.0 f.1))

-- facts of a list, put one after the other
pub puts-none : (k : Knowledge) (old : Facts) → all_known k old ≡ all_known k [] && all_known k old
puts-none k old = refl

pub puts-next :
    (k : Knowledge) (facts old middle new : Facts) (i : ℕ) (f : Fact) → i < length facts → f ≡ get_or facts i f → all_known k middle ≡ all_known k (take i facts) && all_known k old → Puts middle f new →
    all_known k new ≡ all_known k (take (i + 1) facts) && all_known k old
puts-next k facts old middle new i f lt at h puts =
    let grown : all_known k (take (i + 1) facts) ≡ k f.0 f.1 && all_known k (take i facts) =
    ap (all_known k) (take_more facts i f lt ∙ ap (λ x. take i facts ++ x ∷ []) (sym at)) ∙ (all-append k (take i facts) (f ∷ []) ∙ behind (all_known k (take i facts)) (k f.0 f.1)) in
    puts k ∙ (ap (λ b. k f.0 f.1 && b) h ∙ (sym (inner (k f.0 f.1) (all_known k (take i facts)) (all_known k old)) ∙ ap (λ b. b && all_known k old) (sym grown)))

-- put into what is empty
pub puts-all : (k : Knowledge) (facts old new : Facts) → old ≡ [] → all_known k new ≡ all_known k facts && all_known k old → all_known k new ≡ all_known k facts
puts-all k facts old new e h = h ∙ (ap (λ fs. all_known k facts && all_known k fs) e ∙ and-true (all_known k facts))

-- a fact that is found in its cell
asked-at : (slots : ℕ) (k : Knowledge) (cells : List FactBucket) (i : ℕ) (d : FactBucket) → i < length cells → all_known k (asked_in slots cells) ≡ true → all_known k (counting slots (get_or cells i d)) ≡ true
asked-at slots k [] i d lt h = absurd (let x : ⊥ = omega (arith, lt) in x)
asked-at slots k (c ∷ cells) zero d lt h = (known-append k (counting slots c) (asked_in slots cells) h).0
asked-at slots k (c ∷ cells) (suc i) d lt h = asked-at slots k cells i d (omega (arith, lt)) (known-append k (counting slots c) (asked_in slots cells) h).1

found : (k : Knowledge) (counts : Fact → Bool) (f : Fact) → counts f ≡ true → (facts : Facts) → list_any (λ g. same_fact g f) facts ≡ true → all_known k (filter counts facts) ≡ true → k f.0 f.1 ≡ true
found k counts f own [] e h = absurd (cc)
found k counts f own (g ∷ facts) e h =
    elim (either-true (same_fact g f) (list_any (λ g. same_fact g f) facts) e) [
      | inl same ↦
          let p = both-true (same_source g.0 f.0) (same_source g.1 f.1) same in
          let is : g ≡ f = λ i. (source-true g.0 f.0 p.0 i, source-true g.1 f.1 p.1 i) in
          let x : all_known k (cond (counts f) (g ∷ filter counts facts) (filter counts facts)) ≡ true = ap (λ y. all_known k (cond (counts y) (g ∷ filter counts facts) (filter counts facts))) (sym is) ∙ h in
          let y : k g.0 g.1 && all_known k (filter counts facts) ≡ true = ap (λ b. all_known k (cond b (g ∷ filter counts facts) (filter counts facts))) (sym own) ∙ x in
          subst (λ y. k y.0 y.1 ≡ true) is (both-true (k g.0 g.1) (all_known k (filter counts facts)) y).0
      | inr more ↦ found k counts f own facts more (rest (counts g) h)
    ]
  where
    rest : (b : Bool) → all_known k (cond b (g ∷ filter counts facts) (filter counts facts)) ≡ true → all_known k (filter counts facts) ≡ true
    rest true x = (both-true (k g.0 g.1) (all_known k (filter counts facts)) x).1
    rest false x = x

pub has-found :
    (slots : ℕ) (cells : List FactBucket) (i : ℕ) (c : FactBucket) (f : Fact) → i < length cells → c ≡ get_or cells i c → source_slot slots f.0 ≡ c.left → source_slot slots f.1 ≡ c.right →
    list_any (λ g. same_fact g f) c.facts ≡ true → Has (asked_in slots cells) f
has-found slots cells i c f lt at a b e k h =
    let own : belongs slots c f ≡ true = and_from (eqb (source_slot slots f.0) c.left) (eqb (source_slot slots f.1) c.right) (eq-eqb (source_slot slots f.0) c.left a) (eq-eqb (source_slot slots f.1) c.right b) in
    found k (belongs slots c) f own c.facts e (ap (λ x. all_known k (counting slots x)) at ∙ asked-at slots k cells i c lt h)
