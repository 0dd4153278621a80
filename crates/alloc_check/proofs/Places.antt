-- The first pair that lacks a fact, and the place of its instruction.
use Rattle.std.proofs.Common.{◌≡◌, ◌≢◌, ◌∷◌, ◌++◌, ◌∙◌, ◌&&◌, ◌+◌, ◌<◌, ◌≤◌, ◌⊎◌, inl, inr, ℕ, zero, suc, Bool, true, false, cond, List, [], Option, Some, None, map, flat_map, option_map, take, drop, get_or, length, length-append, refl, sym, ap, subst, arith}
use Rattle.std.specs.Prelude.{slice_get}
use Rattle.target_base.specs.declared.types.Target.{Target}
use Rattle.target_base.specs.Storage.{unit_width}
use Rattle.target_base.specs.Numbers.{unit_number}
use Rattle.meaning.specs.declared.types.Row.{Row}
use Rattle.meaning.specs.declared.types.Row.TheVariants.{BothStart, BothEnd, FirstSilent, SecondSilent, BothCounted}
use Rattle.meaning.specs.Code.{Item, BlockStart, BlockEnd, Silent, Counted, Code, Given}
use Rattle.meaning.specs.Facts.{Knowledge, known_at_start}
use Rattle.meaning.specs.Rows.{first_of_rows}
use Rattle.meaning.specs.Pairing.{pairing}
use Rattle.meaning.specs.Agree.{Family, rows_agree, rows_hold}
use Rattle.laws.proofs.Following.{both-true}
use Rattle.laws.proofs.Paired.{pairing-right}
use Rattle.mir_func.specs.declared.func.Instr.{Instr}
use Rattle.mir_func.specs.declared.func.Place.{Place}
use Rattle.mir_func.specs.declared.func.Block.{Block}
use Rattle.mir_func.specs.Value.{Function}
use Rattle.mir_meaning.specs.Codes.{item_of, blocks_code, block_end, code_of, meaning_of, given_of, is_given}
use Rattle.mir_meaning.specs.Agreement.{all_alike, blocks_alike, in_order_of, is_counted, counted_from, counted_places, asking_at, second_meaning, without_reads, place}
use Rattle.alloc_check.specs.Compared.{compared, compared_row, ordered, in_order, writes_of}
use Rattle.alloc_check.specs.Asking.{asked_to, is_pair, counted_rows, joined}
use Rattle.alloc_check.specs.Families.{HoldsWith}
use Rattle.alloc_check.specs.Doubt.{LacksAt, Lacking, LacksFact, SharedFactsHold, HasSharedFacts}
use Rattle.alloc_check.proofs.Asking.{one-holds, one-more, other-quiet}
use Rattle.alloc_check.proofs.Ordered.{AreAll, silent-item, counted-item, counts}

add-one : (n : ℕ) → suc n ≡ n + 1
add-one n = omega arith

abbrev counted_items : Code → ℕ
counted_items [] = 0
counted_items (Counted r reads ws target exits ∷ p) = suc (counted_items p)
counted_items (i ∷ p) = counted_items p

rows-counted : (rows : List Row) → counted_rows rows ≡ counted_items (first_of_rows rows)
rows-counted [] = refl
rows-counted (BothStart n ∷ rows) = rows-counted rows
rows-counted (BothEnd falls exits ∷ rows) = rows-counted rows
rows-counted (FirstSilent reads ws ∷ rows) = rows-counted rows
rows-counted (SecondSilent reads ws ∷ rows) = rows-counted rows
rows-counted (BothCounted r reads reads' ws ws' target exits ∷ rows) = ap suc (rows-counted rows)

compared-counted : (rows : List Row) → counted_rows (map compared_row rows) ≡ counted_rows rows
compared-counted [] = refl
compared-counted (BothStart n ∷ rows) = compared-counted rows
compared-counted (BothEnd falls exits ∷ rows) = compared-counted rows
compared-counted (FirstSilent reads ws ∷ rows) = compared-counted rows
compared-counted (SecondSilent reads ws ∷ rows) = compared-counted rows
compared-counted (BothCounted r reads reads' ws ws' target exits ∷ rows) = ap suc (compared-counted rows)

items-append : (p q : Code) → counted_items (p ++ q) ≡ counted_items p + counted_items q
items-append [] q = omega arith
items-append (BlockStart n ∷ p) q = items-append p q
items-append (BlockEnd falls exits ∷ p) q = items-append p q
items-append (Silent reads ws ∷ p) q = items-append p q
items-append (Counted r reads ws target exits ∷ p) q = omega (arith, items-append p q)

module _ (t : Target) (f : Function) where
  module _ (b : Block) (i : Instr) where
    head-counted : (p : Code) → counted_items (item_of t f b i ∷ p) ≡ cond (is_counted t i) (suc (counted_items p)) (counted_items p)
    head-counted p = go (is_counted t i) refl
      where
        go : (x : Bool) → is_counted t i ≡ x → counted_items (item_of t f b i ∷ p) ≡ cond x (suc (counted_items p)) (counted_items p)
        go true e = let c = counts t f i e in ap (λ y. counted_items (y ∷ p)) (counted-item t f b i c.0 c.1 c.2 c.3)
        go false e = ap (λ y. counted_items (y ∷ p)) (silent-item t f b i e).1

  items-counted : (b : Block) (n j : ℕ) (is : List Instr) → counted_items (map (item_of t f b) is) ≡ length (counted_from t n j is)
  items-counted b n j [] = refl
  items-counted b n j (i ∷ is) = head-counted b i (map (item_of t f b) is) ∙ go (is_counted t i) (items-counted b n (suc j) is)
    where
      go : (x : Bool) → counted_items (map (item_of t f b) is) ≡ length (counted_from t n (suc j) is) → cond x (suc (counted_items (map (item_of t f b) is))) (counted_items (map (item_of t f b) is)) ≡ length (cond x (place n j ∷ counted_from t n (suc j) is) (counted_from t n (suc j) is))
      go true e = ap suc e
      go false e = e

  blocks-counted : (bs : List Block) → counted_items (blocks_code (item_of t f) t f bs) ≡ length (flat_map (λ (b : Block). counted_from t b.number 0 b.instrs) bs)
  blocks-counted [] = refl
  blocks-counted (b ∷ bs) =
      items-append (map (item_of t f b) b.instrs) (block_end t f b bs ∷ blocks_code (item_of t f) t f bs)
      ∙ ((λ k. items-counted b b.number 0 b.instrs k + blocks-counted bs k)
      ∙ sym (length-append (counted_from t b.number 0 b.instrs) (flat_map (λ (c : Block). counted_from t c.number 0 c.instrs) bs)))

  code-counted : counted_items (code_of t f) ≡ length (counted_places t f)
  unfolding code_of
  code-counted = blocks-counted f.blocks

pub some-at : (ps : List Place) (n : ℕ) → n < length ps → (p : Place) × (slice_get ps n ≡ Some p)
some-at [] n lt = absurd (let x : ⊥ = omega (arith, lt) in x)
some-at (p ∷ ps) zero lt = (p, refl)
some-at (p ∷ ps) (suc n) lt = some-at ps n (omega (arith, lt))

pub nth-within : (ps : List Place) (n : ℕ) (d q : Place) → slice_get ps n ≡ Some q → get_or ps n d ≡ q
nth-within [] n d q e = absurd (cc)
nth-within (p ∷ ps) zero d q e = cc
nth-within (p ∷ ps) (suc n) d q e = nth-within ps n d q e

pub nth-past : (ps : List Place) (n : ℕ) (q : Place) → length ps ≤ n → slice_get ps n ≡ Some q → ⊥
nth-past [] n q le e = absurd (cc)
nth-past (p ∷ ps) zero q le e = absurd (let x : ⊥ = omega (arith, le) in x)
nth-past (p ∷ ps) (suc n) q le e = nth-past ps n q (omega (arith, le)) e

-- one row more asks for nothing more, or it is a pair
pair-or-same : (l : ℕ) (rows : List Row) → (asked_to (suc l) rows ≡ asked_to l rows) ⊎ (counted_rows (take l rows) < counted_rows rows)
pair-or-same zero [] = inl refl
pair-or-same zero (row ∷ rows) = go (is_pair row) refl
  where
    go : (x : Bool) → is_pair row ≡ x → (row ∷ map without_reads rows ≡ without_reads row ∷ map without_reads rows) ⊎ (0 < cond x (suc (counted_rows rows)) (counted_rows rows))
    go true e = inr (omega arith)
    go false e = inl (ap (λ r. r ∷ map without_reads rows) (sym (other-quiet row e)))
pair-or-same (suc l) [] = inl refl
pair-or-same (suc l) (row ∷ rows) = go (is_pair row) (pair-or-same l rows)
  where
    go : (x : Bool) → ((asked_to (suc l) rows ≡ asked_to l rows) ⊎ (counted_rows (take l rows) < counted_rows rows)) → (row ∷ asked_to (suc l) rows ≡ row ∷ asked_to l rows) ⊎ (cond x (suc (counted_rows (take l rows))) (counted_rows (take l rows)) < cond x (suc (counted_rows rows)) (counted_rows rows))
    go x (inl e) = inl (ap (λ rs. row ∷ rs) e)
    go true (inr lt) = inr (omega (arith, lt))
    go false (inr lt) = inr lt

given-ordered : (t : Target) (bs cs : List Block) → AreAll bs cs → (u : ℕ) → is_given t (in_order_of bs cs) u ≡ is_given t cs u
given-ordered t [] [] e u = refl
given-ordered t [] (c ∷ cs) e u = absurd (cc)
given-ordered t (b ∷ bs) [] e u = absurd (cc)
given-ordered t (b ∷ bs) (c ∷ cs) e u = refl

module _ (t : Target) (f g : Function) (alike : AreAll f.blocks g.blocks) where
  abbrev rows_both : Option (List Row)
  rows_both = compared (code_of t f) (code_of t (ordered f g))

  abbrev start : Knowledge
  start = known_at_start (given_of t f) (given_of t g)

  start-ordered : known_at_start (given_of t f) (given_of t (ordered f g)) ≡ start
  start-ordered = λ k. known_at_start (given_of t f) (λ u. cond (given-ordered t f.blocks g.blocks alike u k) (Some (unit_width t.units (unit_number u))) None)

  -- what some family gives in the definition
  facts-are : (family : Family) → rows_agree family (compared (meaning_of t f).code (second_meaning t f g).code) (known_at_start (meaning_of t f).given (second_meaning t f g).given) ≡ rows_agree family rows_both start
  unfolding meaning_of
  facts-are family = ap (rows_agree family rows_both) start-ordered

  asked-are : (n : ℕ) (family : Family) → rows_agree family (option_map (asking_at n) (compared (meaning_of t f).code (second_meaning t f g).code)) (known_at_start (meaning_of t f).given (second_meaning t f g).given) ≡ rows_agree family (option_map (asking_at n) rows_both) start
  unfolding meaning_of
  asked-are n family = ap (rows_agree family (option_map (asking_at n) rows_both)) start-ordered

  -- where the codes don't pair, nothing holds
  pub none-holds : None ≡ rows_both → SharedFactsHold t f g → ⊥
  none-holds e h = let never : false ≡ true = ap (λ o. rows_agree h.0 o start) e ∙ (sym (facts-are h.0) ∙ h.1) in absurd (cc)

  pub none-has : None ≡ rows_both → (n : ℕ) → HasSharedFacts t f g n → ⊥
  none-has e n h = let never : false ≡ true = ap (λ o. rows_agree h.0 (option_map (asking_at n) o) start) e ∙ (sym (asked-are n h.0) ∙ h.1) in absurd (cc)

  module _ (rows : List Row) (e : Some rows ≡ rows_both) where
    pub holds-shared : HoldsWith t f g rows → SharedFactsHold t f g
    holds-shared h = (h.0, facts-are h.0 ∙ (ap (λ o. rows_agree h.0 o start) (sym e) ∙ h.1))

    pub shared-holds : SharedFactsHold t f g → HoldsWith t f g rows
    shared-holds h = (h.0, ap (λ o. rows_agree h.0 o start) e ∙ (sym (facts-are h.0) ∙ h.1))

    total : counted_rows rows ≡ length (counted_places t f)
    total = go (pairing (code_of t f) (code_of t (ordered f g))) refl e
      where
        go : (o : Option (List Row)) → pairing (code_of t f) (code_of t (ordered f g)) ≡ o → Some rows ≡ option_map (map compared_row) o → counted_rows rows ≡ length (counted_places t f)
        go None is x = absurd (cc)
        go (Some all) is x =
            let same : rows ≡ map compared_row all = cc in
            ap counted_rows same
            ∙ (compared-counted all
            ∙ (rows-counted all
            ∙ (ap counted_items (pairing-right (code_of t f) (code_of t (ordered f g)) all is).0 ∙ code-counted t f)))

    -- the row at which the search ended is a pair
    is-pair : (p : Place) (l : Lacking t f g rows p) → counted_rows (take l.row rows) < counted_rows rows
    is-pair p l = go (pair-or-same l.row rows)
      where
        go : ((asked_to (suc l.row) rows ≡ asked_to l.row rows) ⊎ (counted_rows (take l.row rows) < counted_rows rows)) → counted_rows (take l.row rows) < counted_rows rows
        go (inl same) = absurd (l.at.lacks (subst (λ n. HoldsWith t f g (asked_to n rows)) (add-one l.row) (subst (HoldsWith t f g) (sym same) l.at.holds)))
        go (inr lt) = lt

    pub first-lacks : (p : Place) → Lacking t f g rows p → LacksFact t f g p
    first-lacks p l =
        let n = counted_rows (take l.row rows) in
        let lt : n < length (counted_places t f) = subst (λ m. n < m) total (is-pair p l) in
        let at = some-at (counted_places t f) n lt in
        record {
          number = n;
          is = at.1 ∙ ap Some (sym (l.place at.0 at.1));
          before = λ m below. (l.at.holds.0, asked-are m l.at.holds.0 ∙ (ap (λ o. rows_agree l.at.holds.0 (option_map (asking_at m) o) start) (sym e) ∙ one-holds l.at.holds.0 l.row rows m below start l.at.holds.1));
          lacks = λ h. l.at.lacks (
            joined l.at.holds.0 h.0,
            subst (λ m. rows_hold (joined l.at.holds.0 h.0) (asked_to m rows) start ≡ true) (add-one l.row) (one-more l.at.holds.0 h.0 l.row rows start start start (λ s u x. x) (λ s u x. x) l.at.holds.1 (ap (λ o. rows_agree h.0 (option_map (asking_at n) o) start) e ∙ (sym (asked-are n h.0) ∙ h.1))),
          );
        }

  -- where the codes don't pair, the first counted instruction is in doubt
  pub none-lacks : None ≡ rows_both → (p : Place) → slice_get (counted_places t f) 0 ≡ Some p → LacksFact t f g p
  none-lacks e p is = record { number = 0; is = is; before = λ m lt. absurd (let x : ⊥ = omega (arith, lt) in x); lacks = none-has e 0 }
