-- What is live in the second of two coupled codes has a source in the first. The second has no phis.
use Rattle.std.proofs.Common.{◌≡◌, ◌∷◌, ℕ, Bool, true, false, List, Option, Some, None, refl, sym, ap, subst, []}
use Rattle.meaning.specs.Code.{BlockEnd, BlockStart, Code, Counted, Edge, Item, Silent}
use Rattle.meaning.specs.InStep.{Graph}
use Rattle.meaning.specs.Lanes.{Homes, Reads, Writes, filled, settled, through}
use Rattle.meaning.specs.Live.{Among, Feeds, Kept, Live, exits_of, here, in_order, is_slot, reads_of, there}
use Rattle.meaning.specs.Perform.{width}
use Rattle.meaning.specs.Relations.{AlikeFill, AlikeOperands, AlikeReads, Everything, Rel, Within, after_both, after_first, after_second}
use Rattle.meaning.specs.Rows.{found_row, second_edge, second_edges, second_of_rows, second_target}
use Rattle.meaning.specs.declared.types.Constant.{Constant}
use Rattle.meaning.specs.declared.types.Fill.{Fill}
use Rattle.meaning.specs.declared.types.Fill.TheVariants.{Computed, Moved}
use Rattle.meaning.specs.declared.types.Lane.{Lane}
use Rattle.meaning.specs.declared.types.Lane.TheVariants.{SlotLane}
use Rattle.meaning.specs.declared.types.Rest.{Rest}
use Rattle.meaning.specs.declared.types.Row.{Row}
use Rattle.meaning.specs.declared.types.Row.TheVariants.{BothCounted, BothEnd, BothStart, FirstSilent, SecondSilent}
use Rattle.meaning.specs.declared.types.Source.{Source}
use Rattle.meaning.specs.declared.types.Source.TheVariants.{Bits, FromLane, Undef}
use Rattle.meaning.specs.declared.types.EdgePair.{EdgePair}
use Rattle.meaning.specs.declared.types.Write.{Write}
use Rattle.laws.proofs.Core.{Coupled, Exits, Plan, found-second}
use Rattle.laws.proofs.Flow.{lane-inj, none_among}
use Rattle.meaning.specs.Live as live

-- some source of the first has lane b's value
abbrev pub HasSource : Rel → Lane → Type 0
HasSource R b = (s : Source) × R s (FromLane b)

-- what the second gives to a reserved lane, or stores in a slot, has a source
abbrev pub WritesHaveSources : (Lane → Bool) → Writes → Rel → Type 0
WritesHaveSources reserved ws R =
    ((a b : Lane) → reserved a ≡ true → filled ws a ≡ Moved (FromLane b) → reserved b ≡ false → HasSource R b)
    × ((s k w : ℕ) (b : Lane) → filled ws (SlotLane s k w) ≡ Moved (FromLane b) → is_slot b ≡ false → HasSource R b)

abbrev pub NoSecondPhis : List EdgePair → Type 0
NoSecondPhis [] = Unit {0}
NoSecondPhis (e ∷ es) = (e.second ≡ []) × NoSecondPhis es

abbrev pub RowsHaveSources : (Lane → Bool) → Plan → List Row → Rel → Type 0
RowsHaveSources reserved K [] R = Unit {0}
RowsHaveSources reserved K (BothStart n ∷ rows) R = RowsHaveSources reserved K rows (K n)
RowsHaveSources reserved K (BothEnd (Some e) exits ∷ rows) R = NoSecondPhis exits × RowsHaveSources reserved K rows (after_second e.1 (after_first e.0 R))
RowsHaveSources reserved K (BothEnd None exits ∷ rows) R = NoSecondPhis exits × RowsHaveSources reserved K rows Everything
RowsHaveSources reserved K (FirstSilent reads ws ∷ rows) R = RowsHaveSources reserved K rows (after_first ws R)
RowsHaveSources reserved K (SecondSilent reads ws ∷ rows) R = (reads ≡ []) × WritesHaveSources reserved ws R × RowsHaveSources reserved K rows (after_second ws R)
RowsHaveSources reserved K (BothCounted r reads reads' ws ws' target exits ∷ rows) R = NoSecondPhis exits × WritesHaveSources reserved ws' R × RowsHaveSources reserved K rows (after_both ws ws' R)

read-source : (R : Rel) (ss ts : List Source) (b : Lane) → AlikeReads R ss ts → Among (FromLane b) ts → HasSource R b
read-source R [] [] b h x = absurd (none_among (FromLane b) x)
read-source R [] (t ∷ ts) b h x = absurd h
read-source R (s ∷ ss) [] b h x = absurd h
read-source R (s ∷ ss) (t ∷ ts) b h here = (s, h.0)
read-source R (s ∷ ss) (t ∷ ts) b h (there x) = read-source R ss ts b h.1 x

operand-source : (R : Rel) (rs qs : Reads) (ts : List Source) (b : Lane) → AlikeOperands R rs qs → Among ts qs → Among (FromLane b) ts → HasSource R b
operand-source R [] [] ts b h x y = absurd (none_among ts x)
operand-source R [] (q ∷ qs) ts b h x y = absurd h
operand-source R (r ∷ rs) [] ts b h x y = absurd h
operand-source R (r ∷ rs) (q ∷ qs) ts b h here y = read-source R r q b h.0 y
operand-source R (r ∷ rs) (q ∷ qs) ts b h (there x) y = operand-source R rs qs ts b h.1 x y

fill-source : (R : Rel) (f : Fill) (g : Fill) (b : Lane) → g ≡ Moved (FromLane b) → AlikeFill R f g → HasSource R b
fill-source R (Moved s) g b e h = (s, subst (λ x. AlikeFill R (Moved s) x) e h)
fill-source R (Computed i) g b e h = absurd (subst (λ x. AlikeFill R (Computed i) x) e h)

-- a way of the second is that of a pair
way-of : (exits : List EdgePair) (e : Edge) → Among e (second_edges exits) → (w : EdgePair) × Among w exits × (second_edge w ≡ e)
way-of [] e x = absurd (none_among e x)
way-of (w ∷ exits) e here = (w, here, refl)
way-of (w ∷ exits) e (there x) = let z = way-of exits e x in (z.0, there z.1, z.2)

no-phis-of : (exits : List EdgePair) (w : EdgePair) → NoSecondPhis exits → Among w exits → w.second ≡ []
no-phis-of [] w n x = absurd (none_among w x)
no-phis-of (v ∷ exits) w n here = n.0
no-phis-of (v ∷ exits) w n (there x) = no-phis-of exits w n.1 x

head-of : (i j : Item) (p q : Code) → i ∷ p ≡ j ∷ q → i ≡ j
head-of i j p q e = cc

rest-of : (i j : Item) (p q : Code) → i ∷ p ≡ j ∷ q → p ≡ q
rest-of i j p q e = cc

module _ (reserved : Lane → Bool) (K : Plan) (all : List Row) where
  -- why b is live at an item, with what is already known of the places after it
  data Cause (i : Item) (p : Code) (b : Lane) : Type 1 where
    by_read : (ss : List Source) → Among ss (reads_of i) → Among (FromLane b) ss → Cause i p b
    by_next : (a : Lane) → in_order i ≡ true → ((rows : List Row) (R : Rel) → Coupled K rows R → RowsHaveSources reserved K rows R → p ≡ second_of_rows rows → HasSource R a) → Feeds i b a → Cause i p b
    by_leap : (e : Edge) (a c : Lane) → Among e (exits_of i) → HasSource (K e.block) a → filled e.phis a ≡ Moved (FromLane c) → Feeds i b c → Cause i p b
    by_phi : (e : Edge) (w : Write) → Among e (exits_of i) → Among w e.phis → Cause i p b
    by_store : (s k w : ℕ) → Feeds i b (SlotLane s k w) → is_slot b ≡ false → Cause i p b
    by_kept : (a : Lane) → reserved a ≡ true → Feeds i b a → reserved b ≡ false → Cause i p b

  moved : (i j : Item) (p : Code) (b : Lane) → i ≡ j → Cause i p b → Cause j p b
  moved i j p b e c = subst (λ x. Cause x p b) e c

  apart : (a b : Lane) → reserved a ≡ true → reserved b ≡ false → Moved (FromLane a) ≡ Moved (FromLane b) → ⊥
  apart a b r s e =
      let t : reserved b ≡ true = subst (λ x. reserved x ≡ true) (lane-inj a b e) r in
      absurd (cc)

  no-slot : (s k w : ℕ) (b : Lane) → Moved (FromLane (SlotLane s k w)) ≡ Moved (FromLane b) → is_slot b ≡ false → ⊥
  no-slot s k w b e n =
      let t : is_slot b ≡ true = subst (λ x. is_slot x ≡ true) (lane-inj (SlotLane s k w) b e) refl in
      absurd (cc)

  -- along a way of the second a lane keeps its source
  along-way : (exits : List EdgePair) (R : Rel) (e : Edge) (a c : Lane) → Exits K exits R → NoSecondPhis exits → Among e (second_edges exits) → HasSource (K e.block) a → filled e.phis a ≡ Moved (FromLane c) → HasSource R c
  along-way exits R e a c w n x z f = go (way-of exits e x)
    where
      go : (v : EdgePair) × Among v exits × (second_edge v ≡ e) → HasSource R c
      go (v, y, g) =
          let k : K v.block z.0 (FromLane a) = subst (λ d. K d.block z.0 (FromLane a)) (sym g) z.1 in
          let f' : filled v.second a ≡ Moved (FromLane c) = subst (λ d. filled d.phis a ≡ Moved (FromLane c)) (sym g) f in
          (settled (through v.first z.0), subst (λ t. R (settled (through v.first z.0)) t) (ap settled f') (w v y z.0 (FromLane a) k))

  no-phi : (exits : List EdgePair) (e : Edge) (w : Write) → NoSecondPhis exits → Among e (second_edges exits) → Among w e.phis → ⊥
  no-phi exits e w n x y = go (way-of exits e x)
    where
      go : (v : EdgePair) × Among v exits × (second_edge v ≡ e) → ⊥
      go (v, z, g) = none_among w (subst (λ ws. Among w ws) (no-phis-of exits v n z) (subst (λ d. Among w d.phis) (sym g) y))

  at_start : (n : ℕ) (rows : List Row) (R : Rel) (b : Lane) → Within (K n) R → Coupled K rows (K n) → RowsHaveSources reserved K rows (K n) → Cause (BlockStart n) (second_of_rows rows) b → HasSource R b
  at_start n rows R b w c d (by_read ss x y) = absurd (none_among ss x)
  at_start n rows R b w c d (by_next a o ih e) =
      let z = ih rows (K n) c d refl in
      (z.0, subst (λ l. R z.0 (FromLane l)) (lane-inj a b e) (w z.0 (FromLane a) z.1))
  at_start n rows R b w c d (by_leap m a l x z f e) = absurd (none_among m x)
  at_start n rows R b w c d (by_phi m v x y) = absurd (none_among m x)
  at_start n rows R b w c d (by_store s k v e t) = absurd (no-slot s k v b e t)
  at_start n rows R b w c d (by_kept a r e s) = absurd (apart a b r s e)

  at_end : (falls : Option Writes) (exits : List EdgePair) (p : Code) (R : Rel) (b : Lane) → Exits K exits R → NoSecondPhis exits → Cause (BlockEnd falls (second_edges exits)) p b → HasSource R b
  at_end falls exits p R b w n (by_read ss x y) = absurd (none_among ss x)
  at_end falls exits p R b w n (by_next a o ih e) = absurd (cc)
  at_end falls exits p R b w n (by_leap m a l x z f e) = let y = along-way exits R m a l w n x z f in (y.0, subst (λ q. R y.0 (FromLane q)) (lane-inj l b e) y.1)
  at_end falls exits p R b w n (by_phi m v x y) = absurd (no-phi exits m v n x y)
  at_end falls exits p R b w n (by_store s k v e t) = absurd (no-slot s k v b e t)
  at_end falls exits p R b w n (by_kept a r e s) = absurd (apart a b r s e)

  at_silent : (reads : Reads) (ws : Writes) (rows : List Row) (R : Rel) (b : Lane) → reads ≡ [] → Coupled K rows (after_second ws R) → WritesHaveSources reserved ws R → RowsHaveSources reserved K rows (after_second ws R) → Cause (Silent reads ws) (second_of_rows rows) b → HasSource R b
  at_silent reads ws rows R b g c sw d (by_read ss x y) = absurd (none_among ss (subst (λ rs. Among ss rs) g x))
  at_silent reads ws rows R b g c sw d (by_next a o ih e) =
      let z = ih rows (after_second ws R) c d refl in
      (z.0, subst (λ t. R z.0 t) (ap settled e) z.1)
  at_silent reads ws rows R b g c sw d (by_leap m a l x z f e) = absurd (none_among m x)
  at_silent reads ws rows R b g c sw d (by_phi m v x y) = absurd (none_among m x)
  at_silent reads ws rows R b g c sw d (by_store s k v e t) = sw.1 s k v b e t
  at_silent reads ws rows R b g c sw d (by_kept a r e s) = sw.0 a b r e s

  at_counted : (r : Rest) (reads reads' : Reads) (ws ws' : Writes) (target : Option Edge) (exits : List EdgePair) (rows : List Row) (R : Rel) (b : Lane) → AlikeOperands R reads reads' → Exits K exits (after_both ws ws' R) → NoSecondPhis exits → Coupled K rows (after_both ws ws' R) → WritesHaveSources reserved ws' R → RowsHaveSources reserved K rows (after_both ws ws' R) → Cause (Counted r reads' ws' target (second_edges exits)) (second_of_rows rows) b → HasSource R b
  at_counted r reads reads' ws ws' target exits rows R b h w n c sw d (by_read ss x y) = operand-source R reads reads' ss b h x y
  at_counted r reads reads' ws ws' target exits rows R b h w n c sw d (by_next a o ih e) =
      let z = ih rows (after_both ws ws' R) c d refl in
      fill-source R (through ws z.0) (filled ws' a) b e z.1
  at_counted r reads reads' ws ws' target exits rows R b h w n c sw d (by_leap m a l x z f e) =
      let y = along-way exits (after_both ws ws' R) m a l w n x z f in
      fill-source R (through ws y.0) (filled ws' l) b e y.1
  at_counted r reads reads' ws ws' target exits rows R b h w n c sw d (by_phi m v x y) = absurd (no-phi exits m v n x y)
  at_counted r reads reads' ws ws' target exits rows R b h w n c sw d (by_store s k v e t) = sw.1 s k v b e t
  at_counted r reads reads' ws ws' target exits rows R b h w n c sw d (by_kept a q e s) = sw.0 a b q e s

  at_rows : (rows : List Row) (R : Rel) (i : Item) (p : Code) (b : Lane) → Coupled K rows R → RowsHaveSources reserved K rows R → i ∷ p ≡ second_of_rows rows → Cause i p b → HasSource R b
  at_rows [] R i p b c d e x = absurd (cc)
  at_rows (BothStart n ∷ rows) R i p b c d e x =
      at_start n rows R b c.0 c.1 d (subst (λ q. Cause (BlockStart n) q b) (rest-of i (BlockStart n) p (second_of_rows rows) e) (moved i (BlockStart n) p b (head-of i (BlockStart n) p (second_of_rows rows) e) x))
  at_rows (BothEnd (Some g) exits ∷ rows) R i p b c d e x =
      let j = BlockEnd (Some g.1) (second_edges exits) in
      at_end (Some g.1) exits p R b c.0 d.0 (moved i j p b (head-of i j p (second_of_rows rows) e) x)
  at_rows (BothEnd None exits ∷ rows) R i p b c d e x =
      let j = BlockEnd None (second_edges exits) in
      at_end None exits p R b c.0 d.0 (moved i j p b (head-of i j p (second_of_rows rows) e) x)
  at_rows (FirstSilent reads ws ∷ rows) R i p b c d e x = let z = at_rows rows (after_first ws R) i p b c d e x in (settled (through ws z.0), z.1)
  at_rows (SecondSilent reads ws ∷ rows) R i p b c d e x =
      let j = Silent reads ws in
      at_silent reads ws rows R b d.0 c d.1 d.2 (subst (λ q. Cause j q b) (rest-of i j p (second_of_rows rows) e) (moved i j p b (head-of i j p (second_of_rows rows) e) x))
  at_rows (BothCounted r reads reads' ws ws' target exits ∷ rows) R i p b c d e x =
      let j = Counted r reads' ws' (second_target target) (second_edges exits) in
      at_counted r reads reads' ws ws' (second_target target) exits rows R b c.0 c.2 d.0 c.3 d.1 d.2 (subst (λ q. Cause j q b) (rest-of i j p (second_of_rows rows) e) (moved i j p b (head-of i j p (second_of_rows rows) e) x))

  -- The live_has_source: a lane that is live in the second has the value of some source of the first, by the relation there.
  pub live_has_source : ((n : ℕ) → Coupled K (found_row n all) (K n)) → ((n : ℕ) → RowsHaveSources reserved K (found_row n all) (K n)) → {q : Code} {b : Lane} → Live reserved (second_of_rows all) q b → (rows : List Row) (R : Rel) → Coupled K rows R → RowsHaveSources reserved K rows R → q ≡ second_of_rows rows → HasSource R b
  live_has_source cs ds (live.read {i = i} {p = p} {ss = ss} {l = l} x y r) rows R c d e = at_rows rows R i p l c d e (by_read ss x y)
  live_has_source cs ds (live.next {i = i} {p = p} {l = l} {a = a} o h f r) rows R c d e =
      at_rows rows R i p l c d e (by_next a o (λ rs S c' d' e'. live_has_source cs ds h rs S c' d' e') f)
  live_has_source cs ds (live.leap {i = i} {p = p} {e = m} {l = l} {a = a} {b = b} x h g f r) rows R c d e =
      at_rows rows R i p l c d e (by_leap m a b x (live_has_source cs ds h (found_row m.block all) (K m.block) (cs m.block) (ds m.block) (sym (found-second m.block all))) g f)
  live_has_source cs ds (live.phi {i = i} {p = p} {e = m} {w = w} {l = l} x y g f r) rows R c d e = at_rows rows R i p l c d e (by_phi m w x y)
  live_has_source cs ds (live.store w {i = i} {p = p} {s = s} {k = k} {l = l} o h f t r) rows R c d e = at_rows rows R i p l c d e (by_store s k w f t)
  live_has_source cs ds (live.kept {i = i} {p = p} {l = l} {a = a} s f r) rows R c d e = at_rows rows R i p l c d e (by_kept a s f r)

-- a lane that is live where the codes are in step is the home of a lane that is kept there
pub at_home : (reserved : Lane → Bool) (code : Code) (h : Homes) (p : Code) (b : Lane) → HasSource (Graph reserved code h p) b → (a : Lane) × Kept reserved code p a × (h a ≡ FromLane b)
at_home reserved code h p b (s, g) = go s g
  where
    go : (s : Source) → Graph reserved code h p s (FromLane b) → (a : Lane) × Kept reserved code p a × (h a ≡ FromLane b)
    go (FromLane a) x = (a, x.0, sym x.1)
    go Undef x = absurd (from_undef b x.1)
      where
        from_undef : (c : Lane) → FromLane c ≡ Undef → ⊥
        from_undef c e = cc
    go (Bits n low width) x = absurd (from_bits b n low width x.1)
      where
        from_bits : (c : Lane) (n' : Constant) (low' width' : ℕ) → FromLane c ≡ Bits n' low' width' → ⊥
        from_bits c n' low' width' e = cc
