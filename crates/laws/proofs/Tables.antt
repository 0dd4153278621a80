-- A table that passes the test lists all live lanes.
use Rattle.std.proofs.Common.{◌≡◌, ◌∷◌, ◌&&◌, ◌||◌, ◌⊎◌, ⊎_elim, ◌∙◌, ℕ, suc, Bool, true, false, cond, eqb, List, refl, sym, ap, subst, inl, inr, length, []}
use Rattle.meaning.specs.Code.{Code, Edge, Item, found}
use Rattle.meaning.specs.Lanes.{Reads, Writes, filled, same_lane}
use Rattle.meaning.specs.Live.{Among, Live, exits_of, here, in_order, is_slot, reads_of, there, writes_of}
use Rattle.meaning.specs.declared.types.Fill.{Fill}
use Rattle.meaning.specs.declared.types.Fill.TheVariants.{Moved}
use Rattle.meaning.specs.declared.types.Lane.{Lane}
use Rattle.meaning.specs.declared.types.Lane.TheVariants.{SlotLane, UnitLane, VirtualLane}
use Rattle.meaning.specs.declared.types.Source.{Source}
use Rattle.meaning.specs.declared.types.Source.TheVariants.{FromLane}
use Rattle.meaning.specs.declared.types.Write.{Write}
use Rattle.laws.proofs.Flow.{bool_cases, lane-inj, none_among}
use Rattle.laws.proofs.Following.{both-true}
use Rattle.laws.proofs.Least.{Closed, Ends, behind, live_within, whole}
use Rattle.laws.proofs.Quiet.{same-refl, same-true}
use Rattle.laws.specs.Tables.{LiveTable, after_of, code_listed, counts, feeds_before, feeds_listed, is_listed, item_listed, leap_listed, lists, lists_slot, next_listed, phis_listed, reads_listed, sources_listed, ways_listed, writes_listed}

pub or-true : (a b : Bool) → a || b ≡ true → a ≡ false → b ≡ true
or-true true b e f = absurd (cc)
or-true false b e f = e

lists-right : (ls : List Lane) (a l : Lane) → a ≡ l → lists (a ∷ ls) l ≡ true
lists-right ls a l e = ap (λ b. b || lists ls l) (subst (λ x. same_lane a x ≡ true) e (same-refl a))

module _ (reserved : Lane → Bool) (ls : List Lane) where
  source-listed : (s : Source) (l : Lane) → is_listed reserved ls s ≡ true → s ≡ FromLane l → reserved l ≡ false → lists ls l ≡ true
  source-listed s l h e r = or-true (reserved l) (lists ls l) (subst (λ x. is_listed reserved ls x ≡ true) e h) r

  fill-listed : (f : Fill) (l : Lane) → feeds_listed reserved ls f ≡ true → f ≡ Moved (FromLane l) → reserved l ≡ false → lists ls l ≡ true
  fill-listed f l h e r = or-true (reserved l) (lists ls l) (subst (λ x. feeds_listed reserved ls x ≡ true) e h) r

  before-listed : (ws : Writes) (f : Fill) (l b : Lane) → feeds_before reserved ls ws f ≡ true → f ≡ Moved (FromLane b) → filled ws b ≡ Moved (FromLane l) → reserved l ≡ false → lists ls l ≡ true
  before-listed ws f l b h e g r = fill-listed (filled ws b) l (subst (λ x. feeds_before reserved ls ws x ≡ true) e h) g r

  among-sources : (ss : List Source) (l : Lane) → sources_listed reserved ls ss ≡ true → Among (FromLane l) ss → reserved l ≡ false → lists ls l ≡ true
  among-sources [] l h x r = absurd (none_among (FromLane l) x)
  among-sources (s ∷ ss) l h here r = source-listed s l (both-true (is_listed reserved ls s) (sources_listed reserved ls ss) h).0 refl r
  among-sources (s ∷ ss) l h (there x) r = among-sources ss l (both-true (is_listed reserved ls s) (sources_listed reserved ls ss) h).1 x r

  among-reads : (reads : Reads) (ss : List Source) (l : Lane) → reads_listed reserved ls reads ≡ true → Among ss reads → Among (FromLane l) ss → reserved l ≡ false → lists ls l ≡ true
  among-reads [] ss l h x y r = absurd (none_among ss x)
  among-reads (qs ∷ reads) ss l h here y r = among-sources qs l (both-true (sources_listed reserved ls qs) (reads_listed reserved ls reads) h).0 y r
  among-reads (qs ∷ reads) ss l h (there x) y r = among-reads reads ss l (both-true (sources_listed reserved ls qs) (reads_listed reserved ls reads) h).1 x y r

  among-next : (ws : Writes) (bs : List Lane) (a l : Lane) → next_listed reserved ls ws bs ≡ true → lists bs a ≡ true → filled ws a ≡ Moved (FromLane l) → reserved l ≡ false → lists ls l ≡ true
  among-next ws [] a l h x f r = absurd (cc)
  among-next ws (b ∷ bs) a l h x f r =
      let p = both-true (feeds_listed reserved ls (filled ws b)) (next_listed reserved ls ws bs) h in
      ⊎_elim (λ e. fill-listed (filled ws b) l p.0 (ap (filled ws) (same-true b a e) ∙ f) r) (λ e. among-next ws bs a l p.1 (or-true (same_lane b a) (lists bs a) x e) f r) (bool_cases (same_lane b a))

  among-leap : (ws phis : Writes) (bs : List Lane) (a b l : Lane) → leap_listed reserved ls ws phis bs ≡ true → lists bs a ≡ true → filled phis a ≡ Moved (FromLane b) → filled ws b ≡ Moved (FromLane l) → reserved l ≡ false → lists ls l ≡ true
  among-leap ws phis [] a b l h x g f r = absurd (cc)
  among-leap ws phis (c ∷ bs) a b l h x g f r =
      let p = both-true (feeds_before reserved ls ws (filled phis c)) (leap_listed reserved ls ws phis bs) h in
      ⊎_elim (λ e. before-listed ws (filled phis c) l b p.0 (ap (filled phis) (same-true c a e) ∙ g) f r) (λ e. among-leap ws phis bs a b l p.1 (or-true (same_lane c a) (lists bs a) x e) g f r) (bool_cases (same_lane c a))

  among-phis : (ws phis : Writes) (w : Write) (b l : Lane) → phis_listed reserved ls ws phis ≡ true → Among w phis → w.fill ≡ Moved (FromLane b) → filled ws b ≡ Moved (FromLane l) → reserved l ≡ false → lists ls l ≡ true
  among-phis ws [] w b l h x g f r = absurd (none_among w x)
  among-phis ws (v ∷ phis) w b l h here g f r = before-listed ws v.fill l b (both-true (feeds_before reserved ls ws v.fill) (phis_listed reserved ls ws phis) h).0 g f r
  among-phis ws (v ∷ phis) w b l h (there x) g f r = among-phis ws phis w b l (both-true (feeds_before reserved ls ws v.fill) (phis_listed reserved ls ws phis) h).1 x g f r

  among-writes : (after : List Lane) (all ws : Writes) (w : Write) (l : Lane) → writes_listed reserved ls after all ws ≡ true → Among w ws → counts reserved after w.lane ≡ true → filled all w.lane ≡ Moved (FromLane l) → reserved l ≡ false → lists ls l ≡ true
  among-writes after all [] w l h x c f r = absurd (none_among w x)
  among-writes after all (v ∷ ws) w l h here c f r =
      let p = both-true (cond (counts reserved after v.lane) (feeds_listed reserved ls (filled all v.lane)) true) (writes_listed reserved ls after all ws) h in
      fill-listed (filled all v.lane) l (sym (ap (λ b. cond b (feeds_listed reserved ls (filled all v.lane)) true) c) ∙ p.0) f r
  among-writes after all (v ∷ ws) w l h (there x) c f r =
      among-writes after all ws w l (both-true (cond (counts reserved after v.lane) (feeds_listed reserved ls (filled all v.lane)) true) (writes_listed reserved ls after all ws) h).1 x c f r

-- a lane that holds another's value was written
abbrev Wrote : Writes → Lane → Type 0
Wrote ws a = (w : Write) × Among w ws × (w.lane ≡ a)

wrote : (ws : Writes) (a l : Lane) → filled ws a ≡ Moved (FromLane l) → (l ≡ a) ⊎ Wrote ws a
wrote [] a l e = inl (sym (lane-inj a l e))
wrote (v ∷ ws) a l e = go (bool_cases (same_lane v.lane a)) (wrote ws a l)
  where
    more : (l ≡ a) ⊎ Wrote ws a → (l ≡ a) ⊎ Wrote (v ∷ ws) a
    more (inl h) = inl h
    more (inr h) = inr (h.0, there h.1, h.2)

    go : (same_lane v.lane a ≡ true) ⊎ (same_lane v.lane a ≡ false) → (filled ws a ≡ Moved (FromLane l) → (l ≡ a) ⊎ Wrote ws a) → (l ≡ a) ⊎ Wrote (v ∷ ws) a
    go (inl t) on = inr (v, here, same-true v.lane a t)
    go (inr t) on = more (on (sym (ap (λ c. cond c v.fill (filled ws a)) t) ∙ e))

lists-slot : (bs : List Lane) (s k x : ℕ) → lists bs (SlotLane s k x) ≡ true → lists_slot bs s k ≡ true
lists-slot [] s k x h = absurd (cc)
lists-slot (VirtualLane v j ∷ bs) s k x h = lists-slot bs s k x h
lists-slot (UnitLane u ∷ bs) s k x h = lists-slot bs s k x h
lists-slot (SlotLane t j w ∷ bs) s k x h = go (bool_cases (eqb t s && eqb j k)) (lists-slot bs s k x)
  where
    last : (a b c : Bool) → a && b ≡ false → a && (b && c) ≡ false
    last true true c e = absurd (cc)
    last true false c e = refl
    last false b c e = refl

    go : (eqb t s && eqb j k ≡ true) ⊎ (eqb t s && eqb j k ≡ false) → (lists bs (SlotLane s k x) ≡ true → lists_slot bs s k ≡ true) → lists_slot (SlotLane t j w ∷ bs) s k ≡ true
    go (inl e) on = ap (λ b. b || lists_slot bs s k) e
    go (inr e) on = ap (λ b. b || lists_slot bs s k) e ∙ on (or-true (eqb t s && (eqb j k && eqb w x)) (lists bs (SlotLane s k x)) h (last (eqb t s) (eqb j k) (eqb w x) e))

reserved-counts : (reserved : Lane → Bool) (after : List Lane) (l : Lane) → reserved l ≡ true → counts reserved after l ≡ true
reserved-counts reserved after (VirtualLane v k) r = r
reserved-counts reserved after (UnitLane u) r = r
reserved-counts reserved after (SlotLane s k w) r = ap (λ b. b || lists_slot after s k) r

or-right : (a b : Bool) → b ≡ true → a || b ≡ true
or-right true b e = refl
or-right false b e = e

module _ (reserved : Lane → Bool) (code : Code) (table : LiveTable) (tested : code_listed reserved code table code ≡ true) where
  abbrev At : Code → Lane → Bool
  At p l = lists (table (length p)) l

  code-tested : {q : Code} → Ends code q → code_listed reserved code table q ≡ true
  code-tested whole = tested
  code-tested (behind {i = i} {p = p} e) = (both-true (item_listed reserved code table i p) (code_listed reserved code table p) (code-tested e)).1

  way-tested : (ls : List Lane) (ws : Writes) (es : List Edge) (e : Edge) → ways_listed reserved code table ls ws es ≡ true → Among e es → (leap_listed reserved ls ws e.phis (table (length (found e.block code))) ≡ true) × (phis_listed reserved ls ws e.phis ≡ true)
  way-tested ls ws [] e h x = absurd (none_among e x)
  way-tested ls ws (d ∷ es) e h here =
      let p = both-true (leap_listed reserved ls ws d.phis (table (length (found d.block code)))) (phis_listed reserved ls ws d.phis && ways_listed reserved code table ls ws es) h in
      (p.0, (both-true (phis_listed reserved ls ws d.phis) (ways_listed reserved code table ls ws es) p.1).0)
  way-tested ls ws (d ∷ es) e h (there x) =
      let p = both-true (leap_listed reserved ls ws d.phis (table (length (found d.block code)))) (phis_listed reserved ls ws d.phis && ways_listed reserved code table ls ws es) h in
      way-tested ls ws es e (both-true (phis_listed reserved ls ws d.phis) (ways_listed reserved code table ls ws es) p.1).1 x

  after-is : (i : Item) (p : Code) → in_order i ≡ true → after_of table i p ≡ table (length p)
  after-is i p o = ap (λ b. cond b (table (length p)) []) o

  module _ (i : Item) (p : Code) (e : Ends code (i ∷ p)) where
    ls : List Lane
    ls = table (suc (length p))

    parts : item_listed reserved code table i p ≡ true
    parts = (both-true (item_listed reserved code table i p) (code_listed reserved code table p) (code-tested e)).0

    reads-part : reads_listed reserved ls (reads_of i) ≡ true
    unfolding ls
    reads-part = (both-true (reads_listed reserved ls (reads_of i)) (next_listed reserved ls (writes_of i) (after_of table i p) && (ways_listed reserved code table ls (writes_of i) (exits_of i) && writes_listed reserved ls (after_of table i p) (writes_of i) (writes_of i))) parts).0

    later-parts : next_listed reserved ls (writes_of i) (after_of table i p) && (ways_listed reserved code table ls (writes_of i) (exits_of i) && writes_listed reserved ls (after_of table i p) (writes_of i) (writes_of i)) ≡ true
    unfolding ls
    later-parts = (both-true (reads_listed reserved ls (reads_of i)) (next_listed reserved ls (writes_of i) (after_of table i p) && (ways_listed reserved code table ls (writes_of i) (exits_of i) && writes_listed reserved ls (after_of table i p) (writes_of i) (writes_of i))) parts).1

    next-part : next_listed reserved ls (writes_of i) (after_of table i p) ≡ true
    next-part = (both-true (next_listed reserved ls (writes_of i) (after_of table i p)) (ways_listed reserved code table ls (writes_of i) (exits_of i) && writes_listed reserved ls (after_of table i p) (writes_of i) (writes_of i)) later-parts).0

    ways-part : ways_listed reserved code table ls (writes_of i) (exits_of i) ≡ true
    ways-part = (both-true (ways_listed reserved code table ls (writes_of i) (exits_of i)) (writes_listed reserved ls (after_of table i p) (writes_of i) (writes_of i)) (both-true (next_listed reserved ls (writes_of i) (after_of table i p)) (ways_listed reserved code table ls (writes_of i) (exits_of i) && writes_listed reserved ls (after_of table i p) (writes_of i) (writes_of i)) later-parts).1).0

    writes-part : writes_listed reserved ls (after_of table i p) (writes_of i) (writes_of i) ≡ true
    writes-part = (both-true (ways_listed reserved code table ls (writes_of i) (exits_of i)) (writes_listed reserved ls (after_of table i p) (writes_of i) (writes_of i)) (both-true (next_listed reserved ls (writes_of i) (after_of table i p)) (ways_listed reserved code table ls (writes_of i) (exits_of i) && writes_listed reserved ls (after_of table i p) (writes_of i) (writes_of i)) later-parts).1).1

    slot-counts : (w : Write) (s k v x : ℕ) → w.lane ≡ SlotLane s k v → in_order i ≡ true → lists (table (length p)) (SlotLane s k x) ≡ true → counts reserved (after_of table i p) w.lane ≡ true
    slot-counts w s k v x g o t =
        let u : lists_slot (after_of table i p) s k ≡ true = lists-slot (after_of table i p) s k x (subst (λ bs. lists bs (SlotLane s k x) ≡ true) (sym (after-is i p o)) t) in
        subst (λ l. counts reserved (after_of table i p) l ≡ true) (sym g) (or-right (reserved (SlotLane s k v)) (lists_slot (after_of table i p) s k) u)

    stored : (s k v x : ℕ) (l : Lane) → in_order i ≡ true → lists (table (length p)) (SlotLane s k x) ≡ true → filled (writes_of i) (SlotLane s k v) ≡ Moved (FromLane l) → is_slot l ≡ false → reserved l ≡ false → lists ls l ≡ true
    stored s k v x l o t f n r = go (wrote (writes_of i) (SlotLane s k v) l f)
      where
        go : (l ≡ SlotLane s k v) ⊎ Wrote (writes_of i) (SlotLane s k v) → lists ls l ≡ true
        go (inl g) = let b : true ≡ false = subst (λ a. is_slot a ≡ false) g n in absurd (cc)
        go (inr w) = among-writes reserved ls (after_of table i p) (writes_of i) (writes_of i) w.0 l writes-part w.1 (slot-counts w.0 s k v x w.2 o t) (ap (filled (writes_of i)) w.2 ∙ f) r

    kept-listed : (l a : Lane) → reserved a ≡ true → filled (writes_of i) a ≡ Moved (FromLane l) → reserved l ≡ false → lists ls l ≡ true
    kept-listed l a s f r = go (wrote (writes_of i) a l f)
      where
        go : (l ≡ a) ⊎ Wrote (writes_of i) a → lists ls l ≡ true
        go (inl g) = let b : reserved l ≡ true = subst (λ x. reserved x ≡ true) (sym g) s in absurd (cc)
        go (inr w) =
            among-writes reserved ls (after_of table i p) (writes_of i) (writes_of i) w.0 l writes-part w.1 (reserved-counts reserved (after_of table i p) w.0.lane (subst (λ x. reserved x ≡ true) (sym w.2) s)) (ap (filled (writes_of i)) w.2 ∙ f) r

  closed : Closed reserved code At
  unfolding ls
  closed = record {
    read = λ i p ss l e x y r. among-reads reserved (ls i p e) (reads_of i) ss l (reads-part i p e) x y r;
    next = λ i p l a e o t f r. among-next reserved (ls i p e) (writes_of i) (after_of table i p) a l (next-part i p e) (subst (λ bs. lists bs a ≡ true) (sym (after-is i p o)) t) f r;
    leap = λ i p d l a b e x t g f r. among-leap reserved (ls i p e) (writes_of i) d.phis (table (length (found d.block code))) a b l (way-tested (ls i p e) (writes_of i) (exits_of i) d (ways-part i p e) x).0 t g f r;
    phi = λ i p d w l b e x y g f r. among-phis reserved (ls i p e) (writes_of i) d.phis w b l (way-tested (ls i p e) (writes_of i) (exits_of i) d (ways-part i p e) x).1 y g f r;
    store = λ i p s k v x l e o t f n r. stored i p e s k v x l o t f n r;
    kept = λ i p l a e s f r. kept-listed i p e l a s f r;
  }

  pub live-listed : {p : Code} {l : Lane} → Live reserved code p l → Ends code p → lists (table (length p)) l ≡ true
  live-listed h e = live_within reserved code At closed h e
