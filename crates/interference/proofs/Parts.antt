-- Stretches that lie apart: those that begin by a point, part by part.
use Rattle.std.proofs.Common.{◌≡◌, ◌<◌, ◌≤◌, ◌⊎◌, ℕ, zero, suc, ◌-◌, Bool, true, false, cond, ◌&&◌, length, map, take, List, [], ◌∷◌, ◌++◌, Option, None, Some, inl, inr, refl, sym, ap, ◌∙◌, arith, get_or, max, append-nil, append_assoc}
use Rattle.std.specs.Prelude.{◌||◌, nat_eq, nat_le, filter, flat_map, Vec}
use Rattle.std.specs.Global.{Global}
use Rattle.std.specs.List.{list_any}
use Rattle.std.specs.List.Sorted.{IsPartitionedBy}
use Rattle.std.proofs.lemmas.Bool.{ltb-true, leb-true, leb-false, le-leb, ne_eqb, eq-eqb, cases_eq}
use Rattle.std.proofs.lemmas.List.Elements.{filter-append}
use Rattle.live_lanes.specs.declared.ask.extent.Extent.{Extent}
use Rattle.live_lanes.specs.declared.ask.extent.Stretch.{Stretch}
use Rattle.live_lanes.specs.Table.{Numbers, leading, entry_rank, exit_rank, end_rank}
use Rattle.live_lanes.specs.Extents.{first_rank, last_rank}
use Rattle.live_lanes.proofs.Held.{or-none, and-none, le-false}
use Rattle.interference.specs.declared.held.ListPosition.{ListPosition}
use Rattle.interference.specs.declared.held.RangeExtent.{RangeExtent}
use Rattle.interference.specs.declared.held.HeldList.{HeldList}
use Rattle.interference.specs.Clashes.{part_of, held_of, is_none, AreApart, begins_by, touches}
use Rattle.interference.specs.Parts.{parts_of, part_in, part_before, before, part_begins, lies_before}

abbrev pub flat : List (List RangeExtent) → List RangeExtent
flat [] = []
flat (p ∷ ps) = p ++ flat ps

pub flat-map : (vs : List (Vec RangeExtent Global)) → flat (map part_of vs) ≡ flat_map part_of vs
flat-map [] = refl
flat-map (v ∷ vs) = ap (λ hs. part_of v ++ hs) (flat-map vs)

pub flat-held : (h : HeldList) → flat (parts_of h) ≡ held_of h
flat-held h = flat-map h.parts.items

pub part-there : (vs : List (Vec RangeExtent Global)) (k : ℕ) (v : Vec RangeExtent Global) → k < length vs → v ≡ get_or vs k v → v.items ≡ part_in (map part_of vs) k
part-there [] k v h e = absurd (omega arith)
part-there (x ∷ xs) zero v h e = ap part_of e
part-there (x ∷ xs) (suc k) v h e = part-there xs k v (omega arith) e

pub and-left-none : (a b : Bool) → a ≡ false → (a && b) ≡ false
and-left-none true b e = absurd (cc)
and-left-none false b e = refl

module _ (slots : Numbers) where
  extent-in : (start : Option ℕ) (early : Bool) (e : ℕ) → elim start [ None ↦ 0 | Some id ↦ cond early (entry_rank slots id) (exit_rank slots id) ] ≤ elim start [ None ↦ e | Some id ↦ max e (exit_rank slots id) ]
  extent-in None early e = omega arith
  extent-in (Some id) true e = omega arith
  extent-in (Some id) false e = omega arith

  pub extent-le : (e : Extent) → first_rank slots e ≤ last_rank slots e
  extent-le e = extent-in e.start e.early (end_rank slots e.end)

  pub apart-low : (n m : ℕ) (hs : List RangeExtent) → n ≤ m → AreApart slots m hs → AreApart slots n hs
  apart-low n m [] le a = tt
  apart-low n m (h ∷ hs) le a = let b = a.0 in (omega arith, a.1)

  pub apart-filter : (test : RangeExtent → Bool) (n : ℕ) (hs : List RangeExtent) → AreApart slots n hs → AreApart slots n (filter test hs)
  apart-filter test n [] a = tt
  apart-filter test n (h ∷ hs) a = go (test h) (apart-filter test (last_rank slots h.extent) hs a.1)
    where
      go : (u : Bool) → AreApart slots (last_rank slots h.extent) (filter test hs) → AreApart slots n (cond u (h ∷ filter test hs) (filter test hs))
      go true ih = (a.0, ih)
      go false ih = let b = a.0 in let c = extent-le h.extent in apart-low n (last_rank slots h.extent) (filter test hs) (omega arith) ih

  -- the last point of the last of them
  abbrev pub behind_all : ℕ → List RangeExtent → ℕ
  behind_all n [] = n
  behind_all n (h ∷ hs) = behind_all (last_rank slots h.extent) hs

  pub apart-left : (n : ℕ) (xs ys : List RangeExtent) → AreApart slots n (xs ++ ys) → AreApart slots n xs
  apart-left n [] ys a = tt
  apart-left n (x ∷ xs) ys a = (a.0, apart-left (last_rank slots x.extent) xs ys a.1)

  pub apart-right : (n : ℕ) (xs ys : List RangeExtent) → AreApart slots n (xs ++ ys) → AreApart slots (behind_all n xs) ys
  apart-right n [] ys a = a
  apart-right n (x ∷ xs) ys a = apart-right (last_rank slots x.extent) xs ys a.1

  behind-low : (n : ℕ) (hs : List RangeExtent) → AreApart slots n hs → n ≤ behind_all n hs
  behind-low n [] a = omega arith
  behind-low n (h ∷ hs) a = let ih = behind-low (last_rank slots h.extent) hs a.1 in let b = a.0 in let c = extent-le h.extent in omega arith

  -- they begin at their first one's first point, at the lowest
  pub from-first : (n : ℕ) (h : RangeExtent) (hs : List RangeExtent) → AreApart slots n (h ∷ hs) → AreApart slots (first_rank slots h.extent) (h ∷ hs)
  from-first n h hs a = (omega arith, a.1)

  -- where one of them lies before a point, so does all that stands ahead of them
  pub lies-low : (t n : ℕ) (hs : List RangeExtent) → AreApart slots n hs → list_any (lies_before slots t) hs ≡ true → n < t
  lies-low t n [] a e = absurd (cc)
  lies-low t n (h ∷ hs) a e = go (lies_before slots t h) refl (λ f. lies-low t (last_rank slots h.extent) hs a.1 f)
    where
      go : (u : Bool) → lies_before slots t h ≡ u → (list_any (lies_before slots t) hs ≡ true → last_rank slots h.extent < t) → n < t
      go true f ih = let low = ltb-true (last_rank slots h.extent) t f in let b = a.0 in let c = extent-le h.extent in omega arith
      go false f ih =
          let rest : list_any (lies_before slots t) hs ≡ true = sym (ap (λ b. b || list_any (lies_before slots t) hs) f) ∙ e in
          let low = ih rest in let b = a.0 in let c = extent-le h.extent in omega arith

  module _ (at : Stretch) (test : RangeExtent → Bool) where
    abbrev pub touched : List RangeExtent → Bool
    touched hs = list_any (λ h. test h && touches slots at h) hs

    pub past-none : (h : RangeExtent) → last_rank slots h.extent < at.first → (test h && touches slots at h) ≡ false
    past-none h low = and-none (test h) (touches slots at h) (and-none (begins_by slots at.last h) (nat_le at.first (last_rank slots h.extent)) (le-false at.first (last_rank slots h.extent) low))

    -- what lies before the points touches none
    pub none-past : (n : ℕ) (hs : List RangeExtent) → AreApart slots n hs → behind_all n hs < at.first → touched hs ≡ false
    none-past n [] a le = refl
    none-past n (h ∷ hs) a le =
        let low = behind-low (last_rank slots h.extent) hs a.1 in
        or-none (test h && touches slots at h) (touched hs) (past-none h (omega arith)) (none-past (last_rank slots h.extent) hs a.1 le)

    -- nor does what begins behind them
    pub only-begun : (hs : List RangeExtent) → touched (filter (begins_by slots at.last) hs) ≡ touched hs
    only-begun [] = refl
    only-begun (h ∷ hs) = go (begins_by slots at.last h) refl (only-begun hs)
      where
        go : (u : Bool) → begins_by slots at.last h ≡ u → touched (filter (begins_by slots at.last) hs) ≡ touched hs → touched (cond u (h ∷ filter (begins_by slots at.last) hs) (filter (begins_by slots at.last) hs)) ≡ touched (h ∷ hs)
        go true f ih = ap (λ b. (test h && touches slots at h) || b) ih
        go false f ih = ih ∙ sym (ap (λ b. b || touched hs) (and-none (test h) (touches slots at h) (and-left-none (begins_by slots at.last h) (nat_le at.first (last_rank slots h.extent)) f)))

  module _ (at : ℕ) where
    abbrev begun : List RangeExtent → List RangeExtent
    begun hs = filter (begins_by slots at) hs

    keep-more : (h : RangeExtent) (hs : List RangeExtent) → begins_by slots at h ≡ true → begun (h ∷ hs) ≡ h ∷ begun hs
    keep-more h hs e = ap (λ b. cond b (h ∷ begun hs) (begun hs)) e

    keep-none : (h : RangeExtent) (hs : List RangeExtent) → begins_by slots at h ≡ false → begun (h ∷ hs) ≡ begun hs
    keep-none h hs e = ap (λ b. cond b (h ∷ begun hs) (begun hs)) e

    late : (n : ℕ) (h : RangeExtent) → at < n → n ≤ first_rank slots h.extent → begins_by slots at h ≡ false
    late n h lt le = le-false (first_rank slots h.extent) at (omega arith)

    none-begun : (n : ℕ) (hs : List RangeExtent) → AreApart slots n hs → at < n → begun hs ≡ []
    none-begun n [] a lt = refl
    none-begun n (h ∷ hs) a lt =
        let b = a.0 in let c = extent-le h.extent in
        keep-none h hs (late n h lt a.0) ∙ none-begun (last_rank slots h.extent) hs a.1 (omega arith)

    all-begun : (n : ℕ) (hs : List RangeExtent) → AreApart slots n hs → behind_all n hs ≤ at → begun hs ≡ hs
    all-begun n [] a le = refl
    all-begun n (h ∷ hs) a le =
        let low = behind-low (last_rank slots h.extent) hs a.1 in let c = extent-le h.extent in
        keep-more h hs (le-leb (first_rank slots h.extent) at (omega arith)) ∙ ap (λ xs. h ∷ xs) (all-begun (last_rank slots h.extent) hs a.1 le)

    lead-begun : (n : ℕ) (hs : List RangeExtent) → AreApart slots n hs → take (leading (begins_by slots at) hs) hs ≡ begun hs
    lead-begun n [] a = refl
    lead-begun n (h ∷ hs) a = go (begins_by slots at h) refl (lead-begun (last_rank slots h.extent) hs a.1)
      where
        go : (u : Bool) → begins_by slots at h ≡ u → take (leading (begins_by slots at) hs) hs ≡ begun hs → take (leading (begins_by slots at) (h ∷ hs)) (h ∷ hs) ≡ begun (h ∷ hs)
        go true e ih = ap (λ b. take (cond b (suc (leading (begins_by slots at) hs)) 0) (h ∷ hs)) e ∙ ap (λ xs. h ∷ xs) ih ∙ sym (keep-more h hs e)
        go false e ih =
            let low = leb-false (first_rank slots h.extent) at e in let c = extent-le h.extent in
            ap (λ b. take (cond b (suc (leading (begins_by slots at) hs)) 0) (h ∷ hs)) e ∙ sym (keep-none h hs e ∙ none-begun (last_rank slots h.extent) hs a.1 (omega arith))

    abbrev pub lead : List (List RangeExtent) → ℕ
    lead ps = leading (part_begins slots at) ps

    abbrev pub gap_at : List (List RangeExtent) → ℕ → ListPosition
    gap_at ps k = record { part = k; count = leading (begins_by slots at) (part_in ps k) }

    eqb-suc : (j k : ℕ) → nat_eq (suc j) (suc k) ≡ nat_eq j k
    eqb-suc j k = go (cases_eq j k)
      where
        go : (j ≡ k) ⊎ (j ≡ k → ⊥) → nat_eq (suc j) (suc k) ≡ nat_eq j k
        go (inl e) = eq-eqb (suc j) (suc k) (ap suc e) ∙ sym (eq-eqb j k e)
        go (inr n) = ne_eqb (suc j) (suc k) (λ h. n (omega (arith, h))) ∙ sym (ne_eqb j k n)

    shift : (q : List RangeExtent) (ps : List (List RangeExtent)) (k c j : ℕ) → before (q ∷ ps) (record { part = suc k; count = c }) (suc j) ≡ q ++ before ps (record { part = k; count = c }) j
    shift q ps k c zero = ap (λ b. [] ++ cond b (take c q) q) (ne_eqb 0 (suc k) (λ e. omega arith)) ∙ sym (append-nil q)
    shift q ps k c (suc j) = ap (λ b. before (q ∷ ps) (record { part = suc k; count = c }) (suc j) ++ cond b (take c (part_in ps j)) (part_in ps j)) (eqb-suc j k) ∙ ap (λ xs. xs ++ part_before ps (record { part = k; count = c }) j) (shift q ps k c j) ∙ append_assoc q (before ps (record { part = k; count = c }) j) (part_before ps (record { part = k; count = c }) j)

    head-none : (r : List RangeExtent) (rs : List (List RangeExtent)) (n : ℕ) → is_none r ≡ false → part_begins slots at r ≡ false → AreApart slots n (r ++ flat rs) → begun (r ++ flat rs) ≡ []
    head-none [] rs n e f a = absurd (cc)
    head-none (h ∷ hs) rs n e f a =
        let low = leb-false (first_rank slots h.extent) at f in
        none-begun (first_rank slots h.extent) (h ∷ (hs ++ flat rs)) (from-first n h (hs ++ flat rs) a) low

    head-begun : (r : List RangeExtent) (rs : List (List RangeExtent)) (n : ℕ) → part_begins slots at r ≡ true → AreApart slots n (r ++ flat rs) → n ≤ at
    head-begun [] rs n f a = absurd (cc)
    head-begun (h ∷ hs) rs n f a = let low = leb-true (first_rank slots h.extent) at f in let b = a.0 in omega arith

    parts-left : (a b : Bool) → (a || b) ≡ false → a ≡ false
    parts-left true b e = e
    parts-left false b e = refl

    parts-right : (a b : Bool) → (a || b) ≡ false → b ≡ false
    parts-right true b e = absurd (cc)
    parts-right false b e = e

    -- the first part begins by the point
    walk : (n : ℕ) (q : List RangeExtent) (rest : List (List RangeExtent)) → AreApart slots n (q ++ flat rest) → list_any is_none rest ≡ false → part_begins slots at q ≡ true
        → before (q ∷ rest) (gap_at (q ∷ rest) (lead rest)) (suc (lead rest)) ≡ begun (q ++ flat rest)
    walk n q [] a full begins = lead-begun n q (apart-left n q [] a) ∙ sym (ap begun (append-nil q))
    walk n q (r ∷ rs) a full begins = go (part_begins slots at r) refl (λ b f e. walk (behind_all n q) r rs b f e)
      where
        left : AreApart slots n q
        left = apart-left n q (r ++ flat rs) a

        right : AreApart slots (behind_all n q) (r ++ flat rs)
        right = apart-right n q (r ++ flat rs) a

        go : (u : Bool) → part_begins slots at r ≡ u
            → (AreApart slots (behind_all n q) (r ++ flat rs) → list_any is_none rs ≡ false → part_begins slots at r ≡ true → before (r ∷ rs) (gap_at (r ∷ rs) (lead rs)) (suc (lead rs)) ≡ begun (r ++ flat rs))
            → before (q ∷ r ∷ rs) (gap_at (q ∷ r ∷ rs) (lead (r ∷ rs))) (suc (lead (r ∷ rs))) ≡ begun (q ++ (r ++ flat rs))
        go true e ih =
            let k : lead (r ∷ rs) ≡ suc (lead rs) = ap (λ b. cond b (suc (lead rs)) 0) e in
            let later = ih right (parts-right (is_none r) (list_any is_none rs) full) e in
            let early : begun q ≡ q = all-begun n q left (head-begun r rs (behind_all n q) e right) in
            ap (λ j. before (q ∷ r ∷ rs) (gap_at (q ∷ r ∷ rs) j) (suc j)) k
            ∙ shift q (r ∷ rs) (lead rs) (leading (begins_by slots at) (part_in (r ∷ rs) (lead rs))) (suc (lead rs))
            ∙ ap (λ xs. q ++ xs) later ∙ ap (λ xs. xs ++ begun (r ++ flat rs)) (sym early) ∙ sym (filter-append (begins_by slots at) q (r ++ flat rs))
        go false e ih =
            let k : lead (r ∷ rs) ≡ 0 = ap (λ b. cond b (suc (lead rs)) 0) e in
            let none = head-none r rs (behind_all n q) (parts-left (is_none r) (list_any is_none rs) full) e right in
            ap (λ j. before (q ∷ r ∷ rs) (gap_at (q ∷ r ∷ rs) j) (suc j)) k
            ∙ lead-begun n q left ∙ sym (append-nil (begun q)) ∙ ap (λ xs. begun q ++ xs) (sym none) ∙ sym (filter-append (begins_by slots at) q (r ++ flat rs))

    lead-late : (q : List RangeExtent) → is_none q ≡ false → part_begins slots at q ≡ false → leading (begins_by slots at) q ≡ 0
    lead-late [] e f = refl
    lead-late (h ∷ hs) e f = ap (λ b. cond b (suc (leading (begins_by slots at) hs)) 0) f

    pub behind-is : (n : ℕ) (ps : List (List RangeExtent)) → AreApart slots n (flat ps) → (1 < length ps → list_any is_none ps ≡ false) → before ps (gap_at ps (lead ps - 1)) (suc (lead ps - 1)) ≡ begun (flat ps)
    behind-is n [] a full = refl
    behind-is n (q ∷ []) a full = go (part_begins slots at q) refl
      where
        go : (u : Bool) → part_begins slots at q ≡ u → before (q ∷ []) (gap_at (q ∷ []) (lead (q ∷ []) - 1)) (suc (lead (q ∷ []) - 1)) ≡ begun (q ++ [])
        go true e = ap (λ b. before (q ∷ []) (gap_at (q ∷ []) (cond b 1 0 - 1)) (suc (cond b 1 0 - 1))) e ∙ lead-begun n q (apart-left n q [] a) ∙ sym (ap begun (append-nil q))
        go false e = ap (λ b. before (q ∷ []) (gap_at (q ∷ []) (cond b 1 0 - 1)) (suc (cond b 1 0 - 1))) e ∙ lead-begun n q (apart-left n q [] a) ∙ sym (ap begun (append-nil q))
    behind-is n (q ∷ r ∷ rs) a full = go (part_begins slots at q) refl
      where
        filled : list_any is_none (q ∷ r ∷ rs) ≡ false
        filled = full (omega arith)

        go : (u : Bool) → part_begins slots at q ≡ u → before (q ∷ r ∷ rs) (gap_at (q ∷ r ∷ rs) (lead (q ∷ r ∷ rs) - 1)) (suc (lead (q ∷ r ∷ rs) - 1)) ≡ begun (q ++ flat (r ∷ rs))
        go true e =
            let k : lead (q ∷ r ∷ rs) - 1 ≡ lead (r ∷ rs) = let h : lead (q ∷ r ∷ rs) ≡ suc (lead (r ∷ rs)) = ap (λ b. cond b (suc (lead (r ∷ rs))) 0) e in omega arith in
            ap (λ j. before (q ∷ r ∷ rs) (gap_at (q ∷ r ∷ rs) j) (suc j)) k ∙ walk n q (r ∷ rs) a (parts-right (is_none q) (list_any is_none (r ∷ rs)) filled) e
        go false e =
            let k : lead (q ∷ r ∷ rs) - 1 ≡ 0 = let h : lead (q ∷ r ∷ rs) ≡ 0 = ap (λ b. cond b (suc (lead (r ∷ rs))) 0) e in omega arith in
            let some = parts-left (is_none q) (list_any is_none (r ∷ rs)) filled in
            ap (λ j. before (q ∷ r ∷ rs) (gap_at (q ∷ r ∷ rs) j) (suc j)) k
            ∙ ap (λ c. take c q) (lead-late q some e) ∙ sym (head-none q (r ∷ rs) n some e a)

    late-parts : (n : ℕ) (ps : List (List RangeExtent)) (i : ℕ) (d : List RangeExtent) → AreApart slots n (flat ps) → at < n → i < length ps → part_begins slots at (get_or ps i d) ≡ false
    late-parts n [] i d a lt h = absurd (omega arith)
    late-parts n ([] ∷ ps) zero d a lt h = refl
    late-parts n ((x ∷ xs) ∷ ps) zero d a lt h = late n x lt a.0
    late-parts n (p ∷ ps) (suc i) d a lt h = let low = behind-low n p (apart-left n p (flat ps) a) in late-parts (behind_all n p) ps i d (apart-right n p (flat ps) a) (omega arith) (omega arith)

    parted-full : (n : ℕ) (ps : List (List RangeExtent)) → AreApart slots n (flat ps) → list_any is_none ps ≡ false → IsPartitionedBy (part_begins slots at) ps
    parted-full n [] a full i j d w h e = absurd (omega arith)
    parted-full n (p ∷ ps) a full zero zero d w h e = e
    parted-full n ([] ∷ ps) a full zero (suc j) d w h e = absurd (cc)
    parted-full n ((x ∷ xs) ∷ ps) a full zero (suc j) d w h e = go (begins_by slots at x) refl
      where
        go : (u : Bool) → begins_by slots at x ≡ u → begins_by slots at x ≡ true
        go true f = f
        go false f = absurd (
            let low = leb-false (first_rank slots x.extent) at f in
            let up = behind-low n (x ∷ xs) (apart-left n (x ∷ xs) (flat ps) a) in
            let up-x = behind-low (last_rank slots x.extent) xs (apart-left (last_rank slots x.extent) xs (flat ps) a.1) in
            let c = extent-le x.extent in
            let none = late-parts (behind_all n (x ∷ xs)) ps j d (apart-right n (x ∷ xs) (flat ps) a) (omega arith) (omega arith) in cc)
    parted-full n (p ∷ ps) a full (suc i) zero d w h e = absurd (omega arith)
    parted-full n (p ∷ ps) a full (suc i) (suc j) d w h e = parted-full (behind_all n p) ps (apart-right n p (flat ps) a) (parts-right (is_none p) (list_any is_none ps) full) i j d (omega arith) (omega arith) e

    pub parts-parted : (n : ℕ) (ps : List (List RangeExtent)) → AreApart slots n (flat ps) → (1 < length ps → list_any is_none ps ≡ false) → IsPartitionedBy (part_begins slots at) ps
    parts-parted n [] a full i j d w h e = absurd (omega arith)
    parts-parted n (p ∷ []) a full zero zero d w h e = e
    parts-parted n (p ∷ []) a full zero (suc j) d w h e = absurd (omega arith)
    parts-parted n (p ∷ []) a full (suc i) j d w h e = absurd (omega arith)
    parts-parted n (p ∷ q ∷ qs) a full i j d w h e = parted-full n (p ∷ q ∷ qs) a (full (omega arith)) i j d w h e

    late-held : (n : ℕ) (hs : List RangeExtent) (i : ℕ) (d : RangeExtent) → AreApart slots n hs → at < n → i < length hs → begins_by slots at (get_or hs i d) ≡ false
    late-held n [] i d a lt h = absurd (omega arith)
    late-held n (x ∷ xs) zero d a lt h = late n x lt a.0
    late-held n (x ∷ xs) (suc i) d a lt h = let c = extent-le x.extent in let b = a.0 in late-held (last_rank slots x.extent) xs i d a.1 (omega arith) (omega arith)

    pub held-parted : (n : ℕ) (hs : List RangeExtent) → AreApart slots n hs → IsPartitionedBy (begins_by slots at) hs
    held-parted n [] a i j d w h e = absurd (omega arith)
    held-parted n (x ∷ xs) a zero zero d w h e = e
    held-parted n (x ∷ xs) a zero (suc j) d w h e = go (begins_by slots at x) refl
      where
        go : (u : Bool) → begins_by slots at x ≡ u → begins_by slots at x ≡ true
        go true f = f
        go false f = absurd (
            let low = leb-false (first_rank slots x.extent) at f in
            let c = extent-le x.extent in
            let none = late-held (last_rank slots x.extent) xs j d a.1 (omega arith) (omega arith) in cc)
    held-parted n (x ∷ xs) a (suc i) zero d w h e = absurd (omega arith)
    held-parted n (x ∷ xs) a (suc i) (suc j) d w h e = held-parted (last_rank slots x.extent) xs a.1 i j d (omega arith) (omega arith) e

  -- the stretches of each part lie apart
  pub some-apart : (n : ℕ) (ps : List (List RangeExtent)) (k : ℕ) → AreApart slots n (flat ps) → (m : ℕ) × AreApart slots m (part_in ps k)
  some-apart n [] k a = (n, tt)
  some-apart n (p ∷ ps) zero a = (n, apart-left n p (flat ps) a)
  some-apart n (p ∷ ps) (suc k) a = some-apart (behind_all n p) ps k (apart-right n p (flat ps) a)
