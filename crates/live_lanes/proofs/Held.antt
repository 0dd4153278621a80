-- What holds of a lane from a point of a block on stays so up to the next piece or the end of its life.
use Rattle.std.proofs.Common.{◌≡◌, ◌<◌, ◌≤◌, ◌⊎◌, ℕ, zero, suc, ◌+◌, ◌*◌, ◌-◌, Bool, true, false, cond, ◌&&◌, leb, ltb, eqb, length, List, [], ◌∷◌, Option, None, Some, inl, inr, refl, sym, ap, ◌∙◌, subst, arith}
use Rattle.std.specs.Prelude.{◌||◌, not, nat_eq, nat_le, slice_get}
use Rattle.std.specs.List.{list_any}
use Rattle.std.proofs.lemmas.Bool.{ltb-true, leb-true, leb-false, le-leb, eqb-true, ne_eqb, eq-eqb}
use Rattle.slot_index.specs.Order.{number_of}
use Rattle.live_lanes.specs.declared.row.PieceEnd.{PieceEnd}
use Rattle.live_lanes.specs.Table.{Numbers, Begun, Seen, entry_rank, exit_rank, end_rank, end_in, is_begun, rises_from, piece_at}
use Rattle.live_lanes.specs.Reach.{is_never, reaches, seen_at}
use Rattle.live_lanes.specs.Held.{writes_at, held_at, hold_rank, next_rank, exits_at, begins_at}
use Rattle.live_lanes.proofs.Cells.{both, both-left, both-right}

abbrev pub greatest : ℕ
greatest = 340282366920938463463374607431768211455

pub or-left : (a b : Bool) → a ≡ true → (a || b) ≡ true
or-left true b e = refl
or-left false b e = absurd (cc)

pub or-right : (a b : Bool) → b ≡ true → (a || b) ≡ true
or-right true b e = refl
or-right false b e = e

pub or-none : (a b : Bool) → a ≡ false → b ≡ false → (a || b) ≡ false
or-none true b e f = absurd (cc)
or-none false b e f = f

pub and-none : (a b : Bool) → b ≡ false → (a && b) ≡ false
and-none true b e = e
and-none false b e = refl

pub le-false : (a b : ℕ) → b < a → leb a b ≡ false
le-false a b h = go (leb a b) refl
  where
    go : (u : Bool) → leb a b ≡ u → leb a b ≡ false
    go true e = let z = leb-true a b e in absurd (omega arith)
    go false e = e

module _ (slots : Numbers) where
  pub number-le : (s : Begun) → hold_rank slots s ≤ exit_rank slots s.start
  number-le s = go s.early
    where
      go : (u : Bool) → cond u (entry_rank slots s.start) (exit_rank slots s.start) ≤ exit_rank slots s.start
      go true = omega arith
      go false = omega arith

  -- behind a rank no instruction writes at it
  pub past : (x : ℕ) (s : Begun) → exit_rank slots s.start < x → writes_at slots x s ≡ false
  past x s h = or-none (nat_eq (exit_rank slots s.start) x) (s.early && nat_eq (entry_rank slots s.start) x) (ne_eqb (exit_rank slots s.start) x (λ e. omega arith)) (and-none s.early (nat_eq (entry_rank slots s.start) x) (ne_eqb (entry_rank slots s.start) x (λ e. omega arith)))

  -- nor before the first point at which it does
  pub ahead : (x : ℕ) (s : Begun) → x < hold_rank slots s → writes_at slots x s ≡ false
  ahead x s h = let low = number-le s in or-none (nat_eq (exit_rank slots s.start) x) (s.early && nat_eq (entry_rank slots s.start) x) (ne_eqb (exit_rank slots s.start) x (λ e. omega arith)) (go s.early h)
    where
      go : (u : Bool) → x < cond u (entry_rank slots s.start) (exit_rank slots s.start) → (u && nat_eq (entry_rank slots s.start) x) ≡ false
      go true l = ne_eqb (entry_rank slots s.start) x (λ e. omega arith)
      go false l = refl

  -- nor by any of the pieces behind that one
  pub above-none : (x m : ℕ) (ss : List Begun) → rises_from slots m ss ≡ true → x ≤ m * 2 + 1 → list_any (writes_at slots x) ss ≡ false
  above-none x m [] r h = refl
  above-none x m (s ∷ ss) r h =
      let more : m < number_of slots s.start = ltb-true m (number_of slots s.start) (both-left (ltb m (number_of slots s.start)) (rises_from slots (number_of slots s.start) ss) r) in
      let first : writes_at slots x s ≡ false = or-none (nat_eq (exit_rank slots s.start) x) (s.early && nat_eq (entry_rank slots s.start) x) (ne_eqb (exit_rank slots s.start) x (λ e. omega arith)) (and-none s.early (nat_eq (entry_rank slots s.start) x) (ne_eqb (entry_rank slots s.start) x (λ e. omega arith))) in
      or-none (writes_at slots x s) (list_any (writes_at slots x) ss) first (above-none x (number_of slots s.start) ss (both-right (ltb m (number_of slots s.start)) (rises_from slots (number_of slots s.start) ss) r) (omega arith))

  module _ (at : ℕ) where
    begun-or-not : (s : Begun) → (is_begun slots at s ≡ true) ⊎ (is_begun slots at s ≡ false)
    begun-or-not s = go (is_begun slots at s) refl
      where
        go : (u : Bool) → is_begun slots at s ≡ u → (is_begun slots at s ≡ true) ⊎ (is_begun slots at s ≡ false)
        go true e = inl e
        go false e = inr e

    pub piece-more : (s : Begun) (ss : List Begun) → is_begun slots at s ≡ true → piece_at slots at (s ∷ ss) ≡ suc (piece_at slots at ss)
    piece-more s ss e = ap (λ b. cond b (suc (piece_at slots at ss)) 0) e

    pub piece-none : (s : Begun) (ss : List Begun) → is_begun slots at s ≡ false → piece_at slots at (s ∷ ss) ≡ 0
    piece-none s ss e = ap (λ b. cond b (suc (piece_at slots at ss)) 0) e

    next-more : (s : Begun) (ss : List Begun) → is_begun slots at s ≡ true → next_rank slots (s ∷ ss) (piece_at slots at (s ∷ ss)) ≡ next_rank slots ss (piece_at slots at ss)
    next-more s ss e = ap (next_rank slots (s ∷ ss)) (piece-more s ss e)

    next-none : (s : Begun) (ss : List Begun) → is_begun slots at s ≡ false → next_rank slots (s ∷ ss) (piece_at slots at (s ∷ ss)) ≡ hold_rank slots s
    next-none s ss e = ap (next_rank slots (s ∷ ss)) (piece-none s ss e)

    -- up to before the next piece the piece is the same
    pub piece-kept : (x : ℕ) (ss : List Begun) → at ≤ x → x < next_rank slots ss (piece_at slots at ss) → piece_at slots x ss ≡ piece_at slots at ss
    piece-kept x [] le lt = refl
    piece-kept x (s ∷ ss) le lt = go (λ h. piece-kept x ss le h) (begun-or-not s)
      where
        go : (x < next_rank slots ss (piece_at slots at ss) → piece_at slots x ss ≡ piece_at slots at ss) → (is_begun slots at s ≡ true) ⊎ (is_begun slots at s ≡ false) → piece_at slots x (s ∷ ss) ≡ piece_at slots at (s ∷ ss)
        go ih (inl e) =
            let low = leb-true (exit_rank slots s.start) at e in
            let same = ih (subst (λ n. x < n) (next-more s ss e) lt) in
            ap (λ b. cond b (suc (piece_at slots x ss)) 0) (le-leb (exit_rank slots s.start) x (omega arith)) ∙ ap suc same ∙ sym (piece-more s ss e)
        go ih (inr e) =
            let low = number-le s in
            let near = subst (λ n. x < n) (next-none s ss e) lt in
            ap (λ b. cond b (suc (piece_at slots x ss)) 0) (le-false (exit_rank slots s.start) x (omega arith)) ∙ sym (piece-none s ss e)

    -- between a point and the next piece nothing is written
    none-between : (x m : ℕ) (ss : List Begun) → rises_from slots m ss ≡ true → at < x → x < next_rank slots ss (piece_at slots at ss) → list_any (writes_at slots x) ss ≡ false
    none-between x m [] r lt near = refl
    none-between x m (s ∷ ss) r lt near = go (λ h k. none-between x (number_of slots s.start) ss h lt k) (begun-or-not s)
      where
        later : rises_from slots (number_of slots s.start) ss ≡ true
        later = both-right (ltb m (number_of slots s.start)) (rises_from slots (number_of slots s.start) ss) r

        go : (rises_from slots (number_of slots s.start) ss ≡ true → x < next_rank slots ss (piece_at slots at ss) → list_any (writes_at slots x) ss ≡ false) → (is_begun slots at s ≡ true) ⊎ (is_begun slots at s ≡ false) → list_any (writes_at slots x) (s ∷ ss) ≡ false
        go ih (inl e) =
            let low = leb-true (exit_rank slots s.start) at e in
            or-none (writes_at slots x s) (list_any (writes_at slots x) ss) (past x s (omega arith)) (ih later (subst (λ n. x < n) (next-more s ss e) near))
        go ih (inr e) =
            let low = number-le s in
            let here = subst (λ n. x < n) (next-none s ss e) near in
            or-none (writes_at slots x s) (list_any (writes_at slots x) ss) (ahead x s here) (above-none x (number_of slots s.start) ss later (omega arith))

    -- where the piece begins at no exit that is the point, nothing is written there
    none-here : (m : ℕ) (ss : List Begun) → rises_from slots m ss ≡ true → at < next_rank slots ss (piece_at slots at ss) → begins_at slots at ss (piece_at slots at ss) ≡ false → list_any (writes_at slots at) ss ≡ false
    none-here m [] r near none = refl
    none-here m (s ∷ ss) r near none = go (λ h k z. none-here (number_of slots s.start) ss h k z) (begun-or-not s)
      where
        later : rises_from slots (number_of slots s.start) ss ≡ true
        later = both-right (ltb m (number_of slots s.start)) (rises_from slots (number_of slots s.start) ss) r

        shift : (k : ℕ) → begins_at slots at (s ∷ ss) (suc k) ≡ false → begins_at slots at ss k ≡ false
        shift zero e = refl
        shift (suc k) e = e

        first : (ts : List Begun) → rises_from slots (number_of slots s.start) ts ≡ true → at ≤ exit_rank slots s.start → piece_at slots at ts ≡ 0
        first [] h le = refl
        first (z ∷ ts) h le =
            let more = ltb-true (number_of slots s.start) (number_of slots z.start) (both-left (ltb (number_of slots s.start) (number_of slots z.start)) (rises_from slots (number_of slots z.start) ts) h) in
            piece-none z ts (le-false (exit_rank slots z.start) at (omega arith))

        at-exit : begins_at slots at (s ∷ ss) (suc (piece_at slots at ss)) ≡ false → (u : Bool) → nat_eq (exit_rank slots s.start) at ≡ u → nat_eq (exit_rank slots s.start) at ≡ false
        at-exit e false f = f
        at-exit e true f =
            let same = eqb-true (exit_rank slots s.start) at f in
            sym (ap (λ k. begins_at slots at (s ∷ ss) (suc k)) (first ss later (omega arith))) ∙ e

        go : (rises_from slots (number_of slots s.start) ss ≡ true → at < next_rank slots ss (piece_at slots at ss) → begins_at slots at ss (piece_at slots at ss) ≡ false → list_any (writes_at slots at) ss ≡ false) → (is_begun slots at s ≡ true) ⊎ (is_begun slots at s ≡ false) → list_any (writes_at slots at) (s ∷ ss) ≡ false
        go ih (inl e) =
            let low = leb-true (exit_rank slots s.start) at e in
            let here = ap (begins_at slots at (s ∷ ss)) (sym (piece-more s ss e)) ∙ none in
            or-none (writes_at slots at s) (list_any (writes_at slots at) ss)
            (or-none (nat_eq (exit_rank slots s.start) at) (s.early && nat_eq (entry_rank slots s.start) at) (at-exit here (nat_eq (exit_rank slots s.start) at) refl) (and-none s.early (nat_eq (entry_rank slots s.start) at) (ne_eqb (entry_rank slots s.start) at (λ q. omega arith))))
            (ih later (subst (λ n. at < n) (next-more s ss e) near) (shift (piece_at slots at ss) here))
        go ih (inr e) =
            let low = number-le s in
            let ahead-of = subst (λ n. at < n) (next-none s ss e) near in
            or-none (writes_at slots at s) (list_any (writes_at slots at) ss) (ahead at s ahead-of) (above-none at (number_of slots s.start) ss later (omega arith))

    -- where it does begin so, it is
    by-exit : (k : ℕ) (ss : List Begun) → begins_at slots at ss k ≡ true → list_any (writes_at slots at) ss ≡ true
    by-exit zero ss e = absurd (cc)
    by-exit (suc k) [] e = absurd (cc)
    by-exit (suc zero) (s ∷ ss) e = or-left (writes_at slots at s) (list_any (writes_at slots at) ss) (or-left (nat_eq (exit_rank slots s.start) at) (s.early && nat_eq (entry_rank slots s.start) at) e)
    by-exit (suc (suc k)) (s ∷ ss) e = or-right (writes_at slots at s) (list_any (writes_at slots at) ss) (by-exit (suc k) ss e)

    -- so it is where the next piece is occupied early
    by-early : (ss : List Begun) → at < greatest → next_rank slots ss (piece_at slots at ss) ≤ at → list_any (writes_at slots at) ss ≡ true
    by-early [] small h = absurd (omega arith)
    by-early (s ∷ ss) small h = go (λ k. by-early ss small k) (begun-or-not s)
      where
        early : (u : Bool) → at < exit_rank slots s.start → cond u (entry_rank slots s.start) (exit_rank slots s.start) ≤ at → (u && nat_eq (entry_rank slots s.start) at) ≡ true
        early true lt le = eq-eqb (entry_rank slots s.start) at (omega arith)
        early false lt le = absurd (omega arith)

        go : (next_rank slots ss (piece_at slots at ss) ≤ at → list_any (writes_at slots at) ss ≡ true) → (is_begun slots at s ≡ true) ⊎ (is_begun slots at s ≡ false) → list_any (writes_at slots at) (s ∷ ss) ≡ true
        go ih (inl e) = or-right (writes_at slots at s) (list_any (writes_at slots at) ss) (ih (subst (λ n. n ≤ at) (next-more s ss e) h))
        go ih (inr e) = or-left (writes_at slots at s) (list_any (writes_at slots at) ss) (or-right (nat_eq (exit_rank slots s.start) at) (s.early && nat_eq (entry_rank slots s.start) at) (early s.early (leb-false (exit_rank slots s.start) at e) (subst (λ n. n ≤ at) (next-none s ss e) h)))

  pub begins-back : (at : ℕ) (ss : List Begun) (index : ℕ) → (index ≡ 0 → ⊥) → exits_at slots at (slice_get ss (index - 1)) ≡ begins_at slots at ss index
  begins-back at ss zero ne = absurd (ne refl)
  begins-back at ss (suc k) ne = let one : suc k - 1 ≡ k = omega arith in ap (λ j. exits_at slots at (slice_get ss j)) one

  reach-on : (e : PieceEnd) (at x : ℕ) → reaches slots e at ≡ true → x ≤ end_rank slots e → reaches slots e x ≡ true
  reach-on e at x r le = both (not (is_never e)) (nat_le x (end_rank slots e)) (both-left (not (is_never e)) (nat_le at (end_rank slots e)) r) (le-leb x (end_rank slots e) le)

  pub reach-off : (e : PieceEnd) (at x : ℕ) → reaches slots e at ≡ false → at ≤ x → reaches slots e x ≡ false
  reach-off e at x r le = go (not (is_never e)) r
    where
      go : (u : Bool) → (u && nat_le at (end_rank slots e)) ≡ false → (u && nat_le x (end_rank slots e)) ≡ false
      go false h = refl
      go true h = let z = leb-false at (end_rank slots e) h in le-false x (end_rank slots e) (omega arith)

  pub reached : (e : PieceEnd) (at : ℕ) → reaches slots e at ≡ true → at ≤ end_rank slots e
  reached e at r = leb-true at (end_rank slots e) (both-right (not (is_never e)) (nat_le at (end_rank slots e)) r)

  module _ (v : Seen) (rises : rises_from slots 0 v.segments ≡ true) (at : ℕ) where
    abbrev n : ℕ
    n = piece_at slots at v.segments

    pub early-held : at < greatest → next_rank slots v.segments n ≤ at → (x : ℕ) → at ≤ x → x < at + 1 → held_at slots v x ≡ true
    early-held small h x le lt =
        let same : at ≡ x = omega arith in
        subst (λ z. held_at slots v z ≡ true) same (or-right (seen_at slots v at) (list_any (writes_at slots at) v.segments) (by-early at v.segments small h))

    pub exit-held : begins_at slots at v.segments n ≡ true → (x : ℕ) → at ≤ x → x < at + 1 → held_at slots v x ≡ true
    exit-held h x le lt =
        let same : at ≡ x = omega arith in
        subst (λ z. held_at slots v z ≡ true) same (or-right (seen_at slots v at) (list_any (writes_at slots at) v.segments) (by-exit at n v.segments h))

    pub live-held : reaches slots (end_in v n) at ≡ true → (x : ℕ) → at ≤ x → x < next_rank slots v.segments n → x ≤ end_rank slots (end_in v n) → held_at slots v x ≡ true
    live-held r x le lt last =
        or-left (seen_at slots v x) (list_any (writes_at slots x) v.segments) (ap (λ k. reaches slots (end_in v k) x) (piece-kept at x v.segments le lt) ∙ reach-on (end_in v n) at x r last)

    pub none-held : at < next_rank slots v.segments n → reaches slots (end_in v n) at ≡ false → begins_at slots at v.segments n ≡ false → (x : ℕ) → at ≤ x → x < next_rank slots v.segments n → held_at slots v x ≡ false
    none-held near r none x le lt =
        or-none (seen_at slots v x) (list_any (writes_at slots x) v.segments) (ap (λ k. reaches slots (end_in v k) x) (piece-kept at x v.segments le lt) ∙ reach-off (end_in v n) at x r le) (go (eqb at x) refl)
      where
        go : (u : Bool) → eqb at x ≡ u → list_any (writes_at slots x) v.segments ≡ false
        go true e = subst (λ z. list_any (writes_at slots z) v.segments ≡ false) (eqb-true at x e) (none-here at 0 v.segments rises near none)
        go false e = none-between at x 0 v.segments rises (omega (arith, unequal e)) lt
          where
            unequal : eqb at x ≡ false → (at ≡ x) → ⊥
            unequal f q = let z : true ≡ false = sym (eq-eqb at x q) ∙ f in absurd (cc)
