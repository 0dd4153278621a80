-- The piece that an instruction begins is the one in which its exit lies.
use Rattle.std.proofs.Common.{◌≡◌, ◌<◌, ◌≤◌, ◌+◌, ◌-◌, ◌*◌, ℕ, zero, suc, Bool, true, false, cond, ◌&&◌, eqb-true, length, List, [], ◌∷◌, Option, None, Some, refl, sym, ap, ◌∙◌, subst, arith, get_or, map}
use Rattle.std.specs.Prelude.{nat_eq, nat_lt, nat_le, slice_get, option_map, find}
use Rattle.std.proofs.lemmas.Bool.{eq-eqb, ltb-true, leb-true, leb-false}
use Rattle.std.proofs.lemmas.Option.{slice_get-get_or, slice_get-map}
use Rattle.slot_index.specs.Order.{number_of}
use Rattle.live_lanes.specs.declared.row.DefPiece.{DefPiece}
use Rattle.live_lanes.specs.Table.{Begun, Numbers, begun, exit_rank, is_begun, leading, piece_at, rises_from}
use Rattle.live_lanes.specs.Touching.{begun_by}
use Rattle.live_lanes.proofs.Cells.{both-left, both-right}

abbrev pub here : ℕ → Option Begun → Option Begun
here id None = None
here id (Some s) = cond (nat_eq s.start id) (Some s) None

-- the piece of that place among those that begin with writings, from 1 on, if the instruction begins it
abbrev pub begun_there : ℕ → List Begun → ℕ → Option Begun
begun_there id ss zero = None
begun_there id ss (suc k) = here id (slice_get ss k)

module _ (slots : Numbers) (id : ℕ) where
  low : (n : ℕ) (s : Begun) (ss : List Begun) → rises_from slots n (s ∷ ss) ≡ true → n < number_of slots s.start
  low n s ss r = ltb-true n (number_of slots s.start) (both-left (nat_lt n (number_of slots s.start)) (rises_from slots (number_of slots s.start) ss) r)

  rest : (n : ℕ) (s : Begun) (ss : List Begun) → rises_from slots n (s ∷ ss) ≡ true → rises_from slots (number_of slots s.start) ss ≡ true
  rest n s ss r = both-right (nat_lt n (number_of slots s.start)) (rises_from slots (number_of slots s.start) ss) r

  none-found : (n : ℕ) (ss : List Begun) → rises_from slots n ss ≡ true → number_of slots id ≤ n → begun_by id ss ≡ None
  none-found n [] r h = refl
  none-found n (s ∷ ss) r h = go (nat_eq s.start id) refl (none-found (number_of slots s.start) ss (rest n s ss r) (let z = low n s ss r in omega arith))
    where
      go : (t : Bool) → nat_eq s.start id ≡ t → begun_by id ss ≡ None → cond t (Some s) (begun_by id ss) ≡ None
      go true e ih = absurd (let z = low n s ss r in let same : number_of slots s.start ≡ number_of slots id = ap (number_of slots) (eqb-true s.start id e) in omega (arith, z, same, h))
      go false e ih = ih

  none-begun : (n : ℕ) (ss : List Begun) → rises_from slots n ss ≡ true → number_of slots id ≤ n → leading (is_begun slots (exit_rank slots id)) ss ≡ 0
  none-begun n [] r h = refl
  none-begun n (s ∷ ss) r h = go (is_begun slots (exit_rank slots id) s) refl
    where
      go : (t : Bool) → is_begun slots (exit_rank slots id) s ≡ t → cond t (suc (leading (is_begun slots (exit_rank slots id)) ss)) 0 ≡ 0
      go true e = absurd (let z = low n s ss r in let w = leb-true (exit_rank slots s.start) (exit_rank slots id) e in omega (arith, z, w, h))
      go false e = refl

  begun-found : (n : ℕ) (ss : List Begun) → rises_from slots n ss ≡ true → begun_there id ss (leading (is_begun slots (exit_rank slots id)) ss) ≡ begun_by id ss
  begun-found n [] r = refl
  begun-found n (s ∷ ss) r = go (nat_eq s.start id) refl (is_begun slots (exit_rank slots id) s) refl (leading (is_begun slots (exit_rank slots id)) ss) refl (begun-found (number_of slots s.start) ss (rest n s ss r))
    where
      go : (t : Bool) → nat_eq s.start id ≡ t → (u : Bool) → is_begun slots (exit_rank slots id) s ≡ u → (k : ℕ) → leading (is_begun slots (exit_rank slots id)) ss ≡ k → begun_there id ss (leading (is_begun slots (exit_rank slots id)) ss) ≡ begun_by id ss
          → begun_there id (s ∷ ss) (cond u (suc (leading (is_begun slots (exit_rank slots id)) ss)) 0) ≡ cond t (Some s) (begun_by id ss)
      go true e true f k g ih =
          let same : number_of slots id ≡ number_of slots s.start = ap (number_of slots) (sym (eqb-true s.start id e)) in
          let zero-more = none-begun (number_of slots s.start) ss (rest n s ss r) (omega arith) in
          ap (λ m. begun_there id (s ∷ ss) (suc m)) zero-more ∙ ap (λ b. cond b (Some s) None) e
      go true e false f k g ih =
          let same : number_of slots id ≡ number_of slots s.start = ap (number_of slots) (sym (eqb-true s.start id e)) in
          let w = leb-false (exit_rank slots s.start) (exit_rank slots id) f in
          absurd (omega (arith, same, w))
      go false e true f zero g ih = ap (λ m. begun_there id (s ∷ ss) (suc m)) g ∙ ap (λ b. cond b (Some s) None) e ∙ sym (ap (begun_there id ss) g) ∙ ih
      go false e true f (suc k) g ih = ap (λ m. begun_there id (s ∷ ss) (suc m)) g ∙ sym (ap (begun_there id ss) g) ∙ ih
      go false e false f k g ih =
          let w = leb-false (exit_rank slots s.start) (exit_rank slots id) f in
          sym (none-found (number_of slots s.start) ss (rest n s ss r) (omega arith))

  -- how the code looks at a cell's pieces
  pub starts-none : (ss : List Begun) (index : ℕ) → index ≡ 0 → index ≡ piece_at slots (exit_rank slots id) ss → rises_from slots 0 ss ≡ true → None ≡ begun_by id ss
  starts-none ss index none e r = ap (begun_there id ss) (sym none ∙ e) ∙ begun-found 0 ss r

  starts-at : (ss : List Begun) (k : ℕ) (s : Begun) → slice_get ss k ≡ Some s → suc k ≡ piece_at slots (exit_rank slots id) ss → rises_from slots 0 ss ≡ true → cond (nat_eq s.start id) (Some s) None ≡ begun_by id ss
  starts-at ss k s there e r = sym (ap (here id) there) ∙ ap (begun_there id ss) e ∙ begun-found 0 ss r

  starts-it : (items : List DefPiece) (index : ℕ) (s : DefPiece) → (index ≡ 0 → ⊥) → index ≤ length items → s ≡ get_or items (index - 1) s → index ≡ piece_at slots (exit_rank slots id) (map begun items) → rises_from slots 0 (map begun items) ≡ true → cond (nat_eq s.start id) (Some (begun s)) None ≡ begun_by id (map begun items)
  starts-it items index s more within own e r =
      let there : slice_get (map begun items) (index - 1) ≡ Some (begun s) = slice_get-map begun items (index - 1) ∙ ap (option_map begun) (slice_get-get_or items (index - 1) s (omega (arith, more)) ∙ ap Some (sym own)) in
      let up : suc (index - 1) ≡ index = omega (arith, more) in
      starts-at (map begun items) (index - 1) (begun s) there (up ∙ e) r

  pub starts-other : (items : List DefPiece) (index : ℕ) (s : DefPiece) → (index ≡ 0 → ⊥) → index ≤ length items → s ≡ get_or items (index - 1) s → index ≡ piece_at slots (exit_rank slots id) (map begun items) → (s.start ≡ id → ⊥) → rises_from slots 0 (map begun items) ≡ true → None ≡ begun_by id (map begun items)
  starts-other items index s more within own e other r = go (nat_eq s.start id) refl (starts-it items index s more within own e r)
    where
      go : (t : Bool) → nat_eq s.start id ≡ t → cond t (Some (begun s)) None ≡ begun_by id (map begun items) → None ≡ begun_by id (map begun items)
      go true f h = absurd (other (eqb-true s.start id f))
      go false f h = h

  pub starts-own : (items : List DefPiece) (index : ℕ) (s : DefPiece) → (index ≡ 0 → ⊥) → index ≤ length items → s ≡ get_or items (index - 1) s → index ≡ piece_at slots (exit_rank slots id) (map begun items) → s.start ≡ id → rises_from slots 0 (map begun items) ≡ true → Some (begun s) ≡ begun_by id (map begun items)
  starts-own items index s more within own e same r = ap (λ b. cond b (Some (begun s)) None) (sym (eq-eqb s.start id same)) ∙ starts-it items index s more within own e r
