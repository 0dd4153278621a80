-- Writings of a lane in a block, whose numbers rise, by the ids of the instructions that they begin with.
use Rattle.std.proofs.Common.{◌≡◌, ◌∙◌, ◌+◌, ◌*◌, ◌<◌, ◌≤◌, ℕ, zero, suc, Bool, true, false, cond, ltb, List, [], ◌∷◌, Some, refl, sym, ap, subst, arith, eqb-true, eq-eqb, ne_eqb}
use Rattle.std.specs.Prelude.{nat_eq, slice_get}
use Rattle.std.proofs.lemmas.Bool.{ltb-true, le-leb}
use Rattle.slot_index.specs.Order.{number_of}
use Rattle.meaning.specs.Live.{Among as Member, here as first, there as later}
use Rattle.instr_effects.proofs.Members.{member-elim, member-none}
use Rattle.mir_func.specs.declared.func.Instr.{Instr}
use Rattle.mir_meaning.specs.Paths.{has}
use Rattle.live_lanes.specs.Held.{begins_at}
use Rattle.live_lanes.specs.Ordered.{AreRising, ids_of}
use Rattle.live_lanes.specs.Table.{Begun, Numbers, exit_rank, piece_at, rises_from}
use Rattle.live_lanes.specs.Touching.{begun_by}
use Rattle.live_lanes.proofs.Cells.{both-left, both-right}
use Rattle.live_lanes.proofs.Held.{le-false, piece-more, piece-none}
use Rattle.coalescer.proofs.Found.{found-of}

-- an id of a block is that of one of its instructions
pub has-instr : (id : ℕ) (is : List Instr) → has id (ids_of is) ≡ true → (q : ℕ) × (i : Instr) × (slice_get is q ≡ Some i) × (i.id ≡ id)
has-instr id [] h = absurd (cc)
has-instr id (z ∷ is) h = go (nat_eq z.id id) refl h (has-instr id is)
  where
    go : (u : Bool) → nat_eq z.id id ≡ u → cond u true (has id (ids_of is)) ≡ true → (has id (ids_of is) ≡ true → (q : ℕ) × (i : Instr) × (slice_get is q ≡ Some i) × (i.id ≡ id)) → (q : ℕ) × (i : Instr) × (slice_get (z ∷ is) q ≡ Some i) × (i.id ≡ id)
    go true e g ih = (zero, z, refl, eqb-true z.id id e)
    go false e g ih = let y = ih g in (suc y.0, y.1, y.2, y.3)

module _ (slots : Numbers) where
  -- instructions of a block with the same number are one

  id-above : (n : ℕ) (ids : List ℕ) (a : ℕ) → AreRising slots n ids → has a ids ≡ true → n < number_of slots a
  id-above n [] a r h = absurd (cc)
  id-above n (c ∷ ids) a r h = go (nat_eq c a) refl h (id-above (number_of slots c) ids a r.2)
    where
      go : (u : Bool) → nat_eq c a ≡ u → cond u true (has a ids) ≡ true → (has a ids ≡ true → number_of slots c < number_of slots a) → n < number_of slots a
      go true e g ih = subst (λ z. n < number_of slots z) (eqb-true c a e) r.0
      go false e g ih = let low = r.0 in let far = ih g in omega (arith, low, far)

  pub same-id : (n : ℕ) (ids : List ℕ) (a b : ℕ) → AreRising slots n ids → has a ids ≡ true → has b ids ≡ true → number_of slots a ≡ number_of slots b → a ≡ b
  same-id n [] a b r h k e = absurd (cc)
  same-id n (c ∷ ids) a b r h k e = go (nat_eq c a) (nat_eq c b) refl refl h k (λ f g. same-id (number_of slots c) ids a b r.2 f g e)
    where
      go : (u w : Bool) → nat_eq c a ≡ u → nat_eq c b ≡ w → cond u true (has a ids) ≡ true → cond w true (has b ids) ≡ true → (has a ids ≡ true → has b ids ≡ true → a ≡ b) → a ≡ b
      go true true p q f g ih = sym (eqb-true c a p) ∙ eqb-true c b q
      go true false p q f g ih = let same = ap (number_of slots) (eqb-true c a p) in let far = id-above (number_of slots c) ids b r.2 g in absurd (omega (arith, same, far, e))
      go false true p q f g ih = let same = ap (number_of slots) (eqb-true c b q) in let far = id-above (number_of slots c) ids a r.2 f in absurd (omega (arith, same, far, e))
      go false false p q f g ih = ih f g

  -- the number of a writing is above those before it

  near : (n : ℕ) (z : Begun) (ss : List Begun) → rises_from slots n (z ∷ ss) ≡ true → n < number_of slots z.start
  near n z ss r = ltb-true n (number_of slots z.start) (both-left (ltb n (number_of slots z.start)) (rises_from slots (number_of slots z.start) ss) r)

  onward : (n : ℕ) (z : Begun) (ss : List Begun) → rises_from slots n (z ∷ ss) ≡ true → rises_from slots (number_of slots z.start) ss ≡ true
  onward n z ss r = both-right (ltb n (number_of slots z.start)) (rises_from slots (number_of slots z.start) ss) r

  above : (n : ℕ) (ss : List Begun) (s : Begun) → rises_from slots n ss ≡ true → Member s ss → n < number_of slots s.start
  above n [] s r m = absurd (member-none s m)
  above n (z ∷ ss) s r m = member-elim s z ss (λ e. subst (λ (y : Begun). n < number_of slots y.start) (sym e) (near n z ss r)) (λ k. let a = near n z ss r in let b = above (number_of slots z.start) ss s (onward n z ss r) k in omega (arith, a, b)) m

  -- a writing is found by the id of its instruction
  pub found-begun : (n : ℕ) (ss : List Begun) (s : Begun) → rises_from slots n ss ≡ true → Member s ss → begun_by s.start ss ≡ Some s
  found-begun n [] s r m = absurd (member-none s m)
  found-begun n (z ∷ ss) s r m = member-elim s z ss own (λ k. behind k (found-begun (number_of slots z.start) ss s (onward n z ss r) k)) m
    where
      own : s ≡ z → begun_by s.start (z ∷ ss) ≡ Some s
      own e = ap (λ u. cond u (Some z) (begun_by s.start ss)) (eq-eqb z.start s.start (ap (λ (y : Begun). y.start) (sym e))) ∙ ap (λ (y : Begun). Some y) (sym e)

      other : Member s ss → nat_eq z.start s.start ≡ false
      other k = ne_eqb z.start s.start (λ e. let same : number_of slots z.start ≡ number_of slots s.start = ap (number_of slots) e in let far = above (number_of slots z.start) ss s (onward n z ss r) k in omega (arith, same, far))

      behind : Member s ss → begun_by s.start ss ≡ Some s → begun_by s.start (z ∷ ss) ≡ Some s
      behind k ih = ap (λ u. cond u (Some z) (begun_by s.start ss)) (other k) ∙ ih

  pub begun-of : (id : ℕ) (ss : List Begun) (s : Begun) → begun_by id ss ≡ Some s → Member s ss × (s.start ≡ id)
  begun-of id ss s e = let z = found-of (λ (y : Begun). nat_eq y.start id) s ss e in (z.0, eqb-true s.start id z.1)

  -- it begins a piece at the exit of its instruction

  none-begun : (n at : ℕ) (ss : List Begun) → rises_from slots n ss ≡ true → at ≤ n * 2 + 1 → piece_at slots at ss ≡ 0
  none-begun n at [] r h = refl
  none-begun n at (z ∷ ss) r h = let a = near n z ss r in piece-none slots at z ss (le-false (exit_rank slots z.start) at (omega (arith, a, h)))

  pub own-written : (n : ℕ) (ss : List Begun) (s : Begun) → rises_from slots n ss ≡ true → Member s ss → begins_at slots (exit_rank slots s.start) ss (piece_at slots (exit_rank slots s.start) ss) ≡ true
  own-written n [] s r m = absurd (member-none s m)
  own-written n (z ∷ ss) s r m = member-elim s z ss own (λ k. behind k (own-written (number_of slots z.start) ss s (onward n z ss r) k)) m
    where
      there : begins_at slots (exit_rank slots z.start) (z ∷ ss) (piece_at slots (exit_rank slots z.start) (z ∷ ss)) ≡ true
      there =
          ap (begins_at slots (exit_rank slots z.start) (z ∷ ss)) (piece-more slots (exit_rank slots z.start) z ss (le-leb (exit_rank slots z.start) (exit_rank slots z.start) (omega arith)) ∙ ap suc (none-begun (number_of slots z.start) (exit_rank slots z.start) ss (onward n z ss r) (omega arith)))
          ∙ eq-eqb (exit_rank slots z.start) (exit_rank slots z.start) refl

      own : s ≡ z → begins_at slots (exit_rank slots s.start) (z ∷ ss) (piece_at slots (exit_rank slots s.start) (z ∷ ss)) ≡ true
      own e = subst (λ (y : Begun). begins_at slots (exit_rank slots y.start) (z ∷ ss) (piece_at slots (exit_rank slots y.start) (z ∷ ss)) ≡ true) (sym e) there

      shift : (at k : ℕ) → begins_at slots at ss k ≡ true → begins_at slots at (z ∷ ss) (suc k) ≡ true
      shift at zero e = absurd (cc)
      shift at (suc k) e = e

      behind : Member s ss → begins_at slots (exit_rank slots s.start) ss (piece_at slots (exit_rank slots s.start) ss) ≡ true → begins_at slots (exit_rank slots s.start) (z ∷ ss) (piece_at slots (exit_rank slots s.start) (z ∷ ss)) ≡ true
      behind k ih =
          let far = above (number_of slots z.start) ss s (onward n z ss r) k in
          ap (begins_at slots (exit_rank slots s.start) (z ∷ ss)) (piece-more slots (exit_rank slots s.start) z ss (le-leb (exit_rank slots z.start) (exit_rank slots s.start) (omega (arith, far))))
          ∙ shift (exit_rank slots s.start) (piece_at slots (exit_rank slots s.start) ss) ih

  -- the piece that begins at an exit begins with a writing there
  pub written-begun : (at : ℕ) (ss : List Begun) (k : ℕ) → begins_at slots at ss k ≡ true → (s : Begun) × Member s ss × (exit_rank slots s.start ≡ at)
  written-begun at ss zero e = absurd (cc)
  written-begun at [] (suc k) e = absurd (cc)
  written-begun at (z ∷ ss) (suc zero) e = (z, first, eqb-true (exit_rank slots z.start) at e)
  written-begun at (z ∷ ss) (suc (suc k)) e = let y = written-begun at ss (suc k) e in (y.0, later y.1, y.2)
