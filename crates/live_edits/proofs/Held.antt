-- Whether the causes of pieces hold as before, as the code finds it.
use Rattle.std.proofs.Common.{◌≡◌, ◌⊎◌, ℕ, Bool, true, false, cond, ◌||◌, length, List, [], ◌∷◌, refl, sym, ap, ◌∙◌, inl, inr, eqb-true, eq-eqb}
use Rattle.std.specs.Prelude.{nat_eq}
use Rattle.std.specs.List.{list_any}
use Rattle.std.specs.Ordering.{nat_cmp, is_eq}
use Rattle.std.specs.BTreeMap.{is_at}
use Rattle.mir_meaning.specs.Paths.{Among, here, there, has}
use Rattle.slot_index.proofs.Ordered.{cmp_equal}
use Rattle.live_lanes.specs.declared.compute.flow.BlockFlow.{BlockFlow}
use Rattle.live_lanes.specs.declared.row.Cause.TheVariants as reasons
use Rattle.live_lanes.specs.declared.row.LaneRange.{LaneRange}
use Rattle.live_lanes.specs.Ways.{terminators}
use Rattle.live_lanes.specs.Table.{Numbers, Seen, exit_rank, piece_at}
use Rattle.live_lanes.specs.Entered.{causes}
use Rattle.live_lanes.proofs.Basics.{none-among}
use Rattle.live_lanes.proofs.Numbered.{among-cases}
use Rattle.edit_laws.specs.Reasons.{Touched}
use Rattle.edit_laws.specs.Rechecked.{IsHeld, held_exit, held_end}
use Rattle.edit_laws.proofs.Fallen.{no-other}
use Rattle.live_edits.specs.Updated.{AreTold, LastsToExit, LeadsOut}

-- a number of which a test holds

any-found : (p : ℕ → Bool) (xs : List ℕ) → list_any p xs ≡ true → (x : ℕ) × Among x xs × (p x ≡ true)
any-found p [] e = absurd (cc)
any-found p (x ∷ xs) e = go (p x) refl e (any-found p xs)
  where
    go : (t : Bool) → p x ≡ t → t || list_any p xs ≡ true → (list_any p xs ≡ true → (y : ℕ) × Among y xs × (p y ≡ true)) → (y : ℕ) × Among y (x ∷ xs) × (p y ≡ true)
    go true f g ih = (x, here, f)
    go false f g ih = let z = ih g in (z.0, there z.1, z.2)

any-there : (p : ℕ → Bool) (xs : List ℕ) (x : ℕ) → Among x xs → p x ≡ true → list_any p xs ≡ true
any-there p [] x a e = absurd (none-among x a)
any-there p (y ∷ xs) x a e = go (p y) refl (among-cases x y xs a) (λ b. any-there p xs x b e)
  where
    go : (t : Bool) → p y ≡ t → (x ≡ y) ⊎ Among x xs → (Among x xs → list_any p xs ≡ true) → t || list_any p xs ≡ true
    go true f b ih = refl
    go false f (inl g) ih = absurd (let k : false ≡ true = sym f ∙ ap p (sym g) ∙ e in cc)
    go false f (inr b) ih = ih b

-- ids that a set has

or-true : (t : Bool) → t || true ≡ true
or-true true = refl
or-true false = refl

keys-have : (id : ℕ) (keys : List ℕ) → has id keys ≡ true → list_any (is_at (nat_cmp id)) keys ≡ true
keys-have id [] h = absurd (cc)
keys-have id (k ∷ ks) h = go (nat_eq k id) refl h (keys-have id ks)
  where
    go : (t : Bool) → nat_eq k id ≡ t → cond t true (has id ks) ≡ true → (has id ks ≡ true → list_any (is_at (nat_cmp id)) ks ≡ true) → is_at (nat_cmp id) k || list_any (is_at (nat_cmp id)) ks ≡ true
    go true e g ih = ap (λ (m : ℕ). is_eq (nat_cmp id m) || list_any (is_at (nat_cmp id)) ks) (eqb-true k id e) ∙ ap (λ o. is_eq o || list_any (is_at (nat_cmp id)) ks) (cmp_equal id)
    go false e g ih = ap (λ t. is_at (nat_cmp id) k || t) (ih g) ∙ or-true (is_at (nat_cmp id) k)

-- an instruction whose id isn't told isn't touched
pub untold : (touched : Touched) (keys : List ℕ) (id : ℕ) (r : Bool) → AreTold touched keys → r ≡ list_any (is_at (nat_cmp id)) keys → r ≡ false → (l b : ℕ) → touched l b id ≡ false
untold touched keys id r told is absent l b = go (touched l b id) refl
  where
    go : (t : Bool) → touched l b id ≡ t → t ≡ false
    go true e = no-other r (is ∙ keys-have id keys (told l b id e)) absent
    go false e = refl

module _ (slots : Numbers) (flow : List BlockFlow) (v : Seen) (b n : ℕ) where
  -- the exit of an instruction lies in the piece
  abbrev lies : ℕ → Bool
  lies id = nat_eq (piece_at slots (exit_rank slots id) v.segments) n

  found-leads : (id : ℕ) × Among id (terminators flow b) × (lies id ≡ true) → LeadsOut slots flow v b n
  found-leads z = inr (z.0, z.1, eqb-true (piece_at slots (exit_rank slots z.0) v.segments) n z.2)

  leads-found : (length v.segments ≡ n → ⊥) → LeadsOut slots flow v b n → list_any lies (terminators flow b) ≡ true
  leads-found short (inl e) = absurd (short e)
  leads-found short (inr z) = any-there lies (terminators flow b) z.0 z.1 (eq-eqb (piece_at slots (exit_rank slots z.0) v.segments) n z.2)

  -- a piece that isn't the last of its cell lasts to an exit where one of a terminator lies in it
  pub exit-leads : (r : Bool) → (length v.segments ≡ n → ⊥) → r ≡ list_any lies (terminators flow b) → (r ≡ true → LeadsOut slots flow v b n) × (LeadsOut slots flow v b n → r ≡ true)
  exit-leads r short is = (λ e. found-leads (any-found lies (terminators flow b) (sym is ∙ e)), λ w. is ∙ leads-found short w)

-- a piece that is live for a block that follows holds where it lasts to an exit
pub exit-held : (touched : Touched) (slots : Numbers) (flow : List BlockFlow) (rows : List LaneRange) (l b n x : ℕ) → causes rows l b n ≡ reasons.Follower x → LastsToExit slots flow rows (l, b, n) → IsHeld touched slots flow rows l b n
exit-held touched slots flow rows l b n x c (inl e) = held_end x c e
exit-held touched slots flow rows l b n x c (inr z) = held_exit x z.0 c z.1 z.2
