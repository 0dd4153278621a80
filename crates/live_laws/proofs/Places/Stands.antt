-- A lane is live at a place exactly where its number is at the steps that stand for it.
use Rattle.std.proofs.Common.{◌≡◌, ◌⊎◌, ℕ, Bool, true, false, cond, List, [], ◌∷◌, Some, refl, sym, ap, ◌∙◌, subst, inl, inr}
use Rattle.meaning.specs.declared.types.Lane.{Lane}
use Rattle.meaning.specs.declared.types.Lane.TheVariants.{SlotLane}
use Rattle.meaning.specs.declared.types.Source.TheVariants.{FromLane}
use Rattle.meaning.specs.declared.types.Fill.TheVariants.{Moved}
use Rattle.meaning.specs.Code.{Edge, Item, Code as Places, found}
use Rattle.meaning.specs.Live.{Among as Member, Feeds, is_slot, Live as LivePlace, read, next as onward, leap, phi as joined, store, kept, LiveAfter, after_next, after_leap, after_phi}
use Rattle.mir_meaning.specs.Paths.{Among, Step, Code, steps_of, exits_of, Certain, Into, use_of, is_written, Point, Entry, Exit, Live, reads, moves, passes, next, leaps, goes, phi, leaps_phi}
use Rattle.live_laws.specs.Places.{StandsLaw}
use Rattle.mir_meaning.specs.Stands.{Tags, ReadBy, Reaches, IsStep, IsOut, At, at_end, at_step, IsCodeOf}

member-none : {A : Type 0} (x : A) → Member x [] → ⊥
member-none x m = elim m [ ]

-- a way out of a step is one of its block, and the step leaves
leaving : (b : Bool) (out : List Edge) (e : Edge) → Member e (cond b out []) → (b ≡ true) × Member e out
leaving true out e m = (refl, m)
leaving false out e m = absurd (member-none e m)

live-behind : {reserved : Lane → Bool} {places : Places} {i : Item} {p : Places} {l a : Lane} → LiveAfter reserved places i p a → Feeds i l a → reserved l ≡ false → LivePlace reserved places (i ∷ p) l
live-behind (after_next o h) f r = onward o h f r
live-behind (after_leap m h g) f r = leap m h g f r
live-behind (after_phi m w g) f r = joined m w g f r

module _ (reserved : Lane → Bool) (tag : Tags) (number : ℕ → ℕ) (places : Places) (code : Code) (stands : IsCodeOf reserved tag number places code) where
  abbrev Tagged : ℕ → Point → Lane → Type 0
  Tagged b x l = (n : ℕ) × (tag l ≡ Some n) × Live code b x n

  same-tag : (l a : Lane) (n m : ℕ) → l ≡ a → tag l ≡ Some n → tag a ≡ Some m → n ≡ m
  same-tag l a n m e f g = let h = ap tag e in cc

  -- what feeds a live lane is live
  fed : (b : ℕ) (out : List Edge) (i : Item) (s : Step) (ss : List Step) → IsStep reserved tag out i s → (l a : Lane) → reserved l ≡ false → Feeds i l a → (m : ℕ) → tag a ≡ Some m → Live code b (Exit s ss) m → Tagged b (Entry (s ∷ ss)) l
  fed b out i s ss step l a r f m g h = from (step.sources l a r f)
    where
      known : (n : ℕ) → tag l ≡ Some n → ((l ≡ a) × (is_written m s ≡ false)) ⊎ ((use_of n s ≡ Into m) ⊎ (use_of n s ≡ Certain)) → Live code b (Entry (s ∷ ss)) n
      known n e (inl z) = subst (λ k. Live code b (Entry (s ∷ ss)) k) (sym (same-tag l a n m z.0 e g)) (passes z.1 h)
      known n e (inr (inl u)) = moves u h
      known n e (inr (inr u)) = reads u

      from : (l ≡ a) ⊎ ((n : ℕ) × (tag l ≡ Some n)) → Tagged b (Entry (s ∷ ss)) l
      from (inl e) = let t : tag l ≡ Some m = ap tag e ∙ g in (m, t, known m t (step.flows l a m m t g f))
      from (inr z) = (z.0, z.1, known z.0 z.1 (step.flows l a z.0 m z.1 g f))

  read-live : (b : ℕ) (out : List Edge) (i : Item) (s : Step) (ss : List Step) → IsStep reserved tag out i s → (l : Lane) → reserved l ≡ false → ReadBy reserved i l → Tagged b (Entry (s ∷ ss)) l
  read-live b out i s ss step l r u = let z = step.tagged l r u in (z.0, z.1, reads (step.reads l z.0 z.1 u))

  -- a way out leads to the start of a block that follows
  begun : (b : ℕ) (out : List Edge) → IsOut reserved tag number places code b out → (e : Edge) → Member e out → (x : ℕ) × Among x (exits_of code b) × At reserved tag number places code x (found e.block places) (steps_of code x)
  begun b out o e m =
      let z = o.forth e m in
      (z.0, z.1, subst (λ n. At reserved tag number places code z.0 (found n places) (steps_of code z.0)) (sym z.2) (stands.starts b z.0 z.1))

  moved-same : (a c : Lane) → Moved (FromLane a) ≡ Moved (FromLane c) → a ≡ c
  moved-same a c e = cc

  pub meets : {p : Places} {l : Lane} → LivePlace reserved places p l → (b : ℕ) (ss : List Step) → At reserved tag number places code b p ss → Tagged b (Entry ss) l
  meets (read {ss = sources} {l = l} m n r) b [] (at_end o) = absurd (member-none sources m)
  meets (read {ss = sources} {l = l} m n r) b (s ∷ ss) (at_step {out = out} {i = i} step o at) = read-live b out i s ss step l r (inl (sources, m, n))
  meets (onward q h f r) b [] (at_end o) = absurd (cc)
  meets (onward {l = l} {a = a} q h f r) b (s ∷ ss) (at_step {out = out} {i = i} step o at) =
      let z = meets h b ss at in
      fed b out i s ss step l a r f z.0 z.1 (next z.2)
  meets (leap {e = e} {l = l} {a = a} {b = c} m h g f r) b [] (at_end {out = out} o) =
      let x = begun b out o e m in
      let z = meets h x.0 (steps_of code x.0) x.2 in
      let same : c ≡ a = moved-same c a (sym g ∙ o.through e a m h) in
      let back : l ≡ c = sym (moved-same c l f) in
      (z.0, ap tag (back ∙ same) ∙ z.1, goes x.1 z.2)
  meets (leap {e = e} {l = l} {a = a} {b = c} m h g f r) b (s ∷ ss) (at_step {out = out} {i = i} step o at) =
      let out' = leaving s.leaves out e (subst (λ es. Member e es) step.exits m) in
      let x = begun b out o e out'.1 in
      let z = meets h x.0 (steps_of code x.0) x.2 in
      let same : c ≡ a = moved-same c a (sym g ∙ o.through e a out'.1 h) in
      fed b out i s ss step l c r f z.0 (ap tag same ∙ z.1) (leaps out'.0 x.1 z.2)
  meets (joined {e = e} {w = w} {l = l} {b = c} m n g f r) b [] (at_end {out = out} o) =
      let back : l ≡ c = sym (moved-same c l f) in
      let z = o.phis e w l m n (g ∙ ap (λ t. Moved (FromLane t)) (sym back)) r in
      (z.0, z.1, phi z.2)
  meets (joined {e = e} {w = w} {l = l} {b = c} m n g f r) b (s ∷ ss) (at_step {out = out} {i = i} step o at) =
      let out' = leaving s.leaves out e (subst (λ es. Member e es) step.exits m) in
      by (reserved c) refl out'
    where
      by : (q : Bool) → reserved c ≡ q → (s.leaves ≡ true) × Member e out → Tagged b (Entry (s ∷ ss)) l
      by true q out' = read-live b out i s ss step l r (inr (c, q, f))
      by false q out' = let z = o.phis e w c out'.1 n g q in fed b out i s ss step l c r f z.0 z.1 (leaps_phi out'.0 z.2)
  meets (store w q h f ns r) b [] (at_end o) = absurd (cc)
  meets (store w {s = slot} {k = k} {x = x} {l = l} q h f ns r) b (s ∷ ss) (at_step {out = out} {i = i} step o at) =
      let z = meets h b ss at in
      from (step.sources l (SlotLane slot k w) r f) z
    where
      from : (l ≡ SlotLane slot k w) ⊎ ((n : ℕ) × (tag l ≡ Some n)) → Tagged b (Entry ss) (SlotLane slot k x) → Tagged b (Entry (s ∷ ss)) l
      from (inl e) z = absurd (let t : true ≡ is_slot l = sym (ap is_slot e) in cc)
      from (inr y) z =
          let m = step.stores l slot k w y.0 y.1 ns f in
          let same = stands.tagging.slots slot k w x m.0 z.0 m.1 z.1 in
          fed b out i s ss step l (SlotLane slot k w) r f m.0 m.1 (subst (λ v. Live code b (Exit s ss) v) (sym same) (next z.2))
  meets (kept {l = l} {a = a} q f r) b [] (at_end o) = absurd (let back : l ≡ a = sym (moved-same a l f) in let t = ap reserved back in cc)
  meets (kept {l = l} {a = a} q f r) b (s ∷ ss) (at_step {out = out} {i = i} step o at) = read-live b out i s ss step l r (inr (a, q, f))

  -- the lane of a number that is live at a point
  abbrev Found : ℕ → Point → ℕ → Type 0
  Found b (Entry ss) n = (p : Places) → At reserved tag number places code b p ss → (l : Lane) × (tag l ≡ Some n) × LivePlace reserved places p l
  Found b (Exit s ss) n = (out : List Edge) (i : Item) (p : Places) → IsStep reserved tag out i s → IsOut reserved tag number places code b out → At reserved tag number places code b p ss → (l : Lane) × (tag l ≡ Some n) × LiveAfter reserved places i p l

  free : (l : Lane) (n : ℕ) → tag l ≡ Some n → reserved l ≡ false
  free l n e = stands.tagging.free l n e

  read-place : (i : Item) (p : Places) (l : Lane) → reserved l ≡ false → ReadBy reserved i l → LivePlace reserved places (i ∷ p) l
  read-place i p l r (inl z) = read z.1 z.2 r
  read-place i p l r (inr z) = kept z.1 z.2 r

  reached : (i : Item) (p : Places) (l a : Lane) → reserved l ≡ false → LiveAfter reserved places i p a → Reaches i l a → LivePlace reserved places (i ∷ p) l
  reached i p l a r h (inl f) = live-behind h f r
  reached i p l a r h (inr z) = by (subst (λ t. LiveAfter reserved places i p t) z.4 h)
    where
      by : LiveAfter reserved places i p (SlotLane z.0 z.1 z.3) → LivePlace reserved places (i ∷ p) l
      by (after_next o g) = store z.2 o g z.5 z.6 r
      by (after_leap {e = e} m g f) = absurd (member-none e (subst (λ es. Member e es) z.7 m))
      by (after_phi {e = e} m w f) = absurd (member-none e (subst (λ es. Member e es) z.7 m))

  pub meets-back : {b : ℕ} {x : Point} {n : ℕ} → Live code b x n → Found b x n
  meets-back (reads {b = b} {s = s} {rest = rest} {l = n} u) = λ p at. at-read p at
    where
      at-read : (p : Places) → At reserved tag number places code b p (s ∷ rest) → (l : Lane) × (tag l ≡ Some n) × LivePlace reserved places p l
      at-read p (at_step {i = i} {p = q} step o at) = let z = step.certain n u in (z.0, z.1, read-place i q z.0 (free z.0 n z.1) z.2)
  meets-back (moves {b = b} {s = s} {rest = rest} {l = n} {a = m} u h) = λ p at. at-move p at (meets-back h)
    where
      at-move : (p : Places) → At reserved tag number places code b p (s ∷ rest) → Found b (Exit s rest) m → (l : Lane) × (tag l ≡ Some n) × LivePlace reserved places p l
      at-move p (at_step {out = out} {i = i} {p = q} step o at) k =
          let a = k out i q step o at in
          let z = step.moves n m u a.0 a.1 in
          (z.0, z.1, reached i q z.0 a.0 (free z.0 n z.1) a.2 z.2)
  meets-back (passes {b = b} {s = s} {rest = rest} {l = n} w h) = λ p at. at-pass p at (meets-back h)
    where
      at-pass : (p : Places) → At reserved tag number places code b p (s ∷ rest) → Found b (Exit s rest) n → (l : Lane) × (tag l ≡ Some n) × LivePlace reserved places p l
      at-pass p (at_step {out = out} {i = i} {p = q} step o at) k =
          let a = k out i q step o at in
          (a.0, a.1, live-behind a.2 (step.stays a.0 n a.1 w) (free a.0 n a.1))
  meets-back (next h) = λ out i p step o at. let z = meets-back h p at in (z.0, z.1, after_next step.ordered z.2)
  meets-back (leaps {b = b} {x = x} {l = n} t m h) = λ out i p step o at.
      let e = o.back x m in
      let z = meets-back h (found (number x) places) (stands.starts b x m) in
      let h' = subst (λ k. LivePlace reserved places (found k places) z.0) (sym e.2) z.2 in
      let m' = subst (λ es. Member e.0 es) (sym (step.exits ∙ ap (λ q. cond q out []) t)) e.1 in
      (z.0, z.1, after_leap m' h' (o.through e.0 z.0 e.1 h'))
  meets-back (leaps_phi {b = b} {l = n} t m) = λ out i p step o at.
      let z = o.last n m in
      let m' = subst (λ es. Member z.0 es) (sym (step.exits ∙ ap (λ q. cond q out []) t)) z.3 in
      (z.2, z.6, after_phi m' z.4 z.5)
  meets-back (goes {b = b} {x = x} {l = n} m h) = λ p at. at-end p at (meets-back h)
    where
      at-end : (p : Places) → At reserved tag number places code b p [] → Found x (Entry (steps_of code x)) n → (l : Lane) × (tag l ≡ Some n) × LivePlace reserved places p l
      at-end p (at_end o) k =
          let e = o.back x m in
          let z = k (found (number x) places) (stands.starts b x m) in
          let h' = subst (λ j. LivePlace reserved places (found j places) z.0) (sym e.2) z.2 in
          (z.0, z.1, leap e.1 h' (o.through e.0 z.0 e.1 h') refl (free z.0 n z.1))
  meets-back (phi {b = b} {l = n} m) = λ p at. at-end p at
    where
      at-end : (p : Places) → At reserved tag number places code b p [] → (l : Lane) × (tag l ≡ Some n) × LivePlace reserved places p l
      at-end p (at_end o) = let z = o.last n m in (z.2, z.6, joined z.3 z.4 z.5 refl (free z.2 n z.6))

pub stands-law : StandsLaw
stands-law reserved tag number places code stands b p ss at = (
  (λ l h. meets reserved tag number places code stands h b ss at),
  (λ n h. meets-back reserved tag number places code stands h p at),
)
