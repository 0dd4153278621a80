-- Borders that stand for others, and what becomes of them where one is set.
use Rattle.std.proofs.Common.{◌≡◌, ◌≢◌, ◌∙◌, ◌⊎◌, inl, inr, ℕ, zero, suc, ◌<◌, ◌≤◌, List, cond, refl, sym, ap, length, set, subst, arith}
use Rattle.std.specs.Prelude.{nat_eq}
use Rattle.std.proofs.lemmas.Bool.{cases_eq, cases_lt, eqb-true, eq-eqb, ne_eqb}
use Rattle.std.proofs.lemmas.List.{get_or_past, get_or-set_same, get_or-set_other, set_past}
use Rattle.split_choose.specs.Bundles.{Linked, itself, edge, back, onward, parent_of, above, root_of, AreEarlier, AreJoined, StayJoined, AreBundles}

pub stays : (ps : List ℕ) (n x : ℕ) → parent_of ps x ≡ x → above ps n x ≡ x
stays ps zero x e = refl
stays ps (suc n) x e = ap (above ps n) e ∙ stays ps n x e

pub lands : (ps : List ℕ) → AreEarlier ps → (n x : ℕ) → x ≤ n → parent_of ps (above ps n x) ≡ above ps n x
lands ps f zero x h = let g : parent_of ps x ≤ x = f x in omega arith
lands ps f (suc n) x h = go (lands ps f n (parent_of ps x)) (cases_eq (parent_of ps x) x)
  where
    go : (parent_of ps x ≤ n → parent_of ps (above ps n (parent_of ps x)) ≡ above ps n (parent_of ps x)) → (parent_of ps x ≡ x) ⊎ (parent_of ps x ≡ x → ⊥) → parent_of ps (above ps n (parent_of ps x)) ≡ above ps n (parent_of ps x)
    go ih (inl e) = let s : above ps n (parent_of ps x) ≡ x = ap (above ps n) e ∙ stays ps n x e in ap (parent_of ps) s ∙ (e ∙ sym s)
    go ih (inr d) = ih (let g : parent_of ps x ≤ x = f x in omega arith)

pub settled : (ps : List ℕ) → AreEarlier ps → (x : ℕ) → parent_of ps (root_of ps x) ≡ root_of ps x
settled ps f x = go (cases_lt x (length ps))
  where
    go : (x < length ps) ⊎ (length ps ≤ x) → parent_of ps (root_of ps x) ≡ root_of ps x
    go (inl h) = lands ps f (length ps) x (omega arith)
    go (inr h) =
        let e : parent_of ps x ≡ x = get_or_past ps x x h in
        let s : root_of ps x ≡ x = stays ps (length ps) x e in ap (parent_of ps) s ∙ (e ∙ sym s)

commutes : (ps : List ℕ) (n x : ℕ) → above ps (suc n) x ≡ parent_of ps (above ps n x)
commutes ps zero x = refl
commutes ps (suc n) x = commutes ps n (parent_of ps x)

pub root-parent : (ps : List ℕ) → AreEarlier ps → (x : ℕ) → root_of ps (parent_of ps x) ≡ root_of ps x
root-parent ps f x = commutes ps (length ps) x ∙ settled ps f x

pub root-itself : (ps : List ℕ) (x : ℕ) → parent_of ps x ≡ x → root_of ps x ≡ x
root-itself ps x e = stays ps (length ps) x e

pub root-root : (ps : List ℕ) → AreEarlier ps → (x : ℕ) → root_of ps (root_of ps x) ≡ root_of ps x
root-root ps f x = root-itself ps (root_of ps x) (settled ps f x)

pub root_falls : (ps : List ℕ) → AreEarlier ps → (n x : ℕ) → above ps n x ≤ x
root_falls ps f zero x = omega arith
root_falls ps f (suc n) x = let a : above ps n (parent_of ps x) ≤ parent_of ps x = root_falls ps f n (parent_of ps x) in let b : parent_of ps x ≤ x = f x in omega arith

-- what is the same along parents, and of what stands for itself is that, is what stands for all
along : (h : ℕ → ℕ) (ps : List ℕ) → ((z : ℕ) → h (parent_of ps z) ≡ h z) → (n z : ℕ) → h (above ps n z) ≡ h z
along h ps same zero z = refl
along h ps same (suc n) z = along h ps same n (parent_of ps z) ∙ same z

pub roots_by : (h : ℕ → ℕ) (ps : List ℕ) → AreEarlier ps → ((z : ℕ) → parent_of ps z ≡ z → h z ≡ z) → ((z : ℕ) → h (parent_of ps z) ≡ h z) → (z : ℕ) → root_of ps z ≡ h z
roots_by h ps f fixed same z = sym (fixed (root_of ps z) (settled ps f z)) ∙ along h ps same (length ps) z

-- one border is set

pub set-parent : (ps : List ℕ) (b p z : ℕ) → b < length ps → ((z ≡ b) × (parent_of (set ps b p) z ≡ p)) ⊎ ((z ≢ b) × (parent_of (set ps b p) z ≡ parent_of ps z))
set-parent ps b p z h = go (cases_eq z b)
  where
    go : (z ≡ b) ⊎ (z ≡ b → ⊥) → ((z ≡ b) × (parent_of (set ps b p) z ≡ p)) ⊎ ((z ≢ b) × (parent_of (set ps b p) z ≡ parent_of ps z))
    go (inl e) = inl (e, (let P : ℕ → Type 0 = λ w. parent_of (set ps b p) w ≡ p in subst P (sym e) (get_or-set_same ps b p b h)))
    go (inr d) = inr (d, get_or-set_other ps b z p z d)

pub set-falls : (ps : List ℕ) (b p : ℕ) → AreEarlier ps → p ≤ b → AreEarlier (set ps b p)
set-falls ps b p f le z = by_place (cases_lt b (length ps))
  where
    go : b < length ps → ((z ≡ b) × (parent_of (set ps b p) z ≡ p)) ⊎ ((z ≢ b) × (parent_of (set ps b p) z ≡ parent_of ps z)) → parent_of (set ps b p) z ≤ z
    go h (inl q) = let e : z ≡ b = q.0 in let g : parent_of (set ps b p) z ≡ p = q.1 in omega arith
    go h (inr q) = let g : parent_of (set ps b p) z ≡ parent_of ps z = q.1 in let k : parent_of ps z ≤ z = f z in omega arith

    by_place : (b < length ps) ⊎ (length ps ≤ b) → parent_of (set ps b p) z ≤ z
    by_place (inl h) = go h (set-parent ps b p z h)
    by_place (inr h) = let P : List ℕ → Type 0 = λ qs. parent_of qs z ≤ z in subst P (sym (set_past ps b p h)) (f z)

-- the root of another bundle takes over

module _ (ps : List ℕ) (f : AreEarlier ps) (big small : ℕ) (order : small ≤ big) (within : big < length ps) (is_big : parent_of ps big ≡ big) (is_small : parent_of ps small ≡ small) where
  merged : ℕ → ℕ
  merged z = cond (nat_eq (root_of ps z) big) small (root_of ps z)

  at_big : (z : ℕ) → root_of ps z ≡ big → merged z ≡ small
  unfolding merged
  at_big z e = ap (λ b. cond b small (root_of ps z)) (eq-eqb (root_of ps z) big e)

  at_other : (z : ℕ) → (root_of ps z ≡ big → ⊥) → merged z ≡ root_of ps z
  unfolding merged
  at_other z d = ap (λ b. cond b small (root_of ps z)) (ne_eqb (root_of ps z) big d)

  big-merged : merged big ≡ small
  big-merged = at_big big (root-itself ps big is_big)

  small-merged : merged small ≡ small
  small-merged = go (cases_eq (root_of ps small) big)
    where
      go : (root_of ps small ≡ big) ⊎ (root_of ps small ≡ big → ⊥) → merged small ≡ small
      go (inl e) = at_big small e
      go (inr d) = at_other small d ∙ root-itself ps small is_small

  merged-same : (z w : ℕ) → root_of ps z ≡ root_of ps w → merged z ≡ merged w
  unfolding merged
  merged-same z w e = ap (λ r. cond (nat_eq r big) small r) e

  merged-root : (z : ℕ) → root_of (set ps big small) z ≡ merged z
  merged-root = roots_by merged (set ps big small) (set-falls ps big small f order) fixed same
    where
      fixed : (z : ℕ) → parent_of (set ps big small) z ≡ z → merged z ≡ z
      fixed z e = go (set-parent ps big small z within)
        where
          go : ((z ≡ big) × (parent_of (set ps big small) z ≡ small)) ⊎ ((z ≢ big) × (parent_of (set ps big small) z ≡ parent_of ps z)) → merged z ≡ z
          go (inl q) = ap merged q.0 ∙ (big-merged ∙ (sym q.1 ∙ e))
          go (inr q) =
              let r : root_of ps z ≡ z = root-itself ps z (sym q.1 ∙ e) in
              at_other z (λ b. q.0 (sym r ∙ b)) ∙ r

      same : (z : ℕ) → merged (parent_of (set ps big small) z) ≡ merged z
      same z = go (set-parent ps big small z within)
        where
          go : ((z ≡ big) × (parent_of (set ps big small) z ≡ small)) ⊎ ((z ≢ big) × (parent_of (set ps big small) z ≡ parent_of ps z)) → merged (parent_of (set ps big small) z) ≡ merged z
          go (inl q) = ap merged q.1 ∙ (small-merged ∙ (sym big-merged ∙ ap merged (sym q.0)))
          go (inr q) = ap merged q.1 ∙ merged-same (parent_of ps z) z (root-parent ps f z)

  pub merged-keeps : StayJoined ps (set ps big small)
  merged-keeps x y e = merged-root x ∙ (merged-same x y e ∙ sym (merged-root y))

  pub merged-joins : (x y : ℕ) → (root_of ps x ≡ big) × (root_of ps y ≡ small) ⊎ (root_of ps x ≡ small) × (root_of ps y ≡ big) → root_of (set ps big small) x ≡ root_of (set ps big small) y
  merged-joins x y h = merged-root x ∙ (go h ∙ sym (merged-root y))
    where
      is_at : (z : ℕ) → root_of ps z ≡ small → merged z ≡ small
      is_at z e = merged-same z small (e ∙ sym (root-itself ps small is_small)) ∙ small-merged

      go : (root_of ps x ≡ big) × (root_of ps y ≡ small) ⊎ (root_of ps x ≡ small) × (root_of ps y ≡ big) → merged x ≡ merged y
      go (inl q) = at_big x q.0 ∙ sym (is_at y q.1)
      go (inr q) = is_at x q.0 ∙ sym (at_big y q.1)

-- a border names at once the one that stands for its bundle

pub shortened-root : (ps : List ℕ) → AreEarlier ps → (b : ℕ) → (z : ℕ) → root_of (set ps b (root_of ps b)) z ≡ root_of ps z
shortened-root ps f b z = by_place (cases_lt b (length ps))
  where
    inside : b < length ps → root_of (set ps b (root_of ps b)) z ≡ root_of ps z
    inside h = roots_by (root_of ps) (set ps b (root_of ps b)) (set-falls ps b (root_of ps b) f (root_falls ps f (length ps) b)) fixed same z
      where
        fixed : (w : ℕ) → parent_of (set ps b (root_of ps b)) w ≡ w → root_of ps w ≡ w
        fixed w e = go (set-parent ps b (root_of ps b) w h)
          where
            go : ((w ≡ b) × (parent_of (set ps b (root_of ps b)) w ≡ root_of ps b)) ⊎ ((w ≢ b) × (parent_of (set ps b (root_of ps b)) w ≡ parent_of ps w)) → root_of ps w ≡ w
            go (inl q) = ap (root_of ps) q.0 ∙ (sym q.1 ∙ e)
            go (inr q) = root-itself ps w (sym q.1 ∙ e)

        same : (w : ℕ) → root_of ps (parent_of (set ps b (root_of ps b)) w) ≡ root_of ps w
        same w = go (set-parent ps b (root_of ps b) w h)
          where
            go : ((w ≡ b) × (parent_of (set ps b (root_of ps b)) w ≡ root_of ps b)) ⊎ ((w ≢ b) × (parent_of (set ps b (root_of ps b)) w ≡ parent_of ps w)) → root_of ps (parent_of (set ps b (root_of ps b)) w) ≡ root_of ps w
            go (inl q) = ap (root_of ps) q.1 ∙ (root-root ps f b ∙ ap (root_of ps) (sym q.0))
            go (inr q) = ap (root_of ps) q.1 ∙ root-parent ps f w

    by_place : (b < length ps) ⊎ (length ps ≤ b) → root_of (set ps b (root_of ps b)) z ≡ root_of ps z
    by_place (inl h) = inside h
    by_place (inr h) = let P : List ℕ → Type 0 = λ ys. root_of ys z ≡ root_of ps z in subst P (sym (set_past ps b (root_of ps b) h)) refl

-- what stands for a border is linked to it

pub linked-above : (next : ℕ → List ℕ) (ps : List ℕ) → ((x : ℕ) → Linked next (x, parent_of ps x)) → (n x : ℕ) → Linked next (x, above ps n x)
linked-above next ps s zero x = itself
linked-above next ps s (suc n) x = onward (s x) (linked-above next ps s n (parent_of ps x))

pub joined_linked : (next : ℕ → List ℕ) (ps : List ℕ) → ((x : ℕ) → Linked next (x, parent_of ps x)) → (x y : ℕ) → root_of ps x ≡ root_of ps y → Linked next (x, y)
joined_linked next ps s x y e =
    let P : ℕ → Type 0 = λ r. Linked next (x, r) in
    onward (subst P e (linked-above next ps s (length ps) x)) (back (linked-above next ps s (length ps) y))

pub linked_joined : (next : ℕ → List ℕ) (ps : List ℕ) → ((k : ℕ) → AreJoined ps k (next k)) → (p : ℕ × ℕ) → Linked next p → root_of ps p.0 ≡ root_of ps p.1
linked_joined next ps j p itself = refl
linked_joined next ps j p (edge k n h) = j k n h
linked_joined next ps j p (back {x} {y} l) = sym (linked_joined next ps j (x, y) l)
linked_joined next ps j p (onward {x} {y} {z} l m) = linked_joined next ps j (x, y) l ∙ linked_joined next ps j (y, z) m

pub are_bundles : (next : ℕ → List ℕ) (ps : List ℕ) → ((x : ℕ) → Linked next (x, parent_of ps x)) → ((k : ℕ) → AreJoined ps k (next k)) → AreBundles next ps
are_bundles next ps s j x y = (λ e. joined_linked next ps s x y (eqb-true (root_of ps x) (root_of ps y) e), λ l. eq-eqb (root_of ps x) (root_of ps y) (linked_joined next ps j (x, y) l))
