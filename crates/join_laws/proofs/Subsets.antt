-- Registers that lie within others, and registers that lanes pick.
use Rattle.std.proofs.Common.{◌≡◌, ◌∷◌, ◌∙◌, ◌&&◌, ◌||◌, ◌==◌, ℕ, zero, suc, Bool, true, false, List, [], Option, Some, None, map, get_or, refl, sym, ap, subst, eqb-true, eq-eqb}
use Rattle.std.specs.Prelude.{is_some, option_map, position, slice_get, slice_index}
use Rattle.std.specs.List.{list_all, list_any}
use Rattle.std.proofs.lemmas.List.Quantifiers.{position-Some}
use Rattle.std.proofs.lemmas.Option.{same_Some, slice_get-get_or}
use Rattle.target_base.specs.declared.types.IndexDesc.{IndexDesc}
use Rattle.target_base.specs.declared.types.IndexId.{IndexId}
use Rattle.target_base.specs.declared.types.Reg.{Reg}
use Rattle.target_base.specs.declared.types.RegDesc.{RegDesc}
use Rattle.target_base.specs.declared.types.Target.{Target}
use Rattle.target_base.specs.declared.types.Unit.{Unit as UnitNumber}
use Rattle.target_base.specs.Numbers.{index_number, reg_number, unit_number}
use Rattle.target_base.specs.Registers.{lanes_in, lanes_of}
use Rattle.target_base.specs.Storage.{holds_place, holds_reg, holds_subs, is_picked, is_unit, is_within, lanes_fit, reg_units, sub_place, units_in}
use Rattle.target_base.proofs.Tests.{first_of_both, second_of_both}
use Rattle.meaning.specs.Live.{Among as Member, here as first, there as later}
use Rattle.live_laws.proofs.Effects.Lists.{all-of}
use Rattle.instr_effects.proofs.Members.{member-elim}
use Rattle.lowering_laws.proofs.Formed.{all-by}
use Rattle.live_edits.specs.Folded.{are_picked, composed, is_number}

-- some element passes
any-of : {X : Type 0} (p : X → Bool) (xs : List X) → list_any p xs ≡ true → (x : X) × Member x xs × (p x ≡ true)
any-of p [] e = absurd (cc)
any-of {X = X} p (x ∷ xs) e = go (p x) refl e (any-of p xs)
  where
    go : (u : Bool) → p x ≡ u → (u || list_any p xs) ≡ true → (list_any p xs ≡ true → (y : X) × Member y xs × (p y ≡ true)) → (y : X) × Member y (x ∷ xs) × (p y ≡ true)
    go true h e rest = (x, first, h)
    go false h e rest = let z = rest e in (z.0, later z.1, z.2)

-- a register within registers is one of them
held : (rs : List Reg) (r : Reg) → holds_reg rs r ≡ true → Member r rs
held rs r e =
    let z = any-of (λ (q : Reg). q.0 == r.0) rs e in
    let same : z.0 ≡ r = λ i. reg_number (eqb-true z.0.0 r.0 z.2 i) in
    subst (λ q. Member q rs) same z.1

holding : (rs : List Reg) (r : Reg) → Member r rs → holds_reg rs r ≡ true
holding rs r m = go rs m
  where
    go : (qs : List Reg) → Member r qs → list_any (λ (q : Reg). q.0 == r.0) qs ≡ true
    go [] m = absurd (elim m [ ])
    go (q ∷ qs) m = member-elim r q qs (λ e. by (q.0 == r.0) (eq-eqb q.0 r.0 (ap (λ (x : Reg). x.0) (sym e)))) (λ k. on (q.0 == r.0) (go qs k)) m
      where
        by : (u : Bool) → u ≡ true → (u || list_any (λ (q : Reg). q.0 == r.0) qs) ≡ true
        by true e = refl
        by false e = absurd (cc)

        on : (u : Bool) → list_any (λ (q : Reg). q.0 == r.0) qs ≡ true → (u || list_any (λ (q : Reg). q.0 == r.0) qs) ≡ true
        on true e = refl
        on false e = e

pub within-itself : (rs : List Reg) → is_within rs rs ≡ true
within-itself rs = all-by (holds_reg rs) rs (λ r m. holding rs r m)

-- what all of the outer registers pass, the inner ones pass
pub all-within : (p : Reg → Bool) (rs qs : List Reg) → is_within rs qs ≡ true → list_all p qs ≡ true → list_all p rs ≡ true
all-within p rs qs w e = all-by p rs (λ r m. all-of p r qs (held qs r (all-of (holds_reg qs) r rs m w)) e)

place-within : (qs ks : List Reg) → is_within qs ks ≡ true → (o : Option ℕ) → holds_place qs o ≡ true → holds_place ks o ≡ true
place-within qs ks w None e = absurd (cc)
place-within qs ks w (Some k) e = all-of (holds_reg ks) (reg_number k) qs (held qs (reg_number k) e) w

pub subs-within : (regs : List RegDesc) (lanes : List ℕ) (rs qs ks : List Reg) → holds_subs regs lanes rs qs ≡ true → is_within qs ks ≡ true → holds_subs regs lanes rs ks ≡ true
subs-within regs lanes rs qs ks h w =
    all-by (λ r. holds_place ks (sub_place regs (reg_units regs r) lanes)) rs (λ r m. place-within qs ks w (sub_place regs (reg_units regs r) lanes) (all-of (λ r. holds_place qs (sub_place regs (reg_units regs r) lanes)) r rs m h))

-- lanes that lead to registers fit
pub subs-fit : (regs : List RegDesc) (lanes : List ℕ) (rs qs : List Reg) → holds_subs regs lanes rs qs ≡ true → lanes_fit regs lanes rs ≡ true
subs-fit regs lanes rs qs h = all-by (λ r. is_some (sub_place regs (reg_units regs r) lanes)) rs (λ r m. there (sub_place regs (reg_units regs r) lanes) (all-of (λ r. holds_place qs (sub_place regs (reg_units regs r) lanes)) r rs m h))
  where
    there : (o : Option ℕ) → holds_place qs o ≡ true → is_some o ≡ true
    there None e = absurd (cc)
    there (Some k) e = refl

-- lanes of lanes

number-at : (o : Option ℕ) (l : ℕ) → is_number o l ≡ true → o ≡ Some l
number-at None l e = absurd (cc)
number-at (Some n) l e = ap Some (eqb-true n l e)

unit-at : (o : Option UnitNumber) (p : UnitNumber) → is_unit o p ≡ true → o ≡ Some p
unit-at None p e = absurd (cc)
unit-at (Some v) p e = λ i. Some (unit_number (eqb-true v.0 p.0 e i))

picked-at : (us : List UnitNumber) (ks : List ℕ) (ps : List UnitNumber) (y l : ℕ) → is_picked us ks ps ≡ true → slice_get ks y ≡ Some l → slice_get us l ≡ slice_get ps y
picked-at us [] ps y l e h = absurd (cc)
picked-at us (k ∷ ks) [] y l e h = absurd (cc)
picked-at us (k ∷ ks) (p ∷ ps) zero l e h = ap (slice_get us) (sym (same_Some k l h)) ∙ unit-at (slice_get us k) p (first_of_both (is_unit (slice_get us k) p) (is_picked us ks ps) e)
picked-at us (k ∷ ks) (p ∷ ps) (suc y) l e h = picked-at us ks ps y l (second_of_both (is_unit (slice_get us k) p) (is_picked us ks ps) e) h

-- lanes `ls` of the outer register are lanes `ys` of the inner one
picked-composed : (us : List UnitNumber) (ks : List ℕ) (ps : List UnitNumber) (ys ls : List ℕ) → is_picked us ks ps ≡ true → are_picked ks ys ls ≡ true → (ds : List UnitNumber) → is_picked us ls ds ≡ is_picked ps ys ds
picked-composed us ks ps [] [] e h [] = refl
picked-composed us ks ps [] [] e h (d ∷ ds) = refl
picked-composed us ks ps [] (l ∷ ls) e h ds = absurd (cc)
picked-composed us ks ps (y ∷ ys) [] e h ds = absurd (cc)
picked-composed us ks ps (y ∷ ys) (l ∷ ls) e h [] = refl
picked-composed us ks ps (y ∷ ys) (l ∷ ls) e h (d ∷ ds) =
    let a = number-at (slice_get ks y) l (first_of_both (is_number (slice_get ks y) l) (are_picked ks ys ls) h) in
    λ i. is_unit (picked-at us ks ps y l e a i) d && picked-composed us ks ps ys ls e (second_of_both (is_number (slice_get ks y) l) (are_picked ks ys ls) h) ds i

position-same : {X : Type 0} (p q : X → Bool) (xs : List X) → ((x : X) → p x ≡ q x) → position p xs ≡ position q xs
position-same p q xs h = ap (λ r. position r xs) (λ i x. h x i)

pub position-gives : {X : Type 0} (p : X → Bool) (xs : List X) (n : ℕ) → position p xs ≡ Some n → (x : X) × (slice_get xs n ≡ Some x) × (p x ≡ true)
position-gives p [] n e = absurd (cc)
position-gives p (x ∷ xs) n e = let z = position-Some p (x ∷ xs) n x e in (get_or (x ∷ xs) n x, slice_get-get_or (x ∷ xs) n x z.0, z.1)

pub subs-composed : (regs : List RegDesc) (ks ys ls : List ℕ) (rs qs cs : List Reg) → holds_subs regs ks rs qs ≡ true → are_picked ks ys ls ≡ true → holds_subs regs ys qs cs ≡ true → holds_subs regs ls rs cs ≡ true
subs-composed regs ks ys ls rs qs cs h picked g = all-by (λ r. holds_place cs (sub_place regs (reg_units regs r) ls)) rs (λ r m. go r (sub_place regs (reg_units regs r) ks) refl (all-of (λ r. holds_place qs (sub_place regs (reg_units regs r) ks)) r rs m h))
  where
    go : (r : Reg) (o : Option ℕ) → sub_place regs (reg_units regs r) ks ≡ o → holds_place qs o ≡ true → holds_place cs (sub_place regs (reg_units regs r) ls) ≡ true
    go r None e k = absurd (cc)
    go r (Some p) e k =
        let z = position-gives (λ (d : RegDesc). is_picked (reg_units regs r) ks d.units) regs p e in
        let units : reg_units regs (reg_number p) ≡ z.0.units = ap units_in z.1 in
        let inner : is_picked (reg_units regs r) ks (reg_units regs (reg_number p)) ≡ true = ap (is_picked (reg_units regs r) ks) units ∙ z.2 in
        let same : sub_place regs (reg_units regs r) ls ≡ sub_place regs (reg_units regs (reg_number p)) ys =
        position-same (λ (d : RegDesc). is_picked (reg_units regs r) ls d.units) (λ (d : RegDesc). is_picked (reg_units regs (reg_number p)) ys d.units) regs
        (λ d. picked-composed (reg_units regs r) ks (reg_units regs (reg_number p)) ys ls inner picked d.units) in
        ap (holds_place cs) same ∙ all-of (λ q. holds_place cs (sub_place regs (reg_units regs q) ys)) (reg_number p) qs (held qs (reg_number p) k) g

-- the lanes of an index within another
pub composed-lanes : (t : Target) (x y d : IndexId) → composed t x y ≡ Some d → are_picked (lanes_of t x) (lanes_of t y) (lanes_of t d) ≡ true
composed-lanes t x y d e = go (position (λ (c : IndexDesc). are_picked (lanes_of t x) (lanes_of t y) c.lanes) t.indexes) refl e
  where
    go : (o : Option ℕ) → position (λ (c : IndexDesc). are_picked (lanes_of t x) (lanes_of t y) c.lanes) t.indexes ≡ o → option_map index_number o ≡ Some d → are_picked (lanes_of t x) (lanes_of t y) (lanes_of t d) ≡ true
    go None h e = absurd (cc)
    go (Some n) h e =
        let z = position-gives (λ (c : IndexDesc). are_picked (lanes_of t x) (lanes_of t y) c.lanes) t.indexes n h in
        subst (λ q. are_picked (lanes_of t x) (lanes_of t y) (lanes_of t q) ≡ true) (same_Some (index_number n) d e)
        (ap (λ q. are_picked (lanes_of t x) (lanes_of t y) (lanes_in q)) z.1 ∙ z.2)

index-at : (xs : List ℕ) (y l : ℕ) → slice_get xs y ≡ Some l → slice_index xs y ≡ l
index-at [] y l e = absurd (cc)
index-at (x ∷ xs) zero l e = same_Some x l e
index-at (x ∷ xs) (suc y) l e = index-at xs y l e

mapped-at : (h : ℕ → ℕ) (xs : List ℕ) (y l : ℕ) → slice_get xs y ≡ Some l → slice_index (map h xs) y ≡ h l
mapped-at h [] y l e = absurd (cc)
mapped-at h (x ∷ xs) zero l e = ap h (same_Some x l e)
mapped-at h (x ∷ xs) (suc y) l e = mapped-at h xs y l e

pub picked-lanes : (ks ys ls : List ℕ) → are_picked ks ys ls ≡ true → ls ≡ map (slice_index ks) ys
picked-lanes ks [] [] e = refl
picked-lanes ks [] (l ∷ ls) e = absurd (cc)
picked-lanes ks (y ∷ ys) [] e = absurd (cc)
picked-lanes ks (y ∷ ys) (l ∷ ls) e =
    let a = number-at (slice_get ks y) l (first_of_both (is_number (slice_get ks y) l) (are_picked ks ys ls) e) in
    λ i. sym (index-at ks y l a) i ∷ picked-lanes ks ys ls (second_of_both (is_number (slice_get ks y) l) (are_picked ks ys ls) e) i

pub picked-mapped : (h : ℕ → ℕ) (ks ys ls : List ℕ) → are_picked ks ys ls ≡ true → map h ls ≡ map (slice_index (map h ks)) ys
picked-mapped h ks [] [] e = refl
picked-mapped h ks [] (l ∷ ls) e = absurd (cc)
picked-mapped h ks (y ∷ ys) [] e = absurd (cc)
picked-mapped h ks (y ∷ ys) (l ∷ ls) e =
    let a = number-at (slice_get ks y) l (first_of_both (is_number (slice_get ks y) l) (are_picked ks ys ls) e) in
    λ i. sym (mapped-at h ks y l a) i ∷ picked-mapped h ks ys ls (second_of_both (is_number (slice_get ks y) l) (are_picked ks ys ls) e) i
