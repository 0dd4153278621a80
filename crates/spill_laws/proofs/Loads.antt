-- Tinies that get their lanes before a place, and tinies whose lanes are stored behind it.
use Rattle.std.proofs.Common.{◌≡◌, ◌∷◌, ◌∙◌, ◌&&◌, ◌||◌, ◌≤◌, ℕ, suc, zero, Bool, true, false, cond, List, Some, length, map, refl, sym, ap, subst, arith, eq-eqb, eqb-true, []}
use Rattle.std.specs.Prelude.{nat_eq, option_map}
use Rattle.std.specs.List.{list_any}
use Rattle.meaning.specs.Lanes.{same_lane, settled, through}
use Rattle.meaning.specs.Live.{Among as Member, here as first, there as later}
use Rattle.meaning.specs.declared.types.Lane.{Lane}
use Rattle.meaning.specs.declared.types.Lane.TheVariants.{SlotLane, UnitLane, VirtualLane}
use Rattle.meaning.specs.declared.types.Source.{Source}
use Rattle.meaning.specs.declared.types.Source.TheVariants.{Bits, FromLane, Undef}
use Rattle.mir_meaning.specs.Items.{moved}
use Rattle.mir_meaning.specs.Registers.{numbers}
use Rattle.instr_effects.proofs.Members.{member-elim, member-none}
use Rattle.live_laws.proofs.Effects.Lists.{any-in}
use Rattle.live_laws.proofs.Touch.Cells.{any-of}
use Rattle.spill_laws.proofs.CopyPlaces.{none-of}
use Rattle.lowering_laws.proofs.Found.{place}
use Rattle.lowering_laws.proofs.Traced.{filled-free, is_lane_of, is_one, lanes_by, moved-apart, traced}
use Rattle.spiller.specs.Setting.{Spilling}
use Rattle.spill_laws.specs.Standing.{slot_lane}
use Rattle.spill_laws.specs.Seats.{IsPlain, Load, Save, load_writes, save_writes}
use Rattle.spill_laws.proofs.Chains.{count-lanes, tiny_lanes}
use Rattle.spill_laws.proofs.SlotPlaces.{width}
use Rattle.spill_laws.proofs.SlotWrites.{early-through, of-one, one-of, range-given, source-among, source_at, stored-apart, stored-filled}

-- lanes that are none of a load's tiny
pub load-leaves : (l : Load) (a : Lane) → is_lane_of l.tiny a ≡ false → settled (through (load_writes l) (FromLane a)) ≡ FromLane a
load-leaves l a e = ap settled (early-through l.early (tiny_lanes l.tiny 0 (length l.sources)) l.sources (FromLane a) ∙ filled-free (moved false (tiny_lanes l.tiny 0 (length l.sources)) l.sources) a (moved-apart l.tiny (numbers 0 (length l.sources)) l.sources a e))

pub loads-leave : (ls : List Load) (a : Lane) → ((l : Load) → Member l ls → is_lane_of l.tiny a ≡ false) → traced (map load_writes ls) (FromLane a) ≡ FromLane a
loads-leave [] a h = refl
loads-leave (l ∷ ls) a h = ap (λ q. settled (through (load_writes l) q)) (loads-leave ls a (λ m k. h m (later k))) ∙ load-leaves l a (h l first)

load-leaves-plain : (l : Load) (q : Source) → IsPlain q → settled (through (load_writes l) q) ≡ q
load-leaves-plain l (FromLane (VirtualLane w k)) h = absurd h
load-leaves-plain l (FromLane (UnitLane u)) h = load-leaves l (UnitLane u) refl
load-leaves-plain l (FromLane (SlotLane n k w)) h = load-leaves l (SlotLane n k w) refl
load-leaves-plain l Undef h = refl
load-leaves-plain l (Bits c low w) h = refl

count : (n b : ℕ) → length (numbers b n) ≡ n
count zero b = refl
count (suc n) b = let h = count n (suc b) in omega (arith, h)

long-sources : (qs : List Source) → length (numbers 0 (length qs)) ≤ length qs
long-sources qs = let h = count (length qs) 0 in omega (arith, h)

abbrev at-lane : Load → ℕ → Source
at-lane l j = source_at (numbers 0 (length l.sources)) l.sources j

-- what is loaded to a lane
load-gives : (l : Load) (j : ℕ) → is_one (numbers 0 (length l.sources)) j ≡ true → settled (through (load_writes l) (FromLane (VirtualLane l.tiny j))) ≡ at-lane l j
load-gives l j e = ap settled (range-given l.tiny l.early (numbers 0 (length l.sources)) l.sources j (long-sources l.sources) e)

is-tiny : ℕ → Load → Bool
is-tiny c l = nat_eq l.tiny c

pub loaded : (ls : List Load) → ((m n : Load) → Member m ls → Member n ls → m.tiny ≡ n.tiny → m ≡ n) → ((m : Load) (q : Source) → Member m ls → Member q m.sources → IsPlain q) → (j : ℕ) (l : Load) → Member l ls → is_one (numbers 0 (length l.sources)) j ≡ true
    → traced (map load_writes ls) (FromLane (VirtualLane l.tiny j)) ≡ at-lane l j
unfolding is-tiny
loaded [] once plain j l m e = absurd (member-none l m)
loaded (x ∷ ls) once plain j l m e = go (list_any (is-tiny l.tiny) ls) refl (λ y k h. loaded ls (λ a b p q. once a b (later p) (later q)) (λ a q p w. plain a q (later p) w) j y k h)
  where
    go : (y : Bool) → list_any (is-tiny l.tiny) ls ≡ y → ((y : Load) → Member y ls → is_one (numbers 0 (length y.sources)) j ≡ true → traced (map load_writes ls) (FromLane (VirtualLane y.tiny j)) ≡ at-lane y j)
        → traced (map load_writes (x ∷ ls)) (FromLane (VirtualLane l.tiny j)) ≡ at-lane l j
    go true h ih =
        let a = any-of (is-tiny l.tiny) ls h in
        let same : a.0 ≡ l = once a.0 l (later a.1) m (eqb-true a.0.tiny l.tiny a.2) in
        let inside : Member l ls = subst (λ z. Member z ls) same a.1 in
        ap (λ q. settled (through (load_writes x) q)) (ih l inside e) ∙ load-leaves-plain x (at-lane l j) (plain l (at-lane l j) m (source-among (numbers 0 (length l.sources)) l.sources j (long-sources l.sources) e))
    go false h ih = member-elim l x ls (λ s. ap (λ q. settled (through (load_writes x) q)) (loads-leave ls (VirtualLane l.tiny j) apart) ∙ (ap (λ z. settled (through (load_writes z) (FromLane (VirtualLane l.tiny j)))) (sym s) ∙ load-gives l j e)) (λ k. absurd (let z = any-in (is-tiny l.tiny) l ls k (eq-eqb l.tiny l.tiny refl) in cc)) m
      where
        apart : (m : Load) → Member m ls → is_lane_of m.tiny (VirtualLane l.tiny j) ≡ false
        apart m k = none-of (is-tiny l.tiny) m ls h k

-- stores behind

module _ (s : Spilling) where
  pub saves-leave : (xs : List Save) (a : Lane) → ((x : Save) (k w : ℕ) → Member x xs → Member k x.lanes → a ≡ SlotLane s.slot k w → ⊥) → traced (map (save_writes s) xs) (FromLane a) ≡ FromLane a
  saves-leave [] a h = refl
  saves-leave (x ∷ xs) a h =
      ap (λ q. settled (through (save_writes s x) q)) (saves-leave xs a (λ y k w m. h y k w (later m)))
      ∙ ap settled (filled-free (save_writes s x) a (stored-apart s.slot (width s) s.target x.lanes (map FromLane (tiny_lanes x.tiny 0 (length x.lanes))) a (λ k w m e. h x k w first m e)))

  save-leaves-tiny : (x : Save) (c z : ℕ) → settled (through (save_writes s x) (FromLane (VirtualLane c z))) ≡ FromLane (VirtualLane c z)
  save-leaves-tiny x c z = ap settled (filled-free (save_writes s x) (VirtualLane c z) (stored-apart s.slot (width s) s.target x.lanes (map FromLane (tiny_lanes x.tiny 0 (length x.lanes))) (VirtualLane c z) (λ k w m e. cc)))

  -- the tiny's lane beside a number
  tiny-at : (c b : ℕ) (ks : List ℕ) (k : ℕ) → is_one ks k ≡ true → (z : ℕ) × (source_at ks (map FromLane (tiny_lanes c b (length ks))) k ≡ FromLane (VirtualLane c z)) × (b ≤ z) × (place (lanes_by s.range ks) (VirtualLane s.range k) ≡ place (tiny_lanes c b (length ks)) (VirtualLane c z))
  tiny-at c b [] k e = absurd (cc)
  tiny-at c b (j ∷ ks) k e = go (nat_eq j k) refl e (tiny-at c (suc b) ks k)
    where
      own : (v a b : ℕ) → same_lane (VirtualLane v a) (VirtualLane v b) ≡ nat_eq a b
      own v a b = ap (λ y. y && nat_eq a b) (eq-eqb v v refl)

      past : (z : ℕ) → suc b ≤ z → nat_eq b z ≡ false
      past z h = by (nat_eq b z) refl
        where
          by : (y : Bool) → nat_eq b z ≡ y → nat_eq b z ≡ false
          by false e = e
          by true e = let q = eqb-true b z e in absurd (omega (arith, h, q))

      head : (y : Bool) → nat_eq j k ≡ y → place (lanes_by s.range (j ∷ ks)) (VirtualLane s.range k) ≡ cond y (Some 0) (option_map suc (place (lanes_by s.range ks) (VirtualLane s.range k)))
      head y g = ap (λ q. cond q (Some 0) (option_map suc (place (lanes_by s.range ks) (VirtualLane s.range k)))) (own s.range j k ∙ g)

      tiny-head : (z : ℕ) (y : Bool) → nat_eq b z ≡ y → place (tiny_lanes c b (length (j ∷ ks))) (VirtualLane c z) ≡ cond y (Some 0) (option_map suc (place (tiny_lanes c (suc b) (length ks)) (VirtualLane c z)))
      tiny-head z y g = ap (λ q. cond q (Some 0) (option_map suc (place (tiny_lanes c (suc b) (length ks)) (VirtualLane c z)))) (own c b z ∙ g)

      go : (y : Bool) → nat_eq j k ≡ y → (y || is_one ks k) ≡ true
          → (is_one ks k ≡ true → (z : ℕ) × (source_at ks (map FromLane (tiny_lanes c (suc b) (length ks))) k ≡ FromLane (VirtualLane c z)) × (suc b ≤ z) × (place (lanes_by s.range ks) (VirtualLane s.range k) ≡ place (tiny_lanes c (suc b) (length ks)) (VirtualLane c z)))
          → (z : ℕ) × (source_at (j ∷ ks) (map FromLane (tiny_lanes c b (length (j ∷ ks)))) k ≡ FromLane (VirtualLane c z)) × (b ≤ z) × (place (lanes_by s.range (j ∷ ks)) (VirtualLane s.range k) ≡ place (tiny_lanes c b (length (j ∷ ks))) (VirtualLane c z))
      go true g f ih = (
        b,
        ap (λ y. cond y (FromLane (VirtualLane c b)) (source_at ks (map FromLane (tiny_lanes c (suc b) (length ks))) k)) g,
        omega arith,
        head true g ∙ sym (tiny-head b true (eq-eqb b b refl)),
      )
      go false g f ih =
          let r = ih f in (
            r.0,
            ap (λ y. cond y (FromLane (VirtualLane c b)) (source_at ks (map FromLane (tiny_lanes c (suc b) (length ks))) k)) g ∙ r.1,
            (let h = r.2 in omega (arith, h)),
            head false g ∙ (ap (option_map suc) r.3 ∙ sym (tiny-head r.0 false (past r.0 r.2))),
          )

  pub tiny-beside : (c : ℕ) (ks : List ℕ) (k : ℕ) → is_one ks k ≡ true → (z : ℕ) × (source_at ks (map FromLane (tiny_lanes c 0 (length ks))) k ≡ FromLane (VirtualLane c z)) × (0 ≤ z) × (place (lanes_by s.range ks) (VirtualLane s.range k) ≡ place (tiny_lanes c 0 (length ks)) (VirtualLane c z))
  tiny-beside c ks k e = tiny-at c 0 ks k e

  -- a lane of the slot holds what the tiny's lane held, where it is stored
  pub saved : (xs : List Save) (k : ℕ) → ((x y : Save) → Member x xs → Member y xs → Member k x.lanes → Member k y.lanes → x ≡ y) → (x : Save) → Member x xs → is_one x.lanes k ≡ true
      → traced (map (save_writes s) xs) (FromLane (slot_lane s k)) ≡ source_at x.lanes (map FromLane (tiny_lanes x.tiny 0 (length x.lanes))) k
  saved [] k once x m e = absurd (member-none x m)
  saved (y ∷ xs) k once x m e = go (list_any (λ (z : Save). is_one z.lanes k) xs) refl (λ z q h. saved xs k (λ a b p r. once a b (later p) (later r)) z q h)
    where
      go : (t : Bool) → list_any (λ (z : Save). is_one z.lanes k) xs ≡ t → ((z : Save) → Member z xs → is_one z.lanes k ≡ true → traced (map (save_writes s) xs) (FromLane (slot_lane s k)) ≡ source_at z.lanes (map FromLane (tiny_lanes z.tiny 0 (length z.lanes))) k)
          → traced (map (save_writes s) (y ∷ xs)) (FromLane (slot_lane s k)) ≡ source_at x.lanes (map FromLane (tiny_lanes x.tiny 0 (length x.lanes))) k
      go true h ih =
          let a = any-of (λ (z : Save). is_one z.lanes k) xs h in
          let same : a.0 ≡ x = once a.0 x (later a.1) m (of-one a.0.lanes k a.2) (of-one x.lanes k e) in
          let w = tiny-at x.tiny 0 x.lanes k e in
          ap (λ q. settled (through (save_writes s y) q)) (ih x (subst (λ z. Member z xs) same a.1) e ∙ w.1) ∙ (save-leaves-tiny y x.tiny w.0 ∙ sym w.1)
      go false h ih = member-elim x y xs
          (λ q. ap (λ u. settled (through (save_writes s y) u)) (saves-leave xs (slot_lane s k) (λ u j w p r g. let a = none-of (λ (z : Save). is_one z.lanes k) u xs h p in let b : is_one u.lanes k ≡ true = subst (λ n. is_one u.lanes n ≡ true) (sym (number k j w g)) (one-of u.lanes j r) in cc))
          ∙ (ap (λ u. settled (through (save_writes s u) (FromLane (slot_lane s k)))) (sym q) ∙ ap settled (stored-filled s.slot (width s) s.target x.lanes (map FromLane (tiny_lanes x.tiny 0 (length x.lanes))) k (count-lanes x.tiny 0 x.lanes) e)))
          (λ q. absurd (let z = any-in (λ (z : Save). is_one z.lanes k) x xs q e in cc)) m
        where
          number : (a b w : ℕ) → slot_lane s a ≡ SlotLane s.slot b w → a ≡ b
          number a b w g = cc
