-- What stores to a range's slot write, what reloads from it give, and what lanes hold behind them.
use Rattle.std.proofs.Common.{◌≡◌, ◌∷◌, ◌++◌, ◌⊎◌, inl, inr, ◌∙◌, ◌&&◌, ◌||◌, ◌≤◌, ℕ, Bool, true, false, cond, List, length, map, refl, sym, ap, subst, append-nil, arith, eq-eqb, eqb-true, []}
use Rattle.std.specs.Prelude.{nat_eq}
use Rattle.target_base.specs.declared.types.Target.{Target}
use Rattle.meaning.specs.Lanes.{Writes, filled, same_lane, through}
use Rattle.meaning.specs.Live.{Among, here, there}
use Rattle.meaning.specs.declared.types.Fill.TheVariants.{Moved}
use Rattle.meaning.specs.declared.types.Lane.{Lane}
use Rattle.meaning.specs.declared.types.Lane.TheVariants.{SlotLane, VirtualLane}
use Rattle.meaning.specs.declared.types.Source.{Source}
use Rattle.meaning.specs.declared.types.Source.TheVariants.{Bits, FromLane, Undef}
use Rattle.meaning.specs.declared.types.Write.{Write}
use Rattle.laws.proofs.Quiet.{same-refl, same-true}
use Rattle.mir_meaning.specs.Items.{at_all_widths, moved, undefined, widths_once}
use Rattle.mir_meaning.specs.Registers.{slot_lanes}
pub use Rattle.spill_laws.specs.Seats.{source_at}
use Rattle.instr_effects.proofs.Members.{either-elim, flat-of, map-of, member-elim, member-none}
use Rattle.lowering_laws.proofs.Traced.{is_one, is_written, lanes_by}

-- a lane that is written is the lane of a write
pub write-of : (ws : Writes) (a : Lane) → is_written ws a ≡ true → (x : Write) × Among x ws × (x.lane ≡ a)
write-of [] a e = absurd (cc)
write-of (x ∷ ws) a e = go (same_lane x.lane a) refl e (write-of ws a)
  where
    go : (b : Bool) → same_lane x.lane a ≡ b → (b || is_written ws a) ≡ true → (is_written ws a ≡ true → (y : Write) × Among y ws × (y.lane ≡ a)) → (y : Write) × Among y (x ∷ ws) × (y.lane ≡ a)
    go true g h ih = (x, here, same-true x.lane a g)
    go false g h ih = let z = ih h in (z.0, there z.1, z.2)

pub not-written : (ws : Writes) (a : Lane) → ((x : Write) → Among x ws → x.lane ≡ a → ⊥) → is_written ws a ≡ false
not-written ws a h = go (is_written ws a) refl
  where
    go : (b : Bool) → is_written ws a ≡ b → is_written ws a ≡ false
    go false e = e
    go true e = let z = write-of ws a e in absurd (h z.0 z.1 z.2)

-- whether writes are early makes no difference to what lanes hold
pub early-through : (e : Bool) (ls : List Lane) (ss : List Source) (q : Source) → through (moved e ls ss) q ≡ through (moved false ls ss) q
early-through e ls ss Undef = refl
early-through e ls ss (Bits c low width) = refl
early-through e ls ss (FromLane a) = go ls ss
  where
    go : (ls : List Lane) (ss : List Source) → filled (moved e ls ss) a ≡ filled (moved false ls ss) a
    go [] ss = refl
    go (l ∷ ls) [] = refl
    go (l ∷ ls) (q ∷ ss) = ap (cond (same_lane l a) (Moved q)) (go ls ss)

-- what is moved is moved to one of the lanes, from one of the sources

pub moved-lane : (early : Bool) (ls : List Lane) (ss : List Source) (x : Write) → Among x (moved early ls ss) → Among x.lane ls
moved-lane early [] ss x m = absurd (member-none x m)
moved-lane early (l ∷ ls) [] x m = absurd (member-none x m)
moved-lane early (l ∷ ls) (q ∷ ss) x m = member-elim x _ (moved early ls ss) (λ e. subst (λ y. Among y (l ∷ ls)) (sym (ap (λ (y : Write). y.lane) e)) here) (λ k. there (moved-lane early ls ss x k)) m

pub moved-source : (early : Bool) (ls : List Lane) (ss : List Source) (x : Write) → Among x (moved early ls ss) → (q : Source) × Among q ss × (x.fill ≡ Moved q)
moved-source early [] ss x m = absurd (member-none x m)
moved-source early (l ∷ ls) [] x m = absurd (member-none x m)
moved-source early (l ∷ ls) (q ∷ ss) x m = member-elim x _ (moved early ls ss) (λ e. (q, here, ap (λ (y : Write). y.fill) e)) (λ k. let z = moved-source early ls ss x k in (z.0, there z.1, z.2)) m

pub undefined-lane : (early : Bool) (ls : List Lane) (x : Write) → Among x (undefined early ls) → Among x.lane ls × (x.fill ≡ Moved Undef)
undefined-lane early ls x m = let z = map-of _ x ls m in (subst (λ y. Among y ls) (sym (ap (λ (y : Write). y.lane) z.2)) z.1, ap (λ (y : Write). y.fill) z.2)

pub moved-written : (early : Bool) (ls : List Lane) (ss : List Source) (a : Lane) → length ls ≤ length ss → Among a ls → is_written (moved early ls ss) a ≡ true
moved-written early [] ss a h m = absurd (member-none a m)
moved-written early (l ∷ ls) [] a h m = absurd (omega arith)
moved-written early (l ∷ ls) (q ∷ ss) a h m = member-elim a l ls (λ e. ap (λ b. b || is_written (moved early ls ss) a) (ap (λ c. same_lane c a) (sym e) ∙ same-refl a)) (λ k. go (same_lane l a) (moved-written early ls ss a (omega (arith, h)) k)) m
  where
    go : (b : Bool) → is_written (moved early ls ss) a ≡ true → (b || is_written (moved early ls ss) a) ≡ true
    go true e = refl
    go false e = e

pub undefined-written : (early : Bool) (ls : List Lane) (a : Lane) → Among a ls → is_written (undefined early ls) a ≡ true
undefined-written early [] a m = absurd (member-none a m)
undefined-written early (l ∷ ls) a m = member-elim a l ls (λ e. ap (λ b. b || is_written (undefined early ls) a) (ap (λ c. same_lane c a) (sym e) ∙ same-refl a)) (λ k. go (same_lane l a) (undefined-written early ls a k)) m
  where
    go : (b : Bool) → is_written (undefined early ls) a ≡ true → (b || is_written (undefined early ls) a) ≡ true
    go true e = refl
    go false e = e

pub written-left : (xs ys : Writes) (a : Lane) → is_written xs a ≡ true → is_written (xs ++ ys) a ≡ true
written-left [] ys a e = absurd (cc)
written-left (x ∷ xs) ys a e = go (same_lane x.lane a) e (written-left xs ys a)
  where
    go : (b : Bool) → (b || is_written xs a) ≡ true → (is_written xs a ≡ true → is_written (xs ++ ys) a ≡ true) → (b || is_written (xs ++ ys) a) ≡ true
    go true h ih = refl
    go false h ih = ih h

pub written-right : (xs ys : Writes) (a : Lane) → is_written ys a ≡ true → is_written (xs ++ ys) a ≡ true
written-right [] ys a e = e
written-right (x ∷ xs) ys a e = go (same_lane x.lane a) (written-right xs ys a e)
  where
    go : (b : Bool) → is_written (xs ++ ys) a ≡ true → (b || is_written (xs ++ ys) a) ≡ true
    go true h = refl
    go false h = h

-- a lane that is made Undef, or not written
pub undefined-of : (ls : List Lane) (a : Lane) → (filled (undefined false ls) a ≡ Moved (FromLane a)) ⊎ (filled (undefined false ls) a ≡ Moved Undef)
undefined-of [] a = inl refl
undefined-of (l ∷ ls) a = by (same_lane l a) refl (undefined-of ls a)
  where
    by : (y : Bool) → same_lane l a ≡ y → (filled (undefined false ls) a ≡ Moved (FromLane a)) ⊎ (filled (undefined false ls) a ≡ Moved Undef)
        → (filled (undefined false (l ∷ ls)) a ≡ Moved (FromLane a)) ⊎ (filled (undefined false (l ∷ ls)) a ≡ Moved Undef)
    by true e h = inr (ap (λ y. cond y (Moved Undef) (filled (undefined false ls) a)) e)
    by false e (inl h) = inl (ap (λ y. cond y (Moved Undef) (filled (undefined false ls) a)) e ∙ h)
    by false e (inr h) = inr (ap (λ y. cond y (Moved Undef) (filled (undefined false ls) a)) e ∙ h)

-- numbers

pub one-of : (ks : List ℕ) (k : ℕ) → Among k ks → is_one ks k ≡ true
one-of [] k m = absurd (member-none k m)
one-of (j ∷ ks) k m = member-elim k j ks (λ e. ap (λ b. b || is_one ks k) (eq-eqb j k (sym e))) (λ n. go (nat_eq j k) (one-of ks k n)) m
  where
    go : (b : Bool) → is_one ks k ≡ true → (b || is_one ks k) ≡ true
    go true e = refl
    go false e = e

pub of-one : (ks : List ℕ) (k : ℕ) → is_one ks k ≡ true → Among k ks
of-one [] k e = absurd (cc)
of-one (j ∷ ks) k e = go (nat_eq j k) refl e (of-one ks k)
  where
    go : (b : Bool) → nat_eq j k ≡ b → (b || is_one ks k) ≡ true → (is_one ks k ≡ true → Among k ks) → Among k (j ∷ ks)
    go true g h ih = subst (λ y. Among y (j ∷ ks)) (eqb-true j k g) here
    go false g h ih = there (ih h)

pub source-among : (ks : List ℕ) (ss : List Source) (k : ℕ) → length ks ≤ length ss → is_one ks k ≡ true → Among (source_at ks ss k) ss
source-among [] ss k h e = absurd (cc)
source-among (j ∷ ks) [] k h e = absurd (omega arith)
source-among (j ∷ ks) (q ∷ ss) k h e = go (nat_eq j k) e (source-among ks ss k (omega (arith, h)))
  where
    go : (b : Bool) → (b || is_one ks k) ≡ true → (is_one ks k ≡ true → Among (source_at ks ss k) ss) → Among (cond b q (source_at ks ss k)) (q ∷ ss)
    go true h ih = here
    go false h ih = there (ih h)

-- lanes of a register, and of a slot, that are given sources

own-lane : (v j k : ℕ) → same_lane (VirtualLane v j) (VirtualLane v k) ≡ nat_eq j k
own-lane v j k = ap (λ b. b && nat_eq j k) (eq-eqb v v refl)

pub range-filled : (v : ℕ) (early : Bool) (ks : List ℕ) (ss : List Source) (us : Writes) (k : ℕ) → length ks ≤ length ss → is_one ks k ≡ true
    → filled (moved early (lanes_by v ks) ss ++ us) (VirtualLane v k) ≡ Moved (source_at ks ss k)
range-filled v early [] ss us k h e = absurd (cc)
range-filled v early (j ∷ ks) [] us k h e = absurd (omega arith)
range-filled v early (j ∷ ks) (q ∷ ss) us k h e =
    ap (λ b. cond b (Moved q) (filled (moved early (lanes_by v ks) ss ++ us) (VirtualLane v k))) (own-lane v j k) ∙ go (nat_eq j k) e (range-filled v early ks ss us k (omega (arith, h)))
  where
    go : (b : Bool) → (b || is_one ks k) ≡ true → (is_one ks k ≡ true → filled (moved early (lanes_by v ks) ss ++ us) (VirtualLane v k) ≡ Moved (source_at ks ss k))
        → cond b (Moved q) (filled (moved early (lanes_by v ks) ss ++ us) (VirtualLane v k)) ≡ Moved (cond b q (source_at ks ss k))
    go true h ih = refl
    go false h ih = ih h

pub range-given : (v : ℕ) (early : Bool) (ks : List ℕ) (ss : List Source) (k : ℕ) → length ks ≤ length ss → is_one ks k ≡ true → filled (moved early (lanes_by v ks) ss) (VirtualLane v k) ≡ Moved (source_at ks ss k)
range-given v early ks ss k h e = ap (λ ws. filled ws (VirtualLane v k)) (sym (append-nil (moved early (lanes_by v ks) ss))) ∙ range-filled v early ks ss [] k h e

pub range-written : (v : ℕ) (early : Bool) (ks : List ℕ) (ss : List Source) (k : ℕ) → length ks ≤ length ss → is_one ks k ≡ true → is_written (moved early (lanes_by v ks) ss) (VirtualLane v k) ≡ true
range-written v early [] ss k h e = absurd (cc)
range-written v early (j ∷ ks) [] k h e = absurd (omega arith)
range-written v early (j ∷ ks) (q ∷ ss) k h e = ap (λ b. b || is_written (moved early (lanes_by v ks) ss) (VirtualLane v k)) (own-lane v j k) ∙ go (nat_eq j k) e (range-written v early ks ss k (omega (arith, h)))
  where
    go : (b : Bool) → (b || is_one ks k) ≡ true → (is_one ks k ≡ true → is_written (moved early (lanes_by v ks) ss) (VirtualLane v k) ≡ true) → (b || is_written (moved early (lanes_by v ks) ss) (VirtualLane v k)) ≡ true
    go true h ih = refl
    go false h ih = ih h

module _ (n : ℕ) (w : ℕ → ℕ) where
  -- these lanes of the slot, each at its width
  abbrev pub slot_by : List ℕ → List Lane
  slot_by ks = slot_lanes n ks (map w ks)

  same-slot : (j k : ℕ) → same_lane (SlotLane n j (w j)) (SlotLane n k (w k)) ≡ nat_eq j k
  same-slot j k = ap (λ b. b && (nat_eq j k && nat_eq (w j) (w k))) (eq-eqb n n refl) ∙ go (nat_eq j k) refl
    where
      go : (b : Bool) → nat_eq j k ≡ b → (b && nat_eq (w j) (w k)) ≡ b
      go true e = eq-eqb (w j) (w k) (ap w (eqb-true j k e))
      go false e = refl

  pub slot-filled : (early : Bool) (ks : List ℕ) (ss : List Source) (us : Writes) (k : ℕ) → length ks ≤ length ss → is_one ks k ≡ true
      → filled (moved early (slot_by ks) ss ++ us) (SlotLane n k (w k)) ≡ Moved (source_at ks ss k)
  slot-filled early [] ss us k h e = absurd (cc)
  slot-filled early (j ∷ ks) [] us k h e = absurd (omega arith)
  slot-filled early (j ∷ ks) (q ∷ ss) us k h e =
      ap (λ b. cond b (Moved q) (filled (moved early (slot_by ks) ss ++ us) (SlotLane n k (w k)))) (same-slot j k) ∙ go (nat_eq j k) e (slot-filled early ks ss us k (omega (arith, h)))
    where
      go : (b : Bool) → (b || is_one ks k) ≡ true → (is_one ks k ≡ true → filled (moved early (slot_by ks) ss ++ us) (SlotLane n k (w k)) ≡ Moved (source_at ks ss k))
          → cond b (Moved q) (filled (moved early (slot_by ks) ss ++ us) (SlotLane n k (w k))) ≡ Moved (cond b q (source_at ks ss k))
      go true h ih = refl
      go false h ih = ih h

  pub slot-lane-of : (ks : List ℕ) (a : Lane) → Among a (slot_by ks) → (j : ℕ) × Among j ks × (a ≡ SlotLane n j (w j))
  slot-lane-of [] a m = absurd (member-none a m)
  slot-lane-of (j ∷ ks) a m = member-elim a _ (slot_by ks) (λ e. (j, here, e)) (λ k. let z = slot-lane-of ks a k in (z.0, there z.1, z.2)) m

  module _ (t : Target) where
    -- what a store of sources to these lanes of the slot writes
    abbrev pub store_writes : List ℕ → List Source → Writes
    store_writes ks ss = moved false (slot_by ks) ss ++ undefined false (at_all_widths t n ks)

    pub stored-lane : (ks : List ℕ) (ss : List Source) (x : Write) → Among x (store_writes ks ss) → (j : ℕ) × (y : ℕ) × Among j ks × (x.lane ≡ SlotLane n j y)
    stored-lane ks ss x m =
        either-elim x (moved false (slot_by ks) ss) (undefined false (at_all_widths t n ks))
        (λ k. let z = slot-lane-of ks x.lane (moved-lane false (slot_by ks) ss x k) in (z.0, w z.0, z.1, z.2))
        (λ k.
        let z = flat-of (λ j. map (λ y. SlotLane n j y) (widths_once [] t.units)) x.lane ks (undefined-lane false (at_all_widths t n ks) x k).0 in
        let y = map-of (λ y. SlotLane n z.0 y) x.lane (widths_once [] t.units) z.2 in
        (z.0, y.0, z.1, y.2))
        m

    -- a lane of the slot that isn't stored, and one that isn't the slot's
    pub stored-beside : (ks : List ℕ) (ss : List Source) (k y : ℕ) → is_one ks k ≡ false → is_written (store_writes ks ss) (SlotLane n k y) ≡ false
    stored-beside ks ss k y e = not-written (store_writes ks ss) (SlotLane n k y) (λ x m g. let z = stored-lane ks ss x m in no z.0 z.1 (sym z.3 ∙ g) (one-of ks z.0 z.2))
      where
        number : (a b c d : ℕ) → SlotLane n a c ≡ SlotLane n b d → a ≡ b
        number a b c d e = cc

        no : (j u : ℕ) → SlotLane n j u ≡ SlotLane n k y → is_one ks j ≡ true → ⊥
        no j u g h = let z : is_one ks k ≡ true = subst (λ q. is_one ks q ≡ true) (number j k u y g) h in cc

    pub stored-apart : (ks : List ℕ) (ss : List Source) (a : Lane) → ((j y : ℕ) → Among j ks → a ≡ SlotLane n j y → ⊥) → is_written (store_writes ks ss) a ≡ false
    stored-apart ks ss a h = not-written (store_writes ks ss) a (λ x m g. let z = stored-lane ks ss x m in h z.0 z.1 z.2 (sym g ∙ z.3))

    -- what is stored behind these writes stands in its lane
    pub stored-filled : (ks : List ℕ) (ss : List Source) (k : ℕ) → length ks ≤ length ss → is_one ks k ≡ true → filled (store_writes ks ss) (SlotLane n k (w k)) ≡ Moved (source_at ks ss k)
    stored-filled ks ss k h e = slot-filled false ks ss (undefined false (at_all_widths t n ks)) k h e

-- lanes that are given one of two lists of sources: a lane gets nothing of both, or a source of each from the same place
module _ (F G : ℕ → Source) where
  pub data Parallel (ks : List ℕ) (xs ys : Writes) (a : Lane) : Type 0 where
    none : is_written xs a ≡ false → is_written ys a ≡ false → Parallel ks xs ys a
    both : (j : ℕ) → Among j ks → ((us : Writes) → filled (xs ++ us) a ≡ Moved (F j)) → ((us : Writes) → filled (ys ++ us) a ≡ Moved (G j)) → Parallel ks xs ys a

  pub parallel : (e d : Bool) (ls : List Lane) (ks : List ℕ) (a : Lane) → Parallel ks (moved e ls (map F ks)) (moved d ls (map G ks)) a
  parallel e d [] ks a = none refl refl
  parallel e d (l ∷ ls) [] a = none refl refl
  parallel e d (l ∷ ls) (k ∷ ks) a = go (same_lane l a) refl (parallel e d ls ks a)
    where
      go : (b : Bool) → same_lane l a ≡ b → Parallel ks (moved e ls (map F ks)) (moved d ls (map G ks)) a → Parallel (k ∷ ks) (moved e (l ∷ ls) (map F (k ∷ ks))) (moved d (l ∷ ls) (map G (k ∷ ks))) a
      go true g x = both k here (λ us. ap (λ c. cond c (Moved (F k)) (filled (moved e ls (map F ks) ++ us) a)) g) (λ us. ap (λ c. cond c (Moved (G k)) (filled (moved d ls (map G ks) ++ us) a)) g)
      go false g (none x y) = none (ap (λ c. c || is_written (moved e ls (map F ks)) a) g ∙ x) (ap (λ c. c || is_written (moved d ls (map G ks)) a) g ∙ y)
      go false g (both j m x y) =
          both j (there m) (λ us. ap (λ c. cond c (Moved (F k)) (filled (moved e ls (map F ks) ++ us) a)) g ∙ x us) (λ us. ap (λ c. cond c (Moved (G k)) (filled (moved d ls (map G ks) ++ us) a)) g ∙ y us)
